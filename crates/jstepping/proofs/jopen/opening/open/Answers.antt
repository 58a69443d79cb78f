use Rattle.std.proofs.Common.{subst}
use Rattle.jresolution.specs.jprogram.ProgramClasses.{Program}
use Rattle.jstepping.specs.jopen.InitialHeaps.{Begins}
use Rattle.jstepping.specs.jopen.InitialMachines.{BeginsMain}
use Rattle.jstepping.proofs.jopen.opening.open.Goals as goal

pub returns : goal.returns
returns g c =
    let b : Begins c.args.ready.now.program c.args.shaped.now.shapes c.args.cells c.in-Some.begun = rw c.in-Some.is at c.in_ok-begun.ensures in
    record {
      room = b.room;
      program = b.program;
      store = b.store;
      built = b.built;
      celled = b.celled;
      statics = b.statics;
      alone = c.in_ok-frames.ensures.alone;
      frames = subst (λ (p : Program). BeginsMain {E = g.row.M.Denot} p c.args.first c.in_ok-frames.frames) c.program.ensures c.in_ok-frames.ensures.begins;
    }
