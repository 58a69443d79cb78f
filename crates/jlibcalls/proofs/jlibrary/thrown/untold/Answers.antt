use Rattle.std.specs.Prelude.{[], take}
use Rattle.jlib.specs.declared.calls.ThrownInit.TheVariants as given
use Rattle.jsemantics.specs.jmachine.Throwables.{init}
use Rattle.jlibcalls.proofs.JlibraryProofs.Dispatch.{none_does, one_does, one_receives}
use Rattle.jlibcalls.proofs.JlibraryProofs.ArityMismatches.{no_untold}
use Rattle.jlibcalls.proofs.jlibrary.thrown.untold.Goals as goal

pub returns-in-None-clause-row : goal.returns-in-None-clause-row
returns-in-None-clause-row g c =
    none_does (λ s values. init s given.Nothing values) (take c.args.count c.args.frames.now.newest.operands) (λ s. no_untold s (take c.args.count c.args.frames.now.newest.operands) c.in-None.ensures) c.args.shapes.now c.args.heap.now

pub returns-in-Some-clause-row : goal.returns-in-Some-clause-row
returns-in-Some-clause-row g c =
    one_does (λ s values. init s given.Nothing values) (take c.args.count c.args.frames.now.newest.operands) c.in-Some.thrown c.in-Some.ensures c.args.shapes.now c.args.heap.now c.init.new.heap _ [] c.init.ensures.row

pub init-requires-clause-cell : goal.init-requires-clause-cell
init-requires-clause-cell g c =
    c.requires.cell c.in-Some.thrown (one_receives (take c.args.count c.args.frames.now.newest.operands) c.in-Some.thrown c.in-Some.ensures)
