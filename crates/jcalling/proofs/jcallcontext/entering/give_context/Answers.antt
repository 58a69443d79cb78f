use Rattle.jvalues.specs.declared.jops.value.Value.TheVariants.{Ctx}
use Rattle.jlibcalls.specs.jcontexts.ActionCalls.{GivesOne}
use Rattle.jstepping.specs.jcore.MachineInvariants.{classes_of}
use Rattle.jcalling.proofs.JcallcontextProofs.CallOutcomes.{few_of, framed_ready, gives_told, of_frames, stand_of}
use Rattle.jcalling.proofs.jcallcontext.entering.give_context.Goals as goal

pub enter-requires-clause-few : goal.enter-requires-clause-few
enter-requires-clause-few g c = few_of c.args.m.now c.args.count c.requires _ c.in-Some.is

pub enter-requires-clause-place : goal.enter-requires-clause-place
enter-requires-clause-place g c = (stand_of c.args.m.now c.args.count c.requires _ c.in-Some.is).0.place

pub returns-clause-comes : goal.returns-clause-comes
returns-clause-comes g c =
    let m = c.args.m.now in
    let h = c.enter.new.frames in
    gives_told c.machine_laws.ensures.behind m c.args.count h (Ctx c.args.number) c.new.result c.new.ensures
    (of_frames (λ f. GivesOne (Ctx c.args.number) c.args.count f h) m.guests.running.frames _ c.in-Some.is c.in_ok-enter-in-Some.ensures.row)

pub returns-clause-ready : goal.returns-clause-ready
returns-clause-ready g c =
    let m = c.args.m.now in
    framed_ready m c.args.count c.requires c.enter.new.frames c.machine_laws.ensures.machine
    (c.in_ok-enter-in-Some.ensures.stand (classes_of m) (stand_of m c.args.count c.requires _ c.in-Some.is))
