use Rattle.std.proofs.Common.{List, subst}
use Rattle.joutput.specs.declared.jtrace.event.Event.{Event}
use Rattle.jcalling.specs.jcallplain.CallRowOutcomes.{Settles}
use Rattle.jcalling.proofs.JcallplainProofs.LibraryOutcomes.{left_stands, ran_comes}
use Rattle.jcalling.proofs.jcallplain.calling.call_plain.Goals as goal

pub settle-requires : goal.settle-requires
settle-requires g c = left_stands c.args.m.now c.run_call.new.m c.args.call c.args.count c.in_ok-done.done c.in_ok-done.ensures.ran c.requires.calling

pub returns-clause-comes : goal.returns-clause-comes
returns-clause-comes g c f frames =
    let way = c.in_ok-done.done.way in
    let settled =
    subst (λ (events : List Event). Settles c.run_call.new.m way events c.in_ok-came.came c.settle.new.m) c.in_ok-events.ensures c.in_ok-came.ensures.comes in
    ran_comes c.args.m.now c.run_call.new.m c.settle.new.m c.args.call c.args.count c.in_ok-done.done c.in_ok-came.came c.behind_laws.ensures
    c.machine_laws.ensures.behind c.machine_laws.ensures.number c.requires.calling.machine c.in_ok-done.ensures.ran settled f frames

pub returns-clause-fixed : goal.returns-clause-fixed
returns-clause-fixed g c =
    c.machine_laws.ensures.fixed c.args.m.now c.run_call.new.m c.settle.new.m c.in_ok-done.ensures.fixed c.in_ok-came.ensures.fixed
