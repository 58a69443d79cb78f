use Rattle.std.proofs.Common.{List, refl, subst}
use Rattle.joutput.specs.declared.jtrace.event.Event.{Event}
use Rattle.jlibcalls.specs.declared.jthreading.switching.Threaded.TheVariants as threaded
use Rattle.jstepping.specs.jcore.RaiseOutcomes.{RaisesIn}
use Rattle.jcallthread.proofs.ThreadCalls.{as_raised, raised_comes, raised_lives, raised_machine, raised_stands, turned_comes, turned_ready}
use Rattle.jcallthread.proofs.turning.call_turn.Goals as goal

pub raise-requires-clause-machine : goal.raise-requires-clause-machine
raise-requires-clause-machine g c =
    let m = c.args.m.now in
    let class = c.in-Raises.class in
    let n = c.turn_threads.new.m in
    raised_machine m c.args.call c.args.count c.requires.calling class n (as_raised m c.args.call c.args.count c.requires.calling c.in_ok-done.done class n c.in_ok-done.ensures.row c.in-Raises.is)

pub raise-requires-clause-lives : goal.raise-requires-clause-lives
raise-requires-clause-lives g c =
    let m = c.args.m.now in
    let class = c.in-Raises.class in
    let n = c.turn_threads.new.m in
    raised_lives m c.args.call c.args.count c.requires.calling class n (as_raised m c.args.call c.args.count c.requires.calling c.in_ok-done.done class n c.in_ok-done.ensures.row c.in-Raises.is)

pub raise-requires-clause-runs : goal.raise-requires-clause-runs
raise-requires-clause-runs g c =
    let m = c.args.m.now in
    let class = c.in-Raises.class in
    let n = c.turn_threads.new.m in
    raised_stands m c.args.call c.args.count c.requires.calling class n (as_raised m c.args.call c.args.count c.requires.calling c.in_ok-done.done class n c.in_ok-done.ensures.row c.in-Raises.is)

pub returns-in-Went-clause-comes : goal.returns-in-Went-clause-comes
returns-in-Went-clause-comes g c f frames =
    turned_comes c.args.m.now c.args.call c.args.count c.requires.calling c.in_ok-done.done threaded.Went c.went.result c.turn_threads.new.m c.in_ok-done.ensures.row
    c.in-Went.is tt c.went.ensures f frames

pub returns-in-Turned-clause-comes : goal.returns-in-Turned-clause-comes
returns-in-Turned-clause-comes g c f frames =
    turned_comes c.args.m.now c.args.call c.args.count c.requires.calling c.in_ok-done.done (threaded.Turned c.in-Turned.done) c.behind_turn.result c.turn_threads.new.m
    c.in_ok-done.ensures.row c.in-Turned.is tt c.behind_turn.ensures f frames

pub returns-in-Stuck-clause-comes : goal.returns-in-Stuck-clause-comes
returns-in-Stuck-clause-comes g c f frames =
    turned_comes c.args.m.now c.args.call c.args.count c.requires.calling c.in_ok-done.done threaded.Stuck _ c.turn_threads.new.m c.in_ok-done.ensures.row c.in-Stuck.is tt
    refl f frames

pub returns-in_ok-came-in-Raises-clause-comes : goal.returns-in_ok-came-in-Raises-clause-comes
returns-in_ok-came-in-Raises-clause-comes g c f frames =
    let m = c.args.m.now in
    let class = c.in-Raises.class in
    let n = c.turn_threads.new.m in
    let k = c.raise.new.m in
    let came = c.in_ok-came-in-Raises.came in
    let raises = subst (λ (told : List Event). RaisesIn n class told came k) c.new.ensures c.in_ok-came-in-Raises.ensures.comes in
    raised_comes m c.args.call c.args.count c.requires.calling c.guest_laws.ensures class n k came
    (as_raised m c.args.call c.args.count c.requires.calling c.in_ok-done.done class n c.in_ok-done.ensures.row c.in-Raises.is) raises f frames

pub returns-in-Went-clause-ready : goal.returns-in-Went-clause-ready
returns-in-Went-clause-ready g c =
    turned_ready c.args.m.now c.args.call c.args.count c.requires.calling c.in_ok-done.done threaded.Went c.went.result c.turn_threads.new.m c.in_ok-done.ensures.row
    c.in-Went.is tt c.went.ensures

pub returns-in-Turned-clause-ready : goal.returns-in-Turned-clause-ready
returns-in-Turned-clause-ready g c =
    turned_ready c.args.m.now c.args.call c.args.count c.requires.calling c.in_ok-done.done (threaded.Turned c.in-Turned.done) c.behind_turn.result c.turn_threads.new.m
    c.in_ok-done.ensures.row c.in-Turned.is tt c.behind_turn.ensures

pub returns-in_ok-came-in-Raises-clause-fixed : goal.returns-in_ok-came-in-Raises-clause-fixed
returns-in_ok-came-in-Raises-clause-fixed g c =
    c.machine_laws.ensures.fixed c.args.m.now c.turn_threads.new.m c.raise.new.m c.in_ok-done.ensures.fixed c.in_ok-came-in-Raises.ensures.fixed
