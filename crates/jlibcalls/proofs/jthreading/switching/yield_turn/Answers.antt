use Rattle.std.proofs.Common.{◌∙◌, ℕ, ap, subst}
use Rattle.jlib.specs.declared.calls.ThreadCall.TheVariants as threads
use Rattle.jruntime.specs.jguests.GuestThreads.{state_by}
use Rattle.jruntime.specs.jstate.HeapMeanings.{store_by}
use Rattle.jlibcalls.specs.jthreading.ThreadMethods.{thread_called}
use Rattle.jlibcalls.specs.jthreading.ThreadFrames.{WentOn}
use Rattle.jlibcalls.proofs.JthreadingProofs.ThreadFrames.{behind_waits, same_stay, turned_lives, turned_stay}
use Rattle.jlibcalls.proofs.JthreadingProofs.ThreadOutcomes.{yield_so, yield_stuck}
use Rattle.jlibcalls.proofs.jthreading.switching.yield_turn.Goals as goal

pub returns-then-count-ne0-clause-row : goal.returns-then-count-ne0-clause-row
returns-then-count-ne0-clause-row g c r p plan shapes things constants f frames sched =
    yield_stuck c.heap_laws.ensures.each c.guest_laws.ensures r p plan shapes things constants c.args.heap.now c.args.guests.now f c.args.count c.requires.may frames c.if-count-ne0.true

pub returns-clause-row : goal.returns-clause-row
returns-clause-row g c r p plan shapes things constants f frames sched =
    let mid = subst (λ (n : ℕ). WentOn n c.args.guests.now c.go_on.new.guests) c.if-count-ne0.false c.go_on.ensures in
    ap (λ (n : ℕ). thread_called r p plan (state_by c.args.guests.now (store_by p shapes things constants c.args.heap.now)) f n threads.Yield) c.if-count-ne0.false
    ∙ yield_so c.heap_laws.ensures.each c.guest_laws.ensures r p plan shapes things constants c.args.heap.now c.args.guests.now f c.args.schedule.now c.go_on.new.guests c.turn.new.self
    c.in_ok-done.done frames sched mid c.in_ok-done.ensures.turn

pub returns-then-count-ne0-clause-stay : goal.returns-then-count-ne0-clause-stay
returns-then-count-ne0-clause-stay g c = same_stay c.args.guests.now

pub returns-clause-stay : goal.returns-clause-stay
returns-clause-stay g c = turned_stay c.args.count c.args.guests.now c.go_on.new.guests c.turn.new.self c.go_on.ensures c.in_ok-done.ensures.stay

pub returns-clause-lives : goal.returns-clause-lives
returns-clause-lives g c alive =
    turned_lives c.in_ok-done.done c.turn.new.self c.in_ok-done.ensures.runs
    (c.in_ok-done.ensures.wait (behind_waits c.args.count c.args.guests.now c.go_on.new.guests c.go_on.ensures alive.wait))
