use Rattle.std.proofs.Common.{◌≡◌, ◌∙◌, ℕ, ap, sym, subst}
use Rattle.std.specs.Prelude.{option_map}
use Rattle.jlib.specs.declared.calls.ThreadCall.TheVariants as threads
use Rattle.jthreads.specs.declared.table.Joined.TheVariants.{AtOnce, Waits}
use Rattle.jthreads.specs.ThreadTables.{join_answer, joined}
use Rattle.jsemantics.specs.jmachine.ThreadTurns.{thread_of}
use Rattle.jruntime.specs.jstate.HeapMeanings.{store_by}
use Rattle.jruntime.specs.declared.jguests.guests.Guests.{Guests}
use Rattle.jruntime.specs.jguests.GuestThreads.{state_by, with_frames, with_table}
use Rattle.jlibcalls.specs.jthreading.ThreadFrames.{WentOn, behind, gone}
use Rattle.jlibcalls.specs.jthreading.ThreadMethods.{thread_called}
use Rattle.jlibcalls.proofs.JthreadingProofs.ThreadFrames.{behind_lives, behind_waits, joined_is, same_stay, those_stay, turned_lives, waiting_stay}
use Rattle.jlibcalls.proofs.JthreadingProofs.ThreadOutcomes.{at_is, join_goes, join_nobody, join_so, join_stuck, joined_same}
use Rattle.jlibcalls.proofs.jthreading.switching.join.Goals as goal

pub returns-then-count-ne1-clause-row : goal.returns-then-count-ne1-clause-row
returns-then-count-ne1-clause-row g c r p plan shapes things constants f frames sched =
    join_stuck c.heap_laws.ensures.each c.guest_laws.ensures r p plan shapes things constants c.args.heap.now c.args.guests.now f c.args.count c.requires.may frames c.if-count-ne1.true

pub returns-in_default-clause-row : goal.returns-in_default-clause-row
returns-in_default-clause-row g c r p plan shapes things constants f frames sched =
    ap (λ (n : ℕ). thread_called r p plan (state_by c.args.guests.now (store_by p shapes things constants c.args.heap.now)) f n threads.Join) c.if-count-ne1.false
    ∙ join_nobody c.heap_laws.ensures.each c.guest_laws.ensures r p plan shapes things constants c.args.heap.now c.args.guests.now f c.operand.result
    (c.operand.ensures f frames) (sym c.thread_in.ensures ∙ c.in_default.is)

pub returns-in-AtOnce-clause-row : goal.returns-in-AtOnce-clause-row
returns-in-AtOnce-clause-row g c r p plan shapes things constants f frames sched =
    let E = g.row.M.Denot in
    let old = c.args.guests.now in
    let behind = subst (λ (n : ℕ). WentOn n old c.go_on.new.guests) c.if-count-ne1.false c.go_on.ensures in
    let once : join_answer c.in-Some.t old.table ≡ AtOnce = ap (λ (x : Guests E). join_answer c.in-Some.t x.table) (sym behind) ∙ sym c.join.ensures.answer ∙ c.in-AtOnce.is in
    let mid : c.join.new.self ≡ with_frames (option_map (gone 1) old.running.frames) old =
    c.join.ensures.table ∙ ap (λ (x : Guests E). with_table (joined x.at c.in-Some.t x.table) x) behind
    ∙ ap (λ ts. with_table ts (with_frames (option_map (gone 1) old.running.frames) old)) (joined_same old.table old.at c.in-Some.t once) in
    ap (λ (n : ℕ). thread_called r p plan (state_by old (store_by p shapes things constants c.args.heap.now)) f n threads.Join) c.if-count-ne1.false
    ∙ join_goes c.heap_laws.ensures.each c.guest_laws.ensures r p plan shapes things constants c.args.heap.now old f c.operand.result c.in-Some.t c.join.new.self
    (c.operand.ensures f frames) (sym c.thread_in.ensures ∙ c.in-Some.is) once frames mid

pub returns-in_ok-done-in-Waits-clause-row : goal.returns-in_ok-done-in-Waits-clause-row
returns-in_ok-done-in-Waits-clause-row g c r p plan shapes things constants f frames sched =
    let E = g.row.M.Denot in
    let old = c.args.guests.now in
    let store = store_by p shapes things constants c.args.heap.now in
    let behind = subst (λ (n : ℕ). WentOn n old c.go_on.new.guests) c.if-count-ne1.false c.go_on.ensures in
    let waits : join_answer c.in-Some.t old.table ≡ Waits = ap (λ (x : Guests E). join_answer c.in-Some.t x.table) (sym behind) ∙ sym c.join.ensures.answer ∙ c.in-Waits.is in
    let mid : c.join.new.self ≡ with_table (joined (thread_of (state_by old store)) c.in-Some.t old.table) (with_frames (option_map (gone 1) old.running.frames) old) =
    c.join.ensures.table ∙ ap (λ (x : Guests E). with_table (joined x.at c.in-Some.t x.table) x) behind
    ∙ ap (λ (n : ℕ). with_table (joined n c.in-Some.t old.table) (with_frames (option_map (gone 1) old.running.frames) old)) (sym (at_is old store c.requires.are)) in
    ap (λ (n : ℕ). thread_called r p plan (state_by old store) f n threads.Join) c.if-count-ne1.false
    ∙ join_so c.heap_laws.ensures.each c.guest_laws.ensures r p plan shapes things constants c.args.heap.now old f c.operand.result c.in-Some.t c.args.schedule.now
    c.join.new.self c.turn.new.self c.in_ok-done-in-Waits.done (c.operand.ensures f frames) (sym c.thread_in.ensures ∙ c.in-Some.is) waits frames sched mid c.in_ok-done-in-Waits.ensures.turn

pub returns-then-count-ne1-clause-stay : goal.returns-then-count-ne1-clause-stay
returns-then-count-ne1-clause-stay g c = same_stay c.args.guests.now

pub returns-in_default-clause-stay : goal.returns-in_default-clause-stay
returns-in_default-clause-stay g c = same_stay c.args.guests.now

pub returns-in-AtOnce-clause-stay : goal.returns-in-AtOnce-clause-stay
returns-in-AtOnce-clause-stay g c =
    let old = c.args.guests.now in
    those_stay (behind c.args.count old) c.join.new.self
    (joined_is c.args.count c.in-Some.t old c.go_on.new.guests c.join.new.self c.go_on.ensures c.join.ensures.table (sym c.join.ensures.answer ∙ c.in-AtOnce.is))

pub returns-in-AtOnce-clause-framed : goal.returns-in-AtOnce-clause-framed
returns-in-AtOnce-clause-framed g c =
    let old = c.args.guests.now in
    joined_is c.args.count c.in-Some.t old c.go_on.new.guests c.join.new.self c.go_on.ensures c.join.ensures.table (sym c.join.ensures.answer ∙ c.in-AtOnce.is)

pub returns-in-AtOnce-clause-lives : goal.returns-in-AtOnce-clause-lives
returns-in-AtOnce-clause-lives g c =
    let old = c.args.guests.now in
    behind_lives c.args.count old c.join.new.self
    (joined_is c.args.count c.in-Some.t old c.go_on.new.guests c.join.new.self c.go_on.ensures c.join.ensures.table (sym c.join.ensures.answer ∙ c.in-AtOnce.is))

pub returns-in_ok-done-in-Waits-clause-stay : goal.returns-in_ok-done-in-Waits-clause-stay
returns-in_ok-done-in-Waits-clause-stay g c =
    waiting_stay c.args.count c.args.guests.now c.go_on.new.guests c.join.new.self c.turn.new.self (λ x. joined x.at c.in-Some.t x.table)
    c.go_on.ensures c.join.ensures.table c.in_ok-done-in-Waits.ensures.stay

pub returns-in_ok-done-in-Waits-clause-lives : goal.returns-in_ok-done-in-Waits-clause-lives
returns-in_ok-done-in-Waits-clause-lives g c alive =
    turned_lives c.in_ok-done-in-Waits.done c.turn.new.self c.in_ok-done-in-Waits.ensures.runs
    (c.in_ok-done-in-Waits.ensures.wait (c.join.ensures.wait (behind_waits c.args.count c.args.guests.now c.go_on.new.guests c.go_on.ensures alive.wait)))
