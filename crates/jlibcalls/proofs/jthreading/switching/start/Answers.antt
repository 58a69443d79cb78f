use Rattle.std.proofs.Common.{◌≡◌, ◌∙◌, ℕ, Option, Some, ap, sym, subst}
use Rattle.std.specs.Prelude.{option_map}
use Rattle.jlib.specs.declared.calls.ThreadCall.TheVariants as threads
use Rattle.jthreads.specs.ThreadTables.{is_started, table_after_start}
use Rattle.jruntime.specs.jstate.FrameLists.{Framed}
use Rattle.jruntime.specs.jstate.HeapMeanings.{store_by}
use Rattle.jruntime.specs.declared.jguests.guests.Guests.{Guests}
use Rattle.jruntime.specs.jguests.GuestThreads.{state_by, with_frames, with_table}
use Rattle.jlibcalls.specs.jthreading.ThreadFrames.{Shrunk, WentOn, gone, lost, without}
use Rattle.jlibcalls.specs.jthreading.ThreadMethods.{thread_called}
use Rattle.jlibcalls.proofs.JthreadingProofs.ThreadFrames.{behind_waits, raised_is, raised_lives, same_stay, started_stay, those_stay, turned_lives}
use Rattle.jlibcalls.proofs.JthreadingProofs.ThreadOutcomes.{is_false, is_true, may_behind, start_nobody, start_raises, start_so, start_stuck, started_same}
use Rattle.jlibcalls.proofs.jthreading.switching.start.Goals as goal

pub returns-then-count-ne1-clause-row : goal.returns-then-count-ne1-clause-row
returns-then-count-ne1-clause-row g c r p plan shapes things constants f frames sched =
    start_stuck c.heap_laws.ensures.each c.guest_laws.ensures r p plan shapes things constants c.args.heap.now c.args.guests.now f c.args.count c.requires.may frames c.if-count-ne1.true

pub returns-in_default-clause-row : goal.returns-in_default-clause-row
returns-in_default-clause-row g c r p plan shapes things constants f frames sched =
    ap (λ (n : ℕ). thread_called r p plan (state_by c.args.guests.now (store_by p shapes things constants c.args.heap.now)) f n threads.Start) c.if-count-ne1.false
    ∙ start_nobody c.heap_laws.ensures.each c.guest_laws.ensures r p plan shapes things constants c.args.heap.now c.args.guests.now f c.operand.result
    (c.operand.ensures f frames) (sym c.thread_in.ensures ∙ c.in_default.is)

pub lose_operands-requires : goal.lose_operands-requires
lose_operands-requires g c = may_behind c.args.count _ c.args.guests.now c.start.new.self c.start.ensures.table c.requires.may

pub go_on-requires : goal.go_on-requires
go_on-requires g c = may_behind c.args.count _ c.args.guests.now c.start.new.self c.start.ensures.table c.requires.may

pub returns-then-not-start-clause-row : goal.returns-then-not-start-clause-row
returns-then-not-start-clause-row g c r p plan shapes things constants f frames sched =
    let E = g.row.M.Denot in
    let old = c.args.guests.now in
    let before = is_false c.start.result (is_started old.table c.in-Some.t) c.start.ensures.answer c.if-not-start.true in
    let same : c.start.new.self ≡ old = c.start.ensures.table ∙ ap (λ ts. with_table ts old) (started_same old.table c.in-Some.t before) in
    let lost_is : c.lose_operands.new.guests ≡ with_frames (Some (lost 1 f)) old =
    subst (λ (n : ℕ). Shrunk n c.start.new.self c.lose_operands.new.guests) c.if-count-ne1.false c.lose_operands.ensures
    ∙ ap (λ (x : Guests E). with_frames (option_map (lost 1) x.running.frames) x) same
    ∙ ap (λ (o : Option (Framed E)). with_frames (option_map (lost 1) o) old) frames in (
      lost 1 f,
      lost_is,
      ap (λ (n : ℕ). thread_called r p plan (state_by old (store_by p shapes things constants c.args.heap.now)) f n threads.Start) c.if-count-ne1.false
          ∙ start_raises c.heap_laws.ensures.each c.guest_laws.ensures r p plan shapes things constants c.args.heap.now old f c.operand.result c.in-Some.t
          (c.operand.ensures f frames) (sym c.thread_in.ensures ∙ c.in-Some.is) before,
    )

pub returns-clause-row : goal.returns-clause-row
returns-clause-row g c r p plan shapes things constants f frames sched =
    let E = g.row.M.Denot in
    let old = c.args.guests.now in
    let first = is_true c.start.result (is_started old.table c.in-Some.t) c.start.ensures.answer c.if-not-start.false in
    let mid : c.go_on.new.guests ≡ with_table (table_after_start c.in-Some.t old.table) (with_frames (option_map (gone 1) old.running.frames) old) =
    subst (λ (n : ℕ). WentOn n c.start.new.self c.go_on.new.guests) c.if-count-ne1.false c.go_on.ensures
    ∙ ap (λ (x : Guests E). with_frames (option_map (gone 1) x.running.frames) x) c.start.ensures.table in
    ap (λ (n : ℕ). thread_called r p plan (state_by old (store_by p shapes things constants c.args.heap.now)) f n threads.Start) c.if-count-ne1.false
    ∙ start_so c.heap_laws.ensures.each c.guest_laws.ensures r p plan shapes things constants c.args.heap.now old f c.operand.result c.in-Some.t c.args.schedule.now
    c.go_on.new.guests c.turn.new.self c.in_ok-done.done (c.operand.ensures f frames) (sym c.thread_in.ensures ∙ c.in-Some.is) first frames sched mid c.in_ok-done.ensures.turn

pub returns-then-count-ne1-clause-stay : goal.returns-then-count-ne1-clause-stay
returns-then-count-ne1-clause-stay g c = same_stay c.args.guests.now

pub returns-in_default-clause-stay : goal.returns-in_default-clause-stay
returns-in_default-clause-stay g c = same_stay c.args.guests.now

pub returns-then-not-start-clause-stay : goal.returns-then-not-start-clause-stay
returns-then-not-start-clause-stay g c =
    let old = c.args.guests.now in
    let before = is_false c.start.result (is_started old.table c.in-Some.t) c.start.ensures.answer c.if-not-start.true in
    those_stay (without c.args.count old) c.lose_operands.new.guests
    (raised_is c.args.count c.in-Some.t old c.start.new.self c.lose_operands.new.guests c.start.ensures.table before c.lose_operands.ensures)

pub returns-then-not-start-clause-framed : goal.returns-then-not-start-clause-framed
returns-then-not-start-clause-framed g c =
    let old = c.args.guests.now in
    let before = is_false c.start.result (is_started old.table c.in-Some.t) c.start.ensures.answer c.if-not-start.true in
    raised_is c.args.count c.in-Some.t old c.start.new.self c.lose_operands.new.guests c.start.ensures.table before c.lose_operands.ensures

pub returns-then-not-start-clause-lives : goal.returns-then-not-start-clause-lives
returns-then-not-start-clause-lives g c =
    let old = c.args.guests.now in
    let before = is_false c.start.result (is_started old.table c.in-Some.t) c.start.ensures.answer c.if-not-start.true in
    raised_lives c.args.count old c.lose_operands.new.guests
    (raised_is c.args.count c.in-Some.t old c.start.new.self c.lose_operands.new.guests c.start.ensures.table before c.lose_operands.ensures)

pub returns-clause-stay : goal.returns-clause-stay
returns-clause-stay g c =
    started_stay c.args.count (table_after_start c.in-Some.t c.args.guests.now.table) c.args.guests.now c.start.new.self c.go_on.new.guests c.turn.new.self
    c.start.ensures.table c.go_on.ensures c.in_ok-done.ensures.stay

pub returns-clause-lives : goal.returns-clause-lives
returns-clause-lives g c alive =
    turned_lives c.in_ok-done.done c.turn.new.self c.in_ok-done.ensures.runs
    (c.in_ok-done.ensures.wait (behind_waits c.args.count c.start.new.self c.go_on.new.guests c.go_on.ensures (c.start.ensures.wait alive.wait)))
