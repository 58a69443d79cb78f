use Rattle.std.proofs.Common.{◌≡◌, ◌∙◌, ◌+◌, ℕ, [], suc, Option, Some, length, sym, ap, arith}
use Rattle.std.specs.Prelude.{option_map}
use Rattle.jmemory.specs.jheap.Heaps as heaps
use Rattle.jsemantics.specs.jmachine.MachineStates.{State, Went}
use Rattle.jsemantics.specs.jmachine.HeapObjects.{Thread}
use Rattle.jsemantics.specs.jmachine.Store.{with_object}
use Rattle.jsemantics.specs.jmachine.MachineSteps.{entries, guest, site}
use Rattle.jsemantics.specs.jmachine.ThreadTurns.{with_guest}
use Rattle.jruntime.specs.jstate.FrameLists.{Framed, all}
use Rattle.jruntime.specs.jstate.HeapMeanings.{first, number_in, store_by}
use Rattle.jruntime.specs.declared.jguests.guests.Guests.{Guests}
use Rattle.jruntime.specs.jguests.GuestThreads.{state_by, with_frames}
use Rattle.jlibcalls.specs.jthreading.ThreadFrames.{gone}
use Rattle.jlibcalls.proofs.JthreadingProofs.ThreadFrames.{are_behind, behind_lives, more_frames, turned_stay}
use Rattle.jlibcalls.proofs.JthreadingProofs.ThreadCreation.{has_cell, held_there, makes_row, makes_so, one_more_state, some_cells, thread_there, written, written_alike}
use Rattle.jlibcalls.proofs.JthreadingProofs.ThreadOutcomes.{framed_state}
use Rattle.jlibcalls.proofs.jthreading.making.make.Goals as goal

pub set_cell-requires : goal.set_cell-requires
set_cell-requires g c =
    has_cell c.celled_laws.ensures.has c.args.shapes.now c.args.heap.now c.args.new.begun.thread c.requires.celled
    (thread_there c.args.heap.now c.args.new.begun.thread c.requires.thread)

pub returns-clause-row : goal.returns-clause-row
returns-clause-row g c r p plan shapes things constants side f frames is inherits =
    let E = g.row.M.Denot in
    let old = c.args.guests.now in
    let heap = c.args.heap.now in
    let o = c.args.new.begun.thread in
    let runnable = c.args.new.begun.runnable in
    let store = store_by p shapes things constants heap in
    let s : State ℕ E = state_by old store in
    let t = thread_there heap o c.requires.thread in
    let some = some_cells heap o t (has_cell c.celled_laws.ensures.has c.args.shapes.now heap o c.requires.celled t) in
    let behind : c.go_on.new.guests ≡ with_frames (Some (gone c.args.count f)) old = c.go_on.ensures ∙ ap (λ (x : Option (Framed E)). with_frames (option_map (gone c.args.count) x) old) frames in
    let same : length c.go_on.new.guests.table ≡ length old.table = ap (λ (x : Guests E). length x.table) behind in
    let number : c.from.result + 1 ≡ suc (length old.table) = omega (arith, c.from.ensures, c.in_ok-number.ensures.number, same) in
    let put = c.set_cell.ensures ∙ ap (λ n. heaps.with_cell heap o 0 n) number in
    let made = with_object store o (Thread (Some (length old.table))) in
    let after : store_by p shapes things constants c.set_cell.new.self ≡ made =
    ap (store_by p shapes things constants) put ∙ written c.heap_laws.ensures.writes p shapes things constants heap o (length old.table) t some in
    let row = makes_row r (site r p plan s f.newest f.below) store (entries r p plan s (all f)) s.running.inherited side _ heap c.args.new c.args.kept
    (number_in (first t.object.cells)) is inherits (held_there c.heap_laws.ensures.each p shapes things constants heap o t) in
    makes_so r p plan s f c.args.count side made runnable c.args.kept row
    ∙ ap (λ (u : State ℕ E). Went (with_guest u (guest r p plan s runnable c.args.kept)) [])
    (framed_state c.guest_laws.ensures old (gone c.args.count f) made ∙ ap (λ (x : Guests E). state_by x made) (sym behind))
    ∙ ap (λ (u : State ℕ E). Went u [])
    (sym (one_more_state c.go_on.new.guests c.add.new.self (guest r p plan s runnable c.args.kept) made (are_behind c.args.count old c.go_on.new.guests c.go_on.ensures c.requires.are)
    c.in_ok-number.ensures.one_more c.in_ok-number.ensures.table c.in_ok-number.ensures.turns c.in_ok-number.ensures.at c.in_ok-number.ensures.now)
    ∙ ap (state_by c.add.new.self) (sym after))

pub returns-clause-alike : goal.returns-clause-alike
returns-clause-alike g c =
    let heap = c.args.heap.now in
    let o = c.args.new.begun.thread in
    let t = thread_there heap o c.requires.thread in
    let some = some_cells heap o t (has_cell c.celled_laws.ensures.has c.args.shapes.now heap o c.requires.celled t) in
    let number : c.from.result + 1 ≡ suc c.from.result = omega arith in
    written_alike c.heap_laws.ensures.writes heap c.set_cell.new.self o c.from.result t some (c.set_cell.ensures ∙ ap (λ n. heaps.with_cell heap o 0 n) number)

pub returns-clause-stay : goal.returns-clause-stay
returns-clause-stay g c = turned_stay c.args.count c.args.guests.now c.go_on.new.guests c.add.new.self c.go_on.ensures c.in_ok-number.ensures.stay

pub returns-clause-framed : goal.returns-clause-framed
returns-clause-framed g c = more_frames c.args.count c.args.guests.now c.go_on.new.guests c.add.new.self c.go_on.ensures c.in_ok-number.ensures.now

pub returns-clause-lives : goal.returns-clause-lives
returns-clause-lives g c alive = c.in_ok-number.ensures.lives (behind_lives c.args.count c.args.guests.now c.go_on.new.guests c.go_on.ensures alive)
