-- Turns, by the threads' table and the schedule.
use Rattle.std.proofs.Common.{◌≡◌, ◌∙◌, Bool, ℕ, ◌+◌, List, take, drop, Option, Some, None, sym, ap, ap₂}
use Rattle.std.specs.Prelude.{slice_get}
use Rattle.jthreads.specs.declared.thread.Thread.{Thread}
use Rattle.jthreads.specs.Schedule.{picked}
use Rattle.jthreads.specs.ThreadTables.{runnable_numbers, table_after_end}
use Rattle.joutput.specs.declared.jtrace.event.Event.{Event}
use Rattle.joutput.specs.declared.jtrace.event.End.{End}
use Rattle.jsemantics.specs.jmachine.MachineStates.{GuestOf, State, Over, Went}
use Rattle.jsemantics.specs.jmachine.Store.{Store}
use Rattle.jsemantics.specs.jmachine.ThreadTurns.{with_ended, thread_of, end_of, given_to, guests, turn_of, turned}
use Rattle.jruntime.specs.declared.jguests.guests.Guests.{Guests}
use Rattle.jruntime.specs.jguests.GuestThreads.{AreGuests, RunsAs, ended_as, guest_by, guests_of, state_by, with_running, with_table}
use Rattle.jruntime.specs.declared.jguests.turns.Turned.{Turned}
use Rattle.jruntime.specs.jguests.TurnOutcomes.{EndsTurn, Turns}
use Rattle.jruntime.proofs.JguestsProofs.ThreadLists.{at_is, own, whole}

module _ {E : Type 0} where
  -- none can run
  pub over : (schedule numbers : List ℕ) (g : Guests E) (o : Option ℕ) (end : End) (store : Store ℕ) (events : List Event)
      → o ≡ picked schedule g.turns numbers → numbers ≡ runnable_numbers g.table → o ≡ None → end ≡ end_of (state_by g store)
      → turned schedule (state_by g store) events ≡ Over (state_by g store) events end
  unfolding turned
  over schedule numbers g o end store events is rows none ends =
      let s = state_by g store in
      ap (turn_of s events) (sym (sym none ∙ is ∙ ap (picked schedule g.turns) rows)) ∙ ap (Over s events) (sym ends)

  -- all threads, the one of a number running
  abbrev made : Store ℕ → List (GuestOf ℕ E) → ℕ → GuestOf ℕ E → List Thread → ℕ → State ℕ E
  made store all t x table turns = record { earlier = take t all; running = x; later = drop (t + 1) all; table = table; store = store; turns = turns }

  pub all_are : (g : Guests E) (store : Store ℕ) → AreGuests g → guests (state_by g store) ≡ guests_of g
  all_are g store are = whole (guests_of g) g.at (guest_by g.running) (own g are)

  -- one runs
  pub goes : (schedule numbers : List ℕ) (g h : Guests E) (o : Option ℕ) (t : ℕ) (store : Store ℕ) (events : List Event) → AreGuests g
      → o ≡ picked schedule g.turns numbers → numbers ≡ runnable_numbers g.table → o ≡ Some t
      → slice_get (guests_of g) t ≡ Some (guest_by h.running) → guests_of h ≡ guests_of g → h.at ≡ t → h.table ≡ g.table → h.turns ≡ g.turns + 1
      → turned schedule (state_by g store) events ≡ Went (state_by h store) events
  unfolding turned
  goes schedule numbers g h o t store events are is rows some there same at table turns =
      let s = state_by g store in
      let all = all_are g store are in
      let x = guest_by h.running in
      ap (turn_of s events) (sym (sym some ∙ is ∙ ap (picked schedule g.turns) rows))
      ∙ ap (given_to s events t) (ap (λ gs. slice_get gs t) all ∙ there)
      ∙ ap (λ u. Went u events) (
      ap (λ gs. made store gs t x g.table (g.turns + 1)) (all ∙ sym same)
      ∙ ap (λ n. made store (guests_of h) n x g.table (g.turns + 1)) (sym at)
      ∙ ap₂ (λ ts n. made store (guests_of h) h.at x ts n) (sym table) (sym turns))

-- ---- the thread that runs ends

pub ends_turn : {E : Type 0} → RunsAs E → (schedule : List ℕ) (failed : Bool) (g mid h : Guests E) (done : Turned) → AreGuests g
    → mid ≡ with_table (table_after_end g.at g.table) (with_running (ended_as failed g.running) g) → Turns schedule mid done h → EndsTurn schedule failed g done h
ends_turn {E} runs schedule failed g mid h done are is turns before store events =
    let s = state_by g before in
    let at : thread_of s ≡ g.at = at_is g before are in
    let same : state_by mid store ≡ with_ended s store failed =
    ap (λ (x : Guests E). state_by x store) is
    ∙ ap (λ (x : State ℕ E). record x { table = table_after_end g.at g.table }) (runs g (ended_as failed g.running) store)
    ∙ ap (λ (n : ℕ). record (record (state_by g store) { running = guest_by (ended_as failed g.running) }) { table = table_after_end n g.table }) (sym at) in
    ap (λ (x : State ℕ E). turned schedule x events) (sym same) ∙ turns store events
