-- The threads of a machine as its definition's state has them.
use Rattle.std.specs.Prelude.{◌≡◌, ◌⊎◌, ◌<◌, ◌≤◌, ◌+◌, ◌^◌, ℕ, Bool, true, false, List, [], map, length, take, drop, Option, Some, None, option_map, slice_get, slice_set}
use Rattle.std.specs.List.{list_any}
use Rattle.jthreads.specs.declared.thread.Thread.{Thread}
use Rattle.jthreads.specs.ThreadTables.{is_runnable, lives_at, thread_at}
use Rattle.jsemantics.specs.jmachine.MachineStates.{FrameOf, GuestOf, State}
use Rattle.jsemantics.specs.jmachine.Store.{Store}
use Rattle.jruntime.specs.jstate.FrameLists.{Framed, all}
use Rattle.jruntime.specs.declared.jguests.guests.Guest.{Guest}
use Rattle.jruntime.specs.declared.jguests.guests.Guests.{Guests}

abbrev pub frames_of : {E : Type 0} → Option (Framed E) → List (FrameOf ℕ E)
frames_of None = []
frames_of (Some f) = all f

-- a thread without frames
abbrev pub nobody : {E : Type 0} → Guest E
nobody = record { frames = None; inherited = None; runnable = 0; failed = false }

abbrev pub guest_by : {E : Type 0} → Guest E → GuestOf ℕ E
guest_by g = record { frames = frames_of g.frames; inherited = g.inherited; runnable = g.runnable; failed = g.failed }

-- all of them, by their numbers
abbrev pub guests_of : {E : Type 0} → Guests E → List (GuestOf ℕ E)
guests_of g = slice_set (map guest_by g.others.items) g.at (guest_by g.running)

-- As many stand in the table, and the one that runs is among them: in its place is a thread without frames that didn't end by an exception.
pub record AreGuests {E : Type 0} (g : Guests E) : Type 0 where
  pub at : g.at < length g.others.items
  pub husk : option_map (λ (x : Guest E). x.failed) (slice_get g.others.items g.at) ≡ Some false
  pub table : length g.table ≡ length g.others.items
  pub few : length g.others.items ≤ 2 ^ 32

-- one of these ended by an exception
abbrev pub have_failed : {E : Type 0} → List (Guest E) → Bool
have_failed gs = list_any (λ g. g.failed) gs

-- the state, with a store
abbrev pub state_by : {E : Type 0} → Guests E → Store ℕ → State ℕ E
state_by g store = record {
  earlier = take g.at (guests_of g);
  running = guest_by g.running;
  later = drop (g.at + 1) (guests_of g);
  table = g.table;
  store = store;
  turns = g.turns;
}

-- ---- which may go on

-- Each thread that waits, waits for one that was started and has not ended.
abbrev pub AwaitLiving : List Thread → Type 0
AwaitLiving threads = (n t : ℕ) → (thread_at threads n).waits_for ≡ Some t → lives_at threads t ≡ true

-- A thread is runnable, and none waits for one that has ended.
pub record IsLive (threads : List Thread) (at : ℕ) : Type 0 where
  pub runs : is_runnable (thread_at threads at) ≡ true
  pub wait : AwaitLiving threads

-- The one that runs is runnable, and none waits for one that has ended: so it is between steps.
abbrev pub Lives : {E : Type 0} → Guests E → Type 0
Lives g = IsLive g.table g.at

-- ---- the thread that runs

-- another in the place of the thread that runs
abbrev pub with_running : {E : Type 0} → Guest E → Guests E → Guests E
with_running x g = record { running = x; others = g.others; at = g.at; table = g.table; turns = g.turns }

-- with other frames
abbrev pub framed_as : {E : Type 0} → Option (Framed E) → Guest E → Guest E
framed_as frames x = record { frames = frames; inherited = x.inherited; runnable = x.runnable; failed = x.failed }

abbrev pub with_frames : {E : Type 0} → Option (Framed E) → Guests E → Guests E
with_frames frames g = with_running (framed_as frames g.running) g

-- In the state, too, nothing else changes.
abbrev pub RunsAs : Type 0 → Type 0
RunsAs E = (g : Guests E) (x : Guest E) (store : Store ℕ) → state_by (with_running x g) store ≡ record (state_by g store) { running = guest_by x }

-- without frames, behind its end
abbrev pub ended_as : {E : Type 0} → Bool → Guest E → Guest E
ended_as failed x = record { frames = None; inherited = x.inherited; runnable = x.runnable; failed = failed }

-- another table
abbrev pub with_table : {E : Type 0} → List Thread → Guests E → Guests E
with_table table g = record { running = g.running; others = g.others; at = g.at; table = table; turns = g.turns }

-- ---- which threads there are

-- the thread that runs, or one of the others
abbrev pub IsOf : {E : Type 0} → Guest E → Guests E → Type 0
IsOf x g = (x ≡ g.running) ⊎ ((i : ℕ) × (slice_get g.others.items i ≡ Some x))

-- Each thread with frames was one.
abbrev pub HaveStayed : {E : Type 0} → Guests E → Guests E → Type 0
HaveStayed {E} old new = (x : Guest E) → IsOf x new → (x.frames ≡ None) ⊎ IsOf x old

-- None waits but threads without frames.
abbrev pub NoneWait : {E : Type 0} → Guests E → Type 0
NoneWait {E} g = (x : Guest E) (i : ℕ) → slice_get g.others.items i ≡ Some x → x.frames ≡ None
