-- What a call of Thread does to a machine by numbers.
use Rattle.std.specs.Prelude.{◌≡◌, ℕ, [], take, Some}
use Rattle.jmemory.specs.jheap.Heaps.{Heaped}
use Rattle.jlib.specs.declared.calls.ThreadCall.{ThreadCall}
use Rattle.jlib.specs.declared.side.Side.{Side}
use Rattle.jruntime.specs.declared.jrun.came.Came.{Came}
use Rattle.jruntime.specs.declared.jrun.came.Came.TheVariants as stepped
use Rattle.jruntime.specs.jstate.ObjectCells.{StayCelled}
use Rattle.jruntime.specs.jstate.FrameLists.{Framed}
use Rattle.jruntime.specs.jstate.HeapMeanings.{AreBuilt}
use Rattle.jruntime.specs.declared.jguests.guests.Guests.{Guests}
use Rattle.jruntime.specs.declared.jguests.turns.Turned.{Turned}
use Rattle.jruntime.specs.declared.jguests.turns.Turned.TheVariants as turns
use Rattle.jruntime.specs.jguests.GuestThreads.{AreGuests, HaveStayed, Lives}
use Rattle.jlibcalls.specs.declared.jthreading.making.Given.{Given}
use Rattle.jlibcalls.specs.declared.jthreading.switching.Threaded.{Threaded}
use Rattle.jlibcalls.specs.jthreading.ThreadEffects.{LivesOn, StayBehind, StaysFramed}
use Rattle.jlibcalls.specs.jthreading.ThreadConstructors.{IsGiven, MakesThread, NamesNoMore}
use Rattle.jlibcalls.specs.jthreading.ThreadFrames.{behind}
use Rattle.jlibcalls.specs.jthreading.ThreadMethods.{CallsThread}
use Rattle.jstepping.specs.declared.jcore.machine.Machine.{Machine}

-- with other threads, and with another heap
abbrev pub with_threads : {E : Type 0} → Guests E → Heaped → Machine E → Machine E
with_threads guests heap m = record m { guests = guests; heap = heap }

-- The run goes on behind a turn, or has ended, and nothing is told.
abbrev pub turned_as : Turned → Came
turned_as turns.Goes = stepped.Went []
turned_as (turns.Ends end) = stepped.Ended [] end

-- A call that makes no thread was done by its threads, and nothing else has changed.
pub record TurnsOn {E : Type 0} (m : Machine E) (call : ThreadCall) (count : ℕ) (done : Threaded) (n : Machine E) : Type 0 where
  pub guests : Guests E
  pub is : n ≡ with_threads guests m.heap m
  pub row : CallsThread call count m.plan.now.schedule m.heap m.guests done guests
  pub are : AreGuests guests
  pub stay : StayBehind count done m.guests guests
  pub framed : StaysFramed count done m.guests guests
  pub lives : LivesOn done guests

-- The running thread gives this to the constructor.
abbrev pub IsGivenIn : {E : Type 0} → Machine E → Side → (count : ℕ) → Given → Type 0
IsGivenIn {E} m side count x = (f : Framed E) → m.guests.running.frames ≡ Some f → IsGiven side (take count f.newest.operands) m.heap x

-- It made a thread that keeps this, and nothing else has changed.
pub record MakesIn {E : Type 0} (m : Machine E) (kept count : ℕ) (x : Given) (n : Machine E) : Type 0 where
  pub guests : Guests E
  pub heap : Heaped
  pub is : n ≡ with_threads guests heap m
  pub row : MakesThread kept count x m.guests m.heap guests heap
  pub are : AreGuests guests
  pub stay : HaveStayed (behind count m.guests) guests
  pub lives : Lives guests
  pub built : AreBuilt heap.objects
  pub celled : StayCelled m.heap.objects heap.objects
  pub names : NamesNoMore m.heap.objects heap.objects
