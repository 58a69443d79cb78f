-- The frames of the running thread behind a call.
use Rattle.std.specs.Prelude.{◌≡◌, ℕ, [], Some, drop, option_map, slice_get}
use Rattle.jvalues.specs.declared.jops.value.Value.{Value}
use Rattle.jsemantics.specs.jmachine.FrameOperations.{onward, with_operands}
use Rattle.jruntime.specs.jstate.FrameLists.{Framed, with_newest}
use Rattle.jruntime.specs.declared.jguests.guests.Guests.{Guests}
use Rattle.jruntime.specs.jguests.GuestThreads.{with_frames}

-- the newest frame without so many operands
abbrev pub lost : {E : Type 0} → ℕ → Framed E → Framed E
lost count f = with_newest (with_operands f.newest (drop count f.newest.operands)) f

-- and behind its call
abbrev pub gone : {E : Type 0} → ℕ → Framed E → Framed E
gone count f = with_newest (onward (with_operands f.newest (drop count f.newest.operands)) []) f

-- the threads, the one that runs behind its call
abbrev pub behind : {E : Type 0} → ℕ → Guests E → Guests E
behind count g = with_frames (option_map (gone count) g.running.frames) g

-- and without its operands
abbrev pub without : {E : Type 0} → ℕ → Guests E → Guests E
without count g = with_frames (option_map (lost count) g.running.frames) g

abbrev pub WentOn : {E : Type 0} → ℕ → Guests E → Guests E → Type 0
WentOn count g h = h ≡ behind count g

abbrev pub Shrunk : {E : Type 0} → ℕ → Guests E → Guests E → Type 0
Shrunk count g h = h ≡ without count g

-- an operand of the running thread's newest frame, counted from its newest
abbrev pub OperandIs : {E : Type 0} → ℕ → Value ℕ → Guests E → Type 0
OperandIs {E} i v g = (f : Framed E) → g.running.frames ≡ Some f → slice_get f.newest.operands i ≡ Some v
