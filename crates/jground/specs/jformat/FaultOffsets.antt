-- The place of a fault as an offset: the number of bytes in front of it.
use Rattle.std.specs.Prelude.{◌≡◌, ◌-◌, ◌≤◌, ◌^◌, List, ℕ, length, Result, Ok, Err, nat_lt, if◌then◌else◌}
use Rattle.jground.specs.declared.jbase.fault_or_memory.FaultOrMemory.{FaultOrMemory}
use Rattle.jground.specs.declared.jbase.fault_or_memory.FaultOrMemory.TheVariants as stops
use Rattle.jground.specs.declared.jformat.error.Fault.{Fault}
use Rattle.jground.specs.declared.jformat.error.At.{At}

-- a fault at an offset into bytes, by what is left there
abbrev pub from_end : {K : Type 0} → List ℕ → At K → Fault K
from_end bytes d = record { left = length bytes - d.at; kind = d.kind }

-- a fault where so many bytes are left, by its offset
abbrev pub from_front : {K : Type 0} → List ℕ → Fault K → At K
from_front bytes d = record { at = length bytes - d.left; kind = d.kind }

-- a reader's stop with the place of its fault as an offset; an offset of more than 32 bits is want of memory
abbrev pub stop_at : {K : Type 0} → List ℕ → FaultOrMemory (Fault K) → FaultOrMemory (At K)
stop_at bytes stops.Memory = stops.Memory
stop_at bytes (stops.Fault d) = if nat_lt (length bytes - d.left) (2 ^ 32) then stops.Fault (from_front bytes d) else stops.Memory

-- The stop is the reading's fault, whose place is an offset; want of memory is free.
abbrev pub FailsAt : {K A : Type 0} → List ℕ → FaultOrMemory (At K) → Result A (Fault K) → Type 0
FailsAt bytes stops.Memory read = Unit {0}
FailsAt bytes (stops.Fault d) read = (d.at ≤ length bytes) × (read ≡ Err (from_end bytes d))

-- The call answers what a reading of these bytes gives, with a fault's place as an offset, unless memory runs out.
abbrev pub GivesAt : {K X A : Type 0} → (X → A) → List ℕ → Result X (FaultOrMemory (At K)) → Result A (Fault K) → Type 0
GivesAt view bytes (Ok x) read = read ≡ Ok (view x)
GivesAt view bytes (Err e) read = FailsAt bytes e read
