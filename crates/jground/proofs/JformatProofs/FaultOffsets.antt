-- The place of a fault as an offset.
use Rattle.std.proofs.Common.{◌≡◌, ℕ, ◌-◌, ◌^◌, ◌≤◌, Bool, true, false, cond, ltb, List, length, Result, Err, ap, sym, ◌∙◌, arith}
use Rattle.jground.specs.declared.jbase.fault_or_memory.FaultOrMemory.{FaultOrMemory}
use Rattle.jground.specs.declared.jbase.fault_or_memory.FaultOrMemory.TheVariants as stops
use Rattle.jground.specs.jbase.MemoryFailures.{Fails}
use Rattle.jground.specs.declared.jformat.error.Fault.{Fault}
use Rattle.jground.specs.jformat.FaultOffsets.{from_end, from_front, stop_at, FailsAt}

-- a place is as far from the front as the rest leaves
pub place_back : (n k : ℕ) → k ≤ n → n - (n - k) ≡ k
place_back n k le = omega (arith, le)

-- a reading's fault, seen from the front
pub from_front_fails : {K A : Type 0} (bytes : List ℕ) (d : Fault K) (read : Result A (Fault K)) → d.left ≤ length bytes → read ≡ Err d → (length bytes - d.left ≤ length bytes) × (read ≡ Err (from_end bytes (from_front bytes d)))
from_front_fails {K} {A} bytes d read le e =
    let back : d.left ≡ length bytes - (length bytes - d.left) = sym (place_back (length bytes) d.left le) in
    (omega arith, e ∙ ap (λ (n : ℕ). Err (record { left = n; kind = d.kind })) back)

stop_or_memory : {K A : Type 0} (few : Bool) (bytes : List ℕ) (d : Fault K) (read : Result A (Fault K)) → d.left ≤ length bytes → read ≡ Err d → FailsAt bytes (cond few (stops.Fault (from_front bytes d)) stops.Memory) read
stop_or_memory true bytes d read le e = from_front_fails bytes d read le e
stop_or_memory false bytes d read le e = tt

-- A reader's stop is the reading's, with an offset as its place, where faults stand within the bytes.
pub fails_at : {K A : Type 0} (bytes : List ℕ) (stop : FaultOrMemory (Fault K)) (read : Result A (Fault K)) → ((d : Fault K) → read ≡ Err d → d.left ≤ length bytes) → Fails stop read → FailsAt bytes (stop_at bytes stop) read
fails_at bytes stops.Memory read within h = tt
fails_at bytes (stops.Fault d) read within h = stop_or_memory (ltb (length bytes - d.left) (2 ^ 32)) bytes d read (within d h) h
