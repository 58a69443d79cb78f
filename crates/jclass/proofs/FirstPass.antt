-- The first pass in parts: the front of a class file, and then the rest.
use Rattle.std.proofs.Common.{◌≡◌, ℕ, Bool, true, false, cond, eqb, List, length, Result, Ok, Err, refl, sym, subst}
use Rattle.std.specs.Prelude.{◌==◌, if◌then◌else◌}
use Rattle.jground.specs.declared.jbase.fault_or_memory.FaultOrMemory.{FaultOrMemory}
use Rattle.jground.specs.declared.jbase.fault_or_memory.FaultOrMemory.TheVariants as stops
use Rattle.jground.specs.jbase.MemoryFailures.{◌>>=◌, Fails}
use Rattle.jground.specs.declared.jformat.error.Fault.{Fault}
use Rattle.jground.specs.jformat.Format.{Answer, fault}
use Rattle.jclass.specs.declared.fault.ClassFault.{ClassFault}
use Rattle.jclass.specs.declared.fault.ClassFault.TheVariants.{Trailing}
use Rattle.jclass.specs.IndexFormats.{unseen}
use Rattle.jclass.specs.ClassFileShape
use Rattle.jclass.specs.ClassFileShape.{HeadParts, RawTail, shape, has_shape}
use Rattle.jclass.specs.Class.{ends}

abbrev forget : {A : Type 0} → Result A (Fault ClassFault) → Result (Unit {0}) (Fault ClassFault)
forget r = r >>= λ _. Ok tt

abbrev only_if : {A : Type 0} → Bool → A → Fault ClassFault → Result A (Fault ClassFault)
only_if b x d = cond b (Ok x) (Err d)

abbrev last : Answer ClassFault (HeadParts × RawTail) → Result (HeadParts × RawTail) (Fault ClassFault)
last r = r >>= λ x. if length x.1 == 0 then Ok x.0 else fault Trailing x.1

abbrev behind_head : HeadParts → Answer ClassFault RawTail → Answer ClassFault (HeadParts × RawTail)
behind_head h r = r >>= λ y. Ok ((h, y.0), y.1)

forgotten : {A : Type 0} (b : Bool) (x : A) (d : Fault ClassFault) → forget (only_if b x d) ≡ only_if b tt d
forgotten true x d = refl
forgotten false x d = refl

ended : (h : HeadParts) (r : Answer ClassFault RawTail) → forget (last (behind_head h r)) ≡ ends (unseen r)
ended h (Ok y) = forgotten (eqb (length y.1) 0) (h, y.0) (record { left = length y.1; kind = Trailing })
ended h (Err d) = refl

pub shape_is : (bytes rest : List ℕ) (h : HeadParts) → ClassFileShape.head.read bytes ≡ Ok (h, rest) → has_shape bytes ≡ ends (unseen (ClassFileShape.tail.read rest))
unfolding shape
shape_is bytes rest h e = rw e (ended h (ClassFileShape.tail.read rest))

pub head_stops : (bytes : List ℕ) (stop : FaultOrMemory (Fault ClassFault)) → Fails stop (ClassFileShape.head.read bytes) → Fails stop (has_shape bytes)
unfolding shape
head_stops bytes stops.Memory e = tt
head_stops bytes (stops.Fault d) e = rw e refl

pub tail_stops : (bytes rest : List ℕ) (h : HeadParts) (stop : FaultOrMemory (Fault ClassFault)) → ClassFileShape.head.read bytes ≡ Ok (h, rest) → Fails stop (ends (unseen (ClassFileShape.tail.read rest))) → Fails stop (has_shape bytes)
tail_stops bytes rest h stop e f = subst (λ (r : Result (Unit {0}) (Fault ClassFault)). Fails stop r) (sym (shape_is bytes rest h e)) f
