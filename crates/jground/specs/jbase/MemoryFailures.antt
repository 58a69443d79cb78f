-- What a call that may run out of memory answers, seen beside the value of its definition.
use Rattle.std.specs.Prelude.{◌≡◌, Result, Ok, Err}
use Rattle.jground.specs.declared.jbase.fault_or_memory.FaultOrMemory.{FaultOrMemory}
use Rattle.jground.specs.declared.jbase.fault_or_memory.FaultOrMemory.TheVariants as stops

infixl 10 ◌>>=◌
abbrev pub ◌>>=◌ : {A B F : Type 0} → Result A F → (A → Result B F) → Result B F
(Ok x) >>= f = f x
(Err e) >>= f = Err e

-- The stop is the definition's fault; want of memory is free.
abbrev pub Fails : {F Y : Type 0} → FaultOrMemory F → Result Y F → Type 0
Fails stops.Memory value = Unit {0}
Fails (stops.Fault f) value = value ≡ Err f

-- The call answers what the definition gives, unless memory runs out.
abbrev pub Gives : {F X Y : Type 0} → (X → Y) → Result X (FaultOrMemory F) → Result Y F → Type 0
Gives view (Ok x) value = value ≡ Ok (view x)
Gives view (Err e) value = Fails e value
