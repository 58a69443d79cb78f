-- A stop is handed on.
use Rattle.std.proofs.Common.{Result, refl}
use Rattle.jground.specs.declared.jbase.fault_or_memory.FaultOrMemory.{FaultOrMemory}
use Rattle.jground.specs.declared.jbase.fault_or_memory.FaultOrMemory.TheVariants as stops
use Rattle.jground.specs.jbase.MemoryFailures.{◌>>=◌, Fails}

pub fails_on : {A B F : Type 0} (stop : FaultOrMemory F) (r : Result A F) (f : A → Result B F) → Fails stop r → Fails stop (r >>= f)
fails_on stops.Memory r f h = tt
fails_on (stops.Fault d) r f h = rw h refl
