-- What an answer rests on that is made of several.
use Rattle.std.proofs.Common.{◌≡◌, Result, Ok, Err, refl}
use Rattle.jground.specs.jbase.MemoryFailures.{◌>>=◌}

pub bound : {A B F : Type 0} (x : Result A F) (f : A → Result B F) (y : B) → (x >>= f) ≡ Ok y → (a : A) × (x ≡ Ok a) × (f a ≡ Ok y)
bound (Ok a) f y e = (a, refl, e)
bound (Err fault) f y e = absurd (let x = e in cc)
