-- Values that are there.
use Rattle.std.proofs.Common.{◌≡◌, refl, rules, Bool, true, false, Option, Some, None}
use Rattle.std.specs.Prelude.{IsSome, is_some}

pub is_given : {A : Type 0} (v : Option A) (b : Bool) → is_some v ≡ b → b ≡ true → IsSome v
is_given None b is holds = cc
is_given (Some x) b is holds = search rules

pub not_given : {A : Type 0} (v : Option A) (b : Bool) → is_some v ≡ b → b ≡ false → None ≡ v
not_given None b is fails = refl
not_given (Some x) b is fails = cc
