-- A cell gives back the value that was written.
use Rattle.std.proofs.Common.{◌∙◌, ℤ, ◌<◌, ◌^◌, refl, ap}
use Rattle.std.specs.Prelude.{FitsSigned}
use Rattle.std.specs.Int.{w32, w64, cast_signed, cast_unsigned}
use Rattle.std.proofs.Math.Nat.{mod-eq_of_lt}
use Rattle.std.proofs.Math.Facts.{Fits-of_z, Fits-lt-pow}
use Rattle.std.proofs.lemmas.Int.{to_z-of_z}
use Rattle.jvalues.specs.declared.jops.value.Value.TheVariants as values
use Rattle.jmemory.specs.jheap.RawValues.{GivesBack}

below : (x : ℤ) → FitsSigned w32 x → cast_unsigned w32 x < 2 ^ 32
below x fits = Fits-lt-pow (Fits-of_z fits)

pub gives_back : GivesBack
gives_back (values.Int x) fits = ap values.Int (ap (cast_signed w32) (mod-eq_of_lt (below x fits)) ∙ to_z-of_z w32 x fits)
gives_back (values.Long x) fits = ap values.Long (to_z-of_z w64 x fits)
gives_back (values.Ref n) lt = ap values.Ref (mod-eq_of_lt lt)
gives_back (values.Ctx n) lt = refl
