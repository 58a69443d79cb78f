-- Texts of pools.
use Rattle.std.proofs.Common.{◌≡◌, ℕ, [], refl}
use Rattle.jresolution.specs.jprogram.ClassFileParts.{text}
use Rattle.jparts.specs.jpool.ConstantPools.{utf8_at}

pub text_nowhere : (i : ℕ) → [] ≡ text [] i
unfolding utf8_at
text_nowhere i = refl
