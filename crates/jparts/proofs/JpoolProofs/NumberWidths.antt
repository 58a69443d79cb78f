-- Numbers of their width have a spelling.
use Rattle.std.proofs.Common.{ℕ, arith, Fits, w8, w16, w32, w64}
use Rattle.std.specs.Prelude.{IsTrue}
use Rattle.jground.proofs.JformatProofs.ReadingSteps.{both}
use Rattle.jparts.specs.jpool.PoolEntries.{u1, u2, u4, u8, two}
use Rattle.jparts.specs.ProofNames.{handle}

pub one_fits : (n : ℕ) → Fits w16 n → IsTrue (u2.fits n)
one_fits n h = grind (arith, h)

pub word_fits : (n : ℕ) → Fits w32 n → IsTrue (u4.fits n)
word_fits n h = grind (arith, h)

pub long_fits : (n : ℕ) → Fits w64 n → IsTrue (u8.fits n)
long_fits n h = grind (arith, h)

pub two_fits : (m n : ℕ) → Fits w16 m → Fits w16 n → IsTrue (two.fits (m, n))
two_fits m n h k = both (u2.fits m) (u2.fits n) (one_fits m h) (one_fits n k)

pub handle_fits : (m n : ℕ) → Fits w8 m → Fits w16 n → IsTrue (handle.fits (m, n))
handle_fits m n h k = both (u1.fits m) (u2.fits n) (grind (arith, h)) (one_fits n k)
