-- Distances of moved code are numbers of 16 bits.
use Rattle.std.proofs.Common.{ℕ, ◌≤◌, pos, ◌+ℤ◌, ◌-ℤ◌, arith}
use Rattle.std.specs.Prelude.{FitsSigned, unsigned_abs}
use Rattle.std.specs.Int.{w16}
use Rattle.std.proofs.lemmas.Int.{ints, fits_signed_from_abs}
use Rattle.jmove.specs.AssemblyLines.{end_of, place_of}
use Rattle.jmove.specs.MethodExpansion.{lines}
use Rattle.jmove.proofs.LabelTables.{place_within}
use Rattle.jrewriting.specs.jmove_laws.Distances.{Near}

between : (a b : ℕ) → a ≤ 32767 → b ≤ 32767 → FitsSigned w16 (pos a -ℤ pos b)
between a b h e = fits_signed_from_abs w16 (pos a -ℤ pos b) (omega (arith, ints))

pub near : Near
near begin s ks is small from at by inside =
    let to : ℕ = place_of (unsigned_abs (pos from +ℤ by)) 0 (lines begin s ks is) in
    let below : to ≤ end_of 0 (lines begin s ks is) = place_within (unsigned_abs (pos from +ℤ by)) 0 (lines begin s ks is) in
    between to at (omega arith) (omega arith)
