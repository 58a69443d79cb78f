-- Code stands from place 0 to its length.
use Rattle.std.proofs.Common.{◌≡◌, ℕ, zero, suc, ◌+◌, ◌-◌, List, [], ◌∷◌, ◌++◌, length, Some, None, refl, ap, sym, subst, arith}
use Rattle.std.specs.Prelude.{IsTrue, slice_get}
use Rattle.std.specs.List.{list_all}
use Rattle.std.proofs.lemmas.List.{length-append}
use Rattle.jground.specs.jformat.StatefulFormats.{fits_from, spell_from}
use Rattle.jground.proofs.JformatProofs.ReadingSteps.{first_true, second_true}
use Rattle.jparts.specs.declared.jcode.op.Placed.{Placed}
use Rattle.jparts.specs.jcode.Instructions.{size, placed, place_behind, instructions, leads, code}
use Rattle.jparts.proofs.JcodeProofs.CodeLaws.{fits_at}
use Rattle.jmove.specs.AssemblyLines.{Laid}

laid_from : (s : ℕ) (ps : List Placed) → IsTrue (fits_from (λ t. (placed t).fits) place_behind s ps) → Laid s ps (s + length (spell_from (λ t. (placed t).spell) place_behind s ps))
unfolding fits_from spell_from size
laid_from s [] fit = omega arith
laid_from s (p ∷ ps) fit =
    let f = fits_at s p (first_true ((placed s).fits p) (fits_from (λ t. (placed t).fits) place_behind (place_behind s p) ps) fit) in
    let tail = spell_from (λ t. (placed t).spell) place_behind (place_behind s p) ps in
    let len : length ((placed s).spell p ++ tail) ≡ length ((placed s).spell p) + length tail = length-append ((placed s).spell p) tail in
    let one : length ((placed s).spell p) ≡ size s p.op = ap (λ (x : List ℕ). length x) f.2 in
    let sum : s + size s p.op + length tail ≡ s + length ((placed s).spell p ++ tail) = omega arith in
    (f.0, subst (λ (to : ℕ). Laid (s + size s p.op) ps to) sum (laid_from (place_behind s p) ps (second_true ((placed s).fits p) (fits_from (λ t. (placed t).fits) place_behind (place_behind s p) ps) fit)))

pub code_laid : (ps : List Placed) → IsTrue (code.fits ps) → Laid 0 ps (length (code.spell ps))
unfolding code instructions
code_laid ps fit =
    let whole : 0 + length (spell_from (λ t. (placed t).spell) place_behind 0 ps) ≡ length (spell_from (λ t. (placed t).spell) place_behind 0 ps) = omega arith in
    subst (λ (to : ℕ). Laid 0 ps to) whole (laid_from 0 ps (first_true (instructions.fits ps) (list_all (leads ps) ps) fit))

pub no_code : (ps : List Placed) → length ps ≡ 0 → length (code.spell ps) ≡ 0
unfolding code instructions spell_from
no_code [] e = refl
no_code (p ∷ ps) e = absurd (omega arith)

ends_at : (ps : List Placed) (from to m : ℕ) (x : Placed) → Laid from ps to → slice_get ps m ≡ Some x → m + 1 ≡ length ps → x.at + size x.at x.op ≡ to
ends_at [] from to m x h at e = absurd (omega arith)
ends_at (p ∷ []) from to zero x h at e =
    let same : p ≡ x = cc in
    let there : p.at ≡ from = h.0 in
    let end : from + size from p.op ≡ to = h.1 in
    subst (λ (y : Placed). y.at + size y.at y.op ≡ to) same (subst (λ (q : ℕ). q + size q p.op ≡ to) (sym there) end)
ends_at (p ∷ (q ∷ ps)) from to zero x h at e = absurd (omega arith)
ends_at (p ∷ ps) from to (suc m) x h at e = ends_at ps (from + size from p.op) to m x h.1 at (omega arith)

-- the last instruction ends where the code ends
pub last_ends : (ps : List Placed) (x : Placed) → IsTrue (code.fits ps) → slice_get ps (length ps - 1) ≡ Some x → x.at + size x.at x.op ≡ length (code.spell ps)
last_ends [] x fit at = absurd cc
last_ends (p ∷ ps) x fit at = ends_at (p ∷ ps) 0 (length (code.spell (p ∷ ps))) (length (p ∷ ps) - 1) x (code_laid (p ∷ ps) fit) at (omega arith)

there_is : (p : Placed) (ps : List Placed) → slice_get (p ∷ ps) (length ps) ≡ None → ⊥
there_is p [] e = cc
there_is p (q ∷ ps) e = there_is q ps e

-- and code without a last one has no bytes
pub none_last : (ps : List Placed) → slice_get ps (length ps - 1) ≡ None → length (code.spell ps) ≡ 0
none_last [] e = no_code [] refl
none_last (p ∷ ps) e = absurd (there_is p ps (subst (λ (k : ℕ). slice_get (p ∷ ps) k ≡ None) (omega arith) e))
