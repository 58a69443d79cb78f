-- Arrays by their numbers of dimensions.
use Rattle.std.proofs.Common.{◌≡◌, ℕ, zero, suc, ◌<◌, Bool, false, refl, arith}
use Rattle.jtypes.specs.declared.vtype.Element.{Element}
use Rattle.jtypes.specs.declared.vtype.Name.{Name}
use Rattle.jtypes.specs.Assignability.{array_fits, element_fits}
use Rattle.jtypes.specs.ProofNames.{is_above_array}
use Rattle.jtypes.specs.ClassTrees.{Tree}

pub fewer_fail : (above : Name → Bool) (t : Tree) (d : ℕ) (x : Element) (e : ℕ) (y : Element) → d < e → array_fits above t d x e y ≡ false
unfolding array_fits
fewer_fail above t d x zero y lt = absurd (omega arith)
fewer_fail above t zero x (suc e) y lt = refl
fewer_fail above t (suc d) x (suc e) y lt = fewer_fail above t d x e y (omega arith)

pub more_fit : (above : Name → Bool) (t : Tree) (d : ℕ) (x : Element) (e : ℕ) (y : Element) → e < d → array_fits above t d x e y ≡ is_above_array above y
unfolding array_fits
more_fit above t zero x e y lt = absurd (omega arith)
more_fit above t (suc d) x zero y lt = refl
more_fit above t (suc d) x (suc e) y lt = more_fit above t d x e y (omega arith)

pub as_many_fit : (above : Name → Bool) (t : Tree) (d : ℕ) (x y : Element) → array_fits above t d x d y ≡ element_fits t x y
unfolding array_fits
as_many_fit above t zero x y = refl
as_many_fit above t (suc d) x y = as_many_fit above t d x y
