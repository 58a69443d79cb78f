-- The full forms of frames, one put behind the other.
use Rattle.std.proofs.Common.{◌≡◌, ℕ, List, [], ◌∷◌, ◌++◌, Option, Some, None, refl, ap}
use Rattle.jparts.specs.declared.jmaps.types.FullFrame.{FullFrame}
use Rattle.jparts.specs.declared.jmaps.types.RawFrame.{RawFrame}
use Rattle.jparts.specs.jmaps.ExpandedFrames.{full_form, full_forms}

-- the place of the last frame
abbrev pub last_place : Option ℕ → List FullFrame → Option ℕ
last_place earlier [] = earlier
last_place earlier (f ∷ fs) = last_place (Some f.at) fs

pub forms_more : (earlier : Option ℕ) (fs : List FullFrame) (f : FullFrame) → full_forms earlier (fs ++ f ∷ []) ≡ full_forms earlier fs ++ full_form (last_place earlier fs) f ∷ []
unfolding full_forms
forms_more earlier [] f = refl
forms_more earlier (g ∷ fs) f = ap (λ (l : List RawFrame). full_form earlier g ∷ l) (forms_more (Some g.at) fs f)

pub last_more : (earlier : Option ℕ) (fs : List FullFrame) (f : FullFrame) → last_place earlier (fs ++ f ∷ []) ≡ Some f.at
last_more earlier [] f = refl
last_more earlier (g ∷ fs) f = last_more (Some g.at) fs f

pub forms_none : [] ≡ full_forms None []
unfolding full_forms
forms_none = refl
