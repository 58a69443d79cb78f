-- Frames of more precise types: what the rule allows behind a frame it allows behind one that is more precise.
use Rattle.std.specs.Prelude.{◌≡◌, Bool, true, false, ◌&&◌, List, [], ◌∷◌, Some}
use Rattle.jparts.specs.declared.jpool.entry.Entry.{Entry}
use Rattle.jparts.specs.declared.jcode.op_form.OpForm.{OpForm}
use Rattle.jtypes.specs.declared.vtype.VType.{VType}
use Rattle.jtypes.specs.declared.vtype.VType.TheVariants.{Top}
use Rattle.jtypes.specs.Assignability.{fits, fits_where}
use Rattle.jtypes.specs.TypeFrames.{Frame, all_fit, frame_fits, implies, is_long}
use Rattle.jtypes.specs.ClassTrees.{Tree}
use Rattle.jresolution.specs.jprogram.ProgramClasses.{Program, tree}
use Rattle.jresolution.specs.jprogram.OrderedPrograms.{StandsInOrder}
use Rattle.jtyping.specs.jrule.FormRules.{by_form}
use Rattle.jtyping.specs.jrule.InstructionContext.{Here}
use Rattle.jtyping.specs.jrule.LocalRule.{is_top}

-- The first type fits the second, and an array fits arrays alone (and Top). By `fits` an array fits Object too, and Object fits each
-- interface, while an array fits two of them: so where Object does, an array needn't.
abbrev pub precise : Tree → VType → VType → Bool
precise t = fits_where (λ c. false) t

-- On the stack Top alone does for Top: moves end at Top, and a `new` looks whether what it made before stands there.
abbrev pub item_precise : Tree → VType → VType → Bool
item_precise t a b = precise t a b && implies (is_top b) (is_top a)

abbrev pub begins_with_top : List VType → Bool
begins_with_top (Top ∷ locals) = true
begins_with_top locals = false

-- the second place of a long stays Top
abbrev pub keeps_second : VType → List VType → List VType → Bool
keeps_second b xs ys = implies (is_long b && begins_with_top ys) (begins_with_top xs)

unfoldable pub locals_precise : Tree → List VType → List VType → Bool
locals_precise t [] [] = true
locals_precise t (a ∷ xs) (b ∷ ys) = precise t a b && keeps_second b xs ys && locals_precise t xs ys
locals_precise t xs ys = false

-- the first frame is more precise than the second, or the same
unfoldable pub frame_precise : Tree → Frame → Frame → Bool
frame_precise t a b = locals_precise t a.locals b.locals && all_fit (item_precise t) a.stack b.stack && implies a.flag b.flag

-- ---- laws

abbrev pub IsPreciseItself : Program → Type 0
IsPreciseItself p = (f : Frame) → StandsInOrder p → frame_precise (tree p) f f ≡ true

-- what fits fits
abbrev pub PreciseFits : Program → Type 0
PreciseFits p = (a b c : Frame) → StandsInOrder p → frame_precise (tree p) a b ≡ true →
    frame_fits (fits (tree p)) b c ≡ true → frame_fits (fits (tree p)) a c ≡ true

-- where the rule gives a frame behind one, it gives one that is more precise behind a frame that is more precise
abbrev pub KeepsPrecise : (S : Type 0) → Program → Type 0
KeepsPrecise S p = (here : Here) (pool : List Entry) (form : OpForm S) (a b c : Frame) → StandsInOrder p → frame_precise (tree p) a b ≡ true →
    by_form p here pool form b ≡ Some c → (d : Frame) × (by_form p here pool form a ≡ Some d) × (frame_precise (tree p) d c ≡ true)
