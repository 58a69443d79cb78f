-- The table of where the fields of a program stand.
use Rattle.std.specs.Prelude.{◌≡◌, ℕ, List, length, Option, Some, option_and_then, option_map, slice_get}
use Rattle.std.specs.List.{flat_map}
use Rattle.jresolution.specs.declared.jprogram.member.Member.TheVariants.{Field}
use Rattle.jresolution.specs.jprogram.ProgramClasses.{Program}
use Rattle.jresolution.specs.declared.jlayout.layouts.Layouts.{Layouts}
use Rattle.jresolution.specs.jlayout.FieldCounts.{count_of}
use Rattle.jresolution.specs.jlayout.FieldLayout.{slot, statics_of}

-- what is kept of the field at a place of the class at a place
abbrev pub kept_at : List (List ℕ) → ℕ → ℕ → Option ℕ
kept_at slots i j = option_and_then (λ (row : List ℕ). slice_get row j) (slice_get slots i)

-- of each class where its fields stand
abbrev pub AreAllSlots : Program → List (List ℕ) → Type 0
AreAllSlots p slots = (i j : ℕ) → kept_at slots i j ≡ slot p (Field i j)

-- of the first classes
abbrev pub AreFirstSlots : Program → List (List ℕ) → Type 0
AreFirstSlots p slots = (i : ℕ) (row : List ℕ) → slice_get slots i ≡ Some row → (j : ℕ) → slice_get row j ≡ slot p (Field i j)

-- A table is that of a program.
pub record AreLayouts (p : Program) (l : Layouts) : Type 0 where
  -- of each class how many fields its objects have
  pub counts : (i : ℕ) → slice_get l.counts i ≡ option_map (count_of p) (slice_get p.parts i)
  pub slots : AreAllSlots p l.slots
  -- how many statics there are
  pub statics : l.statics ≡ length (flat_map statics_of p.parts)
