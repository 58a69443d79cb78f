-- The table of a program's names: the first place of each.
use Rattle.std.specs.Prelude.{◌≡◌, ℕ, List, Option, Some, None, if◌then◌else◌}
use Rattle.std.specs.Option.{option_or}
use Rattle.std.specs.Str.{bytes_eq}
use Rattle.std.specs.Ordering.{nat_cmp}
use Rattle.std.specs.Cmp.Lexicographic.{slice_cmp}
use Rattle.std.specs.BTreeMap as tree
use Rattle.std.specs.BTreeMap.{BTreeMap}
use Rattle.std.specs.Global.{Vec}
use Rattle.jresolution.specs.declared.jprogram.part.CodePart.{CodePart}
use Rattle.jresolution.specs.jprogram.ProgramClasses.{place_of}

-- the place that a table has at a name
abbrev pub place_at : BTreeMap (Vec ℕ) ℕ → List ℕ → Option ℕ
place_at places name = tree.get_by (λ k. slice_cmp nat_cmp name k.items) places

-- A table has the first place of each name.
abbrev pub ArePlaces : List CodePart → BTreeMap (Vec ℕ) ℕ → Type 0
ArePlaces parts places = (name : List ℕ) → place_at places name ≡ place_of parts name

-- A name has the place that it had, or else the new one where it is this one.
abbrev pub Notes : List ℕ → ℕ → BTreeMap (Vec ℕ) ℕ → BTreeMap (Vec ℕ) ℕ → Type 0
Notes name i old new = (q : List ℕ) → place_at new q ≡ option_or (place_at old q) (if bytes_eq name q then Some i else None)
