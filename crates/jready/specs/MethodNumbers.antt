-- The numbers of methods: those of classes in their order, in each class in its order.
use Rattle.std.specs.Prelude.{◌≡◌, ℕ, ◌+◌, ◌^◌, ◌<◌, List, length, take, Option, Some, None, slice_get}
use Rattle.std.specs.List.{flat_map}
use Rattle.jresolution.specs.declared.jprogram.part.CodePart.{CodePart}
use Rattle.jresolution.specs.jprogram.ProgramClasses.{Program}

abbrev pub method_count : CodePart → ℕ
method_count part = length part.class.methods

-- how many stand before those of the class at a place
abbrev pub methods_before : Program → ℕ → ℕ
methods_before p c = length (flat_map (λ part. part.class.methods) (take c p.parts))

abbrev pub count_in : Option CodePart → ℕ
count_in None = 0
count_in (Some part) = method_count part

-- how many methods the class at a place has
abbrev pub count_at : Program → ℕ → ℕ
count_at p c = count_in (slice_get p.parts c)

-- The number of the first method of a class. Those of all its methods are below 2 ^ 32.
pub record IsFirst (p : Program) (firsts : List ℕ) (c : ℕ) : Type 0 where
  pub first : slice_get firsts c ≡ Some (methods_before p c)
  pub room : methods_before p c + count_at p c < 2 ^ 32

-- of so many classes
abbrev pub AreFirstsTo : Program → List ℕ → ℕ → Type 0
AreFirstsTo p firsts n = (c : ℕ) → c < n → IsFirst p firsts c

abbrev pub AreFirsts : Program → List ℕ → Type 0
AreFirsts p firsts = AreFirstsTo p firsts (length p.parts)
