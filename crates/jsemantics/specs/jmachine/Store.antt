-- What all threads share: objects by their numbers, which count from 1 in order of making, statics, string constants, and the cells
-- that are left.
use Rattle.std.specs.Prelude.{ℕ, zero, suc, ◌+◌, ◌-◌, List, [], ◌∷◌, ◌++◌, length, Option, Some, None, slice_get, slice_set, if◌then◌else◌}
use Rattle.std.specs.Str.{bytes_eq}
use Rattle.jvalues.specs.declared.jops.value.Value.{Value}
use Rattle.jvalues.specs.declared.jops.value.Value.TheVariants.{Ref}
use Rattle.jsemantics.specs.jmachine.HeapObjects.{Object}

pub record Store (K : Type 0) : Type 0 where
  pub objects : List (Object K)
  -- what the static fields of all classes hold, in their order
  pub statics : List (Value K)
  -- the units of the string constants that were made, each with its object's number
  pub constants : List (List ℕ × ℕ)
  -- the cells of the heap that are left
  pub left : ℕ

-- ---- objects

-- the object of a number
abbrev pub object_at : {K : Type 0} → Store K → ℕ → Option (Object K)
object_at s zero = None
object_at s (suc n) = slice_get s.objects n

-- the object that a reference names
abbrev pub object_of : {K : Type 0} → Store K → Value K → Option (Object K)
object_of s x = elim x [ Ref n ↦ object_at s n | _ ↦ None ]

-- the number of the object that is made next
abbrev pub next_number : {K : Type 0} → Store K → ℕ
next_number s = length s.objects + 1

abbrev pub with_objects : {K : Type 0} → Store K → List (Object K) → Store K
with_objects s objects = record { objects = objects; statics = s.statics; constants = s.constants; left = s.left }

-- with one more object
abbrev pub with_made : {K : Type 0} → Store K → Object K → Store K
with_made s x = with_objects s (s.objects ++ x ∷ [])

-- with another object of a number
abbrev pub with_object : {K : Type 0} → Store K → ℕ → Object K → Store K
with_object s zero x = s
with_object s (suc n) x = with_objects s (slice_set s.objects n x)

-- ---- statics, constants, cells

abbrev pub with_statics : {K : Type 0} → Store K → List (Value K) → Store K
with_statics s values = record { objects = s.objects; statics = values; constants = s.constants; left = s.left }

-- the object of a string constant, if it was made
abbrev pub constant_at : List (List ℕ × ℕ) → List ℕ → Option ℕ
constant_at [] units = None
constant_at (c ∷ rest) units = if bytes_eq c.0 units then Some c.1 else constant_at rest units

-- with a string constant whose object is made next
abbrev pub with_constant : {K : Type 0} → Store K → List ℕ → Store K
with_constant s units = record { objects = s.objects; statics = s.statics; constants = s.constants ++ (units, next_number s) ∷ []; left = s.left }

-- with so many cells less
abbrev pub paid : {K : Type 0} → ℕ → Store K → Store K
paid cells s = record { objects = s.objects; statics = s.statics; constants = s.constants; left = s.left - cells }
