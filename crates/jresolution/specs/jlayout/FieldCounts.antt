-- How many fields objects have, by the numbers of their classes, and how a walk upwards counts them.
use Rattle.std.specs.Prelude.{◌≡◌, ℕ, ◌+◌, ◌<◌, List, [], ◌∷◌, length, Option, Some, None, slice_get}
use Rattle.std.specs.List.{filter}
use Rattle.jresolution.specs.declared.jprogram.part.ClassRef.{ClassRef}
use Rattle.jresolution.specs.declared.jprogram.part.ClassRef.TheVariants as refs
use Rattle.jresolution.specs.declared.jprogram.part.CodePart.{CodePart}
use Rattle.jresolution.specs.jprogram.ClassFileParts.{this_name}
use Rattle.jresolution.specs.jprogram.ProgramClasses.{Program, super_at}
use Rattle.jresolution.specs.jlayout.FieldLayout.{is_instance, layout}

-- ---- by the numbers of classes

abbrev pub own_in : Option CodePart → ℕ
own_in None = 0
own_in (Some part) = length (filter is_instance part.class.fields)

-- how many fields of objects the class at a place declares itself
abbrev pub own_at : Program → ℕ → ℕ
own_at p i = own_in (slice_get p.parts i)

-- how many fields an object of a part's class has
abbrev pub count_of : Program → CodePart → ℕ
count_of p part = length (layout p (this_name part.class))

abbrev pub count_in : Program → Option CodePart → ℕ
count_in p None = 0
count_in p (Some part) = count_of p part

abbrev pub count_at : Program → ℕ → ℕ
count_at p i = count_in p (slice_get p.parts i)

-- ---- upwards

abbrev pub user_in : Option ClassRef → Option ℕ
user_in (Some (refs.User i)) = Some i
user_in _ = None

-- the user's class directly above the class at a place
abbrev pub above_at : Program → ℕ → Option ℕ
above_at p i = user_in (super_at p (refs.User i))

-- the fields from a class on upwards, if there is one
abbrev pub count_from : Program → Option ℕ → ℕ
count_from p None = 0
count_from p (Some i) = count_at p i

-- ---- what a walk keeps

abbrev pub known_in : Option (Option ℕ) → Option ℕ
known_in None = None
known_in (Some o) = o

-- what is known of some classes is right
abbrev pub AreKnown : Program → List (Option ℕ) → Type 0
AreKnown p known = (i n : ℕ) → slice_get known i ≡ Some (Some n) → n ≡ count_at p i

-- so many fields stand above the first of these classes, each of which stands directly above the next, and the last above a class
abbrev pub Climbs : Program → ℕ → ℕ → List ℕ → Type 0
Climbs p class above [] = count_at p class ≡ above
Climbs p class above (i ∷ rest) = (count_at p i ≡ above + own_at p i) × Climbs p class (above + own_at p i) rest

-- These are the counts of all classes.
pub record AreCounts (p : Program) (counts : List ℕ) : Type 0 where
  pub size : length counts ≡ length p.parts
  pub each : (i : ℕ) → i < length counts → slice_get counts i ≡ Some (count_at p i)
