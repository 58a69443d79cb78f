-- Whether a class that was found by name has objects, by its number.
use Rattle.std.proofs.Common.{◌≡◌, ℕ, Bool, false, List, Option, Some, None, refl, sym, ap, ◌∙◌}
use Rattle.std.specs.Prelude.{option_map, slice_get}
use Rattle.jlib.specs.declared.classes.LibClass.{LibClass}
use Rattle.jlib.specs.LibraryClasses as library
use Rattle.jresolution.specs.declared.jprogram.part.ClassRef.{ClassRef}
use Rattle.jresolution.specs.declared.jprogram.part.CodePart.{CodePart}
use Rattle.jresolution.specs.jprogram.ProgramClasses.{Class, Lib, Program, User, class_at, find, found_at, holds, place_of, ref_of}
use Rattle.jlinking.specs.jreferring.ClassEntryUses.{is_unmade}

abbrev pub holds_at : (Class → Bool) → Program → Option ClassRef → Bool
holds_at test p None = false
holds_at test p (Some r) = holds test (class_at p r)

in_parts : (test : Class → Bool) (p : Program) (i : ℕ) (o : Option CodePart) → slice_get p.parts i ≡ o → holds test (option_map (λ part. User i part.class) o) ≡ holds_at test p (option_map ref_of (option_map (λ part. User i part.class) o))
in_parts test p i None is = refl
in_parts test p i (Some part) is = sym (ap (λ (o : Option CodePart). holds test (option_map (λ part. User i part.class) o)) is)

in_library : (test : Class → Bool) (p : Program) (o : Option LibClass) → holds test (option_map Lib o) ≡ holds_at test p (option_map ref_of (option_map Lib o))
in_library test p None = refl
in_library test p (Some c) = refl

at_place : (test : Class → Bool) (p : Program) (name : List ℕ) (o : Option ℕ) → holds test (found_at p name o) ≡ holds_at test p (option_map ref_of (found_at p name o))
at_place test p name None = in_library test p (library.class_named p.side name)
at_place test p name (Some i) = in_parts test p i (slice_get p.parts i) refl

-- the class of a name is that of its number
found_by_number : (test : Class → Bool) (p : Program) (name : List ℕ) → holds test (find p name) ≡ holds_at test p (option_map ref_of (find p name))
unfolding find
found_by_number test p name = at_place test p name (place_of p.parts name)

pub unmade_by_number : (p : Program) (name : List ℕ) (r : ClassRef) → option_map ref_of (find p name) ≡ Some r → holds is_unmade (class_at p r) ≡ holds is_unmade (find p name)
unmade_by_number p name r is = sym (found_by_number is_unmade p name ∙ ap (holds_at is_unmade p) is)

pub unmade_nowhere : (p : Program) (name : List ℕ) → option_map ref_of (find p name) ≡ None → false ≡ holds is_unmade (find p name)
unmade_nowhere p name is = sym (found_by_number is_unmade p name ∙ ap (holds_at is_unmade p) is)
