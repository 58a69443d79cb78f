-- Heights by which a class that is higher than what stands directly above it doesn't stand above itself.
use Rattle.std.specs.Prelude.{ℕ, ◌+◌, Bool, true, false, ◌&&◌, not, List, length, Option, Some, None, is_some, nat_lt, slice_get}
use Rattle.std.specs.List.{list_all}
use Rattle.std.specs.Option.{option_to_list}
use Rattle.jclass.specs.declared.class.ClassParts.{ClassParts}
use Rattle.jlib.specs.declared.classes.LibClass.{LibClass}
use Rattle.jlib.specs.LibraryClasses as library
use Rattle.jresolution.specs.declared.jprogram.part.CodePart.{CodePart}
use Rattle.jresolution.specs.jprogram.ClassFileParts.{class_text, super_name, this_name}
use Rattle.jresolution.specs.jprogram.ProgramClasses.{Class, Lib, Program, User, find}

abbrev pub or_zero : Option ℕ → ℕ
or_zero None = 0
or_zero (Some n) = n

-- the height of a part
abbrev pub height_at : List ℕ → ℕ → ℕ
height_at heights i = or_zero (slice_get heights i)

-- the height of a class of the library: how many stand above it, and one more where it lists an interface
abbrev pub lib_height : LibClass → ℕ
lib_height c = library.height c + length (option_to_list (library.implemented c))

abbrev pub height_in : List ℕ → Option Class → ℕ
height_in heights None = 0
height_in heights (Some (User i c)) = height_at heights i
height_in heights (Some (Lib c)) = lib_height c

-- the height of a name
abbrev pub height_of : Program → List ℕ → List ℕ → ℕ
height_of p heights name = height_in heights (find p name)

abbrev pub is_below : Program → List ℕ → ℕ → List ℕ → Bool
is_below p heights height name = nat_lt (height_of p heights name) height

abbrev pub super_below : Program → List ℕ → ℕ → Option (List ℕ) → Bool
super_below p heights height None = true
super_below p heights height (Some name) = is_below p heights height name

-- a height is greater than those of a class's superclass and of the interfaces that it lists
abbrev pub is_above : Program → List ℕ → ℕ → ClassParts → Bool
is_above p heights height c = super_below p heights height (super_name c)
    && list_all (λ i. is_below p heights height (class_text c.pool i)) c.interfaces

-- a part has a name that the library hasn't, and nothing that stands directly above it is higher
unfoldable pub is_part_above : Program → List ℕ → CodePart → Bool
is_part_above p heights part = not (is_some (library.class_named p.side (this_name part.class)))
    && is_above p heights (height_of p heights (this_name part.class) + 1) part.class

unfoldable pub is_order : Program → List ℕ → Bool
is_order p heights = list_all (is_part_above p heights) p.parts

-- a height is greater than those of what stands directly above a user's class that was found
abbrev pub is_user_above : Program → List ℕ → ℕ → Option Class → Bool
is_user_above p heights height None = false
is_user_above p heights height (Some (User i c)) = is_above p heights height c
is_user_above p heights height (Some (Lib c)) = false

-- a user's class has this name, and all that stands directly above it is lower
abbrev pub is_strict : Program → List ℕ → List ℕ → Bool
is_strict p heights name = is_user_above p heights (height_of p heights name) (find p name)
