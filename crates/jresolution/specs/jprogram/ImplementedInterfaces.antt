-- The table of the interfaces that a program's classes implement: a row a part, a set of numbers of interfaces.
use Rattle.std.specs.Prelude.{◌≡◌, ℕ, ◌+◌, Bool, true, false, ◌||◌, ◌&&◌, ◌==◌, List, length, Option, Some, None, IsTrue, is_some, option_and_then, option_map, slice_get}
use Rattle.std.specs.List.{list_all, list_any}
use Rattle.std.specs.Str.{bytes_eq}
use Rattle.jclass.specs.declared.class.ClassParts.{ClassParts}
use Rattle.jlib.specs.declared.classes.LibClass.{LibClass}
use Rattle.jlib.specs.declared.classes.LibClass.TheVariants as lib
use Rattle.jlib.specs.LibraryClasses as library
use Rattle.jresolution.specs.jprogram.ClassFileParts.{class_text, super_name}
use Rattle.jresolution.specs.declared.jprogram.part.ClassRef.{ClassRef}
use Rattle.jresolution.specs.declared.jprogram.part.ClassRef.TheVariants as refs
use Rattle.jresolution.specs.declared.jprogram.part.CodePart.{CodePart}
use Rattle.jresolution.specs.jprogram.BitSets.{has}
use Rattle.jresolution.specs.jprogram.InterfaceNumbers.{face_number}
use Rattle.jresolution.specs.jprogram.ProgramClasses.{Class, Lib, Program, User, find, implements, name_at, place_of, ref_of}

-- ---- numbers

-- the library's interfaces
abbrev pub lib_number : LibClass → Option ℕ
lib_number lib.Cloneable = Some 0
lib_number lib.Serializable = Some 1
lib_number lib.Runnable = Some 2
lib_number lib.PrivilegedAction = Some 3
lib_number _ = None

-- and behind them the users' interfaces, in their order
abbrev pub user_number : Program → ℕ → Option ℕ
user_number p i = option_map (λ n. n + 4) (face_number p.parts i)

abbrev pub number_in : Program → Option Class → Option ℕ
number_in p None = None
number_in p (Some (User i c)) = user_number p i
number_in p (Some (Lib c)) = lib_number c

abbrev pub number_of : Program → List ℕ → Option ℕ
number_of p name = number_in p (find p name)

-- of a class by its own number
abbrev pub number_at : Program → ClassRef → Option ℕ
number_at p (refs.User i) = user_number p i
number_at p (refs.Lib c) = lib_number c

-- a class of the program has this number
abbrev pub IsNumber : Program → ClassRef → Type 0
IsNumber p r = option_map ref_of (find p (name_at p r)) ≡ Some r

-- of the interface that a class of the library lists
abbrev pub listed_number : LibClass → Option ℕ
listed_number c = option_and_then lib_number (library.implemented c)

abbrev pub is_number : ℕ → Option ℕ → Bool
is_number n None = false
is_number n (Some k) = n == k

-- ---- what a class implements, by what stands directly above it

-- an interface is the one of a name, or what this one implements
abbrev pub is_or_has : Program → List ℕ → List ℕ → Bool
is_or_has p i name = bytes_eq i name || implements p name i

abbrev pub face_has : Program → List ℕ → ClassParts → ℕ → Bool
face_has p i c k = is_or_has p i (class_text c.pool k)

abbrev pub above_has : Program → List ℕ → Option (List ℕ) → Bool
above_has p i None = false
above_has p i (Some name) = implements p name i

abbrev pub supers_have : Program → List ℕ → ClassParts → Bool
supers_have p i c = list_any (face_has p i c) c.interfaces || above_has p i (super_name c)

-- ---- rows

-- a row has the numbers of the interfaces that the class of a name implements
abbrev pub IsRow : Program → List ℕ → List ℕ → Type 0
IsRow p c row = (i : List ℕ) (k : ℕ) → number_of p i ≡ Some k → has row k ≡ implements p c i

-- a row has those of what stands directly above a class
abbrev pub IsRowOf : Program → ClassParts → List ℕ → Type 0
IsRowOf p c row = (i : List ℕ) (k : ℕ) → number_of p i ≡ Some k → has row k ≡ supers_have p i c

-- a row has besides what passes a test
abbrev pub Adds : Program → (List ℕ → Bool) → List ℕ → List ℕ → Type 0
Adds p test old new = (i : List ℕ) (k : ℕ) → number_of p i ≡ Some k → has new k ≡ (has old k || test i)

abbrev pub row_has : Option (List ℕ) → ℕ → Bool
row_has None k = false
row_has (Some row) k = has row k

-- the rows that are made are those of the classes at their places
pub record AreRows (p : Program) (rows : List (Option (List ℕ))) : Type 0 where
  pub each : length rows ≡ length p.parts
  pub right : (c : List ℕ) (j : ℕ) (row : List ℕ) → place_of p.parts c ≡ Some j → slice_get rows j ≡ Some (Some row) → IsRow p c row

-- all rows are made
pub record AreInterfaces (p : Program) (rows : List (Option (List ℕ))) : Type 0 where
  pub made : AreRows p rows
  pub all : IsTrue (list_all is_some rows)

-- ---- which rows are made

abbrev pub row_in : Option (Option (List ℕ)) → Option (List ℕ)
row_in None = None
row_in (Some row) = row

abbrev pub is_made_at : List (Option (List ℕ)) → ℕ → Bool
is_made_at rows i = is_some (row_in (slice_get rows i))

-- that of a class; a class of the library needs none
abbrev pub made_in : List (Option (List ℕ)) → Option Class → Bool
made_in rows (Some (User i c)) = is_made_at rows i
made_in rows _ = true

abbrev pub is_made : Program → List (Option (List ℕ)) → List ℕ → Bool
is_made p rows name = made_in rows (find p name)

abbrev pub face_made : Program → List (Option (List ℕ)) → ClassParts → ℕ → Bool
face_made p rows c k = is_made p rows (class_text c.pool k)

abbrev pub above_made : Program → List (Option (List ℕ)) → Option (List ℕ) → Bool
above_made p rows None = true
above_made p rows (Some name) = is_made p rows name

-- those of what stands directly above a class
abbrev pub supers_made : Program → List (Option (List ℕ)) → ClassParts → Bool
supers_made p rows c = list_all (face_made p rows c) c.interfaces && above_made p rows (super_name c)

-- what is made stays made
abbrev pub Keeps : List (Option (List ℕ)) → List (Option (List ℕ)) → Type 0
Keeps old new = (i : ℕ) → is_made_at old i ≡ true → is_made_at new i ≡ true

-- where those of what stands directly above a part are made, that of the part is made now
abbrev pub Readies : Program → ℕ → List (Option (List ℕ)) → List (Option (List ℕ)) → Type 0
Readies p j old new = (part : CodePart) → slice_get p.parts j ≡ Some part → supers_made p old part.class ≡ true → is_made_at new j ≡ true
