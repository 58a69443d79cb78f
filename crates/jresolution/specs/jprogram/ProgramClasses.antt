-- The classes of a program: its own and its side's library, found by name, and which stands above which (JVMS 4.1, 5.3).
use Rattle.std.specs.Prelude.{ℕ, zero, suc, ◌+◌, Bool, true, false, ◌||◌, not, List, [], ◌∷◌, ◌++◌, length, map, Option, Some, None, option_map, option_and_then, slice_get, codes}
use Rattle.std.specs.List.{flat_map, list_any, position}
use Rattle.std.specs.Option.{option_to_list}
use Rattle.std.specs.Str.{bytes_eq}
use Rattle.jclass.specs.declared.class.ClassParts.{ClassParts}
use Rattle.jlib.specs.declared.side.Side.{Side}
use Rattle.jlib.specs.declared.classes.LibClass.{LibClass}
use Rattle.jlib.specs.LibraryClasses as library
use Rattle.jtypes.specs.ClassTrees.{Tree}
use Rattle.jresolution.specs.declared.jprogram.part.CodePart.{CodePart}
use Rattle.jresolution.specs.declared.jprogram.part.ClassRef.{ClassRef}
use Rattle.jresolution.specs.declared.jprogram.part.ClassRef.TheVariants as refs
use Rattle.jresolution.specs.jprogram.ClassFileParts as parts

-- ---- programs

pub record Program : Type 0 where
  -- the library that it is written for
  pub side : Side
  pub parts : List CodePart

abbrev pub program : Side → List CodePart → Program
program side parts = record { side = side; parts = parts }

-- a user's class, which stands at a place among the parts, or one of the library
pub data Class : Type 0 where
  User : ℕ → ClassParts → Class
  Lib : LibClass → Class

-- ---- finding a class (JVMS 5.3)

-- the place of the first part whose class has this name
unfoldable pub place_of : List CodePart → List ℕ → Option ℕ
place_of ps name = position (λ part. bytes_eq (parts.this_name part.class) name) ps

abbrev pub user_at : Program → ℕ → Option Class
user_at p i = option_map (λ part. User i part.class) (slice_get p.parts i)

abbrev pub found_at : Program → List ℕ → Option ℕ → Option Class
found_at p name = elim [ Some i ↦ user_at p i | None ↦ option_map Lib (library.class_named p.side name) ]

-- the class of a name: users' classes come first
unfoldable pub find : Program → List ℕ → Option Class
find p name = found_at p name (place_of p.parts name)

-- ---- what a class says

abbrev pub name_of : Class → List ℕ
name_of = elim [ User i c ↦ parts.this_name c | Lib c ↦ library.name_of c ]

-- the name of the class that it extends; an interface extends Object
abbrev pub above : Class → Option (List ℕ)
above = elim [ User i c ↦ parts.super_name c | Lib c ↦ option_map library.name_of (library.superclass c) ]

-- the names of the interfaces that it lists
abbrev pub faces : Class → List (List ℕ)
faces = elim [ User i c ↦ parts.interface_names c | Lib c ↦ option_to_list (option_map library.name_of (library.implemented c)) ]

abbrev pub is_interface : Class → Bool
is_interface = elim [ User i c ↦ parts.is_interface c.flags | Lib c ↦ library.is_interface c ]

-- users may not extend it
abbrev pub is_closed : Class → Bool
is_closed = elim [ User i c ↦ parts.is_final c.flags | Lib c ↦ not (library.is_open c) ]

-- none can be made of it, interfaces aside
abbrev pub is_abstract : Class → Bool
is_abstract = elim [ User i c ↦ parts.is_abstract c.flags | Lib c ↦ library.is_abstract c ]

abbrev pub is_public : Class → Bool
is_public = elim [ User i c ↦ parts.is_public c.flags | Lib c ↦ true ]

-- ---- the number of a class

abbrev pub ref_of : Class → ClassRef
ref_of = elim [ User i c ↦ refs.User i | Lib c ↦ refs.Lib c ]

-- the class of a number
abbrev pub class_at : Program → ClassRef → Option Class
class_at p = elim [ refs.User i ↦ user_at p i | refs.Lib c ↦ Some (Lib c) ]

abbrev pub named : Option Class → List ℕ
named = elim [ None ↦ [] | Some c ↦ name_of c ]

-- the name of the class of a number; empty where there is none
abbrev pub name_at : Program → ClassRef → List ℕ
name_at p r = named (class_at p r)

-- the number of the class above the class of a number
abbrev pub super_at : Program → ClassRef → Option ClassRef
super_at p r = option_map ref_of (option_and_then (find p) (option_and_then above (class_at p r)))

-- ---- by name

-- what holds of the class of a name, and of none
abbrev pub holds : (Class → Bool) → Option Class → Bool
holds test = elim [ None ↦ false | Some c ↦ test c ]

-- the name of the class above the class of a name
abbrev pub above_name : Program → List ℕ → Option (List ℕ)
above_name p name = option_and_then above (find p name)

abbrev pub faces_of : Option Class → List (List ℕ)
faces_of = elim [ None ↦ [] | Some c ↦ faces c ]

-- the names of the interfaces that the class of a name lists
abbrev pub face_names : Program → List ℕ → List (List ℕ)
face_names p name = faces_of (find p name)

-- the names that can be found: those of users' classes, and those of the library, both sides' together
abbrev pub known : Program → List (List ℕ)
known p = map (λ part. parts.this_name part.class) p.parts ++ map library.name_of library.classes

-- ---- upwards

abbrev pub onward : (List ℕ → List (List ℕ)) → Option (List ℕ) → List (List ℕ)
onward f = elim [ None ↦ [] | Some name ↦ f name ]

-- a class and those above it, nearest first, at most n
unfoldable pub chain : Program → ℕ → List ℕ → List (List ℕ)
chain p zero c = []
chain p (suc n) c = c ∷ onward (chain p n) (above_name p c)

-- a class and all above it: no chain without a circle is longer than what is known and one more
abbrev pub up : Program → List ℕ → List (List ℕ)
up p c = chain p (length (known p) + 1) c

abbrev pub object : List ℕ
object = codes "java/lang/Object"

-- a class is another one or stands below it; all stand below Object
unfoldable pub extends : Program → List ℕ → List ℕ → Bool
extends p c d = bytes_eq d object || list_any (bytes_eq d) (up p c)

-- what typing has to know of the program
abbrev pub tree : Program → Tree
tree p = record { is_interface = λ c. holds is_interface (find p c.0); extends = λ c d. extends p c.0 d.0 }

-- ---- interfaces

-- each name followed at once by the interfaces that its class lists and theirs, n of them deep
unfoldable pub over : Program → ℕ → List (List ℕ) → List (List ℕ)
over p zero names = []
over p (suc n) names = flat_map (λ name. name ∷ over p n (face_names p name)) names

-- the interfaces of a class, direct and through others, in order
abbrev pub superinterfaces : Program → List ℕ → List (List ℕ)
superinterfaces p c = over p (length (known p)) (face_names p c)

-- an interface is one of those of a class or of a class above it
unfoldable pub implements : Program → List ℕ → List ℕ → Bool
implements p c i = list_any (λ x. list_any (bytes_eq i) (superinterfaces p x)) (up p c)

-- ---- circles

-- a name is reached from a class in n steps at most
unfoldable pub reaches : Program → ℕ → List ℕ → List ℕ → Bool
reaches p zero d c = false
reaches p (suc n) d c = list_any (λ s. bytes_eq d s || reaches p n d s) (option_to_list (above_name p c) ++ face_names p c)
