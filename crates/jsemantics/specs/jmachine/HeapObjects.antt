-- The objects of the heap. `K` is what stands for a security context.
use Rattle.std.specs.Prelude.{ℕ, Bool, true, List, Option, is_some}
use Rattle.jperm.specs.declared.permission.Permission as perms
use Rattle.jvalues.specs.declared.jops.value.Value.{Value}
use Rattle.jlib.specs.declared.classes.LibClass.{LibClass}
use Rattle.jlib.specs.declared.classes.LibClass.TheVariants as lib
use Rattle.jlib.specs.declared.classes.PermissionClass.{PermissionClass}
use Rattle.jlib.specs.LibraryClasses as library
use Rattle.jtypes.specs.declared.vtype.Name.{Name}
use Rattle.jtypes.specs.declared.vtype.ArrayType.{ArrayType}
use Rattle.jtypes.specs.declared.vtype.VType.{VType}
use Rattle.jtypes.specs.declared.vtype.VType.TheVariants as types
use Rattle.jresolution.specs.declared.jprogram.member.ClassId.{ClassId}
use Rattle.jresolution.specs.declared.jprogram.member.ClassId.TheVariants as id
use Rattle.jresolution.specs.juses.DescriptorTypes.{name}

-- A message is the number of a string, or 0 where there is none. What `new` makes of String, of a class of permissions, of
-- AccessControlContext and of Thread holds nothing yet.
pub data Object (K : Type 0) : Type 0 where
  -- of a user's class, by its place among the parts: a message, which counts where it can be thrown, and what its fields hold
  Instance : (class message : ℕ) → List (Value K) → Object K
  -- of a class of the library that can be thrown
  Thrown : LibClass → (message : ℕ) → Object K
  -- a string: its units
  Text : Option (List ℕ) → Object K
  -- a StringBuilder: all units that were appended
  Builder : List ℕ → Object K
  -- what one call appended to a StringBuilder
  Piece : List ℕ → Object K
  -- a permission
  Permission : PermissionClass → Option perms.Permission → Object K
  -- an AccessControlContext: what it keeps
  Context : Option K → Object K
  -- a Thread: the thread's number
  Thread : Option ℕ → Object K
  -- of another class of the library
  Bare : LibClass → Object K
  Array : ArrayType → List (Value K) → Object K

-- ---- classes

abbrev pub library_name : LibClass → Name
library_name c = name (library.name_of c)

-- the class at which the methods of an object are looked for
abbrev pub id_of : {K : Type 0} → Object K → ClassId
id_of (Instance class message fields) = id.User class
id_of (Thrown c message) = id.Lib c
id_of (Text units) = id.Lib lib.String
id_of (Builder units) = id.Lib lib.StringBuilder
id_of (Piece units) = id.Lib lib.StringBuilder
id_of (Permission c held) = id.Lib (lib.Permission c)
id_of (Context kept) = id.Lib lib.AccessControlContext
id_of (Thread number) = id.Lib lib.Thread
id_of (Bare c) = id.Lib c
id_of (Array a items) = id.Array

abbrev pub name_by : (ℕ → Name) → ClassId → Name
name_by named = elim [ id.User i ↦ named i | id.Lib c ↦ library_name c | id.Array ↦ library_name lib.Object ]

-- the class of an object, or the type of an array, where `named` are the names of users' classes
abbrev pub class_of : {K : Type 0} → (ℕ → Name) → Object K → VType
class_of named x = elim x [ Array a items ↦ types.Array a | y ↦ types.Object (name_by named (id_of y)) ]

-- It may be used: a string has its units, a permission and a Thread have their values from `<init>`, and an AccessControlContext has
-- what it keeps.
abbrev pub is_ready : {K : Type 0} → Object K → Bool
is_ready x = elim x [ Text units ↦ is_some units | Permission c p ↦ is_some p | Context k ↦ is_some k | Thread n ↦ is_some n | _ ↦ true ]
