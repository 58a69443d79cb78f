-- The parts of what an instruction means.
use Rattle.std.specs.Prelude.{ℕ, Option, Some, None}
use Rattle.jtypes.specs.declared.vtype.Name.{Name}
use Rattle.jtypes.specs.declared.vtype.VType.{VType}
use Rattle.jresolution.specs.declared.jprogram.member.Member.{Member}
use Rattle.jresolution.specs.declared.jprogram.member.Member.TheVariants as members
use Rattle.jresolution.specs.declared.juses.meaning.InvokeKind.{InvokeKind}
use Rattle.jresolution.specs.juses.InstructionMeanings.{Call, CallMeaning, Cast, Field, FieldMeaning, Make, MakeArray, Meaning, Push}

-- a constant, if one is pushed
abbrev pub only_push : Option Meaning → Option Meaning
only_push (Some (Push c)) = Some (Push c)
only_push m = None

abbrev pub only_field : Option Meaning → Option FieldMeaning
only_field (Some (Field op f)) = Some f
only_field m = None

abbrev pub only_call : Option Meaning → Option (InvokeKind × CallMeaning)
only_call (Some (Call by c)) = Some (by, c)
only_call m = None

-- the class of the object that is made
abbrev pub only_made : Option Meaning → Option Name
only_made (Some (Make c)) = Some c
only_made m = None

-- the type of the array that is made
abbrev pub only_array : Option Meaning → Option VType
only_array (Some (MakeArray t)) = Some t
only_array m = None

-- the type that is tested
abbrev pub only_cast : Option Meaning → Option VType
only_cast (Some (Cast op t)) = Some t
only_cast m = None

-- the class that declares a user's field, and its place among the fields of that class
abbrev pub user_place : Member → Option (ℕ × ℕ)
user_place (members.Field i j) = Some (i, j)
user_place m = None
