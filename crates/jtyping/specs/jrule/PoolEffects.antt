-- What instructions take and give that mean something by the pool (JVMS 4.10.1.9), read by the typing rule and the machine alike.
use Rattle.std.specs.Prelude.{Bool, List, [], ◌∷◌, ◌++◌, map, if◌then◌else◌}
use Rattle.jvalues.specs.declared.jnames.kinds.Kind.TheVariants as kinds
use Rattle.jparts.specs.declared.jcode.names.CastOp.TheVariants as casts
use Rattle.jparts.specs.declared.jcode.names.FieldOp.{FieldOp}
use Rattle.jparts.specs.declared.jcode.names.FieldOp.TheVariants as fields
use Rattle.jlib.specs.declared.classes.LibClass.{LibClass}
use Rattle.jlib.specs.declared.classes.LibClass.TheVariants as lib
use Rattle.jlib.specs.declared.classes.Thrown.TheVariants as thrown
use Rattle.jlib.specs.LibraryClasses as library
use Rattle.jtypes.specs.declared.vtype.Name.{Name}
use Rattle.jtypes.specs.declared.vtype.VType.{VType}
use Rattle.jtypes.specs.declared.vtype.VType.TheVariants.{Int, Long, Object}
use Rattle.jresolution.specs.declared.jprogram.member.Member.{Member}
use Rattle.jresolution.specs.declared.juses.meaning.InvokeKind.{InvokeKind}
use Rattle.jresolution.specs.declared.juses.meaning.InvokeKind.TheVariants as how
use Rattle.jresolution.specs.juses.InstructionMeanings as meanings
use Rattle.jresolution.specs.juses.InstructionMeanings.{CallMeaning, FieldMeaning, Meaning, Pushed}
use Rattle.jresolution.specs.juses.DescriptorTypes.{name}
use Rattle.jtyping.specs.jrule.StackEffects.{Exchange, Fits, Of, OrThis, Want, gives, takes}

-- ---- classes of the library

abbrev pub of_library : LibClass → VType
of_library c = Object (name (library.name_of c))

abbrev pub throwable : VType
throwable = of_library (lib.Thrown thrown.Throwable)

-- ---- constants

abbrev pub constant : Pushed → VType
constant = elim [ meanings.Int n ↦ Int | meanings.Long n ↦ Long | meanings.Text s ↦ of_library lib.String ]

-- ---- fields

-- an object whose field is written; one of `own` may be written while `this` isn't initialised
abbrev pub written : Bool → Name → Name → Want
written own this owner = if own then OrThis owner this else Fits (Object owner)

abbrev pub of_field : (Member → Bool) → Name → FieldOp → FieldMeaning → Exchange
of_field own this fields.GetStatic f = gives [] f.held
of_field own this fields.PutStatic f = takes (Fits f.held ∷ [])
of_field own this fields.GetField f = gives (Fits (Object f.owner) ∷ []) f.held
of_field own this fields.PutField f = takes (Fits f.held ∷ written (own f.member) this f.owner ∷ [])

-- ---- calls

-- the object on which a method is called; for that of an `<init>` there is a rule of its own
abbrev pub receiver : Name → InvokeKind → Name → List Want
receiver this x owner = elim x [ how.Special ↦ Fits (Object this) ∷ [] | how.Static ↦ [] | how.Init ↦ [] | _ ↦ Fits (Object owner) ∷ [] ]

abbrev pub arguments : CallMeaning → List Want
arguments c = map Fits c.params

abbrev pub of_call : Name → InvokeKind → CallMeaning → Exchange
of_call this by c = record { takes = arguments c ++ receiver this by c.owner; gives = c.ret }

-- ---- casts

-- ---- all

-- What is taken and given, by the class `this` in which the instruction stands. `own` are the fields that may be written while `this`
-- isn't initialised. The object of an `<init>`, and what `new` makes, have rules of their own.
unfoldable pub exchange : (Member → Bool) → Name → Meaning → Exchange
exchange own this (meanings.Push c) = gives [] (constant c)
exchange own this (meanings.Field op f) = of_field own this op f
exchange own this (meanings.Call by c) = of_call this by c
exchange own this (meanings.Make c) = takes []
exchange own this (meanings.MakeArray t) = gives (Of kinds.Int ∷ []) t
exchange own this (meanings.Cast op t) = elim op [ casts.CheckCast ↦ gives (Of kinds.Ref ∷ []) t | casts.InstanceOf ↦ gives (Of kinds.Ref ∷ []) Int ]
