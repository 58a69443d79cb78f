-- What linking says of instructions that ask for a class or a field.
use Rattle.std.specs.Prelude.{◌≡◌, ⊤, true, List, map, Some, option_map}
use Rattle.std.specs.List.{AllByRecursion}
use Rattle.jparts.specs.declared.jcode.names.FieldOp.{FieldOp}
use Rattle.jparts.specs.declared.jcode.names.FieldOp.TheVariants as fields
use Rattle.jclass.specs.declared.class.MemberInfo.{MemberInfo}
use Rattle.jlib.specs.declared.classes.LibClass.TheVariants as lib
use Rattle.jtypes.specs.declared.vtype.Name.{Name}
use Rattle.jtypes.specs.declared.vtype.VType.{VType}
use Rattle.jtypes.specs.declared.vtype.VType.TheVariants as types
use Rattle.jresolution.specs.declared.jprogram.member.Member.{Member}
use Rattle.jresolution.specs.declared.jprogram.member.Member.TheVariants.{Field, LibField}
use Rattle.jresolution.specs.declared.jprogram.part.ClassRef.{ClassRef}
use Rattle.jresolution.specs.declared.jprogram.part.ClassRef.TheVariants as refs
use Rattle.jresolution.specs.declared.jprogram.part.CodePart.{CodePart}
use Rattle.jresolution.specs.jprogram.ProgramClasses.{Program, find, name_at, ref_of}
use Rattle.jresolution.specs.jlayout.FieldLayout.{field_type, layout}
use Rattle.jresolution.specs.jlayout.InternedFields.{IsFieldOf, all_statics}
use Rattle.jlinking.specs.jlink.NamedFields.{IsNamedField, is_plain}
use Rattle.jresolution.specs.juses.InstructionMeanings.{FieldMeaning}
use Rattle.jtyping.specs.jrule.InstructionContext.{Here}
use Rattle.jtyping.specs.jrule.PoolEffects.{of_library}
use Rattle.jsoundness_laws.specs.typed.TypedValues.{HasDimensions}

-- ---- fields

-- the types of a program's statics, in their order
abbrev pub static_types : Program → List VType
static_types p = map (λ (x : CodePart × MemberInfo). field_type p x.0.class x.1) (all_statics p)

-- a field of a user's class holds what its class says, and `System.out` a PrintStream
abbrev pub HoldsAs : Program → Member → VType → Type 0
HoldsAs p (Field i j) t = (part : CodePart) × (m : MemberInfo) × IsFieldOf p i j part m × (t ≡ field_type p part.class m)
HoldsAs p LibField t = t ≡ of_library lib.PrintStream
HoldsAs p m t = ⊥

-- a field that an instruction names; nothing is put into `System.out`
pub record IsField (p : Program) (op : FieldOp) (f : FieldMeaning) : Type 0 where
  pub named : IsNamedField p op f
  pub held : HoldsAs p f.member f.held
  pub dimensions : HasDimensions f.held
  pub put : op ≡ fields.PutStatic → f.member ≡ LibField → ⊥

-- ---- classes

-- what objects of a class hold has a value to begin with: they are of no security contexts
abbrev pub IsLaidOut : Program → ClassRef → Type 0
IsLaidOut p (refs.User i) = AllByRecursion (λ t. is_plain t ≡ true) (layout p (name_at p (refs.User i)))
IsLaidOut p (refs.Lib c) = ⊤

-- the class of a `new`, which is the one that typing takes it for
pub record IsNew (p : Program) (here : Here) (c : Name) : Type 0 where
  pub class : ClassRef
  pub found : option_map ref_of (find p c.0) ≡ Some class
  pub laid : IsLaidOut p class
  pub makes : here.makes here.at ≡ Some c
