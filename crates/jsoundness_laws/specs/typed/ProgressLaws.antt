-- Laws: where the typing rule gives a frame behind an instruction, the machine has a row that suits it.
use Rattle.std.specs.Prelude.{◌≡◌, ⊤, Bool, true, false, List, Option, Some}
use Rattle.jtypes.specs.Assignability.{fits}
use Rattle.jtypes.specs.TypeFrames.{Frame, frame_fits}
use Rattle.jlib.specs.declared.calls.LibCall.{LibCall}
use Rattle.jlib.specs.LibraryClasses as library
use Rattle.jlib.specs.LibraryMembers as library_calls
use Rattle.jresolution.specs.declared.jprogram.member.CallKind.{CallKind}
use Rattle.jresolution.specs.declared.jprogram.member.ClassId.{ClassId}
use Rattle.jresolution.specs.declared.jprogram.member.Member.{Member}
use Rattle.jresolution.specs.declared.jprogram.member.Selected.TheVariants as selected
use Rattle.jresolution.specs.jprogram.ProgramClasses.{Program, tree}
use Rattle.jresolution.specs.jprogram.MemberResolution.{as_selected, select}
use Rattle.jresolution.specs.jprogram.OrderedPrograms.{StandsInOrder}
use Rattle.jtypes.specs.declared.vtype.ArrayType.{ArrayType}
use Rattle.jtypes.specs.declared.vtype.VType.TheVariants as types
use Rattle.jresolution.specs.juses.IndexedInstructions.{Instruction, Used}
use Rattle.jresolution.specs.juses.InstructionMeanings as meanings
use Rattle.jtyping.specs.jrule.StackEffects.{is_ref}
use Rattle.jtyping.specs.jrule.InstructionContext.{Here}
use Rattle.jtyping.specs.jrule.TypingRule.{is_own, rule}
use Rattle.jsemantics.specs.jmachine.MachineStates.{FrameOf}
use Rattle.jsemantics.specs.jmachine.InstructionActions.{doing}
use Rattle.jsemantics.specs.jmachine.Security.{Rules}
use Rattle.jsemantics.specs.jmachine.InstructionSites.{Site}
use Rattle.jsemantics.specs.jmachine.Store.{Store}
use Rattle.jsemantics.specs.jmachine.World.{World, world}
use Rattle.jsoundness_laws.specs.typed.TypedActions.{CanDo}
use Rattle.jsoundness_laws.specs.typed.TypedStores.{IsStored}
use Rattle.jsoundness_laws.specs.typed.TypedFrames.{AllHaveDimensions, News, Suits}
use Rattle.jsoundness_laws.specs.typed.TypedUses.{IsField, IsNew, static_types}
use Rattle.jsoundness_laws.specs.typed.TypedValues.{HasDimensions}

-- ---- instructions that call no method

-- Where an instruction stands: the class of its method, and the fields that it may write before `this` is initialised, are those of typing.
pub record IsAt (p : Program) (at : Site) (own : Member → Bool) (here : Here) : Type 0 where
  pub program : at.world ≡ world p
  pub class : at.world.named at.class ≡ here.class
  pub own_fields : own ≡ is_own p here.is_init here.class

-- What is said of an instruction that calls no method: what linking says of what it names.
abbrev pub IsStraight : Program → Here → Instruction → Type 0
IsStraight p here (Used (meanings.Cast op t)) = (is_ref t ≡ true) × HasDimensions t
IsStraight p here (Used (meanings.MakeArray t)) = (a : ArrayType) × (t ≡ types.Array a) × HasDimensions (types.Array a)
IsStraight p here (Used (meanings.Field op f)) = IsField p op f
IsStraight p here (Used (meanings.Make c)) = IsNew p here c
IsStraight p here (Used (meanings.Call by c)) = ⊥
IsStraight p here i = ⊤

-- In a frame that suits, the machine does what such an instruction asks, and what it does suits the frame behind.
abbrev pub StraightDoes : Type 0 → Type 0 → Type 0
StraightDoes K E = (r : Rules K E) (at : Site) (own : Member → Bool) (s : Store K) (entries : List E) (inherited : Option K)
    (p : Program) (here : Here) (news : News) (i : Instruction) (shape behind : Frame) (f : FrameOf K E)
    → StandsInOrder p → IsAt p at own here → IsStored at.world s (static_types p) → IsStraight p here i → Suits at.world s here news shape f
    → rule p here i shape ≡ Some behind
    → CanDo at.world s (static_types p) here i behind (doing r at own s entries inherited i f)

-- ---- frames

-- What a frame holds that suits one of typing suits each that this one fits, if that has no array without dimensions.
abbrev pub SuitsWider : Type 0 → Type 0 → Type 0
SuitsWider K E = (p : Program) (w : World) (s : Store K) (here : Here) (news : News) (a b : Frame) (f : FrameOf K E)
    → StandsInOrder p → w ≡ world p → AllHaveDimensions b → frame_fits (fits (tree p)) a b ≡ true → Suits w s here news a f → Suits w s here news b f

-- ---- calls of the library

-- it has code: its owner is no interface
abbrev pub HasCode : LibCall → Type 0
HasCode call = library.is_interface (library_calls.owner call) ≡ false

-- What is selected, or taken as it is, of the library has code.
abbrev pub ItselfHasCode : Type 0
ItselfHasCode = (p : Program) (m : Option Member) (call : LibCall) → as_selected p m ≡ selected.Lib call → HasCode call

abbrev pub SelectedHasCode : Type 0
SelectedHasCode = (p : Program) (on : ClassId) (m : Member) (kind : CallKind) (call : LibCall) → select p on m kind ≡ selected.Lib call → HasCode call
