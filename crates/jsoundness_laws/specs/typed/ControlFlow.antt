-- Where instructions lead in a method whose instructions have frames.
use Rattle.std.specs.Prelude.{◌≡◌, ◌≢◌, ℕ, ℤ, suc, Bool, List, Option, Some, slice_get}
use Rattle.std.specs.Option.{option_to_list}
use Rattle.jparts.specs.declared.jcode.op.Placed.{Placed}
use Rattle.jvalues.specs.declared.jops.value.Value.TheVariants.{Ref}
use Rattle.jtypes.specs.declared.vtype.VType.{VType}
use Rattle.jtypes.specs.TypeFrames.{Frame}
use Rattle.jresolution.specs.declared.jprogram.member.Member.{Member}
use Rattle.jresolution.specs.jprogram.ProgramClasses.{Program}
use Rattle.jresolution.specs.jprogram.OrderedPrograms.{StandsInOrder}
use Rattle.jresolution.specs.juses.IndexedInstructions.{Instruction, instruction}
use Rattle.jtyping.specs.jrule.InstructionContext.{Here}
use Rattle.jtyping.specs.jrule.PoolEffects.{throwable}
use Rattle.jtyping.specs.jwelltyped.DeclaredFrames.{Written, declared_at}
use Rattle.jtyping.specs.jwelltyped.MethodPremises.{Method, here_of}
use Rattle.jtyping.specs.jwelltyped.WellTypedness.{AreFrames}
use Rattle.jsemantics.specs.jmachine.MachineStates.{Act, FrameOf, Goes, Jumps, Leaves, Raises, Throws}
use Rattle.jsemantics.specs.jmachine.InstructionActions.{Doing, doing}
use Rattle.jsemantics.specs.jmachine.FrameOperations.{onward, standing}
use Rattle.jsemantics.specs.jmachine.Security.{Rules}
use Rattle.jsemantics.specs.jmachine.InstructionSites.{Site}
use Rattle.jsemantics.specs.jmachine.Store.{Store}
use Rattle.jsemantics.specs.jmachine.World.{world}
use Rattle.jsoundness_laws.specs.typed.TypedFrames.{AllHaveDimensions, News, Suits}
use Rattle.jsoundness_laws.specs.typed.StoreGrowth.{Grows}
use Rattle.jsoundness_laws.specs.typed.TypedStores.{IsStored}
use Rattle.jsoundness_laws.specs.typed.ProgressLaws.{IsAt, IsStraight}
use Rattle.jsoundness_laws.specs.typed.TypedUses.{static_types}
use Rattle.jsoundness_laws.specs.typed.TypedValues.{AreOf, CanBeThrown, IsA}

-- what is known of values is the same at each place of a method
abbrev pub inside : Program → Method → Here
inside p m = here_of p m 0

module _ {K : Type 0} (p : Program) (m : Method) (fs : List Frame) (news : News) where
  -- in a store, a frame of the machine holds what that of the instruction of a number says
  pub record SuitsAt {E : Type 0} (s : Store K) (n : ℕ) (f : FrameOf K E) : Type 0 where
    pub shape : Frame
    pub there : slice_get fs n ≡ Some shape
    pub suits : Suits (world p) s (inside p m) news shape f

  -- What is done by the instruction of a number leads on: the frame suits the instruction behind, in a typed store behind, or the one to which
  -- it jumps; a method returns what it says that it returns; and what is thrown can be thrown.
  abbrev pub Leads : {E : Type 0} → Store K → List VType → ℕ → FrameOf K E → Act K E → Type 0
  Leads s statics n f (Goes t values events) = Grows (world p) s t × IsStored (world p) t statics × SuitsAt t (suc n) (onward f values)
  Leads s statics n f (Jumps to) = SuitsAt s to (standing f to f.operands)
  Leads s statics n f (Leaves values) = AreOf (world p) s (option_to_list m.returns) values
  Leads s statics n f (Raises events class message) = CanBeThrown class
  Leads s statics n f (Throws x) = IsA (world p) s throwable (Ref x) × (x ≢ 0)
  Leads s statics n f act = ⊥

-- where a `new` may have made another object
pub record LeadsOn {K E : Type 0} (p : Program) (m : Method) (fs : List Frame) (s : Store K) (statics : List VType) (n : ℕ)
    (found : Option (Doing K E)) : Type 0 where
  pub done : Doing K E
  pub is : found ≡ Some done
  pub news : News
  pub leads : Leads p m fs news s statics n done.frame done.row.act

-- the arrays of all frames that a method declares have dimensions
abbrev pub DeclareDimensions : List Written → Type 0
DeclareDimensions ws = (at : ℤ) (f : Frame) → declared_at ws at ≡ Some f → AllHaveDimensions f

-- ---- law

-- In a method whose instructions have frames, one that calls no method is done in a frame that suits its own, and leads on.
abbrev pub StraightLeads : Type 0 → Type 0 → Type 0
StraightLeads K E = (r : Rules K E) (at : Site) (own : Member → Bool) (s : Store K) (entries : List E) (inherited : Option K)
    (p : Program) (m : Method) (ws : List Written) (fs : List Frame) (news : News) (n : ℕ) (o : Placed) (i : Instruction) (f : FrameOf K E)
    → StandsInOrder p → IsAt p at own (here_of p m o.at) → IsStored (world p) s (static_types p) → AreFrames p m ws fs → DeclareDimensions ws
    → slice_get m.body.ops n ≡ Some o → instruction p m.pool m.body.ops o ≡ Some i → IsStraight p (here_of p m o.at) i
    → SuitsAt p m fs news s n f → LeadsOn p m fs s (static_types p) n (doing r at own s entries inherited i f)
