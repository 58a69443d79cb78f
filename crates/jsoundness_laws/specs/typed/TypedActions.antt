-- What an instruction is to do, by the frame that the typing rule gives behind it.
use Rattle.std.specs.Prelude.{◌≡◌, ◌≢◌, List, ◌++◌, true, Option, Some, None}
use Rattle.std.specs.Option.{option_to_list}
use Rattle.jtypes.specs.declared.vtype.VType.{VType}
use Rattle.jtypes.specs.TypeFrames.{Frame}
use Rattle.jclass.specs.FileContents.{IsIn}
use Rattle.jresolution.specs.juses.IndexedInstructions.{Instruction, goes_on, targets}
use Rattle.jtyping.specs.jrule.InstructionContext.{Here}
use Rattle.jtyping.specs.jrule.PoolEffects.{throwable}
use Rattle.jvalues.specs.declared.jops.value.Value.TheVariants.{Ref}
use Rattle.jsemantics.specs.jmachine.MachineStates.{Act, Goes, Jumps, Leaves, Raises, Throws}
use Rattle.jsemantics.specs.jmachine.InstructionActions.{Doing}
use Rattle.jsemantics.specs.jmachine.Store.{Store}
use Rattle.jsemantics.specs.jmachine.World.{World}
use Rattle.jsoundness_laws.specs.typed.StoreGrowth.{Grows}
use Rattle.jsoundness_laws.specs.typed.TypedStores.{IsStored}
use Rattle.jsoundness_laws.specs.typed.TypedValues.{AreOf, CanBeThrown, IsA}
use Rattle.jsoundness_laws.specs.typed.TypedFrames.{News, AllHave, AllHold}

module _ {K E : Type 0} (w : World) (s : Store K) (statics : List VType) (here : Here) (news : News) where
  -- An act of an instruction of a method that calls none: if it goes on, it gives these, in a typed store behind; or it jumps where the
  -- instruction leads, returns what the method returns, or throws what can be thrown.
  abbrev pub GivesOf : Instruction → Option VType → Act K E → Type 0
  GivesOf i gives (Goes t values events) = (goes_on i ≡ true) × Grows w s t × IsStored w t statics
      × AllHave w t here news (option_to_list gives) values
  GivesOf i gives (Jumps to) = IsIn to (targets i) × (gives ≡ None)
  GivesOf i gives (Leaves values) = (gives ≡ None) × AreOf w s (option_to_list here.returns) values
  GivesOf i gives (Raises events class message) = CanBeThrown class
  GivesOf i gives (Throws n) = IsA w s throwable (Ref n) × (n ≢ 0)
  GivesOf i gives act = ⊥

  -- The frame has its operands taken, so that it suits the frame behind but for what is given.
  pub record Does (i : Instruction) (behind : Frame) (d : Doing K E) : Type 0 where
    pub gives : Option VType
    pub rest : List VType
    pub stack : behind.stack ≡ (option_to_list gives ++ rest)
    pub locals : AllHold w s here news behind.locals d.frame.locals
    pub operands : AllHave w s here news rest d.frame.operands
    pub act : GivesOf i gives d.row.act

-- There is something that is done, and it suits the frame behind, where a `new` may have made another object.
pub record CanDo {K E : Type 0} (w : World) (s : Store K) (statics : List VType) (here : Here) (i : Instruction) (behind : Frame)
    (found : Option (Doing K E)) : Type 0 where
  pub done : Doing K E
  pub is : found ≡ Some done
  pub news : News
  pub does : Does w s statics here news i behind done
