-- Numbers of the pool, and instructions that mean others.
use Rattle.std.proofs.Common.{◌≡◌, ℕ, [], ◌∷◌, List, Option, Some}
use Rattle.std.specs.Prelude.{IfOk, Ok, Err, OnOk, Result}
use Rattle.jvalues.specs.declared.jops.value.Value.{Value}
use Rattle.jvalues.specs.declared.jops.value.Value.TheVariants.{Int, Long, Ref, Ctx}
use Rattle.jparts.specs.declared.jpool.entry.Entry.{Entry}
use Rattle.jresolution.specs.jprogram.ProgramClasses.{Program}
use Rattle.jtyping.specs.jrule.PoolEffects.{exchange}
use Rattle.jresolution.specs.juses.IndexedInstructions.{Instruction}
use Rattle.jsemantics.specs.jmachine.MachineStates.{FrameOf}
use Rattle.jsemantics.specs.jmachine.InstructionActions.{doing, used}
use Rattle.jsemantics.specs.jmachine.FrameOperations.{onward}
use Rattle.jsemantics.specs.jmachine.ObjectInstructions.{push}
use Rattle.jsemantics.specs.jmachine.TakenOperands.{taken}
use Rattle.jready.specs.declared.instr.Push.{Push}
use Rattle.jready.specs.declared.tables.Tables.{Tables}
use Rattle.jready.specs.DecodedInstructions.{push_meant}
use Rattle.jruntime.specs.jstate.FrameLists.{Framed, with_newest}
use Rattle.jrows.specs.jacts.RowOutcomes.{Does, GoesFree}
use Rattle.jrows.specs.declared.jacts.way.Way.{Way}
use Rattle.jrows.specs.declared.jacts.way.Way.TheVariants as ways
use Rattle.jstepping.specs.jstep.InstructionRows.{DoesAs, IsNumber, pushed}

-- the row of what an instruction means
pub as_meant : {E : Type 0} (w : Way) (o : Option Instruction) (j : Instruction) (f g : FrameOf ℕ E) → o ≡ Some j → Does j f w g → DoesAs o f w g
as_meant w o j f g is did i here = let e : i ≡ j = cc in rw e did

pub ok_meant : {E F : Type 0} (r : Result Way F) (o : Option Instruction) (j : Instruction) (f g : FrameOf ℕ E) → o ≡ Some j
    → IfOk r (λ way. Does j f way g) → IfOk r (λ way. DoesAs o f way g)
ok_meant (Ok w) o j f g is did = as_meant w o j f g is did
ok_meant (Err e) o j f g is did = tt

module _ {E : Type 0} (free : GoesFree E) (f : FrameOf ℕ E) where
  number_done : (v : Value ℕ) → IsNumber v → Does (pushed v) f ways.Went (onward f (v ∷ []))
  unfolding doing used exchange taken push
  number_done (Int n) is r at own s entries inherited = free f s s [] (onward f (Int n ∷ []))
  number_done (Long n) is r at own s entries inherited = free f s s [] (onward f (Long n ∷ []))
  number_done (Ref n) is r at own s entries inherited = absurd is
  number_done (Ctx k) is r at own s entries inherited = absurd is

  pub number_pushed : {F : Type 0} (r : Result Way F) (tables : Tables) (x : Push) (v : Value ℕ) (old new : Framed E) → IsNumber v
      → ((p : Program) (pool : List Entry) → push_meant p pool tables x ≡ Some (pushed v)) → IfOk r (λ way. way ≡ ways.Went)
      → OnOk r (new ≡ with_newest (onward f (v ∷ [])) old)
      → IfOk r (λ way. (p : Program) (pool : List Entry) → DoesAs (push_meant p pool tables x) f way new.newest)
  number_pushed (Ok w) tables x v old new is means went goes =
      λ p pool. rw (went, goes) (as_meant ways.Went (push_meant p pool tables x) (pushed v) f (onward f (v ∷ [])) (means p pool) (number_done v is))
  number_pushed (Err e) tables x v old new is means went goes = tt
