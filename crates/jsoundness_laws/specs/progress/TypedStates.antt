-- Typed states: in each thread, in all objects and statics, and in all string constants.
use Rattle.std.specs.Prelude.{◌≡◌, ◌⊎◌, ℕ, List, length, Some, is_some, true}
use Rattle.std.specs.List.{AllByRecursion}
use Rattle.jlib.specs.declared.classes.LibClass.TheVariants as lib
use Rattle.jlib.specs.declared.side.Side.{Side}
use Rattle.jvalues.specs.declared.jops.value.Value.TheVariants.{Ref}
use Rattle.jresolution.specs.declared.jprogram.member.MethodId.{MethodId}
use Rattle.jresolution.specs.jprogram.ProgramClasses.{Program}
use Rattle.jresolution.specs.jprogram.MemberResolution.{main_of}
use Rattle.jresolution.specs.juses.IndexedInstructions.{code_at}
use Rattle.jtyping.specs.jrule.PoolEffects.{of_library}
use Rattle.jsemantics.specs.declared.jmachine.plan.Plan.{Plan}
use Rattle.jsemantics.specs.jmachine.MachineStates.{GuestOf, NoStep, Outcome, Over, State, Went}
use Rattle.jsemantics.specs.jmachine.Machine.{run}
use Rattle.jsemantics.specs.jmachine.OpeningState.{opening_state}
use Rattle.jsemantics.specs.jmachine.RunTraces.{Run}
use Rattle.jsemantics.specs.jmachine.Security.{Rules, handed}
use Rattle.jsemantics.specs.jmachine.MachineSteps.{step}
use Rattle.jsemantics.specs.jmachine.Store.{Store}
use Rattle.jsemantics.specs.jmachine.ThreadTurns.{guests}
use Rattle.jsemantics.specs.jmachine.World.{world}
use Rattle.jsoundness_laws.specs.typed.FrameStacks.{AreStacked}
use Rattle.jsoundness_laws.specs.typed.TypedStores.{IsStored}
use Rattle.jsoundness_laws.specs.typed.TypedUses.{static_types}
use Rattle.jsoundness_laws.specs.typed.TypedValues.{AreOf, IsA}
use Rattle.jsoundness_laws.specs.library.YieldLaws.{AreSided}
use Rattle.jsoundness_laws.specs.library.LibraryResults.{run_given}
use Rattle.jsoundness_laws.specs.progress.SoundPrograms.{IsSound}

module _ {K E : Type 0} (p : Program) (side : Side) (s : Store K) where
  -- A thread has no Runnable, or begins with `run` of one, and what it inherited is what `run` is given.
  abbrev pub MayBegin : GuestOf K E → Type 0
  MayBegin g = (g.runnable ≡ 0)
      ⊎ (IsA (world p) s (of_library lib.Runnable) (Ref g.runnable) × AreOf (world p) s (run_given side) (handed side g.inherited))

  -- its newest frame stands at an instruction, and each older one awaits what it called
  abbrev pub IsGuest : GuestOf K E → Type 0
  IsGuest g = AreStacked p s g.frames × MayBegin g

-- A state is typed.
pub record IsTypedState {K E : Type 0} (p : Program) (side : Side) (s : State K E) : Type 0 where
  pub stored : IsStored (world p) s.store (static_types p)
  pub threads : AllByRecursion (IsGuest p side s.store) (guests s)
  pub count : length (guests s) ≡ length s.table

-- There is a step, and it comes to a typed state.
abbrev pub ComesTo : {K E : Type 0} → Program → Side → Outcome (State K E) → Type 0
ComesTo p side (Went s events) = IsTypedState p side s
ComesTo p side (Over s events end) = IsTypedState p side s
ComesTo p side NoStep = ⊥

-- ---- laws

-- A typed state has a step, which comes to one.
abbrev pub StatesStep : Type 0 → Type 0 → Type 0
StatesStep K E =
    (r : Rules K E) (p : Program) (plan : Plan) (s : State K E) → IsSound p → r.side ≡ p.side → AreSided r → IsTypedState p r.side s
    → ComesTo p r.side (step r p plan s)

-- The `main` of a class has code.
abbrev pub MainHasCode : Type 0
MainHasCode = (p : Program) (name : List ℕ) (main : MethodId) → IsSound p → main_of p name ≡ Some main → is_some (code_at p main) ≡ true

-- The state in which a run begins is typed.
abbrev pub OpensTyped : Type 0 → Type 0 → Type 0
OpensTyped K E = (r : Rules K E) (p : Program) (name : List ℕ) (main : MethodId) (heap : ℕ) → IsSound p → r.side ≡ p.side → AreSided r
    → main_of p name ≡ Some main
    → IsTypedState p r.side (opening_state r p main heap)

-- So the state behind each number of steps is typed, and it has a step.
pub record IsTypedRun {K E : Type 0} (r : Rules K E) (p : Program) (plan : Plan) (x : Run (State K E)) : Type 0 where
  pub state : IsTypedState p r.side x.state
  pub steps : ComesTo p r.side (step r p plan x.state)

abbrev pub RunsTyped : Type 0 → Type 0 → Type 0
RunsTyped K E = (r : Rules K E) (p : Program) (plan : Plan) (name : List ℕ) (k : ℕ) → IsSound p → r.side ≡ p.side → AreSided r
    → main_of p name ≡ Some plan.main
    → IsTypedRun r p plan (run r p plan k)
