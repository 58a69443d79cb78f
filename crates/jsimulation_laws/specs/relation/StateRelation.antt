-- What stands for what: a state of the machine that runs moved programs for one of the machine that runs them as they were written. Heap,
-- statics, threads and turns are equal, and so are operands and what frames carry; frames differ in their places and in the local that holds
-- the context.
use Rattle.std.specs.Prelude.{◌≡◌, ◌≤◌, ◌+◌, ℕ, Bool, List, [], ◌∷◌, length, map, Option, Some, None}
use Rattle.jperm.specs.declared.permission.Permission.{Permission}
use Rattle.jvalues.specs.declared.jops.value.Value.{Value}
use Rattle.jvalues.specs.declared.jops.value.Value.TheVariants.{Ctx}
use Rattle.jclass.specs.declared.class.CodeBody.{CodeBody}
use Rattle.jresolution.specs.jprogram.ProgramClasses.{Program}
use Rattle.jresolution.specs.juses.IndexedInstructions.{Instruction, code_at}
use Rattle.jctx.specs.declared.item.Item.{Item}
use Rattle.jctx.specs.Contexts.{enter}
use Rattle.jsemantics.specs.declared.jmachine.plan.Plan.{Plan}
use Rattle.jsemantics.specs.jmachine.MachineStates.{FrameOf, GuestOf, State, Outcome}
use Rattle.jsemantics.specs.jmachine.FrameOperations.{domain_of}
use Rattle.jsemantics.specs.jmachine.MachineSteps.{fetched, step}
use Rattle.jsemantics.specs.jmachine.BasicInstructions.{local_at}
use Rattle.jsimulation_laws.specs.between.BetweenMachines.{Noted, context_of, shadowed, sourced, unmarked}
use Rattle.jsimulation_laws.specs.stuttering.StutteringRuns.{Follows, FollowsIn}
use Rattle.jsimulation_laws.specs.relation.InstructionExpansion.{expanded}
use Rattle.jsimulation_laws.specs.relation.ProgramRelation.{MovedCode, Moves}
use Rattle.jsimulation_laws.specs.relation.StepCounts.{steps}

abbrev pub Word : Type 0
Word = Value (List Item)

abbrev pub Frame : Type 0
Frame = FrameOf (List Item) Noted

abbrev pub Guest : Type 0
Guest = GuestOf (List Item) Noted

abbrev pub Point : Type 0
Point = State (List Item) Noted

-- ---- frames

-- a local that holds something holds it there too; where it holds nothing, the other may hold a context
abbrev pub LocalsStand : List (Option Word) → List (Option Word) → Type 0
LocalsStand xs ys = (n : ℕ) (v : Word) → local_at xs n ≡ Some v → local_at ys n ≡ Some v

abbrev pub entries : List Frame → List Noted
entries frames = map (λ f. f.entry) frames

-- A frame stands so many instructions behind where the expansion of its instruction begins. Its context is that of the stack from it on, where
-- it is taken as unmarked.
pub record FrameStands (p q : Program) (inherited : Option (List Item)) (more : ℕ) (below : List Frame) (f g : Frame) : Type 0 where
  pub body : CodeBody
  pub is : code_at p f.method ≡ Some body
  pub code : MovedCode p q f.method body
  pub method : g.method ≡ f.method
  pub entry : g.entry ≡ f.entry
  pub domain : f.entry.domain ≡ domain_of p f.method
  pub operands : g.operands ≡ f.operands
  pub place : g.place ≡ code.at f.place + more
  pub short : length f.locals ≤ code.place.local
  pub long : length g.locals ≡ code.place.local + 1
  pub locals : LocalsStand f.locals g.locals
  pub context : local_at g.locals code.place.local ≡ Some (Ctx (enter (context_of (entries below) inherited) (domain_of p f.method)))

-- an older frame stands at the last instruction of its call's expansion
pub record OlderStands (p q : Program) (inherited : Option (List Item)) (below : List Frame) (f g : Frame) : Type 0 where
  pub more : ℕ
  pub frame : FrameStands p q inherited more below f g
  pub call : Instruction
  pub is : fetched p f.method f.place ≡ Some call
  pub last : length (expanded frame.code.place frame.code.at call) ≡ more + 1

abbrev pub BelowStands : Program → Program → Option (List Item) → List Frame → List Frame → Type 0
BelowStands p q inherited [] [] = Unit {0}
BelowStands p q inherited [] (g ∷ gs) = ⊥
BelowStands p q inherited (f ∷ fs) [] = ⊥
BelowStands p q inherited (f ∷ fs) (g ∷ gs) = OlderStands p q inherited fs f g × BelowStands p q inherited fs gs

-- the newest frame is unmarked, and stands where an expansion begins
pub record NewestStands (p q : Program) (inherited : Option (List Item)) (below : List Frame) (f g : Frame) : Type 0 where
  pub frame : FrameStands p q inherited 0 below f g
  pub bare : f.entry ≡ unmarked (domain_of p f.method)

abbrev pub FramesStand : Program → Program → Option (List Item) → List Frame → List Frame → Type 0
FramesStand p q inherited [] [] = Unit {0}
FramesStand p q inherited [] (g ∷ gs) = ⊥
FramesStand p q inherited (f ∷ fs) [] = ⊥
FramesStand p q inherited (f ∷ fs) (g ∷ gs) = NewestStands p q inherited fs f g × BelowStands p q inherited fs gs

-- ---- threads and states

-- a thread with a Runnable has a context; the first has neither
abbrev pub Heir : Guest → Type 0
Heir x = x.inherited ≡ None → x.runnable ≡ 0

pub record GuestStands (p q : Program) (x y : Guest) : Type 0 where
  pub frames : FramesStand p q x.inherited x.frames y.frames
  pub inherited : y.inherited ≡ x.inherited
  pub runnable : y.runnable ≡ x.runnable
  pub failed : y.failed ≡ x.failed
  pub heir : Heir x

abbrev pub GuestsStand : Program → Program → List Guest → List Guest → Type 0
GuestsStand p q [] [] = Unit {0}
GuestsStand p q [] (y ∷ ys) = ⊥
GuestsStand p q (x ∷ xs) [] = ⊥
GuestsStand p q (x ∷ xs) (y ∷ ys) = GuestStands p q x y × GuestsStand p q xs ys

pub record Stands (p q : Program) (s t : Point) : Type 0 where
  pub earlier : GuestsStand p q s.earlier t.earlier
  pub running : GuestStands p q s.running t.running
  pub later : GuestsStand p q s.later t.later
  pub table : t.table ≡ s.table
  pub store : t.store ≡ s.store
  pub turns : t.turns ≡ s.turns

-- ---- the two machines

abbrev pub before : (ℕ → Permission → Bool) → Program → Plan → Point → Outcome Point
before has p plan s = step (sourced has) p plan s

abbrev pub behind : (ℕ → Permission → Bool) → Program → Plan → Point → Outcome Point
behind has q plan t = step (shadowed has) q plan t

-- Each step of a program is answered by as many of the moved one as its instruction tells,
abbrev pub LocallyFollows : Type 0
LocallyFollows = (has : ℕ → Permission → Bool) (p q : Program) (plan : Plan) → Moves p q
    → FollowsIn (Stands p q) (before has p plan) (behind has q plan) (steps p)

-- and so by 1 to 7.
abbrev pub FollowsInFew : Type 0
FollowsInFew = (has : ℕ → Permission → Bool) (p q : Program) (plan : Plan) → Moves p q
    → Follows (Stands p q) (before has p plan) (behind has q plan) 7
