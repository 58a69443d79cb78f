-- The state in which a run begins, by numbers.
use Rattle.std.specs.Prelude.{◌≡◌, ◌<◌, ◌≤◌, ℕ, List, [], ◌∷◌, length, Option, Some, None}
use Rattle.jvalues.specs.declared.jops.value.Value.{Value}
use Rattle.jvalues.specs.declared.jops.value.Value.TheVariants.{Ctx}
use Rattle.jresolution.specs.jprogram.ProgramClasses.{Program}
use Rattle.jsemantics.specs.jmachine.FrameOperations.{domain_of}
use Rattle.jsemantics.specs.jmachine.OpeningState.{main_guest, opening_charge, opening_store}
use Rattle.jsemantics.specs.jmachine.Security as security
use Rattle.jsemantics.specs.jmachine.Security.{Rules}
use Rattle.jruntime.specs.declared.jstate.shapes.Shapes.{Shapes}
use Rattle.jruntime.specs.jstate.ObjectCells.{AreCelled}
use Rattle.jruntime.specs.jstate.FrameLists.{Framed, all}
use Rattle.jruntime.specs.jstate.HeapMeanings.{AreBuilt, Things, store_by}
use Rattle.jstepping.specs.declared.jopen.opening.FirstFrame.{FirstFrame}
use Rattle.jstepping.specs.declared.jopen.opening.Opened.{Opened}

-- what `main` is given besides its array
abbrev pub handed : Option ℕ → List (Value ℕ)
handed None = []
handed (Some k) = Ctx k ∷ []

-- The thread begins with `main`, by all rules whose frames of its domain carry this mark and which hand it this context.
abbrev pub BeginsMain : {E : Type 0} → Program → FirstFrame E → Framed E → Type 0
BeginsMain {E} p first f =
    (r : Rules ℕ E) → r.entry_of (domain_of p first.main) ≡ first.mark → security.handed r.side r.first ≡ handed first.context
    → all f ≡ (main_guest r p first.main).frames

-- It has one frame, at the beginning of the method.
pub record IsAlone {E : Type 0} (first : FirstFrame E) (f : Framed E) : Type 0 where
  pub method : f.newest.method ≡ first.main
  pub place : f.newest.place ≡ 0
  pub mark : f.newest.entry ≡ first.mark
  pub below : f.below ≡ []

-- The cells that the opening takes are there, and this is the state.
pub record Opens {E : Type 0} (p : Program) (shapes : Shapes) (first : FirstFrame E) (cells : ℕ) (o : Opened E) : Type 0 where
  pub room : opening_charge p ≤ cells
  pub program : o.constants.program ≡ p
  pub store : (things : Things) → store_by p shapes things o.constants.constants o.heap ≡ opening_store p cells
  pub built : AreBuilt o.heap.objects
  pub celled : AreCelled shapes o.heap.objects
  pub statics : length o.heap.statics ≡ length shapes.statics
  pub alone : IsAlone first o.frames
  pub frames : BeginsMain p first o.frames

-- Or they aren't.
abbrev pub OpensOr : {E : Type 0} → Program → Shapes → FirstFrame E → ℕ → Option (Opened E) → Type 0
OpensOr p shapes first cells None = cells < opening_charge p
OpensOr p shapes first cells (Some o) = Opens p shapes first cells o
