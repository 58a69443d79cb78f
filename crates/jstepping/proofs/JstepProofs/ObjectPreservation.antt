-- What a step leaves of the objects: their cells, and what they name of what is kept.
use Rattle.std.proofs.Common.{◌≡◌, List, inl, inr, subst, sym}
use Rattle.std.specs.Prelude.{IfOk, Ok, Err, OnOk, Result}
use Rattle.jmemory.specs.declared.jheap.cell.Kind.TheVariants as kinds
use Rattle.jmemory.specs.jheap.Heaps as heaps
use Rattle.jmemory.specs.jheap.Heaps.{Heaped}
use Rattle.jlib.specs.declared.classes.LibClass.{LibClass}
use Rattle.jlib.specs.declared.classes.Thrown.{Thrown as ThrownClass}
use Rattle.jresolution.specs.jprogram.ProgramClasses.{Program}
use Rattle.jruntime.specs.declared.jstate.shapes.Shapes.{Shapes}
use Rattle.jruntime.specs.jstate.ObjectCells.{StayCelled}
use Rattle.jruntime.specs.jstate.ClassNumbers.{thrown_number}
use Rattle.jruntime.specs.jstate.HeapMeanings.{Things}
use Rattle.jrows.specs.declared.jacts.way.Way.{Way}
use Rattle.jrows.specs.declared.jacts.way.Way.TheVariants as ways
use Rattle.jrows.specs.jcalls.Throws.{RaisedHeap}
use Rattle.jserving.specs.jcells.ObjectEquivalence.{LeavesAlike, MadeStaysAlike, NamesNoMore, StayAlike}
use Rattle.jstepping.specs.declared.jstep.outcomes.Stepped.{Stepped}
use Rattle.jstepping.specs.declared.jstep.outcomes.Stepped.TheVariants as steps
use Rattle.jstepping.specs.jstep.StepRelation.{StaysStuck, StepsAlike}

-- ---- cells

pub same_celled : (objects : List heaps.Object) → StayCelled objects objects
same_celled objects shapes celled = celled

pub same_celled_if : {A F : Type 0} (r : Result A F) (objects : List heaps.Object) → OnOk r (StayCelled objects objects)
same_celled_if (Ok x) objects = same_celled objects
same_celled_if (Err e) objects = tt

pub celled_behind : {A F : Type 0} (r : Result A F) (before between after : List heaps.Object) → StayCelled before between → OnOk r (StayCelled between after)
    → OnOk r (StayCelled before after)
celled_behind (Ok x) before between after first second = λ shapes celled. second shapes (first shapes celled)
celled_behind (Err e) before between after first second = tt

-- ---- names

pub same_names : (objects : List heaps.Object) → NamesNoMore objects objects
same_names objects p shapes things others e = e

pub same_names_if : {A F : Type 0} (r : Result A F) (objects : List heaps.Object) → OnOk r (NamesNoMore objects objects)
same_names_if (Ok x) objects = same_names objects
same_names_if (Err e) objects = tt

pub raised_names : MadeStaysAlike → (class : ThrownClass) (h k : Heaped) → RaisedHeap class h k → NamesNoMore h.objects k.objects
raised_names made class h k (inl same) =
    let P : Heaped → Type 0 = λ g. NamesNoMore h.objects g.objects in
    subst P (sym same) (same_names h.objects)
raised_names made class h k (inr one) =
    let P : Heaped → Type 0 = λ g. NamesNoMore h.objects g.objects in
    subst P (sym one) (made h (kinds.Object (thrown_number class)) 1)

module _ (p : Program) (shapes : Shapes) (before after : List heaps.Object) where
  by_step : (things : Things) (done : Stepped) → StayAlike p shapes things before after → StepsAlike p shapes things done before after
  by_step things steps.Went stay = stay
  by_step things steps.Ended stay = stay
  by_step things (steps.Handled class) stay = stay
  by_step things (steps.Uncaught class) stay = stay
  by_step things (steps.Asks call count) stay = stay
  by_step things steps.Full stay = stay
  by_step things steps.Stuck stay = tt

  pub names_alike : {F : Type 0} (r : Result Stepped F) → OnOk r (NamesNoMore before after) → IfOk r (λ done. (things : Things) → StepsAlike p shapes things done before after)
  names_alike (Ok done) names = λ things. by_step things done (names p shapes things)
  names_alike (Err e) names = tt

pub same_alike : {F : Type 0} (r : Result Stepped F) (p : Program) (shapes : Shapes) (objects : List heaps.Object)
    → IfOk r (λ done. (things : Things) → StepsAlike p shapes things done objects objects)
same_alike (Ok done) p shapes objects = λ things. by_step p shapes objects objects things done (λ others e. e)
same_alike (Err e) p shapes objects = tt

-- ---- a row, and what it left to do

module _ (p : Program) (shapes : Shapes) (before between after : List heaps.Object) where
  behind_row : (things : Things) (way : Way) (done : Stepped) → LeavesAlike p shapes things way before between → NamesNoMore between after → StaysStuck way done
      → StepsAlike p shapes things done before after
  behind_row things ways.Went done first second stuck = by_step p shapes before after things done (λ others e. second p shapes things others (first others e))
  behind_row things (ways.Raises class) done first second stuck = by_step p shapes before after things done (λ others e. second p shapes things others (first others e))
  behind_row things (ways.Throws n) done first second stuck = by_step p shapes before after things done (λ others e. second p shapes things others (first others e))
  behind_row things ways.Full done first second stuck = by_step p shapes before after things done (λ others e. second p shapes things others (first others e))
  behind_row things ways.Stuck done first second stuck = rw stuck tt

  pub row_alike : {F : Type 0} (r : Result Stepped F) (way : Way) → ((q : Program) (things : Things) → LeavesAlike q shapes things way before between)
      → OnOk r (NamesNoMore between after) → IfOk r (StaysStuck way) → IfOk r (λ done. (things : Things) → StepsAlike p shapes things done before after)
  row_alike (Ok done) way first second stuck = λ things. behind_row things way done (first p things) second stuck
  row_alike (Err e) way first second stuck = tt

-- what raises isn't stuck
pub never_stuck : {F : Type 0} (r : Result Stepped F) (class : LibClass) (way : Way) → way ≡ ways.Raises class → IfOk r (StaysStuck way)
never_stuck (Ok done) class way is = rw is tt
never_stuck (Err e) class way is = tt

-- the program of what is known is that of the calls
pub alike_by : {F : Type 0} (r : Result Stepped F) (q p : Program) → q ≡ p → (shapes : Shapes) (before after : List heaps.Object)
    → IfOk r (λ done. (things : Things) → StepsAlike q shapes things done before after) → IfOk r (λ done. (things : Things) → StepsAlike p shapes things done before after)
alike_by r q p same shapes before after alike =
    let P : Program → Type 0 = λ x. IfOk r (λ done. (things : Things) → StepsAlike x shapes things done before after) in subst P same alike
