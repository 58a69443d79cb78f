-- What a step reaches and asks that executes a call.
use Rattle.std.proofs.Common.{◌∙◌, ℕ, Option, sym, ap}
use Rattle.std.specs.Prelude.{option_and_then}
use Rattle.jsemantics.specs.jmachine.CallTargets.{Target, target}
use Rattle.jsemantics.specs.jmachine.TakenOperands.{Taken}
use Rattle.jsemantics.specs.jmachine.MachineSteps.{site}
use Rattle.jrows.specs.declared.jcalls.calls.Called.TheVariants as ways
use Rattle.jrows.specs.jcalls.CallLaws.{AsksNothing, AsksWhatRuns, TargetsWhatRuns}
use Rattle.jrows.specs.jcalls.MethodCalls.{Came}

module _ {E : Type 0} where
  pub targets : TargetsWhatRuns E
  targets r p plan s count f g by c call takes did =
      let at = site r p plan s f.newest f.below in
      let reaches : Option (Taken ℕ) → Option Target = λ o. option_and_then (λ t. target at s.store by c t.values) o in
      sym (ap reaches takes) ∙ ap (λ (x : Came E). x.reached) did.1

  pub asks : AsksWhatRuns E
  asks r p plan s count f g by c call did = ap (λ (x : Came E). x.asked) did.1

  pub asks_nothing : AsksNothing E
  asks_nothing r p plan s count f g by c ways.Begun quiet did = did.1
  asks_nothing r p plan s count f g by c (ways.Raises class) quiet did = did.1
  asks_nothing r p plan s count f g by c (ways.Runs call) quiet did = absurd quiet
  asks_nothing r p plan s count f g by c ways.Stuck quiet did = did.1
