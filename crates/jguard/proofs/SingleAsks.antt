-- What was asked once.
use Rattle.std.proofs.Common.{◌≡◌, Option, Some, None, refl, sym, subst}
use Rattle.jsemantics.specs.jmachine.AccessQueries.{Ask}
use Rattle.jguard.specs.NumberMeanings.{AskedOnce}

module _ {S N : Type 0} (asked : S → Ask N → S → Type 0) (old : S) (ask : Option (Ask N)) where
  pub asked_nothing : ask ≡ None → AskedOnce asked old old ask
  asked_nothing is = subst (λ (o : Option (Ask N)). AskedOnce asked old old o) (sym is) refl

  pub asked_once : (new : S) (one : Ask N) → ask ≡ Some one → asked old one new → AskedOnce asked old new ask
  asked_once new one is made = subst (λ (o : Option (Ask N)). AskedOnce asked old new o) (sym is) made

  pub asked_alike : (new : S) (other : Option (Ask N)) → ask ≡ other → AskedOnce asked old new other → AskedOnce asked old new ask
  asked_alike new other is = subst (λ (o : Option (Ask N)). AskedOnce asked old new o) (sym is)
