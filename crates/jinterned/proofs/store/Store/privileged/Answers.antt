use Rattle.std.proofs.Common.{◌≡◌, ℕ, List, [], option_map, ap, subst}
use Rattle.std.specs.Prelude.{OnOk, get_or}
use Rattle.std.specs.Option.{option_copied}
use Rattle.jperm.specs.declared.permission.Permission.{Permission}
use Rattle.jctx.specs.Contexts.{privileged}
use Rattle.jctx.proofs.Growth.{privileged_joined}
use Rattle.jinterned.specs.PairLists.{Extends}
use Rattle.jinterned.specs.ContextStores.{Stored, context_in, items_of}
use Rattle.jinterned.proofs.LimitNumbers.{all_named_more, extends_itself}
use Rattle.jinterned.proofs.Results.{on_ok_then}
use Rattle.jinterned.proofs.store.Store.privileged.Goals as goal

pub returns-in_err-begin-clause-more : goal.returns-in_err-begin-clause-more
returns-in_err-begin-clause-more c = extends_itself c.args.self.now.sets

pub returns-in_err-add_given-clause-more : goal.returns-in_err-add_given-clause-more
returns-in_err-add_given-clause-more c = extends_itself c.args.self.now.sets

pub invariant_of-self : goal.invariant_of-self
invariant_of-self c = (all_named_more c.self.inside.sets c.add_behind.new.sets c.self.inside.lists c.add_behind.ensures.more c.self.invariant.0, c.self.invariant.1)

pub returns-clause-made : goal.returns-clause-made
returns-clause-made c =
    subst (λ (s : Stored). OnOk c.add_behind.result
    (items_of c.add_behind.new.sets c.add_behind.new.made.items
    ≡ privileged c.args.d (option_map (context_in s) c.args.given) (option_copied c.args.limits) (context_in s c.args.c))) c.self.view_is
    (on_ok_then c.add_behind.result c.add_behind.ensures.added
    (privileged_joined c.permission_laws.ensures.same c.args.d (option_map (λ (g : ℕ). items_of c.self.inside.sets (get_or c.self.inside.lists g [])) c.args.given)
    (option_copied c.args.limits) (items_of c.self.inside.sets (get_or c.self.inside.lists c.args.c [])) _ _ _ c.in_ok-begin.ensures.begun c.in_ok-add_given.ensures.added))

pub returns-clause-more : goal.returns-clause-more
returns-clause-more c = subst (λ (ss : List (List Permission)). Extends ss c.add_behind.new.sets) (ap (λ (s : Stored). s.sets) c.self.view_is) c.add_behind.ensures.more
