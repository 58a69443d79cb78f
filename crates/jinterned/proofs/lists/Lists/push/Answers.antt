use Rattle.std.proofs.Common.{◌∙◌, ◌∷◌, ◌++◌, ℕ, List, [], length, refl, ap}
use Rattle.jinterned.specs.declared.lists.Entry.{Entry}
use Rattle.jinterned.specs.declared.pairs.Pair.{Pair}
use Rattle.jinterned.specs.PairLists.{lists_of}
use Rattle.jinterned.proofs.PairLists.{pushed, pushed_fronts, pushed_within, stay_fronts, stay_lists, stay_within}
use Rattle.jinterned.proofs.Results.{on_err}
use Rattle.jinterned.proofs.lists.Lists.push.Goals as goal

abbrev entry_of : ℕ → ℕ → Pair → Pair → Entry
entry_of first count head next = record { first = first; count = count; head = head; next = next }

pub invariant_of-self : goal.invariant_of-self
invariant_of-self c = (
  stay_within c.self.inside.pairs c.push_all.new.pairs c.self.inside.entries.items c.self.invariant.0 c.push_all.ensures.more,
  stay_fronts c.self.inside.pairs c.push_all.new.pairs c.self.inside.entries.items c.self.invariant.0 c.self.invariant.1 c.push_all.ensures.more,
)

pub returns-in_err-push_all-clause-err : goal.returns-in_err-push_all-clause-err
returns-in_err-push_all-clause-err c =
    on_err c.from_residual.result
    (stay_lists c.self.inside.pairs c.push_all.new.pairs c.self.inside.entries.items c.self.invariant.0 c.push_all.ensures.more ∙ c.self.view_is)

pub invariant_of-self-in_err-push : goal.invariant_of-self-in_err-push
invariant_of-self-in_err-push c =
    rw c.in_err-push.ensures.items (
      stay_within c.self.inside.pairs c.push_all.new.pairs c.self.inside.entries.items c.self.invariant.0 c.push_all.ensures.more,
      stay_fronts c.self.inside.pairs c.push_all.new.pairs c.self.inside.entries.items c.self.invariant.0 c.self.invariant.1 c.push_all.ensures.more,
    )

pub returns-in_err-push-clause-err : goal.returns-in_err-push-clause-err
returns-in_err-push-clause-err c =
    on_err c.from_residual-in_err-push.result
    (ap (lists_of c.push_all.new.pairs) c.in_err-push.ensures.items
    ∙ stay_lists c.self.inside.pairs c.push_all.new.pairs c.self.inside.entries.items c.self.invariant.0 c.push_all.ensures.more
    ∙ c.self.view_is)

pub invariant_of-self-2 : goal.invariant_of-self-2
invariant_of-self-2 c =
    rw c.in_ok-push.ensures.items (
      pushed_within c.self.inside.pairs c.push_all.new.pairs c.args.list.now c.self.inside.entries.items (entry_of c.len-first.result (length c.args.list.now) c.pair_at-head.result c.pair_at-next.result)
          c.self.invariant.0 c.in_ok-push_all.ensures.ok c.len-first.ensures refl,
      pushed_fronts c.self.inside.pairs c.push_all.new.pairs c.args.list.now c.self.inside.entries.items (entry_of c.len-first.result (length c.args.list.now) c.pair_at-head.result c.pair_at-next.result)
          c.self.invariant.0 c.self.invariant.1 c.in_ok-push_all.ensures.ok c.len-first.ensures refl (c.pair_at-head.ensures, c.pair_at-next.ensures),
    )

pub returns-clause-ok : goal.returns-clause-ok
returns-clause-ok c =
    ap (lists_of c.push_all.new.pairs) c.in_ok-push.ensures.items
    ∙ pushed c.self.inside.pairs c.push_all.new.pairs c.args.list.now c.self.inside.entries.items (entry_of c.len-first.result (length c.args.list.now) c.pair_at-head.result c.pair_at-next.result) c.self.invariant.0
    c.in_ok-push_all.ensures.ok c.len-first.ensures refl
    ∙ ap (λ (ls : List (List Pair)). ls ++ c.args.list.now ∷ []) c.self.view_is
