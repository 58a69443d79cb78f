use Rattle.std.proofs.Common.{◌∙◌, [], length, ap, arith, ◌≡◌, List, refl}
use Rattle.std.specs.Prelude.{get_or}
use Rattle.jctx.specs.declared.item.Item.{Item}
use Rattle.jctx.specs.ContextGrowth.{added}
use Rattle.jctx.specs.ContextItems.{with_limits}
use Rattle.jinterned.specs.ContextStores.{item_of, items_of}
use Rattle.jinterned.proofs.ContextGrowth.{changed_next, changed_end}
use Rattle.jinterned.proofs.LimitNumbers.{extends_both, extends_itself, item_more, longer, named_at}
use Rattle.jinterned.proofs.making.add_all_limited.Goals as goal

pub loop-i-init : goal.loop-i-init
loop-i-init c = (refl_of _, c.requires.made, extends_itself c.args.sets.now, tt)
  where
    refl_of : (x : List Item) → x ≡ x
    refl_of x = refl

pub read-requires-clause-pair : goal.read-requires-clause-pair
read-requires-clause-pair c = omega (arith, c.loop-i-test.true, c.count-i-end.ensures)

pub add_limited-requires-clause-pair : goal.add_limited-requires-clause-pair
add_limited-requires-clause-pair c =
    longer c.args.sets.now c.loop-i.sets c.read.result.limits c.loop-i.invariant.2
    (named_at (length c.args.sets.now) c.args.lists.now c.args.n c.loop-i.i c.read.result c.requires.lists c.requires.there c.read.ensures)

pub returns-in_err-last-clause-more : goal.returns-in_err-last-clause-more
returns-in_err-last-clause-more c = extends_both c.args.sets.now c.loop-i.sets c.add_limited.new.sets c.loop-i.invariant.2 c.add_limited.ensures.more

pub loop-i-preserved : goal.loop-i-preserved
loop-i-preserved c =
    let named = named_at (length c.args.sets.now) c.args.lists.now c.args.n c.loop-i.i c.read.result c.requires.lists c.requires.there c.read.ensures in (
      changed_next (item_of c.args.sets.now) (get_or c.args.lists.now c.args.n []) (with_limits c.args.limits.now) _ _ _ c.loop-i.i c.read.result c.read.ensures
          (c.in_ok-last.ensures.added ∙ ap (λ (i : Item). added (items_of c.loop-i.sets c.loop-i.made.items) (with_limits c.args.limits.now i))
          (item_more c.args.sets.now c.loop-i.sets c.read.result c.loop-i.invariant.2 named))
          c.loop-i.invariant.0,
      c.in_ok-last.ensures.named,
      extends_both c.args.sets.now c.loop-i.sets c.add_limited.new.sets c.loop-i.invariant.2 c.in_ok-last.ensures.more,
      c.in_ok-last.ensures.known,
    )

pub returns-clause-added : goal.returns-clause-added
returns-clause-added c =
    changed_end (item_of c.args.sets.now) (get_or c.args.lists.now c.args.n []) (with_limits c.args.limits.now) _ _ c.loop-i.i (omega (arith, c.loop-i-test.false, c.count-i-end.ensures))
    c.loop-i.invariant.0

pub returns-clause-named : goal.returns-clause-named
returns-clause-named c = c.loop-i.invariant.1

pub returns-clause-more : goal.returns-clause-more
returns-clause-more c = c.loop-i.invariant.2
