use Rattle.std.proofs.Common.{◌∙◌, List, length, sym, ap}
use Rattle.jctx.specs.ContextGrowth.{hidden}
use Rattle.jinterned.specs.declared.pairs.Pair.{Pair}
use Rattle.jinterned.specs.ContextStores.{item_of, items_of}
use Rattle.jinterned.proofs.ContextGrowth.{added_hidden, added_new}
use Rattle.jinterned.proofs.LimitNumbers.{items_behind, named_behind}
use Rattle.jinterned.proofs.making.add.Goals as goal

pub returns-then-hides-clause-added : goal.returns-then-hides-clause-added
returns-then-hides-clause-added c =
    added_hidden (items_of c.args.sets.now c.args.made.now.items) (item_of c.args.sets.now c.args.pair)
    (ap (λ (ps : List Pair). hidden (items_of c.args.sets.now ps) (item_of c.args.sets.now c.args.pair)) (sym c.deref.ensures.value) ∙ sym c.hides.ensures ∙ c.if-hides.true)

pub returns-clause-added : goal.returns-clause-added
returns-clause-added c =
    ap (items_of c.args.sets.now) c.in_ok-push.ensures.items
    ∙ items_behind c.args.sets.now c.args.made.now.items c.args.pair
    ∙ added_new (items_of c.args.sets.now c.args.made.now.items) (item_of c.args.sets.now c.args.pair)
    (ap (λ (ps : List Pair). hidden (items_of c.args.sets.now ps) (item_of c.args.sets.now c.args.pair)) (sym c.deref.ensures.value) ∙ sym c.hides.ensures ∙ c.if-hides.false)

pub returns-clause-named : goal.returns-clause-named
returns-clause-named c =
    rw c.in_ok-push.ensures.items (named_behind (length c.args.sets.now) c.args.made.now.items c.args.pair c.requires.made c.requires.pair)
