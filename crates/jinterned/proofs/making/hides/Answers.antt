use Rattle.std.proofs.Common.{◌∙◌, sym, arith}
use Rattle.std.proofs.lemmas.Option.{slice_get-get_or}
use Rattle.jinterned.specs.ContextStores.{item_of}
use Rattle.jinterned.proofs.ContextGrowth.{hides_yes, hides_no, hides_end}
use Rattle.jinterned.proofs.making.hides.Goals as goal

pub covers-requires-clause-a : goal.covers-requires-clause-a
covers-requires-clause-a c =
    c.requires.made c.loop-earlier.earlier-index _ (slice_get-get_or c.args.made.now c.loop-earlier.earlier-index _ c.loop-earlier-test.true)

pub returns-then-covers : goal.returns-then-covers
returns-then-covers c =
    sym (hides_yes c.args.sets.now c.args.made.now (item_of c.args.sets.now c.args.pair) c.loop-earlier.earlier-index _ c.loop-earlier-test.true (sym c.covers.ensures ∙ c.if-covers.true))
    ∙ c.loop-earlier.invariant

pub loop-earlier-preserved : goal.loop-earlier-preserved
loop-earlier-preserved c =
    hides_no c.args.sets.now c.args.made.now (item_of c.args.sets.now c.args.pair) c.loop-earlier.earlier-index _ c.loop-earlier-test.true (sym c.covers.ensures ∙ c.if-covers.false)
    ∙ c.loop-earlier.invariant

pub returns : goal.returns
returns c =
    sym (hides_end c.args.sets.now c.args.made.now (item_of c.args.sets.now c.args.pair) c.loop-earlier.earlier-index (omega arith)) ∙ c.loop-earlier.invariant
