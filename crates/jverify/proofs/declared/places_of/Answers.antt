use Rattle.std.proofs.Common.{◌≡◌, ◌++◌, reverse, subst, ◌∙◌, arith}
use Rattle.std.specs.List.{flat_map}
use Rattle.jverify.specs.LocalChains.{values}
use Rattle.jverify.specs.FrameTables.{places}
use Rattle.jverify.proofs.ChainComparison.{places_more, places_root}
use Rattle.jverify.proofs.declared.places_of.Goals as goal

pub loop-number-preserved : goal.loop-number-preserved
loop-number-preserved c = record {
  within = omega (arith, c.get-node.ensures.link.parent, c.loop-number.invariant.within);
  so_far = places_more c.args.chains.now c.loop-number.number c.get-node.result c.loop-number.places.items c.push_places.new.places.items _ c.get-node.ensures.link c.in_ok-push_places.ensures c.loop-number.invariant.so_far;
}

pub returns : goal.returns
returns c =
    let zero : c.loop-number.number ≡ 0 = omega arith in
    let all = flat_map places (values c.args.chains.now c.args.last) in
    c.from_vec.ensures ∙ c.reverse.ensures.items
    ∙ places_root c.args.chains.now c.loop-number.places.items all (subst (λ n. flat_map places (values c.args.chains.now n) ++ reverse c.loop-number.places.items ≡ all) zero c.loop-number.invariant.so_far)
