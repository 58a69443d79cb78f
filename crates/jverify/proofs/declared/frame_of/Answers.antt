use Rattle.std.proofs.Common.{◌++◌, ◌-◌, length, replicate, reverse, ap, ◌∙◌, arith}
use Rattle.std.proofs.lemmas.List.{length-append, length-replicate}
use Rattle.jresolution.specs.declared.juses.types.TypeRef.TheVariants as refs
use Rattle.jverify.specs.LocalChains.{chain}
use Rattle.jverify.proofs.ChainComparison.{frame_again, places_count}
use Rattle.jverify.proofs.declared.frame_of.Goals as goal

pub of-requires : goal.of-requires
of-requires c =
    let count = ap length c.in_ok-places.ensures ∙ places_count c.args.p.now (chain c.args.chains.now c.args.k.now.last) in
    omega (arith, count, c.from.ensures, c.requires.room)

pub returns-clause-count : goal.returns-clause-count
returns-clause-count c =
    let count = ap length c.in_ok-places.ensures ∙ places_count c.args.p.now (chain c.args.chains.now c.args.k.now.last) in
    let all = ap length c.of.ensures ∙ length-append c.in_ok-places.places (replicate (c.from.result - length c.in_ok-places.places) refs.Top) in
    let tops = length-replicate (c.from.result - length c.in_ok-places.places) refs.Top in
    omega (arith, count, all, tops, c.from.ensures, c.requires.room)

pub returns-clause-seen : goal.returns-clause-seen
returns-clause-seen c =
    frame_again c.args.p.now c.args.chains.now c.args.k.now c.args.most c.in_ok-places.places c.of.result c.in_ok-stack.stack c.flag.result c.in_ok-places.ensures
    (c.of.ensures ∙ ap (λ n. c.in_ok-places.places ++ replicate (n - length c.in_ok-places.places) refs.Top) c.from.ensures) (c.in_ok-stack.ensures ∙ ap reverse c.as_slice.ensures) c.flag.ensures
