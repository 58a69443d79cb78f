use Rattle.std.proofs.Common.{◌≡◌, ◌∙◌, ◌≤◌, List, ℕ, length, subst, sym, arith}
use Rattle.std.specs.Prelude.{get_or, take}
use Rattle.std.proofs.lemmas.List.{length-set, take_all}
use Rattle.jinterned.specs.DigestChains.{AreLinked}
use Rattle.jinterned.proofs.DigestChains.{linked_next}
use Rattle.jinterned.proofs.index.relink.Goals as goal

pub loop-i-preserved : goal.loop-i-preserved
loop-i-preserved c =
    let ds = c.args.digests.now in
    let heads = c.loop-i.heads.items in
    let es = c.loop-i.earlier.items in
    let below = c.loop-i-test.true in (
      linked_next ds heads es c.loop-i.i c.len.result c.index.result.now below c.loop-i.invariant.1 (c.len.ensures ∙ c.loop-i.heads.ok.0) c.index.ensures c.loop-i.invariant.0,
      length-set es c.loop-i.i c.index.result.now ∙ c.loop-i.invariant.1,
    )

pub returns : goal.returns
returns c =
    let ds = c.args.digests.now in
    let es = c.loop-i.earlier.items in
    let end : length ds ≤ c.loop-i.i = omega (arith, c.loop-i-test.false) in
    let all : take c.loop-i.i ds ≡ ds = take_all c.loop-i.i ds end in
    let all_earlier : take c.loop-i.i es ≡ es = take_all c.loop-i.i es (omega (arith, end, c.loop-i.invariant.1)) in
    subst (λ (xs : List ℕ). AreLinked ds c.loop-i.heads.items xs) all_earlier (subst (λ (xs : List ℕ). AreLinked xs c.loop-i.heads.items (take c.loop-i.i es)) all c.loop-i.invariant.0)
