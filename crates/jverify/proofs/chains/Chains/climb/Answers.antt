use Rattle.std.proofs.Common.{◌≡◌, ◌-◌, ◌+◌, ◌++◌, ◌∷◌, [], ℕ, reverse, suc, sym, ap, ◌∙◌, arith}
use Rattle.jparts.specs.jmaps.ExpandedFrames.{chopped}
use Rattle.jverify.specs.LocalChains.{values}
use Rattle.jverify.proofs.LocalChains.{chopped_all, chopped_more, chopped_none, values_more}
use Rattle.jverify.proofs.chains.Chains.climb.Goals as goal

pub returns-in_default-clause-chain : goal.returns-in_default-clause-chain
returns-in_default-clause-chain c =
    let empty : values c.args.self.now c.loop-done.last ≡ [] = ap reverse c.in_default.ensures.link in
    sym (ap (chopped (c.args.count - c.loop-done._done)) empty ∙ chopped_none (c.args.count - c.loop-done._done) (omega arith)) ∙ c.loop-done.invariant.so_far

pub loop-done-preserved : goal.loop-done-preserved
loop-done-preserved c =
    let link = c.in-Some.ensures.link in
    let nodes = c.args.self.now in
    let left : ℕ = c.args.count - (c.loop-done._done + 1) in
    let less : c.args.count - c.loop-done._done ≡ suc left = omega arith in
    let fewer : values nodes c.loop-done.last ≡ values nodes c.in-Some.node.parent ++ c.in-Some.node.kind ∷ [] = values_more nodes nodes c.in-Some.node.parent c.loop-done.last c.in-Some.node.kind link.chained in
    record {
      within = omega (arith, link.parent, c.loop-done.invariant.within);
      so_far = sym (ap (λ n. chopped n (values nodes c.loop-done.last)) less ∙ ap (chopped (suc left)) fewer ∙ chopped_more left (values nodes c.in-Some.node.parent) c.in-Some.node.kind) ∙ c.loop-done.invariant.so_far;
    }

pub returns-clause-chain : goal.returns-clause-chain
returns-clause-chain c =
    let none : c.args.count - c.loop-done._done ≡ 0 = omega arith in
    sym (chopped_all (values c.args.self.now c.loop-done.last)) ∙ ap (λ n. chopped n (values c.args.self.now c.loop-done.last)) (sym none) ∙ c.loop-done.invariant.so_far
