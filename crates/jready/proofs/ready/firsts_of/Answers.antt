use Rattle.std.proofs.Common.{◌≡◌, ◌+◌, ◌<◌, ℕ, List, [], ◌∷◌, length, get_or, ap, sym, subst, ◌∙◌, arith}
use Rattle.std.proofs.lemmas.List.{length-append}
use Rattle.jclass.specs.declared.class.ClassParts.{ClassParts}
use Rattle.jresolution.specs.declared.jprogram.part.CodePart.{CodePart}
use Rattle.jready.specs.MethodNumbers.{AreFirstsTo, method_count}
use Rattle.jready.proofs.MethodNumbers.{before_next, firsts_end, firsts_more}
use Rattle.jready.proofs.ready.firsts_of.Goals as goal

pub loop-part-preserved : goal.loop-part-preserved
loop-part-preserved c =
    let p = c.args.p.now in
    let old = c.loop-part.invariant in
    let i = c.loop-part.part-index in
    let part = c.part-item.result in
    let same = c.parts-part-items.ensures.same in
    let lt : i < length p.parts = omega (arith, ap length same, c.loop-part-test.true) in
    let here : part ≡ get_or p.parts i part = subst (λ (l : List CodePart). part ≡ get_or l i part) same c.part-item.is in
    let behind : c.in_ok-behind.behind ≡ c.loop-part.first + method_count part = c.in_ok-behind.ensures.sum
    ∙ ap (λ (n : ℕ). c.loop-part.first + n) (ap length (c.as_slice.ensures ∙ ap (λ (x : ClassParts). x.methods) c.parts.ensures.same)) in
    let put = c.in_ok-push.ensures.ok in
    let len : length c.push.new.self ≡ length c.loop-part.firsts + 1 = ap length put ∙ length-append c.loop-part.firsts (c.loop-part.first ∷ []) in
    record {
      so_far = subst (λ (l : List ℕ). AreFirstsTo p l (i + 1)) (sym put)
          (firsts_more p c.loop-part.firsts i c.loop-part.first c.in_ok-behind.behind part old.so_far old.count old.next lt here behind
          c.in_ok-behind.ensures.room);
      count = let n = old.count in omega arith;
      next = before_next p i c.loop-part.first c.in_ok-behind.behind part old.next lt here behind;
    }

pub returns : goal.returns
returns c = firsts_end c.args.p.now c.loop-part.firsts c.loop-part.part-index
    (omega (arith, ap length c.parts-part-items.ensures.same, c.loop-part-test.false)) c.loop-part.invariant.so_far
