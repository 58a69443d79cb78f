use Rattle.std.proofs.Common.{◌≡◌, ◌+◌, ◌<◌, ℕ, List, length, get_or, ap, subst, ◌∙◌, arith}
use Rattle.jclass.specs.declared.class.ClassParts.{ClassParts}
use Rattle.jresolution.specs.declared.jprogram.part.CodePart.{CodePart}
use Rattle.jready.specs.MethodNumbers.{method_count}
use Rattle.jready.specs.PreparedPrograms.{AreOwn}
use Rattle.jready.proofs.MethodNumbers.{before_next, numbered_more}
use Rattle.jready.proofs.ready.methods_of.Goals as goal

pub loop-i-preserved : goal.loop-i-preserved
loop-i-preserved c =
    let p = c.args.known.now.p.now in
    let old = c.loop-i.invariant in
    let put = c.in_ok-put_class.ensures in
    let i = c.loop-i.i in
    let part = c.index-parts-i.result in
    let rows = c.loop-i.methods.rows in
    let new = c.put_class.new.methods.rows in
    let same = c.parts-parts.ensures.same in
    let lt : i < length p.parts = omega (arith, ap length same, c.loop-i-test.true) in
    let here : part ≡ get_or p.parts i part = subst (λ (l : List CodePart). part ≡ get_or l i part) same c.index-parts-i.is in
    let count : c.in_ok-count.count ≡ method_count part = c.in_ok-count.ensures
    ∙ ap length (c.as_slice.ensures ∙ ap (λ (x : ClassParts). x.methods) c.parts.ensures.same) in
    let own : AreOwn new (length rows) i c.in_ok-count.count =
    subst (λ (k : ℕ). AreOwn new (length rows) k c.in_ok-count.count) c.in_ok-class.ensures put.own in
    record {
      are = put.are;
      count = before_next p i (length rows) (length new) part old.count lt here (put.count ∙ ap (λ (n : ℕ). length rows + n) count);
      numbered = numbered_more p rows new i (length rows) c.in_ok-count.count part old.numbered put.behind old.count lt here count own;
    }
