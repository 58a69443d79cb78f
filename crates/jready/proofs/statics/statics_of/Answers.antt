use Rattle.std.proofs.Common.{◌≡◌, ◌<◌, List, length, get_or, subst}
use Rattle.jresolution.specs.declared.jprogram.part.CodePart.{CodePart}
use Rattle.jready.proofs.StaticDefaults.{class_put}
use Rattle.jready.proofs.statics.statics_of.Goals as goal

pub loop-i-preserved : goal.loop-i-preserved
loop-i-preserved c =
    let p = c.args.p.now in
    let i = c.loop-i.i in
    let part = c.part-item.result in
    let same = c.parts-part-items.ensures.same in
    let lt : i < length p.parts = subst (λ (l : List CodePart). i < length l) same c.loop-i-test.true in
    let here : part ≡ get_or p.parts i part = subst (λ (l : List CodePart). part ≡ get_or l i part) same c.part-item.is in
    class_put p i part c.loop-i.rows c.put_statics.new.rows lt here c.loop-i.invariant c.in_ok-put_statics.ensures
