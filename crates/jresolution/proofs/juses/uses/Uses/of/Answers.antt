use Rattle.std.proofs.Common.{◌≡◌, List, length, get_or, ap, subst, arith}
use Rattle.jclass.specs.declared.class.ClassParts.{ClassParts}
use Rattle.jresolution.specs.declared.jprogram.part.CodePart.{CodePart}
use Rattle.jresolution.specs.juses.PoolTables.{AreKept}
use Rattle.jresolution.proofs.JusesProofs.EntryCaches.{parts_step}
use Rattle.jresolution.proofs.juses.uses.Uses.of.Goals as goal

pub loop-part-preserved : goal.loop-part-preserved
loop-part-preserved c =
    let p = c.args.p.now in
    let new = c.entries_of.new.types in
    let same = c.parts-part-items.ensures.same in
    let i = c.loop-part.part-index in
    let part = c.part-item.result in
    let entries : AreKept p part.class.pool new part.class.pool c.in_ok-entries.entries = subst (λ (x : ClassParts). AreKept p x.pool new x.pool c.in_ok-entries.entries) c.parts.ensures.same c.in_ok-entries.ensures.0 in
    rw c.in_ok-push.ensures.ok
    (parts_step p c.loop-part.types new i part c.loop-part.parts c.in_ok-entries.entries (omega (arith, ap length same)) (subst (λ (l : List CodePart). part ≡ get_or l i part) same c.part-item.is) c.loop-part.invariant entries c.in_ok-entries.ensures.1)
