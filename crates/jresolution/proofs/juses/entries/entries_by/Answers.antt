use Rattle.std.proofs.Common.{◌≡◌, List, length, get_or, ap, subst, arith}
use Rattle.jparts.specs.declared.jpool.entry.Entry.{Entry}
use Rattle.jresolution.proofs.JusesProofs.EntryCaches.{entries_step}
use Rattle.jresolution.proofs.juses.entries.entries_by.Goals as goal

pub loop-entry-preserved : goal.loop-entry-preserved
loop-entry-preserved c =
    let same = c.entries-entry-items.ensures.same in
    let i = c.loop-entry.entry-index in
    let e = c.entry-item.result in (
      rw c.in_ok-push.ensures.ok
          (entries_step c.args.p.now c.args.pool.now c.args.types.now i e c.loop-entry.all c.in_ok-one.one (omega (arith, ap length same))
          (subst (λ (l : List Entry). e ≡ get_or l i e) same c.entry-item.is) c.loop-entry.invariant.0 c.in_ok-one.ensures.value),
      c.in_ok-one.ensures.kept,
    )
