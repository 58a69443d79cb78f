use Rattle.std.proofs.Common.{ℕ, List, Some, subst, arith}
use Rattle.jresolution.specs.juses.PoolTables.{DescIs, entry_typed}
use Rattle.jresolution.specs.juses.DescriptorTypes.{typed}
use Rattle.jresolution.proofs.JusesProofs.DescriptorCaches.{descs_step}
use Rattle.jresolution.proofs.JusesProofs.Spans.{grows_on}
use Rattle.jresolution.proofs.juses.descriptors.descs_of.Goals as goal

pub loop-entry-preserved : goal.loop-entry-preserved
loop-entry-preserved c =
    let p = c.args.p.now in
    let old = c.loop-entry.types in
    let new = c.desc_use.new.types in
    let one : DescIs p new c.in_ok-one.one (entry_typed p (Some c.entry-item.result)) = subst (λ (t : List ℕ). DescIs p new c.in_ok-one.one (typed p t)) c.text_of.ensures c.in_ok-one.ensures.0 in (
      rw c.in_ok-push.ensures.ok
          (descs_step p old new c.args.entries.now c.loop-entry.entry-index c.entry-item.result c.loop-entry.uses c.in_ok-one.one (omega arith) c.entry-item.is c.loop-entry.invariant.0 one c.in_ok-one.ensures.1),
      grows_on c.args.types.now old new c.loop-entry.invariant.1 c.in_ok-one.ensures.1,
    )
