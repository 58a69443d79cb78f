use Rattle.std.proofs.Common.{◌∙◌}
use Rattle.jinterned.proofs.DigestChains.{linked_added, linked_still}
use Rattle.jinterned.proofs.index.Index.add.Goals as goal

pub invariant_of-self-in-Ok : goal.invariant_of-self-in-Ok
invariant_of-self-in-Ok c =
    let ds = c.self.inside.digests.items in
    let heads = c.self.inside.heads.items in
    let es = c.self.inside.earlier.items in
    rw (c.in_ok-push.ensures.items, c.in-Ok.ensures.heads, c.in-Ok.ensures.earlier) (linked_added ds heads es c.args.digest c.self.invariant)

pub invariant_of-self-in-Err : goal.invariant_of-self-in-Err
invariant_of-self-in-Err c =
    linked_still c.self.inside.digests.items c.self.inside.heads.items _ c.self.inside.earlier.items _ _ _ c.args.digest c.len-count.result c.in_ok-push.ensures.items c.truncate.ensures.items
    (c.len-count.ensures ∙ c.self.inside.digests.ok.0) c.in-Err.ensures.same_heads c.in-Err.ensures.same_earlier c.self.invariant
