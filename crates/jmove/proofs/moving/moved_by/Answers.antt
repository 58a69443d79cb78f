use Rattle.std.proofs.Common.{arith, ◌∙◌}
use Rattle.jmove.proofs.MethodLimits.{no_limit, near_by}
use Rattle.jmove.proofs.MethodAssembly.{whole}
use Rattle.jmove.proofs.moving.moved_by.Goals as goal

pub places_in-requires-clause-near : goal.places_in-requires-clause-near
places_in-requires-clause-near c =
    near_by c.args.m.now c.args.kinds.now c.context_local-local.result c.args.domain c.begin_of-at.result c.as_slice-ops.result.now c.context_local-local.ensures (c.begin_of-at.ensures 0 0) c.as_slice-ops.ensures c.requires.can c.requires.limits

pub code_in-requires-clause-near : goal.code_in-requires-clause-near
code_in-requires-clause-near c =
    near_by c.args.m.now c.args.kinds.now c.context_local-local.result c.args.domain c.begin_of-at.result c.as_slice-ops.result.now c.context_local-local.ensures (c.begin_of-at.ensures 0 0) c.as_slice-ops.ensures c.requires.can c.requires.limits

pub overflow_add-result-2 : goal.overflow_add-result-2
overflow_add-result-2 c = let within = no_limit c.args.m.now c.args.kinds.now c.requires.can c.requires.limits in omega (arith, within.stack)

pub returns : goal.returns
returns c =
    whole c.args.m.now c.args.domain c.args.enter c.args.context c.args.kinds.now c.context_local-local.result c.begin_of-at.result c.in_ok-begin.begin.items c.as_slice-ops.result.now c.in_ok-places.places
    c.from_vec.result c.from_vec-2.result c.in_ok-frames.frames
    c.context_local-local.ensures c.in_ok-begin.ensures (c.begin_of-at.ensures c.args.domain c.args.enter) c.as_slice-ops.ensures c.in_ok-places.ensures
    (c.from_vec.ensures ∙ rw c.as_slice.ensures.value at c.in_ok-code.ensures) (c.from_vec-2.ensures ∙ rw c.as_slice-2.ensures at c.in_ok-handlers.ensures) (rw c.as_slice-3.ensures at c.in_ok-frames.ensures)
