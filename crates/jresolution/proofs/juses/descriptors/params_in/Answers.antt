use Rattle.std.proofs.Common.{List, sym, subst, length, ◌-◌, arith}
use Rattle.jresolution.specs.declared.juses.types.TypeRef.{TypeRef}
use Rattle.jresolution.proofs.JusesProofs.DescriptorCaches.{Params, params_begin, params_end, params_more, params_stop}
use Rattle.jresolution.proofs.juses.descriptors.params_in.Goals as goal

pub loop-i-init : goal.loop-i-init
loop-i-init c = (omega arith, subst (λ (l : List TypeRef). Params c.args.p.now c.args.params.now (length c.args.params.now) l) (sym c.new-types.ensures) (params_begin c.args.p.now c.args.params.now))

pub returns-in_default : goal.returns-in_default
returns-in_default c = params_stop c.args.p.now c.args.params.now (c.loop-i.i - 1) c.index-params-i.result (omega (arith, c.loop-i.invariant.0)) c.index-params-i.is c.in_default.ensures

pub loop-i-preserved : goal.loop-i-preserved
loop-i-preserved c = (
  omega (arith, c.loop-i.invariant.0),
  rw c.in_ok-push.ensures.ok (params_more c.args.p.now c.args.params.now (c.loop-i.i - 1) c.loop-i.i c.index-params-i.result c.loop-i.types c.in-Some.one (omega arith) (omega (arith, c.loop-i.invariant.0)) c.index-params-i.is c.in-Some.ensures c.loop-i.invariant.1),
)

pub returns : goal.returns
returns c = params_end c.args.p.now c.args.params.now c.loop-i.i c.loop-i.types (omega arith) c.loop-i.invariant.1
