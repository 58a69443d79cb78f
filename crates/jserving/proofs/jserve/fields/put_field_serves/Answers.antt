use Rattle.std.proofs.Common.{true, false, refl, sym, ap, ◌∙◌}
use Rattle.jresolution.specs.declared.jprogram.member.MethodId.{MethodId}
use Rattle.jserving.proofs.JserveProofs.FieldOperands.{put_field_served}
use Rattle.jserving.proofs.jserve.fields.put_field_serves.Goals as goal

pub returns-then-not-serves_at : goal.returns-then-not-serves_at
returns-then-not-serves_at g c at own_of s f store here there is owned holds =
    put_field_served c.heap_laws.ensures.each c.args.a.now c.args.x.now s store c.args.frames.now.newest.operands at own_of f c.args.own
    c.args.frames.now.newest.method.class c.args.owner c.args.held false _ here there is owned holds
    (sym c.if-not-serves_at.true ∙ c.serves_at.ensures) refl

pub returns : goal.returns
returns g c at own_of s f store here there is owned holds =
    put_field_served c.heap_laws.ensures.each c.args.a.now c.args.x.now s store c.args.frames.now.newest.operands at own_of f c.args.own
    c.method.result.class c.args.owner c.args.held true c.written_serves_at.result here
    (there ∙ sym (ap (λ (m : MethodId). m.class) c.method.ensures)) is owned holds
    (sym c.if-not-serves_at.false ∙ c.serves_at.ensures) c.written_serves_at.ensures
