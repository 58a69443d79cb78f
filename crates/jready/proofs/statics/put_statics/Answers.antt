use Rattle.std.proofs.Common.{◌≡◌, ◌<◌, ◌++◌, List, length, get_or, take, ap, sym, subst, ◌∙◌}
use Rattle.jclass.specs.declared.class.ClassParts.{ClassParts}
use Rattle.jclass.specs.declared.class.MemberInfo.{MemberInfo}
use Rattle.jready.specs.Statics.{AreStatics, IsStatic}
use Rattle.jready.proofs.StaticDefaults.{own, own_passed, own_put}
use Rattle.jready.proofs.statics.put_statics.Goals as goal
use Rattle.jready.proofs.statics.put_statics.Goals.{then-is_static+in_ok-row_of+in_ok-push, else-is_static}

pub loop-field-preserved : goal.loop-field-preserved
loop-field-preserved c before h =
    let p = c.args.p.now in
    let part = c.args.part.now in
    let fields = part.class.fields in
    let j = c.loop-field.field-index in
    let m = c.field-item.result in
    let same = c.as_slice-field-items.ensures ∙ ap (λ (x : ClassParts). x.fields) c.parts-parts.ensures.same in
    let lt : j < length fields = subst (λ (l : List MemberInfo). j < length l) same c.loop-field-test.true in
    let is : m ≡ get_or fields j m = subst (λ (l : List MemberInfo). m ≡ get_or l j m) same c.field-item.is in
    elim c.if-is_static.branch [
      | then-is_static+in_ok-row_of+in_ok-push w ↦
          let one = subst (λ (x : ClassParts). IsStatic p x m w.in_ok-row_of.field-0) c.parts-parts.ensures.same w.in_ok-row_of.ensures in
          own_put p before part fields j m c.loop-field.rows c.if-is_static.rows w.in_ok-row_of.field-0 lt is (sym c.is_static.ensures
          ∙ w.if-is_static.true) (c.loop-field.invariant before h) one (w.rows-is ∙ w.in_ok-push.ensures.ok)
      | else-is_static w ↦
          own_passed p before part fields j m c.if-is_static.rows lt is (sym c.is_static.ensures ∙ w.if-is_static.false)
          (subst (AreStatics p (before ++ own part (take j fields))) (sym w.rows-is) (c.loop-field.invariant before h))
    ]
