use Rattle.std.proofs.Common.{◌≡◌, ℕ, ◌+◌, ◌<◌, ◌≤◌, List, length, get_or, take, refl, sym, ap, subst, ◌∙◌}
use Rattle.jclass.specs.declared.class.ClassParts.{ClassParts}
use Rattle.jclass.specs.declared.class.MemberInfo.{MemberInfo}
use Rattle.jlinking.specs.jmembers.MemberDeclarations.{at_member, field_test, fields_fault}
use Rattle.jlinking.proofs.JmembersProofs.FirstFaults.{step_end, step_none, step_some}
use Rattle.jlinking.proofs.JmembersProofs.MemberSets.{met_next, met_none}
use Rattle.jlinking.proofs.jmembers.phase.fields_fault.Goals as goal

pub loop-k-init : goal.loop-k-init
loop-k-init c = (met_none c.args.texts.now.class c.new-met.result c.new-met.ensures.empty, refl)

pub returns-in-Some : goal.returns-in-Some
unfolding fields_fault
returns-in-Some c =
    let same : c.as_slice-fields.result.now ≡ c.args.texts.now.class.fields = c.as_slice-fields.ensures ∙ ap (λ (x : ClassParts). x.fields) c.class-2.ensures in
    let r = c.in_ok-fault.ensures (take c.loop-k.k c.args.texts.now.class.fields) c.loop-k.invariant.0 in
    let count : length c.as_slice-first.result.now ≡ length c.args.texts.now.class.methods = ap length (c.as_slice-first.ensures ∙ ap (λ (x : ClassParts). x.methods) c.class.ensures) in
    let found = r.0 ∙ ap (λ (n : ℕ). at_member c.args.texts.now.place (n + c.loop-k.k) (field_test c.args.texts.now.program c.args.texts.now.class (take c.loop-k.k c.args.texts.now.class.fields) c.index-fields-k.result)) count in
    step_some (λ k m. at_member c.args.texts.now.place (length c.args.texts.now.class.methods + k) (field_test c.args.texts.now.program c.args.texts.now.class (take k c.args.texts.now.class.fields) m)) c.args.texts.now.class.fields c.loop-k.k c.index-fields-k.result c.in-Some.fault _
    (subst (λ (xs : List MemberInfo). c.loop-k.k < length xs) same c.loop-k-test.true) (subst (λ (xs : List MemberInfo). c.index-fields-k.result ≡ get_or xs c.loop-k.k c.index-fields-k.result) same c.index-fields-k.is)
    (sym c.in-Some.is ∙ found) c.loop-k.invariant.1

pub loop-k-preserved : goal.loop-k-preserved
loop-k-preserved c =
    let same : c.as_slice-fields.result.now ≡ c.args.texts.now.class.fields = c.as_slice-fields.ensures ∙ ap (λ (x : ClassParts). x.fields) c.class-2.ensures in
    let r = c.in_ok-fault.ensures (take c.loop-k.k c.args.texts.now.class.fields) c.loop-k.invariant.0 in
    let count : length c.as_slice-first.result.now ≡ length c.args.texts.now.class.methods = ap length (c.as_slice-first.ensures ∙ ap (λ (x : ClassParts). x.methods) c.class.ensures) in
    let found = r.0 ∙ ap (λ (n : ℕ). at_member c.args.texts.now.place (n + c.loop-k.k) (field_test c.args.texts.now.program c.args.texts.now.class (take c.loop-k.k c.args.texts.now.class.fields) c.index-fields-k.result)) count in
    let lt : c.loop-k.k < length c.args.texts.now.class.fields = subst (λ (xs : List MemberInfo). c.loop-k.k < length xs) same c.loop-k-test.true in
    let is : c.index-fields-k.result ≡ get_or c.args.texts.now.class.fields c.loop-k.k c.index-fields-k.result = subst (λ (xs : List MemberInfo). c.index-fields-k.result ≡ get_or xs c.loop-k.k c.index-fields-k.result) same c.index-fields-k.is in (
      met_next c.args.texts.now.class c.args.texts.now.class.fields c.loop-k.k c.index-fields-k.result c.field_fault.new.met lt is r.1,
      step_none (λ k m. at_member c.args.texts.now.place (length c.args.texts.now.class.methods + k) (field_test c.args.texts.now.program c.args.texts.now.class (take k c.args.texts.now.class.fields) m)) c.args.texts.now.class.fields c.loop-k.k c.index-fields-k.result _ lt is
          (sym c.in_default.is ∙ found) c.loop-k.invariant.1,
    )

pub returns : goal.returns
unfolding fields_fault
returns c =
    let same : c.as_slice-fields.result.now ≡ c.args.texts.now.class.fields = c.as_slice-fields.ensures ∙ ap (λ (x : ClassParts). x.fields) c.class-2.ensures in
    step_end (λ k m. at_member c.args.texts.now.place (length c.args.texts.now.class.methods + k) (field_test c.args.texts.now.program c.args.texts.now.class (take k c.args.texts.now.class.fields) m)) c.args.texts.now.class.fields c.loop-k.k _
    (subst (λ (xs : List MemberInfo). length xs ≤ c.loop-k.k) same c.loop-k-test.false) c.loop-k.invariant.1
