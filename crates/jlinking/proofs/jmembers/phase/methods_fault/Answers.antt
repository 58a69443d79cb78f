use Rattle.std.proofs.Common.{◌≡◌, ◌<◌, ◌≤◌, List, length, get_or, take, refl, sym, ap, subst, ◌∙◌}
use Rattle.jclass.specs.declared.class.ClassParts.{ClassParts}
use Rattle.jclass.specs.declared.class.MemberInfo.{MemberInfo}
use Rattle.jlinking.specs.jmembers.MemberDeclarations.{at_member, method_test, methods_fault}
use Rattle.jlinking.proofs.JmembersProofs.FirstFaults.{step_end, step_none, step_some}
use Rattle.jlinking.proofs.JmembersProofs.MemberSets.{met_next, met_none}
use Rattle.jlinking.proofs.jmembers.phase.methods_fault.Goals as goal

pub loop-k-init : goal.loop-k-init
loop-k-init c = (met_none c.args.texts.now.class c.new-met.result c.new-met.ensures.empty, refl)

pub returns-in-Some : goal.returns-in-Some
unfolding methods_fault
returns-in-Some c =
    let same : c.as_slice-methods.result.now ≡ c.args.texts.now.class.methods = c.as_slice-methods.ensures ∙ ap (λ (x : ClassParts). x.methods) c.class.ensures in
    let r = c.in_ok-fault.ensures (take c.loop-k.k c.args.texts.now.class.methods) c.loop-k.invariant.0 in
    step_some (λ k m. at_member c.args.texts.now.place k (method_test c.args.texts.now.program c.args.texts.now.place c.args.texts.now.class (take k c.args.texts.now.class.methods) k m)) c.args.texts.now.class.methods c.loop-k.k c.index-methods-k.result c.in-Some.fault _
    (subst (λ (xs : List MemberInfo). c.loop-k.k < length xs) same c.loop-k-test.true) (subst (λ (xs : List MemberInfo). c.index-methods-k.result ≡ get_or xs c.loop-k.k c.index-methods-k.result) same c.index-methods-k.is)
    (sym c.in-Some.is ∙ r.0) c.loop-k.invariant.1

pub loop-k-preserved : goal.loop-k-preserved
loop-k-preserved c =
    let same : c.as_slice-methods.result.now ≡ c.args.texts.now.class.methods = c.as_slice-methods.ensures ∙ ap (λ (x : ClassParts). x.methods) c.class.ensures in
    let r = c.in_ok-fault.ensures (take c.loop-k.k c.args.texts.now.class.methods) c.loop-k.invariant.0 in
    let lt : c.loop-k.k < length c.args.texts.now.class.methods = subst (λ (xs : List MemberInfo). c.loop-k.k < length xs) same c.loop-k-test.true in
    let is : c.index-methods-k.result ≡ get_or c.args.texts.now.class.methods c.loop-k.k c.index-methods-k.result = subst (λ (xs : List MemberInfo). c.index-methods-k.result ≡ get_or xs c.loop-k.k c.index-methods-k.result) same c.index-methods-k.is in (
      met_next c.args.texts.now.class c.args.texts.now.class.methods c.loop-k.k c.index-methods-k.result c.method_fault.new.met lt is r.1,
      step_none (λ k m. at_member c.args.texts.now.place k (method_test c.args.texts.now.program c.args.texts.now.place c.args.texts.now.class (take k c.args.texts.now.class.methods) k m)) c.args.texts.now.class.methods c.loop-k.k c.index-methods-k.result _ lt is
          (sym c.in_default.is ∙ r.0) c.loop-k.invariant.1,
    )

pub returns : goal.returns
unfolding methods_fault
returns c =
    let same : c.as_slice-methods.result.now ≡ c.args.texts.now.class.methods = c.as_slice-methods.ensures ∙ ap (λ (x : ClassParts). x.methods) c.class.ensures in
    step_end (λ k m. at_member c.args.texts.now.place k (method_test c.args.texts.now.program c.args.texts.now.place c.args.texts.now.class (take k c.args.texts.now.class.methods) k m)) c.args.texts.now.class.methods c.loop-k.k _
    (subst (λ (xs : List MemberInfo). length xs ≤ c.loop-k.k) same c.loop-k-test.false) c.loop-k.invariant.1
