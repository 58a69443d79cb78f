use Rattle.std.proofs.Common.{◌≡◌, ◌<◌, length, ap, ◌∙◌, arith}
use Rattle.jclass.specs.declared.class.ClassParts.{ClassParts}
use Rattle.jresolution.proofs.JprogramProofs.MemberCounts.{few_fields, few_methods}
use Rattle.jlinking.specs.jmembers.PoolTexts.{Declaring}
use Rattle.jlinking.proofs.jmembers.phase.class_fault.Goals as goal

pub methods_fault-requires : goal.methods_fault-requires
methods_fault-requires c =
    let same : c.in_ok-texts.texts.class ≡ c.args.class.now = ap (λ (x : Declaring). x.class) c.in_ok-texts.ensures ∙ c.parts.ensures.same in
    let few : length c.args.class.now.methods < 65536 = few_methods c.args.class.now c.parts.ensures.kept in
    let size : length c.in_ok-texts.texts.class.methods ≡ length c.args.class.now.methods = ap (λ (x : ClassParts). length x.methods) same in
    omega (arith, few, size)

pub fields_fault-requires-clause-methods : goal.fields_fault-requires-clause-methods
fields_fault-requires-clause-methods c =
    let same : c.in_ok-texts.texts.class ≡ c.args.class.now = ap (λ (x : Declaring). x.class) c.in_ok-texts.ensures ∙ c.parts.ensures.same in
    let few : length c.args.class.now.methods < 65536 = few_methods c.args.class.now c.parts.ensures.kept in
    let size : length c.in_ok-texts.texts.class.methods ≡ length c.args.class.now.methods = ap (λ (x : ClassParts). length x.methods) same in
    omega (arith, few, size)

pub fields_fault-requires-clause-fields : goal.fields_fault-requires-clause-fields
fields_fault-requires-clause-fields c =
    let same : c.in_ok-texts.texts.class ≡ c.args.class.now = ap (λ (x : Declaring). x.class) c.in_ok-texts.ensures ∙ c.parts.ensures.same in
    let few : length c.args.class.now.fields < 65536 = few_fields c.args.class.now c.parts.ensures.kept in
    let size : length c.in_ok-texts.texts.class.fields ≡ length c.args.class.now.fields = ap (λ (x : ClassParts). length x.fields) same in
    omega (arith, few, size)
