use Rattle.std.proofs.Common.{None, Some, refl, sym, ◌∙◌}
use Rattle.jlinking.specs.jmembers.MemberDeclarations.{field_left_out_test, types_test}
use Rattle.jlinking.proofs.JmembersProofs.MemberTests.{field_by}
use Rattle.jlinking.proofs.jmembers.phase.field_test.Goals as goal

pub returns-in-Some : goal.returns-in-Some
returns-in-Some c = λ before has.
    let r = c.in_ok-kind.ensures before has in
    (field_by c.args.texts.now.program c.args.texts.now.class before c.args.field.now (Some c.in-Some.kind) (field_left_out_test c.args.texts.now.class c.args.field.now) (types_test c.args.texts.now.program c.args.texts.now.class c.args.field.now) (sym c.in-Some.is ∙ r.0) refl refl, r.1)

pub returns-in-Some-field_left_out_test : goal.returns-in-Some-field_left_out_test
returns-in-Some-field_left_out_test c = λ before has.
    let r = c.in_ok-kind.ensures before has in
    (field_by c.args.texts.now.program c.args.texts.now.class before c.args.field.now None (Some c.in-Some-field_left_out_test.kind) (types_test c.args.texts.now.program c.args.texts.now.class c.args.field.now) (sym c.in_default.is ∙ r.0) (sym c.in-Some-field_left_out_test.is ∙ c.field_left_out_test.ensures) refl, r.1)

pub returns : goal.returns
returns c = λ before has.
    let r = c.in_ok-kind.ensures before has in
    (field_by c.args.texts.now.program c.args.texts.now.class before c.args.field.now None None c.types_test.result (sym c.in_default.is ∙ r.0) (sym c.in_default-field_left_out_test.is ∙ c.field_left_out_test.ensures) c.types_test.ensures, r.1)
