use Rattle.std.proofs.Common.{None, Some, refl, sym, ◌∙◌}
use Rattle.jlinking.specs.jmembers.MemberDeclarations.{final_test, library_test, method_left_out_test, types_test}
use Rattle.jlinking.proofs.JmembersProofs.MemberTests.{method_by}
use Rattle.jlinking.proofs.jmembers.phase.method_test.Goals as goal

pub returns-in-Some : goal.returns-in-Some
returns-in-Some c = λ before has.
    let r = c.in_ok-kind.ensures before has in (
      method_by c.args.texts.now.program c.args.texts.now.place c.args.texts.now.class before c.args.k c.args.method.now (Some c.in-Some.kind) (method_left_out_test c.args.texts.now.program.side c.args.texts.now.class c.args.method.now) (types_test c.args.texts.now.program c.args.texts.now.class c.args.method.now) (library_test c.args.texts.now.program c.args.texts.now.class c.args.method.now) (final_test c.args.texts.now.program c.args.texts.now.place c.args.texts.now.class c.args.k c.args.method.now) (sym c.in-Some.is ∙ r.0) refl refl refl refl,
      r.1,
    )

pub returns-in-Some-method_left_out_test : goal.returns-in-Some-method_left_out_test
returns-in-Some-method_left_out_test c = λ before has.
    let r = c.in_ok-kind.ensures before has in (
      method_by c.args.texts.now.program c.args.texts.now.place c.args.texts.now.class before c.args.k c.args.method.now None (Some c.in-Some-method_left_out_test.kind) (types_test c.args.texts.now.program c.args.texts.now.class c.args.method.now) (library_test c.args.texts.now.program c.args.texts.now.class c.args.method.now) (final_test c.args.texts.now.program c.args.texts.now.place c.args.texts.now.class c.args.k c.args.method.now) (sym c.in_default.is ∙ r.0) (sym c.in-Some-method_left_out_test.is ∙ c.method_left_out_test.ensures) refl refl refl,
      r.1,
    )

pub returns-in-Some-types_test : goal.returns-in-Some-types_test
returns-in-Some-types_test c = λ before has.
    let r = c.in_ok-kind.ensures before has in (
      method_by c.args.texts.now.program c.args.texts.now.place c.args.texts.now.class before c.args.k c.args.method.now None None (Some c.in-Some-types_test.kind) (library_test c.args.texts.now.program c.args.texts.now.class c.args.method.now) (final_test c.args.texts.now.program c.args.texts.now.place c.args.texts.now.class c.args.k c.args.method.now) (sym c.in_default.is ∙ r.0) (sym c.in_default-method_left_out_test.is ∙ c.method_left_out_test.ensures) (sym c.in-Some-types_test.is ∙ c.types_test.ensures) refl refl,
      r.1,
    )

pub returns-in-Some-library_test : goal.returns-in-Some-library_test
returns-in-Some-library_test c = λ before has.
    let r = c.in_ok-kind.ensures before has in (
      method_by c.args.texts.now.program c.args.texts.now.place c.args.texts.now.class before c.args.k c.args.method.now None None None (Some c.in-Some-library_test.kind) (final_test c.args.texts.now.program c.args.texts.now.place c.args.texts.now.class c.args.k c.args.method.now) (sym c.in_default.is ∙ r.0) (sym c.in_default-method_left_out_test.is ∙ c.method_left_out_test.ensures) (sym c.in_default-types_test.is ∙ c.types_test.ensures) (sym c.in-Some-library_test.is ∙ c.library_test.ensures) refl,
      r.1,
    )

pub returns : goal.returns
returns c = λ before has.
    let r = c.in_ok-kind.ensures before has in (
      method_by c.args.texts.now.program c.args.texts.now.place c.args.texts.now.class before c.args.k c.args.method.now None None None None c.in_ok-last.last (sym c.in_default.is ∙ r.0) (sym c.in_default-method_left_out_test.is ∙ c.method_left_out_test.ensures) (sym c.in_default-types_test.is ∙ c.types_test.ensures) (sym c.in_default-library_test.is ∙ c.library_test.ensures) c.in_ok-last.ensures,
      r.1,
    )
