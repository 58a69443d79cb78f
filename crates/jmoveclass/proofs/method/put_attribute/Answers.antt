use Rattle.std.proofs.Common.{ap, sym, ◌∙◌}
use Rattle.std.specs.Prelude.{option_map}
use Rattle.std.proofs.lemmas.Result.{err_from_is_err_and}
use Rattle.jmoveclass.specs.MovableClasses.{seen_body}
use Rattle.jmoveclass.proofs.MovedAttributes.{attribute_put, attribute_refused, body_is}
use Rattle.jmoveclass.proofs.method.put_attribute.Goals as goal

pub put_code-requires-clause-limits : goal.put_code-requires-clause-limits
put_code-requires-clause-limits c =
    let is = sym c.body_in.ensures ∙ ap (option_map (λ x. (x.0, seen_body x.1))) c.in-Some.is in
    c.requires.limits c.args.one.now (seen_body c.in-Some.b) c.requires.there (body_is c.args.one.now c.in-Some.name (seen_body c.in-Some.b) is)

pub returns-in_err-code : goal.returns-in_err-code
returns-in_err-code c =
    let p = err_from_is_err_and c.from_residual-in_err-code.result c.from_residual-in_err-code.ensures.1 in
    let is = sym c.body_in.ensures ∙ ap (option_map (λ x. (x.0, seen_body x.1))) c.in-Some.is in
    rw (p.1, p.2) (attribute_refused c.args.c.now.program.now c.args.c.now.class.now c.args.c.now.domain c.args.m.now c.args.one.now c.in-Some.name (seen_body c.in-Some.b) c.in_err-code.field-0.0 c.args.pool.now is c.in_err-code.ensures)

pub returns : goal.returns
returns c =
    let is = sym c.body_in.ensures ∙ ap (option_map (λ x. (x.0, seen_body x.1))) c.in-Some.is in
    attribute_put c.args.c.now.program.now c.args.c.now.class.now c.args.c.now.domain c.args.m.now c.args.one.now c.in-Some.name (seen_body c.in-Some.b) c.in_ok-code.code c.args.pool.now c.put_code.new.pool is c.in_ok-code.ensures
