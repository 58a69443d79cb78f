use Rattle.std.proofs.Common.{rules, ℤ, pos, ap, sym, ◌∙◌, arith}
use Rattle.std.specs.List.{position}
use Rattle.std.specs.Ordering.{int_eq}
use Rattle.std.proofs.lemmas.List.Sorted.{answers_always}
use Rattle.jresolution.proofs.JusesProofs.BranchNumbers.{number_found, number_within}
use Rattle.jparts.proofs.JcodeProofs.Places.{found}
use Rattle.jresolution.proofs.juses.numbering.target.Goals as goal

pub overflow_cast-result : goal.overflow_cast-result
overflow_cast-result c = let within = number_within c.args.ops.now _ c.in-Ok.number c.binary_search_by_key.ensures.bound c.in-Ok.is in omega (arith, within, c.requires.few)

pub returns-in-Ok : goal.returns-in-Ok
returns-in-Ok c =
    let facts = c.binary_search_by_key.ensures in
    let by_place = facts.position (λ p. pos p.at) (answers_always _ _ _ (λ f a r g called. search rules)) in
    let done = number_found c.args.ops.now _ _ c.requires.rises facts.bound by_place in
    ap found (sym c.in-Ok.is) ∙ done ∙ ap (λ (t : ℤ). position (λ p. int_eq (pos p.at) t) c.args.ops.now) (search rules)

pub returns-in-Err : goal.returns-in-Err
returns-in-Err c =
    let facts = c.binary_search_by_key.ensures in
    let by_place = facts.position (λ p. pos p.at) (answers_always _ _ _ (λ f a r g called. search rules)) in
    let done = number_found c.args.ops.now _ _ c.requires.rises facts.bound by_place in
    ap found (sym c.in-Err.is) ∙ done ∙ ap (λ (t : ℤ). position (λ p. int_eq (pos p.at) t) c.args.ops.now) (search rules)
