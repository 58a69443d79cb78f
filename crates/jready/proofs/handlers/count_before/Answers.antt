use Rattle.std.proofs.Common.{ℕ, rules, pos, ap, ◌∙◌}
use Rattle.std.specs.Prelude.{nat_le}
use Rattle.std.proofs.lemmas.List.Sorted.{answers_always}
use Rattle.jready.proofs.InstructionNumbers.{counts, number_of}
use Rattle.jready.proofs.handlers.count_before.Goals as goal

pub returns-in-Ok : goal.returns-in-Ok
returns-in-Ok c i one there =
    let facts = c.binary_search_by_key.ensures in
    let by_place = facts.position (λ p. pos p.at) (answers_always _ _ _ (λ f a r g called. search rules)) in
    let done = counts c.args.ops.now c.args.at _ c.binary_search_by_key.result c.requires.rises facts.bound by_place (search rules) i one there in
    done ∙ ap (λ (n : ℕ). nat_le n i) (ap number_of c.in-Ok.is)

pub returns-in-Err : goal.returns-in-Err
returns-in-Err c i one there =
    let facts = c.binary_search_by_key.ensures in
    let by_place = facts.position (λ p. pos p.at) (answers_always _ _ _ (λ f a r g called. search rules)) in
    let done = counts c.args.ops.now c.args.at _ c.binary_search_by_key.result c.requires.rises facts.bound by_place (search rules) i one there in
    done ∙ ap (λ (n : ℕ). nat_le n i) (ap number_of c.in-Err.is)
