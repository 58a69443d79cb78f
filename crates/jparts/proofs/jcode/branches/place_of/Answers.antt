use Rattle.std.proofs.Common.{rules, pos}
use Rattle.std.proofs.lemmas.List.Sorted.{answers_always}
use Rattle.jparts.proofs.JcodeProofs.Places.{numbered}
use Rattle.jparts.proofs.jcode.branches.place_of.Goals as goal

pub returns-in-Ok : goal.returns-in-Ok
returns-in-Ok c =
    let facts = c.binary_search_by_key.ensures in
    let by_place = facts.position (λ p. pos p.at) (answers_always _ _ _ (λ f a r g called. search rules)) in
    let done = numbered c.args.ops.now c.args.at _ _ c.requires facts.bound by_place (search rules) in
    search (rules, done)

pub returns-in-Err : goal.returns-in-Err
returns-in-Err c =
    let facts = c.binary_search_by_key.ensures in
    let by_place = facts.position (λ p. pos p.at) (answers_always _ _ _ (λ f a r g called. search rules)) in
    let done = numbered c.args.ops.now c.args.at _ _ c.requires facts.bound by_place (search rules) in
    search (rules, done)
