use Rattle.std.proofs.Common.{rules, pos}
use Rattle.std.proofs.lemmas.List.Sorted.{answers_always}
use Rattle.jparts.proofs.JcodeProofs.Places.{searched}
use Rattle.jparts.proofs.jcode.branches.is_place.Goals as goal

pub returns : goal.returns
returns c =
    let facts = c.binary_search_by_key.ensures in
    let by_place = facts.position (λ p. pos p.at) (answers_always _ _ _ (λ f a r g called. search rules)) in
    let done = searched c.args.ops.now _ _ c.requires facts.bound by_place in
    search (rules, done)
