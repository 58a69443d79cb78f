use Rattle.std.proofs.Common.{rules, pos}
use Rattle.std.proofs.lemmas.List.Sorted.{answers_always}
use Rattle.jparts.proofs.JcodeProofs.Places.{fit_rises, searched}
use Rattle.jclass.proofs.places.Places.begins.Goals as goal

pub returns : goal.returns
returns c =
    let facts = c.binary_search_by_key.ensures in
    let by_place = facts.position (λ p. pos p.at) (answers_always _ _ _ (λ f a r g called. search rules)) in
    let done = searched c.self.inside.ops.now _ _ (fit_rises c.self.inside.ops.now c.self.invariant.0) facts.bound by_place in
    search (rules, done)
