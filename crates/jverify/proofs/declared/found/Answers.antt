use Rattle.std.proofs.Common.{rules, pos, subst}
use Rattle.std.proofs.lemmas.List.Sorted.{answers_always}
use Rattle.jverify.proofs.FrameSearch.{IsFound, searched}
use Rattle.jverify.proofs.declared.found.Goals as goal

pub returns-in-Ok : goal.returns-in-Ok
returns-in-Ok c =
    let facts = c.binary_search_by_key.ensures in
    let by_place = facts.position (λ k. pos k.at) (answers_always _ _ _ (λ f a r g called. search rules)) in
    let done = searched c.args.frames.now c.args.at _ _ c.requires facts.bound by_place (search rules) in
    subst (IsFound c.args.frames.now c.args.at) c.in-Ok.is done c.index-frames-i.result c.index-frames-i.is

pub returns-in-Err : goal.returns-in-Err
returns-in-Err c =
    let facts = c.binary_search_by_key.ensures in
    let by_place = facts.position (λ k. pos k.at) (answers_always _ _ _ (λ f a r g called. search rules)) in
    let done = searched c.args.frames.now c.args.at _ _ c.requires facts.bound by_place (search rules) in
    subst (IsFound c.args.frames.now c.args.at) c.in-Err.is done
