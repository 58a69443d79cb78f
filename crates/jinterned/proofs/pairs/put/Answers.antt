use Rattle.std.proofs.Common.{◌∙◌, ◌∷◌, ◌++◌, List, [], sym, ap, subst}
use Rattle.std.specs.Prelude.{slice_set}
use Rattle.std.proofs.lemmas.List.{get_or_read}
use Rattle.jinterned.specs.declared.pairs.Pair.{Pair}
use Rattle.jinterned.specs.PairRegions.{AreFilled, all_of}
use Rattle.jinterned.proofs.PairRegions.{put_in}
use Rattle.jinterned.proofs.pairs.put.Goals as goal

pub returns-clause-ok : goal.returns-clause-ok
returns-clause-ok c =
    let regions : List (List Pair) = c.args.regions.now.items in
    ap (λ (r : List Pair). all_of (slice_set regions c.args.at r))
    (c.in_ok-push.ensures.ok ∙ ap (λ (r : List Pair). r ++ c.args.pair ∷ []) (get_or_read regions c.args.at c.index_mut.result.now c.requires.room c.index_mut.ensures.value []))
    ∙ (put_in regions c.args.at c.args.pair c.requires.filled c.requires.at c.requires.room).all

pub returns-clause-filled : goal.returns-clause-filled
returns-clause-filled c =
    let regions : List (List Pair) = c.args.regions.now.items in
    subst (λ (r : List Pair). AreFilled (slice_set regions c.args.at r))
    (sym (c.in_ok-push.ensures.ok ∙ ap (λ (r : List Pair). r ++ c.args.pair ∷ []) (get_or_read regions c.args.at c.index_mut.result.now c.requires.room c.index_mut.ensures.value [])))
    (put_in regions c.args.at c.args.pair c.requires.filled c.requires.at c.requires.room).filled
