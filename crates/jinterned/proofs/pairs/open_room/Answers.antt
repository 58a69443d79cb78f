use Rattle.std.proofs.Common.{◌∙◌, ◌∷◌, ◌++◌, ◌≤◌, ◌/◌, List, [], length, sym, ap, subst, arith}
use Rattle.std.proofs.lemmas.List.{length-append}
use Rattle.jinterned.specs.declared.pairs.Pair.{Pair}
use Rattle.jinterned.specs.PairRegions.{AreFilled, all_of}
use Rattle.jinterned.proofs.PairRegions.{few, opened, opened_same}
use Rattle.jinterned.proofs.pairs.open_room.Goals as goal

pub returns-clause-room : goal.returns-clause-room
returns-clause-room c =
    omega (
      arith,
      few c.args.regions.now.items c.requires.filled,
      c.requires.at,
      ap length c.in_ok-push.ensures.items,
      length-append c.args.regions.now.items (c.from_vec.result ∷ []),
    )

pub returns-clause-same : goal.returns-clause-same
returns-clause-same c =
    ap all_of c.in_ok-push.ensures.items
    ∙ ap (λ (r : List Pair). all_of (c.args.regions.now.items ++ r ∷ [])) (c.from_vec.ensures ∙ c.in_ok-region.ensures.items)
    ∙ opened_same c.args.regions.now.items

pub returns-clause-filled : goal.returns-clause-filled
returns-clause-filled c =
    let full : length c.args.regions.now.items ≤ length (all_of c.args.regions.now.items) / 65536 =
    omega (arith, c.if-at-len.false, c.len.ensures, c.requires.at, c.args.regions.now.ok.0) in
    subst AreFilled (sym (c.in_ok-push.ensures.items ∙ ap (λ (r : List Pair). c.args.regions.now.items ++ r ∷ []) (c.from_vec.ensures ∙ c.in_ok-region.ensures.items)))
    (opened c.args.regions.now.items c.requires.filled full)
