use Rattle.std.proofs.Common.{◌∙◌, ◌%◌, ◌<◌, drop, length, ap, arith}
use Rattle.jinterned.proofs.PairRegions.{place_there, region_there, run_short, run_whole}
use Rattle.jinterned.proofs.pairs.Pairs.run.Goals as goal

pub index-requires : goal.index-requires
index-requires c =
    let lt : c.args.k < length c.args.self.now = omega (arith, c.requires.there, c.requires.some) in
    omega (arith, region_there c.self.inside.regions.items c.args.self.now c.args.k c.self.view_is c.self.invariant.0 lt, c.self.inside.regions.ok.0)

pub split_at-requires : goal.split_at-requires
split_at-requires c =
    let lt : c.args.k < length c.args.self.now = omega (arith, c.requires.there, c.requires.some) in
    omega (
      arith,
      place_there c.self.inside.regions.items c.args.self.now c.args.k c.self.view_is c.self.invariant.0 lt c.index.result.now c.index.ensures,
      ap length c.as_slice-region.ensures,
    )

pub returns-then-most-behind : goal.returns-then-most-behind
returns-then-most-behind c =
    let lt : c.args.k < length c.args.self.now = omega (arith, c.requires.there, c.requires.some) in
    run_short c.self.inside.regions.items c.args.self.now c.args.k c.self.view_is c.self.invariant.0 lt c.index.result.now c.index.ensures c.args.most
    _ _ (c.split_at.ensures.back ∙ ap (drop (c.args.k % 65536)) c.as_slice-region.ensures) c.split_at-then-most-behind.ensures.front c.requires.some (omega (arith, c.if-most-behind.true))

pub returns : goal.returns
returns c =
    let lt : c.args.k < length c.args.self.now = omega (arith, c.requires.there, c.requires.some) in
    run_whole c.self.inside.regions.items c.args.self.now c.args.k c.self.view_is c.self.invariant.0 lt c.index.result.now c.index.ensures c.args.most
    _ (c.split_at.ensures.back ∙ ap (drop (c.args.k % 65536)) c.as_slice-region.ensures) (omega (arith, c.if-most-behind.false))
