use Rattle.std.proofs.Common.{◌∙◌, ◌%◌, List, length, Some, ap, arith}
use Rattle.std.specs.Prelude.{get_or}
use Rattle.jinterned.specs.declared.pairs.Pair.{Pair}
use Rattle.jinterned.proofs.PairRegions.{pair_there, place_there, region_there}
use Rattle.jinterned.proofs.pairs.Pairs.read.Goals as goal

pub index-requires : goal.index-requires
index-requires c = omega (arith, region_there c.self.inside.regions.items c.args.self.now c.args.k c.self.view_is c.self.invariant.0 c.requires, c.self.inside.regions.ok.0)

pub bounds-as_slice-k : goal.bounds-as_slice-k
bounds-as_slice-k c =
    omega (
      arith,
      place_there c.self.inside.regions.items c.args.self.now c.args.k c.self.view_is c.self.invariant.0 c.requires c.index.result.now c.index.ensures,
      ap length c.as_slice.ensures,
    )

pub returns : goal.returns
returns c =
    ap (λ (l : List Pair). Some (get_or l (c.args.k % 65536) (record { limits = 0; domain = 0 }))) c.as_slice.ensures
    ∙ pair_there c.self.inside.regions.items c.args.self.now c.args.k c.self.view_is c.self.invariant.0 c.requires c.index.result.now c.index.ensures (record { limits = 0; domain = 0 })
