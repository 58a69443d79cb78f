use Rattle.std.proofs.Common.{◌≡◌, ◌∙◌, ◌+◌, ◌-◌, ◌<◌, ◌≤◌, ◌++◌, ◌∷◌, [], List, ℕ, length, ap, ap₂, arith}
use Rattle.std.specs.Prelude.{◌^◌, vec_capacity}
use Rattle.std.proofs.lemmas.List.{length-append, length-map}
use Rattle.jmemory.specs.jregion.Regions.{Regioned, cells_of, next_block}
use Rattle.jmemory.specs.jregion.Blocks.{blocks_of}
use Rattle.jmemory.specs.jheap.Heaps.{Object, charge, fresh}
use Rattle.jmemory.specs.jheap.ObjectLayout.{headed, header, object_in, objects_of}
use Rattle.jmemory.proofs.JheapProofs.ObjectBlocks.{costs, one_more}
use Rattle.jmemory.proofs.jheap.heap.Heap.make.Goals as goal

pub invariant_of-self : goal.invariant_of-self
invariant_of-self c =
    let r = c.self.inside.region in
    let bs = c.self.inside.blocks.items in
    let kept = c.self.inside.kept.items in
    let kind = c.args.kind in
    let cost = c.charge-cost.ensures in
    let block = next_block r (charge kind c.args.len) in
    let m = one_more c.region_laws.ensures.adds c.region_laws.ensures.writes r bs kind c.args.len c.place-block.ensures.back c.self.invariant.0 c.self.invariant.1 in
    let region : c.place-block.new.region ≡ headed r (charge kind c.args.len) (header kind) = c.place-block.ensures.region ∙ ap (λ n. headed r n (header kind)) cost in
    let items : c.list.new.blocks.items ≡ bs ++ block ∷ [] = c.list.ensures.items ∙ ap (λ b. bs ++ b ∷ []) (c.place-block.ensures.block ∙ ap (next_block r) cost) in
    let many : length (bs ++ block ∷ []) ≡ length bs + 1 = length-append bs (block ∷ []) in
    let enough : charge kind c.args.len ≤ r.room = omega (arith, c.if-from-cost.false, c.from.ensures, c.room.ensures, cost) in
    let some = costs kind c.args.len in
    let room : length (bs ++ block ∷ []) + (r.room - charge kind c.args.len) ≤ vec_capacity c.list.new.blocks = omega (arith, many, enough, some, c.self.invariant.2, c.list.ensures.capacity) in
    let fewer : length (bs ++ block ∷ []) + (r.room - charge kind c.args.len) < 2 ^ 31 = omega (arith, many, enough, some, c.self.invariant.3) in
    let few : length (headed r (charge kind c.args.len) (header kind)).cells + (r.room - charge kind c.args.len) < 2 ^ 31 = omega (arith, m.cells, enough, c.self.invariant.4) in
    rw (region, items) (m.blocks, m.whole, room, fewer, few)

pub returns : goal.returns
returns c =
    let r = c.self.inside.region in
    let bs = c.self.inside.blocks.items in
    let kept = c.self.inside.kept.items in
    let kind = c.args.kind in
    let cost = c.charge-cost.ensures in
    let block = next_block r (charge kind c.args.len) in
    let m = one_more c.region_laws.ensures.adds c.region_laws.ensures.writes r bs kind c.args.len c.place-block.ensures.back c.self.invariant.0 c.self.invariant.1 in
    let region : c.place-block.new.region ≡ headed r (charge kind c.args.len) (header kind) = c.place-block.ensures.region ∙ ap (λ n. headed r n (header kind)) cost in
    let items : c.list.new.blocks.items ≡ bs ++ block ∷ [] = c.list.ensures.items ∙ ap (λ b. bs ++ b ∷ []) (c.place-block.ensures.block ∙ ap (next_block r) cost) in
    let many : length (bs ++ block ∷ []) ≡ length bs + 1 = length-append bs (block ∷ []) in
    let enough : charge kind c.args.len ≤ r.room = omega (arith, c.if-from-cost.false, c.from.ensures, c.room.ensures, cost) in
    let objects : objects_of c.place-block.new.region c.list.new.blocks.items ≡ objects_of r bs ++ fresh kind c.args.len ∷ [] = ap₂ objects_of region items ∙ m.objects in
    let left : c.place-block.new.region.room ≡ r.room - charge kind c.args.len = ap (λ (s : Regioned). s.room) region in
    let count : length (objects_of r bs) ≡ length bs = length-map (blocks_of r bs) object_in ∙ length-map bs (cells_of r) in
    rw (← c.self.view_is) (
      omega (arith, enough),
      omega (arith, c.len.ensures, c.list.new.blocks.ok.0, ap length items, many, count),
      ap₂ (λ (os : List Object) (n : ℕ). record { objects = os; statics = kept; left = n }) objects left,
    )
