use Rattle.std.proofs.Common.{◌≡◌, ◌∙◌, ◌+◌, ◌-◌, ◌<◌, Some, length, sym, ap, subst, arith, rules}
use Rattle.std.specs.Prelude.{◌^◌}
use Rattle.jmemory.specs.jregion.Regions.{Regioned, cells_of, with_cell}
use Rattle.jmemory.specs.declared.jheap.cell.Kind.TheVariants as kinds
use Rattle.jmemory.specs.jheap.Heaps.{Heaped, kind_at, with_before}
use Rattle.jmemory.proofs.JheapProofs.ObjectBlocks.{held, fronts, is_there, last_there}
use Rattle.jmemory.proofs.jheap.heap.Heap.set_before.Goals as goal

pub overflow_sub-len : goal.overflow_sub-len
overflow_sub-len c =
    let r = c.self.inside.region in
    let bs = c.self.inside.blocks.items in
    let kept = c.self.inside.kept.items in
    let piece : kind_at (held r bs kept) c.args.o ≡ Some kinds.Piece = subst (λ (h : Heaped). kind_at h c.args.o ≡ Some kinds.Piece) (sym c.self.view_is) c.requires in
    let there = is_there (held r bs kept) c.args.o kinds.Piece piece in
    let t = last_there c.region_laws.ensures.long r bs kept c.args.o c.index-block.result.now there c.self.invariant.0 c.self.invariant.1 c.index-block.ensures in
    omega (arith, c.len.ensures, t.0)

pub write-requires : goal.write-requires
write-requires c =
    let r = c.self.inside.region in
    let bs = c.self.inside.blocks.items in
    let kept = c.self.inside.kept.items in
    let piece : kind_at (held r bs kept) c.args.o ≡ Some kinds.Piece = subst (λ (h : Heaped). kind_at h c.args.o ≡ Some kinds.Piece) (sym c.self.view_is) c.requires in
    let there = is_there (held r bs kept) c.args.o kinds.Piece piece in
    let t = last_there c.region_laws.ensures.long r bs kept c.args.o c.index-block.result.now there c.self.invariant.0 c.self.invariant.1 c.index-block.ensures in
    let lt : c.len.result - 1 < length (cells_of r c.index-block.result.now) = omega (arith, t.0, t.1, c.len.ensures) in
    lt

pub invariant_of-self : goal.invariant_of-self
invariant_of-self c =
    let r = c.self.inside.region in
    let bs = c.self.inside.blocks.items in
    let kept = c.self.inside.kept.items in
    let piece : kind_at (held r bs kept) c.args.o ≡ Some kinds.Piece = subst (λ (h : Heaped). kind_at h c.args.o ≡ Some kinds.Piece) (sym c.self.view_is) c.requires in
    let there = is_there (held r bs kept) c.args.o kinds.Piece piece in
    let t = last_there c.region_laws.ensures.long r bs kept c.args.o c.index-block.result.now there c.self.invariant.0 c.self.invariant.1 c.index-block.ensures in
    let small : c.args.before < 2 ^ 32 = search rules in
    let f = fronts c.region_laws.ensures.long c.region_laws.ensures.writes r bs kept c.args.o c.args.before (c.len.result - 1) c.index-block.result.now piece c.self.invariant.0 c.self.invariant.1
    c.index-block.ensures (omega (arith, t.0, c.len.ensures)) small in
    let value : c.write.new.self ≡ with_cell r c.index-block.result.now (c.len.result - 1) c.args.before = c.write.ensures.value ∙ ap (with_cell r c.index-block.result.now (c.len.result - 1)) c.from.ensures in
    let few : length (with_cell r c.index-block.result.now (c.len.result - 1) c.args.before).cells + r.room < 2 ^ 31 = omega (arith, f.many, c.self.invariant.4) in
    rw value (f.blocks, f.whole, c.self.invariant.2, c.self.invariant.3, few)

pub returns : goal.returns
returns c =
    let r = c.self.inside.region in
    let bs = c.self.inside.blocks.items in
    let kept = c.self.inside.kept.items in
    let piece : kind_at (held r bs kept) c.args.o ≡ Some kinds.Piece = subst (λ (h : Heaped). kind_at h c.args.o ≡ Some kinds.Piece) (sym c.self.view_is) c.requires in
    let there = is_there (held r bs kept) c.args.o kinds.Piece piece in
    let t = last_there c.region_laws.ensures.long r bs kept c.args.o c.index-block.result.now there c.self.invariant.0 c.self.invariant.1 c.index-block.ensures in
    let small : c.args.before < 2 ^ 32 = search rules in
    let f = fronts c.region_laws.ensures.long c.region_laws.ensures.writes r bs kept c.args.o c.args.before (c.len.result - 1) c.index-block.result.now piece c.self.invariant.0 c.self.invariant.1
    c.index-block.ensures (omega (arith, t.0, c.len.ensures)) small in
    let value : c.write.new.self ≡ with_cell r c.index-block.result.now (c.len.result - 1) c.args.before = c.write.ensures.value ∙ ap (with_cell r c.index-block.result.now (c.len.result - 1)) c.from.ensures in
    ap (λ (s : Regioned). held s bs kept) value
    ∙ f.all
    ∙ ap (λ (h : Heaped). with_before h c.args.o c.args.before) c.self.view_is
