use Rattle.std.proofs.Common.{◌∙◌, ◌+◌, ◌<◌, length, sym, ap, subst, arith}
use Rattle.std.specs.Prelude.{◌^◌}
use Rattle.std.proofs.Math.Facts.{Fits-of_lt}
use Rattle.jmemory.specs.jregion.Regions.{Regioned, with_cell}
use Rattle.jmemory.specs.jheap.Heaps as heaps
use Rattle.jmemory.specs.jheap.Heaps.{Heaped, HasCell}
use Rattle.jmemory.proofs.JheapProofs.ObjectBlocks.{held, cell_there, cells_fit, puts}
use Rattle.jmemory.proofs.jheap.heap.Heap.set_number.Goals as goal

pub overflow_add-i : goal.overflow_add-i
overflow_add-i c =
    let r = c.self.inside.region in
    let bs = c.self.inside.blocks.items in
    let kept = c.self.inside.kept.items in
    let has : HasCell (held r bs kept) c.args.o c.args.i = subst (λ (h : Heaped). HasCell h c.args.o c.args.i) (sym c.self.view_is) c.requires in
    Fits-of_lt (omega (arith, cell_there r bs kept c.args.o c.args.i c.index.result.now has c.index.ensures, cells_fit r c.index.result.now, c.self.invariant.4))

pub write-requires : goal.write-requires
write-requires c =
    let r = c.self.inside.region in
    let bs = c.self.inside.blocks.items in
    let kept = c.self.inside.kept.items in
    let has : HasCell (held r bs kept) c.args.o c.args.i = subst (λ (h : Heaped). HasCell h c.args.o c.args.i) (sym c.self.view_is) c.requires in
    cell_there r bs kept c.args.o c.args.i c.index.result.now has c.index.ensures

pub invariant_of-self : goal.invariant_of-self
invariant_of-self c =
    let r = c.self.inside.region in
    let bs = c.self.inside.blocks.items in
    let kept = c.self.inside.kept.items in
    let has : HasCell (held r bs kept) c.args.o c.args.i = subst (λ (h : Heaped). HasCell h c.args.o c.args.i) (sym c.self.view_is) c.requires in
    let p = puts c.region_laws.ensures.long c.region_laws.ensures.writes r bs kept c.args.o c.args.i c.args.n c.index.result.now has c.self.invariant.0 c.self.invariant.1 c.index.ensures in
    let few : length (with_cell r c.index.result.now (c.args.i + 1) c.args.n).cells + r.room < 2 ^ 31 = omega (arith, p.many, c.self.invariant.4) in
    rw c.write.ensures.value (p.blocks, p.whole, c.self.invariant.2, c.self.invariant.3, few)

pub returns : goal.returns
returns c =
    let r = c.self.inside.region in
    let bs = c.self.inside.blocks.items in
    let kept = c.self.inside.kept.items in
    let has : HasCell (held r bs kept) c.args.o c.args.i = subst (λ (h : Heaped). HasCell h c.args.o c.args.i) (sym c.self.view_is) c.requires in
    let p = puts c.region_laws.ensures.long c.region_laws.ensures.writes r bs kept c.args.o c.args.i c.args.n c.index.result.now has c.self.invariant.0 c.self.invariant.1 c.index.ensures in
    ap (λ (s : Regioned). held s bs kept) c.write.ensures.value
    ∙ p.all
    ∙ ap (λ (h : Heaped). heaps.with_cell h c.args.o c.args.i c.args.n) c.self.view_is
