use Rattle.std.proofs.Common.{◌∙◌, sym, ap, subst, arith}
use Rattle.std.proofs.Math.Facts.{Fits-of_lt}
use Rattle.jmemory.specs.jheap.Heaps.{Heaped, HasCell, cell_at}
use Rattle.jmemory.proofs.JheapProofs.ObjectBlocks.{held, cell_there, cell_is, cells_fit}
use Rattle.jmemory.proofs.jheap.heap.Heap.number.Goals as goal

pub overflow_add-i : goal.overflow_add-i
overflow_add-i c =
    let r = c.self.inside.region in
    let bs = c.self.inside.blocks.items in
    let kept = c.self.inside.kept.items in
    let has : HasCell (held r bs kept) c.args.o c.args.i = subst (λ (h : Heaped). HasCell h c.args.o c.args.i) (sym c.self.view_is) c.requires in
    Fits-of_lt (omega (arith, cell_there r bs kept c.args.o c.args.i c.index.result.now has c.index.ensures, cells_fit r c.index.result.now, c.self.invariant.4))

pub read-requires : goal.read-requires
read-requires c =
    let r = c.self.inside.region in
    let bs = c.self.inside.blocks.items in
    let kept = c.self.inside.kept.items in
    let has : HasCell (held r bs kept) c.args.o c.args.i = subst (λ (h : Heaped). HasCell h c.args.o c.args.i) (sym c.self.view_is) c.requires in
    cell_there r bs kept c.args.o c.args.i c.index.result.now has c.index.ensures

pub returns : goal.returns
returns c =
    let r = c.self.inside.region in
    let bs = c.self.inside.blocks.items in
    let kept = c.self.inside.kept.items in
    let has : HasCell (held r bs kept) c.args.o c.args.i = subst (λ (h : Heaped). HasCell h c.args.o c.args.i) (sym c.self.view_is) c.requires in
    cell_is r bs kept c.args.o c.args.i c.index.result.now c.read.result has c.index.ensures c.read.ensures
    ∙ ap (λ (h : Heaped). cell_at h c.args.o c.args.i) c.self.view_is
