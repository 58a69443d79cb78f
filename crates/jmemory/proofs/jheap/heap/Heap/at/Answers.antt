use Rattle.std.proofs.Common.{◌≡◌, ◌∙◌, Some, sym, ap, subst, arith}
use Rattle.std.proofs.Math.Facts.{Fits-of_lt}
use Rattle.jmemory.specs.jheap.Heaps.{Heaped, cell_at, look_at}
use Rattle.jmemory.specs.jheap.RawValues.{of_raw}
use Rattle.jmemory.proofs.JheapProofs.ObjectLookups.{looks}
use Rattle.jmemory.proofs.JheapProofs.ObjectBlocks.{held, cell_there, cell_is, cells_fit}
use Rattle.jmemory.proofs.jheap.heap.Heap.at.Goals as goal

pub overflow_add-i : goal.overflow_add-i
overflow_add-i c =
    let r = c.self.inside.region in
    let bs = c.self.inside.blocks.items in
    let kept = c.self.inside.kept.items in
    let good : look_at (held r bs kept) c.args.look.object ≡ Some c.args.look = subst (λ (h : Heaped). look_at h c.args.look.object ≡ Some c.args.look) (sym c.self.view_is) c.requires.good in
    let seen = looks c.region_laws.ensures.long r bs kept c.args.look.object c.self.invariant.0 c.self.invariant.1 c.args.look c.args.i good c.requires.there in
    Fits-of_lt (omega (arith, cell_there r bs kept c.args.look.object c.args.i c.args.look.block seen.0 seen.1, cells_fit r c.args.look.block, c.self.invariant.4))

pub read-requires : goal.read-requires
read-requires c =
    let r = c.self.inside.region in
    let bs = c.self.inside.blocks.items in
    let kept = c.self.inside.kept.items in
    let good : look_at (held r bs kept) c.args.look.object ≡ Some c.args.look = subst (λ (h : Heaped). look_at h c.args.look.object ≡ Some c.args.look) (sym c.self.view_is) c.requires.good in
    let seen = looks c.region_laws.ensures.long r bs kept c.args.look.object c.self.invariant.0 c.self.invariant.1 c.args.look c.args.i good c.requires.there in
    cell_there r bs kept c.args.look.object c.args.i c.args.look.block seen.0 seen.1

pub returns : goal.returns
returns c =
    let r = c.self.inside.region in
    let bs = c.self.inside.blocks.items in
    let kept = c.self.inside.kept.items in
    let good : look_at (held r bs kept) c.args.look.object ≡ Some c.args.look = subst (λ (h : Heaped). look_at h c.args.look.object ≡ Some c.args.look) (sym c.self.view_is) c.requires.good in
    let seen = looks c.region_laws.ensures.long r bs kept c.args.look.object c.self.invariant.0 c.self.invariant.1 c.args.look c.args.i good c.requires.there in
    c.of_raw.ensures
    ∙ ap (of_raw c.args.of) (cell_is r bs kept c.args.look.object c.args.i c.args.look.block c.read.result seen.0 seen.1 c.read.ensures)
    ∙ ap (λ (h : Heaped). of_raw c.args.of (cell_at h c.args.look.object c.args.i)) c.self.view_is
