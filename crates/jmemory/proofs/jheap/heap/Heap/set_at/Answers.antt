use Rattle.std.proofs.Common.{◌≡◌, ◌∙◌, ◌+◌, ◌<◌, Some, length, sym, ap, subst, arith}
use Rattle.std.specs.Prelude.{◌^◌}
use Rattle.std.proofs.Math.Facts.{Fits-of_lt}
use Rattle.jmemory.specs.jregion.Regions.{Regioned, with_cell}
use Rattle.jmemory.specs.jheap.Heaps as heaps
use Rattle.jmemory.specs.jheap.Heaps.{Heaped, look_at}
use Rattle.jmemory.specs.jheap.RawValues.{raw}
use Rattle.jmemory.proofs.JheapProofs.ObjectLookups.{looks}
use Rattle.jmemory.proofs.JheapProofs.ObjectBlocks.{held, cell_there, cells_fit, puts}
use Rattle.jmemory.proofs.jheap.heap.Heap.set_at.Goals as goal

pub overflow_add-i : goal.overflow_add-i
overflow_add-i c =
    let r = c.self.inside.region in
    let bs = c.self.inside.blocks.items in
    let kept = c.self.inside.kept.items in
    let good : look_at (held r bs kept) c.args.look.object ≡ Some c.args.look = subst (λ (h : Heaped). look_at h c.args.look.object ≡ Some c.args.look) (sym c.self.view_is) c.requires.good in
    let seen = looks c.region_laws.ensures.long r bs kept c.args.look.object c.self.invariant.0 c.self.invariant.1 c.args.look c.args.i good c.requires.there in
    Fits-of_lt (omega (arith, cell_there r bs kept c.args.look.object c.args.i c.args.look.block seen.0 seen.1, cells_fit r c.args.look.block, c.self.invariant.4))

pub write-requires : goal.write-requires
write-requires c =
    let r = c.self.inside.region in
    let bs = c.self.inside.blocks.items in
    let kept = c.self.inside.kept.items in
    let good : look_at (held r bs kept) c.args.look.object ≡ Some c.args.look = subst (λ (h : Heaped). look_at h c.args.look.object ≡ Some c.args.look) (sym c.self.view_is) c.requires.good in
    let seen = looks c.region_laws.ensures.long r bs kept c.args.look.object c.self.invariant.0 c.self.invariant.1 c.args.look c.args.i good c.requires.there in
    cell_there r bs kept c.args.look.object c.args.i c.args.look.block seen.0 seen.1

pub invariant_of-self : goal.invariant_of-self
invariant_of-self c =
    let r = c.self.inside.region in
    let bs = c.self.inside.blocks.items in
    let kept = c.self.inside.kept.items in
    let good : look_at (held r bs kept) c.args.look.object ≡ Some c.args.look = subst (λ (h : Heaped). look_at h c.args.look.object ≡ Some c.args.look) (sym c.self.view_is) c.requires.good in
    let seen = looks c.region_laws.ensures.long r bs kept c.args.look.object c.self.invariant.0 c.self.invariant.1 c.args.look c.args.i good c.requires.there in
    let p = puts c.region_laws.ensures.long c.region_laws.ensures.writes r bs kept c.args.look.object c.args.i c.raw.result c.args.look.block seen.0 c.self.invariant.0 c.self.invariant.1 seen.1 in
    let few : length (with_cell r c.args.look.block (c.args.i + 1) c.raw.result).cells + r.room < 2 ^ 31 = omega (arith, p.many, c.self.invariant.4) in
    rw c.write.ensures.value (p.blocks, p.whole, c.self.invariant.2, c.self.invariant.3, few)

pub returns : goal.returns
returns c =
    let r = c.self.inside.region in
    let bs = c.self.inside.blocks.items in
    let kept = c.self.inside.kept.items in
    let good : look_at (held r bs kept) c.args.look.object ≡ Some c.args.look = subst (λ (h : Heaped). look_at h c.args.look.object ≡ Some c.args.look) (sym c.self.view_is) c.requires.good in
    let seen = looks c.region_laws.ensures.long r bs kept c.args.look.object c.self.invariant.0 c.self.invariant.1 c.args.look c.args.i good c.requires.there in
    let p = puts c.region_laws.ensures.long c.region_laws.ensures.writes r bs kept c.args.look.object c.args.i c.raw.result c.args.look.block seen.0 c.self.invariant.0 c.self.invariant.1 seen.1 in
    ap (λ (s : Regioned). held s bs kept) c.write.ensures.value
    ∙ p.all
    ∙ ap (heaps.with_cell (held r bs kept) c.args.look.object c.args.i) c.raw.ensures
    ∙ ap (λ (h : Heaped). heaps.with_cell h c.args.look.object c.args.i (raw c.args.value)) c.self.view_is
