use Rattle.std.proofs.Common.{◌≡◌, ◌∙◌, Some, sym, ap, subst}
use Rattle.std.specs.Prelude.{is_some, true}
use Rattle.jmemory.specs.jheap.Heaps.{Heaped, object_at, kind_at}
use Rattle.jmemory.proofs.JheapProofs.ObjectBlocks.{held, first_there, kind_is}
use Rattle.jmemory.proofs.jheap.heap.Heap.kind.Goals as goal

pub read-requires : goal.read-requires
read-requires c =
    let r = c.self.inside.region in
    let bs = c.self.inside.blocks.items in
    let kept = c.self.inside.kept.items in
    let there : is_some (object_at (held r bs kept) c.args.o) ≡ true = subst (λ (h : Heaped). is_some (object_at h c.args.o) ≡ true) (sym c.self.view_is) c.requires in
    first_there r bs kept c.args.o c.index.result.now there c.self.invariant.1 c.index.ensures

pub returns : goal.returns
returns c =
    let r = c.self.inside.region in
    let bs = c.self.inside.blocks.items in
    let kept = c.self.inside.kept.items in
    let there : is_some (object_at (held r bs kept) c.args.o) ≡ true = subst (λ (h : Heaped). is_some (object_at h c.args.o) ≡ true) (sym c.self.view_is) c.requires in
    ap (λ k. Some k) c.kind_of.ensures
    ∙ kind_is r bs kept c.args.o c.index.result.now c.read.result there c.self.invariant.1 c.index.ensures c.read.ensures
    ∙ ap (λ (h : Heaped). kind_at h c.args.o) c.self.view_is
