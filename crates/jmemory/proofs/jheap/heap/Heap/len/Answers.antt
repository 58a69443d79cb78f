use Rattle.std.proofs.Common.{◌≡◌, ◌∙◌, length, sym, ap, subst, arith}
use Rattle.std.specs.Prelude.{is_some, true}
use Rattle.jmemory.specs.jheap.Heaps.{Heaped, cells_at, object_at}
use Rattle.jmemory.specs.jheap.ObjectLayout.{behind, kind_of}
use Rattle.jmemory.proofs.JheapProofs.ObjectBlocks.{held, first_there, last_there, len_is}
use Rattle.jmemory.proofs.jheap.heap.Heap.len.Goals as goal

pub overflow_sub-result : goal.overflow_sub-result
overflow_sub-result c =
    let r = c.self.inside.region in
    let bs = c.self.inside.blocks.items in
    let kept = c.self.inside.kept.items in
    let there : is_some (object_at (held r bs kept) c.args.o) ≡ true = subst (λ (h : Heaped). is_some (object_at h c.args.o) ≡ true) (sym c.self.view_is) c.requires in
    let t = last_there c.region_laws.ensures.long r bs kept c.args.o c.index-block.result.now there c.self.invariant.0 c.self.invariant.1 c.index-block.ensures in
    omega (arith, c.len.ensures, t.0)

pub read-requires : goal.read-requires
read-requires c =
    let r = c.self.inside.region in
    let bs = c.self.inside.blocks.items in
    let kept = c.self.inside.kept.items in
    let there : is_some (object_at (held r bs kept) c.args.o) ≡ true = subst (λ (h : Heaped). is_some (object_at h c.args.o) ≡ true) (sym c.self.view_is) c.requires in
    first_there r bs kept c.args.o c.index-block.result.now there c.self.invariant.1 c.index-block.ensures

pub overflow_sub-result-2 : goal.overflow_sub-result-2
overflow_sub-result-2 c =
    let r = c.self.inside.region in
    let bs = c.self.inside.blocks.items in
    let kept = c.self.inside.kept.items in
    let there : is_some (object_at (held r bs kept) c.args.o) ≡ true = subst (λ (h : Heaped). is_some (object_at h c.args.o) ≡ true) (sym c.self.view_is) c.requires in
    let e = len_is c.region_laws.ensures.long r bs kept c.args.o c.index-block.result.now c.read.result there c.self.invariant.0 c.self.invariant.1 c.index-block.ensures c.read.ensures in
    let more : c.behind.result ≡ behind (kind_of c.read.result) = c.behind.ensures ∙ ap behind c.kind_of.ensures in
    omega (arith, e, more, c.len.ensures)

pub returns : goal.returns
returns c =
    let r = c.self.inside.region in
    let bs = c.self.inside.blocks.items in
    let kept = c.self.inside.kept.items in
    let there : is_some (object_at (held r bs kept) c.args.o) ≡ true = subst (λ (h : Heaped). is_some (object_at h c.args.o) ≡ true) (sym c.self.view_is) c.requires in
    let e = len_is c.region_laws.ensures.long r bs kept c.args.o c.index-block.result.now c.read.result there c.self.invariant.0 c.self.invariant.1 c.index-block.ensures c.read.ensures in
    let more : c.behind.result ≡ behind (kind_of c.read.result) = c.behind.ensures ∙ ap behind c.kind_of.ensures in
    let same = ap (λ (h : Heaped). length (cells_at h c.args.o)) c.self.view_is in
    omega (arith, e, more, c.len.ensures, same)
