use Rattle.std.proofs.Common.{◌≡◌, ◌∙◌, ◌+◌, ◌-◌, length, sym, ap, subst, arith}
use Rattle.std.specs.Prelude.{is_some, true}
use Rattle.jmemory.specs.jheap.Heaps.{Heaped, cells_at, look_at, object_at}
use Rattle.jmemory.specs.jheap.ObjectLayout.{behind, kind_of}
use Rattle.jmemory.proofs.JheapProofs.ObjectLookups.{looked}
use Rattle.jmemory.proofs.JheapProofs.ObjectBlocks.{held, first_there, last_there, len_is}
use Rattle.jmemory.proofs.jheap.heap.Heap.looked.Goals as goal

pub overflow_sub-len : goal.overflow_sub-len
overflow_sub-len c =
    let r = c.self.inside.region in
    let bs = c.self.inside.blocks.items in
    let kept = c.self.inside.kept.items in
    let there : is_some (object_at (held r bs kept) c.args.o) ≡ true = subst (λ (h : Heaped). is_some (object_at h c.args.o) ≡ true) (sym c.self.view_is) c.requires in
    let t = last_there c.region_laws.ensures.long r bs kept c.args.o c.index-block.result.now there c.self.invariant.0 c.self.invariant.1 c.index-block.ensures in
    omega (arith, c.len.ensures, t.0)

pub read-requires : goal.read-requires
read-requires c =
    let r = c.self.inside.region in
    let bs = c.self.inside.blocks.items in
    let kept = c.self.inside.kept.items in
    let there : is_some (object_at (held r bs kept) c.args.o) ≡ true = subst (λ (h : Heaped). is_some (object_at h c.args.o) ≡ true) (sym c.self.view_is) c.requires in
    first_there r bs kept c.args.o c.index-block.result.now there c.self.invariant.1 c.index-block.ensures

pub overflow_sub-len-2 : goal.overflow_sub-len-2
overflow_sub-len-2 c =
    let r = c.self.inside.region in
    let bs = c.self.inside.blocks.items in
    let kept = c.self.inside.kept.items in
    let there : is_some (object_at (held r bs kept) c.args.o) ≡ true = subst (λ (h : Heaped). is_some (object_at h c.args.o) ≡ true) (sym c.self.view_is) c.requires in
    let e = len_is c.region_laws.ensures.long r bs kept c.args.o c.index-block.result.now c.read.result there c.self.invariant.0 c.self.invariant.1 c.index-block.ensures c.read.ensures in
    let more : c.behind.result ≡ behind (kind_of c.read.result) = c.behind.ensures ∙ ap behind c.kind_of-kind.ensures in
    omega (arith, e, more, c.len.ensures)

pub returns-clause-look : goal.returns-clause-look
returns-clause-look c =
    let r = c.self.inside.region in
    let bs = c.self.inside.blocks.items in
    let kept = c.self.inside.kept.items in
    let there : is_some (object_at (held r bs kept) c.args.o) ≡ true = subst (λ (h : Heaped). is_some (object_at h c.args.o) ≡ true) (sym c.self.view_is) c.requires in
    let e = len_is c.region_laws.ensures.long r bs kept c.args.o c.index-block.result.now c.read.result there c.self.invariant.0 c.self.invariant.1 c.index-block.ensures c.read.ensures in
    let more : c.behind.result ≡ behind (kind_of c.read.result) = c.behind.ensures ∙ ap behind c.kind_of-kind.ensures in
    let len = c.len.result - 1 - c.behind.result in
    let long : len + behind (kind_of c.read.result) + 1 ≡ c.index-block.result.now.len = omega (arith, e, more, c.len.ensures) in
    rw c.kind_of-kind.ensures (looked c.region_laws.ensures.long r bs kept c.args.o c.self.invariant.0 c.self.invariant.1 c.index-block.result.now c.read.result len there c.index-block.ensures c.read.ensures long)
    ∙ ap (λ (h : Heaped). look_at h c.args.o) c.self.view_is

pub returns-clause-good : goal.returns-clause-good
returns-clause-good c =
    let r = c.self.inside.region in
    let bs = c.self.inside.blocks.items in
    let kept = c.self.inside.kept.items in
    let there : is_some (object_at (held r bs kept) c.args.o) ≡ true = subst (λ (h : Heaped). is_some (object_at h c.args.o) ≡ true) (sym c.self.view_is) c.requires in
    let e = len_is c.region_laws.ensures.long r bs kept c.args.o c.index-block.result.now c.read.result there c.self.invariant.0 c.self.invariant.1 c.index-block.ensures c.read.ensures in
    let more : c.behind.result ≡ behind (kind_of c.read.result) = c.behind.ensures ∙ ap behind c.kind_of-kind.ensures in
    let len = c.len.result - 1 - c.behind.result in
    let long : len + behind (kind_of c.read.result) + 1 ≡ c.index-block.result.now.len = omega (arith, e, more, c.len.ensures) in
    sym (rw c.kind_of-kind.ensures (looked c.region_laws.ensures.long r bs kept c.args.o c.self.invariant.0 c.self.invariant.1 c.index-block.result.now c.read.result len there c.index-block.ensures c.read.ensures long)
    ∙ ap (λ (h : Heaped). look_at h c.args.o) c.self.view_is)

pub returns-clause-len : goal.returns-clause-len
returns-clause-len c =
    let r = c.self.inside.region in
    let bs = c.self.inside.blocks.items in
    let kept = c.self.inside.kept.items in
    let there : is_some (object_at (held r bs kept) c.args.o) ≡ true = subst (λ (h : Heaped). is_some (object_at h c.args.o) ≡ true) (sym c.self.view_is) c.requires in
    let e = len_is c.region_laws.ensures.long r bs kept c.args.o c.index-block.result.now c.read.result there c.self.invariant.0 c.self.invariant.1 c.index-block.ensures c.read.ensures in
    let more : c.behind.result ≡ behind (kind_of c.read.result) = c.behind.ensures ∙ ap behind c.kind_of-kind.ensures in
    let same = ap (λ (h : Heaped). length (cells_at h c.args.o)) c.self.view_is in
    omega (arith, e, more, c.len.ensures, same)
