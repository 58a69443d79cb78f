use Rattle.std.proofs.Common.{◌≡◌, ◌∙◌, ◌<◌, ◌-◌, Some, length, refl, sym, ap, subst, arith}
use Rattle.std.specs.Prelude.{is_some, true}
use Rattle.jmemory.specs.jregion.Regions.{cells_of}
use Rattle.jmemory.specs.jheap.Heaps.{Heaped, before_at, object_at}
use Rattle.jmemory.proofs.JheapProofs.ObjectBlocks.{held, first_there, last_there, no_piece_is, piece_is}
use Rattle.jmemory.proofs.jheap.heap.Heap.read_previous.Goals as goal

pub read-requires : goal.read-requires
read-requires c =
    let r = c.self.inside.region in
    let bs = c.self.inside.blocks.items in
    let kept = c.self.inside.kept.items in
    let there : is_some (object_at (held r bs kept) c.args.o) ≡ true = subst (λ (h : Heaped). is_some (object_at h c.args.o) ≡ true) (sym c.self.view_is) c.requires in
    first_there r bs kept c.args.o c.index-block.result.now there c.self.invariant.1 c.index-block.ensures

pub read-requires-in-Piece : goal.read-requires-in-Piece
read-requires-in-Piece c =
    let r = c.self.inside.region in
    let bs = c.self.inside.blocks.items in
    let kept = c.self.inside.kept.items in
    let there : is_some (object_at (held r bs kept) c.args.o) ≡ true = subst (λ (h : Heaped). is_some (object_at h c.args.o) ≡ true) (sym c.self.view_is) c.requires in
    let t = last_there c.region_laws.ensures.long r bs kept c.args.o c.index-block.result.now there c.self.invariant.0 c.self.invariant.1 c.index-block.ensures in
    let lt : c.len.result - 1 < length (cells_of r c.index-block.result.now) = omega (arith, t.0, t.1, c.len.ensures) in
    lt

pub returns-in-Object : goal.returns-in-Object
returns-in-Object c =
    let r = c.self.inside.region in
    let bs = c.self.inside.blocks.items in
    let kept = c.self.inside.kept.items in
    let there : is_some (object_at (held r bs kept) c.args.o) ≡ true = subst (λ (h : Heaped). is_some (object_at h c.args.o) ≡ true) (sym c.self.view_is) c.requires in
    no_piece_is r bs kept c.args.o c.index-block.result.now c.read.result _ there c.self.invariant.1 c.index-block.ensures c.read.ensures (sym c.kind_of.ensures ∙ c.in-Object.is) (λ cells. refl)
    ∙ ap (λ (h : Heaped). before_at h c.args.o) c.self.view_is

pub returns-in-Array : goal.returns-in-Array
returns-in-Array c =
    let r = c.self.inside.region in
    let bs = c.self.inside.blocks.items in
    let kept = c.self.inside.kept.items in
    let there : is_some (object_at (held r bs kept) c.args.o) ≡ true = subst (λ (h : Heaped). is_some (object_at h c.args.o) ≡ true) (sym c.self.view_is) c.requires in
    no_piece_is r bs kept c.args.o c.index-block.result.now c.read.result _ there c.self.invariant.1 c.index-block.ensures c.read.ensures (sym c.kind_of.ensures ∙ c.in-Array.is) (λ cells. refl)
    ∙ ap (λ (h : Heaped). before_at h c.args.o) c.self.view_is

pub returns-in-Text : goal.returns-in-Text
returns-in-Text c =
    let r = c.self.inside.region in
    let bs = c.self.inside.blocks.items in
    let kept = c.self.inside.kept.items in
    let there : is_some (object_at (held r bs kept) c.args.o) ≡ true = subst (λ (h : Heaped). is_some (object_at h c.args.o) ≡ true) (sym c.self.view_is) c.requires in
    no_piece_is r bs kept c.args.o c.index-block.result.now c.read.result _ there c.self.invariant.1 c.index-block.ensures c.read.ensures (sym c.kind_of.ensures ∙ c.in-Text.is) (λ cells. refl)
    ∙ ap (λ (h : Heaped). before_at h c.args.o) c.self.view_is

pub returns-in-Piece : goal.returns-in-Piece
returns-in-Piece c =
    let r = c.self.inside.region in
    let bs = c.self.inside.blocks.items in
    let kept = c.self.inside.kept.items in
    let there : is_some (object_at (held r bs kept) c.args.o) ≡ true = subst (λ (h : Heaped). is_some (object_at h c.args.o) ≡ true) (sym c.self.view_is) c.requires in
    let t = last_there c.region_laws.ensures.long r bs kept c.args.o c.index-block.result.now there c.self.invariant.0 c.self.invariant.1 c.index-block.ensures in
    ap (λ n. Some n) c.low_32.ensures
    ∙ piece_is c.region_laws.ensures.long r bs kept c.args.o c.index-block.result.now c.read.result (c.len.result - 1) c.read-in-Piece.result there c.self.invariant.0 c.self.invariant.1
    c.index-block.ensures c.read.ensures (sym c.kind_of.ensures ∙ c.in-Piece.is) (omega (arith, t.0, c.len.ensures)) c.read-in-Piece.ensures
    ∙ ap (λ (h : Heaped). before_at h c.args.o) c.self.view_is
