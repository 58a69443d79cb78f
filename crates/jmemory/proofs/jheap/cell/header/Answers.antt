use Rattle.std.proofs.Common.{◌≡◌, ◌<◌, ◌^◌, rules, sym, subst}
use Rattle.jmemory.specs.declared.jheap.cell.Kind.{Kind}
use Rattle.jmemory.specs.jheap.ObjectLayout.{header, kind_of}
use Rattle.jmemory.proofs.JheapProofs.ObjectHeaders.{array_said, object_said, piece_said, text_said}
use Rattle.jmemory.proofs.jheap.cell.header.Goals as goal

pub returns-in-Object-clause-back : goal.returns-in-Object-clause-back
returns-in-Object-clause-back c =
    let small : c.in-Object.n < 2 ^ 32 = search rules in
    subst (λ (k : Kind). kind_of (header k) ≡ k) (sym c.in-Object.is) (object_said c.in-Object.n small)

pub returns-in-Array-clause-back : goal.returns-in-Array-clause-back
returns-in-Array-clause-back c =
    let small : c.in-Array.n < 2 ^ 32 = search rules in
    subst (λ (k : Kind). kind_of (header k) ≡ k) (sym c.in-Array.is) (array_said c.in-Array.n small)

pub returns-in-Text-clause-back : goal.returns-in-Text-clause-back
returns-in-Text-clause-back c = subst (λ (k : Kind). kind_of (header k) ≡ k) (sym c.in-Text.is) text_said

pub returns-in-Piece-clause-back : goal.returns-in-Piece-clause-back
returns-in-Piece-clause-back c = subst (λ (k : Kind). kind_of (header k) ≡ k) (sym c.in-Piece.is) piece_said
