use Rattle.jrows.proofs.JtextsProofs.BuilderPieces.{begins, gathers_fewer, gathers_on, is_there}
use Rattle.jrows.proofs.jtexts.builders.pieces_of.Goals as goal

pub loop-next-init : goal.loop-next-init
loop-next-init c = begins c.args.heap.now c.args.last c.piece_at-next.result c.new-pieces.result.items c.piece_at-next.ensures c.new-pieces.ensures.items

pub read_previous-front-requires : goal.read_previous-front-requires
read_previous-front-requires c = let known = rw c.in-Some.is at c.loop-next.invariant in is_there c.args.heap.now c.in-Some.o known.0

pub loop-next-preserved : goal.loop-next-preserved
loop-next-preserved c =
    gathers_on c.piece_laws.ensures.enough c.args.heap.now c.args.last c.in-Some.o c.read_previous-front.result c.piece_at-next-in-Some.result c.loop-next.pieces.items c.push.new.self.items
    c.requires
    (rw c.in-Some.is at c.loop-next.invariant) c.read_previous-front.ensures c.piece_at-next-in-Some.ensures c.in_ok-push.ensures.items

pub loop-next-smaller : goal.loop-next-smaller
loop-next-smaller c =
    let known = rw c.in-Some.is at c.loop-next.invariant in
    gathers_fewer c.args.heap.now c.in-Some.o c.read_previous-front.result c.loop-next.next c.piece_at-next-in-Some.result c.requires c.in-Some.is known.0
    c.read_previous-front.ensures c.piece_at-next-in-Some.ensures
