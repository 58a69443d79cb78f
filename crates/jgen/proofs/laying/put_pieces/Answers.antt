use Rattle.std.proofs.Common.{◌+◌, arith, map, length}
use Rattle.jgen.specs.ClassFileItems.{item_of, most_of}
use Rattle.jgen.proofs.Rooms.{few_next, items_end, items_next, room_here, room_next}
use Rattle.jgen.proofs.laying.put_pieces.Goals as goal

pub put_piece-requires : goal.put_piece-requires
put_piece-requires c = room_here c.args.pieces.now c.loop-piece.piece-index (length c.loop-piece.draft.pool) _ c.loop-piece-test.true c.loop-piece.invariant.room

pub loop-piece-preserved : goal.loop-piece-preserved
loop-piece-preserved c = record {
  so_far = items_next c.args.pieces.now c.loop-piece.piece-index _ c.loop-piece.draft c.put_piece.new.draft _ c.loop-piece-test.true c.in_ok-put_piece.ensures.value c.loop-piece.invariant.so_far;
  room = room_next c.args.pieces.now c.loop-piece.piece-index (length c.loop-piece.draft.pool) (length c.put_piece.new.draft.pool) _ c.loop-piece-test.true c.in_ok-put_piece.ensures.few c.loop-piece.invariant.room;
  few = few_next c.args.pieces.now c.loop-piece.piece-index (length c.loop-piece.draft.pool) (length c.put_piece.new.draft.pool) (length c.args.draft.now.pool + most_of (map item_of c.args.pieces.now)) _ c.loop-piece-test.true
      c.in_ok-put_piece.ensures.few c.loop-piece.invariant.few;
}

pub returns-clause-value : goal.returns-clause-value
returns-clause-value c = items_end c.args.pieces.now c.loop-piece.piece-index c.loop-piece.draft _ (omega (arith, c.loop-piece-test.false)) c.loop-piece.invariant.so_far

pub returns-clause-few : goal.returns-clause-few
returns-clause-few c = omega (arith, c.loop-piece.invariant.few)
