use Rattle.std.proofs.Common.{◌≡◌, ◌≤◌, ◌+◌, map, length, drop}
use Rattle.std.specs.Prelude.{IsTrue}
use Rattle.jgen.specs.ClassFileItems.{have_room, item_of, most_of, with_items}
use Rattle.jgen.proofs.laying.put_pieces.Given as goal

abbrev pub invariant-loop-piece : goal.invariant-loop-piece
invariant-loop-piece l = record {
  so_far : with_items (map item_of (drop l.piece-index l.pieces)) l.draft ≡ with_items (map item_of l.pieces) l.fn.draft;
  room : IsTrue (have_room (length l.draft.pool) (map item_of (drop l.piece-index l.pieces)));
  few : length l.draft.pool + most_of (map item_of (drop l.piece-index l.pieces)) ≤ length l.fn.draft.pool + most_of (map item_of l.pieces);
}
