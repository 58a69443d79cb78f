use Rattle.std.proofs.Common.{◌≡◌, ◌≤◌, ◌+◌, ◌*◌, ◌-◌, length}
use Rattle.jgen.specs.GeneratedClasses.{calls}
use Rattle.jgen.specs.ClassFileItems.{with_items}
use Rattle.jgen.proofs.class.put_calls.Given as goal

abbrev pub invariant-loop-i : goal.invariant-loop-i
invariant-loop-i l = record {
  so_far : with_items (calls l.i (l.size - l.i)) l.draft ≡ with_items (calls 0 l.size) l.fn.draft;
  within : l.i ≤ l.size;
  few : length l.draft.pool ≤ length l.fn.draft.pool + 6 * l.i;
}
