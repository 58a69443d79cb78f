use Rattle.std.proofs.Common.{◌≡◌, ◌-◌, ◌≤◌, length}
use Rattle.jground.specs.jformat.Format.{IsBytes}
use Rattle.jground.specs.jformat.StatefulFormats.{many_from}
use Rattle.jground.proofs.JformatProofs.ReadingLoops.{with_list}
use Rattle.jparts.specs.declared.jcode.fault.CodeFault.TheVariants.{Truncated}
use Rattle.jparts.specs.jcode.Instructions.{placed, place_behind}
use Rattle.jparts.proofs.jcode.coding.ops_of.Given as goal

abbrev pub invariant-loop : goal.invariant-loop
invariant-loop l = record {
  bytes : IsBytes l.rest;
  inside : length l.rest ≤ length l.bytes;
  so_far : with_list l.ops (many_from Truncated (λ t. (placed t).read) place_behind (length l.bytes - length l.rest) (length l.bytes - l.counter) l.rest) ≡ many_from Truncated (λ t. (placed t).read) place_behind 0 (length l.bytes) l.bytes;
}
