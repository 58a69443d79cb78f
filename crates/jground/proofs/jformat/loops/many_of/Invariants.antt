use Rattle.std.proofs.Common.{◌≡◌, ◌-◌, length}
use Rattle.jground.specs.jformat.BodyFormats.{many_at}
use Rattle.jground.specs.jformat.StatefulFormats.{many_from}
use Rattle.jground.proofs.JformatProofs.ReadingLoops.{with_list}
use Rattle.jground.proofs.jformat.loops.many_of.Given as goal

abbrev pub invariant-loop : goal.invariant-loop
invariant-loop g l = with_list l.items (many_from l.more (λ (u : Unit {0}). g.R.Reader.reads l.reader) (λ (u : Unit {0}) (a : g.row.R-Item.Denot). u) tt (length l.bytes - l.counter) l.rest) ≡ many_at l.more (g.R.Reader.reads l.reader) (length l.bytes) l.bytes
