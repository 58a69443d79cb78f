use Rattle.std.proofs.Common.{◌≡◌, ◌-◌}
use Rattle.jground.specs.jformat.BodyFormats.{times_at}
use Rattle.jground.specs.jformat.StatefulFormats.{times_from}
use Rattle.jground.proofs.JformatProofs.ReadingLoops.{with_front}
use Rattle.jground.proofs.jformat.loops.times_of.Given as goal

abbrev pub invariant-loop : goal.invariant-loop
invariant-loop g l = with_front l.items (times_from (λ (u : Unit {0}). g.R.Reader.reads l.reader) (λ (u : Unit {0}) (a : g.row.R-Item.Denot). u) tt (l.count - l.counter) l.rest) ≡ times_at (g.R.Reader.reads l.reader) l.count l.bytes
