use Rattle.std.proofs.Common.{◌≡◌, ◌-◌}
use Rattle.jground.specs.jformat.StatefulFormats.{times_from}
use Rattle.jground.proofs.JformatProofs.ReadingLoops.{with_front}
use Rattle.jground.proofs.jformat.places.times_by_of.Given as goal

abbrev pub invariant-loop : goal.invariant-loop
invariant-loop g l = with_front l.items (times_from (g.R.StateReader.reads l.reader) (g.R.StateReader.goes_to l.reader) l.state (l.count - l.counter) l.rest) ≡ times_from (g.R.StateReader.reads l.reader) (g.R.StateReader.goes_to l.reader) l.fn.first l.count l.bytes
