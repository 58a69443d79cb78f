use Rattle.std.proofs.Common.{◌≡◌, ◌+◌, ◌≤◌, length}
use denote.Shadow.{shadow}
use denote.Text.{Utf8}
use Rattle.jjob.specs.Jobs.{lines_of, number_of_lines}
use Rattle.jjob.proofs.reading.number_of_lines.Given as goal

abbrev pub invariant-loop-more : goal.invariant-loop-more
invariant-loop-more l = shadow (Utf8 l.rest) × (l.number + length l.rest ≤ length l.text) × (l.number + number_of_lines (lines_of l.rest) ≡ number_of_lines (lines_of l.text))

abbrev pub decreases-loop-more : goal.decreases-loop-more
decreases-loop-more l = length l.rest
