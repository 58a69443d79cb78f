use Rattle.std.proofs.Common.{◌≡◌, ◌+◌, ◌≤◌, ◌++◌, length, map}
use denote.Shadow.{shadow}
use denote.Text.{Utf8}
use Rattle.jjob.specs.Jobs.{lines_of}
use Rattle.jjob.specs.JobNames.{notes, plain}
use Rattle.jjob.proofs.names.notes.Given as goal

abbrev pub invariant-loop-line : goal.invariant-loop-line
invariant-loop-line l = shadow (Utf8 l.rest) × (l.number + length l.rest ≤ length l.text + 1) × (map plain l.names.items ++ notes l.number (lines_of l.rest) ≡ notes 1 (lines_of l.text))

abbrev pub decreases-loop-line : goal.decreases-loop-line
decreases-loop-line l = length l.rest
