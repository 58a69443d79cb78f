use Rattle.std.proofs.Common.{◌+◌, ◌≤◌, length}
use denote.Shadow.{shadow}
use denote.Text.{Utf8}
use Rattle.jjob.specs.Jobs.{lines_of}
use Rattle.jjob.proofs.JobParser.{Along}
use Rattle.jjob.proofs.reading.bad_line.Given as goal

abbrev pub invariant-loop-line : goal.invariant-loop-line
invariant-loop-line l = shadow (Utf8 l.rest) × (l.number + length l.rest ≤ length l.text + 1) × Along (lines_of l.text) l.number (lines_of l.rest) l.told l.digests.items

abbrev pub decreases-loop-line : goal.decreases-loop-line
decreases-loop-line l = length l.rest
