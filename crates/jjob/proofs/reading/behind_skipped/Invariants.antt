use Rattle.std.proofs.Common.{◌+◌, ◌≤◌, length}
use denote.Shadow.{shadow}
use denote.Text.{Utf8}
use Rattle.jjob.specs.Jobs.{lines_of}
use Rattle.jjob.specs.JobLineAnswers.{Skips}
use Rattle.jjob.proofs.reading.behind_skipped.Given as goal

abbrev pub invariant-loop-more : goal.invariant-loop-more
invariant-loop-more l =
    shadow (Utf8 l.rest) × (l.place + length l.rest ≤ l.number + length l.text) × (length l.rest ≤ length l.text)
    × Skips (lines_of l.text) l.number (lines_of l.rest) l.place

abbrev pub decreases-loop-more : goal.decreases-loop-more
decreases-loop-more l = length l.rest
