use Rattle.std.proofs.Common.{◌≡◌, ◌++◌, length}
use denote.Shadow.{shadow}
use denote.Text.{Utf8}
use Rattle.jjob.specs.Jobs.{lines_of}
use Rattle.jjob.specs.StoredJobText.{lines_with}
use Rattle.jjob.proofs.storing.stored_job.Given as goal

abbrev pub invariant-loop-line : goal.invariant-loop-line
invariant-loop-line l = shadow (Utf8 l.rest) × (l.out ++ lines_with l.left (lines_of l.rest) ≡ lines_with l.paths (lines_of l.text))

abbrev pub decreases-loop-line : goal.decreases-loop-line
decreases-loop-line l = length l.rest
