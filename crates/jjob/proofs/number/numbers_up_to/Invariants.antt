use Rattle.std.proofs.Common.{◌≡◌, ◌==◌, length}
use Rattle.std.specs.List.{slice_split}
use denote.Shadow.{shadow}
use denote.Text.{Utf8}
use Rattle.jground.specs.jbase.ListMaps.{each_some}
use Rattle.jground.proofs.JbaseProofs.Loops.{some_behind}
use Rattle.jjob.specs.JobNumbers.{number_up_to}
use Rattle.jjob.proofs.number.numbers_up_to.Given as goal

abbrev pub invariant-loop-first : goal.invariant-loop-first
invariant-loop-first l = shadow (Utf8 l.rest) × (some_behind l.numbers (each_some (number_up_to l.most) (slice_split (λ b. b == 32) l.rest)) ≡ each_some (number_up_to l.most) (slice_split (λ b. b == 32) l.text))

abbrev pub decreases-loop-first : goal.decreases-loop-first
decreases-loop-first l = length l.rest
