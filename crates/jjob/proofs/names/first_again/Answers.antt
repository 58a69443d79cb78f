use Rattle.std.proofs.Common.{◌∙◌, ap, map}
use Rattle.jjob.specs.Jobs.{lines_of}
use Rattle.jjob.specs.JobNames.{least_again, plain}
use Rattle.jjob.proofs.JobNames.{sorted_again}
use Rattle.jjob.proofs.names.first_again.Goals as goal

pub returns : goal.returns
returns c =
    let sorted = c.sort_unstable.ensures in
    c.least_again.ensures ∙ ap (λ names. least_again (map plain names)) c.as_slice.ensures.value
    ∙ sorted_again (lines_of c.args.text.now) c.in_ok-names.names.items c.sort_unstable.new.self.items c.in_ok-names.ensures sorted.permutation sorted.sorted
