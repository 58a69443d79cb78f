use Rattle.std.proofs.Common.{◌∙◌, ap, sym}
use Rattle.jjob.specs.JobNames.{neighbours_differ}
use Rattle.jjob.proofs.JobDigests.{sorted_apart}
use Rattle.jjob.proofs.digests.are_apart.Goals as goal

pub returns : goal.returns
returns c = λ differ.
    let sorted = c.sort_unstable.ensures in
    let all = sym (c.neighbours_differ.ensures ∙ ap neighbours_differ c.as_slice.ensures.value) ∙ differ in
    sorted_apart c.args.numbers.items c.sort_unstable.new.self.items sorted.permutation sorted.sorted all
