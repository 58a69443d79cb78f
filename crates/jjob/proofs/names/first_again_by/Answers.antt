use Rattle.std.proofs.Common.{◌≡◌, rules, sym, true}
use Rattle.jjob.specs.Jobs.{lines_of}
use Rattle.jjob.proofs.JobDigests.{none_again}
use Rattle.jjob.proofs.names.first_again_by.Goals as goal

pub returns-then-are_apart : goal.returns-then-are_apart
returns-then-are_apart c = λ is.
    let apart : c.are_apart.result ≡ true = search rules in
    sym (none_again (lines_of c.args.text.now) c.args.digests.items (c.are_apart.ensures apart) is)
