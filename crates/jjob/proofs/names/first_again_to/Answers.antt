use Rattle.std.proofs.Common.{◌≡◌, ◌∙◌, Some, ap, rules, sym, true}
use Rattle.jground.specs.jbase.FirstFaults.{or_else}
use Rattle.jjob.specs.Jobs.{lines_of}
use Rattle.jjob.specs.JobNames.{lesser}
use Rattle.jjob.proofs.JobDigests.{again_to, none_again}
use Rattle.jjob.proofs.names.first_again_to.Goals as goal

pub returns-then-are_apart : goal.returns-then-are_apart
returns-then-are_apart c = λ before left whole at is.
    let apart : c.are_apart.result ≡ true = search rules in
    ap (λ o. or_else o (Some c.args.number)) (none_again before c.args.digests.items (c.are_apart.ensures apart) is)

pub returns : goal.returns
returns c = λ before left whole at is.
    again_to (lines_of c.args.text.now) before left c.args.number whole at ∙ ap (λ o. Some (lesser o c.args.number)) (sym c.in_ok-again.ensures) ∙ ap Some (sym c.lesser.ensures)
