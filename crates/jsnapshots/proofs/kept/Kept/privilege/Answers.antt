use Rattle.std.proofs.Common.{◌∙◌, ap}
use Rattle.jdomain.specs.DomainStacks.{Privileged}
use Rattle.jsnapshots.specs.SnapshotMeanings.{given_at, things}
use Rattle.jsnapshots.proofs.Paths.{path_grown, keeps_from}
use Rattle.jsnapshots.proofs.kept.Kept.privilege.Goals as goal

pub invariant_of-self-2 : goal.invariant_of-self-2
invariant_of-self-2 c =
    path_grown c.self.inside.table c.privilege.new.self c.in_ok-number.ensures.grown.0 c.self.inside.path.under c.self.inside.path.frames.items
    c.in_ok-number.ensures.grown.1 c.self.invariant.0 c.self.invariant.1

pub returns-clause-stands : goal.returns-clause-stands
returns-clause-stands c =
    c.in_ok-number.ensures.stands ∙ ap (λ l. Privileged (given_at (things l) c.args.given) c.in_ok-limits.limits) c.self.view_is
    ∙ ap (Privileged (given_at (things c.args.self.now) c.args.given)) c.in_ok-limits.ensures

pub returns-clause-earlier : goal.returns-clause-earlier
returns-clause-earlier c =
    keeps_from c.args.self.now c.self.inside.table c.privilege.new.self c.in_ok-number.ensures.grown.0 c.self.view_is c.in_ok-number.ensures.grown.1
