use Rattle.std.proofs.Common.{ℕ, ap, ◌∙◌}
use Rattle.jlinking.specs.jmembers.MemberDeclarations.{at_member}
use Rattle.jlinking.proofs.jmembers.phase.method_fault.Goals as goal

pub returns : goal.returns
returns c = λ before has.
    let r = c.in_ok-kind.ensures before has in
    (c.at_member.ensures ∙ ap (λ (i : ℕ). at_member i c.args.k c.in_ok-kind.kind) c.place.ensures ∙ ap (at_member c.args.texts.now.place c.args.k) r.0, r.1)
