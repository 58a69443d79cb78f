use Rattle.std.proofs.Common.{◌∙◌, List, refl, ap, subst}
use Rattle.std.specs.Option.{option_copied}
use Rattle.jctx.specs.declared.item.Item.{Item}
use Rattle.jinterned.specs.InternedContexts.{HoldsPrivileged}
use Rattle.jforms.specs.jplain.PlainGuards.{Plains}
use Rattle.jforms.proofs.JplainProofs.ContextTableGrowth.{grown_same, grown_privileged, is_privileged}
use Rattle.jforms.proofs.jplain.plain_guard.PlainGuard.privilege.Goals as goal

pub returns-in_err-made-clause-grown : goal.returns-in_err-made-clause-grown
returns-in_err-made-clause-grown c = grown_same c.args.self.now.contexts c.privileged.new.self (c.in_err-made.ensures.err ∙ ap (λ (p : Plains). p.contexts) c.self.view_is)

pub returns-clause-handed : goal.returns-clause-handed
returns-clause-handed c =
    let holds =
    subst (λ (cs : List (List Item)). HoldsPrivileged cs c.privileged.new.self c.args.domain c.args.given (option_copied c.args.limits) c.args.n c.in_ok-made.made)
    (ap (λ (p : Plains). p.contexts) c.self.view_is)
    c.in_ok-made.ensures.ok in
    (c.in_ok-made.made, refl, is_privileged c.args.self.now.contexts c.privileged.new.self c.args.domain c.args.given (option_copied c.args.limits) c.args.n c.in_ok-made.made holds)

pub returns-clause-grown : goal.returns-clause-grown
returns-clause-grown c =
    let holds =
    subst (λ (cs : List (List Item)). HoldsPrivileged cs c.privileged.new.self c.args.domain c.args.given (option_copied c.args.limits) c.args.n c.in_ok-made.made)
    (ap (λ (p : Plains). p.contexts) c.self.view_is)
    c.in_ok-made.ensures.ok in
    grown_privileged c.args.self.now.contexts c.privileged.new.self c.args.domain c.args.given (option_copied c.args.limits) c.args.n c.in_ok-made.made c.requires.there c.requires.given holds
