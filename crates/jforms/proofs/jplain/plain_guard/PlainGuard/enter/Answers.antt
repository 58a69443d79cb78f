use Rattle.std.proofs.Common.{◌∙◌, List, refl, ap, subst}
use Rattle.jctx.specs.declared.item.Item.{Item}
use Rattle.jinterned.specs.InternedContexts.{HoldsEntered}
use Rattle.jforms.specs.jplain.PlainGuards.{Plains}
use Rattle.jforms.proofs.JplainProofs.ContextTableGrowth.{grown_same, grown_entered, is_entered}
use Rattle.jforms.proofs.jplain.plain_guard.PlainGuard.enter.Goals as goal

pub returns-in_err-made-clause-grown : goal.returns-in_err-made-clause-grown
returns-in_err-made-clause-grown c = grown_same c.args.self.now.contexts c.enter.new.self (c.in_err-made.ensures.err ∙ ap (λ (p : Plains). p.contexts) c.self.view_is)

pub returns-clause-context : goal.returns-clause-context
returns-clause-context c =
    let holds =
    subst (λ (cs : List (List Item)). HoldsEntered cs c.enter.new.self c.args.n c.args.domain c.in_ok-made.made) (ap (λ (p : Plains). p.contexts) c.self.view_is) c.in_ok-made.ensures.ok in
    (c.in_ok-made.made, refl, is_entered c.args.self.now.contexts c.enter.new.self c.args.n c.args.domain c.in_ok-made.made holds)

pub returns-clause-grown : goal.returns-clause-grown
returns-clause-grown c =
    let holds =
    subst (λ (cs : List (List Item)). HoldsEntered cs c.enter.new.self c.args.n c.args.domain c.in_ok-made.made) (ap (λ (p : Plains). p.contexts) c.self.view_is) c.in_ok-made.ensures.ok in
    grown_entered c.args.self.now.contexts c.enter.new.self c.args.n c.args.domain c.in_ok-made.made c.requires holds
