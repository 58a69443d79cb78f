use Rattle.std.proofs.Common.{sym, ◌∙◌}
use Rattle.jperm.proofs.Blanks.{ink_first}
use Rattle.jperm.proofs.action.behind_blanks.Goals as goal

pub returns-then-not-is_blank : goal.returns-then-not-is_blank
returns-then-not-is_blank c =
    sym (ink_first c.loop-first.text.now c.in-Some.rest.now c.in-Some.first.now c.in-Some.ensures.cases.0 (cc (c.is_blank.ensures, c.if-not-is_blank.true))) ∙ c.loop-first.invariant
