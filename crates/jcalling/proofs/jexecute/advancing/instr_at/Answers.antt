use Rattle.std.proofs.Common.{◌≡◌, ◌∙◌, ℕ, None, subst}
use Rattle.jresolution.specs.declared.jprogram.member.MethodId.{MethodId}
use Rattle.jsemantics.specs.jmachine.MachineSteps.{fetched}
use Rattle.jcalling.proofs.JexecuteProofs.InstructionFetch.{fetches_off, fetches_some}
use Rattle.jcalling.proofs.jexecute.advancing.instr_at.Goals as goal

pub returns-in-None : goal.returns-in-None
returns-in-None g c p fixed =
    fetches_off p c.args.fixed.now c.args.frames.now.newest fixed
    (subst (λ (m : MethodId). (place : ℕ) → fetched c.args.fixed.now.ready.now.program m place ≡ None) c.method.ensures (c.row_of.ensures.none c.in-None.is))

pub returns-in-Some : goal.returns-in-Some
returns-in-Some g c p fixed =
    fetches_some p c.args.fixed.now c.args.frames.now.newest fixed c.fetch.result c.in-Some.row.id c.place.result
    (c.in-Some.ensures.found.1 ∙ c.method.ensures) c.place.ensures c.fetch.ensures.means c.fetch.ensures.within c.fetch.ensures.exact c.fetch.ensures.next
