use Rattle.std.proofs.Common.{[], ◌∷◌, length, refl, ap, ◌∙◌}
use Rattle.jresolution.proofs.JusesProofs.Spans.{grows_not}
use Rattle.jready.specs.declared.instr.Instr.TheVariants.{Off}
use Rattle.jready.proofs.TableGrowth.{grown_not}
use Rattle.jready.proofs.MethodAdditions.{bare_is, puts}
use Rattle.jready.proofs.methods.Methods.put_bare.Goals as goal

pub returns : goal.returns
returns c =
    let old = c.args.self.now in
    let p = c.args.known.now.p.now in
    let types = c.args.known.now.uses.now.types in
    let code = c.in_ok-push.ensures.ok in
    let row = bare_is p types old.tables old.code c.push.new.self old.handlers _ c.requires.bare c.domain_at.ensures refl refl (c.in_ok-first.ensures
    ∙ ap length c.as_slice.ensures) code (c.in_ok-handlers.ensures ∙ ap length c.as_slice-2.ensures) refl in
    puts p types c.args.id old _ _ c.requires.are (grown_not old.tables) (Off ∷ [], code) (grows_not old.handlers) c.in_ok-push-2.ensures.ok refl row
