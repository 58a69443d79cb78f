use Rattle.std.proofs.Common.{◌≡◌, ◌+◌, ℕ, [], ◌∷◌, length, refl, sym, ap, subst, ◌∙◌}
use Rattle.jresolution.specs.juses.InternedInstructions.{seen_code}
use Rattle.jresolution.proofs.JusesProofs.Spans.{grows_on}
use Rattle.jready.specs.declared.instr.Instr.TheVariants.{Off}
use Rattle.jready.specs.CodeLayout.{AreLaid}
use Rattle.jready.proofs.MethodAdditions.{coded_is, puts}
use Rattle.jready.proofs.methods.Methods.put_coded.Goals as goal

pub returns : goal.returns
returns c =
    let old = c.args.self.now in
    let p = c.args.known.now.p.now in
    let types = c.args.known.now.uses.now.types in
    let code = c.in_ok-push.ensures.ok in
    let put = c.in_ok-put_ops.ensures in
    let first : c.in_ok-first.first ≡ length old.code = c.in_ok-first.ensures ∙ ap length c.as_slice.ensures in
    let laid = subst (λ (n : ℕ). AreLaid p types c.put_ops.new.tables c.args.id.class c.args.body.ops.now c.put_ops.new.code n (length c.args.body.ops.now))
    (sym first) put.laid in
    let len : length c.put_ops.new.code ≡ c.in_ok-first.first + length c.args.body.ops.now = put.count
    ∙ ap (λ (n : ℕ). n + length c.args.body.ops.now) (sym first) in
    let row = coded_is p types c.put_ops.new.tables c.put_ops.new.code c.push.new.self c.put_handlers.new.rows _
    (seen_code c.args.body) c.requires.own c.domain_at.ensures refl refl refl laid len code c.in_ok-handlers.ensures.there c.in_ok-handlers.ensures.are in
    puts p types c.args.id old _ _ c.requires.are put.grown (grows_on old.code c.put_ops.new.code c.push.new.self put.behind (Off ∷ [], code))
    c.in_ok-handlers.ensures.behind c.in_ok-push-2.ensures.ok refl row
