use Rattle.std.proofs.Common.{rules, ℕ, ap, sym, ◌∙◌}
use Rattle.std.specs.Prelude.{option_map}
use Rattle.jresolution.specs.declared.juses.numbered.Key.{Key}
use Rattle.jresolution.specs.juses.IndexedInstructions.{target}
use Rattle.jresolution.proofs.juses.numbering.key_of.Goals as goal

pub returns-in-None : goal.returns-in-None
returns-in-None c = ap (option_map {T = ℕ} {U = Key} (λ to. record { key = c.args.case.now.key; to = to })) (sym c.in-None.is ∙ c.target.ensures ∙ ap (target c.args.ops.now c.args.at) (search rules))
