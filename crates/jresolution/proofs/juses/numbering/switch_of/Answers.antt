use Rattle.std.proofs.Common.{rules, ℕ, Option, ap, ◌∙◌}
use Rattle.std.specs.Prelude.{option_and_then, option_map}
use Rattle.jresolution.specs.juses.IndexedInstructions.{Switch, default, target}
use Rattle.jresolution.specs.juses.InternedInstructions.{keys_of}
use Rattle.jresolution.proofs.juses.numbering.switch_of.Goals as goal

pub returns : goal.returns
returns c =
    c.switch_with.ensures
    ∙ ap (λ (o : Option ℕ). option_and_then (λ found. option_map (Switch found) o) (option_map keys_of c.in_ok-keys.keys)) (c.target-other.ensures ∙ ap (target c.args.ops.now c.args.at) (search rules))
    ∙ ap (option_and_then (λ found. option_map (Switch found) (target c.args.ops.now c.args.at (default c.args.switch.now)))) c.in_ok-keys.ensures
