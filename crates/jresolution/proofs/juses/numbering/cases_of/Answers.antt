use Rattle.std.proofs.Common.{rules, ℤ, Some, ap, sym, ◌∙◌}
use Rattle.std.specs.Prelude.{option_map}
use Rattle.jground.specs.jbase.ListMaps.{each_some}
use Rattle.jresolution.specs.juses.IndexedInstructions.{cases, target}
use Rattle.jresolution.specs.juses.InternedInstructions.{keys_from}
use Rattle.jresolution.proofs.JusesProofs.BranchNumbers.{keyed_is}
use Rattle.jresolution.proofs.juses.numbering.cases_of.Goals as goal

pub returns-in-Some : goal.returns-in-Some
returns-in-Some c =
    ap (λ (low : ℤ). option_map (keys_from low) (Some c.in-Some.numbers)) (search rules)
    ∙ ap (option_map (keys_from c.in-Table.table.low)) (sym c.in-Some.is ∙ c.in_ok-numbers-in-Table.ensures ∙ ap (each_some (target c.args.ops.now c.args.at)) c.as_slice.ensures)
    ∙ keyed_is c.args.ops.now c.args.at c.in-Table.table.low c.in-Table.table.branches
    ∙ ap (cases c.args.ops.now c.args.at) (sym c.in-Table.is)

pub returns-in-None : goal.returns-in-None
returns-in-None c =
    ap (option_map (keys_from c.in-Table.table.low)) (sym c.in-None.is ∙ c.in_ok-numbers-in-Table.ensures ∙ ap (each_some (target c.args.ops.now c.args.at)) c.as_slice.ensures)
    ∙ keyed_is c.args.ops.now c.args.at c.in-Table.table.low c.in-Table.table.branches
    ∙ ap (cases c.args.ops.now c.args.at) (sym c.in-Table.is)
