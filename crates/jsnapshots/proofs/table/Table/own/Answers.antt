use Rattle.std.proofs.Common.{[], ◌∷◌}
use Rattle.jsnapshots.specs.declared.entry.KeptEntry.TheVariants.{Privilege}
use Rattle.jsnapshots.proofs.Meanings.{marked_stands}
use Rattle.jsnapshots.proofs.table.Table.own.Goals as goal

pub returns-clause-stands : goal.returns-clause-stands
returns-clause-stands c =
    marked_stands c.args.self.now c.add.new.self c.args.given c.args.limits c.in_ok-number.number c.in_ok-number.ensures.grown c.in_ok-number.ensures.number

pub returns-clause-grown : goal.returns-clause-grown
returns-clause-grown c = (Privilege c.args.given c.args.limits ∷ [], c.in_ok-number.ensures.grown)
