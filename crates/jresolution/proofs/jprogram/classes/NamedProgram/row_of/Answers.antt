use Rattle.std.proofs.Common.{List, Option, ℕ, ap, subst, ◌∙◌}
use Rattle.jresolution.specs.jprogram.BitSets.{has}
use Rattle.jresolution.specs.jprogram.ImplementedInterfaces.{Adds, above_has}
use Rattle.jresolution.proofs.JprogramProofs.ImplementationRows.{row_made}
use Rattle.jresolution.proofs.jprogram.classes.NamedProgram.row_of.Goals as goal

pub returns-clause-right : goal.returns-clause-right
returns-clause-right c = λ i k e.
    ap (λ (row : List ℕ). has row k) c.in_ok-exact.ensures
    ∙ row_made c.args.self.now c.args.class.now c.new-row.result c.add_faces.new.row c.add_above.new.row c.new-row.ensures (c.in_ok-add_faces.ensures.added c.if-not-branch.false)
    (subst (λ (o : Option (List ℕ)). Adds c.args.self.now (λ i. above_has c.args.self.now i o) c.add_faces.new.row c.add_above.new.row) c.super_name.ensures (c.in_ok-add_above.ensures.added c.if-not-branch-2.false)) i k e
