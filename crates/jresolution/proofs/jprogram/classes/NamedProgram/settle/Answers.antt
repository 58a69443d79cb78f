use Rattle.std.proofs.Common.{List, Option, ℕ, subst, sym}
use Rattle.std.specs.Prelude.{IfSome}
use Rattle.jclass.specs.declared.class.ClassParts.{ClassParts}
use Rattle.jresolution.specs.jprogram.ImplementedInterfaces.{AreRows, IsRowOf}
use Rattle.jresolution.proofs.JprogramProofs.ImplementationRows.{keeps_set, part_at, readies_none, readies_set, sets_row}
use Rattle.jresolution.proofs.jprogram.classes.NamedProgram.settle.Goals as goal

pub returns-in-Some-made-clause-rows : goal.returns-in-Some-made-clause-rows
returns-in-Some-made-clause-rows c =
    let right = subst (λ (o : Option (List ℕ)). IfSome o (IsRowOf c.args.self.now c.parts-2.result.now)) c.in-Some-made.is c.in_ok-made.ensures.right in
    subst (λ (rs : List (Option (List ℕ))). AreRows c.args.self.now rs) (sym c.set.ensures)
    (sets_row c.args.self.now c.requires.order c.args.rows.now c.args.j c.in-Some.part.now c.in-Some-made.row c.requires.rows (part_at c.args.self.now c.parts.result.now c.args.j c.in-Some.part.now c.parts.ensures.same c.in-Some.ensures.lookup.3.0 c.in-Some.ensures.lookup.1)
    (subst (λ (k : ClassParts). IsRowOf c.args.self.now k c.in-Some-made.row) c.parts-2.ensures.same right))

pub returns-in-Some-made-clause-kept : goal.returns-in-Some-made-clause-kept
returns-in-Some-made-clause-kept c = keeps_set c.args.self.now c.args.rows.now c.set.new.self c.args.j c.in-Some.part.now c.in-Some-made.row c.requires.rows (part_at c.args.self.now c.parts.result.now c.args.j c.in-Some.part.now c.parts.ensures.same c.in-Some.ensures.lookup.3.0 c.in-Some.ensures.lookup.1) c.set.ensures

pub returns-in-Some-made-clause-made : goal.returns-in-Some-made-clause-made
returns-in-Some-made-clause-made c = readies_set c.args.self.now c.args.rows.now c.set.new.self c.args.j c.in-Some.part.now c.in-Some-made.row c.requires.rows (part_at c.args.self.now c.parts.result.now c.args.j c.in-Some.part.now c.parts.ensures.same c.in-Some.ensures.lookup.3.0 c.in-Some.ensures.lookup.1) c.set.ensures

pub returns-in_default-made-clause-made : goal.returns-in_default-made-clause-made
returns-in_default-made-clause-made c = readies_none c.args.self.now c.args.rows.now c.as_slice-2.result.now c.args.j c.in-Some.part.now c.parts-2.result.now c.in_ok-made.made (part_at c.args.self.now c.parts.result.now c.args.j c.in-Some.part.now c.parts.ensures.same c.in-Some.ensures.lookup.3.0 c.in-Some.ensures.lookup.1) c.parts-2.ensures.same c.as_slice-2.ensures c.in_ok-made.ensures.made c.in_default-made.is
