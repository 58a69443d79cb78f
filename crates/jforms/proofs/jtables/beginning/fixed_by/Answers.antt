use Rattle.std.proofs.Common.{◌∙◌, length, ap, subst, sym}
use Rattle.std.proofs.lemmas.List.{length-map}
use Rattle.jready.specs.declared.tables.Tables.{Tables}
use Rattle.jserving.specs.jcells.CellLayout.{AreTied}
use Rattle.jforms.proofs.jtables.beginning.fixed_by.Goals as goal

pub returns-clause-fixed : goal.returns-clause-fixed
returns-clause-fixed g c p mark f = record {
  ready = f.ready;
  tables = c.tables.ensures;
  ancestors = f.ancestors;
  marks = ap length (c.as_slice.ensures ∙ f.marks) ∙ length-map p.parts (λ part. mark part.domain);
  numbers = f.numbers;
}

pub returns-clause-tied : goal.returns-clause-tied
returns-clause-tied g c p mark f = subst (λ (t : Tables). AreTied p t c.args.base.now.shaped.shapes) (sym c.tables.ensures) f.tied
