use Rattle.jvalues.specs.declared.jops.value.Value.TheVariants.{Ref}
use Rattle.jrows.proofs.JtextsProofs.BuilderAppends.{last_there, stands}
use Rattle.jrows.proofs.JtextsProofs.BuilderRows.{builder_there}
use Rattle.jrows.proofs.jtexts.builders.last_of.Goals as goal

pub named_at-requires : goal.named_at-requires
named_at-requires c = builder_there c.args.heap.now (Ref c.args.b) c.args.b c.requires.builder

pub returns-clause-there : goal.returns-clause-there
returns-clause-there c =
    rw c.named_at.ensures (last_there c.args.heap.now c.args.b c.requires.built (stands c.args.heap.now c.args.b c.requires.builder c.requires.cell))
