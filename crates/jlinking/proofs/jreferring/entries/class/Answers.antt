use Rattle.jlinking.proofs.jreferring.entries.class.Goals as goal

pub returns-clause-kept : goal.returns-clause-kept
returns-clause-kept c = record {
  classes = c.in_ok-one.ensures.kept;
  owners = c.requires.owners;
  descs = c.requires.descs;
  references = c.requires.references;
}
