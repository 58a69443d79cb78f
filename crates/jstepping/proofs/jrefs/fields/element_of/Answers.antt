use Rattle.jstepping.proofs.JrefsProofs.EntryLookup.{whole}
use Rattle.jstepping.proofs.jrefs.fields.element_of.Goals as goal

pub returns-in-Whole : goal.returns-in-Whole
returns-in-Whole c p v = rw c.in-Whole.is (whole v)
