use Rattle.jperm.proofs.text.set_part.Goals as goal

pub returns-in-2 : goal.returns-in-2
returns-in-2 c = rw c.in-2.is (cc (c.word_part-in-2.ensures, c.has_all-read.ensures, c.has_all-write.ensures, c.bit.ensures, c.bit-2.ensures))
