use Rattle.jlibcalls.proofs.JcontextsProofs.ThreadEntries.{made_celled, made_kept}
use Rattle.jlibcalls.proofs.jcontexts.beginning.fail_beginning.Goals as goal

pub returns-clause-celled : goal.returns-clause-celled
returns-clause-celled g c =
    made_celled c.args.class c.thrown_number-number.result c.thrown_number-number.ensures c.args.heap.now c.make-made.new.self c.celled_laws.ensures.made
    c.celled_laws.ensures.wants c.make-made.result c.make-made.ensures

pub returns-clause-kept : goal.returns-clause-kept
returns-clause-kept g c =
    made_kept c.args.class c.thrown_number-number.result c.thrown_number-number.ensures c.args.heap.now c.make-made.new.self c.number_laws.ensures
    c.heap_laws.ensures.makes c.requires.built c.make-made.result c.make-made.ensures
