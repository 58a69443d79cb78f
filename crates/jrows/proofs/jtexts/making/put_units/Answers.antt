use Rattle.jrows.proofs.JtextsProofs.TextWrites.{put_done, units_celled, units_stay}
use Rattle.jrows.proofs.jtexts.making.put_units.Goals as goal

pub returns-in-Some-clause-puts : goal.returns-in-Some-clause-puts
returns-in-Some-clause-puts c =
    put_done c.args.kind c.args.units.now c.args.heap.now c.make-made.new.self c.write_units.new.heap c.in-Some.o c.requires.holds (rw c.in-Some.is at c.make-made.ensures)
    c.write_units.ensures

pub returns-in-Some-clause-built : goal.returns-in-Some-clause-built
returns-in-Some-clause-built c =
    units_stay c.piece_laws.ensures.more c.args.kind c.args.units.now c.args.heap.now c.write_units.new.heap c.in-Some.o c.requires.holds c.requires.built
    (put_done c.args.kind c.args.units.now c.args.heap.now c.make-made.new.self c.write_units.new.heap c.in-Some.o c.requires.holds (rw c.in-Some.is at c.make-made.ensures)
    c.write_units.ensures)

pub returns-in-Some-clause-celled : goal.returns-in-Some-clause-celled
returns-in-Some-clause-celled c =
    units_celled c.celled_laws.ensures.more c.args.kind c.args.units.now c.args.heap.now c.write_units.new.heap c.in-Some.o c.requires.holds
    (put_done c.args.kind c.args.units.now c.args.heap.now c.make-made.new.self c.write_units.new.heap c.in-Some.o c.requires.holds (rw c.in-Some.is at c.make-made.ensures)
    c.write_units.ensures)
