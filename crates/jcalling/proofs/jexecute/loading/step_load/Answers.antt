use Rattle.std.proofs.Common.{refl}
use Rattle.std.specs.Prelude.{length}
use Rattle.jcalling.proofs.JexecuteProofs.ConstantLoads.{loaded_alike, loaded_row, loaded_stands}
use Rattle.jcalling.proofs.jexecute.loading.step_load.Goals as goal

pub load-requires-clause-place : goal.load-requires-clause-place
load-requires-clause-place g c = c.requires.stand.0.place

pub returns-clause-row : goal.returns-clause-row
returns-clause-row g c =
    loaded_row c.args.constants.now.program c.args.fixed.now c.args.index c.args.frames.now c.load.new.frames c.args.heap.now c.load.new.heap c.args.constants.now
    c.load.new.self c.in_ok-way.way c.stepped_by.result c.stepped_by.ensures c.in_ok-way.ensures.raises c.method-class.result c.method-class.ensures
    refl c.in_ok-way.ensures.row c.step_laws.ensures.at c.behind_laws.ensures c.requires.fetches c.in_ok-way.ensures.below

pub returns-clause-stand : goal.returns-clause-stand
returns-clause-stand g c =
    loaded_stands c.args.constants.now.program c.args.fixed.now c.args.index c.args.frames.now c.load.new.frames c.args.heap.now c.load.new.heap c.args.constants.now
    c.load.new.self c.in_ok-way.way c.stepped_by.result c.stepped_by.ensures c.in_ok-way.ensures.raises (length c.args.fixed.now.marks.now)
    c.in_ok-way.ensures.method c.in_ok-way.ensures.below c.requires.stand

pub returns-clause-celled : goal.returns-clause-celled
returns-clause-celled g c = c.in_ok-way.ensures.celled c.args.fixed.now.shapes.now c.requires.celled

pub returns-clause-alike : goal.returns-clause-alike
returns-clause-alike g c =
    loaded_alike c.args.constants.now.program c.args.fixed.now c.args.index c.args.frames.now c.load.new.frames c.args.heap.now c.load.new.heap c.args.constants.now
    c.load.new.self c.in_ok-way.way c.stepped_by.result c.stepped_by.ensures c.in_ok-way.ensures.raises c.method-class.result c.method-class.ensures
    refl c.in_ok-way.ensures.row c.alike_laws.ensures.rows
