use Rattle.std.proofs.Common.{refl}
use Rattle.jstepping.specs.jopen.InitialMachines.{Opens}
use Rattle.jstepping.specs.declared.jcore.machine.Machine.{Machine}
use Rattle.jforms.proofs.JtablesProofs.EngineStarts.{begun_by}
use Rattle.jforms.proofs.jtables.beginning.begin.Goals as goal

pub open-requires-clause-tied : goal.open-requires-clause-tied
open-requires-clause-tied g c = c.requires.base.1.tied

pub open-requires-clause-strings : goal.open-requires-clause-strings
open-requires-clause-strings g c = c.requires.base.1.strings

pub open-requires-clause-coded : goal.open-requires-clause-coded
open-requires-clause-coded g c = rw c.requires.main c.requires.coded

pub returns-in_default : goal.returns-in_default
returns-in_default g c = rw c.in_default.is at c.in_ok-opened.ensures

pub returns : goal.returns
returns g c =
    let p = c.args.base.now.ready.program in
    let mark = c.requires.base.0 in
    let f = c.requires.base.1 in
    let base = c.args.base.now in
    let opens : Opens base.ready.program base.shaped.shapes c.args.first c.args.plan.now.heap c.in-Some.opened = rw c.in-Some.is at c.in_ok-opened.ensures in
    let guests = c.in-Ok-open.ensures in
    let m : Machine g.row.M.Denot = record {
      fixed = c.fixed_by.result;
      plan = c.args.plan;
      side = c.args.side;
      guests = c.in-Ok-open.guests;
      heap = c.in-Some.opened.heap;
      constants = c.in-Some.opened.constants;
      permissions = c.new.result;
      kept = c.new-2.result;
      calls = c.in-Ok.calls;
    } in
    begun_by p mark base c.args.first c.args.plan.now c.args.side c.in-Some.opened m f c.requires.coded c.requires.main opens
    (c.fixed_by.ensures.fixed p mark f) (c.fixed_by.ensures.tied p mark f) c.fixed_by.ensures.shapes c.fixed_by.ensures.marks c.fixed_by.ensures.depth c.requires.files
    guests.are guests.one guests.now guests.alone guests.lives guests.table guests.turns guests.at c.in-Ok.ensures refl refl refl refl c.new.ensures c.new-2.ensures
