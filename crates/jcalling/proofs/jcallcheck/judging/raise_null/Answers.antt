use Rattle.std.proofs.Common.{refl}
use Rattle.jstepping.specs.jcore.MachineInvariants.{classes_of}
use Rattle.jcalling.proofs.JcallcheckProofs.CheckOutcomes.{leaves_without, raised_on, stand_without}
use Rattle.jcalling.proofs.JcallcheckProofs.InvariantPreservation.{few_of, machine_with, null_stays, stand_of}
use Rattle.jcalling.proofs.jcallcheck.judging.raise_null.Goals as goal

pub shrink-requires : goal.shrink-requires
shrink-requires g c = few_of c.args.m.now c.args.count c.in-Some.frames c.requires.calling c.in-Some.is

pub raise-requires-clause-stand : goal.raise-requires-clause-stand
raise-requires-clause-stand g c =
    let m = c.args.m.now in
    stand_without c.args.count c.in-Some.frames c.shrink.new.self (classes_of m) c.shrink.ensures
    (stand_of m c.args.count c.in-Some.frames c.requires.calling c.in-Some.is)

pub returns : goal.returns
returns g c =
    let m = c.args.m.now in
    let f = c.in-Some.frames in
    let u = c.shrink.new.self in
    let h = c.raise.new.frames in
    let k = c.raise.new.heap in
    let raised = c.in_ok-way-in-Some.ensures in
    let leaves = leaves_without c.args.count f u h c.shrink.ensures raised.stand in
    let same = null_stays m.calls m.fixed.shapes.now m.heap k c.heap_laws.ensures.makes c.requires.calling.machine.built raised.heap in record {
      change = record {
        frames = h;
        heap = k;
        is = refl;
        standing = leaves (classes_of m) (stand_of m c.args.count f c.requires.calling c.in-Some.is);
        machine = machine_with m h k c.requires.calling.machine raised.built raised.celled same;
        lives = c.requires.calling.lives;
      };
      raises = raised_on m c.known.result.now c.told_law.ensures c.known.ensures f h k c.args.count c.in-Some.is c.check_laws.ensures.null u c.in_ok-way-in-Some.way
          c.shrink.ensures raised.row;
    }
