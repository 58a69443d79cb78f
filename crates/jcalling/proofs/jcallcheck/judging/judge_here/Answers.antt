use Rattle.std.proofs.Common.{refl}
use Rattle.jlib.specs.declared.classes.LibClass.TheVariants as lib
use Rattle.jsemantics.specs.jmachine.Security.{denial_message}
use Rattle.jstepping.specs.jcore.MachineInvariants.{classes_of}
use Rattle.jcalling.proofs.JcallcheckProofs.CheckOutcomes.{judged_on}
use Rattle.jcalling.proofs.JcallcheckProofs.InvariantPreservation.{few_of, machine_with, stand_of, told_stays}
use Rattle.jcalling.proofs.jcallcheck.judging.judge_here.Goals as goal

pub judge-requires-clause-few : goal.judge-requires-clause-few
judge-requires-clause-few g c = few_of c.args.m.now c.args.count c.in-Some.frames c.requires.calling c.in-Some.is

pub judge-requires-clause-place : goal.judge-requires-clause-place
judge-requires-clause-place g c = (stand_of c.args.m.now c.args.count c.in-Some.frames c.requires.calling c.in-Some.is).0.place

pub judge-requires-clause-stand : goal.judge-requires-clause-stand
judge-requires-clause-stand g c = stand_of c.args.m.now c.args.count c.in-Some.frames c.requires.calling c.in-Some.is

pub returns : goal.returns
returns g c =
    let m = c.args.m.now in
    let f = c.in-Some.frames in
    let h = c.judge.new.frames in
    let k = c.judge.new.heap in
    let judged = c.in_ok-way-in-Some.ensures in
    let same = told_stays m.calls m.fixed.shapes.now m.heap k lib.AccessControlException (denial_message c.args.asked.now) judged.heap in record {
      change = record {
        frames = h;
        heap = k;
        is = refl;
        standing = judged.stand (classes_of m) (stand_of m c.args.count f c.requires.calling c.in-Some.is);
        machine = machine_with m h k c.requires.calling.machine judged.built judged.celled same;
        lives = c.requires.calling.lives;
      };
      judges = judged_on m c.known.result.now c.told_law.ensures c.known.ensures f h k c.args.count c.in-Some.is c.args.asked.now c.args.verdict c.in_ok-way-in-Some.way
          judged.row;
    }
