use Rattle.std.proofs.Common.{true, false, Some}
use Rattle.jlibcalls.specs.jcontexts.KeptContexts.{with_kept}
use Rattle.jlibcalls.specs.jcontexts.Snapshots.{Snapshots}
use Rattle.jstepping.specs.jcore.MidStepMachines.{left_as}
use Rattle.jstepping.specs.jcore.MachineInvariants.{classes_of, things_of}
use Rattle.jcalling.proofs.JcallcontextProofs.CallOutcomes.{few_of, full_comes, kept_ready, of_frames, snaps_as, snaps_told, stand_of}
use Rattle.jcalling.proofs.jcallcontext.snapping.give_snapshot.Goals as goal

pub snapshot-requires-clause-few : goal.snapshot-requires-clause-few
snapshot-requires-clause-few g c = few_of c.args.m.now c.args.count c.requires _ c.in-Some.is

pub snapshot-requires-clause-place : goal.snapshot-requires-clause-place
snapshot-requires-clause-place g c = (stand_of c.args.m.now c.args.count c.requires _ c.in-Some.is).0.place

pub snapshot-requires-clause-built : goal.snapshot-requires-clause-built
snapshot-requires-clause-built g c = c.requires.machine.built

pub returns-then-not-room-clause-comes : goal.returns-then-not-room-clause-comes
returns-then-not-room-clause-comes g c =
    let m = c.args.m.now in
    let h = c.snapshot.new.frames in
    let k = c.snapshot.new.heap in
    let l = c.snapshot.new.kept in
    full_comes c.machine_laws.ensures.behind m c.args.count h c.args.number k l c.requires.machine (left_as (Some h) k (with_kept l (things_of m)) m) c.full.result
    c.full.ensures
    (of_frames (λ f. Snapshots c.args.number c.args.count f m.kept m.heap false h l k) m.guests.running.frames _ c.in-Some.is
    (snaps_as c.args.number c.args.count _ h m.kept l m.heap k c.in_ok-room-in-Some.room false c.if-not-room.true c.in_ok-room-in-Some.ensures.row))

pub returns-clause-comes : goal.returns-clause-comes
returns-clause-comes g c =
    let m = c.args.m.now in
    let h = c.snapshot.new.frames in
    let k = c.snapshot.new.heap in
    let l = c.snapshot.new.kept in
    snaps_told c.machine_laws.ensures.behind m c.args.count h c.args.number k l c.requires.machine c.new.result c.new.ensures
    (of_frames (λ f. Snapshots c.args.number c.args.count f m.kept m.heap true h l k) m.guests.running.frames _ c.in-Some.is
    (snaps_as c.args.number c.args.count _ h m.kept l m.heap k c.in_ok-room-in-Some.room true c.if-not-room.false c.in_ok-room-in-Some.ensures.row))

pub returns-clause-ready : goal.returns-clause-ready
returns-clause-ready g c =
    let m = c.args.m.now in
    let done = c.in_ok-room-in-Some.ensures in
    kept_ready m c.args.count c.requires c.snapshot.new.frames c.machine_laws.ensures.machine c.snapshot.new.heap c.snapshot.new.kept done.built done.celled done.held
    done.kept (done.stand (classes_of m) (stand_of m c.args.count c.requires _ c.in-Some.is))
