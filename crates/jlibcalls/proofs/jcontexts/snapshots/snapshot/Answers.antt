use Rattle.std.proofs.Common.{arith}
use Rattle.jlibcalls.proofs.JcontextsProofs.SnapshotOutcomes.{same_held, snaps, snaps_full, snaps_held}
use Rattle.jlibcalls.proofs.jcontexts.snapshots.snapshot.Goals as goal

pub returns-then-left-lt2-clause-row : goal.returns-then-left-lt2-clause-row
returns-then-left-lt2-clause-row g c =
    snaps_full c.args.number c.args.count c.args.frames.now c.args.frames.now c.args.kept.now c.args.kept.now c.args.heap.now c.args.heap.now
    (omega (arith, c.if-left-lt2.true, c.left.ensures))

pub returns-clause-row : goal.returns-clause-row
returns-clause-row g c =
    snaps c.args.number c.in_ok-place.place c.in_ok-object.object c.args.kept.now c.keep.new.kept c.args.heap.now c.make_context.new.heap c.in_ok-place.ensures
    c.in_ok-object.ensures.made c.args.count c.args.frames.now c.give.new.frames (omega (arith, c.if-left-lt2.false, c.left.ensures)) c.in_ok-give.ensures

pub returns-then-left-lt2-clause-held : goal.returns-then-left-lt2-clause-held
returns-then-left-lt2-clause-held g c = same_held c.args.heap.now

pub returns-clause-held : goal.returns-clause-held
returns-clause-held g c =
    snaps_held c.in_ok-place.place c.in_ok-object.object c.args.heap.now c.make_context.new.heap c.in_ok-object.ensures.made
