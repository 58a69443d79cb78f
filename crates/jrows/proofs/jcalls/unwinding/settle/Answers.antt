use Rattle.std.proofs.Common.{◌≡◌, Some, None, [], rules}
use Rattle.jruntime.specs.jstate.FrameLists.{framed}
use Rattle.jrows.proofs.JcallsProofs.UnwoundFrames.{goes_on, none_handles, one_handles, stands_below, stands_same}
use Rattle.jrows.proofs.jcalls.unwinding.settle.Goals as goal

pub returns-in-Some-clause-row : goal.returns-in-Some-clause-row
returns-in-Some-clause-row g c =
    let goes = g.H.Handlers.goes c.args.handlers.now in
    let newest = c.loop-to.frames.newest in
    let some : Some c.in-Some.to ≡ goes newest.method newest.place = search rules in
    one_handles goes c.args.frames.now c.loop-to.frames c.in-Some.to c.loop-to.invariant.0 some

pub returns-then-not-leave-clause-row : goal.returns-then-not-leave-clause-row
returns-then-not-leave-clause-row g c =
    let goes = g.H.Handlers.goes c.args.handlers.now in
    let newest = c.loop-to.frames.newest in
    let none : None ≡ goes newest.method newest.place = search rules in
    let last : c.loop-to.frames.below ≡ [] = search rules in
    none_handles goes c.args.frames.now c.loop-to.frames c.leave.new.self c.loop-to.invariant.0 none last

pub returns-then-not-leave-clause-stand : goal.returns-then-not-leave-clause-stand
returns-then-not-leave-clause-stand g c classes s =
    let same : c.leave.new.self ≡ c.loop-to.frames = search rules in
    stands_same (g.H.Handlers.goes c.args.handlers.now) classes c.loop-to.frames c.leave.new.self same (c.loop-to.invariant.1 classes s)

pub loop-to-preserved : goal.loop-to-preserved
loop-to-preserved g c =
    let goes = g.H.Handlers.goes c.args.handlers.now in
    let newest = c.loop-to.frames.newest in
    let none : None ≡ goes newest.method newest.place = search rules in
    let left : framed c.loop-to.frames.below ≡ Some c.leave.new.self = search rules in (
      goes_on goes c.args.frames.now c.loop-to.frames c.leave.new.self c.loop-to.invariant.0 none left,
      λ classes s. stands_below goes classes c.loop-to.frames c.leave.new.self left (c.loop-to.invariant.1 classes s),
    )
