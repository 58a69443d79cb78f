use Rattle.std.proofs.Common.{◌≡◌, ◌*◌, ◌<◌, IfSome, None, drop}
use Rattle.jground.proofs.JbaseProofs.Loops.{behind}
use Rattle.jparts.specs.jmaps.ExpandedFrames.{expand_from}
use Rattle.jparts.proofs.JmapsProofs.FullLaws.{newest}
use Rattle.jparts.proofs.jmaps.expansion.expand.Given as goal

abbrev pub invariant-loop-i : goal.invariant-loop-i
invariant-loop-i l = record {
  near : IfSome (newest l.full.items) (λ f. f.at < l.i * 65536);
  so_far : behind l.full.items (expand_from l.first l.i (newest l.full.items) (drop l.i l.frames)) ≡ expand_from l.first 0 None l.frames;
}
