use Rattle.std.proofs.Common.{List, sym, subst}
use Rattle.jsnapshots.specs.declared.path.NumberedFrame.{NumberedFrame}
use Rattle.jsnapshots.specs.SnapshotPath.{Lies}
use Rattle.jsnapshots.proofs.Paths.{lies_take}
use Rattle.jsnapshots.proofs.path.Path.begin.Goals as goal

pub returns-clause-lies : goal.returns-clause-lies
returns-clause-lies c entries lies =
    subst (λ (l : List NumberedFrame). Lies entries c.args.self.now.under l) (sym c.truncate.ensures.items)
    (lies_take entries c.common-n.result c.args.self.now.under c.args.self.now.frames.items lies)
