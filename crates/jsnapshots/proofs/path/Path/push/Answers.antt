use Rattle.std.proofs.Common.{ℕ, List, Option, length, sym, subst}
use Rattle.jsnapshots.specs.declared.path.NumberedFrame.{NumberedFrame}
use Rattle.jsnapshots.specs.SnapshotEntries.{Below}
use Rattle.jsnapshots.specs.SnapshotPath.{Lies}
use Rattle.jsnapshots.proofs.Paths.{newest_below, lies_grown, pushed_lies}
use Rattle.jsnapshots.proofs.path.Path.push.Goals as goal

pub add-requires : goal.add-requires
add-requires c = (
  c.requires.mark,
  subst (λ (o : Option ℕ). Below (length c.args.table.now) o) (sym c.newest-older.ensures)
      (newest_below c.args.table.now c.args.self.now.under c.args.self.now.frames.items c.requires.under c.requires.lies),
)

pub returns-in_err-push-clause-lies : goal.returns-in_err-push-clause-lies
returns-in_err-push-clause-lies c =
    subst (λ (l : List NumberedFrame). Lies c.add.new.self c.args.self.now.under l) (sym c.in_err-push.ensures.items)
    (lies_grown c.args.table.now c.add.new.self _ c.args.self.now.under c.args.self.now.frames.items c.in_ok-number.ensures.grown c.requires.lies)

pub returns-clause-lies : goal.returns-clause-lies
returns-clause-lies c =
    pushed_lies c.args.table.now c.add.new.self c.args.self.now.under c.newest-older.result c.args.self.now.frames.items c.push.new.self.items c.args.mark c.in_ok-number.number
    c.requires.lies c.newest-older.ensures c.in_ok-number.ensures.grown c.in_ok-number.ensures.number c.in_ok-push.ensures.items
