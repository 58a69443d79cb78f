use Rattle.std.proofs.Common.{List, [], ◌∷◌, length, sym, subst}
use Rattle.jsnapshots.specs.declared.entry.KeptEntry.{KeptEntry}
use Rattle.jsnapshots.specs.SnapshotEntries.{EntryBelow}
use Rattle.jsnapshots.proofs.MarkResolution.{back_more}
use Rattle.jsnapshots.proofs.Meanings.{plain_grown}
use Rattle.jsnapshots.proofs.table.Table.add.Goals as goal

pub invariant_of-self-2 : goal.invariant_of-self-2
invariant_of-self-2 c = (
  back_more c.self.inside.entries.items c.push.new.self.items c.args.entry c.self.invariant.0
      (subst (λ (l : List KeptEntry). EntryBelow (length l) c.args.entry) (sym c.self.view_is) c.requires) c.in_ok-push.ensures.items,
  plain_grown c.self.inside.entries.items c.push.new.self.items (c.args.entry ∷ []) c.self.inside.plain c.in_ok-push.ensures.items c.self.invariant.1,
)

pub returns-clause-back : goal.returns-clause-back
returns-clause-back c =
    back_more c.self.inside.entries.items c.push.new.self.items c.args.entry c.self.invariant.0
    (subst (λ (l : List KeptEntry). EntryBelow (length l) c.args.entry) (sym c.self.view_is) c.requires) c.in_ok-push.ensures.items
