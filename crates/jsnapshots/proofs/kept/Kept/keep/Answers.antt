use Rattle.std.proofs.Common.{◌≡◌, ◌∙◌, ℕ, List, [], ◌∷◌, Option, length, refl, ap, sym, subst}
use Rattle.jsnapshots.specs.declared.entry.KeptEntry.{KeptEntry}
use Rattle.jsnapshots.specs.declared.entry.KeptEntry.TheVariants.{Empty}
use Rattle.jsnapshots.specs.SnapshotEntries.{Below}
use Rattle.jsnapshots.specs.SnapshotPath.{newest}
use Rattle.jsnapshots.specs.SnapshotMeanings.{stack_at, stack_of, things}
use Rattle.jsnapshots.proofs.Paths.{path_grown, below_grown, newest_below, keep_stands, empty_kept}
use Rattle.jsnapshots.proofs.kept.Kept.keep.Goals as goal
use Rattle.jsnapshots.proofs.kept.Kept.keep.Goals.{In_ok-extend}

-- the stack under the frames is that of an earlier number
under_below : (c : In_ok-extend) → Below (length c.extend.new.table) c.extend.new.self.under
under_below c =
    below_grown c.self.inside.table c.extend.new.table c.extend.new.self.under c.args.inherited c.in_ok-extend.ensures.grown
    (c.in_ok-extend.ensures.under ∙ c.begin-n.ensures.under)
    (subst (λ (l : List KeptEntry). Below (length l) c.args.inherited) (sym c.self.view_is) c.requires.inherited)

-- the newest frame's number stands for the stack that is kept
newest_stands : (c : In_ok-extend)
    → stack_at (things c.extend.new.table) (newest c.extend.new.self.under c.extend.new.self.frames.items) ≡ stack_of (things c.args.self.now) c.args.marks.now c.args.inherited
newest_stands c =
    keep_stands c.args.self.now c.self.inside.table c.extend.new.table c.extend.new.self.under _ c.args.inherited c.extend.new.self.frames.items _ c.args.marks.now c.begin-n.result _
    c.in_ok-extend.ensures.back c.self.view_is c.in_ok-extend.ensures.grown c.requires.marks c.requires.inherited
    c.in_ok-extend.ensures.under c.begin-n.ensures.under c.in_ok-extend.ensures.lies c.in_ok-extend.ensures.marks c.begin-n.ensures.same refl

pub returns-in-Some-clause-given : goal.returns-in-Some-clause-given
returns-in-Some-clause-given c =
    subst (λ (o : Option ℕ). Below (length c.extend.new.table) o) (sym c.newest.ensures ∙ c.in-Some.is)
    (newest_below c.extend.new.table c.extend.new.self.under c.extend.new.self.frames.items
    (under_below (goal.at.returns-in-Some-clause-given c).In_ok-extend) c.in_ok-extend.ensures.lies)

pub returns-in-Some-clause-stands : goal.returns-in-Some-clause-stands
returns-in-Some-clause-stands c =
    ap (stack_at (things c.extend.new.table)) (sym c.in-Some.is ∙ c.newest.ensures)
    ∙ newest_stands (goal.at.returns-in-Some-clause-stands c).In_ok-extend

pub invariant_of-self-2 : goal.invariant_of-self-2
invariant_of-self-2 c =
    path_grown c.extend.new.table c.add.new.self (Empty ∷ []) c.extend.new.self.under c.extend.new.self.frames.items c.in_ok-number.ensures.grown
    (under_below (goal.at.invariant_of-self-2 c).In_ok-extend) c.in_ok-extend.ensures.lies

pub returns-clause-stands : goal.returns-clause-stands
returns-clause-stands c =
    empty_kept c.extend.new.table c.add.new.self c.in_ok-number.number c.in_ok-number.ensures.grown c.in_ok-number.ensures.number
    ∙ ap (stack_at (things c.extend.new.table)) (sym c.in_default.is ∙ c.newest.ensures)
    ∙ newest_stands (goal.at.returns-clause-stands c).In_ok-extend
