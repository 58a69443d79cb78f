use Rattle.std.proofs.Common.{◌≡◌, ◌∙◌, ℕ, List, Some, length, sym, subst}
use Rattle.std.specs.Ordering.{nat_cmp}
use Rattle.std.specs.Cmp.Lexicographic.{slice_cmp}
use Rattle.std.specs.BTreeMap as tree
use Rattle.jperm.specs.declared.permission.Permission.{Permission}
use Rattle.jdomain.specs.GrantShares.{marks, number_at}
use Rattle.jdomain.proofs.SharedLists.{is_last, keeps_more, knows_more}
use Rattle.jdomain.proofs.lists.number_of.Goals as goal

pub returns-in-Some-clause-list : goal.returns-in-Some-clause-list
returns-in-Some-clause-list c =
    let key : c.as_slice.result.now ≡ marks c.args.shares.now c.args.source.now = c.as_slice.ensures.value ∙ c.in_ok-marks.ensures in
    c.requires c.args.source.now c.in-Some.number.now (subst (λ (t : List ℕ). number_at c.args.known.now t ≡ Some c.in-Some.number.now) key (sym c.in-Some.ensures.value))

pub returns-clause-list : goal.returns-clause-list
returns-clause-list c = rw (c.in_ok-push.ensures.ok, c.as_slice-number.ensures) (is_last c.args.shares.now c.args.all.now c.in_ok-list_of.field-0 c.args.source.now c.in_ok-list_of.ensures)

pub returns-clause-knows : goal.returns-clause-knows
returns-clause-knows c =
    let updates = subst (λ (l : List (List Permission)). tree.UpdatesBy (λ x y. slice_cmp nat_cmp x.items y.items) (λ k. slice_cmp nat_cmp c.in_ok-marks.marks.items k.items) c.args.known.now c.insert.new.self (Some (length l))) c.as_slice-number.ensures c.in_ok-insert.ensures.updates in
    rw c.in_ok-push.ensures.ok (knows_more c.args.shares.now c.args.all.now c.in_ok-list_of.field-0 c.args.source.now c.in_ok-marks.marks c.args.known.now c.insert.new.self c.in_ok-marks.ensures c.in_ok-list_of.ensures c.requires updates)

pub returns-clause-keeps : goal.returns-clause-keeps
returns-clause-keeps c = rw c.in_ok-push.ensures.ok (keeps_more c.args.all.now c.in_ok-list_of.field-0)
