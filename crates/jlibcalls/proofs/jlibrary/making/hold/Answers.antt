use Rattle.std.proofs.Common.{◌≡◌, ◌+◌, true, false, length, rules}
use Rattle.jlibcalls.specs.jlibrary.HeldPermissions.{is_permission}
use Rattle.jlibcalls.proofs.JlibraryProofs.PermissionHolders.{none_held, one_held, stay_held}
use Rattle.jlibcalls.proofs.jlibrary.making.hold.Goals as goal

pub returns-then-not-is_permission-clause-row : goal.returns-then-not-is_permission-clause-row
returns-then-not-is_permission-clause-row g c =
    let no : is_permission c.args.heap.now c.args.o ≡ false = search rules in
    none_held _ c.heap_laws.ensures.each c.args.heap.now c.args.o c.args.permission c.args.permissions.now no

pub returns-clause-row : goal.returns-clause-row
returns-clause-row g c =
    let yes : is_permission c.args.heap.now c.args.o ≡ true = search rules in
    let n : c.in-Some.n ≡ length c.args.permissions.now + 1 = rw c.in-Some.is at c.next_number.ensures in
    rw (c.in_ok-push.ensures.ok, c.set_cell.ensures, n)
    (one_held _ c.heap_laws.ensures.each c.heap_laws.ensures.writes c.ran_laws.ensures c.args.heap.now c.args.o c.args.permission c.args.permissions.now c.requires.cell yes)

pub returns-clause-held : goal.returns-clause-held
returns-clause-held g c p shapes =
    let yes : is_permission c.args.heap.now c.args.o ≡ true = search rules in
    let n : c.in-Some.n ≡ length c.args.permissions.now + 1 = rw c.in-Some.is at c.next_number.ensures in
    rw (c.in_ok-push.ensures.ok, c.set_cell.ensures, n)
    (stay_held c.heap_laws.ensures.writes c.args.heap.now c.args.o c.args.permission c.args.permissions.now c.requires.cell yes p shapes)
