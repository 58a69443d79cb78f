use Rattle.std.proofs.Common.{◌≡◌, None, rules}
use Rattle.std.specs.Prelude.{slice_get, true, false}
use Rattle.jrows.specs.jobjs.ReferenceBranches.{null_test, ref_in}
use Rattle.jrows.proofs.JobjsProofs.Branches.{has_one, null_done, null_none, test_not}
use Rattle.jrows.proofs.jobjs.branching.if_null.Goals as goal

pub returns-then-not-serve-clause-row : goal.returns-then-not-serve-clause-row
returns-then-not-serve-clause-row g c s =
    let serve : c.args.serve ≡ false = search rules in
    rw serve (test_not c.args.frames.now.newest s c.args.to (null_test c.args.null) c.args.frames.now.newest)

pub returns-in_default-clause-row : goal.returns-in_default-clause-row
returns-in_default-clause-row g c s =
    let serve : c.args.serve ≡ true = search rules in
    let none : ref_in (slice_get c.args.frames.now.newest.operands 0) ≡ None = search rules in
    rw serve (null_none c.args.frames.now.newest s c.args.to c.args.null c.args.frames.now.newest none)

pub branch-frames-requires-clause-few : goal.branch-frames-requires-clause-few
branch-frames-requires-clause-few g c = has_one c.args.frames.now.newest.operands c.in-Some.n c.in-Some.ensures

pub returns-clause-row : goal.returns-clause-row
returns-clause-row g c s =
    let serve : c.args.serve ≡ true = search rules in
    rw (serve, c.branch-frames.ensures) (null_done c.args.frames.now.newest s c.args.to c.args.null c.way_laws.ensures c.is_null.result c.in-Some.n c.in-Some.ensures c.is_null.ensures)
