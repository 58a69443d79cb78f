use Rattle.std.proofs.Common.{◌≡◌, None, rules}
use Rattle.std.specs.Prelude.{slice_get, true, false}
use Rattle.jrows.specs.jobjs.ReferenceBranches.{ref_in, same_test}
use Rattle.jrows.proofs.JobjsProofs.Branches.{has_two, same_alone, same_done, same_none, test_not}
use Rattle.jrows.proofs.jobjs.branching.if_same.Goals as goal

pub returns-then-not-serve-clause-row : goal.returns-then-not-serve-clause-row
returns-then-not-serve-clause-row g c s =
    let serve : c.args.serve ≡ false = search rules in
    rw serve (test_not c.args.frames.now.newest s c.args.to (same_test c.args.same) c.args.frames.now.newest)

pub returns-in_default-clause-row : goal.returns-in_default-clause-row
returns-in_default-clause-row g c s =
    let serve : c.args.serve ≡ true = search rules in
    let none : ref_in (slice_get c.args.frames.now.newest.operands 0) ≡ None = search rules in
    rw serve (same_alone c.args.frames.now.newest s c.args.to c.args.same c.args.frames.now.newest none)

pub returns-in_default-ref_at-clause-row : goal.returns-in_default-ref_at-clause-row
returns-in_default-ref_at-clause-row g c s =
    let serve : c.args.serve ≡ true = search rules in
    let none : ref_in (slice_get c.args.frames.now.newest.operands 1) ≡ None = search rules in
    rw serve (same_none c.args.frames.now.newest s c.args.to c.args.same c.args.frames.now.newest c.in-Some.b c.in-Some.ensures none)

pub branch-frames-requires-clause-few : goal.branch-frames-requires-clause-few
branch-frames-requires-clause-few g c = has_two c.args.frames.now.newest.operands c.in-Some-ref_at.a c.in-Some-ref_at.ensures

pub returns-clause-row : goal.returns-clause-row
returns-clause-row g c s =
    let serve : c.args.serve ≡ true = search rules in
    rw (serve, c.branch-frames.ensures)
    (same_done c.args.frames.now.newest s c.args.to c.args.same c.way_laws.ensures c.are_same.result c.in-Some-ref_at.a c.in-Some.b c.in-Some.ensures c.in-Some-ref_at.ensures c.are_same.ensures)
