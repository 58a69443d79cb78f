use Rattle.std.proofs.Common.{◌≡◌, rules}
use Rattle.std.specs.Prelude.{true, false}
use Rattle.jrows.proofs.JobjsProofs.InstanceTests.{named_front, null_front, test_done, test_none, test_not, test_null}
use Rattle.jrows.proofs.jobjs.casts.instance_of.Goals as goal

pub returns-then-not-serve-clause-row : goal.returns-then-not-serve-clause-row
returns-then-not-serve-clause-row g c t s =
    let serve : c.args.serve ≡ false = search rules in
    rw serve (test_not c.args.frames.now.newest s t c.args.is c.args.frames.now.newest)

pub returns-in-Other-clause-row : goal.returns-in-Other-clause-row
returns-in-Other-clause-row g c t s =
    let serve : c.args.serve ≡ true = search rules in
    rw serve (test_none c.args.frames.now.newest s t c.args.is c.args.frames.now.newest c.in-Other.ensures)

pub give_one-requires-clause-few : goal.give_one-requires-clause-few
give_one-requires-clause-few g c = null_front c.args.frames.now.newest.operands c.in-Null.ensures

pub give_one-requires-in-Object-clause-few : goal.give_one-requires-in-Object-clause-few
give_one-requires-in-Object-clause-few g c = named_front c.args.frames.now.newest.operands c.in-Object.field-0 c.in-Object.ensures

pub returns-in-Null-clause-row : goal.returns-in-Null-clause-row
returns-in-Null-clause-row g c t s =
    let serve : c.args.serve ≡ true = search rules in
    rw (serve, c.give_one.ensures.way, c.give_one.ensures.frames, c.told.ensures) (test_null c.args.frames.now.newest s t c.way_laws.ensures c.args.is c.in-Null.ensures)

pub returns-in-Object-clause-row : goal.returns-in-Object-clause-row
returns-in-Object-clause-row g c t s =
    let serve : c.args.serve ≡ true = search rules in
    rw (serve, c.give_one-in-Object.ensures.way, c.give_one-in-Object.ensures.frames, c.told-in-Object.ensures)
    (test_done c.args.frames.now.newest s t c.way_laws.ensures c.args.is c.in-Object.field-0 c.in-Object.ensures)
