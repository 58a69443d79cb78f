use Rattle.std.proofs.Common.{◌≡◌, rules}
use Rattle.std.specs.Prelude.{true, false}
use Rattle.jrows.proofs.JobjsProofs.TypeCasts.{cast_done, cast_fails, cast_none, cast_not, cast_null}
use Rattle.jrows.proofs.jobjs.casts.check_cast.Goals as goal

pub returns-then-not-serve-clause-row : goal.returns-then-not-serve-clause-row
returns-then-not-serve-clause-row g c t s =
    let serve : c.args.serve ≡ false = search rules in
    rw serve (cast_not c.args.frames.now.newest s t c.args.is c.args.frames.now.newest)

pub returns-in-Other-clause-row : goal.returns-in-Other-clause-row
returns-in-Other-clause-row g c t s =
    let serve : c.args.serve ≡ true = search rules in
    rw serve (cast_none c.args.frames.now.newest s t c.args.is c.args.frames.now.newest c.in-Other.ensures)

pub returns-in-Null-clause-row : goal.returns-in-Null-clause-row
returns-in-Null-clause-row g c t s =
    let serve : c.args.serve ≡ true = search rules in
    rw (serve, c.go_on.ensures) (cast_null c.args.frames.now.newest s t c.way_laws.ensures c.args.is c.in-Null.ensures)

pub returns-then-not-is-clause-row : goal.returns-then-not-is-clause-row
returns-then-not-is-clause-row g c t s =
    let serve : c.args.serve ≡ true = search rules in
    let is : c.args.is ≡ false = search rules in
    rw (serve, is) (cast_fails c.args.frames.now.newest s t c.in-Object.field-0 c.in-Object.ensures)

pub returns-else-not-is-clause-row : goal.returns-else-not-is-clause-row
returns-else-not-is-clause-row g c t s =
    let serve : c.args.serve ≡ true = search rules in
    let is : c.args.is ≡ true = search rules in
    rw (serve, is, c.go_on-in-Object.ensures) (cast_done c.args.frames.now.newest s t c.way_laws.ensures c.in-Object.field-0 c.in-Object.ensures)
