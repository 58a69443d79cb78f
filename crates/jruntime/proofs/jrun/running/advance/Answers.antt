use Rattle.std.proofs.Common.{◌∙◌, ◌+◌, ap, arith, sym}
use Rattle.std.proofs.lemmas.Result.{err_from_is_err_and}
use Rattle.jground.specs.jbase.FaultCauses.{appended}
use Rattle.jground.proofs.JbaseProofs.Cuts.{appended_nil, cut_none}
use Rattle.joutput.specs.jtrace.TraceLines.{lines}
use Rattle.jruntime.proofs.JrunProofs.RunInvariants.{few_none, few_some, goes_none, goes_some, last_advances, last_tells, quiet_advances, quiet_tells, ready_none, ready_some}
use Rattle.jruntime.proofs.jrun.running.advance.Goals as goal

pub returns-in_err-made-clause-err : goal.returns-in_err-made-clause-err
returns-in_err-made-clause-err g c =
    let p = err_from_is_err_and c.from_residual.result c.from_residual.ensures.1 in
    rw p.1 (λ s stands. (0, omega arith, cut_none _ _))

pub returns-in-None-clause-few : goal.returns-in-None-clause-few
returns-in-None-clause-few g c = few_none c.args.most c.in_ok-made.made c.in_ok-made.ensures.few c.in-None.is

pub returns-in-None-clause-steps : goal.returns-in-None-clause-steps
returns-in-None-clause-steps g c s stands =
    let step = g.E.Stepping.steps c.args.engine.now in
    let after = g.E.Stepping.stands c.go.new.self in
    quiet_advances step after s c.in_ok-made.made.quiet (goes_none after step s c.in_ok-made.made (c.in_ok-made.ensures.goes s stands) c.in-None.is)

pub returns-in-None-clause-ok : goal.returns-in-None-clause-ok
returns-in-None-clause-ok g c s stands =
    let step = g.E.Stepping.steps c.args.engine.now in
    let after = g.E.Stepping.stands c.go.new.self in
    let old = g.K.Sink.out c.args.out.now in
    sym (appended_nil old)
    ∙ ap (λ es. appended old (lines es)) (quiet_tells step after s c.in_ok-made.made.quiet
    (goes_none after step s c.in_ok-made.made (c.in_ok-made.ensures.goes s stands) c.in-None.is))

pub returns-in-None-clause-ready : goal.returns-in-None-clause-ready
returns-in-None-clause-ready g c none = ready_none _ c.in_ok-made.made c.in_ok-made.ensures.ready c.in-None.is

pub returns-in_err-end-in-Some-clause-err : goal.returns-in_err-end-in-Some-clause-err
returns-in_err-end-in-Some-clause-err g c =
    let p = err_from_is_err_and c.from_residual-in_err-end-in-Some.result c.from_residual-in_err-end-in-Some.ensures.1 in
    rw p.1 (λ s stands.
    let step = g.E.Stepping.steps c.args.engine.now in
    let after = g.E.Stepping.stands c.go.new.self in
    let made = c.in_ok-made.made in
    let few = few_some c.args.most made c.in-Some.came c.in_ok-made.ensures.few c.in-Some.is in
    let tells = last_tells step after s made.quiet c.in-Some.came (goes_some after step s made (c.in_ok-made.ensures.goes s stands) c.in-Some.came c.in-Some.is) in
    (made.quiet + 1, few.1, rw (c.in-Some.is, tells) at c.in_err-end-in-Some.ensures.err))

pub returns-in_ok-end-in-Some-clause-few : goal.returns-in_ok-end-in-Some-clause-few
returns-in_ok-end-in-Some-clause-few g c = few_some c.args.most c.in_ok-made.made c.in-Some.came c.in_ok-made.ensures.few c.in-Some.is

pub returns-in_ok-end-in-Some-clause-steps : goal.returns-in_ok-end-in-Some-clause-steps
returns-in_ok-end-in-Some-clause-steps g c s stands =
    let step = g.E.Stepping.steps c.args.engine.now in
    let after = g.E.Stepping.stands c.go.new.self in
    last_advances step after s c.in_ok-made.made.quiet c.in-Some.came c.in_ok-end-in-Some.end (rw c.in-Some.is at c.in_ok-end-in-Some.ensures.end)
    (goes_some after step s c.in_ok-made.made (c.in_ok-made.ensures.goes s stands) c.in-Some.came c.in-Some.is)

pub returns-in_ok-end-in-Some-clause-ok : goal.returns-in_ok-end-in-Some-clause-ok
returns-in_ok-end-in-Some-clause-ok g c s stands =
    let step = g.E.Stepping.steps c.args.engine.now in
    let after = g.E.Stepping.stands c.go.new.self in
    let tells = last_tells step after s c.in_ok-made.made.quiet c.in-Some.came
    (goes_some after step s c.in_ok-made.made (c.in_ok-made.ensures.goes s stands) c.in-Some.came c.in-Some.is) in
    rw (c.in-Some.is, tells) at c.in_ok-end-in-Some.ensures.ok

pub returns-in_ok-end-in-Some-clause-ready : goal.returns-in_ok-end-in-Some-clause-ready
returns-in_ok-end-in-Some-clause-ready g c none =
    ready_some _ c.in_ok-made.made c.in-Some.came c.in_ok-end-in-Some.end c.in_ok-made.ensures.ready c.in-Some.is
    (rw c.in-Some.is at c.in_ok-end-in-Some.ensures.end) none
