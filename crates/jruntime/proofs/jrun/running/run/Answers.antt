use Rattle.std.proofs.Common.{◌≡◌, ◌+◌, Some, None, ap, ◌∙◌, arith, refl}
use Rattle.std.proofs.lemmas.Result.{err_from_is_err_and}
use Rattle.jsemantics.specs.jmachine.RunTraces.{run_from}
use Rattle.jruntime.proofs.JrunProofs.Courses as courses
use Rattle.jruntime.proofs.JrunProofs.RunInvariants.{begun, further_cut, further_ends, further_written, more}
use Rattle.jruntime.proofs.jrun.running.run.Goals as goal

pub loop-made-init : goal.loop-made-init
loop-made-init g c = record {
  at = begun (g.E.Stepping.steps c.args.engine.now) (g.E.Stepping.stands c.args.engine.now) (g.K.Sink.out c.args.out.now);
  same = refl;
  ready = c.requires;
  later = omega arith;
  few = omega arith;
}

pub returns-in_err-done-clause-cut : goal.returns-in_err-done-clause-cut
returns-in_err-done-clause-cut g c =
    let p = err_from_is_err_and c.from_residual.result c.from_residual.ensures.1 in
    rw p.1 (λ first b.
    let at = c.loop-made.invariant.at first b in
    let step = g.E.Stepping.steps c.args.engine.now in
    let s = (run_from step c.loop-made.made first).state in
    let e = rw c.loop-made.invariant.same at c.in_err-done.ensures.err s at.state in
    further_cut step first c.loop-made.made e.0 at.goes c.args.steps _ _ _ (omega (arith, e.1, c.loop-made.invariant.few)) at.written e.2)

pub loop-made-preserved : goal.loop-made-preserved
loop-made-preserved g c =
    let step = g.E.Stepping.steps c.args.engine.now in
    record {
      at = more step (g.E.Stepping.stands c.args.engine.now) (g.E.Stepping.stands c.loop-made.engine) (g.E.Stepping.stands c.advance.new.engine) c.loop-made.made
          c.in_ok-done.done _ _ _ c.loop-made.invariant.at c.in-None.is
          (rw c.loop-made.invariant.same at c.in_ok-done.ensures.steps)
          (rw c.loop-made.invariant.same at c.in_ok-done.ensures.ok);
      same = c.in_ok-done.ensures.same ∙ c.loop-made.invariant.same;
      ready = c.in_ok-done.ensures.ready c.in-None.is;
      later = omega (arith, c.loop-made.invariant.later, c.advance.ensures.later);
      few = omega (arith, c.in_ok-done.ensures.few);
    }

pub returns-in-Some-clause-written : goal.returns-in-Some-clause-written
returns-in-Some-clause-written g c =
    courses.on_ok c.put_end.result (λ puts first b.
    let at = c.loop-made.invariant.at first b in
    let step = g.E.Stepping.steps c.args.engine.now in
    let s = (run_from step c.loop-made.made first).state in
    let n = c.in_ok-done.done.steps in
    let a = rw c.loop-made.invariant.same at c.in_ok-done.ensures.steps s at.state in
    let e = further_ends step first c.loop-made.made n at.goes (Some c.in-Some.end) (a.ends ∙ c.in-Some.is) in
    let m = further_written step first c.loop-made.made n at.goes _ _ _ at.written (rw c.loop-made.invariant.same at c.in_ok-done.ensures.ok s at.state) in
    courses.written_ended step first (c.loop-made.made + n) c.args.steps (Some c.in-Some.end) _ _ _
    (courses.stays step first (c.loop-made.made + n) c.args.steps c.in-Some.end (omega (arith, c.in_ok-done.ensures.few, c.loop-made.invariant.few)) e) e m puts) c.put_end.ensures.ok

pub returns-in-Some-clause-end : goal.returns-in-Some-clause-end
returns-in-Some-clause-end g c =
    courses.if_ok c.put_end.result (λ x is first b.
    let at = c.loop-made.invariant.at first b in
    let step = g.E.Stepping.steps c.args.engine.now in
    let s = (run_from step c.loop-made.made first).state in
    let n = c.in_ok-done.done.steps in
    let a = rw c.loop-made.invariant.same at c.in_ok-done.ensures.steps s at.state in
    let e = further_ends step first c.loop-made.made n at.goes (Some c.in-Some.end) (a.ends ∙ c.in-Some.is) in
    is ∙ courses.end_is step first (c.loop-made.made + n) c.args.steps (Some c.in-Some.end)
    (courses.stays step first (c.loop-made.made + n) c.args.steps c.in-Some.end (omega (arith, c.in_ok-done.ensures.few, c.loop-made.invariant.few)) e) e) c.put_end.ensures.end

pub returns-in-Some-clause-cut : goal.returns-in-Some-clause-cut
returns-in-Some-clause-cut g c =
    courses.on_err c.put_end.result (λ puts first b.
    let at = c.loop-made.invariant.at first b in
    let step = g.E.Stepping.steps c.args.engine.now in
    let s = (run_from step c.loop-made.made first).state in
    let n = c.in_ok-done.done.steps in
    let a = rw c.loop-made.invariant.same at c.in_ok-done.ensures.steps s at.state in
    let e = further_ends step first c.loop-made.made n at.goes (Some c.in-Some.end) (a.ends ∙ c.in-Some.is) in
    let m = further_written step first c.loop-made.made n at.goes _ _ _ at.written (rw c.loop-made.invariant.same at c.in_ok-done.ensures.ok s at.state) in
    courses.cut_ended step first (c.loop-made.made + n) c.args.steps (Some c.in-Some.end) _ _ _
    (courses.stays step first (c.loop-made.made + n) c.args.steps c.in-Some.end (omega (arith, c.in_ok-done.ensures.few, c.loop-made.invariant.few)) e) e m puts) c.put_end.ensures.err

pub returns-clause-written : goal.returns-clause-written
returns-clause-written g c =
    courses.on_ok c.put_end-2.result (λ puts first b.
    let at = c.loop-made.invariant.at first b in
    let step = g.E.Stepping.steps c.args.engine.now in
    let same : c.args.steps ≡ c.loop-made.made = omega (arith, c.loop-made.invariant.few) in
    courses.written_ended step first c.loop-made.made c.args.steps None _ _ _ (ap (λ k. run_from step k first) same) at.goes at.written puts) c.put_end-2.ensures.ok

pub returns-clause-end : goal.returns-clause-end
returns-clause-end g c =
    courses.if_ok c.put_end-2.result (λ x is first b.
    let at = c.loop-made.invariant.at first b in
    let step = g.E.Stepping.steps c.args.engine.now in
    let same : c.args.steps ≡ c.loop-made.made = omega (arith, c.loop-made.invariant.few) in
    is ∙ courses.end_is step first c.loop-made.made c.args.steps None (ap (λ k. run_from step k first) same) at.goes) c.put_end-2.ensures.end

pub returns-clause-cut : goal.returns-clause-cut
returns-clause-cut g c =
    courses.on_err c.put_end-2.result (λ puts first b.
    let at = c.loop-made.invariant.at first b in
    let step = g.E.Stepping.steps c.args.engine.now in
    let same : c.args.steps ≡ c.loop-made.made = omega (arith, c.loop-made.invariant.few) in
    courses.cut_ended step first c.loop-made.made c.args.steps None _ _ _ (ap (λ k. run_from step k first) same) at.goes at.written puts) c.put_end-2.ensures.err

pub advance-requires-clause-ready : goal.advance-requires-clause-ready
advance-requires-clause-ready g c = c.loop-made.invariant.ready
