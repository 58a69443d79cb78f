use Rattle.std.proofs.Common.{rules, ◌≡◌, arith}
use Rattle.std.proofs.lemmas.Result.{err_from_is_err_and}
use Rattle.jshow.proofs.Domains.{went_all, went_cut_as, went_on_as}
use Rattle.jshow.proofs.Lines.{wrote_all, wrote_front}
use Rattle.jshow.proofs.listing.put_listing.Goals as goal

pub returns-in_err-put_domain : goal.returns-in_err-put_domain
returns-in_err-put_domain g c =
    let p = err_from_is_err_and c.from_residual.result c.from_residual.ensures.1 in
    let e : c.in-Ok.d ≡ c.loop-at.at = search rules in
    let cut = went_cut_as _ _ _ c.loop-at.at c.in-Ok.d c.args.sources.now c.args.domains.now c.index-sources-at.result c.list.result.now e c.loop-at-test.true c.index-sources-at.is c.list.ensures c.loop-at.invariant.written c.in_err-put_domain.ensures.err in
    rw (p.1, p.2) (wrote_front g.K.Sink.out g.K.Sink.faults _ _ _ _ _ _ c.loop-at.invariant.later cut c.in_err-put_domain.ensures)

pub loop-at-preserved : goal.loop-at-preserved
loop-at-preserved g c =
    let e : c.in-Ok.d ≡ c.loop-at.at = search rules in
    record {
      written = went_on_as _ _ _ c.loop-at.at c.in-Ok.d c.args.sources.now c.args.domains.now c.index-sources-at.result c.list.result.now e c.loop-at-test.true c.index-sources-at.is c.list.ensures c.loop-at.invariant.written c.in_ok-put_domain.ensures.ok;
      later = omega (arith, c.loop-at.invariant.later, c.in_ok-put_domain.ensures.later);
    }

pub returns : goal.returns
returns g c = wrote_all g.K.Sink.out g.K.Sink.faults _ _ _ _ (went_all _ _ c.loop-at.at c.args.sources.now c.args.domains.now c.loop-at-test.false c.loop-at.invariant.written) c.loop-at.invariant.later
