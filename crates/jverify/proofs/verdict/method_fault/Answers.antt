use Rattle.std.proofs.Common.{map, ap, ◌∙◌}
use Rattle.jresolution.specs.juses.InternedTypes.{named}
use Rattle.jtyping.specs.jwelltyped.MethodPremises.{makes}
use Rattle.jverify.specs.InternedMethods.{seen_method}
use Rattle.jverify.proofs.Faults.{good_frames}
use Rattle.jverify.proofs.verdict.method_fault.Goals as goal

pub returns : goal.returns
returns c =
    let p = c.args.p.now in
    let m = seen_method p c.args.m.now in
    c.in_ok-at.ensures
    ∙ good_frames p m c.frames_in-frames.result.now (map (named p) c.as_slice-params.result.now) c.in_ok-declared.field-0 c.in-Ok.declared c.frames_in-frames.ensures (ap (map (named p)) c.as_slice-params.ensures) c.in-Ok.is
    (c.in_ok-declared.ensures (makes p m) c.in_ok-news.ensures)
