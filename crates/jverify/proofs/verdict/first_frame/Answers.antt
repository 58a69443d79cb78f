use Rattle.std.proofs.Common.{◌∙◌}
use Rattle.jtyping.specs.declared.jrule.frame.FrameRef.{FrameRef}
use Rattle.jverify.proofs.EntryFrames.{first_seen, has_room, no_room}
use Rattle.jverify.proofs.verdict.first_frame.Goals as goal

pub returns-then-count-as_slice-clause-first : goal.returns-then-count-as_slice-clause-first
returns-then-count-as_slice-clause-first c =
    let places = c.as_slice.ensures ∙ c.in_ok-places.ensures in
    no_room c.args.p.now c.args.m.now c.as_slice-values.result.now c.as_slice.result.now c.from-count.result c.as_slice-values.ensures places c.from-count.ensures c.if-count-as_slice.true

pub returns-clause-first : goal.returns-clause-first
returns-clause-first c =
    let places = c.as_slice.ensures ∙ c.in_ok-places.ensures in
    let first : FrameRef = record { locals = c.of.result; stack = c.new.result; flag = c.has_this.result } in (
      has_room c.args.p.now c.args.m.now c.as_slice-values.result.now c.as_slice.result.now c.from-count.result c.as_slice-values.ensures places c.from-count.ensures c.if-count-as_slice.false,
      first_seen c.args.p.now c.args.m.now c.as_slice-values.result.now c.in_ok-places.places c.from-count.result first c.as_slice-values.ensures c.in_ok-places.ensures c.from-count.ensures c.of.ensures c.new.ensures c.has_this.ensures,
    )
