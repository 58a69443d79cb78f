use Rattle.std.proofs.Common.{rules, Some, length, pos, sym, ap, ◌∙◌}
use Rattle.jtyping.specs.jwelltyped.VerifierTests.{begun}
use Rattle.jverify.specs.FrameTables.{IsKept, frame_named, given}
use Rattle.jverify.specs.FrameTables as given_specs
use Rattle.jverify.specs.FrameFacts.{arrived, held_seen}
use Rattle.jverify.proofs.FrameSearch.{declared_none, declared_some, found_again, found_holds, from_there, kept_there, same_there, stands}
use Rattle.jverify.proofs.ServedFrames.{arrived_is}
use Rattle.jverify.proofs.declared.Declared.begun.Goals as goal

pub returns-in-None-clause-seen : goal.returns-in-None-clause-seen
returns-in-None-clause-seen c =
    arrived_is c.args.p.now c.args.a c.arrived.result c.arrived.ensures
    ∙ ap (λ o. begun o (arrived c.args.p.now c.args.a))
    (declared_none c.args.p.now c.args.self.now c.self.inside.most c.self.inside.chains c.self.inside.frames.items (pos c.args.at) c.self.view_is
    (found_again _ c.self.inside.frames.items (pos c.args.at) _ _ c.in-None.ensures c.as_slice.ensures.value (search rules)))

pub again-requires-clause-kept : goal.again-requires-clause-kept
again-requires-clause-kept c =
    kept_there c.args.self.now c.self.inside.most (length c.args.a.held.frame.locals) c.self.inside.chains c.self.inside.frames.items (pos c.args.at) c.in-Some.k.now c.self.view_is c.self.invariant.0
    (found_again _ c.self.inside.frames.items (pos c.args.at) _ _ c.in-Some.ensures c.as_slice.ensures.value (search rules)) c.requires.count

pub again-requires-clause-same : goal.again-requires-clause-same
again-requires-clause-same c =
    same_there c.args.p.now c.args.self.now c.self.inside.most c.self.inside.chains c.self.inside.frames.items c.as_slice-in-Some.result.now c.args.a.held.frame.locals c.args.a.held.known.from c.in-Some.k.now c.shares.result
    c.self.view_is c.as_slice-in-Some.ensures.value c.requires.count c.requires.from c.shares.ensures c.if-shares.true

pub returns-then-shares-clause-seen : goal.returns-then-shares-clause-seen
returns-then-shares-clause-seen c =
    let p = c.args.p.now in
    let k = c.in-Some.k.now in
    ap Some (c.in_ok-held-in-Some.ensures.seen ∙ ap (λ n. frame_named p n (given c.self.inside.chains k)) (c.requires.count ∙ sym (ap (λ (d : given_specs.Givens). d.most) c.self.view_is)))
    ∙ ap (λ o. begun o (arrived p c.args.a))
    (declared_some p c.args.self.now c.self.inside.most c.self.inside.chains c.self.inside.frames.items (pos c.args.at) k c.self.view_is
    (found_again _ c.self.inside.frames.items (pos c.args.at) _ _ c.in-Some.ensures c.as_slice.ensures.value (search rules)))

pub returns-then-shares-clause-from : goal.returns-then-shares-clause-from
returns-then-shares-clause-from c =
    let p = c.args.p.now in
    let k = c.in-Some.k.now in
    from_there p c.args.self.now c.self.inside.most c.self.inside.chains c.self.inside.frames.items c.args.at k c.in_ok-held-in-Some.held.known.from (held_seen p c.in_ok-held-in-Some.held) c.self.view_is
    (found_again _ c.self.inside.frames.items (pos c.args.at) _ _ c.in-Some.ensures c.as_slice.ensures.value (search rules))
    c.in_ok-held-in-Some.ensures.from
    (c.in_ok-held-in-Some.ensures.seen ∙ ap (λ n. frame_named p n (given c.self.inside.chains k)) (c.requires.count ∙ sym (ap (λ (d : given_specs.Givens). d.most) c.self.view_is)))

pub anew-requires : goal.anew-requires
anew-requires c =
    found_holds (IsKept c.self.inside.chains c.self.inside.most) (stands (pos c.args.at)) c.self.inside.frames.items c.in-Some.k.now c.self.invariant.0
    (found_again _ c.self.inside.frames.items (pos c.args.at) _ _ c.in-Some.ensures c.as_slice.ensures.value (search rules))

pub returns-in_ok-held-in-Some-2-clause-seen : goal.returns-in_ok-held-in-Some-2-clause-seen
returns-in_ok-held-in-Some-2-clause-seen c =
    ap Some c.in_ok-held-in-Some-2.ensures.seen
    ∙ ap (λ o. begun o (arrived c.args.p.now c.args.a))
    (declared_some c.args.p.now c.args.self.now c.self.inside.most c.self.inside.chains c.self.inside.frames.items (pos c.args.at) c.in-Some.k.now c.self.view_is
    (found_again _ c.self.inside.frames.items (pos c.args.at) _ _ c.in-Some.ensures c.as_slice.ensures.value (search rules)))

pub returns-in_ok-held-in-Some-2-clause-from : goal.returns-in_ok-held-in-Some-2-clause-from
returns-in_ok-held-in-Some-2-clause-from c =
    from_there c.args.p.now c.args.self.now c.self.inside.most c.self.inside.chains c.self.inside.frames.items c.args.at c.in-Some.k.now c.in_ok-held-in-Some-2.held.known.from
    (held_seen c.args.p.now c.in_ok-held-in-Some-2.held) c.self.view_is
    (found_again _ c.self.inside.frames.items (pos c.args.at) _ _ c.in-Some.ensures c.as_slice.ensures.value (search rules))
    c.in_ok-held-in-Some-2.ensures.from c.in_ok-held-in-Some-2.ensures.seen
