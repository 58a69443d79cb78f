use Rattle.std.proofs.Common.{◌≡◌, ◌+◌, ◌≤◌, [], ◌∷◌, ◌++◌, IfSome, List, None, Some, length, map, drop, refl, sym, ap, subst, ◌∙◌, arith}
use Rattle.std.proofs.lemmas.List.{append-nil}
use Rattle.jground.specs.jbase.FirstFaults.{first_some}
use Rattle.jparts.specs.jmaps.ExpandedFrames.{locals_after}
use Rattle.jparts.proofs.JmapsProofs.FullLaws.{few_frames}
use Rattle.jresolution.specs.juses.PoolTables.{pool_at}
use Rattle.jresolution.specs.juses.InternedTypes.{named}
use Rattle.jtyping.specs.jwelltyped.DeclaredFrames.{Written, item, written_from}
use Rattle.jverify.specs.declared.declared.Kept.{Kept}
use Rattle.jverify.specs.LocalChains.{AreMade, values}
use Rattle.jverify.specs.FrameTables.{fault_in, given, written_named}
use Rattle.jverify.specs.InternedMethods.{seen_body}
use Rattle.jverify.proofs.WrittenFrames.{all_pushed, all_stay, bad_first, before_more, faults_same, given_stay, good_first, least, least_at, left, left_done, left_first, left_none, left_some, near_fits, near_more, none_bad, none_before, none_kept, none_left, none_rise, rise_more, so_far_more}
use Rattle.jverify.proofs.NumberedTypes.{makes_named}
use Rattle.jverify.proofs.reading.declared_of.Goals as goal

pub place_from-at-requires : goal.place_from-at-requires
place_from-at-requires g c =
    let few = few_frames c.args.frames.now c.requires.fits in
    near_fits c.loop-frame.earlier c.loop-frame.frame-index c.loop-frame.invariant.near (omega arith)

pub loop-frame-init : goal.loop-frame-init
loop-frame-init g c =
    let p = c.args.p.now in
    let pool = pool_at p c.args.class in
    let body = seen_body c.args.body.now in
    let makes = makes_named p (g.N.News.makes c.args.news.now) in
    let none = c.new-all.ensures.items in
    let first = left_first p pool body.max_locals c.new-chains.result c.grow.new.self c.in_ok-last.last c.args.params.now c.args.frames.now c.in_ok-last.ensures.chain in
    record {
      within = c.in_ok-last.ensures.within;
      near = tt;
      kept = none_kept c.grow.new.self body.max_locals c.new-all.result.items none;
      rise = none_rise c.new-all.result.items none;
      before = none_before 0 c.new-all.result.items none;
      made = c.in_ok-last.ensures.made (subst (AreMade (g.N.News.makes c.args.news.now)) (sym c.new-chains.ensures) tt);
      so_far = ap (λ ks. map (written_named p body.max_locals) (map (given c.grow.new.self) ks) ++ left p pool body.max_locals None c.grow.new.self c.in_ok-last.last c.args.frames.now) none ∙ first;
      faults = ap (first_some (fault_in body makes)) first;
    }

pub returns-in_default : goal.returns-in_default
returns-in_default g c = λ told same.
    let p = c.args.p.now in
    let pool = pool_at p c.args.class in
    let body = seen_body c.args.body.now in
    let makes = makes_named p (g.N.News.makes c.args.news.now) in
    let f = c.frame-item.result in
    let loop = c.loop-frame in
    let ws = written_from p pool body.max_locals None (map (named p) c.args.params.now) c.args.frames.now in
    sym (faults_same body makes told same ws) ∙ sym loop.invariant.faults
    ∙ ap (first_some (fault_in body makes))
    (left_none p pool body.max_locals loop.earlier loop.chains c.follow.new.self loop.last c.args.frames.now loop.frame-index f c.in_ok-locals.locals c.in_ok-next.field-0 c.place_from-at.result c.loop-frame-test.true c.frame-item.is
    c.place_from-at.ensures.place (c.in_ok-locals.ensures ∙ ap (map (item p pool)) c.as_slice.ensures)
    (c.in_ok-next.ensures.chain ∙ ap (λ xs. locals_after f.form xs (values loop.chains loop.last)) c.as_slice-in-loop-frame.ensures) c.in_default.is)
    ∙ bad_first body makes (record { at = c.place_from-at.result; frame = None }) [] (none_bad body makes c.place_from-at.result)

pub returns-then-not-is_good : goal.returns-then-not-is_good
returns-then-not-is_good g c = λ told same.
    let p = c.args.p.now in
    let pool = pool_at p c.args.class in
    let body = seen_body c.args.body.now in
    let makes = makes_named p (g.N.News.makes c.args.news.now) in
    let f = c.frame-item.result in
    let loop = c.loop-frame in
    let one : Kept = record { at = c.place_from-at.result; last = c.in-Some.next; stack = c.in_ok-stack.stack } in
    let w : Written = written_named p body.max_locals (given c.follow.new.self one) in
    let rest : List Written = left p pool body.max_locals (Some c.place_from-at.result) c.follow.new.self c.in-Some.next (drop (loop.frame-index + 1) c.args.frames.now) in
    let split : left p pool body.max_locals loop.earlier loop.chains loop.last (drop loop.frame-index c.args.frames.now) ≡ w ∷ rest =
    left_some p pool body.max_locals loop.earlier loop.chains c.follow.new.self loop.last c.in-Some.next c.args.frames.now loop.frame-index f c.in_ok-locals.locals c.in_ok-stack.stack c.in_ok-next.field-0 c.place_from-at.result
    c.loop-frame-test.true c.frame-item.is c.place_from-at.ensures.place (c.in_ok-locals.ensures ∙ ap (map (item p pool)) c.as_slice.ensures)
    (c.in_ok-next.ensures.chain ∙ ap (λ xs. locals_after f.form xs (values loop.chains loop.last)) c.as_slice-in-loop-frame.ensures) c.in-Some.is
    (c.in_ok-stack.ensures ∙ ap (map (item p pool)) c.as_slice-in-loop-frame-2.ensures) in
    let ws = written_from p pool body.max_locals None (map (named p) c.args.params.now) c.args.frames.now in
    sym (faults_same body makes told same ws) ∙ sym loop.invariant.faults ∙ ap (first_some (fault_in body makes)) split
    ∙ bad_first body makes w rest (sym c.is_good.ensures.good ∙ c.if-not-is_good.true)

pub loop-frame-preserved : goal.loop-frame-preserved
loop-frame-preserved g c =
    let p = c.args.p.now in
    let pool = pool_at p c.args.class in
    let body = seen_body c.args.body.now in
    let makes = makes_named p (g.N.News.makes c.args.news.now) in
    let f = c.frame-item.result in
    let loop = c.loop-frame in
    let new = c.follow.new.self in
    let at = c.place_from-at.result in
    let items = loop.all.items in
    let one : Kept = record { at = at; last = c.in-Some.next; stack = c.in_ok-stack.stack } in
    let w : Written = written_named p body.max_locals (given new one) in
    let rest : List Written = left p pool body.max_locals (Some at) new c.in-Some.next (drop (loop.frame-index + 1) c.args.frames.now) in
    let split : left p pool body.max_locals loop.earlier loop.chains loop.last (drop loop.frame-index c.args.frames.now) ≡ w ∷ rest =
    left_some p pool body.max_locals loop.earlier loop.chains new loop.last c.in-Some.next c.args.frames.now loop.frame-index f c.in_ok-locals.locals c.in_ok-stack.stack c.in_ok-next.field-0 at
    c.loop-frame-test.true c.frame-item.is c.place_from-at.ensures.place (c.in_ok-locals.ensures ∙ ap (map (item p pool)) c.as_slice.ensures)
    (c.in_ok-next.ensures.chain ∙ ap (λ xs. locals_after f.form xs (values loop.chains loop.last)) c.as_slice-in-loop-frame.ensures) c.in-Some.is
    (c.in_ok-stack.ensures ∙ ap (map (item p pool)) c.as_slice-in-loop-frame-2.ensures) in
    let within : c.in-Some.next ≤ length new = subst (λ r. IfSome r (λ n. n ≤ length new)) c.in-Some.is c.in_ok-next.ensures.within in
    let extends = c.in_ok-next.ensures.kept in
    let behind : least loop.earlier ≤ at = least_at loop.earlier f.delta at c.place_from-at.ensures.place in
    let ws = written_from p pool body.max_locals None (map (named p) c.args.params.now) c.args.frames.now in
    rw c.in_ok-push.ensures.items (record {
      within = within;
      near = near_more loop.earlier loop.frame-index at loop.invariant.near c.place_from-at.ensures.near;
      kept = all_pushed new body.max_locals items one (all_stay loop.chains new body.max_locals items extends loop.invariant.kept) (record { last = within; room = c.is_good.ensures.room c.if-not-is_good.false });
      rise = rise_more items one (least loop.earlier) loop.invariant.rise loop.invariant.before behind;
      before = before_more items one (least loop.earlier) loop.invariant.before behind;
      made = c.in_ok-next.ensures.made loop.invariant.made;
      so_far = so_far_more p body.max_locals loop.chains new items one w rest (left p pool body.max_locals loop.earlier loop.chains loop.last (drop loop.frame-index c.args.frames.now)) ws
          (given_stay loop.chains new body.max_locals items extends loop.invariant.kept) refl split loop.invariant.so_far;
      faults = sym (ap (first_some (fault_in body makes)) split ∙ good_first body makes w rest (sym c.is_good.ensures.good ∙ c.if-not-is_good.false)) ∙ loop.invariant.faults;
    })

pub returns : goal.returns
returns g c = λ told same.
    let p = c.args.p.now in
    let pool = pool_at p c.args.class in
    let body = seen_body c.args.body.now in
    let makes = makes_named p (g.N.News.makes c.args.news.now) in
    let loop = c.loop-frame in
    let all : List Written = map (written_named p body.max_locals) (map (given loop.chains) loop.all.items) in
    let done = left_done p pool body.max_locals loop.earlier loop.chains loop.last c.args.frames.now loop.frame-index (omega arith) in
    let ws = written_from p pool body.max_locals None (map (named p) c.args.params.now) c.args.frames.now in (
      refl,
      sym (append-nil all) ∙ ap (λ ys. all ++ ys) (sym done) ∙ loop.invariant.so_far,
      sym (faults_same body makes told same ws) ∙ sym loop.invariant.faults ∙ ap (first_some (fault_in body makes)) done ∙ none_left body makes,
    )
