use Rattle.std.proofs.Common.{◌≡◌, ◌+◌, List, sym, ap, ◌∙◌, arith}
use Rattle.std.specs.Option.{option_copied}
use Rattle.jparts.specs.declared.jmaps.types.MapType.{MapType}
use Rattle.jparts.specs.declared.jmaps.types.FullFrame.{FullFrame}
use Rattle.jparts.specs.jmaps.ExpandedFrames.{locals_before, locals_after}
use Rattle.jparts.proofs.JmapsProofs.FullLaws.{newest, few_frames, place_fits, place_near, newest_near, expand_more, expand_stops, expand_ends, expands_in_order, expands_fit}
use Rattle.jparts.proofs.jmaps.expansion.expand.Goals as goal

pub place_behind-at-requires : goal.place_behind-at-requires
place_behind-at-requires c =
    let few = few_frames c.args.frames.now c.requires in
    rw (c.last.ensures.value, c.deref.ensures.value) (place_fits (newest c.loop-i.full.items) c.loop-i.i c.loop-i.invariant.near (omega arith))

pub overflow_cast-result : goal.overflow_cast-result
overflow_cast-result c = let few = few_frames c.args.frames.now c.requires in omega arith

pub returns-in_default-clause-exact : goal.returns-in_default-clause-exact
returns-in_default-clause-exact c =
    let last : option_copied c.last-in-loop-i.result ≡ newest c.loop-i.full.items = c.last-in-loop-i.ensures.value ∙ ap newest c.deref-in-loop-i.ensures.value in
    let before : c.locals_before-before.result.now ≡ locals_before c.args.first.now (newest c.loop-i.full.items) = c.locals_before-before.ensures ∙ ap (locals_before c.args.first.now) last in
    expand_stops c.args.first.now c.loop-i.i (newest c.loop-i.full.items) c.loop-i.full.items c.args.frames.now c.index-frames-i.result _ c.loop-i-test.true c.index-frames-i.is
    (sym c.in_default.is ∙ c.in_ok-locals.ensures ∙ ap (λ (ls : List MapType). locals_after c.index-frames-i.result.form c.index-frames-i.result.locals ls) before) c.loop-i.invariant.so_far

pub loop-i-preserved : goal.loop-i-preserved
loop-i-preserved c =
    let first_last : option_copied c.last.result ≡ newest c.loop-i.full.items = c.last.ensures.value ∙ ap newest c.deref.ensures.value in
    let last : option_copied c.last-in-loop-i.result ≡ newest c.loop-i.full.items = c.last-in-loop-i.ensures.value ∙ ap newest c.deref-in-loop-i.ensures.value in
    let before : c.locals_before-before.result.now ≡ locals_before c.args.first.now (newest c.loop-i.full.items) = c.locals_before-before.ensures ∙ ap (locals_before c.args.first.now) last in
    let made : FullFrame = record { at = c.place_behind-at.result; locals = c.in-Some.locals; stack = c.in_ok-stack.stack } in
    rw c.in_ok-push.ensures.items (record {
      near = newest_near c.loop-i.full.items made (c.loop-i.i + 1) (place_near (newest c.loop-i.full.items) c.loop-i.i c.place_behind-at.result c.loop-i.invariant.near (rw first_last at c.place_behind-at.ensures.near));
      so_far = expand_more c.args.first.now c.loop-i.i (newest c.loop-i.full.items) c.loop-i.full.items c.args.frames.now c.index-frames-i.result made _ c.loop-i-test.true c.index-frames-i.is
          (sym c.in-Some.is ∙ c.in_ok-locals.ensures ∙ ap (λ (ls : List MapType). locals_after c.index-frames-i.result.form c.index-frames-i.result.locals ls) before) (rw first_last at c.place_behind-at.ensures.place) c.in_ok-stack.ensures c.loop-i.invariant.so_far;
    })

pub returns-clause-exact : goal.returns-clause-exact
returns-clause-exact c = expand_ends c.args.first.now c.loop-i.i (newest c.loop-i.full.items) c.loop-i.full.items c.args.frames.now _ (omega arith) c.loop-i.invariant.so_far

pub returns-clause-stand : goal.returns-clause-stand
returns-clause-stand c = expands_in_order c.args.first.now c.args.frames.now c.loop-i.full.items c.requires (expand_ends c.args.first.now c.loop-i.i (newest c.loop-i.full.items) c.loop-i.full.items c.args.frames.now _ (omega arith) c.loop-i.invariant.so_far)

pub returns-clause-fit : goal.returns-clause-fit
returns-clause-fit c = λ fit. expands_fit c.args.first.now c.args.frames.now c.loop-i.full.items fit c.requires (expand_ends c.args.first.now c.loop-i.i (newest c.loop-i.full.items) c.loop-i.full.items c.args.frames.now _ (omega arith) c.loop-i.invariant.so_far)
