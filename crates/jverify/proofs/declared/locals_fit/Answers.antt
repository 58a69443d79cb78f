use Rattle.std.proofs.Common.{◌≡◌, ◌-◌, IfSome, sym, ap, subst, ◌∙◌, arith}
use Rattle.std.specs.Prelude.{slice_get}
use Rattle.jtypes.specs.Assignability.{fits}
use Rattle.jresolution.specs.jprogram.ProgramClasses.{tree}
use Rattle.jresolution.specs.juses.InternedTypes.{named}
use Rattle.jverify.proofs.ChainComparison.{front, front_all, front_fails, front_goes, front_root, place_within}
use Rattle.jverify.proofs.declared.locals_fit.Goals as goal

pub overflow_sub-node : goal.overflow_sub-node
overflow_sub-node c =
    let h = place_within c.args.chains.now c.loop-number.number c.get-node.result c.get-node.ensures.link in
    omega (arith, h.0, c.size.ensures)

pub returns-then-not-local_fits : goal.returns-then-not-local_fits
returns-then-not-local_fits c =
    let n = c.get-node.result in
    let p = c.args.p.now in
    front_fails p c.args.locals.now c.args.chains.now c.loop-number.number n c.local_fits.result c.get-node.ensures.link c.loop-number.invariant.room
    (subst (λ s. IfSome (slice_get c.args.locals.now (n.places - s)) (λ t. c.local_fits.result ≡ fits (tree p) (named p t) (named p n.kind))) c.size.ensures c.local_fits.ensures) c.if-not-local_fits.true
    ∙ c.loop-number.invariant.so_far ∙ front_all p c.args.locals.now c.args.chains.now c.args.last c.requires.room

pub loop-number-preserved : goal.loop-number-preserved
loop-number-preserved c =
    let n = c.get-node.result in
    let p = c.args.p.now in
    let h = place_within c.args.chains.now c.loop-number.number n c.get-node.ensures.link in
    record {
      within = omega (arith, c.get-node.ensures.link.parent, c.loop-number.invariant.within);
      room = omega (arith, h.2, c.loop-number.invariant.room);
      so_far = front_goes p c.args.locals.now c.args.chains.now c.loop-number.number n c.local_fits.result c.get-node.ensures.link c.loop-number.invariant.room
          (subst (λ s. IfSome (slice_get c.args.locals.now (n.places - s)) (λ t. c.local_fits.result ≡ fits (tree p) (named p t) (named p n.kind))) c.size.ensures c.local_fits.ensures) c.if-not-local_fits.false
          ∙ c.loop-number.invariant.so_far;
    }

pub returns : goal.returns
returns c =
    let p = c.args.p.now in
    let zero : c.loop-number.number ≡ 0 = omega arith in
    sym (front_root p c.args.locals.now c.args.chains.now) ∙ ap (front p c.args.locals.now c.args.chains.now) (sym zero)
    ∙ c.loop-number.invariant.so_far ∙ front_all p c.args.locals.now c.args.chains.now c.args.last c.requires.room
