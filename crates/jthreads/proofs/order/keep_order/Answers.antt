use Rattle.std.proofs.Common.{◌≡◌, ◌++◌, ◌∷◌, arith, ap, sym, ◌∙◌}
use Rattle.jthreads.specs.ThreadQueues.{alone}
use Rattle.jthreads.proofs.ThreadUpdates.{taken_out}
use Rattle.jthreads.proofs.order.keep_order.Goals as goal

pub returns-in-true-false-clause-items : goal.returns-in-true-false-clause-items
returns-in-true-false-clause-items c front back is between =
    let there : c.args.order.now.items ≡ front ++ c.args.t ∷ back = is ∙ ap (λ b. front ++ (alone b c.args.t ++ back)) c.in-true-false.is-0 in
    taken_out c.args.t c.place_of-at.result c.args.order.now.items c.remove.new.self.items front back c.remove.result there
    (c.place_of-at.ensures.with front back there between)
    (λ lt. c.remove.ensures.variant.1 (omega (arith, lt, c.args.order.now.ok.0))) c.remove.ensures.items
    ∙ ap (λ b. front ++ (alone b c.args.t ++ back)) (sym c.in-true-false.is-1)
