use Rattle.std.proofs.Common.{◌≡◌, ◌++◌, ◌∷◌, [], ap, arith, length, subst, sym, ◌∙◌}
use Rattle.jthreads.specs.ThreadQueues.{AreCounted, AreNamed, nobody}
use Rattle.jthreads.specs.ThreadTables.{added, runnable_numbers}
use Rattle.jthreads.proofs.ThreadAdditions.{len, push_counted, push_named, push_order}
use Rattle.jthreads.proofs.table.Threads.add.Goals as goal

pub invariant_of-self-2 : goal.invariant_of-self-2
invariant_of-self-2 c =
    let all = c.self.inside.all.items in
    let is : c.push.new.self.items ≡ added all = c.in_ok-push.ensures.items ∙ ap (λ x. all ++ x ∷ []) c.new.ensures in
    let queues : c.list.new.queues.items ≡ c.self.inside.queues.items ++ nobody ∷ [] = c.list.ensures ∙ ap (λ qs. qs ++ nobody ∷ []) c.reserve-2.ensures.items in (
      omega (arith, ap length is, len all, c.if-t-gt4294967295.false, c.len-t.ensures, c.self.inside.all.ok),
      subst (λ qs. AreCounted c.push.new.self.items qs) (sym queues)
          (subst (λ ts. AreCounted ts (c.self.inside.queues.items ++ nobody ∷ [])) (sym is) (push_counted all c.self.inside.queues.items c.self.invariant.1 c.self.invariant.2)),
      subst AreNamed (sym is) (push_named all c.self.invariant.2),
      c.reserve.ensures.items ∙ c.self.invariant.3 ∙ sym (push_order all) ∙ ap runnable_numbers (sym is),
      omega (arith, ap length is, len all, c.in_ok-reserve.ensures.ok, c.reserve.ensures.len, c.saturating_sub.ensures, c.len.ensures, c.len-t.ensures),
    )
