-- The object of an `<init>` was tested when the operands were taken.
use Rattle.std.proofs.Common.{◌≡◌, ◌∙◌, ℕ, Bool, true, false, List, [], ◌∷◌, ◌++◌, Some, None, refl, sym, ap, subst}
use Rattle.std.specs.Prelude.{if◌then◌else◌}
use Rattle.jvalues.specs.declared.jops.value.Value.{Value}
use Rattle.jtyping.specs.jrule.PoolEffects.{arguments}
use Rattle.jresolution.specs.juses.InstructionMeanings.{CallMeaning}
use Rattle.jlinking.proofs.JlinkProofs.PresentValues.{then_is}
use Rattle.jsemantics.specs.jmachine.CallTargets.{begun_on, init_taken, may_begin, receiver}
use Rattle.jsemantics.specs.jmachine.TakenOperands.{Taken, taken}
use Rattle.jsemantics.specs.jmachine.Store.{Store}
use Rattle.jsemantics.specs.jmachine.World.{World}

receiver_last : (values : List (Value ℕ)) (v : Value ℕ) → receiver (values ++ v ∷ []) ≡ Some v
unfolding receiver
receiver_last [] v = refl
receiver_last (x ∷ []) v = refl
receiver_last (x ∷ y ∷ values) v = receiver_last (y ∷ values) v

module _ (w : World) (s : Store ℕ) (c : CallMeaning) (v : Value ℕ) where
  begun_values : (values below : List (Value ℕ)) (t : Taken ℕ) → begun_on w s c.owner values below ≡ Some t → receiver t.values ≡ Some v → may_begin w s c.owner v ≡ true
  begun_values values [] t e r = absurd cc
  begun_values values (u ∷ below) t e r = by (may_begin w s c.owner u) refl e
    where
      by : (b : Bool) → may_begin w s c.owner u ≡ b → (if b then Some (record { values = values ++ u ∷ []; below = below }) else None) ≡ Some t → may_begin w s c.owner v ≡ true
      by true is h =
          let made : Taken ℕ = record { values = values ++ u ∷ []; below = below } in
          let same : made ≡ t = cc in
          let both : Some u ≡ Some v = sym (receiver_last values u) ∙ ap (λ (x : Taken ℕ). receiver x.values) same ∙ r in
          let one : u ≡ v = cc in
          subst (λ (x : Value ℕ). may_begin w s c.owner x ≡ true) one is
      by false is h = absurd cc

  pub was_begun : (operands : List (Value ℕ)) (t : Taken ℕ) → init_taken w s c operands ≡ Some t → receiver t.values ≡ Some v → may_begin w s c.owner v ≡ true
  unfolding init_taken
  was_begun operands t e r =
      let x = then_is (λ (u : Taken ℕ). begun_on w s c.owner u.values u.below) (taken w s (arguments c) operands) t e in
      begun_values x.0.values x.0.below t x.2 r
