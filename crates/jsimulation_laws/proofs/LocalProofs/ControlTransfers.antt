-- More groups of instructions with operands alone: returns, throws and switches.
use Rattle.std.proofs.Common.{◌≡◌, ℕ, zero, suc, ℤ, Bool, true, false, List, [], ◌∷◌, map, Option, Some, refl, ap}
use Rattle.std.specs.Prelude.{if◌then◌else◌}
use Rattle.std.specs.Ordering.{int_eq}
use Rattle.jparts.specs.declared.jcode.names.Returned.{Returned}
use Rattle.jvalues.specs.declared.jnames.kinds.Kind.TheVariants as kinds
use Rattle.jvalues.specs.declared.jops.value.Value.TheVariants.{Int, Long, Ref, Ctx}
use Rattle.jparts.specs.jcode.InstructionForms.{returned}
use Rattle.jresolution.specs.juses.IndexedInstructions.{Instruction, Return, Switch, Throw}
use Rattle.jctx.specs.declared.item.Item.{Item}
use Rattle.jtyping.specs.jrule.StackEffects.{Fits, Of, of_kinds}
use Rattle.jtyping.specs.jrule.PoolEffects.{throwable}
use Rattle.jsemantics.specs.jmachine.MachineStates.{Jumps, Row, Outcome, free}
use Rattle.jsemantics.specs.jmachine.InstructionActions.{doing}
use Rattle.jsemantics.specs.jmachine.MachineSteps.{fetched}
use Rattle.jsemantics.specs.jmachine.BasicInstructions.{case_of, leave, switch, throw}
use Rattle.jsimulation_laws.specs.between.BetweenMachines.{Noted}
use Rattle.jsimulation_laws.specs.relation.InstructionExpansion.{expanded, led_case}
use Rattle.jsimulation_laws.specs.relation.StateRelation.{Frame, Point, Word}
use Rattle.jsimulation_laws.proofs.LocalProofs.RelatedStates.{Newest, Scene, stepped}
use Rattle.jsimulation_laws.proofs.LocalProofs.MovedStates.{spot}
use Rattle.jsimulation_laws.proofs.LocalProofs.RowComparison as taking
use Rattle.jsimulation_laws.proofs.LocalProofs.RowComparison.{Led}

abbrev Rows : Type 0
Rows = Option (Row (List Item) Noted)

module _ (to : ℕ → ℕ) where
  leave_led : (values : List Word) → Led to (leave values) (leave values)
  leave_led values = (tt, refl)

  throw_led : (values : List Word) → Led to (throw values) (throw values)
  unfolding throw
  throw_led [] = tt
  throw_led (Int x ∷ []) = tt
  throw_led (Int x ∷ v ∷ vs) = tt
  throw_led (Long x ∷ []) = tt
  throw_led (Long x ∷ v ∷ vs) = tt
  throw_led (Ctx x ∷ []) = tt
  throw_led (Ctx x ∷ v ∷ vs) = tt
  throw_led (Ref zero ∷ []) = (tt, refl)
  throw_led (Ref zero ∷ v ∷ vs) = tt
  throw_led (Ref (suc n) ∷ []) = (tt, refl)
  throw_led (Ref (suc n) ∷ v ∷ vs) = tt

  -- the case of a key in the moved table begins where the case's expansion does
  case_led : (key : ℤ) (cases : List (ℤ × ℕ)) (other : ℕ) → case_of key (map (led_case to) cases) (to other) ≡ to (case_of key cases other)
  unfolding case_of
  case_led key [] other = refl
  case_led key (c ∷ cases) other = when (int_eq c.0 key) (case_led key cases other)
    where
      when : (b : Bool) → case_of key (map (led_case to) cases) (to other) ≡ to (case_of key cases other)
          → (if b then to c.1 else case_of key (map (led_case to) cases) (to other)) ≡ to (if b then c.1 else case_of key cases other)
      when true rest = refl
      when false rest = rest

  switch_led : (cases : List (ℤ × ℕ)) (other : ℕ) (values : List Word) → Led to (switch cases other values) (switch (map (led_case to) cases) (to other) values)
  unfolding switch
  switch_led cases other [] = tt
  switch_led cases other (Int x ∷ []) = (tt, ap (λ n. Some (free (Jumps n))) (case_led x cases other))
  switch_led cases other (Int x ∷ v ∷ vs) = tt
  switch_led cases other (Long x ∷ []) = tt
  switch_led cases other (Long x ∷ v ∷ vs) = tt
  switch_led cases other (Ctx x ∷ []) = tt
  switch_led cases other (Ctx x ∷ v ∷ vs) = tt
  switch_led cases other (Ref n ∷ []) = tt
  switch_led cases other (Ref n ∷ v ∷ vs) = tt

module _ (z : Scene) (top : Newest z) where
  abbrev A : Outcome Point → List Frame → Type 0
  A o gs0 = taking.A z o gs0

  abbrev to : ℕ → ℕ
  to = top.new.frame.code.at

  abbrev fetches : (i : Instruction) → fetched z.p top.f.method top.f.place ≡ Some i → (x : Instruction) → expanded top.new.frame.code.place to i ≡ x ∷ []
      → fetched z.q top.f.method top.place ≡ Some x
  fetches i at x becomes = taking.fetches z top i at x becomes

  pub return_follows : (kind : Returned) → fetched z.p top.f.method top.f.place ≡ Some (Return kind) → A (stepped z) (spot top.f top.place top.ys ∷ top.gs)
  unfolding doing
  return_follows kind at =
      taking.taken_by z top (Return kind) at (of_kinds (returned kind)) (Return kind) refl leave leave (leave_led to)
      (taking.before_is z top.f top.fs (Return kind) top.here at)
      (taking.behind_is z (spot top.f top.place top.ys) top.gs (Return kind) (fetches (Return kind) at (Return kind) refl))

  pub throw_follows : fetched z.p top.f.method top.f.place ≡ Some Throw → A (stepped z) (spot top.f top.place top.ys ∷ top.gs)
  unfolding doing
  throw_follows at =
      taking.taken_by z top Throw at (Fits throwable ∷ []) Throw refl throw throw (throw_led to)
      (taking.before_is z top.f top.fs Throw top.here at)
      (taking.behind_is z (spot top.f top.place top.ys) top.gs Throw (fetches Throw at Throw refl))

  pub switch_follows : (cases : List (ℤ × ℕ)) (other : ℕ) → fetched z.p top.f.method top.f.place ≡ Some (Switch cases other)
      → A (stepped z) (spot top.f top.place top.ys ∷ top.gs)
  unfolding doing
  switch_follows cases other at =
      taking.taken_by z top (Switch cases other) at (Of kinds.Int ∷ []) (Switch (map (led_case to) cases) (to other)) refl
      (switch cases other) (switch (map (led_case to) cases) (to other)) (switch_led to cases other)
      (taking.before_is z top.f top.fs (Switch cases other) top.here at)
      (taking.behind_is z (spot top.f top.place top.ys) top.gs (Switch (map (led_case to) cases) (to other))
      (fetches (Switch cases other) at (Switch (map (led_case to) cases) (to other)) refl))
