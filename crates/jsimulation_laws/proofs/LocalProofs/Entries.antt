-- Groups of instructions with an entry of the pool that look at classes alone: constants and casts.
use Rattle.std.proofs.Common.{◌≡◌, ℕ, zero, suc, Bool, true, false, List, [], ◌∷◌, Option, Some, None, refl, sym, subst}
use Rattle.jvalues.specs.declared.jops.value.Value.TheVariants.{Int, Long, Ref, Ctx}
use Rattle.jparts.specs.declared.jcode.names.CastOp.{CastOp}
use Rattle.jparts.specs.declared.jcode.names.CastOp.TheVariants as casts
use Rattle.jtypes.specs.declared.vtype.VType.{VType}
use Rattle.jresolution.specs.juses.IndexedInstructions.{Used}
use Rattle.jresolution.specs.juses.InstructionMeanings.{Pushed}
use Rattle.jresolution.specs.juses.InstructionMeanings as meanings
use Rattle.jctx.specs.declared.item.Item.{Item}
use Rattle.jtyping.specs.jrule.PoolEffects.{exchange}
use Rattle.jtyping.specs.ProofNames.{of_cast}
use Rattle.jsemantics.specs.jmachine.MachineStates.{Row, Outcome}
use Rattle.jsemantics.specs.jmachine.InstructionActions.{doing, used}
use Rattle.jsemantics.specs.jmachine.ObjectInstructions.{cast, checked, is_one, push, tested, text_loaded, units_of}
use Rattle.jsemantics.specs.jmachine.TakenOperands.{type_of}
use Rattle.jsemantics.specs.jmachine.MachineSteps.{fetched}
use Rattle.jsemantics.specs.jmachine.Store.{Store, constant_at}
use Rattle.jsemantics.specs.jmachine.World.{World, world}
use Rattle.jsimulation_laws.specs.between.BetweenMachines.{Noted}
use Rattle.jsimulation_laws.specs.relation.ProgramRelation.{SameClasses}
use Rattle.jsimulation_laws.specs.relation.StateRelation.{Frame, Point, Word}
use Rattle.jsimulation_laws.proofs.LocalProofs.WorldAgreement.{cast_same}
use Rattle.jsimulation_laws.proofs.LocalProofs.RelatedStates.{Newest, Scene, stepped}
use Rattle.jsimulation_laws.proofs.LocalProofs.MovedStates.{spot}
use Rattle.jsimulation_laws.proofs.LocalProofs.RowComparison as taking
use Rattle.jsimulation_laws.proofs.LocalProofs.RowComparison.{Led}

abbrev Rows : Type 0
Rows = Option (Row (List Item) Noted)

module _ (to : ℕ → ℕ) (s : Store (List Item)) where
  text_led : (units : List ℕ) (o : Option ℕ) → Led to (Some (text_loaded {E = Noted} s units o)) (Some (text_loaded s units o))
  text_led units None = (tt, refl)
  text_led units (Some n) = (tt, refl)

  push_led : (c : Pushed) (values : List Word) → Led to (push s c values) (push s c values)
  unfolding push
  push_led (meanings.Int n) [] = (tt, refl)
  push_led (meanings.Int n) (v ∷ vs) = tt
  push_led (meanings.Long n) [] = (tt, refl)
  push_led (meanings.Long n) (v ∷ vs) = tt
  push_led (meanings.Text bytes) [] = text_led (units_of bytes) (constant_at s.constants (units_of bytes))
  push_led (meanings.Text bytes) (v ∷ vs) = tt

  checked_led : (v : Word) (b : Bool) → Led to (Some (checked {E = Noted} s v b)) (Some (checked s v b))
  checked_led v true = (tt, refl)
  checked_led v false = (tt, refl)

  tested_led : (b : Bool) → Led to (Some (tested {E = Noted} s b)) (Some (tested s b))
  tested_led true = (tt, refl)
  tested_led false = (tt, refl)

  cast_itself : (w : World) (op : CastOp) (t : VType) (values : List Word) → Led to (cast w s op t values) (cast w s op t values)
  unfolding cast
  cast_itself w casts.CheckCast t [] = tt
  cast_itself w casts.InstanceOf t [] = tt
  cast_itself w casts.CheckCast t (Int x ∷ []) = tt
  cast_itself w casts.InstanceOf t (Int x ∷ []) = tt
  cast_itself w casts.CheckCast t (Int x ∷ v ∷ vs) = tt
  cast_itself w casts.InstanceOf t (Int x ∷ v ∷ vs) = tt
  cast_itself w casts.CheckCast t (Long x ∷ []) = tt
  cast_itself w casts.InstanceOf t (Long x ∷ []) = tt
  cast_itself w casts.CheckCast t (Long x ∷ v ∷ vs) = tt
  cast_itself w casts.InstanceOf t (Long x ∷ v ∷ vs) = tt
  cast_itself w casts.CheckCast t (Ctx x ∷ []) = tt
  cast_itself w casts.InstanceOf t (Ctx x ∷ []) = tt
  cast_itself w casts.CheckCast t (Ctx x ∷ v ∷ vs) = tt
  cast_itself w casts.InstanceOf t (Ctx x ∷ v ∷ vs) = tt
  cast_itself w casts.CheckCast t (Ref zero ∷ []) = (tt, refl)
  cast_itself w casts.InstanceOf t (Ref zero ∷ []) = (tt, refl)
  cast_itself w casts.CheckCast t (Ref (suc n) ∷ []) = checked_led (Ref (suc n)) (is_one w t (type_of w s (Ref (suc n))))
  cast_itself w casts.InstanceOf t (Ref (suc n) ∷ []) = tested_led (is_one w t (type_of w s (Ref (suc n))))
  cast_itself w casts.CheckCast t (Ref zero ∷ v ∷ vs) = tt
  cast_itself w casts.InstanceOf t (Ref zero ∷ v ∷ vs) = tt
  cast_itself w casts.CheckCast t (Ref (suc n) ∷ v ∷ vs) = tt
  cast_itself w casts.InstanceOf t (Ref (suc n) ∷ v ∷ vs) = tt

  -- in another world a row that looks at classes alone is the same
  cast_led : (w v : World) → SameClasses w v → (op : CastOp) (t : VType) (values : List Word) → Led to (cast w s op t values) (cast v s op t values)
  cast_led w v same op t values = subst (λ (o : Rows). Led to (cast w s op t values) o) (sym (cast_same {E = Noted} w v same s op t values)) (cast_itself w op t values)

module _ (z : Scene) (top : Newest z) where
  abbrev A : Outcome Point → List Frame → Type 0
  A o gs0 = taking.A z o gs0

  abbrev to : ℕ → ℕ
  to = top.new.frame.code.at

  pub push_follows : (c : Pushed) → fetched z.p top.f.method top.f.place ≡ Some (Used (meanings.Push c)) → A (stepped z) (spot top.f top.place top.ys ∷ top.gs)
  unfolding doing used exchange
  push_follows c at =
      taking.taken_by z top (Used (meanings.Push c)) at [] (Used (meanings.Push c)) refl (push z.s.store c) (push z.s.store c) (push_led to z.s.store c)
      (taking.before_is z top.f top.fs (Used (meanings.Push c)) top.here at)
      (taking.behind_is z (spot top.f top.place top.ys) top.gs (Used (meanings.Push c))
      (taking.fetches z top (Used (meanings.Push c)) at (Used (meanings.Push c)) refl))

  pub cast_follows : (op : CastOp) (t : VType) → fetched z.p top.f.method top.f.place ≡ Some (Used (meanings.Cast op t)) → A (stepped z) (spot top.f top.place top.ys ∷ top.gs)
  unfolding doing used exchange
  cast_follows op t at =
      taking.taken_by z top (Used (meanings.Cast op t)) at (of_cast op t).takes (Used (meanings.Cast op t)) refl
      (cast (world z.p) z.s.store op t) (cast (world z.q) z.s.store op t) (cast_led to z.s.store (world z.p) (world z.q) z.moves.classes op t)
      (taking.before_is z top.f top.fs (Used (meanings.Cast op t)) top.here at)
      (taking.behind_is z (spot top.f top.place top.ys) top.gs (Used (meanings.Cast op t))
      (taking.fetches z top (Used (meanings.Cast op t)) at (Used (meanings.Cast op t)) refl))
