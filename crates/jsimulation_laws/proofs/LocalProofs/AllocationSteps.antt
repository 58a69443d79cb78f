-- Instructions that make objects and arrays, and those with arrays: each is answered by itself.
use Rattle.std.proofs.Common.{◌≡◌, ℕ, List, [], ◌∷◌, Option, Some, None, option_map, refl, sym, ap, ◌∙◌, subst}
use Rattle.jparts.specs.declared.jcode.op_form.ArrayForm.{ArrayForm}
use Rattle.jtypes.specs.declared.vtype.Name.{Name}
use Rattle.jtypes.specs.declared.vtype.VType.{VType}
use Rattle.jresolution.specs.declared.jprogram.part.ClassRef.{ClassRef}
use Rattle.jresolution.specs.declared.jprogram.part.ClassRef.TheVariants as refs
use Rattle.jresolution.specs.juses.IndexedInstructions.{Array, Used}
use Rattle.jresolution.specs.juses.InstructionMeanings as meanings
use Rattle.jctx.specs.declared.item.Item.{Item}
use Rattle.jtyping.specs.jrule.StackEffects.{Of}
use Rattle.jtyping.specs.jrule.PoolEffects.{exchange}
use Rattle.jvalues.specs.declared.jnames.kinds.Kind.TheVariants as kinds
use Rattle.jsemantics.specs.jmachine.MachineStates.{Row}
use Rattle.jsemantics.specs.jmachine.ArrayInstructions as arrays
use Rattle.jsemantics.specs.jmachine.InstructionActions.{array_wants, doing, used}
use Rattle.jsemantics.specs.jmachine.ObjectInstructions.{make, new, object_of, user_object}
use Rattle.jsemantics.specs.jmachine.MachineSteps.{fetched}
use Rattle.jsemantics.specs.jmachine.Store.{Store}
use Rattle.jsemantics.specs.jmachine.World.{World, world}
use Rattle.jsimulation_laws.specs.between.BetweenMachines.{Noted}
use Rattle.jsimulation_laws.specs.relation.ProgramRelation.{SameClasses}
use Rattle.jsimulation_laws.specs.relation.StateRelation.{Frame, Word}
use Rattle.jsimulation_laws.proofs.LocalProofs.RelatedStates.{Newest, Scene, stepped}
use Rattle.jsimulation_laws.proofs.LocalProofs.LibraryRowSteps.{array_led, make_itself}
use Rattle.jsimulation_laws.proofs.LocalProofs.WorldAgreement.{calling_as, world_is}
use Rattle.jsimulation_laws.proofs.LocalProofs.MovedStates.{spot}
use Rattle.jsimulation_laws.proofs.LocalProofs.RowComparison as taking
use Rattle.jsimulation_laws.proofs.LocalProofs.RowComparison.{Led}

abbrev Rows : Type 0
Rows = Option (Row (List Item) Noted)

module _ (s : Store (List Item)) (w v : World) (same : SameClasses w v) where
  object_seen : (i : ℕ) → user_object {K = List Item} (calling_as w v) i ≡ user_object w i
  object_seen i = refl

  object_same : (i : ℕ) → user_object {K = List Item} v i ≡ user_object w i
  object_same i = ap (λ x. user_object x i) (world_is w v same) ∙ object_seen i

  new_same : (o : Option ClassRef) → option_map (λ r. new {E = Noted} s (object_of v r)) o ≡ option_map (λ r. new s (object_of w r)) o
  new_same None = refl
  new_same (Some (refs.User i)) = ap (λ x. Some (new s x)) (object_same i)
  new_same (Some (refs.Lib c)) = refl

  new_led : (to : ℕ → ℕ) (o : Option ClassRef) → Led to (option_map (λ r. new {E = Noted} s (object_of w r)) o) (option_map (λ r. new s (object_of w r)) o)
  new_led to None = tt
  new_led to (Some r) = (tt, refl)

  make_led : (to : ℕ → ℕ) (c : Name) → v.class c ≡ w.class c → (values : List Word) → Led to (make w s c values) (make v s c values)
  unfolding make
  make_led to c e [] =
      subst (λ (o : Rows). Led to (option_map (λ r. new s (object_of w r)) (w.class c)) o)
      (sym (ap (λ o. option_map (λ r. new s (object_of v r)) o) e ∙ new_same (w.class c))) (new_led to (w.class c))
  make_led to c e (x ∷ xs) = tt

module _ (z : Scene) (top : Newest z) where
  abbrev to : ℕ → ℕ
  to = top.new.frame.code.at

  abbrev g : Frame
  g = spot top.f top.place top.ys

  pub array_follows : (form : ArrayForm) → fetched z.p top.f.method top.f.place ≡ Some (Array form) → taking.A z (stepped z) (g ∷ top.gs)
  unfolding doing
  array_follows form at =
      taking.taken_by z top (Array form) at (array_wants form) (Array form) refl (arrays.array (world z.p) z.s.store form) (arrays.array (world z.q) z.s.store form)
      (array_led to z.s.store (world z.p) (world z.q) z.moves.classes form)
      (taking.before_is z top.f top.fs (Array form) top.here at)
      (taking.behind_is z g top.gs (Array form) (taking.fetches z top (Array form) at (Array form) refl))

  pub make_follows : (c : Name) → fetched z.p top.f.method top.f.place ≡ Some (Used (meanings.Make c)) → taking.A z (stepped z) (g ∷ top.gs)
  unfolding doing used exchange
  make_follows c at =
      taking.taken_by z top (Used (meanings.Make c)) at [] (Used (meanings.Make c)) refl (make (world z.p) z.s.store c) (make (world z.q) z.s.store c)
      (make_led z.s.store (world z.p) (world z.q) z.moves.classes to c (z.moves.makes top.f.method top.f.place c at))
      (taking.before_is z top.f top.fs (Used (meanings.Make c)) top.here at)
      (taking.behind_is z g top.gs (Used (meanings.Make c)) (taking.fetches z top (Used (meanings.Make c)) at (Used (meanings.Make c)) refl))

  pub make_array_follows : (t : VType) → fetched z.p top.f.method top.f.place ≡ Some (Used (meanings.MakeArray t)) → taking.A z (stepped z) (g ∷ top.gs)
  unfolding doing used exchange
  make_array_follows t at =
      taking.taken_by z top (Used (meanings.MakeArray t)) at (Of kinds.Int ∷ []) (Used (meanings.MakeArray t)) refl (arrays.make z.s.store t) (arrays.make z.s.store t)
      (make_itself to z.s.store t)
      (taking.before_is z top.f top.fs (Used (meanings.MakeArray t)) top.here at)
      (taking.behind_is z g top.gs (Used (meanings.MakeArray t)) (taking.fetches z top (Used (meanings.MakeArray t)) at (Used (meanings.MakeArray t)) refl))
