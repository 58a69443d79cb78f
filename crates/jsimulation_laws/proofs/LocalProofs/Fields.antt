-- Instructions with fields: they look at classes alone, and each is answered by itself.
use Rattle.std.proofs.Common.{◌≡◌, ℕ, zero, suc, Bool, List, [], ◌∷◌, Option, Some, None, option_map, refl, sym, ap, ◌∙◌, subst}
use Rattle.std.proofs.Math.Path.{fun_ext}
use Rattle.jvalues.specs.declared.jops.value.Value.TheVariants.{Int, Long, Ref, Ctx}
use Rattle.jparts.specs.declared.jcode.names.FieldOp.{FieldOp}
use Rattle.jparts.specs.declared.jcode.names.FieldOp.TheVariants as fields
use Rattle.jresolution.specs.declared.jprogram.member.Member.{Member}
use Rattle.jresolution.specs.declared.jprogram.member.MethodId.{MethodId}
use Rattle.jresolution.specs.jprogram.ProgramClasses.{Program}
use Rattle.jresolution.specs.juses.IndexedInstructions.{Used}
use Rattle.jresolution.specs.juses.InstructionMeanings.{FieldMeaning}
use Rattle.jresolution.specs.juses.InstructionMeanings as meanings
use Rattle.jctx.specs.declared.item.Item.{Item}
use Rattle.jtyping.specs.jrule.StackEffects.{Want}
use Rattle.jtyping.specs.jrule.PoolEffects.{exchange, of_field}
use Rattle.jsemantics.specs.jmachine.MachineStates.{Row, gives}
use Rattle.jsemantics.specs.jmachine.InstructionActions.{by_taken, doing, used}
use Rattle.jsemantics.specs.jmachine.FieldInstructions.{field, get_from, get_static, put_into, put_static}
use Rattle.jsemantics.specs.jmachine.TakenOperands.{taken}
use Rattle.jsemantics.specs.jmachine.MachineSteps.{fetched, own_fields}
use Rattle.jsemantics.specs.jmachine.Store.{Store, object_at, with_object}
use Rattle.jsemantics.specs.jmachine.World.{World, world}
use Rattle.jsimulation_laws.specs.between.BetweenMachines.{Noted, shadowed}
use Rattle.jsimulation_laws.specs.relation.ProgramRelation.{Moves, SameClasses}
use Rattle.jsimulation_laws.specs.relation.StateRelation.{Frame, Word, entries}
use Rattle.jsimulation_laws.proofs.LocalProofs.WorldAgreement.{field_same}
use Rattle.jsimulation_laws.proofs.LocalProofs.RelatedStates.{Newest, Scene, done_there, stepped}
use Rattle.jsimulation_laws.proofs.LocalProofs.MovedStates.{spot}
use Rattle.jsimulation_laws.proofs.LocalProofs.RowComparison as taking
use Rattle.jsimulation_laws.proofs.LocalProofs.RowComparison.{Led}

abbrev Rows : Type 0
Rows = Option (Row (List Item) Noted)

module _ (to : ℕ → ℕ) (s : Store (List Item)) (w : World) where
  each_led : {X : Type 0} (row : X → Row (List Item) Noted) → ((x : X) → Led to (Some (row x)) (Some (row x))) → (o : Option X) → Led to (option_map row o) (option_map row o)
  each_led row leads None = tt
  each_led row leads (Some x) = leads x

  one_given : (o : Option Word) → Led to (option_map (λ v. gives s (v ∷ [])) o) (option_map (λ v. gives s (v ∷ [])) o)
  one_given o = each_led (λ v. gives s (v ∷ [])) (λ v. (tt, refl)) o

  field_itself : (op : FieldOp) (m : Member) (values : List Word) → Led to (field w s op m values) (field w s op m values)
  unfolding field
  field_itself fields.GetStatic m [] = one_given (get_static w s m)
  field_itself fields.GetStatic m (v ∷ vs) = tt
  field_itself fields.PutStatic m [] = tt
  field_itself fields.PutStatic m (v ∷ []) = each_led (λ t. gives t []) (λ t. (tt, refl)) (put_static w s m v)
  field_itself fields.PutStatic m (v ∷ u ∷ vs) = tt
  field_itself fields.GetField m [] = tt
  field_itself fields.GetField m (Int x ∷ []) = tt
  field_itself fields.GetField m (Int x ∷ v ∷ vs) = tt
  field_itself fields.GetField m (Long x ∷ []) = tt
  field_itself fields.GetField m (Long x ∷ v ∷ vs) = tt
  field_itself fields.GetField m (Ctx x ∷ []) = tt
  field_itself fields.GetField m (Ctx x ∷ v ∷ vs) = tt
  field_itself fields.GetField m (Ref zero ∷ []) = (tt, refl)
  field_itself fields.GetField m (Ref zero ∷ v ∷ vs) = tt
  field_itself fields.GetField m (Ref (suc n) ∷ []) = one_given (get_from w m (object_at s (suc n)))
  field_itself fields.GetField m (Ref (suc n) ∷ v ∷ vs) = tt
  field_itself fields.PutField m [] = tt
  field_itself fields.PutField m (u ∷ []) = tt
  field_itself fields.PutField m (u ∷ Int x ∷ []) = tt
  field_itself fields.PutField m (u ∷ Int x ∷ v ∷ vs) = tt
  field_itself fields.PutField m (u ∷ Long x ∷ []) = tt
  field_itself fields.PutField m (u ∷ Long x ∷ v ∷ vs) = tt
  field_itself fields.PutField m (u ∷ Ctx x ∷ []) = tt
  field_itself fields.PutField m (u ∷ Ctx x ∷ v ∷ vs) = tt
  field_itself fields.PutField m (u ∷ Ref zero ∷ []) = (tt, refl)
  field_itself fields.PutField m (u ∷ Ref zero ∷ v ∷ vs) = tt
  field_itself fields.PutField m (u ∷ Ref (suc n) ∷ []) = each_led (λ x. gives (with_object s (suc n) x) []) (λ x. (tt, refl)) (put_into w m u (object_at s (suc n)))
  field_itself fields.PutField m (u ∷ Ref (suc n) ∷ v ∷ vs) = tt

field_led : (to : ℕ → ℕ) (s : Store (List Item)) (w v : World) → SameClasses w v → (op : FieldOp) (m : Member) (values : List Word)
    → Led to (field w s op m values) (field v s op m values)
field_led to s w v same op m values =
    subst (λ (o : Rows). Led to (field w s op m values) o) (sym (field_same {E = Noted} w v same s op m values)) (field_itself to s w op m values)

-- what is taken: the fields that may be written before `this` is initialised are the same
abbrev wants_of : Program → MethodId → FieldOp → FieldMeaning → List Want
wants_of p m op x = (of_field (own_fields p m) ((world p).named m.class) op x).takes

wants_same : (p q : Program) → Moves p q → (m : MethodId) (op : FieldOp) (x : FieldMeaning) → wants_of q m op x ≡ wants_of p m op x
wants_same p q moves m op x =
    ap (λ (own : Member → Bool). (of_field own ((world q).named m.class) op x).takes) (fun_ext (λ (y : Member). moves.own m y))
    ∙ ap (λ n. (of_field (own_fields p m) (n m.class) op x).takes) moves.classes.named

module _ (z : Scene) (top : Newest z) where
  abbrev g : Frame
  g = spot top.f top.place top.ys

  pub field_follows : (op : FieldOp) (m : FieldMeaning) → fetched z.p top.f.method top.f.place ≡ Some (Used (meanings.Field op m)) → taking.A z (stepped z) (g ∷ top.gs)
  unfolding doing used exchange
  field_follows op m at =
      taking.taken_by z top (Used (meanings.Field op m)) at (wants_of z.p top.f.method op m) (Used (meanings.Field op m)) refl
      (field (world z.p) z.s.store op m.member) (field (world z.q) z.s.store op m.member)
      (field_led top.new.frame.code.at z.s.store (world z.p) (world z.q) z.moves.classes op m.member)
      (taking.before_is z top.f top.fs (Used (meanings.Field op m)) top.here at)
      (taking.behind_is z g top.gs (Used (meanings.Field op m))
      (taking.fetches z top (Used (meanings.Field op m)) at (Used (meanings.Field op m)) refl)
      ∙ ap
      (λ (wants : List Want). done_there z (g ∷ top.gs) top.gs
      (by_taken (shadowed z.has) (taking.at_behind z g top.gs) (own_fields z.q g.method) z.s.store (entries (g ∷ top.gs)) z.s.running.inherited g
      (taken (world z.q) z.s.store wants top.f.operands) (field (world z.q) z.s.store op m.member)))
      (wants_same z.p z.q z.moves top.f.method op m))
