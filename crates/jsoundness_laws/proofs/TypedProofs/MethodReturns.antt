-- Returns in typed frames: what a method returns fits what it is said to return, where the machine asks for its kind alone.
use Rattle.std.proofs.Common.{◌≡◌, Bool, true, false, ◌&&◌, List, [], ◌∷◌, map, Option, Some, None, option_map, refl, sym, ap, subst}
use Rattle.std.specs.Prelude.{option_to_list, if◌then◌else◌}
use Rattle.jvalues.specs.declared.jnames.kinds.Kind.{Kind}
use Rattle.jvalues.specs.declared.jnames.kinds.Kind.TheVariants as kinds
use Rattle.jvalues.specs.declared.jnames.kinds.Kinds.{Kinds}
use Rattle.jvalues.specs.declared.jnames.kinds.Kinds.TheVariants as many
use Rattle.jvalues.specs.declared.jops.value.Value.{Value}
use Rattle.jparts.specs.declared.jcode.names.Returned.{Returned}
use Rattle.jparts.specs.declared.jcode.names.Returned.TheVariants as results
use Rattle.jparts.specs.jcode.InstructionForms.{returned}
use Rattle.jtypes.specs.declared.vtype.VType.{VType}
use Rattle.jtypes.specs.declared.vtype.VType.TheVariants as types
use Rattle.jtypes.specs.Assignability as checked
use Rattle.jtypes.specs.TypeFrames.{Frame, is_long}
use Rattle.jtypes.specs.ClassTrees.{Tree}
use Rattle.jresolution.specs.declared.jprogram.member.Member.{Member}
use Rattle.jresolution.specs.juses.IndexedInstructions.{Instruction}
use Rattle.jtyping.specs.jrule.StackEffects.{Fits, Of, is_int, is_of, is_ref, of_kinds}
use Rattle.jtyping.specs.jrule.InstructionContext.{Here}
use Rattle.jtyping.specs.jrule.StackOperands.{below, taken as types_taken}
use Rattle.jtyping.specs.jrule.BasicRule as rule_straight
use Rattle.jtyping.specs.jrule.BasicRule.{may_leave, returns}
use Rattle.jsemantics.specs.jmachine.MachineStates.{FrameOf, Leaves, free}
use Rattle.jsemantics.specs.jmachine.InstructionActions.{by_taken}
use Rattle.jsemantics.specs.jmachine.FrameOperations.{with_operands}
use Rattle.jsemantics.specs.jmachine.TakenOperands.{taken, with_value}
use Rattle.jsemantics.specs.jmachine.Security.{Rules}
use Rattle.jsemantics.specs.jmachine.InstructionSites.{Site}
use Rattle.jsemantics.specs.jmachine.Store.{Store}
use Rattle.jsemantics.specs.jmachine.BasicInstructions.{leave}
use Rattle.jsemantics.specs.jmachine.World.{World, fits}
use Rattle.jsoundness_laws.specs.typed.TypedActions.{CanDo}
use Rattle.jsoundness_laws.specs.typed.RuntimeAssignability.{IsValueType}
use Rattle.jsoundness_laws.specs.typed.TypedFrames.{AllHave, AllHold, News, Suits}
use Rattle.jsoundness_laws.specs.typed.TypedStores.{IsStored}
use Rattle.jsoundness_laws.specs.typed.TypedValues.{AllServe, AreOf, IsA}
use Rattle.jsoundness_laws.proofs.TypedProofs.OperandExchange.{Exchanged, taken_does, taken_leaves}
use Rattle.jsoundness_laws.proofs.TypedProofs.SubtypeTransitivity.{InOrder}
use Rattle.jsoundness_laws.proofs.TypedProofs.Flows.{leave_row}
use Rattle.jsoundness_laws.proofs.TypedProofs.Locals.{if_some}
use Rattle.jsoundness_laws.proofs.TypedProofs.ValueKinds.{array_fits, array_ref, int_fits, long_fits, null_fits, ref_fits, served}
use Rattle.jsoundness_laws.proofs.TypedProofs.TakenOperands.{IsServed}
use Rattle.jsoundness_laws.proofs.TypedProofs.WantedOperands.{has_want}

ref_value_type : (a : VType) → is_ref a ≡ true → IsValueType a
ref_value_type types.Null e = tt
ref_value_type (types.Object c) e = tt
ref_value_type (types.Array b) e = tt
ref_value_type _ e = absurd (cc)

same_rest : (a b : List VType) → Some a ≡ Some b → a ≡ b
same_rest a b e = cc

-- what fits a type is of a kind
abbrev IsKept : World → Kind → VType → Type 0
IsKept w k b = (a : VType) → fits w a b ≡ true → is_of k a ≡ true

ref_kept : (w : World) (b : VType) → is_ref b ≡ true → IsKept w kinds.Ref b
ref_kept w types.Null e a f = ap is_ref (null_fits w a f)
ref_kept w (types.Object c) e a f = ref_fits w c a f
ref_kept w (types.Array b) e a f = array_ref w a (array_fits w b a f)
ref_kept w _ e a f = absurd (cc)

module _ {K : Type 0} (w : World) (s : Store K) (here : Here) (news : News) where
  -- the machine takes a value by its kind, and it is of the type
  record TookOne (k : Kind) (b : VType) (operands : List (Value K)) (rest : List VType) : Type 0 where
    value : Value K
    under : List (Value K)
    is : taken w s (Of k ∷ []) operands ≡ Some (record { values = value ∷ []; below = under })
    of : IsA w s b value
    fit : AllHave w s here news rest under

  took_one : (t : Tree) (k : Kind) (b : VType) → IsKept w k b → IsServed w s here news t (Fits b) → (ts : List VType) (operands : List (Value K)) (rest : List VType)
      → AllHave w s here news ts operands → below t (Fits b ∷ []) ts ≡ Some rest → TookOne k b operands rest
  unfolding below taken
  took_one t k b kept serves [] operands rest fit e = absurd (cc)
  took_one t k b kept serves (a ∷ ts) [] rest fit e = absurd fit
  took_one t k b kept serves (a ∷ ts) (v ∷ operands) rest fit e =
      let test = if_some (checked.fits t a b) (Some ts) rest e in
      let x = serves a v fit.0 test.0 in record {
        value = v;
        under = operands;
        is = ap (λ c. if c then option_map (with_value v) (Some (record { values = []; below = operands })) else None) (served w s (Of k) v (record { type = x.type; is = x.is; met = kept x.type x.met }));
        of = x;
        fit = subst (λ ts. AllHave w s here news ts operands) (same_rest ts rest test.1) fit.1;
      }

module _ {K E : Type 0} (r : Rules K E) (at : Site) (own : Member → Bool) (s : Store K) (entries : List E) (inherited : Option K) (statics : List VType) (stored : IsStored at.world s statics)
    (here : Here) (news : News) (t : Tree) (same : t ≡ at.world.tree) (order : InOrder at.world.tree) (shape behind : Frame) (f : FrameOf K E) (suits : Suits at.world s here news shape f) where
  fit_served : (b : VType) → IsValueType b → IsServed at.world s here news t (Fits b)
  fit_served b value = subst (λ t. IsServed at.world s here news t (Fits b)) (sym same) (λ a v x m. has_want at.world s order here news (Fits b) a v value x m)

  abbrev Left : Instruction → Kinds → Type 0
  Left i ks = CanDo at.world s statics here i behind (by_taken r at own s entries inherited f (taken at.world s (of_kinds ks) f.operands) leave)

  left_one : (i : Instruction) (k : Kind) (b : VType) → here.returns ≡ Some b → IsKept at.world k b → IsValueType b → Exchanged t (Fits b ∷ []) None shape behind → Left i (many.One k)
  left_one i k b ret kept value x =
      let one = took_one at.world s here news t k b kept (fit_served b value) shape.stack f.operands x.rest suits.operands x.is in record {
        done = record { frame = with_operands f one.under; row = free (Leaves (one.value ∷ [])) };
        is = ap (λ o. by_taken r at own s entries inherited f o leave) one.is;
        news = news;
        does = record {
          gives = None;
          rest = x.rest;
          stack = x.stack;
          locals = subst (λ ts. AllHold at.world s here news ts f.locals) (sym x.locals) suits.locals;
          operands = one.fit;
          act = (refl, subst (λ ret. AreOf at.world s (option_to_list ret) (one.value ∷ [])) (sym ret) (one.of, tt));
        };
      }

  left_none : (i : Instruction) → here.returns ≡ None → Exchanged t [] None shape behind → Left i many.None
  left_none i ret x = taken_does r at own s entries inherited statics here news i t [] None tt leave
      (λ given h. leave_row at.world s statics stored here news i given (subst (λ ret. AreOf at.world s (option_to_list ret) given) (sym ret) (none_given given h))) shape behind f suits x
    where
      none_given : (given : List (Value K)) → AllServe at.world s [] given → AreOf at.world s [] given
      none_given [] h = tt
      none_given (v ∷ given) h = h

  left : (i : Instruction) (kind : Returned) (ret : Option VType) → here.returns ≡ ret → returns kind ret ≡ true → Exchanged t (map Fits (option_to_list ret)) None shape behind → Left i (returned kind)
  left i results.Int (Some types.Int) is e x = left_one i kinds.Int types.Int is (λ a f. ap is_int (int_fits at.world a f)) tt x
  left i results.Long (Some types.Long) is e x = left_one i kinds.Long types.Long is (λ a f. ap is_long (long_fits at.world a f)) tt x
  left i results.Ref (Some b) is e x = left_one i kinds.Ref b is (ref_kept at.world b e) (ref_value_type b e) x
  left i results.Nothing None is e x = left_none i is x
  left i _ _ is e x = absurd (cc)

  and_left : (a b : Bool) → a && b ≡ true → a ≡ true
  and_left true b e = refl
  and_left false b e = absurd (cc)

  pub leave_does : (i : Instruction) (kind : Returned) → rule_straight.leave t here.is_init here.returns kind shape ≡ Some behind → Left i (returned kind)
  leave_does i kind e =
      let allowed = may_leave here.is_init kind shape.flag in
      let test = if_some (returns kind here.returns && allowed) (types_taken t (map Fits (option_to_list here.returns)) shape) behind e in
      left i kind here.returns refl (and_left (returns kind here.returns) allowed test.0) (taken_leaves t (map Fits (option_to_list here.returns)) shape behind test.1)
