-- The object on which a method is called: it fits the class by which the method is named.
use Rattle.std.proofs.Common.{◌≡◌, zero, suc, Bool, true, false, List, [], ◌∷◌, ◌++◌, map, Option, Some, None, refl, ap, sym, ◌∙◌, subst}
use Rattle.std.specs.Prelude.{option_map, if◌then◌else◌}
use Rattle.jtypes.specs.declared.vtype.VType.{VType}
use Rattle.jvalues.specs.declared.jops.value.Value.{Value}
use Rattle.jvalues.specs.declared.jops.value.Value.TheVariants.{Int, Long, Ref, Ctx}
use Rattle.jtyping.specs.jrule.StackEffects.{Want, Fits}
use Rattle.jsemantics.specs.jmachine.CallTargets.{receiver}
use Rattle.jsemantics.specs.jmachine.HeapObjects.{Object, class_of, is_ready}
use Rattle.jsemantics.specs.jmachine.TakenOperands.{Taken, serves, taken, with_value, serves_as, found_type}
use Rattle.jsemantics.specs.jmachine.Store.{Store, object_at, object_of}
use Rattle.jsemantics.specs.jmachine.World.{World, fits}
use Rattle.jlinking.proofs.JlinkProofs.PresentValues.{map_is}

-- ---- the oldest of the values

pub record Received {K : Type 0} (w : World) (s : Store K) (last : Want) (values : List (Value K)) : Type 0 where
  pub value : Value K
  pub is : receiver values ≡ Some value
  pub serves_it : serves w s last value ≡ true

pub receiver_more : {K : Type 0} (v x : Value K) (values : List (Value K)) → receiver values ≡ Some x → receiver (v ∷ values) ≡ Some x
unfolding receiver
receiver_more v x [] e = absurd cc
receiver_more v x (y ∷ values) e = e

serves_if : {K : Type 0} (b : Bool) (o : Option (Taken K)) (t : Taken K) → (if b then o else None) ≡ Some t → (b ≡ true) × (o ≡ Some t)
serves_if true o t e = (refl, e)
serves_if false o t e = absurd cc

pub received : {K : Type 0} (w : World) (s : Store K) (params : List VType) (last : Want) (operands : List (Value K)) (t : Taken K) → taken w s (map Fits params ++ last ∷ []) operands ≡ Some t → Received w s last t.values
unfolding taken receiver
received w s [] last [] t e = absurd cc
received {K} w s [] last (v ∷ operands) t e =
    let both = serves_if (serves w s last v) (option_map (with_value v) (taken w s [] operands)) t e in
    let r = map_is (with_value v) (taken w s [] operands) t both.1 in
    let start : Taken K = record { values = []; below = operands } in
    let same : Some start ≡ Some r.0 = r.1 in
    let none : start ≡ r.0 = cc in
    record { value = v; is = ap (λ (x : Taken K). receiver x.values) (sym r.2) ∙ ap (λ (x : Taken K). receiver (v ∷ x.values)) (sym none); serves_it = both.0 }
received w s (a ∷ params) last [] t e = absurd cc
received {K} w s (a ∷ params) last (v ∷ operands) t e =
    let both = serves_if (serves w s (Fits a) v) (option_map (with_value v) (taken w s (map Fits params ++ last ∷ []) operands)) t e in
    let r = map_is (with_value v) (taken w s (map Fits params ++ last ∷ []) operands) t both.1 in
    let more = received w s params last operands r.0 r.1 in
    record { value = more.value; is = ap (λ (x : Taken K). receiver x.values) (sym r.2) ∙ receiver_more v more.value r.0.values more.is; serves_it = more.serves_it }

-- ---- its class

ready_is : {K : Type 0} (w : World) (want : VType) (x : Object K) (b : Bool) → serves_as w (Fits want) (if b then Some (class_of w.named x) else None) ≡ true → fits w (class_of w.named x) want ≡ true
ready_is w want x true e = e
ready_is w want x false e = absurd cc

found_fits : {K : Type 0} (w : World) (want : VType) (o : Option (Object K)) (x : Object K) → o ≡ Some x → serves_as w (Fits want) (found_type w o) ≡ true → fits w (class_of w.named x) want ≡ true
found_fits w want None x at e = absurd cc
found_fits {K} w want (Some y) x at e =
    let same : y ≡ x = cc in
    subst (λ (z : Object K). fits w (class_of w.named z) want ≡ true) same (ready_is w want y (is_ready y) e)

-- an object that serves is of a class that fits
pub object_fits : {K : Type 0} (w : World) (s : Store K) (want : VType) (v : Value K) (x : Object K) → serves w s (Fits want) v ≡ true → object_of s v ≡ Some x → fits w (class_of w.named x) want ≡ true
object_fits w s want (Ref zero) x e at = absurd cc
object_fits w s want (Ref (suc n)) x e at = found_fits w want (object_at s (suc n)) x at e
object_fits w s want (Int i) x e at = absurd cc
object_fits w s want (Long i) x e at = absurd cc
object_fits w s want (Ctx k) x e at = absurd cc
