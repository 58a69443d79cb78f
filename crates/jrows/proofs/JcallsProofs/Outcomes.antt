-- What calls come to.
use Rattle.std.proofs.Common.{◌≡◌, ◌∙◌, ℕ, zero, suc, ◌-◌, ◌≤◌, Bool, true, false, List, [], ◌∷◌, length, take, drop, Some, None, refl, sym, ap, subst, arith}
use Rattle.std.specs.Prelude.{IfOk, Ok, Err, Result, slice_get}
use Rattle.jvalues.specs.declared.jops.value.Value.{Value}
use Rattle.jmemory.specs.declared.jheap.cell.Kind.{Kind}
use Rattle.jlib.specs.declared.classes.LibClass.{LibClass}
use Rattle.jresolution.specs.declared.jprogram.member.CallKind.TheVariants as call_kinds
use Rattle.jresolution.specs.jprogram.ProgramClasses.{Program}
use Rattle.jresolution.specs.declared.juses.meaning.InvokeKind.TheVariants as how
use Rattle.jsemantics.specs.declared.jmachine.plan.Plan.{Plan}
use Rattle.jsemantics.specs.jmachine.MachineStates.{State}
use Rattle.jsemantics.specs.jmachine.CallTargets.{Fails, no_access, reached, receiver, wrong_class}
use Rattle.jsemantics.specs.ProofNames.{null_pointer}
use Rattle.jsemantics.specs.jmachine.Security.{Rules}
use Rattle.jsemantics.specs.jmachine.MachineSteps.{site}
use Rattle.jsemantics.specs.jmachine.World.{world}
use Rattle.jruntime.specs.jstate.FrameLists.{Framed, holding}
use Rattle.jruntime.specs.jstate.HeapMeaningLaws.{SeesEach}
use Rattle.jrows.specs.declared.jcalls.calls.Called.{Called}
use Rattle.jrows.specs.declared.jcalls.calls.Called.TheVariants as ways
use Rattle.jrows.specs.declared.jcalls.calls.Selection.{Selection}
use Rattle.jrows.specs.declared.jcalls.receiver.Receiver.{Receiver}
use Rattle.jrows.specs.declared.jcalls.receiver.Receiver.TheVariants as receivers
use Rattle.jrows.specs.jcalls.MethodCalls.{CalledAs, Came, CallsByInterface, CallsOn, CallsStatic, Reaches, calls, comes, id_by, is_full, selected_on}
use Rattle.jrows.proofs.JcallsProofs.ReceiverDispatch.{IsThere, class_target, comes_none, comes_so, face_target, interface_null, interface_target, is_there, nothing_called, null_is, null_target, on_target, static_target}
use Rattle.jrows.proofs.JcallsProofs.MethodEntry.{fails_so}

-- ---- the oldest of some operands

receiver_last : (n : ℕ) (operands : List (Value ℕ)) → suc n ≤ length operands → receiver (take (suc n) operands) ≡ slice_get operands n
unfolding receiver
receiver_last n [] few = absurd (omega (arith, few))
receiver_last zero (v ∷ rest) few = refl
receiver_last (suc n) (v ∷ []) few = absurd (omega (arith, few))
receiver_last (suc n) (v ∷ w ∷ rest) few = receiver_last n (w ∷ rest) (omega (arith, few))

pub oldest_is : (operands : List (Value ℕ)) (count : ℕ) (v : Value ℕ) → (count ≡ 0 → ⊥) → count ≤ length operands → Some v ≡ slice_get operands (count - 1)
    → Some v ≡ receiver (take count operands)
oldest_is operands zero v some few h = absurd (some refl)
oldest_is operands (suc n) v some few h = let e : suc n - 1 ≡ n = omega arith in h ∙ ap (slice_get operands) e ∙ sym (receiver_last n operands few)

pub none_oldest : (operands : List (Value ℕ)) (count : ℕ) → count ≡ 0 → receiver (take count operands) ≡ None
unfolding receiver
none_oldest operands count is = rw is refl

-- ---- calls

module _ {E : Type 0} (count : ℕ) (what : Selection E) (depth : ℕ) (f g : Framed E) where
  static_called : (way : Called) → Reaches count what depth f way g → CallsStatic count what depth f way g
  static_called way l r p plan s c d takes is =
      rw (comes_so r p plan s f count c how.Static (reached (is_full plan f) ((world p).itself c.member)) takes (static_target r p plan s f count c))
      (l r p plan s ((world p).itself c.member) d is)

  pub all_static : {F : Type 0} (way : Result Called F) → IfOk way (λ w. Reaches count what depth f w g) → IfOk way (λ w. CallsStatic count what depth f w g)
  all_static (Ok way) l = static_called way l
  all_static (Err e) l = tt

  module _ (law : SeesEach) where
    on_called : (way : Called) (kind : Kind) → Reaches count what depth f way g → CallsOn (receivers.Object kind) count what depth f way g
    on_called way kind l r p plan s shapes things constants h by c is seen on d takes found =
        let there : IsThere s.store (receiver (take count f.newest.operands)) kind =
        rw seen (is_there law p shapes things constants h kind (receiver (take count f.newest.operands)) on) in
        let select = selected_on (world p) f.newest.method.class by c (id_by kind) in
        rw (comes_so r p plan s f count c by (reached (is_full plan f) select) takes (class_target r p plan s f count c by kind is there))
        (l r p plan s select d found)

    pub all_on : {F : Type 0} (way : Result Called F) (kind : Kind) → IfOk way (λ w. Reaches count what depth f w g)
        → IfOk way (λ w. CallsOn (receivers.Object kind) count what depth f w g)
    all_on (Ok way) kind l = on_called way kind l
    all_on (Err e) kind l = tt

    pub on_missing : CallsOn receivers.Missing count what depth f ways.Stuck g
    on_missing r p plan s shapes things constants h by c is seen on d takes found =
        comes_none r p plan s f count c by takes
        (on_target r p plan s f count c by is
        ∙ rw seen (nothing_called law p shapes things constants h (site r p plan s f.newest f.below) by c (receiver (take count f.newest.operands)) on))

    pub on_missing_at : (on : Receiver) → on ≡ receivers.Missing → CallsOn on count what depth f ways.Stuck g
    on_missing_at on e = let P : Receiver → Type 0 = λ o. CallsOn o count what depth f ways.Stuck g in subst P (sym e) on_missing

    pub all_on_at : {F : Type 0} (way : Result Called F) (on : Receiver) (kind : Kind) → on ≡ receivers.Object kind
        → IfOk way (λ w. Reaches count what depth f w g)
        → IfOk way (λ w. CallsOn on count what depth f w g)
    all_on_at way on kind e l = let P : Receiver → Type 0 = λ o. IfOk way (λ w. CallsOn o count what depth f w g) in subst P (sym e) (all_on way kind l)

    face_called : (way : Called) (kind : Kind) → Reaches count what depth f way g → CallsByInterface (receivers.Object kind) count what true false depth f way g
    face_called way kind l r p plan s shapes things constants h c seen on d takes found of hidden =
        let there : IsThere s.store (receiver (take count f.newest.operands)) kind =
        rw seen (is_there law p shapes things constants h kind (receiver (take count f.newest.operands)) on) in
        let select = (world p).select (id_by kind) c.member call_kinds.Interface in
        rw (comes_so r p plan s f count c how.Interface (reached (is_full plan f) select) takes
        (face_target r p plan s f count c kind true false there of hidden)) (l r p plan s select d found)

    pub all_faces : {F : Type 0} (way : Result Called F) (kind : Kind) → IfOk way (λ w. Reaches count what depth f w g)
        → IfOk way (λ w. CallsByInterface (receivers.Object kind) count what true false depth f w g)
    all_faces (Ok way) kind l = face_called way kind l
    all_faces (Err e) kind l = tt

    pub face_missing : (has hidden : Bool) → CallsByInterface receivers.Missing count what has hidden depth f ways.Stuck g
    face_missing has hidden r p plan s shapes things constants h c seen on d takes found of hid =
        comes_none r p plan s f count c how.Interface takes
        (interface_target r p plan s f count c
        ∙ rw seen (nothing_called law p shapes things constants h (site r p plan s f.newest f.below) how.Interface c
        (receiver (take count f.newest.operands)) on))

    pub face_missing_at : (has hidden : Bool) (on : Receiver) → on ≡ receivers.Missing → CallsByInterface on count what has hidden depth f ways.Stuck g
    face_missing_at has hidden on e =
        let P : Receiver → Type 0 = λ o. CallsByInterface o count what has hidden depth f ways.Stuck g in subst P (sym e) (face_missing has hidden)

    pub all_faces_at : {F : Type 0} (way : Result Called F) (on : Receiver) (has hidden : Bool) (kind : Kind) → on ≡ receivers.Object kind → has ≡ true
        → hidden ≡ false
        → IfOk way (λ w. Reaches count what depth f w g) → IfOk way (λ w. CallsByInterface on count what has hidden depth f w g)
    all_faces_at way on has hidden kind e h k l =
        let P : Receiver → Type 0 = λ o. IfOk way (λ w. CallsByInterface o count what has hidden depth f w g) in
        let Q : Bool → Type 0 = λ b. IfOk way (λ w. CallsByInterface (receivers.Object kind) count what b hidden depth f w g) in
        let R : Bool → Type 0 = λ b. IfOk way (λ w. CallsByInterface (receivers.Object kind) count what true b depth f w g) in
        subst P (sym e) (subst Q (sym h) (subst R (sym k) (all_faces way kind l)))

module _ {E : Type 0} (count : ℕ) (what : Selection E) (depth : ℕ) (f g : Framed E) (way : Called) (dropped : g ≡ holding (drop count f.newest.operands) f) where
  raised_as : (class : LibClass) → way ≡ ways.Raises class → (r : Rules ℕ E) (p : Program) (plan : Plan) (s : State ℕ E) (did : Came E)
      → did ≡ comes r p plan s f count (Fails class)
      → CalledAs r p plan s count f way g did
  raised_as class w r p plan s did is = rw (w, dropped, is) (fails_so count f r p plan s class)

  pub on_null : way ≡ ways.Raises null_pointer → CallsOn receivers.Null count what depth f way g
  on_null w r p plan s shapes things constants h by c is seen on d takes found =
      raised_as null_pointer w r p plan s (calls r p plan s f by c) (comes_so r p plan s f count c by (Fails null_pointer) takes
      (null_target r p plan s f count c by is (null_is h (receiver (take count f.newest.operands)) on)))

  pub face_null : (has hidden : Bool) → way ≡ ways.Raises null_pointer → CallsByInterface receivers.Null count what has hidden depth f way g
  face_null has hidden w r p plan s shapes things constants h c seen on d takes found of hid =
      raised_as null_pointer w r p plan s (calls r p plan s f how.Interface c) (comes_so r p plan s f count c how.Interface (Fails null_pointer) takes
      (interface_null r p plan s f count c (null_is h (receiver (take count f.newest.operands)) on)))

  pub without_face : SeesEach → (hidden : Bool) (kind : Kind) → way ≡ ways.Raises wrong_class
      → CallsByInterface (receivers.Object kind) count what false hidden depth f way g
  without_face law hidden kind w r p plan s shapes things constants h c seen on d takes found of hid =
      let there : IsThere s.store (receiver (take count f.newest.operands)) kind =
      rw seen (is_there law p shapes things constants h kind (receiver (take count f.newest.operands)) on) in
      raised_as wrong_class w r p plan s (calls r p plan s f how.Interface c)
      (comes_so r p plan s f count c how.Interface (Fails wrong_class) takes (face_target r p plan s f count c kind false hidden there of hid))

  pub hidden_fails : SeesEach → (kind : Kind) → way ≡ ways.Raises no_access → CallsByInterface (receivers.Object kind) count what true true depth f way g
  hidden_fails law kind w r p plan s shapes things constants h c seen on d takes found of hid =
      let there : IsThere s.store (receiver (take count f.newest.operands)) kind =
      rw seen (is_there law p shapes things constants h kind (receiver (take count f.newest.operands)) on) in
      raised_as no_access w r p plan s (calls r p plan s f how.Interface c)
      (comes_so r p plan s f count c how.Interface (Fails no_access) takes (face_target r p plan s f count c kind true true there of hid))

  pub on_null_at : (on : Receiver) → on ≡ receivers.Null → way ≡ ways.Raises null_pointer → CallsOn on count what depth f way g
  on_null_at on e w = let P : Receiver → Type 0 = λ o. CallsOn o count what depth f way g in subst P (sym e) (on_null w)

  pub face_null_at : (has hidden : Bool) (on : Receiver) → on ≡ receivers.Null → way ≡ ways.Raises null_pointer
      → CallsByInterface on count what has hidden depth f way g
  face_null_at has hidden on e w =
      let P : Receiver → Type 0 = λ o. CallsByInterface o count what has hidden depth f way g in subst P (sym e) (face_null has hidden w)

  pub without_face_at : SeesEach → (has hidden : Bool) (on : Receiver) (kind : Kind) → on ≡ receivers.Object kind → has ≡ false → way ≡ ways.Raises wrong_class
      → CallsByInterface on count what has hidden depth f way g
  without_face_at law has hidden on kind e h w =
      let P : Receiver → Type 0 = λ o. CallsByInterface o count what has hidden depth f way g in
      let Q : Bool → Type 0 = λ b. CallsByInterface (receivers.Object kind) count what b hidden depth f way g in
      subst P (sym e) (subst Q (sym h) (without_face law hidden kind w))

  pub hidden_fails_at : SeesEach → (has hidden : Bool) (on : Receiver) (kind : Kind) → on ≡ receivers.Object kind → has ≡ true → hidden ≡ true
      → way ≡ ways.Raises no_access
      → CallsByInterface on count what has hidden depth f way g
  hidden_fails_at law has hidden on kind e h k w =
      let P : Receiver → Type 0 = λ o. CallsByInterface o count what has hidden depth f way g in
      let Q : Bool → Type 0 = λ b. CallsByInterface (receivers.Object kind) count what b hidden depth f way g in
      let R : Bool → Type 0 = λ b. CallsByInterface (receivers.Object kind) count what true b depth f way g in
      subst P (sym e) (subst Q (sym h) (subst R (sym k) (hidden_fails law kind w)))
