-- What calls by interfaces of the library come to.
use Rattle.std.proofs.Common.{◌≡◌, ◌∙◌, inl, inr, ℕ, zero, suc, Bool, true, false, not, List, length, Option, Some, None, refl, sym, ap, ap₂, subst}
use Rattle.std.specs.Prelude.{option_map}
use Rattle.jground.specs.jbase.FirstFaults.{fault_if, or_else}
use Rattle.jmemory.specs.declared.jheap.cell.Kind.{Kind}
use Rattle.jmemory.specs.jheap.Heaps as heaps
use Rattle.jmemory.specs.jheap.Heaps.{Heaped, kind_at}
use Rattle.jlib.specs.declared.calls.LibCall.{LibCall}
use Rattle.jlib.specs.declared.classes.LibClass.{LibClass}
use Rattle.jlib.specs.declared.classes.Thrown.TheVariants as thrown
use Rattle.jvalues.specs.declared.jops.value.Value.{Value}
use Rattle.jvalues.specs.declared.jops.value.Value.TheVariants.{Ref}
use Rattle.jresolution.specs.declared.jprogram.member.CallKind.TheVariants as call_kinds
use Rattle.jresolution.specs.declared.jprogram.member.ClassId.{ClassId}
use Rattle.jresolution.specs.declared.jprogram.member.Member.TheVariants.{LibMethod}
use Rattle.jresolution.specs.declared.jprogram.member.Selected.{Selected}
use Rattle.jresolution.specs.jprogram.ProgramClasses.{Program}
use Rattle.jtypes.specs.declared.vtype.VType.TheVariants as types
use Rattle.jsemantics.specs.jmachine.CallTargets as targets
use Rattle.jsemantics.specs.jmachine.CallTargets.{by_interface, is_hidden, no_access, unless, wrong_class}
use Rattle.jsemantics.specs.jmachine.HeapObjects.{Object, class_of, id_of, library_name}
use Rattle.jsemantics.specs.jmachine.Store.{object_at}
use Rattle.jsemantics.specs.jmachine.World.{is_instance, world}
use Rattle.jruntime.specs.declared.jstate.shapes.Shapes.{Shapes}
use Rattle.jruntime.specs.jstate.HeapMeanings.{Things, object_by, store_by}
use Rattle.jruntime.specs.jstate.HeapMeaningLaws.{SeesEach}
use Rattle.jrows.specs.declared.jcalls.calls.Callee.{Callee}
use Rattle.jrows.specs.declared.jcalls.calls.Selection.{Selection}
use Rattle.jrows.specs.declared.jcalls.calls.Selection.TheVariants as found
use Rattle.jrows.specs.jcalls.MethodCalls.{FoundWithin, IsFound, found_as, id_by}
use Rattle.jrows.specs.jcalls.FrameMarks.{marks_of}
use Rattle.jrows.proofs.JcallsProofs.ReceiverDispatch.{is_there}
use Rattle.jserving.specs.declared.jinvoke.choosing.Answer.{Answer}
use Rattle.jserving.specs.declared.jinvoke.choosing.Chosen.{Chosen}
use Rattle.jserving.specs.declared.jinvoke.faces.Target.{Target}
use Rattle.jserving.specs.declared.jinvoke.faces.Target.TheVariants as ways
use Rattle.jserving.specs.jinvoke.Answers.{chosen, id_on, number_by}
use Rattle.jserving.specs.jinvoke.InterfaceCalls.{FaceTarget, TargetAs, TargetWithin, face_answer, face_call, face_selected}
use Rattle.jserving.specs.jinvoke.InvokeOutcomes.{IsMarked, marked}
use Rattle.jserving.proofs.JinvokeProofs.ObjectClasses.{instance_at}
use Rattle.jserving.proofs.JinvokeProofs.InvokeOutcomes.{found_within, is_found, kind_on}
use Rattle.jserving.proofs.JinvokeProofs.SelectedClasses.{face_chosen}

-- ---- what is selected

module _ {E : Type 0} (entry_of : ℕ → E) (p : Program) (s : Selected) where
  pub overflows : (c : Callee E) (full : Bool) → full ≡ true → IsFound entry_of p (found.Method c) s
      → TargetAs entry_of p (ways.Fails thrown.StackOverflowError) (Some (targets.reached full s))
  overflows c full is at = rw (at.0, is) refl

  pub pushes : (c : Callee E) (full : Bool) → full ≡ false → IsFound entry_of p (found.Method c) s → TargetAs entry_of p (ways.Pushes c) (Some (targets.reached full s))
  pushes c full is at = rw (at.0, is) (refl, at.1)

  pub library_stuck : (call : LibCall) (full : Bool) → IsFound entry_of p (found.Lib call) s → TargetAs {E = E} entry_of p ways.Stuck (Some (targets.reached full s))
  library_stuck call full at = rw at (inr (call, refl))

  pub abstract_fails : (full : Bool) → IsFound entry_of p found.Abstract s → TargetAs {E = E} entry_of p (ways.Fails thrown.AbstractMethodError) (Some (targets.reached full s))
  abstract_fails full at = rw at.1 refl

  pub missing_fails : (full : Bool) → IsFound entry_of p found.Missing s → TargetAs {E = E} entry_of p (ways.Fails thrown.AbstractMethodError) (Some (targets.reached full s))
  missing_fails full at = rw at refl

-- ---- by what is known

abbrev target_of : Bool → Bool → Bool → Selected → targets.Target
target_of has hidden full s = unless (or_else (fault_if (not has) wrong_class) (fault_if hidden no_access)) (targets.reached full s)

module _ {E : Type 0} (entry_of : ℕ → E) (p : Program) (s : Selected) (a : Answer) (full : Bool) where
  pub wrong : a.has ≡ false → TargetAs {E = E} entry_of p (ways.Fails thrown.IncompatibleClassChangeError) (Some (target_of a.has a.hidden full s))
  wrong missing = rw missing refl

  pub hidden : a.has ≡ true → a.hidden ≡ true → TargetAs {E = E} entry_of p (ways.Fails thrown.IllegalAccessError) (Some (target_of a.has a.hidden full s))
  hidden has is = rw (has, is) refl

  pub reached_so : (marks : List E) (what : Selection E) (t : Target E) → a.has ≡ true → a.hidden ≡ false → Some what ≡ marked marks a.what
      → marks ≡ marks_of entry_of p → a.what ≡ chosen p s
      → ((entry_of : ℕ → E) (p : Program) (s : Selected) → IsFound entry_of p what s → TargetAs entry_of p t (Some (targets.reached full s)))
      → TargetAs entry_of p t (Some (target_of a.has a.hidden full s))
  reached_so marks what t has shown picked are is l =
      rw (has, shown) (l entry_of p s (is_found entry_of p what marks s are (picked ∙ ap (marked marks) is)))

abbrev ReachedWithin : {E : Type 0} → Selection E → Target E → Type 0
ReachedWithin what t = (classes : ℕ) → FoundWithin classes what → TargetWithin classes t

pub reached_within : {E : Type 0} (marks : List E) (what : Selection E) (c : Chosen) (t : Target E) → Some what ≡ marked marks c → IsMarked (length marks) c
    → ReachedWithin what t → TargetWithin (length marks) t
reached_within marks what c t picked within l = l (length marks) (found_within marks what c picked within)

-- ---- on an object

pub face_marked : (p : Program) (face : LibClass) (call : LibCall) (on : Option ℕ) (a : Answer) (n : ℕ) → a ≡ face_answer p face call on → n ≡ length p.parts → IsMarked n a.what
face_marked p face call on a n is len =
    subst (λ (b : Answer). IsMarked n b.what) (sym is) (subst (λ m. IsMarked m (face_answer p face call on).what) (sym len) (face_chosen p (id_on on) (LibMethod call)))

abbrev numbered : ℕ → Option (Value ℕ)
numbered n = Some (Ref n)

-- the object that is there
there_at : SeesEach → (p : Program) (shapes : Shapes) (things : Things) (constants : List (List ℕ × ℕ)) (h : Heaped) (kind : Kind) (o : ℕ) → kind_at h o ≡ Some kind
    → (x : Object ℕ) × (object_at (store_by p shapes things constants h) o ≡ Some x) × (id_of x ≡ id_by kind)
there_at law p shapes things constants h kind zero at = cc
there_at law p shapes things constants h kind (suc o) at =
    let y = is_there law p shapes things constants h kind (Some (Ref (suc o))) (ap found_as (sym at)) in
    let v : numbered (suc o) ≡ numbered (suc y.before) = y.value in
    let same : suc y.before ≡ suc o = cc in
    (y.object, subst (λ n. object_at (store_by p shapes things constants h) n ≡ Some y.object) same y.held, y.class)

module _ (law : SeesEach) {E : Type 0} (p : Program) (marks : List E) (h : Heaped) (face : LibClass) (call : LibCall) (full : Bool) (o : ℕ) where
  pub no_object : kind_at h o ≡ None → FaceTarget {E = E} p marks h face call full o ways.Stuck
  no_object none entry_of shapes things constants are =
      inl (ap (option_map (by_interface (world p) full (face_call face call))) (law p shapes things constants h o ∙ by_object (heaps.object_at h o) refl))
    where
      by_object : (x : Option heaps.Object) → heaps.object_at h o ≡ x → option_map (object_by p shapes h.objects things) x ≡ None
      by_object None is = refl
      by_object (Some x) is = let some : kind_at h o ≡ Some x.kind = ap (option_map (λ (y : heaps.Object). y.kind)) is in cc

  module _ (kind : Kind) (at : kind_at h o ≡ Some kind) (a : Answer) (is : a ≡ face_answer p face call (number_by kind)) where
    -- what the definition asks of an object that is seen
    seen_so : (shapes : Shapes) (things : Things) (constants : List (List ℕ × ℕ)) (x : Object ℕ)
        → object_at (store_by p shapes things constants h) o ≡ Some x → id_of x ≡ id_by kind
        → by_interface (world p) full (face_call face call) x ≡ target_of a.has a.hidden full (face_selected p call (number_by kind))
    seen_so shapes things constants x held class =
        let on : id_of x ≡ id_on (number_by kind) = class ∙ sym (kind_on kind) in
        let has : is_instance (world p) (class_of (world p).named x) (types.Object (library_name face)) ≡ a.has =
        instance_at law p shapes things constants h o kind x (library_name face) at held ∙ sym (ap (λ (b : Answer). b.has) is) in
        let hid : is_hidden (world p) (face_selected p call (number_by kind)) ≡ a.hidden = sym (ap (λ (b : Answer). b.hidden) is) in
        ap₂ (λ (i : ClassId) (b : Bool). target_of b (is_hidden (world p) ((world p).select i (LibMethod call) call_kinds.Interface)) full
        ((world p).select i (LibMethod call) call_kinds.Interface)) on has
        ∙ ap (λ b. target_of a.has b full (face_selected p call (number_by kind))) hid

    pub one_object : (t : Target E)
        → ((entry_of : ℕ → E) (p : Program) (s : Selected) → marks ≡ marks_of entry_of p → a.what ≡ chosen p s → TargetAs entry_of p t (Some (target_of a.has a.hidden full s)))
        → FaceTarget {E = E} p marks h face call full o t
    one_object t l entry_of shapes things constants are =
        let y = there_at law p shapes things constants h kind o at in
        let so : option_map (by_interface (world p) full (face_call face call)) (object_at (store_by p shapes things constants h) o)
        ≡ Some (target_of a.has a.hidden full (face_selected p call (number_by kind))) =
        ap (option_map (by_interface (world p) full (face_call face call))) y.1 ∙ ap (λ u. Some u) (seen_so shapes things constants y.0 y.1 y.2) in
        subst (λ (u : Option targets.Target). TargetAs entry_of p t u) (sym so) (l entry_of p (face_selected p call (number_by kind)) are (ap (λ (b : Answer). b.what) is))

-- What is selected, by what it is.
pub ruleset facings = (overflows, pushes, library_stuck, abstract_fails, missing_fails)
