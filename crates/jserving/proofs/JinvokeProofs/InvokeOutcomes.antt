-- What a call comes to.
use Rattle.std.proofs.Common.{◌≡◌, ◌∙◌, ℕ, zero, suc, List, length, take, Option, Some, None, refl, sym, ap, subst}
use Rattle.std.specs.Prelude.{IfOk, Ok, Err, Result, is_some, option_map, slice_get, if◌then◌else◌}
use Rattle.std.proofs.lemmas.Option.{slice_get-map}
use Rattle.jclass.specs.declared.class.CodeBody.{CodeBody}
use Rattle.jmemory.specs.declared.jheap.cell.Kind.{Kind}
use Rattle.jmemory.specs.declared.jheap.cell.Kind.TheVariants as kinds
use Rattle.jmemory.specs.jheap.Heaps as heaps
use Rattle.jmemory.specs.jheap.Heaps.{Heaped, kind_at}
use Rattle.jvalues.specs.declared.jops.value.Value.{Value}
use Rattle.jvalues.specs.declared.jops.value.Value.TheVariants.{Int, Long, Ref, Ctx}
use Rattle.jresolution.specs.declared.jprogram.member.CallKind.TheVariants as call_kinds
use Rattle.jresolution.specs.declared.jprogram.member.MethodId.{MethodId}
use Rattle.jresolution.specs.declared.jprogram.member.Selected.{Selected}
use Rattle.jresolution.specs.declared.jprogram.member.Selected.TheVariants as selected
use Rattle.jresolution.specs.declared.jprogram.part.CodePart.{CodePart}
use Rattle.jresolution.specs.jprogram.ProgramClasses.{Program}
use Rattle.jtypes.specs.declared.vtype.VType.TheVariants as types
use Rattle.jresolution.specs.declared.juses.meaning.InvokeKind.{InvokeKind}
use Rattle.jresolution.specs.declared.juses.meaning.InvokeKind.TheVariants as how
use Rattle.jresolution.specs.juses.IndexedInstructions.{code_at}
use Rattle.jresolution.specs.juses.InstructionMeanings.{Call, CallMeaning, Meaning, meant}
use Rattle.jresolution.specs.juses.PoolTables.{pool_at}
use Rattle.jsemantics.specs.jmachine.CallTargets.{is_hidden, receiver}
use Rattle.jsemantics.specs.jmachine.FrameOperations.{domain_in}
use Rattle.jsemantics.specs.jmachine.HeapObjects.{Object, class_of}
use Rattle.jsemantics.specs.jmachine.Store.{Store, object_of}
use Rattle.jsemantics.specs.jmachine.World.{is_instance, world}
use Rattle.jready.specs.DecodedInstructions.{call_form}
use Rattle.jruntime.specs.jstate.FrameLists.{Framed, all}
use Rattle.jruntime.specs.declared.jstate.shapes.Shapes.{Shapes}
use Rattle.jruntime.specs.jstate.HeapMeanings.{Things, object_by, store_by}
use Rattle.jruntime.specs.jstate.HeapMeaningLaws.{SeesEach}
use Rattle.jrows.specs.declared.jcalls.calls.Called.{Called}
use Rattle.jrows.specs.declared.jcalls.calls.Selection.{Selection}
use Rattle.jrows.specs.declared.jcalls.calls.Selection.TheVariants as found
use Rattle.jrows.specs.declared.jcalls.receiver.Receiver.{Receiver}
use Rattle.jrows.specs.declared.jcalls.receiver.Receiver.TheVariants as receivers
use Rattle.jrows.specs.jcalls.MethodCalls.{CallStands, CallsByInterface, CallsOn, CallsStanding, CallsStatic, FoundWithin, IsByClass, IsFound, IsFoundOn, IsHiddenOn, IsOfInterface, found_as, id_by, receiver_seen, selected_on}
use Rattle.jrows.specs.jcalls.FrameMarks.{Stand, marks_of}
use Rattle.jserving.specs.declared.jinvoke.choosing.Answer.{Answer}
use Rattle.jserving.specs.declared.jinvoke.choosing.Chosen.{Chosen}
use Rattle.jserving.specs.declared.jinvoke.choosing.Chosen.TheVariants as chosens
use Rattle.jserving.specs.declared.jinvoke.choosing.CallKey.{CallKey}
use Rattle.jserving.specs.jinvoke.Answers.{answer, answer_by, answer_to, chosen, id_on, in_meaning, key, locals_in, number_by, stack_in}
use Rattle.jserving.specs.jinvoke.InvokeOutcomes.{CallWithin, Invokes, IsMarked, answer_at, callee, marked}
use Rattle.jserving.proofs.JinvokeProofs.ObjectClasses.{instance_at}
use Rattle.jserving.proofs.JinvokeProofs.SelectedClasses.{answer_marked, at_marked}

-- ---- frames of what is selected

module _ {E : Type 0} (entry_of : ℕ → E) (p : Program) (what : Selection E) where
  abbrev entry_in : CodePart → E
  entry_in part = entry_of part.domain

  coded : (body : Option CodeBody) → option_map (λ (b : CodeBody). b.max_locals) body ≡ (if is_some body then Some (locals_in body) else None)
  coded None = refl
  coded (Some body) = refl

  method_found : (m : MethodId) (o : Option CodePart) → slice_get p.parts m.class ≡ o
      → Some what ≡ option_map (λ mark. found.Method (callee m (is_some (code_at p m)) (locals_in (code_at p m)) (stack_in (code_at p m)) mark)) (option_map entry_in o)
      → IsFound entry_of p what (selected.Method m)
  method_found m None at e = absurd cc
  method_found m (Some part) at e =
      let same : found.Method (callee m (is_some (code_at p m)) (locals_in (code_at p m)) (stack_in (code_at p m)) (entry_in part)) ≡ what = cc in
      subst (λ w. IsFound entry_of p w (selected.Method m)) same (
        refl,
        record {
          code = coded (code_at p m);
          mark = ap (λ o. entry_of (domain_in o))
              (sym at);
        },
      )

  pub is_found : (marks : List E) (s : Selected) → marks ≡ marks_of entry_of p → Some what ≡ marked marks (chosen p s) → IsFound entry_of p what s
  is_found marks (selected.Method m) are e =
      method_found m (slice_get p.parts m.class) refl
      (e ∙ ap (option_map (λ mark. found.Method (callee m (is_some (code_at p m)) (locals_in (code_at p m)) (stack_in (code_at p m)) mark)))
      (ap (λ (ms : List E). slice_get ms m.class) are ∙ slice_get-map entry_in p.parts m.class))
  is_found marks (selected.Lib call) are e =
      let same : found.Lib call ≡ what = cc in
      subst (λ w. IsFound entry_of p w (selected.Lib call)) same refl
  is_found marks (selected.Abstract m) are e =
      let same : found.Abstract ≡ what = cc in
      subst (λ w. IsFound entry_of p w (selected.Abstract m)) same (m, refl)
  is_found marks selected.Missing are e =
      let same : found.Missing ≡ what = cc in
      subst (λ w. IsFound entry_of p w selected.Missing) same refl

-- ---- answers

known_answer : (p : Program) (k : CallKey) (way : InvokeKind) (c : CallMeaning) → meant p (pool_at p k.class) (call_form k.by k.pool) ≡ Some (Call way c)
    → answer p k ≡ answer_by p k c
unfolding answer
known_answer p k way c means = ap (λ (o : Option Meaning). answer_to p k (in_meaning o)) means

pub kind_on : (kind : Kind) → id_on (number_by kind) ≡ id_by kind
kind_on (kinds.Object n) = refl
kind_on (kinds.Array a) = refl
kind_on kinds.Text = refl
kind_on kinds.Piece = refl

pub static_marked : (p : Program) (class other : ℕ) (pool : ℕ) (a : Answer) (n : ℕ) → class ≡ other → n ≡ length p.parts → CallWithin p other how.Static pool
    → a ≡ answer p (key class how.Static pool None) → IsMarked n a.what
static_marked p class other pool a n same len within is =
    subst (λ (b : Answer). IsMarked n b.what) (sym is)
    (subst (λ m. IsMarked m (answer p (key class how.Static pool None)).what) (sym len)
    (answer_marked p (key class how.Static pool None) (subst (λ c. CallWithin p c how.Static pool) (sym same) within)))

pub on_marked : (p : Program) (class other : ℕ) (by : InvokeKind) (pool : ℕ) (on : Receiver) (a : Answer) (n : ℕ) → class ≡ other → n ≡ length p.parts
    → CallWithin p other by pool → a ≡ answer_at p class by pool on → IsMarked n a.what
on_marked p class other by pool on a n same len within is =
    subst (λ (b : Answer). IsMarked n b.what) (sym is)
    (subst (λ m. IsMarked m (answer_at p class by pool on).what) (sym len)
    (at_marked p class by pool on (subst (λ c. CallWithin p c by pool) (sym same) within)))

-- ---- calls

module _ {E : Type 0} (p : Program) (pool : ℕ) (marks : List E) (h : Heaped) (count depth : ℕ) (f g : Framed E) (a : Answer) (what : Selection E)
    (picked : Some what ≡ marked marks a.what) where
  abbrev class : ℕ
  class = f.newest.method.class

  static_one : (way : Called) → a ≡ answer p (key class how.Static pool None) → CallsStatic count what depth f way g
      → Invokes p how.Static pool marks h count depth f way g
  static_one way is l r plan s shapes things constants c means are seen d takes =
      let known = is ∙ known_answer p (key class how.Static pool None) how.Static c means in
      l r p plan s c d takes
      (is_found r.entry_of p what marks (selected_on (world p) class how.Static c (id_on None)) are (picked ∙ ap (λ (b : Answer). marked marks b.what) known))

  pub static_invoked : {F : Type 0} (other : ℕ) (way : Result Called F) → other ≡ class → a ≡ answer p (key other how.Static pool None)
      → IfOk way (λ w. CallsStatic count what depth f w g)
      → IfOk way (λ w. Invokes p how.Static pool marks h count depth f w g)
  static_invoked other (Ok way) same is l = static_one way (is ∙ ap (λ c. answer p (key c how.Static pool None)) same) l
  static_invoked other (Err e) same is l = tt

  module _ (by : InvokeKind) where
    found_on : (entry_of : ℕ → E) (c : CallMeaning) (on : Receiver) → meant p (pool_at p class) (call_form by pool) ≡ Some (Call by c)
        → marks ≡ marks_of entry_of p → a ≡ answer_at p class by pool on → IsFoundOn entry_of p class by c what on
    found_on entry_of c receivers.Missing means are is = tt
    found_on entry_of c receivers.Null means are is = tt
    found_on entry_of c (receivers.Object kind) means are is =
        let known = is ∙ known_answer p (key class by pool (number_by kind)) by c means in
        subst (λ on. IsFound entry_of p what (selected_on (world p) class by c on)) (kind_on kind)
        (is_found entry_of p what marks (selected_on (world p) class by c (id_on (number_by kind))) are (picked ∙ ap (λ (b : Answer). marked marks
        b.what) known))

    on_one : (way : Called) (on : Receiver) → IsByClass by → a ≡ answer_at p class by pool on → on ≡ receiver_seen h (receiver (take count f.newest.operands))
        → CallsOn on count what depth f way g → Invokes p by pool marks h count depth f way g
    on_one way on is_by is at l r plan s shapes things constants c means are seen d takes =
        l r p plan s shapes things constants h by c is_by seen at d takes (found_on r.entry_of c on means are is)

    pub on_invoked : {F : Type 0} (other : ℕ) (way : Result Called F) (on : Receiver) → other ≡ class → IsByClass by → a ≡ answer_at p other by pool on
        → on ≡ receiver_seen h (receiver (take count f.newest.operands)) → IfOk way (λ w. CallsOn on count what depth f w g)
        → IfOk way (λ w. Invokes p by pool marks h count depth f w g)
    on_invoked other (Ok way) on same is_by is at l = on_one way on is_by (is ∙ ap (λ c. answer_at p c by pool on) same) at l
    on_invoked other (Err e) on same is_by is at l = tt

  module _ (law : SeesEach) (c : CallMeaning) (means : meant p (pool_at p class) (call_form how.Interface pool) ≡ Some (Call how.Interface c)) where
    known_on : (kind : Kind) → a ≡ answer_at p class how.Interface pool (receivers.Object kind)
        → a ≡ answer_by p (key class how.Interface pool (number_by kind)) c
    known_on kind is = is ∙ known_answer p (key class how.Interface pool (number_by kind)) how.Interface c means

    hidden_on : (on : Receiver) → a ≡ answer_at p class how.Interface pool on → IsHiddenOn p c on a.hidden
    hidden_on receivers.Missing is = tt
    hidden_on receivers.Null is = tt
    hidden_on (receivers.Object kind) is =
        ap (λ on. is_hidden (world p) ((world p).select on c.member call_kinds.Interface)) (sym (kind_on kind)) ∙ sym (ap (λ (b : Answer). b.hidden)
        (known_on kind is))

    module _ (shapes : Shapes) (things : Things) (constants : List (List ℕ × ℕ)) where
      abbrev store : Store ℕ
      store = store_by p shapes things constants h

      has_kind : (o : ℕ) (x : Object ℕ) (on : Receiver) (k : Option Kind) → kind_at h (suc o) ≡ k → on ≡ found_as k
          → a ≡ answer_at p class how.Interface pool on
          → object_of store (Ref (suc o)) ≡ Some x → is_instance (world p) (class_of (world p).named x) (types.Object c.owner) ≡ a.has
      has_kind o x on None is at known held = absurd (nothing_there (heaps.object_at h (suc o)) refl is)
        where
          nothing_there : (y : Option heaps.Object) → heaps.object_at h (suc o) ≡ y → option_map (λ (z : heaps.Object). z.kind) y ≡ None → ⊥
          nothing_there None e n = let none : object_of store (Ref (suc o)) ≡ None = law p shapes things constants h (suc o) ∙ ap (option_map
              (object_by p shapes h.objects things)) e in cc
          nothing_there (Some y) e n = cc
      has_kind o x on (Some kind) is at known held =
          let one = subst (λ on. a ≡ answer_at p class how.Interface pool on) at known in
          instance_at law p shapes things constants h (suc o) kind x c.owner is held ∙ sym (ap (λ (b : Answer). b.has) (known_on kind one))

      has_at : (on : Receiver) (v : Value ℕ) (x : Object ℕ) → on ≡ receiver_seen h (Some v) → a ≡ answer_at p class how.Interface pool on
          → object_of store v ≡ Some x → is_instance (world p) (class_of (world p).named x) (types.Object c.owner) ≡ a.has
      has_at on (Int n) x at known held = absurd cc
      has_at on (Long n) x at known held = absurd cc
      has_at on (Ctx n) x at known held = absurd cc
      has_at on (Ref zero) x at known held = absurd cc
      has_at on (Ref (suc o)) x at known held = has_kind o x on (kind_at h (suc o)) refl at known held

      has_on : (on : Receiver) (values : List (Value ℕ)) → on ≡ receiver_seen h (receiver values) → a ≡ answer_at p class how.Interface pool on
          → IsOfInterface p store c values a.has
      has_on on values at known v x is held = has_at on v x (at ∙ ap (receiver_seen h) is) known held

  face_one : SeesEach → (way : Called) (on : Receiver) → a ≡ answer_at p class how.Interface pool on
      → on ≡ receiver_seen h (receiver (take count f.newest.operands)) → CallsByInterface on count what a.has a.hidden depth f way g
      → Invokes p how.Interface pool marks h count depth f way g
  face_one law way on is at l r plan s shapes things constants c means are seen d takes =
      l r p plan s shapes things constants h c seen at d takes (found_on how.Interface r.entry_of c on means are is)
      (subst (λ t. IsOfInterface p t c (take count f.newest.operands) a.has) (sym seen)
      (has_on law c means shapes things constants on (take count f.newest.operands) at is))
      (hidden_on law c means on is)

  pub face_invoked : {F : Type 0} → SeesEach → (other : ℕ) (way : Result Called F) (on : Receiver) → other ≡ class
      → a ≡ answer_at p other how.Interface pool on
      → on ≡ receiver_seen h (receiver (take count f.newest.operands)) → IfOk way (λ w. CallsByInterface on count what a.has a.hidden depth f w g)
      → IfOk way (λ w. Invokes p how.Interface pool marks h count depth f w g)
  face_invoked law other (Ok way) on same is at l = face_one law way on (is ∙ ap (λ c. answer_at p c how.Interface pool on) same) at l
  face_invoked law other (Err e) on same is at l = tt

-- a call is by the case that it is
pub invokes_as : {E F : Type 0} (p : Program) (by case : InvokeKind) (pool : ℕ) (marks : List E) (h : Heaped) (count depth : ℕ) (f g : Framed E) (way :
    Result Called F)
    → by ≡ case → IfOk way (λ w. Invokes p case pool marks h count depth f w g) → IfOk way (λ w. Invokes p by pool marks h count depth f w g)
invokes_as p by case pool marks h count depth f g way e l = subst (λ b. IfOk way (λ w. Invokes p b pool marks h count depth f w g)) (sym e) l

-- ---- the frames that a call leaves

module _ {E : Type 0} (marks : List E) where
  pub found_within : (what : Selection E) (c : Chosen) → Some what ≡ marked marks c → IsMarked (length marks) c → FoundWithin (length marks) what
  found_within what (chosens.Method m has_code most stack) e within = by_mark (slice_get marks m.class) e
    where
      by_mark : (o : Option E) → Some what ≡ option_map (λ mark. found.Method (callee m has_code most stack mark)) o → FoundWithin (length marks) what
      by_mark None h = absurd cc
      by_mark (Some mark) h =
          let same : found.Method (callee m has_code most stack mark) ≡ what = cc in
          subst (λ w. FoundWithin (length marks) w) same within
  found_within what (chosens.Lib call) e within = let same : found.Lib call ≡ what = cc in subst (λ w. FoundWithin (length marks) w) same tt
  found_within what chosens.Abstract e within = let same : found.Abstract ≡ what = cc in subst (λ w. FoundWithin (length marks) w) same tt
  found_within what chosens.Missing e within = let same : found.Missing ≡ what = cc in subst (λ w. FoundWithin (length marks) w) same tt

  pub stands_on : {F : Type 0} (r : Result Called F) (what : Selection E) (c : Chosen) (f g : Framed E) → Some what ≡ marked marks c → IsMarked (length marks) c
      → IfOk r (λ way. CallsStanding what f way g) → Stand (length marks) (all f) → IfOk r (λ way. CallStands (length marks) way g)
  stands_on (Ok way) what c f g e within stands s = stands (length marks) (found_within what c e within) s
  stands_on (Err e) what c f g is within stands s = tt
