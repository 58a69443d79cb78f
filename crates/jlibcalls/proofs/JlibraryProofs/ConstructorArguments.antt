-- What constructors of permissions are given, and what they make of it.
use Rattle.std.proofs.Common.{◌≡◌, ℕ, zero, suc, true, false, List, [], ◌∷◌, Option, Some, None, refl, sym, ap}
use Rattle.std.specs.Prelude.{Result, Ok, Err, IfOk, option_map}
use Rattle.jvalues.specs.declared.jops.value.Value.{Value}
use Rattle.jvalues.specs.declared.jops.value.Value.TheVariants.{Ctx, Int, Long, Ref}
use Rattle.jperm.specs.declared.permission.Permission as perms
use Rattle.jmemory.specs.jheap.Heaps.{Heaped}
use Rattle.jlib.specs.declared.calls.PermissionInit.{PermissionInit}
use Rattle.jresolution.specs.jprogram.ProgramClasses.{Program}
use Rattle.jsemantics.specs.jmachine.MachineStates.{Row}
use Rattle.jsemantics.specs.jmachine.PermissionCalls.{bare, init, made_in, text}
use Rattle.jsemantics.specs.jmachine.Store.{Store}
use Rattle.jsemantics.specs.jmachine.TextCalls.{units}
use Rattle.jruntime.specs.declared.jstate.shapes.Shapes.{Shapes}
use Rattle.jruntime.specs.jstate.HeapMeanings.{Things, store_by}
use Rattle.jrows.specs.jtexts.HeapTexts.{names_nothing}
use Rattle.jrows.specs.jtexts.Messages.{named_as}
use Rattle.jrows.specs.jtexts.TextCallOutcomes as rans
use Rattle.jrows.specs.declared.jtexts.ran.Ran.{Ran}
use Rattle.jrows.specs.declared.jtexts.ran.Ran.TheVariants as ran
use Rattle.jlibcalls.specs.jlibrary.LibraryOutcomes.{Constructs}
use Rattle.jlibcalls.specs.jlibrary.CallOperands.{one_in, three_in, two_in}
use Rattle.jlibcalls.proofs.JlibraryProofs.PermissionlessCalls.{same_things}

-- ---- a string, or null

pub text_null : (s : Store ℕ) (v : Value ℕ) → true ≡ names_nothing v → text s v ≡ Some None
text_null s (Ref zero) e = refl
text_null s (Ref (suc n)) e = cc
text_null s (Int x) e = cc
text_null s (Long x) e = cc
text_null s (Ctx n) e = cc

pub text_units : (s : Store ℕ) (v : Value ℕ) → false ≡ names_nothing v → text s v ≡ option_map (λ (us : List ℕ). Some us) (units s v)
text_units s (Ref zero) e = cc
text_units s (Ref (suc n)) e = refl
text_units s (Int x) e = refl
text_units s (Long x) e = refl
text_units s (Ctx n) e = refl

-- ---- rows

-- Where two rows are the same, one was done that the other says.
pub as_row : {E F : Type 0} (r : Result Ran F) (row other : Store ℕ → Option (Row ℕ E)) (before after : List perms.Permission) (h k : Heaped)
    → ((p : Program) (shapes : Shapes) (things : Things) (constants : List (List ℕ × ℕ)) → let s = store_by p shapes things constants h in row s ≡ other s)
    → IfOk r (λ came. Constructs {E = E} other before h came after k) → IfOk r (λ came. Constructs {E = E} row before h came after k)
as_row (Ok came) row other before after h k same did = λ p shapes things constants is held.
    rw (same p shapes things constants) (did p shapes things constants is held)
as_row (Err e) row other before after h k same did = tt

pub stuck_row : {E : Type 0} (row : Store ℕ → Option (Row ℕ E)) (before : List perms.Permission) (h : Heaped)
    → ((p : Program) (shapes : Shapes) (things : Things) (constants : List (List ℕ × ℕ)) → row (store_by p shapes things constants h) ≡ None)
    → Constructs {E = E} row before h ran.Stuck before h
stuck_row row before h none p shapes things constants is held =
    rw (none p shapes things constants) (ap (λ (t : Things). rans.leaves ran.Stuck [] (store_by p shapes t constants h)) (same_things things before is))

reference_is : (v : Value ℕ) (o : ℕ) → Some o ≡ named_as v → v ≡ Ref o
reference_is (Ref n) o e = let same : o ≡ n = cc in ap (λ k. Ref k) (sym same)
reference_is (Int x) o e = cc
reference_is (Long x) o e = cc
reference_is (Ctx n) o e = cc

module _ {E : Type 0} (s : Store ℕ) (cwd : List ℕ) (call : PermissionInit) where
  -- ---- the object

  pub no_object : (v : Value ℕ) → None ≡ named_as v → init {E = E} s cwd call (v ∷ []) ≡ None
  unfolding init
  no_object (Ref n) e = cc
  no_object (Int x) e = refl
  no_object (Long x) e = refl
  no_object (Ctx n) e = refl

  pub no_object_named : (name v : Value ℕ) → None ≡ named_as v → init {E = E} s cwd call (name ∷ v ∷ []) ≡ None
  unfolding init
  no_object_named name (Ref n) e = cc
  no_object_named name (Int x) e = refl
  no_object_named name (Long x) e = refl
  no_object_named name (Ctx n) e = refl

  pub no_object_with : (actions name v : Value ℕ) → None ≡ named_as v → init {E = E} s cwd call (actions ∷ name ∷ v ∷ []) ≡ None
  unfolding init
  no_object_with actions name (Ref n) e = cc
  no_object_with actions name (Int x) e = refl
  no_object_with actions name (Long x) e = refl
  no_object_with actions name (Ctx n) e = refl

  -- ---- what it is given

  pub bare_row : (v : Value ℕ) (o : ℕ) → Some o ≡ named_as v → init {E = E} s cwd call (v ∷ []) ≡ made_in s cwd call (bare o)
  unfolding init
  bare_row v o e = rw (reference_is v o e) refl

  pub no_name : (name v : Value ℕ) (o : ℕ) → Some o ≡ named_as v → text s name ≡ None → init {E = E} s cwd call (name ∷ v ∷ []) ≡ None
  unfolding init
  no_name name v o e none = rw (reference_is v o e, none) refl

  pub named_row : (name v : Value ℕ) (o : ℕ) (x : Option (List ℕ)) → Some o ≡ named_as v → text s name ≡ Some x
      → init {E = E} s cwd call (name ∷ v ∷ []) ≡ made_in s cwd call (record { name = x; actions = None; object = o })
  unfolding init
  named_row name v o x e is = rw (reference_is v o e, is) refl

  pub no_name_with : (actions name v : Value ℕ) (o : ℕ) → Some o ≡ named_as v → text s name ≡ None → init {E = E} s cwd call (actions ∷ name ∷ v ∷ []) ≡ None
  unfolding init
  no_name_with actions name v o e none = rw (reference_is v o e, none) refl

  pub no_actions : (actions name v : Value ℕ) (o : ℕ) (x : Option (List ℕ)) → Some o ≡ named_as v → text s name ≡ Some x → text s actions ≡ None
      → init {E = E} s cwd call (actions ∷ name ∷ v ∷ []) ≡ None
  unfolding init
  no_actions actions name v o x e is none = rw (reference_is v o e, is, none) refl

  pub with_row : (actions name v : Value ℕ) (o : ℕ) (x y : Option (List ℕ)) → Some o ≡ named_as v → text s name ≡ Some x → text s actions ≡ Some y
      → init {E = E} s cwd call (actions ∷ name ∷ v ∷ []) ≡ made_in s cwd call (record { name = x; actions = y; object = o })
  unfolding init
  with_row actions name v o x y e is also = rw (reference_is v o e, is, also) refl

  -- more values, or none
  pub not_given : (values : List (Value ℕ)) → None ≡ one_in values → None ≡ two_in values → None ≡ three_in values → init {E = E} s cwd call values ≡ None
  unfolding init
  not_given [] a b c = refl
  not_given (x ∷ []) a b c = cc
  not_given (x ∷ y ∷ []) a b c = cc
  not_given (x ∷ y ∷ z ∷ []) a b c = cc
  not_given (x ∷ y ∷ z ∷ w ∷ values) a b c = refl
