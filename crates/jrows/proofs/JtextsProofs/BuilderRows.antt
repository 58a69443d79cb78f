-- Builders, and what the machine's definition sees of them.
use Rattle.std.proofs.Common.{◌≡◌, ◌∙◌, ℕ, zero, suc, ◌-◌, ◌<◌, ◌≤◌, ℤ, Bool, true, false, List, [], ◌∷◌, Option, Some, None, refl, sym, ap, rules}
use Rattle.std.specs.Prelude.{option_and_then, option_map, slice_get, nat_eq, nat_lt, if◌then◌else◌, is_some, IfOk, Result, Ok, Err}
use Rattle.jvalues.specs.declared.jops.value.Value.{Value}
use Rattle.jvalues.specs.declared.jops.value.Value.TheVariants.{Int, Long, Ref, Ctx}
use Rattle.jmemory.specs.declared.jheap.cell.Kind.{Kind}
use Rattle.jmemory.specs.declared.jheap.cell.Kind.TheVariants as kinds
use Rattle.jmemory.specs.jheap.Heaps as heaps
use Rattle.jmemory.specs.jheap.Heaps.{Heaped, cells_at}
use Rattle.jlib.specs.declared.classes.LibClass.TheVariants as lib
use Rattle.jlib.specs.declared.calls.BuilderCall.TheVariants as calls
use Rattle.jlib.specs.declared.calls.PrintedType.{PrintedType}
use Rattle.jresolution.specs.declared.jprogram.part.ClassRef.{ClassRef}
use Rattle.jresolution.specs.declared.jprogram.part.ClassRef.TheVariants as refs
use Rattle.jresolution.specs.jprogram.ProgramClasses.{Program}
use Rattle.jsemantics.specs.jmachine.MachineStates.{Row}
use Rattle.jsemantics.specs.jmachine.ObjectInstructions as making
use Rattle.jsemantics.specs.jmachine.HeapObjects.{Builder}
use Rattle.jsemantics.specs.jmachine.Store.{Store, with_object}
use Rattle.jsemantics.specs.jmachine.TextCalls as definition
use Rattle.jsemantics.specs.ProofNames
use Rattle.jsemantics.specs.jmachine.TextCalls.{appended, builder, printed, units}
use Rattle.jruntime.specs.declared.jstate.shapes.Shape.{Shape}
use Rattle.jruntime.specs.declared.jstate.shapes.Shapes.{Shapes}
use Rattle.jruntime.specs.jstate.ClassNumbers.{class_numbered, library_at, library_count}
use Rattle.jruntime.specs.jstate.HeapMeanings.{Things, built, built_by, class_by, first, is_builder, kind_by, named_by, object_by, store_by, units_of, user_by}
use Rattle.jruntime.specs.jstate.HeapMeaningLaws.{SeesEach}
use Rattle.jrows.specs.jtexts.HeapBuilders.{builder_found, builder_number, last_piece, without_text}
use Rattle.jrows.specs.jtexts.HeapTexts.{names_nothing, text_number}
use Rattle.jrows.specs.jtexts.TextCallOutcomes.{Comes, Left, gave, leaves}
use Rattle.jrows.specs.jtexts.PrintedValues.{shown}
use Rattle.jrows.specs.declared.jtexts.ran.Ran.{Ran}
use Rattle.jrows.specs.declared.jtexts.ran.Ran.TheVariants as rans
use Rattle.jrows.proofs.JtextsProofs.Costs.{at_no_cost}
use Rattle.jrows.proofs.JtextsProofs.ClassNumbers.{at_number}
use Rattle.jrows.proofs.JtextsProofs.PrintRows.{printed_seen}
use Rattle.jrows.proofs.JtextsProofs.StringRows.{none_known, some_known}

-- ---- the number of StringBuilder

abbrev named : ℕ → Bool
named n = nat_eq n 33

only_builder : (n : ℕ) → is_builder (class_numbered n) ≡ named n
only_builder n = by_size (nat_lt n library_count) refl
  where
    by_size : (b : Bool) → nat_lt n library_count ≡ b → is_builder (if b then refs.Lib (library_at n) else refs.User (n - library_count)) ≡ named n
    by_size true e = let small : n < library_count = search rules in at_number (λ c. is_builder (refs.Lib c)) named refl n small
    by_size false e = let large : library_count ≤ n = search rules in let other : nat_eq n 33 ≡ false = search rules in sym other

-- ---- what the definition sees

abbrev built_as : List heaps.Object → Kind → List ℕ → Option (List ℕ)
built_as objects (kinds.Object n) cells = if named n then Some (built objects (named_by (first cells))) else None
built_as objects kind cells = None

abbrev built_found : List heaps.Object → Option heaps.Object → Option (List ℕ)
built_found objects None = None
built_found objects (Some x) = built_as objects x.kind x.cells

module _ (p : Program) (shapes : Shapes) (things : Things) (objects : List heaps.Object) where
  user_no_builder : (i : ℕ) (o : Option Shape) (cells : List ℕ) → ProofNames.built_in (Some (user_by i o cells)) ≡ None
  user_no_builder i None cells = refl
  user_no_builder i (Some shape) cells = refl

  class_built : (c : ClassRef) (cells : List ℕ)
      → ProofNames.built_in (Some (class_by shapes objects things c cells)) ≡ (if is_builder c then Some (built objects (named_by (first cells))) else None)
  class_built (refs.User i) cells = user_no_builder i (slice_get shapes.users i) cells
  class_built (refs.Lib (lib.Thrown c)) cells = refl
  class_built (refs.Lib lib.AccessControlException) cells = refl
  class_built (refs.Lib lib.String) cells = refl
  class_built (refs.Lib lib.StringBuilder) cells = refl
  class_built (refs.Lib (lib.Permission c)) cells = refl
  class_built (refs.Lib lib.AccessControlContext) cells = refl
  class_built (refs.Lib lib.Thread) cells = refl
  class_built (refs.Lib lib.Object) cells = refl
  class_built (refs.Lib lib.System) cells = refl
  class_built (refs.Lib lib.PrintStream) cells = refl
  class_built (refs.Lib lib.Void) cells = refl
  class_built (refs.Lib lib.Cloneable) cells = refl
  class_built (refs.Lib lib.Serializable) cells = refl
  class_built (refs.Lib lib.Runnable) cells = refl
  class_built (refs.Lib lib.PrivilegedAction) cells = refl
  class_built (refs.Lib lib.AccessController) cells = refl
  class_built (refs.Lib lib.Rt) cells = refl
  class_built (refs.Lib lib.Ctx) cells = refl

  kind_built : (kind : Kind) (cells : List ℕ) → ProofNames.built_in (Some (kind_by p shapes objects things kind cells)) ≡ built_as objects kind cells
  kind_built (kinds.Object n) cells =
      class_built (class_numbered n) cells ∙ ap (λ b. if b then Some (built objects (named_by (first cells))) else None) (only_builder n)
  kind_built (kinds.Array a) cells = refl
  kind_built kinds.Text cells = refl
  kind_built kinds.Piece cells = refl

  object_built : (x : Option heaps.Object) → ProofNames.built_in (option_map (object_by p shapes objects things) x) ≡ built_found objects x
  object_built None = refl
  object_built (Some x) = kind_built x.kind x.cells

-- ---- builders by number

pub record IsBuilder (h : Heaped) (v : Value ℕ) (b : ℕ) : Type 0 where
  pub is : v ≡ Ref b
  pub object : heaps.Object
  pub at : heaps.object_at h b ≡ Some object
  pub kind : object.kind ≡ kinds.Object 33

kind_here : (n b : ℕ) (kind : Kind) → Some b ≡ builder_found n (Some kind) → (n ≡ b) × (kind ≡ kinds.Object 33)
kind_here n b (kinds.Object m) e = by_number (named m) refl e
  where
    by_number : (t : Bool) → named m ≡ t → Some b ≡ (if t then Some n else None) → (n ≡ b) × (kinds.Object m ≡ kinds.Object 33)
    by_number true is e = let same : m ≡ 33 = search rules in let here : n ≡ b = cc in (here, ap kinds.Object same)
    by_number false is e = cc
kind_here n b (kinds.Array a) e = cc
kind_here n b kinds.Text e = cc
kind_here n b kinds.Piece e = cc

pub is_builder_at : (h : Heaped) (v : Value ℕ) (b : ℕ) → Some b ≡ builder_number h v → IsBuilder h v b
is_builder_at h (Int x) b e = cc
is_builder_at h (Long x) b e = cc
is_builder_at h (Ctx k) b e = cc
is_builder_at h (Ref n) b e = found (heaps.object_at h n) refl e
  where
    found : (x : Option heaps.Object) → heaps.object_at h n ≡ x → Some b ≡ builder_found n (option_map (λ (y : heaps.Object). y.kind) x)
        → IsBuilder h (Ref n) b
    found None is e = cc
    found (Some x) is e =
        let both = kind_here n b x.kind e in
        record { is = ap (λ k. Ref k) both.0; object = x; at = ap (heaps.object_at h) (sym both.0) ∙ is; kind = both.1 }

pub itself : (h : Heaped) (v : Value ℕ) (b : ℕ) → Some b ≡ builder_number h v → Some b ≡ builder_number h (Ref b)
itself h v b e = let it = is_builder_at h v b e in rw it.is at e

no_kind : (objects : List heaps.Object) (n : ℕ) (kind : Kind) (cells : List ℕ) → None ≡ builder_found n (Some kind) → built_as objects kind cells ≡ None
no_kind objects n (kinds.Object m) cells e = by_number (named m) e
  where
    by_number : (t : Bool) → None ≡ (if t then Some n else None) → (if t then Some (built objects (named_by (first cells))) else None) ≡ None
    by_number true e = cc
    by_number false e = refl
no_kind objects n (kinds.Array a) cells e = refl
no_kind objects n kinds.Text cells e = refl
no_kind objects n kinds.Piece cells e = refl

no_builder : (h : Heaped) (n : ℕ) → None ≡ builder_number h (Ref n) → built_found h.objects (heaps.object_at h n) ≡ None
no_builder h n e = found (heaps.object_at h n) e
  where
    found : (x : Option heaps.Object) → None ≡ builder_found n (option_map (λ (y : heaps.Object). y.kind) x) → built_found h.objects x ≡ None
    found None e = refl
    found (Some x) e = no_kind h.objects n x.kind x.cells e

module _ (each : SeesEach) (h : Heaped) (p : Program) (shapes : Shapes) (things : Things) (constants : List (List ℕ × ℕ)) where
  abbrev known : Store ℕ
  known = store_by p shapes things constants h

  sees_built : (o : ℕ) → definition.built known o ≡ built_found h.objects (heaps.object_at h o)
  sees_built o = ap ProofNames.built_in (each p shapes things constants h o) ∙ object_built p shapes things h.objects (heaps.object_at h o)

  pub some_built : (b : ℕ) → Some b ≡ builder_number h (Ref b) → definition.built known b ≡ Some (built h.objects (last_piece h b))
  some_built b e = let it = is_builder_at h (Ref b) b e in sees_built b ∙ rw (it.at, it.kind) refl

  pub none_built : (n : ℕ) → None ≡ builder_number h (Ref n) → definition.built known n ≡ None
  none_built n e = sees_built n ∙ no_builder h n e

-- ---- append

module _ (E : Type 0) (s : Store ℕ) (piece : PrintedType) (v : Value ℕ) (b : ℕ) where
  append_row : (us more : List ℕ) (l : Left) → definition.built s b ≡ Some us → printed s piece v ≡ Some more
      → Comes {E = E} s (Some (appended s b (Ref b ∷ []) us more)) l
      → Comes {E = E} s (builder s (calls.Append piece) (v ∷ Ref b ∷ [])) l
  unfolding builder
  append_row us more l e also comes = rw (e, also) comes

  append_nothing : (us : List ℕ) → definition.built s b ≡ Some us → printed s piece v ≡ None
      → Comes {E = E} s (builder s (calls.Append piece) (v ∷ Ref b ∷ [])) (leaves rans.Stuck [] s)
  unfolding builder
  append_nothing us e also = rw (e, also) refl

  append_nowhere : definition.built s b ≡ None → Comes {E = E} s (builder s (calls.Append piece) (v ∷ Ref b ∷ [])) (leaves rans.Stuck [] s)
  unfolding builder
  append_nowhere e = rw e refl

module _ (E : Type 0) (each : SeesEach) (h : Heaped) (p : Program) (shapes : Shapes) (things : Things) (constants : List (List ℕ × ℕ)) where
  abbrev before : Store ℕ
  before = store_by p shapes things constants h

  pub append_stuck : (piece : PrintedType) (v object : Value ℕ) → None ≡ builder_number h object
      → Comes {E = E} before (builder before (calls.Append piece) (v ∷ object ∷ [])) (leaves rans.Stuck [] before)
  unfolding builder
  append_stuck piece v (Int x) e = refl
  append_stuck piece v (Long x) e = refl
  append_stuck piece v (Ctx k) e = refl
  append_stuck piece v (Ref n) e = append_nowhere E before piece v n (none_built each h p shapes things constants n e)

  pub append_none : (piece : PrintedType) (v object : Value ℕ) (b : ℕ) → Some b ≡ builder_number h object → None ≡ shown h piece v
      → Comes {E = E} before (builder before (calls.Append piece) (v ∷ object ∷ [])) (leaves rans.Stuck [] before)
  append_none piece v object b e none =
      let it = is_builder_at h object b e in
      let here = itself h object b e in
      rw it.is
      (append_nothing E before piece v b (built h.objects (last_piece h b)) (some_built each h p shapes things constants b here)
      (printed_seen each p shapes things constants h piece v ∙ sym none))

  append_some : (piece : PrintedType) (v object : Value ℕ) (b : ℕ) (us : List ℕ) (l : Left) → Some b ≡ builder_number h object → Some us ≡ shown h piece v
      → Comes {E = E} before (Some (appended before b (Ref b ∷ []) (built h.objects (last_piece h b)) us)) l
      → Comes {E = E} before (builder before (calls.Append piece) (v ∷ object ∷ [])) l
  append_some piece v object b us l e some comes =
      let it = is_builder_at h object b e in
      let here = itself h object b e in
      rw it.is
      (append_row E before piece v b (built h.objects (last_piece h b)) us l (some_built each h p shapes things constants b here)
      (printed_seen each p shapes things constants h piece v ∙ sym some) comes)

-- where memory was there, what was appended is what the row says
pub append_all : (E F : Type 0) (each : SeesEach) (h t : Heaped) (piece : PrintedType) (v object : Value ℕ) (r : Result Ran F) (b : ℕ) (us : List ℕ)
    → Some b ≡ builder_number h object
    → Some us ≡ shown h piece v
    → IfOk r (λ ran. (p : Program) (shapes : Shapes) (things : Things) (constants : List (List ℕ × ℕ)) →
    Comes {E = E} (store_by p shapes things constants h)
    (Some (appended (store_by p shapes things constants h) b (Ref b ∷ []) (built h.objects (last_piece h b)) us))
    (leaves ran [] (store_by p shapes things constants t)))
    → IfOk r (λ ran. (p : Program) (shapes : Shapes) (things : Things) (constants : List (List ℕ × ℕ)) →
    Comes {E = E} (store_by p shapes things constants h) (builder (store_by p shapes things constants h) (calls.Append piece) (v ∷ object ∷ []))
    (leaves ran [] (store_by p shapes things constants t)))
append_all E F each h t piece v object (Err e) b us some shows comes = tt
append_all E F each h t piece v object (Ok ran) b us some shows comes = λ p shapes things constants.
    append_some E each h p shapes things constants piece v object b us (leaves ran [] (store_by p shapes things constants t)) some shows
    (comes p shapes things constants)

-- ---- constructors

module _ (E : Type 0) (s : Store ℕ) (b : ℕ) where
  pub init_row : (us : List ℕ) → definition.built s b ≡ Some us
      → Comes {E = E} s (builder s calls.Init (Ref b ∷ [])) (leaves rans.Went [] (with_object s b (Builder [])))
  unfolding builder
  init_row us e = rw e (at_no_cost s (with_object s b (Builder [])) rans.Went [] (leaves rans.Full [] s))

  init_nowhere : definition.built s b ≡ None → Comes {E = E} s (builder s calls.Init (Ref b ∷ [])) (leaves rans.Stuck [] s)
  unfolding builder
  init_nowhere e = rw e refl

  abbrev held : Value ℕ → Option (Row ℕ E)
  held v = option_and_then (λ us. option_map (appended s b [] []) (units s v)) (definition.built s b)

  text_row : (v : Value ℕ) (l : Left) → names_nothing v ≡ false → Comes {E = E} s (held v) l → Comes {E = E} s (builder s calls.InitText (v ∷ Ref b ∷ [])) l
  unfolding builder
  text_row (Ref zero) l e comes = cc
  text_row (Ref (suc n)) l e comes = comes
  text_row (Int x) l e comes = comes
  text_row (Long x) l e comes = comes
  text_row (Ctx k) l e comes = comes

text_nowhere : (E : Type 0) (s : Store ℕ) (v object : Value ℕ) → builder {K = ℕ} {E = E} s calls.InitText (v ∷ object ∷ []) ≡ None
    → Comes {E = E} s (builder s calls.InitText (v ∷ object ∷ [])) (leaves rans.Stuck [] s)
text_nowhere E s v object e = rw e refl

pub text_null : (E : Type 0) (s : Store ℕ) (v object : Value ℕ) → true ≡ names_nothing v
    → Comes {E = E} s (builder s calls.InitText (v ∷ object ∷ [])) (leaves (without_text object) [] s)
unfolding builder
text_null E s (Ref zero) (Ref n) e = (refl, refl)
text_null E s (Ref zero) (Int x) e = refl
text_null E s (Ref zero) (Long x) e = refl
text_null E s (Ref zero) (Ctx k) e = refl
text_null E s (Ref (suc n)) object e = cc
text_null E s (Int x) object e = cc
text_null E s (Long x) object e = cc
text_null E s (Ctx k) object e = cc

no_receiver : (E : Type 0) (s : Store ℕ) (v : Value ℕ) (x : ℤ) → builder {K = ℕ} {E = E} s calls.InitText (v ∷ Int x ∷ []) ≡ None
unfolding builder
no_receiver E s (Ref zero) x = refl
no_receiver E s (Ref (suc n)) x = refl
no_receiver E s (Int y) x = refl
no_receiver E s (Long y) x = refl
no_receiver E s (Ctx k) x = refl

no_long : (E : Type 0) (s : Store ℕ) (v : Value ℕ) (x : ℤ) → builder {K = ℕ} {E = E} s calls.InitText (v ∷ Long x ∷ []) ≡ None
unfolding builder
no_long E s (Ref zero) x = refl
no_long E s (Ref (suc n)) x = refl
no_long E s (Int y) x = refl
no_long E s (Long y) x = refl
no_long E s (Ctx k) x = refl

no_context : (E : Type 0) (s : Store ℕ) (v : Value ℕ) (k : ℕ) → builder {K = ℕ} {E = E} s calls.InitText (v ∷ Ctx k ∷ []) ≡ None
unfolding builder
no_context E s (Ref zero) k = refl
no_context E s (Ref (suc n)) k = refl
no_context E s (Int y) k = refl
no_context E s (Long y) k = refl
no_context E s (Ctx j) k = refl

module _ (E : Type 0) (each : SeesEach) (h : Heaped) (p : Program) (shapes : Shapes) (things : Things) (constants : List (List ℕ × ℕ)) where
  abbrev at : Store ℕ
  at = store_by p shapes things constants h

  pub init_stuck : (object : Value ℕ) → None ≡ builder_number h object → Comes {E = E} at (builder at calls.Init (object ∷ [])) (leaves rans.Stuck [] at)
  unfolding builder
  init_stuck (Int x) e = refl
  init_stuck (Long x) e = refl
  init_stuck (Ctx k) e = refl
  init_stuck (Ref n) e = init_nowhere E at n (none_built each h p shapes things constants n e)

  pub text_stuck : (v object : Value ℕ) → names_nothing v ≡ false → None ≡ builder_number h object
      → Comes {E = E} at (builder at calls.InitText (v ∷ object ∷ [])) (leaves rans.Stuck [] at)
  text_stuck v (Int x) some e = text_nowhere E at v (Int x) (no_receiver E at v x)
  text_stuck v (Long x) some e = text_nowhere E at v (Long x) (no_long E at v x)
  text_stuck v (Ctx k) some e = text_nowhere E at v (Ctx k) (no_context E at v k)
  text_stuck v (Ref n) some e = text_row E at n v (leaves rans.Stuck [] at) some (rw (none_built each h p shapes things constants n e) refl)

  pub text_other : (v object : Value ℕ) (b : ℕ) → names_nothing v ≡ false → Some b ≡ builder_number h object → None ≡ text_number h v
      → Comes {E = E} at (builder at calls.InitText (v ∷ object ∷ [])) (leaves rans.Stuck [] at)
  text_other v object b some e none =
      let it = is_builder_at h object b e in
      let here = itself h object b e in
      rw it.is
      (text_row E at b v (leaves rans.Stuck [] at) some
      (rw (some_built each h p shapes things constants b here, none_known each h v p shapes things constants none) refl))

  text_some : (v object : Value ℕ) (b o : ℕ) (us : List ℕ) (l : Left) → names_nothing v ≡ false → Some b ≡ builder_number h object
      → Some o ≡ text_number h v → us ≡ units_of (cells_at h o)
      → Comes {E = E} at (Some (appended at b [] [] us)) l → Comes {E = E} at (builder at calls.InitText (v ∷ object ∷ [])) l
  text_some v object b o us l some e also is comes =
      let it = is_builder_at h object b e in
      let here = itself h object b e in
      rw it.is
      (text_row E at b v l some (rw (some_built each h p shapes things constants b here, some_known each h v p shapes things constants o also, sym is) comes))

-- no piece holds nothing
pub no_front : (objects : List heaps.Object) → built objects 0 ≡ []
unfolding built_by
no_front objects = refl

pub text_all : (E F : Type 0) (each : SeesEach) (h t : Heaped) (v object : Value ℕ) (r : Result Ran F) (b o : ℕ) (us : List ℕ) → names_nothing v ≡ false
    → Some b ≡ builder_number h object
    → Some o ≡ text_number h v → us ≡ units_of (cells_at h o)
    → IfOk r (λ ran. (p : Program) (shapes : Shapes) (things : Things) (constants : List (List ℕ × ℕ)) (results : List (Value ℕ)) → gave results ≡ rans.Went →
    Comes {E = E} (store_by p shapes things constants h) (Some (appended (store_by p shapes things constants h) b results (built h.objects 0) us))
    (leaves ran [] (store_by p shapes things constants t)))
    → IfOk r (λ ran. (p : Program) (shapes : Shapes) (things : Things) (constants : List (List ℕ × ℕ)) →
    Comes {E = E} (store_by p shapes things constants h) (builder (store_by p shapes things constants h) calls.InitText (v ∷ object ∷ []))
    (leaves ran [] (store_by p shapes things constants t)))
text_all E F each h t v object (Err e) b o us some here also is comes = tt
text_all E F each h t v object (Ok ran) b o us some here also is comes = λ p shapes things constants.
    text_some E each h p shapes things constants v object b o us (leaves ran [] (store_by p shapes things constants t)) some here also is
    (rw (no_front h.objects) at (comes p shapes things constants [] refl))

-- ---- toString

module _ (E : Type 0) (s : Store ℕ) (b : ℕ) where
  string_row : (us : List ℕ) (l : Left) → definition.built s b ≡ Some us → Comes {E = E} s (Some (making.text_made s us)) l
      → Comes {E = E} s (builder s calls.ToString (Ref b ∷ [])) l
  unfolding builder
  string_row us l e comes = rw e comes

  string_nowhere : definition.built s b ≡ None → Comes {E = E} s (builder s calls.ToString (Ref b ∷ [])) (leaves rans.Stuck [] s)
  unfolding builder
  string_nowhere e = rw e refl

module _ (E : Type 0) (each : SeesEach) (h : Heaped) (p : Program) (shapes : Shapes) (things : Things) (constants : List (List ℕ × ℕ)) where
  abbrev old : Store ℕ
  old = store_by p shapes things constants h

  pub string_stuck : (object : Value ℕ) → None ≡ builder_number h object
      → Comes {E = E} old (builder old calls.ToString (object ∷ [])) (leaves rans.Stuck [] old)
  unfolding builder
  string_stuck (Int x) e = refl
  string_stuck (Long x) e = refl
  string_stuck (Ctx k) e = refl
  string_stuck (Ref n) e = string_nowhere E old n (none_built each h p shapes things constants n e)

  string_some : (object : Value ℕ) (b : ℕ) (us : List ℕ) (l : Left) → Some b ≡ builder_number h object → us ≡ built h.objects (last_piece h b)
      → Comes {E = E} old (Some (making.text_made old us)) l → Comes {E = E} old (builder old calls.ToString (object ∷ [])) l
  string_some object b us l e is comes =
      let it = is_builder_at h object b e in
      let here = itself h object b e in
      rw it.is (string_row E old b us l (some_built each h p shapes things constants b here ∙ ap (λ us. Some us) (sym is)) comes)

pub string_all : (E F : Type 0) (each : SeesEach) (h t : Heaped) (object : Value ℕ) (r : Result Ran F) (b : ℕ) (us : List ℕ)
    → Some b ≡ builder_number h object
    → us ≡ built h.objects (last_piece h b)
    → IfOk r (λ ran. (p : Program) (shapes : Shapes) (things : Things) (constants : List (List ℕ × ℕ)) →
    Comes {E = E} (store_by p shapes things constants h) (Some (making.text_made (store_by p shapes things constants h) us))
    (leaves ran [] (store_by p shapes things constants t)))
    → IfOk r (λ ran. (p : Program) (shapes : Shapes) (things : Things) (constants : List (List ℕ × ℕ)) →
    Comes {E = E} (store_by p shapes things constants h) (builder (store_by p shapes things constants h) calls.ToString (object ∷ []))
    (leaves ran [] (store_by p shapes things constants t)))
string_all E F each h t object (Err e) b us some is comes = tt
string_all E F each h t object (Ok ran) b us some is comes = λ p shapes things constants.
    string_some E each h p shapes things constants object b us (leaves ran [] (store_by p shapes things constants t)) some is
    (comes p shapes things constants)

-- ---- for the calls

pub builder_there : (h : Heaped) (v : Value ℕ) (b : ℕ) → Some b ≡ builder_number h v → is_some (heaps.object_at h b) ≡ true
builder_there h v b e = let it = is_builder_at h v b e in rw it.at refl

-- what is given back is the builder
pub given_back : (E F : Type 0) (h t : Heaped) (r : Result Ran F) (b last : ℕ) (us : List ℕ) → last ≡ last_piece h b
    → IfOk r (λ ran. (p : Program) (shapes : Shapes) (things : Things) (constants : List (List ℕ × ℕ)) (results : List (Value ℕ)) →
    gave results ≡ rans.Gave (Ref b) →
    Comes {E = E} (store_by p shapes things constants h) (Some (appended (store_by p shapes things constants h) b results (built h.objects last) us))
    (leaves ran [] (store_by p shapes things constants t)))
    → IfOk r (λ ran. (p : Program) (shapes : Shapes) (things : Things) (constants : List (List ℕ × ℕ)) →
    Comes {E = E} (store_by p shapes things constants h)
    (Some (appended (store_by p shapes things constants h) b (Ref b ∷ []) (built h.objects (last_piece h b)) us))
    (leaves ran [] (store_by p shapes things constants t)))
given_back E F h t (Err e) b last us is comes = tt
given_back E F h t (Ok ran) b last us is comes = λ p shapes things constants. rw is at (comes p shapes things constants (Ref b ∷ []) refl)
