-- Rows of the library give one value or none, and raise what can be thrown.
use Rattle.std.proofs.Common.{◌≡◌, ℕ, zero, suc, Bool, true, false, List, [], ◌∷◌, ◌++◌, Option, Some, None, refl}
use Rattle.std.specs.Prelude.{⊤, Result, Ok, Err, option_and_then, option_map, slice_get}
use Rattle.jvalues.specs.declared.jops.value.Value.{Value}
use Rattle.jvalues.specs.declared.jops.value.Value.TheVariants.{Ctx, Int, Long, Ref}
use Rattle.jperm.specs.declared.making.PermError.{PermError}
use Rattle.jperm.specs.declared.making.PermError.TheVariants as errors
use Rattle.jperm.specs.declared.permission.Permission as perms
use Rattle.jperm.specs.PermissionConstructors.{made}
use Rattle.jlib.specs.declared.calls.BuilderCall.{BuilderCall}
use Rattle.jlib.specs.declared.calls.BuilderCall.TheVariants as builders
use Rattle.jlib.specs.declared.calls.LibCall.{LibCall}
use Rattle.jlib.specs.declared.calls.LibCall.TheVariants as calls
use Rattle.jlib.specs.declared.calls.PermissionInit.{PermissionInit}
use Rattle.jlib.specs.declared.calls.PrintedType.{PrintedType}
use Rattle.jlib.specs.declared.calls.StringCall.{StringCall}
use Rattle.jlib.specs.declared.calls.StringCall.TheVariants as strings
use Rattle.jlib.specs.declared.calls.ThrownInit.{ThrownInit}
use Rattle.jlib.specs.declared.calls.ThrownInit.TheVariants as given
use Rattle.jlib.specs.declared.classes.LibClass.TheVariants as lib
use Rattle.jlib.specs.declared.classes.Thrown.{Thrown as ThrownClass}
use Rattle.jlib.specs.declared.classes.Thrown.TheVariants as thrown
use Rattle.jsemantics.specs.jmachine.MachineStates.{Act, Goes, Raises, Row}
use Rattle.jsemantics.specs.jmachine.LibraryCalls.{library}
use Rattle.jsemantics.specs.ProofNames.{object_init, char_at}
use Rattle.jsemantics.specs.jmachine.ObjectInstructions.{tested, text_made}
use Rattle.jsemantics.specs.jmachine.Narrowing.{place}
use Rattle.jsemantics.specs.jmachine.PermissionCalls as permissions
use Rattle.jsemantics.specs.jmachine.InstructionSites.{Site}
use Rattle.jsemantics.specs.jmachine.Store.{Store, object_at}
use Rattle.jsemantics.specs.jmachine.TextCalls.{appended, built, builder, equals, print, print_end, printed, string, unit_given, units}
use Rattle.jsemantics.specs.jmachine.Throwables as throwables
use Rattle.jlibcalls.specs.jlibrary.CallOperands.{one_in, two_in}
use Rattle.jlibcalls.proofs.JlibraryProofs.Operands.{one_is, two_is}
use Rattle.jlibcalls.proofs.JlibraryProofs.ArityMismatches.{each_value, no_append, no_builder, no_built, no_concat, no_equals, no_length, no_line, no_message, no_object, no_print, no_text, no_told, no_unit, no_untold}

module _ {E : Type 0} where
  abbrev pub IsPlainAct : Act ℕ E → Type 0
  IsPlainAct (Goes s [] events) = ⊤
  IsPlainAct (Goes s (v ∷ []) events) = ⊤
  IsPlainAct (Goes s (v ∷ w ∷ values) events) = ⊥
  IsPlainAct (Raises events class message) = (c : ThrownClass) × (class ≡ lib.Thrown c)
  IsPlainAct act = ⊤

  abbrev pub IsPlain : Option (Row ℕ E) → Type 0
  IsPlain None = ⊤
  IsPlain (Some r) = IsPlainAct r.act

  -- ---- tools

  if_none : (o : Option (Row ℕ E)) → o ≡ None → IsPlain o
  if_none o e = rw e tt

  mapped : {A : Type 0} (f : A → Row ℕ E) → ((x : A) → IsPlain (Some (f x))) → (o : Option A) → IsPlain (option_map f o)
  mapped f each None = tt
  mapped f each (Some x) = each x

  chained : {A : Type 0} (f : A → Option (Row ℕ E)) → ((x : A) → IsPlain (f x)) → (o : Option A) → IsPlain (option_and_then f o)
  chained f each None = tt
  chained f each (Some x) = each x

  joining : {A B : Type 0} (f : A → B → Row ℕ E) → ((x : A) (y : B) → IsPlain (Some (f x y))) → (o : Option A) (q : Option B)
      → IsPlain (option_and_then (λ x. option_map (f x) q) o)
  joining f each None q = tt
  joining f each (Some x) None = tt
  joining f each (Some x) (Some y) = each x y

  by_one : (row : List (Value ℕ) → Option (Row ℕ E)) → ((values : List (Value ℕ)) → None ≡ one_in values → row values ≡ None)
      → ((v : Value ℕ) → IsPlain (row (v ∷ []))) → (values : List (Value ℕ)) → IsPlain (row values)
  by_one row nothing some values = found (one_in values) refl
    where
      found : (o : Option (Value ℕ)) → o ≡ one_in values → IsPlain (row values)
      found None e = if_none (row values) (nothing values e)
      found (Some v) e = rw (one_is values v e) (some v)

  by_two : (row : List (Value ℕ) → Option (Row ℕ E)) → ((values : List (Value ℕ)) → None ≡ two_in values → row values ≡ None)
      → ((w v : Value ℕ) → IsPlain (row (w ∷ v ∷ []))) → (values : List (Value ℕ)) → IsPlain (row values)
  by_two row nothing some values = found (two_in values) refl
    where
      found : (o : Option (Value ℕ × Value ℕ)) → o ≡ two_in values → IsPlain (row values)
      found None e = if_none (row values) (nothing values e)
      found (Some (w, v)) e = rw (two_is values w v e) (some w v)

module _ (E : Type 0) (s : Store ℕ) where
  abbrev Plain : Option (Row ℕ E) → Type 0
  Plain o = IsPlain {E = E} o

  -- ---- strings

  unit_plain : (o : Option ℕ) → Plain (Some (unit_given s o))
  unit_plain None = (thrown.StringIndexOutOfBoundsException, refl)
  unit_plain (Some u) = tt

  indexed : (v w : Value ℕ) → Plain (string s strings.CharAt (w ∷ v ∷ []))
  unfolding string
  indexed v (Int i) = mapped (char_at s i) (λ us. unit_plain (option_and_then (slice_get us) (place i))) (units s v)
  indexed v (Long x) = tt
  indexed v (Ref n) = tt
  indexed v (Ctx n) = tt

  joined : (v w : Value ℕ) → Plain (string s strings.Concat (w ∷ v ∷ []))
  unfolding string
  joined v (Ref zero) = (thrown.NullPointerException, refl)
  joined v (Ref (suc n)) = joining (λ us more. text_made s (us ++ more)) (λ us more. tt) (units s v) (units s (Ref (suc n)))
  joined v (Int x) = joining (λ us more. text_made s (us ++ more)) (λ us more. tt) (units s v) (units s (Int x))
  joined v (Long x) = joining (λ us more. text_made s (us ++ more)) (λ us more. tt) (units s v) (units s (Long x))
  joined v (Ctx n) = joining (λ us more. text_made s (us ++ more)) (λ us more. tt) (units s v) (units s (Ctx n))

  flag_plain : (b : Bool) → Plain (Some (tested s b))
  flag_plain true = tt
  flag_plain false = tt

  string_plain : (call : StringCall) (values : List (Value ℕ)) → Plain (string s call values)
  unfolding string
  string_plain strings.Length = by_one (string s strings.Length) (no_length s) (λ v. mapped _ (λ us. tt) (units s v))
  string_plain strings.CharAt = by_two (string s strings.CharAt) (no_unit s) (λ w v. indexed v w)
  string_plain strings.Equals = by_two (string s strings.Equals) (no_equals s) (λ w v. mapped _ (λ us. flag_plain (equals us (units s w))) (units s v))
  string_plain strings.Concat = by_two (string s strings.Concat) (no_concat s) (λ w v. joined v w)

  -- ---- builders

  held : (v w : Value ℕ) → Plain (builder s builders.InitText (w ∷ v ∷ []))
  unfolding builder
  held (Ref n) (Ref zero) = (thrown.NullPointerException, refl)
  held (Ref n) (Ref (suc m)) = joining (λ us more. appended s n [] [] more) (λ us more. tt) (built s n) (units s (Ref (suc m)))
  held (Ref n) (Int x) = joining (λ us more. appended s n [] [] more) (λ us more. tt) (built s n) (units s (Int x))
  held (Ref n) (Long x) = joining (λ us more. appended s n [] [] more) (λ us more. tt) (built s n) (units s (Long x))
  held (Ref n) (Ctx k) = joining (λ us more. appended s n [] [] more) (λ us more. tt) (built s n) (units s (Ctx k))
  held (Int y) w = each_value (λ x. Plain (builder s builders.InitText (x ∷ Int y ∷ []))) (λ x. tt) (λ x. tt) tt (λ n. tt) (λ n. tt) w
  held (Long y) w = each_value (λ x. Plain (builder s builders.InitText (x ∷ Long y ∷ []))) (λ x. tt) (λ x. tt) tt (λ n. tt) (λ n. tt) w
  held (Ctx k) w = each_value (λ x. Plain (builder s builders.InitText (x ∷ Ctx k ∷ []))) (λ x. tt) (λ x. tt) tt (λ n. tt) (λ n. tt) w

  begun : (v : Value ℕ) → Plain (builder s builders.Init (v ∷ []))
  unfolding builder
  begun (Ref n) = mapped _ (λ us. tt) (built s n)
  begun (Int x) = tt
  begun (Long x) = tt
  begun (Ctx k) = tt

  appended_plain : (piece : PrintedType) (w v : Value ℕ) → Plain (builder s (builders.Append piece) (w ∷ v ∷ []))
  unfolding builder
  appended_plain piece w (Ref n) = joining (λ us more. appended s n (Ref n ∷ []) us more) (λ us more. tt) (built s n) (printed s piece w)
  appended_plain piece w (Int x) = tt
  appended_plain piece w (Long x) = tt
  appended_plain piece w (Ctx k) = tt

  told_text : (v : Value ℕ) → Plain (builder s builders.ToString (v ∷ []))
  unfolding builder
  told_text (Ref n) = mapped _ (λ us. tt) (built s n)
  told_text (Int x) = tt
  told_text (Long x) = tt
  told_text (Ctx k) = tt

  builder_plain : (call : BuilderCall) (values : List (Value ℕ)) → Plain (builder s call values)
  builder_plain builders.Init = by_one (builder s builders.Init) (no_builder s) begun
  builder_plain builders.InitText = by_two (builder s builders.InitText) (no_text s) (λ w v. held v w)
  builder_plain (builders.Append piece) = by_two (builder s (builders.Append piece)) (no_append s piece) (appended_plain piece)
  builder_plain builders.ToString = by_one (builder s builders.ToString) (no_built s) told_text

  -- ---- what can be thrown

  untold : (v : Value ℕ) → Plain (throwables.init s given.Nothing (v ∷ []))
  unfolding throwables.init
  untold (Ref n) = mapped _ (λ x. tt) (throwables.with_message 0 (object_at s n))
  untold (Int x) = tt
  untold (Long x) = tt
  untold (Ctx k) = tt

  told : (v w : Value ℕ) → Plain (throwables.init s given.Message (w ∷ v ∷ []))
  unfolding throwables.init
  told (Ref n) (Ref m) = mapped _ (λ x. tt) (throwables.with_message m (object_at s n))
  told (Int y) w = each_value (λ x. Plain (throwables.init s given.Message (x ∷ Int y ∷ []))) (λ x. tt) (λ x. tt) tt (λ n. tt) (λ n. tt) w
  told (Long y) w = each_value (λ x. Plain (throwables.init s given.Message (x ∷ Long y ∷ []))) (λ x. tt) (λ x. tt) tt (λ n. tt) (λ n. tt) w
  told (Ctx k) w = each_value (λ x. Plain (throwables.init s given.Message (x ∷ Ctx k ∷ []))) (λ x. tt) (λ x. tt) tt (λ n. tt) (λ n. tt) w
  told (Ref n) (Int x) = tt
  told (Ref n) (Long x) = tt
  told (Ref n) (Ctx k) = tt

  init_plain : (how : ThrownInit) (values : List (Value ℕ)) → Plain (throwables.init s how values)
  init_plain given.Nothing = by_one (throwables.init s given.Nothing) (no_untold s) untold
  init_plain given.Message = by_two (throwables.init s given.Message) (no_told s) (λ w v. told v w)

  message_one : (v : Value ℕ) → Plain (throwables.message s (v ∷ []))
  unfolding throwables.message
  message_one (Ref n) = mapped _ (λ m. tt) (throwables.message_of (object_at s n))
  message_one (Int x) = tt
  message_one (Long x) = tt
  message_one (Ctx k) = tt

  -- ---- what is printed

  print_plain : (thread : ℕ) (piece : PrintedType) (values : List (Value ℕ)) → Plain (print s thread piece values)
  unfolding print
  print_plain thread piece = by_two (print s thread piece) (no_print s thread piece) (λ w v. mapped _ (λ us. tt) (printed s piece w))

  line_plain : (thread : ℕ) (values : List (Value ℕ)) → Plain (print_end s thread values)
  unfolding print_end
  line_plain thread = by_one (print_end s thread) (no_line s thread) (λ v. tt)

  -- ---- permissions

  made_plain : (n : ℕ) (made : Result perms.Permission PermError) → Plain (permissions.constructed s n made)
  made_plain n (Ok p) = mapped _ (λ x. tt) (permissions.with_value p (object_at s n))
  made_plain n (Err errors.NoName) = (thrown.NullPointerException, refl)
  made_plain n (Err errors.EmptyName) = (thrown.IllegalArgumentException, refl)
  made_plain n (Err errors.BadActions) = (thrown.IllegalArgumentException, refl)
  made_plain n (Err errors.Memory) = (thrown.IllegalArgumentException, refl)

  permission_plain : (cwd : List ℕ) (call : PermissionInit) (values : List (Value ℕ)) → Plain (permissions.init s cwd call values)
  unfolding permissions.init
  permission_plain cwd call values =
      chained (permissions.made_in s cwd call)
      (λ g. made_plain g.object (made (permissions.class_of call) g.name g.actions cwd)) (permissions.given s values)

  -- ---- all

  pub library_plain : (at : Site) (call : LibCall) (values : List (Value ℕ)) → Plain (library at s call values)
  unfolding library
  library_plain at calls.ObjectInit values = by_one (object_init s) (no_object s) (λ v. tt) values
  library_plain at (calls.ThrownInit class how) values = init_plain how values
  library_plain at calls.AccessControlInit values = init_plain given.Message values
  library_plain at calls.GetMessage values = by_one (throwables.message s) (no_message s) message_one values
  library_plain at (calls.String call) values = string_plain call values
  library_plain at (calls.Builder call) values = builder_plain call values
  library_plain at calls.PrintEnd values = line_plain at.thread values
  library_plain at (calls.Print piece) values = print_plain at.thread piece values
  library_plain at (calls.PermissionInit call) values = permission_plain at.cwd call values
  library_plain at calls.Out values = tt
  library_plain at (calls.Run side) values = tt
  library_plain at (calls.RunAction side) values = tt
  library_plain at (calls.Thread call) values = tt
  library_plain at (calls.Controller call) values = tt
  library_plain at calls.ContextCheck values = tt
  library_plain at (calls.Rt call) values = tt
