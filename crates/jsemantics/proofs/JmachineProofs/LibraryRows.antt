-- The rows of calls of the library don't depend on what is kept.
use Rattle.std.proofs.Common.{◌≡◌, ◌∙◌, ℕ, zero, suc, pos, List, [], ◌∷◌, ◌++◌, length, Option, Some, None, option_map, Result, Ok, Err, refl, sym, ap}
use Rattle.std.specs.Prelude.{option_and_then, slice_get}
use Rattle.jperm.specs.declared.permission.Permission as perms
use Rattle.jperm.specs.declared.making.PermError.{PermError}
use Rattle.jperm.specs.PermissionConstructors.{made}
use Rattle.jvalues.specs.declared.jops.value.Value.{Value}
use Rattle.jvalues.specs.declared.jops.value.Value.TheVariants.{Int, Long, Ref, Ctx}
use Rattle.jlib.specs.declared.calls.LibCall.{LibCall}
use Rattle.jlib.specs.declared.calls.LibCall.TheVariants as calls
use Rattle.jlib.specs.declared.calls.PrintedType.{PrintedType as Kind}
use Rattle.jlib.specs.declared.calls.PrintedType.TheVariants as pieces
use Rattle.jlib.specs.declared.calls.StringCall.{StringCall}
use Rattle.jlib.specs.declared.calls.StringCall.TheVariants as strings
use Rattle.jlib.specs.declared.calls.BuilderCall.{BuilderCall}
use Rattle.jlib.specs.declared.calls.BuilderCall.TheVariants as builders
use Rattle.jlib.specs.declared.calls.PermissionInit.{PermissionInit}
use Rattle.jlib.specs.declared.calls.ThrownInit.{ThrownInit}
use Rattle.jlib.specs.declared.calls.ThrownInit.TheVariants as hows
use Rattle.jsemantics.specs.jmachine.MachineStates.{Row, Goes, cells_of, costs, gives}
use Rattle.jsemantics.specs.jmachine.LibraryCalls.{library}
use Rattle.jsemantics.specs.ProofNames.{object_init, built_in, units_in, char_at}
use Rattle.jsemantics.specs.jmachine.ObjectInstructions.{tested, text_made}
use Rattle.jsemantics.specs.jmachine.StateMaps.{object_map, row_map, store_map, value_map, values_map}
use Rattle.jsemantics.specs.jmachine.Narrowing.{place}
use Rattle.jsemantics.specs.jmachine.NaturalityLaws.{LibraryAlike}
use Rattle.jsemantics.specs.jmachine.HeapObjects.{Object, Instance, Thrown, Text, Builder, Piece, Permission, Context, Thread, Bare, Array}
use Rattle.jsemantics.specs.jmachine.PermissionCalls as permissions
use Rattle.jsemantics.specs.jmachine.PermissionCalls.{Given, bare, class_of, constructed, given, made_in, named, named_with, number_of, with_value}
use Rattle.jsemantics.specs.jmachine.InstructionSites.{Site}
use Rattle.jsemantics.specs.jmachine.Store.{Store, object_at, object_of, with_made, with_object}
use Rattle.jsemantics.specs.jmachine.TextCalls.{appended, builder, built, equals, line, print, print_end, printed, string, unit_given, units, units_or_null}
use Rattle.jsemantics.specs.jmachine.Throwables as throwables
use Rattle.jsemantics.specs.jmachine.Throwables.{message, message_of, told, with_message}
use Rattle.jsemantics.proofs.JmachineProofs.CreationRows.{tested_alike, text_made_alike}
use Rattle.jsemantics.proofs.JmachineProofs.Stores.{changed_alike, made_alike, named_alike, object_alike, set_alike}

-- ---- what is looked at

module _ {K L : Type 0} (f : K → L) where
  with_message_alike : (m : ℕ) (o : Option (Object K)) → option_map (object_map f) (with_message m o) ≡ with_message m (option_map (object_map f) o)
  with_message_alike m None = refl
  with_message_alike m (Some (Instance class message fields)) = refl
  with_message_alike m (Some (Thrown c message)) = refl
  with_message_alike m (Some (Text units)) = refl
  with_message_alike m (Some (Builder units)) = refl
  with_message_alike m (Some (Piece units)) = refl
  with_message_alike m (Some (Permission c held)) = refl
  with_message_alike m (Some (Context kept)) = refl
  with_message_alike m (Some (Thread number)) = refl
  with_message_alike m (Some (Bare c)) = refl
  with_message_alike m (Some (Array a items)) = refl

  message_alike : (o : Option (Object K)) → message_of o ≡ message_of (option_map (object_map f) o)
  message_alike None = refl
  message_alike (Some (Instance class message fields)) = refl
  message_alike (Some (Thrown c message)) = refl
  message_alike (Some (Text units)) = refl
  message_alike (Some (Builder units)) = refl
  message_alike (Some (Piece units)) = refl
  message_alike (Some (Permission c held)) = refl
  message_alike (Some (Context kept)) = refl
  message_alike (Some (Thread number)) = refl
  message_alike (Some (Bare c)) = refl
  message_alike (Some (Array a items)) = refl

  units_in_alike : (o : Option (Object K)) → units_in o ≡ units_in (option_map (object_map f) o)
  units_in_alike None = refl
  units_in_alike (Some (Instance class message fields)) = refl
  units_in_alike (Some (Thrown c message)) = refl
  units_in_alike (Some (Text units)) = refl
  units_in_alike (Some (Builder units)) = refl
  units_in_alike (Some (Piece units)) = refl
  units_in_alike (Some (Permission c held)) = refl
  units_in_alike (Some (Context kept)) = refl
  units_in_alike (Some (Thread number)) = refl
  units_in_alike (Some (Bare c)) = refl
  units_in_alike (Some (Array a items)) = refl

  built_in_alike : (o : Option (Object K)) → built_in o ≡ built_in (option_map (object_map f) o)
  built_in_alike None = refl
  built_in_alike (Some (Instance class message fields)) = refl
  built_in_alike (Some (Thrown c message)) = refl
  built_in_alike (Some (Text units)) = refl
  built_in_alike (Some (Builder units)) = refl
  built_in_alike (Some (Piece units)) = refl
  built_in_alike (Some (Permission c held)) = refl
  built_in_alike (Some (Context kept)) = refl
  built_in_alike (Some (Thread number)) = refl
  built_in_alike (Some (Bare c)) = refl
  built_in_alike (Some (Array a items)) = refl

  with_value_alike : (p : perms.Permission) (o : Option (Object K)) → option_map (object_map f) (with_value p o) ≡ with_value p (option_map (object_map f) o)
  with_value_alike p None = refl
  with_value_alike p (Some (Instance class message fields)) = refl
  with_value_alike p (Some (Thrown c message)) = refl
  with_value_alike p (Some (Text units)) = refl
  with_value_alike p (Some (Builder units)) = refl
  with_value_alike p (Some (Piece units)) = refl
  with_value_alike p (Some (Permission c held)) = refl
  with_value_alike p (Some (Context kept)) = refl
  with_value_alike p (Some (Thread number)) = refl
  with_value_alike p (Some (Bare c)) = refl
  with_value_alike p (Some (Array a items)) = refl

  units_alike : (s : Store K) (v : Value K) → units s v ≡ units (store_map f s) (value_map f v)
  units_alike s v = units_in_alike (object_of s v) ∙ ap units_in (sym (named_alike f s v))

  or_null_alike : (s : Store K) (v : Value K) → units_or_null s v ≡ units_or_null (store_map f s) (value_map f v)
  or_null_alike s (Ref zero) = refl
  or_null_alike s (Ref (suc n)) = units_alike s (Ref (suc n))
  or_null_alike s (Int x) = units_alike s (Int x)
  or_null_alike s (Long x) = units_alike s (Long x)
  or_null_alike s (Ctx k) = units_alike s (Ctx k)

  built_alike : (s : Store K) (n : ℕ) → built s n ≡ built (store_map f s) n
  built_alike s n = built_in_alike (object_at s n) ∙ ap built_in (sym (object_alike f s n))

  printed_alike : (s : Store K) (piece : Kind) (v : Value K) → printed s piece v ≡ printed (store_map f s) piece (value_map f v)
  unfolding printed
  printed_alike s pieces.Int (Int x) = refl
  printed_alike s pieces.Int (Long x) = refl
  printed_alike s pieces.Int (Ref x) = refl
  printed_alike s pieces.Int (Ctx x) = refl
  printed_alike s pieces.Long (Int x) = refl
  printed_alike s pieces.Long (Long x) = refl
  printed_alike s pieces.Long (Ref x) = refl
  printed_alike s pieces.Long (Ctx x) = refl
  printed_alike s pieces.Char (Int x) = refl
  printed_alike s pieces.Char (Long x) = refl
  printed_alike s pieces.Char (Ref x) = refl
  printed_alike s pieces.Char (Ctx x) = refl
  printed_alike s pieces.Bool (Int x) = refl
  printed_alike s pieces.Bool (Long x) = refl
  printed_alike s pieces.Bool (Ref x) = refl
  printed_alike s pieces.Bool (Ctx x) = refl
  printed_alike s pieces.Text v = or_null_alike s v

  text_alike : (s : Store K) (v : Value K) → permissions.text s v ≡ permissions.text (store_map f s) (value_map f v)
  text_alike s (Ref zero) = refl
  text_alike s (Ref (suc n)) = ap (option_map Some) (units_alike s (Ref (suc n)))
  text_alike s (Int x) = ap (option_map Some) (units_alike s (Int x))
  text_alike s (Long x) = ap (option_map Some) (units_alike s (Long x))
  text_alike s (Ctx k) = ap (option_map Some) (units_alike s (Ctx k))

  number_alike : (v : Value K) → number_of v ≡ number_of (value_map f v)
  number_alike (Int x) = refl
  number_alike (Long x) = refl
  number_alike (Ref n) = refl
  number_alike (Ctx k) = refl

  named_given : (s : Store K) (v : Value K) (n : ℕ) → named s n v ≡ named (store_map f s) n (value_map f v)
  named_given s v n = ap (λ o. with_name n o) (text_alike s v)
    where
      with_name : ℕ → Option (Option (List ℕ)) → Option Given
      with_name n o = option_map (λ x. record { name = x; actions = None; object = n }) o

  both_given : (s : Store K) (name actions : Value K) (n : ℕ) → named_with s n name actions ≡ named_with (store_map f s) n (value_map f name) (value_map f actions)
  both_given s name actions n = ap (λ o. with_both n (permissions.text s name) o) (text_alike s actions) ∙ ap (λ o. with_both n o (permissions.text (store_map f s) (value_map f actions))) (text_alike s name)
    where
      with_both : ℕ → Option (Option (List ℕ)) → Option (Option (List ℕ)) → Option Given
      with_both n names texts = option_and_then (λ x. option_map (λ y. record { name = x; actions = y; object = n }) texts) names

  by_number : (h i : ℕ → Option Given) → ((n : ℕ) → h n ≡ i n) → (o : Option ℕ) → option_and_then h o ≡ option_and_then i o
  by_number h i e None = refl
  by_number h i e (Some n) = e n

  given_alike : (s : Store K) (values : List (Value K)) → given s values ≡ given (store_map f s) (values_map f values)
  given_alike s [] = refl
  given_alike s (v ∷ []) = ap (option_map bare) (number_alike v)
  given_alike s (name ∷ v ∷ []) =
      by_number (λ n. named s n name) (λ n. named (store_map f s) n (value_map f name)) (named_given s name) (number_of v)
      ∙ ap (option_and_then (λ n. named (store_map f s) n (value_map f name))) (number_alike v)
  given_alike s (actions ∷ name ∷ v ∷ []) =
      by_number (λ n. named_with s n name actions) (λ n. named_with (store_map f s) n (value_map f name) (value_map f actions)) (both_given s name actions) (number_of v)
      ∙ ap (option_and_then (λ n. named_with (store_map f s) n (value_map f name) (value_map f actions))) (number_alike v)
  given_alike s (a ∷ b ∷ c ∷ d ∷ rest) = refl

-- ---- rows

module _ {K L E F : Type 0} (f : K → L) (g : E → F) where
  each_alike : {A : Type 0} (h : A → Row K E) (i : A → Row L F) → ((a : A) → row_map f g (h a) ≡ i a) → (o : Option A) → option_map (row_map f g) (option_map h o) ≡ option_map i o
  each_alike h i e None = refl
  each_alike h i e (Some a) = ap Some (e a)

  then_alike : {A : Type 0} (h : A → Option (Row K E)) (i : A → Option (Row L F)) → ((a : A) → option_map (row_map f g) (h a) ≡ i a) → (o : Option A) → option_map (row_map f g) (option_and_then h o) ≡ option_and_then i o
  then_alike h i e None = refl
  then_alike h i e (Some a) = e a

  -- ---- what can be thrown

  told_alike : (s : Store K) (n m : ℕ) → option_map (row_map f g) (told s n m) ≡ told (store_map f s) n m
  told_alike s n m =
      changed_alike f g s n (with_message m (object_at s n))
      ∙ ap (λ (o : Option (Object L)). option_map (λ x. gives {E = F} (with_object (store_map f s) n x) []) o) (with_message_alike f m (object_at s n) ∙ ap (with_message m) (sym (object_alike f s n)))

  thrown_alike : (s : Store K) (way : ThrownInit) (values : List (Value K)) → option_map (row_map f g) (throwables.init s way values) ≡ throwables.init (store_map f s) way (values_map f values)
  unfolding throwables.init
  thrown_alike s hows.Message [] = refl
  thrown_alike s hows.Message (Int x ∷ rest) = refl
  thrown_alike s hows.Message (Long x ∷ rest) = refl
  thrown_alike s hows.Message (Ctx x ∷ rest) = refl
  thrown_alike s hows.Message (Ref m ∷ []) = refl
  thrown_alike s hows.Message (Ref m ∷ Int x ∷ rest) = refl
  thrown_alike s hows.Message (Ref m ∷ Long x ∷ rest) = refl
  thrown_alike s hows.Message (Ref m ∷ Ctx x ∷ rest) = refl
  thrown_alike s hows.Message (Ref m ∷ Ref n ∷ []) = told_alike s n m
  thrown_alike s hows.Message (Ref m ∷ Ref n ∷ v ∷ rest) = refl
  thrown_alike s hows.Nothing [] = refl
  thrown_alike s hows.Nothing (Int x ∷ rest) = refl
  thrown_alike s hows.Nothing (Long x ∷ rest) = refl
  thrown_alike s hows.Nothing (Ctx x ∷ rest) = refl
  thrown_alike s hows.Nothing (Ref n ∷ []) = told_alike s n 0
  thrown_alike s hows.Nothing (Ref n ∷ v ∷ rest) = refl

  message_given : (s : Store K) (values : List (Value K)) → option_map (row_map f g) (message s values) ≡ message (store_map f s) (values_map f values)
  unfolding message
  message_given s [] = refl
  message_given s (Int x ∷ rest) = refl
  message_given s (Long x ∷ rest) = refl
  message_given s (Ctx x ∷ rest) = refl
  message_given s (Ref n ∷ v ∷ rest) = refl
  message_given s (Ref n ∷ []) =
      each_alike (λ m. gives s (Ref m ∷ [])) (λ m. gives (store_map f s) (Ref m ∷ [])) (λ m. refl) (message_of (object_at s n))
      ∙ ap (option_map (λ m. gives (store_map f s) (Ref m ∷ []))) (message_alike f (object_at s n) ∙ ap message_of (sym (object_alike f s n)))

  -- ---- strings

  unit_alike : (s : Store K) (o : Option ℕ) → row_map f g (unit_given s o) ≡ unit_given (store_map f s) o
  unit_alike s None = refl
  unit_alike s (Some u) = refl

  equals_alike : (s : Store K) (other : Value K) (us : List ℕ) → row_map f g (tested s (equals us (units s other))) ≡ tested (store_map f s) (equals us (units (store_map f s) (value_map f other)))
  equals_alike s other us = tested_alike f g s (equals us (units s other)) ∙ ap (λ o. tested {E = F} (store_map f s) (equals us o)) (units_alike f s other)

  joined_alike : (s : Store K) (other : Value K) (us : List ℕ) → option_map (row_map f g) (option_map (λ more. text_made s (us ++ more)) (units s other)) ≡ option_map (λ more. text_made (store_map f s) (us ++ more)) (units (store_map f s) (value_map f other))
  joined_alike s other us =
      each_alike (λ (more : List ℕ). text_made s (us ++ more)) (λ more. text_made (store_map f s) (us ++ more)) (λ more. text_made_alike f g s (us ++ more)) (units s other)
      ∙ ap (option_map (λ (more : List ℕ). text_made {E = F} (store_map f s) (us ++ more))) (units_alike f s other)

  concat_alike : (s : Store K) (other v : Value K)
      → option_map (row_map f g) (option_and_then (λ us. option_map (λ more. text_made s (us ++ more)) (units s other)) (units s v))
      ≡ option_and_then (λ us. option_map (λ more. text_made (store_map f s) (us ++ more)) (units (store_map f s) (value_map f other))) (units (store_map f s) (value_map f v))
  concat_alike s other v =
      then_alike (λ (us : List ℕ). option_map (λ more. text_made s (us ++ more)) (units s other)) (λ us. option_map (λ more. text_made (store_map f s) (us ++ more)) (units (store_map f s) (value_map f other))) (joined_alike s other) (units s v)
      ∙ ap (option_and_then (λ (us : List ℕ). option_map (λ more. text_made {E = F} (store_map f s) (us ++ more)) (units (store_map f s) (value_map f other)))) (units_alike f s v)

  string_alike : (s : Store K) (call : StringCall) (values : List (Value K)) → option_map (row_map f g) (string s call values) ≡ string (store_map f s) call (values_map f values)
  unfolding string
  string_alike s strings.Length [] = refl
  string_alike s strings.Length (v ∷ []) =
      each_alike (λ (us : List ℕ). gives s (Int (pos (length us)) ∷ [])) (λ us. gives (store_map f s) (Int (pos (length us)) ∷ [])) (λ us. refl) (units s v)
      ∙ ap (option_map (λ (us : List ℕ). gives {E = F} (store_map f s) (Int (pos (length us)) ∷ []))) (units_alike f s v)
  string_alike s strings.Length (v ∷ u ∷ rest) = refl
  string_alike s strings.CharAt [] = refl
  string_alike s strings.CharAt (Long x ∷ rest) = refl
  string_alike s strings.CharAt (Ref x ∷ rest) = refl
  string_alike s strings.CharAt (Ctx x ∷ rest) = refl
  string_alike s strings.CharAt (Int i ∷ []) = refl
  string_alike s strings.CharAt (Int i ∷ v ∷ []) =
      each_alike (char_at s i) (char_at (store_map f s) i) (λ us. unit_alike s (option_and_then (slice_get us) (place i))) (units s v)
      ∙ ap (option_map (char_at {E = F} (store_map f s) i)) (units_alike f s v)
  string_alike s strings.CharAt (Int i ∷ v ∷ u ∷ rest) = refl
  string_alike s strings.Equals [] = refl
  string_alike s strings.Equals (other ∷ []) = refl
  string_alike s strings.Equals (other ∷ v ∷ []) =
      each_alike (λ (us : List ℕ). tested s (equals us (units s other))) (λ us. tested (store_map f s) (equals us (units (store_map f s) (value_map f other)))) (equals_alike s other) (units s v)
      ∙ ap (option_map (λ (us : List ℕ). tested {E = F} (store_map f s) (equals us (units (store_map f s) (value_map f other))))) (units_alike f s v)
  string_alike s strings.Equals (other ∷ v ∷ u ∷ rest) = refl
  string_alike s strings.Concat [] = refl
  string_alike s strings.Concat (Int x ∷ []) = refl
  string_alike s strings.Concat (Int x ∷ v ∷ []) = concat_alike s (Int x) v
  string_alike s strings.Concat (Int x ∷ v ∷ u ∷ rest) = refl
  string_alike s strings.Concat (Long x ∷ []) = refl
  string_alike s strings.Concat (Long x ∷ v ∷ []) = concat_alike s (Long x) v
  string_alike s strings.Concat (Long x ∷ v ∷ u ∷ rest) = refl
  string_alike s strings.Concat (Ctx x ∷ []) = refl
  string_alike s strings.Concat (Ctx x ∷ v ∷ []) = concat_alike s (Ctx x) v
  string_alike s strings.Concat (Ctx x ∷ v ∷ u ∷ rest) = refl
  string_alike s strings.Concat (Ref zero ∷ []) = refl
  string_alike s strings.Concat (Ref zero ∷ v ∷ []) = refl
  string_alike s strings.Concat (Ref zero ∷ v ∷ u ∷ rest) = refl
  string_alike s strings.Concat (Ref (suc n) ∷ []) = refl
  string_alike s strings.Concat (Ref (suc n) ∷ v ∷ []) = concat_alike s (Ref (suc n)) v
  string_alike s strings.Concat (Ref (suc n) ∷ v ∷ u ∷ rest) = refl

  -- ---- builders

  appended_alike : (s : Store K) (n : ℕ) (results : List (Value K)) (us more : List ℕ) → row_map f g (appended s n results us more) ≡ appended (store_map f s) n (values_map f results) us more
  appended_alike s n results us more =
      ap (λ (t : Store L). costs {E = F} (cells_of (length more)) (Goes t (values_map f results) []))
      (made_alike f (with_object s n (Builder (us ++ more))) (Piece more) ∙ ap (λ (t : Store L). with_made t (Piece more)) (set_alike f s n (Builder (us ++ more))))

  more_alike : (s : Store K) (n : ℕ) (results : List (Value K)) (old new : Option (List ℕ)) → old ≡ new → (us : List ℕ)
      → option_map (row_map f g) (option_map (appended s n results us) old) ≡ option_map (appended (store_map f s) n (values_map f results) us) new
  more_alike s n results old new e us = each_alike (appended s n results us) (appended (store_map f s) n (values_map f results) us) (appended_alike s n results us) old ∙ ap (option_map (appended {E = F} (store_map f s) n (values_map f results) us)) e

  -- behind a text that what was built before says
  builds_alike : (s : Store K) (n : ℕ) (results : List (Value K)) (start : List ℕ → List ℕ) (old new : Option (List ℕ)) → old ≡ new
      → option_map (row_map f g) (option_and_then (λ us. option_map (appended s n results (start us)) old) (built s n)) ≡ option_and_then (λ us. option_map (appended (store_map f s) n (values_map f results) (start us)) new) (built (store_map f s) n)
  builds_alike s n results start old new e =
      then_alike (λ (us : List ℕ). option_map (appended s n results (start us)) old) (λ us. option_map (appended (store_map f s) n (values_map f results) (start us)) new) (λ us. more_alike s n results old new e (start us)) (built s n)
      ∙ ap (option_and_then (λ (us : List ℕ). option_map (appended {E = F} (store_map f s) n (values_map f results) (start us)) new)) (built_alike f s n)

  builder_alike : (s : Store K) (call : BuilderCall) (values : List (Value K)) → option_map (row_map f g) (builder s call values) ≡ builder (store_map f s) call (values_map f values)
  unfolding builder
  builder_alike s builders.Init [] = refl
  builder_alike s builders.Init (Int x ∷ rest) = refl
  builder_alike s builders.Init (Long x ∷ rest) = refl
  builder_alike s builders.Init (Ctx x ∷ rest) = refl
  builder_alike s builders.Init (Ref n ∷ v ∷ rest) = refl
  builder_alike s builders.ToString [] = refl
  builder_alike s builders.ToString (Int x ∷ rest) = refl
  builder_alike s builders.ToString (Long x ∷ rest) = refl
  builder_alike s builders.ToString (Ctx x ∷ rest) = refl
  builder_alike s builders.ToString (Ref n ∷ v ∷ rest) = refl
  builder_alike s builders.Init (Ref n ∷ []) =
      each_alike (λ (us : List ℕ). gives (with_object s n (Builder [])) []) (λ us. gives (with_object (store_map f s) n (Builder [])) []) (λ us. ap (λ (t : Store L). gives {E = F} t []) (set_alike f s n (Builder []))) (built s n)
      ∙ ap (option_map (λ (us : List ℕ). gives {E = F} (with_object (store_map f s) n (Builder [])) [])) (built_alike f s n)
  builder_alike s builders.ToString (Ref n ∷ []) = each_alike (text_made s) (text_made (store_map f s)) (text_made_alike f g s) (built s n) ∙ ap (option_map (text_made {E = F} (store_map f s))) (built_alike f s n)
  builder_alike s (builders.Append piece) [] = refl
  builder_alike s (builders.Append piece) (v ∷ []) = refl
  builder_alike s (builders.Append piece) (v ∷ Int x ∷ rest) = refl
  builder_alike s (builders.Append piece) (v ∷ Long x ∷ rest) = refl
  builder_alike s (builders.Append piece) (v ∷ Ctx x ∷ rest) = refl
  builder_alike s (builders.Append piece) (v ∷ Ref n ∷ []) = builds_alike s n (Ref n ∷ []) (λ us. us) (printed s piece v) (printed (store_map f s) piece (value_map f v)) (printed_alike f s piece v)
  builder_alike s (builders.Append piece) (v ∷ Ref n ∷ u ∷ rest) = refl
  builder_alike s builders.InitText [] = refl
  builder_alike s builders.InitText (Int x ∷ []) = refl
  builder_alike s builders.InitText (Int x ∷ Int y ∷ rest) = refl
  builder_alike s builders.InitText (Int x ∷ Long y ∷ rest) = refl
  builder_alike s builders.InitText (Int x ∷ Ctx y ∷ rest) = refl
  builder_alike s builders.InitText (Int x ∷ Ref m ∷ []) = builds_alike s m [] (λ us. []) (units s (Int x)) (units (store_map f s) (value_map f (Int x))) (units_alike f s (Int x))
  builder_alike s builders.InitText (Int x ∷ Ref m ∷ u ∷ rest) = refl
  builder_alike s builders.InitText (Long x ∷ []) = refl
  builder_alike s builders.InitText (Long x ∷ Int y ∷ rest) = refl
  builder_alike s builders.InitText (Long x ∷ Long y ∷ rest) = refl
  builder_alike s builders.InitText (Long x ∷ Ctx y ∷ rest) = refl
  builder_alike s builders.InitText (Long x ∷ Ref m ∷ []) = builds_alike s m [] (λ us. []) (units s (Long x)) (units (store_map f s) (value_map f (Long x))) (units_alike f s (Long x))
  builder_alike s builders.InitText (Long x ∷ Ref m ∷ u ∷ rest) = refl
  builder_alike s builders.InitText (Ctx x ∷ []) = refl
  builder_alike s builders.InitText (Ctx x ∷ Int y ∷ rest) = refl
  builder_alike s builders.InitText (Ctx x ∷ Long y ∷ rest) = refl
  builder_alike s builders.InitText (Ctx x ∷ Ctx y ∷ rest) = refl
  builder_alike s builders.InitText (Ctx x ∷ Ref m ∷ []) = builds_alike s m [] (λ us. []) (units s (Ctx x)) (units (store_map f s) (value_map f (Ctx x))) (units_alike f s (Ctx x))
  builder_alike s builders.InitText (Ctx x ∷ Ref m ∷ u ∷ rest) = refl
  builder_alike s builders.InitText (Ref zero ∷ []) = refl
  builder_alike s builders.InitText (Ref zero ∷ Int y ∷ rest) = refl
  builder_alike s builders.InitText (Ref zero ∷ Long y ∷ rest) = refl
  builder_alike s builders.InitText (Ref zero ∷ Ctx y ∷ rest) = refl
  builder_alike s builders.InitText (Ref zero ∷ Ref m ∷ []) = refl
  builder_alike s builders.InitText (Ref zero ∷ Ref m ∷ u ∷ rest) = refl
  builder_alike s builders.InitText (Ref (suc n) ∷ []) = refl
  builder_alike s builders.InitText (Ref (suc n) ∷ Int y ∷ rest) = refl
  builder_alike s builders.InitText (Ref (suc n) ∷ Long y ∷ rest) = refl
  builder_alike s builders.InitText (Ref (suc n) ∷ Ctx y ∷ rest) = refl
  builder_alike s builders.InitText (Ref (suc n) ∷ Ref m ∷ []) = builds_alike s m [] (λ us. []) (units s (Ref (suc n))) (units (store_map f s) (value_map f (Ref (suc n)))) (units_alike f s (Ref (suc n)))
  builder_alike s builders.InitText (Ref (suc n) ∷ Ref m ∷ u ∷ rest) = refl

  -- ---- printing

  print_alike : (s : Store K) (thread : ℕ) (piece : Kind) (values : List (Value K)) → option_map (row_map f g) (print s thread piece values) ≡ print (store_map f s) thread piece (values_map f values)
  unfolding print
  print_alike s thread piece [] = refl
  print_alike s thread piece (v ∷ []) = refl
  print_alike s thread piece (v ∷ stream ∷ []) = each_alike (line s thread) (line (store_map f s) thread) (λ us. refl) (printed s piece v) ∙ ap (option_map (line {E = F} (store_map f s) thread)) (printed_alike f s piece v)
  print_alike s thread piece (v ∷ stream ∷ u ∷ rest) = refl

  end_alike : (s : Store K) (thread : ℕ) (values : List (Value K)) → option_map (row_map f g) (print_end s thread values) ≡ print_end (store_map f s) thread (values_map f values)
  unfolding print_end
  end_alike s thread [] = refl
  end_alike s thread (stream ∷ []) = refl
  end_alike s thread (stream ∷ u ∷ rest) = refl

  -- ---- permissions

  constructed_alike : (s : Store K) (n : ℕ) (made : Result perms.Permission PermError) → option_map (row_map f g) (constructed s n made) ≡ constructed (store_map f s) n made
  constructed_alike s n (Err e) = refl
  constructed_alike s n (Ok p) =
      changed_alike f g s n (with_value p (object_at s n))
      ∙ ap (λ (o : Option (Object L)). option_map (λ x. gives {E = F} (with_object (store_map f s) n x) []) o) (with_value_alike f p (object_at s n) ∙ ap (with_value p) (sym (object_alike f s n)))

  permission_alike : (s : Store K) (cwd : List ℕ) (call : PermissionInit) (values : List (Value K)) → option_map (row_map f g) (permissions.init s cwd call values) ≡ permissions.init (store_map f s) cwd call (values_map f values)
  unfolding permissions.init
  permission_alike s cwd call values =
      then_alike (made_in s cwd call) (made_in (store_map f s) cwd call) (λ given. constructed_alike s given.object (made (class_of call) given.name given.actions cwd)) (given s values)
      ∙ ap (option_and_then (made_in {E = F} (store_map f s) cwd call)) (given_alike f s values)

  -- ---- all

  object_init_alike : (s : Store K) (values : List (Value K)) → option_map (row_map f g) (object_init s values) ≡ object_init (store_map f s) (values_map f values)
  object_init_alike s [] = refl
  object_init_alike s (v ∷ []) = refl
  object_init_alike s (v ∷ u ∷ rest) = refl

  pub library_alike : (at : Site) (s : Store K) (call : LibCall) (values : List (Value K)) → option_map (row_map f g) (library at s call values) ≡ library at (store_map f s) call (values_map f values)
  unfolding library
  library_alike at s calls.ObjectInit values = object_init_alike s values
  library_alike at s (calls.ThrownInit class way) values = thrown_alike s way values
  library_alike at s calls.AccessControlInit values = thrown_alike s hows.Message values
  library_alike at s calls.GetMessage values = message_given s values
  library_alike at s (calls.String call) values = string_alike s call values
  library_alike at s (calls.Builder call) values = builder_alike s call values
  library_alike at s calls.Out values = refl
  library_alike at s calls.PrintEnd values = end_alike s at.thread values
  library_alike at s (calls.Print piece) values = print_alike s at.thread piece values
  library_alike at s (calls.Run side) values = refl
  library_alike at s (calls.Thread call) values = refl
  library_alike at s (calls.RunAction side) values = refl
  library_alike at s (calls.Controller call) values = refl
  library_alike at s calls.ContextCheck values = refl
  library_alike at s (calls.PermissionInit call) values = permission_alike s at.cwd call values
  library_alike at s (calls.Rt call) values = refl

pub library_law : (K L E F : Type 0) → LibraryAlike K L E F
library_law K L E F f g at s call values = library_alike f g at s call values
