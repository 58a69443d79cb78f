-- Rows of calls of String, StringBuilder and PrintStream.
use Rattle.std.proofs.Common.{◌≡◌, ℕ, zero, suc, ℤ, pos, Bool, true, false, List, [], ◌∷◌, ◌++◌, length, Option, Some, None, option_map, refl, sym, ap, subst, ◌∙◌}
use Rattle.std.specs.Prelude.{option_and_then, slice_get, codes}
use Rattle.jlib.specs.declared.calls.BuilderCall.{BuilderCall}
use Rattle.jlib.specs.declared.calls.BuilderCall.TheVariants as builders
use Rattle.jlib.specs.declared.calls.LibCall.{LibCall}
use Rattle.jlib.specs.declared.calls.LibCall.TheVariants as calls
use Rattle.jlib.specs.declared.calls.PrintedType.{PrintedType as Kind}
use Rattle.jlib.specs.declared.calls.PrintedType.TheVariants as pieces
use Rattle.jlib.specs.declared.calls.StringCall.{StringCall}
use Rattle.jlib.specs.declared.calls.StringCall.TheVariants as strings
use Rattle.jlib.specs.declared.classes.LibClass.TheVariants as lib
use Rattle.jlib.specs.declared.classes.Thrown.TheVariants as thrown
use Rattle.jvalues.specs.declared.jops.value.Value.{Value}
use Rattle.jvalues.specs.declared.jops.value.Value.TheVariants.{Int, Long, Ref}
use Rattle.joutput.specs.declared.jtrace.event.Event.TheVariants.{Out}
use Rattle.jtypes.specs.declared.vtype.VType.{VType}
use Rattle.jtypes.specs.declared.vtype.VType.TheVariants as types
use Rattle.jresolution.specs.declared.jprogram.member.Member.{Member}
use Rattle.jresolution.specs.declared.juses.meaning.InvokeKind.{InvokeKind}
use Rattle.jresolution.specs.declared.juses.meaning.InvokeKind.TheVariants as how
use Rattle.jtyping.specs.jrule.PoolEffects.{of_library}
use Rattle.jtyping.specs.ProofNames.{string as text_type}
use Rattle.jsemantics.specs.jmachine.MachineStates.{Row, gives}
use Rattle.jsemantics.specs.jmachine.CallTargets.{receiver}
use Rattle.jsemantics.specs.jmachine.InstructionActions.{run}
use Rattle.jsemantics.specs.jmachine.LibraryCalls.{library}
use Rattle.jsemantics.specs.jmachine.ObjectInstructions.{tested, text_made}
use Rattle.jsemantics.specs.jmachine.Narrowing.{place}
use Rattle.jsemantics.specs.jmachine.HeapObjects.{Object, Text, Builder, Piece}
use Rattle.jsemantics.specs.jmachine.Security.{Rules}
use Rattle.jsemantics.specs.jmachine.InstructionSites.{Site}
use Rattle.jsemantics.specs.jmachine.Store.{Store, object_at, with_made, with_object}
use Rattle.jsemantics.specs.jmachine.TextCalls.{appended, builder, equals, line, print, print_end, printed, string, unit_given, units}
use Rattle.jsemantics.specs.ProofNames.{built_in, units_in, char_at}
use Rattle.jsoundness_laws.specs.typed.StoreGrowth.{Grows}
use Rattle.jsoundness_laws.specs.typed.TypedValues.{IsA}
use Rattle.jsoundness_laws.proofs.TypedProofs.StoreMonotonicity.{grows_made, serves_kept}
use Rattle.jsoundness_laws.specs.library.LibraryArguments.{AreGiven, IsReceiver, way_of}
use Rattle.jsoundness_laws.specs.library.YieldLaws.{CallYields}
use Rattle.jsoundness_laws.specs.library.LibraryResults.{Follows, IsWhole}
use Rattle.jsoundness_laws.proofs.LibraryProofs.StoreExtension.{changed_at, follows_changed, follows_made, follows_on, still_whole}
use Rattle.jsoundness_laws.proofs.LibraryProofs.LibraryCallRows.{Premises, Rowed, an_int, builder_at, builder_begun, call_yields, found_by, given_int, given_long, given_ref, it_gives, it_is_null}
use Rattle.jsoundness_laws.proofs.LibraryProofs.LibraryCallRows.{it_makes, it_raises, not_zero, text_at}
use Rattle.jsoundness_laws.proofs.LibraryProofs.MemberDescriptors as signed

module _ {K E : Type 0} (r : Rules K E) (at : Site) (own : Member → Bool) (s : Store K) (entries : List E) (inherited : Option K)
    (statics : List VType) (h : Premises r.side at.world s statics) where
  abbrev Row_ : InvokeKind → List (Value K) → Option VType → Option (Row K E) → Type 0
  Row_ by values ret found = Rowed {K = K} {E = E} r.side at s statics by values ret found

  abbrev RowOf : LibCall → Option VType → List (Value K) → Type 0
  RowOf call ret values = Row_ (way_of call) values ret (run r at own s entries inherited call values)

  abbrev On : LibCall → List VType → Option VType → Type 0
  On call params ret = (values : List (Value K)) → AreGiven at.world s call params values → RowOf call ret values

  -- the same values
  as_given : (call : LibCall) (ret : Option VType) (values given : List (Value K)) → values ≡ given → RowOf call ret given → RowOf call ret values
  as_given call ret values given e x = subst (λ values. RowOf call ret values) (sym e) x

  -- ---- String

  an_int_row : (values : List (Value K)) (x : ℤ) → Row_ how.Virtual values (Some types.Int) (Some (gives s (Int x ∷ [])))
  an_int_row values x = it_gives r.side at s statics h how.Virtual values (Some types.Int) (Int x ∷ []) [] (an_int at.world s x, tt) tt

  tested_row : (values : List (Value K)) (b : Bool) → Row_ how.Virtual values (Some types.Int) (Some (tested s b))
  tested_row values true = an_int_row values (pos 1)
  tested_row values false = an_int_row values (pos 0)

  length_row : (n : ℕ) (us : List ℕ) → object_at s n ≡ Some (Text (Some us)) → RowOf (calls.String strings.Length) (Some types.Int) (Ref n ∷ [])
  unfolding library string
  length_row n us is =
      let found = ap (λ (o : Option (Object K)). option_map (λ us. gives {E = E} s (Int (pos (length us)) ∷ [])) (units_in o)) is in
      found_by r.side at s statics how.Virtual (Ref n ∷ []) (Some types.Int) _ _ found (an_int_row (Ref n ∷ []) (pos (length us)))

  unit_row : (values : List (Value K)) (o : Option ℕ) → Row_ how.Virtual values (Some types.Int) (Some (unit_given s o))
  unit_row values None = it_raises r.side at s statics how.Virtual values (Some types.Int) (lib.Thrown thrown.StringIndexOutOfBoundsException) tt
  unit_row values (Some u) = an_int_row values (pos u)

  char_at_row : (i : ℤ) (n : ℕ) (us : List ℕ) → object_at s n ≡ Some (Text (Some us)) → RowOf (calls.String strings.CharAt) (Some types.Int) (Int i ∷ Ref n ∷ [])
  unfolding library string
  char_at_row i n us is =
      let found = ap (λ (o : Option (Object K)). option_map (char_at {E = E} s i) (units_in o)) is in
      found_by r.side at s statics how.Virtual (Int i ∷ Ref n ∷ []) (Some types.Int) _ _ found (unit_row (Int i ∷ Ref n ∷ []) (option_and_then (slice_get us) (place i)))

  equals_row : (other n : ℕ) (us : List ℕ) → object_at s n ≡ Some (Text (Some us)) → RowOf (calls.String strings.Equals) (Some types.Int) (Ref other ∷ Ref n ∷ [])
  unfolding library string
  equals_row other n us is =
      let found = ap (λ (o : Option (Object K)). option_map (λ us. tested {E = E} s (equals us (units s (Ref other)))) (units_in o)) is in
      found_by r.side at s statics how.Virtual (Ref other ∷ Ref n ∷ []) (Some types.Int) _ _ found (tested_row (Ref other ∷ Ref n ∷ []) (equals us (units s (Ref other))))

  concat_row : (m n : ℕ) (us : List ℕ) → IsA at.world s text_type (Ref m) → object_at s n ≡ Some (Text (Some us))
      → RowOf (calls.String strings.Concat) (Some text_type) (Ref m ∷ Ref n ∷ [])
  unfolding library string
  concat_row zero n us other is = it_is_null r.side at s statics how.Virtual (Ref 0 ∷ Ref n ∷ []) (Some text_type)
  concat_row (suc m) n us other is =
      let t = text_at r.side at.world s statics h (suc m) (not_zero m) other in
      let both = ap (λ (o : Option (Object K)). option_and_then (λ us. option_map (λ more. text_made {E = E} s (us ++ more)) (units s (Ref (suc m)))) (units_in o)) is
      ∙ ap (λ (o : Option (Object K)). option_map (λ more. text_made {E = E} s (us ++ more)) (units_in o)) t.1 in
      found_by r.side at s statics how.Virtual (Ref (suc m) ∷ Ref n ∷ []) (Some text_type) _ _ both (it_makes r.side at s statics h (Ref (suc m) ∷ Ref n ∷ []) (us ++ t.0))

  length_on : On (calls.String strings.Length) [] (Some types.Int)
  length_on values g =
      let t = text_at r.side at.world s statics h g.0 g.2 g.3 in
      as_given (calls.String strings.Length) (Some types.Int) values (Ref g.0 ∷ []) g.1 (length_row g.0 t.0 t.1)

  char_at_on : On (calls.String strings.CharAt) (types.Int ∷ []) (Some types.Int)
  char_at_on values g =
      let i = given_int at.world s (IsReceiver at.world s how.Virtual lib.String) [] values g in
      let t = text_at r.side at.world s statics h i.3.0 i.3.2 i.3.3 in
      as_given (calls.String strings.CharAt) (Some types.Int) values (Int i.0 ∷ Ref i.3.0 ∷ []) (i.2 ∙ ap (λ more. Int i.0 ∷ more) i.3.1) (char_at_row i.0 i.3.0 t.0 t.1)

  equals_on : On (calls.String strings.Equals) (of_library lib.Object ∷ []) (Some types.Int)
  equals_on values g =
      let o = given_ref at.world s (IsReceiver at.world s how.Virtual lib.String) [] _ values g in
      let t = text_at r.side at.world s statics h o.4.0 o.4.2 o.4.3 in
      as_given (calls.String strings.Equals) (Some types.Int) values (Ref o.0 ∷ Ref o.4.0 ∷ []) (o.2 ∙ ap (λ more. Ref o.0 ∷ more) o.4.1) (equals_row o.0 o.4.0 t.0 t.1)

  concat_on : On (calls.String strings.Concat) (text_type ∷ []) (Some text_type)
  concat_on values g =
      let o = given_ref at.world s (IsReceiver at.world s how.Virtual lib.String) [] _ values g in
      let t = text_at r.side at.world s statics h o.4.0 o.4.2 o.4.3 in
      as_given (calls.String strings.Concat) (Some text_type) values (Ref o.0 ∷ Ref o.4.0 ∷ []) (o.2 ∙ ap (λ more. Ref o.0 ∷ more) o.4.1) (concat_row o.0 o.4.0 t.0 o.3 t.1)

  -- ---- what is printed

  abbrev Printed : Kind → Value K → Type 0
  Printed piece v = (us : List ℕ) × (printed s piece v ≡ Some us)

  printed_text : (n : ℕ) → IsA at.world s text_type (Ref n) → Printed pieces.Text (Ref n)
  unfolding printed
  printed_text zero is = (codes "null", refl)
  printed_text (suc n) is = let t = text_at r.side at.world s statics h (suc n) (not_zero n) is in (t.0, ap (λ (o : Option (Object K)). units_in o) t.1)

  printed_int : (x : ℤ) → Printed pieces.Int (Int x)
  unfolding printed
  printed_int x = (_, refl)

  printed_long : (x : ℤ) → Printed pieces.Long (Long x)
  unfolding printed
  printed_long x = (_, refl)

  printed_char : (x : ℤ) → Printed pieces.Char (Int x)
  unfolding printed
  printed_char x = (_, refl)

  printed_bool : (x : ℤ) → Printed pieces.Bool (Int x)
  unfolding printed
  printed_bool x = (_, refl)

  -- ---- StringBuilder

  -- the object of an `<init>`
  abbrev IsLast : List (Value K) → ℕ → Type 0
  IsLast values n = receiver values ≡ Some (Ref n)

  abbrev Built : ℕ → List ℕ → Store K
  Built n us = with_object s n (Builder us)

  built_follows : (n : ℕ) (old us : List ℕ) → object_at s n ≡ Some (Builder old) → Follows at.world statics s (Built n us)
  built_follows n old us is =
      follows_changed at.world statics s n (Builder old) (Builder us) h.stored is (record { class = refl; whole = λ x. refl; piece = refl }) tt tt

  built_whole : (n : ℕ) (old us : List ℕ) → object_at s n ≡ Some (Builder old) → IsWhole (Built n us) n
  built_whole n old us is = (Builder us, changed_at at.world statics s n (Builder old) (Builder us) is, refl)

  more_follows : (n : ℕ) (old us more : List ℕ) → object_at s n ≡ Some (Builder old) → Follows at.world statics s (with_made (Built n us) (Piece more))
  more_follows n old us more is =
      let first = built_follows n old us is in
      follows_on at.world statics s (Built n us) (with_made (Built n us) (Piece more)) first (follows_made at.world statics (Built n us) (Piece more) first.stored tt)

  more_whole : (n : ℕ) (old us more : List ℕ) → object_at s n ≡ Some (Builder old) → IsWhole (with_made (Built n us) (Piece more)) n
  more_whole n old us more is =
      still_whole at.world statics (Built n us) (with_made (Built n us) (Piece more)) (grows_made K at.world (Built n us) (Piece more)) n (built_whole n old us is)

  named_builder : (n : ℕ) (t : Store K) → Grows at.world s t → IsA at.world s (of_library lib.StringBuilder) (Ref n) → IsA at.world t (of_library lib.StringBuilder) (Ref n)
  named_builder n t grows is = serves_kept at.world s t grows _ (Ref n) is

  init_row : (n : ℕ) (us : List ℕ) → object_at s n ≡ Some (Builder us) → RowOf (calls.Builder builders.Init) None (Ref n ∷ [])
  unfolding library builder receiver
  init_row n us is = record {
    row = gives (Built n []) [];
    is = ap (λ (o : Option (Object K)). option_map (λ us. gives {E = E} (Built n []) []) (built_in o)) is;
    act = (built_follows n us [] is, tt, (n, refl, built_whole n us [] is));
  }

  init_text_row : (m n : ℕ) (us : List ℕ) → IsA at.world s text_type (Ref m) → object_at s n ≡ Some (Builder us) → RowOf (calls.Builder builders.InitText) None (Ref m ∷ Ref n ∷ [])
  unfolding library builder receiver
  init_text_row zero n us text is = it_is_null r.side at s statics how.Init (Ref 0 ∷ Ref n ∷ []) None
  init_text_row (suc m) n us text is =
      let t = text_at r.side at.world s statics h (suc m) (not_zero m) text in record {
        row = appended s n [] [] t.0;
        is = ap (λ (o : Option (Object K)). option_and_then (λ us. option_map (appended {E = E} s n [] []) (units s (Ref (suc m)))) (built_in o)) is
            ∙ ap (λ (o : Option (Object K)). option_map (appended {E = E} s n [] []) (units_in o)) t.1;
        act = (more_follows n us t.0 t.0 is, tt, (n, refl, more_whole n us t.0 t.0 is));
      }

  append_row : (piece : Kind) (v : Value K) (n : ℕ) (us : List ℕ) → Printed piece v → IsA at.world s (of_library lib.StringBuilder) (Ref n) → object_at s n ≡ Some (Builder us)
      → Row_ how.Virtual (v ∷ Ref n ∷ []) (Some (of_library lib.StringBuilder)) (run r at own s entries inherited (calls.Builder (builders.Append piece)) (v ∷ Ref n ∷ []))
  unfolding library builder
  append_row piece v n us text named is = record {
    row = appended s n (Ref n ∷ []) us text.0;
    is = ap (λ (o : Option (Object K)). option_and_then (λ us. option_map (appended {E = E} s n (Ref n ∷ []) us) (printed s piece v)) (built_in o)) is
        ∙ ap (option_map (appended {E = E} s n (Ref n ∷ []) us)) text.1;
    act = (more_follows n us (us ++ text.0) text.0 is, (named_builder n _ (more_follows n us (us ++ text.0) text.0 is).grows named, tt), tt);
  }

  to_string_row : (n : ℕ) (us : List ℕ) → object_at s n ≡ Some (Builder us) → RowOf (calls.Builder builders.ToString) (Some text_type) (Ref n ∷ [])
  unfolding library builder
  to_string_row n us is =
      let found = ap (λ (o : Option (Object K)). option_map (text_made {E = E} s) (built_in o)) is in
      found_by r.side at s statics how.Virtual (Ref n ∷ []) (Some text_type) _ _ found (it_makes r.side at s statics h (Ref n ∷ []) us)

  init_on : On (calls.Builder builders.Init) [] None
  init_on values g =
      let t = builder_begun r.side at.world s statics h g.0 g.2 in
      as_given (calls.Builder builders.Init) None values (Ref g.0 ∷ []) g.1 (init_row g.0 t.0 t.1)

  init_text_on : On (calls.Builder builders.InitText) (text_type ∷ []) None
  init_text_on values g =
      let o = given_ref at.world s (IsReceiver at.world s how.Init lib.StringBuilder) [] _ values g in
      let t = builder_begun r.side at.world s statics h o.4.0 o.4.2 in
      as_given (calls.Builder builders.InitText) None values (Ref o.0 ∷ Ref o.4.0 ∷ []) (o.2 ∙ ap (λ more. Ref o.0 ∷ more) o.4.1) (init_text_row o.0 o.4.0 t.0 o.3 t.1)

  to_string_on : On (calls.Builder builders.ToString) [] (Some text_type)
  to_string_on values g =
      let t = builder_at r.side at.world s statics h g.0 g.2 g.3 in
      as_given (calls.Builder builders.ToString) (Some text_type) values (Ref g.0 ∷ []) g.1 (to_string_row g.0 t.0 t.1)

  append_int_on : On (calls.Builder (builders.Append pieces.Int)) (types.Int ∷ []) (Some (of_library lib.StringBuilder))
  append_int_on values g =
      let i = given_int at.world s (IsReceiver at.world s how.Virtual lib.StringBuilder) [] values g in
      let t = builder_at r.side at.world s statics h i.3.0 i.3.2 i.3.3 in
      as_given (calls.Builder (builders.Append pieces.Int)) (Some (of_library lib.StringBuilder)) values (Int i.0 ∷ Ref i.3.0 ∷ []) (i.2 ∙ ap (λ more. Int i.0 ∷ more) i.3.1)
      (append_row pieces.Int (Int i.0) i.3.0 t.0 (printed_int i.0) i.3.3 t.1)

  append_long_on : On (calls.Builder (builders.Append pieces.Long)) (types.Long ∷ []) (Some (of_library lib.StringBuilder))
  append_long_on values g =
      let i = given_long at.world s (IsReceiver at.world s how.Virtual lib.StringBuilder) [] values g in
      let t = builder_at r.side at.world s statics h i.3.0 i.3.2 i.3.3 in
      as_given (calls.Builder (builders.Append pieces.Long)) (Some (of_library lib.StringBuilder)) values (Long i.0 ∷ Ref i.3.0 ∷ []) (i.2 ∙ ap (λ more. Long i.0 ∷ more) i.3.1)
      (append_row pieces.Long (Long i.0) i.3.0 t.0 (printed_long i.0) i.3.3 t.1)

  append_char_on : On (calls.Builder (builders.Append pieces.Char)) (types.Int ∷ []) (Some (of_library lib.StringBuilder))
  append_char_on values g =
      let i = given_int at.world s (IsReceiver at.world s how.Virtual lib.StringBuilder) [] values g in
      let t = builder_at r.side at.world s statics h i.3.0 i.3.2 i.3.3 in
      as_given (calls.Builder (builders.Append pieces.Char)) (Some (of_library lib.StringBuilder)) values (Int i.0 ∷ Ref i.3.0 ∷ []) (i.2 ∙ ap (λ more. Int i.0 ∷ more) i.3.1)
      (append_row pieces.Char (Int i.0) i.3.0 t.0 (printed_char i.0) i.3.3 t.1)

  append_bool_on : On (calls.Builder (builders.Append pieces.Bool)) (types.Int ∷ []) (Some (of_library lib.StringBuilder))
  append_bool_on values g =
      let i = given_int at.world s (IsReceiver at.world s how.Virtual lib.StringBuilder) [] values g in
      let t = builder_at r.side at.world s statics h i.3.0 i.3.2 i.3.3 in
      as_given (calls.Builder (builders.Append pieces.Bool)) (Some (of_library lib.StringBuilder)) values (Int i.0 ∷ Ref i.3.0 ∷ []) (i.2 ∙ ap (λ more. Int i.0 ∷ more) i.3.1)
      (append_row pieces.Bool (Int i.0) i.3.0 t.0 (printed_bool i.0) i.3.3 t.1)

  append_text_on : On (calls.Builder (builders.Append pieces.Text)) (text_type ∷ []) (Some (of_library lib.StringBuilder))
  append_text_on values g =
      let o = given_ref at.world s (IsReceiver at.world s how.Virtual lib.StringBuilder) [] _ values g in
      let t = builder_at r.side at.world s statics h o.4.0 o.4.2 o.4.3 in
      as_given (calls.Builder (builders.Append pieces.Text)) (Some (of_library lib.StringBuilder)) values (Ref o.0 ∷ Ref o.4.0 ∷ []) (o.2 ∙ ap (λ more. Ref o.0 ∷ more) o.4.1)
      (append_row pieces.Text (Ref o.0) o.4.0 t.0 (printed_text o.0 o.3) o.4.3 t.1)

  -- ---- PrintStream

  print_row : (piece : Kind) (v : Value K) (n : ℕ) → Printed piece v
      → Row_ how.Virtual (v ∷ Ref n ∷ []) None (run r at own s entries inherited (calls.Print piece) (v ∷ Ref n ∷ []))
  unfolding library print
  print_row piece v n text =
      let found = ap (option_map (line {E = E} s at.thread)) text.1 in
      found_by r.side at s statics how.Virtual (v ∷ Ref n ∷ []) None _ _ found
      (it_gives r.side at s statics h how.Virtual (v ∷ Ref n ∷ []) None [] (Out at.thread text.0 ∷ []) tt tt)

  print_end_row : (n : ℕ) → RowOf calls.PrintEnd None (Ref n ∷ [])
  unfolding library print_end
  print_end_row n = it_gives r.side at s statics h how.Virtual (Ref n ∷ []) None [] (Out at.thread [] ∷ []) tt tt

  print_end_on : On calls.PrintEnd [] None
  print_end_on values g = as_given calls.PrintEnd None values (Ref g.0 ∷ []) g.1 (print_end_row g.0)

  print_int_on : On (calls.Print pieces.Int) (types.Int ∷ []) None
  print_int_on values g =
      let i = given_int at.world s (IsReceiver at.world s how.Virtual lib.PrintStream) [] values g in
      as_given (calls.Print pieces.Int) None values (Int i.0 ∷ Ref i.3.0 ∷ []) (i.2 ∙ ap (λ more. Int i.0 ∷ more) i.3.1) (print_row pieces.Int (Int i.0) i.3.0 (printed_int i.0))

  print_long_on : On (calls.Print pieces.Long) (types.Long ∷ []) None
  print_long_on values g =
      let i = given_long at.world s (IsReceiver at.world s how.Virtual lib.PrintStream) [] values g in
      as_given (calls.Print pieces.Long) None values (Long i.0 ∷ Ref i.3.0 ∷ [])
      (i.2 ∙ ap (λ more. Long i.0 ∷ more) i.3.1) (print_row pieces.Long (Long i.0) i.3.0 (printed_long i.0))

  print_char_on : On (calls.Print pieces.Char) (types.Int ∷ []) None
  print_char_on values g =
      let i = given_int at.world s (IsReceiver at.world s how.Virtual lib.PrintStream) [] values g in
      as_given (calls.Print pieces.Char) None values (Int i.0 ∷ Ref i.3.0 ∷ []) (i.2 ∙ ap (λ more. Int i.0 ∷ more) i.3.1) (print_row pieces.Char (Int i.0) i.3.0 (printed_char i.0))

  print_bool_on : On (calls.Print pieces.Bool) (types.Int ∷ []) None
  print_bool_on values g =
      let i = given_int at.world s (IsReceiver at.world s how.Virtual lib.PrintStream) [] values g in
      as_given (calls.Print pieces.Bool) None values (Int i.0 ∷ Ref i.3.0 ∷ []) (i.2 ∙ ap (λ more. Int i.0 ∷ more) i.3.1) (print_row pieces.Bool (Int i.0) i.3.0 (printed_bool i.0))

  print_text_on : On (calls.Print pieces.Text) (text_type ∷ []) None
  print_text_on values g =
      let o = given_ref at.world s (IsReceiver at.world s how.Virtual lib.PrintStream) [] _ values g in
      as_given (calls.Print pieces.Text) None values (Ref o.0 ∷ Ref o.4.0 ∷ [])
      (o.2 ∙ ap (λ more. Ref o.0 ∷ more) o.4.1) (print_row pieces.Text (Ref o.0) o.4.0 (printed_text o.0 o.3))

-- ---- the calls

module _ (K E : Type 0) where
  pub string_yields : (call : StringCall) → CallYields K E (calls.String call)
  string_yields strings.Length = call_yields K E (calls.String strings.Length) [] (Some types.Int) (λ p good ps t e. signed.length_says p good)
      (λ r at own s entries inherited p statics values good is side sided h g. length_on r at own s entries inherited statics h values g)
  string_yields strings.CharAt = call_yields K E (calls.String strings.CharAt) (types.Int ∷ []) (Some types.Int) (λ p good ps t e. signed.char_at_says p good)
      (λ r at own s entries inherited p statics values good is side sided h g. char_at_on r at own s entries inherited statics h values g)
  string_yields strings.Equals = call_yields K E (calls.String strings.Equals) (of_library lib.Object ∷ []) (Some types.Int) (λ p good ps t e. signed.equals_says p good)
      (λ r at own s entries inherited p statics values good is side sided h g. equals_on r at own s entries inherited statics h values g)
  string_yields strings.Concat = call_yields K E (calls.String strings.Concat) (text_type ∷ []) (Some text_type) (λ p good ps t e. signed.concat_says p good)
      (λ r at own s entries inherited p statics values good is side sided h g. concat_on r at own s entries inherited statics h values g)

  append_yields : (piece : Kind) → CallYields K E (calls.Builder (builders.Append piece))
  append_yields pieces.Int = call_yields K E (calls.Builder (builders.Append pieces.Int)) (types.Int ∷ []) (Some (of_library lib.StringBuilder))
      (λ p good ps t e. signed.append_int_says p good)
      (λ r at own s entries inherited p statics values good is side sided h g. append_int_on r at own s entries inherited statics h values g)
  append_yields pieces.Long = call_yields K E (calls.Builder (builders.Append pieces.Long)) (types.Long ∷ []) (Some (of_library lib.StringBuilder))
      (λ p good ps t e. signed.append_long_says p good)
      (λ r at own s entries inherited p statics values good is side sided h g. append_long_on r at own s entries inherited statics h values g)
  append_yields pieces.Char = call_yields K E (calls.Builder (builders.Append pieces.Char)) (types.Int ∷ []) (Some (of_library lib.StringBuilder))
      (λ p good ps t e. signed.append_char_says p good)
      (λ r at own s entries inherited p statics values good is side sided h g. append_char_on r at own s entries inherited statics h values g)
  append_yields pieces.Bool = call_yields K E (calls.Builder (builders.Append pieces.Bool)) (types.Int ∷ []) (Some (of_library lib.StringBuilder))
      (λ p good ps t e. signed.append_bool_says p good)
      (λ r at own s entries inherited p statics values good is side sided h g. append_bool_on r at own s entries inherited statics h values g)
  append_yields pieces.Text = call_yields K E (calls.Builder (builders.Append pieces.Text)) (text_type ∷ []) (Some (of_library lib.StringBuilder))
      (λ p good ps t e. signed.append_text_says p good)
      (λ r at own s entries inherited p statics values good is side sided h g. append_text_on r at own s entries inherited statics h values g)

  pub builder_yields : (call : BuilderCall) → CallYields K E (calls.Builder call)
  builder_yields builders.Init = call_yields K E (calls.Builder builders.Init) [] None (λ p good ps t e. signed.nothing_says p good)
      (λ r at own s entries inherited p statics values good is side sided h g. init_on r at own s entries inherited statics h values g)
  builder_yields builders.InitText = call_yields K E (calls.Builder builders.InitText) (text_type ∷ []) None (λ p good ps t e. signed.text_says p good)
      (λ r at own s entries inherited p statics values good is side sided h g. init_text_on r at own s entries inherited statics h values g)
  builder_yields (builders.Append piece) = append_yields piece
  builder_yields builders.ToString = call_yields K E (calls.Builder builders.ToString) [] (Some text_type) (λ p good ps t e. signed.told_says p good)
      (λ r at own s entries inherited p statics values good is side sided h g. to_string_on r at own s entries inherited statics h values g)

  pub print_yields : (piece : Kind) → CallYields K E (calls.Print piece)
  print_yields pieces.Int = call_yields K E (calls.Print pieces.Int) (types.Int ∷ []) None (λ p good ps t e. signed.int_says p good)
      (λ r at own s entries inherited p statics values good is side sided h g. print_int_on r at own s entries inherited statics h values g)
  print_yields pieces.Long = call_yields K E (calls.Print pieces.Long) (types.Long ∷ []) None (λ p good ps t e. signed.long_says p good)
      (λ r at own s entries inherited p statics values good is side sided h g. print_long_on r at own s entries inherited statics h values g)
  print_yields pieces.Char = call_yields K E (calls.Print pieces.Char) (types.Int ∷ []) None (λ p good ps t e. signed.char_says p good)
      (λ r at own s entries inherited p statics values good is side sided h g. print_char_on r at own s entries inherited statics h values g)
  print_yields pieces.Bool = call_yields K E (calls.Print pieces.Bool) (types.Int ∷ []) None (λ p good ps t e. signed.bool_says p good)
      (λ r at own s entries inherited p statics values good is side sided h g. print_bool_on r at own s entries inherited statics h values g)
  print_yields pieces.Text = call_yields K E (calls.Print pieces.Text) (text_type ∷ []) None (λ p good ps t e. signed.text_says p good)
      (λ r at own s entries inherited p statics values good is side sided h g. print_text_on r at own s entries inherited statics h values g)

  pub print_end_yields : CallYields K E calls.PrintEnd
  print_end_yields = call_yields K E (calls.PrintEnd) [] None (λ p good ps t e. signed.nothing_says p good)
      (λ r at own s entries inherited p statics values good is side sided h g. print_end_on r at own s entries inherited statics h values g)
