-- Rows of the constructors of what can be thrown, of getMessage, and of the constructor of Object.
use Rattle.std.proofs.Common.{◌≡◌, ℕ, ◌⊎◌, inl, inr, Bool, true, false, List, [], ◌∷◌, Option, Some, None, option_map, refl, sym, ap, subst, ◌∙◌}
use Rattle.jlib.specs.declared.calls.LibCall.{LibCall}
use Rattle.jlib.specs.declared.calls.LibCall.TheVariants as calls
use Rattle.jlib.specs.declared.calls.ThrownInit.{ThrownInit}
use Rattle.jlib.specs.declared.calls.ThrownInit.TheVariants as given
use Rattle.jlib.specs.declared.classes.LibClass.{LibClass}
use Rattle.jlib.specs.declared.classes.LibClass.TheVariants as lib
use Rattle.jlib.specs.declared.classes.Thrown.{Thrown as ThrownClass}
use Rattle.jlib.specs.declared.classes.Thrown.TheVariants as thrown
use Rattle.jlib.specs.declared.side.Side.{Side}
use Rattle.jlib.specs.LibraryClasses as library_classes
use Rattle.jvalues.specs.declared.jops.value.Value.{Value}
use Rattle.jvalues.specs.declared.jops.value.Value.TheVariants.{Ref}
use Rattle.jtypes.specs.declared.vtype.VType.{VType}
use Rattle.jtypes.specs.declared.vtype.VType.TheVariants as types
use Rattle.jresolution.specs.declared.jprogram.member.Member.{Member}
use Rattle.jresolution.specs.declared.juses.meaning.InvokeKind.{InvokeKind}
use Rattle.jresolution.specs.declared.juses.meaning.InvokeKind.TheVariants as how
use Rattle.jtyping.specs.jrule.PoolEffects.{of_library}
use Rattle.jtyping.specs.ProofNames.{string as text_type}
use Rattle.jsemantics.specs.jmachine.MachineStates.{Row, gives}
use Rattle.jsemantics.specs.jmachine.CallTargets.{receiver}
use Rattle.jsemantics.specs.jmachine.InstructionActions.{run}
use Rattle.jsemantics.specs.jmachine.LibraryCalls.{library}
use Rattle.jsemantics.specs.jmachine.HeapObjects.{Object, Instance, Thrown, Text, Builder, Piece, Permission, Context, Thread, Bare, Array, class_of, library_name}
use Rattle.jsemantics.specs.jmachine.Security.{Rules}
use Rattle.jsemantics.specs.jmachine.InstructionSites.{Site}
use Rattle.jsemantics.specs.jmachine.Store.{Store, object_at, with_object}
use Rattle.jsemantics.specs.jmachine.Throwables as throwables
use Rattle.jsemantics.specs.jmachine.Throwables.{message_of, told, with_message}
use Rattle.jsemantics.specs.jmachine.World.{World, fits}
use Rattle.jsoundness_laws.specs.typed.StoreGrowth.{Becomes}
use Rattle.jsoundness_laws.specs.typed.TypedValues.{CanBeThrown, IsA, is_piece, is_whole}
use Rattle.jsoundness_laws.proofs.TypedProofs.StoreMonotonicity.{grows_changed, serves_kept}
use Rattle.jsoundness_laws.proofs.TypedProofs.ObjectAllocation.{are_kept}
use Rattle.jsoundness_laws.specs.library.LibraryArguments.{AreGiven, IsBegun, IsReceiver, way_of}
use Rattle.jsoundness_laws.specs.library.YieldLaws.{CallYields}
use Rattle.jsoundness_laws.proofs.LibraryProofs.Classes.{names_one, permission_plain}
use Rattle.jsoundness_laws.proofs.LibraryProofs.StoreExtension.{changed_at, follows_changed}
use Rattle.jsoundness_laws.proofs.LibraryProofs.Objects.{HasMessage, OfUser, OfLibrary, named, thrown_of}
use Rattle.jsoundness_laws.proofs.LibraryProofs.LibraryCallRows.{Premises, Rowed, a_null, begun_fit, call_yields, form_at, found_by, given_ref, it_gives}
use Rattle.jsoundness_laws.proofs.LibraryProofs.MemberDescriptors as signed

-- ---- an object that is just of class Object

same_name : (a b : LibClass) → types.Object (library_name a) ≡ types.Object (library_name b) → library_classes.name_of a ≡ library_classes.name_of b
same_name a b e = ap text e
  where
    text : VType → List ℕ
    text (types.Object c) = c.0
    text t = []

not_object : (side : Side) (c : LibClass) → library_classes.stands_on side c ≡ true → (c ≡ lib.Object → ⊥) → types.Object (library_name c) ≡ of_library lib.Object → ⊥
not_object side c on other e = other (names_one side c lib.Object on refl (same_name c lib.Object e))

just_object : {K : Type 0} (w : World) (side : Side) (x : Object K) → is_piece x ≡ false → class_of w.named x ≡ of_library lib.Object → is_whole x ≡ true
just_object w side (Instance class message fields) named e = refl
just_object w side (Thrown c message) named e = refl
just_object w side (Text units) named e = absurd (not_object side lib.String refl (λ e. cc) e)
just_object w side (Builder units) named e = refl
just_object w side (Piece units) named e = absurd (cc)
just_object w side (Permission c held) named e = absurd (not_object side (lib.Permission c) (permission_plain side c).0 (λ e. cc) e)
just_object w side (Context kept) named e = absurd (not_object side lib.AccessControlContext refl (λ e. cc) e)
just_object w side (Thread number) named e = absurd (not_object side lib.Thread refl (λ e. cc) e)
just_object w side (Bare c) named e = refl
just_object w side (Array a items) named e = refl

module _ {K E : Type 0} (r : Rules K E) (at : Site) (own : Member → Bool) (s : Store K) (entries : List E) (inherited : Option K)
    (statics : List VType) (h : Premises r.side at.world s statics) where
  abbrev Row_ : InvokeKind → List (Value K) → Option VType → Option (Row K E) → Type 0
  Row_ by values ret found = Rowed {K = K} {E = E} r.side at s statics by values ret found

  abbrev RowOf : LibCall → Option VType → List (Value K) → Type 0
  RowOf call ret values = Row_ (way_of call) values ret (run r at own s entries inherited call values)

  abbrev On : LibCall → List VType → Option VType → Type 0
  On call params ret = (values : List (Value K)) → AreGiven at.world s call params values → RowOf call ret values

  -- the same values
  as_given : (call : LibCall) (ret : Option VType) (values given : List (Value K)) → values ≡ given → RowOf call ret given → RowOf call ret values
  as_given call ret values given e x = subst (λ values. RowOf call ret values) (sym e) x

  -- ---- messages

  abbrev With : ℕ → Object K → Store K
  With n y = with_object s n y

  user_row : (values : List (Value K)) (m n class old : ℕ) (fields : List (Value K)) → receiver values ≡ Some (Ref n) → IsA at.world s text_type (Ref m)
      → object_at s n ≡ Some (Instance class old fields) → Row_ how.Init values None (told s n m)
  user_row values m n class old fields last text is =
      let y = Instance class m fields in
      let becomes : Becomes at.world (Instance class old fields) y = record { class = refl; whole = λ x. refl; piece = refl } in
      let grows = grows_changed K at.world s n (Instance class old fields) y is becomes in
      let held = h.stored.objects n (Instance class old fields) is in record {
        row = gives (With n y) [];
        is = ap (λ (o : Option (Object K)). option_map (λ x. gives {E = E} (With n x) []) (with_message m o)) is;
        act = (
          follows_changed at.world statics s n (Instance class old fields) y h.stored is becomes tt
              (serves_kept at.world s (With n y) grows _ (Ref m) text, are_kept at.world s (With n y) grows (at.world.layout class) fields held.1),
          tt,
          (n, last, (y, changed_at at.world statics s n (Instance class old fields) y is, refl)),
        );
      }

  library_row : (values : List (Value K)) (m n old : ℕ) (c : LibClass) → receiver values ≡ Some (Ref n) → IsA at.world s text_type (Ref m)
      → object_at s n ≡ Some (Thrown c old) → Row_ how.Init values None (told s n m)
  library_row values m n old c last text is =
      let y = Thrown c m in
      let becomes : Becomes at.world (Thrown c old) y = record { class = refl; whole = λ x. refl; piece = refl } in
      let grows = grows_changed K at.world s n (Thrown c old) y is becomes in
      let held = h.stored.objects n (Thrown c old) is in record {
        row = gives (With n y) [];
        is = ap (λ (o : Option (Object K)). option_map (λ x. gives {E = E} (With n x) []) (with_message m o)) is;
        act = (
          follows_changed at.world statics s n (Thrown c old) y h.stored is becomes tt (held.0, serves_kept at.world s (With n y) grows _ (Ref m) text),
          tt,
          (n, last, (y, changed_at at.world statics s n (Thrown c old) y is, refl)),
        );
      }

  by_message : (values : List (Value K)) (m n : ℕ) (x : Object K) → receiver values ≡ Some (Ref n) → IsA at.world s text_type (Ref m) → object_at s n ≡ Some x
      → HasMessage r.side at.world h.orders x → Row_ how.Init values None (told s n m)
  by_message values m n x last text is (OfUser class old fields e) = user_row values m n class old fields last text (is ∙ ap (λ x. Some x) e)
  by_message values m n x last text is (OfLibrary c old e) = library_row values m n old c last text (is ∙ ap (λ x. Some x) e)

  -- the constructor of a class whose objects can be thrown
  told_row : (c : LibClass) → CanBeThrown c → (values : List (Value K)) (m n : ℕ) → receiver values ≡ Some (Ref n) → IsA at.world s text_type (Ref m) → IsBegun at.world s c n
      → Row_ how.Init values None (told s n m)
  told_row c raised values m n last text x =
      by_message values m n x.object last text x.there
      (thrown_of r.side at.world h.orders c raised x.object (form_at r.side at.world s statics h n x.object x.there) (begun_fit r.side at.world s statics h c n x))

  message_row : (one : ThrownClass) (m n : ℕ) → IsA at.world s text_type (Ref m) → IsBegun at.world s (lib.Thrown one) n
      → RowOf (calls.ThrownInit one given.Message) None (Ref m ∷ Ref n ∷ [])
  unfolding library throwables.init receiver
  message_row one m n text x = told_row (lib.Thrown one) tt (Ref m ∷ Ref n ∷ []) m n refl text x

  nothing_row : (one : ThrownClass) (n : ℕ) → IsBegun at.world s (lib.Thrown one) n → RowOf (calls.ThrownInit one given.Nothing) None (Ref n ∷ [])
  unfolding library throwables.init receiver
  nothing_row one n x = told_row (lib.Thrown one) tt (Ref n ∷ []) 0 n refl (a_null at.world s _) x

  control_row : (m n : ℕ) → IsA at.world s text_type (Ref m) → IsBegun at.world s lib.AccessControlException n → RowOf calls.AccessControlInit None (Ref m ∷ Ref n ∷ [])
  unfolding library throwables.init receiver
  control_row m n text x = told_row lib.AccessControlException tt (Ref m ∷ Ref n ∷ []) m n refl text x

  message_on : (one : ThrownClass) → On (calls.ThrownInit one given.Message) (text_type ∷ []) None
  message_on one values g =
      let o = given_ref at.world s (IsReceiver at.world s how.Init (lib.Thrown one)) [] _ values g in
      as_given (calls.ThrownInit one given.Message) None values (Ref o.0 ∷ Ref o.4.0 ∷ []) (o.2 ∙ ap (λ more. Ref o.0 ∷ more) o.4.1) (message_row one o.0 o.4.0 o.3 o.4.2)

  nothing_on : (one : ThrownClass) → On (calls.ThrownInit one given.Nothing) [] None
  nothing_on one values g = as_given (calls.ThrownInit one given.Nothing) None values (Ref g.0 ∷ []) g.1 (nothing_row one g.0 g.2)

  control_on : On calls.AccessControlInit (text_type ∷ []) None
  control_on values g =
      let o = given_ref at.world s (IsReceiver at.world s how.Init lib.AccessControlException) [] _ values g in
      as_given calls.AccessControlInit None values (Ref o.0 ∷ Ref o.4.0 ∷ []) (o.2 ∙ ap (λ more. Ref o.0 ∷ more) o.4.1) (control_row o.0 o.4.0 o.3 o.4.2)

  -- ---- getMessage

  gives_message : (n m : ℕ) (x : Object K) → object_at s n ≡ Some x → message_of (Some x) ≡ Some m → IsA at.world s text_type (Ref m)
      → RowOf calls.GetMessage (Some text_type) (Ref n ∷ [])
  unfolding library throwables.message
  gives_message n m x is told text =
      let found = ap (λ (o : Option (Object K)). option_map (λ m. gives {E = E} s (Ref m ∷ [])) (message_of o)) is ∙ ap (option_map (λ m. gives {E = E} s (Ref m ∷ []))) told in
      found_by r.side at s statics how.Virtual (Ref n ∷ []) (Some text_type) _ _ found
      (it_gives r.side at s statics h how.Virtual (Ref n ∷ []) (Some text_type) (Ref m ∷ []) [] (text, tt) tt)

  get_row : (n : ℕ) (x : Object K) → object_at s n ≡ Some x → HasMessage r.side at.world h.orders x → RowOf calls.GetMessage (Some text_type) (Ref n ∷ [])
  get_row n x is (OfUser class old fields e) =
      let at_user = is ∙ ap (λ x. Some x) e in
      gives_message n old (Instance class old fields) at_user refl (h.stored.objects n (Instance class old fields) at_user).0
  get_row n x is (OfLibrary c old e) =
      let at_library = is ∙ ap (λ x. Some x) e in
      gives_message n old (Thrown c old) at_library refl (h.stored.objects n (Thrown c old) at_library).1

  get_on : On calls.GetMessage [] (Some text_type)
  get_on values g =
      let x = named at.world s (of_library (lib.Thrown thrown.Throwable)) g.0 g.2 g.3 in
      as_given calls.GetMessage (Some text_type) values (Ref g.0 ∷ []) g.1
      (get_row g.0 x.object x.there (thrown_of r.side at.world h.orders (lib.Thrown thrown.Throwable) tt x.object (form_at r.side at.world s statics h g.0 x.object x.there) x.fit))

  -- ---- Object

  ready_object : (x : Object K) → is_piece x ≡ false
      → (class_of at.world.named x ≡ of_library lib.Object) ⊎ ((is_whole x ≡ true) × (fits at.world (class_of at.world.named x) (of_library lib.Object) ≡ true)) → is_whole x ≡ true
  ready_object x named (inl just) = just_object at.world r.side x named just
  ready_object x named (inr more) = more.0

  object_row : (n : ℕ) → IsBegun at.world s lib.Object n → RowOf calls.ObjectInit None (Ref n ∷ [])
  unfolding library receiver
  object_row n x = it_gives r.side at s statics h how.Init (Ref n ∷ []) None [] [] tt (n, refl, (x.object, x.there, ready_object x.object x.whole x.ready))

  object_on : On calls.ObjectInit [] None
  object_on values g = as_given calls.ObjectInit None values (Ref g.0 ∷ []) g.1 (object_row g.0 g.2)

-- ---- the calls

module _ (K E : Type 0) where
  pub thrown_yields : (one : ThrownClass) (way : ThrownInit) → CallYields K E (calls.ThrownInit one way)
  thrown_yields one given.Message = call_yields K E (calls.ThrownInit one given.Message) (text_type ∷ []) None (λ p good ps t e. signed.text_says p good)
      (λ r at own s entries inherited p statics values good is side sided h g. message_on r at own s entries inherited statics h one values g)
  thrown_yields one given.Nothing = call_yields K E (calls.ThrownInit one given.Nothing) [] None (λ p good ps t e. signed.nothing_says p good)
      (λ r at own s entries inherited p statics values good is side sided h g. nothing_on r at own s entries inherited statics h one values g)

  pub control_yields : CallYields K E calls.AccessControlInit
  control_yields = call_yields K E (calls.AccessControlInit) (text_type ∷ []) None (λ p good ps t e. signed.text_says p good)
      (λ r at own s entries inherited p statics values good is side sided h g. control_on r at own s entries inherited statics h values g)

  pub get_yields : CallYields K E calls.GetMessage
  get_yields = call_yields K E (calls.GetMessage) [] (Some text_type) (λ p good ps t e. signed.told_says p good)
      (λ r at own s entries inherited p statics values good is side sided h g. get_on r at own s entries inherited statics h values g)

  pub object_yields : CallYields K E calls.ObjectInit
  object_yields = call_yields K E (calls.ObjectInit) [] None (λ p good ps t e. signed.nothing_says p good)
      (λ r at own s entries inherited p statics values good is side sided h g. object_on r at own s entries inherited statics h values g)
