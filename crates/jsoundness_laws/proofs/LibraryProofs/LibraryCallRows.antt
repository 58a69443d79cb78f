-- How the rows of calls of the library are shown: values of the types that are said, and acts that yield them.
use Rattle.std.proofs.Common.{◌≡◌, ◌≢◌, ◌⊎◌, inl, inr, ℕ, suc, ℤ, Bool, true, false, List, [], ◌∷◌, Option, Some, refl, sym, ap, subst, ◌∙◌}
use Rattle.std.specs.Option.{option_to_list}
use Rattle.jlib.specs.declared.calls.LibCall.{LibCall}
use Rattle.jlib.specs.declared.classes.LibClass.{LibClass}
use Rattle.jlib.specs.declared.classes.LibClass.TheVariants as lib
use Rattle.jlib.specs.declared.classes.PermissionClass.{PermissionClass}
use Rattle.jlib.specs.declared.classes.Thrown.TheVariants as thrown
use Rattle.jlib.specs.declared.side.Side.{Side}
use Rattle.jlib.specs.LibraryMembers.{desc_of}
use Rattle.jperm.specs.declared.permission.Permission as perms
use Rattle.jvalues.specs.declared.jops.value.Value.{Value}
use Rattle.jvalues.specs.declared.jops.value.Value.TheVariants.{Int, Long, Ref, Ctx}
use Rattle.joutput.specs.declared.jtrace.event.Event.{Event}
use Rattle.jtypes.specs.declared.vtype.ArrayType.{ArrayType}
use Rattle.jtypes.specs.declared.vtype.Name.{Name}
use Rattle.jtypes.specs.declared.vtype.VType.{VType}
use Rattle.jtypes.specs.declared.vtype.VType.TheVariants as types
use Rattle.jresolution.specs.declared.jprogram.member.Member.{Member}
use Rattle.jresolution.specs.jprogram.ProgramClasses.{Program}
use Rattle.jresolution.specs.jprogram.OrderedPrograms.{StandsInOrder}
use Rattle.jresolution.specs.declared.juses.meaning.InvokeKind.{InvokeKind}
use Rattle.jresolution.specs.declared.juses.meaning.InvokeKind.TheVariants as how
use Rattle.jresolution.specs.juses.DescriptorTypes.{Called, typed}
use Rattle.jtyping.specs.jrule.PoolEffects.{of_library}
use Rattle.jtyping.specs.ProofNames.{string}
use Rattle.jsemantics.specs.jmachine.MachineStates.{Row, Goes, free, null, raises}
use Rattle.jsemantics.specs.jmachine.InstructionActions.{run}
use Rattle.jsemantics.specs.jmachine.ObjectInstructions.{text_made}
use Rattle.jsemantics.specs.jmachine.HeapObjects.{Object, Text, Builder, Piece, Permission, Context, Thread, class_of}
use Rattle.jsemantics.specs.jmachine.Security.{Rules}
use Rattle.jsemantics.specs.jmachine.InstructionSites.{Site}
use Rattle.jsemantics.specs.jmachine.Store.{Store, next_number, object_at, with_made}
use Rattle.jsemantics.specs.jmachine.World.{World, fits, world}
use Rattle.jsoundness_laws.specs.typed.TypedStores.{IsStored}
use Rattle.jsoundness_laws.specs.typed.TypedValues.{AreOf, CanBeThrown, IsA, is_piece, is_whole}
use Rattle.jsoundness_laws.specs.library.LibraryArguments.{AreGiven, AreOn, IsBegun, way_of}
use Rattle.jsoundness_laws.specs.library.YieldLaws.{AreSided, CallYields}
use Rattle.jsoundness_laws.specs.library.LibraryResults.{Follows, IsReadied, Yields}
use Rattle.jsoundness_laws.proofs.LibraryProofs.StoreExtension.{follows_itself, follows_made, is_named, made_at}
use Rattle.jsoundness_laws.proofs.LibraryProofs.Objects.{HasForm, array_of, builder_of, ctx_of, has_form, held_of, int_of, kept_of, long_of, named, number_of, permission_of, ref_of, text_of, thread_of}
use Rattle.jsoundness_laws.proofs.LibraryProofs.Orders.{Orders, orders}
use Rattle.jsoundness_laws.proofs.LibraryProofs.MemberDescriptors.{permission}

-- ---- values that are given

module _ {K : Type 0} (w : World) (s : Store K) (rest : List (Value K) → Type 0) (ts : List VType) where
  pub given_int : (values : List (Value K)) → AreOn w s rest (types.Int ∷ ts) values → (x : ℤ) × (more : List (Value K)) × (values ≡ Int x ∷ more) × AreOn w s rest ts more
  given_int [] h = absurd h
  given_int (v ∷ more) h = let i = int_of w s v h.0 in (i.0, more, ap (λ v. v ∷ more) i.1, h.1)

  pub given_long : (values : List (Value K)) → AreOn w s rest (types.Long ∷ ts) values → (x : ℤ) × (more : List (Value K)) × (values ≡ Long x ∷ more) × AreOn w s rest ts more
  given_long [] h = absurd h
  given_long (v ∷ more) h = let i = long_of w s v h.0 in (i.0, more, ap (λ v. v ∷ more) i.1, h.1)

  pub given_ctx : (values : List (Value K)) → AreOn w s rest (types.Ctx ∷ ts) values → (k : K) × (more : List (Value K)) × (values ≡ Ctx k ∷ more) × AreOn w s rest ts more
  given_ctx [] h = absurd h
  given_ctx (v ∷ more) h = let i = ctx_of w s v h.0 in (i.0, more, ap (λ v. v ∷ more) i.1, h.1)

  abbrev pub GivenRef : VType → List (Value K) → Type 0
  GivenRef t values = (n : ℕ) × (more : List (Value K)) × (values ≡ Ref n ∷ more) × IsA w s t (Ref n) × AreOn w s rest ts more

  pub given_ref : (c : Name) (values : List (Value K)) → AreOn w s rest (types.Object c ∷ ts) values → GivenRef (types.Object c) values
  given_ref c [] h = absurd h
  given_ref c (v ∷ more) h = let i = ref_of w s c v h.0 in (i.0, more, ap (λ v. v ∷ more) i.1, subst (λ v. IsA w s (types.Object c) v) i.1 h.0, h.1)

  pub given_array : (b : ArrayType) (values : List (Value K)) → AreOn w s rest (types.Array b ∷ ts) values → GivenRef (types.Array b) values
  given_array b [] h = absurd h
  given_array b (v ∷ more) h = let i = array_of w s b v h.0 in (i.0, more, ap (λ v. v ∷ more) i.1, subst (λ v. IsA w s (types.Array b) v) i.1 h.0, h.1)

-- what is said of all lists that begin so is said of such values
module _ {K : Type 0} (w : World) (s : Store K) (rest : List (Value K) → Type 0) (ts : List VType) (P : List (Value K) → Type 0) where
  pub by_int : ((x : ℤ) (more : List (Value K)) → AreOn w s rest ts more → P (Int x ∷ more)) → (values : List (Value K)) → AreOn w s rest (types.Int ∷ ts) values → P values
  by_int each values g = let i = given_int w s rest ts values g in subst P (sym i.2) (each i.0 i.1 i.3)

  pub by_ctx : ((k : K) (more : List (Value K)) → AreOn w s rest ts more → P (Ctx k ∷ more)) → (values : List (Value K)) → AreOn w s rest (types.Ctx ∷ ts) values → P values
  by_ctx each values g = let i = given_ctx w s rest ts values g in subst P (sym i.2) (each i.0 i.1 i.3)

  pub by_ref : (c : Name) → ((n : ℕ) (more : List (Value K)) → IsA w s (types.Object c) (Ref n) → AreOn w s rest ts more → P (Ref n ∷ more))
      → (values : List (Value K)) → AreOn w s rest (types.Object c ∷ ts) values → P values
  by_ref c each values g = let i = given_ref w s rest ts c values g in subst P (sym i.2) (each i.0 i.1 i.3 i.4)

  pub by_array : (b : ArrayType) → ((n : ℕ) (more : List (Value K)) → IsA w s (types.Array b) (Ref n) → AreOn w s rest ts more → P (Ref n ∷ more))
      → (values : List (Value K)) → AreOn w s rest (types.Array b ∷ ts) values → P values
  by_array b each values g = let i = given_array w s rest ts b values g in subst P (sym i.2) (each i.0 i.1 i.3 i.4)

pub not_zero : (n : ℕ) → suc n ≢ 0
not_zero n e = cc

module _ {K : Type 0} (w : World) (s : Store K) where
  pub an_int : (x : ℤ) → IsA w s types.Int (Int x)
  an_int x = record { type = types.Int; is = refl; met = refl }

  pub a_context : (k : K) → IsA w s types.Ctx (Ctx k)
  a_context k = record { type = types.Ctx; is = refl; met = refl }

  pub a_null : (c : Name) → IsA w s (types.Object c) (Ref 0)
  a_null c = record { type = types.Null; is = refl; met = refl }

-- ---- objects that are given

-- what all rows know of the store
pub record Premises {K : Type 0} (side : Side) (w : World) (s : Store K) (statics : List VType) : Type 0 where
  pub orders : Orders side w
  pub stored : IsStored w s statics

whole_piece : {K : Type 0} (x : Object K) → is_piece x ≡ true → is_whole x ≡ true → ⊥
whole_piece (Piece units) is e = cc
whole_piece _ is e = cc

pub not_piece : {K : Type 0} (x : Object K) → is_whole x ≡ true → is_piece x ≡ false
not_piece x e = go (is_piece x) refl
  where
    go : (b : Bool) → is_piece x ≡ b → is_piece x ≡ false
    go false is = is
    go true is = absurd (whole_piece x is e)

module _ {K : Type 0} (side : Side) (w : World) (s : Store K) (statics : List VType) (h : Premises side w s statics) where
  pub form_at : (n : ℕ) (x : Object K) → object_at s n ≡ Some x → HasForm x
  form_at n x at = has_form w s x (h.stored.objects n x at)

  abbrev pub IsAt : ℕ → Object K → Type 0
  IsAt n x = object_at s n ≡ Some x

  at_as : (n : ℕ) (x y : Object K) → IsAt n x → x ≡ y → IsAt n y
  at_as n x y at e = at ∙ ap (λ x. Some x) e

  -- the units of a string that is there
  pub text_at : (n : ℕ) → n ≢ 0 → IsA w s string (Ref n) → (us : List ℕ) × IsAt n (Text (Some us))
  text_at n other is =
      let x = named w s string n other is in
      let t = text_of side w h.orders x.object (form_at n x.object x.there) x.whole x.fit in
      (t.0, at_as n x.object (Text (Some t.0)) x.there t.1)

  pub builder_at : (n : ℕ) → n ≢ 0 → IsA w s (of_library lib.StringBuilder) (Ref n) → (us : List ℕ) × IsAt n (Builder us)
  builder_at n other is =
      let x = named w s (of_library lib.StringBuilder) n other is in
      let t = builder_of side w h.orders x.object (form_at n x.object x.there) (not_piece x.object x.whole) x.fit in
      (t.0, at_as n x.object (Builder t.0) x.there t.1)

  -- what an `<init>` is called on fits its class
  pub begun_fit : (c : LibClass) (n : ℕ) (x : IsBegun w s c n) → fits w (class_of w.named x.object) (of_library c) ≡ true
  begun_fit c n x = go x.ready
    where
      go : (class_of w.named x.object ≡ of_library c) ⊎ ((is_whole x.object ≡ true) × (fits w (class_of w.named x.object) (of_library c) ≡ true))
          → fits w (class_of w.named x.object) (of_library c) ≡ true
      go (inl just) = ap (λ t. fits w t (of_library c)) just ∙ h.orders.own c
      go (inr more) = more.1

  pub builder_begun : (n : ℕ) → IsBegun w s lib.StringBuilder n → (us : List ℕ) × IsAt n (Builder us)
  builder_begun n x =
      let t = builder_of side w h.orders x.object (form_at n x.object x.there) x.whole (begun_fit lib.StringBuilder n x) in
      (t.0, at_as n x.object (Builder t.0) x.there t.1)

  pub permission_at : (n : ℕ) → n ≢ 0 → IsA w s permission (Ref n) → (c : PermissionClass) × (held : perms.Permission) × IsAt n (Permission c (Some held))
  permission_at n other is =
      let x = named w s permission n other is in
      let t = held_of side w h.orders x.object (form_at n x.object x.there) x.whole x.fit in
      (t.0, t.1, at_as n x.object (Permission t.0 (Some t.1)) x.there t.2)

  pub permission_begun : (c : PermissionClass) (n : ℕ) → IsBegun w s (lib.Permission c) n → (d : PermissionClass) × (held : Option perms.Permission) × IsAt n (Permission d held)
  permission_begun c n x =
      let t = permission_of side w h.orders c x.object (form_at n x.object x.there) (begun_fit (lib.Permission c) n x) in
      (t.0, t.1, at_as n x.object (Permission t.0 t.1) x.there t.2)

  pub context_at : (n : ℕ) → n ≢ 0 → IsA w s (of_library lib.AccessControlContext) (Ref n) → (k : K) × IsAt n (Context (Some k))
  context_at n other is =
      let x = named w s (of_library lib.AccessControlContext) n other is in
      let t = kept_of side w h.orders x.object (form_at n x.object x.there) x.whole x.fit in
      (t.0, at_as n x.object (Context (Some t.0)) x.there t.1)

  pub thread_at : (n : ℕ) → n ≢ 0 → IsA w s (of_library lib.Thread) (Ref n) → (t : ℕ) × IsAt n (Thread (Some t))
  thread_at n other is =
      let x = named w s (of_library lib.Thread) n other is in
      let t = number_of side w h.orders x.object (form_at n x.object x.there) x.whole x.fit in
      (t.0, at_as n x.object (Thread (Some t.0)) x.there t.1)

  pub thread_begun : (n : ℕ) → IsBegun w s lib.Thread n → (t : Option ℕ) × IsAt n (Thread t)
  thread_begun n x =
      let t = thread_of side w h.orders x.object (form_at n x.object x.there) (begun_fit lib.Thread n x) in
      (t.0, at_as n x.object (Thread t.0) x.there t.1)

  pub same_store : Follows w statics s s
  same_store = follows_itself w statics s h.stored

-- ---- rows

module _ {K E : Type 0} (side : Side) (at : Site) (s : Store K) (statics : List VType) where
  abbrev pub Rowed : InvokeKind → List (Value K) → Option VType → Option (Row K E) → Type 0
  Rowed by values ret found = Yields {K = K} {E = E} side at s statics by values ret found

  pub it_raises : (by : InvokeKind) (values : List (Value K)) (ret : Option VType) (class : LibClass) → CanBeThrown class → Rowed by values ret (Some (raises class))
  it_raises by values ret class h = record { row = raises class; is = refl; act = h }

  pub it_is_null : (by : InvokeKind) (values : List (Value K)) (ret : Option VType) → Rowed by values ret (Some null)
  it_is_null by values ret = it_raises by values ret (lib.Thrown thrown.NullPointerException) tt

  pub found_by : (by : InvokeKind) (values : List (Value K)) (ret : Option VType) (a b : Option (Row K E)) → a ≡ b → Rowed by values ret b → Rowed by values ret a
  found_by by values ret a b e x = subst (λ o. Rowed by values ret o) (sym e) x

  -- the store stays, and these are given
  pub it_gives : Premises side at.world s statics → (by : InvokeKind) (values : List (Value K)) (ret : Option VType) (results : List (Value K)) (events : List Event)
      → AreOf at.world s (option_to_list ret) results → IsReadied by values s → Rowed by values ret (Some (free (Goes s results events)))
  it_gives h by values ret results events are ready = record { row = free (Goes s results events); is = refl; act = (same_store side at.world s statics h, are, ready) }

  -- a string is made
  pub it_makes : Premises side at.world s statics → (values : List (Value K)) (us : List ℕ) → Rowed how.Virtual values (Some string) (Some (text_made s us))
  it_makes h values us = record {
    row = text_made s us;
    is = refl;
    act = (
      follows_made at.world statics s (Text (Some us)) h.stored tt,
      (
        is_named at.world statics (with_made s (Text (Some us))) string (next_number s) (Text (Some us))
            (made_at at.world statics s (Text (Some us))) refl (h.orders.own lib.String),
        tt,
      ),
      tt,
    );
  }

-- ---- calls

-- A call of the library whose types are these, and whose rows yield what they say.
module _ (K E : Type 0) (call : LibCall) (params : List VType) (ret : Option VType) where
  abbrev pub RowsYield : Type 0
  RowsYield = (r : Rules K E) (at : Site) (own : Member → Bool) (s : Store K) (entries : List E) (inherited : Option K)
      (p : Program) (statics : List VType) (values : List (Value K))
      → StandsInOrder p → at.world ≡ world p → r.side ≡ p.side → AreSided r → Premises r.side at.world s statics → AreGiven at.world s call params values
      → Yields r.side at s statics (way_of call) values ret (run r at own s entries inherited call values)

  abbrev pub CallSays : Type 0
  CallSays = (p : Program) → StandsInOrder p → (ps : List VType) (t : Option VType) → typed p (desc_of call) ≡ Called ps t → typed p (desc_of call) ≡ Called params ret

  same_params : (ps : List VType) (t : Option VType) → Called ps t ≡ Called params ret → ps ≡ params
  same_params ps t e = cc

  same_ret : (ps : List VType) (t : Option VType) → Called ps t ≡ Called params ret → t ≡ ret
  same_ret ps t e = cc

  world_orders : (p : Program) (side : Side) (w : World) → StandsInOrder p → w ≡ world p → side ≡ p.side → Orders side w
  world_orders p side w good is same = subst (λ w. Orders side w) (sym is) (subst (λ side. Orders side (world p)) (sym same) (orders p good))

  pub call_yields : CallSays → RowsYield → CallYields K E call
  call_yields says rows r at own s entries inherited p statics ps t values good is side sided stored code typed given =
      let same = sym typed ∙ says p good ps t typed in
      let premises : Premises r.side at.world s statics = record { orders = world_orders p r.side at.world good is side; stored = stored } in
      subst (λ t. Yields r.side at s statics (way_of call) values t (run r at own s entries inherited call values)) (sym (same_ret ps t same))
      (rows r at own s entries inherited p statics values good is side sided premises (subst (λ ps. AreGiven at.world s call ps values) (same_params ps t same) given))
