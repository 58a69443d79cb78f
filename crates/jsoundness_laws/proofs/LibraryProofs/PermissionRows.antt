-- Rows of the constructors of permissions.
use Rattle.std.proofs.Common.{◌≡◌, ℕ, zero, suc, Bool, List, [], ◌∷◌, Option, Some, None, option_map, Result, Ok, Err, refl, sym, ap, subst, ◌∙◌}
use Rattle.std.specs.Prelude.{option_and_then}
use Rattle.jperm.specs.declared.permission.Permission as perms
use Rattle.jperm.specs.declared.making.PermError.{PermError}
use Rattle.jperm.specs.declared.making.PermError.TheVariants as faults
use Rattle.jperm.specs.PermissionConstructors.{made}
use Rattle.jlib.specs.declared.calls.LibCall.{LibCall}
use Rattle.jlib.specs.declared.calls.LibCall.TheVariants as calls
use Rattle.jlib.specs.declared.calls.PermissionInit.{PermissionInit}
use Rattle.jlib.specs.declared.calls.PermissionInit.TheVariants as inits
use Rattle.jlib.specs.declared.classes.LibClass.TheVariants as lib
use Rattle.jlib.specs.declared.classes.PermissionClass.{PermissionClass}
use Rattle.jlib.specs.declared.classes.PermissionClass.TheVariants as permissions
use Rattle.jvalues.specs.declared.jops.value.Value.{Value}
use Rattle.jvalues.specs.declared.jops.value.Value.TheVariants.{Ref}
use Rattle.jtypes.specs.declared.vtype.VType.{VType}
use Rattle.jresolution.specs.declared.jprogram.member.Member.{Member}
use Rattle.jresolution.specs.declared.juses.meaning.InvokeKind.{InvokeKind}
use Rattle.jresolution.specs.declared.juses.meaning.InvokeKind.TheVariants as how
use Rattle.jtyping.specs.ProofNames.{string as text_type}
use Rattle.jsemantics.specs.jmachine.MachineStates.{Row, gives}
use Rattle.jsemantics.specs.jmachine.CallTargets.{receiver}
use Rattle.jsemantics.specs.jmachine.InstructionActions.{run}
use Rattle.jsemantics.specs.jmachine.LibraryCalls.{library}
use Rattle.jsemantics.specs.jmachine.HeapObjects.{Object, Permission}
use Rattle.jsemantics.specs.jmachine.PermissionCalls as rows
use Rattle.jsemantics.specs.jmachine.PermissionCalls.{class_of, constructed, fault_class, made_in, text, with_value}
use Rattle.jsemantics.specs.jmachine.Security.{Rules}
use Rattle.jsemantics.specs.jmachine.InstructionSites.{Site}
use Rattle.jsemantics.specs.jmachine.Store.{Store, object_at, with_object}
use Rattle.jsemantics.specs.ProofNames.{units_in}
use Rattle.jsoundness_laws.specs.typed.TypedValues.{CanBeThrown, IsA}
use Rattle.jsoundness_laws.specs.library.LibraryArguments.{AreGiven, AreOn, IsReceiver, way_of}
use Rattle.jsoundness_laws.specs.library.YieldLaws.{CallYields}
use Rattle.jsoundness_laws.proofs.LibraryProofs.StoreExtension.{changed_at, follows_changed}
use Rattle.jsoundness_laws.proofs.LibraryProofs.LibraryCallRows.{Premises, Rowed, call_yields, found_by, given_ref, it_raises, not_zero, permission_begun, text_at}
use Rattle.jsoundness_laws.proofs.LibraryProofs.MemberDescriptors as signed

fault_raised : (e : PermError) → CanBeThrown (fault_class e)
fault_raised faults.NoName = tt
fault_raised _ = tt

module _ {K E : Type 0} (r : Rules K E) (at : Site) (own : Member → Bool) (s : Store K) (entries : List E) (inherited : Option K)
    (statics : List VType) (h : Premises r.side at.world s statics) where
  abbrev Row_ : InvokeKind → List (Value K) → Option VType → Option (Row K E) → Type 0
  Row_ by values ret found = Rowed {K = K} {E = E} r.side at s statics by values ret found

  abbrev RowOf : LibCall → Option VType → List (Value K) → Type 0
  RowOf call ret values = Row_ (way_of call) values ret (run r at own s entries inherited call values)

  abbrev On : LibCall → List VType → Option VType → Type 0
  On call params ret = (values : List (Value K)) → AreGiven at.world s call params values → RowOf call ret values

  -- the same values
  as_given : (call : LibCall) (ret : Option VType) (values given : List (Value K)) → values ≡ given → RowOf call ret given → RowOf call ret values
  as_given call ret values given e x = subst (λ values. RowOf call ret values) (sym e) x

  -- ---- what is made

  constructed_row : (values : List (Value K)) (n : ℕ) (c : PermissionClass) (old : Option perms.Permission) (m : Result perms.Permission PermError) → receiver values ≡ Some (Ref n)
      → object_at s n ≡ Some (Permission c old) → Row_ how.Init values None (constructed s n m)
  constructed_row values n c old (Err e) last is = it_raises r.side at s statics how.Init values None (fault_class e) (fault_raised e)
  constructed_row values n c old (Ok p) last is =
      let y = Permission c (Some p) in record {
        row = gives (with_object s n y) [];
        is = ap (λ (o : Option (Object K)). option_map (λ x. gives {E = E} (with_object s n x) []) (with_value p o)) is;
        act = (
          follows_changed at.world statics s n (Permission c old) y h.stored is (record { class = refl; whole = λ x. refl; piece = refl }) tt tt,
          tt,
          (n, last, (y, changed_at at.world statics s n (Permission c old) y is, refl)),
        );
      }

  -- ---- what is given

  abbrev IsText : ℕ → Type 0
  IsText m = (o : Option (List ℕ)) × (text s (Ref m) ≡ Some o)

  text_given : (m : ℕ) → IsA at.world s text_type (Ref m) → IsText m
  text_given zero is = (None, refl)
  text_given (suc m) is = let t = text_at r.side at.world s statics h (suc m) (not_zero m) is in
      (Some t.0, ap (λ (o : Option (Object K)). option_map (λ us. Some us) (units_in o)) t.1)

  abbrev Made : PermissionInit → Option (List ℕ) → Option (List ℕ) → Result perms.Permission PermError
  Made call name actions = made (class_of call) name actions at.cwd

  abbrev Inited : PermissionInit → List (Value K) → Type 0
  Inited call values = Row_ how.Init values None (run r at own s entries inherited (calls.PermissionInit call) values)

  none_row : (call : PermissionInit) (n : ℕ) (c : PermissionClass) (old : Option perms.Permission) → object_at s n ≡ Some (Permission c old) → Inited call (Ref n ∷ [])
  unfolding library rows.init receiver
  none_row call n c old is = constructed_row (Ref n ∷ []) n c old (Made call None None) refl is

  name_row : (call : PermissionInit) (m n : ℕ) (c : PermissionClass) (old : Option perms.Permission) → IsText m → object_at s n ≡ Some (Permission c old)
      → Inited call (Ref m ∷ Ref n ∷ [])
  unfolding library rows.init receiver
  name_row call m n c old name is =
      found_by r.side at s statics how.Init (Ref m ∷ Ref n ∷ []) None _ _
      (ap (λ (o : Option (Option (List ℕ))). option_and_then (made_in {E = E} s at.cwd call) (option_map (λ x. record { name = x; actions = None; object = n }) o)) name.1)
      (constructed_row (Ref m ∷ Ref n ∷ []) n c old (Made call name.0 None) refl is)

  both_row : (call : PermissionInit) (l m n : ℕ) (c : PermissionClass) (old : Option perms.Permission) → IsText l → IsText m → object_at s n ≡ Some (Permission c old)
      → Inited call (Ref l ∷ Ref m ∷ Ref n ∷ [])
  unfolding library rows.init receiver
  both_row call l m n c old actions name is =
      found_by r.side at s statics how.Init (Ref l ∷ Ref m ∷ Ref n ∷ []) None _ _
      (ap (λ (o : Option (Option (List ℕ))). option_and_then (made_in {E = E} s at.cwd call)
      (option_and_then (λ x. option_map (λ y. record { name = x; actions = y; object = n }) (text s (Ref l))) o)) name.1
      ∙ ap (λ (o : Option (Option (List ℕ))). option_and_then (made_in {E = E} s at.cwd call) (option_map (λ y. record { name = name.0; actions = y; object = n }) o)) actions.1)
      (constructed_row (Ref l ∷ Ref m ∷ Ref n ∷ []) n c old (Made call name.0 actions.0) refl is)

  -- ---- by the class

  abbrev Receives : PermissionClass → List (Value K) → Type 0
  Receives d values = IsReceiver at.world s how.Init (lib.Permission d) values

  abbrev At : PermissionInit → List (Value K) → Type 0
  At call values = Inited call values

  on_none : (call : PermissionInit) (d : PermissionClass) (values : List (Value K)) → AreOn at.world s (Receives d) [] values → At call values
  on_none call d values g =
      let t = permission_begun r.side at.world s statics h d g.0 g.2 in
      subst (λ values. At call values) (sym g.1) (none_row call g.0 t.0 t.1 t.2)

  on_name : (call : PermissionInit) (d : PermissionClass) (values : List (Value K)) → AreOn at.world s (Receives d) (text_type ∷ []) values → At call values
  on_name call d values g =
      let o = given_ref at.world s (Receives d) [] _ values g in
      let t = permission_begun r.side at.world s statics h d o.4.0 o.4.2 in
      subst (λ values. At call values) (sym (o.2 ∙ ap (λ more. Ref o.0 ∷ more) o.4.1)) (name_row call o.0 o.4.0 t.0 t.1 (text_given o.0 o.3) t.2)

  on_both : (call : PermissionInit) (d : PermissionClass) (values : List (Value K)) → AreOn at.world s (Receives d) (text_type ∷ text_type ∷ []) values → At call values
  on_both call d values g =
      let a = given_ref at.world s (Receives d) (text_type ∷ []) _ values g in
      let o = given_ref at.world s (Receives d) [] _ a.1 a.4 in
      let t = permission_begun r.side at.world s statics h d o.4.0 o.4.2 in
      subst (λ values. At call values) (sym (a.2 ∙ ap (λ more. Ref a.0 ∷ more) (o.2 ∙ ap (λ more. Ref o.0 ∷ more) o.4.1)))
      (both_row call a.0 o.0 o.4.0 t.0 t.1 (text_given a.0 a.3) (text_given o.0 o.3) t.2)

-- ---- the calls

module _ (K E : Type 0) where
  pub permission_yields : (call : PermissionInit) → CallYields K E (calls.PermissionInit call)
  permission_yields inits.All = call_yields K E (calls.PermissionInit inits.All) [] None (λ p good ps t e. signed.nothing_says p good)
      (λ r at own s entries inherited p statics values good is side sided h g. on_none r at own s entries inherited statics h inits.All permissions.AllPermission values g)
  permission_yields inits.Runtime = call_yields K E (calls.PermissionInit inits.Runtime) (text_type ∷ []) None (λ p good ps t e. signed.text_says p good)
      (λ r at own s entries inherited p statics values good is side sided h g. on_name r at own s entries inherited statics h inits.Runtime permissions.RuntimePermission values g)
  permission_yields inits.RuntimeActions = call_yields K E (calls.PermissionInit inits.RuntimeActions) (text_type ∷ text_type ∷ []) None (λ p good ps t e. signed.texts_say p good)
      (λ r at own s entries inherited p statics values good is side sided h g.
      on_both r at own s entries inherited statics h inits.RuntimeActions permissions.RuntimePermission values g)
  permission_yields inits.Security = call_yields K E (calls.PermissionInit inits.Security) (text_type ∷ []) None (λ p good ps t e. signed.text_says p good)
      (λ r at own s entries inherited p statics values good is side sided h g.
      on_name r at own s entries inherited statics h inits.Security permissions.SecurityPermission values g)
  permission_yields inits.SecurityActions = call_yields K E (calls.PermissionInit inits.SecurityActions) (text_type ∷ text_type ∷ []) None
      (λ p good ps t e. signed.texts_say p good)
      (λ r at own s entries inherited p statics values good is side sided h g.
      on_both r at own s entries inherited statics h inits.SecurityActions permissions.SecurityPermission values g)
  permission_yields inits.Property = call_yields K E (calls.PermissionInit inits.Property) (text_type ∷ text_type ∷ []) None (λ p good ps t e. signed.texts_say p good)
      (λ r at own s entries inherited p statics values good is side sided h g.
      on_both r at own s entries inherited statics h inits.Property permissions.PropertyPermission values g)
  permission_yields inits.File = call_yields K E (calls.PermissionInit inits.File) (text_type ∷ text_type ∷ []) None (λ p good ps t e. signed.texts_say p good)
      (λ r at own s entries inherited p statics values good is side sided h g. on_both r at own s entries inherited statics h inits.File permissions.FilePermission values g)
