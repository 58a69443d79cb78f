-- Rows of doPrivileged.
use Rattle.std.proofs.Common.{◌≡◌, ℕ, zero, suc, ℤ, Bool, true, List, [], ◌∷◌, ◌++◌, Option, Some, None, is_some, option_map, refl, sym, ap, subst, ◌∙◌}
use Rattle.std.specs.Option.{option_to_list}
use Rattle.std.specs.Prelude.{option_and_then}
use Rattle.jperm.specs.declared.permission.Permission as perms
use Rattle.jlib.specs.declared.calls.ControllerCall.TheVariants as controllers
use Rattle.jlib.specs.declared.calls.LibCall.{LibCall}
use Rattle.jlib.specs.declared.calls.LibCall.TheVariants as calls
use Rattle.jlib.specs.declared.calls.RtCall.TheVariants as rt
use Rattle.jlib.specs.declared.classes.LibClass.TheVariants as lib
use Rattle.jlib.specs.declared.classes.PermissionClass.TheVariants as permissions
use Rattle.jlib.specs.declared.side.Side.{Side}
use Rattle.jlib.specs.declared.side.Side.TheVariants.{Source, Passing}
use Rattle.jlib.specs.LibraryClasses.{same_side}
use Rattle.jvalues.specs.declared.jops.value.Value.{Value}
use Rattle.jvalues.specs.declared.jops.value.Value.TheVariants.{Int, Ref, Ctx}
use Rattle.jtypes.specs.declared.vtype.ArrayType.{ArrayType}
use Rattle.jtypes.specs.declared.vtype.Element.{Element}
use Rattle.jtypes.specs.declared.vtype.Element.TheVariants as elements
use Rattle.jtypes.specs.declared.vtype.Name.{Name}
use Rattle.jtypes.specs.declared.vtype.VType.{VType}
use Rattle.jtypes.specs.declared.vtype.VType.TheVariants as types
use Rattle.jtypes.specs.Assignability.{array_fits, class_fits}
use Rattle.jresolution.specs.declared.jprogram.member.Member.{Member}
use Rattle.jresolution.specs.jprogram.ProgramClasses.{Program}
use Rattle.jresolution.specs.declared.juses.meaning.InvokeKind.{InvokeKind}
use Rattle.jresolution.specs.declared.juses.meaning.InvokeKind.TheVariants as how
use Rattle.jtyping.specs.jrule.ArrayRule.{component}
use Rattle.jtyping.specs.jrule.PoolEffects.{of_library}
use Rattle.jsemantics.specs.jmachine.MachineStates.{Row, Calls, free}
use Rattle.jsemantics.specs.jmachine.ArrayInstructions.{items_in}
use Rattle.jsemantics.specs.jmachine.AccessCallRows.{controller_row, domain_of, rt_row}
use Rattle.jsemantics.specs.jmachine.CallTargets.{Target, Fails, Pushes, Runs, by_interface}
use Rattle.jsemantics.specs.jmachine.InstructionActions.{run}
use Rattle.jsemantics.specs.jmachine.HeapObjects.{Object, Array, class_of, library_name}
use Rattle.jsemantics.specs.jmachine.PrivilegeActions.{acting, acting_on, action, all_limits, given, limit, limited, limited_by, limits, privilege, run_action, with_limit, within}
use Rattle.jsemantics.specs.ProofNames.{limits_in}
use Rattle.jsemantics.specs.jmachine.Security.{Privilege, Rules, kept_in, permission_in}
use Rattle.jsemantics.specs.jmachine.InstructionSites.{Site}
use Rattle.jsemantics.specs.jmachine.Store.{Store, object_at}
use Rattle.jsemantics.specs.jmachine.World.{World, fits, is_above, world}
use Rattle.jsoundness_laws.specs.typed.TypedStores.{EachOf}
use Rattle.jsoundness_laws.specs.typed.TypedValues.{AreOf, IsA}
use Rattle.jsoundness_laws.proofs.TypedProofs.ValueKinds.{known_value}
use Rattle.jsoundness_laws.specs.library.LibraryArguments.{AreGiven, way_of}
use Rattle.jsoundness_laws.specs.library.YieldLaws.{AreSided, CallYields}
use Rattle.jsoundness_laws.specs.library.LibraryResults.{run_given}
use Rattle.jsoundness_laws.proofs.LibraryProofs.RunSelection.{action_users, interface_raises}
use Rattle.jsoundness_laws.proofs.LibraryProofs.Objects.{low_permission, named, never, ref_of}
use Rattle.jsoundness_laws.proofs.LibraryProofs.Orders.{Orders}
use Rattle.jsoundness_laws.proofs.LibraryProofs.LibraryCallRows.{Premises, Rowed, a_context, by_array, by_ctx, by_int, by_ref, call_yields, context_at, found_by, it_is_null, it_raises}
use Rattle.jsoundness_laws.proofs.LibraryProofs.LibraryCallRows.{not_zero, permission_at}
use Rattle.jsoundness_laws.proofs.LibraryProofs.MemberDescriptors as signed
use Rattle.jsoundness_laws.proofs.LibraryProofs.MemberDescriptors.{permission, permissions_array}

-- ---- arrays of permissions

pub record HoldsClass (w : World) (a : ArrayType) : Type 0 where
  pub class : Name
  pub holds : component a ≡ types.Object class
  pub fit : class_fits w.tree class (library_name (lib.Permission permissions.Permission)) ≡ true

module _ (side : Side) (w : World) (o : Orders side w) where
  abbrev Low : Bool
  Low = is_above w (library_name (lib.Permission permissions.Permission))

  -- the array that fits holds objects of a class that fits
  holds_class : (depth : ℕ) (x : Element) → array_fits (is_above w) w.tree depth x 1 (elements.Class (library_name (lib.Permission permissions.Permission))) ≡ true
      → HoldsClass w (record { depth = depth; element = x })
  unfolding array_fits
  holds_class zero x e = absurd (cc)
  holds_class (suc zero) (elements.Class c) e = record { class = c; holds = refl; fit = e }
  holds_class (suc zero) x e = absurd (cc)
  holds_class (suc (suc d)) x e = never Low (o.arrays (lib.Permission permissions.Permission) (low_permission side permissions.Permission)) e

  module _ {K : Type 0} (s : Store K) where
    item_of : (a : ArrayType) (v : Value K) → HoldsClass w a → IsA w s (component a) v → IsA w s permission v
    item_of a v x is =
        let as_class = subst (λ t. IsA w s t v) x.holds is in
        record {
          type = as_class.type;
          is = as_class.is;
          met = o.after as_class.type (types.Object x.class) permission (known_value w s v as_class.type as_class.is) as_class.met x.fit;
        }

    items_of : (a : ArrayType) (vs : List (Value K)) → HoldsClass w a → EachOf w s (component a) vs → EachOf w s permission vs
    items_of a [] x h = tt
    items_of a (v ∷ vs) x h = (item_of a v x h.0, items_of a vs x h.1)

    abbrev IsItems : Object K → Type 0
    IsItems x = (a : ArrayType) × (items : List (Value K)) × (x ≡ Array a items) × HoldsClass w a

    array_object : (x : Object K) → fits w (class_of w.named x) (types.Array permissions_array) ≡ true → IsItems x
    array_object (Array a items) e = (a, items, refl, holds_class a.depth a.element e)
    array_object _ e = absurd (cc)

-- ---- the action

handed_given : {K : Type 0} (w : World) (s : Store K) (side : Side) (o : Option K) → is_some o ≡ same_side side Passing
    → AreOf w s (run_given side) (option_to_list (option_map Ctx o))
handed_given w s Source None e = tt
handed_given w s Source (Some k) e = absurd (cc)
handed_given w s Passing None e = absurd (cc)
handed_given w s Passing (Some k) e = (a_context w s k, tt)

module _ {K E : Type 0} (r : Rules K E) (at : Site) (own : Member → Bool) (s : Store K) (entries : List E) (inherited : Option K)
    (statics : List VType) (h : Premises r.side at.world s statics)
    (p : Program) (in_world : at.world ≡ world p) (sided : AreSided r) where
  abbrev Row_ : InvokeKind → List (Value K) → Option VType → Option (Row K E) → Type 0
  Row_ by values ret found = Rowed {K = K} {E = E} r.side at s statics by values ret found

  abbrev RowOf : LibCall → Option VType → List (Value K) → Type 0
  RowOf call ret values = Row_ (way_of call) values ret (run r at own s entries inherited call values)

  abbrev On : LibCall → List VType → Option VType → Type 0
  On call params ret = (values : List (Value K)) → AreGiven at.world s call params values → RowOf call ret values

  -- the same values
  as_given : (call : LibCall) (ret : Option VType) (values given : List (Value K)) → values ≡ given → RowOf call ret given → RowOf call ret values
  as_given call ret values given e x = subst (λ values. RowOf call ret values) (sym e) x

  abbrev object : VType
  object = of_library lib.Object

  never_library : (x : Object K) (call : LibCall) → by_interface at.world at.full (run_action r.side) x ≡ Runs call → ⊥
  never_library x call e = action_users K p at.full r.side x call (ap (λ w. by_interface w at.full (run_action r.side) x) (sym in_world) ∙ e)

  acting_row : (values : List (Value K)) (n : ℕ) (pr : Privilege K E) (x : Object K) → is_some pr.context ≡ same_side r.side Passing → object_at s n ≡ Some x
      → IsA at.world s (of_library lib.PrivilegedAction) (Ref n) → (t : Target) → by_interface at.world at.full (run_action r.side) x ≡ t
      → Row_ how.Static values (Some object) (acting n pr t)
  acting_row values n pr x handed is an_action (Fails class) e =
      it_raises r.side at s statics how.Static values (Some object) class (interface_raises K at.world at.full (run_action r.side) x class e)
  acting_row values n pr x handed is an_action (Runs call) e = absurd (never_library x call e)
  acting_row values n pr x handed is an_action (Pushes m) e = record {
    row = free (Calls m (option_to_list (option_map Ctx pr.context) ++ Ref n ∷ []) (Some pr.caller));
    is = refl;
    act = (
      refl,
      record {
        number = n;
        object = x;
        there = is;
        action = an_action;
        chosen = e;
        given = option_to_list (option_map Ctx pr.context);
        are = refl;
        typed = handed_given at.world s r.side pr.context handed;
      },
      tt,
    );
  }

  action_row : (values : List (Value K)) (n : ℕ) (pr : Privilege K E) → is_some pr.context ≡ same_side r.side Passing → IsA at.world s (of_library lib.PrivilegedAction) (Ref n)
      → Row_ how.Static values (Some object) (action at s r.side (Ref n) pr)
  action_row values zero pr handed is = it_is_null r.side at s statics how.Static values (Some object)
  action_row values (suc n) pr handed is =
      let x = named at.world s (of_library lib.PrivilegedAction) (suc n) (not_zero n) is in
      let found = ap (λ (o : Option (Object K)). acting_on {E = E} at r.side (suc n) pr o) x.there in
      found_by r.side at s statics how.Static values (Some object) _ _ found
      (acting_row values (suc n) pr x.object handed x.there is (by_interface at.world at.full (run_action r.side) x.object) refl)

  -- ---- what is given with the action

  abbrev IsKept : ℕ → Type 0
  IsKept n = (o : Option K) × (given s (Ref n) ≡ Some o)

  kept_given : (n : ℕ) → IsA at.world s (of_library lib.AccessControlContext) (Ref n) → IsKept n
  kept_given zero is = (None, refl)
  kept_given (suc n) is =
      let x = context_at r.side at.world s statics h (suc n) (not_zero n) is in
      (Some x.0, ap (λ (o : Option (Object K)). option_map (λ k. Some k) (kept_in o)) x.1)

  abbrev IsLimit : Value K → Type 0
  IsLimit v = (o : Option perms.Permission) × (limit s v ≡ Some o)

  named_limit : (n : ℕ) → IsA at.world s permission (Ref n) → IsLimit (Ref n)
  named_limit zero is = (None, refl)
  named_limit (suc n) is =
      let x = permission_at r.side at.world s statics h (suc n) (not_zero n) is in
      (Some x.1, ap (λ (o : Option (Object K)). option_map (λ q. Some q) (permission_in o)) x.2)

  one_limit : (v : Value K) → IsA at.world s permission v → IsLimit v
  one_limit v is = let n = ref_of at.world s _ v is in subst IsLimit (sym n.1) (named_limit n.0 (subst (λ v. IsA at.world s permission v) n.1 is))

  abbrev AreLimits : Option (Option (List perms.Permission)) → Type 0
  AreLimits found = (o : Option (List perms.Permission)) × (found ≡ Some o)

  with_one : (o : Option perms.Permission) (rest : Option (Option (List perms.Permission))) → AreLimits rest → AreLimits (with_limit (Some o) rest)
  with_one None rest more = (None, refl)
  with_one (Some q) rest more = (option_map (λ ps. q ∷ ps) more.0, ap (option_map (option_map (λ ps. q ∷ ps))) more.1)

  items_given : (vs : List (Value K)) → EachOf at.world s permission vs → AreLimits (all_limits s vs)
  unfolding all_limits
  items_given [] each = (Some [], refl)
  items_given (v ∷ vs) each =
      let one = one_limit v each.0 in
      let all = with_one one.0 (all_limits s vs) (items_given vs each.1) in
      (all.0, ap (λ o. with_limit o (all_limits s vs)) one.1 ∙ all.1)

  limits_given : (n : ℕ) → IsA at.world s (types.Array permissions_array) (Ref n) → AreLimits (limits s (Ref n))
  limits_given zero is = (None, refl)
  limits_given (suc n) is =
      let x = named at.world s (types.Array permissions_array) (suc n) (not_zero n) is in
      let a = array_object r.side at.world h.orders s x.object x.fit in
      let at_array = x.there ∙ ap (λ x. Some x) a.2 in
      let each = (h.stored.objects (suc n) (Array a.0 a.1) at_array).1 in
      let all = items_given a.1 (items_of r.side at.world h.orders s a.0 a.1 a.3 each) in
      (all.0, ap (λ (o : Option (Object K)). limits_in s (items_in o)) at_array ∙ all.1)

  -- ---- the three forms

  abbrev AnAction : ℕ → Type 0
  AnAction n = IsA at.world s (of_library lib.PrivilegedAction) (Ref n)

  privilege_row : (values : List (Value K)) (domain : Option ℕ) (ctx : Option K) (limits : Option (List perms.Permission)) (context : Option K) (n : ℕ) → AnAction n
      → Row_ how.Static values (Some object) (privilege r at s entries domain ctx limits (Ref n) context)
  privilege_row values domain ctx limits context n is = action_row values n (r.privileged domain ctx context limits entries) (sided.handed domain ctx context limits entries) is

  within_row : (values : List (Value K)) (domain : Option ℕ) (m n : ℕ) → IsKept m → AnAction n → Row_ how.Static values (Some object) (within r at s entries domain (Ref m) (Ref n))
  within_row values domain m n kept is =
      let found = ap (option_and_then (privilege r at s entries domain None None (Ref n))) kept.1 in
      found_by r.side at s statics how.Static values (Some object) _ _ found (privilege_row values domain None None kept.0 n is)

  limited_by_row : (values : List (Value K)) (domain : Option ℕ) (ctx : Option K) (m n : ℕ) (o : Option (List perms.Permission)) → IsKept m → AnAction n
      → Row_ how.Static values (Some object) (limited_by r at s entries domain ctx (Ref m) (Ref n) o)
  limited_by_row values domain ctx m n None kept is = it_is_null r.side at s statics how.Static values (Some object)
  limited_by_row values domain ctx m n (Some ps) kept is =
      let found = ap (option_and_then (privilege r at s entries domain ctx (Some ps) (Ref n))) kept.1 in
      found_by r.side at s statics how.Static values (Some object) _ _ found (privilege_row values domain ctx (Some ps) kept.0 n is)

  limited_row : (values : List (Value K)) (domain : Option ℕ) (ctx : Option K) (l m n : ℕ) → AreLimits (limits s (Ref l)) → IsKept m → AnAction n
      → Row_ how.Static values (Some object) (limited r at s entries domain ctx (Ref l) (Ref m) (Ref n))
  limited_row values domain ctx l m n all kept is =
      let found = ap (option_and_then (limited_by r at s entries domain ctx (Ref m) (Ref n))) all.1 in
      found_by r.side at s statics how.Static values (Some object) _ _ found (limited_by_row values domain ctx m n all.0 kept is)

  -- ---- by each side's methods

  abbrev Alone : List (Value K) → Type 0
  Alone values = values ≡ []

  abbrev action_type : VType
  action_type = of_library lib.PrivilegedAction

  abbrev context_type : VType
  context_type = of_library lib.AccessControlContext

  source_alone : (n : ℕ) → AnAction n → RowOf (calls.Controller controllers.Privileged) (Some object) (Ref n ∷ [])
  unfolding controller_row
  source_alone n is = privilege_row (Ref n ∷ []) None None None None n is

  source_within : (m n : ℕ) → IsKept m → AnAction n → RowOf (calls.Controller controllers.PrivilegedWith) (Some object) (Ref m ∷ Ref n ∷ [])
  unfolding controller_row
  source_within m n kept is = within_row (Ref m ∷ Ref n ∷ []) None m n kept is

  source_limited : (l m n : ℕ) → AreLimits (limits s (Ref l)) → IsKept m → AnAction n
      → RowOf (calls.Controller controllers.PrivilegedLimited) (Some object) (Ref l ∷ Ref m ∷ Ref n ∷ [])
  unfolding controller_row
  source_limited l m n all kept is = limited_row (Ref l ∷ Ref m ∷ Ref n ∷ []) None None l m n all kept is

  rt_alone : (d : ℤ) (n : ℕ) → AnAction n → RowOf (calls.Rt rt.Privileged) (Some object) (Int d ∷ Ref n ∷ [])
  unfolding rt_row
  rt_alone d n is = privilege_row (Int d ∷ Ref n ∷ []) (domain_of d) None None None n is

  rt_within : (d : ℤ) (m n : ℕ) → IsKept m → AnAction n → RowOf (calls.Rt rt.PrivilegedWith) (Some object) (Int d ∷ Ref m ∷ Ref n ∷ [])
  unfolding rt_row
  rt_within d m n kept is = within_row (Int d ∷ Ref m ∷ Ref n ∷ []) (domain_of d) m n kept is

  rt_limited : (d : ℤ) (k : K) (l m n : ℕ) → AreLimits (limits s (Ref l)) → IsKept m → AnAction n
      → RowOf (calls.Rt rt.PrivilegedLimited) (Some object) (Int d ∷ Ctx k ∷ Ref l ∷ Ref m ∷ Ref n ∷ [])
  unfolding rt_row
  rt_limited d k l m n all kept is = limited_row (Int d ∷ Ctx k ∷ Ref l ∷ Ref m ∷ Ref n ∷ []) (domain_of d) (Some k) l m n all kept is

  abbrev Out : LibCall → List (Value K) → Type 0
  Out call values = RowOf call (Some object) values

  abbrev Only : (List (Value K) → Type 0) → Type 0
  Only P = (more : List (Value K)) → Alone more → P more

  nothing_else : (P : List (Value K) → Type 0) → P [] → Only P
  nothing_else P x more e = subst P (sym e) x

  alone_on : On (calls.Controller controllers.Privileged) (action_type ∷ []) (Some object)
  alone_on values g =
      by_ref at.world s Alone [] (Out (calls.Controller controllers.Privileged)) _
      (λ n more is. nothing_else (λ vs. Out (calls.Controller controllers.Privileged) (Ref n ∷ vs)) (source_alone n is) more) values g

  within_on : On (calls.Controller controllers.PrivilegedWith) (context_type ∷ action_type ∷ []) (Some object)
  within_on values g =
      let P = Out (calls.Controller controllers.PrivilegedWith) in
      by_ref at.world s Alone (action_type ∷ []) P _ (λ m more kept.
      by_ref at.world s Alone [] (λ vs. P (Ref m ∷ vs)) _ (λ n more is.
      nothing_else (λ vs. P (Ref m ∷ Ref n ∷ vs)) (source_within m n (kept_given m kept) is) more) more) values g

  limited_on : On (calls.Controller controllers.PrivilegedLimited) (types.Array permissions_array ∷ context_type ∷ action_type ∷ []) (Some object)
  limited_on values g =
      let P = Out (calls.Controller controllers.PrivilegedLimited) in
      by_array at.world s Alone (context_type ∷ action_type ∷ []) P _ (λ l more limits.
      by_ref at.world s Alone (action_type ∷ []) (λ vs. P (Ref l ∷ vs)) _ (λ m more kept.
      by_ref at.world s Alone [] (λ vs. P (Ref l ∷ Ref m ∷ vs)) _ (λ n more is.
      nothing_else (λ vs. P (Ref l ∷ Ref m ∷ Ref n ∷ vs)) (source_limited l m n (limits_given l limits) (kept_given m kept) is) more) more) more) values g

  rt_alone_on : On (calls.Rt rt.Privileged) (types.Int ∷ action_type ∷ []) (Some object)
  rt_alone_on values g =
      let P = Out (calls.Rt rt.Privileged) in
      by_int at.world s Alone (action_type ∷ []) P (λ d more.
      by_ref at.world s Alone [] (λ vs. P (Int d ∷ vs)) _ (λ n more is.
      nothing_else (λ vs. P (Int d ∷ Ref n ∷ vs)) (rt_alone d n is) more) more) values g

  rt_within_on : On (calls.Rt rt.PrivilegedWith) (types.Int ∷ context_type ∷ action_type ∷ []) (Some object)
  rt_within_on values g =
      let P = Out (calls.Rt rt.PrivilegedWith) in
      by_int at.world s Alone (context_type ∷ action_type ∷ []) P (λ d more.
      by_ref at.world s Alone (action_type ∷ []) (λ vs. P (Int d ∷ vs)) _ (λ m more kept.
      by_ref at.world s Alone [] (λ vs. P (Int d ∷ Ref m ∷ vs)) _ (λ n more is.
      nothing_else (λ vs. P (Int d ∷ Ref m ∷ Ref n ∷ vs)) (rt_within d m n (kept_given m kept) is) more) more) more) values g

  rt_limited_on : On (calls.Rt rt.PrivilegedLimited) (types.Int ∷ types.Ctx ∷ types.Array permissions_array ∷ context_type ∷ action_type ∷ []) (Some object)
  rt_limited_on values g =
      let P = Out (calls.Rt rt.PrivilegedLimited) in
      by_int at.world s Alone (types.Ctx ∷ types.Array permissions_array ∷ context_type ∷ action_type ∷ []) P (λ d more.
      by_ctx at.world s Alone (types.Array permissions_array ∷ context_type ∷ action_type ∷ []) (λ vs. P (Int d ∷ vs)) (λ k more.
      by_array at.world s Alone (context_type ∷ action_type ∷ []) (λ vs. P (Int d ∷ Ctx k ∷ vs)) _ (λ l more limits.
      by_ref at.world s Alone (action_type ∷ []) (λ vs. P (Int d ∷ Ctx k ∷ Ref l ∷ vs)) _ (λ m more kept.
      by_ref at.world s Alone [] (λ vs. P (Int d ∷ Ctx k ∷ Ref l ∷ Ref m ∷ vs)) _ (λ n more is.
      nothing_else (λ vs. P (Int d ∷ Ctx k ∷ Ref l ∷ Ref m ∷ Ref n ∷ vs))
      (rt_limited d k l m n (limits_given l limits) (kept_given m kept) is) more) more) more) more) more) values g

-- ---- the calls

module _ (K E : Type 0) where
  abbrev an_action : VType
  an_action = of_library lib.PrivilegedAction

  abbrev a_context_object : VType
  a_context_object = of_library lib.AccessControlContext

  pub alone_yields : CallYields K E (calls.Controller controllers.Privileged)
  alone_yields = call_yields K E (calls.Controller controllers.Privileged) (an_action ∷ []) (Some (of_library lib.Object)) (λ p good ps t e. signed.action_says p good)
      (λ r at own s entries inherited p statics values good is side sided h g. alone_on r at own s entries inherited statics h p is sided values g)

  pub within_yields : CallYields K E (calls.Controller controllers.PrivilegedWith)
  within_yields = call_yields K E (calls.Controller controllers.PrivilegedWith) (a_context_object ∷ an_action ∷ []) (Some (of_library lib.Object))
      (λ p good ps t e. signed.within_says p good)
      (λ r at own s entries inherited p statics values good is side sided h g. within_on r at own s entries inherited statics h p is sided values g)

  pub limited_yields : CallYields K E (calls.Controller controllers.PrivilegedLimited)
  limited_yields = call_yields K E (calls.Controller controllers.PrivilegedLimited) (types.Array permissions_array ∷ a_context_object ∷ an_action ∷ [])
      (Some (of_library lib.Object))
      (λ p good ps t e. signed.limited_says p good)
      (λ r at own s entries inherited p statics values good is side sided h g. limited_on r at own s entries inherited statics h p is sided values g)

  pub rt_alone_yields : CallYields K E (calls.Rt rt.Privileged)
  rt_alone_yields = call_yields K E (calls.Rt rt.Privileged) (types.Int ∷ an_action ∷ []) (Some (of_library lib.Object)) (λ p good ps t e. signed.rt_action_says p good)
      (λ r at own s entries inherited p statics values good is side sided h g. rt_alone_on r at own s entries inherited statics h p is sided values g)

  pub rt_within_yields : CallYields K E (calls.Rt rt.PrivilegedWith)
  rt_within_yields = call_yields K E (calls.Rt rt.PrivilegedWith) (types.Int ∷ a_context_object ∷ an_action ∷ []) (Some (of_library lib.Object))
      (λ p good ps t e. signed.rt_within_says p good)
      (λ r at own s entries inherited p statics values good is side sided h g. rt_within_on r at own s entries inherited statics h p is sided values g)

  pub rt_limited_yields : CallYields K E (calls.Rt rt.PrivilegedLimited)
  rt_limited_yields = call_yields K E (calls.Rt rt.PrivilegedLimited) (types.Int ∷ types.Ctx ∷ types.Array permissions_array ∷ a_context_object ∷ an_action ∷ [])
      (Some (of_library lib.Object))
      (λ p good ps t e. signed.rt_limited_says p good (signed.rt_limited_on p good ps t e))
      (λ r at own s entries inherited p statics values good is side sided h g. rt_limited_on r at own s entries inherited statics h p is sided values g)
