-- Rows of calls of the library that check, keep and enter security contexts.
use Rattle.std.proofs.Common.{◌≡◌, ℕ, zero, suc, ℤ, Bool, List, [], ◌∷◌, Option, Some, None, option_map, refl, sym, ap, subst, ◌∙◌}
use Rattle.std.specs.Int.{w32, cast_unsigned}
use Rattle.jperm.specs.declared.permission.Permission as perms
use Rattle.jdomain.specs.declared.verdict.Verdict.{Verdict}
use Rattle.jdomain.specs.declared.verdict.Verdict.TheVariants.{Granted, Denied}
use Rattle.jlib.specs.declared.calls.ControllerCall.TheVariants as controllers
use Rattle.jlib.specs.declared.calls.LibCall.{LibCall}
use Rattle.jlib.specs.declared.calls.LibCall.TheVariants as calls
use Rattle.jlib.specs.declared.calls.RtCall.TheVariants as rt
use Rattle.jlib.specs.declared.classes.LibClass.TheVariants as lib
use Rattle.jvalues.specs.declared.jops.value.Value.{Value}
use Rattle.jvalues.specs.declared.jops.value.Value.TheVariants.{Int, Ref, Ctx}
use Rattle.joutput.specs.declared.jtrace.event.Event.TheVariants.{Grant, Deny}
use Rattle.jtypes.specs.declared.vtype.VType.{VType}
use Rattle.jtypes.specs.declared.vtype.VType.TheVariants as types
use Rattle.jresolution.specs.declared.jprogram.member.Member.{Member}
use Rattle.jresolution.specs.declared.juses.meaning.InvokeKind.{InvokeKind}
use Rattle.jresolution.specs.declared.juses.meaning.InvokeKind.TheVariants as how
use Rattle.jtyping.specs.jrule.PoolEffects.{of_library}
use Rattle.jsemantics.specs.jmachine.MachineStates.{Row, Raises, free}
use Rattle.jsemantics.specs.jmachine.AccessCallRows.{context_made, context_row, controller_row, kept_checked, rt_row}
use Rattle.jsemantics.specs.jmachine.InstructionActions.{run}
use Rattle.jsemantics.specs.jmachine.HeapObjects.{Object, Context}
use Rattle.jsemantics.specs.jmachine.Security.{Rules, checked, denial_message, judged, kept_in, permission_in}
use Rattle.jsemantics.specs.jmachine.InstructionSites.{Site}
use Rattle.jsemantics.specs.jmachine.Store.{Store, next_number, object_at, with_made}
use Rattle.jsoundness_laws.specs.typed.TypedValues.{IsA}
use Rattle.jsoundness_laws.specs.library.LibraryArguments.{AreGiven, IsReceiver, way_of}
use Rattle.jsoundness_laws.specs.library.YieldLaws.{CallYields}
use Rattle.jsoundness_laws.specs.library.LibraryResults.{IsReadied}
use Rattle.jsoundness_laws.proofs.LibraryProofs.StoreExtension.{follows_made, is_named, made_at}
use Rattle.jsoundness_laws.proofs.LibraryProofs.LibraryCallRows.{Premises, Rowed, a_context, call_yields, context_at, found_by, given_ctx, given_int, given_ref, it_gives, it_is_null, not_zero, permission_at}
use Rattle.jsoundness_laws.proofs.LibraryProofs.MemberDescriptors as signed
use Rattle.jsoundness_laws.proofs.LibraryProofs.MemberDescriptors.{permission}

module _ {K E : Type 0} (r : Rules K E) (at : Site) (own : Member → Bool) (s : Store K) (entries : List E) (inherited : Option K)
    (statics : List VType) (h : Premises r.side at.world s statics) where
  abbrev Row_ : InvokeKind → List (Value K) → Option VType → Option (Row K E) → Type 0
  Row_ by values ret found = Rowed {K = K} {E = E} r.side at s statics by values ret found

  abbrev RowOf : LibCall → Option VType → List (Value K) → Type 0
  RowOf call ret values = Row_ (way_of call) values ret (run r at own s entries inherited call values)

  abbrev On : LibCall → List VType → Option VType → Type 0
  On call params ret = (values : List (Value K)) → AreGiven at.world s call params values → RowOf call ret values

  -- the same values
  as_given : (call : LibCall) (ret : Option VType) (values given : List (Value K)) → values ≡ given → RowOf call ret given → RowOf call ret values
  as_given call ret values given e x = subst (λ values. RowOf call ret values) (sym e) x

  -- ---- checks

  judged_row : (by : InvokeKind) (values : List (Value K)) (asked : perms.Permission) (v : Verdict) → IsReadied by values s → Row_ by values None (Some (judged s at.thread asked v))
  judged_row by values asked Granted ready = it_gives r.side at s statics h by values None [] (Grant at.thread asked ∷ []) tt ready
  judged_row by values asked (Denied domain) ready = record {
    row = free (Raises (Deny at.thread asked domain ∷ []) lib.AccessControlException (Some (denial_message asked)));
    is = refl;
    act = tt;
  }

  checked_row : (by : InvokeKind) (values : List (Value K)) (verdict : perms.Permission → Verdict) (n : ℕ) → IsReadied by values s → IsA at.world s permission (Ref n)
      → Row_ by values None (checked at s verdict (Ref n))
  checked_row by values verdict zero ready is = it_is_null r.side at s statics by values None
  checked_row by values verdict (suc n) ready is =
      let x = permission_at r.side at.world s statics h (suc n) (not_zero n) is in
      let found = ap (λ (o : Option (Object K)). option_map (λ asked. judged {E = E} s at.thread asked (verdict asked)) (permission_in o)) x.2 in
      found_by r.side at s statics by values None _ _ found (judged_row by values x.1 (verdict x.1) ready)

  check_row : (n : ℕ) → IsA at.world s permission (Ref n) → RowOf (calls.Controller controllers.Check) None (Ref n ∷ [])
  unfolding controller_row
  check_row n is = checked_row how.Static (Ref n ∷ []) (λ asked. r.check asked None entries inherited) n tt is

  rt_check_row : (k : K) (n : ℕ) → IsA at.world s permission (Ref n) → RowOf (calls.Rt rt.Check) None (Ctx k ∷ Ref n ∷ [])
  unfolding rt_row
  rt_check_row k n is = checked_row how.Static (Ctx k ∷ Ref n ∷ []) (λ asked. r.check asked (Some k) entries inherited) n tt is

  kept_row : (m n : ℕ) (k : K) → IsA at.world s permission (Ref m) → object_at s n ≡ Some (Context (Some k)) → RowOf calls.ContextCheck None (Ref m ∷ Ref n ∷ [])
  unfolding context_row
  kept_row m n k asked is =
      let found = ap (λ (o : Option (Object K)). kept_checked r at s entries inherited (Ref m) (kept_in o)) is in
      found_by r.side at s statics how.Virtual (Ref m ∷ Ref n ∷ []) None _ _ found (checked_row how.Virtual (Ref m ∷ Ref n ∷ []) (λ asked. r.check_kept asked k) m tt asked)

  -- ---- contexts

  snapshot_row : (values : List (Value K)) (k : K) → Row_ how.Static values (Some (of_library lib.AccessControlContext)) (Some (context_made s k))
  snapshot_row values k = record {
    row = context_made s k;
    is = refl;
    act = (
      follows_made at.world statics s (Context (Some k)) h.stored tt,
      (
        is_named at.world statics (with_made s (Context (Some k))) (of_library lib.AccessControlContext) (next_number s)
            (Context (Some k)) (made_at at.world statics s (Context (Some k))) refl
            (h.orders.own lib.AccessControlContext),
        tt,
      ),
      tt,
    );
  }

  source_snapshot : RowOf (calls.Controller controllers.Snapshot) (Some (of_library lib.AccessControlContext)) []
  unfolding controller_row
  source_snapshot = snapshot_row [] (r.snapshot None entries inherited)

  rt_snapshot : (k : K) → RowOf (calls.Rt rt.Snapshot) (Some (of_library lib.AccessControlContext)) (Ctx k ∷ [])
  unfolding rt_row
  rt_snapshot k = snapshot_row (Ctx k ∷ []) (r.snapshot (Some k) entries inherited)

  enter_row : (d : ℤ) (k : K) → RowOf (calls.Rt rt.Enter) (Some types.Ctx) (Int d ∷ Ctx k ∷ [])
  unfolding rt_row
  enter_row d k = it_gives r.side at s statics h how.Static (Int d ∷ Ctx k ∷ []) (Some types.Ctx) (Ctx (r.enter k (cast_unsigned w32 d)) ∷ []) [] (a_context at.world s _, tt) tt

  -- ---- with the values that are given

  abbrev Alone : List (Value K) → Type 0
  Alone values = values ≡ []

  check_on : On (calls.Controller controllers.Check) (permission ∷ []) None
  check_on values g =
      let o = given_ref at.world s Alone [] _ values g in
      as_given (calls.Controller controllers.Check) None values (Ref o.0 ∷ []) (o.2 ∙ ap (λ more. Ref o.0 ∷ more) o.4) (check_row o.0 o.3)

  rt_check_on : On (calls.Rt rt.Check) (types.Ctx ∷ permission ∷ []) None
  rt_check_on values g =
      let c = given_ctx at.world s Alone (permission ∷ []) values g in
      let o = given_ref at.world s Alone [] _ c.1 c.3 in
      as_given (calls.Rt rt.Check) None values (Ctx c.0 ∷ Ref o.0 ∷ []) (c.2 ∙ ap (λ more. Ctx c.0 ∷ more) (o.2 ∙ ap (λ more. Ref o.0 ∷ more) o.4)) (rt_check_row c.0 o.0 o.3)

  kept_on : On calls.ContextCheck (permission ∷ []) None
  kept_on values g =
      let o = given_ref at.world s (IsReceiver at.world s how.Virtual lib.AccessControlContext) [] _ values g in
      let x = context_at r.side at.world s statics h o.4.0 o.4.2 o.4.3 in
      as_given calls.ContextCheck None values (Ref o.0 ∷ Ref o.4.0 ∷ []) (o.2 ∙ ap (λ more. Ref o.0 ∷ more) o.4.1) (kept_row o.0 o.4.0 x.0 o.3 x.1)

  snapshot_on : On (calls.Controller controllers.Snapshot) [] (Some (of_library lib.AccessControlContext))
  snapshot_on values g = as_given (calls.Controller controllers.Snapshot) (Some (of_library lib.AccessControlContext)) values [] g source_snapshot

  rt_snapshot_on : On (calls.Rt rt.Snapshot) (types.Ctx ∷ []) (Some (of_library lib.AccessControlContext))
  rt_snapshot_on values g =
      let c = given_ctx at.world s Alone [] values g in
      as_given (calls.Rt rt.Snapshot) (Some (of_library lib.AccessControlContext)) values (Ctx c.0 ∷ []) (c.2 ∙ ap (λ more. Ctx c.0 ∷ more) c.3) (rt_snapshot c.0)

  enter_on : On (calls.Rt rt.Enter) (types.Int ∷ types.Ctx ∷ []) (Some types.Ctx)
  enter_on values g =
      let d = given_int at.world s Alone (types.Ctx ∷ []) values g in
      let c = given_ctx at.world s Alone [] d.1 d.3 in
      as_given (calls.Rt rt.Enter) (Some types.Ctx) values (Int d.0 ∷ Ctx c.0 ∷ []) (d.2 ∙ ap (λ more. Int d.0 ∷ more) (c.2 ∙ ap (λ more. Ctx c.0 ∷ more) c.3)) (enter_row d.0 c.0)

-- ---- the calls

module _ (K E : Type 0) where
  pub check_yields : CallYields K E (calls.Controller controllers.Check)
  check_yields = call_yields K E (calls.Controller controllers.Check) (permission ∷ []) None (λ p good ps t e. signed.check_says p good)
      (λ r at own s entries inherited p statics values good is side sided h g. check_on r at own s entries inherited statics h values g)

  pub snapshot_yields : CallYields K E (calls.Controller controllers.Snapshot)
  snapshot_yields = call_yields K E (calls.Controller controllers.Snapshot) [] (Some (of_library lib.AccessControlContext)) (λ p good ps t e. signed.snapshot_says p good)
      (λ r at own s entries inherited p statics values good is side sided h g. snapshot_on r at own s entries inherited statics h values g)

  pub kept_yields : CallYields K E calls.ContextCheck
  kept_yields = call_yields K E (calls.ContextCheck) (permission ∷ []) None (λ p good ps t e. signed.check_says p good)
      (λ r at own s entries inherited p statics values good is side sided h g. kept_on r at own s entries inherited statics h values g)

  pub enter_yields : CallYields K E (calls.Rt rt.Enter)
  enter_yields = call_yields K E (calls.Rt rt.Enter) (types.Int ∷ types.Ctx ∷ []) (Some types.Ctx) (λ p good ps t e. signed.enter_says p good (signed.enter_on p good ps t e))
      (λ r at own s entries inherited p statics values good is side sided h g. enter_on r at own s entries inherited statics h values g)

  pub rt_check_yields : CallYields K E (calls.Rt rt.Check)
  rt_check_yields = call_yields K E (calls.Rt rt.Check) (types.Ctx ∷ permission ∷ []) None (λ p good ps t e. signed.rt_check_says p good (signed.rt_check_on p good ps t e))
      (λ r at own s entries inherited p statics values good is side sided h g. rt_check_on r at own s entries inherited statics h values g)

  pub rt_snapshot_yields : CallYields K E (calls.Rt rt.Snapshot)
  rt_snapshot_yields = call_yields K E (calls.Rt rt.Snapshot) (types.Ctx ∷ []) (Some (of_library lib.AccessControlContext))
      (λ p good ps t e. signed.rt_snapshot_says p good (signed.rt_snapshot_on p good ps t e))
      (λ r at own s entries inherited p statics values good is side sided h g. rt_snapshot_on r at own s entries inherited statics h values g)
