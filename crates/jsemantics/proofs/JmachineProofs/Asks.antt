-- The rows of calls that ask something of access control, of machines that answer alike what these ask.
use Rattle.std.proofs.Common.{◌≡◌, ◌∙◌, ℕ, zero, suc, Bool, true, false, List, [], ◌∷◌, length, map, Option, Some, None, option_map, refl, sym, ap}
use Rattle.std.specs.Prelude.{IfSome, option_and_then, if◌then◌else◌}
use Rattle.std.specs.Int.{w32, cast_unsigned}
use Rattle.jperm.specs.declared.permission.Permission as perms
use Rattle.jdomain.specs.declared.verdict.Verdict.{Verdict}
use Rattle.jdomain.specs.declared.verdict.Verdict.TheVariants.{Granted, Denied}
use Rattle.jvalues.specs.declared.jops.value.Value.{Value}
use Rattle.jvalues.specs.declared.jops.value.Value.TheVariants.{Int, Long, Ref, Ctx}
use Rattle.jlib.specs.declared.side.Side.{Side}
use Rattle.jlib.specs.declared.side.Side.TheVariants.{Source, Passing}
use Rattle.jlib.specs.declared.classes.Thrown.TheVariants as thrown
use Rattle.jlib.specs.declared.classes.LibClass.TheVariants as lib
use Rattle.jlib.specs.declared.calls.ControllerCall.{ControllerCall}
use Rattle.jlib.specs.declared.calls.ControllerCall.TheVariants as controller
use Rattle.jlib.specs.declared.calls.RtCall.{RtCall}
use Rattle.jlib.specs.declared.calls.RtCall.TheVariants as rt
use Rattle.jlib.specs.declared.calls.ThreadCall.{ThreadCall}
use Rattle.jlib.specs.declared.calls.ThreadCall.TheVariants as threads
use Rattle.jthreads.specs.ThreadTables.{is_started, join_answer, table_after_start}
use Rattle.jthreads.specs.declared.table.Joined.{Joined}
use Rattle.jthreads.specs.declared.table.Joined.TheVariants.{AtOnce, Waits}
use Rattle.jsemantics.specs.jmachine.MachineStates.{Row, Calls, Makes, Switches, free, gives, raises, two}
use Rattle.jsemantics.specs.jmachine.AccessQueries.{Ask, Checks, ChecksKept, Snapshots, Privileges, Answer, Decided, Kept, Entered, Allowed, AgreeAt, AgreeWhere, action_of, checks, checks_kept, context_asks, controller_asks, inherits, privileges, privileges_by, privileges_limited, privileges_within, rt_asks, thread_asks, where_run}
use Rattle.jsemantics.specs.jmachine.AccessCallRows.{context_made, context_row, controller_row, domain_of, kept_checked, rt_row, thread_made, thread_row}
use Rattle.jsemantics.specs.jmachine.CallTargets.{Target, Fails, Pushes, Runs, by_interface}
use Rattle.jsemantics.specs.jmachine.StateMaps.{object_map, privilege_map, row_map, store_map, value_map, values_map}
use Rattle.jsemantics.specs.jmachine.HeapObjects.{Object, Instance, Thrown, Text, Builder, Piece, Permission, Context, Thread, Bare, Array}
use Rattle.jsemantics.specs.jmachine.PrivilegeActions.{acting, acting_on, action, given, limited, limited_by, limits, privilege, run_action}
use Rattle.jsemantics.specs.jmachine.Security.{Privilege, Rules, checked, judged, kept_in, permission_in}
use Rattle.jsemantics.specs.jmachine.InstructionSites.{Site}
use Rattle.jsemantics.specs.jmachine.Store.{Store, object_at, object_of, with_object}
use Rattle.jsemantics.specs.jmachine.ThreadOperations.{joined_by, number_in, started, thread, waiting}
use Rattle.jsemantics.proofs.JmachineProofs.CallRows.{interface_alike}
use Rattle.jsemantics.proofs.JmachineProofs.AskArguments.{given_alike, hand_alike, kept_alike, limits_alike, number_alike, permission_alike}
use Rattle.jsemantics.proofs.JmachineProofs.Stores.{new_alike, object_alike, set_alike}

-- ---- rows

module _ {K L E F : Type 0} (f : K → L) (g : E → F) (at : Site) (s : Store K) where
  judged_alike : (thread : ℕ) (asked : perms.Permission) (v : Verdict) → row_map f g (judged s thread asked v) ≡ judged (store_map f s) thread asked v
  judged_alike thread asked Granted = refl
  judged_alike thread asked (Denied domain) = refl

  all_judged : (h i : perms.Permission → Verdict) (o : Option perms.Permission) → IfSome o (λ asked. h asked ≡ i asked)
      → option_map (row_map f g) (option_map (λ asked. judged s at.thread asked (h asked)) o) ≡ option_map (λ asked. judged (store_map f s) at.thread asked (i asked)) o
  all_judged h i None e = refl
  all_judged h i (Some asked) e = ap Some (judged_alike at.thread asked (h asked) ∙ ap (λ (v : Verdict). judged {E = F} (store_map f s) at.thread asked v) e)

  checked_alike : (h i : perms.Permission → Verdict) (v : Value K) → IfSome (permission_in (object_of s v)) (λ asked. h asked ≡ i asked) → option_map (row_map f g) (checked at s h v) ≡ checked at (store_map f s) i (value_map f v)
  checked_alike h i (Int x) e = refl
  checked_alike h i (Long x) e = refl
  checked_alike h i (Ctx k) e = refl
  checked_alike h i (Ref zero) e = refl
  checked_alike h i (Ref (suc n)) e =
      all_judged h i (permission_in (object_at s (suc n))) e
      ∙ ap (option_map (λ (asked : perms.Permission). judged {E = F} (store_map f s) at.thread asked (i asked))) (permission_alike f (object_at s (suc n)) ∙ ap permission_in (sym (object_alike f s (suc n))))

  made_alike : (k : K) → row_map f g (context_made s k) ≡ context_made (store_map f s) (f k)
  made_alike k = new_alike f g s two (Context (Some k))

  either_alike : (b : Bool) (x y : Row K E) → row_map f g (if b then x else y) ≡ (if b then row_map f g x else row_map f g y)
  either_alike true x y = refl
  either_alike false x y = refl

  started_alike : (o : Option ℕ) → option_map (row_map f g) (option_map (started at) o) ≡ option_map (started at) o
  started_alike None = refl
  started_alike (Some t) = ap Some (either_alike (is_started at.table t) (raises (lib.Thrown thrown.IllegalThreadStateException)) (free (Switches (table_after_start t at.table))))

  joined_alike : (t : ℕ) (j : Joined) → row_map f g (joined_by at s t j) ≡ joined_by at (store_map f s) t j
  joined_alike t AtOnce = refl
  joined_alike t Waits = refl

  waiting_alike : (o : Option ℕ) → option_map (row_map f g) (option_map (waiting at s) o) ≡ option_map (waiting at (store_map f s)) o
  waiting_alike None = refl
  waiting_alike (Some t) = ap Some (joined_alike t (join_answer t at.table))

  threads_alike : (call : ThreadCall) (values : List (Value K)) → option_map (row_map f g) (thread at s call values) ≡ thread at (store_map f s) call (values_map f values)
  unfolding thread
  threads_alike (threads.Init side) values = refl
  threads_alike threads.Yield [] = refl
  threads_alike threads.Yield (v ∷ rest) = refl
  threads_alike threads.Start [] = refl
  threads_alike threads.Start (Int x ∷ rest) = refl
  threads_alike threads.Start (Long x ∷ rest) = refl
  threads_alike threads.Start (Ctx x ∷ rest) = refl
  threads_alike threads.Start (Ref n ∷ v ∷ rest) = refl
  threads_alike threads.Join [] = refl
  threads_alike threads.Join (Int x ∷ rest) = refl
  threads_alike threads.Join (Long x ∷ rest) = refl
  threads_alike threads.Join (Ctx x ∷ rest) = refl
  threads_alike threads.Join (Ref n ∷ v ∷ rest) = refl
  threads_alike threads.Start (Ref n ∷ []) = started_alike (number_in (object_at s n)) ∙ ap (option_map (started {K = L} {E = F} at)) (number_alike f (object_at s n) ∙ ap number_in (sym (object_alike f s n)))
  threads_alike threads.Join (Ref n ∷ []) = waiting_alike (number_in (object_at s n)) ∙ ap (option_map (waiting {E = F} at (store_map f s))) (number_alike f (object_at s n) ∙ ap number_in (sym (object_alike f s n)))

-- ---- what is answered alike

abbrev verdict_in : {K E : Type 0} → Verdict → Answer K E → Verdict
verdict_in other (Decided v) = v
verdict_in other a = other

abbrev kept_by : {K E : Type 0} → K → Answer K E → K
kept_by other (Kept k) = k
kept_by other (Entered k) = k
kept_by other a = other

abbrev allowed_by : {K E : Type 0} → Privilege K E → Answer K E → Privilege K E
allowed_by other (Allowed p) = p
allowed_by other a = other

module _ {K E : Type 0} where
  -- answers of these types
  abbrev verdict : Verdict → Answer K E
  verdict v = Decided v

  abbrev kept_here : K → Answer K E
  kept_here k = Kept k

  abbrev entered : K → Answer K E
  entered k = Entered k

  same_verdict : (v w : Verdict) → verdict v ≡ verdict w → v ≡ w
  same_verdict v w e = ap (verdict_in v) e

  same_kept : (k l : K) → kept_here k ≡ kept_here l → k ≡ l
  same_kept k l e = ap (kept_by k) e

  same_entered : (k l : K) → entered k ≡ entered l → k ≡ l
  same_entered k l e = ap (kept_by k) e

  same_privilege : (p q : Privilege K E) → Allowed p ≡ Allowed q → p ≡ q
  same_privilege p q e = ap (allowed_by p) e

-- ---- asks

module _ {K L E F : Type 0} (f : K → L) (g : E → F) (r : Rules K E) (q : Rules L F) (same : r.side ≡ q.side) (at : Site) (s : Store K) (es : List E) (inherited : Option K) where
  abbrev t : Store L
  t = store_map f s

  abbrev fs : List F
  fs = map g es

  abbrev kept : Option L
  kept = option_map f inherited

  abbrev Agree : Ask K → Type 0
  Agree ask = AgreeAt f g r q es inherited ask

  abbrev Where : Option (Ask K) → Type 0
  Where asked = AgreeWhere f g r q es inherited asked

  -- ---- checks

  each_decided : (ask : perms.Permission → Ask K) (h i : perms.Permission → Verdict) → ((asked : perms.Permission) → Agree (ask asked) → h asked ≡ i asked)
      → (o : Option perms.Permission) → Where (option_map ask o) → IfSome o (λ asked. h asked ≡ i asked)
  each_decided ask h i e None w = tt
  each_decided ask h i e (Some asked) w = e asked w

  check_alike : (ctx : Option K) (v : Value K) → Where (checks r.side at s (λ asked. Checks asked ctx) v)
      → option_map (row_map f g) (checked at s (λ asked. r.check asked ctx es inherited) v) ≡ checked at t (λ asked. q.check asked (option_map f ctx) fs kept) (value_map f v)
  check_alike ctx v w =
      checked_alike f g at s (λ asked. r.check asked ctx es inherited) (λ asked. q.check asked (option_map f ctx) fs kept) v
      (each_decided (λ asked. Checks asked ctx) (λ asked. r.check asked ctx es inherited) (λ asked. q.check asked (option_map f ctx) fs kept)
      (λ asked e. same_verdict (r.check asked ctx es inherited) (q.check asked (option_map f ctx) fs kept) e) (permission_in (object_of s v)) w)

  kept_checked_alike : (v : Value K) (o : Option K) → Where (checks_kept r.side at s v o)
      → option_map (row_map f g) (kept_checked r at s es inherited v o) ≡ kept_checked q at t fs kept (value_map f v) (option_map f o)
  kept_checked_alike v None w = refl
  kept_checked_alike v (Some k) w =
      checked_alike f g at s (λ asked. r.check_kept asked k) (λ asked. q.check_kept asked (f k)) v
      (each_decided (λ asked. ChecksKept asked k) (λ asked. r.check_kept asked k) (λ asked. q.check_kept asked (f k))
      (λ asked e. same_verdict (r.check_kept asked k) (q.check_kept asked (f k)) e) (permission_in (object_of s v)) w)

  -- ---- what is kept

  snapshot_alike : (ctx : Option K) → Agree (Snapshots ctx)
      → option_map (row_map f g) (Some (context_made s (r.snapshot ctx es inherited))) ≡ Some (context_made t (q.snapshot (option_map f ctx) fs kept))
  snapshot_alike ctx w =
      ap Some (made_alike f g at s (r.snapshot ctx es inherited)
      ∙ ap (λ (k : L). context_made {E = F} t k) (same_kept {E = F} (f (r.snapshot ctx es inherited)) (q.snapshot (option_map f ctx) fs kept) w))

  abbrev made_thread : ℕ → ℕ → Store L → L → Option (Row L F)
  made_thread n runnable u k = Some (free (Makes u runnable k))

  inherits_alike : (ctx : Option K) (n runnable : ℕ) (o : Option (Object K)) → Where (inherits r.side at s ctx o)
      → option_map (row_map f g) (thread_made at s n runnable (r.inherit ctx es inherited) o) ≡ thread_made at t n runnable (q.inherit (option_map f ctx) fs kept) (option_map (object_map f) o)
  inherits_alike ctx n runnable None w = refl
  inherits_alike ctx n runnable (Some (Instance class message fields)) w = refl
  inherits_alike ctx n runnable (Some (Thrown c message)) w = refl
  inherits_alike ctx n runnable (Some (Text units)) w = refl
  inherits_alike ctx n runnable (Some (Builder units)) w = refl
  inherits_alike ctx n runnable (Some (Piece units)) w = refl
  inherits_alike ctx n runnable (Some (Permission c held)) w = refl
  inherits_alike ctx n runnable (Some (Context given)) w = refl
  inherits_alike ctx n runnable (Some (Thread number)) w =
      ap (λ (u : Store L). made_thread n runnable u (f (r.inherit ctx es inherited))) (set_alike f s n (Thread (Some (length at.table))))
      ∙ ap (λ (k : L). made_thread n runnable (with_object t n (Thread (Some (length at.table)))) k) (same_kept {E = F} (f (r.inherit ctx es inherited)) (q.inherit (option_map f ctx) fs kept) w)
  inherits_alike ctx n runnable (Some (Bare c)) w = refl
  inherits_alike ctx n runnable (Some (Array a items)) w = refl

  init_alike : (ctx : Option K) (n runnable : ℕ) → Where (inherits r.side at s ctx (object_at s n))
      → option_map (row_map f g) (thread_made at s n runnable (r.inherit ctx es inherited) (object_at s n)) ≡ thread_made at t n runnable (q.inherit (option_map f ctx) fs kept) (object_at t n)
  init_alike ctx n runnable w =
      inherits_alike ctx n runnable (object_at s n) w
      ∙ ap (thread_made {E = F} at t n runnable (q.inherit (option_map f ctx) fs kept)) (sym (object_alike f s n))

  -- ---- privileges

  module _ (ask : Ask K) (p : Privilege K E) (p' : Privilege L F) (e : Agree ask → privilege_map f g p ≡ p') where
    acting_alike : (n : ℕ) (o : Target) → Where (where_run r.side at s ask (Some o)) → option_map (row_map f g) (acting n p o) ≡ acting n p' o
    acting_alike n (Fails class) w = refl
    acting_alike n (Runs one) w = refl
    acting_alike n (Pushes m) w =
        ap (λ (vs : List (Value L)). Some (free (Calls m vs (Some (g p.caller))))) (hand_alike f n p.context)
        ∙ ap (λ (x : Privilege L F). acting n x (Pushes m)) (e w)

    on_alike : (n : ℕ) (o : Option (Object K)) → Where (where_run r.side at s ask (option_map (by_interface at.world at.full (run_action r.side)) o))
        → option_map (row_map f g) (acting_on at r.side n p o) ≡ acting_on at r.side n p' (option_map (object_map f) o)
    on_alike n None w = refl
    on_alike n (Some x) w =
        acting_alike n (by_interface at.world at.full (run_action r.side) x) w
        ∙ ap (acting n p') (interface_alike f at.world at.full (run_action r.side) x)

    action_alike : (v : Value K) → Where (where_run r.side at s ask (action_of r.side at s v)) → option_map (row_map f g) (action at s r.side v p) ≡ action at t r.side (value_map f v) p'
    action_alike (Int x) w = refl
    action_alike (Long x) w = refl
    action_alike (Ctx k) w = refl
    action_alike (Ref zero) w = refl
    action_alike (Ref (suc n)) w = on_alike (suc n) (object_at s (suc n)) w ∙ ap (acting_on at r.side (suc n) p') (sym (object_alike f s (suc n)))

  privilege_alike : (domain : Option ℕ) (ctx : Option K) (limited : Option (List perms.Permission)) (v : Value K) (context : Option K) → Where (privileges r.side at s domain ctx limited v context)
      → option_map (row_map f g) (privilege r at s es domain ctx limited v context) ≡ privilege q at t fs domain (option_map f ctx) limited (value_map f v) (option_map f context)
  privilege_alike domain ctx limited v context w =
      action_alike (Privileges domain ctx context limited) (r.privileged domain ctx context limited es) (q.privileged domain (option_map f ctx) (option_map f context) limited fs)
      (λ e. same_privilege (privilege_map f g (r.privileged domain ctx context limited es)) (q.privileged domain (option_map f ctx) (option_map f context) limited fs) e) v w
      ∙ ap (λ (side : Side). action at t side (value_map f v) (q.privileged domain (option_map f ctx) (option_map f context) limited fs)) same

  by_given : (a : Option K → Option (Ask K)) (h : Option K → Option (Row K E)) (i : Option L → Option (Row L F))
      → ((x : Option K) → Where (a x) → option_map (row_map f g) (h x) ≡ i (option_map f x)) → (o : Option (Option K)) → Where (option_and_then a o)
      → option_map (row_map f g) (option_and_then h o) ≡ option_and_then i (option_map (option_map f) o)
  by_given a h i e None w = refl
  by_given a h i e (Some x) w = e x w

  within_alike : (domain : Option ℕ) (ctx : Option K) (limited : Option (List perms.Permission)) (context v : Value K) → Where (privileges_within r.side at s domain ctx limited context v)
      → option_map (row_map f g) (option_and_then (privilege r at s es domain ctx limited v) (given s context)) ≡ option_and_then (privilege q at t fs domain (option_map f ctx) limited (value_map f v)) (given t (value_map f context))
  within_alike domain ctx limited context v w =
      by_given (privileges r.side at s domain ctx limited v) (privilege r at s es domain ctx limited v) (privilege q at t fs domain (option_map f ctx) limited (value_map f v)) (privilege_alike domain ctx limited v) (given s context) w
      ∙ ap (option_and_then (privilege q at t fs domain (option_map f ctx) limited (value_map f v))) (given_alike f s context)

  limited_by_alike : (domain : Option ℕ) (ctx : Option K) (context v : Value K) (o : Option (List perms.Permission)) → Where (privileges_by r.side at s domain ctx context v o)
      → option_map (row_map f g) (limited_by r at s es domain ctx context v o) ≡ limited_by q at t fs domain (option_map f ctx) (value_map f context) (value_map f v) o
  limited_by_alike domain ctx context v None w = refl
  limited_by_alike domain ctx context v (Some ps) w = within_alike domain ctx (Some ps) context v w

  by_limits : (domain : Option ℕ) (ctx : Option K) (context v : Value K) (o : Option (Option (List perms.Permission))) → Where (option_and_then (privileges_by r.side at s domain ctx context v) o)
      → option_map (row_map f g) (option_and_then (limited_by r at s es domain ctx context v) o) ≡ option_and_then (limited_by q at t fs domain (option_map f ctx) (value_map f context) (value_map f v)) o
  by_limits domain ctx context v None w = refl
  by_limits domain ctx context v (Some o) w = limited_by_alike domain ctx context v o w

  limited_alike : (domain : Option ℕ) (ctx : Option K) (array context v : Value K) → Where (privileges_limited r.side at s domain ctx array context v)
      → option_map (row_map f g) (limited r at s es domain ctx array context v) ≡ limited q at t fs domain (option_map f ctx) (value_map f array) (value_map f context) (value_map f v)
  limited_alike domain ctx array context v w =
      by_limits domain ctx context v (limits s array) w
      ∙ ap (option_and_then (limited_by q at t fs domain (option_map f ctx) (value_map f context) (value_map f v))) (limits_alike f s array)

  -- ---- rows

  pub controller_alike : (call : ControllerCall) (values : List (Value K)) → Where (controller_asks r.side at s call values)
      → option_map (row_map f g) (controller_row r at s es inherited call values) ≡ controller_row q at t fs kept call (values_map f values)
  unfolding controller_row controller_asks
  controller_alike controller.Check [] w = refl
  controller_alike controller.Check (v ∷ []) w = check_alike None v w
  controller_alike controller.Check (v ∷ u ∷ rest) w = refl
  controller_alike controller.Snapshot [] w = snapshot_alike None w
  controller_alike controller.Snapshot (v ∷ rest) w = refl
  controller_alike controller.Privileged [] w = refl
  controller_alike controller.Privileged (v ∷ []) w = privilege_alike None None None v None w
  controller_alike controller.Privileged (v ∷ u ∷ rest) w = refl
  controller_alike controller.PrivilegedWith [] w = refl
  controller_alike controller.PrivilegedWith (c ∷ []) w = refl
  controller_alike controller.PrivilegedWith (c ∷ v ∷ []) w = within_alike None None None c v w
  controller_alike controller.PrivilegedWith (c ∷ v ∷ u ∷ rest) w = refl
  controller_alike controller.PrivilegedLimited [] w = refl
  controller_alike controller.PrivilegedLimited (a ∷ []) w = refl
  controller_alike controller.PrivilegedLimited (a ∷ c ∷ []) w = refl
  controller_alike controller.PrivilegedLimited (a ∷ c ∷ v ∷ []) w = limited_alike None None a c v w
  controller_alike controller.PrivilegedLimited (a ∷ c ∷ v ∷ u ∷ rest) w = refl

  pub context_alike : (values : List (Value K)) → Where (context_asks r.side at s values)
      → option_map (row_map f g) (context_row r at s es inherited values) ≡ context_row q at t fs kept (values_map f values)
  unfolding context_row context_asks
  context_alike [] w = refl
  context_alike (v ∷ []) w = refl
  context_alike (v ∷ Int x ∷ rest) w = refl
  context_alike (v ∷ Long x ∷ rest) w = refl
  context_alike (v ∷ Ctx x ∷ rest) w = refl
  context_alike (v ∷ Ref n ∷ []) w = kept_checked_alike v (kept_in (object_at s n)) w ∙ ap (kept_checked q at t fs kept (value_map f v)) (kept_alike f (object_at s n) ∙ ap kept_in (sym (object_alike f s n)))
  context_alike (v ∷ Ref n ∷ u ∷ rest) w = refl

  pub thread_alike : (call : ThreadCall) (values : List (Value K)) → Where (thread_asks r.side at s call values)
      → option_map (row_map f g) (thread_row r at s es inherited call values) ≡ thread_row q at t fs kept call (values_map f values)
  unfolding thread_row thread_asks
  thread_alike threads.Start values w = threads_alike f g at s threads.Start values
  thread_alike threads.Join values w = threads_alike f g at s threads.Join values
  thread_alike threads.Yield values w = threads_alike f g at s threads.Yield values
  thread_alike (threads.Init Source) [] w = threads_alike f g at s (threads.Init Source) []
  thread_alike (threads.Init Source) (Int x ∷ rest) w = threads_alike f g at s (threads.Init Source) (Int x ∷ rest)
  thread_alike (threads.Init Source) (Long x ∷ rest) w = threads_alike f g at s (threads.Init Source) (Long x ∷ rest)
  thread_alike (threads.Init Source) (Ctx x ∷ rest) w = threads_alike f g at s (threads.Init Source) (Ctx x ∷ rest)
  thread_alike (threads.Init Source) (Ref a ∷ []) w = threads_alike f g at s (threads.Init Source) (Ref a ∷ [])
  thread_alike (threads.Init Source) (Ref a ∷ Int x ∷ rest) w = threads_alike f g at s (threads.Init Source) (Ref a ∷ Int x ∷ rest)
  thread_alike (threads.Init Source) (Ref a ∷ Long x ∷ rest) w = threads_alike f g at s (threads.Init Source) (Ref a ∷ Long x ∷ rest)
  thread_alike (threads.Init Source) (Ref a ∷ Ctx x ∷ rest) w = threads_alike f g at s (threads.Init Source) (Ref a ∷ Ctx x ∷ rest)
  thread_alike (threads.Init Source) (Ref a ∷ Ref n ∷ []) w = init_alike None n a w
  thread_alike (threads.Init Source) (Ref a ∷ Ref n ∷ u ∷ rest) w = threads_alike f g at s (threads.Init Source) (Ref a ∷ Ref n ∷ u ∷ rest)
  thread_alike (threads.Init Passing) [] w = threads_alike f g at s (threads.Init Passing) []
  thread_alike (threads.Init Passing) (Int x ∷ rest) w = threads_alike f g at s (threads.Init Passing) (Int x ∷ rest)
  thread_alike (threads.Init Passing) (Long x ∷ rest) w = threads_alike f g at s (threads.Init Passing) (Long x ∷ rest)
  thread_alike (threads.Init Passing) (Ref x ∷ rest) w = threads_alike f g at s (threads.Init Passing) (Ref x ∷ rest)
  thread_alike (threads.Init Passing) (Ctx k ∷ []) w = threads_alike f g at s (threads.Init Passing) (Ctx k ∷ [])
  thread_alike (threads.Init Passing) (Ctx k ∷ Int x ∷ rest) w = threads_alike f g at s (threads.Init Passing) (Ctx k ∷ Int x ∷ rest)
  thread_alike (threads.Init Passing) (Ctx k ∷ Long x ∷ rest) w = threads_alike f g at s (threads.Init Passing) (Ctx k ∷ Long x ∷ rest)
  thread_alike (threads.Init Passing) (Ctx k ∷ Ctx x ∷ rest) w = threads_alike f g at s (threads.Init Passing) (Ctx k ∷ Ctx x ∷ rest)
  thread_alike (threads.Init Passing) (Ctx k ∷ Ref a ∷ []) w = threads_alike f g at s (threads.Init Passing) (Ctx k ∷ Ref a ∷ [])
  thread_alike (threads.Init Passing) (Ctx k ∷ Ref a ∷ Int x ∷ rest) w = threads_alike f g at s (threads.Init Passing) (Ctx k ∷ Ref a ∷ Int x ∷ rest)
  thread_alike (threads.Init Passing) (Ctx k ∷ Ref a ∷ Long x ∷ rest) w = threads_alike f g at s (threads.Init Passing) (Ctx k ∷ Ref a ∷ Long x ∷ rest)
  thread_alike (threads.Init Passing) (Ctx k ∷ Ref a ∷ Ctx x ∷ rest) w = threads_alike f g at s (threads.Init Passing) (Ctx k ∷ Ref a ∷ Ctx x ∷ rest)
  thread_alike (threads.Init Passing) (Ctx k ∷ Ref a ∷ Ref n ∷ []) w = init_alike (Some k) n a w
  thread_alike (threads.Init Passing) (Ctx k ∷ Ref a ∷ Ref n ∷ u ∷ rest) w = threads_alike f g at s (threads.Init Passing) (Ctx k ∷ Ref a ∷ Ref n ∷ u ∷ rest)

  pub rt_alike : (call : RtCall) (values : List (Value K)) → Where (rt_asks r.side at s call values)
      → option_map (row_map f g) (rt_row r at s es inherited call values) ≡ rt_row q at t fs kept call (values_map f values)
  unfolding rt_row rt_asks
  rt_alike rt.Enter [] w = refl
  rt_alike rt.Enter (Long x ∷ rest) w = refl
  rt_alike rt.Enter (Ref x ∷ rest) w = refl
  rt_alike rt.Enter (Ctx x ∷ rest) w = refl
  rt_alike rt.Enter (Int d ∷ []) w = refl
  rt_alike rt.Enter (Int d ∷ Int x ∷ rest) w = refl
  rt_alike rt.Enter (Int d ∷ Long x ∷ rest) w = refl
  rt_alike rt.Enter (Int d ∷ Ref x ∷ rest) w = refl
  rt_alike rt.Enter (Int d ∷ Ctx k ∷ []) w = ap (λ (c : L). Some (gives {E = F} t (Ctx c ∷ []))) (same_entered {E = F} (f (r.enter k (cast_unsigned w32 d))) (q.enter (f k) (cast_unsigned w32 d)) w)
  rt_alike rt.Enter (Int d ∷ Ctx k ∷ u ∷ rest) w = refl
  rt_alike rt.Check [] w = refl
  rt_alike rt.Check (Int x ∷ rest) w = refl
  rt_alike rt.Check (Long x ∷ rest) w = refl
  rt_alike rt.Check (Ref x ∷ rest) w = refl
  rt_alike rt.Check (Ctx k ∷ []) w = refl
  rt_alike rt.Check (Ctx k ∷ v ∷ []) w = check_alike (Some k) v w
  rt_alike rt.Check (Ctx k ∷ v ∷ u ∷ rest) w = refl
  rt_alike rt.Snapshot [] w = refl
  rt_alike rt.Snapshot (Int x ∷ rest) w = refl
  rt_alike rt.Snapshot (Long x ∷ rest) w = refl
  rt_alike rt.Snapshot (Ref x ∷ rest) w = refl
  rt_alike rt.Snapshot (Ctx k ∷ []) w = snapshot_alike (Some k) w
  rt_alike rt.Snapshot (Ctx k ∷ u ∷ rest) w = refl
  rt_alike rt.Privileged [] w = refl
  rt_alike rt.Privileged (Long x ∷ rest) w = refl
  rt_alike rt.Privileged (Ref x ∷ rest) w = refl
  rt_alike rt.Privileged (Ctx x ∷ rest) w = refl
  rt_alike rt.Privileged (Int d ∷ []) w = refl
  rt_alike rt.PrivilegedWith [] w = refl
  rt_alike rt.PrivilegedWith (Long x ∷ rest) w = refl
  rt_alike rt.PrivilegedWith (Ref x ∷ rest) w = refl
  rt_alike rt.PrivilegedWith (Ctx x ∷ rest) w = refl
  rt_alike rt.PrivilegedWith (Int d ∷ []) w = refl
  rt_alike rt.PrivilegedLimited [] w = refl
  rt_alike rt.PrivilegedLimited (Long x ∷ rest) w = refl
  rt_alike rt.PrivilegedLimited (Ref x ∷ rest) w = refl
  rt_alike rt.PrivilegedLimited (Ctx x ∷ rest) w = refl
  rt_alike rt.PrivilegedLimited (Int d ∷ []) w = refl
  rt_alike rt.Privileged (Int d ∷ v ∷ []) w = privilege_alike (domain_of d) None None v None w
  rt_alike rt.Privileged (Int d ∷ v ∷ u ∷ rest) w = refl
  rt_alike rt.PrivilegedWith (Int d ∷ c ∷ []) w = refl
  rt_alike rt.PrivilegedWith (Int d ∷ c ∷ v ∷ []) w = within_alike (domain_of d) None None c v w
  rt_alike rt.PrivilegedWith (Int d ∷ c ∷ v ∷ u ∷ rest) w = refl
  rt_alike rt.PrivilegedLimited (Int d ∷ Int x ∷ rest) w = refl
  rt_alike rt.PrivilegedLimited (Int d ∷ Long x ∷ rest) w = refl
  rt_alike rt.PrivilegedLimited (Int d ∷ Ref x ∷ rest) w = refl
  rt_alike rt.PrivilegedLimited (Int d ∷ Ctx k ∷ []) w = refl
  rt_alike rt.PrivilegedLimited (Int d ∷ Ctx k ∷ a ∷ []) w = refl
  rt_alike rt.PrivilegedLimited (Int d ∷ Ctx k ∷ a ∷ c ∷ []) w = refl
  rt_alike rt.PrivilegedLimited (Int d ∷ Ctx k ∷ a ∷ c ∷ v ∷ []) w = limited_alike (domain_of d) (Some k) a c v w
  rt_alike rt.PrivilegedLimited (Int d ∷ Ctx k ∷ a ∷ c ∷ v ∷ u ∷ rest) w = refl
