-- Rows of calls of Thread.
use Rattle.std.proofs.Common.{◌≡◌, ℕ, zero, suc, Bool, true, false, List, [], ◌∷◌, length, Option, Some, None, option_map, refl, sym, ap, subst, ◌∙◌}
use Rattle.std.specs.Prelude.{slice_set, if◌then◌else◌}
use Rattle.jlib.specs.declared.calls.LibCall.{LibCall}
use Rattle.jlib.specs.declared.calls.LibCall.TheVariants as calls
use Rattle.jlib.specs.declared.calls.ThreadCall.{ThreadCall}
use Rattle.jlib.specs.declared.calls.ThreadCall.TheVariants as thread_calls
use Rattle.jlib.specs.declared.classes.LibClass.TheVariants as lib
use Rattle.jlib.specs.declared.classes.Thrown.TheVariants as thrown
use Rattle.jlib.specs.declared.side.Side.TheVariants.{Source, Passing}
use Rattle.jvalues.specs.declared.jops.value.Value.{Value}
use Rattle.jvalues.specs.declared.jops.value.Value.TheVariants.{Ref, Ctx}
use Rattle.jthreads.specs.ThreadTables.{is_started, join_answer, joined, lives_at, table_after_start, thread_at as entry_at}
use Rattle.jthreads.specs.declared.table.Joined.{Joined}
use Rattle.jthreads.specs.declared.table.Joined.TheVariants.{AtOnce, Waits}
use Rattle.jthreads.specs.declared.thread.Thread as threads
use Rattle.jtypes.specs.declared.vtype.VType.{VType}
use Rattle.jtypes.specs.declared.vtype.VType.TheVariants as types
use Rattle.jresolution.specs.declared.jprogram.member.Member.{Member}
use Rattle.jresolution.specs.declared.juses.meaning.InvokeKind.{InvokeKind}
use Rattle.jresolution.specs.declared.juses.meaning.InvokeKind.TheVariants as how
use Rattle.jtyping.specs.jrule.PoolEffects.{of_library}
use Rattle.jsemantics.specs.jmachine.MachineStates.{Row, Switches, Makes, free, raises}
use Rattle.jsemantics.specs.jmachine.AccessCallRows.{thread_made, thread_row}
use Rattle.jsemantics.specs.jmachine.CallTargets.{receiver}
use Rattle.jsemantics.specs.jmachine.InstructionActions.{run}
use Rattle.jsemantics.specs.jmachine.HeapObjects.{Object, Thread}
use Rattle.jsemantics.specs.jmachine.Security.{Rules}
use Rattle.jsemantics.specs.jmachine.InstructionSites.{Site}
use Rattle.jsemantics.specs.jmachine.Store.{Store, object_at, with_object}
use Rattle.jsemantics.specs.jmachine.ThreadOperations.{joined_by, number_in, started, thread, waiting}
use Rattle.jsoundness_laws.specs.typed.StoreGrowth.{Becomes}
use Rattle.jsoundness_laws.specs.typed.TypedValues.{IsA}
use Rattle.jsoundness_laws.proofs.TypedProofs.StoreMonotonicity.{grows_changed, serves_kept}
use Rattle.jsoundness_laws.specs.library.LibraryArguments.{AreGiven, IsReceiver, way_of}
use Rattle.jsoundness_laws.specs.library.YieldLaws.{CallYields}
use Rattle.jsoundness_laws.specs.library.LibraryResults.{IsReadied}
use Rattle.jsoundness_laws.proofs.LibraryProofs.StoreExtension.{changed_at, follows_changed}
use Rattle.jsoundness_laws.proofs.LibraryProofs.LibraryCallRows.{Premises, Rowed, call_yields, found_by, given_ctx, given_ref, it_gives, it_raises, thread_at, thread_begun}
use Rattle.jsoundness_laws.proofs.LibraryProofs.MemberDescriptors as signed

pub same_length : {A : Type 0} (xs : List A) (n : ℕ) (x : A) → length (slice_set xs n x) ≡ length xs
same_length [] n x = refl
same_length (y ∷ xs) zero x = refl
same_length (y ∷ xs) (suc n) x = ap suc (same_length xs n x)

module _ {K E : Type 0} (r : Rules K E) (at : Site) (own : Member → Bool) (s : Store K) (entries : List E) (inherited : Option K)
    (statics : List VType) (h : Premises r.side at.world s statics) where
  abbrev Row_ : InvokeKind → List (Value K) → Option VType → Option (Row K E) → Type 0
  Row_ by values ret found = Rowed {K = K} {E = E} r.side at s statics by values ret found

  abbrev RowOf : LibCall → Option VType → List (Value K) → Type 0
  RowOf call ret values = Row_ (way_of call) values ret (run r at own s entries inherited call values)

  abbrev On : LibCall → List VType → Option VType → Type 0
  On call params ret = (values : List (Value K)) → AreGiven at.world s call params values → RowOf call ret values

  -- the same values
  as_given : (call : LibCall) (ret : Option VType) (values given : List (Value K)) → values ≡ given → RowOf call ret given → RowOf call ret values
  as_given call ret values given e x = subst (λ values. RowOf call ret values) (sym e) x

  switch_row : (by : InvokeKind) (values : List (Value K)) (table : List threads.Thread) → length table ≡ length at.table → IsReadied by values s
      → Row_ by values None (Some (free (Switches table)))
  switch_row by values table same ready = record { row = free (Switches table); is = refl; act = (refl, same, ready) }

  -- ---- start, join and yield

  started_row : (values : List (Value K)) (t : ℕ) → Row_ how.Virtual values None (Some (started at t))
  started_row values t = go (is_started at.table t)
    where
      go : (b : Bool) → Row_ how.Virtual values None (Some (if b then raises (lib.Thrown thrown.IllegalThreadStateException) else free (Switches (table_after_start t at.table))))
      go true = it_raises r.side at s statics how.Virtual values None (lib.Thrown thrown.IllegalThreadStateException) tt
      go false = switch_row how.Virtual values (table_after_start t at.table) (same_length at.table t _) tt

  joined_length : (t : ℕ) → length (joined at.thread t at.table) ≡ length at.table
  joined_length t = go (lives_at at.table t)
    where
      go : (b : Bool) → length (if b then slice_set at.table at.thread (record (entry_at at.table at.thread) { waits_for = Some t }) else at.table) ≡ length at.table
      go true = same_length at.table at.thread _
      go false = refl

  waiting_row : (values : List (Value K)) (t : ℕ) → Row_ how.Virtual values None (Some (waiting at s t))
  waiting_row values t = go (join_answer t at.table)
    where
      go : (j : Joined) → Row_ how.Virtual values None (Some (joined_by at s t j))
      go AtOnce = it_gives r.side at s statics h how.Virtual values None [] [] tt tt
      go Waits = switch_row how.Virtual values (joined at.thread t at.table) (joined_length t) tt

  start_row : (n t : ℕ) → object_at s n ≡ Some (Thread (Some t)) → RowOf (calls.Thread thread_calls.Start) None (Ref n ∷ [])
  unfolding thread_row thread
  start_row n t is =
      let found = ap (λ (o : Option (Object K)). option_map (started {E = E} at) (number_in o)) is in
      found_by r.side at s statics how.Virtual (Ref n ∷ []) None _ _ found (started_row (Ref n ∷ []) t)

  join_row : (n t : ℕ) → object_at s n ≡ Some (Thread (Some t)) → RowOf (calls.Thread thread_calls.Join) None (Ref n ∷ [])
  unfolding thread_row thread
  join_row n t is =
      let found = ap (λ (o : Option (Object K)). option_map (waiting {E = E} at s) (number_in o)) is in
      found_by r.side at s statics how.Virtual (Ref n ∷ []) None _ _ found (waiting_row (Ref n ∷ []) t)

  yield_row : RowOf (calls.Thread thread_calls.Yield) None []
  unfolding thread_row thread
  yield_row = switch_row how.Static [] at.table refl tt

  start_on : On (calls.Thread thread_calls.Start) [] None
  start_on values g =
      let t = thread_at r.side at.world s statics h g.0 g.2 g.3 in
      as_given (calls.Thread thread_calls.Start) None values (Ref g.0 ∷ []) g.1 (start_row g.0 t.0 t.1)

  join_on : On (calls.Thread thread_calls.Join) [] None
  join_on values g =
      let t = thread_at r.side at.world s statics h g.0 g.2 g.3 in
      as_given (calls.Thread thread_calls.Join) None values (Ref g.0 ∷ []) g.1 (join_row g.0 t.0 t.1)

  yield_on : On (calls.Thread thread_calls.Yield) [] None
  yield_on values g = as_given (calls.Thread thread_calls.Yield) None values [] g yield_row

  -- ---- the constructor

  made_row : (values : List (Value K)) (runnable n : ℕ) (t : Option ℕ) (kept : K) → receiver values ≡ Some (Ref n) → IsA at.world s (of_library lib.Runnable) (Ref runnable)
      → object_at s n ≡ Some (Thread t) → Row_ how.Init values None (thread_made at s n runnable kept (object_at s n))
  made_row values runnable n t kept last run_it is =
      let y = Thread (Some (length at.table)) in
      let becomes : Becomes at.world (Thread t) y = record { class = refl; whole = λ x. refl; piece = refl } in record {
        row = free (Makes (with_object s n y) runnable kept);
        is = ap (λ (o : Option (Object K)). thread_made {E = E} at s n runnable kept o) is;
        act = (
          refl,
          follows_changed at.world statics s n (Thread t) y h.stored is becomes tt tt,
          serves_kept at.world s (with_object s n y) (grows_changed K at.world s n (Thread t) y is becomes) _ (Ref runnable) run_it,
          (n, last, (y, changed_at at.world statics s n (Thread t) y is, refl)),
        );
      }

  source_row : (runnable n : ℕ) (t : Option ℕ) → IsA at.world s (of_library lib.Runnable) (Ref runnable) → object_at s n ≡ Some (Thread t)
      → RowOf (calls.Thread (thread_calls.Init Source)) None (Ref runnable ∷ Ref n ∷ [])
  unfolding thread_row receiver
  source_row runnable n t run_it is = made_row (Ref runnable ∷ Ref n ∷ []) runnable n t (r.inherit None entries inherited) refl run_it is

  passing_row : (k : K) (runnable n : ℕ) (t : Option ℕ) → IsA at.world s (of_library lib.Runnable) (Ref runnable) → object_at s n ≡ Some (Thread t)
      → RowOf (calls.Thread (thread_calls.Init Passing)) None (Ctx k ∷ Ref runnable ∷ Ref n ∷ [])
  unfolding thread_row receiver
  passing_row k runnable n t run_it is = made_row (Ctx k ∷ Ref runnable ∷ Ref n ∷ []) runnable n t (r.inherit (Some k) entries inherited) refl run_it is

  source_on : On (calls.Thread (thread_calls.Init Source)) (of_library lib.Runnable ∷ []) None
  source_on values g =
      let o = given_ref at.world s (IsReceiver at.world s how.Init lib.Thread) [] _ values g in
      let t = thread_begun r.side at.world s statics h o.4.0 o.4.2 in
      as_given (calls.Thread (thread_calls.Init Source)) None values (Ref o.0 ∷ Ref o.4.0 ∷ []) (o.2 ∙ ap (λ more. Ref o.0 ∷ more) o.4.1) (source_row o.0 o.4.0 t.0 o.3 t.1)

  passing_on : On (calls.Thread (thread_calls.Init Passing)) (types.Ctx ∷ of_library lib.Runnable ∷ []) None
  passing_on values g =
      let c = given_ctx at.world s (IsReceiver at.world s how.Init lib.Thread) (of_library lib.Runnable ∷ []) values g in
      let o = given_ref at.world s (IsReceiver at.world s how.Init lib.Thread) [] _ c.1 c.3 in
      let t = thread_begun r.side at.world s statics h o.4.0 o.4.2 in
      as_given (calls.Thread (thread_calls.Init Passing)) None values (Ctx c.0 ∷ Ref o.0 ∷ Ref o.4.0 ∷ [])
      (c.2 ∙ ap (λ more. Ctx c.0 ∷ more) (o.2 ∙ ap (λ more. Ref o.0 ∷ more) o.4.1))
      (passing_row c.0 o.0 o.4.0 t.0 o.3 t.1)

-- ---- the calls

module _ (K E : Type 0) where
  pub thread_yields : (call : ThreadCall) → CallYields K E (calls.Thread call)
  thread_yields (thread_calls.Init Source) = call_yields K E (calls.Thread (thread_calls.Init Source)) (of_library lib.Runnable ∷ []) None
      (λ p good ps t e. signed.runnable_says p good)
      (λ r at own s entries inherited p statics values good is side sided h g. source_on r at own s entries inherited statics h values g)
  thread_yields (thread_calls.Init Passing) = call_yields K E (calls.Thread (thread_calls.Init Passing)) (types.Ctx ∷ of_library lib.Runnable ∷ []) None
      (λ p good ps t e. signed.passed_says p good (signed.passed_on p good ps t e))
      (λ r at own s entries inherited p statics values good is side sided h g. passing_on r at own s entries inherited statics h values g)
  thread_yields thread_calls.Start = call_yields K E (calls.Thread thread_calls.Start) [] None (λ p good ps t e. signed.nothing_says p good)
      (λ r at own s entries inherited p statics values good is side sided h g. start_on r at own s entries inherited statics h values g)
  thread_yields thread_calls.Join = call_yields K E (calls.Thread thread_calls.Join) [] None (λ p good ps t e. signed.nothing_says p good)
      (λ r at own s entries inherited p statics values good is side sided h g. join_on r at own s entries inherited statics h values g)
  thread_yields thread_calls.Yield = call_yields K E (calls.Thread thread_calls.Yield) [] None (λ p good ps t e. signed.nothing_says p good)
      (λ r at own s entries inherited p statics values good is side sided h g. yield_on r at own s entries inherited statics h values g)
