-- What a step asks doesn't depend on what is kept.
use Rattle.std.proofs.Common.{◌≡◌, ◌∙◌, ℕ, Bool, List, [], ◌∷◌, length, Option, Some, None, option_map, refl, sym, ap}
use Rattle.std.specs.Prelude.{nat_le, option_and_then}
use Rattle.std.proofs.lemmas.List.{length-map}
use Rattle.jperm.specs.declared.permission.Permission as perms
use Rattle.jvalues.specs.declared.jops.value.Value.{Value}
use Rattle.jvalues.specs.declared.jops.value.Value.TheVariants.{Int, Long, Ref, Ctx}
use Rattle.jlib.specs.declared.side.Side.{Side}
use Rattle.jlib.specs.declared.side.Side.TheVariants.{Source, Passing}
use Rattle.jlib.specs.declared.calls.ControllerCall.{ControllerCall}
use Rattle.jlib.specs.declared.calls.ControllerCall.TheVariants as controller
use Rattle.jlib.specs.declared.calls.LibCall.{LibCall}
use Rattle.jlib.specs.declared.calls.LibCall.TheVariants as calls
use Rattle.jlib.specs.declared.calls.RtCall.{RtCall}
use Rattle.jlib.specs.declared.calls.RtCall.TheVariants as rt
use Rattle.jlib.specs.declared.calls.ThreadCall.{ThreadCall}
use Rattle.jlib.specs.declared.calls.ThreadCall.TheVariants as threads
use Rattle.jresolution.specs.jprogram.ProgramClasses.{Program}
use Rattle.jresolution.specs.declared.juses.meaning.InvokeKind.{InvokeKind}
use Rattle.jresolution.specs.declared.juses.meaning.InvokeKind.TheVariants as how
use Rattle.jresolution.specs.juses.IndexedInstructions.{Instruction, Simple, Local, Stack, Jump, Switch, Return, Throw, Array as ArrayOf, Used}
use Rattle.jresolution.specs.juses.InstructionMeanings as meanings
use Rattle.jresolution.specs.juses.InstructionMeanings.{CallMeaning}
use Rattle.jtyping.specs.jrule.PoolEffects.{of_call}
use Rattle.jsemantics.specs.declared.jmachine.plan.Plan.{Plan}
use Rattle.jsemantics.specs.jmachine.MachineStates.{FrameOf, State}
use Rattle.jsemantics.specs.jmachine.AccessQueries.{Ask, Checks, ChecksKept, Privileges, action_of, ask_map, asked_by, asked_on, asks, call_asks, call_taken, called_asks, checks, checks_kept, context_asks, controller_asks, inherits, instruction_asks, privileges, privileges_by, privileges_limited, privileges_within, rt_asks, run_asks, thread_asks, used_asks, where_run}
use Rattle.jsemantics.specs.jmachine.AccessCallRows.{domain_of}
use Rattle.jsemantics.specs.jmachine.CallTargets.{Target, Fails, Pushes, Runs, by_interface, target}
use Rattle.jsemantics.specs.jmachine.StateMaps.{frame_map, frames_map, object_map, state_map, store_map, taken_map, value_map, values_map}
use Rattle.jsemantics.specs.jmachine.NaturalityLaws.{AsksAlike}
use Rattle.jsemantics.specs.jmachine.HeapObjects.{Object, Instance, Thrown, Text, Builder, Piece, Permission, Context, Thread, Bare, Array}
use Rattle.jsemantics.specs.jmachine.TakenOperands.{Taken}
use Rattle.jsemantics.specs.jmachine.PrivilegeActions.{given, limits, run_action}
use Rattle.jsemantics.specs.jmachine.Security.{kept_in, permission_in}
use Rattle.jsemantics.specs.jmachine.InstructionSites.{Site}
use Rattle.jsemantics.specs.jmachine.MachineSteps.{fetched, site_of}
use Rattle.jsemantics.specs.jmachine.Store.{Store, object_at, object_of}
use Rattle.jsemantics.specs.jmachine.ThreadTurns.{thread_of}
use Rattle.jsemantics.specs.jmachine.World.{world}
use Rattle.jsemantics.proofs.JmachineProofs.RowApplication as applying
use Rattle.jsemantics.proofs.JmachineProofs.CallRows.{init_alike, interface_alike, target_alike}
use Rattle.jsemantics.proofs.JmachineProofs.AskArguments.{given_alike, kept_alike, limits_alike, permission_alike}
use Rattle.jsemantics.proofs.JmachineProofs.Stores.{named_alike, object_alike}
use Rattle.jsemantics.proofs.JmachineProofs.Takes.{taken_alike}

module _ {K L : Type 0} (f : K → L) (side : Side) (at : Site) (s : Store K) where
  abbrev t : Store L
  t = store_map f s

  abbrev A : Option (Ask K) → Option (Ask L)
  A asked = option_map (ask_map f) asked

  -- ---- checks

  each_alike : (ask : perms.Permission → Ask K) (ask' : perms.Permission → Ask L) → ((asked : perms.Permission) → ask_map f (ask asked) ≡ ask' asked)
      → (o : Option perms.Permission) → A (option_map ask o) ≡ option_map ask' o
  each_alike ask ask' e None = refl
  each_alike ask ask' e (Some asked) = ap Some (e asked)

  held_alike : (v : Value K) → permission_in (object_of s v) ≡ permission_in (object_of t (value_map f v))
  held_alike v = permission_alike f (object_of s v) ∙ ap permission_in (sym (named_alike f s v))

  checks_alike : (ask : perms.Permission → Ask K) (ask' : perms.Permission → Ask L) → ((asked : perms.Permission) → ask_map f (ask asked) ≡ ask' asked)
      → (v : Value K) → A (checks side at s ask v) ≡ checks side at t ask' (value_map f v)
  checks_alike ask ask' e v = each_alike ask ask' e (permission_in (object_of s v)) ∙ ap (option_map ask') (held_alike v)

  kept_checks : (v : Value K) (o : Option K) → A (checks_kept side at s v o) ≡ checks_kept side at t (value_map f v) (option_map f o)
  kept_checks v None = refl
  kept_checks v (Some k) = checks_alike (λ asked. ChecksKept asked k) (λ asked. ChecksKept asked (f k)) (λ asked. refl) v

  -- ---- threads

  inherits_alike : (ctx : Option K) (o : Option (Object K)) → A (inherits side at s ctx o) ≡ inherits side at t (option_map f ctx) (option_map (object_map f) o)
  inherits_alike ctx None = refl
  inherits_alike ctx (Some (Instance class message fields)) = refl
  inherits_alike ctx (Some (Thrown c message)) = refl
  inherits_alike ctx (Some (Text units)) = refl
  inherits_alike ctx (Some (Builder units)) = refl
  inherits_alike ctx (Some (Piece units)) = refl
  inherits_alike ctx (Some (Permission c held)) = refl
  inherits_alike ctx (Some (Context kept)) = refl
  inherits_alike ctx (Some (Thread number)) = refl
  inherits_alike ctx (Some (Bare c)) = refl
  inherits_alike ctx (Some (Array a items)) = refl

  init_asks : (ctx : Option K) (n : ℕ) → A (inherits side at s ctx (object_at s n)) ≡ inherits side at t (option_map f ctx) (object_at t n)
  init_asks ctx n = inherits_alike ctx (object_at s n) ∙ ap (inherits side at t (option_map f ctx)) (sym (object_alike f s n))

  -- ---- privileges

  where_alike : (ask : Ask K) (o : Option Target) → A (where_run side at s ask o) ≡ where_run side at t (ask_map f ask) o
  where_alike ask None = refl
  where_alike ask (Some (Fails class)) = refl
  where_alike ask (Some (Pushes m)) = refl
  where_alike ask (Some (Runs call)) = refl

  found_alike : (o : Option (Object K)) → option_map (by_interface at.world at.full (run_action side)) o ≡ option_map (by_interface at.world at.full (run_action side)) (option_map (object_map f) o)
  found_alike None = refl
  found_alike (Some x) = ap Some (interface_alike f at.world at.full (run_action side) x)

  action_alike : (v : Value K) → action_of side at s v ≡ action_of side at t (value_map f v)
  action_alike v = found_alike (object_of s v) ∙ ap (λ (o : Option (Object L)). option_map (by_interface at.world at.full (run_action side)) o) (sym (named_alike f s v))

  privileges_alike : (domain : Option ℕ) (ctx : Option K) (limited : Option (List perms.Permission)) (v : Value K) (context : Option K)
      → A (privileges side at s domain ctx limited v context) ≡ privileges side at t domain (option_map f ctx) limited (value_map f v) (option_map f context)
  privileges_alike domain ctx limited v context =
      where_alike (Privileges domain ctx context limited) (action_of side at s v)
      ∙ ap (where_run side at t (Privileges domain (option_map f ctx) (option_map f context) limited)) (action_alike v)

  by_given : (a : Option K → Option (Ask K)) (b : Option L → Option (Ask L)) → ((x : Option K) → A (a x) ≡ b (option_map f x)) → (o : Option (Option K))
      → A (option_and_then a o) ≡ option_and_then b (option_map (option_map f) o)
  by_given a b e None = refl
  by_given a b e (Some x) = e x

  within_alike : (domain : Option ℕ) (ctx : Option K) (limited : Option (List perms.Permission)) (context v : Value K)
      → A (privileges_within side at s domain ctx limited context v) ≡ privileges_within side at t domain (option_map f ctx) limited (value_map f context) (value_map f v)
  within_alike domain ctx limited context v =
      by_given (privileges side at s domain ctx limited v) (privileges side at t domain (option_map f ctx) limited (value_map f v)) (privileges_alike domain ctx limited v) (given s context)
      ∙ ap (option_and_then (privileges side at t domain (option_map f ctx) limited (value_map f v))) (given_alike f s context)

  limited_by_alike : (domain : Option ℕ) (ctx : Option K) (context v : Value K) (o : Option (List perms.Permission))
      → A (privileges_by side at s domain ctx context v o) ≡ privileges_by side at t domain (option_map f ctx) (value_map f context) (value_map f v) o
  limited_by_alike domain ctx context v None = refl
  limited_by_alike domain ctx context v (Some ps) = within_alike domain ctx (Some ps) context v

  by_limits : (domain : Option ℕ) (ctx : Option K) (context v : Value K) (o : Option (Option (List perms.Permission)))
      → A (option_and_then (privileges_by side at s domain ctx context v) o) ≡ option_and_then (privileges_by side at t domain (option_map f ctx) (value_map f context) (value_map f v)) o
  by_limits domain ctx context v None = refl
  by_limits domain ctx context v (Some o) = limited_by_alike domain ctx context v o

  limited_alike : (domain : Option ℕ) (ctx : Option K) (array context v : Value K)
      → A (privileges_limited side at s domain ctx array context v) ≡ privileges_limited side at t domain (option_map f ctx) (value_map f array) (value_map f context) (value_map f v)
  limited_alike domain ctx array context v =
      by_limits domain ctx context v (limits s array)
      ∙ ap (option_and_then (privileges_by side at t domain (option_map f ctx) (value_map f context) (value_map f v))) (limits_alike f s array)

  -- ---- calls of the library

  controller_alike : (call : ControllerCall) (values : List (Value K)) → A (controller_asks side at s call values) ≡ controller_asks side at t call (values_map f values)
  unfolding controller_asks
  controller_alike controller.Check [] = refl
  controller_alike controller.Check (v ∷ []) = checks_alike (λ asked. Checks asked None) (λ asked. Checks asked None) (λ asked. refl) v
  controller_alike controller.Check (v ∷ u ∷ rest) = refl
  controller_alike controller.Snapshot [] = refl
  controller_alike controller.Snapshot (v ∷ rest) = refl
  controller_alike controller.Privileged [] = refl
  controller_alike controller.Privileged (v ∷ []) = privileges_alike None None None v None
  controller_alike controller.Privileged (v ∷ u ∷ rest) = refl
  controller_alike controller.PrivilegedWith [] = refl
  controller_alike controller.PrivilegedWith (c ∷ []) = refl
  controller_alike controller.PrivilegedWith (c ∷ v ∷ []) = within_alike None None None c v
  controller_alike controller.PrivilegedWith (c ∷ v ∷ u ∷ rest) = refl
  controller_alike controller.PrivilegedLimited [] = refl
  controller_alike controller.PrivilegedLimited (a ∷ []) = refl
  controller_alike controller.PrivilegedLimited (a ∷ c ∷ []) = refl
  controller_alike controller.PrivilegedLimited (a ∷ c ∷ v ∷ []) = limited_alike None None a c v
  controller_alike controller.PrivilegedLimited (a ∷ c ∷ v ∷ u ∷ rest) = refl

  context_alike : (values : List (Value K)) → A (context_asks side at s values) ≡ context_asks side at t (values_map f values)
  unfolding context_asks
  context_alike [] = refl
  context_alike (v ∷ []) = refl
  context_alike (v ∷ Int x ∷ rest) = refl
  context_alike (v ∷ Long x ∷ rest) = refl
  context_alike (v ∷ Ctx x ∷ rest) = refl
  context_alike (v ∷ Ref n ∷ []) = kept_checks v (kept_in (object_at s n)) ∙ ap (checks_kept side at t (value_map f v)) (kept_alike f (object_at s n) ∙ ap kept_in (sym (object_alike f s n)))
  context_alike (v ∷ Ref n ∷ u ∷ rest) = refl

  thread_alike : (call : ThreadCall) (values : List (Value K)) → A (thread_asks side at s call values) ≡ thread_asks side at t call (values_map f values)
  unfolding thread_asks
  thread_alike threads.Start values = refl
  thread_alike threads.Join values = refl
  thread_alike threads.Yield values = refl
  thread_alike (threads.Init Source) [] = refl
  thread_alike (threads.Init Source) (Int x ∷ rest) = refl
  thread_alike (threads.Init Source) (Long x ∷ rest) = refl
  thread_alike (threads.Init Source) (Ctx x ∷ rest) = refl
  thread_alike (threads.Init Source) (Ref a ∷ []) = refl
  thread_alike (threads.Init Source) (Ref a ∷ Int x ∷ rest) = refl
  thread_alike (threads.Init Source) (Ref a ∷ Long x ∷ rest) = refl
  thread_alike (threads.Init Source) (Ref a ∷ Ctx x ∷ rest) = refl
  thread_alike (threads.Init Source) (Ref a ∷ Ref n ∷ []) = init_asks None n
  thread_alike (threads.Init Source) (Ref a ∷ Ref n ∷ u ∷ rest) = refl
  thread_alike (threads.Init Passing) [] = refl
  thread_alike (threads.Init Passing) (Int x ∷ rest) = refl
  thread_alike (threads.Init Passing) (Long x ∷ rest) = refl
  thread_alike (threads.Init Passing) (Ref x ∷ rest) = refl
  thread_alike (threads.Init Passing) (Ctx k ∷ []) = refl
  thread_alike (threads.Init Passing) (Ctx k ∷ Int x ∷ rest) = refl
  thread_alike (threads.Init Passing) (Ctx k ∷ Long x ∷ rest) = refl
  thread_alike (threads.Init Passing) (Ctx k ∷ Ctx x ∷ rest) = refl
  thread_alike (threads.Init Passing) (Ctx k ∷ Ref a ∷ []) = refl
  thread_alike (threads.Init Passing) (Ctx k ∷ Ref a ∷ Int x ∷ rest) = refl
  thread_alike (threads.Init Passing) (Ctx k ∷ Ref a ∷ Long x ∷ rest) = refl
  thread_alike (threads.Init Passing) (Ctx k ∷ Ref a ∷ Ctx x ∷ rest) = refl
  thread_alike (threads.Init Passing) (Ctx k ∷ Ref a ∷ Ref n ∷ []) = init_asks (Some k) n
  thread_alike (threads.Init Passing) (Ctx k ∷ Ref a ∷ Ref n ∷ u ∷ rest) = refl

  rt_alike : (call : RtCall) (values : List (Value K)) → A (rt_asks side at s call values) ≡ rt_asks side at t call (values_map f values)
  unfolding rt_asks
  rt_alike rt.Enter [] = refl
  rt_alike rt.Enter (Long x ∷ rest) = refl
  rt_alike rt.Enter (Ref x ∷ rest) = refl
  rt_alike rt.Enter (Ctx x ∷ rest) = refl
  rt_alike rt.Enter (Int d ∷ []) = refl
  rt_alike rt.Enter (Int d ∷ Int x ∷ rest) = refl
  rt_alike rt.Enter (Int d ∷ Long x ∷ rest) = refl
  rt_alike rt.Enter (Int d ∷ Ref x ∷ rest) = refl
  rt_alike rt.Enter (Int d ∷ Ctx k ∷ []) = refl
  rt_alike rt.Enter (Int d ∷ Ctx k ∷ u ∷ rest) = refl
  rt_alike rt.Check [] = refl
  rt_alike rt.Check (Int x ∷ rest) = refl
  rt_alike rt.Check (Long x ∷ rest) = refl
  rt_alike rt.Check (Ref x ∷ rest) = refl
  rt_alike rt.Check (Ctx k ∷ []) = refl
  rt_alike rt.Check (Ctx k ∷ v ∷ []) = checks_alike (λ asked. Checks asked (Some k)) (λ asked. Checks asked (Some (f k))) (λ asked. refl) v
  rt_alike rt.Check (Ctx k ∷ v ∷ u ∷ rest) = refl
  rt_alike rt.Snapshot [] = refl
  rt_alike rt.Snapshot (Int x ∷ rest) = refl
  rt_alike rt.Snapshot (Long x ∷ rest) = refl
  rt_alike rt.Snapshot (Ref x ∷ rest) = refl
  rt_alike rt.Snapshot (Ctx k ∷ []) = refl
  rt_alike rt.Snapshot (Ctx k ∷ u ∷ rest) = refl
  rt_alike rt.Privileged [] = refl
  rt_alike rt.Privileged (Long x ∷ rest) = refl
  rt_alike rt.Privileged (Ref x ∷ rest) = refl
  rt_alike rt.Privileged (Ctx x ∷ rest) = refl
  rt_alike rt.Privileged (Int d ∷ []) = refl
  rt_alike rt.PrivilegedWith [] = refl
  rt_alike rt.PrivilegedWith (Long x ∷ rest) = refl
  rt_alike rt.PrivilegedWith (Ref x ∷ rest) = refl
  rt_alike rt.PrivilegedWith (Ctx x ∷ rest) = refl
  rt_alike rt.PrivilegedWith (Int d ∷ []) = refl
  rt_alike rt.PrivilegedLimited [] = refl
  rt_alike rt.PrivilegedLimited (Long x ∷ rest) = refl
  rt_alike rt.PrivilegedLimited (Ref x ∷ rest) = refl
  rt_alike rt.PrivilegedLimited (Ctx x ∷ rest) = refl
  rt_alike rt.PrivilegedLimited (Int d ∷ []) = refl
  rt_alike rt.Privileged (Int d ∷ v ∷ []) = privileges_alike (domain_of d) None None v None
  rt_alike rt.Privileged (Int d ∷ v ∷ u ∷ rest) = refl
  rt_alike rt.PrivilegedWith (Int d ∷ c ∷ []) = refl
  rt_alike rt.PrivilegedWith (Int d ∷ c ∷ v ∷ []) = within_alike (domain_of d) None None c v
  rt_alike rt.PrivilegedWith (Int d ∷ c ∷ v ∷ u ∷ rest) = refl
  rt_alike rt.PrivilegedLimited (Int d ∷ Int x ∷ rest) = refl
  rt_alike rt.PrivilegedLimited (Int d ∷ Long x ∷ rest) = refl
  rt_alike rt.PrivilegedLimited (Int d ∷ Ref x ∷ rest) = refl
  rt_alike rt.PrivilegedLimited (Int d ∷ Ctx k ∷ []) = refl
  rt_alike rt.PrivilegedLimited (Int d ∷ Ctx k ∷ a ∷ []) = refl
  rt_alike rt.PrivilegedLimited (Int d ∷ Ctx k ∷ a ∷ c ∷ []) = refl
  rt_alike rt.PrivilegedLimited (Int d ∷ Ctx k ∷ a ∷ c ∷ v ∷ []) = limited_alike (domain_of d) (Some k) a c v
  rt_alike rt.PrivilegedLimited (Int d ∷ Ctx k ∷ a ∷ c ∷ v ∷ u ∷ rest) = refl

  run_alike : (call : LibCall) (values : List (Value K)) → A (run_asks side at s call values) ≡ run_asks side at t call (values_map f values)
  run_alike (calls.Controller one) values = controller_alike one values
  run_alike (calls.Rt one) values = rt_alike one values
  run_alike (calls.Thread one) values = thread_alike one values
  run_alike calls.ContextCheck values = context_alike values
  run_alike calls.ObjectInit values = refl
  run_alike (calls.ThrownInit class way) values = refl
  run_alike calls.AccessControlInit values = refl
  run_alike calls.GetMessage values = refl
  run_alike (calls.String one) values = refl
  run_alike (calls.Builder one) values = refl
  run_alike calls.Out values = refl
  run_alike calls.PrintEnd values = refl
  run_alike (calls.Print piece) values = refl
  run_alike (calls.Run of) values = refl
  run_alike (calls.RunAction of) values = refl
  run_alike (calls.PermissionInit one) values = refl

  -- ---- instructions

  called_alike : (values : List (Value K)) (o : Target) → A (called_asks side at s values o) ≡ called_asks side at t (values_map f values) o
  called_alike values (Fails class) = refl
  called_alike values (Pushes m) = refl
  called_alike values (Runs call) = run_alike call values

  came_alike : (values : List (Value K)) (o : Option Target) → A (option_and_then (called_asks side at s values) o) ≡ option_and_then (called_asks side at t (values_map f values)) o
  came_alike values None = refl
  came_alike values (Some o) = called_alike values o

  call_alike : (by : InvokeKind) (c : CallMeaning) (values : List (Value K)) → A (call_asks side at s by c values) ≡ call_asks side at t by c (values_map f values)
  call_alike by c values = came_alike values (target at s by c values) ∙ ap (option_and_then (called_asks side at t (values_map f values))) (target_alike f at s by c values)

  took_alike : (by : InvokeKind) (c : CallMeaning) (o : Option (Taken K)) → A (option_and_then (λ u. call_asks side at s by c u.values) o) ≡ option_and_then (λ u. call_asks side at t by c u.values) (option_map (taken_map f) o)
  took_alike by c None = refl
  took_alike by c (Some u) = call_alike by c u.values

  takes_alike : (by : InvokeKind) (c : CallMeaning) (operands : List (Value K)) → option_map (taken_map f) (call_taken side at s by c operands) ≡ call_taken side at t by c (values_map f operands)
  takes_alike how.Init c operands = init_alike f at.world s c operands
  takes_alike how.Virtual c operands = taken_alike f at.world s (of_call (at.world.named at.class) how.Virtual c).takes operands
  takes_alike how.Special c operands = taken_alike f at.world s (of_call (at.world.named at.class) how.Special c).takes operands
  takes_alike how.Static c operands = taken_alike f at.world s (of_call (at.world.named at.class) how.Static c).takes operands
  takes_alike how.Interface c operands = taken_alike f at.world s (of_call (at.world.named at.class) how.Interface c).takes operands

  used_alike : (by : InvokeKind) (c : CallMeaning) (operands : List (Value K)) → A (used_asks side at s by c operands) ≡ used_asks side at t by c (values_map f operands)
  unfolding used_asks
  used_alike by c operands =
      took_alike by c (call_taken side at s by c operands)
      ∙ ap (λ (o : Option (Taken L)). option_and_then (λ u. call_asks side at t by c u.values) o) (takes_alike by c operands)

  instruction_alike : (i : Instruction) (operands : List (Value K)) → A (instruction_asks side at s i operands) ≡ instruction_asks side at t i (values_map f operands)
  instruction_alike (Simple form) operands = refl
  instruction_alike (Local form) operands = refl
  instruction_alike (Stack op) operands = refl
  instruction_alike (Jump test to) operands = refl
  instruction_alike (Switch cases other) operands = refl
  instruction_alike (Return kind) operands = refl
  instruction_alike Throw operands = refl
  instruction_alike (ArrayOf form) operands = refl
  instruction_alike (Used (meanings.Push c)) operands = refl
  instruction_alike (Used (meanings.Field op m)) operands = refl
  instruction_alike (Used (meanings.Call by c)) operands = used_alike by c operands
  instruction_alike (Used (meanings.Make c)) operands = refl
  instruction_alike (Used (meanings.MakeArray of)) operands = refl
  instruction_alike (Used (meanings.Cast op of)) operands = refl

-- ---- steps

module _ {K L E F : Type 0} (f : K → L) (g : E → F) (side : Side) (p : Program) (plan : Plan) (s : State K E) where
  abbrev u : State L F
  u = state_map f g s

  pub site_alike : (x : FrameOf K E) (below : List (FrameOf K E)) → site_of p plan s x below ≡ site_of p plan u (frame_map f g x) (frames_map f g below)
  site_alike x below = ap (λ n. site_with n (nat_le plan.depth (length (x ∷ below)))) (applying.thread_alike f g s) ∙ ap (λ n. site_with (thread_of u) (nat_le plan.depth n)) (sym (length-map (x ∷ below) (frame_map f g)))
    where
      site_with : ℕ → Bool → Site
      site_with n full = record { world = world p; class = x.method.class; thread = n; full = full; cwd = plan.cwd; table = s.table }

  by_alike : (x : FrameOf K E) (below : List (FrameOf K E)) (o : Option Instruction) → option_map (ask_map f) (asked_by side p plan s x below o) ≡ asked_by side p plan u (frame_map f g x) (frames_map f g below) o
  by_alike x below None = refl
  by_alike x below (Some i) =
      instruction_alike f side (site_of p plan s x below) s.store i x.operands
      ∙ ap (λ (at : Site). instruction_asks side at (store_map f s.store) i (values_map f x.operands)) (site_alike x below)

  on_alike : (frames : List (FrameOf K E)) → option_map (ask_map f) (asked_on side p plan s frames) ≡ asked_on side p plan u (frames_map f g frames)
  on_alike [] = refl
  on_alike (x ∷ below) = by_alike x below (fetched p x.method x.place)

  asks_alike : option_map (ask_map f) (asks side p plan s) ≡ asks side p plan u
  unfolding asks
  asks_alike = on_alike s.running.frames

pub asks_law : (K L E F : Type 0) → AsksAlike K L E F
asks_law K L E F f g side p plan s = asks_alike f g side p plan s
