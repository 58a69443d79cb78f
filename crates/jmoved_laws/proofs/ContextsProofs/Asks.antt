-- What a step asks: where it tells a domain, it tells one of the program's classes.
use Rattle.std.proofs.Common.{◌≡◌, ℕ, ℤ, zero, suc, pos, Bool, true, false, List, [], ◌∷◌, ◌++◌, length, map, Option, Some, None, option_map, refl, sym, ap, subst, append_assoc, ◌∙◌}
use Rattle.std.specs.Prelude.{◌==◌, ◌||◌, IfSome, nat_le, option_and_then, slice_get, if◌then◌else◌}
use Rattle.std.specs.Int.{w32, cast_unsigned}
use Rattle.std.specs.List.{list_any}
use Rattle.std.proofs.lemmas.Bool.{eq-eqb}
use Rattle.jperm.specs.declared.permission.Permission as perms
use Rattle.jclass.specs.declared.class.ClassParts.{ClassParts}
use Rattle.jlib.specs.declared.calls.ControllerCall.{ControllerCall}
use Rattle.jlib.specs.declared.calls.ControllerCall.TheVariants as controller
use Rattle.jlib.specs.declared.calls.LibCall.{LibCall}
use Rattle.jlib.specs.declared.calls.LibCall.TheVariants as calls
use Rattle.jlib.specs.declared.calls.RtCall.{RtCall}
use Rattle.jlib.specs.declared.calls.RtCall.TheVariants as rt
use Rattle.jlib.specs.declared.calls.ThreadCall.{ThreadCall}
use Rattle.jlib.specs.declared.calls.ThreadCall.TheVariants as threads
use Rattle.jlib.specs.declared.side.Side.{Side}
use Rattle.jlib.specs.declared.side.Side.TheVariants.{Source, Passing}
use Rattle.jlib.specs.LibraryMembers as library
use Rattle.jvalues.specs.declared.jops.value.Value.{Value}
use Rattle.jvalues.specs.declared.jops.value.Value.TheVariants.{Int, Long, Ref, Ctx}
use Rattle.jthreads.specs.declared.thread.Thread.{Thread as Guest}
use Rattle.jtypes.specs.declared.vtype.Name.{Name}
use Rattle.jresolution.specs.declared.jprogram.member.MethodId.{MethodId}
use Rattle.jresolution.specs.declared.jprogram.part.CodePart.{CodePart}
use Rattle.jresolution.specs.jprogram.ProgramClasses.{Program}
use Rattle.jresolution.specs.jprogram.MemberResolution.{part_of}
use Rattle.jresolution.specs.declared.juses.meaning.InvokeKind.{InvokeKind}
use Rattle.jresolution.specs.declared.juses.meaning.InvokeKind.TheVariants as how
use Rattle.jresolution.specs.juses.IndexedInstructions.{Instruction, Simple, Local, Stack, Jump, Switch, Return, Throw, Array, Used, body_in, instruction, instruction_at, instruction_in}
use Rattle.jresolution.specs.juses.InstructionMeanings as meanings
use Rattle.jresolution.specs.juses.InstructionMeanings.{CallMeaning}
use Rattle.jlinking.proofs.JlinkProofs.PresentValues.{map_is, then_is}
use Rattle.jtyping.specs.jrule.StackEffects.{Want}
use Rattle.jtyping.specs.jrule.PoolEffects.{arguments, of_call}
use Rattle.jsemantics.specs.declared.jmachine.plan.Plan.{Plan}
use Rattle.jsemantics.specs.jmachine.MachineStates.{FrameOf, State}
use Rattle.jsemantics.specs.jmachine.AccessQueries.{Ask, Checks, ChecksKept, Snapshots, Inherits, Enters, Privileges, action_of, asked_by, asked_on, asks, call_asks, call_taken, called_asks, checks_kept, context_asks, inherits, instruction_asks, privileges, privileges_by, privileges_limited, privileges_within, rt_asks, run_asks, thread_asks, used_asks, where_run}
use Rattle.jsemantics.specs.jmachine.AccessCallRows.{domain_of}
use Rattle.jsemantics.specs.jmachine.CallTargets.{Fails, Pushes, Runs, Target, begun_on, init_taken, may_begin, target}
use Rattle.jsemantics.specs.jmachine.FrameOperations as frames
use Rattle.jsemantics.specs.jmachine.HeapObjects.{Object, Instance, Thrown, Text, Builder, Piece, Permission, Context, Thread, Bare}
use Rattle.jsemantics.specs.jmachine.HeapObjects as objects
use Rattle.jsemantics.specs.jmachine.TakenOperands.{Taken, serves, taken, with_value}
use Rattle.jsemantics.specs.jmachine.PrivilegeActions.{given, limits}
use Rattle.jsemantics.specs.jmachine.Security.{kept_in, permission_in}
use Rattle.jsemantics.specs.jmachine.InstructionSites.{Site}
use Rattle.jsemantics.specs.jmachine.MachineSteps.{fetched, unless_last}
use Rattle.jsemantics.specs.jmachine.Store.{Store, object_at, object_of}
use Rattle.jsemantics.specs.jmachine.ThreadTurns.{thread_of}
use Rattle.jsemantics.specs.jmachine.World.{World, world}
use Rattle.jmoved_laws.specs.contexts.SmallContexts.{class_domains}
use Rattle.jmoved_laws.proofs.ContextsProofs.LibraryDispatch.{ComesWell, target_well}
use Rattle.jmoved_laws.proofs.ContextsProofs.NamedMembers.{IsOnSide, NamesOn, names_on}
use Rattle.jmoved_laws.proofs.ContextsProofs.DomainCalls.{is_told, tells, told_at, told_in, told_library, told_member}

-- ---- what is taken stands in front of what is left

module _ {K : Type 0} (w : World) (s : Store K) where
  abbrev IsFront : List (Value K) → Taken K → Type 0
  IsFront operands t = t.values ++ t.below ≡ operands

  taken_front : (wants : List Want) (operands : List (Value K)) → IfSome (taken w s wants operands) (IsFront operands)
  unfolding taken
  taken_front [] operands = refl
  taken_front (want ∷ wants) [] = tt
  taken_front (want ∷ wants) (v ∷ operands) = by (serves w s want v) (taken w s wants operands) (taken_front wants operands)
    where
      more : (o : Option (Taken K)) → IfSome o (IsFront operands) → IfSome (option_map (with_value v) o) (IsFront (v ∷ operands))
      more None h = tt
      more (Some t) h = ap (λ (vs : List (Value K)). v ∷ vs) h

      by : (b : Bool) (o : Option (Taken K)) → IfSome o (IsFront operands) → IfSome (if b then option_map (with_value v) o else None) (IsFront (v ∷ operands))
      by true o h = more o h
      by false o h = tt

  begun_front : (owner : Name) (operands values below : List (Value K)) → values ++ below ≡ operands → IfSome (begun_on w s owner values below) (IsFront operands)
  begun_front owner operands values [] h = tt
  begun_front owner operands values (v ∷ below) h = by (may_begin w s owner v)
    where
      by : (b : Bool) → IfSome (if b then Some (record { values = values ++ v ∷ []; below = below }) else None) (IsFront operands)
      by true = append_assoc values (v ∷ []) below ∙ h
      by false = tt

  init_front : (c : CallMeaning) (operands : List (Value K)) → IfSome (init_taken w s c operands) (IsFront operands)
  unfolding init_taken
  init_front c operands = by (taken w s (arguments c) operands) (taken_front (arguments c) operands)
    where
      by : (o : Option (Taken K)) → IfSome o (IsFront operands) → IfSome (option_and_then (λ t. begun_on w s c.owner t.values t.below) o) (IsFront operands)
      by None h = tt
      by (Some t) h = begun_front c.owner operands t.values t.below h

-- ---- asks that tell a domain

module _ {K : Type 0} (D : ℕ → Type 0) where
  -- a domain that is told is one of these
  abbrev pub AskWell : Ask K → Type 0
  AskWell (Checks asked ctx) = Unit {0}
  AskWell (ChecksKept asked k) = Unit {0}
  AskWell (Snapshots ctx) = Unit {0}
  AskWell (Inherits ctx) = Unit {0}
  AskWell (Enters k domain) = D domain
  AskWell (Privileges None ctx context limited) = ⊥
  AskWell (Privileges (Some domain) ctx context limited) = D domain

  abbrev Well : Option (Ask K) → Type 0
  Well o = IfSome o AskWell

  module _ (at : Site) (s : Store K) (domain : ℕ) (known : D domain) where
    -- the first value is the domain
    abbrev IsFirst : List (Value K) → Type 0
    IsFirst [] = Unit {0}
    IsFirst (v ∷ values) = v ≡ Int (pos domain)

    each_well : (ask : perms.Permission → Ask K) → ((asked : perms.Permission) → AskWell (ask asked)) → (o : Option perms.Permission) → Well (option_map ask o)
    each_well ask h None = tt
    each_well ask h (Some asked) = h asked

    then_well : {X : Type 0} (f : X → Option (Ask K)) → ((x : X) → Well (f x)) → (o : Option X) → Well (option_and_then f o)
    then_well f h None = tt
    then_well f h (Some x) = h x

    kept_well : (v : Value K) (o : Option K) → Well (checks_kept Passing at s v o)
    kept_well v None = tt
    kept_well v (Some k) = each_well (λ asked. ChecksKept asked k) (λ asked. tt) (permission_in (object_of s v))

    context_well : (values : List (Value K)) → Well (context_asks Passing at s values)
    unfolding context_asks
    context_well [] = tt
    context_well (v ∷ []) = tt
    context_well (v ∷ Int x ∷ rest) = tt
    context_well (v ∷ Long x ∷ rest) = tt
    context_well (v ∷ Ctx x ∷ rest) = tt
    context_well (v ∷ Ref n ∷ []) = kept_well v (kept_in (object_at s n))
    context_well (v ∷ Ref n ∷ u ∷ rest) = tt

    inherits_well : (ctx : Option K) (o : Option (Object K)) → Well (inherits Passing at s ctx o)
    inherits_well ctx None = tt
    inherits_well ctx (Some (Instance c m vs)) = tt
    inherits_well ctx (Some (Thrown c m)) = tt
    inherits_well ctx (Some (Text us)) = tt
    inherits_well ctx (Some (Builder us)) = tt
    inherits_well ctx (Some (Piece us)) = tt
    inherits_well ctx (Some (Permission c held)) = tt
    inherits_well ctx (Some (Context kept)) = tt
    inherits_well ctx (Some (Thread number)) = tt
    inherits_well ctx (Some (Bare c)) = tt
    inherits_well ctx (Some (objects.Array a items)) = tt

    where_well : (ask : Ask K) → AskWell ask → (o : Option Target) → Well (where_run Passing at s ask o)
    where_well ask h None = tt
    where_well ask h (Some (Fails class)) = tt
    where_well ask h (Some (Pushes m)) = h
    where_well ask h (Some (Runs call)) = tt

    abbrev int : ℤ → Value K
    int d = Int d

    -- the domain as the first value tells it
    told_domain : (d : ℤ) → int d ≡ int (pos domain) → D (cast_unsigned w32 d)
    told_domain d e =
        let same : d ≡ pos domain = cc in
        subst (λ (x : ℤ). D (cast_unsigned w32 x)) (sym same) known

    privileges_well : (d : ℤ) (ctx : Option K) (limited : Option (List perms.Permission)) (v : Value K) (context : Option K) → int d ≡ int (pos domain)
        → Well (privileges Passing at s (domain_of d) ctx limited v context)
    privileges_well d ctx limited v context e = where_well (Privileges (domain_of d) ctx context limited) (told_domain d e) (action_of Passing at s v)

    within_well : (d : ℤ) (ctx : Option K) (limited : Option (List perms.Permission)) (context v : Value K) → int d ≡ int (pos domain)
        → Well (privileges_within Passing at s (domain_of d) ctx limited context v)
    within_well d ctx limited context v e = then_well (privileges Passing at s (domain_of d) ctx limited v) (λ x. privileges_well d ctx limited v x e) (given s context)

    by_well : (d : ℤ) (ctx : Option K) (context v : Value K) (o : Option (List perms.Permission)) → int d ≡ int (pos domain) → Well (privileges_by Passing at s (domain_of d) ctx context v o)
    by_well d ctx context v None e = tt
    by_well d ctx context v (Some ps) e = within_well d ctx (Some ps) context v e

    limited_well : (d : ℤ) (ctx : Option K) (array context v : Value K) → int d ≡ int (pos domain) → Well (privileges_limited Passing at s (domain_of d) ctx array context v)
    limited_well d ctx array context v e = then_well (privileges_by Passing at s (domain_of d) ctx context v) (λ o. by_well d ctx context v o e) (limits s array)

    thread_well : (call : ThreadCall) (values : List (Value K)) → Well (thread_asks Passing at s call values)
    unfolding thread_asks
    thread_well threads.Start values = tt
    thread_well threads.Join values = tt
    thread_well threads.Yield values = tt
    thread_well (threads.Init Source) [] = tt
    thread_well (threads.Init Source) (Int x ∷ rest) = tt
    thread_well (threads.Init Source) (Long x ∷ rest) = tt
    thread_well (threads.Init Source) (Ctx x ∷ rest) = tt
    thread_well (threads.Init Source) (Ref a ∷ []) = tt
    thread_well (threads.Init Source) (Ref a ∷ Int x ∷ rest) = tt
    thread_well (threads.Init Source) (Ref a ∷ Long x ∷ rest) = tt
    thread_well (threads.Init Source) (Ref a ∷ Ctx x ∷ rest) = tt
    thread_well (threads.Init Source) (Ref a ∷ Ref n ∷ []) = inherits_well None (object_at s n)
    thread_well (threads.Init Source) (Ref a ∷ Ref n ∷ u ∷ rest) = tt
    thread_well (threads.Init Passing) [] = tt
    thread_well (threads.Init Passing) (Int x ∷ rest) = tt
    thread_well (threads.Init Passing) (Long x ∷ rest) = tt
    thread_well (threads.Init Passing) (Ref x ∷ rest) = tt
    thread_well (threads.Init Passing) (Ctx k ∷ []) = tt
    thread_well (threads.Init Passing) (Ctx k ∷ Int x ∷ rest) = tt
    thread_well (threads.Init Passing) (Ctx k ∷ Long x ∷ rest) = tt
    thread_well (threads.Init Passing) (Ctx k ∷ Ctx x ∷ rest) = tt
    thread_well (threads.Init Passing) (Ctx k ∷ Ref a ∷ []) = tt
    thread_well (threads.Init Passing) (Ctx k ∷ Ref a ∷ Int x ∷ rest) = tt
    thread_well (threads.Init Passing) (Ctx k ∷ Ref a ∷ Long x ∷ rest) = tt
    thread_well (threads.Init Passing) (Ctx k ∷ Ref a ∷ Ctx x ∷ rest) = tt
    thread_well (threads.Init Passing) (Ctx k ∷ Ref a ∷ Ref n ∷ []) = inherits_well (Some k) (object_at s n)
    thread_well (threads.Init Passing) (Ctx k ∷ Ref a ∷ Ref n ∷ u ∷ rest) = tt

    rt_well : (call : RtCall) (values : List (Value K)) → (tells call ≡ true → IsFirst values) → Well (rt_asks Passing at s call values)
    unfolding rt_asks
    rt_well rt.Enter [] h = tt
    rt_well rt.Enter (Long x ∷ rest) h = tt
    rt_well rt.Enter (Ref x ∷ rest) h = tt
    rt_well rt.Enter (Ctx x ∷ rest) h = tt
    rt_well rt.Enter (Int d ∷ []) h = tt
    rt_well rt.Enter (Int d ∷ Int x ∷ rest) h = tt
    rt_well rt.Enter (Int d ∷ Long x ∷ rest) h = tt
    rt_well rt.Enter (Int d ∷ Ref x ∷ rest) h = tt
    rt_well rt.Enter (Int d ∷ Ctx k ∷ []) h = told_domain d (h refl)
    rt_well rt.Enter (Int d ∷ Ctx k ∷ u ∷ rest) h = tt
    rt_well rt.Check [] h = tt
    rt_well rt.Check (Int x ∷ rest) h = tt
    rt_well rt.Check (Long x ∷ rest) h = tt
    rt_well rt.Check (Ref x ∷ rest) h = tt
    rt_well rt.Check (Ctx k ∷ []) h = tt
    rt_well rt.Check (Ctx k ∷ v ∷ []) h = each_well (λ asked. Checks asked (Some k)) (λ asked. tt) (permission_in (object_of s v))
    rt_well rt.Check (Ctx k ∷ v ∷ u ∷ rest) h = tt
    rt_well rt.Snapshot [] h = tt
    rt_well rt.Snapshot (Int x ∷ rest) h = tt
    rt_well rt.Snapshot (Long x ∷ rest) h = tt
    rt_well rt.Snapshot (Ref x ∷ rest) h = tt
    rt_well rt.Snapshot (Ctx k ∷ []) h = tt
    rt_well rt.Snapshot (Ctx k ∷ u ∷ rest) h = tt
    rt_well rt.Privileged [] h = tt
    rt_well rt.Privileged (Long x ∷ rest) h = tt
    rt_well rt.Privileged (Ref x ∷ rest) h = tt
    rt_well rt.Privileged (Ctx x ∷ rest) h = tt
    rt_well rt.Privileged (Int d ∷ []) h = tt
    rt_well rt.PrivilegedWith [] h = tt
    rt_well rt.PrivilegedWith (Long x ∷ rest) h = tt
    rt_well rt.PrivilegedWith (Ref x ∷ rest) h = tt
    rt_well rt.PrivilegedWith (Ctx x ∷ rest) h = tt
    rt_well rt.PrivilegedWith (Int d ∷ []) h = tt
    rt_well rt.PrivilegedLimited [] h = tt
    rt_well rt.PrivilegedLimited (Long x ∷ rest) h = tt
    rt_well rt.PrivilegedLimited (Ref x ∷ rest) h = tt
    rt_well rt.PrivilegedLimited (Ctx x ∷ rest) h = tt
    rt_well rt.PrivilegedLimited (Int d ∷ []) h = tt
    rt_well rt.Privileged (Int d ∷ v ∷ []) h = privileges_well d None None v None (h refl)
    rt_well rt.Privileged (Int d ∷ v ∷ u ∷ rest) h = tt
    rt_well rt.PrivilegedWith (Int d ∷ c ∷ []) h = tt
    rt_well rt.PrivilegedWith (Int d ∷ c ∷ v ∷ []) h = within_well d None None c v (h refl)
    rt_well rt.PrivilegedWith (Int d ∷ c ∷ v ∷ u ∷ rest) h = tt
    rt_well rt.PrivilegedLimited (Int d ∷ Int x ∷ rest) h = tt
    rt_well rt.PrivilegedLimited (Int d ∷ Long x ∷ rest) h = tt
    rt_well rt.PrivilegedLimited (Int d ∷ Ref x ∷ rest) h = tt
    rt_well rt.PrivilegedLimited (Int d ∷ Ctx k ∷ []) h = tt
    rt_well rt.PrivilegedLimited (Int d ∷ Ctx k ∷ a ∷ []) h = tt
    rt_well rt.PrivilegedLimited (Int d ∷ Ctx k ∷ a ∷ c ∷ []) h = tt
    rt_well rt.PrivilegedLimited (Int d ∷ Ctx k ∷ a ∷ c ∷ v ∷ []) h = limited_well d (Some k) a c v (h refl)
    rt_well rt.PrivilegedLimited (Int d ∷ Ctx k ∷ a ∷ c ∷ v ∷ u ∷ rest) h = tt

    -- the passing side has no AccessController
    no_controller : {P : Type 0} (call : ControllerCall) → library.call_stands_on Passing (calls.Controller call) ≡ true → P
    no_controller controller.Check h = absurd cc
    no_controller controller.Snapshot h = absurd cc
    no_controller controller.Privileged h = absurd cc
    no_controller controller.PrivilegedWith h = absurd cc
    no_controller controller.PrivilegedLimited h = absurd cc

    run_well : (call : LibCall) (values : List (Value K)) → library.call_stands_on Passing call ≡ true → (told_library call ≡ true → IsFirst values) → Well (run_asks Passing at s call values)
    run_well (calls.Controller call) values on h = no_controller call on
    run_well (calls.Rt call) values on h = rt_well call values h
    run_well (calls.Thread call) values on h = thread_well call values
    run_well calls.ContextCheck values on h = context_well values
    run_well calls.ObjectInit values on h = tt
    run_well (calls.ThrownInit class way) values on h = tt
    run_well calls.AccessControlInit values on h = tt
    run_well calls.GetMessage values on h = tt
    run_well (calls.String call) values on h = tt
    run_well (calls.Builder call) values on h = tt
    run_well calls.Out values on h = tt
    run_well calls.PrintEnd values on h = tt
    run_well (calls.Print piece) values on h = tt
    run_well (calls.Run side) values on h = tt
    run_well (calls.RunAction side) values on h = tt
    run_well (calls.PermissionInit one) values on h = tt

-- ---- calls

-- what is told a domain is static
told_static : (call : LibCall) → told_library call ≡ true → library.is_static call ≡ true
told_static (calls.Rt rt.Enter) h = refl
told_static (calls.Rt rt.Check) h = absurd cc
told_static (calls.Rt rt.Snapshot) h = absurd cc
told_static (calls.Rt rt.Privileged) h = refl
told_static (calls.Rt rt.PrivilegedWith) h = refl
told_static (calls.Rt rt.PrivilegedLimited) h = refl
told_static (calls.Controller call) h = absurd cc
told_static (calls.Thread call) h = absurd cc
told_static calls.ContextCheck h = absurd cc
told_static calls.ObjectInit h = absurd cc
told_static (calls.ThrownInit class way) h = absurd cc
told_static calls.AccessControlInit h = absurd cc
told_static calls.GetMessage h = absurd cc
told_static (calls.String call) h = absurd cc
told_static (calls.Builder call) h = absurd cc
told_static calls.Out h = absurd cc
told_static calls.PrintEnd h = absurd cc
told_static (calls.Print piece) h = absurd cc
told_static (calls.Run side) h = absurd cc
told_static (calls.RunAction side) h = absurd cc
told_static (calls.PermissionInit one) h = absurd cc

module _ {K : Type 0} (D : ℕ → Type 0) (q : Program) (passing : q.side ≡ Passing) (class thread : ℕ) (full : Bool) (cwd : List ℕ) (table : List Guest) (s : Store K) (domain : ℕ) (known : D domain) where
  abbrev site : Site
  site = record { world = world q; class = class; thread = thread; full = full; cwd = cwd; table = table }

  abbrev Asked : Option (Ask K) → Type 0
  Asked o = IfSome o (AskWell {K = K} D)

  -- what is told a domain has it as its newest operand
  abbrev HasDomain : List (Value K) → Type 0
  HasDomain operands = (rest : List (Value K)) × (operands ≡ Int (pos domain) ∷ rest)

  first_of : (values below operands : List (Value K)) → values ++ below ≡ operands → HasDomain operands → IsFirst {K = K} D site s domain known values
  first_of [] below operands e h = tt
  first_of (v ∷ values) below operands e h =
      let both : v ∷ (values ++ below) ≡ Int (pos domain) ∷ h.0 = e ∙ h.1 in
      cc

  module _ (by : InvokeKind) (c : CallMeaning) (on : IsOnSide q c.member) where
    called_well : (values : List (Value K)) → (told_member c.member ≡ true → IsFirst {K = K} D site s domain known values) → (t : Target) → ComesWell q c.member t → Asked (called_asks Passing site s values t)
    called_well values h (Fails class) comes = tt
    called_well values h (Pushes m) comes = tt
    called_well values h (Runs call) comes =
        run_well {K = K} D site s domain known call values (ap (λ (side : Side). library.call_stands_on side call) (sym passing) ∙ comes.on)
        (λ told. h (ap told_member (comes.static (told_static call told)) ∙ told))

    came_well : (values : List (Value K)) → (told_member c.member ≡ true → IsFirst {K = K} D site s domain known values) → (o : Option Target) → IfSome o (ComesWell q c.member)
        → Asked (option_and_then (called_asks Passing site s values) o)
    came_well values h None comes = tt
    came_well values h (Some t) comes = called_well values h t comes

    all_well : (operands : List (Value K)) → (told_member c.member ≡ true → HasDomain operands) → (o : Option (Taken K)) → IfSome o (IsFront {K = K} (world q) s operands)
        → Asked (option_and_then (λ t. call_asks Passing site s by c t.values) o)
    all_well operands h None front = tt
    all_well operands h (Some t) front =
        came_well t.values (λ told. first_of t.values t.below operands front (h told)) (target site s by c t.values) (target_well q class thread full cwd table c on s by t.values)

  call_front : (by : InvokeKind) (c : CallMeaning) (operands : List (Value K)) → IfSome (call_taken Passing site s by c operands) (IsFront {K = K} (world q) s operands)
  call_front how.Init c operands = init_front (world q) s c operands
  call_front how.Virtual c operands = taken_front (world q) s (of_call ((world q).named class) how.Virtual c).takes operands
  call_front how.Special c operands = taken_front (world q) s (of_call ((world q).named class) how.Special c).takes operands
  call_front how.Static c operands = taken_front (world q) s (of_call ((world q).named class) how.Static c).takes operands
  call_front how.Interface c operands = taken_front (world q) s (of_call ((world q).named class) how.Interface c).takes operands

  used_well : (by : InvokeKind) (c : CallMeaning) (operands : List (Value K)) → IsOnSide q c.member → (told_member c.member ≡ true → HasDomain operands) → Asked (used_asks Passing site s by c operands)
  unfolding used_asks
  used_well by c operands on h = all_well by c on operands h (call_taken Passing site s by c operands) (call_front by c operands)

  instruction_well : (i : Instruction) (operands : List (Value K)) → NamesOn q i → (is_told i ≡ true → HasDomain operands) → Asked (instruction_asks Passing site s i operands)
  instruction_well (Used (meanings.Call by c)) operands on h = used_well by c operands on h
  instruction_well (Used (meanings.Push c)) operands on h = tt
  instruction_well (Used (meanings.Field op f)) operands on h = tt
  instruction_well (Used (meanings.Make c)) operands on h = tt
  instruction_well (Used (meanings.MakeArray t)) operands on h = tt
  instruction_well (Used (meanings.Cast op t)) operands on h = tt
  instruction_well (Simple form) operands on h = tt
  instruction_well (Local form) operands on h = tt
  instruction_well (Stack op) operands on h = tt
  instruction_well (Jump test to) operands on h = tt
  instruction_well (Switch found other) operands on h = tt
  instruction_well (Return kind) operands on h = tt
  instruction_well Throw operands on h = tt
  instruction_well (Array form) operands on h = tt

-- ---- what is fetched

-- it is an instruction of a class of the program
pub record Fetched (q : Program) (m : MethodId) (i : Instruction) : Type 0 where
  pub part : CodePart
  pub at : slice_get q.parts m.class ≡ Some part
  pub names : NamesOn q i

if_some : {A : Type 0} (t : Bool) (x y : A) → (if t then Some x else None) ≡ Some y → x ≡ y
if_some true x y h = cc
if_some false x y h = absurd cc

pub fetched_in : (q : Program) (m : MethodId) (k : ℕ) (i : Instruction) → fetched q m k ≡ Some i → Fetched q m i
unfolding fetched instruction_at
fetched_in q m k i h =
    let x = then_is (unless_last q m k) (instruction_at q m k) i h in
    let same : x.0 ≡ i = if_some _ x.0 i x.2 in
    let c = then_is (λ (y : ClassParts). option_and_then (instruction_in q y k) (body_in y m.method)) (part_of q m.class) x.0 x.1 in
    let part = map_is (λ (y : CodePart). y.class) (slice_get q.parts m.class) c.0 c.1 in
    let b = then_is (instruction_in q c.0 k) (body_in c.0 m.method) x.0 c.2 in
    let one = then_is (instruction q c.0.pool b.0.ops) (slice_get b.0.ops k) x.0 b.2 in
    record { part = part.0; at = part.1; names = names_on q c.0.pool b.0.ops one.0 i (one.2 ∙ ap (λ (y : Instruction). Some y) same) }

-- one of the domains of a program's classes
abbrev pub IsDomain : Program → ℕ → Type 0
IsDomain q d = list_any (◌==◌ d) (class_domains q) ≡ true

among : (d : ℕ) (parts : List CodePart) (n : ℕ) (part : CodePart) → slice_get parts n ≡ Some part → part.domain ≡ d → list_any (◌==◌ d) (map (λ x. x.domain) parts) ≡ true
among d [] n part at e = absurd cc
among d (x ∷ parts) zero part at e =
    let same : x ≡ part = cc in
    ap (λ (b : Bool). b || list_any (◌==◌ d) (map (λ y. y.domain) parts)) (eq-eqb d x.domain (sym e ∙ ap (λ (y : CodePart). y.domain) (sym same)))
among d (x ∷ parts) (suc n) part at e = or_later (d == x.domain) (list_any (◌==◌ d) (map (λ y. y.domain) parts)) (among d parts n part at e)
  where
    or_later : (a b : Bool) → b ≡ true → a || b ≡ true
    or_later true b h = refl
    or_later false b h = h

pub method_domain : (q : Program) (m : MethodId) (part : CodePart) → slice_get q.parts m.class ≡ Some part → IsDomain q (frames.domain_of q m)
method_domain q m part at = among (frames.domain_of q m) q.parts m.class part at (sym (ap frames.domain_in at))

-- ---- a step

-- where its instruction is told a domain, the newest operand of a frame is that of its method
abbrev pub IsPushed : {K E : Type 0} → Program → FrameOf K E → Type 0
IsPushed {K = K} q f = told_at q f.method f.place ≡ true → (rest : List (Value K)) × (f.operands ≡ Int (pos (frames.domain_of q f.method)) ∷ rest)

module _ {K E : Type 0} (q : Program) (passing : q.side ≡ Passing) (plan : Plan) (s : State K E) where
  abbrev WellAsked : Option (Ask K) → Type 0
  WellAsked o = IfSome o (AskWell {K = K} (IsDomain q))

  by_fetched : (f : FrameOf K E) (below : List (FrameOf K E)) (o : Option Instruction) → fetched q f.method f.place ≡ o → IsPushed q f → WellAsked (asked_by Passing q plan s f below o)
  by_fetched f below None e h = tt
  by_fetched f below (Some i) e h =
      let x = fetched_in q f.method f.place i e in
      instruction_well {K = K} (IsDomain q) q passing f.method.class (thread_of s) (nat_le plan.depth (length (f ∷ below))) plan.cwd s.table s.store
      (frames.domain_of q f.method) (method_domain q f.method x.part x.at) i f.operands x.names (λ told. h (ap told_in e ∙ told))

  abbrev pub NewestPushed : List (FrameOf K E) → Type 0
  NewestPushed [] = Unit {0}
  NewestPushed (f ∷ below) = IsPushed q f

  asked_well : (fs : List (FrameOf K E)) → NewestPushed fs → WellAsked (asked_on Passing q plan s fs)
  asked_well [] h = tt
  asked_well (f ∷ below) h = by_fetched f below (fetched q f.method f.place) refl h

  -- A step tells no domain but one of the program's classes.
  pub asks_well : NewestPushed s.running.frames → IfSome (asks Passing q plan s) (AskWell {K = K} (IsDomain q))
  unfolding asks
  asks_well h = asked_well s.running.frames h
