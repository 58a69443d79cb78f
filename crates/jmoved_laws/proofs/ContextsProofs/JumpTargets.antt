-- What instructions do jumps nowhere but to their targets.
use Rattle.std.proofs.Common.{◌≡◌, ℕ, zero, suc, ℤ, Bool, true, false, List, [], ◌∷◌, map, Option, Some, None, option_map, refl}
use Rattle.std.specs.Prelude.{IfSome, option_and_then, if◌then◌else◌}
use Rattle.std.specs.List.{AllByRecursion}
use Rattle.std.specs.Ordering.{int_eq}
use Rattle.jvalues.specs.declared.jnames.kinds.Kind.TheVariants as kinds
use Rattle.jparts.specs.declared.jcode.names.CastOp.{CastOp}
use Rattle.jparts.specs.declared.jcode.names.CastOp.TheVariants as casts
use Rattle.jparts.specs.declared.jcode.names.FieldOp.{FieldOp}
use Rattle.jparts.specs.declared.jcode.names.FieldOp.TheVariants as fields
use Rattle.jparts.specs.jcode.InstructionForms.{returned, simple_effect}
use Rattle.jdomain.specs.declared.verdict.Verdict.{Verdict}
use Rattle.jdomain.specs.declared.verdict.Verdict.TheVariants.{Granted, Denied}
use Rattle.jlib.specs.declared.calls.ControllerCall.{ControllerCall}
use Rattle.jlib.specs.declared.calls.ControllerCall.TheVariants as controller
use Rattle.jlib.specs.declared.calls.LibCall.{LibCall}
use Rattle.jlib.specs.declared.calls.LibCall.TheVariants as calls
use Rattle.jlib.specs.declared.calls.RtCall.{RtCall}
use Rattle.jlib.specs.declared.calls.RtCall.TheVariants as rt
use Rattle.jlib.specs.declared.calls.ThreadCall.{ThreadCall}
use Rattle.jlib.specs.declared.calls.ThreadCall.TheVariants as threads
use Rattle.jlib.specs.declared.side.Side.{Side}
use Rattle.jlib.specs.declared.side.Side.TheVariants.{Source, Passing}
use Rattle.jvalues.specs.declared.jops.value.Value.TheVariants.{Int, Long, Ref, Ctx}
use Rattle.jperm.specs.declared.permission.Permission as perms
use Rattle.jtypes.specs.declared.vtype.Name.{Name}
use Rattle.jtypes.specs.declared.vtype.VType.{VType}
use Rattle.jresolution.specs.declared.jprogram.member.Member.{Member}
use Rattle.jresolution.specs.declared.juses.meaning.InvokeKind.{InvokeKind}
use Rattle.jresolution.specs.declared.juses.meaning.InvokeKind.TheVariants as how
use Rattle.jresolution.specs.juses.IndexedInstructions.{Instruction, Simple, Local, Stack, Jump, Switch, Return, Throw, Array, Used, Test, targets}
use Rattle.jresolution.specs.juses.InstructionMeanings as meanings
use Rattle.jresolution.specs.juses.InstructionMeanings.{CallMeaning, Meaning, Pushed}
use Rattle.jctx.specs.declared.item.Item.{Item}
use Rattle.jtyping.specs.jrule.StackEffects.{Fits, Of, of_kinds}
use Rattle.jtyping.specs.jrule.BasicRule.{tested}
use Rattle.jtyping.specs.jrule.PoolEffects.{throwable}
use Rattle.jsemantics.specs.jmachine.MachineStates.{Goes, Jumps, Leaves, Calls, Raises, Throws, Switches, Makes, gives}
use Rattle.jsemantics.specs.jmachine.ArrayInstructions as array_rows
use Rattle.jsemantics.specs.jmachine.AccessCallRows.{context_row, controller_row, domain_of, kept_checked, rt_row, thread_made, thread_row}
use Rattle.jsemantics.specs.jmachine.CallTargets.{Fails, Pushes, Runs, Target, by_interface, init_taken, target}
use Rattle.jsemantics.specs.jmachine.InstructionActions.{Doing, array_wants, by_held, by_taken, call, called, doing, run, used, wants_of}
use Rattle.jsemantics.specs.jmachine.FrameOperations.{with_operands}
use Rattle.jsemantics.specs.jmachine.FieldInstructions.{field, get_from, get_static, put_into, put_static}
use Rattle.jsemantics.specs.jmachine.ObjectInstructions as making
use Rattle.jsemantics.specs.jmachine.ObjectInstructions.{cast, is_one, make, push, text_loaded, units_of}
use Rattle.jsemantics.specs.jmachine.HeapObjects.{Object, Instance, Thrown, Text, Builder, Piece, Permission, Context, Thread, Bare}
use Rattle.jsemantics.specs.jmachine.HeapObjects as objects
use Rattle.jsemantics.specs.jmachine.TakenOperands.{Taken, taken, type_of}
use Rattle.jsemantics.specs.jmachine.PrivilegeActions.{acting, acting_on, action, given, limited_by, limits, privilege, run_action}
use Rattle.jsemantics.specs.jmachine.Security.{Privilege, Rules, checked, judged, kept_in, permission_in}
use Rattle.jsemantics.specs.jmachine.InstructionSites.{Site}
use Rattle.jsemantics.specs.jmachine.LibraryCalls.{library}
use Rattle.jsemantics.specs.jmachine.Store.{Store, constant_at, object_at, with_object}
use Rattle.jsemantics.specs.jmachine.BasicInstructions.{Held, branched, case_of, holding, holds, jump, leave, local, simple, stack, switch, throw}
use Rattle.jsemantics.specs.jmachine.World.{World}
use Rattle.jmoved_laws.proofs.ContextsProofs.JumplessRows.{Calm, Frame, IsCalm, PlainAct, PlainRow, Word, array_calm, each_calm, library_calm, make_calm as make_array_calm, simple_calm, then_calm, thread_calm as thread_alone}

abbrev Rows : Type 0
Rows = Option PlainRow

module _ (s : Store (List Item)) where
  text_calm : (units : List ℕ) (o : Option ℕ) → Calm (Some (text_loaded s units o))
  text_calm units None = tt
  text_calm units (Some n) = tt

  push_calm : (c : Pushed) (values : List Word) → Calm (push s c values)
  unfolding push
  push_calm (meanings.Int n) [] = tt
  push_calm (meanings.Int n) (v ∷ vs) = tt
  push_calm (meanings.Long n) [] = tt
  push_calm (meanings.Long n) (v ∷ vs) = tt
  push_calm (meanings.Text bytes) [] = text_calm (units_of bytes) (constant_at s.constants (units_of bytes))
  push_calm (meanings.Text bytes) (v ∷ vs) = tt

  cast_checked : (v : Word) (b : Bool) → Calm (Some (making.checked s v b))
  cast_checked v true = tt
  cast_checked v false = tt

  cast_tested : (b : Bool) → Calm (Some (making.tested s b))
  cast_tested true = tt
  cast_tested false = tt

  cast_calm : (w : World) (op : CastOp) (t : VType) (values : List Word) → Calm (cast w s op t values)
  unfolding cast
  cast_calm w casts.CheckCast t [] = tt
  cast_calm w casts.InstanceOf t [] = tt
  cast_calm w casts.CheckCast t (Int x ∷ []) = tt
  cast_calm w casts.InstanceOf t (Int x ∷ []) = tt
  cast_calm w casts.CheckCast t (Int x ∷ v ∷ vs) = tt
  cast_calm w casts.InstanceOf t (Int x ∷ v ∷ vs) = tt
  cast_calm w casts.CheckCast t (Long x ∷ []) = tt
  cast_calm w casts.InstanceOf t (Long x ∷ []) = tt
  cast_calm w casts.CheckCast t (Long x ∷ v ∷ vs) = tt
  cast_calm w casts.InstanceOf t (Long x ∷ v ∷ vs) = tt
  cast_calm w casts.CheckCast t (Ctx x ∷ []) = tt
  cast_calm w casts.InstanceOf t (Ctx x ∷ []) = tt
  cast_calm w casts.CheckCast t (Ctx x ∷ v ∷ vs) = tt
  cast_calm w casts.InstanceOf t (Ctx x ∷ v ∷ vs) = tt
  cast_calm w casts.CheckCast t (Ref zero ∷ []) = tt
  cast_calm w casts.InstanceOf t (Ref zero ∷ []) = tt
  cast_calm w casts.CheckCast t (Ref (suc n) ∷ []) = cast_checked (Ref (suc n)) (is_one w t (type_of w s (Ref (suc n))))
  cast_calm w casts.InstanceOf t (Ref (suc n) ∷ []) = cast_tested (is_one w t (type_of w s (Ref (suc n))))
  cast_calm w casts.CheckCast t (Ref zero ∷ v ∷ vs) = tt
  cast_calm w casts.InstanceOf t (Ref zero ∷ v ∷ vs) = tt
  cast_calm w casts.CheckCast t (Ref (suc n) ∷ v ∷ vs) = tt
  cast_calm w casts.InstanceOf t (Ref (suc n) ∷ v ∷ vs) = tt

  one_calm : (o : Option Word) → Calm (option_map (λ v. gives s (v ∷ [])) o)
  one_calm None = tt
  one_calm (Some v) = tt

  field_calm : (w : World) (op : FieldOp) (m : Member) (values : List Word) → Calm (field w s op m values)
  unfolding field
  field_calm w fields.GetStatic m [] = one_calm (get_static w s m)
  field_calm w fields.GetStatic m (v ∷ vs) = tt
  field_calm w fields.PutStatic m [] = tt
  field_calm w fields.PutStatic m (v ∷ []) = each_calm (λ t. gives t []) (λ t. tt) (put_static w s m v)
  field_calm w fields.PutStatic m (v ∷ u ∷ vs) = tt
  field_calm w fields.GetField m [] = tt
  field_calm w fields.GetField m (Int x ∷ []) = tt
  field_calm w fields.GetField m (Int x ∷ v ∷ vs) = tt
  field_calm w fields.GetField m (Long x ∷ []) = tt
  field_calm w fields.GetField m (Long x ∷ v ∷ vs) = tt
  field_calm w fields.GetField m (Ctx x ∷ []) = tt
  field_calm w fields.GetField m (Ctx x ∷ v ∷ vs) = tt
  field_calm w fields.GetField m (Ref zero ∷ []) = tt
  field_calm w fields.GetField m (Ref zero ∷ v ∷ vs) = tt
  field_calm w fields.GetField m (Ref (suc n) ∷ []) = one_calm (get_from w m (object_at s (suc n)))
  field_calm w fields.GetField m (Ref (suc n) ∷ v ∷ vs) = tt
  field_calm w fields.PutField m [] = tt
  field_calm w fields.PutField m (u ∷ []) = tt
  field_calm w fields.PutField m (u ∷ Int x ∷ []) = tt
  field_calm w fields.PutField m (u ∷ Int x ∷ v ∷ vs) = tt
  field_calm w fields.PutField m (u ∷ Long x ∷ []) = tt
  field_calm w fields.PutField m (u ∷ Long x ∷ v ∷ vs) = tt
  field_calm w fields.PutField m (u ∷ Ctx x ∷ []) = tt
  field_calm w fields.PutField m (u ∷ Ctx x ∷ v ∷ vs) = tt
  field_calm w fields.PutField m (u ∷ Ref zero ∷ []) = tt
  field_calm w fields.PutField m (u ∷ Ref zero ∷ v ∷ vs) = tt
  field_calm w fields.PutField m (u ∷ Ref (suc n) ∷ []) = each_calm (λ x. gives (with_object s (suc n) x) []) (λ x. tt) (put_into w m u (object_at s (suc n)))
  field_calm w fields.PutField m (u ∷ Ref (suc n) ∷ v ∷ vs) = tt

  make_calm : (w : World) (c : Name) (values : List Word) → Calm (make w s c values)
  unfolding make
  make_calm w c [] = each_calm (λ r. making.new s (making.object_of w r)) (λ r. tt) (w.class c)
  make_calm w c (v ∷ vs) = tt

  throw_calm : (values : List Word) → Calm (throw values)
  unfolding throw
  throw_calm [] = tt
  throw_calm (Int x ∷ []) = tt
  throw_calm (Int x ∷ v ∷ vs) = tt
  throw_calm (Long x ∷ []) = tt
  throw_calm (Long x ∷ v ∷ vs) = tt
  throw_calm (Ctx x ∷ []) = tt
  throw_calm (Ctx x ∷ v ∷ vs) = tt
  throw_calm (Ref zero ∷ []) = tt
  throw_calm (Ref zero ∷ v ∷ vs) = tt
  throw_calm (Ref (suc n) ∷ []) = tt
  throw_calm (Ref (suc n) ∷ v ∷ vs) = tt

  -- ---- calls of the library

  module _ (r : Rules (List Item) (Unit {0})) (at : Site) (es : List (Unit {0})) (inherited : Option (List Item)) where
    judged_calm : (asked : perms.Permission) (v : Verdict) → IsCalm (judged {E = Unit {0}} s at.thread asked v).act
    judged_calm asked Granted = tt
    judged_calm asked (Denied domain) = tt

    checked_calm : (decides : perms.Permission → Verdict) (v : Word) → Calm (checked at s decides v)
    checked_calm decides (Int x) = tt
    checked_calm decides (Long x) = tt
    checked_calm decides (Ctx k) = tt
    checked_calm decides (Ref zero) = tt
    checked_calm decides (Ref (suc n)) = each_calm (λ asked. judged s at.thread asked (decides asked)) (λ asked. judged_calm asked (decides asked)) (permission_in (object_at s (suc n)))

    kept_calm : (v : Word) (o : Option (List Item)) → Calm (kept_checked r at s es inherited v o)
    kept_calm v None = tt
    kept_calm v (Some k) = checked_calm (λ asked. r.check_kept asked k) v

    acting_calm : (n : ℕ) (p : Privilege (List Item) (Unit {0})) (t : Target) → Calm (acting n p t)
    acting_calm n p (Fails class) = tt
    acting_calm n p (Pushes m) = tt
    acting_calm n p (Runs call) = tt

    on_calm : (side : Side) (n : ℕ) (p : Privilege (List Item) (Unit {0})) (o : Option (Object (List Item))) → Calm (acting_on at side n p o)
    on_calm side n p None = tt
    on_calm side n p (Some x) = acting_calm n p (by_interface at.world at.full (run_action side) x)

    action_calm : (side : Side) (v : Word) (p : Privilege (List Item) (Unit {0})) → Calm (action at s side v p)
    action_calm side (Int x) p = tt
    action_calm side (Long x) p = tt
    action_calm side (Ctx k) p = tt
    action_calm side (Ref zero) p = tt
    action_calm side (Ref (suc n)) p = on_calm side (suc n) p (object_at s (suc n))

    privilege_calm : (domain : Option ℕ) (ctx : Option (List Item)) (limited : Option (List perms.Permission)) (v : Word) (context : Option (List Item)) → Calm (privilege r at s es domain ctx limited v context)
    privilege_calm domain ctx limited v context = action_calm r.side v (r.privileged domain ctx context limited es)

    within_calm : (domain : Option ℕ) (ctx : Option (List Item)) (limited : Option (List perms.Permission)) (context v : Word)
        → Calm (option_and_then (privilege r at s es domain ctx limited v) (given s context))
    within_calm domain ctx limited context v = then_calm (privilege r at s es domain ctx limited v) (λ x. privilege_calm domain ctx limited v x) (given s context)

    by_limits : (domain : Option ℕ) (ctx : Option (List Item)) (context v : Word) (o : Option (List perms.Permission)) → Calm (limited_by r at s es domain ctx context v o)
    by_limits domain ctx context v None = tt
    by_limits domain ctx context v (Some ps) = within_calm domain ctx (Some ps) context v

    limited_calm : (domain : Option ℕ) (ctx : Option (List Item)) (array context v : Word) → Calm (option_and_then (limited_by r at s es domain ctx context v) (limits s array))
    limited_calm domain ctx array context v = then_calm (limited_by r at s es domain ctx context v) (by_limits domain ctx context v) (limits s array)

    controller_calm : (call : ControllerCall) (values : List Word) → Calm (controller_row r at s es inherited call values)
    unfolding controller_row
    controller_calm controller.Check [] = tt
    controller_calm controller.Check (v ∷ []) = checked_calm (λ asked. r.check asked None es inherited) v
    controller_calm controller.Check (v ∷ u ∷ rest) = tt
    controller_calm controller.Snapshot [] = tt
    controller_calm controller.Snapshot (v ∷ rest) = tt
    controller_calm controller.Privileged [] = tt
    controller_calm controller.Privileged (v ∷ []) = privilege_calm None None None v None
    controller_calm controller.Privileged (v ∷ u ∷ rest) = tt
    controller_calm controller.PrivilegedWith [] = tt
    controller_calm controller.PrivilegedWith (c ∷ []) = tt
    controller_calm controller.PrivilegedWith (c ∷ v ∷ []) = within_calm None None None c v
    controller_calm controller.PrivilegedWith (c ∷ v ∷ u ∷ rest) = tt
    controller_calm controller.PrivilegedLimited [] = tt
    controller_calm controller.PrivilegedLimited (a ∷ []) = tt
    controller_calm controller.PrivilegedLimited (a ∷ c ∷ []) = tt
    controller_calm controller.PrivilegedLimited (a ∷ c ∷ v ∷ []) = limited_calm None None a c v
    controller_calm controller.PrivilegedLimited (a ∷ c ∷ v ∷ u ∷ rest) = tt

    context_calm : (values : List Word) → Calm (context_row r at s es inherited values)
    unfolding context_row
    context_calm [] = tt
    context_calm (v ∷ []) = tt
    context_calm (v ∷ Int x ∷ rest) = tt
    context_calm (v ∷ Long x ∷ rest) = tt
    context_calm (v ∷ Ctx x ∷ rest) = tt
    context_calm (v ∷ Ref n ∷ []) = kept_calm v (kept_in (object_at s n))
    context_calm (v ∷ Ref n ∷ u ∷ rest) = tt

    made_calm : (n runnable : ℕ) (k : List Item) (o : Option (Object (List Item))) → Calm (thread_made at s n runnable k o)
    made_calm n runnable k None = tt
    made_calm n runnable k (Some (Instance c m vs)) = tt
    made_calm n runnable k (Some (Thrown c m)) = tt
    made_calm n runnable k (Some (Text us)) = tt
    made_calm n runnable k (Some (Builder us)) = tt
    made_calm n runnable k (Some (Piece us)) = tt
    made_calm n runnable k (Some (Permission c held)) = tt
    made_calm n runnable k (Some (Context kept)) = tt
    made_calm n runnable k (Some (Thread number)) = tt
    made_calm n runnable k (Some (Bare c)) = tt
    made_calm n runnable k (Some (objects.Array a items)) = tt

    thread_calm : (call : ThreadCall) (values : List Word) → Calm (thread_row r at s es inherited call values)
    unfolding thread_row
    thread_calm threads.Start values = thread_alone s at threads.Start values
    thread_calm threads.Join values = thread_alone s at threads.Join values
    thread_calm threads.Yield values = thread_alone s at threads.Yield values
    thread_calm (threads.Init Source) [] = thread_alone s at (threads.Init Source) []
    thread_calm (threads.Init Source) (Int x ∷ rest) = thread_alone s at (threads.Init Source) (Int x ∷ rest)
    thread_calm (threads.Init Source) (Long x ∷ rest) = thread_alone s at (threads.Init Source) (Long x ∷ rest)
    thread_calm (threads.Init Source) (Ctx x ∷ rest) = thread_alone s at (threads.Init Source) (Ctx x ∷ rest)
    thread_calm (threads.Init Source) (Ref a ∷ []) = thread_alone s at (threads.Init Source) (Ref a ∷ [])
    thread_calm (threads.Init Source) (Ref a ∷ Int x ∷ rest) = thread_alone s at (threads.Init Source) (Ref a ∷ Int x ∷ rest)
    thread_calm (threads.Init Source) (Ref a ∷ Long x ∷ rest) = thread_alone s at (threads.Init Source) (Ref a ∷ Long x ∷ rest)
    thread_calm (threads.Init Source) (Ref a ∷ Ctx x ∷ rest) = thread_alone s at (threads.Init Source) (Ref a ∷ Ctx x ∷ rest)
    thread_calm (threads.Init Source) (Ref a ∷ Ref n ∷ []) = made_calm n a (r.inherit None es inherited) (object_at s n)
    thread_calm (threads.Init Source) (Ref a ∷ Ref n ∷ u ∷ rest) = thread_alone s at (threads.Init Source) (Ref a ∷ Ref n ∷ u ∷ rest)
    thread_calm (threads.Init Passing) [] = thread_alone s at (threads.Init Passing) []
    thread_calm (threads.Init Passing) (Int x ∷ rest) = thread_alone s at (threads.Init Passing) (Int x ∷ rest)
    thread_calm (threads.Init Passing) (Long x ∷ rest) = thread_alone s at (threads.Init Passing) (Long x ∷ rest)
    thread_calm (threads.Init Passing) (Ref x ∷ rest) = thread_alone s at (threads.Init Passing) (Ref x ∷ rest)
    thread_calm (threads.Init Passing) (Ctx k ∷ []) = thread_alone s at (threads.Init Passing) (Ctx k ∷ [])
    thread_calm (threads.Init Passing) (Ctx k ∷ Int x ∷ rest) = thread_alone s at (threads.Init Passing) (Ctx k ∷ Int x ∷ rest)
    thread_calm (threads.Init Passing) (Ctx k ∷ Long x ∷ rest) = thread_alone s at (threads.Init Passing) (Ctx k ∷ Long x ∷ rest)
    thread_calm (threads.Init Passing) (Ctx k ∷ Ctx x ∷ rest) = thread_alone s at (threads.Init Passing) (Ctx k ∷ Ctx x ∷ rest)
    thread_calm (threads.Init Passing) (Ctx k ∷ Ref a ∷ []) = thread_alone s at (threads.Init Passing) (Ctx k ∷ Ref a ∷ [])
    thread_calm (threads.Init Passing) (Ctx k ∷ Ref a ∷ Int x ∷ rest) = thread_alone s at (threads.Init Passing) (Ctx k ∷ Ref a ∷ Int x ∷ rest)
    thread_calm (threads.Init Passing) (Ctx k ∷ Ref a ∷ Long x ∷ rest) = thread_alone s at (threads.Init Passing) (Ctx k ∷ Ref a ∷ Long x ∷ rest)
    thread_calm (threads.Init Passing) (Ctx k ∷ Ref a ∷ Ctx x ∷ rest) = thread_alone s at (threads.Init Passing) (Ctx k ∷ Ref a ∷ Ctx x ∷ rest)
    thread_calm (threads.Init Passing) (Ctx k ∷ Ref a ∷ Ref n ∷ []) = made_calm n a (r.inherit (Some k) es inherited) (object_at s n)
    thread_calm (threads.Init Passing) (Ctx k ∷ Ref a ∷ Ref n ∷ u ∷ rest) = thread_alone s at (threads.Init Passing) (Ctx k ∷ Ref a ∷ Ref n ∷ u ∷ rest)

    rt_calm : (call : RtCall) (values : List Word) → Calm (rt_row r at s es inherited call values)
    unfolding rt_row
    rt_calm rt.Enter [] = tt
    rt_calm rt.Enter (Long x ∷ rest) = tt
    rt_calm rt.Enter (Ref x ∷ rest) = tt
    rt_calm rt.Enter (Ctx x ∷ rest) = tt
    rt_calm rt.Enter (Int d ∷ []) = tt
    rt_calm rt.Enter (Int d ∷ Int x ∷ rest) = tt
    rt_calm rt.Enter (Int d ∷ Long x ∷ rest) = tt
    rt_calm rt.Enter (Int d ∷ Ref x ∷ rest) = tt
    rt_calm rt.Enter (Int d ∷ Ctx k ∷ []) = tt
    rt_calm rt.Enter (Int d ∷ Ctx k ∷ u ∷ rest) = tt
    rt_calm rt.Check [] = tt
    rt_calm rt.Check (Int x ∷ rest) = tt
    rt_calm rt.Check (Long x ∷ rest) = tt
    rt_calm rt.Check (Ref x ∷ rest) = tt
    rt_calm rt.Check (Ctx k ∷ []) = tt
    rt_calm rt.Check (Ctx k ∷ v ∷ []) = checked_calm (λ asked. r.check asked (Some k) es inherited) v
    rt_calm rt.Check (Ctx k ∷ v ∷ u ∷ rest) = tt
    rt_calm rt.Snapshot [] = tt
    rt_calm rt.Snapshot (Int x ∷ rest) = tt
    rt_calm rt.Snapshot (Long x ∷ rest) = tt
    rt_calm rt.Snapshot (Ref x ∷ rest) = tt
    rt_calm rt.Snapshot (Ctx k ∷ []) = tt
    rt_calm rt.Snapshot (Ctx k ∷ u ∷ rest) = tt
    rt_calm rt.Privileged [] = tt
    rt_calm rt.Privileged (Long x ∷ rest) = tt
    rt_calm rt.Privileged (Ref x ∷ rest) = tt
    rt_calm rt.Privileged (Ctx x ∷ rest) = tt
    rt_calm rt.Privileged (Int d ∷ []) = tt
    rt_calm rt.PrivilegedWith [] = tt
    rt_calm rt.PrivilegedWith (Long x ∷ rest) = tt
    rt_calm rt.PrivilegedWith (Ref x ∷ rest) = tt
    rt_calm rt.PrivilegedWith (Ctx x ∷ rest) = tt
    rt_calm rt.PrivilegedWith (Int d ∷ []) = tt
    rt_calm rt.PrivilegedLimited [] = tt
    rt_calm rt.PrivilegedLimited (Long x ∷ rest) = tt
    rt_calm rt.PrivilegedLimited (Ref x ∷ rest) = tt
    rt_calm rt.PrivilegedLimited (Ctx x ∷ rest) = tt
    rt_calm rt.PrivilegedLimited (Int d ∷ []) = tt
    rt_calm rt.Privileged (Int d ∷ v ∷ []) = privilege_calm (domain_of d) None None v None
    rt_calm rt.Privileged (Int d ∷ v ∷ u ∷ rest) = tt
    rt_calm rt.PrivilegedWith (Int d ∷ c ∷ []) = tt
    rt_calm rt.PrivilegedWith (Int d ∷ c ∷ v ∷ []) = within_calm (domain_of d) None None c v
    rt_calm rt.PrivilegedWith (Int d ∷ c ∷ v ∷ u ∷ rest) = tt
    rt_calm rt.PrivilegedLimited (Int d ∷ Int x ∷ rest) = tt
    rt_calm rt.PrivilegedLimited (Int d ∷ Long x ∷ rest) = tt
    rt_calm rt.PrivilegedLimited (Int d ∷ Ref x ∷ rest) = tt
    rt_calm rt.PrivilegedLimited (Int d ∷ Ctx k ∷ []) = tt
    rt_calm rt.PrivilegedLimited (Int d ∷ Ctx k ∷ a ∷ []) = tt
    rt_calm rt.PrivilegedLimited (Int d ∷ Ctx k ∷ a ∷ c ∷ []) = tt
    rt_calm rt.PrivilegedLimited (Int d ∷ Ctx k ∷ a ∷ c ∷ v ∷ []) = limited_calm (domain_of d) (Some k) a c v
    rt_calm rt.PrivilegedLimited (Int d ∷ Ctx k ∷ a ∷ c ∷ v ∷ u ∷ rest) = tt

    plain_calm : (call : LibCall) (values : List Word) → Calm (library at s call values)
    plain_calm call values = library_calm s at call values

    module _ (own : Member → Bool) where
      run_calm : (call : LibCall) (values : List Word) → Calm (run r at own s es inherited call values)
      run_calm (calls.Controller call) values = controller_calm call values
      run_calm (calls.Rt call) values = rt_calm call values
      run_calm (calls.Thread call) values = thread_calm call values
      run_calm calls.ContextCheck values = context_calm values
      run_calm calls.ObjectInit values = plain_calm calls.ObjectInit values
      run_calm (calls.ThrownInit class way) values = plain_calm (calls.ThrownInit class way) values
      run_calm calls.AccessControlInit values = plain_calm calls.AccessControlInit values
      run_calm calls.GetMessage values = plain_calm calls.GetMessage values
      run_calm (calls.String call) values = plain_calm (calls.String call) values
      run_calm (calls.Builder call) values = plain_calm (calls.Builder call) values
      run_calm calls.Out values = plain_calm calls.Out values
      run_calm calls.PrintEnd values = plain_calm calls.PrintEnd values
      run_calm (calls.Print piece) values = plain_calm (calls.Print piece) values
      run_calm (calls.Run side) values = plain_calm (calls.Run side) values
      run_calm (calls.RunAction side) values = plain_calm (calls.RunAction side) values
      run_calm (calls.PermissionInit call) values = plain_calm (calls.PermissionInit call) values

      called_calm : (values : List Word) (t : Target) → Calm (called r at own s es inherited values t)
      called_calm values (Fails class) = tt
      called_calm values (Pushes m) = tt
      called_calm values (Runs call) = run_calm call values

      call_calm : (way : InvokeKind) (c : CallMeaning) (values : List Word) → Calm (call r at own s es inherited way c values)
      call_calm way c values = then_calm (called r at own s es inherited values) (called_calm values) (target at s way c values)

-- ---- what instructions do

module _ (P : ℕ → Type 0) where
  -- a jump leads where it may
  abbrev pub LeadsWell : PlainAct → Type 0
  LeadsWell (Jumps to) = P to
  LeadsWell act = Unit {0}

  calm_well : (act : PlainAct) → IsCalm act → LeadsWell act
  calm_well (Jumps to) h = absurd h
  calm_well (Goes s values events) h = tt
  calm_well (Leaves values) h = tt
  calm_well (Calls m arguments entry) h = tt
  calm_well (Raises events class message) h = tt
  calm_well (Throws n) h = tt
  calm_well (Switches table) h = tt
  calm_well (Makes s runnable k) h = tt

  abbrev RowWell : Rows → Type 0
  RowWell row = IfSome row (λ r. LeadsWell r.act)

  row_well : (row : Rows) → Calm row → RowWell row
  row_well None h = tt
  row_well (Some r) h = calm_well r.act h

  branch_well : (s : Store (List Item)) (to : ℕ) → P to → (b : Bool) → LeadsWell (branched {E = Unit {0}} s to b).act
  branch_well s to h true = h
  branch_well s to h false = tt

  jump_well : (s : Store (List Item)) (test : Test) (to : ℕ) → P to → (values : List Word) → RowWell (jump s test to values)
  unfolding jump
  jump_well s test to h values = by (holds test values)
    where
      by : (o : Option Bool) → RowWell (option_map (branched s to) o)
      by None = tt
      by (Some b) = branch_well s to h b

  case_well : (key : ℤ) (found : List (ℤ × ℕ)) (other : ℕ) → P other → AllByRecursion P (map (λ c. c.1) found) → P (case_of key found other)
  unfolding case_of
  case_well key [] other h all = h
  case_well key (c ∷ found) other h all = by (int_eq c.0 key) (case_well key found other h all.1)
    where
      by : (b : Bool) → P (case_of key found other) → P (if b then c.1 else case_of key found other)
      by true later = all.0
      by false later = later

  switch_well : (found : List (ℤ × ℕ)) (other : ℕ) → P other → AllByRecursion P (map (λ c. c.1) found) → (values : List Word) → RowWell (switch found other values)
  unfolding switch
  switch_well found other h all [] = tt
  switch_well found other h all (Int x ∷ []) = case_well x found other h all
  switch_well found other h all (Int x ∷ v ∷ vs) = tt
  switch_well found other h all (Long x ∷ []) = tt
  switch_well found other h all (Long x ∷ v ∷ vs) = tt
  switch_well found other h all (Ctx x ∷ []) = tt
  switch_well found other h all (Ctx x ∷ v ∷ vs) = tt
  switch_well found other h all (Ref n ∷ []) = tt
  switch_well found other h all (Ref n ∷ v ∷ vs) = tt

  -- the frame stands where it stood, and a jump leads where it may
  pub record Does (f : Frame) (d : Doing (List Item) (Unit {0})) : Type 0 where
    pub method : d.frame.method ≡ f.method
    pub place : d.frame.place ≡ f.place
    pub leads : LeadsWell d.row.act

  abbrev does : Frame → PlainRow → Doing (List Item) (Unit {0})
  does f x = record { frame = f; row = x }

  module _ (r : Rules (List Item) (Unit {0})) (at : Site) (own : Member → Bool) (s : Store (List Item)) (es : List (Unit {0})) (inherited : Option (List Item)) where
    with_row : (f : Frame) (t : Taken (List Item)) (o : Rows) → RowWell o → IfSome (option_map (does (with_operands f t.below)) o) (Does f)
    with_row f t None h = tt
    with_row f t (Some x) h = record { method = refl; place = refl; leads = h }

    by_does : (f : Frame) (row : List Word → Rows) → ((values : List Word) → RowWell (row values)) → (o : Option (Taken (List Item))) → IfSome (by_taken r at own s es inherited f o row) (Does f)
    by_does f row h None = tt
    by_does f row h (Some t) = with_row f t (row t.values) (h t.values)

    held_does : (f : Frame) (o : Option (Held (List Item))) → IfSome (by_held r at own s es inherited f o) (Does f)
    held_does f None = tt
    held_does f (Some h) = record { method = refl; place = refl; leads = tt }

    calm_does : (f : Frame) (row : List Word → Rows) → ((values : List Word) → Calm (row values)) → (o : Option (Taken (List Item))) → IfSome (by_taken r at own s es inherited f o row) (Does f)
    calm_does f row h o = by_does f row (λ values. row_well (row values) (h values)) o

    used_does : (m : Meaning) (f : Frame) → IfSome (used r at own s es inherited m f) (Does f)
    unfolding used
    used_does (meanings.Push c) f = calm_does f (push s c) (push_calm s c) (taken at.world s (wants_of r at own s es inherited (meanings.Push c)) f.operands)
    used_does (meanings.Field op m) f = calm_does f (field at.world s op m.member) (field_calm s at.world op m.member) (taken at.world s (wants_of r at own s es inherited (meanings.Field op m)) f.operands)
    used_does (meanings.Call how.Init c) f = calm_does f (call r at own s es inherited how.Init c) (call_calm s r at es inherited own how.Init c) (init_taken at.world s c f.operands)
    used_does (meanings.Call how.Virtual c) f = calm_does f (call r at own s es inherited how.Virtual c) (call_calm s r at es inherited own how.Virtual c) (taken at.world s (wants_of r at own s es inherited (meanings.Call how.Virtual c)) f.operands)
    used_does (meanings.Call how.Special c) f = calm_does f (call r at own s es inherited how.Special c) (call_calm s r at es inherited own how.Special c) (taken at.world s (wants_of r at own s es inherited (meanings.Call how.Special c)) f.operands)
    used_does (meanings.Call how.Static c) f = calm_does f (call r at own s es inherited how.Static c) (call_calm s r at es inherited own how.Static c) (taken at.world s (wants_of r at own s es inherited (meanings.Call how.Static c)) f.operands)
    used_does (meanings.Call how.Interface c) f = calm_does f (call r at own s es inherited how.Interface c) (call_calm s r at es inherited own how.Interface c) (taken at.world s (wants_of r at own s es inherited (meanings.Call how.Interface c)) f.operands)
    used_does (meanings.Make c) f = calm_does f (make at.world s c) (make_calm s at.world c) (taken at.world s (wants_of r at own s es inherited (meanings.Make c)) f.operands)
    used_does (meanings.MakeArray t) f = calm_does f (array_rows.make s t) (make_array_calm s t) (taken at.world s (wants_of r at own s es inherited (meanings.MakeArray t)) f.operands)
    used_does (meanings.Cast op t) f = calm_does f (cast at.world s op t) (cast_calm s at.world op t) (taken at.world s (wants_of r at own s es inherited (meanings.Cast op t)) f.operands)

    -- What an instruction does leads where its targets may be.
    pub instruction_does : (i : Instruction) (f : Frame) → AllByRecursion P (targets i) → IfSome (doing r at own s es inherited i f) (Does f)
    unfolding doing
    instruction_does (Simple form) f h = calm_does f (simple s form) (simple_calm s form) (taken at.world s (of_kinds (simple_effect form).takes) f.operands)
    instruction_does (Local form) f h = held_does f (local form (holding f.locals f.operands))
    instruction_does (Stack op) f h = held_does f (stack op (holding f.locals f.operands))
    instruction_does (Jump test to) f h = by_does f (jump s test to) (jump_well s test to h.0) (taken at.world s (of_kinds (tested test)) f.operands)
    instruction_does (Switch found other) f h = by_does f (switch found other) (switch_well found other h.0 h.1) (taken at.world s (Of kinds.Int ∷ []) f.operands)
    instruction_does (Return kind) f h = calm_does f leave (λ values. tt) (taken at.world s (of_kinds (returned kind)) f.operands)
    instruction_does Throw f h = calm_does f throw (throw_calm s) (taken at.world s (Fits throwable ∷ []) f.operands)
    instruction_does (Array form) f h = calm_does f (array_rows.array at.world s form) (array_calm s at.world form) (taken at.world s (array_wants form) f.operands)
    instruction_does (Used m) f h = used_does m f
