-- Calls of the methods of AccessController: the context and the domain are handed to what stands for them, which answers alike.
use Rattle.std.proofs.Common.{◌≡◌, ℕ, zero, suc, ◌+◌, pos, true, List, [], ◌∷◌, ◌++◌, length, map, Option, Some, None, option_map, refl, sym, ap, ◌∙◌, subst, arith}
use Rattle.std.specs.Prelude.{option_and_then, slice_get}
use Rattle.jperm.specs.declared.permission.Permission.{Permission as Perm}
use Rattle.jlib.specs.declared.side.Side.TheVariants.{Source, Passing}
use Rattle.jlib.specs.declared.calls.ControllerCall.{ControllerCall}
use Rattle.jlib.specs.declared.calls.ControllerCall.TheVariants as controller
use Rattle.jlib.specs.declared.calls.LibCall.TheVariants as calls
use Rattle.jlib.specs.declared.calls.RtCall.{RtCall}
use Rattle.jlib.specs.declared.calls.RtCall.TheVariants as rt
use Rattle.jvalues.specs.declared.jops.value.Value.TheVariants.{Int, Long, Ref, Ctx}
use Rattle.jtypes.specs.declared.vtype.VType.{VType}
use Rattle.jresolution.specs.declared.jprogram.member.Member.{Member}
use Rattle.jresolution.specs.declared.jprogram.member.Member.TheVariants.{LibMethod}
use Rattle.jresolution.specs.declared.jprogram.member.Selected.{Selected}
use Rattle.jresolution.specs.declared.juses.meaning.InvokeKind.TheVariants as how
use Rattle.jresolution.specs.juses.IndexedInstructions.{Instruction, Used}
use Rattle.jresolution.specs.juses.InstructionMeanings.{Call, CallMeaning}
use Rattle.jctx.specs.declared.item.Item.{Item}
use Rattle.jctx.specs.Contexts.{privileged, verdict}
use Rattle.jtyping.specs.jrule.StackEffects.{Fits}
use Rattle.jsemantics.specs.jmachine.MachineStates.{Act, Went}
use Rattle.jsemantics.specs.jmachine.AccessQueries.{call_taken}
use Rattle.jsemantics.specs.jmachine.AccessCallRows.{context_made, controller_row, rt_row}
use Rattle.jsemantics.specs.jmachine.CallTargets.{Target, Fails, Pushes, Runs, by_interface, reached, target}
use Rattle.jsemantics.specs.jmachine.InstructionActions.{called}
use Rattle.jsemantics.specs.jmachine.FrameOperations.{domain_of, standing}
use Rattle.jsemantics.specs.jmachine.HeapObjects.{Object}
use Rattle.jsemantics.specs.jmachine.TakenOperands.{Taken, taken, with_value}
use Rattle.jsemantics.specs.jmachine.PrivilegeActions.{acting, acting_on, action, given, limited_by, limits, privilege, run_action}
use Rattle.jsemantics.specs.jmachine.Security.{Privilege, checked}
use Rattle.jsemantics.specs.jmachine.InstructionSites.{Site}
use Rattle.jsemantics.specs.jmachine.MachineSteps.{fetched, own_fields}
use Rattle.jsemantics.specs.jmachine.Store.{Store, object_at}
use Rattle.jsemantics.specs.jmachine.World.{world}
use Rattle.jsimulation_laws.specs.between.BetweenMachines.{Noted, Privileged, context_of, noted, shadowed, sourced}
use Rattle.jsimulation_laws.proofs.StutteringProofs.Silences.{Silently}
use Rattle.jsimulation_laws.specs.relation.InstructionExpansion.{Asking, Place, Way, asking, asking_params, call_rt, calling, expanded, load, moved_target, push, rt_meaning, way_of}
use Rattle.jsimulation_laws.specs.relation.ProgramRelation as moved
use Rattle.jsimulation_laws.specs.relation.StateRelation.{Frame, Point, Word, entries}
use Rattle.jsimulation_laws.specs.relation.StepCounts.{call_steps, instruction_steps}
use Rattle.jsimulation_laws.proofs.LocalProofs.CallSimulation as call
use Rattle.jsimulation_laws.proofs.LocalProofs.CallSimulation.{LedTo, Rows, with_front}
use Rattle.jsimulation_laws.proofs.LocalProofs.Locals as locals
use Rattle.jsimulation_laws.proofs.LocalProofs.Prologues.{load_step, push_step}
use Rattle.jsimulation_laws.proofs.LocalProofs.RelatedStates.{Newest, Scene, follows, other, stepped}
use Rattle.jsimulation_laws.proofs.LocalProofs.WorldAgreement.{call_taken_same}
use Rattle.jsimulation_laws.proofs.LocalProofs.MovedStates.{spot, zero_more}
use Rattle.jsimulation_laws.proofs.LocalProofs.RowComparison as taking

-- ---- what stands for a method of AccessController, and what it is given in front of the operands

abbrev rt_of : ControllerCall → RtCall
rt_of controller.Check = rt.Check
rt_of controller.Snapshot = rt.Snapshot
rt_of controller.Privileged = rt.Privileged
rt_of controller.PrivilegedWith = rt.PrivilegedWith
rt_of controller.PrivilegedLimited = rt.PrivilegedLimited

abbrev front : ℕ → List Item → ControllerCall → List Word
front d k controller.Check = Ctx k ∷ []
front d k controller.Snapshot = Ctx k ∷ []
front d k controller.Privileged = Int (pos d) ∷ []
front d k controller.PrivilegedWith = Int (pos d) ∷ []
front d k controller.PrivilegedLimited = Int (pos d) ∷ Ctx k ∷ []

module _ (at : Site) (s : Store (List Item)) (d : ℕ) (k : List Item) where
  abbrev taken_by : List VType → List Word → Option (Taken (List Item))
  taken_by params operands = taken at.world s (map Fits params ++ []) operands

  two_taken : (o : Option (Taken (List Item)))
      → option_map (with_value (Int (pos d))) (option_map (with_value (Ctx k)) o) ≡ option_map (with_front (Int (pos d) ∷ Ctx k ∷ [])) o
  two_taken None = refl
  two_taken (Some t) = refl

  front_taken : (one : ControllerCall) (operands : List Word)
      → call_taken Source at s how.Static (rt_meaning (rt_of one)) (front d k one ++ operands) ≡ option_map (with_front (front d k one)) (taken_by (asking_params one) operands)
  unfolding taken
  front_taken controller.Check operands = refl
  front_taken controller.Snapshot operands = refl
  front_taken controller.Privileged operands = refl
  front_taken controller.PrivilegedWith operands = refl
  front_taken controller.PrivilegedLimited operands = two_taken (taken_by (asking_params controller.PrivilegedLimited) operands)

  asked_taken : (one : ControllerCall) (c : CallMeaning) (operands : List Word) → c.params ≡ asking_params one
      → call_taken Source at s how.Static (rt_meaning (rt_of one)) (front d k one ++ operands) ≡ option_map (with_front (front d k one))
      (call_taken Source at s how.Static c operands)
  asked_taken one c operands e = front_taken one operands ∙ ap (λ params. option_map (with_front (front d k one)) (taken_by params operands)) (sym e)

module _ (z : Scene) (top : Newest z) (c : CallMeaning) (at : fetched z.p top.f.method top.f.place ≡ Some (Used (Call how.Static c)))
    (one : ControllerCall) (member : c.member ≡ LibMethod (calls.Controller one)) (params : c.params ≡ asking_params one) where
  abbrev k : List Item
  k = call.k z top how.Static c at

  abbrev d : ℕ
  d = top.new.frame.code.place.domain

  abbrev here_at : Site
  here_at = call.here_at z top how.Static c at

  abbrev there_at : Site
  there_at = moved.there z.q here_at

  abbrev to : ℕ → ℕ
  to = top.new.frame.code.at

  abbrev S : List Frame → Point
  S xs = other z xs

  abbrev older : List Item
  older = context_of (entries top.fs) z.s.running.inherited

  abbrev whole : List Item
  whole = context_of (entries (top.f ∷ top.fs)) z.s.running.inherited

  stays : k ≡ whole
  stays = ap (λ (e : Noted). context_of (e ∷ entries top.fs) z.s.running.inherited) (sym top.new.bare)

  -- what invokes a method is answered by so many silent steps, the call and four
  abbrev Invoking : ℕ → ControllerCall → Type 0
  Invoking n controller.Check = Unit {0}
  Invoking n controller.Snapshot = Unit {0}
  Invoking n some = instruction_steps (Used (Call how.Static c)) true ≡ n + 5

  module _ (n : ℕ) (t : Taken (List Item)) where
    abbrev Can : Act (List Item) Noted → List Item → Type 0
    Can act k' = call.CanDo z top how.Static c at n t act k'

    -- ---- checks and snapshots

    check_led : (v : Word) → LedTo to Can (checked here_at z.s.store (λ asked. verdict z.has asked whole) v) (checked there_at z.s.store (λ asked. verdict z.has asked k) v)
    check_led v =
        subst (λ (x : List Item). LedTo to Can (checked here_at z.s.store (λ asked. verdict z.has asked x) v) (checked there_at z.s.store (λ asked. verdict z.has asked k) v))
        stays
        (call.checked_led z top how.Static c at n t (λ asked. verdict z.has asked k) v)

    snapshot_led : LedTo to Can (Some (context_made z.s.store whole)) (Some (context_made z.s.store k))
    snapshot_led = subst (λ (x : List Item). LedTo to Can (Some (context_made z.s.store x)) (Some (context_made z.s.store k))) stays (k, tt, refl)

    -- ---- privileges

    -- the frame that calls, marked, and the context that the action is given
    abbrev privilege_of : Option (List Item) → Option (List Perm) → Option (List Item) → Privilege (List Item) Noted
    privilege_of given' limits' context = record { caller = noted top.f.entry.domain (Privileged given' limits'); context = context }

    -- an action is run, if it isn't the library's
    module _ (many : instruction_steps (Used (Call how.Static c)) true ≡ n + 5) where
      module _ (given' : Option (List Item)) (limits' : Option (List Perm)) (k' : List Item) (is : k' ≡ privileged top.f.entry.domain given' limits' older) where
        acting_led : (i : ℕ) (x : Object (List Item)) (o : Target) → by_interface (world z.p) here_at.full (run_action Source) x ≡ o
            → LedTo to Can (acting i (privilege_of given' limits' None) o) (acting i (privilege_of given' limits' (Some k')) (moved_target o))
        acting_led i x (Fails class) e = (k', tt, refl)
        acting_led i x (Pushes m) e = (
          k',
          (
            many,
            λ body has_code. record {
              fills = locals.one_place (Ref i) refl ∙ sym (z.moves.fills.actions here_at.full x m body has_code e);
              domain = top.new.frame.domain;
              context = is;
            },
          ),
          refl,
        )
        acting_led i x (Runs call') e = tt

        object_led : (i : ℕ) (o : Option (Object (List Item)))
            → LedTo to Can (acting_on here_at Source i (privilege_of given' limits' None) o) (acting_on there_at Passing i (privilege_of given' limits' (Some k')) o)
        object_led i None = tt
        object_led i (Some x) =
            subst
            (λ (o : Target). LedTo to Can (acting i (privilege_of given' limits' None) (by_interface (world z.p) here_at.full (run_action Source) x))
            (acting i (privilege_of given' limits' (Some k')) o))
            (sym (z.moves.calls.actions here_at.full x))
            (acting_led i x (by_interface (world z.p) here_at.full (run_action Source) x) refl)

        action_led : (v : Word)
            → LedTo to Can (action here_at z.s.store Source v (privilege_of given' limits' None)) (action there_at z.s.store Passing v (privilege_of given' limits' (Some k')))
        action_led (Int x) = tt
        action_led (Long x) = tt
        action_led (Ctx x) = tt
        action_led (Ref zero) = (k', tt, refl)
        action_led (Ref (suc i)) = object_led (suc i) (object_at z.s.store (suc i))

      domain_same : d ≡ top.f.entry.domain
      domain_same = top.new.frame.code.domain ∙ sym top.new.frame.domain

      -- without limits nothing of the older frames is left,
      alone_same : (given' : Option (List Item)) → privileged d given' None [] ≡ privileged top.f.entry.domain given' None older
      alone_same given' = ap (λ n. privileged n given' None []) domain_same

      -- and with limits the method's own domain adds nothing
      limited_same : (given' : Option (List Item)) (ps : List Perm) → privileged d given' (Some ps) k ≡ privileged top.f.entry.domain given' (Some ps) older
      limited_same given' ps =
          ap (λ n. privileged n given' (Some ps) k) top.new.frame.code.domain
          ∙ z.same (domain_of z.p top.f.method) given' (Some ps) older
          ∙ ap (λ n. privileged n given' (Some ps) older) (sym top.new.frame.domain)

      module _ (carried : List Noted) where
        abbrev marks : List Noted
        marks = entries (top.f ∷ top.fs)

        abbrev marks_there : List Noted
        marks_there = top.f.entry ∷ carried

        within_led : (v : Word) (o : Option (Option (List Item)))
            → LedTo to Can (option_and_then (privilege (sourced z.has) here_at z.s.store marks None None None v) o)
            (option_and_then (privilege (shadowed z.has) there_at z.s.store marks_there (Some d) None None v) o)
        unfolding sourced shadowed
        within_led v None = tt
        within_led v (Some given') = action_led given' None (privileged d given' None []) (alone_same given') v

        limited_within_led : (v : Word) (ps : List Perm) (o : Option (Option (List Item)))
            → LedTo to Can (option_and_then (privilege (sourced z.has) here_at z.s.store marks None None (Some ps) v) o)
            (option_and_then (privilege (shadowed z.has) there_at z.s.store marks_there (Some d) (Some k) (Some ps) v) o)
        unfolding sourced shadowed
        limited_within_led v ps None = tt
        limited_within_led v ps (Some given') = action_led given' (Some ps) (privileged d given' (Some ps) k) (limited_same given' ps) v

        limited_led : (context v : Word) (o : Option (Option (List Perm)))
            → LedTo to Can (option_and_then (limited_by (sourced z.has) here_at z.s.store marks None None context v) o)
            (option_and_then (limited_by (shadowed z.has) there_at z.s.store marks_there (Some d) (Some k) context v) o)
        limited_led context v None = tt
        limited_led context v (Some None) = (k, tt, refl)
        limited_led context v (Some (Some ps)) = limited_within_led v ps (given z.s.store context)

    module _ (carried : List Noted) where
      -- ---- each method, by what it was given

      led : (some : ControllerCall) → Invoking n some → (values : List Word)
          → LedTo to Can (controller_row (sourced z.has) here_at z.s.store (entries (top.f ∷ top.fs)) z.s.running.inherited some values)
          (rt_row (shadowed z.has) there_at z.s.store (top.f.entry ∷ carried) z.s.running.inherited (rt_of some) (front d k some ++ values))
      unfolding controller_row rt_row sourced shadowed
      led controller.Check many [] = tt
      led controller.Check many (v ∷ []) = check_led v
      led controller.Check many (v ∷ w ∷ vs) = tt
      led controller.Snapshot many [] = snapshot_led
      led controller.Snapshot many (v ∷ vs) = tt
      led controller.Privileged many [] = tt
      led controller.Privileged many (v ∷ []) = action_led many None None (privileged d None None []) (alone_same many None) v
      led controller.Privileged many (v ∷ w ∷ vs) = tt
      led controller.PrivilegedWith many [] = tt
      led controller.PrivilegedWith many (context ∷ []) = tt
      led controller.PrivilegedWith many (context ∷ v ∷ []) = within_led many carried v (given z.s.store context)
      led controller.PrivilegedWith many (context ∷ v ∷ w ∷ vs) = tt
      led controller.PrivilegedLimited many [] = tt
      led controller.PrivilegedLimited many (array ∷ []) = tt
      led controller.PrivilegedLimited many (array ∷ context ∷ []) = tt
      led controller.PrivilegedLimited many (array ∷ context ∷ v ∷ []) = limited_led many carried context v (limits z.s.store array)
      led controller.PrivilegedLimited many (array ∷ context ∷ v ∷ w ∷ vs) = tt

  -- ---- the silent steps

  abbrev steps : ControllerCall → ℕ
  steps controller.PrivilegedLimited = 2
  steps some = 1

  invoking : (some : ControllerCall) → way_of c.member ≡ Asking some → Invoking (steps some) some
  invoking controller.Check e = tt
  invoking controller.Snapshot e = tt
  invoking controller.Privileged e = ap (λ (way : Way). call_steps way true) e
  invoking controller.PrivilegedWith e = ap (λ (way : Way). call_steps way true) e
  invoking controller.PrivilegedLimited e = ap (λ (way : Way). call_steps way true) e

  abbrev place_is : Place
  place_is = top.new.frame.code.place

  abbrev becomes : List Instruction
  becomes = expanded place_is to (Used (Call how.Static c))

  last_by : (some : ControllerCall) → becomes ≡ asking place_is some → length becomes ≡ steps some + 1
  last_by controller.Check e = ap (λ (xs : List Instruction). length xs) e
  last_by controller.Snapshot e = ap (λ (xs : List Instruction). length xs) e
  last_by controller.Privileged e = ap (λ (xs : List Instruction). length xs) e
  last_by controller.PrivilegedWith e = ap (λ (xs : List Instruction). length xs) e
  last_by controller.PrivilegedLimited e = ap (λ (xs : List Instruction). length xs) e

  nth : (some : ControllerCall) → becomes ≡ asking place_is some → (j : ℕ) (x : Instruction) → slice_get (asking place_is some) j ≡ Some x
      → fetched z.q top.f.method (top.place + j) ≡ Some x
  nth some e j x is = call.nth z top how.Static c at j x (ap (λ (xs : List Instruction). slice_get xs j) e ∙ is)

  at_by : (some : ControllerCall) → becomes ≡ asking place_is some → fetched z.q top.f.method (top.place + steps some) ≡ Some (call_rt (rt_of some))
  at_by controller.Check e = nth controller.Check e 1 (call_rt rt.Check) refl
  at_by controller.Snapshot e = nth controller.Snapshot e 1 (call_rt rt.Snapshot) refl
  at_by controller.Privileged e = nth controller.Privileged e 1 (call_rt rt.Privileged) refl
  at_by controller.PrivilegedWith e = nth controller.PrivilegedWith e 1 (call_rt rt.PrivilegedWith) refl
  at_by controller.PrivilegedLimited e = nth controller.PrivilegedLimited e 2 (call_rt rt.PrivilegedLimited) refl

  first_of : (some : ControllerCall) → becomes ≡ asking place_is some → (x : Instruction) → slice_get (asking place_is some) 0 ≡ Some x
      → fetched z.q top.f.method top.place ≡ Some x
  first_of some e x is = ap (λ n. fetched z.q top.f.method n) (zero_more top.place) ∙ nth some e 0 x is

  abbrev ready : ControllerCall → Frame
  ready some = call.ready z top how.Static c at (steps some) (front d k some)

  abbrev g : Frame
  g = spot top.f top.place top.ys

  loads : fetched z.q top.f.method top.place ≡ Some (load place_is.local)
      → follows z (S (g ∷ top.gs)) ≡ Went (S (standing g (top.place + 1) (Ctx k ∷ top.f.operands) ∷ top.gs)) []
  loads is = load_step z.has z.q z.plan z.moves.calls.rt z.s z.es z.ls g top.gs place_is.local k is top.new.frame.context

  pushes : fetched z.q top.f.method top.place ≡ Some (push d) → follows z (S (g ∷ top.gs)) ≡ Went (S (standing g (top.place + 1) (Int (pos d) ∷ top.f.operands) ∷ top.gs)) []
  pushes is = push_step z.has z.q z.plan z.moves.calls.rt z.s z.es z.ls g top.gs d is

  quiet_by : (some : ControllerCall) → becomes ≡ asking place_is some → Silently (follows z) (steps some) (S (g ∷ top.gs)) (S (ready some ∷ top.gs))
  quiet_by controller.Check e = (S (ready controller.Check ∷ top.gs), loads (first_of controller.Check e (load place_is.local) refl), refl)
  quiet_by controller.Snapshot e = (S (ready controller.Snapshot ∷ top.gs), loads (first_of controller.Snapshot e (load place_is.local) refl), refl)
  quiet_by controller.Privileged e = (S (ready controller.Privileged ∷ top.gs), pushes (first_of controller.Privileged e (push d) refl), refl)
  quiet_by controller.PrivilegedWith e = (S (ready controller.PrivilegedWith ∷ top.gs), pushes (first_of controller.PrivilegedWith e (push d) refl), refl)
  quiet_by controller.PrivilegedLimited e =
      let a = standing g (top.place + 1) (Ctx k ∷ top.f.operands) in
      let b = standing g (top.place + 1 + 1) (Int (pos d) ∷ Ctx k ∷ top.f.operands) in (
        S (a ∷ top.gs),
        loads (first_of controller.PrivilegedLimited e (load place_is.local) refl),
        (
          S (b ∷ top.gs),
          push_step z.has z.q z.plan z.moves.calls.rt z.s z.es z.ls a top.gs d (nth controller.PrivilegedLimited e 1 (push d) refl),
          ap
              (λ n. S (standing g n (Int (pos d) ∷ Ctx k ∷ top.f.operands) ∷ top.gs)) (two_more top.place),
        ),
      )
    where
      two_more : (n : ℕ) → n + 1 + 1 ≡ n + 2
      two_more n = omega arith

  -- ---- what both calls come to

  here_row : (values : List Word)
      → call.row_before z top how.Static c at values ≡ controller_row (sourced z.has) here_at z.s.store (entries (top.f ∷ top.fs)) z.s.running.inherited one values
  unfolding target
  here_row values =
      ap
      (λ (x : Selected). option_and_then (called (sourced z.has) here_at (own_fields z.p top.f.method) z.s.store (entries (top.f ∷ top.fs)) z.s.running.inherited values)
      (Some (reached here_at.full x)))
      (ap (λ (m : Member). (world z.p).itself m) member ∙ z.moves.calls.controller one)

  there_row : (some : ControllerCall) (values : List Word) → call.row_behind z top how.Static c at how.Static (rt_meaning (rt_of some)) (steps some) (front d k some) values
      ≡ rt_row (shadowed z.has) there_at z.s.store (entries (ready some ∷ top.gs)) z.s.running.inherited (rt_of some) values
  unfolding target
  there_row some values =
      ap
      (λ (x : Selected). option_and_then
      (called (shadowed z.has) there_at (own_fields z.q top.f.method) z.s.store (entries (ready some ∷ top.gs)) z.s.running.inherited values)
      (Some (reached there_at.full x)))
      (z.moves.calls.rt (rt_of some))

  rows_led : (t : Taken (List Item)) → LedTo to (call.CanDo z top how.Static c at (steps one) t) (call.row_before z top how.Static c at t.values)
      (call.row_behind z top how.Static c at how.Static (rt_meaning (rt_of one)) (steps one) (front d k one) (front d k one ++ t.values))
  rows_led t =
      subst
      (λ (o : Rows). LedTo to (call.CanDo z top how.Static c at (steps one) t) o
      (call.row_behind z top how.Static c at how.Static (rt_meaning (rt_of one)) (steps one) (front d k one) (front d k one ++ t.values)))
      (sym (here_row t.values))
      (subst
      (λ (o : Rows). LedTo to (call.CanDo z top how.Static c at (steps one) t)
      (controller_row (sourced z.has) here_at z.s.store (entries (top.f ∷ top.fs)) z.s.running.inherited one t.values) o)
      (sym (there_row one (front d k one ++ t.values)))
      (led (steps one) t (entries top.gs) one (invoking one (ap way_of member)) t.values))

  way_is : becomes ≡ asking place_is one
  way_is = ap (λ (m : Member). calling place_is how.Static c (way_of m)) member

  -- A call of a method of AccessController is answered in two or three steps, and in six or seven where it pushes a frame.
  pub asking_follows : taking.A z (stepped z) (g ∷ top.gs)
  asking_follows =
      call.call_follows z top how.Static c at how.Static (rt_meaning (rt_of one)) (front d k one) (steps one) (quiet_by one way_is) (at_by one way_is)
      (last_by one way_is)
      (call_taken_same here_at (world z.q) z.moves.classes z.s.store how.Static (rt_meaning (rt_of one)) (front d k one ++ top.f.operands)
      ∙ asked_taken here_at z.s.store d k one c top.f.operands params)
      (λ t takes. rows_led t)
