-- Calls that hand on a context: those of users' methods, of both `run`, and of Thread's constructor.
use Rattle.std.proofs.Common.{◌≡◌, ℕ, Bool, true, false, List, [], ◌∷◌, ◌++◌, length, Option, Some, None, option_map, refl, sym, ap, ◌∙◌, subst}
use Rattle.std.specs.Prelude.{option_and_then, slice_get, if◌then◌else◌}
use Rattle.jlib.specs.declared.side.Side.TheVariants.{Source, Passing}
use Rattle.jlib.specs.declared.calls.LibCall.{LibCall}
use Rattle.jlib.specs.declared.calls.LibCall.TheVariants as calls
use Rattle.jlib.specs.declared.calls.ThreadCall.TheVariants as threads
use Rattle.jvalues.specs.declared.jops.value.Value.TheVariants.{Int, Long, Ref, Ctx}
use Rattle.jtypes.specs.declared.vtype.Name.{Name}
use Rattle.jresolution.specs.declared.juses.meaning.InvokeKind.{InvokeKind}
use Rattle.jresolution.specs.declared.juses.meaning.InvokeKind.TheVariants as how
use Rattle.jresolution.specs.juses.IndexedInstructions.{Instruction, Used}
use Rattle.jresolution.specs.juses.InstructionMeanings.{Call, CallMeaning}
use Rattle.jctx.specs.declared.item.Item.{Item}
use Rattle.jtyping.specs.jrule.PoolEffects.{arguments}
use Rattle.jsemantics.specs.jmachine.MachineStates.{Act, Went}
use Rattle.jsemantics.specs.jmachine.AccessQueries.{call_taken}
use Rattle.jsemantics.specs.jmachine.AccessCallRows.{thread_made, thread_row}
use Rattle.jsemantics.specs.jmachine.CallTargets.{Target, Fails, Pushes, Runs, begun_on, init_taken, may_begin, target}
use Rattle.jsemantics.specs.jmachine.InstructionActions.{called, run}
use Rattle.jsemantics.specs.jmachine.LibraryCalls.{library}
use Rattle.jsemantics.specs.jmachine.HeapObjects.{Object, Instance, Thrown, Text, Builder, Piece, Permission, Context, Thread, Bare, Array}
use Rattle.jsemantics.specs.jmachine.TakenOperands.{Taken, taken, with_value}
use Rattle.jsemantics.specs.jmachine.InstructionSites.{Site}
use Rattle.jsemantics.specs.jmachine.MachineSteps.{fetched, own_fields}
use Rattle.jsemantics.specs.jmachine.Store.{Store, object_at}
use Rattle.jsemantics.specs.jmachine.ThreadOperations.{thread}
use Rattle.jsemantics.specs.jmachine.World.{World, world}
use Rattle.jsimulation_laws.specs.between.BetweenMachines.{Noted, context_of, shadowed, sourced}
use Rattle.jsimulation_laws.proofs.StutteringProofs.Silences.{Silently}
use Rattle.jsimulation_laws.specs.relation.InstructionExpansion.{Handed, Way, calling, expanded, handed, handing, load, moved_target, passing, runs_handed, way_of}
use Rattle.jsimulation_laws.specs.relation.ProgramRelation as moved
use Rattle.jsimulation_laws.specs.relation.ProgramRelation.{Calling}
use Rattle.jsimulation_laws.specs.relation.StateRelation.{Frame, Point, Word, entries}
use Rattle.jsimulation_laws.specs.relation.StepCounts.{call_steps}
use Rattle.jsimulation_laws.proofs.LocalProofs.CallSimulation as call
use Rattle.jsimulation_laws.proofs.LocalProofs.CallSimulation.{LedTo, Rows, with_front}
use Rattle.jsimulation_laws.proofs.LocalProofs.Prologues.{load_step}
use Rattle.jsimulation_laws.proofs.LocalProofs.RelatedStates.{Newest, Scene, follows, other, stepped}
use Rattle.jsimulation_laws.proofs.LocalProofs.WorldAgreement.{call_taken_same}
use Rattle.jsimulation_laws.proofs.LocalProofs.MovedStates.{spot, zero_more}
use Rattle.jsimulation_laws.proofs.LocalProofs.RowComparison as taking

-- ---- what is taken: the context, and what the call took before

abbrev alone : List Item → List Word
alone k = Ctx k ∷ []

module _ (w : World) (s : Store (List Item)) (c : CallMeaning) (k : List Item) where
  when_begun : (owner : Name) (values below : List Word) (v : Word) (b : Bool)
      → (if b then Some (record { values = (Ctx k ∷ values) ++ v ∷ []; below = below }) else None) ≡ option_map (with_front (alone k))
      (if b then Some (record { values = values ++ v ∷ []; below = below }) else None)
  when_begun owner values below v true = refl
  when_begun owner values below v false = refl

  begun_handed : (owner : Name) (values below : List Word) → begun_on w s owner (Ctx k ∷ values) below ≡ option_map (with_front (alone k)) (begun_on w s owner values below)
  begun_handed owner values [] = refl
  begun_handed owner values (v ∷ below) = when_begun owner values below v (may_begin w s owner v)

  init_by : (o : Option (Taken (List Item)))
      → option_and_then (λ (t : Taken (List Item)). begun_on w s c.owner t.values t.below) (option_map (with_value (Ctx k)) o)
      ≡ option_map (with_front (alone k)) (option_and_then (λ (t : Taken (List Item)). begun_on w s c.owner t.values t.below) o)
  init_by None = refl
  init_by (Some t) = begun_handed c.owner t.values t.below

  init_handed : (operands : List Word) → init_taken w s (handed c) (Ctx k ∷ operands) ≡ option_map (with_front (alone k)) (init_taken w s c operands)
  unfolding init_taken taken
  init_handed operands = init_by (taken w s (arguments c) operands)

handed_taken : (at : Site) (s : Store (List Item)) (by : InvokeKind) (c : CallMeaning) (k : List Item) (operands : List Word)
    → call_taken Source at s by (handed c) (Ctx k ∷ operands) ≡ option_map (with_front (alone k)) (call_taken Source at s by c operands)
unfolding taken
handed_taken at s how.Virtual c k operands = refl
handed_taken at s how.Special c k operands = refl
handed_taken at s how.Static c k operands = refl
handed_taken at s how.Interface c k operands = refl
handed_taken at s how.Init c k operands = init_handed at.world s c k operands

-- ---- what is done

module _ (z : Scene) (top : Newest z) (by : InvokeKind) (c : CallMeaning) (at : fetched z.p top.f.method top.f.place ≡ Some (Used (Call by c))) (way : way_of c.member ≡ Handed) where
  abbrev k : List Item
  k = call.k z top by c at

  abbrev here_at : Site
  here_at = call.here_at z top by c at

  abbrev to : ℕ → ℕ
  to = top.new.frame.code.at

  abbrev S : List Frame → Point
  S xs = other z xs

  abbrev ready : Frame
  ready = call.ready z top by c at 1 (alone k)

  stays : k ≡ context_of (entries (top.f ∷ top.fs)) z.s.running.inherited
  stays = ap (λ (e : Noted). context_of (e ∷ entries top.fs) z.s.running.inherited) (sym top.new.bare)

  module _ (t : Taken (List Item)) (takes : call.taken_here z top by c at ≡ Some t) where
    abbrev Can : Act (List Item) Noted → List Item → Type 0
    Can act k' = call.CanDo z top by c at 1 t act k'

    -- ---- Thread's constructor

    -- it keeps the context in either form
    made_led : (n runnable : ℕ) (o : Option (Object (List Item)))
        → LedTo to Can (thread_made here_at z.s.store n runnable k o) (thread_made (moved.there z.q here_at) z.s.store n runnable k o)
    made_led n runnable None = tt
    made_led n runnable (Some (Instance class message fields)) = tt
    made_led n runnable (Some (Thrown class message)) = tt
    made_led n runnable (Some (Text units)) = tt
    made_led n runnable (Some (Builder units)) = tt
    made_led n runnable (Some (Piece units)) = tt
    made_led n runnable (Some (Permission class held)) = tt
    made_led n runnable (Some (Context kept)) = tt
    made_led n runnable (Some (Thread number)) = (k, tt, refl)
    made_led n runnable (Some (Bare class)) = tt
    made_led n runnable (Some (Array type items)) = tt

    abbrev init_before : List Word → Rows
    init_before values = thread_row (sourced z.has) here_at z.s.store (entries (top.f ∷ top.fs)) z.s.running.inherited (threads.Init Source) values

    abbrev init_behind : List Word → Rows
    init_behind values = thread_row (shadowed z.has) (moved.there z.q here_at) z.s.store (entries (ready ∷ top.gs)) z.s.running.inherited (threads.Init Passing) values

    init_led : (values : List Word) → LedTo to Can (init_before values) (init_behind (Ctx k ∷ values))
    unfolding thread_row thread sourced shadowed
    init_led [] = tt
    init_led (Int x ∷ vs) = tt
    init_led (Long x ∷ vs) = tt
    init_led (Ctx x ∷ vs) = tt
    init_led (Ref r ∷ []) = tt
    init_led (Ref r ∷ Int x ∷ vs) = tt
    init_led (Ref r ∷ Long x ∷ vs) = tt
    init_led (Ref r ∷ Ctx x ∷ vs) = tt
    init_led (Ref r ∷ Ref n ∷ []) =
        subst
        (λ (x : List Item). LedTo to Can (thread_made here_at z.s.store n r x (object_at z.s.store n))
        (thread_made (moved.there z.q here_at) z.s.store n r k (object_at z.s.store n))) stays
        (made_led n r (object_at z.s.store n))
    init_led (Ref r ∷ Ref n ∷ v ∷ vs) = tt

    -- ---- what the call comes to

    abbrev run_before : LibCall → Rows
    run_before one = run (sourced z.has) here_at (own_fields z.p top.f.method) z.s.store (entries (top.f ∷ top.fs)) z.s.running.inherited one t.values

    abbrev run_behind : LibCall → Rows
    run_behind one =
        run (shadowed z.has) (moved.there z.q here_at) (own_fields z.q top.f.method) z.s.store (entries (ready ∷ top.gs)) z.s.running.inherited one (Ctx k ∷ t.values)

    library_led : (one : LibCall) → runs_handed one ≡ true → LedTo to Can (run_before one) (run_behind (passing one))
    unfolding library
    library_led (calls.Run side) e = tt
    library_led (calls.RunAction side) e = tt
    library_led (calls.Thread (threads.Init Source)) e = init_led t.values
    library_led (calls.Thread (threads.Init Passing)) e = absurd cc
    library_led (calls.Thread threads.Start) e = absurd cc
    library_led (calls.Thread threads.Join) e = absurd cc
    library_led (calls.Thread threads.Yield) e = absurd cc
    library_led calls.ObjectInit e = absurd cc
    library_led (calls.ThrownInit class how) e = absurd cc
    library_led calls.AccessControlInit e = absurd cc
    library_led calls.GetMessage e = absurd cc
    library_led (calls.String one) e = absurd cc
    library_led (calls.Builder one) e = absurd cc
    library_led calls.Out e = absurd cc
    library_led calls.PrintEnd e = absurd cc
    library_led (calls.Print piece) e = absurd cc
    library_led (calls.Controller one) e = absurd cc
    library_led calls.ContextCheck e = absurd cc
    library_led (calls.PermissionInit one) e = absurd cc
    library_led (calls.Rt one) e = absurd cc

    calling_is : Calling z.p top.f.method here_at z.s.store by c top.f.operands t
    calling_is = record { number = top.f.place; is = at; in_program = refl; in_class = refl; taken = takes }

    abbrev comes : Option Target
    comes = target here_at z.s.store by c t.values

    abbrev called_before : Option Target → Rows
    called_before o = option_and_then (called (sourced z.has) here_at (own_fields z.p top.f.method) z.s.store (entries (top.f ∷ top.fs)) z.s.running.inherited t.values) o

    abbrev called_behind : Option Target → Rows
    called_behind o =
        option_and_then
        (called (shadowed z.has) (moved.there z.q here_at) (own_fields z.q top.f.method) z.s.store (entries (ready ∷ top.gs)) z.s.running.inherited (Ctx k ∷ t.values)) o

    target_led : (o : Option Target) → comes ≡ o → LedTo to Can (called_before o) (called_behind (option_map moved_target o))
    target_led None e = tt
    target_led (Some (Fails class)) e = (k, tt, refl)
    target_led (Some (Pushes m)) e = (
      k,
      (
        ap (λ (way : Way). call_steps way true) way,
        λ body is. record {
          fills = z.moves.fills.calls top.f.method m here_at z.s.store by c top.f.operands t body is calling_is e;
          domain = top.new.frame.domain;
          context = stays;
        },
      ),
      refl,
    )
    target_led (Some (Runs one)) e = library_led one (z.moves.calls.to_handed top.f.method here_at z.s.store by c top.f.operands t (Runs one) calling_is way e)

    rows_led : LedTo to Can (call.row_before z top by c at t.values) (call.row_behind z top by c at by (handed c) 1 (alone k) (Ctx k ∷ t.values))
    rows_led =
        subst (λ (o : Option Target). LedTo to Can (called_before comes) (called_behind o))
        (sym (z.moves.calls.handed top.f.method here_at z.s.store by c top.f.operands t k calling_is way)) (target_led comes refl)

  becomes : expanded top.new.frame.code.place to (Used (Call by c)) ≡ handing top.new.frame.code.place by c
  becomes = ap (calling top.new.frame.code.place by c) way

  -- the context is loaded
  one : follows z (S (spot top.f top.place top.ys ∷ top.gs)) ≡ Went (S (ready ∷ top.gs)) []
  one =
      load_step z.has z.q z.plan z.moves.calls.rt z.s z.es z.ls (spot top.f top.place top.ys) top.gs top.new.frame.code.place.local k
      (ap (λ n. fetched z.q top.f.method n) (zero_more top.place)
      ∙ call.nth z top by c at 0 (load top.new.frame.code.place.local) (ap (λ (xs : List Instruction). slice_get xs 0) becomes))
      top.new.frame.context

  quiet : Silently (follows z) 1 (S (spot top.f top.place top.ys ∷ top.gs)) (S (ready ∷ top.gs))
  quiet = (S (ready ∷ top.gs), one, refl)

  -- A call that hands on a context is answered in two steps, or in six where it pushes a frame.
  pub handed_follows : taking.A z (stepped z) (spot top.f top.place top.ys ∷ top.gs)
  handed_follows =
      call.call_follows z top by c at by (handed c) (alone k) 1 quiet
      (call.nth z top by c at 1 (Used (Call by (handed c))) (ap (λ (xs : List Instruction). slice_get xs 1) becomes))
      (ap (λ (xs : List Instruction). length xs) becomes)
      (call_taken_same here_at (world z.q) z.moves.classes z.s.store by (handed c) (Ctx k ∷ top.f.operands) ∙ handed_taken here_at z.s.store by c k top.f.operands)
      rows_led
