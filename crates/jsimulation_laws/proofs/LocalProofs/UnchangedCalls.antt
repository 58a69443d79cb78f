-- Calls that hand on nothing: each is answered by itself.
use Rattle.std.proofs.Common.{◌≡◌, ℕ, true, false, List, [], ◌∷◌, length, Option, Some, None, option_map, refl, sym, ap, ◌∙◌, subst}
use Rattle.std.specs.Prelude.{option_and_then, slice_get}
use Rattle.jlib.specs.declared.calls.LibCall.{LibCall}
use Rattle.jlib.specs.declared.calls.LibCall.TheVariants as calls
use Rattle.jlib.specs.declared.calls.ThreadCall.{ThreadCall}
use Rattle.jlib.specs.declared.calls.ThreadCall.TheVariants as threads
use Rattle.jvalues.specs.declared.jops.value.Value.TheVariants.{Int, Long, Ref, Ctx}
use Rattle.jresolution.specs.jprogram.ProgramClasses.{Program}
use Rattle.jresolution.specs.declared.juses.meaning.InvokeKind.{InvokeKind}
use Rattle.jresolution.specs.juses.IndexedInstructions.{Instruction, Used}
use Rattle.jresolution.specs.juses.InstructionMeanings.{Call, CallMeaning}
use Rattle.jctx.specs.declared.item.Item.{Item}
use Rattle.jctx.specs.Contexts.{verdict}
use Rattle.jsemantics.specs.jmachine.AccessCallRows.{context_row, kept_checked, thread_row}
use Rattle.jsemantics.specs.jmachine.CallTargets.{Target, Fails, Pushes, Runs, target}
use Rattle.jsemantics.specs.jmachine.InstructionActions.{called, run}
use Rattle.jsemantics.specs.jmachine.LibraryCalls.{library}
use Rattle.jsemantics.specs.jmachine.TakenOperands.{Taken}
use Rattle.jsemantics.specs.jmachine.Security.{kept_in}
use Rattle.jsemantics.specs.jmachine.InstructionSites.{Site}
use Rattle.jsemantics.specs.jmachine.MachineSteps.{fetched, own_fields}
use Rattle.jsemantics.specs.jmachine.Store.{Store, object_at}
use Rattle.jsemantics.specs.jmachine.ThreadOperations.{thread}
use Rattle.jsemantics.specs.jmachine.World.{world}
use Rattle.jsimulation_laws.specs.between.BetweenMachines.{Noted, shadowed, sourced}
use Rattle.jsimulation_laws.proofs.StutteringProofs.Silences.{Silently}
use Rattle.jsimulation_laws.specs.relation.InstructionExpansion.{Alone, calling, expanded, runs_alone, way_of}
use Rattle.jsimulation_laws.specs.relation.ProgramRelation as moved
use Rattle.jsimulation_laws.specs.relation.ProgramRelation.{Calling}
use Rattle.jsimulation_laws.specs.relation.StateRelation.{Frame, Point, Word, entries}
use Rattle.jsimulation_laws.proofs.LocalProofs.CallSimulation as call
use Rattle.jsimulation_laws.proofs.LocalProofs.CallSimulation.{LedTo, Rows, with_front}
use Rattle.jsimulation_laws.proofs.LocalProofs.RelatedStates.{Newest, Scene, follows, other, stepped}
use Rattle.jsimulation_laws.proofs.LocalProofs.LibraryRowSteps.{library_itself, thread_itself}
use Rattle.jsimulation_laws.proofs.LocalProofs.WorldAgreement.{call_taken_same}
use Rattle.jsimulation_laws.proofs.LocalProofs.MovedStates.{spot, zero_more}
use Rattle.jsimulation_laws.proofs.LocalProofs.RowComparison as taking

-- ---- rows that know nothing of the program

library_there : (q : Program) (at : Site) (s : Store (List Item)) (one : LibCall) (values : List Word)
    → library {E = Noted} (moved.there q at) s one values ≡ library at s one values
unfolding library
library_there q at s one values = refl

thread_there : (q : Program) (at : Site) (s : Store (List Item)) (one : ThreadCall) (values : List Word)
    → thread {E = Noted} (moved.there q at) s one values ≡ thread at s one values
unfolding thread
thread_there q at s one values = refl

no_front : (o : Option (Taken (List Item))) → o ≡ option_map (with_front []) o
no_front None = refl
no_front (Some t) = refl

module _ (z : Scene) (top : Newest z) (by : InvokeKind) (c : CallMeaning) (at : fetched z.p top.f.method top.f.place ≡ Some (Used (Call by c))) (way : way_of c.member ≡ Alone) where
  abbrev k : List Item
  k = call.k z top by c at

  abbrev here_at : Site
  here_at = call.here_at z top by c at

  abbrev there_at : Site
  there_at = moved.there z.q here_at

  abbrev to : ℕ → ℕ
  to = top.new.frame.code.at

  abbrev S : List Frame → Point
  S xs = other z xs

  abbrev ready : Frame
  ready = call.ready z top by c at 0 []

  module _ (t : Taken (List Item)) (takes : call.taken_here z top by c at ≡ Some t) where
    abbrev Leads : Rows → Rows → Type 0
    Leads o o' = LedTo to (call.CanDo z top by c at 0 t) o o'

    calling_is : Calling z.p top.f.method here_at z.s.store by c top.f.operands t
    calling_is = record { number = top.f.place; is = at; in_program = refl; in_class = refl; taken = takes }

    -- ---- what the library does

    plain_led : (one : LibCall) → Leads (library here_at z.s.store one t.values) (library there_at z.s.store one t.values)
    plain_led one =
        subst (λ (o : Rows). Leads (library here_at z.s.store one t.values) o) (sym (library_there z.q here_at z.s.store one t.values))
        (call.from_led z top by c at 0 t (library here_at z.s.store one t.values) (library here_at z.s.store one t.values) (library_itself to z.s.store here_at one t.values))

    thread_led : (one : ThreadCall) → Leads (thread here_at z.s.store one t.values) (thread there_at z.s.store one t.values)
    thread_led one =
        subst (λ (o : Rows). Leads (thread here_at z.s.store one t.values) o) (sym (thread_there z.q here_at z.s.store one t.values))
        (call.from_led z top by c at 0 t (thread here_at z.s.store one t.values) (thread here_at z.s.store one t.values) (thread_itself to z.s.store here_at one t.values))

    -- what an object keeps is asked on both sides
    kept_led : (v : Word) (o : Option (List Item))
        → Leads (kept_checked (sourced z.has) here_at z.s.store (entries (top.f ∷ top.fs)) z.s.running.inherited v o)
        (kept_checked (shadowed z.has) there_at z.s.store (entries (ready ∷ top.gs)) z.s.running.inherited v o)
    unfolding sourced shadowed
    kept_led v None = tt
    kept_led v (Some kept) = call.checked_led z top by c at 0 t (λ asked. verdict z.has asked kept) v

    context_led : (values : List Word)
        → Leads (context_row (sourced z.has) here_at z.s.store (entries (top.f ∷ top.fs)) z.s.running.inherited values)
        (context_row (shadowed z.has) there_at z.s.store (entries (ready ∷ top.gs)) z.s.running.inherited values)
    unfolding context_row
    context_led [] = tt
    context_led (v ∷ []) = tt
    context_led (v ∷ Int x ∷ vs) = tt
    context_led (v ∷ Long x ∷ vs) = tt
    context_led (v ∷ Ctx x ∷ vs) = tt
    context_led (v ∷ Ref n ∷ []) = kept_led v (kept_in (object_at z.s.store n))
    context_led (v ∷ Ref n ∷ u ∷ vs) = tt

    abbrev run_before : LibCall → Rows
    run_before one = run (sourced z.has) here_at (own_fields z.p top.f.method) z.s.store (entries (top.f ∷ top.fs)) z.s.running.inherited one t.values

    abbrev run_behind : LibCall → Rows
    run_behind one = run (shadowed z.has) there_at (own_fields z.q top.f.method) z.s.store (entries (ready ∷ top.gs)) z.s.running.inherited one t.values

    library_led : (one : LibCall) → runs_alone one ≡ true → Leads (run_before one) (run_behind one)
    unfolding thread_row
    library_led (calls.Run side) e = absurd cc
    library_led (calls.RunAction side) e = absurd cc
    library_led (calls.Thread (threads.Init side)) e = absurd cc
    library_led (calls.Thread threads.Start) e = thread_led threads.Start
    library_led (calls.Thread threads.Join) e = thread_led threads.Join
    library_led (calls.Thread threads.Yield) e = thread_led threads.Yield
    library_led calls.ObjectInit e = plain_led calls.ObjectInit
    library_led (calls.ThrownInit class how) e = plain_led (calls.ThrownInit class how)
    library_led calls.AccessControlInit e = plain_led calls.AccessControlInit
    library_led calls.GetMessage e = plain_led calls.GetMessage
    library_led (calls.String one) e = plain_led (calls.String one)
    library_led (calls.Builder one) e = plain_led (calls.Builder one)
    library_led calls.Out e = plain_led calls.Out
    library_led calls.PrintEnd e = plain_led calls.PrintEnd
    library_led (calls.Print piece) e = plain_led (calls.Print piece)
    library_led (calls.Controller one) e = absurd cc
    library_led calls.ContextCheck e = context_led t.values
    library_led (calls.PermissionInit one) e = plain_led (calls.PermissionInit one)
    library_led (calls.Rt one) e = absurd cc

    -- ---- what the call comes to

    abbrev comes : Option Target
    comes = target here_at z.s.store by c t.values

    abbrev called_before : Option Target → Rows
    called_before o = option_and_then (called (sourced z.has) here_at (own_fields z.p top.f.method) z.s.store (entries (top.f ∷ top.fs)) z.s.running.inherited t.values) o

    abbrev called_behind : Option Target → Rows
    called_behind o = option_and_then (called (shadowed z.has) there_at (own_fields z.q top.f.method) z.s.store (entries (ready ∷ top.gs)) z.s.running.inherited t.values) o

    none_pushed : {P : Type 0} → false ≡ true → P
    none_pushed e = absurd cc

    target_led : (o : Option Target) → comes ≡ o → Leads (called_before o) (called_behind o)
    target_led None e = tt
    target_led (Some (Fails class)) e = (k, tt, refl)
    target_led (Some (Pushes m)) e = none_pushed (z.moves.calls.to_alone top.f.method here_at z.s.store by c top.f.operands t (Pushes m) calling_is way e)
    target_led (Some (Runs one)) e = library_led one (z.moves.calls.to_alone top.f.method here_at z.s.store by c top.f.operands t (Runs one) calling_is way e)

    rows_led : Leads (call.row_before z top by c at t.values) (call.row_behind z top by c at by c 0 [] t.values)
    rows_led =
        subst (λ (o : Option Target). Leads (called_before comes) (called_behind o))
        (sym (z.moves.calls.alone top.f.method here_at z.s.store by c top.f.operands t calling_is way)) (target_led comes refl)

  becomes : expanded top.new.frame.code.place to (Used (Call by c)) ≡ Used (Call by c) ∷ []
  becomes = ap (calling top.new.frame.code.place by c) way

  quiet : Silently (follows z) 0 (S (spot top.f top.place top.ys ∷ top.gs)) (S (ready ∷ top.gs))
  quiet = ap (λ n. S (spot top.f n top.ys ∷ top.gs)) (zero_more top.place)

  -- A call that hands on nothing is answered by itself.
  pub alone_follows : taking.A z (stepped z) (spot top.f top.place top.ys ∷ top.gs)
  alone_follows =
      call.call_follows z top by c at by c [] 0 quiet
      (call.nth z top by c at 0 (Used (Call by c)) (ap (λ (xs : List Instruction). slice_get xs 0) becomes))
      (ap (λ (xs : List Instruction). length xs) becomes)
      (call_taken_same here_at (world z.q) z.moves.classes z.s.store by c top.f.operands ∙ no_front (call.taken_here z top by c at))
      rows_led
