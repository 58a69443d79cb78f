-- What a row makes of the frames, on both sides: whatever its act.
use Rattle.std.proofs.Common.{◌≡◌, ℕ, suc, ◌+◌, ◌<◌, ◌≤◌, Bool, true, false, List, [], ◌∷◌, ◌++◌, length, Option, Some, None, option_map, refl, sym, ap, ◌∙◌, subst, arith}
use Rattle.std.specs.Prelude.{nat_le, if◌then◌else◌}
use Rattle.std.proofs.lemmas.Bool.{le-ltb, lt-ltb}
use Rattle.jvalues.specs.declared.jops.value.Value.TheVariants.{Ctx}
use Rattle.jlib.specs.declared.classes.LibClass.{LibClass}
use Rattle.jthreads.specs.declared.thread.Thread.{Thread as Entered}
use Rattle.jthreads.specs.ThreadTables.{table_after_end}
use Rattle.jtypes.specs.declared.vtype.Name.{Name}
use Rattle.jtypes.specs.declared.vtype.VType.{VType}
use Rattle.joutput.specs.declared.jtrace.event.Event.{Event}
use Rattle.joutput.specs.declared.jtrace.event.Event.TheVariants.{Throw, Uncaught}
use Rattle.joutput.specs.declared.jtrace.event.End.{End}
use Rattle.joutput.specs.declared.jtrace.event.End.TheVariants.{HeapFull}
use Rattle.jresolution.specs.declared.jprogram.member.MethodId.{MethodId}
use Rattle.jresolution.specs.jprogram.ProgramClasses.{Program}
use Rattle.jclass.specs.declared.class.CodeBody.{CodeBody}
use Rattle.jresolution.specs.juses.IndexedInstructions.{Instruction, code_at}
use Rattle.jctx.specs.declared.item.Item.{Item}
use Rattle.jsemantics.specs.jmachine.MachineStates.{Act, Goes, Jumps, Leaves, Calls, Raises, Throws, Switches, Makes, Outcome, Went, Over, NoStep, raised_cells}
use Rattle.jsemantics.specs.jmachine.FrameOperations.{domain_of, frame_of, locals_of, marked, onward, places_of, standing}
use Rattle.jsemantics.specs.jmachine.HeapObjects.{Object, class_of}
use Rattle.jsemantics.specs.jmachine.MachineSteps.{acted, applied, fetched, left, pushed, raised, thrown, thrown_at, thrown_to}
use Rattle.jsemantics.specs.jmachine.Store.{Store, object_at, paid}
use Rattle.jsemantics.specs.jmachine.BasicInstructions.{local_at}
use Rattle.jsemantics.specs.jmachine.ThreadTurns.{ended, thread_of, with_ended, with_guest, with_running, with_table}
use Rattle.jsemantics.specs.jmachine.Unwinding.{resumed, told_name, unwound, with_raised}
use Rattle.jsemantics.specs.jmachine.World.{world}
use Rattle.jsimulation_laws.specs.between.BetweenMachines.{Noted, context_of, shadowed, sourced, unmarked}
use Rattle.jsimulation_laws.specs.stuttering.StutteringRuns.{AnswersIn, Leads, LeadsOut}
use Rattle.jsimulation_laws.specs.relation.InstructionExpansion.{expanded}
use Rattle.jsimulation_laws.specs.relation.ProgramRelation.{Moves}
use Rattle.jsimulation_laws.specs.relation.StepCounts.{frames_of, instruction_steps, next_in, steps, steps_of}
use Rattle.jsimulation_laws.specs.relation.StateRelation.{BelowStands, Frame, FrameStands, FramesStand, Guest, OlderStands, Point, Stands, Word, entries}
use Rattle.jsimulation_laws.proofs.LocalProofs.RelatedStates.{Scene, acted_here, acted_there, answered, applied_here, applied_there, follows, other}
use Rattle.jsimulation_laws.proofs.LocalProofs.MovedStates.{act_led, row_by, spot, stands_at, there}
use Rattle.jsimulation_laws.proofs.LocalProofs.FrameCounts.{NoMore, left_less, made_less, running_less, running_more, thrown_less, turned_less}
use Rattle.jsimulation_laws.proofs.LocalProofs.FrameExits.{UnwoundStand, returned_stands, unwound_stands}
use Rattle.jsimulation_laws.proofs.LocalProofs.Locals as locals
use Rattle.jsimulation_laws.proofs.LocalProofs.Prologues.{prologue_steps}
use Rattle.jsimulation_laws.proofs.LocalProofs.PushedFrames.{begun_there, first_frame, pushed_stands, ready_frame, there_frame}
use Rattle.jsimulation_laws.proofs.StutteringProofs.Silences.{Silently, silent_leads, silent_on, then_ends, then_goes}
use Rattle.jsimulation_laws.proofs.LocalProofs.ThreadTurns.{Matches, joined, long_same, turned_stands}

-- What has to be known of an act that calls a method with code, and of what it hands on: that it is given as many values as the method has
-- slots, that a mark keeps the domain, and that the context is that of the frames from the one that calls on.
pub record Callable (p q : Program) (moves : Moves p q) (inherited : Option (List Item)) (fs : List Frame) (f : Frame) (m : MethodId) (arguments : List Word)
    (entry : Option Noted) (c : List Item) (body : CodeBody) (is : code_at p m ≡ Some body) : Type 0 where
  pub fills : places_of arguments ≡ (moves.codes m body is).slots
  pub domain : (marked entry f).entry.domain ≡ domain_of p f.method
  pub context : c ≡ context_of (entries (marked entry f ∷ fs)) inherited

-- what invokes a method is answered by the silent steps before its call, the call and the four of the prologue
abbrev pub Can : (p q : Program) → Moves p q → Option (List Item) → Instruction → ℕ → List Frame → Frame → Act (List Item) Noted → List Item → Type 0
Can p q moves inherited i n fs f (Calls m arguments entry) c =
    (instruction_steps i true ≡ n + 5) × ((body : CodeBody) (is : code_at p m ≡ Some body) → Callable p q moves inherited fs f m arguments entry c body is)
Can p q moves inherited i n fs f act c = Unit {0}

heir_of_kept : (k : List Item) (n : ℕ) → Some k ≡ None → n ≡ 0
heir_of_kept k n e = absurd cc

module _ (z : Scene) where
  abbrev pub A : Outcome Point → List Frame → Type 0
  A o gs0 = AnswersIn (Stands z.p z.q) (follows z) (steps z.p z.s o) o (other z gs0)

  -- the steps that answer the next one, where it invokes a method and where it doesn't
  abbrev pub steps_by : Bool → ℕ
  steps_by invokes = steps_of (next_in z.p z.s.running.frames) invokes

  pub steps_on : (s' : Point) (events : List Event) → frames_of s' ≤ frames_of z.s → steps z.p z.s (Went s' events) ≡ steps_by false
  steps_on s' events less = ap steps_by (le-ltb (frames_of z.s) (frames_of s') less)

  pub steps_into : (s' : Point) (events : List Event) → frames_of z.s < frames_of s' → steps z.p z.s (Went s' events) ≡ steps_by true
  steps_into s' events more = ap steps_by (lt-ltb (frames_of z.s) (frames_of s') more)

  -- the running thread goes on with other frames, over another store
  pub running_on : (fs gs gs1 : List Frame) (x : Store (List Item)) → FramesStand z.p z.q z.s.running.inherited fs gs
      → Stands z.p z.q (with_running z.s fs x) (with_running (other z gs1) gs x)
  running_on fs gs gs1 x frames = record {
    earlier = z.earlier;
    running = record { frames = frames; inherited = refl; runnable = refl; failed = refl; heir = z.heir };
    later = z.later;
    table = refl;
    store = refl;
    turns = refl;
  }

  -- the running thread ends
  pub ended_matches : (gs1 : List Frame) (x : Store (List Item)) (failed : Bool) (events : List Event)
      → Matches z.p z.q (ended z.plan.schedule z.s x failed events) (ended z.plan.schedule (other z gs1) x failed events)
  ended_matches gs1 x failed events =
      turned_stands z.p z.q (with_ended z.s x failed) (with_ended (other z gs1) x failed)
      (record {
        earlier = z.earlier;
        running = record { frames = tt; inherited = refl; runnable = refl; failed = refl; heir = z.heir };
        later = z.later;
        table = ap (λ n. table_after_end n z.s.table) (long_same z.p z.q z.s.earlier z.es z.earlier);
        store = refl;
        turns = refl;
      }) z.plan.schedule events

  -- the machine of the moved program comes in some silent steps from the frames gs0 to the frames gs1, and its last step does this
  module _ (gs0 gs1 : List Frame) (n : ℕ) (counts : steps_by false ≡ suc n) (quiet : Silently (follows z) n (other z gs0) (other z gs1)) where
    pub goes : (s' v : Point) (events : List Event) → answered z gs1 ≡ Went v events → Stands z.p z.q s' v → frames_of s' ≤ frames_of z.s → A (Went s' events) gs0
    goes s' v events is stands less = (
      v,
      subst (λ j. Leads (follows z) j (other z gs0) events v) (sym (steps_on s' events less ∙ counts))
          (then_goes (follows z) n (other z gs0) (other z gs1) v events quiet is),
      stands,
    )

    pub over : (s' v : Point) (events : List Event) (end : End) → answered z gs1 ≡ Over v events end → A (Over s' events end) gs0
    over s' v events end is =
        subst (λ j. LeadsOut (follows z) j (other z gs0) events end) (sym counts) (then_ends (follows z) n (other z gs0) (other z gs1) v events end quiet is)

    -- where the heap has too few cells both end
    pub where_paid : (b : Bool) (o o' : Outcome Point) → (answered z gs1 ≡ o' → A o gs0)
        → answered z gs1 ≡ (if b then o' else Over (other z gs1) [] HeapFull) → A (if b then o else Over z.s [] HeapFull) gs0
    where_paid true o o' go is = go is
    where_paid false o o' go is = over z.s (other z gs1) [] HeapFull is

    -- ---- what a row makes of the frames

    -- f has its operands taken, and so has the moved program's frame, which stands at the last instruction of the expansion
    module _ (more : ℕ) (fs gs : List Frame) (f : Frame) (place : ℕ) (ys : List (Option Word)) (frame : FrameStands z.p z.q z.s.running.inherited more fs f (spot f place ys))
        (bare : f.entry ≡ unmarked f.entry.domain)
        (below : BelowStands z.p z.q z.s.running.inherited fs gs) (i : Instruction) (at : fetched z.p f.method f.place ≡ Some i)
        (last : length (expanded frame.code.place frame.code.at i) ≡ more + 1) (next : next_in z.p z.s.running.frames ≡ Some i)
        (deep : length z.s.running.frames ≡ suc (length fs)) where
      abbrev g : Frame
      g = spot f place ys

      onwards : (values : List Word) → FrameStands z.p z.q z.s.running.inherited 0 fs (onward f values) (onward g values)
      onwards values =
          stands_at z.p z.q z.s.running.inherited fs more f g frame 0 (f.place + 1) (place + 1) (values ++ f.operands) (values ++ f.operands)
          (let next = frame.code.next f.place i at in let here : place ≡ frame.code.at f.place + more = frame.place in omega (arith, next, here, last)) refl

      as_deep : suc (length fs) ≤ length z.s.running.frames
      as_deep = omega (arith, deep)

      went : (charge : ℕ) (x : Store (List Item)) (values : List Word) (events : List Event)
          → answered z gs1 ≡ acted_there z gs1 (g ∷ gs) charge (Goes x values events)
          → A (acted_here z (f ∷ fs) charge (Goes x values events)) gs0
      unfolding acted
      went charge x values events is =
          goes (with_running z.s (onward f values ∷ fs) (paid charge x)) (with_running (other z gs1) (onward g values ∷ gs) (paid charge x)) events is
          (running_on (onward f values ∷ fs) (onward g values ∷ gs) gs1 (paid charge x) (record { frame = onwards values; bare = bare ∙ ap unmarked frame.domain }, below))
          (running_less z.s (onward f values ∷ fs) (paid charge x) as_deep)

      jumped : (charge to : ℕ)
          → answered z gs1 ≡ acted_there z gs1 (g ∷ gs) charge (Jumps (frame.code.at to))
          → A (acted_here z (f ∷ fs) charge (Jumps to)) gs0
      unfolding acted
      jumped charge to is =
          goes (with_running z.s (standing f to f.operands ∷ fs) (paid charge z.s.store))
          (with_running (other z gs1) (standing g (frame.code.at to) f.operands ∷ gs) (paid charge z.s.store)) [] is
          (running_on (standing f to f.operands ∷ fs) (standing g (frame.code.at to) f.operands ∷ gs) gs1 (paid charge z.s.store) (
            record {
              frame = stands_at z.p z.q z.s.running.inherited fs more f g frame 0 to (frame.code.at to) f.operands f.operands (omega arith) refl;
              bare = bare
                  ∙ ap unmarked frame.domain;
            },
            below,
          ))
          (running_less z.s (standing f to f.operands ∷ fs) (paid charge z.s.store) as_deep)

      -- what an outcome is on the other side
      matched : (o o' : Outcome Point) → Matches z.p z.q o o' → NoMore (frames_of z.s) o → answered z gs1 ≡ o' → A o gs0
      matched (Went u events) o' m less is = goes u m.0 events (is ∙ m.1) m.2 less
      matched (Over u events end) o' m less is = over u m.0 events end (is ∙ m.1)
      matched NoStep o' m less is = tt

      -- f as an older frame stands, for handlers
      older : OlderStands z.p z.q z.s.running.inherited fs f g
      older = record { more = more; frame = frame; call = i; is = at; last = last }

      -- ---- returns

      returned : (fs' gs' : List Frame) → BelowStands z.p z.q z.s.running.inherited fs' gs' → (x : Store (List Item)) (values : List Word)
          → Matches z.p z.q (left (sourced z.has) z.p z.plan z.s fs' x values) (left (shadowed z.has) z.q z.plan (other z gs1) gs' x values)
      unfolding sourced shadowed
      returned [] [] st x values = ended_matches gs1 x false []
      returned [] (y ∷ ys) st x values = absurd st
      returned (y ∷ ys) [] st x values = absurd st
      returned (f' ∷ fs') (g' ∷ gs') st x values =
          let a = resumed unmarked z.p f' (f'.place + 1) (values ++ f'.operands) in
          let b = resumed unmarked z.q g' (g'.place + 1) (values ++ g'.operands) in (
            with_running (other z gs1) (b ∷ gs') x,
            refl,
            running_on (a ∷ fs') (b ∷ gs') gs1 x (returned_stands z.p z.q z.moves z.s.running.inherited fs' f' g' st.0 values, st.1),
          )

      -- ---- exceptions

      thrown_to_matches : (x : Store (List Item)) (events : List Event) (class : VType) (o o' : Option (List Frame)) → UnwoundStand z.p z.q z.moves z.s.running.inherited o o'
          → Matches z.p z.q (thrown_to (sourced z.has) z.p z.plan z.s x events class o) (thrown_to (shadowed z.has) z.q z.plan (other z gs1) x events class o')
      thrown_to_matches x events class None None st =
          subst
          (λ n. Matches z.p z.q (ended z.plan.schedule z.s x true (raised_by (thread_of z.s) events class))
          (ended z.plan.schedule (other z gs1) x true (raised_by n events class))) (sym (long_same z.p z.q z.s.earlier z.es z.earlier))
          (ended_matches gs1 x true (raised_by (thread_of z.s) events class))
        where
          raised_by : ℕ → List Event → VType → List Event
          raised_by n events class = events ++ Throw n (told_name class) ∷ Uncaught n (told_name class) ∷ []
      thrown_to_matches x events class None (Some gs') st = absurd st
      thrown_to_matches x events class (Some fs') None st = absurd st
      thrown_to_matches x events class (Some fs') (Some gs') st = (
        with_running (other z gs1) gs' x,
        ap (λ n. Went (with_running (other z gs1) gs' x) (events ++ Throw n (told_name class) ∷ [])) (long_same z.p z.q z.s.earlier z.es z.earlier),
        running_on fs' gs' gs1 x st,
      )

      thrown_matches : (x : Store (List Item)) (events : List Event) (k : ℕ) (o : Option (Object (List Item)))
          → Matches z.p z.q (thrown (sourced z.has) z.p z.plan z.s (f ∷ fs) x events k o) (thrown (shadowed z.has) z.q z.plan (other z gs1) (g ∷ gs) x events k o)
      unfolding sourced shadowed
      thrown_matches x events k None = tt
      thrown_matches x events k (Some y) =
          subst (λ (named : ℕ → Name). Matches z.p z.q (thrown (sourced z.has) z.p z.plan z.s (f ∷ fs) x events k (Some y)) (thrown_as (class_of named y)))
          (sym z.moves.classes.named)
          (thrown_to_matches x events (class_of (world z.p).named y) (unwound unmarked z.p (class_of (world z.p).named y) k (f ∷ fs))
          (unwound unmarked z.q (class_of (world z.p).named y) k (g ∷ gs))
          (unwound_stands z.p z.q z.moves z.s.running.inherited (class_of (world z.p).named y) k (f ∷ fs) (g ∷ gs) (older, below)))
        where
          thrown_as : VType → Outcome Point
          thrown_as class = thrown_to (shadowed z.has) z.q z.plan (other z gs1) x events class (unwound unmarked z.q class k (g ∷ gs))

      -- ---- threads

      switched : (charge : ℕ) (table : List Entered) → Matches z.p z.q (acted_here z (f ∷ fs) charge (Switches table)) (acted_there z gs1 (g ∷ gs) charge (Switches table))
      unfolding acted
      switched charge table =
          turned_stands z.p z.q (with_table (with_running z.s (onward f [] ∷ fs) (paid charge z.s.store)) table)
          (with_table (with_running (other z gs1) (onward g [] ∷ gs) (paid charge z.s.store)) table)
          (record {
            earlier = z.earlier;
            running =
                record {
                  frames = (record { frame = onwards []; bare = bare ∙ ap unmarked frame.domain }, below);
                  inherited = refl;
                  runnable = refl;
                  failed = refl;
                  heir =
                      z.heir;
                };
            later = z.later;
            table = refl;
            store = refl;
            turns = refl;
          })
          z.plan.schedule []

      made : (charge : ℕ) (x : Store (List Item)) (runnable : ℕ) (k : List Item)
          → Matches z.p z.q (acted_here z (f ∷ fs) charge (Makes x runnable k)) (acted_there z gs1 (g ∷ gs) charge (Makes x runnable k))
      unfolding acted
      made charge x runnable k =
          let y : Guest = record { frames = []; inherited = Some k; runnable = runnable; failed = false } in (
            with_guest (with_running (other z gs1) (onward g [] ∷ gs) (paid charge x)) y,
            refl,
            record {
              earlier = z.earlier;
              running =
                  record {
                    frames = (record { frame = onwards []; bare = bare ∙ ap unmarked frame.domain }, below);
                    inherited = refl;
                    runnable = refl;
                    failed = refl;
                    heir =
                        z.heir;
                  };
              later =
                  joined z.p z.q z.s.later z.ls (y ∷ []) (y ∷ []) z.later
                  (record { frames = tt; inherited = refl; runnable = refl; failed = refl; heir = heir_of_kept k runnable }, tt);
              table = refl;
              store = refl;
              turns = refl;
            },
          )

      switched_less : (charge : ℕ) (table : List Entered) → NoMore (frames_of z.s) (acted_here z (f ∷ fs) charge (Switches table))
      unfolding acted
      switched_less charge table =
          turned_less (frames_of z.s) z.plan.schedule (with_table (with_running z.s (onward f [] ∷ fs) (paid charge z.s.store)) table) []
          (running_less z.s (onward f [] ∷ fs) (paid charge z.s.store) as_deep)

      guest_less : (charge : ℕ) (x : Store (List Item)) (runnable : ℕ) (k : List Item) → NoMore (frames_of z.s) (acted_here z (f ∷ fs) charge (Makes x runnable k))
      unfolding acted
      guest_less charge x runnable k =
          made_less z.s (onward f [] ∷ fs) (paid charge x) (record { frames = []; inherited = Some k; runnable = runnable; failed = false }) refl as_deep

      leaves : (charge : ℕ) (values : List Word) → answered z gs1 ≡ acted_there z gs1 (g ∷ gs) charge (Leaves values) → A (acted_here z (f ∷ fs) charge (Leaves values)) gs0
      unfolding acted
      leaves charge values is =
          matched (left (sourced z.has) z.p z.plan z.s fs (paid charge z.s.store) values) (left (shadowed z.has) z.q z.plan (other z gs1) gs (paid charge z.s.store) values)
          (returned fs gs below (paid charge z.s.store) values) (left_less (sourced z.has) z.p z.plan z.s fs (paid charge z.s.store) values (omega (arith, deep))) is

      raises : (charge : ℕ) (events : List Event) (class : LibClass) (message : Option (List ℕ))
          → answered z gs1 ≡ acted_there z gs1 (g ∷ gs) charge (Raises events class message) → A (acted_here z (f ∷ fs) charge (Raises events class message)) gs0
      unfolding acted
      raises charge events class message is =
          let x = with_raised (paid charge z.s.store) class message in
          matched (raised (sourced z.has) z.p z.plan z.s (f ∷ fs) events x) (raised (shadowed z.has) z.q z.plan (other z gs1) (g ∷ gs) events x)
          (thrown_matches x events (length x.objects) (object_at x (length x.objects)))
          (thrown_less (sourced z.has) z.p z.plan z.s (f ∷ fs) x events (length x.objects) (object_at x (length x.objects)) as_deep) is

      throws : (charge k : ℕ) → answered z gs1 ≡ acted_there z gs1 (g ∷ gs) charge (Throws k) → A (acted_here z (f ∷ fs) charge (Throws k)) gs0
      unfolding acted
      throws charge k is =
          matched (thrown_at (sourced z.has) z.p z.plan z.s (f ∷ fs) (paid charge z.s.store) [] k)
          (thrown_at (shadowed z.has) z.q z.plan (other z gs1) (g ∷ gs) (paid charge z.s.store) [] k)
          (thrown_matches (paid charge z.s.store) [] k (object_at (paid charge z.s.store) k))
          (thrown_less (sourced z.has) z.p z.plan z.s (f ∷ fs) (paid charge z.s.store) [] k (object_at (paid charge z.s.store) k) as_deep) is

      -- ---- calls

      -- the frame that calls, with what it carries from now on
      older_marked : (entry : Option Noted) → (marked entry f).entry.domain ≡ domain_of z.p f.method
          → OlderStands z.p z.q z.s.running.inherited fs (marked entry f) (marked entry g)
      older_marked None same = older
      older_marked (Some e) same = record {
        more = more;
        frame = record {
          body = frame.body;
          is = frame.is;
          code = frame.code;
          method = frame.method;
          entry = refl;
          domain = same;
          operands = frame.operands;
          place = frame.place;
          short = frame.short;
          long = frame.long;
          locals = frame.locals;
          context = frame.context;
        };
        call = i;
        is = at;
        last = last;
      }

      calls_on : (charge : ℕ) (m : MethodId) (arguments : List Word) (entry : Option Noted) (c : List Item) (body : CodeBody) (is : code_at z.p m ≡ Some body)
          → instruction_steps i true ≡ n + 5 → Callable z.p z.q z.moves z.s.running.inherited fs f m arguments entry c body is
          → answered z gs1 ≡ acted_there z gs1 (g ∷ gs) charge (Calls m (Ctx c ∷ arguments) entry)
          → A (acted_here z (f ∷ fs) charge (Calls m arguments entry)) gs0
      unfolding acted sourced shadowed
      calls_on charge m arguments entry c body is many k came =
          let code = z.moves.codes m body is in
          let old = marked entry f in
          let older' = marked entry g in
          let u : Point = with_running z.s (first_frame z.p m arguments body ∷ old ∷ fs) (paid charge z.s.store) in
          let new = there_frame z.p m code.place.local c arguments in
          let ready = ready_frame z.p m code.place.local code.place.domain c arguments in
          let one : acted_here z (f ∷ fs) charge (Calls m arguments entry) ≡ Went u []
          = ap (λ o. pushed (sourced z.has) z.p z.plan z.s (old ∷ fs) (paid charge z.s.store) (option_map (frame_of m (unmarked (domain_of z.p m)) arguments) o)) is in
          let two : answered z gs1 ≡ Went (there u z.es (new ∷ older' ∷ gs) z.ls) []
          = came
          ∙ ap (λ (o : Option Frame). pushed (shadowed z.has) z.q z.plan (other z gs1) (older' ∷ gs) (paid charge z.s.store) o)
          (begun_there z.p z.q z.moves m body code c arguments) in
          let lt : places_of arguments < code.place.local = (let b = code.behind_slots in let e = k.fills in omega (arith, b, e)) in
          let four = prologue_steps z.has z.q z.plan z.moves.calls.rt u z.es z.ls z.p m body code (locals_of (code.place.local + 1) (Ctx c ∷ arguments))
          (unmarked (domain_of z.p m)) c (older' ∷ gs)
          (ap (λ n. local_at (locals_of (code.place.local + 1) (Ctx c ∷ arguments)) n) (sym k.fills)
          ∙ locals.handed_at arguments c body.max_locals code.place.local code.behind lt)
          (locals.new_long arguments c body.max_locals code.place.local code.behind lt) in
          let all : Silently (follows z) (n + 5) (other z gs0) (there u z.es (ready ∷ older' ∷ gs) z.ls)
          = silent_on (follows z) n 5 (other z gs0) (other z gs1) (there u z.es (ready ∷ older' ∷ gs) z.ls) quiet (there u z.es (new ∷ older' ∷ gs) z.ls, two, four) in
          let frames : FramesStand z.p z.q z.s.running.inherited (first_frame z.p m arguments body ∷ old ∷ fs) (ready ∷ older' ∷ gs)
          = (
            pushed_stands z.p z.q z.moves z.s.running.inherited m body is code c arguments (old ∷ fs) k.fills k.context,
            (older_marked entry k.domain, below),
          ) in
          let deeper = running_more z.s (first_frame z.p m arguments body ∷ old ∷ fs) (paid charge z.s.store) (ap suc (sym deep)) in
          let taken : steps z.p z.s (Went u []) ≡ n + 5 = steps_into u [] deeper ∙ ap (λ o. steps_of o true) next ∙ many in
          subst (λ (o : Outcome Point). A o gs0) (sym one) (
            there u z.es (ready ∷ older' ∷ gs) z.ls,
            subst (λ j. Leads (follows z) j (other z gs0) [] (there u z.es (ready ∷ older' ∷ gs) z.ls)) (sym taken)
                (silent_leads (follows z) (n + 5) (other z gs0) (there u z.es (ready ∷ older' ∷ gs) z.ls) all),
            running_on (first_frame z.p m arguments body ∷ old ∷ fs) (ready ∷ older' ∷ gs) gs1 (paid charge z.s.store) frames,
          )

      -- a method without code isn't pushed
      calls_by : (charge : ℕ) (m : MethodId) (arguments : List Word) (entry : Option Noted) (c : List Item) (o : Option CodeBody) → code_at z.p m ≡ o
          → Can z.p z.q z.moves z.s.running.inherited i n fs f (Calls m arguments entry) c
          → answered z gs1 ≡ acted_there z gs1 (g ∷ gs) charge (Calls m (Ctx c ∷ arguments) entry)
          → A (acted_here z (f ∷ fs) charge (Calls m arguments entry)) gs0
      unfolding acted sourced
      calls_by charge m arguments entry c (Some body) is can came = calls_on charge m arguments entry c body is can.0 (can.1 body is) came
      calls_by charge m arguments entry c None lacks can came =
          subst (λ (o : Outcome Point). A o gs0)
          (sym
          (ap
          (λ o. pushed (sourced z.has) z.p z.plan z.s (marked entry f ∷ fs) (paid charge z.s.store) (option_map (frame_of m (unmarked (domain_of z.p m)) arguments) o))
          lacks)) tt

      -- ---- all acts

      acts : (charge : ℕ) (act : Act (List Item) Noted) (c : List Item) → Can z.p z.q z.moves z.s.running.inherited i n fs f act c
          → answered z gs1 ≡ acted_there z gs1 (g ∷ gs) charge (act_led frame.code.at c act)
          → A (acted_here z (f ∷ fs) charge act) gs0
      acts charge (Goes x values events) c can is = went charge x values events is
      acts charge (Jumps to) c can is = jumped charge to is
      acts charge (Leaves values) c can is = leaves charge values is
      acts charge (Calls m arguments entry) c can is = calls_by charge m arguments entry c (code_at z.p m) refl can is
      acts charge (Raises events class message) c can is = raises charge events class message is
      acts charge (Throws x) c can is = throws charge x is
      acts charge (Switches table) c can is =
          matched (acted_here z (f ∷ fs) charge (Switches table)) (acted_there z gs1 (g ∷ gs) charge (Switches table)) (switched charge table) (switched_less charge table)
          is
      acts charge (Makes x runnable k) c can is =
          matched (acted_here z (f ∷ fs) charge (Makes x runnable k)) (acted_there z gs1 (g ∷ gs) charge (Makes x runnable k)) (made charge x runnable k)
          (guest_less charge x runnable k) is

      cells_led : (to : ℕ → ℕ) (c : List Item) (act : Act (List Item) Noted) → raised_cells (act_led to c act) ≡ raised_cells act
      cells_led to c (Goes x values events) = refl
      cells_led to c (Jumps n) = refl
      cells_led to c (Leaves values) = refl
      cells_led to c (Calls m arguments entry) = refl
      cells_led to c (Raises events class message) = refl
      cells_led to c (Throws x) = refl
      cells_led to c (Switches table) = refl
      cells_led to c (Makes x runnable k) = refl

      abbrev paid_by : ℕ → Act (List Item) Noted → ℕ → Outcome Point
      paid_by charge act cells =
          if nat_le (charge + cells) z.s.store.left then acted_there z gs1 (g ∷ gs) (charge + cells) act else Over (other z gs1) [] HeapFull

      pub finish : (charge : ℕ) (act : Act (List Item) Noted) (c : List Item) → Can z.p z.q z.moves z.s.running.inherited i n fs f act c
          → answered z gs1 ≡ applied_there z gs1 (g ∷ gs) (row_by charge (act_led frame.code.at c act))
          → A (applied_here z (f ∷ fs) (row_by charge act)) gs0
      unfolding applied
      finish charge act c can is =
          where_paid (nat_le (charge + raised_cells act) z.s.store.left) (acted_here z (f ∷ fs) (charge + raised_cells act) act)
          (acted_there z gs1 (g ∷ gs) (charge + raised_cells act) (act_led frame.code.at c act))
          (acts (charge + raised_cells act) act c can)
          (is ∙ ap (paid_by charge (act_led frame.code.at c act)) (cells_led frame.code.at c act))
