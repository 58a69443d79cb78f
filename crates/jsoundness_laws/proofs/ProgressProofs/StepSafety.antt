-- A typed state has a step, which comes to a typed state.
use Rattle.std.proofs.Common.{◌≡◌, ◌⊎◌, ℕ, zero, suc, ◌+◌, inl, inr, arith, false, List, [], ◌∷◌, ◌++◌, length, drop, Option, Some, None, option_map, refl, sym, ap, subst, ◌∙◌}
use Rattle.std.specs.Option.{option_to_list}
use Rattle.std.specs.Prelude.{slice_get}
use Rattle.jparts.specs.declared.jcode.op.Placed.{Placed}
use Rattle.jlib.specs.declared.calls.LibCall.TheVariants as calls
use Rattle.jlib.specs.declared.classes.LibClass.TheVariants as lib
use Rattle.jvalues.specs.declared.jops.value.Value.{Value}
use Rattle.jvalues.specs.declared.jops.value.Value.TheVariants.{Ref}
use Rattle.jtypes.specs.declared.vtype.VType.{VType}
use Rattle.jtypes.specs.declared.vtype.VType.TheVariants as types
use Rattle.jresolution.specs.jprogram.ProgramClasses.{Program}
use Rattle.jresolution.specs.jprogram.MemberResolution.{desc_of}
use Rattle.jresolution.specs.declared.juses.meaning.InvokeKind.{InvokeKind}
use Rattle.jresolution.specs.declared.juses.meaning.InvokeKind.TheVariants as how
use Rattle.jresolution.specs.juses.IndexedInstructions.{Instruction, Simple, Local, Stack, Jump, Switch, Return, Throw, Array, Used, instruction}
use Rattle.jresolution.specs.juses.InstructionMeanings as meanings
use Rattle.jresolution.specs.juses.InstructionMeanings.{CallMeaning}
use Rattle.jresolution.specs.juses.DescriptorTypes.{typed}
use Rattle.jlinking.specs.jlink.NamedCalls.{begins}
use Rattle.jtyping.specs.jrule.InstructionContext.{Here}
use Rattle.jtyping.specs.jrule.TypingRule.{rule}
use Rattle.jtyping.specs.jrule.PoolEffects.{of_library}
use Rattle.jtyping.specs.jwelltyped.DeclaredFrames.{written}
use Rattle.jtyping.specs.jwelltyped.MethodPremises.{Method, here_of}
use Rattle.jtyping.specs.jwelltyped.WellTypedness.{Serves}
use Rattle.jtyping.proofs.JwelltypedProofs.Successors.{gives_rule}
use Rattle.jsemantics.specs.declared.jmachine.plan.Plan.{Plan}
use Rattle.jsemantics.specs.jmachine.MachineStates.{Act, Calls, FrameOf, Goes, Jumps, Leaves, Makes, Outcome, Raises, Row, State, Switches, Throws, free, raises}
use Rattle.jsemantics.specs.jmachine.CallTargets.{Fails, Pushes, Runs, Target, by_interface}
use Rattle.jsemantics.specs.jmachine.InstructionActions.{Doing, called, doing}
use Rattle.jsemantics.specs.jmachine.FrameOperations.{onward, standing, with_operands}
use Rattle.jsemantics.specs.jmachine.HeapObjects.{Object}
use Rattle.jsemantics.specs.jmachine.Security.{Rules, handed}
use Rattle.jsemantics.specs.jmachine.InstructionSites.{Site}
use Rattle.jsemantics.specs.jmachine.MachineSteps as steps
use Rattle.jsemantics.specs.jmachine.MachineSteps.{acted, begun_on, done, entries, executed, fetched, first_done, first_row, own_fields, site, step, step_at}
use Rattle.jsemantics.specs.jmachine.Store.{Store, object_at}
use Rattle.jsemantics.specs.jmachine.World.{world}
use Rattle.jsoundness_laws.specs.typed.TypedCalls.{CanInit, IsAboveHere, IsCall, IsInit, IsTarget, IsUsable, method, operand_count}
use Rattle.jsoundness_laws.specs.typed.ProgressLaws.{IsStraight}
use Rattle.jsoundness_laws.specs.typed.TypedFrames.{AllHave, AllHold, News, Suits}
use Rattle.jsoundness_laws.specs.typed.ControlFlow.{Leads, inside}
use Rattle.jsoundness_laws.specs.typed.StoreGrowth.{Grows}
use Rattle.jsoundness_laws.specs.typed.FrameStacks.{AreStacked, Awaits, Guarded, Older, Stands, TypedCall, returns_at, without}
use Rattle.jsoundness_laws.specs.typed.TypedUses.{static_types}
use Rattle.jsoundness_laws.specs.typed.TypedValues.{AreOf, IsA}
use Rattle.jsoundness_laws.proofs.TypedProofs.TypedCalls.{calls_do}
use Rattle.jsoundness_laws.proofs.TypedProofs.Dimensions.{typed_named}
use Rattle.jsoundness_laws.proofs.TypedProofs.StraightSuccessors.{straight_leads}
use Rattle.jsoundness_laws.proofs.TypedProofs.StoreMonotonicity.{grows_itself, suits_later}
use Rattle.jsoundness_laws.proofs.TypedProofs.Inits.{inits_do}
use Rattle.jsoundness_laws.proofs.TypedProofs.States.{coded_dimensions, drop_returned, returns_is}
use Rattle.jsoundness_laws.specs.library.YieldLaws.{AreSided, run_call}
use Rattle.jsoundness_laws.specs.library.LibraryResults.{IsReadied, run_given}
use Rattle.jsoundness_laws.proofs.LibraryProofs.RunSelection.{run_users}
use Rattle.jsoundness_laws.proofs.LibraryProofs.Objects.{named}
use Rattle.jsoundness_laws.specs.progress.SoundPrograms.{IsSaid}
use Rattle.jsoundness_laws.proofs.ProgressProofs.ProgramPremises.{IsFounded, founded}
use Rattle.jsoundness_laws.specs.progress.TypedStates.{ComesTo, IsTypedState, MayBegin, StatesStep}
use Rattle.jsoundness_laws.proofs.ProgressProofs.ActOutcomes.{After, acted_stays, applied_stays, pushed_stays, raised_stays}
use Rattle.jsoundness_laws.proofs.ProgressProofs.CallFrames.{IsDone, all_there, have_there, init_done, ret_dimensions, target_done}
use Rattle.jsoundness_laws.proofs.ProgressProofs.InstructionPreservation.{fetched_is, guarded_by, is_at, serves_at, stands_by}
use Rattle.jsoundness_laws.proofs.ProgressProofs.Interfaces.{interface_comes}
use Rattle.jsoundness_laws.proofs.ProgressProofs.FramePreservation.{IsGoing, doing_keeps}
use Rattle.jsoundness_laws.proofs.ProgressProofs.RunMethods.{thread_run}
use Rattle.jsoundness_laws.proofs.ProgressProofs.Threads.{ended_stays, running_is}

some_is : {A : Type 0} (a b : A) → Some a ≡ Some b → a ≡ b
some_is a b e = cc

suc_is : (n : ℕ) → n + 1 ≡ suc n
suc_is n = omega arith

same_ref : {K : Type 0} (n m : ℕ) → ◌≡◌ {A = Option (Value K)} (Some (Ref n)) (Some (Ref m)) → n ≡ m
same_ref n m e = cc

module _ {K E : Type 0} (r : Rules K E) (p : Program) (plan : Plan) (s : State K E) (sound : IsFounded p) (on_side : r.side ≡ p.side) (sided : AreSided r) (state : IsTypedState p r.side s) where
  abbrev Left : FrameOf K E → Act K E → Type 0
  Left f act = After r p plan s sound state f act

  abbrev Comes : Outcome (State K E) → Type 0
  Comes o = ComesTo p r.side o

  -- ---- an instruction of a frame that stands

  module _ (f : FrameOf K E) (below : List (FrameOf K E)) (x : Stands p s.store f) (older : Older p s.store (returns_at p f.method) below) where
    abbrev m : Method
    m = method p f.method x.coded

    abbrev at : Site
    at = site r p plan s f below

    abbrev carried : List E
    carried = entries r p plan s (f ∷ below)

    abbrev doing_it : Instruction → Option (Doing K E)
    doing_it i = doing r at (own_fields p f.method) s.store carried s.running.inherited i f

    -- what is done comes to a typed state
    done_comes : (d : Doing K E) → f.method ≡ d.frame.method → Left d.frame d.row.act → Comes (done r p plan s below (Some d))
    done_comes d same left =
        applied_stays r p plan s sound state (d.frame ∷ below) d.row
        (λ cells. acted_stays r p plan s sound state d.frame below cells d.row.act (subst (λ m. Older p s.store (returns_at p m) below) same older) left)

    done_by : (found : Option (Doing K E)) (d : Doing K E) → found ≡ Some d → f.method ≡ d.frame.method → Left d.frame d.row.act → Comes (done r p plan s below found)
    done_by found d is same left = subst (λ o. Comes (done r p plan s below o)) (sym is) (done_comes d same left)

    guarded_taken : (under : List (Value K)) → Guarded p s.store (with_operands f under)
    guarded_taken under = guarded_by p s.store f (with_operands f under) x refl refl refl

    -- ---- where it leads

    leads_left : (news : News) (g : FrameOf K E) → f.method ≡ g.method → f.place ≡ g.place → (act : Act K E) → IsGoing act ⊎ (f.locals ≡ g.locals)
        → Leads p m x.is_typed.frames news s.store (static_types p) f.place g act → Left g act
    leads_left news g same place (Goes t values events) locals h =
        (h.0, h.1, stands_by p f.method x.coded x.is_typed news t (suc f.place) (onward g values) h.2 same (ap suc place ∙ sym (suc_is g.place)))
    leads_left news g same place (Jumps to) locals h = stands_by p f.method x.coded x.is_typed news s.store to (standing g to g.operands) h same refl
    leads_left news g same place (Leaves values) locals h =
        subst (λ ret. AreOf (world p) s.store (option_to_list ret) values) (sym (returns_is p f.method x.coded) ∙ ap (returns_at p) same) h
    leads_left news g same place (Raises events class message) (inl going) h = absurd going
    leads_left news g same place (Raises events class message) (inr locals) h = (h, guarded_by p s.store f g x same place locals)
    leads_left news g same place (Throws n) (inl going) h = absurd going
    leads_left news g same place (Throws n) (inr locals) h = (h.0, h.1, guarded_by p s.store f g x same place locals)
    leads_left news g same place (Calls n arguments entry) locals h = absurd h
    leads_left news g same place (Switches table) locals h = absurd h
    leads_left news g same place (Makes t runnable kept) locals h = absurd h

    module _ (o : Placed) (op : slice_get x.coded.body.ops f.place ≡ Some o) (i : Instruction) (means : instruction p x.coded.part.class.pool x.coded.body.ops o ≡ Some i) where
      abbrev here : Here
      here = here_of p m o.at

      straight_comes : IsStraight p here i → Comes (done r p plan s below (doing_it i))
      straight_comes straight =
          let l = straight_leads K E r at (own_fields p f.method) s.store carried s.running.inherited p m (written p m) x.is_typed.frames x.news f.place o i f sound.stands
          (is_at p f.method x.coded at o.at refl refl) state.stored x.is_typed.are_frames (coded_dimensions p f.method x.coded) op means straight x.suits in
          let k = doing_keeps r at (own_fields p f.method) s.store carried s.running.inherited i f l.done l.is in
          done_by (doing_it i) l.done l.is k.method (leads_left l.news l.done.frame k.method k.place l.done.row.act k.locals l.leads)

      serves : Serves p m (written p m) x.is_typed.frames f.place o x.suits.shape
      serves = serves_at p sound f.method x.coded x.is_typed f.place x.suits.shape x.suits.there o op

      ruled : (by : InvokeKind) (c : CallMeaning) → i ≡ Used (meanings.Call by c) → rule p here (Used (meanings.Call by c)) x.suits.shape ≡ Some serves.behind
      ruled by c is = subst (λ i. rule p here i x.suits.shape ≡ Some serves.behind) is (gives_rule p m (written p m) x.is_typed.frames f.place o x.suits.shape i serves means)

      suits_here : Suits (world p) s.store here x.news x.suits.shape f
      suits_here = record {
        locals = all_there p s.store f.method x.coded 0 o.at x.news x.suits.shape.locals f.locals x.suits.suits.locals;
        operands = have_there p s.store f.method x.coded 0 o.at x.news x.suits.shape.stack f.operands x.suits.suits.operands;
      }

      -- the call that it is
      abbrev typed_call : (by : InvokeKind) (c : CallMeaning) → i ≡ Used (meanings.Call by c) → TypedCall p m x.is_typed.frames f.place
      typed_call by c is = record {
        op = o;
        stands = op;
        by = by;
        call = c;
        means = means ∙ ap (λ i. Some i) is;
        shape = x.suits.shape;
        there = x.suits.there;
        behind = serves.behind;
        gives = ruled by c is;
      }

      -- with the operands taken it awaits
      awaits : (t : Store K) → Grows (world p) s.store t → (by : InvokeKind) (c : CallMeaning) → i ≡ Used (meanings.Call by c) → (under : List (Value K))
          → AllHave (world p) s.store here x.news (drop (operand_count by c) x.suits.shape.stack) under → (rest : List VType) → serves.behind.stack ≡ (option_to_list c.ret ++ rest) → AllHold (world p) t here x.news serves.behind.locals f.locals → AllHave (world p) t here x.news rest under
          → Awaits p t c.ret (with_operands f under)
      awaits t grows by c is under left rest stack locals operands = record {
        coded = x.coded;
        is_typed = x.is_typed;
        news = x.news;
        at = typed_call by c is;
        returns = refl;
        before = suits_later K E (world p) s.store t (inside p m) x.news (without (operand_count by c) x.suits.shape) (with_operands f under) grows (record {
          locals = x.suits.suits.locals;
          operands = have_there p s.store f.method x.coded o.at 0 x.news (drop (operand_count by c) x.suits.shape.stack) under left;
        });
        after = record {
          locals = all_there p t f.method x.coded o.at 0 x.news serves.behind.locals f.locals locals;
          operands = have_there p t f.method x.coded o.at 0 x.news (drop (length (option_to_list c.ret)) serves.behind.stack) under
              (subst (λ ts. AllHave (world p) t here x.news ts under) (sym (ap (drop (length (option_to_list c.ret))) stack ∙ drop_returned c.ret rest)) operands);
        };
      }

      same : Grows (world p) s.store s.store
      same = grows_itself K (world p) s.store

      row_comes : (under : List (Value K)) (found : Option (Row K E)) → doing_it i ≡ option_map (λ row. record { frame = with_operands f under; row = row }) found
          → IsDone r p plan s sound state on_side (with_operands f under) found → Comes (done r p plan s below (doing_it i))
      row_comes under found does d =
          done_by (doing_it i) (record { frame = with_operands f under; row = d.row }) (does ∙ ap (option_map (λ row. record { frame = with_operands f under; row = row })) d.is) refl d.after

      call_comes : (by : InvokeKind) (c : CallMeaning) → i ≡ Used (meanings.Call by c) → begins by ≡ false → IsCall p by c → Comes (done r p plan s below (doing_it i))
      call_comes by c is plain linked =
          let can = calls_do K E r at (own_fields p f.method) s.store carried s.running.inherited p here x.news by c x.suits.shape serves.behind f sound.stands sound.code
          (is_at p f.method x.coded at o.at refl refl) plain linked suits_here (ruled by c is) in
          let waits = awaits s.store same by c is can.under can.left can.rest can.stack can.locals can.operands in
          row_comes can.under (called r at (own_fields p f.method) s.store carried s.running.inherited can.values can.target) (ap (λ i. doing_it i) is ∙ can.does)
          (target_done r p plan s sound state on_side sided at (own_fields p f.method) carried s.running.inherited refl refl by c.ret can.values (with_operands f can.under) can.target
          (ret_dimensions p (typed p (desc_of p c.member)) c.params c.ret linked.typed_as (typed_named p (desc_of p c.member))) waits (guarded_taken can.under) can.comes)

      init_comes : (c : CallMeaning) → i ≡ Used (meanings.Call how.Init c) → IsAboveHere p here → IsInit p c → Comes (done r p plan s below (doing_it i))
      init_comes c is above linked =
          let can = inits_do K E r at (own_fields p f.method) s.store carried s.running.inherited p here x.news c x.suits.shape serves.behind f sound.stands sound.code
          (is_at p f.method x.coded at o.at refl refl) above linked suits_here (ruled how.Init c is) in
          row_comes can.under (called r at (own_fields p f.method) s.store carried s.running.inherited can.values can.target) (ap (λ i. doing_it i) is ∙ can.does)
          (init_done r p plan s sound state on_side sided at (own_fields p f.method) carried s.running.inherited refl refl c can.values (with_operands f can.under) can.target
          (ret_dimensions p (typed p (desc_of p c.member)) c.params c.ret linked.typed_as (typed_named p (desc_of p c.member)))
          (λ t grows ready. then_awaits can t grows (can.whole t grows (of_number can t ready)))
          (λ n pushes. then_awaits can s.store same (can.usable n pushes)) (guarded_taken can.under) can.comes)
        where
          Done : Type 0
          Done = CanInit r at (own_fields p f.method) s.store carried s.running.inherited p here x.news c x.suits.shape serves.behind f

          then_awaits : (can : Done) (t : Store K) → Grows (world p) s.store t → IsA (world p) t (types.Object can.class) (Ref can.number)
              → Awaits p t c.ret (with_operands f can.under)
          then_awaits can t grows whole = let ready = can.ready t grows whole in awaits t grows how.Init c is can.under can.left can.rest can.stack ready.0 ready.1

          of_number : (can : Done) (t : Store K) → IsReadied how.Init can.values t → IsUsable t can.number
          of_number can t ready = subst (λ n. IsUsable t n) (same_ref {K = K} ready.0 can.number (sym ready.1 ∙ can.on)) ready.2

      said_comes : IsSaid p here i → Comes (done r p plan s below (doing_it i))
      said_comes said = go i refl said
        where
          go : (j : Instruction) → i ≡ j → IsSaid p here j → Comes (done r p plan s below (doing_it i))
          go (Used (meanings.Call how.Init c)) is h = init_comes c is h.0 h.1
          go (Used (meanings.Call how.Virtual c)) is h = call_comes how.Virtual c is refl h
          go (Used (meanings.Call how.Special c)) is h = call_comes how.Special c is refl h
          go (Used (meanings.Call how.Static c)) is h = call_comes how.Static c is refl h
          go (Used (meanings.Call how.Interface c)) is h = call_comes how.Interface c is refl h
          go (Used (meanings.Push c)) is h = straight_comes (subst (λ i. IsStraight p here i) (sym is) h)
          go (Used (meanings.Field op q)) is h = straight_comes (subst (λ i. IsStraight p here i) (sym is) h)
          go (Used (meanings.Make c)) is h = straight_comes (subst (λ i. IsStraight p here i) (sym is) h)
          go (Used (meanings.MakeArray t)) is h = straight_comes (subst (λ i. IsStraight p here i) (sym is) h)
          go (Used (meanings.Cast op t)) is h = straight_comes (subst (λ i. IsStraight p here i) (sym is) h)
          go (Simple form) is h = straight_comes (subst (λ i. IsStraight p here i) (sym is) h)
          go (Local form) is h = straight_comes (subst (λ i. IsStraight p here i) (sym is) h)
          go (Stack op) is h = straight_comes (subst (λ i. IsStraight p here i) (sym is) h)
          go (Jump test to) is h = straight_comes (subst (λ i. IsStraight p here i) (sym is) h)
          go (Switch cases other) is h = straight_comes (subst (λ i. IsStraight p here i) (sym is) h)
          go (Return kind) is h = straight_comes (subst (λ i. IsStraight p here i) (sym is) h)
          go Throw is h = straight_comes (subst (λ i. IsStraight p here i) (sym is) h)
          go (Array form) is h = straight_comes (subst (λ i. IsStraight p here i) (sym is) h)

    executed_comes : Comes (executed r p plan s f below (fetched p f.method f.place))
    executed_comes =
        let e = fetched_is p sound f.method x.coded x.is_typed f.place x.suits.shape x.suits.there in
        subst (λ o. Comes (executed r p plan s f below o)) (sym e.is) (said_comes e.op e.at e.it e.means e.said)

  -- ---- the beginning of a thread

  abbrev nowhere : Site
  nowhere = record { world = world p; class = 0; thread = 0; full = false; cwd = []; table = [] }

  abbrev run_it : CallMeaning
  run_it = steps.run_call r p plan s

  first_comes : (n : ℕ) (y : Object K) (t : Target) → by_interface (world p) false run_it y ≡ t → IsTarget p s.store None (handed r.side s.running.inherited ++ Ref n ∷ []) t
      → Comes (first_done r p plan s (first_row r p plan s n t))
  unfolding acted
  first_comes n y (Fails class) e h = applied_stays r p plan s sound state [] (raises class) (λ cells. raised_stays r p plan s sound state [] cells [] class None h tt)
  first_comes n y (Pushes m) e h =
      applied_stays r p plan s sound state [] (free (Calls m (handed r.side s.running.inherited ++ Ref n ∷ []) None))
      (λ cells. pushed_stays r p plan s sound state [] cells m (handed r.side s.running.inherited ++ Ref n ∷ []) None h tt)
  first_comes n y (Runs call) e h = absurd (run_users K p false r.side y call e)

  runs_target : (n : ℕ) (y : Object K) → object_at s.store n ≡ Some y → IsA (world p) s.store (of_library lib.Runnable) (Ref n)
      → AreOf (world p) s.store (run_given r.side) (handed r.side s.running.inherited)
      → IsTarget p s.store None (handed r.side s.running.inherited ++ Ref n ∷ []) (by_interface (world p) false run_it y)
  runs_target n y there is given =
      let vs = handed r.side s.running.inherited in
      let comes = interface_comes p lib.Runnable (calls.Run p.side) None (thread_run p sound) sound nowhere s.store refl vs n y there
      (subst (λ side. AreOf (world p) s.store (run_given side) vs) on_side given) is in
      subst (λ side. IsTarget p s.store None (vs ++ Ref n ∷ []) (by_interface (world p) false (run_call side) y)) (sym on_side) comes

  begins_comes : (n : ℕ) → (n ≡ 0) ⊎ (IsA (world p) s.store (of_library lib.Runnable) (Ref n) × AreOf (world p) s.store (run_given r.side) (handed r.side s.running.inherited))
      → Comes (steps.begins r p plan s n)
  begins_comes zero h = ended_stays p r.side plan.schedule s s.store false [] state (grows_itself K (world p) s.store) state.stored
  begins_comes (suc n) (inl none) = absurd (cc)
  begins_comes (suc n) (inr h) =
      let y = named (world p) s.store (of_library lib.Runnable) (suc n) (λ e. cc) h.0 in
      subst (λ o. Comes (begun_on r p plan s (suc n) o)) (sym y.there)
      (first_comes (suc n) y.object (by_interface (world p) false run_it y.object) refl (runs_target (suc n) y.object y.there h.0 h.1))

  -- ---- a step

  step_comes : (frames : List (FrameOf K E)) → AreStacked p s.store frames → MayBegin p r.side s.store s.running → Comes (step_at r p plan s frames)
  step_comes [] h may = begins_comes s.running.runnable may
  step_comes (f ∷ below) h may = executed_comes f below h.0 h.1

pub states_step : (K E : Type 0) → StatesStep K E
unfolding step
states_step K E r p plan s sound on_side sided state =
    let g = running_is p r.side s state in
    step_comes r p plan s (founded p sound) on_side sided state s.running.frames g.0 g.1
