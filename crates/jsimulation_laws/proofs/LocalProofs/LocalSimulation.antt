-- The local simulation, joined: each step of a program is answered by as many of the moved one as its instruction tells.
use Rattle.std.proofs.Common.{◌≡◌, ℕ, Bool, List, [], ◌∷◌, Option, Some, None, refl, sym, ap, ◌∙◌, subst}
use Rattle.jperm.specs.declared.permission.Permission.{Permission}
use Rattle.jthreads.specs.declared.thread.Thread.{Thread}
use Rattle.jlib.specs.declared.calls.LibCall.{LibCall}
use Rattle.jlib.specs.declared.calls.LibCall.TheVariants as calls
use Rattle.jlib.specs.declared.calls.ThreadCall.TheVariants as threads
use Rattle.jresolution.specs.declared.jprogram.member.Member.{Member}
use Rattle.jresolution.specs.declared.jprogram.member.Member.TheVariants.{Field, LibField, LibMethod, Method}
use Rattle.jresolution.specs.declared.jprogram.member.MethodId.{MethodId}
use Rattle.jresolution.specs.jprogram.ProgramClasses.{Program}
use Rattle.jresolution.specs.declared.juses.meaning.InvokeKind.{InvokeKind}
use Rattle.jresolution.specs.juses.IndexedInstructions.{Instruction, Array, Jump, Local, Return, Simple, Stack, Switch, Throw, Used}
use Rattle.jresolution.specs.juses.InstructionMeanings as meanings
use Rattle.jresolution.specs.juses.InstructionMeanings.{CallMeaning, Meaning}
use Rattle.jctx.specs.declared.item.Item.{Item}
use Rattle.jctx.specs.ContextLaws.{PrivilegedSame}
use Rattle.jsemantics.specs.declared.jmachine.plan.Plan.{Plan}
use Rattle.jsemantics.specs.jmachine.MachineStates.{Outcome}
use Rattle.jsemantics.specs.jmachine.MachineSteps.{executed, fetched, step, step_at}
use Rattle.jsemantics.specs.jmachine.Store.{Store}
use Rattle.jsimulation_laws.specs.between.BetweenMachines.{Noted, sourced}
use Rattle.jsimulation_laws.specs.stuttering.StutteringRuns.{AnswersIn}
use Rattle.jsimulation_laws.specs.relation.InstructionExpansion.{way_of}
use Rattle.jsimulation_laws.specs.relation.ProgramRelation.{Moves}
use Rattle.jsimulation_laws.specs.relation.StateRelation.{FollowsInFew, Frame, FramesStand, LocallyFollows, NewestStands, Point, Stands, Word, before, behind}
use Rattle.jsimulation_laws.specs.relation.StepCounts.{invokes, next_in, steps}
use Rattle.jsimulation_laws.proofs.RelationProofs.ExpansionLengths.{steps_law}
use Rattle.jsimulation_laws.proofs.StutteringProofs.CountedAnswers.{follows_within}
use Rattle.jsimulation_laws.proofs.LocalProofs.UnchangedCalls.{alone_follows}
use Rattle.jsimulation_laws.proofs.LocalProofs.ControllerCalls.{asking_follows}
use Rattle.jsimulation_laws.proofs.LocalProofs.ThreadStarts.{thread_begins}
use Rattle.jsimulation_laws.proofs.LocalProofs.Entries as entries
use Rattle.jsimulation_laws.proofs.LocalProofs.Fields.{field_follows}
use Rattle.jsimulation_laws.proofs.LocalProofs.HandedContexts.{handed_follows}
use Rattle.jsimulation_laws.proofs.LocalProofs.LocalAndStackSteps.{local_follows, stack_follows}
use Rattle.jsimulation_laws.proofs.LocalProofs.AllocationSteps.{array_follows, make_array_follows, make_follows}
use Rattle.jsimulation_laws.proofs.LocalProofs.ControlTransfers.{return_follows, switch_follows, throw_follows}
use Rattle.jsimulation_laws.proofs.LocalProofs.RelatedStates.{Newest, Scene, stepped}
use Rattle.jsimulation_laws.proofs.LocalProofs.MovedStates.{spot, there}
use Rattle.jsimulation_laws.proofs.LocalProofs.RowComparison as taking

-- ---- by the newest frame's instruction

module _ (z : Scene) (top : Newest z) where
  abbrev At : Instruction → Type 0
  At i = fetched z.p top.f.method top.f.place ≡ Some i

  -- the frames of both go on alike
  abbrev OnWard : Type 0
  OnWard = taking.A z (stepped z) (spot top.f top.place top.ys ∷ top.gs)

  library_follows : (by : InvokeKind) (c : CallMeaning) → At (Used (meanings.Call by c)) → (one : LibCall) → c.member ≡ LibMethod one → OnWard
  library_follows by c at (calls.Run side) e = handed_follows z top by c at (ap way_of e)
  library_follows by c at (calls.RunAction side) e = handed_follows z top by c at (ap way_of e)
  library_follows by c at (calls.Thread (threads.Init side)) e = handed_follows z top by c at (ap way_of e)
  library_follows by c at (calls.Thread threads.Start) e = alone_follows z top by c at (ap way_of e)
  library_follows by c at (calls.Thread threads.Join) e = alone_follows z top by c at (ap way_of e)
  library_follows by c at (calls.Thread threads.Yield) e = alone_follows z top by c at (ap way_of e)
  library_follows by c at (calls.Controller one) e =
      let so = z.moves.calls.asks top.f.method top.f.place by c one at e in
      asking_follows z top c (subst (λ b. At (Used (meanings.Call b c))) so.static at) one e so.params
  library_follows by c at calls.ObjectInit e = alone_follows z top by c at (ap way_of e)
  library_follows by c at (calls.ThrownInit class how) e = alone_follows z top by c at (ap way_of e)
  library_follows by c at calls.AccessControlInit e = alone_follows z top by c at (ap way_of e)
  library_follows by c at calls.GetMessage e = alone_follows z top by c at (ap way_of e)
  library_follows by c at (calls.String one) e = alone_follows z top by c at (ap way_of e)
  library_follows by c at (calls.Builder one) e = alone_follows z top by c at (ap way_of e)
  library_follows by c at calls.Out e = alone_follows z top by c at (ap way_of e)
  library_follows by c at calls.PrintEnd e = alone_follows z top by c at (ap way_of e)
  library_follows by c at (calls.Print piece) e = alone_follows z top by c at (ap way_of e)
  library_follows by c at calls.ContextCheck e = alone_follows z top by c at (ap way_of e)
  library_follows by c at (calls.PermissionInit one) e = alone_follows z top by c at (ap way_of e)
  library_follows by c at (calls.Rt one) e = alone_follows z top by c at (ap way_of e)

  member_follows : (by : InvokeKind) (c : CallMeaning) → At (Used (meanings.Call by c)) → (m : Member) → c.member ≡ m → OnWard
  member_follows by c at (Method m) e = handed_follows z top by c at (ap way_of e)
  member_follows by c at (LibMethod one) e = library_follows by c at one e
  member_follows by c at (Field class field) e = alone_follows z top by c at (ap way_of e)
  member_follows by c at LibField e = alone_follows z top by c at (ap way_of e)

  used_follows : (m : Meaning) → At (Used m) → OnWard
  used_follows (meanings.Push c) at = entries.push_follows z top c at
  used_follows (meanings.Field op m) at = field_follows z top op m at
  used_follows (meanings.Call by c) at = member_follows by c at c.member refl
  used_follows (meanings.Make c) at = make_follows z top c at
  used_follows (meanings.MakeArray t) at = make_array_follows z top t at
  used_follows (meanings.Cast op t) at = entries.cast_follows z top op t at

  instruction_follows : (i : Instruction) → At i → OnWard
  instruction_follows (Simple form) at = taking.simple_follows z top form at
  instruction_follows (Local form) at = local_follows z top form at
  instruction_follows (Stack op) at = stack_follows z top op at
  instruction_follows (Jump test n) at = taking.jump_follows z top test n at
  instruction_follows (Switch cases other) at = switch_follows z top cases other at
  instruction_follows (Return kind) at = return_follows z top kind at
  instruction_follows Throw at = throw_follows z top at
  instruction_follows (Array form) at = array_follows z top form at
  instruction_follows (Used m) at = used_follows m at

  -- where there is none the program is stuck
  newest_follows : (o : Option Instruction) → fetched z.p top.f.method top.f.place ≡ o → OnWard
  unfolding step
  newest_follows (Some i) e = instruction_follows i e
  newest_follows None e =
      subst (λ (o : Outcome Point). taking.A z o (spot top.f top.place top.ys ∷ top.gs))
      (sym (ap (step_at (sourced z.has) z.p z.plan z.s) top.here ∙ ap (executed (sourced z.has) z.p z.plan z.s top.f top.fs) e)) tt

-- ---- by the running thread's frames

module _ (has : ℕ → Permission → Bool) (p q : Program) (plan : Plan) (moves : Moves p q) (same : PrivilegedSame) (s t : Point) (st : Stands p q s t) where
  abbrev scene : Scene
  scene =
      record {
        has = has;
        p = p;
        q = q;
        plan = plan;
        moves = moves;
        s = s;
        es = t.earlier;
        ls = t.later;
        earlier = st.earlier;
        later = st.later;
        heir = st.running.heir;
        same = same;
      }

  abbrev Answered : Point → Type 0
  Answered u = AnswersIn (Stands p q) (behind has q plan) (steps p s (before has p plan s)) (before has p plan s) u

  -- the moved program's frame has a place and locals of its own alone
  spot_is : (fs : List Frame) (f g : Frame) → NewestStands p q s.running.inherited fs f g → g ≡ spot f g.place g.locals
  spot_is fs f g n =
      ap (λ (m : MethodId). record { method = m; place = g.place; locals = g.locals; operands = g.operands; entry = g.entry }) n.frame.method
      ∙ ap (λ (xs : List Word). record { method = f.method; place = g.place; locals = g.locals; operands = xs; entry = g.entry }) n.frame.operands
      ∙ ap (λ (e : Noted). record { method = f.method; place = g.place; locals = g.locals; operands = f.operands; entry = e }) n.frame.entry

  spotted : (fs : List Frame) (f g : Frame) → NewestStands p q s.running.inherited fs f g → NewestStands p q s.running.inherited fs f (spot f g.place g.locals)
  spotted fs f g n = record {
    frame = record {
      body = n.frame.body;
      is = n.frame.is;
      code = n.frame.code;
      method = refl;
      entry = refl;
      domain = n.frame.domain;
      operands = refl;
      place = n.frame.place;
      short = n.frame.short;
      long = n.frame.long;
      locals = n.frame.locals;
      context = n.frame.context;
    };
    bare = n.bare;
  }

  frames_follow : (xs ys : List Frame) → s.running.frames ≡ xs → FramesStand p q s.running.inherited xs ys → Answered (there s t.earlier ys t.later)
  frames_follow [] [] here fr = thread_begins scene here
  frames_follow [] (g ∷ gs) here fr = absurd fr
  frames_follow (f ∷ fs) [] here fr = absurd fr
  frames_follow (f ∷ fs) (g ∷ gs) here fr =
      let top : Newest scene = record { f = f; fs = fs; gs = gs; place = g.place; ys = g.locals; here = here; new = spotted fs f g fr.0; below = fr.1 } in
      subst (λ (x : Frame). Answered (there s t.earlier (x ∷ gs) t.later)) (sym (spot_is fs f g fr.0)) (newest_follows scene top (fetched p f.method f.place) refl)

  -- and so it is with states
  abbrev shaped : Option (List Item) → ℕ → Bool → List Thread → Store (List Item) → ℕ → Point
  shaped inherited runnable failed table store turns = record {
    earlier = t.earlier;
    running = record { frames = t.running.frames; inherited = inherited; runnable = runnable; failed = failed };
    later = t.later;
    table = table;
    store = store;
    turns = turns;
  }

  there_is : t ≡ there s t.earlier t.running.frames t.later
  there_is =
      ap (λ i. shaped i t.running.runnable t.running.failed t.table t.store t.turns) st.running.inherited
      ∙ ap (λ n. shaped s.running.inherited n t.running.failed t.table t.store t.turns) st.running.runnable
      ∙ ap (λ b. shaped s.running.inherited s.running.runnable b t.table t.store t.turns) st.running.failed
      ∙ ap (λ x. shaped s.running.inherited s.running.runnable s.running.failed x t.store t.turns) st.table
      ∙ ap (λ x. shaped s.running.inherited s.running.runnable s.running.failed s.table x t.turns) st.store
      ∙ ap (λ n. shaped s.running.inherited s.running.runnable s.running.failed s.table s.store n) st.turns

  state_follows : Answered t
  state_follows = subst Answered (sym there_is) (frames_follow s.running.frames t.running.frames refl st.running.frames)

pub locally_follows : PrivilegedSame → LocallyFollows
locally_follows same has p q plan moves s t st = state_follows has p q plan moves same s t st

-- and so by 1 to 7
pub follows_in_few : LocallyFollows → FollowsInFew
follows_in_few local has p q plan moves =
    follows_within (Stands p q) (behind has q plan) 7 (before has p plan) (steps p) (λ s o. steps_law (next_in p s.running.frames) (invokes s o)) (local has p q plan moves)
