-- A quick try to make a step: what it came to, for the frames of a thread and for its machine.
use Rattle.std.proofs.Common.{◌≡◌, ◌∙◌, ◌+◌, ◌-◌, ◌<◌, ◌≤◌, ℕ, zero, suc, add-one, arith, List, [], length, Option, Some, refl, sym, ap, subst}
use Rattle.std.specs.Prelude.{⊤, IfOk, OnOk, Ok, Err, Result, None, Bool, true, false}
use Rattle.jmemory.specs.jheap.Heaps.{Heaped}
use Rattle.jresolution.specs.declared.jprogram.member.MethodId.{MethodId}
use Rattle.jresolution.specs.jprogram.ProgramClasses.{Program}
use Rattle.jsemantics.specs.jmachine.MachineSteps.{step}
use Rattle.jready.specs.declared.instr.Instr.{Instr}
use Rattle.jready.specs.declared.instr.Instr.TheVariants as instr
use Rattle.jruntime.specs.jstate.ObjectCells.{AreCelled}
use Rattle.jruntime.specs.jstate.FrameLists.{Framed, all}
use Rattle.jruntime.specs.jstate.HeapMeanings.{AreBuilt, Things}
use Rattle.jrows.specs.declared.jacts.way.Way.{Way}
use Rattle.jrows.specs.declared.jacts.way.Way.TheVariants as ways
use Rattle.jrows.specs.jacts.RowOutcomes.{Rests}
use Rattle.jrows.specs.declared.jcalls.ready.Counts.{Counts}
use Rattle.jrows.specs.jcalls.FrameMarks.{AreStanding, Stand}
use Rattle.jruntime.specs.jguests.GuestThreads.{Lives, RunsAs, with_frames}
use Rattle.jlinking.specs.jlink.LinkedPrograms.{Links}
use Rattle.jstepping.specs.jtold.MessageConstructors.{TellsWhatMay}
use Rattle.jserving.specs.jinvoke.InvokeLaws.{StepsAt}
use Rattle.jserving.specs.jcells.ObjectEquivalence.{KeptLast, LeavesAlike, PermissionsLast}
use Rattle.jstepping.specs.jrefs.ReferenceRows as refs
use Rattle.jstepping.specs.jrefs.ReferenceRows.{RunsAlike, StaysStuck}
use Rattle.jrows.specs.jobjs.RowFrames as staying
use Rattle.jstepping.specs.declared.jstep.run_tables.RunTables.{RunTables}
use Rattle.jstepping.specs.declared.jstep.outcomes.Stepped.{Stepped}
use Rattle.jstepping.specs.declared.jstep.outcomes.Stepped.TheVariants as steps
use Rattle.jstepping.specs.jstep.RowSuccessors.{Follows}
use Rattle.jstepping.specs.jstep.InstructionRows.{IsHere, Runs, Stays}
use Rattle.jstepping.specs.jstep.StepRelation.{IsFixed, IsQuiet, Settles, Steps, StepsAlike, StoodAs}
use Rattle.jstepping.proofs.JstepProofs.InstructionSteps.{all_done, row_steps}
use Rattle.jstepping.proofs.JstepProofs.RowCompletion.{stands_for}
use Rattle.jstepping.specs.declared.jcore.machine.Machine.{Machine}
use Rattle.jstepping.specs.jcore.MachineOutcomes as comings
use Rattle.jstepping.specs.jcore.MachineOutcomes.{Comes, LeftStand, any}
use Rattle.jstepping.specs.jcore.MachineInvariants.{IsReady, StaysFixed, counts_of, state_of}
use Rattle.jstepping.proofs.JcoreProofs.ReadyMachines.{went_ready}
use Rattle.jstepping.proofs.JcoreProofs.StepOutcomes.{settled_went}
use Rattle.jruntime.specs.declared.jrun.came.Came.TheVariants as done
use Rattle.jcalling.specs.declared.jexecute.executing.Executed.{Executed}
use Rattle.jcalling.specs.declared.jexecute.hastening.Hurried.{Hurried}
use Rattle.jcalling.specs.declared.jexecute.hastening.Within.{Within}
use Rattle.jcalling.specs.jexecute.FrameSteps.{Advances, Fetches, IsThere, lasting_by}
use Rattle.jcalling.specs.jexecute.ThreadSteps.{CameTo, Finishes, HasRules, Moves, StaysMachine, moved}
use Rattle.jcalling.specs.jexecute.FastSteps.{AreFew, Began, Begins, EndsSo, Hastens, Leads, Makes, Quietly, StayedWithin, Tries, Turns, WereMade, program_of, quick_as, stuck_as, turned_as}
use Rattle.jcalling.proofs.JexecuteProofs.FrameSteps.{all_stand, is_there, others_advance}
use Rattle.jcalling.proofs.JexecuteProofs.StepOutcomes.{executes, moved_lives, moved_machine, moved_stands, settled}
use Rattle.jcalling.proofs.JexecuteProofs.MachineSteps.{one_moves, returned, stays_fixed}
use Rattle.jcalling.proofs.JexecuteProofs.ReferenceSteps.{ok_refs_advance, row_stands}

-- ---- the step behind such a row

went_settles : {E : Type 0} (marks : List E) (p : Program) (f : Framed E) (h : Heaped) → Settles marks p ways.Went f h steps.Went f h
went_settles marks p f h r plan s shapes things constants marked same = refl

stuck_settles : {E : Type 0} (marks : List E) (p : Program) (f : Framed E) (h : Heaped) → Settles marks p ways.Stuck f h steps.Stuck f h
stuck_settles marks p f h r plan s shapes things constants marked same = refl

module _ {E : Type 0} (p : Program) (x : RunTables E) (counts : Counts) (one : Instr) (f u : Framed E) (h v : Heaped) (law : StepsAt E) (follows : Follows E)
    (fixed : IsFixed p x) (fetches : Fetches p x f.newest one) (below : u.below ≡ f.below) where
  -- with numbers
  row_advances : (way : Way) (done : Stepped) → IsHere one → Runs x.tables.now x.shapes.now one f.newest h way u.newest v → IsQuiet done
      → Settles x.marks.now p way u v done u v → (constants : List (List ℕ × ℕ)) → Advances p x counts constants f h done constants u v
  row_advances way done quick runs quiet settles constants =
      let r : Result Stepped ⊤ = Ok done in
      let did = all_done p x one f u u h v v r way follows quick fetches.within runs below quiet settles in
      others_advance p x counts f u h v r constants constants refl (row_steps law p x counts f u h v r p refl one fetches.means did)

  -- with references
  ref_advances : (way : Way) (done : Stepped) → refs.IsHere one → refs.Runs (lasting_by x) counts one f.newest h way u.newest v
      → StaysStuck (lasting_by x) one f.newest way → IsQuiet done
      → Settles x.marks.now p way u v done u v → (constants : List (List ℕ × ℕ)) → Advances p x counts constants f h done constants u v
  ref_advances way done quick runs missing quiet settles constants =
      let r : Result Stepped ⊤ = Ok done in
      ok_refs_advance p x counts one f u h v way law follows fixed quick fetches runs missing below u v r settles quiet constants

module _ {E : Type 0} (p : Program) (x : RunTables E) (counts : Counts) (one : Instr) (f u : Framed E) (h v : Heaped) (law : StepsAt E) (follows : Follows E)
    (fixed : IsFixed p x) (fetches : Fetches p x f.newest one) (below : u.below ≡ f.below)
    (stand : Stand (length x.marks.now) (all f)) (built : AreBuilt v.objects) (celled : AreCelled x.shapes.now v.objects) where
  pub row_hastens : (way : Way) → Rests way f u → Rests way h v → IsHere one → Runs x.tables.now x.shapes.now one f.newest h way u.newest v → Stays way f.newest u.newest
      → ((q : Program) (things : Things) → LeavesAlike q x.shapes.now things way h.objects v.objects) → Hastens p x counts f h (quick_as way) u v
  row_hastens ways.Went rests kept quick runs stays alike = (
    record {
      row = row_advances p x counts one f u h v law follows fixed fetches below ways.Went steps.Went quick runs tt (went_settles x.marks.now p u v);
      stands = stands_for f u (length x.marks.now) ways.Went stays below stand;
      alike = λ things counted. alike p things;
      built = built;
      celled = celled;
    },
    stays,
  )
  row_hastens ways.Stuck rests kept quick runs stays alike = record {
    row = row_advances p x counts one f u h v law follows fixed fetches below ways.Stuck steps.Stuck quick runs tt (stuck_settles x.marks.now p u v);
    stands = tt;
    alike = λ things counted. tt;
    built = built;
    celled = celled;
  }
  row_hastens (ways.Raises class) rests kept quick runs stays alike = (rests, kept)
  row_hastens (ways.Throws n) rests kept quick runs stays alike = (rests, kept)
  row_hastens ways.Full rests kept quick runs stays alike = (rests, kept)

  pub ref_hastens : (way : Way) → Rests way f u → Rests way h v → refs.IsHere one → refs.Runs (lasting_by x) counts one f.newest h way u.newest v
      → StaysStuck (lasting_by x) one f.newest way → staying.Stays way f.newest u.newest → RunsAlike (lasting_by x) counts way h.objects v.objects
      → Hastens p x counts f h (quick_as way) u v
  ref_hastens ways.Went rests kept quick runs missing stays alike = (
    record {
      row = ref_advances p x counts one f u h v law follows fixed fetches below ways.Went steps.Went quick runs missing tt (went_settles x.marks.now p u v);
      stands = row_stands f u (length x.marks.now) ways.Went stays below stand;
      alike = λ things counted. subst (λ (q : Program). StepsAlike q x.shapes.now things steps.Went h.objects v.objects) fixed.ancestors (alike things counted);
      built = built;
      celled = celled;
    },
    stays,
  )
  ref_hastens ways.Stuck rests kept quick runs missing stays alike = record {
    row = ref_advances p x counts one f u h v law follows fixed fetches below ways.Stuck steps.Stuck quick runs missing tt (stuck_settles x.marks.now p u v);
    stands = tt;
    alike = λ things counted. tt;
    built = built;
    celled = celled;
  }
  ref_hastens (ways.Raises class) rests kept quick runs missing stays alike = (rests, kept)
  ref_hastens (ways.Throws n) rests kept quick runs missing stays alike = (rests, kept)
  ref_hastens ways.Full rests kept quick runs missing stays alike = (rests, kept)

-- a call or a return
module _ {E : Type 0} (p : Program) (x : RunTables E) (counts : Counts) (f u : Framed E) (h v : Heaped) (built : AreBuilt v.objects) (celled : AreCelled x.shapes.now v.objects) where
  abbrev Stood : Stepped → Type 0
  Stood came = Steps p x counts f h came u v × StoodAs (length x.marks.now) came u × ((things : Things) → StepsAlike p x.shapes.now things came h.objects v.objects)

  turn_makes : (came : Stepped) → Stood came → Makes p x counts f h came u v
  turn_makes came (done, stands, alike) = record {
    row = λ constants. let r : Result Stepped ⊤ = Ok came in others_advance p x counts f u h v r constants constants refl done;
    stands = stands;
    alike = λ things counted. alike things;
    built = built;
    celled = celled;
  }

  pub all_turn : (came : Stepped) → Stood came → Turns p x counts f h (turned_as came) u v
  all_turn steps.Went turns = turn_makes steps.Went turns
  all_turn steps.Ended turns = turn_makes steps.Ended turns
  all_turn (steps.Handled class) turns = turn_makes (steps.Handled class) turns
  all_turn (steps.Uncaught class) turns = turn_makes (steps.Uncaught class) turns
  all_turn (steps.Asks call count) turns = turn_makes (steps.Asks call count) turns
  all_turn steps.Full turns = turn_makes steps.Full turns
  all_turn steps.Stuck turns = turn_makes steps.Stuck turns

-- ---- where such an instruction stands the frames may go on

quick_there : (one : Instr) → IsHere one → IsThere one
quick_there instr.Off quick = absurd quick
quick_there (instr.Plain f) quick = tt
quick_there (instr.Push f) quick = tt
quick_there (instr.Local f) quick = tt
quick_there (instr.Stack f) quick = tt
quick_there (instr.Flow f) quick = tt
quick_there (instr.Table c) quick = tt
quick_there (instr.Lookup c) quick = tt
quick_there (instr.Array f) quick = tt
quick_there (instr.Object f) quick = absurd quick
quick_there (instr.Field op cell narrow i slot owner) quick = absurd quick
quick_there (instr.Call way i params method) quick = absurd quick
quick_there (instr.Library way i params call) quick = absurd quick

ref_there : (one : Instr) → refs.IsHere one → IsThere one
ref_there instr.Off quick = absurd quick
ref_there (instr.Plain f) quick = tt
ref_there (instr.Push f) quick = tt
ref_there (instr.Local f) quick = tt
ref_there (instr.Stack f) quick = tt
ref_there (instr.Flow f) quick = tt
ref_there (instr.Table c) quick = tt
ref_there (instr.Lookup c) quick = tt
ref_there (instr.Array f) quick = tt
ref_there (instr.Object f) quick = tt
ref_there (instr.Field op cell narrow i slot owner) quick = tt
ref_there (instr.Call way i params method) quick = tt
ref_there (instr.Library way i params call) quick = tt

module _ {E : Type 0} (p : Program) (x : RunTables E) (f : Framed E) (one : Instr) (fetches : Fetches p x f.newest one) (classes : ℕ) (stand : AreStanding classes f) where
  pub quick_stands : IsHere one → Stand classes (all f)
  quick_stands quick = all_stand p x f one fetches classes stand (is_there one (quick_there one quick))

  pub ref_stands : refs.IsHere one → Stand classes (all f)
  ref_stands quick = all_stand p x f one fetches classes stand (is_there one (ref_there one quick))

  pub turn_stands : IsThere one → Stand classes (all f)
  turn_stands there = all_stand p x f one fetches classes stand (is_there one there)

-- ---- some steps of a thread

module _ {E : Type 0} (p : Program) (x : RunTables E) (counts : Counts) where
  pub none_quiet : (f : Framed E) (h : Heaped) → Quietly p x counts 0 f h f h
  unfolding Quietly
  none_quiet f h = (refl, refl)

  pub more_quiet : (n : ℕ) (f u g : Framed E) (h v k : Heaped) → Quietly p x counts n f h u v → Makes p x counts u v steps.Went g k → Quietly p x counts (n + 1) f h g k
  unfolding Quietly
  more_quiet n f u g h v k before makes =
      let all_of : Quietly p x counts (suc n) f h g k = (u, v, before, makes) in
      subst (λ (i : ℕ). Quietly p x counts i f h g k) (sym (add-one n)) all_of

  pub both_quiet : (n m : ℕ) (f u g : Framed E) (h v k : Heaped) → Quietly p x counts n f h u v → Quietly p x counts m u v g k → Quietly p x counts (n + m) f h g k
  unfolding Quietly
  both_quiet n zero f u g h v k before (same, also) =
      let is : n ≡ n + 0 = omega arith in
      let there : Quietly p x counts n f h u k = subst (λ (b : Heaped). Quietly p x counts n f h u b) (sym also) before in
      subst (λ (i : ℕ). Quietly p x counts i f h g k) is (subst (λ (a : Framed E). Quietly p x counts n f h a k) (sym same) there)
  both_quiet n (suc m) f u g h v k before (a, b, more, makes) =
      let is : suc (n + m) ≡ n + suc m = omega arith in
      let all_of : Quietly p x counts (suc (n + m)) f h g k = (a, b, both_quiet n m f u a h v b before more, makes) in
      subst (λ (i : ℕ). Quietly p x counts i f h g k) is all_of

  module _ (most n : ℕ) (f u g : Framed E) (h v k : Heaped) (quiet : Quietly p x counts n f h u v) where
    -- behind them one came to something else
    pub came_made : (came : Stepped) → Makes p x counts u v came g k → n < most → WereMade p x counts most f h (record { steps = n; last = Some came }) g k
    came_made came makes few = record { frames = u; heap = v; quiet = quiet; ends = makes; few = few }

    -- or nothing has changed
    pub left_made : (g ≡ u) × (k ≡ v) → n ≤ most → WereMade p x counts most f h (record { steps = n; last = None }) g k
    left_made same few = record { frames = u; heap = v; quiet = quiet; ends = same; few = few }

  -- behind some within a method
  module _ (method : MethodId) (most n : ℕ) (f u g : Framed E) (h v k : Heaped) (before : Quietly p x counts n f h u v) (made : Within)
      (stayed : StayedWithin p x counts method (most - n) u v made g k) where
    pub quiet_so_far : Quietly p x counts (n + made.steps) f h stayed.frames stayed.heap
    quiet_so_far = both_quiet n made.steps f u stayed.frames h v stayed.heap before stayed.quiet

    pub stuck_so : made.stuck ≡ true → n ≤ most → WereMade p x counts most f h (record { steps = n + made.steps; last = Some steps.Stuck }) g k
    stuck_so is within =
        let ends : EndsSo p x counts (stuck_as true) stayed.frames stayed.heap g k =
        subst (λ (b : Bool). EndsSo p x counts (stuck_as b) stayed.frames stayed.heap g k) is stayed.ends in
        let few : AreFew (most - n) made.steps (stuck_as true) = subst (λ (b : Bool). AreFew (most - n) made.steps (stuck_as b)) is stayed.few in
        came_made most (n + made.steps) f stayed.frames g h stayed.heap k quiet_so_far steps.Stuck ends (omega arith)

    module _ (is : made.stuck ≡ false) where
      pub left_there : (g ≡ stayed.frames) × (k ≡ stayed.heap)
      left_there = subst (λ (b : Bool). EndsSo p x counts (stuck_as b) stayed.frames stayed.heap g k) is stayed.ends

      pub few_there : n ≤ most → n + made.steps ≤ most
      few_there within =
          let few : AreFew (most - n) made.steps (stuck_as false) = subst (λ (b : Bool). AreFew (most - n) made.steps (stuck_as b)) is stayed.few in
          omega arith

      pub quiet_there : Quietly p x counts (n + made.steps) f h g k
      quiet_there =
          let here : Quietly p x counts (n + made.steps) f h g stayed.heap =
          subst (λ (a : Framed E). Quietly p x counts (n + made.steps) f h a stayed.heap) (sym left_there.0) quiet_so_far in
          subst (λ (b : Heaped). Quietly p x counts (n + made.steps) f h g b) (sym left_there.1) here

      pub method_there : method ≡ g.newest.method
      method_there = stayed.stays ∙ sym (ap (λ (a : Framed E). a.newest.method) left_there.0)

      pub stand_there : AreStanding (length x.marks.now) g
      stand_there = subst (λ (a : Framed E). AreStanding (length x.marks.now) a) (sym left_there.0) stayed.stand

      pub built_there : AreBuilt k.objects
      built_there = subst (λ (b : Heaped). AreBuilt b.objects) (sym left_there.1) stayed.built

      pub celled_there : AreCelled x.shapes.now k.objects
      celled_there = subst (λ (b : Heaped). AreCelled x.shapes.now b.objects) (sym left_there.1) stayed.celled

-- of the program that is ready
pub within_so : {E : Type 0} (p : Program) (x : RunTables E) (counts : Counts) (method : MethodId) (most : ℕ) (u g : Framed E) (v k : Heaped) (made : Within) → program_of x ≡ p
    → StayedWithin (program_of x) x counts method most u v made g k → StayedWithin p x counts method most u v made g k
within_so p x counts method most u g v k made is stayed = subst (λ (r : Program). StayedWithin r x counts method most u v made g k) is stayed

pub fixed_itself : {E : Type 0} (p : Program) (x : RunTables E) → IsFixed p x → IsFixed (program_of x) x
fixed_itself {E} p x fixed = subst (λ (q : Program). IsFixed q x) (sym fixed.ready) fixed

-- ---- the machine

module _ {E : Type 0} (m : Machine E) (f g : Framed E) (k : Heaped) (runs : m.guests.running.frames ≡ Some f) (law : RunsAs E) (has : HasRules m)
    (ready : IsReady m) (permissions : PermissionsLast) (kept : KeptLast) where
  abbrev n : Machine E
  n = moved m g k m.constants

  moves : (came : Stepped) → Makes m.calls m.fixed (counts_of m) f m.heap came g k → Moves m came n
  moves came makes =
      one_moves m f g k m.constants ready.machine refl makes.built makes.celled permissions kept runs came (makes.row m.constants.constants) makes.stands makes.alike

  -- behind a step that went on the machine is settled as it stands
  went_settled : (so : Moves m steps.Went n) → Comes m any (λ r. step r m.calls m.plan.now (state_of m)) (done.Went []) n
  went_settled so =
      let P : Machine E → Type 0 = λ x. comings.Settles x steps.Went (done.Went []) n in
      settled m so.before so.after so.heap so.constants so.runs law steps.Went (done.Went []) n so.comes (subst P so.is (settled_went n [] refl))

  went_leads : Makes m.calls m.fixed (counts_of m) f m.heap steps.Went g k → CameTo m (done.Went []) n
  went_leads makes =
      let so = moves steps.Went makes in
      record {
        comes = went_settled so;
        ready = went_ready n steps.Went refl (moved_machine m n steps.Went so) (moved_lives m n steps.Went so ready.lives) (moved_stands m n steps.Went so);
        silent = (so.comes has.rules has.are).asked;
      }

-- ---- some steps of the machine

module _ {E : Type 0} (m : Machine E) (f : Framed E) (runs : m.guests.running.frames ≡ Some f) (law : RunsAs E) (has : HasRules m)
    (ready : IsReady m) (permissions : PermissionsLast) (kept : KeptLast) where
  -- with other frames and another heap
  abbrev at : Framed E → Heaped → Machine E
  at g k = moved m g k m.constants

  -- the rules are the same
  has_there : (g : Framed E) (k : Heaped) → HasRules (at g k)
  has_there g k = record { rules = has.rules; are = record { marks = has.are.marks; side = has.are.side } }

  with_own : at f m.heap ≡ m
  with_own = ap (λ (fs : Option (Framed E)). record {
    fixed = m.fixed;
    plan = m.plan;
    side = m.side;
    guests = with_frames fs m.guests;
    heap = m.heap;
    constants = m.constants;
    permissions = m.permissions;
    kept = m.kept;
    calls = m.calls;
  }) (sym runs)

  same_there : (g u : Framed E) (k v : Heaped) → g ≡ u → k ≡ v → at g k ≡ at u v
  same_there g u k v same also = ap (λ (x : Framed E). at x k) same ∙ ap (λ (x : Heaped). at u x) also

  leads : (count : ℕ) (g : Framed E) (k : Heaped) → Quietly m.calls m.fixed (counts_of m) count f m.heap g k → Leads count m (at g k) × IsReady (at g k)
  unfolding Quietly Leads
  leads zero g k (same, also) =
      let is : at g k ≡ m = same_there g f k m.heap same also ∙ with_own in
      (is, subst IsReady (sym is) ready)
  leads (suc count) g k (u, v, before, makes) =
      let led = leads count u v before in
      let went : CameTo (at u v) (done.Went []) (at g k) = went_leads (at u v) u g k refl law (has_there u v) led.1 permissions kept makes in
      ((at u v, led.0, went, record { fixed = refl; plan = refl; side = refl; calls = refl }), went.ready)

  begun : (last : Option Stepped) (u g : Framed E) (v k : Heaped) → IsReady (at u v) → EndsSo m.calls m.fixed (counts_of m) last u v g k → Began last (at u v) (at g k)
  begun (Some came) u g v k ready_there makes = moves (at u v) u g k refl law (has_there u v) ready_there permissions kept came makes
  begun None u g v k ready_there (same, also) = same_there g u k v same also

  begins : (most : ℕ) (made : Hurried) (g : Framed E) (k : Heaped) → WereMade m.calls m.fixed (counts_of m) most f m.heap made g k → Begins most m made (at g k)
  begins most made g k were =
      let led = leads made.steps were.frames were.heap were.quiet in
      record {
        behind = at were.frames were.heap;
        leads = led.0;
        ready = led.1;
        rules = has_there were.frames were.heap;
        stays = record { fixed = refl; plan = refl; side = refl; calls = refl };
        began = begun made.last were.frames g were.heap k led.1 were.ends;
        few = were.few;
      }

  pub all_begin : {F : Type 0} (r : Result Hurried F) (counts : Counts) (most : ℕ) (g : Framed E) (k : Heaped) (calls : Program) → counts ≡ counts_of m
      → OnOk r (calls ≡ m.calls) → IfOk r (λ made. WereMade m.calls m.fixed counts most f m.heap made g k)
      → IfOk r (λ made. Begins most m made (returned m g k m.constants calls))
  all_begin (Ok made) counts most g k calls is same were =
      subst (λ (q : Program). Begins most m made (returned m g k m.constants q)) (sym same)
      (begins most made g k (subst (λ (c : Counts). WereMade m.calls m.fixed c most f m.heap made g k) is were))
  all_begin (Err e) counts most g k calls is same were = tt

  pub all_fixed : {F : Type 0} (r : Result Hurried F) (g : Framed E) (k : Heaped) (calls : Program) → OnOk r (calls ≡ m.calls)
      → OnOk r (StaysFixed m (returned m g k m.constants calls))
  all_fixed (Ok made) g k calls same = stays_fixed m g k m.constants calls same
  all_fixed (Err e) g k calls same = tt

-- ---- what is wanted

-- none was made
pub none_made : {E : Type 0} (p : Program) (x : RunTables E) (counts : Counts) (most : ℕ) (f : Framed E) (h : Heaped)
    → WereMade p x counts most f h (record { steps = 0; last = None }) f h
none_made p x counts most f h = left_made p x counts most 0 f f f h h h (none_quiet p x counts f h) (refl, refl) (omega arith)

pub none_begun : {E : Type 0} (most : ℕ) (m : Machine E) → IsReady m → HasRules m → Begins most m (record { steps = 0; last = None }) m
unfolding Leads
none_begun most m ready rules = record {
  behind = m;
  leads = refl;
  ready = ready;
  rules = rules;
  stays = record { fixed = refl; plan = refl; side = refl; calls = refl };
  began = refl;
  few = omega arith;
}

-- ---- the last one

module _ {E : Type 0} (most : ℕ) (m n : Machine E) (made : Hurried) (b : Begins most m made n) where
  pub none_closes : made.last ≡ None → Tries most m (record { steps = made.steps; last = None }) n
  none_closes none = record {
    behind = b.behind;
    leads = b.leads;
    ready = b.ready;
    stays = b.stays;
    closes = subst (λ (o : Option Stepped). Began o b.behind n) none b.began;
    few = subst (λ (o : Option Stepped). AreFew most made.steps o) none b.few;
  }

  module _ (came : Stepped) (is : made.last ≡ Some came) where
    pub last_moves : Moves b.behind came n
    last_moves = subst (λ (o : Option Stepped). Began o b.behind n) is b.began

    pub last_machine : StaysMachine came n
    last_machine = moved_machine b.behind n came last_moves

    pub last_lives : Lives n.guests
    last_lives = moved_lives b.behind n came last_moves b.ready.lives

    pub last_stands : LeftStand n came
    last_stands = moved_stands b.behind n came last_moves

    pub last_closes : RunsAs E → TellsWhatMay → Links m.calls → (done : Executed) (o : Machine E) → Finishes n came done o
        → Tries most m (record { steps = made.steps; last = Some done }) o
    last_closes law told links done o finishes = record {
      behind = b.behind;
      leads = b.leads;
      ready = b.ready;
      stays = b.stays;
      closes = executes b.behind n came last_moves law b.rules told (subst (λ (q : Program). Links q) (sym b.stays.calls) links) b.ready.lives done o finishes;
      few = subst (λ (o : Option Stepped). AreFew most made.steps o) is b.few;
    }
