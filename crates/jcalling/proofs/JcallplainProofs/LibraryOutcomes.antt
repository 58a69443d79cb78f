-- What the library left in the running thread is what the machine's step comes to.
use Rattle.std.proofs.Common.{◌≡◌, ◌∙◌, ℕ, ◌+◌, ◌<◌, ◌^◌, Bool, true, false, List, [], ◌∷◌, Option, Some, None, refl, subst, sym, ap, ap₂}
use Rattle.std.specs.Option.{option_to_list}
use Rattle.std.specs.Prelude.{nat_le, if◌then◌else◌}
use Rattle.jlib.specs.declared.calls.LibCall.{LibCall}
use Rattle.jlib.specs.declared.classes.LibClass.{LibClass}
use Rattle.joutput.specs.declared.jtrace.event.End.TheVariants.{HeapFull}
use Rattle.joutput.specs.declared.jtrace.event.Event.{Event}
use Rattle.jresolution.specs.declared.jprogram.member.MethodId.{MethodId}
use Rattle.jresolution.specs.jprogram.ProgramClasses.{Program}
use Rattle.jsemantics.specs.declared.jmachine.plan.Plan.{Plan}
use Rattle.jsemantics.specs.jmachine.MachineStates.{Act, FrameOf, Goes, Jumps, Leaves, Calls, Raises, Throws, Switches, Makes, Over, State, two}
use Rattle.jsemantics.specs.jmachine.InstructionActions.{Doing, run, with_row}
use Rattle.jsemantics.specs.jmachine.FrameOperations.{onward}
use Rattle.jsemantics.specs.jmachine.Security.{Rules}
use Rattle.jsemantics.specs.jmachine.MachineSteps as machine_steps
use Rattle.jsemantics.specs.jmachine.MachineSteps.{entries, own_fields, raised, site, went}
use Rattle.jsemantics.specs.jmachine.Store.{Store, paid}
use Rattle.jsemantics.specs.jmachine.Unwinding.{with_raised}
use Rattle.jruntime.specs.declared.jrun.came.Came.{Came}
use Rattle.jruntime.specs.jstate.FrameLists.{Framed, all}
use Rattle.jrows.specs.declared.jacts.way.Way.{Way}
use Rattle.jrows.specs.declared.jacts.way.Way.TheVariants as ways
use Rattle.jrows.specs.jacts.RowOutcomes.{Acted, Comes, Left, leaves}
use Rattle.jrows.specs.jcalls.MethodCalls.{took}
use Rattle.jrows.specs.jcalls.FrameMarks.{AreStanding, Stand}
use Rattle.jruntime.specs.jguests.GuestThreads.{Lives}
use Rattle.jlibcalls.specs.declared.jlibrary.running.Done.{Done}
use Rattle.jlibcalls.specs.jlibrary.LibraryOutcomes.{Stays}
use Rattle.jstepping.specs.jstep.RowSuccessors.{Follows}
use Rattle.jstepping.specs.declared.jcore.machine.Machine.{Machine}
use Rattle.jstepping.specs.jcore.AnsweredCalls.{Calling, outcome_of}
use Rattle.jstepping.specs.jcore.MachineOutcomes.{Comes as ComesTo, any}
use Rattle.jstepping.specs.jcore.MidStepMachines.{IsNumbered, LeftIsBehind, RunsStanding, left_as}
use Rattle.jstepping.specs.jcore.MachineInvariants.{GuestStands, IsMachine, IsReady, classes_of, state_of, store_of, things_of}
use Rattle.jcalling.specs.jcallplain.LibraryRuns.{RanIn, things_with}
use Rattle.jcalling.specs.jcallplain.CallRowOutcomes.{IsLeft, MayRaise, Settles, WentAs}

-- ---- a row that raises leaves the store as it was

module _ {E : Type 0} (f g : FrameOf ℕ E) (s t : Store ℕ) (class : LibClass) (told : List Event) where
  abbrev left : Left E
  left = leaves (ways.Raises class) told g t

  not_gone : (b : Bool) (x : FrameOf ℕ E) (u : Store ℕ) (events : List Event) → left ≡ (if b then leaves ways.Went events x u else leaves ways.Full [] f s) → s ≡ t
  not_gone true x u events is = let e : ways.Raises class ≡ ways.Went = ap (λ (l : Left E). l.way) is in cc
  not_gone false x u events is = let e : ways.Raises class ≡ ways.Full = ap (λ (l : Left E). l.way) is in cc

  raised_act : (x : FrameOf ℕ E) (cells : ℕ) (act : Act ℕ E) → Acted f s x cells act left → s ≡ t
  raised_act x cells (Goes u values events) is = not_gone (nat_le cells s.left) (onward x values) (paid cells u) events is
  raised_act x cells (Jumps to) is = let e : ways.Raises class ≡ ways.Went = ap (λ (l : Left E). l.way) is.1 in cc
  raised_act x cells (Raises events c message) (n, o, w, e, same, store) = sym store
  raised_act x cells (Throws n) (z, w, e, same, store) = cc
  raised_act x cells (Leaves values) is = absurd is
  raised_act x cells (Calls method arguments entry) is = absurd is
  raised_act x cells (Switches table) is = absurd is
  raised_act x cells (Makes u runnable k) is = absurd is

  raised_store : (d : Option (Doing ℕ E)) → Comes f s d left → s ≡ t
  raised_store None is = cc
  raised_store (Some d) is = raised_act d.frame d.row.charge d.row.act is

-- ---- what the step comes to

module _ {E : Type 0} (r : Rules ℕ E) (p : Program) (plan : Plan) (s : State ℕ E) (f g : Framed E) (told : List Event) (t : Store ℕ) (d : Option (Doing ℕ E)) where
  came_as : Follows E → g.below ≡ f.below → (way : Way) → Stays way f.newest g.newest → Comes f.newest s.store d (leaves way told g.newest t)
      → WentAs r p plan s way told g t (machine_steps.done r p plan s f.below d)
  came_as follows below ways.Went stays comes =
      follows r p plan s f.newest f.below d (leaves ways.Went told g.newest t) comes
      ∙ ap (λ (fs : List (FrameOf ℕ E)). went r p plan s (g.newest ∷ fs) t told) (sym below)
  came_as follows below (ways.Raises class) stays comes =
      let same : s.store ≡ t = raised_store f.newest g.newest s.store t class told d comes in
      let so = λ (fs : List (FrameOf ℕ E)) (x : Store ℕ). if nat_le two s.store.left then raised r p plan s (g.newest ∷ fs) told (with_raised (paid two x) class None) else Over s [] HeapFull in
      (same, follows r p plan s f.newest f.below d (leaves (ways.Raises class) told g.newest t) comes ∙ ap₂ so (sym below) (sym same))
  came_as follows below (ways.Throws n) stays comes = absurd stays
  came_as follows below ways.Full stays comes = follows r p plan s f.newest f.below d (leaves ways.Full told g.newest t) comes
  came_as follows below ways.Stuck stays comes = follows r p plan s f.newest f.below d (leaves ways.Stuck told g.newest t) comes

module _ {E : Type 0} (m mid n : Machine E) (call : LibCall) (count : ℕ) (done : Done) (came : Came) where
  pub ran_comes : Follows E → LeftIsBehind E → IsNumbered E → IsMachine m → RanIn m call count done mid
      → Settles mid done.way (option_to_list done.told) came n → (f : Framed E) → m.guests.running.frames ≡ Some f
      → ComesTo m any (outcome_of m f call count) came n
  ran_comes follows behind number is x settles f frames =
      let g = x.frames in
      let s = state_of m in
      let things = things_with x.permissions m in
      let told = option_to_list done.told in
      let store = store_of (left_as (Some g) x.heap things m) in
      let settled = subst (λ (y : Machine E). Settles y done.way told came n) x.left settles in
      let c = settled s g (behind m s (Some g) x.heap things refl) refl in
      record {
        over = c.over;
        comes = λ r rules alike.
            let at = site r m.calls m.plan.now s f.newest f.below in
            let own = own_fields m.calls f.newest.method in
            let carried = entries r m.calls m.plan.now s (all f) in
            let row = with_row r at own s.store carried s.running.inherited f.newest (run r at own s.store carried s.running.inherited call) (took count f.newest.operands) in
            c.comes r (outcome_of m f call count r) (record { marks = rules.marks; side = rules.side })
            (came_as r m.calls m.plan.now s f g told store row follows (x.below f frames) done.way (x.stays f frames)
            (x.row f frames r m.calls at own carried s.running.inherited (things_of m) m.constants.constants refl (number m is) refl is.held));
      }

-- ---- what is left stands

module _ {E : Type 0} (classes : ℕ) (f g : Framed E) where
  went_stands : Stays ways.Went f.newest g.newest → g.below ≡ f.below → Stand classes (all f) → AreStanding classes g
  went_stands same below stand =
      let P : MethodId → Type 0 = λ m. m.class < classes in
      let B : List (FrameOf ℕ E) → Type 0 = λ fs. Stand classes fs in
      (subst P (sym same) stand.0.class, subst B (sym below) stand.1)

  raised_stands : (class : LibClass) → Stays (ways.Raises class) f.newest g.newest → g.below ≡ f.below → Stand classes (all f) → Stand classes (all g)
  raised_stands class stays below stand =
      let P : MethodId → Type 0 = λ m. m.class < classes in
      let Q : ℕ → Type 0 = λ n. n + 1 < 2 ^ 32 in
      let B : List (FrameOf ℕ E) → Type 0 = λ fs. Stand classes fs in
      (record { class = subst P (sym stays.1) stand.0.class; place = subst Q (sym stays.2) stand.0.place }, subst B (sym below) stand.1)

module _ {E : Type 0} (m mid : Machine E) (call : LibCall) (count : ℕ) (done : Done) (x : RanIn m call count done mid) (calling : Calling m count) where
  abbrev f : Framed E
  f = calling.frames

  lives : Lives mid.guests
  lives = subst (λ (y : Machine E). Lives y.guests) (sym x.left) calling.lives

  ready : done.way ≡ ways.Went → IsReady mid
  ready went =
      let classes = classes_of m in
      let stays : Stays ways.Went f.newest x.frames.newest = subst (λ (w : Way). Stays w f.newest x.frames.newest) went (x.stays f calling.runs) in
      let stand = went_stands classes f x.frames stays (x.below f calling.runs) calling.stand in
      let here : GuestStands classes (left_as (Some x.frames) x.heap (things_with x.permissions m) m).guests.running =
      λ h e. let same : x.frames ≡ h = cc in subst (λ (y : Framed E). AreStanding classes y) same stand in
      record {
        machine = x.machine (λ stuck. let e : ways.Went ≡ ways.Stuck = sym went ∙ stuck in cc);
        lives = lives;
        running = subst (λ (y : Machine E). GuestStands (classes_of y) y.guests.running) (sym x.left) here;
      }

  may_raise : (class : LibClass) → done.way ≡ ways.Raises class → MayRaise mid
  may_raise class raises =
      let stays : Stays (ways.Raises class) f.newest x.frames.newest = subst (λ (w : Way). Stays w f.newest x.frames.newest) raises (x.stays f calling.runs) in
      let stand = raised_stands (classes_of m) f x.frames class stays (x.below f calling.runs) calling.stand in
      let here : RunsStanding (left_as (Some x.frames) x.heap (things_with x.permissions m) m) = record { frames = x.frames; runs = refl; stand = stand } in
      record {
        machine = x.machine (λ stuck. let e : ways.Raises class ≡ ways.Stuck = sym raises ∙ stuck in cc);
        lives = lives;
        runs = subst (λ (y : Machine E). RunsStanding y) (sym x.left) here;
      }

  by_way : (way : Way) → done.way ≡ way → Stays way f.newest x.frames.newest → IsLeft mid way
  by_way ways.Went is stays = ready is
  by_way (ways.Raises class) is stays = (stays.0, may_raise class is)
  by_way (ways.Throws n) is stays = absurd stays
  by_way ways.Full is stays = tt
  by_way ways.Stuck is stays = tt

  pub left_stands : IsLeft mid done.way
  left_stands = by_way done.way refl (x.stays f calling.runs)
