-- What a call of Thread's constructor comes to, and what is asked.
use Rattle.std.proofs.Common.{◌≡◌, ◌∙◌, ℕ, [], ◌++◌, Option, Some, None, refl, sym, ap, subst, inl, inr}
use Rattle.std.specs.Prelude.{map, take}
use Rattle.jmemory.specs.jheap.Heaps.{Heaped}
use Rattle.jlib.specs.declared.calls.LibCall.TheVariants as calls
use Rattle.jlib.specs.declared.calls.ThreadCall.{ThreadCall}
use Rattle.jlib.specs.declared.calls.ThreadCall.TheVariants as threads
use Rattle.jlib.specs.declared.side.Side.{Side}
use Rattle.jsemantics.specs.jmachine.MachineStates.{FrameOf, Went}
use Rattle.jsemantics.specs.jmachine.AccessQueries.{Answer, Ask, Inherits, Kept, answer_in, carried}
use Rattle.jsemantics.specs.jmachine.MachineSteps.{site_of}
use Rattle.jsemantics.specs.jmachine.Security.{Rules}
use Rattle.jruntime.specs.declared.jrun.came.Came.{Came}
use Rattle.jruntime.specs.declared.jrun.came.Came.TheVariants as stepped
use Rattle.jruntime.specs.jstate.ObjectCells.{StayCelled}
use Rattle.jruntime.specs.jstate.FrameLists.{Framed, all}
use Rattle.jruntime.specs.jstate.HeapMeanings.{AreBuilt}
use Rattle.jruntime.specs.declared.jguests.guests.Guests.{Guests}
use Rattle.jruntime.specs.jguests.GuestThreads.{AreGuests, HaveStayed, Lives, frames_of}
use Rattle.jlibcalls.specs.jlibrary.HeldPermissions.{with_permissions}
use Rattle.jlibcalls.specs.jcontexts.KeptContexts.{with_kept}
use Rattle.jguard.specs.NumberMeanings.{AnswersFor}
use Rattle.jlibcalls.specs.declared.jthreading.making.Given.{Given}
use Rattle.jlibcalls.specs.declared.jthreading.switching.Threaded.TheVariants as threaded
use Rattle.jlibcalls.specs.jthreading.ThreadLaws.{InitAsks, InitAsksNothing, InitIsStuck}
use Rattle.jlibcalls.specs.jthreading.ThreadConstructors.{MakesThread, Named, NamesNoMore}
use Rattle.jlibcalls.specs.jthreading.ThreadFrames.{behind}
use Rattle.jstepping.specs.declared.jcore.machine.Machine.{Machine}
use Rattle.jstepping.specs.jcore.AnsweredCalls.{Answered, Calling, asked_of, outcome_of}
use Rattle.jstepping.specs.jcore.MachineOutcomes.{Comes, GoesOn, any, outcome_by}
use Rattle.jstepping.specs.jcore.MachineInvariants.{GuestStands, IsMachine, classes_of, state_of, things_of}
use Rattle.jcallthread.specs.ThreadCalls.{IsGivenIn, MakesIn, with_threads}
use Rattle.jcallthread.proofs.ThreadInvariants.{each_stands}

pub makes_in : {E : Type 0} (m : Machine E) (kept count : ℕ) (x : Given) (g : Guests E) (heap : Heaped) → MakesThread kept count x m.guests m.heap g heap → AreGuests g
    → HaveStayed (behind count m.guests) g → (Lives m.guests → Lives g) → Lives m.guests → AreBuilt heap.objects → StayCelled m.heap.objects heap.objects
    → NamesNoMore m.heap.objects heap.objects → MakesIn m kept count x (with_threads g heap m)
makes_in m kept count x g heap row are stay lives alive built celled names =
    record {
      guests = g;
      heap = heap;
      is = refl;
      row = row;
      are = are;
      stay = stay;
      lives = lives alive;
      built = built;
      celled = celled;
      names = names;
    }

-- what the frames carry
pub carried_is : {E : Type 0} (m : Machine E) (f : Framed E) → m.guests.running.frames ≡ Some f → carried (state_of m) ≡ map (λ (y : FrameOf ℕ E). y.entry) (all f)
carried_is {E} m f frames = ap (λ (o : Option (Framed E)). map (λ (y : FrameOf ℕ E). y.entry) (frames_of o)) frames

pub carried_none : {E : Type 0} (m : Machine E) → m.guests.running.frames ≡ None → carried (state_of m) ≡ []
carried_none {E} m frames = ap (λ (o : Option (Framed E)). map (λ (y : FrameOf ℕ E). y.entry) (frames_of o)) frames

kept_same : {E : Type 0} (a b : ℕ) (x y : Answer ℕ E) → x ≡ Kept a → y ≡ Kept b → x ≡ y → a ≡ b
kept_same a b x y left right e = cc

module _ {E : Type 0} (m : Machine E) (side : Side) (count : ℕ) where
  abbrev call : ThreadCall
  call = threads.Init side

  -- ---- a thread is made

  made_machine : Calling m count → (kept : ℕ) (x : Given) (n : Machine E) → MakesIn m kept count x n → IsMachine n
  made_machine c kept x n made =
      let is = c.machine in
      subst (λ (y : Machine E). IsMachine y) (sym made.is) (record {
        fixed = is.fixed;
        files = is.files;
        depth = is.depth;
        tied = is.tied;
        small = is.small;
        constants = is.constants;
        guests = made.are;
        others = λ y i at. each_stands m count c threaded.Went made.guests made.stay y (inr (i, at));
        built = made.built;
        celled = made.celled m.fixed.shapes.now is.celled;
        held = λ things more e. made.names m.calls m.fixed.shapes.now things (with_permissions (m.permissions ++ more) things) (is.held things more e);
        kept = λ more. made.names m.calls m.fixed.shapes.now (things_of m) (with_kept (m.kept ++ more) (things_of m)) (is.kept more);
      })

  pub made_ready : Calling m count → (kept : ℕ) (x : Given) (n : Machine E) (came : Came) → MakesIn m kept count x n → came ≡ stepped.Went [] → GoesOn n came
  made_ready c kept x n came made is =
      subst (λ (y : Came). GoesOn n y) (sym is) (record {
        machine = made_machine c kept x n made;
        lives = subst (λ (y : Machine E). Lives y.guests) (sym made.is) made.lives;
        running = subst (λ (y : Machine E). GuestStands (classes_of y) y.guests.running) (sym made.is)
            (each_stands m count c threaded.Went made.guests made.stay made.guests.running (inl refl));
      })

  pub init_asked : InitAsks → (x : Given) → IsGivenIn m side count x → (f : Framed E) → m.guests.running.frames ≡ Some f
      → asked_of m f (calls.Thread call) count ≡ Some (Inherits x.context)
  init_asked asks x given f frames =
      asks m.side side (site_of m.calls m.plan.now (state_of m) f.newest f.below) m.calls m.fixed.shapes.now (things_of m) m.constants.constants m.heap
      (take count f.newest.operands) x (given f frames)

  -- where it is given what it needs it asks something
  pub init_asks : InitAsks → (x : Given) → IsGivenIn m side count x → (f : Framed E) → m.guests.running.frames ≡ Some f → asked_of m f (calls.Thread call) count ≡ None → ⊥
  init_asks asks x given f frames none = let e : Some (Inherits x.context) ≡ None = sym (init_asked asks x given f frames) ∙ none in cc

  pub made_answered : {K F : Type 0} (old new : ℕ → Option K) (old_marks new_marks : E → Option F) (rules : Rules K F) → InitAsks → (kept : ℕ) (x : Given) (n : Machine E) (came : Came)
      → IsGivenIn m side count x → MakesIn m kept count x n → came ≡ stepped.Went []
      → AnswersFor old new old_marks new_marks rules (Inherits x.context) (carried (state_of m)) m.guests.running.inherited (Kept kept)
      → (f : Framed E) → m.guests.running.frames ≡ Some f
      → Answered old new old_marks new_marks rules m (asked_of m f (calls.Thread call) count) (outcome_of m f (calls.Thread call) count) came n
  made_answered {K} {F} old new old_marks new_marks rules asks kept x n came given made is answer f frames =
      let asked = init_asked asks x given f frames in
      let s = state_of m in
      record {
        given = Kept kept;
        answers = λ ask e. subst (λ (a : Ask ℕ). AnswersFor old new old_marks new_marks rules a (carried s) m.guests.running.inherited (Kept kept))
            (same_ask ask (sym asked ∙ e)) answer;
        comes = record {
          over = s;
          comes = λ r own so. subst (λ (y : Came). outcome_of m f (calls.Thread call) count r ≡ outcome_by s n y) (sym is)
              (made.row r m.calls m.plan.now m.fixed.shapes.now (things_of m) m.constants.constants side f frames (given f frames)
              (ap (λ es. r.inherit x.context es m.guests.running.inherited) (sym (carried_is m f frames)) ∙ kept_same (r.inherit x.context (carried s) m.guests.running.inherited) kept (answer_in r s (Inherits x.context)) (Kept kept) refl refl (so (Inherits x.context) asked))
              ∙ ap (λ (y : Machine E). Went (state_of y) []) (sym made.is));
        };
      }
    where
      same_ask : (ask : Ask ℕ) → Some (Inherits x.context) ≡ Some ask → Inherits x.context ≡ ask
      same_ask ask e = cc

  -- ---- there is no step

  pub init_silent : InitAsksNothing → Named side count m.guests m.heap None → (f : Framed E) → m.guests.running.frames ≡ Some f
      → asked_of m f (calls.Thread call) count ≡ None
  init_silent nothing none f frames =
      nothing m.side side (site_of m.calls m.plan.now (state_of m) f.newest f.below) m.calls m.fixed.shapes.now (things_of m) m.constants.constants m.heap
      (take count f.newest.operands) (none f frames)

  pub stuck_answered : {K F : Type 0} (old new : ℕ → Option K) (old_marks new_marks : E → Option F) (rules : Rules K F) → InitAsksNothing → InitIsStuck E
      → Named side count m.guests m.heap None → (f : Framed E) → m.guests.running.frames ≡ Some f
      → Answered old new old_marks new_marks rules m (asked_of m f (calls.Thread call) count) (outcome_of m f (calls.Thread call) count) stepped.Stuck m
  stuck_answered {K} {F} old new old_marks new_marks rules nothing stuck none f frames =
      let s = state_of m in
      let asked = init_silent nothing none f frames in
      record {
        given = Kept 0;
        answers = λ ask e. absurd (let a = asked in let b = e in cc);
        comes = record {
          over = s;
          comes = λ r own so. stuck r m.calls m.plan.now s f count side m.fixed.shapes.now (things_of m) m.constants.constants m.heap refl (none f frames);
        };
      }

-- ---- the other calls

pub none_answered : {E K F : Type 0} (m n : Machine E) (call : ThreadCall) (count : ℕ) (came : Came) (old new : ℕ → Option K) (old_marks new_marks : E → Option F) (rules : Rules K F)
    → (f : Framed E) → asked_of m f (calls.Thread call) count ≡ None → Comes m any (outcome_of m f (calls.Thread call) count) came n
    → Answered old new old_marks new_marks rules m (asked_of m f (calls.Thread call) count) (outcome_of m f (calls.Thread call) count) came n
none_answered m n call count came old new old_marks new_marks rules f asked comes =
    record {
      given = Kept 0;
      answers = λ ask e. absurd (let a = asked in let b = e in cc);
      comes = record { over = comes.over; comes = λ r own so. comes.comes r own tt };
    }
