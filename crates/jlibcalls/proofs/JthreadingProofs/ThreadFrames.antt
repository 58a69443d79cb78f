-- Which threads and which frames a call leaves.
use Rattle.std.proofs.Common.{◌≡◌, ◌∙◌, ℕ, List, refl, sym, ap, subst, inr}
use Rattle.std.specs.Prelude.{option_map, true}
use Rattle.jthreads.specs.declared.thread.Thread.{Thread}
use Rattle.jthreads.specs.declared.table.Joined.TheVariants.{AtOnce}
use Rattle.jthreads.specs.ThreadTables.{is_runnable, is_started, join_answer, joined, table_after_start, thread_at}
use Rattle.jruntime.specs.declared.jguests.guests.Guest.{Guest}
use Rattle.jruntime.specs.declared.jguests.guests.Guests.{Guests}
use Rattle.jruntime.specs.declared.jguests.turns.Turned.{Turned}
use Rattle.jruntime.specs.declared.jguests.turns.Turned.TheVariants as turns
use Rattle.jruntime.specs.jguests.GuestThreads.{AreGuests, AwaitLiving, HaveStayed, Lives, with_table}
use Rattle.jlibcalls.specs.declared.jthreading.switching.Threaded.TheVariants as threaded
use Rattle.jlibcalls.specs.jthreading.ThreadEffects.{LivesOn}
use Rattle.jlibcalls.specs.jthreading.ThreadFrames.{behind, gone, without}
use Rattle.jlibcalls.proofs.JthreadingProofs.ThreadOutcomes.{joined_same, started_same}

module _ {E : Type 0} where
  -- nothing has changed
  pub same_stay : (g : Guests E) → HaveStayed g g
  same_stay g x is = inr is

  pub those_stay : (g h : Guests E) → h ≡ g → HaveStayed g h
  those_stay g h is = subst (λ (x : Guests E). HaveStayed g x) (sym is) (same_stay g)

  -- ---- another has its turn

  pub turned_stay : (count : ℕ) (g mid h : Guests E) → mid ≡ behind count g → HaveStayed mid h → HaveStayed (behind count g) h
  turned_stay count g mid h is stay = subst (λ (x : Guests E). HaveStayed x h) is stay

  -- with another table, before its frame went on or behind that
  pub started_stay : (count : ℕ) (table : List Thread) (g first mid h : Guests E) → first ≡ with_table table g → mid ≡ behind count first → HaveStayed mid h
      → HaveStayed (behind count g) h
  started_stay count table g first mid h is goes stay = subst (λ (x : Guests E). HaveStayed x h) (goes ∙ ap (behind count) is) stay

  pub waiting_stay : (count : ℕ) (g first mid h : Guests E) (table : Guests E → List Thread) → first ≡ behind count g → mid ≡ with_table (table first) first → HaveStayed mid h
      → HaveStayed (behind count g) h
  waiting_stay count g first mid h table goes is stay =
      subst (λ (x : Guests E). HaveStayed x h) (is ∙ ap (λ (x : Guests E). with_table (table x) x) goes) stay

  pub turned_lives : (done : Turned) (h : Guests E) → (done ≡ turns.Goes → is_runnable (thread_at h.table h.at) ≡ true) → AwaitLiving h.table → LivesOn (threaded.Turned done) h
  turned_lives turns.Goes h runs wait = record { runs = runs refl; wait = wait }
  turned_lives (turns.Ends end) h runs wait = tt

  -- none waits in vain where the one that called goes on behind its call
  pub behind_waits : (count : ℕ) (g h : Guests E) → h ≡ behind count g → AwaitLiving g.table → AwaitLiving h.table
  behind_waits count g h is wait = subst (λ (x : Guests E). AwaitLiving x.table) (sym is) wait

  -- ---- a thread that had been started

  pub raised_is : (count t : ℕ) (g mid h : Guests E) → mid ≡ with_table (table_after_start t g.table) g → is_started g.table t ≡ true → h ≡ without count mid → h ≡ without count g
  raised_is count t g mid h starts before is =
      is ∙ ap (without count) (starts ∙ ap (λ ts. with_table ts g) (started_same g.table t before))

  pub raised_lives : (count : ℕ) (g h : Guests E) → h ≡ without count g → Lives g → Lives h
  raised_lives count g h is lives = subst (λ (x : Guests E). Lives x) (sym is) lives

  -- ---- a thread that isn't waited for

  pub joined_is : (count t : ℕ) (g mid h : Guests E) → mid ≡ behind count g → h ≡ with_table (joined mid.at t mid.table) mid → join_answer t mid.table ≡ AtOnce → h ≡ behind count g
  joined_is count t g mid h goes is once =
      is ∙ ap (λ (x : Guests E). with_table (joined x.at t x.table) x) goes
      ∙ ap (λ ts. with_table ts (behind count g)) (joined_same g.table g.at t (ap (λ (x : Guests E). join_answer t x.table) (sym goes) ∙ once))

  pub behind_lives : (count : ℕ) (g h : Guests E) → h ≡ behind count g → Lives g → Lives h
  behind_lives count g h is lives = subst (λ (x : Guests E). Lives x) (sym is) lives

  -- ---- one more thread

  pub are_behind : (count : ℕ) (g h : Guests E) → h ≡ behind count g → AreGuests g → AreGuests h
  are_behind count g h is are = subst (λ (x : Guests E). AreGuests x) (sym is) (record { at = are.at; husk = are.husk; table = are.table; few = are.few })

  pub more_frames : (count : ℕ) (g mid h : Guests E) → mid ≡ behind count g → h.running ≡ mid.running → h.running.frames ≡ option_map (gone count) g.running.frames
  more_frames count g mid h goes same = ap (λ (x : Guest E). x.frames) same ∙ ap (λ (x : Guests E). x.running.frames) goes
