-- How a run begins, by numbers.
use Rattle.std.proofs.Common.{◌≡◌, ◌∙◌, ℕ, zero, suc, ◌+◌, ◌<◌, ◌≤◌, true, false, List, [], ◌∷◌, ◌++◌, map, length, take, drop, Option, Some, None, refl, sym, ap, ap₂, subst, arith, inl, inr}
use Rattle.std.specs.Prelude.{get_or, is_some, option_and_then, option_map, slice_set}
use Rattle.std.proofs.lemmas.List.{map_more}
use Rattle.std.proofs.lemmas.Option.{slice_get_cases}
use Rattle.jthreads.specs.declared.thread.Thread.{Thread}
use Rattle.jthreads.specs.ThreadTables.{opened}
use Rattle.jmemory.specs.jheap.Heaps.{Heaped}
use Rattle.jlib.specs.declared.side.Side.{Side}
use Rattle.jresolution.specs.declared.jprogram.member.MethodId.{MethodId}
use Rattle.jresolution.specs.declared.jprogram.part.CodePart.{CodePart}
use Rattle.jresolution.specs.jprogram.ProgramClasses.{Program}
use Rattle.jresolution.specs.juses.IndexedInstructions.{body_in, code_at}
use Rattle.jlinking.specs.jlink.ProgramFiles.{AreFiles}
use Rattle.jsemantics.specs.declared.jmachine.plan.Plan.{Plan}
use Rattle.jsemantics.specs.jmachine.MachineStates.{FrameOf, GuestOf, State}
use Rattle.jsemantics.specs.jmachine.OpeningState.{main_guest, opening_charge, opening_state, opening_store}
use Rattle.jsemantics.specs.jmachine.Security.{Rules}
use Rattle.jsemantics.specs.jmachine.Store.{Store}
use Rattle.jruntime.specs.declared.jstate.shapes.Shapes.{Shapes}
use Rattle.jruntime.specs.jstate.FrameLists.{Framed, all}
use Rattle.jruntime.specs.jstate.HeapMeanings.{Things, store_by}
use Rattle.jruntime.specs.declared.jguests.guests.Guest.{Guest}
use Rattle.jruntime.specs.declared.jguests.guests.Guests.{Guests}
use Rattle.jruntime.specs.jguests.GuestThreads.{AreGuests, Lives, NoneWait, guest_by, guests_of, state_by}
use Rattle.jserving.specs.jcells.CellLayout.{AreTied}
use Rattle.jstepping.specs.jstep.StepRelation.{IsFixed}
use Rattle.jlibcalls.specs.jconstants.StringConstants.{Made}
use Rattle.jlibcalls.specs.jlibrary.HeldPermissions.{AreHeld}
use Rattle.jlibcalls.specs.jcontexts.KeptContexts.{AreKept}
use Rattle.jstepping.specs.declared.jopen.opening.FirstFrame.{FirstFrame}
use Rattle.jstepping.specs.declared.jopen.opening.Opened.{Opened}
use Rattle.jstepping.specs.jopen.InitialMachines.{BeginsMain, IsAlone, Opens}
use Rattle.jstepping.specs.declared.jcore.machine.Machine.{Machine}
use Rattle.jstepping.specs.jcore.MachineInvariants.{GuestStands, IsMachine, classes_of, store_of, things_of}
use Rattle.jforms.specs.declared.jtables.grounds.EngineTables.{EngineTables}
use Rattle.jforms.specs.jtables.RunTables.{IsBegun, IsGround}

-- ---- the program

-- what is put behind the images of a front is that of what follows it
pub mapped_more : {A B : Type 0} (f : A → B) (xs : List A) (i : ℕ) (x : A) (ys zs : List B) (y : B) → i < length xs → x ≡ get_or xs i x → y ≡ f x
    → ys ≡ map f (take i xs) → zs ≡ ys ++ y ∷ [] → zs ≡ map f (take (i + 1) xs)
mapped_more f xs i x ys zs y lt here is front put = put ∙ ap₂ (λ l b. l ++ b ∷ []) front (is ∙ ap f here) ∙ sym (map_more f xs i x lt)

-- ---- objects that name nothing

-- where the store is the same whatever is kept, no object names anything that is kept
pub none_held : (p : Program) (shapes : Shapes) (constants : List (List ℕ × ℕ)) (h : Heaped) (s : Store ℕ)
    → ((things : Things) → store_by p shapes things constants h ≡ s) → AreHeld p shapes [] h.objects
none_held p shapes constants h s same things more none = ap (λ (t : Store ℕ). t.objects) (same _ ∙ sym (same things))

pub none_kept : (p : Program) (shapes : Shapes) (constants : List (List ℕ × ℕ)) (h : Heaped) (s : Store ℕ) (things : Things)
    → ((others : Things) → store_by p shapes others constants h ≡ s) → AreKept p shapes things h.objects
none_kept p shapes constants h s things same more = ap (λ (t : Store ℕ). t.objects) (same _ ∙ sym (same things))

-- ---- the thread

set_first : {A : Type 0} (ys : List A) (i : ℕ) (y x : A) → i ≡ 0 → slice_set ys i y ≡ x ∷ [] → y ≡ x
set_first [] i y x at e = absurd (let d = e in cc)
set_first (z ∷ zs) zero y x at e = let d = e in cc
set_first (z ∷ zs) (suc i) y x at e = absurd (omega (arith, at))

-- the state of threads that lie so
abbrev state_in : {E : Type 0} → Store ℕ → List (GuestOf ℕ E) → ℕ → GuestOf ℕ E → List Thread → ℕ → State ℕ E
state_in store all at running table turns = record {
  earlier = take at all;
  running = running;
  later = drop (at + 1) all;
  table = table;
  store = store;
  turns = turns;
}

state_same : {E : Type 0} (store t : Store ℕ) (gs hs : List (GuestOf ℕ E)) (at : ℕ) (x y : GuestOf ℕ E) (table other : List Thread) (turns : ℕ)
    → store ≡ t → gs ≡ hs → at ≡ 0 → x ≡ y → table ≡ other → turns ≡ 0 → state_in store gs at x table turns ≡ state_in t hs 0 y other 0
state_same store t gs hs at x y table other turns a b c d e f = rw (a, b, c, d, e, f) refl

-- the only thread of those with which a run begins
abbrev only : {E : Type 0} → Framed E → Guest E
only f = record { frames = Some f; inherited = None; runnable = 0; failed = false }

main_is : {E : Type 0} (r : Rules ℕ E) (p : Program) (m : MethodId) (f : Framed E) → all f ≡ (main_guest r p m).frames → guest_by (only f) ≡ main_guest r p m
main_is {E} r p m f same = ap (λ (fs : List (FrameOf ℕ E)). record { frames = fs; inherited = None; runnable = 0; failed = false }) same

-- its state is that with which a run begins
pub opening_is : {E : Type 0} (r : Rules ℕ E) (p : Program) (m : MethodId) (heap : ℕ) (g : Guests E) (f : Framed E) (store : Store ℕ)
    → guests_of g ≡ guest_by (only f) ∷ [] → g.at ≡ 0 → g.table ≡ opened → g.turns ≡ 0 → all f ≡ (main_guest r p m).frames → store ≡ opening_store p heap
    → state_by g store ≡ opening_state r p m heap
unfolding opening_state
opening_is {E} r p m heap g f store one at table turns frames same =
    let main : guest_by (only f) ≡ main_guest r p m = main_is r p m f frames in
    let guests : guests_of g ≡ main_guest r p m ∷ [] = one ∙ ap (λ (x : GuestOf ℕ E). x ∷ []) main in
    let running : guest_by g.running ≡ main_guest r p m = set_first (map guest_by g.others.items) g.at (guest_by g.running) (main_guest r p m) at guests in
    state_same store (opening_store p heap) (guests_of g) (main_guest r p m ∷ []) g.at (guest_by g.running) (main_guest r p m) g.table opened g.turns
    same guests at running table turns

-- its frame may go on
class_within : (p : Program) (m : MethodId) → is_some (code_at p m) ≡ true → m.class < length p.parts
class_within p m coded = elim (slice_get_cases p.parts m.class).1 [
  | inl found ↦ found.1
  | inr none ↦
      let gone = ap (λ (o : Option CodePart). is_some (option_and_then (λ c. body_in c m.method) (option_map (λ (part : CodePart). part.class) o))) none.1 in
      absurd (let a = gone in let b = coded in cc)
]

pub first_stands : {E : Type 0} (p : Program) (classes : ℕ) (first : FirstFrame E) (f : Framed E) (x : Guest E) → classes ≡ length p.parts → is_some (code_at p first.main) ≡ true
    → IsAlone first f → x.frames ≡ Some f → GuestStands classes x
first_stands p classes first f x count coded alone is g some =
    let same : f ≡ g = let a = is in let b = some in cc in
    rw (← same, alone.method, alone.below, count) (class_within p first.main coded, tt)

-- ---- all

-- A machine stands at the beginning of a run, with what was opened.
pub begun_by : {M : Type 0} (p : Program) (mark : ℕ → M) (base : EngineTables M) (first : FirstFrame M) (plan : Plan) (side : Side) (o : Opened M) (m : Machine M)
    → IsGround p mark base → is_some (code_at p plan.main) ≡ true → first.main ≡ plan.main → Opens base.ready.program base.shaped.shapes first plan.heap o
    → IsFixed p m.fixed → AreTied p m.fixed.tables.now m.fixed.shapes.now → m.fixed.shapes.now ≡ base.shaped.shapes → m.fixed.marks.now ≡ base.marks
    → m.fixed.depth ≡ plan.depth → AreFiles p
    → AreGuests m.guests → guests_of m.guests ≡ guest_by (only o.frames) ∷ [] → m.guests.running ≡ only o.frames → NoneWait m.guests → Lives m.guests
    → m.guests.table ≡ opened → m.guests.turns ≡ 0 → m.guests.at ≡ 0
    → m.calls ≡ p → m.plan.now ≡ plan → m.side ≡ side → m.heap ≡ o.heap → m.constants ≡ o.constants → m.permissions ≡ [] → m.kept ≡ []
    → IsBegun p plan side base.marks first m
begun_by {M} p mark base first plan side o m f coded main opens fixed tied shapes marks depth files guests one now waits lives table turns at calls planned sided heap constants permissions kept =
    let is = f.ready in
    let store = λ (things : Things). subst (λ (q : Program). store_by q base.shaped.shapes things o.constants.constants o.heap ≡ opening_store q plan.heap) is (opens.store things) in
    let lone = ap (λ (x : Guest M). x.frames) now in
    let here : is_some (code_at p first.main) ≡ true = rw main coded in
    let machine : IsMachine m = record {
      fixed = subst (λ (q : Program). IsFixed q m.fixed) (sym calls) fixed;
      files = subst AreFiles (sym calls) files;
      depth = ap (λ (x : Plan). x.depth) planned ∙ sym depth;
      tied = subst (λ (q : Program). AreTied q m.fixed.tables.now m.fixed.shapes.now) (sym calls) tied;
      small = rw shapes f.small;
      constants = ap (λ (x : Made). x.program) constants ∙ opens.program ∙ is ∙ sym calls;
      guests = guests;
      others = λ x i where_at g some. absurd (let a = waits x i where_at in let b = some in cc);
      built = rw heap opens.built;
      celled = rw (shapes, heap) opens.celled;
      held = rw (calls, shapes, permissions, heap) (none_held p base.shaped.shapes o.constants.constants o.heap (opening_store p plan.heap) store);
      kept = rw (calls, shapes, heap) (none_kept p base.shaped.shapes o.constants.constants o.heap (opening_store p plan.heap) (things_of m) store);
    } in
    record {
      ready = record {
        machine = machine;
        lives = lives;
        running = first_stands p (classes_of m) first o.frames m.guests.running fixed.marks here opens.alone lone;
      };
      calls = calls;
      planned = planned;
      sided = sided;
      carry = marks;
      room = subst (λ (q : Program). opening_charge q ≤ plan.heap) is opens.room;
      state = λ r mark_is handed_is.
          let begins = subst (λ (q : Program). BeginsMain q first o.frames) is opens.frames in
          let frames = subst (λ (x : MethodId). all o.frames ≡ (main_guest r p x).frames) main (begins r (rw main mark_is) handed_is) in
          opening_is r p plan.main plan.heap m.guests o.frames (store_of m) one at table turns frames (rw (calls, shapes, constants, heap) (store (things_of m)));
    }
