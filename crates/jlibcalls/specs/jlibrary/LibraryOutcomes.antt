-- What a call of the library came to, by what the machine's definition says that it does.
use Rattle.std.specs.Prelude.{◌≡◌, ⊤, ℕ, Bool, List, [], ◌∷◌, drop, take, Option, Some, None}
use Rattle.std.specs.Option.{option_to_list}
use Rattle.jperm.specs.declared.permission.Permission as perms
use Rattle.jvalues.specs.declared.jops.value.Value.{Value}
use Rattle.jmemory.specs.jheap.Heaps.{Heaped}
use Rattle.jlib.specs.declared.calls.LibCall.{LibCall}
use Rattle.jlib.specs.declared.calls.LibCall.TheVariants as calls
use Rattle.jlib.specs.declared.classes.LibClass.TheVariants as lib
use Rattle.jlib.specs.declared.classes.Thrown.{Thrown as ThrownClass}
use Rattle.joutput.specs.declared.jtrace.event.Event.{Event}
use Rattle.joutput.specs.declared.jtrace.event.Event.TheVariants.{Out}
use Rattle.jresolution.specs.declared.jprogram.member.Member.{Member}
use Rattle.jresolution.specs.jprogram.ProgramClasses.{Program}
use Rattle.jsemantics.specs.jmachine.MachineStates.{FrameOf, Row}
use Rattle.jsemantics.specs.jmachine.InstructionActions.{run, with_row}
use Rattle.jsemantics.specs.jmachine.FrameOperations.{onward, with_operands}
use Rattle.jsemantics.specs.jmachine.LibraryCalls.{library}
use Rattle.jsemantics.specs.jmachine.Security.{Rules}
use Rattle.jsemantics.specs.jmachine.InstructionSites.{Site}
use Rattle.jsemantics.specs.jmachine.Store.{Store}
use Rattle.jruntime.specs.declared.jstate.shapes.Shapes.{Shapes}
use Rattle.jruntime.specs.jstate.HeapMeanings.{Things, store_by}
use Rattle.jrows.specs.jtexts.TextCallOutcomes as rans
use Rattle.jrows.specs.declared.jtexts.ran.Ran.{Ran}
use Rattle.jrows.specs.declared.jtexts.ran.Ran.TheVariants as ran
use Rattle.jrows.specs.declared.jacts.way.Way.{Way}
use Rattle.jrows.specs.declared.jacts.way.Way.TheVariants as ways
use Rattle.jrows.specs.jacts.RowOutcomes.{Comes, leaves}
use Rattle.jlibcalls.specs.declared.jlibrary.came.Came.{Came}
use Rattle.jlibcalls.specs.declared.jlibrary.running.Done.{Done}
use Rattle.jlibcalls.specs.jlibrary.HeldPermissions.{AreHeld, with_permissions}

-- ---- calls with their values

-- A call did what a row says, whatever else is told: the heaps before and behind it are told.
abbrev pub Does : {E : Type 0} → Shapes → (Store ℕ → Option (Row ℕ E)) → Heaped → Ran → List Event → Heaped → Type 0
Does {E} shapes row h came told k = (p : Program) (things : Things) (constants : List (List ℕ × ℕ)) → let s = store_by p shapes things constants h in
    rans.Comes {E = E} s (row s) (rans.leaves came told (store_by p shapes things constants k))

-- A constructor of a permission did what a row says, where these permissions were there, and has left those.
abbrev pub Constructs : {E : Type 0} → (Store ℕ → Option (Row ℕ E)) → List perms.Permission → Heaped → Ran → List perms.Permission → Heaped → Type 0
Constructs {E} row before h came after k =
    (p : Program) (shapes : Shapes) (things : Things) (constants : List (List ℕ × ℕ)) → things.permissions ≡ before
    → AreHeld p shapes before h.objects
    → let s = store_by p shapes things constants h in
    rans.Comes {E = E} s (row s) (rans.leaves came [] (store_by p shapes (with_permissions after things) constants k))

-- A call of the library with these values did what its row says, where these permissions were there, and has left those.
abbrev pub CallDoes : Type 0 → Shapes → (cwd : List ℕ) → (thread : ℕ) → LibCall → List (Value ℕ)
    → List perms.Permission → Heaped → Came → List perms.Permission → Heaped → Type 0
CallDoes E shapes cwd thread call values before h came after k =
    (p : Program) (at : Site) (things : Things) (constants : List (List ℕ × ℕ))
    → at.cwd ≡ cwd → at.thread ≡ thread → things.permissions ≡ before → AreHeld p shapes before h.objects
    → let s = store_by p shapes things constants h in
    rans.Comes {E = E} s (library at s call values)
    (rans.leaves came.ran (option_to_list came.told) (store_by p shapes (with_permissions after things) constants k))

-- what printed this text of a thread, if there was one
abbrev pub came_by : (thread : ℕ) → Option (List ℕ) → Came
came_by thread None = record { ran = ran.Stuck; told = None }
came_by thread (Some text) = record { ran = ran.Went; told = Some (Out thread text) }

-- ---- frames

-- What a call came to leaves of its frame, where these operands are below those that it took.
abbrev pub Leaves : {E : Type 0} → FrameOf ℕ E → List (Value ℕ) → Ran → Way → FrameOf ℕ E → Type 0
Leaves f below ran.Went way g = (way ≡ ways.Went) × (g ≡ onward (with_operands f below) [])
Leaves f below (ran.Gave v) way g = (way ≡ ways.Went) × (g ≡ onward (with_operands f below) (v ∷ []))
Leaves f below (ran.Raises class) way g = (way ≡ ways.Raises class) × (g ≡ f)
Leaves f below ran.Full way g = (way ≡ ways.Full) × (g ≡ f)
Leaves f below ran.Stuck way g = (way ≡ ways.Stuck) × (g ≡ f)

-- ---- all

-- what asks nothing of access control, and starts no thread
abbrev pub IsAskFree : LibCall → Type 0
IsAskFree (calls.Controller call) = ⊥
IsAskFree (calls.Rt call) = ⊥
IsAskFree (calls.Thread call) = ⊥
IsAskFree calls.ContextCheck = ⊥
IsAskFree call = ⊤

-- the constructor of what can be thrown
abbrev pub IsTelling : LibCall → Type 0
IsTelling (calls.ThrownInit class how) = ⊤
IsTelling calls.AccessControlInit = ⊤
IsTelling call = ⊥

-- A call of the library with so many operands of a frame did what the machine's definition says, whatever the rules and the place are, where
-- these permissions were there, and has left those.
abbrev pub Runs : {E : Type 0} → Shapes → (cwd : List ℕ) → (thread : ℕ) → LibCall → (count : ℕ)
    → FrameOf ℕ E → List perms.Permission → Heaped → Done → FrameOf ℕ E → List perms.Permission → Heaped → Type 0
Runs {E} shapes cwd thread call count f before h done g after k =
    (r : Rules ℕ E) (p : Program) (at : Site) (own : Member → Bool) (entries : List E) (inherited : Option ℕ) (things : Things)
    (constants : List (List ℕ × ℕ))
    → at.cwd ≡ cwd → at.thread ≡ thread → things.permissions ≡ before → AreHeld p shapes before h.objects
    → let s = store_by p shapes things constants h in
    Comes f s (with_row r at own s entries inherited f (run r at own s entries inherited call)
    (record { values = take count f.operands; below = drop count f.operands }))
    (leaves done.way (option_to_list done.told) g (store_by p shapes (with_permissions after things) constants k))

-- Nothing is thrown but what is raised, of a class that can be thrown, and then the frame stands where it stood; one that goes on is of the
-- same method.
abbrev pub Stays : {E : Type 0} → Way → FrameOf ℕ E → FrameOf ℕ E → Type 0
Stays (ways.Raises class) f g = ((c : ThrownClass) × (class ≡ lib.Thrown c)) × (g.method ≡ f.method) × (g.place ≡ f.place)
Stays ways.Went f g = g.method ≡ f.method
Stays (ways.Throws n) f g = ⊥
Stays way f g = ⊤
