-- Calls that make no permission.
use Rattle.std.proofs.Common.{◌≡◌, ◌∙◌, ℕ, List, [], ◌∷◌, ◌++◌, Option, Some, None, refl, subst, sym, ap}
use Rattle.std.specs.Option.{option_to_list}
use Rattle.std.specs.Prelude.{Result, Ok, Err, IfOk, OnOk}
use Rattle.jvalues.specs.declared.jops.value.Value.{Value}
use Rattle.jperm.specs.declared.permission.Permission as perms
use Rattle.jmemory.specs.jheap.Heaps.{Heaped}
use Rattle.jlib.specs.declared.calls.LibCall.{LibCall}
use Rattle.joutput.specs.declared.jtrace.event.Event.{Event}
use Rattle.jresolution.specs.jprogram.ProgramClasses.{Program}
use Rattle.jsemantics.specs.jmachine.MachineStates.{Act, Goes, Jumps, Leaves, Calls, Raises, Throws, Switches, Makes, Row}
use Rattle.jsemantics.specs.jmachine.LibraryCalls.{library}
use Rattle.jsemantics.specs.jmachine.HeapObjects.{Object}
use Rattle.jsemantics.specs.jmachine.InstructionSites.{Site}
use Rattle.jsemantics.specs.jmachine.Store.{Store}
use Rattle.jruntime.specs.declared.jstate.shapes.Shapes.{Shapes}
use Rattle.jruntime.specs.jstate.HeapMeanings.{Things, store_by, values_of}
use Rattle.jrows.specs.jtexts.TextCallOutcomes as rans
use Rattle.jrows.specs.declared.jtexts.ran.Ran.{Ran}
use Rattle.jlibcalls.specs.declared.jlibrary.came.Came.{Came}
use Rattle.jlibcalls.specs.jlibrary.HeldPermissions.{AreHeld, with_permissions}
use Rattle.jlibcalls.specs.jlibrary.LibraryOutcomes.{CallDoes, Does}

-- ---- what a call leaves is determined

acted_alike : {E : Type 0} (s : Store ℕ) (cells : ℕ) (act : Act ℕ E) (l m : rans.Left) → rans.Acted s cells act l → rans.Acted s cells act m → l ≡ m
acted_alike s cells (Goes u values events) l m a b = a ∙ sym b
acted_alike s cells (Raises [] class None) l m a b = a.1 ∙ sym b.1
acted_alike s cells (Raises [] class (Some message)) l m a b = absurd a
acted_alike s cells (Raises (e ∷ events) class message) l m a b = absurd a
acted_alike s cells (Jumps to) l m a b = absurd a
acted_alike s cells (Leaves values) l m a b = absurd a
acted_alike s cells (Calls method arguments entry) l m a b = absurd a
acted_alike s cells (Throws n) l m a b = absurd a
acted_alike s cells (Switches table) l m a b = absurd a
acted_alike s cells (Makes u runnable k) l m a b = absurd a

comes_alike : {E : Type 0} (s : Store ℕ) (row : Option (Row ℕ E)) (l m : rans.Left) → rans.Comes s row l → rans.Comes s row m → l ≡ m
comes_alike s None l m a b = a ∙ sym b
comes_alike s (Some r) l m a b = acted_alike s r.charge r.act l m a b

-- ---- permissions that are held

pub same_store : (p : Program) (shapes : Shapes) (permissions : List perms.Permission) (h : Heaped) → AreHeld p shapes permissions h.objects
    → (things : Things) (constants : List (List ℕ × ℕ)) (more : List perms.Permission) → things.permissions ≡ permissions
    → store_by p shapes (with_permissions (permissions ++ more) things) constants h ≡ store_by p shapes things constants h
same_store p shapes permissions h held things constants more e =
    ap (λ (os : List (Object ℕ)). record { objects = os; statics = values_of shapes.statics h.statics; constants = constants; left = h.left }) (held things more e)

-- A call that did what a row says, whatever the permissions are, leaves those held that were.
pub keeps : {E : Type 0} (p : Program) (shapes : Shapes) (row : Store ℕ → Option (Row ℕ E)) (h k : Heaped) (came : Ran) (told : List Event) (permissions : List perms.Permission)
    → Does {E = E} shapes row h came told k → AreHeld p shapes permissions h.objects → AreHeld p shapes permissions k.objects
keeps {E} p shapes row h k came told permissions does held things more e =
    let others = with_permissions (permissions ++ more) things in
    let s = store_by p shapes things [] h in
    let l = rans.leaves came told (store_by p shapes others [] k) in
    let m = rans.leaves came told (store_by p shapes things [] k) in
    let other : rans.Comes {E = E} s (row s) l =
    subst (λ (t : Store ℕ). rans.Comes {E = E} t (row t) l) (same_store p shapes permissions h held things [] more e) (does p others []) in
    ap (λ (x : rans.Left). x.store.objects) (comes_alike s (row s) l m other (does p things []))

pub if_keeps : {E F : Type 0} (r : Result Ran F) (p : Program) (shapes : Shapes) (row : Store ℕ → Option (Row ℕ E)) (h k : Heaped) (permissions : List perms.Permission)
    → IfOk r (λ came. Does {E = E} shapes row h came [] k) → OnOk r (AreHeld p shapes permissions h.objects → AreHeld p shapes permissions k.objects)
if_keeps (Ok came) p shapes row h k permissions does = keeps p shapes row h k came [] permissions does
if_keeps (Err e) p shapes row h k permissions does = tt

-- ---- as calls

pub same_things : (things : Things) (permissions : List perms.Permission) → things.permissions ≡ permissions → with_permissions permissions things ≡ things
same_things things permissions e = subst (λ ps. with_permissions ps things ≡ things) e refl

-- it is the call's row
abbrev pub IsRow : (E : Type 0) → List ℕ → ℕ → LibCall → List (Value ℕ) → (Store ℕ → Option (Row ℕ E)) → Type 0
IsRow E cwd thread call values row = (at : Site) (s : Store ℕ) → at.cwd ≡ cwd → at.thread ≡ thread → library {E = E} at s call values ≡ row s

pub as_call : {E : Type 0} (shapes : Shapes) (cwd : List ℕ) (thread : ℕ) (call : LibCall) (values : List (Value ℕ)) (permissions : List perms.Permission) (h : Heaped) (came : Came) (k : Heaped)
    (row : Store ℕ → Option (Row ℕ E)) → IsRow E cwd thread call values row → Does {E = E} shapes row h came.ran (option_to_list came.told) k
    → CallDoes E shapes cwd thread call values permissions h came permissions k
as_call {E} shapes cwd thread call values permissions h came k row is does p at things constants dir number e held =
    let s = store_by p shapes things constants h in
    let left = λ (t : Things). rans.leaves came.ran (option_to_list came.told) (store_by p shapes t constants k) in
    let did : rans.Comes {E = E} s (library at s call values) (left things) =
    subst (λ (row : Option (Row ℕ E)). rans.Comes s row (left things)) (sym (is at s dir number)) (does p things constants) in
    subst (λ (t : Things). rans.Comes {E = E} s (library at s call values) (left t)) (sym (same_things things permissions e)) did
