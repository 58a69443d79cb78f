-- Calls of the library as the machine's definition has them.
use Rattle.std.proofs.Common.{◌≡◌, ℕ, Bool, List, [], Option, None, refl}
use Rattle.std.specs.Option.{option_to_list}
use Rattle.std.specs.Prelude.{⊤, Result, Ok, Err, IfOk}
use Rattle.jvalues.specs.declared.jops.value.Value.{Value}
use Rattle.jperm.specs.declared.permission.Permission as perms
use Rattle.jmemory.specs.jheap.Heaps.{Heaped}
use Rattle.jlib.specs.declared.calls.BuilderCall.{BuilderCall}
use Rattle.jlib.specs.declared.calls.LibCall.{LibCall}
use Rattle.jlib.specs.declared.calls.LibCall.TheVariants as calls
use Rattle.jlib.specs.declared.calls.PermissionInit.{PermissionInit}
use Rattle.jlib.specs.declared.calls.PrintedType.{PrintedType}
use Rattle.jlib.specs.declared.calls.StringCall.{StringCall}
use Rattle.jlib.specs.declared.calls.ThrownInit.{ThrownInit}
use Rattle.jlib.specs.declared.calls.ThrownInit.TheVariants as given
use Rattle.jlib.specs.declared.classes.Thrown.{Thrown as ThrownClass}
use Rattle.jresolution.specs.declared.jprogram.member.Member.{Member}
use Rattle.jsemantics.specs.jmachine.MachineStates.{Row}
use Rattle.jsemantics.specs.jmachine.InstructionActions.{run}
use Rattle.jsemantics.specs.jmachine.LibraryCalls.{library}
use Rattle.jsemantics.specs.ProofNames.{object_init}
use Rattle.jsemantics.specs.jmachine.PermissionCalls as permissions
use Rattle.jsemantics.specs.jmachine.Security.{Rules}
use Rattle.jsemantics.specs.jmachine.InstructionSites.{Site}
use Rattle.jsemantics.specs.jmachine.Store.{Store}
use Rattle.jsemantics.specs.jmachine.TextCalls.{builder, print, print_end, string}
use Rattle.jsemantics.specs.jmachine.Throwables as throwables
use Rattle.jruntime.specs.declared.jstate.shapes.Shapes.{Shapes}
use Rattle.jrows.specs.declared.jtexts.ran.Ran.{Ran}
use Rattle.jrows.specs.declared.jtexts.ran.Ran.TheVariants as ran
use Rattle.jlibcalls.specs.declared.jlibrary.came.Came.{Came}
use Rattle.jlibcalls.specs.jlibrary.LibraryOutcomes.{CallDoes, Constructs, Does, IsAskFree}
use Rattle.jlibcalls.proofs.JlibraryProofs.PermissionlessCalls.{IsRow, as_call}

-- ---- which row is a call's

module _ (E : Type 0) (cwd : List ℕ) (thread : ℕ) (values : List (Value ℕ)) where
  pub is_object : IsRow E cwd thread calls.ObjectInit values (λ s. object_init s values)
  unfolding library
  is_object at s dir number = refl

  pub is_thrown : (class : ThrownClass) (how : ThrownInit) → IsRow E cwd thread (calls.ThrownInit class how) values (λ s. throwables.init s how values)
  unfolding library
  is_thrown class how at s dir number = refl

  pub is_denial : IsRow E cwd thread calls.AccessControlInit values (λ s. throwables.init s given.Message values)
  unfolding library
  is_denial at s dir number = refl

  pub is_message : IsRow E cwd thread calls.GetMessage values (λ s. throwables.message s values)
  unfolding library
  is_message at s dir number = refl

  pub is_string : (call : StringCall) → IsRow E cwd thread (calls.String call) values (λ s. string s call values)
  unfolding library
  is_string call at s dir number = refl

  pub is_builder : (call : BuilderCall) → IsRow E cwd thread (calls.Builder call) values (λ s. builder s call values)
  unfolding library
  is_builder call at s dir number = refl

  pub is_line : IsRow E cwd thread calls.PrintEnd values (λ s. print_end s thread values)
  unfolding library
  is_line at s dir number = rw number refl

  pub is_print : (piece : PrintedType) → IsRow E cwd thread (calls.Print piece) values (λ s. print s thread piece values)
  unfolding library
  is_print piece at s dir number = rw number refl

-- those that ask, or are no calls
abbrev pub HasNoRow : LibCall → Type 0
HasNoRow calls.Out = ⊤
HasNoRow (calls.Run side) = ⊤
HasNoRow (calls.RunAction side) = ⊤
HasNoRow (calls.Thread call) = ⊤
HasNoRow (calls.Controller call) = ⊤
HasNoRow calls.ContextCheck = ⊤
HasNoRow (calls.Rt call) = ⊤
HasNoRow call = ⊥

no_row : (E : Type 0) (call : LibCall) (values : List (Value ℕ)) (at : Site) (s : Store ℕ) → HasNoRow call → library {E = E} at s call values ≡ None
unfolding library
no_row E calls.Out values at s none = refl
no_row E (calls.Run side) values at s none = refl
no_row E (calls.RunAction side) values at s none = refl
no_row E (calls.Thread c) values at s none = refl
no_row E (calls.Controller c) values at s none = refl
no_row E calls.ContextCheck values at s none = refl
no_row E (calls.Rt c) values at s none = refl
no_row E calls.ObjectInit values at s none = absurd none
no_row E (calls.ThrownInit class how) values at s none = absurd none
no_row E calls.AccessControlInit values at s none = absurd none
no_row E calls.GetMessage values at s none = absurd none
no_row E (calls.String c) values at s none = absurd none
no_row E (calls.Builder c) values at s none = absurd none
no_row E calls.PrintEnd values at s none = absurd none
no_row E (calls.Print piece) values at s none = absurd none
no_row E (calls.PermissionInit c) values at s none = absurd none

-- ---- what a call came to

module _ {E : Type 0} (shapes : Shapes) (cwd : List ℕ) (thread : ℕ) (call : LibCall) (values : List (Value ℕ)) (before : List perms.Permission) (h : Heaped) (came : Came) where
  -- that told nothing
  pub quiet_call : (k : Heaped) (row : Store ℕ → Option (Row ℕ E)) (did : Ran) → came.ran ≡ did → came.told ≡ None → IsRow E cwd thread call values row
      → Does {E = E} shapes row h did [] k → CallDoes E shapes cwd thread call values before h came before k
  quiet_call k row did is none is_row does = as_call shapes cwd thread call values before h came k row is_row (rw (is, none) does)

pub no_call : (E : Type 0) (shapes : Shapes) (cwd : List ℕ) (thread : ℕ) (call : LibCall) (values : List (Value ℕ)) (before : List perms.Permission) (h : Heaped) (came : Came)
    → HasNoRow call → came.ran ≡ ran.Stuck → came.told ≡ None → CallDoes E shapes cwd thread call values before h came before h
no_call E shapes cwd thread call values before h came none is quiet =
    quiet_call shapes cwd thread call values before h came h (λ s. None) ran.Stuck is quiet (λ at s dir number. no_row E call values at s none) (λ p things constants. refl)

-- where memory may be out
pub if_call : {E F : Type 0} (r : Result Came F) (shapes : Shapes) (cwd : List ℕ) (thread : ℕ) (call : LibCall) (values : List (Value ℕ)) (before : List perms.Permission) (h : Heaped)
    (row : Store ℕ → Option (Row ℕ E)) → IsRow E cwd thread call values row
    → IfOk r (λ came. (shapes : Shapes) → Does {E = E} shapes row h came.ran (option_to_list came.told) h)
    → IfOk r (λ came. CallDoes E shapes cwd thread call values before h came before h)
if_call (Ok came) shapes cwd thread call values before h row is does = as_call shapes cwd thread call values before h came h row is (does shapes)
if_call (Err e) shapes cwd thread call values before h row is does = tt

pub permission_call : (E : Type 0) (shapes : Shapes) (cwd : List ℕ) (thread : ℕ) (init : PermissionInit) (values : List (Value ℕ)) (before after : List perms.Permission) (h k : Heaped)
    (came : Came) (did : Ran) → came.ran ≡ did → came.told ≡ None → Constructs {E = E} (λ s. permissions.init s cwd init values) before h did after k
    → CallDoes E shapes cwd thread (calls.PermissionInit init) values before h came after k
unfolding library
permission_call E shapes cwd thread init values before after h k came did is none does p at things constants dir number e held =
    rw (dir, is, none) (does p shapes things constants e held)

-- ---- what asks nothing runs so

pub run_is : {E : Type 0} (r : Rules ℕ E) (at : Site) (own : Member → Bool) (s : Store ℕ) (entries : List E) (inherited : Option ℕ) (call : LibCall) (values : List (Value ℕ))
    → IsAskFree call → run r at own s entries inherited call values ≡ library at s call values
run_is r at own s entries inherited calls.ObjectInit values free = refl
run_is r at own s entries inherited (calls.ThrownInit class how) values free = refl
run_is r at own s entries inherited calls.AccessControlInit values free = refl
run_is r at own s entries inherited calls.GetMessage values free = refl
run_is r at own s entries inherited (calls.String call) values free = refl
run_is r at own s entries inherited (calls.Builder call) values free = refl
run_is r at own s entries inherited calls.PrintEnd values free = refl
run_is r at own s entries inherited (calls.Print piece) values free = refl
run_is r at own s entries inherited (calls.PermissionInit init) values free = refl
run_is r at own s entries inherited calls.Out values free = refl
run_is r at own s entries inherited (calls.Run side) values free = refl
run_is r at own s entries inherited (calls.RunAction side) values free = refl
run_is r at own s entries inherited (calls.Thread call) values free = absurd free
run_is r at own s entries inherited (calls.Controller call) values free = absurd free
run_is r at own s entries inherited calls.ContextCheck values free = absurd free
run_is r at own s entries inherited (calls.Rt call) values free = absurd free
