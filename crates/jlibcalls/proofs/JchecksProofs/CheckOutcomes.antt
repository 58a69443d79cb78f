-- What a check comes to.
use Rattle.std.proofs.Common.{◌≡◌, ◌∙◌, ◌+◌, ℕ, List, [], ◌∷◌, drop, take, Option, Some, refl, sym, ap, subst, arith}
use Rattle.std.specs.Prelude.{nat_le, if◌then◌else◌}
use Rattle.std.proofs.Math.Dec.{leb-zero}
use Rattle.jperm.specs.declared.permission.Permission as perms
use Rattle.jdomain.specs.declared.verdict.Verdict.TheVariants as verdicts
use Rattle.jmemory.specs.jheap.Heaps.{Heaped}
use Rattle.jlib.specs.declared.classes.LibClass.TheVariants as lib
use Rattle.jvalues.specs.declared.jops.value.Value.{Value}
use Rattle.joutput.specs.declared.jtrace.event.Event.TheVariants.{Grant, Deny}
use Rattle.joutput.specs.declared.jtrace.event.End.TheVariants.{HeapFull}
use Rattle.jresolution.specs.declared.jprogram.member.MethodId.{MethodId}
use Rattle.jresolution.specs.jprogram.ProgramClasses.{Program}
use Rattle.jsemantics.specs.declared.jmachine.plan.Plan.{Plan}
use Rattle.jsemantics.specs.jmachine.MachineStates.{Outcome, Over, Row, State}
use Rattle.jsemantics.specs.jmachine.FrameOperations.{onward}
use Rattle.jsemantics.specs.jmachine.Security.{Rules, denial_message, judged}
use Rattle.jsemantics.specs.jmachine.MachineSteps.{acted, applied, raised, went}
use Rattle.jsemantics.specs.jmachine.Store.{paid}
use Rattle.jsemantics.specs.jmachine.ThreadTurns.{thread_of}
use Rattle.jsemantics.specs.jmachine.Unwinding.{with_raised}
use Rattle.jruntime.specs.jstate.FrameLists.{Framed, all, holding, with_newest}
use Rattle.jruntime.specs.jstate.HeapMeanings.{store_by}
use Rattle.jrows.proofs.JactsProofs.Costs.{unpaid}
use Rattle.jrows.specs.declared.jcalls.raising.Raised.{Raised}
use Rattle.jrows.specs.jcalls.MethodCalls.{stepped}
use Rattle.jrows.specs.jcalls.FrameMarks.{Stand}
use Rattle.jrows.specs.jcalls.MessageThrows.{RaisesWith, raising_with, told_cells}
use Rattle.jrows.specs.jcalls.Throws.{LeavesStanding, RaisedAs}
use Rattle.jlibcalls.specs.jchecks.PermissionVerdicts.{Judges, NothingSteps, NullRaises, denied_type}
use Rattle.jlibcalls.specs.declared.jchecks.judging.Judged.TheVariants as ways

pub null_raises : {E : Type 0} → NullRaises E
unfolding applied acted
null_raises r p plan s f count row is = rw is refl

pub nothing_steps : {E : Type 0} → NothingSteps E
nothing_steps r p plan s f count row is = rw is refl

module _ {E : Type 0} (marks : List E) (goes : MethodId → ℕ → Option ℕ) (asked : perms.Permission) (count : ℕ) (f g : Framed E) (h k : Heaped) where
  abbrev without : Framed E
  without = holding (drop count f.newest.operands) f

  pub granted_so : g ≡ with_newest (onward without.newest []) f → Judges marks goes asked verdicts.Granted count f h ways.Granted g h
  unfolding applied acted
  granted_so on r p plan s shapes things constants row marked seen told is =
      rw (is, leb-zero s.store.left, on) (ap (λ t. went r p plan s (onward without.newest [] ∷ f.below) t (Grant (thread_of s) asked ∷ [])) (sym (unpaid s.store) ∙ seen))

  denied_step : (r : Rules ℕ E) (p : Program) (plan : Plan) (s : State ℕ E) (row : List (Value ℕ) → Option (Row ℕ E)) (domain : ℕ)
      → row (take count f.newest.operands) ≡ Some (judged s.store (thread_of s) asked (verdicts.Denied domain))
      → stepped r p plan s f count row
      ≡ raising_with r p plan s (all without) (Deny (thread_of s) asked domain ∷ []) lib.AccessControlException (denial_message asked)
  unfolding applied acted
  denied_step r p plan s row domain is =
      let none : 0 + told_cells (denial_message asked) ≡ told_cells (denial_message asked) = omega arith in
      rw is (ap (λ (n : ℕ). if nat_le n s.store.left then raised r p plan s (all without) (Deny (thread_of s) asked domain ∷ [])
      (with_raised (paid n s.store) lib.AccessControlException (Some (denial_message asked))) else Over s [] HeapFull) none)

  pub denied_so : (u : Framed E) → u ≡ without → (domain : ℕ) (way : Raised) (units : List ℕ) → units ≡ denial_message asked
      → RaisesWith marks goes lib.AccessControlException units u h way g k → Judges marks goes asked (verdicts.Denied domain) count f h (ways.Denied way) g k
  denied_so u shrunk domain way units message raises r p plan s shapes things constants row marked seen told is =
      let so : RaisesWith marks goes lib.AccessControlException (denial_message asked) without h way g k =
      subst (λ us. RaisesWith marks goes lib.AccessControlException us without h way g k) message
      (subst (λ v. RaisesWith marks goes lib.AccessControlException units v h way g k) shrunk raises) in
      subst (λ (o : Outcome (State ℕ E)). RaisedAs r p plan s (Deny (thread_of s) asked domain ∷ []) denied_type (store_by p shapes things constants k) way g o)
      (sym (denied_step r p plan s row domain is)) (so r p plan s (Deny (thread_of s) asked domain ∷ []) shapes things constants marked seen told)

-- ---- frames that stand

module _ {E : Type 0} (count : ℕ) (f : Framed E) where
  fewer : (classes : ℕ) → Stand classes (all f) → Stand classes (all (holding (drop count f.newest.operands) f))
  fewer classes s = (record { class = s.0.class; place = s.0.place }, s.1)

  fewer_stand : (u : Framed E) → u ≡ holding (drop count f.newest.operands) f → (classes : ℕ) → Stand classes (all f) → Stand classes (all u)
  fewer_stand u shrunk classes s = subst (λ (v : Framed E). Stand classes (all v)) (sym shrunk) (fewer classes s)

  pub denied_stands : (u g : Framed E) → u ≡ holding (drop count f.newest.operands) f → LeavesStanding u g → LeavesStanding f g
  denied_stands u g shrunk leaves classes s = leaves classes (fewer_stand u shrunk classes s)
