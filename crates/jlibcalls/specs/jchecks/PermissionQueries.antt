-- What a check of a permission asks (class documentation of AccessController).
use Rattle.std.specs.Prelude.{◌≡◌, ℕ, List, Option, Some, None}
use Rattle.jperm.specs.declared.permission.Permission as perms
use Rattle.jdomain.specs.declared.verdict.Verdict.{Verdict}
use Rattle.jmemory.specs.declared.jheap.cell.Kind.{Kind}
use Rattle.jmemory.specs.declared.jheap.cell.Kind.TheVariants as kinds
use Rattle.jmemory.specs.jheap.Heaps as heaps
use Rattle.jvalues.specs.declared.jops.value.Value.{Value}
use Rattle.jsemantics.specs.jmachine.MachineStates.{null}
use Rattle.jsemantics.specs.jmachine.Security.{checked, judged}
use Rattle.jsemantics.specs.jmachine.InstructionSites.{Site}
use Rattle.jsemantics.specs.jmachine.Store.{Store}
use Rattle.jruntime.specs.jstate.ClassNumbers.{class_numbered}
use Rattle.jruntime.specs.jstate.HeapMeanings.{first}
use Rattle.jrows.specs.declared.jcalls.ready.Needs.{Needs}
use Rattle.jrows.specs.declared.jcalls.ready.Needs.TheVariants as needs
use Rattle.jrows.specs.jcalls.Readiness.{needed}
use Rattle.jlibcalls.specs.declared.jchecks.asking.Asked.{Asked}
use Rattle.jlibcalls.specs.declared.jchecks.asking.Asked.TheVariants as asks

-- the number of the permission that an object holds, 0 for none
abbrev pub number_by : Needs → List ℕ → ℕ
number_by needs.Permission cells = first cells
number_by wanted cells = 0

abbrev pub number_of : Kind → List ℕ → ℕ
number_of (kinds.Object n) cells = number_by (needed (class_numbered n)) cells
number_of kind cells = 0

abbrev pub number_held : Option heaps.Object → ℕ
number_held None = 0
number_held (Some x) = number_of x.kind x.cells

-- What was found is what a check of this operand asks, whoever decides it: null fails and asks nothing, and what holds no permission has no
-- step.
abbrev pub Asks : Type 0 → Store ℕ → Value ℕ → Asked → Type 0
Asks E s v asks.Null = (at : Site) (verdict : perms.Permission → Verdict) → checked {E = E} at s verdict v ≡ Some null
Asks E s v (asks.Permission asked) = (at : Site) (verdict : perms.Permission → Verdict) → checked {E = E} at s verdict v ≡ Some
    (judged s at.thread asked.now (verdict asked.now))
Asks E s v asks.Stuck = (at : Site) (verdict : perms.Permission → Verdict) → checked {E = E} at s verdict v ≡ None
