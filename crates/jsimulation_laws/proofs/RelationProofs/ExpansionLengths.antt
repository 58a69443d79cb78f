-- An instruction becomes one, two or three; and how many steps answer it.
use Rattle.std.proofs.Common.{◌≡◌, ℕ, ◌+◌, ◌≤◌, Bool, true, false, List, length, Option, Some, None, refl, arith}
use Rattle.jlib.specs.declared.calls.ControllerCall.{ControllerCall}
use Rattle.jlib.specs.declared.calls.ControllerCall.TheVariants as controller
use Rattle.jresolution.specs.declared.juses.meaning.InvokeKind.{InvokeKind}
use Rattle.jresolution.specs.juses.IndexedInstructions.{Instruction, Array, Jump, Local, Return, Simple, Stack, Switch, Throw, Used}
use Rattle.jresolution.specs.juses.InstructionMeanings as meanings
use Rattle.jresolution.specs.juses.InstructionMeanings.{CallMeaning, Meaning}
use Rattle.jsimulation_laws.specs.relation.InstructionExpansion.{Alone, Asking, FewExpanded, Handed, Place, Way, calling, expanded, way_of}
use Rattle.jsimulation_laws.specs.relation.StepCounts.{StepsExpanded, StepsFew, asking_steps, call_steps, instruction_steps, prologue_steps, steps_of}

-- ---- as many steps as instructions, where no method is invoked

calling_steps : (p : Place) (by : InvokeKind) (c : CallMeaning) (way : Way) → length (calling p by c way) ≡ call_steps way false
calling_steps p by c Handed = refl
calling_steps p by c (Asking controller.Check) = refl
calling_steps p by c (Asking controller.Snapshot) = refl
calling_steps p by c (Asking controller.Privileged) = refl
calling_steps p by c (Asking controller.PrivilegedWith) = refl
calling_steps p by c (Asking controller.PrivilegedLimited) = refl
calling_steps p by c Alone = refl

used_steps : (p : Place) (to : ℕ → ℕ) (m : Meaning) → length (expanded p to (Used m)) ≡ instruction_steps (Used m) false
used_steps p to (meanings.Push x) = refl
used_steps p to (meanings.Field op x) = refl
used_steps p to (meanings.Call by c) = calling_steps p by c (way_of c.member)
used_steps p to (meanings.Make x) = refl
used_steps p to (meanings.MakeArray x) = refl
used_steps p to (meanings.Cast op x) = refl

pub expanded_law : StepsExpanded
expanded_law p to (Simple x) = refl
expanded_law p to (Local x) = refl
expanded_law p to (Stack x) = refl
expanded_law p to (Jump test n) = refl
expanded_law p to (Switch cases other) = refl
expanded_law p to (Return x) = refl
expanded_law p to Throw = refl
expanded_law p to (Array x) = refl
expanded_law p to (Used m) = used_steps p to m

-- ---- bounds

-- with the prologue, and without it
abbrev IsWithin : ℕ → Bool → ℕ → Type 0
IsWithin most invokes n = (1 ≤ n) × (n ≤ most + prologue_steps invokes)

asking_within : (call : ControllerCall) (invokes : Bool) → IsWithin 3 invokes (asking_steps call invokes)
asking_within controller.Check invokes = (omega arith, omega arith)
asking_within controller.Snapshot invokes = (omega arith, omega arith)
asking_within controller.Privileged invokes = (omega arith, omega arith)
asking_within controller.PrivilegedWith invokes = (omega arith, omega arith)
asking_within controller.PrivilegedLimited invokes = (omega arith, omega arith)

call_within : (way : Way) (invokes : Bool) → IsWithin 3 invokes (call_steps way invokes)
call_within Handed invokes = (omega arith, omega arith)
call_within (Asking call) invokes = asking_within call invokes
call_within Alone invokes = (omega arith, omega arith)

used_within : (m : Meaning) (invokes : Bool) → IsWithin 3 invokes (instruction_steps (Used m) invokes)
used_within (meanings.Push x) invokes = (omega arith, omega arith)
used_within (meanings.Field op x) invokes = (omega arith, omega arith)
used_within (meanings.Call by c) invokes = call_within (way_of c.member) invokes
used_within (meanings.Make x) invokes = (omega arith, omega arith)
used_within (meanings.MakeArray x) invokes = (omega arith, omega arith)
used_within (meanings.Cast op x) invokes = (omega arith, omega arith)

steps_within : (o : Option Instruction) (invokes : Bool) → IsWithin 3 invokes (steps_of o invokes)
steps_within None invokes = (omega arith, omega arith)
steps_within (Some (Simple x)) invokes = (omega arith, omega arith)
steps_within (Some (Local x)) invokes = (omega arith, omega arith)
steps_within (Some (Stack x)) invokes = (omega arith, omega arith)
steps_within (Some (Jump test n)) invokes = (omega arith, omega arith)
steps_within (Some (Switch cases other)) invokes = (omega arith, omega arith)
steps_within (Some (Return x)) invokes = (omega arith, omega arith)
steps_within (Some Throw) invokes = (omega arith, omega arith)
steps_within (Some (Array x)) invokes = (omega arith, omega arith)
steps_within (Some (Used m)) invokes = used_within m invokes

prologue_few : (invokes : Bool) → prologue_steps invokes ≤ 4
prologue_few true = omega arith
prologue_few false = omega arith

pub steps_law : StepsFew
steps_law o invokes = let w = steps_within o invokes in let some = w.0 in let most = w.1 in let few = prologue_few invokes in (some, omega (arith, most, few))

pub few_law : FewExpanded
few_law p to i =
    let same = expanded_law p to i in
    let w = steps_within (Some i) false in
    let some = w.0 in
    let most = w.1 in (omega (arith, same, some), omega (arith, same, most))
