-- Steps of small programs, computed.
use Rattle.std.proofs.Common.{◌≡◌, ℕ, pos, Bool, true, false, List, [], ◌∷◌, Option, Some, None, refl}
use Rattle.std.specs.Prelude.{codes}
use Rattle.std.specs.Int.{int_wrap}
use Rattle.jvalues.specs.declared.jnames.names.Compare.TheVariants as compares
use Rattle.jvalues.specs.declared.jnames.names.Division.TheVariants as divisions
use Rattle.jvalues.specs.declared.jnames.names.OpTwo.TheVariants as twos
use Rattle.jvalues.specs.declared.jnames.names.Shuffle.TheVariants as shuffles
use Rattle.jvalues.specs.declared.jops.value.Value.{Value}
use Rattle.jvalues.specs.declared.jops.value.Value.TheVariants.{Int, Long, Ref}
use Rattle.jvalues.specs.jops.Operations.{divide, two}
use Rattle.jvalues.specs.jops.Shuffles.{shuffle}
use Rattle.jlib.specs.declared.side.Side.TheVariants.{Source}
use Rattle.jlib.specs.declared.classes.LibClass.TheVariants as lib
use Rattle.jlib.specs.declared.classes.Thrown.TheVariants as thrown
use Rattle.jparts.specs.declared.jpool.entry.Entry.TheVariants as entries
use Rattle.jparts.specs.declared.jcode.names.Access.TheVariants.{Load, Store as Keep}
use Rattle.jparts.specs.declared.jcode.names.Element.TheVariants as items
use Rattle.jparts.specs.declared.jcode.names.LocalKind.TheVariants as locals
use Rattle.jparts.specs.declared.jcode.names.Returned.TheVariants as returned
use Rattle.jparts.specs.declared.jcode.op_form.ArrayForm.TheVariants as arrays
use Rattle.jparts.specs.declared.jcode.op_form.LocalForm.TheVariants.{Move}
use Rattle.jparts.specs.declared.jcode.op_form.Simple.TheVariants as simples
use Rattle.jparts.specs.declared.jcode.op.Handler.{Handler}
use Rattle.jparts.specs.declared.jcode.names.SmallInt.TheVariants as small
use Rattle.jparts.specs.declared.jcode.op.IntConst.TheVariants as consts
use Rattle.jparts.specs.declared.jcode.op.Op.{Op}
use Rattle.jparts.specs.declared.jcode.op.Op.TheVariants as ops
use Rattle.jparts.specs.jcode.InstructionForms.{form}
use Rattle.jparts.specs.declared.jcode.op.Placed.{Placed}
use Rattle.jclass.specs.declared.class.Attribute.TheVariants as attributes
use Rattle.jclass.specs.declared.class.MemberInfo.{MemberInfo}
use Rattle.jresolution.specs.declared.jprogram.member.Member.TheVariants.{Method}
use Rattle.jresolution.specs.declared.jprogram.part.CodePart.{CodePart}
use Rattle.jresolution.specs.jprogram.ProgramClasses.{Program, program}
use Rattle.jresolution.specs.jprogram.MemberResolution.{is_abstract, method_id}
use Rattle.jresolution.specs.jprogram.ClassFileParts.{code_of}
use Rattle.jground.specs.jbase.FirstFaults.{first_some}
use Rattle.jground.specs.jformat.BodyFormats.{many_at}
use Rattle.jdomain.specs.declared.verdict.Verdict.TheVariants.{Denied, Granted}
use Rattle.jperm.specs.declared.permission.Permission.{Permission}
use Rattle.jperm.specs.declared.permission.Permission.TheVariants.{Property}
use Rattle.jtypes.specs.declared.vtype.ArrayType.{ArrayType}
use Rattle.jtypes.specs.declared.vtype.Element.TheVariants as elements
use Rattle.jtypes.specs.declared.vtype.VType.{VType}
use Rattle.jtypes.specs.declared.vtype.VType.TheVariants as types
use Rattle.joutput.specs.declared.jtrace.event.Event.TheVariants.{Throw, Uncaught}
use Rattle.joutput.specs.declared.jtrace.event.End.TheVariants as ends
use Rattle.jthreads.specs.declared.thread.Thread.{Thread as Guest}
use Rattle.jthreads.specs.ThreadTables.{opened, table_after_end}
use Rattle.jthreads.specs.ProofNames.{running}
use Rattle.jresolution.specs.declared.juses.meaning.InvokeKind.TheVariants as how
use Rattle.jresolution.specs.juses.IndexedInstructions.{Instruction, instruction, instruction_at, Simple, Local, Stack, Jump, Switch, Return, Array as WithArray, Used, If}
use Rattle.jresolution.specs.juses.InstructionMeanings as meanings
use Rattle.jtyping.specs.jrule.PoolEffects.{exchange}
use Rattle.jsemantics.specs.declared.jmachine.plan.Plan.{Plan}
use Rattle.jsemantics.specs.jmachine.MachineStates.{FrameOf, GuestOf, State, Outcome, Went, Over, NoStep, Switches, charge_of, raises}
use Rattle.jsemantics.specs.jmachine.ArrayInstructions as array_rows
use Rattle.jsemantics.specs.jmachine.CallTargets.{receiver, target}
use Rattle.jsemantics.specs.jmachine.InstructionActions.{doing, used}
use Rattle.jsemantics.specs.jmachine.FrameOperations.{onto}
use Rattle.jsemantics.specs.jmachine.Machine.{run}
use Rattle.jsemantics.specs.jmachine.ObjectInstructions.{units_of}
use Rattle.jsemantics.specs.jmachine.OpeningState.{arguments_type, distinct, opening_charge, opening_state, strings}
use Rattle.jsemantics.specs.jmachine.RunTraces.{run_from}
use Rattle.jsemantics.specs.jmachine.HeapObjects.{Object, Array, Bare, Thrown, library_name}
use Rattle.jsemantics.specs.jmachine.TakenOperands.{taken}
use Rattle.jsemantics.specs.jmachine.Security.{Rules, checked, judged}
use Rattle.jsemantics.specs.jmachine.MachineSteps.{acted, applied, executed, fetched, step}
use Rattle.jsemantics.specs.jmachine.Store.{Store}
use Rattle.jsemantics.specs.jmachine.BasicInstructions.{case_of, jump, local, simple, stack, switch}
use Rattle.jsemantics.specs.jmachine.ThreadTurns.{turned}
use Rattle.jsemantics.specs.jmachine.Unwinding.{handler_at, told_name, unwound}
use Rattle.jsemantics.specs.jmachine.World.{world}

-- ---- a program of one class, of domain 5, with two methods of four instructions; the second has a handler of all

abbrev placed : ℕ → Op → Placed
placed n op = record { at = n; op = op }

abbrev op : ℕ → Placed
op n = placed n ops.Nop

abbrev code : List Handler → MemberInfo
code handlers = record { flags = record { 0 = 9 }; name = 2; desc = 2; attributes = attributes.Code 2 4 4 (op 0 ∷ op 1 ∷ op 2 ∷ op 3 ∷ []) handlers [] ∷ [] }

abbrev any : Handler
any = record { start = 0; end = 3; at = 3; class = 0 }

abbrev part : CodePart
part = record {
  domain = 5;
  class = record {
    minor = 0;
    major = 52;
    pool = entries.Unused ∷ entries.Class 2 ∷ entries.Utf8 (codes "Main") ∷ [];
    flags = record { 0 = 1 };
    this_class = 1;
    super_class = 0;
    interfaces = [];
    fields = [];
    methods = code [] ∷ code (any ∷ []) ∷ [];
    attributes = [];
  };
}

abbrev p : Program
p = program Source (part ∷ [])

abbrev rules : Rules ℕ ℕ
rules = record { side = Source; entry_of = λ d. d; first = None; enter = λ k d. d; check = λ asked ctx es inherited. Granted; check_kept = λ asked k. Granted; snapshot = λ ctx es inherited. 7; inherit = λ ctx es inherited. 8; privileged = λ d ctx given limits es. record { caller = 9; context = None } }

abbrev plan : Plan
plan = record { main = method_id 0 0; schedule = []; cwd = []; heap = 100; depth = 2; steps = 9 }

-- ---- states of one thread

abbrev frame : ℕ → ℕ → List (Option (Value ℕ)) → List (Value ℕ) → FrameOf ℕ ℕ
frame m place locals operands = record { method = method_id 0 m; place = place; locals = locals; operands = operands; entry = 5 }

abbrev guest : Bool → List (FrameOf ℕ ℕ) → GuestOf ℕ ℕ
guest failed frames = record { frames = frames; inherited = None; runnable = 0; failed = failed }

abbrev heap : ℕ → List (Object ℕ) → Store ℕ
heap left objects = record { objects = objects; statics = []; constants = []; left = left }

abbrev state : Store ℕ → List (FrameOf ℕ ℕ) → State ℕ ℕ
state store frames = record { earlier = []; running = guest false frames; later = []; table = opened; store = store; turns = 0 }

-- the thread has ended
abbrev over : Store ℕ → Bool → State ℕ ℕ
over store failed = record { earlier = []; running = guest failed []; later = []; table = table_after_end 0 opened; store = store; turns = 0 }

-- a step of a thread with these frames, where the newest stands at this instruction
abbrev from : Store ℕ → FrameOf ℕ ℕ → List (FrameOf ℕ ℕ) → Instruction → Outcome (State ℕ ℕ)
from store f below i = executed rules p plan (state store (f ∷ below)) f below (Some i)

abbrev ints : ArrayType
ints = record { depth = 1; element = elements.Int }

-- ---- operands

adds : from (heap 0 []) (frame 0 1 [] (Int (pos 2) ∷ Int (pos 3) ∷ [])) [] (Simple (simples.Two twos.Iadd)) ≡ Went (state (heap 0 []) (frame 0 2 [] (Int (pos 5) ∷ []) ∷ [])) []
unfolding doing simple two int_wrap taken applied acted
adds = refl

-- a long where an int is wanted is no operand of it
no_int : from (heap 0 []) (frame 0 1 [] (Int (pos 2) ∷ Long (pos 3) ∷ [])) [] (Simple (simples.Two twos.Iadd)) ≡ NoStep
unfolding doing taken
no_int = refl

swaps : from (heap 0 []) (frame 0 1 [] (Int (pos 2) ∷ Int (pos 3) ∷ [])) [] (Stack shuffles.Swap) ≡ Went (state (heap 0 []) (frame 0 2 [] (Int (pos 3) ∷ Int (pos 2) ∷ []) ∷ [])) []
unfolding doing stack shuffle applied acted
swaps = refl

-- ---- locals

-- a long takes two
stores_long : from (heap 0 []) (frame 0 1 (Some (Int (pos 1)) ∷ Some (Int (pos 2)) ∷ Some (Int (pos 3)) ∷ []) (Long (pos 7) ∷ [])) [] (Local (Move Keep locals.Long 1))
    ≡ Went (state (heap 0 []) (frame 0 2 (Some (Int (pos 1)) ∷ Some (Long (pos 7)) ∷ None ∷ []) [] ∷ [])) []
unfolding doing local applied acted
stores_long = refl

-- and there is no room for it in the last
no_room : from (heap 0 []) (frame 0 1 (Some (Int (pos 1)) ∷ []) (Long (pos 7) ∷ [])) [] (Local (Move Keep locals.Long 0)) ≡ NoStep
unfolding doing local
no_room = refl

-- a local that isn't set can't be loaded
no_local : from (heap 0 []) (frame 0 1 (None ∷ []) []) [] (Local (Move Load locals.Int 0)) ≡ NoStep
unfolding doing local
no_local = refl

-- ---- jumps

jumps : from (heap 0 []) (frame 0 1 [] (Int (pos 0) ∷ [])) [] (Jump (If compares.Eq) 3) ≡ Went (state (heap 0 []) (frame 0 3 [] [] ∷ [])) []
unfolding doing taken jump applied acted
jumps = refl

passes : from (heap 0 []) (frame 0 1 [] (Int (pos 4) ∷ [])) [] (Jump (If compares.Eq) 3) ≡ Went (state (heap 0 []) (frame 0 2 [] [] ∷ [])) []
unfolding doing taken jump applied acted
passes = refl

switches : from (heap 0 []) (frame 0 1 [] (Int (pos 9) ∷ [])) [] (Switch ((pos 8, 2) ∷ (pos 9, 3) ∷ []) 0) ≡ Went (state (heap 0 []) (frame 0 3 [] [] ∷ [])) []
unfolding doing taken switch case_of applied acted
switches = refl

-- ---- exceptions

-- a division by zero leaves a method without handlers, and its thread ends
divides_by_zero : from (heap 9 []) (frame 0 1 [] (Int (pos 0) ∷ Int (pos 8) ∷ [])) [] (Simple (simples.Divide divisions.Idiv))
    ≡ Over (over (heap 7 (Thrown (lib.Thrown thrown.ArithmeticException) 0 ∷ [])) true) (Throw 0 (codes "java.lang.ArithmeticException") ∷ Uncaught 0 (codes "java.lang.ArithmeticException") ∷ []) ends.Uncaught
unfolding doing simple divide taken applied acted unwound handler_at code_of first_some told_name units_of many_at turned world
divides_by_zero = refl

-- the second method handles it
handles : from (heap 9 []) (frame 1 1 [] (Int (pos 0) ∷ Int (pos 8) ∷ Int (pos 6) ∷ [])) [] (Simple (simples.Divide divisions.Idiv))
    ≡ Went (state (heap 7 (Thrown (lib.Thrown thrown.ArithmeticException) 0 ∷ [])) (frame 1 3 [] (Ref 1 ∷ []) ∷ [])) (Throw 0 (codes "java.lang.ArithmeticException") ∷ [])
unfolding doing simple divide taken applied acted unwound handler_at code_of first_some told_name units_of many_at world
handles = refl

-- a heap without the cells of the exception: nothing has happened
no_cells : from (heap 1 []) (frame 1 1 [] (Int (pos 0) ∷ Int (pos 8) ∷ [])) [] (Simple (simples.Divide divisions.Idiv))
    ≡ Over (state (heap 1 []) (frame 1 1 [] (Int (pos 0) ∷ Int (pos 8) ∷ []) ∷ [])) [] ends.HeapFull
unfolding doing simple divide taken applied
no_cells = refl

-- ---- arrays

makes_array : from (heap 9 []) (frame 0 1 [] (Int (pos 2) ∷ [])) [] (Used (meanings.MakeArray (types.Array ints)))
    ≡ Went (state (heap 5 (Array ints (Int (pos 0) ∷ Int (pos 0) ∷ []) ∷ [])) (frame 0 2 [] (Ref 1 ∷ []) ∷ [])) []
unfolding doing used exchange taken array_rows.make applied acted
makes_array = refl

-- a place behind the last item
outside : from (heap 9 (Array ints (Int (pos 0) ∷ []) ∷ [])) (frame 1 1 [] (Int (pos 7) ∷ Int (pos 1) ∷ Ref 1 ∷ [])) [] (WithArray (arrays.Store items.Int))
    ≡ Went (state (heap 7 (Array ints (Int (pos 0) ∷ []) ∷ Thrown (lib.Thrown thrown.ArrayIndexOutOfBoundsException) 0 ∷ [])) (frame 1 3 [] (Ref 2 ∷ []) ∷ [])) (Throw 0 (codes "java.lang.ArrayIndexOutOfBoundsException") ∷ [])
unfolding doing taken array_rows.array applied acted unwound handler_at code_of first_some told_name units_of many_at world
outside = refl

stores_item : from (heap 9 (Array ints (Int (pos 0) ∷ []) ∷ [])) (frame 0 1 [] (Int (pos 7) ∷ Int (pos 0) ∷ Ref 1 ∷ [])) [] (WithArray (arrays.Store items.Int))
    ≡ Went (state (heap 9 (Array ints (Int (pos 7) ∷ []) ∷ [])) (frame 0 2 [] [] ∷ [])) []
unfolding doing taken array_rows.array applied acted
stores_item = refl

-- ---- calls

abbrev call_of : List VType → meanings.CallMeaning
call_of params = record { owner = library_name lib.Object; params = params; ret = None; member = Method (method_id 0 1) }

calls : from (heap 0 []) (frame 0 1 [] (Int (pos 2) ∷ Long (pos 3) ∷ Int (pos 4) ∷ [])) [] (Used (meanings.Call how.Static (call_of (types.Int ∷ types.Long ∷ []))))
    ≡ Went (state (heap 0 []) (frame 1 0 (Some (Long (pos 3)) ∷ None ∷ Some (Int (pos 2)) ∷ None ∷ []) [] ∷ frame 0 1 [] (Int (pos 4) ∷ []) ∷ [])) []
unfolding doing used exchange taken target world is_abstract onto code_of first_some applied acted
calls = refl

-- the frame below goes on behind its call
returns : from (heap 0 []) (frame 1 2 [] (Int (pos 2) ∷ [])) (frame 0 1 [] (Int (pos 4) ∷ []) ∷ []) (Return returned.Int)
    ≡ Went (state (heap 0 []) (frame 0 2 [] (Int (pos 2) ∷ Int (pos 4) ∷ []) ∷ [])) []
unfolding doing taken applied acted
returns = refl

-- the last frame that returns ends its thread, and here the run
finishes : from (heap 0 []) (frame 0 3 [] []) [] (Return returned.Nothing) ≡ Over (over (heap 0 []) false) [] ends.Finished
unfolding doing taken applied acted turned
finishes = refl

-- a call on null
null_receiver : from (heap 2 []) (frame 1 1 [] (Ref 0 ∷ [])) [] (Used (meanings.Call how.Virtual (call_of [])))
    ≡ Went (state (heap 0 (Thrown (lib.Thrown thrown.NullPointerException) 0 ∷ [])) (frame 1 3 [] (Ref 1 ∷ []) ∷ [])) (Throw 0 (codes "java.lang.NullPointerException") ∷ [])
unfolding doing used exchange taken target receiver applied acted unwound handler_at code_of first_some told_name units_of many_at world
null_receiver = refl

-- a third frame is one too many here
too_deep : from (heap 2 []) (frame 1 1 [] []) (frame 0 1 [] [] ∷ []) (Used (meanings.Call how.Static (call_of [])))
    ≡ Went (state (heap 0 (Thrown (lib.Thrown thrown.StackOverflowError) 0 ∷ [])) (frame 1 3 [] (Ref 1 ∷ []) ∷ frame 0 1 [] [] ∷ [])) (Throw 0 (codes "java.lang.StackOverflowError") ∷ [])
unfolding doing used exchange taken target world is_abstract applied acted unwound handler_at code_of first_some told_name units_of many_at
too_deep = refl

-- ---- a whole run: 1 and 2 are added, and `main` returns

abbrev main : MemberInfo
main = record {
  flags = record { 0 = 9 };
  name = 2;
  desc = 2;
  attributes = attributes.Code 2 2 1 (placed 0 (ops.IntConst (consts.Small small.One)) ∷ placed 1 (ops.IntConst (consts.Small small.Two)) ∷ placed 2 (ops.Two twos.Iadd) ∷ placed 3 (ops.Return returned.Nothing) ∷ []) [] [] ∷ [];
}

abbrev q : Program
q = program Source (record part { class = record part.class { methods = main ∷ [] } } ∷ [])

added : (run rules q plan 3).state ≡ state (heap 97 (Bare lib.PrintStream ∷ Array arguments_type [] ∷ [])) (frame 0 3 (Some (Ref 2) ∷ []) (Int (pos 3) ∷ []) ∷ [])
unfolding run run_from step opening_state opening_charge strings distinct onto fetched instruction_at instruction form code_of first_some doing simple two int_wrap taken applied acted
added = refl

ended : (run rules q plan 4).end ≡ Some ends.Finished
unfolding run run_from step opening_state opening_charge strings distinct onto fetched instruction_at instruction form code_of first_some doing simple two int_wrap taken applied acted turned
ended = refl

-- too few cells to open
heap_full : (run rules q (record plan { heap = 2 }) 0).end ≡ Some ends.HeapFull
unfolding run run_from opening_state opening_charge strings distinct
heap_full = refl

-- ---- checks

abbrev asked : Permission
asked = Property (codes "x") 1

-- a denied check of ("java.util.PropertyPermission" "x" "read") costs the exception, and a string of 57 units
denial_costs : charge_of (judged {K = ℕ} {E = ℕ} (heap 0 []) 0 asked (Denied 1)) ≡ 61
denial_costs = refl

-- null fails before anything is asked
null_asked : checked {E = ℕ} (record { world = world p; class = 0; thread = 0; full = false; cwd = []; table = opened }) (heap 0 []) (λ p. Granted) (Ref 0) ≡ Some (raises (lib.Thrown thrown.NullPointerException))
null_asked = refl

-- ---- threads: the running one goes on behind its instruction, and the second takes its turn

abbrev both : List Guest
both = running ∷ running ∷ []

abbrev two_threads : State ℕ ℕ
two_threads = record { earlier = []; running = guest false (frame 0 1 [] [] ∷ []); later = guest false [] ∷ []; table = both; store = heap 0 []; turns = 0 }

abbrev second : GuestOf ℕ ℕ → ℕ → State ℕ ℕ
second g turns = record { earlier = guest false (frame 0 2 [] [] ∷ []) ∷ []; running = g; later = []; table = both; store = heap 0 []; turns = turns }

takes_turn : acted rules p (record plan { schedule = 1 ∷ [] }) two_threads (frame 0 1 [] [] ∷ []) 0 (Switches both) ≡ Went (second (guest false []) 1) []
unfolding acted turned
takes_turn = refl

-- behind the schedule's end its number is 0, so that the first goes on
stays_turn : acted rules p plan two_threads (frame 0 1 [] [] ∷ []) 0 (Switches both) ≡ Went (record two_threads { running = guest false (frame 0 2 [] [] ∷ []); turns = 1 }) []
unfolding acted turned
stays_turn = refl

-- a thread without a Runnable ends where it would begin
ends_at_once : step rules p plan (second (guest false []) 1) ≡ Went (record { earlier = []; running = guest false (frame 0 2 [] [] ∷ []); later = guest false [] ∷ []; table = table_after_end 1 both; store = heap 0 []; turns = 2 }) []
unfolding step turned
ends_at_once = refl
