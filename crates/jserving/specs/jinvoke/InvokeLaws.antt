-- Laws of what a machine by number knows of calls and of what is thrown.
use Rattle.std.specs.Prelude.{◌≡◌, ℕ, List, Option, Some}
use Rattle.jmemory.specs.declared.jheap.cell.Kind.{Kind}
use Rattle.jmemory.specs.declared.jheap.cell.Kind.TheVariants as kinds
use Rattle.jmemory.specs.jheap.Heaps.{Heaped, kind_at}
use Rattle.jlib.specs.declared.calls.LibCall.{LibCall}
use Rattle.jtypes.specs.declared.vtype.VType.TheVariants as types
use Rattle.jresolution.specs.jprogram.ProgramClasses.{Program}
use Rattle.jresolution.specs.declared.juses.meaning.InvokeKind.{InvokeKind}
use Rattle.jresolution.specs.declared.juses.meaning.Span.{Span}
use Rattle.jresolution.specs.declared.juses.types.TypeRef.{TypeRef}
use Rattle.jresolution.specs.juses.IndexedInstructions.{Instruction, Used}
use Rattle.jresolution.specs.juses.InstructionMeanings.{Call}
use Rattle.jresolution.specs.juses.PoolTables.{pool_at}
use Rattle.jresolution.specs.juses.InternedTypes.{class_named}
use Rattle.jsemantics.specs.declared.jmachine.plan.Plan.{Plan}
use Rattle.jsemantics.specs.jmachine.MachineStates.{State}
use Rattle.jsemantics.specs.jmachine.HeapObjects.{Object, class_of}
use Rattle.jsemantics.specs.jmachine.Security.{Rules}
use Rattle.jsemantics.specs.jmachine.MachineSteps.{executed, fetched, step}
use Rattle.jsemantics.specs.jmachine.Store.{object_at}
use Rattle.jsemantics.specs.jmachine.World.{world}
use Rattle.jready.specs.declared.instr.Instr.TheVariants as instr
use Rattle.jready.specs.declared.tables.Tables.{Tables}
use Rattle.jready.specs.InlineOperands.{LibraryCalled, UserCalled}
use Rattle.jready.specs.DecodedInstructions.{meant}
use Rattle.jruntime.specs.jstate.FrameLists.{Framed, all}
use Rattle.jruntime.specs.declared.jstate.shapes.Shapes.{Shapes}
use Rattle.jruntime.specs.jstate.ClassNumbers.{class_numbered}
use Rattle.jruntime.specs.jstate.HeapMeanings.{Things, store_by}
use Rattle.jserving.specs.jinvoke.Answers.{number_by}
use Rattle.jserving.specs.jinvoke.InvokeOutcomes.{CallWithin}

-- The class of an object is that of its heap's number.
abbrev pub HasClass : Type 0
HasClass = (p : Program) (shapes : Shapes) (things : Things) (constants : List (List ℕ × ℕ)) (h : Heaped) (o n : ℕ) (x : Object ℕ)
    → kind_at h o ≡ Some (kinds.Object n) → object_at (store_by p shapes things constants h) o ≡ Some x
    → class_of (world p).named x ≡ types.Object (class_named p (class_numbered n))

-- So is that of any object but an array, by the number for its kind.
abbrev pub HasType : Type 0
HasType = (p : Program) (shapes : Shapes) (things : Things) (constants : List (List ℕ × ℕ)) (h : Heaped) (o n : ℕ) (kind : Kind) (x : Object ℕ)
    → kind_at h o ≡ Some kind → number_by kind ≡ Some n → object_at (store_by p shapes things constants h) o ≡ Some x
    → class_of (world p).named x ≡ types.Object (class_named p (class_numbered n))

-- What an instruction by number names is within the program.
abbrev pub UserWithin : Type 0
UserWithin = (p : Program) (known : List TypeRef) (class : ℕ) (by : InvokeKind) (pool : ℕ) (params : Span) (k : ℕ)
    → UserCalled p (pool_at p class) known by pool params k → CallWithin p class by pool

abbrev pub LibraryWithin : Type 0
LibraryWithin = (p : Program) (known : List TypeRef) (class : ℕ) (by : InvokeKind) (pool : ℕ) (params : Span) (call : LibCall)
    → LibraryCalled p (pool_at p class) known by pool params call → CallWithin p class by pool

-- A step executes the instruction that stands where the newest frame does.
abbrev pub StepsAt : Type 0 → Type 0
StepsAt E = (r : Rules ℕ E) (p : Program) (plan : Plan) (s : State ℕ E) (f : Framed E) (it : Option Instruction)
    → s.running.frames ≡ all f → it ≡ fetched p f.newest.method f.newest.place → step r p plan s ≡ executed r p plan s f.newest f.below it

-- It may be by number a call of a user's method or of the library.
abbrev pub StepsUser : Type 0 → Type 0
StepsUser E = (r : Rules ℕ E) (p : Program) (plan : Plan) (s : State ℕ E) (f : Framed E) (t : Tables) (known : List TypeRef)
    (by : InvokeKind) (pool : ℕ) (params : Span) (k : ℕ) → let class = f.newest.method.class in
    s.running.frames ≡ all f → meant p t class (instr.Call by pool params k) ≡ fetched p f.newest.method f.newest.place
    → (called : UserCalled p (pool_at p class) known by pool params k)
    → step r p plan s ≡ executed r p plan s f.newest f.below (Some (Used (Call by called.call)))

abbrev pub StepsLibrary : Type 0 → Type 0
StepsLibrary E = (r : Rules ℕ E) (p : Program) (plan : Plan) (s : State ℕ E) (f : Framed E) (t : Tables) (known : List TypeRef)
    (by : InvokeKind) (pool : ℕ) (params : Span) (call : LibCall) → let class = f.newest.method.class in
    s.running.frames ≡ all f → meant p t class (instr.Library by pool params call) ≡ fetched p f.newest.method f.newest.place
    → (called : LibraryCalled p (pool_at p class) known by pool params call)
    → step r p plan s ≡ executed r p plan s f.newest f.below (Some (Used (Call by called.call)))
