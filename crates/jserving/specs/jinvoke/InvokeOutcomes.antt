-- What a step comes to that calls a method, by the place where it stands and by what its operands are.
use Rattle.std.specs.Prelude.{◌≡◌, ◌<◌, ⊤, ℕ, Bool, List, length, Option, Some, option_map, slice_get}
use Rattle.jmemory.specs.jheap.Heaps.{Heaped}
use Rattle.jresolution.specs.declared.jprogram.member.Member.{Member}
use Rattle.jresolution.specs.declared.jprogram.member.Member.TheVariants as members
use Rattle.jresolution.specs.declared.jprogram.member.MethodId.{MethodId}
use Rattle.jresolution.specs.jprogram.ProgramClasses.{Program}
use Rattle.jresolution.specs.declared.juses.meaning.InvokeKind.{InvokeKind}
use Rattle.jresolution.specs.juses.InstructionMeanings.{Call, CallMeaning, meant}
use Rattle.jresolution.specs.juses.PoolTables.{pool_at}
use Rattle.jsemantics.specs.declared.jmachine.plan.Plan.{Plan}
use Rattle.jsemantics.specs.jmachine.MachineStates.{State}
use Rattle.jsemantics.specs.jmachine.Security.{Rules}
use Rattle.jready.specs.DecodedInstructions.{call_form}
use Rattle.jruntime.specs.jstate.FrameLists.{Framed}
use Rattle.jruntime.specs.declared.jstate.shapes.Shapes.{Shapes}
use Rattle.jruntime.specs.jstate.HeapMeanings.{Things, store_by}
use Rattle.jrows.specs.declared.jcalls.calls.Called.{Called}
use Rattle.jrows.specs.declared.jcalls.calls.Callee.{Callee}
use Rattle.jrows.specs.declared.jcalls.calls.Selection.{Selection}
use Rattle.jrows.specs.declared.jcalls.calls.Selection.TheVariants as found
use Rattle.jrows.specs.jcalls.MethodCalls.{CalledAs, Takes, calls}
use Rattle.jrows.specs.jcalls.FrameMarks.{marks_of}
use Rattle.jrows.specs.declared.jcalls.receiver.Receiver.{Receiver}
use Rattle.jrows.specs.declared.jcalls.receiver.Receiver.TheVariants as receivers
use Rattle.jserving.specs.declared.jinvoke.choosing.Answer.{Answer}
use Rattle.jserving.specs.declared.jinvoke.choosing.Chosen.{Chosen}
use Rattle.jserving.specs.declared.jinvoke.choosing.Chosen.TheVariants as chosens
use Rattle.jserving.specs.jinvoke.Answers.{answer, nothing, number_by}

-- ---- frames of what is selected

-- a user's method is of one of so many classes
abbrev pub IsMarked : ℕ → Chosen → Type 0
IsMarked count (chosens.Method m has_code most stack) = m.class < count
IsMarked count c = ⊤

abbrev pub callee : {E : Type 0} → MethodId → Bool → ℕ → ℕ → E → Callee E
callee m has_code most stack mark = record { method = m; has_code = has_code; most = most; stack = stack; mark = mark }

-- with what the frames of its class carry
abbrev pub marked : {E : Type 0} → List E → Chosen → Option (Selection E)
marked marks (chosens.Method m has_code most stack) = option_map (λ mark. found.Method (callee m has_code most stack mark)) (slice_get marks m.class)
marked marks (chosens.Lib call) = Some (found.Lib call)
marked marks chosens.Abstract = Some found.Abstract
marked marks chosens.Missing = Some found.Missing

-- ---- what is known of a call on an object

abbrev pub answer_at : Program → (class : ℕ) → InvokeKind → (pool : ℕ) → Receiver → Answer
answer_at p class by pool (receivers.Object kind) = answer p (record { class = class; pool = pool; by = by; on = number_by kind })
answer_at p class by pool on = nothing

-- ---- the method that an entry names

-- a user's member is of a class of the program
abbrev pub MemberWithin : Program → Member → Type 0
MemberWithin p (members.Method m) = m.class < length p.parts
MemberWithin p m = ⊤

-- So is the method that the entry at an index of a class's pool names for such a call.
abbrev pub CallWithin : Program → ℕ → InvokeKind → ℕ → Type 0
CallWithin p class by pool = (way : InvokeKind) (c : CallMeaning) → meant p (pool_at p class) (call_form by pool) ≡ Some (Call way c)
    → MemberWithin p c.member

-- ---- what a step comes to

-- A call by the entry at an index of the pool of the newest frame's class did what a step does that executes it, whatever the rules and the
-- state are: where its operands serve, and these are what the rules give to frames of each class.
abbrev pub Invokes : {E : Type 0} → Program → InvokeKind → ℕ → List E → Heaped → (count depth : ℕ) → Framed E → Called → Framed E → Type 0
Invokes {E} p by pool marks h count depth f way g =
    (r : Rules ℕ E) (plan : Plan) (s : State ℕ E) (shapes : Shapes) (things : Things) (constants : List (List ℕ × ℕ)) (c : CallMeaning)
    → meant p (pool_at p f.newest.method.class) (call_form by pool) ≡ Some (Call by c)
    → marks ≡ marks_of r.entry_of p → s.store ≡ store_by p shapes things constants h → plan.depth ≡ depth → Takes p s by c count f
    → CalledAs r p plan s count f way g (calls r p plan s f by c)
