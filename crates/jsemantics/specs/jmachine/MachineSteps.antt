-- One step of the machine: an instruction of the running thread, or the beginning of a thread (JVMS 2.11, 6.5).
use Rattle.std.specs.Prelude.{ℕ, zero, ◌+◌, Bool, true, false, ◌&&◌, ◌||◌, not, List, [], ◌∷◌, ◌++◌, length, map, Option, Some, None, option_and_then, nat_le, nat_lt, if◌then◌else◌}
use Rattle.std.specs.Str.{bytes_eq}
use Rattle.jlib.specs.declared.calls.LibCall.TheVariants as calls
use Rattle.jlib.specs.declared.classes.LibClass.TheVariants as lib
use Rattle.jtypes.specs.declared.vtype.VType.{VType}
use Rattle.jclass.specs.declared.class.CodeBody.{CodeBody}
use Rattle.jvalues.specs.declared.jops.value.Value.{Value}
use Rattle.jvalues.specs.declared.jops.value.Value.TheVariants.{Ref}
use Rattle.joutput.specs.declared.jtrace.event.Event.{Event}
use Rattle.joutput.specs.declared.jtrace.event.Event.TheVariants.{Throw, Uncaught}
use Rattle.joutput.specs.declared.jtrace.event.End.TheVariants.{HeapFull}
use Rattle.jresolution.specs.declared.jprogram.member.Member.{Member}
use Rattle.jresolution.specs.declared.jprogram.member.Member.TheVariants.{Method, LibMethod}
use Rattle.jresolution.specs.declared.jprogram.member.MethodId.{MethodId}
use Rattle.jresolution.specs.jprogram.ProgramClasses.{Program}
use Rattle.jresolution.specs.jprogram.MemberResolution as members
use Rattle.jresolution.specs.juses.IndexedInstructions.{Instruction, code_at, goes_on, instruction_at}
use Rattle.jresolution.specs.juses.InstructionMeanings.{CallMeaning}
use Rattle.jtyping.specs.jrule.TypingRule.{is_own}
use Rattle.jsemantics.specs.declared.jmachine.plan.Plan.{Plan}
use Rattle.jsemantics.specs.jmachine.MachineStates.{FrameOf, GuestOf, State, Act, Goes, Jumps, Leaves, Calls, Raises, Throws, Switches, Makes, Row, Outcome, Went, Over, NoStep, charge_of, free, raises}
use Rattle.jsemantics.specs.jmachine.CallTargets.{Target, Fails, Pushes, Runs, by_interface}
use Rattle.jsemantics.specs.jmachine.InstructionActions.{Doing, doing}
use Rattle.jsemantics.specs.jmachine.FrameOperations.{all_marked, begun, domain_of, onward, standing}
use Rattle.jsemantics.specs.jmachine.HeapObjects.{Object, class_of, library_name}
use Rattle.jsemantics.specs.jmachine.Security.{Rules, handed}
use Rattle.jsemantics.specs.jmachine.InstructionSites.{Site}
use Rattle.jsemantics.specs.jmachine.Store.{Store, object_at, paid}
use Rattle.jsemantics.specs.jmachine.ThreadTurns.{ended, thread_of, turned, with_guest, with_running, with_table}
use Rattle.jsemantics.specs.jmachine.Unwinding.{resumed, told_name, unwound, with_raised}
use Rattle.jsemantics.specs.jmachine.World.{world}

-- ---- what is looked up

-- an instruction that goes on has one behind it
abbrev pub has_next : Option CodeBody → ℕ → Bool
has_next x i = elim x [ None ↦ false | Some body ↦ nat_lt (i + 1) (length body.ops) ]

abbrev pub is_followed : Program → MethodId → ℕ → Instruction → Bool
is_followed p m i it = not (goes_on it) || has_next (code_at p m) i

abbrev pub unless_last : Program → MethodId → ℕ → Instruction → Option Instruction
unless_last p m i it = if is_followed p m i it then Some it else None

-- the instruction of a number in a method
unfoldable pub fetched : Program → MethodId → ℕ → Option Instruction
fetched p m i = option_and_then (unless_last p m i) (instruction_at p m i)

-- a method is an `<init>`, and not a static one
abbrev pub is_init : Program → MethodId → Bool
is_init p m = bytes_eq (members.name_of p (Method m)) members.init && not (members.is_static p (Method m))

-- an `<init>` may write the fields that its class declares before another is called on `this`
abbrev pub own_fields : Program → MethodId → Member → Bool
own_fields p m = is_own p (is_init p m) ((world p).named m.class)

-- what the rows of an instruction know of its frame and of those below
abbrev pub site_of : {K E : Type 0} → Program → Plan → State K E → FrameOf K E → List (FrameOf K E) → Site
site_of p plan s f below =
    record {
      world = world p;
      class = f.method.class;
      thread = thread_of s;
      full = nat_le plan.depth (length (f ∷ below));
      cwd = plan.cwd;
      table =
          s.table;
    }

module _ {K E : Type 0} (r : Rules K E) (p : Program) (plan : Plan) (s : State K E) where
  -- ---- outcomes

  abbrev pub went : List (FrameOf K E) → Store K → List Event → Outcome (State K E)
  went frames store events = Went (with_running s frames store) events

  -- the exception leaves its thread's last frame, or is handled
  abbrev pub thrown_to : Store K → List Event → VType → Option (List (FrameOf K E)) → Outcome (State K E)
  thrown_to store events class (Some frames) = went frames store (events ++ Throw (thread_of s) (told_name class) ∷ [])
  thrown_to store events class None = ended plan.schedule s store true
      (events ++ Throw (thread_of s) (told_name class) ∷ Uncaught (thread_of s) (told_name class) ∷ [])

  -- an object is thrown, which has a number
  abbrev pub thrown : List (FrameOf K E) → Store K → List Event → ℕ → Option (Object K) → Outcome (State K E)
  thrown frames store events n None = NoStep
  thrown frames store events n (Some x) = let class = class_of (world p).named x in thrown_to store events class (unwound r.entry_of p class n frames)

  abbrev pub thrown_at : List (FrameOf K E) → Store K → List Event → ℕ → Outcome (State K E)
  thrown_at frames store events n = thrown frames store events n (object_at store n)

  -- an exception that was made last
  abbrev pub raised : List (FrameOf K E) → List Event → Store K → Outcome (State K E)
  raised frames events store = thrown_at frames store events (length store.objects)

  -- a frame is pushed, where the method has code
  abbrev pub pushed : List (FrameOf K E) → Store K → Option (FrameOf K E) → Outcome (State K E)
  pushed frames store = elim [ None ↦ NoStep | Some f ↦ went (f ∷ frames) store [] ]

  -- the frame below goes on behind its call; where there is none the thread ends
  abbrev pub left : List (FrameOf K E) → Store K → List (Value K) → Outcome (State K E)
  left [] store values = ended plan.schedule s store false []
  left (g ∷ below) store values = went (resumed r.entry_of p g (g.place + 1) (values ++ g.operands) ∷ below) store []

  -- ---- what an act makes of the frames, of which the newest has its operands taken

  abbrev pub on_newest : List (FrameOf K E) → (FrameOf K E → List (FrameOf K E) → Outcome (State K E)) → Outcome (State K E)
  on_newest x go = elim x [ [] ↦ NoStep | f ∷ below ↦ go f below ]

  abbrev pub guest : ℕ → K → GuestOf K E
  guest runnable kept = record { frames = []; inherited = Some kept; runnable = runnable; failed = false }

  unfoldable pub acted : List (FrameOf K E) → ℕ → Act K E → Outcome (State K E)
  acted frames cells (Goes store values events) = on_newest frames (λ f below. went (onward f values ∷ below) (paid cells store) events)
  acted frames cells (Jumps to) = on_newest frames (λ f below. went (standing f to f.operands ∷ below) (paid cells s.store) [])
  acted frames cells (Leaves values) = on_newest frames (λ f below. left below (paid cells s.store) values)
  acted frames cells (Calls m arguments entry) = pushed (all_marked entry frames) (paid cells s.store)
      (begun p m (r.entry_of (domain_of p m)) arguments)
  acted frames cells (Raises events class message) = raised frames events (with_raised (paid cells s.store) class message)
  acted frames cells (Throws n) = thrown_at frames (paid cells s.store) [] n
  acted frames cells (Switches table) =
      on_newest frames (λ f below. turned plan.schedule (with_table (with_running s (onward f [] ∷ below) (paid cells s.store)) table) [])
  acted frames cells (Makes store runnable kept) = on_newest frames (λ f below.
      Went (with_guest (with_running s (onward f [] ∷ below) (paid cells store)) (guest runnable kept)) [])

  -- a charge above what is left changes nothing, and ends the run
  unfoldable pub applied : List (FrameOf K E) → Row K E → Outcome (State K E)
  applied frames row = if nat_le (charge_of row) s.store.left then acted frames (charge_of row) row.act else Over s [] HeapFull

  -- ---- an instruction

  abbrev pub site : FrameOf K E → List (FrameOf K E) → Site
  site f below = site_of p plan s f below

  abbrev pub done : List (FrameOf K E) → Option (Doing K E) → Outcome (State K E)
  done below = elim [ None ↦ NoStep | Some d ↦ applied (d.frame ∷ below) d.row ]

  abbrev pub entries : List (FrameOf K E) → List E
  entries frames = map (λ f. f.entry) frames

  abbrev pub executed : FrameOf K E → List (FrameOf K E) → Option Instruction → Outcome (State K E)
  executed f below None = NoStep
  executed f below (Some i) = done below (doing r (site f below) (own_fields p f.method) s.store (entries (f ∷ below)) s.running.inherited i f)

  -- ---- the beginning of a thread

  abbrev pub run_call : CallMeaning
  run_call = record { owner = library_name lib.Runnable; params = []; ret = None; member = LibMethod (calls.Run r.side) }

  -- `run` of its Runnable, which on the passing side is given what the thread inherited
  abbrev pub first_row : ℕ → Target → Option (Row K E)
  first_row n (Fails class) = Some (raises class)
  first_row n (Pushes m) = Some (free (Calls m (handed r.side s.running.inherited ++ Ref n ∷ []) None))
  first_row n (Runs call) = None

  abbrev pub first_done : Option (Row K E) → Outcome (State K E)
  first_done = elim [ None ↦ NoStep | Some row ↦ applied [] row ]

  abbrev pub begun_on : ℕ → Option (Object K) → Outcome (State K E)
  begun_on n = elim [ None ↦ NoStep | Some x ↦ first_done (first_row n (by_interface (world p) false run_call x)) ]

  -- a thread without a Runnable ends at once
  abbrev pub begins : ℕ → Outcome (State K E)
  begins zero = ended plan.schedule s s.store false []
  begins n = begun_on n (object_at s.store n)

  -- ---- a step

  abbrev pub step_at : List (FrameOf K E) → Outcome (State K E)
  step_at = elim [ [] ↦ begins s.running.runnable | f ∷ below ↦ executed f below (fetched p f.method f.place) ]

-- One step. There is none where the next instruction is missing or has none behind it, where an operand of the kind that it takes or a
-- local that is set is missing, and where its class's pool names nothing for it.
unfoldable pub step : {K E : Type 0} → Rules K E → Program → Plan → State K E → Outcome (State K E)
step r p plan s = step_at r p plan s s.running.frames
