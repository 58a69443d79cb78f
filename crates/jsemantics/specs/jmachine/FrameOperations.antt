-- Frames: how they begin, go on and are marked (JVMS 2.6).
use Rattle.std.specs.Prelude.{ℕ, ◌+◌, ◌-◌, List, [], ◌∷◌, ◌++◌, length, replicate, Option, Some, None, option_map, slice_get}
use Rattle.jvalues.specs.declared.jops.value.Value.{Value}
use Rattle.jclass.specs.declared.class.CodeBody.{CodeBody}
use Rattle.jresolution.specs.declared.jprogram.member.MethodId.{MethodId}
use Rattle.jresolution.specs.declared.jprogram.part.CodePart.{CodePart}
use Rattle.jresolution.specs.jprogram.ProgramClasses.{Program}
use Rattle.jresolution.specs.juses.IndexedInstructions.{code_at}
use Rattle.jsemantics.specs.jmachine.MachineStates.{FrameOf}
use Rattle.jsemantics.specs.jmachine.BasicInstructions.{Held, places}

-- ---- frames that go on

abbrev pub standing : {K E : Type 0} → FrameOf K E → ℕ → List (Value K) → FrameOf K E
standing f place operands = record { method = f.method; place = place; locals = f.locals; operands = operands; entry = f.entry }

-- behind its instruction, with these operands on those that it has
abbrev pub onward : {K E : Type 0} → FrameOf K E → List (Value K) → FrameOf K E
onward f values = standing f (f.place + 1) (values ++ f.operands)

abbrev pub with_operands : {K E : Type 0} → FrameOf K E → List (Value K) → FrameOf K E
with_operands f operands = standing f f.place operands

abbrev pub with_held : {K E : Type 0} → FrameOf K E → Held K → FrameOf K E
with_held f h = record { method = f.method; place = f.place; locals = h.locals; operands = h.operands; entry = f.entry }

-- it carries this
abbrev pub carrying : {K E : Type 0} → E → FrameOf K E → FrameOf K E
carrying entry f = record { method = f.method; place = f.place; locals = f.locals; operands = f.operands; entry = entry }

abbrev pub marked : {K E : Type 0} → Option E → FrameOf K E → FrameOf K E
marked x f = elim x [ None ↦ f | Some entry ↦ carrying entry f ]

abbrev pub all_marked : {K E : Type 0} → Option E → List (FrameOf K E) → List (FrameOf K E)
all_marked entry x = elim x [ [] ↦ [] | f ∷ below ↦ marked entry f ∷ below ]

-- ---- frames that begin

-- arguments, the newest first, as the first locals
unfoldable pub onto : {K : Type 0} → List (Value K) → List (Option (Value K)) → List (Option (Value K))
onto [] locals = locals
onto (v ∷ arguments) locals = onto arguments (places v ++ locals)

abbrev pub places_of : {K : Type 0} → List (Value K) → ℕ
places_of arguments = length (onto arguments [])

-- the other locals hold nothing
abbrev pub locals_of : {K : Type 0} → ℕ → List (Value K) → List (Option (Value K))
locals_of most arguments = onto arguments (replicate (most - places_of arguments) None)

abbrev pub frame_of : {K E : Type 0} → MethodId → E → List (Value K) → CodeBody → FrameOf K E
frame_of m entry arguments body = record { method = m; place = 0; locals = locals_of body.max_locals arguments; operands = []; entry = entry }

-- a frame at the beginning of a method that has code
abbrev pub begun : {K E : Type 0} → Program → MethodId → E → List (Value K) → Option (FrameOf K E)
begun p m entry arguments = option_map (frame_of m entry arguments) (code_at p m)

-- ---- domains

abbrev pub domain_in : Option CodePart → ℕ
domain_in = elim [ None ↦ 0 | Some part ↦ part.domain ]

-- the domain of a method: that of the class that declares it
abbrev pub domain_of : Program → MethodId → ℕ
domain_of p m = domain_in (slice_get p.parts m.class)
