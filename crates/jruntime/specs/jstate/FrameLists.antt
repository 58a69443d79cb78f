-- The frames of a thread that has one, and how they lie in lists.
use Rattle.std.specs.Prelude.{◌≡◌, ℕ, ◌+◌, List, [], ◌∷◌, Option, Some, None, drop, length, reverse}
use Rattle.jvalues.specs.declared.jops.value.Value.{Value}
use Rattle.jstacks.specs.ListStacks.{Piled}
use Rattle.jresolution.specs.declared.jprogram.member.MethodId.{MethodId}
use Rattle.jsemantics.specs.jmachine.MachineStates.{FrameOf}
use Rattle.jsemantics.specs.jmachine.FrameOperations.{locals_of, with_operands}
use Rattle.jruntime.specs.declared.jstate.frames.At.{At}

-- the newest, and those below it, the newest of them first
pub record Framed (E : Type 0) : Type 0 where
  pub newest : FrameOf ℕ E
  pub below : List (FrameOf ℕ E)

abbrev pub all : {E : Type 0} → Framed E → List (FrameOf ℕ E)
all s = s.newest ∷ s.below

-- another frame in the place of the newest
abbrev pub with_newest : {E : Type 0} → FrameOf ℕ E → Framed E → Framed E
with_newest f s = record { newest = f; below = s.below }

-- the newest has these operands
abbrev pub holding : {E : Type 0} → List (Value ℕ) → Framed E → Framed E
holding operands s = with_newest (with_operands s.newest operands) s

-- the newest has these locals
abbrev pub keeping : {E : Type 0} → List (Option (Value ℕ)) → Framed E → Framed E
keeping {E} locals s =
    let f : FrameOf ℕ E =
    record { method = s.newest.method; place = s.newest.place; locals = locals; operands = s.newest.operands; entry = s.newest.entry } in
    with_newest f s

-- ---- frames that begin and go

-- a frame at the beginning of a method with so many locals, with these arguments, the newest first
abbrev pub starting : {E : Type 0} → MethodId → ℕ → List (Value ℕ) → E → FrameOf ℕ E
starting m most arguments entry = record { method = m; place = 0; locals = locals_of most arguments; operands = []; entry = entry }

-- one more frame
abbrev pub pushed : {E : Type 0} → FrameOf ℕ E → Framed E → Framed E
pushed f s = record { newest = f; below = all s }

-- the frames of a list, where it has one
abbrev pub framed : {E : Type 0} → List (FrameOf ℕ E) → Option (Framed E)
framed [] = None
framed (f ∷ below) = Some (record { newest = f; below = below })

-- ---- how they lie

-- a frame that stands somewhere and carries this, with lists of locals and of operands, the newest first
abbrev pub frame_at : {E : Type 0} → At → E → List (Option (Value ℕ)) → List (Value ℕ) → FrameOf ℕ E
frame_at at mark locals operands = record { method = at.method; place = at.place; locals = reverse locals; operands = operands; entry = mark }

-- the frames that stand there, each with what it carries and its list of locals and of operands
unfoldable pub frames_at : {E : Type 0} → List At → List E → List (List (Option (Value ℕ))) → List (List (Value ℕ)) → List (FrameOf ℕ E)
frames_at (at ∷ rest) (mark ∷ marks) (l ∷ locals) (o ∷ operands) = frame_at at mark l o ∷ frames_at rest marks locals operands
frames_at ats marks locals operands = []

-- what those below the newest carry, the newest of them first, by what all carry, the oldest first
abbrev pub older : {E : Type 0} → List E → List E
older marks = drop 1 (reverse marks)

-- all, where those below stand so, the oldest first, and all carry this, the oldest first
abbrev pub shown : {E : Type 0} → At → E → List At → List E → Piled (Option (Value ℕ)) → Piled (Value ℕ) → Framed E
shown at mark below marks locals operands = record {
  newest = frame_at at mark locals.newest operands.newest;
  below = frames_at (reverse below) (older marks) locals.below operands.below;
}

-- What the newest carries stands last, and each frame has what it carries and its lists. Below the lists of the newest there is always one more,
-- with which a pile begins.
abbrev pub Lies : {E : Type 0} → E → List At → List E → Piled (Option (Value ℕ)) → Piled (Value ℕ) → Type 0
Lies mark below marks locals operands =
    (reverse marks ≡ mark ∷ older marks) × (length marks ≡ length below + 1) × (length locals.below ≡ length below + 1)
    × (length operands.below ≡ length below + 1)
