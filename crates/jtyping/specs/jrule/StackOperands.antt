-- The operands of an instruction: what is taken from the stack of a frame, and what is put there (JVMS 2.6.2, 4.10.1.4).
use Rattle.std.specs.Prelude.{ℕ, List, [], ◌∷◌, Option, Some, None, option_map, option_and_then, if◌then◌else◌}
use Rattle.jtypes.specs.declared.vtype.VType.{VType}
use Rattle.jtypes.specs.TypeFrames.{Frame, within}
use Rattle.jtypes.specs.ClassTrees.{Tree}
use Rattle.jtyping.specs.jrule.StackEffects.{Exchange, Want, meets}

-- what stands below the operands that are wanted, the newest first
unfoldable pub below : Tree → List Want → List VType → Option (List VType)
below t [] stack = Some stack
below t (w ∷ ws) [] = None
below t (w ∷ ws) (a ∷ stack) = if meets t w a then below t ws stack else None

abbrev pub with_stack : Frame → List VType → Frame
with_stack f stack = record { locals = f.locals; stack = stack; flag = f.flag }

-- the frame without these operands
unfoldable pub taken : Tree → List Want → Frame → Option Frame
taken t ws f = option_map (with_stack f) (below t ws f.stack)

-- the frame with these operands, where there is room
abbrev pub with_room : ℕ → Frame → List VType → Option Frame
with_room most f stack = if within most stack then Some (with_stack f stack) else None

-- the frame with one more operand, where there is room
abbrev pub pushed : ℕ → VType → Frame → Option Frame
pushed most a f = with_room most f (a ∷ f.stack)

abbrev pub given : ℕ → Option VType → Frame → Option Frame
given most x f = elim x [ None ↦ Some f | Some a ↦ pushed most a f ]

-- what an instruction does that takes and gives so
abbrev pub exchanged : Tree → ℕ → Exchange → Frame → Option Frame
exchanged t most e f = option_and_then (given most e.gives) (taken t e.takes f)
