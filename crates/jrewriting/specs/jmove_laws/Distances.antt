-- How far the branches of moved code lead.
use Rattle.std.specs.Prelude.{◌≤◌, ℕ, ℤ, List, FitsSigned}
use Rattle.std.specs.Int.{w16}
use Rattle.jparts.specs.declared.jcode.op.Op.{Op}
use Rattle.jparts.specs.declared.jcode.op.Placed.{Placed}
use Rattle.jmove.specs.declared.method.Expand.{Expand}
use Rattle.jmove.specs.declared.method.Setting.{Setting}
use Rattle.jmove.specs.AssemblyLines.{end_of}
use Rattle.jmove.specs.ProofNames.{distance}
use Rattle.jmove.specs.MethodExpansion.{lines}
use Rattle.jrewriting.specs.jmove_laws.InstructionNumbers.{new_place}

-- In moved code of at most 32,767 bytes each distance is a signed number of 16 bits.
abbrev pub Near : Type 0
Near = (begin : List Op) (s : Setting) (ks : List Expand) (is : List Placed) → end_of 0 (lines begin s ks is) ≤ 32767
    → (from at : ℕ) (by : ℤ) → at ≤ end_of 0 (lines begin s ks is) → FitsSigned w16 (distance (new_place begin s ks is) from at by)
