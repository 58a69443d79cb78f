-- Where old places lie in moved code.
use Rattle.std.specs.Prelude.{◌≡◌, ◌<◌, ℕ, ◌+◌, pos, List, length, IsTrue}
use Rattle.jparts.specs.declared.jcode.op.Op.{Op}
use Rattle.jparts.specs.declared.jcode.op.Placed.{Placed}
use Rattle.jparts.specs.jcode.Instructions.{size, is_place, code}
use Rattle.jmove.specs.declared.method.Expand.{Expand}
use Rattle.jmove.specs.declared.method.Setting.{Setting}
use Rattle.jmove.specs.AssemblyLines.{reach}
use Rattle.jmove.specs.MethodExpansion.{expansion}
use Rattle.jrewriting.specs.jmove_laws.InstructionNumbers.{IsNth, new_place}

-- The old beginning lies behind what moved code begins with.
abbrev pub First : Type 0
First = (begin : List Op) (s : Setting) (ks : List Expand) (is : List Placed) → IsTrue (code.fits is) → new_place begin s ks is 0 ≡ reach 0 begin

-- The expansion of an instruction ends where the old place behind the instruction lies.
abbrev pub Ends : Type 0
Ends = (begin : List Op) (s : Setting) (ks : List Expand) (is : List Placed) → IsTrue (code.fits is)
    → (n : ℕ) (k : Expand) (i : Placed) → IsNth ks is n k i → reach (new_place begin s ks is i.at) (expansion s k i.op)
    ≡ new_place begin s ks is (i.at + size i.at i.op)

-- New places of instructions rise as the old ones do.
abbrev pub Rise : Type 0
Rise = (begin : List Op) (s : Setting) (ks : List Expand) (is : List Placed) → length ks ≡ length is → IsTrue (code.fits is)
    → (p q : ℕ) → IsTrue (is_place is (pos p)) → IsTrue (is_place is (pos q)) → p < q → new_place begin s ks is p < new_place begin s ks is q
