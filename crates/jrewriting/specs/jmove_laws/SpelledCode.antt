-- Moved code is code.
use Rattle.std.specs.Prelude.{◌≡◌, ◌≤◌, ℕ, List, length, Some, IsTrue, slice_get}
use Rattle.jparts.specs.declared.jcode.op.Placed.{Placed}
use Rattle.jparts.specs.jcode.Instructions.{code}
use Rattle.jmove.specs.declared.method.Expand.{Expand}
use Rattle.jmove.specs.declared.method.Expand.TheVariants.{Same, Call, Check, Snapshot, Privileged, PrivilegedWith, PrivilegedLimited}
use Rattle.jmove.specs.declared.method.Setting.{Setting}
use Rattle.jmove.specs.AssemblyLines.{end_of}
use Rattle.jmove.specs.MethodExpansion.{lines, prologue}
use Rattle.jrewriting.specs.jmove_laws.InstructionNumbers.{moved}

-- the reference that an expansion calls
abbrev pub named : Expand → ℕ
named Same = 0
named (Call n) = n
named (Check n) = n
named (Snapshot n) = n
named (Privileged n) = n
named (PrivilegedWith n) = n
named (PrivilegedLimited n) = n

-- The numbers that moved code has are those of a class file.
pub record InRange (slots enter : ℕ) (s : Setting) (ks : List Expand) : Type 0 where
  pub place : slots ≤ 0xffff
  pub call : enter ≤ 0xffff
  pub local : s.local ≤ 0xffff
  pub domain : s.domain ≤ 0x7fff
  pub calls : (n : ℕ) (k : Expand) → slice_get ks n ≡ Some k → named k ≤ 0xffff

-- Moved code of at most 32,767 bytes has a spelling, and its branches lead to instructions.
abbrev pub Spelled : Type 0
Spelled = (slots enter : ℕ) (s : Setting) (ks : List Expand) (is : List Placed) → length ks ≡ length is → IsTrue (code.fits is)
    → InRange slots enter s ks
    → end_of 0 (lines (prologue slots s enter) s ks is) ≤ 32767 → IsTrue (code.fits (moved (prologue slots s enter) s ks is))
