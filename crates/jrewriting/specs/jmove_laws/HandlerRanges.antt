-- Which instructions of moved code a handler covers.
use Rattle.std.specs.Prelude.{◌≡◌, ◌≤◌, ◌<◌, ◌==◌, ◌||◌, ◌↔◌, ℕ, pos, ◌+◌, List, length, Some, IsTrue, slice_get}
use Rattle.jparts.specs.declared.jcode.op.Op.{Op}
use Rattle.jparts.specs.declared.jcode.op.Handler.{Handler}
use Rattle.jparts.specs.declared.jcode.op.Placed.{Placed}
use Rattle.jparts.specs.jcode.Instructions.{is_place, code}
use Rattle.jmove.specs.declared.method.Expand.{Expand}
use Rattle.jmove.specs.declared.method.Setting.{Setting}
use Rattle.jmove.specs.MethodExpansion.{expansion, moved_handler}
use Rattle.jrewriting.specs.jmove_laws.InstructionNumbers.{IsNth, index_of, moved, new_place}

-- A handler covers the places from its start up to its end.
abbrev pub Covers : Handler → ℕ → Type 0
Covers h p = (h.start ≤ p) × (p < h.end)

-- Its range begins at an instruction, and ends at one or at the code's end.
pub record IsRange (is : List Placed) (h : Handler) : Type 0 where
  pub start : IsTrue (is_place is (pos h.start))
  pub «end» : IsTrue (h.end == length (code.spell is) || is_place is (pos h.end))

-- The moved handler covers the instructions of an expansion exactly where the old one covers the old instruction.
abbrev pub Ranges : Type 0
Ranges = (begin : List Op) (s : Setting) (ks : List Expand) (is : List Placed) → length ks ≡ length is → IsTrue (code.fits is)
    → (h : Handler) → IsRange is h
    → (n j : ℕ) (k : Expand) (i x : Placed) → IsNth ks is n k i → j < length (expansion s k i.op)
    → slice_get (moved begin s ks is) (index_of begin s ks is n + j) ≡ Some x
    → Covers (moved_handler (new_place begin s ks is) h) x.at ↔ Covers h i.at
