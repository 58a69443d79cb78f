-- Where the frames of moved code stand, and that they can be written (JVMS 4.7.4).
use Rattle.std.specs.Prelude.{◌≡◌, ◌≤◌, ◌<◌, ℕ, pos, List, map, length, Some, IsTrue, All}
use Rattle.std.specs.List.{list_all}
use Rattle.jparts.specs.declared.jcode.op.Op.{Op}
use Rattle.jparts.specs.declared.jcode.op.Placed.{Placed}
use Rattle.jparts.specs.jcode.Instructions as jcode
use Rattle.jparts.specs.declared.jmaps.types.FullFrame.{FullFrame}
use Rattle.jparts.specs.jmaps.ExpandedFrames.{can_write, items_fit}
use Rattle.jmove.specs.declared.method.Expand.{Expand}
use Rattle.jmove.specs.declared.method.Setting.{Setting}
use Rattle.jmove.specs.MovedFrames.{moved_frame, widths}
use Rattle.jmove.specs.AssemblyLines.{end_of}
use Rattle.jmove.specs.MethodExpansion.{lines}
use Rattle.jrewriting.specs.jmove_laws.InstructionNumbers.{IsNth, index_of, moved, new_place}

-- a frame of moved code; `context` is the index of the context's class
abbrev pub new_frame : List Op → Setting → List Expand → List Placed → ℕ → FullFrame → FullFrame
new_frame begin s ks is context f = moved_frame (new_place begin s ks is) s.local context f

-- Each frame stands at an instruction.
abbrev pub StandAt : List Placed → List FullFrame → Type 0
StandAt is fs = IsTrue (list_all (λ f. jcode.is_place is (pos f.at)) fs)

-- ---- laws

-- A moved frame stands where the expansion of its instruction begins.
abbrev pub Begins : Type 0
Begins = (begin : List Op) (s : Setting) (ks : List Expand) (is : List Placed) → IsTrue (jcode.code.fits is)
    → (n : ℕ) (k : Expand) (i : Placed) (context : ℕ) (f : FullFrame) → IsNth ks is n k i → f.at ≡ i.at
    → jcode.place_of (moved begin s ks is) (new_frame begin s ks is context f).at ≡ Some (index_of begin s ks is n)

-- Frames that could be written can be written where they stand now, with the locals that they have now,
abbrev pub Written : Type 0
Written = (begin : List Op) (s : Setting) (ks : List Expand) (is : List Placed) → length ks ≡ length is → IsTrue (jcode.code.fits is)
    → end_of 0 (lines begin s ks is) ≤ 32767 → s.local < 0xffff
    → (context : ℕ) (fs : List FullFrame) → StandAt is fs → All (λ f. widths f.locals ≤ s.local) fs → IsTrue (can_write fs)
    → IsTrue (can_write (map (new_frame begin s ks is context) fs))

-- and each of their items has a spelling.
abbrev pub ItemsFit : Type 0
ItemsFit = (begin : List Op) (s : Setting) (ks : List Expand) (is : List Placed) → end_of 0 (lines begin s ks is) ≤ 32767
    → (context : ℕ) (fs : List FullFrame) → context ≤ 0xffff → IsTrue (items_fit fs) → IsTrue (items_fit (map (new_frame begin s ks is context) fs))
