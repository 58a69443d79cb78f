-- Where the branches of moved code lead.
use Rattle.std.specs.Prelude.{◌≡◌, ℕ, ℤ, pos, ◌+ℤ◌, List, map, length, Some, IsTrue}
use Rattle.jparts.specs.declared.jcode.op.Op.{Op}
use Rattle.jparts.specs.declared.jcode.op.Placed.{Placed}
use Rattle.jparts.specs.jcode.InstructionForms.{form, branches}
use Rattle.jparts.specs.jcode.Instructions as jcode
use Rattle.jmove.specs.declared.method.Expand.{Expand}
use Rattle.jmove.specs.declared.method.Setting.{Setting}
use Rattle.jmove.specs.AssemblyLines.{end_of, with_branches}
use Rattle.jmove.specs.ProofNames.{distance}
use Rattle.jmove.specs.MethodExpansion.{lines}
use Rattle.jrewriting.specs.jmove_laws.InstructionNumbers.{IsNth, index_of, moved, new_place}

-- An instruction with other distances has as many branches, in the same order.
abbrev pub EachBranch : Type 0
EachBranch = (f : ℤ → ℤ) (op : Op) → branches (form (with_branches f op)) ≡ map f (branches (form op))

-- What led from an old place to another leads, from wherever its instruction stands now, to that one's new place.
abbrev pub Leads : Type 0
Leads = (to : ℕ → ℕ) (from at old : ℕ) (by : ℤ) → pos from +ℤ by ≡ pos old → pos at +ℤ distance to from at by ≡ pos (to old)

-- At the new place of the n-th instruction its expansion begins, at the number that it has.
abbrev pub Jumps : Type 0
Jumps = (begin : List Op) (s : Setting) (ks : List Expand) (is : List Placed) → IsTrue (jcode.code.fits is)
    → (n : ℕ) (k : Expand) (i : Placed) → IsNth ks is n k i → jcode.place_of (moved begin s ks is) (new_place begin s ks is i.at)
    ≡ Some (index_of begin s ks is n)

-- The old code's end moves to the end of moved code.
abbrev pub Ended : Type 0
Ended = (begin : List Op) (s : Setting) (ks : List Expand) (is : List Placed) → IsTrue (jcode.code.fits is)
    → new_place begin s ks is (length (jcode.code.spell is)) ≡ end_of 0 (lines begin s ks is)
