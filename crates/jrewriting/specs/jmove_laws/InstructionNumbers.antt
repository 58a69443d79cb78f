-- Which instructions moved code has, by their numbers.
use Rattle.std.specs.Prelude.{◌≡◌, ◌<◌, ◌⊎◌, ℕ, zero, suc, ◌+◌, List, [], ◌∷◌, length, take, Some, IsTrue, slice_get}
use Rattle.jparts.specs.declared.jcode.op.Op.{Op}
use Rattle.jparts.specs.declared.jcode.op.Placed.{Placed}
use Rattle.jparts.specs.jcode.Instructions.{placed_at, code}
use Rattle.jmove.specs.declared.method.Expand.{Expand}
use Rattle.jmove.specs.declared.method.Setting.{Setting}
use Rattle.jmove.specs.AssemblyLines.{reach, place_of, led, assembled}
use Rattle.jmove.specs.MethodExpansion.{expansion, lines}

-- ---- moved code

-- the code of a body that begins so
abbrev pub moved : List Op → Setting → List Expand → List Placed → List Placed
moved begin s ks is = assembled (lines begin s ks is)

-- where an old place lies now
abbrev pub new_place : List Op → Setting → List Expand → List Placed → ℕ → ℕ
new_place begin s ks is old = place_of old 0 (lines begin s ks is)

-- the n-th instruction of old code, and what it becomes
pub record IsNth (ks : List Expand) (is : List Placed) (n : ℕ) (k : Expand) (i : Placed) : Type 0 where
  pub kind : slice_get ks n ≡ Some k
  pub old : slice_get is n ≡ Some i

-- ---- numbers

-- how many instructions the first n become
abbrev pub length_of : Setting → List Expand → List Placed → ℕ → ℕ
length_of s ks is zero = 0
length_of s [] is (suc n) = 0
length_of s (k ∷ ks) [] (suc n) = 0
length_of s (k ∷ ks) (i ∷ is) (suc n) = length (expansion s k i.op) + length_of s ks is n

-- the number with which the expansion of the n-th instruction begins
abbrev pub index_of : List Op → Setting → List Expand → List Placed → ℕ → ℕ
index_of begin s ks is n = length begin + length_of s ks is n

-- The j-th of instructions that stand from a place on, whose branches counted from an old place; `to` says where old places lie now.
abbrev pub standing : (ℕ → ℕ) → ℕ → ℕ → List Op → ℕ → Op → Placed
standing to from at os j op = let p = reach at (take j os) in placed_at p (led to from p op)

-- an instruction of an expansion, by its number in moved code
pub record InExpansion (begin : List Op) (s : Setting) (ks : List Expand) (is : List Placed) (number : ℕ) : Type 0 where
  pub n : ℕ
  pub j : ℕ
  pub kind : Expand
  pub old : Placed
  pub nth : IsNth ks is n kind old
  pub within : j < length (expansion s kind old.op)
  pub is_number : number ≡ index_of begin s ks is n + j

-- ---- laws

-- What a body is to begin with stands at its beginning.
abbrev pub Begun : Type 0
Begun = (begin : List Op) (s : Setting) (ks : List Expand) (is : List Placed) (j : ℕ) (op : Op)
    → slice_get begin j ≡ Some op → slice_get (moved begin s ks is) j ≡ Some (standing (new_place begin s ks is) 0 0 begin j op)

-- Each expansion ends where the next begins.
abbrev pub Next : Type 0
Next = (begin : List Op) (s : Setting) (ks : List Expand) (is : List Placed) (n : ℕ) (k : Expand) (i : Placed)
    → IsNth ks is n k i → index_of begin s ks is (n + 1) ≡ index_of begin s ks is n + length (expansion s k i.op)

-- Moved code has the expansions of all instructions, and no more.
abbrev pub Counted : Type 0
Counted = (begin : List Op) (s : Setting) (ks : List Expand) (is : List Placed) → length (moved begin s ks is) ≡ index_of begin s ks is (length is)

-- The j-th instruction of the n-th expansion stands at its number; the expansion begins at the new place of the old instruction.
abbrev pub Fetched : Type 0
Fetched = (begin : List Op) (s : Setting) (ks : List Expand) (is : List Placed) → IsTrue (code.fits is)
    → (n j : ℕ) (k : Expand) (i : Placed) (op : Op) → IsNth ks is n k i → slice_get (expansion s k i.op) j ≡ Some op
    → let to = new_place begin s ks is in slice_get (moved begin s ks is) (index_of begin s ks is n + j)
    ≡ Some (standing to i.at (to i.at) (expansion s k i.op) j op)

-- Each instruction of moved code is one of what it begins with or of an expansion.
abbrev pub Covered : Type 0
Covered = (begin : List Op) (s : Setting) (ks : List Expand) (is : List Placed) (number : ℕ)
    → number < length (moved begin s ks is) → (number < length begin) ⊎ InExpansion begin s ks is number
