-- What an assembler makes of lines: labels, and instructions whose branches lead to labels.
use Rattle.std.specs.Prelude.{◌≡◌, ℕ, ◌+◌, ℤ, pos, ◌+ℤ◌, ◌-ℤ◌, unsigned_abs, ◌==◌, if◌then◌else◌, List, [], ◌∷◌, map}
use Rattle.jparts.specs.declared.jcode.op.Op.{Op}
use Rattle.jparts.specs.declared.jcode.op.Op.TheVariants.{If, IfInt, IfRef, Goto, Switch}
use Rattle.jparts.specs.declared.jcode.op.Goto.TheVariants as gotos
use Rattle.jparts.specs.declared.jcode.op.Switch.{Switch as AnySwitch}
use Rattle.jparts.specs.declared.jcode.op.Switch.TheVariants.{Table, Lookup}
use Rattle.jparts.specs.declared.jcode.op.TableSwitch.{TableSwitch}
use Rattle.jparts.specs.declared.jcode.op.LookupSwitch.{LookupSwitch}
use Rattle.jparts.specs.declared.jcode.op.Placed.{Placed}
use Rattle.jparts.specs.jcode.Instructions.{size, placed_at}

-- A label names a place of the old code, and takes no bytes. The branches of an instruction count from a place of the old code, and
-- lead to the labels of old places.
pub data Line : Type 0 where
  Label : (old : ℕ) → Line
  Do : (from : ℕ) (op : Op) → Line

-- the place that instructions reach, one behind the other
abbrev pub reach : ℕ → List Op → ℕ
reach at [] = at
reach at (op ∷ rest) = reach (at + size at op) rest

-- the place behind lines
abbrev pub end_of : ℕ → List Line → ℕ
end_of at [] = at
end_of at (Label q ∷ rest) = end_of at rest
end_of at (Do from op ∷ rest) = end_of (at + size at op) rest

-- the place of a label; where no line has it, the end
abbrev pub place_of : ℕ → ℕ → List Line → ℕ
place_of old at [] = at
place_of old at (Label q ∷ rest) = if old == q then at else place_of old at rest
place_of old at (Do from op ∷ rest) = place_of old (at + size at op) rest

-- ---- branches

abbrev pub table_with : (ℤ → ℤ) → TableSwitch → TableSwitch
table_with f s = record { default = f s.default; low = s.low; high = s.high; branches = map f s.branches }

abbrev pub lookup_with : (ℤ → ℤ) → LookupSwitch → LookupSwitch
lookup_with f s = record { default = f s.default; cases = map (λ c. record { key = c.key; branch = f c.branch }) s.cases }

abbrev pub switch_with : (ℤ → ℤ) → AnySwitch → AnySwitch
switch_with f = elim [ Table s ↦ Table (table_with f s) | Lookup s ↦ Lookup (lookup_with f s) ]

-- an instruction with other distances of its branches
abbrev pub with_branches : (ℤ → ℤ) → Op → Op
with_branches f (If test by) = If test (f by)
with_branches f (IfInt test by) = IfInt test (f by)
with_branches f (IfRef test by) = IfRef test (f by)
with_branches f (Goto (gotos.Narrow by)) = Goto (gotos.Narrow (f by))
with_branches f (Goto (gotos.Wide by)) = Goto (gotos.Wide (f by))
with_branches f (Switch s) = Switch (switch_with f s)
with_branches f op = op

abbrev pub led : (ℕ → ℕ) → ℕ → ℕ → Op → Op
led to from at op = with_branches (λ by. pos (to (unsigned_abs (pos from +ℤ by))) -ℤ pos at) op

-- ---- the code of lines

-- the instructions at their places
abbrev pub placed : (ℕ → ℕ) → ℕ → List Line → List Placed
placed to at [] = []
placed to at (Label q ∷ rest) = placed to at rest
placed to at (Do from op ∷ rest) = placed_at at (led to from at op) ∷ placed to (at + size at op) rest

-- the code that lines stand for
abbrev pub assembled : List Line → List Placed
assembled ls = placed (λ old. place_of old 0 ls) 0 ls

-- Instructions stand one behind the other, from a place to a place.
abbrev pub Laid : ℕ → List Placed → ℕ → Type 0
Laid from [] to = from ≡ to
Laid from (i ∷ is) to = (i.at ≡ from) × Laid (from + size from i.op) is to
