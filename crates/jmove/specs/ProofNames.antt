-- Names by which proofs and the contracts of inner functions call what the definitions say in place. What `javasec` and `dispatch` promise
-- reaches none of them.
use Rattle.std.specs.Prelude.{ℕ, ◌-◌, List, replicate, ℤ, ◌+ℤ◌, ◌-ℤ◌, pos, unsigned_abs, ◌==◌, ◌||◌, Bool, nat_lt}
use Rattle.jparts.specs.declared.jmaps.types.MapType.{MapType}
use Rattle.jparts.specs.declared.jmaps.types.MapType.TheVariants.{Long, Top}
use Rattle.jparts.specs.declared.jcode.op.Case.{Case}
use Rattle.jmove.specs.MovedFrames.{widths, items_of}
use Rattle.jmove.specs.declared.method.MethodIn.{MethodIn}
use Rattle.jmove.specs.MethodExpansion.{context_local}

-- ---- of MovedFrames

-- how many locals a type takes
abbrev pub width : MapType → ℕ
width = elim [ Long ↦ 2 | _ ↦ 1 ]

-- the locals that nothing is said of, up to this one
abbrev pub unsaid : ℕ → List MapType → List MapType
unsaid local types = replicate (local - widths types) Top

-- ---- of AssemblyLines

abbrev pub case_with : (ℤ → ℤ) → Case → Case
case_with f c = record { key = c.key; branch = f c.branch }

-- how far a branch leads from its new place, where it counted from an old one; `to` says where old places lie now
abbrev pub distance : (ℕ → ℕ) → ℕ → ℕ → ℤ → ℤ
distance to from at by = pos (to (unsigned_abs (pos from +ℤ by))) -ℤ pos at

-- ---- of MethodExpansion

abbrev pub too_many : MethodIn → Bool
too_many m = m.max_locals == 65535 || nat_lt 16777216 (items_of (context_local m) m.frames)
