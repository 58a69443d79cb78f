-- What the entries of a pool stand for, seen from the class that has it (JVMS 4.4, 5.4.3).
use Rattle.std.specs.Prelude.{ℕ, List, [], map, Option, Some, None}
use Rattle.jparts.specs.declared.jpool.entry.Entry.{Entry}
use Rattle.jparts.specs.declared.jpool.entry.Entry.TheVariants as entries
use Rattle.jparts.specs.jpool.ConstantPools.{name_and_type_at}
use Rattle.jclass.specs.declared.class.ClassParts.{ClassParts}
use Rattle.jresolution.specs.jprogram.ProgramClasses.{Program}
use Rattle.jresolution.specs.jprogram.MemberResolution.{referred}
use Rattle.jresolution.specs.jprogram.ClassFileParts.{class_text, text, this_name}
use Rattle.jlinking.specs.declared.jreferring.judged.Judged.{Judged}
use Rattle.jlinking.specs.declared.jreferring.judged.Judged.TheVariants as judged
use Rattle.jlinking.specs.declared.jreferring.judged.MemberUse.{MemberUse}
use Rattle.jlinking.specs.declared.jreferring.judged.Sort.{Sort}
use Rattle.jlinking.specs.declared.jreferring.judged.Sort.TheVariants as sort
use Rattle.jlinking.specs.jreferring.ClassEntryUses.{class_use}
use Rattle.jlinking.specs.jreferring.ReferenceUses.{member_use}

-- ---- references

-- the entry of a reference
abbrev pub entry_of : Sort → ℕ → ℕ → Entry
entry_of = elim [ sort.Field ↦ entries.Field | sort.Method ↦ entries.Method | sort.InterfaceMethod ↦ entries.InterfaceMethod ]

abbrev pub name_in : List Entry → Option (ℕ × ℕ) → List ℕ
name_in pool = elim [ None ↦ [] | Some both ↦ text pool both.0 ]

abbrev pub desc_in : List Entry → Option (ℕ × ℕ) → List ℕ
desc_in pool = elim [ None ↦ [] | Some both ↦ text pool both.1 ]

-- by the indices of its class and of its name and type
unfoldable pub reference : Program → List ℕ → List Entry → Sort → ℕ → ℕ → MemberUse
reference p from pool kind class both =
    member_use p from kind (referred p pool (Some (entry_of kind class both)))
    (class_text pool class) (name_in pool (name_and_type_at pool both)) (desc_in pool (name_and_type_at pool both))

-- ---- entries

-- of constants, ints and strings may be pushed in one slot, and longs in two
unfoldable pub judge : Program → List ℕ → List Entry → Entry → Judged
judge p from pool (entries.Integer n) = judged.Constant
judge p from pool (entries.Str text) = judged.Constant
judge p from pool (entries.Long n) = judged.LongConstant
judge p from pool (entries.Class name) = judged.Class (class_use p from (text pool name))
judge p from pool (entries.Field class both) = judged.Member (reference p from pool sort.Field class both)
judge p from pool (entries.Method class both) = judged.Member (reference p from pool sort.Method class both)
judge p from pool (entries.InterfaceMethod class both) = judged.Member (reference p from pool sort.InterfaceMethod class both)
judge p from pool _ = judged.Other

-- all of a class's pool, by their indices
abbrev pub judge_pool : Program → ClassParts → List Judged
judge_pool p c = map (judge p (this_name c) c.pool) c.pool
