-- The members of a class that were met, by the numbers of their names and descriptors.
use Rattle.std.specs.Prelude.{◌≡◌, ℕ, List}
use Rattle.std.specs.List.{list_any}
use Rattle.std.specs.BTreeSet.{BTreeSet, contains}
use Rattle.std.specs.Ordering.{nat_cmp, ordering_then}
use Rattle.std.specs.declared.cmp.Ordering.{Ordering}
use Rattle.jparts.specs.declared.jpool.entry.Entry.{Entry}
use Rattle.jclass.specs.declared.class.ClassParts.{ClassParts}
use Rattle.jclass.specs.declared.class.MemberInfo.{MemberInfo}
use Rattle.jresolution.specs.jprogram.ClassFileParts.{is_called, text}
use Rattle.jlinking.specs.jmembers.PoolTexts.{number_of}

abbrev pub pair_cmp : ℕ × ℕ → ℕ × ℕ → Ordering
pair_cmp a b = ordering_then (nat_cmp a.0 b.0) (nat_cmp a.1 b.1)

-- the numbers of the texts at two indices
abbrev pub pair_of : List Entry → ℕ → ℕ → ℕ × ℕ
pair_of pool name desc = (number_of pool (text pool name), number_of pool (text pool desc))

-- a set has the names and descriptors of these members
abbrev pub HasMet : ClassParts → List MemberInfo → BTreeSet (ℕ × ℕ) → Type 0
HasMet c members met = (name desc : ℕ) → contains pair_cmp met (pair_of c.pool name desc)
    ≡ list_any (is_called c (text c.pool name) (text c.pool desc)) members
