-- The numbers that an adder keeps beside its pool: each spelling's is the least index of the entry that is spelled so.
use Rattle.std.specs.Prelude.{◌≡◌, ℕ, ◌<◌, List, length, Option, Some, None, IsTrue, if◌then◌else◌}
use Rattle.std.specs.Option.{option_or}
use Rattle.std.specs.List.{position}
use Rattle.std.specs.Str.{bytes_eq}
use Rattle.std.specs.Global.{Vec}
use Rattle.indexmap.specs.IndexMap.{IndexMap, get_by}
use Rattle.jparts.specs.declared.jpool.entry.Entry.{Entry}
use Rattle.jparts.specs.jpool.PoolEntries.{entry}
use Rattle.jparts.specs.jpool.ConstantPools.{IsPool}
use Rattle.jadder.specs.EntryInterning.{same}

-- the number at a spelling
abbrev pub number_at : {S : Type 0} → IndexMap (Vec ℕ) ℕ S → List ℕ → Option ℕ
number_at numbers text = get_by (λ key. bytes_eq text key.items) numbers

abbrev pub number_in : {S : Type 0} → IndexMap (Vec ℕ) ℕ S → Entry → Option ℕ
number_in numbers e = number_at numbers (entry.spell e)

-- each entry that has a spelling has its least index as its number, and none where it isn't there
abbrev pub AreLeast : {S : Type 0} → IndexMap (Vec ℕ) ℕ S → List Entry → Type 0
AreLeast numbers entries = (e : Entry) → IsTrue (entry.fits e) → number_in numbers e ≡ position (same e) entries

-- what an adder keeps: a pool that has an index 0, and the numbers beside it
pub record IsNumbered {S : Type 0} (numbers : IndexMap (Vec ℕ) ℕ S) (entries : List Entry) : Type 0 where
  pub pool : IsPool entries
  pub begun : 0 < length entries
  pub least : AreLeast numbers entries

-- an entry has the number that it had, or else the new one where it is equal
abbrev pub Notes : {S : Type 0} → Entry → ℕ → IndexMap (Vec ℕ) ℕ S → IndexMap (Vec ℕ) ℕ S → Type 0
Notes one i old new = (e : Entry) → IsTrue (entry.fits e) → number_in new e ≡ option_or (number_in old e) (if same e one then Some i else None)
