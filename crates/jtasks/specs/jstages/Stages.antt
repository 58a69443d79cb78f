-- Stages of reading: what a call that reads files, or judges what was read, answers beside the value of its definition.
use Rattle.std.specs.Prelude.{◌≡◌, ◌⊎◌, ℕ, List, Option, Some, ok_or, Result, Ok, Err}
use Rattle.jground.specs.jbase.FaultCauses.{Rose}
use Rattle.joutput.specs.jio.ShelfFiles.{File, readable}
use Rattle.jshow.specs.declared.refusal.Refusal.{Refusal}
use Rattle.jtasks.specs.declared.jstages.halt.Halt.{Halt}
use Rattle.jtasks.specs.declared.jstages.halt.Halt.TheVariants as halts

-- Why there is nothing to do: a file that is to be read isn't there or is too long, or something is refused.
pub data Stopped : Type 0 where
  Missing : Stopped
  Refused : Refusal → Stopped

abbrev pub found : {A : Type 0} → Option A → Result A Stopped
found o = ok_or o Missing

abbrev pub judged : {A : Type 0} → Refusal → Option A → Result A Stopped
judged refusal o = ok_or o (Refused refusal)

-- the bytes at a path
abbrev pub bytes_at : List File → List ℕ → Result (List ℕ) Stopped
bytes_at files path = found (readable files path)

-- ---- what a call answers

-- The call's value or refusal is this one; a fault of reading, and want of memory, say nothing of it.
abbrev pub Halts : {Y : Type 0} → Halt → Result Y Stopped → Type 0
Halts halts.Read value = Unit {0}
Halts halts.Memory value = Unit {0}
Halts (halts.Refused refusal) value = value ≡ Err (Refused refusal)

abbrev pub Follows : {X Y : Type 0} → (X → Y) → Result X Halt → Result Y Stopped → Type 0
Follows view (Ok x) value = value ≡ Ok (view x)
Follows view (Err halt) value = Halts halt value

-- The files are told, and one that is to be read is missing or too long.
abbrev pub Misses : {Y : Type 0} → Option (List File) → (List File → Result Y Stopped) → Type 0
Misses held value = (files : List File) × (held ≡ Some files) × (value files ≡ Err Missing)

-- A fault of reading is answered only where one was counted, or where a file that is to be read is missing or too long.
abbrev pub Excused : {X Y : Type 0} → Result X Halt → ℕ → ℕ → Option (List File) → (List File → Result Y Stopped) → Type 0
Excused result before now held value = result ≡ Err halts.Read → Rose before now ⊎ Misses held value
