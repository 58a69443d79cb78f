-- Going along code sources, as a loop does that may halt.
use Rattle.std.proofs.Common.{◌≡◌, ◌⊎◌, ℕ, ◌<◌, ◌≤◌, List, length, get_or, drop, Option, Some, Result, Err, sym, ◌∙◌, inl, inr, arith}
use Rattle.jground.specs.jbase.FaultCauses.{Rose}
use Rattle.joutput.specs.jio.ShelfFiles.{File}
use Rattle.jground.specs.declared.jbase.fault_or_memory.FaultOrMemory.TheVariants as stops
use Rattle.jground.specs.jbase.ListMaps.{each}
use Rattle.jground.proofs.JbaseProofs.Loops.{behind, each_fails}
use Rattle.jtasks.specs.declared.jstages.halt.Halt.{Halt}
use Rattle.jtasks.specs.declared.jstages.halt.Halt.TheVariants as halts
use Rattle.jtasks.specs.jstages.Stages.{Stopped, Missing, Refused, Halts, Misses}

pub each_halts : {A B : Type 0} (f : A → Result B Stopped) (done : List B) (xs : List A) (i : ℕ) (x : A) (halt : Halt) (total : Result (List B) Stopped) → i < length xs → x ≡ get_or xs i x → Halts halt (f x) → behind done (each f (drop i xs)) ≡ total → Halts halt total
each_halts f done xs i x halts.Read total lt is h so_far = tt
each_halts f done xs i x halts.Memory total lt is h so_far = tt
each_halts f done xs i x (halts.Refused refusal) total lt is h so_far = each_fails f done xs i x (stops.Fault (Refused refusal)) total lt is h so_far

pub each_misses : {A B : Type 0} (f : A → Result B Stopped) (done : List B) (xs : List A) (i : ℕ) (x : A) (total : Result (List B) Stopped) → i < length xs → x ≡ get_or xs i x → f x ≡ Err Missing → behind done (each f (drop i xs)) ≡ total → total ≡ Err Missing
each_misses f done xs i x total lt is h so_far = each_fails f done xs i x (stops.Fault Missing) total lt is h so_far

-- the count rose in this read or before, or a file is missing
pub rose_or_misses : {A B : Type 0} (f : List File → A → Result B Stopped) (before between now : ℕ) (told later : Option (List File)) (done : List B) (xs : List A) (i : ℕ) (x : A) → before ≤ between → later ≡ told → i < length xs → x ≡ get_or xs i x
    → ((files : List File) → told ≡ Some files → behind done (each (f files) (drop i xs)) ≡ each (f files) xs) → Rose between now ⊎ Misses later (λ files. f files x) → Rose before now ⊎ Misses told (λ files. each (f files) xs)
rose_or_misses f before between now told later done xs i x le same lt is so_far (inl rose) = inl (omega arith)
rose_or_misses f before between now told later done xs i x le same lt is so_far (inr m) =
    let held : told ≡ Some m.0 = sym same ∙ m.1 in
    inr (m.0, held, each_misses (f m.0) done xs i x (each (f m.0) xs) lt is m.2 (so_far m.0 held))

abbrev pub halted : (A : Type 0) → Halt → Result A Halt
halted A halt = Err halt

pub err_is : {A : Type 0} (a b : Halt) → halted A a ≡ halted A b → a ≡ b
err_is a b e = cc
