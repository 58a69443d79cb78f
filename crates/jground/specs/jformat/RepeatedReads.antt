-- Readings over the same bytes, one after the other.
use Rattle.std.specs.Prelude.{ℕ, ◌&&◌, List, Option, Result}
use Rattle.jground.specs.jbase.MemoryFailures.{◌>>=◌}
use Rattle.jground.specs.declared.jformat.error.Fault.{Fault}
use Rattle.jground.specs.jformat.Format.{Answer, Format, passed, is_good}
use Rattle.jground.specs.jformat.BodyFormats.{Body}

-- A first pass over all bytes, and then a stricter one by what the first found.
abbrev pub passes : {K T A : Type 0} → (List ℕ → Result T (Fault K)) → (A → T) → (T → Body K A) → Body K A
passes first found later = record {
  spell = λ a. (later (found a)).spell a;
  fits = λ a. (later (found a)).fits a;
  read = λ bytes. first bytes >>= λ t. (later t).read bytes;
}

-- A looser reading first, a test of what it found, whose fault stands at the first byte, and then the strict one.
abbrev pub ahead : {K T A : Type 0} → (List ℕ → Answer K T) → (A → T) → (T → Option K) → Format K A → Format K A
ahead loose found test g = record {
  spell = g.spell;
  fits = λ a. g.fits a && is_good (test (found a));
  read = λ bytes. loose bytes >>= λ t. passed (test t.0) bytes t >>= λ _. g.read bytes;
}
