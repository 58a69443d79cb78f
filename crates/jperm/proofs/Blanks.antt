-- Blanks at the front and at the end of a text.
use Rattle.std.proofs.Common.{◌≡◌, ℕ, true, false, List, [], ◌∷◌, ◌++◌, length, reverse, refl, ap, ◌∙◌, arith}
use Rattle.std.proofs.lemmas.List.{reverse-append, reverse-reverse}
use Rattle.std.specs.Char.{is_ascii_whitespace}
use Rattle.jperm.specs.Actions.{behind_blanks}

pub blank_first : (text rest : List ℕ) (first : ℕ) → text ≡ first ∷ rest → is_ascii_whitespace first ≡ true → behind_blanks text ≡ behind_blanks rest
unfolding behind_blanks
blank_first text rest first e h = rw (e, h) refl

pub ink_first : (text rest : List ℕ) (first : ℕ) → text ≡ first ∷ rest → is_ascii_whitespace first ≡ false → behind_blanks text ≡ text
unfolding behind_blanks
ink_first text rest first e h = rw (e, h) refl

pub none_first : (text : List ℕ) → length text ≡ 0 → behind_blanks text ≡ text
unfolding behind_blanks
none_first [] e = refl
none_first (u ∷ us) e = absurd (omega arith)

turned : (text rest : List ℕ) (last : ℕ) → text ≡ rest ++ last ∷ [] → reverse text ≡ last ∷ reverse rest
turned text rest last e = ap reverse e ∙ reverse-append rest (last ∷ [])

pub blank_last : (text rest : List ℕ) (last : ℕ) → text ≡ rest ++ last ∷ [] → is_ascii_whitespace last ≡ true → behind_blanks (reverse text) ≡ behind_blanks (reverse rest)
blank_last text rest last e h = blank_first (reverse text) (reverse rest) last (turned text rest last e) h

pub ink_last : (text rest : List ℕ) (last : ℕ) → text ≡ rest ++ last ∷ [] → is_ascii_whitespace last ≡ false → reverse (behind_blanks (reverse text)) ≡ text
ink_last text rest last e h = ap reverse (ink_first (reverse text) (reverse rest) last (turned text rest last e) h) ∙ reverse-reverse text

pub none_last : (text : List ℕ) → length text ≡ 0 → reverse (behind_blanks (reverse text)) ≡ text
unfolding behind_blanks
none_last [] e = refl
none_last (u ∷ us) e = absurd (omega arith)

pub ruleset front = (blank_first, ink_first, none_first)

pub ruleset end = (blank_last, ink_last, none_last)
