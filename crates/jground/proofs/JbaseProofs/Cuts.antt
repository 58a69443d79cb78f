-- A text went out, or a front of it.
use Rattle.std.proofs.Common.{◌≡◌, ℕ, ◌+◌, List, [], ◌++◌, take, drop, Option, Some, None, refl, sym, ap, ◌∙◌, append_assoc}
use Rattle.std.proofs.lemmas.List.{take-append-drop, append-nil}
use Rattle.std.proofs.Math.Seq.{take-add}
use Rattle.jground.specs.jbase.FaultCauses.{appended, IsCut}

pub appended_nil : (old : Option (List ℕ)) → appended old [] ≡ old
appended_nil None = refl
appended_nil (Some told) = ap (λ (x : List ℕ). Some x) (append-nil told)

pub appended_both : (old : Option (List ℕ)) (a b : List ℕ) → appended (appended old a) b ≡ appended old (a ++ b)
appended_both None a b = refl
appended_both (Some told) a b = ap (λ (x : List ℕ). Some x) (append_assoc told a b)

appended_front : (known : Option (List ℕ)) (w n : ℕ) (piece : List ℕ) → appended (appended known (take w piece)) (take n (drop w piece)) ≡ appended known (take (w + n) piece)
appended_front known w n piece = appended_both known (take w piece) (take n (drop w piece)) ∙ ap (appended known) (sym (take-add w n piece))

-- what was put before, and then a front of the rest
pub appended_next : (old mid new : Option (List ℕ)) (w n : ℕ) (piece rest : List ℕ) → rest ≡ drop w piece → mid ≡ appended old (take w piece) → new ≡ appended mid (take n rest) → new ≡ appended old (take (w + n) piece)
appended_next old mid new w n piece rest r m h = h ∙ ap (λ k. appended k (take n rest)) m ∙ ap (λ (x : List ℕ). appended (appended old (take w piece)) (take n x)) r ∙ appended_front old w n piece

-- a text, and then the next
pub then_whole : (old mid new : Option (List ℕ)) (a b : List ℕ) → mid ≡ appended old a → new ≡ appended mid b → new ≡ appended old (a ++ b)
then_whole old mid new a b m h = h ∙ ap (λ k. appended k b) m ∙ appended_both old a b

-- so many bytes of a text went out
pub cut_at : (old new : Option (List ℕ)) (text : List ℕ) (w : ℕ) → new ≡ appended old (take w text) → IsCut old new text
cut_at old new text w h = (take w text, drop w text, sym (take-append-drop w text), h)

-- nothing went out
pub cut_none : (old : Option (List ℕ)) (text : List ℕ) → IsCut old old text
cut_none old text = ([], text, refl, sym (appended_nil old))

-- all of a text went out, and nothing of the next
pub cut_whole : (old new : Option (List ℕ)) (a b : List ℕ) → new ≡ appended old a → IsCut old new (a ++ b)
cut_whole old new a b h = (a, b, refl, h)

-- all of it went out
pub cut_end : (old new : Option (List ℕ)) (a : List ℕ) → new ≡ appended old a → IsCut old new a
cut_end old new a h = (a, [], sym (append-nil a), h)

-- a whole text, and then a front of the next
pub cut_then : (old mid new : Option (List ℕ)) (a b : List ℕ) → mid ≡ appended old a → IsCut mid new b → IsCut old new (a ++ b)
cut_then old mid new a b m h = (a ++ h.0, h.1, ap (λ (x : List ℕ). a ++ x) h.2 ∙ sym (append_assoc a h.0 h.1), h.3 ∙ ap (λ k. appended k h.0) m ∙ appended_both old a h.0)

-- a front of a text is a front of a longer one
pub cut_more : (old new : Option (List ℕ)) (a b : List ℕ) → IsCut old new a → IsCut old new (a ++ b)
cut_more old new a b h = (h.0, h.1 ++ b, ap (λ (x : List ℕ). x ++ b) h.2 ∙ append_assoc h.0 h.1 b, h.3)
