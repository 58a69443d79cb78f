-- Each step of a walk over characters or units leaves fewer of them.
use Rattle.std.proofs.Common.{◌≡◌, ℕ, ◌+◌, ◌≤◌, ◌<◌, Bool, true, false, cond, ◌&&◌, ◌||◌, eqb, List, [], ◌∷◌, ◌++◌, length, take, drop, Option, Some, None, Ok, Err, refl, ap, subst, inl, inr, arith}
use Rattle.std.specs.Prelude.{position}
use Rattle.std.specs.Str.{byte}
use Rattle.std.specs.Char.Escape.{encode_utf16}
use Rattle.std.specs.List.{prefix_len, position_or_len}
use Rattle.std.specs.Option.{ok_or}
use Rattle.std.proofs.lemmas.List.{length-drop}
use Rattle.jground.specs.jbase.MemoryFailures.{◌>>=◌}
use Rattle.jpolicy.specs.declared.token.Token.TheVariants.{Mark}
use Rattle.jpolicy.specs.declared.token.Placed.{Placed}
use Rattle.jpolicy.specs.Characters.{is_mark, is_word_character, ends_line, is_octal, is_gap}
use Rattle.jpolicy.specs.Strings.{Part, meant, escape_at, character_at, at_quote, one_more, behind_quote, string_at}
use Rattle.jpolicy.specs.Tokens.{Lexeme, token, gap, bad, behind_comment, closed, comment_at, word_at, lexeme_at, with_lexeme, more_at}
use Rattle.jpolicy.specs.ProofNames.{quoted, closes}
use Rattle.jpolicy.specs.Expansion.{Properties, value_of, named_up_to, piece_at, one_piece}
use Rattle.jpolicy.specs.ListWalks.{Ends, none_left, walk}
use Rattle.jpolicy.proofs.ListWalks.{Shrinks, bind_ok, chosen, walk_ends, walk_no_more}

-- what holds of both sides of a choice
either : {X : Type 0} (P : X → Type 0) (b : Bool) (l r : X) → (b ≡ true → P l) → (b ≡ false → P r) → P (cond b l r)
either P true l r yes_so no_so = yes_so refl
either P false l r yes_so no_so = no_so refl

dropped : {A : Type 0} (n : ℕ) (xs : List A) → length (drop n xs) ≤ length xs
dropped n xs = let cut = length-drop n xs in omega arith

-- ---- strings

-- what is left is shorter than the text
abbrev Less : {A : Type 0} → List ℕ → Part A → Type 0
Less text (Ok x) = length x.1 < length text
Less text (Err e) = Unit {0}

escape_less : (text : List ℕ) → Less text (escape_at text)
escape_less [] = tt
escape_less (c ∷ cs) = either (Less (c ∷ cs)) (ends_line c || is_octal c) (Err tt) (Ok (meant c, cs)) (λ e. tt) (λ e. (omega arith))

wider : {A : Type 0} (c : ℕ) (cs : List ℕ) (r : Part A) → Less cs r → Less (c ∷ cs) r
wider c cs (Ok x) h = omega arith
wider c cs (Err e) h = tt

character_less : (text : List ℕ) → Less text (character_at text)
unfolding character_at
character_less [] = tt
character_less (c ∷ cs) = either (Less (c ∷ cs)) (ends_line c) (Err tt) (cond (eqb c (byte "\\")) (escape_at cs) (Ok (c, cs))) (λ e. tt) (λ e.
    either (Less (c ∷ cs)) (eqb c (byte "\\")) (escape_at cs) (Ok (c, cs)) (λ f. wider c cs (escape_at cs) (escape_less cs)) (λ f. (omega arith)))

is_less : {A : Type 0} (text : List ℕ) (r : Part A) (x : A × List ℕ) → Less text r → r ≡ Ok x → length x.1 < length text
is_less {A} text r x h e = subst (λ (q : Part A). Less text q) e h

string_shrinks : Shrinks at_quote one_more
string_shrinks units text x on e =
    let b = bind_ok (character_at text) (λ y. Ok (units ++ encode_utf16 y.0, y.1)) x e in
    let less : length b.0.1 < length text = is_less text (character_at text) b.0 (character_less text) b.1 in
    let same : b.0.1 ≡ x.1 = let h = b.2 in cc in
    subst (λ (cs : List ℕ). length cs < length text) same less

pub string_ends : (text : List ℕ) → Ends at_quote (walk at_quote one_more (length text) [] text)
string_ends text = walk_ends at_quote one_more string_shrinks (length text) [] text (walk at_quote one_more (length text) [] text) (omega arith) refl

quote_rest : (text : List ℕ) (x : Unit {0} × List ℕ) → behind_quote text ≡ Ok x → length x.1 ≤ length text
quote_rest [] x e = absurd cc
quote_rest (c ∷ cs) x e = elim (chosen (eqb c (byte "\"")) (Ok (tt, cs)) (Err tt) (Ok x) e) [
  | inl hit ↦ (let h = hit.1 in let same : cs ≡ x.1 = cc in subst (λ (rest : List ℕ). length rest ≤ length (c ∷ cs)) same (omega arith))
  | inr miss ↦ absurd (let h = miss.1 in cc)
]

string_rest : (text units rest : List ℕ) → string_at text ≡ Ok (units, rest) → length rest ≤ length text
unfolding string_at
string_rest text units rest e =
    let b = bind_ok (walk at_quote one_more (length text) [] text) (λ x. behind_quote x.1 >>= λ y. Ok (x.0, y.1)) (units, rest) e in
    let c = bind_ok (behind_quote b.0.1) (λ y. Ok (b.0.0, y.1)) (units, rest) b.2 in
    let within : length b.0.1 ≤ length text = walk_no_more at_quote one_more string_shrinks (length text) [] text b.0 b.1 in
    let less : length c.0.1 ≤ length b.0.1 = quote_rest b.0.1 c.0 c.1 in
    let pair : (b.0.0, c.0.1) ≡ (units, rest) = let h = c.2 in cc in
    subst (λ (cs : List ℕ). length cs ≤ length text) (ap (λ (x : List ℕ × List ℕ). x.1) pair) (omega arith)

-- ---- tokens

-- what is left behind the first character is no longer than what stood there
abbrev Within : List ℕ → Lexeme → Type 0
Within cs x = length x.1 ≤ length cs

comment_rest : (text : List ℕ) → Within text (closed (behind_comment text))
unfolding behind_comment
comment_rest [] = omega arith
comment_rest (c ∷ []) = omega arith
comment_rest (c ∷ d ∷ cs) = either (λ (r : Option (List ℕ)). Within (c ∷ d ∷ cs) (closed r)) (eqb c (byte "*") && eqb d (byte "/")) (Some cs) (behind_comment (d ∷ cs)) (λ e. (omega arith)) (λ e.
    (let more : length (closed (behind_comment (d ∷ cs))).1 ≤ length (d ∷ cs) = comment_rest (d ∷ cs) in omega arith))

comment_within : (cs : List ℕ) → Within cs (comment_at cs)
unfolding comment_at
comment_within [] = omega arith
comment_within (c ∷ cs) = either (Within (c ∷ cs)) (eqb c (byte "/")) (gap (drop (position_or_len ends_line cs) cs)) (cond (eqb c (byte "*")) (closed (behind_comment cs)) bad)
    (λ e. (let less = dropped (position_or_len ends_line cs) cs in omega arith))
    (λ e. either (Within (c ∷ cs)) (eqb c (byte "*")) (closed (behind_comment cs)) bad (λ f. (let less : length (closed (behind_comment cs)).1 ≤ length cs = comment_rest cs in omega arith)) (λ f. (omega arith)))

quoted_within : (cs : List ℕ) (r : Part (List ℕ)) → string_at cs ≡ r → Within cs (quoted r)
quoted_within cs (Ok (units, rest)) e = string_rest cs units rest e
quoted_within cs (Err d) e = omega arith

word_within : (c : ℕ) (cs : List ℕ) → is_word_character c ≡ true → Within cs (word_at (c ∷ cs))
word_within c cs is =
    let some : prefix_len is_word_character (c ∷ cs) ≡ 1 + prefix_len is_word_character cs = rw is refl in
    let cut = length-drop (prefix_len is_word_character (c ∷ cs)) (c ∷ cs) in
    omega arith

lexeme_within : (c : ℕ) (cs : List ℕ) → Within cs (lexeme_at c cs)
unfolding lexeme_at
lexeme_within c cs =
    either (Within cs) (is_gap c) (gap cs) (cond (is_mark c) (token (Mark c) cs) (cond (is_word_character c) (word_at (c ∷ cs)) (cond (eqb c (byte "\"")) (quoted (string_at cs)) (cond (eqb c (byte "/")) (comment_at cs) bad)))) (λ e. (omega arith)) (λ e.
    either (Within cs) (is_mark c) (token (Mark c) cs) (cond (is_word_character c) (word_at (c ∷ cs)) (cond (eqb c (byte "\"")) (quoted (string_at cs)) (cond (eqb c (byte "/")) (comment_at cs) bad))) (λ f. (omega arith)) (λ f.
    either (Within cs) (is_word_character c) (word_at (c ∷ cs)) (cond (eqb c (byte "\"")) (quoted (string_at cs)) (cond (eqb c (byte "/")) (comment_at cs) bad)) (λ g. word_within c cs g) (λ g.
    either (Within cs) (eqb c (byte "\"")) (quoted (string_at cs)) (cond (eqb c (byte "/")) (comment_at cs) bad) (λ h. quoted_within cs (string_at cs) refl) (λ h.
    either (Within cs) (eqb c (byte "/")) (comment_at cs) bad (λ i. comment_within cs) (λ i. (omega arith))))))

lexeme_rest : (tokens : List Placed) (left : ℕ) (l : Lexeme) (x : List Placed × List ℕ) → with_lexeme tokens left l ≡ Ok x → l.1 ≡ x.1
lexeme_rest tokens left (Some one, rest) x e = cc
lexeme_rest tokens left (None, rest) x e = cc

text_shrinks : Shrinks none_left more_at
text_shrinks tokens [] x on e = absurd cc
text_shrinks tokens (c ∷ cs) x on e =
    let less : length (lexeme_at c cs).1 ≤ length cs = lexeme_within c cs in
    let same = lexeme_rest tokens (length (c ∷ cs)) (lexeme_at c cs) x e in
    subst (λ (rest : List ℕ). length rest < length (c ∷ cs)) same (omega arith)

pub text_ends : (text : List ℕ) → Ends none_left (walk none_left more_at (length text) [] text)
text_ends text = walk_ends none_left more_at text_shrinks (length text) [] text (walk none_left more_at (length text) [] text) (omega arith) refl

-- ---- properties

named_less : (p : Properties) (written text : List ℕ) (found : Option ℕ) (u : ℕ) → length text < length (u ∷ u ∷ text) → (x : List ℕ × List ℕ) → named_up_to p written text found ≡ Ok x → length x.1 ≤ length text
named_less p written text None u room x e = let same : [] ≡ x.1 = cc in subst (λ (rest : List ℕ). length rest ≤ length text) same (omega arith)
named_less p written text (Some end) u room x e =
    let b = bind_ok (ok_or (value_of p (take end text)) tt) (λ value. Ok (value, drop (end + 1) text)) x e in
    let same : drop (end + 1) text ≡ x.1 = let h = b.2 in cc in
    subst (λ (rest : List ℕ). length rest ≤ length text) same (dropped (end + 1) text)

piece_less : (p : Properties) (text : List ℕ) (x : List ℕ × List ℕ) → none_left text ≡ false → piece_at p text ≡ Ok x → length x.1 < length text
unfolding piece_at
piece_less p [] x on e = absurd cc
piece_less p (u ∷ []) x on e = let same : [] ≡ x.1 = cc in subst (λ (rest : List ℕ). length rest < length (u ∷ [])) same (omega arith)
piece_less p (u ∷ v ∷ us) x on e = elim (chosen (eqb u (byte "$") && eqb v (byte "{")) (named_up_to p (u ∷ v ∷ us) us (position closes us)) (Ok (u ∷ [], v ∷ us)) (Ok x) e) [
  | inl hit ↦ (let less : length x.1 ≤ length us = named_less p (u ∷ v ∷ us) us (position closes us) u (omega arith) x hit.1 in omega arith)
  | inr miss ↦ (let h = miss.1 in let same : v ∷ us ≡ x.1 = cc in subst (λ (rest : List ℕ). length rest < length (u ∷ v ∷ us)) same (omega arith))
]

expansion_shrinks : (p : Properties) → Shrinks none_left (one_piece p)
expansion_shrinks p done text x on e =
    let b = bind_ok (piece_at p text) (λ y. Ok (done ++ y.0, y.1)) x e in
    let less : length b.0.1 < length text = piece_less p text b.0 on b.1 in
    let same : b.0.1 ≡ x.1 = let h = b.2 in cc in
    subst (λ (rest : List ℕ). length rest < length text) same less

pub expansion_ends : (p : Properties) (text : List ℕ) → Ends none_left (walk none_left (one_piece p) (length text) [] text)
expansion_ends p text = walk_ends none_left (one_piece p) (expansion_shrinks p) (length text) [] text (walk none_left (one_piece p) (length text) [] text) (omega arith) refl
