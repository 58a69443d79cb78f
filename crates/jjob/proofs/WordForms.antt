-- What a word looks like to the parser of command lines, and to our definition.
use Rattle.std.proofs.Common.{◌≡◌, ◌∙◌, ◌==◌, ◌+◌, ℕ, suc, Bool, true, false, ◌||◌, refl, sym, ap, subst, arith, true≢false, eqb-true, List, [], ◌∷◌, ◌++◌, take, drop, take-append-drop, Option, Some, None, codes, bytes_eq, slice_get, encode_utf8_all, IsUtf8}
use Rattle.std.specs.List.{after_first, before_first, position_or_len}
use Rattle.std.specs.Str.{chars, is_utf8}
use Rattle.std.specs.Char.{encode_utf8}
use Rattle.std.proofs.lemmas.Slice.Eq.{bytes_eq-Decides}
use Rattle.std.proofs.lemmas.Str.{is_utf8-from_IsUtf8}
use Rattle.clap.specs.Lexer.{has_byte, long_of, short_of}
use Rattle.clap.proofs.WalkLemmas.{both}
use Rattle.jjob.specs.CommandWords.{Word, attached, is_flag}

-- what our definition asks of a word
abbrev Asked : Word → Bool → Bool → Option Word → Bool → Type 0
Asked w dashes form value flag =
    (bytes_eq w (codes "--") ≡ dashes) × (bytes_eq w (codes "--form") ≡ form) × (attached w ≡ value) × (is_flag w ≡ flag)

pub data Looks (w : Word) : Type 0 where
  -- `--`
  dashes : bytes_eq w (codes "--") ≡ true → is_flag w ≡ true → Looks w
  -- `--form`
  named : Asked w false true None true → long_of w ≡ Some (codes "form", None) → Looks w
  -- `--form=v`
  valued : (v : Word) → Asked w false false (Some v) true → long_of w ≡ Some (codes "form", Some v) → Looks w
  -- `--name` or `--name=v` of another name
  long : (name : Word) (v : Option Word) → Asked w false false None true → long_of w ≡ Some (name, v) → bytes_eq (codes "form") name ≡ false → Looks w
  -- `-abc`, whose first character is c
  short : (b : ℕ) (bs : Word) (c : ℕ) → Asked w false false None true → long_of w ≡ None → short_of w ≡ Some (b ∷ bs) → slice_get (chars (b ∷ bs)) 0 ≡ Some c → Looks w
  -- a word that is no option
  plain : Asked w false false None false → long_of w ≡ None → short_of w ≡ None → Looks w

abbrev is_equals : ℕ → Bool
is_equals x = x == 61

-- a text with `=` is cut at its first one
cut : (t : Word) → has_byte 61 t ≡ true → t ≡ before_first is_equals t ++ 61 ∷ after_first is_equals t
cut [] e = absurd (true≢false (sym e))
cut (x ∷ xs) e = go (x == 61) refl (cut xs)
  where
    more : 1 + position_or_len is_equals xs ≡ suc (position_or_len is_equals xs)
    more = omega arith

    past : suc (position_or_len is_equals xs) + 1 ≡ suc (position_or_len is_equals xs + 1)
    past = omega arith

    go : (t : Bool) → (x == 61) ≡ t → (has_byte 61 xs ≡ true → xs ≡ before_first is_equals xs ++ 61 ∷ after_first is_equals xs)
        → x ∷ xs ≡ before_first is_equals (x ∷ xs) ++ 61 ∷ after_first is_equals (x ∷ xs)
    go true t next = rw t (ap (λ y. y ∷ xs) (eqb-true _ _ t))
    go false t next =
        let rest : has_byte 61 xs ≡ true = rw t at e in
        rw (t, more, past) (ap (λ ys. x ∷ ys) (next rest))

-- a text without is whole before it
whole : (t : Word) → has_byte 61 t ≡ false → before_first is_equals t ≡ t
whole [] e = refl
whole (x ∷ xs) e = go (x == 61) refl (whole xs)
  where
    more : 1 + position_or_len is_equals xs ≡ suc (position_or_len is_equals xs)
    more = omega arith

    go : (t : Bool) → (x == 61) ≡ t → (has_byte 61 xs ≡ false → before_first is_equals xs ≡ xs) → before_first is_equals (x ∷ xs) ≡ x ∷ xs
    go true t next = absurd (true≢false (sym (ap (λ b. b || has_byte 61 xs) t) ∙ e))
    go false t next =
        let rest : has_byte 61 xs ≡ false = rw t at e in
        rw (t, more) (ap (λ ys. x ∷ ys) (next rest))

pub same : (v w : Word) → bytes_eq v w ≡ true → v ≡ w
same v w e = (bytes_eq-Decides v w).0 e

-- another name is no `--form`
module _ (t : Word) (other : bytes_eq (codes "form") (before_first is_equals t) ≡ false) where
  not_named : bytes_eq (45 ∷ 45 ∷ t) (codes "--form") ≡ false
  not_named = go (bytes_eq (45 ∷ 45 ∷ t) (codes "--form")) refl
    where
      go : (b : Bool) → bytes_eq (45 ∷ 45 ∷ t) (codes "--form") ≡ b → bytes_eq (45 ∷ 45 ∷ t) (codes "--form") ≡ false
      go false e = e
      go true e =
          let is : 45 ∷ 45 ∷ t ≡ codes "--form" = same _ _ e in
          absurd (true≢false (sym (ap (λ u. bytes_eq (codes "form") (before_first is_equals (drop 2 u))) is) ∙ other))

  not_valued : attached (45 ∷ 45 ∷ t) ≡ None
  not_valued = go (bytes_eq (take 7 (45 ∷ 45 ∷ t)) (codes "--form=")) refl
    where
      go : (b : Bool) → bytes_eq (take 7 (45 ∷ 45 ∷ t)) (codes "--form=") ≡ b → attached (45 ∷ 45 ∷ t) ≡ None
      go false e = rw e refl
      go true e =
          let is : 45 ∷ 45 ∷ t ≡ codes "--form=" ++ drop 7 (45 ∷ 45 ∷ t) =
          sym (take-append-drop 7 (45 ∷ 45 ∷ t)) ∙ ap (λ (u : Word). u ++ drop 7 (45 ∷ 45 ∷ t)) (same (take 7 (45 ∷ 45 ∷ t)) (codes "--form=") e) in
          absurd (true≢false (sym (ap (λ u. bytes_eq (codes "form") (before_first is_equals (drop 2 u))) is) ∙ other))

-- behind two dashes
behind_two : (x : ℕ) (xs : Word) → Looks (45 ∷ 45 ∷ x ∷ xs)
behind_two x xs = go (bytes_eq (codes "form") (before_first is_equals (x ∷ xs))) refl
  where
    go : (b : Bool) → bytes_eq (codes "form") (before_first is_equals (x ∷ xs)) ≡ b → Looks (45 ∷ 45 ∷ x ∷ xs)
    go false other = long _ _ (refl, not_named (x ∷ xs) other, not_valued (x ∷ xs) other, refl) refl other
    go true e = by (has_byte 61 (x ∷ xs)) refl
      where
        form : before_first is_equals (x ∷ xs) ≡ codes "form"
        form = sym (same _ _ e)

        by : (b : Bool) → has_byte 61 (x ∷ xs) ≡ b → Looks (45 ∷ 45 ∷ x ∷ xs)
        by false none =
            let is : codes "--form" ≡ 45 ∷ 45 ∷ x ∷ xs = ap (λ u. 45 ∷ 45 ∷ u) (sym form ∙ whole (x ∷ xs) none) in
            subst Looks is (named (refl, refl, refl, refl) refl)
        by true some =
            let is : codes "--form=" ++ after_first is_equals (x ∷ xs) ≡ 45 ∷ 45 ∷ x ∷ xs =
            ap (λ u. 45 ∷ 45 ∷ u) (sym (cut (x ∷ xs) some ∙ ap (λ u. u ++ 61 ∷ after_first is_equals (x ∷ xs)) form)) in
            subst Looks is (valued (after_first is_equals (x ∷ xs)) (refl, refl, refl, refl) refl)

-- what is UTF-8 has a character behind its first dash, if it has a byte there
first_char : (x : ℕ) (xs : Word) → IsUtf8 (45 ∷ x ∷ xs) → (c : ℕ) × (slice_get (chars (x ∷ xs)) 0 ≡ Some c)
unfolding chars is_utf8 encode_utf8
first_char x xs u = go (chars (x ∷ xs)) refl
  where
    go : (cs : List ℕ) → chars (x ∷ xs) ≡ cs → (c : ℕ) × (slice_get (chars (x ∷ xs)) 0 ≡ Some c)
    go [] e =
        let spelled : bytes_eq (encode_utf8_all (45 ∷ chars (x ∷ xs))) (45 ∷ x ∷ xs) ≡ true = (both _ _ (is_utf8-from_IsUtf8 _ u)).1 in
        absurd (true≢false (sym spelled ∙ ap (λ cs. bytes_eq (encode_utf8_all (45 ∷ cs)) (45 ∷ x ∷ xs)) e))
    go (c ∷ cs) e = (c, ap (λ l. slice_get l 0) e)

-- each word that is UTF-8 looks so
pub looks : (w : Word) → IsUtf8 w → Looks w
looks [] u = plain (refl, refl, refl, refl) refl refl
looks (b ∷ []) u = go (b == 45) refl
  where
    go : (t : Bool) → (b == 45) ≡ t → Looks (b ∷ [])
    go true t = plain (rw t refl, rw t refl, rw t refl, refl) (rw t refl) (rw t refl)
    go false t = plain (rw t refl, rw t refl, rw t refl, refl) (rw t refl) (rw t refl)
looks (b ∷ c ∷ bs) u = go (b == 45) refl
  where
    go : (t : Bool) → (b == 45) ≡ t → Looks (b ∷ c ∷ bs)
    go false t = plain (rw t refl, rw t refl, rw t refl, t) (rw t refl) (rw t refl)
    go true t = subst (λ d. Looks (d ∷ c ∷ bs)) (sym (eqb-true _ _ t)) (dash c bs (subst (λ d. IsUtf8 (d ∷ c ∷ bs)) (eqb-true _ _ t) u))
      where
        two : (bs : Word) → Looks (45 ∷ 45 ∷ bs)
        two [] = dashes refl refl
        two (x ∷ xs) = behind_two x xs

        dash : (c : ℕ) (bs : Word) → IsUtf8 (45 ∷ c ∷ bs) → Looks (45 ∷ c ∷ bs)
        dash c bs u = at (c == 45) refl
          where
            at : (t : Bool) → (c == 45) ≡ t → Looks (45 ∷ c ∷ bs)
            at true t = subst (λ d. Looks (45 ∷ d ∷ bs)) (sym (eqb-true _ _ t)) (two bs)
            at false t =
                let first = first_char c bs u in
                short c bs first.0 (rw t refl, rw t refl, rw t refl, refl) (rw t refl) (rw t refl) first.1
