-- How constructs begin: which tokens stand at their front.
use Rattle.std.proofs.Common.{◌≡◌, ℕ, suc, ◌<◌, Bool, true, false, eqb, List, [], ◌∷◌, ◌++◌, length, map, ◌+◌, length-append, Option, refl, ap, ◌∙◌, append_assoc, arith}
use Rattle.std.specs.Char.{to_ascii_lowercase}
use Rattle.std.specs.Str.{bytes_eq}
use Rattle.jground.specs.jtext.Texts.{same_ignoring_case}
use Rattle.std.proofs.lemmas.Bool.{eqb-true}
use Rattle.std.proofs.lemmas.Slice.Eq.{bytes_eq-Decides}
use Rattle.jpolicy.specs.declared.token.Token.{Token}
use Rattle.jpolicy.specs.declared.token.Token.TheVariants.{Word, Text, Mark, Bad}
use Rattle.jpolicy.specs.declared.token.Placed.{Placed}
use Rattle.jpolicy.specs.declared.keyword.Keyword.{Keyword}
use Rattle.jpolicy.specs.declared.keyword.Keyword.TheVariants as keywords
use Rattle.jpolicy.specs.Expansion.{Properties}
use Rattle.jpolicy.specs.Productions.{next, is_mark, is_text, is_keyword, names_principal, spelling}
use Rattle.jpolicy.specs.ProofNames.{is_word}
use Rattle.jpolicy.specs.Grammar.{Grammar, Nothing, One, Texted, ◌▹◌, Begins}
use Rattle.jpolicy.proofs.FirmParsers.{Seen, plain, word_blind, text_blind}
use Rattle.jpolicy.proofs.ExactParsers.{front_of}

-- ---- a token that passes a test

some_one : (test : Token → Bool) (token : Token) → test token ≡ true → Begins (One test) []
some_one test token hit = (record { left = 0; token = token } ∷ [], tt, (record { left = 0; token = token }, refl, hit))

mark_blind : (c : ℕ) (k : Token) → is_mark c (plain k) ≡ is_mark c k
mark_blind c (Word units) = refl
mark_blind c (Text units) = refl
mark_blind c (Mark d) = refl
mark_blind c Bad = refl

pub seen_mark : (c : ℕ) → eqb c c ≡ true → Seen (is_mark c)
seen_mark c same = record { there = some_one (is_mark c) (Mark c) same; blind = mark_blind c }

pub seen_word : Seen is_word
seen_word = record { there = some_one is_word (Word []) refl; blind = word_blind }

pub seen_text : Seen is_text
seen_text = record { there = some_one is_text (Text []) refl; blind = text_blind }

name_blind : (k : Token) → names_principal (plain k) ≡ names_principal k
name_blind (Word units) = refl
name_blind (Text units) = refl
name_blind (Mark d) = refl
name_blind Bad = refl

pub seen_name : Seen names_principal
seen_name = record { there = some_one names_principal (Text []) refl; blind = name_blind }

spelled : (w : Keyword) → is_keyword w (Word (spelling w)) ≡ true
spelled keywords.Grant = refl
spelled keywords.CodeBase = refl
spelled keywords.SignedBy = refl
spelled keywords.Principal = refl
spelled keywords.Permission = refl
spelled keywords.Keystore = refl
spelled keywords.PasswordUrl = refl

keyword_blind : (w : Keyword) (k : Token) → is_keyword w (plain k) ≡ is_keyword w k
keyword_blind w (Word units) = refl
keyword_blind w (Text units) = refl
keyword_blind w (Mark d) = refl
keyword_blind w Bad = refl

pub seen_keyword : (w : Keyword) → Seen (is_keyword w)
seen_keyword w = record { there = some_one (is_keyword w) (Word (spelling w)) (spelled w); blind = keyword_blind w }

-- ---- tokens that pass one test alone

pub marks_apart : (c d : ℕ) → eqb c d ≡ false → (k : Token) → is_mark c k ≡ true → is_mark d k ≡ false
marks_apart c d apart (Mark x) h = ap (λ y. eqb y d) (eqb-true x c h) ∙ apart
marks_apart c d apart (Word u) h = absurd cc
marks_apart c d apart (Text u) h = absurd cc
marks_apart c d apart Bad h = absurd cc

pub mark_no_keyword : (c : ℕ) (w : Keyword) (k : Token) → is_mark c k ≡ true → is_keyword w k ≡ false
mark_no_keyword c w (Mark x) h = refl
mark_no_keyword c w (Word u) h = absurd cc
mark_no_keyword c w (Text u) h = absurd cc
mark_no_keyword c w Bad h = absurd cc

pub mark_no_text : (c : ℕ) (k : Token) → is_mark c k ≡ true → is_text k ≡ false
mark_no_text c (Mark x) h = refl
mark_no_text c (Word u) h = absurd cc
mark_no_text c (Text u) h = absurd cc
mark_no_text c Bad h = absurd cc

pub mark_no_word : (c : ℕ) (k : Token) → is_mark c k ≡ true → is_word k ≡ false
mark_no_word c (Mark x) h = refl
mark_no_word c (Word u) h = absurd cc
mark_no_word c (Text u) h = absurd cc
mark_no_word c Bad h = absurd cc

pub keyword_no_mark : (w : Keyword) (c : ℕ) (k : Token) → is_keyword w k ≡ true → is_mark c k ≡ false
keyword_no_mark w c (Word u) h = refl
keyword_no_mark w c (Mark x) h = absurd cc
keyword_no_mark w c (Text u) h = absurd cc
keyword_no_mark w c Bad h = absurd cc

pub keyword_no_text : (w : Keyword) (k : Token) → is_keyword w k ≡ true → is_text k ≡ false
keyword_no_text w (Word u) h = refl
keyword_no_text w (Mark x) h = absurd cc
keyword_no_text w (Text u) h = absurd cc
keyword_no_text w Bad h = absurd cc

pub keywords_apart : (v w : Keyword) → same_ignoring_case (spelling v) (spelling w) ≡ false → (k : Token) → is_keyword v k ≡ true → is_keyword w k ≡ false
keywords_apart v w apart (Word u) h = ap (λ (x : List ℕ). bytes_eq x (map to_ascii_lowercase (spelling w))) ((bytes_eq-Decides (map to_ascii_lowercase u) (map to_ascii_lowercase (spelling v))).0 h) ∙ apart
keywords_apart v w apart (Mark x) h = absurd cc
keywords_apart v w apart (Text u) h = absurd cc
keywords_apart v w apart Bad h = absurd cc

-- ---- constructs that begin with one token

pub begins : {A : Type 0} (test other : Token → Bool) (R : Grammar A) → ((k : Token) → test k ≡ true → other k ≡ false) → (front : List Placed) (a : A) (rest : List Placed) → (One test ▹ λ _. R) front a → next other (front ++ rest) ≡ false
begins test other R apart front a rest d = let p = front_of test R front a rest d in ap (next other) p.2 ∙ apart p.0.token p.3

pub begins_so : {A : Type 0} (test : Token → Bool) (R : Grammar A) (front : List Placed) (a : A) (rest : List Placed) → (One test ▹ λ _. R) front a → next test (front ++ rest) ≡ true
begins_so test R front a rest d = let p = front_of test R front a rest d in ap (next test) p.2 ∙ p.3

pub begins_some : {A : Type 0} (test : Token → Bool) (R : Grammar A) (front : List Placed) (a : A) → (One test ▹ λ _. R) front a → 0 < length front
begins_some test R front a d =
    let cut : length front ≡ suc (length d.2) = ap length (d.3 ∙ ap (λ (x : List Placed). x ++ d.2) d.4.1) in
    omega arith

-- the same of a construct that begins with another one
pub deeper : {A B : Type 0} (other : Token → Bool) (b : Bool) (R : Grammar A) (S : A → Grammar B) → ((front : List Placed) (a : A) (rest : List Placed) → R front a → next other (front ++ rest) ≡ b) → (front : List Placed) (v : B) (rest : List Placed) → (R ▹ S) front v → next other (front ++ rest) ≡ b
deeper other b R S h front v rest d = ap (next other) (ap (λ (x : List Placed). x ++ rest) d.3 ∙ append_assoc d.1 d.2 rest) ∙ h d.1 d.0 (d.2 ++ rest) d.4

pub deeper_some : {A B : Type 0} (R : Grammar A) (S : A → Grammar B) → ((front : List Placed) (a : A) → R front a → 0 < length front) → (front : List Placed) (v : B) → (R ▹ S) front v → 0 < length front
deeper_some {A} {B} R S h front v d =
    let some : 0 < length d.1 = h d.1 d.0 d.4 in
    let both : length front ≡ length d.1 + length d.2 = ap length d.3 ∙ length-append d.1 d.2 in
    omega arith

-- ---- constructs that begin with a string

pub text_begins : {B : Type 0} (properties : Properties) (other : Token → Bool) (b : Bool) (S : Option (List ℕ) → Grammar B) → ((units : List ℕ) → other (Text units) ≡ b) → (front : List Placed) (v : B) (rest : List Placed) → (Texted properties ▹ S) front v → next other (front ++ rest) ≡ b
text_begins properties other b S h front v rest d =
    ap (next other) (ap (λ (x : List Placed). x ++ rest) (d.3 ∙ ap (λ (x : List Placed). x ++ d.2) d.4.2)) ∙ ap other d.4.3 ∙ h d.4.1

-- what follows nothing
pub nothing_first : {A : Type 0} (F : List Placed → Type 0) (a : A) (front : List Placed) (b : A) (rest : List Placed) → Nothing a front b → F rest → F (front ++ rest)
nothing_first F a front b rest d follow = rw d.0 follow

pub next_apart : (test other : Token → Bool) → ((k : Token) → test k ≡ true → other k ≡ false) → (rest : List Placed) → next test rest ≡ true → next other rest ≡ false
next_apart test other apart [] h = absurd cc
next_apart test other apart (t ∷ ts) h = apart t.token h

-- a keyword is a word
pub worded : (other : Token → Bool) → ((u : List ℕ) → other (Word u) ≡ false) → (w : Keyword) (k : Token) → is_keyword w k ≡ true → other k ≡ false
worded other h w (Word u) e = h u
worded other h w (Mark x) e = absurd cc
worded other h w (Text u) e = absurd cc
worded other h w Bad e = absurd cc
