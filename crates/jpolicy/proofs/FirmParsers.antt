-- Readings that are firm: what they take is derived by the grammar, where they stop the tokens in front begin what is derived, and neither
-- depends on more than the next token behind.
use Rattle.std.proofs.Common.{◌≡◌, ℕ, zero, suc, ◌+◌, ◌-◌, ◌<◌, Bool, true, false, cond, ◌&&◌, List, [], ◌∷◌, ◌++◌, length, Option, Some, None, Result, Ok, Err, refl, sym, ap, ◌∙◌, append_assoc, subst, inl, inr, arith, length-append}
use Rattle.std.specs.Prelude.{◌⊎◌}
use Rattle.std.proofs.lemmas.List.{append-nil}
use Rattle.jground.specs.jbase.MemoryFailures.{◌>>=◌}
use Rattle.jground.specs.declared.jformat.error.Fault.{Fault}
use Rattle.jpolicy.specs.declared.token.Token.{Token}
use Rattle.jpolicy.specs.declared.token.Token.TheVariants.{Word, Text, Mark, Bad}
use Rattle.jpolicy.specs.declared.token.Placed.{Placed}
use Rattle.jpolicy.specs.declared.fault.PolicyFault.{PolicyFault}
use Rattle.jpolicy.specs.declared.fault.PolicyFault.TheVariants.{NotUtf8, Syntax, SelfExpansion}
use Rattle.jpolicy.specs.Expansion.{Properties, expanded, expands_itself}
use Rattle.jpolicy.specs.ListWalks.{walk}
use Rattle.jpolicy.specs.Productions.{Answer, fault_at, not_allowed, behind, next, one, is_text, units_of, word_at, value_of, text_at}
use Rattle.jpolicy.specs.ProofNames.{is_word}
use Rattle.jpolicy.proofs.ListWalks.{bind_ok, chosen, Shrinks}
use Rattle.jpolicy.specs.Grammar.{Grammar, Nothing, One, Worded, Texted, ◌▹◌, Either, Only, Many, Begins, NotItself, emptied}

-- ---- the next token

abbrev head : List Placed → Option Placed
head [] = None
head (t ∷ ts) = Some t

-- a token, where all strings are the same one
abbrev pub plain : Token → Token
plain (Text units) = Text []
plain token = token

abbrev pub plainly : Placed → Placed
plainly t = record { left = t.left; token = plain t.token }

-- the next token, where all strings are the same one
abbrev pub first : List Placed → Option Placed
first [] = None
first (t ∷ ts) = Some (plainly t)

some_same : (a b : Placed) → Some a ≡ Some b → a ≡ b
some_same a b e = cc

-- what a test needs: a token passes it, and it tells no string from another
pub record Seen (test : Token → Bool) : Type 0 where
  pub there : Begins (One test) []
  pub blind : (k : Token) → test (plain k) ≡ test k

pub same_next : (test : Token → Bool) → ((k : Token) → test (plain k) ≡ test k) → (xs ys : List Placed) → first xs ≡ first ys → next test xs ≡ next test ys
same_next test blind [] [] e = refl
same_next test blind [] (y ∷ ys) e = absurd cc
same_next test blind (x ∷ xs) [] e = absurd cc
same_next test blind (x ∷ xs) (y ∷ ys) e = let same : plain x.token ≡ plain y.token = ap (λ (t : Placed). t.token) (some_same (plainly x) (plainly y) e) in sym (blind x.token) ∙ ap test same ∙ blind y.token

pub same_fault : (kind : PolicyFault) (xs ys : List Placed) → first xs ≡ first ys → fault_at kind xs ≡ fault_at kind ys
same_fault kind [] [] e = refl
same_fault kind [] (y ∷ ys) e = absurd cc
same_fault kind (x ∷ xs) [] e = absurd cc
same_fault kind (x ∷ xs) (y ∷ ys) e = ap (λ (t : Placed). fault_at kind (t ∷ [])) (some_same (plainly x) (plainly y) e)

pub first_behind : (front xs ys : List Placed) → first xs ≡ first ys → first (front ++ xs) ≡ first (front ++ ys)
first_behind [] xs ys e = e
first_behind (t ∷ ts) xs ys e = refl

pub none_first : (xs : List Placed) → first xs ≡ None → xs ≡ []
none_first [] e = refl
none_first (x ∷ xs) e = absurd cc

-- what a fault of some kind depends on: the next token, and in a fault of syntax not what a string says
abbrev pub Alike : PolicyFault → List Placed → List Placed → Type 0
Alike Syntax xs ys = first xs ≡ first ys
Alike kind xs ys = head xs ≡ head ys

heads : (xs ys : List Placed) → head xs ≡ head ys → first xs ≡ first ys
heads [] [] e = refl
heads [] (y ∷ ys) e = absurd cc
heads (x ∷ xs) [] e = absurd cc
heads (x ∷ xs) (y ∷ ys) e = let same : x ≡ y = cc in ap (λ (t : Placed). first (t ∷ [])) same

pub alike_first : (kind : PolicyFault) (xs ys : List Placed) → Alike kind xs ys → first xs ≡ first ys
alike_first Syntax xs ys e = e
alike_first SelfExpansion xs ys e = heads xs ys e
alike_first NotUtf8 xs ys e = heads xs ys e

-- ---- what a firm reading does

abbrev pub Takes : {A : Type 0} → (List Placed → Answer A) → Grammar A → List Placed → A × List Placed → Type 0
Takes f R ts x = (front : List Placed) × (ts ≡ front ++ x.1) × R front x.0 × ((other : List Placed) → first other ≡ first x.1 → f (front ++ other) ≡ Ok (x.0, other))

-- what the kind of a fault says of the next token here
abbrev pub Said : {A : Type 0} → Grammar A → List Placed → List Placed → PolicyFault → Type 0
Said R front rest NotUtf8 = ⊥
Said R front rest Syntax = Unit {0}
Said R front rest SelfExpansion = NotItself R front rest

-- what begins one construct begins the other, behind some tokens
said_lift : {A B : Type 0} (R : Grammar A) (S : Grammar B) (one front rest : List Placed) (kind : PolicyFault) → ((xs : List Placed) → Begins R xs → Begins S (one ++ xs)) → Said R front rest kind → Said S (one ++ front) rest kind
said_lift R S one front rest NotUtf8 lift said = said
said_lift R S one front rest Syntax lift said = tt
said_lift R S one front [] SelfExpansion lift said = said
said_lift R S one front (t ∷ ts) SelfExpansion lift said =
    (said.0, said.1, said.2, subst (λ (xs : List Placed). Begins S xs) (sym (append_assoc one front (emptied t ∷ []))) (lift (front ++ emptied t ∷ []) said.3))

abbrev pub Halts : {A : Type 0} → (List Placed → Answer A) → Grammar A → List Placed → Fault PolicyFault → Type 0
Halts f R ts d = (front : List Placed) × (rest : List Placed) × (ts ≡ front ++ rest) × (d ≡ fault_at d.kind rest) × Begins R front × ((other : List Placed) → Alike d.kind other rest → f (front ++ other) ≡ Err d) × Said R front rest d.kind

pub record Firm {A : Type 0} (f : List Placed → Answer A) (R : Grammar A) : Type 0 where
  pub takes : (ts : List Placed) (x : A × List Placed) → f ts ≡ Ok x → Takes f R ts x
  pub halts : (ts : List Placed) (d : Fault PolicyFault) → f ts ≡ Err d → Halts f R ts d
  pub some : Begins R []

-- ---- what gives what

pub bind_err : {A B F : Type 0} (r : Result A F) (k : A → Result B F) (d : F) → (r >>= k) ≡ Err d → (r ≡ Err d) ⊎ ((x : A) × (r ≡ Ok x) × (k x ≡ Err d))
bind_err (Ok x) k d e = inr (x, refl, e)
bind_err {A} {B} {F} (Err c) k d e = let same : c ≡ d = cc in inl (ap (λ (v : F). Err v) same)

pub picked : {X F : Type 0} (b : Bool) (v : X) (d : F) (x : X) → cond b (Ok v) (Err d) ≡ Ok x → (b ≡ true) × (v ≡ x)
picked true v d x e = (refl, cc)
picked false v d x e = absurd cc

pub refused : {X F : Type 0} (b : Bool) (v : X) (c d : F) → cond b (Ok v) (Err c) ≡ Err d → (b ≡ false) × (c ≡ d)
refused true v c d e = absurd cc
refused false v c d e = (refl, cc)

abbrev answer : {A : Type 0} → A × List Placed → Answer A
answer x = Ok x

abbrev refusal : {A : Type 0} → Fault PolicyFault → Answer A
refusal d = Err d

ok_same : {A : Type 0} (x y : A × List Placed) → answer x ≡ Ok y → x ≡ y
ok_same x y e = cc

fault_is : (kind : PolicyFault) (ts : List Placed) → fault_at kind ts ≡ fault_at (fault_at kind ts).kind ts
fault_is kind [] = refl
fault_is kind (t ∷ ts) = refl

-- the same reading, and a grammar that derives more
pub firm_same : {A : Type 0} (f g : List Placed → Answer A) (R : Grammar A) → ((ts : List Placed) → f ts ≡ g ts) → Firm f R → Firm g R
firm_same f g R same w = record {
  takes = λ ts x e. (let t = w.takes ts x (same ts ∙ e) in (t.0, t.1, t.2, λ other alike. sym (same (t.0 ++ other)) ∙ t.3 other alike));
  halts = λ ts d e. (let t = w.halts ts d (same ts ∙ e) in (t.0, t.1, t.2, t.3, t.4, λ other alike. sym (same (t.0 ++ other)) ∙ t.5 other alike, t.6));
  some = w.some;
}

wider : {A : Type 0} (R S : Grammar A) → ((ts : List Placed) (a : A) → R ts a → S ts a) → (front : List Placed) → Begins R front → Begins S front
wider R S more front b = (b.0, b.1, more (front ++ b.0) b.1 b.2)

pub firm_wide : {A : Type 0} (f : List Placed → Answer A) (R S : Grammar A) → ((ts : List Placed) (a : A) → R ts a → S ts a) → Firm f R → Firm f S
firm_wide f R S more w = record {
  takes = λ ts x e. (let t = w.takes ts x e in (t.0, t.1, more t.0 x.0 t.2, t.3));
  halts = λ ts d e. (let t = w.halts ts d e in (t.0, t.1, t.2, t.3, wider R S more t.0 t.4, t.5, said_lift R S [] t.0 t.1 d.kind (wider R S more) t.6));
  some = (w.some.0, w.some.1, more w.some.0 w.some.1 w.some.2);
}

-- ---- single tokens

pub firm_none : {A : Type 0} (a : A) → Firm (λ ts. Ok (a, ts)) (Nothing a)
firm_none {A} a = record {
  takes = λ ts x e. subst (λ (y : A × List Placed). Takes (λ us. Ok (a, us)) (Nothing a) ts y) (ok_same (a, ts) x e) ([], refl, (refl, refl), λ other alike. refl);
  halts = λ ts d e. absurd cc;
  some = ([], a, (refl, refl));
}

one_takes : (test : Token → Bool) (ts : List Placed) (x : Unit {0} × List Placed) → one test ts ≡ Ok x → Takes (one test) (One test) ts x
one_takes test [] x e = absurd cc
one_takes test (t ∷ ts) x e =
    let p = picked (test t.token) (tt, ts) (fault_at Syntax (t ∷ ts)) x e in
    subst (λ (y : Unit {0} × List Placed). Takes (one test) (One test) (t ∷ ts) y) p.1 (t ∷ [], refl, (t, refl, p.0), λ other alike. rw p.0 refl)

one_again : (test : Token → Bool) → Seen test → (ts : List Placed) (d : Fault PolicyFault) → next test ts ≡ false → fault_at Syntax ts ≡ d → (other : List Placed) → first other ≡ first ts → one test other ≡ Err d
one_again test seen ts d miss is other alike = rw (same_next test seen.blind other ts alike, miss, same_fault Syntax other ts alike, is) refl

syntax_said : {A : Type 0} (R : Grammar A) (ts : List Placed) → Said R [] ts (fault_at Syntax ts).kind
syntax_said R [] = tt
syntax_said R (t ∷ ts) = tt

one_halts : (test : Token → Bool) → Seen test → (ts : List Placed) (d : Fault PolicyFault) → one test ts ≡ Err d → Halts (one test) (One test) ts d
one_halts test seen ts d e =
    let p = refused (next test ts) (tt, behind ts) (fault_at Syntax ts) d e in
    let again = one_again test seen ts d p.0 p.1 in
    ([], ts, refl, subst (λ (c : Fault PolicyFault). c ≡ fault_at c.kind ts) p.1 (fault_is Syntax ts), seen.there, λ other alike. again other (alike_first d.kind other ts alike), subst (λ (c : Fault PolicyFault). Said (One test) [] ts c.kind) p.1 (syntax_said (One test) ts))

pub firm_one : (test : Token → Bool) → Seen test → Firm (one test) (One test)
firm_one test seen = record { takes = one_takes test; halts = one_halts test seen; some = seen.there }

word_takes : (t : Placed) (ts : List Placed) (x : List ℕ × List Placed) (k : Token) → t.token ≡ k → units_of k (t ∷ ts) ts ≡ Ok x → Takes word_at Worded (t ∷ ts) x
word_takes t ts x (Word units) is e = subst (λ (y : List ℕ × List Placed). Takes word_at Worded (t ∷ ts) y) (ok_same (units, ts) x e) (t ∷ [], refl, (t, refl, is), λ other alike. rw is refl)
word_takes t ts x (Text units) is e = absurd cc
word_takes t ts x (Mark c) is e = absurd cc
word_takes t ts x Bad is e = absurd cc

-- where a reading stops at the next token, whatever follows, and so at each that is like it
abbrev StopsAt : {A : Type 0} → (List Placed → Answer A) → PolicyFault → Placed → Type 0
StopsAt f kind t = (u : Placed) (us ts : List Placed) → Alike kind (u ∷ us) (t ∷ ts) → f (u ∷ us) ≡ Err (fault_at kind (u ∷ us))

one_token : {A : Type 0} (f : List Placed → Answer A) (kind : PolicyFault) (t : Placed) (ts : List Placed) (d : Fault PolicyFault) → fault_at kind (t ∷ ts) ≡ d → StopsAt f kind t → (other : List Placed) → Alike kind other (t ∷ ts) → f other ≡ Err d
one_token f kind t ts d is again [] alike = absurd (let none = alike_first kind [] (t ∷ ts) alike in cc)
one_token f kind t ts d is again (u ∷ us) alike =
    subst (λ (c : Fault PolicyFault). f (u ∷ us) ≡ Err c) (same_fault kind (u ∷ us) (t ∷ ts) (alike_first kind (u ∷ us) (t ∷ ts) alike) ∙ is) (again u us ts alike)

kind_kept : (kind : PolicyFault) (t : Placed) (ts : List Placed) (d : Fault PolicyFault) → fault_at kind (t ∷ ts) ≡ d → kind ≡ d.kind
kind_kept kind t ts d is = ap (λ (c : Fault PolicyFault). c.kind) is

-- a reading that looks at the next token alone and stops there
halts_here : {A : Type 0} (f : List Placed → Answer A) (R : Grammar A) (kind : PolicyFault) (t : Placed) (ts : List Placed) (d : Fault PolicyFault) → Begins R [] → Said R [] (t ∷ ts) kind → fault_at kind (t ∷ ts) ≡ d → StopsAt f kind t → Halts f R (t ∷ ts) d
halts_here f R kind t ts d there said is again = (
  [],
  t ∷ ts,
  refl,
  subst (λ (c : Fault PolicyFault). c ≡ fault_at c.kind (t ∷ ts)) is refl,
  there,
  λ other alike. one_token f kind t ts d is again other (subst (λ (k : PolicyFault). Alike k other (t ∷ ts)) (sym (kind_kept kind t ts d is)) alike),
  subst (λ (c : Fault PolicyFault). Said R [] (t ∷ ts) c.kind) is said,
)

no_token : {A : Type 0} (f : List Placed → Answer A) (R : Grammar A) (d : Fault PolicyFault) → Begins R [] → f [] ≡ Err d → fault_at Syntax [] ≡ d → Halts f R [] d
no_token f R d there stop is = ([], [], refl, subst (λ (c : Fault PolicyFault). c ≡ fault_at c.kind []) is refl, there, λ other alike. ap f (none_first other (alike_first d.kind other [] alike)) ∙ stop, subst (λ (c : Fault PolicyFault). Said R [] [] c.kind) is tt)

-- no word where another token stands
no_word : (k : Token) (all rest : List Placed) → is_word k ≡ false → units_of k all rest ≡ not_allowed all
no_word (Word units) all rest e = absurd cc
no_word (Text units) all rest e = refl
no_word (Mark c) all rest e = refl
no_word Bad all rest e = refl

pub word_blind : (k : Token) → is_word (plain k) ≡ is_word k
word_blind (Word units) = refl
word_blind (Text units) = refl
word_blind (Mark c) = refl
word_blind Bad = refl

like : (t u : Placed) (us ts : List Placed) → first (u ∷ us) ≡ first (t ∷ ts) → plain u.token ≡ plain t.token
like t u us ts e = ap (λ (x : Placed). x.token) (some_same (plainly u) (plainly t) e)

word_stops : (t : Placed) (ts : List Placed) (d : Fault PolicyFault) (k : Token) → t.token ≡ k → units_of k (t ∷ ts) ts ≡ Err d → (fault_at Syntax (t ∷ ts) ≡ d) × (is_word t.token ≡ false)
word_stops t ts d (Word units) is e = absurd cc
word_stops t ts d (Text units) is e = (cc, rw is refl)
word_stops t ts d (Mark c) is e = (cc, rw is refl)
word_stops t ts d Bad is e = (cc, rw is refl)

abbrev a_word : Placed
a_word = record { left = 0; token = Word [] }

some_word : Begins Worded []
some_word = (a_word ∷ [], [], (a_word, refl, refl))

word_halts : (ts : List Placed) (d : Fault PolicyFault) → word_at ts ≡ Err d → Halts word_at Worded ts d
word_halts [] d e = no_token word_at Worded d some_word e cc
word_halts (t ∷ ts) d e = let w = word_stops t ts d t.token refl e in halts_here word_at Worded Syntax t ts d some_word tt w.0 (λ u us vs alike. no_word u.token (u ∷ us) us (sym (word_blind u.token) ∙ ap is_word (like t u us vs alike) ∙ word_blind t.token ∙ w.1))

word_taken : (ts : List Placed) (x : List ℕ × List Placed) → word_at ts ≡ Ok x → Takes word_at Worded ts x
word_taken [] x e = absurd cc
word_taken (t ∷ ts) x e = word_takes t ts x t.token refl e

pub firm_word : Firm word_at Worded
firm_word = record { takes = word_taken; halts = word_halts; some = some_word }

text_in : (p : Properties) (t : Placed) (ts : List Placed) (x : Option (List ℕ) × List Placed) (units : List ℕ) → t.token ≡ Text units → (b : Bool) → expands_itself units ≡ b
    → cond b (Err (fault_at SelfExpansion (t ∷ ts))) (Ok (expanded p units, ts)) ≡ Ok x → Takes (text_at p) (Texted p) (t ∷ ts) x
unfolding text_at
text_in p t ts x units is true itself e = absurd cc
text_in p t ts x units is false itself e =
    subst (λ (y : Option (List ℕ) × List Placed). Takes (text_at p) (Texted p) (t ∷ ts) y) (ok_same (expanded p units, ts) x e) (t ∷ [], refl, (t, units, refl, is, itself, refl), λ other alike. rw (is, itself) refl)

text_takes : (p : Properties) (t : Placed) (ts : List Placed) (x : Option (List ℕ) × List Placed) (k : Token) → t.token ≡ k → value_of p k (t ∷ ts) ts ≡ Ok x → Takes (text_at p) (Texted p) (t ∷ ts) x
text_takes p t ts x (Word units) is e = absurd cc
text_takes p t ts x (Text units) is e = text_in p t ts x units is (expands_itself units) refl e
text_takes p t ts x (Mark c) is e = absurd cc
text_takes p t ts x Bad is e = absurd cc

text_taken : (p : Properties) (ts : List Placed) (x : Option (List ℕ) × List Placed) → text_at p ts ≡ Ok x → Takes (text_at p) (Texted p) ts x
unfolding text_at
text_taken p [] x e = absurd cc
text_taken p (t ∷ ts) x e = text_takes p t ts x t.token refl e

emptied_text : (p : Properties) (t : Placed) → Texted p (emptied t ∷ []) (expanded p [])
unfolding expands_itself
emptied_text p t = (emptied t, [], refl, refl, refl, refl)

some_text : (p : Properties) → Begins (Texted p) []
some_text p = (emptied a_word ∷ [], expanded p [], emptied_text p a_word)

-- no string where another token stands
no_text : (p : Properties) (k : Token) (all rest : List Placed) → is_text k ≡ false → value_of p k all rest ≡ not_allowed all
no_text p (Word units) all rest e = refl
no_text p (Text units) all rest e = absurd cc
no_text p (Mark c) all rest e = refl
no_text p Bad all rest e = refl

pub text_blind : (k : Token) → is_text (plain k) ≡ is_text k
text_blind (Word units) = refl
text_blind (Text units) = refl
text_blind (Mark c) = refl
text_blind Bad = refl

-- which fault a token is where a string is to stand
abbrev StopsSo : Properties → Placed → List Placed → Fault PolicyFault → Type 0
StopsSo p t ts d = (kind : PolicyFault) × (fault_at kind (t ∷ ts) ≡ d) × StopsAt (text_at p) kind t × Said (Texted p) [] (t ∷ ts) kind

itself_again : (p : Properties) (t : Placed) (units : List ℕ) → t.token ≡ Text units → expands_itself units ≡ true → StopsAt (text_at p) SelfExpansion t
unfolding text_at
itself_again p t units is itself u us ts alike =
    let same : t ≡ u = cc in
    subst (λ (v : Placed). text_at p (v ∷ us) ≡ Err (fault_at SelfExpansion (v ∷ us))) same (rw (is, itself) refl)

itself_stops : (p : Properties) (t : Placed) (ts : List Placed) (d : Fault PolicyFault) (units : List ℕ) → t.token ≡ Text units → (b : Bool) → expands_itself units ≡ b
    → cond b (refusal (fault_at SelfExpansion (t ∷ ts))) (Ok (expanded p units, ts)) ≡ Err d → StopsSo p t ts d
itself_stops p t ts d units is true itself e = (SelfExpansion, cc, itself_again p t units is itself, (units, is, itself, ([], expanded p [], emptied_text p t)))
itself_stops p t ts d units is false itself e = absurd cc

text_again : (p : Properties) (t : Placed) → is_text t.token ≡ false → StopsAt (text_at p) Syntax t
unfolding text_at
text_again p t other u us ts alike = no_text p u.token (u ∷ us) us (sym (text_blind u.token) ∙ ap is_text (like t u us ts alike) ∙ text_blind t.token ∙ other)

text_stops : (p : Properties) (t : Placed) (ts : List Placed) (d : Fault PolicyFault) (k : Token) → t.token ≡ k → value_of p k (t ∷ ts) ts ≡ Err d → StopsSo p t ts d
text_stops p t ts d (Word units) is e = (Syntax, cc, text_again p t (rw is refl), tt)
text_stops p t ts d (Text units) is e = itself_stops p t ts d units is (expands_itself units) refl e
text_stops p t ts d (Mark c) is e = (Syntax, cc, text_again p t (rw is refl), tt)
text_stops p t ts d Bad is e = (Syntax, cc, text_again p t (rw is refl), tt)

text_halts : (p : Properties) (ts : List Placed) (d : Fault PolicyFault) → text_at p ts ≡ Err d → Halts (text_at p) (Texted p) ts d
unfolding text_at
text_halts p [] d e = no_token (text_at p) (Texted p) d (some_text p) e cc
text_halts p (t ∷ ts) d e = let w = text_stops p t ts d t.token refl e in halts_here (text_at p) (Texted p) w.0 t ts d (some_text p) w.3 w.1 w.2

pub firm_text : (p : Properties) → Firm (text_at p) (Texted p)
firm_text p = record { takes = text_taken p; halts = text_halts p; some = some_text p }

-- ---- one behind the other

joined : (ts one back two xs : List Placed) → ts ≡ one ++ back → back ≡ two ++ xs → ts ≡ (one ++ two) ++ xs
joined ts one back two xs cut more = cut ∙ ap (λ (u : List Placed). one ++ u) more ∙ sym (append_assoc one two xs)

further : (one two back xs other : List Placed) → back ≡ two ++ xs → first other ≡ first xs → first (two ++ other) ≡ first back
further one two back xs other cut alike = first_behind two other xs alike ∙ sym (ap first cut)

then_takes : {A B : Type 0} (f : List Placed → Answer A) (R : Grammar A) (g : A → List Placed → Answer B) (S : A → Grammar B) → Firm f R → ((a : A) → Firm (g a) (S a))
    → (ts : List Placed) (y : B × List Placed) → (f ts >>= λ x. g x.0 x.1) ≡ Ok y → Takes (λ us. f us >>= λ x. g x.0 x.1) (R ▹ S) ts y
then_takes {A} f R g S wf wg ts y e =
    let b = bind_ok (f ts) (λ x. g x.0 x.1) y e in
    let l = wf.takes ts b.0 b.1 in
    let r = (wg b.0.0).takes b.0.1 y b.2 in (
      l.0 ++ r.0,
      joined ts l.0 b.0.1 r.0 y.1 l.1 r.1,
      (b.0.0, l.0, r.0, refl, l.2, r.2),
      λ other alike. (
          ap (λ (u : List Placed). f u >>= λ x. g x.0 x.1) (append_assoc l.0 r.0 other) ∙
          ap (λ (v : Answer A). v >>= λ x. g x.0 x.1) (l.3 (r.0 ++ other) (further l.0 r.0 b.0.1 y.1 other r.1 alike)) ∙ r.3 other alike),
    )

-- what begins the first begins both, and what begins the second begins both behind the first
begun_first : {A B : Type 0} (R : Grammar A) (S : A → Grammar B) (front : List Placed) → Begins R front → ((a : A) → Begins (S a) []) → Begins (R ▹ S) front
begun_first R S front b some =
    let s = some b.1 in
    (b.0 ++ s.0, s.1, (b.1, front ++ b.0, s.0, sym (append_assoc front b.0 s.0), b.2, s.2))

begun_second : {A B : Type 0} (R : Grammar A) (S : A → Grammar B) (one two : List Placed) (a : A) → R one a → Begins (S a) two → Begins (R ▹ S) (one ++ two)
begun_second R S one two a r b = (b.0, b.1, (a, one, two ++ b.0, append_assoc one two b.0, r, b.2))

then_halts : {A B : Type 0} (f : List Placed → Answer A) (R : Grammar A) (g : A → List Placed → Answer B) (S : A → Grammar B) → Firm f R → ((a : A) → Firm (g a) (S a))
    → (ts : List Placed) (d : Fault PolicyFault) → (f ts >>= λ x. g x.0 x.1) ≡ Err d → Halts (λ us. f us >>= λ x. g x.0 x.1) (R ▹ S) ts d
then_halts {A} f R g S wf wg ts d e = elim (bind_err (f ts) (λ x. g x.0 x.1) d e) [
  | inl stop ↦ (
      let h = wf.halts ts d stop in
      (h.0, h.1, h.2, h.3, begun_first R S h.0 h.4 (λ a. (wg a).some), λ other alike. ap (λ (v : Answer A). v >>= λ x. g x.0 x.1) (h.5 other alike), said_lift R (R ▹ S) [] h.0 h.1 d.kind (λ xs begun. begun_first R S xs begun (λ a. (wg a).some)) h.6))
  | inr b ↦ (
      let l = wf.takes ts b.0 b.1 in
      let h = (wg b.0.0).halts b.0.1 d b.2 in (
        l.0 ++ h.0,
        h.1,
        joined ts l.0 b.0.1 h.0 h.1 l.1 h.2,
        h.3,
        begun_second R S l.0 h.0 b.0.0 l.2 h.4,
        λ other alike. (
            ap (λ (u : List Placed). f u >>= λ x. g x.0 x.1) (append_assoc l.0 h.0 other) ∙
            ap (λ (v : Answer A). v >>= λ x. g x.0 x.1) (l.3 (h.0 ++ other) (further l.0 h.0 b.0.1 h.1 other h.2 (alike_first d.kind other h.1 alike))) ∙ h.5 other alike),
        said_lift (S b.0.0) (R ▹ S) l.0 h.0 h.1 d.kind (λ xs begun. begun_second R S l.0 xs b.0.0 l.2 begun) h.6,
      ))
]

pub firm_then : {A B : Type 0} (f : List Placed → Answer A) (R : Grammar A) (g : A → List Placed → Answer B) (S : A → Grammar B) → Firm f R → ((a : A) → Firm (g a) (S a)) → Firm (λ ts. f ts >>= λ x. g x.0 x.1) (R ▹ S)
firm_then f R g S wf wg = record {
  takes = then_takes f R g S wf wg;
  halts = then_halts f R g S wf wg;
  some = begun_first R S [] wf.some (λ a. (wg a).some);
}

-- ---- choices by the next token

at_next : (test : Token → Bool) → Seen test → (ts front xs other : List Placed) (b : Bool) → next test ts ≡ b → ts ≡ front ++ xs → first other ≡ first xs → next test (front ++ other) ≡ b
at_next test seen ts front xs other b is cut alike = same_next test seen.blind (front ++ other) ts (first_behind front other xs alike ∙ sym (ap first cut)) ∙ is

pub firm_if : {A : Type 0} (test : Token → Bool) → Seen test → (f : List Placed → Answer A) (R : Grammar A) (g : List Placed → Answer A) (S : Grammar A) → Firm f R → Firm g S → Firm (λ ts. cond (next test ts) (f ts) (g ts)) (Either R S)
firm_if test seen f R g S wf wg = record {
  takes = λ ts x e. (elim (chosen (next test ts) (f ts) (g ts) (Ok x) e) [
    | inl hit ↦ (let t = wf.takes ts x hit.1 in (t.0, t.1, inl t.2, λ other alike. rw (at_next test seen ts t.0 x.1 other true hit.0 t.1 alike) (t.3 other alike)))
    | inr miss ↦ (let t = wg.takes ts x miss.1 in (t.0, t.1, inr t.2, λ other alike. rw (at_next test seen ts t.0 x.1 other false miss.0 t.1 alike) (t.3 other alike)))
  ]);
  halts = λ ts d e. (elim (chosen (next test ts) (f ts) (g ts) (Err d) e) [
    | inl hit ↦ (let h = wf.halts ts d hit.1 in (h.0, h.1, h.2, h.3, wider R (Either R S) (λ us a derived. inl derived) h.0 h.4, λ other alike. rw (at_next test seen ts h.0 h.1 other true hit.0 h.2 (alike_first d.kind other h.1 alike)) (h.5 other alike), said_lift R (Either R S) [] h.0 h.1 d.kind (wider R (Either R S) (λ us a derived. inl derived)) h.6))
    | inr miss ↦ (let h = wg.halts ts d miss.1 in (h.0, h.1, h.2, h.3, wider S (Either R S) (λ us a derived. inr derived) h.0 h.4, λ other alike. rw (at_next test seen ts h.0 h.1 other false miss.0 h.2 (alike_first d.kind other h.1 alike)) (h.5 other alike), said_lift S (Either R S) [] h.0 h.1 d.kind (wider S (Either R S) (λ us a derived. inr derived)) h.6))
  ]);
  some = (wg.some.0, wg.some.1, inr wg.some.2);
}

pub firm_behind : {A : Type 0} (test : Token → Bool) → Seen test → (f : List Placed → Answer A) (R : Grammar A) → Firm f R → Firm (λ ts. one test ts >>= λ x. f x.1) (One test ▹ λ _. R)
firm_behind test seen f R w = firm_then (one test) (One test) (λ (u : Unit {0}) ts. f ts) (λ (u : Unit {0}). R) (firm_one test seen) (λ u. w)

last_same : {A : Type 0} (f : List Placed → Answer A) (b : Bool) (ts : List Placed) → (cond b (Ok (tt, behind ts)) (not_allowed ts) >>= λ (x : Unit {0} × List Placed). f x.1) ≡ cond b (f (behind ts)) (not_allowed ts)
last_same f true ts = refl
last_same f false ts = refl

pub firm_last : {A : Type 0} (test : Token → Bool) → Seen test → (f : List Placed → Answer A) (R : Grammar A) → Firm f R → Firm (λ ts. cond (next test ts) (f (behind ts)) (not_allowed ts)) (One test ▹ λ _. R)
firm_last test seen f R w = firm_same (λ ts. one test ts >>= λ x. f x.1) (λ ts. cond (next test ts) (f (behind ts)) (not_allowed ts)) (One test ▹ λ _. R) (λ ts. last_same f (next test ts) ts) (firm_behind test seen f R w)

next_same : {A : Type 0} (f g : List Placed → Answer A) (b : Bool) (ts : List Placed) → cond b (cond b (Ok (tt, behind ts)) (not_allowed ts) >>= λ (x : Unit {0} × List Placed). f x.1) (g ts) ≡ cond b (f (behind ts)) (g ts)
next_same f g true ts = refl
next_same f g false ts = refl

pub firm_next : {A : Type 0} (test : Token → Bool) → Seen test → (f : List Placed → Answer A) (R : Grammar A) (g : List Placed → Answer A) (S : Grammar A) → Firm f R → Firm g S → Firm (λ ts. cond (next test ts) (f (behind ts)) (g ts)) (Either (One test ▹ λ _. R) S)
firm_next test seen f R g S wf wg = firm_same (λ ts. cond (next test ts) (one test ts >>= λ x. f x.1) (g ts)) (λ ts. cond (next test ts) (f (behind ts)) (g ts)) (Either (One test ▹ λ _. R) S) (λ ts. next_same f g (next test ts) ts)
    (firm_if test seen (λ ts. one test ts >>= λ x. f x.1) (One test ▹ λ _. R) g S (firm_behind test seen f R wf) wg)

-- ---- choices that are only there where a test holds

and_true : (b : Bool) → (b && true) ≡ b
and_true true = refl
and_true false = refl

pub and_false : (b : Bool) → (b && false) ≡ false
and_false true = refl
and_false false = refl

if_only : {A : Type 0} (R S : Grammar A) (ts : List Placed) (a : A) → Either R S ts a → Either (Only true R) S ts a
if_only R S ts a (inl d) = inl (refl, d)
if_only R S ts a (inr d) = inr d

pub firm_only : {A : Type 0} (b : Bool) (test : Token → Bool) → Seen test → (f : List Placed → Answer A) (R : Grammar A) (g : List Placed → Answer A) (S : Grammar A) → Firm f R → Firm g S → Firm (λ ts. cond (b && next test ts) (f ts) (g ts)) (Either (Only b R) S)
firm_only true test seen f R g S wf wg = firm_wide (λ ts. cond (next test ts) (f ts) (g ts)) (Either R S) (Either (Only true R) S) (if_only R S) (firm_if test seen f R g S wf wg)
firm_only false test seen f R g S wf wg = firm_wide g S (Either (Only false R) S) (λ ts a d. inr d) wg

pub firm_once : {A : Type 0} (test : Token → Bool) → Seen test → (b : Bool) (f : List Placed → Answer A) (R : Grammar A) (g : List Placed → Answer A) (S : Grammar A) → Firm f R → Firm g S → Firm (λ ts. cond (next test ts && b) (f (behind ts)) (g ts)) (Either (Only b (One test ▹ λ _. R)) S)
firm_once {A} test seen true f R g S wf wg = firm_same (λ ts. cond (next test ts) (f (behind ts)) (g ts)) (λ ts. cond (next test ts && true) (f (behind ts)) (g ts)) (Either (Only true (One test ▹ λ _. R)) S)
    (λ ts. ap (λ (c : Bool). cond c (f (behind ts)) (g ts)) (sym (and_true (next test ts))))
    (firm_wide (λ ts. cond (next test ts) (f (behind ts)) (g ts)) (Either (One test ▹ λ _. R) S) (Either (Only true (One test ▹ λ _. R)) S) (if_only (One test ▹ λ _. R) S) (firm_next test seen f R g S wf wg))
firm_once {A} test seen false f R g S wf wg = firm_same g (λ ts. cond (next test ts && false) (f (behind ts)) (g ts)) (Either (Only false (One test ▹ λ _. R)) S)
    (λ ts. ap (λ (c : Bool). cond c (f (behind ts)) (g ts)) (sym (and_false (next test ts))))
    (firm_wide g S (Either (Only false (One test ▹ λ _. R)) S) (λ ts a d. inr d) wg)

-- ---- any number

-- what a walk looks at where it may end, and what its steps take
pub record Going {S : Type 0} (ends : List Placed → Bool) (goes : S → List Placed → Answer S) (R : S → Grammar S) : Type 0 where
  pub firm : (s : S) → Firm (goes s) (R s)
  pub takes_some : (s : S) (front : List Placed) (t : S) → R s front t → 0 < length front
  pub looks : (xs ys : List Placed) → first xs ≡ first ys → ends xs ≡ ends ys

walk_ended : {S : Type 0} (ends : List Placed → Bool) (goes : S → List Placed → Answer S) (n : ℕ) (s : S) (xs : List Placed) → ends xs ≡ true → walk ends goes n s xs ≡ Ok (s, xs)
unfolding walk
walk_ended ends goes zero s xs over = refl
walk_ended ends goes (suc n) s xs over = rw over refl

walk_goes : {S : Type 0} (ends : List Placed → Bool) (goes : S → List Placed → Answer S) (n m : ℕ) (s t : S) (xs ys : List Placed) → n ≡ suc m → ends xs ≡ false → goes s xs ≡ Ok (t, ys) → walk ends goes n s xs ≡ walk ends goes m t ys
unfolding walk
walk_goes ends goes n m s t xs ys is on h = rw (is, on, h) refl

walk_stops : {S : Type 0} (ends : List Placed → Bool) (goes : S → List Placed → Answer S) (n m : ℕ) (s : S) (xs : List Placed) (d : Fault PolicyFault) → n ≡ suc m → ends xs ≡ false → goes s xs ≡ Err d → walk ends goes n s xs ≡ Err d
unfolding walk
walk_stops ends goes n m s xs d is on h = rw (is, on, h) refl

at_end : {S : Type 0} (ends : List Placed → Bool) (goes : S → List Placed → Answer S) (R : S → Grammar S) → Going ends goes R → (ts front xs other : List Placed) (b : Bool) → ends ts ≡ b → ts ≡ front ++ xs → first other ≡ first xs → ends (front ++ other) ≡ b
at_end ends goes R w ts front xs other b is cut alike = w.looks (front ++ other) ts (first_behind front other xs alike ∙ sym (ap first cut)) ∙ is

-- a walk with so many steps more than there are tokens
abbrev pub going : {S : Type 0} → (List Placed → Bool) → (S → List Placed → Answer S) → ℕ → S → List Placed → Answer S
going ends goes more s ts = walk ends goes (length ts + more) s ts

-- the steps that are left behind one that takes some tokens
left_of : (front xs : List Placed) (m more : ℕ) → 0 < length front → suc m ≡ length (front ++ xs) + more → m ≡ length xs + ((length front - 1) + more)
left_of front xs m more some is = let both : length (front ++ xs) ≡ length front + length xs = length-append front xs in omega arith

steps_of : (one two other : List Placed) (more : ℕ) → 0 < length one → length ((one ++ two) ++ other) + more ≡ suc (length (two ++ other) + ((length one - 1) + more))
steps_of one two other more some =
    let all : length ((one ++ two) ++ other) ≡ length one + length (two ++ other) = ap length (append_assoc one two other) ∙ length-append one (two ++ other) in
    omega arith

begun_one : {S : Type 0} (R : S → Grammar S) (s : S) (front : List Placed) → Begins (R s) front → Begins (Many R s) front
begun_one R s front b = (b.0, b.1, (1, (b.1, front ++ b.0, [], sym (append-nil (front ++ b.0)), b.2, (refl, refl))))

begun_more : {S : Type 0} (R : S → Grammar S) (s t : S) (one two : List Placed) → R s one t → Begins (Many R t) two → Begins (Many R s) (one ++ two)
begun_more R s t one two r b = (b.0, b.1, (suc b.2.0, (t, one, two ++ b.0, append_assoc one two b.0, r, b.2.1)))

-- a walk over other tokens takes the same first step
first_step : {S : Type 0} (ends : List Placed → Bool) (goes : S → List Placed → Answer S) (more : ℕ) (s t : S) (one two other : List Placed) → 0 < length one → ends (one ++ (two ++ other)) ≡ false → goes s (one ++ (two ++ other)) ≡ Ok (t, two ++ other)
    → going ends goes more s ((one ++ two) ++ other) ≡ going ends goes ((length one - 1) + more) t (two ++ other)
first_step ends goes more s t one two other some on h =
    walk_goes ends goes (length ((one ++ two) ++ other) + more) (length (two ++ other) + ((length one - 1) + more)) s t ((one ++ two) ++ other) (two ++ other) (steps_of one two other more some)
    (ap ends (append_assoc one two other) ∙ on) (ap (goes s) (append_assoc one two other) ∙ h)

enough : (front rest other : List Placed) (more : ℕ) → first other ≡ first rest → 0 < length (front ++ rest) + more → 0 < length (front ++ other) + more
enough front rest [] more alike some = rw (none_first rest (sym alike)) at some
enough front rest (u ∷ us) more alike some = let both : length (front ++ u ∷ us) ≡ length front + suc (length us) = length-append front (u ∷ us) in omega arith

-- a walk over other tokens stops as early
first_stop : {S : Type 0} (ends : List Placed → Bool) (goes : S → List Placed → Answer S) (more : ℕ) (s : S) (front rest other : List Placed) (d : Fault PolicyFault) → first other ≡ first rest → 0 < length (front ++ rest) + more
    → ends (front ++ other) ≡ false → goes s (front ++ other) ≡ Err d → going ends goes more s (front ++ other) ≡ Err d
first_stop ends goes more s front rest other d alike some on h =
    let room : 0 < length (front ++ other) + more = enough front rest other more alike some in
    walk_stops ends goes (length (front ++ other) + more) ((length (front ++ other) + more) - 1) s (front ++ other) d (omega arith) on h

walk_takes : {S : Type 0} (ends : List Placed → Bool) (goes : S → List Placed → Answer S) (R : S → Grammar S) → Going ends goes R → (n more : ℕ) (s : S) (ts : List Placed) (x : S × List Placed) → n ≡ length ts + more → walk ends goes n s ts ≡ Ok x → Takes (going ends goes more s) (Many R s) ts x
unfolding walk
walk_takes {S} ends goes R w zero more s [] x is e =
    let none : more ≡ 0 = omega arith in
    subst (λ (y : S × List Placed). Takes (going ends goes more s) (Many R s) [] y) (ok_same (s, []) x e) ([], refl, (0, (refl, refl)), λ other alike. rw (none_first other alike, none) refl)
walk_takes ends goes R w zero more s (t ∷ ts) x is e = absurd (omega arith)
walk_takes {S} ends goes R w (suc m) more s ts x is e = elim (chosen (ends ts) (Ok (s, ts)) (goes s ts >>= λ y. walk ends goes m y.0 y.1) (Ok x) e) [
  | inl hit ↦ (subst (λ (y : S × List Placed). Takes (going ends goes more s) (Many R s) ts y) (ok_same (s, ts) x hit.1) (
    [],
    refl,
    (0, (refl, refl)),
    λ other alike.
        walk_ended ends goes (length other + more) s other (at_end ends goes R w ts [] ts other true hit.0 refl alike),
  ))
  | inr miss ↦ (
      let b = bind_ok (goes s ts) (λ y. walk ends goes m y.0 y.1) x miss.1 in
      let l = (w.firm s).takes ts b.0 b.1 in
      let some : 0 < length l.0 = w.takes_some s l.0 b.0.0 l.2 in
      let slack : m ≡ length b.0.1 + ((length l.0 - 1) + more) = left_of l.0 b.0.1 m more some (is ∙ ap (λ (u : List Placed). length u + more) l.1) in
      let r = walk_takes ends goes R w m ((length l.0 - 1) + more) b.0.0 b.0.1 x slack b.2 in
      let cut : ts ≡ (l.0 ++ r.0) ++ x.1 = joined ts l.0 b.0.1 r.0 x.1 l.1 r.1 in (
        l.0 ++ r.0,
        cut,
        (suc r.2.0, (b.0.0, l.0, r.0, refl, l.2, r.2.1)),
        λ other alike. (
            let alike_behind = further l.0 r.0 b.0.1 x.1 other r.1 alike in
            first_step ends goes more s b.0.0 l.0 r.0 other some (at_end ends goes R w ts l.0 b.0.1 (r.0 ++ other) false miss.0 l.1 alike_behind) (l.3 (r.0 ++ other) alike_behind) ∙ r.3 other alike),
      ))
]

walk_halts : {S : Type 0} (ends : List Placed → Bool) (goes : S → List Placed → Answer S) (R : S → Grammar S) → Going ends goes R → (n more : ℕ) (s : S) (ts : List Placed) (d : Fault PolicyFault) → n ≡ length ts + more → walk ends goes n s ts ≡ Err d → Halts (going ends goes more s) (Many R s) ts d
unfolding walk
walk_halts ends goes R w zero more s ts d is e = absurd cc
walk_halts {S} ends goes R w (suc m) more s ts d is e = elim (chosen (ends ts) (Ok (s, ts)) (goes s ts >>= λ y. walk ends goes m y.0 y.1) (Err d) e) [
  | inl hit ↦ absurd (let h = hit.1 in cc)
  | inr miss ↦ elim (bind_err (goes s ts) (λ y. walk ends goes m y.0 y.1) d miss.1) [
    | inl stop ↦ (
        let h = (w.firm s).halts ts d stop in
        let some : 0 < length (h.0 ++ h.1) + more = subst (λ (u : List Placed). 0 < length u + more) h.2 (subst (λ (k : ℕ). 0 < k) is (omega arith)) in
        (h.0, h.1, h.2, h.3, begun_one R s h.0 h.4, λ other alike. first_stop ends goes more s h.0 h.1 other d (alike_first d.kind other h.1 alike) some (at_end ends goes R w ts h.0 h.1 other false miss.0 h.2 (alike_first d.kind other h.1 alike)) (h.5 other alike), said_lift (R s) (Many R s) [] h.0 h.1 d.kind (begun_one R s) h.6))
    | inr b ↦ (
        let l = (w.firm s).takes ts b.0 b.1 in
        let some : 0 < length l.0 = w.takes_some s l.0 b.0.0 l.2 in
        let slack : m ≡ length b.0.1 + ((length l.0 - 1) + more) = left_of l.0 b.0.1 m more some (is ∙ ap (λ (u : List Placed). length u + more) l.1) in
        let h = walk_halts ends goes R w m ((length l.0 - 1) + more) b.0.0 b.0.1 d slack b.2 in
        let cut : ts ≡ (l.0 ++ h.0) ++ h.1 = joined ts l.0 b.0.1 h.0 h.1 l.1 h.2 in (
          l.0 ++ h.0,
          h.1,
          cut,
          h.3,
          begun_more R s b.0.0 l.0 h.0 l.2 h.4,
          λ other alike. (
              let alike_behind = further l.0 h.0 b.0.1 h.1 other h.2 (alike_first d.kind other h.1 alike) in
              first_step ends goes more s b.0.0 l.0 h.0 other some (at_end ends goes R w ts l.0 b.0.1 (h.0 ++ other) false miss.0 l.1 alike_behind) (l.3 (h.0 ++ other) alike_behind) ∙ h.5 other alike),
          said_lift (Many R b.0.0) (Many R s) l.0 h.0 h.1 d.kind (λ xs begun. begun_more R s b.0.0 l.0 xs l.2 begun) h.6,
        ))
  ]
]

going_same : {S : Type 0} (ends : List Placed → Bool) (goes : S → List Placed → Answer S) (s : S) (ts : List Placed) → going ends goes 0 s ts ≡ walk ends goes (length ts) s ts
going_same ends goes s ts = ap (λ n. walk ends goes n s ts) (omega arith)

pub firm_many : {S : Type 0} (ends : List Placed → Bool) (goes : S → List Placed → Answer S) (R : S → Grammar S) → Going ends goes R → (s : S) → Firm (λ ts. walk ends goes (length ts) s ts) (Many R s)
firm_many ends goes R w s = firm_same (going ends goes 0 s) (λ ts. walk ends goes (length ts) s ts) (Many R s) (going_same ends goes s) (record {
  takes = λ ts x e. walk_takes ends goes R w (length ts + 0) 0 s ts x refl e;
  halts = λ ts d e. walk_halts ends goes R w (length ts + 0) 0 s ts d refl e;
  some = ([], s, (0, (refl, refl)));
})

-- each step leaves fewer tokens
pub shrinks : {S : Type 0} (ends : List Placed → Bool) (goes : S → List Placed → Answer S) (R : S → Grammar S) → Going ends goes R → Shrinks ends goes
shrinks ends goes R w s ts x on e =
    let t = (w.firm s).takes ts x e in
    let some : 0 < length t.0 = w.takes_some s t.0 x.0 t.2 in
    let both : length ts ≡ length t.0 + length x.1 = ap length t.1 ∙ length-append t.0 x.1 in
    omega arith
