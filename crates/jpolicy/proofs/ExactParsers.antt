-- Readings that are exact: they are firm, and what the grammar derives they take.
use Rattle.std.proofs.Common.{◌≡◌, ℕ, zero, suc, ◌+◌, ◌≤◌, ◌<◌, Bool, true, false, cond, ◌&&◌, List, ◌∷◌, ◌++◌, length, Ok, refl, ap, ◌∙◌, append_assoc, inl, inr, arith, length-append}
use Rattle.jground.specs.jbase.MemoryFailures.{◌>>=◌}
use Rattle.jpolicy.specs.declared.token.Token.{Token}
use Rattle.jpolicy.specs.declared.token.Placed.{Placed}
use Rattle.jpolicy.specs.Expansion.{Properties}
use Rattle.jpolicy.specs.ListWalks.{walk}
use Rattle.jpolicy.specs.Productions.{Answer, not_allowed, behind, next, one, word_at, text_at}
use Rattle.jpolicy.specs.Grammar.{Grammar, Nothing, One, Worded, Texted, ◌▹◌, Either, Only, Times, Many}
use Rattle.jpolicy.proofs.FirmParsers.{Firm, Going, Seen, first, firm_none, firm_one, firm_word, firm_text, firm_then, firm_if, firm_next, firm_once, firm_only, firm_last, firm_many}

-- what is derived is taken, where what follows lets it end there
abbrev pub Complete : {A : Type 0} → (List Placed → Type 0) → (List Placed → Answer A) → Grammar A → Type 0
Complete {A} F f R = (front : List Placed) (a : A) (rest : List Placed) → R front a → F rest → f (front ++ rest) ≡ Ok (a, rest)

pub record Law {A : Type 0} (F : List Placed → Type 0) (f : List Placed → Answer A) (R : Grammar A) : Type 0 where
  pub firm : Firm f R
  pub complete : Complete F f R

-- what may follow: anything, or no token that passes a test
abbrev pub Any : List Placed → Type 0
Any ts = Unit {0}

abbrev pub Not : (Token → Bool) → List Placed → Type 0
Not test ts = next test ts ≡ false

-- ---- single tokens

none_complete : {A : Type 0} (F : List Placed → Type 0) (a : A) → Complete F (λ ts. Ok (a, ts)) (Nothing a)
none_complete F a front b rest d follow = rw (d.0, d.1) refl

pub law_none : {A : Type 0} (F : List Placed → Type 0) (a : A) → Law F (λ ts. Ok (a, ts)) (Nothing a)
law_none F a = record { firm = firm_none a; complete = none_complete F a }

one_complete : (test : Token → Bool) → Complete Any (one test) (One test)
one_complete test front a rest d follow = rw (d.1, d.2) refl

pub law_one : (test : Token → Bool) → Seen test → Law Any (one test) (One test)
law_one test seen = record { firm = firm_one test seen; complete = one_complete test }

word_complete : Complete Any word_at Worded
word_complete front a rest d follow = rw (d.1, d.2) refl

pub law_word : Law Any word_at Worded
law_word = record { firm = firm_word; complete = word_complete }

text_complete : (properties : Properties) → Complete Any (text_at properties) (Texted properties)
unfolding text_at
text_complete properties front a rest d follow = rw (d.2, d.3, d.4, d.5) refl

pub law_text : (properties : Properties) → Law Any (text_at properties) (Texted properties)
law_text properties = record { firm = firm_text properties; complete = text_complete properties }

-- ---- one behind the other

then_complete : {A B : Type 0} (F G : List Placed → Type 0) (f : List Placed → Answer A) (R : Grammar A) (g : A → List Placed → Answer B) (S : A → Grammar B) → Complete F f R → ((a : A) → Complete G (g a) (S a))
    → ((a : A) (back : List Placed) (b : B) (rest : List Placed) → S a back b → G rest → F (back ++ rest)) → Complete G (λ ts. f ts >>= λ x. g x.0 x.1) (R ▹ S)
then_complete {A} {B} F G f R g S cf cg leads front b rest d follow =
    let there : f (front ++ rest) ≡ Ok (d.0, d.2 ++ rest) = ap f (ap (λ (t : List Placed). t ++ rest) d.3 ∙ append_assoc d.1 d.2 rest) ∙ cf d.1 d.0 (d.2 ++ rest) d.4 (leads d.0 d.2 b rest d.5 follow) in
    ap (λ (r : Answer A). r >>= λ x. g x.0 x.1) there ∙ cg d.0 d.2 b rest d.5 follow

pub law_then : {A B : Type 0} (F G : List Placed → Type 0) (f : List Placed → Answer A) (R : Grammar A) (g : A → List Placed → Answer B) (S : A → Grammar B) → Law F f R → ((a : A) → Law G (g a) (S a))
    → ((a : A) (back : List Placed) (b : B) (rest : List Placed) → S a back b → G rest → F (back ++ rest)) → Law G (λ ts. f ts >>= λ x. g x.0 x.1) (R ▹ S)
law_then F G f R g S lf lg leads = record {
  firm = firm_then f R g S lf.firm (λ a. (lg a).firm);
  complete = then_complete F G f R g S lf.complete (λ a. (lg a).complete) leads;
}

-- where anything may follow the first
pub law_first : {A B : Type 0} (G : List Placed → Type 0) (f : List Placed → Answer A) (R : Grammar A) (g : A → List Placed → Answer B) (S : A → Grammar B) → Law Any f R → ((a : A) → Law G (g a) (S a)) → Law G (λ ts. f ts >>= λ x. g x.0 x.1) (R ▹ S)
law_first G f R g S lf lg = law_then Any G f R g S lf lg (λ a back b rest s follow. tt)

-- another value for the same tokens
pub law_map : {A B : Type 0} (F : List Placed → Type 0) (f : List Placed → Answer A) (R : Grammar A) (h : A → B) → Law F f R → Law F (λ ts. f ts >>= λ x. Ok (h x.0, x.1)) (R ▹ λ a. Nothing (h a))
law_map F f R h lf = law_then F F f R (λ a ts. Ok (h a, ts)) (λ a. Nothing (h a)) lf (λ a. law_none F (h a)) (λ a back b rest s follow. rw s.0 follow)

-- ---- choices

pub front_of : {A : Type 0} (test : Token → Bool) (R : Grammar A) (front : List Placed) (a : A) (rest : List Placed) → (One test ▹ λ _. R) front a → (t : Placed) × (back : List Placed) × (front ++ rest ≡ t ∷ (back ++ rest)) × (test t.token ≡ true) × R back a
front_of test R front a rest d = (d.4.0, d.2, ap (λ (x : List Placed). x ++ rest) (d.3 ∙ ap (λ (x : List Placed). x ++ d.2) d.4.1), d.4.2, d.5)

next_complete : {A : Type 0} (F : List Placed → Type 0) (test : Token → Bool) (f : List Placed → Answer A) (R : Grammar A) (g : List Placed → Answer A) (S : Grammar A) → Complete F f R → Complete F g S
    → ((front : List Placed) (a : A) (rest : List Placed) → S front a → F rest → next test (front ++ rest) ≡ false) → Complete F (λ ts. cond (next test ts) (f (behind ts)) (g ts)) (Either (One test ▹ λ _. R) S)
next_complete F test f R g S cf cg misses front a rest (inl d) follow =
    let p = front_of test R front a rest d in
    ap (λ (ts : List Placed). cond (next test ts) (f (behind ts)) (g ts)) p.2 ∙ rw p.3 (cf p.1 a rest p.4 follow)
next_complete F test f R g S cf cg misses front a rest (inr s) follow = rw (misses front a rest s follow) (cg front a rest s follow)

pub law_next : {A : Type 0} (F : List Placed → Type 0) (test : Token → Bool) → Seen test → (f : List Placed → Answer A) (R : Grammar A) (g : List Placed → Answer A) (S : Grammar A) → Law F f R → Law F g S
    → ((front : List Placed) (a : A) (rest : List Placed) → S front a → F rest → next test (front ++ rest) ≡ false) → Law F (λ ts. cond (next test ts) (f (behind ts)) (g ts)) (Either (One test ▹ λ _. R) S)
law_next F test seen f R g S lf lg misses = record { firm = firm_next test seen f R g S lf.firm lg.firm; complete = next_complete F test f R g S lf.complete lg.complete misses }

if_complete : {A : Type 0} (F : List Placed → Type 0) (test : Token → Bool) (f : List Placed → Answer A) (R : Grammar A) (g : List Placed → Answer A) (S : Grammar A) → Complete F f R → Complete F g S
    → ((front : List Placed) (a : A) (rest : List Placed) → R front a → F rest → next test (front ++ rest) ≡ true)
    → ((front : List Placed) (a : A) (rest : List Placed) → S front a → F rest → next test (front ++ rest) ≡ false) → Complete F (λ ts. cond (next test ts) (f ts) (g ts)) (Either R S)
if_complete F test f R g S cf cg hits misses front a rest (inl r) follow = rw (hits front a rest r follow) (cf front a rest r follow)
if_complete F test f R g S cf cg hits misses front a rest (inr s) follow = rw (misses front a rest s follow) (cg front a rest s follow)

pub law_if : {A : Type 0} (F : List Placed → Type 0) (test : Token → Bool) → Seen test → (f : List Placed → Answer A) (R : Grammar A) (g : List Placed → Answer A) (S : Grammar A) → Law F f R → Law F g S
    → ((front : List Placed) (a : A) (rest : List Placed) → R front a → F rest → next test (front ++ rest) ≡ true)
    → ((front : List Placed) (a : A) (rest : List Placed) → S front a → F rest → next test (front ++ rest) ≡ false) → Law F (λ ts. cond (next test ts) (f ts) (g ts)) (Either R S)
law_if F test seen f R g S lf lg hits misses = record { firm = firm_if test seen f R g S lf.firm lg.firm; complete = if_complete F test f R g S lf.complete lg.complete hits misses }

only_complete : {A : Type 0} (F : List Placed → Type 0) (b : Bool) (test : Token → Bool) (f : List Placed → Answer A) (R : Grammar A) (g : List Placed → Answer A) (S : Grammar A) → Complete F f R → Complete F g S
    → ((front : List Placed) (a : A) (rest : List Placed) → R front a → F rest → next test (front ++ rest) ≡ true)
    → ((front : List Placed) (a : A) (rest : List Placed) → S front a → F rest → (b && next test (front ++ rest)) ≡ false) → Complete F (λ ts. cond (b && next test ts) (f ts) (g ts)) (Either (Only b R) S)
only_complete F b test f R g S cf cg hits misses front a rest (inl r) follow = rw (r.0, hits front a rest r.1 follow) (cf front a rest r.1 follow)
only_complete F b test f R g S cf cg hits misses front a rest (inr s) follow = rw (misses front a rest s follow) (cg front a rest s follow)

pub law_only : {A : Type 0} (F : List Placed → Type 0) (b : Bool) (test : Token → Bool) → Seen test → (f : List Placed → Answer A) (R : Grammar A) (g : List Placed → Answer A) (S : Grammar A) → Law F f R → Law F g S
    → ((front : List Placed) (a : A) (rest : List Placed) → R front a → F rest → next test (front ++ rest) ≡ true)
    → ((front : List Placed) (a : A) (rest : List Placed) → S front a → F rest → (b && next test (front ++ rest)) ≡ false) → Law F (λ ts. cond (b && next test ts) (f ts) (g ts)) (Either (Only b R) S)
law_only F b test seen f R g S lf lg hits misses = record { firm = firm_only b test seen f R g S lf.firm lg.firm; complete = only_complete F b test f R g S lf.complete lg.complete hits misses }

once_complete : {A : Type 0} (F : List Placed → Type 0) (test : Token → Bool) (b : Bool) (f : List Placed → Answer A) (R : Grammar A) (g : List Placed → Answer A) (S : Grammar A) → Complete F f R → Complete F g S
    → ((front : List Placed) (a : A) (rest : List Placed) → S front a → F rest → next test (front ++ rest) ≡ false) → Complete F (λ ts. cond (next test ts && b) (f (behind ts)) (g ts)) (Either (Only b (One test ▹ λ _. R)) S)
once_complete F test b f R g S cf cg misses front a rest (inl d) follow =
    let p = front_of test R front a rest d.1 in
    ap (λ (ts : List Placed). cond (next test ts && b) (f (behind ts)) (g ts)) p.2 ∙ rw (p.3, d.0) (cf p.1 a rest p.4 follow)
once_complete F test b f R g S cf cg misses front a rest (inr s) follow = rw (misses front a rest s follow) (cg front a rest s follow)

pub law_once : {A : Type 0} (F : List Placed → Type 0) (test : Token → Bool) → Seen test → (b : Bool) (f : List Placed → Answer A) (R : Grammar A) (g : List Placed → Answer A) (S : Grammar A) → Law F f R → Law F g S
    → ((front : List Placed) (a : A) (rest : List Placed) → S front a → F rest → next test (front ++ rest) ≡ false) → Law F (λ ts. cond (next test ts && b) (f (behind ts)) (g ts)) (Either (Only b (One test ▹ λ _. R)) S)
law_once F test seen b f R g S lf lg misses = record { firm = firm_once test seen b f R g S lf.firm lg.firm; complete = once_complete F test b f R g S lf.complete lg.complete misses }

last_complete : {A : Type 0} (F : List Placed → Type 0) (test : Token → Bool) (f : List Placed → Answer A) (R : Grammar A) → Complete F f R → Complete F (λ ts. cond (next test ts) (f (behind ts)) (not_allowed ts)) (One test ▹ λ _. R)
last_complete F test f R cf front a rest d follow =
    let p = front_of test R front a rest d in
    ap (λ (ts : List Placed). cond (next test ts) (f (behind ts)) (not_allowed ts)) p.2 ∙ rw p.3 (cf p.1 a rest p.4 follow)

pub law_last : {A : Type 0} (F : List Placed → Type 0) (test : Token → Bool) → Seen test → (f : List Placed → Answer A) (R : Grammar A) → Law F f R → Law F (λ ts. cond (next test ts) (f (behind ts)) (not_allowed ts)) (One test ▹ λ _. R)
law_last F test seen f R lf = record { firm = firm_last test seen f R lf.firm; complete = last_complete F test f R lf.complete }

-- ---- any number

-- what a walk needs: its steps take something, don't begin where it ends, and may follow each other and stand in front of its end; where it
-- ends it looks at the next token alone
pub record Steps {S : Type 0} (F : List Placed → Type 0) (ends : List Placed → Bool) (goes : S → List Placed → Answer S) (R : S → Grammar S) : Type 0 where
  pub law : (s : S) → Law F (goes s) (R s)
  pub some : (s : S) (front : List Placed) (t : S) → R s front t → 0 < length front
  pub begins : (s : S) (front : List Placed) (t : S) (rest : List Placed) → R s front t → ends (front ++ rest) ≡ false
  pub again : (s : S) (front : List Placed) (t : S) (rest : List Placed) → R s front t → F (front ++ rest)
  pub over : (rest : List Placed) → ends rest ≡ true → F rest
  pub looks : (xs ys : List Placed) → first xs ≡ first ys → ends xs ≡ ends ys

follows : {S : Type 0} (F : List Placed → Type 0) (ends : List Placed → Bool) (goes : S → List Placed → Answer S) (R : S → Grammar S) → Steps F ends goes R → (k : ℕ) (s : S) (front : List Placed) (u : S) (rest : List Placed) → Times R k s front u → ends rest ≡ true → F (front ++ rest)
follows F ends goes R w zero s front u rest d end = rw d.0 (w.over rest end)
follows F ends goes R w (suc k) s front u rest d end = rw (d.3, append_assoc) (w.again s d.1 d.0 (d.2 ++ rest) d.4)

walk_complete : {S : Type 0} (F : List Placed → Type 0) (ends : List Placed → Bool) (goes : S → List Placed → Answer S) (R : S → Grammar S) → Steps F ends goes R → (k n : ℕ) (s : S) (front : List Placed) (u : S) (rest : List Placed) → Times R k s front u → ends rest ≡ true → length front ≤ n → walk ends goes n s (front ++ rest) ≡ Ok (u, rest)
unfolding walk
walk_complete F ends goes R w zero zero s front u rest d end room = rw (d.0, d.1) refl
walk_complete F ends goes R w zero (suc n) s front u rest d end room = rw (d.0, d.1, end) refl
walk_complete F ends goes R w (suc k) zero s front u rest d end room =
    let some : 0 < length d.1 = w.some s d.1 d.0 d.4 in
    let both : length front ≡ length d.1 + length d.2 = ap length d.3 ∙ length-append d.1 d.2 in
    absurd (omega arith)
walk_complete {S} F ends goes R w (suc k) (suc n) s front u rest d end room =
    let some : 0 < length d.1 = w.some s d.1 d.0 d.4 in
    let both : length front ≡ length d.1 + length d.2 = ap length d.3 ∙ length-append d.1 d.2 in
    let all : front ++ rest ≡ d.1 ++ (d.2 ++ rest) = ap (λ (t : List Placed). t ++ rest) d.3 ∙ append_assoc d.1 d.2 rest in
    let one_step : goes s (d.1 ++ (d.2 ++ rest)) ≡ Ok (d.0, d.2 ++ rest) = (w.law s).complete d.1 d.0 (d.2 ++ rest) d.4 (follows F ends goes R w k d.0 d.2 u rest d.5 end) in
    let more : walk ends goes n d.0 (d.2 ++ rest) ≡ Ok (u, rest) = walk_complete F ends goes R w k n d.0 d.2 u rest d.5 end (omega arith) in
    ap (λ (ts : List Placed). walk ends goes (suc n) s ts) all ∙ rw (w.begins s d.1 d.0 (d.2 ++ rest) d.4, one_step) more

many_complete : {S : Type 0} (F : List Placed → Type 0) (ends : List Placed → Bool) (goes : S → List Placed → Answer S) (R : S → Grammar S) (s : S) → Steps F ends goes R → Complete (λ ts. ends ts ≡ true) (λ ts. walk ends goes (length ts) s ts) (Many R s)
many_complete F ends goes R s w front u rest d end =
    let both : length (front ++ rest) ≡ length front + length rest = length-append front rest in
    walk_complete F ends goes R w d.0 (length (front ++ rest)) s front u rest d.1 end (omega arith)

pub steps_go : {S : Type 0} (F : List Placed → Type 0) (ends : List Placed → Bool) (goes : S → List Placed → Answer S) (R : S → Grammar S) → Steps F ends goes R → Going ends goes R
steps_go F ends goes R w = record { firm = λ s. (w.law s).firm; takes_some = w.some; looks = w.looks }

pub law_many : {S : Type 0} (F : List Placed → Type 0) (ends : List Placed → Bool) (goes : S → List Placed → Answer S) (R : S → Grammar S) (s : S) → Steps F ends goes R → Law (λ ts. ends ts ≡ true) (λ ts. walk ends goes (length ts) s ts) (Many R s)
law_many F ends goes R s w = record {
  firm = firm_many ends goes R (steps_go F ends goes R w) s;
  complete = many_complete F ends goes R s w;
}
