-- The laws of unions. That the first bytes of two forms are apart is computed, and so is that each value is of one form.
use Rattle.std.proofs.Common.{◌≡◌, ℕ, ◌≤◌, Bool, true, false, ◌&&◌, ◌||◌, not, cond, eqb, List, [], ◌∷◌, ◌++◌, length, Option, Some, None, Ok, Err, refl, sym, ap, subst, ◌∙◌, arith, inl, inr}
use Rattle.std.specs.Prelude.{IsTrue, is_some}
use Rattle.std.proofs.lemmas.Bool.{cases_Bool}
use Rattle.std.proofs.lemmas.List.{length-append}
use Rattle.jground.specs.jbase.MemoryFailures.{◌>>=◌}
use Rattle.jground.specs.declared.jformat.error.Fault.{Fault}
use Rattle.jground.specs.jformat.Format.{IsBytes, Answer, Format, fault, part_fits}
use Rattle.jground.specs.jformat.TagTables.{is_in, apart}
use Rattle.jground.specs.jformat.UnionFormats.{Cases, case, sole, ◌∣◌, union, union_at, IsOnce}
use Rattle.jground.proofs.JformatProofs.ReadingSteps.{IsBytes-rest, bind_ok, ok_is, first_true, second_true, fault_within}
use Rattle.jground.proofs.JformatProofs.FormatLaws.{Takes, IsReading, IsFormat, HasBytes, void_law, ok_reading}
use Rattle.jground.proofs.JformatProofs.Unions.{is_in_append, not_in_first, in_one, cond_reading}

-- ---- names for what definitions say in place

abbrev case_spell : {K P : Type 0} → ℕ → Format K P → Option P → List ℕ
case_spell t f x = elim x [ Some p ↦ t ∷ f.spell p | None ↦ [] ]

abbrev made_of : {A P : Type 0} → (P → A) → A → Option P → A
made_of make a x = elim x [ Some p ↦ make p | None ↦ a ]

pub record IsCases {K A : Type 0} (f : Cases K A) : Type 0 where
  pub owns : (t : ℕ) (rest : List ℕ) (x : A × List ℕ) → f.read t rest ≡ Ok x → f.has x.0 ≡ true
  pub takes : ((a : A) → IsTrue (f.once a)) → (t : ℕ) (rest : List ℕ) (x : A × List ℕ) → IsBytes rest → is_in t f.begins ≡ true → f.read t rest ≡ Ok x → Takes f.spell f.fits (t ∷ rest) x
  pub again : (a : A) (rest : List ℕ) → IsTrue (f.fits a) → (t : ℕ) × (more : List ℕ) × (f.spell a ++ rest ≡ t ∷ more) × (is_in t f.begins ≡ true) × (f.read t more ≡ Ok (f.made a, rest))
  pub reading : (t : ℕ) → IsReading (f.read t)

-- ---- one form

made_back : {A P : Type 0} (parts : A → Option P) (made : A) (p : P) → parts made ≡ Some p → is_some (parts made) ≡ true
made_back parts made p h = rw h refl

case_owns : {K A P : Type 0} (t : ℕ) (make : P → A) (parts : A → Option P) (f : Format K P) → ((p : P) → parts (make p) ≡ Some p) → (u : ℕ) (rest : List ℕ) (x : A × List ℕ) → (case t make parts f).read u rest ≡ Ok x → (case t make parts f).has x.0 ≡ true
case_owns {K} {A} {P} t make parts f back u rest x e =
    let a = bind_ok (f.read rest) (λ y. Ok (make y.0, y.1)) x e in
    let value : A × List ℕ = (make a.0.0, a.0.1) in
    subst (λ (y : A × List ℕ). is_some (parts y.0) ≡ true) (ok_is (Fault K) value x a.2) (made_back parts (make a.0.0) a.0.0 (back a.0.0))

case_takes : {K A P : Type 0} (t : ℕ) (make : P → A) (parts : A → Option P) (f : Format K P) → ((p : P) → parts (make p) ≡ Some p) → IsFormat f → (u : ℕ) (rest : List ℕ) (x : A × List ℕ) → IsBytes rest → is_in u (t ∷ []) ≡ true → (case t make parts f).read u rest ≡ Ok x → Takes (case t make parts f).spell (case t make parts f).fits (u ∷ rest) x
case_takes {K} {A} {P} t make parts f back F u rest x fits in_tags e =
    let a = bind_ok (f.read rest) (λ y. Ok (make y.0, y.1)) x e in
    let s = F.takes rest a.0 fits a.1 in
    let m = back a.0.0 in
    let value : A × List ℕ = (make a.0.0, a.0.1) in
    let all : Takes (case t make parts f).spell (case t make parts f).fits (u ∷ rest) value = record {
      parts = rw m (ap (λ (k : ℕ). k ∷ rest) (in_one u t in_tags) ∙ ap (λ (r : List ℕ). t ∷ r) s.parts);
      rest_fits = s.rest_fits;
      fit = rw m s.fit;
    } in
    subst (λ (y : A × List ℕ). Takes (case t make parts f).spell (case t make parts f).fits (u ∷ rest) y) (ok_is (Fault K) value x a.2) all

abbrev remade : {K A P : Type 0} → Format K P → (P → A) → List ℕ → Answer K A
remade f make rest = f.read rest >>= λ x. Ok (make x.0, x.1)

case_again : {K A P : Type 0} (t : ℕ) (make : P → A) (f : Format K P) → IsFormat f → (a : A) (rest : List ℕ) (o : Option P) → IsTrue (part_fits f o) → (u : ℕ) × (more : List ℕ) × (case_spell t f o ++ rest ≡ u ∷ more) × (is_in u (t ∷ []) ≡ true) × (remade f make more ≡ Ok (made_of make a o, rest))
case_again t make f F a rest (Some p) fit =
    let one = F.again p rest fit in
    (t, f.spell p ++ rest, refl, (let same : eqb t t ≡ true = grind arith in rw same refl), rw one refl)
case_again t make f F a rest None fit = absurd cc

-- A form has the parts that its values are made of: where it has its constructor, this is computed.
pub case_law : {K A P : Type 0} {t : ℕ} {make : P → A} {f : Format K P} (parts : A → Option P) → ((p : P) → parts (make p) ≡ Some p) → IsFormat f → IsCases (case t make parts f)
case_law {t = t} {make = make} {f = f} parts back F = record {
  owns = case_owns t make parts f back;
  takes = λ once. case_takes t make parts f back F;
  again = λ a rest fit. case_again t make f F a rest (parts a) fit;
  reading = λ u. ok_reading f.read make F.reading;
}

-- a form without parts, whose test its value passes
pub sole_law : {K A : Type 0} {t : ℕ} {one : A} (test : A → Bool) → test one ≡ true → IsCases (sole {K = K} t one test)
sole_law test h = case_law (λ a. cond (test a) (Some tt) None) (λ p. rw h refl) void_law

-- ---- one form or another

or_left : (b c : Bool) → b ≡ true → (b || c) ≡ true
or_left b c h = rw h refl

or_right : (b c : Bool) → c ≡ true → (b || c) ≡ true
or_right true c h = refl
or_right false c h = h

not_both : (b c : Bool) → IsTrue (not (b && c)) → c ≡ true → b ≡ false
not_both false c h k = refl
not_both true true h k = absurd cc
not_both true false h k = absurd cc

either_owns : {K A : Type 0} (f g : Cases K A) → IsCases f → IsCases g → (t : ℕ) (rest : List ℕ) (x : A × List ℕ) (b : Bool) → cond b (f.read t rest) (g.read t rest) ≡ Ok x → (f ∣ g).has x.0 ≡ true
either_owns f g F G t rest x true e = or_left (f.has x.0) (g.has x.0) (F.owns t rest x e)
either_owns f g F G t rest x false e = or_right (f.has x.0) (g.has x.0) (G.owns t rest x e)

either_takes : {K A : Type 0} (f g : Cases K A) → IsCases f → IsCases g → ((a : A) → IsTrue ((f ∣ g).once a)) → (t : ℕ) (rest : List ℕ) (x : A × List ℕ) → IsBytes rest → is_in t (f ∣ g).begins ≡ true → (f ∣ g).read t rest ≡ Ok x → Takes (f ∣ g).spell (f ∣ g).fits (t ∷ rest) x
either_takes {K} {A} f g F G once t rest x fits in_tags e =
    let parted = λ (a : A). first_true (not (f.has a && g.has a)) (f.once a && g.once a) (once a) in
    let inside = λ (a : A). second_true (not (f.has a && g.has a)) (f.once a && g.once a) (once a) in
    elim (cases_Bool (is_in t f.begins)) [
      | inl hit ↦
          let e' : f.read t rest ≡ Ok x = rw hit at e in
          let s = F.takes (λ a. first_true (f.once a) (g.once a) (inside a)) t rest x fits hit e' in
          let own = F.owns t rest x e' in
          record { parts = rw own s.parts; rest_fits = s.rest_fits; fit = rw own s.fit }
      | inr miss ↦
          let e' : g.read t rest ≡ Ok x = rw miss at e in
          let in_g : is_in t g.begins ≡ true = (rw miss at (sym (is_in_append t f.begins g.begins))) ∙ in_tags in
          let s = G.takes (λ a. second_true (f.once a) (g.once a) (inside a)) t rest x fits in_g e' in
          let own = not_both (f.has x.0) (g.has x.0) (parted x.0) (G.owns t rest x e') in
          record { parts = rw own s.parts; rest_fits = s.rest_fits; fit = rw own s.fit }
    ]

either_again : {K A : Type 0} (f g : Cases K A) → IsTrue (apart f.begins g.begins) → IsCases f → IsCases g → (a : A) (rest : List ℕ) → IsTrue ((f ∣ g).fits a) → (t : ℕ) × (more : List ℕ) × ((f ∣ g).spell a ++ rest ≡ t ∷ more) × (is_in t (f ∣ g).begins ≡ true) × ((f ∣ g).read t more ≡ Ok ((f ∣ g).made a, rest))
either_again f g P F G a rest fit =
    elim (cases_Bool (f.has a)) [
      | inl own ↦
          let h = F.again a rest (rw own at fit) in
          let one = h.4 in
          (h.0, h.1, rw own h.2, is_in_append h.0 f.begins g.begins ∙ rw h.3 refl, rw (own, h.3) one)
      | inr own ↦
          let h = G.again a rest (rw own at fit) in
          let one = h.4 in
          let out = not_in_first h.0 f.begins g.begins P h.3 in
          (h.0, h.1, rw own h.2, is_in_append h.0 f.begins g.begins ∙ rw out h.3, rw (own, out) one)
    ]

-- the first bytes are computed to be apart
pub either_law : {K A : Type 0} {f g : Cases K A} → IsTrue (apart f.begins g.begins) → IsCases f → IsCases g → IsCases (f ∣ g)
either_law {f = f} {g = g} P F G = record {
  owns = λ t rest x e. either_owns f g F G t rest x (is_in t f.begins) e;
  takes = either_takes f g F G;
  again = either_again f g P F G;
  reading = λ t. cond_reading (is_in t f.begins) (f.read t) (g.read t) (F.reading t) (G.reading t);
}

-- ---- all forms

union_takes : {K A : Type 0} (cut : K) (unknown : ℕ → K) (f : Cases K A) → ((a : A) → IsTrue (f.once a)) → IsCases f → (bytes : List ℕ) (x : A × List ℕ) → IsBytes bytes → union_at cut unknown f bytes ≡ Ok x → Takes f.spell f.fits bytes x
union_takes cut unknown f once F [] x fits e = absurd cc
union_takes {K} {A} cut unknown f once F (t ∷ rest) x fits e =
    elim (cases_Bool (is_in t f.begins)) [
      | inl hit ↦ let e' : f.read t rest ≡ Ok x = rw hit at e in F.takes once t rest x (IsBytes-rest t rest fits) hit e'
      | inr miss ↦ let e' : fault {A = A × List ℕ} (unknown t) (t ∷ rest) ≡ Ok x = rw miss at e in absurd cc
    ]

union_again : {K A : Type 0} (cut : K) (unknown : ℕ → K) (f : Cases K A) → ((a : A) → f.made a ≡ a) → IsCases f → (a : A) (rest : List ℕ) → IsTrue (f.fits a) → union_at cut unknown f (f.spell a ++ rest) ≡ Ok (a, rest)
union_again cut unknown f made F a rest fit =
    let h = F.again a rest fit in
    let one = h.4 in
    ap (union_at cut unknown f) h.2 ∙ rw (h.3, one) (ap (λ y. Ok (y, rest)) (made a))

union_within : {K A : Type 0} (cut : K) (unknown : ℕ → K) (f : Cases K A) → IsCases f → (bytes : List ℕ) (d : Fault K) → union_at cut unknown f bytes ≡ Err d → d.left ≤ length bytes
union_within cut unknown f F [] d e = fault_within cut [] [] d (omega arith) cc
union_within {K} {A} cut unknown f F (t ∷ rest) d e =
    elim (cases_Bool (is_in t f.begins)) [
      | inl hit ↦ let e' : f.read t rest ≡ Err d = rw hit at e in let le = (F.reading t).within rest d e' in omega arith
      | inr miss ↦ let e' : fault {A = A × List ℕ} (unknown t) (t ∷ rest) ≡ Err d = rw miss at e in fault_within (unknown t) (t ∷ rest) (t ∷ rest) d (omega arith) cc
    ]

union_shorter : {K A : Type 0} (cut : K) (unknown : ℕ → K) (f : Cases K A) → IsCases f → (bytes : List ℕ) (x : A × List ℕ) → union_at cut unknown f bytes ≡ Ok x → length x.1 ≤ length bytes
union_shorter cut unknown f F [] x e = absurd cc
union_shorter {K} {A} cut unknown f F (t ∷ rest) x e =
    elim (cases_Bool (is_in t f.begins)) [
      | inl hit ↦ let e' : f.read t rest ≡ Ok x = rw hit at e in let le = (F.reading t).shorter rest x e' in omega arith
      | inr miss ↦ let e' : fault {A = A × List ℕ} (unknown t) (t ∷ rest) ≡ Ok x = rw miss at e in absurd cc
    ]

pub union_law : {K A : Type 0} (cut : K) (unknown : ℕ → K) (f : Cases K A) → ((a : A) → IsOnce f a) → IsCases f → IsFormat (union cut unknown f)
union_law {K} {A} cut unknown f once F = record {
  takes = union_takes cut unknown f (λ (a : A). (once a).0) F;
  again = union_again cut unknown f (λ (a : A). (once a).1) F;
  reading = record { within = union_within cut unknown f F; shorter = union_shorter cut unknown f F };
}

pub union_some : {K A : Type 0} (cut : K) (unknown : ℕ → K) (f : Cases K A) → IsCases f → HasBytes (union cut unknown f)
union_some cut unknown f F a fit =
    let h = F.again a [] fit in
    omega (arith, ap length h.2, length-append (f.spell a) [])
