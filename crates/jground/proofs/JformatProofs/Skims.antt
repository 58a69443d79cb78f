-- The laws of passes: a looser reading goes over what a stricter format spells.
use Rattle.std.proofs.Common.{◌≡◌, ℕ, suc, ◌≤◌, Bool, true, false, cond, List, [], ◌∷◌, ◌++◌, length, Option, Some, None, Result, Ok, Err, refl, sym, ap, subst, ◌∙◌, append_assoc, inl, inr}
use Rattle.std.specs.Prelude.{IsTrue}
use Rattle.std.specs.List.{flat_map, list_all}
use Rattle.std.proofs.lemmas.List.Concat.{flat_map-cons}
use Rattle.jground.specs.jbase.MemoryFailures.{◌>>=◌}
use Rattle.jground.specs.declared.jformat.error.Fault.{Fault}
use Rattle.jground.specs.jformat.Format.{Answer, Format, ◌·◌, ◌▹◌, via, as_case, part_fits, such, passed, is_good, part_spell}
use Rattle.jground.specs.jformat.BodyFormats.{Body, sized, block, counted, times_at}
use Rattle.jground.specs.jformat.RepeatedReads.{passes, ahead}
use Rattle.jground.proofs.JformatProofs.ReadingSteps.{bind_ok, bind_err, ok_is, both, first_true, second_true, passed_none, passed_err}
use Rattle.jground.proofs.JformatProofs.FormatLaws.{IsFormat}
use Rattle.jground.proofs.JformatProofs.Blocks.{IsBody, run_again}

-- The first pass finds in each text that a later one spells what the later one was given.
pub passes_law : {K T A : Type 0} (first : List ℕ → Result T (Fault K)) (found : A → T) (later : T → Body K A) → ((t : T) → IsBody (later t)) → ((t : T) (a : A) → IsTrue ((later t).fits a) → first ((later t).spell a) ≡ Ok (found a))
    → ((bytes : List ℕ) (d : Fault K) → first bytes ≡ Err d → d.left ≤ length bytes) → IsBody (passes first found later)
passes_law {K} {T} {A} first found later B again within = record {
  takes = λ bytes a fits e.
      let p = bind_ok (first bytes) (λ t. (later t).read bytes) a e in
      let s = (B p.0).takes bytes a fits p.2 in
      let same : p.0 ≡ found a = ok_is (Fault K) p.0 (found a) (sym p.1 ∙ ap first s.1 ∙ again p.0 a s.0) in
      subst (λ (t : T). IsTrue ((later t).fits a) × (bytes ≡ (later t).spell a)) same s;
  again = λ a fit.
      let one = again (found a) a fit in
      let two = (B (found a)).again a fit in
      rw one two;
  within = λ bytes d e.
      elim (bind_err (first bytes) (λ t. (later t).read bytes) d e) [
        | inl h ↦ within bytes d h
        | inr h ↦ (B h.0).within bytes d h.2
      ];
}

-- ---- looking ahead

passed_here : {K A : Type 0} (o : Option K) (bytes : List ℕ) (x : A × List ℕ) (y : A × List ℕ) → passed o bytes x ≡ Ok y → is_good o ≡ true
passed_here None bytes x y e = refl
passed_here (Some k) bytes x y e = absurd cc

pub ahead_law : {K T A : Type 0} (loose : List ℕ → Answer K T) (found : A → T) (test : T → Option K) (g : Format K A) → IsFormat g
    → ((a : A) (rest : List ℕ) → IsTrue (g.fits a) → loose (g.spell a ++ rest) ≡ Ok (found a, rest)) → ((bytes : List ℕ) (d : Fault K) → loose bytes ≡ Err d → d.left ≤ length bytes) → IsFormat (ahead loose found test g)
ahead_law {K} {T} {A} loose found test g G over within = record {
  takes = λ bytes x fits e.
      let a = bind_ok (loose bytes) (λ t. passed (test t.0) bytes t >>= λ _. g.read bytes) x e in
      let b = bind_ok (passed (test a.0.0) bytes a.0) (λ _. g.read bytes) x a.2 in
      let s = G.takes bytes x fits b.2 in
      let made : T × List ℕ = (found x.0, x.1) in
      let same : a.0 ≡ made = ok_is (Fault K) a.0 made (sym a.1 ∙ ap loose s.parts ∙ over x.0 x.1 s.fit) in
      record {
        parts = s.parts;
        rest_fits = s.rest_fits;
        fit = both _ _ s.fit (ap (λ (y : T × List ℕ). is_good (test y.0)) (sym same) ∙ passed_here (test a.0.0) bytes a.0 b.0 b.1);
      };
  again = λ x rest fit.
      let fit_g = first_true (g.fits x) (is_good (test (found x))) fit in
      let made : T × List ℕ = (found x, rest) in
      let one = over x rest fit_g in
      let two = passed_none (test (found x)) (g.spell x ++ rest) made (second_true (g.fits x) (is_good (test (found x))) fit) in
      let three = G.again x rest fit_g in
      rw (one, two) three;
  reading = record {
    within = λ bytes d e.
        elim (bind_err (loose bytes) (λ t. passed (test t.0) bytes t >>= λ _. g.read bytes) d e) [
          | inl h ↦ within bytes d h
          | inr h ↦ elim (bind_err (passed (test h.0.0) bytes h.0) (λ _. g.read bytes) d h.2) [
            | inl k ↦ passed_err (test h.0.0) bytes h.0 d k
            | inr k ↦ G.reading.within bytes d k.2
          ]
        ];
    shorter = λ bytes x e.
        let a = bind_ok (loose bytes) (λ t. passed (test t.0) bytes t >>= λ _. g.read bytes) x e in
        let b = bind_ok (passed (test a.0.0) bytes a.0) (λ _. g.read bytes) x a.2 in
        G.reading.shorter bytes x b.2;
  };
}

-- ---- a looser format reads over what a stricter one spells

abbrev pub Skims : {K A B : Type 0} → Format K A → Format K B → Type 0
Skims {K} {A} {B} f g = (b : B) (rest : List ℕ) → IsTrue (g.fits b) → (a : A) × (f.read (g.spell b ++ rest) ≡ Ok (a, rest))

pub skims_itself : {K A : Type 0} (f : Format K A) → IsFormat f → Skims f f
skims_itself f F = λ b rest fit. (b, F.again b rest fit)

pub skims_such : {K A B : Type 0} (f : Format K A) (test : B → Option K) (g : Format K B) → Skims f g → Skims f (such test g)
skims_such f test g S = λ b rest fit. S b rest (first_true (g.fits b) (is_good (test b)) fit)

pub skims_via : {K A B C : Type 0} (f : Format K A) (make : B → C) (parts : C → B) (g : Format K B) → Skims f g → Skims f (via make parts g)
skims_via f make parts g S = λ c rest fit. S (parts c) rest fit

skims_part : {K A B : Type 0} (f : Format K A) (g : Format K B) → Skims f g → (o : Option B) (rest : List ℕ) → IsTrue (part_fits g o) → (a : A) × (f.read (part_spell g o ++ rest) ≡ Ok (a, rest))
skims_part f g S (Some b) rest fit = S b rest fit
skims_part f g S None rest fit = absurd cc

pub skims_case : {K A B C : Type 0} (f : Format K A) (make : B → C) (parts : C → Option B) (g : Format K B) → Skims f g → Skims f (as_case make parts g)
skims_case {K} {A} {B} {C} f make parts g S = λ c rest fit. skims_part f g S (parts c) rest fit

pub skims_cond : {K A B : Type 0} (f : Format K A) (b : Bool) (g h : Format K B) → Skims f g → Skims f h → Skims f (cond b g h)
skims_cond f true g h S T = S
skims_cond f false g h S T = T

pub skims_then : {K A B C D : Type 0} (f : Format K A) (g : Format K B) (h : Format K C) (k : C → Format K D) → Skims f h → ((c : C) → Skims g (k c)) → Skims (f · g) (h ▹ k)
skims_then f g h k S T = λ p rest fit.
    let one = S p.0 ((k p.0).spell p.1 ++ rest) (first_true (h.fits p.0) ((k p.0).fits p.1) fit) in
    let two = T p.0 p.1 rest (second_true (h.fits p.0) ((k p.0).fits p.1) fit) in
    let eq1 = one.1 in
    let eq2 = two.1 in
    ((one.0, two.0), ap (f · g).read (append_assoc (h.spell p.0) ((k p.0).spell p.1) rest) ∙ rw (eq1, eq2) refl)

pub skims_pair : {K A B C D : Type 0} (f : Format K A) (g : Format K B) (h : Format K C) (k : Format K D) → Skims f h → Skims g k → Skims (f · g) (h · k)
skims_pair f g h k S T = λ p rest fit.
    let one = S p.0 (k.spell p.1 ++ rest) (first_true (h.fits p.0) (k.fits p.1) fit) in
    let two = T p.1 rest (second_true (h.fits p.0) (k.fits p.1) fit) in
    let eq1 = one.1 in
    let eq2 = two.1 in
    ((one.0, two.0), ap (f · g).read (append_assoc (h.spell p.0) (k.spell p.1) rest) ∙ rw (eq1, eq2) refl)

-- the bytes of a block
pub skims_block : {K A : Type 0} (count : Format K ℕ) (cut : K) (f : Body K A) → IsFormat count → Skims (sized count cut) (block count cut f)
skims_block count cut f C = λ a rest fit.
    let one = C.again (length (f.spell a)) (f.spell a ++ rest) (second_true (f.fits a) (count.fits (length (f.spell a))) fit) in
    let two = run_again cut (length (f.spell a)) (f.spell a) rest refl in
    (f.spell a, ap (sized count cut).read (append_assoc (count.spell (length (f.spell a))) (f.spell a) rest) ∙ rw (one, two) refl)

times_skim : {K A B : Type 0} (f : Format K A) (g : Format K B) → Skims f g → (xs : List B) (rest : List ℕ) → IsTrue (list_all g.fits xs) → (ys : List A) × (times_at f.read (length xs) (flat_map g.spell xs ++ rest) ≡ Ok (ys, rest))
unfolding times_at
times_skim f g S [] rest fit = ([], refl)
times_skim f g S (x ∷ xs) rest fit =
    let regrouped : flat_map g.spell (x ∷ xs) ++ rest ≡ g.spell x ++ (flat_map g.spell xs ++ rest) = ap (λ (t : List ℕ). t ++ rest) (flat_map-cons g.spell x xs) ∙ append_assoc (g.spell x) (flat_map g.spell xs) rest in
    let one = S x (flat_map g.spell xs ++ rest) (first_true (g.fits x) (list_all g.fits xs) fit) in
    let others = times_skim f g S xs rest (second_true (g.fits x) (list_all g.fits xs) fit) in
    let eq1 = one.1 in
    let eq2 = others.1 in
    (one.0 ∷ others.0, ap (times_at f.read (suc (length xs))) regrouped ∙ rw (eq1, eq2) refl)

pub skims_counted : {K A B : Type 0} (count : Format K ℕ) (f : Format K A) (g : Format K B) → IsFormat count → Skims f g → Skims (counted count f) (counted count g)
skims_counted count f g C S = λ xs rest fit.
    let one = C.again (length xs) (flat_map g.spell xs ++ rest) (second_true (list_all g.fits xs) (count.fits (length xs)) fit) in
    let all = times_skim f g S xs rest (first_true (list_all g.fits xs) (count.fits (length xs)) fit) in
    let eq = all.1 in
    (all.0, ap (counted count f).read (append_assoc (count.spell (length xs)) (flat_map g.spell xs) rest) ∙ rw (one, eq) refl)
