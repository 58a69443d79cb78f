-- What is reached at all is reached in as many steps as there are known names: with each step that still brings something a known name
-- more reaches the one that is looked for.
use Rattle.std.proofs.Common.{◌≡◌, ℕ, zero, suc, ◌+◌, ◌-◌, ◌<◌, ◌≤◌, ◌⊎◌, ◌||◌, ◌&&◌, Bool, true, false, cond, List, [], ◌∷◌, ◌++◌, length, map, get_or, Option, Some, None, refl, sym, ap, subst, ◌∙◌, arith, inl, inr}
use Rattle.std.specs.Prelude.{option_and_then, option_map, slice_get}
use Rattle.std.specs.Option.{option_to_list}
use Rattle.std.proofs.lemmas.Option.{get_or_from_slice_get}
use Rattle.std.specs.List.{find, list_any, AllByRecursion}
use Rattle.std.specs.Str.{bytes_eq}
use Rattle.std.proofs.lemmas.Slice.Eq.{bytes_eq-Decides}
use Rattle.jlib.specs.declared.classes.LibClass.{LibClass}
use Rattle.jlib.specs.LibraryClasses as library
use Rattle.jresolution.specs.declared.jprogram.part.CodePart.{CodePart}
use Rattle.jresolution.specs.jprogram.ClassFileParts.{this_name}
use Rattle.jresolution.specs.jprogram.ProgramClasses as classes
use Rattle.jresolution.specs.jprogram.ProgramClasses.{Class, Lib, Program, found_at, known, place_of, reaches, faces_of}
use Rattle.jresolution.specs.jprogram.ProofNames.{supers}
use Rattle.jresolution.proofs.JprogramProofs.InterfaceSearch.{place_named, place_there}

-- ---- booleans and lists

abbrev pub Implies : Bool → Bool → Type 0
Implies a b = a ≡ true → b ≡ true

pub or_right : (a b : Bool) → b ≡ true → (a || b) ≡ true
or_right true b e = refl
or_right false b e = e

or_more : (a b c : Bool) → Implies b c → Implies (a || b) (a || c)
or_more true b c h e = refl
or_more false b c h e = h e

pub or_both : (a b c d : Bool) → Implies a c → Implies b d → Implies (a || b) (c || d)
or_both true b c d f g e = rw (f refl) refl
or_both false b c d f g e = or_right c d (g e)

pub any_more : {A : Type 0} (s t : A → Bool) → ((x : A) → Implies (s x) (t x)) → (xs : List A) → Implies (list_any s xs) (list_any t xs)
any_more s t h [] e = e
any_more s t h (x ∷ xs) e = or_both (s x) (list_any s xs) (t x) (list_any t xs) (h x) (any_more s t h xs) e

pub same_bool : (a b : Bool) → Implies a b → Implies b a → a ≡ b
same_bool true b f g = sym (f refl)
same_bool false true f g = g refl
same_bool false false f g = refl

pub clash : {P : Type 0} (b : Bool) → b ≡ true → b ≡ false → P
clash b t f = absurd cc

-- ---- counting

pub count : {A : Type 0} → (A → Bool) → List A → ℕ
count t [] = 0
count t (x ∷ xs) = cond (t x) 1 0 + count t xs

one_most : (b : Bool) (m n : ℕ) → m ≤ n → cond b 1 0 + m ≤ suc n
one_most true m n le = omega arith
one_most false m n le = omega arith

pub count_most : {A : Type 0} (t : A → Bool) (xs : List A) → count t xs ≤ length xs
unfolding count
count_most t [] = omega arith
count_most t (x ∷ xs) = one_most (t x) (count t xs) (length xs) (count_most t xs)

-- what passes the second test passes the first
abbrev pub Passes : {A : Type 0} → (A → Bool) → (A → Bool) → List A → Type 0
Passes t s xs = AllByRecursion (λ x. Implies (t x) (s x)) xs

grow_at : {A : Type 0} (s t : A → Bool) (x : A) (xs : List A) (a b : Bool) → s x ≡ a → t x ≡ b → Implies a b → (Passes t s xs) ⊎ (count s xs < count t xs) → count s xs ≤ count t xs
    → (Passes t s (x ∷ xs)) ⊎ (cond a 1 0 + count s xs < cond b 1 0 + count t xs)
grow_at s t x xs true true es et h rest le = elim rest [ inl all ↦ inl ((λ e. es), all) | inr lt ↦ inr (omega arith) ]
grow_at s t x xs true false es et h rest le = clash true refl (sym (h refl))
grow_at s t x xs false true es et h rest le = inr (omega arith)
grow_at s t x xs false false es et h rest le = elim rest [ inl all ↦ inl ((λ e. es ∙ sym et ∙ e), all) | inr lt ↦ inr (omega arith) ]

fewer_at : (a b : Bool) (m n : ℕ) → Implies a b → m ≤ n → cond a 1 0 + m ≤ cond b 1 0 + n
fewer_at true true m n h le = omega arith
fewer_at true false m n h le = clash true refl (sym (h refl))
fewer_at false true m n h le = omega arith
fewer_at false false m n h le = omega arith

fewer : {A : Type 0} (s t : A → Bool) → ((x : A) → Implies (s x) (t x)) → (xs : List A) → count s xs ≤ count t xs
unfolding count
fewer s t h [] = omega arith
fewer s t h (x ∷ xs) = fewer_at (s x) (t x) (count s xs) (count t xs) (h x) (fewer s t h xs)

-- of two tests the weaker lets no more pass, or more
pub grow : {A : Type 0} (s t : A → Bool) → ((x : A) → Implies (s x) (t x)) → (xs : List A) → (Passes t s xs) ⊎ (count s xs < count t xs)
unfolding count
grow s t h [] = inl tt
grow s t h (x ∷ xs) = grow_at s t x xs (s x) (t x) refl refl (h x) (grow s t h xs) (fewer s t h xs)

-- ---- the known names

any_append_left : {A : Type 0} (t : A → Bool) (xs ys : List A) → list_any t xs ≡ true → list_any t (xs ++ ys) ≡ true
any_append_left t [] ys e = absurd cc
any_append_left t (x ∷ xs) ys e = or_both (t x) (list_any t xs) (t x) (list_any t (xs ++ ys)) (λ h. h) (any_append_left t xs ys) e

any_append_right : {A : Type 0} (t : A → Bool) (xs ys : List A) → list_any t ys ≡ true → list_any t (xs ++ ys) ≡ true
any_append_right t [] ys e = e
any_append_right t (x ∷ xs) ys e = or_right (t x) (list_any t (xs ++ ys)) (any_append_right t xs ys e)

any_map : {A B : Type 0} (t : B → Bool) (g : A → B) (xs : List A) → list_any (λ x. t (g x)) xs ≡ true → list_any t (map g xs) ≡ true
any_map t g [] e = e
any_map t g (x ∷ xs) e = or_both (t (g x)) (list_any (λ y. t (g y)) xs) (t (g x)) (list_any t (map g xs)) (λ h. h) (any_map t g xs) e

pub name_equal : (x : List ℕ) → bytes_eq x x ≡ true
name_equal x = (bytes_eq-Decides x x).1 refl

pub name_is : (x y : List ℕ) → bytes_eq x y ≡ true → x ≡ y
name_is x y e = (bytes_eq-Decides x y).0 e

slice_any : (ps : List CodePart) (i : ℕ) (part : CodePart) (c : List ℕ) → slice_get ps i ≡ Some part → this_name part.class ≡ c → list_any (λ (q : CodePart). bytes_eq c (this_name q.class)) ps ≡ true
slice_any [] i part c at is = absurd cc
slice_any (q ∷ ps) zero part c at is =
    let same : q ≡ part = cc in
    let name : this_name q.class ≡ c = ap (λ (x : CodePart). this_name x.class) same ∙ is in
    let e : bytes_eq c (this_name q.class) ≡ true = ap (bytes_eq c) name ∙ name_equal c in
    rw e refl
slice_any (q ∷ ps) (suc i) part c at is = or_right (bytes_eq c (this_name q.class)) (list_any (λ (x : CodePart). bytes_eq c (this_name x.class)) ps) (slice_any ps i part c at is)

find_any_at : {A : Type 0} (a b : A → Bool) (x y : A) (xs : List A) (v w : Bool) → a x ≡ v → b x ≡ w → cond (v && w) (Some x) (find (λ z. a z && b z) xs) ≡ Some y → (find (λ z. a z && b z) xs ≡ Some y → list_any b xs ≡ true) → (w || list_any b xs) ≡ true
find_any_at a b x y xs true true ea eb e ih = refl
find_any_at a b x y xs true false ea eb e ih = ih e
find_any_at a b x y xs false true ea eb e ih = refl
find_any_at a b x y xs false false ea eb e ih = ih e

find_any : {A : Type 0} (a b : A → Bool) (y : A) (xs : List A) → find (λ z. a z && b z) xs ≡ Some y → list_any b xs ≡ true
find_any a b y [] e = absurd cc
find_any a b y (x ∷ xs) e = find_any_at a b x y xs (a x) (b x) refl refl e (find_any a b y xs)

pick_at : (t : List ℕ → Type 0) (c x : List ℕ) (xs : List (List ℕ)) (b : Bool) → t x → (list_any (bytes_eq c) xs ≡ true → t c) → bytes_eq c x ≡ b → (b || list_any (bytes_eq c) xs) ≡ true → t c
pick_at t c x xs true here later is e = subst t (sym (name_is c x is)) here
pick_at t c x xs false here later is e = later e

pub pick : (t : List ℕ → Type 0) (c : List ℕ) (xs : List (List ℕ)) → AllByRecursion t xs → list_any (bytes_eq c) xs ≡ true → t c
pick t c [] all e = absurd cc
pick t c (x ∷ xs) all e = pick_at t c x xs (bytes_eq c x) all.0 (pick t c xs all.1) refl e

module _ (p : Program) where
  users : List (List ℕ)
  users = map (λ (part : CodePart). this_name part.class) p.parts

  user_known : (c : List ℕ) (i : ℕ) → place_of p.parts c ≡ Some i → list_any (bytes_eq c) (known p) ≡ true
  unfolding users
  user_known c i e =
      let there = place_there p.parts c i e in
      let is : get_or p.parts i there.0 ≡ there.0 = get_or_from_slice_get p.parts i there.0 there.0 there.1 in
      let name : this_name there.0.class ≡ c = ap (λ (x : CodePart). this_name x.class) (sym is) ∙ place_named p.parts c i there.0 e in
      any_append_left (bytes_eq c) users (map library.name_of library.classes) (any_map (bytes_eq c) (λ (part : CodePart). this_name part.class) p.parts (slice_any p.parts i there.0 c there.1 name))

  lib_known : (c : List ℕ) (l : LibClass) → library.class_named p.side c ≡ Some l → list_any (bytes_eq c) (known p) ≡ true
  unfolding users
  lib_known c l e =
      any_append_right (bytes_eq c) users (map library.name_of library.classes) (any_map (bytes_eq c) library.name_of library.classes (find_any (library.stands_on p.side) (λ (x : LibClass). bytes_eq c (library.name_of x)) l library.classes e))

  lib_or : (c : List ℕ) (o : Option LibClass) → library.class_named p.side c ≡ o → (option_map Lib o ≡ None) ⊎ (list_any (bytes_eq c) (known p) ≡ true)
  lib_or c None e = inl refl
  lib_or c (Some l) e = inr (lib_known c l e)

  known_at : (c : List ℕ) (o : Option ℕ) → place_of p.parts c ≡ o → (classes.find p c ≡ None) ⊎ (list_any (bytes_eq c) (known p) ≡ true)
  unfolding classes.find
  known_at c (Some i) e = inr (user_known c i e)
  known_at c None e = elim (lib_or c (library.class_named p.side c) refl) [ inl none ↦ inl (ap (found_at p c) e ∙ none) | inr one ↦ inr one ]

  -- a name that is found is known
  pub known_or : (c : List ℕ) → (classes.find p c ≡ None) ⊎ (list_any (bytes_eq c) (known p) ≡ true)
  known_or c = known_at c (place_of p.parts c) refl

  -- ---- settling

  module _ (d : List ℕ) where
    abbrev R : ℕ → List ℕ → Bool
    R n c = reaches p n d c

    -- with a step more nothing is lost
    more : (n : ℕ) (c : List ℕ) → Implies (R n c) (R (suc n) c)
    unfolding reaches
    more zero c e = absurd cc
    more (suc n) c e = any_more (λ s. bytes_eq d s || R n s) (λ s. bytes_eq d s || R (suc n) s) (λ s. or_more (bytes_eq d s) (R n s) (R (suc n) s) (more n s)) (supers p c) e

    pub none_over : (c : List ℕ) (n : ℕ) → classes.find p c ≡ None → R n c ≡ false
    unfolding reaches
    none_over c zero e = refl
    none_over c (suc n) e = ap (λ (o : Option Class). list_any (λ s. bytes_eq d s || R n s) (option_to_list (option_and_then classes.above o) ++ faces_of o)) e

    -- a step more brings nothing
    abbrev Stable : ℕ → Type 0
    Stable m = (c : List ℕ) → Implies (R (suc m) c) (R m c)

    stable_by : (m : ℕ) → Passes (R (suc m)) (R m) (known p) → Stable m
    stable_by m all c e = elim (known_or c) [
      | inl none ↦ absurd (clash (R (suc m) c) e (none_over c (suc m) none))
      | inr one ↦ pick (λ x. Implies (R (suc m) x) (R m x)) c (known p) all one e
    ]

    stable_next : (m : ℕ) → Stable m → Stable (suc m)
    unfolding reaches
    stable_next m st c e = any_more (λ s. bytes_eq d s || R (suc m) s) (λ s. bytes_eq d s || R m s) (λ s. or_more (bytes_eq d s) (R (suc m) s) (R m s) (st s)) (supers p c) e

    stable_more : (m j : ℕ) → Stable m → Stable (j + m)
    stable_more m zero st = subst Stable (zero_plus m) st
      where
        zero_plus : (k : ℕ) → k ≡ zero + k
        zero_plus k = omega arith
    stable_more m (suc j) st = subst Stable (suc_plus j m) (stable_next (j + m) (stable_more m j st))
      where
        suc_plus : (a b : ℕ) → suc (a + b) ≡ suc a + b
        suc_plus a b = omega arith

    record Settles (n : ℕ) : Type 0 where
      pub at : ℕ
      pub before : at < n
      pub stable : Stable at

    later : (n : ℕ) → Settles n → Settles (suc n)
    later n s = let lt = s.before in record { at = s.at; before = omega (arith, lt); stable = s.stable }

    progress : (n : ℕ) → (Settles n) ⊎ (n ≤ count (R n) (known p))
    progress zero = inr (omega arith)
    progress (suc n) = elim (progress n) [
      | inl s ↦ inl (later n s)
      | inr le ↦ elim (grow (R n) (R (suc n)) (more n) (known p)) [
        | inl all ↦ inl (record { at = n; before = omega arith; stable = stable_by n all })
        | inr lt ↦ inr (omega arith)
      ]
    ]

    abbrev N : ℕ
    N = length (known p)

    stable_from : Settles (suc N) → Stable N
    stable_from s =
        let lt = s.before in
        let e : (N - s.at) + s.at ≡ N = omega (arith, lt) in
        subst Stable e (stable_more s.at (N - s.at) s.stable)

    stable : Stable N
    stable = elim (progress (suc N)) [
      | inl s ↦ stable_from s
      | inr le ↦ let most = count_most (R (suc N)) (known p) in absurd (omega (arith, le, most))
    ]

    -- as many steps as there are known names reach all that is reached
    pub settled : (c : List ℕ) → reaches p (length (known p)) d c ≡ list_any (λ s. bytes_eq d s || reaches p (length (known p)) d s) (supers p c)
    unfolding reaches
    settled c = same_bool (R N c) (R (suc N) c) (more N c) (stable c)
