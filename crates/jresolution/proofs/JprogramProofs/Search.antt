-- A search of interfaces with marks finds what is first along all of them: what is marked and comes again has been gone through whole,
-- since heights fall along what is in front of it.
use Rattle.std.proofs.Common.{◌≡◌, ℕ, zero, suc, ◌<◌, ◌≤◌, Bool, List, [], ◌∷◌, ◌++◌, length, Option, Some, None, refl, sym, ap, ◌∙◌, arith, append_assoc}
use Rattle.std.specs.Prelude.{IsTrue, nat_lt}
use Rattle.std.specs.List.{list_all}
use Rattle.std.proofs.lemmas.Bool.{ltb-true, lt-ltb}
use Rattle.std.proofs.lemmas.List.{append-nil}
use Rattle.jground.specs.jbase.FirstFaults.{first_some, or_else}
use Rattle.jground.proofs.JformatProofs.ReadingSteps.{both, first_true, second_true}
use Rattle.jresolution.specs.declared.jprogram.member.Member.{Member}
use Rattle.jresolution.specs.jprogram.ProgramClasses.{Program, face_names, known, over}
use Rattle.jresolution.specs.jprogram.InterfaceSearch.{IsLayered}

-- ---- lists

or_none : {A : Type 0} (o : Option A) → or_else o None ≡ o
or_none None = refl
or_none (Some x) = refl

or_regroup : {A : Type 0} (a b c : Option A) → or_else (or_else a b) c ≡ or_else a (or_else b c)
or_regroup None b c = refl
or_regroup (Some x) b c = refl

first-append : {A B : Type 0} (f : A → Option B) (xs ys : List A) → first_some f (xs ++ ys) ≡ or_else (first_some f xs) (first_some f ys)
unfolding first_some
first-append f [] ys = refl
first-append f (x ∷ xs) ys = ap (or_else (f x)) (first-append f xs ys) ∙ sym (or_regroup (f x) (first_some f xs) (first_some f ys))

pub all-append : {A : Type 0} (t : A → Bool) (xs ys : List A) → IsTrue (list_all t xs) → IsTrue (list_all t ys) → IsTrue (list_all t (xs ++ ys))
all-append t [] ys a b = b
all-append t (x ∷ xs) ys a b = both (t x) (list_all t (xs ++ ys)) (first_true (t x) (list_all t xs) a) (all-append t xs ys (second_true (t x) (list_all t xs) a) b)

all-weaken : {A : Type 0} (s t : A → Bool) → ((x : A) → IsTrue (s x) → IsTrue (t x)) → (xs : List A) → IsTrue (list_all s xs) → IsTrue (list_all t xs)
all-weaken s t w [] a = a
all-weaken s t w (x ∷ xs) a = both (t x) (list_all t xs) (w x (first_true (s x) (list_all s xs) a)) (all-weaken s t w xs (second_true (s x) (list_all s xs) a))

-- ---- the list of interfaces

over-append : (p : Program) (n : ℕ) (xs ys : List (List ℕ)) → over p n (xs ++ ys) ≡ over p n xs ++ over p n ys
unfolding over
over-append p zero xs ys = refl
over-append p (suc n) [] ys = refl
over-append p (suc n) (x ∷ xs) ys = ap (λ (zs : List (List ℕ)). (x ∷ over p n (face_names p x)) ++ zs) (over-append p (suc n) xs ys) ∙ sym (append_assoc (x ∷ over p n (face_names p x)) (over p (suc n) xs) (over p (suc n) ys))

over-none : (p : Program) (n : ℕ) → over p n [] ≡ []
unfolding over
over-none p zero = refl
over-none p (suc n) = refl

over-cons : (p : Program) (n : ℕ) (d : List ℕ) (ds : List (List ℕ)) → over p (suc n) (d ∷ ds) ≡ (d ∷ over p n (face_names p d)) ++ over p (suc n) ds
unfolding over
over-cons p n d ds = refl

-- all of these names have heights below a number
abbrev pub Below : (List ℕ → ℕ) → ℕ → List (List ℕ) → Type 0
Below h n ds = IsTrue (list_all (λ d. nat_lt (h d) n) ds)

pub below-head : (h : List ℕ → ℕ) (n : ℕ) (d : List ℕ) (ds : List (List ℕ)) → Below h n (d ∷ ds) → h d < n
below-head h n d ds a = ltb-true (h d) n (first_true (nat_lt (h d) n) (list_all (λ e. nat_lt (h e) n) ds) a)

pub below-tail : (h : List ℕ → ℕ) (n : ℕ) (d : List ℕ) (ds : List (List ℕ)) → Below h n (d ∷ ds) → Below h n ds
below-tail h n d ds a = second_true (nat_lt (h d) n) (list_all (λ e. nat_lt (h e) n) ds) a

below-more : (h : List ℕ → ℕ) (n m : ℕ) (ds : List (List ℕ)) → n ≤ m → Below h n ds → Below h m ds
below-more h n m ds le a = all-weaken (λ d. nat_lt (h d) n) (λ d. nat_lt (h d) m) (λ d lt. let k : h d < n = ltb-true (h d) n lt in lt-ltb (h d) m (omega arith)) ds a

-- the interfaces of a class whose height is below the next number are below this one
pub faces-below : (p : Program) (L : IsLayered p) (n : ℕ) (d : List ℕ) → L.height d ≤ n → Below L.height n (face_names p d)
faces-below p L n d le = below-more L.height (L.height d) n (face_names p d) le (L.lower d)

-- ---- deep enough

abbrev pub Same : Program → (List ℕ → ℕ) → ℕ → ℕ → Type 0
Same p h n m = (ds : List (List ℕ)) → Below h n ds → Below h m ds → over p n ds ≡ over p m ds

same-none : (p : Program) (h : List ℕ → ℕ) (n m : ℕ) → (n ≡ 0) → Same p h n m
same-none p h n m z [] a b = over-none p n ∙ sym (over-none p m)
same-none p h n m z (d ∷ ds) a b = let lt : h d < n = below-head h n d ds a in absurd (omega arith)

same-none-right : (p : Program) (h : List ℕ → ℕ) (n m : ℕ) → (m ≡ 0) → Same p h n m
same-none-right p h n m z ds a b = sym (same-none p h m n z ds b a)

same-next : (p : Program) (L : IsLayered p) (n m : ℕ) → Same p L.height n m → Same p L.height (suc n) (suc m)
same-next p L n m ih [] a b = over-none p (suc n) ∙ sym (over-none p (suc m))
same-next p L n m ih (d ∷ ds) a b =
    let h : List ℕ → ℕ = L.height in
    let lt : h d < suc n = below-head h (suc n) d ds a in
    let lt' : h d < suc m = below-head h (suc m) d ds b in
    let here : over p n (face_names p d) ≡ over p m (face_names p d) = ih (face_names p d) (faces-below p L n d (omega arith)) (faces-below p L m d (omega arith)) in
    let later : over p (suc n) ds ≡ over p (suc m) ds = same-next p L n m ih ds (below-tail h (suc n) d ds a) (below-tail h (suc m) d ds b) in
    over-cons p n d ds ∙ ap (λ (es : List (List ℕ)). (d ∷ es) ++ over p (suc n) ds) here ∙ ap (λ (es : List (List ℕ)). (d ∷ over p m (face_names p d)) ++ es) later ∙ sym (over-cons p m d ds)

deep : (p : Program) (L : IsLayered p) (n m : ℕ) → Same p L.height n m
deep p L zero m = same-none p L.height zero m refl
deep p L (suc n) zero = same-none-right p L.height (suc n) zero refl
deep p L (suc n) (suc m) = same-next p L n m (deep p L n m)

-- ---- what is first along names and all that stands over them

module _ (p : Program) (L : IsLayered p) (f : List ℕ → Option Member) where
  abbrev pub Along : List (List ℕ) → Option Member
  Along ds = first_some f (over p (length (known p)) ds)

  pub along-none : Along [] ≡ None
  unfolding first_some
  along-none = ap (first_some f) (over-none p (length (known p)))

  pub along-append : (xs ys : List (List ℕ)) → Along (xs ++ ys) ≡ or_else (Along xs) (Along ys)
  along-append xs ys = ap (first_some f) (over-append p (length (known p)) xs ys) ∙ first-append f (over p (length (known p)) xs) (over p (length (known p)) ys)

  -- over one name that is deep enough
  along-at : (n : ℕ) (d : List ℕ) → length (known p) ≡ suc n → L.height d ≤ n → Along (d ∷ []) ≡ or_else (f d) (Along (face_names p d))
  unfolding first_some
  along-at n d is le =
      let step : over p (suc n) (d ∷ []) ≡ d ∷ over p n (face_names p d) = over-cons p n d [] ∙ ap (λ (es : List (List ℕ)). (d ∷ over p n (face_names p d)) ++ es) (over-none p (suc n)) ∙ append-nil (d ∷ over p n (face_names p d)) in
      let more : over p n (face_names p d) ≡ over p (suc n) (face_names p d) = deep p L n (suc n) (face_names p d) (faces-below p L n d le) (faces-below p L (suc n) d (omega arith)) in
      ap (λ (k : ℕ). first_some f (over p k (d ∷ []))) is ∙ ap (first_some f) step ∙ ap (λ (es : List (List ℕ)). or_else (f d) (first_some f es)) more
      ∙ ap (λ (k : ℕ). or_else (f d) (first_some f (over p k (face_names p d)))) (sym is)

  pred : (n k : ℕ) → k < n → (m : ℕ) × (n ≡ suc m)
  pred zero k lt = absurd (omega arith)
  pred (suc n) k lt = (n, refl)

  along-one : (d : List ℕ) → L.height d < length (known p) → Along (d ∷ []) ≡ or_else (f d) (Along (face_names p d))
  along-one d lt = let m = pred (length (known p)) (L.height d) lt in along-at m.0 d m.1 (let e : length (known p) ≡ suc m.0 = m.1 in omega arith)

  pub along-cons : (d : List ℕ) (ds : List (List ℕ)) → L.height d < length (known p) → Along (d ∷ ds) ≡ or_else (f d) (or_else (Along (face_names p d)) (Along ds))
  along-cons d ds lt = along-append (d ∷ []) ds ∙ ap (λ (o : Option Member). or_else o (Along ds)) (along-one d lt) ∙ or_regroup (f d) (Along (face_names p d)) (Along ds)

  -- where the name itself has none, what its interfaces have comes in its place
  pub along-faces : (d : List ℕ) (ds : List (List ℕ)) → L.height d < length (known p) → f d ≡ None → Along (face_names p d ++ ds) ≡ Along (d ∷ ds)
  along-faces d ds lt none = along-append (face_names p d) ds ∙ sym (along-cons d ds lt ∙ ap (λ (o : Option Member). or_else o (or_else (Along (face_names p d)) (Along ds))) none)

  -- ---- what was gone through

  -- All that stands over a name has been gone through, but for a front of what waits, whose heights are below its own.
  pub record Settled (ws : List (List ℕ)) (m : List ℕ) : Type 0 where
    pub front : List (List ℕ)
    pub back : List (List ℕ)
    pub parts : ws ≡ front ++ back
    pub same : Along front ≡ Along (m ∷ [])
    pub lower : Below L.height (L.height m) front

  none_before : (d m : List ℕ) (ds front back : List (List ℕ)) → d ∷ ds ≡ front ++ back → Along front ≡ Along (m ∷ []) → Below L.height (L.height m) front → d ≡ m → Along (m ∷ []) ≡ None
  none_before d m ds [] back parts same lower is = sym same ∙ along-none
  none_before d m ds (x ∷ xs) back parts same lower is =
      let first : x ≡ d = cc in
      let lt : L.height x < L.height m = below-head L.height (L.height m) x xs lower in
      let eq : L.height x ≡ L.height m = ap L.height (first ∙ is) in
      absurd (omega arith)

  -- a name that comes again has been gone through whole
  pub again_none : (d : List ℕ) (ds : List (List ℕ)) → Settled (d ∷ ds) d → Along (d ∷ []) ≡ None
  again_none d ds s = none_before d d ds s.front s.back s.parts s.same s.lower refl

  skip_parts : (d m : List ℕ) (ds front back : List (List ℕ)) → d ∷ ds ≡ front ++ back → Along front ≡ Along (m ∷ []) → Below L.height (L.height m) front → Along (d ∷ []) ≡ None → Settled ds m
  skip_parts d m ds [] back parts same lower none = record { front = []; back = ds; parts = refl; same = same; lower = refl }
  skip_parts d m ds (x ∷ xs) back parts same lower none =
      let first : x ≡ d = cc in
      let others : ds ≡ xs ++ back = cc in
      record {
        front = xs;
        back = back;
        parts = others;
        same =
            sym (along-append (x ∷ []) xs ∙ ap (λ (y : List ℕ). or_else (Along (y ∷ [])) (Along xs)) first ∙ ap (λ (o : Option Member). or_else o (Along xs)) none) ∙ same;
        lower = below-tail L.height (L.height m) x xs lower;
      }

  pub settled_skip : (d m : List ℕ) (ds : List (List ℕ)) → Along (d ∷ []) ≡ None → Settled (d ∷ ds) m → Settled ds m
  settled_skip d m ds none s = skip_parts d m ds s.front s.back s.parts s.same s.lower none

  visit_parts : (d m : List ℕ) (ds front back : List (List ℕ)) → d ∷ ds ≡ front ++ back → Along front ≡ Along (m ∷ []) → Below L.height (L.height m) front → L.height d < length (known p) → f d ≡ None → Settled (face_names p d ++ ds) m
  visit_parts d m ds [] back parts same lower lt none = record { front = []; back = face_names p d ++ ds; parts = refl; same = same; lower = refl }
  visit_parts d m ds (x ∷ xs) back parts same lower lt none =
      let first : x ≡ d = cc in
      let others : ds ≡ xs ++ back = cc in
      let below : L.height x < L.height m = below-head L.height (L.height m) x xs lower in
      let eq : L.height x ≡ L.height d = ap L.height first in
      record {
        front = face_names p d ++ xs;
        back = back;
        parts = ap (λ (es : List (List ℕ)). face_names p d ++ es) others ∙ sym (append_assoc (face_names p d) xs back);
        same = along-faces d xs lt none ∙ ap (λ (y : List ℕ). Along (y ∷ xs)) (sym first) ∙ same;
        lower = all-append (λ e. nat_lt (L.height e) (L.height m)) (face_names p d) xs (faces-below p L (L.height m) d (omega arith)) (below-tail L.height (L.height m) x xs lower);
      }

  pub settled_visit : (d m : List ℕ) (ds : List (List ℕ)) → L.height d < length (known p) → f d ≡ None → Settled (d ∷ ds) m → Settled (face_names p d ++ ds) m
  settled_visit d m ds lt none s = visit_parts d m ds s.front s.back s.parts s.same s.lower lt none

  pub settled_new : (d : List ℕ) (ds : List (List ℕ)) → L.height d < length (known p) → f d ≡ None → Settled (face_names p d ++ ds) d
  settled_new d ds lt none = record {
    front = face_names p d;
    back = ds;
    parts = refl;
    same = sym (along-one d lt ∙ ap (λ (o : Option Member). or_else o (Along (face_names p d))) none);
    lower = L.lower d;
  }

  end_parts : (m : List ℕ) (front back : List (List ℕ)) → [] ≡ front ++ back → Along front ≡ Along (m ∷ []) → Along (m ∷ []) ≡ None
  end_parts m [] back parts same = sym same ∙ along-none
  end_parts m (x ∷ xs) back parts same = absurd cc

  pub settled_end : (m : List ℕ) → Settled [] m → Along (m ∷ []) ≡ None
  settled_end m s = end_parts m s.front s.back s.parts s.same

  pub settled_begin : (ws : List (List ℕ)) (m : List ℕ) → Along (m ∷ []) ≡ None → Settled ws m
  settled_begin ws m none = record { front = []; back = ws; parts = refl; same = along-none ∙ sym none; lower = refl }
