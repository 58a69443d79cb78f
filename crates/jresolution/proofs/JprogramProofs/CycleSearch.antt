-- A search of all that stands above a class, step by step: what it keeps, and that it ends.
use Rattle.std.proofs.Common.{◌≡◌, ℕ, zero, suc, ◌⊎◌, ◌||◌, Bool, true, false, List, [], ◌∷◌, ◌++◌, length, Option, refl, sym, ap, subst, ◌∙◌, inl, inr}
use Rattle.std.specs.Prelude.{replicate}
use Rattle.std.specs.List.{list_any, AllByRecursion}
use Rattle.std.specs.Str.{bytes_eq}
use denote.Ref.{Bor}
use Rattle.jresolution.specs.jprogram.DirectSupers.{supers_of}
use Rattle.jresolution.specs.jprogram.ProgramClasses.{Class, Program, find, known, place_of, reaches}
use Rattle.jresolution.specs.jprogram.ProofNames.{supers}
use Rattle.jresolution.specs.jprogram.InterfaceSearch.{closing, is_closed, is_closed_at, waiting_names}
use Rattle.jresolution.proofs.JprogramProofs.InterfaceSearch.{closed_or, closing_length, none_at_end, wait-popped}
use Rattle.jresolution.proofs.JprogramProofs.Marks.{none_at, replicate_length}
use Rattle.jresolution.proofs.JprogramProofs.NameReachability.{clash, name_equal, name_is, or_both, or_right, settled}

-- ---- lists

pub all_weaken : {A : Type 0} (P Q : A → Type 0) → ((x : A) → P x → Q x) → (xs : List A) → AllByRecursion P xs → AllByRecursion Q xs
all_weaken P Q h [] all = tt
all_weaken P Q h (x ∷ xs) all = (h x all.0, all_weaken P Q h xs all.1)

abbrev pub Among : List (List ℕ) → List ℕ → Type 0
Among ws s = list_any (bytes_eq s) ws ≡ true

among_left : (xs ys : List (List ℕ)) (s : List ℕ) → Among xs s → Among (xs ++ ys) s
among_left [] ys s e = absurd cc
among_left (x ∷ xs) ys s e = or_both (bytes_eq s x) (list_any (bytes_eq s) xs) (bytes_eq s x) (list_any (bytes_eq s) (xs ++ ys)) (λ h. h) (among_left xs ys s) e

among_right : (xs ys : List (List ℕ)) (s : List ℕ) → Among ys s → Among (xs ++ ys) s
among_right [] ys s e = e
among_right (x ∷ xs) ys s e = or_right (bytes_eq s x) (list_any (bytes_eq s) (xs ++ ys)) (among_right xs ys s e)

among_head : (x : List ℕ) (xs : List (List ℕ)) → Among (x ∷ xs) x
among_head x xs = rw (name_equal x) refl

pub among_each : (xs : List (List ℕ)) → AllByRecursion (Among xs) xs
among_each [] = tt
among_each (x ∷ xs) = (among_head x xs, all_weaken (Among xs) (Among (x ∷ xs)) (λ s e. or_right (bytes_eq s x) (list_any (bytes_eq s) xs) e) xs (among_each xs))

pub or_split : (a b : Bool) → (a || b) ≡ true → (a ≡ true) ⊎ (b ≡ true)
or_split true b e = inl refl
or_split false b e = inr e

pub any_split : {A : Type 0} (t : A → Bool) (xs ys : List A) → list_any t (xs ++ ys) ≡ true → (list_any t xs ≡ true) ⊎ (list_any t ys ≡ true)
any_split t [] ys e = inr e
any_split t (x ∷ xs) ys e = elim (or_split (t x) (list_any t (xs ++ ys)) e) [
  | inl h ↦ inl (rw h refl)
  | inr r ↦ elim (any_split t xs ys r) [ inl l ↦ inl (or_right (t x) (list_any t xs) l) | inr l ↦ inr l ]
]

none_any : {A : Type 0} (t : A → Bool) (xs : List A) → AllByRecursion (λ x. t x ≡ false) xs → list_any t xs ≡ false
none_any t [] all = refl
none_any t (x ∷ xs) all = rw all.0 (none_any t xs all.1)

-- ---- what a search keeps

module _ (p : Program) (d : List ℕ) where
  abbrev pub Reach : List ℕ → Bool
  Reach c = reaches p (length (known p)) d c

  -- it is the one, or reaches it
  abbrev pub hits : List ℕ → Bool
  hits s = bytes_eq d s || Reach s

  reach_is : (c : List ℕ) → Reach c ≡ list_any hits (supers p c)
  reach_is c = settled p d c

  -- it was gone through, or waits
  abbrev Held : (List ℕ → Bool) → List (List ℕ) → List ℕ → Type 0
  Held done ws s = (done s ≡ true) ⊎ (Among ws s)

  pub record Seeking (c : List ℕ) (ws : List (List ℕ)) (closed : List Bool) : Type 0 where
    -- what was gone through
    pub done : List ℕ → Bool
    pub sound : list_any hits ws ≡ true → Reach c ≡ true
    pub each : length closed ≡ length p.parts
    pub first : AllByRecursion (Held done ws) (supers p c)
    pub apart : (m : List ℕ) → done m ≡ true → bytes_eq d m ≡ false
    pub further : (m : List ℕ) → done m ≡ true → AllByRecursion (Held done ws) (supers p m)
    pub marked : (m : List ℕ) → is_closed p closed m ≡ true → done m ≡ true

  pub seek_begin : (c : List ℕ) (closed : List Bool) → closed ≡ replicate (length p.parts) false → Seeking c (supers p c) closed
  seek_begin c closed is = record {
    done = λ m. false;
    sound = λ e. reach_is c ∙ e;
    each = ap length is ∙ replicate_length (length p.parts);
    first = all_weaken (Among (supers p c)) (Held (λ m. false) (supers p c)) (λ s a. inr a) (supers p c) (among_each (supers p c));
    apart = λ m e. absurd cc;
    further = λ m e. absurd cc;
    marked = λ m e. clash (is_closed p closed m) e (ap (λ (bs : List Bool). is_closed_at bs (place_of p.parts m)) is ∙ none_at (length p.parts) (place_of p.parts m));
  }

  held_skip : (done : List ℕ → Bool) (w : List ℕ) (ds : List (List ℕ)) → done w ≡ true → (s : List ℕ) → Held done (w ∷ ds) s → Held done ds s
  held_skip done w ds is s h = elim h [
    | inl e ↦ inl e
    | inr a ↦ elim (or_split (bytes_eq s w) (list_any (bytes_eq s) ds) a) [ inl same ↦ inl (ap done (name_is s w same) ∙ is) | inr later ↦ inr later ]
  ]

  pub seek_skip : (c w : List ℕ) (ds : List (List ℕ)) (closed : List Bool) → is_closed p closed w ≡ true → Seeking c (w ∷ ds) closed → Seeking c ds closed
  seek_skip c w ds closed is S =
      let was : S.done w ≡ true = S.marked w is in
      record {
        done = S.done;
        sound = λ e. S.sound (or_right (hits w) (list_any hits ds) e);
        each = S.each;
        first = all_weaken (Held S.done (w ∷ ds)) (Held S.done ds) (held_skip S.done w ds was) (supers p c) S.first;
        apart = S.apart;
        further = λ m e. all_weaken (Held S.done (w ∷ ds)) (Held S.done ds) (held_skip S.done w ds was) (supers p m) (S.further m e);
        marked = S.marked;
      }

  pub seek_found : (c w : List ℕ) (ds : List (List ℕ)) (closed : List Bool) → bytes_eq d w ≡ true → Seeking c (w ∷ ds) closed → Reach c ≡ true
  seek_found c w ds closed is S = S.sound (rw is refl)

  abbrev Also : List ℕ → (List ℕ → Bool) → List ℕ → Bool
  Also w done m = bytes_eq m w || done m

  held_visit : (done : List ℕ → Bool) (w : List ℕ) (new ds : List (List ℕ)) (s : List ℕ) → Held done (w ∷ ds) s → Held (Also w done) (new ++ ds) s
  held_visit done w new ds s h = elim h [
    | inl e ↦ inl (or_right (bytes_eq s w) (done s) e)
    | inr a ↦ elim (or_split (bytes_eq s w) (list_any (bytes_eq s) ds) a) [ inl same ↦ inl (rw same refl) | inr later ↦ inr (among_right new ds s later) ]
  ]

  visit_sound : (c w : List ℕ) (ds : List (List ℕ)) → (list_any hits (w ∷ ds) ≡ true → Reach c ≡ true) → list_any hits (supers p w ++ ds) ≡ true → Reach c ≡ true
  visit_sound c w ds sound e = elim (any_split hits (supers p w) ds e) [
    | inl here ↦ sound (or_both (hits w) (list_any hits ds) (hits w) (list_any hits ds) (λ h. h) (λ h. h) (in_left (hits w) (list_any hits ds) (or_right (bytes_eq d w) (Reach w) (reach_is w ∙ here))))
    | inr later ↦ sound (or_right (hits w) (list_any hits ds) later)
  ]
    where
      in_left : (a b : Bool) → a ≡ true → (a || b) ≡ true
      in_left true b h = refl
      in_left false b h = absurd cc

  new_held : (done : List ℕ → Bool) (w : List ℕ) (ds : List (List ℕ)) → AllByRecursion (Held (Also w done) (supers p w ++ ds)) (supers p w)
  new_held done w ds = all_weaken (Among (supers p w)) (Held (Also w done) (supers p w ++ ds)) (λ s a. inr (among_left (supers p w) ds s a)) (supers p w) (among_each (supers p w))

  pub seek_visit : (c w : List ℕ) (ds : List (List ℕ)) (closed : List Bool) → bytes_eq d w ≡ false → Seeking c (w ∷ ds) closed → Seeking c (supers p w ++ ds) (closing p closed w)
  seek_visit c w ds closed other S = record {
    done = Also w S.done;
    sound = visit_sound c w ds S.sound;
    each = closing_length closed (place_of p.parts w) ∙ S.each;
    first = all_weaken (Held S.done (w ∷ ds)) (Held (Also w S.done) (supers p w ++ ds)) (held_visit S.done w (supers p w) ds) (supers p c) S.first;
    apart = λ m e. elim (or_split (bytes_eq m w) (S.done m) e) [
      | inl same ↦ ap (bytes_eq d) (name_is m w same) ∙ other
      | inr was ↦ S.apart m was
    ];
    further = λ m e. elim (or_split (bytes_eq m w) (S.done m) e) [
      | inl same ↦ subst (λ (x : List ℕ). AllByRecursion (Held (Also w S.done) (supers p w ++ ds)) (supers p x)) (sym (name_is m w same)) (new_held S.done w ds)
      | inr was ↦ all_weaken (Held S.done (w ∷ ds)) (Held (Also w S.done) (supers p w ++ ds)) (held_visit S.done w (supers p w) ds) (supers p m) (S.further m was)
    ];
    marked = λ m e. elim (closed_or p closed w m e) [
      | inl was ↦ or_right (bytes_eq m w) (S.done m) (S.marked m was)
      | inr now ↦ let same : bytes_eq m w ≡ true = ap (λ (x : List ℕ). bytes_eq x w) now ∙ name_equal w in rw same refl
    ];
  }

  -- where nothing waits, nothing that was gone through reaches it
  held_end : (n : ℕ) (done : List ℕ → Bool) → ((m : List ℕ) → done m ≡ true → bytes_eq d m ≡ false) → ((m : List ℕ) → done m ≡ true → reaches p n d m ≡ false) → (s : List ℕ) → Held done [] s → (bytes_eq d s || reaches p n d s) ≡ false
  held_end n done apart far s h = elim h [
    | inl e ↦ let a = apart s e in let b = far s e in rw a b
    | inr a ↦ absurd cc
  ]

  never : (n : ℕ) (done : List ℕ → Bool) → ((m : List ℕ) → done m ≡ true → bytes_eq d m ≡ false) → ((m : List ℕ) → done m ≡ true → AllByRecursion (Held done []) (supers p m)) → (m : List ℕ) → done m ≡ true → reaches p n d m ≡ false
  unfolding reaches
  never zero done apart further m e = refl
  never (suc n) done apart further m e = none_any (λ s. bytes_eq d s || reaches p n d s) (supers p m) (all_weaken (Held done []) (λ s. (bytes_eq d s || reaches p n d s) ≡ false) (held_end n done apart (never n done apart further)) (supers p m) (further m e))

  pub seek_end : (c : List ℕ) (closed : List Bool) → Seeking c [] closed → Reach c ≡ false
  seek_end c closed S =
      reach_is c ∙ none_any hits (supers p c) (all_weaken (Held S.done []) (λ s. hits s ≡ false) (held_end (length (known p)) S.done S.apart (never (length (known p)) S.done S.apart S.further)) (supers p c) S.first)

-- ---- the steps of the loop, by what its calls say

pub seeks_begin : (p : Program) (d c : List ℕ) (closed : List Bool) (none items : List (Bor (List ℕ))) (o : Option Class) → closed ≡ replicate (length p.parts) false → none ≡ [] → o ≡ find p c → waiting_names items ≡ supers_of o ++ waiting_names none
    → Seeking p d c (waiting_names items) closed
seeks_begin p d c closed none items o marks empty is put =
    let all : waiting_names items ≡ supers p c = put ∙ ap (λ (q : Option Class). supers_of q ++ waiting_names none) is ∙ ap (λ (ns : List (Bor (List ℕ))). supers p c ++ waiting_names ns) empty ∙ none_at_end (supers p c) in
    subst (λ (ws : List (List ℕ)). Seeking p d c ws closed) (sym all) (seek_begin p d c closed marks)

module _ (p : Program) (d c : List ℕ) (items more : List (Bor (List ℕ))) (x : Bor (List ℕ)) (closed : List Bool) (pop : items ≡ more ++ x ∷ []) where
  at_next : Seeking p d c (waiting_names items) closed → Seeking p d c (x.now ∷ waiting_names more) closed
  at_next S = subst (λ (ws : List (List ℕ)). Seeking p d c ws closed) (wait-popped items more x pop) S

  pub seeks_skip : is_closed p closed x.now ≡ true → Seeking p d c (waiting_names items) closed → Seeking p d c (waiting_names more) closed
  seeks_skip is S = seek_skip p d c x.now (waiting_names more) closed is (at_next S)

  pub seeks_found : bytes_eq d x.now ≡ true → Seeking p d c (waiting_names items) closed → true ≡ reaches p (length (known p)) d c
  seeks_found is S = sym (seek_found p d c x.now (waiting_names more) closed is (at_next S))

  pub seeks_visit : (now : List Bool) (new : List (List ℕ)) (o : Option Class) → bytes_eq d x.now ≡ false → now ≡ closing p closed x.now → o ≡ find p x.now → new ≡ supers_of o ++ waiting_names more → Seeking p d c (waiting_names items) closed → Seeking p d c new now
  seeks_visit now new o other marks is put S =
      let all : new ≡ supers p x.now ++ waiting_names more = put ∙ ap (λ (q : Option Class). supers_of q ++ waiting_names more) is in
      subst (λ (ws : List (List ℕ)). Seeking p d c ws now) (sym all)
      (subst (λ (bs : List Bool). Seeking p d c (supers p x.now ++ waiting_names more) bs) (sym marks) (seek_visit p d c x.now (waiting_names more) closed other (at_next S)))

pub seeks_end : (p : Program) (d c : List ℕ) (items : List (Bor (List ℕ))) (closed : List Bool) → items ≡ [] → Seeking p d c (waiting_names items) closed → false ≡ reaches p (length (known p)) d c
seeks_end p d c items closed empty S = sym (seek_end p d c closed (subst (λ (ns : List (Bor (List ℕ))). Seeking p d c (waiting_names ns) closed) empty S))
