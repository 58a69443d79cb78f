-- Which threads there are behind a turn, and behind one more.
use Rattle.std.proofs.Common.{◌≡◌, ◌∙◌, ℕ, zero, suc, ◌<◌, Bool, List, [], ◌∷◌, ◌++◌, length, Some, None, sym, ap, subst, arith, inl, inr, ◌⊎◌}
use Rattle.std.specs.Prelude.{Result, Ok, Err, OnOk, slice_get, slice_index_or, slice_set}
use Rattle.jthreads.specs.declared.thread.Thread.{Thread}
use Rattle.jruntime.specs.declared.jguests.guests.Guest.{Guest}
use Rattle.jruntime.specs.declared.jguests.guests.Guests.{Guests}
use Rattle.jruntime.specs.jguests.GuestThreads.{HaveStayed, IsOf, NoneWait, ended_as, nobody, with_running, with_table}
use Rattle.jruntime.proofs.JguestsProofs.ThreadLists.{index_get, length_set}

-- an item of a list
abbrev IsIn : {A : Type 0} → A → List A → Type 0
IsIn x xs = (i : ℕ) × (slice_get xs i ≡ Some x)

in_rest : {A : Type 0} (x y : A) (xs : List A) → IsIn x xs → IsIn x (y ∷ xs)
in_rest x y xs (i, at) = (suc i, at)

-- what stands in a list with another item is that item, or was there
set_in : {A : Type 0} (xs : List A) (n : ℕ) (y x : A) (i : ℕ) → slice_get (slice_set xs n y) i ≡ Some x → (x ≡ y) ⊎ IsIn x xs
set_in [] n y x i at = inr (i, at)
set_in (z ∷ xs) zero y x zero at = inl (let e : y ≡ x = cc in sym e)
set_in (z ∷ xs) zero y x (suc i) at = inr (suc i, at)
set_in (z ∷ xs) (suc n) y x zero at = inr (zero, at)
set_in (z ∷ xs) (suc n) y x (suc i) at = past (set_in xs n y x i at)
  where
    past : (x ≡ y) ⊎ IsIn x xs → (x ≡ y) ⊎ IsIn x (z ∷ xs)
    past (inl e) = inl e
    past (inr is) = inr (in_rest x z xs is)

-- what stands in a list with one more
more_in : {A : Type 0} (xs : List A) (y x : A) (i : ℕ) → slice_get (xs ++ y ∷ []) i ≡ Some x → (x ≡ y) ⊎ IsIn x xs
more_in [] y x zero at = inl (let e : y ≡ x = cc in sym e)
more_in [] y x (suc i) at = absurd cc
more_in (z ∷ xs) y x zero at = inr (zero, at)
more_in (z ∷ xs) y x (suc i) at = past (more_in xs y x i at)
  where
    past : (x ≡ y) ⊎ IsIn x xs → (x ≡ y) ⊎ IsIn x (z ∷ xs)
    past (inl e) = inl e
    past (inr is) = inr (in_rest x z xs is)

module _ {E : Type 0} where
  -- no thread has changed
  pub same_stay : (g : Guests E) → HaveStayed g g
  same_stay g x is = inr is

  -- the one that runs and the others are these
  abbrev StayOf : Guest E → List (Guest E) → Guests E → Type 0
  StayOf now others g = (x : Guest E) → (x ≡ now) ⊎ IsIn x others → (x.frames ≡ None) ⊎ IsOf x g

  -- another runs, and in its place is a thread without frames
  pub switched_stay : (g : Guests E) (now : Guest E) (others : List (Guest E)) (t : ℕ) (mine husk d : Guest E) → mine ≡ g.running → husk.frames ≡ None → t < length g.others.items
      → now ≡ slice_index_or (slice_set g.others.items g.at mine) t d → others ≡ slice_set (slice_set g.others.items g.at mine) t husk → StayOf now others g
  switched_stay g now others t mine husk d own none lt next are x (inl e) =
      was (set_in g.others.items g.at mine x t (index_get (slice_set g.others.items g.at mine) t d long ∙ ap Some (sym (e ∙ next))))
    where
      long : t < length (slice_set g.others.items g.at mine)
      long = let n = length_set g.others.items g.at mine in omega (arith, lt, n)

      was : (x ≡ mine) ⊎ IsIn x g.others.items → (x.frames ≡ None) ⊎ IsOf x g
      was (inl same) = inr (inl (same ∙ own))
      was (inr is) = inr (inr is)
  switched_stay g now others t mine husk d own none lt next are x (inr (i, at)) =
      by (set_in (slice_set g.others.items g.at mine) t husk x i (subst (λ (xs : List (Guest E)). slice_get xs i ≡ Some x) are at))
    where
      was : (x ≡ mine) ⊎ IsIn x g.others.items → (x.frames ≡ None) ⊎ IsOf x g
      was (inl same) = inr (inl (same ∙ own))
      was (inr is) = inr (inr is)

      by : (x ≡ husk) ⊎ IsIn x (slice_set g.others.items g.at mine) → (x.frames ≡ None) ⊎ IsOf x g
      by (inl same) = inl (ap (λ (y : Guest E). y.frames) same ∙ none)
      by (inr (j, there)) = was (set_in g.others.items g.at mine x j there)

  -- one more, without frames
  pub more_stay : (g : Guests E) (now new : Guest E) (others : List (Guest E)) → new.frames ≡ None → now ≡ g.running → others ≡ g.others.items ++ new ∷ [] → StayOf now others g
  more_stay g now new others none same are x (inl e) = inr (inl (e ∙ same))
  more_stay g now new others none same are x (inr (i, at)) = by (more_in g.others.items new x i (subst (λ (xs : List (Guest E)). slice_get xs i ≡ Some x) are at))
    where
      by : (x ≡ new) ⊎ IsIn x g.others.items → (x.frames ≡ None) ⊎ IsOf x g
      by (inl e) = inl (ap (λ (y : Guest E). y.frames) e ∙ none)
      by (inr is) = inr (inr is)

  -- the one that ran has ended
  pub ended_stay : {A B : Type 0} (r : Result A B) (failed : Bool) (table : List Thread) (g mid h : Guests E) → mid ≡ with_table table (with_running (ended_as failed g.running) g)
      → OnOk r (HaveStayed mid h) → OnOk r (HaveStayed (with_running (ended_as failed g.running) g) h)
  ended_stay (Ok done) failed table g mid h is stay = subst (λ (y : Guests E). HaveStayed y h) is stay
  ended_stay (Err e) failed table g mid h is stay = tt

-- ---- the first thread

at_one : {E : Type 0} (x : Guest E) (i : ℕ) → slice_get (nobody ∷ []) i ≡ Some x → x.frames ≡ None
at_one x zero e = let same : nobody ≡ x = cc in ap (λ y. y.frames) (sym same)
at_one x (suc i) e = absurd cc

-- where one without frames stands in its place alone, none waits that has frames
pub husk_waits : {E : Type 0} (g : Guests E) → g.others.items ≡ nobody ∷ [] → NoneWait g
husk_waits g is x i at = at_one x i (ap (λ ys. slice_get ys i) (sym is) ∙ at)
