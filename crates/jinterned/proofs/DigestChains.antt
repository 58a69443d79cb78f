-- Chains with one more entry, and the way along a chain.
use Rattle.std.proofs.Common.{◌≡◌, ◌≢◌, ◌∙◌, ℕ, zero, suc, ◌+◌, ◌-◌, ◌<◌, ◌≤◌, List, [], ◌∷◌, ◌++◌, map, ◌⊎◌, inl, inr, Bool, true, false, ◌==◌, length, replicate, take, Some, None, Option, option_map, refl, sym, ap, ap₂, subst, arith}
use Rattle.std.specs.Prelude.{bit_and, slice_get, slice_set, get_or}
use Rattle.std.proofs.lemmas.List.{length-append, length-map, length-set, length-replicate, length-take-le, get_or_read, map-append, take_more, take_more_set}
use Rattle.std.proofs.Math.Seq.{take-nil}
use Rattle.std.proofs.lemmas.Bool.Decides.{Decides-eqb}
use Rattle.std.specs.Prelude.{Decides}
use Rattle.std.proofs.lemmas.Nat.{and_le_r}
use Rattle.std.proofs.lemmas.Option.{slice_get_within, slice_get-map}
use Rattle.jinterned.specs.DigestChains.{IsLast, AreHeads, AreChained, AreLinked, IsOn, chains_of}

pub nat_cases : (a b : ℕ) → (a ≡ b) ⊎ (a ≢ b)
nat_cases a b = by_test (a == b) (Decides-eqb a b)
  where
    by_test : (t : Bool) → Decides t (a ≡ b) → (a ≡ b) ⊎ (a ≢ b)
    by_test true decides = inl (decides.0 refl)
    by_test false decides = inr (λ e. false_true (decides.1 e))
      where
        false_true : false ≡ true → ⊥
        false_true e = cc

pub lt_or_eq : (i n : ℕ) → i < n + 1 → (i < n) ⊎ (i ≡ n)
lt_or_eq i n lt = by_case (nat_cases i n)
  where
    by_case : (i ≡ n) ⊎ (i ≢ n) → (i < n) ⊎ (i ≡ n)
    by_case (inl e) = inr e
    by_case (inr ne) = inl (omega (arith, lt, ne))

pub lt_or_le : (i n : ℕ) → (i < n) ⊎ (n ≤ i)
lt_or_le i zero = inr (omega arith)
lt_or_le zero (suc n) = inl (omega arith)
lt_or_le (suc i) (suc n) = more (lt_or_le i n)
  where
    more : (i < n) ⊎ (n ≤ i) → (suc i < suc n) ⊎ (suc n ≤ suc i)
    more (inl lt) = inl (omega (arith, lt))
    more (inr le) = inr (omega (arith, le))

pub front : {T : Type 0} (i : ℕ) (xs ys : List T) → i < length xs → slice_get (xs ++ ys) i ≡ slice_get xs i
front i [] ys lt = absurd (omega (arith, lt))
front zero (x ∷ xs) ys lt = refl
front (suc i) (x ∷ xs) ys lt = front i xs ys (omega (arith, lt))

pub at_end : {T : Type 0} (xs : List T) (y : T) → slice_get (xs ++ y ∷ []) (length xs) ≡ Some y
at_end [] y = refl
at_end (x ∷ xs) y = at_end xs y

pub front_or : {T : Type 0} (i : ℕ) (d : T) (xs ys : List T) → i < length xs → get_or (xs ++ ys) i d ≡ get_or xs i d
front_or i d [] ys lt = absurd (omega (arith, lt))
front_or zero d (x ∷ xs) ys lt = refl
front_or (suc i) d (x ∷ xs) ys lt = front_or i d xs ys (omega (arith, lt))

end_or : (d : ℕ) (xs : List ℕ) (y : ℕ) → get_or (xs ++ y ∷ []) (length xs) d ≡ y
end_or d [] y = refl
end_or d (x ∷ xs) y = end_or d xs y

pub put_here : {T : Type 0} (i : ℕ) (d y : T) (xs : List T) → i < length xs → get_or (slice_set xs i y) i d ≡ y
put_here i d y [] lt = absurd (omega (arith, lt))
put_here zero d y (x ∷ xs) lt = refl
put_here (suc i) d y (x ∷ xs) lt = put_here i d y xs (omega (arith, lt))

pub put_there : {T : Type 0} (i j : ℕ) (d y : T) (xs : List T) → j ≢ i → get_or (slice_set xs i y) j d ≡ get_or xs j d
put_there i j d y [] other = refl
put_there zero zero d y (x ∷ xs) other = absurd (other refl)
put_there zero (suc j) d y (x ∷ xs) other = refl
put_there (suc i) zero d y (x ∷ xs) other = refl
put_there (suc i) (suc j) d y (x ∷ xs) other = put_there i j d y xs (λ e. other (ap suc e))

none_past : {T : Type 0} (i : ℕ) (xs : List T) → length xs ≤ i → slice_get xs i ≡ None
none_past i [] le = refl
none_past zero (x ∷ xs) le = absurd (omega (arith, le))
none_past (suc i) (x ∷ xs) le = none_past i xs (omega (arith, le))

some_same : (a b : ℕ) → Some a ≡ Some b → a ≡ b
some_same a b e = cc

-- more entries behind change nothing for those in front
pub still : (xs ys : List ℕ) (x count m : ℕ) → count ≤ length xs → IsLast xs x count m → IsLast (xs ++ ys) x count m
still xs ys x count m le last = record {
  within = last.within;
  here = λ j is. front j xs ys (omega (arith, le, is, last.within)) ∙ last.here j is;
  later = λ i above below e. last.later i above below (sym (front i xs ys (omega (arith, below, le))) ∙ e);
}

-- the new entry is the last of its kind
new_last : (xs : List ℕ) (x n : ℕ) → n ≡ length xs + 1 → IsLast (xs ++ x ∷ []) x (length (xs ++ x ∷ [])) n
new_last xs x n is =
    let longer : length (xs ++ x ∷ []) ≡ length xs + 1 = length-append xs (x ∷ []) in
    record {
      within = omega (arith, longer, is);
      here = λ j e. let at : j ≡ length xs = omega (arith, e, is) in ap (slice_get (xs ++ x ∷ [])) at ∙ at_end xs x;
      later = λ i above below e. absurd (omega (arith, above, below, longer, is));
    }

-- the last entries of other kinds stay the last
other_last : (xs : List ℕ) (x p m : ℕ) → p ≢ x → IsLast xs p (length xs) m → IsLast (xs ++ x ∷ []) p (length (xs ++ x ∷ [])) m
other_last xs x p m other last =
    let longer : length (xs ++ x ∷ []) ≡ length xs + 1 = length-append xs (x ∷ []) in
    let whole : length xs ≤ length xs = omega arith in
    let old = still xs (x ∷ []) p (length xs) m whole last in
    record {
      within = omega (arith, longer, last.within);
      here = old.here;
      later = λ i above below e. past i above e (lt_or_eq i (length xs) (omega (arith, below, longer))) old;
    }
  where
    past : (i : ℕ) → m ≤ i → slice_get (xs ++ x ∷ []) i ≡ Some p → (i < length xs) ⊎ (i ≡ length xs) → IsLast (xs ++ x ∷ []) p (length xs) m → ⊥
    past i above e (inl lt) old = old.later i above lt e
    past i above e (inr is) old = other (some_same p x (sym e ∙ ap (slice_get (xs ++ x ∷ [])) is ∙ at_end xs x))

heads_added : (cs heads : List ℕ) (p n : ℕ) → n ≡ length cs + 1 → p < length heads → AreHeads cs heads → AreHeads (cs ++ p ∷ []) (slice_set heads p n)
heads_added cs heads p n is place are q lt = at (nat_cases q p)
  where
    below : q < length heads
    below = omega (arith, lt, length-set heads p n)

    at : (q ≡ p) ⊎ (q ≢ p) → IsLast (cs ++ p ∷ []) q (length (cs ++ p ∷ [])) (get_or (slice_set heads p n) q 0)
    at (inl same) = subst (λ r. IsLast (cs ++ p ∷ []) r (length (cs ++ p ∷ [])) (get_or (slice_set heads p n) r 0)) (sym same)
        (subst (IsLast (cs ++ p ∷ []) p (length (cs ++ p ∷ []))) (sym (put_here p 0 n heads place)) (new_last cs p n is))
    at (inr other) = subst (IsLast (cs ++ p ∷ []) q (length (cs ++ p ∷ []))) (sym (put_there p q 0 n heads other)) (other_last cs p q (get_or heads q 0) other (are q below))

chained_added : (cs heads earlier : List ℕ) (p : ℕ) → p < length heads → AreHeads cs heads → AreChained cs earlier → AreChained (cs ++ p ∷ []) (earlier ++ get_or heads p 0 ∷ [])
chained_added cs heads earlier p place are chained = (
  length-append earlier (get_or heads p 0 ∷ []) ∙ ap (λ k. k + 1) chained.0 ∙ sym (length-append cs (p ∷ [])),
  λ i q on. at i q on (lt_or_eq i (length cs) (omega (arith, slice_get_within (cs ++ p ∷ []) i q on, length-append cs (p ∷ [])))),
)
  where
    m : ℕ
    m = get_or heads p 0

    whole : length cs ≤ length cs
    whole = omega arith

    at : (i q : ℕ) → slice_get (cs ++ p ∷ []) i ≡ Some q → (i < length cs) ⊎ (i ≡ length cs) → IsLast (cs ++ p ∷ []) q i (get_or (earlier ++ m ∷ []) i 0)
    at i q on (inl lt) =
        let old : slice_get cs i ≡ Some q = sym (front i cs (p ∷ []) lt) ∙ on in
        subst (IsLast (cs ++ p ∷ []) q i) (sym (front_or i 0 earlier (m ∷ []) (omega (arith, lt, chained.0))))
        (still cs (p ∷ []) q i (get_or earlier i 0) (omega (arith, lt)) (chained.1 i q old))
    at i q on (inr e) =
        let its : p ≡ q = some_same p q (sym (ap (slice_get (cs ++ p ∷ [])) e ∙ at_end cs p) ∙ on) in
        let last : IsLast (cs ++ p ∷ []) p (length cs) m = still cs (p ∷ []) p (length cs) m whole (are p place) in
        let read : get_or (earlier ++ m ∷ []) (length cs) 0 ≡ m = ap (λ k. get_or (earlier ++ m ∷ []) k 0) (sym chained.0) ∙ end_or 0 earlier m in
        subst (λ k. IsLast (cs ++ p ∷ []) q k (get_or (earlier ++ m ∷ []) k 0)) (sym e)
        (subst (IsLast (cs ++ p ∷ []) q (length cs)) (sym read)
        (subst (λ r. IsLast (cs ++ p ∷ []) r (length cs) m) its last))

-- the chain of a digest is there
pub chain_there : (d count : ℕ) → 0 < count → bit_and d (count - 1) < count
chain_there d count some = let le : bit_and d (count - 1) ≤ count - 1 = and_le_r d (count - 1) in omega (arith, le, some)

pub linked_added : (ds heads earlier : List ℕ) (d : ℕ) → AreLinked ds heads earlier
    → AreLinked (ds ++ d ∷ []) (slice_set heads (bit_and d (length heads - 1)) (length earlier + 1)) (earlier ++ get_or heads (bit_and d (length heads - 1)) 0 ∷ [])
linked_added ds heads earlier d are =
    let count = length heads in
    let p : ℕ = bit_and d (count - 1) in
    let place : p < count = chain_there d count are.0 in
    let cs = chains_of count ds in
    let n : length earlier + 1 ≡ length cs + 1 = ap (λ k. k + 1) are.2.0 in
    let more : chains_of count (ds ++ d ∷ []) ≡ cs ++ p ∷ [] = map-append (λ (x : ℕ). bit_and x (count - 1)) ds (d ∷ []) in
    let new = slice_set heads p (length earlier + 1) in
    let behind = earlier ++ get_or heads p 0 ∷ [] in
    let same : length new ≡ count = length-set heads p (length earlier + 1) in
    let are_heads = subst (λ (ks : List ℕ). AreHeads ks new) (sym more) (heads_added cs heads p (length earlier + 1) n place are.1) in
    let are_chained = subst (λ (ks : List ℕ). AreChained ks behind) (sym more) (chained_added cs heads earlier p place are.1 are.2) in
    subst (λ (k : ℕ). (0 < k) × AreHeads (chains_of k (ds ++ d ∷ [])) new × AreChained (chains_of k (ds ++ d ∷ [])) behind) (sym same) (are.0, are_heads, are_chained)

pub none_linked : (heads : List ℕ) (n : ℕ) → 0 < n → heads ≡ replicate {A = ℕ} n 0 → AreLinked [] heads []
none_linked heads n some is = (
  omega (arith, some, ap length is, length-replicate {A = ℕ} n 0),
  λ p lt. subst (IsLast [] p 0) (sym (ap (λ hs. get_or hs p 0) is ∙ zeros n p)) (none p),
  (refl, λ i p on. absurd (omega (arith, slice_get_within [] i p on))),
)
  where
    zeros : (n p : ℕ) → get_or (replicate {A = ℕ} n 0) p 0 ≡ 0
    zeros zero p = refl
    zeros (suc n) zero = refl
    zeros (suc n) (suc p) = zeros n p

    none : (p : ℕ) → IsLast [] p 0 0
    none p = record { within = omega arith; here = λ j e. absurd (omega (arith, e)); later = λ i above below e. absurd (omega (arith, below)) }

-- an empty list that is filled up
pub filled : (n m : ℕ) (xs : List ℕ) → xs ≡ [] → m ≡ 0 → take n xs ++ replicate (n - m) 0 ≡ replicate {A = ℕ} n 0
filled n m xs none nil =
    let all : n - m ≡ n = omega arith in
    ap₂ (λ ys k. ys ++ replicate {A = ℕ} k 0) (ap (take n) none ∙ take-nil n) all

-- one entry more of those that are put onto chains anew
pub linked_next : (ds heads es : List ℕ) (i n m : ℕ) → i < length ds → length es ≡ length ds → n ≡ length heads
    → m ≡ get_or heads (bit_and (get_or ds i 0) (n - 1)) m → AreLinked (take i ds) heads (take i es)
    → AreLinked (take (i + 1) ds) (slice_set heads (bit_and (get_or ds i 0) (n - 1)) (i + 1)) (take (i + 1) (slice_set es i m))
linked_next ds heads es i n m below long count at are =
    let d = get_or ds i 0 in
    let p : ℕ = bit_and d (length heads - 1) in
    let same : bit_and d (n - 1) ≡ p = ap (λ k. bit_and d (k - 1)) count in
    let read : m ≡ get_or heads p 0 = get_or_read heads p m (chain_there d (length heads) are.0) (at ∙ ap (λ k. get_or heads k m) same) 0 in
    let within : i < length es = omega (arith, below, long) in
    let few : length (take i es) ≡ i = length-take-le i es (omega (arith, within)) in
    let next : AreLinked (take i ds ++ d ∷ []) (slice_set heads p (i + 1)) (take i es ++ m ∷ []) =
    subst (λ k. AreLinked (take i ds ++ d ∷ []) (slice_set heads p (k + 1)) (take i es ++ m ∷ [])) few
    (subst (λ k. AreLinked (take i ds ++ d ∷ []) (slice_set heads p (length (take i es) + 1)) (take i es ++ k ∷ [])) (sym read) (linked_added (take i ds) heads (take i es) d are)) in
    rw (same, take_more ds i 0 below, take_more_set es i m within) next

-- all is as before where the last digest is taken away again
pub linked_still : (ds heads heads' es es' ds' ds2 : List ℕ) (d count : ℕ) → ds' ≡ ds ++ d ∷ [] → ds2 ≡ take count ds' → count ≡ length ds → heads' ≡ heads → es' ≡ es
    → AreLinked ds heads es → AreLinked ds2 heads' es'
linked_still ds heads heads' es es' ds' ds2 d count more less long same_heads same_es are =
    let back : ds2 ≡ ds = less ∙ ap₂ take long more ∙ front_of ds (d ∷ []) in
    rw (back, same_heads, same_es) are
  where
    front_of : (xs ys : List ℕ) → take (length xs) (xs ++ ys) ≡ xs
    front_of [] ys = take-nil 0
    front_of (x ∷ xs) ys = ap (λ zs. x ∷ zs) (front_of xs ys)

-- ---- along a chain

-- a digest that isn't in front of the last entry of its chain isn't among these at all
pub lifted : (ds cs : List ℕ) (d p count start m : ℕ) → ((i : ℕ) → slice_get ds i ≡ Some d → slice_get cs i ≡ Some p)
    → IsLast cs p count start → IsLast ds d start m → IsLast ds d count m
lifted ds cs d p count start m its outer inner = record {
  within = omega (arith, outer.within, inner.within);
  here = inner.here;
  later = λ i above below e. by_place i above below e (lt_or_le i start);
}
  where
    by_place : (i : ℕ) → m ≤ i → i < count → slice_get ds i ≡ Some d → (i < start) ⊎ (start ≤ i) → ⊥
    by_place i above below e (inl lt) = inner.later i above lt e
    by_place i above below e (inr le) = outer.later i le below (its i e)

-- from an entry to the one before it
pub on_before : (ds es : List ℕ) (d at i : ℕ) → IsOn ds es d at → at ≡ suc i → IsOn ds es d (get_or es i 0)
on_before ds es d at i on next = let last = on.chained.1 i on.chain (on.here i next) in
    record { chains = on.chains; chain = on.chain; long = on.long; chained = on.chained; its = on.its; here = last.here }

pub smaller_before : (ds es : List ℕ) (d at i : ℕ) → IsOn ds es d at → at ≡ suc i → get_or es i 0 < at
smaller_before ds es d at i on next = let last = on.chained.1 i on.chain (on.here i next) in omega (arith, last.within, next)

-- where that entry has another digest, none of the digest is passed
pub none_passed : (ds es : List ℕ) (d at i start : ℕ) → IsOn ds es d at → at ≡ suc i → slice_get ds i ≢ Some d
    → ((k : ℕ) → at ≤ k → k < start → slice_get ds k ≢ Some d) → (k : ℕ) → get_or es i 0 ≤ k → k < start → slice_get ds k ≢ Some d
none_passed ds es d at i start on next other past k above below e = by_case (nat_cases k i) (lt_or_le k at)
  where
    last : IsLast on.chains on.chain i (get_or es i 0)
    last = on.chained.1 i on.chain (on.here i next)

    by_case : (k ≡ i) ⊎ (k ≢ i) → (k < at) ⊎ (at ≤ k) → ⊥
    by_case (inl same) _ = other (ap (slice_get ds) (sym same) ∙ e)
    by_case (inr ne) (inl lt) = last.later k above (omega (arith, lt, next, ne)) (on.its k e)
    by_case (inr ne) (inr le) = past k le below e

-- ---- from outside onto a chain

module _ (ds heads es : List ℕ) (d : ℕ) (are : AreLinked ds heads es) where
  abbrev count : ℕ
  count = length heads

  abbrev p : ℕ
  p = bit_and d (count - 1)

  abbrev cs : List ℕ
  cs = chains_of count ds

  long : length ds ≡ length cs
  long = sym (length-map ds (λ (x : ℕ). bit_and x (count - 1)))

  its : (i : ℕ) → slice_get ds i ≡ Some d → slice_get cs i ≡ Some p
  its i e = slice_get-map (λ (x : ℕ). bit_and x (count - 1)) ds i ∙ ap (λ (o : Option ℕ). option_map (λ (x : ℕ). bit_and x (count - 1)) o) e

  on : (k m : ℕ) → IsLast cs p k m → IsOn ds es d m
  on k m last = record { chains = cs; chain = p; long = long; chained = are.2; its = its; here = last.here }

  head : IsLast cs p (length cs) (get_or heads p 0)
  head = are.1 p (chain_there d count are.0)

  pub on_head : IsOn ds es d (get_or heads p 0)
  on_head = on (length cs) (get_or heads p 0) head

  pub last_of_all : (m : ℕ) → IsLast ds d (get_or heads p 0) m → IsLast ds d (length ds) m
  last_of_all m inner = lifted ds cs d p (length ds) (get_or heads p 0) m its (subst (λ (k : ℕ). IsLast cs p k (get_or heads p 0)) (sym long) head) inner

  pub on_earlier : (i : ℕ) → slice_get ds i ≡ Some d → IsOn ds es d (get_or es i 0)
  on_earlier i at = on i (get_or es i 0) (are.2.1 i p (its i at))

  pub last_before : (i m : ℕ) → slice_get ds i ≡ Some d → IsLast ds d (get_or es i 0) m → IsLast ds d i m
  last_before i m at inner = lifted ds cs d p i (get_or es i 0) m its (are.2.1 i p (its i at)) inner

  pub earlier_there : (i : ℕ) → slice_get ds i ≡ Some d → i < length es
  earlier_there i at = omega (arith, slice_get_within ds i d at, long, are.2.0)
