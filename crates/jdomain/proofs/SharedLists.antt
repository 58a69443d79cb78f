-- Sources that take of the same shares have the same list, and a table of lists grows by one.
use Rattle.std.proofs.Common.{◌≡◌, ℕ, zero, suc, ◌+◌, ◌<◌, Bool, true, false, cond, All, List, [], ◌∷◌, ◌++◌, length, get_or, take, map, Option, Some, None, refl, sym, ap, ap₂, subst, ◌∙◌, add-one, arith, inl, inr}
use Rattle.std.specs.Prelude.{filter, flat_map}
use Rattle.std.specs.Str.{bytes_eq}
use Rattle.std.specs.Ordering.{nat_cmp}
use Rattle.std.specs.Cmp.{eq_by_cmp_equiv}
use Rattle.std.specs.Cmp.Lexicographic.{slice_cmp, nat_list_cmp_total, nat_list_eq_equiv}
use Rattle.std.specs.BTreeMap as tree
use Rattle.std.specs.BTreeMap.{BTreeMap}
use Rattle.std.specs.Global.{Vec}
use Rattle.std.specs.Map.{lookup, KeepsOthers}
use Rattle.std.proofs.Math.Seq.{take-suc}
use Rattle.std.proofs.lemmas.List.Elements.{All-head, All-push, All-tail}
use Rattle.std.proofs.lemmas.Bool.{cases_Bool}
use Rattle.std.proofs.lemmas.Map.Text.{is_eq-slice_cmp}
use Rattle.std.proofs.lemmas.Slice.Eq.{bytes_eq-Decides}
use Rattle.url.specs.Parts.{Parts}
use Rattle.jperm.specs.declared.permission.Permission.{Permission}
use Rattle.jdomain.specs.declared.share.Share.{Share}
use Rattle.jdomain.specs.CodeSources.{is_in}
use Rattle.jdomain.specs.GrantShares.{IsList, Keeps, Knows, list_at, mark, marks, number_at, taken}

-- ---- equal marks

one_mark : (x y : Bool) → mark x ≡ mark y → x ≡ y
one_mark true true e = refl
one_mark false false e = refl
one_mark true false e = absurd cc
one_mark false true e = absurd cc

head_is : {A : Type 0} (x y : A) (xs ys : List A) → x ∷ xs ≡ y ∷ ys → x ≡ y
head_is x y xs ys e = cc

tail_is : {A : Type 0} (x y : A) (xs ys : List A) → x ∷ xs ≡ y ∷ ys → xs ≡ ys
tail_is x y xs ys e = cc

chosen : (x y : Bool) (share : Share) (xs ys : List Share) → x ≡ y → flat_map (λ s. s.permissions) xs ≡ flat_map (λ s. s.permissions) ys
    → flat_map (λ s. s.permissions) (cond x (share ∷ xs) xs) ≡ flat_map (λ s. s.permissions) (cond y (share ∷ ys) ys)
chosen true true share xs ys e h = ap (λ (ps : List Permission). share.permissions ++ ps) h
chosen false false share xs ys e h = h
chosen true false share xs ys e h = absurd cc
chosen false true share xs ys e h = absurd cc

pub same_list : (shares : List Share) (a b : Parts) → marks shares a ≡ marks shares b → taken shares a ≡ taken shares b
unfolding taken
same_list [] a b e = refl
same_list (share ∷ shares) a b e =
    chosen (is_in share.code a) (is_in share.code b) share (filter (λ s. is_in s.code a) shares) (filter (λ s. is_in s.code b) shares)
    (one_mark (is_in share.code a) (is_in share.code b) (head_is _ _ (marks shares a) (marks shares b) e))
    (same_list shares a b (tail_is (mark (is_in share.code a)) (mark (is_in share.code b)) _ _ e))

-- ---- one more list

list_last : (lists : List (List Permission)) (list : List Permission) → list_at (lists ++ list ∷ []) (length lists) ≡ list
list_last [] list = refl
list_last (x ∷ lists) list = list_last lists list

list_before : (lists : List (List Permission)) (list : List Permission) (k : ℕ) → k < length lists → list_at (lists ++ list ∷ []) k ≡ list_at lists k
list_before [] list k lt = absurd (omega (arith, lt))
list_before (x ∷ lists) list zero lt = refl
list_before (x ∷ lists) list (suc k) lt = list_before lists list k (omega (arith, lt))

longer : (lists : List (List Permission)) (list : List Permission) → length (lists ++ list ∷ []) ≡ suc (length lists)
longer [] list = refl
longer (x ∷ lists) list = ap (λ (n : ℕ). suc n) (longer lists list)

pub keeps_same : (lists : List (List Permission)) → Keeps lists lists
keeps_same lists = (omega arith, λ k lt. refl)

pub keeps_more : (lists : List (List Permission)) (list : List Permission) → Keeps lists (lists ++ list ∷ [])
keeps_more lists list = (rw longer (omega arith), λ k lt. list_before lists list k lt)

-- the list that was made last
pub is_last : (shares : List Share) (lists : List (List Permission)) (list : List Permission) (source : Parts) → list ≡ taken shares source → IsList shares (lists ++ list ∷ []) source (length lists)
is_last shares lists list source e = (rw longer (omega arith), list_last lists list ∙ e)

-- ---- the table

pub knows_none : (shares : List Share) (lists : List (List Permission)) (known : BTreeMap (Vec ℕ) ℕ) → tree.IsEmpty known → Knows shares lists known
knows_none shares lists known e source k h =
    let none : number_at known (marks shares source) ≡ None = ap (lookup (tree.is_at (λ x. slice_cmp nat_cmp (marks shares source) x.items))) e in
    let bad : None ≡ Some k = sym none ∙ h in
    absurd cc

apart : (bs cs ks : List ℕ) → bytes_eq bs cs ≡ false → bytes_eq bs ks ≡ true → bytes_eq cs ks ≡ false
apart bs cs ks n y = nat_list_eq_equiv.symm cs ks ∙ sym (nat_list_eq_equiv.congr bs ks cs y) ∙ n

-- what an insertion leaves at any key
inserted_at : (bs : List ℕ) (old new : BTreeMap (Vec ℕ) ℕ) (w : Option ℕ) → tree.UpdatesBy (λ x y. slice_cmp nat_cmp x.items y.items) (λ k. slice_cmp nat_cmp bs k.items) old new w
    → (q : List ℕ) → number_at new q ≡ cond (bytes_eq bs q) w (number_at old q)
unfolding KeepsOthers
inserted_at bs old new w h q = elim (cases_Bool (bytes_eq bs q)) [
  | inl y ↦
      let same : bs ≡ q = (bytes_eq-Decides bs q).0 y in
      let here : number_at new q ≡ w = subst (λ (t : List ℕ). number_at new t ≡ w) same h.1 in
      rw y here
  | inr n ↦
      let other : number_at new q ≡ number_at old q =
      h.3 (tree.is_at (λ k. slice_cmp nat_cmp q k.items)) (λ x y. (eq_by_cmp_equiv nat_list_cmp_total).congr q x.items y.items)
      (λ k is. is_eq-slice_cmp q k.items ∙ apart bs q k.items n (sym (is_eq-slice_cmp bs k.items) ∙ is)) in
      rw n other
]

some_is : (a b : ℕ) → Some a ≡ Some b → a ≡ b
some_is a b e = cc

pub knows_more : (shares : List Share) (lists : List (List Permission)) (list : List Permission) (source : Parts) (key : Vec ℕ) (old new : BTreeMap (Vec ℕ) ℕ)
    → key.items ≡ marks shares source → list ≡ taken shares source → Knows shares lists old
    → tree.UpdatesBy (λ x y. slice_cmp nat_cmp x.items y.items) (λ k. slice_cmp nat_cmp key.items k.items) old new (Some (length lists))
    → Knows shares (lists ++ list ∷ []) new
knows_more shares lists list source key old new marked made knows h other k at = elim (cases_Bool (bytes_eq key.items (marks shares other))) [
  | inl y ↦
      let same : key.items ≡ marks shares other = (bytes_eq-Decides key.items (marks shares other)).0 y in
      let is : number_at new (marks shares other) ≡ Some (length lists) = inserted_at key.items old new (Some (length lists)) h (marks shares other) ∙ ap (λ (b : Bool). cond b (Some (length lists)) (number_at old (marks shares other))) y in
      let number : length lists ≡ k = some_is (length lists) k (sym is ∙ at) in
      let one : list ≡ taken shares other = made ∙ same_list shares source other (sym marked ∙ same) in
      subst (λ (n : ℕ). IsList shares (lists ++ list ∷ []) other n) number (is_last shares lists list other one)
  | inr n ↦
      let is : number_at new (marks shares other) ≡ number_at old (marks shares other) = inserted_at key.items old new (Some (length lists)) h (marks shares other) ∙ ap (λ (b : Bool). cond b (Some (length lists)) (number_at old (marks shares other))) n in
      let found : IsList shares lists other k = knows other k (sym is ∙ at) in
      (rw longer (omega (arith, found.0)), list_before lists list k found.0 ∙ found.1)
]

-- ---- the loop over sources

pub same_numbers : (old new : List (List Permission)) (numbers : List ℕ) → Keeps old new → All (λ k. k < length old) numbers → map (list_at new) numbers ≡ map (list_at old) numbers
same_numbers old new [] keeps there = refl
same_numbers old new (k ∷ numbers) keeps there = ap₂ (λ list lists. list ∷ lists) (keeps.1 k (All-head (λ i. i < length old) k numbers there)) (same_numbers old new numbers keeps (All-tail (λ i. i < length old) k numbers there))

pub all_there : (old new : List (List Permission)) (numbers : List ℕ) (k : ℕ) → Keeps old new → k < length new → All (λ i. i < length old) numbers → All (λ i. i < length new) (numbers ++ k ∷ [])
all_there old new numbers k keeps lt there = All-push (λ i. i < length new) numbers k (λ i d in_them. omega (arith, keeps.0, there i d in_them)) lt

map_more : {A B : Type 0} (f : A → B) (xs : List A) (x : A) → map f (xs ++ x ∷ []) ≡ map f xs ++ f x ∷ []
map_more f [] x = refl
map_more f (y ∷ xs) x = ap (λ ys. f y ∷ ys) (map_more f xs x)

pub lists_next : (shares : List Share) (old new : List (List Permission)) (numbers : List ℕ) (k i : ℕ) (sources : List Parts) (source : Parts) → i < length sources → source ≡ get_or sources i source
    → Keeps old new → All (λ n. n < length old) numbers → IsList shares new source k → map (list_at old) numbers ≡ map (taken shares) (take i sources)
    → map (list_at new) (numbers ++ k ∷ []) ≡ map (taken shares) (take (i + 1) sources)
lists_next shares old new numbers k i sources source lt is keeps there list so_far =
    let more : take (i + 1) sources ≡ take i sources ++ source ∷ [] = rw (add-one, take-suc sources i source, ← is) refl in
    map_more (list_at new) numbers k
    ∙ ap₂ (λ lists one. lists ++ one ∷ []) (same_numbers old new numbers keeps there ∙ so_far) list.1
    ∙ sym (map_more (taken shares) (take i sources) source)
    ∙ ap (map (taken shares)) (sym more)
