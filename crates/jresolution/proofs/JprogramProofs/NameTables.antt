-- The table of names, as a loop fills it: the first place of a name stays.
use Rattle.std.proofs.Common.{◌≡◌, ℕ, ◌+◌, ◌≤◌, ◌<◌, Bool, true, false, cond, List, [], ◌∷◌, ◌++◌, length, get_or, take, Option, Some, None, refl, sym, ap, subst, ◌∙◌, arith, add-one, inl, inr}
use Rattle.std.specs.Prelude.{is_some}
use Rattle.std.specs.List.{position}
use Rattle.std.specs.Option.{option_or}
use Rattle.std.specs.Str.{bytes_eq}
use Rattle.std.specs.Ordering.{nat_cmp, eq_by_cmp}
use Rattle.std.specs.Cmp.{eq_by_cmp_equiv}
use Rattle.std.specs.Cmp.Lexicographic.{slice_cmp, nat_list_cmp_total, nat_list_eq_equiv}
use Rattle.std.specs.BTreeMap as tree
use Rattle.std.specs.BTreeMap.{BTreeMap}
use Rattle.std.specs.Global.{Vec}
use Rattle.std.specs.Map.{lookup, KeepsOthers}
use Rattle.std.proofs.lemmas.Bool.{cases_Bool}
use Rattle.std.proofs.lemmas.Map.Text.{is_eq-slice_cmp}
use Rattle.std.proofs.lemmas.Slice.Eq.{bytes_eq-Decides}
use Rattle.std.proofs.lemmas.List.{length-take-le, take_all}
use Rattle.std.proofs.Math.Seq.{take-suc}
use Rattle.jparts.proofs.JpoolProofs.Pushes.{position_push}
use Rattle.jresolution.specs.declared.jprogram.part.CodePart.{CodePart}
use Rattle.jresolution.specs.jprogram.ClassFileParts.{this_name}
use Rattle.jresolution.specs.jprogram.ProgramClasses.{place_of}
use Rattle.jresolution.specs.jprogram.NameTable.{ArePlaces, Notes, place_at}

-- ---- one more name

same_key : Vec ℕ → Vec ℕ → Bool
same_key x y = eq_by_cmp (λ (a b : Vec ℕ). slice_cmp nat_cmp a.items b.items) x y

apart : (bs cs ks : List ℕ) → bytes_eq bs cs ≡ false → bytes_eq bs ks ≡ true → bytes_eq cs ks ≡ false
apart bs cs ks n y = nat_list_eq_equiv.symm cs ks ∙ sym (nat_list_eq_equiv.congr bs ks cs y) ∙ n

-- what an insertion leaves at any name
pub inserted_at : (bs : List ℕ) (old new : BTreeMap (Vec ℕ) ℕ) (w : Option ℕ) → tree.UpdatesBy (λ x y. slice_cmp nat_cmp x.items y.items) (λ k. slice_cmp nat_cmp bs k.items) old new w
    → (q : List ℕ) → place_at new q ≡ cond (bytes_eq bs q) w (place_at old q)
unfolding KeepsOthers
inserted_at bs old new w h q = elim (cases_Bool (bytes_eq bs q)) [
  | inl y ↦
      let same : bs ≡ q = (bytes_eq-Decides bs q).0 y in
      let here : place_at new q ≡ w = subst (λ (t : List ℕ). place_at new t ≡ w) same h.1 in
      rw y here
  | inr n ↦
      let other : place_at new q ≡ place_at old q =
      h.3 (tree.is_at (λ k. slice_cmp nat_cmp q k.items)) (λ x y. (eq_by_cmp_equiv nat_list_cmp_total).congr q x.items y.items)
      (λ k is. is_eq-slice_cmp q k.items ∙ apart bs q k.items n (sym (is_eq-slice_cmp bs k.items) ∙ is)) in
      rw n other
]

or_none : (o : Option ℕ) → option_or o None ≡ o
or_none None = refl
or_none (Some i) = refl

pub none_is : (o : Option ℕ) → is_some o ≡ false → o ≡ None
none_is None e = refl
none_is (Some i) e = absurd cc

pub or_some : (o later : Option ℕ) → is_some o ≡ true → option_or o later ≡ o
or_some None later e = absurd cc
or_some (Some i) later e = refl

pub noted : (name : List ℕ) (i : ℕ) (own : Vec ℕ) (old new : BTreeMap (Vec ℕ) ℕ) → own.items ≡ name → is_some (place_at old name) ≡ false
    → tree.UpdatesBy (λ x y. slice_cmp nat_cmp x.items y.items) (λ k. slice_cmp nat_cmp own.items k.items) old new (Some i) → Notes name i old new
noted name i own old new is absent h q = elim (cases_Bool (bytes_eq name q)) [
  | inl y ↦
      let same : name ≡ q = (bytes_eq-Decides name q).0 y in
      let none : place_at old q ≡ None = none_is (place_at old q) (subst (λ (t : List ℕ). is_some (place_at old t) ≡ false) same absent) in
      let here : bytes_eq own.items q ≡ true = ap (λ (t : List ℕ). bytes_eq t q) is ∙ y in
      let now : place_at new q ≡ Some i = inserted_at own.items old new (Some i) h q ∙ ap (λ (b : Bool). cond b (Some i) (place_at old q)) here in
      rw (now, none, y) refl
  | inr n ↦
      let away : bytes_eq own.items q ≡ false = ap (λ (t : List ℕ). bytes_eq t q) is ∙ n in
      let now : place_at new q ≡ place_at old q = inserted_at own.items old new (Some i) h q ∙ ap (λ (b : Bool). cond b (Some i) (place_at old q)) away in
      rw (now, n) (sym (or_none (place_at old q)))
]

pub noted_before : (name : List ℕ) (i : ℕ) (old : BTreeMap (Vec ℕ) ℕ) → is_some (place_at old name) ≡ true → Notes name i old old
noted_before name i old there q = elim (cases_Bool (bytes_eq name q)) [
  | inl y ↦
      let same : name ≡ q = (bytes_eq-Decides name q).0 y in
      let some : is_some (place_at old q) ≡ true = subst (λ (t : List ℕ). is_some (place_at old t) ≡ true) same there in
      sym (or_some (place_at old q) (cond (bytes_eq name q) (Some i) None) some)
  | inr n ↦ rw n (sym (or_none (place_at old q)))
]

-- ---- the loop

pub places_none : (places : BTreeMap (Vec ℕ) ℕ) → tree.IsEmpty places → ArePlaces [] places
unfolding place_of
places_none places e name = ap (lookup (tree.is_at (λ k. slice_cmp nat_cmp name k.items))) e

pub places_next : (parts : List CodePart) (i : ℕ) (one : CodePart) (name : List ℕ) (old new : BTreeMap (Vec ℕ) ℕ) → i < length parts → one ≡ get_or parts i one → name ≡ this_name one.class → ArePlaces (take i parts) old → Notes name i old new → ArePlaces (take (i + 1) parts) new
unfolding place_of
places_next parts i one name old new lt is named found notes q =
    let test : CodePart → Bool = λ part. bytes_eq (this_name part.class) q in
    let n : length (take i parts) ≡ i = length-take-le i parts (omega arith) in
    let more : take (i + 1) parts ≡ take i parts ++ one ∷ [] = rw (add-one, take-suc parts i one, ← is) refl in
    notes q ∙ ap (λ (o : Option ℕ). option_or o (cond (bytes_eq name q) (Some i) None)) (found q)
    ∙ ap (λ (t : List ℕ). option_or (position test (take i parts)) (cond (bytes_eq t q) (Some i) None)) named
    ∙ sym (ap (position test) more ∙ position_push test (take i parts) one ∙ ap (λ (k : ℕ). option_or (position test (take i parts)) (cond (test one) (Some k) None)) n)

pub places_end : (parts : List CodePart) (i : ℕ) (places : BTreeMap (Vec ℕ) ℕ) → length parts ≤ i → ArePlaces (take i parts) places → ArePlaces parts places
places_end parts i places le found name = found name ∙ ap (λ (ps : List CodePart). place_of ps name) (take_all i parts le)
