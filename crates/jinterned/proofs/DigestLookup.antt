-- What has a digest is looked for among those that have it, the last one first.
use Rattle.std.proofs.Common.{◌≡◌, ◌≢◌, ◌∙◌, ◌⊎◌, inl, inr, ℕ, suc, ◌-◌, ◌<◌, ◌≤◌, List, length, Some, map, option_map, sym, ap, subst, arith}
use Rattle.std.specs.Prelude.{slice_get}
use Rattle.std.proofs.lemmas.List.{length-map}
use Rattle.std.proofs.lemmas.Option.{slice_get-map, slice_get_within}
use Rattle.jinterned.specs.DigestChains.{IsLast}
use Rattle.jinterned.proofs.DigestChains.{nat_cases, lt_or_le}

pub one_before : (at : ℕ) → at ≢ 0 → at ≡ suc (at - 1)
one_before at some = omega (arith, some)

-- What was gone through isn't the thing, and the number is that behind one of its digest.
pub record Gone {T : Type 0} (digest : T → ℕ) (all : List T) (c : T) (at : ℕ) : Type 0 where
  pub within : at ≤ length all
  pub here : (j : ℕ) → at ≡ suc j → slice_get (map digest all) j ≡ Some (digest c)
  pub past : (i : ℕ) → at ≤ i → slice_get all i ≢ Some c

module _ {T : Type 0} (digest : T → ℕ) where
  -- one that is the thing has its digest
  its : (all : List T) (c : T) (i : ℕ) → slice_get all i ≡ Some c → slice_get (map digest all) i ≡ Some (digest c)
  its all c i is = slice_get-map digest all i ∙ ap (λ o. option_map digest o) is

  -- so it isn't past the last of them
  not_past : (all : List T) (c : T) (count m i : ℕ) → IsLast (map digest all) (digest c) count m → m ≤ i → i < count → slice_get all i ≢ Some c
  not_past all c count m i last above below is = last.later i above below (its all c i is)

  begins_here : (all : List T) (c : T) (m : ℕ) → IsLast (map digest all) (digest c) (length (map digest all)) m → Gone digest all c m
  begins_here all c m last =
      let long : length (map digest all) ≡ length all = length-map all digest in
      record {
        within = omega (arith, last.within, long);
        here = last.here;
        past = λ i above at. not_past all c (length (map digest all)) m i last above (omega (arith, slice_get_within all i c at, long)) at;
      }

  pub begins : (all : List T) (ds : List ℕ) (c : T) (d m : ℕ) → ds ≡ map digest all → d ≡ digest c → IsLast ds d (length ds) m → Gone digest all c m
  begins all ds c d m are is last =
      begins_here all c m (subst (λ (k : ℕ). IsLast (map digest all) k (length (map digest all)) m) is (subst (λ (es : List ℕ). IsLast es d (length es) m) are last))

  -- the one that is looked at has the digest
  pub has_digest : (all : List T) (ds : List ℕ) (c : T) (d at i : ℕ) → ds ≡ map digest all → d ≡ digest c → Gone digest all c at → at ≡ suc i → slice_get ds i ≡ Some d
  has_digest all ds c d at i are is gone next =
      ap (λ (es : List ℕ). slice_get es i) are ∙ gone.here i next ∙ ap (λ (k : ℕ). Some k) (sym is)

  same_one : (a b : T) → Some a ≡ Some b → a ≡ b
  same_one a b e = cc

  pub goes_on : (all : List T) (ds : List ℕ) (c one : T) (d at i m : ℕ) → ds ≡ map digest all → d ≡ digest c → Gone digest all c at → at ≡ suc i
      → slice_get all i ≡ Some one → one ≢ c → IsLast ds d i m → Gone digest all c m
  goes_on all ds c one d at i m are is gone next there other before =
      record {
        within = omega (arith, last.within, gone.within, next);
        here = last.here;
        past = λ k above. by_place k above (nat_cases k i) (lt_or_le k at);
      }
    where
      last : IsLast (map digest all) (digest c) i m
      last = subst (λ (k : ℕ). IsLast (map digest all) k i m) is (subst (λ (es : List ℕ). IsLast es d i m) are before)

      by_place : (k : ℕ) → m ≤ k → (k ≡ i) ⊎ (k ≢ i) → (k < at) ⊎ (at ≤ k) → slice_get all k ≢ Some c
      by_place k above (inl e) _ at_c = other (same_one one c (sym there ∙ ap (slice_get all) (sym e) ∙ at_c))
      by_place k above (inr ne) (inl lt) at_c = not_past all c i m k last above (omega (arith, lt, next, ne)) at_c
      by_place k above (inr ne) (inr le) at_c = gone.past k le at_c
