-- The lines of domains, one domain behind the other.
use Rattle.std.proofs.Common.{◌≡◌, ℕ, zero, suc, ◌+◌, ◌<◌, ◌≤◌, List, [], ◌∷◌, ◌++◌, Option, Some, length, get_or, drop, refl, sym, ap, ◌∙◌, append_assoc, add-one}
use Rattle.std.specs.List.{slice_get}
use Rattle.std.proofs.Math.Seq.{drop-cons}
use Rattle.std.proofs.Math.ListN.{drop_of_length-le}
use Rattle.std.proofs.lemmas.List.{append-nil}
use Rattle.url.specs.Parts.{Parts}
use Rattle.jground.specs.jbase.FaultCauses.{appended, IsCut}
use Rattle.jground.proofs.JbaseProofs.Cuts.{appended_both, appended_nil, cut_more, cut_then}
use Rattle.jperm.specs.declared.permission.Permission.{Permission}
use Rattle.jshow.specs.Listings.{domain_lines, listing}

-- All lines are those that went out, and those of the domains from the i-th on.
pub record IsWent (old new : Option (List ℕ)) (i : ℕ) (sources : List Parts) (lists : List (List Permission)) : Type 0 where
  pub done : List ℕ
  pub out : new ≡ appended old done
  pub rest : done ++ listing i (drop i sources) (drop i lists) ≡ listing 0 sources lists

drop_at : {A : Type 0} (xs : List A) (i : ℕ) (x : A) → slice_get xs i ≡ Some x → drop i xs ≡ x ∷ drop (suc i) xs
drop_at [] i x h = cc
drop_at (y ∷ ys) zero x h = let e : y ≡ x = cc in rw e refl
drop_at (y ∷ ys) (suc i) x h = drop_at ys i x h

listing_next : (i : ℕ) (sources : List Parts) (lists : List (List Permission)) (source : Parts) (permissions : List Permission) → i < length sources → source ≡ get_or sources i source → slice_get lists i ≡ Some permissions
    → listing i (drop i sources) (drop i lists) ≡ domain_lines i source permissions ++ listing (i + 1) (drop (i + 1) sources) (drop (i + 1) lists)
unfolding listing
listing_next i sources lists source permissions lt is h = rw (drop-cons sources i source lt, ← is, drop_at lists i permissions h, add-one) refl

listing_ends : (i : ℕ) (sources : List Parts) (lists : List (List Permission)) → length sources ≤ i → listing i (drop i sources) (drop i lists) ≡ []
unfolding listing
listing_ends i sources lists le = rw (drop_of_length-le sources le) refl

pub went_begins : (old : Option (List ℕ)) (sources : List Parts) (lists : List (List Permission)) → IsWent old old 0 sources lists
went_begins old sources lists = record { done = []; out = sym (appended_nil old); rest = refl }

module _ (old mid new : Option (List ℕ)) (i : ℕ) (sources : List Parts) (lists : List (List Permission)) (source : Parts) (permissions : List Permission) (lt : i < length sources) (is : source ≡ get_or sources i source) (h : slice_get lists i ≡ Some permissions) (w : IsWent old mid i sources lists) where
  split : listing 0 sources lists ≡ (w.done ++ domain_lines i source permissions) ++ listing (i + 1) (drop (i + 1) sources) (drop (i + 1) lists)
  split = sym w.rest ∙ ap (λ (r : List ℕ). w.done ++ r) (listing_next i sources lists source permissions lt is h) ∙ sym (append_assoc w.done (domain_lines i source permissions) (listing (i + 1) (drop (i + 1) sources) (drop (i + 1) lists)))

  pub went_on : new ≡ appended mid (domain_lines i source permissions) → IsWent old new (i + 1) sources lists
  went_on o = record {
    done = w.done ++ domain_lines i source permissions;
    out = o ∙ ap (λ (k : Option (List ℕ)). appended k (domain_lines i source permissions)) w.out ∙ appended_both old w.done (domain_lines i source permissions);
    rest = sym split;
  }

  pub went_cut : IsCut mid new (domain_lines i source permissions) → IsCut old new (listing 0 sources lists)
  went_cut c = rw split (cut_more old new _ _ (cut_then old mid new w.done (domain_lines i source permissions) w.out c))

-- the same, where the domain's number is known by an equation
pub went_on_as : (old mid new : Option (List ℕ)) (i d : ℕ) (sources : List Parts) (lists : List (List Permission)) (source : Parts) (permissions : List Permission) → d ≡ i → i < length sources → source ≡ get_or sources i source → slice_get lists d ≡ Some permissions
    → IsWent old mid i sources lists → new ≡ appended mid (domain_lines d source permissions) → IsWent old new (i + 1) sources lists
went_on_as old mid new i d sources lists source permissions e lt is h w o =
    went_on old mid new i sources lists source permissions lt is (rw (← e) h) w (rw (← e) o)

pub went_cut_as : (old mid new : Option (List ℕ)) (i d : ℕ) (sources : List Parts) (lists : List (List Permission)) (source : Parts) (permissions : List Permission) → d ≡ i → i < length sources → source ≡ get_or sources i source → slice_get lists d ≡ Some permissions
    → IsWent old mid i sources lists → IsCut mid new (domain_lines d source permissions) → IsCut old new (listing 0 sources lists)
went_cut_as old mid new i d sources lists source permissions e lt is h w c =
    went_cut old mid new i sources lists source permissions lt is (rw (← e) h) w (rw (← e) c)

-- what went out is a front of all
pub went_stops : (old new : Option (List ℕ)) (i : ℕ) (sources : List Parts) (lists : List (List Permission)) → IsWent old new i sources lists → IsCut old new (listing 0 sources lists)
went_stops old new i sources lists w = (w.done, listing i (drop i sources) (drop i lists), sym w.rest, w.out)

pub went_all : (old new : Option (List ℕ)) (i : ℕ) (sources : List Parts) (lists : List (List Permission)) → length sources ≤ i → IsWent old new i sources lists → new ≡ appended old (listing 0 sources lists)
went_all old new i sources lists le w = w.out ∙ ap (appended old) (sym (append-nil w.done) ∙ ap (λ (r : List ℕ). w.done ++ r) (sym (listing_ends i sources lists le)) ∙ w.rest)
