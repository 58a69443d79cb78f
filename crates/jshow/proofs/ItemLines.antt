-- The lines of items, one by one.
use Rattle.std.proofs.Common.{◌≡◌, ℕ, suc, ◌<◌, List, ◌∷◌, ◌++◌, Option, length, get_or, take, drop, sym, ap, subst, ◌∙◌, append_assoc}
use Rattle.std.proofs.Math.Seq.{drop-cons}
use Rattle.std.proofs.lemmas.List.{take-append-drop}
use Rattle.std.proofs.lemmas.List.Concat.{flat_map-append, flat_map-cons}
use Rattle.std.specs.List.{flat_map}
use Rattle.jground.specs.jbase.FaultCauses.{appended, IsCut}
use Rattle.jground.proofs.JbaseProofs.Cuts.{cut_then, cut_more}

-- The lines of the items before one went out, and a front of its line.
pub cut_item : {A : Type 0} (line : A → List ℕ) (xs : List A) (i : ℕ) (x : A) (old mid new : Option (List ℕ)) → i < length xs → x ≡ get_or xs i x → mid ≡ appended old (flat_map line (take i xs)) → IsCut mid new (line x) → IsCut old new (flat_map line xs)
cut_item {A} line xs i x old mid new lt is so_far h =
    let one : drop i xs ≡ x ∷ drop (suc i) xs = drop-cons xs i x lt ∙ ap (λ (y : A). y ∷ drop (suc i) xs) (sym is) in
    let all : flat_map line xs ≡ (flat_map line (take i xs) ++ line x) ++ flat_map line (drop (suc i) xs) =
    ap (flat_map line) (sym (take-append-drop i xs) ∙ ap (λ (r : List A). take i xs ++ r) one)
    ∙ flat_map-append line (take i xs) (x ∷ drop (suc i) xs)
    ∙ ap (λ (r : List ℕ). flat_map line (take i xs) ++ r) (flat_map-cons line x (drop (suc i) xs))
    ∙ sym (append_assoc (flat_map line (take i xs)) (line x) (flat_map line (drop (suc i) xs))) in
    subst (λ (t : List ℕ). IsCut old new t) (sym all) (cut_more old new (flat_map line (take i xs) ++ line x) (flat_map line (drop (suc i) xs)) (cut_then old mid new (flat_map line (take i xs)) (line x) so_far h))
