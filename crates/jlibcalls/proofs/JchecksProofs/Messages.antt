-- A message and the parts of a permission's text behind it.
use Rattle.std.proofs.Common.{◌≡◌, ℕ, suc, ◌+◌, ◌<◌, List, [], ◌++◌, length, drop, get_or, sym, ap, ◌∙◌, arith, append_assoc, add-one, drop-cons}
use Rattle.std.proofs.lemmas.List.{append-nil, drop_all}
use Rattle.std.specs.List.{flat_map}
use Rattle.std.specs.Prelude.{codes}
use Rattle.jperm.specs.declared.permission.Permission.{Permission}
use Rattle.jperm.specs.PermissionTexts.{parts, text_of}
use Rattle.jsemantics.specs.jmachine.Security.{denial_message}

abbrev joined : List (List ℕ) → List ℕ
joined pieces = flat_map (λ (piece : List ℕ). piece) pieces

pub no_part : (asked : Permission) → joined (parts asked) ≡ text_of asked → codes "access denied " ++ joined (drop 0 (parts asked)) ≡ denial_message asked
no_part asked whole = ap (λ (rest : List ℕ). codes "access denied " ++ rest) whole

step : (pieces : List (List ℕ)) (at : ℕ) (front : List ℕ) → at < length pieces → (front ++ get_or pieces at []) ++ joined (drop (at + 1) pieces) ≡ front ++ joined (drop at pieces)
step pieces at front lt = rw (drop-cons pieces at [], add-one) (append_assoc front (get_or pieces at []) (joined (drop (suc at) pieces)))

pub one_part : (asked : Permission) (at count : ℕ) (front part : List ℕ) → length (parts asked) ≡ count → at < count → part ≡ get_or (parts asked) at []
    → front ++ joined (drop at (parts asked)) ≡ denial_message asked → (front ++ part) ++ joined (drop (at + 1) (parts asked)) ≡ denial_message asked
one_part asked at count front part n lt is so_far =
    let long : at < length (parts asked) = omega arith in
    rw is (step (parts asked) at front long ∙ so_far)

pub all_parts : (asked : Permission) (count : ℕ) (front : List ℕ) → length (parts asked) ≡ count → front ++ joined (drop count (parts asked)) ≡ denial_message asked → front ≡ denial_message asked
all_parts asked count front n h = sym (append-nil front) ∙ rw (drop_all count (parts asked) (omega arith)) at h
