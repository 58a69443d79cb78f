-- What sources take of shares is what the policy grants to them.
use Rattle.std.proofs.Common.{◌≡◌, ℕ, Bool, true, false, cond, List, [], ◌∷◌, ◌++◌, map, refl, ap₂}
use Rattle.std.specs.Prelude.{flat_map}
use Rattle.url.specs.Parts.{Parts}
use Rattle.jperm.specs.declared.permission.Permission.{Permission}
use Rattle.jpolicy.specs.declared.grant.Grant.{Grant}
use Rattle.jdomain.specs.Domains.{granted, permissions_of}
use Rattle.jdomain.specs.GrantShares.{share_of, taken}
use Rattle.jdomain.specs.CodeSources.{matches}

choose : {X Y : Type 0} (P : X → List Permission) (R : Y → List Permission) (b : Bool) (x : X) (xs : List X) (y : Y) (ys : List Y)
    → P x ≡ R y → flat_map P xs ≡ flat_map R ys → flat_map P (cond b (x ∷ xs) xs) ≡ flat_map R (cond b (y ∷ ys) ys)
choose P R true x xs y ys here more = ap₂ (λ ps qs. ps ++ qs) here more
choose P R false x xs y ys here more = more

one_taken : (directory : List ℕ) (policy : List Grant) (source : Parts)
    → taken (map (share_of directory) policy) source ≡ granted directory policy source
unfolding taken granted
one_taken directory [] source = refl
one_taken directory (grant ∷ policy) source =
    choose (λ share. share.permissions) (permissions_of directory) (matches grant source) (share_of directory grant) _ grant _ refl
    (one_taken directory policy source)

pub all_taken : (directory : List ℕ) (policy : List Grant) (sources : List Parts)
    → map (taken (map (share_of directory) policy)) sources ≡ map (granted directory policy) sources
all_taken directory policy [] = refl
all_taken directory policy (source ∷ sources) =
    ap₂ (λ list lists. list ∷ lists) (one_taken directory policy source) (all_taken directory policy sources)
