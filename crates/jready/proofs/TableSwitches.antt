-- Switches whose keys rise by one.
use Rattle.std.proofs.Common.{◌≡◌, ℕ, ℤ, ◌+◌, List, [], ◌∷◌, ◌++◌, length, Some, ap, ◌∙◌, arith}
use Rattle.std.specs.Prelude.{option_map, slice_get}
use Rattle.std.proofs.lemmas.List.{length-append}
use Rattle.jresolution.specs.juses.IndexedInstructions.{Switch}
use Rattle.jresolution.specs.juses.InternedInstructions.{keys_from}
use Rattle.jready.specs.declared.tables.Tables.{Tables}
use Rattle.jready.specs.DecodedInstructions.{table_meant}
use Rattle.jready.specs.TableGrowth.{part}
use Rattle.jready.proofs.TableGrowth.{get_more, get_put, part_put}

pub table_means : (t u v : Tables) (low : ℤ) (other first count : ℕ) (numbers : List ℕ) → first ≡ length t.targets → u.targets ≡ t.targets ++ other ∷ []
    → v.targets ≡ u.targets ++ numbers → count ≡ length numbers
    → table_meant v (record { low = low; first = first; count = count }) ≡ Some (Switch (keys_from low numbers) other)
table_means t u v low other first count numbers f put all c =
    let len : length u.targets ≡ length t.targets + 1 = ap length put ∙ length-append t.targets (other ∷ []) in
    let here : slice_get u.targets first ≡ Some other = ap (λ (l : List ℕ). slice_get l first) put ∙ ap (slice_get (t.targets ++ other ∷ [])) f
    ∙ get_put t.targets other in
    let head : slice_get v.targets first ≡ Some other = ap (λ (l : List ℕ). slice_get l first) all ∙ get_more u.targets numbers first (omega arith) ∙ here in
    let rest : part v.targets (first + 1) count ≡ numbers = ap (λ (l : List ℕ). part l (first + 1) count) all
    ∙ part_put u.targets numbers (first + 1) count (omega arith) c in
    ap (option_map (Switch (keys_from low (part v.targets (first + 1) count)))) head ∙ ap (λ (l : List ℕ). Some (Switch (keys_from low l) other)) rest
