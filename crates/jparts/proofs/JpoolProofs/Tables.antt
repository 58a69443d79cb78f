-- Tables of what the pool's texts may be used as.
use Rattle.std.proofs.Common.{◌≡◌, ℕ, List, Option, Some, None, refl, ap, ◌∙◌}
use Rattle.std.specs.Prelude.{slice_get, option_map, option_and_then}
use Rattle.std.proofs.lemmas.Option.{slice_get-map}
use Rattle.jparts.specs.declared.jpool.entry.Entry.{Entry}
use Rattle.jparts.specs.declared.jpool.uses.TextUse.{TextUse}
use Rattle.jparts.specs.jpool.PoolTextUses.{use_in, use_of, uses_of}
use Rattle.jparts.specs.jpool.PoolEntries.{utf8_parts}

in_entry : (o : Option Entry) → use_in (option_map (λ e. option_map use_of (option_and_then utf8_parts (Some e))) o) ≡ option_map use_of (option_and_then utf8_parts o)
in_entry None = refl
in_entry (Some e) = refl

pub use_at : (uses : List (Option TextUse)) (entries : List Entry) (i : ℕ) → uses ≡ uses_of entries → use_in (slice_get uses i) ≡ option_map use_of (option_and_then utf8_parts (slice_get entries i))
use_at uses entries i e =
    ap (λ (t : List (Option TextUse)). use_in (slice_get t i)) e
    ∙ ap use_in (slice_get-map (λ e. option_map use_of (option_and_then utf8_parts (Some e))) entries i)
    ∙ in_entry (slice_get entries i)
