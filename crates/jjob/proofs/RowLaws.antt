-- What the rows of a parse have under an id, after more values went to a row.
use Rattle.std.proofs.Common.{◌≡◌, ◌∙◌, ◌||◌, Bool, true, false, refl, sym, ap, true≢false, List, [], ◌∷◌, ◌++◌, Option, Some, None, bytes_eq, find, is_some, option_and_then, option_map, unwrap_or, slice_get}
use Rattle.std.proofs.lemmas.Slice.Eq.{bytes_eq-Decides}
use Rattle.clap.specs.Walk.{Row, Text, all_of, first_of, has_row, with_values, without}
use Rattle.clap.specs.declared.builder.value_parser.Reading.{Reading}
use Rattle.clap.specs.declared.parser.matches.ValueSource.{ValueSource}
use Rattle.jjob.proofs.WordForms.{same}

abbrev is_of : Text → Row → Bool
is_of id r = bytes_eq r.id id

-- an id has a row where it has values
pub has_row_is : (id : Text) (rows : List Row) → has_row id rows ≡ is_some (all_of id rows)
has_row_is id [] = refl
has_row_is id (r ∷ rows) = go (is_of id r) refl (has_row_is id rows)
  where
    go : (t : Bool) → is_of id r ≡ t → has_row id rows ≡ is_some (all_of id rows) → has_row id (r ∷ rows) ≡ is_some (all_of id (r ∷ rows))
    go true t next = rw t refl
    go false t next = rw t next

-- the first value is the first of all
pub first_is : (id : Text) (rows : List Row) → first_of id rows ≡ option_and_then (λ vs. slice_get vs 0) (all_of id rows)
first_is id rows = go (find (is_of id) rows)
  where
    go : (o : Option Row) → option_and_then (λ r. slice_get r.values 0) o ≡ option_and_then (λ vs. slice_get vs 0) (option_map (λ (r : Row). r.values) o)
    go None = refl
    go (Some r) = refl

-- a row that isn't there can't go
pub none_goes : (id : Text) (rows : List Row) → has_row id rows ≡ false → without id rows ≡ rows
none_goes id [] e = refl
none_goes id (r ∷ rows) e = go (is_of id r) refl (none_goes id rows)
  where
    go : (t : Bool) → is_of id r ≡ t → (has_row id rows ≡ false → without id rows ≡ rows) → without id (r ∷ rows) ≡ r ∷ rows
    go true t next = absurd (true≢false (sym (ap (λ b. b || has_row id rows) t) ∙ e))
    go false t next =
        let rest : has_row id rows ≡ false = rw t at e in
        rw t (ap (λ rs. r ∷ rs) (next rest))

module _ (id : Text) (how : Reading) (s : ValueSource) (values : List Text) where
  -- what an id has after more values went to its row
  pub all_more : (rows : List Row) → all_of id (with_values id how s values rows) ≡ Some (unwrap_or (all_of id rows) [] ++ values)
  all_more rows = go rows
    where
      own : bytes_eq id id ≡ true
      own = (bytes_eq-Decides id id).1 refl

      go : (rows : List Row) → all_of id (with_values id how s values rows) ≡ Some (unwrap_or (all_of id rows) [] ++ values)
      go [] = rw own refl
      go (r ∷ rows) = at (is_of id r) refl (go rows)
        where
          at : (t : Bool) → is_of id r ≡ t → all_of id (with_values id how s values rows) ≡ Some (unwrap_or (all_of id rows) [] ++ values)
              → all_of id (with_values id how s values (r ∷ rows)) ≡ Some (unwrap_or (all_of id (r ∷ rows)) [] ++ values)
          at true t next = rw (t, t) refl
          at false t next = rw (t, t) next

  -- another id has what it had
  pub all_other : (other : Text) → bytes_eq id other ≡ false → (rows : List Row) → all_of other (with_values id how s values rows) ≡ all_of other rows
  all_other other apart [] = rw apart refl
  all_other other apart (r ∷ rows) = at (is_of id r) refl (all_other other apart rows)
    where
      at : (t : Bool) → is_of id r ≡ t → all_of other (with_values id how s values rows) ≡ all_of other rows
          → all_of other (with_values id how s values (r ∷ rows)) ≡ all_of other (r ∷ rows)
      at true t next =
          let none : is_of other r ≡ false = ap (λ i. bytes_eq i other) (same r.id id t) ∙ apart in
          rw (t, none) refl
      at false t next = by (is_of other r) refl
        where
          by : (u : Bool) → is_of other r ≡ u → all_of other (with_values id how s values (r ∷ rows)) ≡ all_of other (r ∷ rows)
          by true u = rw (t, u) refl
          by false u = rw (t, u) next
