-- What the parser makes of one word more, and of the end of the words, whatever it holds by then.
use Rattle.std.proofs.Common.{◌≡◌, ◌∙◌, Bool, true, false, refl, sym, ap, true≢false, ℕ, List, [], ◌∷◌, Option, Some, None, codes, bytes_eq, fold, is_some, slice_get}
use Rattle.std.specs.Str.{chars}
use Rattle.clap.specs.Faults.{defaults_fault, entered_fault, fault_of, level_fault, settle_fault, turn_fault, walk_fault}
use Rattle.clap.specs.Kinds.{Kinds, or_else}
use Rattle.clap.specs.Lexer.{long_of, short_of}
use Rattle.clap.specs.Simple.{Shape, built, entered, filled, matches_of, with_index}
use Rattle.clap.specs.Walk.{Held, Row, Rule, Text, Waiting, Walk, has_row, idle, is_pending, nothing_held, option, positional, settled, settled_rows, walk, walked, with_default}
use Rattle.clap.specs.declared.error.kind.ErrorKind.TheVariants as kind
use Rattle.clap.proofs.OnLiterals.{clap_on_literals}
use Rattle.jjob.specs.CommandOptions.{app, rest}

-- the command once it is built, and its two arguments
abbrev pub top : Shape
top = (built app).top

abbrev pub rules_are : List Rule
rules_are = top.rules

abbrev pub words_rule : Rule
words_rule = with_index 1 (filled rest)

abbrev pub Pending : Type 0
Pending = Option (Text × List Text)

-- nothing waits for a value: behind a word, or behind an option with its value
abbrev pub ready : Bool → Waiting
ready true = positional
ready false = idle

abbrev pub held_at : List Row → Pending → Held
held_at rows pending = record { rows = rows; pending = pending; skip = 0 }

abbrev pub at : List Row → Pending → Waiting → Bool → Walk
at rows pending waiting is_trailing =
    record { held = held_at rows pending; waiting = waiting; position = 1; is_trailing = is_trailing; stopped = None }

abbrev pub form_with : List Text → Pending
form_with values = Some (codes "form", values)

abbrev pub words_with : List Text → Pending
words_with values = Some (codes "words", values)

-- the rows once what is pending is used, and what is wrong with it
abbrev pub rows_of_all : List Row → Pending → List Row
rows_of_all rows pending = settled_rows rules_are pending rows

abbrev pub wrong : List Row → Pending → Kinds
wrong rows pending = settle_fault rules_are false (held_at rows pending)

-- ---- one word more

module _ (rows : List Row) (pending : Pending) where
  abbrev now : List Row
  now = rows_of_all rows pending

  -- behind `--`
  pub trailing_step : (waiting : Waiting) (w : Text) → walked rules_are [] (at rows pending waiting true) w ≡ at now (words_with (w ∷ [])) positional true
  unfolding walked clap_on_literals
  trailing_step waiting w = go (is_pending words_rule pending) refl
    where
      go : (t : Bool) → is_pending words_rule pending ≡ t → walked rules_are [] (at rows pending waiting true) w ≡ at now (words_with (w ∷ [])) positional true
      go true t = rw t refl
      go false t = rw t refl

  pub trailing_fault : (waiting : Waiting) (w : Text) → turn_fault top [] (at rows pending waiting true) w ≡ wrong rows pending
  unfolding walked clap_on_literals
  trailing_fault waiting w = go (is_pending words_rule pending) refl
    where
      go : (t : Bool) → is_pending words_rule pending ≡ t → turn_fault top [] (at rows pending waiting true) w ≡ wrong rows pending
      go true t = rw t refl
      go false t = rw t refl

  module _ (w : Text) where
    -- at `--`
    module _ (dashes : bytes_eq w (codes "--") ≡ true) where
      pub dashes_step : (b : Bool) → walked rules_are [] (at rows pending (ready b) false) w ≡ at rows pending (ready b) true
      unfolding walked clap_on_literals
      dashes_step true = rw dashes refl
      dashes_step false = rw dashes refl

      pub dashes_fault : (b : Bool) → turn_fault top [] (at rows pending (ready b) false) w ≡ []
      unfolding walked clap_on_literals
      dashes_fault true = rw dashes refl
      dashes_fault false = rw dashes refl

    module _ (other : bytes_eq w (codes "--") ≡ false) where
      -- at `--form`
      module _ (named : long_of w ≡ Some (codes "form", None)) where
        pub named_step : (b : Bool) → walked rules_are [] (at rows pending (ready b) false) w ≡ at now (form_with []) (option (codes "form")) false
        unfolding walked clap_on_literals
        named_step true = rw (other, named) refl
        named_step false = rw (other, named) refl

        pub named_fault : (b : Bool) → turn_fault top [] (at rows pending (ready b) false) w ≡ or_else (wrong rows pending) []
        unfolding walked clap_on_literals
        named_fault true = rw (other, named) refl
        named_fault false = rw (other, named) refl

      -- at `--form=v`
      module _ (v : Text) (valued : long_of w ≡ Some (codes "form", Some v)) where
        pub valued_step : (b : Bool) → walked rules_are [] (at rows pending (ready b) false) w ≡ at (rows_of_all now (form_with (v ∷ []))) None idle false
        unfolding walked clap_on_literals
        valued_step true = rw (other, valued) refl
        valued_step false = rw (other, valued) refl

        pub valued_fault : (b : Bool) → turn_fault top [] (at rows pending (ready b) false) w ≡ or_else (or_else (wrong rows pending) (wrong now (form_with (v ∷ [])))) []
        unfolding walked clap_on_literals
        valued_fault true = rw (other, valued) refl
        valued_fault false = rw (other, valued) refl

      -- at another flag
      pub long_fault : (name : Text) (v : Option Text) → long_of w ≡ Some (name, v) → bytes_eq (codes "form") name ≡ false
          → (b : Bool) → turn_fault top [] (at rows pending (ready b) false) w ≡ kind.UnknownArgument ∷ []
      unfolding walked clap_on_literals
      long_fault name v long unknown true = rw (other, long, unknown) refl
      long_fault name v long unknown false = rw (other, long, unknown) refl

      pub short_fault : (x : ℕ) (xs : Text) (c : ℕ) → long_of w ≡ None → short_of w ≡ Some (x ∷ xs) → slice_get (chars (x ∷ xs)) 0 ≡ Some c
          → (b : Bool) → turn_fault top [] (at rows pending (ready b) false) w ≡ kind.UnknownArgument ∷ []
      unfolding walked clap_on_literals
      short_fault x xs c long short first true = rw (other, long, short, first) refl
      short_fault x xs c long short first false = rw (other, long, short, first) refl

      -- at a word
      module _ (long : long_of w ≡ None) (short : short_of w ≡ None) where
        pub plain_step : (b : Bool) → walked rules_are [] (at rows pending (ready b) false) w ≡ at now (words_with (w ∷ [])) positional false
        unfolding walked clap_on_literals
        plain_step b = go b (is_pending words_rule pending) refl
          where
            go : (b t : Bool) → is_pending words_rule pending ≡ t → walked rules_are [] (at rows pending (ready b) false) w ≡ at now (words_with (w ∷ [])) positional false
            go true true t = rw (other, long, short, t) refl
            go true false t = rw (other, long, short, t) refl
            go false true t = rw (other, long, short, t) refl
            go false false t = rw (other, long, short, t) refl

        pub plain_fault : (b : Bool) → turn_fault top [] (at rows pending (ready b) false) w ≡ wrong rows pending
        unfolding walked clap_on_literals
        plain_fault b = go b (is_pending words_rule pending) refl
          where
            go : (b t : Bool) → is_pending words_rule pending ≡ t → turn_fault top [] (at rows pending (ready b) false) w ≡ wrong rows pending
            go true true t = rw (other, long, short, t) refl
            go true false t = rw (other, long, short, t) refl
            go false true t = rw (other, long, short, t) refl
            go false false t = rw (other, long, short, t) refl

-- ---- one word behind `--form`

abbrev pub waits : List Row → Walk
waits rows = at rows (form_with []) (option (codes "form")) false

pub no_value : (rows : List Row) → wrong rows (form_with []) ≡ kind.InvalidValue ∷ []
unfolding clap_on_literals
no_value rows = refl

module _ (rows : List Row) (w : Text) where
  module _ (dashes : bytes_eq w (codes "--") ≡ true) where
    pub dashes_wait : walked rules_are [] (waits rows) w ≡ at rows (form_with []) (option (codes "form")) true
    unfolding walked clap_on_literals
    dashes_wait = rw dashes refl

    pub dashes_wait_fault : turn_fault top [] (waits rows) w ≡ []
    unfolding walked clap_on_literals
    dashes_wait_fault = rw dashes refl

  module _ (other : bytes_eq w (codes "--") ≡ false) where
    pub form_wait_fault : (v : Option Text) → long_of w ≡ Some (codes "form", v) → turn_fault top [] (waits rows) w ≡ kind.InvalidValue ∷ []
    unfolding walked clap_on_literals
    form_wait_fault None named = rw (other, named) refl
    form_wait_fault (Some v) named = rw (other, named) refl

    pub long_wait_fault : (name : Text) (v : Option Text) → long_of w ≡ Some (name, v) → bytes_eq (codes "form") name ≡ false → turn_fault top [] (waits rows) w ≡ kind.UnknownArgument ∷ []
    unfolding walked clap_on_literals
    long_wait_fault name v long unknown = rw (other, long, unknown) refl

    pub short_wait_fault : (x : ℕ) (xs : Text) (c : ℕ) → long_of w ≡ None → short_of w ≡ Some (x ∷ xs) → slice_get (chars (x ∷ xs)) 0 ≡ Some c
        → turn_fault top [] (waits rows) w ≡ kind.UnknownArgument ∷ []
    unfolding walked clap_on_literals
    short_wait_fault x xs c long short first = rw (other, long, short, first) refl

    module _ (long : long_of w ≡ None) (short : short_of w ≡ None) where
      pub value_step : walked rules_are [] (waits rows) w ≡ at rows (form_with (w ∷ [])) idle false
      unfolding walked clap_on_literals
      value_step = rw (other, long, short) refl

      pub value_fault : turn_fault top [] (waits rows) w ≡ []
      unfolding walked clap_on_literals
      value_fault = rw (other, long, short) refl

-- ---- what is pending, once it is used

module _ (rows : List Row) where
  pub words_fault : (w : Text) → wrong rows (words_with (w ∷ [])) ≡ []
  unfolding clap_on_literals
  words_fault w = refl

  pub form_taken : (v : Text) → has_row (codes "form") rows ≡ false → wrong rows (form_with (v ∷ [])) ≡ []
  unfolding clap_on_literals
  form_taken v e = rw e refl

  pub form_again : (v : Text) → has_row (codes "form") rows ≡ true → wrong rows (form_with (v ∷ [])) ≡ kind.ArgumentConflict ∷ []
  unfolding clap_on_literals
  form_again v e = rw e refl

-- ---- the end of the words

abbrev pub faulty : Kinds → Bool
faulty [] = false
faulty (k ∷ ks) = true

pub or_left : (ks more : Kinds) → faulty ks ≡ true → faulty (or_else ks more) ≡ true
or_left [] more e = absurd (true≢false (sym e))
or_left (k ∷ ks) more e = refl

or_nil : (ks : Kinds) → or_else ks [] ≡ ks
or_nil [] = refl
or_nil (k ∷ ks) = refl

-- neither argument has a default
no_defaults : (rows : List Row) → defaults_fault rows rules_are ≡ []
unfolding clap_on_literals
no_defaults rows = go (has_row (codes "form") rows) (has_row (codes "words") rows) refl refl
  where
    go : (t u : Bool) → has_row (codes "form") rows ≡ t → has_row (codes "words") rows ≡ u → defaults_fault rows rules_are ≡ []
    go true true t u = rw (t, u) refl
    go true false t u = rw (t, u) refl
    go false true t u = rw (t, u) refl
    go false false t u = rw (t, u) refl

same_rows : (rows : List Row) → fold with_default rows rules_are ≡ rows
unfolding clap_on_literals
same_rows rows = go (has_row (codes "form") rows) (has_row (codes "words") rows) refl refl
  where
    go : (t u : Bool) → has_row (codes "form") rows ≡ t → has_row (codes "words") rows ≡ u → fold with_default rows rules_are ≡ rows
    go true true t u = rw (t, u) refl
    go true false t u = rw (t, u) refl
    go false true t u = rw (t, u) refl
    go false false t u = rw (t, u) refl

-- what is wrong with words from a state on, and the rows that they leave
abbrev pub end_of : Walk → List Text → Held
end_of w words = (fold (walked rules_are []) w words).held

abbrev pub wrong_from : Walk → List Text → Kinds
wrong_from w words = or_else (walk_fault top [] w words) (settle_fault rules_are false (end_of w words))

abbrev pub rows_from : Walk → List Text → List Row
rows_from w words = (settled rules_are (end_of w words)).rows

abbrev pub start : Walk
start = at [] None idle false

pub rows_are : (words : List Text) → matches_of app words ≡ rows_from start words
unfolding clap_on_literals
rows_are words = same_rows (rows_from start words)

pub fault_is : (words : List Text) → fault_of app words ≡ wrong_from start words
unfolding clap_on_literals
fault_is words = go (walk rules_are [] nothing_held words).stopped
  where
    level : level_fault top [] nothing_held words false [] ≡ wrong_from start words
    level =
        let walking = walk_fault top [] start words in
        let settling = settle_fault rules_are false (end_of start words) in
        ap (λ ks. or_else walking (or_else settling (or_else ks []))) (no_defaults (rows_from start words)) ∙ ap (or_else walking) (or_nil settling)

    go : (stop : Option (Text × List Text))
        → level_fault top [] nothing_held words (is_some (entered (built app) stop)) (entered_fault (built app) stop) ≡ wrong_from start words
    go None = level
    go (Some p) = level

-- ---- a step and what follows

module _ (w : Walk) (word : Text) (words : List Text) where
  pub goes_wrong : (next : Walk) → turn_fault top [] w word ≡ [] → walked rules_are [] w word ≡ next → wrong_from w (word ∷ words) ≡ wrong_from next words
  unfolding walk_fault
  goes_wrong next good is =
      ap (λ ks. or_else (or_else ks (walk_fault top [] (walked rules_are [] w word) words)) (settle_fault rules_are false (end_of (walked rules_are [] w word) words))) good
      ∙ ap (λ v. wrong_from v words) is

  pub goes_rows : (next : Walk) → walked rules_are [] w word ≡ next → rows_from w (word ∷ words) ≡ rows_from next words
  goes_rows next is = ap (λ v. rows_from v words) is

  pub stops : faulty (turn_fault top [] w word) ≡ true → faulty (wrong_from w (word ∷ words)) ≡ true
  unfolding walk_fault
  stops bad = or_left _ _ (or_left _ _ bad)
