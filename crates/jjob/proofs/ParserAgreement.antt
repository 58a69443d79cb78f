-- The parser's walk over the words, and what the words say, are one.
use Rattle.std.proofs.Common.{◌≡◌, ◌∙◌, Bool, true, false, true≢false, refl, sym, ap, ap₂, subst, append_assoc, append-nil, List, [], ◌∷◌, ◌++◌, Option, Some, None, Err, inl, inr, bytes_eq, codes, is_some, option_and_then, option_map, unwrap_or, slice_get, String, Global, string_bytes}
use Rattle.std.proofs.lemmas.Str.{IsUtf8-string_bytes}
use Rattle.clap.specs.Faults.{fault_of, turn_fault, walk_fault}
use Rattle.clap.specs.Kinds.{HasKind, IsAmong, Kinds, or_else}
use Rattle.clap.specs.Values.{kind_of}
use Rattle.clap.specs.declared.error.Error.{Error}
use Rattle.clap.specs.Matches.{first_value, matched_of, raw_values}
use Rattle.clap.specs.Simple.{matches_of}
use Rattle.clap.specs.declared.parser.matches.Found.{Found}
use Rattle.clap.proofs.WalkLemmas.{first_value-rows, raw_values-rows}
use Rattle.clap.specs.Walk.{Row, Text, Waiting, Walk, all_of, first_of, has_row, option, positional, rows_of, walked, with_values}
use Rattle.clap.specs.declared.builder.value_parser.Reading.TheVariants.{AsWritten}
use Rattle.clap.specs.declared.parser.matches.ValueSource.TheVariants.{CommandLine}
use Rattle.jjob.specs.CommandOptions.{app}
use Rattle.jjob.specs.ParseRows.{SaidGive, cause_of, said_in}
use Rattle.jjob.specs.declared.command.WordsError.{WordsError}
use Rattle.jjob.specs.declared.command.WordsError.TheVariants.{Memory, Usage}
use Rattle.jjob.specs.CommandWords.{Said, Word, attached, by_verb, command, is_flag, said, with_form, with_other, words_of}
use Rattle.jjob.proofs.WordForms.{Looks, dashes, long, looks, named, plain, short, valued}
use Rattle.jjob.proofs.RowLaws.{all_more, all_other, first_is, has_row_is, none_goes}
use Rattle.jjob.proofs.ParserSteps as step
use Rattle.jjob.proofs.ParserSteps.{Pending, at, faulty, form_with, goes_rows, goes_wrong, or_left, ready, rows_from, rows_of_all, start, stops, waits, words_with, wrong, wrong_from}

-- ---- what words say behind others

abbrev both_forms : Option Word → Option Word → Option (Option Word)
both_forms None g = Some g
both_forms (Some f) None = Some (Some f)
both_forms (Some f) (Some g) = None

abbrev with_more : Said → Option Said → Option Said
with_more a None = None
with_more a (Some s) = option_map (λ f. record { form = f; others = a.others ++ s.others }) (both_forms a.form s.form)

abbrev saying : Option Word → List Word → Said
saying f ws = record { form = f; others = ws }

more_form : (v : Word) (a : Said) (d : Option Said) → a.form ≡ None → with_more (record a { form = Some v }) d ≡ with_more a (option_and_then (with_form v) d)
more_form v a None e = refl
more_form v a (Some s) e = go s.form refl
  where
    go : (g : Option Word) → s.form ≡ g → with_more (record a { form = Some v }) (Some s) ≡ with_more a (option_and_then (with_form v) (Some s))
    go None g = rw (g, e) refl
    go (Some x) g = rw g refl

form_again : (v f : Word) (a : Said) (d : Option Said) → a.form ≡ Some f → with_more a (option_and_then (with_form v) d) ≡ None
form_again v f a None e = refl
form_again v f a (Some s) e = go s.form refl
  where
    go : (g : Option Word) → s.form ≡ g → with_more a (option_and_then (with_form v) (Some s)) ≡ None
    go None g = rw (g, e) refl
    go (Some x) g = rw g refl

more_other : (w : Word) (a : Said) (d : Option Said) → with_more (record a { others = a.others ++ w ∷ [] }) d ≡ with_more a (option_map (with_other w) d)
more_other w a None = refl
more_other w a (Some s) = ap (λ ws. option_map (λ f. saying f ws) (both_forms a.form s.form)) (append_assoc a.others (w ∷ []) s.others)

only_words : (a : Said) (ws : List Word) → with_more a (Some (saying None ws)) ≡ Some (record a { others = a.others ++ ws })
only_words a ws = go a.form refl
  where
    go : (f : Option Word) → a.form ≡ f → with_more a (Some (saying None ws)) ≡ Some (record a { others = a.others ++ ws })
    go None e = rw e refl
    go (Some f) e = rw e refl

from_start : (d : Option Said) → with_more (saying None []) d ≡ d
from_start None = refl
from_start (Some s) = refl

-- ---- what a word makes words say

module _ (w : Word) (ws : List Word) where
  at_dashes : bytes_eq w (codes "--") ≡ true → said false (w ∷ ws) ≡ Some (saying None ws)
  unfolding said
  at_dashes e = rw e refl

  at_named : bytes_eq w (codes "--") ≡ false → bytes_eq w (codes "--form") ≡ true → said false (w ∷ ws) ≡ said true ws
  unfolding said
  at_named e f = rw (e, f) refl

  at_valued : (v : Word) → bytes_eq w (codes "--") ≡ false → bytes_eq w (codes "--form") ≡ false → attached w ≡ Some v
      → said false (w ∷ ws) ≡ option_and_then (with_form v) (said false ws)
  unfolding said
  at_valued v e f g = rw (e, f, g) refl

  at_flag : bytes_eq w (codes "--") ≡ false → bytes_eq w (codes "--form") ≡ false → attached w ≡ None → is_flag w ≡ true → said false (w ∷ ws) ≡ None
  unfolding said
  at_flag e f g h = rw (e, f, g, h) refl

  at_word : bytes_eq w (codes "--") ≡ false → bytes_eq w (codes "--form") ≡ false → attached w ≡ None → is_flag w ≡ false
      → said false (w ∷ ws) ≡ option_map (with_other w) (said false ws)
  unfolding said
  at_word e f g h = rw (e, f, g, h) refl

  at_value : is_flag w ≡ false → said true (w ∷ ws) ≡ option_and_then (with_form w) (said false ws)
  unfolding said
  at_value h = rw h refl

  at_no_value : is_flag w ≡ true → said true (w ∷ ws) ≡ None
  unfolding said
  at_no_value h = rw h refl

-- ---- what rows say

abbrev form_id : Text
form_id = codes "form"

abbrev words_id : Text
words_id = codes "words"

-- the row of the form, if there is one, has a value
abbrev Good : List Row → Type 0
Good rows = has_row form_id rows ≡ is_some (first_of form_id rows)

module _ (rows : List Row) (w : Word) where
  abbrev with_word_row : List Row
  with_word_row = rows_of_all rows (words_with (w ∷ []))

  other_form : all_of form_id with_word_row ≡ all_of form_id rows
  other_form = all_other words_id AsWritten CommandLine (w ∷ []) form_id refl rows

  same_form : first_of form_id with_word_row ≡ first_of form_id rows
  same_form = first_is form_id with_word_row ∙ ap (option_and_then (λ vs. slice_get vs 0)) other_form ∙ sym (first_is form_id rows)

  word_said : said_in with_word_row ≡ record (said_in rows) { others = (said_in rows).others ++ w ∷ [] }
  word_said = ap₂ saying same_form (ap (λ o. unwrap_or o []) (all_more words_id AsWritten CommandLine (w ∷ []) rows))

  word_good : Good rows → Good with_word_row
  word_good good = has_row_is form_id with_word_row ∙ ap is_some other_form ∙ sym (has_row_is form_id rows) ∙ good ∙ ap is_some (sym same_form)

  abbrev with_form_row : List Row
  with_form_row = rows_of_all rows (form_with (w ∷ []))

  module _ (none : has_row form_id rows ≡ false) where
    form_row : with_form_row ≡ with_values form_id AsWritten CommandLine (w ∷ []) rows
    form_row = ap (with_values form_id AsWritten CommandLine (w ∷ [])) (none_goes form_id rows none)

    none_yet : all_of form_id rows ≡ None
    none_yet = go (all_of form_id rows) refl
      where
        go : (o : Option (List Text)) → all_of form_id rows ≡ o → all_of form_id rows ≡ None
        go None e = e
        go (Some vs) e = absurd (true≢false (sym (has_row_is form_id rows ∙ ap is_some e) ∙ none))

    one_form : all_of form_id with_form_row ≡ Some (w ∷ [])
    one_form = ap (all_of form_id) form_row ∙ all_more form_id AsWritten CommandLine (w ∷ []) rows ∙ ap (λ o. Some (unwrap_or o [] ++ w ∷ [])) none_yet

    first_form : first_of form_id with_form_row ≡ Some w
    first_form = first_is form_id with_form_row ∙ ap (option_and_then (λ vs. slice_get vs 0)) one_form

    same_words : all_of words_id with_form_row ≡ all_of words_id rows
    same_words = ap (all_of words_id) form_row ∙ all_other form_id AsWritten CommandLine (w ∷ []) words_id refl rows

    form_said : said_in with_form_row ≡ record (said_in rows) { form = Some w }
    form_said = ap₂ saying first_form (ap (λ o. unwrap_or o []) same_words)

    form_good : Good with_form_row
    form_good = has_row_is form_id with_form_row ∙ ap is_some one_form ∙ ap is_some (sym first_form)

    no_form : Good rows → first_of form_id rows ≡ None
    no_form good = go (first_of form_id rows) refl
      where
        go : (o : Option Text) → first_of form_id rows ≡ o → first_of form_id rows ≡ None
        go None e = e
        go (Some v) e = absurd (true≢false (sym (good ∙ ap is_some e) ∙ none))

some_form : (rows : List Row) → Good rows → has_row form_id rows ≡ true → (f : Word) × (first_of form_id rows ≡ Some f)
some_form rows good some = go (first_of form_id rows) refl
  where
    go : (o : Option Text) → first_of form_id rows ≡ o → (f : Word) × (first_of form_id rows ≡ Some f)
    go None e = absurd (true≢false (sym some ∙ good ∙ ap is_some e))
    go (Some f) e = (f, e)

-- ---- the walk over all the words

-- the parser fails where the words say nothing, and else its rows say what they say
abbrev pub Joined : Kinds → List Row → Option Said → Type 0
Joined [] rows said = said ≡ Some (said_in rows)
Joined (k ∷ ks) rows said = said ≡ None

is_joined : (ks : Kinds) (rows : List Row) (d : Option Said) → ks ≡ [] → d ≡ Some (said_in rows) → Joined ks rows d
is_joined ks rows d good is = subst (λ k. Joined k rows d) (sym good) is

is_lost : (ks : Kinds) (rows : List Row) (d : Option Said) → faulty ks ≡ true → d ≡ None → Joined ks rows d
is_lost [] rows d bad is = absurd (true≢false (sym bad))
is_lost (k ∷ ks) rows d bad is = is

-- over one word more
module _ (w : Walk) (word : Text) (words : List Text) (d : Option Said) where
  onward : (next : Walk) (e : Option Said) → turn_fault step.top [] w word ≡ [] → walked step.rules_are [] w word ≡ next → d ≡ e
      → Joined (wrong_from next words) (rows_from next words) e → Joined (wrong_from w (word ∷ words)) (rows_from w (word ∷ words)) d
  onward next e good is same joined =
      subst (λ ks. Joined ks (rows_from w (word ∷ words)) d) (sym (goes_wrong w word words next good is))
      (subst (λ rs. Joined (wrong_from next words) rs d) (sym (goes_rows w word words next is)) (subst (Joined (wrong_from next words) (rows_from next words)) (sym same) joined))

  halted : faulty (turn_fault step.top [] w word) ≡ true → d ≡ None → Joined (wrong_from w (word ∷ words)) (rows_from w (word ∷ words)) d
  halted bad is = is_lost _ _ d (stops w word words bad) is

-- behind `--` all are words
trailing : (words : List Text) (rows : List Row) (pending : Pending) (waiting : Waiting) → wrong rows pending ≡ []
    → (wrong_from (at rows pending waiting true) words ≡ [])
    × (said_in (rows_from (at rows pending waiting true) words) ≡ record (said_in (rows_of_all rows pending)) { others = (said_in (rows_of_all rows pending)).others ++ words })
unfolding walk_fault
trailing [] rows pending waiting good = (good, ap (saying (said_in (rows_of_all rows pending)).form) (sym (append-nil _)))
trailing (w ∷ words) rows pending waiting good =
    let now = rows_of_all rows pending in
    let later = trailing words now (words_with (w ∷ [])) positional (step.words_fault now w) in (
      goes_wrong (at rows pending waiting true) w words _ (step.trailing_fault rows pending waiting w ∙ good) (step.trailing_step rows pending waiting w) ∙ later.0,
      ap said_in (goes_rows (at rows pending waiting true) w words _ (step.trailing_step rows pending waiting w)) ∙ later.1
          ∙ ap (λ (a : Said). record a { others = a.others ++ words }) (word_said now w) ∙ ap (saying (said_in now).form) (append_assoc (said_in now).others (w ∷ []) words),
    )

-- what is wrong stays wrong
lost_trailing : (words : List Text) (rows : List Row) (pending : Pending) (waiting : Waiting) → faulty (wrong rows pending) ≡ true
    → faulty (wrong_from (at rows pending waiting true) words) ≡ true
unfolding walk_fault
lost_trailing [] rows pending waiting bad = bad
lost_trailing (w ∷ words) rows pending waiting bad =
    stops (at rows pending waiting true) w words (ap faulty (step.trailing_fault rows pending waiting w) ∙ bad)

lost : (words : List (String Global)) (rows : List Row) (pending : Pending) (b : Bool) → faulty (wrong rows pending) ≡ true
    → faulty (wrong_from (at rows pending (ready b) false) (words_of words)) ≡ true
unfolding walk_fault
lost [] rows pending b bad = bad
lost (s ∷ words) rows pending b bad = by (looks (string_bytes s) (IsUtf8-string_bytes s))
  where
    w : Word
    w = string_bytes s

    here : Walk
    here = at rows pending (ready b) false

    nil : faulty (or_else (wrong rows pending) []) ≡ true
    nil = or_left (wrong rows pending) [] bad

    by : Looks w → faulty (wrong_from here (words_of (s ∷ words))) ≡ true
    by (dashes e f) =
        ap faulty (goes_wrong here w (words_of words) _ (step.dashes_fault rows pending w e b) (step.dashes_step rows pending w e b))
        ∙ lost_trailing (words_of words) rows pending (ready b) bad
    by (named a l) = stops here w (words_of words) (ap faulty (step.named_fault rows pending w a.0 l b) ∙ nil)
    by (valued v a l) =
        let more = wrong (rows_of_all rows pending) (form_with (v ∷ [])) in
        stops here w (words_of words) (ap faulty (step.valued_fault rows pending w a.0 v l b) ∙ or_left _ [] (or_left (wrong rows pending) more bad))
    by (long name v a l o) = stops here w (words_of words) (ap faulty (step.long_fault rows pending w a.0 name v l o b))
    by (short x xs c a l f g) = stops here w (words_of words) (ap faulty (step.short_fault rows pending w a.0 x xs c l f g b))
    by (plain a l f) = stops here w (words_of words) (ap faulty (step.plain_fault rows pending w a.0 l f b) ∙ bad)

-- where nothing waits for a value
abbrev Open : List Word → Type 0
Open words = (rows : List Row) (pending : Pending) (b : Bool) → wrong rows pending ≡ [] → Good (rows_of_all rows pending)
    → Joined (wrong_from (at rows pending (ready b) false) words) (rows_from (at rows pending (ready b) false) words)
    (with_more (said_in (rows_of_all rows pending)) (said false words))

-- behind a `--form`
abbrev Waits : List Word → Type 0
Waits words = (rows : List Row) → Good rows
    → Joined (wrong_from (waits rows) words) (rows_from (waits rows) words) (with_more (said_in rows) (said true words))

module _ (s : String Global) (words : List (String Global)) (open_later : Open (words_of words)) where
  abbrev w : Word
  w = string_bytes s

  abbrev ws : List Word
  ws = words_of words

  -- one form, which stands behind others' words
  one_form_more : (rows : List Row) (v : Word) (d : Option Said) → Good rows → has_row form_id rows ≡ false
      → with_more (said_in rows) (option_and_then (with_form v) d) ≡ with_more (said_in (rows_of_all rows (form_with (v ∷ [])))) d
  one_form_more rows v d good none =
      sym (more_form v (said_in rows) d (no_form rows v none good)) ∙ ap (λ a. with_more a d) (sym (form_said rows v none))

  open_step : Waits ws → Open (w ∷ ws)
  open_step wait_later rows pending b good fine = by (looks w (IsUtf8-string_bytes s))
    where
      now : List Row
      now = rows_of_all rows pending

      a : Said
      a = said_in now

      here : Walk
      here = at rows pending (ready b) false

      by : Looks w → Joined (wrong_from here (w ∷ ws)) (rows_from here (w ∷ ws)) (with_more a (said false (w ∷ ws)))
      by (dashes e f) =
          let later = trailing ws rows pending (ready b) good in
          let same = ap (with_more a) (at_dashes w ws e) ∙ only_words a ws in
          onward here w ws _ _ _ (step.dashes_fault rows pending w e b) (step.dashes_step rows pending w e b) same
          (is_joined _ _ _ later.0 (ap Some (sym later.1)))
      by (named q l) =
          let passed = step.named_fault rows pending w q.0 l b ∙ ap (λ ks. or_else ks []) good in
          onward here w ws _ _ _ passed (step.named_step rows pending w q.0 l b) (ap (with_more a) (at_named w ws q.0 q.1)) (wait_later now fine)
      by (valued v q l) = go (has_row form_id now) refl
        where
          same : with_more a (said false (w ∷ ws)) ≡ with_more a (option_and_then (with_form v) (said false ws))
          same = ap (with_more a) (at_valued w ws v q.0 q.1 q.2)

          go : (t : Bool) → has_row form_id now ≡ t → Joined (wrong_from here (w ∷ ws)) (rows_from here (w ∷ ws)) (with_more a (said false (w ∷ ws)))
          go false t =
              let passed = step.valued_fault rows pending w q.0 v l b ∙ ap₂ (λ ks ls. or_else (or_else ks ls) []) good (step.form_taken now v t) in
              onward here w ws _ _ _ passed (step.valued_step rows pending w q.0 v l b) (same ∙ one_form_more now v (said false ws) fine t)
              (open_later (rows_of_all now (form_with (v ∷ []))) None false refl (form_good now v t))
          go true t =
              let again = step.valued_fault rows pending w q.0 v l b ∙ ap₂ (λ ks ls. or_else (or_else ks ls) []) good (step.form_again now v t) in
              let had = some_form now fine t in
              halted here w ws _ (ap faulty again) (same ∙ form_again v had.0 a (said false ws) had.1)
      by (long name v q l o) =
          halted here w ws _ (ap faulty (step.long_fault rows pending w q.0 name v l o b)) (ap (with_more a) (at_flag w ws q.0 q.1 q.2 q.3))
      by (short x xs c q l f g) =
          halted here w ws _ (ap faulty (step.short_fault rows pending w q.0 x xs c l f g b)) (ap (with_more a) (at_flag w ws q.0 q.1 q.2 q.3))
      by (plain q l f) =
          let same = ap (with_more a) (at_word w ws q.0 q.1 q.2 q.3) ∙ sym (more_other w a (said false ws)) ∙ ap (λ c. with_more c (said false ws)) (sym (word_said now w)) in
          onward here w ws _ _ _ (step.plain_fault rows pending w q.0 l f b ∙ good) (step.plain_step rows pending w q.0 l f b) same
          (open_later now (words_with (w ∷ [])) true (step.words_fault now w) (word_good now w fine))

  wait_step : Waits (w ∷ ws)
  wait_step rows fine = by (looks w (IsUtf8-string_bytes s))
    where
      a : Said
      a = said_in rows

      here : Walk
      here = waits rows

      none : is_flag w ≡ true → with_more a (said true (w ∷ ws)) ≡ None
      none f = ap (with_more a) (at_no_value w ws f)

      by : Looks w → Joined (wrong_from here (w ∷ ws)) (rows_from here (w ∷ ws)) (with_more a (said true (w ∷ ws)))
      by (dashes e f) =
          let bad = ap faulty (goes_wrong here w ws _ (step.dashes_wait_fault rows w e) (step.dashes_wait rows w e))
          ∙ lost_trailing ws rows (form_with []) (option form_id) (ap faulty (step.no_value rows)) in
          is_lost _ _ _ bad (none f)
      by (named q l) = halted here w ws _ (ap faulty (step.form_wait_fault rows w q.0 None l)) (none q.3)
      by (valued v q l) = halted here w ws _ (ap faulty (step.form_wait_fault rows w q.0 (Some v) l)) (none q.3)
      by (long name v q l o) = halted here w ws _ (ap faulty (step.long_wait_fault rows w q.0 name v l o)) (none q.3)
      by (short x xs c q l f g) = halted here w ws _ (ap faulty (step.short_wait_fault rows w q.0 x xs c l f g)) (none q.3)
      by (plain q l f) = go (has_row form_id rows) refl
        where
          same : with_more a (said true (w ∷ ws)) ≡ with_more a (option_and_then (with_form w) (said false ws))
          same = ap (with_more a) (at_value w ws q.3)

          go : (t : Bool) → has_row form_id rows ≡ t → Joined (wrong_from here (w ∷ ws)) (rows_from here (w ∷ ws)) (with_more a (said true (w ∷ ws)))
          go false t =
              onward here w ws _ _ _ (step.value_fault rows w q.0 l f) (step.value_step rows w q.0 l f) (same ∙ one_form_more rows w (said false ws) fine t)
              (open_later rows (form_with (w ∷ [])) false (step.form_taken rows w t) (form_good rows w t))
          go true t =
              let had = some_form rows fine t in
              let bad = ap faulty (goes_wrong here w ws _ (step.value_fault rows w q.0 l f) (step.value_step rows w q.0 l f))
              ∙ lost words rows (form_with (w ∷ [])) false (ap faulty (step.form_again rows w t)) in
              is_lost _ _ _ bad (same ∙ form_again w had.0 a (said false ws) had.1)

both_joined : (words : List (String Global)) → Open (words_of words) × Waits (words_of words)
unfolding said walk_fault
both_joined [] = (
  λ rows pending b good fine. is_joined _ _ _ good (only_words (said_in (rows_of_all rows pending)) [] ∙ ap (λ ws. Some (saying (said_in (rows_of_all rows pending)).form ws)) (append-nil _)),
  λ rows fine. is_lost (wrong rows (form_with [])) rows None (ap faulty (step.no_value rows)) refl,
)
both_joined (s ∷ words) =
    let later = both_joined words in
    (open_step s words later.0 later.1, wait_step s words later.0)

-- the parser's fault and its matches are what the words say
pub joined : (words : List (String Global)) → Joined (fault_of app (words_of words)) (matches_of app (words_of words)) (said false (words_of words))
joined words =
    let walked = (both_joined words).0 [] None false refl refl in
    subst (λ ks. Joined ks (matches_of app (words_of words)) (said false (words_of words))) (sym (step.fault_is (words_of words)))
    (subst (λ rs. Joined (wrong_from start (words_of words)) rs (said false (words_of words))) (sym (step.rows_are (words_of words)))
    (subst (Joined (wrong_from start (words_of words)) (rows_from start (words_of words))) (from_start (said false (words_of words))) walked))

-- ---- what an answer of the parser says of the words

pub taken_says : (words : List (String Global)) (rows : List Row) → fault_of app (words_of words) ≡ [] → rows ≡ matches_of app (words_of words)
    → said false (words_of words) ≡ Some (said_in rows)
taken_says words rows good are =
    subst (λ ks. Joined ks (matches_of app (words_of words)) (said false (words_of words))) good (joined words) ∙ ap (λ rs. Some (said_in rs)) (sym are)

refused : {T : Type 0} (f : T → Said) (d : Option Said) (cause : WordsError) → d ≡ None → SaidGive f (Err cause) d
refused f d Usage e = e
refused f d Memory e = tt

pub refused_says : {T : Type 0} (f : T → Said) (words : List (String Global)) (e : Error) (cause : WordsError) → HasKind (fault_of app (words_of words)) e
    → cause ≡ cause_of (kind_of e) → SaidGive f (Err cause) (said false (words_of words))
refused_says f words e cause why is = elim why [
  | inl full ↦ subst (λ x. SaidGive f (Err x) (said false (words_of words))) (sym (is ∙ ap cause_of full)) tt
  | inr among ↦ refused f (said false (words_of words)) cause (by (fault_of app (words_of words)) among (joined words))
]
  where
    by : (ks : Kinds) → IsAmong (kind_of e) ks → Joined ks (matches_of app (words_of words)) (said false (words_of words)) → said false (words_of words) ≡ None
    by [] among joined = absurd among
    by (k ∷ ks) among joined = joined

-- the command, by what the parser's two getters give
pub command_is : (words : List Word) (f : Found) (form : Option Word) (others : Option (List Word)) → said false words ≡ Some (said_in (rows_of f))
    → form ≡ first_value f (codes "form") → others ≡ option_map raw_values (matched_of f (codes "words")) → command words ≡ by_verb form (unwrap_or others [])
unfolding command
command_is words f form others says first all =
    ap (option_and_then (λ (s : Said). by_verb s.form s.others)) says
    ∙ ap₂ by_verb (sym (first ∙ first_value-rows f form_id)) (ap (λ o. unwrap_or o []) (sym (all ∙ raw_values-rows f words_id)))
