-- What the lines so far give, with one more thing that is said.
use Rattle.std.proofs.Common.{◌≡◌, ℕ, ◌==◌, ◌||◌, Bool, true, false, List, [], ◌∷◌, ◌++◌, length, Option, Some, None, refl, sym, ap, ◌∙◌}
use Rattle.std.specs.List.{filter_map, flat_map, cons_option}
use Rattle.std.specs.Option.{is_some, option_to_list}
use Rattle.std.proofs.lemmas.List.{append-nil, length-append}
use Rattle.std.proofs.lemmas.List.Concat.{flat_map-append}
use Rattle.std.proofs.lemmas.List.Elements.{filter_map-append}
use Rattle.std.specs.Prelude.{nat_le}
use Rattle.url.specs.Parts.{Parts}
use Rattle.jground.specs.jbase.FirstFaults.{first_some, or_else}
use Rattle.jjob.specs.declared.job.JobSource.{JobSource}
use Rattle.jjob.specs.JobLimits.{most_classes}
use Rattle.jjob.specs.declared.line.Said.{Said}
use Rattle.jjob.specs.declared.line.Said.TheVariants.{Policy, Prop, Cwd, Code, Class, Main, Schedule, Heap, Depth, Steps}
use Rattle.jjob.specs.declared.told.Told.{Told}
use Rattle.jjob.specs.Jobs.{policy_in, prop_in, cwd_in, code_in, class_in, main_in, picks_in, heap_in, depth_in, steps_in, count_of, sources_of, classes_here}
use Rattle.jjob.specs.JobReaderState.{is_too_much, newer, with_one, one_more, with_picks, with_class, last_after, done_after, after, IsTold}

-- ---- values that stand at most once

none_of : {X : Type 0} (o : Option X) → is_some o ≡ false → o ≡ None
none_of None h = refl
none_of (Some x) h = cc

-- nothing stands there, where something new comes
abbrev pub Free : {X : Type 0} → Option X → Option X → Type 0
Free old None = Unit {0}
Free old (Some x) = old ≡ None

free : (told : Told) (x : Said) → is_too_much told x ≡ false → Free told.policy (policy_in x) × Free told.cwd (cwd_in x) × Free told.main (main_in x) × Free told.heap (heap_in x) × Free told.depth (depth_in x) × Free told.steps (steps_in x)
unfolding is_too_much
free told (Policy p) h = (none_of told.policy h, tt, tt, tt, tt, tt)
free told (Prop n v) h = (tt, tt, tt, tt, tt, tt)
free told (Cwd p) h = (tt, none_of told.cwd h, tt, tt, tt, tt)
free told (Code s) h = (tt, tt, tt, tt, tt, tt)
free told (Class p) h = (tt, tt, tt, tt, tt, tt)
free told (Main n) h = (tt, tt, none_of told.main h, tt, tt, tt)
free told (Schedule ns) h = (tt, tt, tt, tt, tt, tt)
free told (Heap c) h = (tt, tt, tt, none_of told.heap h, tt, tt)
free told (Depth d) h = (tt, tt, tt, tt, none_of told.depth h, tt)
free told (Steps n) h = (tt, tt, tt, tt, tt, none_of told.steps h)

or_none : {X : Type 0} (o : Option X) → or_else o None ≡ o
or_none None = refl
or_none (Some x) = refl

first_of_both : {X : Type 0} (f : Said → Option X) (xs : List Said) (x : Said) → first_some f (xs ++ x ∷ []) ≡ or_else (first_some f xs) (f x)
unfolding first_some
first_of_both f [] x = or_none (f x)
first_of_both {X} f (y ∷ ys) x = ap (or_else (f y)) (first_of_both f ys x) ∙ go (f y) (first_some f ys)
  where
    go : (a b : Option X) → or_else a (or_else b (f x)) ≡ or_else (or_else a b) (f x)
    go None b = refl
    go (Some a) b = refl

first_more : {X : Type 0} (f : Said → Option X) (old : Option X) (xs : List Said) (x : Said) → Free old (f x) → old ≡ first_some f xs → newer old (f x) ≡ first_some f (xs ++ x ∷ [])
first_more {X} f old xs x free is = go (f x) free ∙ ap (λ (o : Option X). or_else o (f x)) is ∙ sym (first_of_both f xs x)
  where
    go : (new : Option X) → Free old new → newer old new ≡ or_else old new
    go None free = sym (or_none old)
    go (Some y) free = sym (ap (λ (o : Option X). or_else o (Some y)) free)

-- ---- lists

list_more : {X : Type 0} (f : Said → Option X) (old : List X) (xs : List Said) (x : Said) → old ≡ filter_map f xs → with_one old (f x) ≡ filter_map f (xs ++ x ∷ [])
list_more {X} f old xs x is = go (f x) ∙ ap (λ (l : List X). l ++ cons_option (f x) []) is ∙ sym (filter_map-append f xs (x ∷ []))
  where
    go : (new : Option X) → with_one old new ≡ old ++ cons_option new []
    go None = sym (append-nil old)
    go (Some y) = refl

count_more : {X : Type 0} (f : Said → Option X) (old : ℕ) (xs : List Said) (x : Said) → old ≡ count_of f xs → one_more old (f x) ≡ count_of f (xs ++ x ∷ [])
count_more {X} f old xs x is = ap (λ (n : ℕ). one_more n (f x)) is ∙ go (f x) (filter_map f xs) ∙ ap length (list_more f (filter_map f xs) xs x refl)
  where
    go : (new : Option X) (l : List X) → one_more (length l) new ≡ length (with_one l new)
    go None l = refl
    go (Some y) l = sym (length-append l (y ∷ []))

picks_after : (old : List ℕ) (x : Said) → with_picks old x ≡ old ++ picks_in x
picks_after old (Policy p) = sym (append-nil old)
picks_after old (Prop n v) = sym (append-nil old)
picks_after old (Cwd p) = sym (append-nil old)
picks_after old (Code s) = sym (append-nil old)
picks_after old (Class p) = sym (append-nil old)
picks_after old (Main n) = sym (append-nil old)
picks_after old (Schedule ns) = refl
picks_after old (Heap c) = sym (append-nil old)
picks_after old (Depth d) = sym (append-nil old)
picks_after old (Steps n) = sym (append-nil old)

picks_more : (old : List ℕ) (xs : List Said) (x : Said) → old ≡ flat_map picks_in xs → with_picks old x ≡ flat_map picks_in (xs ++ x ∷ [])
picks_more old xs x is = picks_after old x ∙ ap (λ (l : List ℕ). l ++ picks_in x) is ∙ ap (λ (l : List ℕ). flat_map picks_in xs ++ l) (sym (append-nil (picks_in x))) ∙ sym (flat_map-append picks_in xs (x ∷ []))

-- ---- code sources

abbrev begin : Option Parts → List (List ℕ) → List JobSource → List JobSource
begin None classes more = more
begin (Some source) classes more = record { source = source; classes = classes } ∷ more

abbrev here : Option Parts → Option (List ℕ) → List (List ℕ) → List (List ℕ)
here (Some source) class classes = []
here None (Some path) classes = path ∷ classes
here None None classes = classes

begin_is : (x : Said) (xs : List Said) → sources_of (x ∷ xs) ≡ begin (code_in x) (classes_here xs) (sources_of xs)
unfolding sources_of
begin_is (Policy p) xs = refl
begin_is (Prop n v) xs = refl
begin_is (Cwd p) xs = refl
begin_is (Code s) xs = refl
begin_is (Class p) xs = refl
begin_is (Main n) xs = refl
begin_is (Schedule ns) xs = refl
begin_is (Heap c) xs = refl
begin_is (Depth d) xs = refl
begin_is (Steps n) xs = refl

here_is : (x : Said) (xs : List Said) → classes_here (x ∷ xs) ≡ here (code_in x) (class_in x) (classes_here xs)
unfolding classes_here
here_is (Policy p) xs = refl
here_is (Prop n v) xs = refl
here_is (Cwd p) xs = refl
here_is (Code s) xs = refl
here_is (Class p) xs = refl
here_is (Main n) xs = refl
here_is (Schedule ns) xs = refl
here_is (Heap c) xs = refl
here_is (Depth d) xs = refl
here_is (Steps n) xs = refl

abbrev add_last : List ℕ → List JobSource → List JobSource
add_last path [] = []
add_last path (s ∷ []) = record { source = s.source; classes = s.classes ++ path ∷ [] } ∷ []
add_last path (s ∷ t ∷ more) = s ∷ add_last path (t ∷ more)

abbrev grown : Option Parts → Option (List ℕ) → List JobSource → List JobSource
grown (Some source) class sources = sources ++ record { source = source; classes = [] } ∷ []
grown None (Some path) sources = add_last path sources
grown None None sources = sources

abbrev here_grown : Option Parts → Option (List ℕ) → List JobSource → List (List ℕ) → List (List ℕ)
here_grown (Some source) class sources classes = classes
here_grown None None sources classes = classes
here_grown None (Some path) [] classes = classes ++ path ∷ []
here_grown None (Some path) (s ∷ more) classes = classes

begin_step : (c d : Option Parts) (k : Option (List ℕ)) (classes : List (List ℕ)) (sources : List JobSource) → begin d (here_grown c k sources classes) (grown c k sources) ≡ grown c k (begin d classes sources)
begin_step c None k classes sources = refl
begin_step (Some s) (Some t) k classes sources = refl
begin_step None (Some t) None classes sources = refl
begin_step None (Some t) (Some p) classes [] = refl
begin_step None (Some t) (Some p) classes (s ∷ more) = refl

here_step : (c d : Option Parts) (k l : Option (List ℕ)) (classes : List (List ℕ)) (sources : List JobSource) → here d l (here_grown c k sources classes) ≡ here_grown c k (begin d classes sources) (here d l classes)
here_step (Some s) (Some t) k l classes sources = refl
here_step None (Some t) None l classes sources = refl
here_step None (Some t) (Some p) l classes sources = refl
here_step (Some s) None k (Some q) classes sources = refl
here_step None None None (Some q) classes sources = refl
here_step None None (Some p) (Some q) classes [] = refl
here_step None None (Some p) (Some q) classes (s ∷ more) = refl
here_step c None k None classes sources = refl

begin_first : (c : Option Parts) (k : Option (List ℕ)) → begin c [] [] ≡ grown c k []
begin_first (Some s) k = refl
begin_first None None = refl
begin_first None (Some p) = refl

here_first : (c : Option Parts) (k : Option (List ℕ)) → here c k [] ≡ here_grown c k [] []
here_first (Some s) k = refl
here_first None None = refl
here_first None (Some p) = refl

none_here : (x : Said) → here (code_in x) (class_in x) (classes_here []) ≡ here_grown (code_in x) (class_in x) (sources_of []) (classes_here [])
unfolding classes_here sources_of
none_here x = here_first (code_in x) (class_in x)

none_begun : (x : Said) → begin (code_in x) (classes_here []) (sources_of []) ≡ grown (code_in x) (class_in x) (sources_of [])
unfolding classes_here sources_of
none_begun x = begin_first (code_in x) (class_in x)

both_more : (xs : List Said) (x : Said) → (classes_here (xs ++ x ∷ []) ≡ here_grown (code_in x) (class_in x) (sources_of xs) (classes_here xs)) × (sources_of (xs ++ x ∷ []) ≡ grown (code_in x) (class_in x) (sources_of xs))
both_more [] x = (here_is x [] ∙ none_here x, begin_is x [] ∙ none_begun x)
both_more (y ∷ ys) x = let h = both_more ys x in (
  here_is y (ys ++ x ∷ []) ∙ ap (here (code_in y) (class_in y)) h.0 ∙ here_step (code_in x) (code_in y) (class_in x) (class_in y) (classes_here ys) (sources_of ys)
      ∙ sym (ap (λ (ss : List JobSource). here_grown (code_in x) (class_in x) ss (classes_here (y ∷ ys))) (begin_is y ys) ∙ ap (here_grown (code_in x) (class_in x) (begin (code_in y) (classes_here ys) (sources_of ys))) (here_is y ys)),
  begin_is y (ys ++ x ∷ []) ∙ ap (λ (cs : List (List ℕ)). begin (code_in y) cs (sources_of (ys ++ x ∷ []))) h.0 ∙ ap (begin (code_in y) (here_grown (code_in x) (class_in x) (sources_of ys) (classes_here ys))) h.1
      ∙ begin_step (code_in x) (code_in y) (class_in x) (classes_here ys) (sources_of ys) ∙ sym (ap (grown (code_in x) (class_in x)) (begin_is y ys)),
)

last_grows : (path : List ℕ) (done : List JobSource) (s : JobSource) → add_last path (done ++ s ∷ []) ≡ done ++ record { source = s.source; classes = s.classes ++ path ∷ [] } ∷ []
last_grows path [] s = refl
last_grows path (d ∷ []) s = refl
last_grows path (d ∷ e ∷ more) s = ap (λ (ss : List JobSource). d ∷ ss) (last_grows path (e ∷ more) s)

is_class : (told : Told) (path : List ℕ) → is_too_much told (Class path) ≡ false → told.codes ≡ 0 → ⊥
unfolding is_too_much
is_class told path h none = go (told.codes == 0) (nat_le most_classes told.classes) h (ap (λ (n : ℕ). n == 0) none)
  where
    go : (a b : Bool) → (a || b) ≡ false → a ≡ true → ⊥
    go true b h e = cc
    go false b h e = cc

class_grows : (path : List ℕ) (done : List JobSource) (last : Option JobSource) → ¬ (last ≡ None) → done ++ option_to_list (with_class path last) ≡ add_last path (done ++ option_to_list last)
class_grows path done None there = absurd (there refl)
class_grows path done (Some s) there = sym (last_grows path done s)

source_grows : (told : Told) (x : Said) → (told.last ≡ None → told.codes ≡ 0) → is_too_much told x ≡ false → done_after told.done told.last x ++ option_to_list (last_after told.last x) ≡ grown (code_in x) (class_in x) (told.done ++ option_to_list told.last)
source_grows told (Policy p) begun h = refl
source_grows told (Prop n v) begun h = refl
source_grows told (Cwd p) begun h = refl
source_grows told (Code s) begun h = refl
source_grows told (Class p) begun h = class_grows p told.done told.last (λ e. is_class told p h (begun e))
source_grows told (Main n) begun h = refl
source_grows told (Schedule ns) begun h = refl
source_grows told (Heap c) begun h = refl
source_grows told (Depth d) begun h = refl
source_grows told (Steps n) begun h = refl

begun_more : (told : Told) (x : Said) → (told.last ≡ None → told.codes ≡ 0) → last_after told.last x ≡ None → one_more told.codes (code_in x) ≡ 0
begun_more told (Policy p) begun e = begun e
begun_more told (Prop n v) begun e = begun e
begun_more told (Cwd p) begun e = begun e
begun_more told (Code s) begun e = cc
begun_more told (Class p) begun e = begun (go told.last e)
  where
    go : (last : Option JobSource) → with_class p last ≡ None → last ≡ None
    go None e = refl
    go (Some s) e = cc
begun_more told (Main n) begun e = begun e
begun_more told (Schedule ns) begun e = begun e
begun_more told (Heap c) begun e = begun e
begun_more told (Depth d) begun e = begun e
begun_more told (Steps n) begun e = begun e

pub told_more : (said : List Said) (told : Told) (x : Said) → IsTold said told → is_too_much told x ≡ false → IsTold (said ++ x ∷ []) (after told x)
unfolding after
told_more said told x t h = let f = free told x h in record {
  policy = first_more policy_in told.policy said x f.0 t.policy;
  props = list_more prop_in told.props said x t.props;
  cwd = first_more cwd_in told.cwd said x f.1 t.cwd;
  sources = source_grows told x t.begun h ∙ ap (grown (code_in x) (class_in x)) t.sources ∙ sym (both_more said x).1;
  begun = begun_more told x t.begun;
  codes = count_more code_in told.codes said x t.codes;
  classes = count_more class_in told.classes said x t.classes;
  main = first_more main_in told.main said x f.2 t.main;
  schedule = picks_more told.schedule said x t.schedule;
  heap = first_more heap_in told.heap said x f.3 t.heap;
  depth = first_more depth_in told.depth said x f.4 t.depth;
  steps = first_more steps_in told.steps said x f.5 t.steps;
}

pub nothing_told : (props : List (List ℕ × List ℕ)) (done : List JobSource) (schedule : List ℕ) → props ≡ [] → done ≡ [] → schedule ≡ [] → IsTold [] (record { policy = None; props = props; cwd = None; done = done; last = None; codes = 0; classes = 0; main = None; schedule = schedule; heap = None; depth = None; steps = None })
unfolding sources_of first_some
nothing_told props done schedule e f g = record { policy = refl; props = e; cwd = refl; sources = append-nil done ∙ f; begun = λ _. refl; codes = refl; classes = refl; main = refl; schedule = g; heap = refl; depth = refl; steps = refl }
