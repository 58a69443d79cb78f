-- Which lines of a job name class files, and what they say.
use Rattle.std.proofs.Common.{◌≡◌, ℕ, ◌+◌, ◌<◌, ◌-◌, ◌≢◌, ◌==◌, ◌&&◌, not, suc, Bool, true, false, true≢false, cond, List, ◌∷◌, ◌++◌, Option, Some, None, bytes_eq, codes, get_or, length, take, drop, take-append-drop, option_map, refl, sym, ap, ◌∙◌, arith, eqb-true, ne_eqb}
use Rattle.std.specs.List.{after_first, before_first, position_or_len, slice_split}
use Rattle.std.specs.Prelude.{slice_index}
use Rattle.std.specs.Result.{result_ok}
use Rattle.std.proofs.lemmas.List.{length-drop}
use Rattle.std.proofs.lemmas.List.Sums.{passes_at_first, split_at_first}
use Rattle.std.proofs.lemmas.Slice.Eq.{bytes_eq-Decides}
use Rattle.jground.specs.jbase.ListMaps.{each_some}
use Rattle.jdomain.specs.CodeSources.{source_of}
use Rattle.jjob.specs.declared.line.Said.{Said}
use Rattle.jjob.specs.declared.line.Said.TheVariants.{Policy, Prop, Cwd, Code, Class, Main, Schedule, Heap, Depth, Steps}
use Rattle.jjob.specs.JobLines.{code_said, counted, cwd_said, depth_said, frames_said, is_kept, keyed, prop_said, said_of, schedule_said}
use Rattle.jjob.specs.JobNumbers.{number_up_to}
use Rattle.jjob.specs.JobLimits.{greatest_pick, most_depth, most_heap, most_steps}
use Rattle.jjob.specs.StoredJobText.{names_class}

-- ---- a line that names a class file

pub class_line : (line : List ℕ) → names_class line ≡ true → line ≡ codes "class " ++ drop 6 line
class_line line is = sym (take-append-drop 6 line) ∙ ap (λ (w : List ℕ). w ++ drop 6 line) ((bytes_eq-Decides (take 6 line) (codes "class ")).0 is)

more_than_none : (n : ℕ) → (suc n == 0) ≡ false
more_than_none n = ne_eqb (suc n) 0 (λ h. omega (arith, h))

pub class_kept : (value : List ℕ) → is_kept (codes "class " ++ value) ≡ true
unfolding is_kept
class_kept value = ap (λ (b : Bool). not b && true) (more_than_none (length (codes "lass " ++ value)))

pub class_said : (b : ℕ) (value : List ℕ) → said_of (codes "class " ++ b ∷ value) ≡ Some (Class (b ∷ value))
unfolding said_of keyed
class_said b value = ap (λ (t : Bool). cond t None (Some (Class (b ∷ value)))) (more_than_none (length value))

pub class_none : said_of (codes "class ") ≡ None
unfolding said_of
class_none = refl

-- ---- and no other does

some_is : {A : Type 0} (a b : A) → Some a ≡ Some b → a ≡ b
some_is a b e = cc

maybe_other : (b : Bool) (said : Said) (path : List ℕ) → (said ≡ Class path → ⊥) → cond b (Some said) None ≡ Some (Class path) → ⊥
maybe_other true said path other e = other (some_is said (Class path) e)
maybe_other false said path other e = cc

mapped_other : {A : Type 0} (f : A → Said) (o : Option A) (path : List ℕ) → ((a : A) → f a ≡ Class path → ⊥) → option_map f o ≡ Some (Class path) → ⊥
mapped_other f None path other e = cc
mapped_other f (Some a) path other e = other a (some_is (f a) (Class path) e)

depth_other : (o : Option ℕ) (path : List ℕ) → frames_said o ≡ Some (Class path) → ⊥
depth_other None path e = cc
depth_other (Some frames) path e = go (frames == 0) e
  where
    go : (b : Bool) → cond b None (Some (Depth frames)) ≡ Some (Class path) → ⊥
    go true e = cc
    go false e = cc

counted_other : (key text path : List ℕ) → counted key text ≡ Some (Class path) → ⊥
unfolding counted schedule_said depth_said
counted_other key text path e = go (bytes_eq key (codes "schedule")) (bytes_eq key (codes "heap")) (bytes_eq key (codes "depth")) (bytes_eq key (codes "steps")) e
  where
    go : (a b c d : Bool)
        → cond a (schedule_said text) (cond b (option_map Heap (number_up_to most_heap text)) (cond c (depth_said text) (cond d (option_map Steps (number_up_to most_steps text)) None))) ≡ Some (Class path) → ⊥
    go true b c d e = mapped_other Schedule (each_some (number_up_to greatest_pick) (slice_split (λ b. b == 32) text)) path (λ n h. cc) e
    go false true c d e = mapped_other Heap (number_up_to most_heap text) path (λ n h. cc) e
    go false false true d e = depth_other (number_up_to most_depth text) path e
    go false false false true e = mapped_other Steps (number_up_to most_steps text) path (λ n h. cc) e
    go false false false false e = cc

keyed_other : (key text path : List ℕ) → bytes_eq key (codes "class") ≡ false → keyed key text ≡ Some (Class path) → ⊥
unfolding keyed prop_said cwd_said code_said
keyed_other key text path is e =
    go (bytes_eq key (codes "policy")) (bytes_eq key (codes "prop")) (bytes_eq key (codes "cwd")) (bytes_eq key (codes "code"))
    (bytes_eq key (codes "class")) (bytes_eq key (codes "main")) is e
  where
    go : (a b c d f g : Bool) → f ≡ false → cond a (Some (Policy text)) (cond b (prop_said text) (cond c (cwd_said text)
        (cond d (code_said text) (cond f (Some (Class text)) (cond g (Some (Main text)) (counted key text)))))) ≡ Some (Class path) → ⊥
    go true b c d f g is e = cc
    go false true c d f g is e = maybe_other _ (Prop (before_first (λ b. b == 61) text) (after_first (λ b. b == 61) text)) path (λ h. cc) e
    go false false true d f g is e = maybe_other (slice_index text 0 == 47) (Cwd text) path (λ h. cc) e
    go false false false true f g is e = mapped_other Code (result_ok (source_of text)) path (λ s h. cc) e
    go false false false false true g is e = cc
    go false false false false false true is e = cc
    go false false false false false false is e = counted_other key text path e

abbrev spaces : ℕ → Bool
spaces b = b == 32

-- a line with the key `class` begins with it and a space
class_first : (line : List ℕ) → before_first spaces line ≡ codes "class" → position_or_len spaces line < length line → names_class line ≡ true
class_first line key l =
    let space : get_or line (position_or_len spaces line) 0 ≡ 32 = eqb-true _ 32 (passes_at_first spaces line 0 l) in
    let whole : line ≡ codes "class" ++ (32 ∷ after_first spaces line) =
    split_at_first spaces line 0 l ∙ ap (λ (k : List ℕ). k ++ (get_or line (position_or_len spaces line) 0 ∷ after_first spaces line)) key
    ∙ ap (λ (b : ℕ). codes "class" ++ (b ∷ after_first spaces line)) space in
    ap names_class whole

-- a line without a space has nothing behind one
nothing_behind : (line : List ℕ) → length (after_first spaces line) ≡ length line - (position_or_len spaces line + 1)
nothing_behind line = length-drop (position_or_len spaces line + 1) line

abbrev filled : List ℕ → Bool
filled line = length (after_first spaces line) == 0

-- a line that doesn't begin so names no class file
pub no_class : (line path : List ℕ) → names_class line ≡ false → said_of line ≡ Some (Class path) → ⊥
unfolding said_of
no_class line path not says = go (filled line) refl says
  where
    go : (b : Bool) → filled line ≡ b → cond b None (keyed (before_first spaces line) (after_first spaces line)) ≡ Some (Class path) → ⊥
    go true f e = cc
    go false f e = by (bytes_eq (before_first spaces line) (codes "class")) refl
      where
        some : position_or_len spaces line < length line
        some = let n : length (after_first spaces line) ≢ 0 = λ z. true≢false (sym (ap (λ (k : ℕ). k == 0) z) ∙ f) in omega (arith, n, nothing_behind line)

        by : (t : Bool) → bytes_eq (before_first spaces line) (codes "class") ≡ t → ⊥
        by true t = true≢false (sym (class_first line ((bytes_eq-Decides (before_first spaces line) (codes "class")).0 t) some) ∙ not)
        by false t = keyed_other (before_first spaces line) (after_first spaces line) path t e
