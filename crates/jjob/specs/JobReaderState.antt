-- What the lines so far give, as a reader holds it.
use Rattle.std.specs.Prelude.{◌≡◌, ℕ, ◌+◌, Bool, false, ◌||◌, ◌==◌, List, [], ◌∷◌, ◌++◌, length, nat_le, nat_lt, Option, Some, None}
use Rattle.std.specs.List.{filter_map, flat_map}
use Rattle.std.specs.Option.{is_some, option_to_list}
use Rattle.jground.specs.jbase.FirstFaults.{first_some}
use Rattle.jjob.specs.declared.job.JobSource.{JobSource}
use Rattle.jjob.specs.JobLimits.{most_codes, most_classes, most_picks}
use Rattle.jjob.specs.declared.line.Said.{Said}
use Rattle.jjob.specs.declared.line.Said.TheVariants.{Policy, Prop, Cwd, Code, Class, Main, Schedule, Heap, Depth, Steps}
use Rattle.jjob.specs.declared.told.Told.{Told}
use Rattle.jjob.specs.Jobs.{policy_in, prop_in, cwd_in, code_in, class_in, main_in, picks_in, heap_in, depth_in, steps_in, count_of, sources_of}

-- whether something may not be said again, or is more than a job may have, beside the names of properties
unfoldable pub is_too_much : Told → Said → Bool
is_too_much told (Policy path) = is_some told.policy
is_too_much told (Prop name value) = false
is_too_much told (Cwd path) = is_some told.cwd
is_too_much told (Code source) = nat_le most_codes told.codes
is_too_much told (Class path) = told.codes == 0 || nat_le most_classes told.classes
is_too_much told (Main name) = is_some told.main
is_too_much told (Schedule numbers) = nat_lt most_picks (length told.schedule + length numbers)
is_too_much told (Heap cells) = is_some told.heap
is_too_much told (Depth frames) = is_some told.depth
is_too_much told (Steps steps) = is_some told.steps

-- a value, where there is a new one
abbrev pub newer : {X : Type 0} → Option X → Option X → Option X
newer old None = old
newer old (Some x) = Some x

abbrev pub with_one : {X : Type 0} → List X → Option X → List X
with_one xs None = xs
with_one xs (Some x) = xs ++ x ∷ []

abbrev pub one_more : {X : Type 0} → ℕ → Option X → ℕ
one_more n None = n
one_more n (Some x) = n + 1

abbrev pub with_picks : List ℕ → Said → List ℕ
with_picks picks (Schedule numbers) = picks ++ numbers
with_picks picks _ = picks

abbrev pub with_class : List ℕ → Option JobSource → Option JobSource
with_class path None = None
with_class path (Some s) = Some (record { source = s.source; classes = s.classes ++ path ∷ [] })

-- the last code source, behind what is said
abbrev pub last_after : Option JobSource → Said → Option JobSource
last_after last (Code source) = Some (record { source = source; classes = [] })
last_after last (Class path) = with_class path last
last_after last _ = last

-- the code sources before it
abbrev pub done_after : List JobSource → Option JobSource → Said → List JobSource
done_after done last (Code source) = done ++ option_to_list last
done_after done last _ = done

-- what the lines give with one more thing that is said
unfoldable pub after : Told → Said → Told
after told said = record {
  policy = newer told.policy (policy_in said);
  props = with_one told.props (prop_in said);
  cwd = newer told.cwd (cwd_in said);
  done = done_after told.done told.last said;
  last = last_after told.last said;
  codes = one_more told.codes (code_in said);
  classes = one_more told.classes (class_in said);
  main = newer told.main (main_in said);
  schedule = with_picks told.schedule said;
  heap = newer told.heap (heap_in said);
  depth = newer told.depth (depth_in said);
  steps = newer told.steps (steps_in said);
}

-- it is what all that was said gives
pub record IsTold (said : List Said) (told : Told) : Type 0 where
  pub policy : told.policy ≡ first_some policy_in said
  pub props : told.props ≡ filter_map prop_in said
  pub cwd : told.cwd ≡ first_some cwd_in said
  pub sources : told.done ++ option_to_list told.last ≡ sources_of said
  pub begun : told.last ≡ None → told.codes ≡ 0
  pub codes : told.codes ≡ count_of code_in said
  pub classes : told.classes ≡ count_of class_in said
  pub main : told.main ≡ first_some main_in said
  pub schedule : told.schedule ≡ flat_map picks_in said
  pub heap : told.heap ≡ first_some heap_in said
  pub depth : told.depth ≡ first_some depth_in said
  pub steps : told.steps ≡ first_some steps_in said
