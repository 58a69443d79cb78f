-- Which method is selected, where along the same classes the same are found.
use Rattle.std.proofs.Common.{◌≡◌, ℕ, Bool, true, false, ◌&&◌, not, List, [], ◌∷◌, map, Option, Some, None, refl, ap, sym, ◌∙◌, subst}
use Rattle.std.specs.Prelude.{option_map, ◌||◌, if◌then◌else◌}
use Rattle.std.specs.List.{AllByRecursion, filter_map, find, cons_option}
use Rattle.jresolution.specs.declared.jprogram.member.CallKind.{CallKind}
use Rattle.jresolution.specs.declared.jprogram.member.CallKind.TheVariants as kinds
use Rattle.jresolution.specs.declared.jprogram.member.Member.{Member}
use Rattle.jresolution.specs.declared.jprogram.member.Member.TheVariants.{Field, LibField, LibMethod, Method}
use Rattle.jresolution.specs.declared.jprogram.member.Selected.{Selected}
use Rattle.jresolution.specs.declared.jprogram.member.Selected.TheVariants as selected
use Rattle.jresolution.specs.jprogram.ProgramClasses.{Program}
use Rattle.jresolution.specs.jprogram.MemberResolution.{as_selected, before, first_by, first_taking, is_abstract, is_static, overrides, overrides_at_once, same_method, takes_call}
use Rattle.jrewriting.specs.jrewrite.RewrittenPrograms.{moved}
use Rattle.jsimulation_laws.specs.relation.InstructionExpansion.{moved_member, passing}
use Rattle.jmoved_laws.specs.names.SelectionLaws.{moved_selected}

-- ---- which of some methods

-- what each member is in the moved program
pub record Turned (p : Program) (to : Member → Member) : Type 0 where
  pub like : (m : Member) → is_static (moved p) (to m) ≡ is_static p m
  pub same : (a b : Member) → same_method (to a) (to b) ≡ same_method a b
  pub at_once : (a b : Member) → overrides_at_once (moved p) (to a) (to b) ≡ overrides_at_once p a b

module _ (p : Program) (to : Member → Member) (t : Turned p to) where
  overrides_same : (m r : Member) (between : List Member) → overrides (moved p) (to m) (map to between) (to r) ≡ overrides p m between r
  unfolding overrides
  overrides_same m r [] = t.at_once m r
  overrides_same m r (b ∷ between) = rw (overrides_same m r between, t.at_once m b, overrides_same b r between) refl

  before_if : (b : Bool) (m : Member) (xs : List Member) → map to (if b then [] else m ∷ xs) ≡ (if b then [] else to m ∷ map to xs)
  before_if true m xs = refl
  before_if false m xs = refl

  before_same : (r : Member) (ms : List Member) → before (to r) (map to ms) ≡ map to (before r ms)
  unfolding before
  before_same r [] = refl
  before_same r (m ∷ ms) =
      ap (λ (b : Bool). if b then [] else to m ∷ before (to r) (map to ms)) (t.same m r)
      ∙ ap (λ (xs : List Member). if same_method m r then [] else to m ∷ xs) (before_same r ms)
      ∙ sym (before_if (same_method m r) m (before r ms))

  takes_same : (r m : Member) (ms : List Member) → takes_call (moved p) (to r) (to m) (map to ms) ≡ takes_call p r m ms
  takes_same r m ms =
      ap (λ (b : Bool). not b && (same_method (to m) (to r) || overrides (moved p) (to m) (before (to r) (map to ms)) (to r))) (t.like m)
      ∙ ap (λ (b : Bool). not (is_static p m) && (b || overrides (moved p) (to m) (before (to r) (map to ms)) (to r))) (t.same m r)
      ∙ ap (λ (b : Bool). not (is_static p m) && (same_method m r || b))
      (ap (λ (xs : List Member). overrides (moved p) (to m) xs (to r)) (before_same r ms) ∙ overrides_same m r (before r ms))

  some_if : (b : Bool) (m : Member) (o : Option Member) → (if b then Some (to m) else option_map to o) ≡ option_map to (if b then Some m else o)
  some_if true m o = refl
  some_if false m o = refl

  taking_same : (r : Member) (ms : List Member) → first_taking (moved p) (to r) (map to ms) ≡ option_map to (first_taking p r ms)
  unfolding first_taking
  taking_same r [] = refl
  taking_same r (m ∷ ms) =
      ap (λ (b : Bool). if b then Some (to m) else first_taking (moved p) (to r) (map to ms)) (takes_same r m ms)
      ∙ ap (λ (o : Option Member). if takes_call p r m ms then Some (to m) else o) (taking_same r ms)
      ∙ some_if (takes_call p r m ms) m (first_taking p r ms)

  find_same : (ms : List Member) → find (λ m. not (is_static (moved p) m)) (map to ms) ≡ option_map to (find (λ m. not (is_static p m)) ms)
  find_same [] = refl
  find_same (m ∷ ms) =
      ap (λ (b : Bool). if not b then Some (to m) else find (λ m. not (is_static (moved p) m)) (map to ms)) (t.like m)
      ∙ ap (λ (o : Option Member). if not (is_static p m) then Some (to m) else o) (find_same ms)
      ∙ some_if (not (is_static p m)) m (find (λ m. not (is_static p m)) ms)

  pub first_same : (call : CallKind) (r : Member) (ms : List Member) → first_by (moved p) call (to r) (map to ms) ≡ option_map to (first_by p call r ms)
  first_same kinds.Virtual r ms = taking_same r ms
  first_same kinds.Interface r ms = find_same ms
  first_same kinds.Special r ms = find_same ms

-- ---- along the same classes

map_cons : (to : Member → Member) (o : Option Member) (ms : List Member) → cons_option (option_map to o) (map to ms) ≡ map to (cons_option o ms)
map_cons to None ms = refl
map_cons to (Some m) ms = refl

pub along_same : (to : Member → Member) (f g : List ℕ → Option Member) (names : List (List ℕ)) → AllByRecursion (λ n. g n ≡ option_map to (f n)) names → filter_map g names ≡ map to (filter_map f names)
along_same to f g [] all = refl
along_same to f g (n ∷ names) all =
    ap (λ (o : Option Member). cons_option o (filter_map g names)) all.0 ∙ ap (cons_option (option_map to (f n))) (along_same to f g names all.1) ∙ map_cons to (f n) (filter_map f names)

-- ---- what is selected

by_if : (b : Bool) (m : Member) (coded : Selected) → moved_selected (if b then selected.Abstract m else coded) ≡ (if b then selected.Abstract (moved_member m) else moved_selected coded)
by_if true m coded = refl
by_if false m coded = refl

pub moved_as : (p : Program) → ((m : Member) → is_abstract (moved p) (moved_member m) ≡ is_abstract p m) → (o : Option Member) → as_selected (moved p) (option_map moved_member o) ≡ moved_selected (as_selected p o)
moved_as p h None = refl
moved_as p h (Some (Field i j)) = refl
moved_as p h (Some LibField) = refl
moved_as p h (Some (LibMethod x)) =
    ap (λ (b : Bool). if b then selected.Abstract (LibMethod (passing x)) else selected.Lib (passing x)) (h (LibMethod x)) ∙ sym (by_if (is_abstract p (LibMethod x)) (LibMethod x) (selected.Lib x))
moved_as p h (Some (Method m)) =
    ap (λ (b : Bool). if b then selected.Abstract (Method m) else selected.Method m) (h (Method m)) ∙ sym (by_if (is_abstract p (Method m)) (Method m) (selected.Method m))

pub same_as : (p : Program) → ((m : Member) → is_abstract (moved p) m ≡ is_abstract p m) → (o : Option Member) → as_selected (moved p) o ≡ as_selected p o
same_as p h None = refl
same_as p h (Some (Field i j)) = refl
same_as p h (Some LibField) = refl
same_as p h (Some (LibMethod x)) = ap (λ (b : Bool). if b then selected.Abstract (LibMethod x) else selected.Lib x) (h (LibMethod x))
same_as p h (Some (Method m)) = ap (λ (b : Bool). if b then selected.Abstract (Method m) else selected.Method m) (h (Method m))

-- ---- which of those that were found

module _ (p : Program) (P : Member → Type 0) where
  -- one of them, which isn't static
  abbrev Good : Member → Type 0
  Good x = P x × (is_static p x ≡ false)

  not_static : (b c : Bool) → (not b && c) ≡ true → b ≡ false
  not_static true c h = absurd cc
  not_static false c h = refl

  taken_by : (m x : Member) (b : Bool) (rest : Option Member) → P m → (b ≡ true → is_static p m ≡ false) → (if b then Some m else rest) ≡ Some x → (rest ≡ Some x → Good x) → Good x
  taken_by m x true rest is static e more =
      let same : m ≡ x = cc in
      subst Good same (is, static refl)
  taken_by m x false rest is static e more = more e

  taking_holds : (r x : Member) (ms : List Member) → AllByRecursion P ms → first_taking p r ms ≡ Some x → Good x
  unfolding first_taking
  taking_holds r x [] all e = absurd cc
  taking_holds r x (m ∷ ms) all e =
      taken_by m x (takes_call p r m ms) (first_taking p r ms) all.0 (not_static (is_static p m) (same_method m r || overrides p m (before r ms) r)) e (taking_holds r x ms all.1)

  static_is : (b : Bool) → not b ≡ true → b ≡ false
  static_is true h = absurd cc
  static_is false h = refl

  find_holds : (x : Member) (ms : List Member) → AllByRecursion P ms → find (λ m. not (is_static p m)) ms ≡ Some x → Good x
  find_holds x [] all e = absurd cc
  find_holds x (m ∷ ms) all e = taken_by m x (not (is_static p m)) (find (λ m. not (is_static p m)) ms) all.0 (static_is (is_static p m)) e (find_holds x ms all.1)

  pub first_holds : (call : CallKind) (r x : Member) (ms : List Member) → AllByRecursion P ms → first_by p call r ms ≡ Some x → Good x
  first_holds kinds.Virtual r x ms all e = taking_holds r x ms all e
  first_holds kinds.Interface r x ms all e = find_holds x ms all e
  first_holds kinds.Special r x ms all e = find_holds x ms all e

  -- what holds of what each class declares holds of all along them
  each_cons : (o : Option Member) (ms : List Member) → ((m : Member) → o ≡ Some m → P m) → AllByRecursion P ms → AllByRecursion P (cons_option o ms)
  each_cons None ms h all = all
  each_cons (Some m) ms h all = (h m refl, all)

  pub each_along : (f : List ℕ → Option Member) (names : List (List ℕ)) → AllByRecursion (λ n. (m : Member) → f n ≡ Some m → P m) names → AllByRecursion P (filter_map f names)
  each_along f [] all = tt
  each_along f (n ∷ names) all = each_cons (f n) (filter_map f names) all.0 (each_along f names all.1)
