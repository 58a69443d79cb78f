-- A search finds the frame at a place, as places rise.
use Rattle.std.proofs.Common.{◌≡◌, ℕ, ◌<◌, ◌≤◌, ℤ, pos, negsuc, Bool, true, false, cond, List, [], ◌∷◌, length, get_or, map, reverse, Option, Some, None, Result, Ok, Err, refl, sym, ap, subst, ◌∙◌, arith, inl, inr}
use Rattle.std.specs.Prelude.{◌<ℤ◌, IfSome, option_map, option_and_then}
use Rattle.std.specs.List.{AllByRecursion, find, position_or_len, slice_get}
use Rattle.std.specs.List.Sorted.{IsSearchInRange, IsBinarySearchResult, IsNonDecreasingBy}
use Rattle.std.specs.Ordering.{int_cmp, int_eq, ordering_index}
use Rattle.std.proofs.lemmas.Bool.{cases_Bool, cases_lt, eqb-true}
use Rattle.std.proofs.lemmas.Bool.Decides.{Decides-int_eq, nat_tests}
use Rattle.std.proofs.lemmas.Int.{ints}
use Rattle.std.proofs.lemmas.Cmp.{int_ranked}
use Rattle.std.proofs.lemmas.List.Folds.{find_at}
use Rattle.std.proofs.lemmas.List.Sums.{position_or_len_is}
use Rattle.std.proofs.lemmas.List.Sorted.{IsNonDecreasingBy-from_default}
use Rattle.std.proofs.lemmas.Option.{slice_get-get_or, slice_get_past}
use Rattle.jtypes.specs.TypeFrames.{Frame, places_of}
use Rattle.jresolution.specs.jprogram.ProgramClasses.{Program, tree}
use Rattle.jresolution.specs.declared.juses.types.TypeRef.{TypeRef}
use Rattle.jresolution.specs.juses.InternedTypes.{named}
use Rattle.jtyping.specs.jwelltyped.DeclaredFrames.{Written, declared_at, filled}
use Rattle.jtyping.specs.jwelltyped.VerifierTests.{frame_fits}
use Rattle.jverify.specs.declared.declared.Kept.{Kept}
use Rattle.jverify.specs.declared.chains.Node.{Node}
use Rattle.jverify.specs.LocalChains.{values}
use Rattle.jverify.specs.FrameTables.{AreKept, Given, Givens, IsKept, Rise, all_written, frame_named, frame_seen, given, has_last, shares, written_named}
use Rattle.jverify.specs.FrameFacts.{AreFrom}

first : Kept
first = record { at = 0; last = 0; stack = [] }

abbrev pub stands : ℤ → Kept → Bool
stands t k = int_eq (pos k.at) t

differs : (a t : ℤ) → (a ≡ t → ⊥) → int_eq a t ≡ false
differs a t other = elim (cases_Bool (int_eq a t)) [ inl hit ↦ absurd (other ((Decides-int_eq a t).0 hit)) | inr miss ↦ miss ]

cmp_rises : (a b : ℕ) (t : ℤ) → a ≤ b → ordering_index (int_cmp (pos a) t) ≤ ordering_index (int_cmp (pos b) t)
cmp_rises a b (pos n) le = grind (arith, nat_tests)
cmp_rises a b (negsuc n) le = omega arith

comparisons_rise : (ks : List Kept) (t : ℤ) → Rise ks → IsNonDecreasingBy (λ k. ordering_index (int_cmp (pos k.at) t)) ks
comparisons_rise ks t rise = IsNonDecreasingBy-from_default (λ k. ordering_index (int_cmp (pos k.at) t)) ks first (λ i j le lt.
    let places : (get_or ks i first).at ≤ (get_or ks j first).at = grind (arith, rise i j first, λ (same : i ≡ j). ap (λ (k : ℕ). (get_or ks k first).at) same) in
    cmp_rises (get_or ks i first).at (get_or ks j first).at t places)

-- the one that the search found
pub found_is : (ks : List Kept) (t : ℤ) (i : ℕ) (k : Kept) → Rise ks → IsSearchInRange (Ok i) (length ks) → IsBinarySearchResult (λ k. int_cmp (pos k.at) t) ks (Ok i) → k ≡ get_or ks i k → Some k ≡ find (stands t) ks
found_is ks t i k rise lt equal is =
    let same : pos (get_or ks i first).at ≡ t = int_ranked _ t _ (sym (equal first)) in
    let here : stands t (get_or ks i first) ≡ true = (Decides-int_eq _ t).1 same in
    let before : (j : ℕ) → j < i → stands t (get_or ks j first) ≡ false = λ j less.
    differs (pos (get_or ks j first).at) t (λ e. let below = rise j i first less lt in let both : pos (get_or ks j first).at ≡ pos (get_or ks i first).at = e ∙ sym same in omega (arith, ints)) in
    let place : position_or_len (stands t) ks ≡ i = position_or_len_is (stands t) ks i first (omega (arith, lt)) before (λ _. here) in
    sym (find_at (stands t) ks ∙ ap (slice_get ks) place ∙ slice_get-get_or ks i k lt ∙ ap Some (sym is))

-- none where it found none
pub found_none : (ks : List Kept) (t : ℤ) (i : ℕ) → Rise ks → IsSearchInRange (Err i) (length ks) → IsBinarySearchResult (λ k. int_cmp (pos k.at) t) ks (Err i) → None ≡ find (stands t) ks
found_none ks t i rise in_range parted =
    let none : (j : ℕ) → j < length ks → stands t (get_or ks j first) ≡ false = λ j lt. elim (cases_lt j i) [
      | inl before ↦ (let less : pos (get_or ks j first).at <ℤ t = int_ranked (pos (get_or ks j first).at) t _ (sym ((parted (comparisons_rise ks t rise)).0 j first (omega arith) before)) in differs (pos (get_or ks j first).at) t (λ e. omega (arith, ints)))
      | inr behind ↦ (let more : t <ℤ pos (get_or ks j first).at = int_ranked (pos (get_or ks j first).at) t _ (sym ((parted (comparisons_rise ks t rise)).1 j first behind lt)) in differs (pos (get_or ks j first).at) t (λ e. omega (arith, ints)))
    ] in
    let place : position_or_len (stands t) ks ≡ length ks = position_or_len_is (stands t) ks (length ks) first (omega arith) none (λ lt. absurd (omega arith)) in
    sym (find_at (stands t) ks ∙ ap (slice_get ks) place ∙ slice_get_past ks (length ks) (omega arith))

-- what the search found is the frame at a place
abbrev pub IsFound : List Kept → ℤ → Result ℕ ℕ → Type 0
IsFound ks at (Ok i) = (k : Kept) → k ≡ get_or ks i k → Some k ≡ find (stands at) ks
IsFound ks at (Err i) = None ≡ find (stands at) ks

pub searched : (ks : List Kept) (at t : ℤ) (r : Result ℕ ℕ) → Rise ks → IsSearchInRange r (length ks) → IsBinarySearchResult (λ k. int_cmp (pos k.at) t) ks r → t ≡ at → IsFound ks at r
searched ks at t (Ok i) rise within found same = λ k is. found_is ks t i k rise within found is ∙ ap (λ u. find (stands u) ks) same
searched ks at t (Err i) rise within found same = found_none ks t i rise within found ∙ ap (λ u. find (stands u) ks) same

pub found_again : (ks items : List Kept) (at t : ℤ) (o : Option Kept) → o ≡ find (stands t) ks → ks ≡ items → t ≡ at → o ≡ find (stands at) items
found_again ks items at t o e same there = e ∙ ap (λ u. find (stands u) ks) there ∙ ap (find (stands at)) same

-- ---- what is found

found_or : {A B : Type 0} (h : A → B) (x : A) (b : Bool) (ys : Option B) (xs : Option A) → ys ≡ option_map h xs → cond b (Some (h x)) ys ≡ option_map h (cond b (Some x) xs)
found_or h x true ys xs e = refl
found_or h x false ys xs e = e

find_mapped : {A B : Type 0} (test : B → Bool) (h : A → B) (xs : List A) → find test (map h xs) ≡ option_map h (find (λ x. test (h x)) xs)
find_mapped test h [] = refl
find_mapped test h (x ∷ xs) = found_or h x (test (h x)) (find test (map h xs)) (find (λ x. test (h x)) xs) (find_mapped test h xs)

kept_or : {A : Type 0} (P : A → Type 0) (x k : A) (b : Bool) (rest : Option A) → P x → (Some k ≡ rest → P k) → Some k ≡ cond b (Some x) rest → P k
kept_or P x k true rest here h e = let same : x ≡ k = cc in subst P same here
kept_or P x k false rest here h e = h e

pub found_holds : {A : Type 0} (P : A → Type 0) (test : A → Bool) (xs : List A) (k : A) → AllByRecursion P xs → Some k ≡ find test xs → P k
found_holds P test [] k all e = absurd cc
found_holds P test (x ∷ xs) k all e = kept_or P x k (test x) (find test xs) all.0 (found_holds P test xs k all.1) e

abbrev table : ℕ → List Node → List Kept → Givens
table most nodes ks = record { most = most; frames = map (given nodes) ks }

declared_as : (p : Program) (most : ℕ) (nodes : List Node) (ks : List Kept) (t : ℤ) → find (λ w. int_eq (pos w.at) t) (all_written p (table most nodes ks)) ≡ option_map (λ k. written_named p most (given nodes k)) (find (stands t) ks)
declared_as p most nodes ks t =
    find_mapped (λ w. int_eq (pos w.at) t) (written_named p most) (map (given nodes) ks)
    ∙ ap (option_map (written_named p most)) (find_mapped (λ (g : Given). int_eq (pos g.at) t) (given nodes) ks)
    ∙ twice (find (stands t) ks)
  where
    twice : (o : Option Kept) → option_map (written_named p most) (option_map (given nodes) o) ≡ option_map (λ k. written_named p most (given nodes k)) o
    twice None = refl
    twice (Some k) = refl

-- where none is kept at a place, none is declared
pub declared_none : (p : Program) (d : Givens) (most : ℕ) (nodes : List Node) (ks : List Kept) (t : ℤ) → table most nodes ks ≡ d → None ≡ find (stands t) ks → None ≡ declared_at (all_written p d) t
declared_none p d most nodes ks t view none =
    sym (ap (λ d. declared_at (all_written p d) t) (sym view)
    ∙ ap (option_and_then (λ (w : Written). w.frame)) (declared_as p most nodes ks t ∙ ap (option_map (λ k. written_named p most (given nodes k))) (sym none)))

-- where one is kept, it is declared
pub declared_some : (p : Program) (d : Givens) (most : ℕ) (nodes : List Node) (ks : List Kept) (t : ℤ) (k : Kept) → table most nodes ks ≡ d → Some k ≡ find (stands t) ks → Some (frame_named p most (given nodes k)) ≡ declared_at (all_written p d) t
declared_some p d most nodes ks t k view some =
    sym (ap (λ d. declared_at (all_written p d) t) (sym view)
    ∙ ap (option_and_then (λ (w : Written). w.frame)) (declared_as p most nodes ks t ∙ ap (option_map (λ k. written_named p most (given nodes k))) (sym some)))

-- the locals of a frame that is kept have room in those of the method
pub kept_there : (d : Givens) (most count : ℕ) (nodes : List Node) (ks : List Kept) (t : ℤ) (k : Kept) → table most nodes ks ≡ d → AreKept nodes most ks → Some k ≡ find (stands t) ks → count ≡ d.most → IsKept nodes count k
kept_there d most count nodes ks t k view all some same =
    subst (λ n. IsKept nodes n k) (ap (λ (d : Givens). d.most) view ∙ sym same) (found_holds (IsKept nodes most) (stands t) ks k all some)

-- a frame against the one that is kept there is it against the declared one
pub fits_there : (p : Program) (g : Frame → Option Frame → Bool) → ((f d : Frame) → frame_fits (tree p) f d ≡ g f (Some d)) → (d : Givens) (most : ℕ) (nodes : List Node) (ks : List Kept) (t : ℤ) (k : Kept) (locals oldest stack : List TypeRef) (flag b : Bool) →
    table most nodes ks ≡ d → Some k ≡ find (stands t) ks → length locals ≡ d.most → reverse oldest ≡ stack → b ≡ frame_fits (tree p) (frame_seen p locals (reverse oldest) flag) (frame_named p (length locals) (given nodes k)) →
    b ≡ g (frame_seen p locals stack flag) (declared_at (all_written p d) t)
fits_there p g same d most nodes ks t k locals oldest stack flag b view some count turned e =
    e ∙ ap (λ xs. frame_fits (tree p) (frame_seen p locals xs flag) (frame_named p (length locals) (given nodes k))) turned
    ∙ ap (λ n. frame_fits (tree p) (frame_seen p locals stack flag) (frame_named p n (given nodes k))) (count ∙ sym (ap (λ (d : Givens). d.most) view))
    ∙ same (frame_seen p locals stack flag) (frame_named p most (given nodes k))
    ∙ ap (g (frame_seen p locals stack flag)) (declared_some p d most nodes ks t k view some)

-- ---- frames that have the locals of others

locals_by : (p : Program) (nodes : List Node) (most count last : ℕ) (k : Kept) (locals : List TypeRef) → last ≡ k.last → count ≡ most → map (named p) locals ≡ filled most (places_of (map (named p) (values nodes last))) →
    map (named p) locals ≡ (frame_named p count (given nodes k)).locals
locals_by p nodes most count last k locals el ec e =
    e ∙ ap (λ n. filled most (places_of (map (named p) (values nodes n)))) el ∙ ap (λ n. filled n (places_of (map (named p) (values nodes k.last)))) (sym ec)

same_of : (p : Program) (d : Givens) (most : ℕ) (nodes : List Node) (ks : List Kept) (locals : List TypeRef) (at : ℕ) (k : Kept) (o : Option Kept) → table most nodes ks ≡ d → length locals ≡ most →
    AreFrom (all_written p d) (map (named p) locals) (Some at) → o ≡ find (stands (pos at)) ks → has_last k.last o ≡ true → map (named p) locals ≡ (frame_named p (length locals) (given nodes k)).locals
same_of p d most nodes ks locals at k None view count from is e = absurd cc
same_of p d most nodes ks locals at k (Some one) view count from is e =
    locals_by p nodes most (length locals) one.last k locals (eqb-true one.last k.last e) count
    (subst (λ o. IfSome o (λ (f : Frame). map (named p) locals ≡ f.locals)) (sym (declared_some p d most nodes ks (pos at) one view is)) from)

-- locals that are known to be those of a frame with the same chain
pub same_there : (p : Program) (d : Givens) (most : ℕ) (nodes : List Node) (ks items : List Kept) (locals : List TypeRef) (from : Option ℕ) (k : Kept) (b : Bool) → table most nodes ks ≡ d → items ≡ ks → length locals ≡ d.most →
    AreFrom (all_written p d) (map (named p) locals) from → b ≡ shares items k.last from → b ≡ true → map (named p) locals ≡ (frame_named p (length locals) (given nodes k)).locals
same_there p d most nodes ks items locals None k b view same count from e is = absurd cc
same_there p d most nodes ks items locals (Some at) k b view same count from e is =
    same_of p d most nodes ks locals at k (find (stands (pos at)) ks) view (count ∙ sym (ap (λ (d : Givens). d.most) view)) from refl
    (ap (λ xs. has_last k.last (find (stands (pos at)) xs)) (sym same) ∙ sym e ∙ is)

-- locals of a declared frame are those of the frame at its place
pub from_there : (p : Program) (d : Givens) (most : ℕ) (nodes : List Node) (ks : List Kept) (at : ℕ) (k : Kept) (from : Option ℕ) (f : Frame) → table most nodes ks ≡ d → Some k ≡ find (stands (pos at)) ks → from ≡ Some at →
    f ≡ frame_named p most (given nodes k) → AreFrom (all_written p d) f.locals from
from_there p d most nodes ks at k from f view some is e =
    subst (λ o. AreFrom (all_written p d) f.locals o) (sym is)
    (subst (λ o. IfSome o (λ (g : Frame). f.locals ≡ g.locals)) (declared_some p d most nodes ks (pos at) k view some) (ap (λ (f : Frame). f.locals) e))
