-- How the fields of classes are counted upwards: an object of a class has those of the class above it, and the class's own.
use Rattle.std.proofs.Common.{◌≡◌, ℕ, zero, suc, ◌+◌, ◌<◌, ◌⊎◌, inl, inr, List, [], ◌∷◌, ◌++◌, length, map, drop, Option, Some, None, refl, sym, ap, subst, ◌∙◌, arith}
use Rattle.std.specs.Prelude.{option_and_then, option_map, replicate, reverse, slice_get, slice_set}
use Rattle.std.specs.List.{filter, flat_map}
use Rattle.std.proofs.lemmas.List.{flat_map_more, length-append, length-map, reverse-append}
use Rattle.jlib.specs.declared.classes.LibClass.{LibClass}
use Rattle.jlib.specs.LibraryClasses as library
use Rattle.jlib.proofs.LibraryLookup.{class_above, lower}
use Rattle.jtypes.specs.declared.vtype.VType.{VType}
use Rattle.jresolution.specs.declared.jprogram.part.ClassRef.TheVariants as refs
use Rattle.jresolution.specs.declared.jprogram.part.CodePart.{CodePart}
use Rattle.jresolution.specs.jprogram.ClassFileParts.{super_name, this_name}
use Rattle.jresolution.specs.jprogram.ProgramClasses.{Class, Lib, Program, User, above, above_name, find, name_at, onward, ref_of, up, named}
use Rattle.jresolution.specs.jprogram.OrderedPrograms.{StandsInOrder}
use Rattle.jresolution.proofs.JprogramProofs.SuperclassOrder.{above_lower, up_is}
use Rattle.jresolution.proofs.JprogramProofs.ImplementationRows.{found_part, own_place}
use Rattle.jresolution.proofs.JprogramProofs.ClassHeights.{Libs, Nowhere, Stands, Users, lib_find, not_taken, stands, tall}
use Rattle.jresolution.specs.jlayout.FieldCounts.{AreKnown, Climbs, above_at, count_at, count_from, count_in, count_of, known_in, own_at, own_in, user_in}
use Rattle.jresolution.specs.jlayout.FieldLayout.{field_type, is_instance, layout, layout_above, own_types, types_along}

-- ---- layouts

along_cons : (p : Program) (c : List ℕ) (rest : List (List ℕ)) → types_along p (c ∷ rest) ≡ types_along p rest ++ own_types p (find p c)
along_cons p c rest =
    ap (flat_map (λ (x : List ℕ). own_types p (find p x))) (reverse-append (c ∷ []) rest)
    ∙ sym (flat_map_more (λ (x : List ℕ). own_types p (find p x)) [] (reverse rest) c)

-- the fields of a class above, if there is one
abbrev pub from_above : Program → Option (List ℕ) → List VType
from_above p None = []
from_above p (Some a) = layout p a

onward_is : (p : Program) (o : Option (List ℕ)) → types_along p (onward (up p) o) ≡ from_above p o
unfolding layout
onward_is p None = refl
onward_is p (Some a) = refl

-- what is directly above a user's class that a part holds
abbrev pub above_in : Program → ℕ → Option CodePart → Option ℕ
above_in p i o = user_in (option_map ref_of (option_and_then (find p) (option_and_then above (option_map (λ (part : CodePart). User i part.class) o))))

-- how far a walk may still go from a class, if there is one
abbrev pub rest_of : Program → Option ℕ → ℕ
rest_of p None = 0
rest_of p (Some i) = suc (tall p (name_at p (refs.User i)))

module _ (p : Program) (good : StandsInOrder p) where
  -- those of the class above, and then the class's own
  pub layout_is : (c : List ℕ) → layout p c ≡ from_above p (above_name p c) ++ own_types p (find p c)
  unfolding layout
  layout_is c =
      ap (types_along p) (up_is p good c)
      ∙ along_cons p c (onward (up p) (above_name p c))
      ∙ ap (λ (ts : List VType). ts ++ own_types p (find p c)) (onward_is p (above_name p c))

  pub layout_above_is : (c : List ℕ) → layout_above p c ≡ from_above p (above_name p c)
  unfolding layout_above
  layout_above_is c = ap (λ (xs : List (List ℕ)). types_along p (drop 1 xs)) (up_is p good c) ∙ onward_is p (above_name p c)

  -- by what the class of the name is
  layout_by : (c : List ℕ) (o : Option Class) → find p c ≡ o → layout p c ≡ from_above p (option_and_then above o) ++ own_types p o
  layout_by c o is = layout_is c ∙ ap (λ (x : Option Class). from_above p (option_and_then above x) ++ own_types p x) is

  -- ---- classes without fields

  pub none_layout : (c : List ℕ) → find p c ≡ None → layout p c ≡ []
  none_layout c is = layout_by c None is

  lib_over : (l : LibClass) (o : Option LibClass) → library.superclass l ≡ o
      → ((s : LibClass) → library.height s < library.height l → find p (library.name_of s) ≡ Some (Lib s) → layout p (library.name_of s) ≡ [])
      → from_above p (option_map library.name_of o) ≡ []
  lib_over l None e ih = refl
  lib_over l (Some s) e ih = ih s (lower l s e) (lib_find p (not_taken p good) s (class_above p.side l s e).1)

  lib_less : (n : ℕ) (l : LibClass) (c : List ℕ) → library.height l < n → find p c ≡ Some (Lib l) → layout p c ≡ []
  lib_less zero l c lt is = absurd (omega (arith, lt))
  lib_less (suc n) l c lt is =
      layout_by c (Some (Lib l)) is
      ∙ ap (λ (ts : List VType). ts ++ []) (lib_over l (library.superclass l) refl (λ s less at. lib_less n s (library.name_of s) (omega (arith, lt, less)) at))

  pub lib_layout : (l : LibClass) (c : List ℕ) → find p c ≡ Some (Lib l) → layout p c ≡ []
  lib_layout l c is = lib_less (suc (library.height l)) l c (omega arith) is

  -- ---- counts

  abbrev Counted : Option Class → ℕ
  Counted o = count_from p (user_in (option_map ref_of o))

  count_named : (d : List ℕ) → Stands p d → length (layout p d) ≡ Counted (find p d)
  count_named d (Users i part at name is) = ap (λ (n : List ℕ). length (layout p n)) (sym name) ∙ sym (ap (count_in p) at) ∙ sym (ap Counted is)
  count_named d (Libs l named is) = ap (λ (ts : List VType). length ts) (lib_layout l d is) ∙ sym (ap Counted is)
  count_named d (Nowhere none) = ap (λ (ts : List VType). length ts) (none_layout d none) ∙ sym (ap Counted none)

  count_above : (o : Option (List ℕ)) → length (from_above p o) ≡ Counted (option_and_then (find p) o)
  count_above None = refl
  count_above (Some d) = count_named d (stands p d)

  count_by : (i : ℕ) (o : Option CodePart) → slice_get p.parts i ≡ o → count_in p o ≡ count_from p (above_in p i o) + own_in o
  count_by i None at = refl
  count_by i (Some part) at =
      let is = found_part p good (this_name part.class) i part (own_place p good i part at) at in
      let all = ap (λ (ts : List VType). length ts) (layout_by (this_name part.class) (Some (User i part.class)) is) in
      let both = length-append (from_above p (super_name part.class)) (map (field_type p part.class) (filter is_instance part.class.fields)) in
      let front = count_above (super_name part.class) in
      let own = length-map (filter is_instance part.class.fields) (field_type p part.class) in
      omega (arith, all, both, front, own)

  -- an object has the fields of the classes above, and its class's own
  pub count_own : (i : ℕ) (part : CodePart) → slice_get p.parts i ≡ Some part → count_of p part ≡ length (layout_above p (this_name part.class)) + own_in (Some part)
  count_own i part at =
      let is = found_part p good (this_name part.class) i part (own_place p good i part at) at in
      let all = ap (λ (ts : List VType). length ts) (layout_by (this_name part.class) (Some (User i part.class)) is) in
      let both = length-append (from_above p (super_name part.class)) (map (field_type p part.class) (filter is_instance part.class.fields)) in
      let front = ap (λ (ts : List VType). length ts) (layout_above_is (this_name part.class) ∙ ap (λ (o : Option Class). from_above p (option_and_then above o)) is) in
      let own = length-map (filter is_instance part.class.fields) (field_type p part.class) in
      omega (arith, all, both, front, own)

  -- those of the user's class directly above, and its class's own
  pub count_is : (i : ℕ) → count_at p i ≡ count_from p (above_at p i) + own_at p i
  count_is i = count_by i (slice_get p.parts i) refl

  -- ---- a walk upwards ends

  abbrev Rest : Option Class → ℕ
  Rest o = rest_of p (user_in (option_map ref_of o))

  rest_named : (d : List ℕ) (n : ℕ) → tall p d < n → Stands p d → Rest (find p d) < suc n
  rest_named d n lt (Users i part at name is) =
      let same : Rest (find p d) ≡ suc (tall p d) = ap Rest is ∙ ap (λ (o : Option CodePart). suc (tall p (named (option_map (λ (x : CodePart). User i x.class) o)))) at ∙ ap (λ (t : List ℕ). suc (tall p t)) name in
      omega (arith, same, lt)
  rest_named d n lt (Libs l known is) = let none : Rest (find p d) ≡ 0 = ap Rest is in omega (arith, none)
  rest_named d n lt (Nowhere is) = let none : Rest (find p d) ≡ 0 = ap Rest is in omega (arith, none)

  rest_above : (n : ℕ) (o : Option (List ℕ)) → ((d : List ℕ) → o ≡ Some d → tall p d < n) → Rest (option_and_then (find p) o) < suc n
  rest_above n None h = omega arith
  rest_above n (Some d) h = rest_named d n (h d refl) (stands p d)

  rest_by : (i : ℕ) (o : Option CodePart) → slice_get p.parts i ≡ o → rest_of p (above_in p i o) < suc (tall p (named (option_map (λ (x : CodePart). User i x.class) o)))
  rest_by i None at = omega arith
  rest_by i (Some part) at =
      let is = found_part p good (this_name part.class) i part (own_place p good i part at) at in
      rest_above (tall p (this_name part.class)) (super_name part.class) (λ d e. above_lower p good (this_name part.class) d (ap (option_and_then above) is ∙ e))

  pub rest_less : (i : ℕ) → rest_of p (above_at p i) < rest_of p (Some i)
  rest_less i = rest_by i (slice_get p.parts i) refl

  -- ---- what stands on a walk

  pub climbs_on : (class at : ℕ) (path : List ℕ) → Climbs p class (count_at p at) path → Climbs p class (count_from p (above_at p at)) (at ∷ path)
  climbs_on class at path h = (count_is at, subst (λ (n : ℕ). Climbs p class n path) (count_is at) h)

-- ---- a path by its items, the highest last

pub reverse_push : (xs : List ℕ) (x : ℕ) → reverse (xs ++ x ∷ []) ≡ x ∷ reverse xs
reverse_push xs x = reverse-append xs (x ∷ [])

known_some : (o : Option (Option ℕ)) (n : ℕ) → Some n ≡ known_in o → o ≡ Some (Some n)
known_some None n e = absurd cc
known_some (Some None) n e = absurd cc
known_some (Some (Some m)) n e = cc

-- a walk begins
pub path_begin : (p : Program) (class : ℕ) (items : List ℕ) → items ≡ [] → Climbs p class (count_from p (Some class)) (reverse items)
path_begin p class items empty = subst (λ (xs : List ℕ). Climbs p class (count_at p class) (reverse xs)) (sym empty) refl

-- it goes on
pub path_on : (p : Program) → StandsInOrder p → (class at : ℕ) (now next : Option ℕ) (items more : List ℕ) → now ≡ Some at → next ≡ above_at p at → more ≡ items ++ at ∷ [] → Climbs p class (count_from p now) (reverse items)
    → Climbs p class (count_from p next) (reverse more)
path_on p good class at now next items more here is pushed h =
    let path : reverse more ≡ at ∷ reverse items = ap reverse pushed ∙ reverse_push items at in
    let from = subst (λ (o : Option ℕ). Climbs p class (count_from p o) (reverse items)) here h in
    subst (λ (xs : List ℕ). Climbs p class (count_from p next) xs) (sym path)
    (subst (λ (o : Option ℕ). Climbs p class (count_from p o) (at ∷ reverse items)) (sym is) (climbs_on p good class at (reverse items) from))

pub path_smaller : (p : Program) → StandsInOrder p → (at : ℕ) (now next : Option ℕ) → now ≡ Some at → next ≡ above_at p at → rest_of p next < rest_of p now
path_smaller p good at now next here is =
    let less = rest_less p good at in
    let from = ap (rest_of p) here in
    let to = ap (rest_of p) is in
    omega (arith, less, from, to)

-- it ends at a class that is counted
pub path_known : (p : Program) (class at n : ℕ) (now : Option ℕ) (known : List (Option ℕ)) (path : List ℕ) → AreKnown p known → now ≡ Some at → Some n ≡ known_in (slice_get known at) → Climbs p class (count_from p now) path → Climbs p class n path
path_known p class at n now known path right here is h =
    let same : n ≡ count_at p at = right at n (known_some (slice_get known at) n is) in
    subst (λ (m : ℕ). Climbs p class m path) (sym same) (subst (λ (o : Option ℕ). Climbs p class (count_from p o) path) here h)

-- or above the last of the user's classes
pub path_none : (p : Program) (class : ℕ) (now : Option ℕ) (path : List ℕ) → now ≡ None → Climbs p class (count_from p now) path → Climbs p class 0 path
path_none p class now path none h = subst (λ (o : Option ℕ). Climbs p class (count_from p o) path) none h

-- the highest is taken off
pub path_popped : (p : Program) (class above at : ℕ) (items more : List ℕ) → items ≡ more ++ at ∷ [] → Climbs p class above (reverse items)
    → (count_at p at ≡ above + own_at p at) × Climbs p class (above + own_at p at) (reverse more)
path_popped p class above at items more is h = subst (λ (xs : List ℕ). Climbs p class above xs) (ap reverse is ∙ reverse_push more at) h

-- and its fields are counted
pub path_counted : (p : Program) (class above at own n : ℕ) (items more : List ℕ) → items ≡ more ++ at ∷ [] → own ≡ own_at p at → n ≡ above + own → Climbs p class above (reverse items)
    → (n ≡ count_at p at) × Climbs p class n (reverse more)
path_counted p class above at own n items more is o e h =
    let both = path_popped p class above at items more is h in
    let all : n ≡ above + own_at p at = e ∙ ap (λ (k : ℕ). above + k) o in
    (all ∙ sym both.0, subst (λ (k : ℕ). Climbs p class k (reverse more)) (sym all) both.1)

pub path_end : (p : Program) (class above : ℕ) (items : List ℕ) → items ≡ [] → Climbs p class above (reverse items) → above ≡ count_at p class
path_end p class above items empty h =
    let is : count_at p class ≡ above = subst (λ (xs : List ℕ). Climbs p class above (reverse xs)) empty h in
    sym is

-- ---- what is kept

set_some : (xs : List (Option ℕ)) (i j n m : ℕ) → slice_get (slice_set xs i (Some n)) j ≡ Some (Some m) → ((j ≡ i) × (m ≡ n)) ⊎ (slice_get xs j ≡ Some (Some m))
set_some [] i j n m e = inr e
set_some (x ∷ xs) zero zero n m e = let same : m ≡ n = cc in inl (refl, same)
set_some (x ∷ xs) zero (suc j) n m e = inr e
set_some (x ∷ xs) (suc i) zero n m e = inr e
set_some (x ∷ xs) (suc i) (suc j) n m e = elim (set_some xs i j n m e) [ inl h ↦ inl (ap (λ (k : ℕ). suc k) h.0, h.1) | inr h ↦ inr h ]

pub keeps : (p : Program) (known new : List (Option ℕ)) (class count : ℕ) → AreKnown p known → count ≡ count_at p class → new ≡ slice_set known class (Some count) → AreKnown p new
keeps p known new class count right is set i n e =
    elim (set_some known class i count n (ap (λ (xs : List (Option ℕ)). slice_get xs i) (sym set) ∙ e)) [
      | inl h ↦ h.1 ∙ is ∙ ap (count_at p) (sym h.0)
      | inr h ↦ right i n h
    ]

none_some : (k i n : ℕ) → slice_get (replicate k None) i ≡ Some (Some n) → ⊥
none_some zero i n e = cc
none_some (suc k) zero n e = cc
none_some (suc k) (suc i) n e = none_some k i n e

pub none_known : (p : Program) (k : ℕ) (known : List (Option ℕ)) → known ≡ replicate k None → AreKnown p known
none_known p k known is i n e = absurd (none_some k i n (ap (λ (xs : List (Option ℕ)). slice_get xs i) (sym is) ∙ e))
