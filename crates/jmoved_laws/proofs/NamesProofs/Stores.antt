-- A run of the moved program begins with the same store, and costs the same.
use Rattle.std.proofs.Common.{◌≡◌, ℕ, ◌+◌, ◌-◌, Bool, true, false, List, [], ◌∷◌, ◌++◌, length, map, Option, Some, refl, ap, ◌∙◌}
use Rattle.std.specs.Prelude.{slice_get, sum_by, unwrap_or, if◌then◌else◌}
use Rattle.std.specs.List.{AllByRecursion, cons_option, filter, filter_map, flat_map}
use Rattle.jclass.specs.declared.class.ClassParts.{ClassParts}
use Rattle.jclass.specs.declared.class.MemberInfo.{MemberInfo}
use Rattle.jtypes.specs.declared.vtype.VType.{VType}
use Rattle.jvalues.specs.declared.jops.value.Value.{Value}
use Rattle.jresolution.specs.declared.jprogram.part.CodePart.{CodePart}
use Rattle.jresolution.specs.jprogram.ProgramClasses.{Program}
use Rattle.jresolution.specs.jprogram.ClassFileParts.{member_desc}
use Rattle.jresolution.specs.jlayout.FieldLayout.{element, field_type, is_static}
use Rattle.jsemantics.specs.jmachine.MachineStates.{cells_of}
use Rattle.jsemantics.specs.jmachine.Narrowing.{default, narrowed}
use Rattle.jsemantics.specs.jmachine.OpeningState.{constant_of, constants_of, distinct, first_objects, first_value, opening_charge, opening_store, string_in, strings, strings_in, value_of, values_in}
use Rattle.jsemantics.specs.jmachine.Store.{Store}
use Rattle.jmoveclass.specs.MovedClasses.{moved_class, moved_part}
use Rattle.jrewriting.proofs.JmoveclassLawsProofs.PoolFormat.{sound_of}
use Rattle.jrewriting.specs.jrewrite.LinkageLaws.{IsLinked}
use Rattle.jrewriting.specs.jrewrite.RewrittenPrograms.{moved}
use Rattle.jrewriting.proofs.JrewriteProofs.FieldLookup.{fielded}
use Rattle.jrewriting.proofs.JrewriteProofs.ClassLookup.{pool_front}
use Rattle.jrewriting.proofs.JrewriteProofs.MemberPhase.{fields_same}
use Rattle.jmoved_laws.proofs.NamesProofs.Constants.{string_same, value_same}
use Rattle.jmoved_laws.proofs.NamesProofs.Fields.{all_by, map_filter, type_kept}

-- ---- lists

cons_if : {A B : Type 0} (f g : A → Option B) (x : A) (xs : List A) (b : Bool) → g x ≡ f x → filter_map g xs ≡ filter_map f xs → filter_map g (if b then x ∷ xs else xs) ≡ filter_map f (if b then x ∷ xs else xs)
cons_if {A} {B} f g x xs true e h = ap (λ (o : Option B). cons_option o (filter_map g xs)) e ∙ ap (cons_option (f x)) h
cons_if f g x xs false e h = h

-- where two functions give the same of all, they give the same of some
found_filter : {A B : Type 0} (f g : A → Option B) (t : A → Bool) (xs : List A) → AllByRecursion (λ x. g x ≡ f x) xs → filter_map g (filter t xs) ≡ filter_map f (filter t xs)
found_filter f g t [] all = refl
found_filter f g t (x ∷ xs) all = cons_if f g x (filter t xs) (t x) all.0 (found_filter f g t xs all.1)

flat_moved : {B : Type 0} (f g : CodePart → List B) (to : CodePart → CodePart) (xs : List CodePart) → AllByRecursion (λ x. g (to x) ≡ f x) xs → flat_map g (map to xs) ≡ flat_map f xs
flat_moved f g to [] all = refl
flat_moved {B} f g to (x ∷ xs) all = ap (λ (ys : List B). ys ++ flat_map g (map to xs)) all.0 ∙ ap (λ (ys : List B). f x ++ ys) (flat_moved f g to xs all.1)

-- ---- a part

module _ (p : Program) (linked : IsLinked p) (i : ℕ) (part : CodePart) (at : slice_get p.parts i ≡ Some part) where
  abbrev c : ClassParts
  c = part.class

  abbrev d : ClassParts
  d = moved_class p part.domain part.class

  string_kept : (k : ℕ) (m : MemberInfo) → slice_get c.fields k ≡ Some m → string_in d (constant_of d m) ≡ string_in c (constant_of c m)
  string_kept k m there = string_same c d (pool_front p part.domain c) (sound_of c (linked.files i part at)) (linked.files i part at) m (k, there)

  strings_kept : strings_in (moved_part p part) ≡ strings_in part
  strings_kept =
      ap (λ (fs : List MemberInfo). filter_map (λ m. string_in d (constant_of d m)) (filter is_static fs)) (fields_same p part.domain c)
      ∙ found_filter (λ m. string_in c (constant_of c m)) (λ m. string_in d (constant_of d m)) is_static c.fields (all_by (λ m. string_in d (constant_of d m) ≡ string_in c (constant_of c m)) c.fields string_kept)

  value_kept : {K : Type 0} (made : List (List ℕ × ℕ)) (k : ℕ) (m : MemberInfo) → slice_get c.fields k ≡ Some m → first_value {K = K} (moved p) made d m ≡ first_value p made c m
  value_kept {K} made k m there =
      let f = fielded p linked i c d (record { part = part; at = at; here = refl; there = refl }) in
      ap (λ (t : List ℕ). narrowed (element t) (unwrap_or (value_of {K = K} made d (constant_of d m)) (default (field_type (moved p) d m)))) (f.texts m (k, there)).desc
      ∙ ap (λ (o : Option (Value K)). narrowed (element (member_desc c m)) (unwrap_or o (default (field_type (moved p) d m))))
      (value_same c d (pool_front p part.domain c) (sound_of c (linked.files i part at)) (linked.files i part at) made m (k, there))
      ∙ ap (λ (t : VType). narrowed (element (member_desc c m)) (unwrap_or (value_of {K = K} made c (constant_of c m)) (default t))) (type_kept p linked i c d (record { part = part; at = at; here = refl; there = refl }) k m there)

  values_kept : {K : Type 0} (made : List (List ℕ × ℕ)) → values_in {K = K} (moved p) made (moved_part p part) ≡ values_in p made part
  values_kept {K} made =
      ap (λ (fs : List MemberInfo). map (first_value {K = K} (moved p) made d) (filter is_static fs)) (fields_same p part.domain c)
      ∙ map_filter (first_value p made c) (first_value (moved p) made d) is_static c.fields (all_by (λ m. first_value {K = K} (moved p) made d m ≡ first_value p made c m) c.fields (value_kept made))

-- ---- all

module _ (p : Program) (linked : IsLinked p) where
  pub texts_same : strings (moved p) ≡ strings p
  unfolding strings moved
  texts_same = ap (distinct []) (flat_moved strings_in strings_in (moved_part p) p.parts (all_by (λ x. strings_in (moved_part p x) ≡ strings_in x) p.parts (strings_kept p linked)))

  pub charge_same : opening_charge (moved p) ≡ opening_charge p
  unfolding opening_charge
  charge_same = ap (λ (ts : List (List ℕ)). 1 + sum_by (λ t. cells_of (length t)) ts + cells_of 0) texts_same

  statics_same : {K : Type 0} (made : List (List ℕ × ℕ)) → flat_map (values_in {K = K} (moved p) made) (moved p).parts ≡ flat_map (values_in p made) p.parts
  unfolding moved
  statics_same {K} made = flat_moved (values_in {K = K} p made) (values_in (moved p) made) (moved_part p) p.parts (all_by (λ x. values_in {K = K} (moved p) made (moved_part p x) ≡ values_in p made x) p.parts (λ i x at. values_kept p linked i x at made))

  abbrev store_of : {K : Type 0} → List (List ℕ) → List (Value K) → ℕ → Store K
  store_of texts statics left = record { objects = first_objects texts; statics = statics; constants = constants_of texts; left = left }

  pub opens_same : {K : Type 0} (heap : ℕ) → opening_store {K = K} (moved p) heap ≡ opening_store p heap
  opens_same {K} heap =
      ap (λ (ts : List (List ℕ)). store_of ts (flat_map (values_in {K = K} (moved p) (constants_of ts)) (moved p).parts) (heap - opening_charge (moved p))) texts_same
      ∙ ap (λ (vs : List (Value K)). store_of (strings p) vs (heap - opening_charge (moved p))) (statics_same (constants_of (strings p)))
      ∙ ap (λ (n : ℕ). store_of (strings p) (flat_map (values_in {K = K} p (constants_of (strings p))) p.parts) (heap - n)) charge_same
