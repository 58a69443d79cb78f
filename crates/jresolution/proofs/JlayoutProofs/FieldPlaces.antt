-- Where the fields of a class stand, field by field and class by class.
use Rattle.std.proofs.Common.{◌≡◌, ℕ, zero, suc, ◌+◌, ◌-◌, ◌<◌, ◌≤◌, Bool, true, false, cond, List, [], ◌∷◌, ◌++◌, length, get_or, take, Option, Some, None, refl, sym, ap, subst, ◌∙◌, arith}
use Rattle.std.specs.Prelude.{IsTrue, if◌then◌else◌, option_and_then, option_map, slice_get, slice_index_or}
use Rattle.std.specs.List.{filter, flat_map}
use Rattle.std.proofs.lemmas.Option.{slice_get-get_or, slice_get_past, slice_get_within}
use Rattle.jclass.specs.declared.class.ClassParts.{ClassParts}
use Rattle.jclass.specs.declared.class.MemberInfo.{MemberInfo}
use Rattle.jclass.specs.Class.{class_file}
use Rattle.jresolution.specs.declared.jprogram.member.Member.TheVariants.{Field}
use Rattle.jresolution.specs.declared.jprogram.part.CodePart.{CodePart}
use Rattle.jresolution.specs.jprogram.ProgramClasses.{Program}
use Rattle.jresolution.specs.jprogram.ClassFileParts.{this_name}
use Rattle.jresolution.specs.jprogram.OrderedPrograms.{StandsInOrder}
use Rattle.jresolution.proofs.JprogramProofs.MemberCounts.{few_fields}
use Rattle.jresolution.specs.declared.jlayout.slots.Next.{Next}
use Rattle.jresolution.specs.jlayout.FieldCounts.{AreCounts, AreKnown, count_at, count_in, own_in}
use Rattle.jresolution.specs.jlayout.FieldLayout.{is_instance, is_static, layout_above, place_among, slot, statics_before, statics_of}
use Rattle.jresolution.specs.jlayout.LayoutTables.{AreAllSlots, AreFirstSlots, kept_at}
use Rattle.jresolution.specs.jlayout.FieldSlots.{AreSlots, behind, place_by}
use Rattle.jresolution.proofs.JlayoutProofs.Lists.{filter_next, get_none, pieces_more, push_length, pushed, pushed_all}
use Rattle.jresolution.proofs.JlayoutProofs.Walks.{count_own}

-- ---- how many fields a class has

pub few_own : (c d : ClassParts) (fields : List MemberInfo) (n : ℕ) → d ≡ c → fields ≡ d.fields → IsTrue (class_file.fits c) → n ≤ length fields → n < 65536
few_own c d fields n same is fit le =
    let few : length c.fields < 65536 = few_fields c fit in
    let size : length fields ≡ length c.fields = ap (λ (ms : List MemberInfo). length ms) is ∙ ap (λ (x : ClassParts). length x.fields) same in
    omega (arith, few, size, le)

-- ---- the fields of one class

-- the first fields of a class have got their places
pub record Placed (first : Next) (fields : List MemberInfo) (i : ℕ) (slots : List ℕ) (next : Next) : Type 0 where
  pub size : length slots ≡ i
  pub each : (j : ℕ) → j < length slots → slice_get slots j ≡ option_map (place_by (behind first (take j fields))) (slice_get fields j)
  pub statics : next.statics ≡ first.statics + length (filter is_static (take i fields))
  pub instance : next.instance ≡ first.instance + length (filter is_instance (take i fields))

pub placed_begin : (first : Next) (fields : List MemberInfo) (slots : List ℕ) → slots ≡ [] → Placed first fields 0 slots first
placed_begin first fields slots empty = record {
  size = ap (λ (xs : List ℕ). length xs) empty;
  each = λ j lt. let none : length slots ≡ 0 = ap (λ (xs : List ℕ). length xs) empty in absurd (omega (arith, lt, none));
  statics = omega arith;
  instance = omega arith;
}

choose : (b : Bool) (s t i k : ℕ) → s ≡ t → i ≡ k → (if b then s else i) ≡ (if b then t else k)
choose true s t i k e h = e
choose false s t i k e h = h

pub placed_on : (first : Next) (fields : List MemberInfo) (i : ℕ) (slots more : List ℕ) (next after : Next) (field : MemberInfo) (place : ℕ)
    → Placed first fields i slots next → i < length fields → field ≡ get_or fields i field → place ≡ place_by next field → more ≡ slots ++ place ∷ []
    → after.statics ≡ next.statics + cond (is_static field) 1 0 → after.instance ≡ next.instance + cond (is_instance field) 1 0
    → Placed first fields (i + 1) more after
placed_on first fields i slots more next after field place h lt is at put statics instance =
    let f = λ (j : ℕ). option_map (place_by (behind first (take j fields))) (slice_get fields j) in
    let there : slice_get fields i ≡ Some field = slice_get-get_or fields i field lt ∙ ap (λ (x : MemberInfo). Some x) (sym is) in
    let here : place ≡ place_by (behind first (take i fields)) field = at ∙ choose (is_static field) next.statics (first.statics + length (filter is_static (take i fields))) next.instance (first.instance + length (filter is_instance (take i fields))) h.statics h.instance in
    let one : Some place ≡ f i = ap (λ (n : ℕ). Some n) here ∙ sym (ap (option_map (place_by (behind first (take i fields)))) there) in
    let last : Some place ≡ f (length slots) = one ∙ ap f (sym h.size) in
    let s = filter_next is_static fields i (length (filter is_static (take i fields))) field lt is refl in
    let o = filter_next is_instance fields i (length (filter is_instance (take i fields))) field lt is refl in
    let before = h.statics in
    let under = h.instance in
    record {
      size = ap (λ (xs : List ℕ). length xs) put ∙ push_length slots place i h.size;
      each = subst (λ (xs : List ℕ). (j : ℕ) → j < length xs → slice_get xs j ≡ f j) (sym put) (pushed f slots place h.each last);
      statics = omega (arith, statics, before, s);
      instance = omega (arith, instance, under, o);
    }

take_all : {A : Type 0} (xs : List A) (i : ℕ) → length xs ≤ i → take i xs ≡ xs
take_all [] zero le = refl
take_all [] (suc i) le = refl
take_all (x ∷ xs) zero le = absurd (omega (arith, le))
take_all (x ∷ xs) (suc i) le = ap (λ ys. x ∷ ys) (take_all xs i (omega (arith, le)))

pub placed_slots : (first : Next) (fields : List MemberInfo) (i : ℕ) (slots : List ℕ) (next : Next) → Placed first fields i slots next → length fields ≤ i → AreSlots first fields slots
placed_slots first fields i slots next h le j = by_place (slice_get slots j) refl
  where
    by_place : (o : Option ℕ) → slice_get slots j ≡ o → slice_get slots j ≡ option_map (place_by (behind first (take j fields))) (slice_get fields j)
    by_place None e =
        let most = get_none slots j e in
        let size = h.size in
        e ∙ sym (ap (option_map (place_by (behind first (take j fields)))) (slice_get_past fields j (omega (arith, most, size, le))))
    by_place (Some s) e = h.each j (slice_get_within slots j s e)

pub placed_statics : (first : Next) (fields : List MemberInfo) (i : ℕ) (slots : List ℕ) (next : Next) → Placed first fields i slots next → length fields ≤ i → next.statics ≡ first.statics + length (filter is_static fields)
placed_statics first fields i slots next h le = h.statics ∙ ap (λ (ms : List MemberInfo). first.statics + length (filter is_static ms)) (take_all fields i le)

-- ---- the fields of the class at a place

-- the part at a place, by what an index gives
pub part_at : (p : Program) (ys : List CodePart) (i : ℕ) (part : CodePart) → ys ≡ p.parts → i < length p.parts → part ≡ get_or ys i part → slice_get p.parts i ≡ Some part
part_at p ys i part same lt is =
    slice_get-get_or p.parts i part lt ∙ ap (λ (x : CodePart). Some x) (sym (is ∙ ap (λ (xs : List CodePart). get_or xs i part) same))

index_is : (xs : List ℕ) (i d x : ℕ) → slice_get xs i ≡ Some x → slice_index_or xs i d ≡ x
index_is [] i d x e = absurd cc
index_is (y ∷ ys) zero d x e = cc
index_is (y ∷ ys) (suc i) d x e = index_is ys i d x e

-- its count
pub count_there : (p : Program) (counts : List ℕ) (i : ℕ) → AreCounts p counts → i < length p.parts → slice_index_or counts i 0 ≡ count_at p i
count_there p counts i h lt = let size = h.size in index_is counts i 0 (count_at p i) (h.each i (omega (arith, size, lt)))

-- an object has those of the classes above, and the class's own
pub above_count : (p : Program) → StandsInOrder p → (i n : ℕ) (part : CodePart) → slice_get p.parts i ≡ Some part → n ≡ count_at p i → n ≡ length (layout_above p (this_name part.class)) + own_in (Some part)
above_count p good i n part at is = is ∙ ap (count_in p) at ∙ count_own p good i part at

pub own_below : (p : Program) → StandsInOrder p → (i n : ℕ) (part : CodePart) → slice_get p.parts i ≡ Some part → n ≡ count_at p i → own_in (Some part) ≤ n
own_below p good i n part at is = let all = above_count p good i n part at is in omega (arith, all)

pub above_left : (p : Program) → StandsInOrder p → (i n above : ℕ) (part : CodePart) → slice_get p.parts i ≡ Some part → n ≡ count_at p i → above ≡ n - own_in (Some part) → above ≡ length (layout_above p (this_name part.class))
above_left p good i n above part at is left = let all = above_count p good i n part at is in omega (arith, all, left)

-- so its slots are those of its fields
slot_by : (p : Program) (i j : ℕ) (first : Next) (c : ClassParts) (o : Option MemberInfo) → first.statics ≡ statics_before p i → first.instance ≡ length (layout_above p (this_name c))
    → option_map (place_by (behind first (take j c.fields))) o ≡ option_map (λ (one : ClassParts × MemberInfo). place_among p i j one.0 one.1) (option_map (λ (m : MemberInfo). (c, m)) o)
slot_by p i j first c None s t = refl
slot_by p i j first c (Some m) s t =
    let a = length (filter is_static (take j c.fields)) in
    let b = length (filter is_instance (take j c.fields)) in
    ap (λ (n : ℕ). Some n) (choose (is_static m) (first.statics + a) (statics_before p i + a) (first.instance + b) (length (layout_above p (this_name c)) + b) (ap (λ (n : ℕ). n + a) s) (ap (λ (n : ℕ). n + b) t))

pub slots_are : (p : Program) (i : ℕ) (first : Next) (part : CodePart) (fields : List MemberInfo) (slots : List ℕ) → slice_get p.parts i ≡ Some part → fields ≡ part.class.fields
    → first.statics ≡ statics_before p i → first.instance ≡ length (layout_above p (this_name part.class)) → AreSlots first fields slots → (j : ℕ) → slice_get slots j ≡ slot p (Field i j)
unfolding slot
slots_are p i first part fields slots at is s t h j =
    h j
    ∙ ap (λ (ms : List MemberInfo). option_map (place_by (behind first (take j ms))) (slice_get ms j)) is
    ∙ slot_by p i j first part.class (slice_get part.class.fields j) s t
    ∙ ap (λ (o : Option CodePart). option_map (λ (one : ClassParts × MemberInfo). place_among p i j one.0 one.1) (option_and_then (λ (c : ClassParts). option_map (λ (m : MemberInfo). (c, m)) (slice_get c.fields j)) (option_map (λ (x : CodePart). x.class) o))) (sym at)

pub statics_more : (p : Program) (i n m : ℕ) (part : CodePart) (fields : List MemberInfo) → slice_get p.parts i ≡ Some part → fields ≡ part.class.fields → n ≡ statics_before p i → m ≡ n + length (filter is_static fields) → m ≡ statics_before p (i + 1)
unfolding statics_before
statics_more p i n m part fields at is before all =
    let more = pieces_more statics_of p.parts i part at in
    let own : length (filter is_static fields) ≡ length (statics_of part) = ap (λ (ms : List MemberInfo). length (filter is_static ms)) is in
    omega (arith, all, before, more, own)

-- ---- all classes

pub record AllPlaced (p : Program) (i : ℕ) (slots : List (List ℕ)) (statics : ℕ) : Type 0 where
  pub size : length slots ≡ i
  pub rows : AreFirstSlots p slots
  pub before : statics ≡ statics_before p i

pub all_begin : (p : Program) (slots : List (List ℕ)) → slots ≡ [] → AllPlaced p 0 slots 0
unfolding statics_before
all_begin p slots empty = record {
  size = ap (λ (xs : List (List ℕ)). length xs) empty;
  rows = λ i row e. absurd (no_row i row (ap (λ (xs : List (List ℕ)). slice_get xs i) (sym empty) ∙ e));
  before = refl;
}
  where
    no_row : (i : ℕ) (row : List ℕ) → slice_get [] i ≡ Some row → ⊥
    no_row i row e = cc

pub all_on : (p : Program) (i : ℕ) (slots more : List (List ℕ)) (statics after : ℕ) (own : List ℕ) → AllPlaced p i slots statics → ((j : ℕ) → slice_get own j ≡ slot p (Field i j)) → more ≡ slots ++ own ∷ [] → after ≡ statics_before p (i + 1)
    → AllPlaced p (i + 1) more after
all_on p i slots more statics after own h is put before =
    let R = λ (k : ℕ) (row : List ℕ). (j : ℕ) → slice_get row j ≡ slot p (Field k j) in
    record {
      size = ap (λ (xs : List (List ℕ)). length xs) put ∙ push_length slots own i h.size;
      rows = subst (AreFirstSlots p) (sym put) (pushed_all R slots own h.rows (subst (λ (k : ℕ). R k own) (sym h.size) is));
      before = before;
    }

pub all_slots : (p : Program) (i : ℕ) (slots : List (List ℕ)) (statics : ℕ) → AllPlaced p i slots statics → length p.parts ≤ i → AreAllSlots p slots
unfolding slot
all_slots p n slots statics h le i j = by_row (slice_get slots i) refl
  where
    by_row : (o : Option (List ℕ)) → slice_get slots i ≡ o → kept_at slots i j ≡ slot p (Field i j)
    by_row None e =
        let most = get_none slots i e in
        let size = h.size in
        let none = slice_get_past p.parts i (omega (arith, most, size, le)) in
        ap (option_and_then (λ (row : List ℕ). slice_get row j)) e
        ∙ sym (ap (λ (o : Option CodePart). option_map (λ (one : ClassParts × MemberInfo). place_among p i j one.0 one.1) (option_and_then (λ (c : ClassParts). option_map (λ (m : MemberInfo). (c, m)) (slice_get c.fields j)) (option_map (λ (x : CodePart). x.class) o))) none)
    by_row (Some row) e = ap (option_and_then (λ (r : List ℕ). slice_get r j)) e ∙ h.rows i row e j

pub all_statics : (p : Program) (i : ℕ) (slots : List (List ℕ)) (statics : ℕ) → AllPlaced p i slots statics → length p.parts ≤ i → statics ≡ length (flat_map statics_of p.parts)
unfolding statics_before
all_statics p i slots statics h le = h.before ∙ ap (λ (ps : List CodePart). length (flat_map statics_of ps)) (take_all p.parts i le)

-- ---- all counts

pub record Counting (p : Program) (i : ℕ) (known : List (Option ℕ)) (counts : List ℕ) : Type 0 where
  pub known_are : AreKnown p known
  pub size : length counts ≡ i
  pub each : (j : ℕ) → j < length counts → slice_get counts j ≡ Some (count_at p j)

pub counting_begin : (p : Program) (known : List (Option ℕ)) (counts : List ℕ) → AreKnown p known → counts ≡ [] → Counting p 0 known counts
counting_begin p known counts right empty = record {
  known_are = right;
  size = ap (λ (xs : List ℕ). length xs) empty;
  each = λ j lt. let none : length counts ≡ 0 = ap (λ (xs : List ℕ). length xs) empty in absurd (omega (arith, lt, none));
}

pub counting_on : (p : Program) (i n : ℕ) (known new : List (Option ℕ)) (counts more : List ℕ) → Counting p i known counts → AreKnown p new → n ≡ count_at p i → more ≡ counts ++ n ∷ [] → Counting p (i + 1) new more
counting_on p i n known new counts more h right is put =
    let f = λ (j : ℕ). Some (count_at p j) in
    let last : Some n ≡ f (length counts) = ap (λ (k : ℕ). Some k) (is ∙ ap (count_at p) (sym h.size)) in
    record {
      known_are = right;
      size = ap (λ (xs : List ℕ). length xs) put ∙ push_length counts n i h.size;
      each = subst (λ (xs : List ℕ). (j : ℕ) → j < length xs → slice_get xs j ≡ f j) (sym put) (pushed f counts n h.each last);
    }

pub counting_end : (p : Program) (i : ℕ) (known : List (Option ℕ)) (counts : List ℕ) → Counting p i known counts → i ≡ length p.parts → AreCounts p counts
counting_end p i known counts h is = record { size = h.size ∙ is; each = h.each }
