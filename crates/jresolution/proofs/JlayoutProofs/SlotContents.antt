-- What stands at slots.
use Rattle.std.proofs.Common.{◌≡◌, ℕ, zero, suc, ◌+◌, Bool, true, false, cond, List, [], ◌∷◌, ◌++◌, length, map, take, Option, Some, None, refl, sym, ap, ◌∙◌, arith, inl, inr}
use Rattle.std.specs.Prelude.{if◌then◌else◌, not, option_and_then, option_map, slice_get}
use Rattle.std.specs.List.{filter, flat_map, list_any}
use Rattle.std.specs.Str.{bytes_eq}
use Rattle.std.proofs.lemmas.List.{append-nil, append_assoc, length-append, length-map}
use Rattle.std.proofs.lemmas.Option.{slice_get-map}
use Rattle.jclass.specs.declared.class.ClassParts.{ClassParts}
use Rattle.jclass.specs.declared.class.MemberInfo.{MemberInfo}
use Rattle.jlib.specs.declared.classes.LibClass.TheVariants as lib
use Rattle.jtypes.specs.declared.vtype.VType.{VType}
use Rattle.jresolution.specs.declared.jprogram.member.Member.TheVariants.{Field}
use Rattle.jresolution.specs.declared.jprogram.part.CodePart.{CodePart}
use Rattle.jresolution.specs.jprogram.ClassFileParts.{this_name}
use Rattle.jresolution.specs.jprogram.ProgramClasses.{Class, Program, User, above_name, chain, extends, find, known, object, onward, up}
use Rattle.jresolution.specs.jprogram.OrderedPrograms.{StandsInOrder}
use Rattle.jresolution.proofs.JprogramProofs.CycleSearch.{or_split}
use Rattle.jresolution.proofs.JprogramProofs.SuperclassOrder.{object_find}
use Rattle.jresolution.proofs.JprogramProofs.InterfaceSearch.{some_is}
use Rattle.jresolution.proofs.JprogramProofs.ImplementationRows.{found_part, own_place}
use Rattle.jresolution.proofs.JprogramProofs.NameReachability.{name_is}
use Rattle.jresolution.specs.juses.PoolTables.{Grows}
use Rattle.jresolution.specs.jlayout.InternedFields.{IsFieldOf}
use Rattle.jresolution.specs.jlayout.FieldLayout.{field_type, is_instance, is_static, layout, layout_above, own_types, place_among, slot, statics_before, statics_of}
use Rattle.jresolution.proofs.JlayoutProofs.Walks.{from_above, layout_above_is, layout_is, lib_layout}

-- ---- an object begins with the fields of the classes above its own

module _ (p : Program) (good : StandsInOrder p) where
  grows_over : (c a d : List ℕ) → above_name p c ≡ Some a → Grows (layout p d) (layout p a) → Grows (layout p d) (layout p c)
  grows_over c a d is g = (
    g.0 ++ own_types p (find p c),
    layout_is p good c
        ∙ ap (λ (o : Option (List ℕ)). from_above p o ++ own_types p (find p c)) is
        ∙ ap (λ (ts : List VType). ts ++ own_types p (find p c)) g.1
        ∙ append_assoc (layout p d) g.0 (own_types p (find p c)),
  )

  grows_onward : (n : ℕ) (c d : List ℕ) (o : Option (List ℕ)) → above_name p c ≡ o → ((a : List ℕ) → list_any (bytes_eq d) (chain p n a) ≡ true → Grows (layout p d) (layout p a))
      → list_any (bytes_eq d) (onward (chain p n) o) ≡ true → Grows (layout p d) (layout p c)
  grows_onward n c d None is ih h = absurd cc
  grows_onward n c d (Some a) is ih h = grows_over c a d is (ih a h)

  grows_along : (n : ℕ) (c d : List ℕ) → list_any (bytes_eq d) (chain p n c) ≡ true → Grows (layout p d) (layout p c)
  unfolding chain
  grows_along zero c d h = absurd cc
  grows_along (suc n) c d h = elim (or_split (bytes_eq d c) (list_any (bytes_eq d) (onward (chain p n) (above_name p c))) h) [
    | inl same ↦ ([], ap (layout p) (sym (name_is d c same)) ∙ sym (append-nil (layout p d)))
    | inr far ↦ grows_onward n c d (above_name p c) refl (λ a k. grows_along n a d k) far
  ]

  pub layout_grows : (c d : List ℕ) → extends p c d ≡ true → Grows (layout p d) (layout p c)
  unfolding extends
  layout_grows c d h = elim (or_split (bytes_eq d object) (list_any (bytes_eq d) (up p c)) h) [
    | inl top ↦ (layout p c, ap (λ (ts : List VType). ts ++ layout p c) (sym (ap (layout p) (name_is d object top) ∙ lib_layout p good lib.Object object (object_find p good))))
    | inr far ↦ grows_along (length (known p) + 1) c d far
  ]

-- ---- lists

get_behind : {A : Type 0} (xs ys : List A) (k n : ℕ) → n ≡ length xs + k → slice_get (xs ++ ys) n ≡ slice_get ys k
get_behind [] ys k n e = let same : n ≡ k = omega (arith, e) in ap (slice_get ys) same
get_behind (x ∷ xs) ys k zero e = absurd (omega (arith, e))
get_behind (x ∷ xs) ys k (suc n) e = get_behind xs ys k n (omega (arith, e))

get_front : {A : Type 0} (xs ys : List A) (k : ℕ) (x : A) → slice_get xs k ≡ Some x → slice_get (xs ++ ys) k ≡ Some x
get_front [] ys k x e = absurd cc
get_front (y ∷ xs) ys zero x e = e
get_front (y ∷ xs) ys (suc k) x e = get_front xs ys k x e

get_filtered : {A : Type 0} (q : A → Bool) (xs : List A) (j : ℕ) (x : A) → slice_get xs j ≡ Some x → q x ≡ true → slice_get (filter q xs) (length (filter q (take j xs))) ≡ Some x
get_filtered q [] j x e is = absurd cc
get_filtered q (y ∷ ys) zero x e is =
    let same : y ≡ x = some_is y x e in
    let here : q y ≡ true = ap q same ∙ is in
    rw here e
get_filtered q (y ∷ ys) (suc j) x e is = by_test (q y) (get_filtered q ys j x e is)
  where
    by_test : (b : Bool) → slice_get (filter q ys) (length (filter q (take j ys))) ≡ Some x → slice_get (cond b (y ∷ filter q ys) (filter q ys)) (length (cond b (y ∷ filter q (take j ys)) (filter q (take j ys)))) ≡ Some x
    by_test true h = h
    by_test false h = h

get_piece : {A B C : Type 0} (f : A → List B) (g : A → List C) → ((x : A) → length (g x) ≡ length (f x)) → (xs : List A) (i k n : ℕ) (x : A) (z : C) → slice_get xs i ≡ Some x → slice_get (g x) k ≡ Some z
    → n ≡ length (flat_map f (take i xs)) + k → slice_get (flat_map g xs) n ≡ Some z
get_piece f g size [] i k n x z e at is = absurd cc
get_piece f g size (y ∷ ys) zero k n x z e at is =
    let same : y ≡ x = some_is y x e in
    let here : n ≡ k = omega (arith, is) in
    ap (slice_get (g y ++ flat_map g ys)) here ∙ get_front (g y) (flat_map g ys) k z (ap (λ w. slice_get (g w) k) same ∙ at)
get_piece f g size (y ∷ ys) (suc i) k n x z e at is =
    let m = length (flat_map f (take i ys)) in
    let both : length (f y ++ flat_map f (take i ys)) ≡ length (f y) + m = length-append (f y) (flat_map f (take i ys)) in
    let one = size y in
    get_behind (g y) (flat_map g ys) (m + k) n (omega (arith, is, both, one)) ∙ get_piece f g size ys i k (m + k) x z e at refl

-- ---- slots

slot_is : (p : Program) (i j : ℕ) (part : CodePart) (m : MemberInfo) → IsFieldOf p i j part m → slot p (Field i j) ≡ Some (place_among p i j part.class m)
unfolding slot
slot_is p i j part m h =
    ap (λ (o : Option CodePart). option_map (λ (one : ClassParts × MemberInfo). place_among p i j one.0 one.1) (option_and_then (λ (c : ClassParts). option_map (λ (x : MemberInfo). (c, x)) (slice_get c.fields j)) (option_map (λ (x : CodePart). x.class) o))) h.stands
    ∙ ap (λ (o : Option MemberInfo). option_map (λ (one : ClassParts × MemberInfo). place_among p i j one.0 one.1) (option_map (λ (x : MemberInfo). (part.class, x)) o)) h.declared

instance_by : (b : Bool) (s t n : ℕ) → b ≡ false → Some (if b then s else t) ≡ Some n → t ≡ n
instance_by true s t n e is = absurd cc
instance_by false s t n e is = some_is t n is

static_by : (b : Bool) (s t n : ℕ) → b ≡ true → Some (if b then s else t) ≡ Some n → s ≡ n
static_by true s t n e is = some_is s n is
static_by false s t n e is = absurd cc

pub field_stands : (p : Program) (i j s : ℕ) (part : CodePart) (m : MemberInfo) → StandsInOrder p → IsFieldOf p i j part m → is_static m ≡ false → slot p (Field i j) ≡ Some s
    → slice_get (layout p (this_name part.class)) s ≡ Some (field_type p part.class m)
field_stands p i j s part m good h apart at =
    let c = part.class in
    let name = this_name c in
    let k = length (filter is_instance (take j c.fields)) in
    let is = found_part p good name i part (own_place p good i part h.stands) h.stands in
    let all : layout p name ≡ layout_above p name ++ own_types p (Some (User i c)) = layout_is p good name ∙ ap (λ (ts : List VType). ts ++ own_types p (find p name)) (sym (layout_above_is p good name)) ∙ ap (λ (o : Option Class). layout_above p name ++ own_types p o) is in
    let place : length (layout_above p name) + k ≡ s = instance_by (is_static m) (statics_before p i + length (filter is_static (take j c.fields))) (length (layout_above p name) + k) s apart (sym (slot_is p i j part m h) ∙ at) in
    let own : is_instance m ≡ true = ap not apart in
    ap (slice_get (layout p name)) (sym place)
    ∙ ap (λ (ts : List VType). slice_get ts (length (layout_above p name) + k)) all
    ∙ get_behind (layout_above p name) (own_types p (Some (User i c))) k (length (layout_above p name) + k) refl
    ∙ slice_get-map (field_type p c) (filter is_instance c.fields) k
    ∙ ap (option_map (field_type p c)) (get_filtered is_instance c.fields j m h.declared own)

pub static_stands : {A : Type 0} (p : Program) (i j s : ℕ) (part : CodePart) (m : MemberInfo) (made : CodePart → MemberInfo → A) → IsFieldOf p i j part m → is_static m ≡ true → slot p (Field i j) ≡ Some s
    → slice_get (flat_map (λ (x : CodePart). map (made x) (statics_of x)) p.parts) s ≡ Some (made part m)
unfolding statics_before
static_stands p i j s part m made h among at =
    let k = length (filter is_static (take j part.class.fields)) in
    let place : statics_before p i + k ≡ s = static_by (is_static m) (statics_before p i + k) (length (layout_above p (this_name part.class)) + length (filter is_instance (take j part.class.fields))) s among (sym (slot_is p i j part m h) ∙ at) in
    let own = slice_get-map (made part) (statics_of part) k ∙ ap (option_map (made part)) (get_filtered is_static part.class.fields j m h.declared among) in
    ap (slice_get (flat_map (λ (x : CodePart). map (made x) (statics_of x)) p.parts)) (sym place)
    ∙ get_piece statics_of (λ (x : CodePart). map (made x) (statics_of x)) (λ x. length-map (statics_of x) (made x)) p.parts i k (statics_before p i + k) part (made part m) h.stands own refl
