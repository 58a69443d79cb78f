-- The types that a program names are types of values, and its arrays have dimensions.
use Rattle.std.proofs.Common.{◌≡◌, ℕ, ℤ, pos, ◌-◌, zero, suc, Bool, true, false, ◌&&◌, ◌==◌, List, [], ◌∷◌, ◌++◌, length, map, replicate, reverse, Option, Some, None, refl, sym, ap, subst, ◌∙◌}
use Rattle.std.specs.List.{AllByRecursion, find}
use Rattle.std.specs.Ordering.{int_eq}
use Rattle.std.specs.Bool.{⊤}
use Rattle.jground.specs.jbase.ListMaps.{each_some}
use Rattle.std.specs.Prelude.{nat_le, nat_lt, take, option_to_list, option_and_then, option_map, slice_get, if◌then◌else◌}
use Rattle.std.specs.Str.{bytes_eq}
use Rattle.std.proofs.lemmas.List.{reverse-append}
use Rattle.jparts.specs.declared.jpool.descriptor.Descriptor.{Descriptor}
use Rattle.jparts.specs.declared.jpool.descriptor.Descriptor.TheVariants as descriptors
use Rattle.jparts.specs.declared.jpool.descriptor.FieldType.{FieldType}
use Rattle.jparts.specs.declared.jpool.entry.Entry.{Entry}
use Rattle.jparts.specs.declared.jpool.entry.Entry.TheVariants as entries
use Rattle.jparts.specs.jpool.Descriptors.{descriptor_of}
use Rattle.jparts.specs.jpool.ConstantPools.{name_and_type_at, utf8_at}
use Rattle.jparts.specs.declared.jmaps.types.MapType.{MapType}
use Rattle.jparts.specs.declared.jmaps.types.MapType.TheVariants as items
use Rattle.jparts.specs.declared.jmaps.types.RawFrame.{RawFrame}
use Rattle.jparts.specs.jmaps.ExpandedFrames.{chopped, locals_after, place_from}
use Rattle.jtypes.specs.declared.vtype.Element.{Element}
use Rattle.jtypes.specs.declared.vtype.Element.TheVariants as elements
use Rattle.jtypes.specs.declared.vtype.VType.{VType}
use Rattle.jtypes.specs.declared.vtype.VType.TheVariants as types
use Rattle.jtypes.specs.DescriptorElements.{in_brackets}
use Rattle.jtypes.specs.TypeFrames.{Frame, is_long, places, places_of}
use Rattle.jresolution.specs.jprogram.ProgramClasses.{Program}
use Rattle.jresolution.specs.jprogram.MemberResolution.{init}
use Rattle.jlinking.proofs.JlinkProofs.PresentValues.{each_is, map_is, then_is}
use Rattle.jresolution.specs.juses.InstructionMeanings.{AClass, AConstant, AField, AMethod, EntryMeaning, call_meant, class_at, entry_meant, field_entry, field_meant, method_entry, reference}
use Rattle.jresolution.specs.ProofNames.{as_class, held}
use Rattle.jresolution.specs.juses.DescriptorTypes.{Typed, Called, Held, Untyped, class_by, class_of, class_type, called, element_in, is_context, return_in, there, type_in, type_of, typed, typed_as}
use Rattle.jtyping.specs.jwelltyped.DeclaredFrames.{Written, continued, frame_of, item, written, written_from}
use Rattle.jtyping.specs.jwelltyped.ProofNames.{or_top}
use Rattle.jtyping.specs.jwelltyped.MethodPremises.{Method}
use Rattle.jsoundness_laws.specs.typed.RuntimeAssignability.{IsValueType}
use Rattle.jsoundness_laws.specs.typed.TypedFrames.{AllHaveDimensions}
use Rattle.jsoundness_laws.specs.typed.ControlFlow.{DeclareDimensions}
use Rattle.jsoundness_laws.specs.typed.TypedValues.{HasDimensions}
use Rattle.jclass.specs.CodeFormat.{frames_in}

-- a type that a program may name
abbrev pub IsNamed : VType → Type 0
IsNamed t = IsValueType t × HasDimensions t

-- ---- by descriptors

brackets_named : (d : ℕ) (x : Element) → IsNamed (in_brackets d x)
brackets_named zero elements.Boolean = (tt, tt)
brackets_named zero elements.Char = (tt, tt)
brackets_named zero elements.Byte = (tt, tt)
brackets_named zero elements.Short = (tt, tt)
brackets_named zero elements.Int = (tt, tt)
brackets_named zero elements.Long = (tt, tt)
brackets_named zero (elements.Class c) = (tt, tt)
brackets_named (suc d) x = (tt, λ e. cc)

type_named : (d : ℕ) (x : Element) → IsNamed (type_of d x)
type_named d x = go (d == 0 && is_context x)
  where
    go : (b : Bool) → IsNamed (if b then types.Ctx else in_brackets d x)
    go true = (tt, tt)
    go false = brackets_named d x

abbrev as_type : EntryMeaning → VType
as_type (AClass t) = t
as_type _ = types.Top

some_is : {A : Type 0} (a b : A) → Some a ≡ Some b → a ≡ b
some_is a b e = cc

-- ---- lists

pub all_append : {A : Type 0} (P : A → Type 0) (xs ys : List A) → AllByRecursion P xs → AllByRecursion P ys → AllByRecursion P (xs ++ ys)
all_append P [] ys a b = b
all_append P (x ∷ xs) ys a b = (a.0, all_append P xs ys a.1 b)

pub all_reversed_by : {A : Type 0} (P : A → Type 0) (xs : List A) → AllByRecursion P xs → AllByRecursion P (reverse xs)
all_reversed_by P [] h = tt
all_reversed_by P (x ∷ xs) h = subst (λ xs. AllByRecursion P xs) (sym (reverse-append (x ∷ []) xs)) (all_append P (reverse xs) (x ∷ []) (all_reversed_by P xs h.1) (h.0, tt))

all_reversed : (ts : List VType) → AllByRecursion IsNamed ts → AllByRecursion IsNamed (reverse ts)
all_reversed ts h = all_reversed_by IsNamed ts h

all_taken : {A : Type 0} (P : A → Type 0) (n : ℕ) (xs : List A) → AllByRecursion P xs → AllByRecursion P (take n xs)
all_taken P zero xs h = tt
all_taken P (suc n) [] h = tt
all_taken P (suc n) (x ∷ xs) h = (h.0, all_taken P n xs h.1)

tops : (n : ℕ) → AllByRecursion HasDimensions (replicate n types.Top)
tops zero = tt
tops (suc n) = (tt, tops n)

places_dimensions : (ts : List VType) → AllByRecursion HasDimensions ts → AllByRecursion HasDimensions (places_of ts)
places_dimensions [] h = tt
places_dimensions (t ∷ ts) h = all_append HasDimensions (places t) (places_of ts) (go (is_long t)) (places_dimensions ts h.1)
  where
    go : (b : Bool) → AllByRecursion HasDimensions (if b then t ∷ types.Top ∷ [] else t ∷ [])
    go true = (h.0, (tt, tt))
    go false = (h.0, tt)

-- what is left has them
abbrev HasLeft : List VType → Option (List VType) → Type 0
HasLeft values o = o ≡ Some values → AllByRecursion HasDimensions values

some_dimensions : (ts values : List VType) → AllByRecursion HasDimensions ts → HasLeft values (Some ts)
some_dimensions ts values h e = subst (λ ts. AllByRecursion HasDimensions ts) (some_is ts values e) h

chopped_dimensions : (n : ℕ) (ts values : List VType) → AllByRecursion HasDimensions ts → HasLeft values (chopped n ts)
chopped_dimensions n ts values h e = go (nat_le n (length ts)) e
  where
    go : (b : Bool) → (if b then Some (take (length ts - n) ts) else None) ≡ Some values → AllByRecursion HasDimensions values
    go true e = subst (λ ts. AllByRecursion HasDimensions ts) (some_is (take (length ts - n) ts) values e) (all_taken HasDimensions (length ts - n) ts h)
    go false e = absurd (cc)

which : {values : List VType} (x : Option (List VType)) → HasLeft values x → (y : Option (List VType)) → HasLeft values y → (b : Bool) → HasLeft values (if b then x else y)
which x h y k true = h
which x h y k false = k

after_dimensions : (form : ℕ) (written before values : List VType) → AllByRecursion HasDimensions written → AllByRecursion HasDimensions before → locals_after form written before ≡ Some values
    → AllByRecursion HasDimensions values
unfolding locals_after
after_dimensions form written before values h k e =
    which (Some before) (some_dimensions before values k) (if nat_lt form 251 then chopped (251 - form) before else (if nat_lt form 252 then Some before else (if nat_lt form 255 then Some (before ++ written) else Some written)))
    (which (chopped (251 - form) before) (chopped_dimensions (251 - form) before values k) (if nat_lt form 252 then Some before else (if nat_lt form 255 then Some (before ++ written) else Some written))
    (which (Some before) (some_dimensions before values k) (if nat_lt form 255 then Some (before ++ written) else Some written)
    (which (Some (before ++ written)) (some_dimensions (before ++ written) values (all_append HasDimensions before written k h)) (Some written) (some_dimensions written values h) (nat_lt form 255))
    (nat_lt form 252)) (nat_lt form 251)) (nat_lt form 248) e

module _ (p : Program) where
  in_named : (t : FieldType) (y : VType) → type_in p t ≡ Some y → IsNamed y
  unfolding type_in
  in_named t y e = let x = map_is (type_of t.depth) (element_in p t) y e in subst IsNamed x.2 (type_named t.depth x.0)

  class_named : (text : List ℕ) (y : VType) → option_map class_of (there p text) ≡ Some y → IsNamed y
  class_named text y e = let x = map_is class_of (there p text) y e in subst IsNamed x.2 (type_named 0 (elements.Class x.0))

  by_named : (text : List ℕ) (d : Option Descriptor) (y : VType) → class_by p text d ≡ Some y → IsNamed y
  by_named text (Some (descriptors.Field t)) y e = go (nat_lt 0 t.depth) e
    where
      go : (b : Bool) → (if b then type_in p t else option_map class_of (there p text)) ≡ Some y → IsNamed y
      go true e = in_named t y e
      go false e = class_named text y e
  by_named text (Some (descriptors.Method params ret)) y e = class_named text y e
  by_named text None y e = class_named text y e

  pub class_type_named : (text : List ℕ) (y : VType) → class_type p text ≡ Some y → IsNamed y
  unfolding class_type
  class_type_named text y e = by_named text (descriptor_of text) y e

  -- ---- by entries

  no_field : (pool : List Entry) (class : ℕ) (o : Option (ℕ × ℕ)) (y : VType) → option_and_then (λ b. field_entry p (reference pool class b)) o ≡ Some (AClass y) → ⊥
  no_field pool class o y e =
      let b = then_is (λ b. field_entry p (reference pool class b)) o (AClass y) e in
      let r = map_is AField (field_meant p (reference pool class b.0)) (AClass y) b.2 in
      let is : AField r.0 ≡ AClass y = r.2 in
      cc

  no_method : (pool : List Entry) (class : ℕ) (o : Option (ℕ × ℕ)) (y : VType) → option_and_then (λ b. method_entry p (reference pool class b)) o ≡ Some (AClass y) → ⊥
  no_method pool class o y e =
      let b = then_is (λ b. method_entry p (reference pool class b)) o (AClass y) e in
      let r = map_is (AMethod (bytes_eq (reference pool class b.0).name init)) (call_meant p (reference pool class b.0)) (AClass y) b.2 in
      let is : AMethod (bytes_eq (reference pool class b.0).name init) r.0 ≡ AClass y = r.2 in
      cc

  entry_named : (pool : List Entry) (e : Option Entry) (y : VType) → entry_meant p pool e ≡ Some (AClass y) → IsNamed y
  unfolding entry_meant
  entry_named pool (Some (entries.Class i)) y e =
      let x = map_is AClass (option_and_then (class_type p) (utf8_at pool i)) (AClass y) e in
      let t = then_is (class_type p) (utf8_at pool i) x.0 x.1 in
      subst IsNamed (ap as_type x.2) (class_type_named t.0 x.0 t.2)
  entry_named pool (Some (entries.Integer n)) y e = absurd (cc)
  entry_named pool (Some (entries.Long n)) y e = absurd (cc)
  entry_named pool (Some (entries.Str n)) y e = absurd (cc)
  entry_named pool (Some (entries.Field class both)) y e = absurd (no_field pool class (name_and_type_at pool both) y e)
  entry_named pool (Some (entries.Method class both)) y e = absurd (no_method pool class (name_and_type_at pool both) y e)
  entry_named pool (Some (entries.InterfaceMethod class both)) y e = absurd (no_method pool class (name_and_type_at pool both) y e)
  entry_named pool _ y e = absurd (cc)

  pub class_at_named : (pool : List Entry) (i : ℕ) (y : VType) → class_at p pool i ≡ Some y → IsNamed y
  unfolding class_at
  class_at_named pool i y e =
      let x = then_is as_class (entry_meant p pool (slice_get pool i)) y e in
      entry_named pool (slice_get pool i) y (x.1 ∙ ap (λ m. Some m) (class_of_it x.0 x.2))
    where
      class_of_it : (m : EntryMeaning) → as_class m ≡ Some y → m ≡ AClass y
      class_of_it (AClass t) e = ap AClass (some_is t y e)
      class_of_it (AConstant c) e = absurd (cc)
      class_of_it (AField f) e = absurd (cc)
      class_of_it (AMethod b c) e = absurd (cc)

  -- ---- by the descriptors of members

  -- what a descriptor says are types that a program may name
  abbrev pub IsTypedNamed : Typed → Type 0
  IsTypedNamed Untyped = ⊤
  IsTypedNamed (Held t) = IsNamed t
  IsTypedNamed (Called params ret) = AllByRecursion IsNamed params × AllByRecursion IsNamed (option_to_list ret)

  held_named : (o : Option VType) → ((y : VType) → o ≡ Some y → IsNamed y) → IsTypedNamed (held o)
  held_named None h = tt
  held_named (Some t) h = h t refl

  called_named : (params : Option (List VType)) (ret : Option (Option VType)) → ((ys : List VType) → params ≡ Some ys → AllByRecursion IsNamed ys)
      → ((y : Option VType) → ret ≡ Some y → AllByRecursion IsNamed (option_to_list y)) → IsTypedNamed (called params ret)
  called_named None ret h k = tt
  called_named (Some params) None h k = tt
  called_named (Some params) (Some ret) h k = (all_reversed params (h params refl), k ret refl)

  return_named : (t : Option FieldType) (y : Option VType) → return_in p t ≡ Some y → AllByRecursion IsNamed (option_to_list y)
  return_named None None e = tt
  return_named None (Some y) e = absurd (cc)
  return_named (Some t) None e = tt
  return_named (Some t) (Some y) e =
      let x = map_is (λ (t : VType). Some t) (type_in p t) (Some y) e in
      (subst IsNamed (some_is x.0 y x.2) (in_named t x.0 x.1), tt)

  as_named : (d : Option Descriptor) → IsTypedNamed (typed_as p d)
  as_named None = tt
  as_named (Some (descriptors.Field t)) = held_named (type_in p t) (λ y e. in_named t y e)
  as_named (Some (descriptors.Method params ret)) =
      called_named (each_some (type_in p) params) (return_in p ret) (λ ys e. each_is IsNamed (type_in p) (λ t y e. in_named t y e) params ys e) (return_named ret)

  pub typed_named : (desc : List ℕ) → IsTypedNamed (typed p desc)
  unfolding typed
  typed_named desc = as_named (descriptor_of desc)

  -- ---- frames that are declared

  abbrev AllDimensions : List VType → Type 0
  AllDimensions ts = AllByRecursion HasDimensions ts

  item_dimensions : (pool : List Entry) (t : MapType) → HasDimensions (item p pool t)
  item_dimensions pool items.Top = tt
  item_dimensions pool items.Int = tt
  item_dimensions pool items.Long = tt
  item_dimensions pool items.Null = tt
  item_dimensions pool items.UninitThis = tt
  item_dimensions pool (items.Uninit o) = tt
  item_dimensions pool (items.Object i) = go (class_at p pool i) refl
    where
      go : (o : Option VType) → class_at p pool i ≡ o → HasDimensions (or_top o)
      go None e = tt
      go (Some y) e = (class_at_named pool i y e).1

  items_dimensions : (pool : List Entry) (ts : List MapType) → AllDimensions (map (item p pool) ts)
  items_dimensions pool [] = tt
  items_dimensions pool (t ∷ ts) = (item_dimensions pool t, items_dimensions pool ts)

  frame_dimensions : (most : ℕ) (values stack : List VType) → AllDimensions values → AllDimensions stack → AllHaveDimensions (frame_of most values stack)
  frame_dimensions most values stack h k = (all_append HasDimensions (places_of values) (replicate (most - length (places_of values)) types.Top) (places_dimensions values h) (tops (most - length (places_of values))), k)

  abbrev WrittenWell : Written → Type 0
  WrittenWell w = (f : Frame) → w.frame ≡ Some f → AllHaveDimensions f

  written_dimensions : (pool : List Entry) (most : ℕ) (earlier : Option ℕ) (before : List VType) (fs : List RawFrame) → AllDimensions before
      → AllByRecursion WrittenWell (written_from p pool most earlier before fs)
  unfolding written_from
  written_dimensions pool most earlier before [] h = tt
  written_dimensions pool most earlier before (f ∷ fs) h =
      go (locals_after f.form (map (item p pool) f.locals) before) (λ values e. after_dimensions f.form (map (item p pool) f.locals) before values (items_dimensions pool f.locals) h e)
      (λ values h. written_dimensions pool most (Some (place_from earlier f.delta)) values fs h)
    where
      stack_is : AllDimensions (reverse (map (item p pool) f.stack))
      stack_is = all_reversed_by HasDimensions (map (item p pool) f.stack) (items_dimensions pool f.stack)

      go : (o : Option (List VType)) → ((values : List VType) → o ≡ Some values → AllDimensions values)
          → ((values : List VType) → AllDimensions values → AllByRecursion WrittenWell (written_from p pool most (Some (place_from earlier f.delta)) values fs))
          → AllByRecursion WrittenWell
          (continued most (place_from earlier f.delta) (reverse (map (item p pool) f.stack)) (λ values. written_from p pool most (Some (place_from earlier f.delta)) values fs) o)
      go None well more = ((λ g e. absurd (cc)), tt)
      go (Some values) well more = (
        (λ g e. subst AllHaveDimensions (some_is (frame_of most values (reverse (map (item p pool) f.stack))) g e) (frame_dimensions most values (reverse (map (item p pool) f.stack)) (well values refl) stack_is)),
        more values (well values refl),
      )

  found_well : (at : ℤ) (ws : List Written) → AllByRecursion WrittenWell ws → (w : Written) → find (λ w. int_eq (pos w.at) at) ws ≡ Some w → WrittenWell w
  found_well at [] all w e = absurd (cc)
  found_well at (x ∷ ws) all w e = go (int_eq (pos x.at) at) (found_well at ws all.1 w) e
    where
      go : (b : Bool) → (find (λ w. int_eq (pos w.at) at) ws ≡ Some w → WrittenWell w) → (if b then Some x else find (λ w. int_eq (pos w.at) at) ws) ≡ Some w → WrittenWell w
      go true more e = subst WrittenWell (some_is x w e) all.0
      go false more e = more e

  pub declare_dimensions : (m : Method) → AllDimensions m.params → DeclareDimensions (written p m)
  unfolding written
  declare_dimensions m h at f e =
      let w = then_is (λ (w : Written). w.frame) (find (λ w. int_eq (pos w.at) at) (written p m)) f e in
      found_well at (written p m) (written_dimensions m.pool m.body.max_locals None m.params (frames_in m.body) h) w.0 w.1 f w.2
