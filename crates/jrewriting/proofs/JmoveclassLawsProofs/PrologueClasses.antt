-- The classes of what a method begins with, as they are put into a pool.
use Rattle.std.proofs.Common.{◌≡◌, ℕ, ◌≤◌, Bool, true, false, List, [], ◌∷◌, length, Option, Some, None, refl, ap, sym, subst, arith}
use Rattle.std.specs.Prelude.{IsTrue, nat_lt, slice_get, option_and_then, ◌==◌, if◌then◌else◌}
use Rattle.std.specs.Str.{byte}
use Rattle.std.specs.List.{AllByRecursion, list_all}
use Rattle.std.proofs.lemmas.Bool.{lt-ltb}
use Rattle.std.proofs.lemmas.List.Elements.{recursion_from_All}
use Rattle.jground.specs.jformat.Format.{is_good, unless}
use Rattle.jground.proofs.JformatProofs.ReadingSteps.{both, first_true, second_true}
use Rattle.jparts.specs.declared.jpool.descriptor.Descriptor.{Descriptor}
use Rattle.jparts.specs.declared.jpool.descriptor.Descriptor.TheVariants as descriptors
use Rattle.jparts.specs.declared.jpool.descriptor.FieldType.{FieldType}
use Rattle.jparts.specs.declared.jpool.entry.Entry.{Entry}
use Rattle.jparts.specs.jpool.Descriptors.{descriptor_of}
use Rattle.jparts.specs.jpool.ConstantPools.{class_name_at, is_class, utf8_at}
use Rattle.jparts.specs.declared.jmaps.types.MapType.{MapType}
use Rattle.jparts.specs.declared.jmaps.types.MapType.TheVariants as items
use Rattle.jparts.specs.declared.jmaps.types.RawFrame.{RawFrame}
use Rattle.jparts.specs.jmaps.StackMapFormat.{map_type}
use Rattle.jclass.specs.declared.class.ClassParts.{ClassParts}
use Rattle.jclass.specs.declared.class.MemberInfo.{MemberInfo}
use Rattle.jclass.specs.declared.fault.ClassFault.TheVariants.{Index}
use Rattle.jclass.specs.IndexFormats.{access, index, u2}
use Rattle.jclass.specs.Class.{class_file, tail}
use Rattle.jclass.specs.CodeFormat.{named_type}
use Rattle.jclass.specs.FlagRules.{names_class, is_plain_class}
use Rattle.jclass.specs.FileContents.{IsIn}
use Rattle.jmove.specs.PoolAdditions.{IsFront, giving, with_class, ◌>>◌}
use Rattle.jresolution.specs.jprogram.ClassFileParts.{is_static, member_desc, or_empty, this_name}
use Rattle.jmoveclass.specs.EntryLocals.{class_name, is_reference, item, params_in, params_of, this_item, with_beginning, with_item, with_this}
use Rattle.jresolution.specs.jprogram.MemberResolution.{is_init}
use Rattle.jmoveclass.specs.MovedMembers.{with_first}
use Rattle.jmoveclass.specs.PoolPuts.{with_each}
use Rattle.jmoveclass.proofs.PoolStability.{class_stays}
use Rattle.jmoveclass.proofs.Growth.{item_grows}
use Rattle.jmoveclass.proofs.DemandPreservation.{all_on, good_is, is_good_of}
use Rattle.jmoveclass.proofs.TextLengths.{classes_short}
use Rattle.jmoveclass.proofs.MethodContents.{class_tail, is_method_of}
use Rattle.jmoveclass.proofs.ItemAdditions.{each_grows}
use Rattle.jrewriting.proofs.JmoveclassLawsProofs.CallReferences.{put_named}
use Rattle.jrewriting.proofs.JmoveclassLawsProofs.TextSplits.{all_join}
use Rattle.jrewriting.proofs.JmoveclassLawsProofs.SoundPools.{IsSound, IsText, front_length}
use Rattle.jrewriting.proofs.JmoveclassLawsProofs.Texts.{IsTypeText, class_text, is_named, named_class, pool_text, text_entry, types_are}
use Rattle.jparts.specs.jpool.PoolEntries.{class_parts}

-- ---- items whose classes are there

abbrev pub AreItems : List Entry → List MapType → Type 0
AreItems pool ts = IsTrue (list_all (named_type pool).fits ts)

item_on : (pool whole : List Entry) → IsFront pool whole → (t : MapType) → IsTrue ((named_type pool).fits t) → IsTrue ((named_type whole).fits t)
unfolding map_type
item_on pool whole f items.Top h = h
item_on pool whole f items.Int h = h
item_on pool whole f items.Long h = h
item_on pool whole f items.Null h = h
item_on pool whole f items.UninitThis h = h
item_on pool whole f (items.Uninit n) h = h
item_on pool whole f (items.Object n) h =
    both (nat_lt n 65536) (is_good (unless (is_class whole n) Index)) (first_true (nat_lt n 65536) (is_good (unless (is_class pool n) Index)) h)
    (is_good_of (is_class whole n) Index (class_stays pool whole f n (good_is (is_class pool n) Index (second_true (nat_lt n 65536) (is_good (unless (is_class pool n) Index)) h))))

pub items_on : (pool whole : List Entry) → IsFront pool whole → (ts : List MapType) → AreItems pool ts → AreItems whole ts
items_on pool whole f ts h = all_on (named_type pool).fits (named_type whole).fits (item_on pool whole f) ts h

pub object_is : (pool : List Entry) (n : ℕ) → n ≤ 0xffff → IsTrue (is_class pool n) → IsTrue ((named_type pool).fits (items.Object n))
unfolding map_type
object_is pool n small h = both (nat_lt n 65536) (is_good (unless (is_class pool n) Index)) (lt-ltb n 65536 (omega arith)) (is_good_of (is_class pool n) Index h)

uninit_this_is : (pool : List Entry) → IsTrue ((named_type pool).fits items.UninitThis)
unfolding map_type
uninit_this_is pool = refl

number_is : (pool : List Entry) (b : Bool) → IsTrue ((named_type pool).fits (if b then items.Long else items.Int))
unfolding map_type
number_is pool true = refl
number_is pool false = refl

-- ---- parameters

-- the item of a type that is no reference
abbrev other : FieldType → MapType
other t = if t.base == byte "J" then items.Long else items.Int

abbrev IsPutItems : List MapType × List Entry → Type 0
IsPutItems x = IsSound x.1 × AreItems x.1 x.0

one_item : (pool : List Entry) (t : MapType) → IsTrue ((named_type pool).fits t) → AreItems pool (t ∷ [])
one_item pool t h = both ((named_type pool).fits t) true h refl

pub reference_item : (b : Bool) (i : ℕ) (t : MapType) → b ≡ true → (if b then items.Object i else t) ≡ items.Object i
reference_item true i t h = refl
reference_item false i t h = absurd cc

pub other_item : (b : Bool) (i : ℕ) (t : MapType) → b ≡ false → (if b then items.Object i else t) ≡ t
other_item true i t h = absurd cc
other_item false i t h = refl

put_item_by : (t : FieldType) (b : Bool) (pool : List Entry) → is_reference t ≡ b → IsSound pool → IsTypeText t → length (class_name t) ≤ 65535
    → length ((if b then (with_class (class_name t) >> λ i. giving (item i t ∷ [])) else giving (item 0 t ∷ [])) pool).1 ≤ 65535
    → IsPutItems ((if b then (with_class (class_name t) >> λ i. giving (item i t ∷ [])) else giving (item 0 t ∷ [])) pool)
unfolding ◌>>◌
put_item_by t true pool e s text short few =
    let n = class_text t text e short in
    let p = put_named (class_name t) pool s n.0 n.1 few in
    let x = with_class (class_name t) pool in
    (p.0, one_item x.1 (item x.0 t) (subst (λ (m : MapType). IsTrue ((named_type x.1).fits m)) (sym (reference_item (is_reference t) x.0 (other t) e)) (object_is x.1 x.0 p.1 p.2)))
put_item_by t false pool e s text short few =
    (s, one_item pool (item 0 t) (subst (λ (m : MapType). IsTrue ((named_type pool).fits m)) (sym (other_item (is_reference t) 0 (other t) e)) (number_is pool (t.base == byte "J"))))

put_item : (t : FieldType) (pool : List Entry) → IsSound pool → IsTypeText t → length (class_name t) ≤ 65535 → length (with_item t pool).1 ≤ 65535 → IsPutItems (with_item t pool)
put_item t pool s text short few = put_item_by t (is_reference t) pool refl s text short few

put_items : (ts : List FieldType) (pool : List Entry) → IsSound pool → AllByRecursion IsTypeText ts → AllByRecursion (λ t. length (class_name t) ≤ 65535) ts → length (with_each with_item ts pool).1 ≤ 65535
    → IsPutItems (with_each with_item ts pool)
unfolding with_each ◌>>◌
put_items [] pool s texts short few = (s, refl)
put_items (t ∷ ts) pool s texts short few =
    let x = with_item t pool in
    let y = with_each with_item ts x.1 in
    let later = (each_grows with_item item_grows ts).on x.1 in
    let le : length x.1 ≤ length y.1 = front_length x.1 y.1 later in
    let p = put_item t pool s texts.0 short.0 (omega arith) in
    let q = put_items ts x.1 p.0 texts.1 short.1 few in
    (q.0, all_join (named_type y.1).fits x.0 y.0 (items_on x.1 y.1 later x.0 p.1) q.1)

-- ---- `this`

text_by : (pool : List Entry) (o : Option ℕ) (name : List ℕ) → IsSound pool → option_and_then (utf8_at pool) o ≡ Some name → IsText name
text_by pool None name s h = absurd cc
text_by pool (Some n) name s h = pool_text pool n name s (text_entry pool n name h)

pub class_name_text : (pool : List Entry) (c : ℕ) (name : List ℕ) → IsSound pool → class_name_at pool c ≡ Some name → IsText name
unfolding class_name_at
class_name_text pool c name s h = text_by pool (option_and_then class_parts (slice_get pool c)) name s h

plain_text : (pool : List Entry) (c : ℕ) (o : Option (List ℕ)) → IsSound pool → class_name_at pool c ≡ o → IsTrue (is_plain_class o) → IsText (or_empty o) × IsTrue (is_named (or_empty o))
plain_text pool c None s e h = absurd cc
plain_text pool c (Some name) s e h = (class_name_text pool c name s e, named_class name h)

this_text : (c : ClassParts) → IsTrue (class_file.fits c) → IsSound c.pool → IsText (this_name c) × IsTrue (is_named (this_name c))
unfolding tail names_class
this_text c fit s =
    let a = second_true (access.fits c.flags) _ (class_tail c fit) in
    let this = good_is (names_class c.pool c.this_class) Index (second_true (u2.fits c.this_class) _ (first_true ((index (names_class c.pool)).fits c.this_class) _ a)) in
    plain_text c.pool c.this_class (class_name_at c.pool c.this_class) s refl this

this_by : (init : Bool) (pool : List Entry) (n : ℕ) → n ≤ 0xffff → IsTrue (is_class pool n) → IsTrue ((named_type pool).fits (this_item init n))
this_by true pool n small h = uninit_this_is pool
this_by false pool n small h = object_is pool n small h

put_this_by : (b : Bool) (c : ClassParts) (m : MemberInfo) (pool : List Entry) → IsSound pool → IsText (this_name c) → IsTrue (is_named (this_name c))
    → length ((if b then giving [] else with_class (this_name c) >> λ i. giving (this_item (is_init c m) i ∷ [])) pool).1 ≤ 65535
    → IsPutItems ((if b then giving [] else with_class (this_name c) >> λ i. giving (this_item (is_init c m) i ∷ [])) pool)
unfolding ◌>>◌
put_this_by true c m pool s t n few = (s, refl)
put_this_by false c m pool s t n few =
    let p = put_named (this_name c) pool s t n few in
    let x = with_class (this_name c) pool in
    (p.0, one_item x.1 (this_item (is_init c m) x.0) (this_by (is_init c m) x.1 x.0 p.1 p.2))

-- ---- all

-- the texts that a method begins with
pub record Begins (c : ClassParts) (m : MemberInfo) : Type 0 where
  pub this : IsText (this_name c)
  pub named : IsTrue (is_named (this_name c))
  pub texts : AllByRecursion IsTypeText (params_of c m)
  pub short : AllByRecursion (λ t. length (class_name t) ≤ 65535) (params_of c m)

empty_none : (d : Descriptor) → descriptor_of [] ≡ Some d → ⊥
unfolding descriptor_of
empty_none d h = absurd cc

desc_by : (pool : List Entry) (i : ℕ) (o : Option (List ℕ)) (d : Descriptor) → IsSound pool → utf8_at pool i ≡ o → descriptor_of (or_empty o) ≡ Some d → IsText (or_empty o)
desc_by pool i None d s e h = absurd (empty_none d h)
desc_by pool i (Some text) d s e h = pool_text pool i text s (text_entry pool i text e)

pub desc_text : (c : ClassParts) (m : MemberInfo) (d : Descriptor) → IsSound c.pool → descriptor_of (member_desc c m) ≡ Some d → IsText (member_desc c m)
desc_text c m d s h = desc_by c.pool m.desc (utf8_at c.pool m.desc) d s refl h

pub begins_of : (c : ClassParts) (m : MemberInfo) → IsTrue (class_file.fits c) → IsSound c.pool → IsIn m c.methods → Begins c m
begins_of c m fit s there =
    let method = is_method_of c m fit there in
    let t = this_text c fit s in
    let text = desc_text c m (descriptors.Method method.params method.ret) s method.is in
    let params : params_of c m ≡ method.params = ap params_in method.is in
    record {
      this = t.0;
      named = t.1;
      texts = subst (λ (ts : List FieldType). AllByRecursion IsTypeText ts) (sym params) (types_are (member_desc c m) method.params method.ret text method.is);
      short = recursion_from_All (λ t. length (class_name t) ≤ 65535) (params_of c m) (classes_short c m s.is_pool);
    }

pub put_beginning : (c : ClassParts) (m : MemberInfo) (pool : List Entry) → IsSound pool → Begins c m → length (with_beginning c m pool).1 ≤ 65535 → IsPutItems (with_beginning c m pool)
unfolding with_beginning ◌>>◌
put_beginning c m pool s b few =
    let x = with_this c m pool in
    let y = with_each with_item (params_of c m) x.1 in
    let later = (each_grows with_item item_grows (params_of c m)).on x.1 in
    let le : length x.1 ≤ length y.1 = front_length x.1 y.1 later in
    let p = put_this_by (is_static m.flags) c m pool s b.this b.named (omega arith) in
    let q = put_items (params_of c m) x.1 p.0 b.texts b.short few in
    (q.0, all_join (named_type y.1).fits x.0 y.0 (items_on x.1 y.1 later x.0 p.1) q.1)

pub put_first : (c : ClassParts) (m : MemberInfo) (fs : List RawFrame) (pool : List Entry) → IsSound pool → Begins c m → length (with_first c m fs pool).1 ≤ 65535 → IsPutItems (with_first c m fs pool)
put_first c m [] pool s b few = (s, refl)
put_first c m (f ∷ fs) pool s b few = put_beginning c m pool s b few
