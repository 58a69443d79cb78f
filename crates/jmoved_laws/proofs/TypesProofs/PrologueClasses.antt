-- What is put into a pool where a method begins: the classes of `this` and of its parameters, in their order. So the items of its first frame
-- stand in the moved program for what the method begins with.
use Rattle.std.proofs.Common.{◌≡◌, ℕ, suc, ◌≤◌, Bool, true, false, List, [], ◌∷◌, ◌++◌, length, map, Option, Some, None, refl, ap, ◌∙◌, arith}
use Rattle.std.specs.Prelude.{◌==◌, slice_get, if◌then◌else◌}
use Rattle.std.specs.List.{AllByRecursion}
use Rattle.std.specs.Str.{byte}
use Rattle.std.proofs.lemmas.List.{map-append}
use Rattle.jground.specs.jbase.ListMaps.{each_some, put_front}
use Rattle.jparts.specs.declared.jpool.descriptor.FieldType.{FieldType}
use Rattle.jparts.specs.declared.jpool.entry.Entry.{Entry}
use Rattle.jparts.specs.declared.jpool.entry.Entry.TheVariants.{Utf8}
use Rattle.jparts.specs.jpool.ConstantPools.{class_name_at}
use Rattle.jclass.specs.declared.class.Attribute.{Attribute}
use Rattle.jclass.specs.declared.class.Attribute.TheVariants.{Code, ConstantValue, Raw}
use Rattle.jclass.specs.declared.class.ClassParts.{ClassParts}
use Rattle.jclass.specs.declared.class.CodeBody.{CodeBody}
use Rattle.jclass.specs.declared.class.MemberInfo.{MemberInfo}
use Rattle.jclass.specs.FileContents.{IsIn}
use Rattle.jparts.specs.declared.jmaps.types.MapType.{MapType}
use Rattle.jparts.specs.declared.jmaps.types.MapType.TheVariants as items
use Rattle.jtypes.specs.declared.vtype.VType.{VType}
use Rattle.jtypes.specs.declared.vtype.VType.TheVariants.{UninitThis, Object}
use Rattle.jmove.specs.PoolAdditions.{IsFront, giving, with_class, with_text, ◌>>◌}
use Rattle.jmove.proofs.PoolGrowth.{front_on, front_self}
use Rattle.jmoveclass.specs.EntryLocals.{class_name, is_reference, params_of, this_item, with_beginning, with_item, with_this}
use Rattle.jresolution.specs.jprogram.MemberResolution.{is_init}
use Rattle.jmoveclass.specs.EntryLocals as begun
use Rattle.jmoveclass.specs.KeptAttributes.{method_keeps}
use Rattle.jmoveclass.specs.MovedMembers.{new_desc, with_attribute, with_code, with_method}
use Rattle.jmoveclass.specs.MovedClasses.{moved_class}
use Rattle.jmoveclass.specs.PoolPuts.{with_each}
use Rattle.jmoveclass.proofs.PoolStability.{class_name_stays}
use Rattle.jmoveclass.proofs.Growth.{attribute_grows, item_grows, method_grows}
use Rattle.jmoveclass.proofs.ItemAdditions.{each_grows}
use Rattle.jrewriting.specs.jmoveclass_laws.MovedFiles.{CanBeFile}
use Rattle.jrewriting.proofs.JmoveclassLawsProofs.PrologueClasses.{Begins}
use Rattle.jrewriting.proofs.JmoveclassLawsProofs.Methods.{movable_of}
use Rattle.jrewriting.proofs.JmoveclassLawsProofs.PoolFormat.{Grown, code_calls, few_in, new_text, put_attribute, put_method, sound_of}
use Rattle.jrewriting.proofs.JmoveclassLawsProofs.SoundPools.{IsSound, entry_front, front_length, put_class, put_text}
use Rattle.jrewriting.proofs.JmoveclassLawsProofs.Texts.{IsTypeText, class_text}
use Rattle.jresolution.specs.jprogram.ProgramClasses.{Program}
use Rattle.jresolution.specs.jprogram.ClassFileParts.{is_static, this_name}
use Rattle.jrewriting.proofs.JrewriteProofs.PoolAdditions.{Coded, OfMethod}
use Rattle.jresolution.specs.juses.DescriptorTypes.{name, type_in}
use Rattle.jtyping.specs.jwelltyped.DeclaredFrames.{item}
use Rattle.jtyping.specs.jwelltyped.MethodPremises.{receiver}
use Rattle.jmoved_laws.proofs.TypesProofs.FrameItems.{class_item, number_item}

-- ---- items

abbrev Put : List MapType × List Entry → Type 0
Put x = IsSound x.1

module _ (q : Program) where
  -- what was put stands for these types, in each pool that has it in front
  abbrev Says : List MapType × List Entry → List VType → Type 0
  Says x vs = (whole : List Entry) → IsFront x.1 whole → map (item q whole) x.0 ≡ vs

  one_by : (t : FieldType) (b : Bool) (pool : List Entry) → is_reference t ≡ b → IsSound pool → IsTypeText t → length (class_name t) ≤ 65535
      → length ((if b then (with_class (class_name t) >> λ i. giving (begun.item i t ∷ [])) else giving (begun.item 0 t ∷ [])) pool).1 ≤ 65535
      → IsSound ((if b then (with_class (class_name t) >> λ i. giving (begun.item i t ∷ [])) else giving (begun.item 0 t ∷ [])) pool).1
      × ((v : VType) → type_in q t ≡ Some v → Says ((if b then (with_class (class_name t) >> λ i. giving (begun.item i t ∷ [])) else giving (begun.item 0 t ∷ [])) pool) (v ∷ []))
  unfolding ◌>>◌
  one_by t true pool e s text short few =
      let n = class_text t text e short in
      let k = put_class (class_name t) pool s n.0 n.1 few in
      let x = with_class (class_name t) pool in (
        k.sound,
        λ v h whole f.
            ap (λ (b : Bool). item q whole (if b then items.Object x.0 else (if t.base == byte "J" then items.Long else items.Int)) ∷ []) e
            ∙ ap (λ (a : VType). a ∷ []) (class_item q whole x.0 t v (class_name_stays x.1 whole f x.0 (class_name t) k.named) text.good e h),
      )
  one_by t false pool e s text short few = (
    s,
    λ v h whole f.
        ap (λ (b : Bool). item q whole (if b then items.Object 0 else (if t.base == byte "J" then items.Long else items.Int)) ∷ []) e
        ∙ ap (λ (a : VType). a ∷ []) (number_item q whole t v e h),
  )

  front_of : (o : Option VType) (os : Option (List VType)) (vs : List VType) → put_front o os ≡ Some vs
      → (v : VType) × ((ws : List VType) × ((o ≡ Some v) × ((os ≡ Some ws) × (v ∷ ws ≡ vs))))
  front_of None os vs h = absurd cc
  front_of (Some v) None vs h = absurd cc
  front_of (Some v) (Some ws) vs h = (v, (ws, (refl, (refl, cc))))

  params_put : (ts : List FieldType) (pool : List Entry) → IsSound pool → AllByRecursion IsTypeText ts → AllByRecursion (λ t. length (class_name t) ≤ 65535) ts
      → length (with_each with_item ts pool).1 ≤ 65535
      → IsSound (with_each with_item ts pool).1 × ((vs : List VType) → each_some (type_in q) ts ≡ Some vs → Says (with_each with_item ts pool) vs)
  unfolding with_each ◌>>◌ each_some
  params_put [] pool s texts short few = (s, λ vs h whole f. let same : [] ≡ vs = cc in same)
  params_put (t ∷ ts) pool s texts short few =
      let x = with_item t pool in
      let y = with_each with_item ts x.1 in
      let later = (each_grows with_item item_grows ts).on x.1 in
      let le : length x.1 ≤ length y.1 = front_length x.1 y.1 later in
      let one = one_by t (is_reference t) pool refl s texts.0 short.0 (omega arith) in
      let others = params_put ts x.1 one.0 texts.1 short.1 few in (
        others.0,
        λ vs h whole f.
            let r = front_of (type_in q t) (each_some (type_in q) ts) vs h in
            map-append (item q whole) x.0 y.0
            ∙ ap (λ (us : List VType). us ++ map (item q whole) y.0) (one.1 r.0 r.1.1.0 whole (front_on x.1 y.1 whole later f))
            ∙ ap (λ (us : List VType). r.0 ∷ us) (others.1 r.1.0 r.1.1.1.0 whole f)
            ∙ r.1.1.1.1,
      )

  -- ---- `this`

  this_by : (b : Bool) (c : ClassParts) (m : MemberInfo) (pool : List Entry) → IsSound pool → Begins c m
      → ((whole : List Entry) (i : ℕ) → class_name_at whole i ≡ Some (this_name c) → item q whole (items.Object i) ≡ Object (name (this_name c)))
      → length ((if b then giving [] else with_class (this_name c) >> λ i. giving (this_item (is_init c m) i ∷ [])) pool).1 ≤ 65535
      → IsSound ((if b then giving [] else with_class (this_name c) >> λ i. giving (this_item (is_init c m) i ∷ [])) pool).1
      × Says ((if b then giving [] else with_class (this_name c) >> λ i. giving (this_item (is_init c m) i ∷ [])) pool) (receiver b (is_init c m) (name (this_name c)))
  unfolding ◌>>◌
  this_by true c m pool s b named few = (s, λ whole f. refl)
  this_by false c m pool s b named few =
      let k = put_class (this_name c) pool s b.this b.named few in
      let x = with_class (this_name c) pool in
      (k.sound, λ whole f. ap (λ (a : VType). a ∷ []) (of_init (is_init c m) whole x.0 (named whole x.0 (class_name_stays x.1 whole f x.0 (this_name c) k.named))))
    where
      of_init : (init : Bool) (whole : List Entry) (i : ℕ) → item q whole (items.Object i) ≡ Object (name (this_name c))
          → item q whole (this_item init i) ≡ (if init then UninitThis else Object (name (this_name c)))
      of_init true whole i e = refl
      of_init false whole i e = e

  pub first_put : (c : ClassParts) (m : MemberInfo) (pool : List Entry) → IsSound pool → Begins c m
      → ((whole : List Entry) (i : ℕ) → class_name_at whole i ≡ Some (this_name c) → item q whole (items.Object i) ≡ Object (name (this_name c)))
      → length (with_beginning c m pool).1 ≤ 65535 → (vs : List VType) → each_some (type_in q) (params_of c m) ≡ Some vs
      → Says (with_beginning c m pool) (receiver (is_static m.flags) (is_init c m) (name (this_name c)) ++ vs)
  unfolding with_beginning ◌>>◌
  first_put c m pool s b named few vs h whole f =
      let x = with_this c m pool in
      let y = with_each with_item (params_of c m) x.1 in
      let later = (each_grows with_item item_grows (params_of c m)).on x.1 in
      let le : length x.1 ≤ length y.1 = front_length x.1 y.1 later in
      let one = this_by (is_static m.flags) c m pool s b named (omega arith) in
      let others = params_put (params_of c m) x.1 one.0 b.texts b.short few in
      map-append (item q whole) x.0 y.0
      ∙ ap (λ (us : List VType). us ++ map (item q whole) y.0) (one.1 whole (front_on x.1 y.1 whole later f))
      ∙ ap (λ (us : List VType). receiver (is_static m.flags) (is_init c m) (name (this_name c)) ++ us) (others.1 vs h whole f)

-- ---- each code of a class, with the pool that it found

-- a code that was put, and the pool before it
pub record CodeAt (p : Program) (c d : ClassParts) (domain : ℕ) (m : MemberInfo) (a : Attribute) : Type 0 where
  pub b : CodeBody
  pub coded : Coded p c m b
  pub name : ℕ
  pub pool : List Entry
  pub grown : Grown c.pool pool
  pub few : length (with_code p c domain m name b pool).1 ≤ 65535
  pub later : IsFront (with_code p c domain m name b pool).1 d.pool
  pub is : (with_code p c domain m name b pool).0 ≡ a

abbrev pub AttributeAt : Program → ClassParts → ClassParts → ℕ → MemberInfo → Attribute → Type 0
AttributeAt p c d domain m (Code name stack locals ops handlers others) = CodeAt p c d domain m (Code name stack locals ops handlers others)
AttributeAt p c d domain m (ConstantValue name value) = Unit {0}
AttributeAt p c d domain m (Raw name bytes) = Unit {0}

abbrev pub AllAt : Program → ClassParts → ClassParts → ℕ → MemberInfo → List Attribute → Type 0
AllAt p c d domain m xs = AllByRecursion (λ a. AttributeAt p c d domain m a) xs

raw_at : (p : Program) (c d : ClassParts) (domain : ℕ) (m : MemberInfo) (b : Bool) (name : ℕ) (bytes : List ℕ) → AllAt p c d domain m (if b then Raw name bytes ∷ [] else [])
raw_at p c d domain m true name bytes = (tt, tt)
raw_at p c d domain m false name bytes = tt

attribute_at : (p : Program) (c d : ClassParts) (domain : ℕ) (m : MemberInfo) → OfMethod p c m → (a : Attribute) → IsIn a m.attributes → (pool : List Entry) → Grown c.pool pool
    → length (with_attribute p c domain m a pool).1 ≤ 65535
    → IsFront (with_attribute p c domain m a pool).1 d.pool → AllAt p c d domain m (with_attribute p c domain m a pool).0
unfolding with_code ◌>>◌
attribute_at p c d domain m o (Code name stack locals is handlers others) there pool g few later =
    let b : CodeBody = record { max_stack = stack; max_locals = locals; ops = is; handlers = handlers; attributes = others } in
    (record { b = b; coded = o.codes (Code name stack locals is handlers others) b there refl; name = name; pool = pool; grown = g; few = few; later = later; is = refl }, tt)
attribute_at p c d domain m o (ConstantValue name value) there pool g few later = tt
attribute_at p c d domain m o (Raw name bytes) there pool g few later = raw_at p c d domain m (method_keeps c.pool (Raw name bytes)) name bytes

none_at : (p : Program) (c d : ClassParts) (domain : ℕ) (m : MemberInfo) → AllAt p c d domain m []
none_at p c d domain m = tt

join : (p : Program) (c d : ClassParts) (domain : ℕ) (m : MemberInfo) (xs ys : List Attribute) → AllAt p c d domain m xs → AllAt p c d domain m ys → AllAt p c d domain m (xs ++ ys)
join p c d domain m [] ys h k = k
join p c d domain m (x ∷ xs) ys h k = (h.0, join p c d domain m xs ys h.1 k)

attributes_at : (p : Program) (c d : ClassParts) (domain : ℕ) → CanBeFile p domain c → (m : MemberInfo) → IsIn m c.methods → OfMethod p c m → (xs : List Attribute)
    → ((i : ℕ) (a : Attribute) → slice_get xs i ≡ Some a → IsIn a m.attributes)
    → (pool : List Entry) → Grown c.pool pool → length (with_each (with_attribute p c domain m) xs pool).1 ≤ 65535
    → IsFront (with_each (with_attribute p c domain m) xs pool).1 d.pool
    → AllAt p c d domain m (with_each (with_attribute p c domain m) xs pool).0
unfolding with_each ◌>>◌
attributes_at p c d domain can m here o [] there pool g few later = none_at p c d domain m
attributes_at p c d domain can m here o (a ∷ xs) there pool g few later =
    let x = with_attribute p c domain m a pool in
    let y = with_each (with_attribute p c domain m) xs x.1 in
    let grown = (each_grows (with_attribute p c domain m) (attribute_grows p c domain m) xs).on x.1 in
    let le : length x.1 ≤ length y.1 = front_length x.1 y.1 grown in
    let is = there 0 a refl in
    let one = attribute_at p c d domain m o a is pool g (omega arith) (front_on x.1 y.1 d.pool grown later) in
    let sound = put_attribute p c domain m a pool g o.begins (λ b e. code_calls p c b
    (record { good = can.good; method = m; attribute = a; in_class = here; in_method = is; is_body = e }) can.room) (omega arith) in
    let next : Grown c.pool x.1 = record { front = front_on c.pool pool x.1 g.front ((attribute_grows p c domain m a).on pool); before = g.before; sound = sound } in
    join p c d domain m x.0 y.0 one (attributes_at p c d domain can m here o xs (λ i b at. there (suc i) b at) x.1 next few later)

abbrev pub MethodsAt : Program → ClassParts → ClassParts → ℕ → List MemberInfo → List MemberInfo → Type 0
MethodsAt p c d domain [] [] = Unit {0}
MethodsAt p c d domain (m ∷ ms) (n ∷ ns) = AllAt p c d domain m n.attributes × MethodsAt p c d domain ms ns
MethodsAt p c d domain _ _ = ⊥

methods_at : (p : Program) (c d : ClassParts) (domain : ℕ) → CanBeFile p domain c → ((m : MemberInfo) → IsIn m c.methods → OfMethod p c m) → (ms : List MemberInfo)
    → ((i : ℕ) (m : MemberInfo) → slice_get ms i ≡ Some m → IsIn m c.methods)
    → (pool : List Entry) → Grown c.pool pool → length (with_each (with_method p c domain) ms pool).1 ≤ 65535 → IsFront (with_each (with_method p c domain) ms pool).1 d.pool
    → MethodsAt p c d domain ms (with_each (with_method p c domain) ms pool).0
unfolding with_each ◌>>◌ with_method
methods_at p c d domain can of [] there pool g few later = tt
methods_at p c d domain can of (m ∷ ms) there pool g few later =
    let desc = new_desc c m in
    let w = with_text desc pool in
    let x = with_method p c domain m pool in
    let y = with_each (with_method p c domain) ms x.1 in
    let inner = (each_grows (with_attribute p c domain m) (attribute_grows p c domain m) m.attributes).on w.1 in
    let grown = (each_grows (with_method p c domain) (method_grows p c domain) ms).on x.1 in
    let less : length w.1 ≤ length x.1 = front_length w.1 x.1 inner in
    let le : length x.1 ≤ length y.1 = front_length x.1 y.1 grown in
    let is = there 0 m refl in
    let q = put_text desc pool g.sound (new_text c m can.good g.before is (can.short m is)) (omega arith) in
    let begun : Grown c.pool w.1 = record { front = front_on c.pool pool w.1 g.front (entry_front (Utf8 desc) pool); before = g.before; sound = q.sound } in
    let all = attributes_at p c d domain can m is (of m is) m.attributes (λ i a at. (i, at)) w.1 begun (omega arith) (front_on x.1 y.1 d.pool grown later) in
    let sound = put_method p c domain m pool (movable_of p domain c can) is g (omega arith) in
    let next : Grown c.pool x.1 = record { front = front_on c.pool pool x.1 g.front ((method_grows p c domain m).on pool); before = g.before; sound = sound } in
    (all, methods_at p c d domain can of ms (λ i n at. there (suc i) n at) x.1 next few later)

pub class_at : (p : Program) (c : ClassParts) (domain : ℕ) → CanBeFile p domain c → ((m : MemberInfo) → IsIn m c.methods → OfMethod p c m)
    → MethodsAt p c (moved_class p domain c) domain c.methods (moved_class p domain c).methods
unfolding moved_class
class_at p c domain can of =
    let x = with_each (with_method p c domain) c.methods c.pool in
    let s = sound_of c can.good in
    methods_at p c (moved_class p domain c) domain can of c.methods (λ i m at. (i, at)) c.pool (record { front = front_self c.pool; before = s; sound = s })
    (few_in p domain c can.none) (front_self x.1)
