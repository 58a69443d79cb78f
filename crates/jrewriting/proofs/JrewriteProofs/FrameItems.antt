-- The classes that moved frames name: those of `this` and of the parameters, those that the frames named, and the class of contexts.
use Rattle.std.proofs.Common.{◌≡◌, ℕ, zero, suc, ◌+◌, ◌-◌, ◌≤◌, Bool, true, false, cond, List, [], ◌∷◌, ◌++◌, length, map, replicate, take, Option, Some, None, Result, Ok, Err, refl, sym, subst, arith}
use Rattle.std.specs.Prelude.{IsTrue, nat_le, nat_lt, ◌==◌, if◌then◌else◌, ok_or}
use Rattle.std.specs.List.{AllByRecursion}
use Rattle.std.specs.Str.{byte}
use Rattle.jground.specs.jbase.MemoryFailures.{◌>>=◌}
use Rattle.jparts.specs.declared.jpool.descriptor.FieldType.{FieldType}
use Rattle.jparts.specs.declared.jpool.entry.Entry.{Entry}
use Rattle.jparts.specs.jpool.ConstantPools.{class_name_at}
use Rattle.jclass.specs.declared.class.ClassParts.{ClassParts}
use Rattle.jclass.specs.declared.class.CodeBody.{CodeBody}
use Rattle.jclass.specs.declared.class.MemberInfo.{MemberInfo}
use Rattle.jparts.specs.declared.jmaps.types.FullFrame.{FullFrame}
use Rattle.jparts.specs.declared.jmaps.types.MapType.{MapType}
use Rattle.jparts.specs.declared.jmaps.types.MapType.TheVariants as items
use Rattle.jparts.specs.declared.jmaps.types.RawFrame.{RawFrame}
use Rattle.jparts.specs.jmaps.ExpandedFrames.{expand_from, full_forms, locals_after, locals_before, place_behind, with_locals}
use Rattle.jmove.specs.PoolAdditions.{IsFront, giving, with_class, ◌>>◌}
use Rattle.jmove.specs.MovedFrames.{moved_frame, moved_type, widths}
use Rattle.jmove.specs.ProofNames.{unsaid}
use Rattle.jresolution.specs.jprogram.ClassFileParts.{is_static, this_name}
use Rattle.jmoveclass.specs.EntryLocals.{class_name, is_reference, item, params_of, this_item, with_beginning, with_item, with_this}
use Rattle.jresolution.specs.jprogram.MemberResolution.{is_init}
use Rattle.jmoveclass.specs.MovedMembers.{frames_of, with_first}
use Rattle.jmoveclass.specs.ProofNames.{or_none}
use Rattle.jmoveclass.specs.PoolPuts.{with_each}
use Rattle.jmoveclass.proofs.PoolStability.{class_name_stays}
use Rattle.jmoveclass.proofs.Growth.{item_grows}
use Rattle.jmoveclass.proofs.ItemAdditions.{each_grows}
use Rattle.jrewriting.proofs.JmoveclassLawsProofs.PrologueClasses.{Begins, reference_item, other_item}
use Rattle.jrewriting.proofs.JmoveclassLawsProofs.SoundPools.{IsSound, IsText, front_length, put_class}
use Rattle.jrewriting.proofs.JmoveclassLawsProofs.Texts.{IsTypeText, class_text, is_named}
use Rattle.jclass.specs.CodeFormat.{frames_in}

-- ---- items whose classes are such

-- the class of an item has a name of which this holds
abbrev pub Names : (List ℕ → Type 0) → List Entry → MapType → Type 0
Names Q pool (items.Object n) = (name : List ℕ) × ((class_name_at pool n ≡ Some name) × Q name)
Names Q pool items.Top = Unit {0}
Names Q pool items.Int = Unit {0}
Names Q pool items.Long = Unit {0}
Names Q pool items.Null = Unit {0}
Names Q pool items.UninitThis = Unit {0}
Names Q pool (items.Uninit o) = Unit {0}

abbrev pub AllName : (List ℕ → Type 0) → List Entry → List MapType → Type 0
AllName Q pool [] = Unit {0}
AllName Q pool (t ∷ ts) = Names Q pool t × AllName Q pool ts

name_on : (Q : List ℕ → Type 0) (pool whole : List Entry) → IsFront pool whole → (t : MapType) → Names Q pool t → Names Q whole t
name_on Q pool whole f (items.Object n) h = (h.0, (class_name_stays pool whole f n h.0 h.1.0, h.1.1))
name_on Q pool whole f items.Top h = tt
name_on Q pool whole f items.Int h = tt
name_on Q pool whole f items.Long h = tt
name_on Q pool whole f items.Null h = tt
name_on Q pool whole f items.UninitThis h = tt
name_on Q pool whole f (items.Uninit o) h = tt

pub names_on : (Q : List ℕ → Type 0) (pool whole : List Entry) → IsFront pool whole → (ts : List MapType) → AllName Q pool ts → AllName Q whole ts
names_on Q pool whole f [] h = tt
names_on Q pool whole f (t ∷ ts) h = (name_on Q pool whole f t h.0, names_on Q pool whole f ts h.1)

join : (Q : List ℕ → Type 0) (pool : List Entry) (ts us : List MapType) → AllName Q pool ts → AllName Q pool us → AllName Q pool (ts ++ us)
join Q pool [] us h k = k
join Q pool (t ∷ ts) us h k = (h.0, join Q pool ts us h.1 k)

first_ones : (Q : List ℕ → Type 0) (pool : List Entry) (n : ℕ) (ts : List MapType) → AllName Q pool ts → AllName Q pool (take n ts)
first_ones Q pool zero ts h = tt
first_ones Q pool (suc n) [] h = tt
first_ones Q pool (suc n) (t ∷ ts) h = (h.0, first_ones Q pool n ts h.1)

-- ---- what a method begins with

-- what holds of the classes of references
abbrev pub Holds : (List ℕ → Type 0) → List FieldType → Type 0
Holds Q ts = AllByRecursion (λ t. is_reference t ≡ true → Q (class_name t)) ts

abbrev other : FieldType → MapType
other t = if t.base == byte "J" then items.Long else items.Int

abbrev IsPut : (List ℕ → Type 0) → List MapType × List Entry → Type 0
IsPut Q x = IsSound x.1 × AllName Q x.1 x.0

number_names : (Q : List ℕ → Type 0) (pool : List Entry) (b : Bool) → Names Q pool (if b then items.Long else items.Int)
number_names Q pool true = tt
number_names Q pool false = tt

put_item_by : (Q : List ℕ → Type 0) (t : FieldType) (b : Bool) (pool : List Entry) → is_reference t ≡ b → IsSound pool → IsTypeText t → length (class_name t) ≤ 65535 → (is_reference t ≡ true → Q (class_name t))
    → length ((if b then (with_class (class_name t) >> λ i. giving (item i t ∷ [])) else giving (item 0 t ∷ [])) pool).1 ≤ 65535
    → IsPut Q ((if b then (with_class (class_name t) >> λ i. giving (item i t ∷ [])) else giving (item 0 t ∷ [])) pool)
unfolding ◌>>◌
put_item_by Q t true pool e s text short holds few =
    let n = class_text t text e short in
    let k = put_class (class_name t) pool s n.0 n.1 few in
    let x = with_class (class_name t) pool in
    let there : Names Q x.1 (items.Object x.0) = (class_name t, (k.named, holds e)) in
    (k.sound, (subst (λ (m : MapType). Names Q x.1 m) (sym (reference_item (is_reference t) x.0 (other t) e)) there, tt))
put_item_by Q t false pool e s text short holds few =
    (s, (subst (λ (m : MapType). Names Q pool m) (sym (other_item (is_reference t) 0 (other t) e)) (number_names Q pool (t.base == byte "J")), tt))

put_items : (Q : List ℕ → Type 0) (ts : List FieldType) (pool : List Entry) → IsSound pool → AllByRecursion IsTypeText ts → AllByRecursion (λ t. length (class_name t) ≤ 65535) ts → Holds Q ts → length (with_each with_item ts pool).1 ≤ 65535
    → IsPut Q (with_each with_item ts pool)
unfolding with_each ◌>>◌
put_items Q [] pool s texts short holds few = (s, tt)
put_items Q (t ∷ ts) pool s texts short holds few =
    let x = with_item t pool in
    let y = with_each with_item ts x.1 in
    let later = (each_grows with_item item_grows ts).on x.1 in
    let le : length x.1 ≤ length y.1 = front_length x.1 y.1 later in
    let one = put_item_by Q t (is_reference t) pool refl s texts.0 short.0 holds.0 (omega arith) in
    let others = put_items Q ts x.1 one.0 texts.1 short.1 holds.1 few in
    (others.0, join Q y.1 x.0 y.0 (names_on Q x.1 y.1 later x.0 one.1) others.1)

this_by : (Q : List ℕ → Type 0) (init : Bool) (pool : List Entry) (n : ℕ) (name : List ℕ) → class_name_at pool n ≡ Some name → Q name → Names Q pool (this_item init n)
this_by Q true pool n name at h = tt
this_by Q false pool n name at h = (name, (at, h))

put_this_by : (Q : List ℕ → Type 0) (b : Bool) (c : ClassParts) (m : MemberInfo) (pool : List Entry) → IsSound pool → IsText (this_name c) → IsTrue (is_named (this_name c)) → Q (this_name c)
    → length ((if b then giving [] else with_class (this_name c) >> λ i. giving (this_item (is_init c m) i ∷ [])) pool).1 ≤ 65535
    → IsPut Q ((if b then giving [] else with_class (this_name c) >> λ i. giving (this_item (is_init c m) i ∷ [])) pool)
unfolding ◌>>◌
put_this_by Q true c m pool s t n holds few = (s, tt)
put_this_by Q false c m pool s t n holds few =
    let k = put_class (this_name c) pool s t n few in
    let x = with_class (this_name c) pool in
    (k.sound, (this_by Q (is_init c m) x.1 x.0 (this_name c) k.named holds, tt))

put_beginning : (Q : List ℕ → Type 0) (c : ClassParts) (m : MemberInfo) (pool : List Entry) → IsSound pool → Begins c m → Q (this_name c) → Holds Q (params_of c m) → length (with_beginning c m pool).1 ≤ 65535 → IsPut Q (with_beginning c m pool)
unfolding with_beginning ◌>>◌
put_beginning Q c m pool s b this holds few =
    let x = with_this c m pool in
    let y = with_each with_item (params_of c m) x.1 in
    let later = (each_grows with_item item_grows (params_of c m)).on x.1 in
    let le : length x.1 ≤ length y.1 = front_length x.1 y.1 later in
    let one = put_this_by Q (is_static m.flags) c m pool s b.this b.named this (omega arith) in
    let others = put_items Q (params_of c m) x.1 one.0 b.texts b.short holds few in
    (others.0, join Q y.1 x.0 y.0 (names_on Q x.1 y.1 later x.0 one.1) others.1)

-- where there are frames
abbrev pub HoldsFirst : (List ℕ → Type 0) → ClassParts → MemberInfo → List RawFrame → Type 0
HoldsFirst Q c m [] = Unit {0}
HoldsFirst Q c m (f ∷ fs) = Holds Q (params_of c m)

pub put_first : (Q : List ℕ → Type 0) (c : ClassParts) (m : MemberInfo) (fs : List RawFrame) (pool : List Entry) → IsSound pool → Begins c m → Q (this_name c) → HoldsFirst Q c m fs → length (with_first c m fs pool).1 ≤ 65535 → IsPut Q (with_first c m fs pool)
put_first Q c m [] pool s b this holds few = (s, tt)
put_first Q c m (f ∷ fs) pool s b this holds few = put_beginning Q c m pool s b this holds few

-- ---- frames in full

abbrev pub AllFull : (List ℕ → Type 0) → List Entry → List FullFrame → Type 0
AllFull Q pool fs = AllByRecursion (λ f. AllName Q pool f.locals × AllName Q pool f.stack) fs

abbrev pub AllRaw : (List ℕ → Type 0) → List Entry → List RawFrame → Type 0
AllRaw Q pool fs = AllByRecursion (λ f. AllName Q pool f.locals × AllName Q pool f.stack) fs

pub raw_on : (Q : List ℕ → Type 0) (pool whole : List Entry) → IsFront pool whole → (fs : List RawFrame) → AllRaw Q pool fs → AllRaw Q whole fs
raw_on Q pool whole f [] h = tt
raw_on Q pool whole f (x ∷ fs) h = ((names_on Q pool whole f x.locals h.0.0, names_on Q pool whole f x.stack h.0.1), raw_on Q pool whole f fs h.1)

abbrev SomeName : (List ℕ → Type 0) → List Entry → Option (List MapType) → Type 0
SomeName Q pool None = Unit {0}
SomeName Q pool (Some ts) = AllName Q pool ts

some_cond : (Q : List ℕ → Type 0) (pool : List Entry) (b : Bool) (x y : Option (List MapType)) → SomeName Q pool x → SomeName Q pool y → SomeName Q pool (cond b x y)
some_cond Q pool true x y h k = h
some_cond Q pool false x y h k = k

after_names : (Q : List ℕ → Type 0) (pool : List Entry) (form : ℕ) (written before : List MapType) → AllName Q pool written → AllName Q pool before → SomeName Q pool (locals_after form written before)
unfolding locals_after
after_names Q pool form written before h k =
    let n = 251 - form in
    some_cond Q pool (nat_lt form 248) _ _ k
    (some_cond Q pool (nat_lt form 251) _ _ (some_cond Q pool (nat_le n (length before)) (Some (take (length before - n) before)) None (first_ones Q pool (length before - n) before k) tt)
    (some_cond Q pool (nat_lt form 252) _ _ k
    (some_cond Q pool (nat_lt form 255) _ _ (join Q pool before written k h) h)))

abbrev OfResult : (List ℕ → Type 0) → List Entry → Result (List FullFrame) ℕ → Type 0
OfResult Q pool (Ok fs) = AllFull Q pool fs
OfResult Q pool (Err i) = Unit {0}

more_names : (Q : List ℕ → Type 0) (pool : List Entry) (f : FullFrame) (r : Result (List FullFrame) ℕ) → AllName Q pool f.locals → AllName Q pool f.stack → OfResult Q pool r → OfResult Q pool (r >>= λ fs. Ok (f ∷ fs))
more_names Q pool f (Ok fs) h k g = ((h, k), g)
more_names Q pool f (Err i) h k g = tt

one_frame : (Q : List ℕ → Type 0) (pool : List Entry) (first : List MapType) (i : ℕ) (e : Option FullFrame) (f : RawFrame) (fs : List RawFrame) (ts : Option (List MapType)) → SomeName Q pool ts → AllName Q pool f.stack
    → ((locals : List MapType) → AllName Q pool locals → OfResult Q pool (expand_from first (i + 1) (Some (record { at = place_behind e f.delta; locals = locals; stack = f.stack })) fs))
    → OfResult Q pool (ok_or (with_locals e f ts) i >>= λ full. expand_from first (i + 1) (Some full) fs >>= λ others. Ok (full ∷ others))
one_frame Q pool first i e f fs None h k more = tt
one_frame Q pool first i e f fs (Some locals) h k more =
    let full : FullFrame = record { at = place_behind e f.delta; locals = locals; stack = f.stack } in
    more_names Q pool full (expand_from first (i + 1) (Some full) fs) h k (more locals h)

expand_names : (Q : List ℕ → Type 0) (pool : List Entry) (first : List MapType) (i : ℕ) (e : Option FullFrame) (fs : List RawFrame) → AllName Q pool (locals_before first e) → AllRaw Q pool fs → OfResult Q pool (expand_from first i e fs)
unfolding expand_from
expand_names Q pool first i e [] h k = tt
expand_names Q pool first i e (f ∷ fs) h k =
    one_frame Q pool first i e f fs (locals_after f.form f.locals (locals_before first e)) (after_names Q pool f.form f.locals (locals_before first e) k.0.0 h) k.0.1
    (λ locals g. expand_names Q pool first (i + 1) (Some (record { at = place_behind e f.delta; locals = locals; stack = f.stack })) fs g k.1)

all_of : (Q : List ℕ → Type 0) (pool : List Entry) (r : Result (List FullFrame) ℕ) → OfResult Q pool r → AllFull Q pool (or_none r)
all_of Q pool (Ok fs) h = h
all_of Q pool (Err i) h = tt

pub full_names : (Q : List ℕ → Type 0) (pool : List Entry) (first : List MapType) (b : CodeBody) → AllName Q pool first → AllRaw Q pool (frames_in b) → AllFull Q pool (frames_of first b)
unfolding frames_of
full_names Q pool first b h k = all_of Q pool (expand_from first 0 None (frames_in b)) (expand_names Q pool first 0 None (frames_in b) h k)

-- ---- moved frames

moved_name : (Q : List ℕ → Type 0) (pool : List Entry) (to : ℕ → ℕ) (t : MapType) → Names Q pool t → Names Q pool (moved_type to t)
moved_name Q pool to (items.Object n) h = h
moved_name Q pool to items.Top h = tt
moved_name Q pool to items.Int h = tt
moved_name Q pool to items.Long h = tt
moved_name Q pool to items.Null h = tt
moved_name Q pool to items.UninitThis h = tt
moved_name Q pool to (items.Uninit o) h = tt

moved_names : (Q : List ℕ → Type 0) (pool : List Entry) (to : ℕ → ℕ) (ts : List MapType) → AllName Q pool ts → AllName Q pool (map (moved_type to) ts)
moved_names Q pool to [] h = tt
moved_names Q pool to (t ∷ ts) h = (moved_name Q pool to t h.0, moved_names Q pool to ts h.1)

tops : (Q : List ℕ → Type 0) (pool : List Entry) (n : ℕ) → AllName Q pool (replicate n items.Top)
tops Q pool zero = tt
tops Q pool (suc n) = (tt, tops Q pool n)

pub moved_full : (Q : List ℕ → Type 0) (pool : List Entry) (to : ℕ → ℕ) (local context : ℕ) (fs : List FullFrame) → Names Q pool (items.Object context) → AllFull Q pool fs → AllFull Q pool (map (moved_frame to local context) fs)
moved_full Q pool to local context [] is h = tt
moved_full Q pool to local context (f ∷ fs) is h =
    let behind = join Q pool (unsaid local f.locals) (items.Object context ∷ []) (tops Q pool (local - widths f.locals)) (is, tt) in
    ((join Q pool (map (moved_type to) f.locals) (unsaid local f.locals ++ items.Object context ∷ []) (moved_names Q pool to f.locals h.0.0) behind, moved_names Q pool to f.stack h.0.1), moved_full Q pool to local context fs is h.1)

pub written_full : (Q : List ℕ → Type 0) (pool : List Entry) (e : Option ℕ) (fs : List FullFrame) → AllFull Q pool fs → AllRaw Q pool (full_forms e fs)
unfolding full_forms
written_full Q pool e [] h = tt
written_full Q pool e (f ∷ fs) h = (h.0, written_full Q pool (Some f.at) fs h.1)
