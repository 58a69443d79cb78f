-- No descriptor and no pool names an object before its `<init>`.
use Rattle.std.proofs.Common.{◌≡◌, ℕ, zero, suc, ◌+◌, ◌^◌, Bool, true, false, List, [], ◌∷◌, Option, Some, None, refl, ap, subst, ◌∙◌}
use Rattle.std.specs.Prelude.{◌&&◌, ◌||◌, ◌==◌, IfSome, nat_lt, option_map, option_and_then, slice_get, if◌then◌else◌}
use Rattle.std.specs.List.{list_any}
use Rattle.jground.specs.jbase.ListMaps.{each_some, put_front}
use Rattle.jparts.specs.declared.jpool.descriptor.Descriptor.{Descriptor}
use Rattle.jparts.specs.declared.jpool.descriptor.Descriptor.TheVariants as descriptors
use Rattle.jparts.specs.declared.jpool.descriptor.FieldType.{FieldType}
use Rattle.jparts.specs.declared.jpool.entry.Entry.{Entry}
use Rattle.jparts.specs.declared.jpool.entry.Entry.TheVariants as entries
use Rattle.jparts.specs.jpool.Descriptors.{descriptor_of}
use Rattle.jparts.specs.jpool.ConstantPools.{name_and_type_at, utf8_at}
use Rattle.jparts.specs.declared.jcode.op_form.PoolForm.{PoolForm}
use Rattle.jparts.specs.declared.jcode.op_form.PoolForm.TheVariants as forms
use Rattle.jtypes.specs.declared.vtype.Name.{Name}
use Rattle.jtypes.specs.declared.vtype.Element.{Element}
use Rattle.jtypes.specs.declared.vtype.Element.TheVariants as elements
use Rattle.jtypes.specs.declared.vtype.VType.{VType}
use Rattle.jtypes.specs.declared.vtype.VType.TheVariants.{Top, Int, Long, Null, UninitThis, Uninit, Object, Array, Ctx}
use Rattle.jtypes.specs.DescriptorElements.{in_brackets}
use Rattle.jresolution.specs.declared.jprogram.member.Member.{Member}
use Rattle.jresolution.specs.jprogram.ProgramClasses.{Program}
use Rattle.jresolution.specs.jprogram.MemberResolution.{resolve_field, resolve_method}
use Rattle.jresolution.specs.juses.InstructionMeanings as meanings
use Rattle.jresolution.specs.juses.InstructionMeanings.{AClass, AConstant, AField, AMethod, CallMeaning, EntryMeaning, Meaning, Reference, array_meant, call_as, call_meant, class_at, entry_meant, field_as, field_meant, meant, reference, used}
use Rattle.jresolution.specs.ProofNames.{array_made, as_class, held}
use Rattle.jresolution.specs.juses.DescriptorTypes.{Called, Held, Typed, Untyped, array_over, called, class_by, class_of, class_type, element_in, is_context, name, return_in, there, type_in, type_of, typed, typed_as}
use Rattle.jtyping.specs.jrule.FrameExtension.{is_unready}
use Rattle.jtyping.proofs.JruleProofs.TypeSubstitution.{any_reversed}

-- ---- types

-- it is no object before its `<init>`
abbrev pub Settled : VType → Type 0
Settled a = is_unready a ≡ false

abbrev pub AreSettled : List VType → Type 0
AreSettled xs = list_any is_unready xs ≡ false

abbrev pub MaySettle : Option VType → Type 0
MaySettle o = IfSome o Settled

pub more_settled : (a : VType) (xs : List VType) → Settled a → AreSettled xs → AreSettled (a ∷ xs)
more_settled a xs h k = ap (λ (b : Bool). b || list_any is_unready xs) h ∙ k

pub first_settled : (a : VType) (xs : List VType) → AreSettled (a ∷ xs) → Settled a
first_settled a xs h = go (is_unready a) (list_any is_unready xs) h
  where
    go : (b c : Bool) → (b || c) ≡ false → b ≡ false
    go true c e = absurd cc
    go false c e = refl

pub rest_settled : (a : VType) (xs : List VType) → AreSettled (a ∷ xs) → AreSettled xs
rest_settled a xs h = go (is_unready a) (list_any is_unready xs) h
  where
    go : (b c : Bool) → (b || c) ≡ false → c ≡ false
    go true c e = absurd cc
    go false c e = e

alone_settled : (x : Element) → Settled (in_brackets zero x)
alone_settled elements.Boolean = refl
alone_settled elements.Char = refl
alone_settled elements.Byte = refl
alone_settled elements.Short = refl
alone_settled elements.Int = refl
alone_settled elements.Long = refl
alone_settled (elements.Class c) = refl

pub brackets_settled : (d : ℕ) (x : Element) → Settled (in_brackets d x)
brackets_settled zero x = alone_settled x
brackets_settled (suc d) x = refl

type_settled : (d : ℕ) (x : Element) → Settled (type_of d x)
type_settled d x = go (d == 0 && is_context x)
  where
    go : (b : Bool) → Settled (if b then Ctx else in_brackets d x)
    go true = refl
    go false = brackets_settled d x

-- ---- what there may be

pub map_some : {A B : Type 0} (P : B → Type 0) (g : A → B) (o : Option A) → ((a : A) → P (g a)) → IfSome (option_map g o) P
map_some P g None h = tt
map_some P g (Some a) h = h a

pub then_some : {A B : Type 0} (P : B → Type 0) (g : A → Option B) (o : Option A) → ((a : A) → IfSome (g a) P) → IfSome (option_and_then g o) P
then_some P g None h = tt
then_some P g (Some a) h = h a

-- the same, of what something is known
pub map_some_by : {A B : Type 0} (Q : A → Type 0) (P : B → Type 0) (g : A → B) (o : Option A) → IfSome o Q → ((a : A) → Q a → P (g a)) → IfSome (option_map g o) P
map_some_by Q P g None q h = tt
map_some_by Q P g (Some a) q h = h a q

pub then_some_by : {A B : Type 0} (Q : A → Type 0) (P : B → Type 0) (g : A → Option B) (o : Option A) → IfSome o Q → ((a : A) → Q a → IfSome (g a) P)
    → IfSome (option_and_then g o) P
then_some_by Q P g None q h = tt
then_some_by Q P g (Some a) q h = h a q

some_is : {A : Type 0} (x y : A) → Some x ≡ Some y → x ≡ y
some_is x y e = cc

pub some_by : {A : Type 0} (P : A → Type 0) (o : Option A) (a : A) → IfSome o P → o ≡ Some a → P a
some_by P None a h e = absurd cc
some_by P (Some b) a h e = subst P (some_is b a e) h

-- ---- descriptors

field_type_settled : (p : Program) (t : FieldType) → MaySettle (type_in p t)
unfolding type_in
field_type_settled p t = map_some Settled (type_of t.depth) (element_in p t) (λ x. type_settled t.depth x)

class_of_settled : (p : Program) (text : List ℕ) → MaySettle (option_map class_of (there p text))
class_of_settled p text = map_some Settled class_of (there p text) (λ c. type_settled 0 (elements.Class c))

pub class_type_settled : (p : Program) (text : List ℕ) → MaySettle (class_type p text)
unfolding class_type
class_type_settled p text = go (descriptor_of text)
  where
    either : (b : Bool) (t : FieldType) → MaySettle (if b then type_in p t else option_map class_of (there p text))
    either true t = field_type_settled p t
    either false t = class_of_settled p text

    go : (d : Option Descriptor) → MaySettle (class_by p text d)
    go None = class_of_settled p text
    go (Some (descriptors.Field t)) = either (nat_lt 0 t.depth) t
    go (Some (descriptors.Method params ret)) = class_of_settled p text

over_settled : (t : VType) → MaySettle (array_over t)
unfolding array_over
over_settled (Object c) = refl
over_settled (Array a) = go (nat_lt (a.depth + 1) (2 ^ 32))
  where
    go : (b : Bool) → MaySettle (if b then Some (Array (record { depth = a.depth + 1; element = a.element })) else None)
    go true = refl
    go false = tt
over_settled Top = tt
over_settled Int = tt
over_settled Long = tt
over_settled Null = tt
over_settled UninitThis = tt
over_settled (Uninit o) = tt
over_settled Ctx = tt

-- what a descriptor says
abbrev pub SettledTyped : Typed → Type 0
SettledTyped Untyped = Unit {0}
SettledTyped (Held t) = Settled t
SettledTyped (Called params ret) = AreSettled params × MaySettle ret

params_settled : (p : Program) (ts : List FieldType) → IfSome (each_some (type_in p) ts) AreSettled
unfolding each_some
params_settled p [] = refl
params_settled p (t ∷ ts) = go (type_in p t) (each_some (type_in p) ts) (field_type_settled p t) (params_settled p ts)
  where
    go : (o : Option VType) (os : Option (List VType)) → MaySettle o → IfSome os AreSettled → IfSome (put_front o os) AreSettled
    go None os h k = tt
    go (Some a) None h k = tt
    go (Some a) (Some xs) h k = more_settled a xs h k

return_settled : (p : Program) (ret : Option FieldType) → IfSome (return_in p ret) MaySettle
return_settled p None = tt
return_settled p (Some t) = map_some_by Settled MaySettle Some (type_in p t) (field_type_settled p t) (λ a h. h)

called_settled : (params : Option (List VType)) (ret : Option (Option VType)) → IfSome params AreSettled → IfSome ret MaySettle → SettledTyped (called params ret)
called_settled (Some params) (Some ret) h k = (any_reversed is_unready params ∙ h, k)
called_settled (Some params) None h k = tt
called_settled None ret h k = tt

held_settled : (o : Option VType) → MaySettle o → SettledTyped (held o)
held_settled None h = tt
held_settled (Some t) h = h

pub typed_settled : (p : Program) (text : List ℕ) → SettledTyped (typed p text)
unfolding typed
typed_settled p text = go (descriptor_of text)
  where
    go : (d : Option Descriptor) → SettledTyped (typed_as p d)
    go None = tt
    go (Some (descriptors.Field t)) = held_settled (type_in p t) (field_type_settled p t)
    go (Some (descriptors.Method params ret)) = called_settled (each_some (type_in p) params) (return_in p ret) (params_settled p params) (return_settled p ret)

-- ---- entries

abbrev pub SettledCall : CallMeaning → Type 0
SettledCall c = AreSettled c.params × MaySettle c.ret

abbrev pub SettledEntry : EntryMeaning → Type 0
SettledEntry (AConstant x) = Unit {0}
SettledEntry (AClass t) = Settled t
SettledEntry (AField f) = Settled f.held
SettledEntry (AMethod b c) = SettledCall c

field_settled : (owner : Name) (m : Option Member) (t : Typed) → SettledTyped t → IfSome (field_as owner m t) (λ f. Settled f.held)
field_settled owner None t h = tt
field_settled owner (Some m) (Held t) h = h
field_settled owner (Some m) Untyped h = tt
field_settled owner (Some m) (Called params ret) h = tt

call_settled : (owner : Name) (m : Option Member) (t : Typed) → SettledTyped t → IfSome (call_as owner m t) SettledCall
call_settled owner None t h = tt
call_settled owner (Some m) (Called params ret) h = h
call_settled owner (Some m) Untyped h = tt
call_settled owner (Some m) (Held t) h = tt

a_field : (p : Program) (r : Reference) → IfSome (option_map AField (field_meant p r)) SettledEntry
unfolding field_meant
a_field p r = map_some_by (λ f. Settled f.held) SettledEntry AField (field_meant p r)
    (field_settled (name r.owner) (resolve_field p r.owner r.name r.desc) (typed p r.desc) (typed_settled p r.desc)) (λ f h. h)

a_method : (p : Program) (b : Bool) (r : Reference) → IfSome (option_map (AMethod b) (call_meant p r)) SettledEntry
unfolding call_meant
a_method p b r = map_some_by SettledCall SettledEntry (AMethod b) (call_meant p r)
    (call_settled (name r.owner) (resolve_method p r.owner r.name r.desc) (typed p r.desc) (typed_settled p r.desc)) (λ c h. h)

pub entry_settled : (p : Program) (pool : List Entry) (e : Option Entry) → IfSome (entry_meant p pool e) SettledEntry
unfolding entry_meant
entry_settled p pool None = tt
entry_settled p pool (Some (entries.Integer n)) = tt
entry_settled p pool (Some (entries.Long n)) = tt
entry_settled p pool (Some (entries.Str i)) = tt
entry_settled p pool (Some (entries.Class i)) =
    map_some_by Settled SettledEntry AClass (option_and_then (class_type p) (utf8_at pool i)) (then_some Settled (class_type p) (utf8_at pool i) (class_type_settled p)) (λ t h. h)
entry_settled p pool (Some (entries.Field class both)) = then_some SettledEntry _ (name_and_type_at pool both) (λ b. a_field p (reference pool class b))
entry_settled p pool (Some (entries.Method class both)) = then_some SettledEntry _ (name_and_type_at pool both) (λ b. a_method p _ (reference pool class b))
entry_settled p pool (Some (entries.InterfaceMethod class both)) = then_some SettledEntry _ (name_and_type_at pool both) (λ b. a_method p _ (reference pool class b))
entry_settled p pool (Some _) = tt

-- ---- meanings

abbrev pub SettledMeaning : Meaning → Type 0
SettledMeaning (meanings.Push x) = Unit {0}
SettledMeaning (meanings.Field op f) = Settled f.held
SettledMeaning (meanings.Call by c) = SettledCall c
SettledMeaning (meanings.Make c) = Unit {0}
SettledMeaning (meanings.MakeArray t) = Settled t
SettledMeaning (meanings.Cast op t) = Settled t

used_settled : (f : PoolForm) (e : EntryMeaning) → SettledEntry e → IfSome (used f e) SettledMeaning
used_settled (forms.Constant i) (AConstant (meanings.Int n)) h = tt
used_settled (forms.Constant i) (AConstant (meanings.Long n)) h = tt
used_settled (forms.Constant i) (AConstant (meanings.Text t)) h = tt
used_settled (forms.Constant i) (AClass t) h = tt
used_settled (forms.Constant i) (AField f) h = tt
used_settled (forms.Constant i) (AMethod b c) h = tt
used_settled (forms.LongConstant i) (AConstant (meanings.Int n)) h = tt
used_settled (forms.LongConstant i) (AConstant (meanings.Long n)) h = tt
used_settled (forms.LongConstant i) (AConstant (meanings.Text t)) h = tt
used_settled (forms.LongConstant i) (AClass t) h = tt
used_settled (forms.LongConstant i) (AField f) h = tt
used_settled (forms.LongConstant i) (AMethod b c) h = tt
used_settled (forms.Field op i) (AConstant x) h = tt
used_settled (forms.Field op i) (AClass t) h = tt
used_settled (forms.Field op i) (AField f) h = h
used_settled (forms.Field op i) (AMethod b c) h = tt
used_settled (forms.Call op i) (AConstant x) h = tt
used_settled (forms.Call op i) (AClass t) h = tt
used_settled (forms.Call op i) (AField f) h = tt
used_settled (forms.Call op i) (AMethod b c) h = h
used_settled (forms.CallInterface i slots) (AConstant x) h = tt
used_settled (forms.CallInterface i slots) (AClass t) h = tt
used_settled (forms.CallInterface i slots) (AField f) h = tt
used_settled (forms.CallInterface i slots) (AMethod b c) h = h
used_settled (forms.New i) (AClass (Object c)) h = tt
used_settled (forms.New i) (AClass Top) h = tt
used_settled (forms.New i) (AClass Int) h = tt
used_settled (forms.New i) (AClass Long) h = tt
used_settled (forms.New i) (AClass Null) h = tt
used_settled (forms.New i) (AClass UninitThis) h = tt
used_settled (forms.New i) (AClass (Uninit o)) h = tt
used_settled (forms.New i) (AClass (Array a)) h = tt
used_settled (forms.New i) (AClass Ctx) h = tt
used_settled (forms.New i) (AConstant x) h = tt
used_settled (forms.New i) (AField f) h = tt
used_settled (forms.New i) (AMethod b c) h = tt
used_settled (forms.Cast op i) (AConstant x) h = tt
used_settled (forms.Cast op i) (AClass t) h = h
used_settled (forms.Cast op i) (AField f) h = tt
used_settled (forms.Cast op i) (AMethod b c) h = tt

pub meant_settled : (p : Program) (pool : List Entry) (f : PoolForm) → IfSome (meant p pool f) SettledMeaning
unfolding meant
meant_settled p pool f =
    let e = slice_get pool (meanings.index_of f) in
    then_some_by SettledEntry SettledMeaning (used f) (entry_meant p pool e) (entry_settled p pool e) (used_settled f)

array_settled : (e : EntryMeaning) → IfSome (array_made e) SettledMeaning
array_settled (AClass t) = map_some_by Settled SettledMeaning meanings.MakeArray (array_over t) (over_settled t) (λ a h. h)
array_settled (AConstant x) = tt
array_settled (AField f) = tt
array_settled (AMethod b c) = tt

pub array_meant_settled : (p : Program) (pool : List Entry) (i : ℕ) → IfSome (array_meant p pool i) SettledMeaning
unfolding array_meant
array_meant_settled p pool i = then_some SettledMeaning array_made (entry_meant p pool (slice_get pool i)) array_settled

class_settled : (e : EntryMeaning) → SettledEntry e → MaySettle (as_class e)
class_settled (AClass t) h = h
class_settled (AConstant x) h = tt
class_settled (AField f) h = tt
class_settled (AMethod b c) h = tt

-- the class at an index
pub class_at_settled : (p : Program) (pool : List Entry) (i : ℕ) → MaySettle (class_at p pool i)
unfolding class_at
class_at_settled p pool i =
    let e = slice_get pool i in
    then_some_by SettledEntry Settled as_class (entry_meant p pool e) (entry_settled p pool e) class_settled
