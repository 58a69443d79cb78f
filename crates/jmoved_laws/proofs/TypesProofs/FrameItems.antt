-- What the items of frames stand for that a moved method begins with: `this`, where there is one, and its parameters.
use Rattle.std.proofs.Common.{◌≡◌, ℕ, zero, suc, ◌^◌, Bool, true, false, List, length, Option, Some, None, refl, sym, ap, subst, ◌∙◌, arith}
use Rattle.std.specs.Prelude.{IsTrue, IfSome, ◌&&◌, ◌||◌, ◌==◌, nat_lt, option_map, option_and_then, slice_get, if◌then◌else◌}
use Rattle.std.specs.Str.{byte}
use Rattle.std.proofs.lemmas.Bool.{eqb-true, ltb-false}
use Rattle.jground.proofs.JformatProofs.ReadingSteps.{second_true}
use Rattle.jmoveclass.specs.EntryLocals.{class_name, is_reference}
use Rattle.jrewriting.proofs.JrewriteProofs.Params.{array_named, class_named}
use Rattle.jparts.specs.declared.jpool.descriptor.Descriptor.{Descriptor}
use Rattle.jparts.specs.declared.jpool.descriptor.Descriptor.TheVariants as descriptors
use Rattle.jparts.specs.declared.jpool.descriptor.FieldType.{FieldType}
use Rattle.jparts.specs.declared.jpool.entry.Entry.{Entry}
use Rattle.jparts.specs.declared.jpool.entry.Entry.TheVariants as entries
use Rattle.jparts.specs.jpool.Descriptors.{descriptor_of, is_base, is_class_sign, is_type, type_text}
use Rattle.jparts.specs.jpool.ClassNames.{is_class_name}
use Rattle.jparts.specs.jpool.ConstantPools.{class_name_at, name_and_type_at, utf8_at}
use Rattle.jlinking.proofs.JlinkProofs.PresentValues.{map_is, then_is}
use Rattle.jparts.specs.declared.jmaps.types.MapType.TheVariants as items
use Rattle.jtypes.specs.declared.vtype.Name.{Name}
use Rattle.jtypes.specs.declared.vtype.Element.{Element}
use Rattle.jtypes.specs.declared.vtype.Element.TheVariants as elements
use Rattle.jtypes.specs.declared.vtype.VType.{VType}
use Rattle.jtypes.specs.declared.vtype.VType.TheVariants.{Int, Long, Ctx}
use Rattle.jtypes.specs.DescriptorElements.{element_of, in_brackets}
use Rattle.jtypes.specs.TypeFrames.{is_long}
use Rattle.jresolution.specs.jprogram.ProgramClasses.{Program}
use Rattle.jlinking.specs.jreferring.ClassNameAccess as names
use Rattle.jlinking.specs.jreferring.ClassNameAccess.{type_named}
use Rattle.jresolution.specs.juses.InstructionMeanings.{AClass, AConstant, AField, AMethod, EntryMeaning, call_meant, class_at, entry_meant, field_meant, reference}
use Rattle.jresolution.specs.ProofNames.{as_class}
use Rattle.jresolution.specs.juses.DescriptorTypes.{class_by, class_of, class_type, element_in, is_context, name, there, type_in, type_of}
use Rattle.jrewriting.proofs.JmoveclassLawsProofs.CallReferences.{class_entry}
use Rattle.jtyping.specs.jwelltyped.DeclaredFrames.{item}
use Rattle.jtyping.specs.jwelltyped.ProofNames.{or_top}
use Rattle.jmoved_laws.proofs.TypesProofs.WrittenFrames.{ClassesAreShort}
use Rattle.jmoved_laws.proofs.TypesProofs.InitializedTypes.{map_some, map_some_by, then_some, then_some_by}
use Rattle.jparts.specs.jpool.PoolEntries.{class_parts}

-- ---- classes are no longs

abbrev Short : VType → Type 0
Short v = is_long v ≡ false

class_short : (c : Name) → is_long (class_of c) ≡ false
class_short c = go (is_context (elements.Class c))
  where
    go : (b : Bool) → is_long (if b then Ctx else in_brackets 0 (elements.Class c)) ≡ false
    go true = refl
    go false = refl

deep_short : (d : ℕ) (x : Element) → nat_lt 0 d ≡ true → is_long (type_of d x) ≡ false
deep_short zero x h = absurd cc
deep_short (suc d) x h = go (suc d == 0 && is_context x)
  where
    go : (b : Bool) → is_long (if b then Ctx else in_brackets (suc d) x) ≡ false
    go true = refl
    go false = refl

type_short : (p : Program) (text : List ℕ) → IfSome (class_type p text) (λ v. is_long v ≡ false)
unfolding class_type type_in
type_short p text = go (descriptor_of text)
  where
    of_class : IfSome (option_map class_of (there p text)) (λ v. is_long v ≡ false)
    of_class = map_some (λ (v : VType). is_long v ≡ false) class_of (there p text) class_short

    either : (b : Bool) (t : FieldType) → nat_lt 0 t.depth ≡ b → IfSome (if b then option_map (type_of t.depth) (element_in p t) else option_map class_of (there p text))
        (λ v. is_long v ≡ false)
    either true t e = map_some (λ (v : VType). is_long v ≡ false) (type_of t.depth) (element_in p t) (λ x. deep_short t.depth x e)
    either false t e = of_class

    go : (d : Option Descriptor) → IfSome (class_by p text d) (λ v. is_long v ≡ false)
    go None = of_class
    go (Some (descriptors.Field t)) = either (nat_lt 0 t.depth) t refl
    go (Some (descriptors.Method ps ret)) = of_class

abbrev ShortEntry : EntryMeaning → Type 0
ShortEntry (AClass t) = Short t
ShortEntry (AConstant x) = Unit {0}
ShortEntry (AField f) = Unit {0}
ShortEntry (AMethod b c) = Unit {0}

entry_short : (p : Program) (pool : List Entry) (e : Option Entry) → IfSome (entry_meant p pool e) ShortEntry
unfolding entry_meant
entry_short p pool None = tt
entry_short p pool (Some (entries.Integer n)) = tt
entry_short p pool (Some (entries.Long n)) = tt
entry_short p pool (Some (entries.Str i)) = tt
entry_short p pool (Some (entries.Class i)) = map_some_by Short ShortEntry AClass (option_and_then (class_type p) (utf8_at pool i))
    (then_some Short (class_type p) (utf8_at pool i) (type_short p)) (λ t h. h)
entry_short p pool (Some (entries.Field class both)) = then_some ShortEntry _ (name_and_type_at pool both)
    (λ b. map_some ShortEntry AField (field_meant p (reference pool class b)) (λ f. tt))
entry_short p pool (Some (entries.Method class both)) = then_some ShortEntry _ (name_and_type_at pool both)
    (λ b. map_some ShortEntry (AMethod _) (call_meant p (reference pool class b)) (λ f. tt))
entry_short p pool (Some (entries.InterfaceMethod class both)) = then_some ShortEntry _ (name_and_type_at pool both)
    (λ b. map_some ShortEntry (AMethod _) (call_meant p (reference pool class b)) (λ f. tt))
entry_short p pool (Some _) = tt

as_short : (e : EntryMeaning) → ShortEntry e → IfSome (as_class e) (λ v. is_long v ≡ false)
as_short (AClass t) h = h
as_short (AConstant x) h = tt
as_short (AField f) h = tt
as_short (AMethod b c) h = tt

pub classes_short : (q : Program) (pool : List Entry) → ClassesAreShort q pool
unfolding class_at
classes_short q pool i =
    let e = slice_get pool i in
    then_some_by ShortEntry Short as_class (entry_meant q pool e) (entry_short q pool e) as_short

-- ---- the class that an entry names

as_is : (o : Option VType) → option_and_then as_class (option_map AClass o) ≡ o
as_is None = refl
as_is (Some v) = refl

pub class_at_is : (q : Program) (pool : List Entry) (i : ℕ) (text : List ℕ) → class_name_at pool i ≡ Some text → class_at q pool i ≡ class_type q text
unfolding class_name_at class_at entry_meant
class_at_is q pool i text h =
    let r = then_is (utf8_at pool) (option_and_then class_parts (slice_get pool i)) text h in
    ap (λ (o : Option Entry). option_and_then as_class (entry_meant q pool o)) (class_entry (slice_get pool i) r.0 r.1)
    ∙ ap (λ (o : Option (List ℕ)). option_and_then as_class (option_map AClass (option_and_then (class_type q) o))) r.2
    ∙ as_is (class_type q text)

named_twice : (q : Program) (o : Option Name) → option_map class_of o ≡ option_map (type_of 0) (option_map elements.Class o)
named_twice q None = refl
named_twice q (Some c) = refl

pub type_named_is : (q : Program) (text : List ℕ) → class_type q text ≡ type_in q (type_named text)
unfolding class_type type_named type_in
type_named_is q text = go (descriptor_of text)
  where
    either : (b : Bool) (t : FieldType) → (if b then type_in q t else option_map class_of (there q text)) ≡ type_in q (if b then t else names.class_type text)
    either true t = refl
    either false t = named_twice q (there q text)

    go : (d : Option Descriptor) → class_by q text d ≡ type_in q (names.array_or text d)
    go None = named_twice q (there q text)
    go (Some (descriptors.Field t)) = either (nat_lt 0 t.depth) t
    go (Some (descriptors.Method ps ret)) = named_twice q (there q text)

sign_name : (t : FieldType) → IsTrue (is_type t) → is_class_sign t.base ≡ true → is_class_name t.class ≡ true
sign_name t good sign =
    let named : IsTrue (if is_class_sign t.base then is_class_name t.class else is_base t.base && length t.class == 0) = second_true (nat_lt t.depth (2 ^ 32)) _ good in
    rw sign at named

class_same : (q : Program) (d b : ℕ) (c : List ℕ) → d ≡ 0 → b ≡ byte "L" → type_in q (names.class_type c) ≡ type_in q (record { depth = d; base = b; class = c })
class_same q d b c e f = ap (λ (n : ℕ). type_in q (record { depth = n; base = byte "L"; class = c })) (sym e)
    ∙ ap (λ (n : ℕ). type_in q (record { depth = d; base = n; class = c })) (sym f)

by_name : (q : Program) (t : FieldType) (b : Bool) → nat_lt 0 t.depth ≡ b → IsTrue (is_type t) → (b || is_class_sign t.base) ≡ true
    → type_in q (type_named (if b then type_text t else t.class)) ≡ type_in q t
by_name q t true e good r = ap (type_in q) (array_named t good e)
by_name q t false e good r =
    let none : t.depth ≡ 0 = (let le = ltb-false 0 t.depth e in omega arith) in
    ap (type_in q) (class_named t.class (sign_name t good r)) ∙ class_same q t.depth t.base t.class none (eqb-true t.base (byte "L") r)

-- of a class or an array its entry stands for its type
pub named_type : (q : Program) (t : FieldType) → IsTrue (is_type t) → is_reference t ≡ true → class_type q (class_name t) ≡ type_in q t
named_type q t good r = type_named_is q (class_name t) ∙ by_name q t (nat_lt 0 t.depth) refl good r

-- ---- numbers

-- what a letter that names no class stands for
abbrev Number : ℕ → Element → Type 0
Number letter x = (if letter == byte "J" then Long else Int) ≡ type_of 0 x

pick : (letter k : ℕ) (b : Bool) → letter == k ≡ b → (e x : Element) (rest : Option Element) → (if b then Some e else rest) ≡ Some x → Number k e
    → (rest ≡ Some x → Number letter x) → Number letter x
pick letter k true at e x rest h number more =
    let same : e ≡ x = cc in
    subst (λ (z : Element). Number letter z) same (subst (λ (n : ℕ). Number n e) (sym (eqb-true letter k at)) number)
pick letter k false at e x rest h number more = more h

letter_number : (letter : ℕ) (c : Name) (x : Element) → (letter == byte "L") ≡ false → element_of letter c ≡ Some x → Number letter x
letter_number letter c x off h =
    pick letter (byte "Z") (letter == byte "Z") refl elements.Boolean x _ h refl
    (λ h. pick letter (byte "C") (letter == byte "C") refl elements.Char x _ h refl (λ h. pick letter (byte "B") (letter == byte "B") refl elements.Byte x _ h refl
    (λ h. pick letter (byte "S") (letter == byte "S") refl elements.Short x _ h refl
    (λ h. pick letter (byte "I") (letter == byte "I") refl elements.Int x _ h refl (λ h. pick letter (byte "J") (letter == byte "J") refl elements.Long x _ h refl
    (λ h. no_class (letter == byte "L") off h))))))
  where
    no_class : (b : Bool) → b ≡ false → (if b then Some (elements.Class c) else None) ≡ Some x → Number letter x
    no_class true e h = absurd cc
    no_class false e h = absurd cc

said_number : (q : Program) (pool : List Entry) (b : Bool) → item q pool (if b then items.Long else items.Int) ≡ (if b then Long else Int)
said_number q pool true = refl
said_number q pool false = refl

pub number_item : (q : Program) (pool : List Entry) (t : FieldType) (v : VType) → is_reference t ≡ false → type_in q t ≡ Some v
    → item q pool (if t.base == byte "J" then items.Long else items.Int) ≡ v
unfolding type_in
number_item q pool t v r h =
    let none = first_none (nat_lt 0 t.depth) (is_class_sign t.base) r in
    let other = second_none (nat_lt 0 t.depth) (is_class_sign t.base) r in
    let depth : t.depth ≡ 0 = (let le = ltb-false 0 t.depth none in omega arith) in
    let x = map_is (type_of t.depth) (element_in q t) v h in
    let letter : element_of t.base (name t.class) ≡ Some x.0 = sym
    (ap (λ (b : Bool). if b then option_map elements.Class (there q t.class) else element_of t.base (name t.class)) other) ∙ x.1 in
    said_number q pool (t.base == byte "J") ∙ letter_number t.base (name t.class) x.0 other letter ∙ ap (λ (d : ℕ). type_of d x.0) (sym depth) ∙ x.2
  where
    first_none : (a b : Bool) → (a || b) ≡ false → a ≡ false
    first_none true b e = absurd cc
    first_none false b e = refl

    second_none : (a b : Bool) → (a || b) ≡ false → b ≡ false
    second_none true b e = absurd cc
    second_none false b e = e

pub class_item : (q : Program) (pool : List Entry) (i : ℕ) (t : FieldType) (v : VType) → class_name_at pool i ≡ Some (class_name t) → IsTrue (is_type t) → is_reference t ≡ true
    → type_in q t ≡ Some v → item q pool (items.Object i) ≡ v
class_item q pool i t v at good r h = ap or_top (class_at_is q pool i (class_name t) at ∙ named_type q t good r ∙ h)
