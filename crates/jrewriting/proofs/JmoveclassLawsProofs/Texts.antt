-- The texts that moved classes put into a pool: descriptors with one more parameter, and the names of the classes of parameters.
use Rattle.std.proofs.Common.{◌≡◌, ℕ, zero, suc, ◌+◌, ◌≤◌, ◌<◌, Bool, true, false, List, [], ◌∷◌, ◌++◌, length, Option, Some, None, refl, ap, sym, ◌∙◌, subst, arith, inl, inr}
use Rattle.std.specs.Prelude.{IsTrue, slice_get, option_map, replicate, nat_lt, nat_le, ◌&&◌, ◌||◌, ◌==◌, ◌^◌, ◌⊎◌, if◌then◌else◌, option_and_then}
use Rattle.std.specs.List.{AllByRecursion, flat_map, list_all}
use Rattle.std.specs.Str.{byte}
use Rattle.std.proofs.lemmas.Bool.{eqb-true, le-leb, ltb-false, ltb-true}
use Rattle.std.proofs.lemmas.Grind.{flat_map-append}
use Rattle.std.proofs.lemmas.List.{append-nil}
use Rattle.jground.specs.jformat.BodyFormats.{many_at}
use Rattle.jground.proofs.JformatProofs.ReadingSteps.{both, first_true, second_true}
use Rattle.jparts.specs.declared.jpool.descriptor.Descriptor.TheVariants as descriptors
use Rattle.jparts.specs.declared.jpool.descriptor.FieldType.{FieldType}
use Rattle.jparts.specs.declared.jpool.entry.Entry.{Entry}
use Rattle.jparts.specs.declared.jpool.entry.Entry.TheVariants.{Unused, Utf8, Integer, Float, Long, Double, Class, Str, Field, Method, InterfaceMethod, NameAndType, MethodHandle, MethodType, InvokeDynamic}
use Rattle.jparts.specs.jpool.Descriptors.{descriptor_of, descriptor_text, is_array_descriptor, is_base, is_class_sign, is_method, is_method_descriptor, is_return, is_type, is_well_formed, method, method_of, method_slots, return_text, slots_of, type_text}
use Rattle.jparts.specs.jpool.PoolEntries.{entry, first_slot, utf8_parts}
use Rattle.jparts.specs.jpool.ClassNames.{is_class_name}
use Rattle.jparts.specs.jpool.ConstantPools.{utf8_at}
use Rattle.jparts.proofs.JpoolProofs.PoolExtension.{each_is, laid_slots}
use Rattle.jparts.proofs.JpoolProofs.PoolLaws.{at_index}
use Rattle.jparts.proofs.JpoolProofs.DescriptorTexts.{descriptor_again, descriptor_take, field_again}
use Rattle.jclass.specs.declared.fault.ClassFault.TheVariants.{Text}
use Rattle.jclass.specs.PoolChecks.{entry_fault, is_modified, no_fault, text_fault}
use Rattle.jclass.specs.IndexFormats.{pool_fault}
use Rattle.jground.specs.jformat.Format.{is_good}
use Rattle.jparts.specs.jpool.ConstantPools as pools
use Rattle.jmove.specs.PoolAdditions.{context_type, moved_descriptor}
use Rattle.jmoveclass.specs.EntryLocals.{class_name, is_reference}
use Rattle.jmoveclass.proofs.DemandPreservation.{good_is}
use Rattle.jrewriting.proofs.JmoveclassLawsProofs.TextSplits.{all_first, all_join, all_second, are_bytes, cut, join, without_first}
use Rattle.jrewriting.proofs.JmoveclassLawsProofs.SoundPools.{IsSound, IsText, or_good}

-- ---- names for what definitions say in place

abbrev is_array : Option FieldType → Bool
is_array = elim [ None ↦ false | Some t ↦ nat_lt 0 t.depth ]

-- ---- a text that stands in a pool

entry_is : (o : Option Entry) (text : List ℕ) → option_and_then utf8_parts o ≡ Some text → o ≡ Some (Utf8 text)
entry_is None text h = absurd cc
entry_is (Some (Utf8 t)) text h = let same : t ≡ text = cc in ap (λ (x : List ℕ). Some (Utf8 x)) same
entry_is (Some Unused) text h = absurd cc
entry_is (Some (Integer n)) text h = absurd cc
entry_is (Some (Float n)) text h = absurd cc
entry_is (Some (Long n)) text h = absurd cc
entry_is (Some (Double n)) text h = absurd cc
entry_is (Some (Class n)) text h = absurd cc
entry_is (Some (Str n)) text h = absurd cc
entry_is (Some (Field c b)) text h = absurd cc
entry_is (Some (Method c b)) text h = absurd cc
entry_is (Some (InterfaceMethod c b)) text h = absurd cc
entry_is (Some (NameAndType n d)) text h = absurd cc
entry_is (Some (MethodHandle k m)) text h = absurd cc
entry_is (Some (MethodType d)) text h = absurd cc
entry_is (Some (InvokeDynamic b d)) text h = absurd cc

pub text_entry : (pool : List Entry) (i : ℕ) (text : List ℕ) → utf8_at pool i ≡ Some text → slice_get pool i ≡ Some (Utf8 text)
unfolding utf8_at
text_entry pool i text h = entry_is (slice_get pool i) text h

text_by : (text : List ℕ) → (Utf8 text ≡ Unused) ⊎ IsTrue (entry.fits (Utf8 text)) → IsTrue (is_modified text) → IsText text
unfolding entry
text_by text (inl other) m = absurd cc
text_by text (inr fit) m =
    let few : length text < 65536 = ltb-true (length text) 65536 (second_true (list_all (λ b. nat_lt b 256) text) (nat_lt (length text) 65536) fit) in
    record { bytes = first_true (list_all (λ b. nat_lt b 256) text) (nat_lt (length text) 65536) fit; short = omega arith; modified = m }

pub pool_text : (pool : List Entry) (i : ℕ) (text : List ℕ) → IsSound pool → slice_get pool i ≡ Some (Utf8 text) → IsText text
unfolding no_fault entry_fault
pool_text pool i text s at =
    let good = at_index (λ one. is_good (entry_fault pool one)) pool i (Utf8 text) s.good at in
    let mine = or_good (text_fault (Utf8 text)) (option_map pool_fault (pools.entry_fault pool (Utf8 text))) good in
    text_by text (each_is pool (first_slot (length pool)) i (Utf8 text) (laid_slots pool s.is_pool.laid) at) (good_is (is_modified text) Text mine.0)

-- ---- descriptors with one more parameter

pub slots_append : (ps qs : List FieldType) → slots_of (ps ++ qs) ≡ slots_of ps + slots_of qs
unfolding slots_of
slots_append [] qs = omega arith
slots_append (p ∷ ps) qs = let rest : slots_of (ps ++ qs) ≡ slots_of ps + slots_of qs = slots_append ps qs in omega arith

abbrev context : List ℕ
context = flat_map type_text (context_type ∷ [])

context_bytes : IsTrue (are_bytes context)
context_bytes = refl

context_modified : IsTrue (is_modified context)
unfolding is_modified many_at
context_modified = refl

-- the types of a method's descriptor
pub record IsMethodText (text : List ℕ) : Type 0 where
  pub params : List FieldType
  pub ret : Option FieldType
  pub is : descriptor_of text ≡ Some (descriptors.Method params ret)

abbrev pub longer : List FieldType → Option FieldType → List ℕ
longer ps ret = descriptor_text (descriptors.Method (ps ++ context_type ∷ []) ret)

longer_is : (ps : List FieldType) (ret : Option FieldType) → longer ps ret ≡ (((byte "(" ∷ flat_map type_text ps) ++ context) ++ byte ")" ∷ return_text ret)
unfolding descriptor_text
longer_is ps ret = ap (λ (l : List ℕ). byte "(" ∷ (l ++ byte ")" ∷ return_text ret)) (flat_map-append type_text ps (context_type ∷ []))

shorter_is : (ps : List FieldType) (ret : Option FieldType) → descriptor_text (descriptors.Method ps ret) ≡ ((byte "(" ∷ flat_map type_text ps) ++ byte ")" ∷ return_text ret)
unfolding descriptor_text
shorter_is ps ret = refl

-- a descriptor's front and back
record Halves (ps : List FieldType) (ret : Option FieldType) : Type 0 where
  pub front_bytes : IsTrue (are_bytes (byte "(" ∷ flat_map type_text ps))
  pub back_bytes : IsTrue (are_bytes (byte ")" ∷ return_text ret))
  pub front : IsTrue (is_modified (byte "(" ∷ flat_map type_text ps))
  pub back : IsTrue (is_modified (byte ")" ∷ return_text ret))

halves : (text : List ℕ) (ps : List FieldType) (ret : Option FieldType) → IsText text → descriptor_of text ≡ Some (descriptors.Method ps ret) → Halves ps ret
halves text ps ret t is =
    let front = byte "(" ∷ flat_map type_text ps in
    let same : text ≡ front ++ byte ")" ∷ return_text ret = (descriptor_take text (descriptors.Method ps ret) is).1 ∙ shorter_is ps ret in
    let bytes = subst (λ (l : List ℕ). IsTrue (are_bytes l)) same t.bytes in
    let c = cut front 41 (return_text ret) (omega arith) bytes (subst (λ (l : List ℕ). IsTrue (is_modified l)) same t.modified) in
    record {
      front_bytes = all_first (λ b. nat_lt b 256) front (byte ")" ∷ return_text ret) bytes;
      back_bytes = all_second (λ b. nat_lt b 256) front (byte ")" ∷ return_text ret) bytes;
      front = c.0;
      back = c.1;
    }

-- such a text can stand in a pool,
pub longer_text : (text : List ℕ) (ps : List FieldType) (ret : Option FieldType) → IsText text → descriptor_of text ≡ Some (descriptors.Method ps ret) → length (longer ps ret) ≤ 65535 → IsText (longer ps ret)
longer_text text ps ret t is short =
    let h = halves text ps ret t is in
    let front = byte "(" ∷ flat_map type_text ps in
    let back = byte ")" ∷ return_text ret in
    let first_bytes = all_join (λ b. nat_lt b 256) front context h.front_bytes context_bytes in
    let bytes = all_join (λ b. nat_lt b 256) (front ++ context) back first_bytes h.back_bytes in
    let first = join front context h.front_bytes context_bytes h.front context_modified in
    let all = join (front ++ context) back first_bytes h.back_bytes first h.back in
    record {
      bytes = subst (λ (l : List ℕ). IsTrue (are_bytes l)) (sym (longer_is ps ret)) bytes;
      short = short;
      modified = subst (λ (l : List ℕ). IsTrue (is_modified l)) (sym (longer_is ps ret)) all;
    }

well_types : (ps : List FieldType) (ret : Option FieldType) → IsTrue (is_well_formed (descriptors.Method ps ret)) → IsTrue (is_method ps ret)
unfolding is_well_formed
well_types ps ret h = h

types_well : (ps : List FieldType) (ret : Option FieldType) → IsTrue (is_method ps ret) → IsTrue (is_well_formed (descriptors.Method ps ret))
unfolding is_well_formed
types_well ps ret h = h

context_is_type : IsTrue (list_all is_type (context_type ∷ []))
unfolding is_class_name
context_is_type = refl

context_slots : slots_of (context_type ∷ []) ≡ 1
unfolding slots_of
context_slots = refl

pub good_types : (text : List ℕ) (ps : List FieldType) (ret : Option FieldType) → descriptor_of text ≡ Some (descriptors.Method ps ret) → IsTrue (list_all is_type ps) × IsTrue (is_return ret)
good_types text ps ret is =
    let well = well_types ps ret (descriptor_take text (descriptors.Method ps ret) is).0 in
    let both_good = first_true (list_all is_type ps && is_return ret) (nat_le (slots_of ps) 255) well in
    (first_true (list_all is_type ps) (is_return ret) both_good, second_true (list_all is_type ps) (is_return ret) both_good)

pub longer_well : (text : List ℕ) (ps : List FieldType) (ret : Option FieldType) → descriptor_of text ≡ Some (descriptors.Method ps ret) → slots_of ps ≤ 254 → descriptor_of (longer ps ret) ≡ Some (descriptors.Method (ps ++ context_type ∷ []) ret)
longer_well text ps ret is few =
    let g = good_types text ps ret is in
    let count : slots_of (ps ++ context_type ∷ []) ≡ slots_of ps + slots_of (context_type ∷ []) = slots_append ps (context_type ∷ []) in
    let one : slots_of (context_type ∷ []) ≡ 1 = context_slots in
    let types = all_join is_type ps (context_type ∷ []) g.0 context_is_type in
    descriptor_again (descriptors.Method (ps ++ context_type ∷ []) ret) (types_well (ps ++ context_type ∷ []) ret
    (both (list_all is_type (ps ++ context_type ∷ []) && is_return ret) (nat_le (slots_of (ps ++ context_type ∷ [])) 255)
    (both (list_all is_type (ps ++ context_type ∷ [])) (is_return ret) types g.1) (le-leb (slots_of (ps ++ context_type ∷ [])) 255 (omega arith))))

method_is : (o : Option (List FieldType × Option FieldType)) (ps : List FieldType) (ret : Option FieldType) → option_map method o ≡ Some (descriptors.Method ps ret) → o ≡ Some (ps, ret)
method_is None ps ret h = absurd cc
method_is (Some x) ps ret h =
    let first : x.0 ≡ ps = cc in
    let second : x.1 ≡ ret = cc in
    rw (sym first, sym second) refl

read_as : (rest : List ℕ) (ps : List FieldType) (ret : Option FieldType) → descriptor_of (byte "(" ∷ rest) ≡ Some (descriptors.Method ps ret) → method_of (byte "(" ∷ rest) ≡ Some (ps, ret)
unfolding descriptor_of
read_as rest ps ret h = method_is (method_of (byte "(" ∷ rest)) ps ret h

read_text : (text rest : List ℕ) (ps : List FieldType) (ret : Option FieldType) → text ≡ byte "(" ∷ rest → descriptor_of text ≡ Some (descriptors.Method ps ret) → method_of text ≡ Some (ps, ret)
read_text text rest ps ret e h =
    subst (λ (t : List ℕ). method_of t ≡ Some (ps, ret)) (sym e) (read_as rest ps ret (subst (λ (t : List ℕ). descriptor_of t ≡ Some (descriptors.Method ps ret)) e h))

-- and is the descriptor of a method with one more parameter.
pub longer_method : (text : List ℕ) (ps : List FieldType) (ret : Option FieldType) → descriptor_of text ≡ Some (descriptors.Method ps ret) → slots_of ps ≤ 254 → method_of (longer ps ret) ≡ Some (ps ++ context_type ∷ [], ret)
longer_method text ps ret is few = read_text (longer ps ret) ((flat_map type_text ps ++ context) ++ byte ")" ∷ return_text ret) (ps ++ context_type ∷ []) ret (longer_is ps ret) (longer_well text ps ret is few)

pub longer_is_method : (text : List ℕ) (ps : List FieldType) (ret : Option FieldType) → descriptor_of text ≡ Some (descriptors.Method ps ret) → slots_of ps ≤ 254 → IsTrue (is_method_descriptor (longer ps ret))
unfolding is_method_descriptor
longer_is_method text ps ret is few = rw (longer_method text ps ret is few) refl

pub longer_slots : (text : List ℕ) (ps : List FieldType) (ret : Option FieldType) → descriptor_of text ≡ Some (descriptors.Method ps ret) → slots_of ps ≤ 254 → method_slots (longer ps ret) ≡ Some (slots_of ps + 1)
unfolding method_slots
longer_slots text ps ret is few =
    let count : slots_of (ps ++ context_type ∷ []) ≡ slots_of ps + slots_of (context_type ∷ []) = slots_append ps (context_type ∷ []) in
    let one : slots_of (context_type ∷ []) ≡ 1 = context_slots in
    ap (option_map (λ m. slots_of m.0)) (longer_method text ps ret is few) ∙ ap (λ (n : ℕ). Some n) (count ∙ ap (λ (n : ℕ). slots_of ps + n) one)

pub moved_is : (text : List ℕ) (ps : List FieldType) (ret : Option FieldType) → descriptor_of text ≡ Some (descriptors.Method ps ret) → moved_descriptor text ≡ Some (longer ps ret)
unfolding moved_descriptor
moved_is text ps ret is = rw is refl

-- ---- the types of parameters

low_letter : (b : ℕ) (p1 p2 p3 p4 p5 p6 p7 p8 : Bool) → (b == 66) ≡ p1 → (b == 67) ≡ p2 → (b == 68) ≡ p3 → (b == 70) ≡ p4 → (b == 73) ≡ p5 → (b == 74) ≡ p6 → (b == 83) ≡ p7 → (b == 90) ≡ p8
    → IsTrue (p1 || p2 || p3 || p4 || p5 || p6 || p7 || p8) → b < 128
low_letter b true p2 p3 p4 p5 p6 p7 p8 e1 e2 e3 e4 e5 e6 e7 e8 h = let same : b ≡ 66 = eqb-true b 66 e1 in omega arith
low_letter b false true p3 p4 p5 p6 p7 p8 e1 e2 e3 e4 e5 e6 e7 e8 h = let same : b ≡ 67 = eqb-true b 67 e2 in omega arith
low_letter b false false true p4 p5 p6 p7 p8 e1 e2 e3 e4 e5 e6 e7 e8 h = let same : b ≡ 68 = eqb-true b 68 e3 in omega arith
low_letter b false false false true p5 p6 p7 p8 e1 e2 e3 e4 e5 e6 e7 e8 h = let same : b ≡ 70 = eqb-true b 70 e4 in omega arith
low_letter b false false false false true p6 p7 p8 e1 e2 e3 e4 e5 e6 e7 e8 h = let same : b ≡ 73 = eqb-true b 73 e5 in omega arith
low_letter b false false false false false true p7 p8 e1 e2 e3 e4 e5 e6 e7 e8 h = let same : b ≡ 74 = eqb-true b 74 e6 in omega arith
low_letter b false false false false false false true p8 e1 e2 e3 e4 e5 e6 e7 e8 h = let same : b ≡ 83 = eqb-true b 83 e7 in omega arith
low_letter b false false false false false false false true e1 e2 e3 e4 e5 e6 e7 e8 h = let same : b ≡ 90 = eqb-true b 90 e8 in omega arith
low_letter b false false false false false false false false e1 e2 e3 e4 e5 e6 e7 e8 h = absurd cc

low_base : (b : ℕ) → IsTrue (is_base b) → b < 128
low_base b h = low_letter b (b == 66) (b == 67) (b == 68) (b == 70) (b == 73) (b == 74) (b == 83) (b == 90) refl refl refl refl refl refl refl refl h

base_by : (t : FieldType) (b : Bool) → is_class_sign t.base ≡ b → IsTrue (if b then is_class_name t.class else is_base t.base && length t.class == 0) → t.base < 128
base_by t true e h = let same : t.base ≡ 76 = eqb-true t.base 76 e in omega arith
base_by t false e h = low_base t.base (first_true (is_base t.base) (length t.class == 0) h)

base_low : (t : FieldType) → IsTrue (is_type t) → t.base < 128
base_low t h = base_by t (is_class_sign t.base) refl (second_true (nat_lt t.depth (2 ^ 32)) _ h)

-- the first byte of a type
record Begun (text : List ℕ) : Type 0 where
  pub first : ℕ
  pub rest : List ℕ
  pub is : text ≡ first ∷ rest
  pub low : first < 128

begun_by : (n base : ℕ) (back : List ℕ) → base < 128 → Begun (replicate n (byte "[") ++ base ∷ back)
begun_by zero base back low = record { first = base; rest = back; is = refl; low = low }
begun_by (suc n) base back low = record { first = 91; rest = replicate n (byte "[") ++ base ∷ back; is = refl; low = omega arith }

begun : (t : FieldType) → IsTrue (is_type t) → Begun (type_text t)
begun t h = begun_by t.depth t.base _ (base_low t h)

-- a type's text can stand in a pool
pub record IsTypeText (t : FieldType) : Type 0 where
  pub bytes : IsTrue (are_bytes (type_text t))
  pub modified : IsTrue (is_modified (type_text t))
  pub good : IsTrue (is_type t)

split_type : (t : FieldType) (ts : List FieldType) → IsTrue (list_all is_type ts) → IsTrue (are_bytes (type_text t ++ flat_map type_text ts)) → IsTrue (is_modified (type_text t ++ flat_map type_text ts))
    → IsTrue (is_modified (type_text t)) × IsTrue (is_modified (flat_map type_text ts))
unfolding is_modified many_at
split_type t [] good bytes h = (subst (λ (l : List ℕ). IsTrue (is_modified l)) (append-nil (type_text t)) h, refl)
split_type t (u ∷ us) good bytes h =
    let b = begun u (first_true (is_type u) (list_all is_type us) good) in
    let same : flat_map type_text (u ∷ us) ≡ b.first ∷ (b.rest ++ flat_map type_text us) = ap (λ (l : List ℕ). l ++ flat_map type_text us) b.is in
    let c = cut (type_text t) b.first (b.rest ++ flat_map type_text us) b.low (subst (λ (l : List ℕ). IsTrue (are_bytes (type_text t ++ l))) same bytes) (subst (λ (l : List ℕ). IsTrue (is_modified (type_text t ++ l))) same h) in
    (c.0, subst (λ (l : List ℕ). IsTrue (is_modified l)) (sym same) c.1)

types_from : (ts : List FieldType) → IsTrue (list_all is_type ts) → IsTrue (are_bytes (flat_map type_text ts)) → IsTrue (is_modified (flat_map type_text ts)) → AllByRecursion IsTypeText ts
types_from [] good bytes h = tt
types_from (t ∷ ts) good bytes h =
    let rest = second_true (is_type t) (list_all is_type ts) good in
    let s = split_type t ts rest bytes h in (
      record { bytes = all_first (λ b. nat_lt b 256) (type_text t) (flat_map type_text ts) bytes; modified = s.0; good = first_true (is_type t) (list_all is_type ts) good },
      types_from ts rest (all_second (λ b. nat_lt b 256) (type_text t) (flat_map type_text ts) bytes) s.1,
    )

pub types_are : (text : List ℕ) (ps : List FieldType) (ret : Option FieldType) → IsText text → descriptor_of text ≡ Some (descriptors.Method ps ret) → AllByRecursion IsTypeText ps
types_are text ps ret t is =
    let h = halves text ps ret t is in
    types_from ps (good_types text ps ret is).0 (second_true (nat_lt 40 256) (are_bytes (flat_map type_text ps)) h.front_bytes)
    (without_first 40 (flat_map type_text ps) (omega arith) h.front_bytes h.front)

-- ---- the names of their classes

abbrev pub is_named : List ℕ → Bool
is_named name = is_class_name name || is_array_descriptor name

pub named_class : (name : List ℕ) → IsTrue (is_class_name name) → IsTrue (is_named name)
named_class name h = rw h refl

pub or_second : (a b : Bool) → IsTrue b → IsTrue (a || b)
or_second true b h = refl
or_second false b h = h

array_good : (t : FieldType) → IsTrue (is_type t) → IsTrue (nat_lt 0 t.depth) → IsTrue (is_array_descriptor (type_text t))
unfolding is_array_descriptor
array_good t good deep = ap is_array (field_again t good) ∙ deep

-- the class of a type without dimensions
class_of : (t : FieldType) → IsTypeText t → t.depth ≡ 0 → is_class_sign t.base ≡ true → (IsTrue (are_bytes t.class) × IsTrue (is_modified t.class)) × IsTrue (is_class_name t.class)
class_of t h flat sign =
    let text : type_text t ≡ t.base ∷ (t.class ++ byte ";" ∷ []) = rw (flat, sign) refl in
    let bytes = subst (λ (l : List ℕ). IsTrue (are_bytes l)) text h.bytes in
    let inner_bytes = second_true (nat_lt t.base 256) (are_bytes (t.class ++ byte ";" ∷ [])) bytes in
    let inner = without_first t.base (t.class ++ byte ";" ∷ []) (base_low t h.good) bytes (subst (λ (l : List ℕ). IsTrue (is_modified l)) text h.modified) in
    let c = cut t.class 59 [] (omega arith) inner_bytes inner in
    let good : IsTrue (if is_class_sign t.base then is_class_name t.class else is_base t.base && length t.class == 0) = second_true (nat_lt t.depth (2 ^ 32)) _ h.good in
    ((all_first (λ b. nat_lt b 256) t.class (byte ";" ∷ []) inner_bytes, c.0), rw sign at good)

class_by : (t : FieldType) (b : Bool) → nat_lt 0 t.depth ≡ b → IsTypeText t → IsTrue (b || is_class_sign t.base) → length (if b then type_text t else t.class) ≤ 65535
    → IsText (if b then type_text t else t.class) × IsTrue (is_named (if b then type_text t else t.class))
class_by t true e h r short = (record { bytes = h.bytes; short = short; modified = h.modified }, or_second (is_class_name (type_text t)) (is_array_descriptor (type_text t)) (array_good t h.good e))
class_by t false e h r short =
    let none : t.depth ≤ 0 = ltb-false 0 t.depth e in
    let flat : t.depth ≡ 0 = omega arith in
    let c = class_of t h flat r in
    (record { bytes = c.0.0; short = short; modified = c.0.1 }, named_class t.class c.1)

pub class_text : (t : FieldType) → IsTypeText t → is_reference t ≡ true → length (class_name t) ≤ 65535 → IsText (class_name t) × IsTrue (is_named (class_name t))
class_text t h r short = class_by t (nat_lt 0 t.depth) refl h r short
