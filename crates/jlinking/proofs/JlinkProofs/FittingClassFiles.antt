-- What fits as a class file: the entries that its instructions and its classes name, and the descriptors of its members.
use Rattle.std.proofs.Common.{◌≡◌, ℕ, ◌≤◌, ◌⊎◌, Bool, true, false, List, [], ◌∷◌, zero, suc, length, Option, Some, None, refl, sym, ap, subst, ◌∙◌, inl, inr}
use Rattle.std.specs.Prelude.{IsTrue, is_some, option_map, slice_get, option_and_then}
use Rattle.std.specs.List.{AllByRecursion, list_all}
use Rattle.std.specs.Option.{IsSome}
use Rattle.std.proofs.lemmas.Bool.{leb-true}
use Rattle.jground.specs.jformat.Format.{Format, ◌·◌, ◌▹◌, is_good, unless}
use Rattle.jground.specs.jformat.BodyFormats.{block, counted}
use Rattle.jground.proofs.JformatProofs.ReadingSteps.{first_true, second_true}
use Rattle.jparts.specs.declared.jpool.descriptor.FieldType.{FieldType}
use Rattle.jparts.specs.declared.jpool.entry.Entry.{Entry}
use Rattle.jparts.specs.declared.jpool.entry.Entry.TheVariants as entries
use Rattle.jparts.specs.jpool.Descriptors.{field_of, is_field_descriptor, method_of, method_slots, slots_of}
use Rattle.jparts.specs.jpool.PoolEntries as pools
use Rattle.jparts.specs.jpool.ConstantPools
use Rattle.jparts.specs.jpool.ClassNames.{is_class_name}
use Rattle.jparts.specs.jpool.ConstantPools.{class_name_at, utf8_at}
use Rattle.jparts.proofs.JpoolProofs.PoolExtension.{each_is, laid_slots}
use Rattle.jparts.proofs.JpoolProofs.PoolLaws.{at_index}
use Rattle.jparts.proofs.JpoolProofs.EntrySpellings.{fits_spelling}
use Rattle.jparts.specs.declared.jcode.op.Handler.{Handler}
use Rattle.jparts.specs.declared.jcode.op.Placed.{Placed}
use Rattle.jparts.specs.jcode.Instructions
use Rattle.jclass.specs.declared.class.Attribute.{Attribute}
use Rattle.jclass.specs.declared.class.ClassParts.{ClassParts}
use Rattle.jclass.specs.declared.class.CodeAttribute.{CodeAttribute}
use Rattle.jclass.specs.declared.class.CodeBody.{CodeBody}
use Rattle.jclass.specs.declared.class.MemberInfo.{MemberInfo}
use Rattle.jclass.specs.declared.fault.ClassFault.{ClassFault}
use Rattle.jclass.specs.declared.fault.ClassFault.TheVariants as kinds
use Rattle.jclass.specs.IndexFormats.{access, index, pool_fault, u2}
use Rattle.jclass.specs.FlagRules.{descriptor_fault, field_descriptor, method_descriptor, most_slots, names_class, names_super, within, is_plain_class}
use Rattle.jclass.specs.ProofNames.{names_of}
use Rattle.jclass.specs.ClassFileShape
use Rattle.jclass.specs.ProofNames
use Rattle.jclass.specs.PoolChecks
use Rattle.jclass.specs.PoolChecks.{entry_fault, no_fault}
use Rattle.jclass.specs.Attributes.{class_attribute, field_attribute, saw_constant, text_index}
use Rattle.jground.specs.jformat.StatefulFormats.{counted_from}
use Rattle.jclass.specs.CodeFormat.{behind_ops, code_content, code_length, ops}
use Rattle.jclass.specs.MemberFormat.{body_of, codes_fault, field, method, method_attribute, method_parts}
use Rattle.jclass.specs.PoolOperands.{names_well}
use Rattle.jclass.specs.Class.{TailParts, class_file, class_parts, strict, tail}
use Rattle.jclass.specs.FileContents.{HasCode, IsIn}
use Rattle.jclass.proofs.ClassLaws.{tail_methods}
use Rattle.jclass.proofs.FittingClasses.{code_branches, code_fits, code_items}
use Rattle.jresolution.specs.jprogram.ClassFileParts.{code_of, member_desc, or_empty, text, this_name}
use Rattle.jresolution.specs.declared.jprogram.part.CodePart.{CodePart}
use Rattle.jlinking.specs.jlink.ProgramFiles.{IsFile}
use Rattle.jlinking.proofs.JlinkProofs.PresentValues.{first_in}
use Rattle.jparts.specs.jpool.PoolEntries.{utf8_parts}
use Rattle.jresolution.proofs.JprogramProofs.MemberCounts.{tail_fields}

-- ---- instructions

pub has_code : (c : ClassParts) (m : MemberInfo) (body : CodeBody) → IsTrue (class_file.fits c) → IsIn m c.methods → code_of m ≡ Some body → HasCode c body
unfolding code_of
has_code c m body fit there e =
    let r = first_in body_of m.attributes body e in
    record { good = fit; method = m; attribute = r.0; in_class = there; in_method = r.1; is_body = r.2 }

named_all : (pool : List Entry) (b : CodeBody) → IsTrue ((code_content pool).fits b) → IsTrue (list_all (λ p. names_well pool p.op) b.ops)
unfolding code_content ops
named_all pool b fit =
    let inside : Format ClassFault (List Placed × (List Handler × List CodeAttribute)) = block code_length kinds.Truncated (ops pool) ▹ behind_ops pool in
    let a = second_true (u2.fits b.max_stack) ((u2 · inside).fits (b.max_locals, (b.ops, (b.handlers, b.attributes)))) fit in
    let all = second_true (u2.fits b.max_locals) (inside.fits (b.ops, (b.handlers, b.attributes))) a in
    let here = first_true ((block code_length kinds.Truncated (ops pool)).fits b.ops) ((behind_ops pool b.ops).fits (b.handlers, b.attributes)) all in
    let good = first_true ((ops pool).fits b.ops) (code_length.fits (length (Instructions.code.spell b.ops))) here in
    second_true (Instructions.code.fits b.ops) (list_all (λ p. names_well pool p.op) b.ops) good

-- an instruction names an entry of the kind that it must name
pub named_well : (c : ClassParts) (body : CodeBody) (one : Placed) → HasCode c body → IsIn one body.ops → IsTrue (names_well c.pool one.op)
named_well c body one has is = at_index (λ p. names_well c.pool p.op) body.ops is.0 one (named_all c.pool body (code_fits c body has)) is.1

-- each branch leads to an instruction
pub leads_well : (c : ClassParts) (body : CodeBody) (one : Placed) → HasCode c body → IsIn one body.ops → IsTrue (Instructions.leads body.ops one)
leads_well c body one has is = code_branches body.ops one ((code_items c.pool body (code_fits c body has)).0) is

-- ---- the pool

head_fits : (c : ClassParts) → IsTrue (class_file.fits c) → IsTrue (ClassFileShape.head.fits (class_parts c).0) × IsTrue (no_fault c.pool)
unfolding class_file strict PoolChecks.head
head_fits c fit =
    let head = first_true (PoolChecks.head.fits (class_parts c).0) ((tail c.pool).fits (class_parts c).1) fit in
    (first_true (ClassFileShape.head.fits (class_parts c).0) (no_fault c.pool) head, second_true (ClassFileShape.head.fits (class_parts c).0) (no_fault c.pool) head)

shape_fits : (c : ClassParts) → IsTrue (ClassFileShape.head.fits (class_parts c).0) → IsTrue (pools.shape.fits c.pool)
unfolding ClassFileShape.head ClassFileShape.entries
shape_fits c fit =
    let a = second_true (ProofNames.magic.fits tt) ((u2 · ClassFileShape.major · ClassFileShape.entries).fits (c.minor, (c.major, c.pool))) fit in
    let b = second_true (u2.fits c.minor) ((ClassFileShape.major · ClassFileShape.entries).fits (c.major, c.pool)) a in
    second_true (ClassFileShape.major.fits c.major) (ClassFileShape.entries.fits c.pool) b

text_named : (o : Option (List ℕ)) → is_good (option_map pool_fault (ConstantPools.name_fault o)) ≡ true → IsSome o
text_named None h = absurd cc
text_named (Some t) h = refl

class_good : (pool : List Entry) (i name : ℕ) → IsTrue (no_fault pool) → slice_get pool i ≡ Some (entries.Class name) → IsSome (utf8_at pool name)
unfolding no_fault entry_fault ConstantPools.entry_fault
class_good pool i name good at = text_named (utf8_at pool name) (at_index (λ one. is_good (entry_fault pool one)) pool i (entries.Class name) good at)

-- a class names a text
pub class_named : (c : ClassParts) (i name : ℕ) → IsTrue (class_file.fits c) → slice_get c.pool i ≡ Some (entries.Class name) → IsSome (utf8_at c.pool name)
class_named c i name fit at = class_good c.pool i name ((head_fits c fit).1) at

short_entry : (t : List ℕ) → (entries.Utf8 t ≡ entries.Unused) ⊎ IsTrue (pools.entry.fits (entries.Utf8 t)) → length t ≤ 65535
short_entry t (inl e) = absurd cc
short_entry t (inr fit) = leb-true (length t) 65535 (fits_spelling (entries.Utf8 t) fit)

short_at : (pool : List Entry) (i : ℕ) (o : Option Entry) (t : List ℕ) → IsTrue (pools.shape.fits pool) → slice_get pool i ≡ o → option_and_then utf8_parts o ≡ Some t → length t ≤ 65535
short_at pool i (Some (entries.Utf8 x)) t laid at is =
    let same : x ≡ t = cc in
    subst (λ (y : List ℕ). length y ≤ 65535) same (short_entry x (each_is pool (pools.first_slot (length pool)) i (entries.Utf8 x) (laid_slots pool laid) at))
short_at pool i None t laid at is = absurd cc
short_at pool i (Some entries.Unused) t laid at is = absurd cc
short_at pool i (Some (entries.Integer a)) t laid at is = absurd cc
short_at pool i (Some (entries.Float a)) t laid at is = absurd cc
short_at pool i (Some (entries.Long a)) t laid at is = absurd cc
short_at pool i (Some (entries.Double a)) t laid at is = absurd cc
short_at pool i (Some (entries.Class a)) t laid at is = absurd cc
short_at pool i (Some (entries.Str a)) t laid at is = absurd cc
short_at pool i (Some (entries.Field a b)) t laid at is = absurd cc
short_at pool i (Some (entries.Method a b)) t laid at is = absurd cc
short_at pool i (Some (entries.InterfaceMethod a b)) t laid at is = absurd cc
short_at pool i (Some (entries.NameAndType a b)) t laid at is = absurd cc
short_at pool i (Some (entries.MethodHandle a b)) t laid at is = absurd cc
short_at pool i (Some (entries.MethodType a)) t laid at is = absurd cc
short_at pool i (Some (entries.InvokeDynamic a b)) t laid at is = absurd cc

-- a text has at most 65,535 bytes
pub text_short : (c : ClassParts) (i : ℕ) (t : List ℕ) → IsTrue (class_file.fits c) → utf8_at c.pool i ≡ Some t → length t ≤ 65535
unfolding utf8_at
text_short c i t fit is = short_at c.pool i (slice_get c.pool i) t (shape_fits c ((head_fits c fit).0)) refl is

-- ---- methods

tail_fits : (c : ClassParts) → IsTrue (class_file.fits c) → IsTrue ((tail c.pool).fits (class_parts c).1)
unfolding class_file strict
tail_fits c fit = second_true (PoolChecks.head.fits (class_parts c).0) ((tail c.pool).fits (class_parts c).1) fit

methods_fit : (c : ClassParts) → IsTrue (class_file.fits c) → IsTrue (list_all (method c.pool).fits c.methods)
methods_fit c fit = first_true (list_all (method c.pool).fits c.methods) (u2.fits (length c.methods)) (tail_methods c.pool (class_parts c).1 (tail_fits c fit))

method_good : (pool : List Entry) (m : MemberInfo) → IsTrue ((method pool).fits m) → IsTrue (is_good (descriptor_fault (λ t. within (most_slots m.flags) (method_slots t)) (utf8_at pool m.desc)))
unfolding method method_parts method_descriptor
method_good pool m fit =
    let a = first_true ((method_parts pool).fits m) (is_good (codes_fault pool (names_of m))) fit in
    let b = second_true (access.fits m.flags) ((text_index pool · method_descriptor pool m.flags · counted u2 (method_attribute pool)).fits (m.name, (m.desc, m.attributes))) a in
    let c = second_true ((text_index pool).fits m.name) ((method_descriptor pool m.flags · counted u2 (method_attribute pool)).fits (m.desc, m.attributes)) b in
    let d = first_true ((method_descriptor pool m.flags).fits m.desc) ((counted u2 (method_attribute pool)).fits m.attributes) c in
    second_true (u2.fits m.desc) (is_good (descriptor_fault (λ t. within (most_slots m.flags) (method_slots t)) (utf8_at pool m.desc))) d

slots_good : (n : ℕ) (o : Option (List FieldType × Option FieldType)) → is_good (unless (within n (option_map (λ m. slots_of m.0) o)) kinds.Descriptor) ≡ true → IsSome o
slots_good n None h = absurd cc
slots_good n (Some m) h = refl

method_text : (n : ℕ) (t : List ℕ) → is_good (unless (within n (method_slots t)) kinds.Descriptor) ≡ true → IsSome (method_of t)
unfolding method_slots
method_text n t h = slots_good n (method_of t) h

method_reads : (n i : ℕ) (pool : List Entry) (o : Option (List ℕ)) → utf8_at pool i ≡ o → IsTrue (is_good (descriptor_fault (λ t. within n (method_slots t)) o)) → IsSome (method_of (text pool i))
method_reads n i pool None at h = absurd cc
method_reads n i pool (Some t) at h = rw at (method_text n t h)

-- the descriptor of a method is one of a method
pub method_desc : (c : ClassParts) (m : MemberInfo) → IsTrue (class_file.fits c) → IsIn m c.methods → IsSome (method_of (member_desc c m))
method_desc c m fit is =
    let good = at_index (method c.pool).fits c.methods is.0 m (methods_fit c fit) is.1 in
    method_reads (most_slots m.flags) m.desc c.pool (utf8_at c.pool m.desc) refl (method_good c.pool m good)

-- ---- fields

fields_fit : (c : ClassParts) → IsTrue (class_file.fits c) → IsTrue (list_all (field c.pool).fits c.fields)
fields_fit c fit = first_true (list_all (field c.pool).fits c.fields) (u2.fits (length c.fields)) (tail_fields c.pool (class_parts c).1 (tail_fits c fit))

field_good : (pool : List Entry) (m : MemberInfo) → IsTrue ((field pool).fits m) → IsTrue (is_good (descriptor_fault is_field_descriptor (utf8_at pool m.desc)))
unfolding field field_descriptor
field_good pool m fit =
    let inside : Format ClassFault (ℕ × List Attribute) = field_descriptor pool ▹ λ desc. counted_from u2 (field_attribute pool m.flags desc) saw_constant false in
    let a = second_true (access.fits m.flags) ((text_index pool · inside).fits (m.name, (m.desc, m.attributes))) fit in
    let b = second_true ((text_index pool).fits m.name) (inside.fits (m.desc, m.attributes)) a in
    let d = first_true ((field_descriptor pool).fits m.desc) ((counted_from u2 (field_attribute pool m.flags m.desc) saw_constant false).fits m.attributes) b in
    second_true (u2.fits m.desc) (is_good (descriptor_fault is_field_descriptor (utf8_at pool m.desc))) d

type_good : (o : Option FieldType) → is_good (unless (is_some o) kinds.Descriptor) ≡ true → IsSome o
type_good None h = absurd cc
type_good (Some t) h = refl

field_text : (t : List ℕ) → is_good (unless (is_field_descriptor t) kinds.Descriptor) ≡ true → IsSome (field_of t)
unfolding is_field_descriptor
field_text t h = type_good (field_of t) h

field_reads : (i : ℕ) (pool : List Entry) (o : Option (List ℕ)) → utf8_at pool i ≡ o → IsTrue (is_good (descriptor_fault is_field_descriptor o)) → IsSome (field_of (text pool i))
field_reads i pool None at h = absurd cc
field_reads i pool (Some t) at h = rw at (field_text t h)

-- the descriptor of a field is one of a field
pub field_desc : (c : ClassParts) (m : MemberInfo) → IsTrue (class_file.fits c) → IsIn m c.fields → IsSome (field_of (member_desc c m))
field_desc c m fit is =
    let good = at_index (field c.pool).fits c.fields is.0 m (fields_fit c fit) is.1 in
    field_reads m.desc c.pool (utf8_at c.pool m.desc) refl (field_good c.pool m good)

-- ---- the class's own name

tail_named : (pool : List Entry) (t : TailParts) → IsTrue ((tail pool).fits t) → IsTrue ((index (names_class pool)).fits t.1.0)
unfolding tail
tail_named pool t fit =
    let a = second_true (access.fits t.0) ((index (names_class pool) · index (names_super pool) · counted u2 (index (names_class pool)) · counted u2 (field pool) · counted u2 (method pool) · counted u2 (class_attribute pool)).fits t.1) fit in
    first_true ((index (names_class pool)).fits t.1.0) ((index (names_super pool) · counted u2 (index (names_class pool)) · counted u2 (field pool) · counted u2 (method pool) · counted u2 (class_attribute pool)).fits t.1.1) a

passed : (b : Bool) → is_good (unless b kinds.Index) ≡ true → b ≡ true
passed true e = refl
passed false e = absurd cc

index_named : (pool : List Entry) (i : ℕ) → IsTrue ((index (names_class pool)).fits i) → names_class pool i ≡ true
index_named pool i fit = passed (names_class pool i) (second_true (u2.fits i) (is_good (unless (names_class pool i) kinds.Index)) fit)

empty_barred : (o : Option (List ℕ)) → is_plain_class o ≡ true → or_empty o ≡ [] → ⊥
unfolding is_class_name
empty_barred None named e = cc
empty_barred (Some text) named e =
    let never : is_class_name [] ≡ true = sym (ap is_class_name e) ∙ named in
    cc

-- a class file's class has a name
pub has_name : (c : ClassParts) → IsTrue (class_file.fits c) → this_name c ≡ [] → ⊥
unfolding names_class
has_name c fit e = empty_barred (class_name_at c.pool c.this_class) (index_named c.pool c.this_class (tail_named c.pool (class_parts c).1 (tail_fits c fit))) e

-- ---- parts

-- what holds of all parts holds of each, and the other way round
pub file_at : (parts : List CodePart) (i : ℕ) (part : CodePart) → AllByRecursion IsFile parts → slice_get parts i ≡ Some part → IsFile part
file_at [] i part all at = absurd (let e = at in cc)
file_at (one ∷ parts) zero part all at = let e : one ≡ part = (let f = at in cc) in subst IsFile e all.0
file_at (one ∷ parts) (suc i) part all at = file_at parts i part all.1 at

pub all_files : (parts : List CodePart) → ((i : ℕ) (part : CodePart) → slice_get parts i ≡ Some part → IsFile part) → AllByRecursion IsFile parts
all_files [] files = tt
all_files (part ∷ parts) files = (files 0 part refl, all_files parts (λ i. files (suc i)))
