-- What fits as a class file: its codes, their handlers and frames, and the texts of its pool.
use Rattle.std.proofs.Common.{◌≡◌, ℕ, zero, suc, ◌≤◌, Bool, true, false, ◌&&◌, List, [], ◌∷◌, length, Option, Some, None, refl, subst, inl, inr}
use Rattle.std.specs.Prelude.{IsTrue, ◌||◌, ◌==◌, nat_lt, option_map, slice_get, if◌then◌else◌}
use Rattle.std.specs.List.{list_all}
use Rattle.std.proofs.lemmas.Bool.{ltb-true, ltb-false, cases_Bool}
use Rattle.jground.specs.jbase.FirstFaults.{or_else}
use Rattle.jground.specs.jformat.Format.{Format, ◌·◌, ◌▹◌, is_good, unless}
use Rattle.jground.specs.jformat.BodyFormats.{Body, block, counted}
use Rattle.jground.specs.jformat.StatefulFormats.{counted_from, fits_from}
use Rattle.jground.proofs.JformatProofs.ReadingSteps.{first_true, second_true}
use Rattle.jparts.specs.declared.jpool.entry.Entry.{Entry}
use Rattle.jparts.specs.declared.jpool.entry.Entry.TheVariants.{Utf8}
use Rattle.jparts.specs.jpool.ConstantPools
use Rattle.jparts.proofs.JpoolProofs.PoolLaws.{at_index}
use Rattle.jparts.specs.declared.jmaps.types.RawFrame.{RawFrame}
use Rattle.jparts.specs.jmaps.StackMapFormat
use Rattle.jparts.specs.declared.jcode.op.Handler.{Handler}
use Rattle.jparts.specs.declared.jcode.op.Placed.{Placed}
use Rattle.jparts.specs.jcode.Instructions
use Rattle.jclass.specs.declared.class.Attribute.{Attribute}
use Rattle.jclass.specs.declared.class.Attribute.TheVariants.{ConstantValue, Code, Raw}
use Rattle.jclass.specs.declared.class.ClassParts.{ClassParts}
use Rattle.jclass.specs.declared.class.CodeAttribute.{CodeAttribute}
use Rattle.jclass.specs.declared.class.CodeAttribute.TheVariants as code
use Rattle.jclass.specs.declared.class.CodeBody.{CodeBody}
use Rattle.jclass.specs.declared.class.MemberInfo.{MemberInfo}
use Rattle.jclass.specs.declared.fault.ClassFault.{ClassFault}
use Rattle.jclass.specs.declared.fault.ClassFault.TheVariants as kinds
use Rattle.jclass.specs.IndexFormats.{u2, u4, access, index, pool_fault}
use Rattle.jclass.specs.FlagRules.{names_caught, is_code, is_maps, method_descriptor}
use Rattle.jclass.specs.ClassFileShape
use Rattle.jclass.specs.PoolChecks
use Rattle.jclass.specs.PoolChecks.{is_modified, entry_fault, no_fault}
use Rattle.jclass.specs.Attributes.{text_index, name_once, content}
use Rattle.jclass.specs.CodeFormat.{begins, ends, code_length, ops, handler, handler_parts, target_fault, behind_ops, code_content, code_body, maps, attribute, saw_maps}
use Rattle.jclass.specs.ProofNames.{length_fault, names_of}
use Rattle.jclass.specs.MemberFormat.{body_of, codes_fault, method, method_parts, method_attribute}
use Rattle.jclass.specs.Class.{tail, class_parts, strict, class_file}
use Rattle.jclass.specs.FileContents.{IsIn, HasCode, Leads}
use Rattle.jclass.specs.PoolOperands.{names_well}
use Rattle.jclass.proofs.CodeLaws.{maps_fitting}
use Rattle.jclass.proofs.ClassLaws.{tail_methods}

-- ---- tests

is_no_fault : {K : Type 0} (good : Bool) (kind : K) → is_good (unless good kind) ≡ true → IsTrue good
is_no_fault true kind h = refl
is_no_fault false kind h = absurd cc

-- an item that a state's test lets pass
from_at : {S A : Type 0} (fits : S → A → Bool) (next : S → A → S) (s : S) (xs : List A) (i : ℕ) (x : A) → IsTrue (fits_from fits next s xs) → slice_get xs i ≡ Some x → (t : S) × IsTrue (fits t x)
unfolding fits_from
from_at fits next s [] i x fit at = absurd cc
from_at {S} {A} fits next s (y ∷ ys) zero x fit at =
    let same : y ≡ x = cc in
    (s, subst (λ (z : A). IsTrue (fits s z)) same (first_true (fits s y) (fits_from fits next (next s y) ys) fit))
from_at fits next s (y ∷ ys) (suc i) x fit at = from_at fits next (next s y) ys i x (second_true (fits s y) (fits_from fits next (next s y) ys) fit) at

-- ---- what is looked into

content_body : {A : Type 0} (here : Bool) (body : Body ClassFault A) (x : A) → IsTrue ((content here body).fits (inl x)) → IsTrue (body.fits x)
content_body here body x fit = first_true (body.fits x) (u4.fits (length (body.spell x))) (second_true here ((block u4 kinds.Truncated body).fits x) fit)

-- ---- a class file's methods

class_tail : (c : ClassParts) → IsTrue (class_file.fits c) → IsTrue ((tail c.pool).fits (class_parts c).1)
unfolding class_file strict
class_tail c fit = second_true (PoolChecks.head.fits (class_parts c).0) ((tail c.pool).fits (class_parts c).1) fit

class_methods : (c : ClassParts) → IsTrue (class_file.fits c) → IsTrue (list_all (method c.pool).fits c.methods)
class_methods c fit = first_true (list_all (method c.pool).fits c.methods) (u2.fits (length c.methods)) (tail_methods c.pool (class_parts c).1 (class_tail c fit))

method_attributes : (pool : List Entry) (m : MemberInfo) → IsTrue ((method pool).fits m) → IsTrue (list_all (method_attribute pool).fits m.attributes)
unfolding method method_parts
method_attributes pool m fit =
    let a = first_true ((method_parts pool).fits m) (is_good (codes_fault pool (names_of m))) fit in
    let b = second_true (access.fits m.flags) ((text_index pool · method_descriptor pool m.flags · counted u2 (method_attribute pool)).fits (m.name, (m.desc, m.attributes))) a in
    let c = second_true ((text_index pool).fits m.name) ((method_descriptor pool m.flags · counted u2 (method_attribute pool)).fits (m.desc, m.attributes)) b in
    let d = second_true ((method_descriptor pool m.flags).fits m.desc) ((counted u2 (method_attribute pool)).fits m.attributes) c in
    first_true (list_all (method_attribute pool).fits m.attributes) (u2.fits (length m.attributes)) d

attribute_body : (pool : List Entry) (a : Attribute) (body : CodeBody) → IsTrue ((method_attribute pool).fits a) → body_of a ≡ Some body → IsTrue ((code_content pool).fits body)
unfolding method_attribute
attribute_body pool (Code name stack locals items handlers attributes) body fit is =
    let made : CodeBody = record { max_stack = stack; max_locals = locals; ops = items; handlers = handlers; attributes = attributes } in
    let same : made ≡ body = cc in
    let inside = second_true ((text_index pool).fits name) ((content (is_code pool name) (code_body pool)).fits (inl made)) fit in
    subst (λ (b : CodeBody). IsTrue ((code_content pool).fits b)) same (content_body (is_code pool name) (code_body pool) made inside)
attribute_body pool (ConstantValue name value) body fit is = absurd cc
attribute_body pool (Raw name bytes) body fit is = absurd cc

pub code_fits : (c : ClassParts) (body : CodeBody) → HasCode c body → IsTrue ((code_content c.pool).fits body)
code_fits c body has =
    let m = at_index (method c.pool).fits c.methods has.in_class.0 has.method (class_methods c has.good) has.in_class.1 in
    let a = at_index (method_attribute c.pool).fits has.method.attributes has.in_method.0 has.attribute (method_attributes c.pool has.method m) has.in_method.1 in
    attribute_body c.pool has.attribute body a has.is_body

-- ---- a code

behind_stack : (pool : List Entry) (b : CodeBody) → IsTrue ((code_content pool).fits b) → IsTrue ((block code_length kinds.Truncated (ops pool) ▹ behind_ops pool).fits (b.ops, (b.handlers, b.attributes)))
unfolding code_content
behind_stack pool b fit =
    let inside : Format ClassFault (List Placed × (List Handler × List CodeAttribute)) = block code_length kinds.Truncated (ops pool) ▹ behind_ops pool in
    second_true (u2.fits b.max_locals) (inside.fits (b.ops, (b.handlers, b.attributes)))
    (second_true (u2.fits b.max_stack) ((u2 · inside).fits (b.max_locals, (b.ops, (b.handlers, b.attributes)))) fit)

second_false : (a b : Bool) → (a || b) ≡ false → b ≡ false
second_false true b h = absurd cc
second_false false b h = h

no_fault_is : (bad : Bool) (kind : ClassFault) → is_good (if bad then Some kind else None) ≡ true → bad ≡ false
no_fault_is true kind h = absurd cc
no_fault_is false kind h = refl

short : (n : ℕ) → IsTrue (is_good (length_fault n)) → n ≤ 65535
short n fit = ltb-false 65535 n (second_false (n == 0) (nat_lt 65535 n) (no_fault_is (n == 0 || nat_lt 65535 n) kinds.Code fit))

pub code_items : (pool : List Entry) (b : CodeBody) → IsTrue ((code_content pool).fits b) → IsTrue (Instructions.code.fits b.ops) × (length (Instructions.code.spell b.ops) ≤ 65535)
unfolding ops
code_items pool b fit =
    let here = first_true ((block code_length kinds.Truncated (ops pool)).fits b.ops) ((behind_ops pool b.ops).fits (b.handlers, b.attributes)) (behind_stack pool b fit) in
    let good = first_true ((ops pool).fits b.ops) (code_length.fits (length (Instructions.code.spell b.ops))) here in
    let size = second_true ((ops pool).fits b.ops) (code_length.fits (length (Instructions.code.spell b.ops))) here in (
      first_true (Instructions.code.fits b.ops) (list_all (λ p. names_well pool p.op) b.ops) good,
      short (length (Instructions.code.spell b.ops)) (second_true (u4.fits (length (Instructions.code.spell b.ops))) (is_good (length_fault (length (Instructions.code.spell b.ops)))) size),
    )

pub code_branches : (ps : List Placed) (p : Placed) → IsTrue (Instructions.code.fits ps) → IsIn p ps → IsTrue (Instructions.leads ps p)
unfolding Instructions.code
code_branches ps p fit is = at_index (Instructions.leads ps) ps is.0 p (second_true (Instructions.instructions.fits ps) (list_all (Instructions.leads ps) ps) fit) is.1

code_behind : (pool : List Entry) (b : CodeBody) → IsTrue ((code_content pool).fits b) → IsTrue ((behind_ops pool b.ops).fits (b.handlers, b.attributes))
code_behind pool b fit = second_true ((block code_length kinds.Truncated (ops pool)).fits b.ops) ((behind_ops pool b.ops).fits (b.handlers, b.attributes)) (behind_stack pool b fit)

handler_leads : (pool : List Entry) (ps : List Placed) (h : Handler) → IsTrue ((handler pool ps).fits h) → Leads ps h
unfolding handler
handler_leads pool ps h fit =
    let good = second_true ((u2 · u2 · u2 · index (names_caught pool)).fits (handler_parts h)) (is_good (target_fault ps (handler_parts h))) fit in
    let all = is_no_fault (nat_lt h.start h.end && (begins ps h.start && (ends ps h.end && begins ps h.at))) kinds.Target good in
    let places = second_true (nat_lt h.start h.end) (begins ps h.start && (ends ps h.end && begins ps h.at)) all in
    let others = second_true (begins ps h.start) (ends ps h.end && begins ps h.at) places in (
      ltb-true h.start h.end (first_true (nat_lt h.start h.end) (begins ps h.start && (ends ps h.end && begins ps h.at)) all),
      first_true (begins ps h.start) (ends ps h.end && begins ps h.at) places,
      first_true (ends ps h.end) (begins ps h.at) others,
      second_true (ends ps h.end) (begins ps h.at) others,
    )

pub code_leads : (pool : List Entry) (b : CodeBody) (h : Handler) → IsTrue ((code_content pool).fits b) → IsIn h b.handlers → Leads b.ops h
code_leads pool b h fit is =
    let all = first_true ((counted u2 (handler pool b.ops)).fits b.handlers) ((counted_from u2 (attribute pool) saw_maps false).fits b.attributes) (code_behind pool b fit) in
    let each = first_true (list_all (handler pool b.ops).fits b.handlers) (u2.fits (length b.handlers)) all in
    handler_leads pool b.ops h (at_index (handler pool b.ops).fits b.handlers is.0 h each is.1)

frames_fit : (pool : List Entry) (seen : Bool) (name : ℕ) (fs : List RawFrame) → IsTrue ((attribute pool seen).fits (code.Maps name fs)) → IsTrue (StackMapFormat.maps.fits fs)
unfolding attribute
frames_fit pool seen name fs fit =
    maps_fitting pool fs (content_body (is_maps pool name) (maps pool) fs (second_true ((name_once pool (is_maps pool) kinds.Maps seen).fits name) ((content (is_maps pool name) (maps pool)).fits (inl fs)) fit))

pub code_frames : (pool : List Entry) (b : CodeBody) (name : ℕ) (fs : List RawFrame) → IsTrue ((code_content pool).fits b) → IsIn (code.Maps name fs) b.attributes → IsTrue (StackMapFormat.maps.fits fs)
code_frames pool b name fs fit is =
    let all = second_true ((counted u2 (handler pool b.ops)).fits b.handlers) ((counted_from u2 (attribute pool) saw_maps false).fits b.attributes) (code_behind pool b fit) in
    let each = first_true (fits_from (λ seen. (attribute pool seen).fits) saw_maps false b.attributes) (u2.fits (length b.attributes)) all in
    let one = from_at (λ seen. (attribute pool seen).fits) saw_maps false b.attributes is.0 (code.Maps name fs) each is.1 in
    frames_fit pool one.0 name fs one.1

-- ---- the pool

text_good : (o : Option ClassFault) (bytes : List ℕ) → is_good (or_else (unless (is_modified bytes) kinds.Text) o) ≡ true → IsTrue (is_modified bytes)
text_good o bytes h = elim (cases_Bool (is_modified bytes)) [
  | inl good ↦ good
  | inr bad ↦ let no : is_good (or_else (unless false kinds.Text) o) ≡ true = rw bad at h in absurd cc
]

pub text_is_modified : (c : ClassParts) (i : ℕ) (bytes : List ℕ) → IsTrue (class_file.fits c) → slice_get c.pool i ≡ Some (Utf8 bytes) → IsTrue (is_modified bytes)
unfolding class_file strict PoolChecks.head no_fault entry_fault
text_is_modified c i bytes fit at =
    let head = first_true (PoolChecks.head.fits (class_parts c).0) ((tail c.pool).fits (class_parts c).1) fit in
    let good = second_true (ClassFileShape.head.fits (class_parts c).0) (no_fault c.pool) head in
    text_good (option_map pool_fault (ConstantPools.entry_fault c.pool (Utf8 bytes))) bytes (at_index (λ one. is_good (entry_fault c.pool one)) c.pool i (Utf8 bytes) good at)
