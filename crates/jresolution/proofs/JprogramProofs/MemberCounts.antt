-- How many members a class file has.
use Rattle.std.proofs.Common.{◌≡◌, ℕ, ◌<◌, List, length, ap, ◌∙◌, arith}
use Rattle.std.specs.Prelude.{IsTrue}
use Rattle.std.specs.List.{list_all}
use Rattle.std.proofs.lemmas.Bool.{ltb-true}
use Rattle.jground.specs.jformat.BodyFormats.{counted}
use Rattle.jground.specs.jformat.Format.{◌·◌}
use Rattle.jground.proofs.JformatProofs.ReadingSteps.{first_true, second_true}
use Rattle.jparts.specs.declared.jpool.entry.Entry.{Entry}
use Rattle.jclass.specs.declared.class.ClassParts.{ClassParts}
use Rattle.jclass.specs.declared.class.MemberInfo.{MemberInfo}
use Rattle.jclass.specs.IndexFormats.{u2, access, index}
use Rattle.jclass.specs.FlagRules.{names_class, names_super}
use Rattle.jclass.specs.Attributes.{class_attribute}
use Rattle.jclass.specs.PoolChecks
use Rattle.jclass.specs.MemberFormat.{field, method}
use Rattle.jclass.specs.Class.{TailParts, class_file, class_parts, strict, tail}
use Rattle.jclass.proofs.ClassLaws.{tail_methods}

class_tail : (c : ClassParts) → IsTrue (class_file.fits c) → IsTrue ((tail c.pool).fits (class_parts c).1)
unfolding class_file strict
class_tail c fit = second_true (PoolChecks.head.fits (class_parts c).0) ((tail c.pool).fits (class_parts c).1) fit

pub tail_fields : (pool : List Entry) (t : TailParts) → IsTrue ((tail pool).fits t) → IsTrue ((counted u2 (field pool)).fits t.1.1.1.1.0)
unfolding tail
tail_fields pool t fit =
    let a = second_true (access.fits t.0) ((index (names_class pool) · index (names_super pool) · counted u2 (index (names_class pool)) · counted u2 (field pool) · counted u2 (method pool) · counted u2 (class_attribute pool)).fits t.1) fit in
    let b = second_true ((index (names_class pool)).fits t.1.0) ((index (names_super pool) · counted u2 (index (names_class pool)) · counted u2 (field pool) · counted u2 (method pool) · counted u2 (class_attribute pool)).fits t.1.1) a in
    let c = second_true ((index (names_super pool)).fits t.1.1.0) ((counted u2 (index (names_class pool)) · counted u2 (field pool) · counted u2 (method pool) · counted u2 (class_attribute pool)).fits t.1.1.1) b in
    let d = second_true ((counted u2 (index (names_class pool))).fits t.1.1.1.0) ((counted u2 (field pool) · counted u2 (method pool) · counted u2 (class_attribute pool)).fits t.1.1.1.1) c in
    first_true ((counted u2 (field pool)).fits t.1.1.1.1.0) ((counted u2 (method pool) · counted u2 (class_attribute pool)).fits t.1.1.1.1.1) d

pub few_methods : (c : ClassParts) → IsTrue (class_file.fits c) → length c.methods < 65536
few_methods c fit = ltb-true (length c.methods) 65536 (second_true (list_all (method c.pool).fits c.methods) (u2.fits (length c.methods)) (tail_methods c.pool (class_parts c).1 (class_tail c fit)))

pub few_fields : (c : ClassParts) → IsTrue (class_file.fits c) → length c.fields < 65536
few_fields c fit = ltb-true (length c.fields) 65536 (second_true (list_all (field c.pool).fits c.fields) (u2.fits (length c.fields)) (tail_fields c.pool (class_parts c).1 (class_tail c fit)))

-- the place of one of a class file's methods
pub method_place : (c d : ClassParts) (ms : List MemberInfo) (i : ℕ) → d ≡ c → ms ≡ d.methods → IsTrue (class_file.fits c) → i < length ms → i < 65536
method_place c d ms i same is fit lt =
    let few : length c.methods < 65536 = few_methods c fit in
    let size : length ms ≡ length c.methods = ap length is ∙ ap (λ (x : ClassParts). length x.methods) same in
    omega (arith, few, size)

pub field_place : (c d : ClassParts) (fs : List MemberInfo) (i : ℕ) → d ≡ c → fs ≡ d.fields → IsTrue (class_file.fits c) → i < length fs → i < 65536
field_place c d fs i same is fit lt =
    let few : length c.fields < 65536 = few_fields c fit in
    let size : length fs ≡ length c.fields = ap length is ∙ ap (λ (x : ClassParts). length x.fields) same in
    omega (arith, few, size)
