-- What meets the demands on a class file by a pool meets them by one that has grown (JVMS 4.1, 4.5, 4.7).
use Rattle.std.proofs.Common.{◌≡◌, ℕ, Bool, true, false, ◌&&◌, not, List, [], ◌∷◌, length, Option, Some, None, refl, sym, ap, subst, ◌∙◌, inl, inr}
use Rattle.std.specs.Prelude.{IsTrue, is_some, slice_get, codes, ◌||◌}
use Rattle.std.specs.List.{list_all}
use Rattle.jground.specs.jformat.Format.{is_good, unless}
use Rattle.jground.specs.jformat.BodyFormats.{block}
use Rattle.jground.specs.jformat.StatefulFormats.{counted_from, fits_from}
use Rattle.jground.proofs.JformatProofs.ReadingSteps.{both, first_true, second_true}
use Rattle.jparts.specs.declared.jpool.entry.Entry.{Entry}
use Rattle.jparts.specs.jpool.Descriptors.{is_field_descriptor}
use Rattle.jparts.specs.jpool.ConstantPools.{class_name_at, is_utf8, utf8_at}
use Rattle.jclass.specs.declared.access.Access.{Access}
use Rattle.jclass.specs.declared.class.Attribute.{Attribute}
use Rattle.jclass.specs.declared.class.Attribute.TheVariants.{Code, ConstantValue, Raw}
use Rattle.jclass.specs.declared.class.MemberInfo.{MemberInfo}
use Rattle.jclass.specs.declared.fault.ClassFault.{ClassFault}
use Rattle.jclass.specs.declared.fault.ClassFault.TheVariants.{Index, Truncated}
use Rattle.jclass.specs.IndexFormats.{access, index, run, u2, u4}
use Rattle.jclass.specs.FlagRules.{descriptor_fault, field_descriptor, is_constant_value, is_static, is_text, names_caught, names_class, names_super, suits_field, is_plain_class}
use Rattle.jclass.specs.ProofNames.{suits_type}
use Rattle.jclass.specs.Attributes.{class_attribute, constant, content, field_attribute, is_constant, name_fault, name_once, saw_constant, text_index}
use Rattle.jclass.specs.MemberFormat.{field}
use Rattle.jmove.specs.PoolAdditions.{IsFront}
use Rattle.jmoveclass.proofs.PoolStability.{class_name_stays, class_stays, is_there, kept_test, same_text, text_utf8, utf8_stays}

-- ---- tests

pub both_on : (a b c d : Bool) → (IsTrue a → IsTrue c) → (IsTrue b → IsTrue d) → IsTrue (a && b) → IsTrue (c && d)
both_on a b c d f g h = both c d (f (first_true a b h)) (g (second_true a b h))

pub all_on : {A : Type 0} (p q : A → Bool) → ((x : A) → IsTrue (p x) → IsTrue (q x)) → (xs : List A) → IsTrue (list_all p xs) → IsTrue (list_all q xs)
all_on p q f [] h = refl
all_on p q f (x ∷ xs) h = both_on (p x) (list_all p xs) (q x) (list_all q xs) (f x) (all_on p q f xs) h

pub from_on : {S A : Type 0} (p q : S → A → Bool) (next : S → A → S) → ((s : S) (x : A) → IsTrue (p s x) → IsTrue (q s x)) → (s : S) (xs : List A) → IsTrue (fits_from p next s xs) → IsTrue (fits_from q next s xs)
unfolding fits_from
from_on p q next f s [] h = refl
from_on p q next f s (x ∷ xs) h = both_on (p s x) (fits_from p next (next s x) xs) (q s x) (fits_from q next (next s x) xs) (f s x) (from_on p q next f (next s x) xs) h

pub good_is : {K : Type 0} (b : Bool) (kind : K) → IsTrue (is_good (unless b kind)) → IsTrue b
good_is true kind h = refl
good_is false kind h = absurd cc

pub is_good_of : {K : Type 0} (b : Bool) (kind : K) → IsTrue b → IsTrue (is_good (unless b kind))
is_good_of true kind h = refl
is_good_of false kind h = absurd cc

pub index_on : (p q : ℕ → Bool) (i : ℕ) → (IsTrue (p i) → IsTrue (q i)) → IsTrue ((index p).fits i) → IsTrue ((index q).fits i)
index_on p q i f h = both_on (u2.fits i) (is_good (unless (p i) Index)) (u2.fits i) (is_good (unless (q i) Index)) (λ x. x) (λ x. is_good_of (q i) Index (f (good_is (p i) Index x))) h

-- ---- classes

plain_on : (pool whole : List Entry) → IsFront pool whole → (i : ℕ) (o : Option (List ℕ)) → class_name_at pool i ≡ o → IsTrue (is_plain_class o) → IsTrue (is_plain_class (class_name_at whole i))
plain_on pool whole f i None e h = absurd cc
plain_on pool whole f i (Some name) e h = ap is_plain_class (class_name_stays pool whole f i name e) ∙ h

pub names_class_on : (pool whole : List Entry) → IsFront pool whole → (i : ℕ) → IsTrue (names_class pool i) → IsTrue (names_class whole i)
unfolding names_class
names_class_on pool whole f i h = plain_on pool whole f i (class_name_at pool i) refl h

either_on : (a b c : Bool) → (IsTrue b → IsTrue c) → IsTrue (a || b) → IsTrue (a || c)
either_on true b c f h = refl
either_on false b c f h = f h

pub names_super_on : (pool whole : List Entry) → IsFront pool whole → (i : ℕ) → IsTrue (names_super pool i) → IsTrue (names_super whole i)
unfolding names_super
names_super_on pool whole f i h = either_on _ (names_class pool i) (names_class whole i) (names_class_on pool whole f i) h

pub names_caught_on : (pool whole : List Entry) → IsFront pool whole → (i : ℕ) → IsTrue (names_caught pool i) → IsTrue (names_caught whole i)
unfolding names_caught
names_caught_on pool whole f i h = either_on _ _ _ (class_stays pool whole f i) h

-- ---- attributes

pub text_index_on : (pool whole : List Entry) → IsFront pool whole → (i : ℕ) → IsTrue ((text_index pool).fits i) → IsTrue ((text_index whole).fits i)
text_index_on pool whole f i h = index_on (is_utf8 pool) (is_utf8 whole) i (utf8_stays pool whole f i) h

pub text_of_index : (pool : List Entry) (i : ℕ) → IsTrue ((text_index pool).fits i) → IsTrue (is_utf8 pool i)
text_of_index pool i h = good_is (is_utf8 pool i) Index (second_true (u2.fits i) (is_good (unless (is_utf8 pool i) Index)) h)

pub class_attribute_on : (pool whole : List Entry) → IsFront pool whole → (a : Attribute) → IsTrue ((class_attribute pool).fits a) → IsTrue ((class_attribute whole).fits a)
unfolding class_attribute
class_attribute_on pool whole f (Raw name bytes) h = both_on ((text_index pool).fits name) (run.fits bytes) ((text_index whole).fits name) (run.fits bytes) (text_index_on pool whole f name) (λ x. x) h
class_attribute_on pool whole f (ConstantValue name value) h = absurd cc
class_attribute_on pool whole f (Code name stack locals ops handlers others) h = absurd cc

name_good : (a b : Bool) (again : ClassFault) → IsTrue (is_good (name_fault a b again)) → IsTrue a
name_good true b again h = refl
name_good false b again h = absurd cc

name_on : (a b c d : Bool) (again : ClassFault) → a ≡ b → c ≡ d → IsTrue (is_good (name_fault a c again)) → IsTrue (is_good (name_fault b d again))
name_on a b c d again e g h = subst (λ (x : Bool). IsTrue (is_good (name_fault x d again))) e (subst (λ (x : Bool). IsTrue (is_good (name_fault a x again))) g h)

pub once_text : (pool : List Entry) (here : ℕ → Bool) (again : ClassFault) (seen : Bool) (i : ℕ) → IsTrue ((name_once pool here again seen).fits i) → IsTrue (is_utf8 pool i)
once_text pool here again seen i h = name_good (is_utf8 pool i) (seen && here i) again (second_true (u2.fits i) (is_good (name_fault (is_utf8 pool i) (seen && here i) again)) h)

pub once_on : (pool whole : List Entry) → IsFront pool whole → (here there : ℕ → Bool) (again : ClassFault) (seen : Bool) (i : ℕ) → here i ≡ there i
    → IsTrue ((name_once pool here again seen).fits i) → IsTrue ((name_once whole there again seen).fits i)
once_on pool whole f here there again seen i same h =
    let text = once_text pool here again seen i h in
    both (u2.fits i) (is_good (name_fault (is_utf8 whole i) (seen && there i) again)) (first_true (u2.fits i) (is_good (name_fault (is_utf8 pool i) (seen && here i) again)) h)
    (name_on (is_utf8 pool i) (is_utf8 whole i) (seen && here i) (seen && there i) again (text ∙ sym (utf8_stays pool whole f i text)) (ap (λ (x : Bool). seen && x) same)
    (second_true (u2.fits i) (is_good (name_fault (is_utf8 pool i) (seen && here i) again)) h))

-- ---- constants

same_constant : (pool whole : List Entry) → IsFront pool whole → (a : Access) (i : ℕ) → IsTrue (is_utf8 pool i) → is_constant pool a i ≡ is_constant whole a i
unfolding is_constant_value
same_constant pool whole f a i h = ap (λ (o : Option (List ℕ)). is_static a && is_text o (codes "ConstantValue")) (sym (same_text pool whole f i h))

suits_nothing : (type : Option (List ℕ)) → suits_type type None ≡ false
suits_nothing None = refl
suits_nothing (Some type) = refl

some_text : (pool : List Entry) (i : ℕ) (o : Option (List ℕ)) → utf8_at pool i ≡ o → IsTrue (is_some o) → IsTrue (is_utf8 pool i)
some_text pool i None e h = absurd cc
some_text pool i (Some text) e h = text_utf8 pool i text e

suits_on : (pool whole : List Entry) → IsFront pool whole → (desc i : ℕ) → IsTrue (suits_field pool desc i) → IsTrue (suits_field whole desc i)
unfolding suits_field
suits_on pool whole f desc i h =
    let text = some_text pool desc (utf8_at pool desc) refl (is_there (λ o. suits_type o (slice_get pool i)) (utf8_at pool desc) refl h) in
    let entry = kept_test pool whole f (λ o. suits_type (utf8_at pool desc) o) (suits_nothing (utf8_at pool desc)) i h in
    ap (λ (o : Option (List ℕ)). suits_type o (slice_get whole i)) (same_text pool whole f desc text) ∙ ap (suits_type (utf8_at pool desc)) entry ∙ h

constant_on : (pool whole : List Entry) → IsFront pool whole → (desc i : ℕ) → IsTrue ((constant pool desc).fits i) → IsTrue ((constant whole desc).fits i)
constant_on pool whole f desc i h = index_on (suits_field pool desc) (suits_field whole desc) i (suits_on pool whole f desc i) h

pub field_attribute_on : (pool whole : List Entry) → IsFront pool whole → (a : Access) (desc : ℕ) (seen : Bool) (x : Attribute) → IsTrue ((field_attribute pool a desc seen).fits x) → IsTrue ((field_attribute whole a desc seen).fits x)
unfolding field_attribute
field_attribute_on pool whole f a desc seen (ConstantValue name value) h =
    let once = first_true ((name_once pool (is_constant pool a) Index seen).fits name) ((content (is_constant pool a name) (constant pool desc)).fits (inl value)) h in
    let same = same_constant pool whole f a name (once_text pool (is_constant pool a) Index seen name once) in
    both_on ((name_once pool (is_constant pool a) Index seen).fits name) ((content (is_constant pool a name) (constant pool desc)).fits (inl value))
    ((name_once whole (is_constant whole a) Index seen).fits name) ((content (is_constant whole a name) (constant whole desc)).fits (inl value))
    (once_on pool whole f (is_constant pool a) (is_constant whole a) Index seen name same)
    (both_on (is_constant pool a name) ((block u4 Truncated (constant pool desc)).fits value) (is_constant whole a name) ((block u4 Truncated (constant whole desc)).fits value) (λ x. sym same ∙ x)
    (both_on ((constant pool desc).fits value) (u4.fits (length ((constant pool desc).spell value))) ((constant whole desc).fits value) (u4.fits (length ((constant pool desc).spell value))) (constant_on pool whole f desc value) (λ x. x))) h
field_attribute_on pool whole f a desc seen (Raw name bytes) h =
    let once = first_true ((name_once pool (is_constant pool a) Index seen).fits name) ((content (is_constant pool a name) (constant pool desc)).fits (inr bytes)) h in
    let same = same_constant pool whole f a name (once_text pool (is_constant pool a) Index seen name once) in
    both_on ((name_once pool (is_constant pool a) Index seen).fits name) ((content (is_constant pool a name) (constant pool desc)).fits (inr bytes))
    ((name_once whole (is_constant whole a) Index seen).fits name) ((content (is_constant whole a name) (constant whole desc)).fits (inr bytes))
    (once_on pool whole f (is_constant pool a) (is_constant whole a) Index seen name same)
    (both_on (not (is_constant pool a name)) (run.fits bytes) (not (is_constant whole a name)) (run.fits bytes) (λ x. ap not (sym same) ∙ x) (λ x. x)) h
field_attribute_on pool whole f a desc seen (Code name stack locals ops handlers others) h = absurd cc

-- ---- fields

desc_good : (good : List ℕ → Bool) (o : Option (List ℕ)) → IsTrue (is_good (descriptor_fault good o)) → IsTrue (is_some o)
desc_good good None h = absurd cc
desc_good good (Some text) h = refl

field_desc_on : (pool whole : List Entry) → IsFront pool whole → (i : ℕ) → IsTrue ((field_descriptor pool).fits i) → IsTrue ((field_descriptor whole).fits i)
unfolding field_descriptor
field_desc_on pool whole f i h =
    let good = second_true (u2.fits i) (is_good (descriptor_fault is_field_descriptor (utf8_at pool i))) h in
    let same = same_text pool whole f i (some_text pool i (utf8_at pool i) refl (desc_good is_field_descriptor (utf8_at pool i) good)) in
    both (u2.fits i) (is_good (descriptor_fault is_field_descriptor (utf8_at whole i))) (first_true (u2.fits i) (is_good (descriptor_fault is_field_descriptor (utf8_at pool i))) h)
    (ap (λ (o : Option (List ℕ)). is_good (descriptor_fault is_field_descriptor o)) same ∙ good)

pub field_on : (pool whole : List Entry) → IsFront pool whole → (m : MemberInfo) → IsTrue ((field pool).fits m) → IsTrue ((field whole).fits m)
unfolding field
field_on pool whole f m h =
    let attributes : List Entry → Bool = λ p. (counted_from u2 (field_attribute p m.flags m.desc) saw_constant false).fits m.attributes in
    let desc : List Entry → Bool = λ p. (field_descriptor p).fits m.desc && attributes p in
    let name : List Entry → Bool = λ p. (text_index p).fits m.name && desc p in
    both_on (access.fits m.flags) (name pool) (access.fits m.flags) (name whole) (λ x. x)
    (both_on ((text_index pool).fits m.name) (desc pool) ((text_index whole).fits m.name) (desc whole) (text_index_on pool whole f m.name)
    (both_on ((field_descriptor pool).fits m.desc) (attributes pool) ((field_descriptor whole).fits m.desc) (attributes whole) (field_desc_on pool whole f m.desc)
    (both_on (fits_from (λ seen. (field_attribute pool m.flags m.desc seen).fits) saw_constant false m.attributes) (u2.fits (length m.attributes))
    (fits_from (λ seen. (field_attribute whole m.flags m.desc seen).fits) saw_constant false m.attributes) (u2.fits (length m.attributes))
    (from_on (λ seen. (field_attribute pool m.flags m.desc seen).fits) (λ seen. (field_attribute whole m.flags m.desc seen).fits) saw_constant (field_attribute_on pool whole f m.flags m.desc) false m.attributes) (λ x. x)))) h
