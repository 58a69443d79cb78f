-- The fourth phase of linking finds nothing in the moved program, and so it links.
use Rattle.std.proofs.Common.{◌≡◌, ℕ, zero, suc, ◌≤◌, Bool, List, [], ◌∷◌, map, Option, Some, None, refl, ap, sym, ◌∙◌, subst}
use Rattle.std.specs.Prelude.{nat_le, nat_lt, option_and_then, slice_get, ◌&&◌}
use Rattle.std.specs.List.{AllByRecursion}
use Rattle.std.proofs.lemmas.List.{length-map}
use Rattle.jground.specs.jbase.FirstFaults.{first_some}
use Rattle.jground.proofs.JbaseProofs.Firsts.{all_pass}
use Rattle.jparts.specs.declared.jpool.entry.Entry.{Entry}
use Rattle.jclass.specs.declared.class.Attribute.{Attribute}
use Rattle.jclass.specs.declared.class.Attribute.TheVariants.{Code, ConstantValue, Raw}
use Rattle.jclass.specs.declared.class.ClassParts.{ClassParts}
use Rattle.jclass.specs.declared.class.MemberInfo.{MemberInfo}
use Rattle.jclass.specs.MemberFormat.{body_of}
use Rattle.jresolution.specs.declared.jprogram.fault.LinkKind.{LinkKind}
use Rattle.jresolution.specs.declared.jprogram.part.CodePart.{CodePart}
use Rattle.jresolution.specs.jprogram.ProgramClasses.{Program}
use Rattle.jresolution.specs.jprogram.ClassFileParts.{code_of, text, this_name}
use Rattle.jresolution.specs.jprogram.NameChecks.{naming_fault}
use Rattle.jresolution.specs.jprogram.SuperChecks.{supers_fault}
use Rattle.jlinking.specs.jmembers.MemberDeclarations.{members_fault, at_member as in_method}
use Rattle.jlinking.specs.declared.jreferring.judged.Judged.{Judged}
use Rattle.jlinking.specs.jreferring.CodeChecks.{body_test, class_fault, code_fault, method_test}
use Rattle.jlinking.specs.jreferring.PoolEntryMeanings.{judge_pool}
use Rattle.jlinking.specs.jlink.LinkedPrograms.{AreParts, Links, domains_rise, link_fault}
use Rattle.jtyping.specs.jwelltyped.VerifierTests.{WellTyped}
use Rattle.jmoveclass.specs.MovedMembers.{new_desc}
use Rattle.jmoveclass.specs.MovedClasses.{moved_class, moved_part}
use Rattle.jrewriting.specs.jrewrite.LinkageLaws.{IsLinked}
use Rattle.jrewriting.specs.jrewrite.RewrittenPrograms.{limits, moved}
use Rattle.jrewriting.proofs.JrewriteProofs.Bodies.{AttributeGood, code_put_good}
use Rattle.jrewriting.proofs.JrewriteProofs.Calls.{Known}
use Rattle.jrewriting.proofs.JrewriteProofs.ClassLookup.{this_same}
use Rattle.jrewriting.proofs.JrewriteProofs.MemberPhase.{members_stay, none_or}
use Rattle.jrewriting.proofs.JrewriteProofs.PlainPrograms.{is_plain}
use Rattle.jrewriting.proofs.JrewriteProofs.HierarchyPhases.{extending_stays, names_stay, part_of_moved, plain_at}
use Rattle.jrewriting.proofs.JrewriteProofs.PoolAdditions.{AllPut, MethodsPut, class_put, known_of}

-- ---- what was put

abbrev AllGood : Program → List ℕ → List ℕ → List Judged → List Attribute → Type 0
AllGood q from desc table xs = AllByRecursion (λ a. AttributeGood q from desc table a) xs

attributes_good : (p : Program) (c d : ClassParts) → Known p c d → (domain : ℕ) (m : MemberInfo) (xs : List Attribute) → AllPut p c d domain m xs → AllGood (moved p) (this_name c) (new_desc c m) (judge_pool (moved p) d) xs
attributes_good p c d k domain m [] h = tt
attributes_good p c d k domain m (Code name stack locals is handlers others ∷ xs) h =
    let put = h.0 in
    let coded = put.coded in (
      subst (λ (a : Attribute). AttributeGood (moved p) (this_name c) (new_desc c m) (judge_pool (moved p) d) a) put.is (code_put_good p c d k m put.b coded.has coded.old coded.begins domain put.name put.pool put.put put.later),
      attributes_good p c d k domain m xs h.1,
    )
attributes_good p c d k domain m (ConstantValue name value ∷ xs) h = (tt, attributes_good p c d k domain m xs h.1)
attributes_good p c d k domain m (Raw name bytes ∷ xs) h = (tt, attributes_good p c d k domain m xs h.1)

codes_none : (q : Program) (from desc : List ℕ) (table : List Judged) (xs : List Attribute) → AllGood q from desc table xs → option_and_then (body_test q from desc table) (first_some body_of xs) ≡ None
unfolding first_some
codes_none q from desc table [] h = refl
codes_none q from desc table (Code name stack locals is handlers others ∷ xs) h = h.0
codes_none q from desc table (ConstantValue name value ∷ xs) h = codes_none q from desc table xs h.1
codes_none q from desc table (Raw name bytes ∷ xs) h = codes_none q from desc table xs h.1

abbrev MethodsGood : Program → List ℕ → List Entry → List Judged → List MemberInfo → Type 0
MethodsGood q from pool table ns = AllByRecursion (λ n. method_test q from pool table n ≡ None) ns

-- a moved method whose attributes are good, by the text that its descriptor is
method_none : (q : Program) (from : List ℕ) (pool : List Entry) (desc : List ℕ) (table : List Judged) (n : MemberInfo) → text pool n.desc ≡ desc → AllGood q from desc table n.attributes → method_test q from pool table n ≡ None
unfolding method_test code_of
method_none q from pool desc table n is h = ap (λ (t : List ℕ). option_and_then (body_test q from t table) (first_some body_of n.attributes)) is ∙ codes_none q from desc table n.attributes h

methods_good : (p : Program) (c d : ClassParts) → Known p c d → (domain : ℕ) (ms ns : List MemberInfo) → MethodsPut p c d domain ms ns → MethodsGood (moved p) (this_name c) d.pool (judge_pool (moved p) d) ns
methods_good p c d k domain [] [] h = tt
methods_good p c d k domain [] (n ∷ ns) h = absurd h
methods_good p c d k domain (m ∷ ms) [] h = absurd h
methods_good p c d k domain (m ∷ ms) (n ∷ ns) h = (
  method_none (moved p) (this_name c) d.pool (new_desc c m) (judge_pool (moved p) d) n h.0.desc (attributes_good p c d k domain m n.attributes h.0.attributes),
  methods_good p c d k domain ms ns h.1,
)

-- ---- what no test finds

none_in : (i j : ℕ) (o : Option LinkKind) → o ≡ None → in_method i j o ≡ None
none_in i j o e = ap (in_method i j) e

moved_methods : (p : Program) → IsLinked p → WellTyped p → limits p ≡ None → (i : ℕ) (part : CodePart) → slice_get p.parts i ≡ Some part
    → MethodsGood (moved p) (this_name part.class) (moved_class p part.domain part.class).pool (judge_pool (moved p) (moved_class p part.domain part.class)) (moved_class p part.domain part.class).methods
moved_methods p is typed none i part at =
    let d = moved_class p part.domain part.class in
    methods_good p part.class d (known_of p is typed none i part at) part.domain part.class.methods d.methods (class_put p is typed none i part at)

good_at : (q : Program) (from : List ℕ) (pool : List Entry) (table : List Judged) (ns : List MemberInfo) (j : ℕ) (n : MemberInfo) → MethodsGood q from pool table ns → slice_get ns j ≡ Some n → method_test q from pool table n ≡ None
good_at q from pool table [] j n h at = absurd cc
good_at q from pool table (x ∷ xs) zero n h at = let same : x ≡ n = cc in subst (λ (y : MemberInfo). method_test q from pool table y ≡ None) same h.0
good_at q from pool table (x ∷ xs) (suc j) n h at = good_at q from pool table xs j n h.1 at

class_good : (p : Program) → IsLinked p → WellTyped p → limits p ≡ None → (i : ℕ) (part : CodePart) → slice_get p.parts i ≡ Some part → class_fault (moved p) i (moved_class p part.domain part.class) ≡ None
unfolding class_fault
class_good p is typed none i part at =
    let c = part.class in
    let d = moved_class p part.domain c in
    let table = judge_pool (moved p) d in
    let this = this_same p part.domain c (plain_at p (is_plain p is) i part at).named in
    all_pass (λ j n. in_method i j (method_test (moved p) (this_name d) d.pool table n)) d.methods (λ j n there.
    none_in i j (method_test (moved p) (this_name d) d.pool table n)
    (ap (λ (from : List ℕ). method_test (moved p) from d.pool table n) this ∙ good_at (moved p) (this_name c) d.pool table d.methods j n (moved_methods p is typed none i part at) there))

-- what code names stays good
pub code_stays : (p : Program) → IsLinked p → WellTyped p → limits p ≡ None → code_fault (moved p) ≡ None
unfolding code_fault
code_stays p is typed none = all_pass (λ i part. class_fault (moved p) i part.class) (moved p).parts (λ i y at.
    let f = part_of_moved p i y at in
    subst (λ (z : CodePart). class_fault (moved p) i z.class ≡ None) f.is (class_good p is typed none i f.part f.at))

-- ---- linking

rise_same : (p : Program) (least : ℕ) (parts : List CodePart) → domains_rise least (map (moved_part p) parts) ≡ domains_rise least parts
unfolding domains_rise
rise_same p least [] = refl
rise_same p least (part ∷ parts) = ap (λ (b : Bool). nat_le least part.domain && (nat_lt part.domain 4096 && b)) (rise_same p part.domain parts)

parts_stay : (p : Program) → AreParts p.parts → AreParts (moved p).parts
unfolding moved
parts_stay p are = record { few = subst (λ (n : ℕ). n ≤ 0xffff) (sym (length-map p.parts (moved_part p))) are.few; domains = rise_same p 0 p.parts ∙ are.domains }

-- the moved program links
pub links_stay : (p : Program) → IsLinked p → WellTyped p → limits p ≡ None → Links (moved p)
unfolding link_fault
links_stay p is typed none =
    let plainly = is_plain p is in
    record {
      parts = parts_stay p is.links.parts;
      rules = none_or (naming_fault (moved p)) _ (names_stay p plainly)
          (none_or (supers_fault (moved p)) _ (extending_stays p plainly) (none_or (members_fault (moved p)) (code_fault (moved p)) (members_stay p is typed none) (code_stays p is typed none)));
    }
