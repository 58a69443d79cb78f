-- What a method's frames say that its locals hold where it begins, and what typing has there, in programs that link.
use Rattle.std.proofs.Common.{◌≡◌, ℕ, ◌≤◌, Bool, true, false, cond, ◌&&◌, not, List, [], ◌∷◌, ◌++◌, length, map, Option, Some, None, refl, ap, sym, ◌∙◌, subst, arith, inl, inr}
use Rattle.std.specs.Prelude.{IsTrue, is_some, option_map, nat_lt, ◌||◌, ◌==◌, ◌^◌, if◌then◌else◌}
use Rattle.std.specs.List.{list_all, list_any}
use Rattle.std.specs.Str.{byte}
use Rattle.std.proofs.lemmas.Bool.{cases_Bool, eqb-true, ltb-false}
use Rattle.std.proofs.lemmas.List.{reverse-reverse}
use Rattle.jground.specs.jbase.ListMaps.{each_some, put_front}
use Rattle.jground.proofs.JformatProofs.ReadingSteps.{first_true, second_true}
use Rattle.jparts.specs.declared.jpool.descriptor.Descriptor.TheVariants as descriptors
use Rattle.jparts.specs.declared.jpool.descriptor.FieldType.{FieldType}
use Rattle.jparts.specs.jpool.Descriptors.{descriptor_of, is_base, is_return, is_type}
use Rattle.jparts.specs.jpool.ClassNames.{is_class_name}
use Rattle.jparts.specs.declared.jmaps.types.MapType.TheVariants as items
use Rattle.jclass.specs.declared.class.ClassParts.{ClassParts}
use Rattle.jclass.specs.declared.class.CodeBody.{CodeBody}
use Rattle.jclass.specs.declared.class.MemberInfo.{MemberInfo}
use Rattle.jtypes.specs.declared.vtype.Element.{Element}
use Rattle.jtypes.specs.declared.vtype.Element.TheVariants as elements
use Rattle.jtypes.specs.declared.vtype.Name.{Name}
use Rattle.jtypes.specs.declared.vtype.VType.{VType}
use Rattle.jtypes.specs.declared.vtype.VType.TheVariants as types
use Rattle.jtypes.specs.TypeFrames.{places}
use Rattle.jmove.specs.ProofNames.{width}
use Rattle.jlinking.specs.jmembers.MemberDeclarations.{param_left_out, type_missing}
use Rattle.jlinking.specs.ProofNames.{return_left_out, return_missing}
use Rattle.jresolution.specs.jprogram.UnsupportedTypes.{is_floating}
use Rattle.jresolution.specs.jprogram.ProgramClasses.{Program, find}
use Rattle.jresolution.specs.jprogram.ClassFileParts.{is_static, member_desc, this_name}
use Rattle.jresolution.specs.jprogram.SuperChecks.{is_missing}
use Rattle.jresolution.specs.juses.DescriptorTypes.{called, element_in, name, return_in, there, type_in, type_of, typed}
use Rattle.jtyping.specs.jwelltyped.MethodPremises as typing
use Rattle.jtyping.specs.jwelltyped.MethodPremises.{method_of, receiver}
use Rattle.jtyping.specs.jwelltyped.ProofNames.{this_type}
use Rattle.jmoveclass.specs.EntryLocals.{bare_beginning, bare_this, is_reference, item, this_item}
use Rattle.jresolution.specs.jprogram.MemberResolution.{is_init}
use Rattle.jrewriting.proofs.JrewriteProofs.Widths.{Under, some_place, under_append}

-- ---- what a type's letter stands for

letter_some : (z c b s i j l d f : Bool) (e1 e2 e3 e4 e5 e6 e7 : Element) → IsTrue (b || c || d || f || i || j || s || z) → d ≡ false → f ≡ false
    → IsTrue (is_some (cond z (Some e1) (cond c (Some e2) (cond b (Some e3) (cond s (Some e4) (cond i (Some e5) (cond j (Some e6) (cond l (Some e7) None))))))))
letter_some true c b s i j l d f e1 e2 e3 e4 e5 e6 e7 h g k = refl
letter_some false true b s i j l d f e1 e2 e3 e4 e5 e6 e7 h g k = refl
letter_some false false true s i j l d f e1 e2 e3 e4 e5 e6 e7 h g k = refl
letter_some false false false true i j l d f e1 e2 e3 e4 e5 e6 e7 h g k = refl
letter_some false false false false true j l d f e1 e2 e3 e4 e5 e6 e7 h g k = refl
letter_some false false false false false true l d f e1 e2 e3 e4 e5 e6 e7 h g k = refl
letter_some false false false false false false true d f e1 e2 e3 e4 e5 e6 e7 h g k = refl
letter_some false false false false false false false false false e1 e2 e3 e4 e5 e6 e7 h g k = absurd cc
letter_some false false false false false false false true f e1 e2 e3 e4 e5 e6 e7 h g k = absurd cc
letter_some false false false false false false false false true e1 e2 e3 e4 e5 e6 e7 h g k = absurd cc

pub or_false : (a b : Bool) → (a || b) ≡ false → (a ≡ false) × (b ≡ false)
or_false true b h = absurd cc
or_false false b h = (refl, h)

and_false : (a b : Bool) → IsTrue a → (a && b) ≡ false → b ≡ false
and_false true b h k = k
and_false false b h k = absurd cc

not_false : (b : Bool) → not b ≡ false → IsTrue b
not_false true h = refl
not_false false h = absurd cc

some_if : {A : Type 0} (b : Bool) (x : A) → IsTrue b → IsTrue (is_some (if b then Some x else None))
some_if true x h = refl
some_if false x h = absurd cc

there_some : (p : Program) (text : List ℕ) → is_missing p text ≡ false → IsTrue (is_some (there p text))
there_some p text h = some_if (is_some (find p text)) (name text) (not_false (is_some (find p text)) h)

map_some : {A B : Type 0} (f : A → B) (o : Option A) → IsTrue (is_some o) → IsTrue (is_some (option_map f o))
map_some f None h = absurd cc
map_some f (Some x) h = refl

otherwise : (b x y : Bool) → b ≡ false → IsTrue (if b then x else y) → IsTrue y
otherwise true x y e h = absurd cc
otherwise false x y e h = h

element_some : (p : Program) (t : FieldType) → IsTrue (is_type t) → type_missing p t ≡ false → is_floating t ≡ false → IsTrue (is_some (element_in p t))
element_some p t good here sinks = elim (cases_Bool (t.base == byte "L")) [
  | inl class ↦ rw class (map_some elements.Class (there p t.class) (there_some p t.class (and_false (t.base == byte "L") (is_missing p t.class) class here)))
  | inr other ↦
      let good_base = second_true (nat_lt t.depth (2 ^ 32)) (if t.base == byte "L" then is_class_name t.class else is_base t.base && length t.class == 0) good in
      let parts = otherwise (t.base == byte "L") (is_class_name t.class) (is_base t.base && length t.class == 0) other good_base in
      let f = or_false (t.base == byte "F") (t.base == byte "D") sinks in
      rw other (letter_some (t.base == byte "Z") (t.base == byte "C") (t.base == byte "B") (t.base == byte "S") (t.base == byte "I") (t.base == byte "J") false (t.base == byte "D") (t.base == byte "F")
      elements.Boolean elements.Char elements.Byte elements.Short elements.Int elements.Long elements.Int
      (first_true (is_base t.base) (length t.class == 0) parts) f.1 f.0)
]

pub type_some : (p : Program) (t : FieldType) → IsTrue (is_type t) → type_missing p t ≡ false → is_floating t ≡ false → IsTrue (is_some (type_in p t))
unfolding type_in
type_some p t good here sinks = map_some (type_of t.depth) (element_in p t) (element_some p t good here sinks)

-- ---- one type

is_reference_none : (t : FieldType) → is_reference t ≡ false → (t.depth ≡ 0) × ((t.base == byte "L") ≡ false)
is_reference_none t h =
    let parts = or_false (nat_lt 0 t.depth) (t.base == byte "L") h in
    let none : t.depth ≤ 0 = ltb-false 0 t.depth parts.0 in
    (omega arith, parts.1)

long_is : (p : Program) (t : FieldType) (v : VType) → t.depth ≡ 0 → t.base ≡ byte "J" → type_in p t ≡ Some v → types.Long ≡ v
unfolding type_in
long_is p t v flat base h = let is : Some types.Long ≡ Some v = rw (flat, base) at h in cc

one_wide : (b : Bool) (v : VType) → (b ≡ true → types.Long ≡ v) → width (if b then items.Long else items.Int) ≤ length (places v)
one_wide true v h = subst (λ (x : VType). 2 ≤ length (places x)) (h refl) (omega arith)
one_wide false v h = some_place v

wide : (r : Bool) (t : FieldType) (v : VType) → (r ≡ false → (t.base == byte "J") ≡ true → types.Long ≡ v) → width (if r then items.Object 0 else (if t.base == byte "J" then items.Long else items.Int)) ≤ length (places v)
wide true t v h = some_place v
wide false t v h = one_wide (t.base == byte "J") v (h refl)

type_under : (p : Program) (t : FieldType) (v : VType) → type_in p t ≡ Some v → width (item 0 t) ≤ length (places v)
type_under p t v h = wide (is_reference t) t v (λ none long. long_is p t v (is_reference_none t none).0 (eqb-true t.base (byte "J") long) h)

-- ---- parameters

-- types that are there
pub record AreThere (p : Program) (ts : List FieldType) : Type 0 where
  pub values : List VType
  pub are : each_some (type_in p) ts ≡ Some values
  pub under : Under (map (item 0) ts) values

some_is : {A : Type 0} (o : Option A) → IsTrue (is_some o) → (x : A) × (o ≡ Some x)
some_is None h = absurd cc
some_is (Some x) h = (x, refl)

param_sinks : (t : FieldType) → param_left_out t ≡ false → is_floating t ≡ false
param_sinks t h = (or_false (is_floating t) _ h).0

put_both : (o : Option VType) (os : Option (List VType)) (v : VType) (vs : List VType) → o ≡ Some v → os ≡ Some vs → put_front o os ≡ Some (v ∷ vs)
put_both o os v vs e g = ap (λ (x : Option VType). put_front x os) e ∙ ap (put_front (Some v)) g

pub are_there : (p : Program) (ts : List FieldType) → IsTrue (list_all is_type ts) → list_any (type_missing p) ts ≡ false → list_any param_left_out ts ≡ false → AreThere p ts
unfolding each_some
are_there p [] good here kept = record { values = []; are = refl; under = tt }
are_there p (t ∷ ts) good here kept =
    let h = or_false (type_missing p t) (list_any (type_missing p) ts) here in
    let k = or_false (param_left_out t) (list_any param_left_out ts) kept in
    let v = some_is (type_in p t) (type_some p t (first_true (is_type t) (list_all is_type ts) good) h.0 (param_sinks t k.0)) in
    let rest = are_there p ts (second_true (is_type t) (list_all is_type ts) good) h.1 k.1 in
    record { values = v.0 ∷ rest.values; are = put_both (type_in p t) (each_some (type_in p) ts) v.0 rest.values v.1 rest.are; under = (type_under p t v.0 v.1, rest.under) }

pub return_some : (p : Program) (ret : Option FieldType) → IsTrue (is_return ret) → return_missing p ret ≡ false → return_left_out ret ≡ false → IsTrue (is_some (return_in p ret))
return_some p None good here kept = refl
return_some p (Some t) good here kept = map_some Some (type_in p t) (type_some p t good here (or_false (is_floating t) _ kept).0)

called_is : (ps : List VType) (o : Option (Option VType)) → IsTrue (is_some o) → typing.params_of (called (Some ps) o) ≡ ps
called_is ps None h = absurd cc
called_is ps (Some ret) h = reverse-reverse ps

-- the parameters, where its descriptor names what is there
pub params_are : (p : Program) (text : List ℕ) (ts : List FieldType) (ret : Option FieldType) → descriptor_of text ≡ Some (descriptors.Method ts ret) → (there : AreThere p ts) → IsTrue (is_some (return_in p ret)) → typing.params_of (typed p text) ≡ there.values
unfolding typed
params_are p text ts ret is there back = rw is (rw there.are (called_is there.values (return_in p ret) back))

this_under : (static init : Bool) (class : Name) → Under (if static then [] else this_item init 0 ∷ []) (receiver static init class)
this_under true init class = tt
this_under false true class = (some_place (this_type true class), tt)
this_under false false class = (some_place (this_type false class), tt)

pub begun_under : (p : Program) (c : ClassParts) (m : MemberInfo) (b : CodeBody) (ts : List FieldType) (ret : Option FieldType) → descriptor_of (member_desc c m) ≡ Some (descriptors.Method ts ret) → AreThere p ts → IsTrue (is_some (return_in p ret))
    → Under (bare_beginning c m) (method_of p c m b).params
unfolding bare_beginning
begun_under p c m b ts ret is there back =
    rw is (subst (λ (vs : List VType). Under (bare_this c m ++ map (item 0) ts) (receiver (is_static m.flags) (is_init c m) (name (this_name c)) ++ vs)) (sym (params_are p (member_desc c m) ts ret is there back))
    (under_append (bare_this c m) (map (item 0) ts) (receiver (is_static m.flags) (is_init c m) (name (this_name c))) there.values (this_under (is_static m.flags) (is_init c m) (name (this_name c))) there.under))
