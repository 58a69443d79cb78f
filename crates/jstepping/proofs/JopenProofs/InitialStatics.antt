-- A static holds at first what its cell can hold: a class file is one only where constants suit their fields (JVMS 4.7.2).
use Rattle.std.proofs.Common.{◌≡◌, ◌+◌, ℕ, Bool, true, false, cond, List, [], ◌∷◌, ◌++◌, map, Option, Some, None, refl, sym, ap, ◌∙◌}
use Rattle.std.specs.Prelude.{IsTrue, codes, is_some, option_and_then, option_map, slice_get, unwrap_or}
use Rattle.std.specs.List.{AllByRecursion, filter, flat_map, list_all}
use Rattle.std.proofs.lemmas.List.{map-append}
use Rattle.jground.specs.jbase.FirstFaults.{first_some}
use Rattle.jground.proofs.JformatProofs.ReadingSteps.{first_true, second_true}
use Rattle.jmemory.specs.declared.jheap.cell.CellType.{CellType}
use Rattle.jmemory.specs.declared.jheap.cell.CellType.TheVariants as cells
use Rattle.jmemory.specs.jheap.RawValues.{type_of}
use Rattle.jvalues.specs.declared.jops.value.Value.{Value}
use Rattle.jvalues.specs.declared.jops.value.Value.TheVariants.{Ref}
use Rattle.jparts.specs.declared.jpool.entry.Entry.{Entry}
use Rattle.jparts.specs.declared.jpool.entry.Entry.TheVariants as entries
use Rattle.jparts.specs.jpool.Descriptors.{base_at, class_at, closing_at, descriptor_of, field_of, method_of, params_at, return_at, slots_of, type_at}
use Rattle.jparts.specs.jpool.ClassNames.{is_class_name}
use Rattle.jparts.specs.jpool.ConstantPools.{utf8_at}
use Rattle.jclass.specs.declared.class.ClassParts.{ClassParts}
use Rattle.jclass.specs.declared.class.MemberInfo.{MemberInfo}
use Rattle.jclass.specs.MemberFormat.{field}
use Rattle.jclass.specs.FlagRules.{suits, suits_field}
use Rattle.jclass.specs.ProofNames.{suits_type}
use Rattle.jresolution.specs.declared.jprogram.part.CodePart.{CodePart}
use Rattle.jresolution.specs.jprogram.ProgramClasses.{Program, find}
use Rattle.jresolution.specs.jprogram.ClassFileParts.{member_desc, or_empty, text}
use Rattle.jtypes.specs.declared.vtype.Element.TheVariants as elements
use Rattle.jtypes.specs.declared.vtype.VType.{VType}
use Rattle.jtypes.specs.declared.vtype.VType.TheVariants as types
use Rattle.jresolution.specs.juses.DescriptorTypes as typing
use Rattle.jresolution.specs.ProofNames
use Rattle.jresolution.specs.juses.DescriptorTypes.{type_in, typed}
use Rattle.jresolution.specs.jlayout.FieldLayout.{element, field_type, is_static}
use Rattle.jresolution.specs.ProofNames.{held_type as held}
use Rattle.jresolution.specs.jlayout.InternedFields.{all_statics}
use Rattle.jsemantics.specs.jmachine.ObjectInstructions.{units_of}
use Rattle.jsemantics.specs.jmachine.Narrowing.{default}
use Rattle.jsemantics.specs.jmachine.OpeningState.{constant_of, first_value, value_in, value_of}
use Rattle.jsemantics.specs.jmachine.Store.{constant_at}
use Rattle.jsemantics.proofs.JmachineProofs.Constants.{class_fields, field_suits, held_by, int_held, long_held, text_is}
use Rattle.jrows.specs.jobjs.NewObjects.{cell_of}
use Rattle.jrows.proofs.JobjsProofs.Statics.{kept_type}
use Rattle.jserving.specs.jcells.UserClassCells.{field_cell}
use Rattle.jlinking.specs.jlink.ProgramFiles.{IsFile}

abbrev string_there : Bool → VType
string_there b = held (ProofNames.held (option_map (typing.type_of 0) (option_map elements.Class (cond b (Some (typing.name (codes "java/lang/String"))) None))))

string_by : (b : Bool) → cell_of (string_there b) ≡ cells.Ref
string_by true = refl
string_by false = refl

string_is : (p : Program) → held_by p (codes "Ljava/lang/String;") ≡ string_there (is_some (find p (codes "java/lang/String")))
unfolding typed type_in descriptor_of method_of field_of params_at closing_at type_at base_at class_at return_at slots_of is_class_name
string_is p = refl

string_held : (p : Program) → cell_of (held_by p (codes "Ljava/lang/String;")) ≡ cells.Ref
string_held p = ap cell_of (string_is p) ∙ string_by (is_some (find p (codes "java/lang/String")))

-- ---- what a field holds at first

default_type : (t : VType) → type_of (default {K = ℕ} t) ≡ cell_of t
default_type types.Top = refl
default_type types.Int = refl
default_type types.Long = refl
default_type types.Null = refl
default_type types.UninitThis = refl
default_type (types.Uninit at) = refl
default_type (types.Object c) = refl
default_type (types.Array a) = refl
default_type types.Ctx = refl

ref_or : (o : Option ℕ) (v : Value ℕ) → type_of v ≡ cells.Ref → type_of (unwrap_or (option_map Ref o) v) ≡ cells.Ref
ref_or None v e = e
ref_or (Some n) v e = refl

-- by what its constant is, where this suits a descriptor
by_constant : (p : Program) (made : List (List ℕ × ℕ)) (c : ClassParts) (d : List ℕ) (one : Entry) → suits d (Some one) ≡ true
    → type_of (unwrap_or (value_of made c (Some one)) (default (held_by p d))) ≡ cell_of (held_by p d)
by_constant p made c d entries.Unused e = absurd cc
by_constant p made c d (entries.Utf8 t) e = absurd cc
by_constant p made c d (entries.Integer n) e = sym (ap cell_of (int_held p d e))
by_constant p made c d (entries.Float n) e = default_type (held_by p d)
by_constant p made c d (entries.Long n) e = sym (ap cell_of (ap (held_by p) (text_is d (codes "J") e) ∙ long_held p))
by_constant p made c d (entries.Double n) e = default_type (held_by p d)
by_constant p made c d (entries.Class n) e = absurd cc
by_constant p made c d (entries.Str i) e =
    let ref : cell_of (held_by p d) ≡ cells.Ref = ap (λ (t : List ℕ). cell_of (held_by p t)) (text_is d (codes "Ljava/lang/String;") e) ∙ string_held p in
    ref_or (constant_at made (units_of (text c.pool i))) (default (held_by p d)) (default_type (held_by p d) ∙ ref) ∙ sym ref
by_constant p made c d (entries.Field a b) e = absurd cc
by_constant p made c d (entries.Method a b) e = absurd cc
by_constant p made c d (entries.InterfaceMethod a b) e = absurd cc
by_constant p made c d (entries.NameAndType a b) e = absurd cc
by_constant p made c d (entries.MethodHandle a b) e = absurd cc
by_constant p made c d (entries.MethodType a) e = absurd cc
by_constant p made c d (entries.InvokeDynamic a b) e = absurd cc

-- by what stands at an index that suits
by_text : (p : Program) (made : List (List ℕ × ℕ)) (c : ClassParts) (o : Option (List ℕ)) (q : Option Entry) → suits_type o q ≡ true
    → type_of (unwrap_or (value_of made c q) (default (held_by p (or_empty o)))) ≡ cell_of (held_by p (or_empty o))
by_text p made c None q e = absurd cc
by_text p made c (Some d) None e = default_type (held_by p d)
by_text p made c (Some d) (Some one) e = by_constant p made c d one e

by_index : (p : Program) (made : List (List ℕ × ℕ)) (c : ClassParts) (m : MemberInfo) (o : Option ℕ)
    → ((i : ℕ) → o ≡ Some i → IsTrue (suits_field c.pool m.desc i))
    → type_of (unwrap_or (value_of made c (option_and_then (slice_get c.pool) o)) (default (field_type p c m))) ≡ cell_of (field_type p c m)
unfolding suits_field
by_index p made c m None h = default_type (field_type p c m)
by_index p made c m (Some i) h = by_text p made c (utf8_at c.pool m.desc) (slice_get c.pool i) (h i refl)

field_holds : (p : Program) (made : List (List ℕ × ℕ)) (c : ClassParts) (m : MemberInfo) → IsTrue ((field c.pool).fits m)
    → type_of (first_value p made c m) ≡ cell_of (field_type p c m)
field_holds p made c m fit =
    kept_type (element (member_desc c m)) (unwrap_or (value_of made c (constant_of c m)) (default (field_type p c m)))
    ∙ by_index p made c m (first_some value_in m.attributes) (λ i is. field_suits c.pool m i fit is)

-- ---- all statics

abbrev pub value_at : Program → List (List ℕ × ℕ) → CodePart × MemberInfo → CellType
value_at p made x = type_of (first_value p made x.0.class x.1)

abbrev pub cell_at : Program → CodePart × MemberInfo → CellType
cell_at p x = field_cell p x.0 x.1

own_hold : (p : Program) (made : List (List ℕ × ℕ)) (part : CodePart) (fields : List MemberInfo) → IsTrue (list_all (field part.class.pool).fits fields)
    → map (value_at p made) (map (λ (m : MemberInfo). (part, m)) (filter is_static fields)) ≡ map (cell_at p) (map (λ (m : MemberInfo). (part, m)) (filter is_static fields))
own_hold p made part [] fit = refl
own_hold p made part (m ∷ fields) fit =
    by_static (is_static m) (own_hold p made part fields (second_true ((field part.class.pool).fits m) (list_all (field part.class.pool).fits fields) fit))
  where
    by_static : (b : Bool)
        → map (value_at p made) (map (λ (m : MemberInfo). (part, m)) (filter is_static fields)) ≡ map (cell_at p) (map (λ (m : MemberInfo). (part, m)) (filter is_static fields))
        → map (value_at p made) (map (λ (m : MemberInfo). (part, m)) (cond b (m ∷ filter is_static fields) (filter is_static fields)))
        ≡ map (cell_at p) (map (λ (m : MemberInfo). (part, m)) (cond b (m ∷ filter is_static fields) (filter is_static fields)))
    by_static true rest =
        ap (λ (t : CellType). t ∷ map (value_at p made) (map (λ (m : MemberInfo). (part, m)) (filter is_static fields)))
        (field_holds p made part.class m (first_true ((field part.class.pool).fits m) (list_all (field part.class.pool).fits fields) fit))
        ∙ ap (λ (l : List CellType). cell_at p (part, m) ∷ l) rest
    by_static false rest = rest

abbrev own : CodePart → List (CodePart × MemberInfo)
own part = map (λ (m : MemberInfo). (part, m)) (filter is_static part.class.fields)

parts_hold : (p : Program) (made : List (List ℕ × ℕ)) (parts : List CodePart) → AllByRecursion IsFile parts
    → map (value_at p made) (flat_map own parts) ≡ map (cell_at p) (flat_map own parts)
parts_hold p made [] h = refl
parts_hold p made (part ∷ parts) h =
    map-append (value_at p made) (own part) (flat_map own parts)
    ∙ ap (λ (l : List CellType). l ++ map (value_at p made) (flat_map own parts)) (own_hold p made part part.class.fields (class_fields part.class h.0))
    ∙ ap (λ (l : List CellType). map (cell_at p) (own part) ++ l) (parts_hold p made parts h.1)
    ∙ sym (map-append (cell_at p) (own part) (flat_map own parts))

-- what statics hold at first is of their cells' types
pub all_hold : (p : Program) (made : List (List ℕ × ℕ)) → AllByRecursion IsFile p.parts → map (value_at p made) (all_statics p) ≡ map (cell_at p) (all_statics p)
all_hold p made h = parts_hold p made p.parts h
