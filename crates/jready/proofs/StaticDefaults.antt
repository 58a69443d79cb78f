-- What statics hold at first.
use Rattle.std.proofs.Common.{◌≡◌, ℕ, ◌+◌, ◌<◌, ◌≤◌, Bool, true, false, cond, List, [], ◌∷◌, ◌++◌, length, get_or, map, take, Option, refl, sym, ap, subst}
use Rattle.std.proofs.Common.{◌∙◌}
use Rattle.std.specs.Prelude.{option_map, unwrap_or}
use Rattle.std.specs.List.{filter, flat_map}
use Rattle.std.proofs.lemmas.List.{append_assoc, append-nil, map-append, take_all, take_more}
use Rattle.std.proofs.lemmas.List.Elements.{filter-append}
use Rattle.std.proofs.lemmas.List.Concat.{flat_map-append}
use Rattle.jclass.specs.declared.class.ClassParts.{ClassParts}
use Rattle.jclass.specs.declared.class.MemberInfo.{MemberInfo}
use Rattle.jmemory.specs.declared.jheap.cell.CellType.{CellType}
use Rattle.jvalues.specs.declared.jops.value.Value.{Value}
use Rattle.jtypes.specs.declared.vtype.VType.{VType}
use Rattle.jtypes.specs.declared.vtype.VType.TheVariants as types
use Rattle.jresolution.specs.declared.jprogram.part.CodePart.{CodePart}
use Rattle.jresolution.specs.jprogram.ProgramClasses.{Program}
use Rattle.jresolution.specs.jprogram.ClassFileParts.{member_desc}
use Rattle.jresolution.specs.declared.juses.types.TypeRef.{TypeRef}
use Rattle.jresolution.specs.juses.PoolTables.{pool_at}
use Rattle.jresolution.specs.juses.DescriptorTypes.{typed}
use Rattle.jresolution.specs.juses.InternedTypes.{named}
use Rattle.jresolution.proofs.JusesProofs.Spans.{pairs_push}
use Rattle.jresolution.specs.jlayout.FieldKinds.{or_top}
use Rattle.jresolution.specs.jlayout.FieldLayout as layout
use Rattle.jresolution.specs.ProofNames
use Rattle.jresolution.specs.jlayout.InternedFields.{all_statics}
use Rattle.jsemantics.specs.jmachine.Narrowing.{default, narrowed}
use Rattle.jsemantics.specs.jmachine.OpeningState.{constant_of, value_of}
use Rattle.jready.specs.declared.instr.Narrow.{Narrow}
use Rattle.jready.specs.declared.statics.StaticRow.{StaticRow}
use Rattle.jready.specs.InlineOperands.{cell_of, narrow}
use Rattle.jready.specs.Statics.{AreStatics, IsStatic, first_in, nothing, own_statics}

-- ---- what a place holds before anything is put there

nothing_default : (t : VType) → default {K = ℕ} t ≡ nothing (cell_of t)
nothing_default types.Top = refl
nothing_default types.Int = refl
nothing_default types.Long = refl
nothing_default types.Null = refl
nothing_default types.UninitThis = refl
nothing_default (types.Uninit at) = refl
nothing_default (types.Object c) = refl
nothing_default (types.Array a) = refl
nothing_default types.Ctx = refl

-- a cell of a field, by the type that its descriptor says
pub cell_is : (p q : Program) (c : ClassParts) (m : MemberInfo) (desc : List ℕ) (o : Option TypeRef) (cell : CellType) → q ≡ p → desc ≡ member_desc c m
    → or_top (option_map (named q) o) ≡ ProofNames.held_type (typed q desc)
    → ((p : Program) → cell_of (or_top (option_map (named p) o)) ≡ cell) → cell_of (layout.field_type p c m) ≡ cell
cell_is p q c m desc o cell same is held cells =
    ap (λ (d : List ℕ). cell_of (ProofNames.held_type (typed p d))) (sym is) ∙ ap (λ (r : Program). cell_of (ProofNames.held_type (typed r desc))) (sym same)
    ∙ sym (ap cell_of held) ∙ cells q

-- ---- a static

pub static_is : (p : Program) (c : ClassParts) (m : MemberInfo) (row : StaticRow) (n : Narrow) → pool_at p row.class ≡ c.pool
    → cell_of (layout.field_type p c m) ≡ row.cell
    → ((v : Value ℕ) → narrowed (layout.element (member_desc c m)) v ≡ narrow n v)
    → ((made : List (List ℕ × ℕ)) → first_in made c.pool row.cell row.first ≡ narrow n (unwrap_or (value_of made c (constant_of c m)) (nothing row.cell)))
    → IsStatic p c m row
static_is p c m row n pool cell keeps first = record {
  pooled = pool;
  celled = cell;
  begins = λ made.
      let start : default (layout.field_type p c m) ≡ nothing row.cell = nothing_default (layout.field_type p c m) ∙ ap nothing cell in
      ap (λ (v : Value ℕ). narrowed (layout.element (member_desc c m)) (unwrap_or (value_of made c (constant_of c m)) v)) start
      ∙ keeps (unwrap_or (value_of made c (constant_of c m)) (nothing row.cell)) ∙ sym (first made);
}

-- ---- those of a class

abbrev pub own : CodePart → List MemberInfo → List (CodePart × MemberInfo)
own part fields = map (λ (m : MemberInfo). (part, m)) (filter layout.is_static fields)

own_more : (part : CodePart) (fields : List MemberInfo) (m : MemberInfo)
    → own part (fields ++ m ∷ []) ≡ own part fields ++ map (λ (m : MemberInfo). (part, m)) (cond (layout.is_static m) (m ∷ []) [])
own_more part fields m =
    ap (map (λ (m : MemberInfo). (part, m))) (filter-append layout.is_static fields (m ∷ []))
    ∙ map-append (λ (m : MemberInfo). (part, m)) (filter layout.is_static fields) (filter layout.is_static (m ∷ []))

own_if : (part : CodePart) (fields : List MemberInfo) (m : MemberInfo) (b : Bool) → layout.is_static m ≡ b
    → own part (fields ++ m ∷ []) ≡ own part fields ++ map (λ (m : MemberInfo). (part, m)) (cond b (m ∷ []) [])
own_if part fields m b e = own_more part fields m ∙ ap (λ (b : Bool). own part fields ++ map (λ (m : MemberInfo). (part, m)) (cond b (m ∷ []) [])) e

next : (before : List (CodePart × MemberInfo)) (part : CodePart) (fields : List MemberInfo) (j : ℕ) (m : MemberInfo) (b : Bool) → j < length fields
    → m ≡ get_or fields j m → layout.is_static m ≡ b
    → before ++ own part (take (j + 1) fields) ≡ (before ++ own part (take j fields)) ++ map (λ (m : MemberInfo). (part, m)) (cond b (m ∷ []) [])
next before part fields j m b lt is e =
    let more : take (j + 1) fields ≡ take j fields ++ m ∷ [] = take_more fields j m lt ∙ ap (λ (z : MemberInfo). take j fields ++ z ∷ []) (sym is) in
    ap (λ (l : List MemberInfo). before ++ own part l) more ∙ ap (λ (l : List (CodePart × MemberInfo)). before ++ l) (own_if part (take j fields) m b e)
    ∙ sym (append_assoc before (own part (take j fields)) (map (λ (m : MemberInfo). (part, m)) (cond b (m ∷ []) [])))

pub own_put : (p : Program) (before : List (CodePart × MemberInfo)) (part : CodePart) (fields : List MemberInfo) (j : ℕ) (m : MemberInfo)
    (rows new : List StaticRow) (row : StaticRow)
    → j < length fields → m ≡ get_or fields j m → layout.is_static m ≡ true → AreStatics p (before ++ own part (take j fields)) rows
    → IsStatic p part.class m row → new ≡ rows ++ row ∷ []
    → AreStatics p (before ++ own part (take (j + 1) fields)) new
own_put p before part fields j m rows new row lt is e h one put =
    let all = next before part fields j m true lt is e in
    let pushed = pairs_push (λ (x : CodePart × MemberInfo) (row : StaticRow). IsStatic p x.0.class x.1 row) (before ++ own part (take j fields)) rows
    (part, m) row h one in
    subst (λ (l : List (CodePart × MemberInfo)). AreStatics p l new) (sym all)
    (subst (AreStatics p ((before ++ own part (take j fields)) ++ (part, m) ∷ [])) (sym put) pushed)

pub own_passed : (p : Program) (before : List (CodePart × MemberInfo)) (part : CodePart) (fields : List MemberInfo) (j : ℕ) (m : MemberInfo)
    (rows : List StaticRow)
    → j < length fields → m ≡ get_or fields j m → layout.is_static m ≡ false → AreStatics p (before ++ own part (take j fields)) rows
    → AreStatics p (before ++ own part (take (j + 1) fields)) rows
own_passed p before part fields j m rows lt is e h =
    let all = next before part fields j m false lt is e ∙ append-nil (before ++ own part (take j fields)) in
    subst (λ (l : List (CodePart × MemberInfo)). AreStatics p l rows) (sym all) h

-- ---- those of a program

pub class_put : (p : Program) (i : ℕ) (part : CodePart) (rows new : List StaticRow) → i < length p.parts → part ≡ get_or p.parts i part
    → AreStatics p (flat_map own_statics (take i p.parts)) rows
    → ((before : List (CodePart × MemberInfo)) → AreStatics p before rows → AreStatics p (before ++ own_statics part) new)
    → AreStatics p (flat_map own_statics (take (i + 1) p.parts)) new
class_put p i part rows new lt is h put =
    let more : take (i + 1) p.parts ≡ take i p.parts ++ part ∷ [] = take_more p.parts i part lt ∙ ap (λ (z : CodePart). take i p.parts ++ z ∷ []) (sym is) in
    let all : flat_map own_statics (take (i + 1) p.parts) ≡ flat_map own_statics (take i p.parts) ++ own_statics part =
    ap (flat_map own_statics) more ∙ flat_map-append own_statics (take i p.parts) (part ∷ [])
    ∙ ap (λ (l : List (CodePart × MemberInfo)). flat_map own_statics (take i p.parts) ++ l) (append-nil (own_statics part)) in
    subst (λ (l : List (CodePart × MemberInfo)). AreStatics p l new) (sym all) (put (flat_map own_statics (take i p.parts)) h)

pub all_put : (p : Program) (i : ℕ) (rows : List StaticRow) → length p.parts ≤ i → AreStatics p (flat_map own_statics (take i p.parts)) rows
    → AreStatics p (all_statics p) rows
all_put p i rows le h = subst (λ (ps : List CodePart). AreStatics p (flat_map own_statics ps) rows) (take_all i p.parts le) h
