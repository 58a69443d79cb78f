-- The cells of objects, field by field and class by class.
use Rattle.std.proofs.Common.{◌≡◌, ℕ, ◌+◌, ◌<◌, ◌≤◌, Bool, true, false, cond, List, [], ◌∷◌, ◌++◌, length, get_or, map, take, Option, Some, None, refl, sym, ap, subst, ◌∙◌, arith, append_assoc}
use Rattle.std.specs.Prelude.{not, option_and_then, option_map, reverse, slice_get}
use Rattle.std.specs.List.{filter, flat_map}
use Rattle.std.proofs.lemmas.List.{append-nil, map-append, take_all}
use Rattle.std.proofs.lemmas.List.Elements.{filter-append}
use Rattle.std.proofs.lemmas.Option.{slice_get_past}
use Rattle.jclass.specs.declared.class.ClassParts.{ClassParts}
use Rattle.jclass.specs.declared.class.MemberInfo.{MemberInfo}
use Rattle.jmemory.specs.declared.jheap.cell.CellType.{CellType}
use Rattle.jresolution.specs.declared.jprogram.part.CodePart.{CodePart}
use Rattle.jresolution.specs.jprogram.ClassFileParts.{member_desc, super_name, this_name}
use Rattle.jresolution.specs.jprogram.ProgramClasses.{Class, Program, User, above, find, ref_of, named as class_name}
use Rattle.jresolution.specs.jprogram.OrderedPrograms.{StandsInOrder}
use Rattle.jresolution.proofs.JprogramProofs.ImplementationRows.{found_part, own_place}
use Rattle.jresolution.proofs.JprogramProofs.ClassHeights.{Libs, Nowhere, Stands, Users, stands}
use Rattle.jtypes.specs.declared.vtype.VType.{VType}
use Rattle.jtypes.specs.declared.vtype.VType.TheVariants as types
use Rattle.jresolution.specs.declared.juses.types.TypeRef.{TypeRef}
use Rattle.jresolution.specs.juses.DescriptorTypes.{typed}
use Rattle.jresolution.specs.juses.InternedTypes.{named}
use Rattle.jresolution.specs.jlayout.FieldCounts.{above_at, user_in}
use Rattle.jresolution.specs.jlayout.FieldKinds.{or_top}
use Rattle.jresolution.specs.jlayout.FieldLayout.{field_type, is_instance, is_static, layout, own_types}
use Rattle.jresolution.specs.ProofNames.{held_type as held}
use Rattle.jresolution.proofs.JlayoutProofs.Lists.{get_none, push_length}
use Rattle.jresolution.proofs.JlayoutProofs.Walks.{above_in, from_above, layout_is, lib_layout, none_layout, reverse_push}
use Rattle.jsemantics.specs.jmachine.World.{world}
use Rattle.jready.specs.declared.statics.StaticRow.{StaticRow}
use Rattle.jready.specs.InlineOperands as exact
use Rattle.jready.specs.Statics.{AreStatics}
use Rattle.jruntime.specs.declared.jstate.shapes.Shape.{Shape}
use Rattle.jruntime.specs.declared.jstate.shapes.Shapes.{Shapes}
use Rattle.jrows.specs.jobjs.NewObjects.{HasShape, cell_of}
use Rattle.jserving.specs.declared.jcells.lines.Line.{Line}
use Rattle.jserving.specs.jcells.UserClassCells.{AreLines, AreLinesTo, AreShapesTo, IsLine, IsShape, cells_at, cells_from, cells_in, field_cell, own_at, own_in, plain_cell}
use Rattle.jserving.proofs.JcellsProofs.ListGrowth.{each_more, each_none, item_there, take_next}

-- ---- the cell of a field

pub field_is : (p q : Program) (part : CodePart) (parts : ClassParts) (m : MemberInfo) (desc : List ℕ) (o : Option TypeRef) (cell : CellType)
    → q ≡ p → parts ≡ part.class → desc ≡ member_desc parts m → or_top (option_map (named q) o) ≡ held (typed q desc)
    → ((p : Program) → cell_of (or_top (option_map (named p) o)) ≡ cell) → cell ≡ field_cell p part m
field_is p q part parts m desc o cell same whole is holds cells =
    sym (cells q) ∙ ap cell_of holds ∙ ap (λ (r : Program). cell_of (held (typed r desc))) same
    ∙ ap (λ (d : List ℕ). cell_of (held (typed p d))) (is ∙ ap (λ (c : ClassParts). member_desc c m) whole)

-- ---- those of a class's own fields

abbrev pub own : Program → CodePart → List MemberInfo → List CellType
own p part fields = map (field_cell p part) (filter is_instance fields)

own_more : (p : Program) (part : CodePart) (fields : List MemberInfo) (m : MemberInfo) (b : Bool) → is_instance m ≡ b
    → own p part (fields ++ m ∷ []) ≡ own p part fields ++ map (field_cell p part) (cond b (m ∷ []) [])
own_more p part fields m b e =
    ap (map (field_cell p part)) (filter-append is_instance fields (m ∷ []))
    ∙ map-append (field_cell p part) (filter is_instance fields) (filter is_instance (m ∷ []))
    ∙ ap (λ (b : Bool). own p part fields ++ map (field_cell p part) (cond b (m ∷ []) [])) e

own_next : (p : Program) (part : CodePart) (fields : List MemberInfo) (j : ℕ) (m : MemberInfo) (b : Bool) → j < length fields → m ≡ get_or fields j m
    → is_instance m ≡ b → own p part (take (j + 1) fields) ≡ own p part (take j fields) ++ map (field_cell p part) (cond b (m ∷ []) [])
own_next p part fields j m b lt is e = ap (own p part) (take_next fields j m lt is) ∙ own_more p part (take j fields) m b e

pub own_put : (p : Program) (part : CodePart) (fields : List MemberInfo) (j : ℕ) (m : MemberInfo) (cells new : List CellType) (cell : CellType)
    → j < length fields → m ≡ get_or fields j m → is_static m ≡ false → cells ≡ own p part (take j fields) → cell ≡ field_cell p part m
    → new ≡ cells ++ cell ∷ [] → new ≡ own p part (take (j + 1) fields)
own_put p part fields j m cells new cell lt is e h one put =
    put ∙ ap (λ (l : List CellType). l ++ cell ∷ []) h ∙ ap (λ (c : CellType). own p part (take j fields) ++ c ∷ []) one
    ∙ sym (own_next p part fields j m true lt is (ap not e))

pub own_passed : (p : Program) (part : CodePart) (fields : List MemberInfo) (j : ℕ) (m : MemberInfo) (cells : List CellType)
    → j < length fields → m ≡ get_or fields j m → is_static m ≡ true → cells ≡ own p part (take j fields) → cells ≡ own p part (take (j + 1) fields)
own_passed p part fields j m cells lt is e h =
    h ∙ sym (append-nil (own p part (take j fields))) ∙ sym (own_next p part fields j m false lt is (ap not e))

pub own_end : (p : Program) (part : CodePart) (fields : List MemberInfo) (j : ℕ) (cells : List CellType) → fields ≡ part.class.fields → length fields ≤ j
    → cells ≡ own p part (take j fields) → cells ≡ own_in p (Some part)
own_end p part fields j cells is le h = h ∙ ap (own p part) (take_all j fields le ∙ is)

-- ---- what is kept of each class

pub lines_begin : (p : Program) (lines : List Line) → lines ≡ [] → AreLinesTo p lines 0
lines_begin p lines empty = record { count = ap length empty; each = each_none (IsLine p) lines empty }

pub lines_more : (p : Program) (lines new : List Line) (i : ℕ) (x : Line) → AreLinesTo p lines i → IsLine p i x → new ≡ lines ++ x ∷ [] → AreLinesTo p new (i + 1)
lines_more p lines new i x h is put = record {
  count = ap length put ∙ push_length lines x i h.count;
  each = each_more (IsLine p) lines new x i h.count h.each is put;
}

pub lines_end : (p : Program) (lines : List Line) (n : ℕ) → AreLinesTo p lines n → n ≡ length p.parts → AreLines p lines
lines_end p lines n h is = subst (AreLinesTo p lines) is h

past : (p : Program) (lines : List Line) (i : ℕ) → AreLines p lines → slice_get lines i ≡ None → slice_get p.parts i ≡ None
past p lines i h none = slice_get_past p.parts i (let le = get_none lines i none in let size = h.count in omega (arith, le, size))

pub no_above : (p : Program) (lines : List Line) (i : ℕ) → AreLines p lines → slice_get lines i ≡ None → None ≡ above_at p i
no_above p lines i h none = sym (ap (above_in p i) (past p lines i h none))

pub no_own : (p : Program) (lines : List Line) (i : ℕ) → AreLines p lines → slice_get lines i ≡ None → [] ≡ own_at p i
no_own p lines i h none = sym (ap (own_in p) (past p lines i h none))

-- ---- an object has the cells of the class above, and its class's own

module _ (p : Program) (good : StandsInOrder p) where
  abbrev Found : Option Class → List CellType
  Found o = cells_from p (user_in (option_map ref_of o))

  cells_named : (d : List ℕ) → Stands p d → map cell_of (layout p d) ≡ Found (find p d)
  cells_named d (Users i part at name is) =
      ap (λ (n : List ℕ). map cell_of (layout p n)) (sym name) ∙ sym (ap (cells_in p) at) ∙ sym (ap Found is)
  cells_named d (Libs l named is) = ap (map cell_of) (lib_layout p good l d is) ∙ sym (ap Found is)
  cells_named d (Nowhere none) = ap (map cell_of) (none_layout p good d none) ∙ sym (ap Found none)

  cells_above : (o : Option (List ℕ)) → map cell_of (from_above p o) ≡ Found (option_and_then (find p) o)
  cells_above None = refl
  cells_above (Some d) = cells_named d (stands p d)

  own_mapped : (part : CodePart) (fields : List MemberInfo) → map cell_of (map (field_type p part.class) fields) ≡ map (field_cell p part) fields
  own_mapped part [] = refl
  own_mapped part (m ∷ fields) = ap (λ (l : List CellType). field_cell p part m ∷ l) (own_mapped part fields)

  cells_by : (i : ℕ) (o : Option CodePart) → slice_get p.parts i ≡ o → cells_in p o ≡ cells_from p (above_in p i o) ++ own_in p o
  cells_by i None at = refl
  cells_by i (Some part) at =
      let is = found_part p good (this_name part.class) i part (own_place p good i part at) at in
      let all : layout p (this_name part.class) ≡ from_above p (super_name part.class) ++ map (field_type p part.class) (filter is_instance part.class.fields) =
      layout_is p good (this_name part.class) ∙ ap (λ (x : Option Class). from_above p (option_and_then above x) ++ own_types p x) is in
      ap (map cell_of) all ∙ map-append cell_of (from_above p (super_name part.class)) (map (field_type p part.class) (filter is_instance part.class.fields))
      ∙ ap (λ (l : List CellType). l ++ map cell_of (map (field_type p part.class) (filter is_instance part.class.fields))) (cells_above (super_name part.class))
      ∙ ap (λ (l : List CellType). Found (option_and_then (find p) (super_name part.class)) ++ l) (own_mapped part (filter is_instance part.class.fields))

  pub cells_is : (i : ℕ) → cells_at p i ≡ cells_from p (above_at p i) ++ own_at p i
  cells_is i = cells_by i (slice_get p.parts i) refl

-- ---- a path upwards

abbrev pub along : Program → List ℕ → List CellType
along p path = flat_map (own_at p) (reverse path)

pub path_begin : (p : Program) (class : ℕ) (path : List ℕ) → path ≡ [] → cells_at p class ≡ cells_from p (Some class) ++ along p path
path_begin p class path empty = sym (append-nil (cells_at p class)) ∙ ap (λ (xs : List ℕ). cells_at p class ++ along p xs) (sym empty)

pub path_on : (p : Program) → StandsInOrder p → (class at : ℕ) (now next : Option ℕ) (path more : List ℕ) → now ≡ Some at → next ≡ above_at p at
    → more ≡ path ++ at ∷ [] → cells_at p class ≡ cells_from p now ++ along p path → cells_at p class ≡ cells_from p next ++ along p more
path_on p good class at now next path more here is pushed h =
    h ∙ ap (λ (o : Option ℕ). cells_from p o ++ along p path) here
    ∙ ap (λ (l : List CellType). l ++ along p path) (cells_is p good at)
    ∙ append_assoc (cells_from p (above_at p at)) (own_at p at) (along p path)
    ∙ ap (λ (o : Option ℕ). cells_from p o ++ (own_at p at ++ along p path)) (sym is)
    ∙ ap (λ (xs : List ℕ). cells_from p next ++ flat_map (own_at p) xs) (sym (ap reverse pushed ∙ reverse_push path at))

pub path_end : (p : Program) (class : ℕ) (now : Option ℕ) (path : List ℕ) → now ≡ None → cells_at p class ≡ cells_from p now ++ along p path
    → cells_at p class ≡ along p path
path_end p class now path none h = h ∙ ap (λ (o : Option ℕ). cells_from p o ++ along p path) none

pub popped : (p : Program) (all cells new own : List CellType) (path rest : List ℕ) (at : ℕ) → all ≡ cells ++ along p path → path ≡ rest ++ at ∷ []
    → own ≡ own_at p at → new ≡ cells ++ own → all ≡ new ++ along p rest
popped p all cells new own path rest at h is owns put =
    h ∙ ap (λ (xs : List ℕ). cells ++ flat_map (own_at p) xs) (ap reverse is ∙ reverse_push rest at)
    ∙ sym (append_assoc cells (own_at p at) (along p rest))
    ∙ ap (λ (l : List CellType). (cells ++ l) ++ along p rest) (sym owns)
    ∙ ap (λ (l : List CellType). l ++ along p rest) (sym put)

pub all_popped : (p : Program) (all cells : List CellType) (path : List ℕ) → path ≡ [] → all ≡ cells ++ along p path → cells ≡ all
all_popped p all cells path empty h = sym (h ∙ ap (λ (xs : List ℕ). cells ++ along p xs) empty ∙ append-nil cells)

-- ---- shapes

world_by : (p : Program) (i : ℕ) (part : CodePart) → slice_get p.parts i ≡ Some part → cells_at p i ≡ map cell_of ((world p).layout i)
unfolding world
world_by p i part at =
    ap (cells_in p) at ∙ sym (ap (λ (o : Option CodePart). map cell_of (layout p (class_name (option_map (λ (x : CodePart). User i x.class) o)))) at)

pub world_cells : (p : Program) (i : ℕ) → i < length p.parts → cells_at p i ≡ map cell_of ((world p).layout i)
world_cells p i lt = let x = item_there p.parts i lt in world_by p i x.0 x.1

pub shapes_begin : (p : Program) (shapes : List Shape) → shapes ≡ [] → AreShapesTo p shapes 0
shapes_begin p shapes empty = record { count = ap length empty; each = each_none (IsShape p) shapes empty }

pub shapes_more : (p : Program) (shapes new : List Shape) (i : ℕ) (s : Shape) → AreShapesTo p shapes i → IsShape p i s → new ≡ shapes ++ s ∷ []
    → AreShapesTo p new (i + 1)
shapes_more p shapes new i s h is put = record {
  count = ap length put ∙ push_length shapes s i h.count;
  each = each_more (IsShape p) shapes new s i h.count h.each is put;
}

pub shapes_end : (p : Program) (shapes : List Shape) (n : ℕ) → AreShapesTo p shapes n → n ≡ length p.parts → AreShapesTo p shapes (length p.parts)
shapes_end p shapes n h is = subst (AreShapesTo p shapes) is h

pub has_shape : (p : Program) (shapes : Shapes) (i : ℕ) → AreShapesTo p shapes.users (length p.parts) → i < length p.parts → HasShape (world p) shapes i
has_shape p shapes i h lt =
    let x = item_there shapes.users i (let size = h.count in omega (arith, size, lt)) in
    let is = h.each i x.0 x.1 in
    record { shape = x.0; there = x.1; fields = is.fields; message = is.message }

-- ---- statics

plain_is : (t : VType) → cell_of t ≡ plain_cell (exact.cell_of t)
plain_is types.Top = refl
plain_is types.Int = refl
plain_is types.Long = refl
plain_is types.Null = refl
plain_is types.UninitThis = refl
plain_is (types.Uninit at) = refl
plain_is (types.Object c) = refl
plain_is (types.Array a) = refl
plain_is types.Ctx = refl

abbrev pub plain_of : StaticRow → CellType
plain_of row = plain_cell row.cell

abbrev pub static_cell : Program → CodePart × MemberInfo → CellType
static_cell p x = field_cell p x.0 x.1

pub static_cells : (p : Program) (all : List (CodePart × MemberInfo)) (rows : List StaticRow) → AreStatics p all rows → map plain_of rows ≡ map (static_cell p) all
static_cells p [] [] h = refl
static_cells p [] (row ∷ rows) h = absurd h
static_cells p (x ∷ all) [] h = absurd h
static_cells p (x ∷ all) (row ∷ rows) h =
    let one : plain_of row ≡ static_cell p x = sym (plain_is (field_type p x.0.class x.1) ∙ ap plain_cell h.0.celled) in
    ap (λ (c : CellType). c ∷ map plain_of rows) one ∙ ap (λ (l : List CellType). static_cell p x ∷ l) (static_cells p all rows h.1)
