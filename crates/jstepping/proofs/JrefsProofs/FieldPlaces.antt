-- Where fields stand that instructions name, by the classes of objects and among the statics.
use Rattle.std.proofs.Common.{◌≡◌, ◌∙◌, ℕ, ◌-◌, Bool, true, false, List, [], Option, Some, None, refl, sym, ap}
use Rattle.std.specs.Prelude.{map, nat_lt, option_and_then, option_map, slice_get, if◌then◌else◌}
use Rattle.std.proofs.lemmas.Option.{slice_get-map, slice_get_within}
use Rattle.jclass.specs.declared.class.ClassParts.{ClassParts}
use Rattle.jclass.specs.declared.class.MemberInfo.{MemberInfo}
use Rattle.jmemory.specs.declared.jheap.cell.CellType.{CellType}
use Rattle.jresolution.specs.declared.jprogram.member.Member.TheVariants as members
use Rattle.jresolution.specs.declared.jprogram.part.ClassRef.{ClassRef}
use Rattle.jresolution.specs.declared.jprogram.part.ClassRef.TheVariants as refs
use Rattle.jresolution.specs.declared.jprogram.part.CodePart.{CodePart}
use Rattle.jresolution.specs.jprogram.ClassFileParts as parts
use Rattle.jresolution.specs.jprogram.ClassFileParts.{this_name}
use Rattle.jresolution.specs.jprogram.ProgramClasses.{Program, User, extends, find, name_at, ref_of, named}
use Rattle.jresolution.specs.jprogram.MemberResolution.{info_of, is_static, part_of, user_is}
use Rattle.jresolution.specs.jprogram.OrderedPrograms.{StandsInOrder}
use Rattle.jresolution.proofs.JprogramProofs.ClassNumbers.{own_number}
use Rattle.jtypes.specs.declared.vtype.VType.{VType}
use Rattle.jtypes.specs.declared.vtype.VType.TheVariants as types
use Rattle.jresolution.specs.juses.InstructionMeanings.{FieldMeaning}
use Rattle.jresolution.specs.jlayout.FieldLayout as fields
use Rattle.jresolution.specs.jlayout.FieldLayout.{field_type, layout, slot}
use Rattle.jresolution.specs.jlayout.InternedFields.{IsFieldOf, all_statics}
use Rattle.jresolution.proofs.JlayoutProofs.SlotContents.{field_stands, layout_grows, static_stands}
use Rattle.jlinking.specs.jlink.NamedFields.{is_plain}
use Rattle.jlinking.specs.jlink.ClassOrder.{in_order}
use Rattle.jlinking.proofs.JlinkProofs.FittingClassFiles.{has_name}
use Rattle.jlinking.proofs.JlinkProofs.PresentValues.{map_is, then_is}
use Rattle.jsemantics.specs.jmachine.World.{world}
use Rattle.jready.specs.declared.instr.Narrow.{Narrow}
use Rattle.jready.specs.InlineOperands as exact
use Rattle.jready.specs.InlineOperands.{HoldsField}
use Rattle.jready.proofs.TableGrowth.{get_grown, got}
use Rattle.jruntime.specs.declared.jstate.shapes.Shape.{Shape}
use Rattle.jruntime.specs.jstate.ClassNumbers.{class_numbered, library_at, library_count}
use Rattle.jrows.specs.jobjs.FieldCells.{cell_type}
use Rattle.jrows.specs.jobjs.NewObjects.{HasShape, cell_of}
use Rattle.jserving.specs.jcells.UserClassCells.{field_cell}
use Rattle.jstepping.specs.declared.jrefs.lasting.Lasting.{Lasting}
use Rattle.jstepping.specs.jrefs.ReferenceRows.{IsLasting}
use Rattle.jresolution.proofs.JprogramProofs.UserSubclasses.{IsNoUser, above_is_no_user, find_unnamed, lib_no_user}

-- ---- a user's field

-- what cells hold of the types that fields have
same_cell : (t : VType) → is_plain t ≡ true → cell_of t ≡ exact.cell_of t
same_cell types.Int e = refl
same_cell types.Long e = refl
same_cell (types.Object c) e = refl
same_cell (types.Array a) e = refl
same_cell types.Top e = cc
same_cell types.Null e = cc
same_cell types.UninitThis e = cc
same_cell (types.Uninit o) e = cc
same_cell types.Ctx e = cc

member_static : (p : Program) (i j : ℕ) (c : ClassParts) (m : MemberInfo) → info_of p (members.Field i j) ≡ Some (c, m)
    → is_static p (members.Field i j) ≡ parts.is_static m.flags
unfolding is_static
member_static p i j c m e = ap (user_is (λ (one : MemberInfo). parts.is_static one.flags)) e

-- a field that is there, with its class
pub record HasField (p : Program) (f : FieldMeaning) (cell : CellType) (s : ℕ) : Type 0 where
  pub class : ℕ
  pub number : ℕ
  pub member : f.member ≡ members.Field class number
  pub part : CodePart
  pub info : MemberInfo
  pub own : IsFieldOf p class number part info
  pub placed : slot p (members.Field class number) ≡ Some s
  pub static : fields.is_static info ≡ is_static p f.member
  pub cell_is : cell_of (field_type p part.class info) ≡ cell

pub has_field : (p : Program) (f : FieldMeaning) (cell : CellType) (n : Narrow) (s owner : ℕ) → HoldsField p f cell n s owner → is_plain f.held ≡ true → HasField p f cell s
has_field p f cell n s owner h plain =
    let there : info_of p (members.Field h.class h.field) ≡ Some (h.parts, h.info) = ap (info_of p) (sym h.member) ∙ h.there in
    let c = then_is (λ (c : ClassParts). option_map (λ (m : MemberInfo). (c, m)) (slice_get c.fields h.field)) (part_of p h.class) (h.parts, h.info) there in
    let part = map_is (λ (q : CodePart). q.class) (slice_get p.parts h.class) c.0 c.1 in
    let m = map_is (λ (m : MemberInfo). (c.0, m)) (slice_get c.0.fields h.field) (h.parts, h.info) c.2 in
    let first : c.0 ≡ h.parts = ap (λ (y : ClassParts × MemberInfo). y.0) m.2 in
    let second : m.0 ≡ h.info = ap (λ (y : ClassParts × MemberInfo). y.1) m.2 in
    record {
      class = h.class;
      number = h.field;
      member = h.member;
      part = part.0;
      info = m.0;
      own = record { stands = part.1; declared = ap (λ (c : ClassParts). slice_get c.fields h.field) part.2 ∙ m.1 };
      placed = ap (slot p) (sym h.member) ∙ h.placed;
      static = ap (λ (m : MemberInfo). parts.is_static m.flags) second ∙ sym (member_static p h.class h.field h.parts h.info there) ∙ ap (is_static p) (sym h.member);
      cell_is =
          ap (λ (c : ClassParts). cell_of (field_type p c m.0)) (part.2 ∙ first) ∙ ap (λ (m : MemberInfo). cell_of (field_type p h.parts m)) second
          ∙ ap cell_of (sym h.held) ∙ same_cell f.held plain ∙ h.celled;
    }

-- ---- classes by number

pub user_name : (p : Program) (i : ℕ) (part : CodePart) → slice_get p.parts i ≡ Some part → name_at p (refs.User i) ≡ this_name part.class
user_name p i part at = ap (λ (o : Option CodePart). named (option_map (λ (q : CodePart). User i q.class) o)) at

pub user_unnamed : (p : Program) (i : ℕ) → slice_get p.parts i ≡ None → name_at p (refs.User i) ≡ []
user_unnamed p i none = ap (λ (o : Option CodePart). named (option_map (λ (q : CodePart). User i q.class) o)) none

world_layout : (p : Program) (i : ℕ) → (world p).layout i ≡ layout p (name_at p (refs.User i))
unfolding world
world_layout p i = refl

-- the cell of a slot of the objects of a user's class
abbrev pub CellAt : Lasting → ClassRef → ℕ → CellType → Type 0
CellAt x r s cell = (j : ℕ) × (r ≡ refs.User j) × (option_and_then (λ (shape : Shape). slice_get shape.cells s) (slice_get x.shapes.now.users j) ≡ Some cell)

-- by the heap's number for the class
pub numbered : (x : Lasting) (n s : ℕ) (cell : CellType) → CellAt x (class_numbered n) s cell → cell_type x.shapes.now n s ≡ Some cell
numbered x n s cell (j, is, at) = by (nat_lt n library_count) is
  where
    by : (b : Bool) → (if b then refs.Lib (library_at n) else refs.User (n - library_count)) ≡ refs.User j
        → option_and_then (λ (shape : Shape). slice_get shape.cells s) (if b then None else slice_get x.shapes.now.users (n - library_count)) ≡ Some cell
    by true e = absurd cc
    by false e =
        let same : n - library_count ≡ j = cc in
        ap (λ (k : ℕ). option_and_then (λ (shape : Shape). slice_get shape.cells s) (slice_get x.shapes.now.users k)) same ∙ at

module _ (x : Lasting) (l : IsLasting x) where
  abbrev pub p : Program
  p = x.ancestors.now

  abbrev pub good : StandsInOrder p
  good = in_order p l.links

  pub names : (i : ℕ) (part : CodePart) → slice_get p.parts i ≡ Some part → this_name part.class ≡ [] → ⊥
  names i part at e = has_name part.class (l.files i part at) e

  -- ---- fields of objects

  module _ (f : FieldMeaning) (cell : CellType) (s : ℕ) (h : HasField p f cell s) where
    user : option_map ref_of (find p (name_at p (refs.User h.class))) ≡ Some (refs.User h.class)
    user = ap (λ (n : List ℕ). option_map ref_of (find p n)) (user_name p h.class h.part h.own.stands) ∙ own_number p h.class h.part good h.own.stands

    -- a class below the one that declares it has it
    celled : (j : ℕ) (shape : HasShape (world p) x.shapes.now j) → is_static p f.member ≡ false → extends p (name_at p (refs.User j)) (name_at p (refs.User h.class)) ≡ true
        → option_and_then (λ (shape : Shape). slice_get shape.cells s) (slice_get x.shapes.now.users j) ≡ Some cell
    celled j has plain below =
        let at : slice_get (layout p (this_name h.part.class)) s ≡ Some (field_type p h.part.class h.info) =
        field_stands p h.class h.number s h.part h.info good h.own (h.static ∙ plain) h.placed in
        let here : slice_get (layout p (name_at p (refs.User h.class))) s ≡ Some (field_type p h.part.class h.info) =
        ap (λ (n : List ℕ). slice_get (layout p n) s) (user_name p h.class h.part h.own.stands) ∙ at in
        let grows = layout_grows p good (name_at p (refs.User j)) (name_at p (refs.User h.class)) below in
        let inside = got (layout p (name_at p (refs.User h.class))) s (field_type p h.part.class h.info) here in
        let there : slice_get (layout p (name_at p (refs.User j))) s ≡ Some (field_type p h.part.class h.info) =
        get_grown (layout p (name_at p (refs.User h.class))) (layout p (name_at p (refs.User j))) s grows inside ∙ here in
        ap (option_and_then (λ (shape : Shape). slice_get shape.cells s)) has.there ∙ ap (λ (cs : List CellType). slice_get cs s) has.fields
        ∙ ap (λ (ts : List VType). slice_get (map cell_of ts) s) (world_layout p j) ∙ slice_get-map cell_of (layout p (name_at p (refs.User j))) s
        ∙ ap (option_map cell_of) there ∙ ap (λ (c : CellType). Some c) h.cell_is

    pub cell_below : (r : ClassRef) → is_static p f.member ≡ false → extends p (name_at p r) (name_at p (refs.User h.class)) ≡ true → CellAt x r s cell
    cell_below (refs.Lib c) plain below = absurd (above_is_no_user p good (name_at p (refs.Lib c)) (name_at p (refs.User h.class)) below (lib_no_user p good c) h.class user)
    cell_below (refs.User j) plain below = by (slice_get p.parts j) refl
      where
        by : (o : Option CodePart) → slice_get p.parts j ≡ o → CellAt x (refs.User j) s cell
        by None none =
            let nobody : IsNoUser p good [] = λ i is.
            let never : None ≡ Some (refs.User i) = sym (ap (option_map ref_of) (find_unnamed p good names)) ∙ is in
            cc in
            absurd (above_is_no_user p good [] (name_at p (refs.User h.class))
            (sym (ap (λ (n : List ℕ). extends p n (name_at p (refs.User h.class))) (user_unnamed p j none)) ∙ below) nobody h.class user)
        by (Some part) at = (j, refl, celled j (l.tied.users j (slice_get_within p.parts j part at)) plain below)

    -- ---- statics

    pub static_cell : is_static p f.member ≡ true → slice_get x.shapes.now.statics s ≡ Some cell
    static_cell is =
        let at : slice_get (all_statics p) s ≡ Some (h.part, h.info) = static_stands p h.class h.number s h.part h.info (λ x y. (x, y)) h.own (h.static ∙ is) h.placed in
        ap (λ (cs : List CellType). slice_get cs s) l.tied.statics ∙ slice_get-map (λ (y : CodePart × MemberInfo). field_cell p y.0 y.1) (all_statics p) s
        ∙ ap (option_map (λ (y : CodePart × MemberInfo). field_cell p y.0 y.1)) at ∙ ap (λ (c : CellType). Some c) h.cell_is
