-- What the rows of statics say of their texts and values.
use Rattle.std.proofs.Common.{◌≡◌, ℕ, Bool, true, false, cond, List, [], ◌∷◌, map, Option, Some, None, refl, sym, ap, ◌∙◌}
use Rattle.std.specs.Prelude.{option_map, unwrap_or}
use Rattle.std.specs.List.{cons_option, filter_map}
use Rattle.std.specs.Str.{bytes_eq}
use Rattle.std.proofs.lemmas.Slice.Eq.{bytes_eq-Decides}
use Rattle.jclass.specs.declared.class.ClassParts.{ClassParts}
use Rattle.jclass.specs.declared.class.MemberInfo.{MemberInfo}
use Rattle.jmemory.specs.declared.jheap.cell.CellType.{CellType}
use Rattle.jvalues.specs.declared.jops.value.Value.{Value}
use Rattle.jvalues.specs.declared.jops.value.Value.TheVariants.{Ref}
use Rattle.jparts.specs.declared.jpool.entry.Entry.{Entry}
use Rattle.jparts.specs.declared.jpool.entry.Entry.TheVariants as entries
use Rattle.jresolution.specs.declared.jprogram.part.CodePart.{CodePart}
use Rattle.jresolution.specs.jprogram.ProgramClasses.{Program}
use Rattle.jresolution.specs.jprogram.ClassFileParts.{member_desc, text}
use Rattle.jtypes.specs.declared.vtype.Element.{Element}
use Rattle.jresolution.specs.jlayout.FieldLayout.{element, field_type}
use Rattle.jsemantics.specs.jmachine.ObjectInstructions.{units_of}
use Rattle.jsemantics.specs.jmachine.Narrowing.{default, narrowed}
use Rattle.jsemantics.specs.jmachine.OpeningState.{constant_of, string_in, value_of}
use Rattle.jsemantics.specs.jmachine.Store.{constant_at}
use Rattle.jready.specs.declared.statics.First.{First}
use Rattle.jready.specs.declared.statics.First.TheVariants as firsts
use Rattle.jready.specs.declared.statics.StaticRow.{StaticRow}
use Rattle.jready.specs.Statics.{AreStatics, IsStatic, first_in, nothing}
use Rattle.jstepping.specs.jopen.StaticRows.{row_text, row_value, text_first}
use Rattle.jstepping.proofs.JopenProofs.StaticLists as flat

narrowed_ref : (e : Option Element) (n : ℕ) → narrowed {K = ℕ} e (Ref n) ≡ Ref n
narrowed_ref None n = refl
narrowed_ref (Some e) n = refl

apart : (v : Value ℕ) → v ≡ Ref 1 → v ≡ Ref 2 → ⊥
apart v one two = let same : ◌≡◌ {A = Value ℕ} (Ref 1) (Ref 2) = sym one ∙ two in cc

-- one string, of these units
abbrev only : List ℕ → ℕ → List (List ℕ × ℕ)
only t n = (t, n) ∷ []

only_at : (t : List ℕ) (n : ℕ) → constant_at (only t n) t ≡ Some n
only_at t n = ap (λ (b : Bool). cond {A = Option ℕ} b (Some n) None) ((bytes_eq-Decides t t).1 refl)

module _ (c : ClassParts) (e : Option Element) (d : Value ℕ) (cell : CellType) where
  -- what both say, whatever strings were made
  abbrev Alike : Option Entry → First → Type 0
  Alike o f = (made : List (List ℕ × ℕ)) → narrowed e (unwrap_or (value_of made c o) d) ≡ first_in made c.pool cell f

  text_at : (i n : ℕ) → first_in (only (units_of (text c.pool i)) n) c.pool cell (firsts.Text i) ≡ Ref n
  text_at i n = ap (λ (o : Option ℕ). unwrap_or (option_map Ref o) (nothing cell)) (only_at (units_of (text c.pool i)) n)

  string_at : (i n : ℕ) → narrowed e (unwrap_or (value_of (only (units_of (text c.pool i)) n) c (Some (entries.Str i))) d) ≡ Ref n
  string_at i n =
      ap (λ (o : Option ℕ). narrowed e (unwrap_or (option_map Ref o) d)) (only_at (units_of (text c.pool i)) n) ∙ narrowed_ref e n

  -- a string isn't one value
  not_known : (i : ℕ) (v : Value ℕ) → Alike (Some (entries.Str i)) (firsts.Known v) → ⊥
  not_known i v h = apart v (sym (h (only (units_of (text c.pool i)) 1)) ∙ string_at i 1) (sym (h (only (units_of (text c.pool i)) 2)) ∙ string_at i 2)

  -- what doesn't look at strings is no string
  not_text : (o : Option Entry) (i : ℕ) (v : Value ℕ) → ((made : List (List ℕ × ℕ)) → narrowed e (unwrap_or (value_of made c o) d) ≡ v) → Alike o (firsts.Text i) → ⊥
  not_text o i v same h =
      let t = units_of (text c.pool i) in
      apart v (sym (same (only t 1)) ∙ h (only t 1) ∙ text_at i 1) (sym (same (only t 2)) ∙ h (only t 2) ∙ text_at i 2)

  other_at : (s t : List ℕ) (n : ℕ) → bytes_eq t s ≡ false → narrowed e (unwrap_or (option_map Ref (constant_at (only t n) s)) d) ≡ narrowed e d
  other_at s t n other = ap (λ (b : Bool). narrowed e (unwrap_or (option_map Ref (cond b (Some n) None)) d)) other

  -- both are the same string
  same_string : (j i : ℕ) (b : Bool) → bytes_eq (units_of (text c.pool i)) (units_of (text c.pool j)) ≡ b → Alike (Some (entries.Str j)) (firsts.Text i)
      → units_of (text c.pool j) ≡ units_of (text c.pool i)
  same_string j i true is h = sym ((bytes_eq-Decides (units_of (text c.pool i)) (units_of (text c.pool j))).0 is)
  same_string j i false is h =
      let s = units_of (text c.pool j) in
      let t = units_of (text c.pool i) in
      absurd (apart (narrowed e d) (sym (other_at s t 1 is) ∙ h (only t 1) ∙ text_at i 1) (sym (other_at s t 2 is) ∙ h (only t 2) ∙ text_at i 2))

  by_text : (o : Option Entry) (i : ℕ) → Alike o (firsts.Text i) → string_in c o ≡ Some (units_of (text c.pool i))
  by_text None i h = absurd (not_text None i (narrowed e d) (λ made. refl) h)
  by_text (Some entries.Unused) i h = absurd (not_text (Some entries.Unused) i (narrowed e d) (λ made. refl) h)
  by_text (Some (entries.Utf8 t)) i h = absurd (not_text (Some (entries.Utf8 t)) i (narrowed e d) (λ made. refl) h)
  by_text (Some (entries.Integer n)) i h = absurd (not_text (Some (entries.Integer n)) i _ (λ made. refl) h)
  by_text (Some (entries.Float n)) i h = absurd (not_text (Some (entries.Float n)) i (narrowed e d) (λ made. refl) h)
  by_text (Some (entries.Long n)) i h = absurd (not_text (Some (entries.Long n)) i _ (λ made. refl) h)
  by_text (Some (entries.Double n)) i h = absurd (not_text (Some (entries.Double n)) i (narrowed e d) (λ made. refl) h)
  by_text (Some (entries.Class n)) i h = absurd (not_text (Some (entries.Class n)) i (narrowed e d) (λ made. refl) h)
  by_text (Some (entries.Str j)) i h = ap (λ (t : List ℕ). Some t) (same_string j i (bytes_eq (units_of (text c.pool i)) (units_of (text c.pool j))) refl h)
  by_text (Some (entries.Field a b)) i h = absurd (not_text (Some (entries.Field a b)) i (narrowed e d) (λ made. refl) h)
  by_text (Some (entries.Method a b)) i h = absurd (not_text (Some (entries.Method a b)) i (narrowed e d) (λ made. refl) h)
  by_text (Some (entries.InterfaceMethod a b)) i h = absurd (not_text (Some (entries.InterfaceMethod a b)) i (narrowed e d) (λ made. refl) h)
  by_text (Some (entries.NameAndType a b)) i h = absurd (not_text (Some (entries.NameAndType a b)) i (narrowed e d) (λ made. refl) h)
  by_text (Some (entries.MethodHandle a b)) i h = absurd (not_text (Some (entries.MethodHandle a b)) i (narrowed e d) (λ made. refl) h)
  by_text (Some (entries.MethodType a)) i h = absurd (not_text (Some (entries.MethodType a)) i (narrowed e d) (λ made. refl) h)
  by_text (Some (entries.InvokeDynamic a b)) i h = absurd (not_text (Some (entries.InvokeDynamic a b)) i (narrowed e d) (λ made. refl) h)

  by_known : (o : Option Entry) (v : Value ℕ) → Alike o (firsts.Known v) → string_in c o ≡ None
  by_known None v h = refl
  by_known (Some entries.Unused) v h = refl
  by_known (Some (entries.Utf8 t)) v h = refl
  by_known (Some (entries.Integer n)) v h = refl
  by_known (Some (entries.Float n)) v h = refl
  by_known (Some (entries.Long n)) v h = refl
  by_known (Some (entries.Double n)) v h = refl
  by_known (Some (entries.Class n)) v h = refl
  by_known (Some (entries.Str j)) v h = absurd (not_known j v h)
  by_known (Some (entries.Field a b)) v h = refl
  by_known (Some (entries.Method a b)) v h = refl
  by_known (Some (entries.InterfaceMethod a b)) v h = refl
  by_known (Some (entries.NameAndType a b)) v h = refl
  by_known (Some (entries.MethodHandle a b)) v h = refl
  by_known (Some (entries.MethodType a)) v h = refl
  by_known (Some (entries.InvokeDynamic a b)) v h = refl

  string_is : (o : Option Entry) (f : First) → Alike o f → string_in c o ≡ text_first c.pool f
  string_is o (firsts.Known v) h = by_known o v h
  string_is o (firsts.Text i) h = by_text o i h

-- ---- a row

row_string : (p : Program) (c : ClassParts) (m : MemberInfo) (row : StaticRow) → IsStatic p c m row → string_in c (constant_of c m) ≡ row_text p row
row_string p c m row h =
    string_is c (element (member_desc c m)) (default (field_type p c m)) row.cell (constant_of c m) row.first h.begins
    ∙ ap (λ (pool : List Entry). text_first pool row.first) (sym h.pooled)

-- ---- all

pub rows_texts : (p : Program) (all : List (CodePart × MemberInfo)) (rows : List StaticRow) → AreStatics p all rows
    → filter_map flat.string_of all ≡ filter_map (row_text p) rows
rows_texts p [] [] h = refl
rows_texts p [] (row ∷ rows) h = absurd h
rows_texts p (x ∷ all) [] h = absurd h
rows_texts p (x ∷ all) (row ∷ rows) h =
    ap (λ (o : Option (List ℕ)). cons_option o (filter_map flat.string_of all)) (row_string p x.0.class x.1 row h.0)
    ∙ ap (cons_option (row_text p row)) (rows_texts p all rows h.1)

pub rows_values : (p : Program) (made : List (List ℕ × ℕ)) (all : List (CodePart × MemberInfo)) (rows : List StaticRow) → AreStatics p all rows
    → map (flat.value_of p made) all ≡ map (row_value p made) rows
rows_values p made [] [] h = refl
rows_values p made [] (row ∷ rows) h = absurd h
rows_values p made (x ∷ all) [] h = absurd h
rows_values p made (x ∷ all) (row ∷ rows) h =
    let one : flat.value_of p made x ≡ row_value p made row =
    h.0.begins made ∙ ap (λ (pool : List Entry). first_in made pool row.cell row.first) (sym h.0.pooled) in
    ap (λ (v : Value ℕ). v ∷ map (flat.value_of p made) all) one ∙ ap (λ (l : List (Value ℕ)). row_value p made row ∷ l) (rows_values p made all rows h.1)
