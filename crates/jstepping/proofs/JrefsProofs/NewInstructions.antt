-- What `new` and `anewarray` make.
use Rattle.std.proofs.Common.{◌≡◌, ◌∙◌, ℕ, zero, suc, ◌+◌, ◌<◌, ◌^◌, ◌&&◌, Bool, true, false, List, Option, Some, None, refl, sym, ap, subst, arith}
use Rattle.std.specs.Prelude.{is_some, nat_lt, option_and_then, option_map, slice_get, ◌==◌, if◌then◌else◌}
use Rattle.std.specs.Str.{bytes_eq}
use Rattle.std.proofs.lemmas.Option.{slice_get_within}
use Rattle.jparts.specs.declared.jcode.op_form.PoolForm.TheVariants as forms
use Rattle.jparts.specs.declared.jcode.names.CastOp.{CastOp}
use Rattle.jlib.specs.declared.classes.LibClass.{LibClass}
use Rattle.jlib.specs.LibraryClasses as library
use Rattle.jparts.specs.declared.jpool.descriptor.Descriptor.{Descriptor}
use Rattle.jparts.specs.declared.jpool.descriptor.Descriptor.TheVariants as descriptors
use Rattle.jparts.specs.declared.jpool.descriptor.FieldType.{FieldType}
use Rattle.jparts.specs.declared.jpool.entry.Entry.{Entry}
use Rattle.jparts.specs.declared.jpool.entry.Entry.TheVariants as entries
use Rattle.jparts.specs.jpool.Descriptors.{descriptor_of}
use Rattle.jparts.specs.jpool.ConstantPools.{name_and_type_at, utf8_at}
use Rattle.jresolution.specs.declared.jprogram.part.ClassRef.TheVariants as refs
use Rattle.jresolution.specs.declared.jprogram.part.CodePart.{CodePart}
use Rattle.jresolution.specs.jprogram.ProgramClasses.{Program, find, name_at, ref_of}
use Rattle.jresolution.specs.jprogram.MemberResolution.{init}
use Rattle.jresolution.proofs.JprogramProofs.ClassNumbers.{own_number}
use Rattle.jresolution.proofs.JprogramProofs.ClassHeights.{Libs, Nowhere, Stands, Users, stands}
use Rattle.jtypes.specs.declared.vtype.Element.{Element}
use Rattle.jtypes.specs.declared.vtype.Element.TheVariants as elements
use Rattle.jtypes.specs.declared.vtype.Name.{Name}
use Rattle.jtypes.specs.declared.vtype.VType.{VType}
use Rattle.jtypes.specs.declared.vtype.VType.TheVariants as types
use Rattle.jtypes.specs.DescriptorElements.{in_brackets}
use Rattle.jresolution.specs.declared.juses.types.ArrayRef.{ArrayRef}
use Rattle.jresolution.specs.juses.InstructionMeanings as meanings
use Rattle.jresolution.specs.juses.InstructionMeanings.{AClass, AConstant, AField, AMethod, Cast, EntryMeaning, Make, Meaning, entry_meant, field_entry, meant, method_entry, reference, used}
use Rattle.jresolution.specs.ProofNames.{made, cast_by}
use Rattle.jresolution.specs.juses.DescriptorTypes.{class_by, class_of, class_type, element_in, is_context, name, there, type_in, type_of}
use Rattle.jresolution.specs.juses.InternedTypes.{array_named, class_named}
use Rattle.jlinking.proofs.JlinkProofs.PresentValues.{map_is, then_is}
use Rattle.jsemantics.specs.jmachine.World.{World, world}
use Rattle.jready.specs.InlineOperands.{MakesArray}
use Rattle.jready.proofs.TableGrowth.{get_grown, got}
use Rattle.jruntime.specs.jstate.HeapMeanings.{array_at}
use Rattle.jruntime.proofs.JstateProofs.ArrayTypeNumbers.{typed_there}
use Rattle.jrows.specs.jobjs.NewObjects.{HasShape}
use Rattle.jstepping.specs.declared.jrefs.lasting.Lasting.{Lasting}
use Rattle.jstepping.specs.jrefs.ReferenceRows.{IsLasting}
use Rattle.jresolution.proofs.JprogramProofs.UserSubclasses.{find_unnamed}
use Rattle.jresolution.proofs.JprogramProofs.ReservedNames.{lib_apart, named_own}
use Rattle.jstepping.proofs.JrefsProofs.FieldPlaces.{good, names, user_name, user_unnamed}

-- ---- a class of which an object is made is there

there_is : (p : Program) (text : List ℕ) (c : Name) (b : Bool) → is_some (find p text) ≡ b
    → option_map class_of (if b then Some (name text) else None) ≡ Some (types.Object c) → is_some (find p c.0) ≡ true
there_is p text c false is e = absurd cc
there_is p text c true is e = by (is_context (elements.Class (name text))) e
  where
    by : (k : Bool) → Some (if k then types.Ctx else types.Object (name text)) ≡ Some (types.Object c) → is_some (find p c.0) ≡ true
    by true h = cc
    by false h =
        let same : name text ≡ c = cc in
        subst (λ (d : Name). is_some (find p d.0) ≡ true) same is

array_apart : (p : Program) (t : FieldType) (depth : ℕ) (c : Name) → nat_lt 0 depth ≡ true → option_map (type_of depth) (element_in p t) ≡ Some (types.Object c) → ⊥
array_apart p t zero c e h = cc
array_apart p t (suc d) c e h =
    let x = map_is (type_of (suc d)) (element_in p t) (types.Object c) h in
    by x.0 (suc d == 0 && is_context x.0) x.2
  where
    by : (y : Element) (k : Bool) → (if k then types.Ctx else in_brackets (suc d) y) ≡ types.Object c → ⊥
    by y true h = cc
    by y false h = cc

class_there : (p : Program) (text : List ℕ) (c : Name) (d : Option Descriptor) → class_by p text d ≡ Some (types.Object c) → is_some (find p c.0) ≡ true
unfolding type_in
class_there p text c None e = there_is p text c (is_some (find p text)) refl e
class_there p text c (Some (descriptors.Method params ret)) e = there_is p text c (is_some (find p text)) refl e
class_there p text c (Some (descriptors.Field t)) e = by (nat_lt 0 t.depth) refl e
  where
    by : (b : Bool) → nat_lt 0 t.depth ≡ b → (if b then type_in p t else option_map class_of (there p text)) ≡ Some (types.Object c) → is_some (find p c.0) ≡ true
    by true is h = absurd (array_apart p t t.depth c is h)
    by false is h = there_is p text c (is_some (find p text)) refl h

-- the entry is a class's
abbrev IsThere : Program → Name → Type 0
IsThere p c = is_some (find p c.0) ≡ true

mapped_apart : {A : Type 0} (make : A → EntryMeaning) (t : VType) → ((a : A) → make a ≡ AClass t → ⊥) → (o : Option A) → option_map make o ≡ Some (AClass t) → ⊥
mapped_apart make t never o e = let r = map_is make o (AClass t) e in never r.0 r.2

entry_there : (p : Program) (es : List Entry) (e : Option Entry) (c : Name) → entry_meant p es e ≡ Some (AClass (types.Object c)) → IsThere p c
unfolding entry_meant class_type
entry_there p es None c h = absurd cc
entry_there p es (Some entries.Unused) c h = absurd cc
entry_there p es (Some (entries.Utf8 a)) c h = absurd cc
entry_there p es (Some (entries.Integer a)) c h = absurd cc
entry_there p es (Some (entries.Float a)) c h = absurd cc
entry_there p es (Some (entries.Long a)) c h = absurd cc
entry_there p es (Some (entries.Double a)) c h = absurd cc
entry_there p es (Some (entries.Str a)) c h = absurd cc
entry_there p es (Some (entries.NameAndType a b)) c h = absurd cc
entry_there p es (Some (entries.MethodHandle a b)) c h = absurd cc
entry_there p es (Some (entries.MethodType a)) c h = absurd cc
entry_there p es (Some (entries.InvokeDynamic a b)) c h = absurd cc
entry_there p es (Some (entries.Class a)) c h =
    let t = map_is AClass (option_and_then (class_type p) (utf8_at es a)) (AClass (types.Object c)) h in
    let is : AClass t.0 ≡ AClass (types.Object c) = t.2 in
    let same : t.0 ≡ types.Object c = cc in
    let text = then_is (class_type p) (utf8_at es a) t.0 t.1 in
    class_there p text.0 c (descriptor_of text.0) (text.2 ∙ ap (λ (v : VType). Some v) same)
entry_there p es (Some (entries.Field class both)) c h =
    let b = then_is (λ b. field_entry p (reference es class b)) (name_and_type_at es both) (AClass (types.Object c)) h in
    absurd (mapped_apart AField (types.Object c) (λ a e. cc) (meanings.field_meant p (reference es class b.0)) b.2)
entry_there p es (Some (entries.Method class both)) c h =
    let b = then_is (λ b. method_entry p (reference es class b)) (name_and_type_at es both) (AClass (types.Object c)) h in
    absurd (mapped_apart (AMethod (bytes_eq (reference es class b.0).name init)) (types.Object c) (λ a e. cc) (meanings.call_meant p (reference es class b.0)) b.2)
entry_there p es (Some (entries.InterfaceMethod class both)) c h =
    let b = then_is (λ b. method_entry p (reference es class b)) (name_and_type_at es both) (AClass (types.Object c)) h in
    absurd (mapped_apart (AMethod (bytes_eq (reference es class b.0).name init)) (types.Object c) (λ a e. cc) (meanings.call_meant p (reference es class b.0)) b.2)

made_is : (x : EntryMeaning) (c : Name) → made x ≡ Some (Make c) → x ≡ AClass (types.Object c)
made_is (AConstant k) c e = absurd cc
made_is (AField f) c e = absurd cc
made_is (AMethod b k) c e = absurd cc
made_is (AClass types.Top) c e = absurd cc
made_is (AClass types.Int) c e = absurd cc
made_is (AClass types.Long) c e = absurd cc
made_is (AClass types.Null) c e = absurd cc
made_is (AClass types.UninitThis) c e = absurd cc
made_is (AClass (types.Uninit o)) c e = absurd cc
made_is (AClass (types.Array a)) c e = absurd cc
made_is (AClass types.Ctx) c e = absurd cc
made_is (AClass (types.Object d)) c e = let same : d ≡ c = cc in ap (λ (n : Name). AClass (types.Object n)) same

made_there : (p : Program) (es : List Entry) (i : ℕ) (c : Name) → meant p es (forms.New i) ≡ Some (Make c) → IsThere p c
unfolding meant
made_there p es i c e =
    let x = then_is (used (forms.New i)) (entry_meant p es (slice_get es i)) (Make c) e in
    entry_there p es (slice_get es i) c (x.1 ∙ ap (λ (y : EntryMeaning). Some y) (made_is x.0 c x.2))

-- ---- casts

cast_form : (op : CastOp) (y : EntryMeaning) (m : Meaning) → cast_by op y ≡ Some m → (v : VType) × (m ≡ Cast op v)
cast_form op (AConstant c) m e = absurd cc
cast_form op (AField f) m e = absurd cc
cast_form op (AMethod b c) m e = absurd cc
cast_form op (AClass t) m e = (t, cc)

pub cast_meaning : (p : Program) (es : List Entry) (op : CastOp) (i : ℕ) (m : Meaning) → meant p es (forms.Cast op i) ≡ Some m → (v : VType) × (m ≡ Cast op v)
unfolding meant
cast_meaning p es op i m e =
    let y = then_is (used (forms.Cast op i)) (entry_meant p es (slice_get es i)) m e in
    cast_form op y.0 m y.2

-- ---- its number

world_class : (p : Program) (c : Name) → (world p).class c ≡ option_map ref_of (find p c.0)
unfolding world
world_class p c = refl

none_there : {A B : Type 0} (o : Option A) → is_some o ≡ true → o ≡ None → B
none_there None e none = cc
none_there (Some x) e none = cc

module _ (x : Lasting) (l : IsLasting x) where
  abbrev p : Program
  p = x.ancestors.now

  -- a user's class is one of the parts
  pub record IsPart (class : ℕ) : Type 0 where
    pub part : CodePart
    pub at : slice_get p.parts class ≡ Some part

  pub is_part : (es : List Entry) (i class : ℕ) → meant p es (forms.New i) ≡ Some (Make (class_named p (refs.User class))) → IsPart class
  is_part es i class e = by (slice_get p.parts class) refl
    where
      by : (o : Option CodePart) → slice_get p.parts class ≡ o → IsPart class
      by (Some part) at = record { part = part; at = at }
      by None none =
          none_there (find p (name_at p (refs.User class))) (made_there p es i (class_named p (refs.User class)) e)
          (ap (find p) (user_unnamed p class none) ∙ find_unnamed p (good x l) (names x l))

  pub few : (class : ℕ) → IsPart class → 46 + class < 2 ^ 32
  few class is =
      let inside = slice_get_within p.parts class is.part is.at in
      let most = l.links.parts.few in
      omega (arith, inside, most)

  pub user_class : (class : ℕ) → IsPart class → (w : World) → w ≡ world p → w.class (class_named p (refs.User class)) ≡ Some (refs.User class)
  user_class class is w same =
      ap (λ (w : World). w.class (class_named p (refs.User class))) same ∙ world_class p (class_named p (refs.User class))
      ∙ ap (λ (n : List ℕ). option_map ref_of (find p n)) (user_name p class is.part is.at) ∙ own_number p class is.part (good x l) is.at

  pub user_shape : (class : ℕ) → IsPart class → (w : World) → w ≡ world p → HasShape w x.shapes.now class
  user_shape class is w same =
      subst (λ (w : World). HasShape w x.shapes.now class) (sym same) (l.tied.users class (slice_get_within p.parts class is.part is.at))

  pub library_class : (es : List Entry) (i : ℕ) (c : LibClass) → meant p es (forms.New i) ≡ Some (Make (class_named p (refs.Lib c)))
      → (w : World) → w ≡ world p → w.class (class_named p (refs.Lib c)) ≡ Some (refs.Lib c)
  library_class es i c e w same =
      ap (λ (w : World). w.class (class_named p (refs.Lib c))) same ∙ world_class p (class_named p (refs.Lib c)) ∙ by (stands p (library.name_of c))
    where
      by : Stands p (library.name_of c) → option_map ref_of (find p (library.name_of c)) ≡ Some (refs.Lib c)
      by (Users k part at own found) = absurd (lib_apart p (good x l) k part c at own)
      by (Libs m called found) = ap (option_map ref_of) found ∙ ap (λ (d : LibClass). Some (refs.Lib d)) (named_own p.side c m called)
      by (Nowhere none) = none_there (find p (library.name_of c)) (made_there p es i (class_named p (refs.Lib c)) e) none

  -- ---- arrays

  pub array_is : (v : VType) (k : ℕ) → MakesArray p x.ready.now.methods.tables v k → types.Array (array_named p (array_at x.shapes.now k)) ≡ v
  array_is v k m =
      let at = get_grown x.ready.now.methods.tables.arrays x.shapes.now.arrays k l.tied.arrays (got x.ready.now.methods.tables.arrays k m.array m.there) ∙ m.there in
      ap (λ (a : ArrayRef). types.Array (array_named p a)) (typed_there x.shapes.now k m.array l.tied.few at) ∙ sym m.type
