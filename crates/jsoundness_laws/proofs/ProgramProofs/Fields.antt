-- What linking says of a field that an instruction names: it holds what its class says, and nothing is put into `System.out`.
use Rattle.std.proofs.Common.{◌≡◌, ◌∙◌, ℕ, ◌||◌, ◌&&◌, ◌==◌, Bool, true, false, not, List, Option, Some, None, refl, sym, ap, subst}
use Rattle.std.specs.Prelude.{is_some, option_and_then, option_map, slice_get, if◌then◌else◌}
use Rattle.std.specs.List.{position}
use Rattle.std.specs.Str.{byte, bytes_eq}
use Rattle.std.proofs.lemmas.Bool.{and_parts}
use Rattle.std.proofs.lemmas.Option.{slice_get-map}
use Rattle.std.proofs.lemmas.Slice.Eq.{bytes_eq-Decides}
use Rattle.jground.specs.jbase.FirstFaults.{fault_if, first_some, or_else}
use Rattle.jground.proofs.JbaseProofs.Firsts.{none_of}
use Rattle.jparts.specs.declared.jpool.descriptor.Descriptor.{Descriptor}
use Rattle.jparts.specs.declared.jpool.descriptor.Descriptor.TheVariants as descriptors
use Rattle.jparts.specs.declared.jpool.descriptor.FieldType.{FieldType}
use Rattle.jparts.specs.declared.jpool.entry.Entry.{Entry}
use Rattle.jparts.specs.jpool.Descriptors.{base_at, class_at, closing_at, descriptor_of, field_of, method_of, params_at, return_at, slots_of, type_at}
use Rattle.jparts.specs.jpool.ClassNames.{is_class_name}
use Rattle.jparts.specs.declared.jcode.names.FieldOp.{FieldOp}
use Rattle.jparts.specs.declared.jcode.names.FieldOp.TheVariants as fields
use Rattle.jclass.specs.declared.class.ClassParts.{ClassParts}
use Rattle.jtypes.specs.declared.vtype.Element.{Element}
use Rattle.jtypes.specs.declared.vtype.Element.TheVariants as elements
use Rattle.jtypes.specs.declared.vtype.VType.{VType}
use Rattle.jtypes.specs.declared.vtype.VType.TheVariants as types
use Rattle.jtypes.specs.DescriptorElements.{element_of}
use Rattle.jlib.specs.declared.side.Side.TheVariants.{Source, Passing}
use Rattle.jlib.specs.declared.calls.ThrownInit.TheVariants as given
use Rattle.jlib.specs.declared.calls.PrintedType.TheVariants as piece
use Rattle.jlib.specs.declared.calls.StringCall.TheVariants as string
use Rattle.jlib.specs.declared.calls.BuilderCall.TheVariants as builder
use Rattle.jlib.specs.declared.calls.ThreadCall.TheVariants as thread
use Rattle.jlib.specs.declared.calls.ControllerCall.TheVariants as controller
use Rattle.jlib.specs.declared.calls.PermissionInit.TheVariants as init
use Rattle.jlib.specs.declared.calls.RtCall.TheVariants as rt
use Rattle.jlib.specs.declared.calls.LibCall.{LibCall}
use Rattle.jlib.specs.declared.calls.LibCall.TheVariants as call
use Rattle.jlib.specs.declared.classes.LibClass.TheVariants as lib
use Rattle.jlib.specs.LibraryMembers as library_calls
use Rattle.jlib.specs.LibraryClasses as library
use Rattle.jlib.proofs.LibraryLookup.{call_found}
use Rattle.jresolution.specs.declared.jprogram.fault.LinkKind.TheVariants.{BadUse, LeftOut, NotAccessible}
use Rattle.jresolution.specs.declared.jprogram.member.Member.{Member}
use Rattle.jresolution.specs.declared.jprogram.member.Member.TheVariants.{Field, LibField}
use Rattle.jresolution.specs.declared.jprogram.part.CodePart.{CodePart}
use Rattle.jresolution.specs.jprogram.ClassFileParts.{is_called, member_desc, member_name, this_name}
use Rattle.jresolution.specs.jprogram.ProgramClasses.{Program, find, superinterfaces, up}
use Rattle.jresolution.specs.jprogram.MemberResolution.{field_at, field_in, is_final, lib_field, looked_up, owner_of, resolve_field}
use Rattle.jresolution.proofs.JprogramProofs.ClassHeights.{Stands, Users, Libs, Nowhere, stands}
use Rattle.jresolution.specs.ProofNames as jresolution_names
use Rattle.jresolution.specs.juses.InstructionMeanings.{FieldMeaning, Reference, reference}
use Rattle.jresolution.specs.juses.DescriptorTypes.{Held, called, element_in, name, there, type_in, type_of, typed, typed_as}
use Rattle.jresolution.specs.ProofNames.{held}
use Rattle.jlinking.specs.declared.jreferring.judged.MemberUse.{MemberUse}
use Rattle.jlinking.specs.declared.jreferring.judged.Sort.TheVariants as sort
use Rattle.jlinking.specs.jreferring.PoolEntryMeanings as judging
use Rattle.jlinking.specs.jreferring.PoolEntryMeanings.{judge, judge_pool}
use Rattle.jlinking.specs.jreferring.ReferenceUses.{access_test, differs, facts_of, field_member_test, field_test, puts, takes_static}
use Rattle.jlinking.specs.ProofNames as jlinking_names
use Rattle.jlinking.specs.jreferring.CodeUnits.{member_at, or_no_member}
use Rattle.jlinking.specs.ProofNames.{member_in}
use Rattle.jtyping.specs.jrule.PoolEffects.{of_library}
use Rattle.jlinking.specs.jlink.NamedFields.{IsNamedField}
use Rattle.jlinking.specs.jlink.LinkedPrograms.{Links}
use Rattle.jlinking.specs.jlink.ClassOrder.{in_order}
use Rattle.jlinking.proofs.JlinkProofs.PresentValues.{first_in, map_is, then_is}
use Rattle.jlinking.proofs.JlinkProofs.MethodSelection.{first_called}
use Rattle.jlinking.proofs.JlinkProofs.ResolvedReferences.{third_none}
use Rattle.jlinking.proofs.JlinkProofs.DescriptorTypes.{no_fault}
use Rattle.jsoundness_laws.specs.typed.TypedUses.{HoldsAs, IsField}
use Rattle.jresolution.proofs.JprogramProofs.ReservedNames.{lib_apart}
use Rattle.jsoundness_laws.proofs.TypedProofs.Dimensions.{IsTypedNamed, typed_named}
use Rattle.jsoundness_laws.proofs.ProgramProofs.MethodDeclarations.{either}
use Rattle.jsoundness_laws.proofs.ProgramProofs.Entries.{IsFieldEntry}

-- ---- the library's field

out_only : (m : LibCall) → library_calls.is_field m ≡ true → m ≡ call.Out
out_only call.ObjectInit e = absurd cc
out_only (call.ThrownInit one given.Message) e = absurd cc
out_only (call.ThrownInit one given.Nothing) e = absurd cc
out_only call.AccessControlInit e = absurd cc
out_only call.GetMessage e = absurd cc
out_only (call.String string.Length) e = absurd cc
out_only (call.String string.CharAt) e = absurd cc
out_only (call.String string.Equals) e = absurd cc
out_only (call.String string.Concat) e = absurd cc
out_only (call.Builder builder.Init) e = absurd cc
out_only (call.Builder builder.InitText) e = absurd cc
out_only (call.Builder (builder.Append piece.Int)) e = absurd cc
out_only (call.Builder (builder.Append piece.Long)) e = absurd cc
out_only (call.Builder (builder.Append piece.Char)) e = absurd cc
out_only (call.Builder (builder.Append piece.Bool)) e = absurd cc
out_only (call.Builder (builder.Append piece.Text)) e = absurd cc
out_only (call.Builder builder.ToString) e = absurd cc
out_only call.Out e = refl
out_only call.PrintEnd e = absurd cc
out_only (call.Print piece.Int) e = absurd cc
out_only (call.Print piece.Long) e = absurd cc
out_only (call.Print piece.Char) e = absurd cc
out_only (call.Print piece.Bool) e = absurd cc
out_only (call.Print piece.Text) e = absurd cc
out_only (call.Run Source) e = absurd cc
out_only (call.Run Passing) e = absurd cc
out_only (call.Thread (thread.Init Source)) e = absurd cc
out_only (call.Thread (thread.Init Passing)) e = absurd cc
out_only (call.Thread thread.Start) e = absurd cc
out_only (call.Thread thread.Join) e = absurd cc
out_only (call.Thread thread.Yield) e = absurd cc
out_only (call.RunAction Source) e = absurd cc
out_only (call.RunAction Passing) e = absurd cc
out_only (call.Controller controller.Check) e = absurd cc
out_only (call.Controller controller.Snapshot) e = absurd cc
out_only (call.Controller controller.Privileged) e = absurd cc
out_only (call.Controller controller.PrivilegedWith) e = absurd cc
out_only (call.Controller controller.PrivilegedLimited) e = absurd cc
out_only call.ContextCheck e = absurd cc
out_only (call.PermissionInit init.All) e = absurd cc
out_only (call.PermissionInit init.Runtime) e = absurd cc
out_only (call.PermissionInit init.RuntimeActions) e = absurd cc
out_only (call.PermissionInit init.Security) e = absurd cc
out_only (call.PermissionInit init.SecurityActions) e = absurd cc
out_only (call.PermissionInit init.Property) e = absurd cc
out_only (call.PermissionInit init.File) e = absurd cc
out_only (call.Rt rt.Enter) e = absurd cc
out_only (call.Rt rt.Check) e = absurd cc
out_only (call.Rt rt.Snapshot) e = absurd cc
out_only (call.Rt rt.Privileged) e = absurd cc
out_only (call.Rt rt.PrivilegedWith) e = absurd cc
out_only (call.Rt rt.PrivilegedLimited) e = absurd cc

abbrev or_int : Option Element → Element
or_int None = elements.Int
or_int (Some x) = x

-- what a descriptor says, where its class is there
abbrev said_element : FieldType → Element
said_element t = if t.base == byte "L" then elements.Class (name t.class) else or_int (element_of t.base (name t.class))

abbrev said_held : Option Descriptor → VType
said_held (Some (descriptors.Field t)) = type_of t.depth (said_element t)
said_held d = types.Top

module _ (p : Program) where
  there_is : (text : List ℕ) (x : Element) → option_map elements.Class (there p text) ≡ Some x → x ≡ elements.Class (name text)
  there_is text x e = go (is_some (find p text)) e
    where
      go : (b : Bool) → option_map elements.Class (if b then Some (name text) else None) ≡ Some x → x ≡ elements.Class (name text)
      go true e = cc
      go false e = absurd cc

  element_is : (t : FieldType) (x : Element) → element_in p t ≡ Some x → x ≡ said_element t
  element_is t x e = go (t.base == byte "L") e
    where
      go : (b : Bool) → (if b then option_map elements.Class (there p t.class) else element_of t.base (name t.class)) ≡ Some x
          → x ≡ (if b then elements.Class (name t.class) else or_int (element_of t.base (name t.class)))
      go true e = there_is t.class x e
      go false e = ap or_int (sym e)

  held_type : (o : Option VType) (t : VType) → held o ≡ Held t → o ≡ Some t
  held_type None t e = absurd cc
  held_type (Some u) t e = let same : u ≡ t = cc in ap (λ (x : VType). Some x) same

  called_apart : (a : Option (List VType)) (b : Option (Option VType)) (t : VType) → called a b ≡ Held t → ⊥
  called_apart None b t e = cc
  called_apart (Some params) None t e = cc
  called_apart (Some params) (Some ret) t e = cc

  held_said : (d : Option Descriptor) (t : VType) → typed_as p d ≡ Held t → t ≡ said_held d
  unfolding type_in
  held_said None t e = absurd cc
  held_said (Some (descriptors.Method params ret)) t e = absurd (called_apart _ _ t e)
  held_said (Some (descriptors.Field ft)) t e =
      let x = map_is (type_of ft.depth) (element_in p ft) t (held_type (type_in p ft) t e) in
      sym x.2 ∙ ap (type_of ft.depth) (element_is ft x.0 x.1)

  out_said : said_held (descriptor_of (library_calls.desc_of call.Out)) ≡ of_library lib.PrintStream
  unfolding descriptor_of method_of field_of params_at closing_at type_at base_at class_at return_at slots_of is_class_name
  out_said = refl

  out_is : (t : VType) → typed p (library_calls.desc_of call.Out) ≡ Held t → t ≡ of_library lib.PrintStream
  unfolding typed
  out_is t e = held_said (descriptor_of (library_calls.desc_of call.Out)) t e ∙ out_said

-- ---- what it holds

field_only : (m : Member) (b : Bool) → (if b then Some LibField else None) ≡ Some m → (m ≡ LibField) × (b ≡ true)
field_only m true e = (cc, refl)
field_only m false e = absurd cc

module _ (p : Program) (called_name desc : List ℕ) (t : VType) (says : typed p desc ≡ Held t) where
  declared_holds : (x : List ℕ) (m : Member) → field_at p called_name desc x ≡ Some m → HoldsAs p m t
  declared_holds x m e = by (stands p x)
    where
      by : Stands p x → HoldsAs p m t
      by (Users k part at own is) =
          let here : option_map (λ j. Field k j) (position (is_called part.class called_name desc) part.class.fields) ≡ Some m =
          sym (ap (option_and_then (λ c. field_in p.side c called_name desc)) is) ∙ e in
          let r = map_is (λ j. Field k j) (position (is_called part.class called_name desc) part.class.fields) m here in
          let f = first_called part.class called_name desc part.class.fields r.0 r.1 in
          let both = and_parts (bytes_eq (member_name part.class f.0) called_name) (bytes_eq (member_desc part.class f.0) desc) f.2 in
          let own_desc : member_desc part.class f.0 ≡ desc = (bytes_eq-Decides (member_desc part.class f.0) desc).0 both.1 in
          subst (λ (y : Member). HoldsAs p y t) r.2 (part, f.0, record { stands = at; declared = f.1 }, sym (ap jresolution_names.held_type (ap (typed p) own_desc ∙ says)))
      by (Libs l named is) =
          let here : option_and_then lib_field (library_calls.member_named p.side (library.name_of l) called_name desc) ≡ Some m =
          sym (ap (option_and_then (λ c. field_in p.side c called_name desc)) is) ∙ e in
          let r = then_is lib_field (library_calls.member_named p.side (library.name_of l) called_name desc) m here in
          let f = field_only m (library_calls.is_field r.0) r.2 in
          let found = call_found p.side (library.name_of l) called_name desc r.0 r.1 in
          let own_desc : library_calls.desc_of call.Out ≡ desc = ap library_calls.desc_of (sym (out_only r.0 f.1)) ∙ found.2 in
          subst (λ (y : Member). HoldsAs p y t) (sym f.0) (out_is p t (ap (typed p) own_desc ∙ says))
      by (Nowhere none) =
          let never : None ≡ Some m = sym (ap (option_and_then (λ c. field_in p.side c called_name desc)) none) ∙ e in
          absurd cc

  resolved_holds : (owner : List ℕ) (m : Member) → resolve_field p owner called_name desc ≡ Some m → HoldsAs p m t
  unfolding resolve_field
  resolved_holds owner m e =
      let r = first_in (λ x. or_else (field_at p called_name desc x) (first_some (field_at p called_name desc) (superinterfaces p x))) (up p owner) m e in
      either (field_at p called_name desc r.0) (first_some (field_at p called_name desc) (superinterfaces p r.0)) m r.2
      (λ own. declared_holds r.0 m own)
      (λ above. let s = first_in (field_at p called_name desc) (superinterfaces p r.0) m above in declared_holds s.0 m s.2)

-- ---- all

unfixed : (a b : Bool) → (not a || b) ≡ false → b ≡ false
unfixed true b e = e
unfixed false b e = absurd cc

put_only : (b : Bool) → (true && (true && not b)) ≡ false → b ≡ true
put_only true e = refl
put_only false e = absurd cc

module _ (p : Program) (links : Links p) (i : ℕ) (part : CodePart) (stand : slice_get p.parts i ≡ Some part) (op : FieldOp) (f : FieldMeaning) (n : ℕ)
    (r : IsFieldEntry p part.class.pool (slice_get part.class.pool n) f) where
  abbrev c : ClassParts
  c = part.class

  abbrev from : List ℕ
  from = this_name c

  abbrev ref : Reference
  ref = reference c.pool r.class r.named

  abbrev use_of : MemberUse
  use_of = judging.reference p from c.pool sort.Field r.class r.both

  use_at : member_at (judge_pool p c) n ≡ Some use_of
  unfolding judge
  use_at = ap member_in (slice_get-map (judge p from c.pool) c.pool n) ∙ ap (λ (e : Option Entry). member_in (option_map (judge p from c.pool) e)) r.is

  member_is : use_of.member ≡ Some (facts_of p from f.member)
  unfolding judging.reference
  member_is =
      ap (λ (o : Option (ℕ × ℕ)). option_map (facts_of p from) (option_and_then (looked_up c.pool r.class (resolve_field p)) o)) r.at
      ∙ ap (option_map (facts_of p from)) r.says.found

  fixed_is : jlinking_names.field_at (judge_pool p c) op n ≡ None → (puts op && (is_final p f.member && not (bytes_eq (owner_of p f.member) from))) ≡ false
  fixed_is none =
      let m = facts_of p from f.member in
      let test : field_test op use_of ≡ None = sym (ap (or_no_member (field_test op)) use_at) ∙ none in
      let last : field_member_test op use_of.member ≡ None = third_none use_of.names (fault_if use_of.barred LeftOut) (field_member_test op use_of.member) test in
      let one : field_member_test op (Some m) ≡ None = sym (ap (field_member_test op) member_is) ∙ last in
      let access = (none_of (access_test (puts op) m) (fault_if (differs (takes_static op) m.is_static) BadUse) one).0 in
      unfixed m.allowed (puts op && m.fixed) (no_fault (not m.allowed || (puts op && m.fixed)) NotAccessible access)

  no_put : jlinking_names.field_at (judge_pool p c) op n ≡ None → op ≡ fields.PutStatic → f.member ≡ LibField → ⊥
  unfolding is_final owner_of
  no_put none is member =
      let one : (puts fields.PutStatic && (is_final p LibField && not (bytes_eq (owner_of p LibField) from))) ≡ false =
      ap (λ (m : Member). puts fields.PutStatic && (is_final p m && not (bytes_eq (owner_of p m) from))) (sym member)
      ∙ ap (λ (o : FieldOp). puts o && (is_final p f.member && not (bytes_eq (owner_of p f.member) from))) (sym is) ∙ fixed_is none in
      let own : bytes_eq (owner_of p LibField) from ≡ true = put_only (bytes_eq (owner_of p LibField) from) one in
      lib_apart p (in_order p links) i part (library_calls.owner call.Out) stand (sym ((bytes_eq-Decides (owner_of p LibField) from).0 own))

  pub field_is : IsNamedField p op f → jlinking_names.field_at (judge_pool p c) op n ≡ None → IsField p op f
  field_is named none = record {
    named = named;
    held = resolved_holds p ref.name ref.desc f.held r.says.says ref.owner f.member r.says.found;
    dimensions = (subst (IsTypedNamed p) r.says.says (typed_named p ref.desc)).1;
    put = no_put none;
  }
