-- A static holds at first what is of its type: a class file is one only where constants suit their fields (JVMS 4.7.2).
use Rattle.std.proofs.Common.{◌≡◌, ◌+◌, ℕ, pos, Bool, true, false, cond, List, [], ◌∷◌, ◌++◌, map, Option, Some, None, refl, sym, ap, subst, ◌∙◌}
use Rattle.std.specs.Prelude.{IsTrue, codes, is_some, option_and_then, option_map, slice_get, unwrap_or}
use Rattle.std.specs.List.{AllByRecursion, filter, flat_map, list_all}
use Rattle.std.proofs.lemmas.List.{map-append}
use Rattle.jground.specs.jbase.FirstFaults.{first_some}
use Rattle.jground.proofs.JformatProofs.ReadingSteps.{first_true, second_true}
use Rattle.jvalues.specs.declared.jops.value.Value.{Value}
use Rattle.jvalues.specs.declared.jops.value.Value.TheVariants.{Int, Long, Ref, Ctx}
use Rattle.jparts.specs.declared.jpool.entry.Entry.{Entry}
use Rattle.jparts.specs.declared.jpool.entry.Entry.TheVariants as entries
use Rattle.jparts.specs.jpool.Descriptors.{base_at, class_at, closing_at, descriptor_of, field_of, method_of, params_at, return_at, slots_of, type_at}
use Rattle.jparts.specs.jpool.ClassNames.{is_class_name}
use Rattle.jparts.specs.jpool.ConstantPools.{utf8_at}
use Rattle.jclass.specs.declared.class.ClassParts.{ClassParts}
use Rattle.jclass.specs.declared.class.MemberInfo.{MemberInfo}
use Rattle.jclass.specs.Class.{class_file}
use Rattle.jclass.specs.MemberFormat.{field}
use Rattle.jclass.specs.FlagRules.{suits, suits_field}
use Rattle.jclass.specs.ProofNames.{suits_type}
use Rattle.jlib.specs.declared.classes.LibClass.TheVariants as lib
use Rattle.jtypes.specs.declared.vtype.Element.{Element}
use Rattle.jtypes.specs.declared.vtype.Element.TheVariants as elements
use Rattle.jtypes.specs.declared.vtype.VType.{VType}
use Rattle.jtypes.specs.declared.vtype.VType.TheVariants as types
use Rattle.jresolution.specs.declared.jprogram.part.CodePart.{CodePart}
use Rattle.jresolution.specs.jprogram.ProgramClasses.{Class, Program}
use Rattle.jresolution.specs.jprogram.ClassFileParts.{member_desc, or_empty, text}
use Rattle.jresolution.specs.jprogram.OrderedPrograms.{StandsInOrder}
use Rattle.jresolution.proofs.JprogramProofs.ClassHeights.{lib_find, not_taken}
use Rattle.jlinking.specs.jlink.NamedFields.{is_plain}
use Rattle.jresolution.specs.juses.DescriptorTypes as typing
use Rattle.jresolution.specs.ProofNames
use Rattle.jresolution.specs.juses.DescriptorTypes.{type_in, typed}
use Rattle.jresolution.specs.jlayout.FieldLayout.{element, field_type, is_static, statics_of}
use Rattle.jresolution.specs.ProofNames.{held_type as held}
use Rattle.jtyping.specs.ProofNames.{string}
use Rattle.jsemantics.specs.jmachine.ObjectInstructions.{units_of}
use Rattle.jsemantics.specs.jmachine.Narrowing.{default, narrowed}
use Rattle.jsemantics.specs.jmachine.HeapObjects.{Text}
use Rattle.jsemantics.specs.jmachine.OpeningState.{constant_of, first_value, value_in, value_of, values_in}
use Rattle.jsemantics.specs.jmachine.Store.{Store, constant_at, object_at}
use Rattle.jsemantics.specs.jmachine.World.{world}
use Rattle.jsemantics.proofs.JmachineProofs.Constants.{class_fields, field_suits, held_by, int_held, long_held, text_is}
use Rattle.jsoundness_laws.specs.typed.TypedUses.{static_types}
use Rattle.jsoundness_laws.specs.typed.TypedValues.{AreOf, IsA}
use Rattle.jsoundness_laws.proofs.LibraryProofs.StoreExtension.{is_named}
use Rattle.jsoundness_laws.proofs.LibraryProofs.Orders.{orders}
use Rattle.jsoundness_laws.proofs.LibraryProofs.LibraryCallRows.{a_null, an_int}

string_held : (p : Program) → StandsInOrder p → held_by p (codes "Ljava/lang/String;") ≡ string
unfolding typed type_in descriptor_of method_of field_of params_at closing_at type_at base_at class_at return_at slots_of is_class_name
string_held p good =
    ap (λ (o : Option Class). held (ProofNames.held (option_map (typing.type_of 0) (option_map elements.Class (cond (is_some o) (Some (typing.name (codes "java/lang/String"))) None))))) (lib_find p (not_taken p good) lib.String refl)

-- ---- what a field holds at first

-- the strings that were made, by their numbers
abbrev pub AreMade : {K : Type 0} → Store K → List (List ℕ × ℕ) → Type 0
AreMade {K} s made = (units : List ℕ) (n : ℕ) → constant_at made units ≡ Some n → object_at s n ≡ Some (Text (Some units))

module _ {K : Type 0} (p : Program) (good : StandsInOrder p) (s : Store K) (made : List (List ℕ × ℕ)) (are : AreMade s made) where
  abbrev Is : VType → Value K → Type 0
  Is t v = IsA (world p) s t v

  a_long : (n : _) → Is types.Long (Long n)
  a_long n = record { type = types.Long; is = refl; met = refl }

  default_is : (t : VType) → is_plain t ≡ true → Is t (default t)
  default_is types.Int e = an_int (world p) s (pos 0)
  default_is types.Long e = a_long (pos 0)
  default_is (types.Object c) e = a_null (world p) s c
  default_is (types.Array a) e = record { type = types.Null; is = refl; met = refl }
  default_is _ e = absurd (cc)

  narrowed_is : (t : VType) (e : Option Element) (v : Value K) → Is t v → Is t (narrowed e v)
  narrowed_is t None v h = h
  narrowed_is t (Some e) (Int x) h = record { type = h.type; is = h.is; met = h.met }
  narrowed_is t (Some e) (Long x) h = h
  narrowed_is t (Some e) (Ref n) h = h
  narrowed_is t (Some e) (Ctx k) h = h

  text_is_there : (units : List ℕ) (o : Option ℕ) → constant_at made units ≡ o → Is string (unwrap_or (option_map Ref o) (default string))
  text_is_there units None e = a_null (world p) s _
  text_is_there units (Some n) e = is_named (world p) (static_types p) s string n (Text (Some units)) (are units n e) refl ((orders p good).own lib.String)

  -- by what its constant is, where this suits a descriptor
  by_constant : (c : ClassParts) (d : List ℕ) (one : Entry) → is_plain (held_by p d) ≡ true → suits d (Some one) ≡ true
      → Is (held_by p d) (unwrap_or (value_of made c (Some one)) (default (held_by p d)))
  by_constant c d entries.Unused plain e = absurd cc
  by_constant c d (entries.Utf8 t) plain e = absurd cc
  by_constant c d (entries.Integer n) plain e = subst (λ t. Is t (Int n)) (sym (int_held p d e)) (an_int (world p) s n)
  by_constant c d (entries.Float n) plain e = default_is (held_by p d) plain
  by_constant c d (entries.Long n) plain e = subst (λ t. Is t (Long n)) (sym (ap (held_by p) (text_is d (codes "J") e) ∙ long_held p)) (a_long n)
  by_constant c d (entries.Double n) plain e = default_is (held_by p d) plain
  by_constant c d (entries.Class n) plain e = absurd cc
  by_constant c d (entries.Str i) plain e =
      let is : held_by p d ≡ string = ap (held_by p) (text_is d (codes "Ljava/lang/String;") e) ∙ string_held p good in
      let o = constant_at made (units_of (text c.pool i)) in
      subst (λ t. Is t (unwrap_or (option_map Ref o) (default t))) (sym is) (text_is_there (units_of (text c.pool i)) o refl)
  by_constant c d (entries.Field a b) plain e = absurd cc
  by_constant c d (entries.Method a b) plain e = absurd cc
  by_constant c d (entries.InterfaceMethod a b) plain e = absurd cc
  by_constant c d (entries.NameAndType a b) plain e = absurd cc
  by_constant c d (entries.MethodHandle a b) plain e = absurd cc
  by_constant c d (entries.MethodType a) plain e = absurd cc
  by_constant c d (entries.InvokeDynamic a b) plain e = absurd cc

  by_text : (c : ClassParts) (o : Option (List ℕ)) (q : Option Entry) → is_plain (held_by p (or_empty o)) ≡ true → suits_type o q ≡ true
      → Is (held_by p (or_empty o)) (unwrap_or (value_of made c q) (default (held_by p (or_empty o))))
  by_text c None q plain e = absurd cc
  by_text c (Some d) None plain e = default_is (held_by p d) plain
  by_text c (Some d) (Some one) plain e = by_constant c d one plain e

  by_index : (c : ClassParts) (m : MemberInfo) (o : Option ℕ) → is_plain (field_type p c m) ≡ true → ((i : ℕ) → o ≡ Some i → IsTrue (suits_field c.pool m.desc i))
      → Is (field_type p c m) (unwrap_or (value_of made c (option_and_then (slice_get c.pool) o)) (default (field_type p c m)))
  unfolding suits_field
  by_index c m None plain h = default_is (field_type p c m) plain
  by_index c m (Some i) plain h = by_text c (utf8_at c.pool m.desc) (slice_get c.pool i) plain (h i refl)

  first_is : (c : ClassParts) (m : MemberInfo) → is_plain (field_type p c m) ≡ true → IsTrue ((field c.pool).fits m) → Is (field_type p c m) (first_value p made c m)
  first_is c m plain fit =
      narrowed_is (field_type p c m) (element (member_desc c m)) (unwrap_or (value_of made c (constant_of c m)) (default (field_type p c m)))
      (by_index c m (first_some value_in m.attributes) plain (λ i is. field_suits c.pool m i fit is))

  -- ---- all statics

  abbrev ArePlain : List VType → Type 0
  ArePlain ts = AllByRecursion (λ t. is_plain t ≡ true) ts

  abbrev At : CodePart × MemberInfo → VType
  At x = field_type p x.0.class x.1

  abbrev own : CodePart → List (CodePart × MemberInfo)
  own part = map (λ (m : MemberInfo). (part, m)) (statics_of part)

  own_are : (part : CodePart) (ms : List MemberInfo) → IsTrue (list_all (field part.class.pool).fits ms)
      → ArePlain (map At (map (λ (m : MemberInfo). (part, m)) (filter is_static ms)))
      → AreOf (world p) s (map At (map (λ (m : MemberInfo). (part, m)) (filter is_static ms))) (map (first_value p made part.class) (filter is_static ms))
  own_are part [] fit plain = tt
  own_are part (m ∷ ms) fit plain =
      by_static (is_static m) plain (own_are part ms (second_true ((field part.class.pool).fits m) (list_all (field part.class.pool).fits ms) fit))
    where
      by_static : (b : Bool) → ArePlain (map At (map (λ (m : MemberInfo). (part, m)) (cond b (m ∷ filter is_static ms) (filter is_static ms))))
          → (ArePlain (map At (map (λ (m : MemberInfo). (part, m)) (filter is_static ms))) → AreOf (world p) s (map At (map (λ (m : MemberInfo). (part, m)) (filter is_static ms))) (map (first_value p made part.class) (filter is_static ms)))
          → AreOf (world p) s (map At (map (λ (m : MemberInfo). (part, m)) (cond b (m ∷ filter is_static ms) (filter is_static ms)))) (map (first_value p made part.class) (cond b (m ∷ filter is_static ms) (filter is_static ms)))
      by_static true plain more = (first_is part.class m plain.0 (first_true ((field part.class.pool).fits m) (list_all (field part.class.pool).fits ms) fit), more plain.1)
      by_static false plain more = more plain

  are_both : (xs ys : List VType) (vs us : List (Value K)) → AreOf (world p) s xs vs → AreOf (world p) s ys us → AreOf (world p) s (xs ++ ys) (vs ++ us)
  are_both [] ys [] us a b = b
  are_both [] ys (v ∷ vs) us a b = absurd a
  are_both (x ∷ xs) ys [] us a b = absurd a
  are_both (x ∷ xs) ys (v ∷ vs) us a b = (a.0, are_both xs ys vs us a.1 b)

  plain_front : (xs ys : List VType) → ArePlain (xs ++ ys) → ArePlain xs
  plain_front [] ys h = tt
  plain_front (x ∷ xs) ys h = (h.0, plain_front xs ys h.1)

  plain_back : (xs ys : List VType) → ArePlain (xs ++ ys) → ArePlain ys
  plain_back [] ys h = h
  plain_back (x ∷ xs) ys h = plain_back xs ys h.1

  pub parts_are : (parts : List CodePart) → AllByRecursion (λ (part : CodePart). IsTrue (class_file.fits part.class)) parts → ArePlain (map At (flat_map own parts))
      → AreOf (world p) s (map At (flat_map own parts)) (flat_map (values_in p made) parts)
  parts_are [] files plain = tt
  parts_are (part ∷ parts) files plain =
      let split = map-append At (own part) (flat_map own parts) in
      let plain_both = subst (λ ts. ArePlain ts) split plain in
      subst (λ ts. AreOf (world p) s ts (values_in p made part ++ flat_map (values_in p made) parts)) (sym split)
      (are_both (map At (own part)) (map At (flat_map own parts)) (values_in p made part) (flat_map (values_in p made) parts)
      (own_are part part.class.fields (class_fields part.class files.0) (plain_front (map At (own part)) (map At (flat_map own parts)) plain_both))
      (parts_are parts files.1 (plain_back (map At (own part)) (map At (flat_map own parts)) plain_both)))
