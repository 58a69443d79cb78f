-- What `new` makes: a class that is there, whose name isn't kept.
use Rattle.std.proofs.Common.{◌≡◌, ℕ, zero, suc, Bool, true, false, List, Option, Some, None, refl, ap, sym, ◌∙◌}
use Rattle.std.specs.Prelude.{IsTrue, is_some, nat_lt, option_and_then, option_map, slice_get, ◌&&◌, ◌==◌, if◌then◌else◌}
use Rattle.jparts.specs.declared.jpool.descriptor.Descriptor.{Descriptor}
use Rattle.jparts.specs.declared.jpool.descriptor.Descriptor.TheVariants as descriptors
use Rattle.jparts.specs.declared.jpool.descriptor.FieldType.{FieldType}
use Rattle.jparts.specs.declared.jpool.entry.Entry.{Entry}
use Rattle.jparts.specs.declared.jpool.entry.Entry.TheVariants as entries
use Rattle.jparts.specs.jpool.Descriptors.{descriptor_of}
use Rattle.jparts.specs.jpool.ConstantPools.{is_class, utf8_at}
use Rattle.jparts.specs.declared.jcode.op_form.ArrayForm.{ArrayForm}
use Rattle.jparts.specs.declared.jcode.op_form.ArrayForm.TheVariants as arrays
use Rattle.jparts.specs.declared.jcode.op_form.Flow.TheVariants as flows
use Rattle.jparts.specs.declared.jcode.op_form.PoolForm.{PoolForm}
use Rattle.jparts.specs.declared.jcode.op_form.PoolForm.TheVariants as pool
use Rattle.jparts.specs.declared.jcode.names.ObjectOp.TheVariants as objects
use Rattle.jparts.specs.declared.jcode.op.NewOp.TheVariants as news
use Rattle.jparts.specs.declared.jcode.op.Op.{Op}
use Rattle.jparts.specs.declared.jcode.op.Op.TheVariants as ops
use Rattle.jparts.specs.declared.jcode.op.Placed.{Placed}
use Rattle.jparts.specs.jcode.InstructionForms.{form}
use Rattle.jparts.specs.ProofNames.{distance, ldc_index}
use Rattle.jclass.specs.declared.class.ClassParts.{ClassParts}
use Rattle.jclass.specs.declared.class.CodeBody.{CodeBody}
use Rattle.jclass.specs.PoolOperands.{names_well}
use Rattle.jtypes.specs.declared.vtype.ArrayType.{ArrayType}
use Rattle.jtypes.specs.declared.vtype.Element.{Element}
use Rattle.jtypes.specs.declared.vtype.Element.TheVariants as elements
use Rattle.jtypes.specs.declared.vtype.Name.{Name}
use Rattle.jtypes.specs.declared.vtype.VType.{VType}
use Rattle.jtypes.specs.declared.vtype.VType.TheVariants as types
use Rattle.jresolution.specs.declared.jprogram.member.MethodId.{MethodId}
use Rattle.jresolution.specs.jprogram.ProgramClasses.{Class, Program, find}
use Rattle.jresolution.specs.jprogram.NameChecks.{is_reserved}
use Rattle.jresolution.specs.juses.IndexedInstructions.{Used, by_form, instruction, instruction_at}
use Rattle.jresolution.specs.ProofNames.{array, array_made}
use Rattle.jresolution.specs.juses.InstructionMeanings as meanings
use Rattle.jresolution.specs.ProofNames
use Rattle.jresolution.specs.juses.InstructionMeanings.{AClass, AConstant, AField, AMethod, EntryMeaning, Make, Meaning, array_meant, entry_meant, index_of, meant, used}
use Rattle.jresolution.specs.juses.DescriptorTypes.{array_over, class_by, class_of, class_type, element_in, is_context, there, type_in, type_of}
use Rattle.jlinking.proofs.JlinkProofs.CodeMeanings.{IsCoded, at_code, coded}
use Rattle.jlinking.proofs.JlinkProofs.FieldResolution.{flow_apart, has_body}
use Rattle.jlinking.proofs.JlinkProofs.FittingClassFiles.{has_code, named_well}
use Rattle.jlinking.proofs.JlinkProofs.PresentValues.{map_is, then_is}
use Rattle.jsemantics.specs.jmachine.MachineSteps.{fetched}
use Rattle.jsemantics.specs.jmachine.World.{world}
use Rattle.jrewriting.specs.jrewrite.LinkageLaws.{IsLinked}
use Rattle.jrewriting.specs.jrewrite.RewrittenPrograms.{moved}
use Rattle.jrewriting.proofs.JrewriteProofs.PlainPrograms.{is_plain}
use Rattle.jrewriting.proofs.JrewriteProofs.HierarchyPhases.{IsPlain, same}
use Rattle.jmoved_laws.proofs.NamesProofs.ClassChains.{found_plain}
use Rattle.jmoved_laws.proofs.NamesProofs.CallOutcomes.{fetched_at}
use Rattle.jmoved_laws.proofs.NamesProofs.Classes.{ref_same}
use Rattle.jparts.specs.jpool.PoolEntries.{class_parts}

-- ---- the class of an entry

context_apart : {P : Type 0} (c : Name) → types.Ctx ≡ types.Object c → P
context_apart c e = absurd cc

array_type_apart : {P : Type 0} (a : ArrayType) (c : Name) → types.Array a ≡ types.Object c → P
array_type_apart a c e = absurd cc

deep_by : {P : Type 0} (b : Bool) (a : ArrayType) (c : Name) → (if b then types.Ctx else types.Array a) ≡ types.Object c → P
deep_by true a c e = context_apart c e
deep_by false a c e = array_type_apart a c e

element_apart : {P : Type 0} (d : ℕ) (x : Element) (c : Name) → type_of (suc d) x ≡ types.Object c → P
element_apart d x c e = deep_by (suc d == 0 && is_context x) (record { depth = suc d; element = x }) c e

deep_apart : {P : Type 0} (d : ℕ) (o : Option Element) (c : Name) → nat_lt 0 d ≡ true → option_map (type_of d) o ≡ Some (types.Object c) → P
deep_apart zero o c h e = absurd cc
deep_apart (suc d) None c h e = absurd cc
deep_apart (suc d) (Some x) c h e = let one : type_of (suc d) x ≡ types.Object c = cc in element_apart d x c one

named_by : (b : Bool) (n c : Name) → (if b then types.Ctx else types.Object n) ≡ types.Object c → n ≡ c
named_by true n c e = context_apart c e
named_by false n c e = cc

class_named : (n c : Name) → class_of n ≡ types.Object c → n ≡ c
class_named n c e = named_by (is_context (elements.Class n)) n c e

module _ (p : Program) (is : IsPlain p) where
  there_by : (text : List ℕ) (c : Name) (o : Option Class) → find p text ≡ o → option_map class_of (if is_some o then Some (record { 0 = text }) else None) ≡ Some (types.Object c) → is_reserved c.0 ≡ false
  there_by text c None at e = absurd cc
  there_by text c (Some k) at e =
      let name : Name = record { 0 = text } in
      let one : class_of name ≡ types.Object c = cc in
      ap (λ (n : Name). is_reserved n.0) (sym (class_named name c one)) ∙ found_plain p is text k at

  there_is : (text : List ℕ) (c : Name) → option_map class_of (there p text) ≡ Some (types.Object c) → is_reserved c.0 ≡ false
  there_is text c e = there_by text c (find p text) refl e

  field_by : (text : List ℕ) (t : FieldType) (c : Name) (b : Bool) → nat_lt 0 t.depth ≡ b → (if b then type_in p t else option_map class_of (there p text)) ≡ Some (types.Object c) → is_reserved c.0 ≡ false
  unfolding type_in
  field_by text t c true deep e = deep_apart t.depth (element_in p t) c deep e
  field_by text t c false deep e = there_is text c e

  class_is : (text : List ℕ) (c : Name) (d : Option Descriptor) → class_by p text d ≡ Some (types.Object c) → is_reserved c.0 ≡ false
  class_is text c None e = there_is text c e
  class_is text c (Some (descriptors.Field t)) e = field_by text t c (nat_lt 0 t.depth) refl e
  class_is text c (Some (descriptors.Method ps ret)) e = there_is text c e

  type_is : (text : List ℕ) (c : Name) → class_type p text ≡ Some (types.Object c) → is_reserved c.0 ≡ false
  unfolding class_type
  type_is text c e = class_is text c (descriptor_of text) e

  class_entry : (o : Option Entry) → is_some (option_and_then class_parts o) ≡ true → (k : ℕ) × (o ≡ Some (entries.Class k))
  class_entry (Some (entries.Class k)) h = (k, refl)
  class_entry o h = absurd cc

  entry_plain : (es : List Entry) (n : ℕ) (c : Name) → is_some (option_and_then class_parts (slice_get es n)) ≡ true → entry_meant p es (slice_get es n) ≡ Some (AClass (types.Object c)) → is_reserved c.0 ≡ false
  unfolding entry_meant
  entry_plain es n c well e =
      let k = class_entry (slice_get es n) well in
      let here : option_map AClass (option_and_then (class_type p) (utf8_at es k.0)) ≡ Some (AClass (types.Object c)) = sym (ap (entry_meant p es) k.1) ∙ e in
      let t = map_is AClass (option_and_then (class_type p) (utf8_at es k.0)) (AClass (types.Object c)) here in
      let said : AClass t.0 ≡ AClass (types.Object c) = t.2 in
      let one : t.0 ≡ types.Object c = cc in
      let text = then_is (class_type p) (utf8_at es k.0) t.0 t.1 in
      type_is text.0 c (text.2 ∙ ap (λ (x : VType). Some x) one)

  -- ---- the instruction

  made_is : (x : EntryMeaning) (c : Name) → ProofNames.made x ≡ Some (Make c) → x ≡ AClass (types.Object c)
  made_is (AClass (types.Object d)) c e = let one : d ≡ c = cc in ap (λ (n : Name). AClass (types.Object n)) one
  made_is x c e = absurd cc

  other_apart : {P : Type 0} (c : Name) (n : ℕ) (g : PoolForm) (x : EntryMeaning) → ((k : ℕ) → g ≡ pool.New k → false ≡ true) → used g x ≡ Some (Make c) → P
  other_apart c n (pool.New k) x h e = let no = h k refl in absurd cc
  other_apart c n (pool.Constant k) (AConstant (meanings.Int i)) h e = absurd cc
  other_apart c n (pool.LongConstant k) (AConstant (meanings.Int i)) h e = absurd cc
  other_apart c n (pool.Field op k) (AField f) h e = absurd cc
  other_apart c n (pool.Call op k) (AMethod begun d) h e = absurd cc
  other_apart c n (pool.CallInterface k slots) (AMethod begun d) h e = absurd cc
  other_apart c n (pool.Cast op k) (AClass t) h e = absurd cc
  other_apart c n g x h e = absurd cc

  pool_made : (es : List Entry) (c : Name) (g : PoolForm) → option_map Used (meant p es g) ≡ Some (Used (Make c)) → (x : EntryMeaning) × (entry_meant p es (slice_get es (index_of g)) ≡ Some x) × (used g x ≡ Some (Make c))
  unfolding meant
  pool_made es c g e =
      let r = map_is Used (meant p es g) (Used (Make c)) e in
      let said : Used r.0 ≡ Used (Make c) = r.2 in
      let one : r.0 ≡ Make c = cc in
      then_is (used g) (entry_meant p es (slice_get es (index_of g))) (Make c) (r.1 ∙ ap (λ (m : Meaning). Some m) one)

  pool_apart : {P : Type 0} (es : List Entry) (c : Name) (g : PoolForm) → ((k : ℕ) → g ≡ pool.New k → false ≡ true) → option_map Used (meant p es g) ≡ Some (Used (Make c)) → P
  pool_apart es c g h e = let x = pool_made es c g e in other_apart c 0 g x.0 h x.2

  row_apart : {P : Type 0} (c : Name) (x : EntryMeaning) → array_made x ≡ Some (Make c) → P
  row_apart c (AClass t) e =
      let r = map_is meanings.MakeArray (array_over t) (Make c) e in
      let said : meanings.MakeArray r.0 ≡ Make c = r.2 in
      absurd cc
  row_apart c x e = absurd cc

  array_apart : {P : Type 0} (es : List Entry) (c : Name) (g : ArrayForm) → array p es g ≡ Some (Used (Make c)) → P
  unfolding array_meant
  array_apart es c (arrays.NewRef i) e =
      let r = map_is Used (array_meant p es i) (Used (Make c)) e in
      let said : Used r.0 ≡ Used (Make c) = r.2 in
      let one : r.0 ≡ Make c = cc in
      let x = then_is array_made (entry_meant p es (slice_get es i)) (Make c) (r.1 ∙ ap (λ (m : Meaning). Some m) one) in
      row_apart c x.0 x.2
  array_apart es c g e = absurd cc

  module _ (file : ClassParts) (body : List Placed) (at : ℕ) (c : Name) where
    new_plain : (n : ℕ) → IsTrue (is_class file.pool n) → option_map Used (meant p file.pool (pool.New n)) ≡ Some (Used (Make c)) → is_reserved c.0 ≡ false
    unfolding is_class
    new_plain n well e =
        let x = pool_made file.pool c (pool.New n) e in
        entry_plain file.pool n c well (x.1 ∙ ap (λ (y : EntryMeaning). Some y) (made_is x.0 c x.2))

    op_plain : (op : Op) → IsTrue (names_well file.pool op) → by_form p file.pool body at (form op) ≡ Some (Used (Make c)) → is_reserved c.0 ≡ false
    unfolding form names_well
    op_plain (ops.New (news.Object n)) well e = new_plain n well e
    op_plain (ops.New (news.Array element)) well e = absurd cc
    op_plain (ops.New (news.RefArray n)) well e = array_apart file.pool c (arrays.NewRef n) e
    op_plain (ops.Call op n) well e = pool_apart file.pool c (pool.Call op n) (λ k h. cc) e
    op_plain (ops.CallInterface n slots) well e = pool_apart file.pool c (pool.CallInterface n slots) (λ k h. cc) e
    op_plain (ops.Ldc op) well e = pool_apart file.pool c (pool.Constant (ldc_index op)) (λ k h. cc) e
    op_plain (ops.Ldc2 n) well e = pool_apart file.pool c (pool.LongConstant n) (λ k h. cc) e
    op_plain (ops.Field op n) well e = pool_apart file.pool c (pool.Field op n) (λ k h. cc) e
    op_plain (ops.Cast op n) well e = pool_apart file.pool c (pool.Cast op n) (λ k h. cc) e
    op_plain (ops.If test k) well e = absurd (flow_apart body at (flows.If test k) (Make c) e)
    op_plain (ops.IfInt test k) well e = absurd (flow_apart body at (flows.IfInt test k) (Make c) e)
    op_plain (ops.IfRef test k) well e = absurd (flow_apart body at (flows.IfRef test k) (Make c) e)
    op_plain (ops.Goto op) well e = absurd (flow_apart body at (flows.Goto (distance op)) (Make c) e)
    op_plain (ops.Switch switch) well e = absurd (flow_apart body at (flows.Switch switch) (Make c) e)
    op_plain (ops.Return kind) well e = absurd cc
    op_plain (ops.Object objects.ArrayLength) well e = absurd cc
    op_plain (ops.Object objects.Throw) well e = absurd cc
    op_plain op well e = absurd cc

    placed_plain : (one : Placed) → IsTrue (names_well file.pool one.op) → at ≡ one.at → instruction p file.pool body one ≡ Some (Used (Make c)) → is_reserved c.0 ≡ false
    unfolding instruction
    placed_plain one well here e = op_plain one.op well (ap (λ (n : ℕ). by_form p file.pool body n (form one.op)) here ∙ e)

module _ (p : Program) (linked : IsLinked p) where
  at_body : (m : MethodId) (i : ℕ) (c : Name) (body : CodeBody) (r : IsCoded p m body) → instruction_at p m i ≡ Some (Used (Make c)) → is_reserved c.0 ≡ false
  at_body m i c body r e =
      let file = r.part.class in
      let x = then_is (instruction p file.pool body.ops) (slice_get body.ops i) (Used (Make c)) (sym (at_code p m body i r) ∙ e) in
      let has = has_code file r.method body (linked.files m.class r.part r.stands) (m.method, r.declared) r.coded in
      placed_plain p (is_plain p linked) file body.ops x.0.at c x.0 (named_well file body x.0 has (i, x.1)) refl x.2

  pub makes_plain : (m : MethodId) (n : ℕ) (c : Name) → fetched p m n ≡ Some (Used (Make c)) → is_reserved c.0 ≡ false
  makes_plain m n c e =
      let at = fetched_at p m n (Used (Make c)) e in
      let b = has_body p linked.links m n (Used (Make c)) at in
      at_body m n c b.body (coded p m b.body b.is) at

  pub makes_same : (m : MethodId) (n : ℕ) (c : Name) → fetched p m n ≡ Some (Used (Make c)) → (world (moved p)).class c ≡ (world p).class c
  unfolding world
  makes_same m n c e = ref_same p (is_plain p linked) (find p c.0) (find (moved p) c.0) (same p (is_plain p linked) c.0 (makes_plain m n c e))
