-- What instructions hold is what their entries stand for.
use Rattle.std.proofs.Common.{◌≡◌, ℕ, ◌+◌, ◌^◌, ◌<◌, Bool, true, false, List, length, Option, Some, None, refl, sym, ap, subst, ◌∙◌}
use Rattle.std.specs.Prelude.{nat_lt, option_and_then, option_map, slice_get, if◌then◌else◌}
use Rattle.jparts.specs.declared.jcode.op_form.PoolForm.TheVariants as forms
use Rattle.jparts.specs.declared.jcode.names.FieldOp.{FieldOp}
use Rattle.jclass.specs.declared.class.ClassParts.{ClassParts}
use Rattle.jclass.specs.declared.class.MemberInfo.{MemberInfo}
use Rattle.jmemory.specs.declared.jheap.cell.CellType.{CellType}
use Rattle.jlib.specs.declared.calls.LibCall.{LibCall}
use Rattle.jtypes.specs.declared.vtype.ArrayType.{ArrayType}
use Rattle.jtypes.specs.declared.vtype.Element.TheVariants as elements
use Rattle.jtypes.specs.declared.vtype.VType.{VType}
use Rattle.jtypes.specs.declared.vtype.VType.TheVariants as types
use Rattle.jparts.specs.declared.jpool.entry.Entry.{Entry}
use Rattle.jresolution.specs.declared.jprogram.member.Member.{Member}
use Rattle.jresolution.specs.declared.jprogram.member.Member.TheVariants as members
use Rattle.jresolution.specs.declared.jprogram.member.MethodId.{MethodId}
use Rattle.jresolution.specs.declared.jprogram.part.ClassRef.TheVariants as refs
use Rattle.jresolution.specs.declared.jprogram.part.CodePart.{CodePart}
use Rattle.jresolution.specs.jprogram.ProgramClasses.{Program}
use Rattle.jresolution.specs.jprogram.MemberResolution.{desc_of, info_of}
use Rattle.jresolution.specs.declared.juses.meaning.CallUse.{CallUse}
use Rattle.jresolution.specs.declared.juses.meaning.FieldUse.{FieldUse}
use Rattle.jresolution.specs.declared.juses.meaning.InvokeKind.{InvokeKind}
use Rattle.jresolution.specs.declared.juses.types.ArrayRef.{ArrayRef}
use Rattle.jresolution.specs.declared.juses.types.TypeRef.{TypeRef}
use Rattle.jresolution.specs.declared.juses.types.TypeRef.TheVariants as numbers
use Rattle.jresolution.specs.juses.InstructionMeanings.{AClass, AConstant, AField, AMethod, Call, CallMeaning, EntryMeaning, Field, FieldMeaning, MakeArray, Meaning}
use Rattle.jresolution.specs.ProofNames.{array_made}
use Rattle.jresolution.specs.juses.InstructionMeanings.{array_meant, call_named, entry_meant, field_named, meant}
use Rattle.jresolution.specs.juses.PoolTables.{pool_at}
use Rattle.jresolution.specs.juses.DescriptorTypes.{array_over, typed}
use Rattle.jresolution.specs.juses.InternedTypes.{class_named, named}
use Rattle.jvalues.specs.declared.jops.value.Value.{Value}
use Rattle.jresolution.specs.jlayout.FieldLayout as layout
use Rattle.jresolution.specs.ProofNames
use Rattle.jsemantics.specs.jmachine.Narrowing.{narrowed}
use Rattle.jready.specs.declared.instr.Narrow.{Narrow}
use Rattle.jready.specs.declared.tables.Tables.{Tables}
use Rattle.jready.specs.InlineOperands.{ArrayMade, CallsLibrary, CallsUser, HoldsField, IsNumbered, MakesArray, cell_of, narrow}
use Rattle.jready.specs.MeaningParts.{only_array, only_call, only_field, user_place}
use Rattle.jready.specs.MethodNumbers.{count_at, count_in, methods_before}
use Rattle.jready.specs.ResolvedMembers.{IsCalled, IsField, IsMethod, IsThere}
use Rattle.jready.proofs.EntryMeanings.{array_back}
use Rattle.jready.proofs.MethodNumbers.{within}
use Rattle.jready.proofs.TableGrowth.{pair_first, pair_second, some_inj}
use Rattle.jready.proofs.ReferenceResolution.{ByField, field_is}

-- ---- fields

-- a field that is meant is the one that was found
meant_field : (o : Option Meaning) (op : FieldOp) (f g : FieldMeaning) → Some g ≡ only_field o → o ≡ Some (Field op f) → g ≡ f
meant_field o op f g is e = some_inj (is ∙ ap only_field e)

lib_only : (p : Program) (m : Member) (desc : List ℕ) → IsField p m desc → ((i j : ℕ) → m ≡ members.Field i j → ⊥) → m ≡ members.LibField
lib_only p (members.Field i j) desc h other = absurd (other i j refl)
lib_only p members.LibField desc h other = refl
lib_only p (members.Method m) desc h other = absurd h
lib_only p (members.LibMethod c) desc h other = absurd h

placed_at : (m : Member) (a j : ℕ) → user_place m ≡ Some (a, j) → m ≡ members.Field a j
placed_at (members.Field i k) a j e = ap (λ (x : ℕ × ℕ). members.Field x.0 x.1) (some_inj e)
placed_at (members.Method m) a j e = absurd cc
placed_at members.LibField a j e = absurd cc
placed_at (members.LibMethod c) a j e = absurd cc

record OwnField (p : Program) (f : FieldMeaning) (a j : ℕ) : Type 0 where
  by : ByField p f
  member : f.member ≡ members.Field a j
  there : IsThere p (members.Field a j) by.desc

own_field : (p : Program) (f : FieldMeaning) (a j : ℕ) → ByField p f → f.member ≡ members.Field a j → OwnField p f a j
own_field p f a j by is = record { by = by; member = is; there = subst (λ (m : Member). IsField p m by.desc) is by.member }

own_type : (p : Program) (f : FieldMeaning) (a j : ℕ) (h : OwnField p f a j) → f.held ≡ layout.field_type p h.there.class h.there.info
own_type p f a j h = sym (ap ProofNames.held_type (ap (typed p) h.there.described ∙ h.by.held))

pub exact_field : (p : Program) (class i : ℕ) (op : FieldOp) (used : FieldUse) (a j : ℕ) (n : Narrow) (cell : CellType) (s owner : ℕ)
    → Some (field_named p used) ≡ only_field (meant p (pool_at p class) (forms.Field op i)) → user_place used.member ≡ Some (a, j)
    → layout.slot p (members.Field a j) ≡ Some s → (owner < length p.parts → class_named p used.owner ≡ class_named p (refs.User owner))
    → ((v : Value ℕ) → narrowed (layout.element (desc_of p used.member)) v ≡ narrow n v) → cell_of (named p used.held) ≡ cell
    → (f : FieldMeaning) → meant p (pool_at p class) (forms.Field op i) ≡ Some (Field op f) → HoldsField p f cell n s owner
exact_field p class i op used a j n cell s owner is placed slot owned keeps cells f e =
    let own : used.member ≡ members.Field a j = placed_at used.member a j placed in
    let same : field_named p used ≡ f = meant_field (meant p (pool_at p class) (forms.Field op i)) op f (field_named p used) is e in
    let whose : used.member ≡ f.member = ap (λ (g : FieldMeaning). g.member) same in
    let member : f.member ≡ members.Field a j = sym whose ∙ own in
    let h = own_field p f a j (field_is p (pool_at p class) op i f e) member in
    record {
      class = a;
      field = j;
      member = member;
      placed = ap (layout.slot p) member ∙ slot;
      owned = λ lt. sym (ap (λ (g : FieldMeaning). g.owner) same) ∙ owned lt;
      celled = sym (ap (λ (g : FieldMeaning). cell_of g.held) same) ∙ cells;
      keeps = λ v. ap (λ (m : Member). narrowed (layout.element (desc_of p m)) v) (sym whose) ∙ keeps v;
      parts = h.there.class;
      info = h.there.info;
      there = ap (info_of p) member ∙ h.there.found;
      held = own_type p f a j h;
    }

-- a field that is named is there, and so has a place
mapped_none : {A B X : Type 0} (f : A → B) (o : Option A) (x : A) → o ≡ Some x → None ≡ option_map f o → X
mapped_none f None x e none = absurd cc
mapped_none f (Some y) x e none = absurd cc

never_unplaced : {X : Type 0} (p : Program) (a j : ℕ) (c : ClassParts) (m : MemberInfo) → info_of p (members.Field a j) ≡ Some (c, m)
    → None ≡ layout.slot p (members.Field a j) → X
unfolding layout.slot
never_unplaced p a j c m there none = mapped_none (λ (one : ClassParts × MemberInfo). layout.place_among p a j one.0 one.1) (info_of p (members.Field a j))
    (c, m) there none

pub no_slot : {X : Type 0} (p : Program) (class i : ℕ) (op : FieldOp) (used : FieldUse) (a j : ℕ)
    → Some (field_named p used) ≡ only_field (meant p (pool_at p class) (forms.Field op i)) → user_place used.member ≡ Some (a, j)
    → None ≡ layout.slot p (members.Field a j)
    → (f : FieldMeaning) → meant p (pool_at p class) (forms.Field op i) ≡ Some (Field op f) → X
no_slot p class i op used a j is placed none f e =
    let own : used.member ≡ members.Field a j = placed_at used.member a j placed in
    let same : field_named p used ≡ f = meant_field (meant p (pool_at p class) (forms.Field op i)) op f (field_named p used) is e in
    let member : f.member ≡ members.Field a j = sym (ap (λ (g : FieldMeaning). g.member) same) ∙ own in
    let h = own_field p f a j (field_is p (pool_at p class) op i f e) member in
    never_unplaced p a j h.there.class h.there.info h.there.found none

-- `System.out`
pub exact_out : (p : Program) (class i : ℕ) (op : FieldOp) (used : FieldUse)
    → Some (field_named p used) ≡ only_field (meant p (pool_at p class) (forms.Field op i)) → None ≡ user_place used.member
    → (f : FieldMeaning) → meant p (pool_at p class) (forms.Field op i) ≡ Some (Field op f) → f.member ≡ members.LibField
exact_out p class i op used is none f e =
    let same : field_named p used ≡ f = meant_field (meant p (pool_at p class) (forms.Field op i)) op f (field_named p used) is e in
    let member : f.member ≡ used.member = sym (ap (λ (g : FieldMeaning). g.member) same) in
    let by = field_is p (pool_at p class) op i f e in
    lib_only p f.member by.desc by.member (λ a j at. cc (none ∙ ap user_place (sym member ∙ at)))

-- ---- calls

method_in : (p : Program) (m : MethodId) (c : ClassParts) (one : MemberInfo) (part : CodePart) (o : Option MemberInfo)
    → slice_get p.parts m.class ≡ Some part → slice_get part.class.methods m.method ≡ o
    → option_map {U = ClassParts × MemberInfo} (λ (one : MemberInfo). (part.class, one)) o ≡ Some (c, one) → m.method < count_at p m.class
method_in p m c one part None at own e = absurd cc
method_in p m c one part (Some x) at own e = subst (λ (n : ℕ). m.method < n) (sym (ap count_in at)) (within part.class.methods m.method x own)

member_there : (p : Program) (m : MethodId) (c : ClassParts) (one : MemberInfo) (o : Option CodePart) → slice_get p.parts m.class ≡ o
    → option_and_then {U = ClassParts × MemberInfo} (λ (c : ClassParts). option_map {U = ClassParts × MemberInfo} (λ (one : MemberInfo). (c, one))
    (slice_get c.methods m.method)) (option_map (λ (part : CodePart). part.class) o) ≡ Some (c, one)
    → (m.class < length p.parts) × (m.method < count_at p m.class)
member_there p m c one None at e = absurd cc
member_there p m c one (Some part) at e = (within p.parts m.class part at, method_in p m c one part (slice_get part.class.methods m.method) at refl e)

numbered : (p : Program) (m : MethodId) (desc : List ℕ) (k : ℕ) → IsThere p (members.Method m) desc
    → (m.class < length p.parts → m.method < count_at p m.class → k ≡ methods_before p m.class + m.method) → IsNumbered p k m
numbered p m desc k h is =
    let t = member_there p m h.class h.info (slice_get p.parts m.class) refl h.found in
    record { class = t.0; method = t.1; number = is t.0 t.1 }

meant_call : (o : Option Meaning) (w how : InvokeKind) (c d : CallMeaning) → Some (how, d) ≡ only_call o → o ≡ Some (Call w c) → (w ≡ how) × (c ≡ d)
meant_call o w how c d is e =
    let both : ◌≡◌ {A = Option (InvokeKind × CallMeaning)} (Some (w, c)) (Some (how, d)) = sym (ap only_call e) ∙ sym is in
    (pair_first InvokeKind CallMeaning (w, c) (how, d) both, pair_second InvokeKind CallMeaning (w, c) (how, d) both)

pub exact_user : (p : Program) (types : List TypeRef) (o : Option Meaning) (how : InvokeKind) (call : CallUse) (m : MethodId) (k : ℕ)
    → Some (how, call_named p types call) ≡ only_call o
    → ((w : InvokeKind) (c : CallMeaning) → o ≡ Some (Call w c) → IsCalled p c.member) → call.member ≡ members.Method m
    → (m.class < length p.parts → m.method < count_at p m.class → k ≡ methods_before p m.class + m.method)
    → (w : InvokeKind) (c : CallMeaning) → o ≡ Some (Call w c) → (w ≡ how) × CallsUser p types c call.params k
exact_user p types o how call m k is by own number w c e =
    let same = meant_call o w how c (call_named p types call) is e in
    let member : c.member ≡ members.Method m = ap (λ (c : CallMeaning). c.member) same.1 ∙ own in
    let one = by w c e in
    let there : IsThere p (members.Method m) one.desc = subst (λ (x : Member). IsMethod p x one.desc) member one.is in
    (same.0, record { taken = ap (λ (c : CallMeaning). c.params) same.1; method = m; member = member; number = numbered p m one.desc k there number })

pub exact_library : (p : Program) (types : List TypeRef) (o : Option Meaning) (how : InvokeKind) (call : CallUse) (lib : LibCall)
    → Some (how, call_named p types call) ≡ only_call o → call.member ≡ members.LibMethod lib
    → (w : InvokeKind) (c : CallMeaning) → o ≡ Some (Call w c) → (w ≡ how) × CallsLibrary p types c call.params lib
exact_library p types o how call lib is own w c e =
    let same = meant_call o w how c (call_named p types call) is e in
    (same.0, record { taken = ap (λ (c : CallMeaning). c.params) same.1; member = ap (λ (c : CallMeaning). c.member) same.1 ∙ own })

-- a field isn't called
pub exact_never : (p : Program) (types : List TypeRef) (o : Option Meaning) (how : InvokeKind) (call : CallUse) → Some (how, call_named p types call) ≡ only_call o
    → ((w : InvokeKind) (c : CallMeaning) → o ≡ Some (Call w c) → IsCalled p c.member)
    → ((desc : List ℕ) → IsMethod p call.member desc → ⊥) → (w : InvokeKind) (c : CallMeaning) → o ≡ Some (Call w c) → ⊥
exact_never p types o how call is by none w c e =
    let same = meant_call o w how c (call_named p types call) is e in
    let one = by w c e in
    none one.desc (subst (λ (x : Member). IsMethod p x one.desc) (ap (λ (c : CallMeaning). c.member) same.1) one.is)

-- ---- arrays

-- what is made of an entry as an array is one
record IsArray (v : VType) : Type 0 where
  array : ArrayType
  is : v ≡ types.Array array

array_if : (b : Bool) (a : ArrayType) (v : VType) → option_map MakeArray (if b then Some (types.Array a) else None) ≡ Some (MakeArray v) → IsArray v
array_if true a v e = record { array = a; is = cc }
array_if false a v e = absurd cc

array_of : (t v : VType) → option_map MakeArray (array_over t) ≡ Some (MakeArray v) → IsArray v
unfolding array_over
array_of types.Top v e = absurd cc
array_of types.Int v e = absurd cc
array_of types.Long v e = absurd cc
array_of types.Null v e = absurd cc
array_of types.UninitThis v e = absurd cc
array_of (types.Uninit at) v e = absurd cc
array_of (types.Object c) v e = record { array = record { depth = 1; element = elements.Class c }; is = cc }
array_of (types.Array a) v e = array_if (nat_lt (a.depth + 1) (2 ^ 32)) (record { depth = a.depth + 1; element = a.element }) v e
array_of types.Ctx v e = absurd cc

array_entry : (o : Option EntryMeaning) (v : VType) → option_and_then array_made o ≡ Some (MakeArray v) → IsArray v
array_entry None v e = absurd cc
array_entry (Some (AConstant c)) v e = absurd cc
array_entry (Some (AClass t)) v e = array_of t v e
array_entry (Some (AField f)) v e = absurd cc
array_entry (Some (AMethod b c)) v e = absurd cc

array_meaning : (p : Program) (pool : List Entry) (i : ℕ) (v : VType) → array_meant p pool i ≡ Some (MakeArray v) → IsArray v
unfolding array_meant
array_meaning p pool i v e = array_entry (entry_meant p pool (slice_get pool i)) v e

makes : (p : Program) (t : Tables) (k : ℕ) (v : VType) (x : ArrayType) (r : TypeRef) → v ≡ types.Array x → named p r ≡ v
    → ((a : ArrayRef) → r ≡ numbers.Array a → slice_get t.arrays k ≡ Some a) → MakesArray p t v k
makes p t k v x numbers.Top is e there = absurd cc (e ∙ is)
makes p t k v x numbers.Int is e there = absurd cc (e ∙ is)
makes p t k v x numbers.Long is e there = absurd cc (e ∙ is)
makes p t k v x numbers.Null is e there = absurd cc (e ∙ is)
makes p t k v x numbers.UninitThis is e there = absurd cc (e ∙ is)
makes p t k v x (numbers.Uninit at) is e there = absurd cc (e ∙ is)
makes p t k v x (numbers.Object c) is e there = absurd cc (e ∙ is)
makes p t k v x (numbers.Array a) is e there = record { array = a; there = there a refl; type = sym e }
makes p t k v x numbers.Ctx is e there = absurd cc (e ∙ is)

pub array_made_so : (p : Program) (pool : List Entry) (i : ℕ) (t : Tables) (r : TypeRef) (k : ℕ) → Some (named p r) ≡ only_array (array_meant p pool i)
    → ((a : ArrayRef) → r ≡ numbers.Array a → slice_get t.arrays k ≡ Some a) → ArrayMade p pool t i k
array_made_so p pool i t r k is there =
    let e = array_back (array_meant p pool i) (named p r) is in
    let array = array_meaning p pool i (named p r) e in
    record { type = named p r; means = e; makes = makes p t k (named p r) array.array r array.is refl there }
