-- References resolve to members that are there, of the descriptors that they say.
use Rattle.std.proofs.Common.{◌≡◌, ℕ, zero, suc, ◌<◌, Bool, true, false, List, [], ◌∷◌, length, get_or, Option, Some, None, refl, ap, subst, ◌∙◌, arith}
use Rattle.std.specs.Prelude.{◌&&◌, option_and_then, option_map, slice_get, if◌then◌else◌}
use Rattle.std.specs.List.{position}
use Rattle.std.specs.Str.{bytes_eq}
use Rattle.std.proofs.lemmas.List.Quantifiers.{position-Some}
use Rattle.std.proofs.lemmas.Slice.Eq.{bytes_eq-Decides}
use Rattle.jground.specs.jbase.FirstFaults.{first_some, or_else}
use Rattle.jclass.specs.declared.class.ClassParts.{ClassParts}
use Rattle.jclass.specs.declared.class.MemberInfo.{MemberInfo}
use Rattle.jlib.specs.declared.calls.LibCall.{LibCall}
use Rattle.jlib.specs.declared.classes.LibClass.{LibClass}
use Rattle.jlib.specs.LibraryMembers as library_calls
use Rattle.jlib.specs.LibraryClasses as library
use Rattle.jresolution.specs.declared.jprogram.member.Member.{Member}
use Rattle.jresolution.specs.declared.jprogram.member.Member.TheVariants.{Field, Method, LibField, LibMethod}
use Rattle.jresolution.specs.declared.jprogram.part.CodePart.{CodePart}
use Rattle.jresolution.specs.jprogram.ProgramClasses.{Class, Lib, Program, User, find, found_at, place_of, superinterfaces, up}
use Rattle.jresolution.specs.jprogram.MemberResolution.{field_at, field_in, init, lib_field, lib_method, method_at, method_id, method_in, part_of, resolve_field, resolve_method}
use Rattle.jresolution.specs.jprogram.ClassFileParts.{is_called, member_desc, member_name}
use Rattle.jparts.specs.declared.jpool.entry.Entry.{Entry}
use Rattle.jparts.specs.declared.jpool.entry.Entry.TheVariants as entries
use Rattle.jparts.specs.jpool.ConstantPools.{name_and_type_at}
use Rattle.jparts.specs.declared.jcode.op_form.PoolForm.TheVariants as forms
use Rattle.jparts.specs.declared.jcode.names.CallOp.{CallOp}
use Rattle.jparts.specs.declared.jcode.names.FieldOp.{FieldOp}
use Rattle.jtypes.specs.declared.vtype.Name.{Name}
use Rattle.jresolution.specs.declared.juses.meaning.InvokeKind.{InvokeKind}
use Rattle.jresolution.specs.juses.InstructionMeanings.{AClass, AConstant, AField, AMethod, Call, CallMeaning, EntryMeaning, Field as FieldOf, FieldMeaning, Reference, call_as}
use Rattle.jresolution.specs.juses.InstructionMeanings.{call_meant, entry_meant, field_as, field_entry, field_meant, meant}
use Rattle.jresolution.specs.ProofNames.{called_by, called_by_interface, field_used}
use Rattle.jresolution.specs.juses.InstructionMeanings.{method_entry, reference}
use Rattle.jresolution.specs.juses.DescriptorTypes.{Called, Held, Typed, Untyped, name, typed}
use Rattle.jready.specs.ResolvedMembers.{IsCalled, IsField, IsMethod, IsThere}

-- ---- lists

at_get : {A : Type 0} (xs : List A) (i : ℕ) (d : A) → i < length xs → slice_get xs i ≡ Some (get_or xs i d)
at_get [] i d lt = absurd (omega arith)
at_get (x ∷ xs) zero d lt = refl
at_get (x ∷ xs) (suc i) d lt = at_get xs i d (omega arith)

-- the item at a position passes the test
record IsAt {A : Type 0} (f : A → Bool) (xs : List A) (i : ℕ) : Type 0 where
  item : A
  there : slice_get xs i ≡ Some item
  passes : f item ≡ true

at_position : {A : Type 0} (f : A → Bool) (xs : List A) (i : ℕ) → position f xs ≡ Some i → IsAt f xs i
at_position f [] i e = absurd cc
at_position f (x ∷ xs) i e = let at = position-Some f (x ∷ xs) i x e in record { item = get_or (x ∷ xs) i x; there = at_get (x ∷ xs) i x at.0; passes = at.1 }

second : (a b : Bool) → (a && b) ≡ true → b ≡ true
second true true e = refl
second true false e = absurd cc
second false b e = absurd cc

some_of : {A : Type 0} {x y : A} → Some x ≡ Some y → x ≡ y
some_of e = cc

-- ---- the class that is found

no_user : (o : Option LibClass) (i : ℕ) (c : ClassParts) → option_map Lib o ≡ Some (User i c) → ⊥
no_user None i c e = cc
no_user (Some l) i c e = cc

user_part : (o : Option CodePart) (k i : ℕ) (c : ClassParts) → option_map (λ (part : CodePart). User k part.class) o ≡ Some (User i c)
    → (k ≡ i) × (option_map (λ (part : CodePart). part.class) o ≡ Some c)
user_part None k i c e = absurd cc
user_part (Some part) k i c e = (cc, cc)

found_part : (p : Program) (name : List ℕ) (o : Option ℕ) (i : ℕ) (c : ClassParts) → found_at p name o ≡ Some (User i c) → part_of p i ≡ Some c
found_part p name None i c e = absurd (no_user (library.class_named p.side name) i c e)
found_part p name (Some k) i c e =
    let u = user_part (slice_get p.parts k) k i c e in
    subst (λ (n : ℕ). part_of p n ≡ Some c) u.0 u.1

class_there : (p : Program) (name : List ℕ) (i : ℕ) (c : ClassParts) → find p name ≡ Some (User i c) → part_of p i ≡ Some c
unfolding find
class_there p name i c e = found_part p name (place_of p.parts name) i c e

-- ---- the members of one class

described : (c : ClassParts) (name desc : List ℕ) (m : MemberInfo) → is_called c name desc m ≡ true → member_desc c m ≡ desc
described c name desc m e = (bytes_eq-Decides (member_desc c m) desc).0 (second (bytes_eq (member_name c m) name) (bytes_eq (member_desc c m) desc) e)

field_there : (p : Program) (i j : ℕ) (c : ClassParts) (name desc : List ℕ) → part_of p i ≡ Some c → position (is_called c name desc) c.fields ≡ Some j
    → IsThere p (Field i j) desc
field_there p i j c name desc part at =
    let one = at_position (is_called c name desc) c.fields j at in
    record {
      class = c;
      info = one.item;
      found = ap (option_and_then (λ (c : ClassParts). option_map (λ (m : MemberInfo). (c, m)) (slice_get c.fields j))) part
          ∙ ap (option_map (λ (m : MemberInfo). (c, m))) one.there;
      described = described c name desc one.item one.passes;
    }

method_there : (p : Program) (i j : ℕ) (c : ClassParts) (name desc : List ℕ) → part_of p i ≡ Some c → position (is_called c name desc) c.methods ≡ Some j
    → IsThere p (Method (method_id i j)) desc
method_there p i j c name desc part at =
    let one = at_position (is_called c name desc) c.methods j at in
    record {
      class = c;
      info = one.item;
      found = ap (option_and_then (λ (c : ClassParts). option_map (λ (m : MemberInfo). (c, m)) (slice_get c.methods j))) part
          ∙ ap (option_map (λ (m : MemberInfo). (c, m))) one.there;
      described = described c name desc one.item one.passes;
    }

field_by : (p : Program) (i : ℕ) (c : ClassParts) (name desc : List ℕ) (m : Member) (o : Option ℕ) → part_of p i ≡ Some c
    → position (is_called c name desc) c.fields ≡ o → option_map (λ (j : ℕ). Field i j) o ≡ Some m → IsField p m desc
field_by p i c name desc m None part at e = absurd cc
field_by p i c name desc m (Some j) part at e = subst (λ (m : Member). IsField p m desc) (some_of e) (field_there p i j c name desc part at)

method_by : (p : Program) (i : ℕ) (c : ClassParts) (name desc : List ℕ) (m : Member) (o : Option ℕ) → part_of p i ≡ Some c
    → position (is_called c name desc) c.methods ≡ o → option_map (λ (j : ℕ). Method (method_id i j)) o ≡ Some m → IsMethod p m desc
method_by p i c name desc m None part at e = absurd cc
method_by p i c name desc m (Some j) part at e = subst (λ (m : Member). IsMethod p m desc) (some_of e) (method_there p i j c name desc part at)

lib_field_is : (p : Program) (desc : List ℕ) (b : Bool) (m : Member) → (if b then Some LibField else None) ≡ Some m → IsField p m desc
lib_field_is p desc true m e = subst (λ (m : Member). IsField p m desc) (some_of e) tt
lib_field_is p desc false m e = absurd cc

lib_method_is : (p : Program) (desc : List ℕ) (b : Bool) (call : LibCall) (m : Member) → (if b then None else Some (LibMethod call)) ≡ Some m
    → IsMethod p m desc
lib_method_is p desc true call m e = absurd cc
lib_method_is p desc false call m e = subst (λ (m : Member). IsMethod p m desc) (some_of e) tt

lib_field_by : (p : Program) (desc : List ℕ) (o : Option LibCall) (m : Member) → option_and_then lib_field o ≡ Some m → IsField p m desc
lib_field_by p desc None m e = absurd cc
lib_field_by p desc (Some call) m e = lib_field_is p desc (library_calls.is_field call) m e

lib_method_by : (p : Program) (desc : List ℕ) (o : Option LibCall) (m : Member) → option_and_then lib_method o ≡ Some m → IsMethod p m desc
lib_method_by p desc None m e = absurd cc
lib_method_by p desc (Some call) m e = lib_method_is p desc (library_calls.is_field call) call m e

field_in_class : (p : Program) (class name desc : List ℕ) (m : Member) (o : Option Class) → find p class ≡ o
    → option_and_then (λ (c : Class). field_in p.side c name desc) o ≡ Some m → IsField p m desc
field_in_class p class name desc m None at e = absurd cc
field_in_class p class name desc m (Some (User i c)) at e = field_by p i c name desc m (position (is_called c name desc) c.fields)
    (class_there p class i c at) refl e
field_in_class p class name desc m (Some (Lib l)) at e = lib_field_by p desc (library_calls.member_named p.side (library.name_of l) name desc) m e

method_in_class : (p : Program) (class name desc : List ℕ) (m : Member) (o : Option Class) → find p class ≡ o
    → option_and_then (λ (c : Class). method_in p.side c name desc) o ≡ Some m → IsMethod p m desc
method_in_class p class name desc m None at e = absurd cc
method_in_class p class name desc m (Some (User i c)) at e = method_by p i c name desc m (position (is_called c name desc) c.methods)
    (class_there p class i c at) refl e
method_in_class p class name desc m (Some (Lib l)) at e = lib_method_by p desc (library_calls.member_named p.side (library.name_of l) name desc) m e

field_at_is : (p : Program) (name desc : List ℕ) (class : List ℕ) (m : Member) → field_at p name desc class ≡ Some m → IsField p m desc
field_at_is p name desc class m e = field_in_class p class name desc m (find p class) refl e

method_at_is : (p : Program) (name desc : List ℕ) (class : List ℕ) (m : Member) → method_at p name desc class ≡ Some m → IsMethod p m desc
method_at_is p name desc class m e = method_in_class p class name desc m (find p class) refl e

-- ---- the first of several

either_is : (P : Member → Type 0) (a b : Option Member) (m : Member) → ((m : Member) → a ≡ Some m → P m) → ((m : Member) → b ≡ Some m → P m)
    → or_else a b ≡ Some m → P m
either_is P None b m f g e = g m e
either_is P (Some x) b m f g e = f m e

first_is : (P : Member → Type 0) (f : List ℕ → Option Member) → ((x : List ℕ) (m : Member) → f x ≡ Some m → P m) → (xs : List (List ℕ)) (m : Member)
    → first_some f xs ≡ Some m → P m
unfolding first_some
first_is P f h [] m e = absurd cc
first_is P f h (x ∷ xs) m e = either_is P (f x) (first_some f xs) m (h x) (first_is P f h xs) e

-- ---- what references resolve to

pub field_resolved : (p : Program) (class name desc : List ℕ) (m : Member) → resolve_field p class name desc ≡ Some m → IsField p m desc
unfolding resolve_field
field_resolved p class name desc m e =
    let own = field_at_is p name desc in
    first_is (λ m. IsField p m desc) _ (λ x m is. either_is (λ m. IsField p m desc) (field_at p name desc x)
    (first_some (field_at p name desc) (superinterfaces p x)) m (own x)
    (first_is (λ m. IsField p m desc) (field_at p name desc) own (superinterfaces p x)) is) (up p class) m e

method_chosen : (p : Program) (class name desc : List ℕ) (b : Bool) (m : Member)
    → (if b then method_at p name desc class else or_else (first_some (method_at p name desc) (up p class))
    (first_some (λ x. first_some (method_at p name desc) (superinterfaces p x)) (up p class))) ≡ Some m → IsMethod p m desc
method_chosen p class name desc true m e = method_at_is p name desc class m e
method_chosen p class name desc false m e =
    let own = method_at_is p name desc in
    either_is (λ m. IsMethod p m desc) (first_some (method_at p name desc) (up p class)) _ m
    (first_is (λ m. IsMethod p m desc) (method_at p name desc) own (up p class))
    (first_is (λ m. IsMethod p m desc) _ (λ x. first_is (λ m. IsMethod p m desc) (method_at p name desc) own (superinterfaces p x)) (up p class)) e

pub method_resolved : (p : Program) (class name desc : List ℕ) (m : Member) → resolve_method p class name desc ≡ Some m → IsMethod p m desc
unfolding resolve_method
method_resolved p class name desc m e = method_chosen p class name desc (bytes_eq name init) m e

-- ---- what entries stand for

mapped_apart : {A : Type 0} (f : A → EntryMeaning) (x : EntryMeaning) → ((a : A) → Some (f a) ≡ Some x → ⊥) → (o : Option A) → option_map f o ≡ Some x → ⊥
mapped_apart f x h None e = cc
mapped_apart f x h (Some a) e = h a e

-- a field, by the reference of its entry
pub record ByField (p : Program) (f : FieldMeaning) : Type 0 where
  pub desc : List ℕ
  pub member : IsField p f.member desc
  pub held : typed p desc ≡ Held f.held

field_by_parts : (p : Program) (owner : Name) (o : Option Member) (t : Typed) (f : FieldMeaning) → field_as owner o t ≡ Some f
    → (o ≡ Some f.member) × (t ≡ Held f.held)
field_by_parts p owner None t f e = absurd cc
field_by_parts p owner (Some m) Untyped f e = absurd cc
field_by_parts p owner (Some m) (Held t) f e = (cc, cc)
field_by_parts p owner (Some m) (Called params ret) f e = absurd cc

field_of_reference : (p : Program) (r : Reference) (f : FieldMeaning) → field_meant p r ≡ Some f → ByField p f
unfolding field_meant
field_of_reference p r f e =
    let parts = field_by_parts p (name r.owner) (resolve_field p r.owner r.name r.desc) (typed p r.desc) f e in
    record { desc = r.desc; member = field_resolved p r.owner r.name r.desc f.member parts.0; held = parts.1 }

field_mapped : (p : Program) (r : Reference) (f : FieldMeaning) (o : Option FieldMeaning) → field_meant p r ≡ o → option_map AField o ≡ Some (AField f)
    → ByField p f
field_mapped p r f None is e = absurd cc
field_mapped p r f (Some g) is e = field_of_reference p r f (is ∙ cc)

field_paired : (p : Program) (pool : List Entry) (class : ℕ) (f : FieldMeaning) (o : Option (ℕ × ℕ))
    → option_and_then (λ b. field_entry p (reference pool class b)) o ≡ Some (AField f) → ByField p f
field_paired p pool class f None e = absurd cc
field_paired p pool class f (Some b) e = field_mapped p (reference pool class b) f (field_meant p (reference pool class b)) refl e

method_no_field : (p : Program) (pool : List Entry) (class : ℕ) (f : FieldMeaning) (o : Option (ℕ × ℕ))
    → option_and_then (λ b. method_entry p (reference pool class b)) o ≡ Some (AField f) → ⊥
method_no_field p pool class f None e = cc
method_no_field p pool class f (Some b) e = mapped_apart (AMethod (bytes_eq (reference pool class b).name init)) (AField f) (λ c e. cc)
    (call_meant p (reference pool class b)) e

pub field_entry_is : (p : Program) (pool : List Entry) (e : Option Entry) (f : FieldMeaning) → entry_meant p pool e ≡ Some (AField f) → ByField p f
unfolding entry_meant
field_entry_is p pool None f e = absurd cc
field_entry_is p pool (Some entries.Unused) f e = absurd cc
field_entry_is p pool (Some (entries.Utf8 t)) f e = absurd cc
field_entry_is p pool (Some (entries.Integer n)) f e = absurd cc
field_entry_is p pool (Some (entries.Float n)) f e = absurd cc
field_entry_is p pool (Some (entries.Long n)) f e = absurd cc
field_entry_is p pool (Some (entries.Double n)) f e = absurd cc
field_entry_is p pool (Some (entries.Class i)) f e = absurd (mapped_apart AClass (AField f) (λ t e. cc) _ e)
field_entry_is p pool (Some (entries.Str i)) f e = absurd cc
field_entry_is p pool (Some (entries.Field class both)) f e = field_paired p pool class f (name_and_type_at pool both) e
field_entry_is p pool (Some (entries.Method class both)) f e = absurd (method_no_field p pool class f (name_and_type_at pool both) e)
field_entry_is p pool (Some (entries.InterfaceMethod class both)) f e = absurd (method_no_field p pool class f (name_and_type_at pool both) e)
field_entry_is p pool (Some (entries.NameAndType a b)) f e = absurd cc
field_entry_is p pool (Some (entries.MethodHandle a b)) f e = absurd cc
field_entry_is p pool (Some (entries.MethodType a)) f e = absurd cc
field_entry_is p pool (Some (entries.InvokeDynamic a b)) f e = absurd cc

call_by_parts : (p : Program) (owner : Name) (o : Option Member) (t : Typed) (c : CallMeaning) → call_as owner o t ≡ Some c → o ≡ Some c.member
call_by_parts p owner None t c e = absurd cc
call_by_parts p owner (Some m) Untyped c e = absurd cc
call_by_parts p owner (Some m) (Held t) c e = absurd cc
call_by_parts p owner (Some m) (Called params ret) c e = cc

call_of_reference : (p : Program) (r : Reference) (c : CallMeaning) → call_meant p r ≡ Some c → IsCalled p c.member
unfolding call_meant
call_of_reference p r c e = record {
  desc = r.desc;
  is = method_resolved p r.owner r.name r.desc c.member (call_by_parts p (name r.owner) (resolve_method p r.owner r.name r.desc) (typed p r.desc) c e);
}

call_mapped : (p : Program) (r : Reference) (is_init b : Bool) (c : CallMeaning) (o : Option CallMeaning) → call_meant p r ≡ o
    → option_map (AMethod is_init) o ≡ Some (AMethod b c) → IsCalled p c.member
call_mapped p r is_init b c None is e = absurd cc
call_mapped p r is_init b c (Some d) is e = call_of_reference p r c (is ∙ cc)

call_paired : (p : Program) (pool : List Entry) (class : ℕ) (b : Bool) (c : CallMeaning) (o : Option (ℕ × ℕ))
    → option_and_then (λ both. method_entry p (reference pool class both)) o ≡ Some (AMethod b c) → IsCalled p c.member
call_paired p pool class b c None e = absurd cc
call_paired p pool class b c (Some both) e = call_mapped p (reference pool class both) (bytes_eq (reference pool class both).name init) b c
    (call_meant p (reference pool class both)) refl e

field_no_method : (p : Program) (pool : List Entry) (class : ℕ) (b : Bool) (c : CallMeaning) (o : Option (ℕ × ℕ))
    → option_and_then (λ both. field_entry p (reference pool class both)) o ≡ Some (AMethod b c) → ⊥
field_no_method p pool class b c None e = cc
field_no_method p pool class b c (Some both) e = mapped_apart AField (AMethod b c) (λ f e. cc) (field_meant p (reference pool class both)) e

pub method_entry_is : (p : Program) (pool : List Entry) (e : Option Entry) (b : Bool) (c : CallMeaning) → entry_meant p pool e ≡ Some (AMethod b c)
    → IsCalled p c.member
unfolding entry_meant
method_entry_is p pool None b c e = absurd cc
method_entry_is p pool (Some entries.Unused) b c e = absurd cc
method_entry_is p pool (Some (entries.Utf8 t)) b c e = absurd cc
method_entry_is p pool (Some (entries.Integer n)) b c e = absurd cc
method_entry_is p pool (Some (entries.Float n)) b c e = absurd cc
method_entry_is p pool (Some (entries.Long n)) b c e = absurd cc
method_entry_is p pool (Some (entries.Double n)) b c e = absurd cc
method_entry_is p pool (Some (entries.Class i)) b c e = absurd (mapped_apart AClass (AMethod b c) (λ t e. cc) _ e)
method_entry_is p pool (Some (entries.Str i)) b c e = absurd cc
method_entry_is p pool (Some (entries.Field class both)) b c e = absurd (field_no_method p pool class b c (name_and_type_at pool both) e)
method_entry_is p pool (Some (entries.Method class both)) b c e = call_paired p pool class b c (name_and_type_at pool both) e
method_entry_is p pool (Some (entries.InterfaceMethod class both)) b c e = call_paired p pool class b c (name_and_type_at pool both) e
method_entry_is p pool (Some (entries.NameAndType x y)) b c e = absurd cc
method_entry_is p pool (Some (entries.MethodHandle x y)) b c e = absurd cc
method_entry_is p pool (Some (entries.MethodType x)) b c e = absurd cc
method_entry_is p pool (Some (entries.InvokeDynamic x y)) b c e = absurd cc

-- ---- what instructions mean

field_used_is : (p : Program) (op : FieldOp) (f : FieldMeaning) (o : Option EntryMeaning) → ((g : FieldMeaning) → o ≡ Some (AField g) → ByField p g)
    → option_and_then (field_used op) o ≡ Some (FieldOf op f) → ByField p f
field_used_is p op f None h e = absurd cc
field_used_is p op f (Some (AConstant c)) h e = absurd cc
field_used_is p op f (Some (AClass t)) h e = absurd cc
field_used_is p op f (Some (AField g)) h e = let same : g ≡ f = cc in subst (ByField p) same (h g refl)
field_used_is p op f (Some (AMethod b c)) h e = absurd cc

-- the field of an instruction is there, and of the type by which it is named
pub field_is : (p : Program) (pool : List Entry) (op : FieldOp) (i : ℕ) (f : FieldMeaning) → meant p pool (forms.Field op i) ≡ Some (FieldOf op f)
    → ByField p f
unfolding meant
field_is p pool op i f e = field_used_is p op f (entry_meant p pool (slice_get pool i)) (λ g is. field_entry_is p pool (slice_get pool i) g is) e

called_by_is : (p : Program) (op : CallOp) (w : InvokeKind) (c : CallMeaning) (o : Option EntryMeaning)
    → ((b : Bool) (d : CallMeaning) → o ≡ Some (AMethod b d) → IsCalled p d.member) → option_and_then (called_by op) o ≡ Some (Call w c) → IsCalled p c.member
called_by_is p op w c None h e = absurd cc
called_by_is p op w c (Some (AConstant x)) h e = absurd cc
called_by_is p op w c (Some (AClass t)) h e = absurd cc
called_by_is p op w c (Some (AField g)) h e = absurd cc
called_by_is p op w c (Some (AMethod b d)) h e = let same : d ≡ c = cc in subst (λ (x : CallMeaning). IsCalled p x.member) same (h b d refl)

pub call_is : (p : Program) (pool : List Entry) (op : CallOp) (i : ℕ) (w : InvokeKind) (c : CallMeaning) → meant p pool (forms.Call op i) ≡ Some (Call w c)
    → IsCalled p c.member
unfolding meant
call_is p pool op i w c e = called_by_is p op w c (entry_meant p pool (slice_get pool i)) (λ b d is. method_entry_is p pool (slice_get pool i) b d is) e

interface_by_is : (p : Program) (w : InvokeKind) (c : CallMeaning) (o : Option EntryMeaning)
    → ((b : Bool) (d : CallMeaning) → o ≡ Some (AMethod b d) → IsCalled p d.member) → option_and_then called_by_interface o ≡ Some (Call w c)
    → IsCalled p c.member
interface_by_is p w c None h e = absurd cc
interface_by_is p w c (Some (AConstant x)) h e = absurd cc
interface_by_is p w c (Some (AClass t)) h e = absurd cc
interface_by_is p w c (Some (AField g)) h e = absurd cc
interface_by_is p w c (Some (AMethod b d)) h e = let same : d ≡ c = cc in subst (λ (x : CallMeaning). IsCalled p x.member) same (h b d refl)

pub interface_is : (p : Program) (pool : List Entry) (i slots : ℕ) (w : InvokeKind) (c : CallMeaning)
    → meant p pool (forms.CallInterface i slots) ≡ Some (Call w c) → IsCalled p c.member
unfolding meant
interface_is p pool i slots w c e = interface_by_is p w c (entry_meant p pool (slice_get pool i))
    (λ b d is. method_entry_is p pool (slice_get pool i) b d is) e
