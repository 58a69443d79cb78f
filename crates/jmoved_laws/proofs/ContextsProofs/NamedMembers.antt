-- The members of the library that code names, and those to which its calls come: the side has them; and what is static is called by its name.
use Rattle.std.proofs.Common.{◌≡◌, ℕ, Bool, true, false, List, [], ◌∷◌, Option, Some, None, refl, ap, subst, ◌∙◌}
use Rattle.std.specs.Prelude.{IfSome, option_map, option_and_then, slice_get, if◌then◌else◌}
use Rattle.std.specs.Str.{bytes_eq}
use Rattle.jground.specs.jbase.FirstFaults.{first_some, or_else}
use Rattle.jparts.specs.declared.jpool.entry.Entry.{Entry}
use Rattle.jparts.specs.declared.jpool.entry.Entry.TheVariants as entries
use Rattle.jparts.specs.jpool.ConstantPools.{name_and_type_at, utf8_at}
use Rattle.jparts.specs.declared.jcode.op.Placed.{Placed}
use Rattle.jparts.specs.declared.jcode.op.Switch.{Switch as SwitchOp}
use Rattle.jparts.specs.declared.jcode.op_form.ArrayForm.{ArrayForm}
use Rattle.jparts.specs.declared.jcode.op_form.ArrayForm.TheVariants as arrays
use Rattle.jparts.specs.declared.jcode.op_form.Flow.{Flow}
use Rattle.jparts.specs.declared.jcode.op_form.Flow.TheVariants as flows
use Rattle.jparts.specs.declared.jcode.op_form.OpForm.{OpForm}
use Rattle.jparts.specs.declared.jcode.op_form.OpForm.TheVariants as form_kinds
use Rattle.jparts.specs.declared.jcode.op_form.PoolForm.{PoolForm}
use Rattle.jparts.specs.declared.jcode.op_form.PoolForm.TheVariants as forms
use Rattle.jparts.specs.jcode.InstructionForms.{form}
use Rattle.jlib.specs.declared.calls.LibCall.{LibCall}
use Rattle.jlib.specs.LibraryMembers as library
use Rattle.jtypes.specs.declared.vtype.Name.{Name}
use Rattle.jtypes.specs.declared.vtype.VType.TheVariants as types
use Rattle.jresolution.specs.declared.jprogram.member.Member.{Member}
use Rattle.jresolution.specs.declared.jprogram.member.Member.TheVariants.{LibMethod}
use Rattle.jresolution.specs.jprogram.ProgramClasses.{Program, superinterfaces, up}
use Rattle.jresolution.specs.jprogram.MemberResolution.{init, method_at, resolve_method}
use Rattle.jresolution.specs.juses.IndexedInstructions.{Always, If, IfInt, IfRef, Instruction, Jump, Switch, Used, by_form, cases, default, flow, instruction, target}
use Rattle.jresolution.specs.ProofNames.{array, array_made}
use Rattle.jresolution.specs.juses.InstructionMeanings as meanings
use Rattle.jresolution.specs.juses.InstructionMeanings.{AClass, AConstant, AField, AMethod, CallMeaning, EntryMeaning, Meaning, Reference, array_meant, call_as, call_meant, entry_meant, field_meant, meant, reference, used}
use Rattle.jresolution.specs.juses.DescriptorTypes.{Called, Held, Typed, Untyped, array_over, class_type, name, typed}
use Rattle.jmoved_laws.proofs.NamesProofs.LibraryOverrides.{lib_found}

-- ---- what there may be

each_map : {A B : Type 0} (P : B → Type 0) (g : A → B) (o : Option A) → ((a : A) → P (g a)) → IfSome (option_map g o) P
each_map P g None h = tt
each_map P g (Some a) h = h a

each_then : {A B : Type 0} (P : B → Type 0) (g : A → Option B) (o : Option A) → ((a : A) → IfSome (g a) P) → IfSome (option_and_then g o) P
each_then P g None h = tt
each_then P g (Some a) h = h a

map_by : {A B : Type 0} (Q : A → Type 0) (P : B → Type 0) (g : A → B) (o : Option A) → IfSome o Q → ((a : A) → Q a → P (g a)) → IfSome (option_map g o) P
map_by Q P g None q h = tt
map_by Q P g (Some a) q h = h a q

then_by : {A B : Type 0} (Q : A → Type 0) (P : B → Type 0) (g : A → Option B) (o : Option A) → IfSome o Q → ((a : A) → Q a → IfSome (g a) P) → IfSome (option_and_then g o) P
then_by Q P g None q h = tt
then_by Q P g (Some a) q h = h a q

pub some_by : {A : Type 0} (P : A → Type 0) (o : Option A) (a : A) → IfSome o P → o ≡ Some a → P a
some_by P None a h e = absurd cc
some_by P (Some b) a h e = let same : b ≡ a = cc in subst P same h

either_some : {A : Type 0} (P : A → Type 0) (a b : Option A) → IfSome a P → IfSome b P → IfSome (or_else a b) P
either_some P None b h k = k
either_some P (Some x) b h k = h

first_of : {A B : Type 0} (P : B → Type 0) (f : A → Option B) → ((a : A) → IfSome (f a) P) → (xs : List A) → IfSome (first_some f xs) P
unfolding first_some
first_of P f h [] = tt
first_of P f h (x ∷ xs) = either_some P (f x) (first_some f xs) (h x) (first_of P f h xs)

by_test : {A : Type 0} (P : A → Type 0) (t : Bool) (a b : Option A) → IfSome a P → IfSome b P → IfSome (if t then a else b) P
by_test P true a b h k = h
by_test P false a b h k = k

-- ---- what code names

-- where it is the library's, the program's side has it
abbrev pub IsOnSide : Program → Member → Type 0
IsOnSide p m = (call : LibCall) → m ≡ LibMethod call → library.call_stands_on p.side call ≡ true

module _ (p : Program) where
  pub found_on : (called desc class : List ℕ) (o : Option Member) → method_at p called desc class ≡ o → IfSome o (IsOnSide p)
  found_on called desc class None e = tt
  found_on called desc class (Some m) e = λ call is. (lib_found p called desc class call (e ∙ ap (λ (x : Member). Some x) is)).on

  pub declared_on : (called desc class : List ℕ) → IfSome (method_at p called desc class) (IsOnSide p)
  declared_on called desc class = found_on called desc class (method_at p called desc class) refl

  resolved_on : (class called desc : List ℕ) → IfSome (resolve_method p class called desc) (IsOnSide p)
  unfolding resolve_method
  resolved_on class called desc =
      let f = method_at p called desc in
      let above = first_of (IsOnSide p) f (declared_on called desc) (up p class) in
      let beside = first_of (IsOnSide p) (λ x. first_some f (superinterfaces p x)) (λ x. first_of (IsOnSide p) f (declared_on called desc) (superinterfaces p x)) (up p class) in
      by_test (IsOnSide p) (bytes_eq called init) (f class) _ (declared_on called desc class)
      (either_some (IsOnSide p) (first_some f (up p class)) (first_some (λ x. first_some f (superinterfaces p x)) (up p class)) above beside)

  abbrev CallOn : CallMeaning → Type 0
  CallOn c = IsOnSide p c.member

  abbrev EntryOn : EntryMeaning → Type 0
  EntryOn (AMethod b c) = CallOn c
  EntryOn (AConstant x) = Unit {0}
  EntryOn (AClass t) = Unit {0}
  EntryOn (AField f) = Unit {0}

  abbrev MeansOn : Meaning → Type 0
  MeansOn (meanings.Call by c) = CallOn c
  MeansOn m = Unit {0}

  abbrev pub NamesOn : Instruction → Type 0
  NamesOn (Used m) = MeansOn m
  NamesOn i = Unit {0}

  call_on : (owner : Name) (o : Option Member) (t : Typed) → IfSome o (IsOnSide p) → IfSome (call_as owner o t) CallOn
  call_on owner None t h = tt
  call_on owner (Some m) (Called params ret) h = h
  call_on owner (Some m) Untyped h = tt
  call_on owner (Some m) (Held t) h = tt

  method_on : (b : Bool) (r : Reference) → IfSome (option_map (AMethod b) (call_meant p r)) EntryOn
  unfolding call_meant
  method_on b r =
      map_by CallOn EntryOn (AMethod b) (call_meant p r) (call_on (name r.owner) (resolve_method p r.owner r.name r.desc) (typed p r.desc) (resolved_on r.owner r.name r.desc)) (λ c h. h)

  entry_on : (pool : List Entry) (e : Option Entry) → IfSome (entry_meant p pool e) EntryOn
  unfolding entry_meant
  entry_on pool None = tt
  entry_on pool (Some (entries.Integer n)) = tt
  entry_on pool (Some (entries.Long n)) = tt
  entry_on pool (Some (entries.Str i)) = tt
  entry_on pool (Some (entries.Class i)) = each_map EntryOn AClass (option_and_then (class_type p) (utf8_at pool i)) (λ t. tt)
  entry_on pool (Some (entries.Field class both)) = each_then EntryOn _ (name_and_type_at pool both) (λ b. each_map EntryOn AField (field_meant p (reference pool class b)) (λ f. tt))
  entry_on pool (Some (entries.Method class both)) = each_then EntryOn _ (name_and_type_at pool both) (λ b. method_on _ (reference pool class b))
  entry_on pool (Some (entries.InterfaceMethod class both)) = each_then EntryOn _ (name_and_type_at pool both) (λ b. method_on _ (reference pool class b))
  entry_on pool (Some _) = tt

  array_on : (e : EntryMeaning) → IfSome (array_made e) MeansOn
  array_on (AClass t) = each_map MeansOn meanings.MakeArray (array_over t) (λ a. tt)
  array_on (AConstant x) = tt
  array_on (AField f) = tt
  array_on (AMethod b c) = tt

  used_on : (f : PoolForm) (e : EntryMeaning) → EntryOn e → IfSome (used f e) MeansOn
  used_on (forms.Constant i) (AConstant (meanings.Int n)) h = tt
  used_on (forms.Constant i) (AConstant (meanings.Long n)) h = tt
  used_on (forms.Constant i) (AConstant (meanings.Text t)) h = tt
  used_on (forms.Constant i) (AClass t) h = tt
  used_on (forms.Constant i) (AField f) h = tt
  used_on (forms.Constant i) (AMethod b c) h = tt
  used_on (forms.LongConstant i) (AConstant (meanings.Int n)) h = tt
  used_on (forms.LongConstant i) (AConstant (meanings.Long n)) h = tt
  used_on (forms.LongConstant i) (AConstant (meanings.Text t)) h = tt
  used_on (forms.LongConstant i) (AClass t) h = tt
  used_on (forms.LongConstant i) (AField f) h = tt
  used_on (forms.LongConstant i) (AMethod b c) h = tt
  used_on (forms.Field op i) (AConstant x) h = tt
  used_on (forms.Field op i) (AClass t) h = tt
  used_on (forms.Field op i) (AField f) h = tt
  used_on (forms.Field op i) (AMethod b c) h = tt
  used_on (forms.Call op i) (AConstant x) h = tt
  used_on (forms.Call op i) (AClass t) h = tt
  used_on (forms.Call op i) (AField f) h = tt
  used_on (forms.Call op i) (AMethod b c) h = h
  used_on (forms.CallInterface i slots) (AConstant x) h = tt
  used_on (forms.CallInterface i slots) (AClass t) h = tt
  used_on (forms.CallInterface i slots) (AField f) h = tt
  used_on (forms.CallInterface i slots) (AMethod b c) h = h
  used_on (forms.New i) (AClass (types.Object c)) h = tt
  used_on (forms.New i) (AClass types.Top) h = tt
  used_on (forms.New i) (AClass types.Int) h = tt
  used_on (forms.New i) (AClass types.Long) h = tt
  used_on (forms.New i) (AClass types.Null) h = tt
  used_on (forms.New i) (AClass types.UninitThis) h = tt
  used_on (forms.New i) (AClass (types.Uninit o)) h = tt
  used_on (forms.New i) (AClass (types.Array a)) h = tt
  used_on (forms.New i) (AClass types.Ctx) h = tt
  used_on (forms.New i) (AConstant x) h = tt
  used_on (forms.New i) (AField f) h = tt
  used_on (forms.New i) (AMethod b c) h = tt
  used_on (forms.Cast op i) (AClass t) h = tt
  used_on (forms.Cast op i) (AConstant x) h = tt
  used_on (forms.Cast op i) (AField f) h = tt
  used_on (forms.Cast op i) (AMethod b c) h = tt

  meant_on : (pool : List Entry) (f : PoolForm) → IfSome (option_map Used (meant p pool f)) NamesOn
  unfolding meant
  meant_on pool f =
      let e = slice_get pool (meanings.index_of f) in
      map_by MeansOn NamesOn Used (meant p pool f) (then_by EntryOn MeansOn (used f) (entry_meant p pool e) (entry_on pool e) (used_on f)) (λ m h. h)

  array_form_on : (pool : List Entry) (f : ArrayForm) → IfSome (array p pool f) NamesOn
  unfolding array_meant
  array_form_on pool (arrays.NewRef i) =
      map_by MeansOn NamesOn Used (array_meant p pool i) (then_by EntryOn MeansOn array_made (entry_meant p pool (slice_get pool i)) (entry_on pool (slice_get pool i)) (λ e h. array_on e)) (λ m h. h)
  array_form_on pool (arrays.New kind) = tt
  array_form_on pool (arrays.Load kind) = tt
  array_form_on pool (arrays.Store kind) = tt
  array_form_on pool arrays.Length = tt

  flow_on : (ops : List Placed) (at : ℕ) (f : Flow SwitchOp) → IfSome (flow ops at f) NamesOn
  flow_on ops at (flows.If test by) = each_map NamesOn (Jump (If test)) (target ops at by) (λ n. tt)
  flow_on ops at (flows.IfInt test by) = each_map NamesOn (Jump (IfInt test)) (target ops at by) (λ n. tt)
  flow_on ops at (flows.IfRef test by) = each_map NamesOn (Jump (IfRef test)) (target ops at by) (λ n. tt)
  flow_on ops at (flows.Goto by) = each_map NamesOn (Jump Always) (target ops at by) (λ n. tt)
  flow_on ops at (flows.Switch s) = each_then NamesOn (λ found. option_map (Switch found) (target ops at (default s))) (cases ops at s) (λ found. each_map NamesOn (Switch found) (target ops at (default s)) (λ n. tt))
  flow_on ops at (flows.Return kind) = tt
  flow_on ops at flows.Throw = tt

  form_on : (pool : List Entry) (ops : List Placed) (at : ℕ) (f : OpForm SwitchOp) → IfSome (by_form p pool ops at f) NamesOn
  form_on pool ops at (form_kinds.Simple f) = tt
  form_on pool ops at (form_kinds.Local f) = tt
  form_on pool ops at (form_kinds.Stack f) = tt
  form_on pool ops at (form_kinds.Flow f) = flow_on ops at f
  form_on pool ops at (form_kinds.Array f) = array_form_on pool f
  form_on pool ops at (form_kinds.Pool f) = meant_on pool f

  -- What an instruction of a program calls of the library, the program's side has.
  pub names_on : (pool : List Entry) (ops : List Placed) (one : Placed) (i : Instruction) → instruction p pool ops one ≡ Some i → NamesOn i
  unfolding instruction
  names_on pool ops one i e = some_by NamesOn (by_form p pool ops one.at (form one.op)) i (form_on pool ops one.at (form one.op)) e
