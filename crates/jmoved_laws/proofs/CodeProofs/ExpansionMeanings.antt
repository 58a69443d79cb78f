-- What the instructions of an expansion mean in the moved program: those that the instruction's meaning becomes.
use Rattle.std.proofs.Common.{◌≡◌, ℕ, ◌+◌, ℤ, Bool, true, false, cond, List, [], ◌∷◌, length, Option, Some, refl, ap, sym, ◌∙◌, subst, nat_lt}
use Rattle.std.specs.Prelude.{IsTrue, is_some, option_and_then, option_map, slice_get, if◌then◌else◌}
use Rattle.jparts.specs.declared.jcode.names.Access.{Access}
use Rattle.jparts.specs.declared.jcode.names.Access.TheVariants.{Load, Store}
use Rattle.jparts.specs.declared.jcode.names.CallOp.{CallOp}
use Rattle.jparts.specs.declared.jcode.names.CallOp.TheVariants as callops
use Rattle.jparts.specs.declared.jcode.names.CastOp.{CastOp}
use Rattle.jparts.specs.declared.jcode.names.FieldOp.{FieldOp}
use Rattle.jparts.specs.declared.jcode.names.LocalKind.TheVariants as locals
use Rattle.jparts.specs.declared.jcode.names.ObjectOp.TheVariants as objects
use Rattle.jparts.specs.declared.jcode.op_form.LocalForm.TheVariants.{Move}
use Rattle.jparts.specs.declared.jcode.op_form.PoolForm.{PoolForm}
use Rattle.jparts.specs.declared.jcode.op_form.PoolForm.TheVariants as pools
use Rattle.jparts.specs.declared.jcode.op.Goto.TheVariants as gotos
use Rattle.jparts.specs.declared.jcode.op.Ldc.TheVariants as ldcs
use Rattle.jparts.specs.declared.jcode.op.LocalOp.TheVariants.{At}
use Rattle.jparts.specs.declared.jcode.op.NewOp.TheVariants as news
use Rattle.jparts.specs.declared.jcode.op.Op.{Op}
use Rattle.jparts.specs.declared.jcode.op.Op.TheVariants as ops
use Rattle.jparts.specs.declared.jcode.op.Placed.{Placed}
use Rattle.jparts.specs.declared.jcode.op.Switch.{Switch as SwitchOp}
use Rattle.jparts.specs.declared.jcode.op.Wide.TheVariants as wides
use Rattle.jparts.specs.jcode.InstructionForms.{form}
use Rattle.jparts.specs.jcode.Instructions.{code, placed_at}
use Rattle.jparts.specs.declared.jpool.entry.Entry.{Entry}
use Rattle.jparts.specs.jpool.ConstantPools.{is_class}
use Rattle.jclass.specs.declared.class.ClassParts.{ClassParts}
use Rattle.jclass.specs.PoolOperands.{is_constant, is_field, is_wide_constant, names_well}
use Rattle.jlib.specs.declared.calls.ControllerCall.TheVariants as controller
use Rattle.jlib.specs.declared.calls.LibCall.{LibCall}
use Rattle.jlib.specs.declared.calls.LibCall.TheVariants as calls
use Rattle.jlib.specs.declared.calls.ThreadCall.TheVariants as thread
use Rattle.jmove.specs.declared.method.Expand.{Expand}
use Rattle.jmove.specs.declared.method.Expand.TheVariants.{Same, Call, Check, Snapshot, Privileged, PrivilegedWith, PrivilegedLimited}
use Rattle.jmove.specs.declared.method.Setting.{Setting}
use Rattle.jmove.specs.declared.naming.Security.TheVariants as security
use Rattle.jmove.specs.PoolAdditions.{numbered}
use Rattle.jmove.specs.AssemblyLines.{led, switch_with}
use Rattle.jmove.specs.ProofNames.{distance}
use Rattle.jmove.specs.MethodExpansion as moves
use Rattle.jmove.specs.MethodExpansion.{call_static, expansion, move_ref, push_int}
use Rattle.jmoveclass.specs.CallExpansion.{calling, expand_by}
use Rattle.jrewriting.specs.jmove_laws.InstructionNumbers as numbers
use Rattle.jrewriting.specs.jmove_laws.InstructionNumbers.{index_of, new_place}
use Rattle.jresolution.specs.declared.jprogram.member.Member.{Member}
use Rattle.jresolution.specs.declared.jprogram.member.Member.TheVariants as members
use Rattle.jresolution.specs.jprogram.ProgramClasses.{Program}
use Rattle.jresolution.specs.declared.juses.meaning.InvokeKind.{InvokeKind}
use Rattle.jresolution.specs.declared.juses.meaning.InvokeKind.TheVariants as how
use Rattle.jresolution.specs.juses.IndexedInstructions.{Always, If, IfInt, IfRef, Instruction, Jump, Local, Switch, Test, Used, by_form, cases, default, instruction, jump, switch, target}
use Rattle.jresolution.specs.juses.InstructionMeanings as meanings
use Rattle.jresolution.specs.juses.InstructionMeanings.{AClass, AConstant, AField, AMethod, CallMeaning, EntryMeaning, Meaning, array_meant, entry_meant, how_of, meant, used}
use Rattle.jresolution.specs.ProofNames.{long_constant, made, short_constant, array_made, called_by, called_by_interface, cast_by, field_used}
use Rattle.jresolution.specs.juses.DescriptorTypes.{array_over}
use Rattle.jtypes.specs.declared.vtype.VType.TheVariants as types
use Rattle.jlinking.proofs.JlinkProofs.PresentValues.{map_is, then_is}
use Rattle.jrewriting.specs.jrewrite.RewrittenPrograms.{moved}
use Rattle.jrewriting.proofs.JrewriteProofs.Calls.{Known}
use Rattle.jrewriting.proofs.JrewriteProofs.CodeNames.{Stays, called_target, index_is, interface_target, stands_for, stays_by}
use Rattle.jrewriting.proofs.JrewriteProofs.PoolReferences.{IsNumber}
use Rattle.jrewriting.proofs.JrewriteProofs.Security.{rt_of}
use Rattle.jrewriting.proofs.JrewriteProofs.Targets.{Target}
use Rattle.jsimulation_laws.specs.relation.InstructionExpansion as stands
use Rattle.jsimulation_laws.specs.relation.InstructionExpansion.{Alone, Asking, Handed, Place, Way, expanded, handed, keep, load, push, rt_meaning, way_of}
use Rattle.jmoved_laws.proofs.CodeProofs.BranchTargets.{jump_moved, switch_moved}
use Rattle.jmoved_laws.proofs.CodeProofs.Entries.{entry_same, member_is, method_handed, method_same}
use Rattle.jmoved_laws.proofs.CodeProofs.Rt.{method_rt}
use Rattle.jparts.specs.jpool.PoolEntries.{class_parts}
use Rattle.std.specs.Option.{option_map_or}

-- ---- what a call hands on, and what its instruction becomes

-- what is handed on where an instruction becomes this
abbrev pub way_by : Expand → Way
way_by Same = Alone
way_by (Call i) = Handed
way_by (Check i) = Asking controller.Check
way_by (Snapshot i) = Asking controller.Snapshot
way_by (Privileged i) = Asking controller.Privileged
way_by (PrivilegedWith i) = Asking controller.PrivilegedWith
way_by (PrivilegedLimited i) = Asking controller.PrivilegedLimited

library_is : (n : ℕ) (m : LibCall) → way_of (members.LibMethod m) ≡ way_by (calling n (Some (members.LibMethod m)))
library_is n (calls.Run side) = refl
library_is n (calls.RunAction side) = refl
library_is n (calls.Thread (thread.Init side)) = refl
library_is n (calls.Thread thread.Start) = refl
library_is n (calls.Thread thread.Join) = refl
library_is n (calls.Thread thread.Yield) = refl
library_is n (calls.Controller controller.Check) = refl
library_is n (calls.Controller controller.Snapshot) = refl
library_is n (calls.Controller controller.Privileged) = refl
library_is n (calls.Controller controller.PrivilegedWith) = refl
library_is n (calls.Controller controller.PrivilegedLimited) = refl
library_is n calls.ObjectInit = refl
library_is n (calls.ThrownInit t i) = refl
library_is n calls.AccessControlInit = refl
library_is n calls.GetMessage = refl
library_is n (calls.String one) = refl
library_is n (calls.Builder one) = refl
library_is n calls.Out = refl
library_is n calls.PrintEnd = refl
library_is n (calls.Print piece) = refl
library_is n calls.ContextCheck = refl
library_is n (calls.PermissionInit one) = refl
library_is n (calls.Rt one) = refl

pub way_is : (n : ℕ) (x : Member) → way_of x ≡ way_by (calling n (Some x))
way_is n (members.Method m) = refl
way_is n (members.LibMethod m) = library_is n m
way_is n (members.Field i j) = refl
way_is n members.LibField = refl

-- it is a Class entry
abbrev pub is_name : Option Entry → Bool
is_name o = is_some (option_and_then class_parts o)

-- ---- lists that correspond

-- what instructions have to do with what they mean, one by one
abbrev pub Each : (Op → Instruction → Type 0) → List Op → List Instruction → Type 0
Each P [] [] = Unit {0}
Each P (o ∷ os) (x ∷ xs) = P o x × Each P os xs
Each P _ _ = ⊥

-- ---- one instruction

module _ (q : Program) (pool : List Entry) (new : List Placed) (to : ℕ → ℕ) (from : ℕ) where
  -- It means this, wherever it stands; its branches counted from the old place, and lead to the new ones.
  abbrev pub Means : Op → Instruction → Type 0
  Means op x = (at : ℕ) → instruction q pool new (placed_at at (led to from at op)) ≡ Some x

  move_by : (access : Access) (n : ℕ) (b : Bool) → Means (cond b (ops.RefLocal (At access n)) (ops.Wide (wides.Local locals.Ref access n))) (Local (Move access locals.Ref n))
  unfolding instruction form
  move_by access n true at = refl
  move_by access n false at = refl

  pub load_means : (n : ℕ) → Means (move_ref Load n) (load n)
  load_means n = move_by Load n (nat_lt n 256)

  pub keep_means : (n : ℕ) → Means (move_ref Store n) (keep n)
  keep_means n = move_by Store n (nat_lt n 256)

  pub push_means : (n : ℕ) → Means (push_int n) (push n)
  unfolding instruction form
  push_means n at = refl

  pub static_means : (n : ℕ) (c : CallMeaning) → entry_meant q pool (slice_get pool n) ≡ Some (AMethod false c) → Means (call_static n) (Used (meanings.Call how.Static c))
  unfolding instruction form meant
  static_means n c e at = ap (λ (o : Option EntryMeaning). option_map Used (option_and_then (used (pools.Call callops.Static n)) o)) e

  -- a call by another reference
  call_means : (op : CallOp) (n : ℕ) (b : Bool) (c : CallMeaning) → entry_meant q pool (slice_get pool n) ≡ Some (AMethod b c) → Means (ops.Call op n) (Used (meanings.Call (how_of op b) c))
  unfolding instruction form meant
  call_means op n b c e at = ap (λ (o : Option EntryMeaning). option_map Used (option_and_then (used (pools.Call op n)) o)) e

  interface_means : (n slots : ℕ) (b : Bool) (c : CallMeaning) → entry_meant q pool (slice_get pool n) ≡ Some (AMethod b c) → Means (ops.CallInterface n slots) (Used (meanings.Call how.Interface c))
  unfolding instruction form meant
  interface_means n slots b c e at = ap (λ (o : Option EntryMeaning). option_map Used (option_and_then (used (pools.CallInterface n slots)) o)) e

-- ---- the parts of meanings

record OfCall (by : Bool → InvokeKind) (e : EntryMeaning) (m : Meaning) : Type 0 where
  pub b : Bool
  pub call : CallMeaning
  pub is : e ≡ AMethod b call
  pub means : meanings.Call (by b) call ≡ m

called_parts : (op : CallOp) (e : EntryMeaning) (m : Meaning) → called_by op e ≡ Some m → OfCall (how_of op) e m
called_parts op (AMethod b c) m h = record { b = b; call = c; is = refl; means = cc }
called_parts op (AConstant x) m h = absurd cc
called_parts op (AClass t) m h = absurd cc
called_parts op (AField f) m h = absurd cc

abbrev by_face : Bool → InvokeKind
by_face b = how.Interface

interface_parts : (e : EntryMeaning) (m : Meaning) → called_by_interface e ≡ Some m → OfCall by_face e m
interface_parts (AMethod b c) m h = record { b = b; call = c; is = refl; means = cc }
interface_parts (AConstant x) m h = absurd cc
interface_parts (AClass t) m h = absurd cc
interface_parts (AField f) m h = absurd cc

-- ---- what a meaning that calls nothing becomes

module _ (place : Place) (number : ℕ → ℕ) where
  abbrev IsAlone : Meaning → Type 0
  IsAlone m = expanded place number (Used m) ≡ Used m ∷ []

  alone_as : (x m : Meaning) → Some x ≡ Some m → IsAlone x → IsAlone m
  alone_as x m e h = let same : x ≡ m = cc in subst IsAlone same h

  short_alone : (e : EntryMeaning) (m : Meaning) → short_constant e ≡ Some m → IsAlone m
  short_alone (AConstant (meanings.Int n)) m h = alone_as (meanings.Push (meanings.Int n)) m h refl
  short_alone (AConstant (meanings.Text t)) m h = alone_as (meanings.Push (meanings.Text t)) m h refl
  short_alone (AConstant (meanings.Long n)) m h = absurd cc
  short_alone (AClass t) m h = absurd cc
  short_alone (AField f) m h = absurd cc
  short_alone (AMethod b c) m h = absurd cc

  long_alone : (e : EntryMeaning) (m : Meaning) → long_constant e ≡ Some m → IsAlone m
  long_alone (AConstant (meanings.Long n)) m h = alone_as (meanings.Push (meanings.Long n)) m h refl
  long_alone (AConstant (meanings.Int n)) m h = absurd cc
  long_alone (AConstant (meanings.Text t)) m h = absurd cc
  long_alone (AClass t) m h = absurd cc
  long_alone (AField f) m h = absurd cc
  long_alone (AMethod b c) m h = absurd cc

  field_alone : (op : FieldOp) (e : EntryMeaning) (m : Meaning) → field_used op e ≡ Some m → IsAlone m
  field_alone op (AField f) m h = alone_as (meanings.Field op f) m h refl
  field_alone op (AConstant x) m h = absurd cc
  field_alone op (AClass t) m h = absurd cc
  field_alone op (AMethod b c) m h = absurd cc

  made_alone : (e : EntryMeaning) (m : Meaning) → made e ≡ Some m → IsAlone m
  made_alone (AClass (types.Object c)) m h = alone_as (meanings.Make c) m h refl
  made_alone (AClass types.Top) m h = absurd cc
  made_alone (AClass types.UninitThis) m h = absurd cc
  made_alone (AClass (types.Uninit n)) m h = absurd cc
  made_alone (AClass types.Int) m h = absurd cc
  made_alone (AClass types.Long) m h = absurd cc
  made_alone (AClass types.Null) m h = absurd cc
  made_alone (AClass types.Ctx) m h = absurd cc
  made_alone (AClass (types.Array a)) m h = absurd cc
  made_alone (AConstant x) m h = absurd cc
  made_alone (AField f) m h = absurd cc
  made_alone (AMethod b c) m h = absurd cc

  array_alone : (e : EntryMeaning) (m : Meaning) → array_made e ≡ Some m → IsAlone m
  array_alone (AClass t) m h =
      let r = map_is meanings.MakeArray (array_over t) m h in
      subst IsAlone r.2 refl
  array_alone (AConstant x) m h = absurd cc
  array_alone (AField f) m h = absurd cc
  array_alone (AMethod b c) m h = absurd cc

  cast_alone : (op : CastOp) (e : EntryMeaning) (m : Meaning) → cast_by op e ≡ Some m → IsAlone m
  cast_alone op (AClass t) m h = alone_as (meanings.Cast op t) m h refl
  cast_alone op (AConstant x) m h = absurd cc
  cast_alone op (AField f) m h = absurd cc
  cast_alone op (AMethod b c) m h = absurd cc

-- ---- an instruction and its expansion

module _ (p : Program) (c d : ClassParts) (k : Known p c d) (begin : List Op) (s : Setting) (ms : List Expand) (is : List Placed) (fits : IsTrue (code.fits is)) (each : length ms ≡ length is) (from : ℕ) where
  abbrev q : Program
  q = moved p

  abbrev new : List Placed
  new = numbers.moved begin s ms is

  abbrev to : ℕ → ℕ
  to = new_place begin s ms is

  abbrev number : ℕ → ℕ
  number = index_of begin s ms is

  abbrev place : Place
  place = record { local = s.local; domain = s.domain }

  abbrev Now : Op → Instruction → Type 0
  Now = Means q d.pool new to from

  abbrev Row : List Op → Instruction → Type 0
  Row os it = Each Now os (expanded place number it)

  alone_row : (op : Op) (x it : Instruction) → x ≡ it → expanded place number x ≡ x ∷ [] → Now op x → Row (op ∷ []) it
  alone_row op x it same e m = subst (Row (op ∷ [])) same (subst (Each Now (op ∷ [])) (sym e) (m, tt))

  plain_row : (op : Op) (x it : Instruction) → Some x ≡ Some it → expanded place number x ≡ x ∷ [] → Now op x → Row (op ∷ []) it
  plain_row op x it o e m = let same : x ≡ it = cc in alone_row op x it same e m

  -- ---- branches

  jump_row : (op : Op) (test : Test) (by : ℤ) (it : Instruction) → jump is from test by ≡ Some it
      → ((at : ℕ) → instruction q d.pool new (placed_at at (led to from at op)) ≡ jump new at test (distance to from at by)) → Row (op ∷ []) it
  jump_row op test by it o f =
      let m = map_is (Jump test) (target is from by) it o in
      let old : jump is from test by ≡ Some (Jump test m.0) = ap (option_map (Jump test)) m.1 in
      subst (Row (op ∷ [])) m.2 ((λ at. f at ∙ jump_moved begin s ms is fits each from at test by (Jump test m.0) old), tt)

  switch_row : (op : Op) (w : SwitchOp) (it : Instruction) → switch is from w ≡ Some it → ((at : ℕ) → instruction q d.pool new (placed_at at (led to from at op)) ≡ switch new at (switch_with (distance to from at) w)) → Row (op ∷ []) it
  switch_row op w it o f =
      let found = then_is (λ l. option_map (Switch l) (target is from (default w))) (cases is from w) it o in
      let other = map_is (Switch found.0) (target is from (default w)) it found.2 in
      let old : switch is from w ≡ Some (Switch found.0 other.0) = o ∙ ap (λ (x : Instruction). Some x) (sym other.2) in
      subst (Row (op ∷ [])) other.2 ((λ at. f at ∙ switch_moved begin s ms is fits each from at w (Switch found.0 other.0) old), tt)

  -- ---- by entries that stay

  pool_row : (op : Op) (f : PoolForm) (it : Instruction) → option_map Used (meant p c.pool f) ≡ Some it → Stays (slice_get c.pool (meanings.index_of f)) → ((e : EntryMeaning) (m : Meaning) → used f e ≡ Some m → IsAlone place number m)
      → ((at : ℕ) → instruction q d.pool new (placed_at at (led to from at op)) ≡ option_map Used (meant q d.pool f)) → Row (op ∷ []) it
  unfolding meant
  pool_row op f it o stays alone g =
      let u = map_is Used (meant p c.pool f) it o in
      let t = then_is (used f) (entry_meant p c.pool (slice_get c.pool (meanings.index_of f))) u.0 u.1 in
      let e = entry_same p c d k (meanings.index_of f) stays.e stays.at stays.kept in
      alone_row op (Used u.0) it u.2 (alone t.0 u.0 t.2) (λ at. g at ∙ ap (λ (x : Option EntryMeaning). option_map Used (option_and_then (used f) x)) e ∙ ap (option_map Used) u.1)

  array_row : (op : Op) (n : ℕ) (it : Instruction) → option_map Used (array_meant p c.pool n) ≡ Some it → Stays (slice_get c.pool n) → ((at : ℕ) → instruction q d.pool new (placed_at at (led to from at op)) ≡ option_map Used (array_meant q d.pool n)) → Row (op ∷ []) it
  unfolding array_meant
  array_row op n it o stays g =
      let u = map_is Used (array_meant p c.pool n) it o in
      let t = then_is array_made (entry_meant p c.pool (slice_get c.pool n)) u.0 u.1 in
      let e = entry_same p c d k n stays.e stays.at stays.kept in
      alone_row op (Used u.0) it u.2 (array_alone place number t.0 u.0 t.2) (λ at. g at ∙ ap (λ (x : Option EntryMeaning). option_map Used (option_and_then array_made x)) e ∙ ap (option_map Used) u.1)

  -- ---- calls

  -- a call that becomes this, by an entry that stands for a method
  call_row : (op : Op) (n j : ℕ) (by : Bool → InvokeKind) (t : Target c.pool n) (x : Expand) → calling n (stands_for p c n) ≡ x → IsNumber p c d.pool x j → (b : Bool) (m : CallMeaning) → entry_meant p c.pool (slice_get c.pool n) ≡ Some (AMethod b m)
      → (entry_meant q d.pool (slice_get d.pool n) ≡ Some (AMethod b m) → Now op (Used (meanings.Call (by b) m)))
      → ((l : ℕ) (y : CallMeaning) → entry_meant q d.pool (slice_get d.pool l) ≡ Some (AMethod b y) → Now (moves.calling l op) (Used (meanings.Call (by b) y)))
      → Each Now (expansion s (numbered x j) op) (stands.calling place (by b) m (way_by x))
  call_row op n j by t Same e h b m at same g = (same (method_same p c d k n t e ∙ at), tt)
  call_row op n j by t (Call i) e h b m at same g =
      let here : entry_meant p c.pool (slice_get c.pool i) ≡ Some (AMethod b m) = subst (λ (l : ℕ). entry_meant p c.pool (slice_get c.pool l) ≡ Some (AMethod b m)) (sym (index_is p c n i e)) at in
      (load_means q d.pool new to from s.local, (g j (handed m) (method_handed p c d k i j h b m here), tt))
  call_row op n j by t (Check i) e h b m at same g = (load_means q d.pool new to from s.local, (static_means q d.pool new to from j (rt_meaning (rt_of security.Check)) (method_rt q k.passing security.Check d.pool j h), tt))
  call_row op n j by t (Snapshot i) e h b m at same g = (load_means q d.pool new to from s.local, (static_means q d.pool new to from j (rt_meaning (rt_of security.Snapshot)) (method_rt q k.passing security.Snapshot d.pool j h), tt))
  call_row op n j by t (Privileged i) e h b m at same g = (push_means q d.pool new to from s.domain, (static_means q d.pool new to from j (rt_meaning (rt_of security.Privileged)) (method_rt q k.passing security.Privileged d.pool j h), tt))
  call_row op n j by t (PrivilegedWith i) e h b m at same g =
      (push_means q d.pool new to from s.domain, (static_means q d.pool new to from j (rt_meaning (rt_of security.PrivilegedWith)) (method_rt q k.passing security.PrivilegedWith d.pool j h), tt))
  call_row op n j by t (PrivilegedLimited i) e h b m at same g =
      let static = static_means q d.pool new to from j (rt_meaning (rt_of security.PrivilegedLimited)) (method_rt q k.passing security.PrivilegedLimited d.pool j h) in
      (load_means q d.pool new to from s.local, (push_means q d.pool new to from s.domain, (static, tt)))

  called_row : (op : Op) (f : PoolForm) (j : ℕ) (by : Bool → InvokeKind) (t : Target c.pool (meanings.index_of f)) (x : Expand) → calling (meanings.index_of f) (stands_for p c (meanings.index_of f)) ≡ x → IsNumber p c d.pool x j
      → (it : Instruction) → option_map Used (meant p c.pool f) ≡ Some it → ((e : EntryMeaning) (m : Meaning) → used f e ≡ Some m → OfCall by e m)
      → ((b : Bool) (y : CallMeaning) → entry_meant q d.pool (slice_get d.pool (meanings.index_of f)) ≡ Some (AMethod b y) → Now op (Used (meanings.Call (by b) y)))
      → ((l : ℕ) (b : Bool) (y : CallMeaning) → entry_meant q d.pool (slice_get d.pool l) ≡ Some (AMethod b y) → Now (moves.calling l op) (Used (meanings.Call (by b) y)))
      → Row (expansion s (numbered x j) op) it
  unfolding meant
  called_row op f j by t x e h it o parts same g =
      let n = meanings.index_of f in
      let u = map_is Used (meant p c.pool f) it o in
      let v = then_is (used f) (entry_meant p c.pool (slice_get c.pool n)) u.0 u.1 in
      let y = parts v.0 u.0 v.2 in
      let at : entry_meant p c.pool (slice_get c.pool n) ≡ Some (AMethod y.b y.call) = v.1 ∙ ap (λ (z : EntryMeaning). Some z) y.is in
      let way : way_of y.call.member ≡ way_by x = way_is n y.call.member ∙ ap (λ (z : Option Member). way_by (calling n z)) (sym (member_is p c n t y.b y.call at)) ∙ ap way_by e in
      let all = call_row op n j by t x e h y.b y.call at (same y.b y.call) (λ l z i. g l y.b z i) in
      subst (Row (expansion s (numbered x j) op)) (ap Used y.means ∙ u.2) (subst (λ (w : Way). Each Now (expansion s (numbered x j) op) (stands.calling place (by y.b) y.call w)) (sym way) all)

  -- ---- by its form

  on_same : (op : Op) (x : Expand) (j : ℕ) (it : Instruction) → Same ≡ x → Row (op ∷ []) it → Row (expansion s (numbered x j) op) it
  on_same op x j it e row = subst (λ (y : Expand). Row (expansion s (numbered y j) op) it) e row

  pub op_row : (op : Op) (x : Expand) (j : ℕ) → expand_by (stands_for p c) op ≡ x → IsNumber p c d.pool x j → IsTrue (names_well c.pool op) → (it : Instruction) → by_form p c.pool is from (form op) ≡ Some it → Row (expansion s (numbered x j) op) it
  unfolding instruction form names_well is_class
  op_row (ops.Call op n) x j e h well it o = called_row (ops.Call op n) (pools.Call op n) j (how_of op) (called_target c p d k op n well) x e h it o (called_parts op) (λ b y i. call_means q d.pool new to from op n b y i) (λ l b y i. call_means q d.pool new to from op l b y i)
  op_row (ops.CallInterface n slots) x j e h well it o =
      called_row (ops.CallInterface n slots) (pools.CallInterface n slots) j by_face (interface_target c p d k n well) x e h it o interface_parts (λ b y i. interface_means q d.pool new to from n slots b y i) (λ l b y i. interface_means q d.pool new to from l (if nat_lt slots 255 then slots + 1 else slots) b y i)
  op_row (ops.Ldc (ldcs.Narrow n)) x j e h well it o =
      on_same (ops.Ldc (ldcs.Narrow n)) x j it e (pool_row (ops.Ldc (ldcs.Narrow n)) (pools.Constant n) it o (stays_by (λ o. option_map_or is_constant o false) (λ a b. refl) (λ a b. refl) refl (slice_get c.pool n) well) (short_alone place number) (λ at. refl))
  op_row (ops.Ldc (ldcs.Wide n)) x j e h well it o =
      on_same (ops.Ldc (ldcs.Wide n)) x j it e (pool_row (ops.Ldc (ldcs.Wide n)) (pools.Constant n) it o (stays_by (λ o. option_map_or is_constant o false) (λ a b. refl) (λ a b. refl) refl (slice_get c.pool n) well) (short_alone place number) (λ at. refl))
  op_row (ops.Ldc2 n) x j e h well it o =
      on_same (ops.Ldc2 n) x j it e (pool_row (ops.Ldc2 n) (pools.LongConstant n) it o (stays_by (λ o. option_map_or is_wide_constant o false) (λ a b. refl) (λ a b. refl) refl (slice_get c.pool n) well) (long_alone place number) (λ at. refl))
  op_row (ops.Field op n) x j e h well it o =
      on_same (ops.Field op n) x j it e (pool_row (ops.Field op n) (pools.Field op n) it o (stays_by (λ o. option_map_or is_field o false) (λ a b. refl) (λ a b. refl) refl (slice_get c.pool n) well) (field_alone place number op) (λ at. refl))
  op_row (ops.New (news.Object n)) x j e h well it o =
      on_same (ops.New (news.Object n)) x j it e (pool_row (ops.New (news.Object n)) (pools.New n) it o (stays_by is_name (λ a b. refl) (λ a b. refl) refl (slice_get c.pool n) well) (made_alone place number) (λ at. refl))
  op_row (ops.New (news.RefArray n)) x j e h well it o =
      on_same (ops.New (news.RefArray n)) x j it e (array_row (ops.New (news.RefArray n)) n it o (stays_by is_name (λ a b. refl) (λ a b. refl) refl (slice_get c.pool n) well) (λ at. refl))
  op_row (ops.Cast op n) x j e h well it o =
      on_same (ops.Cast op n) x j it e (pool_row (ops.Cast op n) (pools.Cast op n) it o (stays_by is_name (λ a b. refl) (λ a b. refl) refl (slice_get c.pool n) well) (cast_alone place number op) (λ at. refl))
  op_row (ops.If test by) x j e h well it o = on_same (ops.If test by) x j it e (jump_row (ops.If test by) (If test) by it o (λ at. refl))
  op_row (ops.IfInt test by) x j e h well it o = on_same (ops.IfInt test by) x j it e (jump_row (ops.IfInt test by) (IfInt test) by it o (λ at. refl))
  op_row (ops.IfRef test by) x j e h well it o = on_same (ops.IfRef test by) x j it e (jump_row (ops.IfRef test by) (IfRef test) by it o (λ at. refl))
  op_row (ops.Goto (gotos.Narrow by)) x j e h well it o = on_same (ops.Goto (gotos.Narrow by)) x j it e (jump_row (ops.Goto (gotos.Narrow by)) Always by it o (λ at. refl))
  op_row (ops.Goto (gotos.Wide by)) x j e h well it o = on_same (ops.Goto (gotos.Wide by)) x j it e (jump_row (ops.Goto (gotos.Wide by)) Always by it o (λ at. refl))
  op_row (ops.Switch w) x j e h well it o = on_same (ops.Switch w) x j it e (switch_row (ops.Switch w) w it o (λ at. refl))
  op_row ops.Nop x j e h well it o = on_same ops.Nop x j it e (plain_row ops.Nop _ it o refl (λ at. refl))
  op_row ops.AconstNull x j e h well it o = on_same ops.AconstNull x j it e (plain_row ops.AconstNull _ it o refl (λ at. refl))
  op_row (ops.IntConst n) x j e h well it o = on_same (ops.IntConst n) x j it e (plain_row (ops.IntConst n) _ it o refl (λ at. refl))
  op_row (ops.LongConst n) x j e h well it o = on_same (ops.LongConst n) x j it e (plain_row (ops.LongConst n) _ it o refl (λ at. refl))
  op_row (ops.IntLocal op) x j e h well it o = on_same (ops.IntLocal op) x j it e (plain_row (ops.IntLocal op) _ it o refl (λ at. refl))
  op_row (ops.LongLocal op) x j e h well it o = on_same (ops.LongLocal op) x j it e (plain_row (ops.LongLocal op) _ it o refl (λ at. refl))
  op_row (ops.RefLocal op) x j e h well it o = on_same (ops.RefLocal op) x j it e (plain_row (ops.RefLocal op) _ it o refl (λ at. refl))
  op_row (ops.ArrayLoad element) x j e h well it o = on_same (ops.ArrayLoad element) x j it e (plain_row (ops.ArrayLoad element) _ it o refl (λ at. refl))
  op_row (ops.ArrayStore element) x j e h well it o = on_same (ops.ArrayStore element) x j it e (plain_row (ops.ArrayStore element) _ it o refl (λ at. refl))
  op_row (ops.Stack op) x j e h well it o = on_same (ops.Stack op) x j it e (plain_row (ops.Stack op) _ it o refl (λ at. refl))
  op_row (ops.Two op) x j e h well it o = on_same (ops.Two op) x j it e (plain_row (ops.Two op) _ it o refl (λ at. refl))
  op_row (ops.Divide op) x j e h well it o = on_same (ops.Divide op) x j it e (plain_row (ops.Divide op) _ it o refl (λ at. refl))
  op_row (ops.One op) x j e h well it o = on_same (ops.One op) x j it e (plain_row (ops.One op) _ it o refl (λ at. refl))
  op_row (ops.Iinc m by) x j e h well it o = on_same (ops.Iinc m by) x j it e (plain_row (ops.Iinc m by) _ it o refl (λ at. refl))
  op_row (ops.Return kind) x j e h well it o = on_same (ops.Return kind) x j it e (plain_row (ops.Return kind) _ it o refl (λ at. refl))
  op_row (ops.New (news.Array element)) x j e h well it o = on_same (ops.New (news.Array element)) x j it e (plain_row (ops.New (news.Array element)) _ it o refl (λ at. refl))
  op_row (ops.Object objects.ArrayLength) x j e h well it o = on_same (ops.Object objects.ArrayLength) x j it e (plain_row (ops.Object objects.ArrayLength) _ it o refl (λ at. refl))
  op_row (ops.Object objects.Throw) x j e h well it o = on_same (ops.Object objects.Throw) x j it e (plain_row (ops.Object objects.Throw) _ it o refl (λ at. refl))
  op_row (ops.Wide op) x j e h well it o = on_same (ops.Wide op) x j it e (plain_row (ops.Wide op) _ it o refl (λ at. refl))
