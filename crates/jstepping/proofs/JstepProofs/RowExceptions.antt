-- The rows that are here raise nothing but what can be thrown, at a frame that stands where it stood.
use Rattle.std.proofs.Common.{◌≡◌, ◌∙◌, ℕ, ℤ, zero, suc, Bool, true, false, List, [], ◌∷◌, length, Option, Some, None, refl, ap}
use Rattle.std.specs.Prelude.{⊤, Ok, Err, Result, nat_le, option_and_then, option_map, slice_get, if◌then◌else◌}
use Rattle.jparts.specs.jcode.InstructionForms.{simple_effect}
use Rattle.jparts.specs.declared.jcode.op_form.ArrayForm.{ArrayForm}
use Rattle.jparts.specs.declared.jcode.op_form.ArrayForm.TheVariants as arrays
use Rattle.jparts.specs.declared.jcode.op_form.Simple.{Simple as SimpleForm}
use Rattle.jparts.specs.declared.jcode.op_form.Simple.TheVariants as simples
use Rattle.jlib.specs.declared.classes.LibClass.TheVariants as lib
use Rattle.jlib.specs.declared.classes.Thrown.TheVariants as thrown
use Rattle.jvalues.specs.declared.jnames.kinds.Kind.TheVariants as kinds
use Rattle.jvalues.specs.declared.jops.value.DivideByZero.{DivideByZero}
use Rattle.jvalues.specs.declared.jops.value.Value.{Value}
use Rattle.jvalues.specs.declared.jops.value.Value.TheVariants.{Int, Long, Ref, Ctx}
use Rattle.jvalues.specs.jops.Operations.{divide, one, two}
use Rattle.jresolution.specs.declared.jprogram.member.Member.{Member}
use Rattle.jtyping.specs.jrule.StackEffects.{Of, of_kinds}
use Rattle.jtyping.specs.jrule.BasicRule.{tested}
use Rattle.jtyping.specs.jrule.PoolEffects.{exchange}
use Rattle.jtypes.specs.declared.vtype.ArrayType.{ArrayType}
use Rattle.jtypes.specs.declared.vtype.VType.TheVariants as types
use Rattle.jresolution.specs.juses.IndexedInstructions.{Instruction, Simple, Local, Stack, Jump, Switch, Return, Throw, Array, Used, Test}
use Rattle.jresolution.specs.juses.InstructionMeanings as meanings
use Rattle.jsemantics.specs.jmachine.MachineStates.{Act, FrameOf, Goes, Jumps, Leaves, Calls, Raises, Throws, Switches, Makes, Row, gives, raises}
use Rattle.jsemantics.specs.jmachine.ArrayInstructions.{Items, array, items_in, load, load_at, made, make, store, store_at, with_item, within}
use Rattle.jsemantics.specs.ProofNames.{length_row}
use Rattle.jsemantics.specs.jmachine.InstructionActions.{Doing, array_wants, doing, used}
use Rattle.jsemantics.specs.jmachine.FrameOperations.{onward, with_held, with_operands}
use Rattle.jsemantics.specs.jmachine.ObjectInstructions.{push, text_loaded, units_of, is_one}
use Rattle.jsemantics.specs.jmachine.Narrowing.{place}
use Rattle.jsemantics.specs.jmachine.TakenOperands.{Taken, taken, type_of}
use Rattle.jsemantics.specs.jmachine.Security.{Rules}
use Rattle.jsemantics.specs.jmachine.InstructionSites.{Site}
use Rattle.jsemantics.specs.jmachine.Store.{Store, constant_at, object_at, paid}
use Rattle.jsemantics.specs.jmachine.BasicInstructions.{Held, branched, gives_one, holding, holds, jump, local, quotient, simple, stack, switch}
use Rattle.jsemantics.specs.jmachine.World.{World}
use Rattle.jrows.specs.declared.jacts.way.Way.TheVariants as ways
use Rattle.jrows.specs.jacts.RowOutcomes.{Acted, Comes, Left, leaves}
use Rattle.jrows.specs.jcalls.MethodCalls.{IsThrown}
use Rattle.jstepping.specs.jstep.InstructionRows.{IsRaising, Stays}
use Rattle.jtyping.specs.jrule.ArrayRule.{component}

-- ---- rows

-- an instruction that is here
abbrev pub IsBasic : Instruction → Type 0
IsBasic (Return kind) = ⊥
IsBasic Throw = ⊥
IsBasic (Used (meanings.Push c)) = ⊤
IsBasic (Used m) = ⊥
IsBasic i = ⊤

abbrev pub OnlyAct : {E : Type 0} → Act ℕ E → Type 0
OnlyAct (Raises events class message) = IsThrown class
OnlyAct (Throws n) = ⊥
OnlyAct act = ⊤

abbrev pub OnlyRow : {E : Type 0} → Option (Row ℕ E) → Type 0
OnlyRow None = ⊤
OnlyRow (Some x) = OnlyAct x.act

module _ (E : Type 0) where
  one_only : (s : Store ℕ) (v : Option (Value ℕ)) → OnlyRow {E = E} (gives_one s v)
  one_only s None = tt
  one_only s (Some v) = tt

  quotient_only : (s : Store ℕ) (q : Option (Result (Value ℕ) DivideByZero)) → OnlyRow {E = E} (option_map (quotient s) q)
  quotient_only s None = tt
  quotient_only s (Some (Ok v)) = tt
  quotient_only s (Some (Err e)) = (_, refl)

  simple_only : (s : Store ℕ) (form : SimpleForm) (values : List (Value ℕ)) → OnlyRow {E = E} (simple s form values)
  unfolding simple
  simple_only s simples.Nothing [] = tt
  simple_only s simples.Nothing (v ∷ values) = tt
  simple_only s simples.Null [] = tt
  simple_only s simples.Null (v ∷ values) = tt
  simple_only s (simples.Int n) [] = tt
  simple_only s (simples.Int n) (v ∷ values) = tt
  simple_only s (simples.Long n) [] = tt
  simple_only s (simples.Long n) (v ∷ values) = tt
  simple_only s (simples.Two op) [] = tt
  simple_only s (simples.Two op) (b ∷ []) = tt
  simple_only s (simples.Two op) (b ∷ a ∷ []) = one_only s (two op a b)
  simple_only s (simples.Two op) (b ∷ a ∷ v ∷ values) = tt
  simple_only s (simples.Divide op) [] = tt
  simple_only s (simples.Divide op) (b ∷ []) = tt
  simple_only s (simples.Divide op) (b ∷ a ∷ []) = quotient_only s (divide op a b)
  simple_only s (simples.Divide op) (b ∷ a ∷ v ∷ values) = tt
  simple_only s (simples.One op) [] = tt
  simple_only s (simples.One op) (a ∷ []) = one_only s (one op a)
  simple_only s (simples.One op) (a ∷ v ∷ values) = tt

  branched_only : (s : Store ℕ) (to : ℕ) (b : Option Bool) → OnlyRow {E = E} (option_map (branched s to) b)
  branched_only s to None = tt
  branched_only s to (Some true) = tt
  branched_only s to (Some false) = tt

  jump_only : (s : Store ℕ) (test : Test) (to : ℕ) (values : List (Value ℕ)) → OnlyRow {E = E} (jump s test to values)
  unfolding jump
  jump_only s test to values = branched_only s to (holds test values)

  switch_only : (cases : List (ℤ × ℕ)) (other : ℕ) (values : List (Value ℕ)) → OnlyRow {E = E} (switch cases other values)
  unfolding switch
  switch_only cases other [] = tt
  switch_only cases other (Int key ∷ []) = tt
  switch_only cases other (Int key ∷ v ∷ values) = tt
  switch_only cases other (Long key ∷ values) = tt
  switch_only cases other (Ref n ∷ values) = tt
  switch_only cases other (Ctx k ∷ values) = tt

  text_only : (s : Store ℕ) (units : List ℕ) (made : Option ℕ) → OnlyRow {E = E} (Some (text_loaded s units made))
  text_only s units None = tt
  text_only s units (Some n) = tt

  push_only : (s : Store ℕ) (c : meanings.Pushed) (values : List (Value ℕ)) → OnlyRow {E = E} (push s c values)
  unfolding push
  push_only s (meanings.Int n) [] = tt
  push_only s (meanings.Int n) (v ∷ values) = tt
  push_only s (meanings.Long n) [] = tt
  push_only s (meanings.Long n) (v ∷ values) = tt
  push_only s (meanings.Text bytes) [] = text_only s (units_of bytes) (constant_at s.constants (units_of bytes))
  push_only s (meanings.Text bytes) (v ∷ values) = tt

  -- ---- arrays

  made_only : (s : Store ℕ) (a : ArrayType) (n : Option ℕ) → OnlyRow {E = E} (Some (made s a n))
  made_only s a None = (_, refl)
  made_only s a (Some n) = tt

  make_only : (s : Store ℕ) (a : ArrayType) (values : List (Value ℕ)) → OnlyRow {E = E} (make s (types.Array a) values)
  unfolding make
  make_only s a [] = tt
  make_only s a (Int n ∷ []) = made_only s a (place n)
  make_only s a (Int n ∷ v ∷ values) = tt
  make_only s a (Long n ∷ values) = tt
  make_only s a (Ref n ∷ values) = tt
  make_only s a (Ctx k ∷ values) = tt

  value_only : (s : Store ℕ) (v : Option (Value ℕ)) → OnlyRow {E = E} (option_map (λ x. gives s (x ∷ [])) v)
  value_only s None = tt
  value_only s (Some v) = tt

  loaded_only : (s : Store ℕ) (x : Items ℕ) (i : Option ℕ) → OnlyRow {E = E} (load_at s x i)
  loaded_only s x None = (_, refl)
  loaded_only s x (Some i) = value_only s (slice_get x.items i)

  load_only : (s : Store ℕ) (i : ℤ) (x : Option (Items ℕ)) → OnlyRow {E = E} (option_and_then (load s i) x)
  load_only s i None = tt
  load_only s i (Some x) = loaded_only s x (within (length x.items) (place i))

  length_only : (s : Store ℕ) (x : Option (Items ℕ)) → OnlyRow {E = E} (option_map (length_row s) x)
  length_only s None = tt
  length_only s (Some x) = tt

  either_only : (b : Bool) (x y : Row ℕ E) → OnlyAct x.act → OnlyAct y.act → OnlyAct (if b then x else y).act
  either_only true x y a c = a
  either_only false x y a c = c

  stored_only : (w : World) (s : Store ℕ) (n : ℕ) (v : Value ℕ) (x : Items ℕ) (i : Option ℕ) → OnlyAct {E = E} (store_at w s n v x i).act
  stored_only w s n v x None = (_, refl)
  stored_only w s n v x (Some i) =
      let row : Row ℕ E = raises (lib.Thrown thrown.ArrayStoreException) in
      either_only (is_one w (component x.type) (type_of w s v)) (gives (with_item s n x i v) []) row tt (thrown.ArrayStoreException, refl)

  store_only : (w : World) (s : Store ℕ) (n : ℕ) (i : ℤ) (v : Value ℕ) (x : Option (Items ℕ)) → OnlyRow {E = E} (option_map (store w s n i v) x)
  store_only w s n i v None = tt
  store_only w s n i v (Some x) = stored_only w s n v x (within (length x.items) (place i))

  array_only : (w : World) (s : Store ℕ) (form : ArrayForm) (values : List (Value ℕ)) → OnlyRow {E = E} (array w s form values)
  unfolding array
  array_only w s (arrays.New kind) values = make_only s _ values
  array_only w s (arrays.NewRef n) values = tt
  array_only w s (arrays.Load e) [] = tt
  array_only w s (arrays.Load e) (Int i ∷ []) = tt
  array_only w s (arrays.Load e) (Int i ∷ Ref zero ∷ []) = (_, refl)
  array_only w s (arrays.Load e) (Int i ∷ Ref zero ∷ v ∷ values) = tt
  array_only w s (arrays.Load e) (Int i ∷ Ref (suc n) ∷ []) = load_only s i (items_in (object_at s (suc n)))
  array_only w s (arrays.Load e) (Int i ∷ Ref (suc n) ∷ v ∷ values) = tt
  array_only w s (arrays.Load e) (Int i ∷ Int n ∷ values) = tt
  array_only w s (arrays.Load e) (Int i ∷ Long n ∷ values) = tt
  array_only w s (arrays.Load e) (Int i ∷ Ctx k ∷ values) = tt
  array_only w s (arrays.Load e) (Long i ∷ values) = tt
  array_only w s (arrays.Load e) (Ref i ∷ values) = tt
  array_only w s (arrays.Load e) (Ctx k ∷ values) = tt
  array_only w s (arrays.Store e) [] = tt
  array_only w s (arrays.Store e) (u ∷ []) = tt
  array_only w s (arrays.Store e) (u ∷ Int i ∷ []) = tt
  array_only w s (arrays.Store e) (u ∷ Int i ∷ Ref zero ∷ []) = (_, refl)
  array_only w s (arrays.Store e) (u ∷ Int i ∷ Ref zero ∷ v ∷ values) = tt
  array_only w s (arrays.Store e) (u ∷ Int i ∷ Ref (suc n) ∷ []) = store_only w s (suc n) i u (items_in (object_at s (suc n)))
  array_only w s (arrays.Store e) (u ∷ Int i ∷ Ref (suc n) ∷ v ∷ values) = tt
  array_only w s (arrays.Store e) (u ∷ Int i ∷ Int n ∷ values) = tt
  array_only w s (arrays.Store e) (u ∷ Int i ∷ Long n ∷ values) = tt
  array_only w s (arrays.Store e) (u ∷ Int i ∷ Ctx k ∷ values) = tt
  array_only w s (arrays.Store e) (u ∷ Long i ∷ values) = tt
  array_only w s (arrays.Store e) (u ∷ Ref i ∷ values) = tt
  array_only w s (arrays.Store e) (u ∷ Ctx k ∷ values) = tt
  array_only w s arrays.Length [] = tt
  array_only w s arrays.Length (Ref zero ∷ []) = (_, refl)
  array_only w s arrays.Length (Ref zero ∷ v ∷ values) = tt
  array_only w s arrays.Length (Ref (suc n) ∷ []) = length_only s (items_in (object_at s (suc n)))
  array_only w s arrays.Length (Ref (suc n) ∷ v ∷ values) = tt
  array_only w s arrays.Length (Int n ∷ values) = tt
  array_only w s arrays.Length (Long n ∷ values) = tt
  array_only w s arrays.Length (Ctx k ∷ values) = tt

-- ---- instructions

module _ {E : Type 0} where
  abbrev pub Only : FrameOf ℕ E → Option (Doing ℕ E) → Type 0
  Only f None = ⊤
  Only f (Some d) = OnlyAct d.row.act × (d.frame.method ≡ f.method) × (d.frame.place ≡ f.place)

  row_only : (f : FrameOf ℕ E) (below : List (Value ℕ)) (o : Option (Row ℕ E)) → OnlyRow o
      → Only f (option_map (λ (x : Row ℕ E). record { frame = with_operands f below; row = x }) o)
  row_only f below None is = tt
  row_only f below (Some x) is = (is, refl, refl)

  taken_only : (f : FrameOf ℕ E) (t : Option (Taken ℕ)) (row : List (Value ℕ) → Option (Row ℕ E)) → ((values : List (Value ℕ)) → OnlyRow (row values))
      → Only f (option_and_then (λ (u : Taken ℕ). option_map (λ (x : Row ℕ E). record { frame = with_operands f u.below; row = x }) (row u.values)) t)
  taken_only f None row all = tt
  taken_only f (Some u) row all = row_only f u.below (row u.values) (all u.values)

  held_only : (f : FrameOf ℕ E) (s : Store ℕ) (h : Option (Held ℕ))
      → Only f (option_map (λ (x : Held ℕ). record { frame = with_held f x; row = gives s [] }) h)
  held_only f s None = tt
  held_only f s (Some h) = (tt, refl, refl)

  module _ (r : Rules ℕ E) (at : Site) (own : Member → Bool) (s : Store ℕ) (entries : List E) (inherited : Option ℕ) (f : FrameOf ℕ E) where
    pub doing_only : (i : Instruction) → IsBasic i → Only f (doing r at own s entries inherited i f)
    unfolding doing used
    doing_only (Simple form) is = taken_only f (taken at.world s (of_kinds (simple_effect form).takes) f.operands) (simple s form) (simple_only E s form)
    doing_only (Local form) is = held_only f s (local form (holding f.locals f.operands))
    doing_only (Stack op) is = held_only f s (stack op (holding f.locals f.operands))
    doing_only (Jump test to) is = taken_only f (taken at.world s (of_kinds (tested test)) f.operands) (jump s test to) (jump_only E s test to)
    doing_only (Switch cases other) is = taken_only f (taken at.world s (Of kinds.Int ∷ []) f.operands) (switch cases other) (switch_only E cases other)
    doing_only (Return kind) is = absurd is
    doing_only Throw is = absurd is
    doing_only (Array form) is = taken_only f (taken at.world s (array_wants form) f.operands) (array at.world s form) (array_only E at.world s form)
    doing_only (Used (meanings.Push c)) is =
        taken_only f (taken at.world s (exchange own (at.world.named at.class) (meanings.Push c)).takes f.operands) (push s c) (push_only E s c)
    doing_only (Used (meanings.Field op m)) is = absurd is
    doing_only (Used (meanings.Call by c)) is = absurd is
    doing_only (Used (meanings.Make c)) is = absurd is
    doing_only (Used (meanings.MakeArray t)) is = absurd is
    doing_only (Used (meanings.Cast op t)) is = absurd is

  -- ---- what they came to

  one_stays : (f : FrameOf ℕ E) (b : Bool) (x y l : Left E) → Stays x.way f x.frame → Stays y.way f y.frame → l ≡ (if b then x else y) → Stays l.way f l.frame
  one_stays f true x y l first second is = rw is first
  one_stays f false x y l first second is = rw is second

  acted_stays : (f t : FrameOf ℕ E) (s : Store ℕ) (cells : ℕ) (act : Act ℕ E) (l : Left E) → OnlyAct act → t.method ≡ f.method → t.place ≡ f.place
      → Acted f s t cells act l → Stays l.way f l.frame
  acted_stays f t s cells (Goes u values events) l only m p is =
      one_stays f (nat_le cells s.left) (leaves ways.Went events (onward t values) (paid cells u)) (leaves ways.Full [] f s) l m tt is
  acted_stays f t s cells (Jumps to) l only m p is = rw is.1 m
  acted_stays f t s cells (Leaves values) l only m p is = absurd is
  acted_stays f t s cells (Calls c arguments entry) l only m p is = absurd is
  acted_stays f t s cells (Raises events class message) l only m p (none, no_message, way, told, same, store) =
      rw way (only, ap (λ (x : FrameOf ℕ E). x.method) same ∙ m, ap (λ (x : FrameOf ℕ E). x.place) same ∙ p)
  acted_stays f t s cells (Throws n) l only m p is = absurd only
  acted_stays f t s cells (Switches table) l only m p is = absurd is
  acted_stays f t s cells (Makes u runnable k) l only m p is = absurd is

  pub comes_stays : (f : FrameOf ℕ E) (s : Store ℕ) (o : Option (Doing ℕ E)) (l : Left E) → Only f o → Comes f s o l → Stays l.way f l.frame
  comes_stays f s None l only is = rw is tt
  comes_stays f s (Some d) l only is = acted_stays f d.frame s d.row.charge d.row.act l only.0 only.1 only.2 is

  -- ---- what raises leaves the store as it was

  one_raises : (b : Bool) (x y l : Left E) → x.way ≡ ways.Went → y.way ≡ ways.Full → l ≡ (if b then x else y) → IsRaising l.way → ⊥
  one_raises true x y l first second is raising = rw (is, first) at raising
  one_raises false x y l first second is raising = rw (is, second) at raising

  jump_raises : (x l : Left E) → x.way ≡ ways.Went → l ≡ x → IsRaising l.way → ⊥
  jump_raises x l way is raising = rw (is, way) at raising

  acted_same : (f t : FrameOf ℕ E) (s : Store ℕ) (cells : ℕ) (act : Act ℕ E) (l : Left E) → IsRaising l.way → Acted f s t cells act l → l.store ≡ s
  acted_same f t s cells (Goes u values events) l raising is =
      absurd (one_raises (nat_le cells s.left) (leaves ways.Went events (onward t values) (paid cells u)) (leaves ways.Full [] f s) l refl refl is raising)
  acted_same f t s cells (Jumps to) l raising is = ap (λ (x : Left E). x.store) is.1
  acted_same f t s cells (Leaves values) l raising is = absurd is
  acted_same f t s cells (Calls c arguments entry) l raising is = absurd is
  acted_same f t s cells (Raises events class message) l raising (none, no_message, way, told, same, store) = store
  acted_same f t s cells (Throws n) l raising (none, way, told, same, store) = store
  acted_same f t s cells (Switches table) l raising is = absurd is
  acted_same f t s cells (Makes u runnable k) l raising is = absurd is

  stuck_raises : (l : Left E) → l.way ≡ ways.Stuck → IsRaising l.way → ⊥
  stuck_raises l way raising = rw way at raising

  pub comes_same : (f : FrameOf ℕ E) (s : Store ℕ) (o : Option (Doing ℕ E)) (l : Left E) → IsRaising l.way → Comes f s o l → l.store ≡ s
  comes_same f s None l raising is = absurd (stuck_raises l is raising)
  comes_same f s (Some d) l raising is = acted_same f d.frame s d.row.charge d.row.act l raising is
