-- Rows that jump nowhere: those of the library's calls, of arrays, and of instructions with operands alone.
use Rattle.std.proofs.Common.{ℕ, zero, suc, Bool, true, false, List, [], ◌∷◌, ◌++◌, Option, Some, None, option_map, Result, Ok, Err}
use Rattle.std.specs.Prelude.{IfSome, length, option_and_then, pos, slice_get, if◌then◌else◌}
use Rattle.jparts.specs.declared.jcode.op_form.ArrayForm.{ArrayForm}
use Rattle.jparts.specs.declared.jcode.op_form.ArrayForm.TheVariants as forms
use Rattle.jlib.specs.declared.calls.BuilderCall.{BuilderCall}
use Rattle.jlib.specs.declared.calls.BuilderCall.TheVariants as builders
use Rattle.jlib.specs.declared.calls.LibCall.{LibCall}
use Rattle.jlib.specs.declared.calls.LibCall.TheVariants as calls
use Rattle.jlib.specs.declared.calls.PermissionInit.{PermissionInit}
use Rattle.jlib.specs.declared.calls.PrintedType.{PrintedType}
use Rattle.jlib.specs.declared.calls.StringCall.{StringCall}
use Rattle.jlib.specs.declared.calls.StringCall.TheVariants as strings
use Rattle.jlib.specs.declared.calls.ThreadCall.{ThreadCall}
use Rattle.jlib.specs.declared.calls.ThreadCall.TheVariants as threads
use Rattle.jlib.specs.declared.calls.ThrownInit.{ThrownInit}
use Rattle.jlib.specs.declared.calls.ThrownInit.TheVariants as given
use Rattle.jlib.specs.declared.classes.LibClass.TheVariants as lib
use Rattle.jlib.specs.declared.classes.Thrown.TheVariants as thrown
use Rattle.jvalues.specs.declared.jops.value.Value.TheVariants.{Int, Long, Ref, Ctx}
use Rattle.jperm.specs.declared.permission.Permission as perms
use Rattle.jperm.specs.declared.making.PermError.{PermError}
use Rattle.jperm.specs.PermissionConstructors.{made as perm_made}
use Rattle.jtyping.specs.jrule.ArrayRule.{of_numbers, component}
use Rattle.jtypes.specs.declared.vtype.ArrayType.{ArrayType}
use Rattle.jtypes.specs.declared.vtype.VType.{VType}
use Rattle.jtypes.specs.declared.vtype.VType.TheVariants as types
use Rattle.jthreads.specs.ThreadTables.{is_started, join_answer, table_after_start}
use Rattle.jthreads.specs.declared.table.Joined.{Joined}
use Rattle.jthreads.specs.declared.table.Joined.TheVariants.{AtOnce, Waits}
use Rattle.jctx.specs.declared.item.Item.{Item}
use Rattle.jsemantics.specs.jmachine.MachineStates.{Act, FrameOf, Goes, GuestOf, Jumps, Leaves, Calls, Makes, Raises, Row, State, Switches, Throws, free, gives, raises}
use Rattle.jsemantics.specs.jmachine.ArrayInstructions as arrays
use Rattle.jsemantics.specs.ProofNames
use Rattle.jsemantics.specs.jmachine.ArrayInstructions.{Items, items_in, load_at, made, store_at, with_item, within}
use Rattle.jsemantics.specs.jmachine.LibraryCalls.{library}
use Rattle.jsemantics.specs.ProofNames.{object_init}
use Rattle.jsemantics.specs.jmachine.ObjectInstructions.{text_made, tested, is_one}
use Rattle.jsemantics.specs.jmachine.Narrowing.{place}
use Rattle.jsemantics.specs.jmachine.TakenOperands.{type_of}
use Rattle.jsemantics.specs.jmachine.HeapObjects.{Builder}
use Rattle.jsemantics.specs.jmachine.PermissionCalls as permissions
use Rattle.jsemantics.specs.jmachine.InstructionSites.{Site}
use Rattle.jsemantics.specs.jmachine.Store.{Store, object_at, with_object}
use Rattle.jsemantics.specs.jmachine.TextCalls as texts
use Rattle.jsemantics.specs.jmachine.ThreadOperations.{joined_by, number_in, started, thread, waiting}
use Rattle.jsemantics.specs.jmachine.Throwables as throwables
use Rattle.jsemantics.specs.jmachine.World.{World}
use Rattle.jparts.specs.declared.jcode.op_form.Simple.{Simple as SimpleForm}
use Rattle.jparts.specs.declared.jcode.op_form.Simple.TheVariants as simples
use Rattle.jvalues.specs.declared.jops.value.DivideByZero.{DivideByZero}
use Rattle.jvalues.specs.declared.jops.value.Value.{Value}
use Rattle.jvalues.specs.jops.Operations.{divide, one, two}
use Rattle.jsemantics.specs.jmachine.BasicInstructions.{gives_one, quotient, simple}

-- ---- the plain machine's states

abbrev pub Word : Type 0
Word = Value (List Item)

abbrev pub Frame : Type 0
Frame = FrameOf (List Item) (Unit {0})

abbrev pub Guest : Type 0
Guest = GuestOf (List Item) (Unit {0})

abbrev pub Point : Type 0
Point = State (List Item) (Unit {0})

abbrev pub PlainRow : Type 0
PlainRow = Row (List Item) (Unit {0})

abbrev pub PlainAct : Type 0
PlainAct = Act (List Item) (Unit {0})

-- ---- rows that jump nowhere

abbrev pub IsCalm : PlainAct → Type 0
IsCalm (Jumps to) = ⊥
IsCalm (Goes s values events) = Unit {0}
IsCalm (Leaves values) = Unit {0}
IsCalm (Calls m arguments entry) = Unit {0}
IsCalm (Raises events class message) = Unit {0}
IsCalm (Throws n) = Unit {0}
IsCalm (Switches table) = Unit {0}
IsCalm (Makes s runnable k) = Unit {0}

abbrev pub Calm : Option PlainRow → Type 0
Calm row = IfSome row (λ r. IsCalm r.act)

pub each_calm : {X : Type 0} (row : X → PlainRow) → ((x : X) → IsCalm (row x).act) → (o : Option X) → Calm (option_map row o)
each_calm row h None = tt
each_calm row h (Some x) = h x

pub then_calm : {X : Type 0} (rows : X → Option PlainRow) → ((x : X) → Calm (rows x)) → (o : Option X) → Calm (option_and_then rows o)
then_calm rows h None = tt
then_calm rows h (Some x) = h x

module _ (s : Store (List Item)) where
  -- ---- arrays

  made_calm : (a : ArrayType) (n : Option ℕ) → Calm (Some (made s a n))
  made_calm a None = tt
  made_calm a (Some n) = tt

  make_numbers : (a : ArrayType) (values : List Word) → Calm (arrays.make s (types.Array a) values)
  unfolding arrays.make
  make_numbers a [] = tt
  make_numbers a (Int n ∷ []) = made_calm a (place n)
  make_numbers a (Int n ∷ v ∷ vs) = tt
  make_numbers a (Long x ∷ vs) = tt
  make_numbers a (Ref x ∷ vs) = tt
  make_numbers a (Ctx x ∷ vs) = tt

  pub make_calm : (type : VType) (values : List Word) → Calm (arrays.make s type values)
  unfolding arrays.make
  make_calm types.Top values = tt
  make_calm types.Int values = tt
  make_calm types.Long values = tt
  make_calm types.Null values = tt
  make_calm types.UninitThis values = tt
  make_calm (types.Uninit at) values = tt
  make_calm (types.Object c) values = tt
  make_calm types.Ctx values = tt
  make_calm (types.Array a) values = make_numbers a values

  module _ (w : World) where
    load_at_calm : (x : Items (List Item)) (i : Option ℕ) → Calm (load_at s x i)
    load_at_calm x None = tt
    load_at_calm x (Some i) = each_calm (λ v. gives s (v ∷ [])) (λ v. tt) (slice_get x.items i)

    stored_calm : (n i : ℕ) (x : Items (List Item)) (v : Word) (b : Bool)
        → Calm (Some (if b then gives (with_item s n x i v) [] else raises (lib.Thrown thrown.ArrayStoreException)))
    stored_calm n i x v true = tt
    stored_calm n i x v false = tt

    store_at_calm : (n : ℕ) (v : Word) (x : Items (List Item)) (i : Option ℕ) → Calm (Some (store_at w s n v x i))
    store_at_calm n v x None = tt
    store_at_calm n v x (Some i) = stored_calm n i x v (is_one w (component x.type) (type_of w s v))

    pub array_calm : (form : ArrayForm) (values : List Word) → Calm (arrays.array w s form values)
    unfolding arrays.array
    array_calm (forms.New kind) values = make_calm (types.Array (record { depth = 1; element = of_numbers kind })) values
    array_calm (forms.NewRef i) values = tt
    array_calm (forms.Load e) [] = tt
    array_calm (forms.Load e) (Long x ∷ vs) = tt
    array_calm (forms.Load e) (Ref x ∷ vs) = tt
    array_calm (forms.Load e) (Ctx x ∷ vs) = tt
    array_calm (forms.Load e) (Int i ∷ []) = tt
    array_calm (forms.Load e) (Int i ∷ Int x ∷ vs) = tt
    array_calm (forms.Load e) (Int i ∷ Long x ∷ vs) = tt
    array_calm (forms.Load e) (Int i ∷ Ctx x ∷ vs) = tt
    array_calm (forms.Load e) (Int i ∷ Ref zero ∷ []) = tt
    array_calm (forms.Load e) (Int i ∷ Ref (suc n) ∷ []) =
        then_calm (arrays.load s i) (λ x. load_at_calm x (within (length x.items) (place i))) (items_in (object_at s (suc n)))
    array_calm (forms.Load e) (Int i ∷ Ref zero ∷ v ∷ vs) = tt
    array_calm (forms.Load e) (Int i ∷ Ref (suc n) ∷ v ∷ vs) = tt
    array_calm (forms.Store e) [] = tt
    array_calm (forms.Store e) (v ∷ []) = tt
    array_calm (forms.Store e) (v ∷ Long x ∷ vs) = tt
    array_calm (forms.Store e) (v ∷ Ref x ∷ vs) = tt
    array_calm (forms.Store e) (v ∷ Ctx x ∷ vs) = tt
    array_calm (forms.Store e) (v ∷ Int i ∷ []) = tt
    array_calm (forms.Store e) (v ∷ Int i ∷ Int x ∷ vs) = tt
    array_calm (forms.Store e) (v ∷ Int i ∷ Long x ∷ vs) = tt
    array_calm (forms.Store e) (v ∷ Int i ∷ Ctx x ∷ vs) = tt
    array_calm (forms.Store e) (v ∷ Int i ∷ Ref zero ∷ []) = tt
    array_calm (forms.Store e) (v ∷ Int i ∷ Ref (suc n) ∷ []) =
        each_calm (arrays.store w s (suc n) i v) (λ x. store_at_calm (suc n) v x (within (length x.items) (place i))) (items_in (object_at s (suc n)))
    array_calm (forms.Store e) (v ∷ Int i ∷ Ref zero ∷ u ∷ vs) = tt
    array_calm (forms.Store e) (v ∷ Int i ∷ Ref (suc n) ∷ u ∷ vs) = tt
    array_calm forms.Length [] = tt
    array_calm forms.Length (Int x ∷ vs) = tt
    array_calm forms.Length (Long x ∷ vs) = tt
    array_calm forms.Length (Ctx x ∷ vs) = tt
    array_calm forms.Length (Ref zero ∷ []) = tt
    array_calm forms.Length (Ref (suc n) ∷ []) = each_calm (ProofNames.length_row s) (λ x. tt) (items_in (object_at s (suc n)))
    array_calm forms.Length (Ref zero ∷ v ∷ vs) = tt
    array_calm forms.Length (Ref (suc n) ∷ v ∷ vs) = tt

  -- ---- objects of the library

  object_calm : (values : List Word) → Calm (object_init s values)
  object_calm [] = tt
  object_calm (v ∷ []) = tt
  object_calm (v ∷ u ∷ vs) = tt

  told_calm : (n m : ℕ) → Calm (throwables.told s n m)
  told_calm n m = each_calm (λ x. gives (with_object s n x) []) (λ x. tt) (throwables.with_message m (object_at s n))

  thrown_calm : (how : ThrownInit) (values : List Word) → Calm (throwables.init s how values)
  unfolding throwables.init
  thrown_calm given.Message [] = tt
  thrown_calm given.Message (Int x ∷ vs) = tt
  thrown_calm given.Message (Long x ∷ vs) = tt
  thrown_calm given.Message (Ctx x ∷ vs) = tt
  thrown_calm given.Message (Ref m ∷ []) = tt
  thrown_calm given.Message (Ref m ∷ Int x ∷ vs) = tt
  thrown_calm given.Message (Ref m ∷ Long x ∷ vs) = tt
  thrown_calm given.Message (Ref m ∷ Ctx x ∷ vs) = tt
  thrown_calm given.Message (Ref m ∷ Ref n ∷ []) = told_calm n m
  thrown_calm given.Message (Ref m ∷ Ref n ∷ v ∷ vs) = tt
  thrown_calm given.Nothing [] = tt
  thrown_calm given.Nothing (Int x ∷ vs) = tt
  thrown_calm given.Nothing (Long x ∷ vs) = tt
  thrown_calm given.Nothing (Ctx x ∷ vs) = tt
  thrown_calm given.Nothing (Ref n ∷ []) = told_calm n 0
  thrown_calm given.Nothing (Ref n ∷ v ∷ vs) = tt

  message_calm : (values : List Word) → Calm (throwables.message s values)
  unfolding throwables.message
  message_calm [] = tt
  message_calm (Int x ∷ vs) = tt
  message_calm (Long x ∷ vs) = tt
  message_calm (Ctx x ∷ vs) = tt
  message_calm (Ref n ∷ []) = each_calm (λ m. gives s (Ref m ∷ [])) (λ m. tt) (throwables.message_of (object_at s n))
  message_calm (Ref n ∷ v ∷ vs) = tt

  unit_calm : (o : Option ℕ) → Calm (Some (texts.unit_given s o))
  unit_calm None = tt
  unit_calm (Some u) = tt

  tested_calm : (b : Bool) → Calm (Some (tested s b))
  tested_calm true = tt
  tested_calm false = tt

  joined_calm : (other v : Word) → Calm (option_and_then (λ us. option_map (λ more. text_made s (us ++ more)) (texts.units s other)) (texts.units s v))
  joined_calm other v =
      then_calm (λ us. option_map (λ more. text_made s (us ++ more)) (texts.units s other))
      (λ us. each_calm (λ more. text_made s (us ++ more)) (λ more. tt) (texts.units s other)) (texts.units s v)

  string_calm : (call : StringCall) (values : List Word) → Calm (texts.string s call values)
  unfolding texts.string
  string_calm strings.Length [] = tt
  string_calm strings.Length (v ∷ []) = each_calm (λ us. gives s (Int (pos (length us)) ∷ [])) (λ us. tt) (texts.units s v)
  string_calm strings.Length (v ∷ u ∷ vs) = tt
  string_calm strings.CharAt [] = tt
  string_calm strings.CharAt (Long x ∷ vs) = tt
  string_calm strings.CharAt (Ref x ∷ vs) = tt
  string_calm strings.CharAt (Ctx x ∷ vs) = tt
  string_calm strings.CharAt (Int i ∷ []) = tt
  string_calm strings.CharAt (Int i ∷ v ∷ []) = each_calm (ProofNames.char_at s i) (λ us. unit_calm (option_and_then (slice_get us) (place i))) (texts.units s v)
  string_calm strings.CharAt (Int i ∷ v ∷ u ∷ vs) = tt
  string_calm strings.Equals [] = tt
  string_calm strings.Equals (other ∷ []) = tt
  string_calm strings.Equals (other ∷ v ∷ []) =
      each_calm (λ us. tested s (texts.equals us (texts.units s other))) (λ us. tested_calm (texts.equals us (texts.units s other))) (texts.units s v)
  string_calm strings.Equals (other ∷ v ∷ u ∷ vs) = tt
  string_calm strings.Concat [] = tt
  string_calm strings.Concat (Int x ∷ []) = tt
  string_calm strings.Concat (Int x ∷ v ∷ []) = joined_calm (Int x) v
  string_calm strings.Concat (Int x ∷ v ∷ u ∷ vs) = tt
  string_calm strings.Concat (Long x ∷ []) = tt
  string_calm strings.Concat (Long x ∷ v ∷ []) = joined_calm (Long x) v
  string_calm strings.Concat (Long x ∷ v ∷ u ∷ vs) = tt
  string_calm strings.Concat (Ctx x ∷ []) = tt
  string_calm strings.Concat (Ctx x ∷ v ∷ []) = joined_calm (Ctx x) v
  string_calm strings.Concat (Ctx x ∷ v ∷ u ∷ vs) = tt
  string_calm strings.Concat (Ref zero ∷ []) = tt
  string_calm strings.Concat (Ref zero ∷ v ∷ []) = tt
  string_calm strings.Concat (Ref zero ∷ v ∷ u ∷ vs) = tt
  string_calm strings.Concat (Ref (suc n) ∷ []) = tt
  string_calm strings.Concat (Ref (suc n) ∷ v ∷ []) = joined_calm (Ref (suc n)) v
  string_calm strings.Concat (Ref (suc n) ∷ v ∷ u ∷ vs) = tt

  added_calm : (n : ℕ) (results : List Word) (o more : Option (List ℕ)) → Calm (option_and_then (λ us. option_map (texts.appended s n results us) more) o)
  added_calm n results o more = then_calm (λ us. option_map (texts.appended s n results us) more) (λ us. each_calm (texts.appended s n results us) (λ x. tt) more) o

  first_calm : (n : ℕ) (o more : Option (List ℕ)) → Calm (option_and_then (λ us. option_map (texts.appended s n [] []) more) o)
  first_calm n o more = then_calm (λ (us : List ℕ). option_map (texts.appended s n [] []) more) (λ us. each_calm (texts.appended s n [] []) (λ x. tt) more) o

  builder_calm : (call : BuilderCall) (values : List Word) → Calm (texts.builder s call values)
  unfolding texts.builder
  builder_calm builders.Init [] = tt
  builder_calm builders.Init (Int x ∷ vs) = tt
  builder_calm builders.Init (Long x ∷ vs) = tt
  builder_calm builders.Init (Ctx x ∷ vs) = tt
  builder_calm builders.Init (Ref n ∷ []) = each_calm (λ us. gives (with_object s n (Builder [])) []) (λ us. tt) (texts.built s n)
  builder_calm builders.Init (Ref n ∷ v ∷ vs) = tt
  builder_calm builders.InitText [] = tt
  builder_calm builders.InitText (Int y ∷ []) = tt
  builder_calm builders.InitText (Int y ∷ Int x ∷ vs) = tt
  builder_calm builders.InitText (Int y ∷ Long x ∷ vs) = tt
  builder_calm builders.InitText (Int y ∷ Ctx x ∷ vs) = tt
  builder_calm builders.InitText (Int y ∷ Ref n ∷ []) = first_calm n (texts.built s n) (texts.units s (Int y))
  builder_calm builders.InitText (Int y ∷ Ref n ∷ v ∷ vs) = tt
  builder_calm builders.InitText (Long y ∷ []) = tt
  builder_calm builders.InitText (Long y ∷ Int x ∷ vs) = tt
  builder_calm builders.InitText (Long y ∷ Long x ∷ vs) = tt
  builder_calm builders.InitText (Long y ∷ Ctx x ∷ vs) = tt
  builder_calm builders.InitText (Long y ∷ Ref n ∷ []) = first_calm n (texts.built s n) (texts.units s (Long y))
  builder_calm builders.InitText (Long y ∷ Ref n ∷ v ∷ vs) = tt
  builder_calm builders.InitText (Ctx y ∷ []) = tt
  builder_calm builders.InitText (Ctx y ∷ Int x ∷ vs) = tt
  builder_calm builders.InitText (Ctx y ∷ Long x ∷ vs) = tt
  builder_calm builders.InitText (Ctx y ∷ Ctx x ∷ vs) = tt
  builder_calm builders.InitText (Ctx y ∷ Ref n ∷ []) = first_calm n (texts.built s n) (texts.units s (Ctx y))
  builder_calm builders.InitText (Ctx y ∷ Ref n ∷ v ∷ vs) = tt
  builder_calm builders.InitText (Ref zero ∷ []) = tt
  builder_calm builders.InitText (Ref zero ∷ Int x ∷ vs) = tt
  builder_calm builders.InitText (Ref zero ∷ Long x ∷ vs) = tt
  builder_calm builders.InitText (Ref zero ∷ Ctx x ∷ vs) = tt
  builder_calm builders.InitText (Ref zero ∷ Ref n ∷ []) = tt
  builder_calm builders.InitText (Ref zero ∷ Ref n ∷ v ∷ vs) = tt
  builder_calm builders.InitText (Ref (suc m) ∷ []) = tt
  builder_calm builders.InitText (Ref (suc m) ∷ Int x ∷ vs) = tt
  builder_calm builders.InitText (Ref (suc m) ∷ Long x ∷ vs) = tt
  builder_calm builders.InitText (Ref (suc m) ∷ Ctx x ∷ vs) = tt
  builder_calm builders.InitText (Ref (suc m) ∷ Ref n ∷ []) = first_calm n (texts.built s n) (texts.units s (Ref (suc m)))
  builder_calm builders.InitText (Ref (suc m) ∷ Ref n ∷ v ∷ vs) = tt
  builder_calm (builders.Append piece) [] = tt
  builder_calm (builders.Append piece) (v ∷ []) = tt
  builder_calm (builders.Append piece) (v ∷ Int x ∷ vs) = tt
  builder_calm (builders.Append piece) (v ∷ Long x ∷ vs) = tt
  builder_calm (builders.Append piece) (v ∷ Ctx x ∷ vs) = tt
  builder_calm (builders.Append piece) (v ∷ Ref n ∷ []) = added_calm n (Ref n ∷ []) (texts.built s n) (texts.printed s piece v)
  builder_calm (builders.Append piece) (v ∷ Ref n ∷ u ∷ vs) = tt
  builder_calm builders.ToString [] = tt
  builder_calm builders.ToString (Int x ∷ vs) = tt
  builder_calm builders.ToString (Long x ∷ vs) = tt
  builder_calm builders.ToString (Ctx x ∷ vs) = tt
  builder_calm builders.ToString (Ref n ∷ []) = each_calm (text_made s) (λ us. tt) (texts.built s n)
  builder_calm builders.ToString (Ref n ∷ v ∷ vs) = tt

  print_calm : (thread : ℕ) (piece : PrintedType) (values : List Word) → Calm (texts.print s thread piece values)
  unfolding texts.print
  print_calm thread piece [] = tt
  print_calm thread piece (v ∷ []) = tt
  print_calm thread piece (v ∷ stream ∷ []) = each_calm (texts.line s thread) (λ us. tt) (texts.printed s piece v)
  print_calm thread piece (v ∷ stream ∷ u ∷ vs) = tt

  print_end_calm : (thread : ℕ) (values : List Word) → Calm (texts.print_end s thread values)
  unfolding texts.print_end
  print_end_calm thread [] = tt
  print_end_calm thread (stream ∷ []) = tt
  print_end_calm thread (stream ∷ u ∷ vs) = tt

  constructed_calm : (n : ℕ) (r : Result perms.Permission PermError) → Calm (permissions.constructed s n r)
  constructed_calm n (Ok p) = each_calm (λ x. gives (with_object s n x) []) (λ x. tt) (permissions.with_value p (object_at s n))
  constructed_calm n (Err e) = tt

  permission_calm : (cwd : List ℕ) (call : PermissionInit) (values : List Word) → Calm (permissions.init s cwd call values)
  unfolding permissions.init
  permission_calm cwd call values =
      then_calm (permissions.made_in s cwd call) (λ g. constructed_calm g.object (perm_made (permissions.class_of call) g.name g.actions cwd)) (permissions.given s values)

  -- ---- threads

  started_calm : (at : Site) (n : ℕ) (b : Bool)
      → Calm (Some (if b then raises (lib.Thrown thrown.IllegalThreadStateException) else free (Switches (table_after_start n at.table))))
  started_calm at n true = tt
  started_calm at n false = tt

  waiting_calm : (at : Site) (n : ℕ) (j : Joined) → Calm (Some (joined_by at s n j))
  waiting_calm at n AtOnce = tt
  waiting_calm at n Waits = tt

  pub thread_calm : (at : Site) (call : ThreadCall) (values : List Word) → Calm (thread at s call values)
  unfolding thread
  thread_calm at (threads.Init side) values = tt
  thread_calm at threads.Start [] = tt
  thread_calm at threads.Start (Int x ∷ vs) = tt
  thread_calm at threads.Start (Long x ∷ vs) = tt
  thread_calm at threads.Start (Ctx x ∷ vs) = tt
  thread_calm at threads.Start (Ref n ∷ []) = each_calm (started at) (λ m. started_calm at m (is_started at.table m)) (number_in (object_at s n))
  thread_calm at threads.Start (Ref n ∷ v ∷ vs) = tt
  thread_calm at threads.Join [] = tt
  thread_calm at threads.Join (Int x ∷ vs) = tt
  thread_calm at threads.Join (Long x ∷ vs) = tt
  thread_calm at threads.Join (Ctx x ∷ vs) = tt
  thread_calm at threads.Join (Ref n ∷ []) = each_calm (waiting at s) (λ m. waiting_calm at m (join_answer m at.table)) (number_in (object_at s n))
  thread_calm at threads.Join (Ref n ∷ v ∷ vs) = tt
  thread_calm at threads.Yield [] = tt
  thread_calm at threads.Yield (v ∷ vs) = tt

  -- ---- all

  pub library_calm : (at : Site) (call : LibCall) (values : List Word) → Calm (library at s call values)
  unfolding library
  library_calm at calls.ObjectInit values = object_calm values
  library_calm at (calls.ThrownInit class how) values = thrown_calm how values
  library_calm at calls.AccessControlInit values = thrown_calm given.Message values
  library_calm at calls.GetMessage values = message_calm values
  library_calm at (calls.String call) values = string_calm call values
  library_calm at (calls.Builder call) values = builder_calm call values
  library_calm at calls.Out values = tt
  library_calm at calls.PrintEnd values = print_end_calm at.thread values
  library_calm at (calls.Print piece) values = print_calm at.thread piece values
  library_calm at (calls.Run side) values = tt
  library_calm at (calls.Thread call) values = tt
  library_calm at (calls.RunAction side) values = tt
  library_calm at (calls.Controller call) values = tt
  library_calm at calls.ContextCheck values = tt
  library_calm at (calls.PermissionInit call) values = permission_calm at.cwd call values
  library_calm at (calls.Rt call) values = tt

  -- ---- operands alone

  one_calm : (o : Option Word) → Calm (gives_one s o)
  one_calm None = tt
  one_calm (Some v) = tt

  quotient_calm : (o : Option (Result Word DivideByZero)) → Calm (option_map (quotient s) o)
  quotient_calm None = tt
  quotient_calm (Some (Ok v)) = tt
  quotient_calm (Some (Err e)) = tt

  pub simple_calm : (form : SimpleForm) (values : List Word) → Calm (simple s form values)
  unfolding simple
  simple_calm simples.Nothing [] = tt
  simple_calm simples.Nothing (v ∷ vs) = tt
  simple_calm simples.Null [] = tt
  simple_calm simples.Null (v ∷ vs) = tt
  simple_calm (simples.Int n) [] = tt
  simple_calm (simples.Int n) (v ∷ vs) = tt
  simple_calm (simples.Long n) [] = tt
  simple_calm (simples.Long n) (v ∷ vs) = tt
  simple_calm (simples.Two op) [] = tt
  simple_calm (simples.Two op) (b ∷ []) = tt
  simple_calm (simples.Two op) (b ∷ a ∷ []) = one_calm (two op a b)
  simple_calm (simples.Two op) (b ∷ a ∷ v ∷ vs) = tt
  simple_calm (simples.Divide op) [] = tt
  simple_calm (simples.Divide op) (b ∷ []) = tt
  simple_calm (simples.Divide op) (b ∷ a ∷ []) = quotient_calm (divide op a b)
  simple_calm (simples.Divide op) (b ∷ a ∷ v ∷ vs) = tt
  simple_calm (simples.One op) [] = tt
  simple_calm (simples.One op) (a ∷ []) = one_calm (one op a)
  simple_calm (simples.One op) (a ∷ v ∷ vs) = tt
