-- Rows of the library and of arrays: each is its own row on the other side, since it neither calls nor jumps.
use Rattle.std.proofs.Common.{ℕ, zero, suc, Bool, true, false, List, [], ◌∷◌, ◌++◌, Option, Some, None, option_map, Result, Ok, Err, refl, sym, subst}
use Rattle.std.specs.Prelude.{length, option_and_then, pos, slice_get, if◌then◌else◌}
use Rattle.jparts.specs.declared.jcode.op_form.ArrayForm.{ArrayForm}
use Rattle.jparts.specs.declared.jcode.op_form.ArrayForm.TheVariants as forms
use Rattle.jlib.specs.declared.calls.BuilderCall.{BuilderCall}
use Rattle.jlib.specs.declared.calls.BuilderCall.TheVariants as builders
use Rattle.jlib.specs.declared.calls.LibCall.{LibCall}
use Rattle.jlib.specs.declared.calls.LibCall.TheVariants as calls
use Rattle.jlib.specs.declared.calls.PermissionInit.{PermissionInit}
use Rattle.jlib.specs.declared.calls.PrintedType.{PrintedType}
use Rattle.jlib.specs.declared.calls.StringCall.{StringCall}
use Rattle.jlib.specs.declared.calls.StringCall.TheVariants as strings
use Rattle.jlib.specs.declared.calls.ThreadCall.{ThreadCall}
use Rattle.jlib.specs.declared.calls.ThreadCall.TheVariants as threads
use Rattle.jlib.specs.declared.calls.ThrownInit.{ThrownInit}
use Rattle.jlib.specs.declared.calls.ThrownInit.TheVariants as given
use Rattle.jlib.specs.declared.classes.LibClass.TheVariants as lib
use Rattle.jlib.specs.declared.classes.Thrown.TheVariants as thrown
use Rattle.jvalues.specs.declared.jops.value.Value.TheVariants.{Int, Long, Ref, Ctx}
use Rattle.jperm.specs.declared.permission.Permission as perms
use Rattle.jperm.specs.declared.making.PermError.{PermError}
use Rattle.jperm.specs.PermissionConstructors.{made as perm_made}
use Rattle.jtyping.specs.jrule.ArrayRule.{of_numbers, component}
use Rattle.jtypes.specs.declared.vtype.ArrayType.{ArrayType}
use Rattle.jtypes.specs.declared.vtype.VType.{VType}
use Rattle.jtypes.specs.declared.vtype.VType.TheVariants as types
use Rattle.jthreads.specs.ThreadTables.{is_started, join_answer, table_after_start}
use Rattle.jthreads.specs.declared.table.Joined.{Joined}
use Rattle.jthreads.specs.declared.table.Joined.TheVariants.{AtOnce, Waits}
use Rattle.jctx.specs.declared.item.Item.{Item}
use Rattle.jsemantics.specs.jmachine.MachineStates.{Row, Switches, free, gives, raises}
use Rattle.jsemantics.specs.jmachine.ArrayInstructions as arrays
use Rattle.jsemantics.specs.ProofNames
use Rattle.jsemantics.specs.jmachine.ArrayInstructions.{Items, items_in, load_at, made, store_at, with_item, within}
use Rattle.jsemantics.specs.jmachine.LibraryCalls.{library}
use Rattle.jsemantics.specs.ProofNames.{object_init}
use Rattle.jsemantics.specs.jmachine.ObjectInstructions.{text_made, tested, is_one}
use Rattle.jsemantics.specs.jmachine.Narrowing.{place}
use Rattle.jsemantics.specs.jmachine.TakenOperands.{type_of}
use Rattle.jsemantics.specs.jmachine.HeapObjects.{Builder}
use Rattle.jsemantics.specs.jmachine.PermissionCalls as permissions
use Rattle.jsemantics.specs.jmachine.InstructionSites.{Site}
use Rattle.jsemantics.specs.jmachine.Store.{Store, object_at, with_object}
use Rattle.jsemantics.specs.jmachine.TextCalls as texts
use Rattle.jsemantics.specs.jmachine.ThreadOperations.{joined_by, number_in, started, thread, waiting}
use Rattle.jsemantics.specs.jmachine.Throwables as throwables
use Rattle.jsemantics.specs.jmachine.World.{World}
use Rattle.jsimulation_laws.specs.between.BetweenMachines.{Noted}
use Rattle.jsimulation_laws.specs.relation.ProgramRelation.{SameClasses}
use Rattle.jsimulation_laws.specs.relation.StateRelation.{Word}
use Rattle.jsimulation_laws.proofs.LocalProofs.WorldAgreement.{array_same}
use Rattle.jsimulation_laws.proofs.LocalProofs.RowComparison.{Led}

abbrev Rows : Type 0
Rows = Option (Row (List Item) Noted)

module _ (to : ℕ → ℕ) where
  abbrev pub Itself : Rows → Type 0
  Itself row = Led to row row

  each : {X : Type 0} (row : X → Row (List Item) Noted) → ((x : X) → Itself (Some (row x))) → (o : Option X) → Itself (option_map row o)
  each row leads None = tt
  each row leads (Some x) = leads x

  then_each : {X : Type 0} (rows : X → Rows) → ((x : X) → Itself (rows x)) → (o : Option X) → Itself (option_and_then rows o)
  then_each rows leads None = tt
  then_each rows leads (Some x) = leads x

  module _ (s : Store (List Item)) where
    -- ---- arrays

    made_itself : (a : ArrayType) (n : Option ℕ) → Itself (Some (made s a n))
    made_itself a None = (tt, refl)
    made_itself a (Some n) = (tt, refl)

    make_numbers : (a : ArrayType) (values : List Word) → Itself (arrays.make s (types.Array a) values)
    unfolding arrays.make
    make_numbers a [] = tt
    make_numbers a (Int n ∷ []) = made_itself a (place n)
    make_numbers a (Int n ∷ v ∷ vs) = tt
    make_numbers a (Long x ∷ vs) = tt
    make_numbers a (Ref x ∷ vs) = tt
    make_numbers a (Ctx x ∷ vs) = tt

    pub make_itself : (type : VType) (values : List Word) → Itself (arrays.make s type values)
    unfolding arrays.make
    make_itself types.Top values = tt
    make_itself types.Int values = tt
    make_itself types.Long values = tt
    make_itself types.Null values = tt
    make_itself types.UninitThis values = tt
    make_itself (types.Uninit at) values = tt
    make_itself (types.Object c) values = tt
    make_itself types.Ctx values = tt
    make_itself (types.Array a) values = make_numbers a values

    module _ (w : World) where
      load_at_itself : (x : Items (List Item)) (i : Option ℕ) → Itself (load_at s x i)
      load_at_itself x None = (tt, refl)
      load_at_itself x (Some i) = each (λ v. gives s (v ∷ [])) (λ v. (tt, refl)) (slice_get x.items i)

      stored_itself : (n i : ℕ) (x : Items (List Item)) (v : Word) (b : Bool)
          → Itself (Some (if b then gives (with_item s n x i v) [] else raises (lib.Thrown thrown.ArrayStoreException)))
      stored_itself n i x v true = (tt, refl)
      stored_itself n i x v false = (tt, refl)

      store_at_itself : (n : ℕ) (v : Word) (x : Items (List Item)) (i : Option ℕ) → Itself (Some (store_at w s n v x i))
      store_at_itself n v x None = (tt, refl)
      store_at_itself n v x (Some i) = stored_itself n i x v (is_one w (component x.type) (type_of w s v))

      array_itself : (form : ArrayForm) (values : List Word) → Itself (arrays.array w s form values)
      unfolding arrays.array
      array_itself (forms.New kind) values = make_itself (types.Array (record { depth = 1; element = of_numbers kind })) values
      array_itself (forms.NewRef i) values = tt
      array_itself (forms.Load e) [] = tt
      array_itself (forms.Load e) (Long x ∷ vs) = tt
      array_itself (forms.Load e) (Ref x ∷ vs) = tt
      array_itself (forms.Load e) (Ctx x ∷ vs) = tt
      array_itself (forms.Load e) (Int i ∷ []) = tt
      array_itself (forms.Load e) (Int i ∷ Int x ∷ vs) = tt
      array_itself (forms.Load e) (Int i ∷ Long x ∷ vs) = tt
      array_itself (forms.Load e) (Int i ∷ Ctx x ∷ vs) = tt
      array_itself (forms.Load e) (Int i ∷ Ref zero ∷ []) = (tt, refl)
      array_itself (forms.Load e) (Int i ∷ Ref (suc n) ∷ []) =
          then_each (arrays.load s i) (λ x. load_at_itself x (within (length x.items) (place i))) (items_in (object_at s (suc n)))
      array_itself (forms.Load e) (Int i ∷ Ref zero ∷ v ∷ vs) = tt
      array_itself (forms.Load e) (Int i ∷ Ref (suc n) ∷ v ∷ vs) = tt
      array_itself (forms.Store e) [] = tt
      array_itself (forms.Store e) (v ∷ []) = tt
      array_itself (forms.Store e) (v ∷ Long x ∷ vs) = tt
      array_itself (forms.Store e) (v ∷ Ref x ∷ vs) = tt
      array_itself (forms.Store e) (v ∷ Ctx x ∷ vs) = tt
      array_itself (forms.Store e) (v ∷ Int i ∷ []) = tt
      array_itself (forms.Store e) (v ∷ Int i ∷ Int x ∷ vs) = tt
      array_itself (forms.Store e) (v ∷ Int i ∷ Long x ∷ vs) = tt
      array_itself (forms.Store e) (v ∷ Int i ∷ Ctx x ∷ vs) = tt
      array_itself (forms.Store e) (v ∷ Int i ∷ Ref zero ∷ []) = (tt, refl)
      array_itself (forms.Store e) (v ∷ Int i ∷ Ref (suc n) ∷ []) =
          each (arrays.store w s (suc n) i v) (λ x. store_at_itself (suc n) v x (within (length x.items) (place i))) (items_in (object_at s (suc n)))
      array_itself (forms.Store e) (v ∷ Int i ∷ Ref zero ∷ u ∷ vs) = tt
      array_itself (forms.Store e) (v ∷ Int i ∷ Ref (suc n) ∷ u ∷ vs) = tt
      array_itself forms.Length [] = tt
      array_itself forms.Length (Int x ∷ vs) = tt
      array_itself forms.Length (Long x ∷ vs) = tt
      array_itself forms.Length (Ctx x ∷ vs) = tt
      array_itself forms.Length (Ref zero ∷ []) = (tt, refl)
      array_itself forms.Length (Ref (suc n) ∷ []) = each (ProofNames.length_row s) (λ x. (tt, refl)) (items_in (object_at s (suc n)))
      array_itself forms.Length (Ref zero ∷ v ∷ vs) = tt
      array_itself forms.Length (Ref (suc n) ∷ v ∷ vs) = tt

    -- ---- objects of the library

    object_itself : (values : List Word) → Itself (object_init s values)
    object_itself [] = tt
    object_itself (v ∷ []) = (tt, refl)
    object_itself (v ∷ u ∷ vs) = tt

    told_itself : (n m : ℕ) → Itself (throwables.told s n m)
    told_itself n m = each (λ x. gives (with_object s n x) []) (λ x. (tt, refl)) (throwables.with_message m (object_at s n))

    thrown_itself : (how : ThrownInit) (values : List Word) → Itself (throwables.init s how values)
    unfolding throwables.init
    thrown_itself given.Message [] = tt
    thrown_itself given.Message (Int x ∷ vs) = tt
    thrown_itself given.Message (Long x ∷ vs) = tt
    thrown_itself given.Message (Ctx x ∷ vs) = tt
    thrown_itself given.Message (Ref m ∷ []) = tt
    thrown_itself given.Message (Ref m ∷ Int x ∷ vs) = tt
    thrown_itself given.Message (Ref m ∷ Long x ∷ vs) = tt
    thrown_itself given.Message (Ref m ∷ Ctx x ∷ vs) = tt
    thrown_itself given.Message (Ref m ∷ Ref n ∷ []) = told_itself n m
    thrown_itself given.Message (Ref m ∷ Ref n ∷ v ∷ vs) = tt
    thrown_itself given.Nothing [] = tt
    thrown_itself given.Nothing (Int x ∷ vs) = tt
    thrown_itself given.Nothing (Long x ∷ vs) = tt
    thrown_itself given.Nothing (Ctx x ∷ vs) = tt
    thrown_itself given.Nothing (Ref n ∷ []) = told_itself n 0
    thrown_itself given.Nothing (Ref n ∷ v ∷ vs) = tt

    message_itself : (values : List Word) → Itself (throwables.message s values)
    unfolding throwables.message
    message_itself [] = tt
    message_itself (Int x ∷ vs) = tt
    message_itself (Long x ∷ vs) = tt
    message_itself (Ctx x ∷ vs) = tt
    message_itself (Ref n ∷ []) = each (λ m. gives s (Ref m ∷ [])) (λ m. (tt, refl)) (throwables.message_of (object_at s n))
    message_itself (Ref n ∷ v ∷ vs) = tt

    unit_itself : (o : Option ℕ) → Itself (Some (texts.unit_given s o))
    unit_itself None = (tt, refl)
    unit_itself (Some u) = (tt, refl)

    tested_itself : (b : Bool) → Itself (Some (tested s b))
    tested_itself true = (tt, refl)
    tested_itself false = (tt, refl)

    joined_itself : (other v : Word) → Itself (option_and_then (λ us. option_map (λ more. text_made s (us ++ more)) (texts.units s other)) (texts.units s v))
    joined_itself other v =
        then_each (λ us. option_map (λ more. text_made s (us ++ more)) (texts.units s other))
        (λ us. each (λ more. text_made s (us ++ more)) (λ more. (tt, refl)) (texts.units s other)) (texts.units s v)

    string_itself : (call : StringCall) (values : List Word) → Itself (texts.string s call values)
    unfolding texts.string
    string_itself strings.Length [] = tt
    string_itself strings.Length (v ∷ []) = each (λ us. gives s (Int (pos (length us)) ∷ [])) (λ us. (tt, refl)) (texts.units s v)
    string_itself strings.Length (v ∷ u ∷ vs) = tt
    string_itself strings.CharAt [] = tt
    string_itself strings.CharAt (Long x ∷ vs) = tt
    string_itself strings.CharAt (Ref x ∷ vs) = tt
    string_itself strings.CharAt (Ctx x ∷ vs) = tt
    string_itself strings.CharAt (Int i ∷ []) = tt
    string_itself strings.CharAt (Int i ∷ v ∷ []) = each (ProofNames.char_at s i) (λ us. unit_itself (option_and_then (slice_get us) (place i))) (texts.units s v)
    string_itself strings.CharAt (Int i ∷ v ∷ u ∷ vs) = tt
    string_itself strings.Equals [] = tt
    string_itself strings.Equals (other ∷ []) = tt
    string_itself strings.Equals (other ∷ v ∷ []) =
        each (λ us. tested s (texts.equals us (texts.units s other))) (λ us. tested_itself (texts.equals us (texts.units s other))) (texts.units s v)
    string_itself strings.Equals (other ∷ v ∷ u ∷ vs) = tt
    string_itself strings.Concat [] = tt
    string_itself strings.Concat (Int x ∷ []) = tt
    string_itself strings.Concat (Int x ∷ v ∷ []) = joined_itself (Int x) v
    string_itself strings.Concat (Int x ∷ v ∷ u ∷ vs) = tt
    string_itself strings.Concat (Long x ∷ []) = tt
    string_itself strings.Concat (Long x ∷ v ∷ []) = joined_itself (Long x) v
    string_itself strings.Concat (Long x ∷ v ∷ u ∷ vs) = tt
    string_itself strings.Concat (Ctx x ∷ []) = tt
    string_itself strings.Concat (Ctx x ∷ v ∷ []) = joined_itself (Ctx x) v
    string_itself strings.Concat (Ctx x ∷ v ∷ u ∷ vs) = tt
    string_itself strings.Concat (Ref zero ∷ []) = tt
    string_itself strings.Concat (Ref zero ∷ v ∷ []) = (tt, refl)
    string_itself strings.Concat (Ref zero ∷ v ∷ u ∷ vs) = tt
    string_itself strings.Concat (Ref (suc n) ∷ []) = tt
    string_itself strings.Concat (Ref (suc n) ∷ v ∷ []) = joined_itself (Ref (suc n)) v
    string_itself strings.Concat (Ref (suc n) ∷ v ∷ u ∷ vs) = tt

    added_itself : (n : ℕ) (results : List Word) (o more : Option (List ℕ)) → Itself (option_and_then (λ us. option_map (texts.appended s n results us) more) o)
    added_itself n results o more = then_each (λ us. option_map (texts.appended s n results us) more) (λ us. each (texts.appended s n results us) (λ x. (tt, refl)) more) o

    first_itself : (n : ℕ) (o more : Option (List ℕ)) → Itself (option_and_then (λ us. option_map (texts.appended s n [] []) more) o)
    first_itself n o more = then_each (λ (us : List ℕ). option_map (texts.appended s n [] []) more) (λ us. each (texts.appended s n [] []) (λ x. (tt, refl)) more) o

    builder_itself : (call : BuilderCall) (values : List Word) → Itself (texts.builder s call values)
    unfolding texts.builder
    builder_itself builders.Init [] = tt
    builder_itself builders.Init (Int x ∷ vs) = tt
    builder_itself builders.Init (Long x ∷ vs) = tt
    builder_itself builders.Init (Ctx x ∷ vs) = tt
    builder_itself builders.Init (Ref n ∷ []) = each (λ us. gives (with_object s n (Builder [])) []) (λ us. (tt, refl)) (texts.built s n)
    builder_itself builders.Init (Ref n ∷ v ∷ vs) = tt
    builder_itself builders.InitText [] = tt
    builder_itself builders.InitText (Int y ∷ []) = tt
    builder_itself builders.InitText (Int y ∷ Int x ∷ vs) = tt
    builder_itself builders.InitText (Int y ∷ Long x ∷ vs) = tt
    builder_itself builders.InitText (Int y ∷ Ctx x ∷ vs) = tt
    builder_itself builders.InitText (Int y ∷ Ref n ∷ []) = first_itself n (texts.built s n) (texts.units s (Int y))
    builder_itself builders.InitText (Int y ∷ Ref n ∷ v ∷ vs) = tt
    builder_itself builders.InitText (Long y ∷ []) = tt
    builder_itself builders.InitText (Long y ∷ Int x ∷ vs) = tt
    builder_itself builders.InitText (Long y ∷ Long x ∷ vs) = tt
    builder_itself builders.InitText (Long y ∷ Ctx x ∷ vs) = tt
    builder_itself builders.InitText (Long y ∷ Ref n ∷ []) = first_itself n (texts.built s n) (texts.units s (Long y))
    builder_itself builders.InitText (Long y ∷ Ref n ∷ v ∷ vs) = tt
    builder_itself builders.InitText (Ctx y ∷ []) = tt
    builder_itself builders.InitText (Ctx y ∷ Int x ∷ vs) = tt
    builder_itself builders.InitText (Ctx y ∷ Long x ∷ vs) = tt
    builder_itself builders.InitText (Ctx y ∷ Ctx x ∷ vs) = tt
    builder_itself builders.InitText (Ctx y ∷ Ref n ∷ []) = first_itself n (texts.built s n) (texts.units s (Ctx y))
    builder_itself builders.InitText (Ctx y ∷ Ref n ∷ v ∷ vs) = tt
    builder_itself builders.InitText (Ref zero ∷ []) = tt
    builder_itself builders.InitText (Ref zero ∷ Int x ∷ vs) = tt
    builder_itself builders.InitText (Ref zero ∷ Long x ∷ vs) = tt
    builder_itself builders.InitText (Ref zero ∷ Ctx x ∷ vs) = tt
    builder_itself builders.InitText (Ref zero ∷ Ref n ∷ []) = (tt, refl)
    builder_itself builders.InitText (Ref zero ∷ Ref n ∷ v ∷ vs) = tt
    builder_itself builders.InitText (Ref (suc m) ∷ []) = tt
    builder_itself builders.InitText (Ref (suc m) ∷ Int x ∷ vs) = tt
    builder_itself builders.InitText (Ref (suc m) ∷ Long x ∷ vs) = tt
    builder_itself builders.InitText (Ref (suc m) ∷ Ctx x ∷ vs) = tt
    builder_itself builders.InitText (Ref (suc m) ∷ Ref n ∷ []) = first_itself n (texts.built s n) (texts.units s (Ref (suc m)))
    builder_itself builders.InitText (Ref (suc m) ∷ Ref n ∷ v ∷ vs) = tt
    builder_itself (builders.Append piece) [] = tt
    builder_itself (builders.Append piece) (v ∷ []) = tt
    builder_itself (builders.Append piece) (v ∷ Int x ∷ vs) = tt
    builder_itself (builders.Append piece) (v ∷ Long x ∷ vs) = tt
    builder_itself (builders.Append piece) (v ∷ Ctx x ∷ vs) = tt
    builder_itself (builders.Append piece) (v ∷ Ref n ∷ []) = added_itself n (Ref n ∷ []) (texts.built s n) (texts.printed s piece v)
    builder_itself (builders.Append piece) (v ∷ Ref n ∷ u ∷ vs) = tt
    builder_itself builders.ToString [] = tt
    builder_itself builders.ToString (Int x ∷ vs) = tt
    builder_itself builders.ToString (Long x ∷ vs) = tt
    builder_itself builders.ToString (Ctx x ∷ vs) = tt
    builder_itself builders.ToString (Ref n ∷ []) = each (text_made s) (λ us. (tt, refl)) (texts.built s n)
    builder_itself builders.ToString (Ref n ∷ v ∷ vs) = tt

    print_itself : (thread : ℕ) (piece : PrintedType) (values : List Word) → Itself (texts.print s thread piece values)
    unfolding texts.print
    print_itself thread piece [] = tt
    print_itself thread piece (v ∷ []) = tt
    print_itself thread piece (v ∷ stream ∷ []) = each (texts.line s thread) (λ us. (tt, refl)) (texts.printed s piece v)
    print_itself thread piece (v ∷ stream ∷ u ∷ vs) = tt

    print_end_itself : (thread : ℕ) (values : List Word) → Itself (texts.print_end s thread values)
    unfolding texts.print_end
    print_end_itself thread [] = tt
    print_end_itself thread (stream ∷ []) = (tt, refl)
    print_end_itself thread (stream ∷ u ∷ vs) = tt

    constructed_itself : (n : ℕ) (r : Result perms.Permission PermError) → Itself (permissions.constructed s n r)
    constructed_itself n (Ok p) = each (λ x. gives (with_object s n x) []) (λ x. (tt, refl)) (permissions.with_value p (object_at s n))
    constructed_itself n (Err e) = (tt, refl)

    permission_itself : (cwd : List ℕ) (call : PermissionInit) (values : List Word) → Itself (permissions.init s cwd call values)
    unfolding permissions.init
    permission_itself cwd call values =
        then_each (permissions.made_in s cwd call) (λ g. constructed_itself g.object (perm_made (permissions.class_of call) g.name g.actions cwd)) (permissions.given s values)

    -- ---- threads

    started_itself : (at : Site) (n : ℕ) (b : Bool)
        → Itself (Some (if b then raises (lib.Thrown thrown.IllegalThreadStateException) else free (Switches (table_after_start n at.table))))
    started_itself at n true = (tt, refl)
    started_itself at n false = (tt, refl)

    waiting_itself : (at : Site) (n : ℕ) (j : Joined) → Itself (Some (joined_by at s n j))
    waiting_itself at n AtOnce = (tt, refl)
    waiting_itself at n Waits = (tt, refl)

    pub thread_itself : (at : Site) (call : ThreadCall) (values : List Word) → Itself (thread at s call values)
    unfolding thread
    thread_itself at (threads.Init side) values = tt
    thread_itself at threads.Start [] = tt
    thread_itself at threads.Start (Int x ∷ vs) = tt
    thread_itself at threads.Start (Long x ∷ vs) = tt
    thread_itself at threads.Start (Ctx x ∷ vs) = tt
    thread_itself at threads.Start (Ref n ∷ []) = each (started at) (λ m. started_itself at m (is_started at.table m)) (number_in (object_at s n))
    thread_itself at threads.Start (Ref n ∷ v ∷ vs) = tt
    thread_itself at threads.Join [] = tt
    thread_itself at threads.Join (Int x ∷ vs) = tt
    thread_itself at threads.Join (Long x ∷ vs) = tt
    thread_itself at threads.Join (Ctx x ∷ vs) = tt
    thread_itself at threads.Join (Ref n ∷ []) = each (waiting at s) (λ m. waiting_itself at m (join_answer m at.table)) (number_in (object_at s n))
    thread_itself at threads.Join (Ref n ∷ v ∷ vs) = tt
    thread_itself at threads.Yield [] = (tt, refl)
    thread_itself at threads.Yield (v ∷ vs) = tt

    -- ---- all

    pub library_itself : (at : Site) (call : LibCall) (values : List Word) → Itself (library at s call values)
    unfolding library
    library_itself at calls.ObjectInit values = object_itself values
    library_itself at (calls.ThrownInit class how) values = thrown_itself how values
    library_itself at calls.AccessControlInit values = thrown_itself given.Message values
    library_itself at calls.GetMessage values = message_itself values
    library_itself at (calls.String call) values = string_itself call values
    library_itself at (calls.Builder call) values = builder_itself call values
    library_itself at calls.Out values = tt
    library_itself at calls.PrintEnd values = print_end_itself at.thread values
    library_itself at (calls.Print piece) values = print_itself at.thread piece values
    library_itself at (calls.Run side) values = tt
    library_itself at (calls.Thread call) values = tt
    library_itself at (calls.RunAction side) values = tt
    library_itself at (calls.Controller call) values = tt
    library_itself at calls.ContextCheck values = tt
    library_itself at (calls.PermissionInit call) values = permission_itself at.cwd call values
    library_itself at (calls.Rt call) values = tt

  -- an array's row is the same in another world of these classes
  pub array_led : (s : Store (List Item)) (w v : World) → SameClasses w v → (form : ArrayForm) (values : List Word)
      → Led to (arrays.array w s form values) (arrays.array v s form values)
  array_led s w v same form values =
      subst (λ (o : Rows). Led to (arrays.array w s form values) o) (sym (array_same {E = Noted} w v same s form values)) (array_itself s w form values)
