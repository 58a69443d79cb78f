-- Values that are too few or too many for a call of the library: there is no row.
use Rattle.std.proofs.Common.{◌≡◌, ℕ, zero, suc, ℤ, List, [], ◌∷◌, Option, None, refl}
use Rattle.jvalues.specs.declared.jops.value.Value.{Value}
use Rattle.jvalues.specs.declared.jops.value.Value.TheVariants.{Ctx, Int, Long, Ref}
use Rattle.jlib.specs.declared.calls.BuilderCall.TheVariants as builders
use Rattle.jlib.specs.declared.calls.PrintedType.{PrintedType}
use Rattle.jlib.specs.declared.calls.StringCall.TheVariants as strings
use Rattle.jlib.specs.declared.calls.ThrownInit.TheVariants as given
use Rattle.jsemantics.specs.jmachine.MachineStates.{Row}
use Rattle.jsemantics.specs.ProofNames.{object_init}
use Rattle.jsemantics.specs.jmachine.Store.{Store}
use Rattle.jsemantics.specs.jmachine.TextCalls.{builder, print, print_end, string}
use Rattle.jsemantics.specs.jmachine.Throwables as throwables
use Rattle.jlibcalls.specs.jlibrary.CallOperands.{one_in, two_in}
use Rattle.jlibcalls.proofs.JlibraryProofs.Operands.{but_one, but_two}

-- what holds of each value
pub each_value : (Q : Value ℕ → Type 0) → ((x : ℤ) → Q (Int x)) → ((x : ℤ) → Q (Long x)) → Q (Ref zero) → ((n : ℕ) → Q (Ref (suc n))) → ((n : ℕ) → Q (Ctx n)) → (v : Value ℕ) → Q v
each_value Q ints longs null refs ctxs (Int x) = ints x
each_value Q ints longs null refs ctxs (Long x) = longs x
each_value Q ints longs null refs ctxs (Ref zero) = null
each_value Q ints longs null refs ctxs (Ref (suc n)) = refs n
each_value Q ints longs null refs ctxs (Ctx n) = ctxs n

module _ {E : Type 0} (s : Store ℕ) where
  abbrev None_of : (List (Value ℕ) → Option (Row ℕ E)) → List (Value ℕ) → Type 0
  None_of row values = row values ≡ None

  -- ---- one value

  pub no_object : (values : List (Value ℕ)) → None ≡ one_in values → object_init {E = E} s values ≡ None
  no_object = but_one (None_of (object_init s)) refl (λ v w rest. refl)

  pub no_length : (values : List (Value ℕ)) → None ≡ one_in values → string {E = E} s strings.Length values ≡ None
  unfolding string
  no_length = but_one (None_of (string s strings.Length)) refl (λ v w rest. refl)

  pub no_builder : (values : List (Value ℕ)) → None ≡ one_in values → builder {E = E} s builders.Init values ≡ None
  unfolding builder
  no_builder =
      but_one (None_of (builder s builders.Init)) refl
      (λ v w rest. each_value (λ x. None_of (builder s builders.Init) (x ∷ w ∷ rest)) (λ x. refl) (λ x. refl) refl (λ n. refl) (λ n. refl) v)

  pub no_built : (values : List (Value ℕ)) → None ≡ one_in values → builder {E = E} s builders.ToString values ≡ None
  unfolding builder
  no_built =
      but_one (None_of (builder s builders.ToString)) refl
      (λ v w rest. each_value (λ x. None_of (builder s builders.ToString) (x ∷ w ∷ rest)) (λ x. refl) (λ x. refl) refl (λ n. refl) (λ n. refl) v)

  pub no_untold : (values : List (Value ℕ)) → None ≡ one_in values → throwables.init {E = E} s given.Nothing values ≡ None
  unfolding throwables.init
  no_untold =
      but_one (None_of (throwables.init s given.Nothing)) refl
      (λ v w rest. each_value (λ x. None_of (throwables.init s given.Nothing) (x ∷ w ∷ rest)) (λ x. refl) (λ x. refl) refl (λ n. refl) (λ n. refl) v)

  pub no_message : (values : List (Value ℕ)) → None ≡ one_in values → throwables.message {E = E} s values ≡ None
  unfolding throwables.message
  no_message =
      but_one (None_of (throwables.message s)) refl
      (λ v w rest. each_value (λ x. None_of (throwables.message s) (x ∷ w ∷ rest)) (λ x. refl) (λ x. refl) refl (λ n. refl) (λ n. refl) v)

  pub no_line : (thread : ℕ) (values : List (Value ℕ)) → None ≡ one_in values → print_end {E = E} s thread values ≡ None
  unfolding print_end
  no_line thread = but_one (None_of (print_end s thread)) refl (λ v w rest. refl)

  -- ---- two values

  pub no_unit : (values : List (Value ℕ)) → None ≡ two_in values → string {E = E} s strings.CharAt values ≡ None
  unfolding string
  no_unit =
      but_two (None_of (string s strings.CharAt)) refl
      (λ v. each_value (λ x. None_of (string s strings.CharAt) (x ∷ [])) (λ x. refl) (λ x. refl) refl (λ n. refl) (λ n. refl) v)
      (λ x w v rest. each_value (λ y. None_of (string s strings.CharAt) (y ∷ w ∷ v ∷ rest)) (λ x. refl) (λ x. refl) refl (λ n. refl) (λ n. refl) x)

  pub no_equals : (values : List (Value ℕ)) → None ≡ two_in values → string {E = E} s strings.Equals values ≡ None
  unfolding string
  no_equals = but_two (None_of (string s strings.Equals)) refl (λ v. refl) (λ x w v rest. refl)

  pub no_concat : (values : List (Value ℕ)) → None ≡ two_in values → string {E = E} s strings.Concat values ≡ None
  unfolding string
  no_concat =
      but_two (None_of (string s strings.Concat)) refl
      (λ v. each_value (λ x. None_of (string s strings.Concat) (x ∷ [])) (λ x. refl) (λ x. refl) refl (λ n. refl) (λ n. refl) v)
      (λ x w v rest. each_value (λ y. None_of (string s strings.Concat) (y ∷ w ∷ v ∷ rest)) (λ x. refl) (λ x. refl) refl (λ n. refl) (λ n. refl) x)

  pub no_text : (values : List (Value ℕ)) → None ≡ two_in values → builder {E = E} s builders.InitText values ≡ None
  unfolding builder
  no_text =
      but_two (None_of (builder s builders.InitText)) refl
      (λ v. each_value (λ x. None_of (builder s builders.InitText) (x ∷ [])) (λ x. refl) (λ x. refl) refl (λ n. refl) (λ n. refl) v)
      (λ x w v rest. more v rest w x)
    where
      more : (v : Value ℕ) (rest : List (Value ℕ)) (w x : Value ℕ) → None_of (builder s builders.InitText) (x ∷ w ∷ v ∷ rest)
      more v rest =
          each_value (λ w. (x : Value ℕ) → None_of (builder s builders.InitText) (x ∷ w ∷ v ∷ rest))
          (λ y. each_value (λ x. None_of (builder s builders.InitText) (x ∷ Int y ∷ v ∷ rest)) (λ x. refl) (λ x. refl) refl (λ n. refl) (λ n. refl))
          (λ y. each_value (λ x. None_of (builder s builders.InitText) (x ∷ Long y ∷ v ∷ rest)) (λ x. refl) (λ x. refl) refl (λ n. refl) (λ n. refl))
          (each_value (λ x. None_of (builder s builders.InitText) (x ∷ Ref zero ∷ v ∷ rest)) (λ x. refl) (λ x. refl) refl (λ n. refl) (λ n. refl))
          (λ m. each_value (λ x. None_of (builder s builders.InitText) (x ∷ Ref (suc m) ∷ v ∷ rest)) (λ x. refl) (λ x. refl) refl (λ n. refl) (λ n. refl))
          (λ m. each_value (λ x. None_of (builder s builders.InitText) (x ∷ Ctx m ∷ v ∷ rest)) (λ x. refl) (λ x. refl) refl (λ n. refl) (λ n. refl))

  pub no_append : (piece : PrintedType) (values : List (Value ℕ)) → None ≡ two_in values → builder {E = E} s (builders.Append piece) values ≡ None
  unfolding builder
  no_append piece =
      but_two (None_of (builder s (builders.Append piece))) refl (λ v. refl)
      (λ x w v rest. each_value (λ y. None_of (builder s (builders.Append piece)) (x ∷ y ∷ v ∷ rest)) (λ x. refl) (λ x. refl) refl (λ n. refl) (λ n. refl) w)

  pub no_told : (values : List (Value ℕ)) → None ≡ two_in values → throwables.init {E = E} s given.Message values ≡ None
  unfolding throwables.init
  no_told =
      but_two (None_of (throwables.init s given.Message)) refl
      (λ v. each_value (λ x. None_of (throwables.init s given.Message) (x ∷ [])) (λ x. refl) (λ x. refl) refl (λ n. refl) (λ n. refl) v)
      (λ x w v rest. more v rest w x)
    where
      more : (v : Value ℕ) (rest : List (Value ℕ)) (w x : Value ℕ) → None_of (throwables.init s given.Message) (x ∷ w ∷ v ∷ rest)
      more v rest =
          each_value (λ w. (x : Value ℕ) → None_of (throwables.init s given.Message) (x ∷ w ∷ v ∷ rest))
          (λ y. each_value (λ x. None_of (throwables.init s given.Message) (x ∷ Int y ∷ v ∷ rest)) (λ x. refl) (λ x. refl) refl (λ n. refl) (λ n. refl))
          (λ y. each_value (λ x. None_of (throwables.init s given.Message) (x ∷ Long y ∷ v ∷ rest)) (λ x. refl) (λ x. refl) refl (λ n. refl) (λ n. refl))
          (each_value (λ x. None_of (throwables.init s given.Message) (x ∷ Ref zero ∷ v ∷ rest)) (λ x. refl) (λ x. refl) refl (λ n. refl) (λ n. refl))
          (λ m. each_value (λ x. None_of (throwables.init s given.Message) (x ∷ Ref (suc m) ∷ v ∷ rest)) (λ x. refl) (λ x. refl) refl (λ n. refl) (λ n. refl))
          (λ m. each_value (λ x. None_of (throwables.init s given.Message) (x ∷ Ctx m ∷ v ∷ rest)) (λ x. refl) (λ x. refl) refl (λ n. refl) (λ n. refl))

  pub no_print : (thread : ℕ) (piece : PrintedType) (values : List (Value ℕ)) → None ≡ two_in values → print {E = E} s thread piece values ≡ None
  unfolding print
  no_print thread piece = but_two (None_of (print s thread piece)) refl (λ v. refl) (λ x w v rest. refl)
