-- Rows of instructions with fields, from typed frames.
use Rattle.std.proofs.Common.{◌≡◌, ℕ, zero, suc, Bool, true, false, List, [], ◌∷◌, Option, Some, None, inl, inr, refl, sym, ap, subst, ◌∙◌}
use Rattle.std.specs.Prelude.{option_map}
use Rattle.std.specs.Str.{bytes_eq}
use Rattle.jparts.specs.declared.jcode.names.FieldOp.{FieldOp}
use Rattle.jparts.specs.declared.jcode.names.FieldOp.TheVariants as fields
use Rattle.jlib.specs.declared.classes.LibClass.TheVariants as lib
use Rattle.jvalues.specs.declared.jops.value.Value.{Value}
use Rattle.jvalues.specs.declared.jops.value.Value.TheVariants.{Ref}
use Rattle.jtypes.specs.declared.vtype.Name.{Name}
use Rattle.jtypes.specs.declared.vtype.VType.{VType}
use Rattle.jtypes.specs.declared.vtype.VType.TheVariants as types
use Rattle.jtypes.specs.TypeFrames.{Frame}
use Rattle.jresolution.specs.declared.jprogram.member.Member.{Member}
use Rattle.jresolution.specs.declared.jprogram.member.Member.TheVariants.{Field, LibField}
use Rattle.jresolution.specs.declared.jprogram.part.ClassRef.TheVariants as refs
use Rattle.jresolution.specs.jprogram.ProgramClasses.{Program, extends, find, holds, is_interface, name_at, tree}
use Rattle.jresolution.specs.jprogram.MemberResolution.{is_static, owner_of}
use Rattle.jresolution.specs.jprogram.OrderedPrograms.{StandsInOrder}
use Rattle.jresolution.proofs.JprogramProofs.SuperclassOrder.{extends_itself}
use Rattle.jresolution.proofs.JprogramProofs.NameReachability as settling
use Rattle.jlinking.specs.jlink.NamedFields.{is_plain}
use Rattle.jresolution.specs.juses.IndexedInstructions.{Used}
use Rattle.jresolution.specs.juses.InstructionMeanings as meanings
use Rattle.jresolution.specs.juses.InstructionMeanings.{FieldMeaning}
use Rattle.jtyping.specs.jrule.StackEffects.{Exchange, Fits, Want}
use Rattle.jtyping.specs.jrule.InstructionContext.{Here}
use Rattle.jtyping.specs.jrule.StackOperands.{exchanged}
use Rattle.jtyping.specs.jrule.TypingRule.{is_own}
use Rattle.jtyping.specs.jrule.PoolEffects.{of_field, of_library, written}
use Rattle.jsemantics.specs.jmachine.MachineStates.{FrameOf, Row, gives, null}
use Rattle.jsemantics.specs.jmachine.InstructionActions.{by_taken}
use Rattle.jsemantics.specs.jmachine.FieldInstructions.{field, get_from, get_static, out, put_static}
use Rattle.jsemantics.specs.jmachine.TakenOperands.{taken}
use Rattle.jsemantics.specs.jmachine.Security.{Rules}
use Rattle.jsemantics.specs.jmachine.InstructionSites.{Site}
use Rattle.jsemantics.specs.jmachine.Store.{Store, object_at, with_object}
use Rattle.jsemantics.specs.jmachine.World.{fits, world}
use Rattle.jsoundness_laws.specs.typed.TypedActions.{CanDo}
use Rattle.jsoundness_laws.specs.typed.RuntimeAssignability.{IsValueType}
use Rattle.jsoundness_laws.specs.typed.TypedFrames.{News, Suits}
use Rattle.jsoundness_laws.specs.typed.TypedStores.{IsStored}
use Rattle.jsoundness_laws.specs.typed.TypedUses.{HoldsAs, IsField, static_types}
use Rattle.jsoundness_laws.specs.typed.TypedValues.{AllServe, HasDimensions, IsA, Serves, whole_type}
use Rattle.jsoundness_laws.proofs.TypedProofs.OperandExchange.{exchange_leaves, taken_does}
use Rattle.jsoundness_laws.proofs.TypedProofs.FieldAccess.{field_put, field_read, name_is, object_there, owner_is, static_is, static_put, static_read}
use Rattle.jsoundness_laws.proofs.TypedProofs.SubtypeTransitivity.{InOrder, fits_itself, or_split}
use Rattle.jsoundness_laws.proofs.TypedProofs.StoreMonotonicity.{grows_itself}
use Rattle.jsoundness_laws.proofs.TypedProofs.TypedValues.{has_of}
use Rattle.jsoundness_laws.proofs.TypedProofs.ValueKinds.{ref_fits, ref_value}
use Rattle.jsoundness_laws.proofs.TypedProofs.Orders.{in_order}
use Rattle.jsoundness_laws.proofs.TypedProofs.Simples.{HasRow}
use Rattle.jsoundness_laws.proofs.TypedProofs.TakenOperands.{AreServed, IsServed}
use Rattle.jsoundness_laws.proofs.TypedProofs.WantedOperands.{IsValueWant, has_want}
use Rattle.jsoundness_laws.proofs.TypedProofs.FrameSubsumption.{both}

module _ {K : Type 0} (E : Type 0) (p : Program) (good : StandsInOrder p) (s : Store K) (stored : IsStored (world p) s (static_types p)) (here : Here) (news : News) (op : FieldOp) (f : FieldMeaning) where
  abbrev IsRow : Option VType → Option (Row K E) → Type 0
  IsRow gives found = HasRow {K = K} {E = E} (world p) s (static_types p) here news (Used (meanings.Field op f)) gives found

  given_row : (t : VType) → HasDimensions t → (v : Value K) → IsA (world p) s t v → IsRow (Some t) (Some (gives s (v ∷ [])))
  given_row t d v x = record { row = gives s (v ∷ []); is = refl; act = (refl, grows_itself K (world p) s, stored, (has_of (world p) s here news t v x d, tt)) }

  found_row : (t : VType) → HasDimensions t → (found : Option (Value K)) (v : Value K) → found ≡ Some v → IsA (world p) s t v → IsRow (Some t) (option_map (λ v. gives s (v ∷ [])) found)
  found_row t d found v is x = subst (λ o. IsRow (Some t) (option_map (λ v. gives s (v ∷ [])) o)) (sym is) (given_row t d v x)

  -- ---- statics

  out_is : IsA (world p) s (of_library lib.PrintStream) (Ref out)
  unfolding world
  out_is = record { type = of_library lib.PrintStream; is = ap (whole_type (world p) s) stored.out_is; met = fits_itself (tree p) (in_order p good) (of_library lib.PrintStream) tt }

  get_static_row : (m : Member) (t : VType) → HasDimensions t → is_static p m ≡ true → HoldsAs p m t → IsRow (Some t) (option_map (λ v. gives s (v ∷ [])) (get_static (world p) s m))
  get_static_row (Field i j) t d static h =
      let x = static_read p s stored i j h.0 h.1 h.2 (sym (static_is p i j h.0 h.1 h.2) ∙ static) in
      found_row t d (get_static (world p) s (Field i j)) x.0 x.1 (subst (λ t. IsA (world p) s t x.0) (sym h.3) x.2)
  get_static_row LibField t d static h = given_row t d (Ref out) (subst (λ t. IsA (world p) s t (Ref out)) (sym h) out_is)
  get_static_row _ t d static h = absurd h

  put_static_row : (m : Member) (t : VType) (v : Value K) → (m ≡ LibField → ⊥) → is_static p m ≡ true → HoldsAs p m t → IsA (world p) s t v
      → IsRow None (option_map (λ t. gives t []) (put_static (world p) s m v))
  put_static_row (Field i j) t v other static h x =
      let put = static_put p s stored i j h.0 h.1 h.2 (sym (static_is p i j h.0 h.1 h.2) ∙ static) v (subst (λ t. IsA (world p) s t v) h.3 x) in record {
        row = gives put.store [];
        is = ap (option_map (λ t. gives t [])) put.is;
        act = (refl, put.grows, put.typed, tt);
      }
  put_static_row LibField t v other static h x = absurd (other refl)
  put_static_row _ t v other static h x = absurd h

  -- ---- fields of objects

  abbrev Named : Name → ℕ → ℕ → Type 0
  Named d i j = (holds is_interface (find p d.0) ≡ false) × (extends p d.0 (name_at p (refs.User i)) ≡ true)

  get_row : (i j : ℕ) (t : VType) → HasDimensions t → is_static p (Field i j) ≡ false → HoldsAs p (Field i j) t → (d : Name) → Named d i j → (n : ℕ) → Serves (world p) s (Fits (types.Object d)) (Ref n)
      → IsRow (Some t) (field (world p) s fields.GetField (Field i j) (Ref n ∷ []))
  unfolding field
  get_row i j t dims static h d named zero x = record { row = null; is = refl; act = tt }
  get_row i j t dims static h d named (suc n) x =
      let instance = sym (static_is p i j h.0 h.1 h.2) ∙ static in
      let object = object_there p good s stored i j h.0 h.1 h.2 instance n d named.0 named.1 x.type x.is x.met in
      let read = field_read p good s stored i j h.0 h.1 h.2 instance n object in
      found_row t dims (get_from (world p) (Field i j) (object_at s (suc n))) read.0 read.1 (subst (λ t. IsA (world p) s t read.0) (sym h.3) read.2)

  put_row : (i j : ℕ) (t : VType) → is_static p (Field i j) ≡ false → HoldsAs p (Field i j) t → (v : Value K) → IsA (world p) s t v → (d : Name) → Named d i j → (n : ℕ)
      → Serves (world p) s (Fits (types.Object d)) (Ref n) → IsRow None (field (world p) s fields.PutField (Field i j) (v ∷ Ref n ∷ []))
  unfolding field
  put_row i j t static h v y d named zero x = record { row = null; is = refl; act = tt }
  put_row i j t static h v y d named (suc n) x =
      let instance = sym (static_is p i j h.0 h.1 h.2) ∙ static in
      let object = object_there p good s stored i j h.0 h.1 h.2 instance n d named.0 named.1 x.type x.is x.met in
      let put = field_put p good s stored i j h.0 h.1 h.2 instance n object v (subst (λ t. IsA (world p) s t v) h.3 y) in record {
        row = gives (with_object s (suc n) put.object) [];
        is = ap (option_map (λ x. gives (with_object s (suc n) x) [])) put.is;
        act = (refl, put.grows, put.typed, tt);
      }

  ref_of : (d : Name) (u : Value K) → Serves (world p) s (Fits (types.Object d)) u → (n : ℕ) × (u ≡ Ref n)
  ref_of d u x = ref_value (world p) s u (record { type = x.type; is = x.is; met = ref_fits (world p) d x.type x.met })

  get_any : (i j : ℕ) (t : VType) → HasDimensions t → is_static p (Field i j) ≡ false → HoldsAs p (Field i j) t → (d : Name) → Named d i j → (u : Value K) → Serves (world p) s (Fits (types.Object d)) u
      → IsRow (Some t) (field (world p) s fields.GetField (Field i j) (u ∷ []))
  get_any i j t dims static h d named u x =
      let n = ref_of d u x in
      subst (λ u. IsRow (Some t) (field (world p) s fields.GetField (Field i j) (u ∷ []))) (sym n.1)
      (get_row i j t dims static h d named n.0 (subst (λ u. Serves (world p) s (Fits (types.Object d)) u) n.1 x))

  put_any : (i j : ℕ) (t : VType) → is_static p (Field i j) ≡ false → HoldsAs p (Field i j) t → (v : Value K) → IsA (world p) s t v → (d : Name) → Named d i j → (u : Value K)
      → Serves (world p) s (Fits (types.Object d)) u → IsRow None (field (world p) s fields.PutField (Field i j) (v ∷ u ∷ []))
  put_any i j t static h v y d named u x =
      let n = ref_of d u x in
      subst (λ u. IsRow None (field (world p) s fields.PutField (Field i j) (v ∷ u ∷ []))) (sym n.1)
      (put_row i j t static h v y d named n.0 (subst (λ u. Serves (world p) s (Fits (types.Object d)) u) n.1 x))

  -- an object of the class by which the field is named, or of the class itself where that may write it
  abbrev this_owns : ℕ → ℕ → Bool
  this_owns i j = is_own p here.is_init here.class (Field i j)

  own_name : (i j : ℕ) (t : VType) → HoldsAs p (Field i j) t → this_owns i j ≡ true → name_at p (refs.User i) ≡ here.class.0
  own_name i j t h e =
      name_is p i j h.0 h.1 h.2 ∙ sym (owner_is p i j h.0 h.1 h.2)
      ∙ settling.name_is (owner_of p (Field i j)) here.class.0 (both here.is_init (bytes_eq (owner_of p (Field i j)) here.class.0) e).1

  this_named : (i j : ℕ) (t : VType) → HoldsAs p (Field i j) t → this_owns i j ≡ true → holds is_interface (find p (name_at p (refs.User i))) ≡ false → Named here.class i j
  this_named i j t h e face =
      let same = own_name i j t h e in (
        subst (λ (n : List ℕ). holds is_interface (find p n) ≡ false) same face,
        subst (λ (n : List ℕ). extends p n (name_at p (refs.User i)) ≡ true) same (extends_itself p (name_at p (refs.User i))),
      )

  put_or_this : (i j : ℕ) (t : VType) → is_static p (Field i j) ≡ false → HoldsAs p (Field i j) t → (v : Value K) → IsA (world p) s t v → Named f.owner i j
      → holds is_interface (find p (name_at p (refs.User i))) ≡ false → (b : Bool) → this_owns i j ≡ b → (u : Value K) → Serves (world p) s (written b here.class f.owner) u
      → IsRow None (field (world p) s fields.PutField (Field i j) (v ∷ u ∷ []))
  put_or_this i j t static h v y named face false e u x = put_any i j t static h v y f.owner named u x
  put_or_this i j t static h v y named face true e u x =
      elim (or_split (fits (world p) x.type (types.Object f.owner)) (fits (world p) x.type (types.Object here.class)) x.met) [
        | inl met ↦ put_any i j t static h v y f.owner named u (record { type = x.type; is = x.is; met = met })
        | inr met ↦ put_any i j t static h v y here.class (this_named i j t h e face) u (record { type = x.type; is = x.is; met = met })
      ]

-- ---- by the instruction

module _ {K : Type 0} (E : Type 0) (p : Program) (good : StandsInOrder p) (s : Store K) (stored : IsStored (world p) s (static_types p)) (here : Here) (news : News) where
  abbrev own : Member → Bool
  own = is_own p here.is_init here.class

  abbrev RowOf : FieldOp → FieldMeaning → Member → List (Value K) → Type 0
  RowOf op f m given = HasRow {K = K} {E = E} (world p) s (static_types p) here news (Used (meanings.Field op f)) (of_field own here.class op f).gives (field (world p) s op m given)

  no_static : is_static p LibField ≡ false → ⊥
  unfolding is_static
  no_static e = cc

  get_field_row : (f : FieldMeaning) → IsField p fields.GetField f → (m : Member) → f.member ≡ m → (u : Value K) → Serves (world p) s (Fits (types.Object f.owner)) u
      → RowOf fields.GetField f m (u ∷ [])
  get_field_row f x (Field i j) is u h =
      let static : is_static p (Field i j) ≡ false = subst (λ m. is_static p m ≡ false) is x.named.static in
      let here_static : is_static p f.member ≡ false = x.named.static in
      let held = subst (λ m. HoldsAs p m f.held) is x.held in
      get_any E p good s stored here news fields.GetField f i j f.held x.dimensions static held f.owner (x.named.class i j is here_static, x.named.owned i j is here_static) u h
  get_field_row f x LibField is u h = absurd (no_static (subst (λ m. is_static p m ≡ false) is x.named.static))
  get_field_row f x m is u h = absurd (subst (λ m. HoldsAs p m f.held) is x.held)

  put_field_row : (f : FieldMeaning) → IsField p fields.PutField f → (m : Member) → f.member ≡ m → (v u : Value K) → IsA (world p) s f.held v
      → Serves (world p) s (written (own f.member) here.class f.owner) u → RowOf fields.PutField f m (v ∷ u ∷ [])
  put_field_row f x (Field i j) is v u y h =
      let static : is_static p (Field i j) ≡ false = subst (λ m. is_static p m ≡ false) is x.named.static in
      let here_static : is_static p f.member ≡ false = x.named.static in
      let held = subst (λ m. HoldsAs p m f.held) is x.held in
      put_or_this E p good s stored here news fields.PutField f i j f.held static held v y (x.named.class i j is here_static, x.named.owned i j is here_static) (x.named.declares i j is here_static)
      (own f.member) (sym (ap own is)) u h
  put_field_row f x LibField is v u y h = absurd (no_static (subst (λ m. is_static p m ≡ false) is x.named.static))
  put_field_row f x m is v u y h = absurd (subst (λ m. HoldsAs p m f.held) is x.held)

  read_row : (f : FieldMeaning) → IsField p fields.GetStatic f → RowOf fields.GetStatic f f.member []
  unfolding field
  read_row f x = get_static_row E p good s stored here news fields.GetStatic f f.member f.held x.dimensions x.named.static x.held

  write_row : (f : FieldMeaning) → IsField p fields.PutStatic f → (v : Value K) → IsA (world p) s f.held v → RowOf fields.PutStatic f f.member (v ∷ [])
  unfolding field
  write_row f x v y = put_static_row E p good s stored here news fields.PutStatic f f.member f.held v (x.put refl) x.named.static x.held y

  pub field_row : (op : FieldOp) (f : FieldMeaning) → IsField p op f → (given : List (Value K)) → AllServe (world p) s (of_field own here.class op f).takes given → RowOf op f f.member given
  field_row fields.GetStatic f x [] h = read_row f x
  field_row fields.GetStatic f x (v ∷ more) h = absurd h
  field_row fields.PutStatic f x (v ∷ []) h = write_row f x v h.0
  field_row fields.PutStatic f x [] h = absurd h
  field_row fields.PutStatic f x (v ∷ u ∷ more) h = absurd h.1
  field_row fields.GetField f x (u ∷ []) h = get_field_row f x f.member refl u h.0
  field_row fields.GetField f x [] h = absurd h
  field_row fields.GetField f x (u ∷ v ∷ more) h = absurd h.1
  field_row fields.PutField f x (v ∷ u ∷ []) h = put_field_row f x f.member refl v u h.0 h.1.0
  field_row fields.PutField f x [] h = absurd h
  field_row fields.PutField f x (v ∷ []) h = absurd h.1
  field_row fields.PutField f x (v ∷ u ∷ z ∷ more) h = absurd h.1.1

-- ---- all

plain_value : (t : VType) → is_plain t ≡ true → IsValueType t
plain_value types.Int e = tt
plain_value types.Long e = tt
plain_value (types.Object c) e = tt
plain_value (types.Array a) e = tt
plain_value _ e = absurd (cc)

written_value : (b : Bool) (here : Here) (owner : Name) → IsValueWant here (written b here.class owner)
written_value true here owner = refl
written_value false here owner = tt

module _ {K E : Type 0} (r : Rules K E) (at : Site) (own_by : Member → Bool) (s : Store K) (entries : List E) (inherited : Option K) (p : Program) (good : StandsInOrder p)
    (same : at.world ≡ world p) (tree_is : tree p ≡ at.world.tree) (order : InOrder at.world.tree) (stored : IsStored at.world s (static_types p)) (here : Here) (news : News)
    (op : FieldOp) (f : FieldMeaning) (x : IsField p op f) (shape behind : Frame) (g : FrameOf K E) (suits : Suits at.world s here news shape g) where
  abbrev asked : Exchange
  asked = of_field (is_own p here.is_init here.class) here.class op f

  want_served : (want : Want) → IsValueWant here want → IsServed at.world s here news (tree p) want
  want_served want value = subst (λ t. IsServed at.world s here news t want) (sym tree_is) (λ a v x m. has_want at.world s order here news want a v value x m)

  wants_served : (op : FieldOp) → AreServed at.world s here news (tree p) (of_field (is_own p here.is_init here.class) here.class op f).takes
  wants_served fields.GetStatic = tt
  wants_served fields.PutStatic = (want_served (Fits f.held) (plain_value f.held x.named.plain), tt)
  wants_served fields.GetField = (want_served (Fits (types.Object f.owner)) tt, tt)
  wants_served fields.PutField = (
    want_served (Fits f.held) (plain_value f.held x.named.plain),
    (want_served (written (is_own p here.is_init here.class f.member) here.class f.owner) (written_value (is_own p here.is_init here.class f.member) here f.owner), tt),
  )

  rows : (given : List (Value K)) → AllServe at.world s asked.takes given
      → HasRow {K = K} {E = E} at.world s (static_types p) here news (Used (meanings.Field op f)) asked.gives (field at.world s op f.member given)
  rows given h = subst (λ w. HasRow {K = K} {E = E} w s (static_types p) here news (Used (meanings.Field op f)) asked.gives (field w s op f.member given)) (sym same)
      (field_row E p good s (subst (λ w. IsStored w s (static_types p)) same stored) here news op f x given (subst (λ w. AllServe w s asked.takes given) same h))

  pub field_does : (wants : List Want) → wants ≡ asked.takes → exchanged (tree p) here.max_stack asked shape ≡ Some behind
      → CanDo at.world s (static_types p) here (Used (meanings.Field op f)) behind (by_taken r at own_by s entries inherited g (taken at.world s wants g.operands) (field at.world s op f.member))
  field_does wants is h =
      subst (λ wants. CanDo at.world s (static_types p) here (Used (meanings.Field op f)) behind (by_taken r at own_by s entries inherited g (taken at.world s wants g.operands) (field at.world s op f.member))) (sym is)
      (taken_does r at own_by s entries inherited (static_types p) here news (Used (meanings.Field op f)) (tree p) asked.takes asked.gives (wants_served op) (field at.world s op f.member) rows
      shape behind g suits (exchange_leaves (tree p) here.max_stack asked shape behind h))
