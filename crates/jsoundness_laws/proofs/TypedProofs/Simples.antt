-- Rows of instructions that compute give what the table of effects says.
use Rattle.std.proofs.Common.{◌≡◌, Bool, true, false, ◌&&◌, List, [], ◌∷◌, Option, Some, None, is_some, option_map, Result, Ok, Err, refl, sym, ap, subst, ◌∙◌}
use Rattle.std.specs.Bool.{⊤}
use Rattle.std.specs.Prelude.{option_and_then, option_to_list}
use Rattle.jvalues.specs.declared.jnames.kinds.Kind.{Kind}
use Rattle.jvalues.specs.declared.jnames.kinds.Kind.TheVariants as kinds
use Rattle.jvalues.specs.declared.jnames.kinds.Kinds.{Kinds}
use Rattle.jvalues.specs.declared.jnames.kinds.Kinds.TheVariants as many
use Rattle.jvalues.specs.declared.jnames.kinds.Effect.{Effect}
use Rattle.jvalues.specs.declared.jnames.names.OpTwo.{OpTwo}
use Rattle.jvalues.specs.declared.jnames.names.OpTwo.TheVariants as twos
use Rattle.jvalues.specs.declared.jnames.names.OpOne.{OpOne}
use Rattle.jvalues.specs.declared.jnames.names.OpOne.TheVariants as ones
use Rattle.jvalues.specs.declared.jnames.names.Division.{Division}
use Rattle.jvalues.specs.declared.jnames.names.Division.TheVariants as divisions
use Rattle.jvalues.specs.jnames.Effects.{two_effect, one_effect, division_effect}
use Rattle.jvalues.specs.declared.jops.value.Value.{Value}
use Rattle.jvalues.specs.declared.jops.value.Value.TheVariants.{Int, Long, Ref}
use Rattle.jvalues.specs.declared.jops.value.DivideByZero.{DivideByZero}
use Rattle.jvalues.specs.jops.ValueKinds as values
use Rattle.jvalues.specs.jops.ValueKinds.{are_of, is_given}
use Rattle.jvalues.specs.jops.Operations.{two, one, divide}
use Rattle.jvalues.proofs.JopsProofs.OperationKinds.{two_there, two_gives, one_there, one_gives, division_there, division_gives}
use Rattle.jparts.specs.declared.jcode.op_form.Simple.{Simple}
use Rattle.jparts.specs.declared.jcode.op_form.Simple.TheVariants as simples
use Rattle.jparts.specs.jcode.InstructionForms.{listed, simple_effect}
use Rattle.jtypes.specs.declared.vtype.VType.{VType}
use Rattle.jtypes.specs.declared.vtype.VType.TheVariants as types
use Rattle.jresolution.specs.juses.IndexedInstructions.{Instruction, goes_on}
use Rattle.jtyping.specs.jrule.StackEffects.{Of, by_effect, of_kinds, typed}
use Rattle.jtyping.specs.jrule.InstructionContext.{Here}
use Rattle.jsemantics.specs.jmachine.MachineStates.{Row, gives}
use Rattle.jsemantics.specs.jmachine.Store.{Store}
use Rattle.jsemantics.specs.jmachine.BasicInstructions.{gives_one, quotient, simple}
use Rattle.jsemantics.specs.jmachine.World.{World}
use Rattle.jsoundness_laws.specs.typed.TypedFrames.{AllHave, News}
use Rattle.jsoundness_laws.specs.typed.TypedValues.{AllServe, Serves}
use Rattle.jsoundness_laws.specs.typed.TypedStores.{IsStored}
use Rattle.jsoundness_laws.proofs.TypedProofs.StoreMonotonicity.{grows_itself}
use Rattle.jsoundness_laws.specs.typed.TypedActions.{GivesOf}
use Rattle.jsoundness_laws.proofs.TypedProofs.ValueKinds.{int_is, int_value, long_is, long_value}
use Rattle.jsoundness_laws.proofs.TypedProofs.TakenOperands.{ArePlain}

-- ---- the table: numbers are taken and given

abbrev IsNumber : Kind → Type 0
IsNumber kinds.Int = ⊤
IsNumber kinds.Long = ⊤
IsNumber k = ⊥

pub record IsOne (e : Effect) : Type 0 where
  pub a : Kind
  pub g : Kind
  pub takes : e.takes ≡ many.One a
  pub gives : e.gives ≡ Some g
  pub numbers : IsNumber a × IsNumber g

pub record IsTwo (e : Effect) : Type 0 where
  pub b : Kind
  pub a : Kind
  pub g : Kind
  pub takes : e.takes ≡ many.Two b a
  pub gives : e.gives ≡ Some g
  pub numbers : IsNumber b × IsNumber a × IsNumber g

ints_two : IsTwo (record { takes = many.Two kinds.Int kinds.Int; gives = Some kinds.Int })
ints_two = record { b = kinds.Int; a = kinds.Int; g = kinds.Int; takes = refl; gives = refl; numbers = (tt, tt, tt) }

longs_two : IsTwo (record { takes = many.Two kinds.Long kinds.Long; gives = Some kinds.Long })
longs_two = record { b = kinds.Long; a = kinds.Long; g = kinds.Long; takes = refl; gives = refl; numbers = (tt, tt, tt) }

shift_two : IsTwo (record { takes = many.Two kinds.Int kinds.Long; gives = Some kinds.Long })
shift_two = record { b = kinds.Int; a = kinds.Long; g = kinds.Long; takes = refl; gives = refl; numbers = (tt, tt, tt) }

two_is : (op : OpTwo) → IsTwo (two_effect op)
two_is twos.Iadd = ints_two
two_is twos.Isub = ints_two
two_is twos.Imul = ints_two
two_is twos.Ishl = ints_two
two_is twos.Ishr = ints_two
two_is twos.Iushr = ints_two
two_is twos.Iand = ints_two
two_is twos.Ior = ints_two
two_is twos.Ixor = ints_two
two_is twos.Ladd = longs_two
two_is twos.Lsub = longs_two
two_is twos.Lmul = longs_two
two_is twos.Land = longs_two
two_is twos.Lor = longs_two
two_is twos.Lxor = longs_two
two_is twos.Lshl = shift_two
two_is twos.Lshr = shift_two
two_is twos.Lushr = shift_two
two_is twos.Lcmp = record { b = kinds.Long; a = kinds.Long; g = kinds.Int; takes = refl; gives = refl; numbers = (tt, tt, tt) }

division_is : (op : Division) → IsTwo (division_effect op)
division_is divisions.Idiv = ints_two
division_is divisions.Irem = ints_two
division_is divisions.Ldiv = longs_two
division_is divisions.Lrem = longs_two

one_is : (op : OpOne) → IsOne (one_effect op)
one_is ones.Ineg = record { a = kinds.Int; g = kinds.Int; takes = refl; gives = refl; numbers = (tt, tt) }
one_is ones.Lneg = record { a = kinds.Long; g = kinds.Long; takes = refl; gives = refl; numbers = (tt, tt) }
one_is ones.I2l = record { a = kinds.Int; g = kinds.Long; takes = refl; gives = refl; numbers = (tt, tt) }
one_is ones.L2i = record { a = kinds.Long; g = kinds.Int; takes = refl; gives = refl; numbers = (tt, tt) }
one_is ones.I2b = record { a = kinds.Int; g = kinds.Int; takes = refl; gives = refl; numbers = (tt, tt) }
one_is ones.I2c = record { a = kinds.Int; g = kinds.Int; takes = refl; gives = refl; numbers = (tt, tt) }
one_is ones.I2s = record { a = kinds.Int; g = kinds.Int; takes = refl; gives = refl; numbers = (tt, tt) }

number_plain : (k : Kind) → IsNumber k → ArePlain (k ∷ [])
number_plain kinds.Int h = (tt, tt)
number_plain kinds.Long h = (tt, tt)
number_plain _ h = absurd h

two_plain : (e : Effect) → IsTwo e → ArePlain (listed e.takes)
two_plain e x = subst (λ ks. ArePlain (listed ks)) (sym x.takes) ((number_plain x.b x.numbers.0).0, number_plain x.a x.numbers.1)

one_plain : (e : Effect) → IsOne e → ArePlain (listed e.takes)
one_plain e x = subst (λ ks. ArePlain (listed ks)) (sym x.takes) (number_plain x.a x.numbers.0)

-- what they take are kinds of what computes
pub simple_plain : (form : Simple) → ArePlain (listed (simple_effect form).takes)
simple_plain simples.Nothing = tt
simple_plain simples.Null = tt
simple_plain (simples.Int n) = tt
simple_plain (simples.Long n) = tt
simple_plain (simples.Two op) = two_plain (two_effect op) (two_is op)
simple_plain (simples.Divide op) = two_plain (division_effect op) (division_is op)
simple_plain (simples.One op) = one_plain (one_effect op) (one_is op)

-- ---- rows

module _ {K : Type 0} (w : World) (s : Store K) (here : Here) (news : News) where
  -- a value of a number's kind
  value_kind : (k : Kind) → IsNumber k → (v : Value K) → Serves w s (Of k) v → values.is_of k v ≡ true
  value_kind kinds.Int h v x = ap (values.is_of kinds.Int) (int_value w s v x).1
  value_kind kinds.Long h v x = ap (values.is_of kinds.Long) (long_value w s v x).1
  value_kind _ h v x = absurd h

  -- a value that is given is of the type that is pushed
  given_is : (k : Kind) → IsNumber k → (v : Value K) → values.is_of k v ≡ true → AllHave w s here news (option_to_list (option_and_then typed (Some k))) (v ∷ [])
  given_is kinds.Int h v e = (int_is w s v e, tt)
  given_is kinds.Long h v e = (long_is w s v e, tt)
  given_is _ h v e = absurd h

  -- ---- how many are taken

  abbrev Pair : Kinds → List (Value K) → Type 0
  Pair ks given = (v : Value K) × (u : Value K) × (given ≡ v ∷ u ∷ []) × (are_of ks (v ∷ u ∷ []) ≡ true)

  and_true : (a b : Bool) → a ≡ true → b ≡ true → a && b ≡ true
  and_true true b x y = y
  and_true false b x y = absurd (cc)

  pair_of : (b a : Kind) → IsNumber b → IsNumber a → (given : List (Value K)) → AllServe w s (Of b ∷ Of a ∷ []) given → Pair (many.Two b a) given
  pair_of b a hb ha (v ∷ u ∷ []) h = (v, u, refl, and_true (values.is_of a u) (values.is_of b v) (value_kind a ha u h.1.0) (value_kind b hb v h.0))
  pair_of b a hb ha [] h = absurd h
  pair_of b a hb ha (v ∷ []) h = absurd h.1
  pair_of b a hb ha (v ∷ u ∷ x ∷ more) h = absurd h.1.1

  two_taken : (e : Effect) → IsTwo e → (given : List (Value K)) → AllServe w s (of_kinds e.takes) given → Pair e.takes given
  two_taken e x given h = subst (λ ks. Pair ks given) (sym x.takes) (pair_of x.b x.a x.numbers.0 x.numbers.1 given (subst (λ ks. AllServe w s (of_kinds ks) given) x.takes h))

  abbrev Single : Kinds → List (Value K) → Type 0
  Single ks given = (v : Value K) × (given ≡ v ∷ []) × (are_of ks (v ∷ []) ≡ true)

  single_of : (a : Kind) → IsNumber a → (given : List (Value K)) → AllServe w s (Of a ∷ []) given → Single (many.One a) given
  single_of a ha (v ∷ []) h = (v, refl, value_kind a ha v h.0)
  single_of a ha [] h = absurd h
  single_of a ha (v ∷ u ∷ more) h = absurd h.1

  one_taken : (e : Effect) → IsOne e → (given : List (Value K)) → AllServe w s (of_kinds e.takes) given → Single e.takes given
  one_taken e x given h = subst (λ ks. Single ks given) (sym x.takes) (single_of x.a x.numbers.0 given (subst (λ ks. AllServe w s (of_kinds ks) given) x.takes h))

  -- ---- what is given

  given_by : (e : Effect) (g : Kind) → e.gives ≡ Some g → IsNumber g → (v : Value K) → is_given e.gives v ≡ true → AllHave w s here news (option_to_list (by_effect e).gives) (v ∷ [])
  given_by e g is number v h =
      subst (λ o. AllHave w s here news (option_to_list (option_and_then typed o)) (v ∷ [])) (sym is) (given_is g number v (sym (ap (λ o. is_given o v) is) ∙ h))

module _ {K E : Type 0} (w : World) (s : Store K) (statics : List VType) (here : Here) (news : News) (i : Instruction) where
  -- There is a row, and it gives what is said.
  pub record HasRow (gives : Option VType) (found : Option (Row K E)) : Type 0 where
    pub row : Row K E
    pub is : found ≡ Some row
    pub act : GivesOf {K = K} {E = E} w s statics here news i gives row.act

-- of instructions behind which another may follow
module _ {K E : Type 0} (w : World) (s : Store K) (statics : List VType) (stored : IsStored w s statics) (i : Instruction) (on : goes_on i ≡ true)
    (here : Here) (news : News) where
  abbrev Gives : Effect → Option (Row K E) → Type 0
  Gives e found = HasRow {K = K} {E = E} w s statics here news i (by_effect e).gives found

  some_row : (e : Effect) (found : Option (Value K)) → is_some found ≡ true → ((v : Value K) → found ≡ Some v → AllHave w s here news (option_to_list (by_effect e).gives) (v ∷ []))
      → Gives e (gives_one s found)
  some_row e None there given = absurd (cc)
  some_row e (Some v) there given = record { row = gives s (v ∷ []); is = refl; act = (on, grows_itself K w s, stored, given v refl) }

  some_quotient : (e : Effect) (found : Option (Result (Value K) DivideByZero)) → is_some found ≡ true
      → ((v : Value K) → found ≡ Some (Ok v) → AllHave w s here news (option_to_list (by_effect e).gives) (v ∷ [])) → Gives e (option_map (quotient s) found)
  some_quotient e None there given = absurd (cc)
  some_quotient e (Some (Ok v)) there given = record { row = gives s (v ∷ []); is = refl; act = (on, grows_itself K w s, stored, given v refl) }
  some_quotient e (Some (Err fault)) there given = record { row = quotient s (Err fault); is = refl; act = tt }

  -- ---- all

  pub simple_row : (form : Simple) (given : List (Value K)) → AllServe w s (of_kinds (simple_effect form).takes) given → Gives (simple_effect form) (simple s form given)
  unfolding simple
  simple_row simples.Nothing [] h = record { row = gives s []; is = refl; act = (on, grows_itself K w s, stored, tt) }
  simple_row simples.Null [] h = record { row = gives s (Ref 0 ∷ []); is = refl; act = (on, grows_itself K w s, stored, (record { type = types.Null; is = refl; met = refl }, tt)) }
  simple_row (simples.Int n) [] h = record { row = gives s (Int n ∷ []); is = refl; act = (on, grows_itself K w s, stored, (record { type = types.Int; is = refl; met = refl }, tt)) }
  simple_row (simples.Long n) [] h = record { row = gives s (Long n ∷ []); is = refl; act = (on, grows_itself K w s, stored, (record { type = types.Long; is = refl; met = refl }, tt)) }
  simple_row (simples.Two op) given h =
      let t = two_is op in
      let p = two_taken w s here news (two_effect op) t given h in
      let row : Gives (two_effect op) (gives_one s (two op p.1 p.0)) = some_row (two_effect op) (two op p.1 p.0) (two_there K op p.1 p.0 ∙ p.3)
      (λ v e. given_by w s here news (two_effect op) t.g t.gives t.numbers.2 v (two_gives K op p.1 p.0 v e)) in
      subst (λ given. Gives (two_effect op) (simple s (simples.Two op) given)) (sym p.2) row
  simple_row (simples.Divide op) given h =
      let t = division_is op in
      let p = two_taken w s here news (division_effect op) t given h in
      let row : Gives (division_effect op) (option_map (quotient s) (divide op p.1 p.0)) = some_quotient (division_effect op) (divide op p.1 p.0) (division_there K op p.1 p.0 ∙ p.3)
      (λ v e. given_by w s here news (division_effect op) t.g t.gives t.numbers.2 v (division_gives K op p.1 p.0 v e)) in
      subst (λ given. Gives (division_effect op) (simple s (simples.Divide op) given)) (sym p.2) row
  simple_row (simples.One op) given h =
      let t = one_is op in
      let p = one_taken w s here news (one_effect op) t given h in
      let row : Gives (one_effect op) (gives_one s (one op p.0)) = some_row (one_effect op) (one op p.0) (one_there K op p.0 ∙ p.2)
      (λ v e. given_by w s here news (one_effect op) t.g t.gives t.numbers.1 v (one_gives K op p.0 v e)) in
      subst (λ given. Gives (one_effect op) (simple s (simples.One op) given)) (sym p.1) row
  simple_row simples.Nothing (v ∷ given) h = absurd h
  simple_row simples.Null (v ∷ given) h = absurd h
  simple_row (simples.Int n) (v ∷ given) h = absurd h
  simple_row (simples.Long n) (v ∷ given) h = absurd h
