-- What the rule does to a frame it does to one whose `new`s went elsewhere.
use Rattle.std.proofs.Common.{◌≡◌, ℕ, zero, suc, ◌+◌, Bool, true, false, List, [], ◌∷◌, ◌++◌, length, map, drop, Option, Some, None, nat_le, refl, sym, ap, ◌∙◌}
use Rattle.std.specs.Prelude.{◌&&◌, ◌||◌, IfSome, option_map, option_and_then, slice_get, slice_set, if◌then◌else◌}
use Rattle.std.specs.List.{list_any}
use Rattle.std.specs.Option.{option_to_list}
use Rattle.std.proofs.lemmas.List.{length-map, map-append, map-set}
use Rattle.std.proofs.lemmas.Option.{slice_get-map}
use Rattle.jvalues.specs.declared.jnames.kinds.Kind.{Kind}
use Rattle.jvalues.specs.declared.jnames.kinds.Kind.TheVariants as kinds
use Rattle.jvalues.specs.declared.jnames.names.Shuffle.{Shuffle}
use Rattle.jparts.specs.declared.jcode.names.Access.TheVariants.{Load, Store}
use Rattle.jparts.specs.declared.jcode.names.Element as items
use Rattle.jparts.specs.declared.jcode.names.Element.TheVariants as item
use Rattle.jparts.specs.declared.jcode.names.FieldOp.{FieldOp}
use Rattle.jparts.specs.declared.jcode.names.FieldOp.TheVariants as fields
use Rattle.jparts.specs.declared.jcode.names.CastOp.{CastOp}
use Rattle.jparts.specs.declared.jcode.names.CastOp.TheVariants as casts
use Rattle.jparts.specs.declared.jcode.names.Returned.{Returned}
use Rattle.jparts.specs.declared.jcode.names.Returned.TheVariants as results
use Rattle.jparts.specs.declared.jcode.op_form.OpForm.TheVariants as forms
use Rattle.jparts.specs.declared.jcode.op_form.ArrayForm.{ArrayForm}
use Rattle.jparts.specs.declared.jcode.op_form.ArrayForm.TheVariants as arrays
use Rattle.jparts.specs.declared.jcode.op_form.Flow.{Flow}
use Rattle.jparts.specs.declared.jcode.op_form.Flow.TheVariants as flows
use Rattle.jparts.specs.declared.jcode.op_form.LocalForm.{LocalForm}
use Rattle.jparts.specs.declared.jcode.op_form.LocalForm.TheVariants.{Move, Increment}
use Rattle.jparts.specs.jcode.InstructionForms as codes_of
use Rattle.jparts.specs.jcode.InstructionForms.{array_effect, compared, listed, simple_effect}
use Rattle.jvalues.specs.jops.Shuffles as shuffles
use Rattle.jvalues.specs.jops.Shuffles.{One, Two, shuffle}
use Rattle.jtypes.specs.declared.vtype.Name.{Name}
use Rattle.jtypes.specs.declared.vtype.VType.{VType}
use Rattle.jtypes.specs.declared.vtype.VType.TheVariants.{Top, Int, Long, Null, UninitThis, Uninit, Object, Array, Ctx}
use Rattle.jtypes.specs.Assignability.{fits}
use Rattle.jtypes.specs.TypeFrames.{Frame, is_long, places, slots, within}
use Rattle.jtypes.specs.ClassTrees.{Tree}
use Rattle.jresolution.specs.declared.jprogram.member.Member.{Member}
use Rattle.jresolution.specs.jprogram.ProgramClasses.{Program, tree}
use Rattle.jresolution.specs.declared.juses.meaning.InvokeKind.{InvokeKind}
use Rattle.jresolution.specs.declared.juses.meaning.InvokeKind.TheVariants as how
use Rattle.jresolution.specs.juses.InstructionMeanings as meanings
use Rattle.jresolution.specs.juses.InstructionMeanings.{CallMeaning, FieldMeaning, Meaning, Pushed, array_meant, meant}
use Rattle.jtyping.specs.declared.jrule.unready.Unready.{Unready}
use Rattle.jtyping.specs.declared.jrule.unready.Unready.TheVariants as unready
use Rattle.jtyping.specs.jrule.ArrayRule as array
use Rattle.jtyping.specs.jrule.ArrayRule.{component, loaded, loaded_on, operands}
use Rattle.jtyping.specs.ProofNames.{wanted, moved, shuffled, init_of, replaced, of_cast}
use Rattle.jtyping.specs.jrule.StackEffects.{Exchange, Fits, Holds, Of, OrThis, Want, by_effect, gives, is_int, is_of, is_ref, meets, of_kinds, typed}
use Rattle.jtyping.specs.jrule.FormRules.{by_form, by_meaning}
use Rattle.jtyping.specs.jrule.InstructionContext.{Here}
use Rattle.jtyping.specs.jrule.LocalRule as locals
use Rattle.jtyping.specs.ProofNames
use Rattle.jtyping.specs.jrule.LocalRule.{broken, is_top, is_whole, passes, with_local, with_second}
use Rattle.jtyping.specs.jrule.StackMoveRule as moves
use Rattle.jtyping.specs.jrule.StackMoveRule.{move}
use Rattle.jtyping.specs.jrule.ObjectRule as objects
use Rattle.jtyping.specs.jrule.ObjectRule.{all_replaced, init_on, is_it, is_named, may_ready_this, readied}
use Rattle.jtyping.specs.jrule.StackOperands.{below, exchanged, given, pushed, taken, with_room, with_stack}
use Rattle.jtyping.specs.jrule.TypingRule.{by_table, is_own}
use Rattle.jtyping.specs.jrule.BasicRule as straight
use Rattle.jtyping.specs.jrule.PoolEffects.{arguments, constant, exchange, of_field, receiver, throwable, written}
use Rattle.jtyping.proofs.JruleProofs.MoveNaturality.{naturally, of_item, of_move}
use Rattle.jmoved_laws.specs.types.RenamedPlaces.{GoesAlong, IsApart, Renames, gone, renamed, renamed_type}
use Rattle.jmoved_laws.proofs.TypesProofs.InitializedTypes.{AreSettled, MaySettle, Settled, SettledCall, SettledMeaning, array_meant_settled, brackets_settled, first_settled, meant_settled, rest_settled}

-- ---- what is wanted and given

abbrev SettledWant : Want → Type 0
SettledWant (Of k) = Unit {0}
SettledWant (Fits b) = Settled b
SettledWant (Holds e) = Unit {0}
SettledWant (OrThis c this) = Unit {0}

abbrev AllSettled : List Want → Type 0
AllSettled [] = Unit {0}
AllSettled (w ∷ ws) = SettledWant w × AllSettled ws

record SettledExchange (e : Exchange) : Type 0 where
  takes : AllSettled e.takes
  gives : MaySettle e.gives

kinds_settled : (ks : List Kind) → AllSettled (map Of ks)
kinds_settled [] = tt
kinds_settled (k ∷ ks) = (tt, kinds_settled ks)

given_kind : (k : Kind) → MaySettle (typed k)
given_kind kinds.Int = refl
given_kind kinds.Long = refl
given_kind kinds.Null = refl
given_kind kinds.Ref = tt
given_kind kinds.Array = tt
given_kind kinds.Held = tt

given_settled : (k : Option Kind) → MaySettle (option_and_then typed k)
given_settled None = tt
given_settled (Some k) = given_kind k

wanted_settled : (e : items.Element) (k : Kind) → SettledWant (wanted e k)
wanted_settled e kinds.Int = tt
wanted_settled e kinds.Long = tt
wanted_settled e kinds.Null = tt
wanted_settled e kinds.Ref = tt
wanted_settled e kinds.Array = tt
wanted_settled e kinds.Held = tt

operands_settled : (e : items.Element) (ks : List Kind) → AllSettled (map (wanted e) ks)
operands_settled e [] = tt
operands_settled e (k ∷ ks) = (wanted_settled e k, operands_settled e ks)

arguments_settled : (ts : List VType) → AreSettled ts → AllSettled (map Fits ts)
arguments_settled [] h = tt
arguments_settled (t ∷ ts) h = (first_settled t ts h, arguments_settled ts (rest_settled t ts h))

both_settled : (ws vs : List Want) → AllSettled ws → AllSettled vs → AllSettled (ws ++ vs)
both_settled [] vs h k = k
both_settled (w ∷ ws) vs h k = (h.0, both_settled ws vs h.1 k)

receiver_settled : (this owner : Name) (by : InvokeKind) → AllSettled (receiver this by owner)
receiver_settled this owner how.Virtual = (refl, tt)
receiver_settled this owner how.Special = (refl, tt)
receiver_settled this owner how.Static = tt
receiver_settled this owner how.Interface = (refl, tt)
receiver_settled this owner how.Init = tt

written_settled : (own : Bool) (this owner : Name) → SettledWant (written own this owner)
written_settled true this owner = tt
written_settled false this owner = refl

constant_settled : (c : Pushed) → Settled (constant c)
constant_settled (meanings.Int n) = refl
constant_settled (meanings.Long n) = refl
constant_settled (meanings.Text t) = refl

field_settled : (own : Member → Bool) (this : Name) (op : FieldOp) (f : FieldMeaning) → Settled f.held → SettledExchange (of_field own this op f)
field_settled own this fields.GetStatic f h = record { takes = tt; gives = h }
field_settled own this fields.PutStatic f h = record { takes = (h, tt); gives = tt }
field_settled own this fields.GetField f h = record { takes = (refl, tt); gives = h }
field_settled own this fields.PutField f h = record { takes = (h, (written_settled (own f.member) this f.owner, tt)); gives = tt }

cast_settled : (op : CastOp) (t : VType) → Settled t → SettledExchange (of_cast op t)
cast_settled casts.CheckCast t h = record { takes = (tt, tt); gives = h }
cast_settled casts.InstanceOf t h = record { takes = (tt, tt); gives = refl }

exchange_settled : (own : Member → Bool) (this : Name) (m : Meaning) → SettledMeaning m → SettledExchange (exchange own this m)
unfolding exchange
exchange_settled own this (meanings.Push c) h = record { takes = tt; gives = constant_settled c }
exchange_settled own this (meanings.Field op f) h = field_settled own this op f h
exchange_settled own this (meanings.Call by c) h =
    record { takes = both_settled (arguments c) (receiver this by c.owner) (arguments_settled c.params h.0) (receiver_settled this c.owner by); gives = h.1 }
exchange_settled own this (meanings.Make c) h = record { takes = tt; gives = tt }
exchange_settled own this (meanings.MakeArray t) h = record { takes = (tt, tt); gives = h }
exchange_settled own this (meanings.Cast op t) h = cast_settled op t h

-- ---- frames

module _ (to : ℕ → ℕ) where
  abbrev r : VType → VType
  r = renamed_type to

  abbrev all : List VType → List VType
  all = map (renamed_type to)

  -- a step to frames, and one that does the same to frames whose `new`s went elsewhere
  abbrev Turns : (Frame → Option Frame) → (Frame → Option Frame) → Type 0
  Turns g h = (f : Frame) → h (renamed to f) ≡ option_map (renamed to) (g f)

  then_turned : (g h u v : Frame → Option Frame) → Turns g h → Turns u v → Turns (λ f. option_and_then u (g f)) (λ f. option_and_then v (h f))
  then_turned g h u v first second f = ap (option_and_then v) (first f) ∙ go (g f)
    where
      go : (o : Option Frame) → option_and_then v (option_map (renamed to) o) ≡ option_map (renamed to) (option_and_then u o)
      go None = refl
      go (Some x) = second x

  if_turned : (b : Bool) (x y : Frame) → x ≡ renamed to y → (if b then Some x else None) ≡ option_map (renamed to) (if b then Some y else None)
  if_turned true x y e = ap Some e
  if_turned false x y e = refl

  -- ---- types

  pub same_settled : (a : VType) → Settled a → r a ≡ a
  same_settled (Uninit o) h = absurd cc
  same_settled Top h = refl
  same_settled Int h = refl
  same_settled Long h = refl
  same_settled Null h = refl
  same_settled UninitThis h = refl
  same_settled (Object c) h = refl
  same_settled (Array a) h = refl
  same_settled Ctx h = refl

  -- what doesn't ask for the place of a `new`
  by_kind : {B : Type 0} (g : VType → B) → ((o n : ℕ) → g (Uninit o) ≡ g (Uninit n)) → (a : VType) → g (r a) ≡ g a
  by_kind g h (Uninit o) = h (to o) o
  by_kind g h Top = refl
  by_kind g h Int = refl
  by_kind g h Long = refl
  by_kind g h Null = refl
  by_kind g h UninitThis = refl
  by_kind g h (Object c) = refl
  by_kind g h (Array a) = refl
  by_kind g h Ctx = refl

  pub long_same : (a : VType) → is_long (r a) ≡ is_long a
  long_same a = by_kind is_long (λ o n. refl) a

  top_same : (a : VType) → is_top (r a) ≡ is_top a
  top_same a = by_kind is_top (λ o n. refl) a

  kind_same : (k : Kind) (a : VType) → is_of k (r a) ≡ is_of k a
  kind_same k a = by_kind (is_of k) (on k) a
    where
      on : (k : Kind) (o n : ℕ) → is_of k (Uninit o) ≡ is_of k (Uninit n)
      on kinds.Int o n = refl
      on kinds.Long o n = refl
      on kinds.Null o n = refl
      on kinds.Ref o n = refl
      on kinds.Array o n = refl
      on kinds.Held o n = refl

  new_fits : (t : Tree) (b : VType) → Settled b → (o n : ℕ) → fits t (Uninit o) b ≡ fits t (Uninit n) b
  new_fits t (Uninit m) h o n = absurd cc
  new_fits t Top h o n = refl
  new_fits t Int h o n = refl
  new_fits t Long h o n = refl
  new_fits t Null h o n = refl
  new_fits t UninitThis h o n = refl
  new_fits t (Object c) h o n = refl
  new_fits t (Array a) h o n = refl
  new_fits t Ctx h o n = refl

  meets_same : (t : Tree) (w : Want) → SettledWant w → (a : VType) → meets t w (r a) ≡ meets t w a
  meets_same t (Of k) h a = kind_same k a
  meets_same t (Fits b) h a = by_kind (meets t (Fits b)) (new_fits t b h) a
  meets_same t (Holds e) h a = by_kind (meets t (Holds e)) (λ o n. refl) a
  meets_same t (OrThis c this) h a = by_kind (meets t (OrThis c this)) (λ o n. refl) a

  -- ---- the stack

  below_same : (t : Tree) (ws : List Want) → AllSettled ws → (stack : List VType) → below t ws (all stack) ≡ option_map (map (renamed_type to)) (below t ws stack)
  unfolding below
  below_same t [] h stack = refl
  below_same t (w ∷ ws) h [] = refl
  below_same t (w ∷ ws) h (a ∷ stack) =
      ap (λ (b : Bool). if b then below t ws (all stack) else None) (meets_same t w h.0 a) ∙ go (meets t w a) (below_same t ws h.1 stack)
    where
      go : (b : Bool) → below t ws (all stack) ≡ option_map (map (renamed_type to)) (below t ws stack) →
          (if b then below t ws (all stack) else None) ≡ option_map (map (renamed_type to)) (if b then below t ws stack else None)
      go true e = e
      go false e = refl

  taken_turned : (t : Tree) (ws : List Want) → AllSettled ws → Turns (taken t ws) (taken t ws)
  unfolding taken
  taken_turned t ws h f = ap (option_map (with_stack (renamed to f))) (below_same t ws h f.stack) ∙ go (below t ws f.stack)
    where
      go : (o : Option (List VType)) → option_map (with_stack (renamed to f)) (option_map (map (renamed_type to)) o) ≡ option_map (renamed to) (option_map (with_stack f) o)
      go None = refl
      go (Some x) = refl

  pub slots_same : (xs : List VType) → slots (all xs) ≡ slots xs
  unfolding slots
  slots_same [] = refl
  slots_same (a ∷ xs) =
      ap (λ (n : ℕ). n + slots (all xs)) (by_kind (λ (x : VType). length (places x)) (λ o n. refl) a) ∙ ap (λ (n : ℕ). length (places a) + n) (slots_same xs)

  room_turned : (most : ℕ) (f : Frame) (xs ys : List VType) → ys ≡ all xs → with_room most (renamed to f) ys ≡ option_map (renamed to) (with_room most f xs)
  room_turned most f xs ys e =
      ap (with_room most (renamed to f)) e
      ∙ ap (λ (n : ℕ). if nat_le n most then Some (with_stack (renamed to f) (all xs)) else None) (slots_same xs)
      ∙ if_turned (within most xs) (with_stack (renamed to f) (all xs)) (with_stack f xs) refl

  given_turned : (most : ℕ) (x : Option VType) → MaySettle x → Turns (given most x) (given most x)
  given_turned most None h f = refl
  given_turned most (Some a) h f = room_turned most f (a ∷ f.stack) (a ∷ all f.stack) (ap (λ (b : VType). b ∷ all f.stack) (sym (same_settled a h)))

  exchanged_turned : (t : Tree) (most : ℕ) (e : Exchange) → SettledExchange e → Turns (exchanged t most e) (exchanged t most e)
  exchanged_turned t most e h =
      then_turned (taken t e.takes) (taken t e.takes) (given most e.gives) (given most e.gives) (taken_turned t e.takes h.takes) (given_turned most e.gives h.gives)

  -- ---- moves of the stack

  items_same : (xs : List VType) → moves.items (all xs) ≡ map (of_item (renamed_type to)) (moves.items xs)
  unfolding moves.items
  items_same [] = refl
  items_same (a ∷ xs) =
      ap (λ (b : Bool). if b then [] else moves.item (r a) ∷ moves.items (all xs)) (top_same a)
      ∙ ap (λ (b : Bool). if is_top a then [] else (if b then Two (r a) else One (r a)) ∷ moves.items (all xs)) (long_same a)
      ∙ go (is_top a) (is_long a) (items_same xs)
    where
      go : (top long : Bool) → moves.items (all xs) ≡ map (of_item (renamed_type to)) (moves.items xs) →
          (if top then [] else (if long then Two (r a) else One (r a)) ∷ moves.items (all xs))
          ≡ map (of_item (renamed_type to)) (if top then [] else (if long then Two a else One a) ∷ moves.items xs)
      go true long e = refl
      go false true e = ap (λ is. Two (r a) ∷ is) e
      go false false e = ap (λ is. One (r a) ∷ is) e

  dropped : (n : ℕ) (xs : List VType) → drop n (all xs) ≡ all (drop n xs)
  dropped zero xs = refl
  dropped (suc n) [] = refl
  dropped (suc n) (x ∷ xs) = dropped n xs

  shuffled_same : (s : Shuffle) (xs : List VType) → shuffled s (all xs) ≡ option_map (map (renamed_type to)) (shuffled s xs)
  shuffled_same s xs =
      ap (option_map (moved (all xs))) (ap (shuffle s) (items_same xs) ∙ naturally (renamed_type to) s (moves.items xs)) ∙ go (shuffle s (moves.items xs))
    where
      go : (o : Option (shuffles.Move VType)) → option_map (moved (all xs)) (option_map (of_move (renamed_type to)) o) ≡ option_map (map (renamed_type to))
          (option_map (moved xs) o)
      go None = refl
      go (Some m) = ap Some (ap (λ (ys : List VType). all m.put ++ ys) (dropped m.taken xs) ∙ sym (map-append (renamed_type to) m.put (drop m.taken xs)))

  move_turned : (most : ℕ) (s : Shuffle) → Turns (move most s) (move most s)
  move_turned most s f = ap (option_and_then (with_room most (renamed to f))) (shuffled_same s f.stack) ∙ go (shuffled s f.stack)
    where
      go : (o : Option (List VType)) → option_and_then (with_room most (renamed to f)) (option_map (map (renamed_type to)) o) ≡ option_map (renamed to)
          (option_and_then (with_room most f) o)
      go None = refl
      go (Some xs) = room_turned most f xs (all xs) refl

  -- ---- locals

  got : (xs : List VType) (n : ℕ) → slice_get (all xs) n ≡ option_map (renamed_type to) (slice_get xs n)
  got xs n = slice_get-map (renamed_type to) xs n

  passes_same : (test : VType → Bool) → ((a : VType) → test (r a) ≡ test a) → (xs : List VType) (n : ℕ) → passes test (slice_get (all xs) n) ≡ passes test (slice_get xs n)
  passes_same test h xs n = ap (passes test) (got xs n) ∙ go (slice_get xs n)
    where
      go : (o : Option VType) → passes test (option_map (renamed_type to) o) ≡ passes test o
      go None = refl
      go (Some a) = h a

  whole_same : (xs : List VType) (n : ℕ) (a : VType) → is_whole (all xs) n (r a) ≡ is_whole xs n a
  whole_same xs n a =
      ap (λ (b : Bool). if b then passes is_top (slice_get (all xs) (n + 1)) else true) (long_same a)
      ∙ ap (λ (b : Bool). if is_long a then b else true) (passes_same is_top top_same xs (n + 1))

  load_turned : (most : ℕ) (k : Kind) (n : ℕ) → Turns (ProofNames.load most k n) (ProofNames.load most k n)
  load_turned most k n f = ap (locals.load_from most k n (renamed to f)) (got f.locals n) ∙ go (slice_get f.locals n)
    where
      on : (a : VType) (b : Bool) → (if b then pushed most (r a) (renamed to f) else None) ≡ option_map (renamed to) (if b then pushed most a f else None)
      on a true = room_turned most f (a ∷ f.stack) (r a ∷ all f.stack) refl
      on a false = refl

      go : (o : Option VType) → locals.load_from most k n (renamed to f) (option_map (renamed_type to) o) ≡ option_map (renamed to) (locals.load_from most k n f o)
      go None = refl
      go (Some a) =
          ap (λ (b : Bool). if b && is_whole (all f.locals) n (r a) then pushed most (r a) (renamed to f) else None) (kind_same k a)
          ∙ ap (λ (b : Bool). if is_of k a && b then pushed most (r a) (renamed to f) else None) (whole_same f.locals n a)
          ∙ on a (is_of k a && is_whole f.locals n a)

  set_same : (xs : List VType) (n : ℕ) (a : VType) → slice_set (all xs) n (r a) ≡ all (slice_set xs n a)
  set_same xs n a = sym (map-set (renamed_type to) xs n a)

  broken_same : (xs : List VType) (n : ℕ) → broken (all xs) n ≡ all (broken xs n)
  broken_same xs zero = refl
  broken_same xs (suc n) = ap (λ (b : Bool). if b then slice_set (all xs) n Top else all xs) (passes_same is_long long_same xs n) ∙ go (passes is_long (slice_get xs n))
    where
      go : (b : Bool) → (if b then slice_set (all xs) n Top else all xs) ≡ all (if b then slice_set xs n Top else xs)
      go true = set_same xs n Top
      go false = refl

  second_same : (a : VType) (n : ℕ) (xs : List VType) → with_second (r a) n (all xs) ≡ all (with_second a n xs)
  second_same a n xs = ap (λ (b : Bool). if b then slice_set (all xs) (n + 1) Top else all xs) (long_same a) ∙ go (is_long a)
    where
      go : (b : Bool) → (if b then slice_set (all xs) (n + 1) Top else all xs) ≡ all (if b then slice_set xs (n + 1) Top else xs)
      go true = set_same xs (n + 1) Top
      go false = refl

  local_same : (xs : List VType) (n : ℕ) (a : VType) → with_local (all xs) n (r a) ≡ all (with_local xs n a)
  unfolding with_local
  local_same xs n a =
      ap (λ (ys : List VType). with_second (r a) n (slice_set ys n (r a))) (broken_same xs n)
      ∙ ap (with_second (r a) n) (set_same (broken xs n) n a)
      ∙ second_same a n (slice_set (broken xs n) n a)

  store_turned : (k : Kind) (n : ℕ) → Turns (ProofNames.store k n) (ProofNames.store k n)
  store_turned k n f = on f.stack
    where
      put : VType → List VType → Frame
      put a stack = record { locals = with_local f.locals n a; stack = stack; flag = f.flag }

      on : (stack : List VType) → locals.store_on k n (renamed to f) (all stack) ≡ option_map (renamed to) (locals.store_on k n f stack)
      on [] = refl
      on (a ∷ stack) =
          let new : Frame = record { locals = with_local (all f.locals) n (r a); stack = all stack; flag = f.flag } in
          let old : Frame = record { locals = with_local f.locals n a; stack = stack; flag = f.flag } in
          ap (λ (b : Bool). if b && nat_le (n + length (places (r a))) (length (all f.locals)) then Some new else None) (kind_same k a)
          ∙ ap (λ (m : ℕ). if is_of k a && nat_le (n + m) (length (all f.locals)) then Some new else None) (by_kind (λ (x : VType). length (places x)) (λ o n. refl) a)
          ∙ ap (λ (m : ℕ). if is_of k a && nat_le (n + length (places a)) m then Some new else None) (length-map f.locals (renamed_type to))
          ∙ if_turned (is_of k a && nat_le (n + length (places a)) (length f.locals)) new old
          (ap (λ (ls : List VType). record { locals = ls; stack = all stack; flag = f.flag }) (local_same f.locals n a))

  increment_turned : (n : ℕ) → Turns (locals.increment n) (locals.increment n)
  increment_turned n f =
      ap (λ (b : Bool). if b then Some (renamed to f) else None) (passes_same is_int (λ a. by_kind is_int (λ o n. refl) a) f.locals n)
      ∙ if_turned (passes is_int (slice_get f.locals n)) (renamed to f) f refl

  local_turned : (most : ℕ) (form : LocalForm) → Turns (locals.local most form) (locals.local most form)
  local_turned most (Move Load kind n) = load_turned most (codes_of.local kind) n
  local_turned most (Move Store kind n) = store_turned (codes_of.local kind) n
  local_turned most (Increment n by) = increment_turned n

  -- ---- arrays

  loaded_same : (e : items.Element) (a : VType) → loaded e (r a) ≡ r (loaded e a)
  loaded_same item.Long a = refl
  loaded_same item.Int a = refl
  loaded_same item.Byte a = refl
  loaded_same item.Char a = refl
  loaded_same item.Short a = refl
  loaded_same item.Ref Null = refl
  loaded_same item.Ref (Array a) = sym (same_settled (component a) (brackets_settled _ a.element))
  loaded_same item.Ref Top = refl
  loaded_same item.Ref Int = refl
  loaded_same item.Ref Long = refl
  loaded_same item.Ref UninitThis = refl
  loaded_same item.Ref (Uninit o) = refl
  loaded_same item.Ref (Object c) = refl
  loaded_same item.Ref Ctx = refl

  loaded_on_same : (e : items.Element) (xs : List VType) → loaded_on e (all xs) ≡ r (loaded_on e xs)
  loaded_on_same e [] = refl
  loaded_on_same e (i ∷ []) = refl
  loaded_on_same e (i ∷ a ∷ xs) = loaded_same e a

  load_item_turned : (t : Tree) (most : ℕ) (e : items.Element) → Turns (array.load t most e) (array.load t most e)
  load_item_turned t most e f =
      ap (λ (a : VType). option_and_then (pushed most a) (taken t (operands e (arrays.Load e)) (renamed to f))) (loaded_on_same e f.stack)
      ∙ ap (option_and_then (pushed most (r (loaded_on e f.stack)))) (taken_turned t (operands e (arrays.Load e))
      (operands_settled e (listed (array_effect (arrays.Load e)).takes)) f)
      ∙ go (taken t (operands e (arrays.Load e)) f)
    where
      go : (o : Option Frame) → option_and_then (pushed most (r (loaded_on e f.stack))) (option_map (renamed to) o) ≡ option_map (renamed to)
          (option_and_then (pushed most (loaded_on e f.stack)) o)
      go None = refl
      go (Some g) = room_turned most g (loaded_on e f.stack ∷ g.stack) (r (loaded_on e f.stack) ∷ all g.stack) refl

  array_turned : (t : Tree) (most : ℕ) (form : ArrayForm) → Turns (array.array t most form) (array.array t most form)
  array_turned t most (arrays.New kind) f = exchanged_turned t most (gives (Of kinds.Int ∷ []) (array.row (array.of_numbers kind))) (record { takes = (tt, tt); gives = refl }) f
  array_turned t most (arrays.NewRef n) f = refl
  array_turned t most (arrays.Load e) f = load_item_turned t most e f
  array_turned t most (arrays.Store e) f = taken_turned t (operands e (arrays.Store e)) (operands_settled e (listed (array_effect (arrays.Store e)).takes)) f
  array_turned t most arrays.Length f =
      let e = array_effect arrays.Length in
      exchanged_turned t most (by_effect e) (record { takes = kinds_settled (listed e.takes); gives = given_settled e.gives }) f

  -- ---- flow

  ref_settled : (a : VType) → is_ref a ≡ true → Settled a
  ref_settled (Uninit o) h = absurd cc
  ref_settled UninitThis h = absurd cc
  ref_settled Top h = refl
  ref_settled Int h = refl
  ref_settled Long h = refl
  ref_settled Null h = refl
  ref_settled (Object c) h = refl
  ref_settled (Array a) h = refl
  ref_settled Ctx h = refl

  returned_settled : (kind : Returned) (ret : Option VType) → straight.returns kind ret ≡ true → AllSettled (map Fits (option_to_list ret))
  returned_settled kind None h = tt
  returned_settled results.Int (Some Int) h = (refl, tt)
  returned_settled results.Int (Some Top) h = (refl, tt)
  returned_settled results.Int (Some Long) h = (refl, tt)
  returned_settled results.Int (Some Null) h = (refl, tt)
  returned_settled results.Int (Some (Object c)) h = (refl, tt)
  returned_settled results.Int (Some (Array a)) h = (refl, tt)
  returned_settled results.Int (Some Ctx) h = (refl, tt)
  returned_settled results.Int (Some UninitThis) h = absurd cc
  returned_settled results.Int (Some (Uninit o)) h = absurd cc
  returned_settled results.Long (Some Int) h = (refl, tt)
  returned_settled results.Long (Some Top) h = (refl, tt)
  returned_settled results.Long (Some Long) h = (refl, tt)
  returned_settled results.Long (Some Null) h = (refl, tt)
  returned_settled results.Long (Some (Object c)) h = (refl, tt)
  returned_settled results.Long (Some (Array a)) h = (refl, tt)
  returned_settled results.Long (Some Ctx) h = (refl, tt)
  returned_settled results.Long (Some UninitThis) h = absurd cc
  returned_settled results.Long (Some (Uninit o)) h = absurd cc
  returned_settled results.Ref (Some a) h = (ref_settled a h, tt)
  returned_settled results.Nothing (Some a) h = absurd cc

  leave_turned : (t : Tree) (is_init : Bool) (ret : Option VType) (kind : Returned) → Turns (straight.leave t is_init ret kind) (straight.leave t is_init ret kind)
  leave_turned t is_init ret kind f = go (straight.returns kind ret) refl (straight.may_leave is_init kind f.flag)
    where
      go : (b : Bool) → straight.returns kind ret ≡ b → (c : Bool) →
          (if b && c then taken t (map Fits (option_to_list ret)) (renamed to f) else None) ≡ option_map (renamed to)
          (if b && c then taken t (map Fits (option_to_list ret)) f else None)
      go false e c = refl
      go true e false = refl
      go true e true = taken_turned t (map Fits (option_to_list ret)) (returned_settled kind ret e) f

  flow_turned : {S : Type 0} (t : Tree) (is_init : Bool) (ret : Option VType) (form : Flow S) → Turns (straight.flow t is_init ret form) (straight.flow t is_init ret form)
  flow_turned t is_init ret (flows.If test by) = taken_turned t (Of kinds.Int ∷ []) (tt, tt)
  flow_turned t is_init ret (flows.IfInt test by) = taken_turned t (Of kinds.Int ∷ Of kinds.Int ∷ []) (tt, (tt, tt))
  flow_turned t is_init ret (flows.IfRef test by) = taken_turned t (of_kinds (compared test)) (kinds_settled (listed (compared test)))
  flow_turned t is_init ret (flows.Goto by) = taken_turned t [] tt
  flow_turned t is_init ret (flows.Switch s) = taken_turned t (Of kinds.Int ∷ []) (tt, tt)
  flow_turned t is_init ret (flows.Return kind) = leave_turned t is_init ret kind
  flow_turned t is_init ret flows.Throw = taken_turned t (Fits throwable ∷ []) (refl, tt)

  -- ---- objects

  -- what stands for an object, and for it where its `new` went
  abbrev Same : Unready → Unready → Type 0
  Same it that = (a : VType) → is_it that (r a) ≡ is_it it a

  this_same : Same unready.This unready.This
  this_same a = by_kind (is_it unready.This) (λ o n. refl) a

  new_same : (at : ℕ) → IsApart to at → Same (unready.New at) (unready.New (to at))
  new_same at h (Uninit o) = h o
  new_same at h Top = refl
  new_same at h Int = refl
  new_same at h Long = refl
  new_same at h Null = refl
  new_same at h UninitThis = refl
  new_same at h (Object c) = refl
  new_same at h (Array a) = refl
  new_same at h Ctx = refl

  replaced_same : (it that : Unready) → Same it that → (new : VType) → Settled new → (a : VType) → replaced that new (r a) ≡ r (replaced it new a)
  replaced_same it that h new s a = ap (λ (b : Bool). if b then new else r a) (h a) ∙ go (is_it it a)
    where
      go : (b : Bool) → (if b then new else r a) ≡ r (if b then new else a)
      go true = sym (same_settled new s)
      go false = refl

  all_replaced_same : (it that : Unready) → Same it that → (new : VType) → Settled new → (xs : List VType) → all_replaced that new (all xs) ≡ all (all_replaced it new xs)
  all_replaced_same it that h new s [] = refl
  all_replaced_same it that h new s (a ∷ xs) =
      ap (λ (x : VType). x ∷ all_replaced that new (all xs)) (replaced_same it that h new s a)
      ∙ ap (λ (ys : List VType). r (replaced it new a) ∷ ys) (all_replaced_same it that h new s xs)

  any_same : (it that : Unready) → Same it that → (xs : List VType) → list_any (is_it that) (all xs) ≡ list_any (is_it it) xs
  any_same it that h [] = refl
  any_same it that h (a ∷ xs) =
      ap (λ (b : Bool). b || list_any (is_it that) (all xs)) (h a) ∙ ap (λ (b : Bool). is_it it a || b) (any_same it that h xs)

  make_turned : (most at : ℕ) → IsApart to at → Turns (objects.make most at) (objects.make most (to at))
  make_turned most at h f =
      let cleared : Frame = record { locals = all_replaced (unready.New at) Top f.locals; stack = f.stack; flag = f.flag } in
      ap (λ (b : Bool). if b then None else pushed most (Uninit (to at)) (record {
        locals = all_replaced (unready.New (to at)) Top (all f.locals);
        stack = all f.stack;
        flag = f.flag;
      }))
      (any_same (unready.New at) (unready.New (to at)) (new_same at h) f.stack)
      ∙ ap (λ (ls : List VType). if list_any (is_it (unready.New at)) f.stack then None else pushed most (Uninit (to at))
      (record { locals = ls; stack = all f.stack; flag = f.flag }))
      (all_replaced_same (unready.New at) (unready.New (to at)) (new_same at h) Top refl f.locals)
      ∙ go (list_any (is_it (unready.New at)) f.stack) cleared
    where
      go : (b : Bool) (g : Frame) → (if b then None else pushed most (Uninit (to at)) (renamed to g)) ≡ option_map (renamed to) (if b then None else pushed most (Uninit at) g)
      go true g = refl
      go false g = room_turned most g (Uninit at ∷ g.stack) (Uninit (to at) ∷ all g.stack) refl

  readied_same : (it that : Unready) → Same it that → (class : Name) (flag : Bool) (ls stack : List VType)
      → readied that class flag (all ls) (all stack) ≡ renamed to (readied it class flag ls stack)
  readied_same it that h class flag ls stack =
      ap (λ (xs : List VType). record { locals = xs; stack = all_replaced that (Object class) (all stack); flag = flag }) (all_replaced_same it that h (Object class) refl ls)
      ∙ ap (λ (xs : List VType). record { locals = all (all_replaced it (Object class) ls); stack = xs; flag = flag }) (all_replaced_same it that h (Object class) refl stack)

  module _ (makes : ℕ → Option Name) (here : Here) (names : Renames to here.makes makes) (apart : IsApart to here.at) where
    abbrev there : Here
    there = gone to makes here

    init_of_turned : (owner : Name) → Turns (init_of here owner) (init_of there owner)
    init_of_turned owner f = on f.stack
      where
        of_new : (o : ℕ) (stack : List VType) (made : Option Name) → here.makes o ≡ made →
            (if is_named owner made then Some (readied (unready.New (to o)) owner f.flag (all f.locals) (all stack)) else None)
            ≡ option_map (renamed to) (if is_named owner made then Some (readied (unready.New o) owner f.flag f.locals stack) else None)
        of_new o stack None e = refl
        of_new o stack (Some c) e =
            if_turned (is_named owner (Some c)) (readied (unready.New (to o)) owner f.flag (all f.locals) (all stack)) (readied (unready.New o) owner f.flag f.locals stack)
            (readied_same (unready.New o) (unready.New (to o)) (new_same o (names.apart o c e)) owner f.flag f.locals stack)

        on : (stack : List VType) → init_on there owner (renamed to f) (all stack) ≡ option_map (renamed to) (init_on here owner f stack)
        on [] = refl
        on (Uninit o ∷ stack) =
            ap (λ (made : Option Name). if is_named owner made then Some (readied (unready.New (to o)) owner f.flag (all f.locals) (all stack)) else None) (names.stays o)
            ∙ of_new o stack (here.makes o) refl
        on (UninitThis ∷ stack) =
            if_turned (may_ready_this here owner) (readied unready.This here.class false (all f.locals) (all stack)) (readied unready.This here.class false f.locals stack)
            (readied_same unready.This unready.This this_same here.class false f.locals stack)
        on (Top ∷ stack) = refl
        on (Int ∷ stack) = refl
        on (Long ∷ stack) = refl
        on (Null ∷ stack) = refl
        on (Object c ∷ stack) = refl
        on (Array a ∷ stack) = refl
        on (Ctx ∷ stack) = refl

    init_turned : (t : Tree) (c : CallMeaning) → SettledCall c → Turns (objects.init t here c) (objects.init t there c)
    init_turned t c h =
        then_turned (λ f. option_and_then (init_of here c.owner) (taken t (arguments c) f)) (λ f. option_and_then (init_of there c.owner) (taken t (arguments c) f))
        (given here.max_stack c.ret) (given here.max_stack c.ret)
        (then_turned (taken t (arguments c)) (taken t (arguments c)) (init_of here c.owner) (init_of there c.owner)
        (taken_turned t (arguments c) (arguments_settled c.params h.0)) (init_of_turned c.owner))
        (given_turned here.max_stack c.ret h.1)

    -- ---- by what the pool means

    module _ (p : Program) where
      table_turned : (m : Meaning) → SettledMeaning m → Turns (by_table p here m) (by_table p there m)
      table_turned m h = exchanged_turned (tree p) here.max_stack (exchange (is_own p here.is_init here.class) here.class m)
          (exchange_settled (is_own p here.is_init here.class) here.class m h)

      meaning_turned : (m : Option Meaning) → IfSome m SettledMeaning → Turns (by_meaning p here m) (by_meaning p there m)
      meaning_turned None h f = refl
      meaning_turned (Some (meanings.Push x)) h f = table_turned (meanings.Push x) h f
      meaning_turned (Some (meanings.Field op one)) h f = table_turned (meanings.Field op one) h f
      meaning_turned (Some (meanings.Call how.Virtual c)) h f = table_turned (meanings.Call how.Virtual c) h f
      meaning_turned (Some (meanings.Call how.Special c)) h f = table_turned (meanings.Call how.Special c) h f
      meaning_turned (Some (meanings.Call how.Static c)) h f = table_turned (meanings.Call how.Static c) h f
      meaning_turned (Some (meanings.Call how.Interface c)) h f = table_turned (meanings.Call how.Interface c) h f
      meaning_turned (Some (meanings.Call how.Init c)) h f = init_turned (tree p) c h f
      meaning_turned (Some (meanings.Make c)) h f = make_turned here.max_stack here.at apart f
      meaning_turned (Some (meanings.MakeArray t)) h f = table_turned (meanings.MakeArray t) h f
      meaning_turned (Some (meanings.Cast op t)) h f = table_turned (meanings.Cast op t) h f

-- ---- all

pub goes_along : (S : Type 0) (p : Program) → GoesAlong S p
unfolding by_form
goes_along S p to makes here pool (forms.Simple form) f names apart =
    let e = simple_effect form in
    exchanged_turned to (tree p) here.max_stack (by_effect e) (record { takes = kinds_settled (listed e.takes); gives = given_settled e.gives }) f
goes_along S p to makes here pool (forms.Local form) f names apart = local_turned to here.max_stack form f
goes_along S p to makes here pool (forms.Stack form) f names apart = move_turned to here.max_stack form f
goes_along S p to makes here pool (forms.Flow form) f names apart = flow_turned to (tree p) here.is_init here.returns form f
goes_along S p to makes here pool (forms.Array (arrays.New kind)) f names apart = array_turned to (tree p) here.max_stack (arrays.New kind) f
goes_along S p to makes here pool (forms.Array (arrays.NewRef i)) f names apart = meaning_turned to makes here names apart p (array_meant p pool i) (array_meant_settled p pool i) f
goes_along S p to makes here pool (forms.Array (arrays.Load items)) f names apart = array_turned to (tree p) here.max_stack (arrays.Load items) f
goes_along S p to makes here pool (forms.Array (arrays.Store items)) f names apart = array_turned to (tree p) here.max_stack (arrays.Store items) f
goes_along S p to makes here pool (forms.Array arrays.Length) f names apart = array_turned to (tree p) here.max_stack arrays.Length f
goes_along S p to makes here pool (forms.Pool form) f names apart = meaning_turned to makes here names apart p (meant p pool form) (meant_settled p pool form) f
