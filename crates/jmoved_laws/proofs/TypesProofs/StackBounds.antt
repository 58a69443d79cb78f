-- The rule keeps the number of locals, and leaves no more on the stack than there is room for.
use Rattle.std.proofs.Common.{◌≡◌, ℕ, ◌+◌, ◌≤◌, Bool, true, false, List, [], ◌∷◌, length, map, Option, Some, None, nat_le, refl, sym, ap, subst, ◌∙◌, arith}
use Rattle.std.specs.Prelude.{◌&&◌, option_map, option_and_then, slice_get, slice_set, if◌then◌else◌}
use Rattle.std.specs.List.{list_any}
use Rattle.std.specs.Option.{option_to_list}
use Rattle.std.proofs.lemmas.Bool.{leb-true}
use Rattle.std.proofs.lemmas.Grind.{common_steps}
use Rattle.std.proofs.lemmas.List.{length-map}
use Rattle.jparts.specs.declared.jpool.entry.Entry.{Entry}
use Rattle.jvalues.specs.declared.jnames.kinds.Kind.{Kind}
use Rattle.jvalues.specs.declared.jnames.kinds.Kind.TheVariants as kinds
use Rattle.jvalues.specs.declared.jnames.names.Shuffle.{Shuffle}
use Rattle.jparts.specs.declared.jcode.names.Access.TheVariants.{Load, Store}
use Rattle.jparts.specs.declared.jcode.names.Element as items
use Rattle.jparts.specs.declared.jcode.names.Returned.{Returned}
use Rattle.jparts.specs.declared.jcode.op_form.OpForm.{OpForm}
use Rattle.jparts.specs.declared.jcode.op_form.OpForm.TheVariants as forms
use Rattle.jparts.specs.declared.jcode.op_form.ArrayForm.{ArrayForm}
use Rattle.jparts.specs.declared.jcode.op_form.ArrayForm.TheVariants as arrays
use Rattle.jparts.specs.declared.jcode.op_form.Flow.{Flow}
use Rattle.jparts.specs.declared.jcode.op_form.Flow.TheVariants as flows
use Rattle.jparts.specs.declared.jcode.op_form.LocalForm.{LocalForm}
use Rattle.jparts.specs.declared.jcode.op_form.LocalForm.TheVariants.{Move, Increment}
use Rattle.jparts.specs.jcode.InstructionForms as codes_of
use Rattle.jparts.specs.jcode.InstructionForms.{array_effect, compared, simple_effect}
use Rattle.jtypes.specs.declared.vtype.Name.{Name}
use Rattle.jtypes.specs.declared.vtype.VType.{VType}
use Rattle.jtypes.specs.declared.vtype.VType.TheVariants.{Top, Int, Long, Null, UninitThis, Uninit, Object, Array, Ctx}
use Rattle.jtypes.specs.TypeFrames.{Frame, is_long, places, slots, within}
use Rattle.jtypes.specs.ClassTrees.{Tree}
use Rattle.jresolution.specs.jprogram.ProgramClasses.{Program, tree}
use Rattle.jresolution.specs.declared.juses.meaning.InvokeKind.TheVariants as how
use Rattle.jresolution.specs.juses.InstructionMeanings as meanings
use Rattle.jresolution.specs.juses.InstructionMeanings.{CallMeaning, Meaning, array_meant, meant}
use Rattle.jtyping.specs.declared.jrule.unready.Unready.{Unready}
use Rattle.jtyping.specs.declared.jrule.unready.Unready.TheVariants as unready
use Rattle.jtyping.specs.jrule.ArrayRule as array
use Rattle.jtyping.specs.jrule.ArrayRule.{loaded_on, operands}
use Rattle.jtyping.specs.jrule.StackEffects.{Exchange, Fits, Of, Want, by_effect, gives, is_int, is_of, meets, of_kinds}
use Rattle.jtyping.specs.jrule.FormRules.{by_form, by_meaning}
use Rattle.jtyping.specs.jrule.InstructionContext.{Here}
use Rattle.jtyping.specs.jrule.LocalRule as locals
use Rattle.jtyping.specs.ProofNames
use Rattle.jtyping.specs.jrule.LocalRule.{broken, is_whole, passes, with_local, with_second}
use Rattle.jtyping.specs.jrule.StackMoveRule.{move}
use Rattle.jtyping.specs.ProofNames.{shuffled, init_of, replaced}
use Rattle.jtyping.specs.jrule.ObjectRule as objects
use Rattle.jtyping.specs.jrule.ObjectRule.{all_replaced, init_on, is_it, is_named, may_ready_this, readied}
use Rattle.jtyping.specs.jrule.StackOperands.{below, exchanged, given, pushed, taken, with_room, with_stack}
use Rattle.jtyping.specs.jrule.TypingRule.{by_table, is_own}
use Rattle.jtyping.specs.jrule.BasicRule as straight
use Rattle.jtyping.specs.jrule.PoolEffects.{arguments, exchange, throwable}
use Rattle.jtyping.proofs.JruleProofs.LocalWrites.{broken_length}

-- a frame has so many locals, and what it has on the stack takes no more places than there are
pub record HasRoom (long most : ℕ) (f : Frame) : Type 0 where
  pub locals : length f.locals ≡ long
  pub stack : slots f.stack ≤ most

module _ (long most : ℕ) where
  -- a step to frames keeps them so
  abbrev Keeps : (Frame → Option Frame) → Type 0
  Keeps g = (f k : Frame) → g f ≡ Some k → HasRoom long most f → HasRoom long most k

  some_is : (x y : Frame) → Some x ≡ Some y → x ≡ y
  some_is x y e = cc

  keeps_one : (x k : Frame) → Some x ≡ Some k → HasRoom long most x → HasRoom long most k
  keeps_one x k e h = subst (HasRoom long most) (some_is x k e) h

  if_keeps : (b : Bool) (x k : Frame) → (if b then Some x else None) ≡ Some k → HasRoom long most x → HasRoom long most k
  if_keeps true x k e h = keeps_one x k e h
  if_keeps false x k e h = absurd cc

  then_keeps : (g u : Frame → Option Frame) → Keeps g → Keeps u → Keeps (λ f. option_and_then u (g f))
  then_keeps g u first second f k e h = go (g f) refl e
    where
      go : (o : Option Frame) → g f ≡ o → option_and_then u o ≡ Some k → HasRoom long most k
      go None is to = absurd cc
      go (Some x) is to = second x k to (first f x is h)

  -- ---- the stack

  some_list : (xs ys : List VType) → Some xs ≡ Some ys → xs ≡ ys
  some_list xs ys e = cc

  below_less : (t : Tree) (ws : List Want) (xs ys : List VType) → below t ws xs ≡ Some ys → slots ys ≤ slots xs
  unfolding below slots
  below_less t [] xs ys e = let same = ap slots (some_list xs ys e) in omega arith
  below_less t (w ∷ ws) [] ys e = absurd cc
  below_less t (w ∷ ws) (a ∷ xs) ys e = go (meets t w a) e (below_less t ws xs ys)
    where
      go : (b : Bool) → (if b then below t ws xs else None) ≡ Some ys → (below t ws xs ≡ Some ys → slots ys ≤ slots xs) → slots ys ≤ length (places a) + slots xs
      go true h ih = let less = ih h in omega arith
      go false h ih = absurd cc

  taken_keeps : (t : Tree) (ws : List Want) → Keeps (taken t ws)
  unfolding taken
  taken_keeps t ws f k e h = go (below t ws f.stack) refl e
    where
      go : (o : Option (List VType)) → below t ws f.stack ≡ o → option_map (with_stack f) o ≡ Some k → HasRoom long most k
      go None is to = absurd cc
      go (Some xs) is to =
          let less = below_less t ws f.stack xs is in
          let few = h.stack in
          keeps_one (with_stack f xs) k to (record { locals = h.locals; stack = omega arith })

  room_keeps : (f k : Frame) (xs : List VType) → with_room most f xs ≡ Some k → length f.locals ≡ long → HasRoom long most k
  room_keeps f k xs e h = go (within most xs) refl e
    where
      go : (b : Bool) → within most xs ≡ b → (if b then Some (with_stack f xs) else None) ≡ Some k → HasRoom long most k
      go false is to = absurd cc
      go true is to = keeps_one (with_stack f xs) k to (record { locals = h; stack = leb-true (slots xs) most is })

  given_keeps : (x : Option VType) → Keeps (given most x)
  given_keeps None f k e h = keeps_one f k e h
  given_keeps (Some a) f k e h = room_keeps f k (a ∷ f.stack) e h.locals

  exchanged_keeps : (t : Tree) (e : Exchange) → Keeps (exchanged t most e)
  exchanged_keeps t e = then_keeps (taken t e.takes) (given most e.gives) (taken_keeps t e.takes) (given_keeps e.gives)

  move_keeps : (s : Shuffle) → Keeps (move most s)
  move_keeps s f k e h = go (shuffled s f.stack) e
    where
      go : (o : Option (List VType)) → option_and_then (with_room most f) o ≡ Some k → HasRoom long most k
      go None to = absurd cc
      go (Some xs) to = room_keeps f k xs to h.locals

  -- ---- locals

  load_keeps : (kind : Kind) (n : ℕ) → Keeps (ProofNames.load most kind n)
  load_keeps kind n f k e h = go (slice_get f.locals n) e
    where
      on : (a : VType) (b : Bool) → (if b then pushed most a f else None) ≡ Some k → HasRoom long most k
      on a true to = room_keeps f k (a ∷ f.stack) to h.locals
      on a false to = absurd cc

      go : (o : Option VType) → locals.load_from most kind n f o ≡ Some k → HasRoom long most k
      go None to = absurd cc
      go (Some a) to = on a (is_of kind a && is_whole f.locals n a) to

  set_length : (xs : List VType) (n : ℕ) (a : VType) → length (slice_set xs n a) ≡ length xs
  set_length xs n a = grind (arith, common_steps)

  second_length : (a : VType) (n : ℕ) (xs : List VType) → length (with_second a n xs) ≡ length xs
  second_length a n xs = go (is_long a)
    where
      go : (b : Bool) → length (if b then slice_set xs (n + 1) Top else xs) ≡ length xs
      go true = set_length xs (n + 1) Top
      go false = refl

  local_length : (xs : List VType) (n : ℕ) (a : VType) → length (with_local xs n a) ≡ length xs
  unfolding with_local
  local_length xs n a = second_length a n (slice_set (broken xs n) n a) ∙ set_length (broken xs n) n a ∙ broken_length xs n

  store_keeps : (kind : Kind) (n : ℕ) → Keeps (ProofNames.store kind n)
  unfolding slots
  store_keeps kind n f k e h = on f.stack e h.stack
    where
      on : (xs : List VType) → locals.store_on kind n f xs ≡ Some k → slots xs ≤ most → HasRoom long most k
      on [] to few = absurd cc
      on (a ∷ xs) to few =
          if_keeps (is_of kind a && nat_le (n + length (places a)) (length f.locals)) (record { locals = with_local f.locals n a; stack = xs; flag = f.flag }) k to
          (record { locals = local_length f.locals n a ∙ h.locals; stack = omega arith })

  local_keeps : (form : LocalForm) → Keeps (locals.local most form)
  local_keeps (Move Load kind n) f k e h = load_keeps (codes_of.local kind) n f k e h
  local_keeps (Move Store kind n) f k e h = store_keeps (codes_of.local kind) n f k e h
  local_keeps (Increment n by) f k e h = if_keeps (passes is_int (slice_get f.locals n)) f k e h

  -- ---- arrays

  load_item_keeps : (t : Tree) (e : items.Element) → Keeps (array.load t most e)
  load_item_keeps t e f k is h =
      then_keeps (taken t (operands e (arrays.Load e))) (pushed most (loaded_on e f.stack)) (taken_keeps t (operands e (arrays.Load e)))
      (given_keeps (Some (loaded_on e f.stack))) f k is h

  array_keeps : (t : Tree) (form : ArrayForm) → Keeps (array.array t most form)
  array_keeps t (arrays.New kind) f k e h = exchanged_keeps t (gives (Of kinds.Int ∷ []) (array.row (array.of_numbers kind))) f k e h
  array_keeps t (arrays.NewRef n) f k e h = absurd cc
  array_keeps t (arrays.Load e) f k is h = load_item_keeps t e f k is h
  array_keeps t (arrays.Store e) f k is h = taken_keeps t (operands e (arrays.Store e)) f k is h
  array_keeps t arrays.Length f k e h = exchanged_keeps t (by_effect (array_effect arrays.Length)) f k e h

  -- ---- flow

  leave_keeps : (t : Tree) (is_init : Bool) (ret : Option VType) (kind : Returned) → Keeps (straight.leave t is_init ret kind)
  leave_keeps t is_init ret kind f k e h = go (straight.returns kind ret && straight.may_leave is_init kind f.flag) e
    where
      go : (b : Bool) → (if b then taken t (map Fits (option_to_list ret)) f else None) ≡ Some k → HasRoom long most k
      go true to = taken_keeps t (map Fits (option_to_list ret)) f k to h
      go false to = absurd cc

  flow_keeps : {S : Type 0} (t : Tree) (is_init : Bool) (ret : Option VType) (form : Flow S) → Keeps (straight.flow t is_init ret form)
  flow_keeps t is_init ret (flows.If test by) = taken_keeps t (Of kinds.Int ∷ [])
  flow_keeps t is_init ret (flows.IfInt test by) = taken_keeps t (Of kinds.Int ∷ Of kinds.Int ∷ [])
  flow_keeps t is_init ret (flows.IfRef test by) = taken_keeps t (of_kinds (compared test))
  flow_keeps t is_init ret (flows.Goto by) = taken_keeps t []
  flow_keeps t is_init ret (flows.Switch s) = taken_keeps t (Of kinds.Int ∷ [])
  flow_keeps t is_init ret (flows.Return kind) = leave_keeps t is_init ret kind
  flow_keeps t is_init ret flows.Throw = taken_keeps t (Fits throwable ∷ [])

  -- ---- objects

  make_keeps : (at : ℕ) → Keeps (objects.make most at)
  make_keeps at f k e h = go (list_any (is_it (unready.New at)) f.stack) e
    where
      go : (b : Bool) → (if b then None else pushed most (Uninit at) (record { locals = all_replaced (unready.New at) Top f.locals; stack = f.stack; flag = f.flag })) ≡ Some k
          → HasRoom long most k
      go true to = absurd cc
      go false to =
          room_keeps (record { locals = all_replaced (unready.New at) Top f.locals; stack = f.stack; flag = f.flag }) k (Uninit at ∷ f.stack) to
          (length-map f.locals (replaced (unready.New at) Top) ∙ h.locals)

  -- no long stands for an object
  short : (it : Unready) (a : VType) → is_it it a ≡ true → is_long a ≡ false
  short it Top h = refl
  short it Int h = refl
  short unready.This Long h = absurd cc
  short (unready.New o) Long h = absurd cc
  short it Null h = refl
  short it UninitThis h = refl
  short it (Uninit o) h = refl
  short it (Object c) h = refl
  short it (Array x) h = refl
  short it Ctx h = refl

  replaced_long : (it : Unready) (c : Name) (a : VType) → is_long (replaced it (Object c) a) ≡ is_long a
  replaced_long it c a = go (is_it it a) refl
    where
      go : (b : Bool) → is_it it a ≡ b → is_long (if b then Object c else a) ≡ is_long a
      go true e = sym (short it a e)
      go false e = refl

  by_long : (a b : VType) → is_long a ≡ is_long b → length (places a) ≡ length (places b)
  by_long a b e = go (is_long a) (is_long b) e
    where
      go : (l m : Bool) → l ≡ m → length (if l then a ∷ Top ∷ [] else a ∷ []) ≡ length (if m then b ∷ Top ∷ [] else b ∷ [])
      go true true e = refl
      go false false e = refl
      go true false e = absurd cc
      go false true e = absurd cc

  replaced_slots : (it : Unready) (c : Name) (xs : List VType) → slots (all_replaced it (Object c) xs) ≡ slots xs
  unfolding slots
  replaced_slots it c [] = refl
  replaced_slots it c (a ∷ xs) =
      ap (λ (n : ℕ). n + slots (all_replaced it (Object c) xs)) (by_long (replaced it (Object c) a) a (replaced_long it c a))
      ∙ ap (λ (n : ℕ). length (places a) + n) (replaced_slots it c xs)

  readied_keeps : (it : Unready) (c : Name) (flag : Bool) (f : Frame) (xs : List VType) → HasRoom long most f → slots xs ≤ most → HasRoom long most (readied it c flag f.locals xs)
  readied_keeps it c flag f xs h few = record { locals = length-map f.locals (replaced it (Object c)) ∙ h.locals; stack = let same = replaced_slots it c xs in omega arith }

  init_of_keeps : (here : Here) (owner : Name) → Keeps (init_of here owner)
  unfolding slots
  init_of_keeps here owner f k e h = on f.stack e h.stack
    where
      on : (xs : List VType) → init_on here owner f xs ≡ Some k → slots xs ≤ most → HasRoom long most k
      on [] to few = absurd cc
      on (Uninit o ∷ xs) to few =
          if_keeps (is_named owner (here.makes o)) (readied (unready.New o) owner f.flag f.locals xs) k to (readied_keeps (unready.New o) owner f.flag f xs h (omega arith))
      on (UninitThis ∷ xs) to few =
          if_keeps (may_ready_this here owner) (readied unready.This here.class false f.locals xs) k to (readied_keeps unready.This here.class false f xs h (omega arith))
      on (Top ∷ xs) to few = absurd cc
      on (Int ∷ xs) to few = absurd cc
      on (Long ∷ xs) to few = absurd cc
      on (Null ∷ xs) to few = absurd cc
      on (Object c ∷ xs) to few = absurd cc
      on (Array a ∷ xs) to few = absurd cc
      on (Ctx ∷ xs) to few = absurd cc

-- ---- by what the pool means

module _ (long : ℕ) (p : Program) (here : Here) where
  abbrev Kept : (Frame → Option Frame) → Type 0
  Kept g = Keeps long here.max_stack g

  init_keeps : (c : CallMeaning) → Kept (objects.init (tree p) here c)
  init_keeps c =
      then_keeps long here.max_stack (λ f. option_and_then (init_of here c.owner) (taken (tree p) (arguments c) f)) (given here.max_stack c.ret)
      (then_keeps long here.max_stack (taken (tree p) (arguments c)) (init_of here c.owner) (taken_keeps long here.max_stack (tree p) (arguments c))
      (init_of_keeps long here.max_stack here c.owner))
      (given_keeps long here.max_stack c.ret)

  table_keeps : (m : Meaning) → Kept (by_table p here m)
  table_keeps m = exchanged_keeps long here.max_stack (tree p) (exchange (is_own p here.is_init here.class) here.class m)

  meaning_keeps : (m : Option Meaning) → Kept (by_meaning p here m)
  meaning_keeps None f k e h = absurd cc
  meaning_keeps (Some (meanings.Push x)) f k e h = table_keeps (meanings.Push x) f k e h
  meaning_keeps (Some (meanings.Field op one)) f k e h = table_keeps (meanings.Field op one) f k e h
  meaning_keeps (Some (meanings.Call how.Virtual c)) f k e h = table_keeps (meanings.Call how.Virtual c) f k e h
  meaning_keeps (Some (meanings.Call how.Special c)) f k e h = table_keeps (meanings.Call how.Special c) f k e h
  meaning_keeps (Some (meanings.Call how.Static c)) f k e h = table_keeps (meanings.Call how.Static c) f k e h
  meaning_keeps (Some (meanings.Call how.Interface c)) f k e h = table_keeps (meanings.Call how.Interface c) f k e h
  meaning_keeps (Some (meanings.Call how.Init c)) f k e h = init_keeps c f k e h
  meaning_keeps (Some (meanings.Make c)) f k e h = make_keeps long here.max_stack here.at f k e h
  meaning_keeps (Some (meanings.MakeArray t)) f k e h = table_keeps (meanings.MakeArray t) f k e h
  meaning_keeps (Some (meanings.Cast op t)) f k e h = table_keeps (meanings.Cast op t) f k e h

  pub keeps_room : {S : Type 0} (pool : List Entry) (form : OpForm S) (f k : Frame) → by_form p here pool form f ≡ Some k → HasRoom long here.max_stack f
      → HasRoom long here.max_stack k
  unfolding by_form
  keeps_room pool (forms.Simple form) f k e h = exchanged_keeps long here.max_stack (tree p) (by_effect (simple_effect form)) f k e h
  keeps_room pool (forms.Local form) f k e h = local_keeps long here.max_stack form f k e h
  keeps_room pool (forms.Stack form) f k e h = move_keeps long here.max_stack form f k e h
  keeps_room pool (forms.Flow form) f k e h = flow_keeps long here.max_stack (tree p) here.is_init here.returns form f k e h
  keeps_room pool (forms.Array (arrays.New kind)) f k e h = array_keeps long here.max_stack (tree p) (arrays.New kind) f k e h
  keeps_room pool (forms.Array (arrays.NewRef i)) f k e h = meaning_keeps (array_meant p pool i) f k e h
  keeps_room pool (forms.Array (arrays.Load items)) f k e h = array_keeps long here.max_stack (tree p) (arrays.Load items) f k e h
  keeps_room pool (forms.Array (arrays.Store items)) f k e h = array_keeps long here.max_stack (tree p) (arrays.Store items) f k e h
  keeps_room pool (forms.Array arrays.Length) f k e h = array_keeps long here.max_stack (tree p) arrays.Length f k e h
  keeps_room pool (forms.Pool form) f k e h = meaning_keeps (meant p pool form) f k e h
