-- What instructions with locals and moves of the stack do doesn't depend on what is kept.
use Rattle.std.proofs.Common.{◌≡◌, ◌∙◌, ℕ, ◌+◌, ℤ, ◌+ℤ◌, Bool, true, false, ◌&&◌, List, [], ◌∷◌, ◌++◌, map, length, Option, Some, None, option_map, refl, sym, ap}
use Rattle.std.specs.Prelude.{drop, slice_get, slice_set, nat_le, option_and_then, if◌then◌else◌}
use Rattle.std.proofs.lemmas.Option.{slice_get-map}
use Rattle.std.proofs.lemmas.List.{drop-map, length-map, map-append, map-set}
use Rattle.jvalues.specs.declared.jnames.kinds.Kind.{Kind}
use Rattle.jvalues.specs.declared.jnames.kinds.Kind.TheVariants as kinds
use Rattle.jvalues.specs.declared.jnames.names.Shuffle.{Shuffle}
use Rattle.jvalues.specs.declared.jnames.names.Shuffle.TheVariants as moves
use Rattle.jvalues.specs.declared.jops.value.Value.{Value}
use Rattle.jvalues.specs.declared.jops.value.Value.TheVariants.{Int, Long, Ref, Ctx}
use Rattle.jvalues.specs.jops.ValueKinds.{is_of}
use Rattle.jvalues.specs.jops.Operations.{int}
use Rattle.jvalues.specs.jops.Shuffles.{Item, One, Two, Move, item, shuffle}
use Rattle.jparts.specs.declared.jcode.names.Access.TheVariants.{Load, Store as Keep}
use Rattle.jparts.specs.declared.jcode.op_form.LocalForm.{LocalForm}
use Rattle.jparts.specs.declared.jcode.op_form.LocalForm.TheVariants.{Move as Moves, Increment}
use Rattle.jparts.specs.jcode.InstructionForms as forms
use Rattle.jsemantics.specs.jmachine.StateMaps.{held_map, locals_map, value_map, values_map}
use Rattle.jsemantics.specs.jmachine.NaturalityLaws.{LocalAlike, StackAlike}
use Rattle.jsemantics.specs.jmachine.BasicInstructions.{Held, holding, increased, loaded, local, local_at, moved, places, stack, stored, with_local}

-- ---- moves of the stack, over items of any type

module _ {A B : Type 0} (h : A → B) where
  abbrev pub item_map : Item A → Item B
  item_map (One a) = One (h a)
  item_map (Two a) = Two (h a)

  abbrev pub move_map : Move A → Move B
  move_map m = record { taken = m.taken; put = map h m.put }

  abbrev pub Alike : Shuffle → List (Item A) → Type 0
  Alike op xs = option_map move_map (shuffle op xs) ≡ shuffle op (map item_map xs)

  pop_alike : (xs : List (Item A)) → Alike moves.Pop xs
  unfolding shuffle
  pop_alike [] = refl
  pop_alike (One a ∷ r) = refl
  pop_alike (Two a ∷ r) = refl

  pop2_alike : (xs : List (Item A)) → Alike moves.Pop2 xs
  unfolding shuffle
  pop2_alike [] = refl
  pop2_alike (Two a ∷ r) = refl
  pop2_alike (One a ∷ []) = refl
  pop2_alike (One a ∷ One b ∷ r) = refl
  pop2_alike (One a ∷ Two b ∷ r) = refl

  dup_alike : (xs : List (Item A)) → Alike moves.Dup xs
  unfolding shuffle
  dup_alike [] = refl
  dup_alike (One a ∷ r) = refl
  dup_alike (Two a ∷ r) = refl

  dup_x1_alike : (xs : List (Item A)) → Alike moves.DupX1 xs
  unfolding shuffle
  dup_x1_alike [] = refl
  dup_x1_alike (Two a ∷ r) = refl
  dup_x1_alike (One a ∷ []) = refl
  dup_x1_alike (One a ∷ One b ∷ r) = refl
  dup_x1_alike (One a ∷ Two b ∷ r) = refl

  dup_x2_alike : (xs : List (Item A)) → Alike moves.DupX2 xs
  unfolding shuffle
  dup_x2_alike [] = refl
  dup_x2_alike (Two a ∷ r) = refl
  dup_x2_alike (One a ∷ []) = refl
  dup_x2_alike (One a ∷ Two b ∷ r) = refl
  dup_x2_alike (One a ∷ One b ∷ []) = refl
  dup_x2_alike (One a ∷ One b ∷ One c ∷ r) = refl
  dup_x2_alike (One a ∷ One b ∷ Two c ∷ r) = refl

  dup2_alike : (xs : List (Item A)) → Alike moves.Dup2 xs
  unfolding shuffle
  dup2_alike [] = refl
  dup2_alike (Two a ∷ r) = refl
  dup2_alike (One a ∷ []) = refl
  dup2_alike (One a ∷ One b ∷ r) = refl
  dup2_alike (One a ∷ Two b ∷ r) = refl

  dup2_x1_alike : (xs : List (Item A)) → Alike moves.Dup2X1 xs
  unfolding shuffle
  dup2_x1_alike [] = refl
  dup2_x1_alike (Two a ∷ []) = refl
  dup2_x1_alike (Two a ∷ One b ∷ r) = refl
  dup2_x1_alike (Two a ∷ Two b ∷ r) = refl
  dup2_x1_alike (One a ∷ []) = refl
  dup2_x1_alike (One a ∷ Two b ∷ r) = refl
  dup2_x1_alike (One a ∷ One b ∷ []) = refl
  dup2_x1_alike (One a ∷ One b ∷ One c ∷ r) = refl
  dup2_x1_alike (One a ∷ One b ∷ Two c ∷ r) = refl

  dup2_x2_alike : (xs : List (Item A)) → Alike moves.Dup2X2 xs
  unfolding shuffle
  dup2_x2_alike [] = refl
  dup2_x2_alike (Two a ∷ []) = refl
  dup2_x2_alike (Two a ∷ Two b ∷ r) = refl
  dup2_x2_alike (Two a ∷ One b ∷ []) = refl
  dup2_x2_alike (Two a ∷ One b ∷ One c ∷ r) = refl
  dup2_x2_alike (Two a ∷ One b ∷ Two c ∷ r) = refl
  dup2_x2_alike (One a ∷ []) = refl
  dup2_x2_alike (One a ∷ Two b ∷ r) = refl
  dup2_x2_alike (One a ∷ One b ∷ []) = refl
  dup2_x2_alike (One a ∷ One b ∷ Two c ∷ r) = refl
  dup2_x2_alike (One a ∷ One b ∷ One c ∷ []) = refl
  dup2_x2_alike (One a ∷ One b ∷ One c ∷ One d ∷ r) = refl
  dup2_x2_alike (One a ∷ One b ∷ One c ∷ Two d ∷ r) = refl

  swap_alike : (xs : List (Item A)) → Alike moves.Swap xs
  unfolding shuffle
  swap_alike [] = refl
  swap_alike (Two a ∷ r) = refl
  swap_alike (One a ∷ []) = refl
  swap_alike (One a ∷ One b ∷ r) = refl
  swap_alike (One a ∷ Two b ∷ r) = refl

  pub shuffle_alike : (op : Shuffle) (xs : List (Item A)) → Alike op xs
  shuffle_alike moves.Pop xs = pop_alike xs
  shuffle_alike moves.Pop2 xs = pop2_alike xs
  shuffle_alike moves.Dup xs = dup_alike xs
  shuffle_alike moves.DupX1 xs = dup_x1_alike xs
  shuffle_alike moves.DupX2 xs = dup_x2_alike xs
  shuffle_alike moves.Dup2 xs = dup2_alike xs
  shuffle_alike moves.Dup2X1 xs = dup2_x1_alike xs
  shuffle_alike moves.Dup2X2 xs = dup2_x2_alike xs
  shuffle_alike moves.Swap xs = swap_alike xs

  moved_alike : (xs : List A) (m : Move A) → map h (moved xs m) ≡ moved (map h xs) (move_map m)
  moved_alike xs m = map-append h m.put (drop m.taken xs) ∙ ap (λ (ys : List B). map h m.put ++ ys) (sym (drop-map h m.taken xs))

module _ {K L : Type 0} (f : K → L) where
  item_alike : (v : Value K) → item (value_map f v) ≡ item_map (value_map f) (item v)
  item_alike (Int x) = refl
  item_alike (Long x) = refl
  item_alike (Ref n) = refl
  item_alike (Ctx k) = refl

  items_alike : (vs : List (Value K)) → map item (values_map f vs) ≡ map (item_map (value_map f)) (map item vs)
  items_alike [] = refl
  items_alike (v ∷ vs) = ap (λ (x : Item (Value L)). x ∷ map item (values_map f vs)) (item_alike v) ∙ ap (λ (xs : List (Item (Value L))). item_map (value_map f) (item v) ∷ xs) (items_alike vs)

  abbrev after : {J : Type 0} → List (Option (Value J)) → List (Value J) → Option (Move (Value J)) → Option (Held J)
  after locals operands o = option_map (λ m. holding locals (moved operands m)) o

  after_alike : (locals : List (Option (Value K))) (operands : List (Value K)) (o : Option (Move (Value K)))
      → option_map (held_map f) (after locals operands o) ≡ after (locals_map f locals) (values_map f operands) (option_map (move_map (value_map f)) o)
  after_alike locals operands None = refl
  after_alike locals operands (Some m) = ap (λ (vs : List (Value L)). Some (holding (locals_map f locals) vs)) (moved_alike (value_map f) operands m)

  pub stack_alike : (op : Shuffle) (h : Held K) → option_map (held_map f) (stack op h) ≡ stack op (held_map f h)
  unfolding stack
  stack_alike op h =
      after_alike h.locals h.operands (shuffle op (map item h.operands))
      ∙ ap (after (locals_map f h.locals) (values_map f h.operands)) (shuffle_alike (value_map f) op (map item h.operands) ∙ ap (shuffle op) (sym (items_alike h.operands)))

  -- ---- locals

  of_alike : (kind : Kind) (v : Value K) → is_of kind v ≡ is_of kind (value_map f v)
  of_alike kinds.Int (Int x) = refl
  of_alike kinds.Int (Long x) = refl
  of_alike kinds.Int (Ref n) = refl
  of_alike kinds.Int (Ctx k) = refl
  of_alike kinds.Long (Int x) = refl
  of_alike kinds.Long (Long x) = refl
  of_alike kinds.Long (Ref n) = refl
  of_alike kinds.Long (Ctx k) = refl
  of_alike kinds.Null (Int x) = refl
  of_alike kinds.Null (Long x) = refl
  of_alike kinds.Null (Ref n) = refl
  of_alike kinds.Null (Ctx k) = refl
  of_alike kinds.Ref (Int x) = refl
  of_alike kinds.Ref (Long x) = refl
  of_alike kinds.Ref (Ref n) = refl
  of_alike kinds.Ref (Ctx k) = refl
  of_alike kinds.Array (Int x) = refl
  of_alike kinds.Array (Long x) = refl
  of_alike kinds.Array (Ref n) = refl
  of_alike kinds.Array (Ctx k) = refl
  of_alike kinds.Held (Int x) = refl
  of_alike kinds.Held (Long x) = refl
  of_alike kinds.Held (Ref n) = refl
  of_alike kinds.Held (Ctx k) = refl

  if_alike : (b : Bool) (h : Held K) → option_map (held_map f) (if b then Some h else None) ≡ (if b then Some (held_map f h) else None)
  if_alike true h = refl
  if_alike false h = refl

  abbrev if_held : Held L → Bool → Option (Held L)
  if_held h b = if b then Some h else None

  inner_alike : (o : Option (Option (Value K))) → option_map (value_map f) (option_and_then (λ v. v) o) ≡ option_and_then (λ v. v) (option_map (option_map (value_map f)) o)
  inner_alike None = refl
  inner_alike (Some v) = refl

  local_at_alike : (locals : List (Option (Value K))) (n : ℕ) → option_map (value_map f) (local_at locals n) ≡ local_at (locals_map f locals) n
  local_at_alike locals n = inner_alike (slice_get locals n) ∙ ap (λ (o : Option (Option (Value L))). option_and_then (λ v. v) o) (sym (slice_get-map (option_map (value_map f)) locals n))

  loaded_alike : (kind : Kind) (h : Held K) (o : Option (Value K)) → option_map (held_map f) (option_and_then (loaded kind h) o) ≡ option_and_then (loaded kind (held_map f h)) (option_map (value_map f) o)
  loaded_alike kind h None = refl
  loaded_alike kind h (Some v) = if_alike (is_of kind v) (holding h.locals (v ∷ h.operands)) ∙ ap (if_held (holding (locals_map f h.locals) (value_map f v ∷ values_map f h.operands))) (of_alike kind v)

  increased_alike : (h : Held K) (n : ℕ) (by : ℤ) (o : Option (Value K)) → option_map (held_map f) (option_and_then (increased h n by) o) ≡ option_and_then (increased (held_map f h) n by) (option_map (value_map f) o)
  increased_alike h n by None = refl
  increased_alike h n by (Some (Int x)) = ap (λ (l : List (Option (Value L))). Some (holding l (values_map f h.operands))) (map-set (option_map (value_map f)) h.locals n (Some (int (x +ℤ by))))
  increased_alike h n by (Some (Long x)) = refl
  increased_alike h n by (Some (Ref x)) = refl
  increased_alike h n by (Some (Ctx x)) = refl

  set_alike : (locals : List (Option (Value K))) (n : ℕ) (v : Value K) → locals_map f (with_local locals n v) ≡ with_local (locals_map f locals) n (value_map f v)
  set_alike locals n (Int x) = map-set (option_map (value_map f)) locals n (Some (Int x))
  set_alike locals n (Ref x) = map-set (option_map (value_map f)) locals n (Some (Ref x))
  set_alike locals n (Ctx x) = map-set (option_map (value_map f)) locals n (Some (Ctx x))
  set_alike locals n (Long x) =
      map-set (option_map (value_map f)) (slice_set locals n (Some (Long x))) (n + 1) None
      ∙ ap (λ (l : List (Option (Value L))). slice_set l (n + 1) None) (map-set (option_map (value_map f)) locals n (Some (Long x)))

  places_alike : (v : Value K) → length (places v) ≡ length (places (value_map f v))
  places_alike (Int x) = refl
  places_alike (Long x) = refl
  places_alike (Ref n) = refl
  places_alike (Ctx k) = refl

  room_alike : (kind : Kind) (n : ℕ) (locals : List (Option (Value K))) (v : Value K)
      → (is_of kind v && nat_le (n + length (places v)) (length locals)) ≡ (is_of kind (value_map f v) && nat_le (n + length (places (value_map f v))) (length (locals_map f locals)))
  room_alike kind n locals v =
      ap (λ b. b && nat_le (n + length (places v)) (length locals)) (of_alike kind v)
      ∙ ap (λ i. is_of kind (value_map f v) && nat_le (n + i) (length locals)) (places_alike v)
      ∙ ap (λ i. is_of kind (value_map f v) && nat_le (n + length (places (value_map f v))) i) (sym (length-map locals (option_map (value_map f))))

  stored_alike : (kind : Kind) (n : ℕ) (locals : List (Option (Value K))) (operands : List (Value K))
      → option_map (held_map f) (stored kind n locals operands) ≡ stored kind n (locals_map f locals) (values_map f operands)
  stored_alike kind n locals [] = refl
  stored_alike kind n locals (v ∷ operands) =
      if_alike (is_of kind v && nat_le (n + length (places v)) (length locals)) (holding (with_local locals n v) operands)
      ∙ ap (if_held (holding (locals_map f (with_local locals n v)) (values_map f operands))) (room_alike kind n locals v)
      ∙ ap (λ (l : List (Option (Value L))). if_held (holding l (values_map f operands)) (is_of kind (value_map f v) && nat_le (n + length (places (value_map f v))) (length (locals_map f locals)))) (set_alike locals n v)

  pub local_alike : (form : LocalForm) (h : Held K) → option_map (held_map f) (local form h) ≡ local form (held_map f h)
  unfolding local
  local_alike (Moves Load kind n) h = loaded_alike (forms.local kind) h (local_at h.locals n) ∙ ap (λ (o : Option (Value L)). option_and_then (loaded (forms.local kind) (held_map f h)) o) (local_at_alike h.locals n)
  local_alike (Moves Keep kind n) h = stored_alike (forms.local kind) n h.locals h.operands
  local_alike (Increment n by) h = increased_alike h n by (local_at h.locals n) ∙ ap (λ (o : Option (Value L)). option_and_then (increased (held_map f h) n by) o) (local_at_alike h.locals n)

pub local_law : (K L : Type 0) → LocalAlike K L
local_law K L f form h = local_alike f form h

pub stack_law : (K L : Type 0) → StackAlike K L
stack_law K L f op h = stack_alike f op h
