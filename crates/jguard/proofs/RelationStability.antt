-- What stands for something stays so while numbers and marks keep what they stand for.
use Rattle.std.proofs.Common.{◌≡◌, ◌∙◌, List, [], ◌∷◌, map, Option, Some, None, option_map, refl, sym, ap, subst}
use Rattle.jvalues.specs.declared.jops.value.Value.{Value}
use Rattle.jvalues.specs.declared.jops.value.Value.TheVariants.{Int, Long, Ref, Ctx}
use Rattle.jsemantics.specs.jmachine.MachineStates.{FrameOf, GuestOf, State}
use Rattle.jsemantics.specs.jmachine.StateMaps.{frame_map, frames_map, guest_map, locals_map, object_map, state_map, store_map, value_map, values_map}
use Rattle.jsemantics.specs.jmachine.HeapObjects.{Object, Instance, Thrown, Text, Builder, Piece, Permission, Context, Thread, Bare, Array}
use Rattle.jsemantics.specs.jmachine.Store.{Store}
use Rattle.jguard.specs.NumberMeanings.{Keeps, StandsFor}

-- ---- lists and options

abbrev Holds : {K : Type 0} → Option K → Type 0
Holds None = ⊥
Holds (Some k) = Unit {0}

abbrev Each : {A : Type 0} → (A → Type 0) → List A → Type 0
Each P [] = Unit {0}
Each P (x ∷ xs) = P x × Each P xs

abbrev If : {A : Type 0} → (A → Type 0) → Option A → Type 0
If P None = Unit {0}
If P (Some x) = P x

module _ {A B : Type 0} (P : B → Type 0) where
  each_of : (h : A → B) → ((x : A) → P (h x)) → (xs : List A) → Each P (map h xs)
  each_of h all [] = tt
  each_of h all (x ∷ xs) = (all x, each_of h all xs)

  if_of : (h : A → B) → ((x : A) → P (h x)) → (o : Option A) → If P (option_map h o)
  if_of h all None = tt
  if_of h all (Some x) = all x

  each_same : (h i : A → B) → ((x : A) → P (h x) → i x ≡ h x) → (xs : List A) → Each P (map h xs) → map i xs ≡ map h xs
  each_same h i same [] w = refl
  each_same h i same (x ∷ xs) w = ap (λ (y : B). y ∷ map i xs) (same x w.0) ∙ ap (λ (ys : List B). h x ∷ ys) (each_same h i same xs w.1)

  if_same : (h i : A → B) → ((x : A) → P (h x) → i x ≡ h x) → (o : Option A) → If P (option_map h o) → option_map i o ≡ option_map h o
  if_same h i same None w = refl
  if_same h i same (Some x) w = ap Some (same x w)

-- ---- what holds something everywhere

module _ {K : Type 0} where
  abbrev WholeValue : Value (Option K) → Type 0
  WholeValue (Ctx k) = Holds k
  WholeValue v = Unit {0}

  abbrev WholeObject : Object (Option K) → Type 0
  WholeObject (Instance class message fields) = Each WholeValue fields
  WholeObject (Context kept) = If Holds kept
  WholeObject (Array a items) = Each WholeValue items
  WholeObject x = Unit {0}

  abbrev WholeStore : Store (Option K) → Type 0
  WholeStore s = Each WholeObject s.objects × Each WholeValue s.statics

  holds_some : (k : K) → Holds (Some k)
  holds_some k = tt

  whole_value : (v : Value K) → WholeValue (value_map Some v)
  whole_value (Int x) = tt
  whole_value (Long x) = tt
  whole_value (Ref n) = tt
  whole_value (Ctx k) = tt

  whole_local : (o : Option (Value K)) → If WholeValue (option_map (value_map Some) o)
  whole_local o = if_of WholeValue (value_map Some) whole_value o

  whole_object : (x : Object K) → WholeObject (object_map Some x)
  whole_object (Instance class message fields) = each_of WholeValue (value_map Some) whole_value fields
  whole_object (Thrown c message) = tt
  whole_object (Text units) = tt
  whole_object (Builder units) = tt
  whole_object (Piece units) = tt
  whole_object (Permission c held) = tt
  whole_object (Context kept) = if_of Holds Some holds_some kept
  whole_object (Thread number) = tt
  whole_object (Bare c) = tt
  whole_object (Array a items) = each_of WholeValue (value_map Some) whole_value items

  whole_store : (s : Store K) → WholeStore (store_map Some s)
  whole_store s = (each_of WholeObject (object_map Some) whole_object s.objects, each_of WholeValue (value_map Some) whole_value s.statics)

module _ {K E : Type 0} where
  abbrev WholeFrame : FrameOf (Option K) (Option E) → Type 0
  WholeFrame x = Each (If WholeValue) x.locals × Each WholeValue x.operands × Holds x.entry

  abbrev WholeGuest : GuestOf (Option K) (Option E) → Type 0
  WholeGuest x = Each WholeFrame x.frames × If Holds x.inherited

  abbrev WholeState : State (Option K) (Option E) → Type 0
  WholeState s = Each WholeGuest s.earlier × WholeGuest s.running × Each WholeGuest s.later × WholeStore s.store

  whole_frame : (x : FrameOf K E) → WholeFrame (frame_map Some Some x)
  whole_frame x = (each_of (If WholeValue) (option_map (value_map Some)) whole_local x.locals, each_of WholeValue (value_map Some) whole_value x.operands, tt)

  whole_guest : (x : GuestOf K E) → WholeGuest (guest_map Some Some x)
  whole_guest x = (each_of WholeFrame (frame_map Some Some) whole_frame x.frames, if_of Holds Some holds_some x.inherited)

  whole_state : (s : State K E) → WholeState (state_map Some Some s)
  whole_state s =
      (each_of WholeGuest (guest_map Some Some) whole_guest s.earlier, whole_guest s.running, each_of WholeGuest (guest_map Some Some) whole_guest s.later, whole_store s.store)

-- ---- what is kept

module _ {N K : Type 0} (old new : N → Option K) (keeps : Keeps old new) where
  same_so : (n : N) (o : Option K) → old n ≡ o → Holds o → new n ≡ o
  same_so n None e w = absurd w
  same_so n (Some k) e w = keeps n k e

  same_number : (n : N) → Holds (old n) → new n ≡ old n
  same_number n w = same_so n (old n) refl w

  same_value : (v : Value N) → WholeValue (value_map old v) → value_map new v ≡ value_map old v
  same_value (Int x) w = refl
  same_value (Long x) w = refl
  same_value (Ref n) w = refl
  same_value (Ctx n) w = ap (λ (k : Option K). Ctx k) (same_number n w)

  same_values : (values : List (Value N)) → Each WholeValue (values_map old values) → values_map new values ≡ values_map old values
  same_values values w = each_same WholeValue (value_map old) (value_map new) same_value values w

  same_object : (x : Object N) → WholeObject (object_map old x) → object_map new x ≡ object_map old x
  same_object (Instance class message fields) w = ap (λ (values : List (Value (Option K))). Instance class message values) (same_values fields w)
  same_object (Thrown c message) w = refl
  same_object (Text units) w = refl
  same_object (Builder units) w = refl
  same_object (Piece units) w = refl
  same_object (Permission c held) w = refl
  same_object (Context kept) w = ap (λ (k : Option (Option K)). Context k) (if_same Holds old new same_number kept w)
  same_object (Thread number) w = refl
  same_object (Bare c) w = refl
  same_object (Array a items) w = ap (λ (values : List (Value (Option K))). Array a values) (same_values items w)

  same_local : (o : Option (Value N)) → If WholeValue (option_map (value_map old) o) → option_map (value_map new) o ≡ option_map (value_map old) o
  same_local o w = if_same WholeValue (value_map old) (value_map new) same_value o w

  same_store : (s : Store N) → WholeStore (store_map old s) → store_map new s ≡ store_map old s
  same_store s w =
      ap (λ (objects : List (Object (Option K))). store_of objects (values_map new s.statics)) (each_same WholeObject (object_map old) (object_map new) same_object s.objects w.0)
      ∙ ap (store_of (map (object_map old) s.objects)) (same_values s.statics w.1)
    where
      store_of : List (Object (Option K)) → List (Value (Option K)) → Store (Option K)
      store_of objects statics = record { objects = objects; statics = statics; constants = s.constants; left = s.left }

module _ {N M K E : Type 0} (old new : N → Option K) (old_marks new_marks : M → Option E) (keeps : Keeps old new) (stay : Keeps old_marks new_marks) where
  abbrev Guest : Type 0
  Guest = GuestOf (Option K) (Option E)

  same_frame : (x : FrameOf N M) → WholeFrame (frame_map old old_marks x) → frame_map new new_marks x ≡ frame_map old old_marks x
  same_frame x w =
      ap (λ (locals : List (Option (Value (Option K)))). frame_of locals (values_map new x.operands) (new_marks x.entry)) (each_same (If WholeValue) (option_map (value_map old)) (option_map (value_map new)) (same_local old new keeps) x.locals w.0)
      ∙ ap (λ (operands : List (Value (Option K))). frame_of (locals_map old x.locals) operands (new_marks x.entry)) (same_values old new keeps x.operands w.1)
      ∙ ap (frame_of (locals_map old x.locals) (values_map old x.operands)) (same_number old_marks new_marks stay x.entry w.2)
    where
      frame_of : List (Option (Value (Option K))) → List (Value (Option K)) → Option E → FrameOf (Option K) (Option E)
      frame_of locals operands entry = record { method = x.method; place = x.place; locals = locals; operands = operands; entry = entry }

  same_guest : (x : GuestOf N M) → WholeGuest (guest_map old old_marks x) → guest_map new new_marks x ≡ guest_map old old_marks x
  same_guest x w =
      ap (λ (frames : List (FrameOf (Option K) (Option E))). guest_of frames (option_map new x.inherited)) (each_same WholeFrame (frame_map old old_marks) (frame_map new new_marks) same_frame x.frames w.0)
      ∙ ap (guest_of (frames_map old old_marks x.frames)) (if_same Holds old new (same_number old new keeps) x.inherited w.1)
    where
      guest_of : List (FrameOf (Option K) (Option E)) → Option (Option K) → GuestOf (Option K) (Option E)
      guest_of frames inherited = record { frames = frames; inherited = inherited; runnable = x.runnable; failed = x.failed }

  same_guests : (xs : List (GuestOf N M)) → Each WholeGuest (map (guest_map old old_marks) xs) → map (guest_map new new_marks) xs ≡ map (guest_map old old_marks) xs
  same_guests xs w = each_same WholeGuest (guest_map old old_marks) (guest_map new new_marks) same_guest xs w

  same_state : (s : State N M) → WholeState (state_map old old_marks s) → state_map new new_marks s ≡ state_map old old_marks s
  same_state s w =
      ap (λ (xs : List Guest). state_of xs (guest_map new new_marks s.running) (map (guest_map new new_marks) s.later) (store_map new s.store)) (same_guests s.earlier w.0)
      ∙ ap (λ (x : Guest). state_of (map (guest_map old old_marks) s.earlier) x (map (guest_map new new_marks) s.later) (store_map new s.store)) (same_guest s.running w.1)
      ∙ ap (λ (xs : List Guest). state_of (map (guest_map old old_marks) s.earlier) (guest_map old old_marks s.running) xs (store_map new s.store)) (same_guests s.later w.2)
      ∙ ap (state_of (map (guest_map old old_marks) s.earlier) (guest_map old old_marks s.running) (map (guest_map old old_marks) s.later)) (same_store old new keeps s.store w.3)
    where
      state_of : List Guest → Guest → List Guest → Store (Option K) → State (Option K) (Option E)
      state_of earlier running later store = record { earlier = earlier; running = running; later = later; table = s.table; store = store; turns = s.turns }

  pub stays : (s : State N M) (meant : State K E) → StandsFor old old_marks s meant → StandsFor new new_marks s meant
  stays s meant e = same_state s (subst WholeState (sym e) (whole_state meant)) ∙ e
