-- New objects.
use Rattle.std.proofs.Common.{◌≡◌, ◌∙◌, ℕ, zero, suc, ◌+◌, ◌<◌, ◌≤◌, Bool, true, false, List, [], ◌∷◌, ◌++◌, drop, length, map, replicate, Some, None, inl, inr, refl, sym, ap, ap₂, arith, rules, subst}
use Rattle.std.specs.Prelude.{Result, Ok, Err, IfOk, OnOk, nat_le, option_map, slice_get}
use Rattle.std.proofs.lemmas.Bool.{le-leb}
use Rattle.std.proofs.lemmas.List.{length-map}
use Rattle.jmemory.specs.declared.jheap.cell.Kind.TheVariants as kinds
use Rattle.jmemory.specs.jheap.Heaps as heaps
use Rattle.jmemory.specs.jheap.Heaps.{Heaped}
use Rattle.jmemory.specs.jheap.RawValues.{of_raw}
use Rattle.jlib.specs.declared.classes.LibClass.{LibClass}
use Rattle.jlib.specs.declared.classes.LibClass.TheVariants as lib
use Rattle.jvalues.specs.declared.jops.value.Value.{Value}
use Rattle.jvalues.specs.declared.jops.value.Value.TheVariants.{Ref}
use Rattle.jresolution.specs.jprogram.ProgramClasses.{Program}
use Rattle.jresolution.specs.declared.jprogram.member.Member.{Member}
use Rattle.jresolution.specs.declared.jprogram.part.ClassRef.{ClassRef}
use Rattle.jresolution.specs.declared.jprogram.part.ClassRef.TheVariants as refs
use Rattle.jtyping.specs.jrule.PoolEffects.{exchange}
use Rattle.jtypes.specs.declared.vtype.Name.{Name}
use Rattle.jtypes.specs.declared.vtype.VType.{VType}
use Rattle.jtypes.specs.declared.vtype.VType.TheVariants as types
use Rattle.jresolution.specs.juses.IndexedInstructions as instructions
use Rattle.jresolution.specs.juses.InstructionMeanings as meanings
use Rattle.jsemantics.specs.jmachine.MachineStates.{FrameOf}
use Rattle.jsemantics.specs.jmachine.InstructionActions.{doing, used}
use Rattle.jsemantics.specs.jmachine.FrameOperations.{onward}
use Rattle.jsemantics.specs.jmachine.ObjectInstructions.{library_object, make, message_cell, object_of}
use Rattle.jsemantics.specs.jmachine.Narrowing.{default}
use Rattle.jsemantics.specs.jmachine.HeapObjects.{Object, Instance}
use Rattle.jsemantics.specs.jmachine.TakenOperands.{taken}
use Rattle.jsemantics.specs.jmachine.InstructionSites.{Site}
use Rattle.jsemantics.specs.jmachine.Store.{Store, next_number, paid, with_made}
use Rattle.jsemantics.specs.jmachine.World.{World, can_be_thrown}
use Rattle.jruntime.specs.declared.jstate.shapes.Shapes.{Shapes}
use Rattle.jruntime.specs.jstate.ObjectCells.{AreCelled, MadeStaysCelled, StayCelled, Suits, WantsAsClass, cells_in, cells_of}
use Rattle.jruntime.specs.jstate.FrameLists.{Framed}
use Rattle.jruntime.specs.jstate.ClassNumbers.{GivesBack, library_number}
use Rattle.jruntime.specs.jstate.HeapMeanings.{AreBuilt, Things, built_by, class_by, kind_by, library_by, message_by, object_by, store_by, user_by, values_of}
use Rattle.jruntime.specs.jstate.HeapMeaningLaws.{MadeStaysBuilt, Makes}
use Rattle.jrows.specs.jacts.RowOutcomes.{ActsWhere, leaves}
use Rattle.jrows.specs.declared.jacts.way.Way.{Way}
use Rattle.jrows.specs.declared.jacts.way.Way.TheVariants as ways
use Rattle.jrows.specs.jobjs.NewObjects.{HasNew, HasShape, cell_of}

-- ---- the row

module _ {E : Type 0} (f : FrameOf ℕ E) (s : Store ℕ) (c : Name) (r : ClassRef) where
  abbrev Named : Site → (Member → Bool) → Type 0
  Named at own = at.world.class c ≡ Some r

  abbrev Makes_new : ℕ → Object ℕ → Site → (Member → Bool) → Type 0
  Makes_new cells object at own = (at.world.class c ≡ Some r) × (object_of at.world r ≡ record { object = object; cells = cells })

  pub new_done : (cells : ℕ) (object : Object ℕ) (t : Store ℕ) → cells ≤ s.left → t ≡ paid cells (with_made s object)
      → ActsWhere (Makes_new cells object) (instructions.Used (meanings.Make c)) f s (leaves ways.Went [] (onward f (Ref (next_number s) ∷ [])) t)
  unfolding doing used exchange taken make
  new_done cells object t few is r at own entries inherited (class, made) = rw (class, made, le-leb cells s.left few, is) refl

  pub new_full : (cells : ℕ) (object : Object ℕ) → s.left < cells → ActsWhere (Makes_new cells object) (instructions.Used (meanings.Make c)) f s (leaves ways.Full [] f s)
  unfolding doing used exchange taken make
  new_full cells object few r at own entries inherited (class, made) =
      let short : nat_le cells s.left ≡ false = search rules in
      rw (class, made, short) refl

pub made_row : Makes → {E : Type 0} (p : Program) (shapes : Shapes) (things : Things) (constants : List (List ℕ × ℕ)) (c : Name) (r : ClassRef) (number count : ℕ) (s t : Framed E) (h g : Heaped) (way : Way)
    → AreBuilt h.objects → HasNew (kinds.Object number) count s h way t g
    → ActsWhere (Makes_new s.newest (store_by p shapes things constants h) c r (1 + count) (kind_by p shapes h.objects things (kinds.Object number) (replicate count 0)))
    (instructions.Used (meanings.Make c)) s.newest (store_by p shapes things constants h) (leaves way [] t.newest (store_by p shapes things constants g))
made_row law p shapes things constants c r number count s t h g way built (inl (few, is, same, kept)) =
    rw (is, same, kept) (new_full s.newest (store_by p shapes things constants h) c r (1 + count) (kind_by p shapes h.objects things (kinds.Object number) (replicate count 0)) few)
made_row law p shapes things constants c r number count s t h g way built (inr (few, is, heap, frames)) =
    let all = store_by p shapes things constants h in
    let next : length h.objects + 1 ≡ next_number all = ap (λ k. k + 1) (sym (length-map h.objects (object_by p shapes h.objects things))) in
    rw (is, frames, heap, next)
    (new_done s.newest all c r (1 + count) (kind_by p shapes h.objects things (kinds.Object number) (replicate count 0)) (store_by p shapes things constants (heaps.made h (kinds.Object number) count))
    (omega (arith, few)) (law p shapes things constants h (kinds.Object number) count built))

-- ---- objects of the library

module _ (p : Program) (shapes : Shapes) (things : Things) (objects : List heaps.Object) where
  library_is : (c : LibClass) → library_by objects things c (replicate (cells_of c) 0) ≡ (library_object {K = ℕ} c).object
  unfolding built_by
  library_is (lib.Thrown c) = refl
  library_is (lib.Permission c) = refl
  library_is lib.Object = refl
  library_is lib.AccessControlException = refl
  library_is lib.String = refl
  library_is lib.StringBuilder = refl
  library_is lib.System = refl
  library_is lib.PrintStream = refl
  library_is lib.Void = refl
  library_is lib.Cloneable = refl
  library_is lib.Serializable = refl
  library_is lib.Runnable = refl
  library_is lib.Thread = refl
  library_is lib.PrivilegedAction = refl
  library_is lib.AccessController = refl
  library_is lib.AccessControlContext = refl
  library_is lib.Rt = refl
  library_is lib.Ctx = refl

  charge_is : (c : LibClass) → 1 + cells_of c ≡ (library_object {K = ℕ} c).cells
  charge_is (lib.Thrown c) = refl
  charge_is (lib.Permission c) = refl
  charge_is lib.Object = refl
  charge_is lib.AccessControlException = refl
  charge_is lib.String = refl
  charge_is lib.StringBuilder = refl
  charge_is lib.System = refl
  charge_is lib.PrintStream = refl
  charge_is lib.Void = refl
  charge_is lib.Cloneable = refl
  charge_is lib.Serializable = refl
  charge_is lib.Runnable = refl
  charge_is lib.Thread = refl
  charge_is lib.PrivilegedAction = refl
  charge_is lib.AccessController = refl
  charge_is lib.AccessControlContext = refl
  charge_is lib.Rt = refl
  charge_is lib.Ctx = refl

  pub library_made : GivesBack → (w : World) (c : LibClass)
      → object_of w (refs.Lib c) ≡ record { object = kind_by p shapes objects things (kinds.Object (library_number c)) (replicate (cells_of c) 0); cells = 1 + cells_of c }
  library_made law w c =
      let object = ap (λ x. class_by shapes objects things x (replicate (cells_of c) 0)) (law (refs.Lib c)) ∙ library_is c in
      ap₂ (λ (x : Object ℕ) (n : ℕ). record { object = x; cells = n }) (sym object) (sym (charge_is c))

pub library_row : Makes → GivesBack → {E F : Type 0} (result : Result Way F) (class : LibClass) (s t : Framed E) (h g : Heaped)
    → IfOk result (λ way. HasNew (kinds.Object (library_number class)) (cells_of class) s h way t g) → AreBuilt h.objects
    → IfOk result (λ way. (p : Program) (shapes : Shapes) (things : Things) (constants : List (List ℕ × ℕ)) (c : Name) →
    ActsWhere (λ (at : Site) (own : Member → Bool). at.world.class c ≡ Some (refs.Lib class)) (instructions.Used (meanings.Make c)) s.newest
    (store_by p shapes things constants h) (leaves way [] t.newest (store_by p shapes things constants g)))
library_row law back (Ok way) class s t h g made built = λ p shapes things constants c r at own entries inherited named.
    made_row law p shapes things constants c (refs.Lib class) (library_number class) (cells_of class) s t h g way built made r at own entries inherited
    (named, library_made p shapes things h.objects back at.world class)
library_row law back (Err e) class s t h g made built = tt

-- ---- objects of users' classes

zero_value : (t : VType) → of_raw (cell_of t) 0 ≡ default t
zero_value types.Top = refl
zero_value types.Int = refl
zero_value types.Long = refl
zero_value types.Null = refl
zero_value types.UninitThis = refl
zero_value (types.Uninit o) = refl
zero_value (types.Object c) = refl
zero_value (types.Array a) = refl
zero_value types.Ctx = refl

zero_values : (ts : List VType) (more : List ℕ) → values_of (map cell_of ts) (replicate (length ts) 0 ++ more) ≡ map default ts
unfolding values_of
zero_values [] more = refl
zero_values (t ∷ ts) more = ap₂ (λ v vs. v ∷ vs) (zero_value t) (zero_values ts more)

zero_message : (b : Bool) → message_by b (replicate (message_cell b) 0) ≡ 0
zero_message true = refl
zero_message false = refl

drop_front : (n : ℕ) (more : List ℕ) → drop n (replicate n 0 ++ more) ≡ more
drop_front zero more = refl
drop_front (suc n) more = drop_front n more

both_zero : (n m : ℕ) → replicate {A = ℕ} (n + m) 0 ≡ replicate {A = ℕ} n 0 ++ replicate {A = ℕ} m 0
both_zero zero m = let e : 0 + m ≡ m = omega arith in ap (λ k. replicate {A = ℕ} k 0) e
both_zero (suc n) m = let e : suc n + m ≡ suc (n + m) = omega arith in ap (λ k. replicate {A = ℕ} k 0) e ∙ ap (λ (xs : List ℕ). 0 ∷ xs) (both_zero n m)

module _ (w : World) (shapes : Shapes) (class : ℕ) (has : HasShape w shapes class) where
  pub user_made : GivesBack → (p : Program) (things : Things) (objects : List heaps.Object)
      → object_of w (refs.User class) ≡ record { object = kind_by p shapes objects things (kinds.Object (46 + class)) (replicate (cells_in has.shape) 0); cells = 1 + cells_in has.shape }
  user_made law p things objects =
      let shape = has.shape in
      let count = length shape.cells in
      let many : length (w.layout class) ≡ count = sym (ap length has.fields ∙ length-map (w.layout class) cell_of) in
      let cells : 1 + message_cell (can_be_thrown w (w.named class)) + length (w.layout class) ≡ 1 + cells_in shape =
      ap₂ (λ b n. 1 + message_cell b + n) (sym has.message) many ∙ omega arith in
      let zeros : replicate (cells_in shape) 0 ≡ replicate count 0 ++ replicate (message_cell shape.message) 0 = both_zero count (message_cell shape.message) in
      let message = ap (message_by shape.message) (ap (drop count) zeros ∙ drop_front count (replicate (message_cell shape.message) 0)) ∙ zero_message shape.message in
      let values = ap₂ values_of has.fields (zeros ∙ ap (λ n. replicate n 0 ++ replicate (message_cell shape.message) 0) (sym many)) ∙ zero_values (w.layout class) (replicate (message_cell shape.message) 0) in
      let object = ap (λ c. class_by shapes objects things c (replicate (cells_in shape) 0)) (law (refs.User class)) ∙ ap (λ x. user_by class x (replicate (cells_in shape) 0)) has.there
      ∙ ap₂ (λ (n : ℕ) (vs : List (Value ℕ)). Instance class n vs) message values in
      ap₂ (λ (x : Object ℕ) (n : ℕ). record { object = x; cells = n }) (sym object) cells

  count_is : (count : ℕ) → Some count ≡ option_map cells_in (slice_get shapes.users class) → count ≡ cells_in has.shape
  count_is count is = let both : Some count ≡ Some (cells_in has.shape) = is ∙ ap (option_map cells_in) has.there in cc

  no_count : {A : Type 0} → None ≡ option_map cells_in (slice_get shapes.users class) → A
  no_count is = let both : None ≡ Some (cells_in has.shape) = is ∙ ap (option_map cells_in) has.there in cc

module _ (shapes : Shapes) (class : ℕ) (c : Name) where
  abbrev Shaped : Site → (Member → Bool) → Type 0
  Shaped at own = (at.world.class c ≡ Some (refs.User class)) × HasShape at.world shapes class

  -- the class has no shape
  pub user_none : None ≡ option_map cells_in (slice_get shapes.users class) → {E : Type 0} (f g : FrameOf ℕ E) (s t : Store ℕ) → ActsWhere Shaped (instructions.Used (meanings.Make c)) f s (leaves ways.Stuck [] g t)
  user_none none f g s t r at own entries inherited told = no_count at.world shapes class told.1 none

pub user_row : Makes → GivesBack → {E F : Type 0} (result : Result Way F) (shapes : Shapes) (class count : ℕ) → Some count ≡ option_map cells_in (slice_get shapes.users class) → (s t : Framed E) (h g : Heaped)
    → IfOk result (λ way. HasNew (kinds.Object (46 + class)) count s h way t g) → AreBuilt h.objects
    → IfOk result (λ way. (p : Program) (things : Things) (constants : List (List ℕ × ℕ)) (c : Name) →
    ActsWhere (Shaped shapes class c) (instructions.Used (meanings.Make c)) s.newest
    (store_by p shapes things constants h) (leaves way [] t.newest (store_by p shapes things constants g)))
user_row law back (Ok way) shapes class count is s t h g made built = λ p things constants c r at own entries inherited told.
    let same = count_is at.world shapes class told.1 count is in
    let object = subst (λ (n : ℕ). object_of at.world (refs.User class) ≡ record { object = kind_by p shapes h.objects things (kinds.Object (46 + class)) (replicate n 0); cells = 1 + n }) (sym same)
    (user_made at.world shapes class told.1 back p things h.objects) in
    made_row law p shapes things constants c (refs.User class) (46 + class) count s t h g way built made r at own entries inherited (told.0, object)
user_row law back (Err e) shapes class count is s t h g made built = tt

-- ---- what stays

-- what holds of the heap as it was, and of the heap with one more object, holds of what is left
pub new_keeps : (Holds : Heaped → Type 0) → {E : Type 0} (way : Way) (number count : ℕ) (s t : Framed E) (h g : Heaped) → HasNew (kinds.Object number) count s h way t g
    → Holds h → Holds (heaps.made h (kinds.Object number) count) → Holds g
new_keeps Holds way number count s t h g (inl (few, is, same, kept)) old more = rw kept old
new_keeps Holds way number count s t h g (inr (few, is, heap, frames)) old more = rw heap more

pub new_stays : MadeStaysBuilt → {E F : Type 0} (result : Result Way F) (number count : ℕ) (s t : Framed E) (h g : Heaped) → IfOk result (λ way. HasNew (kinds.Object number) count s h way t g)
    → AreBuilt h.objects → OnOk result (AreBuilt g.objects)
new_stays law (Ok way) number count s t h g made built =
    new_keeps (λ k. AreBuilt k.objects) way number count s t h g made built (law h (kinds.Object number) count built)
new_stays law (Err e) number count s t h g made built = tt

-- an object of the library's has the cells that its class wants,
library_suits : WantsAsClass → (shapes : Shapes) (class : LibClass) → Suits shapes (kinds.Object (library_number class)) (cells_of class)
library_suits wants shapes class n is = let both : Some (cells_of class) ≡ Some n = sym (wants shapes (refs.Lib class)) ∙ is in cc

pub library_celled : MadeStaysCelled → WantsAsClass → {E F : Type 0} (result : Result Way F) (class : LibClass) (s t : Framed E) (h g : Heaped)
    → IfOk result (λ way. HasNew (kinds.Object (library_number class)) (cells_of class) s h way t g) → OnOk result (StayCelled h.objects g.objects)
library_celled law wants (Ok way) class s t h g made =
    new_keeps (λ k. StayCelled h.objects k.objects) way (library_number class) (cells_of class) s t h g made (λ shapes all. all)
    (λ shapes all. law shapes h (kinds.Object (library_number class)) (cells_of class) (library_suits wants shapes class) all)
library_celled law wants (Err e) class s t h g made = tt

-- and so has one of a user's
user_suits : WantsAsClass → (shapes : Shapes) (class count : ℕ) → Some count ≡ option_map cells_in (slice_get shapes.users class) → Suits shapes (kinds.Object (46 + class)) count
user_suits wants shapes class count at n is = let both : Some count ≡ Some n = at ∙ sym (wants shapes (refs.User class)) ∙ is in cc

pub user_celled : MadeStaysCelled → WantsAsClass → {E F : Type 0} (result : Result Way F) (shapes : Shapes) (class count : ℕ) → Some count ≡ option_map cells_in (slice_get shapes.users class)
    → (s t : Framed E) (h g : Heaped) → IfOk result (λ way. HasNew (kinds.Object (46 + class)) count s h way t g)
    → OnOk result (AreCelled shapes h.objects → AreCelled shapes g.objects)
user_celled law wants (Ok way) shapes class count at s t h g made =
    new_keeps (λ k. AreCelled shapes h.objects → AreCelled shapes k.objects) way (46 + class) count s t h g made (λ all. all)
    (law shapes h (kinds.Object (46 + class)) count (user_suits wants shapes class count at))
user_celled law wants (Err e) shapes class count at s t h g made = tt
