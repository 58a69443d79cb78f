-- Permissions that limit a privilege.
use Rattle.std.proofs.Common.{◌≡◌, ◌∙◌, ℕ, zero, suc, ◌+◌, ◌<◌, ◌≤◌, List, [], ◌∷◌, ◌++◌, length, drop, map, Option, Some, None, refl, sym, ap, arith, append_assoc}
use Rattle.std.proofs.lemmas.List.{append-nil}
use Rattle.std.specs.Prelude.{option_map, slice_get, unwrap_or}
use Rattle.jperm.specs.declared.permission.Permission as perms
use Rattle.jvalues.specs.declared.jops.value.Value.{Value}
use Rattle.jvalues.specs.declared.jops.value.Value.TheVariants.{Ref}
use Rattle.jmemory.specs.declared.jheap.cell.CellType.{CellType}
use Rattle.jmemory.specs.declared.jheap.cell.Kind.{Kind}
use Rattle.jmemory.specs.declared.jheap.cell.Kind.TheVariants as kinds
use Rattle.jmemory.specs.jheap.Heaps as heaps
use Rattle.jmemory.specs.jheap.Heaps.{Heaped, cell_at, cells_at, kind_at}
use Rattle.jmemory.specs.jheap.RawValues.{of_raw}
use Rattle.jlib.specs.declared.classes.LibClass.TheVariants as lib
use Rattle.jresolution.specs.declared.jprogram.part.ClassRef.{ClassRef}
use Rattle.jresolution.specs.declared.jprogram.part.ClassRef.TheVariants as refs
use Rattle.jresolution.specs.jprogram.ProgramClasses.{Program}
use Rattle.jsemantics.specs.jmachine.ArrayInstructions.{items_in}
use Rattle.jsemantics.specs.jmachine.HeapObjects.{Object}
use Rattle.jsemantics.specs.jmachine.PrivilegeActions.{all_limits, limit, limits, with_limit}
use Rattle.jsemantics.specs.ProofNames.{limits_in}
use Rattle.jsemantics.specs.jmachine.Security.{permission_in}
use Rattle.jsemantics.specs.jmachine.Store.{Store, object_at}
use Rattle.jruntime.specs.declared.jstate.shapes.Shape.{Shape}
use Rattle.jruntime.specs.declared.jstate.shapes.Shapes.{Shapes}
use Rattle.jruntime.specs.jstate.ClassNumbers.{class_numbered}
use Rattle.jruntime.specs.jstate.HeapMeanings.{Things, array_at, class_by, item_type, kind_by, object_by, place_in, store_by, user_by}
use Rattle.jruntime.specs.jstate.HeapMeaningLaws.{SeesEach}
use Rattle.jlibcalls.specs.jcontexts.LimitPermissions.{AreLeft, IsSeen, LimitIs, Limits, LimitsAre, in_front, permission_place, place_by, place_of}

-- ---- permissions that objects hold

module _ (p : Program) (shapes : Shapes) (objects : List heaps.Object) (things : Things) where
  user_holds : (i : ℕ) (shape : Option Shape) (cells : List ℕ) → permission_in (Some (user_by i shape cells)) ≡ None
  user_holds i None cells = refl
  user_holds i (Some shape) cells = refl

  class_holds : (c : ClassRef) (cells : List ℕ) → permission_in (Some (class_by shapes objects things c cells)) ≡ place_in things.permissions (place_by c cells)
  class_holds (refs.User i) cells = user_holds i (slice_get shapes.users i) cells
  class_holds (refs.Lib (lib.Thrown c)) cells = refl
  class_holds (refs.Lib lib.AccessControlException) cells = refl
  class_holds (refs.Lib lib.String) cells = refl
  class_holds (refs.Lib lib.StringBuilder) cells = refl
  class_holds (refs.Lib (lib.Permission c)) cells = refl
  class_holds (refs.Lib lib.AccessControlContext) cells = refl
  class_holds (refs.Lib lib.Thread) cells = refl
  class_holds (refs.Lib lib.Object) cells = refl
  class_holds (refs.Lib lib.System) cells = refl
  class_holds (refs.Lib lib.PrintStream) cells = refl
  class_holds (refs.Lib lib.Void) cells = refl
  class_holds (refs.Lib lib.Cloneable) cells = refl
  class_holds (refs.Lib lib.Serializable) cells = refl
  class_holds (refs.Lib lib.Runnable) cells = refl
  class_holds (refs.Lib lib.PrivilegedAction) cells = refl
  class_holds (refs.Lib lib.AccessController) cells = refl
  class_holds (refs.Lib lib.Rt) cells = refl
  class_holds (refs.Lib lib.Ctx) cells = refl

  kind_holds : (kind : Kind) (cells : List ℕ) → permission_in (Some (kind_by p shapes objects things kind cells)) ≡ place_in things.permissions (place_of (Some kind) cells)
  kind_holds (kinds.Object n) cells = class_holds (class_numbered n) cells
  kind_holds (kinds.Array a) cells = refl
  kind_holds kinds.Text cells = refl
  kind_holds kinds.Piece cells = refl

module _ (each : SeesEach) (permissions : List perms.Permission) (h : Heaped) where
  object_holds : (p : Program) (shapes : Shapes) (things : Things) (o : ℕ) (x : Option heaps.Object) → heaps.object_at h o ≡ x
      → permission_in (option_map (object_by p shapes h.objects things) x) ≡ place_in things.permissions (permission_place h o)
  object_holds p shapes things o None is = rw is refl
  object_holds p shapes things o (Some x) is = rw is (kind_holds p shapes h.objects things x.kind x.cells)

  held : (s : Store ℕ) → IsSeen permissions h s → (o : ℕ) → permission_in (object_at s o) ≡ place_in permissions (permission_place h o)
  held s (p, shapes, things, constants, are, is) o =
      ap (λ (t : Store ℕ). permission_in (object_at t o)) is ∙ ap permission_in (each p shapes things constants h o)
      ∙ object_holds p shapes things o (heaps.object_at h o) refl ∙ ap (λ (xs : List perms.Permission). place_in xs (permission_place h o)) are

  pub none_limits : (o : ℕ) → (o ≡ 0 → ⊥) → None ≡ place_in permissions (permission_place h o) → LimitIs permissions h (Ref o) None
  none_limits zero some is s seen = absurd (some refl)
  none_limits (suc o) some is s seen = ap (option_map Some) (held s seen (suc o) ∙ sym is)

  pub one_limits : (o : ℕ) (one : perms.Permission) → (o ≡ 0 → ⊥) → Some one ≡ place_in permissions (permission_place h o) → LimitIs permissions h (Ref o) (Some (Some one))
  one_limits zero one some is s seen = absurd (some refl)
  one_limits (suc o) one some is s seen = ap (option_map Some) (held s seen (suc o) ∙ sym is)

pub null_limits : (permissions : List perms.Permission) (h : Heaped) (o : ℕ) → o ≡ 0 → LimitIs permissions h (Ref o) (Some None)
null_limits permissions h o is s seen = rw is refl

-- ---- cells

cell_there : (cells : List ℕ) (i : ℕ) → i < length cells → slice_get cells i ≡ Some (unwrap_or (slice_get cells i) 0)
cell_there [] i few = absurd (omega (arith, few))
cell_there (n ∷ cells) zero few = refl
cell_there (n ∷ cells) (suc i) few = cell_there cells i (omega (arith, few))

next_cell : (cells : List ℕ) (i n : ℕ) → slice_get cells i ≡ Some n → drop i cells ≡ n ∷ drop (suc i) cells
next_cell [] i n is = cc
next_cell (m ∷ cells) zero n is = let same : m ≡ n = cc in ap (λ x. x ∷ cells) same
next_cell (m ∷ cells) (suc i) n is = next_cell cells i n is

none_left : (cells : List ℕ) (i : ℕ) → length cells ≤ i → drop i cells ≡ []
none_left [] zero few = refl
none_left [] (suc i) few = refl
none_left (n ∷ cells) zero few = absurd (omega (arith, few))
none_left (n ∷ cells) (suc i) few = none_left cells i (omega (arith, few))

-- ---- what the first of them are

one_more : (before : List perms.Permission) (one : perms.Permission) (rest : Option (Option (List perms.Permission)))
    → in_front (before ++ one ∷ []) rest ≡ in_front before (option_map (option_map (λ ps. one ∷ ps)) rest)
one_more before one None = refl
one_more before one (Some None) = refl
one_more before one (Some (Some ps)) = ap (λ xs. Some (Some xs)) (append_assoc before (one ∷ []) ps)

nothing_before : (rest : Option (Option (List perms.Permission))) → in_front [] rest ≡ rest
nothing_before None = refl
nothing_before (Some None) = refl
nothing_before (Some (Some ps)) = refl

module _ (permissions : List perms.Permission) (h : Heaped) (of : CellType) (o : ℕ) where
  abbrev all_cells : List ℕ
  all_cells = cells_at h o

  abbrev value : ℕ → Value ℕ
  value i = of_raw of (cell_at h o i)

  -- those that are left begin with the next
  next_left : (s : Store ℕ) (before : List perms.Permission) (i : ℕ) → i < length all_cells
      → in_front before (all_limits s (map (of_raw of) (drop i all_cells))) ≡ in_front before (with_limit (limit s (value i)) (all_limits s (map (of_raw of) (drop (suc i) all_cells))))
  unfolding all_limits
  next_left s before i few = ap (λ ns. in_front before (all_limits s (map (of_raw of) ns))) (next_cell all_cells i (cell_at h o i) (cell_there all_cells i few))

  pub at_first : AreLeft permissions h of all_cells [] 0
  at_first s seen = nothing_before (all_limits s (map (of_raw of) all_cells))

  pub found_null : (before : List perms.Permission) (i : ℕ) → i < length all_cells → AreLeft permissions h of all_cells before i → LimitIs permissions h (value i) (Some None)
      → LimitsAre permissions h of all_cells (Some None)
  found_null before i few left is s seen =
      sym (left s seen) ∙ next_left s before i few ∙ ap (λ l. in_front before (with_limit l (all_limits s (map (of_raw of) (drop (suc i) all_cells))))) (is s seen)

  pub found_none : (before : List perms.Permission) (i : ℕ) → i < length all_cells → AreLeft permissions h of all_cells before i → LimitIs permissions h (value i) None
      → LimitsAre permissions h of all_cells None
  found_none before i few left is s seen =
      sym (left s seen) ∙ next_left s before i few ∙ ap (λ l. in_front before (with_limit l (all_limits s (map (of_raw of) (drop (suc i) all_cells))))) (is s seen)

  pub found_one : (before after : List perms.Permission) (i next : ℕ) (one : perms.Permission) → i < length all_cells → next ≡ i + 1 → after ≡ before ++ one ∷ []
      → AreLeft permissions h of all_cells before i → LimitIs permissions h (value i) (Some (Some one)) → AreLeft permissions h of all_cells after next
  found_one before after i next one few at behind left is s seen =
      let e : next ≡ suc i = omega (arith, at) in
      let rest = all_limits s (map (of_raw of) (drop (suc i) all_cells)) in
      ap (λ n. in_front after (all_limits s (map (of_raw of) (drop n all_cells)))) e ∙ ap (λ ps. in_front ps rest) behind ∙ one_more before one rest
      ∙ sym (ap (λ l. in_front before (with_limit l rest)) (is s seen)) ∙ sym (next_left s before i few) ∙ left s seen

  pub at_last : (before : List perms.Permission) (i : ℕ) → length all_cells ≤ i → AreLeft permissions h of all_cells before i → LimitsAre permissions h of all_cells (Some (Some before))
  unfolding all_limits
  at_last before i few left s seen =
      sym (left s seen) ∙ ap (λ ns. in_front before (all_limits s (map (of_raw of) ns))) (none_left all_cells i few) ∙ ap (λ ps. Some (Some ps)) (append-nil before)

-- ---- arrays

module _ (each : SeesEach) (permissions : List perms.Permission) (shapes : Shapes) (h : Heaped) where
  pub null_array : (o : ℕ) → o ≡ 0 → Limits permissions shapes h (Ref o) (Some None)
  null_array o is p things constants are = rw is refl

  limits_at : (p : Program) (things : Things) (constants : List (List ℕ × ℕ)) (o : ℕ) → (o ≡ 0 → ⊥) → let s = store_by p shapes things constants h in
      limits s (Ref o) ≡ limits_in s (items_in (object_at s o))
  limits_at p things constants zero some = absurd (some refl)
  limits_at p things constants (suc o) some = refl

  items_none : (p : Program) (things : Things) (kind : Kind) (cells : List ℕ) → ((a : ℕ) → kind ≡ kinds.Array a → ⊥)
      → items_in (Some (kind_by p shapes h.objects things kind cells)) ≡ None
  items_none p things (kinds.Object n) cells other = class_none (class_numbered n)
    where
      user_none : (i : ℕ) (shape : Option Shape) → items_in (Some (user_by i shape cells)) ≡ None
      user_none i None = refl
      user_none i (Some shape) = refl

      class_none : (c : ClassRef) → items_in (Some (class_by shapes h.objects things c cells)) ≡ None
      class_none (refs.User i) = user_none i (slice_get shapes.users i)
      class_none (refs.Lib (lib.Thrown c)) = refl
      class_none (refs.Lib lib.AccessControlException) = refl
      class_none (refs.Lib lib.String) = refl
      class_none (refs.Lib lib.StringBuilder) = refl
      class_none (refs.Lib (lib.Permission c)) = refl
      class_none (refs.Lib lib.AccessControlContext) = refl
      class_none (refs.Lib lib.Thread) = refl
      class_none (refs.Lib lib.Object) = refl
      class_none (refs.Lib lib.System) = refl
      class_none (refs.Lib lib.PrintStream) = refl
      class_none (refs.Lib lib.Void) = refl
      class_none (refs.Lib lib.Cloneable) = refl
      class_none (refs.Lib lib.Serializable) = refl
      class_none (refs.Lib lib.Runnable) = refl
      class_none (refs.Lib lib.PrivilegedAction) = refl
      class_none (refs.Lib lib.AccessController) = refl
      class_none (refs.Lib lib.Rt) = refl
      class_none (refs.Lib lib.Ctx) = refl
  items_none p things (kinds.Array a) cells other = absurd (other a refl)
  items_none p things kinds.Text cells other = refl
  items_none p things kinds.Piece cells other = refl

  abbrev IsNoArray : Option Kind → Type 0
  IsNoArray kind = (a : ℕ) → kind ≡ Some (kinds.Array a) → ⊥

  pub no_array : (o : ℕ) (kind : Option Kind) → (o ≡ 0 → ⊥) → kind_at h o ≡ kind → IsNoArray kind → Limits permissions shapes h (Ref o) None
  no_array o kind some at other p things constants are =
      let s = store_by p shapes things constants h in
      limits_at p things constants o some ∙ ap (λ (x : Option (Object ℕ)). limits_in s (items_in x)) (each p shapes things constants h o)
      ∙ by_object (heaps.object_at h o) refl
    where
      by_object : (x : Option heaps.Object) → heaps.object_at h o ≡ x
          → limits_in (store_by p shapes things constants h) (items_in (option_map (object_by p shapes h.objects things) x)) ≡ None
      by_object None is = refl
      by_object (Some x) is =
          let here : kind ≡ Some x.kind = sym at ∙ ap (option_map (λ (y : heaps.Object). y.kind)) is in
          ap (limits_in (store_by p shapes things constants h)) (items_none p things x.kind x.cells (λ a e. other a (here ∙ ap Some e)))

  pub an_array : (o n : ℕ) (of : CellType) (l : Option (Option (List perms.Permission))) → (o ≡ 0 → ⊥) → kind_at h o ≡ Some (kinds.Array n)
      → of ≡ item_type (array_at shapes n) → LimitsAre permissions h of (cells_at h o) l → Limits permissions shapes h (Ref o) l
  an_array o n of l some at is all p things constants are =
      let s = store_by p shapes things constants h in
      limits_at p things constants o some ∙ ap (λ (x : Option (Object ℕ)). limits_in s (items_in x)) (each p shapes things constants h o)
      ∙ by_object (heaps.object_at h o) refl
    where
      by_object : (x : Option heaps.Object) → heaps.object_at h o ≡ x
          → limits_in (store_by p shapes things constants h) (items_in (option_map (object_by p shapes h.objects things) x)) ≡ l
      by_object None found = let none : kind_at h o ≡ None = ap (option_map (λ (y : heaps.Object). y.kind)) found in cc
      by_object (Some x) found =
          let here : Some x.kind ≡ Some (kinds.Array n) = sym (ap (option_map (λ (y : heaps.Object). y.kind)) found) ∙ at in
          let kind : x.kind ≡ kinds.Array n = cc in
          let cells : cells_at h o ≡ x.cells = ap (λ (y : Option heaps.Object). unwrap_or (option_map (λ (z : heaps.Object). z.cells) y) []) found in
          rw (kind, ← cells, ← is) (all (store_by p shapes things constants h) (p, shapes, things, constants, are, refl))
