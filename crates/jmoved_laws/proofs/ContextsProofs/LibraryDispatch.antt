-- Which members of the library calls come to: the program's side has them, and a static one is the member that is called.
use Rattle.std.proofs.Common.{◌≡◌, ℕ, zero, suc, Bool, true, false, not, List, [], ◌∷◌, Option, Some, None, refl}
use Rattle.std.specs.Prelude.{IfSome, option_map, option_and_then, if◌then◌else◌}
use Rattle.std.specs.List.{AllByRecursion}
use Rattle.std.specs.Str.{bytes_eq}
use Rattle.jground.specs.jbase.FirstFaults.{fault_if, or_else}
use Rattle.jvalues.specs.declared.jops.value.Value.{Value}
use Rattle.jvalues.specs.declared.jops.value.Value.TheVariants.{Int, Long, Ref, Ctx}
use Rattle.jlib.specs.declared.calls.LibCall.{LibCall}
use Rattle.jlib.specs.declared.classes.LibClass.{LibClass}
use Rattle.jlib.specs.LibraryMembers as library
use Rattle.jthreads.specs.declared.thread.Thread.{Thread}
use Rattle.jtypes.specs.declared.vtype.VType.TheVariants as types
use Rattle.jresolution.specs.declared.jprogram.member.CallKind.{CallKind}
use Rattle.jresolution.specs.declared.jprogram.member.CallKind.TheVariants as kinds
use Rattle.jresolution.specs.declared.jprogram.member.ClassId.{ClassId}
use Rattle.jresolution.specs.declared.jprogram.member.Member.{Member}
use Rattle.jresolution.specs.declared.jprogram.member.Member.TheVariants.{Field, LibField, LibMethod, Method}
use Rattle.jresolution.specs.declared.jprogram.member.Selected.{Selected}
use Rattle.jresolution.specs.declared.jprogram.member.Selected.TheVariants as selected
use Rattle.jresolution.specs.declared.jprogram.part.ClassRef.{ClassRef}
use Rattle.jresolution.specs.jprogram.ProgramClasses.{Program, up}
use Rattle.jresolution.specs.jprogram.MemberResolution.{as_selected, desc_of, first_by, is_abstract, is_static, method_at, methods_along, name_of, name_of_id, select}
use Rattle.jresolution.proofs.JprogramProofs.NameReachability.{clash}
use Rattle.jresolution.specs.declared.juses.meaning.InvokeKind.{InvokeKind}
use Rattle.jresolution.specs.declared.juses.meaning.InvokeKind.TheVariants as how
use Rattle.jresolution.specs.juses.InstructionMeanings.{CallMeaning}
use Rattle.jsemantics.specs.jmachine.CallTargets.{Fails, Pushes, Runs, Target, by_interface, from_above, is_hidden, no_access, on_object, on_value, overflow, reached, receiver, special, target, unless, wrong_class}
use Rattle.jsemantics.specs.jmachine.HeapObjects.{Object, class_of, id_of}
use Rattle.jsemantics.specs.jmachine.InstructionSites.{Site}
use Rattle.jsemantics.specs.jmachine.Store.{Store, object_of}
use Rattle.jsemantics.specs.jmachine.World.{class_id, is_instance, world}
use Rattle.jmoved_laws.proofs.NamesProofs.MemberSelection.{each_along, first_holds}
use Rattle.jmoved_laws.proofs.ContextsProofs.NamedMembers.{IsOnSide, declared_on, some_by}

module _ (q : Program) (m : Member) where
  -- a member of the library to which a call of the member comes
  pub record Comes (call : LibCall) : Type 0 where
    pub on : library.call_stands_on q.side call ≡ true
    pub static : library.is_static call ≡ true → m ≡ LibMethod call

  abbrev SelectedWell : Selected → Type 0
  SelectedWell (selected.Lib call) = Comes call
  SelectedWell (selected.Method i) = Unit {0}
  SelectedWell (selected.Abstract n) = Unit {0}
  SelectedWell selected.Missing = Unit {0}

  abbrev pub ComesWell : Target → Type 0
  ComesWell (Runs call) = Comes call
  ComesWell (Pushes i) = Unit {0}
  ComesWell (Fails class) = Unit {0}

  unless_well : (o : Option LibClass) (t : Target) → ComesWell t → ComesWell (unless o t)
  unless_well None t h = h
  unless_well (Some class) t h = tt

  reached_well : (full : Bool) (s : Selected) → SelectedWell s → ComesWell (reached full s)
  reached_well full (selected.Method i) h = unless_well (fault_if full overflow) (Pushes i) tt
  reached_well full (selected.Lib call) h = h
  reached_well full (selected.Abstract n) h = tt
  reached_well full selected.Missing h = tt

  coded_well : (b : Bool) (n : Member) (s : Selected) → SelectedWell s → SelectedWell (if b then selected.Abstract n else s)
  coded_well true n s h = tt
  coded_well false n s h = h

  -- what was found, where it is no static one or the member itself
  as_well : (o : Option Member) → ((call : LibCall) → o ≡ Some (LibMethod call) → Comes call) → SelectedWell (as_selected q o)
  as_well None h = tt
  as_well (Some (Method i)) h = coded_well (is_abstract q (Method i)) (Method i) (selected.Method i) tt
  as_well (Some (LibMethod call)) h = coded_well (is_abstract q (LibMethod call)) (LibMethod call) (selected.Lib call) (h call refl)
  as_well (Some (Field i j)) h = tt
  as_well (Some LibField) h = tt

  no_static : (call : LibCall) → is_static q (LibMethod call) ≡ false → library.is_static call ≡ true → m ≡ LibMethod call
  unfolding is_static
  no_static call plain static = clash (library.is_static call) static plain

  all_on : (called desc : List ℕ) (names : List (List ℕ)) → AllByRecursion (λ c. (n : Member) → method_at q called desc c ≡ Some n → IsOnSide q n) names
  all_on called desc [] = tt
  all_on called desc (c ∷ names) = (λ n e. some_by (IsOnSide q) (method_at q called desc c) n (declared_on q called desc c) e, all_on called desc names)

  selected_well : (on : ClassId) (kind : CallKind) → SelectedWell (select q on m kind)
  unfolding select
  selected_well on kind =
      let names = up q (name_of_id q on) in
      let ms = methods_along q (name_of q m) (desc_of q m) names in
      as_well (first_by q kind m ms)
      (λ call e. (let x = first_holds q (IsOnSide q) kind m (LibMethod call) ms (each_along q (IsOnSide q) (method_at q (name_of q m) (desc_of q m)) names (all_on (name_of q m) (desc_of q m) names)) e in
      record { on = x.0 call refl; static = no_static call x.1 }))

  module _ (on : IsOnSide q m) where
    of_itself : (call : LibCall) → Some m ≡ Some (LibMethod call) → Comes call
    of_itself call e = let same : m ≡ LibMethod call = cc in record { on = on call same; static = λ s. same }

    itself_well : SelectedWell ((world q).itself m)
    unfolding world
    itself_well = as_well (Some m) of_itself

    chosen_well : (id : ClassId) (kind : CallKind) → SelectedWell ((world q).select id m kind)
    unfolding world
    chosen_well id kind = selected_well id kind

    above_well : (o : Option ClassRef) → SelectedWell (from_above (world q) m o)
    above_well None = tt
    above_well (Some r) = chosen_well (class_id r) kinds.Special

    either_well : (b : Bool) (s t : Selected) → SelectedWell s → SelectedWell t → SelectedWell (if b then s else t)
    either_well true s t h k = h
    either_well false s t h k = k

-- ---- a call

module _ (q : Program) (class thread : ℕ) (full : Bool) (cwd : List ℕ) (table : List Thread) (c : CallMeaning) (on : IsOnSide q c.member) where
  abbrev site : Site
  site = record { world = world q; class = class; thread = thread; full = full; cwd = cwd; table = table }

  abbrev Well : Target → Type 0
  Well t = ComesWell q c.member t

  special_well : ComesWell q c.member (reached full (special (world q) class c))
  special_well =
      reached_well q c.member full (special (world q) class c)
      (either_well q c.member on (bytes_eq c.owner.0 ((world q).named class).0) ((world q).itself c.member) (from_above (world q) c.member ((world q).above class))
      (itself_well q c.member on) (above_well q c.member on ((world q).above class)))

  face_well : {K : Type 0} (x : Object K) → Well (by_interface (world q) full c x)
  face_well x =
      let found = (world q).select (id_of x) c.member kinds.Interface in
      unless_well q c.member (or_else (fault_if (not (is_instance (world q) (class_of (world q).named x) (types.Object c.owner))) wrong_class) (fault_if (is_hidden (world q) found) no_access))
      (reached full found) (reached_well q c.member full found (chosen_well q c.member on (id_of x) kinds.Interface))

  itself_reached : Well (reached full ((world q).itself c.member))
  itself_reached = reached_well q c.member full ((world q).itself c.member) (itself_well q c.member on)

  object_well : {K : Type 0} (by : InvokeKind) (x : Object K) → Well (on_object site by c x)
  object_well how.Virtual x = reached_well q c.member full ((world q).select (id_of x) c.member kinds.Virtual) (chosen_well q c.member on (id_of x) kinds.Virtual)
  object_well how.Interface x = face_well x
  object_well how.Special x = special_well
  object_well how.Static x = itself_reached
  object_well how.Init x = itself_reached

  each_well : {K : Type 0} (by : InvokeKind) (o : Option (Object K)) → IfSome (option_map (on_object site by c) o) Well
  each_well by None = tt
  each_well by (Some x) = object_well by x

  value_well : {K : Type 0} (s : Store K) (by : InvokeKind) (v : Value K) → IfSome (on_value site s by c v) Well
  value_well s by (Ref zero) = tt
  value_well s by (Ref (suc n)) = each_well by (object_of s (Ref (suc n)))
  value_well s by (Int x) = tt
  value_well s by (Long x) = tt
  value_well s by (Ctx k) = tt

  received_well : {K : Type 0} (s : Store K) (by : InvokeKind) (o : Option (Value K)) → IfSome (option_and_then (on_value site s by c) o) Well
  received_well s by None = tt
  received_well s by (Some v) = value_well s by v

  pub target_well : {K : Type 0} (s : Store K) (by : InvokeKind) (values : List (Value K)) → IfSome (target site s by c values) Well
  unfolding target
  target_well s how.Static values = itself_reached
  target_well s how.Virtual values = received_well s how.Virtual (receiver values)
  target_well s how.Interface values = received_well s how.Interface (receiver values)
  target_well s how.Special values = received_well s how.Special (receiver values)
  target_well s how.Init values = received_well s how.Init (receiver values)
