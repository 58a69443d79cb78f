-- The classes of objects.
use Rattle.std.proofs.Common.{◌≡◌, ◌∙◌, ℕ, List, Option, Some, None, refl, sym, ap}
use Rattle.std.specs.Prelude.{option_map, slice_get}
use Rattle.jmemory.specs.declared.jheap.cell.Kind.{Kind}
use Rattle.jmemory.specs.declared.jheap.cell.Kind.TheVariants as kinds
use Rattle.jmemory.specs.jheap.Heaps as heaps
use Rattle.jmemory.specs.jheap.Heaps.{Heaped, kind_at}
use Rattle.jlib.specs.declared.classes.LibClass.TheVariants as lib
use Rattle.jresolution.specs.declared.jprogram.part.ClassRef.{ClassRef}
use Rattle.jresolution.specs.declared.jprogram.part.ClassRef.TheVariants as refs
use Rattle.jresolution.specs.jprogram.ProgramClasses.{Program}
use Rattle.jtypes.specs.declared.vtype.Name.{Name}
use Rattle.jtypes.specs.declared.vtype.VType.{VType}
use Rattle.jtypes.specs.declared.vtype.VType.TheVariants as types
use Rattle.jresolution.specs.juses.InternedTypes.{array_named, class_named}
use Rattle.jsemantics.specs.jmachine.HeapObjects.{Object, class_of, library_name}
use Rattle.jsemantics.specs.jmachine.Store.{object_at}
use Rattle.jsemantics.specs.jmachine.World.{is_instance, world}
use Rattle.jruntime.specs.declared.jstate.shapes.Shape.{Shape}
use Rattle.jruntime.specs.declared.jstate.shapes.Shapes.{Shapes}
use Rattle.jruntime.specs.jstate.ClassNumbers.{class_numbered}
use Rattle.jruntime.specs.jstate.HeapMeanings.{Things, array_at, class_by, kind_by, object_by, store_by, user_by}
use Rattle.jruntime.specs.jstate.HeapMeaningLaws.{SeesEach}
use Rattle.jserving.specs.jinvoke.Answers.{is_one_of, number_by}
use Rattle.jserving.specs.jinvoke.InvokeLaws.{HasType}

-- the type of an object of a kind
abbrev pub type_by : Program → Shapes → Kind → VType
type_by p shapes (kinds.Object n) = types.Object (class_named p (class_numbered n))
type_by p shapes (kinds.Array a) = types.Array (array_named p (array_at shapes a))
type_by p shapes kinds.Text = types.Object (library_name lib.String)
type_by p shapes kinds.Piece = types.Object (library_name lib.StringBuilder)

module _ (p : Program) (shapes : Shapes) (objects : List heaps.Object) (things : Things) (cells : List ℕ) where
  user_type : (i : ℕ) (shape : Option Shape) → class_of (world p).named (user_by i shape cells) ≡ types.Object (class_named p (refs.User i))
  unfolding world
  user_type i None = refl
  user_type i (Some shape) = refl

  class_type : (c : ClassRef) → class_of (world p).named (class_by shapes objects things c cells) ≡ types.Object (class_named p c)
  class_type (refs.User i) = user_type i (slice_get shapes.users i)
  class_type (refs.Lib (lib.Thrown c)) = refl
  class_type (refs.Lib lib.AccessControlException) = refl
  class_type (refs.Lib lib.String) = refl
  class_type (refs.Lib lib.StringBuilder) = refl
  class_type (refs.Lib (lib.Permission c)) = refl
  class_type (refs.Lib lib.AccessControlContext) = refl
  class_type (refs.Lib lib.Thread) = refl
  class_type (refs.Lib lib.Object) = refl
  class_type (refs.Lib lib.System) = refl
  class_type (refs.Lib lib.PrintStream) = refl
  class_type (refs.Lib lib.Void) = refl
  class_type (refs.Lib lib.Cloneable) = refl
  class_type (refs.Lib lib.Serializable) = refl
  class_type (refs.Lib lib.Runnable) = refl
  class_type (refs.Lib lib.PrivilegedAction) = refl
  class_type (refs.Lib lib.AccessController) = refl
  class_type (refs.Lib lib.Rt) = refl
  class_type (refs.Lib lib.Ctx) = refl

  pub kind_type : (kind : Kind) → class_of (world p).named (kind_by p shapes objects things kind cells) ≡ type_by p shapes kind
  kind_type (kinds.Object n) = class_type (class_numbered n)
  kind_type (kinds.Array a) = refl
  kind_type kinds.Text = refl
  kind_type kinds.Piece = refl

-- an object of a kind is one of a class
instance_is : (p : Program) (shapes : Shapes) (kind : Kind) (d : Name)
    → is_instance (world p) (type_by p shapes kind) (types.Object d) ≡ is_one_of p (number_by kind) d
instance_is p shapes (kinds.Object n) d = refl
instance_is p shapes (kinds.Array a) d = refl
instance_is p shapes kinds.Text d = refl
instance_is p shapes kinds.Piece d = refl

module _ (law : SeesEach) (p : Program) (shapes : Shapes) (things : Things) (constants : List (List ℕ × ℕ)) (h : Heaped) where
  of_object : (o : ℕ) (kind : Kind) (y : Option heaps.Object) (x : Object ℕ) → heaps.object_at h o ≡ y
      → option_map (λ (z : heaps.Object). z.kind) y ≡ Some kind
      → object_at (store_by p shapes things constants h) o ≡ Some x → class_of (world p).named x ≡ type_by p shapes kind
  of_object o kind None x is e at = cc
  of_object o kind (Some y) x is e at =
      let same : y.kind ≡ kind = cc in
      let made : Some x ≡ Some (object_by p shapes h.objects things y) =
      sym at ∙ law p shapes things constants h o ∙ ap (option_map (object_by p shapes h.objects things)) is in
      let one : x ≡ object_by p shapes h.objects things y = cc in
      ap (class_of (world p).named) one ∙ kind_type p shapes h.objects things y.cells y.kind ∙ ap (type_by p shapes) same

  pub type_at : (o : ℕ) (kind : Kind) (x : Object ℕ) → kind_at h o ≡ Some kind → object_at (store_by p shapes things constants h) o ≡ Some x
      → class_of (world p).named x ≡ type_by p shapes kind
  type_at o kind x k at = of_object o kind (heaps.object_at h o) x refl k at

  pub instance_at : (o : ℕ) (kind : Kind) (x : Object ℕ) (d : Name) → kind_at h o ≡ Some kind → object_at (store_by p shapes things constants h) o ≡ Some x
      → is_instance (world p) (class_of (world p).named x) (types.Object d) ≡ is_one_of p (number_by kind) d
  instance_at o kind x d k at = ap (λ t. is_instance (world p) t (types.Object d)) (type_at o kind x k at) ∙ instance_is p shapes kind d

pub has_class : SeesEach → (p : Program) (shapes : Shapes) (things : Things) (constants : List (List ℕ × ℕ)) (h : Heaped) (o n : ℕ) (x : Object ℕ)
    → kind_at h o ≡ Some (kinds.Object n) → object_at (store_by p shapes things constants h) o ≡ Some x
    → class_of (world p).named x ≡ types.Object (class_named p (class_numbered n))
has_class law p shapes things constants h o n x k at = type_at law p shapes things constants h o (kinds.Object n) x k at

by_number : (p : Program) (shapes : Shapes) (kind : Kind) (n : ℕ) → number_by kind ≡ Some n
    → type_by p shapes kind ≡ types.Object (class_named p (class_numbered n))
by_number p shapes (kinds.Object m) n e = let same : m ≡ n = cc in ap (λ (i : ℕ). types.Object (class_named p (class_numbered i))) same
by_number p shapes (kinds.Array a) n e = cc
by_number p shapes kinds.Text n e = let same : 32 ≡ n = cc in rw (← same) refl
by_number p shapes kinds.Piece n e = let same : 33 ≡ n = cc in rw (← same) refl

pub has_type : SeesEach → HasType
has_type law p shapes things constants h o n kind x k e at = type_at law p shapes things constants h o kind x k at ∙ by_number p shapes kind n e
