-- What is found has the name asked for, each class and member of a side is found, and chains of superclasses end in Object.
use Rattle.std.proofs.Common.{◌≡◌, ℕ, ◌<◌, suc, List, [], ◌∷◌, Bool, true, false, ◌&&◌, length, Option, Some, None, IfSome, refl, sym, ap, subst, arith}
use Rattle.std.specs.Prelude.{if◌then◌else◌, option_and_then}
use Rattle.std.specs.List.{AllByRecursion, find}
use Rattle.std.specs.Str.{bytes_eq}
use Rattle.std.proofs.lemmas.Bool.{and_parts}
use Rattle.std.proofs.lemmas.Option.{option_and_then_some}
use Rattle.std.proofs.lemmas.Slice.Eq.{bytes_eq-Decides}
use Rattle.jlib.specs.LibraryClasses.{above, class_named, classes, height, implemented, is_interface, is_open, name_of, stands_on, superclass}
use Rattle.jlib.specs.LibraryMembers.{IsMember, call_stands_on, desc_of, is_called, member_among, member_named, members, name_of_call, owner, thrown_methods}
use Rattle.jlib.specs.declared.side.Side.{Side}
use Rattle.jlib.specs.declared.side.Side.TheVariants.{Source, Passing}
use Rattle.jlib.specs.declared.classes.Thrown.{Thrown}
use Rattle.jlib.specs.declared.classes.Thrown.TheVariants as thrown
use Rattle.jlib.specs.declared.classes.PermissionClass.TheVariants as permission
use Rattle.jlib.specs.declared.classes.LibClass.{LibClass}
use Rattle.jlib.specs.declared.classes.LibClass.TheVariants as lib
use Rattle.jlib.specs.declared.calls.ThrownInit.TheVariants as given
use Rattle.jlib.specs.declared.calls.PrintedType.TheVariants as piece
use Rattle.jlib.specs.declared.calls.StringCall.TheVariants as string
use Rattle.jlib.specs.declared.calls.BuilderCall.TheVariants as builder
use Rattle.jlib.specs.declared.calls.ThreadCall.TheVariants as thread
use Rattle.jlib.specs.declared.calls.ControllerCall.TheVariants as controller
use Rattle.jlib.specs.declared.calls.PermissionInit.TheVariants as init
use Rattle.jlib.specs.declared.calls.RtCall.TheVariants as rt
use Rattle.jlib.specs.declared.calls.LibCall.{LibCall}
use Rattle.jlib.specs.declared.calls.LibCall.TheVariants as call

-- ---- finding

passes_if : {X : Type 0} (p : X → Bool) (y : X) (b : Bool) (rest : Option X) → p y ≡ b → IfSome rest (λ x. p x ≡ true) → IfSome (if b then Some y else rest) (λ x. p x ≡ true)
passes_if p y true rest e r = e
passes_if p y false rest e r = r

-- what is found passes the test
passes : {X : Type 0} (p : X → Bool) (xs : List X) → IfSome (find p xs) (λ x. p x ≡ true)
passes p [] = tt
passes p (y ∷ ys) = passes_if p y (p y) (find p ys) refl (passes p ys)

pub found_passes : {X : Type 0} (p : X → Bool) (xs : List X) (x : X) → find p xs ≡ Some x → p x ≡ true
found_passes p xs x h = subst (λ o. IfSome o (λ y. p y ≡ true)) h (passes p xs)

member_if : {X : Type 0} (P : X → Type 0) (y : X) (b : Bool) (rest : Option X) → P y → IfSome rest P → IfSome (if b then Some y else rest) P
member_if P y true rest e r = e
member_if P y false rest e r = r

-- what is found is of what all are of
are : {X : Type 0} (P : X → Type 0) (p : X → Bool) (xs : List X) → AllByRecursion P xs → IfSome (find p xs) P
are P p [] all = tt
are P p (y ∷ ys) all = member_if P y (p y) (find p ys) all.0 (are P p ys all.1)

found_is : {X : Type 0} (P : X → Type 0) (p : X → Bool) (xs : List X) (x : X) → AllByRecursion P xs → find p xs ≡ Some x → P x
found_is P p xs x all h = subst (λ o. IfSome o P) h (are P p xs all)

same : (a b : List ℕ) → bytes_eq a b ≡ true → b ≡ a
same a b h = sym ((bytes_eq-Decides a b).0 h)

-- ---- classes

class_parts : (side : Side) (name : List ℕ) (c : LibClass) → (stands_on side c ≡ true) × (bytes_eq name (name_of c) ≡ true) → (name_of c ≡ name) × (stands_on side c ≡ true)
class_parts side name c p = (same name (name_of c) p.1, p.0)

pub class_found : (side : Side) (name : List ℕ) (c : LibClass) → class_named side name ≡ Some c → (name_of c ≡ name) × (stands_on side c ≡ true)
class_found side name c h = class_parts side name c (and_parts (stands_on side c) (bytes_eq name (name_of c)) (found_passes (λ d. stands_on side d && bytes_eq name (name_of d)) classes c h))

pub class_only : (side : Side) (c : LibClass) → stands_on side c ≡ true → class_named side (name_of c) ≡ Some c
class_only side lib.Object h = refl
class_only side (lib.Thrown thrown.Throwable) h = refl
class_only side (lib.Thrown thrown.Exception) h = refl
class_only side (lib.Thrown thrown.Error) h = refl
class_only side (lib.Thrown thrown.RuntimeException) h = refl
class_only side (lib.Thrown thrown.InterruptedException) h = refl
class_only side (lib.Thrown thrown.ArithmeticException) h = refl
class_only side (lib.Thrown thrown.NullPointerException) h = refl
class_only side (lib.Thrown thrown.ClassCastException) h = refl
class_only side (lib.Thrown thrown.NegativeArraySizeException) h = refl
class_only side (lib.Thrown thrown.ArrayStoreException) h = refl
class_only side (lib.Thrown thrown.IllegalArgumentException) h = refl
class_only side (lib.Thrown thrown.IllegalStateException) h = refl
class_only side (lib.Thrown thrown.IndexOutOfBoundsException) h = refl
class_only side (lib.Thrown thrown.SecurityException) h = refl
class_only side (lib.Thrown thrown.IllegalThreadStateException) h = refl
class_only side (lib.Thrown thrown.ArrayIndexOutOfBoundsException) h = refl
class_only side (lib.Thrown thrown.StringIndexOutOfBoundsException) h = refl
class_only side (lib.Thrown thrown.LinkageError) h = refl
class_only side (lib.Thrown thrown.VirtualMachineError) h = refl
class_only side (lib.Thrown thrown.IncompatibleClassChangeError) h = refl
class_only side (lib.Thrown thrown.AbstractMethodError) h = refl
class_only side (lib.Thrown thrown.IllegalAccessError) h = refl
class_only side (lib.Thrown thrown.StackOverflowError) h = refl
class_only side lib.AccessControlException h = refl
class_only side lib.String h = refl
class_only side lib.StringBuilder h = refl
class_only side lib.System h = refl
class_only side lib.PrintStream h = refl
class_only side lib.Void h = refl
class_only side lib.Cloneable h = refl
class_only side lib.Serializable h = refl
class_only side lib.Runnable h = refl
class_only side lib.Thread h = refl
class_only side lib.PrivilegedAction h = refl
class_only side lib.AccessController h = refl
class_only side lib.AccessControlContext h = refl
class_only side (lib.Permission permission.Permission) h = refl
class_only side (lib.Permission permission.BasicPermission) h = refl
class_only side (lib.Permission permission.AllPermission) h = refl
class_only side (lib.Permission permission.RuntimePermission) h = refl
class_only side (lib.Permission permission.SecurityPermission) h = refl
class_only side (lib.Permission permission.PropertyPermission) h = refl
class_only side (lib.Permission permission.FilePermission) h = refl
class_only Passing lib.Rt h = refl
class_only Passing lib.Ctx h = refl
class_only Source lib.Rt h = cc
class_only Source lib.Ctx h = cc

-- ---- members

owned_methods : (one : Thrown) → AllByRecursion (λ m. owner m ≡ lib.Thrown one) (thrown_methods one)
owned_methods thrown.Throwable = (refl, tt)
owned_methods thrown.Exception = tt
owned_methods thrown.Error = tt
owned_methods thrown.RuntimeException = tt
owned_methods thrown.InterruptedException = tt
owned_methods thrown.ArithmeticException = tt
owned_methods thrown.NullPointerException = tt
owned_methods thrown.ClassCastException = tt
owned_methods thrown.NegativeArraySizeException = tt
owned_methods thrown.ArrayStoreException = tt
owned_methods thrown.IllegalArgumentException = tt
owned_methods thrown.IllegalStateException = tt
owned_methods thrown.IndexOutOfBoundsException = tt
owned_methods thrown.SecurityException = tt
owned_methods thrown.IllegalThreadStateException = tt
owned_methods thrown.ArrayIndexOutOfBoundsException = tt
owned_methods thrown.StringIndexOutOfBoundsException = tt
owned_methods thrown.LinkageError = tt
owned_methods thrown.VirtualMachineError = tt
owned_methods thrown.IncompatibleClassChangeError = tt
owned_methods thrown.AbstractMethodError = tt
owned_methods thrown.IllegalAccessError = tt
owned_methods thrown.StackOverflowError = tt

owned : (c : LibClass) → AllByRecursion (λ m. owner m ≡ c) (members c)
owned (lib.Thrown one) = (refl, (refl, owned_methods one))
owned lib.Object = (refl, tt)
owned lib.AccessControlException = (refl, tt)
owned lib.String = (refl, (refl, (refl, (refl, tt))))
owned lib.StringBuilder = (refl, (refl, (refl, (refl, (refl, (refl, (refl, (refl, tt))))))))
owned lib.System = (refl, tt)
owned lib.PrintStream = (refl, (refl, (refl, (refl, (refl, (refl, tt))))))
owned lib.Void = tt
owned lib.Cloneable = tt
owned lib.Serializable = tt
owned lib.Runnable = (refl, (refl, tt))
owned lib.Thread = (refl, (refl, (refl, (refl, (refl, tt)))))
owned lib.PrivilegedAction = (refl, (refl, tt))
owned lib.AccessController = (refl, (refl, (refl, (refl, (refl, tt)))))
owned lib.AccessControlContext = (refl, tt)
owned lib.Rt = (refl, (refl, (refl, (refl, (refl, (refl, tt))))))
owned lib.Ctx = tt
owned (lib.Permission permission.Permission) = tt
owned (lib.Permission permission.BasicPermission) = tt
owned (lib.Permission permission.AllPermission) = (refl, tt)
owned (lib.Permission permission.RuntimePermission) = (refl, (refl, tt))
owned (lib.Permission permission.SecurityPermission) = (refl, (refl, tt))
owned (lib.Permission permission.PropertyPermission) = (refl, tt)
owned (lib.Permission permission.FilePermission) = (refl, tt)

call_parts : (name desc : List ℕ) (a : Bool) (n d : List ℕ) → (a ≡ true) × ((bytes_eq name n && bytes_eq desc d) ≡ true) → (n ≡ name) × (d ≡ desc) × (a ≡ true)
call_parts name desc a n d p = (same name n (and_parts (bytes_eq name n) (bytes_eq desc d) p.1).0, same desc d (and_parts (bytes_eq name n) (bytes_eq desc d) p.1).1, p.0)

among_found : (side : Side) (name desc : List ℕ) (calls : List LibCall) (m : LibCall) → member_among side name desc calls ≡ Some m → (name_of_call m ≡ name) × (desc_of m ≡ desc) × (call_stands_on side m ≡ true)
among_found side name desc calls m h =
    call_parts name desc (call_stands_on side m) (name_of_call m) (desc_of m)
    (and_parts (call_stands_on side m) (is_called name desc m) (found_passes (λ k. call_stands_on side k && is_called name desc k) calls m h))

in_class : (side : Side) (name desc : List ℕ) (c : LibClass) (m : LibCall) → member_among side name desc (members c) ≡ Some m → owner m ≡ c
in_class side name desc c m h = found_is (λ k. owner k ≡ c) (λ k. call_stands_on side k && is_called name desc k) (members c) m (owned c) h

found_in : (side : Side) (class name desc : List ℕ) (m : LibCall) → name_of (owner m) ≡ class → (name_of_call m ≡ name) × (desc_of m ≡ desc) × (call_stands_on side m ≡ true) → IsMember side class name desc m
found_in side class name desc m e p = (e, p.0, p.1, p.2)

pub call_found : (side : Side) (class name desc : List ℕ) (m : LibCall) → member_named side class name desc ≡ Some m → IsMember side class name desc m
call_found side class name desc m h =
    option_and_then_some (λ c. member_among side name desc (members c)) (class_named side class) m h
    (λ c e k. found_in side class name desc m (subst (λ d. name_of d ≡ class) (sym (in_class side name desc c m k)) (class_found side class c e).0) (among_found side name desc (members c) m k))

among_only : (side : Side) (m : LibCall) → call_stands_on side m ≡ true → member_among side (name_of_call m) (desc_of m) (members (owner m)) ≡ Some m
among_only side call.ObjectInit h = refl
among_only side call.AccessControlInit h = refl
among_only side call.GetMessage h = refl
among_only side call.Out h = refl
among_only side call.PrintEnd h = refl
among_only side call.ContextCheck h = refl
among_only side (call.ThrownInit one given.Message) h = refl
among_only side (call.ThrownInit one given.Nothing) h = refl
among_only side (call.Print piece.Int) h = refl
among_only side (call.Print piece.Long) h = refl
among_only side (call.Print piece.Char) h = refl
among_only side (call.Print piece.Bool) h = refl
among_only side (call.Print piece.Text) h = refl
among_only side (call.String string.Length) h = refl
among_only side (call.String string.CharAt) h = refl
among_only side (call.String string.Equals) h = refl
among_only side (call.String string.Concat) h = refl
among_only side (call.Builder builder.Init) h = refl
among_only side (call.Builder builder.InitText) h = refl
among_only side (call.Builder (builder.Append piece.Int)) h = refl
among_only side (call.Builder (builder.Append piece.Long)) h = refl
among_only side (call.Builder (builder.Append piece.Char)) h = refl
among_only side (call.Builder (builder.Append piece.Bool)) h = refl
among_only side (call.Builder (builder.Append piece.Text)) h = refl
among_only side (call.Builder builder.ToString) h = refl
among_only side (call.PermissionInit init.All) h = refl
among_only side (call.PermissionInit init.Runtime) h = refl
among_only side (call.PermissionInit init.RuntimeActions) h = refl
among_only side (call.PermissionInit init.Security) h = refl
among_only side (call.PermissionInit init.SecurityActions) h = refl
among_only side (call.PermissionInit init.Property) h = refl
among_only side (call.PermissionInit init.File) h = refl
among_only Source (call.Run Source) h = refl
among_only Source (call.Run Passing) h = cc
among_only Source (call.RunAction Source) h = refl
among_only Source (call.RunAction Passing) h = cc
among_only Source (call.Thread (thread.Init Source)) h = refl
among_only Source (call.Thread (thread.Init Passing)) h = cc
among_only Source (call.Thread thread.Start) h = refl
among_only Source (call.Thread thread.Join) h = refl
among_only Source (call.Thread thread.Yield) h = refl
among_only Source (call.Controller controller.Check) h = refl
among_only Source (call.Controller controller.Snapshot) h = refl
among_only Source (call.Controller controller.Privileged) h = refl
among_only Source (call.Controller controller.PrivilegedWith) h = refl
among_only Source (call.Controller controller.PrivilegedLimited) h = refl
among_only Source (call.Rt rt.Enter) h = cc
among_only Source (call.Rt rt.Check) h = cc
among_only Source (call.Rt rt.Snapshot) h = cc
among_only Source (call.Rt rt.Privileged) h = cc
among_only Source (call.Rt rt.PrivilegedWith) h = cc
among_only Source (call.Rt rt.PrivilegedLimited) h = cc
among_only Passing (call.Run Source) h = cc
among_only Passing (call.Run Passing) h = refl
among_only Passing (call.RunAction Source) h = cc
among_only Passing (call.RunAction Passing) h = refl
among_only Passing (call.Thread (thread.Init Source)) h = cc
among_only Passing (call.Thread (thread.Init Passing)) h = refl
among_only Passing (call.Thread thread.Start) h = refl
among_only Passing (call.Thread thread.Join) h = refl
among_only Passing (call.Thread thread.Yield) h = refl
among_only Passing (call.Controller controller.Check) h = cc
among_only Passing (call.Controller controller.Snapshot) h = cc
among_only Passing (call.Controller controller.Privileged) h = cc
among_only Passing (call.Controller controller.PrivilegedWith) h = cc
among_only Passing (call.Controller controller.PrivilegedLimited) h = cc
among_only Passing (call.Rt rt.Enter) h = refl
among_only Passing (call.Rt rt.Check) h = refl
among_only Passing (call.Rt rt.Snapshot) h = refl
among_only Passing (call.Rt rt.Privileged) h = refl
among_only Passing (call.Rt rt.PrivilegedWith) h = refl
among_only Passing (call.Rt rt.PrivilegedLimited) h = refl

owner_stands : (side : Side) (m : LibCall) → call_stands_on side m ≡ true → stands_on side (owner m) ≡ true
owner_stands side call.ObjectInit h = refl
owner_stands side call.AccessControlInit h = refl
owner_stands side call.GetMessage h = refl
owner_stands side call.Out h = refl
owner_stands side call.PrintEnd h = refl
owner_stands side call.ContextCheck h = refl
owner_stands side (call.Print piece.Int) h = refl
owner_stands side (call.Print piece.Long) h = refl
owner_stands side (call.Print piece.Char) h = refl
owner_stands side (call.Print piece.Bool) h = refl
owner_stands side (call.Print piece.Text) h = refl
owner_stands side (call.Run Source) h = refl
owner_stands side (call.Run Passing) h = refl
owner_stands side (call.RunAction Source) h = refl
owner_stands side (call.RunAction Passing) h = refl
owner_stands side (call.String string.Length) h = refl
owner_stands side (call.String string.CharAt) h = refl
owner_stands side (call.String string.Equals) h = refl
owner_stands side (call.String string.Concat) h = refl
owner_stands side (call.Builder builder.Init) h = refl
owner_stands side (call.Builder builder.InitText) h = refl
owner_stands side (call.Builder (builder.Append piece.Int)) h = refl
owner_stands side (call.Builder (builder.Append piece.Long)) h = refl
owner_stands side (call.Builder (builder.Append piece.Char)) h = refl
owner_stands side (call.Builder (builder.Append piece.Bool)) h = refl
owner_stands side (call.Builder (builder.Append piece.Text)) h = refl
owner_stands side (call.Builder builder.ToString) h = refl
owner_stands side (call.Thread (thread.Init Source)) h = refl
owner_stands side (call.Thread (thread.Init Passing)) h = refl
owner_stands side (call.Thread thread.Start) h = refl
owner_stands side (call.Thread thread.Join) h = refl
owner_stands side (call.Thread thread.Yield) h = refl
owner_stands side (call.Controller controller.Check) h = refl
owner_stands side (call.Controller controller.Snapshot) h = refl
owner_stands side (call.Controller controller.Privileged) h = refl
owner_stands side (call.Controller controller.PrivilegedWith) h = refl
owner_stands side (call.Controller controller.PrivilegedLimited) h = refl
owner_stands side (call.PermissionInit init.All) h = refl
owner_stands side (call.PermissionInit init.Runtime) h = refl
owner_stands side (call.PermissionInit init.RuntimeActions) h = refl
owner_stands side (call.PermissionInit init.Security) h = refl
owner_stands side (call.PermissionInit init.SecurityActions) h = refl
owner_stands side (call.PermissionInit init.Property) h = refl
owner_stands side (call.PermissionInit init.File) h = refl
owner_stands side (call.Rt rt.Enter) h = h
owner_stands side (call.Rt rt.Check) h = h
owner_stands side (call.Rt rt.Snapshot) h = h
owner_stands side (call.Rt rt.Privileged) h = h
owner_stands side (call.Rt rt.PrivilegedWith) h = h
owner_stands side (call.Rt rt.PrivilegedLimited) h = h
owner_stands side (call.ThrownInit thrown.Throwable given.Message) h = refl
owner_stands side (call.ThrownInit thrown.Throwable given.Nothing) h = refl
owner_stands side (call.ThrownInit thrown.Exception given.Message) h = refl
owner_stands side (call.ThrownInit thrown.Exception given.Nothing) h = refl
owner_stands side (call.ThrownInit thrown.Error given.Message) h = refl
owner_stands side (call.ThrownInit thrown.Error given.Nothing) h = refl
owner_stands side (call.ThrownInit thrown.RuntimeException given.Message) h = refl
owner_stands side (call.ThrownInit thrown.RuntimeException given.Nothing) h = refl
owner_stands side (call.ThrownInit thrown.InterruptedException given.Message) h = refl
owner_stands side (call.ThrownInit thrown.InterruptedException given.Nothing) h = refl
owner_stands side (call.ThrownInit thrown.ArithmeticException given.Message) h = refl
owner_stands side (call.ThrownInit thrown.ArithmeticException given.Nothing) h = refl
owner_stands side (call.ThrownInit thrown.NullPointerException given.Message) h = refl
owner_stands side (call.ThrownInit thrown.NullPointerException given.Nothing) h = refl
owner_stands side (call.ThrownInit thrown.ClassCastException given.Message) h = refl
owner_stands side (call.ThrownInit thrown.ClassCastException given.Nothing) h = refl
owner_stands side (call.ThrownInit thrown.NegativeArraySizeException given.Message) h = refl
owner_stands side (call.ThrownInit thrown.NegativeArraySizeException given.Nothing) h = refl
owner_stands side (call.ThrownInit thrown.ArrayStoreException given.Message) h = refl
owner_stands side (call.ThrownInit thrown.ArrayStoreException given.Nothing) h = refl
owner_stands side (call.ThrownInit thrown.IllegalArgumentException given.Message) h = refl
owner_stands side (call.ThrownInit thrown.IllegalArgumentException given.Nothing) h = refl
owner_stands side (call.ThrownInit thrown.IllegalStateException given.Message) h = refl
owner_stands side (call.ThrownInit thrown.IllegalStateException given.Nothing) h = refl
owner_stands side (call.ThrownInit thrown.IndexOutOfBoundsException given.Message) h = refl
owner_stands side (call.ThrownInit thrown.IndexOutOfBoundsException given.Nothing) h = refl
owner_stands side (call.ThrownInit thrown.SecurityException given.Message) h = refl
owner_stands side (call.ThrownInit thrown.SecurityException given.Nothing) h = refl
owner_stands side (call.ThrownInit thrown.IllegalThreadStateException given.Message) h = refl
owner_stands side (call.ThrownInit thrown.IllegalThreadStateException given.Nothing) h = refl
owner_stands side (call.ThrownInit thrown.ArrayIndexOutOfBoundsException given.Message) h = refl
owner_stands side (call.ThrownInit thrown.ArrayIndexOutOfBoundsException given.Nothing) h = refl
owner_stands side (call.ThrownInit thrown.StringIndexOutOfBoundsException given.Message) h = refl
owner_stands side (call.ThrownInit thrown.StringIndexOutOfBoundsException given.Nothing) h = refl
owner_stands side (call.ThrownInit thrown.LinkageError given.Message) h = refl
owner_stands side (call.ThrownInit thrown.LinkageError given.Nothing) h = refl
owner_stands side (call.ThrownInit thrown.VirtualMachineError given.Message) h = refl
owner_stands side (call.ThrownInit thrown.VirtualMachineError given.Nothing) h = refl
owner_stands side (call.ThrownInit thrown.IncompatibleClassChangeError given.Message) h = refl
owner_stands side (call.ThrownInit thrown.IncompatibleClassChangeError given.Nothing) h = refl
owner_stands side (call.ThrownInit thrown.AbstractMethodError given.Message) h = refl
owner_stands side (call.ThrownInit thrown.AbstractMethodError given.Nothing) h = refl
owner_stands side (call.ThrownInit thrown.IllegalAccessError given.Message) h = refl
owner_stands side (call.ThrownInit thrown.IllegalAccessError given.Nothing) h = refl
owner_stands side (call.ThrownInit thrown.StackOverflowError given.Message) h = refl
owner_stands side (call.ThrownInit thrown.StackOverflowError given.Nothing) h = refl

pub call_only : (side : Side) (m : LibCall) → call_stands_on side m ≡ true → member_named side (name_of (owner m)) (name_of_call m) (desc_of m) ≡ Some m
call_only side m h = subst (λ o. option_and_then (λ c. member_among side (name_of_call m) (desc_of m) (members c)) o ≡ Some m) (sym (class_only side (owner m) (owner_stands side m h))) (among_only side m h)

-- ---- superclasses

-- what is known of the class that a class extends
record IsAbove (c s : LibClass) : Type 0 where
  no_interface : is_interface s ≡ false
  on_both : (side : Side) → stands_on side s ≡ true
  opened : is_open c ≡ true → is_open s ≡ true
  next : above c ≡ s ∷ above s

is_above : (c : LibClass) → IfSome (superclass c) (IsAbove c)
is_above lib.Object = tt
is_above (lib.Thrown thrown.Throwable) = record { no_interface = refl; on_both = λ side. refl; opened = λ h. refl; next = refl }
is_above (lib.Thrown thrown.Exception) = record { no_interface = refl; on_both = λ side. refl; opened = λ h. refl; next = refl }
is_above (lib.Thrown thrown.Error) = record { no_interface = refl; on_both = λ side. refl; opened = λ h. refl; next = refl }
is_above (lib.Thrown thrown.RuntimeException) = record { no_interface = refl; on_both = λ side. refl; opened = λ h. refl; next = refl }
is_above (lib.Thrown thrown.InterruptedException) = record { no_interface = refl; on_both = λ side. refl; opened = λ h. refl; next = refl }
is_above (lib.Thrown thrown.ArithmeticException) = record { no_interface = refl; on_both = λ side. refl; opened = λ h. refl; next = refl }
is_above (lib.Thrown thrown.NullPointerException) = record { no_interface = refl; on_both = λ side. refl; opened = λ h. refl; next = refl }
is_above (lib.Thrown thrown.ClassCastException) = record { no_interface = refl; on_both = λ side. refl; opened = λ h. refl; next = refl }
is_above (lib.Thrown thrown.NegativeArraySizeException) = record { no_interface = refl; on_both = λ side. refl; opened = λ h. refl; next = refl }
is_above (lib.Thrown thrown.ArrayStoreException) = record { no_interface = refl; on_both = λ side. refl; opened = λ h. refl; next = refl }
is_above (lib.Thrown thrown.IllegalArgumentException) = record { no_interface = refl; on_both = λ side. refl; opened = λ h. refl; next = refl }
is_above (lib.Thrown thrown.IllegalStateException) = record { no_interface = refl; on_both = λ side. refl; opened = λ h. refl; next = refl }
is_above (lib.Thrown thrown.IndexOutOfBoundsException) = record { no_interface = refl; on_both = λ side. refl; opened = λ h. refl; next = refl }
is_above (lib.Thrown thrown.SecurityException) = record { no_interface = refl; on_both = λ side. refl; opened = λ h. refl; next = refl }
is_above (lib.Thrown thrown.IllegalThreadStateException) = record { no_interface = refl; on_both = λ side. refl; opened = λ h. refl; next = refl }
is_above (lib.Thrown thrown.ArrayIndexOutOfBoundsException) = record { no_interface = refl; on_both = λ side. refl; opened = λ h. refl; next = refl }
is_above (lib.Thrown thrown.StringIndexOutOfBoundsException) = record { no_interface = refl; on_both = λ side. refl; opened = λ h. refl; next = refl }
is_above (lib.Thrown thrown.LinkageError) = record { no_interface = refl; on_both = λ side. refl; opened = λ h. refl; next = refl }
is_above (lib.Thrown thrown.VirtualMachineError) = record { no_interface = refl; on_both = λ side. refl; opened = λ h. refl; next = refl }
is_above (lib.Thrown thrown.IncompatibleClassChangeError) = record { no_interface = refl; on_both = λ side. refl; opened = λ h. refl; next = refl }
is_above (lib.Thrown thrown.AbstractMethodError) = record { no_interface = refl; on_both = λ side. refl; opened = λ h. refl; next = refl }
is_above (lib.Thrown thrown.IllegalAccessError) = record { no_interface = refl; on_both = λ side. refl; opened = λ h. refl; next = refl }
is_above (lib.Thrown thrown.StackOverflowError) = record { no_interface = refl; on_both = λ side. refl; opened = λ h. refl; next = refl }
is_above lib.AccessControlException = record { no_interface = refl; on_both = λ side. refl; opened = λ h. refl; next = refl }
is_above lib.String = record { no_interface = refl; on_both = λ side. refl; opened = λ h. cc; next = refl }
is_above lib.StringBuilder = record { no_interface = refl; on_both = λ side. refl; opened = λ h. cc; next = refl }
is_above lib.System = record { no_interface = refl; on_both = λ side. refl; opened = λ h. cc; next = refl }
is_above lib.PrintStream = record { no_interface = refl; on_both = λ side. refl; opened = λ h. cc; next = refl }
is_above lib.Void = record { no_interface = refl; on_both = λ side. refl; opened = λ h. cc; next = refl }
is_above lib.Cloneable = record { no_interface = refl; on_both = λ side. refl; opened = λ h. cc; next = refl }
is_above lib.Serializable = record { no_interface = refl; on_both = λ side. refl; opened = λ h. cc; next = refl }
is_above lib.Runnable = record { no_interface = refl; on_both = λ side. refl; opened = λ h. cc; next = refl }
is_above lib.Thread = record { no_interface = refl; on_both = λ side. refl; opened = λ h. cc; next = refl }
is_above lib.PrivilegedAction = record { no_interface = refl; on_both = λ side. refl; opened = λ h. cc; next = refl }
is_above lib.AccessController = record { no_interface = refl; on_both = λ side. refl; opened = λ h. cc; next = refl }
is_above lib.AccessControlContext = record { no_interface = refl; on_both = λ side. refl; opened = λ h. cc; next = refl }
is_above (lib.Permission permission.Permission) = record { no_interface = refl; on_both = λ side. refl; opened = λ h. cc; next = refl }
is_above (lib.Permission permission.BasicPermission) = record { no_interface = refl; on_both = λ side. refl; opened = λ h. cc; next = refl }
is_above (lib.Permission permission.AllPermission) = record { no_interface = refl; on_both = λ side. refl; opened = λ h. cc; next = refl }
is_above (lib.Permission permission.RuntimePermission) = record { no_interface = refl; on_both = λ side. refl; opened = λ h. cc; next = refl }
is_above (lib.Permission permission.SecurityPermission) = record { no_interface = refl; on_both = λ side. refl; opened = λ h. cc; next = refl }
is_above (lib.Permission permission.PropertyPermission) = record { no_interface = refl; on_both = λ side. refl; opened = λ h. cc; next = refl }
is_above (lib.Permission permission.FilePermission) = record { no_interface = refl; on_both = λ side. refl; opened = λ h. cc; next = refl }
is_above lib.Rt = record { no_interface = refl; on_both = λ side. refl; opened = λ h. cc; next = refl }
is_above lib.Ctx = record { no_interface = refl; on_both = λ side. refl; opened = λ h. cc; next = refl }

above_it : (c s : LibClass) → superclass c ≡ Some s → IsAbove c s
above_it c s h = subst (λ o. IfSome o (IsAbove c)) h (is_above c)

pub class_above : (side : Side) (c s : LibClass) → superclass c ≡ Some s → (is_interface s ≡ false) × (stands_on side s ≡ true)
class_above side c s h = ((above_it c s h).no_interface, (above_it c s h).on_both side)

pub open_above : (c s : LibClass) → superclass c ≡ Some s → is_open c ≡ true → is_open s ≡ true
open_above c s h = (above_it c s h).opened

pub next_above : (c s : LibClass) → superclass c ≡ Some s → above c ≡ s ∷ above s
next_above c s h = (above_it c s h).next

pub lower : (c s : LibClass) → superclass c ≡ Some s → height s < height c
lower c s h = let e : height c ≡ suc (height s) = ap length (next_above c s h) in omega arith

pub top_is : (c : LibClass) → superclass c ≡ None → c ≡ lib.Object
top_is lib.Object h = refl
top_is (lib.Thrown thrown.Throwable) h = cc
top_is (lib.Thrown thrown.Exception) h = cc
top_is (lib.Thrown thrown.Error) h = cc
top_is (lib.Thrown thrown.RuntimeException) h = cc
top_is (lib.Thrown thrown.InterruptedException) h = cc
top_is (lib.Thrown thrown.ArithmeticException) h = cc
top_is (lib.Thrown thrown.NullPointerException) h = cc
top_is (lib.Thrown thrown.ClassCastException) h = cc
top_is (lib.Thrown thrown.NegativeArraySizeException) h = cc
top_is (lib.Thrown thrown.ArrayStoreException) h = cc
top_is (lib.Thrown thrown.IllegalArgumentException) h = cc
top_is (lib.Thrown thrown.IllegalStateException) h = cc
top_is (lib.Thrown thrown.IndexOutOfBoundsException) h = cc
top_is (lib.Thrown thrown.SecurityException) h = cc
top_is (lib.Thrown thrown.IllegalThreadStateException) h = cc
top_is (lib.Thrown thrown.ArrayIndexOutOfBoundsException) h = cc
top_is (lib.Thrown thrown.StringIndexOutOfBoundsException) h = cc
top_is (lib.Thrown thrown.LinkageError) h = cc
top_is (lib.Thrown thrown.VirtualMachineError) h = cc
top_is (lib.Thrown thrown.IncompatibleClassChangeError) h = cc
top_is (lib.Thrown thrown.AbstractMethodError) h = cc
top_is (lib.Thrown thrown.IllegalAccessError) h = cc
top_is (lib.Thrown thrown.StackOverflowError) h = cc
top_is lib.AccessControlException h = cc
top_is lib.String h = cc
top_is lib.StringBuilder h = cc
top_is lib.System h = cc
top_is lib.PrintStream h = cc
top_is lib.Void h = cc
top_is lib.Cloneable h = cc
top_is lib.Serializable h = cc
top_is lib.Runnable h = cc
top_is lib.Thread h = cc
top_is lib.PrivilegedAction h = cc
top_is lib.AccessController h = cc
top_is lib.AccessControlContext h = cc
top_is (lib.Permission permission.Permission) h = cc
top_is (lib.Permission permission.BasicPermission) h = cc
top_is (lib.Permission permission.AllPermission) h = cc
top_is (lib.Permission permission.RuntimePermission) h = cc
top_is (lib.Permission permission.SecurityPermission) h = cc
top_is (lib.Permission permission.PropertyPermission) h = cc
top_is (lib.Permission permission.FilePermission) h = cc
top_is lib.Rt h = cc
top_is lib.Ctx h = cc

-- ---- what is implemented

implements : (side : Side) (c : LibClass) → IfSome (implemented c) (λ i. (is_interface i ≡ true) × (stands_on side i ≡ true))
implements side lib.Object = tt
implements side (lib.Thrown thrown.Throwable) = tt
implements side (lib.Thrown thrown.Exception) = tt
implements side (lib.Thrown thrown.Error) = tt
implements side (lib.Thrown thrown.RuntimeException) = tt
implements side (lib.Thrown thrown.InterruptedException) = tt
implements side (lib.Thrown thrown.ArithmeticException) = tt
implements side (lib.Thrown thrown.NullPointerException) = tt
implements side (lib.Thrown thrown.ClassCastException) = tt
implements side (lib.Thrown thrown.NegativeArraySizeException) = tt
implements side (lib.Thrown thrown.ArrayStoreException) = tt
implements side (lib.Thrown thrown.IllegalArgumentException) = tt
implements side (lib.Thrown thrown.IllegalStateException) = tt
implements side (lib.Thrown thrown.IndexOutOfBoundsException) = tt
implements side (lib.Thrown thrown.SecurityException) = tt
implements side (lib.Thrown thrown.IllegalThreadStateException) = tt
implements side (lib.Thrown thrown.ArrayIndexOutOfBoundsException) = tt
implements side (lib.Thrown thrown.StringIndexOutOfBoundsException) = tt
implements side (lib.Thrown thrown.LinkageError) = tt
implements side (lib.Thrown thrown.VirtualMachineError) = tt
implements side (lib.Thrown thrown.IncompatibleClassChangeError) = tt
implements side (lib.Thrown thrown.AbstractMethodError) = tt
implements side (lib.Thrown thrown.IllegalAccessError) = tt
implements side (lib.Thrown thrown.StackOverflowError) = tt
implements side lib.AccessControlException = tt
implements side lib.String = tt
implements side lib.StringBuilder = tt
implements side lib.System = tt
implements side lib.PrintStream = tt
implements side lib.Void = tt
implements side lib.Cloneable = tt
implements side lib.Serializable = tt
implements side lib.Runnable = tt
implements side lib.Thread = (refl, refl)
implements side lib.PrivilegedAction = tt
implements side lib.AccessController = tt
implements side lib.AccessControlContext = tt
implements side (lib.Permission permission.Permission) = tt
implements side (lib.Permission permission.BasicPermission) = tt
implements side (lib.Permission permission.AllPermission) = tt
implements side (lib.Permission permission.RuntimePermission) = tt
implements side (lib.Permission permission.SecurityPermission) = tt
implements side (lib.Permission permission.PropertyPermission) = tt
implements side (lib.Permission permission.FilePermission) = tt
implements side lib.Rt = tt
implements side lib.Ctx = tt

pub class_implements : (side : Side) (c i : LibClass) → implemented c ≡ Some i → (is_interface i ≡ true) × (stands_on side i ≡ true)
class_implements side c i h = subst (λ o. IfSome o (λ d. (is_interface d ≡ true) × (stands_on side d ≡ true))) h (implements side c)

-- ---- what users may extend

pub open_stands : (side : Side) (c : LibClass) → is_open c ≡ true → stands_on side c ≡ true
open_stands side lib.Object h = refl
open_stands side (lib.Thrown thrown.Throwable) h = refl
open_stands side (lib.Thrown thrown.Exception) h = refl
open_stands side (lib.Thrown thrown.Error) h = refl
open_stands side (lib.Thrown thrown.RuntimeException) h = refl
open_stands side (lib.Thrown thrown.InterruptedException) h = refl
open_stands side (lib.Thrown thrown.ArithmeticException) h = refl
open_stands side (lib.Thrown thrown.NullPointerException) h = refl
open_stands side (lib.Thrown thrown.ClassCastException) h = refl
open_stands side (lib.Thrown thrown.NegativeArraySizeException) h = refl
open_stands side (lib.Thrown thrown.ArrayStoreException) h = refl
open_stands side (lib.Thrown thrown.IllegalArgumentException) h = refl
open_stands side (lib.Thrown thrown.IllegalStateException) h = refl
open_stands side (lib.Thrown thrown.IndexOutOfBoundsException) h = refl
open_stands side (lib.Thrown thrown.SecurityException) h = refl
open_stands side (lib.Thrown thrown.IllegalThreadStateException) h = refl
open_stands side (lib.Thrown thrown.ArrayIndexOutOfBoundsException) h = refl
open_stands side (lib.Thrown thrown.StringIndexOutOfBoundsException) h = refl
open_stands side (lib.Thrown thrown.LinkageError) h = refl
open_stands side (lib.Thrown thrown.VirtualMachineError) h = refl
open_stands side (lib.Thrown thrown.IncompatibleClassChangeError) h = refl
open_stands side (lib.Thrown thrown.AbstractMethodError) h = refl
open_stands side (lib.Thrown thrown.IllegalAccessError) h = refl
open_stands side (lib.Thrown thrown.StackOverflowError) h = refl
open_stands side lib.AccessControlException h = refl
open_stands side lib.String h = cc
open_stands side lib.StringBuilder h = cc
open_stands side lib.System h = cc
open_stands side lib.PrintStream h = cc
open_stands side lib.Void h = cc
open_stands side lib.Cloneable h = cc
open_stands side lib.Serializable h = cc
open_stands side lib.Runnable h = cc
open_stands side lib.Thread h = cc
open_stands side lib.PrivilegedAction h = cc
open_stands side lib.AccessController h = cc
open_stands side lib.AccessControlContext h = cc
open_stands side (lib.Permission permission.Permission) h = cc
open_stands side (lib.Permission permission.BasicPermission) h = cc
open_stands side (lib.Permission permission.AllPermission) h = cc
open_stands side (lib.Permission permission.RuntimePermission) h = cc
open_stands side (lib.Permission permission.SecurityPermission) h = cc
open_stands side (lib.Permission permission.PropertyPermission) h = cc
open_stands side (lib.Permission permission.FilePermission) h = cc
open_stands side lib.Rt h = cc
open_stands side lib.Ctx h = cc
