-- What the machine raises can be thrown: it extends Throwable.
use Rattle.std.proofs.Common.{◌≡◌, ℕ, true, ◌||◌, List, ◌∷◌, Option, Some, refl, sym, ap, subst, ◌∙◌}
use Rattle.std.specs.Prelude.{option_and_then, option_map}
use Rattle.std.specs.List.{list_any}
use Rattle.std.specs.Str.{bytes_eq}
use Rattle.jlib.specs.declared.classes.LibClass.{LibClass}
use Rattle.jlib.specs.declared.classes.LibClass.TheVariants as lib
use Rattle.jlib.specs.declared.classes.Thrown.{Thrown}
use Rattle.jlib.specs.declared.classes.Thrown.TheVariants as thrown
use Rattle.jlib.specs.LibraryClasses as library
use Rattle.jresolution.specs.jprogram.ProgramClasses.{Program, above, above_name, extends, find, holds, is_interface, object, onward, up}
use Rattle.jresolution.specs.jprogram.OrderedPrograms.{StandsInOrder}
use Rattle.jresolution.proofs.JprogramProofs.SuperclassOrder.{extends_chain, extends_itself, up_is}
use Rattle.jresolution.proofs.JprogramProofs.NameReachability.{name_equal}
use Rattle.jresolution.proofs.JprogramProofs.ClassHeights.{lib_find, not_taken}
use Rattle.jtypes.specs.Assignability.{class_fits}
use Rattle.jsemantics.specs.jmachine.HeapObjects.{library_name}
use Rattle.jsemantics.specs.jmachine.World.{world}
use Rattle.jsoundness_laws.specs.typed.TypedValues.{CanBeThrown}
use Rattle.jsoundness_laws.proofs.LibraryProofs.Classes.{thrown_plain}
use Rattle.jsoundness_laws.proofs.TypedProofs.SubtypeTransitivity.{or_left, or_right}

module _ (p : Program) (good : StandsInOrder p) where
  -- a class of the library extends the one above it
  next : (c s : LibClass) → library.stands_on p.side c ≡ true → library.superclass c ≡ Some s → extends p (library.name_of c) (library.name_of s) ≡ true
  unfolding extends
  next c s on e =
      let d = library.name_of s in
      let found : above_name p (library.name_of c) ≡ Some d = ap (option_and_then above) (lib_find p (not_taken p good) c on) ∙ ap (option_map library.name_of) e in
      let is : up p (library.name_of c) ≡ library.name_of c ∷ up p d = up_is p good (library.name_of c) ∙ ap (λ (o : Option (List ℕ)). library.name_of c ∷ onward (up p) o) found in
      let whole : up p (library.name_of c) ≡ library.name_of c ∷ d ∷ onward (up p) (above_name p d) = is ∙ ap (λ xs. library.name_of c ∷ xs) (up_is p good d) in
      or_right (bytes_eq d object) (list_any (bytes_eq d) (up p (library.name_of c)))
      (subst (λ (xs : List (List ℕ)). list_any (bytes_eq d) xs ≡ true) (sym whole)
      (or_right (bytes_eq d (library.name_of c)) (bytes_eq d d || list_any (bytes_eq d) (onward (up p) (above_name p d))) (or_left (bytes_eq d d) (list_any (bytes_eq d) (onward (up p) (above_name p d))) (name_equal d))))

  abbrev IsThrown : LibClass → Type 0
  IsThrown c = extends p (library.name_of c) (library.name_of (lib.Thrown thrown.Throwable)) ≡ true

  below : (c s : LibClass) → library.stands_on p.side c ≡ true → library.superclass c ≡ Some s → IsThrown s → IsThrown c
  below c s on e h = extends_chain p good (library.name_of c) (library.name_of s) (library.name_of (lib.Thrown thrown.Throwable)) (next c s on e) h

  abbrev Below : Thrown → Thrown → Type 0
  Below t s = library.superclass (lib.Thrown t) ≡ Some (lib.Thrown s)

  under : (t s : Thrown) → Below t s → IsThrown (lib.Thrown s) → IsThrown (lib.Thrown t)
  under t s e h = below (lib.Thrown t) (lib.Thrown s) (thrown_plain p.side t).0 e h

  throwable : IsThrown (lib.Thrown thrown.Throwable)
  throwable = extends_itself p (library.name_of (lib.Thrown thrown.Throwable))

  exception : IsThrown (lib.Thrown thrown.Exception)
  exception = under thrown.Exception thrown.Throwable refl throwable

  error : IsThrown (lib.Thrown thrown.Error)
  error = under thrown.Error thrown.Throwable refl throwable

  runtime : IsThrown (lib.Thrown thrown.RuntimeException)
  runtime = under thrown.RuntimeException thrown.Exception refl exception

  argument : IsThrown (lib.Thrown thrown.IllegalArgumentException)
  argument = under thrown.IllegalArgumentException thrown.RuntimeException refl runtime

  bounds : IsThrown (lib.Thrown thrown.IndexOutOfBoundsException)
  bounds = under thrown.IndexOutOfBoundsException thrown.RuntimeException refl runtime

  linkage : IsThrown (lib.Thrown thrown.LinkageError)
  linkage = under thrown.LinkageError thrown.Error refl error

  machine : IsThrown (lib.Thrown thrown.VirtualMachineError)
  machine = under thrown.VirtualMachineError thrown.Error refl error

  change : IsThrown (lib.Thrown thrown.IncompatibleClassChangeError)
  change = under thrown.IncompatibleClassChangeError thrown.LinkageError refl linkage

  security : IsThrown (lib.Thrown thrown.SecurityException)
  security = under thrown.SecurityException thrown.RuntimeException refl runtime

  all_thrown : (t : Thrown) → IsThrown (lib.Thrown t)
  all_thrown thrown.Throwable = throwable
  all_thrown thrown.Exception = exception
  all_thrown thrown.Error = error
  all_thrown thrown.RuntimeException = runtime
  all_thrown thrown.InterruptedException = under thrown.InterruptedException thrown.Exception refl exception
  all_thrown thrown.ArithmeticException = under thrown.ArithmeticException thrown.RuntimeException refl runtime
  all_thrown thrown.NullPointerException = under thrown.NullPointerException thrown.RuntimeException refl runtime
  all_thrown thrown.ClassCastException = under thrown.ClassCastException thrown.RuntimeException refl runtime
  all_thrown thrown.NegativeArraySizeException = under thrown.NegativeArraySizeException thrown.RuntimeException refl runtime
  all_thrown thrown.ArrayStoreException = under thrown.ArrayStoreException thrown.RuntimeException refl runtime
  all_thrown thrown.IllegalArgumentException = argument
  all_thrown thrown.IllegalStateException = under thrown.IllegalStateException thrown.RuntimeException refl runtime
  all_thrown thrown.IndexOutOfBoundsException = bounds
  all_thrown thrown.SecurityException = security
  all_thrown thrown.IllegalThreadStateException = under thrown.IllegalThreadStateException thrown.IllegalArgumentException refl argument
  all_thrown thrown.ArrayIndexOutOfBoundsException = under thrown.ArrayIndexOutOfBoundsException thrown.IndexOutOfBoundsException refl bounds
  all_thrown thrown.StringIndexOutOfBoundsException = under thrown.StringIndexOutOfBoundsException thrown.IndexOutOfBoundsException refl bounds
  all_thrown thrown.LinkageError = linkage
  all_thrown thrown.VirtualMachineError = machine
  all_thrown thrown.IncompatibleClassChangeError = change
  all_thrown thrown.AbstractMethodError = under thrown.AbstractMethodError thrown.IncompatibleClassChangeError refl change
  all_thrown thrown.IllegalAccessError = under thrown.IllegalAccessError thrown.IncompatibleClassChangeError refl change
  all_thrown thrown.StackOverflowError = under thrown.StackOverflowError thrown.VirtualMachineError refl machine

  is_thrown : (c : LibClass) → CanBeThrown c → IsThrown c
  is_thrown (lib.Thrown t) h = all_thrown t
  is_thrown lib.AccessControlException h = below lib.AccessControlException (lib.Thrown thrown.SecurityException) refl refl security
  is_thrown _ h = absurd h

  pub raised_fits : (c : LibClass) → CanBeThrown c → class_fits (world p).tree (library_name c) (library_name (lib.Thrown thrown.Throwable)) ≡ true
  unfolding world
  raised_fits c h = or_right (holds is_interface (find p (library.name_of (lib.Thrown thrown.Throwable)))) (extends p (library.name_of c) (library.name_of (lib.Thrown thrown.Throwable))) (is_thrown c h)
