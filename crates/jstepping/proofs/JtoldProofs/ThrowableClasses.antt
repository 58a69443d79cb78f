-- The classes of the library that can be thrown stand below Throwable, and no class without a name does.
use Rattle.std.proofs.Common.{◌≡◌, ◌∙◌, ℕ, ◌||◌, true, false, List, [], ◌∷◌, Option, Some, None, refl, sym, ap}
use Rattle.std.specs.Prelude.{option_and_then, option_map, slice_get}
use Rattle.std.specs.List.{list_any}
use Rattle.std.specs.Str.{bytes_eq}
use Rattle.jlib.specs.declared.calls.LibCall.{LibCall}
use Rattle.jlib.specs.declared.calls.LibCall.TheVariants as calls
use Rattle.jlib.specs.declared.calls.ThrownInit.TheVariants as given
use Rattle.jlib.specs.declared.classes.LibClass.{LibClass}
use Rattle.jlib.specs.declared.classes.LibClass.TheVariants as lib
use Rattle.jlib.specs.declared.classes.Thrown.{Thrown}
use Rattle.jlib.specs.declared.classes.Thrown.TheVariants as thrown
use Rattle.jlib.specs.declared.side.Side.{Side}
use Rattle.jlib.specs.declared.side.Side.TheVariants.{Source, Passing}
use Rattle.jlib.specs.LibraryMembers as library_calls
use Rattle.jlib.specs.LibraryClasses as library
use Rattle.jresolution.specs.declared.jprogram.part.CodePart.{CodePart}
use Rattle.jresolution.specs.jprogram.ClassFileParts.{this_name}
use Rattle.jresolution.specs.jprogram.ProgramClasses.{Lib, Program, above, above_name, extends, find, object, onward, up}
use Rattle.jresolution.specs.jprogram.MemberResolution.{init}
use Rattle.jresolution.specs.jprogram.OrderedPrograms.{StandsInOrder}
use Rattle.jresolution.proofs.JprogramProofs.SuperclassOrder.{extends_chain, extends_itself, up_is}
use Rattle.jresolution.proofs.JprogramProofs.NameReachability.{name_equal, or_right}
use Rattle.jresolution.proofs.JprogramProofs.ClassHeights.{Libs, Nowhere, Stands, Users, lib_find, not_taken, stands}
use Rattle.jstepping.specs.jtold.MessageConstructors.{IsTelling}

abbrev pub throwable : List ℕ
throwable = library.name_of (lib.Thrown thrown.Throwable)

no_face : (t : Thrown) → library.is_interface (lib.Thrown t) ≡ false
no_face thrown.Throwable = refl
no_face thrown.Exception = refl
no_face thrown.Error = refl
no_face thrown.RuntimeException = refl
no_face thrown.InterruptedException = refl
no_face thrown.ArithmeticException = refl
no_face thrown.NullPointerException = refl
no_face thrown.ClassCastException = refl
no_face thrown.NegativeArraySizeException = refl
no_face thrown.ArrayStoreException = refl
no_face thrown.IllegalArgumentException = refl
no_face thrown.IllegalStateException = refl
no_face thrown.IndexOutOfBoundsException = refl
no_face thrown.SecurityException = refl
no_face thrown.IllegalThreadStateException = refl
no_face thrown.ArrayIndexOutOfBoundsException = refl
no_face thrown.StringIndexOutOfBoundsException = refl
no_face thrown.LinkageError = refl
no_face thrown.VirtualMachineError = refl
no_face thrown.IncompatibleClassChangeError = refl
no_face thrown.AbstractMethodError = refl
no_face thrown.IllegalAccessError = refl
no_face thrown.StackOverflowError = refl

-- both sides have them
on_both : (side : Side) (t : Thrown) → library.stands_on side (lib.Thrown t) ≡ true
on_both side thrown.Throwable = refl
on_both side thrown.Exception = refl
on_both side thrown.Error = refl
on_both side thrown.RuntimeException = refl
on_both side thrown.InterruptedException = refl
on_both side thrown.ArithmeticException = refl
on_both side thrown.NullPointerException = refl
on_both side thrown.ClassCastException = refl
on_both side thrown.NegativeArraySizeException = refl
on_both side thrown.ArrayStoreException = refl
on_both side thrown.IllegalArgumentException = refl
on_both side thrown.IllegalStateException = refl
on_both side thrown.IndexOutOfBoundsException = refl
on_both side thrown.SecurityException = refl
on_both side thrown.IllegalThreadStateException = refl
on_both side thrown.ArrayIndexOutOfBoundsException = refl
on_both side thrown.StringIndexOutOfBoundsException = refl
on_both side thrown.LinkageError = refl
on_both side thrown.VirtualMachineError = refl
on_both side thrown.IncompatibleClassChangeError = refl
on_both side thrown.AbstractMethodError = refl
on_both side thrown.IllegalAccessError = refl
on_both side thrown.StackOverflowError = refl

unnamed : (side : Side) → library.class_named side [] ≡ None
unnamed Source = refl
unnamed Passing = refl

module _ (p : Program) (good : StandsInOrder p) where
  pub found : (l : LibClass) → library.stands_on p.side l ≡ true → find p (library.name_of l) ≡ Some (Lib l)
  found l on = lib_find p (not_taken p good) l on

  next : (x y : List ℕ) → above_name p x ≡ Some y → extends p x y ≡ true
  unfolding extends
  next x y is =
      let rest = onward (up p) (above_name p y) in
      let both : up p x ≡ x ∷ y ∷ rest = up_is p good x ∙ ap (λ (o : Option (List ℕ)). x ∷ onward (up p) o) is ∙ ap (λ (ys : List (List ℕ)). x ∷ ys) (up_is p good y) in
      let here : (bytes_eq y y || list_any (bytes_eq y) rest) ≡ true = rw (name_equal y) refl in
      or_right (bytes_eq y object) (list_any (bytes_eq y) (up p x)) (ap (list_any (bytes_eq y)) both ∙ or_right (bytes_eq y x) (bytes_eq y y || list_any (bytes_eq y) rest) here)

  abbrev Below : LibClass → Type 0
  Below l = extends p (library.name_of l) throwable ≡ true

  step : (l m : LibClass) → library.stands_on p.side l ≡ true → library.superclass l ≡ Some m → Below m → Below l
  step l m on is below =
      let name_above : above_name p (library.name_of l) ≡ Some (library.name_of m) = ap (option_and_then above) (found l on) ∙ ap (option_map library.name_of) is in
      extends_chain p good (library.name_of l) (library.name_of m) throwable (next (library.name_of l) (library.name_of m) name_above) below

  top : Below (lib.Thrown thrown.Throwable)
  top = extends_itself p throwable

  exception : Below (lib.Thrown thrown.Exception)
  exception = step (lib.Thrown thrown.Exception) (lib.Thrown thrown.Throwable) refl refl top

  error : Below (lib.Thrown thrown.Error)
  error = step (lib.Thrown thrown.Error) (lib.Thrown thrown.Throwable) refl refl top

  runtime : (t : Thrown) → library.superclass (lib.Thrown t) ≡ Some (lib.Thrown thrown.RuntimeException) → Below (lib.Thrown t)
  runtime t is =
      step (lib.Thrown t) (lib.Thrown thrown.RuntimeException) (on_both p.side t) is
      (step (lib.Thrown thrown.RuntimeException) (lib.Thrown thrown.Exception) refl refl exception)

  linkage : Below (lib.Thrown thrown.LinkageError)
  linkage = step (lib.Thrown thrown.LinkageError) (lib.Thrown thrown.Error) refl refl error

  change : Below (lib.Thrown thrown.IncompatibleClassChangeError)
  change = step (lib.Thrown thrown.IncompatibleClassChangeError) (lib.Thrown thrown.LinkageError) refl refl linkage

  virtual : Below (lib.Thrown thrown.VirtualMachineError)
  virtual = step (lib.Thrown thrown.VirtualMachineError) (lib.Thrown thrown.Error) refl refl error

  thrown_below : (t : Thrown) → Below (lib.Thrown t)
  thrown_below thrown.Throwable = top
  thrown_below thrown.Exception = exception
  thrown_below thrown.Error = error
  thrown_below thrown.RuntimeException = step (lib.Thrown thrown.RuntimeException) (lib.Thrown thrown.Exception) refl refl exception
  thrown_below thrown.InterruptedException = step (lib.Thrown thrown.InterruptedException) (lib.Thrown thrown.Exception) refl refl exception
  thrown_below thrown.ArithmeticException = runtime thrown.ArithmeticException refl
  thrown_below thrown.NullPointerException = runtime thrown.NullPointerException refl
  thrown_below thrown.ClassCastException = runtime thrown.ClassCastException refl
  thrown_below thrown.NegativeArraySizeException = runtime thrown.NegativeArraySizeException refl
  thrown_below thrown.ArrayStoreException = runtime thrown.ArrayStoreException refl
  thrown_below thrown.IllegalArgumentException = runtime thrown.IllegalArgumentException refl
  thrown_below thrown.IllegalStateException = runtime thrown.IllegalStateException refl
  thrown_below thrown.IndexOutOfBoundsException = runtime thrown.IndexOutOfBoundsException refl
  thrown_below thrown.SecurityException = runtime thrown.SecurityException refl
  thrown_below thrown.IllegalThreadStateException =
      step (lib.Thrown thrown.IllegalThreadStateException) (lib.Thrown thrown.IllegalArgumentException) refl refl (runtime thrown.IllegalArgumentException refl)
  thrown_below thrown.ArrayIndexOutOfBoundsException =
      step (lib.Thrown thrown.ArrayIndexOutOfBoundsException) (lib.Thrown thrown.IndexOutOfBoundsException) refl refl (runtime thrown.IndexOutOfBoundsException refl)
  thrown_below thrown.StringIndexOutOfBoundsException =
      step (lib.Thrown thrown.StringIndexOutOfBoundsException) (lib.Thrown thrown.IndexOutOfBoundsException) refl refl (runtime thrown.IndexOutOfBoundsException refl)
  thrown_below thrown.LinkageError = linkage
  thrown_below thrown.VirtualMachineError = virtual
  thrown_below thrown.IncompatibleClassChangeError = change
  thrown_below thrown.AbstractMethodError = step (lib.Thrown thrown.AbstractMethodError) (lib.Thrown thrown.IncompatibleClassChangeError) refl refl change
  thrown_below thrown.IllegalAccessError = step (lib.Thrown thrown.IllegalAccessError) (lib.Thrown thrown.IncompatibleClassChangeError) refl refl change
  thrown_below thrown.StackOverflowError = step (lib.Thrown thrown.StackOverflowError) (lib.Thrown thrown.VirtualMachineError) refl refl virtual

  -- the class of a constructor that gives a message
  pub record IsOfThrown (call : LibCall) : Type 0 where
    pub named : library_calls.name_of_call call ≡ init
    pub here : find p (library.name_of (library_calls.owner call)) ≡ Some (Lib (library_calls.owner call))
    pub class : library.is_interface (library_calls.owner call) ≡ false
    pub below : extends p (library.name_of (library_calls.owner call)) throwable ≡ true

  pub is_of_thrown : (call : LibCall) → IsTelling call → IsOfThrown call
  is_of_thrown (calls.ThrownInit t given.Message) tells =
      record { named = refl; here = found (lib.Thrown t) (on_both p.side t); class = no_face t; below = thrown_below t }
  is_of_thrown (calls.ThrownInit t given.Nothing) tells =
      record { named = refl; here = found (lib.Thrown t) (on_both p.side t); class = no_face t; below = thrown_below t }
  is_of_thrown calls.AccessControlInit tells = record {
    named = refl;
    here = found lib.AccessControlException refl;
    class = refl;
    below = step lib.AccessControlException (lib.Thrown thrown.SecurityException) refl refl (runtime thrown.SecurityException refl);
  }
  is_of_thrown calls.ObjectInit tells = elim tells [ ]
  is_of_thrown calls.GetMessage tells = elim tells [ ]
  is_of_thrown (calls.String one) tells = elim tells [ ]
  is_of_thrown (calls.Builder one) tells = elim tells [ ]
  is_of_thrown calls.Out tells = elim tells [ ]
  is_of_thrown calls.PrintEnd tells = elim tells [ ]
  is_of_thrown (calls.Print one) tells = elim tells [ ]
  is_of_thrown (calls.PermissionInit one) tells = elim tells [ ]
  is_of_thrown (calls.Run side) tells = elim tells [ ]
  is_of_thrown (calls.RunAction side) tells = elim tells [ ]
  is_of_thrown (calls.Thread one) tells = elim tells [ ]
  is_of_thrown (calls.Controller one) tells = elim tells [ ]
  is_of_thrown calls.ContextCheck tells = elim tells [ ]
  is_of_thrown (calls.Rt one) tells = elim tells [ ]

  -- ---- a class without a name

  module _ (named : (i : ℕ) (part : CodePart) → slice_get p.parts i ≡ Some part → this_name part.class ≡ [] → ⊥) where
    none_above : above_name p [] ≡ None
    none_above = by (stands p [])
      where
        by : Stands p [] → above_name p [] ≡ None
        by (Users k part at own is) = absurd (named k part at own)
        by (Libs l called is) =
            let never : None ≡ Some l = sym (unnamed p.side) ∙ called in
            absurd cc
        by (Nowhere none) = ap (option_and_then above) none

    pub not_below : extends p [] throwable ≡ true → ⊥
    unfolding extends
    not_below e =
        let alone : up p [] ≡ [] ∷ [] = up_is p good [] ∙ ap (λ (o : Option (List ℕ)). [] ∷ onward (up p) o) none_above in
        let never : (bytes_eq throwable object || list_any (bytes_eq throwable) ([] ∷ [])) ≡ false = refl in
        let is : (bytes_eq throwable object || list_any (bytes_eq throwable) (up p [])) ≡ (bytes_eq throwable object || list_any (bytes_eq throwable) ([] ∷ [])) =
        ap (λ (xs : List (List ℕ)). bytes_eq throwable object || list_any (bytes_eq throwable) xs) alone in
        let both : true ≡ false = sym e ∙ is ∙ never in
        cc
