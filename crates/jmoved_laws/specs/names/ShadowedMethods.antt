-- Methods of the library that stand in the way of a call: they have its name and its descriptor, and the moved program, which looks for another
-- descriptor, misses them.
use Rattle.std.specs.Prelude.{◌≡◌, ℕ, true, false, List, Some}
use Rattle.std.specs.List.{AllByRecursion}
use Rattle.std.specs.Str.{bytes_eq}
use Rattle.jlib.specs.declared.calls.LibCall.{LibCall}
use Rattle.jresolution.specs.declared.jprogram.member.Member.TheVariants.{LibMethod, Method}
use Rattle.jresolution.specs.declared.jprogram.member.MethodId.{MethodId}
use Rattle.jresolution.specs.jprogram.ProgramClasses.{Program, extends, find, holds, implements, is_interface, up}
use Rattle.jresolution.specs.jprogram.MemberResolution.{init, method_at, resolve_method}
use Rattle.jresolution.specs.jprogram.NameChecks.{is_reserved}
use Rattle.jrewriting.specs.jrewrite.LinkageLaws.{IsLinked}
use Rattle.jmoved_laws.specs.names.MovedLookUps.{library_handed}

-- what the class of a name declares of this name and descriptor is no method of the library that is handed no context
abbrev pub IsClearAt : Program → List ℕ → List ℕ → List ℕ → Type 0
IsClearAt p name desc class = (x : LibCall) → method_at p name desc class ≡ Some (LibMethod x) → library_handed x ≡ true

-- none stands in the way along these classes
abbrev pub IsClear : Program → List ℕ → List ℕ → List (List ℕ) → Type 0
IsClear p name desc names = AllByRecursion (IsClearAt p name desc) names

-- None stands in the way of a user's method, along each class that extends the one by which it is named,
abbrev pub ClearBelow : Type 0
ClearBelow = (p : Program) (owner name desc class : List ℕ) (m : MethodId) → IsLinked p → is_reserved owner ≡ false → bytes_eq name init ≡ false
    → resolve_method p owner name desc ≡ Some (Method m) → extends p class owner ≡ true → IsClear p name desc (up p class)

-- and along each that has the interface by which it is named.
abbrev pub ClearWhereHad : Type 0
ClearWhereHad = (p : Program) (owner name desc class : List ℕ) (m : MethodId) → IsLinked p → is_reserved owner ≡ false → bytes_eq name init ≡ false
    → resolve_method p owner name desc ≡ Some (Method m) → holds is_interface (find p owner) ≡ true → implements p class owner ≡ true
    → is_reserved class ≡ false
    → IsClear p name desc (up p class)
