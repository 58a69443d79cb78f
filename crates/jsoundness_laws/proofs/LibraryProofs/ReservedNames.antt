-- What one side's library has alone isn't found on the other: no user's class has a name that is kept for the passing side.
use Rattle.std.proofs.Common.{◌≡◌, ℕ, inl, inr, false, Some, None, sym, ap, ◌∙◌}
use Rattle.std.specs.Prelude.{slice_get}
use Rattle.jlib.specs.declared.classes.LibClass.{LibClass}
use Rattle.jlib.specs.declared.side.Side.{Side}
use Rattle.jlib.specs.LibraryClasses as library
use Rattle.jresolution.specs.declared.jprogram.part.CodePart.{CodePart}
use Rattle.jresolution.specs.jprogram.ClassFileParts.{this_name}
use Rattle.jresolution.specs.jprogram.ProgramClasses.{Program, find}
use Rattle.jresolution.specs.jprogram.NameChecks.{is_reserved}
use Rattle.jresolution.specs.jprogram.ProofNames.{reserved_on}
use Rattle.jresolution.specs.jprogram.OrderedPrograms.{StandsInOrder}
use Rattle.jresolution.proofs.JprogramProofs.NameReachability.{clash}
use Rattle.jresolution.proofs.JprogramProofs.ReservedNames.{IsKept, Sided, sided, this_plain, unreserved}
use Rattle.jresolution.proofs.JprogramProofs.ClassHeights.{Stands, Users, Libs, Nowhere, stands}

module _ (p : Program) (good : StandsInOrder p) where
  kept_apart : (i : ℕ) (part : CodePart) (l : LibClass) → slice_get p.parts i ≡ Some part → IsKept p.side l → this_name part.class ≡ library.name_of l → ⊥
  kept_apart i part l at kept named =
      let plain = this_plain part.class (sym (ap (λ (s : Side). reserved_on s part.class) kept.here) ∙ unreserved p good i part at) in
      clash (is_reserved (library.name_of l)) kept.kept (sym (ap is_reserved named) ∙ plain)

  nothing_kept : (l k : LibClass) → IsKept p.side l → library.class_named p.side (library.name_of l) ≡ Some k → ⊥
  nothing_kept l k kept named = none_some k (sym kept.none ∙ named)
    where
      none_some : (k : LibClass) → None ≡ Some k → ⊥
      none_some k e = cc

  none_kept : (l : LibClass) → IsKept p.side l → Stands p (library.name_of l) → find p (library.name_of l) ≡ None
  none_kept l kept (Users i part at name is) = absurd (kept_apart i part l at kept name)
  none_kept l kept (Libs k named is) = absurd (nothing_kept l k kept named)
  none_kept l kept (Nowhere none) = none

  -- a class of the library that the program's side hasn't
  pub not_found : (l : LibClass) → library.stands_on p.side l ≡ false → find p (library.name_of l) ≡ None
  not_found l off = by (sided p.side l)
    where
      by : Sided p.side l → find p (library.name_of l) ≡ None
      by (inl on) = clash (library.stands_on p.side l) on off
      by (inr kept) = none_kept l kept (stands p (library.name_of l))
