use Rattle.jsoundness_laws.proofs.LibraryProofs.PermissionRows.{permission_yields}
use Rattle.jsoundness_laws.proofs.library.laws.permission_law.Goals as goal

pub returns : goal.returns
returns g c = permission_yields _ _
