use Rattle.jsoundness_laws.proofs.TypedProofs.Faces.{implements_faces, instance_fits}
use Rattle.jsoundness_laws.proofs.TypedProofs.Orders.{fits_in_order}
use Rattle.jsoundness_laws.proofs.typed.laws.fits_laws.Goals as goal

pub returns-clause-after : goal.returns-clause-after
returns-clause-after c = fits_in_order

pub returns-clause-faces : goal.returns-clause-faces
returns-clause-faces c = implements_faces

pub returns-clause-instance : goal.returns-clause-instance
returns-clause-instance c = instance_fits
