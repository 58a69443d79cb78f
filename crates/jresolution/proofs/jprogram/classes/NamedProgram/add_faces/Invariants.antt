use Rattle.std.proofs.Common.{◌≡◌, drop}
use Rattle.std.specs.List.{list_all}
use Rattle.jresolution.specs.jprogram.ImplementedInterfaces.{face_has, face_made}
use Rattle.jresolution.proofs.JprogramProofs.ImplementationRows.{Rest}
use Rattle.jresolution.proofs.jprogram.classes.NamedProgram.add_faces.Given as goal

abbrev pub invariant-loop-i : goal.invariant-loop-i
invariant-loop-i l =
    (list_all (face_made l.self l.rows l.class) (drop l.i-index l.class.interfaces) ≡ list_all (face_made l.self l.rows l.class) l.class.interfaces)
    × Rest l.self (λ i. face_has l.self i l.class) l.class.interfaces (drop l.i-index l.class.interfaces) l.row l.fn.row
