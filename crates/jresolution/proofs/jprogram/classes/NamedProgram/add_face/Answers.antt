use Rattle.std.specs.Str.{bytes_eq}
use Rattle.jresolution.specs.jprogram.ProgramClasses.{implements}
use Rattle.jresolution.proofs.JprogramProofs.ImplementationRows.{adds_both}
use Rattle.jresolution.proofs.jprogram.classes.NamedProgram.add_face.Goals as goal

pub returns-clause-added : goal.returns-clause-added
returns-clause-added c = λ e.
    adds_both c.args.self.now (λ i. bytes_eq i c.args.name.now) (λ i. implements c.args.self.now c.args.name.now i) c.args.row.now c.put_name.new.row c.add_row.new.row c.in_ok-put_name.ensures (c.in_ok-made.ensures.added e)
