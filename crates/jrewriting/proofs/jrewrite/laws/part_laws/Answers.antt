use Rattle.jrewriting.proofs.JrewriteProofs.ClassFileParts.{parts_are_files}
use Rattle.jrewriting.proofs.jrewrite.laws.part_laws.Goals as goal

pub returns : goal.returns
returns g p is typed none i part at = parts_are_files p is typed none i part at
