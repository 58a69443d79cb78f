use Rattle.joutput.proofs.JioProofs.Files.{stored_here, stored_elsewhere}
use Rattle.joutput.proofs.jio.shelf.stored_laws.Goals as goal

pub returns-clause-here : goal.returns-clause-here
returns-clause-here c = stored_here

pub returns-clause-elsewhere : goal.returns-clause-elsewhere
returns-clause-elsewhere c = λ path bytes other files ne. stored_elsewhere path bytes files other ne
