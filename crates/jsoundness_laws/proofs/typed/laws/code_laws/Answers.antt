use Rattle.jsoundness_laws.proofs.TypedProofs.Codes.{itself_coded, selected_coded}
use Rattle.jsoundness_laws.proofs.typed.laws.code_laws.Goals as goal

pub returns-clause-itself : goal.returns-clause-itself
returns-clause-itself c = itself_coded

pub returns-clause-selected : goal.returns-clause-selected
returns-clause-selected c = selected_coded
