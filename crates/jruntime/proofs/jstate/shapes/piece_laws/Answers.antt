use Rattle.jruntime.proofs.JstateProofs.BuilderPieces.{more_stays, named_stays}
use Rattle.jruntime.proofs.JstateProofs.HeapAbstraction.{adds, is_enough, keeps_pieces}
use Rattle.jruntime.proofs.jstate.shapes.piece_laws.Goals as goal

pub returns-clause-adds : goal.returns-clause-adds
returns-clause-adds c = adds

pub returns-clause-more : goal.returns-clause-more
returns-clause-more c = more_stays

pub returns-clause-named : goal.returns-clause-named
returns-clause-named c = named_stays

pub returns-clause-keeps : goal.returns-clause-keeps
returns-clause-keeps c = keeps_pieces

pub returns-clause-enough : goal.returns-clause-enough
returns-clause-enough c = is_enough
