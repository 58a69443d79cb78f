use Rattle.std.proofs.Common.{◌≡◌}
use Rattle.std.specs.Option.{option_copied}
use Rattle.std.specs.Str.{byte}
use Rattle.jground.specs.jbase.ListMaps.{each_some}
use Rattle.jperm.specs.Actions.{named, trimmed, actions_of}
use Rattle.jperm.specs.TextPieces.{pieces_if}
use Rattle.jperm.proofs.Walks.{joined_with, left_of}
use Rattle.jperm.proofs.action.actions_of.Given as goal

abbrev pub invariant-loop-left : goal.invariant-loop-left
invariant-loop-left l =
    joined_with l.actions.0 (each_some (λ piece. named l.fn.kind (trimmed piece)) (pieces_if (byte ",") (option_copied l.left)))
    ≡ actions_of l.fn.kind l.fn.text

abbrev pub decreases-loop-left : goal.decreases-loop-left
decreases-loop-left l = left_of (option_copied l.left)
