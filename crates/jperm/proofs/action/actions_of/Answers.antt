use Rattle.std.proofs.Common.{ℕ, sym, ap, ◌∙◌}
use Rattle.std.specs.Option.{option_copied, option_map}
use Rattle.std.specs.Str.{byte}
use Rattle.jground.specs.jbase.ListMaps.{each_some}
use Rattle.jperm.specs.declared.set.Actions.{Actions}
use Rattle.jperm.specs.Actions.{named, trimmed, actions_of}
use Rattle.jperm.specs.TextPieces.{pieces_if}
use Rattle.jperm.proofs.Walks.{action_more, action_none, actions_end, joined_with}
use Rattle.jperm.proofs.action.actions_of.Goals as goal

pub returns-in_err-named : goal.returns-in_err-named
returns-in_err-named c =
    ap (option_map (λ (set : Actions). set.0)) c.from_residual.ensures
    ∙ sym (action_none (byte ",") (λ piece. named c.args.kind.now (trimmed piece)) c.loop-left.actions.0 (option_copied c.loop-left.left) c.in-Some.rest.now c.first_piece.result.0.now (option_copied c.first_piece.result.1)
    (actions_of c.args.kind.now c.args.text.now) (ap option_copied c.in-Some.is) c.first_piece.ensures.pieces (ap (named c.args.kind.now) (sym c.trimmed.ensures) ∙ sym c.in_err-named.ensures) c.loop-left.invariant)

pub loop-left-preserved : goal.loop-left-preserved
loop-left-preserved c =
    ap (λ (n : ℕ). joined_with n (each_some (λ piece. named c.args.kind.now (trimmed piece)) (pieces_if (byte ",") (option_copied c.first_piece.result.1)))) (c.insert.ensures tt)
    ∙ action_more (byte ",") (λ piece. named c.args.kind.now (trimmed piece)) c.loop-left.actions.0 (option_copied c.loop-left.left) c.in-Some.rest.now c.first_piece.result.0.now (option_copied c.first_piece.result.1) c.in_ok-named.field-0 c.bit.result.0
    (actions_of c.args.kind.now c.args.text.now) (ap option_copied c.in-Some.is) c.first_piece.ensures.pieces (ap (named c.args.kind.now) (sym c.trimmed.ensures) ∙ sym c.in_ok-named.ensures) c.bit.ensures c.loop-left.invariant

pub returns : goal.returns
returns c =
    actions_end (byte ",") (λ piece. named c.args.kind.now (trimmed piece)) c.loop-left.actions.0 (option_copied c.loop-left.left)
    (actions_of c.args.kind.now c.args.text.now) (ap option_copied c.in_default.is) c.loop-left.invariant
