use Rattle.std.proofs.Common.{rules, pos, sym, ap, refl, ◌∙◌}
use Rattle.jverify.specs.FrameTables.{has_last, shares}
use Rattle.jverify.proofs.FrameSearch.{found_again}
use Rattle.jverify.proofs.declared.shares.Goals as goal

pub returns-in-None : goal.returns-in-None
returns-in-None c =
    ap (has_last c.args.last) (found_again c.args.frames.now c.args.frames.now (pos c.in-Some.at) _ _ c.in-None.ensures refl (search rules))
    ∙ ap (shares c.args.frames.now c.args.last) (sym c.in-Some.is)

pub returns-in-Some-found : goal.returns-in-Some-found
returns-in-Some-found c =
    ap (has_last c.args.last) (found_again c.args.frames.now c.args.frames.now (pos c.in-Some.at) _ _ c.in-Some-found.ensures refl (search rules))
    ∙ ap (shares c.args.frames.now c.args.last) (sym c.in-Some.is)
