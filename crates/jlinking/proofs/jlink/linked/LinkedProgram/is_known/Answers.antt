use Rattle.std.proofs.Common.{◌∙◌, ap}
use Rattle.jresolution.specs.jprogram.ProgramClasses.{Program}
use Rattle.jlinking.proofs.JlinkProofs.UserClassNumbers.{lib_known, lib_only, user_known, user_only}
use Rattle.jlinking.proofs.jlink.linked.LinkedProgram.is_known.Goals as goal

pub returns-in-User-clause-known : goal.returns-in-User-clause-known
returns-in-User-clause-known c =
    user_known c.args.self.now c.args.class c.in-User.i c.parts.result.now c.in-User.is
    (c.parts.ensures.same ∙ ap (λ (p : Program). p.parts) c.in_order-p.ensures.same) c.in_order-p.ensures.order

pub returns-in-User-clause-only : goal.returns-in-User-clause-only
returns-in-User-clause-only c =
    user_only c.args.self.now c.args.class c.in-User.i c.parts.result.now c.in-User.is
    (c.parts.ensures.same ∙ ap (λ (p : Program). p.parts) c.in_order-p.ensures.same)

pub returns-in-Lib-clause-known : goal.returns-in-Lib-clause-known
returns-in-Lib-clause-known c =
    lib_known c.args.self.now c.args.class c.in-Lib.c c.side.result c.stands_on.result c.in-Lib.is
    (c.side.ensures ∙ ap (λ (p : Program). p.side) c.in_order-p.ensures.same) c.stands_on.ensures c.in_order-p.ensures.order

pub returns-in-Lib-clause-only : goal.returns-in-Lib-clause-only
returns-in-Lib-clause-only c =
    lib_only c.args.self.now c.args.class c.in-Lib.c c.side.result c.stands_on.result c.in-Lib.is
    (c.side.ensures ∙ ap (λ (p : Program). p.side) c.in_order-p.ensures.same) c.stands_on.ensures
