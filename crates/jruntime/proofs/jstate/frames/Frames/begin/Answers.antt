use Rattle.std.proofs.Common.{◌∙◌, [], None, ap, ap₂, sym}
use Rattle.std.specs.List.{flat_map}
use Rattle.jstacks.specs.ListStacks.{on_top, padded}
use Rattle.jsemantics.specs.jmachine.BasicInstructions.{places}
use Rattle.jruntime.specs.jstate.FrameLists.{shown}
use Rattle.jruntime.proofs.JstateProofs.FrameLists.{begins, begun, not_err}
use Rattle.jruntime.proofs.jstate.frames.Frames.begin.Goals as goal

pub returns : goal.returns
returns g c =
    let none = sym c.is_err-2.ensures.value ∙ c.if-is_err-2.false in
    let opened = not_err c.open.result (sym c.is_err.ensures.value ∙ c.if-is_err.false) c.open.ensures.ok in
    ap₂ (λ ats ms. shown (begins c.args.method) c.args.mark ats ms c.open_from.new.self c.reserve.new.self)
    (not_err c.stand.result none c.stand.ensures.below) (not_err c.stand.result none c.stand.ensures.marks)
    ∙ begun c.self.inside.at c.self.inside.mark c.args.method c.args.most c.args.arguments c.args.mark c.self.inside.below.items c.self.inside.marks.items
    c.self.inside.locals c.open_from.new.self c.self.inside.operands c.reserve.new.self
    c.args.self.now c.self.view_is c.self.invariant.0 (c.in_ok-open_from.ensures.newest ∙ ap (λ vs. padded c.args.most None (flat_map places vs)) c.top-given.ensures) c.in_ok-open_from.ensures.below
    (c.reserve.ensures ∙ opened ∙ ap (on_top []) c.shrink.ensures)
