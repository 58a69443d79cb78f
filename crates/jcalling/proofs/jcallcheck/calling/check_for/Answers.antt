use Rattle.std.proofs.Common.{◌∙◌, ap, sym, Some}
use Rattle.jlibcalls.specs.declared.jchecks.asking.Asked.TheVariants as asks
use Rattle.jstepping.specs.jcore.MachineInvariants.{store_of, things_of}
use Rattle.jguard.proofs.SingleAsks.{asked_nothing, asked_once}
use Rattle.jstepping.specs.jcore.AnsweredCalls.{asked_of}
use Rattle.jcalling.specs.jcallcheck.CheckRequests.{ask_by}
use Rattle.jcalling.proofs.JcallcheckProofs.CheckAnswers.{asked_is, asks_as, asks_it, asks_some, decided, held_as, known_ask, none_row, null_row, quiet, stuck_comes}
use Rattle.jcalling.proofs.jcallcheck.calling.check_for.Goals as goal

pub ask-requires : goal.ask-requires
ask-requires g c =
    let m = c.args.m.now in
    let calling = c.requires.calling in
    let asks = c.asks_for.ensures m.calls m.fixed.shapes.now (things_of m) m.constants.constants (sym c.as_slice.ensures) in
    known_ask m calling.frames c.args.call c.args.count c.args.wanted (c.requires.found calling.frames calling.runs) _ _ c.asks_for.result c.in_ok-asked-in-Permission.asked
    asks (ap held_as c.in-Permission.is ∙ ap (λ x. Some x) (sym c.in_ok-asked-in-Permission.ensures)) (c.requires.known calling.frames calling.runs)

pub returns-in-Stuck-clause-answered : goal.returns-in-Stuck-clause-answered
returns-in-Stuck-clause-answered g c f runs =
    let m = c.args.m.now in
    let finds = c.requires.found f runs in
    let stuck = asks_as g.row.G-Mark.Denot (store_of m) c.args.wanted.operand c.asks_for.result asks.Stuck c.in-Stuck.is
    (c.asks_for.ensures m.calls m.fixed.shapes.now (things_of m) m.constants.constants (sym c.as_slice.ensures)) in
    quiet _ _ _ _ _ m m f c.args.call c.args.count _ runs _ (asked_is m f c.args.call c.args.count c.args.wanted finds asks.Stuck stuck)
    (none_row m f c.args.call c.args.count c.args.wanted finds stuck) (stuck_comes c.check_laws.ensures.nothing m c.args.count)

pub returns-in_ok-done-in-Null-clause-answered : goal.returns-in_ok-done-in-Null-clause-answered
returns-in_ok-done-in-Null-clause-answered g c f runs =
    let m = c.args.m.now in
    let finds = c.requires.found f runs in
    let null = asks_as g.row.G-Mark.Denot (store_of m) c.args.wanted.operand c.asks_for.result asks.Null c.in-Null.is
    (c.asks_for.ensures m.calls m.fixed.shapes.now (things_of m) m.constants.constants (sym c.as_slice.ensures)) in
    quiet _ _ _ _ _ m c.check_null.new.m f c.args.call c.args.count _ runs _ (asked_is m f c.args.call c.args.count c.args.wanted finds asks.Null null)
    (null_row m f c.args.call c.args.count c.args.wanted finds null) c.in_ok-done-in-Null.ensures.comes

pub returns-in_ok-done-in-Permission-clause-answered : goal.returns-in_ok-done-in-Permission-clause-answered
returns-in_ok-done-in-Permission-clause-answered g c f runs =
    let m = c.args.m.now in
    let finds = c.requires.found f runs in
    let asks = c.asks_for.ensures m.calls m.fixed.shapes.now (things_of m) m.constants.constants (sym c.as_slice.ensures) in
    decided _ _ _ _ _ m c.decide.new.m f c.args.call c.args.count _ runs c.args.wanted finds c.in_ok-asked-in-Permission.asked c.in_ok-verdict-in-Permission.verdict
    c.asks_for.result asks (ap held_as c.in-Permission.is ∙ ap (λ x. Some x) (sym c.in_ok-asked-in-Permission.ensures)) c.in_ok-verdict-in-Permission.ensures.answer
    c.in_ok-done-in-Permission.ensures.comes

pub returns-in_err-verdict-in-Permission-clause-quiet : goal.returns-in_err-verdict-in-Permission-clause-quiet
returns-in_err-verdict-in-Permission-clause-quiet g c f runs none =
    let m = c.args.m.now in
    let asks = c.asks_for.ensures m.calls m.fixed.shapes.now (things_of m) m.constants.constants (sym c.as_slice.ensures) in
    absurd
    (asks_some m f c.args.call c.args.count c.args.wanted (c.requires.found f runs) c.asks_for.result c.in_ok-asked-in-Permission.asked asks
    (ap held_as c.in-Permission.is ∙ ap (λ x. Some x) (sym c.in_ok-asked-in-Permission.ensures)) none)

pub returns-in_err-done-in-Permission-clause-quiet : goal.returns-in_err-done-in-Permission-clause-quiet
returns-in_err-done-in-Permission-clause-quiet g c f runs none =
    let m = c.args.m.now in
    let asks = c.asks_for.ensures m.calls m.fixed.shapes.now (things_of m) m.constants.constants (sym c.as_slice.ensures) in
    absurd
    (asks_some m f c.args.call c.args.count c.args.wanted (c.requires.found f runs) c.asks_for.result c.in_ok-asked-in-Permission.asked asks
    (ap held_as c.in-Permission.is ∙ ap (λ x. Some x) (sym c.in_ok-asked-in-Permission.ensures)) none)

pub returns-in_ok-done-in-Permission-clause-quiet : goal.returns-in_ok-done-in-Permission-clause-quiet
returns-in_ok-done-in-Permission-clause-quiet g c f runs none =
    let m = c.args.m.now in
    let asks = c.asks_for.ensures m.calls m.fixed.shapes.now (things_of m) m.constants.constants (sym c.as_slice.ensures) in
    absurd
    (asks_some m f c.args.call c.args.count c.args.wanted (c.requires.found f runs) c.asks_for.result c.in_ok-asked-in-Permission.asked asks
    (ap held_as c.in-Permission.is ∙ ap (λ x. Some x) (sym c.in_ok-asked-in-Permission.ensures)) none)

pub returns-in-Stuck-clause-once : goal.returns-in-Stuck-clause-once
returns-in-Stuck-clause-once g c f runs =
    let m = c.args.m.now in
    let stuck = asks_as g.row.G-Mark.Denot (store_of m) c.args.wanted.operand c.asks_for.result asks.Stuck c.in-Stuck.is
    (c.asks_for.ensures m.calls m.fixed.shapes.now (things_of m) m.constants.constants (sym c.as_slice.ensures)) in
    asked_nothing g.G.Guard.asked c.args.guard.now (asked_of m f c.args.call c.args.count)
    (asked_is m f c.args.call c.args.count c.args.wanted (c.requires.found f runs) asks.Stuck stuck)

pub returns-in_ok-done-in-Null-clause-once : goal.returns-in_ok-done-in-Null-clause-once
returns-in_ok-done-in-Null-clause-once g c f runs =
    let m = c.args.m.now in
    let null = asks_as g.row.G-Mark.Denot (store_of m) c.args.wanted.operand c.asks_for.result asks.Null c.in-Null.is
    (c.asks_for.ensures m.calls m.fixed.shapes.now (things_of m) m.constants.constants (sym c.as_slice.ensures)) in
    asked_nothing g.G.Guard.asked c.args.guard.now (asked_of m f c.args.call c.args.count)
    (asked_is m f c.args.call c.args.count c.args.wanted (c.requires.found f runs) asks.Null null)

pub returns-in_ok-done-in-Permission-clause-once : goal.returns-in_ok-done-in-Permission-clause-once
returns-in_ok-done-in-Permission-clause-once g c f runs =
    let m = c.args.m.now in
    let asked = c.in_ok-asked-in-Permission.asked in
    let asks = c.asks_for.ensures m.calls m.fixed.shapes.now (things_of m) m.constants.constants (sym c.as_slice.ensures) in
    asked_once g.G.Guard.asked c.args.guard.now (asked_of m f c.args.call c.args.count) c.ask.new.guard (ask_by c.args.wanted.whom asked)
    (asks_it m f c.args.call c.args.count c.args.wanted (c.requires.found f runs) c.asks_for.result asked asks
    (ap held_as c.in-Permission.is ∙ ap (λ x. Some x) (sym c.in_ok-asked-in-Permission.ensures))) c.in_ok-verdict-in-Permission.ensures.once
