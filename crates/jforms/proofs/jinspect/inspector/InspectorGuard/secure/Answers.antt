use Rattle.std.proofs.Common.{refl}
use Rattle.jdomain.specs.Domains.{has}
use Rattle.jguard.specs.declared.ask.Ask.TheVariants as asks
use Rattle.jforms.proofs.JinspectProofs.InspectingAnswers.{becomes, checked, checked_kept, entered, if_becomes, inherit, privileged, snapshot}
use Rattle.jforms.proofs.JinspectProofs.MarkMeanings.{marks_below}
use Rattle.jforms.proofs.jinspect.inspector.InspectorGuard.secure.Goals as goal

pub check-requires-clause-marks : goal.check-requires-clause-marks
check-requires-clause-marks c = marks_below c.args.self.now.entries c.args.marks.now c.requires.marks.0 c.requires.marks.1

pub snapshot-requires-clause-marks : goal.snapshot-requires-clause-marks
snapshot-requires-clause-marks c = marks_below c.args.self.now.entries c.args.marks.now c.requires.marks.0 c.requires.marks.1

pub snapshot-requires-in-Inherit-clause-marks : goal.snapshot-requires-in-Inherit-clause-marks
snapshot-requires-in-Inherit-clause-marks c = marks_below c.args.self.now.entries c.args.marks.now c.requires.marks.0 c.requires.marks.1

pub returns-in-Enter-clause-answer : goal.returns-in-Enter-clause-answer
returns-in-Enter-clause-answer c =
    entered (has c.args.self.now.domains) c.args.self.now.entries c.args.self.now.entries c.args.marks.now c.args.inherited (λ n k e. e) c.args.ask c.in-Enter.ctx c.in-Enter.domain c.in-Enter.is

pub returns-in-Check-clause-answer : goal.returns-in-Check-clause-answer
returns-in-Check-clause-answer c =
    checked (has c.args.self.now.domains) c.args.self.now.entries c.args.self.now.entries c.args.marks.now c.args.inherited c.args.ask c.in-Check.asked c.in-Check.ctx c.in-Check.is c.check.result c.check.ensures

pub returns-in-CheckKept-clause-answer : goal.returns-in-CheckKept-clause-answer
returns-in-CheckKept-clause-answer c =
    checked_kept (has c.args.self.now.domains) c.args.self.now.entries c.args.self.now.entries c.args.marks.now c.args.inherited c.args.ask c.in-CheckKept.asked c.in-CheckKept.kept c.in-CheckKept.is c.check_kept.result c.check_kept.ensures

pub returns-in-Snapshot-clause-answer : goal.returns-in-Snapshot-clause-answer
returns-in-Snapshot-clause-answer c =
    snapshot (has c.args.self.now.domains) c.args.self.now.entries c.snapshot.new.self.entries c.args.marks.now c.args.inherited c.args.ask c.in-Snapshot.ctx c.in-Snapshot.is c.snapshot.result c.snapshot.ensures.kept

pub returns-in-Inherit-clause-answer : goal.returns-in-Inherit-clause-answer
returns-in-Inherit-clause-answer c =
    inherit (has c.args.self.now.domains) c.args.self.now.entries c.snapshot-in-Inherit.new.self.entries c.args.marks.now c.args.inherited c.args.ask c.in-Inherit.ctx c.in-Inherit.is c.snapshot-in-Inherit.result c.snapshot-in-Inherit.ensures.kept

pub returns-in-Privileged-clause-answer : goal.returns-in-Privileged-clause-answer
returns-in-Privileged-clause-answer c =
    privileged (has c.args.self.now.domains) c.args.self.now.entries c.privilege.new.self.entries c.args.marks.now c.args.inherited c.args.ask c.in-Privileged.domain c.in-Privileged.ctx c.in-Privileged.given c.in-Privileged.limits c.in-Privileged.is c.privilege.result c.privilege.ensures.marked

pub returns-in-Enter-clause-once : goal.returns-in-Enter-clause-once
returns-in-Enter-clause-once c =
    becomes c.args.self.now c.args.self.now c.args.ask (asks.Enter c.in-Enter.ctx c.in-Enter.domain) c.in-Enter.is refl

pub returns-in-Check-clause-once : goal.returns-in-Check-clause-once
returns-in-Check-clause-once c =
    if_becomes c.args.self.now c.args.self.now c.args.ask (asks.Check c.in-Check.asked c.in-Check.ctx) c.check.result c.in-Check.is refl

pub returns-in-CheckKept-clause-once : goal.returns-in-CheckKept-clause-once
returns-in-CheckKept-clause-once c =
    if_becomes c.args.self.now c.args.self.now c.args.ask (asks.CheckKept c.in-CheckKept.asked c.in-CheckKept.kept) c.check_kept.result c.in-CheckKept.is refl

pub returns-in-Snapshot-clause-once : goal.returns-in-Snapshot-clause-once
returns-in-Snapshot-clause-once c =
    if_becomes c.args.self.now c.snapshot.new.self c.args.ask (asks.Snapshot c.in-Snapshot.ctx) c.snapshot.result c.in-Snapshot.is c.snapshot.ensures.earlier

pub returns-in-Inherit-clause-once : goal.returns-in-Inherit-clause-once
returns-in-Inherit-clause-once c =
    if_becomes c.args.self.now c.snapshot-in-Inherit.new.self c.args.ask (asks.Inherit c.in-Inherit.ctx) c.snapshot-in-Inherit.result c.in-Inherit.is
    c.snapshot-in-Inherit.ensures.earlier

pub returns-in-Privileged-clause-once : goal.returns-in-Privileged-clause-once
returns-in-Privileged-clause-once c =
    if_becomes c.args.self.now c.privilege.new.self c.args.ask
    (asks.Privileged c.in-Privileged.domain c.in-Privileged.ctx c.in-Privileged.given c.in-Privileged.limits) c.privilege.result c.in-Privileged.is
    c.privilege.ensures.earlier
