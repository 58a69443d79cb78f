use Rattle.std.proofs.Common.{refl}
use Rattle.jdomain.specs.Domains.{has}
use Rattle.jguard.specs.declared.ask.Ask.TheVariants as asks
use Rattle.jforms.proofs.JplainProofs.PlainAnswers.{becomes, check_kept_there, checked, checked_kept, checked_there, enter_there, entered, first_in, if_becomes, inherit}
use Rattle.jforms.proofs.JplainProofs.PlainAnswers.{privileged, privileged_there, snapshot}
use Rattle.jforms.proofs.jplain.plain_guard.PlainGuardGuard.secure.Goals as goal

pub enter-requires : goal.enter-requires
enter-requires c = enter_there c.args.self.now.contexts c.args.ask c.in-Enter.ctx c.in-Enter.domain c.in-Enter.is c.requires.ask

pub check-requires : goal.check-requires
check-requires c =
    checked_there c.args.self.now.contexts (first_in _ _ c.self.view_is c.number_or_first-n.ensures.first) c.args.ask c.in-Check.asked c.in-Check.ctx
    c.number_or_first-n.result c.in-Check.is c.number_or_first-n.ensures.value c.requires.ask

pub check-requires-in-CheckKept : goal.check-requires-in-CheckKept
check-requires-in-CheckKept c = check_kept_there c.args.self.now.contexts c.args.ask c.in-CheckKept.asked c.in-CheckKept.kept c.in-CheckKept.is c.requires.ask

pub privilege-requires-clause-there : goal.privilege-requires-clause-there
privilege-requires-clause-there c =
    (privileged_there c.args.self.now.contexts (first_in _ _ c.self-in-Privileged.view_is c.number_or_first-n-in-Privileged.ensures.first) c.args.ask
    c.in-Privileged.domain c.in-Privileged.ctx c.in-Privileged.given c.in-Privileged.limits
    c.number_or_first-n-in-Privileged.result c.in-Privileged.is c.number_or_first-n-in-Privileged.ensures.value c.requires.ask).0

pub privilege-requires-clause-given : goal.privilege-requires-clause-given
privilege-requires-clause-given c =
    (privileged_there c.args.self.now.contexts (first_in _ _ c.self-in-Privileged.view_is c.number_or_first-n-in-Privileged.ensures.first) c.args.ask
    c.in-Privileged.domain c.in-Privileged.ctx c.in-Privileged.given c.in-Privileged.limits
    c.number_or_first-n-in-Privileged.result c.in-Privileged.is c.number_or_first-n-in-Privileged.ensures.value c.requires.ask).1

pub returns-in-Enter-clause-answer : goal.returns-in-Enter-clause-answer
returns-in-Enter-clause-answer c =
    entered (has c.args.self.now.domains) c.args.self.now.contexts c.enter.new.self.contexts c.args.marks.now c.args.inherited c.args.ask c.in-Enter.ctx
    c.in-Enter.domain c.enter.result c.in-Enter.is c.enter.ensures.context

pub returns-in-Check-clause-answer : goal.returns-in-Check-clause-answer
returns-in-Check-clause-answer c =
    checked (has c.args.self.now.domains) c.args.self.now.contexts c.args.self.now.contexts c.args.marks.now c.args.inherited
    (first_in _ _ c.self.view_is c.number_or_first-n.ensures.first) c.args.ask c.in-Check.asked c.in-Check.ctx
    c.number_or_first-n.result c.check.result c.in-Check.is c.number_or_first-n.ensures.value c.check.ensures

pub returns-in-CheckKept-clause-answer : goal.returns-in-CheckKept-clause-answer
returns-in-CheckKept-clause-answer c =
    checked_kept (has c.args.self.now.domains) c.args.self.now.contexts c.args.self.now.contexts c.args.marks.now c.args.inherited c.args.ask c.in-CheckKept.asked
    c.in-CheckKept.kept c.check-in-CheckKept.result c.in-CheckKept.is c.check-in-CheckKept.ensures

pub returns-in-Snapshot-clause-answer : goal.returns-in-Snapshot-clause-answer
returns-in-Snapshot-clause-answer c =
    snapshot (has c.args.self.now.domains) c.args.self.now.contexts c.args.self.now.contexts c.args.marks.now c.args.inherited refl
    (first_in _ _ c.self-in-Snapshot.view_is c.number_or_first.ensures.first) c.args.ask c.in-Snapshot.ctx
    c.number_or_first.result c.in-Snapshot.is c.number_or_first.ensures.value

pub returns-in-Inherit-clause-answer : goal.returns-in-Inherit-clause-answer
returns-in-Inherit-clause-answer c =
    inherit (has c.args.self.now.domains) c.args.self.now.contexts c.args.self.now.contexts c.args.marks.now c.args.inherited refl
    (first_in _ _ c.self-in-Inherit.view_is c.number_or_first-in-Inherit.ensures.first) c.args.ask c.in-Inherit.ctx
    c.number_or_first-in-Inherit.result c.in-Inherit.is c.number_or_first-in-Inherit.ensures.value

pub returns-in-Privileged-clause-answer : goal.returns-in-Privileged-clause-answer
returns-in-Privileged-clause-answer c =
    privileged (has c.args.self.now.domains) c.args.self.now.contexts c.privilege.new.self.contexts c.args.marks.now c.args.inherited
    (first_in _ _ c.self-in-Privileged.view_is c.number_or_first-n-in-Privileged.ensures.first) c.args.ask
    c.in-Privileged.domain c.in-Privileged.ctx c.in-Privileged.given c.in-Privileged.limits c.unwrap_or.result c.number_or_first-n-in-Privileged.result
    c.privilege.result c.in-Privileged.is c.unwrap_or.ensures c.number_or_first-n-in-Privileged.ensures.value c.privilege.ensures.handed

pub returns-in-Enter-clause-once : goal.returns-in-Enter-clause-once
returns-in-Enter-clause-once c =
    if_becomes c.args.self.now c.enter.new.self c.args.ask (asks.Enter c.in-Enter.ctx c.in-Enter.domain) c.enter.result c.in-Enter.is c.enter.ensures.grown

pub returns-in-Check-clause-once : goal.returns-in-Check-clause-once
returns-in-Check-clause-once c = becomes c.args.self.now c.args.self.now c.args.ask (asks.Check c.in-Check.asked c.in-Check.ctx) c.in-Check.is refl

pub returns-in-CheckKept-clause-once : goal.returns-in-CheckKept-clause-once
returns-in-CheckKept-clause-once c = becomes c.args.self.now c.args.self.now c.args.ask (asks.CheckKept c.in-CheckKept.asked c.in-CheckKept.kept) c.in-CheckKept.is refl

pub returns-in-Snapshot-clause-once : goal.returns-in-Snapshot-clause-once
returns-in-Snapshot-clause-once c = becomes c.args.self.now c.args.self.now c.args.ask (asks.Snapshot c.in-Snapshot.ctx) c.in-Snapshot.is refl

pub returns-in-Inherit-clause-once : goal.returns-in-Inherit-clause-once
returns-in-Inherit-clause-once c = becomes c.args.self.now c.args.self.now c.args.ask (asks.Inherit c.in-Inherit.ctx) c.in-Inherit.is refl

pub returns-in-Privileged-clause-once : goal.returns-in-Privileged-clause-once
returns-in-Privileged-clause-once c =
    if_becomes c.args.self.now c.privilege.new.self c.args.ask
    (asks.Privileged c.in-Privileged.domain c.in-Privileged.ctx c.in-Privileged.given c.in-Privileged.limits) c.privilege.result c.in-Privileged.is
    c.privilege.ensures.grown
