use Rattle.std.proofs.Common.{ap, map, ◌∙◌}
use Rattle.jjob.specs.JobNames.{digest, plain}
use Rattle.jjob.proofs.JobNames.{note_other, note_prop}
use Rattle.jjob.proofs.names.note_kept.Goals as goal

pub returns-in_default : goal.returns-in_default
returns-in_default c = note_other (map plain c.args.names.now.items) c.args.number c.args.line.now c.in_default.ensures.none

pub returns : goal.returns
returns c = note_prop c.args.names.now.items c.push.new.self.items c.args.number c.digest-digest.result c.in-Some.name c.args.line.now c.in-Some.field-0-1.now c.requires c.in-Some.ensures.some
    (c.digest-digest.ensures ∙ ap digest c.as_bytes.ensures.value) c.in_ok-push.ensures.items
