use Rattle.std.proofs.Common.{◌∙◌}
use Rattle.jjob.specs.declared.line.Said.TheVariants.{Prop}
use Rattle.jjob.specs.Jobs.{said_by}
use Rattle.jjob.proofs.JobParser.{digest_none, digest_prop, on_ok, prop_fits, says_no_name, takes_said}
use Rattle.jjob.proofs.reader.take_kept.Goals as goal

pub returns-in_default-clause-noted : goal.returns-in_default-clause-noted
returns-in_default-clause-noted c = on_ok c.take_other.result (digest_none c.args.line.now c.args.digests.now.items (says_no_name c.args.line.now c.in_default.ensures.none))

pub returns-clause-taken : goal.returns-clause-taken
returns-clause-taken c = λ lines is.
    takes_said lines c.args.line.now (Prop c.in-Some.name.now c.in-Some.value.now) c.args.told.now c.add_prop.new.self c.requires c.in-Some.ensures.some
    (prop_fits c.args.told.now c.in-Some.name.now c.in-Some.value.now) is (c.in_ok-add_prop.ensures (said_by lines) is)

pub returns-clause-noted : goal.returns-clause-noted
returns-clause-noted c = c.in_ok-add_digest.ensures
    ∙ digest_prop c.args.line.now c.in-Some.name.now c.in-Some.value.now c.args.digests.now.items c.requires c.in-Some.ensures.some
