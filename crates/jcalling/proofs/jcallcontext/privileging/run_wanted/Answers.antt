use Rattle.jcalling.proofs.JcallcontextProofs.ContextRequests.{target_as}
use Rattle.jcalling.proofs.jcallcontext.privileging.run_wanted.Goals as goal

pub act_by-requires-clause-calling : goal.act_by-requires-clause-calling
act_by-requires-clause-calling g c = rw c.action_target-target.ensures.same c.requires.calling

pub act_by-requires-clause-marks : goal.act_by-requires-clause-marks
act_by-requires-clause-marks g c = rw c.action_target-target.ensures.same c.requires.marks

pub act_by-requires-clause-found : goal.act_by-requires-clause-found
act_by-requires-clause-found g c = rw c.action_target-target.ensures.same c.requires.found

pub act_by-requires-clause-target : goal.act_by-requires-clause-target
act_by-requires-clause-target g c =
    rw c.action_target-target.ensures.same
    (target_as c.args.m.now c.args.wanted.action c.action_target-target.result c.has_all-full.result c.has_all-full.ensures c.action_target-target.ensures.target)

pub action_target-target-requires : goal.action_target-target-requires
action_target-target-requires g c = c.requires.calling.machine

pub act_by-requires-clause-within : goal.act_by-requires-clause-within
act_by-requires-clause-within g c = rw c.action_target-target.ensures.same c.action_target-target.ensures.within

pub act_by-requires-clause-known : goal.act_by-requires-clause-known
act_by-requires-clause-known g c = rw c.action_target-target.ensures.same c.requires.known

pub returns-clause-answered : goal.returns-clause-answered
returns-clause-answered g c = rw c.action_target-target.ensures.same at c.in_ok-came.ensures.answered

pub returns-clause-fixed : goal.returns-clause-fixed
returns-clause-fixed g c = rw c.action_target-target.ensures.same at c.in_ok-came.ensures.fixed

pub returns-in_err-came-clause-quiet : goal.returns-in_err-came-clause-quiet
returns-in_err-came-clause-quiet g c =
    rw c.action_target-target.ensures.same at c.act_by.ensures.quiet

pub returns-clause-quiet : goal.returns-clause-quiet
returns-clause-quiet g c =
    rw c.action_target-target.ensures.same at c.act_by.ensures.quiet

pub returns-clause-once : goal.returns-clause-once
returns-clause-once g c = rw c.action_target-target.ensures.same at c.in_ok-came.ensures.once
