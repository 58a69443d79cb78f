use Rattle.jcalling.proofs.JexecuteProofs.QuickSteps.{all_begin, all_fixed, none_begun}
use Rattle.jcalling.proofs.JexecuteProofs.ReferenceSteps.{lasting}
use Rattle.jcalling.proofs.jexecute.hastening.hurry.Goals as goal

pub hasten_frames-requires-clause-lasting : goal.hasten_frames-requires-clause-lasting
hasten_frames-requires-clause-lasting g c =
    let m = c.args.m.now in
    lasting m.calls m.fixed c.requires.ready.machine.fixed c.linked.ensures c.requires.ready.machine.files c.requires.ready.machine.tied
    c.requires.ready.machine.small

pub hasten_frames-requires-clause-stand : goal.hasten_frames-requires-clause-stand
hasten_frames-requires-clause-stand g c = c.requires.ready.running c.in-Some.frames c.in-Some.is

pub returns-in-Some-clause-begins : goal.returns-in-Some-clause-begins
returns-in-Some-clause-begins g c =
    all_begin c.args.m.now c.in-Some.frames c.in-Some.is c.guest_laws.ensures c.requires.rules c.requires.ready c.alike_laws.ensures.permissions
    c.alike_laws.ensures.kept c.hasten_frames.result c.kept_counts-counts.result c.args.most c.hasten_frames.new.frames c.hasten_frames.new.heap
    c.hasten_frames.new.calls c.kept_counts-counts.ensures c.hasten_frames.ensures.same c.hasten_frames.ensures.made

pub returns-in-Some-clause-fixed : goal.returns-in-Some-clause-fixed
returns-in-Some-clause-fixed g c =
    all_fixed c.args.m.now c.in-Some.frames c.in-Some.is c.guest_laws.ensures c.requires.rules c.requires.ready c.alike_laws.ensures.permissions
    c.alike_laws.ensures.kept c.hasten_frames.result c.hasten_frames.new.frames c.hasten_frames.new.heap c.hasten_frames.new.calls c.hasten_frames.ensures.same

pub returns-in-None-clause-begins : goal.returns-in-None-clause-begins
returns-in-None-clause-begins g c = rw c.alone.ensures (none_begun c.args.most c.args.m.now c.requires.ready c.requires.rules)
