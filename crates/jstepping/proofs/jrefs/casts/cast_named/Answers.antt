use Rattle.std.proofs.Common.{subst, sym}
use Rattle.jtypes.specs.declared.vtype.VType.{VType}
use Rattle.jresolution.specs.juses.IndexedInstructions as instructions
use Rattle.jresolution.specs.juses.InstructionMeanings as meanings
use Rattle.jresolution.specs.juses.InternedTypes.{named}
use Rattle.jstepping.specs.jrefs.RowInvariance.{SeenActs}
use Rattle.jstepping.proofs.JrefsProofs.FieldInstructions.{never_some, no_some, the_some}
use Rattle.jstepping.proofs.JrefsProofs.OperandRows.{none_at, type_at}
use Rattle.jstepping.proofs.jrefs.casts.cast_named.Goals as goal

pub returns-in_default-clause-row : goal.returns-in_default-clause-row
returns-in_default-clause-row g c t e =
    no_some (named c.args.x.now.ancestors.now) c.cast_used.result t c.in_default.is
    (type_at c.args.x.now.ancestors.now c.args.frames.now.newest.method c.method.result c.args.op c.args.pool t c.cast_used.result c.method.ensures c.cast_used.ensures e)

pub returns-clause-row : goal.returns-clause-row
returns-clause-row g c t e =
    let is = the_some (named c.args.x.now.ancestors.now) c.cast_used.result c.in-Some.t t c.in-Some.is
    (type_at c.args.x.now.ancestors.now c.args.frames.now.newest.method c.method.result c.args.op c.args.pool t c.cast_used.result c.method.ensures c.cast_used.ensures e) in
    subst (λ (v : VType). SeenActs c.args.x.now c.args.counts (instructions.Used (meanings.Cast c.args.op v)) c.args.frames.now.newest c.args.heap.now c.cast.result
    c.cast.new.frames.newest c.args.heap.now) (sym is) c.cast.ensures.row

pub returns-clause-missing : goal.returns-clause-missing
returns-clause-missing g c e =
    never_some c.cast_used.result c.in-Some.t c.in-Some.is
    (none_at c.args.x.now.ancestors.now c.args.frames.now.newest.method c.method.result c.args.op c.args.pool c.cast_used.result c.method.ensures c.cast_used.ensures e)
