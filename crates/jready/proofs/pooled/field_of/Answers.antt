use Rattle.std.proofs.Common.{sym}
use Rattle.jresolution.specs.juses.InstructionMeanings.{field_named}
use Rattle.jresolution.specs.juses.PoolTables.{pool_at}
use Rattle.jready.specs.DecodedInstructions.{meant}
use Rattle.jready.proofs.EntryMeanings.{field_back, field_nothing}
use Rattle.jready.proofs.InstructionContents.{exact_field, exact_out, no_slot}
use Rattle.jready.proofs.pooled.field_of.Goals as goal

pub returns-in_default-clause-means : goal.returns-in_default-clause-means
unfolding meant
returns-in_default-clause-means c t =
    field_nothing c.args.known.now.p.now (pool_at c.args.known.now.p.now c.args.class) c.args.op c.args.pool c.in_default.ensures

pub returns-in_default-place_of-clause-exact : goal.returns-in_default-place_of-clause-exact
returns-in_default-place_of-clause-exact c t =
    let p = c.args.known.now.p.now in
    let f = field_named p c.in-Some.used in
    let e = field_back p (pool_at p c.args.class) c.args.op c.args.pool f c.in-Some.ensures in
    record {
      field = f;
      means = e;
      member = exact_out p c.args.class c.args.pool c.args.op c.in-Some.used c.in-Some.ensures c.in_default-place_of.ensures f e;
    }

pub returns-in_default-slot-clause-exact : goal.returns-in_default-slot-clause-exact
returns-in_default-slot-clause-exact c t =
    let p = c.args.known.now.p.now in
    let f = field_named p c.in-Some.used in
    let e = field_back p (pool_at p c.args.class) c.args.op c.args.pool f c.in-Some.ensures in
    no_slot p c.args.class c.args.pool c.args.op c.in-Some.used c.in-Some-place_of.declared c.in-Some-place_of.field c.in-Some.ensures
    (sym c.in-Some-place_of.ensures) (c.in_default-slot.ensures p c.requires.layouts) f e

pub returns-clause-exact : goal.returns-clause-exact
returns-clause-exact c t =
    let p = c.args.known.now.p.now in
    let f = field_named p c.in-Some.used in
    let e = field_back p (pool_at p c.args.class) c.args.op c.args.pool f c.in-Some.ensures in
    let placed = sym c.in-Some-place_of.ensures in
    let slot = sym (c.in-Some-slot.ensures p c.requires.layouts) in
    let owned = c.owner_of.ensures p c.requires.few in
    record {
      field = f;
      means = e;
      holds = exact_field p c.args.class c.args.pool c.args.op c.in-Some.used c.in-Some-place_of.declared c.in-Some-place_of.field c.narrow_at.result
          c.cell_of.result c.in-Some-slot.slot c.owner_of.result c.in-Some.ensures placed slot owned c.narrow_at.ensures (c.cell_of.ensures p) f e;
    }
