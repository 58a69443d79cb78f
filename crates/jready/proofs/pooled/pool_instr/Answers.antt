use Rattle.std.proofs.Common.{◌≡◌, sym, subst}
use Rattle.jparts.specs.declared.jcode.op_form.PoolForm.{PoolForm}
use Rattle.jresolution.specs.juses.InstructionMeanings.{meant}
use Rattle.jresolution.specs.juses.PoolTables.{pool_at}
use Rattle.jready.specs.MeaningParts.{only_push}
use Rattle.jready.proofs.ConstantPushes.{constant_pushes, long_pushes}
use Rattle.jready.proofs.pooled.pool_instr.Goals as goal

pub constant-requires-clause-pushes : goal.constant-requires-clause-pushes
constant-requires-clause-pushes c =
    let p = c.args.known.now.p.now in
    let pool = pool_at p c.args.class in
    subst (λ (f : PoolForm). only_push (meant p pool f) ≡ meant p pool f) (sym c.in-Constant.is) (constant_pushes p pool c.in-Constant.field-0)

pub constant-requires-in-LongConstant-clause-pushes : goal.constant-requires-in-LongConstant-clause-pushes
constant-requires-in-LongConstant-clause-pushes c =
    let p = c.args.known.now.p.now in
    let pool = pool_at p c.args.class in
    subst (λ (f : PoolForm). only_push (meant p pool f) ≡ meant p pool f) (sym c.in-LongConstant.is) (long_pushes p pool c.in-LongConstant.field-0)

pub returns-in-Field-clause-within : goal.returns-in-Field-clause-within
returns-in-Field-clause-within c = c.field_of.ensures.within c.args.tables.now

pub returns-in-Field-clause-exact : goal.returns-in-Field-clause-exact
returns-in-Field-clause-exact c = c.field_of.ensures.exact c.args.tables.now

pub returns-in-Call-clause-within : goal.returns-in-Call-clause-within
returns-in-Call-clause-within c = c.call_of.ensures.within c.args.tables.now

pub returns-in-Call-clause-exact : goal.returns-in-Call-clause-exact
returns-in-Call-clause-exact c = c.call_of.ensures.exact c.args.tables.now

pub returns-in-CallInterface-clause-within : goal.returns-in-CallInterface-clause-within
returns-in-CallInterface-clause-within c = c.call_of-in-CallInterface.ensures.within c.args.tables.now

pub returns-in-CallInterface-clause-exact : goal.returns-in-CallInterface-clause-exact
returns-in-CallInterface-clause-exact c = c.call_of-in-CallInterface.ensures.exact c.args.tables.now

pub returns-in-New-clause-within : goal.returns-in-New-clause-within
returns-in-New-clause-within c = c.make_of.ensures.within c.args.tables.now

pub returns-in-New-clause-exact : goal.returns-in-New-clause-exact
returns-in-New-clause-exact c = c.make_of.ensures.exact c.args.tables.now

pub returns-in-Cast-clause-within : goal.returns-in-Cast-clause-within
returns-in-Cast-clause-within c = c.cast_of.ensures.within c.args.tables.now

pub returns-in-Cast-clause-exact : goal.returns-in-Cast-clause-exact
returns-in-Cast-clause-exact c = c.cast_of.ensures.exact c.args.tables.now
