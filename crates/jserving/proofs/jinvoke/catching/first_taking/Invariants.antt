use Rattle.std.proofs.Common.{◌≡◌, drop}
use Rattle.std.specs.List.{find}
use Rattle.jready.specs.HandlerTables.{row_takes}
use Rattle.jtypes.specs.declared.vtype.VType.TheVariants as types
use Rattle.jresolution.specs.juses.PoolTables.{pool_at}
use Rattle.jresolution.specs.juses.InternedTypes.{class_named}
use Rattle.jserving.proofs.jinvoke.catching.first_taking.Given as goal

abbrev pub invariant-loop-row : goal.invariant-loop-row
invariant-loop-row l =
    let tests = row_takes l.known (pool_at l.known l.class) (types.Object (class_named l.known l.thrown)) l.place in
    find tests (drop l.row-index l.rows) ≡ find tests l.rows
