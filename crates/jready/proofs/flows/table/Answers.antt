use Rattle.std.proofs.Common.{rules}
use Rattle.jready.proofs.TableSwitches.{table_means}
use Rattle.jready.proofs.flows.table.Goals as goal

pub returns-clause-means : goal.returns-clause-means
returns-clause-means c =
    let one = c.in_ok-first.ensures.there in
    let all = c.in_ok-span.ensures.there in
    let done = table_means c.args.tables.now c.put_target.new.self c.put_targets.new.self c.args.low c.args.other c.in_ok-first.first
    c.in_ok-span.span.count c.args.numbers.now one.0 one.1 all.2 all.1 in
    search (rules, done)
