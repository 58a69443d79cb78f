use Rattle.jlinking.proofs.jreferring.entries.judge_all.Goals as goal

pub loop-one-init : goal.loop-one-init
loop-one-init c = (c.new-table.ensures.items, c.nothing-known.ensures c.args.home.program.now c.args.home.from.now c.args.home.pool.now)
