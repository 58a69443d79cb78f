use Rattle.std.proofs.lemmas.Option.{slice_get_within}
use Rattle.jinterned.proofs.LimitNumbers.{extended_known, limited_added, named_more}
use Rattle.jinterned.proofs.making.add_limited.Goals as goal

pub add-requires-clause-made : goal.add-requires-clause-made
add-requires-clause-made c = named_more c.args.sets.now c.limited_by.new.sets c.args.made.now.items c.limited_by.ensures.more c.requires.made

pub add-requires-clause-pair : goal.add-requires-clause-pair
add-requires-clause-pair c = slice_get_within c.limited_by.new.sets c.in_ok-n.n _ c.in_ok-n.ensures.ok

pub returns-clause-added : goal.returns-clause-added
returns-clause-added c =
    limited_added c.args.sets.now c.limited_by.new.sets c.args.made.now.items c.add.new.made.items c.args.pair c.in_ok-n.n c.args.limits.now c.limited_by.ensures.more c.requires.made
    c.in_ok-n.ensures.ok
    c.in_ok-add.ensures.added

pub returns-clause-known : goal.returns-clause-known
returns-clause-known c = extended_known c.args.sets.now c.limited_by.new.sets c.args.pair.limits c.in_ok-n.n c.args.limits.now c.limited_by.ensures.more c.requires.pair c.in_ok-n.ensures.ok
