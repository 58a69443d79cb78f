use Rattle.std.proofs.Common.{ap, ◌∙◌}
use Rattle.jresolution.specs.declared.juses.indices.Indices.{Indices}
use Rattle.jlinking.specs.declared.jreferring.judged.Sort.{Sort}
use Rattle.jlinking.specs.jreferring.PoolTextCache.{named_at}
use Rattle.jlinking.proofs.jreferring.use_cache.named_at.Goals as goal

pub returns-in-Some-clause-value : goal.returns-in-Some-clause-value
returns-in-Some-clause-value c =
    let p = c.args.home.program.now in
    let from = c.args.home.from.now in
    let pool = c.args.home.pool.now in
    let found = c.in-Some.found in
    let e = c.in-Some.ensures in
    e.2 p from pool c.requires.known.references
    ∙ ap (λ (kind : Sort). named_at p from pool kind found.at) e.0 ∙ ap (λ (at : Indices). named_at p from pool c.args.sort at) e.1

pub returns-clause-kept : goal.returns-clause-kept
returns-clause-kept c = record {
  classes = c.requires.known.classes;
  owners = c.in_ok-one.ensures.owners;
  descs = c.in_ok-one.ensures.descs;
  references = c.in_ok-note.ensures c.args.home.program.now c.args.home.from.now c.args.home.pool.now c.requires.known.references c.in_ok-one.ensures.value;
}
