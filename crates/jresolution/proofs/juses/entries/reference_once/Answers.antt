use Rattle.std.proofs.Common.{Some, sym, subst}
use Rattle.jresolution.specs.declared.juses.indices.Indices.{Indices}
use Rattle.jresolution.specs.declared.juses.kept_reference.Refers.{Refers}
use Rattle.jresolution.specs.juses.EntryTextCache.{HasTexts, entry_of}
use Rattle.jresolution.specs.juses.PoolTables.{KeptIs}
use Rattle.jresolution.proofs.JusesProofs.CacheInvariants.{noted_same}
use Rattle.jresolution.proofs.juses.entries.reference_once.Goals as goal

pub returns-in-Some-noted_of-clause-value : goal.returns-in-Some-noted_of-clause-value
returns-in-Some-noted_of-clause-value c =
    let p = c.args.p.now in
    let pool = c.args.texts.pool.now in
    let types = c.args.texts.types.now in
    let found = c.in-Some-noted_of.found in
    let e = c.in-Some-noted_of.ensures in
    let has : HasTexts pool c.args.class c.args.both found.at = subst (λ (at : Indices). HasTexts pool c.args.class c.args.both at) (sym e.1) c.in-Some.ensures in
    subst (λ (to : Refers). KeptIs p pool types found.kept (Some (entry_of to c.args.class c.args.both))) e.0
    (e.2 p pool types c.requires.noted c.args.class c.args.both has)

pub returns-clause-kept : goal.returns-clause-kept
returns-clause-kept c =
    let p = c.args.p.now in
    let pool = c.args.texts.pool.now in
    let types = c.args.texts.types.now in
    c.in_ok-note.ensures p pool types c.requires.noted
    (noted_same p pool types c.args.to c.args.class c.args.both c.in-Some.at c.in_ok-kept.kept c.in-Some.ensures c.in_ok-kept.ensures)
