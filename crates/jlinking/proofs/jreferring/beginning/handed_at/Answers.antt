use Rattle.std.proofs.Common.{◌≡◌, sym, ap, ◌∙◌}
use Rattle.jparts.specs.jpool.Descriptors.{descriptor_of}
use Rattle.jresolution.specs.jprogram.ClassFileParts.{text}
use Rattle.jlinking.specs.jreferring.ClassNameAccess.{params_test}
use Rattle.jresolution.proofs.JusesProofs.CacheInvariants.{all_more}
use Rattle.jlinking.proofs.jreferring.beginning.handed_at.Goals as goal

pub returns-in-Some-clause-value : goal.returns-in-Some-clause-value
returns-in-Some-clause-value c = c.requires c.args.i c.in-Some.one (sym c.in-Some.ensures)

pub returns-clause-kept : goal.returns-clause-kept
returns-clause-kept c =
    all_more (λ i o. o ≡ params_test c.args.home.program.now c.args.home.from.now (descriptor_of (text c.args.home.pool.now i)))
    c.args.i c.in_ok-one.one c.args.handed.now c.insert.new.self c.requires
    (c.in_ok-one.ensures ∙ ap (λ text. params_test c.args.home.program.now c.args.home.from.now (descriptor_of text)) c.text_at.ensures) c.in_ok-insert.ensures.updates
