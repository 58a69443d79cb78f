use Rattle.std.proofs.Common.{◌∙◌}
use Rattle.jrewriting.proofs.JrewriteProofs.MovedParts.{all_fit, links_is, program_is}
use Rattle.jrewriting.proofs.jrewrite.rewritten.moved_program.Goals as goal

pub code_parts-requires : goal.code_parts-requires
code_parts-requires c =
    all_fit c.args.p.now c.in_ok-moved.moved c.in_ok-moved.ensures.1
    (λ i part at. c.part_laws.ensures c.args.p.now c.is_linked.ensures c.requires.typed c.in_ok-moved.ensures.0 i part at)

pub link_known-requires : goal.link_known-requires
link_known-requires c =
    links_is c.args.p.now c.in_ok-parts.parts.items (c.in_ok-parts.ensures ∙ c.in_ok-moved.ensures.1)
    (c.link_law.ensures c.args.p.now c.is_linked.ensures c.requires.typed c.in_ok-moved.ensures.0)

pub returns-in-Ok-clause-moved : goal.returns-in-Ok-clause-moved
returns-in-Ok-clause-moved c = (
  c.in_ok-moved.ensures.0,
  c.in-Ok.ensures.ok ∙ program_is c.args.p.now c.in_ok-parts.parts.items (c.in_ok-parts.ensures ∙ c.in_ok-moved.ensures.1),
)
