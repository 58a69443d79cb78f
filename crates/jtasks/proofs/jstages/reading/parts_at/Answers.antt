use Rattle.std.proofs.Common.{Err, sym, ap, ◌∙◌, arith}
use Rattle.std.proofs.lemmas.Result.{err_from_is_err_and}
use Rattle.jground.specs.jbase.ListMaps.{each}
use Rattle.jground.proofs.JbaseProofs.Loops.{each_more, each_ends}
use Rattle.jtasks.specs.declared.jstages.halt.Halt.{Halt}
use Rattle.jtasks.specs.declared.jstages.halt.Halt.TheVariants.{Read}
use Rattle.jtasks.specs.jstages.ReadStage.{part_at}
use Rattle.jtasks.proofs.JstagesProofs.LinkableParts.{domains_more, read_parts}
use Rattle.jtasks.proofs.JstagesProofs.HaltingLoops.{each_halts, rose_or_misses, err_is}
use Rattle.jtasks.proofs.jstages.reading.parts_at.Goals as goal

pub returns-in_err-part_at-clause-value : goal.returns-in_err-part_at-clause-value
returns-in_err-part_at-clause-value g c =
    let p = err_from_is_err_and c.from_residual.result c.from_residual.ensures.1 in
    λ files told. rw (p.1, p.2) (each_halts (part_at files) c.loop-path.parts c.args.paths.now c.loop-path.path-index c.path-item.result c.in_err-part_at.field-0.0 (each (part_at files) c.args.paths.now) c.loop-path-test.true c.path-item.is (c.in_err-part_at.ensures.value files (c.loop-path.invariant.held ∙ told)) (c.loop-path.invariant.so_far files told))

pub returns-in_err-part_at-clause-cause : goal.returns-in_err-part_at-clause-cause
returns-in_err-part_at-clause-cause g c =
    let p = err_from_is_err_and c.from_residual.result c.from_residual.ensures.1 in
    λ is. rose_or_misses part_at (g.S.Shelf.read_faults c.args.shelf.now) (g.S.Shelf.read_faults c.loop-path.shelf) (g.S.Shelf.read_faults c.part_at.new.shelf) (g.S.Shelf.held c.args.shelf.now) (g.S.Shelf.held c.loop-path.shelf) c.loop-path.parts c.args.paths.now c.loop-path.path-index c.path-item.result c.loop-path.invariant.later c.loop-path.invariant.held c.loop-path-test.true c.path-item.is (λ files told. c.loop-path.invariant.so_far files told) (c.in_err-part_at.ensures.cause (ap (λ (h : Halt). Err h) (sym p.2 ∙ err_is p.0 Read (sym p.1 ∙ is))))

pub loop-path-preserved : goal.loop-path-preserved
loop-path-preserved g c = record {
  domains = domains_more c.args.paths.now c.loop-path.path-index c.path-item.result c.loop-path.parts c.push.new.self c.in_ok-part_at.field-0 c.loop-path-test.true c.path-item.is c.in_ok-part_at.ensures.domain c.in_ok-push.ensures.ok c.loop-path.invariant.domains;
  held = c.in_ok-part_at.ensures.held ∙ c.loop-path.invariant.held;
  stored = c.in_ok-part_at.ensures.stored ∙ c.loop-path.invariant.stored;
  later = omega (arith, c.loop-path.invariant.later, c.in_ok-part_at.ensures.later);
  so_far = λ files told. rw c.in_ok-push.ensures.ok (each_more (part_at files) c.loop-path.parts c.args.paths.now c.loop-path.path-index c.path-item.result c.in_ok-part_at.field-0 (each (part_at files) c.args.paths.now) c.loop-path-test.true c.path-item.is (c.in_ok-part_at.ensures.value files (c.loop-path.invariant.held ∙ told)) (c.loop-path.invariant.so_far files told));
}

pub returns-clause-value : goal.returns-clause-value
returns-clause-value g c = λ files told. each_ends (part_at files) c.loop-path.parts c.args.paths.now c.loop-path.path-index (each (part_at files) c.args.paths.now) (omega arith) (c.loop-path.invariant.so_far files told)

pub returns-clause-parts : goal.returns-clause-parts
returns-clause-parts g c = read_parts c.args.paths.now c.loop-path.path-index c.loop-path.parts (omega arith) c.loop-path.invariant.domains c.requires
