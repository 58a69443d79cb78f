use Rattle.std.proofs.Common.{◌∙◌, refl, sym, arith}
use Rattle.jground.specs.jbase.FaultCauses.{Rose}
use Rattle.jstore.proofs.StoredFiles.{front_at, store_more, with_none}
use Rattle.jstore.proofs.storing.store_all.Goals as goal

pub loop-file-init : goal.loop-file-init
loop-file-init g c = record { held = sym (with_none (g.S.Shelf.held c.args.shelf.now)); reads = refl; later = omega arith }

pub returns-in-Err-clause-cause : goal.returns-in-Err-clause-cause
returns-in-Err-clause-cause g c = λ is.
    let rose : Rose (g.S.Shelf.write_faults c.loop-file.shelf) (g.S.Shelf.write_faults c.write.new.self) = c.in-Err.ensures.cause is in
    omega (arith, rose, c.loop-file.invariant.later)

pub returns-in-Err-clause-err : goal.returns-in-Err-clause-err
returns-in-Err-clause-err g c = front_at c.args.files.now c.loop-file.file-index c.file-item.result c.as_str.result.now (g.S.Shelf.held c.args.shelf.now) (g.S.Shelf.held c.loop-file.shelf) (g.S.Shelf.held c.write.new.self) c.loop-file-test.true c.file-item.is c.as_str.ensures c.loop-file.invariant.held c.in-Err.ensures.others

pub loop-file-preserved : goal.loop-file-preserved
loop-file-preserved g c = record {
  held = store_more c.args.files.now c.loop-file.file-index c.file-item.result c.as_str.result.now c.as_slice.result.now (g.S.Shelf.held c.args.shelf.now) (g.S.Shelf.held c.loop-file.shelf) (g.S.Shelf.held c.write.new.self) c.loop-file-test.true c.file-item.is c.as_str.ensures c.as_slice.ensures c.loop-file.invariant.held c.in-Ok.ensures.stores;
  reads = c.in-Ok.ensures.reads ∙ c.loop-file.invariant.reads;
  later = omega (arith, c.loop-file.invariant.later, c.in-Ok.ensures.later);
}
