use Rattle.std.proofs.Common.{refl, ◌∙◌}
use Rattle.joutput.proofs.JioProofs.Files.{stored_at, stored_behind}
use Rattle.joutput.proofs.jio.memory_shelf.store.Goals as goal

pub returns-in-Some-clause-ok : goal.returns-in-Some-clause-ok
returns-in-Some-clause-ok c = stored_at c.args.files.now.items c.args.path.now c.args.bytes.now c.place.result c.in-Some.i c.index_mut.result.now c.in_ok-bytes.bytes (c.place.ensures.place ∙ rw c.deref.ensures.value refl) c.in-Some.is c.index_mut.ensures.value c.in_ok-bytes.ensures.items

pub returns-in_ok-push-in-None-clause-ok : goal.returns-in_ok-push-in-None-clause-ok
returns-in_ok-push-in-None-clause-ok c = rw c.in_ok-push-in-None.ensures.items (stored_behind c.args.files.now.items c.args.path.now c.args.bytes.now c.place.result c.in_ok-path-in-None.path c.in_ok-bytes.bytes (c.place.ensures.place ∙ rw c.deref.ensures.value refl) c.in-None.is c.in_ok-path-in-None.ensures.ok c.in_ok-bytes.ensures.items)
