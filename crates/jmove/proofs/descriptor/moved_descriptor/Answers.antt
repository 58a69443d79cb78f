use Rattle.std.proofs.Common.{arith, ◌∙◌, refl}
use Rattle.jmove.specs.PoolAdditions.{moved_descriptor}
use Rattle.jmove.proofs.MovedDescriptors.{room, one_more}
use Rattle.jmove.proofs.descriptor.moved_descriptor.Goals as goal

pub types_length-at-requires : goal.types_length-at-requires
types_length-at-requires c =
    let inside = room c.in-Ok-Method.params c.in-Ok-Method.field-0-1 c.args.text.now (c.in-Ok-Method.ensures.found.1 ∙ rw c.in-Ok-Method.field-0-is) in
    rw c.as_slice.ensures (omega (arith, inside))

pub overflow_add-at : goal.overflow_add-at
overflow_add-at c =
    let inside = room c.in-Ok-Method.params c.in-Ok-Method.field-0-1 c.args.text.now (c.in-Ok-Method.ensures.found.1 ∙ rw c.in-Ok-Method.field-0-is) in
    let count = rw c.as_slice.ensures at c.types_length-at.ensures in
    omega (arith, inside, count)

pub inserted-requires : goal.inserted-requires
inserted-requires c =
    let inside = room c.in-Ok-Method.params c.in-Ok-Method.field-0-1 c.args.text.now (c.in-Ok-Method.ensures.found.1 ∙ rw c.in-Ok-Method.field-0-is) in
    let count = rw c.as_slice.ensures at c.types_length-at.ensures in
    omega (arith, inside, count)

pub returns-in-Ok-Method : goal.returns-in-Ok-Method
unfolding moved_descriptor
returns-in-Ok-Method c =
    let count = rw c.as_slice.ensures at c.types_length-at.ensures in
    let moved = one_more c.in-Ok-Method.params c.in-Ok-Method.field-0-1 c.args.text.now (c.in-Ok-Method.ensures.found.1 ∙ rw c.in-Ok-Method.field-0-is) in
    let read = rw c.in-Ok-Method.field-0-is at c.in-Ok-Method.ensures.exact in
    let made = rw count at c.in_ok-moved-in-Ok-Method.ensures in
    rw (read, made, moved) refl
