use Rattle.std.proofs.Common.{◌≡◌, of_z, rules, to_z}
use Rattle.std.specs.Int.{w32}
use Rattle.jrows.proofs.JtextsProofs.StringRows.{char_none, char_past, char_some}
use Rattle.jrows.proofs.jtexts.strings.char_at.Goals as goal

pub returns-in_default : goal.returns-in_default
returns-in_default g c p shapes things constants = char_none _ c.heap_laws.ensures.each c.args.heap.now c.args.text p shapes things constants c.args.index c.in_default.ensures

pub returns-in-None : goal.returns-in-None
returns-in-None g c p shapes things constants =
    let index_is : to_z w32 (of_z w32 c.args.index) ≡ c.args.index = search rules in
    char_past _ c.heap_laws.ensures.each c.args.heap.now c.args.text p shapes things constants c.args.index c.in-Some.o c.in-Some.ensures (rw index_is at c.in-None.ensures)

pub returns-in-Some-unit_at : goal.returns-in-Some-unit_at
returns-in-Some-unit_at g c p shapes things constants =
    let index_is : to_z w32 (of_z w32 c.args.index) ≡ c.args.index = search rules in
    rw c.unit_value.ensures
    (char_some _ c.heap_laws.ensures.each c.args.heap.now c.args.text p shapes things constants c.args.index c.in-Some.o c.in-Some-unit_at.unit c.in-Some.ensures
    (rw index_is at c.in-Some-unit_at.ensures))
