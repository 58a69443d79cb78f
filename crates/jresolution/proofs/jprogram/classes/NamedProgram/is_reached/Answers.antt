use Rattle.std.proofs.Common.{List, Bool, sym, ap, vec_len, ◌∙◌}
use Rattle.jresolution.specs.jprogram.InterfaceSearch.{is_closed, waiting_names}
use Rattle.jresolution.proofs.JprogramProofs.CycleSearch.{seeks_begin, seeks_end, seeks_found, seeks_skip, seeks_visit}
use Rattle.jresolution.proofs.JprogramProofs.SearchTermination.{climb_skip_costs, climb_visit_costs}
use Rattle.jresolution.proofs.JprogramProofs.InterfaceSearch.{is_empty_by}
use Rattle.jresolution.proofs.jprogram.classes.NamedProgram.is_reached.Goals as goal

pub loop-next-init : goal.loop-next-init
loop-next-init c = seeks_begin c.args.self.now c.args.d.now c.args.c.now c.in_ok-closed.closed c.new-waiting.result.items c.put_supers.new.waiting.items _ c.in_ok-closed.ensures c.new-waiting.ensures.items c.find.ensures c.in_ok-put_supers.ensures

pub returns-then-eq : goal.returns-then-eq
returns-then-eq c =
    seeks_found c.args.self.now c.args.d.now c.args.c.now c.loop-next.waiting.items c.pop.new.self.items c.in-Some.next c.loop-next.closed c.in-Some.ensures.items (sym c.eq.ensures ∙ c.if-eq.true) c.loop-next.invariant

pub loop-next-smaller-then-is_closed : goal.loop-next-smaller-then-is_closed
loop-next-smaller-then-is_closed c = climb_skip_costs c.args.self.now c.loop-next.waiting.items c.pop.new.self.items c.in-Some.next c.loop-next.closed c.in-Some.ensures.items

pub loop-next-preserved-then-is_closed : goal.loop-next-preserved-then-is_closed
loop-next-preserved-then-is_closed c =
    seeks_skip c.args.self.now c.args.d.now c.args.c.now c.loop-next.waiting.items c.pop.new.self.items c.in-Some.next c.loop-next.closed c.in-Some.ensures.items
    (ap (λ (bs : List Bool). is_closed c.args.self.now bs c.in-Some.next.now) (sym c.as_slice.ensures) ∙ sym c.is_closed.ensures ∙ c.if-is_closed.true) c.loop-next.invariant

pub loop-next-smaller : goal.loop-next-smaller
loop-next-smaller c =
    climb_visit_costs c.args.self.now c.loop-next.waiting.items c.pop.new.self.items c.in-Some.next c.loop-next.closed c.close.new.closed (waiting_names c.put_supers-in-Some.new.waiting.items) _ c.in-Some.ensures.items c.loop-next.invariant.each
    (ap (λ (bs : List Bool). is_closed c.args.self.now bs c.in-Some.next.now) (sym c.as_slice.ensures) ∙ sym c.is_closed.ensures ∙ c.if-is_closed.false) c.close.ensures c.find-in-Some.ensures c.in_ok-put_supers-2.ensures

pub loop-next-preserved : goal.loop-next-preserved
loop-next-preserved c =
    seeks_visit c.args.self.now c.args.d.now c.args.c.now c.loop-next.waiting.items c.pop.new.self.items c.in-Some.next c.loop-next.closed c.in-Some.ensures.items c.close.new.closed (waiting_names c.put_supers-in-Some.new.waiting.items) _
    (sym c.eq.ensures ∙ c.if-eq.false) c.close.ensures c.find-in-Some.ensures c.in_ok-put_supers-2.ensures c.loop-next.invariant

pub returns : goal.returns
returns c =
    seeks_end c.args.self.now c.args.d.now c.args.c.now c.loop-next.waiting.items c.loop-next.closed
    (is_empty_by c.loop-next.waiting.items c.pop.new.self.items (vec_len c.loop-next.waiting) c.in_default.ensures.items c.in_default.ensures.rest c.in_default.ensures.cases.0) c.loop-next.invariant
