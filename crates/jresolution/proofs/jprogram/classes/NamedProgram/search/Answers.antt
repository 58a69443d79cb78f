use Rattle.std.proofs.Common.{List, Bool, sym, ap, vec_len, ◌∙◌}
use Rattle.jground.specs.jbase.FirstFaults.{first_some}
use Rattle.jresolution.specs.jprogram.ProgramClasses.{superinterfaces}
use Rattle.jresolution.specs.jprogram.InterfaceSearch.{is_closed, member_at, waiting_names}
use Rattle.jresolution.proofs.JprogramProofs.InterfaceSearch.{is_empty_by, step_begin, step_end, step_found, step_skip, step_skip_costs, step_visit, step_visit_costs}
use Rattle.jresolution.proofs.jprogram.classes.NamedProgram.search.Goals as goal

pub loop-face-init : goal.loop-face-init
loop-face-init c = λ L.
    step_begin c.args.self.now L (member_at c.args.self.now c.args.sort c.args.name.now c.args.desc.now) c.args.class.now c.args.closed.now c.new-waiting.result.items c.put_faces_of.new.waiting.items _ c.new-waiting.ensures.items c.find.ensures c.in_ok-put_faces_of.ensures c.requires.closed

pub loop-face-smaller-then-is_closed : goal.loop-face-smaller-then-is_closed
loop-face-smaller-then-is_closed c = step_skip_costs c.args.self.now c.loop-face.waiting.items c.pop.new.self.items c.in-Some.face c.loop-face.closed c.in-Some.ensures.items

pub loop-face-preserved-then-is_closed : goal.loop-face-preserved-then-is_closed
loop-face-preserved-then-is_closed c = λ L.
    step_skip c.args.self.now L (member_at c.args.self.now c.args.sort c.args.name.now c.args.desc.now) (first_some (member_at c.args.self.now c.args.sort c.args.name.now c.args.desc.now) (superinterfaces c.args.self.now c.args.class.now)) c.loop-face.waiting.items
    c.pop.new.self.items c.in-Some.face c.loop-face.closed c.in-Some.ensures.items (ap (λ (bs : List Bool). is_closed c.args.self.now bs c.in-Some.face.now) (sym c.as_slice.ensures) ∙ sym c.is_closed.ensures ∙ c.if-is_closed.true) (c.loop-face.invariant L)

pub returns-in-Some-member_at-clause-value : goal.returns-in-Some-member_at-clause-value
returns-in-Some-member_at-clause-value c =
    step_found c.args.self.now c.requires.layered (member_at c.args.self.now c.args.sort c.args.name.now c.args.desc.now) (first_some (member_at c.args.self.now c.args.sort c.args.name.now c.args.desc.now) (superinterfaces c.args.self.now c.args.class.now)) c.loop-face.waiting.items
    c.pop.new.self.items c.in-Some.face c.loop-face.closed c.in-Some.ensures.items c.in-Some-member_at.found (sym c.in-Some-member_at.ensures) (c.loop-face.invariant c.requires.layered)

pub close-requires : goal.close-requires
close-requires c = (c.loop-face.invariant c.requires.layered).each

pub loop-face-smaller : goal.loop-face-smaller
loop-face-smaller c =
    step_visit_costs c.args.self.now c.loop-face.waiting.items c.pop.new.self.items c.in-Some.face c.loop-face.closed c.close.new.closed (waiting_names c.put_faces_of-in-Some.new.waiting.items) _ c.in-Some.ensures.items (c.loop-face.invariant c.requires.layered).each
    (ap (λ (bs : List Bool). is_closed c.args.self.now bs c.in-Some.face.now) (sym c.as_slice.ensures) ∙ sym c.is_closed.ensures ∙ c.if-is_closed.false) c.close.ensures c.find-in-Some.ensures c.in_ok-put_faces_of-2.ensures

pub loop-face-preserved : goal.loop-face-preserved
loop-face-preserved c = λ L.
    step_visit c.args.self.now L (member_at c.args.self.now c.args.sort c.args.name.now c.args.desc.now) (first_some (member_at c.args.self.now c.args.sort c.args.name.now c.args.desc.now) (superinterfaces c.args.self.now c.args.class.now))
    c.loop-face.waiting.items c.pop.new.self.items c.in-Some.face c.loop-face.closed c.in-Some.ensures.items c.close.new.closed (waiting_names c.put_faces_of-in-Some.new.waiting.items) _ (sym c.member_at.ensures ∙ c.in_default-member_at.is) c.close.ensures c.find-in-Some.ensures
    c.in_ok-put_faces_of-2.ensures (c.loop-face.invariant L)

pub returns-clause-value : goal.returns-clause-value
returns-clause-value c =
    let empty = is_empty_by c.loop-face.waiting.items c.pop.new.self.items (vec_len c.loop-face.waiting) c.in_default.ensures.items c.in_default.ensures.rest c.in_default.ensures.cases.0 in
    (step_end c.args.self.now c.requires.layered (member_at c.args.self.now c.args.sort c.args.name.now c.args.desc.now) (first_some (member_at c.args.self.now c.args.sort c.args.name.now c.args.desc.now) (superinterfaces c.args.self.now c.args.class.now)) c.loop-face.waiting.items c.loop-face.closed empty (c.loop-face.invariant c.requires.layered)).0

pub returns-clause-kept : goal.returns-clause-kept
returns-clause-kept c = λ _.
    let empty = is_empty_by c.loop-face.waiting.items c.pop.new.self.items (vec_len c.loop-face.waiting) c.in_default.ensures.items c.in_default.ensures.rest c.in_default.ensures.cases.0 in
    (step_end c.args.self.now c.requires.layered (member_at c.args.self.now c.args.sort c.args.name.now c.args.desc.now) (first_some (member_at c.args.self.now c.args.sort c.args.name.now c.args.desc.now) (superinterfaces c.args.self.now c.args.class.now)) c.loop-face.waiting.items c.loop-face.closed empty (c.loop-face.invariant c.requires.layered)).1
