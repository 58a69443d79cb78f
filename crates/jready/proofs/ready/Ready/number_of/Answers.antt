use Rattle.std.proofs.Common.{ap, subst, ◌∙◌}
use Rattle.jready.specs.PreparedPrograms.{IsReady, Prepared}
use Rattle.jready.proofs.ProgramLookups.{not_found}
use Rattle.jready.proofs.ready.Ready.number_of.Goals as goal

pub returns-clause-none : goal.returns-clause-none
returns-clause-none c none =
    let ready = subst IsReady c.self.view_is c.self.invariant in
    let firsts = c.as_slice.ensures ∙ ap (λ (r : Prepared). r.firsts) c.self.view_is in
    let rows = c.as_slice-2.ensures ∙ ap (λ (r : Prepared). r.methods.rows) c.self.view_is in
    not_found c.args.self.now c.args.m _ _ ready firsts rows (c.number_in.ensures.none none)
