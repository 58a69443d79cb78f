use Rattle.std.proofs.Common.{◌+◌, ◌<◌, List, length, sym, ap, subst, ◌∙◌}
use Rattle.jready.specs.declared.instr.Instr.{Instr}
use Rattle.jready.specs.PreparedPrograms.{IsReady, Prepared}
use Rattle.jready.proofs.ProgramLookups.{exact_at, fetches_at, place_within}
use Rattle.jready.proofs.ready.Ready.instr.Goals as goal

pub bounds-as_slice-method : goal.bounds-as_slice-method
bounds-as_slice-method c =
    let ready = subst IsReady c.self.view_is c.self.invariant in
    let code = c.as_slice.ensures ∙ ap (λ (r : Prepared). r.methods.code) c.self.view_is in
    let lt = place_within c.args.self.now c.args.method.now c.args.place ready c.requires.row c.requires.place in
    subst (λ (l : List Instr). c.args.method.now.first + c.args.place < length l) (sym code) lt

pub returns-clause-means : goal.returns-clause-means
returns-clause-means c =
    let ready = subst IsReady c.self.view_is c.self.invariant in
    let code = c.as_slice.ensures ∙ ap (λ (r : Prepared). r.methods.code) c.self.view_is in
    fetches_at c.args.self.now c.args.method.now c.args.place c.as_slice.result.now _ ready c.requires.row c.requires.place code

pub returns-clause-within : goal.returns-clause-within
returns-clause-within c =
    let ready = subst IsReady c.self.view_is c.self.invariant in
    let code = c.as_slice.ensures ∙ ap (λ (r : Prepared). r.methods.code) c.self.view_is in
    (exact_at c.args.self.now c.args.method.now c.args.place c.as_slice.result.now _ ready c.requires.row c.requires.place code).0

pub returns-clause-exact : goal.returns-clause-exact
returns-clause-exact c =
    let ready = subst IsReady c.self.view_is c.self.invariant in
    let code = c.as_slice.ensures ∙ ap (λ (r : Prepared). r.methods.code) c.self.view_is in
    (exact_at c.args.self.now c.args.method.now c.args.place c.as_slice.result.now _ ready c.requires.row c.requires.place code).1
