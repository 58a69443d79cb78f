use Rattle.std.proofs.Common.{length, drop, take, ap, subst, ◌∙◌, arith}
use Rattle.jready.specs.PreparedPrograms.{IsReady, Prepared}
use Rattle.jready.proofs.ProgramLookups.{handlers_there, handles_row, unhandled_row}
use Rattle.jready.proofs.ready.Ready.handlers.Goals as goal

pub split_at-requires : goal.split_at-requires
split_at-requires c =
    let ready = subst IsReady c.self.view_is c.self.invariant in
    let all = ap length (c.as_slice-rows.ensures ∙ ap (λ (r : Prepared). r.methods.handlers) c.self.view_is) in
    let there = handlers_there c.args.self.now c.args.method.now ready c.requires in
    omega arith

pub split_at-requires-2 : goal.split_at-requires-2
split_at-requires-2 c =
    let ready = subst IsReady c.self.view_is c.self.invariant in
    let all = ap length (c.as_slice-rows.ensures ∙ ap (λ (r : Prepared). r.methods.handlers) c.self.view_is) in
    let there = handlers_there c.args.self.now c.args.method.now ready c.requires in
    omega (arith, c.split_at.ensures.back_len)

pub returns-clause-within : goal.returns-clause-within
returns-clause-within c =
    let ready = subst IsReady c.self.view_is c.self.invariant in
    let all = c.as_slice-rows.ensures ∙ ap (λ (r : Prepared). r.methods.handlers) c.self.view_is in
    let first = c.args.method.now.handlers.first in
    let count = c.args.method.now.handlers.count in
    let own = c.split_at-2.ensures.front ∙ ap (take count) (c.split_at.ensures.back ∙ ap (drop first) all) in
    handles_row c.args.self.now c.args.method.now _ ready c.requires own

pub returns-clause-behind : goal.returns-clause-behind
returns-clause-behind c = unhandled_row c.args.self.now c.args.method.now (subst IsReady c.self.view_is c.self.invariant) c.requires
