use Rattle.std.proofs.Common.{◌∙◌, refl, sym, ap₂, subst, arith}
use Rattle.jthreads.specs.ThreadTables.{is_runnable, runnable_numbers, thread_at}
use Rattle.jruntime.specs.jguests.GuestThreads.{AwaitLiving}
use Rattle.jruntime.proofs.JguestsProofs.ThreadTurns.{goes, over}
use Rattle.jruntime.proofs.jguests.guests.Guests.turn.Goals as goal

pub returns-in_default-clause-turn : goal.returns-in_default-clause-turn
returns-in_default-clause-turn g c store events =
    over c.args.schedule.now (runnable_numbers c.args.self.now.table) c.args.self.now c.pick.result c.end.result store events c.pick.ensures.value refl
    c.in_default.is (c.end.ensures store)

pub switch-requires-clause-there : goal.switch-requires-clause-there
switch-requires-clause-there g c =
    let named = c.thread_laws.ensures.named c.args.self.now.table c.in-Some.t c.in-Some.ensures.member in
    omega (arith, named, c.requires.table)

pub returns-clause-turn : goal.returns-clause-turn
returns-clause-turn g c store events =
    let h = c.switch.new.self in
    goes c.args.schedule.now (runnable_numbers c.args.self.now.table) c.args.self.now
    (record { running = h.running; others = h.others; at = h.at; table = h.table; turns = c.in-Some-checked_add.turns }) c.pick.result c.in-Some.t store events c.requires
    c.pick.ensures.value refl c.in-Some.is
    c.switch.ensures.now c.switch.ensures.all c.switch.ensures.at c.switch.ensures.table c.in-Some-checked_add.ensures.1

pub returns-clause-runs : goal.returns-clause-runs
returns-clause-runs g c goes =
    let runs = c.thread_laws.ensures.only c.args.self.now.table c.in-Some.t c.in-Some.ensures.member in
    ap₂ (λ ts t. is_runnable (thread_at ts t)) c.switch.ensures.table c.switch.ensures.at ∙ runs

pub returns-clause-wait : goal.returns-clause-wait
returns-clause-wait g c wait = subst AwaitLiving (sym c.switch.ensures.table) wait
