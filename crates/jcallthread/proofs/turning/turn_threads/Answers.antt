use Rattle.jlib.specs.declared.calls.ThreadCall.TheVariants as threads
use Rattle.jcallthread.proofs.ThreadCalls.{turns_on}
use Rattle.jcallthread.proofs.turning.turn_threads.Goals as goal

pub returns-in_ok-done-in-Yield-clause-row : goal.returns-in_ok-done-in-Yield-clause-row
returns-in_ok-done-in-Yield-clause-row g c =
    let done = c.in_ok-done-in-Yield.ensures in
    turns_on c.args.m.now c.args.call threads.Yield c.args.count c.in_ok-done-in-Yield.done c.yield_turn.new.guests c.in-Yield.is
    (rw c.as_slice-schedule.ensures at done.row) done.are done.stay done.framed done.lives c.requires.calling.lives

pub returns-in_ok-done-in-Start-clause-row : goal.returns-in_ok-done-in-Start-clause-row
returns-in_ok-done-in-Start-clause-row g c =
    let done = c.in_ok-done-in-Start.ensures in
    turns_on c.args.m.now c.args.call threads.Start c.args.count c.in_ok-done-in-Start.done c.start.new.guests c.in-Start.is
    (rw c.as_slice-schedule.ensures at done.row) done.are done.stay done.framed done.lives c.requires.calling.lives

pub returns-in_ok-done-in-Join-clause-row : goal.returns-in_ok-done-in-Join-clause-row
returns-in_ok-done-in-Join-clause-row g c =
    let done = c.in_ok-done-in-Join.ensures in
    turns_on c.args.m.now c.args.call threads.Join c.args.count c.in_ok-done-in-Join.done c.join.new.guests c.in-Join.is
    (rw c.as_slice-schedule.ensures at done.row) done.are done.stay done.framed done.lives c.requires.calling.lives
