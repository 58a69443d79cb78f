-- What is told of a run that is counted.
use Rattle.joutput.specs.declared.jtally.counts.Tally.{Tally}
use Rattle.joutput.specs.jtally.LineTallies.{tally}
use Rattle.jsemantics.specs.jmachine.RunTraces.{Run, ending}

-- how many lines of each kind its text has, and how it ended
abbrev pub tally_of : {S : Type 0} → Run S → Tally
tally_of r = tally r.events (ending r)
