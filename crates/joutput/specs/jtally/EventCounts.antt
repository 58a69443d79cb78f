-- How many events of each kind there are.
use Rattle.std.specs.Prelude.{◌+◌, List}
use Rattle.std.specs.List.{fold}
use Rattle.joutput.specs.declared.jtrace.event.Event.{Event}
use Rattle.joutput.specs.declared.jtrace.event.Event.TheVariants as events
use Rattle.joutput.specs.declared.jtally.counts.Counts.{Counts}

-- where nothing was told
abbrev pub none : Counts
none = record { grants = 0; denials = 0; throws = 0; outs = 0 }

-- one more event; that an exception left its thread is counted nowhere
abbrev pub with_event : Counts → Event → Counts
with_event n (events.Grant thread asked) = record n { grants = n.grants + 1 }
with_event n (events.Deny thread asked domain) = record n { denials = n.denials + 1 }
with_event n (events.Throw thread class) = record n { throws = n.throws + 1 }
with_event n (events.Out thread text) = record n { outs = n.outs + 1 }
with_event n (events.Uncaught thread class) = n

-- some more events, one after the other
abbrev pub counted : Counts → List Event → Counts
counted n told = fold with_event n told
