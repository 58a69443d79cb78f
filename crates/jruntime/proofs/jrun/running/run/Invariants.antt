use Rattle.std.proofs.Common.{◌≡◌, ◌≤◌, ◌-◌}
use Rattle.jruntime.proofs.JrunProofs.RunInvariants.{AreAt}
use Rattle.jruntime.proofs.jrun.running.run.Given as goal

abbrev pub invariant-loop-made : goal.invariant-loop-made
invariant-loop-made g l = record {
  at : AreAt (g.E.Stepping.steps l.initial.engine) (g.E.Stepping.stands l.initial.engine) l.made (g.E.Stepping.stands l.engine) (g.K.Sink.out l.initial.out) (g.K.Sink.out l.out);
  same : g.E.Stepping.steps l.engine ≡ g.E.Stepping.steps l.initial.engine;
  ready : g.E.Stepping.ready l.engine;
  later : g.K.Sink.faults l.initial.out ≤ g.K.Sink.faults l.out;
  few : l.made ≤ l.steps;
}

abbrev pub decreases-loop-made : goal.decreases-loop-made
decreases-loop-made g l = l.steps - l.made
