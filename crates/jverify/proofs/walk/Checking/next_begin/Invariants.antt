use Rattle.std.proofs.Common.{◌≡◌, take, true}
use Rattle.jverify.specs.CheckedMethods.{method_of}
use Rattle.jverify.specs.FrameFacts.{none_begins}
use Rattle.jverify.proofs.walk.Checking.next_begin.Given as goal

abbrev pub invariant-loop-h : goal.invariant-loop-h
invariant-loop-h l = none_begins (take l.h-index (method_of l.self).body.handlers) l.at l.next ≡ true
