use Rattle.std.proofs.Common.{◌≡◌, replicate}
use Rattle.std.specs.Str.{byte}
use Rattle.jmoveclass.proofs.beginning.type_text.Given as goal

abbrev pub invariant-loop : goal.invariant-loop
invariant-loop l = l.text ≡ replicate l.counter (byte "[")
