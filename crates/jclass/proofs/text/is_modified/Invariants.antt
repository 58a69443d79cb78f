use Rattle.std.proofs.Common.{◌≡◌, ◌-◌, length}
use Rattle.jclass.specs.PoolChecks.{is_modified}
use Rattle.jclass.proofs.Texts.{rest_is_text}
use Rattle.jclass.proofs.text.is_modified.Given as goal

abbrev pub invariant-loop : goal.invariant-loop
invariant-loop l = rest_is_text (length l.bytes - l.counter) l.rest ≡ is_modified l.bytes
