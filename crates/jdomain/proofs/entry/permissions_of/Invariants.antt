use Rattle.std.proofs.Common.{◌≡◌, ◌++◌, drop, map}
use Rattle.jdomain.specs.Domains.{permission_of}
use Rattle.jdomain.proofs.entry.permissions_of.Given as goal

abbrev pub invariant-loop-entry : goal.invariant-loop-entry
invariant-loop-entry l =
    l.permissions ++ map (permission_of l.directory) (drop l.entry-index l.entries) ≡ map (permission_of l.directory) l.entries
