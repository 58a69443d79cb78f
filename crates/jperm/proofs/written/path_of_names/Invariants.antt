use Rattle.std.proofs.Common.{◌≡◌, ◌++◌, ◌∷◌, drop}
use Rattle.std.specs.List.{flat_map}
use Rattle.jperm.specs.PathCoverage.{slash}
use Rattle.jperm.specs.WrittenPaths.{path_of_names}
use Rattle.jperm.proofs.written.path_of_names.Given as goal

abbrev pub invariant-loop-name : goal.invariant-loop-name
invariant-loop-name l = l.path.items ++ flat_map (λ n. slash ∷ n) (drop l.name-index l.names) ≡ path_of_names l.fn.names
