-- Names by which proofs and the contracts of inner functions call what the definitions say in place. What `javasec` and `dispatch` promise
-- reaches none of them.
use Rattle.std.specs.Prelude.{List, ℕ, Bool, nat_eq, codes}
use Rattle.std.specs.List.{ends_with}

-- ---- of jdomain.CodeSources

-- whether a path is that of a directory
abbrev pub ends_in_slash : List ℕ → Bool
ends_in_slash path = ends_with nat_eq path (codes "/")
