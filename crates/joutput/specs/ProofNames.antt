-- Names by which proofs and the contracts of inner functions call what the definitions say in place. What `javasec` and `dispatch` promise
-- reaches none of them.
use Rattle.std.specs.Prelude.{List, ℕ, codes, ◌∷◌, [], ◌++◌, decimal}

-- ---- of jtrace.TraceLines

abbrev pub line_feed : List ℕ
line_feed = 10 ∷ []

-- what stands behind a denied permission
abbrev pub behind_denial : ℕ → List ℕ
behind_denial domain = codes " domain " ++ (decimal domain ++ line_feed)
