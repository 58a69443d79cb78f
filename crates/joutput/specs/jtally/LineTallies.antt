-- How many lines of a text begin with each of the words by which events are told.
use Rattle.std.specs.Prelude.{ℕ, ◌==◌, List, ◌++◌, codes, decimal}
use Rattle.std.specs.List.{count_by, slice_split, starts_with}
use Rattle.joutput.specs.declared.jtrace.event.Event.{Event}
use Rattle.joutput.specs.declared.jtrace.event.End.{End}
use Rattle.joutput.specs.jtrace.TraceLines.{end_line, text}
use Rattle.joutput.specs.declared.jtally.counts.Counts.{Counts}
use Rattle.joutput.specs.declared.jtally.counts.Tally.{Tally}

-- how many lines of a text begin with a word
abbrev pub lines_with : List ℕ → List ℕ → ℕ
lines_with word bytes = count_by (λ line. starts_with ◌==◌ line word) (slice_split (λ b. b == 10) bytes)

-- how many lines of a text tell of a grant, of a denial, of an exception that was raised, and of a text that was printed
unfoldable pub counts_in : List ℕ → Counts
counts_in bytes = record {
  grants = lines_with (codes "grant ") bytes;
  denials = lines_with (codes "deny ") bytes;
  throws = lines_with (codes "throw ") bytes;
  outs = lines_with (codes "out ") bytes;
}

-- what is told of a run of these events and this end: how many lines of each kind its text has, and how it ended
abbrev pub tally : List Event → End → Tally
tally events end = record { counts = counts_in (text events end); end = end }

-- ---- its line

abbrev pub count_parts : Counts → List ℕ → List ℕ
count_parts n behind =
    codes " grant " ++ (decimal n.grants
    ++ (codes " deny " ++ (decimal n.denials ++ (codes " throw " ++ (decimal n.throws ++ (codes " out " ++ (decimal n.outs ++ behind)))))))

-- a word, how many lines of each kind there are, and the run's last line
abbrev pub tally_line : List ℕ → Tally → List ℕ
tally_line word t = word ++ count_parts t.counts (codes " " ++ end_line t.end)
