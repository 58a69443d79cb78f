-- The lines that events and the end of a run are written in.
use Rattle.std.specs.Prelude.{ℕ, ◌+◌, List, [], ◌∷◌, ◌++◌, length, codes, decimal}
use Rattle.std.specs.List.{flat_map}
use Rattle.joutput.specs.jio.LineParts.{part_of, part_room}
use Rattle.joutput.specs.jio.TextOutput.{written}
use Rattle.joutput.specs.declared.jio.parts.Part.{Part}
use Rattle.jperm.specs.PermissionTexts.{text_of}
use Rattle.joutput.specs.declared.jtrace.event.Event.{Event}
use Rattle.joutput.specs.declared.jtrace.event.Event.TheVariants as events
use Rattle.joutput.specs.declared.jtrace.event.End.{End}
use Rattle.joutput.specs.declared.jtrace.event.End.TheVariants as ends

-- a word, the thread's number, a text as texts are written in lines, and what stands behind it
abbrev pub told : List ℕ → ℕ → List ℕ → List ℕ → List ℕ
told word thread text behind = word ++ (decimal thread ++ (codes " " ++ (written text ++ behind)))

-- what a check's line begins with: all that stands before the end of the permission
abbrev pub checked : List ℕ → ℕ → List ℕ → List ℕ
checked word thread text = word ++ (decimal thread ++ (codes " " ++ written text))

-- the line of an event
unfoldable pub line : Event → List ℕ
line (events.Out thread text) = told (codes "out ") thread text (codes "\n")
line (events.Grant thread asked) = told (codes "grant ") thread (text_of asked) (codes "\n")
line (events.Deny thread asked domain) = told (codes "deny ") thread (text_of asked) (codes " domain " ++ (decimal domain ++ codes "\n"))
line (events.Throw thread class) = told (codes "throw ") thread class (codes "\n")
line (events.Uncaught thread class) = told (codes "uncaught ") thread class (codes "\n")

-- the most units of an event that is written
abbrev pub most_units : ℕ
most_units = 4294967295

-- how many units the event's text has
unfoldable pub units_of : Event → ℕ
units_of (events.Out thread text) = length text
units_of (events.Grant thread asked) = length (text_of asked)
units_of (events.Deny thread asked domain) = length (text_of asked)
units_of (events.Throw thread class) = length class
units_of (events.Uncaught thread class) = length class

-- the line of an end
unfoldable pub end_line : End → List ℕ
end_line ends.Finished = codes "end finished\n"
end_line ends.Uncaught = codes "end uncaught\n"
end_line ends.Deadlock = codes "end deadlock\n"
end_line ends.HeapFull = codes "end heap\n"
end_line ends.Bound = codes "end bound\n"

-- the lines of events
abbrev pub lines : List Event → List ℕ
lines events = flat_map line events

-- the text of a run: a line for each event, and the line of its end
abbrev pub text : List Event → End → List ℕ
text events end = lines events ++ end_line end

-- ---- parts of a line

-- the parts' bytes, one behind the other
abbrev pub texts : List Part → List ℕ
texts [] = []
texts (part ∷ parts) = part_of part ++ texts parts

-- no more bytes than these are in them
abbrev pub room : List Part → ℕ
room [] = 0
room (part ∷ parts) = part_room part + room parts
