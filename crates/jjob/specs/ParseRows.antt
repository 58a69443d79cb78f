-- What the rows of a parse say.
use Rattle.std.specs.Prelude.{◌≡◌, List, [], Option, Some, None, Result, Ok, Err, ⊤, codes, unwrap_or}
use Rattle.clap.specs.Words.{Row, all_of, first_of}
use Rattle.clap.specs.declared.error.kind.ErrorKind.{ErrorKind}
use Rattle.clap.specs.declared.error.kind.ErrorKind.TheVariants.{OutOfMemory}
use Rattle.jjob.specs.CommandWords.{Said}
use Rattle.jjob.specs.declared.command.WordsError.{WordsError}
use Rattle.jjob.specs.declared.command.WordsError.TheVariants.{Usage, Memory}

-- the first value of the form, and all the other words
abbrev pub said_in : List Row → Said
said_in rows = record { form = first_of (codes "form") rows; others = unwrap_or (all_of (codes "words") rows) [] }

-- why there is no command, by the kind of a parse's error
abbrev pub cause_of : ErrorKind → WordsError
cause_of OutOfMemory = Memory
cause_of _ = Usage

-- what words say exactly where there is this, Usage exactly where they say nothing; want of memory may come at any time
abbrev pub SaidGive : {T : Type 0} → (T → Said) → Result T WordsError → Option Said → Type 0
SaidGive f (Ok t) d = d ≡ Some (f t)
SaidGive f (Err Usage) d = d ≡ None
SaidGive f (Err Memory) d = ⊤
