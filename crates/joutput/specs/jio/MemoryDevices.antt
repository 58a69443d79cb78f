-- What a shelf and a sink in memory hold, and what their calls answer.
use Rattle.std.specs.Prelude.{ℕ, ◌+◌, ◌-◌, ◌^◌, min, List, [], ◌∷◌, map, ◌++◌, take, String, string_bytes, Bool, ◌==◌, if◌then◌else◌, Option, Some, None, Result, Ok, Err, length}
use Rattle.std.specs.List.{list_any}
use Rattle.std.specs.Str.{bytes_eq}
use Rattle.std.specs.Global.{Vec}
use Rattle.std.specs.declared.alloc.Global.{Global}
use Rattle.joutput.specs.declared.jio.sink.SinkError.{SinkError}
use Rattle.joutput.specs.declared.jio.sink.SinkError.TheVariants.{Failed}
use Rattle.joutput.specs.jio.ShelfFiles.{File, readable}

-- ---- calls by number

-- The next of a count that stands still at the last value of a u64.
abbrev pub next : ℕ → ℕ
next count = min (count + 1) (2 ^ 64 - 1)

-- The call with this number is to fail.
abbrev pub is_listed : List ℕ → ℕ → Bool
is_listed bad number = list_any (λ n. n == number) bad

-- A count that rises where a call failed.
abbrev pub counted : Bool → ℕ → ℕ
counted failed count = if failed then next count else count

-- ---- a shelf

abbrev pub file_of : String Global × Vec ℕ → File
file_of file = record { path = string_bytes file.0; bytes = file.1.items }

-- The files that are given, as a shelf tells them.
abbrev pub files_of : List (String Global × Vec ℕ) → List File
files_of files = map file_of files

-- Where the first file at the path stands, where the list begins at place i.
abbrev pub place_from : ℕ → List File → List ℕ → Option ℕ
place_from i [] path = None
place_from i (file ∷ files) path = if bytes_eq file.path path then Some i else place_from (i + 1) files path

-- The files of a shelf in memory, and of its reads and of its writes the numbers that are to fail, how many there were,
-- and how many faults were counted.
pub record ShelfState : Type 0 where
  pub files : List File
  pub bad_reads : List ℕ
  pub reads : ℕ
  pub read_faults : ℕ
  pub bad_writes : List ℕ
  pub writes : ℕ
  pub write_faults : ℕ

-- A shelf of these files before its first read and write.
abbrev pub new_shelf : List File → List ℕ → List ℕ → ShelfState
new_shelf files bad_reads bad_writes =
    record { files = files; bad_reads = bad_reads; reads = 0; read_faults = 0; bad_writes = bad_writes; writes = 0; write_faults = 0 }

-- The next read is to fail.
abbrev pub read_listed : ShelfState → Bool
read_listed shelf = is_listed shelf.bad_reads (next shelf.reads)

-- The next write is to fail.
abbrev pub write_listed : ShelfState → Bool
write_listed shelf = is_listed shelf.bad_writes (next shelf.writes)

-- What the next read gives.
abbrev pub read_gives : ShelfState → List ℕ → Option (List ℕ)
read_gives shelf path = if read_listed shelf then None else readable shelf.files path

-- The shelf behind the next read.
abbrev pub after_read : ShelfState → ShelfState
after_read shelf = record shelf { reads = next shelf.reads; read_faults = counted (read_listed shelf) shelf.read_faults }

-- The shelf behind the next write, but for its files.
abbrev pub after_write : ShelfState → ShelfState
after_write shelf = record shelf { writes = next shelf.writes; write_faults = counted (write_listed shelf) shelf.write_faults }

-- ---- a sink

-- The bytes of a sink in memory, for how many bytes it has room, and of its puts the numbers that are to fail, how many
-- there were, and how many faults were counted.
pub record SinkState : Type 0 where
  pub bytes : List ℕ
  pub room : ℕ
  pub bad_puts : List ℕ
  pub puts : ℕ
  pub faults : ℕ

-- A sink of so much room before its first put.
abbrev pub new_sink : ℕ → List ℕ → SinkState
new_sink room bad_puts = record { bytes = []; room = room; bad_puts = bad_puts; puts = 0; faults = 0 }

-- What the next put answers.
abbrev pub put_gives : SinkState → List ℕ → Result ℕ SinkError
put_gives sink piece =
    if length piece == 0 then Ok 0 else
    (if is_listed sink.bad_puts (next sink.puts) then Err Failed else
    (if sink.room - length sink.bytes == 0 then Err Failed else Ok (min (sink.room - length sink.bytes) (length piece))))

-- The sink behind the next put, by that put's answer.
abbrev pub after_put : SinkState → List ℕ → Result ℕ SinkError → SinkState
after_put sink piece (Ok n) = record sink { bytes = sink.bytes ++ take n piece; puts = next sink.puts }
after_put sink piece (Err e) = record sink { puts = next sink.puts; faults = next sink.faults }
