-- Files that are stored one after the other.
use Rattle.std.specs.Prelude.{◌≡◌, List, [], ◌∷◌, ◌++◌, Option, option_map}
use Rattle.joutput.specs.jio.ShelfFiles.{File, SameElsewhere, stored}
use Rattle.jstore.specs.declared.storing.NewFile.{NewFile}

-- a file that is to be stored, as a shelf holds it
abbrev pub seen : NewFile → File
seen file = record { path = file.path; bytes = file.bytes }

-- the files of a shelf with these stored among them, one after the other
unfoldable pub stored_all : List File → List File → List File
stored_all [] files = files
stored_all (one ∷ more) files = stored_all more (stored one.path one.bytes files)

-- the same, where the files are told
abbrev pub with_files : List File → Option (List File) → Option (List File)
with_files new known = option_map (stored_all new) known

-- All is the same but for what stands at the path of the next of these files, which may be anything; where there is no next one, all is the same.
abbrev pub SameBut : List File → Option (List File) → Option (List File) → Type 0
SameBut [] before after = after ≡ before
SameBut (next ∷ more) before after = SameElsewhere next.path before after

-- Of these files a front was stored.
abbrev pub StoresFront : List File → Option (List File) → Option (List File) → Type 0
StoresFront new before after = (front : List File) × (rest : List File) × (new ≡ front ++ rest) × SameBut rest (with_files front before) after
