-- The made files, as a loop holds them.
use Rattle.std.proofs.Common.{◌≡◌, ℕ, List, [], ◌∷◌, ◌++◌, map, ap, ◌∙◌, sym}
use Rattle.std.specs.Prelude.{String}
use Rattle.std.specs.Global.{Vec}
use Rattle.std.specs.declared.alloc.Global.{Global}
use Rattle.std.proofs.lemmas.List.{map-append}
use Rattle.joutput.specs.jio.ShelfFiles.{File}
use Rattle.joutput.specs.jio.MemoryDevices.{file_of, files_of}
use Rattle.jgen.specs.declared.making.MadeFile.{MadeFile}
use Rattle.jstore.specs.GeneratedShelves.{as_held}

-- the files before one, and that one
pub held_more : (done : List MadeFile) (one : MadeFile) (files now : List (String Global × Vec ℕ)) (file : String Global × Vec ℕ) → file_of file ≡ as_held one → now ≡ files ++ file ∷ []
    → files_of files ≡ map as_held done → files_of now ≡ map as_held (done ++ one ∷ [])
held_more done one files now file at is so_far =
    ap files_of is ∙ map-append file_of files (file ∷ []) ∙ ap (λ (fs : List File). fs ++ file_of file ∷ []) so_far ∙ ap (λ (f : File). map as_held done ++ f ∷ []) at
    ∙ sym (map-append as_held done (one ∷ []))
