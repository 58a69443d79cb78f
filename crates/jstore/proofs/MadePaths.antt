-- The paths of the files of a made job are texts.
use Rattle.std.proofs.Common.{◌≡◌, ℕ, ◌+◌, ◌^◌, ◌<◌, ◌≤◌, IsUtf8, List, [], ◌∷◌, codes, decimal, length, refl, subst, arith}
use Rattle.std.specs.List.{AllByRecursion}
use Rattle.std.proofs.lemmas.Fmt.{IsAscii-decimal}
use Rattle.std.proofs.lemmas.Str.{IsUtf8-append, IsUtf8-from_ascii}
use Rattle.jgen.specs.declared.draws.Kind.{Kind}
use Rattle.jgen.specs.declared.making.MadeFile.{MadeFile}
use Rattle.jgen.specs.GeneratedClasses.{name}
use Rattle.jgen.specs.Draws.{kinds}
use Rattle.jgen.specs.GeneratedFiles.{class_files, made_job, path}
use Rattle.jgen.proofs.DrawnKinds.{all_length}

letter_utf8 : IsUtf8 (codes "G")
unfolding lib.Utf8.encode
letter_utf8 = (codes "G", (refl, refl))

ending_utf8 : IsUtf8 (codes ".class")
unfolding lib.Utf8.encode
ending_utf8 = (codes ".class", (refl, refl))

job_utf8 : IsUtf8 (codes "gen.job")
unfolding lib.Utf8.encode
job_utf8 = (codes "gen.job", (refl, refl))

policy_utf8 : IsUtf8 (codes "gen.policy")
unfolding lib.Utf8.encode
policy_utf8 = (codes "gen.policy", (refl, refl))

class_utf8 : (i : ℕ) → i < 2 ^ 64 → IsUtf8 (path i)
class_utf8 i lt =
    IsUtf8-append (name i) (codes ".class") (IsUtf8-append (codes "G") (decimal i) letter_utf8 (IsUtf8-from_ascii (decimal i) (IsAscii-decimal i lt))) ending_utf8

abbrev pub AreNamed : List MadeFile → Type 0
AreNamed files = AllByRecursion (λ (file : MadeFile). IsUtf8 file.path) files

classes_named : (size i : ℕ) (of : List Kind) → i + length of < 2 ^ 64 → AreNamed (class_files size i of)
unfolding class_files
classes_named size i [] lt = tt
classes_named size i (kind ∷ more) lt = (class_utf8 i (omega arith), classes_named size (i + 1) more (omega arith))

pub all_named : (seed size : ℕ) → size ≤ 1000 → AreNamed (made_job seed size).files
unfolding made_job
all_named seed size le = (job_utf8, (policy_utf8, classes_named size 0 (kinds seed size) (let n = all_length seed size (kinds seed size) refl in omega arith)))

-- those that a loop has left
pub named_front : (files more : List MadeFile) (file : MadeFile) → files ≡ file ∷ more → AreNamed files → IsUtf8 file.path
named_front files more file is named = (subst AreNamed is named).0

pub named_rest : (files more : List MadeFile) (file : MadeFile) → files ≡ file ∷ more → AreNamed files → AreNamed more
named_rest files more file is named = (subst AreNamed is named).1
