-- The paths of classes that are stored may stand in a job.
use Rattle.std.proofs.Common.{◌≡◌, ℕ, ◌^◌, ◌<◌, ◌==◌, false, All, List, ◌++◌, IsUtf8, codes, decimal, length, arith, length-append}
use Rattle.std.proofs.lemmas.List.Elements.{All-append, All-from_recursion}
use Rattle.std.proofs.lemmas.Str.{IsUtf8-append, IsUtf8-from_ascii}
use Rattle.joutput.specs.jio.TextOutput.{written}
use Rattle.jjob_laws.specs.StoredJobs.{IsName}
use Rattle.jstore.specs.Folders.{class_path, place_of}
use Rattle.jtasks.specs.jstages.LinkStage.{units_in}
use Rattle.jstore.proofs.Units.{AllPrint, Prints, Small, decimal_prints, is_ascii, no_feeds, print_both, units_small, written_prints}

prints : (b : ℕ) → 32 < b → b < 126 → Prints b
prints b low high = (omega arith, omega arith)

folder_prints : AllPrint (codes "/d")
folder_prints = (prints 47 (omega arith) (omega arith), (prints 100 (omega arith) (omega arith), tt))

slash_prints : AllPrint (codes "/")
slash_prints = (prints 47 (omega arith) (omega arith), tt)

letters_print : AllPrint (codes "ass")
letters_print = (prints 97 (omega arith) (omega arith), (prints 115 (omega arith) (omega arith), (prints 115 (omega arith) (omega arith), tt)))

point_prints : AllPrint (codes ".cl")
point_prints = (prints 46 (omega arith) (omega arith), (prints 99 (omega arith) (omega arith), (prints 108 (omega arith) (omega arith), tt)))

ending_prints : AllPrint (codes ".class")
ending_prints = print_both (codes ".cl") (codes "ass") point_prints letters_print

place_prints : (domain : ℕ) (units : List ℕ) → domain < 2 ^ 64 → Small units → AllPrint (place_of domain units)
place_prints domain units lt small =
    print_both (codes "/d") _ folder_prints
    (print_both (decimal domain) _ (decimal_prints domain lt)
    (print_both (codes "/") _ slash_prints (print_both (written units) (codes ".class") (written_prints units small) ending_prints)))

-- below a folder whose path is a text
pub path_utf8 : (to : List ℕ) (domain : ℕ) (name : List ℕ) → IsUtf8 to → domain < 2 ^ 64 → IsUtf8 (class_path to domain name)
path_utf8 to domain name u lt =
    let place = place_of domain (units_in name) in
    IsUtf8-append to place u (IsUtf8-from_ascii place (is_ascii place (place_prints domain (units_in name) lt (units_small name))))

job_prints : AllPrint (codes "/job")
job_prints = (prints 47 (omega arith) (omega arith), (prints 106 (omega arith) (omega arith), (prints 111 (omega arith) (omega arith), (prints 98 (omega arith) (omega arith), tt))))

pub job_utf8 : (to : List ℕ) → IsUtf8 to → IsUtf8 (to ++ codes "/job")
job_utf8 to u = IsUtf8-append to (codes "/job") u (IsUtf8-from_ascii (codes "/job") (is_ascii (codes "/job") job_prints))

-- and has no line feed
pub is_name : (to : List ℕ) (domain : ℕ) (name : List ℕ) → IsUtf8 to → All (λ b. (b == 10) ≡ false) to → domain < 4096 → IsName (class_path to domain name)
is_name to domain name u line lt =
    let place = place_of domain (units_in name) in
    let small : domain < 2 ^ 64 = omega arith in
    let p : AllPrint place = place_prints domain (units_in name) small (units_small name) in
    let some : 0 < length place = omega arith in
    record {
      text = path_utf8 to domain name u small;
      some = omega (arith, length-append to place);
      line = All-append (λ b. (b == 10) ≡ false) to place line (All-from_recursion (λ b. (b == 10) ≡ false) place (no_feeds place p));
    }
