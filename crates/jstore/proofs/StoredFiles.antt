-- Files that are stored one after the other, as a loop stores them.
use Rattle.std.proofs.Common.{◌≡◌, ℕ, suc, ◌+◌, ◌<◌, List, [], ◌∷◌, ◌++◌, Option, Some, None, length, get_or, take, drop, map, refl, sym, ap, subst, ◌∙◌}
use Rattle.std.specs.Prelude.{codes, option_map}
use Rattle.std.proofs.Math.Seq.{drop-cons}
use Rattle.std.proofs.lemmas.List.{map-append, take-append-drop, take_more}
use Rattle.joutput.specs.jio.ShelfFiles.{File, SameElsewhere, stored}
use Rattle.jjob.specs.StoredJobText.{stored_job}
use Rattle.jrewriting.specs.declared.jrewrite.rewritten.OutFile.{OutFile}
use Rattle.jstore.specs.declared.storing.NewFile.{NewFile}
use Rattle.jstore.specs.Folders.{all_below, class_below, job_below, path_of}
use Rattle.jstore.specs.FileWrites.{SameBut, StoresFront, seen, stored_all, with_files}

-- ---- nothing

pub with_none : (o : Option (List File)) → with_files [] o ≡ o
unfolding stored_all
with_none None = refl
with_none (Some files) = refl

-- all is the same where nothing was done
same_but : (files : List File) (o : Option (List File)) → SameBut files o o
same_but [] o = refl
same_but (next ∷ more) o = λ other apart. refl

pub front_none : (files : List File) (o : Option (List File)) → StoresFront files o o
front_none files o = ([], files, refl, subst (λ (x : Option (List File)). SameBut files x o) (sym (with_none o)) (same_but files o))

pub front_same : (files : List File) (old new : Option (List File)) → new ≡ old → StoresFront files old new
front_same files old new h = subst (λ (x : Option (List File)). StoresFront files old x) (sym h) (front_none files old)

-- ---- one more

stored_behind : (done : List File) (x : File) (files : List File) → stored_all (done ++ x ∷ []) files ≡ stored x.path x.bytes (stored_all done files)
unfolding stored_all
stored_behind [] x files = refl
stored_behind (y ∷ done) x files = stored_behind done x (stored y.path y.bytes files)

with_behind : (done : List File) (x : File) (o : Option (List File)) → with_files (done ++ x ∷ []) o ≡ option_map (stored x.path x.bytes) (with_files done o)
with_behind done x None = refl
with_behind done x (Some files) = ap (λ (r : List File). Some r) (stored_behind done x files)

seen_more : (xs : List NewFile) (i : ℕ) (x : NewFile) → i < length xs → x ≡ get_or xs i x → map seen (take (i + 1) xs) ≡ map seen (take i xs) ++ seen x ∷ []
seen_more xs i x lt is = ap (map seen) (take_more xs i x lt ∙ ap (λ (y : NewFile). take i xs ++ y ∷ []) (sym is)) ∙ map-append seen (take i xs) (x ∷ [])

pub store_more : (xs : List NewFile) (i : ℕ) (x : NewFile) (path bytes : List ℕ) (old between now : Option (List File)) → i < length xs → x ≡ get_or xs i x → path ≡ x.path → bytes ≡ x.bytes → between ≡ with_files (map seen (take i xs)) old
    → now ≡ option_map (stored path bytes) between
    → now ≡ with_files (map seen (take (i + 1) xs)) old
store_more xs i x path bytes old between now lt is at these so_far next =
    next ∙ ap (λ (p : List ℕ). option_map (stored p bytes) between) at ∙ ap (λ (b : List ℕ). option_map (stored x.path b) between) these ∙ ap (λ (o : Option (List File)). option_map (stored x.path x.bytes) o) so_far ∙ sym (with_behind (map seen (take i xs)) (seen x) old)
    ∙ sym (ap (λ (fs : List File). with_files fs old) (seen_more xs i x lt is))

split_at : (xs : List NewFile) (i : ℕ) (x : NewFile) → i < length xs → x ≡ get_or xs i x → map seen xs ≡ map seen (take i xs) ++ (seen x ∷ map seen (drop (suc i) xs))
split_at xs i x lt is =
    let rest : drop i xs ≡ x ∷ drop (suc i) xs = drop-cons xs i x lt ∙ ap (λ (y : NewFile). y ∷ drop (suc i) xs) (sym is) in
    ap (map seen) (sym (take-append-drop i xs) ∙ ap (λ (r : List NewFile). take i xs ++ r) rest) ∙ map-append seen (take i xs) (x ∷ drop (suc i) xs)

-- the files before one were stored, and that one failed
pub front_at : (xs : List NewFile) (i : ℕ) (x : NewFile) (path : List ℕ) (old between now : Option (List File)) → i < length xs → x ≡ get_or xs i x → path ≡ x.path → between ≡ with_files (map seen (take i xs)) old → SameElsewhere path between now
    → StoresFront (map seen xs) old now
front_at xs i x path old between now lt is at so_far same =
    (map seen (take i xs), seen x ∷ map seen (drop (suc i) xs), split_at xs i x lt is, subst (λ (p : List ℕ). SameElsewhere p (with_files (map seen (take i xs)) old) now) at (subst (λ (o : Option (List File)). SameElsewhere path o now) so_far same))

-- ---- class files below a folder

pub below_more : (to : List ℕ) (done : List OutFile) (one : OutFile) (new now : List NewFile) (file : NewFile) → file.path ≡ path_of to one → file.bytes ≡ one.bytes → now ≡ new ++ file ∷ [] → map seen new ≡ map (class_below to) done
    → map seen now ≡ map (class_below to) (done ++ one ∷ [])
below_more to done one new now file at these is so_far =
    let last : seen file ≡ class_below to one = ap (λ (p : List ℕ). record { path = p; bytes = file.bytes }) at ∙ ap (λ (b : List ℕ). record { path = path_of to one; bytes = b }) these in
    ap (map seen) is ∙ map-append seen new (file ∷ []) ∙ ap (λ (fs : List File). fs ++ seen file ∷ []) so_far ∙ ap (λ (f : File). map (class_below to) done ++ f ∷ []) last
    ∙ sym (map-append (class_below to) done (one ∷ []))

pub paths_more : (to : List ℕ) (done : List OutFile) (one : OutFile) (paths now : List (List ℕ)) (path : List ℕ) → path ≡ path_of to one → now ≡ paths ++ path ∷ [] → paths ≡ map (path_of to) done
    → now ≡ map (path_of to) (done ++ one ∷ [])
paths_more to done one paths now path at is so_far =
    is ∙ ap (λ (ps : List (List ℕ)). ps ++ path ∷ []) so_far ∙ ap (λ (p : List ℕ). map (path_of to) done ++ p ∷ []) at ∙ sym (map-append (path_of to) done (one ∷ []))

-- and the job behind them
pub all_more : (to text : List ℕ) (files : List OutFile) (new now : List NewFile) (file : NewFile) (paths : List (List ℕ)) → file.path ≡ to ++ codes "/job" → file.bytes ≡ stored_job text paths → now ≡ new ++ file ∷ [] → map seen new ≡ map (class_below to) files
    → paths ≡ map (path_of to) files → map seen now ≡ all_below to text files
all_more to text files new now file paths at these is so_far named =
    let last : seen file ≡ job_below to text files = ap (λ (p : List ℕ). record { path = p; bytes = file.bytes }) at ∙ ap (λ (b : List ℕ). record { path = to ++ codes "/job"; bytes = b }) (these ∙ ap (stored_job text) named) in
    ap (map seen) is ∙ map-append seen new (file ∷ []) ∙ ap (λ (fs : List File). fs ++ seen file ∷ []) so_far ∙ ap (λ (f : File). map (class_below to) files ++ f ∷ []) last
