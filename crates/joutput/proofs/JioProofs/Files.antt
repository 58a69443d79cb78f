-- Files found by their paths, and stored there.
use Rattle.std.proofs.Common.{◌≡◌, ℕ, suc, ◌+◌, ◌<◌, List, [], ◌∷◌, ◌++◌, length, get_or, set, drop, is_some, subst, add-one, Option, Some, None, Bool, true, false, if◌then◌else◌, refl, sym, ap, ◌∙◌, arith}
use Rattle.std.specs.Str.{bytes_eq}
use Rattle.std.proofs.lemmas.Slice.Eq.{bytes_eq-Decides}
use Rattle.std.proofs.Math.Seq.{drop-cons}
use Rattle.joutput.specs.jio.ShelfFiles.{File, PathsDiffer, file_at, stored, SameElsewhere}
use Rattle.std.proofs.Common.{String, Vec, string_bytes}
use Rattle.std.specs.declared.alloc.Global.{Global}
use Rattle.std.proofs.Math.ListN.{get_or-map}
use Rattle.std.proofs.lemmas.List.{map-set, map-append}
use Rattle.joutput.specs.jio.MemoryDevices.{place_from, file_of, files_of}

abbrev pub made : List ℕ → List ℕ → File
made path bytes = record { path = path; bytes = bytes }

-- ---- no file there

none_at_first : (b : Bool) (i : ℕ) (file : File) (files : List File) (path : List ℕ) → (place_from (i + 1) files path ≡ None → file_at files path ≡ None) → (if b then Some i else place_from (i + 1) files path) ≡ None → (if b then Some file.bytes else file_at files path) ≡ None
none_at_first true i file files path more e = cc
none_at_first false i file files path more e = more e

pub none_at : (i : ℕ) (files : List File) (path : List ℕ) → place_from i files path ≡ None → file_at files path ≡ None
none_at i [] path e = refl
none_at i (file ∷ files) path e = none_at_first (bytes_eq file.path path) i file files path (none_at (i + 1) files path) e

none_stored_first : (b : Bool) (i : ℕ) (file : File) (files : List File) (path bytes : List ℕ) → (place_from (i + 1) files path ≡ None → stored path bytes files ≡ files ++ made path bytes ∷ []) → (if b then Some i else place_from (i + 1) files path) ≡ None → (if b then made path bytes ∷ files else file ∷ stored path bytes files) ≡ file ∷ (files ++ made path bytes ∷ [])
none_stored_first true i file files path bytes more e = cc
none_stored_first false i file files path bytes more e = ap (λ (fs : List File). file ∷ fs) (more e)

pub none_stored : (i : ℕ) (files : List File) (path bytes : List ℕ) → place_from i files path ≡ None → stored path bytes files ≡ files ++ made path bytes ∷ []
unfolding stored
none_stored i [] path bytes e = refl
none_stored i (file ∷ files) path bytes e = none_stored_first (bytes_eq file.path path) i file files path bytes (none_stored (i + 1) files path bytes) e

-- ---- a file there

-- The first file at the path is the one at place k.
pub record IsAt (files : List File) (path : List ℕ) (k : ℕ) : Type 0 where
  pub within : k < length files
  pub found : (other : File) → file_at files path ≡ Some (get_or files k other).bytes
  pub stores : (bytes : List ℕ) (other : File) → stored path bytes files ≡ set files k (made (get_or files k other).path bytes)

some_at_first : (b : Bool) (i k : ℕ) (file : File) (files : List File) (path : List ℕ) → bytes_eq file.path path ≡ b → (place_from (i + 1) files path ≡ Some k → (j : ℕ) × (k ≡ i + 1 + j) × IsAt files path j) → (if b then Some i else place_from (i + 1) files path) ≡ Some k → (j : ℕ) × (k ≡ i + j) × IsAt (file ∷ files) path j
unfolding stored
some_at_first true i k file files path is more e =
    let same : file.path ≡ path = (bytes_eq-Decides file.path path).0 is in
    let here : i ≡ k = cc in (
      0,
      omega arith,
      record {
        within = omega arith;
        found = λ other. rw is refl;
        stores = λ bytes other. rw (is, same) refl;
      },
    )
some_at_first false i k file files path is more e =
    let r = more e in (
      suc r.0,
      omega (arith, r.1),
      record {
        within = omega (arith, r.2.within);
        found = λ other. rw is (r.2.found other);
        stores = λ bytes other. rw is (ap (λ (fs : List File). file ∷ fs) (r.2.stores bytes other));
      },
    )

pub some_at : (i k : ℕ) (files : List File) (path : List ℕ) → place_from i files path ≡ Some k → (j : ℕ) × (k ≡ i + j) × IsAt files path j
some_at i k [] path e = cc
some_at i k (file ∷ files) path e = some_at_first (bytes_eq file.path path) i k file files path refl (some_at (i + 1) k files path) e

-- ---- what is stored, and what is not

stored_here_first : (b : Bool) (path bytes : List ℕ) (file : File) (files : List File) → bytes_eq file.path path ≡ b → file_at (stored path bytes files) path ≡ Some bytes → file_at (if b then made path bytes ∷ files else file ∷ stored path bytes files) path ≡ Some bytes
stored_here_first true path bytes file files is more = rw ((bytes_eq-Decides path path).1 refl) refl
stored_here_first false path bytes file files is more = rw is more

pub stored_here : (path bytes : List ℕ) (files : List File) → file_at (stored path bytes files) path ≡ Some bytes
unfolding stored
stored_here path bytes [] = rw ((bytes_eq-Decides path path).1 refl) refl
stored_here path bytes (file ∷ files) = stored_here_first (bytes_eq file.path path) path bytes file files refl (stored_here path bytes files)

differs : (a b : List ℕ) (answer : Bool) → bytes_eq a b ≡ answer → (b ≡ a → ⊥) → bytes_eq a b ≡ false
differs a b true is ne = absurd (ne (sym ((bytes_eq-Decides a b).0 is)))
differs a b false is ne = is

stored_elsewhere_first : (b : Bool) (path bytes : List ℕ) (file : File) (files : List File) (other : List ℕ) → bytes_eq file.path path ≡ b → (other ≡ path → ⊥) → file_at (stored path bytes files) other ≡ file_at files other → file_at (if b then made path bytes ∷ files else file ∷ stored path bytes files) other ≡ (if bytes_eq file.path other then Some file.bytes else file_at files other)
stored_elsewhere_first true path bytes file files other is ne more =
    let same : file.path ≡ path = (bytes_eq-Decides file.path path).0 is in
    rw (same, differs path other (bytes_eq path other) refl ne) refl
stored_elsewhere_first false path bytes file files other is ne more = ap (λ (found : Option (List ℕ)). if bytes_eq file.path other then Some file.bytes else found) more

pub stored_elsewhere : (path bytes : List ℕ) (files : List File) (other : List ℕ) → (other ≡ path → ⊥) → file_at (stored path bytes files) other ≡ file_at files other
unfolding stored
stored_elsewhere path bytes [] other ne = rw (differs path other (bytes_eq path other) refl ne) refl
stored_elsewhere path bytes (file ∷ files) other ne = stored_elsewhere_first (bytes_eq file.path path) path bytes file files other refl ne (stored_elsewhere path bytes files other ne)

pub same_elsewhere : (path bytes : List ℕ) (files : List File) → SameElsewhere path (Some files) (Some (stored path bytes files))
same_elsewhere path bytes files other ne = ap (λ (found : Option (List ℕ)). Some found) (stored_elsewhere path bytes files other ne)

-- ---- a shelf's own list

pub found_at : (files : List (String Global × Vec ℕ Global)) (path : List ℕ) (place : Option ℕ) (k : ℕ) (item : String Global × Vec ℕ Global) → place ≡ place_from 0 (files_of files) path → place ≡ Some k → file_at (files_of files) path ≡ Some (get_or files k item).1.items
found_at files path place k item p e =
    let r = some_at 0 k (files_of files) path (sym p ∙ e) in
    let here : get_or (files_of files) r.0 (file_of item) ≡ get_or (files_of files) k (file_of item) = ap (λ (j : ℕ). get_or (files_of files) j (file_of item)) (omega (arith, r.1)) in
    r.2.found (file_of item) ∙ ap (λ (f : File). Some f.bytes) (here ∙ get_or-map file_of files k item)

pub stored_at : (files : List (String Global × Vec ℕ Global)) (path bytes : List ℕ) (place : Option ℕ) (k : ℕ) (item : String Global × Vec ℕ Global) (vec : Vec ℕ Global) → place ≡ place_from 0 (files_of files) path → place ≡ Some k → item ≡ get_or files k item → vec.items ≡ bytes → files_of (set files k (item.0, vec)) ≡ stored path bytes (files_of files)
stored_at files path bytes place k item vec p e is holds =
    let r = some_at 0 k (files_of files) path (sym p ∙ e) in
    let here : get_or (files_of files) r.0 (file_of item) ≡ file_of item = ap (λ (j : ℕ). get_or (files_of files) j (file_of item)) (omega (arith, r.1)) ∙ get_or-map file_of files k item ∙ ap file_of (sym is) in
    let at : r.0 ≡ k = omega (arith, r.1) in
    map-set file_of files k (item.0, vec) ∙ rw (holds, ← at) (sym (r.2.stores bytes (file_of item) ∙ rw here refl))

pub stored_behind : (files : List (String Global × Vec ℕ Global)) (path bytes : List ℕ) (place : Option ℕ) (name : String Global) (vec : Vec ℕ Global) → place ≡ place_from 0 (files_of files) path → place ≡ None → string_bytes name ≡ path → vec.items ≡ bytes → files_of (files ++ (name, vec) ∷ []) ≡ stored path bytes (files_of files)
stored_behind files path bytes place name vec p e named holds = map-append file_of files ((name, vec) ∷ []) ∙ rw (named, holds) (sym (none_stored 0 (files_of files) path bytes (sym p ∙ e)))

-- ---- paths that differ

pub differ_first : (files : List (String Global × Vec ℕ Global)) (i : ℕ) (item : String Global × Vec ℕ Global) → i < length files → item ≡ get_or files i item → PathsDiffer (files_of (drop i files)) → (file_at (files_of (drop (i + 1) files)) (string_bytes item.0) ≡ None) × PathsDiffer (files_of (drop (i + 1) files))
differ_first files i item lt is h =
    let P : List (String Global × Vec ℕ Global) → Type 0 = λ fs. PathsDiffer (files_of fs) in
    rw (is, add-one) (subst P (drop-cons files i item lt) h)

pub differ_more : (files : List (String Global × Vec ℕ Global)) (i : ℕ) (item : String Global × Vec ℕ Global) → i < length files → item ≡ get_or files i item → file_at (files_of (drop (i + 1) files)) (string_bytes item.0) ≡ None → PathsDiffer (files_of (drop (i + 1) files)) → PathsDiffer (files_of (drop i files))
differ_more files i item lt is one h =
    let P : List (String Global × Vec ℕ Global) → Type 0 = λ fs. PathsDiffer (files_of fs) in
    let both : PathsDiffer (files_of (item ∷ drop (suc i) files)) = (rw add-one at one, rw add-one at h) in
    subst P (ap (λ (x : String Global × Vec ℕ Global). x ∷ drop (suc i) files) is ∙ sym (drop-cons files i item lt)) both

pub nothing_there : (known : Option (List ℕ)) → false ≡ is_some known → known ≡ None
nothing_there (Some bytes) e = cc
nothing_there None e = refl

pub something_there : (known : Option (List ℕ)) → true ≡ is_some known → known ≡ None → ⊥
something_there (Some bytes) e n = cc
something_there None e n = cc
