-- Parts of a program, read from class files.
use Rattle.std.proofs.Common.{◌≡◌, ℕ, zero, suc, ◌<◌, ◌≤◌, ◌&&◌, Bool, true, false, cond, List, [], ◌∷◌, Option, Some, None, Result, Ok, Err, bytes_eq, length, map, refl, sym, ap, ◌∙◌, subst, arith, le-leb, lt-ltb}
use Rattle.std.specs.Prelude.{IsTrue, nat_le, slice_get, if◌then◌else◌}
use Rattle.std.specs.List.{AllByRecursion}
use Rattle.jground.specs.jbase.ListMaps.{each}
use Rattle.jground.specs.jbase.MemoryFailures.{◌>>=◌}
use Rattle.jground.specs.declared.jformat.error.Fault.{Fault}
use Rattle.jground.specs.jformat.Format.{IsBytes}
use Rattle.joutput.specs.jio.ShelfFiles.{File, file_at, most_read, readable}
use Rattle.jclass.specs.declared.class.ClassParts.{ClassParts}
use Rattle.jclass.specs.declared.fault.ClassFault.{ClassFault}
use Rattle.jclass.specs.Class.{Spells, class_file}
use Rattle.jlinking.specs.jlink.LinkedPrograms.{AreParts, domains_rise}
use Rattle.jresolution.specs.declared.jprogram.part.CodePart.{CodePart}
use Rattle.jrewriting.specs.jrewrite.RewrittenFiles.{out_file}
use Rattle.jtasks.specs.declared.jstages.job_setup.ClassPath.{ClassPath}
use Rattle.jtasks.specs.jstages.JobPlans.{Rise, domains_of}
use Rattle.jtasks.specs.jstages.Stages.{Stopped, bytes_at, found}
use Rattle.jtasks.specs.jstages.ReadStage.{class_at, class_read, part_at}
use Rattle.jstore.specs.Folders.{path_of}
use Rattle.jstore.proofs.Binds.{bound}
use Rattle.jtop.proofs.JdriverProofs.Grounds.{replaced}

-- ---- names for what definitions say in place

-- The bytes, where they are few enough to be read.
abbrev short_enough : Option (List ℕ) → Option (List ℕ)
short_enough = elim [ None ↦ None | Some bytes ↦ if nat_le (length bytes) most_read then Some bytes else None ]

-- ---- the bytes of files

abbrev pub AllBytes : List File → Type 0
AllBytes files = AllByRecursion (λ (file : File). IsBytes file.bytes) files

some_is : {A : Type 0} (a b : A) → Some a ≡ Some b → a ≡ b
some_is a b e = cc

bytes_of_file : (files : List File) (path bytes : List ℕ) → AllBytes files → file_at files path ≡ Some bytes → IsBytes bytes
bytes_of_file [] path bytes h e = absurd cc
bytes_of_file (file ∷ files) path bytes h e = go (bytes_eq file.path path) (bytes_of_file files path bytes h.1) e
  where
    go : (b : Bool) → (file_at files path ≡ Some bytes → IsBytes bytes) → cond b (Some file.bytes) (file_at files path) ≡ Some bytes → IsBytes bytes
    go true later e = subst IsBytes (some_is file.bytes bytes e) h.0
    go false later e = later e

short_is : (o : Option (List ℕ)) (bytes : List ℕ) → short_enough o ≡ Some bytes → o ≡ Some bytes
short_is None bytes e = absurd cc
short_is (Some given) bytes e = go (nat_le (length given) most_read) e
  where
    go : (b : Bool) → cond b (Some given) None ≡ Some bytes → Some given ≡ Some bytes
    go true e = e
    go false e = absurd cc

pub read_bytes : (files : List File) (path bytes : List ℕ) → AllBytes files → readable files path ≡ Some bytes → IsBytes bytes
read_bytes files path bytes h e = bytes_of_file files path bytes h (short_is (file_at files path) bytes e)

pub found_is : (o : Option (List ℕ)) (bytes : List ℕ) → found o ≡ Ok bytes → o ≡ Some bytes
found_is None bytes e = absurd (let x = e in cc)
found_is (Some given) bytes e = let x = e in cc

-- ---- what was read

abbrev ok_class : ClassParts → Result ClassParts (Fault ClassFault)
ok_class c = Ok c

read_is : (path bytes : List ℕ) (r : Result ClassParts (Fault ClassFault)) (c : ClassParts) → class_read path bytes r ≡ Ok c → r ≡ ok_class c
read_is path bytes (Ok d) c e = let x = e in cc
read_is path bytes (Err fault) c e = absurd (let x = e in cc)

abbrev part_with : ℕ → ClassParts → CodePart
part_with domain class = record { domain = domain; class = class }

abbrev pub ReadsBack : Type 0
ReadsBack = (bytes : List ℕ) (c : ClassParts) → Spells bytes c → class_file.read bytes ≡ Ok c

abbrev pub SpellsWhole : Type 0
SpellsWhole = (bytes : List ℕ) (c : ClassParts) → IsBytes bytes → class_file.read bytes ≡ Ok c → Spells bytes c

pub record IsPart (one : ClassPath) (part : CodePart) : Type 0 where
  pub domain : part.domain ≡ one.domain
  pub fits : IsTrue (class_file.fits part.class)

abbrev ok_part : CodePart → Result CodePart Stopped
ok_part part = Ok part

is_part : (files : List File) (one : ClassPath) (part : CodePart) → AllBytes files → SpellsWhole → part_at files one ≡ Ok part → IsPart one part
unfolding part_at class_at
is_part files one part h spells e =
    let a = bound (class_at files one.path) (λ c. ok_part (part_with one.domain c)) part e in
    let b = bound (bytes_at files one.path) (λ bytes. class_read one.path bytes (class_file.read bytes)) a.0 a.1 in
    let bytes = read_bytes files one.path b.0 h (found_is (readable files one.path) b.0 b.1) in
    let read : class_file.read b.0 ≡ Ok a.0 = read_is one.path b.0 (class_file.read b.0) a.0 b.2 in
    let same : part_with one.domain a.0 ≡ part = let x = a.2 in cc in
    subst (IsPart one) same (record { domain = refl; fits = (spells b.0 a.0 bytes read).0 })

-- parts that were read from these class files, one from each
abbrev pub ArePartsOf : List ClassPath → List CodePart → Type 0
ArePartsOf [] [] = Unit {0}
ArePartsOf (one ∷ classes) (part ∷ parts) = IsPart one part × ArePartsOf classes parts
ArePartsOf _ _ = ⊥

abbrev ok_parts : List CodePart → Result (List CodePart) Stopped
ok_parts parts = Ok parts

parts_is : (a b : List CodePart) → ok_parts a ≡ ok_parts b → a ≡ b
parts_is a b e = cc

pub are_parts_of : (files : List File) (classes : List ClassPath) (parts : List CodePart) → AllBytes files → SpellsWhole → each (part_at files) classes ≡ Ok parts → ArePartsOf classes parts
unfolding each
are_parts_of files [] parts h spells e = subst (ArePartsOf []) (parts_is [] parts e) tt
are_parts_of files (one ∷ classes) parts h spells e =
    let a = bound (part_at files one) (λ y. each (part_at files) classes >>= λ ys. ok_parts (y ∷ ys)) parts e in
    let b = bound (each (part_at files) classes) (λ ys. ok_parts (a.0 ∷ ys)) parts a.2 in
    subst (ArePartsOf (one ∷ classes)) (parts_is (a.0 ∷ b.0) parts b.2) (is_part files one a.0 h spells a.1, are_parts_of files classes b.0 h spells b.1)

pub all_fit : (classes : List ClassPath) (parts : List CodePart) → ArePartsOf classes parts → (i : ℕ) (part : CodePart) → slice_get parts i ≡ Some part → IsTrue (class_file.fits part.class)
all_fit [] [] h i part at = absurd cc
all_fit [] (one ∷ parts) h i part at = absurd h
all_fit (one ∷ classes) [] h i part at = absurd h
all_fit (one ∷ classes) (first ∷ parts) h zero part at = subst (λ (x : CodePart). IsTrue (class_file.fits x.class)) (some_is first part at) (h.0).fits
all_fit (one ∷ classes) (first ∷ parts) h (suc i) part at = all_fit classes parts h.1 i part at

-- ---- how many, and of which code sources

same_length : (classes : List ClassPath) (parts : List CodePart) → ArePartsOf classes parts → length parts ≡ length classes
same_length [] [] h = refl
same_length [] (part ∷ parts) h = absurd h
same_length (one ∷ classes) [] h = absurd h
same_length (one ∷ classes) (part ∷ parts) h = ap suc (same_length classes parts h.1)

true_both : (a b : Bool) → a ≡ true → b ≡ true → (a && b) ≡ true
true_both a b e f = rw (e, f) refl

they_rise : (least : ℕ) (classes : List ClassPath) (parts : List CodePart) → ArePartsOf classes parts → Rise least (domains_of classes) → domains_rise least parts ≡ true
unfolding domains_rise
they_rise least [] [] h r = refl
they_rise least [] (part ∷ parts) h r = absurd h
they_rise least (one ∷ classes) [] h r = absurd h
they_rise least (one ∷ classes) (part ∷ parts) h r =
    let d = (h.0).domain in
    let above = r.0 in
    let below = r.1.0 in
    let later = they_rise part.domain classes parts h.1 (subst (λ (n : ℕ). Rise n (domains_of classes)) (sym d) r.1.1) in
    true_both _ _ (le-leb least part.domain (omega arith)) (true_both _ _ (lt-ltb part.domain 4096 (omega arith)) later)

pub are_parts : (classes : List ClassPath) (parts : List CodePart) → ArePartsOf classes parts → length classes ≤ 0xffff → Rise 0 (domains_of classes) → AreParts parts
are_parts classes parts h few rise = record { few = let n = same_length classes parts h in omega arith; domains = they_rise 0 classes parts h rise }

-- each domain's number is below 4,096
pub domains_small : (least : ℕ) (classes : List ClassPath) (parts : List CodePart) → ArePartsOf classes parts → Rise least (domains_of classes) → AllByRecursion (λ (part : CodePart). part.domain < 4096) parts
domains_small least [] [] h r = tt
domains_small least [] (part ∷ parts) h r = absurd h
domains_small least (one ∷ classes) [] h r = absurd h
domains_small least (one ∷ classes) (part ∷ parts) h r =
    let d = (h.0).domain in
    let below = r.1.0 in
    (omega arith, domains_small one.domain classes parts h.1 r.1.1)

-- ---- read again

-- what is read where a part was stored
abbrev pub IsHeld : List File → List ℕ → CodePart → Type 0
IsHeld shelf to part = readable shelf (path_of to (out_file part)) ≡ Some (class_file.spell part.class)

abbrev stored_at : List ℕ → CodePart → ClassPath
stored_at to part = record { domain = part.domain; path = path_of to (out_file part) }

part_again : (shelf : List File) (to : List ℕ) (part : CodePart) → ReadsBack → IsHeld shelf to part → IsTrue (class_file.fits part.class) → part_at shelf (stored_at to part) ≡ Ok part
unfolding part_at class_at
part_again shelf to part back held fits =
    let path = path_of to (out_file part) in
    let bytes = class_file.spell part.class in
    let class : class_at shelf path ≡ Ok part.class =
    ap (λ (o : Option (List ℕ)). found o >>= λ b. class_read path b (class_file.read b)) held ∙ ap (class_read path bytes) (back bytes part.class (fits, refl)) in
    ap (λ (r : Result ClassParts Stopped). r >>= λ c. ok_part (part_with part.domain c)) class

abbrev pub AllHeld : List File → List ℕ → List CodePart → Type 0
AllHeld shelf to parts = AllByRecursion (λ (part : CodePart). IsHeld shelf to part × IsTrue (class_file.fits part.class)) parts

abbrev pub paths_of : List ℕ → List CodePart → List (List ℕ)
paths_of to parts = map (λ part. path_of to (out_file part)) parts

-- parts in the place of those that were read, of the same domains, are read where they were stored
pub parts_again : (shelf : List File) (to : List ℕ) (move : CodePart → CodePart) → ((x : CodePart) → (move x).domain ≡ x.domain) → ReadsBack
    → (classes : List ClassPath) (parts : List CodePart) → ArePartsOf classes parts → AllHeld shelf to (map move parts)
    → each (part_at shelf) (replaced (paths_of to (map move parts)) classes) ≡ Ok (map move parts)
unfolding each
parts_again shelf to move keeps back [] [] h held = refl
parts_again shelf to move keeps back [] (part ∷ parts) h held = absurd h
parts_again shelf to move keeps back (one ∷ classes) [] h held = absurd h
parts_again shelf to move keeps back (one ∷ classes) (part ∷ parts) h held =
    let new = move part in
    let path = path_of to (out_file new) in
    let rest = replaced (paths_of to (map move parts)) classes in
    let same : new.domain ≡ one.domain = keeps part ∙ (h.0).domain in
    let first : part_at shelf (record { domain = one.domain; path = path }) ≡ Ok new =
    ap (λ (d : ℕ). part_at shelf (record { domain = d; path = path })) (sym same) ∙ part_again shelf to new back held.0.0 held.0.1 in
    ap (λ (r : Result CodePart Stopped). r >>= λ y. each (part_at shelf) rest >>= λ ys. ok_parts (y ∷ ys)) first
    ∙ ap (λ (r : Result (List CodePart) Stopped). r >>= λ ys. ok_parts (new ∷ ys)) (parts_again shelf to move keeps back classes parts h.1 held.1)
