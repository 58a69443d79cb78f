-- The numbers to which branches lead, and what is known of the code of a class file.
use Rattle.std.proofs.Common.{◌≡◌, ◌≤◌, ◌<◌, ℕ, suc, ◌+◌, ℤ, pos, negsuc, Bool, true, false, eqb, List, [], ◌∷◌, ◌++◌, length, get_or, drop, map, Option, Some, None, Result, Ok, Err, refl, sym, ap, ◌∙◌, arith}
use Rattle.std.specs.Prelude.{◌+ℤ◌, IfSome, IsTrue, option_and_then, option_map}
use Rattle.std.specs.List.{position, position_or_len}
use Rattle.std.specs.List.Sorted.{IsSearchInRange, IsBinarySearchResult}
use Rattle.std.specs.Ordering.{int_cmp, int_eq}
use Rattle.std.proofs.Math.Path.{fun_ext}
use Rattle.std.proofs.lemmas.Bool.{le-ltb}
use Rattle.std.proofs.lemmas.Bool.Decides.{nat_tests}
use Rattle.std.proofs.lemmas.List.{get_or_default, length-append}
use Rattle.jground.specs.jbase.ListMaps.{each_some, put_front}
use Rattle.jground.specs.jbase.FirstFaults.{first_some, or_else}
use Rattle.jground.proofs.JbaseProofs.Loops.{some_behind, some_more, some_stops}
use Rattle.jground.specs.jformat.StatefulFormats.{fits_from, spell_from}
use Rattle.jground.proofs.JformatProofs.ReadingSteps.{first_true, second_true}
use Rattle.jparts.specs.declared.jcode.op.Case.{Case}
use Rattle.jparts.specs.declared.jcode.op.Op.{Op}
use Rattle.jparts.specs.declared.jcode.op.Placed.{Placed}
use Rattle.jparts.specs.jcode.Instructions.{Rises, code, instruction, instructions, is_place, place_behind, placed, size}
use Rattle.jparts.proofs.JcodeProofs.CodeLaws.{fits_at}
use Rattle.jparts.proofs.JcodeProofs.Places.{fit_rises, found, numbered, searched}
use Rattle.jclass.specs.declared.class.ClassParts.{ClassParts}
use Rattle.jclass.specs.declared.class.CodeBody.{CodeBody}
use Rattle.jclass.specs.declared.class.MemberInfo.{MemberInfo}
use Rattle.jclass.specs.Class.{class_file}
use Rattle.jclass.specs.MemberFormat.{body_of}
use Rattle.jclass.specs.FileContents.{HasCode, IsIn}
use Rattle.jclass.proofs.FittingClasses.{code_fits, code_items}
use Rattle.jresolution.specs.jprogram.ClassFileParts.{code_of}
use Rattle.jresolution.specs.declared.juses.code.CodeRef.{CodeRef}
use Rattle.jresolution.specs.declared.juses.numbered.Key.{Key}
use Rattle.jresolution.specs.juses.IndexedInstructions.{keyed, target}
use Rattle.jresolution.specs.juses.InternedInstructions.{AreCode, key_at, keyed_as, keys_from, seen_code}

-- ---- a search

never : {X : Type 0} (xs : List X) → position_or_len (λ (x : X). false) xs ≡ length xs
never [] = refl
never (x ∷ xs) = let rest = never xs in omega (arith, rest)

none_of_them : (ps : List Placed) → position (λ (p : Placed). false) ps ≡ None
none_of_them ps = rw (never ps, le-ltb (length ps) (length ps) (omega arith)) refl

never_there : (ps : List Placed) (n : ℕ) → is_place ps (negsuc n) ≡ false
never_there [] n = refl
never_there (p ∷ ps) n = never_there ps n

same_test : (x at : ℕ) → eqb x at ≡ int_eq (pos x) (pos at)
same_test x at = grind (arith, nat_tests)

pub number_found : (ps : List Placed) (t : ℤ) (r : Result ℕ ℕ) → Rises ps → IsSearchInRange r (length ps) → IsBinarySearchResult (λ p. int_cmp (pos p.at) t) ps r → found r ≡ position (λ p. int_eq (pos p.at) t) ps
number_found ps (pos at) r rise in_range by = numbered ps at (pos at) r rise in_range by refl ∙ ap (λ (f : Placed → Bool). position f ps) (fun_ext (λ (p : Placed). same_test p.at at))
number_found ps (negsuc n) (Ok i) rise in_range by =
    let there : true ≡ is_place ps (negsuc n) = searched ps (negsuc n) (Ok i) rise in_range by in
    absurd cc (there ∙ never_there ps n)
number_found ps (negsuc n) (Err i) rise in_range by = sym (none_of_them ps)

pub number_within : (ps : List Placed) (r : Result ℕ ℕ) (i : ℕ) → IsSearchInRange r (length ps) → r ≡ Ok i → i < length ps
number_within ps (Ok j) i within is = let same : j ≡ i = cc in omega (arith, within, same)
number_within ps (Err j) i within is = absurd cc

-- ---- loops over values that are copied

pub some_next : {A B : Type 0} (f : A → Option B) (done : List B) (xs : List A) (i : ℕ) (d : A) (y : B) (total : Option (List B)) → i < length xs → f (get_or xs i d) ≡ Some y → some_behind done (each_some f (drop i xs)) ≡ total → some_behind (done ++ y ∷ []) (each_some f (drop (i + 1) xs)) ≡ total
some_next f done xs i d y total lt h so_far = some_more f done xs i (get_or xs i d) y total lt (get_or_default xs i d (get_or xs i d) lt) h so_far

pub none_next : {A B : Type 0} (f : A → Option B) (done : List B) (xs : List A) (i : ℕ) (d : A) (total : Option (List B)) → i < length xs → f (get_or xs i d) ≡ None → some_behind done (each_some f (drop i xs)) ≡ total → total ≡ None
none_next f done xs i d total lt h so_far = some_stops f done xs i (get_or xs i d) total lt (get_or_default xs i d (get_or xs i d) lt) h so_far

-- ---- switches

in_front : (key : ℤ) (one : Option ℕ) (rest : Option (List ℕ)) → option_and_then (λ to. option_map (λ rest. (key, to) ∷ rest) (option_map (keys_from (key +ℤ pos 1)) rest)) one ≡ option_map (keys_from key) (put_front one rest)
unfolding keys_from
in_front key None rest = refl
in_front key (Some to) None = refl
in_front key (Some to) (Some rest) = refl

-- keys that rise by one, with the numbers to which their branches lead
pub keyed_is : (ops : List Placed) (at : ℕ) (key : ℤ) (branches : List ℤ) → option_map (keys_from key) (each_some (target ops at) branches) ≡ keyed ops at key branches
unfolding keyed each_some keys_from
keyed_is ops at key [] = refl
keyed_is ops at key (by ∷ branches) =
    sym (ap (λ (o : Option (List (ℤ × ℕ))). option_and_then (λ to. option_map (λ rest. (key, to) ∷ rest) o) (target ops at by)) (sym (keyed_is ops at (key +ℤ pos 1) branches))
    ∙ in_front key (target ops at by) (each_some (target ops at) branches))

case_in_front : (key : ℤ) (one : Option ℕ) (rest : Option (List Key)) → option_map (map keyed_as) (put_front (option_map (λ to. record { key = key; to = to }) one) rest) ≡ put_front (option_map (λ to. (key, to)) one) (option_map (map keyed_as) rest)
case_in_front key None rest = refl
case_in_front key (Some to) None = refl
case_in_front key (Some to) (Some rest) = refl

-- keys, each with the number to which its branch leads
pub cases_are : (ops : List Placed) (at : ℕ) (cases : List Case) → option_map (map keyed_as) (each_some (key_at ops at) cases) ≡ each_some (λ c. option_map (λ to. (c.key, to)) (target ops at c.branch)) cases
unfolding each_some
cases_are ops at [] = refl
cases_are ops at (c ∷ cases) =
    case_in_front c.key (target ops at c.branch) (each_some (key_at ops at) cases)
    ∙ ap (put_front (option_map (λ to. (c.key, to)) (target ops at c.branch))) (cases_are ops at cases)

-- ---- the code of a class file

size_some : (at : ℕ) (op : Op) → 0 < size at op
unfolding size instruction
size_some at op = omega arith

-- each instruction takes a byte
count_from : (s : ℕ) (ps : List Placed) → IsTrue (fits_from (λ t. (placed t).fits) place_behind s ps) → length ps ≤ length (spell_from (λ t. (placed t).spell) place_behind s ps)
unfolding fits_from spell_from size
count_from s [] fit = omega arith
count_from s (p ∷ ps) fit =
    let f = fits_at s p (first_true ((placed s).fits p) (fits_from (λ t. (placed t).fits) place_behind (place_behind s p) ps) fit) in
    let tail = spell_from (λ t. (placed t).spell) place_behind (place_behind s p) ps in
    let len : length ((placed s).spell p ++ tail) ≡ length ((placed s).spell p) + length tail = length-append ((placed s).spell p) tail in
    let one : length ((placed s).spell p) ≡ size s p.op = ap length f.2 in
    let more : length ps ≤ length tail = count_from (place_behind s p) ps (second_true ((placed s).fits p) (fits_from (λ t. (placed t).fits) place_behind (place_behind s p) ps) fit) in
    omega (arith, size_some s p.op)

few_of : (ps : List Placed) → IsTrue (instructions.fits ps) → length (instructions.spell ps) ≤ 0xffff → length ps ≤ 0xffff
unfolding instructions
few_of ps fit short =
    let most : length ps ≤ length (spell_from (λ t. (placed t).spell) place_behind 0 ps) = count_from 0 ps fit in
    omega arith

few : (ps : List Placed) → IsTrue (code.fits ps) → length (code.spell ps) ≤ 0xffff → length ps ≤ 0xffff
unfolding code
few ps fit short = few_of ps (first_true (instructions.fits ps) _ fit) short

code_is : (c : ClassParts) (body : CodeBody) → HasCode c body → AreCode body.ops
code_is c body has =
    let fit = code_items c.pool body (code_fits c body has) in
    record { rises = fit_rises body.ops fit.0; few = few body.ops fit.0 fit.1 }

record IsFound {A B : Type 0} (f : A → Option B) (xs : List A) (y : B) : Type 0 where
  item : A
  there : IsIn item xs
  gives : f item ≡ Some y

found_from : {A B : Type 0} (f : A → Option B) (x : A) (xs : List A) (y : B) (o : Option B) → f x ≡ o → or_else o (first_some f xs) ≡ Some y → (first_some f xs ≡ Some y → IsFound f xs y) → IsFound f (x ∷ xs) y
found_from f x xs y None is e more = let r = more e in record { item = r.item; there = (suc r.there.0, r.there.1); gives = r.gives }
found_from f x xs y (Some z) is e more = record { item = x; there = (0, refl); gives = is ∙ e }

first_found : {A B : Type 0} (f : A → Option B) (xs : List A) (y : B) → first_some f xs ≡ Some y → IsFound f xs y
unfolding first_some
first_found f [] y e = absurd cc
first_found f (x ∷ xs) y e = found_from f x xs y (f x) refl e (first_found f xs y)

-- a method's code
pub stored_is : (c : ClassParts) (m : MemberInfo) (body : CodeBody) → IsTrue (class_file.fits c) → IsIn m c.methods → code_of m ≡ Some body → AreCode body.ops
unfolding code_of
stored_is c m body fit there e =
    let r = first_found body_of m.attributes body e in
    code_is c body (record { good = fit; method = m; attribute = r.item; in_class = there; in_method = r.there; is_body = r.gives })

pub good_if : (c : ClassParts) (m : MemberInfo) (r : Option CodeRef) → IsTrue (class_file.fits c) → IsIn m c.methods → option_map seen_code r ≡ code_of m → IfSome r (λ one. AreCode one.ops.now)
good_if c m None fit there e = tt
good_if c m (Some one) fit there e = stored_is c m (seen_code one) fit there (sym e)
