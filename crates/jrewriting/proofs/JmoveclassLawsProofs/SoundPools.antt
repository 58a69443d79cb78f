-- Pools that meet the demands of a class file (JVMS 4.4), and what keeps them so: texts, classes, names and types, references.
use Rattle.std.proofs.Common.{◌≡◌, ℕ, zero, suc, ◌+◌, ◌<◌, ◌≤◌, Bool, true, false, ◌&&◌, List, [], ◌∷◌, ◌++◌, length, Option, Some, None, refl, sym, ap, subst, ◌∙◌, arith}
use Rattle.std.specs.Prelude.{IsTrue, is_some, slice_get, option_map, nat_lt, ◌||◌, if◌then◌else◌, option_and_then}
use Rattle.std.specs.List.{list_all, position}
use Rattle.std.proofs.lemmas.Bool.{lt-ltb}
use Rattle.std.proofs.lemmas.List.{length-append}
use Rattle.jground.specs.jbase.FirstFaults.{or_else}
use Rattle.jground.specs.jformat.Format.{is_good, unless}
use Rattle.jground.proofs.JformatProofs.ReadingSteps.{both, first_true, second_true}
use Rattle.jparts.specs.declared.jpool.entry.Entry.{Entry}
use Rattle.jparts.specs.declared.jpool.entry.Entry.TheVariants.{Unused, Utf8, Integer, Float, Long, Double, Class, Str, Field, Method, InterfaceMethod, NameAndType, MethodHandle, MethodType, InvokeDynamic}
use Rattle.jparts.specs.declared.jpool.fault.PoolFault.{PoolFault}
use Rattle.jparts.specs.declared.jpool.fault.PoolFault.TheVariants.{BadIndex, BadName, BadDescriptor}
use Rattle.jparts.specs.jpool.EntryLayouts.{laid, names_text}
use Rattle.jadder.specs.EntryInterning.{same}
use Rattle.jparts.specs.jpool.Descriptors.{is_array_descriptor, is_field_descriptor, is_method_descriptor}
use Rattle.jparts.specs.jpool.PoolEntries.{entry, name_and_type_parts}
use Rattle.jparts.specs.jpool.ClassNames.{is_class_name}
use Rattle.jparts.specs.jpool.ConstantPools as pools
use Rattle.jparts.specs.jpool.ConstantPools.{IsPool, class_name_at, descriptor_fault, is_class, is_name_and_type, is_utf8, member_fault, name_fault, utf8_at}
use Rattle.jparts.proofs.JpoolProofs.PoolExtension.{laid_count, pool_with}
use Rattle.jadder.proofs.NumberedPools.{least_is, least_with}
use Rattle.jclass.specs.declared.fault.ClassFault.TheVariants.{Text}
use Rattle.jclass.specs.IndexFormats.{pool_fault}
use Rattle.jclass.specs.PoolChecks.{entry_fault, is_modified, no_fault, text_fault}
use Rattle.jmove.specs.PoolAdditions.{IsFront, found_or, with_class, with_entry, with_member, with_text, ◌>>◌}
use Rattle.jmove.proofs.PoolGrowth.{entry_grows}
use Rattle.jmoveclass.proofs.PoolStability.{at_front, class_stays, kept_test, same_text, text_utf8, utf8_stays}
use Rattle.jmoveclass.proofs.DemandPreservation.{all_on, good_is, is_good_of}

pub front_length : (a b : List Entry) → IsFront a b → length a ≤ length b
front_length a b p = omega (arith, ap (λ (l : List Entry). length l) p.is, length-append a p.rest)

-- ---- an entry's faults in a pool that has grown

pub or_good : {K : Type 0} (a b : Option K) → IsTrue (is_good (or_else a b)) → IsTrue (is_good a) × IsTrue (is_good b)
or_good None b h = (refl, h)
or_good (Some k) b h = absurd cc

pub good_or : {K : Type 0} (a b : Option K) → IsTrue (is_good a) → IsTrue (is_good b) → IsTrue (is_good (or_else a b))
good_or None b h k = k
good_or (Some x) b h k = absurd cc

pub map_good : (o : Option PoolFault) → IsTrue (is_good (option_map pool_fault o)) → IsTrue (is_good o)
map_good None h = refl
map_good (Some k) h = absurd cc

pub good_map : (o : Option PoolFault) → IsTrue (is_good o) → IsTrue (is_good (option_map pool_fault o))
good_map None h = refl
good_map (Some k) h = absurd cc

pub name_text : (o : Option (List ℕ)) → IsTrue (is_good (name_fault o)) → IsTrue (is_some o)
name_text None h = absurd cc
name_text (Some text) h = refl

pub desc_text : (o : Option (List ℕ)) → IsTrue (is_good (descriptor_fault o)) → IsTrue (is_some o)
desc_text None h = absurd cc
desc_text (Some text) h = refl

some_utf8 : (pool : List Entry) (i : ℕ) (o : Option (List ℕ)) → utf8_at pool i ≡ o → IsTrue (is_some o) → IsTrue (is_utf8 pool i)
some_utf8 pool i None e h = absurd cc
some_utf8 pool i (Some text) e h = text_utf8 pool i text e

both_stay : (pool whole : List Entry) → IsFront pool whole → (i : ℕ) → IsTrue (is_name_and_type pool i) → IsTrue (is_name_and_type whole i)
unfolding is_name_and_type
both_stay pool whole f i h = ap (λ o. is_some (option_and_then name_and_type_parts o)) (kept_test pool whole f (λ o. is_some (option_and_then name_and_type_parts o)) refl i h) ∙ h

member_on : (pool whole : List Entry) → IsFront pool whole → (class both : ℕ) → IsTrue (is_good (member_fault pool class both)) → IsTrue (is_good (member_fault whole class both))
member_on pool whole f class b h =
    let good = good_is (is_class pool class && is_name_and_type pool b) BadIndex h in
    is_good_of (is_class whole class && is_name_and_type whole b) BadIndex
    (both (is_class whole class) (is_name_and_type whole b) (class_stays pool whole f class (first_true (is_class pool class) (is_name_and_type pool b) good))
    (both_stay pool whole f b (second_true (is_class pool class) (is_name_and_type pool b) good)))

pub good_if : (b : Bool) (o : Option PoolFault) → IsTrue (is_good (if b then o else Some BadIndex)) → IsTrue b × IsTrue (is_good o)
good_if true o h = (refl, h)
good_if false o h = absurd cc

if_good : (b : Bool) (o : Option PoolFault) → IsTrue b → IsTrue (is_good o) → IsTrue (is_good (if b then o else Some BadIndex))
if_good true o h k = k
if_good false o h k = absurd cc

class_on : (pool whole : List Entry) → IsFront pool whole → (name : ℕ) → IsTrue (is_good (name_fault (utf8_at pool name))) → IsTrue (is_good (name_fault (utf8_at whole name)))
class_on pool whole f name h =
    ap (λ (o : Option (List ℕ)). is_good (name_fault o)) (same_text pool whole f name (some_utf8 pool name (utf8_at pool name) refl (name_text (utf8_at pool name) h))) ∙ h

typed_on : (pool whole : List Entry) → IsFront pool whole → (desc : ℕ) → IsTrue (is_good (descriptor_fault (utf8_at pool desc))) → IsTrue (is_good (descriptor_fault (utf8_at whole desc)))
typed_on pool whole f desc h =
    ap (λ (o : Option (List ℕ)). is_good (descriptor_fault o)) (same_text pool whole f desc (some_utf8 pool desc (utf8_at pool desc) refl (desc_text (utf8_at pool desc) h))) ∙ h

names_on : (pool whole : List Entry) → IsFront pool whole → (e : Entry) → IsTrue (is_good (pools.entry_fault pool e)) → IsTrue (is_good (pools.entry_fault whole e))
unfolding pools.entry_fault
names_on pool whole f (Class name) h = class_on pool whole f name h
names_on pool whole f (Str text) h = is_good_of (is_utf8 whole text) BadIndex (utf8_stays pool whole f text (good_is (is_utf8 pool text) BadIndex h))
names_on pool whole f (Field class both) h = member_on pool whole f class both h
names_on pool whole f (Method class both) h = member_on pool whole f class both h
names_on pool whole f (InterfaceMethod class both) h = member_on pool whole f class both h
names_on pool whole f (NameAndType name desc) h =
    let g = good_if (is_utf8 pool name) (descriptor_fault (utf8_at pool desc)) h in
    if_good (is_utf8 whole name) (descriptor_fault (utf8_at whole desc)) (utf8_stays pool whole f name g.0) (typed_on pool whole f desc g.1)
names_on pool whole f Unused h = refl
names_on pool whole f (Utf8 text) h = refl
names_on pool whole f (Integer n) h = refl
names_on pool whole f (Float n) h = refl
names_on pool whole f (Long n) h = refl
names_on pool whole f (Double n) h = refl
names_on pool whole f (MethodHandle kind member) h = refl
names_on pool whole f (MethodType desc) h = refl
names_on pool whole f (InvokeDynamic b both) h = refl

pub entry_on : (pool whole : List Entry) → IsFront pool whole → (e : Entry) → IsTrue (is_good (entry_fault pool e)) → IsTrue (is_good (entry_fault whole e))
unfolding entry_fault
entry_on pool whole f e h =
    let g = or_good (text_fault e) (option_map pool_fault (pools.entry_fault pool e)) h in
    good_or (text_fault e) (option_map pool_fault (pools.entry_fault whole e)) g.0 (good_map (pools.entry_fault whole e) (names_on pool whole f e (map_good (pools.entry_fault pool e) g.1)))

-- ---- pools

-- a pool of a class file
pub record IsSound (pool : List Entry) : Type 0 where
  pub is_pool : IsPool pool
  pub begun : 0 < length pool
  pub good : IsTrue (no_fault pool)

-- an entry was put, or stood there
pub record IsPut (e : Entry) (x : ℕ × List Entry) : Type 0 where
  pub sound : IsSound x.1
  pub there : slice_get x.1 x.0 ≡ Some e

all_append : {A : Type 0} (p : A → Bool) (xs ys : List A) → IsTrue (list_all p xs) → IsTrue (list_all p ys) → IsTrue (list_all p (xs ++ ys))
all_append p [] ys h k = k
all_append p (x ∷ xs) ys h k = both (p x) (list_all p (xs ++ ys)) (first_true (p x) (list_all p xs) h) (all_append p xs ys (second_true (p x) (list_all p xs) h) k)

good_with : (e : Entry) (pool : List Entry) → IsTrue (no_fault pool) → IsTrue (is_good (entry_fault pool e)) → IsTrue (no_fault (pool ++ e ∷ []))
unfolding no_fault
good_with e pool h k =
    let whole = pool ++ e ∷ [] in
    let f : IsFront pool whole = record { rest = e ∷ []; is = refl } in
    all_append (λ x. is_good (entry_fault whole x)) pool (e ∷ []) (all_on (λ x. is_good (entry_fault pool x)) (λ x. is_good (entry_fault whole x)) (entry_on pool whole f) pool h)
    (both (is_good (entry_fault whole e)) true (entry_on pool whole f e k) refl)

found_put : (e : Entry) (pool : List Entry) (o : Option ℕ) → position (same e) pool ≡ o → IsSound pool → IsTrue (entry.fits e) → laid e ≡ e ∷ [] → IsTrue (names_text pool e) → IsTrue (is_good (entry_fault pool e))
    → length (found_or e pool o).1 ≤ 65535 → IsPut e (found_or e pool o)
found_put e pool (Some i) at s fit narrow named good few = record { sound = s; there = (least_is e pool i s.is_pool fit at).there }
found_put e pool None at s fit narrow named good few =
    let long : length (pool ++ laid e) ≡ length pool + length (laid e) = length-append pool (laid e) in
    let is : IsPool (pool ++ laid e) = pool_with e pool s.is_pool s.begun fit named (omega arith) in
    let begun : 0 < length pool = s.begun in
    record {
      sound = record {
        is_pool = is;
        begun = omega arith;
        good = subst (λ (l : List Entry). IsTrue (no_fault (pool ++ l))) (sym narrow) (good_with e pool s.good good);
      };
      there = (least_with e pool is fit at).there;
    }

pub put : (e : Entry) (pool : List Entry) → IsSound pool → IsTrue (entry.fits e) → laid e ≡ e ∷ [] → IsTrue (names_text pool e) → IsTrue (is_good (entry_fault pool e)) → length (with_entry e pool).1 ≤ 65535 → IsPut e (with_entry e pool)
unfolding with_entry
put e pool s fit narrow named good few = found_put e pool (position (same e) pool) refl s fit narrow named good few

-- ---- texts

-- a text that a pool may hold
pub record IsText (text : List ℕ) : Type 0 where
  pub bytes : IsTrue (list_all (λ b. nat_lt b 256) text)
  pub short : length text ≤ 65535
  pub modified : IsTrue (is_modified text)

text_entry_fits : (text : List ℕ) → IsText text → IsTrue (entry.fits (Utf8 text))
unfolding entry
text_entry_fits text t = let short : length text ≤ 65535 = t.short in both (list_all (λ b. nat_lt b 256) text) (nat_lt (length text) 65536) t.bytes (lt-ltb (length text) 65536 (omega arith))

text_good : (pool : List Entry) (text : List ℕ) → IsText text → IsTrue (is_good (entry_fault pool (Utf8 text)))
unfolding entry_fault pools.entry_fault
text_good pool text t = good_or (unless (is_modified text) Text) None (is_good_of (is_modified text) Text t.modified) refl

pub put_text : (text : List ℕ) (pool : List Entry) → IsSound pool → IsText text → length (with_text text pool).1 ≤ 65535 → IsPut (Utf8 text) (with_text text pool)
put_text text pool s t few = put (Utf8 text) pool s (text_entry_fits text t) refl refl (text_good pool text t) few

-- ---- classes

class_fits : (n : ℕ) → n < 65536 → IsTrue (entry.fits (Class n))
unfolding entry
class_fits n h = lt-ltb n 65536 h

class_good : (pool : List Entry) (n : ℕ) (name : List ℕ) → slice_get pool n ≡ Some (Utf8 name) → IsTrue (is_class_name name || is_array_descriptor name) → IsTrue (is_good (entry_fault pool (Class n)))
unfolding entry_fault pools.entry_fault utf8_at
class_good pool n name at named = rw at (good_map (if is_class_name name || is_array_descriptor name then None else Some BadName) (rw named refl))

text_is_utf8 : (pool : List Entry) (n : ℕ) (text : List ℕ) → slice_get pool n ≡ Some (Utf8 text) → IsTrue (is_utf8 pool n)
unfolding is_utf8
text_is_utf8 pool n text at = rw at refl

-- a class was put, or stood there
pub record IsClassPut (name : List ℕ) (x : ℕ × List Entry) : Type 0 where
  pub sound : IsSound x.1
  pub named : class_name_at x.1 x.0 ≡ Some name

pub index_below : {A : Type 0} (xs : List A) (i : ℕ) (x : A) → slice_get xs i ≡ Some x → i < length xs
index_below [] i x h = absurd cc
index_below (y ∷ ys) zero x h = omega arith
index_below (y ∷ ys) (suc i) x h = let less : i < length ys = index_below ys i x h in omega arith

-- the indices of a pool have 16 bits
pub index_small : (pool : List Entry) (i : ℕ) (e : Entry) → IsSound pool → slice_get pool i ≡ Some e → i < 65536
index_small pool i e s h =
    let less : i < length pool = index_below pool i e h in
    let few : length pool < 65536 = laid_count pool s.is_pool.laid in
    omega arith

class_named : (pool : List Entry) (i n : ℕ) (name : List ℕ) → slice_get pool i ≡ Some (Class n) → slice_get pool n ≡ Some (Utf8 name) → class_name_at pool i ≡ Some name
unfolding class_name_at utf8_at
class_named pool i n name at text = rw (at, text) refl

pub entry_front : (e : Entry) (pool : List Entry) → IsFront pool (with_entry e pool).1
entry_front e pool = (entry_grows e).on pool

put_class_behind : (name : List ℕ) (x : ℕ × List Entry) → IsPut (Utf8 name) x → IsTrue (is_class_name name || is_array_descriptor name) → length (with_entry (Class x.0) x.1).1 ≤ 65535 → IsClassPut name (with_entry (Class x.0) x.1)
put_class_behind name x p named few =
    let q = put (Class x.0) x.1 p.sound (class_fits x.0 (index_small x.1 x.0 (Utf8 name) p.sound p.there)) refl (text_is_utf8 x.1 x.0 name p.there) (class_good x.1 x.0 name p.there named) few in
    record {
      sound = q.sound;
      named = class_named (with_entry (Class x.0) x.1).1 (with_entry (Class x.0) x.1).0 x.0 name q.there (at_front x.1 (with_entry (Class x.0) x.1).1 (entry_front (Class x.0) x.1) x.0 (Utf8 name) p.there);
    }

pub put_class : (name : List ℕ) (pool : List Entry) → IsSound pool → IsText name → IsTrue (is_class_name name || is_array_descriptor name) → length (with_class name pool).1 ≤ 65535 → IsClassPut name (with_class name pool)
unfolding with_class ◌>>◌
put_class name pool s t named few =
    let x = with_text name pool in
    let le : length x.1 ≤ length (with_entry (Class x.0) x.1).1 = front_length x.1 (with_entry (Class x.0) x.1).1 (entry_front (Class x.0) x.1) in
    put_class_behind name x (put_text name pool s t (omega arith)) named few

-- ---- names and types

-- a name and a descriptor were put, or stood there
pub record IsMemberPut (name desc : List ℕ) (x : ℕ × List Entry) : Type 0 where
  pub sound : IsSound x.1
  pub n : ℕ
  pub d : ℕ
  pub there : slice_get x.1 x.0 ≡ Some (NameAndType n d)
  pub name_there : slice_get x.1 n ≡ Some (Utf8 name)
  pub desc_there : slice_get x.1 d ≡ Some (Utf8 desc)

two_fit : (a b : ℕ) → a < 65536 → b < 65536 → IsTrue (entry.fits (NameAndType a b))
unfolding entry
two_fit a b h k = both _ _ (lt-ltb a 65536 h) (lt-ltb b 65536 k)

both_good : (pool : List Entry) (n d : ℕ) (name desc : List ℕ) → slice_get pool n ≡ Some (Utf8 name) → slice_get pool d ≡ Some (Utf8 desc) → IsTrue (is_field_descriptor desc || is_method_descriptor desc)
    → IsTrue (is_good (entry_fault pool (NameAndType n d)))
unfolding entry_fault pools.entry_fault utf8_at is_utf8
both_good pool n d name desc at there good = rw (at, there) (good_map (if is_field_descriptor desc || is_method_descriptor desc then None else Some BadDescriptor) (rw good refl))

pub put_both : (n d : ℕ) (name desc : List ℕ) (pool : List Entry) → IsSound pool → slice_get pool n ≡ Some (Utf8 name) → slice_get pool d ≡ Some (Utf8 desc) → IsTrue (is_field_descriptor desc || is_method_descriptor desc)
    → length (with_entry (NameAndType n d) pool).1 ≤ 65535 → IsMemberPut name desc (with_entry (NameAndType n d) pool)
put_both n d name desc pool s at there good few =
    let x = with_entry (NameAndType n d) pool in
    let q = put (NameAndType n d) pool s (two_fit n d (index_small pool n (Utf8 name) s at) (index_small pool d (Utf8 desc) s there)) refl refl (both_good pool n d name desc at there good) few in
    let f = entry_front (NameAndType n d) pool in
    record { sound = q.sound; n = n; d = d; there = q.there; name_there = at_front pool x.1 f n (Utf8 name) at; desc_there = at_front pool x.1 f d (Utf8 desc) there }

put_member_behind : (name desc : List ℕ) (n : ℕ) (x : ℕ × List Entry) → IsPut (Utf8 desc) x → slice_get x.1 n ≡ Some (Utf8 name) → IsTrue (is_field_descriptor desc || is_method_descriptor desc)
    → length (with_entry (NameAndType n x.0) x.1).1 ≤ 65535 → IsMemberPut name desc (with_entry (NameAndType n x.0) x.1)
put_member_behind name desc n x p at good few = put_both n x.0 name desc x.1 p.sound at p.there good few

pub put_member : (name desc : List ℕ) (pool : List Entry) → IsSound pool → IsText name → IsText desc → IsTrue (is_field_descriptor desc || is_method_descriptor desc) → length (with_member name desc pool).1 ≤ 65535
    → IsMemberPut name desc (with_member name desc pool)
unfolding with_member ◌>>◌
put_member name desc pool s a b good few =
    let x = with_text name pool in
    let y = with_text desc x.1 in
    let last : length y.1 ≤ length (with_entry (NameAndType x.0 y.0) y.1).1 = front_length y.1 (with_entry (NameAndType x.0 y.0) y.1).1 (entry_front (NameAndType x.0 y.0) y.1) in
    let first : length x.1 ≤ length y.1 = front_length x.1 y.1 (entry_front (Utf8 desc) x.1) in
    let p = put_text name pool s a (omega arith) in
    let q = put_text desc x.1 p.sound b (omega arith) in
    put_member_behind name desc x.0 y q (at_front x.1 y.1 (entry_front (Utf8 desc) x.1) x.0 (Utf8 name) p.there) good few
