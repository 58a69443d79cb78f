-- References that are put into a pool: of `sps/Rt`, and those of changed calls.
use Rattle.std.proofs.Common.{◌≡◌, ℕ, ◌<◌, ◌≤◌, Bool, true, false, ◌&&◌, List, [], ◌∷◌, length, Option, Some, None, refl, arith}
use Rattle.std.specs.Prelude.{IsTrue, is_some, slice_get, codes, if◌then◌else◌, option_and_then}
use Rattle.std.proofs.lemmas.Bool.{lt-ltb}
use Rattle.jground.specs.jformat.Format.{is_good}
use Rattle.jground.proofs.JformatProofs.ReadingSteps.{both}
use Rattle.jparts.specs.declared.jpool.entry.Entry.{Entry}
use Rattle.jparts.specs.declared.jpool.entry.Entry.TheVariants.{Utf8, Method, InterfaceMethod, NameAndType}
use Rattle.jparts.specs.declared.jpool.fault.PoolFault.TheVariants.{BadIndex}
use Rattle.jparts.specs.jpool.EntryLayouts.{laid, names_text}
use Rattle.jparts.specs.jpool.PoolEntries.{entry, class_parts}
use Rattle.jparts.specs.jpool.ConstantPools as pools
use Rattle.jparts.specs.jpool.ConstantPools.{class_name_at, is_class, is_name_and_type, member_fault, utf8_at}
use Rattle.jclass.specs.PoolChecks.{entry_fault}
use Rattle.jmove.specs.declared.naming.Security.{Security}
use Rattle.jmove.specs.PoolAdditions.{IsFront, security_name, security_type, with_class, with_entry, with_member, with_security, ◌>>◌}
use Rattle.jmove.proofs.PoolGrowth.{member_grows}
use Rattle.jmoveclass.proofs.PoolStability.{at_front, class_name_stays, is_named}
use Rattle.jmoveclass.proofs.DemandPreservation.{is_good_of}
use Rattle.jrewriting.proofs.JmoveclassLawsProofs.AddedNames.{name_text, rt_name, rt_text, type_method, type_text}
use Rattle.jrewriting.proofs.JmoveclassLawsProofs.SoundPools.{IsSound, entry_front, front_length, good_map, index_small, put, put_class, put_member}

abbrev pub reference : Bool → ℕ → ℕ → Entry
reference interface class both = if interface then InterfaceMethod class both else Method class both

-- a reference was put, or stood there
pub record IsReferencePut (interface : Bool) (class name desc : List ℕ) (x : ℕ × List Entry) : Type 0 where
  pub sound : IsSound x.1
  pub c : ℕ
  pub b : ℕ
  pub n : ℕ
  pub d : ℕ
  pub there : slice_get x.1 x.0 ≡ Some (reference interface c b)
  pub class_there : class_name_at x.1 c ≡ Some class
  pub both_there : slice_get x.1 b ≡ Some (NameAndType n d)
  pub name_there : slice_get x.1 n ≡ Some (Utf8 name)
  pub desc_there : slice_get x.1 d ≡ Some (Utf8 desc)

reference_fits : (interface : Bool) (a b : ℕ) → a < 65536 → b < 65536 → IsTrue (entry.fits (reference interface a b))
unfolding entry
reference_fits true a b h k = both _ _ (lt-ltb a 65536 h) (lt-ltb b 65536 k)
reference_fits false a b h k = both _ _ (lt-ltb a 65536 h) (lt-ltb b 65536 k)

class_there : (pool : List Entry) (c : ℕ) (class : List ℕ) → class_name_at pool c ≡ Some class → IsTrue (is_class pool c)
unfolding class_name_at is_class
class_there pool c class h = is_named (utf8_at pool) (option_and_then class_parts (slice_get pool c)) class h

both_there : (pool : List Entry) (b n d : ℕ) → slice_get pool b ≡ Some (NameAndType n d) → IsTrue (is_name_and_type pool b)
unfolding is_name_and_type
both_there pool b n d h = rw h refl

reference_good : (interface : Bool) (pool : List Entry) (c b : ℕ) → IsTrue (is_class pool c) → IsTrue (is_name_and_type pool b) → IsTrue (is_good (entry_fault pool (reference interface c b)))
unfolding entry_fault pools.entry_fault
reference_good true pool c b h k = good_map (member_fault pool c b) (is_good_of (is_class pool c && is_name_and_type pool b) BadIndex (both (is_class pool c) (is_name_and_type pool b) h k))
reference_good false pool c b h k = good_map (member_fault pool c b) (is_good_of (is_class pool c && is_name_and_type pool b) BadIndex (both (is_class pool c) (is_name_and_type pool b) h k))

reference_narrow : (interface : Bool) (c b : ℕ) → laid (reference interface c b) ≡ reference interface c b ∷ []
reference_narrow true c b = refl
reference_narrow false c b = refl

reference_names : (interface : Bool) (pool : List Entry) (c b : ℕ) → IsTrue (names_text pool (reference interface c b))
reference_names true pool c b = refl
reference_names false pool c b = refl

class_small : (pool : List Entry) (c : ℕ) (o : Option Entry) → IsSound pool → slice_get pool c ≡ o → IsTrue (is_some (option_and_then class_parts o)) → c < 65536
class_small pool c None s e h = absurd cc
class_small pool c (Some x) s e h = index_small pool c x s e

class_index : (pool : List Entry) (c : ℕ) → IsSound pool → IsTrue (is_class pool c) → c < 65536
unfolding is_class
class_index pool c s h = class_small pool c (slice_get pool c) s refl h

pub put_reference : (interface : Bool) (c b n d : ℕ) (class name desc : List ℕ) (pool : List Entry) → IsSound pool → class_name_at pool c ≡ Some class → slice_get pool b ≡ Some (NameAndType n d) → slice_get pool n ≡ Some (Utf8 name) → slice_get pool d ≡ Some (Utf8 desc)
    → length (with_entry (reference interface c b) pool).1 ≤ 65535 → IsReferencePut interface class name desc (with_entry (reference interface c b) pool)
put_reference interface c b n d class name desc pool s at two one other few =
    let e = reference interface c b in
    let x = with_entry e pool in
    let is = class_there pool c class at in
    let q = put e pool s (reference_fits interface c b (class_index pool c s is) (index_small pool b (NameAndType n d) s two)) (reference_narrow interface c b) (reference_names interface pool c b)
    (reference_good interface pool c b is (both_there pool b n d two)) few in
    let f = entry_front e pool in
    record {
      sound = q.sound;
      c = c;
      b = b;
      n = n;
      d = d;
      there = q.there;
      class_there = class_name_stays pool x.1 f c class at;
      both_there = at_front pool x.1 f b (NameAndType n d) two;
      name_there = at_front pool x.1 f n (Utf8 name) one;
      desc_there = at_front pool x.1 f d (Utf8 desc) other;
    }

-- ---- the methods of `sps/Rt`

pub put_security : (m : Security) (pool : List Entry) → IsSound pool → length (with_security m pool).1 ≤ 65535 → IsReferencePut false (codes "sps/Rt") (security_name m) (security_type m) (with_security m pool)
unfolding with_security ◌>>◌
put_security m pool s few =
    let x = with_class (codes "sps/Rt") pool in
    let y = with_member (security_name m) (security_type m) x.1 in
    let z = with_entry (Method x.0 y.0) y.1 in
    let grown : IsFront x.1 y.1 = (member_grows (security_name m) (security_type m)).on x.1 in
    let last : length y.1 ≤ length z.1 = front_length y.1 z.1 (entry_front (Method x.0 y.0) y.1) in
    let first : length x.1 ≤ length y.1 = front_length x.1 y.1 grown in
    let p = put_class (codes "sps/Rt") pool s rt_text rt_name (omega arith) in
    let q = put_member (security_name m) (security_type m) x.1 p.sound (name_text m) (type_text m) (type_method m) (omega arith) in
    put_reference false x.0 y.0 q.n q.d (codes "sps/Rt") (security_name m) (security_type m) y.1 q.sound (class_name_stays x.1 y.1 grown x.0 (codes "sps/Rt") p.named) q.there q.name_there q.desc_there few
