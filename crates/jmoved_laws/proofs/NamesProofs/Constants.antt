-- The constants of statics are in the moved class what they were.
use Rattle.std.proofs.Common.{◌≡◌, ℕ, false, List, Option, Some, None, refl, ap, ◌∙◌}
use Rattle.std.specs.Prelude.{IsTrue, option_and_then, option_map, slice_get}
use Rattle.jground.specs.jbase.FirstFaults.{first_some}
use Rattle.jparts.specs.declared.jpool.entry.Entry.{Entry}
use Rattle.jparts.specs.declared.jpool.entry.Entry.TheVariants as entries
use Rattle.jparts.specs.declared.jpool.fault.PoolFault.TheVariants.{BadIndex}
use Rattle.jparts.specs.jpool.ConstantPools as pools
use Rattle.jparts.specs.jpool.ConstantPools.{is_utf8, utf8_at}
use Rattle.jparts.proofs.JpoolProofs.PoolLaws.{at_index}
use Rattle.jclass.specs.declared.class.ClassParts.{ClassParts}
use Rattle.jclass.specs.declared.class.MemberInfo.{MemberInfo}
use Rattle.jclass.specs.Class.{class_file}
use Rattle.jclass.specs.MemberFormat.{field}
use Rattle.jclass.specs.FlagRules.{suits_field}
use Rattle.jclass.specs.ProofNames.{suits_type}
use Rattle.jclass.specs.FileContents.{IsIn}
use Rattle.jresolution.specs.jprogram.ClassFileParts.{or_empty, text}
use Rattle.jsemantics.specs.jmachine.ObjectInstructions.{units_of}
use Rattle.jsemantics.specs.jmachine.OpeningState.{constant_of, string_in, value_in, value_of}
use Rattle.jsemantics.specs.jmachine.Store.{constant_at}
use Rattle.jsemantics.proofs.JmachineProofs.Constants.{field_suits}
use Rattle.jvalues.specs.declared.jops.value.Value.TheVariants.{Ref}
use Rattle.jmove.specs.PoolAdditions.{IsFront}
use Rattle.jmoveclass.proofs.PoolStability.{kept_test, same_text}
use Rattle.jmoveclass.proofs.DemandPreservation.{good_is}
use Rattle.jrewriting.proofs.JmoveclassLawsProofs.SoundPools.{IsSound}
use Rattle.jrewriting.proofs.JmoveclassLawsProofs.CallReferences.{no_entry_fault}
use Rattle.jrewriting.proofs.JrewriteProofs.MemberPhase.{class_fields}

-- ---- in a longer pool

none_suits : (type : Option (List ℕ)) → suits_type type None ≡ false
none_suits None = refl
none_suits (Some t) = refl

entry_stays : (pool whole : List Entry) → IsFront pool whole → (desc i : ℕ) → IsTrue (suits_field pool desc i) → slice_get whole i ≡ slice_get pool i
unfolding suits_field
entry_stays pool whole f desc i h = kept_test pool whole f (suits_type (utf8_at pool desc)) (none_suits (utf8_at pool desc)) i h

module _ (c d : ClassParts) (front : IsFront c.pool d.pool) (sound : IsSound c.pool) (fit : IsTrue (class_file.fits c)) where
  field_fits : (m : MemberInfo) → IsIn m c.fields → IsTrue ((field c.pool).fits m)
  field_fits m there = at_index (field c.pool).fits c.fields there.0 m (class_fields c fit) there.1

  constant_by : (m : MemberInfo) → IsIn m c.fields → (o : Option ℕ) → first_some value_in m.attributes ≡ o → option_and_then (slice_get d.pool) o ≡ option_and_then (slice_get c.pool) o
  constant_by m there None e = refl
  constant_by m there (Some i) e = entry_stays c.pool d.pool front m.desc i (field_suits c.pool m i (field_fits m there) e)

  pub constant_same : (m : MemberInfo) → IsIn m c.fields → constant_of d m ≡ constant_of c m
  constant_same m there = constant_by m there (first_some value_in m.attributes) refl

  string_text : (i t : ℕ) → slice_get c.pool i ≡ Some (entries.Str t) → text d.pool t ≡ text c.pool t
  unfolding pools.entry_fault
  string_text i t at = ap or_empty (same_text c.pool d.pool front t (good_is (is_utf8 c.pool t) BadIndex (no_entry_fault c.pool i (entries.Str t) sound at)))

  string_by : (i : ℕ) (e : Option Entry) → slice_get c.pool i ≡ e → string_in d e ≡ string_in c e
  string_by i (Some (entries.Str t)) at = ap (λ (x : List ℕ). Some (units_of x)) (string_text i t at)
  string_by i None at = refl
  string_by i e at = refl

  string_of : (o : Option ℕ) → string_in d (option_and_then (slice_get c.pool) o) ≡ string_in c (option_and_then (slice_get c.pool) o)
  string_of None = refl
  string_of (Some i) = string_by i (slice_get c.pool i) refl

  pub string_same : (m : MemberInfo) → IsIn m c.fields → string_in d (constant_of d m) ≡ string_in c (constant_of c m)
  string_same m there = ap (string_in d) (constant_same m there) ∙ string_of (first_some value_in m.attributes)

  value_by : {K : Type 0} (made : List (List ℕ × ℕ)) (i : ℕ) (e : Option Entry) → slice_get c.pool i ≡ e → value_of {K = K} made d e ≡ value_of made c e
  value_by made i (Some (entries.Str t)) at = ap (λ (x : List ℕ). option_map Ref (constant_at made (units_of x))) (string_text i t at)
  value_by made i None at = refl
  value_by made i e at = refl

  value_at : {K : Type 0} (made : List (List ℕ × ℕ)) (o : Option ℕ) → value_of {K = K} made d (option_and_then (slice_get c.pool) o) ≡ value_of made c (option_and_then (slice_get c.pool) o)
  value_at made None = refl
  value_at made (Some i) = value_by made i (slice_get c.pool i) refl

  pub value_same : {K : Type 0} (made : List (List ℕ × ℕ)) (m : MemberInfo) → IsIn m c.fields → value_of {K = K} made d (constant_of d m) ≡ value_of made c (constant_of c m)
  value_same made m there = ap (value_of made d) (constant_same m there) ∙ value_at made (first_some value_in m.attributes)
