-- A reference by its indices is the one by its texts.
use Rattle.std.proofs.Common.{◌≡◌, ℕ, List, [], Option, Some, None, refl, sym, ap, ◌∙◌}
use Rattle.std.specs.Prelude.{option_and_then}
use Rattle.jparts.specs.declared.jpool.entry.Entry.{Entry}
use Rattle.jparts.specs.jpool.ConstantPools.{name_and_type_at}
use Rattle.jresolution.specs.declared.jprogram.member.Member.{Member}
use Rattle.jresolution.specs.jprogram.ProgramClasses.{Program}
use Rattle.jresolution.specs.jprogram.MemberResolution.{looked_up, referred}
use Rattle.jresolution.specs.jprogram.ClassFileParts.{class_text, text}
use Rattle.jresolution.specs.declared.juses.indices.Indices.{Indices}
use Rattle.jresolution.specs.juses.EntryTextCache.{HasTexts}
use Rattle.jresolution.proofs.JusesProofs.CacheInvariants.{class_named}
use Rattle.jlinking.specs.declared.jreferring.judged.MemberUse.{MemberUse}
use Rattle.jlinking.specs.declared.jreferring.judged.Sort.{Sort}
use Rattle.jlinking.specs.declared.jreferring.judged.Sort.TheVariants as sort
use Rattle.jlinking.specs.jreferring.PoolEntryMeanings.{desc_in, entry_of, name_in, reference}
use Rattle.jlinking.specs.jreferring.MemberLookUp.{look_by, named_use}
use Rattle.jlinking.specs.jreferring.ReferenceUses.{member_use}

by_kind : (p : Program) (pool : List Entry) (kind : Sort) (class both : ℕ) → referred p pool (Some (entry_of kind class both)) ≡ option_and_then (looked_up pool class (look_by p kind)) (name_and_type_at pool both)
by_kind p pool sort.Field class both = refl
by_kind p pool sort.Method class both = refl
by_kind p pool sort.InterfaceMethod class both = refl

abbrev use_with : Program → List ℕ → List Entry → Sort → ℕ → Option (ℕ × ℕ) → MemberUse
use_with p from pool kind class o = member_use p from kind (option_and_then (looked_up pool class (look_by p kind)) o) (class_text pool class) (name_in pool o) (desc_in pool o)

use_is : (p : Program) (from : List ℕ) (pool : List Entry) (kind : Sort) (class both : ℕ) → reference p from pool kind class both ≡ use_with p from pool kind class (name_and_type_at pool both)
unfolding reference
use_is p from pool kind class both =
    ap (λ (m : Option Member). member_use p from kind m (class_text pool class) (name_in pool (name_and_type_at pool both)) (desc_in pool (name_and_type_at pool both))) (by_kind p pool kind class both)

pub reference_named : (p : Program) (from : List ℕ) (pool : List Entry) (kind : Sort) (class both name desc : ℕ) → name_and_type_at pool both ≡ Some (name, desc) → named_use p from kind (class_text pool class) (text pool name) (text pool desc) ≡ reference p from pool kind class both
unfolding named_use
reference_named p from pool kind class both name desc is = sym (use_is p from pool kind class both ∙ ap (use_with p from pool kind class) is)

pub reference_nameless : (p : Program) (from : List ℕ) (pool : List Entry) (kind : Sort) (class both : ℕ) → name_and_type_at pool both ≡ None → member_use p from kind None (class_text pool class) [] [] ≡ reference p from pool kind class both
reference_nameless p from pool kind class both is = sym (use_is p from pool kind class both ∙ ap (use_with p from pool kind class) is)

-- by the indices of its texts
pub reference_at : (p : Program) (from : List ℕ) (pool : List Entry) (kind : Sort) (class both : ℕ) (at : Indices) → HasTexts pool class both at → named_use p from kind (text pool at.owner) (text pool at.name) (text pool at.desc) ≡ reference p from pool kind class both
reference_at p from pool kind class both at has =
    ap (λ (o : List ℕ). named_use p from kind o (text pool at.name) (text pool at.desc)) (sym (class_named pool class at.owner has.named)) ∙ reference_named p from pool kind class both at.name at.desc has.says
