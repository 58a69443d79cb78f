-- The texts that are put for `sps/Rt` and `sps/Ctx` are names and descriptors.
use Rattle.std.proofs.Common.{refl, arith}
use Rattle.std.specs.Prelude.{IsTrue, codes, ◌||◌}
use Rattle.jground.specs.jformat.BodyFormats.{many_at}
use Rattle.jparts.specs.jpool.Descriptors.{base_at, class_at, closing_at, field_of, is_array_descriptor, is_field_descriptor, is_method_descriptor, method_of, params_at, return_at, slots_of, type_at}
use Rattle.jparts.specs.jpool.ClassNames.{is_class_name}
use Rattle.jclass.specs.PoolChecks.{is_modified}
use Rattle.jmove.specs.declared.naming.Security.{Security}
use Rattle.jmove.specs.declared.naming.Security.TheVariants.{Enter, Check, Snapshot, Privileged, PrivilegedWith, PrivilegedLimited}
use Rattle.jmove.specs.PoolAdditions.{security_name, security_type}
use Rattle.jrewriting.proofs.JmoveclassLawsProofs.SoundPools.{IsText}

pub rt_text : IsText (codes "sps/Rt")
unfolding is_modified many_at
rt_text = record { bytes = refl; short = omega arith; modified = refl }

pub context_text : IsText (codes "sps/Ctx")
unfolding is_modified many_at
context_text = record { bytes = refl; short = omega arith; modified = refl }

pub rt_name : IsTrue (is_class_name (codes "sps/Rt") || is_array_descriptor (codes "sps/Rt"))
unfolding is_class_name
rt_name = refl

pub context_name : IsTrue (is_class_name (codes "sps/Ctx") || is_array_descriptor (codes "sps/Ctx"))
unfolding is_class_name
context_name = refl

pub name_text : (m : Security) → IsText (security_name m)
unfolding is_modified many_at
name_text Enter = record { bytes = refl; short = omega arith; modified = refl }
name_text Check = record { bytes = refl; short = omega arith; modified = refl }
name_text Snapshot = record { bytes = refl; short = omega arith; modified = refl }
name_text Privileged = record { bytes = refl; short = omega arith; modified = refl }
name_text PrivilegedWith = record { bytes = refl; short = omega arith; modified = refl }
name_text PrivilegedLimited = record { bytes = refl; short = omega arith; modified = refl }

pub type_text : (m : Security) → IsText (security_type m)
unfolding is_modified many_at
type_text Enter = record { bytes = refl; short = omega arith; modified = refl }
type_text Check = record { bytes = refl; short = omega arith; modified = refl }
type_text Snapshot = record { bytes = refl; short = omega arith; modified = refl }
type_text Privileged = record { bytes = refl; short = omega arith; modified = refl }
type_text PrivilegedWith = record { bytes = refl; short = omega arith; modified = refl }
type_text PrivilegedLimited = record { bytes = refl; short = omega arith; modified = refl }

pub type_method : (m : Security) → IsTrue (is_field_descriptor (security_type m) || is_method_descriptor (security_type m))
unfolding is_field_descriptor field_of is_method_descriptor method_of params_at closing_at type_at base_at class_at return_at slots_of is_class_name
type_method Enter = refl
type_method Check = refl
type_method Snapshot = refl
type_method Privileged = refl
type_method PrivilegedWith = refl
type_method PrivilegedLimited = refl
