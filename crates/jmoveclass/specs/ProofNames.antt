-- Names by which proofs and the contracts of inner functions call what the definitions say in place. What `javasec` and `dispatch` promise
-- reaches none of them.
use Rattle.std.specs.Prelude.{if◌then◌else◌, ℕ, ◌==◌, Option, Some, None, [], List, unwrap_or, Result}
use Rattle.std.specs.Result.{result_unwrap_or}
use Rattle.jclass.specs.declared.class.MemberInfo.{MemberInfo}
use Rattle.jresolution.specs.jprogram.ClassFileParts.{is_static}
use Rattle.jclass.specs.declared.class.ClassParts.{ClassParts}
use Rattle.jparts.specs.declared.jmaps.types.RawFrame.{RawFrame}
use Rattle.jparts.specs.declared.jmaps.types.FullFrame.{FullFrame}
use Rattle.jmoveclass.specs.declared.limit.RewriteKind.{RewriteKind}
use Rattle.jmoveclass.specs.EntryLocals.{slots}
use Rattle.jmoveclass.specs.declared.limit.RewriteKind.TheVariants.{Slots}

-- ---- of EntryLocals

-- 1 where there is `this`
abbrev pub this_slots : MemberInfo → ℕ
this_slots m = if is_static m.flags then 0 else 1

-- ---- of ClassLimits

-- a method without code has no slot for one more parameter
abbrev pub slots_limit : ClassParts → MemberInfo → Option RewriteKind
slots_limit c m = if slots c m == 255 then Some Slots else None

-- ---- of MovedMembers

abbrev pub or_no_frames : Option (List RawFrame) → List RawFrame
or_no_frames x = unwrap_or x []

abbrev pub or_none : Result (List FullFrame) ℕ → List FullFrame
or_none r = result_unwrap_or r []
