-- Rows of instructions with fields (JVMS 6.5: getfield, putfield, getstatic, putstatic).
use Rattle.std.specs.Prelude.{ℕ, zero, List, [], ◌∷◌, length, Option, Some, None, option_map, option_and_then, slice_get, slice_set, nat_lt, if◌then◌else◌}
use Rattle.jvalues.specs.declared.jops.value.Value.{Value}
use Rattle.jvalues.specs.declared.jops.value.Value.TheVariants.{Ref}
use Rattle.jparts.specs.declared.jcode.names.FieldOp.{FieldOp}
use Rattle.jparts.specs.declared.jcode.names.FieldOp.TheVariants as fields
use Rattle.jresolution.specs.declared.jprogram.member.Member.{Member}
use Rattle.jresolution.specs.declared.jprogram.member.Member.TheVariants.{LibField}
use Rattle.jsemantics.specs.jmachine.HeapObjects.{Object, Instance}
use Rattle.jsemantics.specs.jmachine.Store.{Store, object_at, with_object, with_statics}
use Rattle.jsemantics.specs.jmachine.MachineStates.{Row, gives, null}
use Rattle.jsemantics.specs.jmachine.Narrowing.{narrowed}
use Rattle.jsemantics.specs.jmachine.World.{World}

-- the number of `System.out`, the first object that is made
abbrev pub out : ℕ
out = 1

-- a list with a value in a place that is there
abbrev pub with_place : {K : Type 0} → List (Value K) → Value K → ℕ → Option (List (Value K))
with_place values v i = if nat_lt i (length values) then Some (slice_set values i v) else None

-- ---- statics

abbrev pub get_static : {K : Type 0} → World → Store K → Member → Option (Value K)
get_static w s x = elim x [ LibField ↦ Some (Ref out) | m ↦ option_and_then (slice_get s.statics) (w.slot m) ]

abbrev pub put_static : {K : Type 0} → World → Store K → Member → Value K → Option (Store K)
put_static w s m v = option_map (with_statics s) (option_and_then (with_place s.statics (narrowed (w.element m) v)) (w.slot m))

-- ---- fields of objects

abbrev pub get_from : {K : Type 0} → World → Member → Option (Object K) → Option (Value K)
get_from w m (Some (Instance class message values)) = option_and_then (slice_get values) (w.slot m)
get_from w m x = None

abbrev pub put_into : {K : Type 0} → World → Member → Value K → Option (Object K) → Option (Object K)
put_into w m v (Some (Instance class message values)) = option_map (Instance class message)
    (option_and_then (with_place values (narrowed (w.element m) v)) (w.slot m))
put_into w m v x = None

-- ---- all

unfoldable pub field : {K E : Type 0} → World → Store K → FieldOp → Member → List (Value K) → Option (Row K E)
field w s fields.GetStatic m [] = option_map (λ v. gives s (v ∷ [])) (get_static w s m)
field w s fields.PutStatic m (v ∷ []) = option_map (λ t. gives t []) (put_static w s m v)
field w s fields.GetField m (Ref zero ∷ []) = Some null
field w s fields.GetField m (Ref n ∷ []) = option_map (λ v. gives s (v ∷ [])) (get_from w m (object_at s n))
field w s fields.PutField m (v ∷ Ref zero ∷ []) = Some null
field w s fields.PutField m (v ∷ Ref n ∷ []) = option_map (λ x. gives (with_object s n x) []) (put_into w m v (object_at s n))
field w s op m values = None
