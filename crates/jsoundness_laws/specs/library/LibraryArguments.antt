-- What members of the library are called with.
use Rattle.std.specs.Prelude.{◌≡◌, ◌≢◌, ◌⊎◌, ℕ, true, false, List, [], ◌∷◌, Some, if◌then◌else◌}
use Rattle.std.specs.Str.{bytes_eq}
use Rattle.jlib.specs.declared.calls.LibCall.{LibCall}
use Rattle.jlib.specs.declared.classes.LibClass.{LibClass}
use Rattle.jlib.specs.LibraryMembers.{is_static, name_of_call, owner}
use Rattle.jvalues.specs.declared.jops.value.Value.{Value}
use Rattle.jvalues.specs.declared.jops.value.Value.TheVariants.{Ref}
use Rattle.jtypes.specs.declared.vtype.VType.{VType}
use Rattle.jresolution.specs.jprogram.MemberResolution.{init}
use Rattle.jresolution.specs.declared.juses.meaning.InvokeKind.{InvokeKind}
use Rattle.jresolution.specs.declared.juses.meaning.InvokeKind.TheVariants as how
use Rattle.jtyping.specs.jrule.PoolEffects.{of_library}
use Rattle.jsemantics.specs.jmachine.HeapObjects.{Object, class_of}
use Rattle.jsemantics.specs.jmachine.Store.{Store, object_at}
use Rattle.jsemantics.specs.jmachine.World.{World, fits}
use Rattle.jsoundness_laws.specs.typed.TypedValues.{IsA, is_piece, is_whole}

-- how a member with code is called: on no object, on one that `new` made, or on one that may be used
abbrev pub way_of : LibCall → InvokeKind
way_of call = if is_static call then how.Static else (if bytes_eq (name_of_call call) init then how.Init else how.Virtual)

module _ {K : Type 0} (w : World) (s : Store K) where
  -- An object on which an `<init>` of a class may be called: it is just of this class, or of it or one below and may be used already; and
  -- it is no piece of a builder.
  pub record IsBegun (c : LibClass) (n : ℕ) : Type 0 where
    pub object : Object K
    pub there : object_at s n ≡ Some object
    pub whole : is_piece object ≡ false
    pub ready : (class_of w.named object ≡ of_library c) ⊎ ((is_whole object ≡ true) × (fits w (class_of w.named object) (of_library c) ≡ true))

  -- the object on which a member of a class is called, and no more
  abbrev pub IsReceiver : InvokeKind → LibClass → List (Value K) → Type 0
  IsReceiver how.Static c values = values ≡ []
  IsReceiver how.Init c values = (n : ℕ) × (values ≡ Ref n ∷ []) × IsBegun c n
  IsReceiver by c values = (n : ℕ) × (values ≡ Ref n ∷ []) × (n ≢ 0) × IsA w s (of_library c) (Ref n)

  -- values of these types, and behind them what is said of the others
  abbrev pub AreOn : (List (Value K) → Type 0) → List VType → List (Value K) → Type 0
  AreOn rest [] values = rest values
  AreOn rest (t ∷ ts) [] = ⊥
  AreOn rest (t ∷ ts) (v ∷ values) = IsA w s t v × AreOn rest ts values

  -- what a member is called with, the newest first: arguments of these types, and behind them its object, which isn't null
  abbrev pub AreGiven : LibCall → List VType → List (Value K) → Type 0
  AreGiven call params values = AreOn (IsReceiver (way_of call) (owner call)) params values
