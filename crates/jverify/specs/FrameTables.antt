-- The frames that a method declares, types by number: what they stand for, and how they are kept.
use Rattle.std.specs.Prelude.{◌≡◌, ℕ, pos, ◌<◌, ◌≤◌, ◌==◌, Bool, false, ◌&&◌, not, List, [], ◌∷◌, length, get_or, map, reverse, Option, Some, None, Result, Ok, Err}
use Rattle.std.specs.List.{AllByRecursion, find}
use Rattle.std.specs.Ordering.{int_eq}
use Rattle.jground.specs.jbase.FirstFaults.{fault_if, first_some}
use Rattle.jclass.specs.declared.class.CodeBody.{CodeBody}
use Rattle.jclass.specs.CodeFormat.{begins}
use Rattle.jtypes.specs.declared.vtype.Name.{Name}
use Rattle.jtypes.specs.TypeFrames.{Frame}
use Rattle.jresolution.specs.jprogram.ProgramClasses.{Program}
use Rattle.jresolution.specs.declared.juses.types.TypeRef.{TypeRef}
use Rattle.jresolution.specs.declared.juses.types.TypeRef.TheVariants as refs
use Rattle.jresolution.specs.juses.InternedTypes.{named}
use Rattle.jtyping.specs.jrule.OperandSlots.{slot_count}
use Rattle.jtyping.specs.jwelltyped.DeclaredFrames.{Written, frame_of, holds}
use Rattle.jverify.specs.declared.chains.Node.{Node}
use Rattle.jverify.specs.declared.declared.Kept.{Kept}
use Rattle.jverify.specs.LocalChains.{chain, values}

-- a frame with its place
pub record Given : Type 0 where
  pub at : ℕ
  -- what its locals hold, the first one first, a long as one
  pub values : List TypeRef
  -- its operands, the newest first
  pub stack : List TypeRef

-- frames, each of so many locals
pub record Givens : Type 0 where
  pub most : ℕ
  pub frames : List Given

-- ---- what they stand for

-- a frame of locals and operands, the newest first
abbrev pub frame_seen : Program → List TypeRef → List TypeRef → Bool → Frame
frame_seen p locals stack flag = record { locals = map (named p) locals; stack = map (named p) stack; flag = flag }

abbrev pub frame_named : Program → ℕ → Given → Frame
frame_named p most g = frame_of most (map (named p) g.values) (map (named p) g.stack)

abbrev pub written_named : Program → ℕ → Given → Written
written_named p most g = record { at = g.at; frame = Some (frame_named p most g) }

abbrev pub all_written : Program → Givens → List Written
all_written p d = map (written_named p d.most) d.frames

-- the locals that a type fills
abbrev pub places : TypeRef → List TypeRef
places refs.Long = refs.Long ∷ refs.Top ∷ []
places k = k ∷ []

-- ---- what is asked of them

-- a frame stands at an instruction of a code, keeps to its maxima, and names `new`s that are there
abbrev pub is_good_in : CodeBody → (ℕ → Option Name) → Written → Bool
is_good_in body makes w = begins body.ops w.at && holds body makes w.frame

abbrev pub fault_in : CodeBody → (ℕ → Option Name) → Written → Option ℕ
fault_in body makes w = fault_if (not (is_good_in body makes w)) w.at

-- What is declared is what was written, all of it good; or the place is that of the first frame which isn't.
abbrev pub IsDeclared : Program → CodeBody → (ℕ → Option Name) → List Written → Result Givens ℕ → Type 0
IsDeclared p body makes ws (Ok d) = (d.most ≡ body.max_locals) × (all_written p d ≡ ws) × (first_some (fault_in body makes) ws ≡ None)
IsDeclared p body makes ws (Err at) = first_some (fault_in body makes) ws ≡ Some at

-- ---- how they are kept

abbrev pub given : List Node → Kept → Given
given nodes k = record { at = k.at; values = values nodes k.last; stack = reverse k.stack }

-- the chain of its locals is there, and they have room
pub record IsKept (nodes : List Node) (most : ℕ) (k : Kept) : Type 0 where
  pub last : k.last ≤ length nodes
  pub room : slot_count (chain nodes k.last) ≤ most

abbrev pub AreKept : List Node → ℕ → List Kept → Type 0
AreKept nodes most = AllByRecursion (IsKept nodes most)

-- their places rise
abbrev pub Rise : List Kept → Type 0
Rise ks = (i j : ℕ) (d : Kept) → i < j → j < length ks → (get_or ks i d).at < (get_or ks j d).at

abbrev pub has_last : ℕ → Option Kept → Bool
has_last last None = false
has_last last (Some k) = k.last == last

-- the frame that is kept at a place, where one is told, has its locals from a chain
abbrev pub shares : List Kept → ℕ → Option ℕ → Bool
shares ks last None = false
shares ks last (Some at) = has_last last (find (λ k. int_eq (pos k.at) (pos at)) ks)
