-- What is known of the frame that a walk holds, so that what was tested isn't tested again.
use Rattle.std.specs.Prelude.{◌≡◌, ℕ, pos, Bool, true, false, ◌&&◌, ◌||◌, List, [], Option, Some, None, IfSome, nat_le, if◌then◌else◌, ⊤}
use Rattle.std.specs.List.{list_all}
use Rattle.jparts.specs.declared.jcode.op_form.OpForm.{OpForm}
use Rattle.jparts.specs.declared.jcode.op_form.OpForm.TheVariants as forms
use Rattle.jparts.specs.declared.jcode.op_form.LocalForm.TheVariants.{Move}
use Rattle.jparts.specs.declared.jcode.op_form.PoolForm.TheVariants.{Call, New}
use Rattle.jparts.specs.declared.jcode.names.Access.TheVariants.{Store}
use Rattle.jparts.specs.declared.jcode.names.CallOp.TheVariants.{Special}
use Rattle.jparts.specs.declared.jcode.op.Handler.{Handler}
use Rattle.jtypes.specs.declared.vtype.VType.{VType}
use Rattle.jtypes.specs.TypeFrames.{Frame}
use Rattle.jresolution.specs.jprogram.ProgramClasses.{Program}
use Rattle.jtyping.specs.jrule.InternedFrames.{seen}
use Rattle.jtyping.specs.jwelltyped.DeclaredFrames.{Written, declared_at}
use Rattle.jtyping.specs.jwelltyped.MethodPremises.{Method}
use Rattle.jtyping.specs.jwelltyped.VerifierTests.{handlers_fit}
use Rattle.jverify.specs.declared.held.Arriving.{Arriving}
use Rattle.jverify.specs.declared.held.Held.{Held}
use Rattle.jverify.specs.declared.held.LocalsInfo.{LocalsInfo}
use Rattle.jverify.specs.declared.held.Served.{Served}

abbrev pub held_seen : Program → Held → Frame
held_seen p h = seen p h.frame

-- the frame that arrives, if one does
abbrev pub arrived : Program → Arriving → Option Frame
arrived p a = if a.comes then Some (held_seen p a.held) else None

-- An instruction of a form changes neither locals nor the flag. A special call may be one of an `<init>`.
abbrev pub is_quiet : {S : Type 0} → OpForm S → Bool
is_quiet (forms.Local (Move Store kind n)) = false
is_quiet (forms.Pool (New i)) = false
is_quiet (forms.Pool (Call Special i)) = false
is_quiet form = true

-- a frame with the same locals and flag, if there is one
abbrev pub Rests : Frame → Option Frame → Type 0
Rests f None = ⊤
Rests f (Some g) = (g.locals ≡ f.locals) × (g.flag ≡ f.flag)

-- ---- locals and a flag

-- locals are those of the frame that is declared at a place, where one is told
abbrev pub AreFrom : List Written → List VType → Option ℕ → Type 0
AreFrom ws locals from = IfSome from (λ at. IfSome (declared_at ws (pos at)) (λ d. locals ≡ d.locals))

-- no handler begins behind a place and before another
abbrev pub none_begins : List Handler → ℕ → ℕ → Bool
none_begins handlers at next = list_all (λ h. nat_le h.start at || nat_le next h.start) handlers

abbrev pub bare : List VType → Bool → Frame
bare locals flag = record { locals = locals; stack = []; flag = flag }

-- The handlers that cover a place are served by these locals and this flag, whatever the operands; the next one begins where it is told.
abbrev pub is_served : Program → Method → List Written → List VType → Bool → Served → Bool
is_served p m ws locals flag s = handlers_fit p m ws s.at (bare locals flag) && none_begins m.body.handlers s.at s.next

-- what is known of locals and a flag holds
pub record IsKnown (p : Program) (m : Method) (ws : List Written) (locals : List VType) (flag : Bool) (k : LocalsInfo) : Type 0 where
  pub from : AreFrom ws locals k.from
  pub served : IfSome k.served (λ s. is_served p m ws locals flag s ≡ true)

-- nothing is
abbrev pub unknown : LocalsInfo
unknown = record { from = None; served = None }
