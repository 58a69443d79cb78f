-- Names by which proofs and the contracts of inner functions call what the definitions say in place. What `javasec` and `dispatch` promise
-- reaches none of them.
use Rattle.std.specs.Prelude.{Option, unwrap_or, [], List, None, if◌then◌else◌, Bool, ◌+ℤ◌, ℕ, ℤ, pos, true, Some}
use Rattle.jtypes.specs.declared.vtype.VType.{VType}
use Rattle.jparts.specs.declared.jmaps.types.RawFrame.{RawFrame}
use Rattle.jresolution.specs.juses.DescriptorTypes.{Typed, Called}
use Rattle.jtypes.specs.declared.vtype.Name.{Name}
use Rattle.jtypes.specs.declared.vtype.VType.TheVariants.{UninitThis, Object}
use Rattle.jresolution.specs.jprogram.ProgramClasses.{Program, tree}
use Rattle.jtypes.specs.TypeFrames.{Frame}
use Rattle.jparts.specs.declared.jcode.op.Handler.{Handler}
use Rattle.jparts.specs.jcode.Instructions.{covers}
use Rattle.jresolution.specs.juses.InstructionMeanings.{Meaning, Make}
use Rattle.jtypes.specs.declared.vtype.VType.TheVariants as types
use Rattle.jtyping.specs.jwelltyped.DeclaredFrames.{Written, declared_at}
use Rattle.jtyping.specs.jwelltyped.VerifierTests.{leads_in, handler_fits}
use Rattle.jtyping.specs.jwelltyped.MethodPremises.{Method}

-- ---- of DeclaredFrames

-- in a program that links each class is there
abbrev pub or_top : Option VType → VType
or_top x = unwrap_or x types.Top

abbrev pub or_none : Option (List RawFrame) → List RawFrame
or_none x = unwrap_or x []

-- ---- of MethodPremises

abbrev pub return_of : Typed → Option VType
return_of = elim [ Called params ret ↦ ret | _ ↦ None ]

-- `this` of an `<init>` isn't initialised yet
abbrev pub this_type : Bool → Name → VType
this_type is_init class = if is_init then UninitThis else Object class

-- ---- of VerifierTests

-- the frame behind an instruction serves where a branch leads
abbrev pub branch_fits : Program → List Written → ℕ → Frame → ℤ → Bool
branch_fits p ws at g by = leads_in (tree p) g (declared_at ws (pos at +ℤ by))

abbrev pub handler_test : Program → Method → List Written → ℕ → Frame → Handler → Bool
handler_test p m ws at f h = if covers at h then handler_fits p m ws f h else true

-- ---- of MethodPremises

abbrev pub made_by : Option Meaning → Option Name
made_by (Some (Make c)) = Some c
made_by m = None
