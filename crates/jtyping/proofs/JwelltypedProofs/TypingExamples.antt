-- Small methods, and where their first test fails, computed.
use Rattle.std.proofs.Common.{◌≡◌, ℕ, true, false, List, [], ◌∷◌, Some, None, refl}
use Rattle.std.specs.Prelude.{pos, codes}
use Rattle.jground.specs.jbase.FirstFaults.{first_along, first_some}
use Rattle.jvalues.specs.declared.jnames.names.Compare.TheVariants.{Eq}
use Rattle.jvalues.specs.declared.jnames.names.Shuffle.TheVariants.{Pop}
use Rattle.jvalues.specs.jops.Shuffles.{shuffle}
use Rattle.jparts.specs.jpool.Descriptors.{descriptor_of}
use Rattle.jparts.specs.jpool.ConstantPools.{utf8_at}
use Rattle.jparts.specs.declared.jcode.names.Returned.TheVariants as results
use Rattle.jparts.specs.declared.jcode.names.SmallInt.TheVariants as ints
use Rattle.jparts.specs.declared.jcode.op.Goto.TheVariants as gotos
use Rattle.jparts.specs.declared.jcode.op.IntConst.TheVariants as consts
use Rattle.jparts.specs.declared.jcode.op.Op.{Op}
use Rattle.jparts.specs.declared.jcode.op.Op.TheVariants as ops
use Rattle.jparts.specs.declared.jcode.op.Handler.{Handler}
use Rattle.jparts.specs.declared.jcode.op.Placed.{Placed}
use Rattle.jparts.specs.jcode.InstructionForms.{branches, form, goes_on}
use Rattle.jparts.specs.declared.jmaps.types.MapType.{MapType}
use Rattle.jparts.specs.declared.jmaps.types.MapType.TheVariants as items
use Rattle.jparts.specs.declared.jmaps.types.RawFrame.{RawFrame}
use Rattle.jparts.specs.jmaps.ExpandedFrames.{locals_after}
use Rattle.jclass.specs.declared.class.CodeAttribute.TheVariants.{Maps}
use Rattle.jclass.specs.declared.class.Attribute.TheVariants.{Code}
use Rattle.jclass.specs.declared.class.MemberInfo.{MemberInfo}
use Rattle.jlib.specs.declared.side.Side.TheVariants.{Source}
use Rattle.jtypes.specs.declared.vtype.Name.{Name}
use Rattle.jtypes.specs.declared.vtype.VType.{VType}
use Rattle.jtypes.specs.declared.vtype.VType.TheVariants as types
use Rattle.jtypes.specs.TypeFrames.{all_fit, slots}
use Rattle.jresolution.specs.declared.jprogram.part.CodePart.{CodePart}
use Rattle.jresolution.specs.jprogram.ClassFileParts.{code_of}
use Rattle.jresolution.specs.jprogram.ProgramClasses.{Program, program}
use Rattle.jresolution.specs.juses.InstructionMeanings.{class_at, entry_meant}
use Rattle.jresolution.specs.juses.DescriptorTypes.{typed}
use Rattle.jtyping.specs.jrule.FormRules.{by_form}
use Rattle.jtyping.specs.jrule.StackMoveRule as moves
use Rattle.jtyping.specs.jrule.StackOperands.{below, taken}
use Rattle.jtyping.specs.jwelltyped.DeclaredFrames.{written, written_from}
use Rattle.jtyping.specs.jwelltyped.MethodPremises.{Method, made_in}
use Rattle.jtyping.specs.jwelltyped.VerifierTests.{class_fault, member_fault, method_fault, step, type_fault, walk}

abbrev name : List ℕ → Name
name text = record { 0 = text }

abbrev placed : ℕ → Op → Placed
placed at op = record { at = at; op = op }

abbrev raw : ℕ → ℕ → List MapType → List MapType → RawFrame
raw form delta locals stack = record { form = form; delta = delta; locals = locals; stack = stack }

-- a static method of a class Main that returns nothing, with so many places of the stack and of locals
abbrev method : List VType → ℕ → ℕ → List Placed → List Handler → List RawFrame → Method
method params stack locals ops handlers frames = record {
  class = name (codes "Main");
  above = Some (name (codes "java/lang/Object"));
  is_init = false;
  params = params;
  returns = None;
  pool = [];
  body = record { max_stack = stack; max_locals = locals; ops = ops; handlers = handlers; attributes = Maps 1 frames ∷ [] };
}

abbrev zero_pushed : Op
zero_pushed = ops.IntConst (consts.Small ints.Zero)

abbrev leave : Op
leave = ops.Return results.Nothing

abbrev goto : ℕ → Op
goto by = ops.Goto (gotos.Narrow (pos by))

-- ---- the stack

abbrev pushing : List Placed
pushing = placed 0 zero_pushed ∷ placed 1 (ops.Stack Pop) ∷ placed 2 leave ∷ []

no_room : (p : Program) → method_fault p (method [] 0 0 pushing [] []) ≡ Some 0
unfolding method_fault written written_from walk step by_form form goes_on branches first_some slots taken below
no_room p = refl

room : (p : Program) → method_fault p (method [] 1 0 pushing [] []) ≡ None
unfolding method_fault written written_from walk step by_form form goes_on branches first_some slots taken below shuffle moves.items
room p = refl

-- ---- where it goes on

no_frame : (p : Program) → method_fault p (method [] 0 0 (placed 0 (goto 0) ∷ []) [] []) ≡ Some 0
unfolding method_fault written written_from walk step by_form form goes_on branches first_some slots taken below
no_frame p = refl

a_frame : (p : Program) → method_fault p (method [] 0 0 (placed 0 (goto 0) ∷ []) [] (raw 0 0 [] [] ∷ [])) ≡ None
unfolding method_fault written written_from walk step by_form form goes_on branches first_some slots taken below locals_after all_fit
a_frame p = refl

-- behind a goto stands what no frame is declared for
not_reached : (p : Program) → method_fault p (method [] 0 0 (placed 0 (goto 4) ∷ placed 3 leave ∷ placed 4 leave ∷ []) [] (raw 4 4 [] [] ∷ [])) ≡ Some 3
unfolding method_fault written written_from walk step by_form form goes_on branches first_some slots taken below locals_after all_fit
not_reached p = refl

runs_off : (p : Program) → method_fault p (method [] 0 0 (placed 0 ops.Nop ∷ placed 1 ops.Nop ∷ []) [] []) ≡ Some 1
unfolding method_fault written written_from walk step by_form form goes_on branches first_some slots taken below
runs_off p = refl

-- an int stands on the stack in the frame that is declared behind it
other_frame : (p : Program) → method_fault p (method [] 1 0 (placed 0 ops.Nop ∷ placed 1 leave ∷ []) [] (raw 65 1 [] (items.Int ∷ []) ∷ [])) ≡ Some 0
unfolding method_fault written written_from walk step by_form form goes_on branches first_some slots taken below locals_after all_fit
other_frame p = refl

-- a branch from 1 to 5
abbrev branching : List Placed
branching = placed 0 zero_pushed ∷ placed 1 (ops.If Eq (pos 4)) ∷ placed 4 leave ∷ placed 5 leave ∷ []

branch_fits : (p : Program) → method_fault p (method [] 1 0 branching [] (raw 5 5 [] [] ∷ [])) ≡ None
unfolding method_fault written written_from walk step by_form form goes_on branches first_some slots taken below locals_after all_fit
branch_fits p = refl

-- the branch is named, not the place to which it leads
branch_misfits : (p : Program) → method_fault p (method [] 1 0 branching [] (raw 69 5 [] (items.Int ∷ []) ∷ [])) ≡ Some 1
unfolding method_fault written written_from walk step by_form form goes_on branches first_some slots taken below locals_after all_fit
branch_misfits p = refl

-- no class stands at 5, so that the first instruction that the handler covers is named
catches_nothing : (p : Program) → method_fault p (method [] 0 0 (placed 0 ops.Nop ∷ placed 1 ops.Nop ∷ placed 2 leave ∷ []) (record { start = 1; «end» = 2; at = 2; class = 5 } ∷ []) []) ≡ Some 1
unfolding method_fault written written_from walk step by_form form goes_on branches first_some slots taken below class_at entry_meant
catches_nothing p = refl

-- ---- declared frames

-- no instruction begins at 1
no_place : (p : Program) → method_fault p (method [] 0 0 (placed 0 (goto 0) ∷ []) [] (raw 0 0 [] [] ∷ raw 0 0 [] [] ∷ [])) ≡ Some 1
unfolding method_fault written written_from walk step by_form form goes_on branches first_some slots taken below locals_after all_fit
no_place p = refl

-- one local is taken away where there is none
chops_too_much : (p : Program) → method_fault p (method [] 0 0 (placed 0 ops.Nop ∷ placed 1 leave ∷ []) [] (raw 250 1 [] [] ∷ [])) ≡ Some 1
unfolding method_fault written written_from walk step by_form form goes_on branches first_some slots taken below locals_after all_fit
chops_too_much p = refl

-- no `new` stands at 0
makes_nothing : (p : Program) → method_fault p (method [] 0 1 (placed 0 leave ∷ []) [] (raw 252 0 (items.Uninit 0 ∷ []) [] ∷ [])) ≡ Some 0
unfolding method_fault written written_from walk step by_form form goes_on branches first_some slots taken below locals_after all_fit made_in
makes_nothing p = refl

-- ---- where it begins

-- a long takes two locals
long_without_room : (p : Program) → method_fault p (method (types.Long ∷ []) 0 1 (placed 0 leave ∷ []) [] []) ≡ Some 0
unfolding method_fault written written_from walk step by_form form goes_on branches first_some slots taken below
long_without_room p = refl

long_with_room : (p : Program) → method_fault p (method (types.Long ∷ []) 0 2 (placed 0 leave ∷ []) [] []) ≡ None
unfolding method_fault written written_from walk step by_form form goes_on branches first_some slots taken below
long_with_room p = refl

-- the stack is empty where a method begins
misfits_first : (p : Program) → method_fault p (method [] 1 0 (placed 0 leave ∷ []) [] (raw 64 0 [] (items.Int ∷ []) ∷ [])) ≡ Some 0
unfolding method_fault written written_from walk step by_form form goes_on branches first_some slots taken below locals_after all_fit
misfits_first p = refl

-- an `<init>`
abbrev beginning : List Placed → Method
beginning ops = record {
  class = name (codes "Main");
  above = Some (name (codes "java/lang/Object"));
  is_init = true;
  params = types.UninitThis ∷ [];
  returns = None;
  pool = [];
  body = record { max_stack = 1; max_locals = 1; ops = ops; handlers = []; attributes = [] };
}

-- no other one was called on `this`
returns_too_early : (p : Program) → method_fault p (beginning (placed 0 leave ∷ [])) ≡ Some 0
unfolding method_fault written written_from walk step by_form form goes_on branches first_some slots taken below
returns_too_early p = refl

-- ---- a program

abbrev with_code : List Placed → MemberInfo
with_code ops = record { flags = record { 0 = 8 }; name = 0; desc = 0; attributes = Code 0 0 0 ops [] [] ∷ [] }

abbrev without_code : MemberInfo
without_code = record { flags = record { 0 = 1024 }; name = 0; desc = 0; attributes = [] }

abbrev class : List MemberInfo → CodePart
class methods = record {
  domain = 0;
  class = record {
    minor = 0;
    major = 50;
    pool = [];
    flags = record { 0 = 0 };
    this_class = 0;
    super_class = 0;
    interfaces = [];
    fields = [];
    methods = methods;
    attributes = [];
  };
}

abbrev running_off : List Placed
running_off = placed 0 ops.Nop ∷ placed 1 ops.Nop ∷ []

abbrev two_classes : List CodePart
two_classes = class (with_code (placed 0 leave ∷ []) ∷ []) ∷ class (without_code ∷ with_code running_off ∷ with_code [] ∷ []) ∷ []

-- the second class, its second method, the last instruction
second_of_second : type_fault (program Source two_classes) ≡ Some (record { class = 1; method = 1; at = 1 })
unfolding type_fault class_fault member_fault method_fault written written_from walk step by_form form goes_on branches first_some first_along code_of slots taken below typed descriptor_of utf8_at
second_of_second = refl
