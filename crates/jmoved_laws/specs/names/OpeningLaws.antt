-- What a machine has to know of the methods of a moved program, and of how its runs begin.
use Rattle.std.specs.Prelude.{◌≡◌, ℕ, List, Some, None}
use Rattle.jclass.specs.declared.class.CodeBody.{CodeBody}
use Rattle.jctx.specs.declared.item.Item.{Item}
use Rattle.jtypes.specs.declared.vtype.Name.{Name}
use Rattle.jresolution.specs.declared.jprogram.member.Member.{Member}
use Rattle.jresolution.specs.declared.jprogram.member.MethodId.{MethodId}
use Rattle.jresolution.specs.jprogram.ProgramClasses.{Program}
use Rattle.jresolution.specs.jprogram.MemberResolution.{main_of}
use Rattle.jresolution.specs.juses.IndexedInstructions.{Used, code_at}
use Rattle.jresolution.specs.juses.InstructionMeanings.{Make}
use Rattle.jsemantics.specs.jmachine.FrameOperations.{domain_of}
use Rattle.jsemantics.specs.jmachine.OpeningState.{opening_charge, opening_store, strings}
use Rattle.jsemantics.specs.jmachine.MachineSteps.{fetched, own_fields}
use Rattle.jsemantics.specs.jmachine.World.{world}
use Rattle.jtyping.specs.jwelltyped.VerifierTests.{WellTyped}
use Rattle.jrewriting.specs.jrewrite.LinkageLaws.{IsLinked}
use Rattle.jrewriting.specs.jrewrite.RewrittenPrograms.{limits, moved}

-- A method's domain is what it was,
abbrev pub DomainsStay : Type 0
DomainsStay = (p : Program) (m : MethodId) → domain_of (moved p) m ≡ domain_of p m

-- and so are the fields that an `<init>` may write before another is called.
abbrev pub OwnFieldsStay : Type 0
OwnFieldsStay = (p : Program) → IsLinked p → WellTyped p → limits p ≡ None → (m : MethodId) (field : Member)
    → own_fields (moved p) m field ≡ own_fields p m field

-- `new` finds the same class.
abbrev pub MakesStay : Type 0
MakesStay = (p : Program) → IsLinked p → (m : MethodId) (n : ℕ) (c : Name) → fetched p m n ≡ Some (Used (Make c))
    → (world (moved p)).class c ≡ (world p).class c

-- A class's `main` is the same method,
abbrev pub MainsStay : Type 0
MainsStay = (p : Program) → IsLinked p → WellTyped p → limits p ≡ None → (name : List ℕ) → main_of (moved p) name ≡ main_of p name

-- and it has code.
abbrev pub MainHasCode : Type 0
MainHasCode = (p : Program) (name : List ℕ) (m : MethodId) → main_of p name ≡ Some m → (body : CodeBody) × (code_at p m ≡ Some body)

-- The strings of constants are the same, and so are what a run costs before it begins, and the store with which it begins.
abbrev pub StringsStay : Type 0
StringsStay = (p : Program) → IsLinked p → strings (moved p) ≡ strings p

abbrev pub ChargeStays : Type 0
ChargeStays = (p : Program) → IsLinked p → opening_charge (moved p) ≡ opening_charge p

abbrev pub StoreStays : Type 0
StoreStays = (p : Program) → IsLinked p → (heap : ℕ) → opening_store {K = List Item} (moved p) heap ≡ opening_store p heap
