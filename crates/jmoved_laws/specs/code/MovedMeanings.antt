-- What the entries of a moved class's pool stand for.
use Rattle.std.specs.Prelude.{◌≡◌, ℕ, Some, None, slice_get}
use Rattle.jresolution.specs.declared.jprogram.part.CodePart.{CodePart}
use Rattle.jresolution.specs.jprogram.ProgramClasses.{Program}
use Rattle.jresolution.specs.juses.InstructionMeanings.{AClass, AConstant, AField, AMethod, EntryMeaning, entry_meant}
use Rattle.jtyping.specs.jwelltyped.VerifierTests.{WellTyped}
use Rattle.jmoveclass.specs.MovedClasses.{moved_class}
use Rattle.jrewriting.specs.jrewrite.LinkageLaws.{IsLinked}
use Rattle.jrewriting.specs.jrewrite.RewrittenPrograms.{limits, moved}
use Rattle.jsimulation_laws.specs.relation.InstructionExpansion.{Alone, way_of}

-- no context is handed on by it
abbrev pub HandsNone : EntryMeaning → Type 0
HandsNone (AMethod begins c) = way_of c.member ≡ Alone
HandsNone (AConstant x) = Unit {0}
HandsNone (AClass t) = Unit {0}
HandsNone (AField f) = Unit {0}

-- Each entry of a class's pool stands in the moved class for what it stood for, but the references of methods that are handed a context.
abbrev pub EntriesStay : Type 0
EntriesStay = (p : Program) → IsLinked p → WellTyped p → limits p ≡ None → (i : ℕ) (part : CodePart) → slice_get p.parts i ≡ Some part
    → (n : ℕ) (e : EntryMeaning) → entry_meant p part.class.pool (slice_get part.class.pool n) ≡ Some e → HandsNone e
    → entry_meant (moved p) (moved_class p part.domain part.class).pool (slice_get (moved_class p part.domain part.class).pool n) ≡ Some e
