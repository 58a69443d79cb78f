-- The code of each method of a program that links, and what it became.
use Rattle.std.proofs.Common.{◌≡◌, ℕ, ◌+◌, ◌<◌, ◌≤◌, max, Some, None, refl, ap, sym, ◌∙◌, arith}
use Rattle.std.specs.Prelude.{slice_get}
use Rattle.jclass.specs.declared.class.CodeBody.{CodeBody}
use Rattle.jmoveclass.specs.EntryLocals.{slots}
use Rattle.jmoveclass.specs.MovedClasses.{moved_class}
use Rattle.jrewriting.proofs.JmoveclassLawsProofs.CodeFormat.{new_body}
use Rattle.jresolution.specs.declared.jprogram.member.MethodId.{MethodId}
use Rattle.jresolution.specs.jprogram.ProgramClasses.{Program}
use Rattle.jresolution.specs.juses.IndexedInstructions.{Instruction, code_at}
use Rattle.jsemantics.specs.jmachine.FrameOperations.{domain_in}
use Rattle.jsemantics.specs.jmachine.MachineSteps.{fetched}
use Rattle.jsemantics.specs.jmachine.World.{world}
use Rattle.jtyping.specs.jwelltyped.VerifierTests.{WellTyped}
use Rattle.jrewriting.specs.jrewrite.LinkageLaws.{IsLinked}
use Rattle.jrewriting.specs.jrewrite.RewrittenPrograms.{limits, moved}
use Rattle.jrewriting.proofs.JrewriteProofs.FinalOverrides.{info_is}
use Rattle.jsimulation_laws.specs.relation.InstructionExpansion.{prologue}
use Rattle.jsimulation_laws.specs.relation.ProgramRelation.{MovedCode, SameClasses}
use Rattle.jmoved_laws.specs.code.SlotCounts.{slots_at, slots_in}
use Rattle.jmoved_laws.proofs.CodeProofs.MovedMethodCode.{Both, both_of, code_there}
use Rattle.jmoved_laws.proofs.CodeProofs.InstructionFetch.{fetches_law, first_law, next_law, number, place}
use Rattle.jmoved_laws.proofs.CodeProofs.HandlerLookup.{handles_law}

pub at_least : (a b : ℕ) → a ≤ max a b
at_least a b = omega arith

pub behind : (a n m : ℕ) → m ≡ n → m < max a (n + 1)
behind a n m e = omega (arith, e)

pub slots_are : (p : Program) (m : MethodId) (b : CodeBody) (r : Both p m b) → slots_at p m ≡ slots r.part.class r.method
slots_are p m b r = ap slots_in (info_is p m.class m.method r.part r.method r.stands r.declared)

pub begins_so : (p : Program) (m : MethodId) (b : CodeBody) (r : Both p m b) → (j : ℕ) (i : Instruction) → slice_get (prologue (slots_at p m) (place p m b r)) j ≡ Some i → fetched (moved p) m j ≡ Some i
begins_so p m b r j i h = first_law p m b r j i (sym (ap (λ (n : ℕ). slice_get (prologue n (place p m b r)) j) (slots_are p m b r)) ∙ h)

abbrev pub code_moves : (p : Program) → IsLinked p → WellTyped p → limits p ≡ None → SameClasses (world p) (world (moved p)) → (m : MethodId) (b : CodeBody) → code_at p m ≡ Some b → MovedCode p (moved p) m b
code_moves p is typed none worlds m b at = record {
  slots = slots_at p m;
  place = place p m b (both_of p is typed none m b at);
  at = number p m b (both_of p is typed none m b at);
  moved = (let r = both_of p is typed none m b at in new_body r.part.class r.method b r.part.domain r.first r.enter r.ms r.context);
  is = (let r = both_of p is typed none m b at in code_there (moved p) m (moved_class p r.part.domain r.part.class) (new_body r.part.class r.method b r.part.domain r.first r.enter r.ms r.context) r.new);
  domain = sym (ap domain_in (both_of p is typed none m b at).stands);
  most = refl;
  behind = (let r = both_of p is typed none m b at in at_least b.max_locals (slots r.part.class r.method + 1));
  behind_slots = (let r = both_of p is typed none m b at in behind b.max_locals (slots r.part.class r.method) (slots_at p m) (slots_are p m b r));
  first = begins_so p m b (both_of p is typed none m b at);
  begins = omega arith;
  next = next_law p m b (both_of p is typed none m b at);
  fetches = fetches_law p m b (both_of p is typed none m b at);
  handles = handles_law p m b (both_of p is typed none m b at) worlds;
}
