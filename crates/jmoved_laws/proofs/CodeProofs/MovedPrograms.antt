-- A program that links, is well typed and breaks no limit, and its moved program, are such a pair as a machine has to know.
use Rattle.std.specs.Prelude.{◌≡◌, None}
use Rattle.jresolution.specs.jprogram.ProgramClasses.{Program}
use Rattle.jsemantics.specs.jmachine.World.{world}
use Rattle.jtyping.specs.jwelltyped.VerifierTests.{WellTyped}
use Rattle.jrewriting.specs.jrewrite.LinkageLaws.{IsLinked}
use Rattle.jrewriting.specs.jrewrite.RewrittenPrograms.{limits, moved}
use Rattle.jrewriting.proofs.JrewriteProofs.FinalOverrides.{moved_side}
use Rattle.jsimulation_laws.specs.relation.ProgramRelation.{Fills, SameClasses}
use Rattle.jmoved_laws.proofs.NamesProofs.NewClasses.{makes_same}
use Rattle.jmoved_laws.proofs.NamesProofs.EntryMethods.{domain_same, main_coded, own_same}
use Rattle.jmoved_laws.proofs.NamesProofs.CallPreservation.{calls_stay}
use Rattle.jmoved_laws.proofs.NamesProofs.Stores.{charge_same, opens_same, texts_same}
use Rattle.jmoved_laws.proofs.NamesProofs.Worlds.{classes_stay}
use Rattle.jmoved_laws.specs.code.MovedPrograms.{ProgramsMove}
use Rattle.jmoved_laws.proofs.CodeProofs.LinkedCode.{code_moves}
use Rattle.jmoved_laws.proofs.CodeProofs.EntrySlots.{action_slots, main_is, run_slots}
use Rattle.jmoved_laws.proofs.CodeProofs.CallSlots.{calls_fill}

fills : (p : Program) (is : IsLinked p) (typed : WellTyped p) (free : limits p ≡ None) (worlds : SameClasses (world p) (world (moved p))) → Fills p (moved p) (code_moves p is typed free worlds)
fills p is typed free worlds = record {
  calls = λ m callee at s by c operands t body code call to. calls_fill p is m callee at s by c operands t call to;
  actions = λ full x callee body code h. action_slots p full x callee h;
  runs = λ full x callee body code h. run_slots p full x callee h;
  main = λ name m body code h. main_is p name m is.source h;
}

pub moves : ProgramsMove
moves p is typed free = record {
  side = is.source;
  passing = moved_side p;
  classes = classes_stay p is typed free;
  codes = code_moves p is typed free (classes_stay p is typed free);
  domains = λ m. domain_same p m;
  own = λ m field. own_same p is typed free m field;
  makes = λ m n c h. makes_same p is m n c h;
  calls = calls_stay p is typed free;
  fills = fills p is typed free (classes_stay p is typed free);
  begins = λ name m h. main_coded p name m h;
  charge = charge_same p is;
  texts = texts_same p is;
  opens = λ heap. opens_same p is heap;
}
