use Rattle.std.proofs.Common.{◌≡◌, ℕ, drop, Some}
use Rattle.jtyping.specs.jrule.InternedFrames.{seen}
use Rattle.jtyping.specs.jwelltyped.VerifierTests as typing
use Rattle.jtyping.specs.declared.jrule.frame.FrameRef.{FrameRef}
use Rattle.jverify.specs.declared.held.Arriving.{Arriving}
use Rattle.jverify.specs.declared.walk.Checking.{Checking}
use Rattle.jverify.specs.CheckedMethods.{IsHeld, frames_of, method_of, program_of}
use Rattle.jverify.specs.FrameFacts.{arrived}
use Rattle.jverify.proofs.walk.Checking.walk.Given as goal

pub record Walks (c : Checking) (i : ℕ) (arriving : Arriving) (first : FrameRef) : Type 0 where
  pub held : IsHeld c arriving.held
  pub left : typing.walk (program_of c) (method_of c) (frames_of c) (drop i (method_of c).body.ops) (arrived (program_of c) arriving)
      ≡ typing.walk (program_of c) (method_of c) (frames_of c) (method_of c).body.ops (Some (seen (program_of c) first))

abbrev pub invariant-loop-i : goal.invariant-loop-i
invariant-loop-i l = Walks l.self l.i l.arriving l.fn.first
