-- A method that is being checked, by number, and what it stands for.
use Rattle.std.specs.Prelude.{◌≡◌, ◌≤◌, ℕ, ℤ, Bool, true, IsTrue, List, Option, Some, None, length, slice_get}
use Rattle.std.specs.List.{list_any}
use Rattle.jparts.specs.declared.jcode.op.Placed.{Placed}
use Rattle.jparts.specs.jcode.Instructions.{covers, Rises}
use Rattle.jparts.specs.jmaps.StackMapFormat.{maps}
use Rattle.jclass.specs.declared.class.CodeBody.{CodeBody}
use Rattle.jresolution.specs.jprogram.ProgramClasses.{Program}
use Rattle.jtyping.specs.declared.jrule.frame.FrameRef.{FrameRef}
use Rattle.jtyping.specs.declared.jrule.place.TypingContext.{TypingContext}
use Rattle.jtyping.specs.jwelltyped.DeclaredFrames.{Written}
use Rattle.jtyping.specs.jwelltyped.MethodPremises.{Method}
use Rattle.jresolution.specs.juses.PoolTables.{pool_at}
use Rattle.jresolution.specs.juses.EntryUses.{AreUses}
use Rattle.jverify.specs.declared.walk.Checking.{Checking}
use Rattle.jverify.specs.declared.held.Held.{Held}
use Rattle.jverify.specs.FrameTables.{all_written}
use Rattle.jverify.specs.FrameFacts.{IsKnown, held_seen}
use Rattle.jverify.specs.NewInstructions.{AreNews, made_at}
use Rattle.jverify.specs.InternedMethods.{seen_method}
use Rattle.jclass.specs.CodeFormat.{frames_in}

abbrev pub program_of : Checking → Program
program_of c = c.p.now

abbrev pub method_of : Checking → Method
method_of c = seen_method c.p.now c.method.now

-- the frames that it declares
abbrev pub frames_of : Checking → List Written
frames_of c = all_written c.p.now c.declared.now

-- the places of its instructions are of two bytes
abbrev pub AreShort : List Placed → Type 0
AreShort ops = (i : ℕ) (o : Placed) → slice_get ops i ≡ Some o → o.at ≤ 0xffff

-- a frame has as many locals as the method
abbrev pub IsCounted : Checking → FrameRef → Type 0
IsCounted c f = length f.locals ≡ c.declared.now.most

-- the same of one with what is known of it, which holds
pub record IsHeld (c : Checking) (h : Held) : Type 0 where
  pub count : IsCounted c h.frame
  pub known : IsKnown (program_of c) (method_of c) (frames_of c) (held_seen (program_of c) h).locals h.frame.flag h.known

-- what the rule has to know of a place in it
abbrev pub here_in : Checking → ℕ → TypingContext
here_in c at = record {
  class = c.method.now.class;
  above = c.method.now.above;
  is_init = c.method.now.is_init;
  returns = c.method.now.returns;
  max_stack = c.method.now.body.max_stack;
  at = at;
  covered = list_any (covers at) c.method.now.body.handlers.now;
}

abbrev pub IsHere : Checking → ℕ → TypingContext → Type 0
IsHere c at h = h ≡ here_in c at

-- a test of a branch, if there is one
abbrev pub branch_test : (ℤ → Bool) → Option ℤ → Bool
branch_test test None = true
branch_test test (Some by) = test by

-- the tables are those of the program and of the method
pub record IsChecking (c : Checking) : Type 0 where
  pub uses : AreUses c.p.now c.uses.now
  pub news : AreNews c.p.now (pool_at c.p.now c.method.now.class) c.method.now.body.ops.now (made_at c.news.now)
  pub short : AreShort c.method.now.body.ops.now
  pub most : c.declared.now.most ≡ c.method.now.body.max_locals

-- what is known of the code of a class file
pub record IsGood (body : CodeBody) : Type 0 where
  pub rises : Rises body.ops
  pub short : AreShort body.ops
  pub frames : IsTrue (maps.fits (frames_in body))
