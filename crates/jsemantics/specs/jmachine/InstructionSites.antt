-- What a row has to know of the place where its instruction stands.
use Rattle.std.specs.Prelude.{ℕ, Bool, List}
use Rattle.jthreads.specs.declared.thread.Thread.{Thread}
use Rattle.jsemantics.specs.jmachine.World.{World}

pub record Site : Type 0 where
  pub world : World
  -- the class of the frame's method, by its place among the parts
  pub class : ℕ
  -- the number of the running thread
  pub thread : ℕ
  -- the thread has all the frames that it may have
  pub full : Bool
  -- the directory in which the names of files are read
  pub cwd : List ℕ
  -- which threads were started, have ended and wait
  pub table : List Thread
