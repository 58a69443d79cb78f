-- Names by which proofs and the contracts of inner functions call what the definitions say in place. What `javasec` and `dispatch` promise
-- reaches none of them.
use Rattle.std.specs.Prelude.{List, Option, Bool, None, true, Some, ℕ, ◌==◌, if◌then◌else◌, length}
use Rattle.jjob.specs.declared.line.Said.{Said}
use Rattle.jjob.specs.Jobs.{clashes}
use Rattle.jjob.specs.declared.line.Said.TheVariants.{Prop}
use Rattle.jjob.specs.CommandWords.{Word}
use Rattle.jjob.specs.declared.command.Command.{Command}
use Rattle.jjob.specs.declared.command.Command.TheVariants.{Rewrite}

-- ---- of Jobs

-- whether what a line says, if it says something, is bad behind what was said before
abbrev pub is_bad : List Said → Option Said → Bool
is_bad before = elim [ None ↦ true | Some said ↦ clashes before said ]

abbrev pub name_in : Said → Option (List ℕ)
name_in = elim [ Prop name value ↦ Some name | _ ↦ None ]

-- ---- of CommandWords

-- a rewriting of a job, stored below a folder that has a name
abbrev pub rewriting : Word → Word → Option Command
rewriting job to = if length to == 0 then None else Some (Rewrite job to)
