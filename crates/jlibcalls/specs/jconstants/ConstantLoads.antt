-- What loads of string constants come to (JVMS 6.5: ldc).
use Rattle.std.specs.Prelude.{◌≡◌, ⊤, ℕ, List, [], ◌∷◌, Option, Some, None}
use Rattle.jmemory.specs.jheap.Heaps.{Heaped}
use Rattle.jvalues.specs.declared.jops.value.Value.TheVariants.{Ref}
use Rattle.jresolution.specs.jprogram.ProgramClasses.{Program}
use Rattle.jresolution.specs.juses.IndexedInstructions.{Instruction, Used}
use Rattle.jresolution.specs.juses.InstructionMeanings as meanings
use Rattle.jsemantics.specs.jmachine.FrameOperations.{onward}
use Rattle.jsemantics.specs.jmachine.ObjectInstructions.{push}
use Rattle.jruntime.specs.jstate.FrameLists.{Framed, with_newest}
use Rattle.jruntime.specs.declared.jstate.shapes.Shapes.{Shapes}
use Rattle.jruntime.specs.jstate.HeapMeanings.{Things, store_by}
use Rattle.jrows.specs.jtexts.MadeStrings.{loaded}
use Rattle.jrows.specs.jtexts.TextCallOutcomes.{Comes, leaves}
use Rattle.jrows.specs.declared.jacts.way.Way.{Way}
use Rattle.jrows.specs.declared.jacts.way.Way.TheVariants as ways
use Rattle.jrows.specs.jacts.RowOutcomes as acts
use Rattle.jlibcalls.specs.jconstants.StringConstants.{Made, bytes_at}

-- The load of the constant with these bytes gave an object, or none where there was no room, from these constants and this heap to those.
abbrev pub LoadsBytes : Type 0 → Program → (bytes : List ℕ) → List (List ℕ × ℕ) → Heaped → Option ℕ → List (List ℕ × ℕ) → Heaped → Type 0
LoadsBytes E p bytes old h o new k = (shapes : Shapes) (things : Things) → let s = store_by p shapes things old h in
    Comes {E = E} s (push s (meanings.Text bytes) []) (leaves (loaded o) [] (store_by p shapes things new k))

-- So did that of the constant at an index of a class's pool.
abbrev pub Loads : Type 0 → (class i : ℕ) → Made → Heaped → Option ℕ → Made → Heaped → Type 0
Loads E class i old h o new k = LoadsBytes E old.program (bytes_at old.program class i) old.constants h o new.constants k

-- The object is the newest operand of a frame that goes on; where there was no room nothing has changed.
abbrev pub Pushes : {E : Type 0} → Option ℕ → Framed E → Way → Framed E → Type 0
Pushes None f way g = (way ≡ ways.Full) × (g ≡ f)
Pushes (Some o) f way g = (way ≡ ways.Went) × (g ≡ with_newest (onward f.newest (Ref o ∷ [])) f)

-- the instruction that loads the constant at an index of a class's pool
abbrev pub load_of : Program → (class i : ℕ) → Instruction
load_of p class i = Used (meanings.Push (meanings.Text (bytes_at p class i)))

-- A row did what that instruction does.
abbrev pub RunsLoad : {E : Type 0} → (class i : ℕ) → Made → Framed E → Heaped → Way → Made → Framed E → Heaped → Type 0
RunsLoad class i old f h way new g k = (shapes : Shapes) (things : Things)
    → acts.Acts (load_of old.program class i) f.newest (store_by old.program shapes things old.constants h)
    (acts.leaves way [] g.newest (store_by old.program shapes things new.constants k))

-- Nothing is raised or thrown.
abbrev pub RaisesNothing : Way → Type 0
RaisesNothing (ways.Raises class) = ⊥
RaisesNothing (ways.Throws n) = ⊥
RaisesNothing way = ⊤
