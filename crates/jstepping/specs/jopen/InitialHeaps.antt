-- The heap in which a run begins.
use Rattle.std.specs.Prelude.{◌≡◌, ◌<◌, ◌≤◌, ℕ, List, [], length, Option, Some, None}
use Rattle.jmemory.specs.jheap.Heaps.{Heaped}
use Rattle.jresolution.specs.jprogram.ProgramClasses.{Program}
use Rattle.jsemantics.specs.jmachine.OpeningState.{arguments_number, opening_charge, opening_store}
use Rattle.jready.specs.declared.statics.StaticRow.{StaticRow}
use Rattle.jruntime.specs.declared.jstate.shapes.Shapes.{Shapes}
use Rattle.jruntime.specs.jstate.ObjectCells.{AreCelled}
use Rattle.jruntime.specs.jstate.HeapMeanings.{AreBuilt, Things}
use Rattle.jlibcalls.specs.jconstants.StringConstants.{Made}
use Rattle.jstepping.specs.declared.jopen.heap.Begun.{Begun}
use Rattle.jstepping.specs.declared.jopen.heap.Strings.{Strings}
use Rattle.jstepping.specs.jopen.StaticRows.{texts_of}
use Rattle.jstepping.specs.jopen.OpeningTexts.{HasMade, seen_by, texts_charge}

-- ---- step by step

-- A heap of so many cells with `System.out`, or there is no cell for it.
pub record IsOut (p : Program) (cells : ℕ) (c : Made) (h : Heaped) : Type 0 where
  pub made : HasMade p cells [] c h
  pub built : AreBuilt h.objects
  pub celled : (shapes : Shapes) → AreCelled shapes h.objects

abbrev pub HasOut : Program → ℕ → Made → Option Heaped → Type 0
HasOut p cells c None = cells < 1
HasOut p cells c (Some h) = IsOut p cells c h

-- And with the strings of statics, or there are too few cells for these.
pub record AreStrings (p : Program) (cells : ℕ) (rows : List StaticRow) (s : Strings) : Type 0 where
  pub made : HasMade p cells (texts_of p rows) s.constants s.heap
  pub built : AreBuilt s.heap.objects
  pub celled : (shapes : Shapes) → AreCelled shapes s.heap.objects

abbrev pub HasStrings : Program → ℕ → List StaticRow → Option Strings → Type 0
HasStrings p cells rows None = cells < texts_charge (texts_of p rows)
HasStrings p cells rows (Some s) = AreStrings p cells rows s

-- ---- all

-- The cells that the opening takes are there, and this is the heap.
pub record Begins (p : Program) (shapes : Shapes) (cells : ℕ) (b : Begun) : Type 0 where
  pub room : opening_charge p ≤ cells
  pub program : b.constants.program ≡ p
  pub store : (things : Things) → seen_by p shapes things b.constants b.heap ≡ opening_store p cells
  pub built : AreBuilt b.heap.objects
  pub celled : AreCelled shapes b.heap.objects
  pub statics : length b.heap.statics ≡ length shapes.statics
  pub array : b.array ≡ arguments_number p

-- Or they aren't.
abbrev pub BeginsOr : Program → Shapes → ℕ → Option Begun → Type 0
BeginsOr p shapes cells None = cells < opening_charge p
BeginsOr p shapes cells (Some b) = Begins p shapes cells b
