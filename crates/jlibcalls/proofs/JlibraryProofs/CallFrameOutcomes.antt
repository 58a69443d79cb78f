-- What a call of the library left of its frame is what the machine's definition says.
use Rattle.std.proofs.Common.{◌≡◌, ℕ, false, List, [], Option, refl, subst, sym}
use Rattle.std.specs.Option.{option_to_list}
use Rattle.std.specs.Prelude.{drop, option_map, take}
use Rattle.jperm.specs.declared.permission.Permission as perms
use Rattle.jmemory.specs.jheap.Heaps.{Heaped}
use Rattle.jlib.specs.declared.calls.LibCall.{LibCall}
use Rattle.jresolution.specs.jprogram.ProgramClasses.{Program}
use Rattle.jsemantics.specs.jmachine.MachineStates.{FrameOf, Row}
use Rattle.jsemantics.specs.jmachine.FrameOperations.{with_operands}
use Rattle.jsemantics.specs.jmachine.LibraryCalls.{library}
use Rattle.jsemantics.specs.jmachine.InstructionSites.{Site}
use Rattle.jsemantics.specs.jmachine.World.{world}
use Rattle.jruntime.specs.declared.jstate.shapes.Shapes.{Shapes}
use Rattle.jruntime.specs.jstate.HeapMeanings.{Things, store_by}
use Rattle.jrows.specs.jacts.RowOutcomes.{Comes, leaves}
use Rattle.jlibcalls.specs.declared.jlibrary.came.Came.{Came}
use Rattle.jlibcalls.specs.declared.jlibrary.running.Done.{Done}
use Rattle.jlibcalls.specs.jlibrary.HeldPermissions.{AreHeld, with_permissions}
use Rattle.jlibcalls.specs.jlibrary.LibraryOutcomes.{CallDoes, IsAskFree, Leaves, Runs, Stays}
use Rattle.jlibcalls.proofs.JlibraryProofs.Calls.{run_is}
use Rattle.jlibcalls.proofs.JlibraryProofs.LibraryAgreement.{joined, stays}
use Rattle.jlibcalls.proofs.JlibraryProofs.RowResults.{library_plain}

module _ {E : Type 0} (shapes : Shapes) (cwd : List ℕ) (thread : ℕ) (call : LibCall) (count : ℕ) (f g : FrameOf ℕ E) (before after : List perms.Permission) (h k : Heaped) (came : Came) (done : Done) where
  abbrev Did : Type 0
  Did = CallDoes E shapes cwd thread call (take count f.operands) before h came after k

  abbrev Left : Type 0
  Left = Leaves f (drop count f.operands) came.ran done.way g

  pub runs : IsAskFree call → Did → Left → done.told ≡ came.told → Runs shapes cwd thread call count f before h done g after k
  runs free did left told r p at own entries inherited things constants dir number is held =
      let s = store_by p shapes things constants h in
      let u = store_by p shapes (with_permissions after things) constants k in
      let values = take count f.operands in
      let below = drop count f.operands in
      let so = joined f s below g (option_to_list came.told) u (library at s call values) came.ran done.way (library_plain E s at call values)
      (did p at things constants dir number is held) left in
      rw told
      (subst (λ (o : Option (Row ℕ E)). Comes f s (option_map (λ (x : Row ℕ E). record { frame = with_operands f below; row = x }) o) (leaves done.way (option_to_list came.told) g u))
      (sym (run_is r at own s entries inherited call values free)) so)

  pub stays_so : Did → Left → (p : Program) → AreHeld p shapes before h.objects → Stays done.way f g
  stays_so did left p held =
      let at : Site = record { world = world p; class = 0; thread = thread; full = false; cwd = cwd; table = [] } in
      let things : Things = record { permissions = before; kept = [] } in
      let s = store_by p shapes things [] h in
      let u = store_by p shapes (with_permissions after things) [] k in
      let values = take count f.operands in
      stays f s (drop count f.operands) g (option_to_list came.told) u (library at s call values) came.ran done.way (library_plain E s at call values)
      (did p at things [] refl refl refl held) left
