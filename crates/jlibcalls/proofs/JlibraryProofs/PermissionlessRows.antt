-- Rows that make no permission.
use Rattle.std.proofs.Common.{◌≡◌, ◌∙◌, ℕ, zero, suc, List, [], ◌++◌, Option, Some, None, refl, subst, sym, ap}
use Rattle.std.specs.Prelude.{replicate}
use Rattle.jperm.specs.declared.permission.Permission as perms
use Rattle.jmemory.specs.declared.jheap.cell.Kind.{Kind}
use Rattle.jmemory.specs.declared.jheap.cell.Kind.TheVariants as kinds
use Rattle.jmemory.specs.jheap.Heaps as heaps
use Rattle.jlib.specs.declared.classes.LibClass.TheVariants as lib
use Rattle.jresolution.specs.declared.jprogram.part.ClassRef.{ClassRef}
use Rattle.jresolution.specs.declared.jprogram.part.ClassRef.TheVariants as refs
use Rattle.joutput.specs.declared.jtrace.event.Event.{Event}
use Rattle.jresolution.specs.jprogram.ProgramClasses.{Program}
use Rattle.jsemantics.specs.jmachine.MachineStates.{Act, FrameOf, Goes, Jumps, Leaves, Calls, Raises, Throws, Switches, Makes as MakesThread}
use Rattle.jsemantics.specs.jmachine.InstructionActions.{Doing}
use Rattle.jsemantics.specs.jmachine.HeapObjects.{Object}
use Rattle.jsemantics.specs.jmachine.Store.{Store, paid, with_made}
use Rattle.jruntime.specs.declared.jstate.shapes.Shapes.{Shapes}
use Rattle.jruntime.specs.jstate.ClassNumbers.{class_numbered}
use Rattle.jruntime.specs.jstate.HeapMeanings.{Things, class_by, first, kind_by, store_by}
use Rattle.jruntime.specs.jstate.HeapMeaningLaws.{Makes}
use Rattle.jrows.specs.declared.jacts.way.Way.{Way}
use Rattle.jrows.specs.declared.jacts.way.Way.TheVariants as ways
use Rattle.jrows.specs.jacts.RowOutcomes.{Acted, Comes, Left, leaves}
use Rattle.jlibcalls.specs.jlibrary.HeldPermissions.{with_permissions}
use Rattle.jlibcalls.specs.jlibrary.HeldPermissionLaws.{MadeStaysHeld, RowsStayHeld}
use Rattle.jlibcalls.proofs.JlibraryProofs.PermissionlessCalls.{same_store}

module _ {E : Type 0} (f : FrameOf ℕ E) (s : Store ℕ) where
  store_alike : (x : FrameOf ℕ E) (cells : ℕ) (act : Act ℕ E) (l m : Left E) → Acted f s x cells act l → Acted f s x cells act m → l.store ≡ m.store
  store_alike x cells (Goes u values events) l m a b = ap (λ (y : Left E). y.store) (a ∙ sym b)
  store_alike x cells (Jumps to) l m a b = ap (λ (y : Left E). y.store) (a.1 ∙ sym b.1)
  store_alike x cells (Raises events class message) l m (n, o, w, t, same, a) (n2, o2, w2, t2, same2, b) = a ∙ sym b
  store_alike x cells (Throws n) l m (z, w, t, same, a) (z2, w2, t2, same2, b) = a ∙ sym b
  store_alike x cells (Leaves values) l m a b = absurd a
  store_alike x cells (Calls method arguments entry) l m a b = absurd a
  store_alike x cells (Switches table) l m a b = absurd a
  store_alike x cells (MakesThread u runnable k) l m a b = absurd a

  comes_alike : (way : Way) (told : List Event) (g : FrameOf ℕ E) (t u : Store ℕ) (d : Option (Doing ℕ E)) → (way ≡ ways.Stuck → ⊥)
      → Comes f s d (leaves way told g t) → Comes f s d (leaves way told g u) → t ≡ u
  comes_alike way told g t u None not a b = absurd (not a)
  comes_alike way told g t u (Some d) not a b = store_alike d.frame d.row.charge d.row.act (leaves way told g t) (leaves way told g u) a b

pub rows_stay : {E : Type 0} → RowsStayHeld E
rows_stay {E} p shapes permissions h k f g way told before after doing not held comes things more e =
    let others = with_permissions (permissions ++ more) things in
    let s = store_by p shapes things before h in
    let t = store_by p shapes others after k in
    let u = store_by p shapes things after k in
    let same = same_store p shapes permissions h held things before more e in
    let other : Comes f s (doing s) (leaves way told g t) =
    subst (λ (x : Store ℕ). Comes f x (doing x) (leaves way told g t)) same (comes things others e same) in
    ap (λ (x : Store ℕ). x.objects) (comes_alike f s way told g t u (doing s) not other (comes things things e refl))

-- ---- what is made

first_zero : (len : ℕ) → first (replicate len 0) ≡ 0
first_zero zero = refl
first_zero (suc len) = refl

module _ (p : Program) (shapes : Shapes) (objects : List heaps.Object) (things : Things) (permissions : List perms.Permission) (len : ℕ) where
  abbrev zeros : List ℕ
  zeros = replicate len 0

  abbrev others : Things
  others = with_permissions permissions things

  class_alike : (c : ClassRef) → class_by shapes objects others c zeros ≡ class_by shapes objects things c zeros
  class_alike (refs.User i) = refl
  class_alike (refs.Lib (lib.Permission c)) = rw (first_zero len) refl
  class_alike (refs.Lib (lib.Thrown c)) = refl
  class_alike (refs.Lib lib.AccessControlException) = refl
  class_alike (refs.Lib lib.String) = refl
  class_alike (refs.Lib lib.StringBuilder) = refl
  class_alike (refs.Lib lib.AccessControlContext) = refl
  class_alike (refs.Lib lib.Thread) = refl
  class_alike (refs.Lib lib.Object) = refl
  class_alike (refs.Lib lib.System) = refl
  class_alike (refs.Lib lib.PrintStream) = refl
  class_alike (refs.Lib lib.Void) = refl
  class_alike (refs.Lib lib.Cloneable) = refl
  class_alike (refs.Lib lib.Serializable) = refl
  class_alike (refs.Lib lib.Runnable) = refl
  class_alike (refs.Lib lib.PrivilegedAction) = refl
  class_alike (refs.Lib lib.AccessController) = refl
  class_alike (refs.Lib lib.Rt) = refl
  class_alike (refs.Lib lib.Ctx) = refl

  kind_alike : (kind : Kind) → kind_by p shapes objects others kind zeros ≡ kind_by p shapes objects things kind zeros
  kind_alike (kinds.Object n) = class_alike (class_numbered n)
  kind_alike (kinds.Array n) = refl
  kind_alike kinds.Text = refl
  kind_alike kinds.Piece = refl

pub made_stays : Makes → MadeStaysHeld
made_stays makes p shapes permissions h kind len built held things more e =
    let all = permissions ++ more in
    let others = with_permissions all things in
    let s = store_by p shapes things [] h in
    let one = λ (t : Things). kind_by p shapes h.objects t kind (replicate len 0) in
    let same : store_by p shapes others [] (heaps.made h kind len) ≡ store_by p shapes things [] (heaps.made h kind len) =
    makes p shapes others [] h kind len built
    ∙ ap (λ (t : Store ℕ). paid (heaps.charge kind len) (with_made t (one others))) (same_store p shapes permissions h held things [] more e)
    ∙ ap (λ (x : Object ℕ). paid (heaps.charge kind len) (with_made s x)) (kind_alike p shapes h.objects things all len kind)
    ∙ sym (makes p shapes things [] h kind len built) in
    ap (λ (t : Store ℕ). t.objects) same
