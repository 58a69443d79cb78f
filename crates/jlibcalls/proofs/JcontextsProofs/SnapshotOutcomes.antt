-- What a snapshot comes to.
use Rattle.std.proofs.Common.{◌≡◌, ◌∙◌, ℕ, ◌+◌, ◌<◌, ◌≤◌, true, false, List, [], ◌∷◌, ◌++◌, drop, Option, Some, refl, sym, ap, ap₂, rules, le-leb}
use Rattle.std.specs.Prelude.{nat_le}
use Rattle.std.proofs.lemmas.List.{length-map}
use Rattle.jvalues.specs.declared.jops.value.Value.TheVariants.{Ref}
use Rattle.jmemory.specs.jheap.Heaps.{Heaped}
use Rattle.jresolution.specs.jprogram.ProgramClasses.{Program}
use Rattle.jsemantics.specs.jmachine.FrameOperations.{onward, with_operands}
use Rattle.jsemantics.specs.jmachine.HeapObjects.{Context, Object}
use Rattle.jsemantics.specs.jmachine.MachineSteps.{acted, applied, went}
use Rattle.jsemantics.specs.jmachine.Store.{Store, next_number, paid, with_made}
use Rattle.jruntime.specs.declared.jstate.shapes.Shapes.{Shapes}
use Rattle.jruntime.specs.jstate.FrameLists.{Framed, holding, with_newest}
use Rattle.jruntime.specs.jstate.HeapMeanings.{Things, object_by, place_in, store_by}
use Rattle.jrows.specs.jcalls.Throws.{LeavesStanding}
use Rattle.jlibcalls.specs.jcontexts.KeptContexts.{AreKept, IsKeptAt, StayHeld, with_kept}
use Rattle.jlibcalls.specs.jcontexts.Snapshots.{MakesContext, Snapshots}
use Rattle.jlibcalls.proofs.JcontextsProofs.SnapshotStability.{same_after, same_behind, still_there}

module _ (number place o : ℕ) (before after : List ℕ) (h k : Heaped) (at : IsKeptAt number before place after) (made : MakesContext place h o k) where
  -- the store behind it
  store_is : (p : Program) (shapes : Shapes) (things : Things) (constants : List (List ℕ × ℕ)) → things.kept ≡ before → AreKept p shapes things h.objects
      → store_by p shapes (with_kept after things) constants k ≡ paid 2 (with_made (store_by p shapes things constants h) (Context (Some number)))
  store_is p shapes things constants is held =
      made.store p shapes (with_kept after things) constants
      ∙ ap₂ (λ (t : Store ℕ) (n : Option ℕ). paid 2 (with_made t (Context n))) (same_after p shapes things before is h held constants after at.2) at.0

  -- with more behind what is kept then
  more_is : (p : Program) (shapes : Shapes) (things : Things) (constants : List (List ℕ × ℕ)) (more : List ℕ) → things.kept ≡ before → AreKept p shapes things h.objects
      → store_by p shapes (with_kept (after ++ more) things) constants k ≡ paid 2 (with_made (store_by p shapes things constants h) (Context (Some number)))
  more_is p shapes things constants more is held =
      made.store p shapes (with_kept (after ++ more) things) constants
      ∙ ap₂ (λ (t : Store ℕ) (n : Option ℕ). paid 2 (with_made t (Context n))) (same_behind p shapes things before is h held constants after more at.2)
      (still_there after more place number at.0)

  pub snaps_kept : (p : Program) (shapes : Shapes) (things : Things) → things.kept ≡ before → AreKept p shapes things h.objects
      → AreKept p shapes (with_kept after things) k.objects
  snaps_kept p shapes things is held more =
      ap (λ (t : Store ℕ). t.objects) (more_is p shapes things [] more is held ∙ sym (store_is p shapes things [] is held))

  module _ {E : Type 0} (count : ℕ) (f g : Framed E) where
    pub snaps : 2 ≤ h.left → g ≡ with_newest (onward (holding (drop count f.newest.operands) f).newest (Ref o ∷ [])) f → Snapshots number count f before h true g after k
    unfolding applied acted
    snaps room on r p plan s shapes things constants row seen is held does =
        let S : Store ℕ = store_by p shapes things constants h in
        let enough : nat_le 2 s.store.left ≡ true = rw seen (le-leb 2 h.left room) in
        let here : next_number s.store ≡ o = ap (λ (t : Store ℕ). next_number t) seen ∙ ap (λ n. n + 1) (length-map h.objects (object_by p shapes h.objects things)) ∙ sym made.number in
        let there : paid 2 (with_made s.store (Context (Some number))) ≡ store_by p shapes (with_kept after things) constants k =
        ap (λ (t : Store ℕ). paid 2 (with_made t (Context (Some number)))) seen ∙ sym (store_is p shapes things constants is held) in
        rw (does, enough, on) (ap₂ (λ (n : ℕ) (t : Store ℕ). went r p plan s (onward (with_operands f.newest (drop count f.newest.operands)) (Ref n ∷ []) ∷ f.below) t []) here there)

-- the new object is made of the numbers that are kept alone
pub snaps_held : (place o : ℕ) (h k : Heaped) → MakesContext place h o k → StayHeld h.objects k.objects
snaps_held place o h k made p shapes things others same alike =
    ap (λ (t : Store ℕ). t.objects) (made.store p shapes others [])
    ∙ ap₂ (λ (objects : List (Object ℕ)) (kept : List ℕ). objects ++ Context (place_in kept place) ∷ []) alike same
    ∙ sym (ap (λ (t : Store ℕ). t.objects) (made.store p shapes things []))

pub same_held : (h : Heaped) → StayHeld h.objects h.objects
same_held h p shapes things others same alike = alike

pub snaps_full : {E : Type 0} (number count : ℕ) (f g : Framed E) (before after : List ℕ) (h k : Heaped) → h.left < 2 → Snapshots number count f before h false g after k
unfolding applied acted
snaps_full number count f g before after h k few r p plan s shapes things constants row seen is held does =
    let short : nat_le 2 s.store.left ≡ false = rw seen (search rules) in
    rw (does, short) refl

-- ---- the frames

pub given_stands : {E : Type 0} (f g : Framed E) (count o : ℕ) → g ≡ with_newest (onward (holding (drop count f.newest.operands) f).newest (Ref o ∷ [])) f → LeavesStanding f g
given_stands f g count o on classes stand = rw on (stand.0.class, stand.1)

pub same_stands : {E : Type 0} (f : Framed E) → LeavesStanding f f
same_stands f classes stand = (stand.0.class, stand.1)

-- What a snapshot leaves.
pub ruleset snappings = (snaps, snaps_kept, snaps_full, given_stands, same_stands)
