-- Each entry of a table stands for what it says over the whole table.
use Rattle.std.proofs.Common.{◌≡◌, ℕ, zero, suc, ◌+◌, ◌<◌, List, [], ◌∷◌, ◌++◌, Option, Some, None, length, refl, sym, ap, ◌∙◌, arith, length-append, slice_get, add-zero, zero-add}
use Rattle.jdomain.specs.DomainStacks.{Stack, Privileged, Within}
use Rattle.jperm.specs.declared.permission.Permission.{Permission}
use Rattle.jsnapshots.specs.declared.mark.InspectMark.{InspectMark}
use Rattle.jsnapshots.specs.declared.entry.KeptEntry.{KeptEntry}
use Rattle.jsnapshots.specs.declared.entry.KeptEntry.TheVariants.{Empty, Frame, Privilege}
use Rattle.jsnapshots.specs.SnapshotEntries.{Below, AllBelow, EntryBelow, Extends, IsBack}
use Rattle.jsnapshots.specs.SnapshotMeanings.{Thing, AStack, AMark, the_stack, the_mark, stack_at, mark_at, given_at, framed, pushed, stack_of, thing_of, things_behind, things, Keeps, IsPlain}

-- two lists that have the same below n
abbrev pub Agree : ℕ → List Thing → List Thing → Type 0
Agree n a b = (j : ℕ) → j < n → slice_get a j ≡ slice_get b j

stack_at-agree : (n : ℕ) (a b : List Thing) → Agree n a b → (k : Option ℕ) → Below n k → stack_at a k ≡ stack_at b k
stack_at-agree n a b same None h = refl
stack_at-agree n a b same (Some k) h = ap the_stack (same k h)

mark_at-agree : (n : ℕ) (a b : List Thing) → Agree n a b → (k : Option ℕ) → Below n k → mark_at a k ≡ mark_at b k
mark_at-agree n a b same None h = refl
mark_at-agree n a b same (Some k) h = ap the_mark (same k h)

given_at-agree : (n : ℕ) (a b : List Thing) → Agree n a b → (k : Option ℕ) → Below n k → given_at a k ≡ given_at b k
given_at-agree n a b same None h = refl
given_at-agree n a b same (Some k) h = ap (λ o. Within (the_stack o)) (same k h)

framed-agree : (n : ℕ) (a b : List Thing) → Agree n a b → (m : InspectMark) (s t : Stack) → Below n m.privileged → s ≡ t → framed a m s ≡ framed b m t
framed-agree n a b same m s t h e =
    let marked = mark_at-agree n a b same m.privileged h in
    cc (marked, e)

thing_of-agree : (n : ℕ) (a b : List Thing) → Agree n a b → (e : KeptEntry) → EntryBelow n e → thing_of a e ≡ thing_of b e
thing_of-agree n a b same Empty h = refl
thing_of-agree n a b same (Frame f) h =
    ap AStack (framed-agree n a b same f.mark (stack_at a f.older) (stack_at b f.older) h.0 (stack_at-agree n a b same f.older h.1))
thing_of-agree n a b same (Privilege given limits) h =
    ap (λ g. AMark (Privileged g limits)) (given_at-agree n a b same given h)

get-append : (a b : List Thing) → Agree (length a) (a ++ b) a
get-append [] b j h = absurd (omega arith)
get-append (x ∷ a) b zero h = refl
get-append (x ∷ a) b (suc j) h = get-append a b j (omega arith)

get_seam : (a : List Thing) (x : Thing) (b : List Thing) → slice_get (a ++ x ∷ b) (length a) ≡ Some x
get_seam [] x b = refl
get_seam (y ∷ a) x b = get_seam a x b

-- what is there stays
things_behind-agree : (done : List Thing) (entries : List KeptEntry) → Agree (length done) (things_behind done entries) done
things_behind-agree done [] j h = refl
things_behind-agree done (e ∷ entries) j h =
    things_behind-agree (done ++ thing_of done e ∷ []) entries j (let n = length-append done (thing_of done e ∷ []) in omega arith)
    ∙ get-append done (thing_of done e ∷ []) j h

-- an entry of what is left stands for what it says over the whole
things_behind-at : (done : List Thing) (entries : List KeptEntry) (k : ℕ) (e : KeptEntry) → slice_get entries k ≡ Some e
    → ((i : ℕ) (f : KeptEntry) → slice_get entries i ≡ Some f → EntryBelow (length done + i) f)
    → slice_get (things_behind done entries) (length done + k) ≡ Some (thing_of (things_behind done entries) e)
things_behind-at done [] k e found back = cc
things_behind-at done (f ∷ entries) zero e found back =
    let same : f ≡ e = cc in
    let more = done ++ thing_of done f ∷ [] in
    let n = length-append done (thing_of done f ∷ []) in
    let here = things_behind-agree more entries (length done) (omega arith) ∙ get_seam done (thing_of done f) [] in
    let whole = thing_of-agree (length done) done (things_behind more entries) (λ j h. sym (things_behind-agree done (f ∷ entries) j h)) f (rw (← add-zero (length done)) (back 0 f refl)) in
    rw add-zero (here ∙ ap Some (whole ∙ ap (thing_of (things_behind more entries)) same))
things_behind-at done (f ∷ entries) (suc k) e found back =
    let n : length (done ++ thing_of done f ∷ []) ≡ length done + 1 = length-append done (thing_of done f ∷ []) in
    let place : length (done ++ thing_of done f ∷ []) + k ≡ length done + suc k = omega arith in
    rw (← place) (things_behind-at (done ++ thing_of done f ∷ []) entries k e found
    (λ i g h. let there : length (done ++ thing_of done f ∷ []) + i ≡ length done + suc i = omega arith in rw there (back (suc i) g h)))

-- each entry of a table stands for what it says over the whole table
pub things-at : (entries : List KeptEntry) → IsBack entries → (k : ℕ) (e : KeptEntry) → slice_get entries k ≡ Some e
    → slice_get (things entries) k ≡ Some (thing_of (things entries) e)
things-at entries back k e found = rw zero-add at (things_behind-at [] entries k e found (λ i f h. rw zero-add (back i f h)))

things_behind-append : (done : List Thing) (a b : List KeptEntry) → things_behind done (a ++ b) ≡ things_behind (things_behind done a) b
things_behind-append done [] b = refl
things_behind-append done (e ∷ a) b = things_behind-append (done ++ thing_of done e ∷ []) a b

length-things_behind : (done : List Thing) (entries : List KeptEntry) → length (things_behind done entries) ≡ length done + length entries
length-things_behind done [] = sym (add-zero (length done))
length-things_behind done (e ∷ entries) =
    let rest = length-things_behind (done ++ thing_of done e ∷ []) entries in
    let n : length (done ++ thing_of done e ∷ []) ≡ length done + 1 = length-append done (thing_of done e ∷ []) in
    omega arith

length-things : (entries : List KeptEntry) → length (things entries) ≡ length entries
length-things entries = length-things_behind [] entries ∙ zero-add (length entries)

-- what an added entry stands for
pub added_stands : (old new : List KeptEntry) (e : KeptEntry) (n : ℕ) → new ≡ old ++ e ∷ [] → n ≡ length old
    → slice_get (things new) n ≡ Some (thing_of (things old) e)
added_stands old new e n grown number =
    let count : length (things old) ≡ length old = length-things old in
    ap (λ l. slice_get (things l) n) grown ∙ ap (λ l. slice_get l n) (things_behind-append [] old (e ∷ []))
    ∙ ap (slice_get (things old ++ thing_of (things old) e ∷ [])) (number ∙ sym count) ∙ get_seam (things old) (thing_of (things old) e) []

-- further entries leave what earlier numbers stand for
pub keeps_grown : (old new more : List KeptEntry) → new ≡ old ++ more → Keeps old new
keeps_grown old new more grown =
    let count : length (things old) ≡ length old = length-things old in
    let longer : length new ≡ length old + length more = ap length grown ∙ length-append old more in (
      omega (arith, longer),
      λ k h. ap (λ l. slice_get (things l) k) grown ∙ ap (λ l. slice_get l k) (things_behind-append [] old more)
          ∙ things_behind-agree (things old) more k (omega (arith, count, h)),
    )

-- so does the number of the privilege without a given stack and limits
pub plain_grown : (old new more : List KeptEntry) (n : Option ℕ) → new ≡ old ++ more → IsPlain old n → IsPlain new n
plain_grown old new more None grown plain = tt
plain_grown old new more (Some n) grown plain =
    let keeps = keeps_grown old new more grown in (
      omega (arith, keeps.0, plain.0),
      ap the_mark (keeps.1 n plain.0) ∙ plain.1,
    )

-- an added privilege stands for its mark
pub marked_stands : (old new : List KeptEntry) (given : Option ℕ) (limits : Option (List Permission)) (n : ℕ) → new ≡ old ++ Privilege given limits ∷ [] → n ≡ length old
    → mark_at (things new) (Some n) ≡ Privileged (given_at (things old) given) limits
marked_stands old new given limits n grown number = ap the_mark (added_stands old new (Privilege given limits) n grown number)

nothing_more : (entries : List KeptEntry) → entries ≡ entries ++ []
nothing_more [] = refl
nothing_more (e ∷ entries) = ap (λ (l : List KeptEntry). e ∷ l) (nothing_more entries)

pub extends_none : (entries : List KeptEntry) → Extends entries entries
extends_none entries = ([], nothing_more entries)

-- so stacks and marks of earlier numbers stay
pub stack_of-kept : (old new : List KeptEntry) → Keeps old new → (marks : List InspectMark) (inherited : Option ℕ) → AllBelow (length old) marks → Below (length old) inherited
    → stack_of (things new) marks inherited ≡ stack_of (things old) marks inherited
stack_of-kept old new keeps marks inherited below_marks below =
    pushed-agree marks (stack_at (things new) inherited) (stack_at (things old) inherited) below_marks (stack_at-agree (length old) (things new) (things old) keeps.1 inherited below)
  where
    pushed-agree : (marks : List InspectMark) (s t : Stack) → AllBelow (length old) marks → s ≡ t → pushed (things new) marks s ≡ pushed (things old) marks t
    pushed-agree [] s t h e = e
    pushed-agree (m ∷ marks) s t h e =
        pushed-agree marks (framed (things new) m s) (framed (things old) m t)
        (λ k d lt. h (suc k) d (omega arith))
        (framed-agree (length old) (things new) (things old) keeps.1 m s t (h 0 m (omega arith)) e)
