-- What the frames of the stack that was kept last stand for.
use Rattle.std.proofs.Common.{◌≡◌, ℕ, zero, suc, ◌+◌, ◌-◌, ◌<◌, ◌≤◌, List, [], ◌∷◌, ◌++◌, Option, Some, None, length, get_or, take, drop, refl, sym, ap, subst, ◌∙◌, arith, length-append, slice_get}
use Rattle.jdomain.specs.DomainStacks.{Bottom}
use Rattle.jsnapshots.specs.declared.mark.InspectMark.{InspectMark}
use Rattle.jsnapshots.specs.declared.entry.KeptEntry.{KeptEntry}
use Rattle.jsnapshots.specs.declared.entry.KeptEntry.TheVariants.{Empty, Frame}
use Rattle.jsnapshots.specs.declared.path.NumberedFrame.{NumberedFrame}
use Rattle.jsnapshots.specs.SnapshotEntries.{Below, AllBelow, IsBack, Extends}
use Rattle.jsnapshots.specs.SnapshotPath.{Lies, marks_of, newest}
use Rattle.jsnapshots.specs.SnapshotMeanings.{the_stack, stack_at, pushed, stack_of, things, Keeps}
use Rattle.std.proofs.lemmas.List.{take_rest, take-append-drop}
use Rattle.jsnapshots.proofs.Meanings.{things-at, added_stands, keeps_grown, stack_of-kept}

there : {A : Type 0} (xs : List A) (k : ℕ) (x : A) → slice_get xs k ≡ Some x → k < length xs
there [] k x found = cc
there (y ∷ xs) zero x found = omega arith
there (y ∷ xs) (suc k) x found = let h = there xs k x found in omega arith

get-more : {A : Type 0} (a b : List A) (k : ℕ) (x : A) → slice_get a k ≡ Some x → slice_get (a ++ b) k ≡ Some x
get-more [] b k x found = cc
get-more (y ∷ a) b zero x found = found
get-more (y ∷ a) b (suc k) x found = get-more a b k x found

get-seam : {A : Type 0} (a : List A) (x : A) → slice_get (a ++ x ∷ []) (length a) ≡ Some x
get-seam [] x = refl
get-seam (y ∷ a) x = get-seam a x

-- further entries change nothing
pub lies_grown : (old new more : List KeptEntry) (under : Option ℕ) (frames : List NumberedFrame) → new ≡ old ++ more → Lies old under frames → Lies new under frames
lies_grown old new more under [] grown lies = lies
lies_grown old new more under (f ∷ frames) grown lies = (
  ap (λ l. slice_get l f.number) grown ∙ get-more old more f.number (Frame (record { mark = f.mark; older = under })) lies.0,
  lies_grown old new more (Some f.number) frames grown lies.1,
)

-- the oldest frames lie as they did
pub lies_take : (entries : List KeptEntry) (n : ℕ) (under : Option ℕ) (frames : List NumberedFrame) → Lies entries under frames → Lies entries under (take n frames)
lies_take entries zero under frames lies = tt
lies_take entries (suc n) under [] lies = lies
lies_take entries (suc n) under (f ∷ frames) lies = (lies.0, lies_take entries n (Some f.number) frames lies.1)

-- one frame more
pub lies_push : (entries : List KeptEntry) (under : Option ℕ) (frames : List NumberedFrame) (f : NumberedFrame) → Lies entries under frames
    → slice_get entries f.number ≡ Some (Frame (record { mark = f.mark; older = newest under frames })) → Lies entries under (frames ++ f ∷ [])
lies_push entries under [] f lies found = (found, tt)
lies_push entries under (g ∷ frames) f lies found = (lies.0, lies_push entries (Some g.number) frames f lies.1 found)

-- the number of the stack is one of the entries'
pub newest_below : (entries : List KeptEntry) (under : Option ℕ) (frames : List NumberedFrame) → Below (length entries) under → Lies entries under frames → Below (length entries) (newest under frames)
newest_below entries under [] below lies = below
newest_below entries under (f ∷ frames) below lies =
    newest_below entries (Some f.number) frames (there entries f.number (Frame (record { mark = f.mark; older = under })) lies.0) lies.1

-- it is that of the last frame
last-is : (under : Option ℕ) (frames : List NumberedFrame) (x d : NumberedFrame) (k : ℕ) → suc k ≡ length frames → x ≡ get_or frames k d → Some x.number ≡ newest under frames
last-is under [] x d k e h = absurd (omega arith)
last-is under (f ∷ []) x d zero e h = ap (λ (y : NumberedFrame). Some y.number) h
last-is under (f ∷ []) x d (suc k) e h = absurd (omega arith)
last-is under (f ∷ g ∷ frames) x d zero e h = absurd (omega arith)
last-is under (f ∷ g ∷ frames) x d (suc k) e h = last-is (Some f.number) (g ∷ frames) x d k (omega arith) h

pub newest_last : (under : Option ℕ) (frames : List NumberedFrame) (x : NumberedFrame) (n : ℕ) → n ≡ length frames → 0 < n → x ≡ get_or frames (n - 1) x → Some x.number ≡ newest under frames
newest_last under frames x n all filled read = last-is under frames x x (n - 1) (omega arith) read

-- and stands for the stack of the frames' marks
lies_stands : (entries : List KeptEntry) → IsBack entries → (under : Option ℕ) (frames : List NumberedFrame) → Lies entries under frames
    → stack_at (things entries) (newest under frames) ≡ pushed (things entries) (marks_of frames) (stack_at (things entries) under)
lies_stands entries back under [] lies = refl
lies_stands entries back under (f ∷ frames) lies =
    lies_stands entries back (Some f.number) frames lies.1
    ∙ ap (pushed (things entries) (marks_of frames)) (ap the_stack (things-at entries back f.number (Frame (record { mark = f.mark; older = under })) lies.0))

-- a frame that was added lies where its entry was
pub pushed_lies : (old new : List KeptEntry) (under older : Option ℕ) (frames fs : List NumberedFrame) (m : InspectMark) (n : ℕ)
    → Lies old under frames → older ≡ newest under frames → new ≡ old ++ Frame (record { mark = m; older = older }) ∷ [] → n ≡ length old
    → fs ≡ frames ++ record { mark = m; number = n } ∷ [] → Lies new under fs
pushed_lies old new under older frames fs m n lies last grown number are =
    let found : slice_get new n ≡ Some (Frame (record { mark = m; older = newest under frames })) =
    ap (λ l. slice_get l n) grown ∙ ap (slice_get (old ++ Frame (record { mark = m; older = older }) ∷ [])) number ∙ get-seam old (Frame (record { mark = m; older = older }))
    ∙ ap (λ (o : Option ℕ). Some (Frame (record { mark = m; older = o }))) last in
    subst (λ (l : List NumberedFrame). Lies new under l) (sym are)
    (lies_push new under frames (record { mark = m; number = n }) (lies_grown old new (Frame (record { mark = m; older = older }) ∷ []) under frames grown lies) found)

below-longer : (m n : ℕ) (k : Option ℕ) → m ≤ n → Below m k → Below n k
below-longer m n None le below = below
below-longer m n (Some k) le below = omega arith

-- so do the number and the frames of the path where there are more entries
pub path_grown : (old new more : List KeptEntry) (under : Option ℕ) (frames : List NumberedFrame) → new ≡ old ++ more
    → Below (length old) under → Lies old under frames → Below (length new) under × Lies new under frames
path_grown old new more under frames grown below lies =
    let longer : length new ≡ length old + length more = ap length grown ∙ length-append old more in
    (below-longer (length old) (length new) under (omega arith) below, lies_grown old new more under frames grown lies)

pub below_grown : (old new : List KeptEntry) (k other : Option ℕ) → Extends old new → k ≡ other → Below (length old) other → Below (length new) k
below_grown old new k other grown same below =
    let longer : length new ≡ length old + length grown.0 = ap length grown.1 ∙ length-append old grown.0 in
    subst (λ (o : Option ℕ). Below (length new) o) (sym same) (below-longer (length old) (length new) other (omega arith) below)

-- so it stands for the stack that is kept
pub kept_stands : (old new : List KeptEntry) (under inherited : Option ℕ) (frames : List NumberedFrame) (marks : List InspectMark) (r : Option ℕ)
    → IsBack new → Extends old new → AllBelow (length old) marks → Below (length old) inherited → under ≡ inherited → Lies new under frames → marks_of frames ≡ marks → r ≡ newest under frames
    → stack_at (things new) r ≡ stack_of (things old) marks inherited
kept_stands old new under inherited frames marks r back grown below_marks below same lies are is =
    ap (stack_at (things new)) is
    ∙ lies_stands new back under frames lies
    ∙ ap (λ l. pushed (things new) l (stack_at (things new) under)) are
    ∙ ap (λ u. pushed (things new) marks (stack_at (things new) u)) same
    ∙ stack_of-kept old new (keeps_grown old new grown.0 grown.1) marks inherited below_marks below

pub keeps_from : (old mid new more : List KeptEntry) → mid ≡ old → new ≡ mid ++ more → Keeps old new
keeps_from old mid new more same grown = keeps_grown old new more (grown ∙ ap (λ (l : List KeptEntry). l ++ more) same)

-- the empty stack that was added for itself
pub empty_kept : (old new : List KeptEntry) (n : ℕ) → new ≡ old ++ Empty ∷ [] → n ≡ length old → stack_at (things new) (Some n) ≡ Bottom
empty_kept old new n grown number = ap the_stack (added_stands old new Empty n grown number)

-- what is kept of the last path, and the rest, stand for the stack of the marks
pub keep_stands : (old mid new : List KeptEntry) (under before inherited : Option ℕ) (frames front : List NumberedFrame) (marks : List InspectMark) (n : ℕ) (r : Option ℕ)
    → IsBack new → mid ≡ old → Extends mid new → AllBelow (length old) marks → Below (length old) inherited → under ≡ before → before ≡ inherited → Lies new under frames
    → marks_of frames ≡ marks_of front ++ take (length marks - n) (drop n marks) → marks_of front ≡ take n marks → r ≡ newest under frames
    → stack_at (things new) r ≡ stack_of (things old) marks inherited
keep_stands old mid new under before inherited frames front marks n r back same grown below_marks below left is lies more first last =
    kept_stands old new under inherited frames marks r back
    (grown.0, grown.1 ∙ ap (λ (l : List KeptEntry). l ++ grown.0) same)
    below_marks below (left ∙ is) lies
    (more ∙ ap (λ (l : List InspectMark). l ++ take (length marks - n) (drop n marks)) first
    ∙ ap (λ (l : List InspectMark). take n marks ++ l) (take_rest marks n)
    ∙ take-append-drop n marks)
    last
