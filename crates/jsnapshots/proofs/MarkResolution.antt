-- What marks and frames of a table settle.
use Rattle.std.proofs.Common.{◌≡◌, ℕ, zero, suc, ◌-◌, ◌<◌, ◌≤◌, Bool, true, false, List, [], ◌∷◌, ◌++◌, Option, Some, None, length, get_or, take, refl, sym, ap, subst, ◌∙◌, arith, slice_get, unwrap_or, cond, length-append}
use Rattle.std.proofs.Math.Seq.{take-suc}
use native.Mathlib.Decide.{dec_lt}
use Rattle.jperm.specs.declared.permission.Permission.{Permission}
use Rattle.jdomain.specs.declared.verdict.Verdict.{Verdict}
use Rattle.jdomain.specs.declared.verdict.Verdict.TheVariants.{Granted, Denied}
use Rattle.jdomain.specs.DomainStacks.{Stack, Bottom, Entry, Mark, Unmarked, Privileged, some_implies, walk, walk_mark, walk_given, first_denial, past_limits}
use Rattle.jsnapshots.specs.declared.mark.InspectMark.{InspectMark}
use Rattle.jsnapshots.specs.declared.entry.KeptFrame.{KeptFrame}
use Rattle.jsnapshots.specs.declared.entry.KeptEntry.{KeptEntry}
use Rattle.jsnapshots.specs.declared.entry.KeptEntry.TheVariants.{Empty, Frame, Privilege}
use Rattle.jsnapshots.specs.SnapshotEntries.{Below, EntryBelow, IsBack}
use Rattle.jsnapshots.specs.SnapshotMeanings.{Thing, the_stack, the_mark, stack_at, mark_at, given_at, framed, pushed, things}
use Rattle.jsnapshots.specs.WalkEnds.{settled, settled_mark, settled_frame, stack_from, given_of, Knows, known}
use Rattle.jsnapshots.proofs.Meanings.{things-at}

get_before : {A : Type 0} (a b : List A) (j : ℕ) → j < length a → slice_get (a ++ b) j ≡ slice_get a j
get_before [] b j h = absurd (omega arith)
get_before (x ∷ a) b zero h = refl
get_before (x ∷ a) b (suc j) h = get_before a b j (omega arith)

get_there : {A : Type 0} (a : List A) (x : A) → slice_get (a ++ x ∷ []) (length a) ≡ Some x
get_there [] x = refl
get_there (y ∷ a) x = get_there a x

pub below_more : (m n : ℕ) (k : Option ℕ) → m ≤ n → Below m k → Below n k
below_more m n None h below = below
below_more m n (Some k) h below = omega arith

-- ---- entries

get_past : (a : List KeptEntry) (x y : KeptEntry) (k : ℕ) → length a ≤ k → slice_get (a ++ x ∷ []) k ≡ Some y → (k ≡ length a) × (x ≡ y)
get_past [] x y zero h e = (refl, cc)
get_past [] x y (suc k) h e = absurd cc
get_past (z ∷ a) x y zero h e = absurd (omega arith)
get_past (z ∷ a) x y (suc k) h e = let rest = get_past a x y k (omega arith) e in (ap suc rest.0, rest.1)

-- one entry more that speaks of earlier ones
pub back_more : (old new : List KeptEntry) (e : KeptEntry) → IsBack old → EntryBelow (length old) e → new ≡ old ++ e ∷ [] → IsBack new
back_more old new e back below is = subst (λ (l : List KeptEntry). IsBack l) (sym is) each
  where
    each : IsBack (old ++ e ∷ [])
    each k x found = elim (dec_lt k (length old)) as (λ w. EntryBelow k x) [
      | yes before ↦ back k x (sym (get_before old (e ∷ []) k before) ∙ found)
      | no past ↦ (let there = get_past old e x k (omega arith) found in subst (λ (n : ℕ). EntryBelow n x) (sym there.0) (subst (λ (y : KeptEntry). EntryBelow (length old) y) there.1 below))
    ]

-- the given number of a privilege is an earlier one
pub privilege_back : (entries : List KeptEntry) (k : ℕ) (x : KeptEntry) (given : Option ℕ) (limits : Option (List Permission))
    → IsBack entries → slice_get entries k ≡ Some x → x ≡ Privilege given limits → Below k given
privilege_back entries k x given limits back found is = back k (Privilege given limits) (found ∙ ap Some is)

-- a frame speaks of earlier numbers
pub frame_back : (entries : List KeptEntry) (k : ℕ) (x : KeptEntry) (f : KeptFrame)
    → IsBack entries → slice_get entries k ≡ Some x → x ≡ Frame f → Below k f.mark.privileged × Below k f.older
frame_back entries k x f back found is = back k (Frame f) (found ∙ ap Some is)

-- and its number stands for its stack
pub frame_stands : (entries : List KeptEntry) (k : ℕ) (x : KeptEntry) (f : KeptFrame)
    → IsBack entries → slice_get entries k ≡ Some x → x ≡ Frame f → stack_at (things entries) (Some k) ≡ stack_from (things entries) (Some f)
frame_stands entries k x f back found is = ap the_stack (things-at entries back k (Frame f) (found ∙ ap Some is))

pub empty_stands : (entries : List KeptEntry) (k : ℕ) (x : KeptEntry)
    → IsBack entries → slice_get entries k ≡ Some x → x ≡ Empty → stack_at (things entries) (Some k) ≡ Bottom
empty_stands entries k x back found is = ap the_stack (things-at entries back k Empty (found ∙ ap Some is))

pub privilege_stands : (entries : List KeptEntry) (k : ℕ) (x : KeptEntry) (given : Option ℕ) (limits : Option (List Permission))
    → IsBack entries → slice_get entries k ≡ Some x → x ≡ Privilege given limits → stack_at (things entries) (Some k) ≡ Bottom
privilege_stands entries k x given limits back found is = ap the_stack (things-at entries back k (Privilege given limits) (found ∙ ap Some is))

-- ---- what is known

pub known_stack : (has : ℕ → Permission → Bool) (p : Permission) (done : List Thing) (decided : List Verdict) → Knows has p done decided
    → (k : Option ℕ) → Below (length decided) k → known decided k ≡ walk has p (stack_at done k)
known_stack has p done decided knows None below = refl
known_stack has p done decided knows (Some k) below = ap (λ o. unwrap_or o Granted) (knows k below)

pub known_given : (has : ℕ → Permission → Bool) (p : Permission) (done : List Thing) (decided : List Verdict) → Knows has p done decided
    → (given : Option ℕ) → Below (length decided) given → known decided given ≡ walk_given has p (given_at done given)
known_given has p done decided knows None below = refl
known_given has p done decided knows (Some k) below = ap (λ o. unwrap_or o Granted) (knows k below)

-- one verdict more
pub knows_push : (has : ℕ → Permission → Bool) (p : Permission) (done : List Thing) (decided : List Verdict) (v : Verdict)
    → Knows has p done decided → v ≡ walk has p (stack_at done (Some (length decided))) → Knows has p done (decided ++ v ∷ [])
knows_push has p done decided v knows next k h = elim (dec_lt k (length decided)) as (λ w. slice_get (decided ++ v ∷ []) k ≡ Some (walk has p (stack_at done (Some k)))) [
  | yes below ↦ get_before decided (v ∷ []) k below ∙ knows k below
  | no above ↦ (let n = length-append decided (v ∷ []) in let e : k ≡ length decided = omega arith in ap (slice_get (decided ++ v ∷ [])) e ∙ get_there decided v ∙ ap Some (next ∙ ap (λ i. walk has p (stack_at done (Some i))) (sym e)))
]

-- ---- what settles

-- a privilege settles what its mark does
pub privilege_settles : (has : ℕ → Permission → Bool) (p : Permission) (entries : List KeptEntry) (v : Verdict) (k : ℕ) (x : KeptEntry) (given : Option ℕ) (limits : Option (List Permission))
    → IsBack entries → slice_get entries k ≡ Some x → x ≡ Privilege given limits → v ≡ walk_given has p (given_at (things entries) (given_of (slice_get entries k)))
    → settled v limits p ≡ settled_mark has p (mark_at (things entries) (Some k))
privilege_settles has p entries v k x given limits back found is verdict =
    let here : slice_get entries k ≡ Some (Privilege given limits) = found ∙ ap Some is in
    ap (λ v. settled v limits p) (verdict ∙ ap (λ e. walk_given has p (given_at (things entries) (given_of e))) here)
    ∙ sym (ap (λ o. settled_mark has p (the_mark o)) (things-at entries back k (Privilege given limits) here))

-- and other entries settle nothing
pub empty_settles : (has : ℕ → Permission → Bool) (p : Permission) (entries : List KeptEntry) (k : ℕ) (x : KeptEntry)
    → IsBack entries → slice_get entries k ≡ Some x → x ≡ Empty → None ≡ settled_mark has p (mark_at (things entries) (Some k))
empty_settles has p entries k x back found is = sym (ap (λ o. settled_mark has p (the_mark o)) (things-at entries back k Empty (found ∙ ap Some is)))

pub frame_settles : (has : ℕ → Permission → Bool) (p : Permission) (entries : List KeptEntry) (k : ℕ) (x : KeptEntry) (f : KeptFrame)
    → IsBack entries → slice_get entries k ≡ Some x → x ≡ Frame f → None ≡ settled_mark has p (mark_at (things entries) (Some k))
frame_settles has p entries k x f back found is = sym (ap (λ o. settled_mark has p (the_mark o)) (things-at entries back k (Frame f) (found ∙ ap Some is)))

-- ---- frames

-- what a frame settles is the walk's verdict, and else the walk goes on
settled-first : (v w : Verdict) (limits : Option (List Permission)) (p : Permission) → first_denial v (past_limits limits p w) ≡ unwrap_or (settled v limits p) w
settled-first (Denied e) w limits p = refl
settled-first Granted w None p = refl
settled-first Granted w (Some limits) p = elim (some_implies limits p) as (λ b. cond b Granted w ≡ unwrap_or (cond b (Some Granted) None) w) [ true ↦ refl | false ↦ refl ]

settled-mark : (has : ℕ → Permission → Bool) (p : Permission) (mark : Mark) (w : Verdict) → walk_mark has p mark w ≡ unwrap_or (settled_mark has p mark) w
settled-mark has p Unmarked w = refl
settled-mark has p (Privileged given limits) w = settled-first (walk_given has p given) w limits p

walk-entry : (has : ℕ → Permission → Bool) (p : Permission) (d : ℕ) (mark : Mark) (s : Stack) → walk has p (Entry d mark s) ≡ unwrap_or (settled_frame has p d mark) (walk has p s)
walk-entry has p d mark s =
    ap (λ v. cond (has d p) v (Denied d)) (settled-mark has p mark (walk has p s))
    ∙ (elim (has d p) as (λ b. cond b (unwrap_or (settled_mark has p mark) (walk has p s)) (Denied d) ≡ unwrap_or (cond b (settled_mark has p mark) (Some (Denied d))) (walk has p s)) [ true ↦ refl | false ↦ refl ])

-- a frame that settles gives the verdict
pub settles_some : (has : ℕ → Permission → Bool) (p : Permission) (done : List Thing) (m : InspectMark) (older s : Stack) (r : Option Verdict) (v : Verdict)
    → s ≡ framed done m older → r ≡ settled_frame has p m.domain (mark_at done m.privileged) → r ≡ Some v → v ≡ walk has p s
settles_some has p done m older s r v stands end is =
    sym (ap (walk has p) stands ∙ walk-entry has p m.domain (mark_at done m.privileged) older ∙ ap (λ o. unwrap_or o (walk has p older)) (sym end ∙ is))

-- over one that does not, the walk goes on
pub settles_none : (has : ℕ → Permission → Bool) (p : Permission) (done : List Thing) (m : InspectMark) (older s : Stack) (r : Option Verdict)
    → s ≡ framed done m older → r ≡ settled_frame has p m.domain (mark_at done m.privileged) → r ≡ None → walk has p older ≡ walk has p s
settles_none has p done m older s r stands end is =
    sym (ap (walk has p) stands ∙ walk-entry has p m.domain (mark_at done m.privileged) older ∙ ap (λ o. unwrap_or o (walk has p older)) (sym end ∙ is))

-- the domain of such a frame has the permission
pub granted_none : (has : ℕ → Permission → Bool) (p : Permission) (done : List Thing) (m : InspectMark) (r : Option Verdict)
    → r ≡ settled_frame has p m.domain (mark_at done m.privileged) → r ≡ None → has m.domain p ≡ true
granted_none has p done m r end is = passes (sym end ∙ is)
  where
    passes : settled_frame has p m.domain (mark_at done m.privileged) ≡ None → has m.domain p ≡ true
    passes = elim (has m.domain p) as (λ b. cond b (settled_mark has p (mark_at done m.privileged)) (Some (Denied m.domain)) ≡ None → b ≡ true) [
      | true ↦ λ e. refl
      | false ↦ λ e. cc
    ]

pushed-append : (done : List Thing) (a b : List InspectMark) (s : Stack) → pushed done (a ++ b) s ≡ pushed done b (pushed done a s)
pushed-append done [] b s = refl
pushed-append done (m ∷ a) b s = pushed-append done a b (framed done m s)

-- the newest of some marks is the newest frame
pub pushed_last : (done : List Thing) (marks : List InspectMark) (s : Stack) (n : ℕ) (d : InspectMark) → 0 < n → n ≤ length marks
    → pushed done (take n marks) s ≡ framed done (get_or marks (n - 1) d) (pushed done (take (n - 1) marks) s)
pushed_last done marks s n d filled within =
    let e : n ≡ suc (n - 1) = omega arith in
    ap (λ k. pushed done (take k marks) s) e
    ∙ ap (λ l. pushed done l s) (take-suc marks (n - 1) d (omega arith))
    ∙ pushed-append done (take (n - 1) marks) (get_or marks (n - 1) d ∷ []) s
