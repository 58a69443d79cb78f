-- What numbers and marks stand for, by what the table tells of them.
use Rattle.std.proofs.Common.{◌≡◌, ◌∙◌, ℕ, ◌-◌, ◌<◌, Bool, true, false, List, [], ◌∷◌, ◌++◌, map, length, reverse, Option, Some, None, option_map, refl, sym, ap, arith}
use Rattle.std.specs.Prelude.{nat_lt, slice_get, if◌then◌else◌, unwrap_or}
use Rattle.std.specs.List.{AllByRecursion}
use Rattle.std.proofs.lemmas.Bool.{lt-ltb, ltb-true}
use Rattle.std.proofs.lemmas.List.{length-reverse, map-append, reverse-append, reverse-reverse}
use Rattle.std.proofs.lemmas.List.Elements.{All-from_recursion}
use Rattle.jdomain.specs.DomainStacks.{Stack, Entry, Mark, Unmarked, Within, Bottom}
use Rattle.jsnapshots.specs.declared.entry.KeptEntry.{KeptEntry}
use Rattle.jsnapshots.specs.declared.mark.InspectMark.{InspectMark}
use Rattle.jsnapshots.specs.SnapshotEntries.{AllBelow, Below}
use Rattle.jsnapshots.specs.SnapshotMeanings.{Thing, Keeps as Stays, framed, given_at, mark_at, pushed, stack_at, the_mark, the_stack, things}
use Rattle.jsnapshots.specs.SnapshotMeanings as kept
use Rattle.jsemantics.specs.jrules.InspectingRules.{Carried, given_by, marked, on_stack, stack_of}
use Rattle.jguard.specs.NumberMeanings.{AreThose, IsThat, Keeps}
use Rattle.jforms.specs.jinspect.InspectingGuards.{entry_at, kept_at, newest_domain, privilege_at, with_domain}

-- ---- options and lists

abbrev item_or : {A : Type 0} → A → Option A → A
item_or other None = other
item_or other (Some x) = x

pub same_item : {A : Type 0} (x y : A) → Some x ≡ Some y → x ≡ y
same_item x y e = ap (item_or x) e

found_if : {A : Type 0} (b : Bool) (x y : A) → (if b then Some x else None) ≡ Some y → (b ≡ true) × (x ≡ y)
found_if true x y e = (refl, same_item x y e)
found_if false x y e = cc

where_true : {A : Type 0} (b : Bool) (x : A) → b ≡ true → (if b then Some x else None) ≡ Some x
where_true b x e = ap (λ c. if c then Some x else None) e

module _ {A : Type 0} where
  reverse_front : (x : A) (xs : List A) → reverse (x ∷ xs) ≡ reverse xs ++ x ∷ []
  reverse_front x xs = reverse-append (x ∷ []) xs

  get_last : (xs : List A) (x : A) → slice_get (xs ++ x ∷ []) (length xs) ≡ Some x
  get_last [] x = refl
  get_last (y ∷ xs) x = get_last xs x

map_reverse : {A B : Type 0} (h : A → B) (xs : List A) → map h (reverse xs) ≡ reverse (map h xs)
map_reverse h [] = refl
map_reverse {A} {B} h (x ∷ xs) =
    ap (map h) (reverse_front x xs)
    ∙ map-append h (reverse xs) (x ∷ [])
    ∙ ap (λ (ys : List B). ys ++ h x ∷ []) (map_reverse h xs)
    ∙ sym (reverse_front (h x) (map h xs))

-- the last is the first of the others' order
last_of : {A : Type 0} (xs : List A) → slice_get (reverse xs) (length (reverse xs) - 1) ≡ slice_get xs 0
last_of [] = refl
last_of {A} (x ∷ xs) =
    let n : length (reverse (x ∷ xs)) - 1 ≡ length (reverse xs) = (let a = length-reverse (x ∷ xs) in let b = length-reverse xs in omega arith) in
    ap (slice_get (reverse (x ∷ xs))) n
    ∙ ap (λ (ys : List A). slice_get ys (length (reverse xs))) (reverse_front x xs)
    ∙ get_last (reverse xs) x

last_first : {A : Type 0} (xs : List A) → slice_get xs (length xs - 1) ≡ slice_get (reverse xs) 0
last_first {A} xs = ap (λ (ys : List A). slice_get ys (length ys - 1)) (sym (reverse-reverse xs)) ∙ last_of (reverse xs)

-- ---- numbers

module _ (entries : List KeptEntry) where
  -- a number that stands for a stack was given
  pub number_stands : (n : ℕ) (s : Stack) → kept_at entries n ≡ Some s → (n < length entries) × (stack_at (things entries) (Some n) ≡ s)
  number_stands n s e =
      let found = found_if (nat_lt n (length entries)) (stack_at (things entries) (Some n)) s e in
      (ltb-true n (length entries) found.0, found.1)

  pub stands_for : (n : ℕ) → n < length entries → kept_at entries n ≡ Some (stack_at (things entries) (Some n))
  stands_for n h = where_true (nat_lt n (length entries)) (stack_at (things entries) (Some n)) (lt-ltb n (length entries) h)

  pub inherited_stands : (n : Option ℕ) (s : Option Stack) → IsThat (kept_at entries) n s → Below (length entries) n × (stack_at (things entries) n ≡ unwrap_or s Bottom)
  inherited_stands None None e = (tt, refl)
  inherited_stands None (Some s) e = cc
  inherited_stands (Some n) None e = cc
  inherited_stands (Some n) (Some s) e = number_stands n s (same_item (kept_at entries n) (Some s) e)

  pub given_stands : (n : Option ℕ) (s : Option Stack) → IsThat (kept_at entries) n s → Below (length entries) n × (given_at (things entries) n ≡ given_by s)
  given_stands None None e = (tt, refl)
  given_stands None (Some s) e = cc
  given_stands (Some n) None e = cc
  given_stands (Some n) (Some s) e =
      let found = number_stands n s (same_item (kept_at entries n) (Some s) e) in
      (found.0, ap Within found.1)

  -- ---- marks

  privilege_stands : (n : Option ℕ) (d : ℕ) (c : Carried) → option_map (with_domain d) (privilege_at entries n) ≡ Some c
      → Below (length entries) n × (with_domain d (mark_at (things entries) n) ≡ c)
  privilege_stands None d c e = (tt, same_item (with_domain d Unmarked) c e)
  privilege_stands (Some n) d c e = by_test (nat_lt n (length entries)) refl e
    where
      by_test : (b : Bool) → nat_lt n (length entries) ≡ b → option_map (with_domain d) (if b then Some (mark_at (things entries) (Some n)) else None) ≡ Some c
          → (n < length entries) × (with_domain d (mark_at (things entries) (Some n)) ≡ c)
      by_test true t e = (ltb-true n (length entries) t, same_item (with_domain d (mark_at (things entries) (Some n))) c e)
      by_test false t e = cc

  pub mark_stands : (m : InspectMark) (c : Carried) → entry_at entries m ≡ Some c → Below (length entries) m.privileged × (with_domain m.domain (mark_at (things entries) m.privileged) ≡ c)
  mark_stands m c e = privilege_stands m.privileged m.domain c e

  pub privileged_stands : (d n : ℕ) → n < length entries → entry_at entries (record { domain = d; privileged = Some n }) ≡ Some (with_domain d (mark_at (things entries) (Some n)))
  privileged_stands d n h = ap (option_map (with_domain d)) (where_true (nat_lt n (length entries)) (mark_at (things entries) (Some n)) (lt-ltb n (length entries) h))

  -- ---- the frames of a thread, the oldest first

  abbrev head_or : {A : Type 0} → A → List A → A
  head_or other [] = other
  head_or other (x ∷ xs) = x

  abbrev tail_of : {A : Type 0} → List A → List A
  tail_of [] = []
  tail_of (x ∷ xs) = xs

  below_each : (marks : List InspectMark) (cs : List Carried) → AreThose (entry_at entries) marks cs → AllByRecursion (λ m. Below (length entries) m.privileged) marks
  below_each [] cs e = tt
  below_each (m ∷ marks) [] e = cc
  below_each (m ∷ marks) (c ∷ cs) e = ((mark_stands m c (ap (head_or None) e)).0, below_each marks cs (ap (λ (l : List (Option Carried)). tail_of l) e))

  onto_older : (xs : List Carried) (c : Carried) (s : Stack) → on_stack (xs ++ c ∷ []) s ≡ on_stack xs (Entry c.domain c.mark s)
  onto_older [] c s = refl
  onto_older (x ∷ xs) c s = ap (Entry x.domain x.mark) (onto_older xs c s)

  on_each : (marks : List InspectMark) (cs : List Carried) (s : Stack) → AreThose (entry_at entries) marks cs → pushed (things entries) marks s ≡ on_stack (reverse cs) s
  on_each [] [] s e = refl
  on_each [] (c ∷ cs) s e = cc
  on_each (m ∷ marks) [] s e = cc
  on_each (m ∷ marks) (c ∷ cs) s e =
      on_each marks cs (framed (things entries) m s) (ap (λ (l : List (Option Carried)). tail_of l) e)
      ∙ ap (λ (x : Carried). on_stack (reverse cs) (Entry x.domain x.mark s)) (mark_stands m c (ap (head_or None) e)).1
      ∙ sym (onto_older (reverse cs) c s)
      ∙ ap (λ (l : List Carried). on_stack l s) (sym (reverse_front c cs))

  -- as marks stand: the newest first of what frames carry
  older_first : (marks : List InspectMark) (cs : List Carried) → AreThose (entry_at entries) (reverse marks) cs → AreThose (entry_at entries) marks (reverse cs)
  older_first marks cs e =
      ap (map (entry_at entries)) (sym (reverse-reverse marks))
      ∙ map_reverse (entry_at entries) (reverse marks)
      ∙ ap (λ (l : List (Option Carried)). reverse l) e
      ∙ sym (map_reverse Some cs)

  pub marks_below : (marks : List InspectMark) (cs : List Carried) → AreThose (entry_at entries) (reverse marks) cs → AllBelow (length entries) marks
  marks_below marks cs e = All-from_recursion (λ m. Below (length entries) m.privileged) marks (below_each marks (reverse cs) (older_first marks cs e))

  pub frames_stand : (marks : List InspectMark) (cs : List Carried) (n : Option ℕ) (s : Option Stack) → AreThose (entry_at entries) (reverse marks) cs → IsThat (kept_at entries) n s
      → kept.stack_of (things entries) marks n ≡ stack_of cs s
  frames_stand marks cs n s e i =
      on_each marks (reverse cs) (stack_at (things entries) n) (older_first marks cs e)
      ∙ ap (λ (l : List Carried). on_stack l (stack_at (things entries) n)) (reverse-reverse cs)
      ∙ ap (on_stack cs) (inherited_stands n s i).1

  -- the newest frame, marked
  newest_marked : (marks : List InspectMark) (cs : List Carried) (mark : Mark) → AreThose (entry_at entries) marks cs → with_domain (newest_domain (slice_get marks 0)) mark ≡ marked mark cs
  newest_marked [] [] mark e = refl
  newest_marked [] (c ∷ cs) mark e = cc
  newest_marked (m ∷ marks) [] mark e = cc
  newest_marked (m ∷ marks) (c ∷ cs) mark e = ap (λ (x : Carried). with_domain x.domain mark) (mark_stands m c (ap (head_or None) e)).1

  pub caller_stands : (marks : List InspectMark) (cs : List Carried) (mark : Mark) → AreThose (entry_at entries) (reverse marks) cs
      → with_domain (newest_domain (slice_get marks (length marks - 1))) mark ≡ marked mark cs
  caller_stands marks cs mark e = ap (λ (o : Option InspectMark). with_domain (newest_domain o) mark) (last_first marks) ∙ newest_marked (reverse marks) cs mark e

-- ---- further entries

module _ (old new : List KeptEntry) (stays : Stays old new) where
  pub numbers_keep : Keeps (kept_at old) (kept_at new)
  numbers_keep n s e =
      let found = number_stands old n s e in
      let there : n < length new = (let a = stays.0 in let b = found.0 in omega arith) in
      stands_for new n there ∙ ap (λ (o : Option Thing). Some (the_stack o)) (stays.1 n found.0) ∙ ap Some found.1

  privileges_keep : (p : Option ℕ) (mark : Mark) → privilege_at old p ≡ Some mark → privilege_at new p ≡ Some mark
  privileges_keep None mark e = e
  privileges_keep (Some n) mark e =
      let found = found_if (nat_lt n (length old)) (mark_at (things old) (Some n)) mark e in
      let before : n < length old = ltb-true n (length old) found.0 in
      let there : n < length new = (let a = stays.0 in omega arith) in
      where_true (nat_lt n (length new)) (mark_at (things new) (Some n)) (lt-ltb n (length new) there)
      ∙ ap (λ (o : Option Thing). Some (the_mark o)) (stays.1 n before)
      ∙ ap Some found.1

  carried_keep : (d : ℕ) (o p : Option Mark) → ((mark : Mark) → o ≡ Some mark → p ≡ Some mark) → (c : Carried) → option_map (with_domain d) o ≡ Some c → option_map (with_domain d) p ≡ Some c
  carried_keep d None p h c e = cc
  carried_keep d (Some mark) p h c e = ap (option_map (with_domain d)) (h mark refl) ∙ e

  pub marks_keep : Keeps (entry_at old) (entry_at new)
  marks_keep m c e = carried_keep m.domain (privilege_at old m.privileged) (privilege_at new m.privileged) (privileges_keep m.privileged) c e
