-- Lists of pairs, one behind the other.
use Rattle.std.proofs.Common.{◌≡◌, ◌∙◌, ℕ, zero, suc, ◌+◌, ◌-◌, ◌<◌, ◌≤◌, List, [], ◌∷◌, ◌++◌, length, take, drop, Some, refl, sym, ap, ap₂, arith, ◌⊎◌, inl, inr, subst, Option, option_map, append_assoc}
use Rattle.std.specs.Prelude.{slice_get, get_or}
use Rattle.std.proofs.lemmas.List.{length-append, length-drop, length-map, length-take-le, take-append-le, drop-append-le, drop-drop, drop-take, drop_at, take_all, take_more, map-append}
use Rattle.std.proofs.lemmas.Option.{slice_get-map, slice_get_read, get_or_from_slice_get}
use Rattle.jinterned.specs.declared.lists.Entry.{Entry}
use Rattle.jinterned.specs.declared.pairs.Pair.{Pair}
use Rattle.jinterned.specs.PairLists.{AreWithin, BeginsWith, Extends, KeepFronts, KeepsFront, list_of, lists_of}
use Rattle.jinterned.proofs.ListAppends.{stands, Old, Last}

get_front : {T : Type 0} (n i : ℕ) (xs : List T) → i < n → slice_get (take n xs) i ≡ slice_get xs i
get_front zero i xs lt = absurd (omega (arith, lt))
get_front (suc n) i [] lt = refl
get_front (suc n) zero (x ∷ xs) lt = refl
get_front (suc n) (suc i) (x ∷ xs) lt = get_front n i xs (omega (arith, lt))

pub get_behind : {T : Type 0} (f i : ℕ) (xs : List T) → slice_get (drop f xs) i ≡ slice_get xs (f + i)
get_behind zero i xs = ap (slice_get xs) (omega arith)
get_behind (suc f) i [] = refl
get_behind (suc f) i (x ∷ xs) =
    let more : suc (f + i) ≡ suc f + i = omega arith in
    get_behind f i xs ∙ ap (slice_get (x ∷ xs)) more

-- the list of an entry that is there
pub entry_at : (pairs : List Pair) (entries : List Entry) (n : ℕ) (e : Entry) → slice_get entries n ≡ Some e → get_or (lists_of pairs entries) n [] ≡ list_of pairs e
entry_at pairs entries n e is =
    get_or_from_slice_get (lists_of pairs entries) n (list_of pairs e) []
    (slice_get-map (list_of pairs) entries n ∙ ap (option_list pairs) is)
  where
    option_list : List Pair → Option Entry → Option (List Pair)
    option_list pairs o = option_map (list_of pairs) o

pub length_of : (pairs : List Pair) (e : Entry) → e.first + e.count ≤ length pairs → length (list_of pairs e) ≡ e.count
length_of pairs e within = length-take-le e.count (drop e.first pairs) (omega (arith, length-drop e.first pairs, within))

pub pair_of : (pairs : List Pair) (e : Entry) (i : ℕ) → i < e.count → slice_get (list_of pairs e) i ≡ slice_get pairs (e.first + i)
pair_of pairs e i lt = get_front e.count i (drop e.first pairs) lt ∙ get_behind e.first i pairs

module _ (pairs : List Pair) (entries : List Entry) (now : List (List Pair)) (n : ℕ) (e : Entry)
    (is : lists_of pairs entries ≡ now) (within : AreWithin (length pairs) entries) (lt : n < length now) (read : e ≡ get_or entries n e) where
  pub entry_below : n < length entries
  entry_below = omega (arith, lt, ap length is, length-map entries (list_of pairs))

  entry_there : slice_get entries n ≡ Some e
  entry_there = slice_get_read entries (length entries) n e refl entry_below read

  list_here : list_of pairs e ≡ get_or now n []
  list_here = sym (entry_at pairs entries n e entry_there) ∙ ap (λ (ls : List (List Pair)). get_or ls n []) is

  pub count_here : e.count ≡ length (get_or now n [])
  count_here = sym (length_of pairs e (within n e entry_there)) ∙ ap length list_here

  pub place_there : (i : ℕ) → i < length (get_or now n []) → e.first + i < length pairs
  place_there i below = omega (arith, below, count_here, within n e entry_there)

  pub pair_here : (i : ℕ) → i < length (get_or now n []) → slice_get pairs (e.first + i) ≡ slice_get (get_or now n []) i
  pair_here i below = sym (pair_of pairs e i (omega (arith, below, count_here))) ∙ ap (λ (l : List Pair). slice_get l i) list_here

  front_here : KeepFronts pairs entries → KeepsFront (get_or now n []) e
  front_here keep = subst (λ (l : List Pair). KeepsFront l e) list_here (keep n e entry_there)

  pub head_here : KeepFronts pairs entries → 0 < length (get_or now n []) → Some e.head ≡ slice_get (get_or now n []) 0
  head_here keep some = (front_here keep).0 some

  pub next_here : KeepFronts pairs entries → 1 < length (get_or now n []) → Some e.next ≡ slice_get (get_or now n []) 1
  next_here keep some = (front_here keep).1 some

  -- what begins the pairs from a place on begins the list from there on
  pub run_here : (i : ℕ) (run : List Pair) → i < length (get_or now n []) → BeginsWith (take (e.count - i) (drop (e.first + i) pairs)) run → BeginsWith (drop i (get_or now n [])) run
  run_here i run below begins = subst (λ (l : List Pair). BeginsWith l run) same begins
    where
      whole : i + (e.count - i) ≡ e.count
      whole = omega (arith, below, count_here)

      same : take (e.count - i) (drop (e.first + i) pairs) ≡ drop i (get_or now n [])
      same =
          ap (take (e.count - i)) (sym (drop-drop i e.first pairs)) ∙ sym (drop-take i (e.count - i) (drop e.first pairs))
          ∙ ap (λ (k : ℕ). drop i (take k (drop e.first pairs))) whole ∙ ap (drop i) list_here

list_stays : (pairs more : List Pair) (e : Entry) → e.first + e.count ≤ length pairs → list_of (pairs ++ more) e ≡ list_of pairs e
list_stays pairs more e within =
    ap (take e.count) (drop-append-le e.first pairs more (omega (arith, within)))
    ∙ take-append-le e.count (drop e.first pairs) more (omega (arith, length-drop e.first pairs, within))

lists_stay : (pairs more : List Pair) (entries : List Entry) → AreWithin (length pairs) entries → lists_of (pairs ++ more) entries ≡ lists_of pairs entries
lists_stay pairs more [] within = refl
lists_stay pairs more (e ∷ entries) within =
    ap₂ (λ (l : List Pair) (ls : List (List Pair)). l ∷ ls) (list_stays pairs more e (within 0 e refl)) (lists_stay pairs more entries (λ i x is. within (suc i) x is))

-- pairs that were put behind for nothing
pub stay_lists : (old new : List Pair) (entries : List Entry) → AreWithin (length old) entries → Extends old new → lists_of new entries ≡ lists_of old entries
stay_lists old new entries within extends = ap (λ (ps : List Pair). lists_of ps entries) extends.is ∙ lists_stay old extends.more entries within

pub stay_within : (old new : List Pair) (entries : List Entry) → AreWithin (length old) entries → Extends old new → AreWithin (length new) entries
stay_within old new entries within extends i e is =
    omega (arith, within i e is, ap length extends.is, length-append old extends.more)

pub stay_fronts : (old new : List Pair) (entries : List Entry) → AreWithin (length old) entries → KeepFronts old entries → Extends old new → KeepFronts new entries
stay_fronts old new entries within keep extends i e is = subst (λ (l : List Pair). KeepsFront l e) (sym same) (keep i e is)
  where
    same : list_of new e ≡ list_of old e
    same = ap (λ (ps : List Pair). list_of ps e) extends.is ∙ list_stays old extends.more e (within i e is)

last_list : (old list : List Pair) (e : Entry) → e.first ≡ length old → e.count ≡ length list → list_of (old ++ list) e ≡ list
last_list old list e first count =
    ap₂ (λ (f n : ℕ). take n (drop f (old ++ list))) first count
    ∙ ap (take (length list)) (drop_at old list (length old) refl) ∙ take_all (length list) list (omega arith)

pub pushed : (old new list : List Pair) (entries : List Entry) (e : Entry) → AreWithin (length old) entries → new ≡ old ++ list → e.first ≡ length old → e.count ≡ length list
    → lists_of new (entries ++ e ∷ []) ≡ lists_of old entries ++ list ∷ []
pushed old new list entries e within is first count =
    ap (λ (ps : List Pair). lists_of ps (entries ++ e ∷ [])) is
    ∙ map-append (list_of (old ++ list)) entries (e ∷ [])
    ∙ ap₂ (λ (ls : List (List Pair)) (l : List Pair). ls ++ l ∷ []) (lists_stay old list entries within)
    (last_list old list e first count)

pub pushed_within : (old new list : List Pair) (entries : List Entry) (e : Entry) → AreWithin (length old) entries → new ≡ old ++ list → e.first ≡ length old → e.count ≡ length list
    → AreWithin (length new) (entries ++ e ∷ [])
pushed_within old new list entries e within is first count i x at = by_case (stands entries e i x at)
  where
    long : length new ≡ length old + length list
    long = ap length is ∙ length-append old list

    by_case : Old entries i x ⊎ Last entries e i x → x.first + x.count ≤ length new
    by_case (inl o) = omega (arith, within i x o.old, long)
    by_case (inr l) = subst (λ (y : Entry). y.first + y.count ≤ length new) l.is (omega (arith, first, count, long))

pub pushed_fronts : (old new list : List Pair) (entries : List Entry) (e : Entry) → AreWithin (length old) entries → KeepFronts old entries → new ≡ old ++ list → e.first ≡ length old
    → e.count ≡ length list → KeepsFront list e → KeepFronts new (entries ++ e ∷ [])
pushed_fronts old new list entries e within keep is first count head i x at = by_case (stands entries e i x at)
  where
    here : list_of new e ≡ list
    here = ap (λ (ps : List Pair). list_of ps e) is ∙ last_list old list e first count

    by_case : Old entries i x ⊎ Last entries e i x → KeepsFront (list_of new x) x
    by_case (inl o) = stay_fronts old new entries within keep (record { more = list; is = is }) i x o.old
    by_case (inr l) = subst (λ (y : Entry). KeepsFront (list_of new y) y) l.is (subst (λ (ps : List Pair). KeepsFront ps e) (sym here) head)

-- what holds of each entry holds of those that are kept
cut_each : (P : Entry → Type 0) (count : ℕ) (entries : List Entry) → ((i : ℕ) (e : Entry) → slice_get entries i ≡ Some e → P e)
    → (i : ℕ) (e : Entry) → slice_get (take count entries) i ≡ Some e → P e
cut_each P zero entries each i e is = cc
cut_each P (suc count) [] each i e is = cc
cut_each P (suc count) (x ∷ entries) each zero e is = each 0 e is
cut_each P (suc count) (x ∷ entries) each (suc i) e is = cut_each P count entries (λ j y at. each (suc j) y at) i e is

pub cut_within : (count n : ℕ) (entries : List Entry) → AreWithin n entries → AreWithin n (take count entries)
cut_within count n entries within = cut_each (λ (e : Entry). e.first + e.count ≤ n) count entries within

pub cut_fronts : (count : ℕ) (pairs : List Pair) (entries : List Entry) → KeepFronts pairs entries → KeepFronts pairs (take count entries)
cut_fronts count pairs entries keep = cut_each (λ (e : Entry). KeepsFront (list_of pairs e) e) count entries keep

pub cut_lists : (count : ℕ) (pairs : List Pair) (entries : List Entry) → lists_of pairs (take count entries) ≡ take count (lists_of pairs entries)
cut_lists zero pairs entries = refl
cut_lists (suc count) pairs [] = refl
cut_lists (suc count) pairs (e ∷ entries) = ap (λ (ls : List (List Pair)). list_of pairs e ∷ ls) (cut_lists count pairs entries)

-- ---- pairs that are put behind one by one

pub taken_next : (old pairs new list : List Pair) (i : ℕ) (d : Pair) → pairs ≡ old ++ take i list → i < length list → new ≡ pairs ++ get_or list i d ∷ []
    → new ≡ old ++ take (i + 1) list
taken_next old pairs new list i d so lt is =
    is ∙ ap (λ (ps : List Pair). ps ++ get_or list i d ∷ []) so ∙ append_assoc old (take i list) (get_or list i d ∷ [])
    ∙ ap (λ (ps : List Pair). old ++ ps) (sym (take_more list i d lt))

pub taken : (old pairs list : List Pair) (i : ℕ) → pairs ≡ old ++ take i list → Extends old pairs
taken old pairs list i so = record { more = take i list; is = so }

pub taken_all : (old pairs list : List Pair) (i : ℕ) → pairs ≡ old ++ take i list → length list ≤ i → pairs ≡ old ++ list
taken_all old pairs list i so end = so ∙ ap (λ (ps : List Pair). old ++ ps) (take_all i list end)
