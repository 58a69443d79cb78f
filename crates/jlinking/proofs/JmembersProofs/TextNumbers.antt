-- The numbers of a pool's texts.
use Rattle.std.proofs.Common.{◌≡◌, ℕ, ◌+◌, ◌≤◌, ◌<◌, Bool, true, false, cond, List, [], ◌∷◌, ◌++◌, length, get_or, take, Option, Some, None, refl, sym, ap, subst, ◌∙◌, arith, add-one, inl, inr}
use Rattle.std.specs.Prelude.{not, option_map, slice_get, option_and_then}
use Rattle.std.specs.List.{position, position_or_len}
use Rattle.std.specs.Option.{option_or}
use Rattle.std.specs.Str.{bytes_eq}
use Rattle.std.specs.Ordering.{nat_cmp}
use Rattle.std.specs.Cmp.Lexicographic.{slice_cmp}
use Rattle.std.specs.BTreeMap as tree
use Rattle.std.specs.BTreeMap.{BTreeMap}
use Rattle.std.specs.Global.{Vec}
use Rattle.std.specs.Map.{lookup}
use Rattle.std.proofs.lemmas.List.{length-take-le, take_all}
use Rattle.std.proofs.lemmas.Bool.{cases_lt, le-ltb, lt-ltb}
use Rattle.std.proofs.lemmas.List.Sums.{fails_before_first, passes_at_first, prefix_len-le-length}
use Rattle.std.proofs.lemmas.Option.{slice_get-get_or, slice_get-map, slice_get_past}
use Rattle.std.proofs.lemmas.Slice.Eq.{bytes_eq-Decides}
use Rattle.std.proofs.Math.Seq.{take-suc}
use Rattle.jparts.proofs.JpoolProofs.Pushes.{position_push}
use Rattle.jparts.specs.declared.jpool.entry.Entry.{Entry}
use Rattle.jparts.specs.declared.jpool.entry.Entry.TheVariants.{Unused}
use Rattle.jparts.specs.jpool.ConstantPools.{utf8_at}
use Rattle.jresolution.specs.jprogram.NameTable.{Notes}
use Rattle.jresolution.specs.jprogram.ClassFileParts.{or_empty, text}
use Rattle.jlinking.specs.jmembers.PoolTexts.{AreFirst, entry_text, has_text, number_of, numbers_of}
use Rattle.jparts.specs.jpool.PoolEntries.{utf8_parts}

-- ---- the first places

pub first_none : (places : BTreeMap (Vec ℕ) ℕ) → tree.IsEmpty places → AreFirst [] places
first_none places e name = ap (lookup (tree.is_at (λ k. slice_cmp nat_cmp name k.items))) e

pub first_next : (entries : List Entry) (i : ℕ) (one : Entry) (own : List ℕ) (old new : BTreeMap (Vec ℕ) ℕ) → i < length entries → one ≡ get_or entries i one → own ≡ entry_text one → AreFirst (take i entries) old → Notes own i old new → AreFirst (take (i + 1) entries) new
first_next entries i one own old new lt is named found notes q =
    let n : length (take i entries) ≡ i = length-take-le i entries (omega arith) in
    let more : take (i + 1) entries ≡ take i entries ++ one ∷ [] = rw (add-one, take-suc entries i one, ← is) refl in
    notes q ∙ ap (λ (o : Option ℕ). option_or o (cond (bytes_eq own q) (Some i) None)) (found q)
    ∙ ap (λ (t : List ℕ). option_or (position (has_text q) (take i entries)) (cond (bytes_eq t q) (Some i) None)) named
    ∙ sym (ap (position (has_text q)) more ∙ position_push (has_text q) (take i entries) one ∙ ap (λ (k : ℕ). option_or (position (has_text q) (take i entries)) (cond (has_text q one) (Some k) None)) n)

pub first_end : (entries : List Entry) (i : ℕ) (places : BTreeMap (Vec ℕ) ℕ) → length entries ≤ i → AreFirst (take i entries) places → AreFirst entries places
first_end entries i places le found name = found name ∙ ap (position (has_text name)) (take_all i entries le)

-- ---- the number of a text

abbrev pub number_or : ℕ → Option ℕ → ℕ
number_or none None = none
number_or none (Some n) = n

pub placed : (test : Entry → Bool) (entries : List Entry) → number_or (length entries) (position test entries) ≡ position_or_len test entries
placed test entries =
    let most : position_or_len test entries ≤ length entries = prefix_len-le-length (λ x. not (test x)) entries in
    elim (cases_lt (position_or_len test entries) (length entries)) [
      | inl lt ↦ rw (lt-ltb (position_or_len test entries) (length entries) lt) refl
      | inr le ↦
          let all : length entries ≡ position_or_len test entries = omega (arith, most, le) in
          rw (le-ltb (position_or_len test entries) (length entries) le) all
    ]

at_entry : (entries : List Entry) (none : ℕ) (o : Option Entry) → none ≡ number_of entries [] → number_or none (option_map (λ e. number_of entries (entry_text e)) o) ≡ number_of entries (or_empty (option_and_then utf8_parts o))
at_entry entries none None is = is
at_entry entries none (Some e) is = refl

pub number_at : (entries : List Entry) (numbers : List ℕ) (none i : ℕ) → numbers ≡ numbers_of entries entries → none ≡ number_of entries [] → number_or none (slice_get numbers i) ≡ number_of entries (text entries i)
unfolding utf8_at
number_at entries numbers none i is empty =
    ap (λ (ns : List ℕ). number_or none (slice_get ns i)) is ∙ ap (number_or none) (slice_get-map (λ e. number_of entries (entry_text e)) entries i)
    ∙ at_entry entries none (slice_get entries i) empty

-- ---- equal numbers

text_within : (entries : List Entry) (i : ℕ) → i < length entries → text entries i ≡ entry_text (get_or entries i Unused)
unfolding utf8_at
text_within entries i lt = ap (λ (o : Option Entry). or_empty (option_and_then utf8_parts o)) (slice_get-get_or entries i Unused lt)

text_past : (entries : List Entry) (i : ℕ) → length entries ≤ i → text entries i ≡ []
unfolding utf8_at
text_past entries i le = ap (λ (o : Option Entry). or_empty (option_and_then utf8_parts o)) (slice_get_past entries i le)

-- the text at a number is the one that has it
text_found : (entries : List Entry) (i : ℕ) → number_of entries (text entries i) < length entries → entry_text (get_or entries (number_of entries (text entries i)) Unused) ≡ text entries i
text_found entries i lt =
    (bytes_eq-Decides (entry_text (get_or entries (number_of entries (text entries i)) Unused)) (text entries i)).0 (passes_at_first (has_text (text entries i)) entries Unused lt)

-- a text that has none is empty
text_lost : (entries : List Entry) (i : ℕ) → length entries ≤ number_of entries (text entries i) → text entries i ≡ []
text_lost entries i le = elim (cases_lt i (length entries)) [
  | inl lt ↦
      let early : i < number_of entries (text entries i) = omega (arith, lt, le) in
      let fails : has_text (text entries i) (get_or entries i Unused) ≡ false = fails_before_first (has_text (text entries i)) entries i Unused early in
      let passes : has_text (text entries i) (get_or entries i Unused) ≡ true = (bytes_eq-Decides (entry_text (get_or entries i Unused)) (text entries i)).1 (sym (text_within entries i lt)) in
      let no : true ≡ false = sym passes ∙ fails in
      absurd cc
  | inr past ↦ text_past entries i past
]

pub same_text : (entries : List Entry) (i j : ℕ) → number_of entries (text entries i) ≡ number_of entries (text entries j) → text entries i ≡ text entries j
same_text entries i j is = elim (cases_lt (number_of entries (text entries i)) (length entries)) [
  | inl lt ↦
      let there : number_of entries (text entries j) < length entries = subst (λ (n : ℕ). n < length entries) is lt in
      sym (text_found entries i lt) ∙ ap (λ (n : ℕ). entry_text (get_or entries n Unused)) is ∙ text_found entries j there
  | inr le ↦
      let lost : length entries ≤ number_of entries (text entries j) = subst (λ (n : ℕ). length entries ≤ n) is le in
      text_lost entries i le ∙ sym (text_lost entries j lost)
]
