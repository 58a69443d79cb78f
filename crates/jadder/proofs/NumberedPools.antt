-- The numbers beside a pool: each entry's is its least index.
use Rattle.std.proofs.Common.{◌≡◌, ℕ, ◌+◌, ◌≤◌, ◌<◌, Bool, true, false, cond, List, [], ◌∷◌, ◌++◌, length, get_or, take, Option, Some, None, Ok, refl, sym, ap, ◌∙◌, arith, inl, inr, append_assoc, add-one}
use Rattle.std.specs.Prelude.{IsTrue, slice_get, is_some, ◌⊎◌}
use Rattle.std.specs.Global.{Vec}
use Rattle.std.specs.List.{position}
use Rattle.std.specs.Map.{lookup}
use Rattle.std.specs.Option.{option_or}
use Rattle.std.specs.Str.{bytes_eq}
use Rattle.std.proofs.lemmas.Bool.{cases_Bool}
use Rattle.std.proofs.lemmas.List.Quantifiers.{position-Some}
use Rattle.std.proofs.lemmas.Option.{slice_get-get_or, get_or_from_slice_get}
use Rattle.std.proofs.lemmas.Slice.Eq.{bytes_eq-Decides}
use Rattle.std.proofs.Math.Seq.{take-suc}
use Rattle.std.proofs.lemmas.List.{length-append, length-take-le, take_all}
use Rattle.indexmap.specs.IndexMap.{IndexMap, get_by, insert_entry}
use Rattle.indexmap.proofs.CallerLemmas.{insert_entry-new}
use Rattle.jground.specs.declared.jformat.error.Fault.{Fault}
use Rattle.jground.proofs.JformatProofs.ReadingSteps.{ok_is}
use Rattle.jparts.specs.declared.jpool.entry.Entry.{Entry}
use Rattle.jparts.specs.declared.jpool.entry.Entry.TheVariants.{Unused}
use Rattle.jparts.specs.declared.jpool.fault.PoolFault.{PoolFault}
use Rattle.jparts.specs.jpool.PoolEntries.{entry, is_wide, first_slot}
use Rattle.jparts.specs.jpool.ConstantPools.{IsPool}
use Rattle.jparts.specs.jpool.EntryLayouts.{has_spelling, laid}
use Rattle.jparts.proofs.JpoolProofs.EntryLaws.{entry_law, entry_some}
use Rattle.jparts.proofs.JpoolProofs.PoolExtension.{each_is, laid_slots}
use Rattle.jparts.proofs.JpoolProofs.EntrySpellings.{fits_spelling}
use Rattle.jparts.proofs.JpoolProofs.Pushes.{one_more, or_none, position_push}
use Rattle.jadder.specs.EntryInterning.{IsLeast, added, put_behind, same}
use Rattle.jadder.specs.ConstantNumbers.{AreLeast, IsNumbered, Notes, number_in}

-- ---- one more item

lookup_push : {K : Type 0} (test : K → Bool) (rows : List (K × ℕ)) (k : K) (i : ℕ) → lookup test (rows ++ (k, i) ∷ []) ≡ option_or (lookup test rows) (cond (test k) (Some i) None)
lookup_push test [] k i = refl
lookup_push test (r ∷ rows) k i = one_more (test r.0) r.1 (lookup test rows) (cond (test k) (Some i) None) (lookup test (rows ++ (k, i) ∷ [])) (lookup_push test rows k i)

-- ---- one more number

no_some : {A : Type 0} (o : Option A) → is_some o ≡ false → o ≡ None
no_some None h = refl
no_some (Some x) h = absurd cc

pub put_last : {S : Type 0} (text : Vec ℕ) (i : ℕ) (old : IndexMap (Vec ℕ) ℕ S) → is_some (get_by (λ k. bytes_eq text.items k.items) old) ≡ false → insert_entry (λ x y. bytes_eq x.items y.items) old.entries text i ≡ old.entries ++ (text, i) ∷ []
put_last text i old absent = insert_entry-new (λ x y. bytes_eq x.items y.items) old text i (no_some (get_by (λ k. bytes_eq text.items k.items) old) absent)

pub noted : {S : Type 0} (one : Entry) (i : ℕ) (text : Vec ℕ) (old new : IndexMap (Vec ℕ) ℕ S) → text.items ≡ entry.spell one → new.entries ≡ old.entries ++ (text, i) ∷ [] → Notes one i old new
noted one i text old new is added e fit =
    let test : Vec ℕ → Bool = λ k. bytes_eq (entry.spell e) k.items in
    ap (lookup test) added ∙ lookup_push test old.entries text i ∙ ap (λ (bs : List ℕ). option_or (number_in old e) (cond (bytes_eq (entry.spell e) bs) (Some i) None)) is

-- ---- where an entry stands

-- entries that are spelled alike are equal
same_is : (e x : Entry) → IsTrue (entry.fits e) → (x ≡ Unused) ⊎ IsTrue (entry.fits x) → same e x ≡ true → x ≡ e
unfolding entry
same_is e x fit (inl none) h =
    let text : entry.spell e ≡ entry.spell x = (bytes_eq-Decides (entry.spell e) (entry.spell x)).0 h in
    let some = entry_some e fit in
    let empty : length (entry.spell x) ≡ 0 = rw none refl in
    absurd (omega (arith, ap length text))
same_is e x fit (inr own) h =
    let text : entry.spell e ≡ entry.spell x = (bytes_eq-Decides (entry.spell e) (entry.spell x)).0 h in
    let one : entry.read (entry.spell x ++ []) ≡ Ok (x, []) = entry_law.again x [] own in
    let other : entry.read (entry.spell x ++ []) ≡ Ok (e, []) = ap (λ (bs : List ℕ). entry.read (bs ++ [])) (sym text) ∙ entry_law.again e [] fit in
    ap (λ (p : Entry × List ℕ). p.0) (ok_is (Fault PoolFault) (x, []) (e, []) (sym one ∙ other))

same_self : (e : Entry) → same e e ≡ true
same_self e = (bytes_eq-Decides (entry.spell e) (entry.spell e)).1 refl

pub least_is : (e : Entry) (es : List Entry) (i : ℕ) → IsPool es → IsTrue (entry.fits e) → position (same e) es ≡ Some i → IsLeast e es i
least_is e es i P fit h =
    let s = position-Some (same e) es i e h in
    let x = get_or es i e in
    let there : slice_get es i ≡ Some x = slice_get-get_or es i e s.0 in
    let is : x ≡ e = same_is e x fit (each_is es (first_slot (length es)) i x (laid_slots es P.laid) there) s.1 in
    record {
      there = there ∙ ap (λ (y : Entry). Some y) is;
      first = λ k lt at.
          let same_there : get_or es k e ≡ e = get_or_from_slice_get es k e e at in
          let hit : same e (get_or es k e) ≡ true = ap (same e) same_there ∙ same_self e in
          let no : true ≡ false = sym hit ∙ s.2 k lt in
          absurd cc;
    }

-- ---- one more entry

unlike_none : (e : Entry) → IsTrue (entry.fits e) → same e Unused ≡ false
unfolding entry
unlike_none e fit = elim (cases_Bool (same e Unused)) [
  | inl hit ↦
      let text : entry.spell e ≡ entry.spell Unused = (bytes_eq-Decides (entry.spell e) (entry.spell Unused)).0 hit in
      let some = entry_some e fit in
      let empty : length (entry.spell Unused) ≡ 0 = refl in
      absurd (omega (arith, ap length text))
  | inr miss ↦ miss
]

position_laid : (e one : Entry) (es : List Entry) (wide : Bool) → IsTrue (entry.fits e) → position (same e) (es ++ cond wide (one ∷ Unused ∷ []) (one ∷ [])) ≡ option_or (position (same e) es) (cond (same e one) (Some (length es)) None)
position_laid e one es false fit = position_push (same e) es one
position_laid e one es true fit =
    let parts : es ++ one ∷ Unused ∷ [] ≡ (es ++ one ∷ []) ++ Unused ∷ [] = simp append_assoc in
    let none : cond (same e Unused) (Some (length (es ++ one ∷ []))) None ≡ None = rw (unlike_none e fit) refl in
    ap (position (same e)) parts ∙ position_push (same e) (es ++ one ∷ []) Unused ∙ ap (λ (o : Option ℕ). option_or (position (same e) (es ++ one ∷ [])) o) none
    ∙ or_none (position (same e) (es ++ one ∷ [])) ∙ position_push (same e) es one

pub least_laid : {S : Type 0} (one : Entry) (es : List Entry) (old new : IndexMap (Vec ℕ) ℕ S) → AreLeast old es → Notes one (length es) old new → AreLeast new (es ++ laid one)
least_laid one es old new least notes e fit =
    notes e fit ∙ ap (λ (o : Option ℕ). option_or o (cond (same e one) (Some (length es)) None)) (least e fit) ∙ sym (position_laid e one es (is_wide one) fit)

-- nothing has a number where there are no entries
pub least_begin : {S : Type 0} (numbers : IndexMap (Vec ℕ) ℕ S) → numbers.entries ≡ [] → AreLeast numbers []
least_begin numbers none e fit = ap (lookup (λ k. bytes_eq (entry.spell e) k.items)) none

pub least_next : {S : Type 0} (es : List Entry) (i : ℕ) (one : Entry) (old new : IndexMap (Vec ℕ) ℕ S) → i < length es → one ≡ get_or es i one → AreLeast old (take i es) → Notes one i old new → AreLeast new (take (i + 1) es)
least_next es i one old new lt is least notes e fit =
    let n : length (take i es) ≡ i = length-take-le i es (omega arith) in
    let more : take (i + 1) es ≡ take i es ++ one ∷ [] = rw (add-one, take-suc es i one, ← is) refl in
    notes e fit ∙ ap (λ (o : Option ℕ). option_or o (cond (same e one) (Some i) None)) (least e fit)
    ∙ sym (ap (position (same e)) more ∙ position_push (same e) (take i es) one ∙ ap (λ (k : ℕ). option_or (position (same e) (take i es)) (cond (same e one) (Some k) None)) n)

pub least_end : {S : Type 0} (es : List Entry) (i : ℕ) (numbers : IndexMap (Vec ℕ) ℕ S) → length es ≤ i → AreLeast numbers (take i es) → AreLeast numbers es
least_end es i numbers le least e fit = least e fit ∙ ap (position (same e)) (take_all i es le)

-- an entry that isn't there gets no number
pub notes_none : {S : Type 0} (i : ℕ) (numbers : IndexMap (Vec ℕ) ℕ S) → Notes Unused i numbers numbers
notes_none i numbers e fit =
    let none : cond (same e Unused) (Some i) None ≡ None = rw (unlike_none e fit) refl in
    sym (ap (λ (o : Option ℕ). option_or (number_in numbers e) o) none ∙ or_none (number_in numbers e))

pub spelled_or_none : (es : List Entry) (i : ℕ) (x : Entry) → IsPool es → i < length es → x ≡ get_or es i x → (x ≡ Unused) ⊎ IsTrue (has_spelling x)
spelled_or_none es i x P lt is =
    elim (each_is es (first_slot (length es)) i x (laid_slots es P.laid) (slice_get-get_or es i x lt ∙ ap (λ (y : Entry). Some y) (sym is))) [
      | inl none ↦ inl none
      | inr own ↦ inr (fits_spelling x own)
    ]

-- ---- an entry behind the others

pub numbered_with : {S : Type 0} (e : Entry) (es : List Entry) (text : Vec ℕ) (numbers ready new : IndexMap (Vec ℕ) ℕ S) → IsNumbered numbers es → IsPool (es ++ laid e) → IsTrue (entry.fits e) → text.items ≡ entry.spell e → position (same e) es ≡ None → ready.entries ≡ numbers.entries
    → new.entries ≡ insert_entry (λ x y. bytes_eq x.items y.items) ready.entries text (length es) → IsNumbered new (es ++ laid e)
numbered_with e es text numbers ready new N P fit is absent still put =
    let test : Vec ℕ → Bool = λ k. bytes_eq text.items k.items in
    let none : number_in numbers e ≡ None = N.least e fit ∙ absent in
    let free : is_some (get_by test ready) ≡ false =
    ap (λ (rows : List (Vec ℕ × ℕ)). is_some (lookup test rows)) still ∙ ap (λ (bs : List ℕ). is_some (lookup (λ (k : Vec ℕ). bytes_eq bs k.items) numbers.entries)) is ∙ ap is_some none in
    let added : new.entries ≡ numbers.entries ++ (text, length es) ∷ [] = put ∙ put_last text (length es) ready free ∙ ap (λ (rows : List (Vec ℕ × ℕ)). rows ++ (text, length es) ∷ []) still in
    let more : length (es ++ laid e) ≡ length es + length (laid e) = length-append es (laid e) in
    record {
      pool = P;
      begun = let some = N.begun in omega arith;
      least = least_laid e es numbers new N.least (noted e (length es) text numbers new is added);
    }

pub least_with : (e : Entry) (es : List Entry) → IsPool (es ++ laid e) → IsTrue (entry.fits e) → position (same e) es ≡ None → IsLeast e (es ++ laid e) (length es)
least_with e es P fit absent =
    let hit : cond (same e e) (Some (length es)) None ≡ Some (length es) = rw (same_self e) refl in
    least_is e (es ++ laid e) (length es) P fit (position_laid e e es (is_wide e) fit ∙ ap (λ (o : Option ℕ). option_or o (cond (same e e) (Some (length es)) None)) absent ∙ hit)

pub added_there : {S : Type 0} (e : Entry) (es : List Entry) (numbers : IndexMap (Vec ℕ) ℕ S) (i : ℕ) → IsNumbered numbers es → IsTrue (entry.fits e) → Some i ≡ number_in numbers e → added e es ≡ Some (i, es)
unfolding added
added_there e es numbers i N fit is = let there : position (same e) es ≡ Some i = sym (N.least e fit) ∙ sym is in rw there refl

pub least_there : {S : Type 0} (e : Entry) (es : List Entry) (numbers : IndexMap (Vec ℕ) ℕ S) (i : ℕ) → IsNumbered numbers es → IsTrue (entry.fits e) → Some i ≡ number_in numbers e → IsLeast e es i
least_there e es numbers i N fit is = least_is e es i N.pool fit (sym (N.least e fit) ∙ sym is)

pub added_behind : {S : Type 0} (e : Entry) (es : List Entry) (numbers : IndexMap (Vec ℕ) ℕ S) → IsNumbered numbers es → IsTrue (entry.fits e) → None ≡ number_in numbers e → added e es ≡ put_behind e es
unfolding added
added_behind e es numbers N fit is = let none : position (same e) es ≡ None = sym (N.least e fit) ∙ sym is in rw none refl
