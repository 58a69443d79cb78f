-- A line that goes out in pieces.
use Rattle.std.proofs.Common.{◌≡◌, ℕ, ◌+◌, ◌≤◌, ◌<◌, List, [], ◌∷◌, ◌++◌, length, take, drop, set, get_or, Option, refl, sym, ap, ◌∙◌, arith, append_assoc, add-one}
use Rattle.std.proofs.lemmas.List.{take-append-le, drop-append-le, take-append-drop, take_all, length-drop, length-append, take_more_set}
use Rattle.std.proofs.Math.ListN.{length-set, drop_of_length-le}
use Rattle.std.proofs.Math.Seq.{drop-cons}
use Rattle.jground.specs.jbase.FaultCauses.{appended}
use Rattle.jground.proofs.JbaseProofs.Cuts.{appended_next, then_whole}
use Rattle.joutput.specs.jio.TextOutput.{LineState, whole, IsUnderWay}
use Rattle.joutput.specs.jio.PartialOutput.{IsCutAt}

whole_within : (n : ℕ) → whole n ≤ n
whole_within n = omega arith

-- What went out, and so many bytes of what is pending and of what comes behind it.
pub cut_here : (start old new : Option (List ℕ)) (state : LineState) (text more : List ℕ) (n : ℕ) → IsUnderWay start old state text → new ≡ appended old (take n (state.pending ++ more)) → n < length state.pending + length more → IsCutAt start new (text ++ more) (state.written + n)
cut_here start old new state text more n u h lt =
    let w : state.written ≡ whole (length text) = ap (λ (s : LineState). s.written) u.line in
    let p : state.pending ≡ drop (whole (length text)) text = ap (λ (s : LineState). s.pending) u.line in
    let le : whole (length text) ≤ length text = whole_within (length text) in
    let len : length state.pending + whole (length text) ≡ length text = rw p (omega (arith, length-drop (whole (length text)) text)) in
    record {
      within = omega (arith, length-append text more);
      out = rw w (appended_next start old new (whole (length text)) n (text ++ more) (state.pending ++ more) (ap (λ (x : List ℕ). x ++ more) p ∙ sym (drop-append-le (whole (length text)) text more le)) (u.out ∙ ap (appended start) (sym (take-append-le (whole (length text)) text more le))) h);
    }

-- What is a cut of some bytes is one of more bytes.
pub cut_longer : (start now : Option (List ℕ)) (text more : List ℕ) (n : ℕ) → IsCutAt start now text n → IsCutAt start now (text ++ more) n
cut_longer start now text more n h = record {
  within = omega (arith, length-append text more, h.within);
  out = h.out ∙ ap (appended start) (sym (take-append-le n text more (omega (arith, h.within))));
}

-- All that was pending went out.
pub all_out : (start old new : Option (List ℕ)) (state : LineState) (text : List ℕ) → IsUnderWay start old state text → new ≡ appended old state.pending → new ≡ appended start text
all_out start old new state text u h =
    let p : state.pending ≡ drop (whole (length text)) text = ap (λ (s : LineState). s.pending) u.line in
    then_whole start old new (take (whole (length text)) text) (drop (whole (length text)) text) u.out (h ∙ ap (appended old) p) ∙ ap (appended start) (take-append-drop (whole (length text)) text)

-- The pending bytes and one more made a piece, which went out.
pub piece_out : (start old new : Option (List ℕ)) (state next : LineState) (text : List ℕ) (byte : ℕ) → IsUnderWay start old state text → length state.pending ≡ 255 → new ≡ appended old (state.pending ++ byte ∷ []) → next ≡ record { written = state.written + 256; pending = [] } → IsUnderWay start new next (text ++ byte ∷ [])
piece_out start old new state next text byte u full h e =
    let w : state.written ≡ whole (length text) = ap (λ (s : LineState). s.written) u.line in
    let p : state.pending ≡ drop (whole (length text)) text = ap (λ (s : LineState). s.pending) u.line in
    let le : whole (length text) ≤ length text = whole_within (length text) in
    let len : length state.pending + whole (length text) ≡ length text = rw p (omega (arith, length-drop (whole (length text)) text)) in
    let longer : length (text ++ byte ∷ []) ≡ length text + 1 = length-append text (byte ∷ []) in
    let all : whole (length (text ++ byte ∷ [])) ≡ length (text ++ byte ∷ []) = rw longer (omega (arith, len, full)) in
    let here : state.written + 256 ≡ length (text ++ byte ∷ []) = omega (arith, len, full, longer, w) in
    let none : drop (length (text ++ byte ∷ [])) (text ++ byte ∷ []) ≡ [] = drop_of_length-le (text ++ byte ∷ []) (omega arith) in
    let whole_text : take (whole (length text)) text ++ (state.pending ++ byte ∷ []) ≡ text ++ byte ∷ [] = sym (append_assoc (take (whole (length text)) text) state.pending (byte ∷ [])) ∙ ap (λ (x : List ℕ). (take (whole (length text)) text ++ x) ++ byte ∷ []) p ∙ ap (λ (x : List ℕ). x ++ byte ∷ []) (take-append-drop (whole (length text)) text) in
    record {
      line = e ∙ rw (all, none, here) refl;
      out = then_whole start old new (take (whole (length text)) text) (state.pending ++ byte ∷ []) u.out h ∙ ap (appended start) (whole_text ∙ sym (take_all (whole (length (text ++ byte ∷ []))) (text ++ byte ∷ []) (omega (arith, all))));
    }

-- The whole buffer, with its last byte.
pub buffer_full : (buffer : List ℕ) (filled byte : ℕ) → length buffer ≡ filled + 1 → set buffer filled byte ≡ take filled buffer ++ byte ∷ []
buffer_full buffer filled byte e = sym (take_all (filled + 1) (set buffer filled byte) (omega (arith, length-set {A = ℕ}))) ∙ take_more_set buffer filled byte (omega arith)

-- What is known of the text with the byte at place i is known of the whole text.
pub around : (text bytes more : List ℕ) (i : ℕ) → i < length bytes → text ++ take i bytes ++ get_or bytes i 0 ∷ [] ++ (drop (i + 1) bytes ++ more) ≡ text ++ bytes ++ more
around text bytes more i lt =
    let one : get_or bytes i 0 ∷ drop (i + 1) bytes ≡ drop i bytes = rw add-one (sym (drop-cons bytes i 0 lt)) in
    let split : take i bytes ++ (get_or bytes i 0 ∷ drop (i + 1) bytes) ≡ bytes = ap (λ (x : List ℕ). take i bytes ++ x) one ∙ take-append-drop i bytes in
    append_assoc (text ++ take i bytes) (get_or bytes i 0 ∷ []) (drop (i + 1) bytes ++ more) ∙ append_assoc text (take i bytes) (get_or bytes i 0 ∷ (drop (i + 1) bytes ++ more)) ∙ ap (λ (x : List ℕ). text ++ x) (sym (append_assoc (take i bytes) (get_or bytes i 0 ∷ drop (i + 1) bytes) more) ∙ ap (λ (x : List ℕ). x ++ more) split) ∙ sym (append_assoc text bytes more)
