-- The bytes of some characters, counted one character after the other.
use Rattle.std.proofs.Common.{◌≡◌, ℕ, ◌+◌, ◌≤◌, ◌<◌, List, [], ◌∷◌, ◌++◌, length, take, drop, get_or, sym, ap, ◌∙◌, arith, length-append}
use Rattle.std.specs.Str.{encode_utf8_all}
use Rattle.std.specs.Char.{len_utf8, encode_utf8}
use Rattle.std.proofs.lemmas.List.{take_more, take-append-drop, append-nil}
use Rattle.std.proofs.lemmas.Str.{encodes-append, length-encode}

pushed : (xs : List ℕ) (c : ℕ) → length (encode_utf8_all (xs ++ c ∷ [])) ≡ length (encode_utf8_all xs) + len_utf8 c
pushed xs c =
    ap length (encodes-append xs (c ∷ [])) ∙ length-append (encode_utf8_all xs) (encode_utf8 c ++ []) ∙
    ap (λ n. length (encode_utf8_all xs) + n) (ap length (append-nil (encode_utf8 c)) ∙ length-encode c)

pub bytes_more : (cs : List ℕ) (i c bytes : ℕ) → i < length cs → c ≡ get_or cs i c → bytes ≡ length (encode_utf8_all (take i cs)) → bytes + len_utf8 c ≡ length (encode_utf8_all (take (i + 1) cs))
bytes_more cs i c bytes lt is so_far =
    ap (λ n. n + len_utf8 c) so_far ∙ sym (pushed (take i cs) c) ∙ ap (λ d. length (encode_utf8_all (take i cs ++ d ∷ []))) is ∙
    ap (λ (t : List ℕ). length (encode_utf8_all t)) (sym (take_more cs i c lt))

pub bytes_of_front : (cs : List ℕ) (n : ℕ) → length (encode_utf8_all (take n cs)) ≤ length (encode_utf8_all cs)
bytes_of_front cs n =
    let whole : length (encode_utf8_all cs) ≡ length (encode_utf8_all (take n cs)) + length (encode_utf8_all (drop n cs)) =
    ap (λ (t : List ℕ). length (encode_utf8_all t)) (sym (take-append-drop n cs)) ∙ ap length (encodes-append (take n cs) (drop n cs)) ∙ length-append (encode_utf8_all (take n cs)) (encode_utf8_all (drop n cs)) in
    omega arith

pub bytes_in_front : (cs front : List ℕ) (n i : ℕ) → front ≡ take n cs → length (encode_utf8_all (take i front)) ≤ length (encode_utf8_all cs)
bytes_in_front cs front n i is =
    let same : length (encode_utf8_all front) ≡ length (encode_utf8_all (take n cs)) = ap (λ (t : List ℕ). length (encode_utf8_all t)) is in
    let inner : length (encode_utf8_all (take i front)) ≤ length (encode_utf8_all front) = bytes_of_front front i in
    let outer : length (encode_utf8_all (take n cs)) ≤ length (encode_utf8_all cs) = bytes_of_front cs n in
    omega arith
