-- The parts of a check's line.
use Rattle.std.proofs.Common.{◌≡◌, ℕ, ◌+◌, ◌*◌, ◌^◌, ◌<◌, List, [], ◌∷◌, ◌++◌, length, take, set, refl, sym, ap, ◌∙◌, append_assoc, arith}
use Rattle.std.specs.Prelude.{codes, decimal}
use Rattle.std.proofs.Math.ListN.{length-set}
use Rattle.std.proofs.lemmas.List.{append-nil, take_more_set, take_all}
use Rattle.joutput.specs.jio.TextOutput.{written, written_unit}
use Rattle.joutput.specs.jio.LineParts.{part_of, part_room, line_of, room_of}
use Rattle.joutput.specs.declared.jio.parts.Part.{Part}
use Rattle.joutput.specs.jtrace.TraceLines.{told, checked, texts, room}
use Rattle.joutput.specs.ProofNames.{behind_denial, line_feed}

written_both : (a b : List ℕ) → written (a ++ b) ≡ written a ++ written b
unfolding written
written_both [] b = refl
written_both (unit ∷ units) b = ap (λ (x : List ℕ). written_unit unit ++ x) (written_both units b) ∙ sym (append_assoc (written_unit unit) (written units) (written b))

-- ---- parts behind parts

texts_both : (a b : List Part) → texts (a ++ b) ≡ texts a ++ texts b
texts_both [] b = refl
texts_both (x ∷ xs) b = ap (λ (y : List ℕ). part_of x ++ y) (texts_both xs b) ∙ sym (append_assoc (part_of x) (texts xs) (texts b))

room_both : (a b : List Part) → room (a ++ b) ≡ room a + room b
room_both [] b = omega arith
room_both (x ∷ xs) b = let more = room_both xs b in omega arith

-- a line is its parts and a line feed
pub line_is : (parts : List Part) → line_of parts ≡ texts parts ++ 10 ∷ []
line_is [] = refl
line_is (x ∷ xs) = ap (λ (y : List ℕ). part_of x ++ y) (line_is xs) ∙ sym (append_assoc (part_of x) (texts xs) (10 ∷ []))

pub room_is : (parts : List Part) → room_of parts ≡ room parts + 1
room_is [] = refl
room_is (x ∷ xs) = let more = room_is xs in omega arith

-- the part that is set at a place stands behind those before it
pub texts_set : (parts : List Part) (i : ℕ) (x : Part) → i < length parts → texts (take (i + 1) (set parts i x)) ≡ texts (take i parts) ++ part_of x
texts_set parts i x lt = ap texts (take_more_set parts i x lt) ∙ texts_both (take i parts) (x ∷ []) ∙ ap (λ (y : List ℕ). texts (take i parts) ++ y) (append-nil (part_of x))

pub room_set : (parts : List Part) (i : ℕ) (x : Part) → i < length parts → room (take (i + 1) (set parts i x)) ≡ room (take i parts) + part_room x
room_set parts i x lt = let both = ap room (take_more_set parts i x lt) ∙ room_both (take i parts) (x ∷ []) in omega arith

-- ---- a check's line

checked_more : (word : List ℕ) (thread : ℕ) (a b : List ℕ) → checked word thread a ++ written b ≡ checked word thread (a ++ b)
checked_more word thread a b =
    append_assoc word (decimal thread ++ (codes " " ++ written a)) (written b)
    ∙ ap (λ (x : List ℕ). word ++ x) (append_assoc (decimal thread) (codes " " ++ written a) (written b))
    ∙ ap (λ (x : List ℕ). word ++ (decimal thread ++ (codes " " ++ x))) (sym (written_both a b))

-- one more part of the permission
pub next_texts : (parts : List Part) (i n : ℕ) (x : Part) (word : List ℕ) (thread : ℕ) (before piece after : List ℕ) → n ≡ i + 1 → i < length parts → texts (take i parts) ≡ checked word thread before → part_of x ≡ written piece → after ≡ before ++ piece → texts (take n (set parts i x)) ≡ checked word thread after
next_texts parts i n x word thread before piece after e lt so_far is whole =
    rw (e, texts_set parts i x lt, so_far, is, whole) (checked_more word thread before piece)

pub next_room : (parts : List Part) (i n : ℕ) (x : Part) (base before more after : ℕ) → n ≡ i + 1 → i < length parts → room (take i parts) ≡ base + 6 * before → part_room x ≡ 6 * more → after ≡ before + more → room (take n (set parts i x)) ≡ base + 6 * after
next_room parts i n x base before more after e lt so_far is whole =
    let one = room_set parts i x lt in
    rw e (omega arith)

-- with what stands behind it is the line
pub told_is : (word : List ℕ) (thread : ℕ) (text behind : List ℕ) → checked word thread text ++ behind ≡ told word thread text behind
told_is word thread text behind =
    append_assoc word (decimal thread ++ (codes " " ++ written text)) behind
    ∙ ap (λ (x : List ℕ). word ++ x) (append_assoc (decimal thread) (codes " " ++ written text) behind)

-- a line whose last two of sixteen parts are set
two_set : (parts : List Part) (a b : Part) → length parts ≡ 16 → set (set parts 14 a) 15 b ≡ take 15 (set parts 14 a) ++ b ∷ []
two_set parts a b n =
    let size : length (set (set parts 14 a) 15 b) ≡ 16 = length-set (set parts 14 a) 15 b ∙ length-set parts 14 a ∙ n in
    sym (take_all 16 (set (set parts 14 a) 15 b) (omega arith)) ∙ take_more_set (set parts 14 a) 15 b (omega (arith, length-set parts 14 a))

pub texts_two : (parts : List Part) (a b : Part) → length parts ≡ 16 → texts (set (set parts 14 a) 15 b) ≡ texts (take 14 parts) ++ (part_of a ++ part_of b)
texts_two parts a b n =
    ap texts (two_set parts a b n) ∙ texts_both (take 15 (set parts 14 a)) (b ∷ [])
    ∙ rw (append-nil (part_of b), texts_set parts 14 a (omega arith)) (append_assoc (texts (take 14 parts)) (part_of a) (part_of b))

pub room_two : (parts : List Part) (a b : Part) → length parts ≡ 16 → room (set (set parts 14 a) 15 b) ≡ room (take 14 parts) + part_room a + part_room b
room_two parts a b n =
    let both = ap room (two_set parts a b n) ∙ room_both (take 15 (set parts 14 a)) (b ∷ []) in
    let one = room_set parts 14 a (omega arith) in
    omega arith

-- ---- the lines

pub grant_line : (parts : List Part) (word : List ℕ) (thread : ℕ) (text : List ℕ) → texts parts ≡ checked word thread text → line_of parts ≡ told word thread text line_feed
grant_line parts word thread text e = line_is parts ∙ ap (λ (x : List ℕ). x ++ line_feed) e ∙ told_is word thread text line_feed

pub deny_line : (parts : List Part) (a b : Part) (word : List ℕ) (thread : ℕ) (text : List ℕ) (domain : ℕ) → length parts ≡ 16 → texts (take 14 parts) ≡ checked word thread text → part_of a ≡ codes " domain " → part_of b ≡ decimal domain → line_of (set (set parts 14 a) 15 b) ≡ told word thread text (behind_denial domain)
deny_line parts a b word thread text domain n e at_a at_b =
    line_is (set (set parts 14 a) 15 b)
    ∙ ap (λ (x : List ℕ). x ++ line_feed) (texts_two parts a b n ∙ rw (e, at_a, at_b) refl)
    ∙ append_assoc (checked word thread text) (codes " domain " ++ decimal domain) line_feed
    ∙ told_is word thread text (behind_denial domain)

pub deny_fits : (parts : List Part) (a b : Part) (base units : ℕ) → length parts ≡ 16 → room (take 14 parts) ≡ base + 6 * units → part_room a ≡ 8 → part_room b ≡ 20 → base < 100 → units < 2 ^ 32 → room_of (set (set parts 14 a) 15 b) < 2 ^ 64
deny_fits parts a b base units n r at_a at_b small few =
    let whole = room_is (set (set parts 14 a) 15 b) in
    let two = room_two parts a b n in
    omega arith
