-- The lines of the text of a run, counted: as many of each kind as its events.
use Rattle.std.proofs.Common.{◌≡◌, ◌==◌, ℕ, ◌+◌, Bool, true, cond, List, [], ◌∷◌, ◌++◌, codes, decimal, refl, sym, ap, ◌∙◌, append_assoc, arith}
use Rattle.std.specs.List.{count_by, flat_map, starts_with, slice_split}
use Rattle.std.proofs.lemmas.List.Concat.{flat_map-cons}
use Rattle.std.proofs.lemmas.List.Sums.{sum_by-cons}
use Rattle.joutput.specs.jio.TextOutput.{written}
use Rattle.jperm.specs.PermissionTexts.{text_of}
use Rattle.joutput.specs.declared.jtrace.event.Event.{Event}
use Rattle.joutput.specs.declared.jtrace.event.Event.TheVariants as events
use Rattle.joutput.specs.declared.jtrace.event.End.{End}
use Rattle.joutput.specs.declared.jtrace.event.End.TheVariants as ends
use Rattle.joutput.specs.jtrace.TraceLines.{end_line, line, lines, text, told}
use Rattle.joutput.specs.declared.jtally.counts.Counts.{Counts}
use Rattle.joutput.specs.jtally.LineTallies.{counts_in, lines_with}
use Rattle.joutput.specs.jtally.EventCounts.{counted, none, with_event}
use Rattle.joutput.proofs.JtallyProofs.LineFeeds.{clean, clean_both, clean_decimal, clean_written, first_line}

-- ---- names for what definitions say in place

-- the lines of a text, parted by line feeds
abbrev lines_in : List ℕ → List (List ℕ)
lines_in bytes = slice_split (λ b. b == 10) bytes

-- ---- the line of an event

-- what stands before its line feed
abbrev bare : Event → List ℕ
bare (events.Out thread units) = told (codes "out ") thread units []
bare (events.Grant thread asked) = told (codes "grant ") thread (text_of asked) []
bare (events.Deny thread asked domain) = told (codes "deny ") thread (text_of asked) (codes " domain " ++ decimal domain)
bare (events.Throw thread class) = told (codes "throw ") thread class []
bare (events.Uncaught thread class) = told (codes "uncaught ") thread class []

ended : (word : List ℕ) (thread : ℕ) (units behind : List ℕ) → told word thread units (behind ++ 10 ∷ []) ≡ told word thread units behind ++ 10 ∷ []
ended word thread units behind = simp append_assoc

line_is : (e : Event) → line e ≡ bare e ++ 10 ∷ []
unfolding line
line_is (events.Out thread units) = ended (codes "out ") thread units []
line_is (events.Grant thread asked) = ended (codes "grant ") thread (text_of asked) []
line_is (events.Deny thread asked domain) =
    ap (told (codes "deny ") thread (text_of asked)) (sym (append_assoc (codes " domain ") (decimal domain) (10 ∷ []))) ∙ ended (codes "deny ") thread (text_of asked) (codes " domain " ++ decimal domain)
line_is (events.Throw thread class) = ended (codes "throw ") thread class []
line_is (events.Uncaught thread class) = ended (codes "uncaught ") thread class []

clean_told : (word : List ℕ) (thread : ℕ) (units behind : List ℕ) → clean word ≡ true → clean behind ≡ true → clean (told word thread units behind) ≡ true
clean_told word thread units behind first last =
    let more : List ℕ = written units ++ behind in
    let third : clean more ≡ true = clean_both (written units) behind (clean_written units) last in
    let second : clean (codes " " ++ more) ≡ true = clean_both (codes " ") more refl third in
    clean_both word (decimal thread ++ (codes " " ++ more)) first (clean_both (decimal thread) (codes " " ++ more) (clean_decimal thread) second)

clean_bare : (e : Event) → clean (bare e) ≡ true
clean_bare (events.Out thread units) = clean_told (codes "out ") thread units [] refl refl
clean_bare (events.Grant thread asked) = clean_told (codes "grant ") thread (text_of asked) [] refl refl
clean_bare (events.Deny thread asked domain) =
    clean_told (codes "deny ") thread (text_of asked) (codes " domain " ++ decimal domain) refl (clean_both (codes " domain ") (decimal domain) refl (clean_decimal domain))
clean_bare (events.Throw thread class) = clean_told (codes "throw ") thread class [] refl refl
clean_bare (events.Uncaught thread class) = clean_told (codes "uncaught ") thread class [] refl refl

-- ---- lines that begin with a word

abbrev begins : List ℕ → List ℕ → Bool
begins word line = starts_with ◌==◌ line word

abbrev told_by : List ℕ → Event → ℕ
told_by word e = cond (begins word (bare e)) 1 0

-- the text of a run that tells one more event at first
text_more : (e : Event) (es : List Event) (end : End) → text (e ∷ es) end ≡ bare e ++ 10 ∷ text es end
text_more e es end =
    ap (λ (x : List ℕ). x ++ end_line end) (flat_map-cons line e es ∙ ap (λ (x : List ℕ). x ++ lines es) (line_is e))
    ∙ append_assoc (bare e ++ 10 ∷ []) (lines es) (end_line end)
    ∙ append_assoc (bare e) (10 ∷ []) (lines es ++ end_line end)

counts_more : (word : List ℕ) (e : Event) (es : List Event) (end : End) → lines_with word (text (e ∷ es) end) ≡ told_by word e + lines_with word (text es end)
counts_more word e es end =
    ap (λ (x : List ℕ). count_by (begins word) (lines_in x)) (text_more e es end)
    ∙ ap (count_by (begins word)) (first_line (bare e) (text es end) (clean_bare e))
    ∙ sum_by-cons (λ line. cond (begins word line) 1 0) (bare e) (lines_in (text es end))

-- a count of events of one kind, and the word by which these are told
module _ (get : Counts → ℕ) (word : List ℕ) (one : (n : Counts) (e : Event) → get (with_event n e) ≡ get n + told_by word e) (last : (end : End) → lines_with word (end_line end) ≡ 0) where
  counts_from : (n : Counts) (es : List Event) (end : End) → get (counted n es) ≡ get n + lines_with word (text es end)
  counts_from n [] end = let no = last end in omega arith
  counts_from n (e ∷ es) end =
      let more = counts_more word e es end in
      let here = one n e in
      let rest = counts_from (with_event n e) es end in
      omega arith

same : (n : ℕ) → n ≡ n + 0
same n = omega arith

grants_one : (n : Counts) (e : Event) → (with_event n e).grants ≡ n.grants + told_by (codes "grant ") e
grants_one n (events.Out thread units) = same n.grants
grants_one n (events.Grant thread asked) = refl
grants_one n (events.Deny thread asked domain) = same n.grants
grants_one n (events.Throw thread class) = same n.grants
grants_one n (events.Uncaught thread class) = same n.grants

denials_one : (n : Counts) (e : Event) → (with_event n e).denials ≡ n.denials + told_by (codes "deny ") e
denials_one n (events.Out thread units) = same n.denials
denials_one n (events.Grant thread asked) = same n.denials
denials_one n (events.Deny thread asked domain) = refl
denials_one n (events.Throw thread class) = same n.denials
denials_one n (events.Uncaught thread class) = same n.denials

throws_one : (n : Counts) (e : Event) → (with_event n e).throws ≡ n.throws + told_by (codes "throw ") e
throws_one n (events.Out thread units) = same n.throws
throws_one n (events.Grant thread asked) = same n.throws
throws_one n (events.Deny thread asked domain) = same n.throws
throws_one n (events.Throw thread class) = refl
throws_one n (events.Uncaught thread class) = same n.throws

outs_one : (n : Counts) (e : Event) → (with_event n e).outs ≡ n.outs + told_by (codes "out ") e
outs_one n (events.Out thread units) = refl
outs_one n (events.Grant thread asked) = same n.outs
outs_one n (events.Deny thread asked domain) = same n.outs
outs_one n (events.Throw thread class) = same n.outs
outs_one n (events.Uncaught thread class) = same n.outs

-- the line of the end begins with another word
grants_last : (end : End) → lines_with (codes "grant ") (end_line end) ≡ 0
unfolding end_line
grants_last ends.Finished = refl
grants_last ends.Uncaught = refl
grants_last ends.Deadlock = refl
grants_last ends.HeapFull = refl
grants_last ends.Bound = refl

denials_last : (end : End) → lines_with (codes "deny ") (end_line end) ≡ 0
unfolding end_line
denials_last ends.Finished = refl
denials_last ends.Uncaught = refl
denials_last ends.Deadlock = refl
denials_last ends.HeapFull = refl
denials_last ends.Bound = refl

throws_last : (end : End) → lines_with (codes "throw ") (end_line end) ≡ 0
unfolding end_line
throws_last ends.Finished = refl
throws_last ends.Uncaught = refl
throws_last ends.Deadlock = refl
throws_last ends.HeapFull = refl
throws_last ends.Bound = refl

outs_last : (end : End) → lines_with (codes "out ") (end_line end) ≡ 0
unfolding end_line
outs_last ends.Finished = refl
outs_last ends.Uncaught = refl
outs_last ends.Deadlock = refl
outs_last ends.HeapFull = refl
outs_last ends.Bound = refl

-- ---- all four

four : (a b : Counts) → a.grants ≡ b.grants → a.denials ≡ b.denials → a.throws ≡ b.throws → a.outs ≡ b.outs → a ≡ b
four a b grants denials throws outs =
    ap (λ (n : ℕ). record { grants = n; denials = a.denials; throws = a.throws; outs = a.outs }) grants
    ∙ ap (λ (n : ℕ). record { grants = b.grants; denials = n; throws = a.throws; outs = a.outs }) denials
    ∙ ap (λ (n : ℕ). record { grants = b.grants; denials = b.denials; throws = n; outs = a.outs }) throws
    ∙ ap (λ (n : ℕ). record { grants = b.grants; denials = b.denials; throws = b.throws; outs = n }) outs

nothing : (n : ℕ) → 0 + n ≡ n
nothing n = omega arith

pub all_counts : (es : List Event) (end : End) → counts_in (text es end) ≡ counted none es
unfolding counts_in
all_counts es end =
    sym (four (counted none es) (counts_in (text es end))
    (counts_from (λ (n : Counts). n.grants) (codes "grant ") grants_one grants_last none es end ∙ nothing (lines_with (codes "grant ") (text es end)))
    (counts_from (λ (n : Counts). n.denials) (codes "deny ") denials_one denials_last none es end ∙ nothing (lines_with (codes "deny ") (text es end)))
    (counts_from (λ (n : Counts). n.throws) (codes "throw ") throws_one throws_last none es end ∙ nothing (lines_with (codes "throw ") (text es end)))
    (counts_from (λ (n : Counts). n.outs) (codes "out ") outs_one outs_last none es end ∙ nothing (lines_with (codes "out ") (text es end))))
