use Rattle.std.proofs.Common.{◌≡◌, ◌∷◌, ◌==◌, List, ℕ, arith, ap, length, lit<, Some}
use Rattle.std.specs.List.{slice_split}
use Rattle.std.proofs.lemmas.Str.Pattern.{strip_prefix_char}
use Rattle.jjob.proofs.TextSplits.{split_here, split_last}
use Rattle.jjob.proofs.reading.first_line.Goals as goal

pub returns-in-Some-clause-some : goal.returns-in-Some-clause-some
returns-in-Some-clause-some c =
    ap (slice_split (λ b. b == 10)) (strip_prefix_char 10 c.args.text.now (Some c.in-Some.more) c.in-Some.ensures.cases (lit< tt))

pub returns-in-Some-clause-shorter : goal.returns-in-Some-clause-shorter
returns-in-Some-clause-shorter c =
    let front : c.args.text.now ≡ 10 ∷ c.in-Some.more.now = strip_prefix_char 10 c.args.text.now (Some c.in-Some.more) c.in-Some.ensures.cases (lit< tt) in
    omega (arith, ap (λ (l : List ℕ). length l) front)

pub returns-in-Some-split_once-clause-some : goal.returns-in-Some-split_once-clause-some
returns-in-Some-split_once-clause-some c = let b = c.in-Some-split_once.ensures.byte (lit< tt) (λ w o h. h) in
    split_here 10 c.args.text.now c.in-Some-split_once.first.now c.in-Some-split_once.more.now b.2 b.0 b.1

pub returns-in-None-clause-none : goal.returns-in-None-clause-none
returns-in-None-clause-none c = split_last 10 c.args.text.now (c.in-None.ensures.byte (lit< tt) (λ w o h. h))
