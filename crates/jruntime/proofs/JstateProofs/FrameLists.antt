-- How frames lie in lists.
use Rattle.std.proofs.Common.{◌≡◌, ◌∙◌, ℕ, zero, suc, ◌+◌, ◌-◌, ◌<◌, ◌≤◌, List, [], ◌∷◌, ◌++◌, length, drop, take, reverse, replicate, Option, Some, None, refl, sym, ap, ap₂, arith, append_assoc}
use Rattle.std.specs.Prelude.{get_or, map, set, slice_set, false, Result, Ok, Err, OnOk, if◌then◌else◌}
use Rattle.std.specs.Result.{is_err, is_ok}
use Rattle.std.specs.List.{flat_map}
use Rattle.std.proofs.lemmas.List.{append-nil, get_or-set_same, length-reverse, length-set, length-take-le, length_push, reverse-append, reverse-reverse, take-set-le, take_all, take_more}
use Rattle.std.proofs.lemmas.Grind.{flat_map-append}
use Rattle.jvalues.specs.declared.jops.value.Value.{Value}
use Rattle.jstacks.specs.ListStacks.{Piled, bare, closed, from_oldest, on_top, padded, with_newest}
use Rattle.jresolution.specs.declared.jprogram.member.MethodId.{MethodId}
use Rattle.jsemantics.specs.jmachine.MachineStates.{FrameOf}
use Rattle.jsemantics.specs.jmachine.FrameOperations.{carrying, locals_of, onto}
use Rattle.jsemantics.specs.jmachine.BasicInstructions.{places}
use Rattle.jruntime.specs.declared.jstate.frames.At.{At}
use Rattle.jruntime.specs.jstate.FrameLists.{Framed, Lies, all, framed, frame_at, frames_at, holding, older, pushed, shown, starting}

-- what is ensured where there is no error
pub not_err : {A E P : Type 0} (r : Result A E) → is_err r ≡ false → OnOk r P → P
not_err (Ok x) none p = p
not_err (Err e) none p = cc

pub grown : {A E : Type 0} {X : Type 0} (r : Result A E) (is old new : X) → is_err r ≡ false → is ≡ (if is_ok r then new else old) → is ≡ new
grown (Ok x) is old new none e = e
grown (Err x) is old new none e = cc

-- the newest of the items that are left is put in the place of those that go
pub replaced : {T : Type 0} (n : ℕ) (v : T) (xs : List T) → 0 < n → n ≤ length xs → slice_set (drop (n - 1) xs) 0 v ≡ v ∷ drop n xs
replaced n v xs some few = replaced_at (n - 1) n v xs (omega (arith, some)) few
  where
    replaced_at : {T : Type 0} (m n : ℕ) (v : T) (xs : List T) → n ≡ suc m → n ≤ length xs → slice_set (drop m xs) 0 v ≡ v ∷ drop n xs
    replaced_at m n v [] e few = absurd (omega (arith, e, few))
    replaced_at zero n v (x ∷ xs) e few = rw e refl
    replaced_at (suc m) n v (x ∷ xs) e few = rw e (replaced_at m (suc m) v xs refl (omega (arith, e, few)))

-- arguments, from the oldest on, each with its places
pub onto_is : {K : Type 0} (arguments : List (Value K)) (locals : List (Option (Value K))) → onto arguments locals ≡ flat_map places (reverse arguments) ++ locals
unfolding onto
onto_is [] locals = refl
onto_is (v ∷ arguments) locals =
    onto_is arguments (places v ++ locals)
    ∙ sym (append_assoc (flat_map places (reverse arguments)) (places v) locals)
    ∙ ap (λ xs. (flat_map places (reverse arguments) ++ xs) ++ locals) (sym (append-nil (places v)))
    ∙ ap (λ xs. xs ++ locals) (sym (flat_map-append places (reverse arguments) (v ∷ [])))
    ∙ ap (λ xs. flat_map places xs ++ locals) (sym (reverse-append (v ∷ []) arguments))

pub locals_are : {K : Type 0} (most : ℕ) (arguments : List (Value K)) → padded most None (flat_map places (reverse arguments)) ≡ locals_of most arguments
locals_are most arguments =
    ap (λ n. flat_map places (reverse arguments) ++ replicate (most - n) None) (ap length (sym (append-nil (flat_map places (reverse arguments))) ∙ sym (onto_is arguments [])))
    ∙ sym (onto_is arguments _)

-- ---- what is carried

module _ {E : Type 0} where
  -- what stands last comes first the other way round
  turned : (n : ℕ) (xs : List E) (x : E) → length xs ≡ n + 1 → reverse xs ≡ get_or xs n x ∷ reverse (take n xs)
  turned n xs x long =
      ap reverse (sym (take_all (n + 1) xs (omega (arith, long))) ∙ take_more xs n x (omega (arith, long)))
      ∙ reverse-append (take n xs) (get_or xs n x ∷ [])

  pub first_is : (xs : List E) (x : E) (rest : List E) → reverse xs ≡ x ∷ rest → reverse xs ≡ x ∷ older xs
  first_is xs x rest e = e ∙ ap (λ (ys : List E). x ∷ drop 1 ys) (sym e)

  -- one more is carried
  pub more_carried : (marks : List E) (mark : E) → reverse (marks ++ mark ∷ []) ≡ mark ∷ reverse marks
  more_carried marks mark = reverse-append marks (mark ∷ [])

  pub more_last : (marks : List E) (mark : E) → reverse (marks ++ mark ∷ []) ≡ mark ∷ older (marks ++ mark ∷ [])
  more_last marks mark = first_is (marks ++ mark ∷ []) mark (reverse marks) (more_carried marks mark)

  -- what the newest carries goes, and what stands last is read
  pub fewer_last : (n : ℕ) (marks rest : List E) (mark : E) → length marks ≡ n + 2 → rest ≡ take (n + 1) marks → mark ≡ get_or rest n mark → reverse rest ≡ mark ∷ older rest
  fewer_last n marks rest mark long is read =
      let less = ap length is ∙ length-take-le (n + 1) marks (omega (arith, long)) in
      first_is rest mark (reverse (take n rest)) (turned n rest mark less ∙ ap (λ (x : E). x ∷ reverse (take n rest)) (sym read))

  pub fewer : (n : ℕ) (marks rest : List E) (mark : E) → length marks ≡ n + 2 → rest ≡ take (n + 1) marks → older marks ≡ reverse rest
  fewer n marks rest mark long is = ap (drop 1) (turned (n + 1) marks mark (omega (arith, long))) ∙ ap reverse (sym is)

  -- the newest carries something else
  turned_set : (n : ℕ) (marks : List E) (mark : E) → length marks ≡ n + 1 → reverse (set marks n mark) ≡ mark ∷ reverse (take n marks)
  turned_set n marks mark long =
      turned n (set marks n mark) mark (length-set marks n mark ∙ long)
      ∙ ap₂ (λ (x : E) (xs : List E). x ∷ reverse xs) (get_or-set_same marks n mark mark (omega (arith, long))) (take-set-le n marks n mark (omega arith))

  pub set_last : (n : ℕ) (marks : List E) (mark : E) → length marks ≡ n + 1 → reverse (set marks n mark) ≡ mark ∷ older (set marks n mark)
  set_last n marks mark long = first_is (set marks n mark) mark (reverse (take n marks)) (turned_set n marks mark long)

  pub set_older : (n : ℕ) (marks : List E) (mark : E) → length marks ≡ n + 1 → older (set marks n mark) ≡ older marks
  set_older n marks mark long = ap (drop 1) (turned_set n marks mark long) ∙ sym (ap (drop 1) (turned n marks mark long))

  pub as_many_older : (marks : List E) (mark : E) → reverse marks ≡ mark ∷ older marks → length marks ≡ length (older marks) + 1
  as_many_older marks mark last = sym (length-reverse marks) ∙ ap length last ∙ omega arith

-- ---- frames

-- one more stands on those below
pub one_more : {E : Type 0} (below : List At) (at : At) (mark : E) (marks : List E) (l : List (Option (Value ℕ))) (locals : List (List (Option (Value ℕ)))) (o : List (Value ℕ)) (operands : List (List (Value ℕ)))
    → frames_at (reverse (below ++ at ∷ [])) (mark ∷ marks) (l ∷ locals) (o ∷ operands) ≡ frame_at at mark l o ∷ frames_at (reverse below) marks locals operands
unfolding frames_at
one_more below at mark marks l locals o operands = ap (λ ats. frames_at ats (mark ∷ marks) (l ∷ locals) (o ∷ operands)) (reverse-append below (at ∷ []))

-- as many frames as stand somewhere
many : {E : Type 0} (ats : List At) (marks : List E) (locals : List (List (Option (Value ℕ)))) (operands : List (List (Value ℕ)))
    → length ats ≤ length marks → length ats ≤ length locals → length ats ≤ length operands → length (frames_at ats marks locals operands) ≡ length ats
unfolding frames_at
many [] marks locals operands told some more = refl
many (at ∷ ats) [] locals operands told some more = absurd (omega (arith, told))
many (at ∷ ats) (m ∷ marks) [] operands told some more = absurd (omega (arith, some))
many (at ∷ ats) (m ∷ marks) (l ∷ locals) [] told some more = absurd (omega (arith, more))
many (at ∷ ats) (m ∷ marks) (l ∷ locals) (o ∷ operands) told some more = ap suc (many ats marks locals operands (omega (arith, told)) (omega (arith, some)) (omega (arith, more)))

pub deep : {E : Type 0} (at : At) (mark : E) (below : List At) (marks : List E) (locals : Piled (Option (Value ℕ))) (operands : Piled (Value ℕ))
    → Lies mark below marks locals operands → length (all (shown at mark below marks locals operands)) ≡ length below + 1
deep at mark below marks locals operands lies =
    let told = as_many_older marks mark lies.0 in
    let each = lies.1 in
    let some = lies.2 in
    let more = lies.3 in
    let turn = length-reverse below in
    let n = many (reverse below) (older marks) locals.below operands.below (omega (arith, told, each, turn)) (omega (arith, some, turn)) (omega (arith, more, turn)) in
    omega (arith, n, turn)

-- what frames carry that stand somewhere
carried : {E : Type 0} (ats : List At) (marks : List E) (locals : List (List (Option (Value ℕ)))) (operands : List (List (Value ℕ)))
    → length ats ≡ length marks → length ats ≤ length locals → length ats ≤ length operands
    → map (λ (f : FrameOf ℕ E). f.entry) (frames_at ats marks locals operands) ≡ marks
unfolding frames_at
carried [] [] locals operands told some more = refl
carried [] (m ∷ marks) locals operands told some more = absurd (omega (arith, told))
carried (at ∷ ats) [] locals operands told some more = absurd (omega (arith, told))
carried (at ∷ ats) (m ∷ marks) [] operands told some more = absurd (omega (arith, some))
carried (at ∷ ats) (m ∷ marks) (l ∷ locals) [] told some more = absurd (omega (arith, more))
carried (at ∷ ats) (m ∷ marks) (l ∷ locals) (o ∷ operands) told some more =
    ap (λ ms. m ∷ ms) (carried ats marks locals operands (omega (arith, told)) (omega (arith, some)) (omega (arith, more)))

pub all_carried : {E : Type 0} (at : At) (mark : E) (below : List At) (marks : List E) (locals : Piled (Option (Value ℕ))) (operands : Piled (Value ℕ))
    → Lies mark below marks locals operands → reverse marks ≡ map (λ (f : FrameOf ℕ E). f.entry) (all (shown at mark below marks locals operands))
all_carried at mark below marks locals operands lies =
    let told = as_many_older marks mark lies.0 in
    let each = lies.1 in
    let some = lies.2 in
    let more = lies.3 in
    let turn = length-reverse below in
    lies.0
    ∙ ap (λ ms. mark ∷ ms)
    (sym (carried (reverse below) (older marks) locals.below operands.below (omega (arith, told, each, turn)) (omega (arith, some, turn)) (omega (arith, more, turn))))

abbrev pub begins : MethodId → At
begins m = record { method = m; place = 0 }

module _ {E : Type 0} where
  abbrev pub one : MethodId → E → List (Option (Value ℕ)) → List (FrameOf ℕ E) → Framed E
  one m mark locals below = record { newest = record { method = m; place = 0; locals = locals; operands = []; entry = mark }; below = below }

  abbrev shown_by : At → E → List At → List E → Piled (Option (Value ℕ)) → Piled (Value ℕ) → Framed E
  shown_by at mark below rests locals operands = record { newest = frame_at at mark locals.newest operands.newest; below = frames_at (reverse below) rests locals.below operands.below }

  abbrev carrying_newest : E → Framed E → Framed E
  carrying_newest mark s = record { newest = carrying mark s.newest; below = s.below }

  -- the first frame
  pub opened : (m : MethodId) (most : ℕ) (mark : E) (given : List (Value ℕ)) (below : List At) (marks : List E) (locals : Piled (Option (Value ℕ))) (operands : Piled (Value ℕ))
      → from_oldest locals ≡ padded most None (flat_map places given) → operands ≡ on_top [] bare → below ≡ []
      → shown (begins m) mark below marks locals operands ≡ record { newest = starting m most (reverse given) mark; below = [] }
  unfolding frames_at
  opened m most mark given below marks locals operands first empty none =
      ap₂ (λ ats (os : Piled (Value ℕ)). shown (begins m) mark ats marks locals os) none empty
      ∙ ap (λ ls. one m mark ls []) (first ∙ ap (λ vs. padded most None (flat_map places vs)) (sym (reverse-reverse given)) ∙ locals_are most (reverse given))

  -- one more
  pub begun : (at : At) (was : E) (m : MethodId) (most n : ℕ) (mark : E) (below : List At) (marks : List E) (locals next : Piled (Option (Value ℕ))) (operands empty : Piled (Value ℕ)) (s : Framed E)
      → shown at was below marks locals operands ≡ s → reverse marks ≡ was ∷ older marks
      → from_oldest next ≡ padded most None (flat_map places (reverse (take n operands.newest))) → next.below ≡ locals.newest ∷ locals.below
      → empty ≡ on_top [] (with_newest (drop n operands.newest) operands)
      → shown (begins m) mark (below ++ at ∷ []) (marks ++ mark ∷ []) next empty ≡ pushed (starting m most (take n s.newest.operands) mark) (holding (drop n s.newest.operands) s)
  begun at was m most n mark below marks locals next operands empty s is last first under none =
      ap (λ (os : Piled (Value ℕ)). shown (begins m) mark (below ++ at ∷ []) (marks ++ mark ∷ []) next os) none
      ∙ ap₂ (λ ls ks. one m mark ls (frames_at (reverse (below ++ at ∷ [])) (older (marks ++ mark ∷ [])) ks (drop n operands.newest ∷ operands.below))) (first ∙ locals_are most (take n operands.newest)) under
      ∙ ap (λ ms. one m mark (locals_of most (take n operands.newest)) (frames_at (reverse (below ++ at ∷ [])) ms (locals.newest ∷ locals.below) (drop n operands.newest ∷ operands.below)))
      (ap (drop 1) (more_carried marks mark) ∙ last)
      ∙ ap (one m mark (locals_of most (take n operands.newest))) (one_more below at was (older marks) locals.newest locals.below (drop n operands.newest) operands.below)
      ∙ ap (λ (t : Framed E). pushed (starting m most (take n t.newest.operands) mark) (holding (drop n t.newest.operands) t)) is

  -- there is none below
  pub alone : (at : At) (mark : E) (old below : List At) (marks : List E) (locals : Piled (Option (Value ℕ))) (operands : Piled (Value ℕ)) (s : Framed E)
      → shown at mark old marks locals operands ≡ s → length old ≡ 0 → old ≡ below ++ [] → (s.below ≡ []) × (shown at mark below marks locals operands ≡ s)
  unfolding frames_at
  alone at mark [] below marks locals operands s is none same =
      (ap (λ (t : Framed E). t.below) (sym is), ap (λ ats. shown at mark ats marks locals operands) (sym (append-nil below) ∙ sym same) ∙ is)
  alone at mark (x ∷ old) below marks locals operands s is none same = absurd (omega (arith, none))

  left_by : (at : At) (mark : E) (below : List At) (marks : List E) (n : ℕ) (locals : List (List (Option (Value ℕ)))) (operands : List (List (Value ℕ))) (l : List (Option (Value ℕ))) (o : List (Value ℕ))
      → length locals ≡ n + 1 → length operands ≡ n + 1
      → framed (frames_at (reverse (below ++ at ∷ [])) (mark ∷ older marks) locals operands)
      ≡ Some (shown at mark below marks (closed (record { newest = l; below = locals })) (closed (record { newest = o; below = operands })))
  left_by at mark below marks n [] operands l o some more = absurd (omega (arith, some))
  left_by at mark below marks n (k ∷ locals) [] l o some more = absurd (omega (arith, more))
  left_by at mark below marks n (k ∷ locals) (p ∷ operands) l o some more = ap framed (one_more below at mark (older marks) k locals p operands)

  -- the one below is the newest now
  pub left_to : (at was : At) (mark gone : E) (old below : List At) (marks rests : List E) (locals rest : Piled (Option (Value ℕ))) (operands others : Piled (Value ℕ)) (s : Framed E)
      → shown was gone old marks locals operands ≡ s → Lies gone old marks locals operands → old ≡ below ++ at ∷ []
      → (n k : ℕ) → n ≡ length marks → rests ≡ take (n - 1) marks → k ≡ length below → mark ≡ get_or rests k mark
      → rest ≡ closed locals → others ≡ closed operands → framed s.below ≡ Some (shown at mark below rests rest others)
  left_to at was mark gone old below marks rests locals rest operands others s shows lies last n k many is here read closes empties =
      let each = lies.1 in
      let deeper : length old ≡ length below + 1 = ap length last ∙ length_push below at in
      let long : length marks ≡ k + 2 = omega (arith, each, deeper, here) in
      let front : n - 1 ≡ k + 1 = omega (arith, many, long) in
      let rests_are = is ∙ ap (λ i. take i marks) front in
      ap (λ (t : Framed E). framed t.below) (sym shows)
      ∙ ap₂ (λ ats ms. framed (frames_at (reverse ats) ms locals.below operands.below)) last (fewer k marks rests mark long rests_are ∙ fewer_last k marks rests mark long rests_are read)
      ∙ left_by at mark below rests (length old) locals.below operands.below locals.newest operands.newest lies.2 lies.3
      ∙ sym (ap₂ (λ ls (os : Piled (Value ℕ)). Some (shown at mark below rests ls os)) closes empties)

  -- the newest carries something else
  pub carries : (at : At) (was mark : E) (below : List At) (marks : List E) (locals : Piled (Option (Value ℕ))) (operands : Piled (Value ℕ)) (s : Framed E) (n : ℕ)
      → shown at was below marks locals operands ≡ s → Lies was below marks locals operands → n ≡ length below
      → shown at mark below (slice_set marks n mark) locals operands ≡ carrying_newest mark s
  carries at was mark below marks locals operands s n shows lies here =
      let each = lies.1 in
      ap (λ ms. shown_by at mark below ms locals operands) (set_older n marks mark (omega (arith, each, here)))
      ∙ ap (carrying_newest mark) shows

  pub carries_lies : (was mark : E) (below : List At) (marks : List E) (locals : Piled (Option (Value ℕ))) (operands : Piled (Value ℕ)) (n : ℕ)
      → Lies was below marks locals operands → n ≡ length below → Lies mark below (slice_set marks n mark) locals operands
  carries_lies was mark below marks locals operands n lies here =
      let each = lies.1 in
      (set_last n marks mark (omega (arith, each, here)), length-set marks n mark ∙ lies.1, lies.2, lies.3)
