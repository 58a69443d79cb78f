-- The table of new places, while it is filled.
use Rattle.std.proofs.Common.{◌≡◌, ◌≢◌, ℕ, ◌+◌, ◌<◌, ◌≤◌, ◌⊎◌, List, [], ◌∷◌, ◌++◌, length, get_or, set, drop, replicate, refl, ap, ◌∙◌, sym, arith, subst, cond, eqb, Bool, true, false, length-set, get_or-set_same, get_or-set_other, inl, inr}
use Rattle.std.proofs.lemmas.List.{get_or-replicate, get_or_past, length-replicate, drop_more, drop_all}
use Rattle.std.proofs.lemmas.Bool.{eq-eqb, ne_eqb}
use Rattle.jparts.specs.declared.jcode.op.Placed.{Placed}
use Rattle.jparts.specs.jcode.Instructions.{size}
use Rattle.jmove.specs.declared.method.Expand.{Expand}
use Rattle.jmove.specs.declared.method.Setting.{Setting}
use Rattle.jmove.specs.AssemblyLines.{Line, Label, Do, reach, end_of, place_of, Laid}
use Rattle.jmove.specs.MethodExpansion.{expansion, expansions}
use Rattle.jmove.proofs.LineSequences.{one, end_reach, end_above, place_skip}
use Rattle.jmove.proofs.Bounds.{laid_above}
use Rattle.jmove.proofs.Sizes.{size_some}

pub label_here : (q at : ℕ) (rest : List Line) → place_of q at (Label q ∷ rest) ≡ at
label_here q at rest = ap (λ (b : Bool). cond b at (place_of q at rest)) (eq-eqb q q refl)

pub label_other : (q k at : ℕ) (rest : List Line) → q ≢ k → place_of q at (Label k ∷ rest) ≡ place_of q at rest
label_other q k at rest h = ap (λ (b : Bool). cond b at (place_of q at rest)) (ne_eqb q k h)

label_within : (b : Bool) (x y z : ℕ) → x ≤ z → y ≤ z → cond b x y ≤ z
label_within true x y z h e = h
label_within false x y z h e = e

-- a label that is passed, with its expansion
pub passed : (q at : ℕ) (s : Setting) (k : Expand) (i : Placed) (rest : List Line) → q ≢ i.at → place_of q at (Label i.at ∷ (one s k i ++ rest)) ≡ place_of q (reach at (expansion s k i.op)) rest
passed q at s k i rest h = label_other q i.at at (one s k i ++ rest) h ∙ place_skip q at i.at (expansion s k i.op) rest

-- a place below all labels has none
pub unlabelled : (s : Setting) (ks : List Expand) (is : List Placed) (q at from to : ℕ) → Laid from is to → q < from → place_of q at (expansions s ks is) ≡ end_of at (expansions s ks is)
unlabelled s [] is q at from to h l = refl
unlabelled s (k ∷ ks) [] q at from to h l = refl
unlabelled s (k ∷ ks) (i ∷ is) q at from to h l =
    let os = expansion s k i.op in
    let rest = expansions s ks is in
    let ne : q ≢ i.at = omega arith in
    let lt : q < from + size from i.op = omega arith in
    passed q at s k i rest ne ∙ unlabelled s ks is q (reach at os) (from + size from i.op) to h.1 lt ∙ sym (end_reach at i.at os rest)

-- the places that are passed stand in the table, and the others don't yet
pub record Going (f : ℕ → ℕ) (table : List ℕ) (end to at : ℕ) (rest : List Line) (is : List Placed) : Type 0 where
  pub from : ℕ
  pub long : length table ≡ to
  pub laid : Laid from is to
  pub done : (q : ℕ) → q < from → get_or table q end ≡ f q
  pub todo : (q : ℕ) → from ≤ q → get_or table q end ≡ end
  pub rest_is : (q : ℕ) → from ≤ q → f q ≡ place_of q at rest
  pub same_end : end_of at rest ≡ end

lt_or : (n q : ℕ) → (q < n) ⊎ (n ≤ q)
lt_or n q = grind arith

filled : (n end q : ℕ) → get_or (replicate n end) q end ≡ end
filled n end q = elim (lt_or n q) [ inl h ↦ get_or-replicate n q end end h | inr h ↦ get_or_past (replicate n end) q end (omega (arith, length-replicate n end)) ]

pub begun : (s : Setting) (ks : List Expand) (is : List Placed) (at end to : ℕ) → Laid 0 is to → end_of at (expansions s ks is) ≡ end
    → Going (λ q. place_of q at (expansions s ks is)) (replicate to end) end to at (expansions s ks is) is
begun s ks is at end to h e = record {
  from = 0;
  long = length-replicate to end;
  laid = h;
  done = λ q l. absurd (omega arith);
  todo = λ q l. filled to end q;
  rest_is = λ q l. refl;
  same_end = e;
}

-- where the table says so for each place, one instruction on
has_room : (f : ℕ → ℕ) (table : List ℕ) (end to at : ℕ) (s : Setting) (k : Expand) (i : Placed) (ks : List Expand) (is : List Placed)
    → (g : Going f table end to at (Label i.at ∷ (one s k i ++ expansions s ks is)) (i ∷ is)) → i.at < length table
has_room f table end to at s k i ks is g = omega (arith, g.long, g.laid.0, size_some g.from i.op, laid_above (g.from + size g.from i.op) to is g.laid.1)

pub stepped : (f : ℕ → ℕ) (table : List ℕ) (end to at : ℕ) (s : Setting) (k : Expand) (i : Placed) (ks : List Expand) (is : List Placed)
    → (g : Going f table end to at (Label i.at ∷ (one s k i ++ expansions s ks is)) (i ∷ is)) → Going f (set table i.at at) end to (reach at (expansion s k i.op)) (expansions s ks is) is
stepped f table end to at s k i ks is g =
    let os = expansion s k i.op in
    let e = one s k i in
    let rest = expansions s ks is in
    let old = i.at in
    let is_old : old ≡ g.from = g.laid.0 in
    let inside : old < length table = has_room f table end to at s k i ks is g in
    let next = g.from + size g.from i.op in
    let goes : end_of (reach at os) rest ≡ end = sym (end_reach at old os rest) ∙ g.same_end in
    let later : (q : ℕ) → g.from < q → f q ≡ place_of q (reach at os) rest =
    λ q h. (let le : g.from ≤ q = omega arith in let ne : q ≢ old = omega arith in g.rest_is q le ∙ passed q at s k i rest ne) in
    let kept : (q : ℕ) → q ≢ old → get_or (set table old at) q end ≡ get_or table q end = λ q h. get_or-set_other table old q at end h in
    let here : get_or (set table old at) old end ≡ f old =
    get_or-set_same table old at end inside ∙ sym (label_here old at (e ++ rest)) ∙ sym (g.rest_is old (omega arith)) in
    record {
      from = next;
      long = length-set table old at ∙ g.long;
      laid = g.laid.1;
      done = λ q h. elim (lt_or g.from q) [
        | inl l ↦ (let ne : q ≢ old = omega arith in kept q ne ∙ g.done q l)
        | inr l ↦ elim (lt_or (g.from + 1) q) [
          | inl m ↦ (let e : old ≡ q = omega arith in subst (λ (x : ℕ). get_or (set table old at) x end ≡ f x) e here)
          | inr m ↦ (let ne : q ≢ old = omega arith in kept q ne ∙ g.todo q l ∙ sym goes ∙ sym (unlabelled s ks is q (reach at os) next to g.laid.1 h) ∙ sym (later q (omega arith)))
        ]
      ];
      todo = λ q h. (let p = size_some g.from i.op in let ne : q ≢ old = omega arith in kept q ne ∙ g.todo q (omega arith));
      rest_is = λ q h. (let p = size_some g.from i.op in later q (omega arith));
      same_end = goes;
    }

abbrev pub At : (ℕ → ℕ) → List ℕ → ℕ → ℕ → ℕ → Setting → List Expand → List Placed → Type 0
At f table end to at s ks is = Going f table end to at (expansions s ks is) is

opened : (f : ℕ → ℕ) (table : List ℕ) (end to at : ℕ) (s : Setting) (ks : List Expand) (is : List Placed) (i : ℕ) (k : Expand) (x : Placed) → i < length is → length ks ≡ length is → x ≡ get_or is i x
    → At f table end to at s (drop i ks) (drop i is) → At f table end to at s (get_or ks i k ∷ drop (i + 1) ks) (x ∷ drop (i + 1) is)
opened f table end to at s ks is i k x h e is_x g =
    subst (λ (y : Placed). At f table end to at s (get_or ks i k ∷ drop (i + 1) ks) (y ∷ drop (i + 1) is)) (sym is_x)
    (subst (λ (l : List Placed). At f table end to at s (get_or ks i k ∷ drop (i + 1) ks) l) (drop_more is i x h)
    (subst (λ (l : List Expand). At f table end to at s l (drop i is)) (drop_more ks i k (omega arith)) g))

pub inside : (f : ℕ → ℕ) (table : List ℕ) (end to at : ℕ) (s : Setting) (ks : List Expand) (is : List Placed) (i : ℕ) (k : Expand) (x : Placed) → i < length is → length ks ≡ length is → x ≡ get_or is i x
    → At f table end to at s (drop i ks) (drop i is) → x.at < length table
inside f table end to at s ks is i k x h e is_x g = has_room f table end to at s (get_or ks i k) x (drop (i + 1) ks) (drop (i + 1) is) (opened f table end to at s ks is i k x h e is_x g)

pub one_placed : (f : ℕ → ℕ) (table : List ℕ) (end to at : ℕ) (s : Setting) (ks : List Expand) (is : List Placed) (i : ℕ) (k : Expand) (x : Placed) → i < length is → length ks ≡ length is → x ≡ get_or is i x
    → At f table end to at s (drop i ks) (drop i is) → At f (set table x.at at) end to (reach at (expansion s (get_or ks i k) x.op)) s (drop (i + 1) ks) (drop (i + 1) is)
one_placed f table end to at s ks is i k x h e is_x g = stepped f table end to at s (get_or ks i k) x (drop (i + 1) ks) (drop (i + 1) is) (opened f table end to at s ks is i k x h e is_x g)

pub all_placed : (f : ℕ → ℕ) (table : List ℕ) (end to at : ℕ) (s : Setting) (ks : List Expand) (is : List Placed) (i : ℕ) → length is ≤ i → length ks ≡ length is
    → At f table end to at s (drop i ks) (drop i is) → (q : ℕ) → get_or table q end ≡ f q
all_placed f table end to at s ks is i h e g q =
    let g' = subst (λ (l : List Placed). At f table end to at s [] l) (drop_all i is h) (subst (λ (l : List Expand). At f table end to at s l (drop i is)) (drop_all i ks (omega arith)) g) in
    elim (lt_or g'.from q) [ inl l ↦ g'.done q l | inr l ↦ g'.todo q l ∙ sym g'.same_end ∙ sym (g'.rest_is q l) ]

pub place_within : (q at : ℕ) (ls : List Line) → place_of q at ls ≤ end_of at ls
place_within q at [] = omega arith
place_within q at (Label k ∷ rest) = label_within (eqb q k) at (place_of q at rest) (end_of at rest) (end_above at rest) (place_within q at rest)
place_within q at (Do from op ∷ rest) = place_within q (at + size at op) rest

-- the same with what the code has written and reached
pub next_placed : (f : ℕ → ℕ) (table : List ℕ) (end to at : ℕ) (s : Setting) (ks : List Expand) (is : List Placed) (i : ℕ) (k : Expand) (x : Placed) (table' : List ℕ) (at' : ℕ) → i < length is → length ks ≡ length is → x ≡ get_or is i x
    → table' ≡ set table x.at at → at' ≡ reach at (expansion s (get_or ks i k) x.op) → At f table end to at s (drop i ks) (drop i is) → At f table' end to at' s (drop (i + 1) ks) (drop (i + 1) is)
next_placed f table end to at s ks is i k x table' at' h e is_x written reached g =
    subst (λ (l : List ℕ). At f l end to at' s (drop (i + 1) ks) (drop (i + 1) is)) (sym written)
    (subst (λ (n : ℕ). At f (set table x.at at) end to n s (drop (i + 1) ks) (drop (i + 1) is)) (sym reached) (one_placed f table end to at s ks is i k x h e is_x g))

-- the whole table, by its places
pub near : (table : List ℕ) (end to at begin : ℕ) (s : Setting) (ks : List Expand) (is : List Placed) (i : ℕ) → length is ≤ i → length ks ≡ length is → end_of begin (expansions s ks is) ≡ end
    → At (λ q. place_of q begin (expansions s ks is)) table end to at s (drop i ks) (drop i is) → (q : ℕ) → get_or table q end ≤ end
near table end to at begin s ks is i h e reached g q =
    omega (arith, all_placed (λ q. place_of q begin (expansions s ks is)) table end to at s ks is i h e g q, place_within q begin (expansions s ks is), reached)
