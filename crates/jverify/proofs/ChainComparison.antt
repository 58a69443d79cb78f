-- A frame against one that is kept as a chain of locals and its operands.
use Rattle.std.proofs.Common.{◌≡◌, ℕ, zero, suc, ◌+◌, ◌-◌, ◌<◌, ◌≤◌, Bool, true, false, ◌&&◌, List, [], ◌∷◌, ◌++◌, length, map, replicate, reverse, take, drop, get_or, Some, refl, sym, ap, subst, ◌∙◌, arith}
use Rattle.std.specs.Prelude.{IfSome, option_map, slice_get}
use Rattle.std.specs.List.{flat_map, list_any}
use Rattle.std.proofs.Math.Seq.{drop-cons}
use Rattle.std.proofs.Math.ListN.{drop_of_length-le}
use Rattle.std.proofs.lemmas.Grind.{flat_map-append}
use Rattle.std.proofs.lemmas.List.{append-nil, append_assoc, length-map, map-append, reverse-append, reverse-reverse}
use Rattle.std.proofs.lemmas.Option.{slice_get-get_or, slice_get-map}
use Rattle.jtypes.specs.declared.vtype.VType.{VType}
use Rattle.jtypes.specs.declared.vtype.VType.TheVariants as types
use Rattle.jtypes.specs.Assignability.{fits, is_above_arrays}
use Rattle.jtypes.specs.TypeFrames.{Frame, all_fit, implies, places_of, stack_fits}
use Rattle.jtypes.specs.ProofNames.{item_fits}
use Rattle.jtypes.proofs.SubtypeLaws.{fits_itself}
use Rattle.jresolution.specs.jprogram.ProgramClasses.{Program, tree}
use Rattle.jresolution.specs.declared.juses.types.TypeRef.{TypeRef}
use Rattle.jresolution.specs.declared.juses.types.TypeRef.TheVariants as refs
use Rattle.jresolution.specs.juses.InternedTypes.{named}
use Rattle.jtyping.specs.jrule.StackEffects.{is_uninit_this}
use Rattle.jtyping.specs.jrule.OperandSlots.{size, slot_count}
use Rattle.jtyping.specs.jrule.TypeSubstitution.{is_this}
use Rattle.jtyping.proofs.JruleProofs.TypeSubstitution.{map_reversed}
use Rattle.jlinking.specs.jlink.ClassOrder.{itself}
use Rattle.jtyping.specs.jwelltyped.DeclaredFrames.{filled}
use Rattle.jtyping.specs.jwelltyped.VerifierTests.{frame_fits}
use Rattle.jverify.specs.declared.chains.Node.{Node}
use Rattle.jverify.specs.LocalChains.{IsLink, chain, values}
use Rattle.jverify.specs.declared.declared.Kept.{Kept}
use Rattle.jverify.specs.FrameTables.{frame_named, frame_seen, given, places}
use Rattle.jverify.proofs.LocalChains.{values_more, values_root}
use Rattle.jverify.proofs.FrameComparison.{front_fits, reversed_fit, values_fit}
use Rattle.jverify.proofs.NumberedTypes.{count_reversed, flag_named, places_named}

-- ---- locals, from the last one on

-- what locals of a method are in front of the end of a chain, against the chain
abbrev pub front : Program → List TypeRef → List Node → ℕ → Bool
front p locals nodes k =
    let all = places_of (map (named p) (values nodes k)) in all_fit (fits (tree p)) (take (length all) (map (named p) locals)) all

top_fits : (p : Program) (a : VType) → fits (tree p) a types.Top ≡ true
top_fits p a = refl

named_more : (p : Program) (nodes : List Node) (k : ℕ) (n : Node) → IsLink nodes k n → map (named p) (values nodes k) ≡ map (named p) (values nodes n.parent) ++ named p n.kind ∷ []
named_more p nodes k n link = ap (map (named p)) (values_more nodes nodes n.parent k n.kind link.chained) ∙ map-append (named p) (values nodes n.parent) (n.kind ∷ [])

-- the place of the value of a node
place_is : (p : Program) (nodes : List Node) (k : ℕ) (n : Node) → IsLink nodes k n → length (places_of (map (named p) (values nodes n.parent))) ≡ n.places - size n.kind
unfolding slot_count
place_is p nodes k n link =
    let count : n.places ≡ size n.kind + slot_count (chain nodes n.parent) = link.places ∙ ap slot_count link.chained in
    count_reversed p (chain nodes n.parent) ∙ omega arith

pub place_within : (nodes : List Node) (k : ℕ) (n : Node) → IsLink nodes k n → (size n.kind ≤ n.places) × (n.places ≡ slot_count (chain nodes k)) × (slot_count (chain nodes n.parent) ≤ slot_count (chain nodes k)) × (n.places - size n.kind < slot_count (chain nodes k))
unfolding slot_count
place_within nodes k n link =
    let count : n.places ≡ size n.kind + slot_count (chain nodes n.parent) = link.places ∙ ap slot_count link.chained in
    let some : 0 < size n.kind = size_some n.kind in
    (omega arith, link.places, omega (arith, link.places), omega (arith, link.places))
  where
    size_some : (k : TypeRef) → 0 < size k
    size_some refs.Top = omega arith
    size_some refs.Int = omega arith
    size_some refs.Long = omega arith
    size_some refs.Null = omega arith
    size_some refs.UninitThis = omega arith
    size_some (refs.Uninit o) = omega arith
    size_some (refs.Object c) = omega arith
    size_some (refs.Array a) = omega arith
    size_some refs.Ctx = omega arith

pub front_more : (p : Program) (locals : List TypeRef) (nodes : List Node) (k : ℕ) (n : Node) (t : TypeRef) → IsLink nodes k n → slot_count (chain nodes k) ≤ length locals → slice_get locals (n.places - size n.kind) ≡ Some t →
    front p locals nodes k ≡ (front p locals nodes n.parent && fits (tree p) (named p t) (named p n.kind))
front_more p locals nodes k n t link room at =
    let vs = map (named p) (values nodes n.parent) in
    let ls = map (named p) locals in
    let e = named_more p nodes k n link in
    let here : slice_get ls (length (places_of vs)) ≡ Some (named p t) = ap (slice_get ls) (place_is p nodes k n link) ∙ slice_get-map (named p) locals (n.places - size n.kind) ∙ ap (option_map (named p)) at in
    let fill : length (places_of (vs ++ named p n.kind ∷ [])) ≡ slot_count (chain nodes k) = ap (λ ws. length (places_of ws)) (sym e) ∙ count_reversed p (chain nodes k) in
    let fit : length (places_of (vs ++ named p n.kind ∷ [])) ≤ length ls = omega (arith, length-map locals (named p)) in
    ap (λ ws. all_fit (fits (tree p)) (take (length (places_of ws)) ls) (places_of ws)) e
    ∙ values_fit (fits (tree p)) (top_fits p) ls vs (named p n.kind) (named p t) here fit

pub front_root : (p : Program) (locals : List TypeRef) (nodes : List Node) → front p locals nodes 0 ≡ true
unfolding all_fit
front_root p locals nodes = ap (λ vs. all_fit (fits (tree p)) (take (length (places_of (map (named p) vs))) (map (named p) locals)) (places_of (map (named p) vs))) (values_root nodes)

pub front_all : (p : Program) (locals : List TypeRef) (nodes : List Node) (k : ℕ) → slot_count (chain nodes k) ≤ length locals →
    front p locals nodes k ≡ all_fit (fits (tree p)) (map (named p) locals) (filled (length locals) (places_of (map (named p) (values nodes k))))
front_all p locals nodes k room =
    let count = count_reversed p (chain nodes k) in
    sym (front_fits (fits (tree p)) (top_fits p) (length locals) (map (named p) locals) (places_of (map (named p) (values nodes k))) (length-map locals (named p)) (omega arith))

-- the local of a node, as it was tested
pub tested : (locals : List TypeRef) (n : ℕ) (P : TypeRef → Type 0) → n < length locals → IfSome (slice_get locals n) P → (t : TypeRef) × (slice_get locals n ≡ Some t) × P t
tested locals n P lt h =
    let at : slice_get locals n ≡ Some (get_or locals n refs.Top) = slice_get-get_or locals n refs.Top lt in
    (get_or locals n refs.Top, at, subst (λ o. IfSome o P) at h)

-- where it doesn't fit, nothing does
pub front_fails : (p : Program) (locals : List TypeRef) (nodes : List Node) (k : ℕ) (n : Node) (b : Bool) → IsLink nodes k n → slot_count (chain nodes k) ≤ length locals →
    IfSome (slice_get locals (n.places - size n.kind)) (λ t. b ≡ fits (tree p) (named p t) (named p n.kind)) → b ≡ false → false ≡ front p locals nodes k
front_fails p locals nodes k n b link room h fails =
    let within = place_within nodes k n link in
    let one = tested locals (n.places - size n.kind) (λ t. b ≡ fits (tree p) (named p t) (named p n.kind)) (omega (arith, within.3)) h in
    sym (front_more p locals nodes k n one.0 link room one.1 ∙ ap (λ c. front p locals nodes n.parent && c) (sym one.2 ∙ fails) ∙ never (front p locals nodes n.parent))
  where
    never : (a : Bool) → (a && false) ≡ false
    never true = refl
    never false = refl

-- where it fits, the others are left
pub front_goes : (p : Program) (locals : List TypeRef) (nodes : List Node) (k : ℕ) (n : Node) (b : Bool) → IsLink nodes k n → slot_count (chain nodes k) ≤ length locals →
    IfSome (slice_get locals (n.places - size n.kind)) (λ t. b ≡ fits (tree p) (named p t) (named p n.kind)) → b ≡ true → front p locals nodes n.parent ≡ front p locals nodes k
front_goes p locals nodes k n b link room h passes =
    let within = place_within nodes k n link in
    let one = tested locals (n.places - size n.kind) (λ t. b ≡ fits (tree p) (named p t) (named p n.kind)) (omega (arith, within.3)) h in
    sym (front_more p locals nodes k n one.0 link room one.1 ∙ ap (λ c. front p locals nodes n.parent && c) (sym one.2 ∙ passes) ∙ always (front p locals nodes n.parent))
  where
    always : (a : Bool) → (a && true) ≡ a
    always true = refl
    always false = refl

-- ---- operands

pub lengths_differ : (f : VType → VType → Bool) (xs ys : List VType) → (length xs ≡ length ys → ⊥) → false ≡ all_fit f xs ys
unfolding all_fit
lengths_differ f [] [] h = absurd (h refl)
lengths_differ f [] (y ∷ ys) h = refl
lengths_differ f (x ∷ xs) [] h = refl
lengths_differ f (x ∷ xs) (y ∷ ys) h = never (f x y) (all_fit f xs ys) (lengths_differ f xs ys (λ e. h (ap suc e)))
  where
    never : (a b : Bool) → false ≡ b → false ≡ (a && b)
    never true b e = e
    never false b e = refl

pub stacks_differ : (p : Program) (f : VType → VType → Bool) (xs ys : List TypeRef) → (length xs ≡ length ys → ⊥) → false ≡ all_fit f (map (named p) xs) (map (named p) ys)
stacks_differ p f xs ys h = lengths_differ f (map (named p) xs) (map (named p) ys) (λ e. h (sym (length-map xs (named p)) ∙ e ∙ length-map ys (named p)))

abbrev pub rest_fits : Program → List TypeRef → List TypeRef → ℕ → Bool
rest_fits p xs ys i = stack_fits (fits (tree p)) (map (named p) (drop i xs)) (map (named p) (drop i ys))

pub rest_more : (p : Program) (xs ys : List TypeRef) (i : ℕ) (d e : TypeRef) → i < length xs → i < length ys →
    rest_fits p xs ys i ≡ (item_fits (fits (tree p)) (named p (get_or xs i d)) (named p (get_or ys i e)) && rest_fits p xs ys (suc i))
unfolding all_fit
rest_more p xs ys i d e lx ly =
    ap (λ zs. stack_fits (fits (tree p)) (map (named p) zs) (map (named p) (drop i ys))) (drop-cons xs i d lx)
    ∙ ap (λ zs. stack_fits (fits (tree p)) (map (named p) (get_or xs i d ∷ drop (suc i) xs)) (map (named p) zs)) (drop-cons ys i e ly)

pub rest_done : (p : Program) (xs ys : List TypeRef) (i : ℕ) → length xs ≤ i → length ys ≤ i → rest_fits p xs ys i ≡ true
unfolding all_fit
rest_done p xs ys i lx ly =
    ap (λ zs. stack_fits (fits (tree p)) (map (named p) zs) (map (named p) (drop i ys))) (drop_of_length-le xs lx)
    ∙ ap (λ zs. stack_fits (fits (tree p)) [] (map (named p) zs)) (drop_of_length-le ys ly)

-- ---- locals made anew

pub places_more : (nodes : List Node) (k : ℕ) (n : Node) (done new : List TypeRef) (all : List TypeRef) → IsLink nodes k n → new ≡ done ++ reverse (places n.kind) →
    flat_map places (values nodes k) ++ reverse done ≡ all → flat_map places (values nodes n.parent) ++ reverse new ≡ all
places_more nodes k n done new all link is so_far =
    let parts : flat_map places (values nodes k) ≡ flat_map places (values nodes n.parent) ++ places n.kind =
    ap (flat_map places) (values_more nodes nodes n.parent k n.kind link.chained) ∙ flat_map-append places (values nodes n.parent) (n.kind ∷ [])
    ∙ ap (λ ys. flat_map places (values nodes n.parent) ++ ys) (append-nil (places n.kind)) in
    let turned : reverse new ≡ places n.kind ++ reverse done = ap reverse is ∙ reverse-append done (reverse (places n.kind)) ∙ ap (λ ys. ys ++ reverse done) (reverse-reverse (places n.kind)) in
    ap (λ ys. flat_map places (values nodes n.parent) ++ ys) turned
    ∙ sym (append_assoc (flat_map places (values nodes n.parent)) (places n.kind) (reverse done))
    ∙ ap (λ ys. ys ++ reverse done) (sym parts) ∙ so_far

pub places_root : (nodes : List Node) (done all : List TypeRef) → flat_map places (values nodes 0) ++ reverse done ≡ all → reverse done ≡ all
places_root nodes done all so_far = ap (λ vs. flat_map places vs ++ reverse done) (sym (values_root nodes)) ∙ so_far

pub places_count : (p : Program) (ks : List TypeRef) → length (flat_map places (reverse ks)) ≡ slot_count ks
places_count p ks = sym (length-map (flat_map places (reverse ks)) (named p)) ∙ ap length (places_named p (reverse ks)) ∙ count_reversed p ks

-- ---- the parts of a frame

pub parts_fit : (p : Program) (nodes : List Node) (k : Kept) (locals oldest : List TypeRef) (flag : Bool) →
    frame_fits (tree p) (frame_seen p locals (reverse oldest) flag) (frame_named p (length locals) (given nodes k))
    ≡ (all_fit (fits (tree p)) (map (named p) locals) (filled (length locals) (places_of (map (named p) (values nodes k.last)))) && stack_fits (fits (tree p)) (map (named p) oldest) (map (named p) k.stack) && implies flag (list_any is_this (chain nodes k.last)))
parts_fit p nodes k locals oldest flag =
    let f = fits (tree p) in
    let ls = all_fit f (map (named p) locals) (filled (length locals) (places_of (map (named p) (values nodes k.last)))) in
    let turned : stack_fits f (map (named p) (reverse oldest)) (map (named p) (reverse k.stack)) ≡ stack_fits f (map (named p) oldest) (map (named p) k.stack) =
    ap (λ xs. stack_fits f xs (map (named p) (reverse k.stack))) (map_reversed (named p) oldest)
    ∙ ap (λ xs. stack_fits f (reverse (map (named p) oldest)) xs) (map_reversed (named p) k.stack)
    ∙ reversed_fit (item_fits f) (map (named p) oldest) (map (named p) k.stack) in
    ap (λ b. ls && b && implies flag (list_any is_uninit_this (map (named p) (values nodes k.last)))) turned
    ∙ ap (λ b. ls && stack_fits f (map (named p) oldest) (map (named p) k.stack) && implies flag b) (flag_named p (chain nodes k.last))

third_fails : (a b c : Bool) → c ≡ false → false ≡ (a && b && c)
third_fails true true c e = sym e
third_fails true false c e = refl
third_fails false b c e = refl

second_fails : (a b c : Bool) → b ≡ false → false ≡ (a && b && c)
second_fails true b c e = ap (λ d. d && c) (sym e)
second_fails false b c e = refl

first_counts : (a b c : Bool) → b ≡ true → c ≡ true → a ≡ (a && b && c)
first_counts true b c eb ec = sym (ap (λ d. d && c) eb ∙ ec)
first_counts false b c eb ec = refl

abbrev locals_part : Program → List Node → Kept → List TypeRef → Bool
locals_part p nodes k locals = all_fit (fits (tree p)) (map (named p) locals) (filled (length locals) (places_of (map (named p) (values nodes k.last))))

abbrev stack_part : Program → Kept → List TypeRef → Bool
stack_part p k oldest = stack_fits (fits (tree p)) (map (named p) oldest) (map (named p) k.stack)

abbrev flag_part : List Node → Kept → Bool → Bool
flag_part nodes k flag = implies flag (list_any is_this (chain nodes k.last))

pub flag_fails : (p : Program) (nodes : List Node) (k : Kept) (locals oldest : List TypeRef) (flag : Bool) → implies flag (list_any is_this (chain nodes k.last)) ≡ false →
    false ≡ frame_fits (tree p) (frame_seen p locals (reverse oldest) flag) (frame_named p (length locals) (given nodes k))
flag_fails p nodes k locals oldest flag e =
    third_fails (locals_part p nodes k locals) (stack_part p k oldest) (flag_part nodes k flag) e ∙ sym (parts_fit p nodes k locals oldest flag)

pub stack_fails : (p : Program) (nodes : List Node) (k : Kept) (locals oldest : List TypeRef) (flag : Bool) → stack_fits (fits (tree p)) (map (named p) oldest) (map (named p) k.stack) ≡ false →
    false ≡ frame_fits (tree p) (frame_seen p locals (reverse oldest) flag) (frame_named p (length locals) (given nodes k))
stack_fails p nodes k locals oldest flag e =
    second_fails (locals_part p nodes k locals) (stack_part p k oldest) (flag_part nodes k flag) e ∙ sym (parts_fit p nodes k locals oldest flag)

pub locals_count : (p : Program) (nodes : List Node) (k : Kept) (locals oldest : List TypeRef) (flag : Bool) → stack_fits (fits (tree p)) (map (named p) oldest) (map (named p) k.stack) ≡ true →
    implies flag (list_any is_this (chain nodes k.last)) ≡ true →
    all_fit (fits (tree p)) (map (named p) locals) (filled (length locals) (places_of (map (named p) (values nodes k.last)))) ≡ frame_fits (tree p) (frame_seen p locals (reverse oldest) flag) (frame_named p (length locals) (given nodes k))
locals_count p nodes k locals oldest flag es ef =
    first_counts (locals_part p nodes k locals) (stack_part p k oldest) (flag_part nodes k flag) es ef ∙ sym (parts_fit p nodes k locals oldest flag)

-- locals that are those of the declared frame fit it
all_self : (f : VType → VType → Bool) → ((a : VType) → f a a ≡ true) → (xs : List VType) → all_fit f xs xs ≡ true
unfolding all_fit
all_self f own [] = refl
all_self f own (a ∷ xs) = joined (f a a) (all_fit f xs xs) (own a) (all_self f own xs)
  where
    joined : (a b : Bool) → a ≡ true → b ≡ true → (a && b) ≡ true
    joined true b ea eb = eb
    joined false b ea eb = absurd cc

pub same_fits : (p : Program) (nodes : List Node) (k : Kept) (locals oldest : List TypeRef) (flag : Bool) → map (named p) locals ≡ (frame_named p (length locals) (given nodes k)).locals →
    stack_fits (fits (tree p)) (map (named p) oldest) (map (named p) k.stack) ≡ true → implies flag (list_any is_this (chain nodes k.last)) ≡ true →
    true ≡ frame_fits (tree p) (frame_seen p locals (reverse oldest) flag) (frame_named p (length locals) (given nodes k))
same_fits p nodes k locals oldest flag same es ef =
    let all = filled (length locals) (places_of (map (named p) (values nodes k.last))) in
    sym (ap (λ xs. all_fit (fits (tree p)) xs all) same ∙ all_self (fits (tree p)) (fits_itself is_above_arrays (tree p) (itself p)) all)
    ∙ locals_count p nodes k locals oldest flag es ef

-- ---- declared frames by their parts

abbrev framed : List VType → List VType → Bool → Frame
framed locals stack flag = record { locals = locals; stack = stack; flag = flag }

pub frame_with : (p : Program) (nodes : List Node) (k : Kept) (most : ℕ) (locals : List VType) (stack : List TypeRef) (flag : Bool) → locals ≡ (frame_named p most (given nodes k)).locals → stack ≡ reverse k.stack →
    flag ≡ list_any is_this (chain nodes k.last) → framed locals (map (named p) stack) flag ≡ frame_named p most (given nodes k)
frame_with p nodes k most locals stack flag el es ef =
    let vs = filled most (places_of (map (named p) (values nodes k.last))) in
    ap (λ ls. framed ls (map (named p) stack) flag) el
    ∙ ap (λ xs. framed vs (map (named p) xs) flag) es
    ∙ ap (framed vs (map (named p) (reverse k.stack))) (ef ∙ sym (flag_named p (chain nodes k.last)))

-- a frame made anew is the one that is kept
pub frame_again : (p : Program) (nodes : List Node) (k : Kept) (most : ℕ) (items locals stack : List TypeRef) (flag : Bool) → items ≡ flat_map places (values nodes k.last) → locals ≡ items ++ replicate (most - length items) refs.Top →
    stack ≡ reverse k.stack → flag ≡ list_any is_this (chain nodes k.last) → frame_seen p locals stack flag ≡ frame_named p most (given nodes k)
frame_again p nodes k most items locals stack flag ei el es ef =
    let vs = places_of (map (named p) (values nodes k.last)) in
    let one : map (named p) items ≡ vs = ap (map (named p)) ei ∙ places_named p (values nodes k.last) in
    let count : length items ≡ length vs = sym (length-map items (named p)) ∙ ap length one in
    let all : map (named p) locals ≡ filled most vs =
    ap (map (named p)) el ∙ map-append (named p) items (replicate (most - length items) refs.Top)
    ∙ ap (λ xs. xs ++ map (named p) (replicate (most - length items) refs.Top)) one
    ∙ ap (λ xs. vs ++ xs) (tops_named p (most - length items)) ∙ ap (λ n. vs ++ replicate (most - n) types.Top) count in
    frame_with p nodes k most (map (named p) locals) stack flag all es ef
  where
    tops_named : (p : Program) (n : ℕ) → map (named p) (replicate n refs.Top) ≡ replicate n types.Top
    tops_named p zero = refl
    tops_named p (suc n) = ap (λ xs. types.Top ∷ xs) (tops_named p n)
