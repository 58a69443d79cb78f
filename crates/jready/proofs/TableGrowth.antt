-- What stood for something in tables stands for the same when they have grown.
use Rattle.std.proofs.Common.{◌≡◌, ℕ, zero, suc, ◌+◌, ◌<◌, ◌≤◌, ◌⊎◌, inl, inr, Bool, List, [], ◌∷◌, ◌++◌, length, take, drop, map, Option, Some, refl, sym}
use Rattle.std.proofs.Common.{ap, subst, ◌∙◌, arith}
use Rattle.std.specs.Prelude.{nat_lt, option_map, slice_get}
use Rattle.std.proofs.lemmas.Bool.{cases_lt}
use Rattle.std.proofs.lemmas.List.{drop-append-le, drop_at, length-append, length-drop, take-append-le, take_all}
use Rattle.jparts.specs.declared.jpool.entry.Entry.{Entry}
use Rattle.jparts.specs.declared.jcode.op_form.Simple.TheVariants as simples
use Rattle.jparts.specs.declared.jcode.op.Placed.{Placed}
use Rattle.jresolution.specs.jprogram.ProgramClasses.{Program}
use Rattle.jresolution.specs.declared.juses.numbered.Key.{Key}
use Rattle.jresolution.specs.declared.juses.types.TypeRef.{TypeRef}
use Rattle.jresolution.specs.juses.IndexedInstructions.{Simple, Switch}
use Rattle.jresolution.specs.juses.InstructionMeanings as meanings
use Rattle.jresolution.specs.juses.InternedInstructions.{keyed_as, keys_from}
use Rattle.jresolution.specs.juses.PoolTables.{Grows, pool_at}
use Rattle.jresolution.proofs.JusesProofs.Spans.{grows_not, grows_on}
use Rattle.jready.specs.declared.instr.Instr.{Instr}
use Rattle.jready.specs.declared.instr.Instr.TheVariants as instr
use Rattle.jready.specs.declared.instr.ObjectInstr.{ObjectInstr}
use Rattle.jready.specs.declared.instr.ObjectInstr.TheVariants as object
use Rattle.jready.specs.declared.instr.OperandOp.{OperandOp}
use Rattle.jready.specs.declared.instr.OperandOp.TheVariants as plain
use Rattle.jready.specs.declared.instr.Push.{Push}
use Rattle.jready.specs.declared.instr.Push.TheVariants as push
use Rattle.jready.specs.declared.instr.Table.{Table}
use Rattle.jready.specs.declared.tables.Tables.{Tables}
use Rattle.jready.specs.InlineOperands.{Exact, ExactObject}
use Rattle.jready.specs.CodeLayout.{AreLaid, PlainWithin, PushWithin, Stands, Within}
use Rattle.jready.specs.DecodedInstructions.{meant, plain_meant, push_meant, pushed, table_meant}
use Rattle.jready.specs.TableGrowth.{AreThere, Grown, part}

pub under : (k j : ℕ) → k < j + 1 → (k < j) ⊎ (k ≡ j)
under k j lt = elim (cases_lt k j) [ inl less ↦ inl less | inr more ↦ inr (omega arith) ]

pub some_inj : {A : Type 0} {x y : A} → Some x ≡ Some y → x ≡ y
some_inj e = cc

pub pair_first : (A B : Type 0) (x y : A × B) → ◌≡◌ {A = Option (A × B)} (Some x) (Some y) → x.0 ≡ y.0
pair_first A B x y e = ap (λ (z : A × B). z.0) (some_inj e)

pub pair_second : (A B : Type 0) (x y : A × B) → ◌≡◌ {A = Option (A × B)} (Some x) (Some y) → x.1 ≡ y.1
pair_second A B x y e = ap (λ (z : A × B). z.1) (some_inj e)

-- ---- lists

pub get_more : {A : Type 0} (xs more : List A) (k : ℕ) → k < length xs → slice_get (xs ++ more) k ≡ slice_get xs k
get_more [] more k lt = absurd (omega arith)
get_more (x ∷ xs) more zero lt = refl
get_more (x ∷ xs) more (suc k) lt = get_more xs more k (omega arith)

pub get_grown : {A : Type 0} (xs ys : List A) (k : ℕ) → Grows xs ys → k < length xs → slice_get ys k ≡ slice_get xs k
get_grown xs ys k g lt = ap (λ l. slice_get l k) g.1 ∙ get_more xs g.0 k lt

pub get_put : {A : Type 0} (xs : List A) (x : A) → slice_get (xs ++ x ∷ []) (length xs) ≡ Some x
get_put [] x = refl
get_put (y ∷ xs) x = get_put xs x

pub got : {A : Type 0} (xs : List A) (i : ℕ) (x : A) → slice_get xs i ≡ Some x → i < length xs
got [] i x e = absurd cc
got (y ∷ xs) zero x e = omega arith
got (y ∷ xs) (suc i) x e = let lt = got xs i x e in omega arith

pub part_more : {A : Type 0} (xs more : List A) (first count : ℕ) → AreThere xs first count → part (xs ++ more) first count ≡ part xs first count
part_more xs more first count h =
    let here : drop first (xs ++ more) ≡ drop first xs ++ more = drop-append-le first xs more (omega arith) in
    let room : count ≤ length (drop first xs) = omega (arith, length-drop first xs) in
    ap (take count) here ∙ take-append-le count (drop first xs) more room

pub part_grown : {A : Type 0} (xs ys : List A) (first count : ℕ) → Grows xs ys → AreThere xs first count → part ys first count ≡ part xs first count
part_grown xs ys first count g h = ap (λ l. part l first count) g.1 ∙ part_more xs g.0 first count h

pub part_put : {A : Type 0} (old more : List A) (first count : ℕ) → first ≡ length old → count ≡ length more → part (old ++ more) first count ≡ more
part_put old more first count f c = ap (take count) (drop_at old more first (sym f)) ∙ take_all count more (omega arith)

-- ---- tables

pub grown_not : (t : Tables) → Grown t t
grown_not t = record { longs = grows_not t.longs; targets = grows_not t.targets; keys = grows_not t.keys; arrays = grows_not t.arrays }

pub grown_on : (t u v : Tables) → Grown t u → Grown u v → Grown t v
grown_on t u v a b = record {
  longs = grows_on t.longs u.longs v.longs a.longs b.longs;
  targets = grows_on t.targets u.targets v.targets a.targets b.targets;
  keys = grows_on t.keys u.keys v.keys a.keys b.keys;
  arrays = grows_on t.arrays u.arrays v.arrays a.arrays b.arrays;
}

pub less_grown : {A : Type 0} (xs ys : List A) (k : ℕ) → Grows xs ys → k < length xs → k < length ys
less_grown xs ys k g lt = let e = ap length g.1 ∙ length-append xs g.0 in omega arith

pub there_grown : {A : Type 0} (xs ys : List A) (n : ℕ) → Grows xs ys → n ≤ length xs → n ≤ length ys
there_grown xs ys n g le = let e = ap length g.1 ∙ length-append xs g.0 in omega arith

-- ---- instructions

plain_within : (t u : Tables) → Grown t u → (f : OperandOp) → PlainWithin t f → PlainWithin u f
plain_within t u g plain.Nothing h = tt
plain_within t u g plain.Null h = tt
plain_within t u g (plain.Int n) h = tt
plain_within t u g (plain.Long k) h = less_grown t.longs u.longs k g.longs h
plain_within t u g (plain.Two op) h = tt
plain_within t u g (plain.Divide op) h = tt
plain_within t u g (plain.One op) h = tt

push_within : (t u : Tables) → Grown t u → (f : Push) → PushWithin t f → PushWithin u f
push_within t u g (push.Int n) h = tt
push_within t u g (push.Long k) h = less_grown t.longs u.longs k g.longs h
push_within t u g (push.Text i) h = tt

pub within_grown : (t u : Tables) → Grown t u → (i : Instr) → Within t i → Within u i
within_grown t u g instr.Off h = tt
within_grown t u g (instr.Plain f) h = plain_within t u g f h
within_grown t u g (instr.Push f) h = push_within t u g f h
within_grown t u g (instr.Local f) h = tt
within_grown t u g (instr.Stack f) h = tt
within_grown t u g (instr.Flow f) h = tt
within_grown t u g (instr.Table c) h = there_grown t.targets u.targets ((c.first + 1) + c.count) g.targets h
within_grown t u g (instr.Lookup c) h = there_grown t.keys u.keys (c.first + c.count) g.keys h
within_grown t u g (instr.Array f) h = tt
within_grown t u g (instr.Object f) h = tt
within_grown t u g (instr.Field op cell narrow i declared field) h = tt
within_grown t u g (instr.Call how i params method) h = tt
within_grown t u g (instr.Library how i params call) h = tt

plain_more : (t u : Tables) → Grown t u → (f : OperandOp) → PlainWithin t f → plain_meant u f ≡ plain_meant t f
plain_more t u g plain.Nothing h = refl
plain_more t u g plain.Null h = refl
plain_more t u g (plain.Int n) h = refl
plain_more t u g (plain.Long k) h = ap (option_map (λ n. Simple (simples.Long n))) (get_grown t.longs u.longs k g.longs h)
plain_more t u g (plain.Two op) h = refl
plain_more t u g (plain.Divide op) h = refl
plain_more t u g (plain.One op) h = refl

push_more : (p : Program) (pool : List Entry) (t u : Tables) → Grown t u → (f : Push) → PushWithin t f → push_meant p pool u f ≡ push_meant p pool t f
push_more p pool t u g (push.Int n) h = refl
push_more p pool t u g (push.Long k) h = ap (option_map (λ n. pushed p pool (meanings.Long n))) (get_grown t.longs u.longs k g.longs h)
push_more p pool t u g (push.Text i) h = refl

table_more : (t u : Tables) → Grown t u → (c : Table) → (c.first + 1) + c.count ≤ length t.targets → table_meant u c ≡ table_meant t c
table_more t u g c h =
    let head : slice_get u.targets c.first ≡ slice_get t.targets c.first = get_grown t.targets u.targets c.first g.targets (omega arith) in
    let rest : part u.targets (c.first + 1) c.count ≡ part t.targets (c.first + 1) c.count =
    part_grown t.targets u.targets (c.first + 1) c.count g.targets h in
    ap (option_map (Switch (keys_from c.low (part u.targets (c.first + 1) c.count)))) head
    ∙ ap (λ (l : List ℕ). option_map (Switch (keys_from c.low l)) (slice_get t.targets c.first)) rest

pub meant_grown : (p : Program) (t u : Tables) (class : ℕ) → Grown t u → (i : Instr) → Within t i → meant p u class i ≡ meant p t class i
unfolding meant
meant_grown p t u class g instr.Off h = refl
meant_grown p t u class g (instr.Plain f) h = plain_more t u g f h
meant_grown p t u class g (instr.Push f) h = push_more p (pool_at p class) t u g f h
meant_grown p t u class g (instr.Local f) h = refl
meant_grown p t u class g (instr.Stack f) h = refl
meant_grown p t u class g (instr.Flow f) h = refl
meant_grown p t u class g (instr.Table c) h = table_more t u g c h
meant_grown p t u class g (instr.Lookup c) h = ap (λ (l : List Key). Some (Switch (map keyed_as l) c.other))
    (part_grown t.keys u.keys c.first c.count g.keys h)
meant_grown p t u class g (instr.Array f) h = refl
meant_grown p t u class g (instr.Object f) h = refl
meant_grown p t u class g (instr.Field op cell narrow i declared field) h = refl
meant_grown p t u class g (instr.Call how i params method) h = refl
meant_grown p t u class g (instr.Library how i params call) h = refl

-- ---- what they hold

object_exact : (p : Program) (types : List TypeRef) (t u : Tables) (class : ℕ) → Grown t u → (f : ObjectInstr) → ExactObject p types t class f
    → ExactObject p types u class f
object_exact p types t u class g (object.New i c) h = h
object_exact p types t u class g (object.NewLibrary i c) h = h
object_exact p types t u class g (object.NewArray i k) h =
    let made = h.makes in
    record {
      type = h.type;
      means = h.means;
      makes = record {
        array = made.array;
        there = get_grown t.arrays u.arrays k g.arrays (got t.arrays k made.array made.there)
            ∙ made.there;
        type = made.type;
      };
    }
object_exact p types t u class g (object.CastClass op i c) h = h
object_exact p types t u class g (object.Cast op i) h = h
object_exact p types t u class g (object.Out op i) h = h

exact_grown : (p : Program) (types : List TypeRef) (t u : Tables) (class : ℕ) → Grown t u → (i : Instr) → Exact p types t class i → Exact p types u class i
exact_grown p types t u class g instr.Off h = h
exact_grown p types t u class g (instr.Plain f) h = h
exact_grown p types t u class g (instr.Push f) h = h
exact_grown p types t u class g (instr.Local f) h = h
exact_grown p types t u class g (instr.Stack f) h = h
exact_grown p types t u class g (instr.Flow f) h = h
exact_grown p types t u class g (instr.Table c) h = h
exact_grown p types t u class g (instr.Lookup c) h = h
exact_grown p types t u class g (instr.Array f) h = h
exact_grown p types t u class g (instr.Object f) h = object_exact p types t u class g f h
exact_grown p types t u class g (instr.Field op cell narrow i declared field) h = h
exact_grown p types t u class g (instr.Call how i params method) h = h
exact_grown p types t u class g (instr.Library how i params call) h = h

-- ---- the instructions of a method

stands_grown : (p : Program) (types : List TypeRef) (t u : Tables) (class : ℕ) (ops : List Placed) (more : Bool) (one : Placed) (i : Instr) → Grown t u
    → Stands p types t class ops more one i → Stands p types u class ops more one i
stands_grown p types t u class ops more one i g h = record {
  means = meant_grown p t u class g i h.within
      ∙ h.means;
  within = within_grown t u g i h.within;
  exact = exact_grown p types t u class g i h.exact;
}

pub laid_none : (p : Program) (types : List TypeRef) (t : Tables) (class : ℕ) (ops : List Placed) (code : List Instr)
    → AreLaid p types t class ops code (length code) 0
laid_none p types t class ops code = record { there = omega arith; each = λ j one i lt at is. absurd (omega arith) }

pub laid_grown : (p : Program) (types : List TypeRef) (t u : Tables) (class : ℕ) (ops : List Placed) (code more : List Instr) (first count : ℕ) → Grown t u
    → Grows code more → AreLaid p types t class ops code first count → AreLaid p types u class ops more first count
laid_grown p types t u class ops code more first count g grows h = record {
  there = there_grown code more (first + count) grows h.there;
  each = λ j one i lt at is. stands_grown p types t u class ops (nat_lt (j + 1) (length ops)) one i g
      (h.each j one i lt at (sym (get_grown code more (first + j) grows (let le = h.there in omega arith)) ∙ is));
}

-- one more of them
pub laid_more : (p : Program) (types : List TypeRef) (t u : Tables) (class : ℕ) (ops : List Placed) (code : List Instr) (first j : ℕ) (one : Placed)
    (i : Instr) → Grown t u → length code ≡ first + j → slice_get ops j ≡ Some one
    → Stands p types u class ops (nat_lt (j + 1) (length ops)) one i → AreLaid p types t class ops code first j
    → AreLaid p types u class ops (code ++ i ∷ []) first (j + 1)
laid_more p types t u class ops code first j one i g len here stands h = record {
  there = let e = length-append code (i ∷ []) in omega arith;
  each = λ k other x lt at is. elim (under k j (omega arith)) [
    | inl less ↦ (laid_grown p types t u class ops code (code ++ i ∷ []) first j g (i ∷ [], refl) h).each k other x less at is
    | inr same ↦
        let at_j : slice_get ops j ≡ Some other = ap (slice_get ops) (sym same) ∙ at in
        let is_j : slice_get (code ++ i ∷ []) (length code) ≡ Some x = ap (slice_get (code ++ i ∷ [])) (len ∙ ap (λ (n : ℕ). first + n) (sym same)) ∙ is in
        let one_is : one ≡ other = some_inj (sym here ∙ at_j) in
        let i_is : i ≡ x = some_inj (sym (get_put code i) ∙ is_j) in
        subst (λ (n : ℕ). Stands p types u class ops (nat_lt (n + 1) (length ops)) other x) (sym same)
        (subst (λ (o : Placed). Stands p types u class ops (nat_lt (j + 1) (length ops)) o x) one_is
        (subst (λ (y : Instr). Stands p types u class ops (nat_lt (j + 1) (length ops)) one y) i_is stands))
  ];
}
