-- How many bytes the files of a made job have at most: each fewer than 64 MiB.
use Rattle.std.proofs.Common.{◌≡◌, ◌==◌, ℕ, zero, suc, ◌+◌, ◌*◌, ◌/◌, ◌%◌, ◌≤◌, Bool, true, false, List, [], ◌∷◌, ◌++◌, length, Option, Some, None, codes, decimal, refl, ap, arith}
use Rattle.std.specs.Prelude.{if◌then◌else◌}
use Rattle.std.specs.Int.{to_be_bytes, w16, w32}
use Rattle.std.specs.Fmt.{digit_glyph, digits, digits_onto}
use Rattle.std.specs.List.{position}
use Rattle.std.proofs.lemmas.List.{length-append}
use Rattle.jground.specs.jformat.Format.{known, part_spell, void}
use Rattle.jground.specs.jformat.StatefulFormats.{spell_from}
use Rattle.jparts.specs.declared.jpool.entry.Entry.{Entry}
use Rattle.jparts.specs.declared.jpool.entry.Entry.TheVariants as entries
use Rattle.jparts.specs.declared.jpool.fault.PoolFault.{PoolFault}
use Rattle.jparts.specs.declared.jpool.slots.Slot.{Slot}
use Rattle.jparts.specs.jpool.PoolEntries.{entry, first_slot, narrow, next_slot, shape, slot, unused}
use Rattle.jparts.specs.jpool.EntryLayouts.{laid}
use Rattle.jadder.specs.EntryInterning.{same}
use Rattle.jmove.specs.PoolAdditions.{Adding, found_or, with_class, with_entry, with_member, with_text, ◌>>◌}
use Rattle.jgen.specs.declared.draws.Kind.{Kind}
use Rattle.jgen.specs.declared.laying.Draft.{Draft}
use Rattle.jgen.specs.ClassFileItems.{Item, U1, U2, U4, Text, Class, Field, Method, Str, with_field, with_item, with_items, with_method, with_string}
use Rattle.jgen.specs.GeneratedClasses.{call, calls, class_bytes, class_items, f_method, head, init_method, main_method, name, run_method}
use Rattle.jgen.specs.GeneratedFiles.{base, grant, grants, job_text, path, source, sources}
use Rattle.jgen.specs.ProofNames.{blank}

-- ---- a pool

-- the most bytes of an entry
abbrev cost : Entry → ℕ
cost (entries.Utf8 text) = 3 + length text
cost _ = 9

-- those of entries
abbrev costs : List Entry → ℕ
costs [] = 0
costs (e ∷ es) = cost e + costs es

costs_both : (xs ys : List Entry) → costs (xs ++ ys) ≡ costs xs + costs ys
costs_both [] ys = omega arith
costs_both (x ∷ xs) ys = omega (arith, costs_both xs ys)

entry_costs : (e : Entry) → length (entry.spell e) ≤ cost e
unfolding entry
entry_costs (entries.Utf8 text) = omega arith
entry_costs other = omega arith

unused_costs : (e : Entry) → length (unused.spell e) ≡ 0
unfolding unused
unused_costs entries.Unused = refl
unused_costs other = refl

slot_costs : (s : Slot) (e : Entry) → length ((slot s).spell e) ≤ cost e
unfolding narrow
slot_costs s e = by s.taken (s.left == 1)
  where
    by : (taken last : Bool) → length ((if taken then unused else if last then narrow else entry).spell e) ≤ cost e
    by true last = omega (arith, unused_costs e)
    by false true = entry_costs e
    by false false = entry_costs e

slots_cost : (s : Slot) (es : List Entry) → length (spell_from (λ t. (slot t).spell) next_slot s es) ≤ costs es
unfolding spell_from
slots_cost s [] = omega arith
slots_cost s (e ∷ es) = omega (arith, slot_costs s e, slots_cost (next_slot s e) es, length-append ((slot s).spell e) (spell_from (λ t. (slot t).spell) next_slot (next_slot s e) es))

known_costs : (n k : ℕ) → length ((known {K = PoolFault} n).spell k) ≡ 0
known_costs n k = by (k == n)
  where
    by : (same : Bool) → length (part_spell {K = PoolFault} void (if same then Some tt else None)) ≡ 0
    by true = refl
    by false = refl

pool_costs : (es : List Entry) → length (shape.spell es) ≤ 2 + costs es
unfolding shape
pool_costs es =
    let slots = spell_from (λ t. (slot t).spell) next_slot (first_slot (length es)) es in
    let count = (known {K = PoolFault} (length es)).spell (length es) in
    let all : shape.spell es ≡ to_be_bytes w16 (length es) ++ (count ++ slots) = refl in
    omega (arith, slots_cost (first_slot (length es)) es, known_costs (length es) (length es), ap (λ (bytes : List ℕ). length bytes) all, length-append count slots)

-- ---- what is put into a pool

-- an addition puts at most so many bytes
abbrev Adds : ℕ → Adding ℕ → Type 0
Adds most f = (pool : List Entry) → costs (f pool).1 ≤ costs pool + most

entry_adds : (e : Entry) (most : ℕ) → costs (laid e) ≤ most → Adds most (with_entry e)
unfolding with_entry
entry_adds e most small pool = by (position (same e) pool)
  where
    by : (o : Option ℕ) → costs (found_or e pool o).1 ≤ costs pool + most
    by (Some i) = omega arith
    by None = omega (arith, small, costs_both pool (laid e))

both_add : (m n : ℕ) (f : Adding ℕ) (g : ℕ → Adding ℕ) → Adds m f → ((i : ℕ) → Adds n (g i)) → Adds (m + n) (f >> g)
unfolding ◌>>◌
both_add m n f g first second pool = omega (arith, first pool, second (f pool).0 (f pool).1)

text_adds : (text : List ℕ) → Adds (3 + length text) (with_text text)
text_adds text = entry_adds (entries.Utf8 text) (3 + length text) (omega arith)

class_adds : (name : List ℕ) → Adds (3 + length name + 9) (with_class name)
unfolding with_class
class_adds name = both_add (3 + length name) 9 (with_text name) (λ n. with_entry (entries.Class n)) (text_adds name) (λ n. entry_adds (entries.Class n) 9 (omega arith))

member_adds : (name type : List ℕ) → Adds (3 + length name + (3 + length type + 9)) (with_member name type)
unfolding with_member
member_adds name type =
    both_add (3 + length name) (3 + length type + 9) (with_text name) (λ n. with_text type >> λ d. with_entry (entries.NameAndType n d)) (text_adds name)
    (λ n. both_add (3 + length type) 9 (with_text type) (λ d. with_entry (entries.NameAndType n d)) (text_adds type) (λ d. entry_adds (entries.NameAndType n d) 9 (omega arith)))

string_adds : (text : List ℕ) → Adds (3 + length text + 9) (with_string text)
unfolding with_string
string_adds text = both_add (3 + length text) 9 (with_text text) (λ n. with_entry (entries.Str n)) (text_adds text) (λ n. entry_adds (entries.Str n) 9 (omega arith))

-- the bytes that a reference to a member of a class puts
abbrev reference : List ℕ → List ℕ → List ℕ → ℕ
reference class name type = 3 + length class + 9 + (3 + length name + (3 + length type + 9) + 9)

field_adds : (class name type : List ℕ) → Adds (reference class name type) (with_field class name type)
unfolding with_field
field_adds class name type =
    both_add (3 + length class + 9) (3 + length name + (3 + length type + 9) + 9) (with_class class) (λ c. with_member name type >> λ b. with_entry (entries.Field c b)) (class_adds class)
    (λ c. both_add (3 + length name + (3 + length type + 9)) 9 (with_member name type) (λ b. with_entry (entries.Field c b)) (member_adds name type) (λ b. entry_adds (entries.Field c b) 9 (omega arith)))

method_adds : (class name type : List ℕ) → Adds (reference class name type) (with_method class name type)
unfolding with_method
method_adds class name type =
    both_add (3 + length class + 9) (3 + length name + (3 + length type + 9) + 9) (with_class class) (λ c. with_member name type >> λ b. with_entry (entries.Method c b)) (class_adds class)
    (λ c. both_add (3 + length name + (3 + length type + 9)) 9 (with_member name type) (λ b. with_entry (entries.Method c b)) (member_adds name type) (λ b. entry_adds (entries.Method c b) 9 (omega arith)))

-- ---- items

-- the most bytes that an item puts, in the pool and behind it
abbrev item_cost : Item → ℕ
item_cost (U1 n) = 1
item_cost (U2 n) = 2
item_cost (U4 n) = 4
item_cost (Text text) = 3 + length text + 2
item_cost (Class name) = 3 + length name + 9 + 2
item_cost (Field class name type) = reference class name type + 2
item_cost (Method class name type) = reference class name type + 2
item_cost (Str text) = 3 + length text + 9 + 1

abbrev items_cost : List Item → ℕ
items_cost [] = 0
items_cost (item ∷ items) = item_cost item + items_cost items

abbrev total : Draft → ℕ
total d = costs d.pool + length d.body

behind : (d : Draft) (bytes : List ℕ) → length (d.body ++ bytes) ≡ length d.body + length bytes
behind d bytes = length-append d.body bytes

item_costs : (item : Item) (d : Draft) → total (with_item item d) ≤ total d + item_cost item
unfolding with_item
item_costs (U1 n) d = omega (arith, behind d (n ∷ []))
item_costs (U2 n) d = omega (arith, behind d (to_be_bytes w16 n))
item_costs (U4 n) d = omega (arith, behind d (to_be_bytes w32 n))
item_costs (Text text) d = omega (arith, text_adds text d.pool, behind d (to_be_bytes w16 (with_text text d.pool).0))
item_costs (Class name) d = omega (arith, class_adds name d.pool, behind d (to_be_bytes w16 (with_class name d.pool).0))
item_costs (Field class name type) d = omega (arith, field_adds class name type d.pool, behind d (to_be_bytes w16 (with_field class name type d.pool).0))
item_costs (Method class name type) d = omega (arith, method_adds class name type d.pool, behind d (to_be_bytes w16 (with_method class name type d.pool).0))
item_costs (Str text) d = omega (arith, string_adds text d.pool, behind d ((with_string text d.pool).0 ∷ []))

all_cost : (items : List Item) (d : Draft) → total (with_items items d) ≤ total d + items_cost items
unfolding with_items
all_cost [] d = omega arith
all_cost (item ∷ items) d = omega (arith, item_costs item d, all_cost items (with_item item d))

cost_both : (xs ys : List Item) → items_cost (xs ++ ys) ≡ items_cost xs + items_cost ys
cost_both [] ys = omega arith
cost_both (x ∷ xs) ys = omega (arith, cost_both xs ys)

-- ---- names

onto_short : (k n : ℕ) (acc : List ℕ) → length (digits_onto k 10 false n acc) ≤ k + length acc
onto_short zero n acc = omega arith
onto_short (suc k) n acc = by (n / 10 == 0) (onto_short k (n / 10) (digit_glyph false (n % 10) ∷ acc))
  where
    by : (b : Bool) → length (digits_onto k 10 false (n / 10) (digit_glyph false (n % 10) ∷ acc)) ≤ k + length (digit_glyph false (n % 10) ∷ acc)
        → length (if b then digit_glyph false (n % 10) ∷ acc else digits_onto k 10 false (n / 10) (digit_glyph false (n % 10) ∷ acc)) ≤ suc k + length acc
    by true h = omega arith
    by false h = omega (arith, h)

decimal_short : (n : ℕ) → length (decimal n) ≤ 64
unfolding digits
decimal_short n = omega (arith, onto_short 64 n [])

name_short : (i : ℕ) → length (name i) ≤ 65
name_short i = omega (arith, decimal_short i)

-- ---- classes

calls_cost : (i n : ℕ) → items_cost (calls i n) ≤ 200 * n
unfolding calls
calls_cost i zero = omega arith
calls_cost i (suc n) = omega (arith, name_short i, calls_cost (i + 1) n, cost_both (call (name i)) (calls (i + 1) n))

main_cost : (size : ℕ) → size ≤ 1000 → items_cost (main_method size) ≤ 201000
main_cost size few =
    let code = calls 0 size ++ U1 0xb1 ∷ [] in
    omega (arith, few, calls_cost 0 size, cost_both (calls 0 size) (U1 0xb1 ∷ []), cost_both code (U2 0 ∷ []), cost_both (code ++ U2 0 ∷ []) (U2 0 ∷ []))

f_cost : (privileged : Bool) (own next : List ℕ) → length own ≤ 65 → length next ≤ 65 → items_cost (f_method privileged own next) ≤ 5000
f_cost true own next a b = omega (arith, a, b)
f_cost false own next a b = omega (arith, a, b)

init_cost : items_cost init_method ≤ 1000
init_cost = omega arith

run_cost : (own next : List ℕ) → length own ≤ 65 → length next ≤ 65 → items_cost (run_method own next) ≤ 2000
run_cost own next a b = omega (arith, a, b)

head_cost : (own : List ℕ) (methods : ℕ) → length own ≤ 65 → items_cost (head own methods) ≤ 1000
head_cost own methods a = omega (arith, a)

behind_cost : (first : Bool) (size : ℕ) → size ≤ 1000 → items_cost (if first then main_method size else []) ≤ 201000
behind_cost true size few = main_cost size few
behind_cost false size few = omega arith

six_cost : (a b c d e f : List Item) → items_cost a ≤ 1000 → items_cost b ≤ 1000 → items_cost c ≤ 2000 → items_cost d ≤ 5000 → items_cost e ≤ 201000 → items_cost f ≤ 2
    → items_cost (a ++ b ++ c ++ d ++ e ++ f) ≤ 210002
six_cost a b c d e f ha hb hc hd he hf =
    omega (arith, cost_both a b, cost_both (a ++ b) c, cost_both (a ++ b ++ c) d, cost_both (a ++ b ++ c ++ d) e, cost_both (a ++ b ++ c ++ d ++ e) f)

class_cost : (size i : ℕ) (kind : Kind) → size ≤ 1000 → items_cost (class_items size i kind) ≤ 210002
unfolding class_items
class_cost size i kind few =
    let own = name_short i in
    let next = name_short kind.next in
    six_cost (head (name i) (if i == 0 then 4 else 3)) init_method (run_method (name i) (name kind.next)) (f_method kind.privileged (name i) (name kind.next))
    (if i == 0 then main_method size else []) (U2 0 ∷ [])
    (head_cost (name i) (if i == 0 then 4 else 3) own) init_cost (run_cost (name i) (name kind.next) own next) (f_cost kind.privileged (name i) (name kind.next) own next)
    (behind_cost (i == 0) size few) (omega arith)

pub class_small : (size i : ℕ) (kind : Kind) → size ≤ 1000 → length (class_bytes size i kind) ≤ 67108864
unfolding class_bytes
class_small size i kind few =
    let d = with_items (class_items size i kind) blank in
    omega (arith, class_cost size i kind few, all_cost (class_items size i kind) blank, pool_costs d.pool, length-append (shape.spell d.pool) d.body)

-- ---- the job and its policy

base_short : (i : ℕ) → length (base i) ≤ 100
base_short i = omega (arith, decimal_short i, length-append (decimal i) (codes "/"))

path_short : (i : ℕ) → length (path i) ≤ 100
path_short i = omega (arith, name_short i, length-append (name i) (codes ".class"))

source_short : (i : ℕ) → length (source i) ≤ 300
source_short i =
    let url = decimal i ++ codes "/" in
    omega (
      arith,
      decimal_short i,
      path_short i,
      length-append (decimal i) (codes "/"),
      length-append url (codes "\nclass "),
      length-append (url ++ codes "\nclass ") (path i),
      length-append (url ++ codes "\nclass " ++ path i) (codes "\n"),
    )

sources_small : (i n : ℕ) → length (sources i n) ≤ 300 * n
unfolding sources
sources_small i zero = omega arith
sources_small i (suc n) = omega (arith, source_short i, sources_small (i + 1) n, length-append (source i) (sources (i + 1) n))

pub job_small : (size : ℕ) → size ≤ 1000 → length (job_text size) ≤ 67108864
job_small size few = omega (arith, few, sources_small 0 size, length-append (sources 0 size) (codes "main G0\n"))

grant_short : (i : ℕ) → length (grant i) ≤ 300
grant_short i = omega (arith, base_short i, length-append (base i) (codes "\" { permission java.util.PropertyPermission \"p\", \"read\"; };\n"))

pub grants_small : (i : ℕ) (ks : List Kind) → length (grants i ks) ≤ 300 * length ks
unfolding grants
grants_small i [] = omega arith
grants_small i (k ∷ ks) = omega (arith, one k.granted, grants_small (i + 1) ks, length-append (if k.granted then grant i else []) (grants (i + 1) ks))
  where
    one : (granted : Bool) → length (if granted then grant i else []) ≤ 300
    one true = grant_short i
    one false = omega arith
