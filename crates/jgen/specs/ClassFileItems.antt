-- What stands in a class file behind its pool, item by item, and the entries that its items put into the pool.
use Rattle.std.specs.Prelude.{◌≡◌, ℕ, ◌+◌, ◌≤◌, ◌<◌, Bool, true, ◌&&◌, nat_le, List, [], ◌∷◌, ◌++◌, length, Result, IfOk}
use Rattle.std.specs.Int.{w16, w32, to_be_bytes}
use Rattle.jparts.specs.declared.jpool.entry.Entry.{Entry}
use Rattle.jparts.specs.declared.jpool.entry.Entry.TheVariants as entries
use Rattle.jmove.specs.PoolAdditions.{Adding, ◌>>◌, with_class, with_entry, with_member, with_text}
use Rattle.jgen.specs.declared.class_file_item.ClassFileItem.{ClassFileItem}
use Rattle.jgen.specs.declared.class_file_item.ClassFileItem.TheVariants as pieces
use Rattle.jgen.specs.declared.laying.Draft.{Draft}

-- ---- entries

unfoldable pub with_string : List ℕ → Adding ℕ
with_string text = with_text text >> λ n. with_entry (entries.Str n)

unfoldable pub with_field : List ℕ → List ℕ → List ℕ → Adding ℕ
with_field class name type = with_class class >> λ c. with_member name type >> λ b. with_entry (entries.Field c b)

unfoldable pub with_method : List ℕ → List ℕ → List ℕ → Adding ℕ
with_method class name type = with_class class >> λ c. with_member name type >> λ b. with_entry (entries.Method c b)

-- An index and the entries are those of an addition, which puts at most so many.
pub record IsPut (most : ℕ) (f : Adding ℕ) (i : ℕ) (old new : List Entry) : Type 0 where
  pub value : f old ≡ (i, new)
  pub few : length new ≤ length old + most
  pub within : i < length new

-- The call put what it was to put.
abbrev pub Puts : {E : Type 0} → ℕ → Adding ℕ → Result ℕ E → List Entry → List Entry → Type 0
Puts most f result old new = IfOk result (λ i. IsPut most f i old new)

-- ---- items

pub data Item : Type 0 where
  -- a number of one byte, of two, of four
  U1 : ℕ → Item
  U2 : ℕ → Item
  U4 : ℕ → Item
  -- the index of a text, of a class, of a class's field or method, in two bytes
  Text : List ℕ → Item
  Class : List ℕ → Item
  Field : (class name type : List ℕ) → Item
  Method : (class name type : List ℕ) → Item
  -- the index of a string, in one byte
  Str : List ℕ → Item

-- these bytes behind the others
abbrev pub with_bytes : List ℕ → Draft → Draft
with_bytes bytes d = record { pool = d.pool; body = d.body ++ bytes }

-- an index in two bytes, of an entry that is put into the pool
abbrev pub with_index : ℕ × List Entry → Draft → Draft
with_index x d = record { pool = x.1; body = d.body ++ to_be_bytes w16 x.0 }

-- an index in one byte
abbrev pub with_small : ℕ × List Entry → Draft → Draft
with_small x d = record { pool = x.1; body = d.body ++ x.0 ∷ [] }

-- an item behind the others
unfoldable pub with_item : Item → Draft → Draft
with_item (U1 n) d = with_bytes (n ∷ []) d
with_item (U2 n) d = with_bytes (to_be_bytes w16 n) d
with_item (U4 n) d = with_bytes (to_be_bytes w32 n) d
with_item (Text text) d = with_index (with_text text d.pool) d
with_item (Class name) d = with_index (with_class name d.pool) d
with_item (Field class name type) d = with_index (with_field class name type d.pool) d
with_item (Method class name type) d = with_index (with_method class name type d.pool) d
with_item (Str text) d = with_small (with_string text d.pool) d

-- items behind the others
unfoldable pub with_items : List Item → Draft → Draft
with_items [] d = d
with_items (item ∷ items) d = with_items items (with_item item d)

-- ---- lengths

unfoldable pub widths : List Item → ℕ
widths [] = 0
widths (item ∷ items) = (elim item [ U1 n ↦ 1 | U4 n ↦ 4 | Str text ↦ 1 | _ ↦ 2 ]) + widths items

-- items behind the number of their bytes
abbrev pub block : List Item → List Item
block items = U4 (widths items) ∷ items

-- ---- what code is handed

abbrev pub item_of : ClassFileItem → Item
item_of (pieces.U1 n) = U1 n
item_of (pieces.U2 n) = U2 n
item_of (pieces.U4 n) = U4 n
item_of (pieces.Text text) = Text text.now
item_of (pieces.Class name) = Class name.now
item_of (pieces.Field class name type) = Field class.now name.now type.now
item_of (pieces.Method class name type) = Method class.now name.now type.now
item_of (pieces.Str text) = Str text.now

-- ---- room

-- the most entries that an item puts
abbrev pub most : Item → ℕ
most (U1 n) = 0
most (U2 n) = 0
most (U4 n) = 0
most (Text text) = 1
most (Class name) = 2
most (Field class name type) = 6
most (Method class name type) = 6
most (Str text) = 2

-- the most entries that items put
unfoldable pub most_of : List Item → ℕ
most_of [] = 0
most_of (item ∷ items) = most item + most_of items

-- a text that an entry has room for
abbrev pub is_short : List ℕ → Bool
is_short text = nat_le (length text) 0xffff

-- whether the texts that an item names have room in an entry
abbrev pub is_named_shortly : Item → Bool
is_named_shortly (Text text) = is_short text
is_named_shortly (Class name) = is_short name
is_named_shortly (Field class name type) = is_short class && (is_short name && is_short type)
is_named_shortly (Method class name type) = is_short class && (is_short name && is_short type)
is_named_shortly (Str text) = is_short text
is_named_shortly _ = true

-- the greatest index that an item has bytes for
abbrev pub greatest : Item → ℕ
greatest (Str text) = 0xff
greatest _ = 0xffff

-- whether an item can be put behind so many entries
abbrev pub has_room : ℕ → Item → Bool
has_room n item = is_named_shortly item && nat_le (n + most item) (greatest item)

-- whether items can be put behind so many entries
unfoldable pub have_room : ℕ → List Item → Bool
have_room n [] = true
have_room n (item ∷ items) = has_room n item && have_room (n + most item) items
