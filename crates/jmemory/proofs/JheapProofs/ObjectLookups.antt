-- Looks at objects: each tells the block in which its object lies.
use Rattle.std.proofs.Common.{◌≡◌, ◌∙◌, ℕ, zero, suc, ◌+◌, ◌-◌, ◌<◌, List, [], ◌∷◌, length, take, Option, Some, None, refl, sym, ap, ap₂, subst, arith}
use Rattle.std.specs.Prelude.{get_or, slice_get, unwrap_or, is_some, true}
use Rattle.std.specs.Option.{option_map}
use Rattle.std.proofs.lemmas.Option.{get_or_from_slice_get, slice_get-map}
use Rattle.jmemory.specs.declared.jheap.cell.Kind.{Kind}
use Rattle.jmemory.specs.declared.jheap.cell.Kind.TheVariants as kinds
use Rattle.jmemory.specs.declared.jheap.cell.Look.{Look}
use Rattle.jmemory.specs.jheap.Heaps.{Object, Heaped, HasCell, object_at, cells_at, charge, cost, look_by, look_at}
use Rattle.jmemory.specs.jheap.ObjectLayout.{IsWhole, AreWhole, behind, kind_of, object_in, objects_of}
use Rattle.jmemory.proofs.JheapProofs.ObjectBlocks.{Lies, block_is, held, is_whole, kind_in, len_in, lies, same, whole_at}
use Rattle.jmemory.specs.declared.jregion.region.Block.{Block}
use Rattle.jmemory.specs.jregion.Regions.{Regioned, cells_of}
use Rattle.jmemory.specs.jregion.Blocks.{AreBlocks, Lie, blocks_of}
use Rattle.jmemory.specs.jregion.RegionLaws.{AreLong}

-- ---- what blocks cost

charge_is : (kind : Kind) (n : ℕ) → charge kind n ≡ n + behind kind + 1
charge_is (kinds.Object c) n = omega arith
charge_is (kinds.Array c) n = omega arith
charge_is kinds.Text n = omega arith
charge_is kinds.Piece n = omega arith

abbrev charged : Object → ℕ
charged x = charge x.kind (length x.cells)

-- an object costs the cells in which it lies
charged_is : (cs : List ℕ) → IsWhole cs → charged (object_in cs) ≡ length cs
charged_is cs whole = let e = charge_is (object_in cs).kind (length (object_in cs).cells) in omega (arith, e, len_in cs whole)

-- a block begins behind what those before it cost
begins : (r : Regioned) (bs : List Block) (at end n : ℕ) (b : Block) → Lie at bs end → slice_get bs n ≡ Some b
    → ((k : ℕ) (c : Block) → slice_get bs k ≡ Some c → charged (object_in (cells_of r c)) ≡ c.len) → b.first ≡ at + cost (take n (objects_of r bs))
begins r [] at end n b lie is costs = cc
begins r (c ∷ bs) at end zero b lie is costs = let e : c.first ≡ b.first = ap (λ (x : Block). x.first) (same c b is) in omega (arith, e, lie.0)
begins r (c ∷ bs) at end (suc n) b lie is costs =
    let more = begins r bs (at + c.len) end n b lie.1 is (λ k d e. costs (suc k) d e) in
    let one = costs 0 c refl in
    omega (arith, more, one)

-- ---- the look at an object

abbrev block_of : ℕ → ℕ → Block
block_of first len = record { first = first; len = len }

abbrev told : ℕ → Object → Block → Look
told o x b = record { object = o; kind = x.kind; len = length x.cells; block = b }

module _ (longs : AreLong) (r : Regioned) (bs : List Block) (kept : List ℕ) (o : ℕ) (lie : AreBlocks bs r) (all : AreWhole (blocks_of r bs)) where
  abbrev h : Heaped
  h = held r bs kept

  module _ (l : Lies r bs kept o) where
    abbrev x : Object
    x = object_in (cells_of r l.block)

    cost_is : (k : ℕ) (c : Block) → slice_get bs k ≡ Some c → charged (object_in (cells_of r c)) ≡ c.len
    cost_is k c at = charged_is (cells_of r c) (whole_at (blocks_of r bs) k (cells_of r c) all (slice_get-map (cells_of r) bs k ∙ ap (option_map (cells_of r)) at)) ∙ longs r bs k c lie at

    block_by : block_of (cost (take (o - 1) h.objects)) (charged x) ≡ l.block
    block_by =
        let place : o - 1 ≡ l.place = omega (arith, l.number) in
        let here : cost (take (o - 1) h.objects) ≡ cost (take l.place h.objects) = ap (λ k. cost (take k h.objects)) place in
        let begun : l.block.first ≡ 0 + cost (take l.place h.objects) = begins r bs 0 (length r.cells) l.place l.block lie l.at cost_is in
        let first : cost (take (o - 1) h.objects) ≡ l.block.first = omega (arith, here, begun) in
        ap₂ block_of first (cost_is l.place l.block l.at)

    -- it tells what lies there
    look_is : look_at h o ≡ Some (told o x l.block)
    look_is =
        ap (option_map (look_by o (cost (take (o - 1) h.objects)))) l.object
        ∙ ap (λ (b : Block). Some (told o x b)) block_by

  -- what was read there
  pub looked : (b : Block) (n len : ℕ) → is_some (object_at h o) ≡ true → b ≡ get_or bs (o - 1) b → Some n ≡ slice_get (cells_of r b) 0 → len + behind (kind_of n) + 1 ≡ b.len
      → Some (record { object = o; kind = kind_of n; len = len; block = b }) ≡ look_at h o
  looked b n len there read first long =
      let l = lies r bs kept o there in
      let is = block_is r bs kept o l b read in
      let whole = is_whole r bs kept o l all in
      let at : Some n ≡ slice_get (cells_of r l.block) 0 = subst (λ (x : Block). Some n ≡ slice_get (cells_of r x) 0) is first in
      let kind = kind_in (cells_of r l.block) n whole at in
      let few : behind (object_in (cells_of r l.block)).kind ≡ behind (kind_of n) = ap behind kind in
      let same_len : b.len ≡ l.block.len = ap (λ (x : Block). x.len) is in
      let own : len ≡ length (object_in (cells_of r l.block)).cells = omega (arith, long, few, same_len, len_in (cells_of r l.block) whole, longs r bs l.place l.block lie l.at) in
      ap₂ (λ (k : Kind) (c : Block). Some (record { object = o; kind = k; len = len; block = c })) (sym kind) is
      ∙ ap (λ m. Some (record { object = o; kind = (object_in (cells_of r l.block)).kind; len = m; block = l.block })) own
      ∙ sym (look_is l)

  -- an object that was looked at is there
  is_seen : (look : Look) → look_at h o ≡ Some look → is_some (object_at h o) ≡ true
  is_seen look is = go (object_at h o) is
    where
      go : (y : Option Object) → option_map (look_by o (cost (take (o - 1) h.objects))) y ≡ Some look → is_some y ≡ true
      go None is = cc
      go (Some y) is = refl

  -- and so are its cells, where the look says so
  pub looks : (look : Look) (i : ℕ) → look_at h o ≡ Some look → i < look.len → HasCell h o i × (look.block ≡ get_or bs (o - 1) look.block)
  looks look i is lt =
      let l = lies r bs kept o (is_seen look is) in
      let all_of : told o (object_in (cells_of r l.block)) l.block ≡ look = same (told o (object_in (cells_of r l.block)) l.block) look (sym (look_is l) ∙ is) in
      let len : length (object_in (cells_of r l.block)).cells ≡ look.len = ap (λ (y : Look). y.len) all_of in
      let own : length (cells_at h o) ≡ length (object_in (cells_of r l.block)).cells = ap (λ (y : Option Object). length (unwrap_or (option_map (λ (z : Object). z.cells) y) [])) l.object in
      let block : l.block ≡ look.block = ap (λ (y : Look). y.block) all_of in
      let place : o - 1 ≡ l.place = omega (arith, l.number) in
      let read : get_or bs (o - 1) look.block ≡ l.block = ap (λ k. get_or bs k look.block) place ∙ get_or_from_slice_get bs l.place l.block look.block l.at in
      (omega (arith, lt, len, own), sym block ∙ sym read)
