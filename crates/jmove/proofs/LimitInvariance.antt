-- Methods that differ in indices of the pool alone break the same limits.
use Rattle.std.proofs.Common.{◌≡◌, ℕ, ◌+◌, ◌≤◌, List, [], ◌∷◌, map, length, Option, Some, refl, ap, ap₂, ◌∙◌, sym, subst, arith, nat_lt, max, ◌==◌, ◌||◌, if◌then◌else◌}
use Rattle.std.specs.Prelude.{All, IsTrue}
use Rattle.std.specs.List.{AllByRecursion}
use Rattle.std.proofs.lemmas.List.{length-map}
use Rattle.std.proofs.lemmas.List.Elements.{All-from_recursion, recursion_from_All}
use Rattle.jparts.specs.declared.jpool.entry.Entry.{Entry}
use Rattle.jparts.specs.declared.jmaps.types.MapType.{MapType}
use Rattle.jparts.specs.declared.jmaps.types.MapType.TheVariants as types
use Rattle.jparts.specs.declared.jmaps.types.FullFrame.{FullFrame}
use Rattle.jparts.specs.declared.jcode.names.Access.TheVariants.{Load}
use Rattle.jparts.specs.declared.jcode.op.Op.{Op}
use Rattle.jparts.specs.declared.jcode.op.Placed.{Placed}
use Rattle.jparts.specs.jcode.Instructions.{code, size}
use Rattle.jmove.specs.declared.method.Expand.{Expand}
use Rattle.jmove.specs.declared.method.Expand.TheVariants.{Same, Call, Check, Snapshot, Privileged, PrivilegedWith, PrivilegedLimited}
use Rattle.jmove.specs.declared.method.MethodIn.{MethodIn}
use Rattle.jmove.specs.declared.method.MoveError.{MoveError}
use Rattle.jmove.specs.declared.method.MoveError.TheVariants as errors
use Rattle.jmove.specs.declared.method.Setting.{Setting}
use Rattle.jmove.specs.declared.naming.Security.TheVariants.{Enter}
use Rattle.jmove.specs.PoolAdditions.{◌>>◌, numbered, with_number, with_security, with_expansions, with_body}
use Rattle.jmove.specs.MethodLimits.{Alike, SameLimit, SameCanMove, Renumbered, bare_type, bare_frame, bare_kind}
use Rattle.jmove.specs.MovedFrames.{widths, items, items_of}
use Rattle.jmove.specs.ProofNames.{width}
use Rattle.jmove.specs.AssemblyLines.{end_of, reach}
use Rattle.jmove.specs.MethodExpansion.{context_local, expansion, expansions, limit_of, lines, moved_length, move_ref, prologue, push_int, too_long}
use Rattle.jmove.proofs.LineSequences.{end_reach}
use Rattle.jmove.proofs.Sizes.{call_size, calling_size}

-- ---- frames

width_bare : (t : MapType) → width (bare_type t) ≡ width t
width_bare types.Top = refl
width_bare types.Int = refl
width_bare types.Long = refl
width_bare types.Null = refl
width_bare types.UninitThis = refl
width_bare (types.Uninit n) = refl
width_bare (types.Object n) = refl

widths_bare : (ts : List MapType) → widths (map bare_type ts) ≡ widths ts
widths_bare [] = refl
widths_bare (t ∷ ts) = omega (arith, width_bare t, widths_bare ts)

items_bare : (local : ℕ) (f : FullFrame) → items local (bare_frame f) ≡ items local f
items_bare local f = rw (length-map f.locals bare_type, widths_bare f.locals, length-map f.stack bare_type) refl

all_bare : (local : ℕ) (fs : List FullFrame) → items_of local (map bare_frame fs) ≡ items_of local fs
all_bare local [] = refl
all_bare local (f ∷ fs) = omega (arith, items_bare local f, all_bare local fs)

items_alike : (local : ℕ) (fs gs : List FullFrame) → map bare_frame fs ≡ map bare_frame gs → items_of local fs ≡ items_of local gs
items_alike local fs gs e = sym (all_bare local fs) ∙ ap (items_of local) e ∙ all_bare local gs

within_alike : (n : ℕ) (fs gs : List FullFrame) → map bare_frame fs ≡ map bare_frame gs → AllByRecursion (λ f. widths f.locals ≤ n) fs → AllByRecursion (λ f. widths f.locals ≤ n) gs
within_alike n [] [] e h = tt
within_alike n [] (g ∷ gs) e h = absurd cc
within_alike n (f ∷ fs) [] e h = absurd cc
within_alike n (f ∷ fs) (g ∷ gs) e h =
    let first : bare_frame f ≡ bare_frame g = cc in
    let rest : map bare_frame fs ≡ map bare_frame gs = cc in
    let same : widths f.locals ≡ widths g.locals = sym (widths_bare f.locals) ∙ ap (λ (x : FullFrame). widths x.locals) first ∙ widths_bare g.locals in
    (omega (arith, h.0), within_alike n fs gs rest h.1)

-- ---- expansions

reach_numbered : (s : Setting) (k : Expand) (i : ℕ) (o : Op) (at : ℕ) → reach at (expansion s (numbered k i) o) ≡ reach at (expansion s k o)
reach_numbered s Same i o at = refl
reach_numbered s (Call n) i o at = let p = at + size at (move_ref Load s.local) in omega (arith, calling_size p i o, calling_size p n o)
reach_numbered s (Check n) i o at = let p = at + size at (move_ref Load s.local) in omega (arith, call_size p i, call_size p n)
reach_numbered s (Snapshot n) i o at = let p = at + size at (move_ref Load s.local) in omega (arith, call_size p i, call_size p n)
reach_numbered s (Privileged n) i o at = let p = at + size at (push_int s.domain) in omega (arith, call_size p i, call_size p n)
reach_numbered s (PrivilegedWith n) i o at = let p = at + size at (push_int s.domain) in omega (arith, call_size p i, call_size p n)
reach_numbered s (PrivilegedLimited n) i o at =
    let p = at + size at (move_ref Load s.local) in
    let q = p + size p (push_int s.domain) in
    omega (arith, call_size q i, call_size q n)

end_bare : (s : Setting) (ks : List Expand) (is : List Placed) (at : ℕ) → end_of at (expansions s (map bare_kind ks) is) ≡ end_of at (expansions s ks is)
end_bare s [] is at = refl
end_bare s (k ∷ ks) [] at = refl
end_bare s (k ∷ ks) (i ∷ is) at =
    end_reach at i.at (expansion s (bare_kind k) i.op) (expansions s (map bare_kind ks) is)
    ∙ ap (λ (p : ℕ). end_of p (expansions s (map bare_kind ks) is)) (reach_numbered s k 0 i.op at)
    ∙ end_bare s ks is (reach at (expansion s k i.op))
    ∙ sym (end_reach at i.at (expansion s k i.op) (expansions s ks is))

-- the length of moved code by what it depends on
abbrev in_local : ℕ → Setting
in_local local = record { local = local; domain = 0 }

abbrev long : ℕ → ℕ → List Expand → List Placed → ℕ
long slots local ks is = end_of 0 (lines (prologue slots (in_local local) 0) (in_local local) ks is)

long_bare : (slots local : ℕ) (ks : List Expand) (is : List Placed) → long slots local (map bare_kind ks) is ≡ long slots local ks is
long_bare slots local ks is =
    let s = in_local local in
    end_reach 0 0 (prologue slots s 0) (expansions s (map bare_kind ks) is)
    ∙ end_bare s ks is (reach 0 (prologue slots s 0))
    ∙ sym (end_reach 0 0 (prologue slots s 0) (expansions s ks is))

long_alike : (slots local : ℕ) (ks js : List Expand) (is : List Placed) → map bare_kind ks ≡ map bare_kind js → long slots local ks is ≡ long slots local js is
long_alike slots local ks js is e = sym (long_bare slots local ks is) ∙ ap (λ (l : List Expand). long slots local l is) e ∙ long_bare slots local js is

-- ---- limits

local_alike : (m n : MethodIn) (ks js : List Expand) → Alike m n ks js → context_local m ≡ context_local n
local_alike m n ks js h = ap₂ (λ (a b : ℕ). max a (b + 1)) h.max_locals h.slots

length_alike : (m n : MethodIn) (ks js : List Expand) → Alike m n ks js → moved_length m ks ≡ moved_length n js
length_alike m n ks js h =
    long_alike m.slots (context_local m) ks js m.ops h.kinds
    ∙ ap (λ (a : ℕ). long a (context_local m) js m.ops) h.slots
    ∙ ap₂ (λ (a : ℕ) (is : List Placed). long n.slots a js is) (local_alike m n ks js h) h.ops

-- the first limit by what it depends on
abbrev limit_by : ℕ → ℕ → ℕ → ℕ → ℕ → Option MoveError
limit_by slots locals many stack length =
    if slots == 255 then Some errors.Slots else (
    if locals == 65535 || nat_lt 16777216 many then Some errors.Locals else (
    if nat_lt 65532 stack then Some errors.Stack else
    too_long length))

limit_is : (m : MethodIn) (ks : List Expand) → limit_of m ks ≡ limit_by m.slots m.max_locals (items_of (context_local m) m.frames) m.max_stack (moved_length m ks)
unfolding limit_of
limit_is m ks = refl

pub same_limit : SameLimit
same_limit m n ks js h =
    let many : items_of (context_local m) m.frames ≡ items_of (context_local n) n.frames =
    ap (λ (a : ℕ). items_of a m.frames) (local_alike m n ks js h) ∙ items_alike (context_local n) m.frames n.frames h.frames in
    limit_is m ks
    ∙ ap₂ (λ (a b : ℕ). limit_by a b (items_of (context_local m) m.frames) m.max_stack (moved_length m ks)) h.slots h.max_locals
    ∙ ap₂ (λ (a b : ℕ). limit_by n.slots n.max_locals a b (moved_length m ks)) many h.max_stack
    ∙ ap (λ (a : ℕ). limit_by n.slots n.max_locals (items_of (context_local n) n.frames) n.max_stack a) (length_alike m n ks js h)
    ∙ sym (limit_is n js)

pub same_can_move : SameCanMove
same_can_move m n ks js h can = record {
  each = (let kinds : length ks ≡ length js = sym (length-map ks bare_kind) ∙ ap (λ (l : List Expand). length l) h.kinds ∙ length-map js bare_kind in
      sym kinds ∙ can.each ∙ ap (λ (is : List Placed). length is) h.ops);
  is_code = subst (λ (is : List Placed). IsTrue (code.fits is)) h.ops can.is_code;
  short = subst (λ (is : List Placed). length (code.spell is) ≤ 0xffff) h.ops can.short;
  slots = subst (λ (a : ℕ). a ≤ 255) h.slots can.slots;
  locals = subst (λ (a : ℕ). a ≤ 0xffff) h.max_locals can.locals;
  frames = subst (λ (a : ℕ). All (λ f. widths f.locals ≤ a) n.frames) h.max_locals
      (All-from_recursion (λ f. widths f.locals ≤ m.max_locals) n.frames (within_alike m.max_locals m.frames n.frames h.frames (recursion_from_All (λ f. widths f.locals ≤ m.max_locals) m.frames can.frames)));
}

-- ---- additions

number_bare : (k : Expand) (i : ℕ) → bare_kind (numbered k i) ≡ bare_kind k
number_bare Same i = refl
number_bare (Call n) i = refl
number_bare (Check n) i = refl
number_bare (Snapshot n) i = refl
number_bare (Privileged n) i = refl
number_bare (PrivilegedWith n) i = refl
number_bare (PrivilegedLimited n) i = refl

kinds_bare : (ks : List Expand) (pool : List Entry) → map bare_kind (with_expansions ks pool).0 ≡ map bare_kind ks
unfolding with_expansions ◌>>◌
kinds_bare [] pool = refl
kinds_bare (k ∷ ks) pool = ap₂ (λ (x : Expand) (l : List Expand). x ∷ l) (number_bare k (with_number k pool).0) (kinds_bare ks (with_number k pool).1)

pub renumbered : Renumbered
unfolding with_body ◌>>◌
renumbered ks fs pool = kinds_bare ks (with_security Enter pool).1
