-- What holds of a method that breaks no limit.
use Rattle.std.proofs.Common.{◌≡◌, ℕ, ◌+◌, ◌*◌, ◌<◌, ◌≤◌, Bool, true, false, cond, List, length, Some, None, refl, ap, ◌∙◌, sym, subst, arith, nat_lt, ◌||◌, ◌==◌, if◌then◌else◌}
use Rattle.std.proofs.lemmas.Bool.{ltb-false, eqb-false}
use Rattle.jparts.specs.declared.jcode.op.Placed.{Placed}
use Rattle.jparts.specs.jcode.Instructions.{code}
use Rattle.jmove.specs.declared.method.Expand.{Expand}
use Rattle.jmove.specs.declared.method.MethodIn.{MethodIn}
use Rattle.jmove.specs.declared.method.Setting.{Setting}
use Rattle.jmove.specs.declared.method.MoveError.TheVariants.{Slots, Locals, Stack, TooLong}
use Rattle.jmove.specs.MovedFrames.{items_of}
use Rattle.jmove.specs.AssemblyLines.{end_of, reach}
use Rattle.jmove.specs.MethodLimits.{Short}
use Rattle.jmove.specs.MethodExpansion.{CanMove, context_local, expansions, limit_of, lines, moved_length, prologue, setting}
use Rattle.jmove.specs.ProofNames.{too_many}
use Rattle.jmove.proofs.LineSequences.{end_reach}
use Rattle.jmove.proofs.Bounds.{bound, prologue_above, prologue_reach, end_alike}
use Rattle.jmove.proofs.CodeLayout.{code_laid}
use Rattle.jmove.proofs.Sizes.{move_size}

pub record Within (m : MethodIn) (ks : List Expand) : Type 0 where
  pub slots : m.slots < 255
  pub locals : m.max_locals < 65535
  pub stack : m.max_stack ≤ 65532
  pub length : moved_length m ks ≤ 32767

either_false : (a b : Bool) → a || b ≡ false → (a ≡ false) × (b ≡ false)
either_false true b e = cc
either_false false b e = (refl, e)

no_limit_by : (m : MethodIn) (ks : List Expand) (a b c d : Bool) → (m.slots == 255) ≡ a → too_many m ≡ b → nat_lt 65532 m.max_stack ≡ c → nat_lt 32767 (moved_length m ks) ≡ d
    → cond a (Some Slots) (cond b (Some Locals) (cond c (Some Stack) (cond d (Some (TooLong (moved_length m ks))) None))) ≡ None → (a ≡ false) × ((b ≡ false) × ((c ≡ false) × (d ≡ false)))
no_limit_by m ks true b c d ha hb hc hd e = cc
no_limit_by m ks false true c d ha hb hc hd e = cc
no_limit_by m ks false false true d ha hb hc hd e = cc
no_limit_by m ks false false false true ha hb hc hd e = cc
no_limit_by m ks false false false false ha hb hc hd e = (refl, (refl, (refl, refl)))

pub no_limit : (m : MethodIn) (ks : List Expand) → CanMove m ks → limit_of m ks ≡ None → Within m ks
unfolding limit_of
no_limit m ks can e =
    let h = no_limit_by m ks (m.slots == 255) (too_many m) (nat_lt 65532 m.max_stack) (nat_lt 32767 (moved_length m ks)) refl refl refl refl e in
    let many = either_false (m.max_locals == 65535) (nat_lt 16777216 (items_of (context_local m) m.frames)) h.1.0 in
    record {
      slots = omega (arith, can.slots, eqb-false m.slots 255 h.0);
      locals = omega (arith, can.locals, eqb-false m.max_locals 65535 many.0);
      stack = ltb-false 65532 m.max_stack h.1.1.0;
      length = ltb-false 32767 (moved_length m ks) h.1.1.1;
    }

-- the length in parts
pub length_is : (m : MethodIn) (ks : List Expand) → moved_length m ks ≡ end_of (reach 0 (prologue m.slots (setting m 0) 0)) (expansions (setting m 0) ks m.ops)
length_is m ks = end_reach 0 0 (prologue m.slots (setting m 0) 0) (expansions (setting m 0) ks m.ops)

pub length_near : (m : MethodIn) (ks : List Expand) → CanMove m ks → end_of (reach 0 (prologue m.slots (setting m 0) 0)) (expansions (setting m 0) ks m.ops) ≤ 0xffff_ffff
length_near m ks can =
    let s = setting m 0 in
    let at = reach 0 (prologue m.slots s 0) in
    let b : end_of at (expansions s ks m.ops) + 11 * 0 ≤ at + 11 * length (code.spell m.ops) = bound s ks m.ops at 0 (length (code.spell m.ops)) (code_laid m.ops can.is_code) in
    omega (arith, b, prologue_above m.slots 0 s, can.short)

pub near_at : (m : MethodIn) (ks : List Expand) (local at : ℕ) (is : List Placed) → local ≡ context_local m → reach 0 (prologue m.slots (record { local = local; domain = 0 }) 0) ≡ at → is ≡ m.ops → CanMove m ks
    → end_of at (expansions (record { local = local; domain = 0 }) ks is) ≤ 0xffff_ffff
near_at m ks local at is l r i can =
    let s : ℕ → Setting = λ n. record { local = n; domain = 0 } in
    subst (λ (x : List Placed). end_of at (expansions (s local) ks x) ≤ 0xffff_ffff) (sym i)
    (subst (λ (p : ℕ). end_of p (expansions (s local) ks m.ops) ≤ 0xffff_ffff) r
    (subst (λ (n : ℕ). end_of (reach 0 (prologue m.slots (s n) 0)) (expansions (s n) ks m.ops) ≤ 0xffff_ffff) (sym l) (length_near m ks can)))

pub near_by : (m : MethodIn) (ks : List Expand) (local domain at : ℕ) (is : List Placed) → local ≡ context_local m → reach 0 (prologue m.slots (record { local = local; domain = 0 }) 0) ≡ at → is ≡ m.ops → CanMove m ks
    → limit_of m ks ≡ None → end_of at (expansions (record { local = local; domain = domain }) ks is) ≤ 0x7fff
near_by m ks local domain at is l r i can none =
    let s : ℕ → Setting = λ n. record { local = n; domain = 0 } in
    let t : ℕ → Setting = λ n. record { local = n; domain = domain } in
    let here : end_of (reach 0 (prologue m.slots (s (context_local m)) 0)) (expansions (s (context_local m)) ks m.ops) ≤ 0x7fff = omega (arith, length_is m ks, (no_limit m ks can none).length) in
    let there : end_of at (expansions (s local) ks is) ≤ 0x7fff =
    subst (λ (x : List Placed). end_of at (expansions (s local) ks x) ≤ 0x7fff) (sym i)
    (subst (λ (p : ℕ). end_of p (expansions (s local) ks m.ops) ≤ 0x7fff) r
    (subst (λ (n : ℕ). end_of (reach 0 (prologue m.slots (s n) 0)) (expansions (s n) ks m.ops) ≤ 0x7fff) (sym l) here)) in
    omega (arith, end_alike (s local) (t local) ks is at refl, there)

-- ---- the code of a method that breaks no limit

abbrev moves : ℕ → ℕ
moves n = if nat_lt n 256 then 2 else 4

begins : (slots local domain enter : ℕ) → reach 0 (prologue slots (record { local = local; domain = domain }) enter) ≡ moves slots + 6 + moves local
begins slots local domain enter = prologue_reach slots local domain enter (moves slots) (moves local) (λ at access. move_size at access slots) (λ at access. move_size at access local)

pub short : Short
short m ks can none domain enter =
    let s : Setting = setting m domain in
    let zero : Setting = setting m 0 in
    let here : reach 0 (prologue m.slots s enter) ≡ reach 0 (prologue m.slots zero 0) = begins m.slots (context_local m) domain enter ∙ sym (begins m.slots (context_local m) 0 0) in
    let same : end_of 0 (lines (prologue m.slots s enter) s ks m.ops) ≡ end_of (reach 0 (prologue m.slots zero 0)) (expansions zero ks m.ops) =
    end_reach 0 0 (prologue m.slots s enter) (expansions s ks m.ops)
    ∙ ap (λ (p : ℕ). end_of p (expansions s ks m.ops)) here
    ∙ end_alike s zero ks m.ops (reach 0 (prologue m.slots zero 0)) refl in
    let within = no_limit m ks can none in
    omega (arith, same, length_is m ks, within.length)
