-- What the answer of a move says of what was put, and of the numbers of the moved method.
use Rattle.std.proofs.Common.{◌≡◌, ℕ, ◌+◌, ◌<◌, ◌≤◌, true, List, [], ◌∷◌, length, map, None, Ok, Err, refl, ap, sym, ◌∙◌, subst, arith, inl, inr}
use Rattle.std.specs.Prelude.{All, nat_lt}
use Rattle.std.proofs.lemmas.Bool.{cases_Bool, ltb-true}
use Rattle.std.proofs.Math.Nat.{max-le}
use Rattle.std.proofs.lemmas.List.Elements.{All-from_recursion}
use Rattle.std.specs.List.{AllByRecursion}
use Rattle.jground.proofs.JformatProofs.ReadingSteps.{ok_is}
use Rattle.jparts.specs.declared.jpool.entry.Entry.{Entry}
use Rattle.jparts.specs.declared.jmaps.types.FullFrame.{FullFrame}
use Rattle.jclass.specs.declared.class.Attribute.{Attribute}
use Rattle.jclass.specs.declared.class.CodeBody.{CodeBody}
use Rattle.jmove.specs.declared.method.Expand.{Expand}
use Rattle.jmove.specs.declared.method.MethodIn.{MethodIn}
use Rattle.jmove.specs.declared.method.MethodOut.{MethodOut}
use Rattle.jmove.specs.declared.method.MoveError.{MoveError}
use Rattle.jmove.specs.declared.method.MoveError.TheVariants as errors
use Rattle.jmove.specs.declared.naming.Named.{Named}
use Rattle.jmove.specs.PoolAdditions.{Refused, with_body, ◌>>◌}
use Rattle.jmove.specs.MovedFrames.{moved_frame}
use Rattle.jmove.specs.AssemblyLines.{end_of, place_of}
use Rattle.jmove.specs.MovedMethods.{Answers, move_method, moved_in}
use Rattle.jmove.specs.MethodExpansion.{CanMove, context_local, limit_of, lines, moved_by, prologue, setting}
use Rattle.jmove.proofs.MethodLimits.{no_limit, short}
use Rattle.jmove.proofs.LabelTables.{place_within}
use Rattle.jmove.proofs.MoveAnswers.{named_can, named_limit}
use Rattle.jmoveclass.specs.MovedMembers.{moved_code, with_moved}

-- a method that was moved, by what was put
pub record IsMoved (m : MethodIn) (ks : List Expand) (domain : ℕ) (pool new : List Entry) (out : MethodOut) : Type 0 where
  pub named : Named
  pub is : with_body ks m.frames pool ≡ (named, new)
  pub made : moved_by m domain named.enter named.context named.kinds ≡ out

moved_from : (m : MethodIn) (ks : List Expand) (domain : ℕ) (pool new : List Entry) (out : MethodOut) (x : Named × List Entry) → with_body ks m.frames pool ≡ x → moved_in m domain x ≡ Ok (out, new) → IsMoved m ks domain pool new out
moved_from m ks domain pool new out x at h = elim (cases_Bool (nat_lt 0xffff (length x.1))) [
  | inl full ↦ let no : Err errors.PoolFull ≡ Ok (out, new) = rw full at h in absurd cc
  | inr room ↦
      let made : MethodOut = moved_by m domain x.0.enter x.0.context x.0.kinds in
      let got : MethodOut × List Entry = (made, x.1) in
      let want : MethodOut × List Entry = (out, new) in
      let both : got ≡ want = ok_is MoveError got want (rw room at h) in
      record { named = x.0; is = at ∙ ap (λ (q : MethodOut × List Entry). (x.0, q.1)) both; made = ap (λ (q : MethodOut × List Entry). q.0) both }
]

pub moved_is : (m : MethodIn) (ks : List Expand) (domain : ℕ) (pool new : List Entry) (out : MethodOut) → limit_of m ks ≡ None → move_method m ks domain pool ≡ Ok (out, new) → IsMoved m ks domain pool new out
unfolding move_method
moved_is m ks domain pool new out none h = moved_from m ks domain pool new out (with_body ks m.frames pool) refl (rw none at h)

pub moved_puts : (m : MethodIn) (ks : List Expand) (domain name : ℕ) (b : CodeBody) (pool new : List Entry) (out : MethodOut) (a : Attribute) → IsMoved m ks domain pool new out → a ≡ moved_code name b out → with_moved domain ks name b m pool ≡ (a, new)
unfolding ◌>>◌
moved_puts m ks domain name b pool new out a x is =
    ap (λ (y : Named × List Entry). (moved_code name b (moved_by m domain y.0.enter y.0.context y.0.kinds), y.1)) x.is
    ∙ ap (λ (o : MethodOut). (moved_code name b o, new)) x.made ∙ ap (λ (c : Attribute). (c, new)) (sym is)

not_moved : (m : MethodIn) (domain : ℕ) (e : MoveError) (x : Named × List Entry) → moved_in m domain x ≡ Err e → (e ≡ errors.PoolFull) × (0xffff < length x.1)
not_moved m domain e x h = elim (cases_Bool (nat_lt 0xffff (length x.1))) [
  | inl full ↦ let is : Err errors.PoolFull ≡ Err e = rw full at h in let same : errors.PoolFull ≡ e = cc in (sym same, ltb-true 0xffff (length x.1) full)
  | inr room ↦
      let made : MethodOut = moved_by m domain x.0.enter x.0.context x.0.kinds in
      let no : Ok (made, x.1) ≡ Err e = rw room at h in absurd cc
]

full_or : (m : MethodIn) (domain : ℕ) (e : MoveError) (x : Named × List Entry) → moved_in m domain x ≡ Err e → Refused e x.1
full_or m domain e x h = let n = not_moved m domain e x h in subst (λ (y : MoveError). Refused y x.1) (sym n.0) n.1

refused_by : (m : MethodIn) (ks : List Expand) (domain : ℕ) (e : MoveError) (new pool : List Entry) → limit_of m ks ≡ None → Answers (Err e) new (move_method m ks domain pool) → Refused e (with_body ks m.frames pool).1
unfolding move_method
refused_by m ks domain errors.Memory new pool none h = tt
refused_by m ks domain errors.Slots new pool none h = full_or m domain errors.Slots (with_body ks m.frames pool) (rw none at h)
refused_by m ks domain errors.Locals new pool none h = full_or m domain errors.Locals (with_body ks m.frames pool) (rw none at h)
refused_by m ks domain errors.Stack new pool none h = full_or m domain errors.Stack (with_body ks m.frames pool) (rw none at h)
refused_by m ks domain (errors.TooLong n) new pool none h = full_or m domain (errors.TooLong n) (with_body ks m.frames pool) (rw none at h)
refused_by m ks domain errors.PoolFull new pool none h = full_or m domain errors.PoolFull (with_body ks m.frames pool) (rw none at h)

pub moved_refused : (m : MethodIn) (ks : List Expand) (domain name : ℕ) (b : CodeBody) (e : MoveError) (new pool : List Entry) → limit_of m ks ≡ None → Answers (Err e) new (move_method m ks domain pool)
    → Refused e (with_moved domain ks name b m pool).1
unfolding ◌>>◌
moved_refused m ks domain name b e new pool none h = refused_by m ks domain e new pool none h

-- ---- numbers

pub stack_near : (m : MethodIn) (ks : List Expand) (domain : ℕ) (pool new : List Entry) (out : MethodOut) → CanMove m ks → limit_of m ks ≡ None → IsMoved m ks domain pool new out → out.max_stack ≤ 0xffff
unfolding moved_by
stack_near m ks domain pool new out can none x =
    let near : m.max_stack ≤ 65532 = (no_limit m ks can none).stack in
    subst (λ (o : MethodOut). o.max_stack ≤ 0xffff) x.made (omega arith)

pub locals_near : (m : MethodIn) (ks : List Expand) (domain : ℕ) (pool new : List Entry) (out : MethodOut) → CanMove m ks → limit_of m ks ≡ None → IsMoved m ks domain pool new out → out.max_locals ≤ 0xffff
unfolding moved_by
locals_near m ks domain pool new out can none x =
    let w = no_limit m ks can none in
    let first : m.max_locals < 65535 = w.locals in
    let second : m.slots < 255 = w.slots in
    let a : m.max_locals ≤ 65534 = omega arith in
    let b : m.slots + 1 ≤ 65534 = omega arith in
    let near : context_local m ≤ 65534 = max-le a b in
    subst (λ (o : MethodOut). o.max_locals ≤ 0xffff) x.made (omega arith)

frames_within : (to : ℕ → ℕ) (local context : ℕ) (fs : List FullFrame) → ((old : ℕ) → to old ≤ 0x7fff) → AllByRecursion (λ f. f.at ≤ 0xffff) (map (moved_frame to local context) fs)
frames_within to local context [] h = tt
frames_within to local context (f ∷ fs) h = let near : to f.at ≤ 0x7fff = h f.at in (omega arith, frames_within to local context fs h)

pub frames_near : (m : MethodIn) (ks : List Expand) (domain : ℕ) (pool new : List Entry) (out : MethodOut) → CanMove m ks → limit_of m ks ≡ None → IsMoved m ks domain pool new out → All (λ f. f.at ≤ 0xffff) out.frames
unfolding moved_by
frames_near m ks domain pool new out can none x =
    let ks' = x.named.kinds in
    let ls = lines (prologue m.slots (setting m domain) x.named.enter) (setting m domain) ks' m.ops in
    let end : end_of 0 ls ≤ 32767 = short m ks' (named_can m ks pool new x.named x.is can) (named_limit m ks pool new x.named x.is none) domain x.named.enter in
    subst (λ (o : MethodOut). All (λ f. f.at ≤ 0xffff) o.frames) x.made
    (All-from_recursion (λ f. f.at ≤ 0xffff) (map (moved_frame (λ old. place_of old 0 ls) (context_local m) x.named.context) m.frames) (frames_within (λ old. place_of old 0 ls) (context_local m) x.named.context m.frames (λ old. let le : place_of old 0 ls ≤ end_of 0 ls = place_within old 0 ls in omega arith)))
