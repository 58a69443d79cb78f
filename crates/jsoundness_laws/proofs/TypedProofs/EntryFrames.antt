-- The frame of a method begins as typing says, where it is given what it may be given.
use Rattle.std.proofs.Common.{◌≡◌, ℕ, ◌-◌, Bool, true, false, List, [], ◌∷◌, ◌++◌, length, replicate, zero, suc, Option, Some, None, refl, sym, ap, subst, ◌∙◌}
use Rattle.std.specs.List.{AllByRecursion, flat_map}
use Rattle.std.specs.Prelude.{reverse, if◌then◌else◌}
use Rattle.std.proofs.lemmas.Grind.{flat_map-append}
use Rattle.std.proofs.lemmas.List.{append-nil, append_assoc, reverse-append, reverse-reverse}
use Rattle.jvalues.specs.declared.jops.value.Value.{Value}
use Rattle.jvalues.specs.jops.Shuffles as shuffles
use Rattle.jtypes.specs.declared.vtype.VType.{VType}
use Rattle.jtypes.specs.declared.vtype.VType.TheVariants as types
use Rattle.jtypes.specs.TypeFrames.{is_long, places, places_of}
use Rattle.jtyping.specs.jrule.InstructionContext.{Here}
use Rattle.jtyping.specs.jwelltyped.DeclaredFrames.{filled}
use Rattle.jsemantics.specs.jmachine.FrameOperations as machine
use Rattle.jsemantics.specs.jmachine.FrameOperations.{onto}
use Rattle.jsemantics.specs.jmachine.Store.{Store}
use Rattle.jsemantics.specs.jmachine.BasicInstructions as straight
use Rattle.jsemantics.specs.jmachine.World.{World}
use Rattle.jsoundness_laws.specs.typed.TypedCalls.{FramesBegin, IsParameter}
use Rattle.jsoundness_laws.specs.typed.TypedFrames.{AllHave, AllHold, Has, News}
use Rattle.jsoundness_laws.proofs.TypedProofs.Locals.{hold_length}
use Rattle.jsoundness_laws.proofs.TypedProofs.ValueKinds.{as_long}

-- the places of the newest parameter stand behind those of the others
behind : (t : VType) (ts rest : List VType) → places_of (reverse (t ∷ ts)) ++ rest ≡ places_of (reverse ts) ++ (places t ++ rest)
behind t ts rest =
    let last : places_of (t ∷ []) ≡ places t = append-nil (places t) in
    ap (λ xs. places_of xs ++ rest) (reverse-append (t ∷ []) ts) ∙ ap (λ xs. xs ++ rest) (flat_map-append places (reverse ts) (t ∷ []))
    ∙ append_assoc (places_of (reverse ts)) (places_of (t ∷ [])) rest ∙ ap (λ xs. places_of (reverse ts) ++ (xs ++ rest)) last

module _ {K : Type 0} (w : World) (s : Store K) (here : Here) (news : News) where
  hold_places : (b c : Bool) → b ≡ c → (t : VType) (v : Value K) → Has w s here news t v → (ts : List VType) (ls : List (Option (Value K))) → AllHold w s here news ts ls
      → AllHold w s here news ((if b then t ∷ types.Top ∷ [] else t ∷ []) ++ ts) ((if c then Some v ∷ None ∷ [] else Some v ∷ []) ++ ls)
  hold_places true true e t v h ts ls rest = (h, (refl, rest))
  hold_places false false e t v h ts ls rest = (h, rest)
  hold_places true false e t v h ts ls rest = absurd (cc)
  hold_places false true e t v h ts ls rest = absurd (cc)

  hold_onto : (ts : List VType) (vs : List (Value K)) → AllByRecursion IsParameter ts → AllHave w s here news ts vs → (rest : List VType) (ls : List (Option (Value K)))
      → AllHold w s here news rest ls → AllHold w s here news (places_of (reverse ts) ++ rest) (onto vs ls)
  unfolding onto
  hold_onto [] [] all h rest ls held = held
  hold_onto [] (v ∷ vs) all h rest ls held = absurd h
  hold_onto (t ∷ ts) [] all h rest ls held = absurd h
  hold_onto (t ∷ ts) (v ∷ vs) all h rest ls held =
      let more = hold_onto ts vs all.1 h.1 (places t ++ rest) (straight.places v ++ ls) (hold_places (is_long t) (shuffles.is_long v) (as_long w s here news t v h.0 all.0) t v h.0 rest ls held) in
      subst (λ xs. AllHold w s here news xs (onto vs (straight.places v ++ ls))) (sym (behind t ts rest)) more

  tops : (n : ℕ) → AllHold w s here news (replicate n types.Top) (replicate n None)
  tops zero = tt
  tops (suc n) = (refl, tops n)

  hold_all : (ts : List VType) (vs : List (Value K)) (most : ℕ) → AllByRecursion IsParameter ts → AllHave w s here news ts vs
      → AllHold w s here news (filled most (places_of (reverse ts))) (machine.locals_of most vs)
  hold_all ts vs most all h =
      let alone = hold_onto ts vs all h [] [] tt in
      let count : length (places_of (reverse ts)) ≡ machine.places_of vs = sym (ap length (append-nil (places_of (reverse ts)))) ∙ hold_length w s here news (places_of (reverse ts) ++ []) (onto vs []) alone in
      let n = most - length (places_of (reverse ts)) in
      let m = most - machine.places_of vs in
      let same : replicate {A = Option (Value K)} n None ≡ replicate m None = ap (λ k. replicate (most - k) None) count in
      subst (λ ls. AllHold w s here news (filled most (places_of (reverse ts))) (onto vs ls)) same (hold_onto ts vs all h (replicate n types.Top) (replicate n None) (tops n))

all_append : (xs ys : List VType) → AllByRecursion IsParameter xs → AllByRecursion IsParameter ys → AllByRecursion IsParameter (xs ++ ys)
all_append [] ys a b = b
all_append (x ∷ xs) ys a b = (a.0, all_append xs ys a.1 b)

all_reversed : (ts : List VType) → AllByRecursion IsParameter ts → AllByRecursion IsParameter (reverse ts)
all_reversed [] h = tt
all_reversed (t ∷ ts) h = subst (λ xs. AllByRecursion IsParameter xs) (sym (reverse-append (t ∷ []) ts)) (all_append (reverse ts) (t ∷ []) (all_reversed ts h.1) (h.0, tt))

pub frames_begin : (K E : Type 0) → FramesBegin K E
frames_begin K E w s here news m id entry arguments all h = record {
  locals = subst (λ ts. AllHold w s here news (filled m.body.max_locals (places_of ts)) (machine.locals_of m.body.max_locals arguments)) (reverse-reverse m.params)
      (hold_all w s here news (reverse m.params) arguments m.body.max_locals (all_reversed m.params all) h);
  operands = tt;
}
