-- What a frame serves that was served before, and what is known behind an instruction.
use Rattle.std.proofs.Common.{◌≡◌, ◌≤◌, ◌<◌, ℕ, ◌+◌, Bool, true, false, ◌&&◌, ◌||◌, List, [], ◌∷◌, take, length, get_or, Option, Some, None, refl, sym, ap, subst, ◌∙◌, arith, inl, inr}
use Rattle.std.specs.Prelude.{◌⊎◌, IfSome, MatchOption, not, nat_le, nat_lt, option_map, if◌then◌else◌}
use Rattle.std.specs.List.{list_all}
use Rattle.std.proofs.Math.Bool.{beq}
use Rattle.std.proofs.lemmas.Bool.Decides.{nat_tests}
use Rattle.std.proofs.lemmas.List.Folds.{list_all_more}
use Rattle.jparts.specs.declared.jpool.entry.Entry.{Entry}
use Rattle.jparts.specs.declared.jcode.op_form.OpForm.{OpForm}
use Rattle.jparts.specs.declared.jcode.op.Handler.{Handler}
use Rattle.jparts.specs.declared.jcode.op.Switch.{Switch}
use Rattle.jtypes.specs.declared.vtype.VType.{VType}
use Rattle.jtypes.specs.TypeFrames.{Frame}
use Rattle.jresolution.specs.jprogram.ProgramClasses.{Program}
use Rattle.jtyping.specs.declared.jrule.frame.FrameRef.{FrameRef}
use Rattle.jtyping.specs.jrule.FormRules.{by_form}
use Rattle.jtyping.specs.jrule.InstructionContext.{Here}
use Rattle.jtyping.specs.jrule.InternedFrames.{seen}
use Rattle.jtyping.specs.jwelltyped.DeclaredFrames.{Written}
use Rattle.jtyping.specs.jwelltyped.MethodPremises.{Method}
use Rattle.jparts.specs.jcode.Instructions.{covers}
use Rattle.jtyping.specs.jwelltyped.VerifierTests.{handler_fits, handlers_fit}
use Rattle.jtyping.specs.jwelltyped.ProofNames.{handler_test}
use Rattle.jverify.specs.declared.held.Arriving.{Arriving}
use Rattle.jverify.specs.declared.held.Held.{Held}
use Rattle.jverify.specs.declared.held.LocalsInfo.{LocalsInfo}
use Rattle.jverify.specs.declared.held.Served.{Served}
use Rattle.jverify.specs.declared.walk.Checking.{Checking}
use Rattle.jverify.specs.CheckedMethods.{IsCounted, IsHeld, frames_of, method_of, program_of}
use Rattle.jverify.specs.FrameFacts.{AreFrom, IsKnown, Rests, arrived, bare, held_seen, is_served, none_begins, unknown}
use Rattle.jverify.proofs.InstructionWalks.{told}

parts : (a b : Bool) → (a && b) ≡ true → (a ≡ true) × (b ≡ true)
parts true b e = (refl, e)
parts false b e = absurd cc

both : (a b : Bool) → a ≡ true → b ≡ true → (a && b) ≡ true
both true b ea eb = eb
both false b ea eb = absurd cc

-- ---- handlers that cover an earlier place

-- by whether a handler covers the place, whether it covers the earlier one, and whether it is served
later_one : (here before fits : Bool) → (if before then fits else true) ≡ true → (before || (if here then fits else true)) ≡ (if here then fits else true)
later_one here false fits e = refl
later_one true true fits e = sym e
later_one false true fits e = refl

pub later_same : (p : Program) (m : Method) (ws : List Written) (since at : ℕ) (f : Frame) (hs : List Handler) → list_all (handler_test p m ws since f) hs ≡ true →
    list_all (λ h. covers since h || handler_test p m ws at f h) hs ≡ list_all (handler_test p m ws at f) hs
later_same p m ws since at f [] e = refl
later_same p m ws since at f (h ∷ hs) e =
    let two = parts (handler_test p m ws since f h) (list_all (handler_test p m ws since f) hs) e in
    ap (λ b. b && list_all (λ h. covers since h || handler_test p m ws at f h) hs) (later_one (covers at h) (covers since h) (handler_fits p m ws f h) two.0)
    ∙ ap (λ b. handler_test p m ws at f h && b) (later_same p m ws since at f hs two.1)

-- ---- places up to the next at which a handler begins

covers_back : (since at next start end : ℕ) → (nat_le start since || nat_le next start) ≡ true → (nat_le since at && nat_lt at next) ≡ true → (nat_le start since && nat_lt since end) ≡ false → (nat_le start at && nat_lt at end) ≡ false
covers_back since at next start end none spans e = grind (arith, nat_tests)

stays_one : (here before fits : Bool) → (before ≡ false → here ≡ false) → (if before then fits else true) ≡ true → (if here then fits else true) ≡ true
stays_one false before fits back e = refl
stays_one true true fits back e = e
stays_one true false fits back e = absurd (let f = back refl in cc)

stays_all : (p : Program) (m : Method) (ws : List Written) (since at next : ℕ) (f : Frame) (hs : List Handler) → none_begins hs since next ≡ true → (nat_le since at && nat_lt at next) ≡ true →
    list_all (handler_test p m ws since f) hs ≡ true → list_all (handler_test p m ws at f) hs ≡ true
stays_all p m ws since at next f [] none spans e = refl
stays_all p m ws since at next f (h ∷ hs) none spans e =
    let n = parts (nat_le h.start since || nat_le next h.start) (none_begins hs since next) none in
    let two = parts (handler_test p m ws since f h) (list_all (handler_test p m ws since f) hs) e in
    both (handler_test p m ws at f h) (list_all (handler_test p m ws at f) hs)
    (stays_one (covers at h) (covers since h) (handler_fits p m ws f h) (covers_back since at next h.start h.«end» n.0 spans) two.0)
    (stays_all p m ws since at next f hs n.1 spans two.1)

-- what is said of locals and a flag is said of a frame that has them
served_parts : (p : Program) (m : Method) (ws : List Written) (f : Frame) (s : Served) → is_served p m ws f.locals f.flag s ≡ true → (handlers_fit p m ws s.at f ≡ true) × (none_begins m.body.handlers s.at s.next ≡ true)
served_parts p m ws f s e = parts (handlers_fit p m ws s.at (bare f.locals f.flag)) (none_begins m.body.handlers s.at s.next) e

pub served_later : (p : Program) (m : Method) (ws : List Written) (f : Frame) (s : Served) (at : ℕ) → is_served p m ws f.locals f.flag s ≡ true →
    list_all (λ h. covers s.at h || handler_test p m ws at f h) m.body.handlers ≡ handlers_fit p m ws at f
served_later p m ws f s at e = later_same p m ws s.at at f m.body.handlers (served_parts p m ws f s e).0

pub served_still : (p : Program) (m : Method) (ws : List Written) (f : Frame) (s : Served) (at : ℕ) (b : Bool) → is_served p m ws f.locals f.flag s ≡ true → b ≡ (nat_le s.at at && nat_lt at s.next) → b ≡ true → true ≡ handlers_fit p m ws at f
served_still p m ws f s at b e spans is =
    let two = served_parts p m ws f s e in sym (stays_all p m ws s.at at s.next f m.body.handlers two.1 (sym spans ∙ is) two.0)

pub served_here : (p : Program) (m : Method) (ws : List Written) (f : Frame) (at next : ℕ) → handlers_fit p m ws at f ≡ true → none_begins m.body.handlers at next ≡ true → is_served p m ws f.locals f.flag (record { at = at; next = next }) ≡ true
served_here p m ws f at next fits none = both (handlers_fit p m ws at (bare f.locals f.flag)) (none_begins m.body.handlers at next) fits none

-- ---- the next place at which a handler begins

nearest_one : (at next now start : ℕ) → now ≤ next → (nat_le start at || nat_le next start) ≡ true → (nat_le start at || nat_le now start) ≡ true
nearest_one at next now start less e = grind (arith, nat_tests)

nearest_all : (hs : List Handler) (at next now : ℕ) → now ≤ next → none_begins hs at next ≡ true → none_begins hs at now ≡ true
nearest_all [] at next now less e = refl
nearest_all (h ∷ hs) at next now less e =
    let two = parts (nat_le h.start at || nat_le next h.start) (none_begins hs at next) e in
    both (nat_le h.start at || nat_le now h.start) (none_begins hs at now) (nearest_one at next now h.start less two.0) (nearest_all hs at next now less two.1)

is_near : (at now start : ℕ) → (start ≤ at) ⊎ (now ≤ start) → (nat_le start at || nat_le now start) ≡ true
is_near at now start (inl e) = grind (arith, nat_tests)
is_near at now start (inr e) = grind (arith, nat_tests)

pub nearest_more : (hs : List Handler) (i : ℕ) (d : Handler) (at next now : ℕ) → i < length hs → now ≤ next → ((get_or hs i d).start ≤ at) ⊎ (now ≤ (get_or hs i d).start) → none_begins (take i hs) at next ≡ true → none_begins (take (i + 1) hs) at now ≡ true
nearest_more hs i d at next now lt less near e =
    list_all_more (λ h. nat_le h.start at || nat_le now h.start) hs i d lt
    ∙ both (none_begins (take i hs) at now) (nat_le (get_or hs i d).start at || nat_le now (get_or hs i d).start) (nearest_all (take i hs) at next now less e) (is_near at now (get_or hs i d).start near)

-- ---- behind an instruction

pub known_moved : (p : Program) (m : Method) (ws : List Written) (f g : Frame) (k : LocalsInfo) → Rests f (Some g) → IsKnown p m ws f.locals f.flag k → IsKnown p m ws g.locals g.flag k
known_moved p m ws f g k same known =
    subst (λ (b : Bool). IsKnown p m ws g.locals b k) (sym same.1) (subst (λ (ls : List VType). IsKnown p m ws ls f.flag k) (sym same.0) known)

pub none_known : (p : Program) (m : Method) (ws : List Written) (locals : List VType) (flag : Bool) (k : LocalsInfo) → k ≡ unknown → IsKnown p m ws locals flag k
none_known p m ws locals flag k e = subst (λ (k : LocalsInfo). IsKnown p m ws locals flag k) (sym e) (record { from = tt; served = tt })

pub known_behind : (p : Program) (m : Method) (ws : List Written) (here : Here) (pool : List Entry) (form : OpForm Switch) (f : Frame) (g : FrameRef) (r : Option FrameRef) (k : LocalsInfo) → r ≡ Some g → option_map (seen p) r ≡ by_form p here pool form f
    → ((here : Here) (pool : List Entry) (g : Frame) → by_form p here pool form f ≡ Some g → IsKnown p m ws g.locals g.flag k) → IsKnown p m ws (seen p g).locals g.flag k
known_behind p m ws here pool form f g r k is e behind = behind here pool (seen p g) (sym e ∙ ap (option_map (seen p)) is)

-- ---- what arrives

pub arrived_is : (p : Program) (a : Arriving) (r : Option Held) → MatchOption r (a.comes ≡ false) (λ h. (h ≡ a.held) × (a.comes ≡ true)) → option_map (held_seen p) r ≡ arrived p a
arrived_is p a None e = sym (ap (λ (b : Bool). if b then Some (held_seen p a.held) else None) e)
arrived_is p a (Some h) e = ap (λ (h : Held). Some (held_seen p h)) e.0 ∙ sym (ap (λ (b : Bool). if b then Some (held_seen p a.held) else None) e.1)

pub arrived_has : (P : Held → Type 0) (a : Arriving) (r : Option Held) → MatchOption r (a.comes ≡ false) (λ h. (h ≡ a.held) × (a.comes ≡ true)) → P a.held → IfSome r P
arrived_has P a None e has = tt
arrived_has P a (Some h) e has = subst P (sym e.0) has

-- ---- where a flag stays

pub same_flag : (a b : Bool) → not (beq a b) ≡ false → a ≡ b
same_flag true true e = refl
same_flag true false e = absurd cc
same_flag false true e = absurd cc
same_flag false false e = refl

pub itself_told : (o : Option Served) (P : Type 0) → P → IfSome o (λ s. (o ≡ Some s) × P)
itself_told None P x = tt
itself_told (Some s) P x = (refl, x)

pub served_moved : (test : List VType → Bool → Served → Bool) (locals : List VType) (old new : Bool) (o r : Option Served) → IfSome r (λ s. (o ≡ Some s) × (old ≡ new)) → IfSome o (λ s. test locals old s ≡ true) →
    IfSome r (λ s. test locals new s ≡ true)
served_moved test locals old new o None e h = tt
served_moved test locals old new o (Some s) e h = ap (λ (b : Bool). test locals b s) (sym e.1) ∙ told (λ s. test locals old s ≡ true) o s h e.0

pub none_served : (test : List VType → Bool → Served → Bool) (locals : List VType) (flag : Bool) (o : Option Served) → o ≡ None → IfSome o (λ s. test locals flag s ≡ true)
none_served test locals flag None e = tt
none_served test locals flag (Some s) e = absurd cc

-- ---- a frame with which an instruction begins

pub held_all : (c : Checking) (r : Option Held) → IfSome r (λ h. length h.frame.locals ≡ c.declared.now.most) → IfSome r (λ h. AreFrom (frames_of c) (held_seen (program_of c) h).locals h.known.from) →
    IfSome r (λ h. IfSome h.known.served (λ s. is_served (program_of c) (method_of c) (frames_of c) (held_seen (program_of c) h).locals h.frame.flag s ≡ true)) → IfSome r (IsHeld c)
held_all c None count from served = tt
held_all c (Some h) count from served = record { count = count; known = record { from = from; served = served } }

-- ---- the first frame

pub first_held : (c : Checking) (f : FrameRef) (a : Arriving) → IsCounted c f → a.held.frame ≡ f → a.held.known ≡ unknown → IsHeld c a.held
first_held c f a count is known = record {
  count = ap (λ (x : FrameRef). length x.locals) is ∙ count;
  known = none_known (program_of c) (method_of c) (frames_of c) (held_seen (program_of c) a.held).locals a.held.frame.flag a.held.known known;
}

pub first_arrives : (p : Program) (f : FrameRef) (a : Arriving) → a.held.frame ≡ f → a.comes ≡ true → arrived p a ≡ Some (seen p f)
first_arrives p f a is comes = ap (λ (b : Bool). if b then Some (held_seen p a.held) else None) comes ∙ ap (λ (x : FrameRef). Some (seen p x)) is
