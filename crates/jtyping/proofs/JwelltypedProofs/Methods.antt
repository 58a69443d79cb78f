-- Methods and programs: no test fails exactly where they are typed.
use Rattle.std.proofs.Common.{◌≡◌, ◌↔◌, ℕ, not, List, length, Option, Some, None, refl}
use Rattle.std.specs.Prelude.{nat_lt, option_and_then, slice_get}
use Rattle.std.proofs.lemmas.Bool.{le-ltb, ltb-false}
use Rattle.jground.specs.jbase.FirstFaults.{fault_if, or_else}
use Rattle.jground.proofs.JbaseProofs.Firsts.{all_pass, none_fails, none_of}
use Rattle.jclass.specs.declared.class.ClassParts.{ClassParts}
use Rattle.jclass.specs.declared.class.CodeBody.{CodeBody}
use Rattle.jclass.specs.declared.class.MemberInfo.{MemberInfo}
use Rattle.jtypes.specs.TypeFrames.{places_of}
use Rattle.jresolution.specs.declared.jprogram.part.CodePart.{CodePart}
use Rattle.jresolution.specs.jprogram.ClassFileParts.{code_of}
use Rattle.jresolution.specs.jprogram.ProgramClasses.{Program}
use Rattle.jtyping.specs.jwelltyped.DeclaredFrames.{Written, first_frame, is_good, written}
use Rattle.jtyping.specs.jwelltyped.MethodPremises.{Method, method_of}
use Rattle.jtyping.specs.jwelltyped.VerifierTests.{Place, WellTyped, class_fault, enters, entry_fault, fault_with, frames_fault, in_method, member_fault, method_fault, room_fault, type_fault, walk}
use Rattle.jtyping.specs.jwelltyped.WellTypedness.{IsTyped, IsTypedWith, ProgramIsTyped}
use Rattle.jtyping.proofs.JwelltypedProofs.Bodies.{serves_walk, walk_serves}
use Rattle.jtyping.proofs.JwelltypedProofs.FrameIndices.{frames_begin, frames_enter, frames_from, frames_serve}
use Rattle.jtyping.proofs.JwelltypedProofs.Tests.{if_none, in_none, none_if, none_in, none_unless, of_none, unless_none}

-- ---- a method

abbrev walked : Program → Method → List Written → Option ℕ
walked p m ws = walk p m ws m.body.ops (Some (first_frame m))

abbrev body_fault : Program → Method → List Written → Option ℕ
body_fault p m ws = or_else (entry_fault p m ws) (walked p m ws)

abbrev good_test : Program → Method → Written → Option ℕ
good_test p m w = fault_if (not (is_good p m w)) w.at

typed_with : (p : Program) (m : Method) (ws : List Written) → fault_with p m ws ≡ None → IsTypedWith p m ws
typed_with p m ws e =
    let one = none_of (frames_fault p m ws) (or_else (room_fault m) (body_fault p m ws)) e in
    let two = none_of (room_fault m) (body_fault p m ws) one.1 in
    let three = none_of (entry_fault p m ws) (walked p m ws) two.1 in
    let body = walk_serves p m ws m.body.ops (Some (first_frame m)) three.1 in
    let enter = unless_none (enters p ws (first_frame m) m.body.ops) 0 three.0 in
    record {
      good = λ w is. unless_none (is_good p m w) w.at (none_in (good_test p m) ws w one.0 is);
      room = ltb-false m.body.max_locals (length (places_of m.params)) (if_none (nat_lt m.body.max_locals (length (places_of m.params))) 0 two.0);
      frames = body.0;
      are_frames = frames_from p m ws body.0 enter body.1.0 body.1.1;
    }

with_typed : (p : Program) (m : Method) (ws : List Written) → IsTypedWith p m ws → fault_with p m ws ≡ None
with_typed p m ws x =
    of_none (frames_fault p m ws) (or_else (room_fault m) (body_fault p m ws))
    (in_none (good_test p m) ws (λ w is. none_unless (is_good p m w) w.at (x.good w is)))
    (of_none (room_fault m) (body_fault p m ws)
    (none_if (nat_lt m.body.max_locals (length (places_of m.params))) 0 (le-ltb m.body.max_locals (length (places_of m.params)) x.room))
    (of_none (entry_fault p m ws) (walked p m ws)
    (none_unless (enters p ws (first_frame m) m.body.ops) 0 (frames_enter p m ws x.frames x.are_frames))
    (serves_walk p m ws m.body.ops (Some (first_frame m)) x.frames (frames_begin p m ws x.frames x.are_frames) (frames_serve p m ws x.frames x.are_frames))))

pub method_typed : (p : Program) (m : Method) → method_fault p m ≡ None → IsTyped p m
unfolding method_fault
method_typed p m e = typed_with p m (written p m) e

pub typed_method : (p : Program) (m : Method) → IsTyped p m → method_fault p m ≡ None
unfolding method_fault
typed_method p m x = with_typed p m (written p m) x

-- ---- a member of a class

at_body : (fault : CodeBody → Option ℕ) (code : Option CodeBody) (body : CodeBody) → option_and_then fault code ≡ None → code ≡ Some body → fault body ≡ None
at_body fault None body e is = cc
at_body fault (Some b) body e is = cc

of_body : (fault : CodeBody → Option ℕ) (code : Option CodeBody) → ((body : CodeBody) → code ≡ Some body → fault body ≡ None) → option_and_then fault code ≡ None
of_body fault None h = refl
of_body fault (Some b) h = h b refl

abbrev MemberIsTyped : Program → ClassParts → MemberInfo → Type 0
MemberIsTyped p c m = (body : CodeBody) → code_of m ≡ Some body → IsTyped p (method_of p c m body)

member_typed : (p : Program) (c : ClassParts) (m : MemberInfo) → member_fault p c m ≡ None → MemberIsTyped p c m
unfolding member_fault
member_typed p c m e body is = method_typed p (method_of p c m body) (at_body (λ b. method_fault p (method_of p c m b)) (code_of m) body e is)

typed_member : (p : Program) (c : ClassParts) (m : MemberInfo) → MemberIsTyped p c m → member_fault p c m ≡ None
unfolding member_fault
typed_member p c m h = of_body (λ b. method_fault p (method_of p c m b)) (code_of m) (λ body is. typed_method p (method_of p c m body) (h body is))

-- ---- a program

in_none_of : (i j : ℕ) (fault : Option ℕ) → in_method i j fault ≡ None → fault ≡ None
in_none_of i j None e = refl
in_none_of i j (Some at) e = cc

none_in_of : (i j : ℕ) (fault : Option ℕ) → fault ≡ None → in_method i j fault ≡ None
none_in_of i j None e = refl
none_in_of i j (Some at) e = cc

abbrev test_of : Program → ClassParts → ℕ → ℕ → MemberInfo → Option Place
test_of p c i j m = in_method i j (member_fault p c m)

class_typed : (p : Program) (i : ℕ) (part : CodePart) → class_fault p i part ≡ None → (k : ℕ) (m : MemberInfo) → slice_get part.class.methods k ≡ Some m → MemberIsTyped p part.class m
unfolding class_fault
class_typed p i part e k m is = member_typed p part.class m (in_none_of i k (member_fault p part.class m) (none_fails (test_of p part.class i) part.class.methods k m e is))

typed_class : (p : Program) (i : ℕ) (part : CodePart) → ((k : ℕ) (m : MemberInfo) → slice_get part.class.methods k ≡ Some m → MemberIsTyped p part.class m) → class_fault p i part ≡ None
unfolding class_fault
typed_class p i part h = all_pass (test_of p part.class i) part.class.methods (λ k m is. none_in_of i k (member_fault p part.class m) (typed_member p part.class m (h k m is)))

program_typed : (p : Program) → type_fault p ≡ None → ProgramIsTyped p
unfolding type_fault
program_typed p e part m body at_part at_m is = class_typed p at_part.0 part (none_fails (class_fault p) p.parts at_part.0 part e at_part.1) at_m.0 m at_m.1 body is

typed_program : (p : Program) → ProgramIsTyped p → type_fault p ≡ None
unfolding type_fault
typed_program p h = all_pass (class_fault p) p.parts (λ i part at_part. typed_class p i part (λ k m at_m body is. h part m body (i, at_part) (k, at_m) is))

pub well_typed_exactly : (p : Program) → WellTyped p ↔ ProgramIsTyped p
unfolding WellTyped
well_typed_exactly p = (program_typed p, typed_program p)
