-- The methods of a moved class meet the demands on methods of a class file.
use Rattle.std.proofs.Common.{◌≡◌, ℕ, suc, ◌+◌, ◌≤◌, ◌<◌, Bool, true, false, cond, ◌&&◌, not, List, [], ◌∷◌, ◌++◌, length, map, Option, Some, None, refl, sym, ap, ◌∙◌, arith}
use Rattle.std.specs.Prelude.{IsTrue, codes, option_map, slice_get, ◌==◌, if◌then◌else◌}
use Rattle.std.specs.List.{filter, list_all}
use Rattle.std.proofs.lemmas.Bool.{eq-eqb, eqb-false, eqb-true, le-leb, lt-ltb, ltb-true}
use Rattle.std.proofs.lemmas.List.{length-append}
use Rattle.jground.specs.jbase.FirstFaults.{first_along}
use Rattle.jground.proofs.JbaseProofs.Firsts.{none_fails, none_of}
use Rattle.jground.specs.jformat.BodyFormats.{counted}
use Rattle.jground.specs.jformat.Format.{is_good, ◌·◌}
use Rattle.jground.proofs.JformatProofs.ReadingSteps.{both, first_true, second_true}
use Rattle.jparts.specs.declared.jpool.entry.Entry.{Entry}
use Rattle.jparts.specs.declared.jpool.entry.Entry.TheVariants.{Utf8}
use Rattle.jparts.specs.jpool.Descriptors.{method_slots, slots_of}
use Rattle.jparts.specs.jpool.ConstantPools.{is_utf8, utf8_at}
use Rattle.jclass.specs.declared.access.Access.{Access}
use Rattle.jclass.specs.declared.class.Attribute.{Attribute}
use Rattle.jclass.specs.declared.class.Attribute.TheVariants.{Code, ConstantValue, Raw}
use Rattle.jclass.specs.declared.class.ClassParts.{ClassParts}
use Rattle.jclass.specs.declared.class.CodeBody.{CodeBody}
use Rattle.jclass.specs.declared.class.MemberInfo.{MemberInfo}
use Rattle.jclass.specs.declared.fault.ClassFault.TheVariants as kinds
use Rattle.jclass.specs.Attributes.{text_index}
use Rattle.jclass.specs.IndexFormats.{access, run, u2, u4}
use Rattle.jclass.specs.Class.{class_file}
use Rattle.jclass.specs.CodeFormat.{code_content}
use Rattle.jclass.specs.MemberFormat as members
use Rattle.jclass.specs.MemberFormat.{attribute_name, body_of, codes_fault, method_attribute, method_parts}
use Rattle.jclass.specs.ProofNames.{codes_wanted, names_of}
use Rattle.jclass.specs.FlagRules.{descriptor_fault, is_code, is_static, is_text, method_descriptor, most_slots, within}
use Rattle.jclass.specs.FileContents.{IsIn}
use Rattle.jmove.specs.declared.method.MoveError.{MoveError}
use Rattle.jmove.specs.declared.method.MoveError.TheVariants as errors
use Rattle.jmove.specs.PoolAdditions.{IsFront, with_text, ◌>>◌}
use Rattle.jmove.specs.MethodExpansion.{limit_of, moved_by}
use Rattle.jmove.proofs.PoolGrowth.{front_on, front_self}
use Rattle.jresolution.specs.jprogram.ProgramClasses.{Program}
use Rattle.jresolution.specs.jprogram.ClassFileParts as parts
use Rattle.jresolution.specs.jprogram.ClassFileParts.{code_of, member_desc, or_empty}
use Rattle.jmoveclass.specs.declared.limit.RewriteKind.{RewriteKind}
use Rattle.jmoveclass.specs.EntryLocals.{params_in, params_of, slots}
use Rattle.jmoveclass.specs.ProofNames.{this_slots}
use Rattle.jmoveclass.specs.CallExpansion.{expands}
use Rattle.jmoveclass.specs.KeptAttributes.{method_keeps}
use Rattle.jmoveclass.specs.ClassLimits.{HasNone, at_method, class_limit, kind_of, limit_with, method_limit, pool_limit}
use Rattle.jmoveclass.specs.MovedMembers.{kept_alone, moved_member, new_desc, with_attribute, with_code, with_method}
use Rattle.jmoveclass.specs.MovedClasses.{moved_class}
use Rattle.jmoveclass.specs.PoolPuts.{with_each}
use Rattle.jmoveclass.proofs.MovedAttributes as limits
use Rattle.jmoveclass.proofs.PoolStability.{same_text, text_stays}
use Rattle.jmoveclass.proofs.Growth.{attribute_grows, method_grows}
use Rattle.jmoveclass.proofs.DemandPreservation.{good_is, is_good_of, text_index_on, text_of_index}
use Rattle.jmoveclass.proofs.MethodContents.{is_method_of, method_fits, parts_of}
use Rattle.jmoveclass.proofs.ItemAdditions.{each_grows}
use Rattle.jrewriting.specs.jmoveclass_laws.MovedFiles.{CanBeFile}
use Rattle.jrewriting.proofs.JmoveclassLawsProofs.PrologueClasses.{Begins, begins_of}
use Rattle.jrewriting.proofs.JmoveclassLawsProofs.CodeFormat.{IsGood, IsMovable, new_body, setup_good, setup_of}
use Rattle.jrewriting.proofs.JmoveclassLawsProofs.CallReferences.{AreCalls}
use Rattle.jrewriting.proofs.JmoveclassLawsProofs.TextSplits.{all_join}
use Rattle.jrewriting.proofs.JmoveclassLawsProofs.PoolFormat.{Grown, IsCodePut, Movable, code_calls, code_put, few_in, new_text, put_attribute, put_method, sound_of}
use Rattle.jrewriting.proofs.JmoveclassLawsProofs.SoundPools.{entry_front, front_length, index_small, put_text}
use Rattle.jrewriting.proofs.JmoveclassLawsProofs.Texts.{longer, longer_slots, moved_is}

-- ---- an attribute that is code

record IsNamed (pool : List Entry) (name : ℕ) : Type 0 where
  pub fits : IsTrue ((text_index pool).fits name)
  pub is : IsTrue (is_code pool name)

same_code : (base whole : List Entry) → IsFront base whole → (name : ℕ) → IsTrue (is_utf8 base name) → is_code whole name ≡ is_code base name
unfolding is_code
same_code base whole f name h = ap (λ (o : Option (List ℕ)). is_text o (codes "Code")) (same_text base whole f name h)

attribute_fits : (whole : List Entry) (name : ℕ) (b : CodeBody) → IsTrue ((text_index whole).fits name) → IsTrue (is_code whole name) → IsGood whole b
    → IsTrue ((method_attribute whole).fits (Code name b.max_stack b.max_locals b.ops b.handlers b.attributes))
unfolding method_attribute
attribute_fits whole name b text is good =
    both ((text_index whole).fits name) _ text (both (is_code whole name) _ is (both ((code_content whole).fits b) (u4.fits (length ((code_content whole).spell b))) good.fits good.bytes))

code_good : (p : Program) (c : ClassParts) (domain : ℕ) (m : MemberInfo) (name : ℕ) (b : CodeBody) (pool whole : List Entry) → IsMovable p c m b domain → IsCodePut p c m b pool → IsFront c.pool whole → IsFront (with_code p c domain m name b pool).1 whole
    → IsNamed c.pool name → IsTrue ((method_attribute whole).fits (with_code p c domain m name b pool).0)
unfolding with_code ◌>>◌ moved_by
code_good p c domain m name b pool whole k put front later named =
    let text = text_of_index c.pool name named.fits in
    attribute_fits whole name (new_body c m b domain _ _ _ _) (text_index_on c.pool whole front name named.fits) (same_code c.pool whole front name text ∙ named.is)
    (setup_good p c m b domain _ whole _ _ _ (setup_of p c m b domain pool whole k put front later))

-- ---- how many are named Code

abbrev codes_in : List Entry → List Attribute → ℕ
codes_in pool xs = length (filter (is_code pool) (map attribute_name xs))

abbrev one_if : Bool → ℕ
one_if b = if b then 1 else 0

cons_count : (b : Bool) (n : ℕ) (rest : List ℕ) → length (if b then n ∷ rest else rest) ≡ one_if b + length rest
cons_count true n rest = omega arith
cons_count false n rest = omega arith

codes_cons : (pool : List Entry) (x : Attribute) (xs : List Attribute) → codes_in pool (x ∷ xs) ≡ one_if (is_code pool (attribute_name x)) + codes_in pool xs
codes_cons pool x xs = cons_count (is_code pool (attribute_name x)) (attribute_name x) (filter (is_code pool) (map attribute_name xs))

codes_join : (pool : List Entry) (xs ys : List Attribute) → codes_in pool (xs ++ ys) ≡ codes_in pool xs + codes_in pool ys
codes_join pool [] ys = omega arith
codes_join pool (x ∷ xs) ys = omega (arith, codes_cons pool x (xs ++ ys), codes_cons pool x xs, codes_join pool xs ys)

-- ---- one attribute

record IsOne (base whole : List Entry) (a : Attribute) (some : List Attribute) : Type 0 where
  pub fits : IsTrue (list_all (method_attribute whole).fits some)
  pub few : length some ≤ 1
  pub count : codes_in whole some ≡ one_if (is_code base (attribute_name a))

one_code : (base whole : List Entry) (name : ℕ) (x : Attribute) → IsTrue ((method_attribute whole).fits x) → attribute_name x ≡ name → is_code whole name ≡ is_code base name → codes_in whole (x ∷ []) ≡ one_if (is_code base name)
one_code base whole name x h e same =
    let one : codes_in whole (x ∷ []) ≡ one_if (is_code whole (attribute_name x)) + 0 = codes_cons whole x [] in
    let alike : one_if (is_code whole (attribute_name x)) ≡ one_if (is_code base name) = ap (λ (n : ℕ). one_if (is_code whole n)) e ∙ ap one_if same in
    omega (arith, one, alike)

raw_parts : (pool : List Entry) (name : ℕ) (bytes : List ℕ) → IsTrue ((method_attribute pool).fits (Raw name bytes)) → IsTrue ((text_index pool).fits name) × (IsTrue (not (is_code pool name)) × IsTrue (run.fits bytes))
unfolding method_attribute
raw_parts pool name bytes h =
    let inside = second_true ((text_index pool).fits name) (not (is_code pool name) && run.fits bytes) h in
    (first_true ((text_index pool).fits name) (not (is_code pool name) && run.fits bytes) h, (first_true (not (is_code pool name)) (run.fits bytes) inside, second_true (not (is_code pool name)) (run.fits bytes) inside))

raw_fits : (pool : List Entry) (name : ℕ) (bytes : List ℕ) → IsTrue ((text_index pool).fits name) → IsTrue (not (is_code pool name)) → IsTrue (run.fits bytes) → IsTrue ((method_attribute pool).fits (Raw name bytes))
unfolding method_attribute
raw_fits pool name bytes text other long = both ((text_index pool).fits name) (not (is_code pool name) && run.fits bytes) text (both (not (is_code pool name)) (run.fits bytes) other long)

not_is : (b : Bool) → IsTrue (not b) → b ≡ false
not_is true h = absurd cc
not_is false h = refl

raw_by : (base whole : List Entry) (name : ℕ) (bytes : List ℕ) (b : Bool) → IsTrue ((method_attribute whole).fits (Raw name bytes)) → is_code whole name ≡ false → is_code base name ≡ false
    → IsOne base whole (Raw name bytes) (if b then Raw name bytes ∷ [] else [])
raw_by base whole name bytes true h e g =
    let one : codes_in whole (Raw name bytes ∷ []) ≡ one_if (is_code whole name) + 0 = codes_cons whole (Raw name bytes) [] in
    let none : one_if (is_code whole name) ≡ 0 = ap one_if e in
    let nothing : one_if (is_code base name) ≡ 0 = ap one_if g in
    record { fits = both ((method_attribute whole).fits (Raw name bytes)) true h refl; few = omega arith; count = omega arith }
raw_by base whole name bytes false h e g =
    let nothing : one_if (is_code base name) ≡ 0 = ap one_if g in
    record { fits = refl; few = omega arith; count = sym nothing }

raw_good : (base whole : List Entry) → IsFront base whole → (name : ℕ) (bytes : List ℕ) → IsTrue ((method_attribute base).fits (Raw name bytes)) → IsOne base whole (Raw name bytes) (kept_alone base (Raw name bytes))
raw_good base whole f name bytes h =
    let q = raw_parts base name bytes h in
    let none = not_is (is_code base name) q.1.0 in
    let same = same_code base whole f name (text_of_index base name q.0) ∙ none in
    raw_by base whole name bytes (method_keeps base (Raw name bytes)) (raw_fits whole name bytes (text_index_on base whole f name q.0) (ap not same) q.1.1) same none

code_parts : (pool : List Entry) (name : ℕ) (b : CodeBody) → IsTrue ((method_attribute pool).fits (Code name b.max_stack b.max_locals b.ops b.handlers b.attributes)) → IsNamed pool name
unfolding method_attribute
code_parts pool name b h =
    record { fits = first_true ((text_index pool).fits name) _ h; is = first_true (is_code pool name) _ (second_true ((text_index pool).fits name) _ h) }

constant_none : (pool : List Entry) (name value : ℕ) → IsTrue ((method_attribute pool).fits (ConstantValue name value)) → false ≡ true
unfolding method_attribute
constant_none pool name value h = h

name_of_code : (p : Program) (c : ClassParts) (domain : ℕ) (m : MemberInfo) (name : ℕ) (b : CodeBody) (pool : List Entry) → attribute_name (with_code p c domain m name b pool).0 ≡ name
unfolding with_code ◌>>◌
name_of_code p c domain m name b pool = refl

-- what is known of a method's codes
record MethodFacts (p : Program) (c : ClassParts) (domain : ℕ) (m : MemberInfo) : Type 0 where
  pub begins : Begins c m
  pub calls : (a : Attribute) (b : CodeBody) → IsIn a m.attributes → body_of a ≡ Some b → AreCalls c.pool (expands p c.pool b.ops)
  pub movable : (a : Attribute) (b : CodeBody) → IsIn a m.attributes → body_of a ≡ Some b → IsMovable p c m b domain

attribute_good : (p : Program) (c : ClassParts) (domain : ℕ) (m : MemberInfo) (a : Attribute) (pool whole : List Entry) → MethodFacts p c domain m → IsIn a m.attributes → IsTrue ((method_attribute c.pool).fits a) → Grown c.pool pool
    → length (with_attribute p c domain m a pool).1 ≤ 65535 → IsFront c.pool whole → IsFront (with_attribute p c domain m a pool).1 whole → IsOne c.pool whole a (with_attribute p c domain m a pool).0
unfolding ◌>>◌
attribute_good p c domain m (Code name stack locals ops handlers others) pool whole k is fit g few front later =
    let b : CodeBody = record { max_stack = stack; max_locals = locals; ops = ops; handlers = handlers; attributes = others } in
    let x = with_code p c domain m name b pool in
    let named = code_parts c.pool name b fit in
    let good = code_good p c domain m name b pool whole (k.movable (Code name stack locals ops handlers others) b is refl) (code_put p c domain m name b pool g k.begins (k.calls (Code name stack locals ops handlers others) b is refl) few) front later named in
    record {
      fits = both ((method_attribute whole).fits x.0) true good refl;
      few = omega arith;
      count = one_code c.pool whole name x.0 good (name_of_code p c domain m name b pool) (same_code c.pool whole front name (text_of_index c.pool name named.fits));
    }
attribute_good p c domain m (ConstantValue name value) pool whole k is fit g few front later = let no = constant_none c.pool name value fit in absurd cc
attribute_good p c domain m (Raw name bytes) pool whole k is fit g few front later = raw_good c.pool whole front name bytes fit

-- ---- all attributes

record AreGood (base whole : List Entry) (xs ys : List Attribute) : Type 0 where
  pub fits : IsTrue (list_all (method_attribute whole).fits ys)
  pub few : length ys ≤ length xs
  pub count : codes_in whole ys ≡ codes_in base xs

attributes_good : (p : Program) (c : ClassParts) (domain : ℕ) (m : MemberInfo) → MethodFacts p c domain m → (xs : List Attribute) → ((i : ℕ) (a : Attribute) → slice_get xs i ≡ Some a → IsIn a m.attributes)
    → IsTrue (list_all (method_attribute c.pool).fits xs) → (pool whole : List Entry) → Grown c.pool pool → length (with_each (with_attribute p c domain m) xs pool).1 ≤ 65535 → IsFront c.pool whole
    → IsFront (with_each (with_attribute p c domain m) xs pool).1 whole → AreGood c.pool whole xs (with_each (with_attribute p c domain m) xs pool).0
unfolding with_each ◌>>◌
attributes_good p c domain m k [] in_method fit pool whole g few front later = record { fits = refl; few = omega arith; count = refl }
attributes_good p c domain m k (a ∷ xs) in_method fit pool whole g few front later =
    let x = with_attribute p c domain m a pool in
    let y = with_each (with_attribute p c domain m) xs x.1 in
    let grown = (each_grows (with_attribute p c domain m) (attribute_grows p c domain m) xs).on x.1 in
    let le : length x.1 ≤ length y.1 = front_length x.1 y.1 grown in
    let fits = (method_attribute c.pool).fits in
    let is = in_method 0 a refl in
    let one = attribute_good p c domain m a pool whole k is (first_true (fits a) (list_all fits xs) fit) g (omega arith) front (front_on x.1 y.1 whole grown later) in
    let sound = put_attribute p c domain m a pool g k.begins (λ b e. k.calls a b is e) (omega arith) in
    let next : Grown c.pool x.1 = record { front = front_on c.pool pool x.1 g.front ((attribute_grows p c domain m a).on pool); before = g.before; sound = sound } in
    let rest = attributes_good p c domain m k xs (λ i d at. in_method (suc i) d at) (second_true (fits a) (list_all fits xs) fit) x.1 whole next few front later in
    record {
      fits = all_join (method_attribute whole).fits x.0 y.0 one.fits rest.fits;
      few = omega (arith, one.few, rest.few, length-append x.0 y.0);
      count = omega (arith, one.count, rest.count, codes_join whole x.0 y.0, codes_cons c.pool a xs);
    }

-- ---- limits

place_none : (j : ℕ) (o : Option RewriteKind) → at_method j o ≡ None → o ≡ None
place_none j None h = refl
place_none j (Some kind) h = absurd cc

slots_by : (b : Bool) (rest : Option MoveError) → option_map kind_of (cond b (Some errors.Slots) rest) ≡ None → b ≡ false
slots_by true rest h = absurd cc
slots_by false rest h = refl

no_slots : (b : Bool) (kind : RewriteKind) → (if b then Some kind else None) ≡ None → b ≡ false
no_slots true kind h = absurd cc
no_slots false kind h = refl

slots_with : (p : Program) (c : ClassParts) (m : MemberInfo) (o : Option CodeBody) → limit_with p c m o ≡ None → (slots c m == 255) ≡ false
unfolding limit_of
slots_with p c m None h = no_slots (slots c m == 255) _ h
slots_with p c m (Some b) h = slots_by (slots c m == 255) _ h

pub has_none : (p : Program) (domain : ℕ) (c : ClassParts) → class_limit p domain c ≡ None → HasNone p c
unfolding class_limit
has_none p domain c h = (none_of (first_along (λ j m. at_method j (method_limit p c m)) 0 c.methods) (pool_limit (length (moved_class p domain c).pool)) h).0

-- a slot is left for the context
pub few_slots : (p : Program) (c : ClassParts) (m : MemberInfo) → IsTrue (class_file.fits c) → IsIn m c.methods → HasNone p c → slots c m ≤ 254
unfolding method_limit
few_slots p c m fit there none =
    let one = place_none there.0 (method_limit p c m) (none_fails (λ j x. at_method j (method_limit p c x)) c.methods there.0 m none there.1) in
    let other = eqb-false (slots c m) 255 (slots_with p c m (code_of m) one) in
    let most = (is_method_of c m fit there).few in
    omega arith

-- ---- the descriptor

most_left : (b : Bool) (n : ℕ) → n + (if b then 0 else 1) ≤ 254 → n + 1 ≤ (if b then 255 else 254)
most_left true n h = omega arith
most_left false n h = omega arith

left_of : (c : ClassParts) (m : MemberInfo) (n : ℕ) → n + this_slots m ≤ 254 → n + 1 ≤ most_slots m.flags
unfolding is_static
left_of c m n h = most_left (parts.is_static m.flags) n h

pub text_at : (pool : List Entry) (i : ℕ) (text : List ℕ) → slice_get pool i ≡ Some (Utf8 text) → utf8_at pool i ≡ Some text
unfolding utf8_at
text_at pool i text h = rw h refl

desc_fits : (pool : List Entry) (a : Access) (i n : ℕ) (text : List ℕ) → i < 65536 → utf8_at pool i ≡ Some text → method_slots text ≡ Some n → n ≤ most_slots a → IsTrue ((method_descriptor pool a).fits i)
unfolding method_descriptor
desc_fits pool a i n text less at count few =
    let good : IsTrue (within (most_slots a) (method_slots text)) = ap (within (most_slots a)) count ∙ le-leb n (most_slots a) few in
    both (u2.fits i) (is_good (descriptor_fault (λ t. within (most_slots a) (method_slots t)) (utf8_at pool i))) (lt-ltb i 65536 less)
    (ap (λ (o : Option (List ℕ)). is_good (descriptor_fault (λ t. within (most_slots a) (method_slots t)) o)) at ∙ is_good_of (within (most_slots a) (method_slots text)) kinds.Descriptor good)

new_slots : (c : ClassParts) (m : MemberInfo) → IsTrue (class_file.fits c) → IsIn m c.methods → slots c m ≤ 254 → method_slots (new_desc c m) ≡ Some (slots_of (params_of c m) + 1)
new_slots c m fit there few =
    let d = is_method_of c m fit there in
    let is : new_desc c m ≡ longer d.params d.ret = ap or_empty (moved_is (member_desc c m) d.params d.ret d.is) in
    let params : params_of c m ≡ d.params = ap params_in d.is in
    let same : slots_of (params_of c m) ≡ slots_of d.params = ap slots_of params in
    ap method_slots is ∙ longer_slots (member_desc c m) d.params d.ret d.is (omega arith) ∙ ap (λ (n : ℕ). Some (n + 1)) (sym same)

-- ---- a method

record Frame (pool : List Entry) (m : MemberInfo) : Type 0 where
  pub flags : IsTrue (access.fits m.flags)
  pub name : IsTrue ((text_index pool).fits m.name)
  pub many : IsTrue (u2.fits (length m.attributes))

frame_of : (pool : List Entry) (m : MemberInfo) → IsTrue ((members.method pool).fits m) → Frame pool m
unfolding members.method method_parts
frame_of pool m fit =
    let a = first_true ((method_parts pool).fits m) (is_good (codes_fault pool (names_of m))) fit in
    let b = second_true (access.fits m.flags) ((text_index pool · method_descriptor pool m.flags · counted u2 (method_attribute pool)).fits (m.name, (m.desc, m.attributes))) a in
    let c = second_true ((text_index pool).fits m.name) ((method_descriptor pool m.flags · counted u2 (method_attribute pool)).fits (m.desc, m.attributes)) b in
    let d = second_true ((method_descriptor pool m.flags).fits m.desc) ((counted u2 (method_attribute pool)).fits m.attributes) c in
    record {
      flags = first_true (access.fits m.flags) ((text_index pool · method_descriptor pool m.flags · counted u2 (method_attribute pool)).fits (m.name, (m.desc, m.attributes))) a;
      name = first_true ((text_index pool).fits m.name) ((method_descriptor pool m.flags · counted u2 (method_attribute pool)).fits (m.desc, m.attributes)) b;
      many = second_true (list_all (method_attribute pool).fits m.attributes) (u2.fits (length m.attributes)) d;
    }

member_fits : (base whole : List Entry) → IsFront base whole → (m : MemberInfo) (desc : ℕ) (ys : List Attribute) → IsTrue ((members.method base).fits m) → IsTrue ((method_descriptor whole m.flags).fits desc) → AreGood base whole m.attributes ys
    → IsTrue ((members.method whole).fits (moved_member m desc ys))
unfolding members.method method_parts
member_fits base whole f m desc ys old new good =
    let now = moved_member m desc ys in
    let frame = frame_of base m old in
    let many : length m.attributes < 65536 = ltb-true (length m.attributes) 65536 frame.many in
    let fewer : length ys ≤ length m.attributes = good.few in
    let codes_old : codes_in base m.attributes ≡ codes_wanted m.flags = eqb-true (codes_in base m.attributes) (codes_wanted m.flags) (good_is (codes_in base m.attributes == codes_wanted m.flags) kinds.Code (parts_of base m old).codes) in
    let codes_now : codes_in whole ys ≡ codes_wanted m.flags = good.count ∙ codes_old in
    both ((method_parts whole).fits now) (is_good (codes_fault whole (names_of now)))
    (both (access.fits m.flags) _ frame.flags
    (both ((text_index whole).fits m.name) _ (text_index_on base whole f m.name frame.name)
    (both ((method_descriptor whole m.flags).fits desc) _ new
    (both (list_all (method_attribute whole).fits ys) (u2.fits (length ys)) good.fits (lt-ltb (length ys) 65536 (omega arith))))))
    (is_good_of (codes_in whole ys == codes_wanted m.flags) kinds.Code (eq-eqb (codes_in whole ys) (codes_wanted m.flags) codes_now))

facts_of : (p : Program) (domain : ℕ) (c : ClassParts) (m : MemberInfo) → CanBeFile p domain c → IsIn m c.methods → MethodFacts p c domain m
facts_of p domain c m k there =
    let none = limits.no_limit p c m k.good there (has_none p domain c k.none) in
    record {
      begins = begins_of c m k.good (sound_of c k.good) there;
      calls = λ a b is e. code_calls p c b (record { good = k.good; method = m; attribute = a; in_class = there; in_method = is; is_body = e }) k.room;
      movable = λ a b is e. record {
        has = record { good = k.good; method = m; attribute = a; in_class = there; in_method = is; is_body = e };
        can = k.can m a b there is e;
        none = none a b is e;
        stand = k.stand m a b there is e;
        small = k.small;
      };
    }

pub movable_of : (p : Program) (domain : ℕ) (c : ClassParts) → CanBeFile p domain c → Movable p c
movable_of p domain c k = record { good = k.good; sound = sound_of c k.good; short = k.short; room = k.room }

method_good : (p : Program) (domain : ℕ) (c : ClassParts) (m : MemberInfo) (pool whole : List Entry) → CanBeFile p domain c → IsIn m c.methods → Grown c.pool pool → length (with_method p c domain m pool).1 ≤ 65535 → IsFront c.pool whole
    → IsFront (with_method p c domain m pool).1 whole → IsTrue (list_all (members.method whole).fits (with_method p c domain m pool).0)
unfolding with_method ◌>>◌
method_good p domain c m pool whole k there g few front later =
    let text = new_desc c m in
    let x = with_text text pool in
    let y = with_each (with_attribute p c domain m) m.attributes x.1 in
    let grown = (each_grows (with_attribute p c domain m) (attribute_grows p c domain m) m.attributes).on x.1 in
    let le : length x.1 ≤ length y.1 = front_length x.1 y.1 grown in
    let behind = front_on x.1 y.1 whole grown later in
    let q = put_text text pool g.sound (new_text c m k.good (sound_of c k.good) there (k.short m there)) (omega arith) in
    let next : Grown c.pool x.1 = record { front = front_on c.pool pool x.1 g.front (entry_front (Utf8 text) pool); before = g.before; sound = q.sound } in
    let old = method_fits c m k.good there in
    let slots_few = few_slots p c m k.good there (has_none p domain c k.none) in
    let all : slots c m ≡ slots_of (params_of c m) + this_slots m = refl in
    let left = left_of c m (slots_of (params_of c m)) (omega arith) in
    let desc = desc_fits whole m.flags x.0 (slots_of (params_of c m) + 1) text (index_small x.1 x.0 (Utf8 text) q.sound q.there) (text_stays x.1 whole behind x.0 text (text_at x.1 x.0 text q.there)) (new_slots c m k.good there slots_few) left in
    let good = attributes_good p c domain m (facts_of p domain c m k there) m.attributes (λ i a at. (i, at)) (parts_of c.pool m old).attributes x.1 whole next few front later in
    both ((members.method whole).fits (moved_member m x.0 y.0)) true (member_fits c.pool whole front m x.0 y.0 old desc good) refl

methods_from : (p : Program) (domain : ℕ) (c : ClassParts) → CanBeFile p domain c → (ms : List MemberInfo) → ((i : ℕ) (m : MemberInfo) → slice_get ms i ≡ Some m → IsIn m c.methods) → (pool whole : List Entry) → Grown c.pool pool
    → length (with_each (with_method p c domain) ms pool).1 ≤ 65535 → IsFront c.pool whole → IsFront (with_each (with_method p c domain) ms pool).1 whole → IsTrue (list_all (members.method whole).fits (with_each (with_method p c domain) ms pool).0)
unfolding with_each ◌>>◌
methods_from p domain c k [] there pool whole g few front later = refl
methods_from p domain c k (m ∷ ms) there pool whole g few front later =
    let x = with_method p c domain m pool in
    let y = with_each (with_method p c domain) ms x.1 in
    let grown = (each_grows (with_method p c domain) (method_grows p c domain) ms).on x.1 in
    let le : length x.1 ≤ length y.1 = front_length x.1 y.1 grown in
    let is = there 0 m refl in
    let one = method_good p domain c m pool whole k is g (omega arith) front (front_on x.1 y.1 whole grown later) in
    let sound = put_method p c domain m pool (movable_of p domain c k) is g (omega arith) in
    let next : Grown c.pool x.1 = record { front = front_on c.pool pool x.1 g.front ((method_grows p c domain m).on pool); before = g.before; sound = sound } in
    all_join (members.method whole).fits x.0 y.0 one (methods_from p domain c k ms (λ i d at. there (suc i) d at) x.1 whole next few front later)

-- the methods of a moved class
pub methods_good : (p : Program) (domain : ℕ) (c : ClassParts) → CanBeFile p domain c → IsTrue (list_all (members.method (moved_class p domain c).pool).fits (moved_class p domain c).methods)
unfolding moved_class
methods_good p domain c k =
    let s = sound_of c k.good in
    let x = with_each (with_method p c domain) c.methods c.pool in
    methods_from p domain c k c.methods (λ i m at. (i, at)) c.pool x.1 (record { front = front_self c.pool; before = s; sound = s }) (few_in p domain c k.none)
    ((each_grows (with_method p c domain) (method_grows p c domain) c.methods).on c.pool) (front_self x.1)
