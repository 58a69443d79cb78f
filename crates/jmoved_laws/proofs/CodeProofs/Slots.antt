-- How many slots values take where they serve for types that a descriptor says, and how many its parameters have.
use Rattle.std.proofs.Common.{◌≡◌, ℕ, zero, suc, ◌+◌, Bool, true, false, List, [], ◌∷◌, ◌++◌, length, map, Option, Some, None, refl, ap, sym, ◌∙◌, subst, arith}
use Rattle.std.specs.Prelude.{option_map, reverse, ◌==◌, ◌&&◌, if◌then◌else◌}
use Rattle.std.specs.Str.{byte}
use Rattle.std.proofs.Math.Dec.{eqb-suc-zero}
use Rattle.std.proofs.lemmas.Bool.{eqb-true}
use Rattle.std.proofs.lemmas.List.{reverse-append}
use Rattle.jground.specs.jbase.ListMaps.{each_some, put_front}
use Rattle.jparts.specs.declared.jpool.descriptor.Descriptor.{Descriptor}
use Rattle.jparts.specs.declared.jpool.descriptor.Descriptor.TheVariants as descriptors
use Rattle.jparts.specs.declared.jpool.descriptor.FieldType.{FieldType}
use Rattle.jparts.specs.jpool.Descriptors.{descriptor_of, is_wide, slots, slots_of}
use Rattle.jtypes.specs.declared.vtype.Name.{Name}
use Rattle.jtypes.specs.declared.vtype.Element.{Element}
use Rattle.jtypes.specs.declared.vtype.Element.TheVariants as elements
use Rattle.jtypes.specs.declared.vtype.VType.{VType}
use Rattle.jtypes.specs.declared.vtype.VType.TheVariants as types
use Rattle.jtypes.specs.DescriptorElements.{element_of, in_brackets}
use Rattle.jresolution.specs.jprogram.ProgramClasses.{Program}
use Rattle.jvalues.specs.declared.jops.value.Value.{Value}
use Rattle.jvalues.specs.declared.jops.value.Value.TheVariants.{Int, Long, Ref, Ctx}
use Rattle.jresolution.specs.juses.DescriptorTypes.{Called, called, element_in, is_context, name, return_in, there, type_in, type_of, typed, typed_as}
use Rattle.jresolution.specs.ProofNames.{held}
use Rattle.jlinking.proofs.JlinkProofs.PresentValues.{map_is}
use Rattle.jtyping.specs.jrule.StackEffects.{Fits}
use Rattle.jsemantics.specs.jmachine.FrameOperations.{onto, places_of}
use Rattle.jsemantics.specs.jmachine.HeapObjects.{Array, Bare, Builder, Context, Instance, Object, Permission, Piece, Text, Thread, Thrown, class_of, is_ready}
use Rattle.jsemantics.specs.jmachine.TakenOperands as operands
use Rattle.jsemantics.specs.jmachine.TakenOperands.{Taken, serves, taken, with_value, serves_as, found_type}
use Rattle.jsemantics.specs.jmachine.Store.{Store, object_at}
use Rattle.jsemantics.specs.jmachine.BasicInstructions.{places}
use Rattle.jsemantics.specs.jmachine.World.{World, fits}

-- ---- types

-- how many slots a value of a type takes
abbrev pub wide : VType → ℕ
wide types.Long = 2
wide t = 1

abbrev pub wides : List VType → ℕ
wides [] = 0
wides (t ∷ ts) = wide t + wides ts

-- a type that a descriptor says
abbrev pub is_declared : VType → Bool
is_declared types.Int = true
is_declared types.Long = true
is_declared (types.Object c) = true
is_declared (types.Array a) = true
is_declared types.Ctx = true
is_declared t = false

abbrev pub AllDeclared : List VType → Type 0
AllDeclared [] = Unit {0}
AllDeclared (t ∷ ts) = (is_declared t ≡ true) × AllDeclared ts

pub wides_append : (ts us : List VType) → wides (ts ++ us) ≡ wides ts + wides us
wides_append [] us = omega arith
wides_append (t ∷ ts) us = omega (arith, wides_append ts us)

pub declared_append : (ts us : List VType) → AllDeclared ts → AllDeclared us → AllDeclared (ts ++ us)
declared_append [] us h k = k
declared_append (t ∷ ts) us h k = (h.0, declared_append ts us h.1 k)

one_more : (t : VType) (ts : List VType) → wides (ts ++ t ∷ []) ≡ wide t + wides ts
one_more t ts = omega (arith, wides_append ts (t ∷ []))

wides_back : (ts : List VType) → wides (reverse ts) ≡ wides ts
wides_back [] = refl
wides_back (t ∷ ts) = ap wides (reverse-append (t ∷ []) ts) ∙ one_more t (reverse ts) ∙ ap (λ (n : ℕ). wide t + n) (wides_back ts)

declared_back : (ts : List VType) → AllDeclared ts → AllDeclared (reverse ts)
declared_back [] h = tt
declared_back (t ∷ ts) h = subst AllDeclared (sym (reverse-append (t ∷ []) ts)) (declared_append (reverse ts) (t ∷ []) (declared_back ts h.1) (h.0, tt))

-- ---- descriptors

abbrev is_long : Element → Bool
is_long elements.Long = true
is_long x = false

chosen : (letter k : ℕ) (b : Bool) → letter == k ≡ b → (e x : Element) (rest : Option Element) → (if b then Some e else rest) ≡ Some x → is_wide k ≡ is_long e → (rest ≡ Some x → is_wide letter ≡ is_long x) → is_wide letter ≡ is_long x
chosen letter k true at e x rest h w more =
    let same : e ≡ x = cc in
    ap is_wide (eqb-true letter k at) ∙ w ∙ ap is_long same
chosen letter k false at e x rest h w more = more h

letter_long : (letter : ℕ) (c : Name) (x : Element) → element_of letter c ≡ Some x → is_wide letter ≡ is_long x
letter_long letter c x h =
    chosen letter (byte "Z") (letter == byte "Z") refl elements.Boolean x _ h refl (λ h. chosen letter (byte "C") (letter == byte "C") refl elements.Char x _ h refl (λ h. chosen letter (byte "B") (letter == byte "B") refl elements.Byte x _ h refl
    (λ h. chosen letter (byte "S") (letter == byte "S") refl elements.Short x _ h refl (λ h. chosen letter (byte "I") (letter == byte "I") refl elements.Int x _ h refl (λ h. chosen letter (byte "J") (letter == byte "J") refl elements.Long x _ h refl
    (λ h. chosen letter (byte "L") (letter == byte "L") refl (elements.Class c) x None h refl (λ h. absurd cc)))))))

by_letter : (letter : ℕ) (b : Bool) → letter == byte "L" ≡ b → (o : Option Name) (c : Name) (x : Element) → (if b then option_map elements.Class o else element_of letter c) ≡ Some x → is_wide letter ≡ is_long x
by_letter letter true at o c x h =
    let r = map_is elements.Class o x h in
    ap is_wide (eqb-true letter (byte "L") at) ∙ ap is_long r.2
by_letter letter false at o c x h = letter_long letter c x h

-- what is said of a type of a descriptor
record Said (t : FieldType) (v : VType) : Type 0 where
  pub width : wide v ≡ slots t
  pub declared : is_declared v ≡ true

bracket_wide : (depth : ℕ) (x : Element) → wide (in_brackets depth x) ≡ (if depth == 0 && is_long x then 2 else 1)
bracket_wide zero elements.Boolean = refl
bracket_wide zero elements.Char = refl
bracket_wide zero elements.Byte = refl
bracket_wide zero elements.Short = refl
bracket_wide zero elements.Int = refl
bracket_wide zero elements.Long = refl
bracket_wide zero (elements.Class c) = refl
bracket_wide (suc d) x = sym (ap (λ (b : Bool). if b && is_long x then 2 else 1) (eqb-suc-zero d))

bracket_declared : (depth : ℕ) (x : Element) → is_declared (in_brackets depth x) ≡ true
bracket_declared zero elements.Boolean = refl
bracket_declared zero elements.Char = refl
bracket_declared zero elements.Byte = refl
bracket_declared zero elements.Short = refl
bracket_declared zero elements.Int = refl
bracket_declared zero elements.Long = refl
bracket_declared zero (elements.Class c) = refl
bracket_declared (suc d) x = refl

context_wide : (depth : ℕ) (x : Element) (b : Bool) → depth == 0 && is_context x ≡ b → wide (if b then types.Ctx else in_brackets depth x) ≡ (if depth == 0 && is_long x then 2 else 1)
context_wide zero (elements.Class c) true e = refl
context_wide zero elements.Boolean true e = refl
context_wide zero elements.Char true e = refl
context_wide zero elements.Byte true e = refl
context_wide zero elements.Short true e = refl
context_wide zero elements.Int true e = refl
context_wide zero elements.Long true e = absurd cc
context_wide (suc d) x true e = sym (ap (λ (b : Bool). if b && is_long x then 2 else 1) (eqb-suc-zero d))
context_wide depth x false e = bracket_wide depth x

context_declared : (depth : ℕ) (x : Element) (b : Bool) → is_declared (if b then types.Ctx else in_brackets depth x) ≡ true
context_declared depth x true = refl
context_declared depth x false = bracket_declared depth x

type_said : (p : Program) (t : FieldType) (v : VType) → type_in p t ≡ Some v → Said t v
unfolding type_in
type_said p t v h =
    let r = map_is (type_of t.depth) (element_in p t) v h in
    let long = by_letter t.base (t.base == byte "L") refl (there p t.class) (name t.class) r.0 r.1 in
    record {
      width = ap wide (sym r.2) ∙ context_wide t.depth r.0 (t.depth == 0 && is_context r.0) refl ∙ ap (λ (b : Bool). if t.depth == 0 && b then 2 else 1) (sym long);
      declared = ap is_declared (sym r.2) ∙ context_declared t.depth r.0 (t.depth == 0 && is_context r.0);
    }

record AllSaid (ts : List FieldType) (vs : List VType) : Type 0 where
  pub width : wides vs ≡ slots_of ts
  pub declared : AllDeclared vs

all_said : (p : Program) (ts : List FieldType) (vs : List VType) → each_some (type_in p) ts ≡ Some vs → AllSaid ts vs
unfolding each_some slots_of
all_said p [] vs h =
    let same : [] ≡ vs = cc in
    subst (AllSaid []) same (record { width = refl; declared = tt })
all_said p (t ∷ ts) vs h = by (type_in p t) refl (each_some (type_in p) ts) refl (λ ws e. all_said p ts ws e) h
  where
    by : (o : Option VType) → type_in p t ≡ o → (os : Option (List VType)) → each_some (type_in p) ts ≡ os → ((ws : List VType) → each_some (type_in p) ts ≡ Some ws → AllSaid ts ws) → put_front o os ≡ Some vs → AllSaid (t ∷ ts) vs
    by None e os es more h = absurd cc
    by (Some v) e None es more h = absurd cc
    by (Some v) e (Some ws) es more h =
        let same : v ∷ ws ≡ vs = cc in
        let one = type_said p t v e in
        let others = more ws es in
        let sum : wides (v ∷ ws) ≡ slots_of (t ∷ ts) = ap (λ (n : ℕ). n + wides ws) one.width ∙ ap (λ (n : ℕ). slots t + n) others.width in
        subst (AllSaid (t ∷ ts)) same (record { width = sum; declared = (one.declared, others.declared) })

-- what a method's descriptor says
pub record SaysTypes (desc : List ℕ) (params : List VType) : Type 0 where
  pub ts : List FieldType
  pub ret : Option FieldType
  pub is : descriptor_of desc ≡ Some (descriptors.Method ts ret)
  pub width : wides params ≡ slots_of ts
  pub declared : AllDeclared params

pub says_types : (p : Program) (desc : List ℕ) (params : List VType) (ret : Option VType) → typed p desc ≡ Called params ret → SaysTypes desc params
unfolding typed
says_types p desc params ret h = by (descriptor_of desc) refl h
  where
    of_field : (o : Option VType) → held o ≡ Called params ret → SaysTypes desc params
    of_field None h = absurd cc
    of_field (Some v) h = absurd cc

    of_method : (ts : List FieldType) (back : Option FieldType) → descriptor_of desc ≡ Some (descriptors.Method ts back) → (o : Option (List VType)) → each_some (type_in p) ts ≡ o → (r : Option (Option VType)) → called o r ≡ Called params ret → SaysTypes desc params
    of_method ts back e None es r h = absurd cc
    of_method ts back e (Some vs) es None h = absurd cc
    of_method ts back e (Some vs) es (Some r) h =
        let same : reverse vs ≡ params = cc in
        let all = all_said p ts vs es in
        record { ts = ts; ret = back; is = e; width = ap wides (sym same) ∙ wides_back vs ∙ all.width; declared = subst AllDeclared same (declared_back vs all.declared) }

    by : (d : Option Descriptor) → descriptor_of desc ≡ d → typed_as p d ≡ Called params ret → SaysTypes desc params
    by None e h = absurd cc
    by (Some (descriptors.Field t)) e h = of_field (type_in p t) h
    by (Some (descriptors.Method ts back)) e h = of_method ts back e (each_some (type_in p) ts) refl (return_in p back) h

-- ---- values

module _ {K : Type 0} where
  abbrev pub width : Value K → ℕ
  width v = length (places v)

  abbrev pub total : List (Value K) → ℕ
  total [] = 0
  total (v ∷ vs) = width v + total vs

  onto_length : (vs : List (Value K)) (ls : List (Option (Value K))) → length (onto vs ls) ≡ total vs + length ls
  unfolding onto
  onto_length [] ls = omega arith
  onto_length (Int x ∷ vs) ls = omega (arith, onto_length vs (Some (Int x) ∷ ls))
  onto_length (Long x ∷ vs) ls = omega (arith, onto_length vs (Some (Long x) ∷ None ∷ ls))
  onto_length (Ref n ∷ vs) ls = omega (arith, onto_length vs (Some (Ref n) ∷ ls))
  onto_length (Ctx k ∷ vs) ls = omega (arith, onto_length vs (Some (Ctx k) ∷ ls))

  pub places_total : (vs : List (Value K)) → places_of vs ≡ total vs
  places_total vs = omega (arith, onto_length vs [])

  pub total_append : (vs us : List (Value K)) → total (vs ++ us) ≡ total vs + total us
  total_append [] us = omega arith
  total_append (v ∷ vs) us = omega (arith, total_append vs us)

  class_wide : (named : ℕ → Name) (x : Object K) → wide (class_of named x) ≡ 1
  class_wide named (Instance class message fields) = refl
  class_wide named (Thrown c message) = refl
  class_wide named (Text units) = refl
  class_wide named (Builder units) = refl
  class_wide named (Piece units) = refl
  class_wide named (Permission c held) = refl
  class_wide named (Context kept) = refl
  class_wide named (Thread number) = refl
  class_wide named (Bare c) = refl
  class_wide named (Array a items) = refl

  ready_wide : (w : World) (b : Bool) (x : Object K) (a : VType) → (if b then Some (class_of w.named x) else None) ≡ Some a → wide a ≡ 1
  ready_wide w true x a h =
      let same : class_of w.named x ≡ a = cc in
      ap wide (sym same) ∙ class_wide w.named x
  ready_wide w false x a h = absurd cc

  found_wide : (w : World) (o : Option (Object K)) (a : VType) → found_type w o ≡ Some a → wide a ≡ 1
  found_wide w None a h = absurd cc
  found_wide w (Some x) a h = ready_wide w (is_ready x) x a h

  typed_wide : (w : World) (s : Store K) (v : Value K) (a : VType) → operands.type_of w s v ≡ Some a → width v ≡ wide a
  typed_wide w s (Int x) a h = let same : types.Int ≡ a = cc in ap wide same
  typed_wide w s (Long x) a h = let same : types.Long ≡ a = cc in ap wide same
  typed_wide w s (Ref zero) a h = let same : types.Null ≡ a = cc in ap wide same
  typed_wide w s (Ref (suc n)) a h = sym (found_wide w (object_at s (suc n)) a h)
  typed_wide w s (Ctx k) a h = let same : types.Ctx ≡ a = cc in ap wide same

long_only : (w : World) (a : VType) → fits w a types.Long ≡ true → wide a ≡ 2
long_only w types.Long h = refl
long_only w types.Top h = absurd cc
long_only w types.Int h = absurd cc
long_only w types.Null h = absurd cc
long_only w types.UninitThis h = absurd cc
long_only w (types.Uninit n) h = absurd cc
long_only w (types.Object c) h = absurd cc
long_only w (types.Array x) h = absurd cc
long_only w types.Ctx h = absurd cc

no_long : (w : World) (a b : VType) → fits w types.Long b ≡ false → fits w a b ≡ true → wide a ≡ 1
no_long w types.Long b off h = absurd cc
no_long w types.Top b off h = refl
no_long w types.Int b off h = refl
no_long w types.Null b off h = refl
no_long w types.UninitThis b off h = refl
no_long w (types.Uninit n) b off h = refl
no_long w (types.Object c) b off h = refl
no_long w (types.Array x) b off h = refl
no_long w types.Ctx b off h = refl

fits_wide : (w : World) (a b : VType) → is_declared b ≡ true → fits w a b ≡ true → wide a ≡ wide b
fits_wide w a types.Long d h = long_only w a h
fits_wide w a types.Int d h = no_long w a types.Int refl h
fits_wide w a (types.Object c) d h = no_long w a (types.Object c) refl h
fits_wide w a (types.Array x) d h = no_long w a (types.Array x) refl h
fits_wide w a types.Ctx d h = no_long w a types.Ctx refl h
fits_wide w a types.Top d h = absurd cc
fits_wide w a types.Null d h = absurd cc
fits_wide w a types.UninitThis d h = absurd cc
fits_wide w a (types.Uninit n) d h = absurd cc

module _ {K : Type 0} (w : World) (s : Store K) where
  serving : (o : Option VType) (b : VType) (v : Value K) → operands.type_of w s v ≡ o → is_declared b ≡ true → serves_as w (Fits b) o ≡ true → width v ≡ wide b
  serving None b v e d h = absurd cc
  serving (Some a) b v e d h = typed_wide w s v a e ∙ fits_wide w a b d h

  -- a value that serves for a type takes as many slots
  serves_wide : (b : VType) (v : Value K) → is_declared b ≡ true → serves w s (Fits b) v ≡ true → width v ≡ wide b
  serves_wide b v d h = serving (operands.type_of w s v) b v refl d h

  -- values that were taken for types
  pub taken_total : (bs : List VType) (vs : List (Value K)) (t : Taken K) → AllDeclared bs → taken w s (map Fits bs) vs ≡ Some t → total t.values ≡ wides bs
  unfolding taken
  taken_total [] vs t d h =
      let same : record { values = []; below = vs } ≡ t = cc in
      ap (λ (x : Taken K). total x.values) (sym same)
  taken_total (b ∷ bs) [] t d h = absurd cc
  taken_total (b ∷ bs) (v ∷ vs) t d h = by (serves w s (Fits b) v) refl (λ r e. taken_total bs vs r d.1 e) h
    where
      by : (c : Bool) → serves w s (Fits b) v ≡ c → ((r : Taken K) → taken w s (map Fits bs) vs ≡ Some r → total r.values ≡ wides bs) → (if c then option_map (with_value v) (taken w s (map Fits bs) vs) else None) ≡ Some t → total t.values ≡ wides (b ∷ bs)
      by true e more h =
          let r = map_is (with_value v) (taken w s (map Fits bs) vs) t h in
          let one = serves_wide b v d.0 e in
          let others = more r.0 r.1 in
          ap (λ (x : Taken K). total x.values) (sym r.2) ∙ ap (λ (n : ℕ). n + total r.0.values) one ∙ ap (λ (n : ℕ). wide b + n) others
      by false e more h = absurd cc
