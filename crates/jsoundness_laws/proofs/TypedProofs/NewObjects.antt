-- New objects in typed frames.
use Rattle.std.proofs.Common.{◌≡◌, ℕ, suc, ◌+◌, Bool, true, false, ◌||◌, ◌==◌, List, [], ◌∷◌, length, map, Option, Some, None, refl, sym, ap, subst, arith, rules, ◌∙◌}
use Rattle.std.specs.List.{AllByRecursion, list_any}
use Rattle.std.specs.Prelude.{option_map, if◌then◌else◌}
use Rattle.jlib.specs.declared.classes.LibClass.{LibClass}
use Rattle.jlib.specs.declared.classes.LibClass.TheVariants as lib
use Rattle.jvalues.specs.declared.jops.value.Value.{Value}
use Rattle.jvalues.specs.declared.jops.value.Value.TheVariants.{Ref}
use Rattle.jtypes.specs.declared.vtype.Name.{Name}
use Rattle.jtypes.specs.declared.vtype.VType.{VType}
use Rattle.jtypes.specs.declared.vtype.VType.TheVariants as types
use Rattle.jtypes.specs.TypeFrames.{Frame}
use Rattle.jresolution.specs.declared.jprogram.member.Member.{Member}
use Rattle.jresolution.specs.declared.jprogram.part.ClassRef.{ClassRef}
use Rattle.jresolution.specs.declared.jprogram.part.ClassRef.TheVariants as refs
use Rattle.jresolution.specs.jprogram.ProgramClasses.{Program, find, name_at, ref_of}
use Rattle.jresolution.proofs.JprogramProofs.ClassNumbers.{number_name}
use Rattle.jresolution.specs.jlayout.FieldLayout.{layout}
use Rattle.jlinking.specs.jlink.NamedFields.{is_plain}
use Rattle.jresolution.specs.juses.IndexedInstructions.{Used}
use Rattle.jresolution.specs.juses.InstructionMeanings as meanings
use Rattle.jresolution.specs.juses.DescriptorTypes.{name}
use Rattle.jtyping.specs.declared.jrule.unready.Unready.TheVariants as unready
use Rattle.jtyping.specs.jrule.InstructionContext.{Here}
use Rattle.jtyping.specs.jrule.ObjectRule as typed
use Rattle.jtyping.specs.jrule.ObjectRule.{all_replaced, is_it}
use Rattle.jtyping.specs.ProofNames.{replaced}
use Rattle.jtyping.specs.jrule.StackOperands.{pushed}
use Rattle.jsemantics.specs.jmachine.MachineStates.{FrameOf}
use Rattle.jsemantics.specs.jmachine.InstructionActions.{by_taken}
use Rattle.jsemantics.specs.jmachine.FrameOperations.{with_operands}
use Rattle.jsemantics.specs.jmachine.ObjectInstructions.{library_object, make, new, object_of}
use Rattle.jsemantics.specs.jmachine.Narrowing.{default}
use Rattle.jsemantics.specs.jmachine.HeapObjects.{Object, class_of, library_name}
use Rattle.jsemantics.specs.jmachine.TakenOperands.{taken}
use Rattle.jsemantics.specs.jmachine.Security.{Rules}
use Rattle.jsemantics.specs.jmachine.InstructionSites.{Site}
use Rattle.jsemantics.specs.jmachine.Store.{Store, next_number, object_at, with_made}
use Rattle.jsemantics.specs.jmachine.World.{World, world}
use Rattle.jsoundness_laws.specs.typed.TypedActions.{CanDo}
use Rattle.jsoundness_laws.specs.typed.TypedFrames.{AllHave, AllHold, Has, Holds, IsMade, News, Suits}
use Rattle.jsoundness_laws.specs.typed.TypedStores.{IsObject, IsStored}
use Rattle.jsoundness_laws.specs.typed.TypedUses.{IsLaidOut, IsNew}
use Rattle.jsoundness_laws.specs.typed.TypedValues.{AreOf, IsA, is_piece}
use Rattle.jsoundness_laws.proofs.TypedProofs.OperandExchange.{roomy}
use Rattle.jsoundness_laws.proofs.TypedProofs.StoreMonotonicity.{grows_made}
use Rattle.jsoundness_laws.proofs.TypedProofs.ObjectAllocation.{stored_made, get_end}
use Rattle.jtypes.specs.declared.vtype.VType.TheVariants.{Uninit}

-- ---- names for what definitions say in place

abbrev is_uninit : ℕ → VType → Bool
is_uninit o = elim [ Uninit at ↦ at == o | _ ↦ false ]

suc_is : (n : ℕ) → n + 1 ≡ suc n
suc_is n = omega arith

if_none : {A : Type 0} (b : Bool) (o : Option A) (x : A) → (if b then None else o) ≡ Some x → (b ≡ false) × (o ≡ Some x)
if_none true o x e = absurd (cc)
if_none false o x e = (refl, e)

neither : (a b : Bool) → a || b ≡ false → (a ≡ false) × (b ≡ false)
neither true b e = absurd (cc)
neither false b e = (refl, e)

-- ---- another object is the last one of its place

abbrev renewed : News → ℕ → ℕ → News
renewed news at n = record { made = λ o. if o == at then n else news.made o; this = news.this }

module _ {K : Type 0} (w : World) (s : Store K) (here : Here) (news : News) (at n : ℕ) where
  abbrev others : News
  others = renewed news at n

  made_else : (o : ℕ) → (o == at) ≡ false → others.made o ≡ news.made o
  made_else o e = ap (λ b. if b then n else news.made o) e

  has_else : (a : VType) (v : Value K) → is_uninit at a ≡ false → Has w s here news a v → Has w s here others a v
  has_else types.Top v e h = tt
  has_else types.UninitThis v e h = h
  has_else (types.Uninit o) v e h =
      let same = sym (made_else o e) in
      (h.0 ∙ ap (λ m. Ref m) same, subst (λ m. IsMade w s (here.makes o) m) same h.1)
  has_else types.Int v e h = h
  has_else types.Long v e h = h
  has_else types.Null v e h = h
  has_else (types.Object c) v e h = h
  has_else (types.Array b) v e h = h
  has_else types.Ctx v e h = h

  hold_else : (a : VType) (y : Option (Value K)) → is_uninit at a ≡ false → Holds w s here news a y → Holds w s here others a y
  hold_else a None e h = h
  hold_else a (Some v) e h = has_else a v e h

  top_holds : (y : Option (Value K)) → Holds w s here others types.Top y
  top_holds None = refl
  top_holds (Some v) = tt

  hold_replaced : (a : VType) (y : Option (Value K)) → Holds w s here news a y → Holds w s here others (replaced (unready.New at) types.Top a) y
  hold_replaced a y h = go (is_uninit at a) refl
    where
      go : (b : Bool) → is_uninit at a ≡ b → Holds w s here others (if b then types.Top else a) y
      go true e = top_holds y
      go false e = hold_else a y e h

  locals_else : (ts : List VType) (ls : List (Option (Value K))) → AllHold w s here news ts ls → AllHold w s here others (all_replaced (unready.New at) types.Top ts) ls
  locals_else [] [] h = tt
  locals_else [] (y ∷ ls) h = absurd h
  locals_else (a ∷ ts) [] h = absurd h
  locals_else (a ∷ ts) (y ∷ ls) h = (hold_replaced a y h.0, locals_else ts ls h.1)

  operands_else : (ts : List VType) (vs : List (Value K)) → list_any (is_it (unready.New at)) ts ≡ false → AllHave w s here news ts vs → AllHave w s here others ts vs
  operands_else [] [] e h = tt
  operands_else [] (v ∷ vs) e h = absurd h
  operands_else (a ∷ ts) [] e h = absurd h
  operands_else (a ∷ ts) (v ∷ vs) e h =
      let both = neither (is_uninit at a) (list_any (is_it (unready.New at)) ts) e in
      (has_else a v both.0 h.0, operands_else ts vs both.1 h.1)

-- ---- what is made

module _ {K : Type 0} (w : World) (t : Store K) where
  default_is : (a : VType) → is_plain a ≡ true → IsA w t a (default a)
  default_is types.Int e = record { type = types.Int; is = refl; met = refl }
  default_is types.Long e = record { type = types.Long; is = refl; met = refl }
  default_is (types.Object c) e = record { type = types.Null; is = refl; met = refl }
  default_is (types.Array b) e = record { type = types.Null; is = refl; met = refl }
  default_is _ e = absurd (cc)

  defaults_are : (ts : List VType) → AllByRecursion (λ a. is_plain a ≡ true) ts → AreOf w t ts (map default ts)
  defaults_are [] h = tt
  defaults_are (a ∷ ts) h = (default_is a h.0, defaults_are ts h.1)

  null_is : IsA w t (types.Object (library_name lib.String)) (Ref 0)
  null_is = record { type = types.Null; is = refl; met = refl }

  library_is : (l : LibClass) → IsObject w t (library_object {K = K} l).object
  library_is (lib.Thrown c) = (tt, null_is)
  library_is lib.AccessControlException = (tt, null_is)
  library_is lib.String = tt
  library_is lib.StringBuilder = tt
  library_is (lib.Permission c) = tt
  library_is lib.AccessControlContext = tt
  library_is lib.Thread = tt
  library_is _ = tt

library_class : (K : Type 0) (named : ℕ → Name) (l : LibClass) → class_of named (library_object {K = K} l).object ≡ types.Object (library_name l)
library_class K named (lib.Thrown c) = refl
library_class K named lib.AccessControlException = refl
library_class K named lib.String = refl
library_class K named lib.StringBuilder = refl
library_class K named (lib.Permission c) = refl
library_class K named lib.AccessControlContext = refl
library_class K named lib.Thread = refl
library_class K named _ = refl

library_piece : (K : Type 0) (l : LibClass) → is_piece (library_object {K = K} l).object ≡ false
library_piece K (lib.Thrown c) = refl
library_piece K lib.AccessControlException = refl
library_piece K lib.String = refl
library_piece K lib.StringBuilder = refl
library_piece K (lib.Permission c) = refl
library_piece K lib.AccessControlContext = refl
library_piece K lib.Thread = refl
library_piece K _ = refl

name_same : (c : Name) → name c.0 ≡ c
name_same c = refl

module _ (K : Type 0) (p : Program) where
  abbrev made_by : ClassRef → Object K
  made_by r = (object_of (world p) r).object

  named_class : (r : ClassRef) → class_of (world p).named (made_by r) ≡ types.Object (name (name_at p r))
  unfolding world
  named_class (refs.User i) = refl
  named_class (refs.Lib l) = library_class K (world p).named l

  no_piece : (r : ClassRef) → is_piece (made_by r) ≡ false
  no_piece (refs.User i) = refl
  no_piece (refs.Lib l) = library_piece K l

  object_is : (t : Store K) (r : ClassRef) → IsLaidOut p r → IsObject (world p) t (made_by r)
  unfolding world
  object_is t (refs.User i) h = (null_is (world p) t, defaults_are (world p) t (layout p (name_at p (refs.User i))) h)
  object_is t (refs.Lib l) h = library_is (world p) t l

  class_is : (c : Name) (r : ClassRef) → option_map ref_of (find p c.0) ≡ Some r → class_of (world p).named (made_by r) ≡ types.Object c
  class_is c r found = named_class r ∙ ap (λ (n : List ℕ). types.Object (name n)) (number_name p c.0 r found) ∙ ap (λ c. types.Object c) (name_same c)

class_found : (p : Program) (c : Name) (r : ClassRef) → option_map ref_of (find p c.0) ≡ Some r → (world p).class c ≡ Some r
unfolding world
class_found p c r found = found

-- ---- all

module _ {K E : Type 0} (r : Rules K E) (at : Site) (own : Member → Bool) (s : Store K) (entries : List E) (inherited : Option K) (p : Program) (statics : List VType) (here : Here)
    (news : News) (c : Name) (x : IsNew p here c) (shape behind : Frame) (f : FrameOf K E) where
  abbrev object : Object K
  object = made_by K p x.class

  abbrev after : Store K
  after = with_made s object

  abbrev later : News
  later = renewed news here.at (next_number s)

  last_made : later.made here.at ≡ next_number s
  last_made = ap (λ b. if b then next_number s else news.made here.at) (same here.at)
    where
      same : (n : ℕ) → (n == n) ≡ true
      same n = search rules

  stands_last : object_at after (next_number s) ≡ Some object
  stands_last = ap (object_at after) (suc_is (length s.objects)) ∙ get_end s.objects object

  is_made : IsMade (world p) after (here.makes here.at) (later.made here.at)
  is_made = subst (λ o. IsMade (world p) after o (later.made here.at)) (sym x.makes) (subst (λ n. IsMade (world p) after (Some c) n) (sym last_made)
      (object, stands_last, class_is K p c x.class x.found, no_piece K p x.class))

  abbrev emptied : Frame
  emptied = record { locals = all_replaced (unready.New here.at) types.Top shape.locals; stack = shape.stack; flag = shape.flag }

  abbrev Found : World → Type 0
  Found w = CanDo w s statics here (Used (meanings.Make c)) behind (by_taken r at own s entries inherited f (taken w s [] f.operands) (make w s c))

  made_does : IsStored (world p) s statics → Suits (world p) s here news shape f → typed.make here.max_stack here.at shape ≡ Some behind → Found (world p)
  unfolding taken make
  made_does stored suits h =
      let none = if_none (list_any (is_it (unready.New here.at)) shape.stack) (pushed here.max_stack (types.Uninit here.at) emptied) behind h in
      let is = roomy here.max_stack emptied (types.Uninit here.at ∷ shape.stack) behind none.1 in record {
        done = record { frame = with_operands f f.operands; row = new s (object_of (world p) x.class) };
        is = ap (λ o. option_map (λ row. record { frame = with_operands f f.operands; row = row }) (option_map (λ r. new s (object_of (world p) r)) o)) (class_found p c x.class x.found);
        news = later;
        does = record {
          gives = Some (types.Uninit here.at);
          rest = shape.stack;
          stack = ap (λ f. f.stack) is;
          locals = subst (λ ts. AllHold (world p) s here later ts f.locals) (sym (ap (λ f. f.locals) is)) (locals_else (world p) s here news here.at (next_number s) shape.locals f.locals suits.locals);
          operands = operands_else (world p) s here news here.at (next_number s) shape.stack f.operands none.0 suits.operands;
          act = (
            refl,
            grows_made K (world p) s object,
            stored_made K (world p) s object statics stored (object_is K p after x.class x.laid),
            ((ap (λ n. Ref n) (sym last_made), is_made), tt),
          );
        };
      }

  pub new_does : at.world ≡ world p → IsStored at.world s statics → Suits at.world s here news shape f → typed.make here.max_stack here.at shape ≡ Some behind → Found at.world
  new_does same stored suits h =
      subst (λ w. Found w) (sym same) (made_does (subst (λ w. IsStored w s statics) same stored) (subst (λ w. Suits w s here news shape f) same suits) h)
