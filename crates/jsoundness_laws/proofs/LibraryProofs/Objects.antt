-- What objects and values are that fit the library's classes.
use Rattle.std.proofs.Common.{◌≡◌, ◌≢◌, ℕ, zero, suc, ℤ, ◌⊎◌, inl, inr, Bool, true, false, List, Option, Some, None, refl, sym, ap, subst, ◌∙◌}
use Rattle.std.specs.Bool.{⊤}
use Rattle.std.specs.Prelude.{if◌then◌else◌}
use Rattle.jlib.specs.declared.classes.LibClass.{LibClass}
use Rattle.jlib.specs.declared.classes.LibClass.TheVariants as lib
use Rattle.jlib.specs.declared.classes.PermissionClass.{PermissionClass}
use Rattle.jlib.specs.declared.classes.PermissionClass.TheVariants as permissions
use Rattle.jlib.specs.declared.side.Side.{Side}
use Rattle.jlib.specs.LibraryClasses as library
use Rattle.jperm.specs.declared.permission.Permission as perms
use Rattle.jvalues.specs.declared.jops.value.Value.{Value}
use Rattle.jvalues.specs.declared.jops.value.Value.TheVariants.{Int, Long, Ref, Ctx}
use Rattle.jtypes.specs.declared.vtype.ArrayType.{ArrayType}
use Rattle.jtypes.specs.declared.vtype.Name.{Name}
use Rattle.jtypes.specs.declared.vtype.VType.{VType}
use Rattle.jtypes.specs.declared.vtype.VType.TheVariants as types
use Rattle.jtyping.specs.jrule.StackEffects.{is_ref}
use Rattle.jtyping.specs.jrule.PoolEffects.{of_library}
use Rattle.jsemantics.specs.jmachine.HeapObjects.{Object, Instance, Thrown, Text, Builder, Piece, Permission, Context, Thread, Bare, Array, class_of, library_name}
use Rattle.jsemantics.specs.jmachine.Store.{Store, object_at}
use Rattle.jsemantics.specs.jmachine.World.{World, fits}
use Rattle.jsoundness_laws.specs.typed.TypedStores.{IsObject}
use Rattle.jsoundness_laws.specs.typed.TypedValues.{CanBeThrown, IsA, IsBare, is_piece, is_whole, known, whole_type}
use Rattle.jsoundness_laws.proofs.LibraryProofs.Classes.{IsLow, Sort, Raised, Strings, Builders, Permissions, Contexts, Threads, Others, permission_plain, sort_of, thrown_plain}
use Rattle.jsoundness_laws.proofs.LibraryProofs.Orders.{Orders}

some_is : {A : Type 0} (a b : A) → Some a ≡ Some b → a ≡ b
some_is a b e = cc

differ : false ≡ true → ⊥
differ e = cc

-- ---- classes

pub raised_on : (side : Side) (c : LibClass) → CanBeThrown c → library.stands_on side c ≡ true
raised_on side (lib.Thrown t) h = (thrown_plain side t).0
raised_on side lib.AccessControlException h = refl
raised_on side _ h = absurd h

raised_sort : (c : LibClass) → CanBeThrown c → sort_of c ≡ Raised
raised_sort (lib.Thrown t) h = refl
raised_sort lib.AccessControlException h = refl
raised_sort _ h = absurd h

bare_sort : (c : LibClass) → IsBare c → sort_of c ≡ Others
bare_sort lib.Object h = refl
bare_sort (lib.Thrown t) h = absurd h
bare_sort lib.AccessControlException h = absurd h
bare_sort lib.String h = absurd h
bare_sort lib.StringBuilder h = absurd h
bare_sort lib.System h = refl
bare_sort lib.PrintStream h = refl
bare_sort lib.Void h = refl
bare_sort lib.Cloneable h = refl
bare_sort lib.Serializable h = refl
bare_sort lib.Runnable h = refl
bare_sort lib.Thread h = absurd h
bare_sort lib.PrivilegedAction h = refl
bare_sort lib.AccessController h = refl
bare_sort lib.AccessControlContext h = absurd h
bare_sort (lib.Permission c) h = absurd h
bare_sort lib.Rt h = refl
bare_sort lib.Ctx h = refl

pub low_thrown : (side : Side) (c : LibClass) → CanBeThrown c → IsLow side c
low_thrown side (lib.Thrown t) h = record { on = (thrown_plain side t).0; face = (thrown_plain side t).1; top = λ e. cc }
low_thrown side lib.AccessControlException h = record { on = refl; face = refl; top = λ e. cc }
low_thrown side _ h = absurd h

pub low_permission : (side : Side) (c : PermissionClass) → IsLow side (lib.Permission c)
low_permission side c = record { on = (permission_plain side c).0; face = (permission_plain side c).1; top = λ e. cc }

pub low_string : (side : Side) → IsLow side lib.String
low_string side = record { on = refl; face = refl; top = λ e. cc }

pub low_builder : (side : Side) → IsLow side lib.StringBuilder
low_builder side = record { on = refl; face = refl; top = λ e. cc }

pub low_context : (side : Side) → IsLow side lib.AccessControlContext
low_context side = record { on = refl; face = refl; top = λ e. cc }

pub low_thread : (side : Side) → IsLow side lib.Thread
low_thread side = record { on = refl; face = refl; top = λ e. cc }

-- ---- objects

module _ {K : Type 0} where
  -- an object of a user's class, or of an array, is of no sort
  abbrev pub form : Object K → Option Sort
  form (Instance class message fields) = None
  form (Thrown c message) = Some Raised
  form (Text units) = Some Strings
  form (Builder units) = Some Builders
  form (Piece units) = Some Builders
  form (Permission c held) = Some Permissions
  form (Context kept) = Some Contexts
  form (Thread number) = Some Threads
  form (Bare c) = Some Others
  form (Array a items) = None

  -- a form that is the class's
  abbrev pub HasForm : Object K → Type 0
  HasForm (Thrown c message) = CanBeThrown c
  HasForm (Bare c) = IsBare c
  HasForm x = ⊤

  pub has_form : (w : World) (s : Store K) (x : Object K) → IsObject w s x → HasForm x
  has_form w s (Thrown c message) h = h.0
  has_form w s (Bare c) h = h
  has_form w s (Instance class message fields) h = tt
  has_form w s (Text units) h = tt
  has_form w s (Builder units) h = tt
  has_form w s (Piece units) h = tt
  has_form w s (Permission c held) h = tt
  has_form w s (Context kept) h = tt
  has_form w s (Thread number) h = tt
  has_form w s (Array a items) h = tt

  abbrev pub IsInstance : Object K → Type 0
  IsInstance x = (class : ℕ) × (message : ℕ) × (fields : List (Value K)) × (x ≡ Instance class message fields)

  strings_form : (x : Object K) → form x ≡ Some Strings → (units : Option (List ℕ)) × (x ≡ Text units)
  strings_form (Text units) e = (units, refl)
  strings_form _ e = absurd (cc)

  builders_form : (x : Object K) → is_piece x ≡ false → form x ≡ Some Builders → (units : List ℕ) × (x ≡ Builder units)
  builders_form (Builder units) named e = (units, refl)
  builders_form (Piece units) named e = absurd (cc)
  builders_form _ named e = absurd (cc)

  permissions_form : (x : Object K) → form x ≡ Some Permissions → (c : PermissionClass) × (held : Option perms.Permission) × (x ≡ Permission c held)
  permissions_form (Permission c held) e = (c, held, refl)
  permissions_form _ e = absurd (cc)

  contexts_form : (x : Object K) → form x ≡ Some Contexts → (kept : Option K) × (x ≡ Context kept)
  contexts_form (Context kept) e = (kept, refl)
  contexts_form _ e = absurd (cc)

  threads_form : (x : Object K) → form x ≡ Some Threads → (number : Option ℕ) × (x ≡ Thread number)
  threads_form (Thread number) e = (number, refl)
  threads_form _ e = absurd (cc)

  raised_form : (x : Object K) → form x ≡ Some Raised → (c : LibClass) × (message : ℕ) × (x ≡ Thrown c message)
  raised_form (Thrown c message) e = (c, message, refl)
  raised_form _ e = absurd (cc)

pub never : {A : Type 0} (b : Bool) → b ≡ false → b ≡ true → A
never true e h = absurd (cc)
never false e h = absurd (cc)

module _ (side : Side) (w : World) (o : Orders side w) where
  of_sort : (l c : LibClass) → IsLow side l → library.stands_on side c ≡ true → (s : Sort) → sort_of c ≡ s → fits w (types.Object (library_name c)) (of_library l) ≡ true
      → Some s ≡ Some (sort_of l)
  of_sort l c low on s is e = ap (λ s. Some s) (sym is ∙ sym (o.sorts l c low on e))

  bare_in : (l c : LibClass) → IsLow side l → IsBare c → (b : Bool) → library.stands_on side c ≡ b → fits w (types.Object (library_name c)) (of_library l) ≡ true
      → Some Others ≡ Some (sort_of l)
  bare_in l c low bare true on e = of_sort l c low on Others (bare_sort c bare) e
  bare_in l c low bare false off e = absurd (o.apart l c low off e)

module _ {K : Type 0} (side : Side) (w : World) (o : Orders side w) where
  abbrev Fit : LibClass → Object K → Type 0
  Fit l x = fits w (class_of w.named x) (of_library l) ≡ true

  -- what fits a class of the library that is low is of its sort, or of a user's class
  pub sorted : (l : LibClass) → IsLow side l → (x : Object K) → HasForm x → Fit l x → (form x ≡ Some (sort_of l)) ⊎ IsInstance x
  sorted l low (Instance class message fields) formed e = inr (class, message, fields, refl)
  sorted l low (Thrown c message) formed e = inl (of_sort side w o l c low (raised_on side c formed) Raised (raised_sort c formed) e)
  sorted l low (Text units) formed e = inl (of_sort side w o l lib.String low refl Strings refl e)
  sorted l low (Builder units) formed e = inl (of_sort side w o l lib.StringBuilder low refl Builders refl e)
  sorted l low (Piece units) formed e = inl (of_sort side w o l lib.StringBuilder low refl Builders refl e)
  sorted l low (Permission c held) formed e = inl (of_sort side w o l (lib.Permission c) low (permission_plain side c).0 Permissions refl e)
  sorted l low (Context kept) formed e = inl (of_sort side w o l lib.AccessControlContext low refl Contexts refl e)
  sorted l low (Thread number) formed e = inl (of_sort side w o l lib.Thread low refl Threads refl e)
  sorted l low (Bare c) formed e = inl (bare_in side w o l c low formed (library.stands_on side c) refl e)
  sorted l low (Array a items) formed e = never _ (o.arrays l low) e

  pub closed : (l : LibClass) → IsLow side l → library.is_open l ≡ false → (x : Object K) → HasForm x → Fit l x → form x ≡ Some (sort_of l)
  closed l low shut x formed e = elim (sorted l low x formed e) [
    | inl sort ↦ sort
    | inr user ↦ absurd (o.users l low shut user.0 (subst (λ x. Fit l x) user.3 e))
  ]

  -- ---- objects of each sort

  pub text_of : (x : Object K) → HasForm x → is_whole x ≡ true → Fit lib.String x → (units : List ℕ) × (x ≡ Text (Some units))
  text_of x formed whole e = let h = strings_form x (closed lib.String (low_string side) refl x formed e) in filled h.0 h.1
    where
      filled : (units : Option (List ℕ)) → x ≡ Text units → (units : List ℕ) × (x ≡ Text (Some units))
      filled None is = absurd (differ (subst (λ x. is_whole x ≡ true) is whole))
      filled (Some units) is = (units, is)

  pub builder_of : (x : Object K) → HasForm x → is_piece x ≡ false → Fit lib.StringBuilder x → (units : List ℕ) × (x ≡ Builder units)
  builder_of x formed named e = builders_form x named (closed lib.StringBuilder (low_builder side) refl x formed e)

  pub permission_of : (c : PermissionClass) (x : Object K) → HasForm x → Fit (lib.Permission c) x
      → (d : PermissionClass) × (held : Option perms.Permission) × (x ≡ Permission d held)
  permission_of c x formed e = permissions_form x (closed (lib.Permission c) (low_permission side c) (shut c) x formed e)
    where
      shut : (c : PermissionClass) → library.is_open (lib.Permission c) ≡ false
      shut permissions.Permission = refl
      shut permissions.BasicPermission = refl
      shut permissions.AllPermission = refl
      shut permissions.RuntimePermission = refl
      shut permissions.SecurityPermission = refl
      shut permissions.PropertyPermission = refl
      shut permissions.FilePermission = refl

  pub held_of : (x : Object K) → HasForm x → is_whole x ≡ true → Fit (lib.Permission permissions.Permission) x
      → (c : PermissionClass) × (held : perms.Permission) × (x ≡ Permission c (Some held))
  held_of x formed whole e = let h = permission_of permissions.Permission x formed e in filled h.0 h.1 h.2
    where
      filled : (c : PermissionClass) (held : Option perms.Permission) → x ≡ Permission c held → (c : PermissionClass) × (held : perms.Permission) × (x ≡ Permission c (Some held))
      filled c None is = absurd (differ (subst (λ x. is_whole x ≡ true) is whole))
      filled c (Some held) is = (c, held, is)

  pub kept_of : (x : Object K) → HasForm x → is_whole x ≡ true → Fit lib.AccessControlContext x → (kept : K) × (x ≡ Context (Some kept))
  kept_of x formed whole e = let h = contexts_form x (closed lib.AccessControlContext (low_context side) refl x formed e) in filled h.0 h.1
    where
      filled : (kept : Option K) → x ≡ Context kept → (kept : K) × (x ≡ Context (Some kept))
      filled None is = absurd (differ (subst (λ x. is_whole x ≡ true) is whole))
      filled (Some kept) is = (kept, is)

  pub thread_of : (x : Object K) → HasForm x → Fit lib.Thread x → (number : Option ℕ) × (x ≡ Thread number)
  thread_of x formed e = threads_form x (closed lib.Thread (low_thread side) refl x formed e)

  pub number_of : (x : Object K) → HasForm x → is_whole x ≡ true → Fit lib.Thread x → (number : ℕ) × (x ≡ Thread (Some number))
  number_of x formed whole e = let h = thread_of x formed e in filled h.0 h.1
    where
      filled : (number : Option ℕ) → x ≡ Thread number → (number : ℕ) × (x ≡ Thread (Some number))
      filled None is = absurd (differ (subst (λ x. is_whole x ≡ true) is whole))
      filled (Some number) is = (number, is)

  -- what can be thrown has a message
  pub data HasMessage (x : Object K) : Type 0 where
    OfUser : (class message : ℕ) (fields : List (Value K)) → x ≡ Instance class message fields → HasMessage x
    OfLibrary : (c : LibClass) (message : ℕ) → x ≡ Thrown c message → HasMessage x

  pub thrown_of : (l : LibClass) → CanBeThrown l → (x : Object K) → HasForm x → Fit l x → HasMessage x
  thrown_of l raised x formed e = elim (sorted l (low_thrown side l raised) x formed e) [
    | inl sort ↦ let h = raised_form x (sort ∙ ap (λ s. Some s) (raised_sort l raised)) in OfLibrary h.0 h.1 h.2
    | inr user ↦ OfUser user.0 user.1 user.2 user.3
  ]

-- ---- values

module _ {K : Type 0} (w : World) (s : Store K) where
  -- an object that may be named under a type
  pub record Named (t : VType) (n : ℕ) : Type 0 where
    pub object : Object K
    pub there : object_at s n ≡ Some object
    pub whole : is_whole object ≡ true
    pub fit : fits w (class_of w.named object) t ≡ true

  whole_in : (n : ℕ) (t a : VType) (o : Option (Object K)) → object_at s n ≡ o → whole_type w s o ≡ Some a → fits w a t ≡ true → Named t n
  whole_in n t a None at e met = absurd (cc)
  whole_in n t a (Some x) at e met = go (is_whole x) refl e
    where
      go : (b : Bool) → is_whole x ≡ b → (if b then Some (class_of w.named x) else None) ≡ Some a → Named t n
      go true whole e = record { object = x; there = at; whole = whole; fit = ap (λ a. fits w a t) (some_is (class_of w.named x) a e) ∙ met }
      go false whole e = absurd (cc)

  -- a reference that isn't null names one
  pub named : (t : VType) (n : ℕ) → n ≢ 0 → IsA w s t (Ref n) → Named t n
  named t zero other h = absurd (other refl)
  named t (suc n) other h = whole_in (suc n) t h.type (object_at s (suc n)) refl h.is h.met

  class_ref : (x : Object K) → is_ref (class_of w.named x) ≡ true
  class_ref (Instance class message fields) = refl
  class_ref (Thrown c message) = refl
  class_ref (Text units) = refl
  class_ref (Builder units) = refl
  class_ref (Piece units) = refl
  class_ref (Permission c held) = refl
  class_ref (Context kept) = refl
  class_ref (Thread number) = refl
  class_ref (Bare c) = refl
  class_ref (Array a items) = refl

  found_ref : (o : Option (Object K)) (a : VType) → whole_type w s o ≡ Some a → is_ref a ≡ true
  found_ref None a e = absurd (cc)
  found_ref (Some x) a e = go (is_whole x) e
    where
      go : (b : Bool) → (if b then Some (class_of w.named x) else None) ≡ Some a → is_ref a ≡ true
      go true e = ap is_ref (sym (some_is (class_of w.named x) a e)) ∙ class_ref x
      go false e = absurd (cc)

  known_ref : (n : ℕ) (a : VType) → known w s (Ref n) ≡ Some a → is_ref a ≡ true
  known_ref zero a e = ap is_ref (sym (some_is types.Null a e))
  known_ref (suc n) a e = found_ref (object_at s (suc n)) a e

  -- no reference fits a number or a context
  pub apart : (t : VType) → is_ref t ≡ false → (a : VType) → is_ref a ≡ true → fits w a t ≡ true → t ≡ types.Top
  apart types.Top plain a e f = refl
  apart types.Int plain types.Null e f = absurd (cc)
  apart types.Int plain (types.Object c) e f = absurd (cc)
  apart types.Int plain (types.Array b) e f = absurd (cc)
  apart types.Int plain a e f = absurd (cc)
  apart types.Long plain types.Null e f = absurd (cc)
  apart types.Long plain (types.Object c) e f = absurd (cc)
  apart types.Long plain (types.Array b) e f = absurd (cc)
  apart types.Long plain a e f = absurd (cc)
  apart types.Ctx plain types.Null e f = absurd (cc)
  apart types.Ctx plain (types.Object c) e f = absurd (cc)
  apart types.Ctx plain (types.Array b) e f = absurd (cc)
  apart types.Ctx plain a e f = absurd (cc)
  apart types.UninitThis plain types.Null e f = absurd (cc)
  apart types.UninitThis plain (types.Object c) e f = absurd (cc)
  apart types.UninitThis plain (types.Array b) e f = absurd (cc)
  apart types.UninitThis plain a e f = absurd (cc)
  apart (types.Uninit o) plain types.Null e f = absurd (cc)
  apart (types.Uninit o) plain (types.Object c) e f = absurd (cc)
  apart (types.Uninit o) plain (types.Array b) e f = absurd (cc)
  apart (types.Uninit o) plain a e f = absurd (cc)
  apart types.Null plain a e f = absurd (cc)
  apart (types.Object c) plain a e f = absurd (cc)
  apart (types.Array b) plain a e f = absurd (cc)

  abbrev Met : VType → VType → Type 0
  Met t a = fits w a t ≡ true

  pub int_of : (v : Value K) → IsA w s types.Int v → (x : ℤ) × (v ≡ Int x)
  int_of (Int x) h = (x, refl)
  int_of (Long x) h = absurd (differ (subst (λ a. Met types.Int a) (sym (some_is types.Long h.type h.is)) h.met))
  int_of (Ctx k) h = absurd (differ (subst (λ a. Met types.Int a) (sym (some_is types.Ctx h.type h.is)) h.met))
  int_of (Ref n) h = absurd (no_top (apart types.Int refl h.type (known_ref n h.type h.is) h.met))
    where
      no_top : types.Int ≡ types.Top → ⊥
      no_top e = cc

  pub long_of : (v : Value K) → IsA w s types.Long v → (x : ℤ) × (v ≡ Long x)
  long_of (Long x) h = (x, refl)
  long_of (Int x) h = absurd (differ (subst (λ a. Met types.Long a) (sym (some_is types.Int h.type h.is)) h.met))
  long_of (Ctx k) h = absurd (differ (subst (λ a. Met types.Long a) (sym (some_is types.Ctx h.type h.is)) h.met))
  long_of (Ref n) h = absurd (no_top (apart types.Long refl h.type (known_ref n h.type h.is) h.met))
    where
      no_top : types.Long ≡ types.Top → ⊥
      no_top e = cc

  pub ctx_of : (v : Value K) → IsA w s types.Ctx v → (k : K) × (v ≡ Ctx k)
  ctx_of (Ctx k) h = (k, refl)
  ctx_of (Int x) h = absurd (differ (subst (λ a. Met types.Ctx a) (sym (some_is types.Int h.type h.is)) h.met))
  ctx_of (Long x) h = absurd (differ (subst (λ a. Met types.Ctx a) (sym (some_is types.Long h.type h.is)) h.met))
  ctx_of (Ref n) h = absurd (no_top (apart types.Ctx refl h.type (known_ref n h.type h.is) h.met))
    where
      no_top : types.Ctx ≡ types.Top → ⊥
      no_top e = cc

  pub ref_of : (c : Name) (v : Value K) → IsA w s (types.Object c) v → (n : ℕ) × (v ≡ Ref n)
  ref_of c (Ref n) h = (n, refl)
  ref_of c (Int x) h = absurd (differ (subst (λ a. Met (types.Object c) a) (sym (some_is types.Int h.type h.is)) h.met))
  ref_of c (Long x) h = absurd (differ (subst (λ a. Met (types.Object c) a) (sym (some_is types.Long h.type h.is)) h.met))
  ref_of c (Ctx k) h = absurd (differ (subst (λ a. Met (types.Object c) a) (sym (some_is types.Ctx h.type h.is)) h.met))

  pub array_of : (b : ArrayType) (v : Value K) → IsA w s (types.Array b) v → (n : ℕ) × (v ≡ Ref n)
  array_of b (Ref n) h = (n, refl)
  array_of b (Int x) h = absurd (differ (subst (λ a. Met (types.Array b) a) (sym (some_is types.Int h.type h.is)) h.met))
  array_of b (Long x) h = absurd (differ (subst (λ a. Met (types.Array b) a) (sym (some_is types.Long h.type h.is)) h.met))
  array_of b (Ctx k) h = absurd (differ (subst (λ a. Met (types.Array b) a) (sym (some_is types.Ctx h.type h.is)) h.met))
