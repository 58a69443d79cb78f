-- What makes the same of the objects of a heap goes on to do so.
use Rattle.std.proofs.Common.{◌≡◌, ◌∙◌, ℕ, zero, suc, Bool, true, false, List, [], ◌∷◌, ◌++◌, Some, None, refl, subst, sym, ap, map}
use Rattle.std.specs.Prelude.{replicate, slice_get, slice_set}
use Rattle.std.specs.List.{AllByRecursion}
use Rattle.jperm.specs.declared.permission.Permission as perms
use Rattle.jdomain.specs.declared.verdict.Verdict.TheVariants.{Granted}
use Rattle.jmemory.specs.declared.jheap.cell.Kind.{Kind}
use Rattle.jmemory.specs.declared.jheap.cell.Kind.TheVariants as kinds
use Rattle.jmemory.specs.jheap.Heaps as heaps
use Rattle.jmemory.specs.jheap.Heaps.{Heaped}
use Rattle.jlib.specs.declared.classes.LibClass.{LibClass}
use Rattle.jlib.specs.declared.classes.LibClass.TheVariants as lib
use Rattle.jlib.specs.declared.side.Side.TheVariants.{Passing}
use Rattle.jresolution.specs.declared.jprogram.part.ClassRef.{ClassRef}
use Rattle.jresolution.specs.declared.jprogram.part.ClassRef.TheVariants as refs
use Rattle.jresolution.specs.jprogram.ProgramClasses.{Program}
use Rattle.jsemantics.specs.jmachine.MachineStates.{Act, FrameOf, Goes, Jumps, Leaves, Calls, Raises, Throws, Switches, Makes}
use Rattle.jsemantics.specs.jmachine.InstructionActions.{doing}
use Rattle.jsemantics.specs.jmachine.HeapObjects.{Object}
use Rattle.jsemantics.specs.jmachine.Security.{Rules}
use Rattle.jsemantics.specs.jmachine.Store.{Store}
use Rattle.jruntime.specs.declared.jstate.shapes.Shapes.{Shapes}
use Rattle.jruntime.specs.jstate.ClassNumbers.{class_numbered}
use Rattle.jruntime.specs.jstate.HeapMeanings.{Things, class_by, first, kind_by, library_by, object_by, store_by, values_of}
use Rattle.jrows.specs.declared.jacts.way.Way.{Way}
use Rattle.jrows.specs.declared.jacts.way.Way.TheVariants as ways
use Rattle.jrows.specs.jacts.RowOutcomes.{Acted, Comes, Left, leaves}
use Rattle.jserving.specs.jcells.ObjectEquivalence.{AreAlike, KeptLast, LeavesAlike, MadeStaysAlike, MoreStayAlike, NamesNothing, PermissionsLast, RowsLeaveOne, RowsStayAlike, StayAlike, WrittenStaysAlike, is_holder, is_holder_kind}

-- ---- lists

module _ {A B : Type 0} (f g : A → B) where
  map_each : (xs : List A) → map f xs ≡ map g xs → AllByRecursion (λ x. f x ≡ g x) xs
  map_each [] e = tt
  map_each (x ∷ xs) e =
      let one : f x ≡ g x = cc in
      let rest : map f xs ≡ map g xs = cc in
      (one, map_each xs rest)

  map_all : (xs : List A) → AllByRecursion (λ x. f x ≡ g x) xs → map f xs ≡ map g xs
  map_all [] all = refl
  map_all (x ∷ xs) all = ap (λ y. y ∷ map f xs) all.0 ∙ ap (λ ys. g x ∷ ys) (map_all xs all.1)

module _ {A : Type 0} (P : A → Type 0) where
  all_turn : (Q : A → Type 0) → ((x : A) → P x → Q x) → (xs : List A) → AllByRecursion P xs → AllByRecursion Q xs
  all_turn Q turn [] all = tt
  all_turn Q turn (x ∷ xs) all = (turn x all.0, all_turn Q turn xs all.1)

  all_more : (xs : List A) (x : A) → AllByRecursion P xs → P x → AllByRecursion P (xs ++ x ∷ [])
  all_more [] x all is = (is, tt)
  all_more (y ∷ xs) x all is = (all.0, all_more xs x all.1 is)

all_changed : (P : heaps.Object → Type 0) (f : heaps.Object → heaps.Object) (o : ℕ) (xs : List heaps.Object) (x : heaps.Object) → slice_get xs o ≡ Some x
    → AllByRecursion P xs → P (f x) → AllByRecursion P (heaps.changed f o xs)
all_changed P f o [] x at all is = tt
all_changed P f zero (y ∷ xs) x at all is = let same : y ≡ x = cc in (subst (λ z. P (f z)) (sym same) is, all.1)
all_changed P f (suc o) (y ∷ xs) x at all is = (all.0, all_changed P f o xs x at all.1 is)

-- ---- objects, one by one

module _ (p : Program) (shapes : Shapes) (things others : Things) where
  -- Both make the same of an object, whatever stands beside it.
  abbrev Same : heaps.Object → Type 0
  Same x = (objects : List heaps.Object) → object_by p shapes objects others x ≡ object_by p shapes objects things x

  library_same : (objects beside : List heaps.Object) (c : LibClass) (cells : List ℕ) → library_by beside others c cells ≡ library_by beside things c cells
      → library_by objects others c cells ≡ library_by objects things c cells
  library_same objects beside (lib.Permission c) cells e = e
  library_same objects beside lib.AccessControlContext cells e = e
  library_same objects beside (lib.Thrown c) cells e = refl
  library_same objects beside lib.AccessControlException cells e = refl
  library_same objects beside lib.String cells e = refl
  library_same objects beside lib.StringBuilder cells e = refl
  library_same objects beside lib.Thread cells e = refl
  library_same objects beside lib.Object cells e = refl
  library_same objects beside lib.System cells e = refl
  library_same objects beside lib.PrintStream cells e = refl
  library_same objects beside lib.Void cells e = refl
  library_same objects beside lib.Cloneable cells e = refl
  library_same objects beside lib.Serializable cells e = refl
  library_same objects beside lib.Runnable cells e = refl
  library_same objects beside lib.PrivilegedAction cells e = refl
  library_same objects beside lib.AccessController cells e = refl
  library_same objects beside lib.Rt cells e = refl
  library_same objects beside lib.Ctx cells e = refl

  class_same : (objects beside : List heaps.Object) (c : ClassRef) (cells : List ℕ) → class_by shapes beside others c cells ≡ class_by shapes beside things c cells
      → class_by shapes objects others c cells ≡ class_by shapes objects things c cells
  class_same objects beside (refs.User i) cells e = refl
  class_same objects beside (refs.Lib c) cells e = library_same objects beside c cells e

  kind_same : (objects beside : List heaps.Object) (kind : Kind) (cells : List ℕ) → kind_by p shapes beside others kind cells ≡ kind_by p shapes beside things kind cells
      → kind_by p shapes objects others kind cells ≡ kind_by p shapes objects things kind cells
  kind_same objects beside (kinds.Object n) cells e = class_same objects beside (class_numbered n) cells e
  kind_same objects beside (kinds.Array n) cells e = refl
  kind_same objects beside kinds.Text cells e = refl
  kind_same objects beside kinds.Piece cells e = refl

  each_same : (objects : List heaps.Object) → AreAlike p shapes things others objects → AllByRecursion Same objects
  each_same objects e =
      all_turn (λ x. object_by p shapes objects others x ≡ object_by p shapes objects things x) Same (λ x is beside. kind_same beside objects x.kind x.cells is) objects
      (map_each (object_by p shapes objects others) (object_by p shapes objects things) objects e)

  all_same : (objects : List heaps.Object) → AllByRecursion Same objects → AreAlike p shapes things others objects
  all_same objects same =
      map_all (object_by p shapes objects others) (object_by p shapes objects things) objects
      (all_turn Same (λ x. object_by p shapes objects others x ≡ object_by p shapes objects things x) (λ x is. is objects) objects same)

  -- ---- what names nothing

  library_nothing : (objects : List heaps.Object) (c : LibClass) (cells : List ℕ) → (is_holder (refs.Lib c) ≡ true → first cells ≡ 0)
      → library_by objects others c cells ≡ library_by objects things c cells
  library_nothing objects (lib.Permission c) cells none = let zeroed = none refl in rw zeroed refl
  library_nothing objects lib.AccessControlContext cells none = let zeroed = none refl in rw zeroed refl
  library_nothing objects (lib.Thrown c) cells none = refl
  library_nothing objects lib.AccessControlException cells none = refl
  library_nothing objects lib.String cells none = refl
  library_nothing objects lib.StringBuilder cells none = refl
  library_nothing objects lib.Thread cells none = refl
  library_nothing objects lib.Object cells none = refl
  library_nothing objects lib.System cells none = refl
  library_nothing objects lib.PrintStream cells none = refl
  library_nothing objects lib.Void cells none = refl
  library_nothing objects lib.Cloneable cells none = refl
  library_nothing objects lib.Serializable cells none = refl
  library_nothing objects lib.Runnable cells none = refl
  library_nothing objects lib.PrivilegedAction cells none = refl
  library_nothing objects lib.AccessController cells none = refl
  library_nothing objects lib.Rt cells none = refl
  library_nothing objects lib.Ctx cells none = refl

  class_nothing : (objects : List heaps.Object) (c : ClassRef) (cells : List ℕ) → (is_holder c ≡ true → first cells ≡ 0)
      → class_by shapes objects others c cells ≡ class_by shapes objects things c cells
  class_nothing objects (refs.User i) cells none = refl
  class_nothing objects (refs.Lib c) cells none = library_nothing objects c cells none

  kind_nothing : (objects : List heaps.Object) (kind : Kind) (cells : List ℕ) → (is_holder_kind kind ≡ true → first cells ≡ 0)
      → kind_by p shapes objects others kind cells ≡ kind_by p shapes objects things kind cells
  kind_nothing objects (kinds.Object n) cells none = class_nothing objects (class_numbered n) cells none
  kind_nothing objects (kinds.Array n) cells none = refl
  kind_nothing objects kinds.Text cells none = refl
  kind_nothing objects kinds.Piece cells none = refl

  same_nothing : (x : heaps.Object) → NamesNothing x → Same x
  same_nothing x none objects = kind_nothing objects x.kind x.cells none

pub more_stay : MoreStayAlike
more_stay objects x none p shapes things others e =
    all_same p shapes things others (objects ++ x ∷ [])
    (all_more (Same p shapes things others) objects x (each_same p shapes things others objects e) (same_nothing p shapes things others x none))

first_zero : (len : ℕ) → first (replicate len 0) ≡ 0
first_zero zero = refl
first_zero (suc len) = refl

pub made_stays : MadeStaysAlike
made_stays h kind len = more_stay h.objects (heaps.fresh kind len) (λ holder. first_zero len)

not_both : (b : Bool) → b ≡ false → b ≡ true → ⊥
not_both true is e = cc
not_both false is e = cc

pub written_stays : WrittenStaysAlike
written_stays h zero i n x at none p shapes things others e = e
written_stays h (suc o) i n x at none p shapes things others e =
    let f : heaps.Object → heaps.Object = λ y. record y { cells = slice_set y.cells i n } in
    all_same p shapes things others (heaps.changed f o h.objects)
    (all_changed (Same p shapes things others) f o h.objects x at (each_same p shapes things others h.objects e)
    (same_nothing p shapes things others (f x) (λ holder. absurd (not_both (is_holder_kind x.kind) none holder))))

-- ---- what a row leaves

module _ {E : Type 0} (f : FrameOf ℕ E) (s : Store ℕ) where
  acted_one : (x : FrameOf ℕ E) (cells : ℕ) (act : Act ℕ E) (l m : Left E) → Acted f s x cells act l → Acted f s x cells act m → m.store ≡ l.store
  acted_one x cells (Goes u values events) l m a b = ap (λ (y : Left E). y.store) (b ∙ sym a)
  acted_one x cells (Jumps to) l m a b = ap (λ (y : Left E). y.store) (b.1 ∙ sym a.1)
  acted_one x cells (Raises events class message) l m (n, o, w, t, same, a) (n2, o2, w2, t2, same2, b) = b ∙ sym a
  acted_one x cells (Throws n) l m (z, w, t, same, a) (z2, w2, t2, same2, b) = b ∙ sym a
  acted_one x cells (Leaves values) l m a b = absurd a
  acted_one x cells (Calls method arguments entry) l m a b = absurd a
  acted_one x cells (Switches table) l m a b = absurd a
  acted_one x cells (Makes u runnable k) l m a b = absurd a

pub leave_one : {E : Type 0} → RowsLeaveOne E
leave_one f g s t u None way told not a b = absurd (not a)
leave_one f g s t u (Some d) way told not a b = acted_one f s d.frame d.row.charge d.row.act (leaves way told g t) (leaves way told g u) a b

-- ---- rows

rules : {E : Type 0} → E → Rules ℕ E
rules e = record {
  side = Passing;
  entry_of = λ domain. e;
  first = None;
  enter = λ k domain. k;
  check = λ asked given entries inherited. Granted;
  check_kept = λ asked k. Granted;
  snapshot = λ given entries inherited. 0;
  inherit = λ given entries inherited. 0;
  privileged = λ domain given context limits entries. record { caller = e; context = None };
}

went_isnt : ways.Went ≡ ways.Stuck → ⊥
went_isnt e = cc

raises_isnt : (c : LibClass) → ways.Raises c ≡ ways.Stuck → ⊥
raises_isnt c e = cc

throws_isnt : (n : ℕ) → ways.Throws n ≡ ways.Stuck → ⊥
throws_isnt n e = cc

full_isnt : ways.Full ≡ ways.Stuck → ⊥
full_isnt e = cc

by_way : (p : Program) (shapes : Shapes) (things : Things) (way : Way) (before after : List heaps.Object) → ((way ≡ ways.Stuck → ⊥) → StayAlike p shapes things before after)
    → LeavesAlike p shapes things way before after
by_way p shapes things ways.Went before after stay = stay went_isnt
by_way p shapes things (ways.Raises c) before after stay = stay (raises_isnt c)
by_way p shapes things (ways.Throws n) before after stay = stay (throws_isnt n)
by_way p shapes things ways.Full before after stay = stay full_isnt
by_way p shapes things ways.Stuck before after stay = tt

alike_store : (p : Program) (shapes : Shapes) (things others : Things) (constants : List (List ℕ × ℕ)) (h : Heaped) → AreAlike p shapes things others h.objects
    → store_by p shapes others constants h ≡ store_by p shapes things constants h
alike_store p shapes things others constants h e =
    ap (λ (os : List (Object ℕ)). record { objects = os; statics = values_of shapes.statics h.statics; constants = constants; left = h.left }) e

pub rows_stay : {E : Type 0} → RowsStayAlike E
rows_stay {E} p shapes things h k f g way told before after i at own comes =
    by_way p shapes things way h.objects k.objects (λ not others e.
    let r = rules f.entry in
    let s = store_by p shapes things before h in
    let t = store_by p shapes things after k in
    let u = store_by p shapes others after k in
    let P : Store ℕ → Type 0 = λ x. Comes f x (doing r at own x [] None i f) (leaves way told g u) in
    let other : P s = subst P (alike_store p shapes things others before h e) (comes others e r [] None) in
    ap (λ (x : Store ℕ). x.objects) (leave_one f g s t u (doing r at own s [] None i f) way told not (comes things refl r [] None) other))

-- ---- what lasts

module _ (p : Program) (shapes : Shapes) (objects : List heaps.Object) (permissions others : List perms.Permission) (kept also : List ℕ) where
  abbrev by_kept : List perms.Permission → List ℕ → Things
  by_kept permissions kept = record { permissions = permissions; kept = kept }

  library_else : (c : LibClass) (cells : List ℕ) → library_by objects (by_kept others kept) c cells ≡ library_by objects (by_kept permissions kept) c cells
      → library_by objects (by_kept others also) c cells ≡ library_by objects (by_kept permissions also) c cells
  library_else (lib.Permission c) cells e = e
  library_else lib.AccessControlContext cells e = refl
  library_else (lib.Thrown c) cells e = refl
  library_else lib.AccessControlException cells e = refl
  library_else lib.String cells e = refl
  library_else lib.StringBuilder cells e = refl
  library_else lib.Thread cells e = refl
  library_else lib.Object cells e = refl
  library_else lib.System cells e = refl
  library_else lib.PrintStream cells e = refl
  library_else lib.Void cells e = refl
  library_else lib.Cloneable cells e = refl
  library_else lib.Serializable cells e = refl
  library_else lib.Runnable cells e = refl
  library_else lib.PrivilegedAction cells e = refl
  library_else lib.AccessController cells e = refl
  library_else lib.Rt cells e = refl
  library_else lib.Ctx cells e = refl

  class_else : (c : ClassRef) (cells : List ℕ) → class_by shapes objects (by_kept others kept) c cells ≡ class_by shapes objects (by_kept permissions kept) c cells
      → class_by shapes objects (by_kept others also) c cells ≡ class_by shapes objects (by_kept permissions also) c cells
  class_else (refs.User i) cells e = refl
  class_else (refs.Lib c) cells e = library_else c cells e

  kind_else : (kind : Kind) (cells : List ℕ) → kind_by p shapes objects (by_kept others kept) kind cells ≡ kind_by p shapes objects (by_kept permissions kept) kind cells
      → kind_by p shapes objects (by_kept others also) kind cells ≡ kind_by p shapes objects (by_kept permissions also) kind cells
  kind_else (kinds.Object n) cells e = class_else (class_numbered n) cells e
  kind_else (kinds.Array n) cells e = refl
  kind_else kinds.Text cells e = refl
  kind_else kinds.Piece cells e = refl

  abbrev by : Things → heaps.Object → Object ℕ
  by things x = object_by p shapes objects things x

  -- what is kept of contexts makes no difference to permissions
  alike_else : AreAlike p shapes (by_kept permissions kept) (by_kept others kept) objects → AreAlike p shapes (by_kept permissions also) (by_kept others also) objects
  alike_else e =
      map_all (by (by_kept others also)) (by (by_kept permissions also)) objects
      (all_turn (λ x. by (by_kept others kept) x ≡ by (by_kept permissions kept) x) (λ x. by (by_kept others also) x ≡ by (by_kept permissions also) x)
      (λ x is. kind_else x.kind x.cells is) objects
      (map_each (by (by_kept others kept)) (by (by_kept permissions kept)) objects e))

pub permissions_last : PermissionsLast
permissions_last p shapes permissions kept before after stay held things more e =
    let one : Things = record { permissions = permissions; kept = kept } in
    let P : List perms.Permission → Type 0 = λ ps. AreAlike p shapes (record { permissions = ps; kept = things.kept })
    (record { permissions = permissions ++ more; kept = things.kept }) after in
    subst P (sym e)
    (alike_else p shapes after permissions (permissions ++ more) kept things.kept
    (stay (record { permissions = permissions ++ more; kept = kept }) (held one more refl)))

pub kept_last : KeptLast
kept_last p shapes things before after stay same more = stay (record { permissions = things.permissions; kept = things.kept ++ more }) (same more)

-- What lasts, by what is made or written.
pub ruleset lastings = (leave_one, more_stay, made_stays, written_stays, kept_last)
