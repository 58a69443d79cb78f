-- Overriding of final methods, along a walk upwards.
use Rattle.std.proofs.Common.{◌≡◌, ℕ, ◌+◌, ◌-◌, ◌<◌, ◌≤◌, ◌&&◌, ◌||◌, Bool, true, false, List, [], ◌∷◌, ◌++◌, Option, Some, None, refl, sym, ap, ◌∙◌}
use Rattle.std.specs.Prelude.{is_some, if◌then◌else◌}
use Rattle.std.specs.List.{cons_option, list_any}
use Rattle.std.specs.BTreeMap as tree
use Rattle.std.specs.BTreeMap.{BTreeMap}
use Rattle.std.specs.Global.{Vec}
use Rattle.std.specs.Map.{lookup}
use Rattle.std.specs.Option.{option_or}
use Rattle.std.specs.Str.{bytes_eq}
use Rattle.std.specs.Ordering.{nat_cmp}
use Rattle.std.specs.Cmp.Lexicographic.{slice_cmp}
use Rattle.std.proofs.lemmas.List.Folds.{list_any-append}
use Rattle.jresolution.specs.declared.jprogram.member.Member.{Member}
use Rattle.jresolution.specs.jprogram.NameTable.{Notes, place_at}
use Rattle.jresolution.specs.jprogram.ClassFileParts.{package_of}
use Rattle.jresolution.specs.jprogram.ProgramClasses.{Program, above_name, chain, onward}
use Rattle.jresolution.specs.jprogram.MemberResolution.{method_at, methods_along, overrides, owner_of, reach_of}
use Rattle.jresolution.specs.jprogram.OverrideChains.{is_instance, is_shown, opens, overrides_by}
use Rattle.jresolution.proofs.JprogramProofs.Chains.{chain_at, chain_end}
use Rattle.jresolution.proofs.JprogramProofs.MethodOverrides.{overrides_shortly}
use Rattle.jlinking.specs.jmembers.MemberDeclarations.{is_sealed, overrides_final}
use Rattle.jlinking.specs.jmembers.FinalOverrides.{Looks, barred_by, bars, has, shows}

or_nothing : (b : Bool) → (b || false) ≡ b
or_nothing true = refl
or_nothing false = refl

-- ---- by packages

shown_by : (p : Program) (between : List Member) (r : Member) → list_any (opens p r) between ≡ list_any (λ b. shows p b (package_of (owner_of p r))) between
unfolding opens
shown_by p between r = refl

final_is : (p : Program) (m : Member) (between rest : List Member) (shown : List ℕ → Bool) → ((q : List ℕ) → list_any (λ b. shows p b q) between ≡ shown q) → overrides_final p m between rest ≡ barred_by p m shown rest
unfolding overrides_final barred_by
final_is p m between [] shown h = refl
final_is p m between (r ∷ rest) shown h =
    let here : overrides p m between r ≡ overrides_by p m (shown (package_of (owner_of p r))) r =
    overrides_shortly p m between r ∙ ap (λ (b : Bool). overrides_by p m b r) (shown_by p between r ∙ h (package_of (owner_of p r))) in
    let more : (q : List ℕ) → list_any (λ b. shows p b q) (between ++ r ∷ []) ≡ (shown q || shows p r q) =
    λ q. list_any-append (λ b. shows p b q) between (r ∷ []) ∙ ap (λ (b : Bool). b || (shows p r q || false)) (h q) ∙ ap (λ (b : Bool). shown q || b) (or_nothing (shows p r q)) in
    ap (λ (b : Bool). (is_sealed p r && b) || overrides_final p m (between ++ r ∷ []) rest) here
    ∙ ap (λ (b : Bool). bars p m shown r || b) (final_is p m (between ++ r ∷ []) rest (λ q. shown q || shows p r q) more)

barred_same : (p : Program) (m : Member) (f g : List ℕ → Bool) (rest : List Member) → ((q : List ℕ) → f q ≡ g q) → barred_by p m f rest ≡ barred_by p m g rest
unfolding barred_by
barred_same p m f g [] h = refl
barred_same p m f g (r ∷ rest) h =
    ap (λ (b : Bool). (is_sealed p r && overrides_by p m b r) || barred_by p m (λ q. f q || shows p r q) rest) (h (package_of (owner_of p r)))
    ∙ ap (λ (b : Bool). bars p m g r || b) (barred_same p m (λ q. f q || shows p r q) (λ q. g q || shows p r q) rest (λ q. ap (λ (b : Bool). b || shows p r q) (h q)))

-- ---- what is shown

pub shows_not_instance : (p : Program) (b : Member) (shown : BTreeMap (Vec ℕ) ℕ) → false ≡ is_instance p b → (q : List ℕ) → has shown q ≡ (has shown q || shows p b q)
shows_not_instance p b shown is q = rw (sym is) (sym (or_nothing (has shown q)))

pub shows_not_shown : (p : Program) (b : Member) (shown : BTreeMap (Vec ℕ) ℕ) → true ≡ is_instance p b → false ≡ is_shown (reach_of p b) → (q : List ℕ) → has shown q ≡ (has shown q || shows p b q)
shows_not_shown p b shown one is q = rw (sym one, sym is) (sym (or_nothing (has shown q)))

has_noted : (old : Option ℕ) (i : ℕ) (same : Bool) → is_some (option_or old (if same then Some i else None)) ≡ (is_some old || same)
has_noted None i true = refl
has_noted None i false = refl
has_noted (Some n) i same = refl

pub shows_noted : (p : Program) (b : Member) (own : List ℕ) (i : ℕ) (old new : BTreeMap (Vec ℕ) ℕ) → true ≡ is_instance p b → true ≡ is_shown (reach_of p b) → own ≡ package_of (owner_of p b) → Notes own i old new
    → (q : List ℕ) → has new q ≡ (has old q || shows p b q)
shows_noted p b own i old new one wide is notes q =
    ap is_some (notes q) ∙ has_noted (place_at old q) i (bytes_eq own q) ∙ rw (sym one, sym wide, is) refl

-- ---- the walk

look_on : (p : Program) (m : Member) (o : Option Member) (rest : List Member) (old new : BTreeMap (Vec ℕ) ℕ) → Looks p m o old new false → barred_by p m (has old) (cons_option o rest) ≡ barred_by p m (has new) rest
unfolding barred_by
look_on p m None rest old new looks = barred_same p m (has old) (has new) rest (λ q. sym (looks.1 q))
look_on p m (Some r) rest old new looks =
    ap (λ (b : Bool). b || barred_by p m (λ q. has old q || shows p r q) rest) (sym looks.0) ∙ barred_same p m (λ q. has old q || shows p r q) (has new) rest (λ q. sym (looks.1 refl q))

look_found : (p : Program) (m : Member) (o : Option Member) (rest : List Member) (old new : BTreeMap (Vec ℕ) ℕ) → Looks p m o old new true → barred_by p m (has old) (cons_option o rest) ≡ true
unfolding barred_by
look_found p m None rest old new looks = absurd cc
look_found p m (Some r) rest old new looks = ap (λ (b : Bool). b || barred_by p m (λ q. has old q || shows p r q) rest) (sym looks.0)

-- the walk's place: the methods of a class and of those above
along : (p : Program) (name desc : List ℕ) (n i : ℕ) (c : List ℕ) → i < n
    → methods_along p name desc (chain p (n - i) c) ≡ cons_option (method_at p name desc c) (methods_along p name desc (onward (chain p (n - (i + 1))) (above_name p c)))
along p name desc n i c lt = ap (λ (cs : List (List ℕ)). methods_along p name desc cs) (chain_at p n i c lt)

pub walk_begin : (p : Program) (m : Member) (methods : List Member) (shown : BTreeMap (Vec ℕ) ℕ) → tree.IsEmpty shown → barred_by p m (has shown) methods ≡ overrides_final p m [] methods
walk_begin p m methods shown empty =
    sym (final_is p m [] methods (has shown) (λ q. sym (ap (λ (rows : List (Vec ℕ × ℕ)). is_some (lookup (tree.is_at (λ k. slice_cmp nat_cmp q k.items)) rows)) empty)))

pub walk_found : (p : Program) (m : Member) (name desc : List ℕ) (n i : ℕ) (c : List ℕ) (old new : BTreeMap (Vec ℕ) ℕ) → i < n → Looks p m (method_at p name desc c) old new true → true ≡ barred_by p m (has old) (methods_along p name desc (chain p (n - i) c))
walk_found p m name desc n i c old new lt looks =
    sym (ap (barred_by p m (has old)) (along p name desc n i c lt) ∙ look_found p m (method_at p name desc c) (methods_along p name desc (onward (chain p (n - (i + 1))) (above_name p c))) old new looks)

pub walk_on : (p : Program) (m : Member) (name desc : List ℕ) (n i : ℕ) (c : List ℕ) (old new : BTreeMap (Vec ℕ) ℕ) → i < n → Looks p m (method_at p name desc c) old new false
    → barred_by p m (has old) (methods_along p name desc (chain p (n - i) c)) ≡ barred_by p m (has new) (methods_along p name desc (onward (chain p (n - (i + 1))) (above_name p c)))
walk_on p m name desc n i c old new lt looks =
    ap (barred_by p m (has old)) (along p name desc n i c lt) ∙ look_on p m (method_at p name desc c) (methods_along p name desc (onward (chain p (n - (i + 1))) (above_name p c))) old new looks

pub walk_end : (p : Program) (m : Member) (name desc : List ℕ) (n i : ℕ) (c : List ℕ) (shown : BTreeMap (Vec ℕ) ℕ) → n ≤ i → barred_by p m (has shown) (methods_along p name desc (chain p (n - i) c)) ≡ false
unfolding barred_by
walk_end p m name desc n i c shown le = ap (λ (cs : List (List ℕ)). barred_by p m (has shown) (methods_along p name desc cs)) (chain_end p n i c le)

pub walk_top : (p : Program) (m : Member) (name desc : List ℕ) (shown : BTreeMap (Vec ℕ) ℕ) (f : List ℕ → List (List ℕ)) → barred_by p m (has shown) (methods_along p name desc (onward f None)) ≡ false
unfolding barred_by
walk_top p m name desc shown f = refl
