-- Objects have as many cells as their classes want, and keep them.
use Rattle.std.proofs.Common.{◌≡◌, ◌∙◌, ℕ, zero, suc, ◌<◌, List, [], ◌∷◌, length, Option, Some, None, inl, inr, refl, sym, ap, subst}
use Rattle.std.specs.Prelude.{◌⊎◌, option_map, slice_get, unwrap_or}
use Rattle.std.proofs.lemmas.List.{length-replicate, length-set}
use Rattle.jmemory.specs.declared.jheap.cell.Kind.{Kind}
use Rattle.jmemory.specs.jheap.Heaps as heaps
use Rattle.jmemory.specs.jheap.Heaps.{changed, fresh}
use Rattle.jruntime.specs.declared.jstate.shapes.Shapes.{Shapes}
use Rattle.jruntime.specs.jstate.ObjectCells.{BehindStaysCelled, HasWanted, MadeStaysCelled, MoreStayCelled, NoneAreCelled, Suits, WantsAsClass, WrittenStaysCelled, class_cells, kind_cells}
use Rattle.jruntime.specs.jstate.HeapMeaningLaws.{with_number}
use Rattle.jruntime.proofs.JstateProofs.BuilderPieces.{is_appended}
use Rattle.jruntime.proofs.JstateProofs.ClassNumbers.{gives_back}

pub none_celled : NoneAreCelled
none_celled shapes = record { each = λ i x there n wants. cc }

-- ---- one more

pub more_stay : MoreStayCelled
more_stay shapes objects x suits all = record { each = λ i y there. by i y (is_appended objects x y i there) }
  where
    by : (i : ℕ) (y : heaps.Object) → (slice_get objects i ≡ Some y) ⊎ ((i ≡ length objects) × (x ≡ y)) → Suits shapes y.kind (length y.cells)
    by i y (inl old) = all.each i y old
    by i y (inr (at, new)) = subst (λ (z : heaps.Object). Suits shapes z.kind (length z.cells)) new suits

pub made_celled : MadeStaysCelled
made_celled shapes h kind len suits all =
    more_stay shapes h.objects (fresh kind len) (λ n wants. length-replicate len 0 ∙ suits n wants) all

-- ---- another number in an object

-- what holds of each object, and of what one is changed to
each_changed : (P : heaps.Object → Type 0) (f : heaps.Object → heaps.Object) → ((x : heaps.Object) → P x → P (f x)) → (xs : List heaps.Object) (o k : ℕ) (y : heaps.Object)
    → ((z : heaps.Object) → slice_get xs k ≡ Some z → P z) → slice_get (changed f o xs) k ≡ Some y → P y
each_changed P f keeps [] o k y all there = cc
each_changed P f keeps (z ∷ xs) zero zero y all there = let e : f z ≡ y = cc in subst P e (keeps z (all z refl))
each_changed P f keeps (z ∷ xs) zero (suc k) y all there = all y there
each_changed P f keeps (z ∷ xs) (suc o) zero y all there = all y there
each_changed P f keeps (z ∷ xs) (suc o) (suc k) y all there = each_changed P f keeps xs o k y all there

abbrev Celled : Shapes → heaps.Object → Type 0
Celled shapes x = Suits shapes x.kind (length x.cells)

pub written_celled : WrittenStaysCelled
written_celled h zero i n shapes all = all
written_celled h (suc o) i n shapes all =
    record { each = λ k y there. each_changed (Celled shapes) (with_number i n) (λ x old m wants. length-set x.cells i n ∙ old m wants) h.objects o k y (all.each k) there }

pub behind_celled : BehindStaysCelled
behind_celled h zero before shapes all = all
behind_celled h (suc o) before shapes all =
    record { each = λ k y there. each_changed (Celled shapes) (λ x. record x { before = before }) (λ x old. old) h.objects o k y (all.each k) there }

-- ---- what is wanted

pub wants_as_class : WantsAsClass
wants_as_class shapes c = ap (class_cells shapes) (gives_back c)

wanted_at : (shapes : Shapes) (x : Option heaps.Object) (i n : ℕ) (kind : Kind) → ((y : heaps.Object) → x ≡ Some y → Suits shapes y.kind (length y.cells))
    → option_map (λ (y : heaps.Object). y.kind) x ≡ Some kind → kind_cells shapes kind ≡ Some n → i < n
    → i < length (unwrap_or (option_map (λ (y : heaps.Object). y.cells) x) [])
wanted_at shapes None i n kind suits at wants less = cc
wanted_at shapes (Some y) i n kind suits at wants less =
    let same : y.kind ≡ kind = cc in
    let many = suits y refl n (ap (kind_cells shapes) same ∙ wants) in
    subst (λ (m : ℕ). i < m) (sym many) less

pub has_wanted : HasWanted
has_wanted shapes h zero i n kind all at wants less = cc
has_wanted shapes h (suc o) i n kind all at wants less = wanted_at shapes (slice_get h.objects o) i n kind (all.each o) at wants less
