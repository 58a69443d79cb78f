-- Frames that are read once and written as jmaps writes them; what instructions that were read are.
use Rattle.std.proofs.Common.{◌≡◌, ℕ, List, ◌++◌, length, Result, Ok, Err, refl, sym, ap, subst, ◌∙◌}
use Rattle.std.specs.Prelude.{IsTrue}
use Rattle.std.specs.List.{list_all}
use Rattle.std.proofs.lemmas.List.{take_at}
use Rattle.jground.specs.declared.jformat.error.Fault.{Fault}
use Rattle.jground.specs.jbase.MemoryFailures.{◌>>=◌}
use Rattle.jground.specs.jformat.Format.{IsBytes, run_at, is_good}
use Rattle.jground.specs.jformat.BodyFormats.{Body, outward, inner_at}
use Rattle.jground.proofs.JformatProofs.ReadingSteps.{IsBytes-take, bind_ok, ok_is, first_true}
use Rattle.jground.proofs.JformatProofs.Blocks.{IsBody, run_is}
use Rattle.jparts.specs.declared.jmaps.types.MapType.{MapType}
use Rattle.jparts.specs.declared.jmaps.types.RawFrame.{RawFrame}
use Rattle.jparts.specs.jmaps.StackMapFormat
use Rattle.jparts.specs.jmaps.StackMapFormat.{frames, map_kinds, map_type, own_type}
use Rattle.jparts.proofs.JmapsProofs.MapLaws.{frames_spelling, frames_fitting}
use Rattle.jparts.specs.declared.jpool.entry.Entry.{Entry}
use Rattle.jparts.specs.declared.jcode.op.Placed.{Placed}
use Rattle.jparts.specs.jcode.Instructions
use Rattle.jclass.specs.PoolOperands.{names_well}
use Rattle.jclass.specs.declared.fault.ClassFault.{ClassFault}
use Rattle.jclass.specs.declared.fault.ClassFault.TheVariants.{Truncated}
use Rattle.jclass.specs.CodeFormat.{frame_kinds, plain_type, type_fault, named_type, maps, ops, code_length}
use Rattle.jclass.specs.CodeLaws.{plain_law, named_law, named_spelling, named_fitting, code_length_law, ops_law}

-- ---- frames

-- the frames are read once where all classes are there
pub maps_good : (pool : List Entry) (bytes : List ℕ) (fs : List RawFrame) → IsBytes bytes
    → (frames frame_kinds (named_type pool)).read bytes ≡ Ok fs → (maps pool).read bytes ≡ Ok fs
unfolding maps
maps_good pool bytes fs fits e =
    let s = (named_law pool).takes bytes fs fits e in
    let back : (frames frame_kinds plain_type).read ((frames frame_kinds plain_type).spell fs) ≡ Ok fs = plain_law.again fs (named_fitting pool fs s.0) in
    let plain : (frames frame_kinds plain_type).read bytes ≡ Ok fs = ap (frames frame_kinds plain_type).read (s.1 ∙ named_spelling pool fs) ∙ back in
    rw plain e

-- as jmaps writes them
named_as_own : (pool : List Entry) → (named_type pool).spell ≡ own_type.spell
unfolding map_type
named_as_own pool = refl

named_fits_own : (pool : List Entry) (t : MapType) → IsTrue ((named_type pool).fits t) → IsTrue (own_type.fits t)
unfolding map_type
named_fits_own pool t f = first_true (plain_type.fits t) (is_good (type_fault pool t)) f

pub maps_spelling : (pool : List Entry) (fs : List RawFrame) → (maps pool).spell fs ≡ StackMapFormat.maps.spell fs
unfolding maps StackMapFormat.maps
maps_spelling pool fs = frames_spelling frame_kinds map_kinds (named_type pool) own_type (named_as_own pool) fs

pub maps_fitting : (pool : List Entry) (fs : List RawFrame) → IsTrue ((maps pool).fits fs) → IsTrue (StackMapFormat.maps.fits fs)
unfolding maps StackMapFormat.maps
maps_fitting pool fs fit = frames_fitting frame_kinds map_kinds (named_type pool) own_type (named_fits_own pool) fs fit

-- ---- code

-- what instructions that were read are
front_bytes : (front rest : List ℕ) → IsBytes (front ++ rest) → IsBytes front
front_bytes front rest fits = subst IsBytes (take_at front rest (length front) refl) (IsBytes-take (length front) (front ++ rest) fits)

outward_ok : {K A : Type 0} (behind : ℕ) (r : Result A (Fault K)) (a : A) → outward behind r ≡ Ok a → r ≡ Ok a
outward_ok behind (Ok x) a e = e
outward_ok behind (Err d) a e = absurd cc

inner_is : {A : Type 0} (f : Body ClassFault A) → IsBody f → (n : ℕ) (bytes : List ℕ) (x : A × List ℕ) → IsBytes bytes
    → inner_at Truncated f.read n bytes ≡ Ok x → (IsTrue (f.fits x.0)) × (n ≡ length (f.spell x.0))
inner_is {A} f F n bytes x fits e =
    let b = bind_ok (run_at Truncated n bytes) (λ r. outward (length r.1) (f.read r.0) >>= λ y. Ok (y, r.1)) x e in
    let r = run_is Truncated n bytes b.0 b.1 in
    let c = bind_ok (outward (length b.0.1) (f.read b.0.0)) (λ y. Ok (y, b.0.1)) x b.2 in
    let text : IsBytes b.0.0 = front_bytes b.0.0 b.0.1 (subst IsBytes r.parts fits) in
    let t = F.takes b.0.0 c.0 text (outward_ok (length b.0.1) (f.read b.0.0) c.0 c.1) in
    let made : A × List ℕ = (c.0, b.0.1) in
    let same : made ≡ x = ok_is (Fault ClassFault) made x c.2 in
    subst (λ (y : A × List ℕ). IsTrue (f.fits y.0) × (n ≡ length (f.spell y.0))) same (t.0, sym r.len ∙ ap length t.1)

pub length_bytes : (bytes : List ℕ) (x : ℕ × List ℕ) → IsBytes bytes → code_length.read bytes ≡ Ok x → IsBytes x.1
length_bytes bytes x fits e = (code_length_law.takes bytes x fits e).rest_fits

pub ops_are : (pool : List Entry) (n : ℕ) (bytes : List ℕ) (x : List Placed × List ℕ) → IsBytes bytes
    → inner_at Truncated (ops pool).read n bytes ≡ Ok x → (IsTrue (Instructions.code.fits x.0)) × (n ≡ length (Instructions.code.spell x.0))
unfolding ops
ops_are pool n bytes x fits e =
    let i = inner_is (ops pool) (ops_law pool) n bytes x fits e in
    (first_true (Instructions.code.fits x.0) (list_all (λ p. names_well pool p.op) x.0) i.0, i.1)
