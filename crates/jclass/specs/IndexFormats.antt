-- Numbers of a class file, indices with a test, and the pool's faults under the class file's names.
use Rattle.std.specs.Prelude.{ℕ, Bool, ◌&&◌, not, ◌⊎◌, List, Result, Ok, Err, if◌then◌else◌}
use Rattle.std.proofs.Common.{inl, inr}
use Rattle.std.specs.Int.{w16, w32}
use Rattle.jground.specs.jbase.MemoryFailures.{◌>>=◌}
use Rattle.jground.specs.declared.jformat.error.Fault.{Fault}
use Rattle.jground.specs.jformat.Format.{Answer, Format, number, via, such, unless}
use Rattle.jground.specs.jformat.BodyFormats.{sized}
use Rattle.jparts.specs.declared.jpool.fault.PoolFault.{PoolFault}
use Rattle.jparts.specs.declared.jpool.fault.PoolFault.TheVariants as pool
use Rattle.jclass.specs.declared.fault.ClassFault.{ClassFault}
use Rattle.jclass.specs.declared.fault.ClassFault.TheVariants.{Truncated, Tag, Index, Name, Descriptor}
use Rattle.jclass.specs.declared.access.Access.{Access}

-- ---- numbers

abbrev pub u2 : Format ClassFault ℕ
u2 = number w16 Truncated

abbrev pub u4 : Format ClassFault ℕ
u4 = number w32 Truncated

-- the bytes of an attribute, behind their number
abbrev pub run : Format ClassFault (List ℕ)
run = sized u4 Truncated

abbrev pub access : Format ClassFault Access
access = via (λ n. record { 0 = n }) (λ a. a.0) u2

-- ---- tests

-- an index whose entry passes a test
abbrev pub index : (ℕ → Bool) → Format ClassFault ℕ
index test = such (λ i. unless (test i) Index) u2

-- the one format where the test holds, else the other; a value is spelled by its own form
abbrev pub by_test : {A B : Type 0} → Bool → Format ClassFault A → Format ClassFault B → Format ClassFault (A ⊎ B)
by_test test f g = record {
  spell = elim [ inl a ↦ f.spell a | inr b ↦ g.spell b ];
  fits = elim [ inl a ↦ test && f.fits a | inr b ↦ not test && g.fits b ];
  read = λ bytes. if test then (f.read bytes >>= λ x. Ok (inl x.0, x.1)) else (g.read bytes >>= λ x. Ok (inr x.0, x.1));
}

-- ---- other names of faults

abbrev pub told : {K L A : Type 0} → (K → L) → Result A (Fault K) → Result A (Fault L)
told name x = elim x [ Ok a ↦ Ok a | Err d ↦ Err (record { left = d.left; kind = name d.kind }) ]

-- the same format, with other names of its faults
abbrev pub told_as : {K L A : Type 0} → (K → L) → Format K A → Format L A
told_as name f = record { spell = f.spell; fits = f.fits; read = λ bytes. told name (f.read bytes) }

abbrev pub pool_fault : PoolFault → ClassFault
pool_fault = elim [ pool.Truncated ↦ Truncated | pool.BadTag ↦ Tag | pool.BadIndex ↦ Index | pool.BadName ↦ Name | pool.BadDescriptor ↦ Descriptor ]

-- what is behind a value that isn't looked at
abbrev pub unseen : {K A : Type 0} → Answer K A → Answer K (Unit {0})
unseen (Ok x) = Ok (tt, x.1)
unseen (Err d) = Err d
