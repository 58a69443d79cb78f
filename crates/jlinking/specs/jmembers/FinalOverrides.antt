-- Overriding of final methods, as a walk upwards computes it: of the methods gone through it keeps the packages in which they are shown.
use Rattle.std.specs.Prelude.{◌≡◌, ℕ, Bool, false, ◌&&◌, ◌||◌, List, [], ◌∷◌, Option, Some, None, is_some}
use Rattle.std.specs.Str.{bytes_eq}
use Rattle.std.specs.BTreeMap.{BTreeMap}
use Rattle.std.specs.Global.{Vec}
use Rattle.jresolution.specs.declared.jprogram.member.Member.{Member}
use Rattle.jresolution.specs.jprogram.NameTable.{place_at}
use Rattle.jresolution.specs.jprogram.ClassFileParts.{package_of}
use Rattle.jresolution.specs.jprogram.ProgramClasses.{Program}
use Rattle.jresolution.specs.jprogram.MemberResolution.{owner_of, reach_of}
use Rattle.jresolution.specs.jprogram.OverrideChains.{is_instance, is_shown, overrides_by}
use Rattle.jlinking.specs.jmembers.MemberDeclarations.{is_sealed}

-- an instance method of a package that is public or protected: it overrides those of its package, and can be overridden from any
abbrev pub shows : Program → Member → List ℕ → Bool
shows p b q = is_instance p b && is_shown (reach_of p b) && bytes_eq (package_of (owner_of p b)) q

-- a method may not stand below this one, where it is known in which packages those between are shown
abbrev pub bars : Program → Member → (List ℕ → Bool) → Member → Bool
bars p m shown r = is_sealed p r && overrides_by p m (shown (package_of (owner_of p r))) r

unfoldable pub barred_by : Program → Member → (List ℕ → Bool) → List Member → Bool
barred_by p m shown [] = false
barred_by p m shown (r ∷ rest) = bars p m shown r || barred_by p m (λ q. shown q || shows p r q) rest

-- a table has a package
abbrev pub has : BTreeMap (Vec ℕ) ℕ → List ℕ → Bool
has shown q = is_some (place_at shown q)

-- what a look at the method of a class, if there is one, finds and leaves
abbrev pub Looks : Program → Member → Option Member → BTreeMap (Vec ℕ) ℕ → BTreeMap (Vec ℕ) ℕ → Bool → Type 0
Looks p m None old new found = (found ≡ false) × ((q : List ℕ) → has new q ≡ has old q)
Looks p m (Some r) old new found = (found ≡ bars p m (has old) r) × (found ≡ false → (q : List ℕ) → has new q ≡ (has old q || shows p r q))
