-- The kinds of operands that instructions which compute take and give, the newest operand first (JVMS 6.5).
use Rattle.std.specs.Prelude.{Bool, true, false, Some, None}
use Rattle.jvalues.specs.declared.jnames.names.OpTwo.{OpTwo}
use Rattle.jvalues.specs.declared.jnames.names.OpTwo.TheVariants as two
use Rattle.jvalues.specs.declared.jnames.names.OpOne.{OpOne}
use Rattle.jvalues.specs.declared.jnames.names.OpOne.TheVariants as one
use Rattle.jvalues.specs.declared.jnames.names.Division.{Division}
use Rattle.jvalues.specs.declared.jnames.names.Division.TheVariants as divisions
use Rattle.jvalues.specs.declared.jnames.names.Compare.{Compare}
use Rattle.jvalues.specs.declared.jnames.names.Compare.TheVariants.{Eq, Ne}
use Rattle.jvalues.specs.declared.jnames.kinds.Kind.{Kind}
use Rattle.jvalues.specs.declared.jnames.kinds.Kind.TheVariants.{Int, Long}
use Rattle.jvalues.specs.declared.jnames.kinds.Kinds.{Kinds}
use Rattle.jvalues.specs.declared.jnames.kinds.Kinds.TheVariants as kinds
use Rattle.jvalues.specs.declared.jnames.kinds.Effect.{Effect}

abbrev pub gives : Kinds → Kind → Effect
gives ks k = record { takes = ks; gives = Some k }

abbrev pub takes : Kinds → Effect
takes ks = record { takes = ks; gives = None }

-- two ints to an int, two longs to a long, and a long and a newer int to a long
abbrev pub ints : Effect
ints = gives (kinds.Two Int Int) Int

abbrev pub longs : Effect
longs = gives (kinds.Two Long Long) Long

abbrev pub long_by_int : Effect
long_by_int = gives (kinds.Two Int Long) Long

abbrev pub two_effect : OpTwo → Effect
two_effect two.Ladd = longs
two_effect two.Lsub = longs
two_effect two.Lmul = longs
two_effect two.Land = longs
two_effect two.Lor = longs
two_effect two.Lxor = longs
two_effect two.Lshl = long_by_int
two_effect two.Lshr = long_by_int
two_effect two.Lushr = long_by_int
two_effect two.Lcmp = gives (kinds.Two Long Long) Int
two_effect _ = ints

abbrev pub one_effect : OpOne → Effect
one_effect one.Lneg = gives (kinds.One Long) Long
one_effect one.I2l = gives (kinds.One Int) Long
one_effect one.L2i = gives (kinds.One Long) Int
one_effect _ = gives (kinds.One Int) Int

abbrev pub division_effect : Division → Effect
division_effect = elim [ divisions.Ldiv ↦ longs | divisions.Lrem ↦ longs | _ ↦ ints ]

-- Two ints are compared by each, two references by these alone.
abbrev pub compares_references : Compare → Bool
compares_references Eq = true
compares_references Ne = true
compares_references _ = false
