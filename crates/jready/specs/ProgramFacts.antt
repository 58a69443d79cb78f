-- What is known of a program before its instructions are looked at.
use Rattle.std.specs.Prelude.{◌≡◌, ◌≤◌, ℕ, length}
use Rattle.jparts.specs.declared.jcode.op_form.PoolForm.{PoolForm}
use Rattle.jparts.specs.declared.jcode.op_form.PoolForm.TheVariants as forms
use Rattle.jresolution.specs.juses.EntryUses.{AreUses}
use Rattle.jresolution.specs.jlayout.LayoutTables.{AreLayouts}
use Rattle.jready.specs.declared.program_info.ProgramInfo.{ProgramInfo}
use Rattle.jready.specs.MethodNumbers.{AreFirsts}

pub record IsKnown (k : ProgramInfo) : Type 0 where
  pub few : length k.p.now.parts ≤ 0xffff
  pub uses : AreUses k.p.now k.uses.now
  pub layouts : AreLayouts k.p.now k.layouts.now
  pub methods : AreFirsts k.p.now k.methods.now

-- A form calls the method of the entry at an index.
abbrev pub IsCall : PoolForm → ℕ → Type 0
IsCall (forms.Call op i) pool = i ≡ pool
IsCall (forms.CallInterface i slots) pool = i ≡ pool
IsCall f pool = ⊥
