-- The instruction at which a frame stands.
use Rattle.std.proofs.Common.{◌≡◌, ◌⊎◌, ◌<◌, ◌+◌, ◌^◌, ℕ, List, None, refl, sym, subst, inl}
use Rattle.jresolution.specs.declared.jprogram.member.MethodId.{MethodId}
use Rattle.jresolution.specs.jprogram.ProgramClasses.{Program}
use Rattle.jresolution.specs.declared.juses.types.TypeRef.{TypeRef}
use Rattle.jsemantics.specs.jmachine.MachineStates.{FrameOf}
use Rattle.jsemantics.specs.jmachine.MachineSteps.{fetched}
use Rattle.jready.specs.declared.instr.Instr.{Instr}
use Rattle.jready.specs.declared.instr.Instr.TheVariants as instr
use Rattle.jready.specs.declared.tables.Tables.{Tables}
use Rattle.jready.specs.InlineOperands.{Exact}
use Rattle.jready.specs.CodeLayout.{Within}
use Rattle.jready.specs.DecodedInstructions.{meant}
use Rattle.jstepping.specs.declared.jstep.run_tables.RunTables.{RunTables}
use Rattle.jstepping.specs.jstep.StepRelation.{IsFixed}
use Rattle.jcalling.specs.jexecute.FrameSteps.{Fetches}

module _ {E : Type 0} (p : Program) (x : RunTables E) (f : FrameOf ℕ E) (fixed : IsFixed p x) where
  -- none, where the method has no code
  pub fetches_off : ((place : ℕ) → fetched x.ready.now.program f.method place ≡ None) → Fetches p x f instr.Off
  unfolding meant
  fetches_off none =
      let N : Program → Type 0 = λ q. fetched q f.method f.place ≡ None in
      record { means = sym (subst N fixed.ready (none f.place)); within = tt; exact = tt; next = inl refl }

  abbrev types : List TypeRef
  types = x.ready.now.uses.types

  -- that of the row of its method
  pub fetches_some : (one : Instr) (m : MethodId) (place : ℕ) → m ≡ f.method → place ≡ f.place
      → meant x.ready.now.program x.ready.now.methods.tables m.class one ≡ fetched x.ready.now.program m place
      → Within x.ready.now.methods.tables one → Exact x.ready.now.program types x.ready.now.methods.tables m.class one
      → (one ≡ instr.Off) ⊎ (place + 1 < 2 ^ 32) → Fetches p x f one
  fetches_some one m place same there means within exact next =
      let Q : Program → Type 0 = λ q. meant q x.ready.now.methods.tables f.method.class one ≡ fetched q f.method f.place in
      let T : Tables → Type 0 = λ t. meant p t f.method.class one ≡ fetched p f.method f.place in
      let M : MethodId → Type 0 = λ n. meant x.ready.now.program x.ready.now.methods.tables n.class one ≡ fetched x.ready.now.program n place in
      let L : ℕ → Type 0 = λ i. meant x.ready.now.program x.ready.now.methods.tables f.method.class one ≡ fetched x.ready.now.program f.method i in
      let B : ℕ → Type 0 = λ i. (one ≡ instr.Off) ⊎ (i + 1 < 2 ^ 32) in
      let W : Tables → Type 0 = λ t. Within t one in
      let N : MethodId → Type 0 = λ n. Exact x.ready.now.program types x.ready.now.methods.tables n.class one in
      let R : Program → Type 0 = λ q. Exact q types x.ready.now.methods.tables f.method.class one in
      let S : Tables → Type 0 = λ t. Exact p types t f.method.class one in
      record {
        means = subst T (sym fixed.tables) (subst Q fixed.ready (subst L there (subst M same means)));
        within = subst W (sym fixed.tables) within;
        exact = subst S (sym fixed.tables) (subst R fixed.ready (subst N same exact));
        next = subst B there next;
      }
