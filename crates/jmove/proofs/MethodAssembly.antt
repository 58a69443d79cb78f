-- The parts of a moved method, put together.
use Rattle.std.proofs.Common.{◌≡◌, ℕ, ◌+◌, List, [], ◌++◌, map, refl, ap, ◌∙◌, sym}
use mathlib.Core.Path.{fun_ext}
use Rattle.jparts.specs.declared.jcode.op.Op.{Op}
use Rattle.jparts.specs.declared.jcode.op.Placed.{Placed}
use Rattle.jparts.specs.declared.jcode.op.Handler.{Handler}
use Rattle.jparts.specs.declared.jmaps.types.FullFrame.{FullFrame}
use Rattle.jmove.specs.declared.method.Expand.{Expand}
use Rattle.jmove.specs.declared.method.MethodIn.{MethodIn}
use Rattle.jmove.specs.declared.method.MethodOut.{MethodOut}
use Rattle.jmove.specs.declared.method.Setting.{Setting}
use Rattle.jmove.specs.MovedFrames.{moved_frame}
use Rattle.jmove.specs.AssemblyLines.{Do, place_of, placed, reach}
use Rattle.jmove.specs.MethodExpansion.{context_local, expansions, lines, moved_by, moved_handler, prologue, setting}
use Rattle.jmove.specs.PlaceTables.{Table, in_table}
use Rattle.jmove.proofs.LineSequences.{place_skip, placed_append}

pub joined : (f : ℕ → ℕ) (begin : List Op) (s : Setting) (ks : List Expand) (is : List Placed) (at : ℕ) (new mid out : List Placed) → new ≡ [] → mid ≡ new ++ placed f 0 (map (Do 0) begin)
    → out ≡ mid ++ placed f at (expansions s ks is) → at ≡ reach 0 begin → out ≡ placed f 0 (lines begin s ks is)
joined f begin s ks is at new mid out none first then there =
    then ∙ ap (λ (l : List Placed). l ++ placed f at (expansions s ks is)) (first ∙ ap (λ (l : List Placed). l ++ placed f 0 (map (Do 0) begin)) none)
    ∙ ap (λ (p : ℕ). placed f 0 (map (Do 0) begin) ++ placed f p (expansions s ks is)) there
    ∙ sym (placed_append f 0 0 begin (expansions s ks is))

-- where old places lie, by the lines
to_lines : (m : MethodIn) (domain enter : ℕ) (ks : List Expand) (local at : ℕ) (is : List Placed) (table : Table) → local ≡ context_local m → reach 0 (prologue m.slots (record { local = local; domain = domain }) enter) ≡ at → is ≡ m.ops
    → in_table table ≡ (λ old. place_of old at (expansions (record { local = local; domain = domain }) ks is)) → in_table table ≡ (λ old. place_of old 0 (lines (prologue m.slots (setting m domain) enter) (setting m domain) ks m.ops))
to_lines m domain enter ks local at is table l r i t =
    let s : ℕ → Setting = λ n. record { local = n; domain = domain } in
    t ∙ fun_ext (λ old.
    ap (λ (x : List Placed). place_of old at (expansions (s local) ks x)) i
    ∙ ap (λ (p : ℕ). place_of old p (expansions (s local) ks m.ops)) (sym r)
    ∙ ap (λ (n : ℕ). place_of old (reach 0 (prologue m.slots (s n) enter)) (expansions (s n) ks m.ops)) l
    ∙ sym (place_skip old 0 0 (prologue m.slots (setting m domain) enter) (expansions (setting m domain) ks m.ops)))

abbrev made : (m : MethodIn) → (domain context : ℕ) → List Expand → ℕ → List Op → List Placed → (ℕ → ℕ) → MethodOut
made m domain context ks local begin is to = record {
  slots = m.slots + 1;
  max_stack = m.max_stack + 3;
  max_locals = local + 1;
  ops = placed to 0 (lines begin (record { local = local; domain = domain }) ks is);
  handlers = map (moved_handler to) m.handlers;
  frames = map (moved_frame to local context) m.frames;
}

pub whole : (m : MethodIn) (domain enter context : ℕ) (ks : List Expand) (local at : ℕ) (begin : List Op) (is : List Placed) (table : Table) (ops : List Placed) (handlers : List Handler) (frames : List FullFrame)
    → local ≡ context_local m → begin ≡ prologue m.slots (record { local = local; domain = domain }) enter → reach 0 (prologue m.slots (record { local = local; domain = domain }) enter) ≡ at → is ≡ m.ops
    → in_table table ≡ (λ old. place_of old at (expansions (record { local = local; domain = domain }) ks is))
    → ops ≡ placed (in_table table) 0 (lines begin (record { local = local; domain = domain }) ks is) → handlers ≡ map (moved_handler (in_table table)) m.handlers → frames ≡ map (moved_frame (in_table table) local context) m.frames
    → (record { slots = m.slots + 1; max_stack = m.max_stack + 3; max_locals = local + 1; ops = ops; handlers = handlers; frames = frames }) ≡ moved_by m domain enter context ks
unfolding moved_by
whole m domain enter context ks local at begin is table ops handlers frames l b r i t o h f =
    let s : ℕ → Setting = λ n. record { local = n; domain = domain } in
    let parts : (record { slots = m.slots + 1; max_stack = m.max_stack + 3; max_locals = local + 1; ops = ops; handlers = handlers; frames = frames }) ≡ made m domain context ks local begin is (in_table table) = rw (o, h, f) refl in
    parts
    ∙ ap (λ (to : ℕ → ℕ). made m domain context ks local begin is to) (to_lines m domain enter ks local at is table l r i t)
    ∙ ap (λ (x : List Op). made m domain context ks local x is (λ old. place_of old 0 (lines (prologue m.slots (setting m domain) enter) (setting m domain) ks m.ops))) b
    ∙ ap (λ (x : List Placed). made m domain context ks local (prologue m.slots (s local) enter) x (λ old. place_of old 0 (lines (prologue m.slots (setting m domain) enter) (setting m domain) ks m.ops))) i
    ∙ ap (λ (n : ℕ). made m domain context ks n (prologue m.slots (s n) enter) m.ops (λ old. place_of old 0 (lines (prologue m.slots (setting m domain) enter) (setting m domain) ks m.ops))) l
