-- The rule and frames of more precise types.
use Rattle.std.proofs.Common.{◌≡◌, ℕ, Bool, true, false, List, [], ◌∷◌, Option, Some, None, map, refl, ap, ◌∙◌}
use Rattle.std.specs.Prelude.{◌&&◌, if◌then◌else◌}
use Rattle.std.specs.Option.{option_to_list}
use Rattle.jparts.specs.declared.jpool.entry.Entry.{Entry}
use Rattle.jvalues.specs.declared.jnames.kinds.Kind.TheVariants as kinds
use Rattle.jparts.specs.declared.jcode.names.Access.TheVariants.{Load, Store}
use Rattle.jparts.specs.declared.jcode.names.Returned.{Returned}
use Rattle.jparts.specs.declared.jcode.names.Returned.TheVariants as results
use Rattle.jparts.specs.declared.jcode.op_form.OpForm.{OpForm}
use Rattle.jparts.specs.declared.jcode.op_form.OpForm.TheVariants as forms
use Rattle.jparts.specs.declared.jcode.op_form.ArrayForm.{ArrayForm}
use Rattle.jparts.specs.declared.jcode.op_form.ArrayForm.TheVariants as arrays
use Rattle.jparts.specs.declared.jcode.op_form.Flow.{Flow}
use Rattle.jparts.specs.declared.jcode.op_form.Flow.TheVariants as flows
use Rattle.jparts.specs.declared.jcode.op_form.LocalForm.{LocalForm}
use Rattle.jparts.specs.declared.jcode.op_form.LocalForm.TheVariants.{Move, Increment}
use Rattle.jparts.specs.jcode.InstructionForms as codes_of
use Rattle.jparts.specs.jcode.InstructionForms.{array_effect, compared, simple_effect}
use Rattle.jtypes.specs.declared.vtype.VType.{VType}
use Rattle.jtypes.specs.Assignability.{fits}
use Rattle.jtypes.specs.TypeFrames.{Frame, all_fit, frame_fits, implies, is_long, stack_fits}
use Rattle.jtypes.specs.ProofNames.{item_fits}
use Rattle.jtypes.specs.ClassTrees.{Tree}
use Rattle.jresolution.specs.jprogram.ProgramClasses.{Program, tree}
use Rattle.jresolution.specs.declared.juses.meaning.InvokeKind.TheVariants as how
use Rattle.jresolution.specs.juses.InstructionMeanings as meanings
use Rattle.jresolution.specs.juses.InstructionMeanings.{Meaning, array_meant, meant}
use Rattle.jtyping.specs.jrule.ArrayRule as array
use Rattle.jtyping.specs.jrule.ArrayRule.{operands}
use Rattle.jtyping.specs.jrule.StackEffects.{Fits, Of, by_effect, gives, of_kinds}
use Rattle.jtyping.specs.jrule.FormRules.{by_form, by_meaning}
use Rattle.jtyping.specs.jrule.InstructionContext.{Here}
use Rattle.jtyping.specs.jrule.LocalRule.{local}
use Rattle.jtyping.specs.jrule.StackOperands.{taken}
use Rattle.jtyping.specs.jrule.PreciseFrames.{frame_precise, item_precise, locals_precise}
use Rattle.jtyping.specs.jrule.TypingRule.{by_table, is_own}
use Rattle.jtyping.specs.jrule.BasicRule as straight
use Rattle.jtyping.specs.jrule.PoolEffects.{exchange, throwable}
use Rattle.jtyping.proofs.JruleProofs.Conjunctions.{and_true, both, implies_itself, implies_part, implies_through}
use Rattle.jtyping.proofs.JruleProofs.PreciseTypes.{InOrder, fit_through, item_itself, same_long, sharp_itself, sharp_of}
use Rattle.jtyping.proofs.JruleProofs.FramePrecision.{Found, IsSharp, Keeps, LocalsSharp, StackSharp, exchanged_kept, move_kept, taken_kept}
use Rattle.jtyping.proofs.JruleProofs.SharpLocals.{head_sharp, increment_kept, load_kept, locals_of, more_left, more_right, none_sharp, store_kept, tail_sharp}
use Rattle.jtyping.proofs.JruleProofs.SharpObjects.{array_load_kept, init_kept, make_kept}

module _ (t : Tree) (o : InOrder t) where
  -- ---- each group

  local_kept : (most : ℕ) (form : LocalForm) → Keeps t (local most form)
  local_kept most (Move Load kind n) = load_kept t most (codes_of.local kind) n
  local_kept most (Move Store kind n) = store_kept t (codes_of.local kind) n
  local_kept most (Increment n by) = increment_kept t n

  may_leave_kept : (is_init : Bool) (kind : Returned) (x y : Bool) → implies x y ≡ true → straight.may_leave is_init kind y ≡ true → straight.may_leave is_init kind x ≡ true
  may_leave_kept is_init results.Int x y i h = refl
  may_leave_kept is_init results.Long x y i h = refl
  may_leave_kept is_init results.Ref x y i h = refl
  may_leave_kept false results.Nothing x y i h = refl
  may_leave_kept true results.Nothing false y i h = refl
  may_leave_kept true results.Nothing true true i h = h
  may_leave_kept true results.Nothing true false i h = absurd (cc)

  leave_kept : (is_init : Bool) (ret : Option VType) (kind : Returned) → Keeps t (straight.leave t is_init ret kind)
  leave_kept is_init ret kind a b c sharp e = go (straight.returns kind ret && straight.may_leave is_init kind b.flag) refl e
    where
      go : (w : Bool) → (straight.returns kind ret && straight.may_leave is_init kind b.flag) ≡ w → (if w then taken t (map Fits (option_to_list ret)) b else None) ≡ Some c →
          Found t (straight.leave t is_init ret kind) a c
      go false w h = absurd (cc)
      go true w h =
          let parts = both (straight.returns kind ret) (straight.may_leave is_init kind b.flag) w in
          let rest = taken_kept t o (map Fits (option_to_list ret)) a b c sharp h in
          record {
            frame = rest.frame;
            is = ap (λ w. if w then taken t (map Fits (option_to_list ret)) a else None)
                (and_true (straight.returns kind ret) (straight.may_leave is_init kind a.flag) parts.0 (may_leave_kept is_init kind a.flag b.flag sharp.flag parts.1))
                ∙ rest.is;
            sharp = rest.sharp;
          }

  flow_kept : {S : Type 0} (is_init : Bool) (ret : Option VType) (form : Flow S) → Keeps t (straight.flow t is_init ret form)
  flow_kept is_init ret (flows.If test by) = taken_kept t o (Of kinds.Int ∷ [])
  flow_kept is_init ret (flows.IfInt test by) = taken_kept t o (Of kinds.Int ∷ Of kinds.Int ∷ [])
  flow_kept is_init ret (flows.IfRef test by) = taken_kept t o (of_kinds (compared test))
  flow_kept is_init ret (flows.Goto by) = taken_kept t o []
  flow_kept is_init ret (flows.Switch s) = taken_kept t o (Of kinds.Int ∷ [])
  flow_kept is_init ret (flows.Return kind) = leave_kept is_init ret kind
  flow_kept is_init ret flows.Throw = taken_kept t o (Fits throwable ∷ [])

  array_kept : (most : ℕ) (form : ArrayForm) → Keeps t (array.array t most form)
  array_kept most (arrays.New kind) a b c sharp e = exchanged_kept t o most (gives (Of kinds.Int ∷ []) (array.row (array.of_numbers kind))) a b c sharp e
  array_kept most (arrays.NewRef n) a b c sharp e = absurd (cc)
  array_kept most (arrays.Load items) a b c sharp e = array_load_kept t o most items a b c sharp e
  array_kept most (arrays.Store items) a b c sharp e = taken_kept t o (operands items (arrays.Store items)) a b c sharp e
  array_kept most arrays.Length a b c sharp e = exchanged_kept t o most (by_effect (array_effect arrays.Length)) a b c sharp e

  -- ---- as tests

  pub sharp_is : (a b : Frame) → frame_precise t a b ≡ true → IsSharp t a b
  unfolding frame_precise
  sharp_is a b e =
      let first = both (locals_precise t a.locals b.locals && all_fit (item_precise t) a.stack b.stack) (implies a.flag b.flag) e in
      let rest = both (locals_precise t a.locals b.locals) (all_fit (item_precise t) a.stack b.stack) first.0 in
      record { locals = rest.0; stack = rest.1; flag = first.1 }

  pub precise_is : (a b : Frame) → IsSharp t a b → frame_precise t a b ≡ true
  unfolding frame_precise
  precise_is a b s =
      and_true (locals_precise t a.locals b.locals && all_fit (item_precise t) a.stack b.stack) (implies a.flag b.flag)
      (and_true (locals_precise t a.locals b.locals) (all_fit (item_precise t) a.stack b.stack) s.locals s.stack) s.flag

  -- ---- a frame is as precise as itself

  locals_itself : (xs : List VType) → LocalsSharp t xs xs
  locals_itself [] = none_sharp t
  locals_itself (x ∷ xs) = locals_of t x x xs xs (sharp_itself t o x) (implies_part (is_long x) _) (locals_itself xs)

  stack_itself : (xs : List VType) → StackSharp t xs xs
  unfolding all_fit
  stack_itself [] = refl
  stack_itself (x ∷ xs) = and_true (item_precise t x x) (all_fit (item_precise t) xs xs) (item_itself t o x) (stack_itself xs)

  pub sharp_frame : (f : Frame) → IsSharp t f f
  sharp_frame f = record { locals = locals_itself f.locals; stack = stack_itself f.stack; flag = implies_itself f.flag }

  -- ---- what fits fits

  locals_fit : (xs ys zs : List VType) → LocalsSharp t xs ys → all_fit (fits t) ys zs ≡ true → all_fit (fits t) xs zs ≡ true
  unfolding all_fit
  locals_fit [] [] zs s f = f
  locals_fit [] (y ∷ ys) zs s f = absurd (more_right t y ys s)
  locals_fit (x ∷ xs) [] zs s f = absurd (more_left t x xs s)
  locals_fit (x ∷ xs) (y ∷ ys) [] s f = absurd (cc)
  locals_fit (x ∷ xs) (y ∷ ys) (z ∷ zs) s f =
      let parts = both (fits t y z) (all_fit (fits t) ys zs) f in
      and_true (fits t x z) (all_fit (fits t) xs zs) (fit_through t o x y z (head_sharp t x y xs ys s) parts.0) (locals_fit xs ys zs (tail_sharp t x y xs ys s) parts.1)

  item_fit : (x y z : VType) → item_precise t x y ≡ true → item_fits (fits t) y z ≡ true → item_fits (fits t) x z ≡ true
  item_fit x y z s f =
      let parts = both (fits t y z) (implies (is_long y) (is_long z)) f in
      and_true (fits t x z) (implies (is_long x) (is_long z)) (fit_through t o x y z (sharp_of t x y s) parts.0) (ap (λ l. implies l (is_long z)) (same_long t x y s) ∙ parts.1)

  stack_fit : (xs ys zs : List VType) → StackSharp t xs ys → stack_fits (fits t) ys zs ≡ true → stack_fits (fits t) xs zs ≡ true
  unfolding all_fit
  stack_fit [] [] zs s f = f
  stack_fit [] (y ∷ ys) zs s f = absurd (cc)
  stack_fit (x ∷ xs) [] zs s f = absurd (cc)
  stack_fit (x ∷ xs) (y ∷ ys) [] s f = absurd (cc)
  stack_fit (x ∷ xs) (y ∷ ys) (z ∷ zs) s f =
      let left = both (item_precise t x y) (all_fit (item_precise t) xs ys) s in
      let parts = both (item_fits (fits t) y z) (stack_fits (fits t) ys zs) f in
      and_true (item_fits (fits t) x z) (stack_fits (fits t) xs zs) (item_fit x y z left.0 parts.0) (stack_fit xs ys zs left.1 parts.1)

  pub frame_fit : (a b c : Frame) → IsSharp t a b → frame_fits (fits t) b c ≡ true → frame_fits (fits t) a c ≡ true
  frame_fit a b c s f =
      let first = both (all_fit (fits t) b.locals c.locals && stack_fits (fits t) b.stack c.stack) (implies b.flag c.flag) f in
      let rest = both (all_fit (fits t) b.locals c.locals) (stack_fits (fits t) b.stack c.stack) first.0 in
      and_true (all_fit (fits t) a.locals c.locals && stack_fits (fits t) a.stack c.stack) (implies a.flag c.flag)
      (and_true (all_fit (fits t) a.locals c.locals) (stack_fits (fits t) a.stack c.stack) (locals_fit a.locals b.locals c.locals s.locals rest.0)
      (stack_fit a.stack b.stack c.stack s.stack rest.1))
      (implies_through a.flag b.flag c.flag s.flag first.1)

-- ---- by what the pool means

module _ (p : Program) (o : InOrder (tree p)) (here : Here) where
  table_kept : (m : Meaning) → Keeps (tree p) (by_table p here m)
  table_kept m = exchanged_kept (tree p) o here.max_stack (exchange (is_own p here.is_init here.class) here.class m)

  meaning_kept : (m : Option Meaning) → Keeps (tree p) (by_meaning p here m)
  meaning_kept None a b c sharp e = absurd (cc)
  meaning_kept (Some (meanings.Push x)) a b c sharp e = table_kept (meanings.Push x) a b c sharp e
  meaning_kept (Some (meanings.Field op one)) a b c sharp e = table_kept (meanings.Field op one) a b c sharp e
  meaning_kept (Some (meanings.Call how.Virtual m)) a b c sharp e = table_kept (meanings.Call how.Virtual m) a b c sharp e
  meaning_kept (Some (meanings.Call how.Special m)) a b c sharp e = table_kept (meanings.Call how.Special m) a b c sharp e
  meaning_kept (Some (meanings.Call how.Static m)) a b c sharp e = table_kept (meanings.Call how.Static m) a b c sharp e
  meaning_kept (Some (meanings.Call how.Interface m)) a b c sharp e = table_kept (meanings.Call how.Interface m) a b c sharp e
  meaning_kept (Some (meanings.Call how.Init m)) a b c sharp e = init_kept (tree p) o here m a b c sharp e
  meaning_kept (Some (meanings.Make x)) a b c sharp e = make_kept (tree p) o here.max_stack here.at a b c sharp e
  meaning_kept (Some (meanings.MakeArray x)) a b c sharp e = table_kept (meanings.MakeArray x) a b c sharp e
  meaning_kept (Some (meanings.Cast op x)) a b c sharp e = table_kept (meanings.Cast op x) a b c sharp e

  -- ---- all

  pub form_kept : {S : Type 0} (pool : List Entry) (form : OpForm S) → Keeps (tree p) (by_form p here pool form)
  unfolding by_form
  form_kept pool (forms.Simple form) = exchanged_kept (tree p) o here.max_stack (by_effect (simple_effect form))
  form_kept pool (forms.Local form) = local_kept (tree p) o here.max_stack form
  form_kept pool (forms.Stack form) = move_kept (tree p) here.max_stack form
  form_kept pool (forms.Flow form) = flow_kept (tree p) o here.is_init here.returns form
  form_kept pool (forms.Array (arrays.New kind)) = array_kept (tree p) o here.max_stack (arrays.New kind)
  form_kept pool (forms.Array (arrays.NewRef i)) = meaning_kept (array_meant p pool i)
  form_kept pool (forms.Array (arrays.Load items)) = array_kept (tree p) o here.max_stack (arrays.Load items)
  form_kept pool (forms.Array (arrays.Store items)) = array_kept (tree p) o here.max_stack (arrays.Store items)
  form_kept pool (forms.Array arrays.Length) = array_kept (tree p) o here.max_stack arrays.Length
  form_kept pool (forms.Pool form) = meaning_kept (meant p pool form)
