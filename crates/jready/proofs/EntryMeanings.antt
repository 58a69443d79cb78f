-- What was found of an entry is all that it means.
use Rattle.std.proofs.Common.{◌≡◌, ℕ, List, Option, Some, None, refl, sym, ap}
use Rattle.std.specs.Prelude.{option_and_then, option_map, slice_get}
use Rattle.jparts.specs.declared.jpool.entry.Entry.{Entry}
use Rattle.jparts.specs.declared.jcode.op_form.PoolForm.TheVariants as forms
use Rattle.jparts.specs.declared.jcode.names.CastOp.{CastOp}
use Rattle.jparts.specs.declared.jcode.names.FieldOp.{FieldOp}
use Rattle.jtypes.specs.declared.vtype.Name.{Name}
use Rattle.jtypes.specs.declared.vtype.VType.{VType}
use Rattle.jtypes.specs.declared.vtype.VType.TheVariants as types
use Rattle.jresolution.specs.jprogram.ProgramClasses.{Program}
use Rattle.jresolution.specs.declared.juses.meaning.InvokeKind.{InvokeKind}
use Rattle.jresolution.specs.juses.IndexedInstructions.{Used}
use Rattle.jresolution.specs.juses.InstructionMeanings.{AClass, AConstant, AField, AMethod, Call, CallMeaning, Cast, EntryMeaning, Field, FieldMeaning, Make, MakeArray, Meaning}
use Rattle.jresolution.specs.juses.InstructionMeanings.{Push}
use Rattle.jresolution.specs.juses.InstructionMeanings.{array_meant, entry_meant, meant}
use Rattle.jresolution.specs.ProofNames.{made, array_made, cast_by, field_used}
use Rattle.jresolution.specs.juses.DescriptorTypes.{array_over}
use Rattle.jready.specs.MeaningParts.{only_array, only_call, only_cast, only_field, only_made}
use Rattle.jready.proofs.TableGrowth.{some_inj}

-- ---- what says it all

pub call_back : (o : Option Meaning) (w : InvokeKind) (c : CallMeaning) → Some (w, c) ≡ only_call o → o ≡ Some (Call w c)
call_back None w c e = absurd cc
call_back (Some (Push x)) w c e = absurd cc
call_back (Some (Field op f)) w c e = absurd cc
call_back (Some (Call v d)) w c e = ap (λ (x : InvokeKind × CallMeaning). Some (Call x.0 x.1)) (sym (some_inj e))
call_back (Some (Make n)) w c e = absurd cc
call_back (Some (MakeArray t)) w c e = absurd cc
call_back (Some (Cast op t)) w c e = absurd cc

pub made_back : (o : Option Meaning) (n : Name) → Some n ≡ only_made o → o ≡ Some (Make n)
made_back None n e = absurd cc
made_back (Some (Push x)) n e = absurd cc
made_back (Some (Field op f)) n e = absurd cc
made_back (Some (Call v d)) n e = absurd cc
made_back (Some (Make m)) n e = ap (λ (x : Name). Some (Make x)) (sym (some_inj e))
made_back (Some (MakeArray t)) n e = absurd cc
made_back (Some (Cast op t)) n e = absurd cc

pub array_back : (o : Option Meaning) (v : VType) → Some v ≡ only_array o → o ≡ Some (MakeArray v)
array_back None v e = absurd cc
array_back (Some (Push x)) v e = absurd cc
array_back (Some (Field op f)) v e = absurd cc
array_back (Some (Call w d)) v e = absurd cc
array_back (Some (Make m)) v e = absurd cc
array_back (Some (MakeArray t)) v e = ap (λ (x : VType). Some (MakeArray x)) (sym (some_inj e))
array_back (Some (Cast op t)) v e = absurd cc

-- ---- what says all but the instruction

field_found : (op : FieldOp) (g : FieldMeaning) (o : Option EntryMeaning) → Some g ≡ only_field (option_and_then (field_used op) o)
    → option_and_then (field_used op) o ≡ Some (Field op g)
field_found op g None e = absurd cc
field_found op g (Some (AConstant c)) e = absurd cc
field_found op g (Some (AClass t)) e = absurd cc
field_found op g (Some (AField f)) e = ap (λ (x : FieldMeaning). Some (Field op x)) (sym (some_inj e))
field_found op g (Some (AMethod b c)) e = absurd cc

pub field_back : (p : Program) (pool : List Entry) (op : FieldOp) (i : ℕ) (g : FieldMeaning) → Some g ≡ only_field (meant p pool (forms.Field op i))
    → meant p pool (forms.Field op i) ≡ Some (Field op g)
unfolding meant
field_back p pool op i g e = field_found op g (entry_meant p pool (slice_get pool i)) e

cast_found : (op : CastOp) (v : VType) (o : Option EntryMeaning) → Some v ≡ only_cast (option_and_then (cast_by op) o)
    → option_and_then (cast_by op) o ≡ Some (Cast op v)
cast_found op v None e = absurd cc
cast_found op v (Some (AConstant c)) e = absurd cc
cast_found op v (Some (AClass t)) e = ap (λ (x : VType). Some (Cast op x)) (sym (some_inj e))
cast_found op v (Some (AField f)) e = absurd cc
cast_found op v (Some (AMethod b c)) e = absurd cc

pub cast_back : (p : Program) (pool : List Entry) (op : CastOp) (i : ℕ) (v : VType) → Some v ≡ only_cast (meant p pool (forms.Cast op i))
    → meant p pool (forms.Cast op i) ≡ Some (Cast op v)
unfolding meant
cast_back p pool op i v e = cast_found op v (entry_meant p pool (slice_get pool i)) e

-- ---- where nothing was found

field_none : (op : FieldOp) (o : Option EntryMeaning) → None ≡ only_field (option_and_then (field_used op) o) → None ≡ option_and_then (field_used op) o
field_none op None e = refl
field_none op (Some (AConstant c)) e = refl
field_none op (Some (AClass t)) e = refl
field_none op (Some (AField f)) e = absurd cc
field_none op (Some (AMethod b c)) e = refl

pub field_nothing : (p : Program) (pool : List Entry) (op : FieldOp) (i : ℕ) → None ≡ only_field (meant p pool (forms.Field op i))
    → None ≡ option_map Used (meant p pool (forms.Field op i))
unfolding meant
field_nothing p pool op i e = ap (option_map Used) (field_none op (entry_meant p pool (slice_get pool i)) e)

made_none : (o : Option EntryMeaning) → None ≡ only_made (option_and_then made o) → None ≡ option_and_then made o
made_none None e = refl
made_none (Some (AConstant c)) e = refl
made_none (Some (AClass types.Top)) e = refl
made_none (Some (AClass types.Int)) e = refl
made_none (Some (AClass types.Long)) e = refl
made_none (Some (AClass types.Null)) e = refl
made_none (Some (AClass types.UninitThis)) e = refl
made_none (Some (AClass (types.Uninit at))) e = refl
made_none (Some (AClass (types.Object c))) e = absurd cc
made_none (Some (AClass (types.Array a))) e = refl
made_none (Some (AClass types.Ctx)) e = refl
made_none (Some (AField f)) e = refl
made_none (Some (AMethod b c)) e = refl

pub made_nothing : (p : Program) (pool : List Entry) (i : ℕ) → None ≡ only_made (meant p pool (forms.New i))
    → None ≡ option_map Used (meant p pool (forms.New i))
unfolding meant
made_nothing p pool i e = ap (option_map Used) (made_none (entry_meant p pool (slice_get pool i)) e)

over_none : (o : Option VType) → None ≡ only_array (option_map MakeArray o) → None ≡ option_map MakeArray o
over_none None e = refl
over_none (Some t) e = absurd cc

array_none : (o : Option EntryMeaning) → None ≡ only_array (option_and_then array_made o) → None ≡ option_and_then array_made o
array_none None e = refl
array_none (Some (AConstant c)) e = refl
array_none (Some (AClass t)) e = over_none (array_over t) e
array_none (Some (AField f)) e = refl
array_none (Some (AMethod b c)) e = refl

pub array_nothing : (p : Program) (pool : List Entry) (i : ℕ) → None ≡ only_array (array_meant p pool i) → None ≡ option_map Used (array_meant p pool i)
unfolding array_meant
array_nothing p pool i e = ap (option_map Used) (array_none (entry_meant p pool (slice_get pool i)) e)
