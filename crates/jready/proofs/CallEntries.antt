-- Calls of methods by their entries.
use Rattle.std.proofs.Common.{◌≡◌, ℕ, Bool, true, false, List, Option, Some, None, refl, sym, ap, ◌∙◌}
use Rattle.std.specs.Prelude.{option_and_then, option_map, slice_get}
use Rattle.jparts.specs.declared.jpool.entry.Entry.{Entry}
use Rattle.jparts.specs.declared.jcode.op_form.PoolForm.{PoolForm}
use Rattle.jparts.specs.declared.jcode.op_form.PoolForm.TheVariants as forms
use Rattle.jparts.specs.declared.jcode.names.CallOp.{CallOp}
use Rattle.jparts.specs.declared.jcode.names.CallOp.TheVariants as calls
use Rattle.jresolution.specs.jprogram.ProgramClasses.{Program}
use Rattle.jresolution.specs.declared.juses.meaning.InvokeKind.{InvokeKind}
use Rattle.jresolution.specs.declared.juses.meaning.InvokeKind.TheVariants as how
use Rattle.jresolution.specs.juses.IndexedInstructions.{Used}
use Rattle.jresolution.specs.juses.InstructionMeanings.{AClass, AConstant, AField, AMethod, Call, CallMeaning, EntryMeaning, entry_meant, how_of}
use Rattle.jresolution.specs.ProofNames.{called_by, called_by_interface}
use Rattle.jresolution.specs.juses.InstructionMeanings.{meant}
use Rattle.jready.specs.ProgramFacts.{IsCall}
use Rattle.jready.specs.DecodedInstructions.{call_form}
use Rattle.jready.specs.MeaningParts.{only_call}
use Rattle.jready.specs.ResolvedMembers.{IsCalled}
use Rattle.jready.proofs.TableGrowth.{pair_first}
use Rattle.jready.proofs.ConstantPushes.{slots_apart}
use Rattle.jready.proofs.ReferenceResolution.{call_is, interface_is}

-- ---- the form of a call

form_by : (op : CallOp) (i : ℕ) (b : Bool) → call_form (how_of op b) i ≡ forms.Call op i
form_by calls.Virtual i b = refl
form_by calls.Special i true = refl
form_by calls.Special i false = refl
form_by calls.Static i b = refl

called_so : (op : CallOp) (i : ℕ) (way : InvokeKind) (c : CallMeaning) (o : Option EntryMeaning) → Some (way, c) ≡ only_call (option_and_then (called_by op) o)
    → call_form way i ≡ forms.Call op i
called_so op i way c None e = absurd cc
called_so op i way c (Some (AConstant x)) e = absurd cc
called_so op i way c (Some (AClass t)) e = absurd cc
called_so op i way c (Some (AField f)) e = absurd cc
called_so op i way c (Some (AMethod b d)) e = ap (λ (w : InvokeKind). call_form w i) (pair_first InvokeKind CallMeaning (way, c) (how_of op b, d) e) ∙ form_by op i b

interface_so : (way : InvokeKind) (c : CallMeaning) (o : Option EntryMeaning) → Some (way, c) ≡ only_call (option_and_then called_by_interface o)
    → way ≡ how.Interface
interface_so way c None e = absurd cc
interface_so way c (Some (AConstant x)) e = absurd cc
interface_so way c (Some (AClass t)) e = absurd cc
interface_so way c (Some (AField f)) e = absurd cc
interface_so way c (Some (AMethod b d)) e = pair_first InvokeKind CallMeaning (way, c) (how.Interface, d) e

call_so : (p : Program) (pool : List Entry) (op : CallOp) (i : ℕ) (way : InvokeKind) (c : CallMeaning) → Some (way, c) ≡ only_call (meant p pool (forms.Call op i))
    → call_form way i ≡ forms.Call op i
unfolding meant
call_so p pool op i way c e = called_so op i way c (entry_meant p pool (slice_get pool i)) e

by_interface_so : (p : Program) (pool : List Entry) (i slots : ℕ) (way : InvokeKind) (c : CallMeaning)
    → Some (way, c) ≡ only_call (meant p pool (forms.CallInterface i slots)) → way ≡ how.Interface
unfolding meant
by_interface_so p pool i slots way c e = interface_so way c (entry_meant p pool (slice_get pool i)) e

-- what calls a method so means what the form means by which it was found
pub form_means : (p : Program) (pool : List Entry) (f : PoolForm) (i : ℕ) (way : InvokeKind) (c : CallMeaning) → IsCall f i
    → Some (way, c) ≡ only_call (meant p pool f) → meant p pool (call_form way i) ≡ meant p pool f
form_means p pool (forms.Call op j) i way c is e = ap (meant p pool) (ap (call_form way) (sym is) ∙ call_so p pool op j way c e)
form_means p pool (forms.CallInterface j slots) i way c is e =
    ap (λ (w : InvokeKind). meant p pool (call_form w i)) (by_interface_so p pool j slots way c e)
    ∙ ap (λ (k : ℕ). meant p pool (forms.CallInterface k 0)) (sym is) ∙ slots_apart p pool j 0 slots
form_means p pool (forms.Constant j) i way c is e = absurd is
form_means p pool (forms.LongConstant j) i way c is e = absurd is
form_means p pool (forms.Field op j) i way c is e = absurd is
form_means p pool (forms.New j) i way c is e = absurd is
form_means p pool (forms.Cast op j) i way c is e = absurd is

-- ---- where nothing is called

called_none : (op : CallOp) (o : Option EntryMeaning) → None ≡ only_call (option_and_then (called_by op) o) → None ≡ option_and_then (called_by op) o
called_none op None e = refl
called_none op (Some (AConstant x)) e = refl
called_none op (Some (AClass t)) e = refl
called_none op (Some (AField f)) e = refl
called_none op (Some (AMethod b d)) e = absurd cc

interface_none : (o : Option EntryMeaning) → None ≡ only_call (option_and_then called_by_interface o) → None ≡ option_and_then called_by_interface o
interface_none None e = refl
interface_none (Some (AConstant x)) e = refl
interface_none (Some (AClass t)) e = refl
interface_none (Some (AField f)) e = refl
interface_none (Some (AMethod b d)) e = absurd cc

pub nothing_called : (p : Program) (pool : List Entry) (f : PoolForm) (i : ℕ) → IsCall f i → None ≡ only_call (meant p pool f)
    → None ≡ option_map Used (meant p pool f)
unfolding meant
nothing_called p pool (forms.Call op j) i is e = ap (option_map Used) (called_none op (entry_meant p pool (slice_get pool j)) e)
nothing_called p pool (forms.CallInterface j slots) i is e = ap (option_map Used) (interface_none (entry_meant p pool (slice_get pool j)) e)
nothing_called p pool (forms.Constant j) i is e = absurd is
nothing_called p pool (forms.LongConstant j) i is e = absurd is
nothing_called p pool (forms.Field op j) i is e = absurd is
nothing_called p pool (forms.New j) i is e = absurd is
nothing_called p pool (forms.Cast op j) i is e = absurd is

-- ---- what is called is a method

pub is_called : (p : Program) (pool : List Entry) (f : PoolForm) (i : ℕ) (w : InvokeKind) (c : CallMeaning) → IsCall f i → meant p pool f ≡ Some (Call w c)
    → IsCalled p c.member
is_called p pool (forms.Call op j) i w c is e = call_is p pool op j w c e
is_called p pool (forms.CallInterface j slots) i w c is e = interface_is p pool j slots w c e
is_called p pool (forms.Constant j) i w c is e = absurd is
is_called p pool (forms.LongConstant j) i w c is e = absurd is
is_called p pool (forms.Field op j) i w c is e = absurd is
is_called p pool (forms.New j) i w c is e = absurd is
is_called p pool (forms.Cast op j) i w c is e = absurd is
