-- What is looked up in a program that is ready.
use Rattle.std.proofs.Common.{◌≡◌, ℕ, zero, suc, ◌+◌, ◌^◌, ◌<◌, ◌≤◌, ◌⊎◌, inl, inr, List, [], ◌∷◌, length, Option, Some, None, refl, sym, ap, subst, ◌∙◌}
use Rattle.std.proofs.Common.{arith}
use Rattle.std.specs.Prelude.{nat_lt, option_and_then, option_map, slice_get, slice_index_or}
use Rattle.std.proofs.lemmas.Bool.{cases_lt}
use Rattle.jparts.specs.declared.jcode.op.Placed.{Placed}
use Rattle.jclass.specs.declared.class.CodeBody.{CodeBody}
use Rattle.jtypes.specs.declared.vtype.VType.{VType}
use Rattle.jresolution.specs.declared.jprogram.member.MethodId.{MethodId}
use Rattle.jresolution.specs.declared.jprogram.part.CodePart.{CodePart}
use Rattle.jresolution.specs.jprogram.ProgramClasses.{Program}
use Rattle.jresolution.specs.jprogram.ClassFileParts.{code_of}
use Rattle.jresolution.specs.declared.juses.types.TypeRef.{TypeRef}
use Rattle.jresolution.specs.juses.IndexedInstructions.{body_in, code_at, instruction}
use Rattle.jresolution.specs.juses.PoolTables.{pool_at, pool_in}
use Rattle.jsemantics.specs.jmachine.MachineSteps.{fetched}
use Rattle.jsemantics.specs.jmachine.Unwinding.{handler_at, handler_from, handler_in}
use Rattle.jready.specs.declared.handlers.HandlerRow.{HandlerRow}
use Rattle.jready.specs.declared.instr.Instr.{Instr}
use Rattle.jready.specs.declared.instr.Instr.TheVariants as instr
use Rattle.jready.specs.declared.methods.MethodRow.{MethodRow}
use Rattle.jready.specs.declared.tables.Tables.{Tables}
use Rattle.jready.specs.HandlerTables.{handled}
use Rattle.jready.specs.InlineOperands.{Exact, IsNumbered}
use Rattle.jready.specs.CodeLayout.{Within, followed}
use Rattle.jready.specs.DecodedInstructions.{meant}
use Rattle.jready.specs.MethodTables.{Has, IsBody, IsMethod}
use Rattle.jready.specs.MethodNumbers.{count_at, count_in, methods_before}
use Rattle.jready.specs.PreparedPrograms.{IsNumber, IsReady, IsRow, Prepared}
use Rattle.jready.specs.TableGrowth.{AreThere, part}
use Rattle.jready.proofs.MethodNumbers.{within}
use Rattle.jready.proofs.FetchedInstructions.{fetched_at, fetched_none}
use Rattle.jready.proofs.TableGrowth.{some_inj}
use Rattle.jready.proofs.ExceptionHandlers.{handled_is}

record There {A : Type 0} (xs : List A) (i : ℕ) : Type 0 where
  item : A
  at : slice_get xs i ≡ Some item

there : {A : Type 0} (xs : List A) (i : ℕ) → i < length xs → There xs i
there [] i lt = absurd (omega arith)
there (x ∷ xs) zero lt = record { item = x; at = refl }
there (x ∷ xs) (suc i) lt = let h = there xs i (omega arith) in record { item = h.item; at = h.at }

past_end : {A : Type 0} (xs : List A) (i : ℕ) → length xs ≤ i → slice_get xs i ≡ None
past_end [] i le = refl
past_end (x ∷ xs) zero le = absurd (omega arith)
past_end (x ∷ xs) (suc i) le = past_end xs i (omega arith)

index_get : {A : Type 0} (xs : List A) (i : ℕ) (d : A) → i < length xs → slice_get xs i ≡ Some (slice_index_or xs i d)
index_get [] i d lt = absurd (omega arith)
index_get (x ∷ xs) zero d lt = refl
index_get (x ∷ xs) (suc i) d lt = index_get xs i d (omega arith)

-- ---- instructions

off_means : (p : Program) (t : Tables) (class : ℕ) (i : Instr) → i ≡ instr.Off → meant p t class i ≡ None
unfolding meant
off_means p t class i is = ap (meant p t class) is

either : (i n : ℕ) → i ≤ n → (i < n) ⊎ (i ≡ n)
either i n le = elim (cases_lt i n) [ inl less ↦ inl less | inr more ↦ inr (omega arith) ]

fetches_body : (p : Program) (types : List TypeRef) (t : Tables) (code : List Instr) (handlers : List HandlerRow) (r : MethodRow) (place : ℕ) (i : Instr)
    (body : CodeBody) → code_at p r.id ≡ Some body → IsBody p types t code handlers r body
    → slice_get code (r.first + r.count) ≡ Some instr.Off → place ≤ r.count → slice_get code (r.first + place) ≡ Some i
    → meant p t r.id.class i ≡ fetched p r.id place
fetches_body p types t code handlers r place i body some is off le at = elim (either place r.count le) [
  | inl less ↦
      let one = there body.ops place (let n = is.count in omega arith) in
      (is.laid.each place one.item i less one.at at).means
      ∙ sym (fetched_at p r.id place body some ∙ ap (option_and_then
      (λ (one : Placed). followed (nat_lt (place + 1) (length body.ops)) (instruction p (pool_at p r.id.class) body.ops one))) one.at)
  | inr same ↦
      let is_off : i ≡ instr.Off = some_inj (sym at ∙ ap (λ (n : ℕ). slice_get code (r.first + n)) same ∙ off) in
      let none : slice_get body.ops place ≡ None = past_end body.ops place (let n = is.count in omega arith) in
      off_means p t r.id.class i is_off
      ∙ sym (fetched_at p r.id place body some ∙ ap (option_and_then
      (λ (one : Placed). followed (nat_lt (place + 1) (length body.ops)) (instruction p (pool_at p r.id.class) body.ops one))) none)
]

fetches_by : (p : Program) (types : List TypeRef) (t : Tables) (code : List Instr) (handlers : List HandlerRow) (r : MethodRow) (place : ℕ) (i : Instr)
    (o : Option CodeBody) → code_at p r.id ≡ o → Has p types t code handlers r o
    → slice_get code (r.first + r.count) ≡ Some instr.Off → place ≤ r.count → slice_get code (r.first + place) ≡ Some i
    → meant p t r.id.class i ≡ fetched p r.id place
fetches_by p types t code handlers r place i None none is off le at =
    let same : place ≡ r.count = let n = is.count in omega arith in
    let is_off : i ≡ instr.Off = some_inj (sym at ∙ ap (λ (n : ℕ). slice_get code (r.first + n)) same ∙ off) in
    off_means p t r.id.class i is_off ∙ sym (fetched_none p r.id place none)
fetches_by p types t code handlers r place i (Some body) some is off le at = fetches_body p types t code handlers r place i body some is off le at

pub fetches : (p : Program) (types : List TypeRef) (t : Tables) (code : List Instr) (handlers : List HandlerRow) (r : MethodRow) (place : ℕ) (i : Instr)
    → IsMethod p types t code handlers r → place ≤ r.count → slice_get code (r.first + place) ≡ Some i
    → meant p t r.id.class i ≡ fetched p r.id place
fetches p types t code handlers r place i is le at = fetches_by p types t code handlers r place i (code_at p r.id) refl is.holds is.off le at

-- behind its instructions there is none
fetched_behind : (p : Program) (types : List TypeRef) (t : Tables) (code : List Instr) (handlers : List HandlerRow) (r : MethodRow) (place : ℕ)
    (o : Option CodeBody) → code_at p r.id ≡ o → Has p types t code handlers r o → r.count ≤ place → fetched p r.id place ≡ None
fetched_behind p types t code handlers r place None none is le = fetched_none p r.id place none
fetched_behind p types t code handlers r place (Some body) some is le =
    let none : slice_get body.ops place ≡ None = past_end body.ops place (let n = is.count in omega arith) in
    fetched_at p r.id place body some ∙ ap (option_and_then
    (λ (one : Placed). followed (nat_lt (place + 1) (length body.ops)) (instruction p (pool_at p r.id.class) body.ops one))) none

-- ---- handlers

handler_part : (p : Program) (thrown : VType) (m i : ℕ) (o : Option CodePart)
    → option_and_then (λ c. option_and_then (handler_in p thrown i c) (body_in c m)) (option_map (λ part. part.class) o)
    ≡ option_and_then (λ body. option_and_then (handler_from p (pool_in o) thrown body) (slice_get body.ops i))
    (option_and_then (λ c. body_in c m) (option_map (λ part. part.class) o))
handler_part p thrown m i None = refl
handler_part p thrown m i (Some part) = refl

handler_is : (p : Program) (thrown : VType) (m : MethodId) (i : ℕ)
    → handler_at p thrown m i ≡ option_and_then (λ body. option_and_then (handler_from p (pool_at p m.class) thrown body) (slice_get body.ops i)) (code_at p m)
unfolding handler_at
handler_is p thrown m i = handler_part p thrown m.method i (slice_get p.parts m.class)

handles_by : (p : Program) (types : List TypeRef) (t : Tables) (code : List Instr) (handlers : List HandlerRow) (r : MethodRow) (thrown : VType) (place : ℕ)
    (o : Option CodeBody) → code_at p r.id ≡ o → Has p types t code handlers r o → place < r.count
    → handler_at p thrown r.id place ≡ handled p (pool_at p r.id.class) thrown place (part handlers r.handlers.first r.handlers.count)
handles_by p types t code handlers r thrown place None none is lt = absurd (let n = is.count in omega arith)
handles_by p types t code handlers r thrown place (Some body) some is lt =
    let one = there body.ops place (let n = is.count in omega arith) in
    handler_is p thrown r.id place
    ∙ ap (option_and_then (λ (body : CodeBody). option_and_then (handler_from p (pool_at p r.id.class) thrown body) (slice_get body.ops place))) some
    ∙ ap (option_and_then (handler_from p (pool_at p r.id.class) thrown body)) one.at
    ∙ sym (handled_is p (pool_at p r.id.class) thrown body.ops place one.item one.at body.handlers
    (part handlers r.handlers.first r.handlers.count) is.handles)

unhandled_by : (p : Program) (types : List TypeRef) (t : Tables) (code : List Instr) (handlers : List HandlerRow) (r : MethodRow) (thrown : VType) (place : ℕ)
    (o : Option CodeBody) → code_at p r.id ≡ o → Has p types t code handlers r o → r.count ≤ place → handler_at p thrown r.id place ≡ None
unhandled_by p types t code handlers r thrown place None none is le =
    handler_is p thrown r.id place
    ∙ ap (option_and_then (λ (body : CodeBody). option_and_then (handler_from p (pool_at p r.id.class) thrown body) (slice_get body.ops place))) none
unhandled_by p types t code handlers r thrown place (Some body) some is le =
    let none : slice_get body.ops place ≡ None = past_end body.ops place (let n = is.count in omega arith) in
    handler_is p thrown r.id place
    ∙ ap (option_and_then (λ (body : CodeBody). option_and_then (handler_from p (pool_at p r.id.class) thrown body) (slice_get body.ops place))) some
    ∙ ap (option_and_then (handler_from p (pool_at p r.id.class) thrown body)) none

pub handles : (p : Program) (types : List TypeRef) (t : Tables) (code : List Instr) (handlers : List HandlerRow) (r : MethodRow) (thrown : VType)
    (place : ℕ) → IsMethod p types t code handlers r → place < r.count
    → handler_at p thrown r.id place ≡ handled p (pool_at p r.id.class) thrown place (part handlers r.handlers.first r.handlers.count)
handles p types t code handlers r thrown place is lt = handles_by p types t code handlers r thrown place (code_at p r.id) refl is.holds lt

-- ---- by rows

pub row_is : (r : Prepared) (row : MethodRow) → IsReady r → IsRow r row
    → IsMethod r.program r.uses.types r.methods.tables r.methods.code r.methods.handlers row
row_is r row ready own = ready.methods own.0 row own.1

pub place_within : (r : Prepared) (row : MethodRow) (place : ℕ) → IsReady r → IsRow r row → place ≤ row.count → row.first + place < length r.methods.code
place_within r row place ready own le = let lt = within r.methods.code (row.first + row.count) instr.Off (row_is r row ready own).off in omega arith

pub fetches_behind : (r : Prepared) (row : MethodRow) (place : ℕ) → IsReady r → IsRow r row → row.count ≤ place
    → meant r.program r.methods.tables row.id.class instr.Off ≡ fetched r.program row.id place
fetches_behind r row place ready own le =
    let m = row_is r row ready own in
    off_means r.program r.methods.tables row.id.class instr.Off refl
    ∙ sym (fetched_behind r.program r.uses.types r.methods.tables r.methods.code r.methods.handlers row place (code_at r.program row.id) refl m.holds le)

pub fetches_row : (r : Prepared) (row : MethodRow) (place : ℕ) (i : Instr) → IsReady r → IsRow r row → place ≤ row.count
    → slice_get r.methods.code (row.first + place) ≡ Some i
    → meant r.program r.methods.tables row.id.class i ≡ fetched r.program row.id place
fetches_row r row place i ready own le at = fetches r.program r.uses.types r.methods.tables r.methods.code r.methods.handlers row place i
    (row_is r row ready own) le at

exact_by : (p : Program) (types : List TypeRef) (t : Tables) (code : List Instr) (handlers : List HandlerRow) (r : MethodRow) (place : ℕ) (i : Instr)
    (o : Option CodeBody) → Has p types t code handlers r o
    → slice_get code (r.first + r.count) ≡ Some instr.Off → place ≤ r.count → slice_get code (r.first + place) ≡ Some i
    → Within t i × Exact p types t r.id.class i
exact_by p types t code handlers r place i None is off le at =
    let same : place ≡ r.count = let n = is.count in omega arith in
    let is_off : i ≡ instr.Off = some_inj (sym at ∙ ap (λ (n : ℕ). slice_get code (r.first + n)) same ∙ off) in
    subst (λ (i : Instr). Within t i × Exact p types t r.id.class i) (sym is_off) (tt, tt)
exact_by p types t code handlers r place i (Some body) is off le at = elim (either place r.count le) [
  | inl less ↦
      let one = there body.ops place (let n = is.count in omega arith) in
      let stands = is.laid.each place one.item i less one.at at in
      (stands.within, stands.exact)
  | inr same ↦
      let is_off : i ≡ instr.Off = some_inj (sym at ∙ ap (λ (n : ℕ). slice_get code (r.first + n)) same ∙ off) in
      subst (λ (i : Instr). Within t i × Exact p types t r.id.class i) (sym is_off) (tt, tt)
]

pub exact_at : (r : Prepared) (row : MethodRow) (place : ℕ) (code : List Instr) (d : Instr) → IsReady r → IsRow r row → place ≤ row.count
    → code ≡ r.methods.code
    → Within r.methods.tables (slice_index_or code (row.first + place) d) × Exact r.program r.uses.types r.methods.tables row.id.class
    (slice_index_or code (row.first + place) d)
exact_at r row place code d ready own le is =
    let lt = place_within r row place ready own le in
    let m = row_is r row ready own in
    let at : slice_get r.methods.code (row.first + place) ≡ Some (slice_index_or r.methods.code (row.first + place) d) =
    index_get r.methods.code (row.first + place) d lt in
    let both = exact_by r.program r.uses.types r.methods.tables r.methods.code r.methods.handlers row place _ (code_at r.program row.id) m.holds m.off le at in
    subst (λ (l : List Instr). Within r.methods.tables (slice_index_or l (row.first + place) d) × Exact r.program r.uses.types r.methods.tables row.id.class
    (slice_index_or l (row.first + place) d)) (sym is) both

-- the instruction that a slice has there
pub fetches_at : (r : Prepared) (row : MethodRow) (place : ℕ) (code : List Instr) (d : Instr) → IsReady r → IsRow r row → place ≤ row.count
    → code ≡ r.methods.code
    → meant r.program r.methods.tables row.id.class (slice_index_or code (row.first + place) d) ≡ fetched r.program row.id place
fetches_at r row place code d ready own le is =
    let lt = place_within r row place ready own le in
    let at : slice_get r.methods.code (row.first + place) ≡ Some (slice_index_or r.methods.code (row.first + place) d) =
    index_get r.methods.code (row.first + place) d lt in
    ap (λ (l : List Instr). meant r.program r.methods.tables row.id.class (slice_index_or l (row.first + place) d)) is
    ∙ fetches_row r row place _ ready own le at

has_there : (p : Program) (types : List TypeRef) (t : Tables) (code : List Instr) (handlers : List HandlerRow) (r : MethodRow) (o : Option CodeBody)
    → Has p types t code handlers r o → AreThere handlers r.handlers.first r.handlers.count
has_there p types t code handlers r None is = is.there
has_there p types t code handlers r (Some body) is = is.there

pub handlers_there : (r : Prepared) (row : MethodRow) → IsReady r → IsRow r row → AreThere r.methods.handlers row.handlers.first row.handlers.count
handlers_there r row ready own = has_there r.program r.uses.types r.methods.tables r.methods.code r.methods.handlers row (code_at r.program row.id)
    (row_is r row ready own).holds

pub handles_row : (r : Prepared) (row : MethodRow) (own : List HandlerRow) → IsReady r → IsRow r row
    → own ≡ part r.methods.handlers row.handlers.first row.handlers.count → (thrown : VType) (place : ℕ) → place < row.count
    → handler_at r.program thrown row.id place ≡ handled r.program (pool_at r.program row.id.class) thrown place own
handles_row r row own ready is same thrown place lt =
    handles r.program r.uses.types r.methods.tables r.methods.code r.methods.handlers row thrown place (row_is r row ready is) lt
    ∙ ap (λ (l : List HandlerRow). handled r.program (pool_at r.program row.id.class) thrown place l) (sym same)

pub unhandled_row : (r : Prepared) (row : MethodRow) → IsReady r → IsRow r row → (thrown : VType) (place : ℕ) → row.count ≤ place
    → handler_at r.program thrown row.id place ≡ None
unhandled_row r row ready is thrown place le =
    unhandled_by r.program r.uses.types r.methods.tables r.methods.code r.methods.handlers row thrown place (code_at r.program row.id) refl
    (row_is r row ready is).holds le

-- ---- the numbers of methods

no_code_in : (p : Program) (m : MethodId) (o : Option CodePart) → slice_get p.parts m.class ≡ o → count_in o ≤ m.method
    → option_and_then (λ c. body_in c m.method) (option_map (λ part. part.class) o) ≡ None
no_code_in p m None is le = refl
no_code_in p m (Some part) is le = ap (option_and_then code_of) (past_end part.class.methods m.method le)

-- a method that isn't there has no code
pub no_code : (p : Program) (m : MethodId) → count_at p m.class ≤ m.method → code_at p m ≡ None
no_code p m le = no_code_in p m (slice_get p.parts m.class) refl le

pub no_class : (p : Program) (m : MethodId) → length p.parts ≤ m.class → count_at p m.class ≤ m.method
no_class p m le = let none : count_at p m.class ≡ 0 = ap count_in (past_end p.parts m.class le) in omega arith

-- a method with a class and a place has its number
pub number_there : (r : Prepared) (m : MethodId) → IsReady r → m.class < length r.program.parts → m.method < count_at r.program m.class
    → IsNumber r.methods.rows (methods_before r.program m.class + m.method) m
number_there r m ready lt own = ready.numbered m.class lt m.method own

-- one that can't be there has no code
pub number_none : (r : Prepared) (m : MethodId) → (m.class < length r.program.parts → m.method < count_at r.program m.class → ⊥) → code_at r.program m ≡ None
number_none r m never = elim (cases_lt m.class (length r.program.parts)) [
  | inl there ↦ elim (cases_lt m.method (count_at r.program m.class)) [
    | inl own ↦ absurd (never there own)
    | inr past ↦ no_code r.program m past
  ]
  | inr past ↦ no_code r.program m (no_class r.program m past)
]

-- one that isn't found has no code
pub not_found : (r : Prepared) (m : MethodId) (firsts : List ℕ) (rows : List MethodRow) → IsReady r → firsts ≡ r.firsts → rows ≡ r.methods.rows
    → ((first : ℕ) → slice_get firsts m.class ≡ Some first → first + m.method < 2 ^ 32 → IsNumber rows (first + m.method) m → ⊥) → code_at r.program m ≡ None
not_found r m firsts rows ready fs rs never = number_none r m (λ lt own.
    let first = ready.firsts m.class lt in
    let room = first.room in
    never (methods_before r.program m.class) (ap (λ (l : List ℕ). slice_get l m.class) fs ∙ first.first) (omega arith)
    (subst (λ (l : List MethodRow). IsNumber l (methods_before r.program m.class + m.method) m) (sym rs) (number_there r m ready lt own)))

-- a row with another method, and none, are no row of a method
pub no_row : (rows : List MethodRow) (k n : ℕ) (m : MethodId) → slice_get rows k ≡ None → k ≡ n → IsNumber rows n m → ⊥
no_row rows k n m none is h = cc (sym none ∙ ap (slice_get rows) is ∙ h.at)

pub other_row : (rows : List MethodRow) (k n : ℕ) (m : MethodId) (row : MethodRow) → slice_get rows k ≡ Some row → k ≡ n → IsNumber rows n m → row.id ≡ m
other_row rows k n m row here is h = ap (λ (x : MethodRow). x.id) (some_inj (sym here ∙ ap (slice_get rows) is ∙ h.at)) ∙ h.id

-- the number that a call holds is that of its method
pub number_is : (r : Prepared) (k : ℕ) (m : MethodId) → IsReady r → IsNumbered r.program k m → IsNumber r.methods.rows k m
number_is r k m ready is = subst (λ (n : ℕ). IsNumber r.methods.rows n m) (sym is.number) (ready.numbered m.class is.class m.method is.method)
