-- A descriptor with the context put behind its parameters.
use Rattle.std.proofs.Common.{◌≡◌, ℕ, suc, ◌+◌, ◌<◌, ◌≤◌, List, [], ◌∷◌, ◌++◌, length, get_or, take, drop, ap, ◌∙◌, sym, arith, append_assoc}
use Rattle.std.specs.Prelude.{Option, codes}
use Rattle.std.specs.List.{flat_map}
use Rattle.std.specs.Str.{byte}
use Rattle.std.proofs.Math.Seq.{take-append_seam, drop-append_seam}
use Rattle.std.proofs.lemmas.Grind.{flat_map-append}
use Rattle.std.proofs.lemmas.List.{drop_more, drop_all, length-append}
use Rattle.std.proofs.lemmas.List.Concat.{flat_map-cons}
use Rattle.jparts.specs.declared.jpool.descriptor.FieldType.{FieldType}
use Rattle.jparts.specs.declared.jpool.descriptor.Descriptor.TheVariants.{Method}
use Rattle.jparts.specs.jpool.Descriptors.{type_text, return_text, descriptor_text}
use Rattle.jmove.specs.PoolAdditions.{context_type}

pub types_more : (ts : List FieldType) (i count total : ℕ) (t : FieldType) → i < length ts → t ≡ get_or ts i t → count + length (flat_map type_text (drop i ts)) ≡ total
    → count + length (type_text t) + length (flat_map type_text (drop (i + 1) ts)) ≡ total
types_more ts i count total t h is_t same =
    let parts : flat_map type_text (drop i ts) ≡ type_text t ++ flat_map type_text (drop (i + 1) ts) =
    ap (flat_map type_text) (drop_more ts i t h) ∙ flat_map-cons type_text (get_or ts i t) (drop (i + 1) ts) ∙ ap (λ (x : FieldType). type_text x ++ flat_map type_text (drop (i + 1) ts)) (sym is_t) in
    omega (arith, ap (λ (l : List ℕ). length l) parts, length-append (type_text t) (flat_map type_text (drop (i + 1) ts)))

pub types_done : (ts : List FieldType) (i count total : ℕ) → length ts ≤ i → count + length (flat_map type_text (drop i ts)) ≡ total → count ≡ total
types_done ts i count total h same =
    let none : length (flat_map type_text (drop i ts)) ≡ 0 = ap (λ (l : List FieldType). length (flat_map type_text l)) (drop_all i ts h) in
    omega arith

-- the parameters, their sign aside, in a descriptor
pub room : (ps : List FieldType) (ret : Option FieldType) (text : List ℕ) → text ≡ descriptor_text (Method ps ret) → 1 + length (flat_map type_text ps) ≤ length text
unfolding descriptor_text
room ps ret text e = omega (arith, ap (λ (l : List ℕ). length l) e, length-append (flat_map type_text ps) (byte ")" ∷ return_text ret))

front_back : (b : ℕ) (xs ys more : List ℕ) → take (1 + length xs) (b ∷ (xs ++ ys)) ++ (more ++ drop (1 + length xs) (b ∷ (xs ++ ys))) ≡ b ∷ ((xs ++ more) ++ ys)
front_back b xs ys more =
    let n : 1 + length xs ≡ suc (length xs) = omega arith in
    ap (λ (k : ℕ). take k (b ∷ (xs ++ ys)) ++ (more ++ drop k (b ∷ (xs ++ ys)))) n
    ∙ ap (λ (l : List ℕ). (b ∷ l) ++ (more ++ drop (length xs) (xs ++ ys))) (take-append_seam xs ys)
    ∙ ap (λ (l : List ℕ). (b ∷ xs) ++ (more ++ l)) (drop-append_seam xs ys)
    ∙ ap (λ (l : List ℕ). b ∷ l) (sym (append_assoc xs more ys))

pub one_more : (ps : List FieldType) (ret : Option FieldType) (text : List ℕ) → text ≡ descriptor_text (Method ps ret)
    → take (1 + length (flat_map type_text ps)) text ++ (codes "Lsps/Ctx;" ++ drop (1 + length (flat_map type_text ps)) text) ≡ descriptor_text (Method (ps ++ context_type ∷ []) ret)
unfolding descriptor_text
one_more ps ret text e =
    let at = 1 + length (flat_map type_text ps) in
    let behind = byte ")" ∷ return_text ret in
    let types : flat_map type_text (ps ++ context_type ∷ []) ≡ flat_map type_text ps ++ codes "Lsps/Ctx;" =
    flat_map-append type_text ps (context_type ∷ []) in
    ap (λ (l : List ℕ). take at l ++ (codes "Lsps/Ctx;" ++ drop at l)) e
    ∙ front_back (byte "(") (flat_map type_text ps) behind (codes "Lsps/Ctx;")
    ∙ ap (λ (l : List ℕ). byte "(" ∷ (l ++ behind)) (sym types)
