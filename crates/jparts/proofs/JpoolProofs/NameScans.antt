-- Going along a class name, and along brackets.
use Rattle.std.proofs.Common.{◌≡◌, ◌≢◌, ℕ, ◌+◌, ◌≤◌, ◌<◌, Bool, true, false, ◌&&◌, ltb, eqb, List, [], ◌∷◌, length, get_or, drop, Some, None, refl, sym, ◌∙◌, add-one, arith}
use Rattle.std.specs.List.{list_all, slice_split, onto_first, prefix_len, position, position_or_len}
use Rattle.std.proofs.lemmas.Bool.{lt-ltb, le-ltb}
use Rattle.std.proofs.Math.Seq.{drop-cons}
use Rattle.std.proofs.Math.ListN.{drop_of_length-le}
use Rattle.jparts.specs.jpool.ClassNames.{is_slash, is_name_byte, is_part, is_class_name}

abbrev pub first_goes_on : List (List ℕ) → Bool
first_goes_on [] = true
first_goes_on (p ∷ ps) = list_all is_name_byte p && list_all is_part ps

pub differs : (a b : ℕ) → a ≢ b → eqb a b ≡ false
differs a b h = grind arith

-- the rest of a name, whose first part may have begun
unfoldable pub goes_on : Bool → List ℕ → Bool
goes_on true text = first_goes_on (slice_split is_slash text)
goes_on false text = list_all is_part (slice_split is_slash text)

pub name_begins : (text : List ℕ) → goes_on false text ≡ is_class_name text
unfolding goes_on is_class_name
name_begins text = refl

pub slash_goes_on : (begun : Bool) (b : ℕ) (rest : List ℕ) → is_slash b ≡ true → goes_on begun (b ∷ rest) ≡ begun && goes_on false rest
unfolding goes_on
slash_goes_on true b rest h = rw h refl
slash_goes_on false b rest h = rw h refl

byte_onto : (begun : Bool) (b : ℕ) (ps : List (List ℕ)) → is_name_byte b ≡ true → (first_goes_on (onto_first b ps) ≡ first_goes_on ps) × (list_all is_part (onto_first b ps) ≡ first_goes_on ps)
byte_onto begun b [] h = (rw h refl, rw h refl)
byte_onto begun b (p ∷ ps) h = (rw h refl, rw h refl)

pub byte_goes_on : (begun : Bool) (b : ℕ) (rest : List ℕ) → is_slash b ≡ false → is_name_byte b ≡ true → goes_on begun (b ∷ rest) ≡ goes_on true rest
unfolding goes_on
byte_goes_on true b rest h k = rw h ((byte_onto true b (slice_split is_slash rest) k).0)
byte_goes_on false b rest h k = rw h ((byte_onto true b (slice_split is_slash rest) k).1)

bad_onto : (b : ℕ) (ps : List (List ℕ)) → is_name_byte b ≡ false → (first_goes_on (onto_first b ps) ≡ false) × (list_all is_part (onto_first b ps) ≡ false)
bad_onto b [] h = (rw h refl, rw h refl)
bad_onto b (p ∷ ps) h = (rw h refl, rw h refl)

pub bad_goes_on : (begun : Bool) (b : ℕ) (rest : List ℕ) → is_slash b ≡ false → is_name_byte b ≡ false → goes_on begun (b ∷ rest) ≡ false
unfolding goes_on
bad_goes_on true b rest h k = rw h ((bad_onto b (slice_split is_slash rest) k).0)
bad_goes_on false b rest h k = rw h ((bad_onto b (slice_split is_slash rest) k).1)

at_item : (text : List ℕ) (i : ℕ) (begun : Bool) → i < length text → goes_on begun (drop i text) ≡ goes_on begun (get_or text i 0 ∷ drop (i + 1) text)
at_item text i begun lt = rw (drop-cons text i 0, add-one) refl

pub name_empty : (text : List ℕ) (i : ℕ) (begun total : Bool) → i < length text → get_or text i 0 ≡ 47 → begun ≡ false → goes_on begun (drop i text) ≡ total → false ≡ total
name_empty text i begun total lt h b so_far =
    let one : goes_on begun (drop i text) ≡ false = at_item text i begun lt ∙ slash_goes_on begun (get_or text i 0) (drop (i + 1) text) (rw h refl) ∙ rw b refl in
    sym one ∙ so_far

pub name_next : (text : List ℕ) (i : ℕ) (begun total : Bool) → i < length text → get_or text i 0 ≡ 47 → begun ≡ true → goes_on begun (drop i text) ≡ total → goes_on false (drop (i + 1) text) ≡ total
name_next text i begun total lt h b so_far =
    let one : goes_on begun (drop i text) ≡ goes_on false (drop (i + 1) text) = at_item text i begun lt ∙ slash_goes_on begun (get_or text i 0) (drop (i + 1) text) (rw h refl) ∙ rw b refl in
    sym one ∙ so_far

pub name_byte : (text : List ℕ) (i : ℕ) (begun total : Bool) → i < length text → get_or text i 0 ≢ 47 → is_name_byte (get_or text i 0) ≡ true → goes_on begun (drop i text) ≡ total → goes_on true (drop (i + 1) text) ≡ total
name_byte text i begun total lt h k so_far =
    sym (at_item text i begun lt ∙ byte_goes_on begun (get_or text i 0) (drop (i + 1) text) (differs _ _ h) k) ∙ so_far

pub name_bad : (text : List ℕ) (i : ℕ) (begun total : Bool) → i < length text → get_or text i 0 ≢ 47 → is_name_byte (get_or text i 0) ≡ false → goes_on begun (drop i text) ≡ total → false ≡ total
name_bad text i begun total lt h k so_far =
    sym (at_item text i begun lt ∙ bad_goes_on begun (get_or text i 0) (drop (i + 1) text) (differs _ _ h) k) ∙ so_far

pub name_ends : (text : List ℕ) (i : ℕ) (begun total : Bool) → length text ≤ i → goes_on begun (drop i text) ≡ total → begun ≡ total
unfolding goes_on
name_ends text i true total le so_far = let one : goes_on true (drop i text) ≡ true = rw (drop_of_length-le text le) refl in sym one ∙ so_far
name_ends text i false total le so_far = let one : goes_on false (drop i text) ≡ false = rw (drop_of_length-le text le) refl in sym one ∙ so_far

pub prefix_more : (p : ℕ → Bool) (text : List ℕ) (i total : ℕ) → i < length text → p (get_or text i 0) ≡ true → i + prefix_len p (drop i text) ≡ total → i + 1 + prefix_len p (drop (i + 1) text) ≡ total
prefix_more p text i total lt h so_far =
    let one : prefix_len p (drop i text) ≡ 1 + prefix_len p (drop (i + 1) text) = rw (drop-cons text i 0, h, add-one) refl in
    omega (arith, one)

pub prefix_stops : (p : ℕ → Bool) (text : List ℕ) (i total : ℕ) → i < length text → p (get_or text i 0) ≡ false → i + prefix_len p (drop i text) ≡ total → i ≡ total
prefix_stops p text i total lt h so_far =
    let one : prefix_len p (drop i text) ≡ 0 = rw (drop-cons text i 0, h) refl in
    omega (arith, one)

pub prefix_ends : (p : ℕ → Bool) (text : List ℕ) (i total : ℕ) → length text ≤ i → i ≤ length text → i + prefix_len p (drop i text) ≡ total → length text ≡ total
prefix_ends p text i total le ge so_far =
    let one : prefix_len p (drop i text) ≡ 0 = rw (drop_of_length-le text le) refl in
    omega (arith, one)

pub found_at : (p : ℕ → Bool) (text : List ℕ) (i : ℕ) → i < length text → i ≡ position_or_len p text → Some i ≡ position p text
found_at p text i lt h = let there : ltb (position_or_len p text) (length text) ≡ true = lt-ltb _ _ (rw (sym h) lt) in rw (there, ← h) refl

pub found_none : (p : ℕ → Bool) (text : List ℕ) → length text ≡ position_or_len p text → None ≡ position p text
found_none p text h = let out : ltb (position_or_len p text) (length text) ≡ false = le-ltb _ _ (omega (arith, h)) in rw out refl
