-- What decoding answers, by what the digits spell.
use Rattle.std.proofs.Common.{◌≡◌, ◌≢◌, ◌⊎◌, ⊎_elim, ℕ, zero, suc, ◌+◌, ◌%◌, ◌*◌, List, [], ◌∷◌, length, slice_index_or, refl, ap, ◌∙◌, sym, arith}
use Rattle.std.specs.Prelude.{Option, Some, None, Result, Ok, Err}
use Rattle.std.proofs.lemmas.Grind.{common_steps}
use Rattle.hex.specs.Hex.{hex_digit_value, digit_or_error, value_at, pair_value as pair_read, decode_pairs, decode_of, decode_sized, ◌>>=◌}
use Rattle.hex.specs.declared.error.FromHexError.{FromHexError}
use Rattle.hex.specs.declared.error.FromHexError.TheVariants.{OutOfMemory}
use Rattle.lt_hex.specs.Digits.{hex_value, pair_value, hex_pair, byte_onto, hex_of}

-- the value of an answer
abbrev pub found : {A : Type 0} → Result A FromHexError → Option A
found (Ok x) = Some x
found (Err e) = None

digit_same : (c : ℕ) → hex_digit_value c ≡ hex_value c
unfolding hex_value
digit_same c = grind arith

found_digit : (c i : ℕ) (o : Option ℕ) → found (digit_or_error c i o) ≡ o
found_digit c i None = refl
found_digit c i (Some v) = refl

joined : (r s : Result ℕ FromHexError) → found (r >>= (λ h. s >>= (λ l. Ok (h * 16 + l)))) ≡ pair_value (found r) (found s)
joined (Err e) s = refl
joined (Ok h) (Err e) = refl
joined (Ok h) (Ok l) = ap Some (grind arith)

pub pair_same : (high low i : ℕ) → found (pair_read high low i) ≡ hex_pair high low
unfolding hex_pair
pair_same high low i =
    joined (value_at high i) (value_at low (i + 1))
    ∙ rw (found_digit high i (hex_digit_value high), found_digit low (i + 1) (hex_digit_value low), digit_same high, digit_same low) refl

listed : (r : Result ℕ FromHexError) (s : Result (List ℕ) FromHexError) → found (r >>= (λ b. s >>= (λ bs. Ok (b ∷ bs)))) ≡ byte_onto (found r) (found s)
listed (Err e) s = refl
listed (Ok b) (Err e) = refl
listed (Ok b) (Ok bs) = refl

pub pairs_same : (i : ℕ) (digits : List ℕ) → found (decode_pairs i digits) ≡ hex_of digits
unfolding decode_pairs hex_of
pairs_same i [] = refl
pairs_same i (high ∷ []) = refl
pairs_same i (high ∷ low ∷ digits) =
    listed (pair_read high low i) (decode_pairs (i + 2) digits)
    ∙ rw (pair_same high low i, pairs_same (i + 2) digits) refl

nothing_onto : (r : Option ℕ) → byte_onto r None ≡ None
nothing_onto None = refl
nothing_onto (Some b) = refl

odd_none : (digits : List ℕ) → length digits % 2 ≡ 1 → hex_of digits ≡ None
unfolding hex_of
odd_none [] odd = absurd (omega arith)
odd_none (high ∷ []) odd = refl
odd_none (high ∷ low ∷ digits) odd = rw (odd_none digits (omega arith)) (nothing_onto (hex_pair high low))

pub all_same : (digits : List ℕ) → found (decode_of digits) ≡ hex_of digits
all_same digits = grind (arith, common_steps, pairs_same 0 digits, odd_none digits)

one_is : (r : Option ℕ) (bytes : List ℕ) → byte_onto r (Some []) ≡ Some bytes → Some (slice_index_or bytes 0 0) ≡ r
one_is None bytes is = cc
one_is (Some b) bytes is = let same : b ∷ [] ≡ bytes = cc in ap (λ (bs : List ℕ). Some (slice_index_or bs 0 0)) (sym same)

none_is : (r : Option ℕ) → byte_onto r (Some []) ≡ None → None ≡ r
none_is None is = refl
none_is (Some b) is = cc

pub one_read : (high low : ℕ) (bytes : List ℕ) → decode_sized (high ∷ low ∷ []) 1 ≡ Ok bytes → Some (slice_index_or bytes 0 0) ≡ hex_pair high low
unfolding hex_of
one_read high low bytes is = one_is (hex_pair high low) bytes (sym (pairs_same 0 (high ∷ low ∷ [])) ∙ ap found is)

pub one_refused : (high low : ℕ) (e : FromHexError) → decode_sized (high ∷ low ∷ []) 1 ≡ Err e → None ≡ hex_pair high low
unfolding hex_of
one_refused high low e is = none_is (hex_pair high low) (sym (pairs_same 0 (high ∷ low ∷ [])) ∙ ap found is)

pub refused : (digits : List ℕ) (e : FromHexError) → (e ≡ OutOfMemory) ⊎ (decode_of digits ≡ Err e) → e ≢ OutOfMemory → None ≡ hex_of digits
refused digits e why other = ⊎_elim (λ memory. absurd (other memory)) (λ is. sym (ap found is) ∙ all_same digits) why
