-- Reading literals one after the other, as a loop does.
use Rattle.std.proofs.Common.{◌≡◌, ℕ, zero, suc, ◌+◌, ◌<◌, ◌≤◌, Bool, true, false, List, [], ◌∷◌, ◌++◌, length, take, drop, refl, sym, ◌∙◌, ap, arith, append_assoc, length-drop, Option, Some, None}
use Rattle.std.proofs.lemmas.List.{append-nil}
use Rattle.std.proofs.lemmas.Option.{cond_some}
use Rattle.std.specs.Prelude.{nat_eq, if◌then◌else◌}
use Rattle.std.specs.List.{prefix_len}
use Rattle.lt_schema.specs.declared.value.Value.{Value}
use Rattle.lt_schema.specs.declared.value.Value.TheVariants.{Text}
use Rattle.lt_lang.specs.Reading.{after, count_at, integer_at, unsigned_at}
use Rattle.lt_lang.specs.Tokens.{is_space, is_solid, is_ended, skipped, word_of, behind}
use Rattle.lt_lang.specs.Parsing.{beside, integer_of, word_value, quoted_at, text_by, text_beside, text_behind, utf8_of, literal_here, literal_at, value_onto, literals_by, literals_within, literals_at}
use Rattle.lt_lang.proofs.Pieces.{quoted_at-shorter}

no_value : word_value [] ≡ None
unfolding word_value after integer_of integer_at unsigned_at count_at
no_value = refl

pub nothing_here : literal_here [] ≡ None
unfolding literal_here word_of behind word_value after integer_of integer_at unsigned_at count_at
nothing_here = refl

skipped-short : (bytes : List ℕ) → length (skipped bytes) ≤ length bytes
unfolding skipped
skipped-short bytes = omega (arith, length-drop (prefix_len is_space bytes) bytes)

text_beside-rest : (rest : List ℕ) (r : Option (List ℕ)) (p : Value × List ℕ) → text_beside rest r ≡ Some p → p.1 ≡ rest
text_beside-rest rest None p e = cc
text_beside-rest rest (Some text) p e = let h = cond_some {A = Value × List ℕ} true (Text text, rest) p e in sym (ap (λ (q : Value × List ℕ). q.1) h.1)

text_ended : (t : Bool) (q : List ℕ × List ℕ) (p : Value × List ℕ) → (if t then text_beside q.1 (utf8_of q.0) else None) ≡ Some p → p.1 ≡ q.1
text_ended true q p e = text_beside-rest q.1 (utf8_of q.0) p e
text_ended false q p e = cc

text-short : (bytes : List ℕ) (r : Option (List ℕ × List ℕ)) (p : Value × List ℕ) → quoted_at bytes ≡ r → text_by r ≡ Some p → length p.1 < length bytes
text-short bytes None p eq e = cc
text-short bytes (Some q) p eq e =
    let same = text_ended (is_ended q.1) q p e in
    let less = quoted_at-shorter bytes q eq in
    omega (arith, ap length same)

text_behind-short : (bytes : List ℕ) (p : Value × List ℕ) → text_behind bytes ≡ Some p → length p.1 < length bytes
unfolding text_behind
text_behind-short bytes p e = text-short bytes (quoted_at bytes) p refl e

beside-rest : (rest : List ℕ) (r : Option Value) (p : Value × List ℕ) → beside rest r ≡ Some p → p.1 ≡ rest
beside-rest rest None p e = cc
beside-rest rest (Some x) p e = let h = cond_some {A = Value × List ℕ} true (x, rest) p e in sym (ap (λ (q : Value × List ℕ). q.1) h.1)

word_by : (t : Bool) (b : ℕ) (bs : List ℕ) (p : Value × List ℕ) → beside (drop (if t then 1 + prefix_len is_solid bs else 0) (b ∷ bs)) (word_value (take (if t then 1 + prefix_len is_solid bs else 0) (b ∷ bs))) ≡ Some p → length p.1 < length (b ∷ bs)
word_by false b bs p e = let none = ap (beside (b ∷ bs)) no_value in cc
word_by true b bs p e =
    let n = prefix_len is_solid bs in
    let same = beside-rest (drop (1 + n) (b ∷ bs)) (word_value (take (1 + n) (b ∷ bs))) p e in
    omega (arith, ap length same, length-drop (1 + n) (b ∷ bs))

word-short : (bytes : List ℕ) (p : Value × List ℕ) → beside (behind bytes) (word_value (word_of bytes)) ≡ Some p → length p.1 < length bytes
unfolding behind word_of
word-short [] p e = let none = ap (beside []) no_value in cc
word-short (b ∷ bs) p e = word_by (is_solid b) b bs p e

here_by : (t : Bool) (b : ℕ) (bs : List ℕ) (p : Value × List ℕ) → (if t then text_behind (drop 1 (b ∷ bs)) else beside (behind (b ∷ bs)) (word_value (word_of (b ∷ bs)))) ≡ Some p → length p.1 < length (b ∷ bs)
here_by true b bs p e = let less = text_behind-short (drop 1 (b ∷ bs)) p e in omega (arith, length-drop 1 (b ∷ bs))
here_by false b bs p e = word-short (b ∷ bs) p e

here-short : (bytes : List ℕ) (p : Value × List ℕ) → literal_here bytes ≡ Some p → length p.1 < length bytes
unfolding literal_here
here-short [] p e = word-short [] p e
here-short (b ∷ bs) p e = here_by (nat_eq b 34) b bs p e

pub literal_at-shorter : (bytes : List ℕ) (value : Value) (rest : List ℕ) → literal_at bytes ≡ Some (value, rest) → length rest < length bytes
unfolding literal_at
literal_at-shorter bytes value rest e = let less = here-short (skipped bytes) (value, rest) e in omega (arith, skipped-short bytes)

-- what was read before, and what is still read
abbrev pub values_onto : List Value → List Value × List ℕ → List Value × List ℕ
values_onto front p = (front ++ p.0, p.1)

pub record ValuesSoFar (values : List Value) (rest : List ℕ) (total : List Value × List ℕ) : Type 0 where
  pub left : ℕ
  pub enough : length rest ≤ left
  pub same : values_onto values (literals_within left rest) ≡ total

pub values-begin : (bytes : List ℕ) → ValuesSoFar [] bytes (literals_at bytes)
unfolding literals_at
values-begin bytes = record { left = length bytes; enough = omega arith; same = refl }

regroup : (front : List Value) (value : Value) (p : List Value × List ℕ) → values_onto front (value_onto value p) ≡ values_onto (front ++ value ∷ []) p
regroup front value p = ap (λ (l : List Value). (l, p.1)) (sym (append_assoc front (value ∷ []) p.0))

more_by : (left : ℕ) (values : List Value) (rest : List ℕ) (value : Value) (after : List ℕ) (total : List Value × List ℕ) → length rest ≤ left → values_onto values (literals_within left rest) ≡ total
    → literal_at rest ≡ Some (value, after) → length after < length rest → ValuesSoFar (values ++ value ∷ []) after total
unfolding literals_within
more_by zero values rest value after total enough same e less = absurd (omega arith)
more_by (suc n) values rest value after total enough same e less =
    let one : values_onto values (value_onto value (literals_within n after)) ≡ total = sym (ap (λ r. values_onto values (literals_by (literals_within n) r rest)) e) ∙ same in
    record { left = n; enough = omega arith; same = sym (regroup values value (literals_within n after)) ∙ one }

pub values-more : (values : List Value) (rest : List ℕ) (value : Value) (after : List ℕ) (total : List Value × List ℕ) → literal_at rest ≡ Some (value, after)
    → ValuesSoFar values rest total → ValuesSoFar (values ++ value ∷ []) after total
values-more values rest value after total e so_far =
    more_by so_far.left values rest value after total so_far.enough so_far.same e (literal_at-shorter rest value after e)

end_by : (left : ℕ) (values : List Value) (rest : List ℕ) (total : List Value × List ℕ) → values_onto values (literals_within left rest) ≡ total → literal_at rest ≡ None → values_onto values ([], rest) ≡ total
unfolding literals_within
end_by zero values rest total same e = same
end_by (suc n) values rest total same e = sym (ap (λ r. values_onto values (literals_by (literals_within n) r rest)) e) ∙ same

pub values-end : (values : List Value) (rest : List ℕ) (total : List Value × List ℕ) → literal_at rest ≡ None → ValuesSoFar values rest total → (values, rest) ≡ total
values-end values rest total e so_far =
    ap (λ (l : List Value). (l, rest)) (sym (append-nil values)) ∙ end_by so_far.left values rest total so_far.same e
