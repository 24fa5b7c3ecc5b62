-- Reading a text byte by byte, as a loop does.
use Rattle.std.proofs.Common.{◌≡◌, ℕ, zero, suc, ◌<◌, ◌≤◌, List, [], ◌∷◌, ◌++◌, length, refl, sym, ◌∙◌, ap, arith, append_assoc, Option, Some, None}
use Rattle.std.proofs.lemmas.List.{append-nil}
use Rattle.lt_lang.specs.Parsing.{piece_at, closed_at, onto, quoted_by, quoted_within, quoted_at}
use Rattle.lt_lang.proofs.Pieces.{piece_at-shorter}

-- what was read before, and what is still read
abbrev pub text_onto : List ℕ → Option (List ℕ × List ℕ) → Option (List ℕ × List ℕ)
text_onto front None = None
text_onto front (Some p) = Some (front ++ p.0, p.1)

-- so many bytes are enough for what is left
pub record TextSoFar (text rest : List ℕ) (total : Option (List ℕ × List ℕ)) : Type 0 where
  pub left : ℕ
  pub enough : length rest ≤ left
  pub same : text_onto text (quoted_within left rest) ≡ total

nothing_before : (r : Option (List ℕ × List ℕ)) → text_onto [] r ≡ r
nothing_before None = refl
nothing_before (Some p) = refl

pub text-begin : (bytes : List ℕ) → TextSoFar [] bytes (quoted_at bytes)
unfolding quoted_at
text-begin bytes = record { left = length bytes; enough = omega arith; same = nothing_before (quoted_within (length bytes) bytes) }

regroup : (front : List ℕ) (b : ℕ) (r : Option (List ℕ × List ℕ)) → text_onto front (onto b r) ≡ text_onto (front ++ b ∷ []) r
regroup front b None = refl
regroup front b (Some p) = ap (λ (l : List ℕ). Some (l, p.1)) (sym (append_assoc front (b ∷ []) p.0))

more_by : (left : ℕ) (text rest : List ℕ) (b : ℕ) (after : List ℕ) (total : Option (List ℕ × List ℕ)) → length rest ≤ left → text_onto text (quoted_within left rest) ≡ total
    → piece_at rest ≡ Some (b, after) → length after < length rest → TextSoFar (text ++ b ∷ []) after total
unfolding quoted_within
more_by zero text rest b after total enough same e less = absurd (omega arith)
more_by (suc n) text rest b after total enough same e less =
    let one : text_onto text (onto b (quoted_within n after)) ≡ total = sym (ap (λ r. text_onto text (quoted_by (quoted_within n) r rest)) e) ∙ same in
    record { left = n; enough = omega arith; same = sym (regroup text b (quoted_within n after)) ∙ one }

pub text-more : (text rest : List ℕ) (b : ℕ) (after : List ℕ) (total : Option (List ℕ × List ℕ)) → piece_at rest ≡ Some (b, after) → TextSoFar text rest total → TextSoFar (text ++ b ∷ []) after total
text-more text rest b after total e so_far = more_by so_far.left text rest b after total so_far.enough so_far.same e (piece_at-shorter rest b after e)

end_by : (left : ℕ) (text rest : List ℕ) (total : Option (List ℕ × List ℕ)) → text_onto text (quoted_within left rest) ≡ total → piece_at rest ≡ None → text_onto text (closed_at rest) ≡ total
unfolding quoted_within
end_by zero text rest total same e = same
end_by (suc n) text rest total same e = sym (ap (λ r. text_onto text (quoted_by (quoted_within n) r rest)) e) ∙ same

pub text-end_some : (text rest behind : List ℕ) (total : Option (List ℕ × List ℕ)) → piece_at rest ≡ None → closed_at rest ≡ Some ([], behind) → TextSoFar text rest total → total ≡ Some (text, behind)
text-end_some text rest behind total e closed so_far =
    sym (end_by so_far.left text rest total so_far.same e) ∙ ap (text_onto text) closed ∙ ap (λ (l : List ℕ). Some (l, behind)) (append-nil text)

pub text-end_none : (text rest : List ℕ) (total : Option (List ℕ × List ℕ)) → piece_at rest ≡ None → closed_at rest ≡ None → TextSoFar text rest total → total ≡ None
text-end_none text rest total e closed so_far = sym (end_by so_far.left text rest total so_far.same e) ∙ ap (text_onto text) closed
