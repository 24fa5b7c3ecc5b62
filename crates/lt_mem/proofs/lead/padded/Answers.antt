use Rattle.std.proofs.Common.{◌≡◌, ℕ, ◌+◌, ◌-◌, ◌++◌, List, drop, replicate, length, get_or, sym, ap, ◌∙◌, inl, inr, arith}
use Rattle.std.proofs.lemmas.List.{get_or-drop, get_or_past}
use Rattle.std.proofs.Math.ListN.{get_or-append, get_or-replicate, length-replicate}
use Rattle.std.proofs.Math.Seq.{get_or-append_right}
use Rattle.std.proofs.lemmas.Bool.{cases_lt}
use Rattle.lt_mem.proofs.lead.padded.Goals as goal

zero_at : (n k z : ℕ) → get_or (replicate n z) k z ≡ z
zero_at n k z = elim (cases_lt k n) [
  | inl held ↦ get_or-replicate n k z z held
  | inr past ↦ let long = length-replicate n z in get_or_past (replicate n z) k z (omega arith)
]

with_zeros : (key : List ℕ) (n i z : ℕ) → get_or (key ++ drop (length key) (replicate n z)) i z ≡ get_or key i z
with_zeros key n i z =
    let back = drop (length key) (replicate n z) in
    elim (cases_lt i (length key)) [
      | inl held ↦ get_or-append key back z i held
      | inr past ↦
          get_or-append_right key back i z past ∙ get_or-drop (length key) (replicate n z) (i - length key) z
          ∙ zero_at n (length key + (i - length key)) z ∙ sym (get_or_past key i z past)
    ]

pub returns : goal.returns
returns c i =
    ap (λ front. get_or (front ++ c.split_at_mut-front.result.1.now) i 0) c.copy_from_slice.ensures.after
    ∙ ap (λ back. get_or (c.args.key.now ++ back) i 0) c.split_at_mut-front.ensures.back
    ∙ with_zeros c.args.key.now 16 i 0
