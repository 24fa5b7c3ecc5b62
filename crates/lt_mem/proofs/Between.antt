-- A place between the lower and the higher keys of rising records.
use Rattle.std.proofs.Common.{◌≡◌, ℕ, ◌+◌, ◌<◌, ◌≤◌, true, List, length, get_or, sym, ap, ◌∙◌, inl, inr, arith}
use Rattle.std.proofs.lemmas.List.{get_or_default}
use Rattle.std.proofs.lemmas.Bool.{cases_lt}
use Rattle.lt_rec.specs.Bytes.{is_less}
use Rattle.lt_rec.specs.Record.{Record}
use Rattle.lt_mem.specs.Rising.{IsRising}
use Rattle.lt_mem.proofs.Order.{less_trans}

module _ (xs : List Record) (rising : IsRising xs) (key : List ℕ) (mid : ℕ) (x : Record) (held : mid < length xs) (here : x ≡ get_or xs mid x) where
  at_mid : (d : Record) → get_or xs mid d ≡ x
  at_mid d = get_or_default xs mid d x held ∙ sym here

  pub all_before : is_less x.key key ≡ true → (k : ℕ) (d : Record) → k < mid + 1 → is_less (get_or xs k d).key key ≡ true
  all_before b k d h = elim (cases_lt k mid) [
    | inl low ↦ less_trans (get_or xs k d).key (get_or xs mid d).key key (rising k mid d low held) (ap (λ (y : Record). is_less y.key key) (at_mid d) ∙ b)
    | inr up ↦
        let same : k ≡ mid = omega arith in
        ap (λ j. is_less (get_or xs j d).key key) same ∙ ap (λ (y : Record). is_less y.key key) (at_mid d) ∙ b
  ]

  pub all_after : is_less key x.key ≡ true → (k : ℕ) (d : Record) → mid ≤ k → k < length xs → is_less key (get_or xs k d).key ≡ true
  all_after b k d h w = elim (cases_lt mid k) [
    | inl up ↦ less_trans key (get_or xs mid d).key (get_or xs k d).key (ap (λ (y : Record). is_less key y.key) (at_mid d) ∙ b) (rising mid k d up w)
    | inr low ↦
        let same : k ≡ mid = omega arith in
        ap (λ j. is_less key (get_or xs j d).key) same ∙ ap (λ (y : Record). is_less key y.key) (at_mid d) ∙ b
  ]
