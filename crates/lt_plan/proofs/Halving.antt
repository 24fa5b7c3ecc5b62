-- Where no run may begin, each tablet of one home has more than twice the bytes of the next.
use Rattle.std.proofs.Common.{◌≡◌, ℕ, zero, suc, ◌+◌, ◌-◌, ◌*◌, ◌^◌, ◌≤◌, List, [], ◌∷◌, length, take, drop, All, ap, subst, inl, inr, arith}
use Rattle.std.proofs.lemmas.Bool.{cases_lt}
use Rattle.std.proofs.lemmas.List.{drop-drop, length-drop, length-take-le}
use Rattle.std.proofs.lemmas.List.Elements.{All-head, All-tail}
use Rattle.std.proofs.Math.Nat.{pow-succ'}
use Rattle.lt_plan.proofs.Pairs.{bytes_of-cons}
use Rattle.lt_rec.specs.Periods.{Stretch}
use Rattle.lt_plan.specs.declared.tablets.Weigh.{Weigh}
use Rattle.lt_plan.specs.Merging.{BeginsARun, HasNoRun, IsAtHome, MayBegin, GoTogether, bytes_of, first_bytes, most_bytes}

-- a run that begins in a front of the list begins in the list
begins_in_front : (now : ℕ) (n : ℕ) (ws : List Weigh) → BeginsARun now (take n ws) → BeginsARun now ws
begins_in_front now zero ws m = absurd m
begins_in_front now (suc n) [] m = m
begins_in_front now (suc zero) (a ∷ ws) m = absurd m
begins_in_front now (suc (suc n)) (a ∷ []) m = m
begins_in_front now (suc (suc n)) (a ∷ (b ∷ ws)) m = m

begins_behind : (now : ℕ) (k n : ℕ) (ws : List Weigh) → BeginsARun now (drop k (take n ws)) → BeginsARun now (drop k ws)
begins_behind now zero n ws m = begins_in_front now n ws m
begins_behind now (suc k) zero ws m = absurd m
begins_behind now (suc k) (suc n) [] m = m
begins_behind now (suc k) (suc n) (w ∷ ws) m = begins_behind now k n ws m

pub none_between : (now : ℕ) (list : List Weigh) → HasNoRun now list → (i n : ℕ) → HasNoRun now (take n (drop i list))
none_between now list none i n k m = none (i + k) (subst (λ (ws : List Weigh). BeginsARun now ws) (drop-drop k i list) (begins_behind now k n (drop i list) m))

twice : (a b : Weigh) (now : ℕ) (home : Stretch) (ws : List Weigh) → ¬ MayBegin now a b → All (IsAtHome now home) (a ∷ (b ∷ ws)) → bytes_of (a ∷ (b ∷ ws)) ≤ most_bytes → 2 * b.bytes + 1 ≤ a.bytes
twice a b now home ws none at_home within = elim (cases_lt (2 * b.bytes) a.bytes) [
  | inl h ↦ omega arith
  | inr h ↦ absurd (none (record {
    home = home;
    first_at_home = All-head (IsAtHome now home) a (b ∷ ws) at_home;
    second_at_home = All-head (IsAtHome now home) b ws (All-tail (IsAtHome now home) a (b ∷ ws) at_home);
    halved = h;
    within = (let first = bytes_of-cons a (b ∷ ws) in let second = bytes_of-cons b ws in omega arith);
  }))
]

halving : (now : ℕ) (home : Stretch) (w : Weigh) (ws : List Weigh) → HasNoRun now (w ∷ ws) → All (IsAtHome now home) (w ∷ ws) → All (λ v. 1 ≤ v.bytes) (w ∷ ws) → bytes_of (w ∷ ws) ≤ most_bytes → 2 ^ length (w ∷ ws) ≤ w.bytes + 1
halving now home w [] none at_home some within = let h = All-head (λ (v : Weigh). 1 ≤ v.bytes) w [] some in omega arith
halving now home w (v ∷ vs) none at_home some within =
    let all = bytes_of-cons w (v ∷ vs) in
    let rest = halving now home v vs (λ k. none (suc k)) (All-tail (IsAtHome now home) w (v ∷ vs) at_home) (All-tail (λ (u : Weigh). 1 ≤ u.bytes) w (v ∷ vs) some) (omega arith) in
    let more = twice w v now home vs (none 0) at_home within in
    let double : 2 ^ length (w ∷ (v ∷ vs)) ≡ 2 * 2 ^ length (v ∷ vs) = pow-succ' 2 (length (v ∷ vs)) in
    omega arith

from_first : (now : ℕ) (ws : List Weigh) (n : ℕ) → 1 ≤ n → n ≤ length ws → HasNoRun now (take n ws) → GoTogether now (take n ws) → 2 ^ n - 1 ≤ first_bytes ws
from_first now ws zero some within none together = absurd (omega arith)
from_first now [] (suc n) some within none together = absurd (omega arith)
from_first now (w ∷ ws) (suc n) some within none together =
    let long = length-take-le n ws (omega arith) in
    let whole = halving now together.home w (take n ws) none together.at_home together.none_empty together.within in
    let same : 2 ^ length (w ∷ take n ws) ≡ 2 ^ suc n = ap (λ k. 2 ^ suc k) long in
    omega arith

pub unmerged : (now : ℕ) (list : List Weigh) → HasNoRun now list → (i n : ℕ) → 1 ≤ n → i + n ≤ length list → GoTogether now (take n (drop i list)) → 2 ^ n - 1 ≤ first_bytes (drop i list)
unmerged now list none i n some within together =
    let rest = length-drop i list in
    from_first now (drop i list) n some (omega arith) (none_between now list none i n) together
