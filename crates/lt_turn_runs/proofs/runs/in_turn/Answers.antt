use Rattle.std.proofs.Common.{◌≡◌, ℕ, ◌+◌, List, [], ◌∷◌, ◌++◌, ap, ◌∙◌, arith}
use Rattle.std.specs.List.{sum}
use Rattle.lt_turn.specs.Lists.{of, sums}
use Rattle.lt_turn.specs.Seats.{seen, mine, ended, parts, number}
use Rattle.lt_turn.proofs.Sums.{closed_sum}
use Rattle.lt_turn_runs.proofs.runs.in_turn.Goals as goal

-- what is joined into a seat that had nothing in its account
one_ended : (all before after : List (ℕ × List ℕ)) (n : ℕ) (xs : List ℕ) → before ≡ [] → after ≡ [] → all ≡ before ++ (n, xs) ∷ after → sums (λ k. k) all ≡ sum xs
one_ended all before after n xs none nothing is =
    let e : all ≡ (n, xs) ∷ [] = is ∙ (ap (λ (l : List (ℕ × List ℕ)). l ++ (n, xs) ∷ after) none ∙ ap (λ (l : List (ℕ × List ℕ)). (n, xs) ∷ l) nothing) in
    let s : sums (λ k. k) all ≡ sum xs + 0 = ap (sums (λ k. k)) e in
    omega arith

pub returns : goal.returns
returns g c =
    let k = c.close-counter.ensures in
    let t = c.split-other.ensures in
    let one = c.side_by_side-seat.ensures.one in
    let two = c.side_by_side-seat.ensures.two in
    let j = c.join.ensures in
    let whole : parts c.join.new.seat ≡ g.B.Ledger.parts =
    omega (arith, j.parts, one.1.parts_same, two.1.parts_same, t.parts.0, t.parts.1, c.requires.whole.0) in
    let all = closed_sum (λ n. n) _ _ _ _ k whole in
    let opening : sum (of 0 (seen c.join.new.seat)) ≡ 0 =
    ap sum (j.opening ∙ (one.1.opening_same ∙ (ap (λ v. of 0 v.seen) t.same ∙ c.requires.fresh.0))) in
    let own_before : sum (mine c.split-other.new.seat) ≡ 0 = ap sum (ap (λ v. v.mine) t.same ∙ c.requires.fresh.1) in
    let own : sum (mine c.join.new.seat) ≡ sum (mine c.side_by_side-seat.result.0.0) = ap sum j.mine in
    let other_before : sum (mine c.split-other.result) ≡ 0 = ap sum t.alone.0 in
    let others : sums (λ n. n) (ended c.join.new.seat) ≡ sum (mine c.side_by_side-seat.result.1.0) =
    one_ended (ended c.join.new.seat) (ended c.side_by_side-seat.result.0.0) (ended c.side_by_side-seat.result.1.0) (number c.side_by_side-seat.result.1.0) (mine c.side_by_side-seat.result.1.0)
    (one.1.ended_same ∙ (ap (λ v. v.ended) t.same ∙ c.requires.fresh.2)) (two.1.ended_same ∙ t.alone.1) j.ended in
    let total = k.stood.total_is in
    let first = one.2 in
    let second = two.2 in
    omega (arith, all, opening, own_before, own, other_before, others, total, first, second)
