-- A list that grows up to a limit.
use Rattle.std.proofs.Common.{◌≡◌, ℕ, ◌+◌, ◌-◌, List, [], ◌++◌, length, take, sym, ap, ◌∙◌, inl, inr, arith, append_assoc, append-nil, length-append}
use Rattle.std.proofs.lemmas.List.{take_all, take-append-le}
use Rattle.std.proofs.Math.Seq.{take-append-add}
use Rattle.std.proofs.lemmas.Bool.{cases_lt}
use Rattle.lt_rec.specs.Record.{Record}
use Rattle.lt_mem.specs.Growth.{ListInGrowth, grown}

take_rest : (n : ℕ) (xs ys : List Record) → take n xs ++ take (n - length xs) ys ≡ take n (xs ++ ys)
take_rest n xs ys = elim (cases_lt (length xs) n) [
  | inl more ↦
      let e : length xs + (n - length xs) ≡ n = omega arith in
      ap (λ zs. zs ++ take (n - length xs) ys) (take_all n xs (omega arith)) ∙ sym (take-append-add xs ys (n - length xs)) ∙ ap (λ k. take k (xs ++ ys)) e
  | inr less ↦
      let e : n - length xs ≡ 0 = omega arith in
      ap (λ k. take n xs ++ take k ys) e ∙ append-nil (take n xs) ∙ sym (take-append-le n xs ys less)
]

pub grown_more : (g : ListInGrowth) (xs ys : List Record) → grown (grown g xs) ys ≡ grown g (xs ++ ys)
grown_more g xs ys = λ i. record { list = lists i; left = lefts i }
  where
    lists : (g.list ++ take g.left xs) ++ take (g.left - length xs) ys ≡ g.list ++ take g.left (xs ++ ys)
    lists = append_assoc g.list (take g.left xs) (take (g.left - length xs) ys) ∙ ap (λ zs. g.list ++ zs) (take_rest g.left xs ys)

    lefts : (g.left - length xs) - length ys ≡ g.left - length (xs ++ ys)
    lefts = let long = length-append xs ys in omega arith

-- with no records, and with no room left
pub grown_by_none : (g : ListInGrowth) → grown g [] ≡ g
grown_by_none g = λ i. record { list = lists i; left = lefts i }
  where
    lists : g.list ++ take g.left [] ≡ g.list
    lists = ap (λ zs. g.list ++ zs) (take_all g.left [] (omega arith)) ∙ append-nil g.list

    lefts : g.left - 0 ≡ g.left
    lefts = omega arith

pub grown_full : (g : ListInGrowth) (xs : List Record) → g.left ≡ 0 → grown g xs ≡ g
grown_full g xs e = λ i. record { list = lists i; left = lefts i }
  where
    lists : g.list ++ take g.left xs ≡ g.list
    lists = ap (λ k. g.list ++ take k xs) e ∙ append-nil g.list

    lefts : g.left - length xs ≡ g.left
    lefts = omega arith

-- what a step adds
pub grown_step : (g old new : ListInGrowth) (was more now : List Record) → old ≡ grown g was → new ≡ grown old more → now ≡ was ++ more → new ≡ grown g now
grown_step g old new was more now e f h = f ∙ ap (λ o. grown o more) e ∙ grown_more g was more ∙ ap (grown g) (sym h)

-- the first of the records that are read, once there is no room for others
pub grown_whole : (g full : ListInGrowth) (was rest whole : List Record) → full ≡ grown g was → full.left ≡ 0 → whole ≡ was ++ rest → full ≡ grown g whole
grown_whole g full was rest whole e z h = grown_step g full full was rest whole e (sym (grown_full full rest z)) h
