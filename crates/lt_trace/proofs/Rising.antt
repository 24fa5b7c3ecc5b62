-- Rising lists of rows: there is one, and no second one with the same rows.
use Rattle.std.proofs.Common.{◌≡◌, ◌⊎◌, ◌↔◌, List, [], ◌∷◌, Contains, refl, sym, ◌∙◌, ap, subst, inl, inr, ⊎_elim, arith}
use Rattle.std.specs.Ordering.{ordering_reverse}
use Rattle.std.specs.declared.cmp.Ordering.{Ordering}
use Rattle.std.specs.declared.cmp.Ordering.TheVariants.{Less, Equal, Greater}
use Rattle.std.proofs.lemmas.Bool.{cases_lt}
use Rattle.lt_schema.specs.Shapes.{SchemaShape}
use Rattle.lt_schema.specs.Values.{key_cmp}
use Rattle.lt_schema.specs.Check.{key_of}
use Rattle.lt_model.specs.History.{Numbered}
use Rattle.lt_model.specs.Legal.{ComesBefore, AreRising}
use Rattle.lt_model.proofs.Orders.{key_cmp_total, key_cmp_exact}
use Rattle.lt_model.proofs.Verdicts.{AllByRecursion-contains, Contains-cons_cases}
use Rattle.lt_trace.specs.Laws.{RowsCanRise, RisingIsOne}
use Rattle.lt_trace.proofs.Lists.{first_in, later_in, all_from}

-- which of two rows comes first, if they aren't the same by number and key
data Ranked (schema : SchemaShape) (a b : Numbered) : Type 0 where
  before : ComesBefore schema a b → Ranked schema a b
  level : key_of schema a.row ≡ key_of schema b.row → Ranked schema a b
  after : ComesBefore schema b a → Ranked schema a b

ranked_by : (schema : SchemaShape) (a b : Numbered) (o : Ordering) → a.seq ≡ b.seq → key_cmp (key_of schema a.row) (key_of schema b.row) ≡ o → Ranked schema a b
ranked_by schema a b Less seq is = before (inr (seq, is))
ranked_by schema a b Equal seq is = level (key_cmp_exact (key_of schema a.row) (key_of schema b.row) is)
ranked_by schema a b Greater seq is = after (inr (sym seq, key_cmp_total.antisymm (key_of schema b.row) (key_of schema a.row) ∙ ap ordering_reverse is))

rank : (schema : SchemaShape) (a b : Numbered) → Ranked schema a b
rank schema a b = ⊎_elim
    (λ low. before (inl low))
    (λ up. ⊎_elim (λ high. after (inl high)) (λ even. ranked_by schema a b (key_cmp (key_of schema a.row) (key_of schema b.row)) (omega (arith, up, even)) refl) (cases_lt b.seq a.seq))
    (cases_lt a.seq b.seq)

before_all : (schema : SchemaShape) (a b c : Numbered) → ComesBefore schema a b → ComesBefore schema b c → ComesBefore schema a c
before_all schema a b c (inl x) (inl y) = inl (omega (arith, x, y))
before_all schema a b c (inl x) (inr y) = inl (omega (arith, x, y.0))
before_all schema a b c (inr x) (inl y) = inl (omega (arith, x.0, y))
before_all schema a b c (inr x) (inr y) = inr (x.0 ∙ y.0, key_cmp_total.trans (key_of schema a.row) (key_of schema b.row) (key_of schema c.row) x.1 y.1)

pub never_both : (schema : SchemaShape) (a b : Numbered) → ComesBefore schema a b → ComesBefore schema b a → ⊥
never_both schema a b (inl x) (inl y) = omega (arith, x, y)
never_both schema a b (inl x) (inr y) = omega (arith, x, y.0)
never_both schema a b (inr x) (inl y) = omega (arith, x.0, y)
never_both schema a b (inr x) (inr y) =
    let turned : key_cmp (key_of schema a.row) (key_of schema b.row) ≡ Greater = key_cmp_total.antisymm (key_of schema a.row) (key_of schema b.row) ∙ ap ordering_reverse y.1 in
    let clash : Less ≡ Greater = sym x.1 ∙ turned in cc

-- a row is put into a rising list, unless it is there
record Put (schema : SchemaShape) (x : Numbered) (ys : List Numbered) : Type 0 where
  list : List Numbered
  rising : AreRising schema list
  each : (y : Numbered) → Contains list y ↔ ((x ≡ y) ⊎ Contains ys y)

put_ranked : (schema : SchemaShape) (x y : Numbered) (ys : List Numbered) → AreRising schema (y ∷ ys) → (key_of schema x.row ≡ key_of schema y.row → x ≡ y) → Put schema x ys → Ranked schema x y → Put schema x (y ∷ ys)
put_ranked schema x y ys rising agree rest (before first) = record {
  list = x ∷ y ∷ ys;
  rising = ((first, all_from (ComesBefore schema x) ys (λ z among. before_all schema x y z first (AllByRecursion-contains (ComesBefore schema y) ys z rising.0 among))), rising);
  each = λ z. (
    (λ among. Contains-cons_cases x (y ∷ ys) z among),
    (λ either. ⊎_elim (λ is. subst (Contains (x ∷ y ∷ ys)) is (first_in x (y ∷ ys))) (λ among. later_in x (y ∷ ys) z among) either),
  );
}
put_ranked schema x y ys rising agree rest (level key) = record {
  list = y ∷ ys;
  rising = rising;
  each = λ z. ((λ among. inr among), (λ either. ⊎_elim (λ is. subst (Contains (y ∷ ys)) (sym (agree key) ∙ is) (first_in y ys)) (λ among. among) either));
}
put_ranked schema x y ys rising agree rest (after later) = record {
  list = y ∷ rest.list;
  rising = (all_from (ComesBefore schema y) rest.list (λ z among. ⊎_elim (λ is. subst (ComesBefore schema y) is later) (λ was. AllByRecursion-contains (ComesBefore schema y) ys z rising.0 was) ((rest.each z).0 among)), rest.rising);
  each = λ z. (
    (λ among. ⊎_elim (λ is. inr (subst (Contains (y ∷ ys)) is (first_in y ys))) (λ more. ⊎_elim (λ is. inl is) (λ was. inr (later_in y ys z was)) ((rest.each z).0 more)) (Contains-cons_cases y rest.list z among)),
    (λ either. ⊎_elim
        (λ is. later_in y rest.list z ((rest.each z).1 (inl is)))
        (λ among. ⊎_elim (λ is. subst (Contains (y ∷ rest.list)) is (first_in y rest.list)) (λ was. later_in y rest.list z ((rest.each z).1 (inr was))) (Contains-cons_cases y ys z among))
        either),
  );
}

put : (schema : SchemaShape) (x : Numbered) (ys : List Numbered) → AreRising schema ys → ((y : Numbered) → Contains ys y → key_of schema x.row ≡ key_of schema y.row → x ≡ y) → Put schema x ys
put schema x [] rising agree = record {
  list = x ∷ [];
  rising = (tt, tt);
  each = λ y. ((λ among. Contains-cons_cases x [] y among), (λ either. ⊎_elim (λ is. subst (Contains (x ∷ [])) is (first_in x [])) (λ among. later_in x [] y among) either));
}
put schema x (y ∷ ys) rising agree = put_ranked schema x y ys rising (agree y (first_in y ys)) (put schema x ys rising.1 (λ z among. agree z (later_in y ys z among))) (rank schema x y)

pub rows_can_rise : RowsCanRise
rows_can_rise schema [] agree = ([], tt, λ x. ((λ among. among), (λ among. among)))
rows_can_rise schema (x ∷ xs) agree =
    let rest : (ys : List Numbered) × AreRising schema ys × ((y : Numbered) → Contains ys y ↔ Contains xs y) = rows_can_rise schema xs (λ a b in_a in_b. agree a b (later_in x xs a in_a) (later_in x xs b in_b)) in
    let p : Put schema x rest.0 = put schema x rest.0 rest.1 (λ y among. agree x y (first_in x xs) (later_in x xs y ((rest.2 y).0 among))) in (
      p.list,
      p.rising,
      λ y. (
        (λ among. ⊎_elim (λ is. subst (Contains (x ∷ xs)) is (first_in x xs)) (λ more. later_in x xs y ((rest.2 y).0 more)) ((p.each y).0 among)),
        (λ among. (p.each y).1 (⊎_elim (λ is. inl is) (λ more. inr ((rest.2 y).1 more)) (Contains-cons_cases x xs y among))),
      ),
    )

-- ---- no second one

firsts : (schema : SchemaShape) (x y : Numbered) (xs ys : List Numbered) → AreRising schema (x ∷ xs) → AreRising schema (y ∷ ys) → ((z : Numbered) → Contains (x ∷ xs) z ↔ Contains (y ∷ ys) z) → x ≡ y
firsts schema x y xs ys rising also both = ⊎_elim
    (λ is. sym is)
    (λ late. ⊎_elim
    (λ is. is)
    (λ later. absurd (never_both schema x y (AllByRecursion-contains (ComesBefore schema x) xs y rising.0 later) (AllByRecursion-contains (ComesBefore schema y) ys x also.0 late)))
    (Contains-cons_cases x xs y ((both y).1 (first_in y ys))))
    (Contains-cons_cases y ys x ((both x).0 (first_in x xs)))

rest_of : (schema : SchemaShape) (x y : Numbered) (xs ys : List Numbered) → AreRising schema (x ∷ xs) → x ≡ y → ((z : Numbered) → Contains (x ∷ xs) z → Contains (y ∷ ys) z) → (z : Numbered) → Contains xs z → Contains ys z
rest_of schema x y xs ys rising same over z among = ⊎_elim
    (λ is. let own : ComesBefore schema x x = subst (ComesBefore schema x) (sym is ∙ sym same) (AllByRecursion-contains (ComesBefore schema x) xs z rising.0 among) in absurd (never_both schema x x own own))
    (λ more. more)
    (Contains-cons_cases y ys z (over z (later_in x xs z among)))

pub rising_is_one : RisingIsOne
rising_is_one schema [] [] rising also both = refl
rising_is_one schema [] (y ∷ ys) rising also both = let none = (both y).1 (first_in y ys) in absurd (omega (arith, none.1))
rising_is_one schema (x ∷ xs) [] rising also both = let none = (both x).0 (first_in x xs) in absurd (omega (arith, none.1))
rising_is_one schema (x ∷ xs) (y ∷ ys) rising also both =
    let same : x ≡ y = firsts schema x y xs ys rising also both in
    let rest : xs ≡ ys = rising_is_one schema xs ys rising.1 also.1 (λ z. (rest_of schema x y xs ys rising same (λ w. (both w).0) z, rest_of schema y x ys xs also (sym same) (λ w. (both w).1) z)) in
    λ i. same i ∷ rest i
