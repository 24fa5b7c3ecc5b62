-- What is read as a footer is spelled so, and what is spelled so is read.
use Rattle.std.proofs.Common.{◌≡◌, ℕ, ◌+◌, ◌-◌, ◌^◌, ◌<◌, Bool, true, eqb, ltb, leb, ◌&&◌, List, ◌++◌, Result, Ok, refl, sym, ap, subst, ◌∙◌, arith}
use Rattle.std.specs.Prelude.{nat_eq}
use Rattle.std.specs.Cmp.Lexicographic.{pointwise}
use Rattle.std.specs.Int.{w64, to_be_bytes}
use Rattle.std.proofs.lemmas.Bool.{ltb-true, leb-true, lt-ltb, le-leb, eqb-true, eq-eqb, and_parts, and_from}
use Rattle.lt_rec.specs.Reading.{◌>>=◌, number_at, asked, holds}
use Rattle.lt_rec.proofs.Reading.{IsBytes, bind_ok, ok_is, Takes, Takes-then, wide64, number_takes, number_again, asked_ok, asked_again, holds_ok}
use Rattle.lt_layout.specs.Spelling.{Totals, Parts, mark, footer_numbers, numbers, footer_spelled}
use Rattle.lt_layout.specs.Reading.{numbers_at, footer_at}
use Rattle.lt_layout.specs.Phases.{Lie}
use Rattle.lt_layout.proofs.Asked.{same_bytes, numbers_take, Short, numbers_again}

-- ---- a number with a test

pub record Number (bytes : List ℕ) (x : ℕ × List ℕ) : Type 0 where
  pub takes : Takes bytes (to_be_bytes w64 x.0) x.1
  pub small : x.0 < 2 ^ 64

pub asked_takes : (test : ℕ → Bool) (at place : ℕ) (bytes : List ℕ) (x : ℕ × List ℕ) → IsBytes bytes → asked test at (number_at w64 place bytes) ≡ Ok x → Number bytes x × (test x.0 ≡ true)
asked_takes test at place bytes x fits e =
    let a = asked_ok test at (number_at w64 place bytes) x e in
    let t = number_takes w64 (2 ^ 64) wide64 place bytes x fits a.0 in
    (record { takes = t.0; small = t.1 }, a.1)

pub number_asked : (test : ℕ → Bool) (at place n : ℕ) (rest : List ℕ) → n < 2 ^ 64 → test n ≡ true → asked test at (number_at w64 place (to_be_bytes w64 n ++ rest)) ≡ Ok (n, rest)
number_asked test at place n rest lt h = asked_again test at (number_at w64 place (to_be_bytes w64 n ++ rest)) (n, rest) (number_again w64 (2 ^ 64) wide64 place n rest lt) h

-- ---- the steps behind each field

abbrev is_index : ℕ → ℕ → Bool
is_index foot n = ltb 8 n && leb n foot

abbrev is_filter : ℕ → ℕ → ℕ → Bool
is_filter foot index n = ltb index n && leb n foot

abbrev made : (index blocks filter filter_len : ℕ) → Parts
made index blocks filter filter_len = record { index = index; blocks = blocks; filter = filter; filter_len = filter_len }

abbrev from_rest : (foot index blocks filter filter_len : ℕ) → List ℕ → Result Parts ℕ
from_rest foot index blocks filter filter_len rest = holds (pointwise nat_eq rest mark) (foot + 80) >>= λ _. Ok (made index blocks filter filter_len)

abbrev from_len : Totals → (foot index blocks filter : ℕ) → ℕ × List ℕ → Result Parts ℕ
from_len t foot index blocks filter x = numbers_at (footer_numbers t) (foot + 32) x.1 >>= from_rest foot index blocks filter x.0

abbrev from_filter : Totals → (foot index blocks : ℕ) → ℕ × List ℕ → Result Parts ℕ
from_filter t foot index blocks x = asked (nat_eq (foot - x.0)) (foot + 24) (number_at w64 (foot + 24) x.1) >>= from_len t foot index blocks x.0

abbrev from_blocks : Totals → (foot index : ℕ) → ℕ × List ℕ → Result Parts ℕ
from_blocks t foot index x = asked (is_filter foot index) (foot + 16) (number_at w64 (foot + 16) x.1) >>= from_filter t foot index x.0

abbrev from_index : Totals → (foot : ℕ) → ℕ × List ℕ → Result Parts ℕ
from_index t foot x = asked (λ n. ltb 0 n) (foot + 8) (number_at w64 (foot + 8) x.1) >>= from_blocks t foot x.0

-- ---- the first law

pub record FooterFound (t : Totals) (foot : ℕ) (bytes : List ℕ) (p : Parts) : Type 0 where
  pub spelled : bytes ≡ footer_spelled p t
  pub lie : Lie foot p

found_footer : (t : Totals) (foot : ℕ) (bytes : List ℕ) (a b c d : ℕ × List ℕ) (rest : List ℕ) → Takes bytes (to_be_bytes w64 a.0) a.1 → Takes a.1 (to_be_bytes w64 b.0) b.1 → Takes b.1 (to_be_bytes w64 c.0) c.1 → Takes c.1 (to_be_bytes w64 d.0) d.1 → Takes d.1 (numbers (footer_numbers t)) rest → rest ≡ mark
    → is_index foot a.0 ≡ true → ltb 0 b.0 ≡ true → is_filter foot a.0 c.0 ≡ true → eqb (foot - c.0) d.0 ≡ true → FooterFound t foot bytes (made a.0 b.0 c.0 d.0)
found_footer t foot bytes a b c d rest ta tb tc td tn m ha hb hc hd =
    let p3 = Takes-then c.1 (to_be_bytes w64 d.0) d.1 (numbers (footer_numbers t)) rest td tn in
    let p2 = Takes-then b.1 (to_be_bytes w64 c.0) c.1 (to_be_bytes w64 d.0 ++ numbers (footer_numbers t)) rest tc p3 in
    let p1 = Takes-then a.1 (to_be_bytes w64 b.0) b.1 (to_be_bytes w64 c.0 ++ (to_be_bytes w64 d.0 ++ numbers (footer_numbers t))) rest tb p2 in
    let p0 = Takes-then bytes (to_be_bytes w64 a.0) a.1 (to_be_bytes w64 b.0 ++ (to_be_bytes w64 c.0 ++ (to_be_bytes w64 d.0 ++ numbers (footer_numbers t)))) rest ta p1 in
    let ia = and_parts (ltb 8 a.0) (leb a.0 foot) ha in
    let ic = and_parts (ltb a.0 c.0) (leb c.0 foot) hc in
    record {
      spelled = p0.parts ∙ ap (λ (r : List ℕ). (to_be_bytes w64 a.0 ++ (to_be_bytes w64 b.0 ++ (to_be_bytes w64 c.0 ++ (to_be_bytes w64 d.0 ++ numbers (footer_numbers t))))) ++ r) m;
      lie = record {
        behind_header = ltb-true _ _ ia.0;
        index_within = leb-true _ _ ia.1;
        some = ltb-true _ _ hb;
        behind_index = ltb-true _ _ ic.0;
        filter_within = leb-true _ _ ic.1;
        filter_len = sym (eqb-true _ _ hd);
      };
    }

pub footer_takes : (t : Totals) (foot : ℕ) (bytes : List ℕ) (p : Parts) → IsBytes bytes → footer_at t foot bytes ≡ Ok p → FooterFound t foot bytes p
unfolding footer_at
footer_takes t foot bytes p fits e =
    let a = bind_ok (asked (is_index foot) foot (number_at w64 foot bytes)) (from_index t foot) p e in
    let b = bind_ok (asked (λ n. ltb 0 n) (foot + 8) (number_at w64 (foot + 8) a.0.1)) (from_blocks t foot a.0.0) p a.2 in
    let c = bind_ok (asked (is_filter foot a.0.0) (foot + 16) (number_at w64 (foot + 16) b.0.1)) (from_filter t foot a.0.0 b.0.0) p b.2 in
    let d = bind_ok (asked (nat_eq (foot - c.0.0)) (foot + 24) (number_at w64 (foot + 24) c.0.1)) (from_len t foot a.0.0 b.0.0 c.0.0) p c.2 in
    let n = bind_ok (numbers_at (footer_numbers t) (foot + 32) d.0.1) (from_rest foot a.0.0 b.0.0 c.0.0 d.0.0) p d.2 in
    let m = bind_ok (holds (pointwise nat_eq n.0 mark) (foot + 80)) (λ _. Ok (made a.0.0 b.0.0 c.0.0 d.0.0)) p n.2 in
    let ta = asked_takes (is_index foot) foot foot bytes a.0 fits a.1 in
    let tb = asked_takes (λ n. ltb 0 n) (foot + 8) (foot + 8) a.0.1 b.0 ta.0.takes.rest_fits b.1 in
    let tc = asked_takes (is_filter foot a.0.0) (foot + 16) (foot + 16) b.0.1 c.0 tb.0.takes.rest_fits c.1 in
    let td = asked_takes (nat_eq (foot - c.0.0)) (foot + 24) (foot + 24) c.0.1 d.0 tc.0.takes.rest_fits d.1 in
    let tn = numbers_take (footer_numbers t) (foot + 32) d.0.1 n.0 td.0.takes.rest_fits n.1 in
    let marked = same_bytes n.0 mark (holds_ok (pointwise nat_eq n.0 mark) (foot + 80) m.0 m.1) in
    subst (FooterFound t foot bytes) (ok_is (made a.0.0 b.0.0 c.0.0 d.0.0) p m.2)
    (found_footer t foot bytes a.0 b.0 c.0 d.0 n.0 ta.0.takes tb.0.takes tc.0.takes td.0.takes tn marked ta.1 tb.1 tc.1 td.1)

-- ---- the second law

pub footer_again : (t : Totals) (foot : ℕ) (p : Parts) → Lie foot p → foot < 2 ^ 64 → p.blocks < 2 ^ 64 → Short (footer_numbers t) → footer_at t foot (footer_spelled p t) ≡ Ok p
unfolding footer_at
footer_again t foot p lie small few short =
    let r4 : List ℕ = numbers (footer_numbers t) ++ mark in
    let r3 : List ℕ = to_be_bytes w64 p.filter_len ++ r4 in
    let r2 : List ℕ = to_be_bytes w64 p.filter ++ r3 in
    let r1 : List ℕ = to_be_bytes w64 p.blocks ++ r2 in
    let ti : is_index foot p.index ≡ true = and_from (ltb 8 p.index) (leb p.index foot) (lt-ltb _ _ lie.behind_header) (le-leb _ _ lie.index_within) in
    let tf : is_filter foot p.index p.filter ≡ true = and_from (ltb p.index p.filter) (leb p.filter foot) (lt-ltb _ _ lie.behind_index) (le-leb _ _ lie.filter_within) in
    let tl : eqb (foot - p.filter) p.filter_len ≡ true = eq-eqb _ _ (sym lie.filter_len) in
    ap (λ (q : Result (ℕ × List ℕ) ℕ). q >>= from_index t foot) (number_asked (is_index foot) foot foot p.index r1 (omega (arith, lie.index_within, small)) ti)
    ∙ (ap (λ (q : Result (ℕ × List ℕ) ℕ). q >>= from_blocks t foot p.index) (number_asked (λ n. ltb 0 n) (foot + 8) (foot + 8) p.blocks r2 few (lt-ltb _ _ lie.some))
    ∙ (ap (λ (q : Result (ℕ × List ℕ) ℕ). q >>= from_filter t foot p.index p.blocks) (number_asked (is_filter foot p.index) (foot + 16) (foot + 16) p.filter r3 (omega (arith, lie.filter_within, small)) tf)
    ∙ (ap (λ (q : Result (ℕ × List ℕ) ℕ). q >>= from_len t foot p.index p.blocks p.filter) (number_asked (nat_eq (foot - p.filter)) (foot + 24) (foot + 24) p.filter_len r4 (omega (arith, lie.filter_len, small)) tl)
    ∙ (ap (λ (q : Result (List ℕ) ℕ). q >>= from_rest foot p.index p.blocks p.filter p.filter_len) (numbers_again (footer_numbers t) (foot + 32) mark short)
    ∙ refl))))
