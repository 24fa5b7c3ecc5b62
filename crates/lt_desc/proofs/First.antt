-- The first fields: what is read is so spelled, and what is so spelled is read.
use Rattle.std.proofs.Common.{◌≡◌, ℕ, ◌-◌, ◌^◌, ◌<◌, ◌≤◌, Bool, true, false, cond, eqb, leb, List, [], ◌∷◌, ◌++◌, Result, Ok, refl, sym, ap, subst, ◌∙◌, append_assoc, arith}
use Rattle.std.specs.Prelude.{Option, Some, None, IfSome, nat_eq}
use Rattle.std.specs.Int.{w64, to_be_bytes}
use Rattle.std.specs.Cmp.Lexicographic.{pointwise}
use Rattle.std.proofs.lemmas.Bool.{eqb-true, eq-eqb, and_parts, and_from, leb-true, le-leb}
use Rattle.std.proofs.lemmas.Bool.Decides.{nat_tests}
use Rattle.lt_desc.specs.declared.head.Head.{Head}
use Rattle.lt_desc.specs.Spelling.{mark, ttl_spelled, head_spelled}
use Rattle.lt_rec.specs.Reading.{◌>>=◌, place, asked, bytes_at, is_within}
use Rattle.lt_desc.specs.Reading.{byte_from, number_where, mark_at, some_at, ttl_at, head_at}
use Rattle.lt_rec.proofs.Reading.{IsBytes, bind_ok, ok_is, asked_ok, asked_again, Takes, Takes-then, Takes-as, byte_takes, bytes_take, bytes_again}
use Rattle.lt_desc.proofs.Taken.{where64, again_where64}

pub within_parts : (least most n : ℕ) → is_within least most n ≡ true → (least ≤ n) × (n ≤ most)
within_parts least most n e =
    let b = and_parts (leb least n) (leb n most) e in
    (leb-true least n b.0, leb-true n most b.1)

pub within_from : (least most n : ℕ) → least ≤ n → n ≤ most → is_within least most n ≡ true
within_from least most n low high = and_from (leb least n) (leb n most) (le-leb least n low) (le-leb n most high)

-- ---- equal bytes

pub same_bytes : (xs ys : List ℕ) → pointwise nat_eq xs ys ≡ true → xs ≡ ys
same_bytes [] [] e = refl
same_bytes [] (y ∷ ys) e = absurd cc
same_bytes (x ∷ xs) [] e = absurd cc
same_bytes (x ∷ xs) (y ∷ ys) e =
    let b = and_parts (nat_eq x y) (pointwise nat_eq xs ys) e in
    let h : x ≡ y = eqb-true x y b.0 in
    ap (λ (z : ℕ). z ∷ xs) h ∙ ap (λ (zs : List ℕ). y ∷ zs) (same_bytes xs ys b.1)

pub bytes_same : (xs : List ℕ) → pointwise nat_eq xs xs ≡ true
bytes_same [] = refl
bytes_same (x ∷ xs) = and_from (nat_eq x x) (pointwise nat_eq xs xs) (eq-eqb x x refl) (bytes_same xs)

mark_takes : (total : ℕ) (bytes : List ℕ) (x : List ℕ × List ℕ) → IsBytes bytes → mark_at total bytes ≡ Ok x → Takes bytes mark x.1
unfolding mark_at
mark_takes total bytes x fits e =
    let g = asked_ok (pointwise nat_eq mark) (place total bytes) (bytes_at 8 (place total bytes) bytes) x e in
    let t = bytes_take 8 (place total bytes) bytes x fits g.0 in
    Takes-as bytes x.0 mark x.1 (sym (same_bytes mark x.0 g.1)) t.0

-- ---- the time to live

abbrev pub IsTtl : ℕ → Type 0
IsTtl ttl = (1 ≤ ttl) × (ttl < 2 ^ 62)

abbrev TtlText : List ℕ → Option ℕ × List ℕ → Type 0
TtlText bytes x = Takes bytes (ttl_spelled x.0) x.1 × IfSome x.0 IsTtl

abbrev some_ttl : ℕ → List ℕ → Result (Option ℕ × List ℕ) ℕ
some_ttl total bytes = number_where w64 (is_within 1 (2 ^ 62 - 1)) total bytes >>= some_at

abbrev after_flag : ℕ → ℕ × List ℕ → Result (Option ℕ × List ℕ) ℕ
after_flag total flag = cond (eqb flag.0 0) (Ok (None, flag.1)) (some_ttl total flag.1)

ttl_by : (total : ℕ) (b : Bool) (bytes : List ℕ) (flag : ℕ × List ℕ) (x : Option ℕ × List ℕ) → eqb flag.0 0 ≡ b → is_within 0 1 flag.0 ≡ true → Takes bytes (flag.0 ∷ []) flag.1 → cond b (Ok (None, flag.1)) (some_ttl total flag.1) ≡ Ok x → TtlText bytes x
unfolding ttl_spelled
ttl_by total true bytes flag x z w t e =
    let zero : flag.0 ≡ 0 = eqb-true flag.0 0 z in
    subst (TtlText bytes) (ok_is (None, flag.1) x e) (Takes-as bytes (flag.0 ∷ []) (0 ∷ []) flag.1 (ap (λ (n : ℕ). n ∷ []) zero) t, tt)
ttl_by total false bytes flag x z w t e =
    let one : flag.0 ≡ 1 = grind (arith, nat_tests) in
    let a = bind_ok (number_where w64 (is_within 1 (2 ^ 62 - 1)) total flag.1) some_at x e in
    let n = where64 (is_within 1 (2 ^ 62 - 1)) total flag.1 a.0 t.rest_fits a.1 in
    let within = within_parts 1 (2 ^ 62 - 1) a.0.0 n.passes in
    subst (TtlText bytes) (ok_is (Some a.0.0, a.0.1) x a.2)
    (Takes-then bytes (1 ∷ []) flag.1 (to_be_bytes w64 a.0.0) a.0.1 (Takes-as bytes (flag.0 ∷ []) (1 ∷ []) flag.1 (ap (λ (n : ℕ). n ∷ []) one) t) n.takes, (within.0, omega (arith, within.1)))

ttl_takes : (total : ℕ) (bytes : List ℕ) (x : Option ℕ × List ℕ) → IsBytes bytes → ttl_at total bytes ≡ Ok x → TtlText bytes x
unfolding ttl_at
ttl_takes total bytes x fits e =
    let a = bind_ok (asked (is_within 0 1) (place total bytes) (byte_from total bytes)) (after_flag total) x e in
    let g = asked_ok (is_within 0 1) (place total bytes) (byte_from total bytes) a.0 a.1 in
    ttl_by total (eqb a.0.0 0) bytes a.0 x refl g.1 (byte_takes (place total bytes) bytes a.0 fits g.0) a.2

ttl_again : (total : ℕ) (ttl : Option ℕ) (rest : List ℕ) → IfSome ttl IsTtl → ttl_at total (ttl_spelled ttl ++ rest) ≡ Ok (ttl, rest)
unfolding ttl_at ttl_spelled
ttl_again total None rest is = refl
ttl_again total (Some ttl) rest is =
    ap (λ (q : Result (ℕ × List ℕ) ℕ). q >>= some_at) (again_where64 (is_within 1 (2 ^ 62 - 1)) total ttl rest (omega (arith, is.1)) (within_from 1 (2 ^ 62 - 1) ttl is.0 (omega (arith, is.1))))

-- ---- all of them

pub record IsHead (h : Head) : Type 0 where
  pub kept : h.kept ≤ 2 ^ 62
  pub low : h.low < 2 ^ 62
  pub ttl : IfSome h.ttl IsTtl
  pub next_file : h.next_file ≤ 2 ^ 62

abbrev HeadText : List ℕ → Head × List ℕ → Type 0
HeadText bytes x = Takes bytes (head_spelled x.0) x.1 × IsHead x.0

abbrev made : (kept low : ℕ) → Option ℕ → ℕ → Head
made kept low ttl next_file = record { kept = kept; low = low; ttl = ttl; next_file = next_file }

abbrev bound : ℕ → Bool
bound = is_within 0 (2 ^ 62)

abbrev moment : ℕ → Bool
moment = is_within 0 (2 ^ 62 - 1)

abbrev from_ttl : (total kept low : ℕ) → Option ℕ × List ℕ → Result (Head × List ℕ) ℕ
from_ttl total kept low ttl = number_where w64 bound total ttl.1 >>= λ next_file. Ok (made kept low ttl.0 next_file.0, next_file.1)

abbrev from_low : (total kept : ℕ) → ℕ × List ℕ → Result (Head × List ℕ) ℕ
from_low total kept low = ttl_at total low.1 >>= from_ttl total kept low.0

abbrev from_upto : (total : ℕ) → ℕ × List ℕ → Result (Head × List ℕ) ℕ
from_upto total kept = number_where w64 moment total kept.1 >>= from_low total kept.0

abbrev from_mark : (total : ℕ) → List ℕ × List ℕ → Result (Head × List ℕ) ℕ
from_mark total marked = number_where w64 bound total marked.1 >>= from_upto total

pub head_takes : (total : ℕ) (bytes : List ℕ) (x : Head × List ℕ) → IsBytes bytes → head_at total bytes ≡ Ok x → HeadText bytes x
unfolding head_at head_spelled
head_takes total bytes x fits e =
    let a = bind_ok (mark_at total bytes) (from_mark total) x e in
    let b = bind_ok (number_where w64 bound total a.0.1) (from_upto total) x a.2 in
    let c = bind_ok (number_where w64 moment total b.0.1) (from_low total b.0.0) x b.2 in
    let d = bind_ok (ttl_at total c.0.1) (from_ttl total b.0.0 c.0.0) x c.2 in
    let f = bind_ok (number_where w64 bound total d.0.1) (λ next_file. Ok (made b.0.0 c.0.0 d.0.0 next_file.0, next_file.1)) x d.2 in
    let ta = mark_takes total bytes a.0 fits a.1 in
    let tb = where64 bound total a.0.1 b.0 ta.rest_fits b.1 in
    let tc = where64 moment total b.0.1 c.0 tb.takes.rest_fits c.1 in
    let td = ttl_takes total c.0.1 d.0 tc.takes.rest_fits d.1 in
    let tf = where64 bound total d.0.1 f.0 td.0.rest_fits f.1 in
    let p4 = Takes-then c.0.1 (ttl_spelled d.0.0) d.0.1 (to_be_bytes w64 f.0.0) f.0.1 td.0 tf.takes in
    let p3 = Takes-then b.0.1 (to_be_bytes w64 c.0.0) c.0.1 (ttl_spelled d.0.0 ++ to_be_bytes w64 f.0.0) f.0.1 tc.takes p4 in
    let p2 = Takes-then a.0.1 (to_be_bytes w64 b.0.0) b.0.1 (to_be_bytes w64 c.0.0 ++ (ttl_spelled d.0.0 ++ to_be_bytes w64 f.0.0)) f.0.1 tb.takes p3 in
    let p1 = Takes-then bytes mark a.0.1 (to_be_bytes w64 b.0.0 ++ (to_be_bytes w64 c.0.0 ++ (ttl_spelled d.0.0 ++ to_be_bytes w64 f.0.0))) f.0.1 ta p2 in
    let wb = within_parts 0 (2 ^ 62) b.0.0 tb.passes in
    let wc = within_parts 0 (2 ^ 62 - 1) c.0.0 tc.passes in
    let wf = within_parts 0 (2 ^ 62) f.0.0 tf.passes in
    subst (HeadText bytes) (ok_is (made b.0.0 c.0.0 d.0.0 f.0.0, f.0.1) x f.2) (p1, record { kept = wb.1; low = omega (arith, wc.1); ttl = td.1; next_file = wf.1 })

mark_again : (total : ℕ) (rest : List ℕ) → mark_at total (mark ++ rest) ≡ Ok (mark, rest)
unfolding mark_at
mark_again total rest =
    asked_again (pointwise nat_eq mark) (place total (mark ++ rest)) (bytes_at 8 (place total (mark ++ rest)) (mark ++ rest)) (mark, rest) (bytes_again (place total (mark ++ rest)) mark rest) (bytes_same mark)

pub head_again : (total : ℕ) (h : Head) (rest : List ℕ) → IsHead h → head_at total (head_spelled h ++ rest) ≡ Ok (h, rest)
unfolding head_at head_spelled
head_again total h rest is =
    let r4 : List ℕ = to_be_bytes w64 h.next_file ++ rest in
    let r3 : List ℕ = ttl_spelled h.ttl ++ r4 in
    let r2 : List ℕ = to_be_bytes w64 h.low ++ r3 in
    let r1 : List ℕ = to_be_bytes w64 h.kept ++ r2 in
    let regrouped : head_spelled h ++ rest ≡ mark ++ (to_be_bytes w64 h.kept ++ (to_be_bytes w64 h.low ++ (ttl_spelled h.ttl ++ (to_be_bytes w64 h.next_file ++ rest)))) =
    ap (λ (t : List ℕ). mark ++ (to_be_bytes w64 h.kept ++ (to_be_bytes w64 h.low ++ t))) (append_assoc (ttl_spelled h.ttl) (to_be_bytes w64 h.next_file) rest) in
    ap (head_at total) regrouped
    ∙ (ap (λ (q : Result (List ℕ × List ℕ) ℕ). q >>= from_mark total) (mark_again total r1)
    ∙ (ap (λ (q : Result (ℕ × List ℕ) ℕ). q >>= from_upto total) (again_where64 bound total h.kept r2 (omega (arith, is.kept)) (within_from 0 (2 ^ 62) h.kept (omega arith) is.kept))
    ∙ (ap (λ (q : Result (ℕ × List ℕ) ℕ). q >>= from_low total h.kept) (again_where64 moment total h.low r3 (omega (arith, is.low)) (within_from 0 (2 ^ 62 - 1) h.low (omega arith) (omega (arith, is.low))))
    ∙ (ap (λ (q : Result (Option ℕ × List ℕ) ℕ). q >>= from_ttl total h.kept h.low) (ttl_again total h.ttl r4 is.ttl)
    ∙ ap (λ (q : Result (ℕ × List ℕ) ℕ). q >>= λ next_file. Ok (made h.kept h.low h.ttl next_file.0, next_file.1)) (again_where64 bound total h.next_file rest (omega (arith, is.next_file)) (within_from 0 (2 ^ 62) h.next_file (omega arith) is.next_file))))))
