-- A field that is read is the field that was written, and what was written is read again, of what is left of so many bytes.
use Rattle.std.proofs.Common.{◌≡◌, ℕ, ◌^◌, ◌<◌, Bool, true, List, ◌++◌, length, Result, Ok, sym, ap, subst, ◌∙◌, arith}
use Rattle.std.specs.Int.{Width, w32, w64, to_be_bytes}
use Rattle.lt_rec.specs.Reading.{◌>>=◌, place, bytes_at}
use Rattle.lt_rec.proofs.Reading.{IsBytes, bind_ok, asked_ok, asked_again, Takes, Takes-then, bytes_take, bytes_again}
use Rattle.lt_rec.proofs.Reading as Fields
use Rattle.lt_desc.specs.Spelling.{counted}
use Rattle.lt_desc.specs.Reading.{number_from, number_where, counted_at}

pub takes32 : (total : ℕ) (bytes : List ℕ) (x : ℕ × List ℕ) → IsBytes bytes → number_from w32 total bytes ≡ Ok x → Takes bytes (to_be_bytes w32 x.0) x.1 × (x.0 < 2 ^ 32)
takes32 total bytes = Fields.takes32 (place total bytes) bytes

pub takes64 : (total : ℕ) (bytes : List ℕ) (x : ℕ × List ℕ) → IsBytes bytes → number_from w64 total bytes ≡ Ok x → Takes bytes (to_be_bytes w64 x.0) x.1 × (x.0 < 2 ^ 64)
takes64 total bytes = Fields.takes64 (place total bytes) bytes

pub again32 : (total n : ℕ) (rest : List ℕ) → n < 2 ^ 32 → number_from w32 total (to_be_bytes w32 n ++ rest) ≡ Ok (n, rest)
again32 total n rest = Fields.again32 (place total (to_be_bytes w32 n ++ rest)) n rest

pub again64 : (total n : ℕ) (rest : List ℕ) → n < 2 ^ 64 → number_from w64 total (to_be_bytes w64 n ++ rest) ≡ Ok (n, rest)
again64 total n rest = Fields.again64 (place total (to_be_bytes w64 n ++ rest)) n rest

-- ---- numbers with a test

pub record Passed (w : Width) (test : ℕ → Bool) (bytes : List ℕ) (x : ℕ × List ℕ) : Type 0 where
  pub takes : Takes bytes (to_be_bytes w x.0) x.1
  pub passes : test x.0 ≡ true
  pub small : x.0 < 2 ^ 64

pub where32 : (test : ℕ → Bool) (total : ℕ) (bytes : List ℕ) (x : ℕ × List ℕ) → IsBytes bytes → number_where w32 test total bytes ≡ Ok x → Passed w32 test bytes x
where32 test total bytes x fits e =
    let g = asked_ok test (place total bytes) (number_from w32 total bytes) x e in
    let t = takes32 total bytes x fits g.0 in
    record { takes = t.0; passes = g.1; small = omega (arith, t.1) }

pub where64 : (test : ℕ → Bool) (total : ℕ) (bytes : List ℕ) (x : ℕ × List ℕ) → IsBytes bytes → number_where w64 test total bytes ≡ Ok x → Passed w64 test bytes x
where64 test total bytes x fits e =
    let g = asked_ok test (place total bytes) (number_from w64 total bytes) x e in
    let t = takes64 total bytes x fits g.0 in
    record { takes = t.0; passes = g.1; small = t.1 }

pub again_where32 : (test : ℕ → Bool) (total n : ℕ) (rest : List ℕ) → n < 2 ^ 32 → test n ≡ true → number_where w32 test total (to_be_bytes w32 n ++ rest) ≡ Ok (n, rest)
again_where32 test total n rest lt h = asked_again test (place total (to_be_bytes w32 n ++ rest)) (number_from w32 total (to_be_bytes w32 n ++ rest)) (n, rest) (again32 total n rest lt) h

pub again_where64 : (test : ℕ → Bool) (total n : ℕ) (rest : List ℕ) → n < 2 ^ 64 → test n ≡ true → number_where w64 test total (to_be_bytes w64 n ++ rest) ≡ Ok (n, rest)
again_where64 test total n rest lt h = asked_again test (place total (to_be_bytes w64 n ++ rest)) (number_from w64 total (to_be_bytes w64 n ++ rest)) (n, rest) (again64 total n rest lt) h

-- ---- bytes behind their length

pub counted_takes : (total : ℕ) (bytes : List ℕ) (x : List ℕ × List ℕ) → IsBytes bytes → counted_at total bytes ≡ Ok x → Takes bytes (counted x.0) x.1 × (length x.0 < 2 ^ 32)
unfolding counted_at
counted_takes total bytes x fits e =
    let a = bind_ok (number_from w32 total bytes) (λ n. bytes_at n.0 (place total bytes) n.1) x e in
    let n = takes32 total bytes a.0 fits a.1 in
    let t = bytes_take a.0.0 (place total bytes) a.0.1 x n.0.rest_fits a.2 in
    let both = Takes-then bytes (to_be_bytes w32 a.0.0) a.0.1 x.0 x.1 n.0 t.0 in
    (subst (λ (m : ℕ). Takes bytes (to_be_bytes w32 m ++ x.0) x.1) (sym t.1) both, subst (λ (m : ℕ). m < 2 ^ 32) (sym t.1) n.1)

pub counted_again : (total : ℕ) (text rest : List ℕ) → length text < 2 ^ 32 → counted_at total (counted text ++ rest) ≡ Ok (text, rest)
unfolding counted_at
counted_again total text rest lt =
    let all = counted text ++ rest in
    ap (λ (q : Result (ℕ × List ℕ) ℕ). q >>= λ n. bytes_at n.0 (place total (counted text ++ rest)) n.1) (again32 total (length text) (text ++ rest) lt)
    ∙ bytes_again (place total (counted text ++ rest)) text rest
