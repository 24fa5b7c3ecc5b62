-- The fields of a record that have a rule.
use Rattle.std.proofs.Common.{◌≡◌, ℕ, ◌^◌, ◌<◌, ◌≤◌, true, cond, ltb, leb, ◌&&◌, List, ◌++◌, Ok, Err, refl, subst, arith}
use Rattle.std.specs.Int.{w32, w64, to_be_bytes}
use Rattle.std.proofs.lemmas.Bool.{ltb-true, lt-ltb, leb-true, le-leb}
use Rattle.lt_rec.specs.Reading.{number_at}
use Rattle.lt_rec.proofs.Reading.{IsBytes, bind_ok, guard_yes, both_true, Takes, wide32, wide64, number_takes, number_again}
use Rattle.lt_block.specs.Reading.{is_key_len, may_follow, key_len_at, body_len_at, seq_at}

pub record KeyLength (last bytes : List ℕ) (n : ℕ) : Type 0 where
  pub long_enough : 8 ≤ n
  pub short_enough : n ≤ 4096
  pub follows : may_follow last n bytes ≡ true

pub key_len_takes : (at : ℕ) (last bytes : List ℕ) (x : ℕ × List ℕ) → IsBytes bytes → key_len_at at last bytes ≡ Ok x → Takes bytes (to_be_bytes w32 x.0) x.1 × KeyLength last bytes x.0
unfolding key_len_at
key_len_takes at last bytes x fits e =
    let a = bind_ok (number_at w32 at bytes) (λ n. cond (is_key_len n.0 && may_follow last n.0 bytes) (Ok n) (Err at)) x e in
    let g = guard_yes (is_key_len a.0.0 && may_follow last a.0.0 bytes) at a.0 x a.2 in
    let b = both_true (is_key_len a.0.0) (may_follow last a.0.0 bytes) g.0 in
    let c = both_true (leb 8 a.0.0) (leb a.0.0 4096) b.0 in
    let t = number_takes w32 (2 ^ 32) wide32 at bytes a.0 fits a.1 in
    subst (λ (p : ℕ × List ℕ). Takes bytes (to_be_bytes w32 p.0) p.1 × KeyLength last bytes p.0) g.1 (t.0, record { long_enough = leb-true _ _ c.0; short_enough = leb-true _ _ c.1; follows = b.1 })

pub key_len_again : (at : ℕ) (last : List ℕ) (n : ℕ) (rest : List ℕ) → KeyLength last (to_be_bytes w32 n ++ rest) n → key_len_at at last (to_be_bytes w32 n ++ rest) ≡ Ok (n, rest)
unfolding key_len_at
key_len_again at last n rest h =
    let low : leb 8 n ≡ true = le-leb _ _ h.long_enough in
    let high : leb n 4096 ≡ true = le-leb _ _ h.short_enough in
    rw (number_again w32 (2 ^ 32) wide32 at n rest (omega (arith, h.short_enough)), low, high, h.follows) refl

pub body_len_takes : (at : ℕ) (bytes : List ℕ) (x : ℕ × List ℕ) → IsBytes bytes → body_len_at at bytes ≡ Ok x → Takes bytes (to_be_bytes w32 x.0) x.1 × (x.0 ≤ 60000)
unfolding body_len_at
body_len_takes at bytes x fits e =
    let a = bind_ok (number_at w32 at bytes) (λ n. cond (leb n.0 60000) (Ok n) (Err at)) x e in
    let g = guard_yes (leb a.0.0 60000) at a.0 x a.2 in
    let t = number_takes w32 (2 ^ 32) wide32 at bytes a.0 fits a.1 in
    subst (λ (p : ℕ × List ℕ). Takes bytes (to_be_bytes w32 p.0) p.1 × (p.0 ≤ 60000)) g.1 (t.0, leb-true _ _ g.0)

pub body_len_again : (at n : ℕ) (rest : List ℕ) → n ≤ 60000 → body_len_at at (to_be_bytes w32 n ++ rest) ≡ Ok (n, rest)
unfolding body_len_at
body_len_again at n rest h =
    let high : leb n 60000 ≡ true = le-leb _ _ h in
    rw (number_again w32 (2 ^ 32) wide32 at n rest (omega (arith, h)), high) refl

pub seq_takes : (at : ℕ) (bytes : List ℕ) (x : ℕ × List ℕ) → IsBytes bytes → seq_at at bytes ≡ Ok x → Takes bytes (to_be_bytes w64 x.0) x.1 × (x.0 < 2 ^ 62)
unfolding seq_at
seq_takes at bytes x fits e =
    let a = bind_ok (number_at w64 at bytes) (λ n. cond (ltb n.0 (2 ^ 62)) (Ok n) (Err at)) x e in
    let g = guard_yes (ltb a.0.0 (2 ^ 62)) at a.0 x a.2 in
    let t = number_takes w64 (2 ^ 64) wide64 at bytes a.0 fits a.1 in
    subst (λ (p : ℕ × List ℕ). Takes bytes (to_be_bytes w64 p.0) p.1 × (p.0 < 2 ^ 62)) g.1 (t.0, ltb-true _ _ g.0)

pub seq_again : (at n : ℕ) (rest : List ℕ) → n < 2 ^ 62 → seq_at at (to_be_bytes w64 n ++ rest) ≡ Ok (n, rest)
unfolding seq_at
seq_again at n rest h =
    let high : ltb n (2 ^ 62) ≡ true = lt-ltb _ _ h in
    rw (number_again w64 (2 ^ 64) wide64 at n rest (omega (arith, h)), high) refl
