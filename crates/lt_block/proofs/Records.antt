-- The two laws of records: what is read is spelled so, and what is spelled so is read.
use Rattle.std.proofs.Common.{◌≡◌, ℕ, zero, suc, ◌+◌, ◌-◌, ◌^◌, ◌<◌, ◌≤◌, Bool, true, false, ltb, ◌||◌, List, [], ◌∷◌, ◌++◌, length, take, drop, Result, Ok, refl, sym, ap, subst, ◌∙◌, append_assoc, arith}
use Rattle.std.specs.List.{flat_map, AllByRecursion}
use Rattle.std.specs.Int.{w32, w64, to_be_bytes}
use Rattle.std.proofs.lemmas.Bool.{le-ltb}
use Rattle.std.proofs.lemmas.List.{take_at, length-append}
use Rattle.lt_rec.specs.Bytes.{is_less}
use Rattle.lt_rec.specs.Record.{Record, IsRecord, IsStored, made, spelled, stored_len, stored_record}
use Rattle.lt_rec.proofs.Stored.{first_is, made_lawful, spelled_len, stored_again, stored_is, time_is}
use Rattle.lt_block.specs.Spelling.{Rises}
use Rattle.lt_rec.specs.Reading.{◌>>=◌, number_at, bytes_at}
use Rattle.lt_block.specs.Reading.{may_follow, key_len_at, body_len_at, seq_at, record_at, records_at}
use Rattle.lt_rec.proofs.Reading.{IsBytes, bind_ok, ok_is, Takes, Takes-then, wide32, number_takes, number_again, bytes_take, bytes_again}
use Rattle.lt_block.proofs.Fields.{KeyLength, key_len_takes, key_len_again, body_len_takes, body_len_again, seq_takes, seq_again}

or_right : (a b : Bool) → (a || b) ≡ true → a ≡ false → b ≡ true
or_right true b e f = absurd cc
or_right false b e f = e

or_true : (a b : Bool) → b ≡ true → (a || b) ≡ true
or_true true b e = refl
or_true false b e = e

key_place : (r : Record) (rest : List ℕ) → take (length r.key) (drop 20 (spelled r ++ rest)) ≡ r.key
key_place r rest = ap (take (length r.key)) (append_assoc r.key r.body rest) ∙ take_at r.key (r.body ++ rest) (length r.key) refl

-- ---- reading a record, field by field

abbrev from_body : (at kl bl seq ver : ℕ) → List ℕ × List ℕ → Result (Record × List ℕ) ℕ
from_body at kl bl seq ver key = bytes_at bl (at + 20 + kl) key.1 >>= λ body. Ok (made key.0 seq ver body.0, body.1)

abbrev from_key : (at kl bl seq : ℕ) → ℕ × List ℕ → Result (Record × List ℕ) ℕ
from_key at kl bl seq ver = bytes_at kl (at + 20) ver.1 >>= λ key. from_body at kl bl seq ver.0 key

abbrev from_ver : (at kl bl : ℕ) → ℕ × List ℕ → Result (Record × List ℕ) ℕ
from_ver at kl bl seq = number_at w32 (at + 16) seq.1 >>= λ ver. from_key at kl bl seq.0 ver

abbrev from_seq : (at kl : ℕ) → ℕ × List ℕ → Result (Record × List ℕ) ℕ
from_seq at kl bl = seq_at (at + 8) bl.1 >>= λ seq. from_ver at kl bl.0 seq

abbrev from_body_len : ℕ → ℕ × List ℕ → Result (Record × List ℕ) ℕ
from_body_len at kl = body_len_at (at + 4) kl.1 >>= λ bl. from_seq at kl.0 bl

-- what reading a record found
pub record Found (last bytes : List ℕ) (x : Record × List ℕ) : Type 0 where
  pub takes : Takes bytes (spelled x.0) x.1
  pub lawful : IsRecord x.0
  pub above : is_less last x.0.key ≡ true

found_record : (last bytes : List ℕ) (kl bl seq ver : ℕ × List ℕ) (key body : List ℕ × List ℕ)
    → Takes bytes (to_be_bytes w32 kl.0) kl.1 → Takes kl.1 (to_be_bytes w32 bl.0) bl.1 → Takes bl.1 (to_be_bytes w64 seq.0) seq.1 → Takes seq.1 (to_be_bytes w32 ver.0) ver.1 → Takes ver.1 key.0 key.1 → Takes key.1 body.0 body.1
    → KeyLength last bytes kl.0 → bl.0 ≤ 60000 → seq.0 < 2 ^ 62 → ver.0 < 2 ^ 32 → length key.0 ≡ kl.0 → length body.0 ≡ bl.0 → IsBytes key.0
    → Found last bytes (made key.0 seq.0 ver.0 body.0, body.1)
found_record last bytes kl bl seq ver key body ta tb tc td tk tg hk hb hs hv ek eb fits =
    let r : Record = made key.0 seq.0 ver.0 body.0 in
    let p4 = Takes-then ver.1 key.0 key.1 body.0 body.1 tk tg in
    let p3 = Takes-then seq.1 (to_be_bytes w32 ver.0) ver.1 (key.0 ++ body.0) body.1 td p4 in
    let p2 = Takes-then bl.1 (to_be_bytes w64 seq.0) seq.1 (to_be_bytes w32 ver.0 ++ (key.0 ++ body.0)) body.1 tc p3 in
    let p1 = Takes-then kl.1 (to_be_bytes w32 bl.0) bl.1 (to_be_bytes w64 seq.0 ++ (to_be_bytes w32 ver.0 ++ (key.0 ++ body.0))) body.1 tb p2 in
    let p0 = Takes-then bytes (to_be_bytes w32 kl.0) kl.1 (to_be_bytes w32 bl.0 ++ (to_be_bytes w64 seq.0 ++ (to_be_bytes w32 ver.0 ++ (key.0 ++ body.0)))) body.1 ta p1 in
    let q0 = subst (λ (n : ℕ). Takes bytes (to_be_bytes w32 n ++ (to_be_bytes w32 bl.0 ++ (to_be_bytes w64 seq.0 ++ (to_be_bytes w32 ver.0 ++ (key.0 ++ body.0))))) body.1) (sym ek) p0 in
    let takes : Takes bytes (spelled (made key.0 seq.0 ver.0 body.0)) body.1 = subst (λ (n : ℕ). Takes bytes (to_be_bytes w32 (length key.0) ++ (to_be_bytes w32 n ++ (to_be_bytes w64 seq.0 ++ (to_be_bytes w32 ver.0 ++ (key.0 ++ body.0))))) body.1) (sym eb) q0 in
    let len : length bytes ≡ length (spelled (made key.0 seq.0 ver.0 body.0)) + length body.1 = ap length takes.parts ∙ length-append (spelled (made key.0 seq.0 ver.0 body.0)) body.1 in
    let long : 20 + kl.0 ≤ length bytes = omega (arith, len, spelled_len (made key.0 seq.0 ver.0 body.0), ek) in
    let place : take kl.0 (drop 20 bytes) ≡ key.0 =
    ap (λ (bs : List ℕ). take kl.0 (drop 20 bs)) takes.parts ∙ (ap (λ (n : ℕ). take n (drop 20 (spelled (made key.0 seq.0 ver.0 body.0) ++ body.1))) (sym ek) ∙ key_place (made key.0 seq.0 ver.0 body.0) body.1) in
    let above : is_less last key.0 ≡ true = ap (is_less last) (sym place) ∙ or_right (ltb (length bytes) (20 + kl.0)) (is_less last (take kl.0 (drop 20 bytes))) hk.follows (le-ltb _ _ long) in
    record { takes = takes; lawful = made_lawful key.0 seq.0 ver.0 body.0 (omega (arith, hk.long_enough)) (omega (arith, hk.short_enough)) hs hv (omega arith) fits; above = above }

pub record_takes : (at : ℕ) (last bytes : List ℕ) (x : Record × List ℕ) → IsBytes bytes → record_at at last bytes ≡ Ok x → Found last bytes x
unfolding record_at
record_takes at last bytes x fits e =
    let a = bind_ok (key_len_at at last bytes) (from_body_len at) x e in
    let b = bind_ok (body_len_at (at + 4) a.0.1) (from_seq at a.0.0) x a.2 in
    let c = bind_ok (seq_at (at + 8) b.0.1) (from_ver at a.0.0 b.0.0) x b.2 in
    let d = bind_ok (number_at w32 (at + 16) c.0.1) (from_key at a.0.0 b.0.0 c.0.0) x c.2 in
    let k = bind_ok (bytes_at a.0.0 (at + 20) d.0.1) (from_body at a.0.0 b.0.0 c.0.0 d.0.0) x d.2 in
    let g = bind_ok (bytes_at b.0.0 (at + 20 + a.0.0) k.0.1) (λ body. Ok (made k.0.0 c.0.0 d.0.0 body.0, body.1)) x k.2 in
    let ta = key_len_takes at last bytes a.0 fits a.1 in
    let tb = body_len_takes (at + 4) a.0.1 b.0 ta.0.rest_fits b.1 in
    let tc = seq_takes (at + 8) b.0.1 c.0 tb.0.rest_fits c.1 in
    let td = number_takes w32 (2 ^ 32) wide32 (at + 16) c.0.1 d.0 tc.0.rest_fits d.1 in
    let tk = bytes_take a.0.0 (at + 20) d.0.1 k.0 td.0.rest_fits k.1 in
    let tg = bytes_take b.0.0 (at + 20 + a.0.0) k.0.1 g.0 tk.0.rest_fits g.1 in
    let found : Found last bytes (made k.0.0 c.0.0 d.0.0 g.0.0, g.0.1) =
    found_record last bytes a.0 b.0 c.0 d.0 k.0 g.0 ta.0 tb.0 tc.0 td.0 tk.0 tg.0 ta.1 tb.1 tc.1 td.1 tk.1 tg.1 tk.2 in
    subst (Found last bytes) (ok_is (made k.0.0 c.0.0 d.0.0 g.0.0, g.0.1) x g.2) found

pub record_again : (at : ℕ) (last : List ℕ) (r : Record) (rest : List ℕ) → IsRecord r → is_less last r.key ≡ true → record_at at last (spelled r ++ rest) ≡ Ok (r, rest)
unfolding record_at
record_again at last r rest h above =
    let kl : ℕ = length r.key in
    let bl : ℕ = length r.body in
    let r4 : List ℕ = r.key ++ (r.body ++ rest) in
    let r3 : List ℕ = to_be_bytes w32 r.ver ++ r4 in
    let r2 : List ℕ = to_be_bytes w64 r.seq ++ r3 in
    let r1 : List ℕ = to_be_bytes w32 bl ++ r2 in
    let regrouped : spelled r ++ rest ≡ to_be_bytes w32 (length r.key) ++ (to_be_bytes w32 (length r.body) ++ (to_be_bytes w64 r.seq ++ (to_be_bytes w32 r.ver ++ (r.key ++ (r.body ++ rest))))) =
    ap (λ (t : List ℕ). to_be_bytes w32 (length r.key) ++ (to_be_bytes w32 (length r.body) ++ (to_be_bytes w64 r.seq ++ (to_be_bytes w32 r.ver ++ t)))) (append_assoc r.key r.body rest) in
    let follows : may_follow last (length r.key) (to_be_bytes w32 (length r.key) ++ (to_be_bytes w32 (length r.body) ++ (to_be_bytes w64 r.seq ++ (to_be_bytes w32 r.ver ++ (r.key ++ (r.body ++ rest)))))) ≡ true =
    or_true _ _ (ap (is_less last) (take_at r.key (r.body ++ rest) (length r.key) refl) ∙ above) in
    ap (record_at at last) regrouped
    ∙ (ap (λ (q : Result (ℕ × List ℕ) ℕ). q >>= from_body_len at) (key_len_again at last kl r1 (record { long_enough = h.long_enough; short_enough = h.short_enough; follows = follows }))
    ∙ (ap (λ (q : Result (ℕ × List ℕ) ℕ). q >>= from_seq at kl) (body_len_again (at + 4) bl r2 h.small_body)
    ∙ (ap (λ (q : Result (ℕ × List ℕ) ℕ). q >>= from_ver at kl bl) (seq_again (at + 8) r.seq r3 h.numbered)
    ∙ (ap (λ (q : Result (ℕ × List ℕ) ℕ). q >>= from_key at kl bl r.seq) (number_again w32 (2 ^ 32) wide32 (at + 16) r.ver r4 h.version)
    ∙ (ap (λ (q : Result (List ℕ × List ℕ) ℕ). q >>= from_body at kl bl r.seq r.ver) (bytes_again (at + 20) r.key (r.body ++ rest))
    ∙ (ap (λ (q : Result (List ℕ × List ℕ) ℕ). q >>= λ body. Ok (made r.key r.seq r.ver body.0, body.1)) (bytes_again (at + 20 + kl) r.body rest)
    ∙ ap (λ (ts : ℕ). Ok (record { key = r.key; ts = ts; seq = r.seq; ver = r.ver; body = r.body }, rest)) (time_is r h)))))))

pub record_is : (at : ℕ) (last bytes : List ℕ) (kl bl seq ver : ℕ × List ℕ) (key body : List ℕ × List ℕ)
    → key_len_at at last bytes ≡ Ok kl → body_len_at (at + 4) kl.1 ≡ Ok bl → seq_at (at + 8) bl.1 ≡ Ok seq → number_at w32 (at + 16) seq.1 ≡ Ok ver → bytes_at kl.0 (at + 20) ver.1 ≡ Ok key → bytes_at bl.0 (at + 20 + kl.0) key.1 ≡ Ok body
    → record_at at last bytes ≡ Ok (made key.0 seq.0 ver.0 body.0, body.1)
unfolding record_at
record_is at last bytes kl bl seq ver key body a b c d k g =
    ap (λ (q : Result (ℕ × List ℕ) ℕ). q >>= from_body_len at) a
    ∙ (ap (λ (q : Result (ℕ × List ℕ) ℕ). q >>= from_seq at kl.0) b
    ∙ (ap (λ (q : Result (ℕ × List ℕ) ℕ). q >>= from_ver at kl.0 bl.0) c
    ∙ (ap (λ (q : Result (ℕ × List ℕ) ℕ). q >>= from_key at kl.0 bl.0 seq.0) d
    ∙ (ap (λ (q : Result (List ℕ × List ℕ) ℕ). q >>= from_body at kl.0 bl.0 seq.0 ver.0) k
    ∙ ap (λ (q : Result (List ℕ × List ℕ) ℕ). q >>= λ body. Ok (made key.0 seq.0 ver.0 body.0, body.1)) g))))

-- a record that was read, and the bytes that it was read from
pub record IsFound (stored bytes : List ℕ) (r : Record) (rest : List ℕ) : Type 0 where
  pub stored_is : IsStored stored
  pub record_is : stored_record stored ≡ r
  pub len : stored_len r + length rest ≡ length bytes

pub is_found : (at : ℕ) (last bytes stored : List ℕ) (r : Record) (rest : List ℕ) → IsBytes bytes → record_at at last bytes ≡ Ok (r, rest) → stored ≡ take (length bytes - length rest) bytes → IsFound stored bytes r rest
is_found at last bytes stored r rest fits e cut =
    let found = record_takes at last bytes (r, rest) fits e in
    let long : length bytes ≡ length (spelled r) + length rest = ap length found.takes.parts ∙ length-append (spelled r) rest in
    let front : stored ≡ spelled r = cut ∙ first_is r rest bytes (length bytes - length rest) found.takes.parts (omega (arith, long)) in
    record {
      stored_is = subst IsStored (sym front) (stored_again r found.lawful);
      record_is = ap stored_record front ∙ stored_is r found.lawful;
      len = omega (arith, long, spelled_len r);
    }

-- ---- records one after the other

pub record AllFound (n : ℕ) (last bytes : List ℕ) (x : List Record × List ℕ) : Type 0 where
  pub takes : Takes bytes (flat_map spelled x.0) x.1
  pub count : length x.0 ≡ n
  pub lawful : AllByRecursion IsRecord x.0
  pub rising : Rises last x.0

pub records_take : (n at : ℕ) (last bytes : List ℕ) (x : List Record × List ℕ) → IsBytes bytes → records_at n at last bytes ≡ Ok x → AllFound n last bytes x
unfolding records_at
records_take zero at last bytes x fits e =
    subst (AllFound 0 last bytes) (ok_is ([], bytes) x e) (record { takes = record { parts = refl; rest_fits = fits }; count = refl; lawful = tt; rising = tt })
records_take (suc n) at last bytes x fits e =
    let a = bind_ok (record_at at last bytes) (λ first. records_at n (at + stored_len first.0) first.0.key first.1 >>= λ others. Ok (first.0 ∷ others.0, others.1)) x e in
    let b = bind_ok (records_at n (at + stored_len a.0.0) a.0.0.key a.0.1) (λ others. Ok (a.0.0 ∷ others.0, others.1)) x a.2 in
    let first = record_takes at last bytes a.0 fits a.1 in
    let second = records_take n (at + stored_len a.0.0) a.0.0.key a.0.1 b.0 first.takes.rest_fits b.1 in
    let both = Takes-then bytes (spelled a.0.0) a.0.1 (flat_map spelled b.0.0) b.0.1 first.takes second.takes in
    let made : List Record × List ℕ = (a.0.0 ∷ b.0.0, b.0.1) in
    subst (AllFound (suc n) last bytes) (ok_is made x b.2)
    (record { takes = both; count = ap suc second.count; lawful = (first.lawful, second.lawful); rising = (first.above, second.rising) })

pub records_again : (at : ℕ) (last : List ℕ) (recs : List Record) (rest : List ℕ) → AllByRecursion IsRecord recs → Rises last recs → records_at (length recs) at last (flat_map spelled recs ++ rest) ≡ Ok (recs, rest)
unfolding records_at
records_again at last [] rest lawful rising = refl
records_again at last (r ∷ recs) rest lawful rising =
    let regrouped : flat_map spelled (r ∷ recs) ++ rest ≡ spelled r ++ (flat_map spelled recs ++ rest) = append_assoc (spelled r) (flat_map spelled recs) rest in
    ap (records_at (suc (length recs)) at last) regrouped
    ∙ (ap (λ (q : Result (Record × List ℕ) ℕ). q >>= λ first. records_at (length recs) (at + stored_len first.0) first.0.key first.1 >>= λ others. Ok (first.0 ∷ others.0, others.1)) (record_again at last r (flat_map spelled recs ++ rest) lawful.0 rising.0)
    ∙ ap (λ (q : Result (List Record × List ℕ) ℕ). q >>= λ others. Ok (r ∷ others.0, others.1)) (records_again (at + stored_len r) r.key recs rest lawful.1 rising.1))
