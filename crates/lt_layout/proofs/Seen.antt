-- A record that is seen in one pass.
use Rattle.std.proofs.Common.{◌≡◌, ℕ, ◌+◌, ◌^◌, ◌≤◌, Bool, true, false, ltb, leb, ◌&&◌, ◌||◌, List, length, take, drop, Ok, refl, sym, ap, ◌∙◌, arith}
use Rattle.std.specs.Int.{Width, w32, w64, byte_len, from_be_bytes}
use Rattle.std.proofs.lemmas.Bool.{and_parts}
use Rattle.std.proofs.lemmas.List.{drop-drop}
use Rattle.lt_rec.specs.Bytes.{is_less}
use Rattle.lt_rec.specs.Record.{time_of}
use Rattle.lt_rec.specs.Reading.{number_at, bytes_at, is_within}
use Rattle.lt_block.specs.Reading.{is_key_len, may_follow, key_len_at, body_len_at, seq_at, record_at}
use Rattle.lt_rec.proofs.Reading.{IsBytes, guard_no}
use Rattle.lt_block.proofs.Records.{record_takes}
use Rattle.lt_layout.specs.Spelling.{Entry, Totals}
use Rattle.lt_layout.specs.Reading.{suits_key, own_record_at, Sees}
use Rattle.lt_layout.proofs.Own.{own_record_given}

-- what is left behind a number, and the bytes that are taken
number_rest : (w : Width) (at : ℕ) (bytes : List ℕ) (n : ℕ) (rest : List ℕ) → number_at w at bytes ≡ Ok (n, rest) → drop (byte_len w) bytes ≡ rest
number_rest w at bytes n rest q = ap (λ (p : ℕ × List ℕ). p.1) (guard_no (ltb (length bytes) (byte_len w)) at (from_be_bytes w (take (byte_len w) bytes), drop (byte_len w) bytes) (n, rest) q).1

bytes_front : (n at : ℕ) (bytes front rest : List ℕ) → bytes_at n at bytes ≡ Ok (front, rest) → take n bytes ≡ front
bytes_front n at bytes front rest q = ap (λ (p : List ℕ × List ℕ). p.0) (guard_no (ltb (length bytes) n) at (take n bytes, drop n bytes) (front, rest) q).1

or_second : (a b : Bool) → b ≡ true → (a || b) ≡ true
or_second true b e = refl
or_second false b e = e

pub seen_read : (at kl bl seq ver : ℕ) (last bytes b1 b2 b3 b4 key b5 body rest : List ℕ)
    → number_at w32 at bytes ≡ Ok (kl, b1) → number_at w32 (at + 4) b1 ≡ Ok (bl, b2) → number_at w64 (at + 8) b2 ≡ Ok (seq, b3) → number_at w32 (at + 16) b3 ≡ Ok (ver, b4) → bytes_at kl (at + 20) b4 ≡ Ok (key, b5) → bytes_at bl (at + 20 + kl) b5 ≡ Ok (body, rest)
    → (is_key_len kl && (leb bl 60000 && ltb seq (2 ^ 62))) ≡ true → is_less last key ≡ true → record_at at last bytes ≡ Ok (record { key = key; ts = time_of key; seq = seq; ver = ver; body = body }, rest)
unfolding record_at key_len_at body_len_at seq_at
seen_read at kl bl seq ver last bytes b1 b2 b3 b4 key b5 body rest q1 q2 q3 q4 q5 q6 fit above =
    let p = and_parts (is_key_len kl) (leb bl 60000 && ltb seq (2 ^ 62)) fit in
    let o = and_parts (leb bl 60000) (ltb seq (2 ^ 62)) p.1 in
    let two : drop 8 bytes ≡ b2 = sym (drop-drop 4 4 bytes) ∙ (ap (drop 4) (number_rest w32 at bytes kl b1 q1) ∙ number_rest w32 (at + 4) b1 bl b2 q2) in
    let three : drop 16 bytes ≡ b3 = sym (drop-drop 8 8 bytes) ∙ (ap (drop 8) two ∙ number_rest w64 (at + 8) b2 seq b3 q3) in
    let four : drop 20 bytes ≡ b4 = sym (drop-drop 4 16 bytes) ∙ (ap (drop 4) three ∙ number_rest w32 (at + 16) b3 ver b4 q4) in
    let place : take kl (drop 20 bytes) ≡ key = ap (take kl) four ∙ bytes_front kl (at + 20) b4 key b5 q5 in
    let follows : may_follow last kl bytes ≡ true = or_second (ltb (length bytes) (20 + kl)) (is_less last (take kl (drop 20 bytes))) (ap (is_less last) place ∙ above) in
    rw (q1, p.0, follows, q2, o.0, q3, o.1, q4, q5, q6) refl

-- it suits its tablet
pub seen_own : (t : Totals) (e : Entry) (left at : ℕ) (last bytes key : List ℕ) (ts seq : ℕ) (rest : List ℕ) → IsBytes bytes → Sees (record_at at last bytes) (length bytes) key ts seq rest → (is_within t.first t.last seq && suits_key t e left last key) ≡ true → Sees (own_record_at t e left at last bytes) (length bytes) key ts seq rest
seen_own t e left at last bytes key ts seq rest fits s suited = record {
  rec = s.rec;
  read_is = own_record_given t e left at last bytes (s.rec, rest) fits s.read_is (ap (λ (n : ℕ). is_within t.first t.last n && suits_key t e left last s.rec.key) s.seq_is ∙ (ap (λ (k : List ℕ). is_within t.first t.last seq && suits_key t e left last k) s.key_is ∙ suited));
  key_is = s.key_is;
  ts_is = s.ts_is;
  seq_is = s.seq_is;
  len = s.len;
}

-- its key has a timestamp
pub seen_long : (at : ℕ) (last bytes key : List ℕ) (ts seq : ℕ) (rest : List ℕ) → IsBytes bytes → Sees (record_at at last bytes) (length bytes) key ts seq rest → 8 ≤ length key
seen_long at last bytes key ts seq rest fits s = omega (arith, (record_takes at last bytes (s.rec, rest) fits s.read_is).lawful.long_enough, ap length s.key_is)
