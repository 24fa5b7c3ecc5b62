-- The bytes of a record spell it.
use Rattle.std.proofs.Common.{◌≡◌, ℕ, ◌+◌, ◌-◌, ◌^◌, ◌<◌, ◌≤◌, List, ◌++◌, length, take, drop, refl, sym, ap, subst, ◌∙◌, take_at, drop_at, arith}
use Rattle.std.specs.Int.{w32, w64, to_be_bytes, from_be_bytes}
use Rattle.std.proofs.lemmas.List.{length-append, length-drop, length-take-le, take-append-drop}
use Rattle.lt_rec.specs.Record.{Record, IsRecord, IsStored, made, spelled, stored_len, stored_record, key_len_in, time_of}
use Rattle.lt_rec.proofs.Reading.{IsBytes, IsBytes-drop, IsBytes-take, wide32, wide64}

pub spelled_len : (r : Record) → length (spelled r) ≡ stored_len r
spelled_len r = omega (arith, length-append r.key r.body)

key_len_is : (r : Record) → IsRecord r → key_len_in (spelled r) ≡ length r.key
key_len_is r h = wide32.again (length r.key) (omega (arith, h.short_enough))

pub time_is : (r : Record) → IsRecord r → time_of r.key ≡ r.ts
time_is r h = ap (from_be_bytes w64) h.timed ∙ wide64.again r.ts h.moment

key_is : (r : Record) → IsRecord r → take (key_len_in (spelled r)) (drop 20 (spelled r)) ≡ r.key
key_is r h = ap (λ (n : ℕ). take n (r.key ++ r.body)) (key_len_is r h) ∙ take_at r.key r.body (length r.key) refl

body_is : (r : Record) → IsRecord r → drop (key_len_in (spelled r)) (drop 20 (spelled r)) ≡ r.body
body_is r h = ap (λ (n : ℕ). drop n (r.key ++ r.body)) (key_len_is r h) ∙ drop_at r.key r.body (length r.key) refl

-- the record that its own bytes spell
pub stored_is : (r : Record) → IsRecord r → stored_record (spelled r) ≡ r
stored_is r h = λ i. record {
  key = key_is r h i;
  ts = (ap time_of (key_is r h) ∙ time_is r h) i;
  seq = wide64.again r.seq (omega (arith, h.numbered)) i;
  ver = wide32.again r.ver h.version i;
  body = body_is r h i;
}

pub stored_again : (r : Record) → IsRecord r → IsStored (spelled r)
stored_again r h = record {
  whole = omega (arith, key_len_is r h, spelled_len r);
  lawful = subst IsRecord (sym (stored_is r h)) h;
  spelling = ap spelled (stored_is r h);
}

-- the first bytes are the record's, as many as they say
pub first_len : (r : Record) (rest bytes : List ℕ) → IsRecord r → bytes ≡ spelled r ++ rest → 20 + from_be_bytes w32 (take 4 bytes) + from_be_bytes w32 (take 4 (drop 4 bytes)) ≡ length (spelled r)
first_len r rest bytes h e =
    let key : from_be_bytes w32 (take 4 bytes) ≡ length r.key = ap (λ (b : List ℕ). from_be_bytes w32 (take 4 b)) e ∙ wide32.again (length r.key) (omega (arith, h.short_enough)) in
    let body : from_be_bytes w32 (take 4 (drop 4 bytes)) ≡ length r.body = ap (λ (b : List ℕ). from_be_bytes w32 (take 4 (drop 4 b))) e ∙ wide32.again (length r.body) (omega (arith, h.small_body)) in
    omega (arith, key, body, spelled_len r)

pub first_is : (r : Record) (rest bytes : List ℕ) (len : ℕ) → bytes ≡ spelled r ++ rest → len ≡ length (spelled r) → take len bytes ≡ spelled r
first_is r rest bytes len e n = (λ i. take (n i) (e i)) ∙ take_at (spelled r) rest (length (spelled r)) refl

pub made_lawful : (key : List ℕ) (seq ver : ℕ) (body : List ℕ) → 8 ≤ length key → length key ≤ 4096 → seq < 2 ^ 62 → ver < 2 ^ 32 → length body ≤ 60000 → IsBytes key → IsRecord (made key seq ver body)
made_lawful key seq ver body long short numbered version small fits = record {
  long_enough = long;
  short_enough = short;
  timed = sym (wide64.back (drop (length key - 8) key) (omega (arith, length-drop (length key - 8) key)) (IsBytes-drop (length key - 8) key fits));
  moment = wide64.below (drop (length key - 8) key) (IsBytes-drop (length key - 8) key fits);
  numbered = numbered;
  version = version;
  small_body = small;
}

-- what lies behind a record's header is a key and a body
pub record Written (bytes rest : List ℕ) (k seq ver : ℕ) : Type 0 where
  pub is : bytes ≡ spelled (made (take k rest) seq ver (drop k rest))
  pub lawful : IsRecord (made (take k rest) seq ver (drop k rest))

pub written : (bytes rest : List ℕ) (k b seq ver : ℕ) → 8 ≤ k → k ≤ 4096 → length rest ≡ k + b → b ≤ 60000 → seq < 2 ^ 62 → ver < 2 ^ 32 → IsBytes rest
    → bytes ≡ to_be_bytes w32 k ++ (to_be_bytes w32 b ++ (to_be_bytes w64 seq ++ (to_be_bytes w32 ver ++ rest))) → Written bytes rest k seq ver
written bytes rest k b seq ver long short len small numbered version fits e =
    let front : length (take k rest) ≡ k = length-take-le k rest (omega (arith, len)) in
    let back : length (drop k rest) ≡ b = omega (arith, len, length-drop k rest) in
    record {
      is = e ∙ (λ i. to_be_bytes w32 (sym front i) ++ (to_be_bytes w32 (sym back i) ++ (to_be_bytes w64 seq ++ (to_be_bytes w32 ver ++ sym (take-append-drop k rest) i))));
      lawful = made_lawful (take k rest) seq ver (drop k rest) (omega (arith, front)) (omega (arith, front)) numbered version (omega (arith, back)) (IsBytes-take k rest fits);
    }

pub Written-stored : (bytes rest : List ℕ) (k seq ver : ℕ) → Written bytes rest k seq ver → IsStored bytes
Written-stored bytes rest k seq ver w = subst IsStored (sym w.is) (stored_again (made (take k rest) seq ver (drop k rest)) w.lawful)

pub Written-record : (bytes rest : List ℕ) (k seq ver : ℕ) → Written bytes rest k seq ver → stored_record bytes ≡ made (take k rest) seq ver (drop k rest)
Written-record bytes rest k seq ver w = ap stored_record w.is ∙ stored_is (made (take k rest) seq ver (drop k rest)) w.lawful

-- a key and a body that were joined are parted again
pub parts_again : (rest key body : List ℕ) (k seq ver : ℕ) → rest ≡ key ++ body → k ≡ length key → made (take k rest) seq ver (drop k rest) ≡ made key seq ver body
parts_again rest key body k seq ver e len = λ i. made (front i) seq ver (back i)
  where
    front : take k rest ≡ key
    front = (λ i. take (len i) (e i)) ∙ take_at key body (length key) refl

    back : drop k rest ≡ body
    back = (λ i. drop (len i) (e i)) ∙ drop_at key body (length key) refl
