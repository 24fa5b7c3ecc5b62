-- A fault of a record lies in the bytes that are left.
use Rattle.std.proofs.Common.{◌≡◌, ◌≤◌, ℕ, ◌+◌, ◌^◌, Bool, true, false, cond, ltb, leb, ◌&&◌, List, length, take, drop, Result, Ok, Err, refl, ap, arith}
use Rattle.std.specs.Prelude.{IfErr}
use Rattle.std.specs.Int.{Width, w32, w64, byte_len, from_be_bytes}
use Rattle.std.proofs.lemmas.Bool.{ltb-false}
use Rattle.std.proofs.lemmas.List.{length-drop}
use Rattle.lt_rec.specs.Record.{Record, time_of}
use Rattle.lt_rec.specs.declared.fault.Fault.{Fault}
use Rattle.lt_rec.specs.Reading.{◌>>=◌, Reads, number_at, bytes_at}
use Rattle.lt_block.specs.Reading.{is_key_len, may_follow, key_len_at, body_len_at, seq_at, record_at}

-- a field of n bytes at offset `at`: its fault is its first byte
record IsField {A : Type 0} (at n : ℕ) (bytes : List ℕ) (read : Result (A × List ℕ) ℕ) : Type 0 where
  fault : (f : ℕ) → read ≡ Err f → f ≡ at
  rest : (x : A × List ℕ) → read ≡ Ok x → length x.1 + n ≡ length bytes

abbrev taken : ℕ → List ℕ → Result (List ℕ × List ℕ) ℕ
taken n bytes = Ok (take n bytes, drop n bytes)

abbrev number_taken : Width → List ℕ → Result (ℕ × List ℕ) ℕ
number_taken w bytes = Ok (from_be_bytes w (take (byte_len w) bytes), drop (byte_len w) bytes)

bytes_field : (n at : ℕ) (bytes : List ℕ) → IsField at n bytes (bytes_at n at bytes)
bytes_field n at bytes = record { fault = λ f e. wrong (ltb (length bytes) n) f e; rest = λ x e. right (ltb (length bytes) n) refl x e }
  where
    wrong : (b : Bool) (f : ℕ) → cond b (Err at) (taken n bytes) ≡ Err f → f ≡ at
    wrong true f e = cc
    wrong false f e = absurd cc

    right : (b : Bool) → ltb (length bytes) n ≡ b → (x : List ℕ × List ℕ) → cond b (Err at) (taken n bytes) ≡ Ok x → length x.1 + n ≡ length bytes
    right true t x e = absurd cc
    right false t x e =
        let same : drop n bytes ≡ x.1 = cc in
        omega (arith, ap length same, length-drop n bytes, ltb-false (length bytes) n t)

number_field : (w : Width) (at : ℕ) (bytes : List ℕ) → IsField at (byte_len w) bytes (number_at w at bytes)
number_field w at bytes = record { fault = λ f e. wrong (ltb (length bytes) (byte_len w)) f e; rest = λ x e. right (ltb (length bytes) (byte_len w)) refl x e }
  where
    wrong : (b : Bool) (f : ℕ) → cond b (Err at) (number_taken w bytes) ≡ Err f → f ≡ at
    wrong true f e = cc
    wrong false f e = absurd cc

    right : (b : Bool) → ltb (length bytes) (byte_len w) ≡ b → (x : ℕ × List ℕ) → cond b (Err at) (number_taken w bytes) ≡ Ok x → length x.1 + byte_len w ≡ length bytes
    right true t x e = absurd cc
    right false t x e =
        let same : drop (byte_len w) bytes ≡ x.1 = cc in
        omega (arith, ap length same, length-drop (byte_len w) bytes, ltb-false (length bytes) (byte_len w) t)

no_test : (b : Bool) (x : ℕ × List ℕ) (at f : ℕ) → cond b (Ok x) (Err at) ≡ Err f → f ≡ at
no_test true x at f e = absurd cc
no_test false x at f e = cc

same_rest : (b : Bool) (x y : ℕ × List ℕ) (at : ℕ) → cond b (Ok x) (Err at) ≡ Ok y → length x.1 ≡ length y.1
same_rest true x y at e = let s : x.1 ≡ y.1 = cc in ap length s
same_rest false x y at e = absurd cc

tested : (test : ℕ × List ℕ → Bool) (at n : ℕ) (bytes : List ℕ) (read : Result (ℕ × List ℕ) ℕ) → IsField at n bytes read → IsField at n bytes (read >>= λ x. cond (test x) (Ok x) (Err at))
tested test at n bytes (Ok x) h = record { fault = λ f e. no_test (test x) x at f e; rest = λ y e. omega (arith, same_rest (test x) x y at e, h.rest x refl) }
tested test at n bytes (Err d) h = record { fault = λ f e. h.fault f e; rest = λ y e. absurd cc }

abbrev failed : {A : Type 0} → ℕ → Result A ℕ
failed at = Err at

err_at : {C : Type 0} (d f : ℕ) → failed {A = C} d ≡ failed {A = C} f → d ≡ f
err_at d f e = cc

-- a fault is the field's first byte, or lies behind it
field_then : {A B : Type 0} (at n : ℕ) (bytes : List ℕ) (read : Result (A × List ℕ) ℕ) (next : A × List ℕ → Result B ℕ) (f : ℕ) → IsField at n bytes read → ((x : A × List ℕ) → next x ≡ Err f → f ≤ at + n + length x.1) → (read >>= next) ≡ Err f → f ≤ at + length bytes
field_then at n bytes (Ok x) next f h go e = omega (arith, go x e, h.rest x refl)
field_then at n bytes (Err d) next f h go e = omega (arith, h.fault d refl, err_at d f e)

abbrev made : (seq ver : ℕ) → (key body : List ℕ) → Record
made seq ver key body = record { key = key; ts = time_of key; seq = seq; ver = ver; body = body }

abbrev from_body : (seq ver : ℕ) → (key : List ℕ) → List ℕ × List ℕ → Result (Record × List ℕ) ℕ
from_body seq ver key body = Ok (made seq ver key body.0, body.1)

abbrev from_key : (at key_len body_len seq ver : ℕ) → List ℕ × List ℕ → Result (Record × List ℕ) ℕ
from_key at key_len body_len seq ver key = bytes_at body_len (at + 20 + key_len) key.1 >>= from_body seq ver key.0

abbrev from_ver : (at key_len body_len seq : ℕ) → ℕ × List ℕ → Result (Record × List ℕ) ℕ
from_ver at key_len body_len seq ver = bytes_at key_len (at + 20) ver.1 >>= from_key at key_len body_len seq ver.0

abbrev from_seq : (at key_len body_len : ℕ) → ℕ × List ℕ → Result (Record × List ℕ) ℕ
from_seq at key_len body_len seq = number_at w32 (at + 16) seq.1 >>= from_ver at key_len body_len seq.0

abbrev from_body_len : (at key_len : ℕ) → ℕ × List ℕ → Result (Record × List ℕ) ℕ
from_body_len at key_len body_len = seq_at (at + 8) body_len.1 >>= from_seq at key_len body_len.0

abbrev from_key_len : (at : ℕ) → ℕ × List ℕ → Result (Record × List ℕ) ℕ
from_key_len at key_len = body_len_at (at + 4) key_len.1 >>= from_body_len at key_len.0

body_within : (at key_len body_len seq ver f : ℕ) (key : List ℕ × List ℕ) → from_key at key_len body_len seq ver key ≡ Err f → f ≤ at + 20 + key_len + length key.1
body_within at key_len body_len seq ver f key e =
    field_then (at + 20 + key_len) body_len key.1 (bytes_at body_len (at + 20 + key_len) key.1) (from_body seq ver key.0) f (bytes_field body_len (at + 20 + key_len) key.1) (λ x e2. absurd cc) e

key_within : (at key_len body_len seq f : ℕ) (ver : ℕ × List ℕ) → from_ver at key_len body_len seq ver ≡ Err f → f ≤ at + 20 + length ver.1
key_within at key_len body_len seq f ver e =
    field_then (at + 20) key_len ver.1 (bytes_at key_len (at + 20) ver.1) (from_key at key_len body_len seq ver.0) f (bytes_field key_len (at + 20) ver.1) (λ x e2. body_within at key_len body_len seq ver.0 f x e2) e

ver_within : (at key_len body_len f : ℕ) (seq : ℕ × List ℕ) → from_seq at key_len body_len seq ≡ Err f → f ≤ at + 16 + length seq.1
ver_within at key_len body_len f seq e =
    field_then (at + 16) 4 seq.1 (number_at w32 (at + 16) seq.1) (from_ver at key_len body_len seq.0) f (number_field w32 (at + 16) seq.1) (λ x e2. omega (arith, key_within at key_len body_len seq.0 f x e2)) e

seq_within : (at key_len f : ℕ) (body_len : ℕ × List ℕ) → from_body_len at key_len body_len ≡ Err f → f ≤ at + 8 + length body_len.1
unfolding seq_at
seq_within at key_len f body_len e =
    field_then (at + 8) 8 body_len.1 (seq_at (at + 8) body_len.1) (from_seq at key_len body_len.0) f (tested (λ n. ltb n.0 (2 ^ 62)) (at + 8) 8 body_len.1 (number_at w64 (at + 8) body_len.1) (number_field w64 (at + 8) body_len.1)) (λ x e2. omega (arith, ver_within at key_len body_len.0 f x e2)) e

body_len_within : (at f : ℕ) (key_len : ℕ × List ℕ) → from_key_len at key_len ≡ Err f → f ≤ at + 4 + length key_len.1
unfolding body_len_at
body_len_within at f key_len e =
    field_then (at + 4) 4 key_len.1 (body_len_at (at + 4) key_len.1) (from_body_len at key_len.0) f (tested (λ n. leb n.0 60000) (at + 4) 4 key_len.1 (number_at w32 (at + 4) key_len.1) (number_field w32 (at + 4) key_len.1)) (λ x e2. omega (arith, seq_within at key_len.0 f x e2)) e

pub record_within : (at f : ℕ) (last bytes : List ℕ) → record_at at last bytes ≡ Err f → f ≤ at + length bytes
unfolding record_at key_len_at
record_within at f last bytes e =
    field_then at 4 bytes (key_len_at at last bytes) (from_key_len at) f (tested (λ n. is_key_len n.0 && may_follow last n.0 bytes) at 4 bytes (number_at w32 at bytes) (number_field w32 at bytes)) (λ x e2. body_len_within at f x e2) e

pub reads_within : {X : Type 0} (view : X → Record × List ℕ) (r : Result X Fault) (at : ℕ) (last bytes : List ℕ) → Reads view r (record_at at last bytes) → IfErr r (λ fault. fault.at ≤ at + length bytes)
reads_within view (Ok x) at last bytes h = tt
reads_within view (Err fault) at last bytes h = record_within at fault.at last bytes h
