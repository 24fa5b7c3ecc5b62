use Rattle.std.proofs.Common.{◌≡◌, ◌≤◌, ◌+◌, ◌-◌, refl, ℕ, List, ◌++◌, length, take, drop, ap, sym, ◌∙◌, arith, append_assoc, take_at, drop_at}
use Rattle.std.proofs.lemmas.List.{length-append}
use Rattle.lt_schema.specs.Shapes.{ColumnShape}
use Rattle.lt_codec.specs.Spelling.{in_key, in_body, spelled_by, key_bytes, body_bytes}
use Rattle.lt_codec.proofs.Lengths.{IsSmall, small, spelled_front}
use Rattle.lt_codec.proofs.writing.rec_of.Goals as goal

-- a key and a body behind a header
record Parts (bytes key body : List ℕ) (n : ℕ) : Type 0 where
  len : n ≡ length key
  key_is : take n (drop 20 bytes) ≡ key
  body_is : drop n (drop 20 bytes) ≡ body
  all : length bytes ≡ 20 + length key + length body

keyed : (bytes head key : List ℕ) → length head ≡ 20 → bytes ≡ head ++ key → length bytes - 20 ≡ length key
keyed bytes head key long is = omega (arith, ap length is, length-append head key)

parts : (bytes head key body : List ℕ) (n : ℕ) → length head ≡ 20 → bytes ≡ (head ++ key) ++ body → n ≡ length key → Parts bytes key body n
parts bytes head key body n long all len =
    let tail : drop 20 bytes ≡ key ++ body = ap (drop 20) (all ∙ append_assoc head key body) ∙ drop_at head (key ++ body) 20 long in
    record {
      len = len;
      key_is = rw (tail, len) (take_at key body (length key) refl);
      body_is = rw (tail, len) (drop_at key body (length key) refl);
      all = omega (arith, ap length all, length-append (head ++ key) body, length-append head key);
    }

pub put_body-requires-clause-kinds : goal.put_body-requires-clause-kinds
put_body-requires-clause-kinds c =
    let schema = c.args.schema.now in
    let row = c.args.row.now in
    let is : IsSmall schema row = small schema row c.columns.ensures.lawful c.requires.passes in
    let k : c.key_len-key_len.result ≡ schema.key_len = c.key_len-key_len.ensures in
    let columns : c.as_slice.result.now ≡ schema.columns = c.as_slice.ensures ∙ c.columns.ensures.columns in
    let body_columns : c.split_at.result.1.now ≡ drop schema.key_len schema.columns = c.split_at.ensures.back ∙ ap (λ (n : ℕ). drop n c.as_slice.result.now) k ∙ ap (drop schema.key_len) columns in
    let body_values : c.split_at-2.result.1.now ≡ drop schema.key_len row = c.split_at-2.ensures.back ∙ ap (λ (n : ℕ). drop n row) k in
    rw (body_columns, body_values) is.kinds

pub put_body-requires-clause-small : goal.put_body-requires-clause-small
put_body-requires-clause-small c =
    let schema = c.args.schema.now in
    let row = c.args.row.now in
    let is : IsSmall schema row = small schema row c.columns.ensures.lawful c.requires.passes in
    let k : c.key_len-key_len.result ≡ schema.key_len = c.key_len-key_len.ensures in
    let columns : c.as_slice.result.now ≡ schema.columns = c.as_slice.ensures ∙ c.columns.ensures.columns in
    let body_columns : c.split_at.result.1.now ≡ drop schema.key_len schema.columns = c.split_at.ensures.back ∙ ap (λ (n : ℕ). drop n c.as_slice.result.now) k ∙ ap (drop schema.key_len) columns in
    let body_values : c.split_at-2.result.1.now ≡ drop schema.key_len row = c.split_at-2.ensures.back ∙ ap (λ (n : ℕ). drop n row) k in
    rw (body_columns, body_values) is.under

pub from_bytes-requires-clause-long_enough : goal.from_bytes-requires-clause-long_enough
from_bytes-requires-clause-long_enough c =
    let schema = c.args.schema.now in
    let row = c.args.row.now in
    let is : IsSmall schema row = small schema row c.columns.ensures.lawful c.requires.passes in
    let k : c.key_len-key_len.result ≡ schema.key_len = c.key_len-key_len.ensures in
    let columns : c.as_slice.result.now ≡ schema.columns = c.as_slice.ensures ∙ c.columns.ensures.columns in
    let key_columns : c.split_at.result.0.now ≡ take schema.key_len schema.columns = c.split_at.ensures.front ∙ ap (λ (n : ℕ). take n c.as_slice.result.now) k ∙ ap (take schema.key_len) columns in
    let key_values : c.split_at-2.result.0.now ≡ take schema.key_len row = c.split_at-2.ensures.front ∙ ap (λ (n : ℕ). take n row) k in
    let spelled : spelled_by in_key c.split_at.result.0.now c.split_at-2.result.0.now ≡ key_bytes schema row = ap (λ (columns : List ColumnShape). spelled_by in_key columns c.split_at-2.result.0.now) key_columns
    ∙ ap (spelled_by in_key (take schema.key_len schema.columns)) key_values ∙ spelled_front in_key schema.key_len schema.columns row in
    let head = c.in_ok-bytes.bytes.items in
    let key : c.put_key.new.out.items ≡ head ++ key_bytes schema row = c.in_ok-put_key.ensures.value ∙ ap (λ (b : List ℕ). head ++ b) spelled in
    let key_end : length c.as_slice-2.result.now - 20 ≡ length (key_bytes schema row) = ap (λ (b : List ℕ). length b - 20) c.as_slice-2.ensures.value ∙ keyed c.put_key.new.out.items head (key_bytes schema row) c.in_ok-bytes.ensures.header key in
    omega (arith, key_end, is.long)

pub from_bytes-requires-clause-short_enough : goal.from_bytes-requires-clause-short_enough
from_bytes-requires-clause-short_enough c =
    let schema = c.args.schema.now in
    let row = c.args.row.now in
    let is : IsSmall schema row = small schema row c.columns.ensures.lawful c.requires.passes in
    let k : c.key_len-key_len.result ≡ schema.key_len = c.key_len-key_len.ensures in
    let columns : c.as_slice.result.now ≡ schema.columns = c.as_slice.ensures ∙ c.columns.ensures.columns in
    let key_columns : c.split_at.result.0.now ≡ take schema.key_len schema.columns = c.split_at.ensures.front ∙ ap (λ (n : ℕ). take n c.as_slice.result.now) k ∙ ap (take schema.key_len) columns in
    let key_values : c.split_at-2.result.0.now ≡ take schema.key_len row = c.split_at-2.ensures.front ∙ ap (λ (n : ℕ). take n row) k in
    let spelled : spelled_by in_key c.split_at.result.0.now c.split_at-2.result.0.now ≡ key_bytes schema row = ap (λ (columns : List ColumnShape). spelled_by in_key columns c.split_at-2.result.0.now) key_columns
    ∙ ap (spelled_by in_key (take schema.key_len schema.columns)) key_values ∙ spelled_front in_key schema.key_len schema.columns row in
    let head = c.in_ok-bytes.bytes.items in
    let key : c.put_key.new.out.items ≡ head ++ key_bytes schema row = c.in_ok-put_key.ensures.value ∙ ap (λ (b : List ℕ). head ++ b) spelled in
    let key_end : length c.as_slice-2.result.now - 20 ≡ length (key_bytes schema row) = ap (λ (b : List ℕ). length b - 20) c.as_slice-2.ensures.value ∙ keyed c.put_key.new.out.items head (key_bytes schema row) c.in_ok-bytes.ensures.header key in
    omega (arith, key_end, is.key_len)

pub from_bytes-requires-clause-within : goal.from_bytes-requires-clause-within
from_bytes-requires-clause-within c =
    let schema = c.args.schema.now in
    let row = c.args.row.now in
    let is : IsSmall schema row = small schema row c.columns.ensures.lawful c.requires.passes in
    let k : c.key_len-key_len.result ≡ schema.key_len = c.key_len-key_len.ensures in
    let columns : c.as_slice.result.now ≡ schema.columns = c.as_slice.ensures ∙ c.columns.ensures.columns in
    let key_columns : c.split_at.result.0.now ≡ take schema.key_len schema.columns = c.split_at.ensures.front ∙ ap (λ (n : ℕ). take n c.as_slice.result.now) k ∙ ap (take schema.key_len) columns in
    let key_values : c.split_at-2.result.0.now ≡ take schema.key_len row = c.split_at-2.ensures.front ∙ ap (λ (n : ℕ). take n row) k in
    let spelled : spelled_by in_key c.split_at.result.0.now c.split_at-2.result.0.now ≡ key_bytes schema row = ap (λ (columns : List ColumnShape). spelled_by in_key columns c.split_at-2.result.0.now) key_columns
    ∙ ap (spelled_by in_key (take schema.key_len schema.columns)) key_values ∙ spelled_front in_key schema.key_len schema.columns row in
    let head = c.in_ok-bytes.bytes.items in
    let key : c.put_key.new.out.items ≡ head ++ key_bytes schema row = c.in_ok-put_key.ensures.value ∙ ap (λ (b : List ℕ). head ++ b) spelled in
    let key_end : length c.as_slice-2.result.now - 20 ≡ length (key_bytes schema row) = ap (λ (b : List ℕ). length b - 20) c.as_slice-2.ensures.value ∙ keyed c.put_key.new.out.items head (key_bytes schema row) c.in_ok-bytes.ensures.header key in
    let body_columns : c.split_at.result.1.now ≡ drop schema.key_len schema.columns = c.split_at.ensures.back ∙ ap (λ (n : ℕ). drop n c.as_slice.result.now) k ∙ ap (drop schema.key_len) columns in
    let body_values : c.split_at-2.result.1.now ≡ drop schema.key_len row = c.split_at-2.ensures.back ∙ ap (λ (n : ℕ). drop n row) k in
    let body : spelled_by in_body c.split_at.result.1.now c.split_at-2.result.1.now ≡ body_bytes schema row = ap (λ (columns : List ColumnShape). spelled_by in_body columns c.split_at-2.result.1.now) body_columns
    ∙ ap (spelled_by in_body (drop schema.key_len schema.columns)) body_values in
    let bytes : c.put_body.new.out.items ≡ (head ++ key_bytes schema row) ++ body_bytes schema row = c.in_ok-put_body.ensures.value
    ∙ ap (λ (b : List ℕ). b ++ spelled_by in_body c.split_at.result.1.now c.split_at-2.result.1.now) key ∙ ap (λ (b : List ℕ). (head ++ key_bytes schema row) ++ b) body in
    let p = parts c.put_body.new.out.items head (key_bytes schema row) (body_bytes schema row) (length c.as_slice-2.result.now - 20) c.in_ok-bytes.ensures.header bytes key_end in
    omega (arith, p.all, p.len)

pub from_bytes-requires-clause-small_body : goal.from_bytes-requires-clause-small_body
from_bytes-requires-clause-small_body c =
    let schema = c.args.schema.now in
    let row = c.args.row.now in
    let is : IsSmall schema row = small schema row c.columns.ensures.lawful c.requires.passes in
    let k : c.key_len-key_len.result ≡ schema.key_len = c.key_len-key_len.ensures in
    let columns : c.as_slice.result.now ≡ schema.columns = c.as_slice.ensures ∙ c.columns.ensures.columns in
    let key_columns : c.split_at.result.0.now ≡ take schema.key_len schema.columns = c.split_at.ensures.front ∙ ap (λ (n : ℕ). take n c.as_slice.result.now) k ∙ ap (take schema.key_len) columns in
    let key_values : c.split_at-2.result.0.now ≡ take schema.key_len row = c.split_at-2.ensures.front ∙ ap (λ (n : ℕ). take n row) k in
    let spelled : spelled_by in_key c.split_at.result.0.now c.split_at-2.result.0.now ≡ key_bytes schema row = ap (λ (columns : List ColumnShape). spelled_by in_key columns c.split_at-2.result.0.now) key_columns
    ∙ ap (spelled_by in_key (take schema.key_len schema.columns)) key_values ∙ spelled_front in_key schema.key_len schema.columns row in
    let head = c.in_ok-bytes.bytes.items in
    let key : c.put_key.new.out.items ≡ head ++ key_bytes schema row = c.in_ok-put_key.ensures.value ∙ ap (λ (b : List ℕ). head ++ b) spelled in
    let key_end : length c.as_slice-2.result.now - 20 ≡ length (key_bytes schema row) = ap (λ (b : List ℕ). length b - 20) c.as_slice-2.ensures.value ∙ keyed c.put_key.new.out.items head (key_bytes schema row) c.in_ok-bytes.ensures.header key in
    let body_columns : c.split_at.result.1.now ≡ drop schema.key_len schema.columns = c.split_at.ensures.back ∙ ap (λ (n : ℕ). drop n c.as_slice.result.now) k ∙ ap (drop schema.key_len) columns in
    let body_values : c.split_at-2.result.1.now ≡ drop schema.key_len row = c.split_at-2.ensures.back ∙ ap (λ (n : ℕ). drop n row) k in
    let body : spelled_by in_body c.split_at.result.1.now c.split_at-2.result.1.now ≡ body_bytes schema row = ap (λ (columns : List ColumnShape). spelled_by in_body columns c.split_at-2.result.1.now) body_columns
    ∙ ap (spelled_by in_body (drop schema.key_len schema.columns)) body_values in
    let bytes : c.put_body.new.out.items ≡ (head ++ key_bytes schema row) ++ body_bytes schema row = c.in_ok-put_body.ensures.value
    ∙ ap (λ (b : List ℕ). b ++ spelled_by in_body c.split_at.result.1.now c.split_at-2.result.1.now) key ∙ ap (λ (b : List ℕ). (head ++ key_bytes schema row) ++ b) body in
    let p = parts c.put_body.new.out.items head (key_bytes schema row) (body_bytes schema row) (length c.as_slice-2.result.now - 20) c.in_ok-bytes.ensures.header bytes key_end in
    omega (arith, p.all, p.len, is.body_len)

pub returns-clause-value : goal.returns-clause-value
returns-clause-value c =
    let schema = c.args.schema.now in
    let row = c.args.row.now in
    let is : IsSmall schema row = small schema row c.columns.ensures.lawful c.requires.passes in
    let k : c.key_len-key_len.result ≡ schema.key_len = c.key_len-key_len.ensures in
    let columns : c.as_slice.result.now ≡ schema.columns = c.as_slice.ensures ∙ c.columns.ensures.columns in
    let key_columns : c.split_at.result.0.now ≡ take schema.key_len schema.columns = c.split_at.ensures.front ∙ ap (λ (n : ℕ). take n c.as_slice.result.now) k ∙ ap (take schema.key_len) columns in
    let key_values : c.split_at-2.result.0.now ≡ take schema.key_len row = c.split_at-2.ensures.front ∙ ap (λ (n : ℕ). take n row) k in
    let spelled : spelled_by in_key c.split_at.result.0.now c.split_at-2.result.0.now ≡ key_bytes schema row = ap (λ (columns : List ColumnShape). spelled_by in_key columns c.split_at-2.result.0.now) key_columns
    ∙ ap (spelled_by in_key (take schema.key_len schema.columns)) key_values ∙ spelled_front in_key schema.key_len schema.columns row in
    let head = c.in_ok-bytes.bytes.items in
    let key : c.put_key.new.out.items ≡ head ++ key_bytes schema row = c.in_ok-put_key.ensures.value ∙ ap (λ (b : List ℕ). head ++ b) spelled in
    let key_end : length c.as_slice-2.result.now - 20 ≡ length (key_bytes schema row) = ap (λ (b : List ℕ). length b - 20) c.as_slice-2.ensures.value ∙ keyed c.put_key.new.out.items head (key_bytes schema row) c.in_ok-bytes.ensures.header key in
    let body_columns : c.split_at.result.1.now ≡ drop schema.key_len schema.columns = c.split_at.ensures.back ∙ ap (λ (n : ℕ). drop n c.as_slice.result.now) k ∙ ap (drop schema.key_len) columns in
    let body_values : c.split_at-2.result.1.now ≡ drop schema.key_len row = c.split_at-2.ensures.back ∙ ap (λ (n : ℕ). drop n row) k in
    let body : spelled_by in_body c.split_at.result.1.now c.split_at-2.result.1.now ≡ body_bytes schema row = ap (λ (columns : List ColumnShape). spelled_by in_body columns c.split_at-2.result.1.now) body_columns
    ∙ ap (spelled_by in_body (drop schema.key_len schema.columns)) body_values in
    let bytes : c.put_body.new.out.items ≡ (head ++ key_bytes schema row) ++ body_bytes schema row = c.in_ok-put_body.ensures.value
    ∙ ap (λ (b : List ℕ). b ++ spelled_by in_body c.split_at.result.1.now c.split_at-2.result.1.now) key ∙ ap (λ (b : List ℕ). (head ++ key_bytes schema row) ++ b) body in
    let p = parts c.put_body.new.out.items head (key_bytes schema row) (body_bytes schema row) (length c.as_slice-2.result.now - 20) c.in_ok-bytes.ensures.header bytes key_end in
    c.from_bytes.ensures.parts ∙ rw (p.key_is, p.body_is, is.timed) refl
