use Rattle.std.proofs.Common.{◌≡◌, length, sym, ap, ◌∙◌, arith}
use Rattle.std.specs.Prelude.{Ok}
use Rattle.lt_rec.specs.Record.{Record, made}
use Rattle.lt_block.proofs.Records.{record_is, is_found}
use Rattle.lt_block.proofs.reading.record_of.Goals as goal

pub new-requires : goal.new-requires
new-requires c =
    let read = record_is c.args.at c.args.last.now c.args.bytes.now (c.in_ok-key_len.key_len, c.in_ok-key_len.rest.now) (c.in_ok-body_len.body_len, c.in_ok-body_len.rest.now) (c.in_ok-_seq._seq, c.in_ok-_seq.rest.now) (c.in_ok-_ver._ver, c.in_ok-_ver.rest.now) (c.in_ok-_key._key.now, c.in_ok-_key.rest.now) (c.in_ok-_body._body.now, c.in_ok-_body.rest.now)
    c.in_ok-key_len.ensures.exact c.in_ok-body_len.ensures.exact c.in_ok-_seq.ensures.exact c.in_ok-_ver.ensures.exact c.in_ok-_key.ensures.exact c.in_ok-_body.ensures.exact in
    (is_found c.args.at c.args.last.now c.args.bytes.now c.split_at.result.0.now (made c.in_ok-_key._key.now c.in_ok-_seq._seq c.in_ok-_ver._ver c.in_ok-_body._body.now) c.in_ok-_body.rest.now (λ i. omega (arith, c.type_inv.bytes i)) read c.split_at.ensures.front).stored_is

pub returns-clause-exact : goal.returns-clause-exact
returns-clause-exact c =
    let read = record_is c.args.at c.args.last.now c.args.bytes.now (c.in_ok-key_len.key_len, c.in_ok-key_len.rest.now) (c.in_ok-body_len.body_len, c.in_ok-body_len.rest.now) (c.in_ok-_seq._seq, c.in_ok-_seq.rest.now) (c.in_ok-_ver._ver, c.in_ok-_ver.rest.now) (c.in_ok-_key._key.now, c.in_ok-_key.rest.now) (c.in_ok-_body._body.now, c.in_ok-_body.rest.now)
    c.in_ok-key_len.ensures.exact c.in_ok-body_len.ensures.exact c.in_ok-_seq.ensures.exact c.in_ok-_ver.ensures.exact c.in_ok-_key.ensures.exact c.in_ok-_body.ensures.exact in
    let found = is_found c.args.at c.args.last.now c.args.bytes.now c.split_at.result.0.now (made c.in_ok-_key._key.now c.in_ok-_seq._seq c.in_ok-_ver._ver c.in_ok-_body._body.now) c.in_ok-_body.rest.now (λ i. omega (arith, c.type_inv.bytes i)) read c.split_at.ensures.front in
    read ∙ ap (λ (r : Record). Ok (r, c.in_ok-_body.rest.now)) (sym (c.new.ensures ∙ found.record_is))

pub returns-clause-len : goal.returns-clause-len
returns-clause-len c =
    let read = record_is c.args.at c.args.last.now c.args.bytes.now (c.in_ok-key_len.key_len, c.in_ok-key_len.rest.now) (c.in_ok-body_len.body_len, c.in_ok-body_len.rest.now) (c.in_ok-_seq._seq, c.in_ok-_seq.rest.now) (c.in_ok-_ver._ver, c.in_ok-_ver.rest.now) (c.in_ok-_key._key.now, c.in_ok-_key.rest.now) (c.in_ok-_body._body.now, c.in_ok-_body.rest.now)
    c.in_ok-key_len.ensures.exact c.in_ok-body_len.ensures.exact c.in_ok-_seq.ensures.exact c.in_ok-_ver.ensures.exact c.in_ok-_key.ensures.exact c.in_ok-_body.ensures.exact in
    let found = is_found c.args.at c.args.last.now c.args.bytes.now c.split_at.result.0.now (made c.in_ok-_key._key.now c.in_ok-_seq._seq c.in_ok-_ver._ver c.in_ok-_body._body.now) c.in_ok-_body.rest.now (λ i. omega (arith, c.type_inv.bytes i)) read c.split_at.ensures.front in
    let same : c.new.result ≡ made c.in_ok-_key._key.now c.in_ok-_seq._seq c.in_ok-_ver._ver c.in_ok-_body._body.now = c.new.ensures ∙ found.record_is in
    omega (arith, found.len, ap (λ (r : Record). length r.key) same, ap (λ (r : Record). length r.body) same)
