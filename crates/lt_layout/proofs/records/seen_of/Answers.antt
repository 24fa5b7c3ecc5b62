use Rattle.std.proofs.Common.{◌≡◌, ◌^◌, ◌&&◌, leb, ltb, true, refl, sym, ◌∙◌, arith}
use Rattle.lt_rec.specs.Bytes.{is_less}
use Rattle.lt_rec.specs.Record.{time_of}
use Rattle.lt_block.specs.Reading.{is_key_len}
use Rattle.lt_rec.proofs.Reading.{holds_ok}
use Rattle.lt_layout.proofs.Seen.{seen_read}
use Rattle.lt_layout.proofs.records.seen_of.Goals as goal

pub returns-clause-seen : goal.returns-clause-seen
returns-clause-seen c =
    let fit : (is_key_len c.in_ok-key_len.key_len && (leb c.in_ok-body_len.body_len 60000 && ltb c.in_ok-seq.seq (2 ^ 62))) ≡ true = sym c.are_fit.ensures ∙ holds_ok c.are_fit.result c.args.at c.in_ok-test_at-2.field-0 c.in_ok-test_at-2.ensures.exact in
    let above : is_less c.args.last.now c.in_ok-key.key.now ≡ true = sym c.rises.ensures ∙ holds_ok c.rises.result c.args.at c.in_ok-test_at-3.field-0 c.in_ok-test_at-3.ensures.exact in
    record {
      rec = record { key = c.in_ok-key.key.now; ts = time_of c.in_ok-key.key.now; seq = c.in_ok-seq.seq; ver = c.in_ok-_ver._ver; body = c.in_ok-_body._body.now };
      read_is = seen_read c.args.at c.in_ok-key_len.key_len c.in_ok-body_len.body_len c.in_ok-seq.seq c.in_ok-_ver._ver c.args.last.now c.args.bytes.now c.in_ok-key_len.rest.now c.in_ok-body_len.rest.now c.in_ok-seq.rest.now c.in_ok-_ver.rest.now c.in_ok-key.key.now c.in_ok-key.rest.now c.in_ok-_body._body.now c.in_ok-_body.rest.now c.in_ok-key_len.ensures.exact c.in_ok-body_len.ensures.exact c.in_ok-seq.ensures.exact c.in_ok-_ver.ensures.exact c.in_ok-key.ensures.exact c.in_ok-_body.ensures.exact fit above;
      key_is = refl;
      ts_is = sym c.time_of-ts.ensures;
      seq_is = refl;
      len = omega (arith, c.in_ok-key_len.ensures.len, c.in_ok-body_len.ensures.len, c.in_ok-seq.ensures.len, c.in_ok-_ver.ensures.len, c.in_ok-key.ensures.len, c.in_ok-key.ensures.front_len, c.in_ok-_body.ensures.len, c.in_ok-_body.ensures.front_len);
    }
