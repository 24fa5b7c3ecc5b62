use Rattle.std.proofs.Common.{List, sym, subst, arith}
use Rattle.std.specs.Prelude.{IsTrue}
use Rattle.lt_schema.specs.Shapes.{ColumnShape}
use Rattle.lt_schema.specs.Lawful.{is_schema}
use Rattle.lt_rec.specs.Reading.{is_within}
use Rattle.lt_desc.proofs.Taken.{where32}
use Rattle.lt_desc.proofs.First.{within_parts}
use Rattle.lt_desc.proofs.ColumnText.{columns_read, schema_of}
use Rattle.lt_desc.proofs.changes.first_of.Goals as goal

pub new-requires : goal.new-requires
new-requires c =
    let bytes = c.args.bytes.now in
    let a = where32 (is_within 1 64) c.args.total c.args.bytes.now (c.in_ok-key_len.key_len, c.in_ok-key_len.rest.now) (λ i. omega (arith, c.type_inv.bytes i)) c.in_ok-key_len.ensures.exact in
    let b = where32 (is_within c.in_ok-key_len.key_len 64) c.args.total c.in_ok-key_len.rest.now (c.in_ok-count.count, c.in_ok-count.rest.now) a.takes.rest_fits c.in_ok-count.ensures.exact in
    let wa = within_parts 1 64 c.in_ok-key_len.key_len a.passes in
    let wb = within_parts c.in_ok-key_len.key_len 64 c.in_ok-count.count b.passes in
    let r = columns_read c.in_ok-key_len.key_len c.in_ok-count.count c.args.total c.in_ok-count.rest.now (c.in_ok-columns.columns.items, c.in_ok-columns.rest.now) wa.0 wb.0 wb.1 b.takes.rest_fits c.in_ok-columns.ensures.exact in
    subst (λ (cs : List ColumnShape). IsTrue (is_schema (schema_of c.in_ok-key_len.key_len cs))) (sym c.from_vec.ensures) r.2
