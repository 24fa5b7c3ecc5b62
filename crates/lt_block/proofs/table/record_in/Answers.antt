use Rattle.std.proofs.Common.{◌≡◌, ℕ, suc, List, length, get_or, drop, sym, ap, subst, ◌∙◌, arith}
use Rattle.std.specs.List.{flat_map}
use Rattle.std.proofs.lemmas.List.{get_or_default}
use Rattle.lt_rec.specs.Record.{IsRecord, spelled}
use Rattle.lt_block.specs.Below.{nobody}
use Rattle.lt_block.specs.Reading.{records_in}
use Rattle.lt_block.proofs.Blocks.{table_len, lies}
use Rattle.lt_block.proofs.table.record_in.Goals as goal

pub offset_in-requires : goal.offset_in-requires
offset_in-requires c = omega (arith, c.requires.within, ap length c.as_slice-2.ensures.value, table_len c.args.bytes.now c.args.offsets.now.items c.requires.table)

pub split_at-requires : goal.split_at-requires
split_at-requires c =
    let there = lies c.args.bytes.now c.args.offsets.now.items c.args.i nobody c.requires.table c.requires.within in
    let place : c.offset_in.result ≡ get_or c.args.offsets.now.items c.args.i 0 = c.offset_in.ensures ∙ ap (λ (o : List ℕ). get_or o c.args.i 0) c.as_slice-2.ensures.value in
    omega (arith, there.within, place, ap length c.as_slice.ensures)

pub first_in-requires : goal.first_in-requires
first_in-requires c =
    let there = lies c.args.bytes.now c.args.offsets.now.items c.args.i nobody c.requires.table c.requires.within in
    let place : c.offset_in.result ≡ get_or c.args.offsets.now.items c.args.i 0 = c.offset_in.ensures ∙ ap (λ (o : List ℕ). get_or o c.args.i 0) c.as_slice-2.ensures.value in
    record {
      rec = get_or (records_in c.args.bytes.now) c.args.i nobody;
      rest = flat_map spelled (drop (suc c.args.i) (records_in c.args.bytes.now));
      lawful = there.lawful;
      is = c.split_at.ensures.back ∙ (ap (λ (n : ℕ). drop n c.as_slice.result.now) place ∙ (ap (drop (get_or c.args.offsets.now.items c.args.i 0)) c.as_slice.ensures ∙ there.begins));
    }

pub returns : goal.returns
returns c =
    let there = lies c.args.bytes.now c.args.offsets.now.items c.args.i nobody c.requires.table c.requires.within in
    let place : c.offset_in.result ≡ get_or c.args.offsets.now.items c.args.i 0 = c.offset_in.ensures ∙ ap (λ (o : List ℕ). get_or o c.args.i 0) c.as_slice-2.ensures.value in
    let is : c.first_in.result ≡ get_or (records_in c.args.bytes.now) c.args.i nobody =
    c.first_in.ensures.exact (get_or (records_in c.args.bytes.now) c.args.i nobody) (flat_map spelled (drop (suc c.args.i) (records_in c.args.bytes.now))) there.lawful
    (c.split_at.ensures.back ∙ (ap (λ (n : ℕ). drop n c.as_slice.result.now) place ∙ (ap (drop (get_or c.args.offsets.now.items c.args.i 0)) c.as_slice.ensures ∙ there.begins))) in
    record {
      value = sym (get_or_default (records_in c.args.bytes.now) c.args.i nobody c.first_in.result c.requires.within) ∙ sym is;
      lawful = subst IsRecord (sym is) there.lawful;
    }
