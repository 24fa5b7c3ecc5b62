use Rattle.std.proofs.Common.{◌≡◌, ◌+◌, List, length, take, get_or, Some, sym, ap, subst, ◌∙◌, arith}
use Rattle.std.specs.Prelude.{All, IfSome, IfNone, slice_get}
use Rattle.std.proofs.lemmas.Option.{get_or_from_slice_get, slice_get_within}
use Rattle.lt_rec.specs.declared.listed.Listed.{Listed}
use Rattle.lt_block.specs.Spelling.{places}
use Rattle.lt_layout.specs.Spelling.{Entry, blocks_spelled, listed_totals}
use Rattle.lt_layout.proofs.Blocks.{length_entries}
use Rattle.lt_tablet.specs.Loaded.{blocks_in}
use Rattle.lt_loading.specs.Rows.{IsOfRow, IsFirstFault}
use Rattle.lt_loading.proofs.Offsets.{one_more, all_joined, blocks_ok, blocks_fault, entry_there, size_is, offset_small, error_at, min_of}
use Rattle.lt_loading.proofs.tablets.check_rows.Goals as goal

pub returns-in-Some-clause-fault : goal.returns-in-Some-clause-fault
returns-in-Some-clause-fault g c = λ honest.
    let told = c.count-i-end.ensures.honest honest in
    let blocks = blocks_in c.args.tablet.now in
    let there : slice_get (blocks_in c.args.tablet.now) c.loop-i.i ≡ Some c.in_ok-block.block = c.in_ok-block.ensures.value honest in
    let first : IsFirstFault c.args.schemas.now c.in_ok-block.block c.in-Some.place = subst (λ o. IfSome o (IsFirstFault c.args.schemas.now c.in_ok-block.block)) c.in-Some.is c.in_ok-first_fault.ensures.first in
    let entry = entry_there 8 blocks c.loop-i.i c.in_ok-block.block there in
    let start : c.start.result ≡ 8 + length (blocks_spelled (take c.loop-i.i blocks)) = c.start.ensures entry.e (ap (λ (es : List Entry). slice_get es c.loop-i.i) told.index_is ∙ entry.there) ∙ entry.offset_is in
    let size = size_is (listed_totals c.args.tablet.now.listed) c.args.tablet.now.listed.bytes c.args.tablet.now.bytes blocks told.read in
    let small = offset_small blocks c.args.tablet.now.bytes c.loop-i.i c.in_ok-block.block c.in-Some.place told.tablet told.spelled (omega (arith, size, c.requires)) there first.within in
    let at : c.saturating_add-at.result ≡ 8 + length (blocks_spelled (take c.loop-i.i blocks)) + get_or (places 4 c.in_ok-block.block) c.in-Some.place 0 =
    c.saturating_add-at.ensures ∙ min_of c.start.result c.at.result (8 + length (blocks_spelled (take c.loop-i.i blocks))) (get_or (places 4 c.in_ok-block.block) c.in-Some.place 0) start c.at.ensures.exact small in
    (ap (λ (l : Listed). l.file) c.listed.ensures, blocks_fault c.args.schemas.now 8 blocks c.loop-i.i c.in_ok-block.block c.in-Some.place there (c.loop-i.invariant.rows honest) first ∙ error_at _ _ (sym at))

pub loop-i-preserved : goal.loop-i-preserved
loop-i-preserved g c = record {
  end = c.loop-i.invariant.end;
  later = omega (arith, c.loop-i.invariant.later, c.in_ok-block.ensures.cause.later);
  rows = λ honest.
      let there : slice_get (blocks_in c.args.tablet.now) c.loop-i.i ≡ Some c.in_ok-block.block = c.in_ok-block.ensures.value honest in
      let rows : All (IsOfRow c.args.schemas.now) c.in_ok-block.block = subst (λ o. IfNone o (All (IsOfRow c.args.schemas.now) c.in_ok-block.block)) c.in-None.is c.in_ok-first_fault.ensures.rows in
      one_more (All (IsOfRow c.args.schemas.now)) (blocks_in c.args.tablet.now) c.loop-i.i c.in_ok-block.block (slice_get_within (blocks_in c.args.tablet.now) c.loop-i.i c.in_ok-block.block there)
      (get_or_from_slice_get (blocks_in c.args.tablet.now) c.loop-i.i c.in_ok-block.block c.in_ok-block.block there) (c.loop-i.invariant.rows honest) rows;
}

pub returns-clause-rows : goal.returns-clause-rows
returns-clause-rows g c = λ honest.
    let told = c.count-i-end.ensures.honest honest in
    let many : length c.args.tablet.now.index ≡ length (blocks_in c.args.tablet.now) = ap length told.index_is ∙ length_entries 8 (blocks_in c.args.tablet.now) in
    all_joined c.args.schemas.now (blocks_in c.args.tablet.now) (λ k d lt. c.loop-i.invariant.rows honest k d (omega (arith, many, lt, c.loop-i-test.false, c.loop-i.invariant.end)))

pub returns-clause-read : goal.returns-clause-read
returns-clause-read g c = λ honest.
    let told = c.count-i-end.ensures.honest honest in
    let many : length c.args.tablet.now.index ≡ length (blocks_in c.args.tablet.now) = ap length told.index_is ∙ length_entries 8 (blocks_in c.args.tablet.now) in
    blocks_ok c.args.schemas.now 8 (blocks_in c.args.tablet.now) (λ k d lt. c.loop-i.invariant.rows honest k d (omega (arith, many, lt, c.loop-i-test.false, c.loop-i.invariant.end)))
