use Rattle.std.proofs.Common.{◌≡◌, ◌+◌, ◌-◌, ◌++◌, ◌∷◌, ℕ, List, [], Err, length, ap, refl, sym, ◌∙◌, append_assoc, arith}
use Rattle.std.specs.Prelude.{nat_eq, option_copied, Some, None}
use Rattle.std.proofs.lemmas.List.{append-nil}
use Rattle.std.proofs.lemmas.Result.{err_from_is_err_and}
use Rattle.lt_rec.specs.Record.{stored_len, stem_of}
use Rattle.lt_layout.specs.Spelling.{Entry, totals_of, hashes_from}
use Rattle.lt_layout.specs.Reading.{own_records_at, own_block_at}
use Rattle.lt_layout.specs.Surveying.{Found}
use Rattle.lt_layout.proofs.Loops.{records_start, block_stop, block_done, block_read, records_next, checks_end}
use Rattle.lt_layout.proofs.Stems.{found_by, hashes_next, last_of_push, own_last, starts}
use Rattle.lt_layout.proofs.survey.survey_block.Goals as goal

pub loop-done-init : goal.loop-done-init
loop-done-init c = (
  omega (arith, c.in_ok-count.ensures.len),
  [],
  records_start c.args.totals.now c.args.entry.now c.in_ok-count.count (c.in_ok-count.count - 0) (length c.args.bytes.now - length c.in_ok-count.behind.now) c.in_ok-count.behind.now (omega arith) (omega (arith, c.in_ok-count.ensures.len)),
  λ recs before old. (
    ap (λ (f : Found). f.totals) (c.survey.view_is ∙ old) ∙ ap totals_of (sym (append-nil recs)),
    ap (λ (f : Found). f.hashes) (c.survey.view_is ∙ old) ∙ ap (hashes_from None) (sym (append-nil recs)),
  ),
  λ none. refl,
  λ some. absurd (omega (arith, some)),
)

pub returns-in_err-seen-clause-fault : goal.returns-in_err-seen-clause-fault
returns-in_err-seen-clause-fault c =
    let p = err_from_is_err_and c.from_residual-in_err-seen.result c.from_residual-in_err-seen.ensures.1 in
    rw (p.1, p.2) (block_stop c.loop-done.invariant.1 c.args.totals.now c.args.entry.now c.args.bytes.now c.entry.inside.count c.in_ok-count.count c.in_ok-count.behind.now c.in_ok-test_at.field-0 c.loop-done.done (c.in_ok-count.count - c.loop-done.done - 1) (length c.args.bytes.now - length c.loop-done.rest.now) c.in_err-seen.field-0.0.at c.loop-done.last.now c.loop-done.rest.now (ap (λ (v : Entry). v.count) c.entry.view_is) (omega arith) c.in_ok-count.ensures.exact c.in_ok-test_at.ensures.exact c.loop-done-test.true c.in_err-seen.ensures.fault c.loop-done.invariant.2)

pub loop-done-preserved : goal.loop-done-preserved
loop-done-preserved c =
    let front = c.loop-done.invariant.1 in
    let s = c.in_ok-seen.ensures.seen in
    let rec = s.rec in
    let len : stored_len s.rec + length c.in_ok-seen.seen.rest.now ≡ length c.loop-done.rest.now = s.len in (
      omega (arith, len, c.loop-done.invariant.0),
      c.loop-done.invariant.1 ++ s.rec ∷ [],
      records_next c.loop-done.invariant.1 c.args.totals.now c.args.entry.now c.in_ok-count.count c.loop-done.done (c.in_ok-count.count - c.loop-done.done - 1) (length c.args.bytes.now - length c.loop-done.rest.now) (length c.args.bytes.now - length c.in_ok-seen.seen.rest.now) c.loop-done.last.now c.in_ok-seen.seen.key.now c.loop-done.rest.now s.rec c.in_ok-seen.seen.rest.now (own_records_at c.args.totals.now c.args.entry.now c.in_ok-count.count 4 [] c.in_ok-count.behind.now) c.loop-done-test.true (omega arith) (omega (arith, len, c.loop-done.invariant.0)) (sym s.key_is) s.read_is c.loop-done.invariant.2,
      λ recs before old.
          let so_far = c.loop-done.invariant.3 recs before old in
          let stem = stem_of c.in_ok-seen.seen.key.now in
          let is_new = starts c.loop-done.done recs front (option_copied c.args.before) c.loop-done.last.now c.in_ok-seen.seen.key.now stem c.in_ok-seen.seen.is_alike c.starts_stem-is_new.result before c.loop-done.invariant.4 c.loop-done.invariant.5 c.in_ok-seen.ensures.long_enough refl c.in_ok-seen.ensures.alike c.starts_stem-is_new.ensures.first c.starts_stem-is_new.ensures.later in (
            c.in_ok-add.ensures.ok (recs ++ front) rec so_far.0 s.ts_is s.seq_is ∙ ap totals_of (append_assoc recs front (rec ∷ [])),
            hashes_next (recs ++ front) rec stem c.starts_stem-is_new.result c.loop-done.survey-inside.hashes.items c.note_stem.new.hashes.items (ap stem_of s.key_is) is_new so_far.1 c.in_ok-note_stem.ensures ∙ ap (hashes_from None) (append_assoc recs front (rec ∷ [])),
          ),
      λ none. absurd (omega (arith, none)),
      λ some. (last_of_push front rec ∙ ap (λ (k : List ℕ). Some k) s.key_is, c.in_ok-seen.ensures.long_enough),
    )

pub returns-in_err-test_at-2-clause-fault : goal.returns-in_err-test_at-2-clause-fault
returns-in_err-test_at-2-clause-fault c =
    let p = err_from_is_err_and c.from_residual-in_err-test_at-2.result c.from_residual-in_err-test_at-2.ensures.1 in
    rw (p.1, p.2) (checks_end (Err c.in_err-test_at-2.field-0.0) c.loop-done.invariant.1 c.is_empty.result (nat_eq (length c.loop-done.rest.now) 0) (length c.args.bytes.now - length c.loop-done.rest.now) (own_block_at c.args.totals.now c.args.entry.now c.args.bytes.now) c.is_empty.ensures c.in_err-test_at-2.ensures.exact
    (block_done c.loop-done.invariant.1 c.args.totals.now c.args.entry.now c.args.bytes.now c.entry.inside.count c.in_ok-count.count c.in_ok-count.behind.now c.in_ok-test_at.field-0 c.loop-done.done (length c.args.bytes.now - length c.loop-done.rest.now) c.loop-done.last.now c.loop-done.rest.now (ap (λ (v : Entry). v.count) c.entry.view_is) c.in_ok-count.ensures.exact c.in_ok-test_at.ensures.exact c.loop-done-test.false c.loop-done.invariant.2))

pub returns-clause-found : goal.returns-clause-found
returns-clause-found c = λ recs before old.
    let so_far = c.loop-done.invariant.3 recs before old in
    let read = block_read c.loop-done.invariant.1 c.is_empty.result (nat_eq (length c.loop-done.rest.now) 0) (length c.args.bytes.now - length c.loop-done.rest.now) c.in_ok-test_at-2.field-0 (own_block_at c.args.totals.now c.args.entry.now c.args.bytes.now) c.is_empty.ensures c.in_ok-test_at-2.ensures.exact
    (block_done c.loop-done.invariant.1 c.args.totals.now c.args.entry.now c.args.bytes.now c.entry.inside.count c.in_ok-count.count c.in_ok-count.behind.now c.in_ok-test_at.field-0 c.loop-done.done (length c.args.bytes.now - length c.loop-done.rest.now) c.loop-done.last.now c.loop-done.rest.now (ap (λ (v : Entry). v.count) c.entry.view_is) c.in_ok-count.ensures.exact c.in_ok-test_at.ensures.exact c.loop-done-test.false c.loop-done.invariant.2) in (
      c.loop-done.invariant.1,
      read,
      found_by (recs ++ c.loop-done.invariant.1) c.loop-done.found c.loop-done.survey-inside.hashes.items so_far.0 so_far.1,
      λ some. own_last c.args.totals.now c.args.entry.now c.args.bytes.now c.loop-done.invariant.1 (λ i. omega (arith, c.type_inv.bytes i)) c.requires some read,
    )
