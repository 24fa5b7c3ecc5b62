-- A tablet of the list: what is read is so spelled, and what is so spelled is read.
use Rattle.std.proofs.Common.{◌≡◌, ℕ, suc, ◌+◌, ◌-◌, ◌%◌, ◌^◌, ◌<◌, ◌≤◌, Bool, true, false, eqb, leb, ltb, List, [], ◌∷◌, ◌++◌, length, Result, Ok, refl, sym, ap, subst, ◌∙◌, append_assoc, arith}
use Rattle.std.specs.Prelude.{not, ◌&&◌, ◌||◌, slice_get, nat_lt, nat_le}
use Rattle.std.specs.Option.{option_map_or}
use Rattle.std.specs.List.{list_all, flat_map, AllByRecursion}
use Rattle.std.specs.Int.{w32, w64, to_be_bytes}
use Rattle.std.proofs.lemmas.Bool.{eqb-true, eq-eqb, ne_eqb, and_parts, and_from, ltb-true, lt-ltb, leb-true, le-leb}
use Rattle.std.proofs.lemmas.List.{length-append, append-nil}
use Rattle.std.proofs.lemmas.List.Folds.{list_any-append}
use Rattle.std.proofs.lemmas.Grind.{flat_map-append}
use Rattle.lt_rec.specs.Periods.{is_period_len}
use Rattle.lt_rec.specs.declared.listed.Listed.{Listed}
use Rattle.lt_desc.specs.declared.listing.Sizes.{Sizes}
use Rattle.lt_desc.specs.declared.listing.Times.{Times}
use Rattle.lt_desc.specs.Lawful.{lists_file, files_differ, comes_before, rises, IsListed, fits_tablet}
use Rattle.lt_desc.specs.Spelling.{tablet_spelled, listing_spelled}
use Rattle.lt_rec.specs.Reading.{◌>>=◌, place, holds, is_within}
use Rattle.lt_desc.specs.Reading.{number_from, number_where, follows, spans, sizes_at, stretch_at, times_at, span_at, listed_of, tablet_at, behind, repeated, next_tablet, listing_at}
use Rattle.lt_rec.proofs.Reading.{IsBytes, bind_ok, ok_is, holds_ok, Takes, Takes-then, Takes-as}
use Rattle.lt_desc.proofs.Taken.{takes32, takes64, again32, again64, where64, again_where64}
use Rattle.lt_desc.proofs.First.{within_parts, within_from}
use Rattle.lt_desc.proofs.Turns.{turns_keep}
use Rattle.lt_desc.proofs.ColumnText.{not_true, not_false, not_or, or_not, all_more, all_here}

-- ---- the file, the rows, the bytes

abbrev three : (a b c : ℕ) → List ℕ
three a b c = to_be_bytes w64 a ++ (to_be_bytes w64 b ++ to_be_bytes w64 c)

abbrev is_free : ℕ → List Listed → ℕ → Bool
is_free next_file before n = nat_lt n next_file && not (lists_file before n)

record SizesFound (next_file : ℕ) (before : List Listed) (bytes : List ℕ) (x : Sizes × List ℕ) : Type 0 where
  takes : Takes bytes (three x.0.file x.0.rows x.0.bytes) x.1
  below : x.0.file < next_file
  new : lists_file before x.0.file ≡ false
  rows : 0 < x.0.rows
  rows_fit : x.0.rows < 2 ^ 64
  bytes_fit : x.0.bytes < 2 ^ 64

abbrev sized : ℕ → ℕ → ℕ → Sizes
sized file rows size = record { file = file; rows = rows; bytes = size }

abbrev from_rows : (total file : ℕ) → ℕ × List ℕ → Result (Sizes × List ℕ) ℕ
from_rows total file rows = number_from w64 total rows.1 >>= λ size. Ok (sized file rows.0 size.0, size.1)

abbrev from_file : (total : ℕ) → ℕ × List ℕ → Result (Sizes × List ℕ) ℕ
from_file total file = number_where w64 (nat_lt 0) total file.1 >>= from_rows total file.0

sizes_take : (next_file : ℕ) (before : List Listed) (total : ℕ) (bytes : List ℕ) (x : Sizes × List ℕ) → IsBytes bytes → sizes_at next_file before total bytes ≡ Ok x → SizesFound next_file before bytes x
unfolding sizes_at
sizes_take next_file before total bytes x fits e =
    let a = bind_ok (number_where w64 (is_free next_file before) total bytes) (from_file total) x e in
    let b = bind_ok (number_where w64 (nat_lt 0) total a.0.1) (from_rows total a.0.0) x a.2 in
    let c = bind_ok (number_from w64 total b.0.1) (λ size. Ok (sized a.0.0 b.0.0 size.0, size.1)) x b.2 in
    let ta = where64 (is_free next_file before) total bytes a.0 fits a.1 in
    let tb = where64 (nat_lt 0) total a.0.1 b.0 ta.takes.rest_fits b.1 in
    let tc = takes64 total b.0.1 c.0 tb.takes.rest_fits c.1 in
    let p2 = Takes-then a.0.1 (to_be_bytes w64 b.0.0) b.0.1 (to_be_bytes w64 c.0.0) c.0.1 tb.takes tc.0 in
    let p1 = Takes-then bytes (to_be_bytes w64 a.0.0) a.0.1 (to_be_bytes w64 b.0.0 ++ to_be_bytes w64 c.0.0) c.0.1 ta.takes p2 in
    let free = and_parts (nat_lt a.0.0 next_file) (not (lists_file before a.0.0)) ta.passes in
    subst (SizesFound next_file before bytes) (ok_is (sized a.0.0 b.0.0 c.0.0, c.0.1) x c.2) (record {
      takes = p1;
      below = ltb-true a.0.0 next_file free.0;
      new = not_true (lists_file before a.0.0) free.1;
      rows = ltb-true 0 b.0.0 tb.passes;
      rows_fit = tb.small;
      bytes_fit = tc.1;
    })

sizes_again : (next_file : ℕ) (before : List Listed) (total file rows size : ℕ) (rest : List ℕ) → file < next_file → next_file ≤ 2 ^ 62 → lists_file before file ≡ false → 0 < rows → rows < 2 ^ 64 → size < 2 ^ 64
    → sizes_at next_file before total (three file rows size ++ rest) ≡ Ok (sized file rows size, rest)
unfolding sizes_at
sizes_again next_file before total file rows size rest below bound new some rows_fit bytes_fit =
    let r2 : List ℕ = to_be_bytes w64 size ++ rest in
    let r1 : List ℕ = to_be_bytes w64 rows ++ r2 in
    ap (λ (q : Result (ℕ × List ℕ) ℕ). q >>= from_file total) (again_where64 (is_free next_file before) total file r1 (omega (arith, below, bound)) (and_from (nat_lt file next_file) (not (lists_file before file)) (lt-ltb file next_file below) (not_false (lists_file before file) new)))
    ∙ (ap (λ (q : Result (ℕ × List ℕ) ℕ). q >>= from_rows total file) (again_where64 (nat_lt 0) total rows r2 rows_fit (lt-ltb 0 rows some))
    ∙ ap (λ (q : Result (ℕ × List ℕ) ℕ). q >>= λ s. Ok (sized file rows s.0, s.1)) (again64 total size rest bytes_fit))

-- ---- the period

abbrev two : (a b : ℕ) → List ℕ
two a b = to_be_bytes w64 a ++ to_be_bytes w64 b

record StretchFound (low high : ℕ) (bytes : List ℕ) (x : (ℕ × ℕ) × List ℕ) : Type 0 where
  takes : Takes bytes (two x.0.0 x.0.1) x.1
  spanned : spans x.0.0 low high x.0.1 ≡ true

abbrev from_start : (low high total : ℕ) → ℕ × List ℕ → Result ((ℕ × ℕ) × List ℕ) ℕ
from_start low high total start = number_where w64 (spans start.0 low high) total start.1 >>= λ len. Ok ((start.0, len.0), len.1)

stretch_takes : (low high total : ℕ) (bytes : List ℕ) (x : (ℕ × ℕ) × List ℕ) → IsBytes bytes → stretch_at low high total bytes ≡ Ok x → StretchFound low high bytes x
unfolding stretch_at
stretch_takes low high total bytes x fits e =
    let a = bind_ok (number_from w64 total bytes) (from_start low high total) x e in
    let b = bind_ok (number_where w64 (spans a.0.0 low high) total a.0.1) (λ len. Ok ((a.0.0, len.0), len.1)) x a.2 in
    let ta = takes64 total bytes a.0 fits a.1 in
    let tb = where64 (spans a.0.0 low high) total a.0.1 b.0 ta.0.rest_fits b.1 in
    subst (StretchFound low high bytes) (ok_is ((a.0.0, b.0.0), b.0.1) x b.2)
    (record { takes = Takes-then bytes (to_be_bytes w64 a.0.0) a.0.1 (to_be_bytes w64 b.0.0) b.0.1 ta.0 tb.takes; spanned = tb.passes })

stretch_again : (low high total start len : ℕ) (rest : List ℕ) → start < 2 ^ 64 → len < 2 ^ 64 → spans start low high len ≡ true → stretch_at low high total (two start len ++ rest) ≡ Ok ((start, len), rest)
unfolding stretch_at
stretch_again low high total start len rest start_fits len_fits spanned =
    let r1 : List ℕ = to_be_bytes w64 len ++ rest in
    ap (λ (q : Result (ℕ × List ℕ) ℕ). q >>= from_start low high total) (again64 total start r1 start_fits)
    ∙ ap (λ (q : Result (ℕ × List ℕ) ℕ). q >>= λ n. Ok ((start, n.0), n.1)) (again_where64 (spans start low high) total len rest len_fits spanned)

-- ---- the times

abbrev four : (a b c d : ℕ) → List ℕ
four a b c d = to_be_bytes w64 a ++ (to_be_bytes w64 b ++ two c d)

abbrev may_begin : ℕ → List Listed → ℕ → Bool
may_begin file before n = nat_lt n (2 ^ 62) && follows before n file

record TimesFound (file : ℕ) (before : List Listed) (bytes : List ℕ) (x : Times × List ℕ) : Type 0 where
  takes : Takes bytes (four x.0.low x.0.high x.0.start x.0.len) x.1
  behind : follows before x.0.low file ≡ true
  ordered : x.0.low ≤ x.0.high
  moments : x.0.high < 2 ^ 62
  spanned : spans x.0.start x.0.low x.0.high x.0.len ≡ true

abbrev timed : ℕ → ℕ → ℕ × ℕ → Times
timed low high stretch = record { low = low; high = high; start = stretch.0; len = stretch.1 }

abbrev from_high : (total low : ℕ) → ℕ × List ℕ → Result (Times × List ℕ) ℕ
from_high total low high = stretch_at low high.0 total high.1 >>= λ stretch. Ok (timed low high.0 stretch.0, stretch.1)

abbrev from_low : (total : ℕ) → ℕ × List ℕ → Result (Times × List ℕ) ℕ
from_low total low = number_where w64 (is_within low.0 (2 ^ 62 - 1)) total low.1 >>= from_high total low.0

times_take : (file : ℕ) (before : List Listed) (total : ℕ) (bytes : List ℕ) (x : Times × List ℕ) → IsBytes bytes → times_at file before total bytes ≡ Ok x → TimesFound file before bytes x
unfolding times_at
times_take file before total bytes x fits e =
    let a = bind_ok (number_where w64 (may_begin file before) total bytes) (from_low total) x e in
    let b = bind_ok (number_where w64 (is_within a.0.0 (2 ^ 62 - 1)) total a.0.1) (from_high total a.0.0) x a.2 in
    let c = bind_ok (stretch_at a.0.0 b.0.0 total b.0.1) (λ stretch. Ok (timed a.0.0 b.0.0 stretch.0, stretch.1)) x b.2 in
    let ta = where64 (may_begin file before) total bytes a.0 fits a.1 in
    let tb = where64 (is_within a.0.0 (2 ^ 62 - 1)) total a.0.1 b.0 ta.takes.rest_fits b.1 in
    let tc = stretch_takes a.0.0 b.0.0 total b.0.1 c.0 tb.takes.rest_fits c.1 in
    let p2 = Takes-then a.0.1 (to_be_bytes w64 b.0.0) b.0.1 (two c.0.0.0 c.0.0.1) c.0.1 tb.takes tc.takes in
    let p1 = Takes-then bytes (to_be_bytes w64 a.0.0) a.0.1 (to_be_bytes w64 b.0.0 ++ two c.0.0.0 c.0.0.1) c.0.1 ta.takes p2 in
    let wa = and_parts (nat_lt a.0.0 (2 ^ 62)) (follows before a.0.0 file) ta.passes in
    let wb = within_parts a.0.0 (2 ^ 62 - 1) b.0.0 tb.passes in
    subst (TimesFound file before bytes) (ok_is (timed a.0.0 b.0.0 c.0.0, c.0.1) x c.2)
    (record { takes = p1; behind = wa.1; ordered = wb.0; moments = omega (arith, wb.1); spanned = tc.spanned })

times_again : (file : ℕ) (before : List Listed) (total low high start len : ℕ) (rest : List ℕ) → follows before low file ≡ true → low ≤ high → high < 2 ^ 62 → start < 2 ^ 64 → len < 2 ^ 64 → spans start low high len ≡ true
    → times_at file before total (four low high start len ++ rest) ≡ Ok (timed low high (start, len), rest)
unfolding times_at
times_again file before total low high start len rest next ordered moments start_fits len_fits spanned =
    let r2 : List ℕ = two start len ++ rest in
    let r1 : List ℕ = to_be_bytes w64 high ++ r2 in
    ap (λ (q : Result (ℕ × List ℕ) ℕ). q >>= from_low total) (again_where64 (may_begin file before) total low r1 (omega (arith, ordered, moments)) (and_from (nat_lt low (2 ^ 62)) (follows before low file) (lt-ltb low (2 ^ 62) (omega (arith, ordered, moments))) next))
    ∙ (ap (λ (q : Result (ℕ × List ℕ) ℕ). q >>= from_high total low) (again_where64 (is_within low (2 ^ 62 - 1)) total high r2 (omega (arith, moments)) (within_from low (2 ^ 62 - 1) high ordered (omega (arith, moments))))
    ∙ ap (λ (q : Result ((ℕ × ℕ) × List ℕ) ℕ). q >>= λ stretch. Ok (timed low high stretch.0, stretch.1)) (stretch_again low high total start len rest start_fits len_fits spanned))

-- ---- the numbers

abbrev is_last : ℕ → ℕ → ℕ → Bool
is_last kept first n = nat_le first n && nat_lt n kept

record SpanFound (kept : ℕ) (bytes : List ℕ) (x : (ℕ × ℕ) × List ℕ) : Type 0 where
  takes : Takes bytes (two x.0.0 x.0.1) x.1
  ordered : x.0.0 ≤ x.0.1
  settled : x.0.1 < kept

abbrev from_first : (kept total : ℕ) → ℕ × List ℕ → Result ((ℕ × ℕ) × List ℕ) ℕ
from_first kept total first = number_where w64 (is_last kept first.0) total first.1 >>= λ last. Ok ((first.0, last.0), last.1)

span_takes : (kept total : ℕ) (bytes : List ℕ) (x : (ℕ × ℕ) × List ℕ) → IsBytes bytes → span_at kept total bytes ≡ Ok x → SpanFound kept bytes x
unfolding span_at
span_takes kept total bytes x fits e =
    let a = bind_ok (number_from w64 total bytes) (from_first kept total) x e in
    let b = bind_ok (number_where w64 (is_last kept a.0.0) total a.0.1) (λ last. Ok ((a.0.0, last.0), last.1)) x a.2 in
    let ta = takes64 total bytes a.0 fits a.1 in
    let tb = where64 (is_last kept a.0.0) total a.0.1 b.0 ta.0.rest_fits b.1 in
    let w = and_parts (leb a.0.0 b.0.0) (ltb b.0.0 kept) tb.passes in
    subst (SpanFound kept bytes) (ok_is ((a.0.0, b.0.0), b.0.1) x b.2)
    (record { takes = Takes-then bytes (to_be_bytes w64 a.0.0) a.0.1 (to_be_bytes w64 b.0.0) b.0.1 ta.0 tb.takes; ordered = leb-true a.0.0 b.0.0 w.0; settled = ltb-true b.0.0 kept w.1 })

span_again : (kept total first last : ℕ) (rest : List ℕ) → first ≤ last → last < kept → kept ≤ 2 ^ 62 → span_at kept total (two first last ++ rest) ≡ Ok ((first, last), rest)
unfolding span_at
span_again kept total first last rest ordered settled bound =
    let r1 : List ℕ = to_be_bytes w64 last ++ rest in
    ap (λ (q : Result (ℕ × List ℕ) ℕ). q >>= from_first kept total) (again64 total first r1 (omega (arith, ordered, settled, bound)))
    ∙ ap (λ (q : Result (ℕ × List ℕ) ℕ). q >>= λ n. Ok ((first, n.0), n.1)) (again_where64 (is_last kept first) total last rest (omega (arith, settled, bound)) (and_from (leb first last) (ltb last kept) (le-leb first last ordered) (lt-ltb last kept settled)))

-- ---- a tablet

pub record TabletFound (kept next_file : ℕ) (before : List Listed) (bytes : List ℕ) (x : Listed × List ℕ) : Type 0 where
  pub takes : Takes bytes (tablet_spelled x.0) x.1
  pub is : IsListed kept next_file x.0
  pub new : lists_file before x.0.file ≡ false
  pub behind : follows before x.0.low x.0.file ≡ true
  pub fits : fits_tablet x.0 ≡ true

record Spanned (start low high len : ℕ) : Type 0 where
  length : is_period_len len ≡ true
  aligned : start % len ≡ 0
  begun : start ≤ low
  not_over : high < start + len

spanned_parts : (start low high len : ℕ) → spans start low high len ≡ true → Spanned start low high len
spanned_parts start low high len e =
    let c = and_parts (is_period_len len && eqb (start % len) 0 && leb start low) (ltb high (start + len)) e in
    let b = and_parts (is_period_len len && eqb (start % len) 0) (leb start low) c.0 in
    let a = and_parts (is_period_len len) (eqb (start % len) 0) b.0 in
    record { length = a.0; aligned = eqb-true (start % len) 0 a.1; begun = leb-true start low b.1; not_over = ltb-true high (start + len) c.1 }

spanned_from : (start low high len : ℕ) → Spanned start low high len → spans start low high len ≡ true
spanned_from start low high len s =
    and_from (is_period_len len && eqb (start % len) 0 && leb start low) (ltb high (start + len))
    (and_from (is_period_len len && eqb (start % len) 0) (leb start low) (and_from (is_period_len len) (eqb (start % len) 0) s.length (eq-eqb (start % len) 0 s.aligned)) (le-leb start low s.begun)) (lt-ltb high (start + len) s.not_over)

entry_text : (sizes : Sizes) (times : Times) (span : ℕ × ℕ) → three sizes.file sizes.rows sizes.bytes ++ (four times.low times.high times.start times.len ++ two span.0 span.1) ≡ tablet_spelled (listed_of sizes times span)
unfolding tablet_spelled
entry_text sizes times span = refl

abbrev from_times : (kept total : ℕ) (sizes : Sizes) → Times × List ℕ → Result (Listed × List ℕ) ℕ
from_times kept total sizes times = span_at kept total times.1 >>= λ span. Ok (listed_of sizes times.0 span.0, span.1)

abbrev from_sizes : (kept : ℕ) (before : List Listed) (total : ℕ) → Sizes × List ℕ → Result (Listed × List ℕ) ℕ
from_sizes kept before total sizes = times_at sizes.0.file before total sizes.1 >>= from_times kept total sizes.0

pub tablet_takes : (kept next_file : ℕ) (before : List Listed) (total : ℕ) (bytes : List ℕ) (x : Listed × List ℕ) → IsBytes bytes → tablet_at kept next_file before total bytes ≡ Ok x → TabletFound kept next_file before bytes x
unfolding tablet_at
tablet_takes kept next_file before total bytes x fits e =
    let a = bind_ok (sizes_at next_file before total bytes) (from_sizes kept before total) x e in
    let b = bind_ok (times_at a.0.0.file before total a.0.1) (from_times kept total a.0.0) x a.2 in
    let c = bind_ok (span_at kept total b.0.1) (λ span. Ok (listed_of a.0.0 b.0.0 span.0, span.1)) x b.2 in
    let ta = sizes_take next_file before total bytes a.0 fits a.1 in
    let tb = times_take a.0.0.file before total a.0.1 b.0 ta.takes.rest_fits b.1 in
    let tc = span_takes kept total b.0.1 c.0 tb.takes.rest_fits c.1 in
    let p2 = Takes-then a.0.1 (four b.0.0.low b.0.0.high b.0.0.start b.0.0.len) b.0.1 (two c.0.0.0 c.0.0.1) c.0.1 tb.takes tc.takes in
    let p1 = Takes-then bytes (three a.0.0.file a.0.0.rows a.0.0.bytes) a.0.1 (four b.0.0.low b.0.0.high b.0.0.start b.0.0.len ++ two c.0.0.0 c.0.0.1) c.0.1 ta.takes p2 in
    let s = spanned_parts b.0.0.start b.0.0.low b.0.0.high b.0.0.len tb.spanned in
    subst (TabletFound kept next_file before bytes) (ok_is (listed_of a.0.0 b.0.0 c.0.0, c.0.1) x c.2) (record {
      takes = Takes-as bytes _ (tablet_spelled (listed_of a.0.0 b.0.0 c.0.0)) c.0.1 (entry_text a.0.0 b.0.0 c.0.0) p1;
      is = record {
        file = ta.below;
        rows = omega (arith, ta.rows);
        times = tb.ordered;
        moments = tb.moments;
        period = record { length = s.length; aligned = s.aligned };
        begins_in = record { begun = s.begun; not_over = omega (arith, tb.ordered, s.not_over) };
        ends_in = record { begun = omega (arith, tb.ordered, s.begun); not_over = s.not_over };
        numbers = tc.ordered;
        settled = tc.settled;
      };
      new = ta.new;
      behind = tb.behind;
      fits = and_from (nat_lt a.0.0.rows (2 ^ 64)) (nat_lt a.0.0.bytes (2 ^ 64)) (lt-ltb a.0.0.rows (2 ^ 64) ta.rows_fit) (lt-ltb a.0.0.bytes (2 ^ 64) ta.bytes_fit);
    })

len_fits : (len : ℕ) → is_period_len len ≡ true → len < 2 ^ 64
len_fits len e = by (eqb len 14400000000) (eqb len 86400000000) (eqb len 604800000000) (λ t. eqb-true len 14400000000 t) (λ t. eqb-true len 86400000000 t) (λ t. eqb-true len 604800000000 t) e
  where
    by : (a b c : Bool) → (a ≡ true → len ≡ 14400000000) → (b ≡ true → len ≡ 86400000000) → (c ≡ true → len ≡ 604800000000) → (a || b || c) ≡ true → len < 2 ^ 64
    by true b c p q r e = let h = p refl in omega (arith, h)
    by false true c p q r e = let h = q refl in omega (arith, h)
    by false false true p q r e = let h = r refl in omega (arith, h)
    by false false false p q r e = absurd cc

pub tablet_again : (kept next_file : ℕ) (before : List Listed) (total : ℕ) (t : Listed) (rest : List ℕ) → IsListed kept next_file t → kept ≤ 2 ^ 62 → next_file ≤ 2 ^ 62 → lists_file before t.file ≡ false → follows before t.low t.file ≡ true → fits_tablet t ≡ true
    → tablet_at kept next_file before total (tablet_spelled t ++ rest) ≡ Ok (t, rest)
unfolding tablet_at tablet_spelled
tablet_again kept next_file before total t rest is bound_upto bound_file new next fits =
    let f = and_parts (nat_lt t.rows (2 ^ 64)) (nat_lt t.bytes (2 ^ 64)) fits in
    let sizes : Sizes = sized t.file t.rows t.bytes in
    let times : Times = timed t.low t.high (t.period.start, t.period.len) in
    let r2 : List ℕ = two t.first t.last ++ rest in
    let r1 : List ℕ = four t.low t.high t.period.start t.period.len ++ r2 in
    let spanned = spanned_from t.period.start t.low t.high t.period.len (record { length = is.period.length; aligned = is.period.aligned; begun = is.begins_in.begun; not_over = is.ends_in.not_over }) in
    ap (λ (q : Result (Sizes × List ℕ) ℕ). q >>= from_sizes kept before total) (sizes_again next_file before total t.file t.rows t.bytes r1 is.file bound_file new (omega (arith, is.rows)) (ltb-true t.rows (2 ^ 64) f.0) (ltb-true t.bytes (2 ^ 64) f.1))
    ∙ (ap (λ (q : Result (Times × List ℕ) ℕ). q >>= from_times kept total sizes) (times_again t.file before total t.low t.high t.period.start t.period.len r2 next is.times is.moments (omega (arith, is.begins_in.begun, is.times, is.moments)) (len_fits t.period.len is.period.length) spanned)
    ∙ ap (λ (q : Result ((ℕ × ℕ) × List ℕ) ℕ). q >>= λ span. Ok (listed_of sizes times span.0, span.1)) (span_again kept total t.first t.last rest is.numbers is.settled bound_upto))
