-- What the list of tablets counts.
use Rattle.std.proofs.Common.{◌≡◌, ◌≢◌, ℕ, zero, suc, ◌+◌, ◌≤◌, ◌<◌, Bool, true, false, List, [], ◌∷◌, ◌++◌, map, length, cond, Contains, refl, sym, ◌∙◌, ap, subst, ⊎_elim, arith, length-append, eq-eqb}
use Rattle.std.proofs.lemmas.List.{length-map}
use Rattle.std.specs.Prelude.{filter, nat_le, nat_lt, nat_eq, not, ◌&&◌, ◌||◌, sum_by, IsTrue}
use Rattle.std.specs.List.{AllByRecursion, slice_index_or}
use Rattle.std.proofs.lemmas.Bool.{and_parts}
use Rattle.std.proofs.lemmas.List.Sums.{sum_by-cons}
use Rattle.std.proofs.lemmas.List.Elements.{Contains-append_cases}
use Rattle.lt_io.specs.Directory.{Contents}
use Rattle.lt_rec.specs.Bytes.{is_less}
use Rattle.lt_rec.specs.Record.{Record}
use Rattle.lt_rec.specs.declared.listed.Listed.{Listed}
use Rattle.lt_schema.specs.Shapes.{SchemaShape}
use Rattle.lt_schema.specs.Versions.{schema_at}
use Rattle.lt_codec.specs.Spelling.{key_bytes}
use Rattle.lt_block.specs.Spelling.{Rises}
use Rattle.lt_layout.specs.Spelling.{Totals}
use Rattle.lt_desc.specs.Shape.{StoneShape}
use Rattle.lt_desc.specs.Lawful.{lists_file, files_differ}
use Rattle.lt_model.specs.History.{Numbered, History}
use Rattle.lt_model.specs.Readings.{rows, low, kept, time_in}
use Rattle.lt_model.specs.Legal.{ComesBefore, AreRising}
use Rattle.lt_model.specs.Disk.{on_disk}
use Rattle.lt_model.specs.Crash.{durable_rows}
use Rattle.lt_model.proofs.Verdicts.{AllByRecursion-contains, Contains-cons_cases}
use Rattle.lt_trace.specs.Records.{IsRecordOf, HasFile, IsOn, HasRow}
use Rattle.lt_trace.specs.Opens.{durable_by, IsWhole}
use Rattle.lt_trace.specs.Laws.{ListingCounts}
use Rattle.lt_trace.proofs.Lists.{first_in, later_in, kept_was, all_from, Origin, origin}
use Rattle.lt_trace.proofs.Rows.{is_durable, rows_rise, rising_kept}
use Rattle.lt_trace.proofs.Rising.{never_both}
use Rattle.lt_trace.proofs.Opening.{numbered_of, numbered_is, late, all_rows, RowAt, row_at, at_row, above_all, not_less_itself}

-- ---- lists without an element that stands twice

abbrev AllApart : {X : Type 0} → List X → Type 0
AllApart [] = Unit {0}
AllApart (x ∷ xs) = AllByRecursion (λ y. x ≢ y) xs × AllApart xs

abbrev dropped : {X : Type 0} → ℕ → List X → List X
dropped k [] = []
dropped zero (x ∷ xs) = xs
dropped (suc k) (x ∷ xs) = x ∷ dropped k xs

length_dropped : {X : Type 0} (k : ℕ) (xs : List X) → k < length xs → length xs ≡ length (dropped k xs) + 1
length_dropped k [] within = absurd (omega arith)
length_dropped zero (x ∷ xs) within = omega arith
length_dropped (suc k) (x ∷ xs) within = omega (arith, length_dropped k xs (omega arith))

in_dropped : {X : Type 0} (k : ℕ) (xs : List X) (x z : X) → k < length xs → slice_index_or xs k x ≡ x → x ≢ z → Contains xs z → Contains (dropped k xs) z
in_dropped k [] x z within at differ among = absurd (omega arith)
in_dropped zero (y ∷ xs) x z within at differ among = ⊎_elim (λ is. absurd (differ (sym at ∙ is))) (λ later. later) (Contains-cons_cases y xs z among)
in_dropped (suc k) (y ∷ xs) x z within at differ among = ⊎_elim
    (λ is. subst (Contains (y ∷ dropped k xs)) is (first_in y (dropped k xs)))
    (λ later. later_in y (dropped k xs) z (in_dropped k xs x z (omega arith) at differ later))
    (Contains-cons_cases y xs z among)

-- such a list is no longer than one that has its elements
pub no_longer : {X : Type 0} (xs ys : List X) → AllApart xs → ((x : X) → Contains xs x → Contains ys x) → length xs ≤ length ys
no_longer [] ys apart within = omega arith
no_longer (x ∷ xs) ys apart within =
    let c = within x (first_in x xs) in
    let rest : length xs ≤ length (dropped c.0 ys) = no_longer xs (dropped c.0 ys) apart.1
    (λ z among. in_dropped c.0 ys x z c.1 c.2 (AllByRecursion-contains (λ y. x ≢ y) xs z apart.0 among) (within z (later_in x xs z among))) in
    omega (arith, rest, length_dropped c.0 ys c.1)

rising_apart : (schema : SchemaShape) (xs : List Numbered) → AreRising schema xs → AllApart xs
rising_apart schema [] rising = tt
rising_apart schema (x ∷ xs) rising = (
  all_from (λ y. x ≢ y) xs (λ y among same. let up : ComesBefore schema x y = AllByRecursion-contains (ComesBefore schema x) xs y rising.0 among in
      let own : ComesBefore schema x x = subst (ComesBefore schema x) (sym same) up in never_both schema x x own own),
  rising_apart schema xs rising.1,
)

apart_joined : {X : Type 0} (xs ys : List X) → AllApart xs → AllApart ys → ((x y : X) → Contains xs x → Contains ys y → x ≢ y) → AllApart (xs ++ ys)
apart_joined [] ys one other across = other
apart_joined (x ∷ xs) ys one other across = (
  all_from (λ y. x ≢ y) (xs ++ ys) (λ y among. ⊎_elim (λ left. AllByRecursion-contains (λ z. x ≢ z) xs y one.0 left) (λ right. across x y (first_in x xs) right) (Contains-append_cases xs ys y among)),
  apart_joined xs ys one.1 other (λ a b in_a in_b. across a b (later_in x xs a in_a) in_b),
)

-- ---- lengths

shorter : (b : Bool) (r : Record) (rs : List Record) (n : ℕ) → length rs ≤ n → length (cond b (r ∷ rs) rs) ≤ n + 1
shorter true r rs n within = omega arith
shorter false r rs n within = omega arith

kept_shorter : (p : Record → Bool) (rs : List Record) → length (filter p rs) ≤ length rs
kept_shorter p [] = omega arith
kept_shorter p (r ∷ rs) = omega (arith, shorter (p r) r (filter p rs) (length rs) (kept_shorter p rs))

all_kept : (p : Record → Bool) (rs : List Record) → ((r : Record) → p r ≡ true) → filter p rs ≡ rs
all_kept p [] all = refl
all_kept p (r ∷ rs) all = rw (all r) (ap (λ more. r ∷ more) (all_kept p rs all))

le_true : (a b : ℕ) → a ≤ b → nat_le a b ≡ true
le_true a b up = grind arith

-- ---- the list

or_left : (b c : Bool) → b ≡ true → (b || c) ≡ true
or_left true c e = refl
or_left false c e = cc

or_right : (b c : Bool) → c ≡ true → (b || c) ≡ true
or_right true c e = refl
or_right false c e = e

never : (b : Bool) → b ≡ true → not b ≡ true → ⊥
never true e turned = cc
never false e turned = cc

listed_in : (tablets : List Listed) (u : Listed) (file : ℕ) → Contains tablets u → u.file ≡ file → lists_file tablets file ≡ true
listed_in [] u file among same = absurd (omega (arith, among.1))
listed_in (t ∷ tablets) u file among same = ⊎_elim
    (λ is. or_left (nat_eq t.file file) (lists_file tablets file) (eq-eqb t.file file (ap (λ (x : Listed). x.file) is ∙ same)))
    (λ later. or_right (nat_eq t.file file) (lists_file tablets file) (listed_in tablets u file later same))
    (Contains-cons_cases t tablets u among)

module _ (h : History) (recs : ℕ → List Record) (files : Contents) (own : StoneShape) (whole : IsWhole recs files own) where
  -- how many records a listed file has
  count : (listed : Listed) → Contains own.tablets listed → length (recs listed.file) ≡ listed.rows
  count listed among = ap (λ (t : Totals). t.rows) (whole.files_are listed among).is.totals

  at_most : (tablets : List Listed) → ((t : Listed) → Contains tablets t → Contains own.tablets t) → length (all_rows own.schemas recs own.low tablets) ≤ sum_by (λ (t : Listed). t.rows) tablets
  at_most [] within = omega arith
  at_most (t ∷ tablets) within =
      let rest = at_most tablets (λ u among. within u (later_in t tablets u among)) in
      omega (
        arith,
        rest,
        count t (within t (first_in t tablets)),
        kept_shorter (λ (r : Record). nat_le own.low r.ts) (recs t.file),
        length-map (late recs own.low t) (numbered_of own.schemas),
        length-append (map (numbered_of own.schemas) (late recs own.low t)) (all_rows own.schemas recs own.low tablets),
        sum_by-cons (λ (u : Listed). u.rows) t tablets,
      )

  -- where nothing is expired
  exactly : own.low ≡ 0 → (tablets : List Listed) → ((t : Listed) → Contains tablets t → Contains own.tablets t) → length (all_rows own.schemas recs own.low tablets) ≡ sum_by (λ (t : Listed). t.rows) tablets
  exactly none [] within = refl
  exactly none (t ∷ tablets) within =
      let rest = exactly none tablets (λ u among. within u (later_in t tablets u among)) in
      let all : late recs own.low t ≡ recs t.file = all_kept (λ (r : Record). nat_le own.low r.ts) (recs t.file) (λ r. le_true own.low r.ts (omega (arith, none))) in
      omega (
        arith,
        rest,
        count t (within t (first_in t tablets)),
        ap length all,
        length-map (late recs own.low t) (numbered_of own.schemas),
        length-append (map (numbered_of own.schemas) (late recs own.low t)) (all_rows own.schemas recs own.low tablets),
        sum_by-cons (λ (u : Listed). u.rows) t tablets,
      )

  -- records of one row have one key
  same_key : (r q : Record) → IsOn recs own.tablets r → IsOn recs own.tablets q → numbered_of own.schemas r ≡ numbered_of own.schemas q → r.key ≡ q.key
  same_key r q on_r on_q same =
      let row_r : (numbered : Numbered) × IsRecordOf own.schemas r numbered = whole.rows_are r on_r in
      let row_q : (numbered : Numbered) × IsRecordOf own.schemas q numbered = whole.rows_are q on_q in
      let one : row_r.0 ≡ row_q.0 = sym (numbered_is own.schemas r row_r.0 row_r.1) ∙ same ∙ numbered_is own.schemas q row_q.0 row_q.1 in
      row_r.1.key ∙ ap (λ (n : Numbered). key_bytes (schema_at own.schemas n.ver) n.row) one ∙ sym row_q.1.key

  apart_in_file : (last : List ℕ) (t : Listed) (rs : List Record) → Contains own.tablets t → Rises last rs → ((r : Record) → Contains rs r → Contains (recs t.file) r) → AllApart (map (numbered_of own.schemas) rs)
  apart_in_file last t [] among rises within = tt
  apart_in_file last t (r ∷ rs) among rises within = (
    all_from (λ y. numbered_of own.schemas r ≢ y) (map (numbered_of own.schemas) rs) (λ y in_y same.
        let o : Origin (numbered_of own.schemas) rs y = origin (numbered_of own.schemas) rs y in_y in
        let key : r.key ≡ o.from.key = same_key r o.from (record { tablet = t; listed = among; among = within r (first_in r rs) }) (record { tablet = t; listed = among; among = within o.from (later_in r rs o.from o.among) }) (same ∙ sym o.same) in
        not_less_itself r.key (subst (λ (k : List ℕ). is_less r.key k ≡ true) (sym key) (above_all r.key rs o.from rises.1 o.among))),
    apart_in_file r.key t rs among rises.1 (λ q in_q. within q (later_in r rs q in_q)),
  )

  all_late : (t : Listed) → own.low ≡ 0 → late recs own.low t ≡ recs t.file
  all_late t none = all_kept (λ (r : Record). nat_le own.low r.ts) (recs t.file) (λ r. le_true own.low r.ts (omega (arith, none)))

  apart_all : own.low ≡ 0 → (tablets : List Listed) → IsTrue (files_differ tablets) → ((t : Listed) → Contains tablets t → Contains own.tablets t) → AllApart (all_rows own.schemas recs own.low tablets)
  apart_all none [] differ within = tt
  apart_all none (t ∷ tablets) differ within =
      let both = and_parts (not (lists_file tablets t.file)) (files_differ tablets) differ in
      let listed : Contains own.tablets t = within t (first_in t tablets) in
      let f : HasFile files t (recs t.file) = whole.files_are t listed in
      let own_rows : AllApart (map (numbered_of own.schemas) (late recs own.low t)) = apart_in_file [] t (late recs own.low t) listed
      (subst (Rises []) (sym (all_late t none)) (subst (Rises []) f.is.records f.is.tablet.rising)) (λ r among. kept_was (λ (q : Record). nat_le own.low q.ts) (recs t.file) r among) in
      apart_joined (map (numbered_of own.schemas) (late recs own.low t)) (all_rows own.schemas recs own.low tablets) own_rows
      (apart_all none tablets both.1 (λ u among. within u (later_in t tablets u among)))
      (λ x y in_x in_y same.
      let o : Origin (numbered_of own.schemas) (late recs own.low t) x = origin (numbered_of own.schemas) (late recs own.low t) x in_x in
      let r : RowAt own.schemas recs tablets own.low y = row_at own.schemas recs own.low tablets y in_y in
      let in_t : Contains (recs t.file) o.from = kept_was (λ (q : Record). nat_le own.low q.ts) (recs t.file) o.from o.among in
      let there : Contains own.tablets r.on.tablet = within r.on.tablet (later_in t tablets r.on.tablet r.on.listed) in
      let key : o.from.key ≡ r.rec.key = same_key o.from r.rec (record { tablet = t; listed = listed; among = in_t }) (record { tablet = r.on.tablet; listed = there; among = r.on.among }) (o.same ∙ same ∙ sym r.same) in
      let file : t.file ≡ r.on.tablet.file = whole.apart t.file r.on.tablet.file o.from r.rec (record { tablet = t; listed = listed; file_is = refl; among = in_t }) (record { tablet = r.on.tablet; listed = there; file_is = refl; among = r.on.among }) key in
      never (lists_file tablets t.file) (listed_in tablets r.on.tablet t.file r.on.listed (sym file)) both.0)

on_disk_is : (h : History) (own : StoneShape) → own.kept ≡ kept h → own.low ≡ low h → on_disk h ≡ durable_rows h (durable_by own)
on_disk_is h own upto lows = λ i. filter (λ (n : Numbered). nat_lt n.seq (sym upto i) && nat_le (sym lows i) (time_in h n)) (rows h)

pub listing_counts : ListingCounts
listing_counts h recs files own legal whole holds upto lows =
    let same : on_disk h ≡ durable_rows h (durable_by own) = on_disk_is h own upto lows in
    let apart : AllApart (durable_rows h (durable_by own)) = rising_apart h.opening.schemas.first (durable_rows h (durable_by own)) (rising_kept h.opening.schemas.first (is_durable h (durable_by own)) (rows h) (rows_rise h legal)) in
    let up : length (durable_rows h (durable_by own)) ≤ length (all_rows own.schemas recs own.low own.tablets) = no_longer (durable_rows h (durable_by own)) (all_rows own.schemas recs own.low own.tablets) apart
    (λ x among. let r : HasRow own.schemas recs own.tablets own.low x = (holds.exactly x).0 among in
    subst (Contains (all_rows own.schemas recs own.low own.tablets)) (numbered_is own.schemas r.rec x r.is) (at_row own.schemas recs own.low own.tablets r.rec r.on.tablet r.on.listed r.on.among r.unexpired)) in
    record {
      at_least = omega (arith, up, ap length same, at_most h recs files own whole own.tablets (λ t among. among));
      exactly = λ none.
          let zero_low : own.low ≡ 0 = lows ∙ none in
          let down : length (all_rows own.schemas recs own.low own.tablets) ≤ length (durable_rows h (durable_by own)) = no_longer (all_rows own.schemas recs own.low own.tablets) (durable_rows h (durable_by own)) (apart_all h recs files own whole zero_low own.tablets whole.lawful.once (λ t among. among))
          (λ x among. let r : RowAt own.schemas recs own.tablets own.low x = row_at own.schemas recs own.low own.tablets x among in
          let row : (numbered : Numbered) × IsRecordOf own.schemas r.rec numbered = whole.rows_are r.rec r.on in
          (holds.exactly x).1 (record { rec = r.rec; on = r.on; unexpired = r.unexpired; is = subst (IsRecordOf own.schemas r.rec) (sym (numbered_is own.schemas r.rec row.0 row.1) ∙ r.same) row.1 })) in
          omega (arith, up, down, ap length same, exactly h recs files own whole zero_low own.tablets (λ t among. among));
    }
