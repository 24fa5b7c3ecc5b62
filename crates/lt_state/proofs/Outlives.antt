-- Facts after more entries and by more notes.
use Rattle.std.proofs.Common.{◌≡◌, ℕ, List, Contains, sym, ◌∙◌, ap, subst, arith}
use Rattle.lt_rec.specs.Record.{Record}
use Rattle.lt_rec.specs.declared.listed.Listed.{Listed}
use Rattle.lt_io.specs.Directory.{Contents}
use Rattle.lt_desc.specs.Shape.{StoneShape}
use Rattle.lt_model.specs.History.{History}
use Rattle.lt_model.proofs.Fronts.{next-extended}
use Rattle.lt_trace.proofs.Past.{rows_outlive}
use Rattle.lt_trace.specs.Opens.{IsWhole, HoldsRows}
use Rattle.lt_trace.specs.Records.{HasFile, IsOn, InFile}
use Rattle.lt_state.specs.Facts.{Source, in_file, in_tablet, Holds}
use Rattle.lt_state.specs.Laws.{FactsOutlive, FactsBySameRecords}
use Rattle.lt_state.specs.State.{Filled}

pub facts_outlive : FactsOutlive
facts_outlive told recs h more anchor tablets memory left legal facts bounds whole keys = record {
  entered = facts.entered;
  rows = λ yes stone possible. rows_outlive recs h more stone (legal yes) (facts.settled stone possible).given (facts.rows yes stone possible);
  settled = λ stone possible. record { no_lower = (bounds stone possible).0; given = omega (arith, (facts.settled stone possible).given, next-extended h more) };
  lows = λ stone possible. (bounds stone possible).1;
  unsettled = whole;
  keys = keys;
}

-- ---- more notes

module _ (recs more : ℕ → List Record) (tablets : List Listed) (same : (listed : Listed) → Contains tablets listed → more listed.file ≡ recs listed.file) where
  on_less : (rec : Record) → IsOn more tablets rec → IsOn recs tablets rec
  on_less rec on = record { tablet = on.tablet; listed = on.listed; among = subst (λ (rs : List Record). Contains rs rec) (same on.tablet on.listed) on.among }

  on_more : (rec : Record) → IsOn recs tablets rec → IsOn more tablets rec
  on_more rec on = record { tablet = on.tablet; listed = on.listed; among = subst (λ (rs : List Record). Contains rs rec) (sym (same on.tablet on.listed)) on.among }

  in_less : (file : ℕ) (rec : Record) → InFile more tablets file rec → InFile recs tablets file rec
  in_less file rec a = record {
    tablet = a.tablet;
    listed = a.listed;
    file_is = a.file_is;
    among = subst (λ (rs : List Record). Contains rs rec) (ap more (sym a.file_is) ∙ same a.tablet a.listed ∙ ap recs a.file_is) a.among;
  }

pub whole_more : (recs more : ℕ → List Record) (files : Contents) (stone : StoneShape) → ((listed : Listed) → Contains stone.tablets listed → more listed.file ≡ recs listed.file) → IsWhole recs files stone → IsWhole more files stone
whole_more recs more files stone same whole = record {
  lawful = whole.lawful;
  read = whole.read;
  files_are = λ listed among. subst (HasFile files listed) (sym (same listed among)) (whole.files_are listed among);
  rows_are = λ rec on. whole.rows_are rec (on_less recs more stone.tablets same rec on);
  apart = λ one other rec also a b. whole.apart one other rec also (in_less recs more stone.tablets same one rec a) (in_less recs more stone.tablets same other also b);
}

pub rows_more : (recs more : ℕ → List Record) (h : History) (stone : StoneShape) → ((listed : Listed) → Contains stone.tablets listed → more listed.file ≡ recs listed.file) → HoldsRows recs h stone → HoldsRows more h stone
rows_more recs more h stone same holds = record {
  first = holds.first;
  exactly = λ numbered. (
    (λ among. let r = (holds.exactly numbered).0 among in record { rec = r.rec; on = on_more recs more stone.tablets same r.rec r.on; unexpired = r.unexpired; is = r.is }),
    (λ r. (holds.exactly numbered).1 (record { rec = r.rec; on = on_less recs more stone.tablets same r.rec r.on; unexpired = r.unexpired; is = r.is })),
  );
}

held_less : (recs more : ℕ → List Record) (tablets : List Listed) (memory : List Filled) → ((listed : Listed) → Contains tablets listed → more listed.file ≡ recs listed.file) → (source : Source) (rec : Record) → Holds more tablets memory source rec → Holds recs tablets memory source rec
held_less recs more tablets memory same (in_file file) rec a = in_less recs more tablets same file rec a
held_less recs more tablets memory same (in_tablet number) rec a = a

pub facts_by_same_records : FactsBySameRecords
facts_by_same_records told recs more h anchor tablets memory facts same_named same = record {
  entered = λ yes stone possible. whole_more recs more anchor.directory.now.files stone (λ listed among. same_named stone listed possible among) (facts.entered yes stone possible);
  rows = λ yes stone possible. rows_more recs more h stone (λ listed among. same_named stone listed possible among) (facts.rows yes stone possible);
  settled = facts.settled;
  lows = facts.lows;
  unsettled = facts.unsettled;
  keys = λ yes one other rec also a b. facts.keys yes one other rec also (held_less recs more tablets memory same one rec a) (held_less recs more tablets memory same other also b);
}
