-- Stones that list fewer tablets, and stones that list a merged one.
use Rattle.std.proofs.Common.{◌≡◌, ◌⊎◌, ℕ, true, false, List, Ok, Contains, refl, sym, ◌∙◌, ap, subst, inl, inr}
use Rattle.lt_io.specs.Directory.{Contents}
use Rattle.lt_rec.specs.Record.{Record}
use Rattle.lt_rec.specs.Closure.{has}
use Rattle.lt_rec.specs.declared.listed.Listed.{Listed}
use Rattle.lt_schema.specs.Versions.{SchemaVersions}
use Rattle.lt_desc.specs.Shape.{StoneShape}
use Rattle.lt_desc.specs.Lawful.{IsStone}
use Rattle.lt_desc.specs.Reading.{stone_at}
use Rattle.lt_desc.specs.Spelling.{spelling}
use Rattle.lt_model.specs.History.{Numbered}
use Rattle.lt_trace.specs.Records.{IsRecordOf, HasFile, IsOn, InFile}
use Rattle.lt_trace.specs.Opens.{IsWhole}
use Rattle.lt_trace.specs.Laws.{StoodBefore, IsMerged, FewerIsWhole, MergeIsWhole}
use Rattle.lt_trace.proofs.Same.{still_record}

pub fewer_is_whole : FewerIsWhole
fewer_is_whole recs files own new whole lawful read extends fewer = record {
  lawful = lawful;
  read = read;
  files_are = λ listed among. whole.files_are listed (fewer listed among);
  rows_are = λ rec on. let row : (numbered : Numbered) × IsRecordOf own.schemas rec numbered = whole.rows_are rec (record { tablet = on.tablet; listed = fewer on.tablet on.listed; among = on.among }) in
      (row.0, still_record own.schemas new.schemas rec row.0 extends row.1);
  apart = λ one other rec same a b. whole.apart one other rec same
      (record { tablet = a.tablet; listed = fewer a.tablet a.listed; file_is = a.file_is; among = a.among })
      (record { tablet = b.tablet; listed = fewer b.tablet b.listed; file_is = b.file_is; among = b.among });
}

module _ (old_recs new_recs : ℕ → List Record) (files : Contents) (own new : StoneShape) (inputs : List ℕ) (merged : ℕ) (whole : IsWhole old_recs files own)
    (each : (listed : Listed) → Contains new.tablets listed → (StoodBefore old_recs new_recs own.tablets listed × (has inputs listed.file ≡ false)) ⊎ (IsMerged old_recs new_recs own.tablets inputs files listed × (listed.file ≡ merged))) where
  abbrev Each : Listed → Type 0
  Each listed = (StoodBefore old_recs new_recs own.tablets listed × (has inputs listed.file ≡ false)) ⊎ (IsMerged old_recs new_recs own.tablets inputs files listed × (listed.file ≡ merged))

  file_of_each : (listed : Listed) → Each listed → HasFile files listed (new_recs listed.file)
  file_of_each listed (inl stood) = subst (HasFile files listed) (sym stood.0.same) (whole.files_are listed stood.0.listed_before)
  file_of_each listed (inr made) = made.0.file

  -- where each record stood before
  abbrev was_in : (listed : Listed) (rec : Record) → Contains (new_recs listed.file) rec → Each listed → (file : ℕ) × InFile old_recs own.tablets file rec
  was_in listed rec among (inl stood) = (listed.file, record { tablet = listed; listed = stood.0.listed_before; file_is = refl; among = subst (λ (rs : List Record). Contains rs rec) stood.0.same among })
  was_in listed rec among (inr made) = let f = made.0.from rec among in (f.0, f.1)

  on_of : (file : ℕ) (rec : Record) → InFile old_recs own.tablets file rec → IsOn old_recs own.tablets rec
  on_of file rec a = record { tablet = a.tablet; listed = a.listed; among = subst (λ (n : ℕ). Contains (old_recs n) rec) (sym a.file_is) a.among }

  clash : (file other : ℕ) → has inputs file ≡ true → has inputs other ≡ false → file ≡ other → ⊥
  clash file other is_input is_none same = let e : true ≡ false = sym is_input ∙ ap (has inputs) same ∙ is_none in cc

  one_file : (a b : Listed) (rec same : Record) → Contains (new_recs a.file) rec → Contains (new_recs b.file) same → rec.key ≡ same.key → Each a → Each b → a.file ≡ b.file
  one_file a b rec same in_a in_b key (inl x) (inl y) = whole.apart a.file b.file rec same ((was_in a rec in_a (inl x)).1) ((was_in b same in_b (inl y)).1) key
  one_file a b rec same in_a in_b key (inl x) (inr y) = let f = y.0.from same in_b in
      absurd (clash f.0 a.file f.2 x.1 (sym (whole.apart a.file f.0 rec same ((was_in a rec in_a (inl x)).1) f.1 key)))
  one_file a b rec same in_a in_b key (inr x) (inl y) = let f = x.0.from rec in_a in
      absurd (clash f.0 b.file f.2 y.1 (whole.apart f.0 b.file rec same f.1 ((was_in b same in_b (inl y)).1) key))
  one_file a b rec same in_a in_b key (inr x) (inr y) = x.1 ∙ sym y.1

  there : (file : ℕ) (rec : Record) (a : InFile new_recs new.tablets file rec) → Contains (new_recs a.tablet.file) rec
  there file rec a = subst (λ (n : ℕ). Contains (new_recs n) rec) (sym a.file_is) a.among

  pub merged_whole : IsStone new → stone_at (spelling new) ≡ Ok new → new.schemas ≡ own.schemas → IsWhole new_recs files new
  merged_whole lawful read schemas_are = record {
    lawful = lawful;
    read = read;
    files_are = λ listed among. file_of_each listed (each listed among);
    rows_are = λ rec on. let f : (file : ℕ) × InFile old_recs own.tablets file rec = was_in on.tablet rec on.among (each on.tablet on.listed) in
        let row : (numbered : Numbered) × IsRecordOf own.schemas rec numbered = whole.rows_are rec (on_of f.0 rec f.1) in
        (row.0, subst (λ (v : SchemaVersions). IsRecordOf v rec row.0) (sym schemas_are) row.1);
    apart = λ one other rec same a b key. sym a.file_is ∙ one_file a.tablet b.tablet rec same (there one rec a) (there other same b) key (each a.tablet a.listed) (each b.tablet b.listed) ∙ b.file_is;
  }

pub merge_is_whole : MergeIsWhole
merge_is_whole old_recs new_recs files own new inputs merged whole lawful read schemas_are each = merged_whole old_recs new_recs files own new inputs merged whole each lawful read schemas_are
