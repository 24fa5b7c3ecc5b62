-- The opening relation is a function, and defined where a stone is whole.
use Rattle.std.proofs.Common.{◌≡◌, ◌↔◌, ℕ, ◌≤◌, ◌<◌, ◌^◌, true, List, [], ◌∷◌, ◌++◌, map, length, Some, Ok, Err, Result, Contains, refl, sym, ◌∙◌, ap, subst, ⊎_elim, arith}
use Rattle.std.specs.Prelude.{filter, nat_le, IsTrue}
use Rattle.std.specs.Ordering.{is_lt, nat_cmp}
use Rattle.std.specs.Cmp.Lexicographic.{slice_cmp}
use Rattle.std.specs.declared.cmp.Ordering.{Ordering}
use Rattle.std.specs.declared.cmp.Ordering.TheVariants.{Less, Equal, Greater}
use Rattle.std.proofs.lemmas.Cmp.{nat_list_cmp_total, tied_itself}
use Rattle.std.proofs.lemmas.Map.Lookups.{exact_bytes}
use Rattle.std.proofs.lemmas.List.Elements.{Contains-append_left, Contains-append_right, Contains-append_cases}
use Rattle.lt_io.specs.Directory.{Contents, Image}
use Rattle.lt_rec.specs.Bytes.{is_less}
use Rattle.lt_rec.specs.Record.{Record}
use Rattle.lt_rec.specs.Records.{joined}
use Rattle.lt_rec.specs.declared.listed.Listed.{Listed}
use Rattle.lt_schema.specs.declared.value.Value.{Value}
use Rattle.lt_schema.specs.Values.{key_cmp}
use Rattle.lt_schema.specs.Check.{key_of}
use Rattle.lt_schema.specs.Versions.{SchemaVersions, schema_at, is_versions}
use Rattle.lt_codec.specs.Reading.{row_in}
use Rattle.lt_codec.specs.Spelling.{key_bytes}
use Rattle.lt_codec.proofs.Keys.{keys_order}
use Rattle.lt_block.specs.Spelling.{Rises}
use Rattle.lt_layout.specs.Spelling.{totals_of, listed_totals, file_of}
use Rattle.lt_layout.specs.Reading.{file_at as layout_at}
use Rattle.lt_layout.proofs.Whole.{file_again}
use Rattle.lt_desc.specs.Shape.{StoneShape}
use Rattle.lt_desc.specs.Spelling.{spelling}
use Rattle.lt_model.specs.History.{Numbered, Opening}
use Rattle.lt_model.specs.Legal.{AreRising}
use Rattle.lt_model.proofs.Orders.{key_cmp_total}
use Rattle.lt_model.proofs.Verdicts.{Contains-cons_cases}
use Rattle.lt_trace.specs.Records.{IsRecordOf, IsFileOf, HasFile, IsOn, HasRow}
use Rattle.lt_trace.specs.Opens.{IsWhole, OpensTo}
use Rattle.lt_trace.specs.Laws.{SomeOpening, OneOpening}
use Rattle.lt_trace.proofs.Lists.{first_in, later_in, kept_was, kept_passes, is_kept, origin, in_images}
use Rattle.lt_trace.proofs.Keys.{row_of}
use Rattle.lt_trace.proofs.Rising.{rows_can_rise, rising_is_one}

-- ---- bytes are the file of one list of records

read_back : (listed : Listed) (recs : List Record) (bytes : List ℕ) (f : IsFileOf listed recs bytes) → layout_at (listed_totals listed) (length bytes) bytes ≡ Ok f.blocks
read_back listed recs bytes f =
    let totals : totals_of (joined f.blocks) ≡ listed_totals listed = ap totals_of f.records ∙ f.totals in
    let long : length (file_of f.blocks) < 2 ^ 64 = omega (arith, ap length f.spelled, f.size, f.in_range) in
    ap (λ (bs : List ℕ). layout_at (listed_totals listed) (length bs) bs) f.spelled
    ∙ ap (λ t. layout_at t (length (file_of f.blocks)) (file_of f.blocks)) (sym totals) ∙ file_again f.blocks f.tablet long

one_file : (listed : Listed) (recs other : List Record) (bytes : List ℕ) → IsFileOf listed recs bytes → IsFileOf listed other bytes → recs ≡ other
one_file listed recs other bytes f g =
    let ok : Ok f.blocks ≡ Ok g.blocks = sym (read_back listed recs bytes f) ∙ read_back listed other bytes g in
    let same : f.blocks ≡ g.blocks = cc in
    sym f.records ∙ ap joined same ∙ g.records

same_bytes : (a b : List ℕ) → Some a ≡ Some b → a ≡ b
same_bytes a b e = cc

one_there : (files : Contents) (listed : Listed) (recs other : List Record) → HasFile files listed recs → HasFile files listed other → recs ≡ other
one_there files listed recs other f g =
    let same : f.bytes ≡ g.bytes = same_bytes f.bytes g.bytes (sym f.there ∙ g.there) in
    one_file listed recs other g.bytes (subst (IsFileOf listed recs) same f.is) g.is

-- ---- one opening

moved : (files : Contents) (stone : StoneShape) (recs other : ℕ → List Record) → IsWhole recs files stone → IsWhole other files stone → (numbered : Numbered) → HasRow stone.schemas recs stone.tablets stone.low numbered → HasRow stone.schemas other stone.tablets stone.low numbered
moved files stone recs other whole also numbered r = record {
  rec = r.rec;
  on = record {
    tablet = r.on.tablet;
    listed = r.on.listed;
    among = subst (λ (rs : List Record). Contains rs r.rec) (one_there files r.on.tablet (recs r.on.tablet.file) (other r.on.tablet.file) (whole.files_are r.on.tablet r.on.listed) (also.files_are r.on.tablet r.on.listed)) r.on.among;
  };
  unexpired = r.unexpired;
  is = r.is;
}

pub one_opening : OneOpening
one_opening image stone one other a b =
    let rows : one.rows ≡ other.rows = rising_is_one stone.schemas.first one.rows other.rows a.rising b.rising (λ x. (
      (λ among. (b.rows x).1 (moved image.files stone a.recs b.recs a.whole b.whole x ((a.rows x).0 among))),
      (λ among. (a.rows x).1 (moved image.files stone b.recs a.recs b.whole a.whole x ((b.rows x).0 among))),
    )) in
    let schemas : one.schemas ≡ other.schemas = a.schemas ∙ sym b.schemas in
    let ttl : one.ttl ≡ other.ttl = a.ttl ∙ sym b.ttl in
    let low : one.low ≡ other.low = a.low ∙ sym b.low in
    let next : one.next ≡ other.next = a.next ∙ sym b.next in
    let kept : one.kept ≡ other.kept = a.kept ∙ sym b.kept in
    λ i. record { schemas = schemas i; ttl = ttl i; low = low i; next = next i; kept = kept i; rows = rows i }

-- ---- some opening

abbrev pub row_read : Result (List Value) ℕ → List Value
row_read (Ok row) = row
row_read (Err at) = []

abbrev pub numbered_of : SchemaVersions → Record → Numbered
numbered_of versions rec = record { seq = rec.seq; ver = rec.ver; row = row_read (row_in versions rec) }

pub numbered_is : (versions : SchemaVersions) (rec : Record) (numbered : Numbered) → IsRecordOf versions rec numbered → numbered_of versions rec ≡ numbered
numbered_is versions rec numbered is = λ i. record { seq = is.number i; ver = is.version i; row = row_read (is.read i) }

abbrev pub late : (ℕ → List Record) → ℕ → Listed → List Record
late recs low listed = filter (λ (r : Record). nat_le low r.ts) (recs listed.file)

abbrev pub all_rows : SchemaVersions → (ℕ → List Record) → ℕ → List Listed → List Numbered
all_rows versions recs low [] = []
all_rows versions recs low (listed ∷ more) = map (numbered_of versions) (late recs low listed) ++ all_rows versions recs low more

pub record RowAt (versions : SchemaVersions) (recs : ℕ → List Record) (tablets : List Listed) (low : ℕ) (numbered : Numbered) : Type 0 where
  pub rec : Record
  pub on : IsOn recs tablets rec
  pub unexpired : low ≤ rec.ts
  pub same : numbered_of versions rec ≡ numbered

le_of : (a b : ℕ) → nat_le a b ≡ true → a ≤ b
le_of a b e = grind arith

le_true : (a b : ℕ) → a ≤ b → nat_le a b ≡ true
le_true a b h = grind arith

pub row_at : (versions : SchemaVersions) (recs : ℕ → List Record) (low : ℕ) (tablets : List Listed) (numbered : Numbered) → Contains (all_rows versions recs low tablets) numbered → RowAt versions recs tablets low numbered
row_at versions recs low [] numbered among = absurd (omega (arith, among.1))
row_at versions recs low (listed ∷ more) numbered among = ⊎_elim
    (λ here. let o = origin (numbered_of versions) (late recs low listed) numbered here in
    record {
      rec = o.from;
      on = record { tablet = listed; listed = first_in listed more; among = kept_was (λ (r : Record). nat_le low r.ts) (recs listed.file) o.from o.among };
      unexpired = le_of low o.from.ts (kept_passes (λ (r : Record). nat_le low r.ts) (recs listed.file) o.from o.among);
      same = o.same;
    })
    (λ there. let r = row_at versions recs low more numbered there in
    record { rec = r.rec; on = record { tablet = r.on.tablet; listed = later_in listed more r.on.tablet r.on.listed; among = r.on.among }; unexpired = r.unexpired; same = r.same })
    (Contains-append_cases (map (numbered_of versions) (late recs low listed)) (all_rows versions recs low more) numbered among)

pub at_row : (versions : SchemaVersions) (recs : ℕ → List Record) (low : ℕ) (tablets : List Listed) (rec : Record) (tablet : Listed) → Contains tablets tablet → Contains (recs tablet.file) rec → low ≤ rec.ts → Contains (all_rows versions recs low tablets) (numbered_of versions rec)
at_row versions recs low [] rec tablet listed among unexpired = absurd (omega (arith, listed.1))
at_row versions recs low (first ∷ more) rec tablet listed among unexpired = ⊎_elim
    (λ here. Contains-append_left (map (numbered_of versions) (late recs low first)) (all_rows versions recs low more) (numbered_of versions rec)
    (in_images (numbered_of versions) (late recs low first) rec (is_kept (λ (r : Record). nat_le low r.ts) (recs first.file) rec (subst (λ (l : Listed). Contains (recs l.file) rec) (sym here) among) (le_true low rec.ts unexpired))))
    (λ later. Contains-append_right (map (numbered_of versions) (late recs low first)) (all_rows versions recs low more) (numbered_of versions rec) (at_row versions recs low more rec tablet later among unexpired))
    (Contains-cons_cases first more tablet listed)

-- keys rise within a file, so that two of its records with one key are the same
less_of : (o : Ordering) → is_lt o ≡ true → o ≡ Less
less_of Less e = refl
less_of Equal e = cc
less_of Greater e = cc

pub less_trans : (a b c : List ℕ) → is_less a b ≡ true → is_less b c ≡ true → is_less a c ≡ true
less_trans a b c x y = ap is_lt (nat_list_cmp_total.trans a b c (less_of _ x) (less_of _ y))

pub above_all : (last : List ℕ) (recs : List Record) (r : Record) → Rises last recs → Contains recs r → is_less last r.key ≡ true
above_all last [] r rises among = absurd (omega (arith, among.1))
above_all last (first ∷ recs) r rises among = ⊎_elim
    (λ is. subst (λ (q : Record). is_less last q.key ≡ true) is rises.0)
    (λ later. less_trans last first.key r.key rises.0 (above_all first.key recs r rises.1 later))
    (Contains-cons_cases first recs r among)

pub not_less_itself : (a : List ℕ) → is_less a a ≡ true → ⊥
not_less_itself a e =
    let same : slice_cmp nat_cmp a a ≡ Equal = tied_itself nat_list_cmp_total a in
    let less : slice_cmp nat_cmp a a ≡ Less = less_of _ e in
    let clash : Equal ≡ Less = sym same ∙ less in
    cc

one_in_file : (last : List ℕ) (recs : List Record) (r q : Record) → Rises last recs → Contains recs r → Contains recs q → r.key ≡ q.key → r ≡ q
one_in_file last [] r q rises in_r in_q key = absurd (omega (arith, in_r.1))
one_in_file last (first ∷ recs) r q rises in_r in_q key = ⊎_elim
    (λ r_first. ⊎_elim
    (λ q_first. sym r_first ∙ q_first)
    (λ q_later. absurd (not_less_itself first.key (subst (λ (k : List ℕ). is_less first.key k ≡ true) (sym key ∙ ap (λ (x : Record). x.key) (sym r_first)) (above_all first.key recs q rises.1 q_later))))
    (Contains-cons_cases first recs q in_q))
    (λ r_later. ⊎_elim
    (λ q_first. absurd (not_less_itself first.key (subst (λ (k : List ℕ). is_less first.key k ≡ true) (key ∙ ap (λ (x : Record). x.key) (sym q_first)) (above_all first.key recs r rises.1 r_later))))
    (λ q_later. one_in_file first.key recs r q rises.1 r_later q_later key)
    (Contains-cons_cases first recs q in_q))
    (Contains-cons_cases first recs r in_r)

module _ (image : Image) (recs : ℕ → List Record) (stone : StoneShape) (whole : IsWhole recs image.files stone) where
  lawful : IsTrue (is_versions stone.schemas)
  lawful = whole.lawful.schemas

  -- records of rows with one key are the same
  one_record : (r q : Record) (a b : Numbered) → IsOn recs stone.tablets r → IsOn recs stone.tablets q → IsRecordOf stone.schemas r a → IsRecordOf stone.schemas q b → key_of stone.schemas.first a.row ≡ key_of stone.schemas.first b.row → r ≡ q
  one_record r q a b on_r on_q is_a is_b key =
      let v = stone.schemas in
      let tied : key_cmp (key_of v.first a.row) (key_of v.first b.row) ≡ Equal = ap (key_cmp (key_of v.first a.row)) (sym key) ∙ tied_itself key_cmp_total (key_of v.first a.row) in
      let equal : slice_cmp nat_cmp (key_bytes (schema_at v a.ver) a.row) (key_bytes (schema_at v b.ver) b.row) ≡ Equal = keys_order v a.ver b.ver a.row b.row (row_of v r a lawful is_a) (row_of v q b lawful is_b) ∙ tied in
      let bytes : key_bytes (schema_at v a.ver) a.row ≡ key_bytes (schema_at v b.ver) b.row = exact_bytes (key_bytes (schema_at v a.ver) a.row) (key_bytes (schema_at v b.ver) b.row) equal in
      let same : r.key ≡ q.key = is_a.key ∙ bytes ∙ sym is_b.key in
      let file : on_r.tablet.file ≡ on_q.tablet.file = whole.apart on_r.tablet.file on_q.tablet.file r q
      (record { tablet = on_r.tablet; listed = on_r.listed; file_is = refl; among = on_r.among }) (record { tablet = on_q.tablet; listed = on_q.listed; file_is = refl; among = on_q.among }) same in
      let f : HasFile image.files on_r.tablet (recs on_r.tablet.file) = whole.files_are on_r.tablet on_r.listed in
      one_in_file [] (recs on_r.tablet.file) r q (subst (Rises []) f.is.records f.is.tablet.rising) on_r.among (subst (λ (n : ℕ). Contains (recs n) q) (sym file) on_q.among) same

  rows_agree : (a b : Numbered) → RowAt stone.schemas recs stone.tablets stone.low a → RowAt stone.schemas recs stone.tablets stone.low b → key_of stone.schemas.first a.row ≡ key_of stone.schemas.first b.row → a ≡ b
  rows_agree a b at_a at_b key =
      let row_a : (numbered : Numbered) × IsRecordOf stone.schemas at_a.rec numbered = whole.rows_are at_a.rec at_a.on in
      let row_b : (numbered : Numbered) × IsRecordOf stone.schemas at_b.rec numbered = whole.rows_are at_b.rec at_b.on in
      let is_a : row_a.0 ≡ a = sym (numbered_is stone.schemas at_a.rec row_a.0 row_a.1) ∙ at_a.same in
      let is_b : row_b.0 ≡ b = sym (numbered_is stone.schemas at_b.rec row_b.0 row_b.1) ∙ at_b.same in
      let keys : key_of stone.schemas.first row_a.0.row ≡ key_of stone.schemas.first row_b.0.row = ap (λ (n : Numbered). key_of stone.schemas.first n.row) is_a ∙ key ∙ ap (λ (n : Numbered). key_of stone.schemas.first n.row) (sym is_b) in
      let same : at_a.rec ≡ at_b.rec = one_record at_a.rec at_b.rec row_a.0 row_b.0 at_a.on at_b.on row_a.1 row_b.1 keys in
      sym at_a.same ∙ ap (numbered_of stone.schemas) same ∙ at_b.same

  has_row : (numbered : Numbered) → RowAt stone.schemas recs stone.tablets stone.low numbered → HasRow stone.schemas recs stone.tablets stone.low numbered
  has_row numbered at =
      let row : (numbered : Numbered) × IsRecordOf stone.schemas at.rec numbered = whole.rows_are at.rec at.on in
      record { rec = at.rec; on = at.on; unexpired = at.unexpired; is = subst (IsRecordOf stone.schemas at.rec) (sym (numbered_is stone.schemas at.rec row.0 row.1) ∙ at.same) row.1 }

  pub opening : image.descriptor ≡ Some (spelling stone) → (found : Opening) × OpensTo image stone found
  opening spelled =
      let rows = all_rows stone.schemas recs stone.low stone.tablets in
      let sorted : (ys : List Numbered) × AreRising stone.schemas.first ys × ((x : Numbered) → Contains ys x ↔ Contains rows x) =
      rows_can_rise stone.schemas.first rows (λ a b in_a in_b. rows_agree a b (row_at stone.schemas recs stone.low stone.tablets a in_a) (row_at stone.schemas recs stone.low stone.tablets b in_b)) in (
        record { schemas = stone.schemas; ttl = stone.ttl; low = stone.low; next = stone.kept; kept = stone.kept; rows = sorted.0 },
        record {
          spelled = spelled;
          recs = recs;
          whole = whole;
          schemas = refl;
          ttl = refl;
          low = refl;
          next = refl;
          kept = refl;
          rising = sorted.1;
          rows = λ x. (
            (λ among. has_row x (row_at stone.schemas recs stone.low stone.tablets x ((sorted.2 x).0 among))),
            (λ r. (sorted.2 x).1 (subst (Contains rows) (numbered_is stone.schemas r.rec x r.is) (at_row stone.schemas recs stone.low stone.tablets r.rec r.on.tablet r.on.listed r.on.among r.unexpired))),
          );
        },
      )

pub some_opening : SomeOpening
some_opening image recs stone spelled whole = opening image recs stone whole spelled
