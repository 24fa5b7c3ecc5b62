-- What the records of a core with a row's key say of the history.
use Rattle.std.proofs.Common.{◌≡◌, ◌≢◌, ℕ, ◌≤◌, true, List, Contains, refl, sym, ◌∙◌, ap, subst}
use Rattle.std.specs.Prelude.{IsTrue}
use Rattle.lt_rec.specs.Record.{Record}
use Rattle.lt_rec.specs.declared.listed.Listed.{Listed}
use Rattle.lt_desc.specs.Shape.{StoneShape}
use Rattle.lt_schema.specs.Versions.{SchemaVersions, is_versions}
use Rattle.lt_model.specs.History.{Numbered, History}
use Rattle.lt_model.specs.Readings.{low, schemas, time_in}
use Rattle.lt_model.specs.Verdict.{HasKey, HasNewKey}
use Rattle.lt_trace.specs.Elements.{Story, history_of}
use Rattle.lt_trace.specs.Records.{IsRecordOf}
use Rattle.lt_trace.proofs.Lists.{Origin, origin, in_images}
use Rattle.lt_state.specs.State.{Core, Sealed, listing}
use Rattle.lt_state.specs.Facts.{Source, in_file, in_tablet, Holds}
use Rattle.lt_state.specs.Stands.{StandsFor}
use Rattle.lt_state.specs.Laws.{HasNoKey}
use Rattle.lt_state.proofs.Verdict.{found_is_present, none_found_is_new}
use Rattle.lt_core.specs.Inserts as find
use Rattle.lt_core.specs.Inserts.{IsClear, HasAt, HasRecord, NoneFrom}

module _ (c : Core) (s : Story) (stands : StandsFor true c s) (numbered : Numbered) (rec : Record)
    (lawful : IsTrue (is_versions c.schemas)) (is : IsRecordOf c.schemas rec numbered) (unexpired : low (history_of s) ≤ time_in (history_of s) numbered) where
  abbrev h : History
  h = history_of s

  abbrev own : StoneShape
  own = stands.own.0

  lawful_here : IsTrue (is_versions (schemas h))
  lawful_here = subst (λ (v : SchemaVersions). IsTrue (is_versions v)) stands.reads.schemas_are lawful

  is_here : IsRecordOf (schemas h) rec numbered
  is_here = subst (λ (v : SchemaVersions). IsRecordOf v rec numbered) stands.reads.schemas_are is

  -- a source of the facts
  abbrev source_of : find.Place → Source
  source_of (find.in_listed t) = in_file t.listed.file
  source_of (find.in_tablet number) = in_tablet number

  holds_at : (place : find.Place) (other : Record) → HasAt c place other → Holds stands.safe.recs (listing c) c.memory (source_of place) other
  holds_at (find.in_listed t) other held = record {
    tablet = t.listed;
    listed = in_images (λ (x : Sealed). x.listed) c.listed t held.0;
    file_is = refl;
    among = subst (λ (rs : List Record). Contains rs other) (stands.safe.tablets refl t held.0) held.1;
  }
  holds_at (find.in_tablet number) other held = held

  -- each source of the facts is a place of the core
  placed : (source : Source) (other : Record) → Holds stands.safe.recs (listing c) c.memory source other → (place : find.Place) × HasAt c place other
  placed (in_file file) other held =
      let o : Origin (λ (t : Sealed). t.listed) c.listed held.tablet = origin (λ (t : Sealed). t.listed) c.listed held.tablet held.listed in
      let same : file ≡ o.from.listed.file = sym held.file_is ∙ ap (λ (l : Listed). l.file) (sym o.same) in
      (find.in_listed o.from, (o.among, subst (λ (rs : List Record). Contains rs other) (ap stands.safe.recs same ∙ sym (stands.safe.tablets refl o.from o.among)) held.among))
  placed (in_tablet number) other held = (find.in_tablet number, held)

  key_found : (place : find.Place) (other : Record) → HasAt c place other → other.key ≡ rec.key → HasKey h numbered.row other.seq
  key_found place other held key =
      found_is_present h stands.safe.recs c.anchor (listing c) c.memory own numbered rec other (source_of place) lawful_here stands.memory stands.safe.facts stands.own.1 stands.own.2.tablets (stands.own.2.schemas ∙ stands.reads.schemas_are) (stands.own.2.low ∙ stands.reads.low_is) is_here unexpired
      (holds_at place other held) key

  -- a record that has the key is of a row that has it
  pub present_key : (seq : ℕ) → HasRecord c rec.key seq → HasKey h numbered.row seq
  present_key seq has = subst (HasKey h numbered.row) has.number (key_found has.place has.rec has.held has.key_is)

  module _ (clear : ℕ) (cleared : IsClear h numbered.row clear) (none : NoneFrom c rec.key clear) where
    -- where none has it from a number on, below which no row has it, the key is new
    pub new_key : HasNewKey h numbered.row
    new_key =
        none_found_is_new h stands.safe.recs c.anchor (listing c) c.memory own numbered rec clear (stands.safe.legal refl) stands.opened lawful_here stands.memory stands.safe.facts stands.own.1 stands.own.2.tablets (stands.own.2.schemas ∙ stands.reads.schemas_are) (stands.own.2.low ∙ stands.reads.low_is) (stands.own.2.kept ∙ stands.reads.kept_is) is_here unexpired
        (λ source other held key. let p = placed source other held in none p.0 other p.1 key)
        cleared

    no_one : (place : find.Place) (other : Record) → HasAt c place other → other.key ≢ rec.key
    no_one place other held key = let k : HasKey h numbered.row other.seq = key_found place other held key in new_key k.found k.among k.same_key

    pub no_key : HasNoKey c rec
    no_key = record {
      listed = λ t other among in_recs. no_one (find.in_listed t) other (among, in_recs);
      memory = λ number other held. no_one (find.in_tablet number) other held;
    }
