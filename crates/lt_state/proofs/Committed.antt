-- The facts after a flush was published.
use Rattle.std.proofs.Common.{◌≡◌, ◌⊎◌, ℕ, true, List, [], ◌∷◌, max, Some, Contains, refl, sym, ◌∙◌, ap, subst, inl, inr, ⊎_elim, arith}
use Rattle.lt_io.specs.Directory.{Contents}
use Rattle.lt_rec.specs.Closure.{has}
use Rattle.lt_rec.specs.Record.{Record}
use Rattle.lt_rec.specs.declared.listed.Listed.{Listed}
use Rattle.lt_desc.specs.Shape.{StoneShape}
use Rattle.lt_commit.proofs.Orders.{only_one}
use Rattle.lt_model.specs.History.{kept_entry, extended}
use Rattle.lt_model.specs.Readings.{low, kept}
use Rattle.lt_model.proofs.Fronts.{kept-extended, low-extended, next-extended}
use Rattle.lt_trace.proofs.Past.{rows_outlive}
use Rattle.lt_trace.specs.Laws.{StoodBefore}
use Rattle.lt_trace.specs.Opens.{IsWhole, HoldsRows}
use Rattle.lt_trace.specs.Records.{KeysApart, InFile}
use Rattle.lt_state.proofs.Flush.{flush_holds, flush_splits_none}
use Rattle.lt_state.proofs.Jobs.{flush_is_whole}
use Rattle.lt_state.specs.Facts.{IsSettled, in_file, in_tablet, Holds}
use Rattle.lt_state.specs.Flushes.{Joins, IsFlushed}
use Rattle.lt_state.specs.Laws.{FlushKeepsFacts}
use Rattle.lt_state.specs.State.{Filled, InMemory}

module _ (old_recs new_recs : ℕ → List Record) (tablets : List Listed) (memory left : List Filled) (parts : List ℕ) (files : Contents) (stone : StoneShape)
    (keys : KeysApart (Holds old_recs tablets memory)) (apart : KeysApart (InFile new_recs stone.tablets))
    (each : (listed : Listed) → Contains stone.tablets listed → StoodBefore old_recs new_recs tablets listed ⊎ IsFlushed memory parts files new_recs listed)
    (was : (number : ℕ) (rec : Record) → InMemory left number rec → InMemory memory number rec) (gone : (number : ℕ) (rec : Record) → InMemory left number rec → has parts number ≡ true → ⊥) where
  -- a record of a new file has no key of what is left in memory
  never : (listed : Listed) (number : ℕ) (rec same : Record) → StoodBefore old_recs new_recs tablets listed ⊎ IsFlushed memory parts files new_recs listed → Contains (new_recs listed.file) rec → InMemory left number same → rec.key ≡ same.key → ⊥
  never listed number rec same (inl stood) among held key =
      let e : in_file listed.file ≡ in_tablet number = keys (in_file listed.file) (in_tablet number) rec same
      (record { tablet = listed; listed = stood.listed_before; file_is = refl; among = subst (λ (rs : List Record). Contains rs rec) stood.same among }) (was number same held) key in cc
  never listed number rec same (inr flushed) among held key =
      let e : in_tablet flushed.tablet.number ≡ in_tablet number = keys (in_tablet flushed.tablet.number) (in_tablet number) rec same
      (record { tablet = flushed.tablet; held = flushed.held; number_is = refl; among = subst (λ (rs : List Record). Contains rs rec) flushed.records among }) (was number same held) key in
      let n : flushed.tablet.number ≡ number = cc in
      gone number same held (ap (has parts) (sym n) ∙ flushed.part)

  there : (file : ℕ) (rec : Record) (a : InFile new_recs stone.tablets file rec) → Contains (new_recs a.tablet.file) rec
  there file rec a = subst (λ (n : ℕ). Contains (new_recs n) rec) (sym a.file_is) a.among

  pub keys_after : KeysApart (Holds new_recs stone.tablets left)
  keys_after (in_file one) (in_file other) rec same a b key = ap in_file (apart one other rec same a b key)
  keys_after (in_file one) (in_tablet other) rec same a b key = absurd (never a.tablet other rec same (each a.tablet a.listed) (there one rec a) b key)
  keys_after (in_tablet one) (in_file other) rec same a b key = absurd (never b.tablet one same rec (each b.tablet b.listed) (there other same b) a (sym key))
  keys_after (in_tablet one) (in_tablet other) rec same a b key = keys (in_tablet one) (in_tablet other) rec same (was one rec a) (was other same b) key

pub stone_is : (stone other : StoneShape) → Contains (Some stone ∷ []) (Some other) → stone ≡ other
stone_is stone other among = let e : Some stone ≡ Some other = only_one (Some stone) (Some other) among in cc

pub flush_keeps_facts : FlushKeepsFacts
flush_keeps_facts h old_recs new_recs anchor tablets memory left parts new own stone legal still opened in_memory facts possible own_upto own_low own_schemas own_tablets lawful read low_is new_schemas takes stood each alone olds goes leaves =
    let more = kept_entry stone.kept ∷ [] in
    let settled : kept (extended h more) ≡ max (kept h) stone.kept = kept-extended h more in
    let lows : low (extended h more) ≡ low h = low-extended h more in
    let nexts = next-extended h more in
    let each_own : (listed : Listed) → Contains stone.tablets listed → StoodBefore old_recs new_recs own.tablets listed ⊎ IsFlushed memory parts new.now.files new_recs listed =
    subst (λ (ts : List Listed). (listed : Listed) → Contains stone.tablets listed → StoodBefore old_recs new_recs ts listed ⊎ IsFlushed memory parts new.now.files new_recs listed) (sym own_tablets) each in
    let whole : IsWhole new_recs new.now.files stone = flush_is_whole h old_recs new_recs tablets memory parts new.now.files own stone in_memory stood own_tablets own_schemas (facts.keys refl) lawful read new_schemas each_own alone in
    let joins : Joins memory parts old_recs own.tablets new_recs stone.tablets = record {
      from = λ rec on. ⊎_elim
          (λ s. inl (record { tablet = on.tablet; listed = s.listed_before; among = subst (λ (rs : List Record). Contains rs rec) s.same on.among }))
          (λ f. inr (record { number = f.tablet.number; part = f.part; held = record { tablet = f.tablet; held = f.held; number_is = refl; among = subst (λ (rs : List Record). Contains rs rec) f.records on.among } }))
          (each_own on.tablet on.listed);
      old = λ rec on. let stays = olds on.tablet (subst (λ (ts : List Listed). Contains ts on.tablet) own_tablets on.listed) in record { tablet = on.tablet; listed = stays.0; among = subst (λ (rs : List Record). Contains rs rec) (sym stays.1) on.among };
      gone = λ rec g. goes g.number rec g.part g.held;
    } in
    let holds : HoldsRows new_recs h stone = flush_holds h memory parts old_recs new_recs own stone legal opened in_memory own_upto own_schemas (facts.rows refl own possible) takes new_schemas (low_is ∙ sym own_low) joins in
    let grown : HoldsRows new_recs (extended h more) stone = rows_outlive new_recs h more stone still takes.given holds in
    record {
      entered = λ yes other among. subst (IsWhole new_recs new.now.files) (stone_is stone other among) whole;
      rows = λ yes other among. subst (HoldsRows new_recs (extended h more)) (stone_is stone other among) grown;
      settled = λ other among. subst (IsSettled (extended h more)) (stone_is stone other among) (let here : IsSettled (extended h more) stone = record { no_lower = omega (arith, settled, takes.no_lower); given = omega (arith, takes.given, nexts) } in here);
      lows = λ other among. omega (arith, lows, low_is, ap (λ (s : StoneShape). s.low) (stone_is stone other among));
      unsettled = flush_splits_none h parts stone.kept legal.follows facts.unsettled takes;
      keys = λ yes. keys_after old_recs new_recs tablets memory left parts new.now.files stone (facts.keys refl) whole.apart each leaves.was leaves.gone;
    }
