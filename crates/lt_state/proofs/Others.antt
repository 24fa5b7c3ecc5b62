-- Merges, purges and changes of the schema.
use Rattle.std.proofs.Common.{◌≡◌, List, [], ◌++◌, Contains, refl, sym, ◌∙◌, ap, subst, arith}
use Rattle.std.proofs.lemmas.List.{append-nil}
use Rattle.lt_schema.specs.Versions.{SchemaVersions}
use Rattle.lt_desc.specs.Shape.{StoneShape}
use Rattle.lt_model.specs.History.{Entry, History, extended}
use Rattle.lt_model.specs.Readings.{schemas, changes_in}
use Rattle.lt_model.proofs.Fronts.{schemas-extended}
use Rattle.lt_trace.proofs.Rows.{placed_in-append}
use Rattle.lt_trace.proofs.Same.{still_record}
use Rattle.lt_trace.specs.Elements.{Placed, placed_in}
use Rattle.lt_trace.specs.Opens.{IsWhole, HoldsRows}
use Rattle.lt_trace.specs.Records.{Extends}
use Rattle.lt_state.proofs.Committed.{stone_is}
use Rattle.lt_state.specs.Facts.{IsSettled}
use Rattle.lt_state.specs.Laws.{PublishedFacts, OthersLeaveMemory, OthersSplitNone}
use Rattle.lt_state.specs.Memory.{IsPlaced, IsHeld}

pub published_facts : PublishedFacts
published_facts told h recs new stone memory whole holds bounds lows unsettled keys = record {
  entered = λ yes other among. subst (IsWhole recs new.now.files) (stone_is stone other among) (whole yes);
  rows = λ yes other among. subst (HoldsRows recs h) (stone_is stone other among) (holds yes);
  settled = λ other among. subst (IsSettled h) (stone_is stone other among) bounds;
  lows = λ other among. omega (arith, lows, ap (λ (s : StoneShape). s.low) (stone_is stone other among));
  unsettled = unsettled;
  keys = keys;
}

same_placed : (h : History) (more : List Entry) → placed_in more ≡ [] → placed_in (extended h more).entries ≡ placed_in h.entries
same_placed h more none = placed_in-append h.entries more ∙ ap (λ (ps : List Placed). placed_in h.entries ++ ps) none ∙ append-nil (placed_in h.entries)

pub grown_schemas : (h : History) (more : List Entry) → Extends (schemas h) (schemas (extended h more))
grown_schemas h more = record { first = refl; since = changes_in more; changes = ap (λ (v : SchemaVersions). v.changes) (schemas-extended h more) }

pub others_leave_memory : OthersLeaveMemory
others_leave_memory h memory more none settled in_memory =
    let placed = same_placed h more none in
    record {
      each = λ number rec held. let p : IsPlaced h number rec = in_memory.each number rec held in record {
        placed = p.placed;
        among = subst (λ (ps : List Placed). Contains ps p.placed) (sym placed) p.among;
        unsettled = omega (arith, settled, p.unsettled);
        tablet_is = p.tablet_is;
        is = still_record (schemas h) (schemas (extended h more)) rec p.placed.numbered (grown_schemas h more) p.is;
      };
      all = λ p among above. let held : IsHeld h memory p = in_memory.all p (subst (λ (ps : List Placed). Contains ps p) placed among) (omega (arith, settled, above)) in record {
        rec = held.rec;
        held = held.held;
        is = still_record (schemas h) (schemas (extended h more)) held.rec p.numbered (grown_schemas h more) held.is;
      };
    }

pub others_split_none : OthersSplitNone
others_split_none h more none settled whole one other in_one in_other same above =
    let placed = same_placed h more none in
    omega (arith, settled, whole one other (subst (λ (ps : List Placed). Contains ps one) placed in_one) (subst (λ (ps : List Placed). Contains ps other) placed in_other) same (omega (arith, settled, above)))
