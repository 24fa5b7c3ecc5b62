use Rattle.std.proofs.Common.{◌≡◌, ◌⊎◌, ◌<◌, true, not, [], leb, length, sym, ap, subst, ◌∙◌, rules, of_calls, arith, inl, inr}
use Rattle.std.specs.Prelude.{slice_get}
use Rattle.std.specs.List.Sorted.{IsPartitionedBy}
use Rattle.std.proofs.lemmas.Bool.{le-leb, and_from}
use Rattle.std.proofs.lemmas.List.Sorted.{IsPartitionPoint-from_clause}
use Rattle.lt_rec.specs.Boxes.{meets_lo, meets_hi}
use Rattle.lt_layout.specs.Spelling.{Entry, end_of}
use Rattle.lt_tablet.specs.Loaded.{Loaded, blocks_in, times_meet}
use Rattle.lt_tablet.proofs.Range.{lo_parts, hi_parts, exactly, outside, outside_times}
use Rattle.lt_tablet.proofs.tablet.Tablet.index_range.Goals as goal
use Rattle.lt_tablet.proofs.tablet.Tablet.index_range.Goals.{then-self-raw_box-via-then-self-raw_box, then-self-raw_box-via-else-self-raw_box+then-raw_box-self}

pub returns-then-self-raw_box-clause-outside : goal.returns-then-self-raw_box-clause-outside
returns-then-self-raw_box-clause-outside g c = λ honest i recs q out.
    let t : Loaded = record { listed = c.self.inside.listed; index = c.self.inside.index.items; filter = c.self.inside.filter; bytes = g.V.Device.reader_bytes c.self.inside.reader } in
    let far : (c.self.inside.listed.high < c.args.raw_box.now.from) ⊎ (c.args.raw_box.now.to < c.self.inside.listed.low) = elim c.then-self-raw_box.branch [
      | then-self-raw_box-via-then-self-raw_box w ↦ inl w.if-self-raw_box.true
      | then-self-raw_box-via-else-self-raw_box+then-raw_box-self w ↦ inr w.if-raw_box-self.true
    ] in
    outside_times t c.args.raw_box.now i recs (c.self.invariant.file honest) far (ap (λ (l : Loaded). slice_get (blocks_in l) i) c.self.view_is ∙ q)

pub returns-clause-exact : goal.returns-clause-exact
returns-clause-exact g c =
    let t : Loaded = record { listed = c.self.inside.listed; index = c.self.inside.index.items; filter = c.self.inside.filter; bytes = g.V.Device.reader_bytes c.self.inside.reader } in
    let raw_box = c.args.raw_box.now in
    let lows : IsPartitionedBy (λ e. not (meets_lo c.args.raw_box.now.lo e.last)) c.as_slice-index.result.now = subst (IsPartitionedBy (λ e. not (meets_lo c.args.raw_box.now.lo e.last))) (sym c.as_slice-index.ensures.value) (lo_parts c.args.raw_box.now.lo (end_of 8 c.self.inside.index.items) 8 [] c.self.inside.index.items c.self.invariant.entries) in
    let highs : IsPartitionedBy (λ e. meets_hi c.args.raw_box.now.hi e.first) c.as_slice-index.result.now = subst (IsPartitionedBy (λ e. meets_hi c.args.raw_box.now.hi e.first)) (sym c.as_slice-index.ensures.value) (hi_parts c.args.raw_box.now.hi (end_of 8 c.self.inside.index.items) 8 [] c.self.inside.index.items c.self.invariant.entries) in
    let low = IsPartitionPoint-from_clause (λ (e : Entry). not (meets_lo c.args.raw_box.now.lo e.last)) _ _ c.partition_point-from.ensures.partitioned lows (λ a r q k. search (rules, of_calls)) in
    let high = IsPartitionPoint-from_clause (λ (e : Entry). meets_hi c.args.raw_box.now.hi e.first) _ _ c.partition_point-to.ensures.partitioned highs (λ a r q k. search (rules, of_calls)) in
    let times : times_meet c.args.raw_box.now c.self.inside.listed ≡ true = and_from (leb c.args.raw_box.now.from c.self.inside.listed.high) (leb c.self.inside.listed.low c.args.raw_box.now.to) (le-leb _ _ c.if-self-raw_box.false) (le-leb _ _ c.if-raw_box-self.false) in
    let range = exactly t raw_box c.partition_point-from.result c.partition_point-to.result times (rw (← c.as_slice-index.ensures.value) low) (rw (← c.as_slice-index.ensures.value) high) (omega (arith, c.partition_point-to.ensures.bound, ap length c.as_slice-index.ensures.value)) in
    rw (← c.self.view_is) (rw c.min.ensures range)

pub returns-clause-outside : goal.returns-clause-outside
returns-clause-outside g c = λ honest i recs q out.
    let t : Loaded = record { listed = c.self.inside.listed; index = c.self.inside.index.items; filter = c.self.inside.filter; bytes = g.V.Device.reader_bytes c.self.inside.reader } in
    let raw_box = c.args.raw_box.now in
    let lows : IsPartitionedBy (λ e. not (meets_lo c.args.raw_box.now.lo e.last)) c.as_slice-index.result.now = subst (IsPartitionedBy (λ e. not (meets_lo c.args.raw_box.now.lo e.last))) (sym c.as_slice-index.ensures.value) (lo_parts c.args.raw_box.now.lo (end_of 8 c.self.inside.index.items) 8 [] c.self.inside.index.items c.self.invariant.entries) in
    let highs : IsPartitionedBy (λ e. meets_hi c.args.raw_box.now.hi e.first) c.as_slice-index.result.now = subst (IsPartitionedBy (λ e. meets_hi c.args.raw_box.now.hi e.first)) (sym c.as_slice-index.ensures.value) (hi_parts c.args.raw_box.now.hi (end_of 8 c.self.inside.index.items) 8 [] c.self.inside.index.items c.self.invariant.entries) in
    let low = IsPartitionPoint-from_clause (λ (e : Entry). not (meets_lo c.args.raw_box.now.lo e.last)) _ _ c.partition_point-from.ensures.partitioned lows (λ a r q k. search (rules, of_calls)) in
    let high = IsPartitionPoint-from_clause (λ (e : Entry). meets_hi c.args.raw_box.now.hi e.first) _ _ c.partition_point-to.ensures.partitioned highs (λ a r q k. search (rules, of_calls)) in
    outside t raw_box c.partition_point-from.result c.partition_point-to.result i recs (c.self.invariant.file honest) (rw (← c.as_slice-index.ensures.value) low) (rw (← c.as_slice-index.ensures.value) high) (ap (λ (l : Loaded). slice_get (blocks_in l) i) c.self.view_is ∙ q) (rw (← c.min.ensures) out)
