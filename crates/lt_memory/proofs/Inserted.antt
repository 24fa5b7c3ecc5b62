-- What is true of the tablets once a record is inserted.
use Rattle.std.proofs.Common.{◌≡◌, ◌≢◌, ℕ, ◌+◌, ◌^◌, ◌<◌, ◌≤◌, ◌⊎◌, Bool, true, false, cond, List, [], ◌∷◌, ◌++◌, length, get_or, map, max, insert, Contains, refl, sym, ◌∙◌, ap, subst, inl, inr, ⊎_elim, arith}
use Rattle.std.specs.Prelude.{if◌then◌else◌, not, nat_eq, ◌&&◌}
use Rattle.std.specs.List.Sorted.{IsStrictlyIncreasing}
use Rattle.std.specs.Int.{w64, from_be_bytes}
use Rattle.std.proofs.Math.Seq.{map-set_same}
use Rattle.std.proofs.lemmas.Bool.{leb-true, eqb-true}
use Rattle.std.proofs.lemmas.Nat.{from_be_bytes-to_be_bytes_8}
use Rattle.std.proofs.lemmas.List.{map-append, get_or_default}
use Rattle.std.proofs.lemmas.List.Elements.{Contains-append_left, Contains-push, Contains-push_cases}
use Rattle.std.proofs.lemmas.List.Sums.{sum_by-insert}
use Rattle.lt_rec.specs.Periods.{Stretch, InPeriod}
use Rattle.lt_rec.specs.Record.{Record, IsRecord, stored_len, time_of}
use Rattle.lt_mem.specs.Rising.{all_stored}
use Rattle.lt_state.specs.State.{Filled, InMemory}
use Rattle.lt_state.specs.Memory.{AreTablets}
use Rattle.lt_state.specs.Flushes.{AddsRecord}
use Rattle.lt_memory.specs.Tablets.{AreHeld, HaveTime, most_bytes}
use Rattle.lt_memory.specs.Inserting.{is_open, filled_up, begun, Grew, Began, Took}
use Rattle.lt_memory.proofs.Lists.{Origin, origin, in_images, none_in, set_has, set_origin, set_keeps, insert_has, insert_origin, insert_keeps, rising_more}

-- ---- timestamps

time_of_lawful : (rec : Record) → IsRecord rec → time_of rec.key ≡ rec.ts
time_of_lawful rec lawful = ap (from_be_bytes w64) lawful.timed ∙ from_be_bytes-to_be_bytes_8 rec.ts lawful.moment

pub have_time : (tablets : List Filled) (next : ℕ) → AreHeld tablets next → (rec : Record) → IsRecord rec → HaveTime tablets rec.key rec.ts
have_time tablets next held rec lawful number other at same =
    sym (time_of_lawful other (held.lawful at.tablet other at.held at.among)) ∙ ap time_of same ∙ time_of_lawful rec lawful

-- ---- periods

both : (a b : Bool) → (a && b) ≡ true → (a ≡ true) × (b ≡ true)
both true true e = (refl, refl)
both true false e = cc
both false b e = cc

same_period : (period : Stretch) (t : Filled) → is_open period t ≡ true → t.period ≡ period
same_period period t opened =
    let parts = both (not t.frozen) (nat_eq t.period.start period.start && nat_eq t.period.len period.len) opened in
    let same = both (nat_eq t.period.start period.start) (nat_eq t.period.len period.len) parts.1 in
    let start : t.period.start ≡ period.start = eqb-true t.period.start period.start same.0 in
    let len : t.period.len ≡ period.len = eqb-true t.period.len period.len same.1 in
    let make : ℕ → ℕ → Stretch = λ s l. record { start = s; len = l } in
    ap (λ (s : ℕ). make s t.period.len) start ∙ ap (λ (l : ℕ). make period.start l) len

-- ---- numbers

below_next : (tablets : List Filled) (next : ℕ) → ((t : Filled) → Contains tablets t → t.number < next) → (k : ℕ) → k < length (map (λ (t : Filled). t.number) tablets) → get_or (map (λ (t : Filled). t.number) tablets) k 0 < next
below_next tablets next below k held =
    let o = origin (λ (t : Filled). t.number) tablets (get_or (map (λ (t : Filled). t.number) tablets) k 0) (k, held, get_or_default (map (λ (t : Filled). t.number) tablets) k _ 0 held) in
    subst (λ (n : ℕ). n < next) o.same (below o.from o.among)

-- ---- a tablet that was there took the record

module _ (old new : List Filled) (next : ℕ) (period : Stretch) (number : ℕ) (rec : Record) (grew : Grew old new period number rec) where
  grown_tablet : Filled
  grown_tablet = record grew.tablet { recs = grew.recs }

  was_there : Contains old grew.tablet
  was_there = (grew.place, grew.placed.held, grew.placed.is)

  new_from : (t : Filled) → Contains new t → Contains old t ⊎ (grown_tablet ≡ t)
  unfolding grown_tablet
  new_from t among = set_origin old grew.place (record grew.tablet { recs = grew.recs }) t (subst (λ ts. Contains ts t) grew.is among)

  old_in : (t : Filled) → Contains old t → Contains new t ⊎ (grew.tablet ≡ t)
  old_in t among = subst (λ ts. Contains ts t ⊎ (grew.tablet ≡ t)) (sym grew.is) (set_keeps old grew.place (record grew.tablet { recs = grew.recs }) grew.tablet t grew.placed.is grew.placed.held among)

  new_has : Contains new grown_tablet
  unfolding grown_tablet
  new_has = subst (λ ts. Contains ts grown_tablet) (sym grew.is) (set_has old grew.place (record grew.tablet { recs = grew.recs }) grew.placed.held)

  recs_from : (other : Record) → Contains grew.recs other → Contains grew.tablet.recs other ⊎ (rec ≡ other)
  recs_from other among = insert_origin grew.tablet.recs grew.gains.0 rec other (subst (λ rs. Contains rs other) grew.gains.2 among)

  recs_in : (other : Record) → Contains grew.tablet.recs other → Contains grew.recs other
  recs_in other among = subst (λ rs. Contains rs other) (sym grew.gains.2) (insert_keeps grew.tablet.recs grew.gains.0 rec other among)

  recs_has : Contains grew.recs rec
  recs_has = subst (λ rs. Contains rs rec) (sym grew.gains.2) (insert_has grew.tablet.recs grew.gains.0 rec)

  pub grew_adds : AddsRecord old new number rec
  unfolding grown_tablet
  grew_adds = record {
    was = λ n other at. ⊎_elim
        (λ before. inl (record { tablet = at.tablet; held = before; number_is = at.number_is; among = at.among }))
        (λ (same : grown_tablet ≡ at.tablet). ⊎_elim
        (λ before. inl (record { tablet = grew.tablet; held = was_there; number_is = ap (λ (t : Filled). t.number) same ∙ at.number_is; among = before }))
        (λ here. inr (sym (sym grew.number_is ∙ ap (λ (t : Filled). t.number) same ∙ at.number_is), sym here))
        (recs_from other (subst (λ (t : Filled). Contains t.recs other) (sym same) at.among)))
        (new_from at.tablet at.held);
    stays = λ n other at. ⊎_elim
        (λ after. record { tablet = at.tablet; held = after; number_is = at.number_is; among = at.among })
        (λ (same : grew.tablet ≡ at.tablet). record { tablet = grown_tablet; held = new_has; number_is = ap (λ (t : Filled). t.number) same ∙ at.number_is; among = recs_in other (subst (λ (t : Filled). Contains t.recs other) (sym same) at.among) })
        (old_in at.tablet at.held);
    new = record { tablet = grown_tablet; held = new_has; number_is = grew.number_is; among = recs_has };
  }

  -- what is true of each tablet before and of the one that grew is true of each tablet
  each_new : (P : Filled → Type 0) → ((t : Filled) → Contains old t → P t) → P grown_tablet → (t : Filled) → Contains new t → P t
  each_new P before here t among = ⊎_elim (before t) (λ (same : grown_tablet ≡ t). subst P same here) (new_from t among)

  pub grew_held : AreHeld old next → IsRecord rec → InPeriod period rec.ts → grew.tablet.period ≡ period → AreHeld new (max next (number + 1))
  unfolding grown_tablet
  grew_held held lawful within same_period =
      let was = was_there in
      let numbers : map (λ (t : Filled). t.number) new ≡ map (λ (t : Filled). t.number) old
      = ap (λ ts. map (λ (t : Filled). t.number) ts) grew.is ∙ map-set_same (λ (t : Filled). t.number) old grew.place (record grew.tablet { recs = grew.recs }) grew.tablet (ap (λ (t : Filled). t.number) (sym grew.placed.is)) in
      let size : all_stored grew.recs ≡ all_stored grew.tablet.recs + stored_len rec = ap all_stored grew.gains.2 ∙ sum_by-insert stored_len grew.tablet.recs grew.gains.0 rec in
      record {
        are = record {
          rising = subst IsStrictlyIncreasing (sym numbers) held.are.rising;
          some = each_new (λ t. t.recs ≢ []) held.are.some (λ none. none_in rec (subst (λ rs. Contains rs rec) none recs_has));
          within = λ t other among. each_new (λ t. (other : Record) → Contains t.recs other → InPeriod t.period other.ts) (λ t there other. held.are.within t other there)
              (λ other in_it. ⊎_elim (held.are.within grew.tablet other was) (λ (same : rec ≡ other). subst (λ (r : Record). InPeriod grew.tablet.period r.ts) same (subst (λ p. InPeriod p rec.ts) (sym same_period) within)) (recs_from other in_it))
              t among other;
        };
        below = each_new (λ t. t.number < max next (number + 1)) (λ t there. omega (arith, held.below t there)) (omega (arith, held.below grew.tablet was));
        lawful = λ t other among. each_new (λ t. (other : Record) → Contains t.recs other → IsRecord other) (λ t there other. held.lawful t other there)
            (λ other in_it. ⊎_elim (held.lawful grew.tablet other was) (λ (same : rec ≡ other). subst IsRecord same lawful) (recs_from other in_it))
            t among other;
        small = each_new (λ t. all_stored t.recs ≤ most_bytes) held.small (let room = leb-true (all_stored grew.tablet.recs + stored_len rec) most_bytes grew.room in subst (λ (n : ℕ). n ≤ most_bytes) (sym size) room);
        sealed = each_new (λ t. t.full ≡ true → t.frozen ≡ true) held.sealed (held.sealed grew.tablet was);
      }

-- ---- a new tablet has the record

filled_number : (b : Bool) (t : Filled) → (if b then record t { full = true; frozen = true } else t).number ≡ t.number
filled_number true t = refl
filled_number false t = refl

filled_period : (b : Bool) (t : Filled) → (if b then record t { full = true; frozen = true } else t).period ≡ t.period
filled_period true t = refl
filled_period false t = refl

filled_recs : (b : Bool) (t : Filled) → (if b then record t { full = true; frozen = true } else t).recs ≡ t.recs
filled_recs true t = refl
filled_recs false t = refl

filled_sealed : (b : Bool) (t : Filled) → (t.full ≡ true → t.frozen ≡ true) → (if b then record t { full = true; frozen = true } else t).full ≡ true → (if b then record t { full = true; frozen = true } else t).frozen ≡ true
filled_sealed true t before full = refl
filled_sealed false t before full = before full

numbers_filled : (period : Stretch) (ts : List Filled) → map (λ (t : Filled). t.number) (map (filled_up period) ts) ≡ map (λ (t : Filled). t.number) ts
numbers_filled period [] = refl
numbers_filled period (t ∷ ts) = ap (λ (n : ℕ). n ∷ map (λ (t : Filled). t.number) (map (filled_up period) ts)) (filled_number (is_open period t) t) ∙ ap (λ ns. t.number ∷ ns) (numbers_filled period ts)

module _ (old new : List Filled) (next : ℕ) (period : Stretch) (rec : Record) (now : ℕ) (began : Began old new period next rec now) where
  fresh : Filled
  fresh = begun next period rec now

  from_filled : (t : Filled) → Contains new t → Origin (filled_up period) old t ⊎ (fresh ≡ t)
  unfolding fresh
  from_filled t among = ⊎_elim
      (λ before. inl (origin (filled_up period) old t before))
      (λ same. inr same)
      (Contains-push_cases (map (filled_up period) old) (begun next period rec now) t (subst (λ ts. Contains ts t) began.is among))

  has_fresh : Contains new fresh
  unfolding fresh
  has_fresh = subst (λ ts. Contains ts fresh) (sym began.is) (Contains-push (map (filled_up period) old) (begun next period rec now))

  has_filled : (t : Filled) → Contains old t → Contains new (filled_up period t)
  has_filled t among = subst (λ ts. Contains ts (filled_up period t)) (sym began.is) (Contains-append_left (map (filled_up period) old) (begun next period rec now ∷ []) (filled_up period t) (in_images (filled_up period) old t among))

  only_rec : (other : Record) → Contains (rec ∷ []) other → rec ≡ other
  only_rec other among = ⊎_elim (λ none. absurd (none_in other none)) (λ same. same) (Contains-push_cases [] rec other among)

  pub began_adds : AddsRecord old new next rec
  unfolding fresh
  began_adds = record {
    was = λ n other at. ⊎_elim
        (λ (o : Origin (filled_up period) old at.tablet).
        let b = is_open period o.from in
        inl (record {
          tablet = o.from;
          held = o.among;
          number_is = sym (filled_number b o.from) ∙ ap (λ (t : Filled). t.number) o.same ∙ at.number_is;
          among = subst (λ rs. Contains rs other) (sym (ap (λ (t : Filled). t.recs) o.same) ∙ filled_recs b o.from) at.among;
        }))
        (λ (same : fresh ≡ at.tablet). inr (sym (ap (λ (t : Filled). t.number) same ∙ at.number_is), sym (only_rec other (subst (λ (t : Filled). Contains t.recs other) (sym same) at.among))))
        (from_filled at.tablet at.held);
    stays = λ n other at.
        let b = is_open period at.tablet in
        record { tablet = filled_up period at.tablet; held = has_filled at.tablet at.held; number_is = filled_number b at.tablet ∙ at.number_is; among = subst (λ rs. Contains rs other) (sym (filled_recs b at.tablet)) at.among };
    new = record { tablet = fresh; held = has_fresh; number_is = refl; among = Contains-push [] rec };
  }

  each_began : (P : Filled → Type 0) → ((t : Filled) → Contains old t → P (filled_up period t)) → P fresh → (t : Filled) → Contains new t → P t
  each_began P before here t among = ⊎_elim
      (λ (o : Origin (filled_up period) old t). subst P o.same (before o.from o.among))
      (λ (same : fresh ≡ t). subst P same here)
      (from_filled t among)

  pub began_held : AreHeld old next → IsRecord rec → InPeriod period rec.ts → AreHeld new (max next (next + 1))
  unfolding fresh
  began_held held lawful within =
      let numbers : map (λ (t : Filled). t.number) new ≡ map (λ (t : Filled). t.number) old ++ next ∷ []
      = ap (λ ts. map (λ (t : Filled). t.number) ts) began.is ∙ map-append (λ (t : Filled). t.number) (map (filled_up period) old) (begun next period rec now ∷ []) ∙ ap (λ ns. ns ++ next ∷ []) (numbers_filled period old) in
      record {
        are = record {
          rising = subst IsStrictlyIncreasing (sym numbers) (rising_more (map (λ (t : Filled). t.number) old) next held.are.rising (below_next old next held.below));
          some = each_began (λ t. t.recs ≢ []) (λ t there none. held.are.some t there (sym (filled_recs (is_open period t) t) ∙ none)) (λ none. none_in rec (subst (λ rs. Contains rs rec) none (Contains-push [] rec)));
          within = λ t other among. each_began (λ t. (other : Record) → Contains t.recs other → InPeriod t.period other.ts)
              (λ t there other in_it. subst (λ p. InPeriod p other.ts) (sym (filled_period (is_open period t) t)) (held.are.within t other there (subst (λ rs. Contains rs other) (filled_recs (is_open period t) t) in_it)))
              (λ other in_it. subst (λ (r : Record). InPeriod period r.ts) (only_rec other in_it) within)
              t among other;
        };
        below = each_began (λ t. t.number < max next (next + 1)) (λ t there. omega (arith, held.below t there, filled_number (is_open period t) t)) (omega arith);
        lawful = λ t other among. each_began (λ t. (other : Record) → Contains t.recs other → IsRecord other)
            (λ t there other in_it. held.lawful t other there (subst (λ rs. Contains rs other) (filled_recs (is_open period t) t) in_it))
            (λ other in_it. subst IsRecord (only_rec other in_it) lawful)
            t among other;
        small = each_began (λ t. all_stored t.recs ≤ most_bytes) (λ t there. subst (λ rs. all_stored rs ≤ most_bytes) (sym (filled_recs (is_open period t) t)) (held.small t there)) (omega (arith, lawful.short_enough, lawful.small_body));
        sealed = each_began (λ t. t.full ≡ true → t.frozen ≡ true) (λ t there. filled_sealed (is_open period t) t (held.sealed t there)) (λ full. cc);
      }

-- ---- both

pub took_adds : (old new : List Filled) (next : ℕ) (period : Stretch) (number : ℕ) (rec : Record) (now : ℕ) → Took old new next period number rec now → AddsRecord old new number rec
took_adds old new next period number rec now (inl grew) = grew_adds old new next period number rec grew
took_adds old new next period number rec now (inr began) = subst (λ (n : ℕ). AddsRecord old new n rec) (sym began.0) (began_adds old new next period rec now (subst (λ (n : ℕ). Began old new period n rec now) began.0 began.1))

pub took_held : (old new : List Filled) (next : ℕ) (period : Stretch) (number : ℕ) (rec : Record) (now : ℕ) → AreHeld old next → IsRecord rec → InPeriod period rec.ts → Took old new next period number rec now → AreHeld new (max next (number + 1))
took_held old new next period number rec now held lawful within (inl grew) = grew_held old new next period number rec grew held lawful within (same_period period grew.tablet grew.opened)
took_held old new next period number rec now held lawful within (inr began) = subst (λ (n : ℕ). AreHeld new (max next (n + 1))) (sym began.0) (began_held old new next period rec now (subst (λ (n : ℕ). Began old new period n rec now) began.0 began.1) held lawful within)

pub took_number : (old new : List Filled) (next : ℕ) (period : Stretch) (number : ℕ) (rec : Record) (now : ℕ) → AreHeld old next → Took old new next period number rec now → number ≤ next
took_number old new next period number rec now held (inl grew) = omega (arith, grew.number_is, held.below grew.tablet (was_there old new next period number rec grew))
took_number old new next period number rec now held (inr began) = omega (arith, began.0)
