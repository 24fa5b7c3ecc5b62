-- The span of a tablet's timestamps, and the greatest number in some tablets.
use Rattle.std.proofs.Common.{◌≡◌, ℕ, ◌<◌, ◌≤◌, ◌⊎◌, Bool, true, false, ◌&&◌, List, [], ◌∷◌, ◌++◌, length, get_or, max, Option, Some, None, Contains, All, refl, sym, ◌∙◌, ap, subst, inl, inr, ⊎_elim, arith}
use Rattle.std.specs.Prelude.{nat_le, Any, IfSome, IfNone}
use Rattle.std.specs.List.{list_any}
use Rattle.std.proofs.lemmas.Bool.{cases_lt, leb-true, le-leb, cases_Bool, true≢false}
use Rattle.std.proofs.lemmas.List.{get_or_default}
use Rattle.std.proofs.lemmas.List.Folds.{list_any_at, list_any_none}
use Rattle.std.proofs.lemmas.List.Elements.{All-contains, Contains-append_left, Contains-push, Contains-push_cases}
use Rattle.lt_rec.specs.Record.{Record}
use Rattle.lt_rec.specs.Closure.{has}
use Rattle.lt_mem.specs.Rising.{IsSpan}
use Rattle.lt_state.specs.State.{Filled, InMemory}
use Rattle.lt_state.specs.Flushes.{Goes}
use Rattle.lt_memory.specs.Sharing.{HasLast, IsTop, TopOf, is_part, greater_of}
use Rattle.lt_memory.proofs.Lists.{none_in}

not_le : (a b : ℕ) → b < a → nat_le a b ≡ false
not_le a b below = ⊎_elim (λ yes. absurd (omega (arith, leb-true a b yes, below))) (λ no. no) (cases_Bool (nat_le a b))

pub low_meets : (recs : List Record) (low high to : ℕ) → IsSpan (λ r. r.ts) recs low high → nat_le low to ≡ list_any (λ r. nat_le r.ts to) recs
low_meets recs low high to span = ⊎_elim
    (λ (beyond : to < low).
    not_le low to beyond ∙ sym (list_any_none (λ r. nat_le r.ts to) recs (λ k d held. not_le (get_or recs k d).ts to (omega (arith, span.above k d held)))))
    (λ (within : low ≤ to).
    let any = span.low_is in
    le-leb low to within ∙ sym (list_any_at (λ r. nat_le r.ts to) recs any.0 any.1 any.2 (le-leb (get_or recs any.0 any.1).ts to (omega (arith, ap (λ (r : Record). r.ts) any.3, any.4)))))
    (cases_lt to low)

pub high_meets : (recs : List Record) (low high from : ℕ) → IsSpan (λ r. r.ts) recs low high → nat_le from high ≡ list_any (λ r. nat_le from r.ts) recs
high_meets recs low high from span = ⊎_elim
    (λ (beyond : high < from).
    not_le from high beyond ∙ sym (list_any_none (λ r. nat_le from r.ts) recs (λ k d held. not_le from (get_or recs k d).ts (omega (arith, span.below k d held)))))
    (λ (within : from ≤ high).
    let any = span.high_is in
    le-leb from high within ∙ sym (list_any_at (λ r. nat_le from r.ts) recs any.0 any.1 any.2 (le-leb from (get_or recs any.0 any.1).ts (omega (arith, ap (λ (r : Record). r.ts) any.3, any.4)))))
    (cases_lt high from)

-- the two comparisons, one after the other
pub meets_if : (recs : List Record) (low high from to : ℕ) → IsSpan (λ r. r.ts) recs low high → low ≤ to → nat_le from high ≡ (list_any (λ r. nat_le r.ts to) recs && list_any (λ r. nat_le from r.ts) recs)
meets_if recs low high from to span within = rw (← low_meets recs low high to span, ← high_meets recs low high from span, le-leb low to within) refl

pub misses_if : (recs : List Record) (low high from to : ℕ) → IsSpan (λ r. r.ts) recs low high → to < low → nat_le low to ≡ (list_any (λ r. nat_le r.ts to) recs && list_any (λ r. nat_le from r.ts) recs)
misses_if recs low high from to span beyond = rw (← low_meets recs low high to span, not_le low to beyond) refl

pub has_last : (recs : List Record) (low high : ℕ) → IsSpan (λ r. r.seq) recs low high → HasLast recs high
has_last recs low high span =
    let any = span.high_is in
    record {
      rec = any.1;
      among = (any.0, any.2, any.3);
      is = any.4;
      above = λ other among. All-contains (λ (r : Record). r.seq ≤ high) recs other span.below among;
    }

-- ---- the greatest number

goes_more : (tablets : List Filled) (parts : List ℕ) (t : Filled) (rec : Record) → Goes tablets parts rec → Goes (tablets ++ t ∷ []) parts rec
goes_more tablets parts t rec goes = record {
  number = goes.number;
  part = goes.part;
  held = record { tablet = goes.held.tablet; held = Contains-append_left tablets (t ∷ []) goes.held.tablet goes.held.held; number_is = goes.held.number_is; among = goes.held.among };
}

goes_here : (tablets : List Filled) (parts : List ℕ) (t : Filled) (rec : Record) → is_part parts t ≡ true → Contains t.recs rec → Goes (tablets ++ t ∷ []) parts rec
goes_here tablets parts t rec part among = record { number = t.number; part = part; held = record { tablet = t; held = Contains-push tablets t; number_is = refl; among = among } }

goes_cases : (tablets : List Filled) (parts : List ℕ) (t : Filled) (rec : Record) → Goes (tablets ++ t ∷ []) parts rec → Goes tablets parts rec ⊎ ((is_part parts t ≡ true) × Contains t.recs rec)
goes_cases tablets parts t rec goes = ⊎_elim
    (λ before. inl (record { number = goes.number; part = goes.part; held = record { tablet = goes.held.tablet; held = before; number_is = goes.held.number_is; among = goes.held.among } }))
    (λ (same : t ≡ goes.held.tablet). inr (ap (λ (u : Filled). has parts u.number) same ∙ ap (has parts) goes.held.number_is ∙ goes.part, subst (λ (u : Filled). Contains u.recs rec) (sym same) goes.held.among))
    (Contains-push_cases tablets t goes.held.tablet goes.held.held)

none_goes : (tablets : List Filled) (parts : List ℕ) (rec : Record) → ((tablet : Filled) → Contains tablets tablet → is_part parts tablet ≡ true → tablet.recs ≡ []) → Goes tablets parts rec → ⊥
none_goes tablets parts rec none goes =
    none_in rec (subst (λ rs. Contains rs rec) (none goes.held.tablet goes.held.held (ap (has parts) goes.held.number_is ∙ goes.part)) goes.held.among)

pub top_none : (parts : List ℕ) → TopOf [] parts None
top_none parts = record { top = tt; none = λ t among. absurd (none_in t among) }

pub top_other : (tablets : List Filled) (parts : List ℕ) (t : Filled) (top : Option ℕ) → is_part parts t ≡ false → TopOf tablets parts top → TopOf (tablets ++ t ∷ []) parts top
top_other tablets parts t None other so = record {
  top = tt;
  none = λ u among part. ⊎_elim (λ before. so.none u before part) (λ (same : t ≡ u). absurd (true≢false (sym part ∙ ap (is_part parts) (sym same) ∙ other))) (Contains-push_cases tablets t u among);
}
top_other tablets parts t (Some n) other so = record {
  top = record {
    rec = so.top.rec;
    goes = goes_more tablets parts t so.top.rec so.top.goes;
    is = so.top.is;
    above = λ rec goes. ⊎_elim (so.top.above rec) (λ here. absurd (true≢false (sym here.0 ∙ other))) (goes_cases tablets parts t rec goes);
  };
  none = tt;
}

pub top_more : (tablets : List Filled) (parts : List ℕ) (t : Filled) (top last : Option ℕ) → is_part parts t ≡ true → IfSome last (HasLast t.recs) → IfNone last (t.recs ≡ []) → TopOf tablets parts top → TopOf (tablets ++ t ∷ []) parts (greater_of top last)
top_more tablets parts t None None part some none so = record {
  top = tt;
  none = λ u among is. ⊎_elim (λ before. so.none u before is) (λ (same : t ≡ u). subst (λ (u : Filled). u.recs ≡ []) same none) (Contains-push_cases tablets t u among);
}
top_more tablets parts t None (Some m) part some none so = record {
  top = record {
    rec = some.rec;
    goes = goes_here tablets parts t some.rec part some.among;
    is = some.is;
    above = λ rec goes. ⊎_elim (λ before. absurd (none_goes tablets parts rec so.none before)) (λ here. some.above rec here.1) (goes_cases tablets parts t rec goes);
  };
  none = tt;
}
top_more tablets parts t (Some n) None part some none so = record {
  top = record {
    rec = so.top.rec;
    goes = goes_more tablets parts t so.top.rec so.top.goes;
    is = so.top.is;
    above = λ rec goes. ⊎_elim (so.top.above rec) (λ here. absurd (none_in rec (subst (λ rs. Contains rs rec) none here.1))) (goes_cases tablets parts t rec goes);
  };
  none = tt;
}
top_more tablets parts t (Some n) (Some m) part some none so = record {
  top = ⊎_elim
      (λ (below : n < m). record {
        rec = some.rec;
        goes = goes_here tablets parts t some.rec part some.among;
        is = omega (arith, some.is);
        above = λ rec goes. ⊎_elim (λ before. omega (arith, so.top.above rec before)) (λ here. omega (arith, some.above rec here.1)) (goes_cases tablets parts t rec goes);
      })
      (λ (above : m ≤ n). record {
        rec = so.top.rec;
        goes = goes_more tablets parts t so.top.rec so.top.goes;
        is = omega (arith, so.top.is);
        above = λ rec goes. ⊎_elim (λ before. omega (arith, so.top.above rec before)) (λ here. omega (arith, some.above rec here.1)) (goes_cases tablets parts t rec goes);
      })
      (cases_lt n m);
  none = tt;
}
