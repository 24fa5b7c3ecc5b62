-- Sets of numbers, and the tablets that must go out.
use Rattle.std.proofs.Common.{◌≡◌, ◌≢◌, ℕ, ◌+◌, ◌<◌, ◌≤◌, ◌⊎◌, Bool, true, false, ◌&&◌, ◌||◌, List, [], ◌∷◌, ◌++◌, length, get_or, map, Contains, refl, sym, ◌∙◌, ap, subst, inl, inr, ⊎_elim, arith}
use Rattle.std.specs.Prelude.{filter, nat_eq, ◌==◌, Any}
use Rattle.std.specs.List.{list_any}
use Rattle.std.specs.List.Sorted.{IsStrictlyIncreasing}
use Rattle.std.proofs.lemmas.Bool.{eqb-true, eq-eqb, cases_Bool, cases_lt}
use Rattle.std.proofs.lemmas.List.{get_or_default}
use Rattle.std.proofs.lemmas.List.Folds.{list_any-append, list_any_at, Any-from_list_any}
use Rattle.std.proofs.lemmas.List.Kept.{IsStrictlyIncreasing-filter}
use Rattle.std.proofs.lemmas.Map.Views.{any-filter_same}
use Rattle.lt_rec.specs.Closure.{has, IsClosed, IsClosure}
use Rattle.lt_deps.specs.Kept.{Kept, StandsFor}
use Rattle.lt_state.specs.State.{Filled}
use Rattle.lt_memory.specs.Waiting.{HasAll, numbers_of}

-- ---- sets

pub has_at : (set : List ℕ) (k : ℕ) → k < length set → has set (get_or set k 0) ≡ true
has_at set k held = list_any_at (λ n. n == get_or set k 0) set k 0 held (eq-eqb (get_or set k 0) (get_or set k 0) refl)

-- where the set has the number
pub record IsIn (set : List ℕ) (n : ℕ) : Type 0 where
  pub place : ℕ
  pub held : place < length set
  pub is : get_or set place 0 ≡ n

pub place_of : (set : List ℕ) (n : ℕ) → has set n ≡ true → IsIn set n
place_of set n in_set =
    let any : Any (λ (held : ℕ). (held == n) ≡ true) set = Any-from_list_any (λ held. held == n) set in_set in
    record { place = any.0; held = any.2; is = get_or_default set any.0 0 any.1 any.2 ∙ any.3 ∙ eqb-true any.1 n any.4 }

pub has_filter : (p : ℕ → Bool) (set : List ℕ) (n : ℕ) → has (filter p set) n ≡ (p n && has set n)
has_filter p set n = any-filter_same (λ held. held == n) p (p n) (λ k same. ap p (eqb-true k n same)) set

both : (a b : Bool) → a ≡ true → b ≡ true → (a && b) ≡ true
both a b one other = rw (one, other) refl

first : (a b : Bool) → (a && b) ≡ true → a ≡ true
first true b e = refl
first false b e = cc

second : (a b : Bool) → (a && b) ≡ true → b ≡ true
second true b e = e
second false b e = cc

either : (a b : Bool) → (a || b) ≡ true → (a ≡ true) ⊎ (b ≡ true)
either true b e = inl refl
either false b e = inr e

or_left : (a b : Bool) → a ≡ true → (a || b) ≡ true
or_left a b e = rw e refl

or_right : (a b : Bool) → b ≡ true → (a || b) ≡ true
or_right true b e = refl
or_right false b e = e

pub has_both : (p : ℕ → Bool) (set : List ℕ) (n : ℕ) → p n ≡ true → has set n ≡ true → has (filter p set) n ≡ true
has_both p set n passes in_set = has_filter p set n ∙ both (p n) (has set n) passes in_set

pub has_passes : (p : ℕ → Bool) (set : List ℕ) (n : ℕ) → has (filter p set) n ≡ true → p n ≡ true
has_passes p set n kept = first (p n) (has set n) (sym (has_filter p set n) ∙ kept)

pub has_was : (p : ℕ → Bool) (set : List ℕ) (n : ℕ) → has (filter p set) n ≡ true → has set n ≡ true
has_was p set n kept = second (p n) (has set n) (sym (has_filter p set n) ∙ kept)

pub has_append : (one other : List ℕ) (n : ℕ) → has (one ++ other) n ≡ true → (has one n ≡ true) ⊎ (has other n ≡ true)
has_append one other n e = either (has one n) (has other n) (sym (list_any-append (λ held. held == n) one other) ∙ e)

pub append_left : (one other : List ℕ) (n : ℕ) → has one n ≡ true → has (one ++ other) n ≡ true
append_left one other n e = list_any-append (λ held. held == n) one other ∙ or_left (has one n) (has other n) e

pub append_right : (one other : List ℕ) (n : ℕ) → has other n ≡ true → has (one ++ other) n ≡ true
append_right one other n e = list_any-append (λ held. held == n) one other ∙ or_right (has one n) (has other n) e

-- ---- closed sets

pub closed_none : (notes : List ℕ) → IsClosed notes []
closed_none notes = record { closed = λ row before held in_set below. cc }

pub closed_append : (notes one other : List ℕ) → IsClosed notes one → IsClosed notes other → IsClosed notes (one ++ other)
closed_append notes one other a b = record {
  closed = λ row before held in_set below. ⊎_elim
      (λ here. append_left one other (get_or notes before 0) (a.closed row before held here below))
      (λ there. append_right one other (get_or notes before 0) (b.closed row before held there below))
      (has_append one other (get_or notes row 0) in_set);
}

-- what of a closed set is among numbers that have all notes
pub closed_among : (notes numbers set : List ℕ) → HasAll notes numbers → IsClosed notes set → IsClosed notes (filter (has set) numbers)
closed_among notes numbers set noted k = record {
  closed = λ row before held in_set below.
      has_both (has set) numbers (get_or notes before 0)
      (k.closed row before held (has_passes (has set) numbers (get_or notes row 0) in_set) below)
      (noted (get_or notes before 0) (has_at notes before (omega arith)));
}

-- ---- the tablets that must go out

-- of the named tablets, the last ones are collected, with all that must go out with them and no others
pub record Collects (d : Kept) (named needed : List ℕ) (step : ℕ) : Type 0 where
  pub covers : (notes : List ℕ) → StandsFor d notes → (k : ℕ) → k < length named → length named ≤ k + step → has needed (get_or named k 0) ≡ true
  pub closed : (notes : List ℕ) → StandsFor d notes → IsClosed notes needed
  pub least : (notes other : List ℕ) → StandsFor d notes → IsClosed notes other → HasAll named other → HasAll needed other

pub collect_none : (d : Kept) (named : List ℕ) → Collects d named [] 0
collect_none d named = record {
  covers = λ notes h k held late. absurd (omega (arith, held, late));
  closed = λ notes h. closed_none notes;
  least = λ notes other h k all n e. cc;
}

pub collect_held : (d : Kept) (named needed : List ℕ) (step place : ℕ) → place + step + 1 ≡ length named → has needed (get_or named place 0) ≡ true → Collects d named needed step → Collects d named needed (step + 1)
collect_held d named needed step place at in_set c = record {
  covers = λ notes h k held late. ⊎_elim
      (λ (before : k + step < length named). let same : place ≡ k = omega (arith, before, late, at) in subst (λ (j : ℕ). has needed (get_or named j 0) ≡ true) same in_set)
      (λ (after : length named ≤ k + step). c.covers notes h k held after)
      (cases_lt (k + step) (length named));
  closed = c.closed;
  least = c.least;
}

pub collect_more : (d : Kept) (named needed more : List ℕ) (step place : ℕ) → place + step + 1 ≡ length named → ((notes : List ℕ) → StandsFor d notes → IsClosure notes (get_or named place 0) more) → Collects d named needed step → Collects d named (needed ++ more) (step + 1)
collect_more d named needed more step place at closure c = record {
  covers = λ notes h k held late. ⊎_elim
      (λ (before : k + step < length named). let same : place ≡ k = omega (arith, before, late, at) in subst (λ (j : ℕ). has (needed ++ more) (get_or named j 0) ≡ true) same (append_right needed more (get_or named place 0) (closure notes h).holds))
      (λ (after : length named ≤ k + step). append_left needed more (get_or named k 0) (c.covers notes h k held after))
      (cases_lt (k + step) (length named));
  closed = λ notes h. closed_append notes needed more (c.closed notes h) (closure notes h).closed;
  least = λ notes other h k all n e. ⊎_elim
      (λ here. c.least notes other h k all n here)
      (λ there. (closure notes h).least other (all (get_or named place 0) (has_at named place (omega arith))) k n there)
      (has_append needed more n e);
}

-- the numbers of some tablets are among those of all
pub numbers_kept : (p : Filled → Bool) (ts : List Filled) (n : ℕ) → has (numbers_of (filter p ts)) n ≡ true → has (numbers_of ts) n ≡ true
numbers_kept p [] n e = e
numbers_kept p (t ∷ ts) n e = ⊎_elim
    (λ (yes : p t ≡ true). ⊎_elim (λ here. or_left (t.number == n) (has (numbers_of ts) n) here) (λ later. or_right (t.number == n) (has (numbers_of ts) n) (numbers_kept p ts n later)) (either (t.number == n) (has (numbers_of (filter p ts)) n) (rw yes at e)))
    (λ (no : p t ≡ false). or_right (t.number == n) (has (numbers_of ts) n) (numbers_kept p ts n (rw no at e)))
    (cases_Bool (p t))

pub all_at : (set other : List ℕ) → ((k : ℕ) → k < length set → has other (get_or set k 0) ≡ true) → HasAll set other
all_at set other each n in_set =
    let p = place_of set n in_set in
    subst (λ (m : ℕ). has other m ≡ true) p.is (each p.place p.held)
