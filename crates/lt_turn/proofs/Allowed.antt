-- Each step keeps the six facts.
use Rattle.std.proofs.Common.{◌≡◌, ℕ, ◌+◌, ◌<◌, List, [], ◌∷◌, length, None}
use Rattle.std.specs.Prelude.{Option}
use mathlib.Core.Option.{some}
use lib.ListN.{get_elem?}
use Rattle.atomic_table.specs.Table.{Me, opening, Allows, Splits, Joins, Final, Seen}
use Rattle.lt_turn.specs.declared.view.View.{View}
use Rattle.lt_turn.specs.declared.view.Role.TheVariants.{Note, Idle, Holding, Level, Shut}
use Rattle.lt_turn.specs.Rule.{Stocked, Kept, spent, first, note, joined, opens, gives_back, tries, raises, shuts, is_numbered, learns, reads}
use Rattle.lt_turn.proofs.ByRole.{by_role, kept, allowed}
use Rattle.lt_turn.proofs.Steps as steps
use Rattle.lt_turn.proofs.Steps.{any}
use Rattle.lt_turn.proofs.Seating as seating

module _ {H T X : Type 0} (stands : T → List X → Type 0) (value : H → Option T) (book : H → ℕ) where
  abbrev M : Type 0
  M = Me (Option H) (View X)

  pub begins : Kept stands value book (opening (1 ∷ 0 ∷ []) (None ∷ []) first)
  begins = kept stands value book (opening (1 ∷ 0 ∷ []) (None ∷ []) first) (steps.begins stands value book)

  pub opens_turn : (slots id : ℕ) (m : M) (list : List X) (n : ℕ) → m.0 ≡ first → m.1 ≡ [] → n ≡ length list → Allows (Kept stands value book) slots id m 1 (λ _. n) (λ _. opens list any m n)
  opens_turn slots id m list n is none_out long = allowed stands value book slots id m 1 (λ _. n) (λ _. opens list any m n) (steps.opens_turn stands value book slots id m list n is none_out long)

  pub tries_lock : (slots id : ℕ) (m : M) (f : ℕ → ℕ) → ((n : ℕ) → 0 < f n) → m.0.role ≡ Idle → Allows (Kept stands value book) slots id m 0 f (tries any m)
  tries_lock slots id m f pos idle = allowed stands value book slots id m 0 f (tries any m) (steps.tries_lock stands value book slots id m f pos idle)

  pub reads_count : (slots id : ℕ) (m : M) → m.0.role ≡ Holding → Allows (Kept stands value book) slots id m 1 (λ n. n) (reads stands value book any m)
  reads_count slots id m is = allowed stands value book slots id m 1 (λ n. n) (reads stands value book any m) (steps.reads_count stands value book slots id m is)

  pub raises_count : (slots id : ℕ) (m : M) (list : List X) (n : ℕ) → m.0.role ≡ Level → n ≡ length m.0.seen + length list → Allows (Kept stands value book) slots id m 1 (λ _. n) (raises list any m)
  raises_count slots id m list n is more = allowed stands value book slots id m 1 (λ _. n) (raises list any m) (steps.raises_count stands value book slots id m list n is more)

  pub gives_lock : (slots id : ℕ) (m : M) (slot : Option H) → m.0.role ≡ Level → m.1 ≡ (0, slot) ∷ [] → Stocked stands value book m.0.seen slot
      → Allows (Kept stands value book) slots id m 0 (λ _. 0) (gives_back any m)
  gives_lock slots id m slot is out stock = allowed stands value book slots id m 0 (λ _. 0) (gives_back any m) (steps.gives_lock stands value book slots id m slot is out stock)

  pub shuts_turn : (slots id : ℕ) (m : M) (n : ℕ) → m.0.role ≡ Level → m.1 ≡ (0, None) ∷ [] → 0 < n → Allows (Kept stands value book) slots id m 0 (λ _. n) (λ _. shuts any m n)
  shuts_turn slots id m n is out pos = allowed stands value book slots id m 0 (λ _. n) (λ _. shuts any m n) (steps.shuts_turn stands value book slots id m n is out pos)

  pub splits_view : (id : ℕ) (v : View X) → v.role ≡ Idle → Splits (Kept stands value book) id v v (note v)
  splits_view id v is s k at = kept stands value book _ (seating.splits_view stands value book id v is s (by_role stands value book s k) at)

  pub numbers_seat : (slots id : ℕ) (m : M) → m.0.role ≡ Note → Allows (Kept stands value book) slots id m 0 (λ n. n) (is_numbered any m)
  numbers_seat slots id m is = allowed stands value book slots id m 0 (λ n. n) (is_numbered any m) (seating.numbers_seat stands value book slots id m is)

  pub learns_list : (slots id : ℕ) (m : M) → m.0.role ≡ Idle → Allows (Kept stands value book) slots id m 0 (λ n. n) (learns any m)
  learns_list slots id m is = allowed stands value book slots id m 0 (λ n. n) (learns any m) (seating.learns_list stands value book slots id m is)

  pub joins_views : (id : ℕ) (v : View X) (other : ℕ) (w : View X) → v.role ≡ Idle → w.role ≡ Idle → v.told ≡ [] → w.told ≡ [] → Joins (Kept stands value book) id v other w (joined v w) spent
  joins_views id v other w is was told told_there s k at apart there = kept stands value book _ (seating.joins_views stands value book id v other w is was told told_there s (by_role stands value book s k) at apart there)

  -- a turn that is shut has nothing in its slot
  pub closes_empty : (id : ℕ) (v : View X) (ws : List ℕ) (xs : List (Option H)) → v.role ≡ Shut → Final (Seen (Kept stands value book) id v) ws xs → get_elem? xs 0 ≡ some None
  closes_empty id v ws xs is end = seating.closes_empty stands value book id v ws xs is (end.0, (by_role stands value book end.0 end.1.0, end.1.1), end.2, end.3, end.4)
