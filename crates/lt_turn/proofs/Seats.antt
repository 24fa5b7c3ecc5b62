-- What a seat carries, by what it does, and what its share counts.
use Rattle.std.proofs.Common.{◌≡◌, ℕ, ◌+◌, ◌<◌, eqb, List, [], ◌∷◌, ◌++◌, sym, ap, ◌∙◌, ⊎_elim, arith, None, Some}
use Rattle.std.specs.Prelude.{Option}
use prog.Atomic.{either}
use Rattle.atomic_table.proofs.Lists.{exchanged}
use Rattle.lt_turn.specs.declared.view.View.{View}
use Rattle.lt_turn.specs.declared.view.Role.TheVariants.{Idle, Level}
use Rattle.lt_turn.specs.Lists.{added, total}
use Rattle.lt_turn.specs.Seats.{Carries}

-- a try leaves a lock that is held
pub held_after : (n : ℕ) → 0 < either (eqb n 0) 1 n
held_after n = exchanged n 0 1 (λ k. 0 < k) (λ _. omega arith) (λ ne. omega arith)

pub total_append : {X : Type 0} (xs ys : List (ℕ × List X)) → total (xs ++ ys) ≡ total xs + total ys
total_append [] ys = omega arith
total_append (e ∷ es) ys = let h = total_append es ys in omega arith

-- what a seat carries that holds the turn
abbrev pub Empty : {H T X : Type 0} (value : H → Option T) (book : H → ℕ) → List (ℕ × X) → List (ℕ × Option H) → Type 0
Empty {H} value book list slots = (h : H) × (slots ≡ (0, Some h) ∷ []) × (value h ≡ None) × (book h ≡ added list)

module _ {H T X : Type 0} (value : H → Option T) (book : H → ℕ) where
  pub carries_idle : (v : View X) (slots : List (ℕ × Option H)) → Carries value book v slots → v.role ≡ Idle → slots ≡ []
  carries_idle v slots c is = ⊎_elim (λ (t : (v.role ≡ Idle) × (slots ≡ [])). t.1) (λ (t : (v.role ≡ Level) × Empty value book v.seen slots). absurd (cc (is, t.0))) c

  pub carries_level : (v : View X) (slots : List (ℕ × Option H)) → Carries value book v slots → v.role ≡ Level → Empty value book v.seen slots
  carries_level v slots c is = ⊎_elim (λ (t : (v.role ≡ Idle) × (slots ≡ [])). absurd (cc (is, t.0))) (λ (t : (v.role ≡ Level) × Empty value book v.seen slots). t.1) c

heads : {A : Type 0} (x y : A) (xs ys : List A) → x ∷ xs ≡ y ∷ ys → x ≡ y
heads x y xs ys e = cc e

-- the slot that a seat carries is the one that it finds
pub one_slot : {A : Type 0} (slots more : List (ℕ × Option A)) (before found : Option A) (a b : A) → slots ≡ (0, before) ∷ [] → before ≡ Some a → slots ≡ (0, found) ∷ more → found ≡ Some b → a ≡ b
one_slot {A} slots more before found a b e is f was =
    let q : before ≡ found = ap (λ (t : ℕ × Option A). t.1) (heads (0, before) (0, found) [] more (sym e ∙ f)) in
    cc (sym is ∙ (q ∙ was))
