-- Tablets that were looked at one after the other.
use Rattle.std.proofs.Common.{◌≡◌, ℕ, ◌+◌, ◌<◌, ◌≤◌, Bool, cond, List, length, get_or, take, ap, ◌∙◌, arith, inl, inr}
use Rattle.std.specs.Prelude.{count_by}
use Rattle.std.proofs.lemmas.Bool.{cases_Bool}
use Rattle.std.proofs.lemmas.List.Sums.{count_by_more_yes, count_by_more_no, sum_by-take-le}
use Rattle.lt_tablet.specs.Causes.{IsOfFile}
use Rattle.lt_tablet.specs.Loaded.{Loaded}
use Rattle.lt_tablet.specs.declared.errors.ReadError.{ReadError}
use Rattle.lt_tablet.specs.declared.errors.ReadError.TheVariants.{Bad, Fault, NoMemory}
use Rattle.lt_probe.specs.Causes.{IsOfOne}

pub of_one : (ts : List Loaded) (i : ℕ) (t : Loaded) (why : ReadError) → i < length ts → get_or ts i t ≡ t → IsOfFile t.listed.file why → IsOfOne ts why
of_one ts i t (Bad file at) within here h = (i, t, within, here, h)
of_one ts i t Fault within here h = tt
of_one ts i t NoMemory within here h = tt

abbrev count_if : Bool → ℕ
count_if b = cond b 1 0

module _ {X : Type 0} (p : X → Bool) (xs : List X) (i : ℕ) (x : X) (within : i < length xs) (here : get_or xs i x ≡ x) (begin before after : ℕ) where
  -- the ticks of one tablet more
  pub ticks_more : before ≤ begin + count_by p (take i xs) → after ≤ before + cond (p x) 1 0 → after ≤ begin + count_by p (take (i + 1) xs)
  ticks_more h k = elim (cases_Bool (p x)) [
    | inl admits ↦
        let one = ap (λ b. count_if b) admits in
        omega (arith, h, k, one, count_by_more_yes p xs i x within (ap p here ∙ admits))
    | inr denies ↦
        let none = ap (λ b. count_if b) denies in
        omega (arith, h, k, none, count_by_more_no p xs i x within (ap p here ∙ denies))
  ]

  pub ticks_all : before ≤ begin + count_by p (take i xs) → after ≤ before + cond (p x) 1 0 → after ≤ begin + count_by p xs
  ticks_all h k = omega (arith, ticks_more h k, sum_by-take-le (λ y. cond (p y) 1 0) xs (i + 1))
