-- What is true of the tablets once some are frozen, or are left out.
use Rattle.std.proofs.Common.{◌≡◌, ◌≢◌, ℕ, ◌+◌, ◌-◌, ◌^◌, ◌<◌, ◌≤◌, ◌⊎◌, Bool, true, false, cond, List, [], ◌∷◌, length, map, drop, Contains, refl, sym, ◌∙◌, ap, subst, inl, inr, ⊎_elim, arith}
use Rattle.std.specs.Prelude.{if◌then◌else◌, not, filter}
use Rattle.std.specs.Int.{w64, from_be_bytes, to_be_bytes}
use Rattle.std.specs.List.Sorted.{IsStrictlyIncreasing}
use Rattle.std.proofs.lemmas.Bool.{cases_Bool}
use Rattle.std.proofs.lemmas.Nat.{from_be_bytes-to_be_bytes_8}
use Rattle.std.proofs.lemmas.List.Elements.{All-contains, All-filter, All-contains_itself, filter_passes}
use Rattle.std.proofs.lemmas.List.Kept.{IsStrictlyIncreasing-filter}
use Rattle.lt_rec.specs.Closure.{has}
use Rattle.lt_rec.specs.Periods.{InPeriod}
use Rattle.lt_rec.specs.Record.{Record, IsRecord}
use Rattle.lt_mem.specs.Rising.{all_stored}
use Rattle.lt_state.specs.State.{Filled, InMemory}
use Rattle.lt_state.specs.Memory.{AreTablets}
use Rattle.lt_state.specs.Flushes.{Leaves}
use Rattle.lt_memory.specs.Tablets.{AreHeld, HaveTime, most_bytes}
use Rattle.lt_memory.specs.Sharing.{is_part, frozen_in, frozen_among, left_by}
use Rattle.lt_memory.proofs.Lists.{Origin, origin, none_in, first_in, later_in, cons_cases}

-- ---- by key

pub have_this_time : (tablets : List Filled) (next : ℕ) (key : List ℕ) (ts : ℕ) → AreHeld tablets next → ts < 2 ^ 64 → drop (length key - 8) key ≡ to_be_bytes w64 ts → HaveTime tablets key ts
have_this_time tablets next key ts held fits timed number other at same =
    let lawful = held.lawful at.tablet other at.held at.among in
    let spelled : to_be_bytes w64 other.ts ≡ to_be_bytes w64 ts = sym lawful.timed ∙ ap (λ (k : List ℕ). drop (length k - 8) k) same ∙ timed in
    sym (from_be_bytes-to_be_bytes_8 other.ts lawful.moment) ∙ ap (from_be_bytes w64) spelled ∙ from_be_bytes-to_be_bytes_8 ts fits

-- ---- frozen

frozen_number : (b : Bool) (t : Filled) → (if b then record t { frozen = true } else t).number ≡ t.number
frozen_number true t = refl
frozen_number false t = refl

frozen_period : (b : Bool) (t : Filled) → (if b then record t { frozen = true } else t).period ≡ t.period
frozen_period true t = refl
frozen_period false t = refl

frozen_recs : (b : Bool) (t : Filled) → (if b then record t { frozen = true } else t).recs ≡ t.recs
frozen_recs true t = refl
frozen_recs false t = refl

frozen_sealed : (b : Bool) (t : Filled) → (t.full ≡ true → t.frozen ≡ true) → (if b then record t { frozen = true } else t).full ≡ true → (if b then record t { frozen = true } else t).frozen ≡ true
frozen_sealed true t before full = refl
frozen_sealed false t before full = before full

numbers_frozen : (parts : List ℕ) (ts : List Filled) → map (λ (t : Filled). t.number) (frozen_among parts ts) ≡ map (λ (t : Filled). t.number) ts
numbers_frozen parts [] = refl
numbers_frozen parts (t ∷ ts) = ap (λ (n : ℕ). n ∷ map (λ (t : Filled). t.number) (frozen_among parts ts)) (frozen_number (is_part parts t) t) ∙ ap (λ ns. t.number ∷ ns) (numbers_frozen parts ts)

each_frozen : (parts : List ℕ) (old : List Filled) (P : Filled → Type 0) → ((t : Filled) → Contains old t → P (frozen_in parts t)) → (t : Filled) → Contains (frozen_among parts old) t → P t
each_frozen parts old P before t among =
    let o : Origin (frozen_in parts) old t = origin (frozen_in parts) old t among in
    subst P o.same (before o.from o.among)

pub frozen_held : (parts : List ℕ) (old : List Filled) (next : ℕ) → AreHeld old next → AreHeld (frozen_among parts old) next
frozen_held parts old next held = record {
  are = record {
    rising = subst IsStrictlyIncreasing (sym (numbers_frozen parts old)) held.are.rising;
    some = each_frozen parts old (λ t. t.recs ≢ []) (λ t there none. held.are.some t there (sym (frozen_recs (is_part parts t) t) ∙ none));
    within = λ t other among. each_frozen parts old (λ t. (other : Record) → Contains t.recs other → InPeriod t.period other.ts)
        (λ t there other in_it. subst (λ p. InPeriod p other.ts) (sym (frozen_period (is_part parts t) t)) (held.are.within t other there (subst (λ rs. Contains rs other) (frozen_recs (is_part parts t) t) in_it)))
        t among other;
  };
  below = each_frozen parts old (λ t. t.number < next) (λ t there. subst (λ (n : ℕ). n < next) (sym (frozen_number (is_part parts t) t)) (held.below t there));
  lawful = λ t other among. each_frozen parts old (λ t. (other : Record) → Contains t.recs other → IsRecord other)
      (λ t there other in_it. held.lawful t other there (subst (λ rs. Contains rs other) (frozen_recs (is_part parts t) t) in_it))
      t among other;
  small = each_frozen parts old (λ t. all_stored t.recs ≤ most_bytes) (λ t there. subst (λ rs. all_stored rs ≤ most_bytes) (sym (frozen_recs (is_part parts t) t)) (held.small t there));
  sealed = each_frozen parts old (λ t. t.full ≡ true → t.frozen ≡ true) (λ t there. frozen_sealed (is_part parts t) t (held.sealed t there));
}

-- ---- left out

kept_was : {X : Type 0} (p : X → Bool) (xs : List X) (x : X) → Contains (filter p xs) x → Contains xs x
kept_was p xs x among = All-contains (Contains xs) (filter p xs) x (All-filter p (Contains xs) xs (All-contains_itself xs)) among

kept_passes : {X : Type 0} (p : X → Bool) (xs : List X) (x : X) → Contains (filter p xs) x → p x ≡ true
kept_passes p xs x among = All-contains (λ y. p y ≡ true) (filter p xs) x (filter_passes p xs) among

in_either : {X : Type 0} (b : Bool) (first : X) (xs : List X) (x : X) → Contains xs x → Contains (cond b (first ∷ xs) xs) x
in_either true first xs x among = later_in first xs x among
in_either false first xs x among = among

in_first : {X : Type 0} (b : Bool) (first : X) (xs : List X) → b ≡ true → Contains (cond b (first ∷ xs) xs) first
in_first true first xs e = first_in first xs
in_first false first xs e = cc

is_kept : {X : Type 0} (p : X → Bool) (xs : List X) (x : X) → Contains xs x → p x ≡ true → Contains (filter p xs) x
is_kept p [] x among passes = absurd (none_in x among)
is_kept p (first ∷ xs) x among passes = ⊎_elim
    (λ same. subst (Contains (filter p (first ∷ xs))) same (in_first (p first) first (filter p xs) (ap p same ∙ passes)))
    (λ later. in_either (p first) first (filter p xs) x (is_kept p xs x later passes))
    (cons_cases first xs x among)

numbers_cond : (b : Bool) (t : Filled) (ts : List Filled) → map (λ (t : Filled). t.number) (cond b (t ∷ ts) ts) ≡ cond b (t.number ∷ map (λ (t : Filled). t.number) ts) (map (λ (t : Filled). t.number) ts)
numbers_cond true t ts = refl
numbers_cond false t ts = refl

numbers_left : (parts : List ℕ) (ts : List Filled) → map (λ (t : Filled). t.number) (left_by parts ts) ≡ filter (λ n. not (has parts n)) (map (λ (t : Filled). t.number) ts)
numbers_left parts [] = refl
numbers_left parts (t ∷ ts) = numbers_cond (not (has parts t.number)) t (left_by parts ts) ∙ ap (λ ns. cond (not (has parts t.number)) (t.number ∷ ns) ns) (numbers_left parts ts)

pub left_held : (parts : List ℕ) (old : List Filled) (next : ℕ) → AreHeld old next → AreHeld (left_by parts old) next
left_held parts old next held =
    let p : Filled → Bool = λ t. not (is_part parts t) in
    record {
      are = record {
        rising = subst IsStrictlyIncreasing (sym (numbers_left parts old)) (IsStrictlyIncreasing-filter (λ n. not (has parts n)) (map (λ (t : Filled). t.number) old) held.are.rising);
        some = λ t among. held.are.some t (kept_was p old t among);
        within = λ t other among. held.are.within t other (kept_was p old t among);
      };
      below = λ t among. held.below t (kept_was p old t among);
      lawful = λ t other among. held.lawful t other (kept_was p old t among);
      small = λ t among. held.small t (kept_was p old t among);
      sealed = λ t among. held.sealed t (kept_was p old t among);
    }

not_true : (b : Bool) → not b ≡ true → b ≡ true → ⊥
not_true true negated holds = cc
not_true false negated holds = cc

not_false : (b : Bool) → b ≡ false → not b ≡ true
not_false b e = rw e refl

pub leaves : (parts : List ℕ) (old : List Filled) → Leaves old (left_by parts old) parts
leaves parts old =
    let p : Filled → Bool = λ t. not (is_part parts t) in
    record {
      was = λ number rec at. record { tablet = at.tablet; held = kept_was p old at.tablet at.held; number_is = at.number_is; among = at.among };
      gone = λ number rec at part. not_true (has parts at.tablet.number) (kept_passes p old at.tablet at.held) (ap (has parts) at.number_is ∙ part);
      stays = λ number rec at. ⊎_elim
          (λ part. inl part)
          (λ other. inr (record { tablet = at.tablet; held = is_kept p old at.tablet at.held (not_false (has parts at.tablet.number) (ap (has parts) at.number_is ∙ other)); number_is = at.number_is; among = at.among }))
          (cases_Bool (has parts number));
    }
