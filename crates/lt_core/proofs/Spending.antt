-- That no file number is left is noted once.
use Rattle.std.proofs.Common.{◌≡◌, ℕ, ◌+◌, ◌-◌, ◌^◌, ◌≤◌, ◌<◌, Bool, List, [], ◌∷◌, ◌++◌, Contains, min, sym, subst, arith}
use Rattle.std.proofs.lemmas.Bool.Decides.{nat_tests}
use Rattle.std.proofs.lemmas.List.Elements.{Contains-push}
use Rattle.lt_trace.specs.Elements.{Story, Element, free, grown}
use Rattle.lt_state.specs.State.{Core}
use Rattle.lt_state.specs.Stands.{StandsFor}
use Rattle.lt_state.proofs.Counts.{count_fits}
use Rattle.lt_events.specs.Cores.{with_freed}
use Rattle.lt_events.proofs.Spent.{spent_stands, spent_is_noted}
use Rattle.lt_core.specs.Adds.{spent_adds}
use Rattle.lt_core.proofs.Lists.{grown_by_none}

-- the count of a core that stands for a story has room
pub count_goes_on : (told : Bool) (c : Core) (s : Story) (k : ℕ) → StandsFor told c s → k ≡ min (c.count + 1) (2 ^ 64 - 1) → k ≡ c.count + 1
count_goes_on told c s k stands is = let fits = count_fits told c s stands in omega (arith, is, fits)

adds_one : (c : Core) → c.freed ≤ c.next_file → spent_adds c ≡ free c.next_file ∷ []
adds_one c below = grind (arith, nat_tests)

adds_none : (c : Core) → c.next_file < c.freed → spent_adds c ≡ []
adds_none c above = grind (arith, nat_tests)

-- it was not noted yet
pub noted_now : (told : Bool) (c : Core) (s : Story) (k : ℕ) → c.freed ≤ c.next_file → k ≡ min (c.count + 1) (2 ^ 64 - 1) → StandsFor told c s → StandsFor told (record c { freed = c.next_file + 1; count = k }) (grown s (spent_adds c))
noted_now told c s k below is stands =
    let all : StandsFor told (with_freed c) (grown s (free c.next_file ∷ [])) = spent_stands told c s stands below in
    let adds : spent_adds c ≡ free c.next_file ∷ [] = adds_one c below in
    subst (λ (es : List Element). StandsFor told (record c { freed = c.next_file + 1; count = k }) (grown s es)) (sym adds)
    (subst (λ (n : ℕ). StandsFor told (record c { freed = c.next_file + 1; count = n }) (grown s (free c.next_file ∷ []))) (sym (count_goes_on told c s k stands is)) all)

pub noted_now_in : (c : Core) (s : Story) → c.freed ≤ c.next_file → Contains (grown s (spent_adds c)).since (free c.next_file)
noted_now_in c s below = subst (λ (es : List Element). Contains (s.since ++ es) (free c.next_file)) (sym (adds_one c below)) (Contains-push s.since (free c.next_file))

-- it was noted before
pub noted_before : (told : Bool) (c : Core) (s : Story) → c.next_file < c.freed → StandsFor told c s → StandsFor told c (grown s (spent_adds c))
noted_before told c s above stands =
    subst (λ (es : List Element). StandsFor told c (grown s es)) (sym (adds_none c above)) (subst (λ (t : Story). StandsFor told c t) (sym (grown_by_none s)) stands)

pub noted_before_in : (told : Bool) (c : Core) (s : Story) → c.next_file < c.freed → StandsFor told c s → Contains (grown s (spent_adds c)).since (free c.next_file)
noted_before_in told c s above stands =
    subst (λ (es : List Element). Contains (s.since ++ es) (free c.next_file)) (sym (adds_none c above))
    (subst (λ (t : Story). Contains t.since (free c.next_file)) (sym (grown_by_none s)) (spent_is_noted told c s stands above))

-- the same by the fields of the code
pub noted_now_from : (told : Bool) (c old : Core) → c ≡ old → (k : ℕ) → c.freed ≤ c.next_file → k ≡ min (c.count + 1) (2 ^ 64 - 1) → (s : Story) → StandsFor told old s → StandsFor told (record c { freed = c.next_file + 1; count = k }) (grown s (spent_adds old))
noted_now_from told c old is k below count s stands =
    subst (λ (x : Core). StandsFor told (record c { freed = c.next_file + 1; count = k }) (grown s (spent_adds x))) is
    (noted_now told c s k below count (subst (λ (x : Core). StandsFor told x s) (sym is) stands))

pub noted_now_in_from : (c old : Core) → c ≡ old → c.freed ≤ c.next_file → (s : Story) → Contains (grown s (spent_adds old)).since (free old.next_file)
noted_now_in_from c old is below s = subst (λ (x : Core). Contains (grown s (spent_adds x)).since (free x.next_file)) is (noted_now_in c s below)

pub noted_before_from : (told : Bool) (c old : Core) → c ≡ old → c.next_file < c.freed → (s : Story) → StandsFor told old s → StandsFor told c (grown s (spent_adds old))
noted_before_from told c old is above s stands =
    subst (λ (x : Core). StandsFor told c (grown s (spent_adds x))) is (noted_before told c s above (subst (λ (x : Core). StandsFor told x s) (sym is) stands))

pub noted_before_in_from : (told : Bool) (c old : Core) → c ≡ old → c.next_file < c.freed → (s : Story) → StandsFor told old s → Contains (grown s (spent_adds old)).since (free old.next_file)
noted_before_in_from told c old is above s stands =
    subst (λ (x : Core). Contains (grown s (spent_adds x)).since (free x.next_file)) is (noted_before_in told c s above (subst (λ (x : Core). StandsFor told x s) (sym is) stands))
