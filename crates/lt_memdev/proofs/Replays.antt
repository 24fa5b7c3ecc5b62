-- The states that a log stands for.
use Rattle.std.proofs.Common.{◌≡◌, ◌⊎◌, inl, inr, ⊎_elim, ◌≤◌, ◌<◌, ◌+◌, ◌^◌, ℕ, zero, suc, take, get_or, slice_get, length-append, add-one, Bool, true, false, cond, nat_eq, List, [], ◌∷◌, ◌++◌, length, Option, Some, None, refl, sym, ◌∙◌, ap, subst, arith, eqb-true}
use Rattle.std.proofs.Math.Seq.{take-suc}
use Rattle.lt_io.specs.Directory.{State, Contents, file_at, raised, entered, loosened}
use Rattle.lt_io.proofs.Moments.{some_is, file_at-entered, file_at-loosened, loosened_stood}
use Rattle.lt_memdev.specs.History.{after, past_of, last_of, IsBelow, AllBelow, IsLent, IsLawful, Shows}
use Rattle.lt_memdev.specs.Files.{Puts}
use Rattle.lt_memdev.specs.declared.change.Change.{Change}
use Rattle.lt_memdev.specs.declared.change.Change.TheVariants.{Entered, Loosened, Joined, Settled, Nothing}
use Rattle.lt_memdev.specs.declared.change.Moment.{Moment}

-- a change leaves the ceiling alone
pub raised-after : (change : Change) (state : State) (ceiling : ℕ) → raised (after change state) ceiling ≡ after change (raised state ceiling)
raised-after (Entered file bytes) state ceiling = refl
raised-after (Loosened file) state ceiling = refl
raised-after (Joined bytes) state ceiling = refl
raised-after (Settled descriptor) state ceiling = refl
raised-after Nothing state ceiling = refl

pub last_of-push : (state : State) (log : List Moment) (moment : Moment) → last_of state (log ++ moment ∷ []) ≡ after moment.change (last_of state log)
last_of-push state [] moment = refl
last_of-push state (first ∷ log) moment = last_of-push (after first.change state) log moment

pub past_of-push : (state : State) (log : List Moment) (moment : Moment) → past_of state (log ++ moment ∷ []) ≡ past_of state log ++ raised (last_of state log) moment.ceiling ∷ []
past_of-push state [] moment = refl
past_of-push state (first ∷ log) moment = ap (λ rest. raised state first.ceiling ∷ rest) (past_of-push (after first.change state) log moment)

pub length-past_of : (state : State) (log : List Moment) → length (past_of state log) ≡ length log
length-past_of state [] = refl
length-past_of state (first ∷ log) = ap (λ n. suc n) (length-past_of (after first.change state) log)

-- ---- the files that stand are below the ceiling

AllBelow-append : (states others : List State) → AllBelow states → AllBelow others → AllBelow (states ++ others)
AllBelow-append [] others below and = and
AllBelow-append (state ∷ states) others below and = (below.0, AllBelow-append states others below.1 and)

AllBelow-front : (states others : List State) → AllBelow (states ++ others) → AllBelow states
AllBelow-front [] others below = tt
AllBelow-front (state ∷ states) others below = (below.0, AllBelow-front states others below.1)

pub AllBelow-last : (states : List State) (state : State) → AllBelow (states ++ state ∷ []) → IsBelow state
AllBelow-last [] state below = below.0
AllBelow-last (first ∷ states) state below = AllBelow-last states state below.1

here_or_before : (b : Bool) (bytes given : List ℕ) (o : Option (List ℕ)) → cond b (Some bytes) o ≡ Some given → (b ≡ true) ⊎ (o ≡ Some given)
here_or_before true bytes given o e = inl refl
here_or_before false bytes given o e = inr e

each_entered : (state : State) (file : ℕ) (bytes : List ℕ) → file < state.ceiling → IsBelow state → (other : ℕ) (given : List ℕ) → file_at (entered state file bytes).files other ≡ Some given → other < state.ceiling
each_entered state file bytes lent below other given e =
    ⊎_elim (λ same. let here : other ≡ file = eqb-true other file same in omega arith) (λ stood. below.each other given stood)
    (here_or_before (nat_eq other file) bytes given (file_at state.files other) (sym (file_at-entered state file bytes other) ∙ e))

below_after : (change : Change) (state : State) → IsLent change state.ceiling → IsBelow state → IsBelow (after change state)
below_after (Entered file bytes) state lent below = record { each = each_entered state file bytes lent below; in_range = below.in_range }
below_after (Loosened file) state lent below = record { each = λ other given e. below.each other given (loosened_stood state file other given e); in_range = below.in_range }
below_after (Joined bytes) state lent below = record { each = below.each; in_range = below.in_range }
below_after (Settled descriptor) state lent below = record { each = below.each; in_range = below.in_range }
below_after Nothing state lent below = below

module _ (start : State) (log : List Moment) (ceiling : ℕ) (change : Change) (longer : List Moment) (added : longer ≡ log ++ record { ceiling = ceiling; change = change } ∷ []) where
  -- a change more
  pub past_added : past_of start longer ≡ past_of start log ++ raised (last_of start log) ceiling ∷ []
  past_added = ap (past_of start) added ∙ past_of-push start log record { ceiling = ceiling; change = change }

  pub now_added : raised (last_of start longer) ceiling ≡ after change (raised (last_of start log) ceiling)
  now_added = ap (λ l. raised (last_of start l) ceiling) added ∙ ap (λ state. raised state ceiling) (last_of-push start log record { ceiling = ceiling; change = change }) ∙ raised-after change (last_of start log) ceiling

  pub all_below_added : IsLent change ceiling → AllBelow (past_of start log ++ raised (last_of start log) ceiling ∷ []) → AllBelow (past_of start longer ++ raised (last_of start longer) ceiling ∷ [])
  all_below_added lent below =
      subst AllBelow (λ i. sym past_added i ++ sym now_added i ∷ [])
      (AllBelow-append (past_of start log ++ raised (last_of start log) ceiling ∷ []) (after change (raised (last_of start log) ceiling) ∷ []) below
      (below_after change (raised (last_of start log) ceiling) lent (AllBelow-last (past_of start log) (raised (last_of start log) ceiling) below), tt))

-- the states once the ceiling was raised
pub all_below_raise : (past : List State) (state : State) (ceiling : ℕ) → state.ceiling ≤ ceiling → ceiling ≤ 2 ^ 62 → AllBelow (past ++ state ∷ []) → AllBelow (past ++ raised state ceiling ∷ [])
all_below_raise past state ceiling up in_range below =
    let was : IsBelow state = AllBelow-last past state below in
    AllBelow-append past (raised state ceiling ∷ []) (AllBelow-front past (state ∷ []) below)
    (record { each = λ number bytes e. let within : number < state.ceiling = was.each number bytes e in omega arith; in_range = in_range }, tt)

-- ---- what a replay shows

pub shows_entered : (held now : Contents) (possible : List (Option (List ℕ))) (state : State) (file : ℕ) (bytes : List ℕ) → Puts held now file (Some bytes) → Shows held possible state → Shows now possible (entered state file bytes)
shows_entered held now possible state file bytes puts was = record {
  files = λ number. puts number ∙ ap (λ o. cond (nat_eq number file) (Some bytes) o) (was.files number) ∙ sym (file_at-entered state file bytes number);
  may = was.may;
}

pub shows_loosened : (held now : Contents) (possible : List (Option (List ℕ))) (state : State) (file : ℕ) → Puts held now file None → Shows held possible state → Shows now possible (loosened state file)
shows_loosened held now possible state file puts was = record {
  files = λ number. puts number ∙ ap (λ o. cond (nat_eq number file) None o) (was.files number) ∙ sym (file_at-loosened state file number);
  may = was.may;
}

-- ---- the states of moments

-- the ceiling that stood at the end of a moment
abbrev pub ceiling_of : List Moment → ℕ → ℕ → ℕ
ceiling_of [] ceiling k = ceiling
ceiling_of (moment ∷ log) ceiling zero = moment.ceiling
ceiling_of (moment ∷ log) ceiling (suc k) = ceiling_of log ceiling k

pub state_at : (start : State) (log : List Moment) (ceiling k : ℕ) → k ≤ length log
    → slice_get (past_of start log ++ raised (last_of start log) ceiling ∷ []) k ≡ Some (raised (last_of start (take k log)) (ceiling_of log ceiling k))
state_at start [] ceiling zero within = refl
state_at start [] ceiling (suc k) within = absurd (omega arith)
state_at start (moment ∷ log) ceiling zero within = refl
state_at start (moment ∷ log) ceiling (suc k) within = state_at (after moment.change start) log ceiling k (omega arith)

-- one more possible descriptor at most, and never none
may_after : (change : Change) (state : State) → 0 < length state.may → (0 < length (after change state).may) × (length (after change state).may ≤ length state.may + 1)
may_after (Entered file bytes) state some = (some, omega arith)
may_after (Loosened file) state some = (some, omega arith)
may_after (Joined bytes) state some = (omega (arith, length-append state.may (Some bytes ∷ [])), omega (arith, length-append state.may (Some bytes ∷ [])))
may_after (Settled descriptor) state some = (omega arith, omega (arith, some))
may_after Nothing state some = (some, omega arith)

pub may_at : (start : State) (log : List Moment) (ceiling k : ℕ) (state : State) → 0 < length start.may → slice_get (past_of start log ++ raised (last_of start log) ceiling ∷ []) k ≡ Some state
    → (0 < length state.may) × (length state.may ≤ length start.may + k)
may_at start [] ceiling zero state some e =
    let same : start.may ≡ state.may = ap (λ s. s.may) (some_is (raised start ceiling) state e) in
    (subst (λ may. 0 < length may) same some, omega (arith, ap length same))
may_at start [] ceiling (suc k) state some e = absurd (let no : None ≡ Some state = e in cc)
may_at start (moment ∷ log) ceiling zero state some e =
    let same : start.may ≡ state.may = ap (λ s. s.may) (some_is (raised start moment.ceiling) state e) in
    (subst (λ may. 0 < length may) same some, omega (arith, ap length same))
may_at start (moment ∷ log) ceiling (suc k) state some e =
    let step : (0 < length (after moment.change start).may) × (length (after moment.change start).may ≤ length start.may + 1) = may_after moment.change start some in
    let rest : (0 < length state.may) × (length state.may ≤ length (after moment.change start).may + k) = may_at (after moment.change start) log ceiling k state step.0 e in
    (rest.0, omega (arith, rest.1, step.1))

pub AllBelow-at : (states : List State) (k : ℕ) (state : State) → AllBelow states → slice_get states k ≡ Some state → IsBelow state
AllBelow-at [] k state below e = absurd (let no : None ≡ Some state = e in cc)
AllBelow-at (first ∷ states) zero state below e = subst IsBelow (some_is first state e) below.0
AllBelow-at (first ∷ states) (suc k) state below e = AllBelow-at states k state below.1 e

pub ceiling_within : (log : List Moment) (ceiling k : ℕ) (moment : Moment) → k < length log → moment ≡ get_or log k moment → ceiling_of log ceiling k ≡ moment.ceiling
ceiling_within [] ceiling k moment within e = absurd (omega arith)
ceiling_within (first ∷ log) ceiling zero moment within e = ap (λ m. m.ceiling) (sym e)
ceiling_within (first ∷ log) ceiling (suc k) moment within e = ceiling_within log ceiling k moment (omega arith) e

pub ceiling_past : (log : List Moment) (ceiling k : ℕ) → length log ≤ k → ceiling_of log ceiling k ≡ ceiling
ceiling_past [] ceiling k past = refl
ceiling_past (first ∷ log) ceiling zero past = absurd (omega arith)
ceiling_past (first ∷ log) ceiling (suc k) past = ceiling_past log ceiling k (omega arith)

-- the state of a moment, by the changes before it
pub state_is : (start : State) (log : List Moment) (ceiling k : ℕ) (state : State) → k ≤ length log → slice_get (past_of start log ++ raised (last_of start log) ceiling ∷ []) k ≡ Some state
    → raised (last_of start (take k log)) (ceiling_of log ceiling k) ≡ state
state_is start log ceiling k state within e = some_is (raised (last_of start (take k log)) (ceiling_of log ceiling k)) state (sym (state_at start log ceiling k within) ∙ e)

-- one change more of a replay
pub last_of-more : (start : State) (log : List Moment) (k : ℕ) (moment : Moment) → k < length log → moment ≡ get_or log k moment → last_of start (take (k + 1) log) ≡ after moment.change (last_of start (take k log))
last_of-more start log k moment within e =
    let longer : take (k + 1) log ≡ take k log ++ moment ∷ [] = rw add-one (take-suc log k moment within ∙ ap (λ m. take k log ++ m ∷ []) (sym e)) in
    ap (last_of start) longer ∙ last_of-push start (take k log) moment

-- what is shown of a moment's state
pub shows_at : (start : State) (log : List Moment) (ceiling k : ℕ) (state : State) → k ≤ length log → slice_get (past_of start log ++ raised (last_of start log) ceiling ∷ []) k ≡ Some state
    → (held : Contents) (possible : List (Option (List ℕ))) → Shows held possible (last_of start (take k log)) → Shows held possible state
shows_at start log ceiling k state within e held possible shows =
    subst (Shows held possible) (state_is start log ceiling k state within e) record { files = shows.files; may = shows.may }

-- what holds of it
pub lawful_at : (start : State) (log : List Moment) (ceiling k : ℕ) (state : State) → length start.may ≡ 1 → AllBelow (past_of start log ++ raised (last_of start log) ceiling ∷ [])
    → slice_get (past_of start log ++ raised (last_of start log) ceiling ∷ []) k ≡ Some state → IsLawful k state
lawful_at start log ceiling k state one below e =
    let may : (0 < length state.may) × (length state.may ≤ length start.may + k) = may_at start log ceiling k state (omega arith) e in
    record { below = AllBelow-at _ k state below e; some = may.0; few = omega (arith, may.1) }
