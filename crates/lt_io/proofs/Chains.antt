-- Chains of states: one call, several calls, and what they say of each moment.
use Rattle.std.proofs.Common.{◌≡◌, ◌↔◌, Result, Ok, Err, IsErrOf, ◌≤◌, ◌<◌, ◌+◌, ℕ, zero, suc, List, [], ◌∷◌, ◌++◌, length, slice_get, Some, None, refl, sym, ◌∙◌, ap, subst, ⊎_elim, arith, append_assoc}
use Rattle.std.proofs.lemmas.Bool.{cases_lt}
use Rattle.lt_io.specs.Directory.{State, Image, Directory, Fits, PossibleAt, states, moment, entered, loosened, pointed, settled, raised, lent}
use Rattle.lt_io.specs.Device.{Moves, EntersFile, RemovesFile, PointsAt, Settles}
use Rattle.lt_io.specs.declared.device_error.DeviceError.{DeviceError}
use Rattle.lt_io.specs.declared.device_error.DeviceError.TheVariants.{Failed, NoMemory}
use Rattle.lt_io.specs.Steps.{Linked, Steps, IsPreorder, FromOn, InOrderFrom}
use Rattle.lt_io.proofs.Moments.{get_within, get_seam, some_is, states-moved, moment-moved, PossibleAt-same}

-- ---- making chains

-- a run that changes nothing
pub Steps-none : (R : State → State → Type 0) → IsPreorder R → (directory : Directory) → Steps R directory directory
Steps-none R order directory = record { since = directory.now ∷ []; chain = refl; linked = (order.itself directory.now, tt); later = omega arith }

-- a lend
pub Steps-lent : (R : State → State → Type 0) (directory : Directory) (number : ℕ) → R directory.now (raised directory.now (number + 1)) → Steps R directory (lent directory number)
Steps-lent R directory number step = record { since = raised directory.now (number + 1) ∷ []; chain = refl; linked = (step, tt); later = omega arith }

-- a call of one moment
pub Steps-moved : (R : State → State → Type 0) → IsPreorder R → (old new : Directory) (next : State) → Moves old new next → R old.now next → Steps R old new
Steps-moved R order old new next moves step = record {
  since = old.now ∷ next ∷ [];
  chain = states-moved old new next moves ∙ append_assoc old.past (old.now ∷ []) (next ∷ []);
  linked = (order.itself old.now, (step, tt));
  later = omega (arith, moment-moved old new next moves);
}

Linked-weaken : (R S : State → State → Type 0) → ((before after : State) → R before after → S before after) → (before : State) (since : List State) → Linked R before since → Linked S before since
Linked-weaken R S weaker before [] linked = tt
Linked-weaken R S weaker before (state ∷ since) linked = (weaker before state linked.0, Linked-weaken R S weaker state since linked.1)

-- a chain by what R implies
pub Steps-weaken : (R S : State → State → Type 0) → ((before after : State) → R before after → S before after) → (old new : Directory) → Steps R old new → Steps S old new
Steps-weaken R S weaker old new steps = record {
  since = steps.since;
  chain = steps.chain;
  linked = Linked-weaken R S weaker old.now steps.since steps.linked;
  later = steps.later;
}

-- ---- joining

-- a list that ends in x and begins with `past` has x last in what is behind
behind : (past all since : List State) (x : State) → all ++ x ∷ [] ≡ past ++ since → length past ≤ length all → (more : List State) × (all ≡ past ++ more) × (since ≡ more ++ x ∷ [])
behind [] all since x e within = (all, refl, sym e)
behind (state ∷ past) [] since x e within = absurd (omega arith)
behind (state ∷ past) (other ∷ all) since x e within =
    let same : other ≡ state = cc in
    let rest : all ++ x ∷ [] ≡ past ++ since = cc in
    let found : (more : List State) × (all ≡ past ++ more) × (since ≡ more ++ x ∷ []) = behind past all since x rest (omega arith) in
    (found.0, (λ i. same i ∷ found.1 i), found.2)

Linked-join : (R : State → State → Type 0) → IsPreorder R → (before : State) (front : List State) (x : State) (since : List State) → Linked R before (front ++ x ∷ []) → Linked R x since → Linked R before (front ++ since)
Linked-join R order before [] x [] linked more = tt
Linked-join R order before [] x (state ∷ since) linked more = (order.further before x state linked.0 more.0, more.1)
Linked-join R order before (state ∷ front) x since linked more = (linked.0, Linked-join R order state front x since linked.1 more)

-- a chain, and one that begins where it ends
pub Steps-join : (R : State → State → Type 0) → IsPreorder R → (old middle new : Directory) → Steps R old middle → Steps R middle new → Steps R old new
Steps-join R order old middle new steps more =
    let found : (front : List State) × (middle.past ≡ old.past ++ front) × (steps.since ≡ front ++ middle.now ∷ []) = behind old.past middle.past steps.since middle.now steps.chain steps.later in
    record {
      since = found.0 ++ more.since;
      chain = more.chain ∙ ap (λ past. past ++ more.since) found.1 ∙ append_assoc old.past found.0 more.since;
      linked = Linked-join R order old.now found.0 middle.now more.since (subst (Linked R old.now) found.2 steps.linked) more.linked;
      later = omega (arith, steps.later, more.later);
    }

-- ---- what a chain says of moments

-- an element of two lists is one of the first or one of the second
get_behind : (past since : List State) (at : ℕ) → length past ≤ at → (k : ℕ) × (at ≡ length past + k) × (slice_get (past ++ since) at ≡ slice_get since k)
get_behind [] since at within = (at, omega arith, refl)
get_behind (state ∷ past) since zero within = absurd (omega arith)
get_behind (state ∷ past) since (suc at) within =
    let found : (k : ℕ) × (at ≡ length past + k) × (slice_get (past ++ since) at ≡ slice_get since k) = get_behind past since at (omega arith) in
    (found.0, omega (arith, found.1), found.2)

linked_each : (R : State → State → Type 0) → IsPreorder R → (before : State) (since : List State) → Linked R before since → (k : ℕ) (state : State) → slice_get since k ≡ Some state → R before state
linked_each R order before [] linked k state e = absurd (let no : None ≡ Some state = e in cc)
linked_each R order before (here ∷ since) linked zero state e = subst (R before) (some_is here state e) linked.0
linked_each R order before (here ∷ since) linked (suc k) state e = order.further before here state linked.0 (linked_each R order here since linked.1 k state e)

linked_passes : (R : State → State → Type 0) (P : State → Type 0) → ((before after : State) → R before after → P before → P after) → (before : State) (since : List State) → Linked R before since → P before → (k : ℕ) (state : State) → slice_get since k ≡ Some state → P state
linked_passes R P passes before [] linked holds k state e = absurd (let no : None ≡ Some state = e in cc)
linked_passes R P passes before (here ∷ since) linked holds zero state e = subst P (some_is here state e) (passes before here linked.0 holds)
linked_passes R P passes before (here ∷ since) linked holds (suc k) state e = linked_passes R P passes here since linked.1 (passes before here linked.0 holds) k state e

linked_order : (R : State → State → Type 0) → IsPreorder R → (before : State) (since : List State) → Linked R before since → (k l : ℕ) (state after : State) → k ≤ l → slice_get since k ≡ Some state → slice_get since l ≡ Some after → R state after
linked_order R order before [] linked k l state after within e f = absurd (let no : None ≡ Some state = e in cc)
linked_order R order before (here ∷ since) linked zero zero state after within e f = subst (R state) (some_is state after (sym e ∙ f)) (order.itself state)
linked_order R order before (here ∷ since) linked zero (suc l) state after within e f = subst (λ s. R s after) (some_is here state e) (linked_each R order here since linked.1 l after f)
linked_order R order before (here ∷ since) linked (suc k) zero state after within e f = absurd (omega arith)
linked_order R order before (here ∷ since) linked (suc k) (suc l) state after within e f = linked_order R order here since linked.1 k l state after (omega arith) e f

-- the past states are what they were
pub states-past : (R : State → State → Type 0) (old new : Directory) → Steps R old new → (at : ℕ) → at < moment old → slice_get (states new) at ≡ slice_get (states old) at
states-past R old new steps at past =
    ap (λ all. slice_get all at) steps.chain ∙ get_within old.past steps.since at past ∙ sym (get_within old.past (old.now ∷ []) at past)

-- what holds of the present state holds from its moment on
pub FromOn-now : (P : State → Type 0) (directory : Directory) → P directory.now → FromOn (moment directory) P directory
FromOn-now P directory holds at state within e =
    let found : (k : ℕ) × (at ≡ moment directory + k) × (slice_get (states directory) at ≡ slice_get (directory.now ∷ []) k) = get_behind directory.past (directory.now ∷ []) at within in
    linked_passes (λ before after. P after) P (λ before after holds _. holds) directory.now (directory.now ∷ []) (holds, tt) holds found.0 state (sym found.2 ∙ e)

-- what R passes on holds at each moment of a chain, where it held before
pub FromOn-steps : (R : State → State → Type 0) (P : State → Type 0) → ((before after : State) → R before after → P before → P after) → (begin : ℕ) (old new : Directory) → begin ≤ moment old → Steps R old new → FromOn begin P old → FromOn begin P new
FromOn-steps R P passes begin old new within steps holds at state from e =
    ⊎_elim (λ past. holds at state from (sym (states-past R old new steps at past) ∙ e))
    (λ now.
    let found : (k : ℕ) × (at ≡ moment old + k) × (slice_get (old.past ++ steps.since) at ≡ slice_get steps.since k) = get_behind old.past steps.since at now in
    linked_passes R P passes old.now steps.since steps.linked (holds (moment old) old.now within (get_seam old.past [] old.now)) found.0 state
    (sym found.2 ∙ ap (λ all. slice_get all at) (sym steps.chain) ∙ e))
    (cases_lt at (moment old))

pub InOrderFrom-now : (R : State → State → Type 0) → IsPreorder R → (directory : Directory) → InOrderFrom (moment directory) R directory
InOrderFrom-now R order directory at then state after within later e f =
    let a : (k : ℕ) × (at ≡ moment directory + k) × (slice_get (states directory) at ≡ slice_get (directory.now ∷ []) k) = get_behind directory.past (directory.now ∷ []) at within in
    let b : (k : ℕ) × (then ≡ moment directory + k) × (slice_get (states directory) then ≡ slice_get (directory.now ∷ []) k) = get_behind directory.past (directory.now ∷ []) then (omega arith) in
    linked_order R order directory.now (directory.now ∷ []) (order.itself directory.now, tt) a.0 b.0 state after (omega (arith, a.1, b.1)) (sym a.2 ∙ e) (sym b.2 ∙ f)

-- the order goes on over a chain
pub InOrderFrom-steps : (R : State → State → Type 0) → IsPreorder R → (begin : ℕ) (old new : Directory) → begin ≤ moment old → Steps R old new → InOrderFrom begin R old → InOrderFrom begin R new
InOrderFrom-steps R order begin old new within steps holds at then state after from later e f =
    ⊎_elim
    (λ past. holds at then state after from later
    (sym (states-past R old new steps at (omega arith)) ∙ e)
    (sym (states-past R old new steps then past) ∙ f))
    (λ now.
    let b : (k : ℕ) × (then ≡ moment old + k) × (slice_get (old.past ++ steps.since) then ≡ slice_get steps.since k) = get_behind old.past steps.since then now in
    let f' : slice_get steps.since b.0 ≡ Some after = sym b.2 ∙ ap (λ all. slice_get all then) (sym steps.chain) ∙ f in
    ⊎_elim
    (λ past. order.further state old.now after
    (holds at (moment old) state old.now from (omega arith) (sym (states-past R old new steps at past) ∙ e) (get_seam old.past [] old.now))
    (linked_each R order old.now steps.since steps.linked b.0 after f'))
    (λ here.
    let a : (k : ℕ) × (at ≡ moment old + k) × (slice_get (old.past ++ steps.since) at ≡ slice_get steps.since k) = get_behind old.past steps.since at here in
    linked_order R order old.now steps.since steps.linked a.0 b.0 state after (omega (arith, a.1, b.1))
    (sym a.2 ∙ ap (λ all. slice_get all at) (sym steps.chain) ∙ e) f')
    (cases_lt at (moment old)))
    (cases_lt then (moment old))

-- ---- the chain of each call, whatever it answered

pub Steps-same : (R : State → State → Type 0) → IsPreorder R → (old new : Directory) → new ≡ old → Steps R old new
Steps-same R order old new same = subst (λ d. Steps R old d) (sym same) (Steps-none R order old)

pub Steps-entered : (R : State → State → Type 0) → IsPreorder R → (old new : Directory) (number : ℕ) (bytes : List ℕ) (result : Result (Unit {0}) DeviceError)
    → EntersFile old new number bytes result → (IsErrOf result NoMemory → new ≡ old)
    → R old.now (entered old.now number bytes) → R old.now (loosened old.now number) → Steps R old new
Steps-entered R order old new number bytes (Ok done) enters same ok failed = Steps-moved R order old new _ enters.ok ok
Steps-entered R order old new number bytes (Err Failed) enters same ok failed = Steps-moved R order old new _ (enters.failed refl) failed
Steps-entered R order old new number bytes (Err NoMemory) enters same ok failed = Steps-same R order old new (same refl)

pub Steps-removed : (R : State → State → Type 0) → IsPreorder R → (old new : Directory) (number : ℕ) (result : Result (Unit {0}) DeviceError)
    → RemovesFile old new number result → (IsErrOf result NoMemory → new ≡ old)
    → R old.now (loosened old.now number) → Steps R old new
Steps-removed R order old new number (Ok done) removes same loose = Steps-moved R order old new _ removes.ok loose
Steps-removed R order old new number (Err Failed) removes same loose = Steps-moved R order old new _ (removes.failed refl) loose
Steps-removed R order old new number (Err NoMemory) removes same loose = Steps-same R order old new (same refl)

pub Steps-pointed : {E : Type 0} (R : State → State → Type 0) → IsPreorder R → (old new : Directory) (bytes : List ℕ) (result : Result (Unit {0}) E)
    → PointsAt old new bytes result → R old.now (pointed old.now bytes) → Steps R old new
Steps-pointed R order old new bytes result points step = Steps-moved R order old new _ points.joined step

pub Steps-settled : {E : Type 0} (R : State → State → Type 0) → IsPreorder R → (old new : Directory) (result : Result (Unit {0}) E)
    → Settles old new result → R old.now (settled old.now old.seen.descriptor) → Steps R old new
Steps-settled R order old new (Ok done) settles step = Steps-moved R order old new _ settles.ok step
Steps-settled R order old new (Err refused) settles step = Steps-moved R order old new _ settles.failed (order.itself old.now)

-- ---- what holds of states, told of images

-- what P says of the images of a state holds at each moment of the chain's end from `begin` on
pub possible_each : (P : State → Type 0) (Q : Image → Type 0) → ((state : State) (image : Image) → P state → Fits image state → Q image) → (begin : ℕ) (directory : Directory) → FromOn begin P directory
    → (at : ℕ) (image : Image) → begin ≤ at → PossibleAt directory at image → Q image
possible_each P Q tells begin directory holds at image from possible = tells possible.state image (holds at possible.state from possible.stood) possible.fits

-- the images of the moments before the chain are what they were
pub PossibleAt-steps : (R : State → State → Type 0) (old new : Directory) → Steps R old new → (at : ℕ) → at < moment old → (image : Image) → PossibleAt new at image ↔ PossibleAt old at image
PossibleAt-steps R old new steps at past = PossibleAt-same old new at (states-past R old new steps at past)
