-- What an anchor keeps over its calls.
use Rattle.std.proofs.Common.{◌≡◌, ◌≤◌, ◌+◌, ℕ, Bool, true, List, [], ◌∷◌, ◌++◌, map, Option, Some, None, Ok, Contains, refl, sym, ◌∙◌, ap, subst, ⊎_elim, arith}
use Rattle.lt_io.specs.Directory.{State, Directory, Fits, moment, lent, pointed}
use Rattle.lt_io.specs.Steps.{Steps, IsPreorder}
use Rattle.lt_io.proofs.Moments.{Fits-raised, get_seam}
use Rattle.lt_io.proofs.Chains.{Steps-lent, Steps-join, FromOn-now, FromOn-steps}
use Rattle.lt_desc.specs.Shape.{StoneShape}
use Rattle.lt_desc.specs.Reading.{stone_at}
use Rattle.lt_desc.specs.Spelling.{spelling}
use Rattle.lt_commit.specs.Anchored.{IsAnchored, spelled, newest}
use Rattle.lt_commit.specs.Moments.{Replaces, Sweeps}
use Rattle.std.proofs.lemmas.List.Elements.{Contains-push_cases}
use Rattle.lt_commit.proofs.Orders.{replacing, replaces_raised, sweeping, only_one}

-- ---- the list of stones

pub newest-push : (older : List (Option StoneShape)) (stone : Option StoneShape) → newest (older ++ stone ∷ []) ≡ stone
newest-push [] stone = refl
newest-push (first ∷ []) stone = refl
newest-push (first ∷ second ∷ older) stone = newest-push (second ∷ older) stone

spelled-push : (older : List (Option StoneShape)) (stone : Option StoneShape) → map spelled (older ++ stone ∷ []) ≡ map spelled older ++ spelled stone ∷ []
spelled-push [] stone = refl
spelled-push (first ∷ older) stone = ap (λ more. spelled first ∷ more) (spelled-push older stone)

stone_is_some : (stone : StoneShape) (A : Type 0) → Some stone ≡ None → A
stone_is_some stone A e = cc

-- each is read back
abbrev Readable : List (Option StoneShape) → Type 0
Readable may = (stone : StoneShape) → Contains may (Some stone) → stone_at (spelling stone) ≡ Ok stone

same_stone : (stone other : StoneShape) → Some stone ≡ Some other → stone_at (spelling stone) ≡ Ok stone → stone_at (spelling other) ≡ Ok other
same_stone stone other same read = let e : stone ≡ other = cc in subst (λ s. stone_at (spelling s) ≡ Ok s) e read

readable_push : (may : List (Option StoneShape)) (stone : StoneShape) → stone_at (spelling stone) ≡ Ok stone → Readable may → Readable (may ++ Some stone ∷ [])
readable_push may stone read was other held = ⊎_elim (λ before. was other before) (λ same. same_stone stone other same read) (Contains-push_cases may (Some stone) (Some other) held)

none_is_some : (stone : StoneShape) (A : Type 0) → None ≡ Some stone → A
none_is_some stone A e = cc

-- ---- one possible stone

pub anchored_none : (honest : Bool) (directory : Directory) → (honest ≡ true → directory.now.may ≡ None ∷ []) → (honest ≡ true → Fits directory.seen directory.now) → IsAnchored honest record { directory = directory; may = None ∷ [] }
anchored_none honest directory only fits = record {
  possible = only;
  seen = fits;
  readable = λ stone held. none_is_some stone _ (only_one None (Some stone) held);
  none = λ e. refl;
}

pub anchored_one : (honest : Bool) (directory : Directory) (may : List (Option StoneShape)) (stone : StoneShape) → may ≡ Some stone ∷ [] → (honest ≡ true → directory.now.may ≡ Some (spelling stone) ∷ []) → (honest ≡ true → Fits directory.seen directory.now) → stone_at (spelling stone) ≡ Ok stone
    → IsAnchored honest record { directory = directory; may = may }
anchored_one honest directory may stone is only fits read = record {
  possible = λ h. only h ∙ ap (map spelled) (sym is);
  seen = fits;
  readable = λ other held. same_stone stone other (only_one (Some stone) (Some other) (subst (λ l. Contains l (Some other)) is held)) read;
  none = λ last. stone_is_some stone _ (ap newest (sym is) ∙ last);
}

-- ---- the number is lent

pub anchored_lent : (honest : Bool) (old new : Directory) (may : List (Option StoneShape)) (file : ℕ) → old.now.ceiling ≤ file → (honest ≡ true → new ≡ lent old file)
    → IsAnchored honest record { directory = old; may = may } → IsAnchored honest record { directory = new; may = may }
anchored_lent honest old new may file unlent e anchored = record {
  possible = λ h. ap (λ d. d.now.may) (e h) ∙ anchored.possible h;
  seen = λ h. subst (λ d. Fits d.seen d.now) (sym (e h)) (Fits-raised old.seen old.now (file + 1) (omega arith) (anchored.seen h));
  readable = anchored.readable;
  none = anchored.none;
}

pub steps_lent : (number : ℕ) (bytes : List ℕ) (old new : Directory) → old.now.ceiling ≤ number → new ≡ lent old number → Steps (Replaces number bytes) old new
steps_lent number bytes old new unlent e =
    subst (Steps (Replaces number bytes) old) (sym e) (Steps-lent (Replaces number bytes) old number (replaces_raised number bytes old.now unlent))

-- ---- and the stone is pointed at

pub steps_on : (number : ℕ) (bytes : List ℕ) (as_bytes : List ℕ) (old middle new : Directory) → old.now.ceiling ≤ number → as_bytes ≡ bytes → middle ≡ lent old number → Steps (Replaces number as_bytes) middle new
    → Steps (Replaces number bytes) old new
steps_on number bytes as_bytes old middle new unlent same e steps =
    Steps-join (Replaces number bytes) (replacing number bytes) old middle new (steps_lent number bytes old middle unlent e) (subst (λ b. Steps (Replaces number b) middle new) same steps)

pub anchored_pointed : (honest : Bool) (old middle new : Directory) (may joined : List (Option StoneShape)) (file : ℕ) (stone : StoneShape) (as_bytes : List ℕ) → joined ≡ may ++ Some stone ∷ []
    → (honest ≡ true → as_bytes ≡ spelling stone) → (honest ≡ true → middle ≡ lent old file) → (honest ≡ true → new.now ≡ pointed middle.now as_bytes) → (honest ≡ true → Fits new.seen new.now) → stone_at (spelling stone) ≡ Ok stone
    → IsAnchored honest record { directory = old; may = may } → IsAnchored honest record { directory = new; may = joined }
anchored_pointed honest old middle new may joined file stone as_bytes is same e points fits read anchored = record {
  possible = λ h.
      let was : middle.now.may ≡ map spelled may = ap (λ d. d.now.may) (e h) ∙ anchored.possible h in
      ap (λ s. s.may) (points h) ∙ (λ i. was i ++ Some (same h i) ∷ []) ∙ sym (spelled-push may (Some stone)) ∙ ap (map spelled) (sym is);
  seen = fits;
  readable = λ s held. readable_push may stone read anchored.readable s (subst (λ l. Contains l (Some s)) is held);
  none = λ last. stone_is_some stone _ (sym (newest-push may (Some stone)) ∙ ap newest (sym is) ∙ last);
}

-- ---- files are swept

-- where a chain begins and where it ends
pub steps_end : (R : State → State → Type 0) → IsPreorder R → (old new : Directory) → Steps R old new → R old.now new.now
steps_end R order old new steps =
    FromOn-steps R (R old.now) (λ before after more so_far. order.further old.now before after so_far more) (moment old) old new (omega arith) steps
    (FromOn-now (R old.now) old (order.itself old.now)) (moment new) new.now steps.later (get_seam new.past [] new.now)

pub anchored_swept : (honest : Bool) (old new : Directory) (may : List (Option StoneShape)) (goes : ℕ → Type 0) → (honest ≡ true → Steps (Sweeps goes) old new) → (honest ≡ true → Fits old.seen old.now → Fits new.seen new.now)
    → IsAnchored honest record { directory = old; may = may } → IsAnchored honest record { directory = new; may = may }
anchored_swept honest old new may goes steps fits anchored = record {
  possible = λ h. let end : Sweeps goes old.now new.now = steps_end (Sweeps goes) (sweeping goes) old new (steps h) in end.may ∙ anchored.possible h;
  seen = λ h. fits h (anchored.seen h);
  readable = anchored.readable;
  none = anchored.none;
}
