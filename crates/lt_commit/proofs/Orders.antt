-- The relations of one moment to the next: each stands over several moments, and the steps of which it is made.
use Rattle.std.proofs.Common.{◌≡◌, ◌⊎◌, ◌≤◌, ◌+◌, ℕ, List, [], ◌∷◌, Option, Some, Contains, refl, sym, ◌∙◌, subst, inl, inr, ⊎_elim, arith}
use Rattle.std.proofs.lemmas.List.Elements.{Contains-push, Contains-push_cases}
use Rattle.lt_io.specs.Directory.{State, loosened, pointed, settled, raised}
use Rattle.lt_io.specs.Steps.{IsPreorder}
use Rattle.lt_io.proofs.Moments.{loosened_other, loosened_stood}
use Rattle.lt_commit.specs.Moments.{Narrows, Replaces, Sweeps}

pub narrowing : IsPreorder Narrows
narrowing = record {
  itself = λ state. record { files = refl; ceiling = refl; possible = λ d was. was };
  further = λ before state after first then. record {
    files = then.files ∙ first.files;
    ceiling = then.ceiling ∙ first.ceiling;
    possible = λ d is. first.possible d (then.possible d is);
  };
}

joined_further : (bytes : List ℕ) (before state after : State) → (state.may ≡ before.may) ⊎ Contains state.may (Some bytes) → (after.may ≡ state.may) ⊎ Contains after.may (Some bytes)
    → (after.may ≡ before.may) ⊎ Contains after.may (Some bytes)
joined_further bytes before state after first then =
    ⊎_elim (λ same. ⊎_elim (λ was. inl (same ∙ was)) (λ new. inr (subst (λ may. Contains may (Some bytes)) (sym same) new)) first) (λ new. inr new) then

ceiling_further : (number : ℕ) (before state after : State) → (state.ceiling ≡ before.ceiling) ⊎ (state.ceiling ≡ number + 1) → (after.ceiling ≡ state.ceiling) ⊎ (after.ceiling ≡ number + 1)
    → (after.ceiling ≡ before.ceiling) ⊎ (after.ceiling ≡ number + 1)
ceiling_further number before state after first then =
    ⊎_elim (λ same. ⊎_elim (λ was. inl (same ∙ was)) (λ new. inr (same ∙ new)) first) (λ new. inr new) then

pub replacing : (number : ℕ) (bytes : List ℕ) → IsPreorder (Replaces number bytes)
replacing number bytes = record {
  itself = λ state. record { files = refl; ceiling = inl refl; no_lower = omega arith; old_or_new = λ d was. inl was; joined = inl refl };
  further = λ before state after first then. record {
    files = then.files ∙ first.files;
    ceiling = ceiling_further number before state after first.ceiling then.ceiling;
    no_lower = omega (arith, first.no_lower, then.no_lower);
    old_or_new = λ d is. ⊎_elim (λ was. first.old_or_new d was) (λ new. inr new) (then.old_or_new d is);
    joined = joined_further bytes before state after first.joined then.joined;
  };
}

pub sweeping : (goes : ℕ → Type 0) → IsPreorder (Sweeps goes)
sweeping goes = record {
  itself = λ state. record { stands = λ number bytes stays e. e; stood = λ number bytes e. e; may = refl; ceiling = refl };
  further = λ before state after first then. record {
    stands = λ number bytes stays e. then.stands number bytes stays (first.stands number bytes stays e);
    stood = λ number bytes e. first.stood number bytes (then.stood number bytes e);
    may = then.may ∙ first.may;
    ceiling = then.ceiling ∙ first.ceiling;
  };
}

pub only_one : {X : Type 0} (x d : X) → Contains (x ∷ []) d → x ≡ d
only_one x d is = ⊎_elim (λ none. absurd (omega (arith, none.1))) (λ same. same) (Contains-push_cases [] x d is)

-- a descriptor that was possible is settled
pub narrows_settled : (state : State) (descriptor : Option (List ℕ)) → Contains state.may descriptor → Narrows state (settled state descriptor)
narrows_settled state descriptor was = record {
  files = refl;
  ceiling = refl;
  possible = λ d is. subst (Contains state.may) (only_one descriptor d is) was;
}

-- the number is lent
pub replaces_raised : (number : ℕ) (bytes : List ℕ) (state : State) → state.ceiling ≤ number → Replaces number bytes state (raised state (number + 1))
replaces_raised number bytes state unlent = record { files = refl; ceiling = inr refl; no_lower = omega arith; old_or_new = λ d was. inl was; joined = inl refl }

-- the new descriptor joins
pub replaces_pointed : (number : ℕ) (bytes : List ℕ) (state : State) → Replaces number bytes state (pointed state bytes)
replaces_pointed number bytes state = record {
  files = refl;
  ceiling = inl refl;
  no_lower = omega arith;
  old_or_new = λ d is. ⊎_elim (λ was. inl was) (λ new. inr (sym new)) (Contains-push_cases state.may (Some bytes) d is);
  joined = inr (Contains-push state.may (Some bytes));
}

-- it is settled
pub replaces_settled : (number : ℕ) (bytes : List ℕ) (state : State) (descriptor : Option (List ℕ)) → descriptor ≡ Some bytes → Replaces number bytes state (settled state descriptor)
replaces_settled number bytes state descriptor new = record {
  files = refl;
  ceiling = inl refl;
  no_lower = omega arith;
  old_or_new = λ d is. inr (sym (only_one descriptor d is) ∙ new);
  joined = inr (subst (λ d. Contains (descriptor ∷ []) d) new (Contains-push [] descriptor));
}

-- a file goes
pub sweeps_loosened : (goes : ℕ → Type 0) (state : State) (number : ℕ) → goes number → Sweeps goes state (loosened state number)
sweeps_loosened goes state number gone = record {
  stands = λ other bytes stays e. loosened_other state number other (λ same. stays (subst goes (sym same) gone)) ∙ e;
  stood = λ other bytes e. loosened_stood state number other bytes e;
  may = refl;
  ceiling = refl;
}
