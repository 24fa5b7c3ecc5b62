-- The facts after a descriptor's publishing failed.
use Rattle.std.proofs.Common.{◌≡◌, ◌⊎◌, List, [], ◌∷◌, ◌++◌, Option, Some, Contains, sym, ap, subst, inl, inr, ⊎_elim, arith}
use Rattle.std.proofs.lemmas.List.Elements.{Contains-push_cases}
use Rattle.lt_io.specs.Directory.{Contents}
use Rattle.lt_desc.specs.Shape.{StoneShape}
use Rattle.lt_commit.specs.Anchored.{Anchored}
use Rattle.lt_trace.specs.Opens.{IsWhole, HoldsRows}
use Rattle.lt_state.specs.Facts.{IsSettled}
use Rattle.lt_state.specs.Laws.{FaultKeepsFacts}

some_is : (a b : StoneShape) → Some a ≡ Some b → a ≡ b
some_is a b e = cc

was_or_new : (anchor after : Anchored) (stone other : StoneShape) → after.may ≡ anchor.may ++ Some stone ∷ [] → Contains after.may (Some other) → Contains anchor.may (Some other) ⊎ (stone ≡ other)
was_or_new anchor after stone other joined among =
    ⊎_elim (λ was. inl was) (λ new. inr (some_is stone other new)) (Contains-push_cases anchor.may (Some stone) (Some other) (subst (λ (may : List (Option StoneShape)). Contains may (Some other)) joined among))

pub fault_keeps_facts : FaultKeepsFacts
fault_keeps_facts told h recs anchor after tablets memory stone facts files joined whole holds bounds lows = record {
  entered = λ yes other among. subst (λ (f : Contents). IsWhole recs f other) (sym files) (⊎_elim (λ was. facts.entered yes other was) (λ new. subst (IsWhole recs anchor.directory.now.files) new (whole yes)) (was_or_new anchor after stone other joined among));
  rows = λ yes other among. ⊎_elim (λ was. facts.rows yes other was) (λ new. subst (HoldsRows recs h) new (holds yes)) (was_or_new anchor after stone other joined among);
  settled = λ other among. ⊎_elim (λ was. facts.settled other was) (λ new. subst (IsSettled h) new bounds) (was_or_new anchor after stone other joined among);
  lows = λ other among. ⊎_elim (λ was. facts.lows other was) (λ new. omega (arith, lows, ap (λ (s : StoneShape). s.low) new)) (was_or_new anchor after stone other joined among);
  unsettled = facts.unsettled;
  keys = facts.keys;
}
