-- Steps one after the other, as a loop makes them, and what they keep.
use Rattle.std.proofs.Common.{◌≡◌, ℕ, zero, suc, ◌+◌, ◌-◌, ◌<◌, ◌≤◌, List, [], ◌∷◌, ◌++◌, Result, Ok, Err, refl, sym, ap, ◌∙◌, subst, arith}
use Rattle.lt_rec.specs.declared.fault.FormatError.{FormatError}
use Rattle.lt_rec.specs.declared.fault.FormatError.TheVariants as errors
use Rattle.lt_schema.specs.declared.change.Change.{Change}
use Rattle.lt_schema.specs.Shapes.{SchemaShape}
use Rattle.lt_schema.specs.Versions.{SchemaVersions, newest}
use Rattle.lt_rec.specs.Reading.{◌>>=◌, Fails}
use Rattle.lt_desc.specs.Reading.{repeated, behind, change_at, with_change, next_change}
use Rattle.lt_rec.proofs.Reading.{bind_ok, ok_is}

abbrev pub Step : Type 0 → Type 0
Step S = S → List ℕ → Result (S × List ℕ) ℕ

pub turn_next : {S : Type 0} (step : Step S) (count i : ℕ) (s : S) (bytes : List ℕ) (t : S) (rest : List ℕ) (whole : Result (S × List ℕ) ℕ) → i < count → step s bytes ≡ Ok (t, rest)
    → repeated step (count - i) s bytes ≡ whole → repeated step (count - (i + 1)) t rest ≡ whole
unfolding repeated
turn_next step count i s bytes t rest whole lt one so_far =
    let k : count - i ≡ suc (count - (i + 1)) = omega arith in
    let made : repeated step (count - i) s bytes ≡ repeated step (count - (i + 1)) t rest = rw (k, one) refl in
    sym made ∙ so_far

pub turn_fails : {S : Type 0} (step : Step S) (e : FormatError) (count i : ℕ) (s : S) (bytes : List ℕ) (whole : Result (S × List ℕ) ℕ) → i < count → Fails e (step s bytes)
    → repeated step (count - i) s bytes ≡ whole → Fails e whole
unfolding repeated
turn_fails step errors.NoMemory count i s bytes whole lt one so_far = tt
turn_fails step (errors.Bad at) count i s bytes whole lt one so_far =
    let k : count - i ≡ suc (count - (i + 1)) = omega arith in
    let made : repeated step (count - i) s bytes ≡ Err at = rw (k, one) refl in
    sym so_far ∙ made

pub turns_done : {S : Type 0} (step : Step S) (count i : ℕ) (s : S) (bytes : List ℕ) (whole : Result (S × List ℕ) ℕ) → count ≤ i → repeated step (count - i) s bytes ≡ whole → whole ≡ Ok (s, bytes)
unfolding repeated
turns_done step count i s bytes whole le so_far =
    let k : count - i ≡ 0 = omega arith in
    let made : repeated step (count - i) s bytes ≡ Ok (s, bytes) = rw k refl in
    sym so_far ∙ made

-- what holds with so many steps left, and goes over each step, holds at the end
pub turns_keep : {S : Type 0} (step : Step S) (Keeps : ℕ → S → List ℕ → Type 0) → ((n : ℕ) (s : S) (bytes : List ℕ) (x : S × List ℕ) → Keeps (suc n) s bytes → step s bytes ≡ Ok x → Keeps n x.0 x.1)
    → (n : ℕ) (s : S) (bytes : List ℕ) (x : S × List ℕ) → Keeps n s bytes → repeated step n s bytes ≡ Ok x → Keeps 0 x.0 x.1
unfolding repeated
turns_keep step Keeps over zero s bytes x kept e = subst (λ (p : _ × List ℕ). Keeps 0 p.0 p.1) (ok_is (s, bytes) x e) kept
turns_keep step Keeps over (suc n) s bytes x kept e =
    let a = bind_ok (step s bytes) (λ y. repeated step n y.0 y.1) x e in
    turns_keep step Keeps over n a.0.0 a.0.1 x (over n s bytes a.0 kept a.1) a.2

-- ---- a step of a list

fails_on : {A B : Type 0} (e : FormatError) (r : Result A ℕ) (f : A → Result B ℕ) → Fails e r → Fails e (r >>= f)
fails_on errors.NoMemory r f h = tt
fails_on (errors.Bad at) (Ok x) f h = absurd cc
fails_on (errors.Bad at) (Err d) f h = let same : d ≡ at = cc in ap (λ (n : ℕ). Err n) same

pub next_fails : {A : Type 0} (read : List A → Result (A × List ℕ) ℕ) (e : FormatError) (seen before : List A) → seen ≡ before → Fails e (read seen) → Fails e (read before >>= behind before)
next_fails read e seen before same h = fails_on e (read before) (behind before) (subst (λ (xs : List _). Fails e (read xs)) same h)

pub next_ok : {A : Type 0} (read : List A → Result (A × List ℕ) ℕ) (seen before items : List A) (x : A) (rest : List ℕ) → seen ≡ before → read seen ≡ Ok (x, rest) → items ≡ before ++ x ∷ [] → (read before >>= behind before) ≡ Ok (items, rest)
next_ok read seen before items x rest same one more =
    let here : read before ≡ Ok (x, rest) = subst (λ (xs : List _). read xs ≡ Ok (x, rest)) same one in
    rw here (ap (λ (xs : List _). Ok (xs, rest)) (sym more))

pub version_fails : (total : ℕ) (e : FormatError) (v : SchemaVersions) (s : SchemaShape) (bytes : List ℕ) → s ≡ newest v → Fails e (change_at s total bytes) → Fails e (next_change total v bytes)
version_fails total e v s bytes same h = fails_on e (change_at (newest v) total bytes) (with_change v) (subst (λ (t : SchemaShape). Fails e (change_at t total bytes)) same h)

pub version_ok : (total : ℕ) (v w : SchemaVersions) (s : SchemaShape) (bytes : List ℕ) (change : Change) (rest : List ℕ) → s ≡ newest v → change_at s total bytes ≡ Ok (change, rest) → w ≡ record { first = v.first; changes = v.changes ++ change ∷ [] } → next_change total v bytes ≡ Ok (w, rest)
version_ok total v w s bytes change rest same one more =
    let here : change_at (newest v) total bytes ≡ Ok (change, rest) = subst (λ (t : SchemaShape). change_at t total bytes ≡ Ok (change, rest)) same one in
    rw here (ap (λ (u : SchemaVersions). Ok (u, rest)) (sym more))
