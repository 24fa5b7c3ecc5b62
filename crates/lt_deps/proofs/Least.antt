-- The tablets of a front, as a closure.
use Rattle.std.proofs.Common.{◌≡◌, ◌≢◌, ℕ, suc, zero, ◌+◌, ◌<◌, ◌≤◌, Bool, true, List, [], ◌∷◌, length, take, get_or, nat_eq, refl, sym, ap, ◌∙◌, inl, inr, arith}
use Rattle.std.specs.List.Sorted.{IsPermutation, IsStrictlyIncreasing}
use Rattle.std.proofs.lemmas.List.{get_or-take, length-take, length-take-le}
use Rattle.std.proofs.lemmas.List.Sorted.{list_any-IsPermutation}
use Rattle.std.proofs.lemmas.Bool.{cases_lt}
use Rattle.lt_rec.specs.Closure.{has, IsClosed, IsClosure}
use Rattle.lt_deps.specs.Kept.{IsAt, Holds, AreDistinct}
use Rattle.lt_deps.proofs.Rows.{has_at, at_has}

module _ (ts ahead : List ℕ) (above : ℕ) (notes : List ℕ) (k : Holds ts ahead above notes) where
  -- where a set is closed, it has with a place's tablet those of all places below
  low_in : (other : List ℕ) (place low : ℕ) → IsClosed notes other → place < length ts → has other (get_or ts place 0) ≡ true → low ≤ place → has other (get_or ts low 0) ≡ true
  low_in other place low closed h in_it le =
      let u = k.used place h in
      let o = k.older u.0 place low u.1 le in
      let b = o.1 in
      ap (has other) (sym o.2.same) ∙ closed.closed u.0 o.0 u.1.noted (ap (has other) u.1.same ∙ in_it) (omega arith)

  up_in : (other : List ℕ) (low j : ℕ) → IsClosed notes other → j < length ts → has other (get_or ts j 0) ≡ true → low ≤ j + get_or ahead j 0 → has other (get_or ts low 0) ≡ true
  up_in other low j closed h in_it le = elim (k.needed j h) [
    | inl z ↦ low_in other j low closed h in_it (omega arith)
    | inr r ↦ low_in other (j + get_or ahead j 0) low closed r.1.held
        (ap (has other) (sym r.1.same) ∙ closed.closed (r.0 + 1) r.0 r.2.noted (ap (has other) r.2.same ∙ in_it) (omega arith)) le
  ]

  module _ (place count t : ℕ) (found : List ℕ) (paired : length ahead ≡ length ts) (held : place < length ts) (here : get_or ts place 0 ≡ t)
      (within : count ≤ length ts) (holds : place < count) (closed : (j : ℕ) → j < count → j + get_or ahead j 0 < count)
      (least : (p : ℕ → Bool) → ((i : ℕ) → i ≤ place → p i ≡ true) → ((i j : ℕ) → j < length ahead → p j ≡ true → i ≤ j + get_or ahead j 0 → p i ≡ true) → (i : ℕ) → i < count → p i ≡ true)
      (moved : IsPermutation (take count ts) found) (rises : IsStrictlyIncreasing found) where
    same : (u : ℕ) → has (take count ts) u ≡ has found u
    same u = list_any-IsPermutation (λ held. nat_eq held u) (take count ts) found moved

    place_in : (i u : ℕ) → i < count → get_or ts i 0 ≡ u → has found u ≡ true
    place_in i u h e =
        let long = length-take-le count ts within in
        sym (same u) ∙ has_at (take count ts) i u (omega arith) (get_or-take count ts i 0 h ∙ e)

    in_place : (u : ℕ) → has found u ≡ true → (i : ℕ) × (i < count) × (get_or ts i 0 ≡ u)
    in_place u h =
        let long = length-take-le count ts within in
        let a = at_has (take count ts) u (same u ∙ h) in
        let w : a.0 < count = (let v = a.1 in omega arith) in
        (a.0, w, sym (get_or-take count ts a.0 0 w) ∙ a.2)

    -- the row before one of the front's is one of the front's
    before_in : (row before i : ℕ) → IsAt ts notes row i → i < count → before ≤ row → has found (get_or notes before 0) ≡ true
    before_in zero before i at h le = place_in i _ h (sym at.same ∙ ap (λ r. get_or notes r 0) (omega arith))
    before_in (suc row) before i at h le = elim (cases_lt row before) [
      | inl last ↦ place_in i _ h (sym at.same ∙ ap (λ r. get_or notes r 0) (omega arith))
      | inr earlier ↦
          let n = at.noted in
          let p = k.placed row (omega arith) in
          let s : suc row ≡ row + 1 = omega arith in
          let r = k.reached row i p.0 p.1 (rw s at at) in
          let c = closed i h in
          before_in row before p.0 p.1 (omega arith) earlier
    ]

    pub closure_of : IsClosure notes t found
    closure_of = record {
      holds = place_in place t holds here;
      closed = record {
        closed = λ row before h in_it b.
            let p = k.placed row h in
            let i = in_place _ in_it in
            before_in row before i.0 (record { noted = h; held = (let w = i.1 in omega arith); same = sym i.2 }) i.1 (omega arith);
      };
      least = λ other has_t shut u in_it.
          let i = in_place u in_it in
          ap (has other) (sym i.2) ∙ least (λ j. has other (get_or ts j 0))
          (λ j le. low_in other place j shut held (ap (has other) here ∙ has_t) le)
          (λ low j h p le. up_in other low j shut (omega arith) p le)
          i.0 i.1;
      rising = rises;
    }

pub front_distinct : (ts : List ℕ) (count : ℕ) → AreDistinct ts → AreDistinct (take count ts)
front_distinct ts count distinct i j h w e =
    let n = length-take count ts in
    let v : j < count = omega arith in
    let u : i < count = omega arith in
    distinct i j h (omega arith) (sym (get_or-take count ts i 0 u) ∙ e ∙ get_or-take count ts j 0 v)

-- a tablet without rows goes out alone
pub alone : (ts ahead : List ℕ) (above t : ℕ) (notes : List ℕ) → Holds ts ahead above notes → ((i : ℕ) → i < length ts → get_or ts i 0 ≢ t) → IsClosure notes t (t ∷ [])
alone ts ahead above t notes k none = record {
  holds = has_at (t ∷ []) 0 t (omega arith) refl;
  closed = record {
    closed = λ row before h in_it b.
        let p = k.placed row h in
        let i = at_has (t ∷ []) _ in_it in
        let z : i.0 ≡ 0 = (let w = i.1 in omega arith) in
        absurd (none p.0 p.1.held (sym p.1.same ∙ sym i.2 ∙ ap (λ j. get_or (t ∷ []) j 0) z));
  };
  least = λ other has_t shut u in_it.
      let i = at_has (t ∷ []) u in_it in
      let z : i.0 ≡ 0 = (let w = i.1 in omega arith) in
      ap (has other) (sym i.2 ∙ ap (λ j. get_or (t ∷ []) j 0) z) ∙ has_t;
  rising = λ i h. absurd (omega arith);
}
