-- What is kept, one more row noted, and some tablets gone.
use Rattle.std.proofs.Common.{◌≡◌, ◌≢◌, ℕ, ◌+◌, ◌-◌, ◌<◌, ◌≤◌, ◌⊎◌, false, List, [], ◌∷◌, ◌++◌, length, drop, set, max, get_or, not, filter, refl, sym, ap, ◌∙◌, inl, inr, arith, length-append, length-drop, true≢false}
use Rattle.std.specs.List.{prefix_len}
use Rattle.std.proofs.lemmas.List.{get_or-drop, get_or-set_same, get_or-set_other}
use Rattle.std.proofs.lemmas.List.Sums.{prefix_len_passes, prefix_len_stops}
use Rattle.std.proofs.lemmas.Bool.{cases_lt, false_from_ne_true}
use Rattle.std.proofs.Math.ListN.{get_or-append}
use Rattle.lt_rec.specs.Closure.{has, IsClosed}
use Rattle.lt_deps.specs.Kept.{IsAt, Holds}
use Rattle.lt_deps.proofs.Rows.{same_place, filter_end, at_more, at_before, new_row}

-- a row more for a tablet that has some
module _ (ts ahead : List ℕ) (above j t a : ℕ) (notes : List ℕ) (k : Holds ts ahead above notes) (paired : length ahead ≡ length ts) (held : j < length ts) (here : get_or ts j 0 ≡ t) (is : a ≡ max (get_or ahead j 0) (above - (j + 1))) where
  new_at : (row : ℕ) → row ≡ length notes → IsAt ts (notes ++ t ∷ []) row j
  new_at row e = record {
    noted = (let long = length-append notes (t ∷ []) in omega arith);
    held = held;
    same = new_row notes t row e ∙ sym here;
  }

  -- the row that is new went to that place and no other
  at_place : (row place : ℕ) → row ≡ length notes → IsAt ts (notes ++ t ∷ []) row place → place ≡ j
  at_place row place e at = same_place ts place j k.distinct at.held held (sym at.same ∙ new_row notes t row e ∙ sym here)

  higher : (low : ℕ) → low < length ts → get_or ahead low 0 ≤ get_or (set ahead j a) low 0
  higher low h = elim (cases_lt low j) [
    | inl below ↦ let e : get_or (set ahead j a) low 0 ≡ get_or ahead low 0 = get_or-set_other ahead j low a 0 (λ z. omega arith) in omega arith
    | inr up ↦ elim (cases_lt j low) [
      | inl over ↦ let e : get_or (set ahead j a) low 0 ≡ get_or ahead low 0 = get_or-set_other ahead j low a 0 (λ z. omega arith) in omega arith
      | inr down ↦
          let s : low ≡ j = omega arith in
          let e : get_or (set ahead j a) j 0 ≡ a = get_or-set_same ahead j a 0 (omega arith) in
          rw s (omega arith)
    ]
  ]

  needed_here : (get_or (set ahead j a) j 0 ≡ 0) ⊎ ((row : ℕ) × IsAt ts (notes ++ t ∷ []) row (j + get_or (set ahead j a) j 0) × IsAt ts (notes ++ t ∷ []) (row + 1) j)
  needed_here =
      let e : get_or (set ahead j a) j 0 ≡ a = get_or-set_same ahead j a 0 (omega arith) in
      rw e (elim (cases_lt (get_or ahead j 0) (above - (j + 1))) [
        | inl far ↦ elim (cases_lt 0 (length notes)) [
          | inl some ↦
              let row = length notes - 1 in
              let p = k.placed row (omega arith) in
              let l : above ≡ p.0 + 1 = k.last row p.0 (omega arith) p.1 in
              let s : p.0 ≡ j + a = omega arith in
              inr (row, rw (← s) (at_more ts notes t row p.0 p.1), new_at (row + 1) (omega arith))
          | inr none ↦ let z = k.none (omega arith) in inl (omega arith)
        ]
        | inr near ↦
            let s : get_or ahead j 0 ≡ a = omega arith in
            elim (k.needed j held) [
              | inl z ↦ inl (omega arith)
              | inr r ↦ inr (r.0, rw (← s) (at_more ts notes t r.0 _ r.1), at_more ts notes t (r.0 + 1) j r.2)
            ]
      ])

  needed_other : (place : ℕ) → place < length ts → place ≢ j → (get_or (set ahead j a) place 0 ≡ 0) ⊎ ((row : ℕ) × IsAt ts (notes ++ t ∷ []) row (place + get_or (set ahead j a) place 0) × IsAt ts (notes ++ t ∷ []) (row + 1) place)
  needed_other place h ne =
      let e : get_or (set ahead j a) place 0 ≡ get_or ahead place 0 = get_or-set_other ahead j place a 0 ne in
      rw e (elim (k.needed place h) [
        | inl z ↦ inl z
        | inr r ↦ inr (r.0, at_more ts notes t r.0 _ r.1, at_more ts notes t (r.0 + 1) place r.2)
      ])

  pub noted_again : Holds ts (set ahead j a) (j + 1) (notes ++ t ∷ [])
  noted_again =
      let long = length-append notes (t ∷ []) in
      record {
        distinct = k.distinct;
        placed = λ row h. elim (cases_lt row (length notes)) [
          | inl old ↦ let p = k.placed row old in (p.0, at_more ts notes t row p.0 p.1)
          | inr new ↦ (j, new_at row (omega arith))
        ];
        used = λ place h. let u = k.used place h in (u.0, at_more ts notes t u.0 place u.1);
        older = λ row place low at le. elim (cases_lt row (length notes)) [
          | inl old ↦ let o = k.older row place low (at_before ts notes t row place old at) le in (o.0, o.1, at_more ts notes t o.0 low o.2)
          | inr new ↦
              let within = at.held in
              let u = k.used low (omega arith) in
              let past = u.1.noted in
              (u.0, omega arith, at_more ts notes t u.0 low u.1)
        ];
        reached = λ row low high up down. elim (cases_lt (row + 1) (length notes)) [
          | inl old ↦
              let r = k.reached row low high (at_before ts notes t row high (omega arith) up) (at_before ts notes t (row + 1) low old down) in
              let m = higher low down.held in
              omega arith
          | inr new ↦
              let n = down.noted in
              let end : row + 1 ≡ length notes = omega arith in
              let s : low ≡ j = at_place (row + 1) low end down in
              let l : above ≡ high + 1 = k.last row high end (at_before ts notes t row high (omega arith) up) in
              let e : get_or (set ahead j a) j 0 ≡ a = get_or-set_same ahead j a 0 (omega arith) in
              rw s (omega arith)
        ];
        needed = λ place h. elim (cases_lt place j) [
          | inl below ↦ needed_other place h (λ z. omega arith)
          | inr up ↦ elim (cases_lt j place) [
            | inl over ↦ needed_other place h (λ z. omega arith)
            | inr down ↦ let s : place ≡ j = omega arith in rw s needed_here
          ]
        ];
        last = λ row place e at. let s : place ≡ j = at_place row place (omega arith) at in omega arith;
        none = λ z. absurd (omega arith);
      }

-- a tablet's first row
module _ (ts ahead : List ℕ) (above t : ℕ) (notes : List ℕ) (k : Holds ts ahead above notes) (paired : length ahead ≡ length ts) (fresh : (i : ℕ) → i < length ts → get_or ts i 0 ≢ t) where
  grown : (row place : ℕ) → IsAt ts notes row place → IsAt (ts ++ t ∷ []) (notes ++ t ∷ []) row place
  grown row place at = record {
    noted = (let h = at.noted in let long = length-append notes (t ∷ []) in omega arith);
    held = (let h = at.held in let long = length-append ts (t ∷ []) in omega arith);
    same = get_or-append notes (t ∷ []) 0 row at.noted ∙ at.same ∙ sym (get_or-append ts (t ∷ []) 0 place at.held);
  }

  first_at : (row place : ℕ) → row ≡ length notes → place ≡ length ts → IsAt (ts ++ t ∷ []) (notes ++ t ∷ []) row place
  first_at row place e f = record {
    noted = (let long = length-append notes (t ∷ []) in omega arith);
    held = (let long = length-append ts (t ∷ []) in omega arith);
    same = new_row notes t row e ∙ sym (new_row ts t place f);
  }

  differ : (i j : ℕ) → i < j → j < length (ts ++ t ∷ []) → get_or (ts ++ t ∷ []) i 0 ≢ get_or (ts ++ t ∷ []) j 0
  differ i j h w e =
      let long = length-append ts (t ∷ []) in
      elim (cases_lt j (length ts)) [
        | inl old ↦ k.distinct i j h old (sym (get_or-append ts (t ∷ []) 0 i (omega arith)) ∙ e ∙ get_or-append ts (t ∷ []) 0 j old)
        | inr new ↦ fresh i (omega arith) (sym (get_or-append ts (t ∷ []) 0 i (omega arith)) ∙ e ∙ new_row ts t j (omega arith))
      ]

  -- an old row's tablet stands among the old ones
  shrunk : (row place : ℕ) → row < length notes → IsAt (ts ++ t ∷ []) (notes ++ t ∷ []) row place → IsAt ts notes row place
  shrunk row place h at =
      let p = k.placed row h in
      let g = grown row p.0 p.1 in
      let s : place ≡ p.0 = same_place (ts ++ t ∷ []) place p.0 differ at.held g.held (sym at.same ∙ g.same) in
      rw s p.1

  at_end : (row place : ℕ) → row ≡ length notes → IsAt (ts ++ t ∷ []) (notes ++ t ∷ []) row place → place ≡ length ts
  at_end row place e at =
      let f = first_at row (length ts) e refl in
      same_place (ts ++ t ∷ []) place (length ts) differ at.held f.held (sym at.same ∙ f.same)

  pub noted_first : Holds (ts ++ t ∷ []) (ahead ++ 0 ∷ []) (length ts + 1) (notes ++ t ∷ [])
  noted_first =
      let long = length-append notes (t ∷ []) in
      let wide = length-append ts (t ∷ []) in
      record {
        distinct = differ;
        placed = λ row h. elim (cases_lt row (length notes)) [
          | inl old ↦ let p = k.placed row old in (p.0, grown row p.0 p.1)
          | inr new ↦ (length ts, first_at row (length ts) (omega arith) refl)
        ];
        used = λ place h. elim (cases_lt place (length ts)) [
          | inl old ↦ let u = k.used place old in (u.0, grown u.0 place u.1)
          | inr new ↦ (length notes, first_at (length notes) place refl (omega arith))
        ];
        older = λ row place low at le. elim (cases_lt row (length notes)) [
          | inl old ↦ let o = k.older row place low (shrunk row place old at) le in (o.0, o.1, grown o.0 low o.2)
          | inr new ↦ elim (cases_lt low (length ts)) [
            | inl under ↦ let u = k.used low under in let past = u.1.noted in (u.0, omega arith, grown u.0 low u.1)
            | inr over ↦ let h = at.held in (length notes, new, first_at (length notes) low refl (omega arith))
          ]
        ];
        reached = λ row low high up down. elim (cases_lt (row + 1) (length notes)) [
          | inl old ↦
              let was = shrunk (row + 1) low old down in
              let r = k.reached row low high (shrunk row high (omega arith) up) was in
              let w = was.held in
              let e : get_or (ahead ++ 0 ∷ []) low 0 ≡ get_or ahead low 0 = get_or-append ahead (0 ∷ []) 0 low (omega arith) in
              omega arith
          | inr new ↦
              let n = down.noted in
              let s : low ≡ length ts = at_end (row + 1) low (omega arith) down in
              let h = (shrunk row high (omega arith) up).held in
              omega arith
        ];
        needed = λ place h. elim (cases_lt place (length ts)) [
          | inl old ↦
              let e : get_or (ahead ++ 0 ∷ []) place 0 ≡ get_or ahead place 0 = get_or-append ahead (0 ∷ []) 0 place (omega arith) in
              rw e (elim (k.needed place old) [
                | inl z ↦ inl z
                | inr r ↦ inr (r.0, grown r.0 _ r.1, grown (r.0 + 1) place r.2)
              ])
          | inr new ↦ inl (new_row ahead 0 place (omega arith))
        ];
        last = λ row place e at. let s : place ≡ length ts = at_end row place (omega arith) at in omega arith;
        none = λ z. absurd (omega arith);
      }

-- the tablets of a closed set gone
module _ (ts ahead : List ℕ) (above : ℕ) (notes gone : List ℕ) (k : Holds ts ahead above notes) (closed : IsClosed notes gone) where
  n : ℕ
  n = prefix_len (has gone) ts

  c : ℕ
  c = prefix_len (has gone) notes

  row_stays : (row : ℕ) → c ≤ row → row < length notes → has gone (get_or notes row 0) ≡ false
  unfolding n c
  row_stays row h w = false_from_ne_true (has gone (get_or notes row 0)) (λ e.
      true≢false (sym (closed.closed row c w e (omega arith)) ∙ prefix_len_stops (has gone) notes 0 (omega arith)))

  place_stays : (place : ℕ) → n ≤ place → place < length ts → has gone (get_or ts place 0) ≡ false
  unfolding n c
  place_stays place h w = false_from_ne_true (has gone (get_or ts place 0)) (λ e.
      let u = k.used place w in
      let o = k.older u.0 place n u.1 h in
      true≢false (sym (ap (has gone) (sym o.2.same) ∙ closed.closed u.0 o.0 u.1.noted (ap (has gone) u.1.same ∙ e) (let b = o.1 in omega arith)) ∙ prefix_len_stops (has gone) ts 0 (omega arith)))

  -- a row that stays went to a tablet that stays
  place_after : (row place : ℕ) → c ≤ row → IsAt ts notes row place → n ≤ place
  unfolding n c
  place_after row place h at = elim (cases_lt place n) [
    | inl low ↦ absurd (true≢false (sym (ap (has gone) at.same ∙ prefix_len_passes (has gone) ts place 0 low) ∙ row_stays row h at.noted))
    | inr up ↦ up
  ]

  row_after : (row place : ℕ) → n ≤ place → IsAt ts notes row place → c ≤ row
  unfolding n c
  row_after row place h at = elim (cases_lt row c) [
    | inl low ↦ absurd (true≢false (sym (ap (has gone) (sym at.same) ∙ prefix_len_passes (has gone) notes row 0 low) ∙ place_stays place h at.held))
    | inr up ↦ up
  ]

  at_left : (row place i j : ℕ) → row ≡ c + i → place ≡ n + j → IsAt ts notes row place → IsAt (drop n ts) (drop c notes) i j
  at_left row place i j e f at = record {
    noted = (let h = at.noted in let long = length-drop c notes in omega arith);
    held = (let h = at.held in let long = length-drop n ts in omega arith);
    same = get_or-drop c notes i 0 ∙ ap (λ r. get_or notes r 0) (sym e) ∙ at.same ∙ ap (λ r. get_or ts r 0) f ∙ sym (get_or-drop n ts j 0);
  }

  at_right : (i j : ℕ) → IsAt (drop n ts) (drop c notes) i j → IsAt ts notes (c + i) (n + j)
  at_right i j at = record {
    noted = (let h = at.noted in let long = length-drop c notes in omega arith);
    held = (let h = at.held in let long = length-drop n ts in omega arith);
    same = sym (get_or-drop c notes i 0) ∙ at.same ∙ get_or-drop n ts j 0;
  }

  none_left : length (drop c notes) ≡ 0 → above - n ≡ 0
  unfolding n c
  none_left z =
      let long = length-drop c notes in
      elim (cases_lt 0 (length notes)) [
        | inl some ↦
            let row = length notes - 1 in
            let p = k.placed row (omega arith) in
            let l = k.last row p.0 (omega arith) p.1 in
            elim (cases_lt p.0 n) [
              | inl low ↦ omega arith
              | inr up ↦ let r = row_after row p.0 up p.1 in absurd (omega arith)
            ]
        | inr none ↦ let l = k.none (omega arith) in omega arith
      ]

  stays : Holds (drop n ts) (drop n ahead) (above - n) (drop c notes)
  stays =
      let long = length-drop c notes in
      let wide = length-drop n ts in
      record {
        distinct = λ i j h w e. k.distinct (n + i) (n + j) (omega arith) (omega arith) (sym (get_or-drop n ts i 0) ∙ e ∙ get_or-drop n ts j 0);
        placed = λ row h.
            let p = k.placed (c + row) (omega arith) in
            let up = place_after (c + row) p.0 (omega arith) p.1 in
            (p.0 - n, at_left (c + row) p.0 row (p.0 - n) refl (omega arith) p.1);
        used = λ place h.
            let u = k.used (n + place) (omega arith) in
            let up = row_after u.0 (n + place) (omega arith) u.1 in
            (u.0 - c, at_left u.0 (n + place) (u.0 - c) place (omega arith) refl u.1);
        older = λ row place low at le.
            let o = k.older (c + row) (n + place) (n + low) (at_right row place at) (omega arith) in
            let up = row_after o.0 (n + low) (omega arith) o.2 in
            let b = o.1 in
            (o.0 - c, omega arith, at_left o.0 (n + low) (o.0 - c) low (omega arith) refl o.2);
        reached = λ row low high up down.
            let s : c + (row + 1) ≡ (c + row) + 1 = omega arith in
            let r = k.reached (c + row) (n + low) (n + high) (at_right row high up) (rw s at (at_right (row + 1) low down)) in
            let e : get_or (drop n ahead) low 0 ≡ get_or ahead (n + low) 0 = get_or-drop n ahead low 0 in
            omega arith;
        needed = λ place h.
            let e : get_or (drop n ahead) place 0 ≡ get_or ahead (n + place) 0 = get_or-drop n ahead place 0 in
            rw e (elim (k.needed (n + place) (omega arith)) [
              | inl z ↦ inl z
              | inr r ↦
                  let up = row_after r.0 _ (omega arith) r.1 in
                  inr (r.0 - c, at_left r.0 _ (r.0 - c) (place + get_or ahead (n + place) 0) (omega arith) (omega arith) r.1, at_left (r.0 + 1) (n + place) (r.0 - c + 1) place (omega arith) refl r.2)
            ]);
        last = λ row place e at. let l = k.last (c + row) (n + place) (omega arith) (at_right row place at) in omega arith;
        none = none_left;
      }

  pub left : Holds (drop (prefix_len (has gone) ts) ts) (drop (prefix_len (has gone) ts) ahead) (above - prefix_len (has gone) ts) (filter (λ t. not (has gone t)) notes)
  unfolding n c
  left = rw (filter_end (has gone) notes (λ row h w. row_stays row h w)) stays
