-- What was read so far, in either direction.
use Rattle.std.proofs.Common.{◌≡◌, ℕ, ◌+◌, ◌-◌, ◌<◌, Bool, true, false, List, [], ◌∷◌, ◌++◌, length, take, drop, reverse, get_or, refl, sym, ap, ◌∙◌, arith, append-nil}
use Rattle.std.proofs.lemmas.List.{drop_more, take_more, take_all, drop_all, reverse-append, take-append-drop}
use Rattle.lt_rec.specs.Record.{Record}
use Rattle.lt_rec.specs.Records.{joined}
use Rattle.lt_mem.specs.Rising.{in_order}
use Rattle.lt_mem.proofs.Joined.{joined-append}

-- the place that is read in this step
abbrev pub place_at : Bool → ℕ → ℕ → ℕ
place_at true count step = count - 1 - step
place_at false count step = step

-- the first elements in the order of reading, in the order of the list
abbrev pub so_far : {X : Type 0} → Bool → List X → ℕ → List X
so_far true xs step = drop (length xs - step) xs
so_far false xs step = take step xs

pub read_all : {X : Type 0} (down : Bool) (xs : List X) (n : ℕ) → n ≡ length xs → so_far down xs n ≡ xs
read_all true xs n e = let z : length xs - n ≡ 0 = omega arith in ap (λ k. drop k xs) z
read_all false xs n e = take_all n xs (omega arith)

-- one piece more
pub join_more : (down : Bool) (ps : List (List Record)) (step : ℕ) (d : List Record) → step < length ps → in_order down (joined (so_far down ps (step + 1))) ≡ in_order down (joined (so_far down ps step)) ++ in_order down (get_or ps (place_at down (length ps) step) d)
join_more true ps step d h =
    let at = length ps - 1 - step in
    let e : length ps - (step + 1) ≡ at = omega arith in
    let f : at + 1 ≡ length ps - step = omega arith in
    ap (λ k. reverse (joined (drop k ps))) e ∙ ap (λ qs. reverse (joined qs)) (drop_more ps at d (omega arith) ∙ ap (λ k. get_or ps at d ∷ drop k ps) f) ∙ reverse-append (get_or ps at d) (joined (drop (length ps - step) ps))
join_more false ps step d h = ap joined (take_more ps step d h) ∙ joined-append (take step ps) (get_or ps step d ∷ []) ∙ ap (λ xs. joined (take step ps) ++ xs) (append-nil (get_or ps step d))

pub join_none : (down : Bool) (ps : List (List Record)) → in_order down (joined (so_far down ps 0)) ≡ []
join_none true ps = ap (λ qs. reverse (joined qs)) (drop_all (length ps - 0) ps (omega arith))
join_none false ps = refl

pub place_within : (down : Bool) (count step : ℕ) → step < count → place_at down count step < count
place_within true count step h = omega arith
place_within false count step h = omega arith

-- what is left to be read
pub read_rest : (down : Bool) (ps : List (List Record)) (step : ℕ) → (rest : List Record) × (in_order down (joined ps) ≡ in_order down (joined (so_far down ps step)) ++ rest)
read_rest true ps step =
    let n = length ps - step in
    (reverse (joined (take n ps)), ap (λ qs. reverse (joined qs)) (sym (take-append-drop n ps)) ∙ ap reverse (joined-append (take n ps) (drop n ps)) ∙ reverse-append (joined (take n ps)) (joined (drop n ps)))
read_rest false ps step = (joined (drop step ps), ap joined (sym (take-append-drop step ps)) ∙ joined-append (take step ps) (drop step ps))
