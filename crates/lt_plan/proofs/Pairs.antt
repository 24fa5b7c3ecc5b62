-- Neighbours at a place of the list.
use Rattle.std.proofs.Common.{◌≡◌, ℕ, zero, suc, ◌+◌, ◌<◌, ◌≤◌, List, [], ◌∷◌, length, drop, get_or, sym, ap, ◌∙◌, zero-add, arith}
use Rattle.std.proofs.lemmas.List.{drop_more, length-drop}
use Rattle.lt_plan.specs.declared.tablets.Weigh.{Weigh}
use Rattle.lt_rec.specs.Periods.{Stretch}
use Rattle.lt_period.specs.Moments.{period_at}
use Rattle.lt_plan.specs.Merging.{BeginsARun, MayBegin, IsAtHome, IsLongest, bytes_of}
use Rattle.std.proofs.lemmas.List.Sums.{sum_by-append}

pair_at : (list : List Weigh) (i j : ℕ) (a b : Weigh) → j ≡ i + 1 → j < length list → a ≡ get_or list i a → b ≡ get_or list j b → drop i list ≡ a ∷ (b ∷ drop (j + 1) list)
pair_at list i j a b e h p q =
    drop_more list i a (omega arith) ∙ (λ k. sym p k ∷ drop (sym e k) list)
    ∙ ap (λ ws. a ∷ ws) (drop_more list j b h ∙ ap (λ w. w ∷ drop (j + 1) list) (sym q))

pub begins_at : (now : ℕ) (list : List Weigh) (i j : ℕ) (a b : Weigh) → j ≡ i + 1 → j < length list → a ≡ get_or list i a → b ≡ get_or list j b → MayBegin now a b → BeginsARun now (drop i list)
begins_at now list i j a b e h p q m = rw (pair_at list i j a b e h p q) m

pub begins_with_pair : (now : ℕ) (list : List Weigh) (i j : ℕ) (a b : Weigh) → j ≡ i + 1 → j < length list → a ≡ get_or list i a → b ≡ get_or list j b → BeginsARun now (drop i list) → MayBegin now a b
begins_with_pair now list i j a b e h p q m = rw (pair_at list i j a b e h p q) at m

too_short : (now : ℕ) (ws : List Weigh) → length ws ≤ 1 → ¬ BeginsARun now ws
too_short now [] h m = m
too_short now (a ∷ []) h m = m
too_short now (a ∷ (b ∷ ws)) h m = absurd (omega arith)

pub past_pairs : (now : ℕ) (list : List Weigh) (i : ℕ) → length list ≤ i + 1 → ¬ BeginsARun now (drop i list)
past_pairs now list i h = let rest = length-drop i list in too_short now (drop i list) (omega arith)

-- a run has its first two tablets
pub more_than_one : (now : ℕ) (home : Stretch) (ws : List Weigh) (count : ℕ) (d : Weigh) → BeginsARun now ws → home ≡ period_at (get_or ws 0 d).low now → IsLongest now home ws count → 2 ≤ count
more_than_one now home [] count d m e l = absurd m
more_than_one now home (a ∷ []) count d m e l = absurd m
more_than_one now home (a ∷ (b ∷ ws)) zero d m e l = absurd (l.ended (at_home m.home (e ∙ m.first_at_home.low) a m.first_at_home, (let w = m.within in omega arith)))
  where
    at_home : (other : Stretch) → home ≡ other → (w : Weigh) → IsAtHome now other w → IsAtHome now home w
    at_home other f w h = rw f h
more_than_one now home (a ∷ (b ∷ ws)) (suc zero) d m e l = absurd (l.ended (at_home m.home (e ∙ m.first_at_home.low) b m.second_at_home, (let w = m.within in omega arith)))
  where
    at_home : (other : Stretch) → home ≡ other → (w : Weigh) → IsAtHome now other w → IsAtHome now home w
    at_home other f w h = rw f h
more_than_one now home (a ∷ (b ∷ ws)) (suc (suc count)) d m e l = omega arith

pub bytes_of-cons : (w : Weigh) (ws : List Weigh) → bytes_of (w ∷ ws) ≡ w.bytes + bytes_of ws
bytes_of-cons w ws = sum_by-append (λ (v : Weigh). v.bytes) (w ∷ []) ws ∙ ap (λ k. k + bytes_of ws) (zero-add w.bytes)
