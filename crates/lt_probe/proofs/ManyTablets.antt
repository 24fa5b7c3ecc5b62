-- The latest record of tablets, one after the other.
use Rattle.std.proofs.Common.{◌≡◌, ℕ, ◌+◌, ◌<◌, ◌≤◌, ◌&&◌, Bool, true, false, not, cond, List, [], ◌∷◌, ◌++◌, length, take, map, get_or, refl, sym, ap, ◌∙◌, arith, inl, inr}
use Rattle.std.specs.Prelude.{Option, Some, None, IfSome, min, slice_get}
use Rattle.std.specs.List.{All, Any, sum_by}
use Rattle.std.specs.Option.{option_map}
use Rattle.std.proofs.lemmas.Bool.{ltb-true, lt-ltb}
use Rattle.std.proofs.lemmas.List.{take_more, map_push}
use Rattle.std.proofs.lemmas.List.Sums.{sum_by_more, sum_by-take-le}
use Rattle.std.proofs.lemmas.Option.{slice_get_read, slice_get-map}
use Rattle.lt_rec.specs.Record.{Record}
use Rattle.lt_rec.specs.Records.{joined}
use Rattle.lt_tablet.specs.Loaded.{Loaded, records_in}
use Rattle.lt_probe.specs.Asked.{Question, admits_question}
use Rattle.lt_probe.specs.Counting.{blocks_asked, blocks_with_room, is_behind}
use Rattle.lt_probe.specs.Latest.{IsCovered, records_of}
use Rattle.lt_probe.proofs.Blocks.{all_part, any_joined}
use Rattle.lt_probe.proofs.Range.{joined_push}

module _ (ts : List Loaded) (i : ℕ) (t : Loaded) (within : i < length ts) (here : get_or ts i t ≡ t) where
  pub records_more : records_of (take (i + 1) ts) ≡ records_of (take i ts) ++ records_in t
  records_more =
      ap records_of (take_more ts i t within ∙ ap (λ (u : Loaded). take i ts ++ u ∷ []) here)
      ∙ ap joined (map_push records_in (take i ts) t)
      ∙ joined_push (map records_in (take i ts)) (records_in t)

  there : slice_get ts i ≡ Some t
  there = slice_get_read ts (length ts) i t refl within (sym here)

  pub all_in : (P : Record → Type 0) → All P (records_of ts) → All P (records_in t)
  all_in P all = all_part P (map records_in ts) i (records_in t) (slice_get-map records_in ts i ∙ ap (option_map records_in) there) all

  pub any_in : (P : Record → Type 0) → Any P (records_in t) → Any P (records_of ts)
  any_in P any = any_joined P (map records_in ts) i (records_in t) (slice_get-map records_in ts i ∙ ap (option_map records_in) there) any

  module _ (f : Loaded → ℕ) (begin before after : ℕ) where
    pub sum_more : before ≤ begin + sum_by f (take i ts) → after ≤ before + f t → after ≤ begin + sum_by f (take (i + 1) ts)
    sum_more h k = omega (arith, h, k, sum_by_more f ts i t within, ap f here)

    pub sum_all : before ≤ begin + sum_by f (take i ts) → after ≤ before + f t → after ≤ begin + sum_by f ts
    sum_all h k = omega (arith, sum_more h k, sum_by-take-le f ts (i + 1))

-- ---- the later the best one is, the fewer blocks are asked for

by_tests : (b c admitted : Bool) (n : ℕ) → (b ≡ true → c ≡ true) → cond (not c && admitted) n 0 ≤ cond (not b && admitted) n 0
by_tests true true admitted n h = omega arith
by_tests true false admitted n h = let clash : false ≡ true = h refl in absurd cc
by_tests false true admitted n h = omega arith
by_tests false false admitted n h = omega arith

behind_more : (t : Loaded) (best found : Option Record) → IfSome best (IsCovered found) → is_behind t best ≡ true → is_behind t found ≡ true
behind_more t None found h k = absurd cc
behind_more t (Some b) None h k = absurd h
behind_more t (Some b) (Some f) h k =
    let low = ltb-true t.listed.high b.ts k in
    let up : b.ts ≤ f.ts = elim h [ inl less ↦ omega (arith, less) | inr tie ↦ omega (arith, tie.0) ] in
    lt-ltb t.listed.high f.ts (omega (arith, low, up))

pub fewer : (q : Question) (t : Loaded) (best found : Option Record) → IfSome best (IsCovered found) → blocks_asked q found t ≤ blocks_asked q best t
fewer q t best found h =
    by_tests (is_behind t best) (is_behind t found) (admits_question q t.filter)
    (cond q.whole (min 1 (blocks_with_room q t)) (blocks_with_room q t)) (behind_more t best found h)
