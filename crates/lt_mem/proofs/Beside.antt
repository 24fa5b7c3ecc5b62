-- Leads beside their records, as records come and go.
use Rattle.std.proofs.Common.{◌≡◌, ℕ, zero, suc, ◌+◌, ◌-◌, ◌≤◌, List, [], ◌∷◌, length, take, drop, get_or, insert, remove, refl, sym, ap, ◌∙◌, inl, inr, arith}
use Rattle.std.proofs.lemmas.List.{get_or-take, get_or-drop, length-take, length-drop}
use Rattle.std.proofs.lemmas.List.Edits.{get_or-insert_at, get_or-insert_below, get_or-insert_above, length-insert}
use Rattle.std.proofs.lemmas.Bool.{cases_lt}
use Rattle.lt_rec.specs.Record.{Record}
use Rattle.lt_mem.specs.Lead.{IsLead, AreLeads}

-- a lead at each place of two lists
abbrev HasLead : List Record → List ℕ → ℕ → Record → Type 0
HasLead rs ls k d = IsLead (get_or rs k d).key (get_or ls k 0)

moved : (rs ss : List Record) (ls ms : List ℕ) (k j : ℕ) (d : Record) → get_or ss k d ≡ get_or rs j d → get_or ms k 0 ≡ get_or ls j 0 → HasLead rs ls j d → HasLead ss ms k d
moved rs ss ls ms k j d r l was = rw (r, l) was

pub leads_put : (rs : List Record) (ls : List ℕ) (n : ℕ) (r : Record) (l : ℕ) → n ≤ length rs → AreLeads rs ls → IsLead r.key l → AreLeads (insert rs n r) (insert ls n l)
leads_put rs ls n r l within was here =
    let long : n ≤ length ls = omega (arith, was.count) in
    let more = length-insert rs n r within in
    record {
      count = length-insert ls n l long ∙ ap (λ k. k + 1) was.count ∙ sym more;
      each = λ k d w. elim (cases_lt k n) [
        | inl low ↦ moved rs (insert rs n r) ls (insert ls n l) k k d (get_or-insert_below rs n r d k low within) (get_or-insert_below ls n l 0 k low long) (was.each k d (omega arith))
        | inr up ↦ elim (cases_lt n k) [
          | inl high ↦
              let s : k ≡ (k - 1) + 1 = omega arith in
              moved rs (insert rs n r) ls (insert ls n l) k (k - 1) d
              (ap (λ j. get_or (insert rs n r) j d) s ∙ get_or-insert_above rs n r d (k - 1) (omega arith) within)
              (ap (λ j. get_or (insert ls n l) j 0) s ∙ get_or-insert_above ls n l 0 (k - 1) (omega arith) long)
              (was.each (k - 1) d (omega arith))
          | inr same ↦
              let s : k ≡ n = omega arith in
              rw (s, get_or-insert_at rs n r d within, get_or-insert_at ls n l 0 long) here
        ]
      ];
    }

pub leads_one : (r : Record) (l : ℕ) → IsLead r.key l → AreLeads (r ∷ []) (l ∷ [])
leads_one r l here = record {
  count = refl;
  each = λ k d w. let s : k ≡ 0 = omega arith in rw s here;
}

pub leads_take : (rs : List Record) (ls : List ℕ) (n : ℕ) → AreLeads rs ls → AreLeads (take n rs) (take n ls)
leads_take rs ls n was =
    let a = length-take n rs in
    let b = length-take n ls in
    record {
      count = omega (arith, was.count, a, b);
      each = λ k d w. moved rs (take n rs) ls (take n ls) k k d (get_or-take n rs k d (omega (arith, a))) (get_or-take n ls k 0 (omega (arith, a))) (was.each k d (omega (arith, a)));
    }

pub leads_drop : (rs : List Record) (ls : List ℕ) (n : ℕ) → AreLeads rs ls → AreLeads (drop n rs) (drop n ls)
leads_drop rs ls n was =
    let a = length-drop n rs in
    let b = length-drop n ls in
    record {
      count = omega (arith, was.count, a, b);
      each = λ k d w. moved rs (drop n rs) ls (drop n ls) k (n + k) d (get_or-drop n rs k d) (get_or-drop n ls k 0) (was.each (n + k) d (omega (arith, a)));
    }

-- what is put and taken away again
pub put_back : {X : Type 0} (xs : List X) (n : ℕ) (x : X) → n ≤ length xs → remove (insert xs n x) n ≡ xs
put_back [] zero x within = refl
put_back [] (suc n) x within = absurd (omega arith)
put_back (y ∷ ys) zero x within = refl
put_back (y ∷ ys) (suc n) x within = ap (λ zs. y ∷ zs) (put_back ys n x (omega arith))
