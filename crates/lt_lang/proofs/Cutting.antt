-- Lines end where the first LF stands.
use Rattle.std.proofs.Common.{◌≡◌, ℕ, zero, suc, pred, ◌<◌, Bool, true, false, ◌&&◌, List, [], ◌∷◌, length, get_or, take, drop, refl, sym, ◌∙◌, ap, arith}
use Rattle.std.proofs.Math.Bool.{and-true}
use Rattle.std.specs.Prelude.{nat_eq, if◌then◌else◌}
use Rattle.std.specs.Cmp.Lexicographic.{pointwise}
use Rattle.lt_lang.specs.Lines.{cut_lines, without_cr, onto_first}

pub not_true : (t : Bool) → (t ≡ true → ⊥) → t ≡ false
not_true true never = absurd (never refl)
not_true false never = refl

-- the last byte is a CR
abbrev pub ends_with_cr : List ℕ → Bool
ends_with_cr line = pointwise nat_eq (drop (pred (length line)) line) (13 ∷ [])

pub without_cr-yes : (line : List ℕ) → ends_with_cr line ≡ true → take (pred (length line)) line ≡ without_cr line
without_cr-yes [] e = refl
without_cr-yes (b ∷ []) e = let h : nat_eq b 13 ≡ true = sym (and-true (nat_eq b 13)) ∙ e in rw h refl
without_cr-yes (b ∷ c ∷ bs) e = ap (λ l. b ∷ l) (without_cr-yes (c ∷ bs) e)

pub without_cr-no : (line : List ℕ) → ends_with_cr line ≡ false → line ≡ without_cr line
without_cr-no [] e = refl
without_cr-no (b ∷ []) e = let h : nat_eq b 13 ≡ false = sym (and-true (nat_eq b 13)) ∙ e in rw h refl
without_cr-no (b ∷ c ∷ bs) e = ap (λ l. b ∷ l) (without_cr-no (c ∷ bs) e)

-- behind a byte that is no LF, the CR of an LF is left out with it
ends : (t : Bool) (b : ℕ) (lines : List (List ℕ)) → (if t && true then [] ∷ lines else onto_first b ([] ∷ lines)) ≡ (if t then [] else b ∷ []) ∷ lines
ends true b lines = refl
ends false b lines = refl

goes_on : (cr lf next_lf : Bool) (b : ℕ) (cut : List (List ℕ)) → lf ≡ false → next_lf ≡ false
    → (if lf then [] ∷ cut else (if cr && next_lf then cut else onto_first b cut)) ≡ onto_first b cut
goes_on true lf next_lf b cut e f = rw (e, f) refl
goes_on false lf next_lf b cut e f = rw e refl

cut_lines-more : (b c : ℕ) (cs line : List ℕ) (lines : List (List ℕ)) → nat_eq b 10 ≡ false → nat_eq c 10 ≡ false
    → cut_lines (c ∷ cs) ≡ line ∷ lines → cut_lines (b ∷ c ∷ cs) ≡ (b ∷ line) ∷ lines
cut_lines-more b c cs line lines e f cut = goes_on (nat_eq b 13) (nat_eq b 10) (nat_eq c 10) b (cut_lines (c ∷ cs)) e f ∙ ap (onto_first b) cut

-- the first line ends at the first LF
pub cut_at : (bs : List ℕ) (at : ℕ) → at < length bs → ((k : ℕ) → k < at → nat_eq (get_or bs k 0) 10 ≡ false) → nat_eq (get_or bs at 0) 10 ≡ true
    → cut_lines bs ≡ without_cr (take at bs) ∷ cut_lines (drop (suc at) bs)
cut_at [] at h none here = absurd (omega arith)
cut_at (b ∷ bs) zero h none here = rw here refl
cut_at (b ∷ []) (suc at) h none here = absurd (omega arith)
cut_at (b ∷ c ∷ cs) (suc zero) h none here =
    let e : nat_eq b 10 ≡ false = none 0 (omega arith) in
    let f : nat_eq c 10 ≡ true = here in
    rw (e, f) (ends (nat_eq b 13) b (cut_lines cs))
cut_at (b ∷ c ∷ cs) (suc (suc at)) h none here =
    let front = cut_at (c ∷ cs) (suc at) (omega arith) (λ k l. none (suc k) (omega arith)) here in
    cut_lines-more b c cs (without_cr (take (suc at) (c ∷ cs))) (cut_lines (drop (suc at) cs)) (none 0 (omega arith)) (none 1 (omega arith)) front

alone : (t : Bool) (b : ℕ) → (if t && false then [] else onto_first b []) ≡ (b ∷ []) ∷ []
alone true b = refl
alone false b = refl

-- where no LF stands, all is one line
pub cut_none : (b : ℕ) (bs : List ℕ) → ((k : ℕ) → k < length (b ∷ bs) → nat_eq (get_or (b ∷ bs) k 0) 10 ≡ false) → cut_lines (b ∷ bs) ≡ (b ∷ bs) ∷ []
cut_none b [] none =
    let e : nat_eq b 10 ≡ false = none 0 (omega arith) in
    rw e (alone (nat_eq b 13) b)
cut_none b (c ∷ cs) none = cut_lines-more b c cs (c ∷ cs) [] (none 0 (omega arith)) (none 1 (omega arith)) (cut_none c cs (λ k h. none (suc k) (omega arith)))

pub cut_all : (bs : List ℕ) → nat_eq (length bs) 0 ≡ false → ((k : ℕ) → k < length bs → nat_eq (get_or bs k 0) 10 ≡ false) → cut_lines bs ≡ bs ∷ []
cut_all [] some none = cc
cut_all (b ∷ bs) some none = cut_none b bs none
