-- Of lists whose entries have numbers, and of beginnings.
use Rattle.std.proofs.Common.{◌≡◌, ◌≢◌, ℕ, suc, ◌+◌, ◌≤◌, Bool, true, false, ◌||◌, true≢false, List, [], ◌∷◌, ◌++◌, length, refl, sym, ap, ◌∙◌, append_assoc, append-nil, arith, eqb, eq-eqb, ne_eqb, eqb-true, length-append}
use mathlib.Core.List.{IsPrefix}
use Rattle.lt_turn.specs.Lists.{entries, numbered, keep_if, of, count_unless, added, total, Every, Differ, numbers, has}

-- each list begins with itself
pub prefix_self : {A : Type 0} (xs : List A) → IsPrefix xs xs
prefix_self xs = ([], append-nil xs)

pub prefix_trans : {A : Type 0} (xs ys zs : List A) → IsPrefix xs ys → IsPrefix ys zs → IsPrefix xs zs
prefix_trans xs ys zs p q = (p.0 ++ q.0, sym (append_assoc xs p.0 q.0) ∙ (ap (λ w. w ++ q.0) p.1 ∙ q.1))

-- of two beginnings of one list the shorter begins the longer
pub prefix_shorter : {A : Type 0} (xs ys zs : List A) → IsPrefix xs zs → IsPrefix ys zs → length xs ≤ length ys → IsPrefix xs ys
prefix_shorter [] ys zs p q le = (ys, refl)
prefix_shorter (x ∷ xs) [] zs p q le = absurd (omega arith)
prefix_shorter (x ∷ xs) (y ∷ ys) [] p q le = absurd (cc (p.1))
prefix_shorter (x ∷ xs) (y ∷ ys) (z ∷ zs) p q le =
    let heads : x ≡ y = cc (p.1, q.1) in
    let rest = prefix_shorter xs ys zs (p.0, cc (p.1)) (q.0, cc (q.1)) (omega arith) in
    (rest.0, cc (heads, rest.1))

pub every_append : {A : Type 0} (P : A → Type 0) (xs ys : List A) → Every P xs → Every P ys → Every P (xs ++ ys)
every_append P [] ys h k = k
every_append P (x ∷ xs) ys h k = (h.0, every_append P xs ys h.1 k)

pub every_more : {A : Type 0} (P Q : A → Type 0) (xs : List A) → ((x : A) → P x → Q x) → Every P xs → Every Q xs
every_more P Q [] f h = tt
every_more P Q (x ∷ xs) f h = (f x h.0, every_more P Q xs f h.1)

pub every_both : {A : Type 0} (P Q R : A → Type 0) (xs : List A) → ((x : A) → P x → Q x → R x) → Every P xs → Every Q xs → Every R xs
every_both P Q R [] f h k = tt
every_both P Q R (x ∷ xs) f h k = (f x h.0 k.0, every_both P Q R xs f h.1 k.1)

count_add : (b : Bool) (m n : ℕ) → count_unless b (m + n) ≡ count_unless b m + n
count_add true m n = refl
count_add false m n = omega arith

pub has_none : (ns : List ℕ) (n : ℕ) → Every (λ m. m ≢ n) ns → has ns n ≡ false
has_none [] n h = refl
has_none (m ∷ ms) n h = ap (λ (b : Bool). b || has ms n) (ne_eqb n m (λ e. h.0 (sym e))) ∙ has_none ms n h.1

nobody_left : (b : Bool) (n : ℕ) → count_unless b n ≡ 0 → (b ≡ true) × (n ≡ 0)
nobody_left true n e = (refl, e)
nobody_left false n e = absurd (omega arith)

module _ {X : Type 0} where
  -- what holds of the seats' numbers, from what holds of the seats
  pub every_number : (P : ℕ → Type 0) (es : List (ℕ × List X)) → Every (λ e. P e.0) es → Every P (numbers es)
  every_number P [] h = tt
  every_number P (e ∷ es) h = (h.0, every_number P es h.1)

  pub number_every : (P : ℕ → Type 0) (es : List (ℕ × List X)) → Every P (numbers es) → Every (λ e. P e.0) es
  number_every P [] h = tt
  number_every P (e ∷ es) h = (h.0, number_every P es h.1)

  keep_append : (b : Bool) (x : X) (xs ys : List X) → keep_if b x xs ++ ys ≡ keep_if b x (xs ++ ys)
  keep_append true x xs ys = refl
  keep_append false x xs ys = refl

  pub of_append : (n : ℕ) (xs ys : List (ℕ × X)) → of n (xs ++ ys) ≡ of n xs ++ of n ys
  of_append n [] ys = refl
  of_append n (t ∷ ts) ys = ap (keep_if (eqb t.0 n) t.1) (of_append n ts ys) ∙ sym (keep_append (eqb t.0 n) t.1 (of n ts) (of n ys))

  pub of_numbered : (n : ℕ) (xs : List X) → of n (numbered n xs) ≡ xs
  of_numbered n [] = refl
  of_numbered n (x ∷ xs) = ap (λ (b : Bool). keep_if b x (of n (numbered n xs))) (eq-eqb n n refl) ∙ ap (λ (l : List X). x ∷ l) (of_numbered n xs)

  pub of_other : (n m : ℕ) (xs : List X) → m ≢ n → of n (numbered m xs) ≡ []
  of_other n m [] ne = refl
  of_other n m (x ∷ xs) ne = ap (λ (b : Bool). keep_if b x (of n (numbered m xs))) (ne_eqb m n ne) ∙ of_other n m xs ne

  -- a list with entries of another number behind it
  pub of_behind : (n m : ℕ) (xs : List (ℕ × X)) (ys : List X) → m ≢ n → of n (xs ++ numbered m ys) ≡ of n xs
  of_behind n m xs ys ne = of_append n xs (numbered m ys) ∙ (ap (λ (l : List X). of n xs ++ l) (of_other n m ys ne) ∙ append-nil (of n xs))

  pub of_own : (n : ℕ) (xs : List (ℕ × X)) (ys : List X) → of n (xs ++ numbered n ys) ≡ of n xs ++ ys
  of_own n xs ys = of_append n xs (numbered n ys) ∙ ap (λ (l : List X). of n xs ++ l) (of_numbered n ys)

  pub entries_numbered : (n : ℕ) (xs : List X) → entries (numbered n xs) ≡ xs
  entries_numbered n [] = refl
  entries_numbered n (x ∷ xs) = ap (λ (l : List X). x ∷ l) (entries_numbered n xs)

  pub entries_append : (xs ys : List (ℕ × X)) → entries (xs ++ ys) ≡ entries xs ++ entries ys
  entries_append [] ys = refl
  entries_append (t ∷ ts) ys = ap (λ (l : List X). t.1 ∷ l) (entries_append ts ys)

  pub entries_behind : (n : ℕ) (xs : List (ℕ × X)) (ys : List X) → entries (xs ++ numbered n ys) ≡ entries xs ++ ys
  entries_behind n xs ys = entries_append xs (numbered n ys) ∙ ap (λ (l : List X). entries xs ++ l) (entries_numbered n ys)

  pub length-entries : (xs : List (ℕ × X)) → length (entries xs) ≡ length xs
  length-entries [] = refl
  length-entries (t ∷ ts) = ap suc (length-entries ts)

  pub length-numbered : (n : ℕ) (xs : List X) → length (numbered n xs) ≡ length xs
  length-numbered n [] = refl
  length-numbered n (x ∷ xs) = ap suc (length-numbered n xs)

  pub added_append : (xs ys : List (ℕ × X)) → added (xs ++ ys) ≡ added xs + added ys
  added_append [] ys = omega arith
  added_append (t ∷ ts) ys = ap (count_unless (eqb t.0 0)) (added_append ts ys) ∙ count_add (eqb t.0 0) (added ts) (added ys)

  pub added_opening : (xs : List X) → added (numbered 0 xs) ≡ 0
  added_opening [] = refl
  added_opening (x ∷ xs) = added_opening xs

  pub added_numbered : (n : ℕ) (xs : List X) → added (numbered (suc n) xs) ≡ length xs
  added_numbered n [] = refl
  added_numbered n (x ∷ xs) = ap (λ (b : Bool). count_unless b (added (numbered (suc n) xs))) (ne_eqb (suc n) 0 (λ e. omega arith)) ∙ (let h = added_numbered n xs in omega arith)

  pub added_behind : (n : ℕ) (xs : List (ℕ × X)) (ys : List X) → added (xs ++ numbered (suc n) ys) ≡ added xs + length ys
  added_behind n xs ys = let a = added_append xs (numbered (suc n) ys) in let b = added_numbered n ys in omega arith

  -- how many entries have none of these numbers
  abbrev pub left : List ℕ → List (ℕ × X) → ℕ
  left ns [] = 0
  left ns (t ∷ ts) = count_unless (has ns t.0) (left ns ts)

  pub left_none : (list : List (ℕ × X)) → left [] list ≡ length list
  left_none [] = refl
  left_none (t ∷ ts) = let h = left_none ts in omega arith

  one_more : (b c : Bool) (x : X) (l r : ℕ) (rest : List X) → l + length rest ≡ r → (b ≡ true → c ≡ false) → count_unless (b || c) l + length (keep_if b x rest) ≡ count_unless c r
  one_more true true x l r rest e not_in = absurd (true≢false (not_in refl))
  one_more true false x l r rest e not_in = omega arith
  one_more false true x l r rest e not_in = e
  one_more false false x l r rest e not_in = omega arith

  pub left_more : (n : ℕ) (ns : List ℕ) (list : List (ℕ × X)) → has ns n ≡ false → left (n ∷ ns) list + length (of n list) ≡ left ns list
  left_more n ns [] not_in = omega arith
  left_more n ns (t ∷ ts) not_in =
      one_more (eqb t.0 n) (has ns t.0) t.1 (left (n ∷ ns) ts) (left ns ts) (of n ts) (left_more n ns ts not_in) (λ is. ap (has ns) (eqb-true t.0 n is) ∙ not_in)

  pub left_ended : (es : List (ℕ × List X)) (list : List (ℕ × X)) → Every (λ e. of e.0 list ≡ e.1) es → Differ (numbers es) → left (numbers es) list + total es ≡ length list
  left_ended [] list h d = let n = left_none list in omega arith
  left_ended (e ∷ es) list h d =
      let m = left_more e.0 (numbers es) list (has_none (numbers es) e.0 d.0) in
      let r = left_ended es list h.1 d.1 in
      let l : length (of e.0 list) ≡ length e.1 = ap length h.0 in
      omega arith

  count_opening : (b : Bool) (x : X) (n m : ℕ) (rest : List X) → n + length rest ≡ m → count_unless b n + length (keep_if b x rest) ≡ m + 1
  count_opening true x n m rest e = omega arith
  count_opening false x n m rest e = omega arith

  pub added_rest : (list : List (ℕ × X)) → added list + length (of 0 list) ≡ length list
  added_rest [] = omega arith
  added_rest (t ∷ ts) = let h = count_opening (eqb t.0 0) t.1 (added ts) (length ts) (of 0 ts) (added_rest ts) in omega arith

  pub none_left : (ns : List ℕ) (list : List (ℕ × X)) → left ns list ≡ 0 → Every (λ t. has ns t.0 ≡ true) list
  none_left ns [] e = tt
  none_left ns (t ∷ ts) e = let h = nobody_left (has ns t.0) (left ns ts) e in (h.0, none_left ns ts h.1)

  -- a seat and those that were joined into it added all that was added: no other number is left
  pub alone : (n : ℕ) (mine : List X) (es : List (ℕ × List X)) (list : List (ℕ × X)) → of n list ≡ mine → Every (λ e. of e.0 list ≡ e.1) es → Differ (0 ∷ n ∷ numbers es)
      → added list ≡ length mine + total es → Every (λ t. has (0 ∷ n ∷ numbers es) t.0 ≡ true) list
  alone n mine es list own ended apart sum =
      let a = left_more 0 (n ∷ numbers es) list (has_none (n ∷ numbers es) 0 apart.0) in
      let b = left_more n (numbers es) list (has_none (numbers es) n apart.1.0) in
      let c = left_ended es list ended apart.1.1 in
      let d = added_rest list in
      let l : length (of n list) ≡ length mine = ap length own in
      none_left (0 ∷ n ∷ numbers es) list (omega arith)

pub nil_left : {A : Type 0} (xs ys : List A) → xs ++ ys ≡ [] → xs ≡ []
nil_left [] ys e = refl
nil_left (x ∷ xs) ys e = absurd (cc e)

pub nil_right : {A : Type 0} (xs ys zs : List A) → (xs ++ ys) ++ zs ≡ xs → zs ≡ []
nil_right xs ys [] e = refl
nil_right xs ys (z ∷ zs) e = let a = length-append (xs ++ ys) (z ∷ zs) in let b = length-append xs ys in let c = ap length e in absurd (omega arith)

module _ {X : Type 0} where
  -- a list between two that have the same entries of a number has them too
  pub between : (n : ℕ) (a b c : List (ℕ × X)) → IsPrefix a b → IsPrefix b c → of n a ≡ of n c → of n b ≡ of n c
  between n a b c p q e =
      let first : of n b ≡ of n a ++ of n p.0 = ap (of n) (sym p.1) ∙ of_append n a p.0 in
      let second : of n c ≡ of n b ++ of n q.0 = ap (of n) (sym q.1) ∙ of_append n b q.0 in
      let all : (of n a ++ of n p.0) ++ of n q.0 ≡ of n a = ap (λ (l : List X). l ++ of n q.0) (sym first) ∙ (sym second ∙ sym e) in
      let none : of n q.0 ≡ [] = nil_right (of n a) (of n p.0) (of n q.0) all in
      sym (second ∙ (ap (λ (l : List X). of n b ++ l) none ∙ append-nil (of n b)))

  pub none_before : (n : ℕ) (xs ys : List (ℕ × X)) → IsPrefix xs ys → of n ys ≡ [] → of n xs ≡ []
  none_before n xs ys p e = nil_left (of n xs) (of n p.0) (sym (of_append n xs p.0) ∙ (ap (of n) p.1 ∙ e))

module _ (owner : ℕ → ℕ) (p q : ℕ) (ne : p ≢ q) where
  apart_all : (n : ℕ) (ys : List ℕ) → owner n ≡ p → Every (λ m. owner m ≡ q) ys → Every (λ m. m ≢ n) ys
  apart_all n [] h k = tt
  apart_all n (y ∷ ys) h k = ((λ e. ne (sym h ∙ (ap owner (sym e) ∙ k.0))), apart_all n ys h k.1)

  -- numbers that one accounts for differ from those of another
  pub differ_append : (xs ys : List ℕ) → Differ xs → Differ ys → Every (λ m. owner m ≡ p) xs → Every (λ m. owner m ≡ q) ys → Differ (xs ++ ys)
  differ_append [] ys d e h k = e
  differ_append (x ∷ xs) ys d e h k = (every_append (λ m. m ≢ x) xs ys d.0 (apart_all x ys h.0 k), differ_append xs ys d.1 e h.1 k)
