-- What a reader took from the front, and how readers follow each other.
use Rattle.std.proofs.Common.{◌≡◌, ℕ, Bool, true, false, ◌&&◌, List, [], ◌∷◌, ◌++◌, length, take, drop, refl, Option, Some, None, eq-eqb}
use Rattle.std.specs.Prelude.{nat_eq, if◌then◌else◌}
use Rattle.std.specs.Cmp.{first_so, second_so}
use Rattle.std.specs.Cmp.Lexicographic.{pointwise}
use Rattle.std.proofs.lemmas.Bool.{eqb-true}
use Rattle.lt_lang.specs.Reading.{◌>>=◌, after}

-- the bytes are a part of this kind, and the rest
pub record Takes (P : List ℕ → Type 0) (bytes rest : List ℕ) : Type 0 where
  pub part : List ℕ
  pub is : P part
  pub spelled : bytes ≡ part ++ rest

-- what holds of a first reader's find and the next one's holds of both
pub both : {A B P : Type 0} (r : Option A) (f : A → Option B) (y : B) → (r >>= f) ≡ Some y → ((x : A) → r ≡ Some x → f x ≡ Some y → P) → P
both None f y e each = cc
both (Some x) f y e each = each x refl e

pub joined : {A B : Type 0} (r : Option A) (f : A → Option B) (x : A) (y : B) → r ≡ Some x → f x ≡ Some y → (r >>= f) ≡ Some y
joined r f x y e g = rw e g

pub after-read : (words bytes rest : List ℕ) → after words bytes ≡ Some rest → bytes ≡ words ++ rest
unfolding after
after-read [] bytes rest e = cc
after-read (c ∷ cs) [] rest e = cc
after-read (c ∷ cs) (b ∷ bs) rest e = by (nat_eq b c) refl e (after-read cs bs rest)
  where
    by : (t : Bool) → nat_eq b c ≡ t → (if t then after cs bs else None) ≡ Some rest → (after cs bs ≡ Some rest → bs ≡ cs ++ rest) → b ∷ bs ≡ c ∷ cs ++ rest
    by true same found more = let h = eqb-true b c same in let ih = more found in cc
    by false other found more = cc

same_byte : (b : ℕ) → nat_eq b b ≡ true
same_byte b = eq-eqb b b refl

pub after-only : (words rest : List ℕ) → after words (words ++ rest) ≡ Some rest
unfolding after
after-only [] rest = refl
after-only (c ∷ cs) rest = rw same_byte (after-only cs rest)

pub after-yes : (words bytes : List ℕ) → pointwise nat_eq (take (length words) bytes) words ≡ true → after words bytes ≡ Some (drop (length words) bytes)
unfolding after
after-yes [] bytes e = refl
after-yes (c ∷ cs) [] e = cc
after-yes (c ∷ cs) (b ∷ bs) e =
    let h = first_so (nat_eq b c) (pointwise nat_eq (take (length cs) bs) cs) e in
    rw h (after-yes cs bs (second_so (nat_eq b c) (pointwise nat_eq (take (length cs) bs) cs) e))

pub after-no : (words bytes : List ℕ) → pointwise nat_eq (take (length words) bytes) words ≡ false → after words bytes ≡ None
unfolding after
after-no [] bytes e = cc
after-no (c ∷ cs) [] e = refl
after-no (c ∷ cs) (b ∷ bs) e = by (nat_eq b c) e (after-no cs bs)
  where
    by : (t : Bool) → t && pointwise nat_eq (take (length cs) bs) cs ≡ false → (pointwise nat_eq (take (length cs) bs) cs ≡ false → after cs bs ≡ None) → (if t then after cs bs else None) ≡ None
    by true other more = more other
    by false other more = refl
