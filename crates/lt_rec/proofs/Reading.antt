-- A field that is read is the field that was written, and what was written is read again.
use Rattle.std.proofs.Common.{◌≡◌, ℕ, ◌+◌, ◌^◌, ◌<◌, ◌≤◌, Bool, true, false, ◌&&◌, cond, ltb, List, [], ◌∷◌, ◌++◌, length, get_or, take, drop, Result, Ok, Err, refl, sym, ap, subst, ◌∙◌, append_assoc, arith, inl, inr}
use Rattle.std.specs.Prelude.{Option, Some, None}
use Rattle.std.specs.Int.{Width, w32, w64, byte_len, from_be_bytes, to_be_bytes}
use Rattle.std.proofs.lemmas.Bool.{cases_lt, ltb-false, le-ltb}
use Rattle.std.proofs.lemmas.List.{take_at, drop_at, take-append-drop, length-append, length-take, get_or-drop, get_or-take, get_or_past}
use Rattle.std.proofs.lemmas.Nat.{be_bytes_4, be_bytes_8, from_be_bytes-to_be_bytes_4, from_be_bytes-to_be_bytes_8}
use Rattle.lt_rec.specs.Reading.{◌>>=◌, holds, asked, or_fault, byte_at, number_at, bytes_at}

abbrev pub IsBytes : List ℕ → Type 0
IsBytes bytes = (i : ℕ) → get_or bytes i 0 < 256

pub IsBytes-drop : (n : ℕ) (bytes : List ℕ) → IsBytes bytes → IsBytes (drop n bytes)
IsBytes-drop n bytes h i = rw get_or-drop (h (n + i))

pub IsBytes-take : (n : ℕ) (bytes : List ℕ) → IsBytes bytes → IsBytes (take n bytes)
IsBytes-take n bytes h i =
    elim (cases_lt i n) [
      | inl lt ↦ rw (get_or-take n bytes i 0 lt) (h i)
      | inr le ↦ rw (get_or_past (take n bytes) i 0 (omega (arith, length-take n bytes))) (omega arith)
    ]

-- ---- steps

abbrev pub done : {A : Type 0} → A → Result A ℕ
done x = Ok x

pub ok_is : {A : Type 0} (x y : A) → done x ≡ done y → x ≡ y
ok_is x y e = cc

-- the value of a step that did not fail
pub bind_ok : {A B : Type 0} (r : Result A ℕ) (f : A → Result B ℕ) (y : B) → (r >>= f) ≡ Ok y → (x : A) × (r ≡ Ok x) × (f x ≡ Ok y)
bind_ok (Ok x) f y e = (x, refl, e)
bind_ok (Err d) f y e = absurd cc

-- a test that did not fail
pub guard_no : {A : Type 0} (b : Bool) (d : ℕ) (x y : A) → cond b (Err d) (Ok x) ≡ Ok y → (b ≡ false) × (x ≡ y)
guard_no true d x y e = absurd cc
guard_no false d x y e = (refl, cc)

pub guard_yes : {A : Type 0} (b : Bool) (d : ℕ) (x y : A) → cond b (Ok x) (Err d) ≡ Ok y → (b ≡ true) × (x ≡ y)
guard_yes true d x y e = (refl, cc)
guard_yes false d x y e = absurd cc

pub both_true : (a b : Bool) → (a && b) ≡ true → (a ≡ true) × (b ≡ true)
both_true true b e = (refl, e)
both_true false b e = absurd cc

pub asked_ok : {A : Type 0} (test : A → Bool) (at : ℕ) (r : Result (A × List ℕ) ℕ) (x : A × List ℕ) → asked test at r ≡ Ok x → (r ≡ Ok x) × (test x.0 ≡ true)
asked_ok test at (Ok y) x e = let g = guard_yes (test y.0) at y x e in (ap done g.1, ap (λ (p : _ × List ℕ). test p.0) (sym g.1) ∙ g.0)
asked_ok test at (Err d) x e = absurd cc

pub asked_again : {A : Type 0} (test : A → Bool) (at : ℕ) (r : Result (A × List ℕ) ℕ) (x : A × List ℕ) → r ≡ Ok x → test x.0 ≡ true → asked test at r ≡ Ok x
asked_again test at r x e h = ap (asked test at) e ∙ ap (λ (b : Bool). cond b (Ok x) (Err at)) h

pub holds_ok : (test : Bool) (at : ℕ) (u : Unit {0}) → holds test at ≡ Ok u → test ≡ true
holds_ok true at u e = refl
holds_ok false at u e = absurd cc

pub holds_again : (test : Bool) (at : ℕ) → test ≡ true → holds test at ≡ Ok tt
holds_again test at h = ap (λ (b : Bool). holds b at) h

pub or_fault_ok : {A : Type 0} (o : Option A) (at : ℕ) (x : A) → or_fault o at ≡ Ok x → o ≡ Some x
or_fault_ok None at x e = absurd cc
or_fault_ok (Some y) at x e = ap Some (ok_is y x e)

-- ---- what a reader took from the front

pub record Takes (bytes text rest : List ℕ) : Type 0 where
  pub parts : bytes ≡ text ++ rest
  pub rest_fits : IsBytes rest

pub Takes-then : (a x b y c : List ℕ) → Takes a x b → Takes b y c → Takes a (x ++ y) c
Takes-then a x b y c p q = record { parts = p.parts ∙ (ap (λ (t : List ℕ). x ++ t) q.parts ∙ sym (append_assoc x y c)); rest_fits = q.rest_fits }

pub Takes-as : (a x y b : List ℕ) → x ≡ y → Takes a x b → Takes a y b
Takes-as a x y b e t = subst (λ (z : List ℕ). Takes a z b) e t

-- ---- a byte

pub byte_takes : (at : ℕ) (bytes : List ℕ) (x : ℕ × List ℕ) → IsBytes bytes → byte_at at bytes ≡ Ok x → Takes bytes (x.0 ∷ []) x.1
byte_takes at [] x fits e = absurd cc
byte_takes at (b ∷ bytes) x fits e =
    subst (λ (p : ℕ × List ℕ). Takes (b ∷ bytes) (p.0 ∷ []) p.1) (ok_is (b, bytes) x e) (record { parts = refl; rest_fits = IsBytes-drop 1 (b ∷ bytes) fits })

-- ---- numbers

pub record IsWide (w : Width) (limit : ℕ) : Type 0 where
  pub len : (n : ℕ) → length (to_be_bytes w n) ≡ byte_len w
  pub back : (bytes : List ℕ) → length bytes ≡ byte_len w → IsBytes bytes → to_be_bytes w (from_be_bytes w bytes) ≡ bytes
  pub again : (n : ℕ) → n < limit → from_be_bytes w (to_be_bytes w n) ≡ n
  pub below : (bytes : List ℕ) → IsBytes bytes → from_be_bytes w bytes < limit

pub wide32 : IsWide w32 (2 ^ 32)
wide32 = record {
  len = λ n. refl;
  back = λ bytes len fits. be_bytes_4 bytes _ len fits refl;
  again = λ n lt. from_be_bytes-to_be_bytes_4 n lt;
  below = λ bytes fits. omega (arith, fits 0, fits 1, fits 2, fits 3);
}

pub wide64 : IsWide w64 (2 ^ 64)
wide64 = record {
  len = λ n. refl;
  back = λ bytes len fits. be_bytes_8 bytes _ len fits refl;
  again = λ n lt. from_be_bytes-to_be_bytes_8 n lt;
  below = λ bytes fits. omega (arith, fits 0, fits 1, fits 2, fits 3, fits 4, fits 5, fits 6, fits 7);
}

pub number_takes : (w : Width) (limit : ℕ) (wide : IsWide w limit) (at : ℕ) (bytes : List ℕ) (x : ℕ × List ℕ) → IsBytes bytes → number_at w at bytes ≡ Ok x → Takes bytes (to_be_bytes w x.0) x.1 × (x.0 < limit)
number_takes w limit wide at bytes x fits e =
    let g = guard_no (ltb (length bytes) (byte_len w)) at (from_be_bytes w (take (byte_len w) bytes), drop (byte_len w) bytes) x e in
    let long : byte_len w ≤ length bytes = ltb-false _ _ g.0 in
    let front : to_be_bytes w (from_be_bytes w (take (byte_len w) bytes)) ≡ take (byte_len w) bytes = wide.back (take (byte_len w) bytes) (omega (arith, length-take (byte_len w) bytes)) (IsBytes-take (byte_len w) bytes fits) in
    subst (λ (p : ℕ × List ℕ). Takes bytes (to_be_bytes w p.0) p.1 × (p.0 < limit)) g.1 (
      record { parts = sym (ap (λ (t : List ℕ). t ++ drop (byte_len w) bytes) front ∙ take-append-drop (byte_len w) bytes); rest_fits = IsBytes-drop (byte_len w) bytes fits },
      wide.below (take (byte_len w) bytes) (IsBytes-take (byte_len w) bytes fits),
    )

pub number_again : (w : Width) (limit : ℕ) (wide : IsWide w limit) (at n : ℕ) (rest : List ℕ) → n < limit → number_at w at (to_be_bytes w n ++ rest) ≡ Ok (n, rest)
number_again w limit wide at n rest lt =
    let len = wide.len n in
    let long : ltb (length (to_be_bytes w n ++ rest)) (byte_len w) ≡ false = le-ltb _ _ (omega (arith, length-append (to_be_bytes w n) rest)) in
    rw (long, take_at (to_be_bytes w n) rest (byte_len w) len, drop_at (to_be_bytes w n) rest (byte_len w) len, wide.again n lt) refl

pub takes32 : (at : ℕ) (bytes : List ℕ) (x : ℕ × List ℕ) → IsBytes bytes → number_at w32 at bytes ≡ Ok x → Takes bytes (to_be_bytes w32 x.0) x.1 × (x.0 < 2 ^ 32)
takes32 = number_takes w32 (2 ^ 32) wide32

pub takes64 : (at : ℕ) (bytes : List ℕ) (x : ℕ × List ℕ) → IsBytes bytes → number_at w64 at bytes ≡ Ok x → Takes bytes (to_be_bytes w64 x.0) x.1 × (x.0 < 2 ^ 64)
takes64 = number_takes w64 (2 ^ 64) wide64

pub again32 : (at n : ℕ) (rest : List ℕ) → n < 2 ^ 32 → number_at w32 at (to_be_bytes w32 n ++ rest) ≡ Ok (n, rest)
again32 = number_again w32 (2 ^ 32) wide32

pub again64 : (at n : ℕ) (rest : List ℕ) → n < 2 ^ 64 → number_at w64 at (to_be_bytes w64 n ++ rest) ≡ Ok (n, rest)
again64 = number_again w64 (2 ^ 64) wide64

-- ---- bytes

pub bytes_take : (n at : ℕ) (bytes : List ℕ) (x : List ℕ × List ℕ) → IsBytes bytes → bytes_at n at bytes ≡ Ok x → Takes bytes x.0 x.1 × (length x.0 ≡ n) × IsBytes x.0
bytes_take n at bytes x fits e =
    let g = guard_no (ltb (length bytes) n) at (take n bytes, drop n bytes) x e in
    let long : n ≤ length bytes = ltb-false _ _ g.0 in
    subst (λ (p : List ℕ × List ℕ). Takes bytes p.0 p.1 × (length p.0 ≡ n) × IsBytes p.0) g.1
    (record { parts = sym (take-append-drop n bytes); rest_fits = IsBytes-drop n bytes fits }, omega (arith, length-take n bytes), IsBytes-take n bytes fits)

pub bytes_again : (at : ℕ) (text rest : List ℕ) → bytes_at (length text) at (text ++ rest) ≡ Ok (text, rest)
bytes_again at text rest =
    let long : ltb (length (text ++ rest)) (length text) ≡ false = le-ltb _ _ (omega (arith, length-append text rest)) in
    rw (long, take_at text rest (length text) refl, drop_at text rest (length text) refl) refl
