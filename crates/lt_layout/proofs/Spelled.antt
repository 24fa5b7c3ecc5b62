-- Spelling one after the other.
use Rattle.std.proofs.Common.{◌≡◌, ℕ, zero, suc, ◌+◌, ◌<◌, List, [], ◌∷◌, ◌++◌, length, get_or, take, sym, ap, ◌∙◌, append_assoc, arith}
use Rattle.std.specs.List.{flat_map}
use Rattle.std.proofs.lemmas.List.{append-nil}

-- the next of a list is spelled
pub spelled_more : {X : Type 0} (f : X → List ℕ) (xs : List X) (i : ℕ) (x : X) → i < length xs → x ≡ get_or xs i x → flat_map f (take (i + 1) xs) ≡ flat_map f (take i xs) ++ f x
spelled_more f [] i x lt is = absurd (omega (arith, lt))
spelled_more f (y ∷ xs) zero x lt is = ap (λ (v : _). f v ++ []) (sym is) ∙ append-nil (f x)
spelled_more f (y ∷ xs) (suc i) x lt is =
    let next : suc i + 1 ≡ suc (i + 1) = omega arith in
    ap (λ (n : ℕ). flat_map f (take n (y ∷ xs))) next ∙ (ap (λ (ys : List ℕ). f y ++ ys) (spelled_more f xs i x (omega (arith, lt)) is) ∙ sym (append_assoc (f y) (flat_map f (take i xs)) (f x)))

pub spelled_step : {X : Type 0} (f : X → List ℕ) (xs : List X) (i : ℕ) (x : X) (front old new : List ℕ) → i < length xs → x ≡ get_or xs i x → old ≡ front ++ flat_map f (take i xs) → new ≡ old ++ f x → new ≡ front ++ flat_map f (take (i + 1) xs)
spelled_step f xs i x front old new lt is h k =
    k ∙ (ap (λ (ys : List ℕ). ys ++ f x) h ∙ (append_assoc front (flat_map f (take i xs)) (f x) ∙ ap (λ (ys : List ℕ). front ++ ys) (sym (spelled_more f xs i x lt is))))

pub five_parts : (out a b c d e x1 x2 x3 x4 x5 : List ℕ) → x1 ≡ out ++ a → x2 ≡ x1 ++ b → x3 ≡ x2 ++ c → x4 ≡ x3 ++ d → x5 ≡ x4 ++ e → x5 ≡ out ++ (a ++ (b ++ (c ++ (d ++ e))))
five_parts out a b c d e x1 x2 x3 x4 x5 p q r s t =
    t ∙ (ap (λ (y : List ℕ). y ++ e) (s ∙ (ap (λ (y : List ℕ). y ++ d) (r ∙ (ap (λ (y : List ℕ). y ++ c) (q ∙ (ap (λ (y : List ℕ). y ++ b) p))))))
    ∙ (append_assoc (((out ++ a) ++ b) ++ c) d e ∙ (append_assoc ((out ++ a) ++ b) c (d ++ e) ∙ (append_assoc (out ++ a) b (c ++ (d ++ e)) ∙ append_assoc out a (b ++ (c ++ (d ++ e)))))))
