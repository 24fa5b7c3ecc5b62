-- Known bytes that are consumed or appended in pieces.
use Rattle.std.proofs.Common.{ℕ, List, [], ◌++◌, Option, Some, None, sym, ◌∙◌, ap, refl, append_assoc}
use Rattle.std.specs.Io.KnownBytes.{Appends, Consumes}

pub Consumes-nothing : (known : Option (List ℕ)) → Consumes known known []
Consumes-nothing None = tt
Consumes-nothing (Some xs) = refl

pub Consumes-more : (a b c : Option (List ℕ)) (xs ys : List ℕ) → Consumes a b xs → Consumes b c ys → Consumes a c (xs ++ ys)
Consumes-more None b c xs ys p q = tt
Consumes-more (Some u) None c xs ys p q = absurd p
Consumes-more (Some u) (Some v) None xs ys p q = absurd q
Consumes-more (Some u) (Some v) (Some w) xs ys p q = p ∙ ap (λ t. xs ++ t) q ∙ sym (append_assoc xs ys w)

pub Appends-more : (a b c : Option (List ℕ)) (xs ys : List ℕ) → Appends a b xs → Appends b c ys → Appends a c (xs ++ ys)
Appends-more None b c xs ys p q = tt
Appends-more (Some u) None c xs ys p q = absurd p
Appends-more (Some u) (Some v) None xs ys p q = absurd q
Appends-more (Some u) (Some v) (Some w) xs ys p q = q ∙ ap (λ t. t ++ ys) p ∙ append_assoc u xs ys
