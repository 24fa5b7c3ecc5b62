-- Words by their number and by some of them.
use Rattle.std.proofs.Common.{◌≡◌, ◌<◌, ◌≤◌, ◌↔◌, ℕ, List, [], ◌∷◌, length, get_or, map, string_bytes, arith, sym, ◌∙◌, ap, subst, refl, Option, Some, None}
use Rattle.std.specs.Prelude.{codes, String}
use Rattle.std.specs.Global.{Global}
use Rattle.lt_serve.specs.Words.{IsRun, IsCreation, IsTtl}

-- three words are a session by the first and the last of them
pub by_first_and_last : (words : List (String Global)) (first last : String Global) → 3 ≤ length words → length words < 4
    → first ≡ get_or words 0 first → last ≡ get_or words 2 last
    → IsRun (map string_bytes words) ↔ ((string_bytes first ≡ codes "run") × (string_bytes last ≡ codes "--leave"))
by_first_and_last [] a c low high p q = absurd (omega arith)
by_first_and_last (x ∷ []) a c low high p q = absurd (omega arith)
by_first_and_last (x ∷ y ∷ []) a c low high p q = absurd (omega arith)
by_first_and_last (x ∷ y ∷ z ∷ []) a c low high p q = (λ s. (ap string_bytes p ∙ s.0, ap string_bytes q ∙ s.1), λ s. (ap string_bytes (sym p) ∙ s.0, ap string_bytes (sym q) ∙ s.1))
by_first_and_last (x ∷ y ∷ z ∷ w ∷ ws) a c low high p q = absurd (omega arith)

-- three words that make a table, and four
pub makes_by_three : (words : List (String Global)) (first text : String Global) → 3 ≤ length words → length words < 4
    → first ≡ get_or words 0 first → text ≡ get_or words 2 text → string_bytes first ≡ codes "create" → IsCreation (map string_bytes words) (string_bytes text) None
makes_by_three [] a c low high p q e = absurd (omega arith)
makes_by_three (x ∷ []) a c low high p q e = absurd (omega arith)
makes_by_three (x ∷ y ∷ []) a c low high p q e = absurd (omega arith)
makes_by_three (x ∷ y ∷ z ∷ []) a c low high p q e = (ap string_bytes (sym p) ∙ e, ap string_bytes (sym q))
makes_by_three (x ∷ y ∷ z ∷ w ∷ ws) a c low high p q e = absurd (omega arith)

pub makes_by_four : (words : List (String Global)) (first text word : String Global) (ttl : ℕ) → 4 ≤ length words → length words < 5
    → first ≡ get_or words 0 first → text ≡ get_or words 2 text → word ≡ get_or words 3 word → string_bytes first ≡ codes "create" → IsTtl (string_bytes word) ttl
    → IsCreation (map string_bytes words) (string_bytes text) (Some ttl)
makes_by_four [] a c d ttl low high p q r e is = absurd (omega arith)
makes_by_four (x ∷ []) a c d ttl low high p q r e is = absurd (omega arith)
makes_by_four (x ∷ y ∷ []) a c d ttl low high p q r e is = absurd (omega arith)
makes_by_four (x ∷ y ∷ z ∷ []) a c d ttl low high p q r e is = absurd (omega arith)
makes_by_four (x ∷ y ∷ z ∷ w ∷ []) a c d ttl low high p q r e is = (ap string_bytes (sym p) ∙ e, ap string_bytes (sym q), subst (λ word. IsTtl word ttl) (ap string_bytes r) is)
makes_by_four (x ∷ y ∷ z ∷ w ∷ v ∷ ws) a c d ttl low high p q r e is = absurd (omega arith)

ttl_is : (word : List ℕ) (a b : ℕ) → IsTtl word a → IsTtl word b → a ≡ b
ttl_is word a b x y = sym x.count.value ∙ y.count.value

-- words ask for one table alone
pub one_creation : (words : List (List ℕ)) (a b : List ℕ) (x y : Option ℕ) → IsCreation words a x → IsCreation words b y → (a ≡ b) × (x ≡ y)
one_creation (command ∷ dir ∷ text ∷ []) a b None None first second = (sym first.1 ∙ second.1, refl)
one_creation (command ∷ dir ∷ text ∷ ttl ∷ []) a b (Some x) (Some y) first second = (sym first.1 ∙ second.1, ap Some (ttl_is ttl x y first.2 second.2))
one_creation [] a b x y first second = absurd first
one_creation (command ∷ []) a b x y first second = absurd first
one_creation (command ∷ dir ∷ []) a b x y first second = absurd first
one_creation (command ∷ dir ∷ text ∷ []) a b (Some x) y first second = absurd first
one_creation (command ∷ dir ∷ text ∷ []) a b None (Some y) first second = absurd second
one_creation (command ∷ dir ∷ text ∷ ttl ∷ []) a b None y first second = absurd first
one_creation (command ∷ dir ∷ text ∷ ttl ∷ []) a b (Some x) None first second = absurd second
one_creation (command ∷ dir ∷ text ∷ ttl ∷ more ∷ others) a b x y first second = absurd first

-- no words have both forms
pub either_form : (words : List (List ℕ)) (text : List ℕ) (ttl : Option ℕ) → IsRun words → IsCreation words text ttl → ⊥
either_form (command ∷ dir ∷ flag ∷ []) text None session asks = absurd (let both : codes "run" ≡ codes "create" = sym session.0 ∙ asks.0 in cc)
either_form (command ∷ dir ∷ flag ∷ []) text (Some ttl) session asks = asks
either_form [] text ttl session asks = session
either_form (command ∷ []) text ttl session asks = session
either_form (command ∷ dir ∷ []) text ttl session asks = session
either_form (command ∷ dir ∷ flag ∷ more ∷ others) text ttl session asks = session
