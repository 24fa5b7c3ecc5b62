-- A text of plain bytes stands as it is.
use Rattle.std.proofs.Common.{◌≡◌, ℕ, Bool, true, false, ◌&&◌, List, [], ◌∷◌, refl, arith}
use Rattle.std.specs.Prelude.{nat_eq, nat_le, not}
use Rattle.std.specs.List.{list_all, flat_map}
use Rattle.std.specs.Cmp.{first_so, second_so}
use Rattle.std.proofs.lemmas.Bool.{eqb-true, leb-true, le-ltb}
use Rattle.lt_reply.specs.Texts.{is_plain, quoted_byte}

not_so : (t : Bool) → not t ≡ true → t ≡ false
not_so true e = cc
not_so false e = refl

differs : (b c : ℕ) → (b ≡ c → ⊥) → nat_eq b c ≡ false
differs b c other = by (nat_eq b c) refl
  where
    by : (t : Bool) → nat_eq b c ≡ t → t ≡ false
    by true same = absurd (other (eqb-true b c same))
    by false same = refl

plain_byte : (b : ℕ) → is_plain b ≡ true → quoted_byte b ≡ b ∷ []
plain_byte b plain =
    let no_backslash = first_so (nat_le 32 b && nat_le b 126 && not (nat_eq b 34)) (not (nat_eq b 92)) plain in
    let backslash = not_so (nat_eq b 92) (second_so (nat_le 32 b && nat_le b 126 && not (nat_eq b 34)) (not (nat_eq b 92)) plain) in
    let between = first_so (nat_le 32 b && nat_le b 126) (not (nat_eq b 34)) no_backslash in
    let quote = not_so (nat_eq b 34) (second_so (nat_le 32 b && nat_le b 126) (not (nat_eq b 34)) no_backslash) in
    let least = leb-true 32 b (first_so (nat_le 32 b) (nat_le b 126) between) in
    let most = leb-true b 126 (second_so (nat_le 32 b) (nat_le b 126) between) in
    rw (quote, backslash, le-ltb b 32 least, differs b 127 (λ e. omega arith)) refl

pub quoted_plain : (text : List ℕ) → list_all is_plain text ≡ true → flat_map quoted_byte text ≡ text
quoted_plain [] plain = refl
quoted_plain (b ∷ bs) plain = rw (plain_byte b (first_so (is_plain b) (list_all is_plain bs) plain), quoted_plain bs (second_so (is_plain b) (list_all is_plain bs) plain)) refl
