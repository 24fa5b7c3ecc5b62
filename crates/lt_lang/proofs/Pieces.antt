-- Texts byte by byte, up to the closing quote.
use Rattle.std.proofs.Common.{◌≡◌, ℕ, zero, suc, ◌+◌, ◌<◌, ◌≤◌, Bool, true, false, ◌&&◌, List, [], ◌∷◌, ◌++◌, length, take, drop, get_or, refl, sym, ◌∙◌, ap, subst, arith, append_assoc, one-add, Option, Some, None}
use Rattle.memchr.specs.Find.{is_byte2}
use Rattle.std.proofs.lemmas.Bool.{eqb-true, ltb-true}
use Rattle.std.proofs.lemmas.Option.{cond_some}
use Rattle.std.proofs.lemmas.List.{append-nil, take-append-drop, length-append}
use Rattle.std.specs.Prelude.{nat_eq, nat_lt, not, ◌||◌, if◌then◌else◌}
use Rattle.std.specs.List.{list_all, prefix_len}
use Rattle.std.specs.Cmp.{first_so, second_so}
use Rattle.lt_lang.specs.Literals.{is_bare, IsPiece, IsBody}
use Rattle.lt_lang.specs.Parsing.{low_only, hex_byte_at, hexed_at, escape_at, piece_at, closed_at, onto, quoted_by, quoted_within, quoted_at}
use Rattle.lt_lang.proofs.HexDigits.{hex_byte_at-read}

-- one byte of a text in front
pub record TakesPiece (bytes : List ℕ) (p : ℕ × List ℕ) : Type 0 where
  pub piece : List ℕ
  pub spelled : bytes ≡ piece ++ p.1
  pub is : IsPiece piece p.0

pub some_piece : (piece : List ℕ) (b : ℕ) → IsPiece piece b → 1 ≤ length piece
some_piece [] b is = absurd is
some_piece (c ∷ cs) b is = omega arith

low-read : (cs : List ℕ) (r : Option (ℕ × List ℕ)) (p : ℕ × List ℕ) → hex_byte_at cs ≡ r → low_only r ≡ Some p → TakesPiece (92 ∷ 120 ∷ cs) p
low-read cs None p eq e = cc
low-read cs (Some q) p eq e =
    let h = cond_some {A = ℕ × List ℕ} (nat_lt q.0 128) q p e in
    let t = hex_byte_at-read cs q.0 q.1 eq in
    let found : TakesPiece (92 ∷ 120 ∷ cs) q = record {
      piece = 92 ∷ 120 ∷ t.high ∷ t.low ∷ [];
      spelled = ap (λ l. 92 ∷ 120 ∷ l) t.spelled;
      is = (refl, refl, t.pair, ltb-true q.0 128 h.0);
    } in
    subst (TakesPiece (92 ∷ 120 ∷ cs)) h.1 found

hexed-read : (cs : List ℕ) (p : ℕ × List ℕ) → hexed_at cs ≡ Some p → TakesPiece (92 ∷ 120 ∷ cs) p
unfolding hexed_at
hexed-read cs p e = low-read cs (hex_byte_at cs) p refl e

bare_escape : (t : Bool) (c : ℕ) (cs : List ℕ) (p : ℕ × List ℕ) → is_bare c ≡ t → (if t then None else Some (c, cs)) ≡ Some p → TakesPiece (92 ∷ c ∷ cs) p
bare_escape true c cs p eq e = cc
bare_escape false c cs p eq e =
    let h = cond_some {A = ℕ × List ℕ} true (c, cs) p e in
    let found : TakesPiece (92 ∷ c ∷ cs) (c, cs) = record { piece = 92 ∷ c ∷ []; spelled = refl; is = (refl, refl, eq) } in
    subst (TakesPiece (92 ∷ c ∷ cs)) h.1 found

escape_by : (t : Bool) (c : ℕ) (cs : List ℕ) (p : ℕ × List ℕ) → nat_eq c 120 ≡ t → (if t then hexed_at cs else (if is_bare c then None else Some (c, cs))) ≡ Some p → TakesPiece (92 ∷ c ∷ cs) p
escape_by true c cs p eq e = subst (λ d. TakesPiece (92 ∷ d ∷ cs) p) (sym (eqb-true c 120 eq)) (hexed-read cs p e)
escape_by false c cs p eq e = bare_escape (is_bare c) c cs p refl e

escape-read : (cs : List ℕ) (p : ℕ × List ℕ) → escape_at cs ≡ Some p → TakesPiece (92 ∷ cs) p
unfolding escape_at
escape-read [] p e = cc
escape-read (c ∷ cs) p e = escape_by (nat_eq c 120) c cs p refl e

bare_by : (s t : Bool) → s ≡ false → t ≡ false → not s && not t ≡ true
bare_by s t e f = rw (e, f) refl

piece_by : (s t : Bool) (b : ℕ) (bs : List ℕ) (p : ℕ × List ℕ) → nat_eq b 34 ≡ s → nat_eq b 92 ≡ t → (if s then None else (if t then escape_at bs else Some (b, bs))) ≡ Some p → TakesPiece (b ∷ bs) p
piece_by true t b bs p f g e = cc
piece_by false true b bs p f g e = subst (λ c. TakesPiece (c ∷ bs) p) (sym (eqb-true b 92 g)) (escape-read bs p e)
piece_by false false b bs p f g e =
    let h = cond_some {A = ℕ × List ℕ} true (b, bs) p e in
    let found : TakesPiece (b ∷ bs) (b, bs) = record { piece = b ∷ []; spelled = refl; is = (refl, bare_by (nat_eq b 34) (nat_eq b 92) f g) } in
    subst (TakesPiece (b ∷ bs)) h.1 found

pub piece_at-read : (bytes : List ℕ) (p : ℕ × List ℕ) → piece_at bytes ≡ Some p → TakesPiece bytes p
unfolding piece_at
piece_at-read [] p e = cc
piece_at-read (b ∷ bs) p e = piece_by (nat_eq b 34) (nat_eq b 92) b bs p refl refl e

pub piece_at-shorter : (bytes : List ℕ) (b : ℕ) (rest : List ℕ) → piece_at bytes ≡ Some (b, rest) → length rest < length bytes
piece_at-shorter bytes b rest e =
    let t = piece_at-read bytes (b, rest) e in
    let some = some_piece t.piece b t.is in
    omega (arith, simp length-append at (ap length t.spelled))

-- a text's spelling in front, and its closing quote
pub record TakesBody (bytes : List ℕ) (p : List ℕ × List ℕ) : Type 0 where
  pub body : List ℕ
  pub spelled : bytes ≡ body ++ 34 ∷ p.1
  pub pieces : IsBody body p.0

closed_by : (t : Bool) (b : ℕ) (bs : List ℕ) (p : List ℕ × List ℕ) → nat_eq b 34 ≡ t → (if t then Some ([], bs) else None) ≡ Some p → TakesBody (b ∷ bs) p
closed_by false b bs p eq e = cc
closed_by true b bs p eq e =
    let h = cond_some {A = List ℕ × List ℕ} true ([], bs) p e in
    let found : TakesBody (b ∷ bs) ([], bs) = record { body = []; spelled = ap (λ c. c ∷ bs) (eqb-true b 34 eq); pieces = refl } in
    subst (TakesBody (b ∷ bs)) h.1 found

closed-read : (bytes : List ℕ) (p : List ℕ × List ℕ) → closed_at bytes ≡ Some p → TakesBody bytes p
closed-read [] p e = cc
closed-read (b ∷ bs) p e = closed_by (nat_eq b 34) b bs p refl e

onto_by : (bytes : List ℕ) (q : ℕ × List ℕ) (r : Option (List ℕ × List ℕ)) (p : List ℕ × List ℕ) → TakesPiece bytes q → ((s : List ℕ × List ℕ) → r ≡ Some s → TakesBody q.1 s) → onto q.0 r ≡ Some p → TakesBody bytes p
onto_by bytes q None p t more e = cc
onto_by bytes q (Some s) p t more e =
    let h = cond_some {A = List ℕ × List ℕ} true (q.0 ∷ s.0, s.1) p e in
    let later = more s refl in
    let found : TakesBody bytes (q.0 ∷ s.0, s.1) = record {
      body = t.piece ++ later.body;
      spelled = t.spelled ∙ ap (λ l. t.piece ++ l) later.spelled ∙ sym (append_assoc t.piece later.body (34 ∷ s.1));
      pieces = (t.piece, later.body, refl, t.is, later.pieces);
    } in
    subst (TakesBody bytes) h.1 found

quoted_step : (more : List ℕ → Option (List ℕ × List ℕ)) (r : Option (ℕ × List ℕ)) (bytes : List ℕ) (p : List ℕ × List ℕ) → piece_at bytes ≡ r
    → ((rest : List ℕ) (s : List ℕ × List ℕ) → more rest ≡ Some s → TakesBody rest s) → quoted_by more r bytes ≡ Some p → TakesBody bytes p
quoted_step more None bytes p eq later e = closed-read bytes p e
quoted_step more (Some q) bytes p eq later e = onto_by bytes q (more q.1) p (piece_at-read bytes q eq) (later q.1) e

pub quoted-read : (n : ℕ) (bytes : List ℕ) (p : List ℕ × List ℕ) → quoted_within n bytes ≡ Some p → TakesBody bytes p
unfolding quoted_within
quoted-read zero bytes p e = closed-read bytes p e
quoted-read (suc n) bytes p e = quoted_step (quoted_within n) (piece_at bytes) bytes p refl (quoted-read n) e

pub quoted_at-shorter : (bytes : List ℕ) (p : List ℕ × List ℕ) → quoted_at bytes ≡ Some p → length p.1 < length bytes
unfolding quoted_at
quoted_at-shorter bytes p e = let t = quoted-read (length bytes) bytes p e in omega (arith, simp length-append at (ap length t.spelled))

not_so : (t : Bool) → not t ≡ true → t ≡ false
not_so true e = cc
not_so false e = refl

pub no_quote : (b : ℕ) → is_bare b ≡ true → nat_eq b 34 ≡ false
no_quote b e = not_so (nat_eq b 34) (first_so (not (nat_eq b 34)) (not (nat_eq b 92)) e)

pub no_backslash : (b : ℕ) → is_bare b ≡ true → nat_eq b 92 ≡ false
no_backslash b e = not_so (nat_eq b 92) (second_so (not (nat_eq b 34)) (not (nat_eq b 92)) e)

pub piece-bare : (b : ℕ) (rest : List ℕ) → is_bare b ≡ true → piece_at (b ∷ rest) ≡ Some (b, rest)
unfolding piece_at
piece-bare b rest e = rw (no_quote b e, no_backslash b e) refl

-- texts without escapes
pub bare_within : (n : ℕ) (text rest : List ℕ) → list_all is_bare text ≡ true → length text ≤ n → quoted_within n (text ++ 34 ∷ rest) ≡ Some (text, rest)
unfolding quoted_within piece_at
bare_within zero [] rest all few = refl
bare_within (suc n) [] rest all few = refl
bare_within zero (b ∷ bs) rest all few = absurd (omega arith)
bare_within (suc n) (b ∷ bs) rest all few =
    let first = first_so (is_bare b) (list_all is_bare bs) all in
    let others = second_so (is_bare b) (list_all is_bare bs) all in
    ap (λ r. quoted_by (quoted_within n) r (b ∷ bs ++ 34 ∷ rest)) (piece-bare b (bs ++ 34 ∷ rest) first)
    ∙ ap (onto b) (bare_within n bs rest others (omega arith))

bare_none : (n : ℕ) (text : List ℕ) → list_all is_bare text ≡ true → quoted_within n text ≡ None
unfolding quoted_within piece_at
bare_none zero [] all = refl
bare_none (suc n) [] all = refl
bare_none zero (b ∷ bs) all = let e = no_quote b (first_so (is_bare b) (list_all is_bare bs) all) in rw e refl
bare_none (suc n) (b ∷ bs) all =
    let first = first_so (is_bare b) (list_all is_bare bs) all in
    let others = second_so (is_bare b) (list_all is_bare bs) all in
    ap (λ r. quoted_by (quoted_within n) r (b ∷ bs)) (piece-bare b bs first) ∙ ap (onto b) (bare_none n bs others)

front_by : (t : Bool) (test : ℕ → Bool) (b : ℕ) (bs : List ℕ) → test b ≡ t → list_all test (take (prefix_len test bs) bs) ≡ true → list_all test (take (if t then 1 + prefix_len test bs else 0) (b ∷ bs)) ≡ true
front_by true test b bs e more = rw (one-add, e) more
front_by false test b bs e more = refl

-- the bytes that pass from the front on do pass
pub all_front : (test : ℕ → Bool) (bytes : List ℕ) → list_all test (take (prefix_len test bytes) bytes) ≡ true
all_front test [] = refl
all_front test (b ∷ bs) = front_by (test b) test b bs refl (all_front test bs)

pub bare_quoted : (bytes rest : List ℕ) → drop (prefix_len is_bare bytes) bytes ≡ 34 ∷ rest → quoted_at bytes ≡ Some (take (prefix_len is_bare bytes) bytes, rest)
unfolding quoted_at
bare_quoted bytes rest e =
    let n = prefix_len is_bare bytes in
    let cut : bytes ≡ take n bytes ++ 34 ∷ rest = sym (take-append-drop n bytes) ∙ ap (λ l. take n bytes ++ l) e in
    let few : length (take n bytes) ≤ length bytes = omega (arith, simp length-append at (ap length cut)) in
    ap (quoted_within (length bytes)) cut ∙ bare_within (length bytes) (take n bytes) rest (all_front is_bare bytes) few

bare_stops : (bytes : List ℕ) (end : List ℕ) → drop (prefix_len is_bare bytes) bytes ≡ end → nat_eq (length end) 0 ≡ true → quoted_at bytes ≡ None
unfolding quoted_at
bare_stops bytes [] eq none =
    let n = prefix_len is_bare bytes in
    let cut : bytes ≡ take n bytes = sym (take-append-drop n bytes) ∙ ap (λ l. take n bytes ++ l) eq ∙ append-nil (take n bytes) in
    bare_none (length bytes) bytes (ap (list_all is_bare) cut ∙ all_front is_bare bytes)
bare_stops bytes (b ∷ bs) eq none = absurd (omega (arith, eqb-true (length (b ∷ bs)) 0 none))

-- as the code cuts it: a text without escapes, and what stands behind it
pub bare_closed : (bytes front end rest : List ℕ) (n : ℕ) → n ≡ prefix_len is_bare bytes → front ≡ take n bytes → end ≡ drop n bytes
    → closed_at end ≡ Some ([], rest) → quoted_at bytes ≡ Some (front, rest)
bare_closed bytes front end rest n len e f closed =
    let t = closed-read end ([], rest) closed in
    let quote : end ≡ 34 ∷ rest = t.spelled ∙ ap (λ l. l ++ 34 ∷ rest) t.pieces in
    let cut : drop (prefix_len is_bare bytes) bytes ≡ 34 ∷ rest = sym (f ∙ ap (λ k. drop k bytes) len) ∙ quote in
    bare_quoted bytes rest cut ∙ ap (λ (l : List ℕ). Some (l, rest)) (sym (e ∙ ap (λ k. take k bytes) len))

pub bare_unclosed : (bytes end : List ℕ) (n : ℕ) → n ≡ prefix_len is_bare bytes → end ≡ drop n bytes → nat_eq (length end) 0 ≡ true → quoted_at bytes ≡ None
bare_unclosed bytes end n len f none = bare_stops bytes end (sym (f ∙ ap (λ k. drop k bytes) len)) none

bare_else : (s t : Bool) → (s || t ≡ true → ⊥) → not s && not t ≡ true
bare_else true t never = absurd (never refl)
bare_else false true never = absurd (never refl)
bare_else false false never = refl

not_bare : (s t : Bool) → s || t ≡ true → not s && not t ≡ false
not_bare true t e = refl
not_bare false true e = refl
not_bare false false e = cc

-- the bare bytes end where the first other one stands
bare_at : (bytes : List ℕ) (k : ℕ) → k ≤ length bytes → ((j : ℕ) → j < k → is_bare (get_or bytes j 0) ≡ true) → (k < length bytes → is_bare (get_or bytes k 0) ≡ false) → k ≡ prefix_len is_bare bytes
bare_at [] k within all stop = omega arith
bare_at (b ∷ bs) zero within all stop = let h : is_bare b ≡ false = stop (omega arith) in rw h refl
bare_at (b ∷ bs) (suc k) within all stop =
    let first : is_bare b ≡ true = all 0 (omega arith) in
    let more : k ≡ prefix_len is_bare bs = bare_at bs k (omega arith) (λ j l. all (suc j) (omega arith)) (λ l. stop (omega arith)) in
    rw (first, ← more) (sym (one-add k))

pub bare_found : (bytes : List ℕ) (k : ℕ) → k < length bytes → ((j : ℕ) → j < k → is_byte2 34 92 (get_or bytes j 0) ≡ true → ⊥) → is_byte2 34 92 (get_or bytes k 0) ≡ true → k ≡ prefix_len is_bare bytes
bare_found bytes k within before here =
    bare_at bytes k (omega arith) (λ j l. bare_else (nat_eq (get_or bytes j 0) 34) (nat_eq (get_or bytes j 0) 92) (before j l))
    (λ l. not_bare (nat_eq (get_or bytes k 0) 34) (nat_eq (get_or bytes k 0) 92) here)

pub bare_all : (bytes : List ℕ) → ((j : ℕ) → j < length bytes → is_byte2 34 92 (get_or bytes j 0) ≡ true → ⊥) → length bytes ≡ prefix_len is_bare bytes
bare_all bytes before =
    bare_at bytes (length bytes) (omega arith) (λ j l. bare_else (nat_eq (get_or bytes j 0) 34) (nat_eq (get_or bytes j 0) 92) (before j l)) (λ l. absurd (omega arith))
