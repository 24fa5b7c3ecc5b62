-- Surveying blocks one after the other.
use Rattle.std.proofs.Common.{◌≡◌, ℕ, suc, ◌+◌, ◌<◌, ◌≤◌, Bool, true, List, [], ◌∷◌, ◌++◌, length, get_or, take, drop, Result, Ok, Err, refl, sym, ap, subst, ◌∙◌, append_assoc, arith, inl, inr}
use Rattle.std.specs.Prelude.{Option, Some, None}
use Rattle.std.proofs.Math.Seq.{drop-cons}
use Rattle.std.proofs.lemmas.Bool.{cases_lt}
use Rattle.std.proofs.lemmas.List.{append-nil, length-append, drop-drop, at_drop_all}
use Rattle.lt_rec.specs.Record.{Record}
use Rattle.lt_rec.specs.Records.{joined}
use Rattle.lt_rec.specs.Reading.{◌>>=◌}
use Rattle.lt_tablet.specs.declared.errors.ReadError.{ReadError}
use Rattle.lt_layout.specs.Spelling.{Entry, Totals, end_of, hashes_from}
use Rattle.lt_layout.specs.Entries.{IsEntries}
use Rattle.lt_layout.specs.Reading.{own_block_at, moved, blocks_at}
use Rattle.lt_layout.specs.Surveying.{Found, found_in, last_of}
use Rattle.lt_layout.specs.Phases.{AreBytes, surveyed}
use Rattle.lt_tablet.specs.Causes.{Refuses}
use Rattle.lt_layout.proofs.Blocks.{end_later}
use Rattle.lt_tablet.proofs.Load.{refuse_first, refuse_same}
use Rattle.lt_layout.proofs.Stems.{last_of_append}

some_last : (recs : List Record) (key : List ℕ) → last_of recs ≡ Some key → 0 < length recs
some_last [] key h = absurd cc
some_last (r ∷ recs) key h = omega arith

pub some_hash : (recs : List Record) → 0 < length recs → 0 < length (hashes_from None recs)
some_hash [] some = absurd (omega (arith, some))
some_hash (r ∷ recs) some = omega arith

pub joined_push : (blocks : List (List Record)) (own : List Record) → joined (blocks ++ own ∷ []) ≡ joined blocks ++ own
joined_push [] own = append-nil own
joined_push (b ∷ blocks) own = ap (λ (xs : List Record). b ++ xs) (joined_push blocks own) ∙ sym (append_assoc b (joined blocks) own)

-- ---- blocks

abbrev with_blocks : List (List Record) → Result (List (List Record)) ℕ → Result (List (List Record)) ℕ
with_blocks front read = read >>= λ x. Ok (front ++ x)

abbrev pub behind : List Record → Result (List (List Record)) ℕ → Result (List (List Record)) ℕ
behind own read = read >>= λ x. Ok (own ∷ x)

with_none : (read : Result (List (List Record)) ℕ) → with_blocks [] read ≡ read
with_none (Ok x) = refl
with_none (Err at) = refl

regroup : (front : List (List Record)) (own : List Record) (read : Result (List (List Record)) ℕ) → with_blocks front (behind own read) ≡ with_blocks (front ++ own ∷ []) read
regroup front own (Ok x) = ap (λ (xs : List (List Record)). Ok xs) (sym (append_assoc front (own ∷ []) x))
regroup front own (Err at) = refl

pub record SoFar (honest : Bool) (t : Totals) (bytes : List ℕ) (es rest : List Entry) (before : Option (List ℕ)) (found : Found) : Type 0 where
  pub blocks : List (List Record)
  pub before_is : before ≡ last_of (joined blocks)
  pub found_is : found ≡ found_in (joined blocks)
  pub some : length rest < length es → 0 < length (joined blocks)
  pub begin : ℕ
  pub last : List ℕ
  pub entries : IsEntries (end_of 8 es) begin last rest
  pub ends : end_of begin rest ≡ end_of 8 es
  pub known : honest ≡ true → AreBytes 8 begin bytes
  pub read : honest ≡ true → with_blocks blocks (blocks_at t rest (drop begin bytes)) ≡ blocks_at t es (drop 8 bytes)

pub so_far_start : (honest : Bool) (t : Totals) (bytes : List ℕ) (es : List Entry) → IsEntries (end_of 8 es) 8 [] es → SoFar honest t bytes es es None (found_in [])
so_far_start honest t bytes es h = record {
  blocks = [];
  before_is = refl;
  found_is = refl;
  some = λ lt. absurd (omega (arith, lt));
  begin = 8;
  last = [];
  entries = h;
  ends = refl;
  known = λ is_honest i ge lt. absurd (omega (arith, ge, lt));
  read = λ is_honest. with_none (blocks_at t es (drop 8 bytes));
}

-- the entries that are left, by their place
pub so_far_at : (honest : Bool) (t : Totals) (bytes : List ℕ) (es : List Entry) (i : ℕ) (e : Entry) (before : Option (List ℕ)) (found : Found) → SoFar honest t bytes es (drop i es) before found → i < length es → e ≡ get_or es i e → SoFar honest t bytes es (e ∷ drop (i + 1) es) before found
so_far_at honest t bytes es i e before found h lt is =
    let step : suc i ≡ i + 1 = omega arith in
    let cut : drop i es ≡ e ∷ drop (i + 1) es = drop-cons es i e lt ∙ (ap (λ (x : Entry). x ∷ drop (suc i) es) (sym is) ∙ ap (λ (n : ℕ). e ∷ drop n es) step) in
    subst (λ (l : List Entry). SoFar honest t bytes es l before found) cut h

-- where the next block lies
pub record Lies (size : ℕ) (e : Entry) : Type 0 where
  pub within : e.offset + e.len ≤ size
  pub short : e.len ≤ 65536
  pub some : 0 < e.count

pub so_far_lies : (honest : Bool) (t : Totals) (bytes : List ℕ) (es : List Entry) (e : Entry) (rest : List Entry) (before : Option (List ℕ)) (found : Found) → SoFar honest t bytes es (e ∷ rest) before found → Lies (end_of 8 es) e
so_far_lies honest t bytes es e rest before found h =
    record { within = omega (arith, h.entries.0.placed, end_later (h.begin + e.len) rest, h.ends); short = h.entries.0.short_enough; some = h.entries.0.some }

abbrev pub own_part : Totals → Entry → List ℕ → Result (List Record) ℕ
own_part t e bytes = own_block_at t e (take e.len (drop e.offset bytes))

-- blocks from an entry's on
pub blocks_from : (t : Totals) (e : Entry) (rest : List Entry) (begin : ℕ) (bytes : List ℕ) → e.offset ≡ begin → blocks_at t (e ∷ rest) (drop begin bytes) ≡ (moved e.offset (own_part t e bytes) >>= λ own. behind own (blocks_at t rest (drop (begin + e.len) bytes)))
unfolding blocks_at
blocks_from t e rest begin bytes placed =
    ap (λ (n : ℕ). moved e.offset (own_block_at t e (take e.len (drop n bytes))) >>= λ own. behind own (blocks_at t rest (drop e.len (drop begin bytes)))) (sym placed)
    ∙ ap (λ (l : List ℕ). moved e.offset (own_part t e bytes) >>= λ own. behind own (blocks_at t rest l)) (drop-drop e.len begin bytes)

pub so_far_next : (honest : Bool) (t : Totals) (bytes : List ℕ) (es : List Entry) (e : Entry) (rest : List Entry) (before : Option (List ℕ)) (old new : Found) (h : SoFar honest t bytes es (e ∷ rest) before old) (own : List Record) → last_of own ≡ Some e.last → new ≡ found_in (joined h.blocks ++ own)
    → (honest ≡ true → own_part t e bytes ≡ Ok own) → (honest ≡ true → AreBytes e.offset (e.offset + e.len) bytes) → SoFar honest t bytes es rest (Some e.last) new
so_far_next honest t bytes es e rest before old new h own last found read known = record {
  blocks = h.blocks ++ own ∷ [];
  before_is = sym (ap last_of (joined_push h.blocks own) ∙ last_of_append (joined h.blocks) own e.last last);
  found_is = found ∙ ap found_in (sym (joined_push h.blocks own));
  some = λ lt. omega (arith, ap length (joined_push h.blocks own), length-append (joined h.blocks) own, some_last own e.last last);
  begin = h.begin + e.len;
  last = e.last;
  entries = h.entries.1;
  ends = h.ends;
  known = λ is_honest i ge lt.
      elim (cases_lt i h.begin) [
        | inl below ↦ h.known is_honest i ge below
        | inr from ↦ known is_honest i (omega (arith, from, h.entries.0.placed)) (omega (arith, lt, h.entries.0.placed))
      ];
  read = λ is_honest.
      let one : with_blocks h.blocks (blocks_at t (e ∷ rest) (drop h.begin bytes)) ≡ with_blocks h.blocks (behind own (blocks_at t rest (drop (h.begin + e.len) bytes))) =
      ap (with_blocks h.blocks) (blocks_from t e rest h.begin bytes h.entries.0.placed
      ∙ ap (λ (q : Result (List Record) ℕ). moved e.offset q >>= λ x. behind x (blocks_at t rest (drop (h.begin + e.len) bytes))) (read is_honest)) in
      sym (regroup h.blocks own (blocks_at t rest (drop (h.begin + e.len) bytes))) ∙ (sym one ∙ h.read is_honest);
}

abbrev finding : List (List Record) → Result Found ℕ
finding blocks = Ok (found_in (joined blocks))

pub so_far_stop : (honest : Bool) (t : Totals) (bytes : List ℕ) (es : List Entry) (e : Entry) (rest : List Entry) (before : Option (List ℕ)) (found : Found) (why : ReadError) → SoFar honest t bytes es (e ∷ rest) before found → honest ≡ true → Refuses why (moved e.offset (own_part t e bytes)) → Refuses why (surveyed t es bytes)
so_far_stop honest t bytes es e rest before found why h is_honest refused =
    refuse_same why (surveyed t es bytes) (with_blocks h.blocks (blocks_at t (e ∷ rest) (drop h.begin bytes)) >>= finding) (ap (λ (q : Result (List (List Record)) ℕ). q >>= finding) (sym (h.read is_honest)))
    (refuse_first why (with_blocks h.blocks (blocks_at t (e ∷ rest) (drop h.begin bytes))) finding
    (refuse_first why (blocks_at t (e ∷ rest) (drop h.begin bytes)) (λ x. Ok (h.blocks ++ x))
    (refuse_same why (blocks_at t (e ∷ rest) (drop h.begin bytes)) (moved e.offset (own_part t e bytes) >>= λ own. behind own (blocks_at t rest (drop (h.begin + e.len) bytes))) (blocks_from t e rest h.begin bytes h.entries.0.placed)
    (refuse_first why (moved e.offset (own_part t e bytes)) (λ own. behind own (blocks_at t rest (drop (h.begin + e.len) bytes))) refused))))

pub record SoFarAll (honest : Bool) (t : Totals) (bytes : List ℕ) (es : List Entry) (found : Found) : Type 0 where
  pub read : honest ≡ true → surveyed t es bytes ≡ Ok found
  pub some : 0 < length found.hashes
  pub known : honest ≡ true → AreBytes 8 (end_of 8 es) bytes

all_done : (honest : Bool) (t : Totals) (bytes : List ℕ) (es : List Entry) (before : Option (List ℕ)) (found : Found) → SoFar honest t bytes es [] before found → 0 < length es → SoFarAll honest t bytes es found
unfolding blocks_at
all_done honest t bytes es before found h some = record {
  read = λ is_honest. ap (λ (q : Result (List (List Record)) ℕ). q >>= finding) (sym (h.read is_honest)) ∙ (ap (λ (xs : List (List Record)). finding xs) (append-nil h.blocks) ∙ ap (λ (f : Found). Ok f) (sym h.found_is));
  some = subst (λ (f : Found). 0 < length f.hashes) (sym h.found_is) (some_hash (joined h.blocks) (h.some (omega (arith, some))));
  known = λ is_honest i ge lt. h.known is_honest i ge (omega (arith, lt, h.ends));
}

pub so_far_done : (honest : Bool) (t : Totals) (bytes : List ℕ) (es : List Entry) (i : ℕ) (before : Option (List ℕ)) (found : Found) → SoFar honest t bytes es (drop i es) before found → length es ≤ i → 0 < length es → SoFarAll honest t bytes es found
so_far_done honest t bytes es i before found h le some =
    all_done honest t bytes es before found (subst (λ (l : List Entry). SoFar honest t bytes es l before found) (at_drop_all (λ (l : List Entry). l) es i le) h) some
