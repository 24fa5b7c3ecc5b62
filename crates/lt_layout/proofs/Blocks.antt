-- Blocks one after the other, with their entries.
use Rattle.std.proofs.Common.{◌≡◌, ◌⊎◌, ℕ, suc, ◌+◌, ◌-◌, ◌^◌, ◌<◌, ◌≤◌, true, ltb, ◌&&◌, ◌||◌, List, [], ◌∷◌, ◌++◌, length, take, drop, Result, Ok, Err, refl, sym, ap, subst, ◌∙◌, append_assoc, arith, inl, inr}
use Rattle.std.specs.Prelude.{nat_eq}
use Rattle.std.specs.List.{flat_map, AllByRecursion}
use Rattle.std.specs.Cmp.Lexicographic.{pointwise}
use Rattle.std.specs.Int.{w32, to_be_bytes}
use Rattle.std.proofs.lemmas.Bool.{ltb-true, lt-ltb, and_parts, and_from, or_cases, or_left, or_right}
use Rattle.std.proofs.lemmas.List.{length-append, length-take, length-drop, take_at, drop_at, take-append-drop, drop-drop}
use Rattle.lt_rec.specs.Bytes.{is_less}
use Rattle.lt_rec.specs.Record.{Record, IsRecord, time_of, spelled}
use Rattle.lt_rec.specs.Records.{joined}
use Rattle.lt_block.specs.Spelling.{spelling, Rises, IsBlock, last_key}
use Rattle.lt_rec.specs.Reading.{◌>>=◌, is_within}
use Rattle.lt_rec.proofs.Reading.{IsBytes, IsBytes-take, IsBytes-drop, bind_ok, ok_is}
use Rattle.lt_rec.proofs.Stored.{spelled_len, time_is}
use Rattle.lt_block.proofs.Blocks.{all_len}
use Rattle.lt_layout.specs.Spelling.{Entry, Totals, first_key, entry_of, entries_of, end_of, blocks_spelled}
use Rattle.lt_layout.specs.Reading.{suits_key, own_block_at, moved, blocks_at}
use Rattle.lt_layout.proofs.Asked.{same_bytes, bytes_same_by}
use Rattle.lt_layout.specs.Entries.{IsKey, IsEntry, IsEntries}
use Rattle.lt_layout.proofs.IndexText.{AreSmall}
use Rattle.lt_layout.proofs.Own.{suits, AllSuit, own_block_takes, own_block_again}
use Rattle.lt_layout.proofs.Sums.{Within, all_split, rises_join, rises_split, last_not_below}

-- ---- what a block's records tell of its entry

pub record Suited (t : Totals) (e : Entry) (left : ℕ) (last : List ℕ) (r : Record) : Type 0 where
  pub first : length last ≡ 0 → r.key ≡ e.first
  pub final : left ≡ 0 → r.key ≡ e.last

one_of : (n : ℕ) (xs ys : List ℕ) → (ltb 0 n || pointwise nat_eq xs ys) ≡ true → n ≡ 0 → xs ≡ ys
one_of n xs ys h none =
    elim (or_cases (ltb 0 n) (pointwise nat_eq xs ys) h) [
      | inl some ↦ absurd (omega (arith, none, ltb-true 0 n some))
      | inr same ↦ same_bytes xs ys same
    ]

pub suited : (t : Totals) (e : Entry) (left : ℕ) (last : List ℕ) (r : Record) → suits t e left last r ≡ true → Suited t e left last r
suited t e left last r h =
    let a = and_parts (is_within t.first t.last r.seq) (suits_key t e left last r.key) h in
    let b = and_parts (is_within t.low t.high (time_of r.key)) ((ltb 0 (length last) || pointwise nat_eq r.key e.first) && (ltb 0 left || pointwise nat_eq r.key e.last)) a.1 in
    let c = and_parts (ltb 0 (length last) || pointwise nat_eq r.key e.first) (ltb 0 left || pointwise nat_eq r.key e.last) b.1 in
    record { first = one_of (length last) r.key e.first c.0; final = one_of left r.key e.last c.1 }

pub first_is : (t : Totals) (e : Entry) (recs : List Record) → 0 < length recs → AllSuit t e [] recs → first_key recs ≡ e.first
first_is t e [] some h = absurd (omega (arith, some))
first_is t e (r ∷ recs) some h = (suited t e (length recs) [] r h.0).first refl

pub last_is : (t : Totals) (e : Entry) (last : List ℕ) (recs : List Record) → 0 < length recs → AllSuit t e last recs → last_key last recs ≡ e.last
last_is t e last [] some h = absurd (omega (arith, some))
last_is t e last (r ∷ []) some h = (suited t e 0 last r h.0).final refl
last_is t e last (r ∷ (s ∷ recs)) some h = last_is t e r.key (s ∷ recs) (omega arith) h.1

pub last_of_some : (last before : List ℕ) (recs : List Record) → 0 < length recs → last_key last recs ≡ last_key before recs
last_of_some last before [] some = absurd (omega (arith, some))
last_of_some last before (r ∷ recs) some = refl

pub rises_from : (last : List ℕ) (recs : List Record) → Rises [] recs → is_less last (first_key recs) ≡ true → Rises last recs
rises_from last [] rising above = tt
rises_from last (r ∷ recs) rising above = (above, rising.1)

-- ---- the first law

pub moved_ok : {A : Type 0} (start : ℕ) (r : Result A ℕ) (x : A) → moved start r ≡ Ok x → r ≡ Ok x
moved_ok start (Ok y) x e = e
moved_ok start (Err at) x e = absurd cc

pub end_later : (start : ℕ) (es : List Entry) → start ≤ end_of start es
end_later start [] = omega arith
end_later start (e ∷ es) = omega (arith, end_later (start + e.len) es)

abbrev made : (offset len count : ℕ) → (first last : List ℕ) → Entry
made offset len count first last = record { offset = offset; len = len; count = count; first = first; last = last }

pub entry_same : (o p l m c d : ℕ) (f g k j : List ℕ) → o ≡ p → l ≡ m → c ≡ d → f ≡ g → k ≡ j → made o l c f k ≡ made p m d g j
entry_same o p l m c d f g k j a b x y z =
    ap (λ (n : ℕ). made n l c f k) a ∙ (ap (λ (n : ℕ). made p n c f k) b ∙ (ap (λ (n : ℕ). made p m n f k) x ∙ (ap (λ (n : List ℕ). made p m d n k) y ∙ ap (λ (n : List ℕ). made p m d g n) z)))

pub record BlocksFound (start : ℕ) (last : List ℕ) (es : List Entry) (bytes : List ℕ) (blocks : List (List Record)) : Type 0 where
  pub parts : bytes ≡ blocks_spelled blocks ++ drop (end_of start es - start) bytes
  pub entries : es ≡ entries_of start blocks
  pub each : AllByRecursion IsBlock blocks
  pub rising : Rises last (joined blocks)

abbrev with_first : List Record → List (List Record) → Result (List (List Record)) ℕ
with_first recs others = Ok (recs ∷ others)

abbrev from_first : Totals → List Entry → List ℕ → List Record → Result (List (List Record)) ℕ
from_first t es rest recs = blocks_at t es rest >>= with_first recs

pub blocks_take : (t : Totals) (index start : ℕ) (last : List ℕ) (es : List Entry) (bytes : List ℕ) (blocks : List (List Record)) → IsBytes bytes → IsEntries index start last es → end_of start es ≤ start + length bytes → blocks_at t es bytes ≡ Ok blocks → BlocksFound start last es bytes blocks
unfolding blocks_at
blocks_take t index start last [] bytes blocks fits h room q =
    subst (BlocksFound start last [] bytes) (ok_is [] blocks q) (record { parts = ap (λ (n : ℕ). drop n bytes) (the_zero start); entries = refl; each = tt; rising = tt })
  where
    the_zero : (n : ℕ) → 0 ≡ n - n
    the_zero n = omega arith
blocks_take t index start last (e ∷ es) bytes blocks fits h room q =
    let later = end_later (start + e.len) es in
    let a = bind_ok (moved e.offset (own_block_at t e (take e.len bytes))) (from_first t es (drop e.len bytes)) blocks q in
    let own = own_block_takes t e (take e.len bytes) a.0 (IsBytes-take e.len bytes fits) (omega (arith, length-take e.len bytes, h.0.short_enough)) h.0.some (moved_ok e.offset (own_block_at t e (take e.len bytes)) a.0 a.1) in
    let b = bind_ok (blocks_at t es (drop e.len bytes)) (with_first a.0) blocks a.2 in
    let rest = blocks_take t index (start + e.len) e.last es (drop e.len bytes) b.0 (IsBytes-drop e.len bytes fits) h.1 (omega (arith, room, length-drop e.len bytes, later)) b.1 in
    let len : length (spelling a.0) ≡ e.len = omega (arith, ap length own.spelled_so, length-take e.len bytes, room, later) in
    let first = first_is t e a.0 own.block.some own.suit in
    let final = last_is t e [] a.0 own.block.some own.suit in
    let above : Rises last a.0 = rises_from last a.0 own.block.rising (ap (is_less last) first ∙ h.0.above) in
    let final_of : last_key last a.0 ≡ e.last = last_of_some last [] a.0 own.block.some ∙ final in
    let there : drop (end_of (start + e.len) es - (start + e.len)) (drop e.len bytes) ≡ drop (end_of (start + e.len) es - start) bytes =
    drop-drop (end_of (start + e.len) es - (start + e.len)) e.len bytes ∙ ap (λ (n : ℕ). drop n bytes) (the_sum start e.len (end_of (start + e.len) es) later) in
    subst (BlocksFound start last (e ∷ es) bytes) (ok_is (a.0 ∷ b.0) blocks b.2)
    (record {
      parts = sym (take-append-drop e.len bytes)
          ∙ (ap (λ (x : List ℕ). x ++ drop e.len bytes) own.spelled_so
          ∙ (ap (λ (x : List ℕ). spelling a.0 ++ x) (rest.parts ∙ ap (λ (x : List ℕ). blocks_spelled b.0 ++ x) there)
          ∙ sym (append_assoc (spelling a.0) (blocks_spelled b.0) (drop (end_of (start + e.len) es - start) bytes))));
      entries = ap (λ (x : Entry). x ∷ es) (entry_same e.offset start e.len (length (spelling a.0)) e.count (length a.0) e.first (first_key a.0) e.last (last_key [] a.0) h.0.placed (sym len) own.count (sym first) (sym final))
          ∙ ap (λ (x : List Entry). entry_of start a.0 ∷ x) (rest.entries ∙ ap (λ (n : ℕ). entries_of (start + n) b.0) (sym len));
      each = (own.block, rest.each);
      rising = rises_join last a.0 (joined b.0) above (subst (λ (k : List ℕ). Rises k (joined b.0)) (sym final_of) rest.rising);
    })
  where
    the_sum : (s l n : ℕ) → s + l ≤ n → l + (n - (s + l)) ≡ n - s
    the_sum s l n le = omega (arith, le)

-- ---- the second law

suits_from : (t : Totals) (e : Entry) (left : ℕ) (last : List ℕ) (r : Record) → IsRecord r → Within t r → ((0 < length last) ⊎ (r.key ≡ e.first)) → ((0 < left) ⊎ (r.key ≡ e.last)) → suits t e left last r ≡ true
suits_from t e left last r lawful within first final =
    let timed : is_within t.low t.high (time_of r.key) ≡ true = ap (is_within t.low t.high) (time_is r lawful) ∙ within.timed in
    and_from (is_within t.first t.last r.seq) (suits_key t e left last r.key) within.numbered
    (and_from (is_within t.low t.high (time_of r.key)) ((ltb 0 (length last) || pointwise nat_eq r.key e.first) && (ltb 0 left || pointwise nat_eq r.key e.last)) timed
    (and_from (ltb 0 (length last) || pointwise nat_eq r.key e.first) (ltb 0 left || pointwise nat_eq r.key e.last) (either (length last) e.first first) (either left e.last final)))
  where
    either : (n : ℕ) (key : List ℕ) → ((0 < n) ⊎ (r.key ≡ key)) → (ltb 0 n || pointwise nat_eq r.key key) ≡ true
    either n key (inl some) = or_left (ltb 0 n) (pointwise nat_eq r.key key) (lt-ltb 0 n some)
    either n key (inr same) = or_right (ltb 0 n) (pointwise nat_eq r.key key) (bytes_same_by r.key key same)

pub all_suit : (t : Totals) (e : Entry) (last : List ℕ) (recs : List Record) → AllByRecursion IsRecord recs → AllByRecursion (Within t) recs → ((0 < length last) ⊎ (first_key recs ≡ e.first)) → last_key last recs ≡ e.last → AllSuit t e last recs
all_suit t e last [] lawful within first final = tt
all_suit t e last (r ∷ []) lawful within first final = (suits_from t e 0 last r lawful.0 within.0 first (inr final), tt)
all_suit t e last (r ∷ (s ∷ recs)) lawful within first final =
    (suits_from t e (suc (length recs)) last r lawful.0 within.0 first (inl (omega arith)), all_suit t e r.key (s ∷ recs) lawful.1 within.1 (inl (omega (arith, lawful.0.long_enough))) final)

pub few_records : (recs : List Record) → IsBlock recs → length recs < 2 ^ 32
few_records recs h = omega (arith, h.small, all_len recs, length-append (to_be_bytes w32 (length recs)) (flat_map spelled recs))

pub blocks_again : (t : Totals) (start : ℕ) (blocks : List (List Record)) (rest : List ℕ) → AllByRecursion IsBlock blocks → AllByRecursion (Within t) (joined blocks) → blocks_at t (entries_of start blocks) (blocks_spelled blocks ++ rest) ≡ Ok blocks
unfolding blocks_at
blocks_again t start [] rest each within = refl
blocks_again t start (recs ∷ blocks) rest each within =
    let e : Entry = entry_of start recs in
    let behind : List ℕ = blocks_spelled blocks ++ rest in
    let split = all_split (Within t) recs (joined blocks) within in
    let own : own_block_at t (entry_of start recs) (take (length (spelling recs)) (spelling recs ++ (blocks_spelled blocks ++ rest))) ≡ Ok recs =
    ap (own_block_at t (entry_of start recs)) (take_at (spelling recs) (blocks_spelled blocks ++ rest) (length (spelling recs)) refl)
    ∙ own_block_again t (entry_of start recs) recs each.0 refl (few_records recs each.0) (all_suit t (entry_of start recs) [] recs each.0.lawful split.0 (inr refl) refl) in
    let next : blocks_at t (entries_of (start + length (spelling recs)) blocks) (drop (length (spelling recs)) (spelling recs ++ (blocks_spelled blocks ++ rest))) ≡ Ok blocks =
    ap (blocks_at t (entries_of (start + length (spelling recs)) blocks)) (drop_at (spelling recs) (blocks_spelled blocks ++ rest) (length (spelling recs)) refl)
    ∙ blocks_again t (start + length (spelling recs)) blocks rest each.1 split.1 in
    ap (blocks_at t (entries_of start (recs ∷ blocks))) (append_assoc (spelling recs) (blocks_spelled blocks) rest)
    ∙ (ap (λ (q : Result (List Record) ℕ). moved start q >>= from_first t (entries_of (start + length (spelling recs)) blocks) (drop (length (spelling recs)) (spelling recs ++ (blocks_spelled blocks ++ rest)))) own
    ∙ ap (λ (q : Result (List (List Record)) ℕ). q >>= with_first recs) next)

-- ---- entries of blocks

pub length_entries : (start : ℕ) (blocks : List (List Record)) → length (entries_of start blocks) ≡ length blocks
length_entries start [] = refl
length_entries start (recs ∷ blocks) = ap suc (length_entries (start + length (spelling recs)) blocks)

pub end_of_blocks : (start : ℕ) (blocks : List (List Record)) → end_of start (entries_of start blocks) ≡ start + length (blocks_spelled blocks)
end_of_blocks start [] = omega arith
end_of_blocks start (recs ∷ blocks) = omega (arith, end_of_blocks (start + length (spelling recs)) blocks, length-append (spelling recs) (blocks_spelled blocks))

pub block_len : (recs : List Record) → IsBlock recs → 32 ≤ length (spelling recs)
block_len [] h = absurd (omega (arith, h.some))
block_len (r ∷ recs) h = omega (arith, h.lawful.0.long_enough, length-append (to_be_bytes w32 (length (r ∷ recs))) (flat_map spelled (r ∷ recs)), length-append (spelled r) (flat_map spelled recs), spelled_len r)

last_is_key : (key : List ℕ) (recs : List Record) → IsKey key → AllByRecursion IsRecord recs → IsKey (last_key key recs)
last_is_key key [] h lawful = h
last_is_key key (r ∷ recs) h lawful = last_is_key r.key recs (record { long_enough = lawful.0.long_enough; short_enough = lawful.0.short_enough }) lawful.1

entry_is : (index start : ℕ) (last : List ℕ) (recs : List Record) (left : ℕ) → IsBlock recs → Rises last recs → (left ≡ 0 → start + length (spelling recs) ≡ index) → IsEntry index left start last (entry_of start recs)
entry_is index start last [] left h rising there = absurd (omega (arith, h.some))
entry_is index start last (r ∷ recs) left h rising there =
    let key : IsKey r.key = record { long_enough = h.lawful.0.long_enough; short_enough = h.lawful.0.short_enough } in
    record {
      placed = refl;
      long_enough = block_len (r ∷ recs) h;
      short_enough = h.small;
      ends = there;
      some = h.some;
      above = rising.0;
      ordered = last_not_below r.key recs rising.1;
      first = key;
      final = last_is_key r.key recs key h.lawful.1;
    }

pub entries_are : (index start : ℕ) (last : List ℕ) (blocks : List (List Record)) → AllByRecursion IsBlock blocks → Rises last (joined blocks) → start + length (blocks_spelled blocks) ≡ index → IsEntries index start last (entries_of start blocks)
entries_are index start last [] each rising there = tt
entries_are index start last (recs ∷ blocks) each rising there =
    let split = rises_split last recs (joined blocks) rising in
    let final : last_key last recs ≡ last_key [] recs = last_of_some last [] recs each.0.some in
    let len = length-append (spelling recs) (blocks_spelled blocks) in (
      entry_is index start last recs (length (entries_of (start + length (spelling recs)) blocks)) each.0 split.0 (λ none. at_end blocks (omega (arith, length_entries (start + length (spelling recs)) blocks, none)) there),
      entries_are index (start + length (spelling recs)) (last_key [] recs) blocks each.1 (subst (λ (k : List ℕ). Rises k (joined blocks)) final split.1) (omega (arith, there, len)),
    )
  where
    at_end : (bs : List (List Record)) → length bs ≡ 0 → start + length (spelling recs ++ blocks_spelled bs) ≡ index → start + length (spelling recs) ≡ index
    at_end [] none there = omega (arith, there, length-append (spelling recs) (blocks_spelled []))
    at_end (b ∷ bs) none there = absurd (omega (arith, none))

pub entries_small : (start : ℕ) (blocks : List (List Record)) → AllByRecursion IsBlock blocks → start + length (blocks_spelled blocks) < 2 ^ 64 → AreSmall (entries_of start blocks)
entries_small start [] each small = tt
entries_small start (recs ∷ blocks) each small =
    let len = length-append (spelling recs) (blocks_spelled blocks) in
    ((omega (arith, small), few_records recs each.0), entries_small (start + length (spelling recs)) blocks each.1 (omega (arith, small, len)))
