-- A record more in a block that fills, and its end.
use Rattle.std.proofs.Common.{◌≡◌, ℕ, ◌+◌, ◌<◌, ◌≤◌, true, List, [], ◌∷◌, ◌++◌, length, drop, refl, sym, ap, subst, ◌∙◌, append_assoc, arith}
use Rattle.std.specs.List.{flat_map, AllByRecursion}
use Rattle.std.specs.Int.{w32, to_be_bytes}
use Rattle.std.proofs.lemmas.List.{append-nil, length-append, length-drop, length_push}
use Rattle.lt_rec.specs.Bytes.{is_less}
use Rattle.lt_rec.specs.Record.{Record, IsRecord, spelled, stored_len}
use Rattle.lt_rec.proofs.Stored.{spelled_len}
use Rattle.lt_block.specs.Spelling.{spelling, Rises, IsBlock, last_key}
use Rattle.lt_block.specs.Reading.{records_at}
use Rattle.lt_block.specs.Filling.{first_or_none, held, Holds}
use Rattle.lt_block.proofs.Records.{records_again}
use Rattle.lt_block.proofs.Blocks.{all_len}

rises_push : (last : List ℕ) (recs : List Record) (r : Record) → Rises last recs → is_less (last_key last recs) r.key ≡ true → Rises last (recs ++ r ∷ [])
rises_push last [] r rising above = (above, tt)
rises_push last (x ∷ recs) r rising above = (rising.0, rises_push x.key recs r rising.1 above)

lawful_push : (recs : List Record) (r : Record) → AllByRecursion IsRecord recs → IsRecord r → AllByRecursion IsRecord (recs ++ r ∷ [])
lawful_push [] r lawful h = (h, tt)
lawful_push (x ∷ recs) r lawful h = (lawful.0, lawful_push recs r lawful.1 h)

flat_push : (recs : List Record) (r : Record) → flat_map spelled (recs ++ r ∷ []) ≡ flat_map spelled recs ++ spelled r
flat_push [] r = append-nil (spelled r)
flat_push (x ∷ recs) r = ap (λ (t : List ℕ). spelled x ++ t) (flat_push recs r) ∙ sym (append_assoc (spelled x) (flat_map spelled recs) (spelled r))

-- how long the block is with a record more
pub longer : (count : ℕ) (bytes : List ℕ) (recs : List Record) (r : Record) → Holds count bytes recs → length (spelling (recs ++ r ∷ [])) ≡ 4 + length (drop 4 bytes) + stored_len r
longer count bytes recs r h =
    omega (arith, ap length (flat_push recs r), length-append (flat_map spelled recs) (spelled r), spelled_len r, ap length h.spelling_is, length-append (to_be_bytes w32 (length (recs ++ r ∷ []))) (flat_map spelled (recs ++ r ∷ [])))

pub pushed : (count : ℕ) (old new : List ℕ) (recs : List Record) (r : Record) → Holds count old recs → IsRecord r → is_less (last_key [] recs) r.key ≡ true → drop 4 new ≡ drop 4 old ++ spelled r → (0 < length new → 4 ≤ length new) → 4 + length (drop 4 old) + stored_len r ≤ 65536 → Holds (count + 1) new (recs ++ r ∷ [])
pushed count old new recs r h lawful above e started short = record {
  counted = omega (arith, h.counted, length_push recs r);
  lawful = lawful_push recs r h.lawful lawful;
  rising = rises_push [] recs r h.rising above;
  spelling_is = e ∙ (ap (λ (t : List ℕ). t ++ spelled r) h.spelling_is ∙ sym (flat_push recs r));
  started = started;
  small = omega (arith, longer count old recs r h, short);
}

-- what is held is what is read
pub held_is : (count : ℕ) (bytes : List ℕ) (recs : List Record) → Holds count bytes recs → held count bytes ≡ recs
held_is count bytes recs h =
    ap (λ (n : ℕ). first_or_none (records_at n 4 [] (drop 4 bytes))) h.counted
    ∙ (ap (λ (t : List ℕ). first_or_none (records_at (length recs) 4 [] t)) (h.spelling_is ∙ sym (append-nil (flat_map spelled recs)))
    ∙ ap first_or_none (records_again 4 [] recs [] h.lawful h.rising))

pub Holds-again : (count : ℕ) (bytes : List ℕ) (recs : List Record) → Holds count bytes recs → Holds count bytes (held count bytes)
Holds-again count bytes recs h = subst (Holds count bytes) (sym (held_is count bytes recs h)) h

pub none_yet : (bytes : List ℕ) → length (drop 4 bytes) ≡ 0 → (0 < length bytes → 4 ≤ length bytes) → Holds 0 bytes []
none_yet bytes e started = record { counted = refl; lawful = tt; rising = tt; spelling_is = nil (drop 4 bytes) e; started = started; small = omega arith }
  where
    nil : (xs : List ℕ) → length xs ≡ 0 → xs ≡ []
    nil [] e = refl
    nil (x ∷ xs) e = absurd (omega (arith, e))

pub is_block : (count : ℕ) (bytes : List ℕ) (recs : List Record) → Holds count bytes recs → 0 < length recs → IsBlock recs
is_block count bytes recs h some = record { some = some; lawful = h.lawful; rising = h.rising; small = h.small }

pub long_enough : (count : ℕ) (bytes : List ℕ) (recs : List Record) → Holds count bytes recs → 0 < length recs → 4 ≤ length bytes
long_enough count bytes recs h some = omega (arith, length-drop 4 bytes, ap length h.spelling_is, all_len recs)

pub finished : (count : ℕ) (bytes : List ℕ) (recs : List Record) → Holds count bytes recs → to_be_bytes w32 count ++ drop 4 bytes ≡ spelling recs
finished count bytes recs h = ap (λ (n : ℕ). to_be_bytes w32 n ++ drop 4 bytes) h.counted ∙ ap (λ (t : List ℕ). to_be_bytes w32 (length recs) ++ t) h.spelling_is

pub few : (count : ℕ) (bytes : List ℕ) (recs : List Record) → Holds count bytes recs → count < 65536
few count bytes recs h = omega (arith, h.counted, h.small, all_len recs, length-append (to_be_bytes w32 (length recs)) (flat_map spelled recs))
