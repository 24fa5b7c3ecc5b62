-- What is read of a block in its tablet is what the block alone is read as, and meets what the tablet asks.
use Rattle.std.proofs.Common.{◌≡◌, ℕ, zero, suc, ◌+◌, ◌-◌, ◌^◌, ◌<◌, ◌≤◌, Bool, true, false, cond, eqb, ltb, leb, ◌&&◌, ◌||◌, List, [], ◌∷◌, ◌++◌, length, take, drop, Result, Ok, Err, refl, sym, ap, subst, ◌∙◌, append_assoc, arith}
use Rattle.std.specs.Prelude.{nat_eq}
use Rattle.std.specs.List.{flat_map, AllByRecursion}
use Rattle.std.specs.Int.{w32, w64, to_be_bytes, from_be_bytes}
use Rattle.std.proofs.lemmas.Bool.{lt-ltb, le-ltb, le-leb, eqb-true, eq-eqb, and_from}
use Rattle.std.proofs.lemmas.List.{length-append, take_at, append-nil}
use Rattle.lt_rec.specs.Bytes.{is_less}
use Rattle.lt_rec.specs.Record.{Record, IsRecord, stored_len, spelled}
use Rattle.lt_block.specs.Spelling.{spelling, Rises, IsBlock}
use Rattle.lt_rec.specs.Reading.{◌>>=◌, number_at, ended, asked, holds, is_within}
use Rattle.lt_block.specs.Reading.{is_key_len, record_at, records_at, count_at, block_at}
use Rattle.lt_rec.proofs.Reading.{IsBytes, bind_ok, ok_is, wide32, wide64, number_takes, number_again, asked_ok, asked_again, holds_ok, holds_again}
use Rattle.lt_rec.proofs.Stored.{spelled_len}
use Rattle.lt_block.proofs.Records.{record_takes, record_again, records_take}
use Rattle.lt_block.proofs.Blocks.{block_takes}
use Rattle.lt_layout.specs.Spelling.{Entry, Totals}
use Rattle.lt_layout.specs.Reading.{suits_key, suits_bytes, own_record_at, own_records_at, own_block_at}

-- what the tablet asks of a record that `left` others follow in its block
abbrev pub suits : Totals → Entry → ℕ → List ℕ → Record → Bool
suits t e left last r = is_within t.first t.last r.seq && suits_key t e left last r.key

suits_spelled : (t : Totals) (e : Entry) (left : ℕ) (last : List ℕ) (r : Record) (rest : List ℕ) → IsRecord r → suits_bytes t e left last (length r.key) (spelled r ++ rest) ≡ suits t e left last r
suits_spelled t e left last r rest h =
    let long : 20 + length r.key ≤ length (spelled r ++ rest) = omega (arith, length-append (spelled r) rest, spelled_len r) in
    let a : ltb (length (spelled r ++ rest)) 16 ≡ false = le-ltb _ _ (omega (arith, long)) in
    let b : ltb (length (spelled r ++ rest)) (20 + length r.key) ≡ false = le-ltb _ _ long in
    let number : from_be_bytes w64 (take 8 (drop 8 (spelled r ++ rest))) ≡ r.seq = wide64.again r.seq (omega (arith, h.numbered)) in
    let key : take (length r.key) (drop 20 (spelled r ++ rest)) ≡ r.key = ap (take (length r.key)) (append_assoc r.key r.body rest) ∙ take_at r.key (r.body ++ rest) (length r.key) refl in
    ap (λ (x : Bool). (x || is_within t.first t.last (from_be_bytes w64 (take 8 (drop 8 (spelled r ++ rest))))) && (ltb (length (spelled r ++ rest)) (20 + length r.key) || suits_key t e left last (take (length r.key) (drop 20 (spelled r ++ rest))))) a
    ∙ (ap (λ (x : Bool). is_within t.first t.last (from_be_bytes w64 (take 8 (drop 8 (spelled r ++ rest)))) && (x || suits_key t e left last (take (length r.key) (drop 20 (spelled r ++ rest))))) b
    ∙ (ap (λ (n : ℕ). is_within t.first t.last n && suits_key t e left last (take (length r.key) (drop 20 (spelled r ++ rest)))) number
    ∙ ap (λ (k : List ℕ). is_within t.first t.last r.seq && suits_key t e left last k) key))

abbrev from_len : Totals → Entry → (left at : ℕ) → (last bytes : List ℕ) → ℕ × List ℕ → Result (Record × List ℕ) ℕ
from_len t e left at last bytes n = holds (suits_bytes t e left last n.0 bytes) at >>= λ _. record_at at last bytes

number_spelled : (at : ℕ) (r : Record) (rest : List ℕ) → IsRecord r → (tail : List ℕ) × (number_at w32 at (spelled r ++ rest) ≡ Ok (length r.key, tail))
number_spelled at r rest h = (_, number_again w32 (2 ^ 32) wide32 at (length r.key) ((to_be_bytes w32 (length r.body) ++ (to_be_bytes w64 r.seq ++ (to_be_bytes w32 r.ver ++ (r.key ++ r.body)))) ++ rest) (omega (arith, h.short_enough)))

pub own_record_takes : (t : Totals) (e : Entry) (left at : ℕ) (last bytes : List ℕ) (x : Record × List ℕ) → IsBytes bytes → own_record_at t e left at last bytes ≡ Ok x → (record_at at last bytes ≡ Ok x) × (suits t e left last x.0 ≡ true)
unfolding own_record_at
own_record_takes t e left at last bytes x fits q =
    let a = bind_ok (asked is_key_len at (number_at w32 at bytes)) (from_len t e left at last bytes) x q in
    let b = asked_ok is_key_len at (number_at w32 at bytes) a.0 a.1 in
    let c = bind_ok (holds (suits_bytes t e left last a.0.0 bytes) at) (λ _. record_at at last bytes) x a.2 in
    let test : suits_bytes t e left last a.0.0 bytes ≡ true = holds_ok (suits_bytes t e left last a.0.0 bytes) at c.0 c.1 in
    let found = record_takes at last bytes x fits c.2 in
    let n = number_spelled at x.0 x.1 found.lawful in
    let len : a.0.0 ≡ length x.0.key = ap (λ (p : ℕ × List ℕ). p.0) (ok_is a.0 (length x.0.key, n.0) (sym b.0 ∙ (ap (number_at w32 at) found.takes.parts ∙ n.1))) in
    (c.2, sym (suits_spelled t e left last x.0 x.1 found.lawful) ∙ (ap (λ (bs : List ℕ). suits_bytes t e left last (length x.0.key) bs) (sym found.takes.parts) ∙ (ap (λ (k : ℕ). suits_bytes t e left last k bytes) (sym len) ∙ test)))

pub own_record_again : (t : Totals) (e : Entry) (left at : ℕ) (last : List ℕ) (r : Record) (rest : List ℕ) → IsRecord r → is_less last r.key ≡ true → suits t e left last r ≡ true → own_record_at t e left at last (spelled r ++ rest) ≡ Ok (r, rest)
unfolding own_record_at
own_record_again t e left at last r rest h above suited =
    let n = number_spelled at r rest h in
    let test : is_key_len (length r.key) ≡ true = and_from (leb 8 (length r.key)) (leb (length r.key) 4096) (le-leb _ _ h.long_enough) (le-leb _ _ h.short_enough) in
    ap (λ (q : Result (ℕ × List ℕ) ℕ). q >>= from_len t e left at last (spelled r ++ rest)) (asked_again is_key_len at (number_at w32 at (spelled r ++ rest)) (length r.key, n.0) n.1 test)
    ∙ (ap (λ (q : Result (Unit {0}) ℕ). q >>= λ _. record_at at last (spelled r ++ rest)) (holds_again (suits_bytes t e left last (length r.key) (spelled r ++ rest)) at (suits_spelled t e left last r rest h ∙ suited))
    ∙ record_again at last r rest h above)

-- a record that was read, and that suits
pub own_record_given : (t : Totals) (e : Entry) (left at : ℕ) (last bytes : List ℕ) (x : Record × List ℕ) → IsBytes bytes → record_at at last bytes ≡ Ok x → suits t e left last x.0 ≡ true → own_record_at t e left at last bytes ≡ Ok x
own_record_given t e left at last bytes x fits q suited =
    let found = record_takes at last bytes x fits q in
    ap (own_record_at t e left at last) found.takes.parts ∙ own_record_again t e left at last x.0 x.1 found.lawful found.above suited

-- ---- records one after the other

abbrev pub AllSuit : Totals → Entry → List ℕ → List Record → Type 0
AllSuit t e last [] = Unit {0}
AllSuit t e last (r ∷ recs) = (suits t e (length recs) last r ≡ true) × AllSuit t e r.key recs

pub own_records_take : (t : Totals) (e : Entry) (n at : ℕ) (last bytes : List ℕ) (x : List Record × List ℕ) → IsBytes bytes → own_records_at t e n at last bytes ≡ Ok x → (records_at n at last bytes ≡ Ok x) × AllSuit t e last x.0
unfolding own_records_at records_at
own_records_take t e zero at last bytes x fits q = (q, subst (λ (y : List Record × List ℕ). AllSuit t e last y.0) (ok_is ([], bytes) x q) tt)
own_records_take t e (suc n) at last bytes x fits q =
    let a = bind_ok (own_record_at t e n at last bytes) (λ first. own_records_at t e n (at + stored_len first.0) first.0.key first.1 >>= λ others. Ok (first.0 ∷ others.0, others.1)) x q in
    let b = bind_ok (own_records_at t e n (at + stored_len a.0.0) a.0.0.key a.0.1) (λ others. Ok (a.0.0 ∷ others.0, others.1)) x a.2 in
    let first = own_record_takes t e n at last bytes a.0 fits a.1 in
    let found = record_takes at last bytes a.0 fits first.0 in
    let second = own_records_take t e n (at + stored_len a.0.0) a.0.0.key a.0.1 b.0 found.takes.rest_fits b.1 in
    let all = records_take n (at + stored_len a.0.0) a.0.0.key a.0.1 b.0 found.takes.rest_fits second.0 in
    let read : records_at (suc n) at last bytes ≡ Ok (a.0.0 ∷ b.0.0, b.0.1) =
    ap (λ (z : Result (Record × List ℕ) ℕ). z >>= λ first. records_at n (at + stored_len first.0) first.0.key first.1 >>= λ others. Ok (first.0 ∷ others.0, others.1)) first.0
    ∙ ap (λ (z : Result (List Record × List ℕ) ℕ). z >>= λ others. Ok (a.0.0 ∷ others.0, others.1)) second.0 in
    let one : suits t e (length b.0.0) last a.0.0 ≡ true = ap (λ (m : ℕ). suits t e m last a.0.0) all.count ∙ first.1 in
    (read ∙ b.2, subst (λ (y : List Record × List ℕ). AllSuit t e last y.0) (ok_is (a.0.0 ∷ b.0.0, b.0.1) x b.2) (one, second.1))

pub own_records_again : (t : Totals) (e : Entry) (at : ℕ) (last : List ℕ) (recs : List Record) (rest : List ℕ) → AllByRecursion IsRecord recs → Rises last recs → AllSuit t e last recs → own_records_at t e (length recs) at last (flat_map spelled recs ++ rest) ≡ Ok (recs, rest)
unfolding own_records_at
own_records_again t e at last [] rest lawful rising suit = refl
own_records_again t e at last (r ∷ recs) rest lawful rising suit =
    ap (own_records_at t e (suc (length recs)) at last) (append_assoc (spelled r) (flat_map spelled recs) rest)
    ∙ (ap (λ (q : Result (Record × List ℕ) ℕ). q >>= λ first. own_records_at t e (length recs) (at + stored_len first.0) first.0.key first.1 >>= λ others. Ok (first.0 ∷ others.0, others.1)) (own_record_again t e (length recs) at last r (flat_map spelled recs ++ rest) lawful.0 rising.0 suit.0)
    ∙ ap (λ (q : Result (List Record × List ℕ) ℕ). q >>= λ others. Ok (r ∷ others.0, others.1)) (own_records_again t e (at + stored_len r) r.key recs rest lawful.1 rising.1 suit.1))

-- ---- a block

abbrev behind : (total : ℕ) → List Record × List ℕ → Result (List Record) ℕ
behind total x = ended total x

pub record OwnFound (t : Totals) (e : Entry) (bytes : List ℕ) (recs : List Record) : Type 0 where
  pub read : block_at bytes ≡ Ok recs
  pub block : IsBlock recs
  pub spelled_so : bytes ≡ spelling recs
  pub count : e.count ≡ length recs
  pub suit : AllSuit t e [] recs

pub own_block_takes : (t : Totals) (e : Entry) (bytes : List ℕ) (recs : List Record) → IsBytes bytes → length bytes ≤ 65536 → 0 < e.count → own_block_at t e bytes ≡ Ok recs → OwnFound t e bytes recs
unfolding own_block_at block_at count_at
own_block_takes t e bytes recs fits short some q =
    let a = bind_ok (asked (nat_eq e.count) 0 (number_at w32 0 bytes)) (λ count. own_records_at t e e.count 4 [] count.1 >>= λ x. ended (length bytes) x) recs q in
    let c = asked_ok (nat_eq e.count) 0 (number_at w32 0 bytes) a.0 a.1 in
    let n : e.count ≡ a.0.0 = eqb-true _ _ c.1 in
    let b = bind_ok (own_records_at t e e.count 4 [] a.0.1) (λ x. ended (length bytes) x) recs a.2 in
    let first = number_takes w32 (2 ^ 32) wide32 0 bytes a.0 fits c.0 in
    let own = own_records_take t e e.count 4 [] a.0.1 b.0 first.0.rest_fits b.1 in
    let all = records_take e.count 4 [] a.0.1 b.0 first.0.rest_fits own.0 in
    let counted : count_at bytes ≡ Ok a.0 =
    ap (λ (z : Result (ℕ × List ℕ) ℕ). z >>= λ m. cond (ltb 0 m.0) (Ok m) (Err 0)) c.0 ∙ ap (λ (t : Bool). cond t (Ok a.0) (Err 0)) (lt-ltb 0 a.0.0 (omega (arith, n, some))) in
    let read : block_at bytes ≡ Ok recs =
    ap (λ (t : Bool). cond t (Err 65536) (count_at bytes >>= λ count. records_at count.0 4 [] count.1 >>= λ x. ended (length bytes) x)) (le-ltb 65536 (length bytes) short)
    ∙ (ap (λ (z : Result (ℕ × List ℕ) ℕ). z >>= λ count. records_at count.0 4 [] count.1 >>= λ x. ended (length bytes) x) counted
    ∙ (ap (λ (z : ℕ). records_at z 4 [] a.0.1 >>= λ x. ended (length bytes) x) (sym n)
    ∙ (ap (λ (z : Result (List Record × List ℕ) ℕ). z >>= λ x. ended (length bytes) x) own.0 ∙ b.2))) in
    let law = block_takes bytes recs fits read in
    let same : b.0.0 ≡ recs = ended_is (length bytes) b.0 recs b.2 in
    record { read = read; block = law.0; spelled_so = law.1; count = sym (ap length (sym same) ∙ all.count); suit = subst (AllSuit t e []) same own.1 }
  where
    ended_is : (total : ℕ) (x : List Record × List ℕ) (recs : List Record) → ended total x ≡ Ok recs → x.0 ≡ recs
    ended_is total x recs h = picked (eqb (length x.1) 0) x.0 recs h
      where
        picked : (b : Bool) (p q : List Record) → cond b (Ok p) (Err (total - length x.1)) ≡ Ok q → p ≡ q
        picked true p q h = cc
        picked false p q h = absurd cc

pub own_block_again : (t : Totals) (e : Entry) (recs : List Record) → IsBlock recs → e.count ≡ length recs → e.count < 2 ^ 32 → AllSuit t e [] recs → own_block_at t e (spelling recs) ≡ Ok recs
unfolding own_block_at
own_block_again t e recs h same small suit =
    let rest : List ℕ = flat_map spelled recs in
    let count : number_at w32 0 (spelling recs) ≡ Ok (length recs, flat_map spelled recs) = number_again w32 (2 ^ 32) wide32 0 (length recs) (flat_map spelled recs) (omega (arith, same, small)) in
    let read : own_records_at t e e.count 4 [] (flat_map spelled recs) ≡ Ok (recs, []) =
    ap (λ (n : ℕ). own_records_at t e n 4 [] (flat_map spelled recs)) same ∙ (ap (own_records_at t e (length recs) 4 []) (sym (append-nil (flat_map spelled recs))) ∙ own_records_again t e 4 [] recs [] h.lawful h.rising suit) in
    ap (λ (q : Result (ℕ × List ℕ) ℕ). q >>= λ c. own_records_at t e e.count 4 [] c.1 >>= λ x. ended (length (spelling recs)) x) (asked_again (nat_eq e.count) 0 (number_at w32 0 (spelling recs)) (length recs, flat_map spelled recs) count (eq-eqb _ _ same))
    ∙ ap (λ (q : Result (List Record × List ℕ) ℕ). q >>= λ x. ended (length (spelling recs)) x) read
