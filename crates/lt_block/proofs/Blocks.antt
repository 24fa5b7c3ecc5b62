-- The two laws of blocks, and where their records lie.
use Rattle.std.proofs.Common.{◌≡◌, ℕ, zero, suc, ◌+◌, ◌-◌, ◌*◌, ◌^◌, ◌<◌, ◌≤◌, Bool, true, false, cond, eqb, ltb, List, [], ◌∷◌, ◌++◌, length, get_or, drop, Result, Ok, Err, refl, sym, ap, subst, ◌∙◌, append_assoc, arith}
use Rattle.std.specs.List.{flat_map, AllByRecursion}
use Rattle.std.specs.Prelude.{IfOk, IfErr}
use Rattle.std.specs.Global.{Vec}
use Rattle.std.specs.Int.{w32, to_be_bytes}
use Rattle.std.proofs.lemmas.Bool.{ltb-false, ltb-true, le-ltb, lt-ltb, eqb-true}
use Rattle.std.proofs.lemmas.List.{append-nil, length-append, length-drop, drop_at}
use Rattle.lt_rec.specs.Record.{Record, IsRecord, spelled, stored_len}
use Rattle.lt_rec.specs.declared.fault.FormatError.{FormatError}
use Rattle.lt_rec.specs.declared.fault.FormatError.TheVariants as errors
use Rattle.lt_block.specs.Spelling.{spelling, IsBlock, places}
use Rattle.lt_rec.specs.Reading.{◌>>=◌, Fails, Gives, number_at, ended}
use Rattle.lt_block.specs.Reading.{count_at, records_at, block_at, places_at, ok_or_none, records_in, IsRead}
use Rattle.lt_rec.proofs.Reading.{IsBytes, bind_ok, guard_yes, ok_is, Takes, Takes-then, wide32, number_takes, number_again}
use Rattle.lt_rec.proofs.Stored.{spelled_len}
use Rattle.lt_block.proofs.Records.{records_take, records_again}
use Rattle.lt_block.proofs.Loop.{err_is}

count_takes : (bytes : List ℕ) (x : ℕ × List ℕ) → IsBytes bytes → count_at bytes ≡ Ok x → Takes bytes (to_be_bytes w32 x.0) x.1 × (0 < x.0)
unfolding count_at
count_takes bytes x fits e =
    let a = bind_ok (number_at w32 0 bytes) (λ n. cond (ltb 0 n.0) (Ok n) (Err 0)) x e in
    let g = guard_yes (ltb 0 a.0.0) 0 a.0 x a.2 in
    let t = number_takes w32 (2 ^ 32) wide32 0 bytes a.0 fits a.1 in
    subst (λ (p : ℕ × List ℕ). Takes bytes (to_be_bytes w32 p.0) p.1 × (0 < p.0)) g.1 (t.0, ltb-true _ _ g.0)

count_again : (n : ℕ) (rest : List ℕ) → 0 < n → n < 2 ^ 32 → count_at (to_be_bytes w32 n ++ rest) ≡ Ok (n, rest)
unfolding count_at
count_again n rest some small =
    let test : ltb 0 n ≡ true = lt-ltb _ _ some in
    rw (number_again w32 (2 ^ 32) wide32 0 n rest small, test) refl

nothing_left : (left : List ℕ) → length left ≡ 0 → left ≡ []
nothing_left [] e = refl
nothing_left (x ∷ left) e = absurd (omega (arith, e))

short_if : {A : Type 0} (b : Bool) (r : Result A ℕ) (x : A) → cond b (Err 65536) r ≡ Ok x → (b ≡ false) × (r ≡ Ok x)
short_if true r x e = absurd cc
short_if false r x e = (refl, e)

pub block_takes : (bytes : List ℕ) (recs : List Record) → IsBytes bytes → block_at bytes ≡ Ok recs → IsBlock recs × (bytes ≡ spelling recs)
unfolding block_at
block_takes bytes recs fits e =
    let s = short_if (ltb 65536 (length bytes)) (count_at bytes >>= λ count. records_at count.0 4 [] count.1 >>= λ x. ended (length bytes) x) recs e in
    let a = bind_ok (count_at bytes) (λ count. records_at count.0 4 [] count.1 >>= λ x. ended (length bytes) x) recs s.1 in
    let b = bind_ok (records_at a.0.0 4 [] a.0.1) (λ x. ended (length bytes) x) recs a.2 in
    let g = guard_yes (eqb (length b.0.1) 0) (length bytes - length b.0.1) b.0.0 recs b.2 in
    let first = count_takes bytes a.0 fits a.1 in
    let second = records_take a.0.0 4 [] a.0.1 b.0 first.0.rest_fits b.1 in
    let none : b.0.1 ≡ [] = nothing_left b.0.1 (eqb-true _ _ g.0) in
    let both = (Takes-then bytes (to_be_bytes w32 a.0.0) a.0.1 (flat_map spelled b.0.0) b.0.1 first.0 second.takes).parts in
    let whole : bytes ≡ spelling b.0.0 =
    both ∙ (ap (λ (r : List ℕ). (to_be_bytes w32 a.0.0 ++ flat_map spelled b.0.0) ++ r) none ∙ (append-nil (to_be_bytes w32 a.0.0 ++ flat_map spelled b.0.0) ∙ ap (λ (k : ℕ). to_be_bytes w32 k ++ flat_map spelled b.0.0) (sym second.count))) in
    let short : length bytes ≤ 65536 = ltb-false _ _ s.0 in
    let block : IsBlock b.0.0 = record {
      some = omega (arith, second.count, first.1);
      lawful = second.lawful;
      rising = second.rising;
      small = omega (arith, short, ap length whole);
    } in
    subst (λ (v : List Record). IsBlock v × (bytes ≡ spelling v)) g.1 (block, whole)

pub all_len : (recs : List Record) → 20 * length recs ≤ length (flat_map spelled recs)
all_len [] = omega arith
all_len (r ∷ recs) = omega (arith, length-append (spelled r) (flat_map spelled recs), spelled_len r, all_len recs)

pub block_again : (recs : List Record) → IsBlock recs → block_at (spelling recs) ≡ Ok recs
unfolding block_at
block_again recs h =
    let rest : List ℕ = flat_map spelled recs in
    let small : length recs < 2 ^ 32 = omega (arith, h.small, all_len recs, length-append (to_be_bytes w32 (length recs)) (flat_map spelled recs)) in
    let short : ltb 65536 (length (spelling recs)) ≡ false = le-ltb _ _ h.small in
    let read : records_at (length recs) 4 [] (flat_map spelled recs) ≡ Ok (recs, []) = ap (records_at (length recs) 4 []) (sym (append-nil (flat_map spelled recs))) ∙ records_again 4 [] recs [] h.lawful h.rising in
    ap (λ (b : Bool). cond b (Err 65536) (count_at (spelling recs) >>= λ count. records_at count.0 4 [] count.1 >>= λ x. ended (length (spelling recs)) x)) short
    ∙ (ap (λ (q : Result (ℕ × List ℕ) ℕ). q >>= λ count. records_at count.0 4 [] count.1 >>= λ x. ended (length (spelling recs)) x) (count_again (length recs) (flat_map spelled recs) h.some small)
    ∙ ap (λ (q : Result (List Record × List ℕ) ℕ). q >>= λ x. ended (length (spelling recs)) x) read)

-- ---- what the table of offsets tells

table_ok : (read : Result (List Record) ℕ) (offsets : List ℕ) → (read >>= λ recs. Ok (places 4 recs)) ≡ Ok offsets → (read ≡ Ok (ok_or_none read)) × (offsets ≡ places 4 (ok_or_none read))
table_ok (Ok recs) offsets e = (refl, sym (ok_is (places 4 recs) offsets e))
table_ok (Err at) offsets e = absurd cc

pub is_read : (bytes offsets : List ℕ) → IsBytes bytes → places_at bytes ≡ Ok offsets → IsRead bytes offsets
is_read bytes offsets fits e =
    let t = table_ok (block_at bytes) offsets e in
    let law = block_takes bytes (records_in bytes) fits t.0 in
    record { read = t.0; block = law.0; spelled = law.1; placed = t.1 }

pub table_err : (e : FormatError) (read : Result (List Record) ℕ) → Fails e (read >>= λ recs. Ok (places 4 recs)) → Fails e read
table_err errors.NoMemory read h = tt
table_err (errors.Bad at) (Ok recs) h = absurd cc
table_err (errors.Bad at) (Err f) h = err_is f at h

-- ---- the places of records

pub length_places : (at : ℕ) (recs : List Record) → length (places at recs) ≡ length recs
length_places at [] = refl
length_places at (r ∷ recs) = ap suc (length_places (at + stored_len r) recs)

pub at_place : (front : List ℕ) (at : ℕ) (recs : List Record) (i : ℕ) (d : Record) → length front ≡ at → i < length recs → drop (get_or (places at recs) i 0) (front ++ flat_map spelled recs) ≡ spelled (get_or recs i d) ++ flat_map spelled (drop (suc i) recs)
at_place front at [] i d len lt = absurd (omega arith)
at_place front at (r ∷ recs) zero d len lt = drop_at front (spelled r ++ flat_map spelled recs) at len
at_place front at (r ∷ recs) (suc i) d len lt =
    let next : length (front ++ spelled r) ≡ at + stored_len r = omega (arith, length-append front (spelled r), spelled_len r, len) in
    ap (drop (get_or (places (at + stored_len r) recs) i 0)) (sym (append_assoc front (spelled r) (flat_map spelled recs))) ∙ at_place (front ++ spelled r) (at + stored_len r) recs i d next (omega arith)

lawful_at : (recs : List Record) (i : ℕ) (d : Record) → i < length recs → AllByRecursion IsRecord recs → IsRecord (get_or recs i d)
lawful_at [] i d lt h = absurd (omega arith)
lawful_at (r ∷ recs) zero d lt h = h.0
lawful_at (r ∷ recs) (suc i) d lt h = lawful_at recs i d (omega arith) h.1

-- what lies at a record's place
pub record Lies (bytes : List ℕ) (recs : List Record) (at i : ℕ) (d : Record) : Type 0 where
  pub within : at ≤ length bytes
  pub lawful : IsRecord (get_or recs i d)
  pub begins : drop at bytes ≡ spelled (get_or recs i d) ++ flat_map spelled (drop (suc i) recs)

pub lies : (bytes offsets : List ℕ) (i : ℕ) (d : Record) → IsRead bytes offsets → i < length (records_in bytes) → Lies bytes (records_in bytes) (get_or offsets i 0) i d
lies bytes offsets i d h lt =
    let recs : List Record = records_in bytes in
    let law : IsRecord (get_or (records_in bytes) i d) = lawful_at (records_in bytes) i d lt h.block.lawful in
    let there : drop (get_or offsets i 0) bytes ≡ spelled (get_or (records_in bytes) i d) ++ flat_map spelled (drop (suc i) (records_in bytes)) =
    ap (λ (o : List ℕ). drop (get_or o i 0) bytes) h.placed ∙ (ap (drop (get_or (places 4 (records_in bytes)) i 0)) h.spelled ∙ at_place (to_be_bytes w32 (length (records_in bytes))) 4 (records_in bytes) i d refl lt) in
    record {
      within = omega (arith, length-drop (get_or offsets i 0) bytes, ap length there, length-append (spelled (get_or (records_in bytes) i d)) (flat_map spelled (drop (suc i) (records_in bytes))), spelled_len (get_or (records_in bytes) i d));
      lawful = law;
      begins = there;
    }

-- ---- what reading answers

pub table_reads : (bytes : List ℕ) (r : Result (Vec ℕ) FormatError) → IsBytes bytes → Gives (λ v. v.items) r (places_at bytes) → IfOk r (λ v. IsRead bytes v.items)
table_reads bytes (Ok v) fits given = is_read bytes v.items fits given
table_reads bytes (Err e) fits given = tt

pub table_fails : (bytes : List ℕ) (r : Result (Vec ℕ) FormatError) → Gives (λ v. v.items) r (places_at bytes) → IfErr r (λ e. Fails e (block_at bytes))
table_fails bytes (Ok v) given = tt
table_fails bytes (Err e) given = table_err e (block_at bytes) given

pub only_so : (bytes : List ℕ) (recs : List Record) (r : Result (List Record) FormatError) → Gives (λ b. b) r (block_at bytes) → IsBlock recs → bytes ≡ spelling recs → Gives (λ b. b) r (Ok recs)
only_so bytes recs r given h e = subst (Gives (λ b. b) r) (ap block_at e ∙ block_again recs h) given

-- ---- the table

pub table_len : (bytes offsets : List ℕ) → IsRead bytes offsets → length offsets ≡ length (records_in bytes)
table_len bytes offsets h = ap length h.placed ∙ length_places 4 (records_in bytes)
